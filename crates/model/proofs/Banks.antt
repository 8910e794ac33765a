-- What a lawful bank does at any number, whether there is a channel or not.
use Rattle.std.proofs.Common.{◌≡◌, ℕ, ◌<◌, ◌≤◌, Bool, true, false, ◌≢◌, List, [], ◌∷◌, ◌++◌, length, sym}
use Rattle.std.proofs.Common.{refl, ap, ◌∙◌, subst}
use Rattle.std.proofs.Common.{⊎_elim}
use Rattle.std.proofs.lemmas.Bool.{cases_lt, cond_both, false≢true, true≢false}
use Rattle.ring.specs.Queue.{empty, tail}
use Rattle.symbol.specs.declared.Item.{Item}
use Rattle.symbol.specs.declared.Symbol.{Symbol}
use Rattle.channel.specs.Calls.{Aged, none, kept, lost, Known, received}
use Rattle.bank.specs.Bank.{BankCalls, LawfulBank, absent, count, channel_at}
use Rattle.model.specs.Chain.{sound, symbols}

pub symbols-snoc : (xs : List Item) (i : Item) → symbols (xs ++ (i ∷ [])) ≡ symbols xs ++ (i.symbol ∷ [])
symbols-snoc [] i = refl
symbols-snoc (x ∷ xs) i = ap {B = List Symbol} (λ z. x.symbol ∷ z) (symbols-snoc xs i)

pub aged_symbols : {xs ys : List Item} → Aged xs ys → symbols xs ≡ symbols ys
aged_symbols none = refl
aged_symbols (kept {i = i} a) = ap {B = List Symbol} (λ z. i.symbol ∷ z) (aged_symbols a)
aged_symbols (lost {i = i} a) = ap {B = List Symbol} (λ z. i.symbol ∷ z) (aged_symbols a)

-- the bank's calls and the laws of all its states
module _ {B : Type 0} (M : BankCalls B) (law : (b : B) → LawfulBank M b) where
  absent_items : (b : B) (d : ℕ) → count M b ≤ d → (M.known b d).items ≡ []
  absent_items b d h = ap (λ (k : Known). k.items) ((law b).beyond d h)

  -- where there is space, or an item is ready, there is a channel
  there : (b : B) (d : ℕ) (f : Known → Bool) → f absent ≡ false → f (M.known b d) ≡ true → d < count M b
  there b d f off on =
      ⊎_elim (λ (h : d < count M b). h)
      (λ (h : count M b ≤ d). absurd (false≢true (sym off ∙ sym (ap f ((law b).beyond d h)) ∙ on)))
      (cases_lt d (count M b))

  -- an accepted symbol goes last
  pub bank_put : (b : B) (d : ℕ) (s : Symbol) → (M.known b d).space ≡ true
      → symbols (M.known (M.put b d (sound s)) d).items ≡ symbols (M.known b d).items ++ (s ∷ [])
  bank_put b d s e =
      ap symbols (((law b).channels d (there b d (λ k. k.space) refl e)).put_last (sound s) e)
      ∙ symbols-snoc (M.known b d).items (received (channel_at M d) b (sound s))
      ∙ ap {B = List Symbol} (λ z. symbols (M.known b d).items ++ (z ∷ []))
      (cond_both (M.loses b d (sound s)) _ _ (λ (i : Item). i.symbol ≡ s) (λ z. refl) (λ z. refl))

  pub bank_put_off : (b : B) (d p : ℕ) (s : Symbol) → p ≢ d
      → symbols (M.known (M.put b d (sound s)) p).items ≡ symbols (M.known b p).items
  bank_put_off b d p s n = ap (λ (k : Known). symbols k.items) ((law b).put_others d p (sound s) n)

  pub bank_take_off : (b : B) (d p : ℕ) → p ≢ d
      → symbols (M.known (M.take b d) p).items ≡ symbols (M.known b p).items
  bank_take_off b d p n = ap (λ (k : Known). symbols k.items) ((law b).take_others d p n)

  -- a take hands out a ready first item, or changes nothing
  pub bank_take_none : (b : B) (d : ℕ) → (M.known b d).ready ≡ false → M.take b d ≡ b
  bank_take_none b d e =
      ⊎_elim (λ (h : d < count M b). ((law b).channels d h).take_none e)
      (λ (h : count M b ≤ d). (law b).take_beyond d h) (cases_lt d (count M b))

  pub bank_take : (b : B) (d : ℕ) (i : Item) (is : List Item) → (M.known b d).ready ≡ true
      → (M.known b d).items ≡ i ∷ is → (M.known (M.take b d) d).items ≡ is
  bank_take b d i is e f =
      ((law b).channels d (there b d (λ k. k.ready) refl e)).take_first e ∙ ap tail f

  pub bank_ready : (b : B) (d : ℕ) → (M.known b d).ready ≡ true → (M.known b d).items ≡ [] → ⊥
  bank_ready b d e f =
      true≢false (sym (ap empty f) ∙ ((law b).channels d (there b d (λ k. k.ready) refl e)).ready_some e)

  -- a step leaves the symbols where they are
  pub bank_step : (b : B) (d : ℕ) → symbols (M.known (M.step b) d).items ≡ symbols (M.known b d).items
  bank_step b d =
      ⊎_elim (λ (h : d < count M b). sym (aged_symbols ((law b).channels d h).step_items))
      (λ (h : count M b ≤ d). ap symbols
      (absent_items (M.step b) d (subst (λ (ls : List ℕ). length ls ≤ d) (sym (law b).step_letters) h))
      ∙ sym (ap symbols (absent_items b d h))) (cases_lt d (count M b))
