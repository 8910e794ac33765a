-- Calls that are refused, and calls that write their records.
use Rattle.std.proofs.Common.{◌≡◌, ℕ, ◌+◌, ◌≤◌, ◌&&◌, Bool, [], ◌∷◌, ◌++◌, length, Some, None, Ok}
use Rattle.std.proofs.Common.{Err, Option, Result, sym, refl, subst, ap, ap₂, ◌∙◌, add-one, arith}
use Rattle.std.proofs.Math.Bool.{and-true}
use Rattle.std.specs.List.{list_all, range_with_len}
use Rattle.std.proofs.lemmas.List.{map-id}
use Rattle.std.proofs.lemmas.List.Folds.{list_all-append}
use Rattle.std.proofs.lemmas.List.FromFn.{map-range_with_len_more}
use Rattle.symbol.specs.declared.Frame.{Frame}
use Rattle.symbol.specs.declared.end.End.{End}
use Rattle.eventlog.specs.Format.{encode_all}
use Rattle.eventlog.specs.Sheet.{Logs, room}
use Rattle.eventlog.specs.declared.sheet.Sheet.{Sheet}
use Rattle.eventlog.proofs.Sheets.{wrote, wrote_nothing}
use Rattle.port.specs.Port.{Turn}
use Rattle.bank.specs.Bank.{BankCalls}
use Rattle.model.specs.declared.Refusal.{Refusal}
use Rattle.channel.specs.Calls.{idle}
use Rattle.model.specs.Chain.{Chain, all_idle, answer, call_bytes, collects_by, unless_refused}
use Rattle.chain.specs.declared.token.Token.{Token}
use Rattle.chain.specs.Calls.{Called, handed_over}

-- what an answer says of the refusal behind it

refused : (o : Option Refusal) (e : Refusal) → Err e ≡ answer o (tt {0}) → o ≡ Some e
refused o e is = grind arith

not_refused : (o : Option Refusal) → Ok (tt {0}) ≡ answer o (tt {0}) → o ≡ None
not_refused o is = grind arith

-- A call that its refusal decides, refused and not; `a` is its answer, by the refusal.
module _ {C R : Type 0} (c : C) (t : Turn C) (a : Option Refusal → R) (s : Sheet) (o : Option Refusal) where
  pub refused_call : (e : Refusal) (r : R) → Err e ≡ answer o (tt {0}) → r ≡ a (Some e)
      → Called (unless_refused o c t) (a o) s c s r
  refused_call e r is answers =
      let P : Option Refusal → Type 0 = λ x. Called (unless_refused x c t) (a x) s c s r in
      subst P (sym (refused o e is)) (record { state = refl; log = wrote_nothing s; answers = answers })

  pub made_call : (d : C) (u : Sheet) (r : R) → Ok (tt {0}) ≡ answer o (tt {0}) → length (encode_all t.events) ≤ room s
      → s.used ≤ length s.bytes.now → d ≡ t.state → Logs s t.events u → r ≡ a None
      → Called (unless_refused o c t) (a o) s d u r
  made_call d u r is left inside state log answers =
      let P : Option Refusal → Type 0 = λ x. Called (unless_refused x c t) (a x) s d u r in
      subst P (sym (not_refused o is))
      (record { state = state; log = wrote s u t.events inside left log; answers = answers })

-- The same of a collect that hands out a frame.
module _ {B : Type 0} (M : BankCalls B) (c : Chain B) (e : End) (s : Sheet) (q : Result Frame Refusal) where
  pub made_collect : (f : Frame) (d : Chain B) (u : Sheet) (r : Result Token Refusal) → Ok f ≡ q → call_bytes ≤ room s
      → d ≡ (collects_by M c e (Ok f)).state → Logs s (collects_by M c e (Ok f)).events u
      → r ≡ Ok (record { end = e; frame = f }) → Called (collects_by M c e q) (handed_over e q) s d u r
  made_collect f d u r is left state log answers =
      let P : Result Frame Refusal → Type 0 = λ y. Called (collects_by M c e y) (handed_over e y) s d u r in
      let inside : s.used ≤ length s.bytes.now = omega arith in
      subst P is
      (record { state = state; log = wrote s u (collects_by M c e (Ok f)).events inside left log; answers = answers })

-- whether all of some first channels are idle, asked one after another
pub all_idle_is : {B : Type 0} (M : BankCalls B) (b : B) (n : ℕ)
    → list_all (λ d. idle (M.known b d)) (range_with_len 0 n) ≡ all_idle M b n
all_idle_is M b ℕ.zero = refl
all_idle_is M b (ℕ.suc n) =
    let test : ℕ → Bool = λ d. idle (M.known b d) in
    let more : range_with_len 0 (n + 1) ≡ range_with_len 0 n ++ (n ∷ []) =
    sym (map-id (range_with_len 0 (n + 1))) ∙ map-range_with_len_more (λ x. x) 0 n n (omega arith)
    ∙ ap (λ xs. xs ++ (n ∷ [])) (map-id (range_with_len 0 n)) in
    ap (λ k. list_all test (range_with_len 0 k)) (sym (add-one n)) ∙ ap (list_all test) more
    ∙ list_all-append test (range_with_len 0 n) (n ∷ [])
    ∙ ap₂ (λ x y. x && y) (all_idle_is M b n) (and-true (test n))
