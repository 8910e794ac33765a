-- No figure of a run comes near the largest that its field holds: in a step each port takes one item and sends one
-- symbol at most.
use Rattle.std.proofs.Common.{◌≡◌, ℕ, zero, suc, ◌+◌, ◌*◌, ◌<◌, ◌≤◌, ◌≢◌, ⊎_elim, List, []}
use Rattle.std.proofs.Common.{◌∷◌, length, get_or, set, Some, None, Option, sym, refl, ap, ◌∙◌, subst, arith}
use Rattle.std.proofs.Common.{length-append, get_or-set_other}
use Rattle.std.proofs.lemmas.Bool.Decides.{nat_tests}
use Rattle.std.proofs.lemmas.Bool.{cases_eq, cases_lt, cond_both}
use Rattle.symbol.specs.declared.Item.{Item}
use Rattle.symbol.specs.declared.Note.{Note}
use Rattle.symbol.specs.declared.Symbol.{Symbol}
use Rattle.symbol.specs.declared.Symbol.TheVariants as symbol
use Rattle.channel.specs.Calls.{handed}
use Rattle.bank.specs.Bank.{BankCalls}
use Rattle.port.specs.Port.{Port, Turn, new_port, logged_in, received}
use Rattle.port.specs.Port.{after_send, unsent, sent_on, handed_out, released, injected_at}
use Rattle.port.specs.Port.{next_frame}
use Rattle.model.specs.Chain.{sent, Chain, behind, facing, port_of, with_port, with_bank, is_end, takes_item, takes}
use Rattle.model.specs.Chain.{drawn, sends_symbol, sends, each_port, ticked, stepped, last_tick, outbox_places, sound}
use Rattle.model.proofs.Links.{takes_still, sends_still, each_still}

-- the numbers of a port that has taken at most `took` items and sent at most `sent` symbols
pub record Within (took sent : ℕ) (s : Port) : Type 0 where
  pub buffers : s.buffers.all ≤ 32
  pub limit : s.credit.limit ≤ 32
  pub n : s.n ≤ 15
  pub injected : s.outbox.injected ≤ sent + length s.outbox.frames
  pub outbox : length s.outbox.frames ≤ outbox_places
  pub frames_lost : s.frames_in.lost ≤ took
  pub rrdys_lost : s.rrdys_in.lost ≤ took
  pub handed : s.buffers.handed + length s.buffers.waiting ≤ took

-- in a step each port takes at most one item and sends at most one symbol
pub record Bounded {B : Type 0} (c : Chain B) : Type 0 where
  pub links : c.links ≤ 8
  pub tick : c.tick ≤ last_tick
  pub ports : (p : ℕ) → Within c.tick c.tick (port_of c p)

pub later : {m n i j : ℕ} (s : Port) → m ≤ i → n ≤ j → Within m n s → Within i j s
later s z w h = omega (arith, z, w, h)

pub fresh_within : (m n a b k : ℕ) → a ≤ 32 → b ≤ 32 → k ≤ 15 → Within m n (logged_in a b k)
fresh_within m n a b k x y z = omega (arith, x, y, z)

pub new_port_within : (m n : ℕ) → Within m n new_port
new_port_within m n = fresh_within m n 1 1 0 (omega arith) (omega arith) (omega arith)

module _ (m n : ℕ) (s : Port) (h : Within m n s) where
  taken_later : Within (m + 1) n s
  taken_later = later s (omega arith) (omega arith) h

  received_within : (v : Note) (y : Symbol) → Within (m + 1) n (received s v y)
  received_within v y = grind (arith, nat_tests, h, length-append s.buffers.waiting)

  sent_within : (o : Option Symbol) → Within m n (after_send s o)
  sent_within o = grind (arith, h)

  unsent_within : Within m (n + 1) (unsent s)
  unsent_within = grind (arith, h)

  sent_on_within : Within m n (sent_on s)
  sent_on_within = grind (arith, h)

  pub handed_within : Within m n (handed_out s)
  handed_within = grind (arith, h)

  pub released_within : (k : ℕ) → Within m n (released s k)
  released_within k = grind (arith, nat_tests, h)

  pub injected_within : length s.outbox.frames < 32 → Within m n (injected_at s)
  injected_within z = omega (arith, h, z, length-append s.outbox.frames (next_frame s ∷ []))

-- a table with one port set
pub at_port : (P : Port → Type 0) (ps : List Port) (p q : ℕ) (s : Port) → (q ≡ p → P s) → P (get_or ps q new_port)
    → P (get_or (set ps p s) q new_port)
at_port P [] p q s h k = k
at_port P (x ∷ xs) zero zero s h k = h refl
at_port P (x ∷ xs) zero (suc q) s h k = k
at_port P (x ∷ xs) (suc p) zero s h k = k
at_port P (x ∷ xs) (suc p) (suc q) s h k = at_port P xs p q s (λ e. h (ap suc e)) k

-- a table with one port changed by g
own_change : (P Q : Port → Type 0) (g : Port → Port) → ((s : Port) → P s → Q (g s)) → ((s : Port) → P s → Q s)
    → (ps : List Port) (p q : ℕ)
    → P (get_or ps q new_port) → Q (get_or (set ps p (g (get_or ps p new_port))) q new_port)
own_change P Q g change stay ps p q h =
    at_port Q ps p q _ (λ e. change _ (subst (λ (v : ℕ). P (get_or ps v new_port)) e h)) (stay _ h)

module _ {B : Type 0} where
  pub with_within : (m n : ℕ) (c : Chain B) (p : ℕ) (s : Port) → Within m n s → ((q : ℕ) → Within m n (port_of c q))
      → (q : ℕ) → Within m n (port_of (with_port c p s) q)
  with_within m n c p s h k q = at_port (Within m n) c.ports p q s (λ e. h) (k q)

  other_port : (P : Port → Type 0) (c : Chain B) (p q : ℕ) (s : Port) → q ≢ p → P (port_of c q)
      → P (port_of (with_port c p s) q)
  other_port P c p q s d h = subst P (sym (get_or-set_other c.ports p q s new_port d)) h

-- each port below k in turn, by an act that takes its own port from P to Q and leaves the others as they are
module _ {B : Type 0} (P Q : Port → Type 0) (f : Chain B → ℕ → Turn (Chain B)) (weak : (s : Port) → P s → Q s)
    (own : (c : Chain B) (p : ℕ) → P (port_of c p) → Q (port_of (f c p).state p))
    (off-before : (c : Chain B) (p q : ℕ) → q ≢ p → P (port_of c q) → P (port_of (f c p).state q))
    (off-after : (c : Chain B) (p q : ℕ) → q ≢ p → Q (port_of c q) → Q (port_of (f c p).state q)) where
  each_turn : (c : Chain B) (k : ℕ) → ((q : ℕ) → P (port_of c q)) → (q : ℕ)
      → (q < k → Q (port_of (each_port f k c).state q)) × (k ≤ q → P (port_of (each_port f k c).state q))
  each_turn c zero h q = (λ z. absurd (omega arith), λ z. h q)
  each_turn c (suc k) h q =
      let r = each_turn c k h q in
      let d = (each_port f k c).state in
      ⊎_elim
      (λ (e : q ≡ k). (
        λ z. subst (λ (v : ℕ). Q (port_of (f d k).state v)) (sym e)
            (own d k (subst (λ (v : ℕ). P (port_of d v)) e (r.1 (omega (arith, e))))),
        λ z. absurd (omega (arith, e)),
      ))
      (λ (n : q ≢ k). (λ z. off-after d k q n (r.0 (omega (arith, n))), λ z. off-before d k q n (r.1 (omega arith))))
      (cases_eq q k)

  pub each_all : (c : Chain B) (k : ℕ) → ((q : ℕ) → P (port_of c q)) → (q : ℕ) → Q (port_of (each_port f k c).state q)
  each_all c k h q =
      ⊎_elim (λ (z : q < k). (each_turn c k h q).0 z)
      (λ (z : k ≤ q). weak (port_of (each_port f k c).state q) ((each_turn c k h q).1 z)) (cases_lt q k)

module _ {B : Type 0} (M : BankCalls B) where
  takes_own : (m n : ℕ) (c : Chain B) (p : ℕ) → Within m n (port_of c p)
      → Within (m + 1) n (port_of (takes M c p).state p)
  takes_own m n c p h = go (handed (M.known c.bank (facing p)))
    where
      go : (o : Option Item)
          → Within (m + 1) n (port_of (takes_item M (with_bank c (M.take c.bank (facing p))) p o).state p)
      go None = taken_later m n (port_of c p) h
      go (Some i) =
          own_change (Within m n) (Within (m + 1) n) (λ s. received s i.note i.symbol)
          (λ s z. received_within m n s z i.note i.symbol) (λ s z. taken_later m n s z) c.ports p p h

  takes_off : (P : Port → Type 0) (c : Chain B) (p q : ℕ) → q ≢ p → P (port_of c q) → P (port_of (takes M c p).state q)
  takes_off P c p q d h = go (handed (M.known c.bank (facing p)))
    where
      go : (o : Option Item) → P (port_of (takes_item M (with_bank c (M.take c.bank (facing p))) p o).state q)
      go None = h
      go (Some i) = other_port P c p q (received (port_of c p) i.note i.symbol) d h

  -- port p has sent o: no figure rises but that of its own outbox
  module _ (m n : ℕ) (c : Chain B) (p : ℕ) where
    after_within : (o : Option Symbol) (q : ℕ) → Within m n (port_of c q)
        → Within m n (port_of (with_port c p (after_send (port_of c p) o)) q)
    after_within o q h =
        own_change (Within m n) (Within m n) (λ s. after_send s o) (λ s z. sent_within m n s z o) (λ s z. z)
        c.ports p q h

    freed_within : (q : ℕ) → Within m n (port_of c q)
        → Within m n (port_of (with_port c (behind p) (sent_on (port_of c (behind p)))) q)
    freed_within q h =
        own_change (Within m n) (Within m n) sent_on (λ s z. sent_on_within m n s z) (λ s z. z) c.ports
        (behind p) q h

    drawn_own : (y : Symbol) → Within m n (port_of c p) → Within m (n + 1) (port_of (drawn M c p y) p)
    drawn_own (symbol.Frame k) h =
        cond_both (is_end c.links p) _ _ (λ (d : Chain B). Within m (n + 1) (port_of d p))
        (λ e. own_change (Within m n) (Within m (n + 1)) unsent (λ s z. unsent_within m n s z)
        (λ s z. later s (omega arith) (omega arith) z) c.ports p p h)
        (λ e. later _ (omega arith) (omega arith) (freed_within p h))
    drawn_own symbol.RRdy h = later (port_of c p) (omega arith) (omega arith) h
    drawn_own (symbol.Mark y) h = later (port_of c p) (omega arith) (omega arith) h

    drawn_off : (y : Symbol) (q : ℕ) → q ≢ p → Within m n (port_of c q) → Within m n (port_of (drawn M c p y) q)
    drawn_off y q d h =
        grind (arith, nat_tests, freed_within q h, other_port (Within m n) c p q (unsent (port_of c p)) d h)

  sends_own : (m n : ℕ) (c : Chain B) (p : ℕ) → Within m n (port_of c p)
      → Within m (n + 1) (port_of (sends M c p).state p)
  sends_own m n c p h = go (sent M c p)
    where
      go : (o : Option Symbol)
          → Within m (n + 1) (port_of (sends_symbol M (with_port c p (after_send (port_of c p) o)) p o).state p)
      go None =
          later (port_of (with_port c p (port_of c p)) p) (omega arith) (omega arith) (after_within m n c p None p h)
      go (Some y) =
          drawn_own m n
          (with_bank (with_port c p (after_send (port_of c p) (Some y))) (M.put c.bank p (sound y))) p y
          (after_within m n c p (Some y) p h)

  sends_off : (m n : ℕ) (c : Chain B) (p q : ℕ) → q ≢ p → Within m n (port_of c q)
      → Within m n (port_of (sends M c p).state q)
  sends_off m n c p q d h = go (sent M c p)
    where
      go : (o : Option Symbol)
          → Within m n (port_of (sends_symbol M (with_port c p (after_send (port_of c p) o)) p o).state q)
      go None = after_within m n c p None q h
      go (Some y) =
          drawn_off m n
          (with_bank (with_port c p (after_send (port_of c p) (Some y))) (M.put c.bank p (sound y))) p y q d
          (after_within m n c p (Some y) q h)

  pub stepped_tick : (c : Chain B) → (stepped M c).state.tick ≡ c.tick + 1
  stepped_tick c =
      (each_still (sends M) (sends_still M) (each_port (takes M) (2 * c.links) (ticked M c).state).state
      (2 * c.links)).tick ∙ (each_still (takes M) (takes_still M) (ticked M c).state (2 * c.links)).tick

  pub step_bounded : (c : Chain B) → c.tick < last_tick → Bounded c → Bounded (stepped M c).state
  step_bounded c early h = record {
    links = omega (arith, h.links, links);
    tick = omega (arith, tick, early);
    ports = λ q. later (port_of (stepped M c).state q) (omega (arith, tick)) (omega (arith, tick)) (sent_all q);
  }
    where
      taken : Chain B
      taken = (each_port (takes M) (2 * c.links) (ticked M c).state).state

      links : (stepped M c).state.links ≡ c.links
      links = (each_still (sends M) (sends_still M) taken (2 * c.links)).links
          ∙ (each_still (takes M) (takes_still M) (ticked M c).state (2 * c.links)).links

      tick : (stepped M c).state.tick ≡ c.tick + 1
      tick = stepped_tick c

      taken_all : (q : ℕ)
          → Within (c.tick + 1) c.tick (port_of (each_port (takes M) (2 * c.links) (ticked M c).state).state q)
      taken_all =
          each_all (Within c.tick c.tick) (Within (c.tick + 1) c.tick) (takes M)
          (λ s z. taken_later c.tick c.tick s z) (takes_own c.tick c.tick)
          (takes_off (Within c.tick c.tick)) (takes_off (Within (c.tick + 1) c.tick))
          (ticked M c).state (2 * c.links) h.ports

      sent_all : (q : ℕ) → Within (c.tick + 1) (c.tick + 1) (port_of (stepped M c).state q)
      sent_all =
          each_all (Within (c.tick + 1) c.tick) (Within (c.tick + 1) (c.tick + 1)) (sends M)
          (λ s z. later s (omega arith) (omega arith) z) (sends_own (c.tick + 1) c.tick)
          (sends_off (c.tick + 1) c.tick) (sends_off (c.tick + 1) (c.tick + 1))
          (each_port (takes M) (2 * c.links) (ticked M c).state).state (2 * c.links) taken_all
