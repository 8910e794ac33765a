-- Acts one after another.
use Rattle.std.proofs.Common.{◌≡◌, ℕ, ◌+◌, ◌*◌, sym, ap, ◌∙◌, subst, add-one}
use Rattle.eventlog.specs.Sheet.{Logs}
use Rattle.eventlog.specs.declared.sheet.Sheet.{Sheet}
use Rattle.eventlog.proofs.Sheets.{logs_then}
use Rattle.port.specs.Port.{Turn, and_then}
use Rattle.bank.specs.Bank.{BankCalls}
use Rattle.model.specs.Chain.{Chain, each_port, sends, stepped, takes, ticked}
use Rattle.model.proofs.Links.{takes_still, each_still}
use Rattle.chain.specs.Acts.{Acted}

module _ {C : Type 0} where
  pub acted_then : (t : Turn C) (f : C → Turn C) (s u v : Sheet) (d e : C)
      → Acted t s d u → Acted (f d) u e v → Acted (and_then t f) s e v
  acted_then t f s u v d e first then =
      let P : C → Type 0 = λ x. Logs u (f x).events v in
      record {
        state = then.state ∙ ap (λ x. (f x).state) first.state;
        log = logs_then s u v t.events (f t.state).events first.log (subst P first.state then.log);
      }

-- one more port of a loop
pub each_more : {B : Type 0} (f : Chain B → ℕ → Turn (Chain B)) (c d e : Chain B) (s t u : Sheet) (k : ℕ)
    → Acted (each_port f k c) s d t → Acted (f d k) t e u → Acted (each_port f (k + 1) c) s e u
each_more f c d e s t u k before now =
    let P : ℕ → Type 0 = λ n. Acted (each_port f n c) s e u in
    subst P (sym (add-one k)) (acted_then (each_port f k c) (λ x. f x k) s t u d e before now)

-- a step is the tick, then the takes, then the sends
module _ {B : Type 0} (M : BankCalls B) (c x y z : Chain B) (s t u v : Sheet) where
  pub step_acted : Acted (ticked M c) s x t
      → Acted (each_port (takes M) (2 * x.links) x) t y u
      → Acted (each_port (sends M) (2 * y.links) y) u z v
      → Acted (stepped M c) s z v
  step_acted tick take send =
      let same-x : x.links ≡ c.links = ap (λ w. w.links) tick.state in
      let same-y : y.links ≡ c.links =
      ap (λ w. w.links) take.state ∙ (each_still (takes M) (takes_still M) x (2 * x.links)).links ∙ same-x in
      let takes_all : Chain B → Turn (Chain B) = each_port (takes M) (2 * c.links) in
      let sends-all : Chain B → Turn (Chain B) = each_port (sends M) (2 * c.links) in
      let P : ℕ → Type 0 = λ n. Acted (each_port (takes M) (2 * n) x) t y u in
      let Q : ℕ → Type 0 = λ n. Acted (each_port (sends M) (2 * n) y) u z v in
      acted_then (and_then (ticked M c) takes_all) sends-all s u v y z
      (acted_then (ticked M c) takes_all s t u x y tick (subst P same-x take)) (subst Q same-y send)
