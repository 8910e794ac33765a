-- A delay ring keeps the laws of a channel.
use Rattle.std.specs.Prelude.{◌≡◌, ◌-◌, true, false, List, [], ◌∷◌, ◌++◌, map, length, nat_lt, refl}
use Rattle.std.proofs.Common.{ap, sym, ◌∙◌, arith}
use Rattle.std.proofs.lemmas.List.{map_push}
use Rattle.std.proofs.lemmas.Bool.{cond-true, cond-false, cond_both, false≢true, eqb-true, eq-eqb}
use Rattle.ring.specs.Queue.{empty, pushed}
use Rattle.channel.specs.Calls.{Lawful, Aged, none, kept}
use Rattle.channel.specs.Delay.{Delayed, delay_places, delay_ring, with_waiting}
use Rattle.channel.specs.Timed.{nearer, items_of, due}
use Rattle.channel.specs.declared.timed.Timed.{Timed}
use Rattle.channel.specs.Queues.{empty_idle, map_empty, map_tail}

pushed_due : (ts : List Timed) (t : Timed) → due ts ≡ true → due (pushed delay_places ts t) ≡ true
pushed_due [] t e = absurd (false≢true e)
pushed_due (u ∷ ts) t e =
    cond_both (nat_lt (length (u ∷ ts)) delay_places) ((u ∷ ts) ++ (t ∷ [])) (u ∷ ts) (λ vs. due vs ≡ true) (λ _. e)
    (λ _. e)

nearer_due : (ts : List Timed) → due ts ≡ true → due (map nearer ts) ≡ true
nearer_due [] e = e
nearer_due (t ∷ ts) e = eq-eqb (t.wait - 1) 0 (omega (arith, eqb-true t.wait 0 e))

nearer_items : (ts : List Timed) → Aged (items_of ts) (items_of (map nearer ts))
nearer_items [] = none
nearer_items (t ∷ ts) = kept (nearer_items ts)

due_some : (ts : List Timed) → due ts ≡ true → empty (items_of ts) ≡ false
due_some [] e = absurd (false≢true e)
due_some (t ∷ ts) e = refl

pub delay_lawful : (c : Delayed) → Lawful delay_ring c
delay_lawful c = record {
  put_full = λ i e. ap (with_waiting c) (cond-false _ _ _ e);
  put_last = λ i e. ap items_of (cond-true _ _ _ e) ∙ map_push (λ t. t.item) c.waiting (record {
    item = i;
    wait = c.delay;
  });
  put_ready = λ i e. pushed_due c.waiting _ e;
  take_none = λ e. ap (with_waiting c) (cond-false _ _ _ e);
  take_first = λ e. ap items_of (cond-true _ _ _ e) ∙ map_tail (λ t. t.item) c.waiting;
  step_items = nearer_items c.waiting;
  step_ready = nearer_due c.waiting;
  ready_some = due_some c.waiting;
  idle_space = λ e. empty_idle delay_places c.waiting refl (sym (map_empty (λ t. t.item) c.waiting) ∙ e);
}
