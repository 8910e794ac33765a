-- Scripted loss keeps the laws of a channel, over any channel that does.
use Rattle.std.specs.Prelude.{◌≡◌, Bool, true, false, cond, ◌||◌, [], ◌∷◌, ◌++◌, refl}
use Rattle.std.proofs.Math.Path.{ap, ap₂}
use Rattle.std.proofs.Common.{◌∙◌}
use Rattle.std.proofs.lemmas.Bool.{cond-false}
use Rattle.symbol.specs.Symbols.{noted_lost}
use Rattle.symbol.specs.declared.Item.{Item}
use Rattle.channel.specs.Calls.{Calls, Lawful}
use Rattle.loss.specs.Loss.{Lossy, given, lossy, named, with_below}
use Rattle.loss.specs.declared.counts.PutCounts.{PutCounts}

-- noted lost by the layer, by the channel below, by both or by neither
either_lost : (a b : Bool) (i : Item) →
    cond b (noted_lost (cond a (noted_lost i) i)) (cond a (noted_lost i) i) ≡ cond (a || b) (noted_lost i) i
either_lost true true i = refl
either_lost true false i = refl
either_lost false true i = refl
either_lost false false i = refl

module _ {C : Type 0} (m : Calls C) (c : Lossy C) (l : Lawful m c.below) where
  with_counts : C → PutCounts → Lossy C
  with_counts b n = record { below = b; entries = c.entries; counts = n }

  pub loss_lawful : Lawful (lossy m) c
  unfolding with_counts
  loss_lawful = record {
    put_full = λ i e. ap₂ with_counts (l.put_full (given c i) e) (cond-false (m.known c.below).space _ _ e);
    put_last = λ i e.
        l.put_last (given c i) e
        ∙ ap (λ x. (m.known c.below).items ++ (x ∷ []))
        (either_lost (named c i) (m.loses c.below (given c i)) i);
    put_ready = λ i. l.put_ready (given c i);
    take_none = λ e. ap (with_below c) (l.take_none e);
    take_first = l.take_first;
    step_items = l.step_items;
    step_ready = l.step_ready;
    ready_some = l.ready_some;
    idle_space = l.idle_space;
  }
