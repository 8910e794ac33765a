-- A gate keeps the laws of a channel.
use Rattle.std.specs.Prelude.{Bool, true, false, cond, [], ◌∷◌, refl}
use Rattle.std.proofs.lemmas.Bool.{false≢true, true≢false}
use Rattle.symbol.specs.Symbols.{noted_lost}
use Rattle.symbol.specs.declared.Item.{Item}
use Rattle.channel.specs.Calls.{Lawful, Aged, none, kept, lost}
use Rattle.gate.specs.Gate.{gate}
use Rattle.gate.specs.declared.Gate.{Gate}
use Rattle.gate.specs.declared.Passage.{Passage}
use Rattle.gate.specs.declared.Passage.TheVariants.{Free, Entered, Through}

aged_item : (s : Bool) (i : Item) → Aged (i ∷ []) (cond s (noted_lost i) i ∷ [])
aged_item true i = lost none
aged_item false i = kept none

lawful_at : (p : Passage) (s : Bool) → Lawful gate (record { passage = p; second = s })
lawful_at Free s = record {
  put_full = λ i e. absurd (true≢false e);
  put_last = λ i e. refl;
  put_ready = λ i e. absurd (false≢true e);
  take_none = λ e. refl;
  take_first = λ e. absurd (false≢true e);
  step_items = none;
  step_ready = λ e. e;
  ready_some = λ e. absurd (false≢true e);
  idle_space = λ e. refl;
}
lawful_at (Entered j) s = record {
  put_full = λ i e. refl;
  put_last = λ i e. absurd (false≢true e);
  put_ready = λ i e. e;
  take_none = λ e. refl;
  take_first = λ e. absurd (false≢true e);
  step_items = aged_item s j;
  step_ready = λ e. refl;
  ready_some = λ e. refl;
  idle_space = λ e. e;
}
lawful_at (Through j) s = record {
  put_full = λ i e. refl;
  put_last = λ i e. absurd (false≢true e);
  put_ready = λ i e. e;
  take_none = λ e. absurd (true≢false e);
  take_first = λ e. refl;
  step_items = kept none;
  step_ready = λ e. e;
  ready_some = λ e. refl;
  idle_space = λ e. e;
}

pub gate_lawful : (g : Gate) → Lawful gate g
gate_lawful g = lawful_at g.passage g.second
