-- A channel that is another one's calls on a part of its state keeps the laws with it.
use Rattle.std.specs.Prelude.{◌≡◌, Bool, cond, List, [], ◌∷◌, ◌++◌}
use Rattle.std.proofs.Common.{sym, ap, ap₂, subst₂, ◌∙◌}
use Rattle.channel.specs.Calls.{Calls, Known, Lawful, Aged}
use Rattle.symbol.specs.Symbols.{noted_lost}
use Rattle.ring.specs.Queue.{empty, tail}
use Rattle.symbol.specs.declared.Item.{Item}

-- the channel p at its state d is the channel m at c
pub record Carries {C D : Type 0} (m : Calls C) (p : Calls D) (c : C) (d : D) : Type 0 where
  pub known_here : p.known d ≡ m.known c
  pub loses_here : (i : Item) → p.loses d i ≡ m.loses c i
  pub known_put : (i : Item) → p.known (p.put d i) ≡ m.known (m.put c i)
  pub known_take : p.known (p.take d) ≡ m.known (m.take c)
  pub known_step : p.known (p.step d) ≡ m.known (m.step c)
  pub put_back : (i : Item) → m.put c i ≡ c → p.put d i ≡ d
  pub take_back : m.take c ≡ c → p.take d ≡ d

abbrev items_of : Known → List Item
items_of k = k.items

abbrev ready_of : Known → Bool
ready_of k = k.ready

abbrev space_of : Known → Bool
space_of k = k.space

pub carried : {C D : Type 0} (m : Calls C) (p : Calls D) (c : C) (d : D) → Carries m p c d → Lawful m c → Lawful p d
carried m p c d h l =
    let items = ap items_of h.known_here in
    let ready = ap ready_of h.known_here in
    let space = ap space_of h.known_here in
    record {
      put_full = λ i e. h.put_back i (l.put_full i (sym space ∙ e));
      put_last = λ i e.
          ap items_of (h.known_put i)
          ∙ l.put_last i (sym space ∙ e)
          ∙ ap₂ (λ xs b. xs ++ (cond b (noted_lost i) i ∷ [])) (sym items) (sym (h.loses_here i));
      put_ready = λ i e. ap ready_of (h.known_put i) ∙ l.put_ready i (sym ready ∙ e);
      take_none = λ e. h.take_back (l.take_none (sym ready ∙ e));
      take_first = λ e. ap items_of h.known_take ∙ l.take_first (sym ready ∙ e) ∙ ap tail (sym items);
      step_items = subst₂ Aged (sym items) (sym (ap items_of h.known_step)) l.step_items;
      step_ready = λ e. ap ready_of h.known_step ∙ l.step_ready (sym ready ∙ e);
      ready_some = λ e. ap empty items ∙ l.ready_some (sym ready ∙ e);
      idle_space = λ e. space ∙ l.idle_space (sym (ap empty items) ∙ e);
    }
