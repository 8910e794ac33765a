-- What a channel means: its calls as functions of its state, and the laws that every channel keeps.
use Rattle.std.specs.Prelude.{◌≡◌, Bool, true, false, cond, List, [], ◌∷◌, ◌++◌, None, Option}
use Rattle.ring.specs.Queue.{head?, tail, empty}
use Rattle.symbol.specs.Symbols.{noted_lost}
use Rattle.symbol.specs.declared.Item.{Item}

-- what a channel is known by: its items in order, whether the first is ready, and whether it has space
pub record Known : Type 0 where
  pub items : List Item
  pub ready : Bool
  pub space : Bool

-- no item waits
abbrev pub idle : Known → Bool
idle k = empty k.items

-- what a take hands out: the first item, if it is ready
abbrev pub handed : Known → Option Item
handed k = cond k.ready (head? k.items) None

-- the calls of a channel with states C; the questions change nothing, and answer from what is known
pub record Calls (C : Type 0) : Type 0 where
  pub known : C → Known
  -- whether an accepted put of the item notes it lost
  pub loses : C → Item → Bool
  pub put : C → Item → C
  pub take : C → C
  pub step : C → C

-- the item as the channel keeps it: as given, or noted lost
abbrev pub received : {C : Type 0} → Calls C → C → Item → Item
received m c i = cond (m.loses c i) (noted_lost i) i

-- what a step may make of the items: each stays as it is or is noted lost, and all stay in order
pub data Aged : List Item → List Item → Type 0 where
  none : Aged [] []
  kept : {i : Item} {xs ys : List Item} → Aged xs ys → Aged (i ∷ xs) (i ∷ ys)
  lost : {i : Item} {xs ys : List Item} → Aged xs ys → Aged (i ∷ xs) (noted_lost i ∷ ys)

-- what every channel keeps, at its state c
pub record Lawful {C : Type 0} (m : Calls C) (c : C) : Type 0 where
  -- a put without space refuses and changes nothing
  pub put_full : (i : Item) → (m.known c).space ≡ false → m.put c i ≡ c
  -- otherwise the item goes last, as given or noted lost, and the others stay
  pub put_last : (i : Item) → (m.known c).space ≡ true →
      (m.known (m.put c i)).items ≡ (m.known c).items ++ (received m c i ∷ [])
  -- a put leaves a ready first ready
  pub put_ready : (i : Item) → (m.known c).ready ≡ true → (m.known (m.put c i)).ready ≡ true
  -- a take without a ready first changes nothing
  pub take_none : (m.known c).ready ≡ false → m.take c ≡ c
  -- otherwise it hands out the first, and the others stay
  pub take_first : (m.known c).ready ≡ true → (m.known (m.take c)).items ≡ tail (m.known c).items
  -- a step keeps all items in order, and may note some lost
  pub step_items : Aged (m.known c).items (m.known (m.step c)).items
  -- a step leaves a ready first ready
  pub step_ready : (m.known c).ready ≡ true → (m.known (m.step c)).ready ≡ true
  -- only an item can be ready
  pub ready_some : (m.known c).ready ≡ true → idle (m.known c) ≡ false
  -- an idle channel has space
  pub idle_space : idle (m.known c) ≡ true → (m.known c).space ≡ true
