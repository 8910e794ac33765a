-- Items that wait, each for its own number of steps.
use Rattle.std.specs.Prelude.{ℕ, ◌-◌, Bool, true, false, ◌&&◌, List, [], ◌∷◌, map, ◌==◌, nat_le}
use Rattle.symbol.specs.declared.Item.{Item}
use Rattle.channel.specs.declared.timed.Timed.{Timed}

-- an item one step nearer
abbrev pub nearer : Timed → Timed
nearer t = record { item = t.item; wait = t.wait - 1 }

-- the items without their waits
abbrev pub items_of : List Timed → List Item
items_of = map (λ t. t.item)

-- the first item has no wait left
abbrev pub due : List Timed → Bool
due [] = false
due (t ∷ ts) = t.wait == 0

-- no item waits longer than n steps
abbrev pub within : ℕ → List Timed → Bool
within n [] = true
within n (t ∷ ts) = nat_le t.wait n && within n ts
