-- What a ring holds: its places follow one another, and the first follows the last.
use Rattle.std.specs.Prelude.{ℕ, ◌+◌, ◌-◌, cond, List, ◌++◌, take, drop, nat_lt}
use Rattle.ring.specs.declared.Ring.{Ring}

-- the n values from place `head` on
abbrev pub window : {X : Type 0} → List X → ℕ → ℕ → List X
window xs head n = take n (drop head (xs ++ xs))

-- the place of the i-th value from `head` on, of `cap` places
abbrev pub place : ℕ → ℕ → ℕ → ℕ
place cap head i = cond (nat_lt i (cap - head)) (head + i) (i - (cap - head))

-- the values of a ring, oldest first
abbrev pub contents : {T : Type 0} {n : ℕ} → Ring T n → List T
contents r = window r.places r.head r.len
