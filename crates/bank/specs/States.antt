-- The state of a bank, by the states of what it holds.
use Rattle.bank.specs.declared.one.One.{One}
use Rattle.bank.specs.declared.pair.Pair.{Pair}

abbrev pub one_state : {C M : Type 0} → (C → M) → One C → M
one_state f b = f b.channel

abbrev pub both : {M N : Type 0} → M → N → M × N
both m n = (m, n)

abbrev pub pair_state : {P Q M N : Type 0} → (P → M) → (Q → N) → Pair P Q → M × N
pair_state f g b = both (f b.first) (g b.second)
