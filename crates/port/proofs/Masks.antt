-- A shifted one at 16 bits, and what a mask keeps of a number that wraps there.
use Rattle.std.proofs.Common.{◌≡◌, ℕ, ◌+◌, ◌-◌, ◌*◌, ◌%◌, ◌^◌, ◌≤◌, subst, arith}
use Rattle.std.proofs.Math.Pow.{mod-mod-pow}
use Rattle.std.proofs.lemmas.Nat.{one_shl}

pub shl : (n : ℕ) → n ≤ 15 → (1 * 2 ^ n) % 65536 ≡ 2 ^ n
shl n small = one_shl n 16 (omega arith)

pub wrapped : (n x : ℕ) → n ≤ 15 → x % 65536 % 2 ^ n ≡ x % 2 ^ n
wrapped n x small =
    let all : 16 - n + n ≡ 16 = omega arith in
    subst (λ w. x % 2 ^ w % 2 ^ n ≡ x % 2 ^ n) all (mod-mod-pow x (16 - n) n)
