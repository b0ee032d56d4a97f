-- Laws of a bit as a number, `digit`: it is 0 or 1, it says whether the bit is set, and it is what a bool is cast to.
use Prim.Native.Nat.{ℕ, zero, suc, ◌<◌, ◌≤◌}
use mathlib.Core.Bool.{Bool, true, false}
use mathlib.Core.Path.{◌≡◌, refl}
use mir.Val.{bool_byte}
use native.Mathlib.Omega.{arith}
use lib.Dec.{eqb}
use Rattle.ground.specs.Bits.{digit}

pub digit_small : (t : Bool) → digit t ≤ 1
digit_small true = omega arith
digit_small false = omega arith

-- A bit is set where its digit is 1, and a number below 2 is the digit of that test.
pub digit_back : (t : Bool) → eqb (digit t) 1 ≡ t
digit_back true = refl
digit_back false = refl

pub digit_again : (n : ℕ) → n < 2 → digit (eqb n 1) ≡ n
digit_again zero h = refl
digit_again (suc zero) h = refl
digit_again (suc (suc n)) h = absurd (omega arith)

-- Rattle's `t as u8`.
pub digit_cast : (t : Bool) → bool_byte t ≡ digit t
digit_cast true = refl
digit_cast false = refl
