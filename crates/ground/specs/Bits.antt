-- A bit of a number, and a bit as a number.
use Rattle.std.specs.Prelude.{ℕ, ◌/◌, ◌%◌, ◌^◌, Bool, true, false, eqb}

-- whether a bit of a byte is set, counted from 0
abbrev pub bit : ℕ → ℕ → Bool
bit n b = eqb (b / 2 ^ n % 2) 1

-- 1 for a bit that is set
abbrev pub digit : Bool → ℕ
digit true = 1
digit false = 0
