-- Which starts of an SD2 telegram strict mode refuses, `Sloppy`, in the manner of `Refuses` of crate `telegram`: each constructor says what is wrong, and
-- what is looked at before it and is right.
use Rattle.std.specs.Prelude.{ℕ, ◌<◌, ◌≤◌, List, ◌⊎◌, ◌≡◌, length}
use Rattle.codes.specs.Delimiters.{SD2}
use Rattle.ground.specs.Part.{byte_at}

-- An SD2 telegram's first six bytes, which document 01 refuses neither with 2 nor with 3.
pub record LengthsHold (s : List ℕ) : Type 0 where
  pub six : 6 ≤ length s
  pub delimiter : byte_at s 0 ≡ SD2
  pub agree : byte_at s 1 ≡ byte_at s 2
  pub three : 3 ≤ byte_at s 1

pub data Sloppy (s : List ℕ) : ℕ → Type 0 where
  -- "24, L of 3 or above 249"
  length_outside : LengthsHold s → (byte_at s 1 ≡ 3) ⊎ (249 < byte_at s 1) → Sloppy s 24
  -- "25, fourth byte"
  fourth_not68 : LengthsHold s → 4 ≤ byte_at s 1 → byte_at s 1 ≤ 249 → (byte_at s 3 ≡ SD2 → ⊥) → Sloppy s 25

-- Neither is wrong with the start of these bytes.
abbrev pub Neat : List ℕ → Type 0
Neat s = (number : ℕ) → Sloppy s number → ⊥
