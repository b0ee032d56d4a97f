-- Either mode, for callers that take it as an argument: what it reads the default reads, `mode_alike`; it advances; its refusals' numbers; and that two
-- answers that are shown alike are alike, `shown_in_injective` and `shown_start_injective`.
use Rattle.std.proofs.Common.{Err, Ok, Result, eqb}
use Prim.Native.Nat.{ℕ, ◌≤◌}
use mathlib.Core.List.{List}
use mathlib.Core.Path.{◌≡◌, refl}
use native.Mathlib.Omega.{arith}
use Rattle.ground.proofs.Injective.{injective}
use Rattle.ground.specs.Pick.{if}
use Rattle.telegram.proofs.ReadingLaws.{refused_numbered}
use Rattle.telegram.proofs.StreamLaws.{Advances, reading_advances}
use Rattle.telegram.specs.Reading.{Reading, whole, incomplete, refused, read_of}
use Rattle.telegram.specs.declared.kinds.Telegram.{Telegram}
use Rattle.telegram_strict.proofs.StartLaws.{StrictFor, sloppy, default, strict_for}
use Rattle.telegram_strict.proofs.Theorems.{strict_alike, strict_advances}
use Rattle.telegram_strict.specs.Sloppy.{length_outside, fourth_not68}
use Rattle.telegram_strict.specs.Strict.{read_in, shown_in, shown_start}
use Rattle.telegram_strict.specs.declared.strict.DeserializedIn.{DeserializedIn}
use Rattle.telegram_strict.specs.declared.strict.DeserializedIn.TheVariants as deserialized
use Rattle.telegram_strict.specs.declared.strict.Mode.{Mode}
use Rattle.telegram_strict.specs.declared.strict.Mode.TheVariants.{Default, Strict}
use Rattle.telegram_strict.specs.declared.strict.Sloppiness.{Sloppiness}
use Rattle.telegram_strict.specs.declared.strict.Sloppiness.TheVariants.{LengthNotStandard, FourthByte}

pub mode_alike : (mode : Mode) (s : List ℕ) {t : Telegram} {n : ℕ} → read_in mode s ≡ whole t n → read_of s ≡ whole t n
mode_alike Default s e = e
mode_alike Strict s e = strict_alike s e

pub mode_advances : (mode : Mode) → Advances (read_in mode)
mode_advances Default = reading_advances
mode_advances Strict = strict_advances

pub mode_numbered : (mode : Mode) (s : List ℕ) {k : ℕ} → read_in mode s ≡ refused k → (1 ≤ k) × (k ≤ 25)
mode_numbered Default s e = omega (arith, refused_numbered s e)
mode_numbered Strict s e = go (strict_for s e)
  where
    go : {k : ℕ} → StrictFor s (refused k) → (1 ≤ k) × (k ≤ 25)
    go (sloppy (length_outside h o)) = omega arith
    go (sloppy (fourth_not68 h a b d)) = omega arith
    go (default neat q) = omega (arith, refused_numbered s q)

-- What is answered is led back to from what is shown of it.
abbrev answer_back : Reading → DeserializedIn
answer_back (whole t n) = deserialized.Telegram t n
answer_back incomplete = deserialized.Incomplete
answer_back (refused number) = deserialized.Refused number

answer_again : (x : DeserializedIn) → answer_back (shown_in x) ≡ x
answer_again (deserialized.Telegram t n) = refl
answer_again deserialized.Incomplete = refl
answer_again (deserialized.Refused number) = refl

pub shown_in_injective : (x y : DeserializedIn) → shown_in x ≡ shown_in y → x ≡ y
shown_in_injective = injective shown_in answer_back answer_again

-- So is what judging a start answers.
abbrev start_back : ℕ → Result Unit Sloppiness
start_back n = if (eqb n 0) (Ok tt) (Err (if (eqb n 24) LengthNotStandard FourthByte))

start_again : (x : Result Unit Sloppiness) → start_back (shown_start x) ≡ x
start_again (Ok tt) = refl
start_again (Err LengthNotStandard) = refl
start_again (Err FourthByte) = refl

pub shown_start_injective : (x y : Result Unit Sloppiness) → shown_start x ≡ shown_start y → x ≡ y
shown_start_injective = injective shown_start start_back start_again
