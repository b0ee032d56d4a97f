-- Laws of the start in strict mode: `start_of` where its tests are decided; what is known where strict mode has nothing against it and where it has,
-- `start_for`; and what it then answers, `strict_for`.
use Prim.Native.Nat.{ℕ, ◌<◌, ◌≤◌}
use mathlib.Core.Bool.{true, false, not, ◌&&◌}
use mathlib.Core.List.{List}
use mathlib.Core.Logic.{◌⊎◌, inl, inr}
use mathlib.Core.Path.{◌≡◌, refl, sym}
use native.Mathlib.Omega.{arith}
use lib.Dec.{leb}
use lib.ListN.{length}
use borrow.Author.Tests.{eqb-true, eqb-false, not-true, not-false, le-leb, lt-leb, eq-eqb, ne_eqb}
use Rattle.codes.specs.Delimiters.{SD2}
use Rattle.ground.proofs.Injective.{zero_one}
use Rattle.ground.proofs.PickLaws.{picked}
use Rattle.ground.specs.Part.{byte_at}
use Rattle.telegram.specs.Reading.{Reading, refused, read_of}
use Rattle.telegram_strict.specs.Sloppy.{LengthsHold, Sloppy, length_outside, fourth_not68, Neat}
use Rattle.std.proofs.lemmas.Grind.{common_steps}
use Rattle.telegram_strict.specs.Strict.{past_lengths, length_is_standard, fourth_is68, start_of, strict_of}

-- ---- the start's number, where the tests are decided

module _ (s : List ℕ) where
  pub start_short : past_lengths s ≡ true → byte_at s 1 < 4 → start_of s ≡ 24
  unfolding start_of
  start_short e h = rw (e, lt-leb _ _ h)

  pub start_long : past_lengths s ≡ true → 4 ≤ byte_at s 1 → 249 < byte_at s 1 → start_of s ≡ 24
  unfolding start_of
  start_long e h k = rw (e, le-leb _ _ h, lt-leb _ _ k)

  pub start_fourth : past_lengths s ≡ true → 4 ≤ byte_at s 1 → byte_at s 1 ≤ 249 → (byte_at s 3 ≡ SD2 → ⊥) → start_of s ≡ 25
  unfolding start_of
  start_fourth e h k d = rw (e, le-leb _ _ h, le-leb _ _ k, ne_eqb _ _ d)

-- ---- refusals 2 and 3 are past

pub past_hold : (s : List ℕ) → past_lengths s ≡ true → LengthsHold s
unfolding past_lengths
past_hold s e =
    record {
      six = grind (arith, common_steps);
      delimiter = grind (arith, common_steps);
      agree = grind (arith, common_steps);
      three = grind (arith, common_steps);
    }

-- so the fourth byte is there
pub past_six : (s : List ℕ) → past_lengths s ≡ true → 6 ≤ length s
past_six s e = (past_hold s e).six

pub hold_past : {s : List ℕ} → LengthsHold s → past_lengths s ≡ true
unfolding past_lengths
hold_past h = rw (le-leb _ _ h.six, eq-eqb _ _ h.delimiter, eq-eqb _ _ h.agree, le-leb _ _ h.three)

-- ---- the reason for the start's number

-- strict mode has something against the start, or nothing
pub data StartFor (s : List ℕ) : ℕ → Type 0 where
  against : {number : ℕ} → Sloppy s number → StartFor s number
  nothing : Neat s → StartFor s 0

-- L outside 4 to 249, where it is not below 3
outside : (l : ℕ) → 3 ≤ l → (leb 4 l && leb l 249) ≡ false → (l ≡ 3) ⊎ (249 < l)
outside l low e = grind (arith, common_steps)

-- no start is sloppy where refusals 2 and 3 are not past, nor where L and the fourth byte are the standard's
elsewhere_neat : (s : List ℕ) → past_lengths s ≡ false → Neat s
elsewhere_neat s e number (length_outside h o) = let f = hold_past h in zero_one (cc)
elsewhere_neat s e number (fourth_not68 h a b d) = let f = hold_past h in zero_one (cc)

pub standard_neat : {s : List ℕ} → 4 ≤ byte_at s 1 → byte_at s 1 ≤ 249 → byte_at s 3 ≡ SD2 → Neat s
standard_neat a b d number (length_outside h (inl e)) = omega (arith, a, e)
standard_neat a b d number (length_outside h (inr e)) = omega (arith, b, e)
standard_neat a b d number (fourth_not68 h x y e) = e d

pub start_for : (s : List ℕ) → StartFor s (start_of s)
unfolding start_of
start_for s =
    picked (StartFor s) (not (past_lengths s)) (λ e. nothing (elsewhere_neat s (not-true _ e)))
    (λ e. let h = past_hold s (not-false _ e) in
    picked (StartFor s) (not (length_is_standard s))
    (λ f. against (length_outside h (outside (byte_at s 1) h.three (not-true _ f))))
    (λ f. let low : 4 ≤ byte_at s 1 = grind (arith, common_steps) in
    let high : byte_at s 1 ≤ 249 = grind (arith, common_steps) in
    picked (StartFor s) (not (fourth_is68 s))
    (λ g. against (fourth_not68 h low high (eqb-false _ _ (not-true _ g))))
    (λ g. nothing (standard_neat low high (eqb-true _ _ (not-false _ g))))))

-- and the number for the reason
pub sloppy_start : {s : List ℕ} {number : ℕ} → Sloppy s number → start_of s ≡ number
sloppy_start {s} (length_outside h (inl e)) = start_short s (hold_past h) (omega (arith, e))
sloppy_start {s} (length_outside h (inr e)) = start_long s (hold_past h) (omega (arith, e)) e
sloppy_start {s} (fourth_not68 h a b d) = start_fourth s (hold_past h) a b d

pub neat_start : {s : List ℕ} → Neat s → start_of s ≡ 0
neat_start {s} neat = go (start_for s)
  where
    go : {number : ℕ} → StartFor s number → number ≡ 0
    go (against sloppy) = absurd (neat _ sloppy)
    go (nothing also) = refl

-- ---- the answer

module _ (s : List ℕ) where
  pub strict_default : start_of s ≡ 0 → strict_of s ≡ read_of s
  unfolding strict_of
  strict_default e = rw e

  pub strict_against : {number : ℕ} → start_of s ≡ number → (number ≡ 0 → ⊥) → strict_of s ≡ refused number
  unfolding strict_of
  strict_against e some = rw (e, ne_eqb _ _ some)

-- A start is refused for what is wrong with it; else the answer is the default's.
pub data StrictFor (s : List ℕ) : Reading → Type 0 where
  sloppy : {number : ℕ} → Sloppy s number → StrictFor s (refused number)
  default : {r : Reading} → Neat s → read_of s ≡ r → StrictFor s r

number_some : {s : List ℕ} {number : ℕ} → Sloppy s number → number ≡ 0 → ⊥
number_some (length_outside h o) e = omega arith
number_some (fourth_not68 h a b d) e = omega arith

pub strict_sloppy : {s : List ℕ} {number : ℕ} → Sloppy s number → strict_of s ≡ refused number
strict_sloppy {s} wrong = strict_against s (sloppy_start wrong) (number_some wrong)

pub strict_neat : {s : List ℕ} → Neat s → strict_of s ≡ read_of s
strict_neat {s} neat = strict_default s (neat_start neat)

-- the reason for an answer that is known
pub strict_for : (s : List ℕ) {r : Reading} → strict_of s ≡ r → StrictFor s r
strict_for s e = rw e at (go (start_for s))
  where
    go : {number : ℕ} → StartFor s number → StrictFor s (strict_of s)
    go (against wrong) = rw (strict_sloppy wrong) (sloppy wrong)
    go (nothing neat) = default neat (sym (strict_neat neat))
