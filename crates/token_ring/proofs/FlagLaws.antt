-- Laws of the flags by index, and what one turn of each loop over them does.
use Rattle.std.proofs.Common.{◌≡◌, ℕ, zero, suc, ◌+◌, ◌-◌, ◌<◌, ◌≤◌, min, Bool, true, false, ◌&&◌, eqb, leb, List, [], ◌∷◌, ◌++◌, length, take, set, sym, refl, ap, ◌∙◌, add-zero, add-suc, suc-add, zero-add, sub-eq-zero_of_le, add-one, arith, length-set, drop_of_length-le, length-take-le, take_all, drop-cons, get_or-set_other, take-suc, ext_get_or, le-ltb, lt-ltb, ne_eqb, le-leb, None, Option, Some}
use mathlib.Core.Logic.{by_cases}
use native.Mathlib.Decide.{dec_lt}
use borrow.Author.Tests.{lt-leb}
use mir.Val.{bool_byte}
use Rattle.ground.specs.Pick.{if}
use Rattle.token_ring.specs.Flags.{active, within, sweep, cleared, quiet, lowest_from, highest, highest_below}

-- ---- a pick

pub if_same {ℓ} : {A : Type ℓ} (b : Bool) (x : A) → if b x x ≡ x
if_same true x = refl
if_same false x = refl

-- ---- the range of addresses

pub within_in : (from to a : ℕ) → from ≤ a → a < to → within from to a ≡ true
within_in from to a h k = rw (le-leb from a h, lt-ltb a to k)

pub within_below : (from to a : ℕ) → a < from → within from to a ≡ false
within_below from to a h = rw (lt-leb from a h)

and_no : (b : Bool) → (b && false) ≡ false
and_no true = refl
and_no false = refl

pub within_above : (from to a : ℕ) → to ≤ a → within from to a ≡ false
within_above from to a h = rw (le-ltb a to h) (and_no (leb from a))

-- ---- clearing

pub length_sweep : (from to k : ℕ) (l : List Bool) → length (sweep from to k l) ≡ length l
length_sweep from to k [] = refl
length_sweep from to k (x ∷ xs) = ap suc (length_sweep from to (suc k) xs)

pub sweep_at : (from to k : ℕ) (l : List Bool) (i : ℕ) → active (sweep from to k l) i ≡ if (within from to (k + i)) false (active l i)
sweep_at from to k [] i = sym (if_same (within from to (k + i)) false)
sweep_at from to k (x ∷ xs) zero = rw add-zero
sweep_at from to k (x ∷ xs) (suc i) = rw (add-suc, ← suc-add) (sweep_at from to (suc k) xs i)

pub length_cleared : (from to : ℕ) (l : List Bool) → length (cleared from to l) ≡ length l
unfolding cleared
length_cleared from to l = length_sweep from to 0 l

-- the flag at an address after a clearing
pub cleared_at : (from to : ℕ) (l : List Bool) (i : ℕ) → active (cleared from to l) i ≡ if (within from to i) false (active l i)
unfolding cleared
cleared_at from to l i = sweep_at from to 0 l i ∙ rw zero-add

-- nothing is left to clear
pub cleared_done : (at to : ℕ) (l : List Bool) → to ≤ at → cleared at to l ≡ l
cleared_done at to l h =
    ext_get_or false (cleared at to l) l (length_cleared at to l) (λ i _.
    cleared_at at to l i
    ∙ by_cases (dec_lt i at)
    (λ k. rw (within_below at to i k))
    (λ k. rw (within_above at to i (omega arith))))

cleared_same : (xs : List Bool) (i : ℕ) → active (set xs i false) i ≡ false
cleared_same [] i = refl
cleared_same (x ∷ xs) zero = refl
cleared_same (x ∷ xs) (suc i) = cleared_same xs i

module _ (at to : ℕ) (l : List Bool) (h : at < to) where
  -- the flag at the place, and at any place
  cleared_here : (i : ℕ) → i ≡ at → if (within (suc at) to i) false (active (set l at false) i) ≡ if (within at to i) false (active l i)
  cleared_here i e = rw e (rw (within_below (suc at) to at (omega arith), within_in at to at (omega arith) h) (cleared_same l at))

  cleared_turn : (i : ℕ) → if (within (suc at) to i) false (active (set l at false) i) ≡ if (within at to i) false (active l i)
  cleared_turn i =
      by_cases (dec_lt i at)
      (λ k. rw (within_below (suc at) to i (omega arith), within_below at to i k, get_or-set_other l at i false false (λ e. omega arith)))
      (λ k. by_cases (dec_lt at i)
      (λ m. by_cases (dec_lt i to)
      (λ n. rw (within_in (suc at) to i (omega arith) n, within_in at to i (omega arith) n))
      (λ n. rw (within_above (suc at) to i (omega arith), within_above at to i (omega arith), get_or-set_other l at i false false (λ e. omega arith))))
      (λ m. cleared_here i (omega arith)))

  -- one flag more is cleared
  pub cleared_step : cleared (at + 1) to (set l at false) ≡ cleared at to l
  cleared_step =
      rw add-one
      (ext_get_or false _ _ (length_cleared (suc at) to (set l at false) ∙ length-set l at false ∙ sym (length_cleared at to l)) (λ i k.
      rw (cleared_at (suc at) to (set l at false) i, cleared_at at to l i) (cleared_turn i)))

-- ---- scanning for one that is set

pub quiet_done : (at to : ℕ) (l : List Bool) → to ≤ at → quiet at to l ≡ true
unfolding quiet
quiet_done at to l h = rw (sub-eq-zero_of_le h)

pub quiet_step : (at to : ℕ) (l : List Bool) → at < to → at < length l → quiet at to l ≡ if (active l at) false (quiet (suc at) to l)
unfolding quiet
quiet_step at to l h k =
    let e : to - at ≡ suc (to - suc at) = omega arith in
    rw (e, drop-cons l at false k)

-- one flag more is counted, as the loop has it
and_counted : (x : Bool) (count : ℕ) (r : Bool) → (eqb count 0 && if x false r) ≡ (eqb (count + bool_byte x) 0 && r)
and_counted true count r = and_no (eqb count 0) ∙ rw (ne_eqb (count + 1) 0 (λ e. omega arith))
and_counted false count r = rw add-zero

pub quiet_counted : (at to count : ℕ) (l : List Bool) → at < to → at < length l
    → (eqb count 0 && quiet at to l) ≡ (eqb (count + bool_byte (active l at)) 0 && quiet (at + 1) to l)
quiet_counted at to count l h k = rw (quiet_step at to l h k, add-one) (and_counted (active l at) count (quiet (suc at) to l))

pub and_yes : (b : Bool) → (b && true) ≡ b
and_yes true = refl
and_yes false = refl

pub byte_le : (x : Bool) → bool_byte x ≤ 1
byte_le true = omega arith
byte_le false = omega arith

-- ---- the lowest, scanning upward

pub lowest_done : (at : ℕ) (l : List Bool) → length l ≤ at → lowest_from at l ≡ None
unfolding lowest_from
lowest_done at l h = rw (drop_of_length-le l h)

pub lowest_step : (at : ℕ) (l : List Bool) → at < length l → lowest_from at l ≡ if (active l at) (Some at) (lowest_from (suc at) l)
unfolding lowest_from
lowest_step at l h = rw (drop-cons l at false h)

module _ (at : ℕ) (l : List Bool) (h : at < length l) where
  pub lowest_hit : active l at ≡ true → lowest_from at l ≡ Some at
  lowest_hit e = lowest_step at l h ∙ rw e

  pub lowest_miss : active l at ≡ false → lowest_from at l ≡ lowest_from (at + 1) l
  lowest_miss e = lowest_step at l h ∙ rw (e, add-one)

-- ---- the highest, scanning downward

highest_last : (k : ℕ) (xs : List Bool) (x : Bool) (d : Option ℕ)
    → highest k (xs ++ x ∷ []) d ≡ if x (Some (k + length xs)) (highest k xs d)
highest_last k [] x d = rw add-zero
highest_last k (y ∷ ys) x d = rw (add-suc, ← suc-add) (highest_last (suc k) ys x (if y (Some k) d))

pub highest_done : (at : ℕ) (l : List Bool) → at ≤ 0 → highest_below at l ≡ None
unfolding highest_below
highest_done at l h = let e : at ≡ 0 = omega arith in rw e

pub highest_step : (at : ℕ) (l : List Bool) → at < length l → highest_below (suc at) l ≡ if (active l at) (Some at) (highest_below at l)
unfolding highest_below
highest_step at l h =
    rw (take-suc l at false h, highest_last 0 (take at l) (active l at) None, length-take-le at l (omega arith), zero-add)

-- the same from the place above, as the loop has it
module _ (at : ℕ) (l : List Bool) (k : 0 < at) (h : at ≤ length l) where
  highest_from : highest_below at l ≡ if (active l (at - 1)) (Some (at - 1)) (highest_below (at - 1) l)
  highest_from =
      let e : at ≡ suc (at - 1) = omega arith in
      ap (λ (n : ℕ). highest_below n l) e ∙ highest_step (at - 1) l (omega arith)

  pub highest_hit : active l (at - 1) ≡ true → highest_below at l ≡ Some (at - 1)
  highest_hit e = highest_from ∙ rw e

  pub highest_miss : active l (at - 1) ≡ false → highest_below at l ≡ highest_below (at - 1) l
  highest_miss e = highest_from ∙ rw e

-- all that there is, where the bound is past the end
pub highest_clamped : (to : ℕ) (l : List Bool) → length l ≡ 128 → highest_below (min to 128) l ≡ highest_below to l
unfolding highest_below
highest_clamped to l h =
    by_cases (dec_lt to 128)
    (λ k. let e : min to 128 ≡ to = omega arith in rw e)
    (λ k. let e : min to 128 ≡ 128 = omega arith in rw (e, take_all to l (omega arith), take_all 128 l (omega arith)))
