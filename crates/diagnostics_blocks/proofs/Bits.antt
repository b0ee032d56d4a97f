-- Laws of an identifier block's bits and of the search for the first that is set.
use mathlib.Core.Path.{◌≡◌}
use mathlib.Core.Bool.{true, false}
use mathlib.Core.List.{List}
use Rattle.std.specs.Prelude.{Some, None}
use Prim.Native.Nat.{ℕ, suc, ◌+◌, ◌-◌, ◌*◌, ◌/◌, ◌^◌, ◌≤◌, ◌<◌}
use native.Mathlib.Decide.{dec_lt}
use native.Mathlib.Nat.{zero-div}
use native.Mathlib.Numerals.{add-one}
use native.Mathlib.Omega.{arith}
use borrow.Author.Tests.{le-leb, lt-leb}
use lib.Dec.{leb}
use lib.ListN.{length, get_or-eq_default}
use Rattle.ground.specs.Pick.{if}
use Rattle.diagnostics_blocks.specs.Modules.{bit_of, first_of_next, modules_of}

-- past the body's end no bit is set
pub bit_past : (body : List ℕ) (i : ℕ) → length body ≤ i / 8 → bit_of body i ≡ false
unfolding bit_of
bit_past body i h = rw (get_or-eq_default body 0 h, zero-div)

-- how many modules there are, by the body's length: eight a byte, or as many as have a number
pub data Counted (body : List ℕ) : ℕ → Type 0 where
  eight_each : length body < 2 ^ 61 → Counted body (8 * length body)
  all_numbers : 2 ^ 61 ≤ length body → Counted body (2 ^ 64)

pub counted : (body : List ℕ) → Counted body (modules_of body)
unfolding modules_of
counted body = by (dec_lt (length body) (2 ^ 61))
  where
    by : Dec (length body < 2 ^ 61) → Counted body (if (leb (2 ^ 61) (length body)) (2 ^ 64) (8 * length body))
    by (yes less) = rw (lt-leb (2 ^ 61) (length body) less) (eight_each less)
    by (no more) = rw (le-leb (2 ^ 61) (length body) (omega arith)) (all_numbers (omega arith))

-- a module that has a number and whose byte is there has a bit
inside_by : {body : List ℕ} {k : ℕ} → Counted body k → (i : ℕ) → i < 2 ^ 64 → i / 8 < length body → i < k
inside_by (eight_each less) i small h = omega arith
inside_by (all_numbers more) i small h = small

pub module_inside : (body : List ℕ) (i : ℕ) → i < 2 ^ 64 → i / 8 < length body → i < modules_of body
module_inside body i small h = inside_by (counted body) i small h

-- a module whose byte is not there has none
past_by : {body : List ℕ} {k : ℕ} → Counted body k → (i : ℕ) → length body ≤ i / 8 → k ≤ i
past_by (eight_each less) i h = omega arith
past_by (all_numbers more) i h = omega arith

pub module_past : (body : List ℕ) (i : ℕ) → length body ≤ i / 8 → modules_of body ≤ i
module_past body i h = past_by (counted body) i h

-- each module has a number
numbered_by : {body : List ℕ} {k : ℕ} → Counted body k → k ≤ 2 ^ 64
numbered_by (eight_each less) = omega arith
numbered_by (all_numbers more) = omega arith

pub modules_numbered : (body : List ℕ) → modules_of body ≤ 2 ^ 64
modules_numbered body = numbered_by (counted body)

-- one module is left at least
one_more : (end at : ℕ) → at < end → end - at ≡ suc (end - suc at)
one_more end at h = omega arith

pub first_here : (body : List ℕ) (end at : ℕ) → at < end → bit_of body at ≡ true → first_of_next body (end - at) at ≡ Some at
first_here body end at h set = rw (one_more end at h, set)

pub first_later : (body : List ℕ) (end at : ℕ) → at < end → bit_of body at ≡ false
    → first_of_next body (end - at) at ≡ first_of_next body (end - (at + 1)) (at + 1)
first_later body end at h clear = rw (one_more end at h, clear, add-one)

pub first_none : (body : List ℕ) (end at : ℕ) → end ≤ at → first_of_next body (end - at) at ≡ None
first_none body end at h =
    let z : end - at ≡ 0 = omega arith in
    rw z
