-- Laws of bytes at the front of a buffer: where they fit, where they do not, and the loop that copies them.
use mathlib.Core.Path.{◌≡◌, refl}
use mathlib.Core.List.{List, ◌++◌}
use Prim.Native.Nat.{ℕ, ◌+◌, ◌≤◌, ◌<◌}
use native.Mathlib.Nat.{zero-add}
use native.Mathlib.Numerals.{add-one}
use native.Mathlib.Omega.{arith}
use lib.ListN.{length, take, drop, get_or, set}
use lib.Seq.{take-length, take-append_seam, paste-suc}
use borrow.Author.Tests.{le-leb, lt-leb}
use Rattle.ground.specs.Front.{copied_to}

pub copied_fits :
    (buffer bytes : List ℕ) → length bytes ≤ length buffer
    → copied_to buffer bytes ≡ bytes ++ drop (length bytes) buffer
unfolding copied_to
copied_fits buffer bytes h = rw (le-leb _ _ h)

pub copied_short : (buffer bytes : List ℕ) → length buffer < length bytes → copied_to buffer bytes ≡ buffer
unfolding copied_to
copied_short buffer bytes h = rw (lt-leb _ _ h)

-- What was copied stands at the front.
pub copied_front :
    (buffer bytes : List ℕ) → length bytes ≤ length buffer
    → take (length bytes) (copied_to buffer bytes) ≡ bytes
copied_front buffer bytes h = rw (copied_fits buffer bytes h) (take-append_seam bytes (drop (length bytes) buffer))

-- What the copying loop keeps: the first i bytes stand at the front, and behind them what stood there. At the start, with
-- one byte more copied, and at the end.
pub Copied : List ℕ → List ℕ → ℕ → List ℕ → Type 0
Copied bytes before i now = now ≡ take i bytes ++ drop i before

pub copy_starts : (bytes before : List ℕ) → Copied bytes before 0 before
unfolding Copied
copy_starts bytes before = refl

pub copy_goes_on :
    (bytes before : List ℕ) (i : ℕ) (now : List ℕ) → i < length bytes → length bytes ≤ length before → Copied bytes before i now
    → Copied bytes before (i + 1) (set now i (get_or bytes i 0))
unfolding Copied
copy_goes_on bytes before i now h l e =
    rw (e, add-one) (simp zero-add at (paste-suc before 0 bytes i 0 (rw zero-add (omega arith)) h))

pub copy_ends :
    (bytes before : List ℕ) (i : ℕ) (now : List ℕ) → i ≤ length bytes → length bytes ≤ i → Copied bytes before i now
    → now ≡ bytes ++ drop (length bytes) before
unfolding Copied
copy_ends bytes before i now h l e =
    let all : i ≡ length bytes = omega arith in
    rw (all, take-length bytes) at e
