-- Laws of a part of a byte string: how long it is, its bytes, the part between two others; and what is shown of a part that fits the
-- bytes, and of one that does not.
use Prim.Native.Nat.{ℕ, ◌+◌, ◌-◌, ◌<◌, ◌≤◌}
use mathlib.Core.Path.{◌≡◌, ◌∙◌}
use mathlib.Core.List.{List, ◌++◌}
use native.Mathlib.Nat.{add-sub_cancel_left}
use native.Mathlib.Omega.{arith}
use lib.ListN.{length, drop, length-append, length-take, length-drop}
use lib.Seq.{get_or-take, get_or-drop, take-append_seam, drop-append_seam}
use borrow.Author.Tests.{le-leb, lt-leb}
use Rattle.ground.specs.Part.{part, byte_at, shown_part}
use Rattle.ground.specs.declared.part.Part.{Part}

pub part_length : (s : List ℕ) (at l : ℕ) → at + l ≤ length s → length (part s at (at + l)) ≡ l
part_length s at l h = simp (length-take, length-drop) (omega arith)

pub part_at : (s : List ℕ) (at l i : ℕ) → i < l → byte_at (part s at (at + l)) i ≡ byte_at s (at + i)
part_at s at l i h = rw (get_or-take (at + l - at) (drop at s) i 0 (omega arith), get_or-drop)

-- The part between two others.
pub part_between : (a b c : List ℕ) → part (a ++ (b ++ c)) (length a) (length a + length b) ≡ b
part_between a b c = rw (add-sub_cancel_left, drop-append_seam a, take-append_seam)

-- What is shown of a part that fits the bytes, and of one that does not.
pub shown_fits :
    (p : Part) (s : List ℕ) → p.start + p.len ≤ length s
    → shown_part p s ≡ part s p.start (p.start + p.len)
unfolding shown_part
shown_fits p s h = rw (le-leb _ _ h)

pub shown_short :
    (p : Part) (s : List ℕ) → length s < p.start + p.len
    → shown_part p s ≡ part s (length s) (length s)
unfolding shown_part
shown_short p s h = rw (lt-leb _ _ h)

-- The part between two others is what is shown of the whole at its place.
pub shown_between :
    (p : Part) (a b c : List ℕ) → p.start ≡ length a → p.len ≡ length b
    → shown_part p (a ++ (b ++ c)) ≡ b
shown_between p a b c place len =
    shown_fits p (a ++ (b ++ c)) (simp length-append (omega arith)) ∙ rw (place, len) (part_between a b c)
