-- Laws of `Placed`: nothing laid down, `none`; one row after another, `then`; a row that fits; and the loop that lays bytes down one by one.
use mathlib.Core.Path.{◌≡◌, refl, sym, ap, ◌∙◌}
use mathlib.Core.List.{List, [], ◌∷◌, ◌++◌}
use Prim.Native.Nat.{ℕ, suc, ◌+◌, ◌≤◌, ◌<◌, min}
use native.Mathlib.Decide.{dec_le}
use native.Mathlib.Numerals.{add-one}
use native.Mathlib.Omega.{arith}
use lib.ListN.{length, get_or, set, take, drop, length-append, length-set}
use lib.Seq.{set_out, length-sets, take-suc, take_all, take-append_seam}
use Rattle.ground.proofs.StoreLaws.{stores_then, stores_front}
use Rattle.text.specs.Placed.{laid, behind, Placed}

-- stores from beyond the end change nothing
pub laid_out : (buffer : List ℕ) (at : ℕ) (bytes : List ℕ) → length buffer ≤ at → laid buffer at bytes ≡ buffer
laid_out buffer at [] h = refl
laid_out buffer at (b ∷ bytes) h =
    laid_out (set buffer at b) (suc at) bytes (simp length-set (omega arith)) ∙ set_out buffer at b h

pub laid_length : (buffer : List ℕ) (at : ℕ) (bytes : List ℕ) → length (laid buffer at bytes) ≡ length buffer
laid_length buffer at bytes = length-sets buffer at bytes

-- from the place that was answered, which stops at one past the end, the next row goes where it belongs
laid_behind : (buffer : List ℕ) (at : ℕ) (p q : List ℕ) → laid (laid buffer at p) (behind buffer at p) q ≡ laid buffer at (p ++ q)
laid_behind buffer at p q = go (dec_le (at + length p) (length buffer + 1))
  where
    go : Dec (at + length p ≤ length buffer + 1) → laid (laid buffer at p) (behind buffer at p) q ≡ laid buffer at (p ++ q)
    go (yes h) = ap (λ (k : ℕ). laid (laid buffer at p) k q) (omega arith) ∙ stores_then buffer at p q
    go (no h) =
        laid_out (laid buffer at p) (behind buffer at p) q (rw laid_length (omega arith))
        ∙ sym (laid_out (laid buffer at p) (at + length p) q (rw laid_length (omega arith)))
        ∙ stores_then buffer at p q

-- a row of no bytes: the place is clipped, the buffer stays
pub none : {buffer : List ℕ} {at next : ℕ} → next ≡ min at (length buffer + 1) → Placed buffer at [] next buffer
none e = record { place = omega arith; buffer = refl }

-- one row of bytes, and another from the place that the first answered: both together
pub then : {before after last : List ℕ} {at next end : ℕ} {p q : List ℕ} → Placed before at p next after → Placed after next q end last
    → Placed before at (p ++ q) end last
then {before} {at = at} {p = p} {q = q} f g = record {
  place = rw (g.place, f.place, f.buffer, laid_length before at p, length-append p q) (omega arith);
  buffer = g.buffer ∙ rw (f.buffer, f.place) (laid_behind before at p q);
}

-- what a call that lays bytes down leaves is as long as it was
pub kept : {before after : List ℕ} {at next : ℕ} {p : List ℕ} → Placed before at p next after → length after ≡ length before
kept {before} {at = at} {p = p} f = rw f.buffer (laid_length before at p)

-- where there is room, the place is just behind the bytes
pub place_fits : {before after : List ℕ} {at next : ℕ} {p : List ℕ} → Placed before at p next after → at + length p ≤ length before
    → next ≡ at + length p
place_fits f h = omega (arith, f.place)

-- at the front of a buffer with room for them, the bytes stand in front of their length
pub laid_front : (buffer p : List ℕ) → length p ≤ length buffer → take (length p) (laid buffer 0 p) ≡ p
laid_front buffer p h = ap (take (length p)) (stores_front buffer p h) ∙ take-append_seam p (drop (length p) buffer)

-- as many bytes as the buffer has are all that it then holds
pub laid_whole : (buffer p : List ℕ) → length p ≡ length buffer → laid buffer 0 p ≡ p
laid_whole buffer p h =
    sym (take_all (length p) (laid buffer 0 p) (rw laid_length (omega arith))) ∙ laid_front buffer p (omega arith)

-- the loop that lays bytes down one by one: with one byte more
pub bytes_turn : {before after last : List ℕ} (bytes : List ℕ) {at next end : ℕ} (i : ℕ) → i < length bytes → Placed before at (take i bytes) next after
    → Placed after next (get_or bytes i 0 ∷ []) end last
    → Placed before at (take (i + 1) bytes) end last
bytes_turn bytes i h f g = rw (add-one i, take-suc bytes i 0 h) (then f g)
