-- Laws of what a leaf leaves in the buffer: bytes stored, two writes one behind the other, and a telegram written part by part
-- (`telegram_stored`).
use Rattle.std.proofs.Common.{◌≡◌, ℕ, ◌+◌, ◌<◌, ◌≤◌, List, [], ◌∷◌, ◌++◌, length, get_or, take, drop, set, refl, ◌∙◌, append_assoc, append-nil, add-zero, add_assoc, zero-add, add-one, arith, length-append, drop_of_length-le, take_all, drop-drop}
use native.Mathlib.Nat.{mod-add-mod}
use lib.Seq.{sets, sets-eq, paste-suc}
use borrow.Rule.Slice.PartMut.{put_mid}
use Rattle.ground.proofs.StoreLaws.{stores_then, stores_front}
use Rattle.codes.proofs.ChecksumLaws.{sum_append}
use Rattle.codes.specs.Checksums.{sum_of, checksum_of}
use Rattle.codes.specs.Delimiters.{ED}
use Rattle.telegram.specs.Picture.{start_bytes}
use Rattle.telegram_bytes.specs.Leaves.{Stored, Covers}
use Rattle.telegram_bytes.specs.Serialized.{coded_head, coded_length, coded_bytes}
use Rattle.telegram_bytes.specs.declared.coded.CodedHeader.{CodedHeader}
use Rattle.telegram_bytes.specs.declared.put.Place.{Place}

-- Two writes one behind the other are one of both.
pub stored_then :
    {b b₁ b₂ : List ℕ} {at r₁ r₂ : ℕ} {p q : List ℕ} → Stored b at p r₁ b₁ → Stored b₁ r₁ q r₂ b₂
    → Stored b at (p ++ q) r₂ b₂
stored_then {b} {at = at} {p = p} {q = q} x y =
    record {
      next_place = rw (y.next_place, x.next_place, length-append) (add_assoc at (length p) (length q));
      buffer = y.buffer ∙ rw (x.next_place, x.buffer) (stores_then b at p q);
    }

pub covers_then :
    {b b₁ b₂ : List ℕ} {place r₁ r₂ : Place} {p q : List ℕ} → Covers b place p r₁ b₁ → Covers b₁ r₁ q r₂ b₂
    → Covers b place (p ++ q) r₂ b₂
covers_then x y =
    record {
      stored = stored_then x.stored y.stored;
      sum = y.sum ∙ rw (x.sum, mod-add-mod, sum_append, add_assoc);
    }

-- A write at the front of a buffer with room for it.
pub front_stored :
    {b t after : List ℕ} {r : ℕ} → length t ≤ length b → Stored b 0 t r after
    → (r ≡ length t) × (after ≡ t ++ drop (length t) b)
front_stored {b} {t} room x = (rw zero-add at x.next_place, x.buffer ∙ stores_front b t room)

-- What one byte, and no byte, adds to the sum.
pub byte_summed : (x : ℕ) → sum_of (x ∷ []) ≡ x
unfolding sum_of
byte_summed x = add-zero x

pub nothing_summed : sum_of [] ≡ 0
unfolding sum_of
nothing_summed = refl

-- What the copying loop keeps: the first i bytes have come, the others are as they were. At the start, with one byte more copied, and at the end.
pub Copied : List ℕ → List ℕ → ℕ → List ℕ → Type 0
Copied bytes before i now = now ≡ take i bytes ++ drop i before

pub copy_starts : (bytes before : List ℕ) → Copied bytes before 0 before
unfolding Copied
copy_starts bytes before = refl

pub copy_goes_on :
    (bytes before : List ℕ) (i : ℕ) (now : List ℕ) → i < length bytes → length bytes ≡ length before → Copied bytes before i now
    → Copied bytes before (i + 1) (set now i (get_or bytes i 0))
unfolding Copied
copy_goes_on bytes before i now h l e =
    rw (e, add-one) (simp zero-add at (paste-suc before 0 bytes i 0 (rw zero-add (omega arith)) h))

pub copy_ends :
    (bytes before : List ℕ) (i : ℕ) (now : List ℕ) → length bytes ≤ i → length bytes ≡ length before → Copied bytes before i now
    → now ≡ bytes
unfolding Copied
copy_ends bytes before i now l same e =
    e ∙ rw (take_all i bytes l, drop_of_length-le before {i = i} (omega arith), append-nil)

-- A part is lent, the bytes p are copied into all of it, and it comes back.
pub part_stored :
    (b : List ℕ) (at n : ℕ) (p part : List ℕ) → part ≡ p → n ≡ length p → at + length p ≤ length b
    → put_mid at n b part ≡ sets b at p
part_stored b at n p part f e h = rw (f, e, drop-drop, sets-eq p b at h, append_assoc)

-- The parts of a data telegram, written one behind the other, are the telegram.
pub telegram_stored :
    {b b₁ b₂ b₃ b₄ : List ℕ} {at end l : ℕ} {m e : Place} (h : CodedHeader) (pdu : List ℕ)
    → l ≡ coded_length h pdu
    → Stored b 0 (start_bytes l) at b₁
    → Covers b₁ (record { at = at; sum = 0 }) (coded_head h) m b₂
    → Covers b₂ m pdu e b₃
    → Stored b₃ e.at (e.sum ∷ ED ∷ []) end b₄
    → Stored b 0 (coded_bytes h pdu) end b₄
unfolding coded_bytes checksum_of
telegram_stored {e = e} h pdu long start head body tail =
    let covered = covers_then head body in
    let checksum : e.sum ≡ checksum_of (coded_head h ++ pdu) = covered.sum ∙ rw zero-add in
    rw (← checksum, ← long) (stored_then (stored_then start covered.stored) tail)
