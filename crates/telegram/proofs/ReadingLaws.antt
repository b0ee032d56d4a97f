-- Laws of reading, for callers: how long a telegram is and where its PDU lies; that two answers of the reader that are shown alike are alike.
-- (When an answer is incomplete: AskedLaws; refused: RefusedLaws.)
use Prim.Native.Nat.{ℕ, ◌+◌, ◌≤◌}
use mathlib.Core.List.{List}
use mathlib.Core.Path.{◌≡◌, refl, sym, ◌∙◌, ap}
use native.Mathlib.Omega.{arith}
use lib.ListN.{length}
use Rattle.ground.proofs.Injective.{injective}
use Rattle.ground.proofs.RefusalLaws.{refusal_of, refusal_again}
use Rattle.ground.specs.Refusals.{number_of}
use Rattle.ground.specs.declared.refusal.Refusal.{Refusal}
use Rattle.telegram.proofs.Answers.{sap_missing, sum_differs, end_differs, whole_length, whole_data, whole_saps, Frame, code_unknown, code_known, Answered, confirmation, token_whole, unknown, lengths_differ, length_small, sd1, sd2, sd3, answered}
use Rattle.telegram.specs.Begins.{Bytes}
use Rattle.telegram.specs.Reading.{Reading, whole, incomplete, refused, header_at, shown_reading, read_of}
use Rattle.telegram.specs.declared.deserialize.Deserialized.{Deserialized}
use Rattle.telegram.specs.declared.deserialize.Deserialized.TheVariants as deserialized
use Rattle.telegram.specs.declared.kinds.DataTelegram.{DataTelegram}
use Rattle.telegram.specs.declared.kinds.Telegram.{Telegram}
use Rattle.telegram.specs.declared.kinds.Telegram.TheVariants.{Data}

-- For a caller of `Telegram::deserialize`, what an arm of its answer says of the bytes.
module _ (s : List ℕ) (r : Deserialized) (promise : shown_reading r ≡ read_of s) where
  pub told_whole : {t : Telegram} {n : ℕ} → r ≡ deserialized.Telegram t n → read_of s ≡ whole t n
  told_whole e = sym promise ∙ ap shown_reading e

  pub told_incomplete : r ≡ deserialized.Incomplete → read_of s ≡ incomplete
  told_incomplete e = sym promise ∙ ap shown_reading e

  pub told_refused : {refusal : Refusal} → r ≡ deserialized.Refused refusal → read_of s ≡ refused (number_of refusal)
  told_refused e = sym promise ∙ ap shown_reading e

-- The reason for an answer that is known.
pub reason : (s : List ℕ) {r : Reading} → read_of s ≡ r → Answered s r
reason s e = rw e at (answered s)

within : {s : List ℕ} {t : Telegram} {n : ℕ} → Answered s (whole t n) → n ≤ length s
within (confirmation h e) = h
within (token_whole h e) = h
within (sd1 h d (code_known fc g e c)) = omega (arith, whole_length fc c)
within (sd2 h d q l (code_known fc g e c)) = omega (arith, whole_length fc c)
within (sd3 h d (code_known fc g e c)) = omega (arith, whole_length fc c)

-- A telegram's length lies within the bytes.
pub total_within : (s : List ℕ) {t : Telegram} {n : ℕ} → read_of s ≡ whole t n → n ≤ length s
total_within s e = within (reason s e)

positive : {s : List ℕ} {t : Telegram} {n : ℕ} → Answered s (whole t n) → 1 ≤ n
positive (confirmation h e) = omega arith
positive (token_whole h e) = omega arith
positive (sd1 h d (code_known fc g e c)) = omega (arith, whole_length fc c)
positive (sd2 h d q l (code_known fc g e c)) = omega (arith, whole_length fc c)
positive (sd3 h d (code_known fc g e c)) = omega (arith, whole_length fc c)

-- No telegram is empty.
pub total_positive : (s : List ℕ) {t : Telegram} {n : ℕ} → read_of s ≡ whole t n → 1 ≤ n
total_positive s e = positive (reason s e)

small : {s : List ℕ} {t : Telegram} {n : ℕ} → Bytes s → Answered s (whole t n) → n ≤ 261
small byte (confirmation h e) = omega arith
small byte (token_whole h e) = omega arith
small byte (sd1 h d (code_known fc g e c)) = omega (arith, whole_length fc c)
small byte (sd2 h d q l (code_known fc g e c)) = omega (arith, byte 1, whole_length fc c)
small byte (sd3 h d (code_known fc g e c)) = omega (arith, whole_length fc c)

-- No telegram is longer than 261 bytes.
pub total_small : (s : List ℕ) {t : Telegram} {n : ℕ} → Bytes s → read_of s ≡ whole t n → n ≤ 261
total_small s byte e = small byte (reason s e)

ends : {s : List ℕ} {d : DataTelegram} {n : ℕ} → Answered s (whole (Data d) n) → d.pdu.start + d.pdu.len + 2 ≡ n
ends (sd1 h d (code_known fc g e c)) = rw (whole_data fc c, whole_length fc c) (omega (arith, whole_saps fc c))
ends (sd2 h d q l (code_known fc g e c)) = rw (whole_data fc c, whole_length fc c) (omega (arith, whole_saps fc c))
ends (sd3 h d (code_known fc g e c)) = rw (whole_data fc c, whole_length fc c) (omega (arith, whole_saps fc c))

-- Behind a telegram's PDU stand the checksum and the end delimiter.
pub pdu_ends :
    (s : List ℕ) {d : DataTelegram} {n : ℕ} → read_of s ≡ whole (Data d) n
    → d.pdu.start + d.pdu.len + 2 ≡ n
pdu_ends s e = ends (reason s e)

-- A telegram's PDU lies within it.
pub pdu_within :
    (s : List ℕ) {d : DataTelegram} {n : ℕ} → read_of s ≡ whole (Data d) n
    → d.pdu.start + d.pdu.len ≤ n
pdu_within s e = omega (arith, pdu_ends s e)

seven_bits : {s : List ℕ} {d : DataTelegram} {n : ℕ} → Answered s (whole (Data d) n) → (d.h.da.0 ≤ 127) × (d.h.sa.0 ≤ 127)
unfolding header_at
seven_bits (sd1 h d (code_known fc g e c)) = rw (whole_data fc c) (omega arith)
seven_bits (sd2 h d q l (code_known fc g e c)) = rw (whole_data fc c) (omega arith)
seven_bits (sd3 h d (code_known fc g e c)) = rw (whole_data fc c) (omega arith)

-- The addresses of a data telegram are at most 127.
pub addresses_small :
    (s : List ℕ) {d : DataTelegram} {n : ℕ} → read_of s ≡ whole (Data d) n
    → (d.h.da.0 ≤ 127) × (d.h.sa.0 ≤ 127)
addresses_small s e = seven_bits (reason s e)

frame_numbered : {s : List ℕ} {at l k : ℕ} → Frame s at l (refused k) → (1 ≤ k) × (k ≤ 7)
frame_numbered (code_unknown h e) = omega arith
frame_numbered (code_known fc h e (sap_missing f)) = omega arith
frame_numbered (code_known fc h e (sum_differs f a)) = omega arith
frame_numbered (code_known fc h e (end_differs f a b)) = omega arith

numbered : {s : List ℕ} {k : ℕ} → Answered s (refused k) → (1 ≤ k) × (k ≤ 7)
numbered (unknown h a b d) = omega arith
numbered (lengths_differ h d e) = omega arith
numbered (length_small h d e l) = omega arith
numbered (sd1 h d f) = frame_numbered f
numbered (sd2 h d e l f) = frame_numbered f
numbered (sd3 h d f) = frame_numbered f

-- Reading is refused with one of 1 to 7.
pub refused_numbered : (s : List ℕ) {k : ℕ} → read_of s ≡ refused k → (1 ≤ k) × (k ≤ 7)
refused_numbered s e = numbered (reason s e)

-- What the reader answers is the one that its answer, as it is shown, leads back to.
abbrev reading_back : Reading → Deserialized
reading_back (whole t n) = deserialized.Telegram t n
reading_back incomplete = deserialized.Incomplete
reading_back (refused k) = deserialized.Refused (refusal_of k)

reading_again : (x : Deserialized) → reading_back (shown_reading x) ≡ x
reading_again (deserialized.Telegram t n) = refl
reading_again deserialized.Incomplete = refl
reading_again (deserialized.Refused r) = ap deserialized.Refused (refusal_again r)

pub shown_reading_injective : (x y : Deserialized) → shown_reading x ≡ shown_reading y → x ≡ y
shown_reading_injective = injective shown_reading reading_back reading_again
