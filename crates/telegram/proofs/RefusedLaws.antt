-- A byte string is refused with a number exactly where document 01 says so: `refused_exactly`.
use Rattle.std.proofs.Common.{None, Option, Some}
use Prim.Native.Nat.{ℕ, ◌+◌, ◌<◌, ◌≤◌}
use mathlib.Core.List.{List}
use mathlib.Core.Logic.{◌↔◌, inl, inr}
use mathlib.Core.Path.{◌≡◌, refl}
use native.Mathlib.Omega.{arith}
use lib.ListN.{length}
use Rattle.codes.proofs.FunctionCodeLaws.{code_reads, read_code}
use Rattle.codes.specs.FunctionCodes.{function_code_of}
use Rattle.codes.specs.declared.function_code.FunctionCode.{FunctionCode}
use Rattle.ground.proofs.Injective.{zero_one}
use Rattle.ground.specs.Part.{byte_at}
use Rattle.telegram.proofs.Answers.{DataStart, Frame, code_unknown, code_known, sap_missing, sum_differs, end_differs, Answered, unknown, lengths_differ, length_small, sd1, sd2, sd3, answer_is}
use Rattle.telegram.proofs.ReadingLaws.{reason}
use Rattle.telegram.specs.Begins.{Bytes}
use Rattle.telegram.specs.Reading.{refused, read_of}
use Rattle.telegram.specs.Refused.{Framed, framed_sd1, framed_sd2, framed_sd3, Coded, Refuses, unknown_start, lengths_unequal, length_too_small, no_code, no_sap, other_sum, other_end}

-- ---- a code's byte

-- A byte that is read is a code's.
coded : (b : ℕ) → b < 256 → {fc : FunctionCode} → function_code_of b ≡ Some fc → Coded b
coded b h {fc} e = record { fc = fc; its_byte = read_code b h fc e }

-- A byte that is none is not.
not_coded : (b : ℕ) → function_code_of b ≡ None → Coded b → ⊥
not_coded b e c = let f = code_reads c.its_byte in zero_one (cc)

no_code_read : (b : ℕ) → b < 256 → (Coded b → ⊥) → function_code_of b ≡ None
no_code_read b h none = by_found (function_code_of b) refl
  where
    by_found : (found : Option FunctionCode) → function_code_of b ≡ found → function_code_of b ≡ None
    by_found (Some fc) e = absurd (none (coded b h e))
    by_found None e = e

-- ---- refused, and why

module _ {s : List ℕ} (byte : Bytes s) where
  frame_why : {at l k : ℕ} → (at + l + 2 ≤ length s → Framed s at l) → Frame s at l (refused k) → Refuses s k
  frame_why {at} {l} framed (code_unknown h e) = no_code (framed h) (not_coded _ e)
  frame_why {at} {l} framed (code_known fc h e (sap_missing f)) = no_sap (framed h) (coded _ (byte (at + 2)) e) f
  frame_why {at} {l} framed (code_known fc h e (sum_differs f a)) = other_sum (framed h) (coded _ (byte (at + 2)) e) f a
  frame_why {at} {l} framed (code_known fc h e (end_differs f a b)) = other_end (framed h) (coded _ (byte (at + 2)) e) f a b

  why : {k : ℕ} → Answered s (refused k) → Refuses s k
  why (unknown h a b d) =
      unknown_start h
      (record {
        not_sc = a;
        not_sd4 = b;
        not_sd1 = λ e. d (inl e);
        not_sd2 = λ e. d (inr (inl e));
        not_sd3 = λ e. d (inr (inr e));
      })
  why (lengths_differ h d e) = lengths_unequal h d e
  why (length_small h d e l) = length_too_small h d e l
  why (sd1 h d f) = frame_why (λ g. framed_sd1 d h) f
  why (sd2 h d e l f) = frame_why (λ g. framed_sd2 d e l (omega arith)) f
  why (sd3 h d f) = frame_why (λ g. framed_sd3 d (omega arith)) f

  -- A frame's answer is the answer to the bytes.
  framed_answer : {at l k : ℕ} → Framed s at l → (at + l + 2 ≤ length s → Frame s at l (refused k)) → Answered s (refused k)
  framed_answer (framed_sd1 d h) frame = sd1 h d (frame (omega arith))
  framed_answer (framed_sd2 d e l h) frame = sd2 (omega arith) d e l (frame (omega arith))
  framed_answer (framed_sd3 d h) frame = sd3 (omega arith) d (frame (omega arith))

  so : {k : ℕ} → Refuses s k → Answered s (refused k)
  so (unknown_start h u) =
      unknown h u.not_sc u.not_sd4 none
    where
      none : DataStart (byte_at s 0) → ⊥
      none (inl e) = u.not_sd1 e
      none (inr (inl e)) = u.not_sd2 e
      none (inr (inr e)) = u.not_sd3 e
  so (lengths_unequal h d e) = lengths_differ h d e
  so (length_too_small h d e l) = length_small h d e l
  so (no_code {at} {l} framed none) =
      framed_answer framed (λ g. code_unknown g (no_code_read _ (byte (at + 2)) none))
  so (no_sap {at} {l} framed c f) = framed_answer framed (λ g. code_known c.fc g (code_reads c.its_byte) (sap_missing f))
  so (other_sum {at} {l} framed c f a) = framed_answer framed (λ g. code_known c.fc g (code_reads c.its_byte) (sum_differs f a))
  so (other_end {at} {l} framed c f a b) = framed_answer framed (λ g. code_known c.fc g (code_reads c.its_byte) (end_differs f a b))

-- Reading is refused with a number exactly where document 01 gives it.
pub refused_exactly : (s : List ℕ) (k : ℕ) → Bytes s → read_of s ≡ refused k ↔ Refuses s k
refused_exactly s k byte = (λ e. why byte (reason s e), λ r. answer_is (so byte r))
