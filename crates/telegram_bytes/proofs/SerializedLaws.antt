-- Laws of the answer and of the buffer that is left: one for each refusal, and one for what is written.
use Rattle.std.proofs.Common.{◌≡◌, ℕ, ◌<◌, ◌≤◌, List, ◌++◌, length, drop, sym, refl, ap, ◌∙◌, le-ltb, lt-ltb, Err, None, Ok, Option, Result, Some, ok_or}
use mathlib.Core.Bool.{or-true}
use Rattle.ground.proofs.Injective.{injective}
use Rattle.ground.proofs.RefusalLaws.{refusal_of, refusal_again}
use Rattle.ground.specs.Refusals.{OrRefused, gives, refused}
use Rattle.ground.specs.declared.refusal.Refusal.TheVariants.{NoRoom}
use Rattle.telegram_bytes.proofs.LeafLaws.{front_stored}
use Rattle.telegram_bytes.specs.Leaves.{Fitted}
use Rattle.telegram_bytes.specs.Serialized.{coded_length, coded_bytes, shown_serialized, serialize_of, front_of, serialized_to}
use Rattle.telegram_bytes.specs.declared.coded.CodedHeader.{CodedHeader}
use Rattle.ground.specs.declared.refusal.Refusal.{Refusal}

-- A refused call leaves the buffer as it came; what is written stands at its front.
stays : (n : ℕ) (w : OrRefused ℕ) (t buf : List ℕ) → w ≡ refused n → (refused n ≡ w) × (buf ≡ front_of w t buf)
stays n w t buf e = (sym e, rw e)

stands :
    (n : ℕ) (w : OrRefused ℕ) (t buf after : List ℕ) → w ≡ gives n → after ≡ t ++ drop (length t) buf
    → (gives n ≡ w) × (after ≡ front_of w t buf)
stands n w t buf after e f = (sym e, rw e f)

module _ (h : CodedHeader) (pdu buf : List ℕ) where
  is_8_da : 127 < h.da.0 → serialize_of h pdu (length buf) ≡ refused 8
  unfolding serialize_of
  is_8_da p = rw (lt-ltb 127 h.da.0 p)

  is_8_sa : 127 < h.sa.0 → serialize_of h pdu (length buf) ≡ refused 8
  unfolding serialize_of
  is_8_sa p = rw (lt-ltb 127 h.sa.0 p, or-true)

  pub refused_8_da : 127 < h.da.0 → (refused 8 ≡ serialize_of h pdu (length buf)) × (buf ≡ serialized_to h pdu buf)
  refused_8_da p = stays _ _ _ _ (is_8_da p)

  pub refused_8_sa : 127 < h.sa.0 → (refused 8 ≡ serialize_of h pdu (length buf)) × (buf ≡ serialized_to h pdu buf)
  refused_8_sa p = stays _ _ _ _ (is_8_sa p)

  module _ (da : h.da.0 ≤ 127) (sa : h.sa.0 ≤ 127) where
    is_9 : 249 < coded_length h pdu → serialize_of h pdu (length buf) ≡ refused 9
    unfolding serialize_of
    is_9 p = rw (le-ltb 127 h.da.0 da, le-ltb 127 h.sa.0 sa, lt-ltb 249 (coded_length h pdu) p)

    pub refused_9 :
        249 < coded_length h pdu → (refused 9 ≡ serialize_of h pdu (length buf)) × (buf ≡ serialized_to h pdu buf)
    refused_9 p = stays _ _ _ _ (is_9 p)

    module _ (short : coded_length h pdu ≤ 249) where
      is_10 : length buf < length (coded_bytes h pdu) → serialize_of h pdu (length buf) ≡ refused 10
      unfolding serialize_of
      is_10 p =
          rw (le-ltb 127 h.da.0 da, le-ltb 127 h.sa.0 sa, le-ltb 249 (coded_length h pdu) short, lt-ltb (length buf) (length (coded_bytes h pdu)) p)

      is_written : length (coded_bytes h pdu) ≤ length buf → serialize_of h pdu (length buf) ≡ gives (length (coded_bytes h pdu))
      unfolding serialize_of
      is_written p =
          rw (le-ltb 127 h.da.0 da, le-ltb 127 h.sa.0 sa, le-ltb 249 (coded_length h pdu) short, le-ltb (length buf) (length (coded_bytes h pdu)) p)

      pub refused_10 :
          length buf < length (coded_bytes h pdu)
          → (refused 10 ≡ serialize_of h pdu (length buf)) × (buf ≡ serialized_to h pdu buf)
      refused_10 p = stays _ _ _ _ (is_10 p)

      -- Addresses up to 127, a length byte up to 249 and enough room: the telegram is written.
      pub written :
          (n : ℕ) (after : List ℕ) → n ≡ length (coded_bytes h pdu) → length (coded_bytes h pdu) ≤ length buf
          → after ≡ coded_bytes h pdu ++ drop (length (coded_bytes h pdu)) buf
          → (gives n ≡ serialize_of h pdu (length buf)) × (after ≡ serialized_to h pdu buf)
      written n after e p f = stands n _ (coded_bytes h pdu) buf after (rw e (is_written p)) f

      -- The room decides between the two: what was fitted, or not, into the buffer is what is written or refused.
      pub fitted_serialized :
          (r : Option ℕ) {after : List ℕ} {answer : Result ℕ Refusal}
          → Fitted buf (length (coded_bytes h pdu)) (coded_bytes h pdu) r after → answer ≡ ok_or r NoRoom
          → (shown_serialized answer ≡ serialize_of h pdu (length buf)) × (after ≡ serialized_to h pdu buf)
      fitted_serialized None x e = let refusal = refused_10 x.0 in (rw e refusal.0, x.1 ∙ refusal.1)
      fitted_serialized (Some n) {after} x e =
          let fitted = front_stored x.0 x.1 in
          let answer = written n after fitted.0 x.0 fitted.1 in
          (rw e answer.0, answer.1)

-- What is answered is the one that its answer, as it is shown, leads back to.
abbrev serialized_back : OrRefused ℕ → Result ℕ Refusal
serialized_back (gives n) = Ok n
serialized_back (refused n) = Err (refusal_of n)

serialized_again : (x : Result ℕ Refusal) → serialized_back (shown_serialized x) ≡ x
serialized_again (Ok n) = refl
serialized_again (Err r) = ap Err (refusal_again r)

pub shown_serialized_injective : (x y : Result ℕ Refusal) → shown_serialized x ≡ shown_serialized y → x ≡ y
shown_serialized_injective = injective shown_serialized serialized_back serialized_again
