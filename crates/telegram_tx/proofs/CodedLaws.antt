-- Writing by a header whose function code is a byte: what is sent so (`sends_bytes`, `sends_refusal`); and what it is where the byte came from outside:
-- `by_byte`.
use Rattle.std.proofs.Common.{Err, None, Ok, Option, Result, Some}
use Rattle.std.specs.Bool.{then_some}
use Prim.Native.Nat.{ℕ, ◌<◌}
use mathlib.Core.Path.{◌≡◌, refl, sym, ◌∙◌, ap}
use mathlib.Core.Bool.{Bool, true, false, ◌||◌}
use mathlib.Core.List.{List}
use lib.Dec.{ltb}
use lib.ListN.{length}
use Rattle.codes.proofs.FunctionCodeLaws.{written_read}
use Rattle.codes.specs.FunctionCodes.{code_byte, function_code_of, is_answered, reply_found}
use Rattle.codes.specs.RequestTypes.{expects_reply}
use Rattle.codes.specs.declared.function_code.FunctionCode.{FunctionCode}
use Rattle.codes.specs.declared.function_code.FunctionCode.TheVariants.{Request, Response}
use Rattle.ground.proofs.Injective.{zero_one}
use Rattle.ground.specs.Pick.{if}
use Rattle.ground.specs.Refusals.{OrRefused, gives, refused, number_of}
use Rattle.ground.specs.declared.address.Address.{Address}
use Rattle.ground.specs.declared.refusal.Refusal.{Refusal}
use Rattle.telegram.specs.Picture.{length_byte, telegram_bytes}
use Rattle.telegram_bytes.specs.Serialized.{coded_length, coded_bytes, serialize_of, front_of, serialized_to}
use Rattle.telegram_bytes.specs.declared.coded.CodedHeader.{CodedHeader}
use Rattle.telegram_tx.proofs.LengthLaws.{length_coded, telegram_coded}
use Rattle.telegram_tx.specs.Leaves.{coded_of, kept_header, Sends}
use Rattle.telegram_tx.specs.Writing.{shown_writing, reply_of, send_of, write_of, left_of, buffer_of, decoded, write_found, buffer_found}
use Rattle.telegram_tx.specs.declared.tx.TelegramTxResponse.{TelegramTxResponse}

-- ---- a header with a code of its byte has its bytes

coded_again : (h : CodedHeader) (fc : FunctionCode) → code_byte fc ≡ h.code → coded_of (decoded h fc) ≡ h
coded_again h fc e i = record { da = h.da; sa = h.sa; dsap = h.dsap; ssap = h.ssap; code = e i }

length_decoded :
    (h : CodedHeader) (fc : FunctionCode) (pdu : List ℕ) → code_byte fc ≡ h.code
    → length_byte (decoded h fc) pdu ≡ coded_length h pdu
length_decoded h fc pdu e = length_coded (decoded h fc) pdu ∙ ap (λ x. coded_length x pdu) (coded_again h fc e)

telegram_decoded :
    (h : CodedHeader) (fc : FunctionCode) (pdu : List ℕ) → code_byte fc ≡ h.code
    → telegram_bytes (decoded h fc) pdu ≡ coded_bytes h pdu
telegram_decoded h fc pdu e = telegram_coded (decoded h fc) pdu ∙ ap (λ x. coded_bytes x pdu) (coded_again h fc e)

-- ---- what was sent

-- the answer of the bytes' writer, with the station that a reply is expected from
abbrev responding : Option Address → OrRefused ℕ → OrRefused TelegramTxResponse
responding reply (gives n) = gives (record { bytes_sent = n; expects_reply = reply })
responding reply (refused n) = refused n

-- 8, 9, 10 and what is sent, by the same tests
in_order :
    (reply : Option Address) (n : ℕ) (eight nine ten : Bool)
    → if eight (refused 8) (if nine (refused 9) (if ten (refused 10) (responding reply (gives n))))
    ≡ responding reply (if eight (refused 8) (if nine (refused 9) (if ten (refused 10) (gives n))))
in_order reply n true nine ten = refl
in_order reply n false true ten = refl
in_order reply n false false true = refl
in_order reply n false false false = refl

left_responding : (reply : Option Address) (w : OrRefused ℕ) (t buf : List ℕ) → left_of (responding reply w) t buf ≡ front_of w t buf
left_responding reply (gives n) t buf = refl
left_responding reply (refused n) t buf = refl

module _ (h : CodedHeader) (fc : FunctionCode) (pdu : List ℕ) (e : code_byte fc ≡ h.code) where
  write_decoded : (room : ℕ) → write_of (decoded h fc) pdu room ≡ responding (reply_of h.da fc) (serialize_of h pdu room)
  unfolding write_of send_of serialize_of
  write_decoded room =
      rw (length_decoded h fc pdu e, telegram_decoded h fc pdu e)
      (in_order (reply_of h.da fc) (length (coded_bytes h pdu)) (ltb 127 h.da.0 || ltb 127 h.sa.0) (ltb 249 (coded_length h pdu))
      (ltb room (length (coded_bytes h pdu))))

  buffer_decoded : (buf : List ℕ) → buffer_of (decoded h fc) pdu buf ≡ serialized_to h pdu buf
  buffer_decoded buf =
      rw (write_decoded, telegram_decoded h fc pdu e) (left_responding (reply_of h.da fc) (serialize_of h pdu (length buf)) (coded_bytes h pdu) buf)

-- What the bytes' writer answers and leaves is sent so.
module _ (h : CodedHeader) (reply : Option Address) (pdu buf after : List ℕ) (left : after ≡ serialized_to h pdu buf) where
  sends :
      (w : OrRefused ℕ) (r : Result TelegramTxResponse Refusal) → w ≡ serialize_of h pdu (length buf) → shown_writing r ≡ responding reply w
      → Sends h reply pdu buf r after
  sends w r is shows fc e f = (
    shows ∙ rw (is, ← f) (sym (write_decoded h fc pdu e (length buf))),
    left ∙ sym (buffer_decoded h fc pdu e buf),
  )

  pub sends_bytes :
      (n : ℕ) (response : TelegramTxResponse) → gives n ≡ serialize_of h pdu (length buf)
      → response ≡ record { bytes_sent = n; expects_reply = reply }
      → Sends h reply pdu buf (Ok response) after
  sends_bytes n response is e = sends (gives n) (Ok response) is (ap gives e)

  pub sends_refusal :
      (refusal : Refusal) → refused (number_of refusal) ≡ serialize_of h pdu (length buf)
      → Sends h reply pdu buf (Err refusal) after
  sends_refusal refusal is = sends (refused (number_of refusal)) (Err refusal) is refl

-- ---- a header with a byte

some_where : (t : Bool) (da : Address) → if t (Some da) None ≡ then_some t da
some_where true da = refl
some_where false da = refl

answered : (da : Address) (fc : FunctionCode) → reply_of da fc ≡ then_some (is_answered fc) da
answered da (Request fcb req) = some_where (expects_reply req) da
answered da (Response state status) = refl

-- Any other goes out as the byte that is written for the code that it is read as.
pub by_byte :
    (h : CodedHeader) (pdu buf : List ℕ) (r : Result TelegramTxResponse Refusal) (after : List ℕ) (t : Bool) (found : Option FunctionCode)
    → function_code_of h.code ≡ found → h.code < 256 → Some t ≡ reply_found found
    → Sends (kept_header h) (then_some t h.da) pdu buf r after
    → (shown_writing r ≡ write_found found h pdu (length buf)) × (after ≡ buffer_found found h pdu buf)
by_byte h pdu buf r after t (Some fc) is small e s =
    let same : is_answered fc ≡ t = cc in
    s fc (written_read h.code small fc is) (answered h.da fc ∙ rw same)
by_byte h pdu buf r after t None is small e s = absurd (zero_one (cc))
