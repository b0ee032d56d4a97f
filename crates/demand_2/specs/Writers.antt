-- Demand 2 of any writer, `IsWriter`: what each call answers and how it leaves the lent buffer. A telegram is the standard's picture of the header and
-- PDU given, but for SAPs and addresses, which are the caller's. No two writers differ (`one_writer` of proofs/OurWriter.antt).
use Rattle.std.specs.Prelude.{ℕ, ◌<◌, ◌≤◌, List, ◌++◌, ◌⊎◌, ◌≡◌, length, drop, None, Option}
use Rattle.ground.specs.Refusals.{OrRefused, gives, refused}
use Rattle.ground.specs.declared.address.Address.{Address}
use Rattle.telegram.specs.Begins.{written, DrawsData, AsWritten}
use Rattle.telegram.specs.Picture.{at_front, length_byte, token_bytes, confirmation_bytes}
use Rattle.telegram.specs.declared.header.DataTelegramHeader.{DataTelegramHeader}
use Rattle.telegram_tx.specs.Writing.{reply_of}
use Rattle.telegram_tx.specs.declared.tx.TelegramTxResponse.{TelegramTxResponse}

-- what a call gives: its answer, or its refusal's number; and the lent buffer afterwards
pub record Wrote : Type 0 where
  pub answer : OrRefused TelegramTxResponse
  pub buffer : List ℕ

-- a writer: its calls, each on a lent buffer, the last argument
pub record Writer : Type 0 where
  pub write_data : DataTelegramHeader → List ℕ → List ℕ → Wrote
  pub write_token : Address → Address → List ℕ → Wrote
  pub write_confirmation : List ℕ → Wrote

-- a refused call: the buffer stays
abbrev pub refusing : ℕ → List ℕ → Wrote
refusing number buf = record { answer = refused number; buffer = buf }

-- bytes sent: at the buffer's front, and "bytes past the telegram stay"; with the station from which a reply is expected, if from one
abbrev pub sending : List ℕ → Option Address → List ℕ → Wrote
sending t reply buf =
    record {
      answer = gives (record { bytes_sent = length t; expects_reply = reply });
      buffer = t ++ drop (length t) buf;
    }

-- These bytes are the picture of a header and of this very PDU, with the start that its length byte gives: "3 gives SD1, 11 gives SD3 (SAPs
-- counted too), others SD2".
pub record Pictures (h : DataTelegramHeader) (pdu picture : List ℕ) : Type 0 where
  pub draws : DrawsData written (at_front h pdu) picture
  pub its_pdu : draws.pdu ≡ pdu
  pub as_written : AsWritten draws

-- The bytes are written where they fit, and "buffer too short": 10.
pub data Sends (t : List ℕ) (reply : Option Address) (buf : List ℕ) : Wrote → Type 0 where
  fits : length t ≤ length buf → Sends t reply buf (sending t reply buf)
  no_room : length buf < length t → Sends t reply buf (refusing 10 buf)

-- A data telegram: "writing 8, 9, 10".
pub data WritesData (h : DataTelegramHeader) (pdu buf : List ℕ) : Wrote → Type 0 where
  -- "da or sa above 127"
  address_too_large : (127 < h.da.0) ⊎ (127 < h.sa.0) → WritesData h pdu buf (refusing 8 buf)
  -- "length byte above 249"
  too_long : h.da.0 ≤ 127 → h.sa.0 ≤ 127 → 249 < length_byte h pdu → WritesData h pdu buf (refusing 9 buf)
  sends :
      {picture : List ℕ} {wrote : Wrote} → h.da.0 ≤ 127 → h.sa.0 ≤ 127 → length_byte h pdu ≤ 249 → Pictures h pdu picture
      → Sends picture (reply_of h.da h.fc) buf wrote
      → WritesData h pdu buf wrote

pub record IsWriter (W : Writer) : Type 0 where
  pub data_telegrams : (h : DataTelegramHeader) (pdu buf : List ℕ) → WritesData h pdu buf (W.write_data h pdu buf)
  -- a token takes whole bytes, and no reply is expected to it
  pub tokens : (da sa : Address) (buf : List ℕ) → Sends (token_bytes da.0 sa.0) None buf (W.write_token da sa buf)
  -- nor to a short confirmation
  pub confirmations : (buf : List ℕ) → Sends confirmation_bytes None buf (W.write_confirmation buf)
