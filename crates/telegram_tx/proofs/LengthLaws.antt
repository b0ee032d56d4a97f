-- What is written by a header whose function code is a byte is the picture's (`telegram_coded`), and how long the parts of a telegram are.
use Prim.Native.Nat.{ℕ, ◌+◌, ◌≤◌}
use mathlib.Core.Path.{◌≡◌, refl, ◌∙◌}
use mathlib.Core.List.{List}
use native.Mathlib.Omega.{arith}
use lib.ListN.{length}
use Rattle.telegram.specs.Picture.{sap_bytes, head_bytes, covered_bytes, length_byte, start_bytes, telegram_bytes}
use Rattle.telegram.specs.declared.header.DataTelegramHeader.{DataTelegramHeader}
use Rattle.telegram_bytes.proofs.LengthLaws.{coded_length_is, coded_bytes_length, start_short}
use Rattle.telegram_bytes.specs.Serialized.{coded_head, coded_length, coded_bytes}
use Rattle.telegram_tx.specs.Leaves.{coded_of}

pub length_coded : (h : DataTelegramHeader) (pdu : List ℕ) → length_byte h pdu ≡ coded_length (coded_of h) pdu
unfolding length_byte covered_bytes head_bytes coded_length coded_head
length_coded h pdu = refl

pub telegram_coded : (h : DataTelegramHeader) (pdu : List ℕ) → telegram_bytes h pdu ≡ coded_bytes (coded_of h) pdu
unfolding telegram_bytes length_byte covered_bytes head_bytes coded_bytes coded_length coded_head
telegram_coded h pdu = refl

-- "Length byte = PDU + SAPs + 3"
pub length_byte_is :
    (h : DataTelegramHeader) (pdu : List ℕ)
    → length_byte h pdu ≡ length pdu + length (sap_bytes h.dsap) + length (sap_bytes h.ssap) + 3
length_byte_is h pdu = length_coded h pdu ∙ coded_length_is (coded_of h) pdu

-- "Totals: SD1 6, SD3 14, SD2 L + 6": the start, what the length byte counts, the checksum and the end delimiter.
pub telegram_length :
    (h : DataTelegramHeader) (pdu : List ℕ)
    → length (telegram_bytes h pdu) ≡ length (start_bytes (length_byte h pdu)) + length_byte h pdu + 2
telegram_length h pdu = rw (telegram_coded, length_coded) (coded_bytes_length (coded_of h) pdu)

-- A telegram that may be written is at most 255 bytes long.
pub telegram_short : (h : DataTelegramHeader) (pdu : List ℕ) → length_byte h pdu ≤ 249 → length (telegram_bytes h pdu) ≤ 255
telegram_short h pdu l = rw telegram_length (omega (arith, start_short (length_byte h pdu)))
