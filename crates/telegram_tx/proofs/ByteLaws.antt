-- Every byte of what is written is one: below 256. Read `telegram_bytes_lem`.
use Rattle.std.proofs.Common.{None, Option, Some}
use Prim.Native.Nat.{ℕ, ◌<◌, ◌≤◌}
use mathlib.Core.List.{List, [], ◌∷◌, ◌++◌}
use native.Mathlib.Omega.{arith}
use lib.Dec.{lit<}
use Rattle.codes.proofs.ChecksumLaws.{checksum_byte}
use Rattle.codes.proofs.FunctionCodeLaws.{code_byte_small}
use Rattle.codes.specs.Checksums.{checksum_of}
use Rattle.telegram.proofs.ByteLaws.{empty_bytes, one_more_byte, append_bytes}
use Rattle.telegram.specs.Begins.{Bytes}
use Rattle.codes.specs.Delimiters.{SD1, SD2, SD3, SD4, SC, ED}
use Rattle.telegram.specs.Picture.{address_byte, sap_bytes, head_bytes, covered_bytes, length_byte, start_bytes, telegram_bytes, token_bytes, confirmation_bytes}
use Rattle.telegram.specs.declared.header.DataTelegramHeader.{DataTelegramHeader}
use Rattle.telegram_bytes.proofs.LengthLaws.{any_start}
use Rattle.ground.specs.declared.address.Sap.{Sap}

address_byte_lem : (a : ℕ) (o : Option Sap) → a ≤ 127 → address_byte a o < 256
address_byte_lem a (Some sap) h = omega arith
address_byte_lem a None h = omega arith

one : (b : ℕ) → b < 256 → Bytes (b ∷ [])
one b h = one_more_byte b [] h empty_bytes

three_more : (a b c : ℕ) (s : List ℕ) → a < 256 → b < 256 → c < 256 → Bytes s → Bytes (a ∷ b ∷ c ∷ s)
three_more a b c s p q r bytes = one_more_byte a (b ∷ c ∷ s) p (one_more_byte b (c ∷ s) q (one_more_byte c s r bytes))

start_bytes_lem : (l : ℕ) → l < 256 → Bytes (start_bytes l)
start_bytes_lem l h =
    any_start Bytes l (one SD1 (lit< tt)) (one SD3 (lit< tt)) (three_more SD2 l l (SD2 ∷ []) (lit< tt) h h (one SD2 (lit< tt)))

-- A data telegram: its SAPs and its PDU are bytes, as they are where they come from the machine.
module _
    (h : DataTelegramHeader) (pdu : List ℕ) (da : h.da.0 ≤ 127) (sa : h.sa.0 ≤ 127)
    (dsap : Bytes (sap_bytes h.dsap)) (ssap : Bytes (sap_bytes h.ssap)) (body : Bytes pdu) (short : length_byte h pdu ≤ 249) where
  head_bytes_lem : Bytes (head_bytes h)
  unfolding head_bytes
  head_bytes_lem =
      three_more _ _ _ (sap_bytes h.dsap ++ sap_bytes h.ssap)
      (address_byte_lem h.da.0 h.dsap da)
      (address_byte_lem h.sa.0 h.ssap sa)
      (code_byte_small h.fc)
      (append_bytes (sap_bytes h.dsap) (sap_bytes h.ssap) dsap ssap)

  pub telegram_bytes_lem : Bytes (telegram_bytes h pdu)
  unfolding telegram_bytes covered_bytes
  telegram_bytes_lem =
      let start : List ℕ = start_bytes (length_byte h pdu) in
      let covered : List ℕ = head_bytes h ++ pdu in
      append_bytes (start ++ covered) (checksum_of covered ∷ ED ∷ [])
      (append_bytes start covered (start_bytes_lem (length_byte h pdu) (omega arith)) (append_bytes (head_bytes h) pdu head_bytes_lem body))
      (one_more_byte (checksum_of covered) (ED ∷ []) (checksum_byte covered) (one ED (lit< tt)))

pub token_bytes_lem : (da sa : ℕ) → da < 256 → sa < 256 → Bytes (token_bytes da sa)
token_bytes_lem da sa p q = three_more SD4 da sa [] (lit< tt) p q empty_bytes

pub confirmation_bytes_lem : Bytes confirmation_bytes
confirmation_bytes_lem = one SC (lit< tt)
