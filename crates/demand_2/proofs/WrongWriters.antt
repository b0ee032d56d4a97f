-- Writers for which demand 2 is refuted. Each is any writer that has the fault; since no two writers differ, it is refuted by what ours gives there.
use Rattle.std.proofs.Common.{None, Option, Some}
use Prim.Native.Nat.{ℕ}
use mathlib.Core.List.{List, [], ◌∷◌}
use mathlib.Core.Path.{◌≡◌, refl, sym, ◌∙◌, ap}
use borrow.Author.Tests.{eqb-false}
use lib.ListN.{replicate}
use Rattle.codes.specs.Checksums.{sum_of, checksum_of}
use Rattle.codes.specs.FunctionCodes.{code_byte}
use Rattle.codes.specs.declared.frame_count_bit.FrameCountBit.TheVariants.{First}
use Rattle.codes.specs.declared.function_code.FunctionCode.TheVariants.{Request}
use Rattle.codes.specs.declared.request_type.RequestType.TheVariants.{SrdLow}
use Rattle.ground.proofs.Injective.{zero_one}
use Rattle.ground.specs.Part.{byte_at}
use Rattle.ground.specs.Refusals.{gives, refused}
use Rattle.telegram.specs.Picture.{head_bytes, covered_bytes, length_byte, start_bytes, telegram_bytes}
use Rattle.telegram.specs.declared.header.DataTelegramHeader.{DataTelegramHeader}
use Rattle.telegram_tx.specs.Writing.{send_of, write_of}
use Rattle.telegram_tx.specs.declared.tx.TelegramTxResponse.{TelegramTxResponse}
use Rattle.demand_2.proofs.OurWriter.{one_data, one_token, one_confirmation}
use Rattle.demand_2.specs.Writers.{Writer, IsWriter}
use Rattle.ground.specs.declared.address.Sap.{Sap}

-- a header from 2 to an address, with these SAPs
abbrev header : ℕ → Option Sap → Option Sap → DataTelegramHeader
header da dsap ssap = record { da = record { 0 = da }; sa = record { 0 = 2 }; dsap = dsap; ssap = ssap; fc = Request First SrdLow }

abbrev plain : DataTelegramHeader
plain = header 5 None None

-- that of document 01's sample with SAPs
abbrev sapped : DataTelegramHeader
sapped = header 5 (Some (record { 0 = 60 })) (Some (record { 0 = 62 }))

-- sixteen bytes AA
abbrev lent : List ℕ
lent = replicate 16 0xAA

module _ (W : Writer) (is : IsWriter W) where
  -- "Summing the checksum after the SAPs only": the sample's checksum, ED, is written, and not 00
  pub writes_the_sum_after_the_saps : byte_at (W.write_data sapped [] lent).buffer 9 ≡ 0x00 → ⊥
  unfolding sum_of checksum_of code_byte head_bytes covered_bytes length_byte start_bytes telegram_bytes send_of write_of
  writes_the_sum_after_the_saps e = eqb-false 0xED 0x00 refl (sym (ap (λ w. byte_at w.buffer 9) (one_data is sapped [] lent)) ∙ e)

  -- zeros for the bytes of the PDU
  pub writes_zeros : byte_at (W.write_data plain (1 ∷ 3 ∷ []) lent).buffer 7 ≡ 0 → ⊥
  unfolding sum_of checksum_of code_byte head_bytes covered_bytes length_byte start_bytes telegram_bytes send_of write_of
  writes_zeros e = let f = sym (ap (λ w. byte_at w.buffer 7) (one_data is plain (1 ∷ 3 ∷ []) lent)) ∙ e in zero_one (cc)

  -- a refused call that touches the buffer: no room for the telegram's six bytes in five
  pub touches_when_refused : (W.write_data plain [] (replicate 5 0xAA)).buffer ≡ 0x10 ∷ replicate 4 0xAA → ⊥
  unfolding sum_of checksum_of code_byte head_bytes covered_bytes length_byte start_bytes telegram_bytes send_of write_of
  touches_when_refused e =
      eqb-false 0xAA 0x10 refl (sym (ap (λ w. byte_at w.buffer 0) (one_data is plain [] (replicate 5 0xAA))) ∙ ap (λ b. byte_at b 0) e)

  -- a byte written behind the telegram
  pub writes_past : byte_at (W.write_data plain [] lent).buffer 6 ≡ 0x00 → ⊥
  unfolding sum_of checksum_of code_byte head_bytes covered_bytes length_byte start_bytes telegram_bytes send_of write_of
  writes_past e = eqb-false 0xAA 0x00 refl (sym (ap (λ w. byte_at w.buffer 6) (one_data is plain [] lent)) ∙ e)

  -- "Orders: writing 8, 9, 10": 10 before 8
  pub room_before_addresses : (W.write_data (header 128 None None) [] []).answer ≡ refused 10 → ⊥
  unfolding sum_of checksum_of code_byte head_bytes covered_bytes length_byte start_bytes telegram_bytes send_of write_of
  room_before_addresses e = let f = sym (ap (λ w. w.answer) (one_data is (header 128 None None) [] [])) ∙ e in zero_one (cc)

  -- SD2 where "11 gives SD3 (SAPs counted too)"
  pub no_sd3 : byte_at (W.write_data sapped (replicate 6 0) lent).buffer 0 ≡ 0x68 → ⊥
  unfolding sum_of checksum_of code_byte head_bytes covered_bytes length_byte start_bytes telegram_bytes send_of write_of
  no_sd3 e = eqb-false 0xA2 0x68 refl (sym (ap (λ w. byte_at w.buffer 0) (one_data is sapped (replicate 6 0) lent)) ∙ e)

  -- a token whose addresses are exchanged
  pub token_exchanged : byte_at (W.write_token (record { 0 = 5 }) (record { 0 = 2 }) lent).buffer 1 ≡ 2 → ⊥
  unfolding send_of
  token_exchanged e = let f = sym (ap (λ w. byte_at w.buffer 1) (one_token is (record { 0 = 5 }) (record { 0 = 2 }) lent)) ∙ e in zero_one (cc)

  -- a confirmation that is not written
  pub confirmation_left_out : (W.write_confirmation lent).buffer ≡ lent → ⊥
  unfolding send_of
  confirmation_left_out e =
      eqb-false 0xE5 0xAA refl (sym (ap (λ w. byte_at w.buffer 0) (one_confirmation is lent)) ∙ ap (λ b. byte_at b 0) e)

  -- one that refuses all
  pub refuses_all : ((h : DataTelegramHeader) (pdu buf : List ℕ) (r : TelegramTxResponse) → (W.write_data h pdu buf).answer ≡ gives r → ⊥) → ⊥
  unfolding sum_of checksum_of code_byte head_bytes covered_bytes length_byte start_bytes telegram_bytes send_of write_of
  refuses_all none = none plain [] lent _ (ap (λ w. w.answer) (one_data is plain [] lent))
