-- Document 01's samples of writing, on the definitions: `Samples`.
use Rattle.std.proofs.Common.{None, Some}
use mathlib.Core.Path.{◌≡◌, refl}
use mathlib.Core.List.{[], ◌∷◌}
use lib.ListN.{replicate}
use Rattle.codes.specs.Checksums.{sum_of, checksum_of}
use Rattle.codes.specs.FunctionCodes.{code_byte, response_code}
use Rattle.ground.specs.Refusals.{gives, refused}
use Rattle.codes.specs.declared.frame_count_bit.FrameCountBit.TheVariants.{First, Low}
use Rattle.codes.specs.declared.function_code.FunctionCode.{FunctionCode}
use Rattle.codes.specs.declared.function_code.FunctionCode.TheVariants.{Request}
use Rattle.codes.specs.declared.request_type.RequestType.TheVariants.{SdnLow, SrdLow}
use Rattle.codes.specs.declared.response.ResponseState.TheVariants.{Slave}
use Rattle.codes.specs.declared.response.ResponseStatus.TheVariants.{DataLow}
use Rattle.telegram.specs.Picture.{head_bytes, covered_bytes, length_byte, start_bytes, telegram_bytes}
use Rattle.telegram.specs.declared.header.DataTelegramHeader.{DataTelegramHeader}
use Rattle.telegram_tx.specs.Writing.{send_of, write_of, token_buffer_of, confirmation_buffer_of, plain_header, status_request}

-- from station 2 to station 5, no SAPs
abbrev from2to5 : FunctionCode → DataTelegramHeader
from2to5 fc = plain_header (record { 0 = 5 }) (record { 0 = 2 }) fc

-- the same with SAPs 60 and 62
abbrev with_saps : FunctionCode → DataTelegramHeader
with_saps fc =
    record {
      da = record { 0 = 5 };
      sa = record { 0 = 2 };
      dsap = Some (record { 0 = 60 });
      ssap = Some (record { 0 = 62 });
      fc = fc;
    }

pub record Samples : Type 0 where
  -- 68 05 05 68 05 02 5C 01 03 67 16: order at Low, PDU 01 03
  pub order :
      telegram_bytes (from2to5 (Request Low SrdLow)) (0x01 ∷ 0x03 ∷ [])
      ≡ 0x68 ∷ 0x05 ∷ 0x05 ∷ 0x68 ∷ 0x05 ∷ 0x02 ∷ 0x5C ∷ 0x01 ∷ 0x03 ∷ 0x67 ∷ 0x16 ∷ []
  -- 68 05 05 68 85 82 6C 3C 3E ED 16: SAPs 60, 62
  pub saps :
      telegram_bytes (with_saps (Request First SrdLow)) []
      ≡ 0x68 ∷ 0x05 ∷ 0x05 ∷ 0x68 ∷ 0x85 ∷ 0x82 ∷ 0x6C ∷ 0x3C ∷ 0x3E ∷ 0xED ∷ 0x16 ∷ []
  -- 10 05 02 49 50 16: the data telegram of the lister's input, a request for the FDL status
  pub status :
      telegram_bytes (status_request (record { 0 = 5 }) (record { 0 = 2 })) []
      ≡ 0x10 ∷ 0x05 ∷ 0x02 ∷ 0x49 ∷ 0x50 ∷ 0x16 ∷ []
  -- SAPs count for SD3: 6 bytes of PDU behind two SAPs, 8 bytes without
  pub sd3_saps : start_bytes (length_byte (with_saps (Request Low SrdLow)) (replicate 6 0)) ≡ 0xA2 ∷ []
  pub sd3 : start_bytes (length_byte (from2to5 (Request Low SrdLow)) (replicate 8 0)) ≡ 0xA2 ∷ []
  pub sd2_saps : start_bytes (length_byte (with_saps (Request Low SrdLow)) (replicate 8 0)) ≡ 0x68 ∷ 13 ∷ 13 ∷ 0x68 ∷ []
  -- PDU 246 written
  pub longest :
      write_of (from2to5 (Request Low SrdLow)) (replicate 246 0) 255
      ≡ gives (record { bytes_sent = 255; expects_reply = Some (record { 0 = 5 }) })
  -- 247: 9
  pub too_long : write_of (from2to5 (Request Low SrdLow)) (replicate 247 0) 254 ≡ refused 9
  -- 254 bytes of room for it: 10
  pub no_room : write_of (from2to5 (Request Low SrdLow)) (replicate 246 0) 254 ≡ refused 10
  -- an address above 127 comes before either
  pub address :
      write_of (plain_header (record { 0 = 5 }) (record { 0 = 128 }) (Request Low SrdLow)) (replicate 247 0) 0
      ≡ refused 8
  -- no reply is expected to an unacknowledged request, nor to a response
  pub unanswered : write_of (from2to5 (Request Low SdnLow)) [] 6 ≡ gives (record { bytes_sent = 6; expects_reply = None })
  pub response :
      write_of (from2to5 (response_code Slave DataLow)) [] 6
      ≡ gives (record { bytes_sent = 6; expects_reply = None })
  -- bytes past a telegram stay; without room all do
  pub past : token_buffer_of (record { 0 = 5 }) (record { 0 = 130 }) (1 ∷ 2 ∷ 3 ∷ 4 ∷ []) ≡ 0xDC ∷ 5 ∷ 130 ∷ 4 ∷ []
  pub stays : token_buffer_of (record { 0 = 5 }) (record { 0 = 2 }) (1 ∷ 2 ∷ []) ≡ 1 ∷ 2 ∷ []
  pub confirmed : confirmation_buffer_of (1 ∷ 2 ∷ []) ≡ 0xE5 ∷ 2 ∷ []

pub samples : Samples
unfolding telegram_bytes covered_bytes head_bytes length_byte start_bytes code_byte checksum_of sum_of write_of send_of
samples =
    record {
      order = refl;
      saps = refl;
      status = refl;
      sd3_saps = refl;
      sd3 = refl;
      sd2_saps = refl;
      longest = refl;
      too_long = refl;
      no_room = refl;
      address = refl;
      unanswered = refl;
      response = refl;
      past = refl;
      stays = refl;
      confirmed = refl;
    }
