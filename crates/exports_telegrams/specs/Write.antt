-- What writing a telegram takes from a program in another language, and tells it. Read `koy_write_data`, `koy_write_token` and
-- `koy_write_confirmation`, the promises of the calls so named.
use Rattle.std.specs.Prelude.{ℕ, List, [], ◌∷◌, ltb, length, None, Option, Some}
use Rattle.codes.specs.FunctionCodes.{function_code_of}
use Rattle.ground.specs.Pick.{if}
use Rattle.ground.specs.Refusals.{OrRefused, gives, refused}
use Rattle.codes.specs.declared.function_code.FunctionCode.{FunctionCode}
use Rattle.exports_telegrams.specs.Read.{absent}
use Rattle.telegram.specs.declared.header.DataTelegramHeader.{DataTelegramHeader}
use Rattle.telegram_tx.specs.Writing.{write_of, buffer_of, write_token_of, token_buffer_of, write_confirmation_of, confirmation_buffer_of}
use Rattle.telegram_tx.specs.declared.tx.TelegramTxResponse.{TelegramTxResponse}
use Rattle.ground.specs.declared.address.Address.{Address}
use Rattle.ground.specs.declared.address.Sap.{Sap}

-- a number below 256 is a SAP; any other says that there is none
abbrev pub sap_of : ℕ → Option Sap
sap_of n = if (ltb n 256) (Some (record { 0 = n })) None

abbrev pub header_of : ℕ → ℕ → ℕ → ℕ → FunctionCode → DataTelegramHeader
header_of da sa dsap ssap fc =
    record { da = record { 0 = da }; sa = record { 0 = sa }; dsap = sap_of dsap; ssap = sap_of ssap; fc = fc }

abbrev pub address_number : Option Address → ℕ
address_number (Some a) = a.0
address_number None = absent

-- a call: its code, and what was lent at its end
pub record WriteCall : Type 0 where
  pub code : ℕ
  pub told : List ℕ
  pub buffer : List ℕ

-- 0, with the bytes written and the station that is to reply; or a refusal's number
abbrev pub write_call : OrRefused TelegramTxResponse → List ℕ → List ℕ → WriteCall
write_call (gives response) before buf =
    record { code = 0; told = response.bytes_sent ∷ address_number response.expects_reply ∷ []; buffer = buf }
write_call (refused n) before buf = record { code = n; told = before; buffer = buf }

-- 4 where the byte is no function code; else what the writer answers
abbrev pub coded_call : Option FunctionCode → ℕ → ℕ → ℕ → ℕ → List ℕ → List ℕ → List ℕ → WriteCall
coded_call (Some fc) da sa dsap ssap pdu before buf =
    write_call (write_of (header_of da sa dsap ssap fc) pdu (length buf)) before (buffer_of (header_of da sa dsap ssap fc) pdu buf)
coded_call None da sa dsap ssap pdu before buf = record { code = 4; told = before; buffer = buf }

-- `koy_write_data`: the function code comes as a byte
unfoldable pub koy_write_data : ℕ → ℕ → ℕ → ℕ → ℕ → List ℕ → List ℕ → List ℕ → WriteCall
koy_write_data da sa dsap ssap fc pdu buf told = coded_call (function_code_of fc) da sa dsap ssap pdu told buf

-- a call that tells nothing more: its code, and the buffer at its end
pub record BareCall : Type 0 where
  pub code : ℕ
  pub buffer : List ℕ

-- 0, or a refusal's number
abbrev pub bare_call : OrRefused TelegramTxResponse → List ℕ → BareCall
bare_call (gives response) buf = record { code = 0; buffer = buf }
bare_call (refused n) buf = record { code = n; buffer = buf }

-- `koy_write_token`: what the writer answers, and the buffer that it leaves
abbrev pub koy_write_token : ℕ → ℕ → List ℕ → BareCall
koy_write_token da sa buf =
    bare_call (write_token_of (record { 0 = da }) (record { 0 = sa }) (length buf)) (token_buffer_of (record { 0 = da }) (record { 0 = sa }) buf)

-- `koy_write_confirmation`: the same of a short confirmation
abbrev pub koy_write_confirmation : List ℕ → BareCall
koy_write_confirmation buf = bare_call (write_confirmation_of (length buf)) (confirmation_buffer_of buf)
