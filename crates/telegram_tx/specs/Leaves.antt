-- What private functions promise each other. Nothing here has to be believed: no promise of a public call cites it.
-- The header by which a telegram is written: `coded_of`, `kept_header`; what the calls that write by such a header have in common: `Sends`.
use Rattle.std.specs.Prelude.{ℕ, ◌≡◌, List, length, Option, Result}
use Rattle.codes.specs.FunctionCodes.{code_byte, kept_byte}
use Rattle.codes.specs.declared.function_code.FunctionCode.{FunctionCode}
use Rattle.telegram.specs.declared.header.DataTelegramHeader.{DataTelegramHeader}
use Rattle.telegram_bytes.specs.declared.coded.CodedHeader.{CodedHeader}
use Rattle.telegram_tx.specs.Writing.{shown_writing, reply_of, write_of, buffer_of, decoded}
use Rattle.ground.specs.declared.refusal.Refusal.{Refusal}
use Rattle.telegram_tx.specs.declared.tx.TelegramTxResponse.{TelegramTxResponse}
use Rattle.ground.specs.declared.address.Address.{Address}

-- a header with its code's byte in the code's place
abbrev pub coded_of : DataTelegramHeader → CodedHeader
coded_of h = record { da = h.da; sa = h.sa; dsap = h.dsap; ssap = h.ssap; code = code_byte h.fc }

-- the same header with the byte that is written for the one that it has
abbrev pub kept_header : CodedHeader → CodedHeader
kept_header h = record { da = h.da; sa = h.sa; dsap = h.dsap; ssap = h.ssap; code = kept_byte h.code }

-- answer and buffer are those of every function code that has the header's byte and to which this reply is expected
abbrev pub Sends : CodedHeader → Option Address → List ℕ → List ℕ → Result TelegramTxResponse Refusal → List ℕ → Type 0
Sends h reply pdu before r after =
    (fc : FunctionCode) → code_byte fc ≡ h.code → reply_of h.da fc ≡ reply
    → (shown_writing r ≡ write_of (decoded h fc) pdu (length before)) × (after ≡ buffer_of (decoded h fc) pdu before)
