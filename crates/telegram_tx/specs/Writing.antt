-- Document 01, "Writing": the answer of each call that writes a telegram, `write_of`, and the whole buffer that it leaves, `buffer_of`; the
-- same where the function code comes as a byte, `write_found` and `buffer_found`.
use Rattle.std.specs.Prelude.{ℕ, ◌||◌, List, ◌++◌, ltb, length, drop, Err, None, Ok, Option, Result, Some}
use Rattle.ground.specs.Pick.{if}
use Rattle.ground.specs.Refusals.{OrRefused, gives, refused, number_of}
use Rattle.codes.specs.FunctionCodes.{response_code}
use Rattle.codes.specs.RequestTypes.{expects_reply}
use Rattle.ground.specs.declared.address.Address.{Address}
use Rattle.codes.specs.declared.frame_count_bit.FrameCountBit.TheVariants.{Inactive}
use Rattle.codes.specs.declared.function_code.FunctionCode.{FunctionCode}
use Rattle.codes.specs.declared.function_code.FunctionCode.TheVariants.{Request, Response}
use Rattle.codes.specs.declared.request_type.RequestType.TheVariants.{FdlStatus}
use Rattle.codes.specs.declared.response.ResponseState.{ResponseState}
use Rattle.codes.specs.declared.response.ResponseStatus.{ResponseStatus}
use Rattle.telegram.specs.Picture.{length_byte, telegram_bytes, token_bytes, confirmation_bytes}
use Rattle.telegram.specs.declared.header.DataTelegramHeader.{DataTelegramHeader}
use Rattle.telegram_bytes.specs.declared.coded.CodedHeader.{CodedHeader}
use Rattle.telegram_tx.specs.declared.tx.TelegramTxResponse.{TelegramTxResponse}
use Rattle.ground.specs.declared.refusal.Refusal.{Refusal}

-- what a writer answers, with document 01's number
abbrev pub shown_writing : Result TelegramTxResponse Refusal → OrRefused TelegramTxResponse
shown_writing (Ok response) = gives response
shown_writing (Err refusal) = refused (number_of refusal)

-- "Replies are expected for all requests but 80, 0, 4 and 6": from the station that the telegram goes to
abbrev pub reply_of : Address → FunctionCode → Option Address
reply_of da (Request fcb req) = if (expects_reply req) (Some da) None
reply_of da (Response state status) = None

-- "buffer too short": 10; else the telegram's bytes are sent
unfoldable pub send_of : List ℕ → Option Address → ℕ → OrRefused TelegramTxResponse
send_of t reply room =
    if (ltb room (length t)) (refused 10) (gives (record { bytes_sent = length t; expects_reply = reply }))

-- "da or sa above 127": 8; "length byte above 249": 9; "buffer too short": 10; "Orders: writing 8, 9, 10"
unfoldable pub write_of : DataTelegramHeader → List ℕ → ℕ → OrRefused TelegramTxResponse
write_of h pdu room =
    if (ltb 127 h.da.0 || ltb 127 h.sa.0) (refused 8)
    (if (ltb 249 (length_byte h pdu)) (refused 9) (send_of (telegram_bytes h pdu) (reply_of h.da h.fc) room))

-- a token takes whole bytes, and no reply is expected to it
abbrev pub write_token_of : Address → Address → ℕ → OrRefused TelegramTxResponse
write_token_of da sa room = send_of (token_bytes da.0 sa.0) None room

-- nor to a short confirmation
abbrev pub write_confirmation_of : ℕ → OrRefused TelegramTxResponse
write_confirmation_of room = send_of confirmation_bytes None room

-- the buffer after a call: the telegram at its front, and "bytes past the telegram stay"; as it came where it was refused
abbrev pub left_of : OrRefused TelegramTxResponse → List ℕ → List ℕ → List ℕ
left_of (gives response) t buf = t ++ drop (length t) buf
left_of (refused n) t buf = buf

-- after a data telegram
abbrev pub buffer_of : DataTelegramHeader → List ℕ → List ℕ → List ℕ
buffer_of h pdu buf = left_of (write_of h pdu (length buf)) (telegram_bytes h pdu) buf

-- a header whose function code comes as a byte, with a code in the byte's place
abbrev pub decoded : CodedHeader → FunctionCode → DataTelegramHeader
decoded h fc = record { da = h.da; sa = h.sa; dsap = h.dsap; ssap = h.ssap; fc = fc }

-- such a header's telegram, by what its byte is read as: 4 where it is no function code, before 8, 9 and 10
abbrev pub write_found : Option FunctionCode → CodedHeader → List ℕ → ℕ → OrRefused TelegramTxResponse
write_found (Some fc) h pdu room = write_of (decoded h fc) pdu room
write_found None h pdu room = refused 4

-- and the buffer after it
abbrev pub buffer_found : Option FunctionCode → CodedHeader → List ℕ → List ℕ → List ℕ
buffer_found (Some fc) h pdu buf = buffer_of (decoded h fc) pdu buf
buffer_found None h pdu buf = buf

-- after a token
abbrev pub token_buffer_of : Address → Address → List ℕ → List ℕ
token_buffer_of da sa buf = left_of (write_token_of da sa (length buf)) (token_bytes da.0 sa.0) buf

-- after a short confirmation
abbrev pub confirmation_buffer_of : List ℕ → List ℕ
confirmation_buffer_of buf = left_of (write_confirmation_of (length buf)) confirmation_bytes buf

-- a header without SAPs
abbrev pub plain_header : Address → Address → FunctionCode → DataTelegramHeader
plain_header da sa fc = record { da = da; sa = sa; dsap = None; ssap = None; fc = fc }

-- a request for the FDL status: the frame count bit is Inactive
abbrev pub status_request : Address → Address → DataTelegramHeader
status_request da sa = plain_header da sa (Request Inactive FdlStatus)

-- its response
abbrev pub status_response : Address → Address → ResponseState → ResponseStatus → DataTelegramHeader
status_response da sa state status = plain_header da sa (response_code state status)
