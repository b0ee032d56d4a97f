-- Document 01, "Function code": the function code's byte, read (`function_code_of`) and written (`code_byte`), which bytes a code has
-- (`CodeRead`), and whether a reply is expected (`reply_found`).
use Rattle.std.specs.Prelude.{ℕ, zero, suc, ◌+◌, ◌*◌, ◌/◌, ◌%◌, ◌^◌, Bool, true, false, None, Option, Some}
use Rattle.ground.specs.Bits.{bit, digit}
use Rattle.codes.specs.FrameCountBits.{frame_count_bit_of, fcv_of, fcb_of}
use Rattle.ground.specs.Pick.{if}
use Rattle.codes.specs.RequestTypes.{request_number, request_type_of, expects_reply}
use Rattle.codes.specs.Responses.{state_number, state_of, status_number, status_of}
use Rattle.codes.specs.declared.frame_count_bit.FrameCountBit.{FrameCountBit}
use Rattle.codes.specs.declared.function_code.FunctionCode.{FunctionCode}
use Rattle.codes.specs.declared.function_code.FunctionCode.TheVariants.{Request, Response}
use Rattle.codes.specs.declared.response.ResponseState.{ResponseState}
use Rattle.codes.specs.declared.response.ResponseStatus.{ResponseStatus}
use Rattle.codes.specs.declared.request_type.RequestType.{RequestType}

-- the code of a response with this state and status: what every definition names that makes one
abbrev pub response_code : ResponseState → ResponseStatus → FunctionCode
response_code state status = Response state status

-- "The byte and 8F": bit 7 and the low four bits
abbrev pub request_bits : ℕ → ℕ
request_bits b = b / 128 * 128 + b % 16

-- a request has a type that is named; its frame count bit is any
abbrev pub request_of : FrameCountBit → Option RequestType → Option FunctionCode
request_of fcb (Some req) = Some (Request fcb req)
request_of fcb None = None

-- a response has a state and a status that are named
abbrev pub response_of : Option ResponseState → Option ResponseStatus → Option FunctionCode
response_of (Some state) (Some status) = Some (Response state status)
response_of (Some state) None = None
response_of None status = None

-- "Bit 6 set: request. The byte and 8F must be one of ... Bit 5 is FCB, bit 4 FCV. Bit 6 clear: response; bits 4 and 5
-- the state 0 to 3, low four bits one of ...; bit 7 is ignored."
unfoldable pub function_code_of : ℕ → Option FunctionCode
function_code_of b =
    if (bit 6 b)
    (request_of (frame_count_bit_of (bit 4 b) (bit 5 b)) (request_type_of (request_bits b)))
    (response_of (state_of (b / 16 % 4)) (status_of (b % 16)))

-- "Replies are expected for all requests but 80, 0, 4 and 6": to no response
abbrev pub is_answered : FunctionCode → Bool
is_answered (Request fcb req) = expects_reply req
is_answered (Response state status) = false

-- the same of what a byte is read as
abbrev pub reply_found : Option FunctionCode → Option Bool
reply_found (Some code) = Some (is_answered code)
reply_found None = None

-- FCB at bit 5, FCV at bit 4
abbrev pub frame_count_part : FrameCountBit → ℕ
frame_count_part fcb = digit (fcb_of fcb) * 2 ^ 5 + digit (fcv_of fcb) * 2 ^ 4

-- the byte of a function code, as the standard lays its bits out; bit 7 of a response is clear
unfoldable pub code_byte : FunctionCode → ℕ
code_byte (Request fcb req) = 2 ^ 6 + frame_count_part fcb + request_number req
code_byte (Response state status) = state_number state * 2 ^ 4 + status_number status

-- the bytes of a function code: "bit 7 is ignored", so a response's byte has bit 7 clear or set; a request's byte is one
pub data CodeRead : FunctionCode → ℕ → Type 0 where
  as_written : {fc : FunctionCode} → CodeRead fc (code_byte fc)
  bit7_set : {state : ResponseState} {status : ResponseStatus} → CodeRead (Response state status) (code_byte (Response state status) + 128)

-- "Writing gives the same byte back, except that a response loses bit 7": the byte that writing gives for what was read
abbrev pub kept_byte : ℕ → ℕ
kept_byte b = if (bit 6 b) b (b % 128)

-- "So 120 of 256 bytes are read": whether a byte is
abbrev pub is_read : Option FunctionCode → Bool
is_read (Some code) = true
is_read None = false

-- and how many of the n bytes from b on are
unfoldable pub read_from : ℕ → ℕ → ℕ
read_from b zero = 0
read_from b (suc n) = digit (is_read (function_code_of b)) + read_from (suc b) n
