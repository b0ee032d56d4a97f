-- The small questions that the Rust answers of a telegram.
use Rattle.std.specs.Prelude.{eqb, None, Option, Some}
use Rattle.ground.specs.Pick.{if}
use Rattle.codes.specs.RequestTypes.{request_number}
use Rattle.ground.specs.declared.address.Address.{Address}
use Rattle.codes.specs.declared.function_code.FunctionCode.{FunctionCode}
use Rattle.codes.specs.declared.function_code.FunctionCode.TheVariants.{Request, Response}
use Rattle.codes.specs.declared.request_type.RequestType.TheVariants.{FdlStatus}
use Rattle.telegram.specs.declared.kinds.DataTelegram.{DataTelegram}
use Rattle.telegram.specs.declared.kinds.Telegram.{Telegram}
use Rattle.telegram.specs.declared.kinds.Telegram.TheVariants.{Data, Token, ShortConfirmation}
use Rattle.codes.specs.declared.response.ResponseStatus.{ResponseStatus}

-- `source_address`: a short confirmation has none
abbrev pub source_of : Telegram → Option Address
source_of (Data t) = Some t.h.sa
source_of (Token t) = Some t.sa
source_of ShortConfirmation = None

-- `destination_address`: a short confirmation has none
abbrev pub destination_of : Telegram → Option Address
destination_of (Data t) = Some t.h.da
destination_of (Token t) = Some t.da
destination_of ShortConfirmation = None

-- the source address that is given, where the request is for the FDL status
abbrev pub asked_by : Address → FunctionCode → Option Address
asked_by sa (Request fcb req) = if (eqb (request_number req) (request_number FdlStatus)) (Some sa) None
asked_by sa (Response state status) = None

-- `is_fdl_status_request`: the source address, where it is one
abbrev pub status_request_of : DataTelegram → Option Address
status_request_of t = asked_by t.h.sa t.h.fc

-- a response's status
abbrev pub status_of_code : FunctionCode → Option ResponseStatus
status_of_code (Request fcb req) = None
status_of_code (Response state status) = Some status

-- `is_response`: the status, where it is one
abbrev pub response_of : DataTelegram → Option ResponseStatus
response_of t = status_of_code t.h.fc
