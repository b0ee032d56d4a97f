-- What private functions promise each other. Nothing here has to be believed: no promise of a public call cites it.
use Rattle.std.specs.Prelude.{Bool, true, false, None, Option, Some}
use Rattle.codes.specs.FunctionCodes.{function_code_of}
use Rattle.ground.specs.declared.address.Address.{Address}
use Rattle.ground.specs.declared.part.Part.{Part}
use Rattle.link_telegrams.specs.Heard.{DataHeard, data_from, no_data}
use Rattle.link_telegrams.specs.declared.heard.PlainHeard.{PlainHeard}
use Rattle.link_telegrams.specs.declared.heard.RequestHeard.{RequestHeard}
use Rattle.link_telegrams.specs.declared.heard.RequestHeard.TheVariants as request_heard
use Rattle.codes.specs.declared.function_code.FunctionCode.{FunctionCode}

-- a telegram to the station whose code's byte was looked up: of no code it is nothing
abbrev pub decoded_as : Address → Part → Option FunctionCode → DataHeard
decoded_as sa pdu (Some fc) = data_from sa fc pdu
decoded_as sa pdu None = no_data

-- what the code heard, with the byte decoded
abbrev pub decoded_of : PlainHeard → DataHeard
decoded_of p = decoded_as p.sa p.pdu (function_code_of p.code)

abbrev pub decoded : Option PlainHeard → DataHeard
decoded (Some p) = decoded_of p
decoded None = no_data

-- a request without its sender, and whether there is one
abbrev pub asked_of : Option (Address × RequestHeard) → RequestHeard
asked_of (Some (sa, request)) = request
asked_of None = request_heard.Nothing

abbrev pub is_request : Option (Address × RequestHeard) → Bool
is_request (Some (sa, request)) = true
is_request None = false
