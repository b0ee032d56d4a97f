-- Document 01, "Function code": the request types and their numbers, `request_number`, and which expect a reply.
use Rattle.std.specs.Prelude.{ℕ, Bool, true, false, List, [], ◌∷◌, None, Option, Some}
use Rattle.ground.specs.Lookup.{lookup}
use Rattle.codes.specs.declared.request_type.RequestType.{RequestType}
use Rattle.codes.specs.declared.request_type.RequestType.TheVariants.{ClockValue, TimeEvent, SdaLow, SdnLow, SdaHigh, SdnHigh, MulticastSrd, FdlStatus, SrdLow, SrdHigh, Ident, LsapStatus}

-- "one of 80, 0, 3, 4, 5, 6, 7, 9, C, D, E, F"
abbrev pub request_number : RequestType → ℕ
request_number ClockValue = 0x80
request_number TimeEvent = 0x0
request_number SdaLow = 0x3
request_number SdnLow = 0x4
request_number SdaHigh = 0x5
request_number SdnHigh = 0x6
request_number MulticastSrd = 0x7
request_number FdlStatus = 0x9
request_number SrdLow = 0xC
request_number SrdHigh = 0xD
request_number Ident = 0xE
request_number LsapStatus = 0xF

abbrev pub request_types : List RequestType
request_types =
    ClockValue
    ∷ TimeEvent
    ∷ SdaLow
    ∷ SdnLow
    ∷ SdaHigh
    ∷ SdnHigh
    ∷ MulticastSrd
    ∷ FdlStatus
    ∷ SrdLow
    ∷ SrdHigh
    ∷ Ident
    ∷ LsapStatus
    ∷ []

-- the request type that has the number
unfoldable pub request_type_of : ℕ → Option RequestType
request_type_of = lookup request_number Some None request_types

-- "Replies are expected for all requests but 80, 0, 4 and 6"
abbrev pub expects_reply : RequestType → Bool
expects_reply ClockValue = false
expects_reply TimeEvent = false
expects_reply SdaLow = true
expects_reply SdnLow = false
expects_reply SdaHigh = true
expects_reply SdnHigh = false
expects_reply MulticastSrd = true
expects_reply FdlStatus = true
expects_reply SrdLow = true
expects_reply SrdHigh = true
expects_reply Ident = true
expects_reply LsapStatus = true
