-- The names of function codes as programs print them, which are those of the enums' variants: the bytes of each.
use Rattle.std.specs.Prelude.{ℕ, List, codes}
use Rattle.codes.specs.declared.request_type.RequestType.{RequestType}
use Rattle.codes.specs.declared.request_type.RequestType.TheVariants.{ClockValue, TimeEvent, SdaLow, SdnLow, SdaHigh, SdnHigh, MulticastSrd, FdlStatus, SrdLow, SrdHigh, Ident, LsapStatus}
use Rattle.codes.specs.declared.frame_count_bit.FrameCountBit.{FrameCountBit}
use Rattle.codes.specs.declared.frame_count_bit.FrameCountBit.TheVariants.{First, High, Low, Inactive}
use Rattle.codes.specs.declared.response.ResponseState.{ResponseState}
use Rattle.codes.specs.declared.response.ResponseState.TheVariants.{Slave, MasterNotReady, MasterWithoutToken, MasterInRing}
use Rattle.codes.specs.declared.response.ResponseStatus.{ResponseStatus}
use Rattle.codes.specs.declared.response.ResponseStatus.TheVariants.{Ok, UserError, NoResources, SapNotEnabled, DataLow, NoDataReady, DataHigh, NotReceivedDataLow, NotReceivedDataHigh}

-- the names of the request types
abbrev pub request_type_name : RequestType → List ℕ
request_type_name ClockValue = codes "ClockValue"
request_type_name TimeEvent = codes "TimeEvent"
request_type_name SdaLow = codes "SdaLow"
request_type_name SdnLow = codes "SdnLow"
request_type_name SdaHigh = codes "SdaHigh"
request_type_name SdnHigh = codes "SdnHigh"
request_type_name MulticastSrd = codes "MulticastSrd"
request_type_name FdlStatus = codes "FdlStatus"
request_type_name SrdLow = codes "SrdLow"
request_type_name SrdHigh = codes "SrdHigh"
request_type_name Ident = codes "Ident"
request_type_name LsapStatus = codes "LsapStatus"

-- those of the frame count bits
abbrev pub frame_count_bit_name : FrameCountBit → List ℕ
frame_count_bit_name First = codes "First"
frame_count_bit_name High = codes "High"
frame_count_bit_name Low = codes "Low"
frame_count_bit_name Inactive = codes "Inactive"

-- those of a response's states
abbrev pub response_state_name : ResponseState → List ℕ
response_state_name Slave = codes "Slave"
response_state_name MasterNotReady = codes "MasterNotReady"
response_state_name MasterWithoutToken = codes "MasterWithoutToken"
response_state_name MasterInRing = codes "MasterInRing"

-- those of a response's statuses
abbrev pub response_status_name : ResponseStatus → List ℕ
response_status_name Ok = codes "Ok"
response_status_name UserError = codes "UserError"
response_status_name NoResources = codes "NoResources"
response_status_name SapNotEnabled = codes "SapNotEnabled"
response_status_name DataLow = codes "DataLow"
response_status_name NoDataReady = codes "NoDataReady"
response_status_name DataHigh = codes "DataHigh"
response_status_name NotReceivedDataLow = codes "NotReceivedDataLow"
response_status_name NotReceivedDataHigh = codes "NotReceivedDataHigh"
