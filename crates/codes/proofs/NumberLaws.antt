-- Laws of the numbers of the codes: how large they are, that each is looked up again, and so that no two are alike. A section for each type.
use Rattle.std.proofs.Common.{◌≡◌, ◌≤◌, refl, ap, lit≤, Err, Ok, Result, Some}
use Rattle.ground.proofs.Injective.{injective, led_back}
use Rattle.ground.proofs.RefusalLaws.{refusal_of, refusal_again}
use Rattle.ground.specs.Refusals.{OrRefused, gives, refused}
use Rattle.codes.specs.FrameCountBits.{shown_cycled}
use Rattle.codes.specs.FunctionCodes.{frame_count_part}
use Rattle.codes.specs.RequestTypes.{request_number, request_type_of}
use Rattle.codes.specs.Responses.{state_number, state_of, status_number, status_of}
use Rattle.codes.specs.declared.frame_count_bit.FrameCountBit.{FrameCountBit}
use Rattle.codes.specs.declared.frame_count_bit.FrameCountBit.TheVariants.{First, High, Low, Inactive}
use Rattle.codes.specs.declared.request_type.RequestType.{RequestType}
use Rattle.codes.specs.declared.request_type.RequestType.TheVariants.{ClockValue, TimeEvent, SdaLow, SdnLow, SdaHigh, SdnHigh, MulticastSrd, FdlStatus, SrdLow, SrdHigh, Ident, LsapStatus}
use Rattle.codes.specs.declared.response.ResponseState.{ResponseState}
use Rattle.codes.specs.declared.response.ResponseState.TheVariants.{Slave, MasterNotReady, MasterWithoutToken, MasterInRing}
use Rattle.codes.specs.declared.response.ResponseStatus.{ResponseStatus}
use Rattle.codes.specs.declared.response.ResponseStatus.TheVariants.{Ok, UserError, NoResources, SapNotEnabled, DataLow, NoDataReady, DataHigh, NotReceivedDataLow, NotReceivedDataHigh}
use Rattle.ground.specs.declared.refusal.Refusal.{Refusal}

-- ---- the frame count bit

pub frame_count_part_small : (b : FrameCountBit) → frame_count_part b ≤ 48
frame_count_part_small First = lit≤ tt
frame_count_part_small High = lit≤ tt
frame_count_part_small Low = lit≤ tt
frame_count_part_small Inactive = lit≤ tt

-- A cycled bit, or its refusal, is the one that what is shown leads back to.
abbrev cycled_back : OrRefused FrameCountBit → Result FrameCountBit Refusal
cycled_back (gives bit) = Ok bit
cycled_back (refused n) = Err (refusal_of n)

cycled_again : (x : Result FrameCountBit Refusal) → cycled_back (shown_cycled x) ≡ x
cycled_again (Ok bit) = refl
cycled_again (Err r) = ap Err (refusal_again r)

pub cycled_injective : (x y : Result FrameCountBit Refusal) → shown_cycled x ≡ shown_cycled y → x ≡ y
cycled_injective = injective shown_cycled cycled_back cycled_again

-- ---- the request types

pub request_number_small : (x : RequestType) → request_number x ≤ 128
request_number_small ClockValue = lit≤ tt
request_number_small TimeEvent = lit≤ tt
request_number_small SdaLow = lit≤ tt
request_number_small SdnLow = lit≤ tt
request_number_small SdaHigh = lit≤ tt
request_number_small SdnHigh = lit≤ tt
request_number_small MulticastSrd = lit≤ tt
request_number_small FdlStatus = lit≤ tt
request_number_small SrdLow = lit≤ tt
request_number_small SrdHigh = lit≤ tt
request_number_small Ident = lit≤ tt
request_number_small LsapStatus = lit≤ tt

-- A request type is the one that its number is looked up to.
pub request_type_again : (x : RequestType) → request_type_of (request_number x) ≡ Some x
unfolding request_type_of
request_type_again ClockValue = refl
request_type_again TimeEvent = refl
request_type_again SdaLow = refl
request_type_again SdnLow = refl
request_type_again SdaHigh = refl
request_type_again SdnHigh = refl
request_type_again MulticastSrd = refl
request_type_again FdlStatus = refl
request_type_again SrdLow = refl
request_type_again SrdHigh = refl
request_type_again Ident = refl
request_type_again LsapStatus = refl

pub request_number_injective : (x y : RequestType) → request_number x ≡ request_number y → x ≡ y
request_number_injective x y e =
    let h : Some x ≡ Some y = led_back request_number Some request_type_of request_type_again x y e in cc

-- ---- a response's state

pub state_number_small : (x : ResponseState) → state_number x ≤ 3
state_number_small Slave = lit≤ tt
state_number_small MasterNotReady = lit≤ tt
state_number_small MasterWithoutToken = lit≤ tt
state_number_small MasterInRing = lit≤ tt

-- A state is the one that its number is looked up to.
pub state_again : (x : ResponseState) → state_of (state_number x) ≡ Some x
unfolding state_of
state_again Slave = refl
state_again MasterNotReady = refl
state_again MasterWithoutToken = refl
state_again MasterInRing = refl

pub state_number_injective : (x y : ResponseState) → state_number x ≡ state_number y → x ≡ y
state_number_injective x y e =
    let h : Some x ≡ Some y = led_back state_number Some state_of state_again x y e in cc

-- ---- a response's status

pub status_number_small : (x : ResponseStatus) → status_number x ≤ 13
status_number_small Ok = lit≤ tt
status_number_small UserError = lit≤ tt
status_number_small NoResources = lit≤ tt
status_number_small SapNotEnabled = lit≤ tt
status_number_small DataLow = lit≤ tt
status_number_small NoDataReady = lit≤ tt
status_number_small DataHigh = lit≤ tt
status_number_small NotReceivedDataLow = lit≤ tt
status_number_small NotReceivedDataHigh = lit≤ tt

-- A status is the one that its number is looked up to.
pub status_again : (x : ResponseStatus) → status_of (status_number x) ≡ Some x
unfolding status_of
status_again Ok = refl
status_again UserError = refl
status_again NoResources = refl
status_again SapNotEnabled = refl
status_again DataLow = refl
status_again NoDataReady = refl
status_again DataHigh = refl
status_again NotReceivedDataLow = refl
status_again NotReceivedDataHigh = refl

pub status_number_injective : (x y : ResponseStatus) → status_number x ≡ status_number y → x ≡ y
status_number_injective x y e =
    let h : Some x ≡ Some y = led_back status_number Some status_of status_again x y e in cc
