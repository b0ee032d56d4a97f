-- Laws of the function code: what is written is read back (`read_written`); what is read is written back, but for bit 7 of a response
-- (`written_read`); exactly 120 of the 256 bytes are read; a code is read from its bytes and from no other (`code_read_exactly`); and
-- whether a reply is expected is told by parts of the byte (`request_reply`, `response_reply`).
use Rattle.std.proofs.Common.{◌≡◌, ℕ, ◌+◌, ◌/◌, ◌%◌, ◌<◌, Bool, true, false, eqb, leb, refl, ap, ◌∙◌, arith, eq-eqb, ne_eqb, eqb-true, leb-false, leb-true, None, Option, Some}
use Rattle.codes.proofs.EachNumber.{NoFault, at_each, fault_before, faults_from, no_fault}
use Rattle.codes.proofs.NumberLaws.{frame_count_part_small, request_number_small, state_number_small, status_number_small}
use Rattle.ground.proofs.Injective.{led_back, zero_one}
use Rattle.codes.specs.FrameCountBits.{frame_count_bit_of}
use Rattle.ground.specs.Bits.{bit}
use Rattle.codes.specs.FunctionCodes.{request_bits, request_of, response_of, function_code_of, reply_found, code_byte, CodeRead, as_written, bit7_set, kept_byte, read_from}
use Rattle.codes.specs.RequestTypes.{request_type_of}
use Rattle.codes.specs.Responses.{state_of, status_of}
use Rattle.codes.specs.declared.frame_count_bit.FrameCountBit.{FrameCountBit}
use Rattle.codes.specs.declared.frame_count_bit.FrameCountBit.TheVariants.{First, High, Low, Inactive}
use Rattle.codes.specs.declared.function_code.FunctionCode.{FunctionCode}
use Rattle.codes.specs.declared.function_code.FunctionCode.TheVariants.{Request, Response}
use Rattle.codes.specs.declared.request_type.RequestType.{RequestType}
use Rattle.codes.specs.declared.request_type.RequestType.TheVariants.{ClockValue, TimeEvent, SdaLow, SdnLow, SdaHigh, SdnHigh, MulticastSrd, FdlStatus, SrdLow, SrdHigh, Ident, LsapStatus}
use Rattle.codes.specs.declared.response.ResponseState.{ResponseState}
use Rattle.codes.specs.declared.response.ResponseState.TheVariants.{Slave, MasterNotReady, MasterWithoutToken, MasterInRing}
use Rattle.codes.specs.declared.response.ResponseStatus.{ResponseStatus}
use Rattle.codes.specs.declared.response.ResponseStatus.TheVariants.{Ok, UserError, NoResources, SapNotEnabled, DataLow, NoDataReady, DataHigh, NotReceivedDataLow, NotReceivedDataHigh}

-- ---- what is written is read back

-- What holds at each frame count bit, and at each state, holds at any.
every_bit : (P : FrameCountBit → Type 0) → P First → P High → P Low → P Inactive → (b : FrameCountBit) → P b
every_bit P a b c d First = a
every_bit P a b c d High = b
every_bit P a b c d Low = c
every_bit P a b c d Inactive = d

every_state :
    (P : ResponseState → Type 0) → P Slave → P MasterNotReady → P MasterWithoutToken → P MasterInRing
    → (s : ResponseState) → P s
every_state P a b c d Slave = a
every_state P a b c d MasterNotReady = b
every_state P a b c d MasterWithoutToken = c
every_state P a b c d MasterInRing = d

-- What is written is read back: of one code.
Again : FunctionCode → Type 0
Again code = function_code_of (code_byte code) ≡ Some code

request_again : (fcb : FrameCountBit) (req : RequestType) → Again (Request fcb req)
unfolding Again function_code_of code_byte request_type_of
request_again fcb ClockValue = every_bit (λ b. Again (Request b ClockValue)) refl refl refl refl fcb
request_again fcb TimeEvent = every_bit (λ b. Again (Request b TimeEvent)) refl refl refl refl fcb
request_again fcb SdaLow = every_bit (λ b. Again (Request b SdaLow)) refl refl refl refl fcb
request_again fcb SdnLow = every_bit (λ b. Again (Request b SdnLow)) refl refl refl refl fcb
request_again fcb SdaHigh = every_bit (λ b. Again (Request b SdaHigh)) refl refl refl refl fcb
request_again fcb SdnHigh = every_bit (λ b. Again (Request b SdnHigh)) refl refl refl refl fcb
request_again fcb MulticastSrd = every_bit (λ b. Again (Request b MulticastSrd)) refl refl refl refl fcb
request_again fcb FdlStatus = every_bit (λ b. Again (Request b FdlStatus)) refl refl refl refl fcb
request_again fcb SrdLow = every_bit (λ b. Again (Request b SrdLow)) refl refl refl refl fcb
request_again fcb SrdHigh = every_bit (λ b. Again (Request b SrdHigh)) refl refl refl refl fcb
request_again fcb Ident = every_bit (λ b. Again (Request b Ident)) refl refl refl refl fcb
request_again fcb LsapStatus = every_bit (λ b. Again (Request b LsapStatus)) refl refl refl refl fcb

response_again : (state : ResponseState) (status : ResponseStatus) → Again (Response state status)
unfolding Again function_code_of code_byte state_of status_of
response_again state Ok = every_state (λ s. Again (Response s Ok)) refl refl refl refl state
response_again state UserError = every_state (λ s. Again (Response s UserError)) refl refl refl refl state
response_again state NoResources = every_state (λ s. Again (Response s NoResources)) refl refl refl refl state
response_again state SapNotEnabled = every_state (λ s. Again (Response s SapNotEnabled)) refl refl refl refl state
response_again state DataLow = every_state (λ s. Again (Response s DataLow)) refl refl refl refl state
response_again state NoDataReady = every_state (λ s. Again (Response s NoDataReady)) refl refl refl refl state
response_again state DataHigh = every_state (λ s. Again (Response s DataHigh)) refl refl refl refl state
response_again state NotReceivedDataLow = every_state (λ s. Again (Response s NotReceivedDataLow)) refl refl refl refl state
response_again state NotReceivedDataHigh = every_state (λ s. Again (Response s NotReceivedDataHigh)) refl refl refl refl state

-- What is written is read back.
pub read_written : (code : FunctionCode) → function_code_of (code_byte code) ≡ Some code
unfolding Again
read_written (Request fcb req) = request_again fcb req
read_written (Response state status) = response_again state status

pub code_byte_injective : (x y : FunctionCode) → code_byte x ≡ code_byte y → x ≡ y
code_byte_injective x y e = let h : Some x ≡ Some y = led_back code_byte Some function_code_of read_written x y e in cc

-- A written function code is a byte.
pub code_byte_small : (code : FunctionCode) → code_byte code < 256
unfolding code_byte
code_byte_small (Request fcb req) = omega (arith, frame_count_part_small fcb, request_number_small req)
code_byte_small (Response state status) = omega (arith, state_number_small state, status_number_small status)

-- ---- what is read is written back: computed at all 256 bytes

-- Whether writing what a byte was read as gives the byte that it should: computed at all 256.
kept : ℕ → Option FunctionCode → Bool
kept b (Some code) = eqb (code_byte code) (kept_byte b)
kept b None = true

kept_at : ℕ → Bool
kept_at b = kept b (function_code_of b)

all_kept : NoFault (faults_from kept_at 0 256)
unfolding faults_from fault_before kept_at kept function_code_of code_byte request_type_of state_of status_of
all_kept = no_fault

kept_is :
    (b : ℕ) (code : FunctionCode) (found : Option FunctionCode) → kept b found ≡ true → found ≡ Some code
    → code_byte code ≡ kept_byte b
unfolding kept
kept_is b code (Some c) t e = let h : c ≡ code = cc in rw h at (eqb-true (code_byte c) (kept_byte b) t)
kept_is b code None t e = absurd (zero_one (cc))

-- "Writing gives the same byte back, except that a response loses bit 7."
pub written_read : (b : ℕ) → b < 256 → (code : FunctionCode) → function_code_of b ≡ Some code → code_byte code ≡ kept_byte b
unfolding kept_at
written_read b h code e = kept_is b code (function_code_of b) (at_each kept_at 256 all_kept b h) e

-- "So 120 of 256 bytes are read."
pub exactly_120_are_read : read_from 0 256 ≡ 120
unfolding read_from function_code_of request_type_of state_of status_of
exactly_120_are_read = refl

-- ---- the bytes of a code

-- Bit 7 is looked at in a request alone.
bit7_ignored : (b : ℕ) → b < 64 → function_code_of (b + 128) ≡ function_code_of b
unfolding function_code_of
bit7_ignored b h =
    let high : (b + 128) / 64 ≡ 2 = omega arith in
    let low : b / 64 ≡ 0 = omega arith in
    let state : (b + 128) / 16 % 4 ≡ b / 16 % 4 = omega arith in
    let status : (b + 128) % 16 ≡ b % 16 = omega arith in
    rw (high, low, state, status)

-- Every byte of a function code is read as it.
pub code_reads : {fc : FunctionCode} {b : ℕ} → CodeRead fc b → function_code_of b ≡ Some fc
unfolding code_byte
code_reads {fc} as_written = read_written fc
code_reads (bit7_set {state} {status}) =
    bit7_ignored _ (omega (arith, state_number_small state, status_number_small status))
    ∙ read_written (Response state status)

-- A response's byte, with bit 7 either way.
either_way :
    (x : Option ResponseState) (y : Option ResponseStatus) (fc : FunctionCode) (b : ℕ) (t : Bool) → leb 128 b ≡ t → b < 256
    → response_of x y ≡ Some fc → code_byte fc ≡ b % 128
    → CodeRead fc b
either_way (Some state) (Some status) fc b true t h e k =
    let is : Response state status ≡ fc = cc in
    let byte : code_byte (Response state status) + 128 ≡ b = omega (arith, leb-true 128 b t, rw (← is) at k) in
    rw (← is, ← byte) bit7_set
either_way (Some state) (Some status) fc b false t h e k =
    let byte : code_byte fc ≡ b = omega (arith, leb-false 128 b t) in
    rw (← byte) as_written
either_way (Some state) None fc b t q h e k = absurd (zero_one (cc))
either_way None y fc b t q h e k = absurd (zero_one (cc))

by_bit6 :
    (b : ℕ) → b < 256 → (fc : FunctionCode) → function_code_of b ≡ Some fc → (t : Bool) → bit 6 b ≡ t
    → CodeRead fc b
unfolding function_code_of
by_bit6 b h fc e true q = let byte : code_byte fc ≡ b = rw q at (written_read b h fc e) in rw (← byte) as_written
by_bit6 b h fc e false q =
    either_way (state_of (b / 16 % 4)) (status_of (b % 16)) fc b (leb 128 b) refl h (rw q at e) (rw q at (written_read b h fc e))

-- A byte that is read as a function code is one of its bytes.
pub read_code : (b : ℕ) → b < 256 → (fc : FunctionCode) → function_code_of b ≡ Some fc → CodeRead fc b
read_code b h fc e = by_bit6 b h fc e (bit 6 b) refl

-- A code is read from exactly its bytes.
pub code_read_exactly :
    (b : ℕ) → b < 256 → (fc : FunctionCode)
    → (function_code_of b ≡ Some fc → CodeRead fc b) × (CodeRead fc b → function_code_of b ≡ Some fc)
code_read_exactly b h fc = (read_code b h fc, code_reads)

-- ---- the reader of a byte, test by test

-- Bit 6 set: it is the request of the type and the frame count bit that were found.
pub request_read :
    (b : ℕ) (fcb : FrameCountBit) (found : Option RequestType)
    → b / 64 % 2 ≡ 1 → fcb ≡ frame_count_bit_of (bit 4 b) (bit 5 b) → found ≡ request_type_of (request_bits b)
    → request_of fcb found ≡ function_code_of b
unfolding function_code_of
request_read b fcb found set bits type = rw (eq-eqb _ _ set, bits, type)

-- Bit 6 clear: it is the response of the state and the status that were found.
pub response_read :
    (b : ℕ) (state : Option ResponseState) (status : Option ResponseStatus)
    → (b / 64 % 2 ≡ 1 → ⊥) → state ≡ state_of (b / 16 % 4) → status ≡ status_of (b % 16)
    → response_of state status ≡ function_code_of b
unfolding function_code_of
response_read b state status clear e f = rw (ne_eqb _ _ clear, e, f)

-- ---- whether a reply is expected

-- The frame count bit has no part in it.
any_bit : (x y : FrameCountBit) (found : Option RequestType) → reply_found (request_of x found) ≡ reply_found (request_of y found)
any_bit x y (Some req) = refl
any_bit x y None = refl

-- Nor has the state, which two bits always name.
is_named : Option ResponseState → Bool
is_named (Some state) = true
is_named None = false

named_at : ℕ → Bool
named_at n = is_named (state_of n)

all_named : NoFault (faults_from named_at 0 4)
unfolding faults_from fault_before named_at is_named state_of
all_named = no_fault

any_state :
    (state : ResponseState) (x : Option ResponseState) (found : Option ResponseStatus) → is_named x ≡ true
    → reply_found (response_of (Some state) found) ≡ reply_found (response_of x found)
unfolding is_named
any_state state (Some other) (Some status) t = refl
any_state state (Some other) None t = refl
any_state state None found t = absurd (zero_one (cc))

-- Bit 6 set: it is told by the request's number.
pub request_reply :
    (b : ℕ) → b / 64 % 2 ≡ 1
    → reply_found (request_of Inactive (request_type_of (request_bits b))) ≡ reply_found (function_code_of b)
request_reply b set =
    any_bit Inactive (frame_count_bit_of (bit 4 b) (bit 5 b)) (request_type_of (request_bits b))
    ∙ ap reply_found (request_read b _ _ set refl refl)

-- Bit 6 clear: by the status.
pub response_reply :
    (b : ℕ) → (b / 64 % 2 ≡ 1 → ⊥)
    → reply_found (response_of (Some Slave) (status_of (b % 16))) ≡ reply_found (function_code_of b)
unfolding named_at
response_reply b clear =
    any_state Slave (state_of (b / 16 % 4)) (status_of (b % 16))
    (at_each named_at 4 all_named (b / 16 % 4) (omega arith))
    ∙ ap reply_found (response_read b _ _ clear refl refl)
