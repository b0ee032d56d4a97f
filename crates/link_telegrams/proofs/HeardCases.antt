-- What a telegram to an end is, by its sender, its code's byte and its PDU: a law for each way through the code that looks at them. A
-- wrong test in the code then fails at the fact that its law asks for.
use Rattle.std.proofs.Common.{None, Option, Some}
use Prim.Native.Nat.{ℕ, ◌+◌, ◌*◌, ◌/◌, ◌%◌, ◌<◌, ◌≤◌}
use mathlib.Core.Bool.{Bool, true, false}
use mathlib.Core.Path.{◌≡◌, refl}
use native.Mathlib.Omega.{arith}
use lib.Dec.{eqb}
use borrow.Author.Tests.{eq-eqb, ne_eqb, le-leb, lt-leb, eqb-true, eqb-false}
use Rattle.codes.proofs.FunctionCodeLaws.{read_code}
use Rattle.codes.proofs.NumberLaws.{state_number_small, status_number_small}
use Rattle.codes.specs.FunctionCodes.{function_code_of, frame_count_part, code_byte, CodeRead, as_written, bit7_set}
use Rattle.codes.specs.RequestTypes.{request_number, request_type_of}
use Rattle.codes.specs.Responses.{state_number, state_of, status_number, status_of}
use Rattle.codes.specs.declared.frame_count_bit.FrameCountBit.{FrameCountBit}
use Rattle.codes.specs.declared.frame_count_bit.FrameCountBit.TheVariants as fcb
use Rattle.codes.specs.declared.function_code.FunctionCode.{FunctionCode}
use Rattle.codes.specs.declared.function_code.FunctionCode.TheVariants.{Request, Response}
use Rattle.codes.specs.declared.request_type.RequestType.{RequestType}
use Rattle.codes.specs.declared.request_type.RequestType.TheVariants.{SrdLow}
use Rattle.codes.specs.declared.response.ResponseState.{ResponseState}
use Rattle.codes.specs.declared.response.ResponseState.TheVariants.{Slave}
use Rattle.codes.specs.declared.response.ResponseStatus.{ResponseStatus}
use Rattle.codes.specs.declared.response.ResponseStatus.TheVariants as status
use Rattle.ground.proofs.Injective.{zero_one}
use Rattle.ground.proofs.PickLaws.{picked}
use Rattle.ground.specs.declared.address.Address.{Address}
use Rattle.ground.specs.declared.part.Part.{Part}
use Rattle.link_rules.specs.Rules.{longest}
use Rattle.link_telegrams.specs.Heard.{data_from, srd_of, request_in, request_from, slave_of, reply_from}
use Rattle.link_telegrams.specs.Leaves.{decoded_as, asked_of, is_request}
use Rattle.link_telegrams.specs.declared.headers.Bit.TheVariants as bit
use Rattle.link_telegrams.specs.declared.heard.ReplyHeard.{ReplyHeard}
use Rattle.link_telegrams.specs.declared.heard.ReplyHeard.TheVariants as reply_heard
use Rattle.link_telegrams.specs.declared.heard.RequestHeard.{RequestHeard}
use Rattle.link_telegrams.specs.declared.heard.RequestHeard.TheVariants as request_heard

-- ---- a request to the station, by its code's byte

request_byte :
    {f : FrameCountBit} {req : RequestType} {b : ℕ} → CodeRead (Request f req) b
    → b ≡ 64 + frame_count_part f + request_number req
unfolding code_byte
request_byte as_written = refl

module _ (sa : Address) (pdu : Part) (code : ℕ) where
  abbrev request : Option (Address × RequestHeard)
  request = request_in (decoded_as sa pdu (function_code_of code))

  module _ (first : code ≡ 0x6C) where
    pub first_empty : pdu.len ≡ 0 → request ≡ Some (sa, request_heard.Opening)
    unfolding function_code_of request_type_of
    first_empty e = rw (first, eq-eqb _ _ e)

    pub first_with_bytes : (pdu.len ≡ 0 → ⊥) → request ≡ Some (sa, request_heard.Nothing)
    unfolding function_code_of request_type_of
    first_with_bytes e = rw (first, ne_eqb _ _ e)

  pub high : code ≡ 0x7C → request ≡ Some (sa, request_heard.Order bit.High pdu)
  unfolding function_code_of request_type_of
  high e = rw e

  pub low : code ≡ 0x5C → request ≡ Some (sa, request_heard.Order bit.Low pdu)
  unfolding function_code_of request_type_of
  low e = rw e

  pub inactive : code ≡ 0x4C → request ≡ Some (sa, request_heard.Nothing)
  unfolding function_code_of request_type_of
  inactive e = rw e

  -- the same of what is asked alone
  pub empty_asks : code ≡ 0x6C → pdu.len ≡ 0 → asked_of request ≡ request_heard.Opening
  unfolding function_code_of request_type_of
  empty_asks e l = rw (e, eq-eqb _ _ l)

  pub with_bytes_asks : code ≡ 0x6C → (pdu.len ≡ 0 → ⊥) → asked_of request ≡ request_heard.Nothing
  unfolding function_code_of request_type_of
  with_bytes_asks e l = rw (e, ne_eqb _ _ l)

  pub high_asks : code ≡ 0x7C → asked_of request ≡ request_heard.Order bit.High pdu
  unfolding function_code_of request_type_of
  high_asks e = rw e

  pub low_asks : code ≡ 0x5C → asked_of request ≡ request_heard.Order bit.Low pdu
  unfolding function_code_of request_type_of
  low_asks e = rw e

  inactive_asks : code ≡ 0x4C → asked_of request ≡ request_heard.Nothing
  unfolding function_code_of request_type_of
  inactive_asks e = rw e

  -- these four bytes are of SRD low
  pub first_is : code ≡ 0x6C → is_request request ≡ true
  unfolding function_code_of request_type_of
  first_is e = rw e

  pub first_asks : code ≡ 0x6C → is_request request ≡ true
  first_asks = first_is

  pub high_is : code ≡ 0x7C → is_request request ≡ true
  unfolding function_code_of request_type_of
  high_is e = rw e

  pub low_is : code ≡ 0x5C → is_request request ≡ true
  unfolding function_code_of request_type_of
  low_is e = rw e

  pub inactive_is : code ≡ 0x4C → is_request request ≡ true
  unfolding function_code_of request_type_of
  inactive_is e = rw e

  -- Every other byte is that of another code, or of none.
  module _
      (byte : code < 256) (not_first : code ≡ 0x6C → ⊥) (not_high : code ≡ 0x7C → ⊥)
      (not_low : code ≡ 0x5C → ⊥)
    where
      module _ (not_inactive : code ≡ 0x4C → ⊥) where
        not_srd_low : (f : FrameCountBit) → code ≡ 64 + frame_count_part f + 0xC → ⊥
        not_srd_low fcb.First e = not_first e
        not_srd_low fcb.High e = not_high e
        not_srd_low fcb.Low e = not_low e
        not_srd_low fcb.Inactive e = not_inactive e

        by_code : (x : Option FunctionCode) → function_code_of code ≡ x → request_in (decoded_as sa pdu x) ≡ None
        by_code (Some (Request f req)) e =
            rw
            (ne_eqb (request_number req) (request_number SrdLow)
            (λ n. not_srd_low f (rw n at (request_byte (read_code code byte (Request f req) e)))))
        by_code (Some (Response state s)) e = refl
        by_code None e = refl

        pub another_code : request ≡ None
        another_code = by_code (function_code_of code) refl

        pub another_is : is_request request ≡ false
        another_is = rw (by_code (function_code_of code) refl)

        another_asks : asked_of request ≡ request_heard.Nothing
        another_asks = rw (by_code (function_code_of code) refl)

      -- A byte that is neither an opening's nor an order's asks nothing, be it one of SRD low or not.
      pub nothing_asked : asked_of request ≡ request_heard.Nothing
      nothing_asked = by_inactive (eqb code 0x4C) refl
        where
          by_inactive : (t : Bool) → eqb code 0x4C ≡ t → asked_of request ≡ request_heard.Nothing
          by_inactive true e = inactive_asks (eqb-true _ _ e)
          by_inactive false e = another_asks (eqb-false _ _ e)

-- What the code's byte of a request says, case by case: what it asks, and whether it is one of SRD low.
pub ruleset asked_cases = (empty_asks, with_bytes_asks, high_asks, low_asks, nothing_asked)

pub ruleset request_cases = (first_is, high_is, low_is, inactive_is, another_is)

pub none_asked : (y : Option (Address × RequestHeard)) → is_request y ≡ false → y ≡ None
none_asked (Some (sa, request)) e = absurd (zero_one cc)
none_asked None e = refl

-- The peer's request, and another station's.
module _ (peer sa : Address) (request : RequestHeard) where
  pub peer_asked : sa.0 ≡ peer.0 → request_from peer (Some (sa, request)) ≡ request
  peer_asked e = rw (eq-eqb _ _ e)

  pub another_asked : (sa.0 ≡ peer.0 → ⊥) → request_from peer (Some (sa, request)) ≡ request_heard.Nothing
  another_asked e = rw (ne_eqb _ _ e)

-- The request in a telegram has the telegram's sender.
module _ (sa : Address) (pdu : Part) where
  abbrev Sent : Option (Address × RequestHeard) → Type 0
  Sent y = is_request y ≡ true → y ≡ Some (sa, asked_of y)

  pub sender_asked : (x : Option FunctionCode) → Sent (request_in (decoded_as sa pdu x))
  sender_asked (Some (Request f req)) e =
      picked Sent (eqb (request_number req) (request_number SrdLow)) (λ t q. refl) (λ t q. absurd (zero_one cc)) e
  sender_asked (Some (Response state s)) e = absurd (zero_one cc)
  sender_asked None e = absurd (zero_one cc)

  module _ (peer : Address) where
    pub sent_by_peer :
        sa.0 ≡ peer.0 → (x : Option FunctionCode)
        → request_from peer (request_in (decoded_as sa pdu x)) ≡ asked_of (request_in (decoded_as sa pdu x))
    sent_by_peer e (Some (Request f req)) =
        picked (λ y. request_from peer y ≡ asked_of y) (eqb (request_number req) (request_number SrdLow))
        (λ t. peer_asked peer sa (srd_of f pdu) e)
        (λ t. refl)
    sent_by_peer e (Some (Response state s)) = refl
    sent_by_peer e None = refl

    pub sent_by_another :
        (sa.0 ≡ peer.0 → ⊥) → (x : Option FunctionCode)
        → request_from peer (request_in (decoded_as sa pdu x)) ≡ request_heard.Nothing
    sent_by_another d (Some (Request f req)) =
        picked (λ y. request_from peer y ≡ request_heard.Nothing) (eqb (request_number req) (request_number SrdLow))
        (λ t. another_asked peer sa (srd_of f pdu) d)
        (λ t. refl)
    sent_by_another d (Some (Response state s)) = refl
    sent_by_another d None = refl

-- ---- a response to the station, by its code's byte

-- A telegram of another station is no reply, whatever its code.
pub not_the_peer :
    (peer sa : Address) (fc : FunctionCode) (pdu : Part) → (sa.0 ≡ peer.0 → ⊥)
    → reply_from peer (data_from sa fc pdu) ≡ reply_heard.Nothing
not_the_peer peer sa (Request f req) pdu d = refl
not_the_peer peer sa (Response state s) pdu d = rw (ne_eqb _ _ d)

response_byte :
    {state : ResponseState} {s : ResponseStatus} {b : ℕ} → CodeRead (Response state s) b
    → b % 128 ≡ state_number state * 16 + status_number s
unfolding code_byte
response_byte {state} {s} as_written = omega (arith, state_number_small state, status_number_small s)
response_byte {state} {s} bit7_set = omega (arith, state_number_small state, status_number_small s)

-- Bit 7 is ignored, so the bytes of a slave's response are known by what is below it.
module _ (code : ℕ) where
  ok_code : code % 128 ≡ 0x00 → function_code_of code ≡ Some (Response Slave status.Ok)
  unfolding function_code_of state_of status_of
  ok_code e =
      let six : code / 64 % 2 ≡ 0 = omega arith in
      let state : code / 16 % 4 ≡ 0 = omega arith in
      let low : code % 16 ≡ 0 = omega arith in
      rw (six, state, low)

  data_low_code : code % 128 ≡ 0x08 → function_code_of code ≡ Some (Response Slave status.DataLow)
  unfolding function_code_of state_of status_of
  data_low_code e =
      let six : code / 64 % 2 ≡ 0 = omega arith in
      let state : code / 16 % 4 ≡ 0 = omega arith in
      let low : code % 16 ≡ 8 = omega arith in
      rw (six, state, low)

module _ (peer sa : Address) (pdu : Part) (code : ℕ) where
  abbrev answered : ReplyHeard
  answered = reply_from peer (decoded_as sa pdu (function_code_of code))

  pub another_answered : (sa.0 ≡ peer.0 → ⊥) → answered ≡ reply_heard.Nothing
  another_answered d = by_code (function_code_of code)
    where
      by_code : (x : Option FunctionCode) → reply_from peer (decoded_as sa pdu x) ≡ reply_heard.Nothing
      by_code (Some fc) = not_the_peer peer sa fc pdu d
      by_code None = refl

  module _ (from-peer : sa.0 ≡ peer.0) where
    pub ok_empty : code % 128 ≡ 0x00 → pdu.len ≡ 0 → answered ≡ reply_heard.Ok
    ok_empty o e = rw (ok_code code o, eq-eqb _ _ from-peer, eq-eqb _ _ e)

    pub ok_with_bytes : code % 128 ≡ 0x00 → (pdu.len ≡ 0 → ⊥) → answered ≡ reply_heard.Nothing
    ok_with_bytes o e = rw (ok_code code o, eq-eqb _ _ from-peer, ne_eqb _ _ e)

    pub data_short : code % 128 ≡ 0x08 → pdu.len ≤ longest → answered ≡ reply_heard.Reply pdu
    data_short o l = rw (data_low_code code o, eq-eqb _ _ from-peer, le-leb _ _ l)

    pub data_long : code % 128 ≡ 0x08 → longest < pdu.len → answered ≡ reply_heard.Nothing
    data_long o l = rw (data_low_code code o, eq-eqb _ _ from-peer, lt-leb _ _ l)

  -- Every other byte is that of another code, or of none.
  module _ (byte : code < 256) (not-ok : code % 128 ≡ 0x00 → ⊥) (not-data : code % 128 ≡ 0x08 → ⊥) where
    abbrev NoReply : ReplyHeard → Type 0
    NoReply x = x ≡ reply_heard.Nothing

    no_slave :
        (state : ResponseState) (s : ResponseStatus)
        → code % 128 ≡ state_number state * 16 + status_number s → state_number state ≡ 0
        → slave_of s pdu ≡ reply_heard.Nothing
    no_slave state s e slave =
        rw (
          ne_eqb (status_number s) 0 (λ o. not-ok (omega (arith, e, slave, o))),
          ne_eqb (status_number s) 8 (λ o. not-data (omega (arith, e, slave, o))),
        )

    no_reply : (x : Option FunctionCode) → function_code_of code ≡ x → reply_from peer (decoded_as sa pdu x) ≡ reply_heard.Nothing
    no_reply (Some (Request f req)) e = refl
    no_reply (Some (Response state s)) e =
        picked NoReply (eqb sa.0 peer.0)
        (λ p. picked NoReply (eqb (state_number state) (state_number Slave))
        (λ q. no_slave state s (response_byte (read_code code byte (Response state s) e)) (eqb-true _ _ q))
        (λ q. refl))
        (λ p. refl)
    no_reply None e = refl

    pub another_status : answered ≡ reply_heard.Nothing
    another_status = no_reply (function_code_of code) refl

-- What a response says, case by case.
pub ruleset reply_cases = (another_answered, ok_empty, ok_with_bytes, data_short, data_long, another_status)
