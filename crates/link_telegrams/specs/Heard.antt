-- Document 01, "The order link": what heard bytes are to an end. "Either end hears one telegram that fills the given bytes;
-- other bytes are ignored." Read `request_to_of`, `request_heard_of`, `reply_heard_of`.
use Rattle.std.specs.Prelude.{ℕ, Bool, true, false, List, eqb, leb, length, None, Option, Some}
use Rattle.ground.specs.Pick.{if}
use Rattle.ground.specs.declared.address.Address.{Address}
use Rattle.codes.specs.declared.frame_count_bit.FrameCountBit.{FrameCountBit}
use Rattle.codes.specs.declared.frame_count_bit.FrameCountBit.TheVariants as fcb
use Rattle.codes.specs.declared.function_code.FunctionCode.{FunctionCode}
use Rattle.codes.specs.declared.function_code.FunctionCode.TheVariants.{Request, Response}
use Rattle.ground.specs.declared.part.Part.{Part}
use Rattle.codes.specs.RequestTypes.{request_number}
use Rattle.codes.specs.Responses.{state_number, status_number}
use Rattle.codes.specs.declared.request_type.RequestType.TheVariants.{SrdLow}
use Rattle.codes.specs.declared.response.ResponseState.TheVariants.{Slave}
use Rattle.codes.specs.declared.response.ResponseStatus.{ResponseStatus}
use Rattle.codes.specs.declared.response.ResponseStatus.TheVariants as status
use Rattle.link_rules.specs.Rules.{longest}
use Rattle.link_rules.specs.declared.link.Link.{Link}
use Rattle.link_telegrams.specs.declared.headers.Bit.TheVariants as bit
use Rattle.link_telegrams.specs.declared.heard.ReplyHeard.{ReplyHeard}
use Rattle.link_telegrams.specs.declared.heard.ReplyHeard.TheVariants as reply_heard
use Rattle.link_telegrams.specs.declared.heard.RequestHeard.{RequestHeard}
use Rattle.link_telegrams.specs.declared.heard.RequestHeard.TheVariants as request_heard
use Rattle.telegram.specs.Reading.{Reading, whole, incomplete, refused, read_of}
use Rattle.telegram.specs.declared.header.DataTelegramHeader.{DataTelegramHeader}
use Rattle.telegram.specs.declared.kinds.Telegram.{Telegram}
use Rattle.telegram.specs.declared.kinds.Telegram.TheVariants.{Data, Token, ShortConfirmation}
use Rattle.ground.specs.declared.address.Sap.{Sap}

-- what heard bytes are to a station: a data telegram to it, by its sender, code and PDU, or nothing
pub data DataHeard : Type 0 where
  data_from : Address → FunctionCode → Part → DataHeard
  no_data : DataHeard

-- no SAP
abbrev pub absent : Option Sap → Bool
absent (Some s) = false
absent None = true

-- to us, without SAPs
abbrev pub is_to : DataTelegramHeader → Address → Bool
is_to h own = if (eqb h.da.0 own.0) (if (absent h.dsap) (absent h.ssap) false) false

-- "one telegram that fills the given bytes": of n bytes heard it has them all; a data telegram to us
abbrev pub data_in : ℕ → ℕ → Address → Telegram → DataHeard
data_in n total own (Data d) =
    if (eqb total n) (if (is_to d.h own) (data_from d.h.sa d.h.fc d.pdu) no_data)
    no_data
data_in n total own (Token t) = no_data
data_in n total own ShortConfirmation = no_data

abbrev pub read_in : ℕ → Address → Reading → DataHeard
read_in n own (whole t total) = data_in n total own t
read_in n own incomplete = no_data
read_in n own (refused number) = no_data

unfoldable pub data_to_of : Address → List ℕ → DataHeard
data_to_of own s = read_in (length s) own (read_of s)

-- a request SRD low. "First and empty" is the opening, "First with bytes: nothing"; FCV set is an order under its bit
abbrev pub srd_of : FrameCountBit → Part → RequestHeard
srd_of fcb.First pdu = if (eqb pdu.len 0) request_heard.Opening request_heard.Nothing
srd_of fcb.High pdu = request_heard.Order bit.High pdu
srd_of fcb.Low pdu = request_heard.Order bit.Low pdu
srd_of fcb.Inactive pdu = request_heard.Nothing

-- the station that sent it, and its request
abbrev pub request_in : DataHeard → Option (Address × RequestHeard)
request_in (data_from sa (Request f req) pdu) =
    if (eqb (request_number req) (request_number SrdLow)) (Some (sa, srd_of f pdu)) None
request_in (data_from sa (Response state s) pdu) = None
request_in no_data = None

unfoldable pub request_to_of : Address → List ℕ → Option (Address × RequestHeard)
request_to_of own s = request_in (data_to_of own s)

-- the request, where the peer sent it
abbrev pub request_from : Address → Option (Address × RequestHeard) → RequestHeard
request_from peer (Some (sa, request)) = if (eqb sa.0 peer.0) request request_heard.Nothing
request_from peer None = request_heard.Nothing

-- a response of a slave: "status Ok, empty" is the opening's reply, "status DataLow, 0 to 246 bytes" the order's
abbrev pub slave_of : ResponseStatus → Part → ReplyHeard
slave_of s pdu =
    if (eqb (status_number s) (status_number status.Ok)) (if (eqb pdu.len 0) reply_heard.Ok reply_heard.Nothing)
    (if (eqb (status_number s) (status_number status.DataLow)) (if (leb pdu.len longest) (reply_heard.Reply pdu) reply_heard.Nothing)
    reply_heard.Nothing)

abbrev pub reply_from : Address → DataHeard → ReplyHeard
reply_from peer (data_from sa (Request f req) pdu) = reply_heard.Nothing
reply_from peer (data_from sa (Response state s) pdu) =
    if (eqb sa.0 peer.0) (if (eqb (state_number state) (state_number Slave)) (slave_of s pdu) reply_heard.Nothing)
    reply_heard.Nothing
reply_from peer no_data = reply_heard.Nothing

-- what heard bytes are to the responder of a link, and to its initiator
unfoldable pub request_heard_of : Link → List ℕ → RequestHeard
request_heard_of link s = request_from link.peer (request_to_of link.own s)

unfoldable pub reply_heard_of : Link → List ℕ → ReplyHeard
reply_heard_of link s = reply_from link.peer (data_to_of link.own s)
