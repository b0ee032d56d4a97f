-- Document 01, "The order link": "Telegrams carry no SAPs, requests SRD low, responses state Slave." Read `opening_header`,
-- `order_header`, `ok_header`, `reply_header`.
use Rattle.std.specs.Prelude.{None}
use Rattle.codes.specs.FunctionCodes.{response_code}
use Rattle.codes.specs.declared.frame_count_bit.FrameCountBit.{FrameCountBit}
use Rattle.codes.specs.declared.frame_count_bit.FrameCountBit.TheVariants as fcb
use Rattle.codes.specs.declared.function_code.FunctionCode.{FunctionCode}
use Rattle.codes.specs.declared.function_code.FunctionCode.TheVariants.{Request}
use Rattle.codes.specs.declared.request_type.RequestType.TheVariants.{SrdLow}
use Rattle.codes.specs.declared.response.ResponseState.TheVariants.{Slave}
use Rattle.codes.specs.declared.response.ResponseStatus.TheVariants as status
use Rattle.link_rules.specs.declared.link.Link.{Link}
use Rattle.link_telegrams.specs.declared.headers.Bit.{Bit}
use Rattle.link_telegrams.specs.declared.headers.Bit.TheVariants as bit
use Rattle.telegram.specs.declared.header.DataTelegramHeader.{DataTelegramHeader}

-- from us to the peer, without SAPs
abbrev pub link_header : Link → FunctionCode → DataTelegramHeader
link_header link fc = record { da = link.peer; sa = link.own; dsap = None; ssap = None; fc = fc }

abbrev pub fcb_of_bit : Bit → FrameCountBit
fcb_of_bit bit.Low = fcb.Low
fcb_of_bit bit.High = fcb.High

-- "cycle": Low to High, High to Low
abbrev pub cycled_bit : Bit → Bit
cycled_bit bit.Low = bit.High
cycled_bit bit.High = bit.Low

-- "Opening: First, empty PDU"
unfoldable pub opening_header : Link → DataTelegramHeader
opening_header link = link_header link (Request fcb.First SrdLow)

-- "Order: FCV set, 1 to 246 bytes"
unfoldable pub order_header : Link → Bit → DataTelegramHeader
order_header link b = link_header link (Request (fcb_of_bit b) SrdLow)

-- the opening's reply: "status Ok, empty"
unfoldable pub ok_header : Link → DataTelegramHeader
ok_header link = link_header link (response_code Slave status.Ok)

-- the order's reply: "status DataLow, 0 to 246 bytes"
unfoldable pub reply_header : Link → DataTelegramHeader
reply_header link = link_header link (response_code Slave status.DataLow)
