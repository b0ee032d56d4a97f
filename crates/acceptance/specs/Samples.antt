-- Document 01, "Acceptance samples": all that are marked P, in its order and its words, on the definitions that the promises of the calls
-- cite: `read_of` (`Telegram::deserialize`), `shown_part` (`DataTelegram::pdu`), `request_heard_of` (`request_heard`), `made` and `witnessed`
-- (`TokenRing::new`, `witness_token_pass`), `step_of` (`ExtDiagBlockIter::next`), `body_of` (the bytes of a block's body) and `first_of`
-- (`modules::first_set`). Bytes are hexadecimal.
use Rattle.std.specs.Prelude.{ℕ, true, List, [], ◌∷◌, ◌≡◌, None, Option, Some}
use Rattle.ground.specs.Part.{shown_part}
use Rattle.codes.specs.declared.frame_count_bit.FrameCountBit.TheVariants.{First, Low}
use Rattle.codes.specs.declared.function_code.FunctionCode.{FunctionCode}
use Rattle.codes.specs.declared.function_code.FunctionCode.TheVariants.{Request}
use Rattle.ground.specs.declared.part.Part.{Part}
use Rattle.codes.specs.declared.request_type.RequestType.TheVariants.{SrdLow}
use Rattle.diagnostics_blocks.specs.Modules.{first_of}
use Rattle.diagnostics_blocks.specs.Shown.{shown_error, shown_type}
use Rattle.diagnostics.specs.Walk.{block, body_of, channel_is, device_at, identifier_at, refused_at, step_of}
use Rattle.diagnostics_blocks.specs.declared.channel.ChannelDataType.TheVariants.{Bit}
use Rattle.diagnostics_blocks.specs.declared.channel.ChannelError.TheVariants.{LineBreak}
use Rattle.link_telegrams.specs.Heard.{request_heard_of}
use Rattle.link_telegrams.specs.declared.headers.Bit.TheVariants as bit
use Rattle.link_telegrams.specs.declared.heard.RequestHeard.TheVariants.{Order}
use Rattle.telegram.specs.Reading.{Reading, whole, incomplete, refused, read_of}
use Rattle.telegram.specs.declared.kinds.Telegram.TheVariants.{Data}
use Rattle.token_ring.specs.Rules.{made}
use Rattle.token_ring.specs.Passes.{◌to◌, after, ShownList, shown_list}
use Rattle.token_ring.specs.declared.las_state.LasState.{LasState}
use Rattle.token_ring.specs.declared.las_state.LasState.TheVariants.{Discovery, Verification, Valid}
use Rattle.token_ring.specs.declared.ring.TokenRing.{TokenRing}
use Rattle.ground.specs.declared.address.Sap.{Sap}

-- the data telegram of 11 bytes from station 2 to station 5 with these SAPs, this function code and this part for its PDU
abbrev from2to5 : Option Sap → Option Sap → FunctionCode → Part → Reading
from2to5 dsap ssap fc pdu =
    whole
    (Data (record {
      h = record { da = record { 0 = 5 }; sa = record { 0 = 2 }; dsap = dsap; ssap = ssap; fc = fc };
      pdu = pdu;
    }))
    11

-- a SAP
abbrev sap : ℕ → Option Sap
sap n = Some (record { 0 = n })

-- the part of so many bytes from a place on
abbrev from : ℕ → ℕ → Part
from start len = record { start = start; len = len }

-- the bytes of a block's body, by its start and its length
abbrev body : List ℕ → ℕ → ℕ → List ℕ
body walked start len = body_of walked start len

-- what is told of a station list: its active stations, next, previous and phase
abbrev list : List ℕ → ℕ → ℕ → LasState → ShownList
list stations next previous phase = record { stations = stations; next = next; previous = previous; phase = phase }

-- own 7: 9-2, 2-5, 5-9, 9-2
abbrev own7 : TokenRing
own7 = after (9 to 2 ∷ 2 to 5 ∷ 5 to 9 ∷ 9 to 2 ∷ []) (made 7)

-- 68 05 05 68 05 02 5C 01 03 67 16, with these last two bytes
abbrev order : ℕ → ℕ → List ℕ
order sum end = 0x68 ∷ 0x05 ∷ 0x05 ∷ 0x68 ∷ 0x05 ∷ 0x02 ∷ 0x5C ∷ 0x01 ∷ 0x03 ∷ sum ∷ end ∷ []

pub record Samples : Type 0 where
  -- "68 05 05 68 05 02 5C 01 03 67 16: order at Low, PDU 01 03; with last byte 17: 7; with 66 for 67: 6"
  pub order_at_low : read_of (order 0x67 0x16) ≡ from2to5 None None (Request Low SrdLow) (from 7 2)
  pub order_heard : request_heard_of (record { own = record { 0 = 5 }; peer = record { 0 = 2 } }) (order 0x67 0x16) ≡ Order bit.Low (from 7 2)
  pub order_pdu : shown_part (from 7 2) (order 0x67 0x16) ≡ 0x01 ∷ 0x03 ∷ []
  pub last_byte17 : read_of (order 0x67 0x17) ≡ refused 7
  pub sum66 : read_of (order 0x66 0x16) ≡ refused 6
  -- "68 05 05 68 85 82 6C 3C 3E ED 16: SAPs 60, 62"
  pub saps : read_of (0x68 ∷ 0x05 ∷ 0x05 ∷ 0x68 ∷ 0x85 ∷ 0x82 ∷ 0x6C ∷ 0x3C ∷ 0x3E ∷ 0xED ∷ 0x16 ∷ []) ≡ from2to5 (sap 60) (sap 62) (Request First SrdLow) (from 9 0)
  -- "68 03 04 00 00 00: 2. 68 03 04: incomplete. 68 02 02 00 00 00: 3"
  pub lengths_unequal : read_of (0x68 ∷ 0x03 ∷ 0x04 ∷ 0x00 ∷ 0x00 ∷ 0x00 ∷ []) ≡ refused 2
  pub too_few : read_of (0x68 ∷ 0x03 ∷ 0x04 ∷ []) ≡ incomplete
  pub length_two : read_of (0x68 ∷ 0x02 ∷ 0x02 ∷ 0x00 ∷ 0x00 ∷ 0x00 ∷ []) ≡ refused 3
  -- "own 7: 9-2, 2-5, 5-9, 9-2 leaves {2,5,9}, next 9, previous 5, Verification; 2-5, 5-9, 9-2 makes Valid"
  pub discovered : shown_list own7 ≡ list (2 ∷ 5 ∷ 9 ∷ []) 9 5 Verification
  pub verified : shown_list (after (2 to 5 ∷ 5 to 9 ∷ 9 to 2 ∷ []) own7) ≡ list (2 ∷ 5 ∷ 9 ∷ []) 9 5 Valid
  -- "own 3: 3-3 three times is Valid, {3}"
  pub alone : shown_list (after (3 to 3 ∷ 3 to 3 ∷ 3 to 3 ∷ []) (made 3)) ≡ list (3 ∷ []) 3 3 Valid
  -- "{2,5,9} in Verification, 9-5: {5,9}, Discovery"
  pub changed : shown_list (after (9 to 5 ∷ []) own7) ≡ list (5 ∷ 9 ∷ []) 9 5 Discovery
  -- "42 05: modules 0 and 2"
  pub identifier : step_of (0x42 ∷ 0x05 ∷ []) 0 ≡ record { answer = block (identifier_at 1 1); cursor = 2 }
  pub module0 : first_of (body (0x42 ∷ 0x05 ∷ []) 1 1) 0 ≡ Some 0
  pub module2 : first_of (body (0x42 ∷ 0x05 ∷ []) 1 1) 1 ≡ Some 2
  pub no_more : first_of (body (0x42 ∷ 0x05 ∷ []) 1 1) 3 ≡ None
  -- "83 C1 26: module 3, channel 1, both, Bit, LineBreak"
  pub channel : step_of (0x83 ∷ 0xC1 ∷ 0x26 ∷ []) 0
      ≡ record {
        answer = block (channel_is (record {
          module_no = 3;
          channel_no = 1;
          input = true;
          output = true;
          dtype = shown_type Bit;
          error = shown_error LineBreak;
        }));
        cursor = 3;
      }
  -- "40: 14. C0: 13. 43 01: 12. 01: empty device block"; a refusal moves the cursor to the end
  pub zero_length : step_of (0x40 ∷ []) 0 ≡ refused_at 14 1
  pub reserved_header : step_of (0xC0 ∷ []) 0 ≡ refused_at 13 1
  pub cut_off : step_of (0x43 ∷ 0x01 ∷ []) 0 ≡ refused_at 12 2
  pub empty_device : step_of (0x01 ∷ []) 0 ≡ record { answer = block (device_at 1 0); cursor = 1 }
  pub empty_body : body (0x01 ∷ []) 1 0 ≡ []
