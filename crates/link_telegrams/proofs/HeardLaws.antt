-- An order that is heard is a part of the heard bytes: its telegram fills them, and a telegram's PDU lies within it.
-- Read `request_to_within`, `request_within`.
use Rattle.std.proofs.Common.{None, Option, Some}
use Prim.Native.Nat.{ℕ, ◌+◌, ◌≤◌}
use mathlib.Core.List.{List}
use mathlib.Core.Path.{◌≡◌, refl}
use native.Mathlib.Omega.{arith}
use lib.Dec.{eqb}
use lib.ListN.{length}
use borrow.Author.Tests.{eqb-true}
use Rattle.ground.proofs.PickLaws.{picked}
use Rattle.codes.specs.RequestTypes.{request_number}
use Rattle.ground.specs.declared.address.Address.{Address}
use Rattle.codes.specs.declared.frame_count_bit.FrameCountBit.{FrameCountBit}
use Rattle.codes.specs.declared.frame_count_bit.FrameCountBit.TheVariants as fcb
use Rattle.codes.specs.declared.function_code.FunctionCode.TheVariants.{Request, Response}
use Rattle.ground.specs.declared.part.Part.{Part}
use Rattle.codes.specs.declared.request_type.RequestType.TheVariants.{SrdLow}
use Rattle.link_rules.specs.declared.link.Link.{Link}
use Rattle.link_telegrams.specs.Heard.{DataHeard, data_from, no_data, is_to, read_in, data_to_of, srd_of, request_in, request_to_of, request_from, request_heard_of}
use Rattle.link_telegrams.specs.declared.heard.RequestHeard.{RequestHeard}
use Rattle.link_telegrams.specs.declared.heard.RequestHeard.TheVariants as request_heard
use Rattle.telegram.proofs.ReadingLaws.{pdu_within}
use Rattle.telegram.specs.Reading.{Reading, whole, incomplete, refused, read_of}
use Rattle.telegram.specs.declared.kinds.Telegram.TheVariants.{Data, Token, ShortConfirmation}

-- the part lies within the bytes
abbrev pub Within : List ℕ → Part → Type 0
Within s p = p.start + p.len ≤ length s

abbrev DataWithin : List ℕ → DataHeard → Type 0
DataWithin s (data_from sa fc pdu) = Within s pdu
DataWithin s no_data = Unit {0}

-- so does the order's, where one is heard
abbrev pub RequestWithin : List ℕ → RequestHeard → Type 0
RequestWithin s request_heard.Opening = Unit {0}
RequestWithin s (request_heard.Order b q) = Within s q
RequestWithin s request_heard.Nothing = Unit {0}

abbrev pub ToWithin : List ℕ → Option (Address × RequestHeard) → Type 0
ToWithin s (Some (sa, request)) = RequestWithin s request
ToWithin s None = Unit {0}

module _ (s : List ℕ) where
  read_within : (own : Address) (r : Reading) → read_of s ≡ r → DataWithin s (read_in (length s) own r)
  read_within own (whole (Data d) n) e =
      picked (DataWithin s) (eqb n (length s))
      (λ fills. picked (DataWithin s) (is_to d.h own)
      (λ ours. omega (arith, eqb-true n (length s) fills, pdu_within s e))
      (λ other. tt))
      (λ short. tt)
  read_within own (whole (Token t) n) e = tt
  read_within own (whole ShortConfirmation n) e = tt
  read_within own incomplete e = tt
  read_within own (refused k) e = tt

  srd_within : (f : FrameCountBit) (pdu : Part) → Within s pdu → RequestWithin s (srd_of f pdu)
  srd_within fcb.First pdu h = picked (RequestWithin s) (eqb pdu.len 0) (λ e. tt) (λ e. tt)
  srd_within fcb.High pdu h = h
  srd_within fcb.Low pdu h = h
  srd_within fcb.Inactive pdu h = tt

  in_within : (d : DataHeard) → DataWithin s d → ToWithin s (request_in d)
  in_within (data_from sa (Request f req) pdu) h =
      picked (ToWithin s) (eqb (request_number req) (request_number SrdLow)) (λ e. srd_within f pdu h) (λ e. tt)
  in_within (data_from sa (Response state status) pdu) h = tt
  in_within no_data h = tt

  pub request_to_within : (own : Address) → ToWithin s (request_to_of own s)
  unfolding request_to_of data_to_of
  request_to_within own = in_within (read_in (length s) own (read_of s)) (read_within own (read_of s) refl)

  from_within : (peer : Address) (r : Option (Address × RequestHeard)) → ToWithin s r → RequestWithin s (request_from peer r)
  from_within peer (Some (sa, request)) h = picked (RequestWithin s) (eqb sa.0 peer.0) (λ e. h) (λ e. tt)
  from_within peer None h = tt

  pub request_within : (link : Link) → RequestWithin s (request_heard_of link s)
  unfolding request_heard_of
  request_within link = from_within link.peer (request_to_of link.own s) (request_to_within link.own)
