-- The initiator's record as 252 bytes: own, peer, tries, phase, telegrams written in the phase, the order's length, the order.
use Rattle.std.specs.Prelude.{ℕ, List, ◌∷◌, drop}
use Rattle.ground.specs.Part.{byte_at}
use Rattle.exports_link.specs.Bytes.{length_byte}
use Rattle.link_rules.specs.Rules.{link_of}
use Rattle.initiator.specs.Records.{len_of, used_of}
use Rattle.initiator.specs.declared.state.Initiator.{Initiator}
use Rattle.link_numbers.specs.Numbers.{phase_number, phase_of}

-- the record of these bytes, whatever they are
abbrev pub initiator_of : List ℕ → Initiator
initiator_of s =
    record {
      link = link_of (byte_at s 0) (byte_at s 1);
      tries = byte_at s 2;
      phase = phase_of (byte_at s 3) (byte_at s 4);
      order = drop 6 s;
      len = byte_at s 5;
    }

-- the bytes of a record
abbrev pub initiator_bytes : Initiator → List ℕ
initiator_bytes i =
    i.link.own.0 ∷ i.link.peer.0 ∷ i.tries ∷ phase_number i.phase ∷ used_of i.phase ∷ length_byte (len_of i) ∷ i.order
