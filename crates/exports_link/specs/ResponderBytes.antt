-- The responder's record as 250 bytes: own, peer, state, the held reply's length, the held reply.
use Rattle.std.specs.Prelude.{ℕ, List, ◌∷◌, drop, length}
use Rattle.ground.specs.Part.{byte_at}
use Rattle.exports_link.specs.Bytes.{length_byte}
use Rattle.link_rules.specs.Rules.{link_of}
use Rattle.link_numbers.specs.Numbers.{state_number, state_of}
use Rattle.responder_row.specs.Rows.{held_of}
use Rattle.responder.specs.declared.state.Responder.{Responder}

-- the record of these bytes, whatever they are
abbrev pub responder_of : List ℕ → Responder
responder_of s =
    record {
      link = link_of (byte_at s 0) (byte_at s 1);
      row = record { state = state_of (byte_at s 2); held = drop 4 s; len = byte_at s 3 };
    }

-- the bytes of a record
abbrev pub responder_bytes : Responder → List ℕ
responder_bytes r =
    r.link.own.0 ∷ r.link.peer.0 ∷ state_number r.row.state ∷ length_byte (length (held_of r.row)) ∷ r.row.held
