-- A record of the code, seen as where its end stands on messages; and what is known of every record that comes about on the
-- link between two stations.
use Prim.Native.Nat.{ℕ, ◌≤◌}
use mathlib.Core.List.{List}
use mathlib.Core.Path.{◌≡◌, refl}
use lib.ListN.{length}
use Rattle.initiator.specs.Records.{order_of}
use Rattle.initiator.specs.declared.state.Initiator as initiator
use Rattle.initiator.specs.declared.state.Phase as phase
use Rattle.initiator.specs.declared.state.Phase.TheVariants.{Closed, Ready, Opening, Order}
use Rattle.link_model.specs.Initiator.{Phase, closed, ready, opening_phase, order_phase, Initiator}
use Rattle.link_model.specs.Messages as message
use Rattle.link_model.specs.Responder.{Row, blank, opened, owes, holds}
use Rattle.link_rules.specs.Rules.{longest}
use Rattle.link_rules.specs.declared.link.Link.{Link}
use Rattle.link_telegrams.specs.Headers.{cycled_bit}
use Rattle.link_telegrams.specs.declared.headers.Bit.{Bit}
use Rattle.link_telegrams.specs.declared.headers.Bit.TheVariants.{Low, High}
use Rattle.responder_row.specs.Rows.{held_of}
use Rattle.responder_row.specs.declared.row.Row as row
use Rattle.responder_row.specs.declared.row.RowState.{RowState}
use Rattle.responder_row.specs.declared.row.RowState.TheVariants.{Blank, Opened, Owes, Holds}
use Rattle.responder.specs.declared.state.Responder.{Responder}

abbrev pub bit_seen : Bit → message.Bit
bit_seen Low = message.low
bit_seen High = message.high

abbrev pub bit_put : message.Bit → Bit
bit_put message.low = Low
bit_put message.high = High

pub seen_put : (b : message.Bit) → bit_seen (bit_put b) ≡ b
seen_put message.low = refl
seen_put message.high = refl

pub put_seen : (b : Bit) → bit_put (bit_seen b) ≡ b
put_seen Low = refl
put_seen High = refl

pub cycled_seen : (b : Bit) → bit_seen (cycled_bit b) ≡ message.cycled (bit_seen b)
cycled_seen Low = refl
cycled_seen High = refl

-- the phase, with the pending order
abbrev pub phase_seen : phase.Phase → List ℕ → Phase
phase_seen Closed q = closed
phase_seen (Ready b) q = ready (bit_seen b)
phase_seen (Opening k) q = opening_phase q k
phase_seen (Order b k) q = order_phase (bit_seen b) q k

abbrev pub initiator_seen : initiator.Initiator → Initiator
initiator_seen i = record { tries = i.tries; phase = phase_seen i.phase (order_of i) }

-- the state of the row, with the held reply
abbrev pub state_seen : RowState → List ℕ → Row
state_seen Blank p = blank
state_seen Opened p = opened
state_seen (Owes b) p = owes (bit_seen b)
state_seen (Holds b) p = holds (bit_seen b) p

abbrev pub row_seen : row.Row → Row
row_seen r = state_seen r.state (held_of r)

abbrev pub responder_seen : Responder → Row
responder_seen r = row_seen r.row

-- an initiator of this link: its link, and the array that the order lies in
pub data OfInitiator (link : Link) : initiator.Initiator → Type 0 where
  of_initiator :
      (n : ℕ) (p : phase.Phase) (a : List ℕ) (l : ℕ) → length a ≡ longest
      → OfInitiator link (record { link = link; tries = n; phase = p; order = a; len = l })

-- a responder of this link: its link, and a held reply that may be sent
pub data OfResponder (link : Link) : Responder → Type 0 where
  of_responder :
      (s : RowState) (a : List ℕ) (l : ℕ) → l ≤ longest
      → OfResponder link (record { link = link; row = record { state = s; held = a; len = l } })
