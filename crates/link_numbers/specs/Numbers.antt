-- The numbers of phases and states in the bytes of the two records. Read `phase_number`, `phase_of`, `state_number`, `state_of`.
use Rattle.std.specs.Prelude.{ℕ, eqb}
use Rattle.ground.specs.Pick.{if}
use Rattle.initiator.specs.declared.state.Phase.{Phase}
use Rattle.initiator.specs.declared.state.Phase.TheVariants.{Closed, Ready, Opening, Order}
use Rattle.link_telegrams.specs.declared.headers.Bit.{Bit}
use Rattle.link_telegrams.specs.declared.headers.Bit.TheVariants.{Low, High}
use Rattle.responder_row.specs.declared.row.RowState.{RowState}
use Rattle.responder_row.specs.declared.row.RowState.TheVariants.{Blank, Opened, Owes, Holds}

-- a number for each bit
abbrev pub by_bit : Bit → ℕ → ℕ → ℕ
by_bit Low low high = low
by_bit High low high = high

-- the initiator
abbrev pub phase_number : Phase → ℕ
phase_number Closed = 0
phase_number (Ready b) = by_bit b 1 2
phase_number (Opening k) = 3
phase_number (Order b k) = by_bit b 4 5

-- the phase of a number, with k telegrams written in it; a number that is none of the above counts as closed
unfoldable pub phase_of : ℕ → ℕ → Phase
phase_of n k =
    if (eqb n 1) (Ready Low)
    (if (eqb n 2) (Ready High)
    (if (eqb n 3) (Opening k) (if (eqb n 4) (Order Low k) (if (eqb n 5) (Order High k) Closed))))

-- the responder
abbrev pub state_number : RowState → ℕ
state_number Blank = 0
state_number Opened = 1
state_number (Owes b) = by_bit b 2 3
state_number (Holds b) = by_bit b 4 5

-- the state of a number; a number that is none of the above counts as blank
unfoldable pub state_of : ℕ → RowState
state_of n =
    if (eqb n 1) Opened
    (if (eqb n 2) (Owes Low) (if (eqb n 3) (Owes High) (if (eqb n 4) (Holds Low) (if (eqb n 5) (Holds High) Blank))))
