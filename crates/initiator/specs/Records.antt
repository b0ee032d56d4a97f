-- Document 01, "Initiator": its record, how one is made, and what may be asked of it. Read `made_of` and
-- `order_of`.
use Rattle.std.specs.Prelude.{ℕ, Bool, true, false, List, Result, leb, take, replicate}
use Rattle.ground.specs.Pick.{if}
use Rattle.ground.specs.Refusals.{shown}
use Rattle.ground.specs.declared.refusal.Refusal.{Refusal}
use Rattle.ground.specs.declared.returned.Returned.{Returned}
use Rattle.codes.specs.declared.frame_count_bit.FrameCountBit.{FrameCountBit}
use Rattle.codes.specs.declared.frame_count_bit.FrameCountBit.TheVariants.{First}
use Rattle.initiator.specs.declared.state.Initiator.{Initiator}
use Rattle.initiator.specs.declared.state.Phase.{Phase}
use Rattle.initiator.specs.declared.state.Phase.TheVariants.{Closed, Ready, Opening, Order}
use Rattle.link_rules.specs.Rules.{longest, wrong_addresses, wrong_tries, no_link}
use Rattle.link_rules.specs.declared.link.Link.{Link}
use Rattle.link_telegrams.specs.Headers.{fcb_of_bit}
use Rattle.link_telegrams.specs.Turns.{Made}

-- "closed with First when new"
abbrev pub closed_of : Link → ℕ → Initiator
closed_of link tries =
    record { link = link; tries = tries; phase = Closed; order = replicate longest 0; len = 0 }

-- the answer's number, and the record
abbrev pub shown_made : Returned (Result Unit Refusal) Initiator → Made Initiator
shown_made m = record { number = shown m.answer; end = m.after }

-- "Settings 20, 18, 19": 18 before 19
unfoldable pub made_of : Link → ℕ → Made Initiator
made_of link tries =
    if (wrong_addresses link) (record { number = 18; end = closed_of no_link 1 })
    (if (wrong_tries tries) (record { number = 19; end = closed_of no_link 1 })
    (record { number = 0; end = closed_of link tries }))

-- is an order pending
abbrev pub is_pending : Phase → Bool
is_pending Closed = false
is_pending (Ready b) = false
is_pending (Opening k) = true
is_pending (Order b k) = true

-- the telegrams written in the phase
abbrev pub used_of : Phase → ℕ
used_of Closed = 0
used_of (Ready b) = 0
used_of (Opening k) = k
used_of (Order b k) = k

-- the frame count bit that the link is at
abbrev pub bit_of : Phase → FrameCountBit
bit_of Closed = First
bit_of (Ready b) = fcb_of_bit b
bit_of (Opening k) = First
bit_of (Order b k) = fcb_of_bit b

-- how many bytes the pending order has: never more than the array
abbrev pub len_of : Initiator → ℕ
len_of i = if (leb i.len longest) i.len longest

-- the pending order
abbrev pub order_of : Initiator → List ℕ
order_of i = take (len_of i) i.order
