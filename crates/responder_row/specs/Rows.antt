-- Document 01, "Responder": what it remembers of one initiator, and what a heard telegram, an answer and a restart do to that.
-- Read `row_hears`, `row_answers`, and for a row in two parts `row_of`, `shown_heard`, `shown_answered`.
use Rattle.std.specs.Prelude.{ℕ, Bool, true, false, List, ◌++◌, ltb, length, take, drop, replicate, Err, None, Ok, Option, Result, Some}
use Rattle.ground.specs.Pick.{if}
use Rattle.ground.specs.Refusals.{OrRefused, gives, refused, number_of}
use Rattle.ground.specs.declared.part.Part.{Part}
use Rattle.link_rules.specs.Rules.{longest, wrong_length}
use Rattle.link_telegrams.specs.declared.headers.Bit.{Bit}
use Rattle.link_telegrams.specs.declared.headers.Bit.TheVariants.{Low, High}
use Rattle.link_telegrams.specs.declared.heard.RequestHeard.{RequestHeard}
use Rattle.link_telegrams.specs.declared.heard.RequestHeard.TheVariants as heard
use Rattle.responder_row.specs.declared.head.RowHead.{RowHead}
use Rattle.responder_row.specs.declared.row.Row.{Row}
use Rattle.responder_row.specs.declared.row.RowAction.{RowAction}
use Rattle.responder_row.specs.declared.row.RowAction.TheVariants as action
use Rattle.responder_row.specs.declared.row.RowState.{RowState}
use Rattle.responder_row.specs.declared.row.RowState.TheVariants.{Blank, Opened, Owes, Holds}
use Rattle.ground.specs.declared.refusal.Refusal.{Refusal}
use Rattle.ground.specs.declared.returned.Returned.{Returned}

-- "Restart forgets all": a row that remembers nothing
abbrev pub blank_row : Row
blank_row = record { state = Blank; held = replicate longest 0; len = 0 }

-- the held reply
abbrev pub held_of : Row → List ℕ
held_of row = take row.len row.held

-- the stored bit: an opening stores "bit 1", an order its own
abbrev pub stored_bit : RowState → Option Bit
stored_bit Blank = None
stored_bit Opened = Some High
stored_bit (Owes b) = Some b
stored_bit (Holds b) = Some b

-- is a reply owed
abbrev pub owes_reply : RowState → Bool
owes_reply Blank = false
owes_reply Opened = false
owes_reply (Owes b) = true
owes_reply (Holds b) = false

-- is a reply held
abbrev pub holds_reply : RowState → Bool
holds_reply Blank = false
holds_reply Opened = false
holds_reply (Owes b) = false
holds_reply (Holds b) = true

-- "Same bit"
abbrev pub same_bit : Bit → Bit → Bool
same_bit Low Low = true
same_bit Low High = false
same_bit High Low = false
same_bit High High = true

-- the row in another state, with so many bytes of what it held
abbrev pub in_state : Row → RowState → ℕ → Row
in_state row state n = record { state = state; held = row.held; len = n }

-- "drop an owed or held reply"
abbrev pub dropping : Row → RowState → Row
dropping row state = in_state row state 0

-- the row with a reply that is held from now on, under the bit of its order
abbrev pub holding : Bit → List ℕ → Row → Row
holding b p row = record { state = Holds b; held = p ++ drop (length p) row.held; len = length p }

-- what hearing comes to: what is asked of the responder, and the row that goes on
pub record WholeTurn : Type 0 where
  pub action : RowAction
  pub row : Row

-- "nothing"
abbrev pub ignoring : Row → WholeTurn
ignoring row = record { action = action.Nothing; row = row }

-- "Same bit: the held reply again, nothing where none is held"
abbrev pub again_on : RowState → Row → WholeTurn
again_on Blank row = ignoring row
again_on Opened row = ignoring row
again_on (Owes b) row = ignoring row
again_on (Holds b) row = record { action = action.WriteHeld; row = row }

-- "Other bit: empty or above 246 bytes, nothing; else store the bit, drop the held reply and hand the order up as part of the
-- heard bytes"
abbrev pub other_on : Bit → Part → Row → WholeTurn
other_on b q row =
    if (wrong_length q.len) (ignoring row) (record { action = action.HandUp q; row = dropping row (Owes b) })

-- "FCV with no stored bit: nothing. Same bit: … Other bit: …"
abbrev pub order_on : Option Bit → Bit → Part → Row → WholeTurn
order_on None b q row = ignoring row
order_on (Some c) b q row = if (same_bit c b) (again_on row.state row) (other_on b q row)

-- "First and empty: store bit 1, drop an owed or held reply, answer. … All else: nothing"
unfoldable pub row_hears : RequestHeard → Row → WholeTurn
row_hears heard.Opening row = record { action = action.WriteOk; row = dropping row Opened }
row_hears (heard.Order b q) row = order_on (stored_bit row.state) b q row
row_hears heard.Nothing row = ignoring row

-- "the application then answers once, and that answer is held"; 21: "answer when none is owed", 9: "a link reply above 246 bytes"
abbrev pub answers_in : RowState → Row → List ℕ → OrRefused Row
answers_in Blank row p = refused 21
answers_in Opened row p = refused 21
answers_in (Owes b) row p = if (ltb longest (length p)) (refused 9) (gives (holding b p row))
answers_in (Holds b) row p = refused 21

unfoldable pub row_answers : Row → List ℕ → OrRefused Row
row_answers row p = answers_in row.state row p

-- the row that comes back: in a refused call "records … stay"
abbrev pub row_after : OrRefused Row → Row → Row
row_after (gives next) row = next
row_after (refused n) row = row

-- what an answer to a row gives, with document 01's number
abbrev pub shown_in : Result Unit Refusal → Row → OrRefused Row
shown_in (Ok tt) row = gives row
shown_in (Err refusal) row = refused (number_of refusal)

-- ---- a row in two parts: its head by value, and the held bytes where they are lent

abbrev pub row_of : RowHead → List ℕ → Row
row_of head held = record { state = head.state; held = held; len = head.len }

-- hearing leaves the held bytes
abbrev pub shown_heard : Returned RowAction RowHead → List ℕ → WholeTurn
shown_heard t held = record { action = t.answer; row = row_of t.after held }

-- the held bytes after an answer: where it was taken, it stands at their front
abbrev pub held_after : Result Unit Refusal → List ℕ → List ℕ → List ℕ
held_after (Ok tt) held p = p ++ drop (length p) held
held_after (Err refusal) held p = held

-- the row that comes back of an answer, and what that gives, as above
abbrev pub row_answered : Returned (Result Unit Refusal) RowHead → List ℕ → List ℕ → Row
row_answered a held p = row_of a.after (held_after a.answer held p)

abbrev pub shown_answered : Returned (Result Unit Refusal) RowHead → List ℕ → List ℕ → OrRefused Row
shown_answered a held p = shown_in a.answer (row_answered a held p)
