-- Document 01, "Responder": what each call answers, the record that it leaves, and the buffer. Read `hear_of`, `answer_of`,
-- `restart_of`, and for a responder in two parts `shown_on`, `hear_on`, `answer_on`; the words `Said` and `Turn` are those of
-- `link_telegrams`.
use Rattle.std.specs.Prelude.{ℕ, List, []}
use Rattle.ground.specs.Refusals as refusals
use Rattle.ground.specs.Refusals.{OrRefused, number_of}
use Rattle.ground.specs.declared.part.Part.{Part}
use Rattle.ground.specs.declared.returned.Returned.{Returned}
use Rattle.link_telegrams.specs.Headers.{ok_header, reply_header}
use Rattle.link_telegrams.specs.Heard.{request_heard_of}
use Rattle.link_telegrams.specs.Turns.{Said, sent, tells, nothing, refused, Turn, saying, refusing, writes_of, with_room, with_lent}
use Rattle.responder.specs.Records.{blank_of}
use Rattle.responder_row.specs.Rows.{WholeTurn, held_of, row_hears, row_answers, row_of}
use Rattle.responder.specs.declared.answer.ResponderAnswer.{ResponderAnswer}
use Rattle.responder.specs.declared.answer.ResponderAnswer.TheVariants as answer
use Rattle.responder_row.specs.declared.row.Row.{Row}
use Rattle.responder_row.specs.declared.row.RowAction.{RowAction}
use Rattle.responder_row.specs.declared.row.RowAction.TheVariants as action
use Rattle.responder.specs.declared.head.ResponderHead.{ResponderHead}
use Rattle.responder.specs.declared.state.Responder.{Responder}

-- What a call answers, with document 01's number. The application is told an order: it is handed up "as part of the heard bytes".
abbrev pub shown_said : ResponderAnswer → Said Part
shown_said (answer.Sent n) = sent n
shown_said (answer.HandUp order) = tells order
shown_said answer.Nothing = nothing
shown_said (answer.Refused refusal) = refused (number_of refusal)

abbrev pub shown_turn : Returned ResponderAnswer Responder → List ℕ → Turn Responder Part
shown_turn t buf = saying (shown_said t.answer) t.after buf

-- the record goes on with this row
abbrev pub with_row : Responder → Row → Responder
with_row r row = record { link = r.link; row = row }

-- the opening's reply is sent; r is the record that the call was given, row the one that goes on
abbrev pub sends_ok : Responder → Row → List ℕ → Turn Responder Part
sends_ok r row buf = writes_of r (with_row r row) (ok_header r.link) [] buf

-- an order's reply is sent
abbrev pub sends_reply : Responder → Row → List ℕ → List ℕ → Turn Responder Part
sends_reply r row p buf = writes_of r (with_row r row) (reply_header r.link) p buf

-- the held reply is sent again
abbrev pub sends_held : Responder → Row → List ℕ → Turn Responder Part
sends_held r row buf = sends_reply r row (held_of row) buf

-- what the row asks for is done
abbrev pub acts_of : RowAction → Responder → Row → List ℕ → Turn Responder Part
acts_of action.WriteOk r row buf = sends_ok r row buf
acts_of action.WriteHeld r row buf = sends_held r row buf
acts_of (action.HandUp order) r row buf = saying (tells order) (with_row r row) buf
acts_of action.Nothing r row buf = saying nothing (with_row r row) buf

abbrev pub hear_in : WholeTurn → Responder → List ℕ → Turn Responder Part
hear_in turn r buf = acts_of turn.action r turn.row buf

-- "hears SRD low from its peer to itself", and goes by its row
unfoldable pub hear_of : Responder → List ℕ → List ℕ → Turn Responder Part
hear_of r s buf = with_room r buf (hear_in (row_hears (request_heard_of r.link s) r.row) r buf)

-- "the application then answers once, and that answer is held"; "Answering 10, 21, 9"
abbrev pub answer_in : OrRefused Row → Responder → List ℕ → List ℕ → Turn Responder Part
answer_in (refusals.gives row) r p buf = sends_reply r row p buf
answer_in (refusals.refused n) r p buf = refusing n r buf

unfoldable pub answer_of : Responder → List ℕ → List ℕ → Turn Responder Part
answer_of r p buf = with_room r buf (answer_in (row_answers r.row p) r p buf)

-- "Restart forgets all"
abbrev pub restart_of : Responder → Responder
restart_of r = blank_of r.link

-- ---- a responder in two parts: its head by value, and the held reply where its bytes are lent

abbrev pub whole_of : ResponderHead → List ℕ → Responder
whole_of head held = record { link = head.link; row = row_of head.row held }

-- what a call on the parts answers, with the lent bytes and the buffer at its end
abbrev pub shown_on : Returned ResponderAnswer ResponderHead → List ℕ → List ℕ → Turn Responder Part
shown_on t held buf = saying (shown_said t.answer) (whole_of t.after held) buf

-- what the call by value answers of the whole, where enough is lent
abbrev pub hear_on : ResponderHead → List ℕ → List ℕ → List ℕ → Turn Responder Part
hear_on head held s buf = with_lent held (whole_of head held) buf (hear_of (whole_of head held) s buf)

abbrev pub answer_on : ResponderHead → List ℕ → List ℕ → List ℕ → Turn Responder Part
answer_on head held p buf = with_lent held (whole_of head held) buf (answer_of (whole_of head held) p buf)
