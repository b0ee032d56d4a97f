-- What the exported calls rest on in the calls by value: a refused call answers a refusal's number and gives back its record, and what is
-- told lies within the heard bytes. Read `Fair`, and the laws `-fair` of each call.
use Rattle.std.proofs.Common.{None, Option, Some}
use Prim.Native.Nat.{ℕ, ◌+◌}
use mathlib.Core.Bool.{true, ◌||◌}
use mathlib.Core.List.{List, []}
use mathlib.Core.Path.{◌≡◌, refl}
use native.Mathlib.Omega.{arith}
use lib.Dec.{eqb, leb, ltb}
use lib.ListN.{length}
use borrow.Author.Tests.{eqb-true}
use Rattle.codes.specs.Responses.{state_number, status_number}
use Rattle.codes.specs.declared.function_code.FunctionCode.TheVariants.{Request, Response}
use Rattle.codes.specs.declared.response.ResponseState.TheVariants.{Slave}
use Rattle.codes.specs.declared.response.ResponseStatus.{ResponseStatus}
use Rattle.codes.specs.declared.response.ResponseStatus.TheVariants as status
use Rattle.exports_link.specs.Calls.{is_refusal}
use Rattle.ground.proofs.PickLaws.{picked}
use Rattle.ground.specs.Refusals as refusals
use Rattle.ground.specs.Refusals.{OrRefused}
use Rattle.ground.specs.declared.address.Address.{Address}
use Rattle.ground.specs.declared.part.Part.{Part}
use Rattle.initiator.specs.Calls as initiator
use Rattle.initiator.specs.Calls.{Outcome, confirmed, not_sent, unknown}
use Rattle.initiator.specs.Records.{order_of}
use Rattle.initiator.specs.declared.state.Initiator.{Initiator}
use Rattle.initiator.specs.declared.state.Phase.{Phase}
use Rattle.initiator.specs.declared.state.Phase.TheVariants.{Closed, Ready, Opening, Order}
use Rattle.link_rules.specs.Rules.{longest, room, wrong_length}
use Rattle.link_rules.specs.declared.link.Link.{Link}
use Rattle.link_telegrams.proofs.HeardLaws.{Within, RequestWithin, request_within}
use Rattle.link_telegrams.specs.Headers.{opening_header, order_header, ok_header, reply_header}
use Rattle.link_telegrams.specs.Heard.{DataHeard, data_from, no_data, is_to, read_in, data_to_of, slave_of, reply_from, request_heard_of, reply_heard_of}
use Rattle.link_telegrams.specs.Turns.{Said, sent, tells, nothing, refused, Turn, wrote, writes_of, with_room}
use Rattle.link_telegrams.specs.declared.headers.Bit.{Bit}
use Rattle.link_telegrams.specs.declared.headers.Bit.TheVariants.{Low}
use Rattle.link_telegrams.specs.declared.heard.ReplyHeard.{ReplyHeard}
use Rattle.link_telegrams.specs.declared.heard.ReplyHeard.TheVariants as reply_heard
use Rattle.link_telegrams.specs.declared.heard.RequestHeard.{RequestHeard}
use Rattle.link_telegrams.specs.declared.heard.RequestHeard.TheVariants as request_heard
use Rattle.responder.specs.Calls as responder
use Rattle.responder.specs.declared.state.Responder.{Responder}
use Rattle.responder_row.specs.Rows.{WholeTurn, same_bit, again_on, order_on, stored_bit, row_hears, answers_in, row_answers, held_of}
use Rattle.responder_row.specs.declared.row.Row.{Row}
use Rattle.responder_row.specs.declared.row.RowAction.{RowAction}
use Rattle.responder_row.specs.declared.row.RowAction.TheVariants as action
use Rattle.responder_row.specs.declared.row.RowState.{RowState}
use Rattle.responder_row.specs.declared.row.RowState.TheVariants.{Blank, Opened, Owes, Holds}
use Rattle.telegram.proofs.ReadingLaws.{pdu_within}
use Rattle.telegram.specs.Picture.{length_byte, telegram_bytes}
use Rattle.telegram.specs.Reading as reading
use Rattle.telegram.specs.Reading.{Reading, whole, incomplete, read_of}
use Rattle.telegram.specs.declared.header.DataTelegramHeader.{DataTelegramHeader}
use Rattle.telegram.specs.declared.kinds.Telegram.TheVariants.{Data, Token, ShortConfirmation}
use Rattle.telegram_tx.specs.Writing.{send_of, write_of, buffer_of}
use Rattle.telegram_tx.specs.declared.tx.TelegramTxResponse.{TelegramTxResponse}

-- ---- a reply that is heard lies within the heard bytes

abbrev DataWithin : List ℕ → DataHeard → Type 0
DataWithin s (data_from sa fc pdu) = Within s pdu
DataWithin s no_data = Unit {0}

abbrev ReplyWithin : List ℕ → ReplyHeard → Type 0
ReplyWithin s reply_heard.Ok = Unit {0}
ReplyWithin s (reply_heard.Reply p) = Within s p
ReplyWithin s reply_heard.Nothing = Unit {0}

module _ (s : List ℕ) where
  read_within : (own : Address) (r : Reading) → read_of s ≡ r → DataWithin s (read_in (length s) own r)
  read_within own (whole (Data d) n) e =
      picked (DataWithin s) (eqb n (length s))
      (λ fills. picked (DataWithin s) (is_to d.h own)
      (λ ours. omega (arith, eqb-true n (length s) fills, pdu_within s e))
      (λ other. tt))
      (λ short. tt)
  read_within own (whole (Token t) n) e = tt
  read_within own (whole ShortConfirmation n) e = tt
  read_within own incomplete e = tt
  read_within own (reading.refused k) e = tt

  slave_within : (x : ResponseStatus) (p : Part) → Within s p → ReplyWithin s (slave_of x p)
  slave_within x p h =
      picked (ReplyWithin s) (eqb (status_number x) (status_number status.Ok))
      (λ e. picked (ReplyWithin s) (eqb p.len 0) (λ f. tt) (λ f. tt))
      (λ e. picked (ReplyWithin s) (eqb (status_number x) (status_number status.DataLow))
      (λ f. picked (ReplyWithin s) (leb p.len longest) (λ g. h) (λ g. tt))
      (λ f. tt))

  from_within : (peer : Address) (d : DataHeard) → DataWithin s d → ReplyWithin s (reply_from peer d)
  from_within peer (data_from sa (Request f req) pdu) h = tt
  from_within peer (data_from sa (Response state x) pdu) h =
      picked (ReplyWithin s) (eqb sa.0 peer.0)
      (λ e. picked (ReplyWithin s) (eqb (state_number state) (state_number Slave)) (λ f. slave_within x pdu h) (λ f. tt))
      (λ e. tt)
  from_within peer no_data h = tt

  reply_within : (link : Link) → ReplyWithin s (reply_heard_of link s)
  unfolding reply_heard_of data_to_of
  reply_within link = from_within link.peer (read_in (length s) link.own (read_of s)) (read_within link.own (read_of s) refl)

-- ---- what a call says

-- what is told is as Q has it; a refusal has a refusal's number, and the record comes back as it was given
abbrev pub FairlySaid : {End Tale : Type 0} → (Tale → Type 0) → End → Said Tale → End → Type 0
FairlySaid Q given (sent n) end = Unit {0}
FairlySaid Q given (tells tale) end = Q tale
FairlySaid Q given nothing end = Unit {0}
FairlySaid Q given (refused n) end = (is_refusal n ≡ true) × (end ≡ given)

pub record Fair {End Tale : Type 0} (Q : Tale → Type 0) (given : End) (turn : Turn End Tale) : Type 0 where
  pub said : FairlySaid Q given turn.said turn.end

-- what a writer refuses, it refuses with a refusal's number
abbrev Numbered : {A : Type 0} → OrRefused A → Type 0
Numbered (refusals.gives a) = Unit {0}
Numbered (refusals.refused n) = is_refusal n ≡ true

writer_numbered : (h : DataTelegramHeader) (pdu : List ℕ) (n : ℕ) → Numbered (write_of h pdu n)
unfolding write_of send_of
writer_numbered h pdu n =
    picked Numbered (ltb 127 h.da.0 || ltb 127 h.sa.0) (λ e. refl)
    (λ e. picked Numbered (ltb 249 (length_byte h pdu)) (λ f. refl)
    (λ f. picked Numbered (ltb n (length (telegram_bytes h pdu))) (λ g. refl) (λ g. tt)))

module _ {End Tale : Type 0} (Q : Tale → Type 0) (given : End) where
  wrote_fair :
      (o : OrRefused TelegramTxResponse) (next : End) (buf : List ℕ) → Numbered o → Fair Q given (wrote o given next buf)
  wrote_fair (refusals.gives response) next buf e = record { said = tt }
  wrote_fair (refusals.refused n) next buf e = record { said = (e, refl) }

  writes_fair : (next : End) (h : DataTelegramHeader) (pdu buf : List ℕ) → Fair Q given (writes_of given next h pdu buf)
  writes_fair next h pdu buf = wrote_fair (write_of h pdu (length buf)) next (buffer_of h pdu buf) (writer_numbered h pdu (length buf))

  room_fair : (buf : List ℕ) (turn : Turn End Tale) → Fair Q given turn → Fair Q given (with_room given buf turn)
  room_fair buf turn f = picked (Fair Q given) (ltb (length buf) room) (λ e. record { said = (refl, refl) }) (λ e. f)

-- ---- the initiator

-- the reply that is shown lies within the heard bytes
abbrev pub OutcomeWithin : List ℕ → Outcome → Type 0
OutcomeWithin s (confirmed reply k) = Within s reply
OutcomeWithin s (not_sent k) = Unit {0}
OutcomeWithin s (unknown k) = Unit {0}

module _ (s : List ℕ) (i : Initiator) where
  abbrev InitiatorFair : Turn Initiator Outcome → Type 0
  InitiatorFair t = Fair (OutcomeWithin s) i t

  opening_fair : (j : Initiator) (k : ℕ) (buf : List ℕ) → InitiatorFair (initiator.sends_opening i j k buf)
  opening_fair j k buf = writes_fair (OutcomeWithin s) i (initiator.in_phase j (Opening k)) (opening_header j.link) [] buf

  order_fair : (j : Initiator) (b : Bit) (k : ℕ) (buf : List ℕ) → InitiatorFair (initiator.sends_order i j b k buf)
  order_fair j b k buf = writes_fair (OutcomeWithin s) i (initiator.in_phase j (Order b k)) (order_header j.link b) (order_of j) buf

  submit_in_lem : (p : Phase) (q buf : List ℕ) → InitiatorFair (initiator.submit_in p i q buf)
  submit_in_lem Closed q buf =
      picked InitiatorFair (initiator.wrong_order q) (λ e. record { said = (refl, refl) }) (λ e. opening_fair (initiator.keeping i q) 1 buf)
  submit_in_lem (Ready b) q buf =
      picked InitiatorFair (initiator.wrong_order q) (λ e. record { said = (refl, refl) }) (λ e. order_fair (initiator.keeping i q) b 1 buf)
  submit_in_lem (Opening k) q buf = record { said = (refl, refl) }
  submit_in_lem (Order b k) q buf = record { said = (refl, refl) }

  silence_in_lem : (p : Phase) (buf : List ℕ) → InitiatorFair (initiator.silence_in p i buf)
  silence_in_lem Closed buf = record { said = tt }
  silence_in_lem (Ready b) buf = record { said = tt }
  silence_in_lem (Opening k) buf = picked InitiatorFair (ltb k i.tries) (λ e. opening_fair i (k + 1) buf) (λ e. record { said = tt })
  silence_in_lem (Order b k) buf = picked InitiatorFair (ltb k i.tries) (λ e. order_fair i b (k + 1) buf) (λ e. record { said = tt })

  ok_in : (h : ReplyHeard) (buf : List ℕ) → InitiatorFair (initiator.awaiting_ok h i buf)
  ok_in reply_heard.Ok buf = order_fair i Low 1 buf
  ok_in (reply_heard.Reply p) buf = record { said = tt }
  ok_in reply_heard.Nothing buf = record { said = tt }

  reply_in_lem : (b : Bit) (k : ℕ) (h : ReplyHeard) (buf : List ℕ) → ReplyWithin s h → InitiatorFair (initiator.awaiting_reply b k h i buf)
  reply_in_lem b k reply_heard.Ok buf w = record { said = tt }
  reply_in_lem b k (reply_heard.Reply p) buf w = record { said = w }
  reply_in_lem b k reply_heard.Nothing buf w = record { said = tt }

  hear_in_lem : (p : Phase) (h : ReplyHeard) (buf : List ℕ) → ReplyWithin s h → InitiatorFair (initiator.hear_in p h i buf)
  hear_in_lem Closed h buf w = record { said = tt }
  hear_in_lem (Ready b) h buf w = record { said = tt }
  hear_in_lem (Opening k) h buf w = ok_in h buf
  hear_in_lem (Order b k) h buf w = reply_in_lem b k h buf w

  restart_in_lem : (p : Phase) → InitiatorFair (initiator.restart_in p i)
  restart_in_lem Closed = record { said = tt }
  restart_in_lem (Ready b) = record { said = tt }
  restart_in_lem (Opening k) = record { said = tt }
  restart_in_lem (Order b k) = record { said = tt }

  pub submit_fair : (q buf : List ℕ) → InitiatorFair (initiator.submit_of i q buf)
  unfolding initiator.submit_of
  submit_fair q buf = room_fair (OutcomeWithin s) i buf _ (submit_in_lem i.phase q buf)

  pub silence_fair : (buf : List ℕ) → InitiatorFair (initiator.silence_of i buf)
  unfolding initiator.silence_of
  silence_fair buf = room_fair (OutcomeWithin s) i buf _ (silence_in_lem i.phase buf)

  pub initiator_hear_fair : (buf : List ℕ) → InitiatorFair (initiator.hear_of i s buf)
  unfolding initiator.hear_of
  initiator_hear_fair buf = room_fair (OutcomeWithin s) i buf _ (hear_in_lem i.phase (reply_heard_of i.link s) buf (reply_within s i.link))

  pub restart_fair : InitiatorFair (initiator.restart_of i)
  unfolding initiator.restart_of
  restart_fair = restart_in_lem i.phase

-- ---- the responder

-- an order that is to be handed up lies within the heard bytes
abbrev HandsWithin : List ℕ → RowAction → Type 0
HandsWithin s action.WriteOk = Unit {0}
HandsWithin s action.WriteHeld = Unit {0}
HandsWithin s (action.HandUp q) = Within s q
HandsWithin s action.Nothing = Unit {0}

module _ (s : List ℕ) (row : Row) where
  abbrev TurnWithin : WholeTurn → Type 0
  TurnWithin t = HandsWithin s t.action

  again_within : (st : RowState) → TurnWithin (again_on st row)
  again_within Blank = tt
  again_within Opened = tt
  again_within (Owes b) = tt
  again_within (Holds b) = tt

  order_within : (st : Option Bit) (b : Bit) (q : Part) → Within s q → TurnWithin (order_on st b q row)
  order_within None b q w = tt
  order_within (Some c) b q w =
      picked TurnWithin (same_bit c b) (λ e. again_within row.state)
      (λ e. picked TurnWithin (wrong_length q.len) (λ f. tt) (λ f. w))

  row_within : (h : RequestHeard) → RequestWithin s h → TurnWithin (row_hears h row)
  unfolding row_hears
  row_within request_heard.Opening w = tt
  row_within (request_heard.Order b q) w = order_within (stored_bit row.state) b q w
  row_within request_heard.Nothing w = tt

module _ (s : List ℕ) (r : Responder) where
  abbrev ResponderFair : Turn Responder Part → Type 0
  ResponderFair t = Fair (Within s) r t

  reply_fair : (row : Row) (p buf : List ℕ) → ResponderFair (responder.sends_reply r row p buf)
  reply_fair row p buf = writes_fair (Within s) r (responder.with_row r row) (reply_header r.link) p buf

  acts_fair : (a : RowAction) (row : Row) (buf : List ℕ) → HandsWithin s a → ResponderFair (responder.acts_of a r row buf)
  acts_fair action.WriteOk row buf w = writes_fair (Within s) r (responder.with_row r row) (ok_header r.link) [] buf
  acts_fair action.WriteHeld row buf w = reply_fair row (held_of row) buf
  acts_fair (action.HandUp q) row buf w = record { said = w }
  acts_fair action.Nothing row buf w = record { said = tt }

  answer_in_lem : (o : OrRefused Row) (p buf : List ℕ) → Numbered o → ResponderFair (responder.answer_in o r p buf)
  answer_in_lem (refusals.gives row) p buf e = reply_fair row p buf
  answer_in_lem (refusals.refused n) p buf e = record { said = (e, refl) }

  answers_numbered : (st : RowState) (row : Row) (p : List ℕ) → Numbered (answers_in st row p)
  answers_numbered Blank row p = refl
  answers_numbered Opened row p = refl
  answers_numbered (Owes b) row p = picked Numbered (ltb longest (length p)) (λ e. refl) (λ e. tt)
  answers_numbered (Holds b) row p = refl

  pub responder_hear_fair : (buf : List ℕ) → ResponderFair (responder.hear_of r s buf)
  unfolding responder.hear_of
  responder_hear_fair buf =
      let turn = row_hears (request_heard_of r.link s) r.row in
      room_fair (Within s) r buf _
      (acts_fair turn.action turn.row buf (row_within s r.row (request_heard_of r.link s) (request_within s r.link)))

  pub answer_fair : (p buf : List ℕ) → ResponderFair (responder.answer_of r p buf)
  unfolding responder.answer_of row_answers
  answer_fair p buf = room_fair (Within s) r buf _ (answer_in_lem (answers_in r.row.state r.row p) p buf (answers_numbered r.row.state r.row p))
