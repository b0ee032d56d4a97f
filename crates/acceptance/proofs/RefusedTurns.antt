-- The order link: a refused call of either end leaves the record that it was given and the buffer, by value, on a head and lent bytes, across
-- the boundary and with a guard. Read `Unmoved`, `Uncrossed`, `Unguarded`; below each, that the calls are so.
use Prim.Native.Nat.{ℕ, ◌+◌, ◌≤◌}
use mathlib.Core.Bool.{Bool, true, false}
use mathlib.Core.List.{List, [], ◌∷◌}
use mathlib.Core.Path.{◌≡◌, refl, ap, ◌∙◌}
use native.Mathlib.Omega.{arith}
use borrow.Author.Tests.{lt-ltb, ne_eqb}
use lib.Dec.{ltb, lit≤}
use lib.ListN.{length}
use Rattle.acceptance.proofs.RefusedLaws.{one_number, two_numbers}
use Rattle.acceptance.specs.Refused.{IsNumber}
use Rattle.exports_guarded.specs.Calls.{GuardedCall, made_with, ignored}
use Rattle.guards.specs.Guards.{last_of, handed_of, stamp_after, number_after}
use Rattle.exports_guarded.specs.InitiatorCalls.{stamped}
use Rattle.exports_guarded.specs.ResponderCalls.{numbered}
use Rattle.exports_link.specs.Calls.{Call, Crossing, is_refusal, unless_refused, code_of, crossed, new_call}
use Rattle.exports_link.specs.InitiatorBytes.{initiator_of}
use Rattle.exports_link.specs.InitiatorCalls.{initiator_crosses, koy_initiator_submit, koy_initiator_silence, koy_initiator_hear, koy_initiator_restart}
use Rattle.exports_link.specs.ResponderBytes.{responder_of}
use Rattle.exports_link.specs.ResponderCalls.{responder_crosses, koy_responder_hear, koy_responder_answer}
use Rattle.ground.proofs.Injective.{zero_one}
use Rattle.ground.specs.Pick.{if}
use Rattle.ground.specs.Refusals as refusals
use Rattle.ground.specs.Refusals.{OrRefused}
use Rattle.ground.specs.declared.part.Part.{Part}
use Rattle.initiator.specs.Calls as initiator
use Rattle.initiator.specs.Calls.{Outcome, confirmed, not_sent, unknown, keeping, in_phase}
use Rattle.initiator.specs.Heads.{whole_of, submit_on, silence_on, hear_on}
use Rattle.initiator.specs.Records.{order_of}
use Rattle.initiator.specs.declared.head.InitiatorHead.{InitiatorHead}
use Rattle.initiator.specs.declared.state.Initiator.{Initiator}
use Rattle.initiator.specs.declared.state.Phase.TheVariants.{Closed, Ready, Opening, Order}
use Rattle.initiator.specs.declared.state.Phase.{Phase}
use Rattle.link_rules.specs.Rules.{longest, room}
use Rattle.link_telegrams.specs.Headers.{opening_header, order_header, ok_header, reply_header}
use Rattle.link_telegrams.specs.Heard.{reply_heard_of, request_heard_of}
use Rattle.link_telegrams.specs.Turns.{Said, sent, tells, nothing, refused, Turn, Made, saying, wrote, writes_of, with_room, with_lent}
use Rattle.link_telegrams.specs.declared.headers.Bit.TheVariants.{Low}
use Rattle.link_telegrams.specs.declared.headers.Bit.{Bit}
use Rattle.link_telegrams.specs.declared.heard.ReplyHeard.TheVariants as heard
use Rattle.link_telegrams.specs.declared.heard.ReplyHeard.{ReplyHeard}
use Rattle.responder.specs.Calls as responder
use Rattle.responder.specs.declared.head.ResponderHead.{ResponderHead}
use Rattle.responder.specs.declared.state.Responder.{Responder}
use Rattle.responder_row.specs.Rows.{held_of, row_hears, row_answers}
use Rattle.responder_row.specs.declared.row.Row.{Row}
use Rattle.responder_row.specs.declared.row.RowAction.TheVariants as action
use Rattle.responder_row.specs.declared.row.RowAction.{RowAction}
use Rattle.telegram.specs.Picture.{telegram_bytes}
use Rattle.telegram.specs.declared.header.DataTelegramHeader.{DataTelegramHeader}
use Rattle.telegram_tx.specs.Writing.{left_of, write_of}
use Rattle.telegram_tx.specs.declared.tx.TelegramTxResponse.{TelegramTxResponse}

-- ---- a call by value

pub record Unmoved {End Tale : Type 0} (given : End) (buf : List ℕ) (turn : Turn End Tale) : Type 0 where
  pub same : (n : ℕ) → turn.said ≡ refused n → (turn.end ≡ given) × (turn.buffer ≡ buf)

module _ {End Tale : Type 0} (given : End) (buf : List ℕ) where
  -- what is said is no refusal
  told_unmoved : (tale : Tale) (end : End) (after : List ℕ) → Unmoved given buf (saying (tells tale) end after)
  told_unmoved tale end after = record { same = λ n e. absurd (zero_one (cc)) }

  silent_unmoved : (end : End) (after : List ℕ) → Unmoved {Tale = Tale} given buf (saying nothing end after)
  silent_unmoved end after = record { same = λ n e. absurd (zero_one (cc)) }

  -- nothing was touched
  same_unmoved : (said : Said Tale) → Unmoved given buf (saying said given buf)
  same_unmoved said = record { same = λ n e. (refl, refl) }

  picked_unmoved : (t : Bool) (x y : Turn End Tale) → Unmoved given buf x → Unmoved given buf y → Unmoved given buf (if t x y)
  picked_unmoved true x y h k = h
  picked_unmoved false x y h k = k

  wrote_unmoved : (o : OrRefused TelegramTxResponse) (next : End) (t : List ℕ) → Unmoved {Tale = Tale} given buf (wrote o given next (left_of o t buf))
  wrote_unmoved (refusals.gives response) next t = record { same = λ n e. absurd (zero_one (cc)) }
  wrote_unmoved (refusals.refused m) next t = record { same = λ n e. (refl, refl) }

  writes_unmoved : (next : End) (h : DataTelegramHeader) (pdu : List ℕ) → Unmoved {Tale = Tale} given buf (writes_of given next h pdu buf)
  writes_unmoved next h pdu = wrote_unmoved (write_of h pdu (length buf)) next (telegram_bytes h pdu)

  room_unmoved : (turn : Turn End Tale) → Unmoved given buf turn → Unmoved given buf (with_room given buf turn)
  room_unmoved turn h = picked_unmoved (ltb (length buf) room) _ turn (same_unmoved _) h

  lent_unmoved : (lent : List ℕ) (turn : Turn End Tale) → Unmoved given buf turn → Unmoved given buf (with_lent lent given buf turn)
  lent_unmoved lent turn h = picked_unmoved (ltb (length lent) longest) _ turn (same_unmoved _) h

-- the initiator
module _ (i : Initiator) (buf : List ℕ) where
  submit_in_lem : (p : Phase) (q : List ℕ) → Unmoved i buf (initiator.submit_in p i q buf)
  submit_in_lem Closed q =
      picked_unmoved i buf (initiator.wrong_order q) _ _ (same_unmoved i buf _)
      (writes_unmoved i buf (in_phase (keeping i q) (Opening 1)) (opening_header i.link) [])
  submit_in_lem (Ready b) q =
      picked_unmoved i buf (initiator.wrong_order q) _ _ (same_unmoved i buf _)
      (writes_unmoved i buf (in_phase (keeping i q) (Order b 1)) (order_header i.link b) (order_of (keeping i q)))
  submit_in_lem (Opening k) q = same_unmoved i buf _
  submit_in_lem (Order b k) q = same_unmoved i buf _

  pub submit_unmoved : (q : List ℕ) → Unmoved i buf (initiator.submit_of i q buf)
  unfolding initiator.submit_of
  submit_unmoved q = room_unmoved i buf (initiator.submit_in i.phase i q buf) (submit_in_lem i.phase q)

  silence_in_lem : (p : Phase) → Unmoved i buf (initiator.silence_in p i buf)
  silence_in_lem Closed = silent_unmoved i buf i buf
  silence_in_lem (Ready b) = silent_unmoved i buf i buf
  silence_in_lem (Opening k) =
      picked_unmoved i buf (ltb k i.tries) _ _ (writes_unmoved i buf (in_phase i (Opening (k + 1))) (opening_header i.link) [])
      (told_unmoved i buf _ _ buf)
  silence_in_lem (Order b k) =
      picked_unmoved i buf (ltb k i.tries) _ _ (writes_unmoved i buf (in_phase i (Order b (k + 1))) (order_header i.link b) (order_of i))
      (told_unmoved i buf _ _ buf)

  pub silence_unmoved : Unmoved i buf (initiator.silence_of i buf)
  unfolding initiator.silence_of
  silence_unmoved = room_unmoved i buf (initiator.silence_in i.phase i buf) (silence_in_lem i.phase)

  awaiting_ok_lem : (h : ReplyHeard) → Unmoved i buf (initiator.awaiting_ok h i buf)
  awaiting_ok_lem heard.Ok = writes_unmoved i buf (in_phase i (Order Low 1)) (order_header i.link Low) (order_of i)
  awaiting_ok_lem (heard.Reply reply) = silent_unmoved i buf i buf
  awaiting_ok_lem heard.Nothing = silent_unmoved i buf i buf

  awaiting_reply_lem : (b : Bit) (k : ℕ) (h : ReplyHeard) → Unmoved i buf (initiator.awaiting_reply b k h i buf)
  awaiting_reply_lem b k heard.Ok = silent_unmoved i buf i buf
  awaiting_reply_lem b k (heard.Reply reply) = told_unmoved i buf _ _ buf
  awaiting_reply_lem b k heard.Nothing = silent_unmoved i buf i buf

  hear_in_lem : (p : Phase) (h : ReplyHeard) → Unmoved i buf (initiator.hear_in p h i buf)
  hear_in_lem Closed h = silent_unmoved i buf i buf
  hear_in_lem (Ready b) h = silent_unmoved i buf i buf
  hear_in_lem (Opening k) h = awaiting_ok_lem h
  hear_in_lem (Order b k) h = awaiting_reply_lem b k h

  pub hear_unmoved : (s : List ℕ) → Unmoved i buf (initiator.hear_of i s buf)
  unfolding initiator.hear_of
  hear_unmoved s =
      room_unmoved i buf (initiator.hear_in i.phase (reply_heard_of i.link s) i buf) (hear_in_lem i.phase (reply_heard_of i.link s))

-- restarting refuses nothing
restart_in_lem : (i : Initiator) (p : Phase) → Unmoved i [] (initiator.restart_in p i)
restart_in_lem i Closed = silent_unmoved i [] _ []
restart_in_lem i (Ready b) = silent_unmoved i [] _ []
restart_in_lem i (Opening k) = told_unmoved i [] _ _ []
restart_in_lem i (Order b k) = told_unmoved i [] _ _ []

pub restart_unmoved : (i : Initiator) → Unmoved i [] (initiator.restart_of i)
unfolding initiator.restart_of
restart_unmoved i = restart_in_lem i i.phase

-- the responder
module _ (r : Responder) (buf : List ℕ) where
  acts : (act : RowAction) (row : Row) → Unmoved r buf (responder.acts_of act r row buf)
  acts action.WriteOk row = writes_unmoved r buf (responder.with_row r row) (ok_header r.link) []
  acts action.WriteHeld row = writes_unmoved r buf (responder.with_row r row) (reply_header r.link) (held_of row)
  acts (action.HandUp order) row = told_unmoved r buf order _ buf
  acts action.Nothing row = silent_unmoved r buf _ buf

  pub responder_hear_unmoved : (s : List ℕ) → Unmoved r buf (responder.hear_of r s buf)
  unfolding responder.hear_of
  responder_hear_unmoved s =
      room_unmoved r buf _
      (acts (row_hears (request_heard_of r.link s) r.row).action (row_hears (request_heard_of r.link s) r.row).row)

  answer_in_lem : (o : OrRefused Row) (p : List ℕ) → Unmoved r buf (responder.answer_in o r p buf)
  answer_in_lem (refusals.gives row) p = writes_unmoved r buf (responder.with_row r row) (reply_header r.link) p
  answer_in_lem (refusals.refused n) p = same_unmoved r buf _

  pub answer_unmoved : (p : List ℕ) → Unmoved r buf (responder.answer_of r p buf)
  unfolding responder.answer_of
  answer_unmoved p = room_unmoved r buf (responder.answer_in (row_answers r.row p) r p buf) (answer_in_lem (row_answers r.row p) p)

-- ---- on a head by value and lent bytes

module _ (head : InitiatorHead) (kept buf : List ℕ) where
  pub submit_on_lem : (q : List ℕ) → Unmoved (whole_of head kept) buf (submit_on head kept q buf)
  submit_on_lem q = lent_unmoved (whole_of head kept) buf kept _ (submit_unmoved (whole_of head kept) buf q)

  pub silence_on_lem : Unmoved (whole_of head kept) buf (silence_on head kept buf)
  silence_on_lem = lent_unmoved (whole_of head kept) buf kept _ (silence_unmoved (whole_of head kept) buf)

  pub hear_on_lem : (s : List ℕ) → Unmoved (whole_of head kept) buf (hear_on head kept s buf)
  hear_on_lem s = lent_unmoved (whole_of head kept) buf kept _ (hear_unmoved (whole_of head kept) buf s)

module _ (head : ResponderHead) (held buf : List ℕ) where
  pub responder_hear_on : (s : List ℕ) → Unmoved (responder.whole_of head held) buf (responder.hear_on head held s buf)
  responder_hear_on s = lent_unmoved (responder.whole_of head held) buf held _ (responder_hear_unmoved (responder.whole_of head held) buf s)

  pub answer_on_lem : (p : List ℕ) → Unmoved (responder.whole_of head held) buf (responder.answer_on head held p buf)
  answer_on_lem p = lent_unmoved (responder.whole_of head held) buf held _ (answer_unmoved (responder.whole_of head held) buf p)

-- ---- across the boundary

-- what a refused call leaves of the bytes of its record, of the numbers told and of the buffer
pub record Uncrossed (state told buf : List ℕ) (c : Call) : Type 0 where
  pub same : IsNumber c.code → (c.state ≡ state) × ((c.told ≡ told) × (c.buffer ≡ buf))

pub number_refuses : (n : ℕ) → IsNumber n → is_refusal n ≡ true
number_refuses n h = rw (lt-ltb 0 n (omega (arith, h.0)), lt-ltb n 100 h.1)

pub lent_stays : (n : ℕ) (before after : List ℕ) → IsNumber n → unless_refused n before after ≡ before
lent_stays n before after h = rw (number_refuses n h)

module _ {End Tale : Type 0} (across : Crossing End Tale) (high : (tale : Tale) → 100 ≤ across.code tale) where
  -- a code that is a refusal's number is that of a refusal
  code_said :
      (said : Said Tale) {P : Type 0} → IsNumber (code_of across.code said) → ((n : ℕ) → said ≡ refused n → P)
      → P
  code_said (sent n) h f = absurd (omega (arith, h.1))
  code_said (tells tale) h f = absurd (omega (arith, h.1, high tale))
  code_said nothing h f = absurd (omega (arith, h.0))
  code_said (refused n) h f = f n refl

  pub crossed_stays :
      (given : End) (state told buf : List ℕ) (turn : Turn End Tale) → Unmoved given buf turn
      → Uncrossed state told buf (crossed across state told turn)
  unfolding crossed
  crossed_stays given state told buf turn h =
      record {
        same = λ z.
            (lent_stays _ _ _ z, (lent_stays _ _ _ z, code_said turn.said {P = turn.buffer ≡ buf} z (λ n e. (h.same n e).1)));
      }

-- ---- with a guard

-- the same, and what it leaves of the guard
pub record Unguarded (state guard told buf : List ℕ) (c : GuardedCall) : Type 0 where
  pub same : IsNumber c.code → (c.state ≡ state) × ((c.guard ≡ guard) × ((c.told ≡ told) × (c.buffer ≡ buf)))

stamp_stays : (code last moment : ℕ) → IsNumber code → stamp_after code last moment ≡ last
stamp_stays code last moment h = rw (ne_eqb code 102 (λ e. omega (arith, e, h.1)))

count_stays : (code handed : ℕ) → IsNumber code → number_after code handed ≡ handed
count_stays code handed h = rw (ne_eqb code 106 (λ e. omega (arith, e, h.1)))

pub stamped_stays :
    (state last told buf : List ℕ) (moment : ℕ) (c : Call) → length last ≡ 1 → Uncrossed state told buf c
    → Unguarded state last told buf (stamped last moment c)
stamped_stays state last told buf moment c one h =
    record {
      same = λ z.
          let s = h.same z in
          (s.0, (ap (λ (n : ℕ). n ∷ []) (stamp_stays c.code (last_of last) moment z) ∙ one_number last one, s.1));
    }

pub numbered_stays :
    (state guard told buf : List ℕ) (moment : ℕ) (c : Call) → length guard ≡ 2 → Uncrossed state (0 ∷ 0 ∷ []) buf c
    → Unguarded state guard told buf (numbered guard moment told c)
numbered_stays state guard told buf moment c two h =
    record {
      same = λ z.
          let s = h.same z in (
            s.0,
            (
              ap (λ (n : ℕ). n ∷ number_after c.code (handed_of guard) ∷ []) (stamp_stays c.code (last_of guard) moment z)
                  ∙ ap (λ (n : ℕ). last_of guard ∷ n ∷ []) (count_stays c.code (handed_of guard) z)
                  ∙ two_numbers guard two,
              (lent_stays _ _ _ z, s.1.1),
            ),
          );
    }

-- what is ignored is not refused
pub ignored_stays :
    (t : Bool) (state guard told buf : List ℕ) (c : GuardedCall) → Unguarded state guard told buf c
    → Unguarded state guard told buf (if t (ignored state guard buf) c)
ignored_stays true state guard told buf c h = record { same = λ z. absurd (omega (arith, z.0)) }
ignored_stays false state guard told buf c h = h

-- an answer to an order of another number
pub other_stays :
    (t : Bool) (state guard told buf : List ℕ) (c : GuardedCall) → Unguarded state guard told buf c
    → Unguarded state guard told buf (if t c (record { code = 21; told = told; state = state; guard = guard; buffer = buf }))
other_stays true state guard told buf c h = h
other_stays false state guard told buf c h = record { same = λ z. (refl, (refl, (refl, refl))) }

-- ---- the exported calls

outcome_high : (o : Outcome) → 100 ≤ initiator_crosses.code o
outcome_high (confirmed reply tries) = lit≤ tt
outcome_high (not_sent tries) = lit≤ tt
outcome_high (unknown tries) = lit≤ tt

order_high_lem : (order : Part) → 100 ≤ responder_crosses.code order
order_high_lem order = lit≤ tt

pub new_stays :
    {End Tale : Type 0} (across : Crossing End Tale) (made : Made End) (state : List ℕ) → IsNumber (new_call across made state).code
    → (new_call across made state).state ≡ state
unfolding new_call
new_stays across made state h = lent_stays _ _ _ h

pub guarded_new_stays :
    {End Tale : Type 0} (across : Crossing End Tale) (made : Made End) (state before after : List ℕ)
    → IsNumber (made_with before after (new_call across made state)).code
    → ((made_with before after (new_call across made state)).state ≡ state) × ((made_with before after (new_call across made state)).guard ≡ before)
guarded_new_stays across made state before after h = (new_stays across made state h, lent_stays _ before after h)

module _ (state told buf : List ℕ) where
  pub koy_submit : (order : List ℕ) → Uncrossed state told buf (koy_initiator_submit state order buf told)
  koy_submit order = crossed_stays initiator_crosses outcome_high _ state told buf _ (submit_unmoved (initiator_of state) buf order)

  pub koy_silence : Uncrossed state told buf (koy_initiator_silence state buf told)
  koy_silence = crossed_stays initiator_crosses outcome_high _ state told buf _ (silence_unmoved (initiator_of state) buf)

  pub koy_initiator_hear_lem : (heard : List ℕ) → Uncrossed state told buf (koy_initiator_hear state heard buf told)
  koy_initiator_hear_lem heard = crossed_stays initiator_crosses outcome_high _ state told buf _ (hear_unmoved (initiator_of state) buf heard)

  pub koy_responder_hear_lem : (heard : List ℕ) → Uncrossed state told buf (koy_responder_hear state heard buf told)
  koy_responder_hear_lem heard = crossed_stays responder_crosses order_high_lem _ state told buf _ (responder_hear_unmoved (responder_of state) buf heard)

  pub koy_answer : (reply : List ℕ) → Uncrossed state told buf (koy_responder_answer state reply buf told)
  koy_answer reply = crossed_stays responder_crosses order_high_lem _ state told buf _ (answer_unmoved (responder_of state) buf reply)

pub koy_restart : (state told : List ℕ) → Uncrossed state told [] (koy_initiator_restart state told)
koy_restart state told = crossed_stays initiator_crosses outcome_high _ state told [] _ (restart_unmoved (initiator_of state))
