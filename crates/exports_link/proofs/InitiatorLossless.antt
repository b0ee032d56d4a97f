-- An initiator's record packed into bytes and unpacked is the same record. Its order has at most 246 bytes, which every call keeps.
-- Read `initiator_again`, and the laws `-small` below it.
use Prim.Native.Nat.{ℕ, ◌+◌, ◌≤◌}
use mathlib.Core.Bool.{Bool, true, false}
use mathlib.Core.List.{List, []}
use mathlib.Core.Path.{◌≡◌, refl}
use lib.Dec.{ltb, lit≤}
use lib.ListN.{length}
use borrow.Author.Tests.{le-leb}
use Rattle.ground.specs.Pick.{if}
use Rattle.initiator.proofs.OrderLaws.{order_small}
use Rattle.initiator.specs.Calls.{Outcome, confirmed, not_sent, unknown, in_phase, keeping, ends_of, sends_opening, sends_order, wrong_order, submit_in, submit_of, silence_in, silence_of, awaiting_ok, awaiting_reply, hear_in, hear_of, restart_in, restart_of}
use Rattle.initiator.specs.Records.{len_of, order_of, used_of, closed_of, made_of}
use Rattle.link_rules.specs.Rules.{longest, no_link, wrong_addresses, wrong_tries}
use Rattle.link_rules.specs.declared.link.Link.{Link}
use Rattle.link_telegrams.proofs.TurnLaws.{Keeps, kept, picked_keeps, writes_keeps, room_keeps}
use Rattle.link_telegrams.specs.Turns.{Said, tells, nothing, Turn, refusing, Made}
use Rattle.initiator.specs.declared.state.Initiator.{Initiator}
use Rattle.initiator.specs.declared.state.Phase.{Phase}
use Rattle.initiator.specs.declared.state.Phase.TheVariants.{Closed, Ready, Opening, Order}
use Rattle.link_telegrams.specs.Headers.{cycled_bit, opening_header, order_header}
use Rattle.link_telegrams.specs.Heard.{reply_heard_of}
use Rattle.link_telegrams.specs.declared.headers.Bit.{Bit}
use Rattle.link_telegrams.specs.declared.headers.Bit.TheVariants.{Low, High}
use Rattle.link_telegrams.specs.declared.heard.ReplyHeard.{ReplyHeard}
use Rattle.link_telegrams.specs.declared.heard.ReplyHeard.TheVariants as heard
use Rattle.exports_link.proofs.ByteLaws.{length_again}
use Rattle.exports_link.specs.Bytes.{length_byte}
use Rattle.exports_link.specs.InitiatorBytes.{initiator_of, initiator_bytes}
use Rattle.link_numbers.specs.Numbers.{phase_number, phase_of}

phase_again : (p : Phase) → phase_of (phase_number p) (used_of p) ≡ p
unfolding phase_of
phase_again Closed = refl
phase_again (Ready Low) = refl
phase_again (Ready High) = refl
phase_again (Opening k) = refl
phase_again (Order Low k) = refl
phase_again (Order High k) = refl

order_length_again : (i : Initiator) → i.len ≤ longest → length_byte (len_of i) ≡ i.len
order_length_again i h = rw (le-leb i.len longest h) (length_again i.len h)

again_of_lem : (i : Initiator) (p : Phase) (n : ℕ) → p ≡ i.phase → n ≡ i.len → record { link = i.link; tries = i.tries; phase = p; order = i.order; len = n } ≡ i
again_of_lem i p n e f = rw (e, f)

-- Nothing of the record is lost.
pub initiator_again : (i : Initiator) → i.len ≤ longest → initiator_of (initiator_bytes i) ≡ i
initiator_again i h = again_of_lem i _ _ (phase_again i.phase) (order_length_again i h)

-- A call leaves an order of at most 246 bytes.
abbrev pub SmallOrder : Initiator → Type 0
SmallOrder i = i.len ≤ longest

abbrev pub Small : Turn Initiator Outcome → Type 0
Small t = Keeps SmallOrder t

as_small : (t : Turn Initiator Outcome) → t.end.len ≤ longest → Small t
as_small t h = kept SmallOrder t h

module _ (i : Initiator) (h : i.len ≤ longest) where
  opening_small : (j : Initiator) (k : ℕ) (b : List ℕ) → j.len ≤ longest → Small (sends_opening i j k b)
  opening_small j k b g = writes_keeps SmallOrder i h (in_phase j (Opening k)) (opening_header j.link) [] b g

  order_sent_small : (j : Initiator) (c : Bit) (k : ℕ) (b : List ℕ) → j.len ≤ longest → Small (sends_order i j c k b)
  order_sent_small j c k b g = writes_keeps SmallOrder i h (in_phase j (Order c k)) (order_header j.link c) (order_of j) b g

  order_taken : (q : List ℕ) (t : Bool) (x y : Turn Initiator Outcome) → wrong_order q ≡ t → Small x → (length q ≤ longest → Small y) → Small (if t x y)
  order_taken q true x y e p g = p
  order_taken q false x y e p g = g (order_small q e)

  submit_in_lem : (p : Phase) (q b : List ℕ) → Small (submit_in p i q b)
  submit_in_lem Closed q b =
      order_taken q (wrong_order q) (refusing 16 i b) (sends_opening i (keeping i q) 1 b) refl (as_small _ h) (λ g. opening_small (keeping i q) 1 b g)
  submit_in_lem (Ready c) q b =
      order_taken q (wrong_order q) (refusing 16 i b) (sends_order i (keeping i q) c 1 b) refl (as_small _ h) (λ g. order_sent_small (keeping i q) c 1 b g)
  submit_in_lem (Opening k) q b = as_small _ h
  submit_in_lem (Order c k) q b = as_small _ h

  ended_small : (o : Said Outcome) (p : Phase) (b : List ℕ) → Small (ends_of o i p b)
  ended_small o p b = as_small _ (lit≤ tt)

  silence_in_lem : (p : Phase) (b : List ℕ) → Small (silence_in p i b)
  silence_in_lem Closed b = as_small _ h
  silence_in_lem (Ready c) b = as_small _ h
  silence_in_lem (Opening k) b =
      picked_keeps SmallOrder (ltb k i.tries) (sends_opening i i (k + 1) b) (ends_of (tells (not_sent k)) i Closed b) (opening_small i (k + 1) b h) (ended_small (tells (not_sent k)) Closed b)
  silence_in_lem (Order c k) b =
      picked_keeps SmallOrder (ltb k i.tries) (sends_order i i c (k + 1) b) (ends_of (tells (unknown k)) i Closed b) (order_sent_small i c (k + 1) b h) (ended_small (tells (unknown k)) Closed b)

  ok_in : (r : ReplyHeard) (b : List ℕ) → Small (awaiting_ok r i b)
  ok_in heard.Ok b = order_sent_small i Low 1 b h
  ok_in (heard.Reply reply) b = as_small _ h
  ok_in heard.Nothing b = as_small _ h

  reply_in_lem : (c : Bit) (k : ℕ) (r : ReplyHeard) (b : List ℕ) → Small (awaiting_reply c k r i b)
  reply_in_lem c k heard.Ok b = as_small _ h
  reply_in_lem c k (heard.Reply reply) b = ended_small (tells (confirmed reply k)) (Ready (cycled_bit c)) b
  reply_in_lem c k heard.Nothing b = as_small _ h

  hear_in_lem : (p : Phase) (r : ReplyHeard) (b : List ℕ) → Small (hear_in p r i b)
  hear_in_lem Closed r b = as_small _ h
  hear_in_lem (Ready c) r b = as_small _ h
  hear_in_lem (Opening k) r b = ok_in r b
  hear_in_lem (Order c k) r b = reply_in_lem c k r b

  restart_in_lem : (p : Phase) → Small (restart_in p i)
  restart_in_lem Closed = ended_small nothing Closed []
  restart_in_lem (Ready c) = ended_small nothing Closed []
  restart_in_lem (Opening k) = ended_small (tells (not_sent k)) Closed []
  restart_in_lem (Order c k) = ended_small (tells (unknown k)) Closed []

  pub submit_small : (q b : List ℕ) → Small (submit_of i q b)
  unfolding submit_of
  submit_small q b = room_keeps SmallOrder i h b (submit_in i.phase i q b) (submit_in_lem i.phase q b)

  pub silence_small : (b : List ℕ) → Small (silence_of i b)
  unfolding silence_of
  silence_small b = room_keeps SmallOrder i h b (silence_in i.phase i b) (silence_in_lem i.phase b)

  pub hear_small : (s b : List ℕ) → Small (hear_of i s b)
  unfolding hear_of
  hear_small s b =
      let r = reply_heard_of i.link s in
      room_keeps SmallOrder i h b (hear_in i.phase r i b) (hear_in_lem i.phase r b)

  pub restart_small : Small (restart_of i)
  unfolding restart_of
  restart_small = restart_in_lem i.phase

-- So does making one, where no order is pending.
picked_made : (t : Bool) (x y : Made Initiator) → SmallOrder x.end → SmallOrder y.end → SmallOrder (if t x y).end
picked_made true x y p q = p
picked_made false x y p q = q

pub made_small : (link : Link) (tries : ℕ) → SmallOrder (made_of link tries).end
unfolding made_of
made_small link tries =
    let none = closed_of no_link 1 in
    let some = closed_of link tries in
    picked_made (wrong_addresses link) (record { number = 18; end = none })
    (if (wrong_tries tries) (record { number = 19; end = none }) (record { number = 0; end = some }))
    (lit≤ tt)
    (picked_made (wrong_tries tries) (record { number = 19; end = none }) (record { number = 0; end = some }) (lit≤ tt) (lit≤ tt))
