-- Laws of the calls, one for each case of document 01: what a call comes to where the room and the phase are known. Last, that a refused
-- submission gives back the record.
use Prim.Native.Nat.{ℕ, ◌+◌, ◌<◌, ◌≤◌}
use mathlib.Core.Bool.{Bool, true, false}
use mathlib.Core.List.{List, []}
use mathlib.Core.Path.{◌≡◌, ◌∙◌, ap}
use lib.ListN.{length}
use borrow.Author.Tests.{lt-ltb, le-ltb}
use Rattle.ground.specs.Pick.{if}
use Rattle.initiator.specs.Calls.{in_phase, sends_opening, sends_order, ends_of, keeping, not_sent, unknown, wrong_order, submit_in, submit_of, silence_in, silence_of, hear_in, hear_of, restart_in, restart_of}
use Rattle.initiator.specs.Records.{order_of}
use Rattle.initiator.specs.declared.state.Initiator.{Initiator}
use Rattle.initiator.specs.declared.state.Phase.{Phase}
use Rattle.initiator.specs.declared.state.Phase.TheVariants.{Closed, Ready, Opening, Order}
use Rattle.link_rules.specs.Rules.{room}
use Rattle.link_telegrams.proofs.TurnLaws.{short_of_room, with_room_lem, Stays, same_stays, picked_stays, writes_stays, room_stays}
use Rattle.link_telegrams.specs.Headers.{opening_header, order_header}
use Rattle.link_telegrams.specs.Heard.{reply_heard_of}
use Rattle.link_telegrams.specs.Turns.{tells, refusing}
use Rattle.link_telegrams.specs.declared.headers.Bit.{Bit}

module _ (i : Initiator) (q buf : List ℕ) where
  pub submit_short : length buf < room → submit_of i q buf ≡ refusing 10 i buf
  unfolding submit_of
  submit_short h = short_of_room i buf (submit_in i.phase i q buf) h

  pub submit_at : {p : Phase} → room ≤ length buf → i.phase ≡ p → submit_of i q buf ≡ submit_in p i q buf
  unfolding submit_of
  submit_at h e = with_room_lem i buf (submit_in i.phase i q buf) h ∙ ap (λ (p : Phase). submit_in p i q buf) e

  pub submit_opens : room ≤ length buf → i.phase ≡ Closed → wrong_order q ≡ false → submit_of i q buf ≡ sends_opening i (keeping i q) 1 buf
  submit_opens h e w = submit_at h e ∙ rw w

  pub submit_sends : {b : Bit} → room ≤ length buf → i.phase ≡ Ready b → wrong_order q ≡ false → submit_of i q buf ≡ sends_order i (keeping i q) b 1 buf
  submit_sends h e w = submit_at h e ∙ rw w

  pub submit_wrong_closed : room ≤ length buf → i.phase ≡ Closed → wrong_order q ≡ true → submit_of i q buf ≡ refusing 16 i buf
  submit_wrong_closed h e w = submit_at h e ∙ rw w

  pub submit_wrong_ready : {b : Bit} → room ≤ length buf → i.phase ≡ Ready b → wrong_order q ≡ true → submit_of i q buf ≡ refusing 16 i buf
  submit_wrong_ready h e w = submit_at h e ∙ rw w

module _ (i : Initiator) (buf : List ℕ) where
  pub silence_short : length buf < room → silence_of i buf ≡ refusing 10 i buf
  unfolding silence_of
  silence_short h = short_of_room i buf (silence_in i.phase i buf) h

  pub silence_at : {p : Phase} → room ≤ length buf → i.phase ≡ p → silence_of i buf ≡ silence_in p i buf
  unfolding silence_of
  silence_at h e = with_room_lem i buf (silence_in i.phase i buf) h ∙ ap (λ (p : Phase). silence_in p i buf) e

  pub silence_opens : {k : ℕ} → room ≤ length buf → i.phase ≡ Opening k → k < i.tries → silence_of i buf ≡ sends_opening i i (k + 1) buf
  silence_opens h e l = silence_at h e ∙ rw (lt-ltb _ _ l)

  pub silence_not_sent : {k : ℕ} → room ≤ length buf → i.phase ≡ Opening k → i.tries ≤ k → silence_of i buf ≡ ends_of (tells (not_sent k)) i Closed buf
  silence_not_sent h e l = silence_at h e ∙ rw (le-ltb _ _ l)

  pub silence_sends : {b : Bit} {k : ℕ} → room ≤ length buf → i.phase ≡ Order b k → k < i.tries → silence_of i buf ≡ sends_order i i b (k + 1) buf
  silence_sends {b} {k} h e l =
      silence_at h e ∙ ap (λ (t : Bool). if t (sends_order i i b (k + 1) buf) (ends_of (tells (unknown k)) i Closed buf)) (lt-ltb k i.tries l)

  pub silence_unknown : {b : Bit} {k : ℕ} → room ≤ length buf → i.phase ≡ Order b k → i.tries ≤ k → silence_of i buf ≡ ends_of (tells (unknown k)) i Closed buf
  silence_unknown h e l = silence_at h e ∙ rw (le-ltb _ _ l)

module _ (i : Initiator) (s buf : List ℕ) where
  pub hear_short : length buf < room → hear_of i s buf ≡ refusing 10 i buf
  unfolding hear_of
  hear_short h = short_of_room i buf (hear_in i.phase (reply_heard_of i.link s) i buf) h

  pub hear_at : {p : Phase} → room ≤ length buf → i.phase ≡ p → hear_of i s buf ≡ hear_in p (reply_heard_of i.link s) i buf
  unfolding hear_of
  hear_at h e =
      with_room_lem i buf (hear_in i.phase (reply_heard_of i.link s) i buf) h
      ∙ (ap (λ (p : Phase). hear_in p (reply_heard_of i.link s) i buf) e)

pub restart_at : (i : Initiator) {p : Phase} → i.phase ≡ p → restart_of i ≡ restart_in p i
unfolding restart_of
restart_at i e = ap (λ (p : Phase). restart_in p i) e

module _ (i : Initiator) (q buf : List ℕ) where
  submit_in_stays : (p : Phase) → Stays i (submit_in p i q buf)
  submit_in_stays Closed =
      picked_stays i (wrong_order q) (refusing 16 i buf) (sends_opening i (keeping i q) 1 buf) (same_stays i _ buf)
      (writes_stays i (in_phase (keeping i q) (Opening 1)) (opening_header i.link) [] buf)
  submit_in_stays (Ready b) =
      picked_stays i (wrong_order q) (refusing 16 i buf) (sends_order i (keeping i q) b 1 buf) (same_stays i _ buf)
      (writes_stays i (in_phase (keeping i q) (Order b 1)) (order_header i.link b) (order_of (keeping i q)) buf)
  submit_in_stays (Opening k) = same_stays i _ buf
  submit_in_stays (Order b k) = same_stays i _ buf

  pub submit_stays : Stays i (submit_of i q buf)
  unfolding submit_of
  submit_stays = room_stays i buf (submit_in i.phase i q buf) (submit_in_stays i.phase)
