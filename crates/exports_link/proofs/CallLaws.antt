-- Laws that carry a call on a head and a lent body across to a call on lent bytes.
use mathlib.Core.Path.{◌≡◌, refl, sym, ap, ◌∙◌}
use mathlib.Core.Bool.{true}
use mathlib.Core.List.{List, [], ◌∷◌, ◌++◌}
use Prim.Native.Nat.{ℕ}
use native.Mathlib.Omega.{arith}
use lib.ListN.{length, take, drop, take-append-drop}
use Rattle.ground.specs.Refusals.{number_of}
use Rattle.ground.specs.declared.refusal.Refusal.{Refusal}
use Rattle.ground.specs.declared.refusal.Refusal.TheVariants.{UnknownStart, LengthsDiffer, LengthTooSmall, FunctionCode, SapMissing, Checksum, EndDelimiter, AddressTooLarge, TooLong, NoRoom, NotAStation, BlockCutOff, BlockReserved, BlockLengthZero, CycleInactive, OrderLength, OrderPending, LinkAddresses, Tries, SettingsForm, NoReplyOwed, InputTooLong}
use Rattle.ground.specs.declared.returned.Returned.{Returned}
use Rattle.initiator.specs.Calls as initiator
use Rattle.initiator.specs.Heads.{whole_of, head_after, shown_on, submit_on}
use Rattle.initiator.specs.declared.answer.InitiatorAnswer.{InitiatorAnswer}
use Rattle.initiator.specs.declared.answer.InitiatorAnswer.TheVariants as answer
use Rattle.initiator.specs.declared.head.InitiatorHead.{InitiatorHead}
use Rattle.initiator.specs.declared.head.InitiatorHeadTurn.{InitiatorHeadTurn}
use Rattle.initiator.proofs.CallLaws.{submit_stays}
use Rattle.initiator.proofs.HeadLaws.{submit_lent}
use Rattle.link_telegrams.proofs.TurnLaws.{with_lent_lem}
use Rattle.link_telegrams.specs.Turns.{refused}
use Rattle.responder.specs.Calls as responder
use Rattle.responder.specs.declared.answer.ResponderAnswer.{ResponderAnswer}
use Rattle.responder.specs.declared.answer.ResponderAnswer.TheVariants as answers
use Rattle.responder.specs.declared.head.ResponderHead.{ResponderHead}
use Rattle.responder.proofs.CallLaws.{answer_stays}
use Rattle.exports_link.proofs.ByteLaws.{order_all, order_long, held_all, held_long, put_back, put_again, same_six}
use Rattle.exports_link.specs.Calls.{is_refusal, unless_refused, code_of, told_of, crossed}
use Rattle.exports_link.specs.InitiatorBytes.{initiator_of, initiator_bytes}
use Rattle.exports_link.specs.InitiatorCalls.{outcome_code, outcome_numbers, initiator_crosses}
use Rattle.exports_link.specs.Leaves.{initiator_head_of, responder_head_of}
use Rattle.exports_link.specs.ResponderBytes.{responder_of, responder_bytes}
use Rattle.exports_link.specs.ResponderCalls.{order_code, order_numbers, responder_crosses}

-- Every refusal's number is a refusal's code.
pub refusal_told : (r : Refusal) → is_refusal (number_of r) ≡ true
refusal_told UnknownStart = refl
refusal_told LengthsDiffer = refl
refusal_told LengthTooSmall = refl
refusal_told FunctionCode = refl
refusal_told SapMissing = refl
refusal_told Checksum = refl
refusal_told EndDelimiter = refl
refusal_told AddressTooLarge = refl
refusal_told TooLong = refl
refusal_told NoRoom = refl
refusal_told NotAStation = refl
refusal_told BlockCutOff = refl
refusal_told BlockReserved = refl
refusal_told BlockLengthZero = refl
refusal_told CycleInactive = refl
refusal_told OrderLength = refl
refusal_told OrderPending = refl
refusal_told LinkAddresses = refl
refusal_told Tries = refl
refusal_told SettingsForm = refl
refusal_told NoReplyOwed = refl
refusal_told InputTooLong = refl

-- The record of the initiator's bytes is that of its head and the order behind it; so is the responder's.
initiator_whole : (s : List ℕ) → whole_of (initiator_head_of s) (drop 6 s) ≡ initiator_of s
unfolding initiator_head_of
initiator_whole s = refl

responder_whole : (s : List ℕ) → responder.whole_of (responder_head_of s) (drop 4 s) ≡ responder_of s
unfolding responder_head_of
responder_whole s = refl

-- A submission may leave another order behind the head; a refused one does not.
module _ (s t q b : List ℕ) (full : length s ≡ 252) {h : InitiatorHead} (head : h ≡ initiator_head_of s) (turn : InitiatorHeadTurn) (kept b' : List ℕ)
    (lent : shown_on turn h kept b' ≡ submit_on h (take 246 (drop 6 s)) q b) where
  submitted : shown_on turn (initiator_head_of s) kept b' ≡ initiator.submit_of (initiator_of s) q b
  submitted =
      rw (head, order_all s full) at lent ∙ submit_lent (initiator_head_of s) (drop 6 s) q b (order_long s full)
      ∙ ap (λ i. initiator.submit_of i q b) (initiator_whole s)

  order_stays : (n : ℕ) → initiator.shown_said turn.answer ≡ refused n → kept ≡ drop 6 s
  order_stays n e =
      ap (λ x. x.end.order) submitted ∙ ap (λ i. i.order) ((submit_stays (initiator_of s) q b).same n (sym (ap (λ x. x.said) submitted) ∙ e))

  abbrev put : List ℕ
  put = take 6 s ++ (kept ++ drop 246 (drop 6 s))

  stays : (a : InitiatorAnswer) → turn.answer ≡ a → (x : List ℕ) → unless_refused (code_of outcome_code (initiator.shown_said a)) (take 6 s ++ kept) x ≡ unless_refused (code_of outcome_code (initiator.shown_said a)) s x
  stays (answer.Sent n) e x = refl
  stays (answer.Confirmed reply tries) e x = refl
  stays (answer.NotSent tries) e x = refl
  stays (answer.Unknown tries) e x = refl
  stays answer.Nothing e x = refl
  stays (answer.Refused r) e x = rw (order_stays (number_of r) (ap initiator.shown_said e), take-append-drop 6 s)

  abbrev code : ℕ
  code = code_of outcome_code (initiator.shown_said turn.answer)

  pub submits :
      {k : ℕ} {ns s' : List ℕ} → k ≡ code → ns ≡ unless_refused code t (told_of outcome_numbers (0 ∷ 0 ∷ []) (initiator.shown_said turn.answer))
      → s' ≡ unless_refused code put (initiator_bytes (whole_of (head_after turn (initiator_head_of put)) (drop 6 put)))
      → record { code = k; told = ns; state = s'; buffer = b' } ≡ crossed initiator_crosses s t (initiator.submit_of (initiator_of s) q b)
  unfolding crossed
  submits {s' = s'} e f g =
      let state : s' ≡ unless_refused code s (initiator_bytes (whole_of (head_after turn (initiator_head_of s)) kept)) =
      rw (put_back s kept 6 full, put_again s kept 6 full, same_six s kept (omega (arith, full)), stays turn.answer refl _) at g in
      rw (← submitted, e, f, state)

-- An answer that is taken is held behind the head; a refused one is not.
module _ (s t q b : List ℕ) (full : length s ≡ 250) {h : ResponderHead} (head : h ≡ responder_head_of s) (turn : Returned ResponderAnswer ResponderHead) (held b' : List ℕ)
    (lent : responder.shown_on turn held b' ≡ responder.answer_on h (take 246 (drop 4 s)) q b) where
  answered : responder.shown_on turn held b' ≡ responder.answer_of (responder_of s) q b
  answered =
      rw (head, held_all s full) at lent ∙ with_lent_lem (drop 4 s) _ b _ (held_long s full)
      ∙ ap (λ i. responder.answer_of i q b) (responder_whole s)

  held_stays : (n : ℕ) → responder.shown_said turn.answer ≡ refused n → held ≡ drop 4 s
  held_stays n e =
      ap (λ x. x.end.row.held) answered ∙ ap (λ i. i.row.held) ((answer_stays (responder_of s) q b).same n (sym (ap (λ x. x.said) answered) ∙ e))

  abbrev held_put : List ℕ
  held_put = take 4 s ++ (held ++ drop 246 (drop 4 s))

  reply_stays : (a : ResponderAnswer) → turn.answer ≡ a → (x : List ℕ) → unless_refused (code_of order_code (responder.shown_said a)) (take 4 s ++ held) x ≡ unless_refused (code_of order_code (responder.shown_said a)) s x
  reply_stays (answers.Sent n) e x = refl
  reply_stays (answers.HandUp order) e x = refl
  reply_stays answers.Nothing e x = refl
  reply_stays (answers.Refused r) e x = rw (held_stays (number_of r) (ap responder.shown_said e), take-append-drop 4 s)

  abbrev answer_code : ℕ
  answer_code = code_of order_code (responder.shown_said turn.answer)

  pub answered_over :
      {k : ℕ} {ns s' : List ℕ} → k ≡ answer_code → ns ≡ unless_refused answer_code t (told_of order_numbers (0 ∷ []) (responder.shown_said turn.answer))
      → s' ≡ unless_refused answer_code held_put (responder_bytes (responder.whole_of turn.after (drop 4 held_put)))
      → record { code = k; told = ns; state = s'; buffer = b' } ≡ crossed responder_crosses s t (responder.answer_of (responder_of s) q b)
  unfolding crossed
  answered_over {s' = s'} e f g =
      let state : s' ≡ unless_refused answer_code s (responder_bytes (responder.whole_of turn.after held)) =
      rw (put_back s held 4 full, put_again s held 4 full, reply_stays turn.answer refl _) at g in
      rw (← answered, e, f, state)
