-- Laws of a call on a head and a lent order: what is shown of the leaves' turns, and the calls by what the code asks of a phase. Read
-- `wrote_shown`, `wrote_same`, `submit_begins`, `restart_gives_up`.
use Rattle.std.proofs.Common.{Err, Ok, Result}
use Prim.Native.Nat.{ℕ, ◌≤◌, ◌<◌}
use mathlib.Core.Bool.{Bool, true, false}
use mathlib.Core.List.{List, []}
use mathlib.Core.Path.{◌≡◌, refl, ap, sym, ◌∙◌}
use native.Mathlib.Omega.{arith}
use lib.ListN.{length, take}
use lib.Seq.{take-length}
use Rattle.ground.specs.Pick.{if}
use Rattle.initiator.proofs.CallLaws.{submit_at, submit_opens, submit_sends, submit_wrong_closed, submit_wrong_ready, restart_at}
use Rattle.initiator.proofs.OrderLaws.{kept_order, order_small}
use Rattle.initiator.specs.Calls.{Outcome, keeping, in_phase, ends_of, wrong_order, submit_of, silence_of, hear_of, restart_of}
use Rattle.initiator.specs.Heads.{whole_of, shown_on, submit_on, silence_on, hear_on}
use Rattle.initiator.specs.Leaves.{written_of, header_in, first_phase, first_len, given_up, Wrote, was_sent, kept_after}
use Rattle.initiator.specs.Records.{is_pending}
use Rattle.initiator.specs.declared.head.InitiatorHead.{InitiatorHead}
use Rattle.initiator.specs.declared.head.InitiatorHeadTurn.{InitiatorHeadTurn}
use Rattle.initiator.specs.declared.state.Initiator.{Initiator}
use Rattle.initiator.specs.declared.state.Phase.{Phase}
use Rattle.initiator.specs.declared.state.Phase.TheVariants.{Closed, Ready, Opening, Order}
use Rattle.link_rules.specs.Rules.{longest, room}
use Rattle.link_telegrams.proofs.TurnLaws.{short_of_lent, with_lent_lem}
use Rattle.link_telegrams.specs.Headers.{order_header}
use Rattle.link_telegrams.specs.Turns.{Turn, refusing, wrote, writes_of, with_lent}
use Rattle.telegram_tx.specs.Writing.{shown_writing}
use Rattle.ground.specs.declared.refusal.Refusal.{Refusal}
use Rattle.telegram_tx.specs.declared.tx.TelegramTxResponse.{TelegramTxResponse}

-- Where the lent bytes have room for an order, a call is that of the record which both parts make; where they have not, it is refused.
module _ (head : InitiatorHead) (kept : List ℕ) where
  pub submit_lent : (q buf : List ℕ) → longest ≤ length kept → submit_on head kept q buf ≡ submit_of (whole_of head kept) q buf
  submit_lent q buf h = with_lent_lem kept (whole_of head kept) buf (submit_of (whole_of head kept) q buf) h

  pub silence_lent : (buf : List ℕ) → longest ≤ length kept → silence_on head kept buf ≡ silence_of (whole_of head kept) buf
  silence_lent buf h = with_lent_lem kept (whole_of head kept) buf (silence_of (whole_of head kept) buf) h

  pub hear_lent : (s buf : List ℕ) → longest ≤ length kept → hear_on head kept s buf ≡ hear_of (whole_of head kept) s buf
  hear_lent s buf h = with_lent_lem kept (whole_of head kept) buf (hear_of (whole_of head kept) s buf) h

  pub few_lent : (buf : List ℕ) (turn : Turn Initiator Outcome) → length kept < longest → with_lent kept (whole_of head kept) buf turn ≡ refusing 10 (whole_of head kept) buf
  few_lent buf turn h = short_of_lent kept (whole_of head kept) buf turn h

-- The record that goes on in another phase, with an order of so many bytes.
abbrev whole_in : InitiatorHead → Phase → ℕ → List ℕ → Initiator
whole_in head phase len kept = record { link = head.link; tries = head.tries; phase = phase; order = kept; len = len }

-- A telegram was written, or refused: another order stands in the lent bytes only where it was written.
module _ (head : InitiatorHead) (phase : Phase) (len : ℕ) (kept kept' : List ℕ) where
  written_shown : (r : Result TelegramTxResponse Refusal) (b : List ℕ) → shown_on (written_of r head phase len) head (kept_after (written_of r head phase len).answer kept kept') b ≡ wrote (shown_writing r) (whole_of head kept) (whole_in head phase len kept') b
  written_shown (Ok response) b = refl
  written_shown (Err refusal) b = refl

  pub wrote_shown :
      (pdu before after : List ℕ) (t : InitiatorHeadTurn) → Wrote head phase len pdu t before after
      → shown_on t head (kept_after t.answer kept kept') after ≡ writes_of (whole_of head kept) (whole_in head phase len kept') (header_in head.link phase) pdu before
  wrote_shown pdu before after t w = rw (w.turn, w.buffer, ← w.answered) (written_shown w.result _)

same_kept : (t : Bool) (kept : List ℕ) → if t kept kept ≡ kept
same_kept true kept = refl
same_kept false kept = refl

-- the lent bytes stay
pub wrote_same :
    (head : InitiatorHead) (phase : Phase) (len : ℕ) (kept pdu before after : List ℕ) (t : InitiatorHeadTurn)
    → Wrote head phase len pdu t before after
    → shown_on t head kept after ≡ writes_of (whole_of head kept) (whole_in head phase len kept) (header_in head.link phase) pdu before
wrote_same head phase len kept pdu before after t w =
    ap (λ k. shown_on t head k after) (sym (same_kept (was_sent t.answer) kept)) ∙ wrote_shown head phase len kept kept pdu before after t w

-- ---- a submission, by whether an order is pending

pub first_len_fits : (p : Phase) (n : ℕ) → first_len p n ≤ n
first_len_fits Closed n = omega arith
first_len_fits (Ready b) n = omega arith
first_len_fits (Opening k) n = omega arith
first_len_fits (Order b k) n = omega arith

apart : ◌≡◌ {A = Bool} false true → ⊥
apart e = let z : ◌≡◌ {A = ℕ} 0 1 = ap (λ t. if t 1 0) e in omega (arith, z)

module _ (i : Initiator) (q buf : List ℕ) (enough : room ≤ length buf) where
  pending_in : (p : Phase) → is_pending p ≡ true → i.phase ≡ p → submit_of i q buf ≡ refusing 17 i buf
  pending_in Closed t e = absurd (apart t)
  pending_in (Ready b) t e = absurd (apart t)
  pending_in (Opening k) t e = submit_at i q buf enough e
  pending_in (Order b k) t e = submit_at i q buf enough e

  pub submit_pending : is_pending i.phase ≡ true → submit_of i q buf ≡ refusing 17 i buf
  submit_pending t = pending_in i.phase t refl

  wrong_in : (p : Phase) → is_pending p ≡ false → i.phase ≡ p → wrong_order q ≡ true → submit_of i q buf ≡ refusing 16 i buf
  wrong_in Closed t e w = submit_wrong_closed i q buf enough e w
  wrong_in (Ready b) t e w = submit_wrong_ready i q buf enough e w
  wrong_in (Opening k) t e w = absurd (apart (sym t))
  wrong_in (Order b k) t e w = absurd (apart (sym t))

  pub submit_wrong : is_pending i.phase ≡ false → wrong_order q ≡ true → submit_of i q buf ≡ refusing 16 i buf
  submit_wrong t w = wrong_in i.phase t refl w

  -- what is sent of the order that was kept is the order that was lent
  module _ (wide : longest ≤ length i.order) (w : wrong_order q ≡ false) where
    begins_in :
        (p : Phase) → is_pending p ≡ false → i.phase ≡ p
        → submit_of i q buf ≡ writes_of i (in_phase (keeping i q) (first_phase p)) (header_in i.link (first_phase p)) (take (first_len p (length q)) q) buf
    begins_in Closed t e = submit_opens i q buf enough e w
    begins_in (Ready b) t e =
        submit_sends i q buf enough e w
        ∙ ap (λ x. writes_of {Tale = Outcome} i (in_phase (keeping i q) (Order b 1)) (order_header i.link b) x buf)
        (kept_order i q wide (order_small q w) ∙ sym (take-length q))
    begins_in (Opening k) t e = absurd (apart (sym t))
    begins_in (Order b k) t e = absurd (apart (sym t))

    pub submit_begins :
        is_pending i.phase ≡ false
        → submit_of i q buf ≡ writes_of i (in_phase (keeping i q) (first_phase i.phase)) (header_in i.link (first_phase i.phase)) (take (first_len i.phase (length q)) q) buf
    submit_begins t = begins_in i.phase t refl

-- ---- a restart

restart_in_lem : (i : Initiator) (p : Phase) → i.phase ≡ p → restart_of i ≡ ends_of (given_up p) i Closed []
restart_in_lem i Closed e = restart_at i e
restart_in_lem i (Ready b) e = restart_at i e
restart_in_lem i (Opening k) e = restart_at i e
restart_in_lem i (Order b k) e = restart_at i e

pub restart_gives_up : (i : Initiator) → restart_of i ≡ ends_of (given_up i.phase) i Closed []
restart_gives_up i = restart_in_lem i i.phase refl
