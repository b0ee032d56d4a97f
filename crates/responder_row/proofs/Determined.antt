-- No second outcome fits the promise of a public call of `responder_row`: two outcomes that its promise allows are the same.
use Prim.Native.Nat.{ℕ}
use mathlib.Core.List.{[]}
use mathlib.Core.Path.{refl}
use lib.ListN.{replicate, length-replicate}
use Rattle.responder_row.proofs.ShownLaws.{heard_injective, answered_injective}
use Rattle.ground.proofs.DeterminedLaws.{fixed, same}
use Rattle.ground.specs.Determined.{Determined}
use Rattle.responder_row.specs.contracts.head.RowHead.answer as row_answer
use Rattle.responder_row.proofs.head.RowHead.answer.Reads as row_answer_reads
use Rattle.responder_row.specs.contracts.head.RowHead.hear as row_hear
use Rattle.responder_row.proofs.head.RowHead.hear.Reads as row_hear_reads
use Rattle.responder_row.specs.contracts.head.RowHead.held_len as head_held_len
use Rattle.responder_row.proofs.head.RowHead.held_len.Reads as head_held_len_reads
use Rattle.responder_row.specs.contracts.row.Row.blank as blank_row
use Rattle.responder_row.proofs.row.Row.blank.Reads as blank_row_reads
use Rattle.responder_row.specs.contracts.row.Row.from_parts as row_from_parts
use Rattle.responder_row.proofs.row.Row.from_parts.Reads as row_from_parts_reads
use Rattle.responder_row.specs.contracts.row.Row.head as row_head
use Rattle.responder_row.proofs.row.Row.head.Reads as row_head_reads
use Rattle.responder_row.specs.contracts.row.Row.held as held
use Rattle.responder_row.proofs.row.Row.held.Reads as held_reads
use Rattle.responder_row.specs.contracts.row.Row.held_len as held_len
use Rattle.responder_row.proofs.row.Row.held_len.Reads as held_len_reads
use Rattle.responder_row.specs.contracts.row.Row.state as row_state
use Rattle.responder_row.proofs.row.Row.state.Reads as row_state_reads
use Rattle.responder_row.specs.contracts.row.RowState.holds_reply as holds_reply
use Rattle.responder_row.proofs.row.RowState.holds_reply.Reads as holds_reply_reads
use Rattle.responder_row.specs.contracts.row.RowState.owes_reply as owes_reply
use Rattle.responder_row.proofs.row.RowState.owes_reply.Reads as owes_reply_reads
use Rattle.responder_row.specs.contracts.row.RowState.stored_bit as stored_bit
use Rattle.responder_row.proofs.row.RowState.stored_bit.Reads as stored_bit_reads

pub record Calls : Type 0 where
  pub row_from_parts : Determined row_from_parts.ended row_from_parts_reads.Learnt
  pub stored_bit : Determined stored_bit.ended stored_bit_reads.Learnt
  pub owes_reply : Determined owes_reply.ended owes_reply_reads.Learnt
  pub holds_reply : Determined holds_reply.ended holds_reply_reads.Learnt
  pub blank_row : Determined blank_row.ended blank_row_reads.Learnt
  pub row_state : Determined row_state.ended row_state_reads.Learnt
  pub row_head : Determined row_head.ended row_head_reads.Learnt
  pub held_len : Determined held_len.ended held_len_reads.Learnt
  pub held : Determined held.ended held_reads.Learnt
  pub head_held_len : Determined head_held_len.ended head_held_len_reads.Learnt
  pub row_hear : Determined row_hear.ended row_hear_reads.Learnt
  pub row_answer : Determined row_answer.ended row_answer_reads.Learnt

pub determined : Calls
determined =
    record {
      row_from_parts = fixed (λ κs a u v. refl);
      stored_bit = fixed (λ κs a u v. refl);
      owes_reply = fixed (λ κs a u v. refl);
      holds_reply = fixed (λ κs a u v. refl);
      blank_row = fixed (λ κs a u v. refl);
      row_state = fixed (λ κs a u v. refl);
      row_head = fixed (λ κs a u v. refl);
      held_len = fixed (λ κs a u v. refl);
      held = fixed (λ κs a u v. refl);
      head_held_len =
          record {
            one = λ κs a m n.
                let lent = replicate {A = ℕ} a.1.0 0 in
                (same (m.meets lent (length-replicate _ _)) (n.meets lent (length-replicate _ _)), refl);
          };
      row_hear = record { one = λ κs a m n. (heard_injective [] _ _ (same (m.meets []) (n.meets [])), refl) };
      row_answer =
          record {
            one = λ κs a m n.
                let p = replicate {A = ℕ} a.1.0 0 in
                let x = m.meets [] p (length-replicate _ _) in
                let y = n.meets [] p (length-replicate _ _) in
                (answered_injective [] p _ _ (same x.0 y.0) (same x.1 y.1), refl);
          };
    }
