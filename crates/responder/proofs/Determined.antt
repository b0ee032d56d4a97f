-- No second outcome fits the promise of a public call of `responder`: two outcomes that its promise allows are the same.
use mathlib.Core.Path.{refl}
use Rattle.responder.proofs.ShownLaws.{made_injective, parts_injective, turn_injective}
use Rattle.ground.proofs.DeterminedLaws.{fixed, same, seen, turned}
use Rattle.ground.specs.Determined.{Determined}
use Rattle.responder.specs.contracts.head.ResponderHead.answer as head_answer
use Rattle.responder.proofs.head.ResponderHead.answer.Reads as head_answer_reads
use Rattle.responder.specs.contracts.head.ResponderHead.hear as head_hear
use Rattle.responder.proofs.head.ResponderHead.hear.Reads as head_hear_reads
use Rattle.responder.specs.contracts.state.Responder.answer as responder_answer
use Rattle.responder.proofs.state.Responder.answer.Reads as responder_answer_reads
use Rattle.responder.specs.contracts.state.Responder.from_parts as responder_from_parts
use Rattle.responder.proofs.state.Responder.from_parts.Reads as responder_from_parts_reads
use Rattle.responder.specs.contracts.state.Responder.hear as responder_hear
use Rattle.responder.proofs.state.Responder.hear.Reads as responder_hear_reads
use Rattle.responder.specs.contracts.state.Responder.new as responder_new
use Rattle.responder.proofs.state.Responder.new.Reads as responder_new_reads
use Rattle.responder.specs.contracts.state.Responder.own as responder_own
use Rattle.responder.proofs.state.Responder.own.Reads as responder_own_reads
use Rattle.responder.specs.contracts.state.Responder.peer as responder_peer
use Rattle.responder.proofs.state.Responder.peer.Reads as responder_peer_reads
use Rattle.responder.specs.contracts.state.Responder.restart as responder_restart
use Rattle.responder.proofs.state.Responder.restart.Reads as responder_restart_reads
use Rattle.responder.specs.contracts.state.Responder.row as row
use Rattle.responder.proofs.state.Responder.row.Reads as row_reads

pub record Calls : Type 0 where
  pub responder_from_parts : Determined responder_from_parts.ended responder_from_parts_reads.Learnt
  pub responder_new : Determined responder_new.ended responder_new_reads.Learnt
  pub head_hear : Determined head_hear.ended head_hear_reads.Learnt
  pub head_answer : Determined head_answer.ended head_answer_reads.Learnt
  pub responder_hear : Determined responder_hear.ended responder_hear_reads.Learnt
  pub responder_answer : Determined responder_answer.ended responder_answer_reads.Learnt
  pub responder_restart : Determined responder_restart.ended responder_restart_reads.Learnt
  pub responder_own : Determined responder_own.ended responder_own_reads.Learnt
  pub responder_peer : Determined responder_peer.ended responder_peer_reads.Learnt
  pub row : Determined row.ended row_reads.Learnt

pub determined : Calls
determined =
    record {
      responder_from_parts = fixed (λ κs a u v. refl);
      responder_new = seen (λ κs. made_injective) (λ κs a u v. refl);
      head_hear =
          record {
            one = λ κs a m n.
                let all = parts_injective _ _ _ _ _ _ (same m.meets n.meets) in
                (all.0, λ i. (tt, (tt, (tt, (all.1.1 i, tt)))));
          };
      head_answer =
          record {
            one = λ κs a m n.
                let all = parts_injective _ _ _ _ _ _ (same m.meets n.meets) in
                (all.0, λ i. (tt, (all.1.0 i, (tt, (all.1.1 i, tt)))));
          };
      responder_hear = turned (λ κs. turn_injective) (λ κs a u v p i. (tt, (tt, (p i, tt))));
      responder_answer = turned (λ κs. turn_injective) (λ κs a u v p i. (tt, (tt, (p i, tt))));
      responder_restart = fixed (λ κs a u v. refl);
      responder_own = fixed (λ κs a u v. refl);
      responder_peer = fixed (λ κs a u v. refl);
      row = fixed (λ κs a u v. refl);
    }
