-- No second outcome fits the promise of a public call of `exports_link`: two outcomes that its promise allows are the same.
use mathlib.Core.Path.{refl}
use Rattle.exports_link.specs.contracts.initiator_end.koy_initiator_hear as koy_initiator_hear
use Rattle.exports_link.proofs.initiator_end.koy_initiator_hear.Reads as koy_initiator_hear_reads
use Rattle.exports_link.specs.contracts.initiator_end.koy_initiator_new as koy_initiator_new
use Rattle.exports_link.proofs.initiator_end.koy_initiator_new.Reads as koy_initiator_new_reads
use Rattle.exports_link.specs.contracts.initiator_end.koy_initiator_restart as koy_initiator_restart
use Rattle.exports_link.proofs.initiator_end.koy_initiator_restart.Reads as koy_initiator_restart_reads
use Rattle.exports_link.specs.contracts.initiator_end.koy_initiator_silence as koy_initiator_silence
use Rattle.exports_link.proofs.initiator_end.koy_initiator_silence.Reads as koy_initiator_silence_reads
use Rattle.exports_link.specs.contracts.initiator_end.koy_initiator_submit as koy_initiator_submit
use Rattle.exports_link.proofs.initiator_end.koy_initiator_submit.Reads as koy_initiator_submit_reads
use Rattle.exports_link.specs.contracts.responder_end.koy_responder_answer as koy_responder_answer
use Rattle.exports_link.proofs.responder_end.koy_responder_answer.Reads as koy_responder_answer_reads
use Rattle.exports_link.specs.contracts.responder_end.koy_responder_hear as koy_responder_hear
use Rattle.exports_link.proofs.responder_end.koy_responder_hear.Reads as koy_responder_hear_reads
use Rattle.exports_link.specs.contracts.responder_end.koy_responder_new as koy_responder_new
use Rattle.exports_link.proofs.responder_end.koy_responder_new.Reads as koy_responder_new_reads
use Rattle.exports_link.specs.contracts.responder_end.koy_responder_restart as koy_responder_restart
use Rattle.exports_link.proofs.responder_end.koy_responder_restart.Reads as koy_responder_restart_reads
use Rattle.ground.proofs.DeterminedLaws.{left, together}
use Rattle.ground.specs.Determined.{Determined}

pub record Calls : Type 0 where
  pub koy_initiator_new : Determined koy_initiator_new.ended koy_initiator_new_reads.Learnt
  pub koy_initiator_submit : Determined koy_initiator_submit.ended koy_initiator_submit_reads.Learnt
  pub koy_initiator_silence : Determined koy_initiator_silence.ended koy_initiator_silence_reads.Learnt
  pub koy_initiator_hear : Determined koy_initiator_hear.ended koy_initiator_hear_reads.Learnt
  pub koy_initiator_restart : Determined koy_initiator_restart.ended koy_initiator_restart_reads.Learnt
  pub koy_responder_new : Determined koy_responder_new.ended koy_responder_new_reads.Learnt
  pub koy_responder_hear : Determined koy_responder_hear.ended koy_responder_hear_reads.Learnt
  pub koy_responder_answer : Determined koy_responder_answer.ended koy_responder_answer_reads.Learnt
  pub koy_responder_restart : Determined koy_responder_restart.ended koy_responder_restart_reads.Learnt

pub determined : Calls
determined =
    record {
      koy_initiator_new = together (λ κs a x y u v e. (λ i. (e i).code, λ i. ((e i).state, (tt, (tt, (tt, tt))))));
      koy_initiator_submit = together (λ κs a x y u v e. (λ i. (e i).code, λ i. ((e i).state, (tt, ((e i).buffer, ((e i).told, tt))))));
      koy_initiator_silence = together (λ κs a x y u v e. (λ i. (e i).code, λ i. ((e i).state, ((e i).buffer, ((e i).told, tt)))));
      koy_initiator_hear = together (λ κs a x y u v e. (λ i. (e i).code, λ i. ((e i).state, (tt, ((e i).buffer, ((e i).told, tt))))));
      koy_initiator_restart = together (λ κs a x y u v e. (λ i. (e i).code, λ i. ((e i).state, ((e i).told, tt))));
      koy_responder_new = together (λ κs a x y u v e. (λ i. (e i).code, λ i. ((e i).state, (tt, (tt, tt)))));
      koy_responder_hear = together (λ κs a x y u v e. (λ i. (e i).code, λ i. ((e i).state, (tt, ((e i).buffer, ((e i).told, tt))))));
      koy_responder_answer = together (λ κs a x y u v e. (λ i. (e i).code, λ i. ((e i).state, (tt, ((e i).buffer, ((e i).told, tt))))));
      koy_responder_restart = left (λ κs x y. refl) (λ κs a u v p i. (p i, tt));
    }
