-- No second outcome fits the promise of a public call of `exports_guarded`: two outcomes that its promise allows are the same.
use Rattle.exports_guarded.specs.contracts.guarded_initiator.koy_guarded_initiator_hear as koy_guarded_initiator_hear
use Rattle.exports_guarded.proofs.guarded_initiator.koy_guarded_initiator_hear.Reads as koy_guarded_initiator_hear_reads
use Rattle.exports_guarded.specs.contracts.guarded_initiator.koy_guarded_initiator_new as koy_guarded_initiator_new
use Rattle.exports_guarded.proofs.guarded_initiator.koy_guarded_initiator_new.Reads as koy_guarded_initiator_new_reads
use Rattle.exports_guarded.specs.contracts.guarded_initiator.koy_guarded_initiator_silence as koy_guarded_initiator_silence
use Rattle.exports_guarded.proofs.guarded_initiator.koy_guarded_initiator_silence.Reads as koy_guarded_initiator_silence_reads
use Rattle.exports_guarded.specs.contracts.guarded_initiator.koy_guarded_initiator_submit as koy_guarded_initiator_submit
use Rattle.exports_guarded.proofs.guarded_initiator.koy_guarded_initiator_submit.Reads as koy_guarded_initiator_submit_reads
use Rattle.exports_guarded.specs.contracts.guarded_responder.koy_guarded_responder_answer as koy_guarded_responder_answer
use Rattle.exports_guarded.proofs.guarded_responder.koy_guarded_responder_answer.Reads as koy_guarded_responder_answer_reads
use Rattle.exports_guarded.specs.contracts.guarded_responder.koy_guarded_responder_hear as koy_guarded_responder_hear
use Rattle.exports_guarded.proofs.guarded_responder.koy_guarded_responder_hear.Reads as koy_guarded_responder_hear_reads
use Rattle.exports_guarded.specs.contracts.guarded_responder.koy_guarded_responder_new as koy_guarded_responder_new
use Rattle.exports_guarded.proofs.guarded_responder.koy_guarded_responder_new.Reads as koy_guarded_responder_new_reads
use Rattle.ground.proofs.DeterminedLaws.{together}
use Rattle.ground.specs.Determined.{Determined}

pub record Calls : Type 0 where
  pub koy_guarded_initiator_new : Determined koy_guarded_initiator_new.ended koy_guarded_initiator_new_reads.Learnt
  pub koy_guarded_initiator_submit : Determined koy_guarded_initiator_submit.ended koy_guarded_initiator_submit_reads.Learnt
  pub koy_guarded_initiator_silence : Determined koy_guarded_initiator_silence.ended koy_guarded_initiator_silence_reads.Learnt
  pub koy_guarded_initiator_hear : Determined koy_guarded_initiator_hear.ended koy_guarded_initiator_hear_reads.Learnt
  pub koy_guarded_responder_new : Determined koy_guarded_responder_new.ended koy_guarded_responder_new_reads.Learnt
  pub koy_guarded_responder_hear : Determined koy_guarded_responder_hear.ended koy_guarded_responder_hear_reads.Learnt
  pub koy_guarded_responder_answer : Determined koy_guarded_responder_answer.ended koy_guarded_responder_answer_reads.Learnt

pub determined : Calls
determined =
    record {
      koy_guarded_initiator_new = together (λ κs a x y u v e. (λ i. (e i).code, λ i. ((e i).state, ((e i).guard, (tt, (tt, (tt, (tt, tt))))))));
      koy_guarded_initiator_submit =
          together (λ κs a x y u v e. (λ i. (e i).code, λ i. ((e i).state, ((e i).guard, (tt, (tt, ((e i).buffer, ((e i).told, tt))))))));
      koy_guarded_initiator_silence =
          together (λ κs a x y u v e. (λ i. (e i).code, λ i. ((e i).state, ((e i).guard, (tt, ((e i).buffer, ((e i).told, tt)))))));
      koy_guarded_initiator_hear =
          together (λ κs a x y u v e. (λ i. (e i).code, λ i. ((e i).state, ((e i).guard, (tt, (tt, (tt, ((e i).buffer, ((e i).told, tt)))))))));
      koy_guarded_responder_new = together (λ κs a x y u v e. (λ i. (e i).code, λ i. ((e i).state, ((e i).guard, (tt, (tt, (tt, tt)))))));
      koy_guarded_responder_hear =
          together (λ κs a x y u v e. (λ i. (e i).code, λ i. ((e i).state, ((e i).guard, (tt, (tt, (tt, ((e i).buffer, ((e i).told, tt)))))))));
      koy_guarded_responder_answer =
          together (λ κs a x y u v e. (λ i. (e i).code, λ i. ((e i).state, ((e i).guard, (tt, (tt, (tt, ((e i).buffer, ((e i).told, tt)))))))));
    }
