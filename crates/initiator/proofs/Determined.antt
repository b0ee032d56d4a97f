-- No second outcome fits the promise of a public call of `initiator`: two outcomes that its promise allows are the same.
use mathlib.Core.List.{[]}
use mathlib.Core.Path.{refl}
use Rattle.initiator.proofs.ShownLaws.{made_injective, parts_injective, turn_injective}
use Rattle.ground.proofs.DeterminedLaws.{same, fixed, seen, turned}
use Rattle.ground.specs.Determined.{Determined}
use Rattle.initiator.specs.contracts.head.InitiatorHead.hear as head_hear
use Rattle.initiator.proofs.head.InitiatorHead.hear.Reads as head_hear_reads
use Rattle.initiator.specs.contracts.head.InitiatorHead.order_len as head_order_len
use Rattle.initiator.proofs.head.InitiatorHead.order_len.Reads as head_order_len_reads
use Rattle.initiator.specs.contracts.head.InitiatorHead.restart as head_restart
use Rattle.initiator.proofs.head.InitiatorHead.restart.Reads as head_restart_reads
use Rattle.initiator.specs.contracts.head.InitiatorHead.silence as head_silence
use Rattle.initiator.proofs.head.InitiatorHead.silence.Reads as head_silence_reads
use Rattle.initiator.specs.contracts.head.InitiatorHead.submit as head_submit
use Rattle.initiator.proofs.head.InitiatorHead.submit.Reads as head_submit_reads
use Rattle.initiator.specs.contracts.state.Initiator.hear as initiator_hear
use Rattle.initiator.proofs.state.Initiator.hear.Reads as initiator_hear_reads
use Rattle.initiator.specs.contracts.state.Initiator.new as initiator_new
use Rattle.initiator.proofs.state.Initiator.new.Reads as initiator_new_reads
use Rattle.initiator.specs.contracts.state.Initiator.order as order
use Rattle.initiator.proofs.state.Initiator.order.Reads as order_reads
use Rattle.initiator.specs.contracts.state.Initiator.order_len as order_len
use Rattle.initiator.proofs.state.Initiator.order_len.Reads as order_len_reads
use Rattle.initiator.specs.contracts.state.Initiator.own as initiator_own
use Rattle.initiator.proofs.state.Initiator.own.Reads as initiator_own_reads
use Rattle.initiator.specs.contracts.state.Initiator.peer as initiator_peer
use Rattle.initiator.proofs.state.Initiator.peer.Reads as initiator_peer_reads
use Rattle.initiator.specs.contracts.state.Initiator.phase as phase
use Rattle.initiator.proofs.state.Initiator.phase.Reads as phase_reads
use Rattle.initiator.specs.contracts.state.Initiator.restart as initiator_restart
use Rattle.initiator.proofs.state.Initiator.restart.Reads as initiator_restart_reads
use Rattle.initiator.specs.contracts.state.Initiator.silence as silence
use Rattle.initiator.proofs.state.Initiator.silence.Reads as silence_reads
use Rattle.initiator.specs.contracts.state.Initiator.submit as submit
use Rattle.initiator.proofs.state.Initiator.submit.Reads as submit_reads
use Rattle.initiator.specs.contracts.state.Initiator.tries as tries
use Rattle.initiator.proofs.state.Initiator.tries.Reads as tries_reads
use Rattle.initiator.specs.contracts.state.Initiator.with_default_tries as with_default_tries
use Rattle.initiator.proofs.state.Initiator.with_default_tries.Reads as with_default_tries_reads
use Rattle.initiator.specs.contracts.state.Phase.frame_count_bit as phase_frame_count_bit
use Rattle.initiator.proofs.state.Phase.frame_count_bit.Reads as phase_frame_count_bit_reads
use Rattle.initiator.specs.contracts.state.Phase.is_pending as is_pending
use Rattle.initiator.proofs.state.Phase.is_pending.Reads as is_pending_reads
use Rattle.initiator.specs.contracts.state.Phase.tries_used as tries_used
use Rattle.initiator.proofs.state.Phase.tries_used.Reads as tries_used_reads

pub record Calls : Type 0 where
  pub initiator_new : Determined initiator_new.ended initiator_new_reads.Learnt
  pub with_default_tries : Determined with_default_tries.ended with_default_tries_reads.Learnt
  pub head_submit : Determined head_submit.ended head_submit_reads.Learnt
  pub head_silence : Determined head_silence.ended head_silence_reads.Learnt
  pub head_hear : Determined head_hear.ended head_hear_reads.Learnt
  pub head_restart : Determined head_restart.ended head_restart_reads.Learnt
  pub head_order_len : Determined head_order_len.ended head_order_len_reads.Learnt
  pub submit : Determined submit.ended submit_reads.Learnt
  pub silence : Determined silence.ended silence_reads.Learnt
  pub initiator_hear : Determined initiator_hear.ended initiator_hear_reads.Learnt
  pub initiator_restart : Determined initiator_restart.ended initiator_restart_reads.Learnt
  pub order : Determined order.ended order_reads.Learnt
  pub initiator_own : Determined initiator_own.ended initiator_own_reads.Learnt
  pub initiator_peer : Determined initiator_peer.ended initiator_peer_reads.Learnt
  pub tries : Determined tries.ended tries_reads.Learnt
  pub phase : Determined phase.ended phase_reads.Learnt
  pub order_len : Determined order_len.ended order_len_reads.Learnt
  pub is_pending : Determined is_pending.ended is_pending_reads.Learnt
  pub tries_used : Determined tries_used.ended tries_used_reads.Learnt
  pub phase_frame_count_bit : Determined phase_frame_count_bit.ended phase_frame_count_bit_reads.Learnt

pub determined : Calls
determined =
    record {
      initiator_new = seen (λ κs. made_injective) (λ κs a u v. refl);
      with_default_tries = seen (λ κs. made_injective) (λ κs a u v. refl);
      head_submit =
          record {
            one = λ κs a m n.
                let all = parts_injective a.0 _ _ _ _ _ _ (same m.meets n.meets) in
                (all.0, λ i. (tt, (all.1.0 i, (tt, (all.1.1 i, tt)))));
          };
      head_silence =
          record {
            one = λ κs a m n.
                let all = parts_injective a.0 _ _ _ _ _ _ (same m.meets n.meets) in
                (all.0, λ i. (tt, (tt, (all.1.1 i, tt))));
          };
      head_hear =
          record {
            one = λ κs a m n.
                let all = parts_injective a.0 _ _ _ _ _ _ (same m.meets n.meets) in
                (all.0, λ i. (tt, (tt, (tt, (all.1.1 i, tt)))));
          };
      head_restart =
          record {
            one = λ κs a m n. ((parts_injective a.0 _ _ [] [] [] [] (same (m.meets []) (n.meets []))).0, refl);
          };
      head_order_len = record { one = λ κs a m n. (same (m.meets []) (n.meets []), refl) };
      submit = turned (λ κs. turn_injective) (λ κs a u v p i. (tt, (tt, (p i, tt))));
      silence = turned (λ κs. turn_injective) (λ κs a u v p i. (tt, (p i, tt)));
      initiator_hear = turned (λ κs. turn_injective) (λ κs a u v p i. (tt, (tt, (p i, tt))));
      initiator_restart = seen (λ κs x y e. (turn_injective x y [] [] e).0) (λ κs a u v. refl);
      order = fixed (λ κs a u v. refl);
      initiator_own = fixed (λ κs a u v. refl);
      initiator_peer = fixed (λ κs a u v. refl);
      tries = fixed (λ κs a u v. refl);
      phase = fixed (λ κs a u v. refl);
      order_len = fixed (λ κs a u v. refl);
      is_pending = fixed (λ κs a u v. refl);
      tries_used = fixed (λ κs a u v. refl);
      phase_frame_count_bit = fixed (λ κs a u v. refl);
    }
