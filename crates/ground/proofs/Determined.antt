-- No second outcome fits the promise of a public call of `ground`: two outcomes that its promise allows are the same.
use mathlib.Core.Path.{refl}
use Rattle.ground.proofs.DeterminedLaws.{fixed, left, shows}
use Rattle.ground.specs.contracts.buffers.copy_to_front as copy_to_front
use Rattle.ground.proofs.buffers.copy_to_front.Reads as copy_to_front_reads
use Rattle.ground.specs.contracts.part.Part.show as show
use Rattle.ground.proofs.part.Part.show.Reads as show_reads
use Rattle.ground.specs.contracts.refusal.answer_number as answer_number
use Rattle.ground.proofs.refusal.answer_number.Reads as answer_number_reads
use Rattle.ground.specs.contracts.refusal.Refusal.number as refusal_number
use Rattle.ground.proofs.refusal.Refusal.number.Reads as refusal_number_reads
use Rattle.ground.specs.Determined.{Determined, ShownDetermined}

pub record Calls : Type 0 where
  pub show : ShownDetermined show.ended (λ κs. (λ x. x.now)) show_reads.Learnt
  pub answer_number : Determined answer_number.ended answer_number_reads.Learnt
  pub refusal_number : Determined refusal_number.ended refusal_number_reads.Learnt
  pub copy_to_front : Determined copy_to_front.ended copy_to_front_reads.Learnt

pub determined : Calls
determined =
    record {
      show = shows (λ κs a u v. refl);
      answer_number = fixed (λ κs a u v. refl);
      refusal_number = fixed (λ κs a u v. refl);
      copy_to_front = left (λ κs x y. refl) (λ κs a u v p i. (tt, (p i, tt)));
    }
