-- No second outcome fits the promise of a public call of `link_numbers`: two outcomes that its promise allows are the same.
use mathlib.Core.Path.{refl}
use Rattle.ground.proofs.DeterminedLaws.{fixed}
use Rattle.ground.specs.Determined.{Determined}
use Rattle.link_numbers.specs.contracts.phases.phase_number as phase_number
use Rattle.link_numbers.proofs.phases.phase_number.Reads as phase_number_reads
use Rattle.link_numbers.specs.contracts.phases.phase_of as phase_of
use Rattle.link_numbers.proofs.phases.phase_of.Reads as phase_of_reads
use Rattle.link_numbers.specs.contracts.states.state_number as state_number
use Rattle.link_numbers.proofs.states.state_number.Reads as state_number_reads
use Rattle.link_numbers.specs.contracts.states.state_of as state_of
use Rattle.link_numbers.proofs.states.state_of.Reads as state_of_reads

pub record Calls : Type 0 where
  pub phase_number : Determined phase_number.ended phase_number_reads.Learnt
  pub phase_of : Determined phase_of.ended phase_of_reads.Learnt
  pub state_number : Determined state_number.ended state_number_reads.Learnt
  pub state_of : Determined state_of.ended state_of_reads.Learnt

pub determined : Calls
determined =
    record {
      phase_number = fixed (λ κs a u v. refl);
      phase_of = fixed (λ κs a u v. refl);
      state_number = fixed (λ κs a u v. refl);
      state_of = fixed (λ κs a u v. refl);
    }
