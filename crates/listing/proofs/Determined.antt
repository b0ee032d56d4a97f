-- No second outcome fits the promise of a public call of `listing`: two outcomes that its promise allows are the same.
use mathlib.Core.Path.{refl}
use Rattle.ground.proofs.DeterminedLaws.{gives, shows}
use Rattle.ground.specs.Determined.{Determined, ShownDetermined}
use Rattle.listing.proofs.AnswerLaws.{shown_listed_injective}
use Rattle.listing.specs.contracts.whole.text as text
use Rattle.listing.proofs.whole.text.Reads as text_reads
use Rattle.listing.specs.contracts.whole.list as list
use Rattle.listing.proofs.whole.list.Reads as list_reads
use Rattle.listing.specs.contracts.whole.list_in as list_in
use Rattle.listing.proofs.whole.list_in.Reads as list_in_reads
use Rattle.listing.specs.contracts.whole.output as output
use Rattle.listing.proofs.whole.output.Reads as output_reads
use Rattle.listing.specs.contracts.whole.output_in as output_in
use Rattle.listing.proofs.whole.output_in.Reads as output_in_reads

pub record Calls : Type 0 where
  pub list : Determined list.ended list_reads.Learnt
  pub list_in : Determined list_in.ended list_in_reads.Learnt
  pub output_in : Determined output_in.ended output_in_reads.Learnt
  pub output : Determined output.ended output_reads.Learnt
  pub text : ShownDetermined text.ended (λ κs. (λ x. x.now)) text_reads.Learnt

pub determined : Calls
determined =
    record {
      list = gives (λ κs a x e p. (p.result, p.buffer)) (λ κs. shown_listed_injective) (λ κs a u v p i. (tt, (p i, tt)));
      list_in = gives (λ κs a x e p. (p.result, p.buffer)) (λ κs. shown_listed_injective) (λ κs a u v p i. (tt, (tt, (p i, tt))));
      output_in = gives (λ κs a x e p. (p.result, p.buffer)) (λ κs. shown_listed_injective) (λ κs a u v p i. (tt, (tt, (p i, tt))));
      output = gives (λ κs a x e p. (p.result, p.buffer)) (λ κs. shown_listed_injective) (λ κs a u v p i. (tt, (p i, tt)));
      text = shows (λ κs a u v. refl);
    }
