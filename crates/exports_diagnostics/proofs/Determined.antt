-- No second outcome fits the promise of a public call of `exports_diagnostics`: two outcomes that its promise allows are the same.
use mathlib.Core.Path.{refl}
use Rattle.exports_diagnostics.specs.contracts.koy_diagnostics_fill as koy_diagnostics_fill
use Rattle.exports_diagnostics.proofs.koy_diagnostics_fill.Reads as koy_diagnostics_fill_reads
use Rattle.exports_diagnostics.specs.contracts.koy_diagnostics_module as koy_diagnostics_module
use Rattle.exports_diagnostics.proofs.koy_diagnostics_module.Reads as koy_diagnostics_module_reads
use Rattle.exports_diagnostics.specs.contracts.koy_diagnostics_step as koy_diagnostics_step
use Rattle.exports_diagnostics.proofs.koy_diagnostics_step.Reads as koy_diagnostics_step_reads
use Rattle.ground.proofs.DeterminedLaws.{fixed, together}
use Rattle.ground.specs.Determined.{Determined}

pub record Calls : Type 0 where
  pub koy_diagnostics_step : Determined koy_diagnostics_step.ended koy_diagnostics_step_reads.Learnt
  pub koy_diagnostics_fill : Determined koy_diagnostics_fill.ended koy_diagnostics_fill_reads.Learnt
  pub koy_diagnostics_module : Determined koy_diagnostics_module.ended koy_diagnostics_module_reads.Learnt

pub determined : Calls
determined =
    record {
      koy_diagnostics_step = together (λ κs a x y u v e. (λ i. (e i).code, λ i. (tt, (tt, ((e i).cursor, ((e i).told, tt))))));
      koy_diagnostics_fill = together (λ κs a x y u v e. (λ i. (e i).answer, λ i. ((e i).store, ((e i).walked, (tt, tt)))));
      koy_diagnostics_module = fixed (λ κs a u v. refl);
    }
