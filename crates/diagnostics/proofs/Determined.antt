-- No second outcome fits the promise of a public call of `diagnostics`: two outcomes that its promise allows are the same.
use mathlib.Core.Path.{refl}
use Rattle.diagnostics.proofs.Shows.{shown_step_injective}
use Rattle.diagnostics.specs.contracts.store.ExtendedDiagnostics.fill as fill
use Rattle.diagnostics.proofs.store.ExtendedDiagnostics.fill.Reads as fill_reads
use Rattle.diagnostics.specs.contracts.store.ExtendedDiagnostics.from_buffer as from_buffer
use Rattle.diagnostics.proofs.store.ExtendedDiagnostics.from_buffer.Reads as from_buffer_reads
use Rattle.diagnostics.specs.contracts.store.ExtendedDiagnostics.is_available as is_available
use Rattle.diagnostics.proofs.store.ExtendedDiagnostics.is_available.Reads as is_available_reads
use Rattle.diagnostics.specs.contracts.store.ExtendedDiagnostics.iter_diag_blocks as iter_diag_blocks
use Rattle.diagnostics.proofs.store.ExtendedDiagnostics.iter_diag_blocks.Reads as iter_diag_blocks_reads
use Rattle.diagnostics.specs.contracts.store.ExtendedDiagnostics.raw_diag_buffer as raw_diag_buffer
use Rattle.diagnostics.proofs.store.ExtendedDiagnostics.raw_diag_buffer.Reads as raw_diag_buffer_reads
use Rattle.diagnostics.specs.contracts.store.ExtendedDiagnostics.take_buffer as take_buffer
use Rattle.diagnostics.proofs.store.ExtendedDiagnostics.take_buffer.Reads as take_buffer_reads
use Rattle.diagnostics.specs.contracts.walk.ExtDiagBlockIter.next as next
use Rattle.diagnostics.proofs.walk.ExtDiagBlockIter.next.Reads as next_reads
use Rattle.ground.proofs.DeterminedLaws.{fixed, seen, shows, turned}
use Rattle.ground.specs.Determined.{Determined, ShownDetermined}

pub record Calls : Type 0 where
  pub from_buffer : Determined from_buffer.ended from_buffer_reads.Learnt
  pub take_buffer : Determined take_buffer.ended take_buffer_reads.Learnt
  pub iter_diag_blocks : Determined iter_diag_blocks.ended iter_diag_blocks_reads.Learnt
  pub is_available : Determined is_available.ended is_available_reads.Learnt
  pub raw_diag_buffer : ShownDetermined raw_diag_buffer.ended (λ κs. (λ x. x.now)) raw_diag_buffer_reads.Learnt
  pub fill : Determined fill.ended fill_reads.Learnt
  pub next : Determined next.ended next_reads.Learnt

pub determined : Calls
determined =
    record {
      from_buffer = seen (λ κs x y e i. record { length = e i }) (λ κs a u v. refl);
      take_buffer = seen (λ κs x y e i. record { length = e i }) (λ κs a u v. refl);
      iter_diag_blocks = seen (λ κs x y e i. record { cursor = e i }) (λ κs a u v. refl);
      is_available = fixed (λ κs a u v. refl);
      raw_diag_buffer = shows (λ κs a u v. refl);
      fill = turned (λ κs x y b c e. (λ i. record { answer = (e i).answer; after = record { length = (e i).walked } }, λ i. (e i).store)) (λ κs a u v p i. (tt, (p i, (tt, tt))));
      next = seen (λ κs. shown_step_injective) (λ κs a u v. refl);
    }
