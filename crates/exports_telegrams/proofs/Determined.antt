-- No second outcome fits the promise of a public call of `exports_telegrams`: two outcomes that its promise allows are the same.
use Rattle.exports_telegrams.specs.contracts.reading.koy_read as koy_read
use Rattle.exports_telegrams.proofs.reading.koy_read.Reads as koy_read_reads
use Rattle.exports_telegrams.specs.contracts.writing.koy_write_confirmation as koy_write_confirmation
use Rattle.exports_telegrams.proofs.writing.koy_write_confirmation.Reads as koy_write_confirmation_reads
use Rattle.exports_telegrams.specs.contracts.writing.koy_write_data as koy_write_data
use Rattle.exports_telegrams.proofs.writing.koy_write_data.Reads as koy_write_data_reads
use Rattle.exports_telegrams.specs.contracts.writing.koy_write_token as koy_write_token
use Rattle.exports_telegrams.proofs.writing.koy_write_token.Reads as koy_write_token_reads
use Rattle.ground.proofs.DeterminedLaws.{together}
use Rattle.ground.specs.Determined.{Determined}

pub record Calls : Type 0 where
  pub koy_read : Determined koy_read.ended koy_read_reads.Learnt
  pub koy_write_data : Determined koy_write_data.ended koy_write_data_reads.Learnt
  pub koy_write_token : Determined koy_write_token.ended koy_write_token_reads.Learnt
  pub koy_write_confirmation : Determined koy_write_confirmation.ended koy_write_confirmation_reads.Learnt

pub determined : Calls
determined =
    record {
      koy_read = together (λ κs a x y u v e. (λ i. (e i).code, λ i. (tt, ((e i).told, tt))));
      koy_write_data = together (λ κs a x y u v e. (λ i. (e i).code, λ i. (tt, (tt, (tt, (tt, (tt, (tt, ((e i).buffer, ((e i).told, tt))))))))));
      koy_write_token = together (λ κs a x y u v e. (λ i. (e i).code, λ i. (tt, (tt, ((e i).buffer, tt)))));
      koy_write_confirmation = together (λ κs a x y u v e. (λ i. (e i).code, λ i. ((e i).buffer, tt)));
    }
