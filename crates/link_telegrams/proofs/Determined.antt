-- No second outcome fits the promise of a public call of `link_telegrams`: two outcomes that its promise allows are the same.
use mathlib.Core.Path.{refl}
use Rattle.ground.proofs.DeterminedLaws.{fixed}
use Rattle.ground.specs.Determined.{Determined}
use Rattle.link_telegrams.specs.contracts.headers.Bit.cycle as bit_cycle
use Rattle.link_telegrams.proofs.headers.Bit.cycle.Reads as bit_cycle_reads
use Rattle.link_telegrams.specs.contracts.headers.Bit.frame_count_bit as bit_frame_count_bit
use Rattle.link_telegrams.proofs.headers.Bit.frame_count_bit.Reads as bit_frame_count_bit_reads
use Rattle.link_telegrams.specs.contracts.headers.ok_header as ok_header
use Rattle.link_telegrams.proofs.headers.ok_header.Reads as ok_header_reads
use Rattle.link_telegrams.specs.contracts.headers.opening_header as opening_header
use Rattle.link_telegrams.proofs.headers.opening_header.Reads as opening_header_reads
use Rattle.link_telegrams.specs.contracts.headers.order_header as order_header
use Rattle.link_telegrams.proofs.headers.order_header.Reads as order_header_reads
use Rattle.link_telegrams.specs.contracts.headers.reply_header as reply_header
use Rattle.link_telegrams.proofs.headers.reply_header.Reads as reply_header_reads
use Rattle.link_telegrams.specs.contracts.heard.reply_heard as reply_heard
use Rattle.link_telegrams.proofs.heard.reply_heard.Reads as reply_heard_reads
use Rattle.link_telegrams.specs.contracts.heard.request_heard as request_heard
use Rattle.link_telegrams.proofs.heard.request_heard.Reads as request_heard_reads
use Rattle.link_telegrams.specs.contracts.heard.request_to as request_to
use Rattle.link_telegrams.proofs.heard.request_to.Reads as request_to_reads

pub record Calls : Type 0 where
  pub bit_frame_count_bit : Determined bit_frame_count_bit.ended bit_frame_count_bit_reads.Learnt
  pub bit_cycle : Determined bit_cycle.ended bit_cycle_reads.Learnt
  pub opening_header : Determined opening_header.ended opening_header_reads.Learnt
  pub order_header : Determined order_header.ended order_header_reads.Learnt
  pub ok_header : Determined ok_header.ended ok_header_reads.Learnt
  pub reply_header : Determined reply_header.ended reply_header_reads.Learnt
  pub request_to : Determined request_to.ended request_to_reads.Learnt
  pub request_heard : Determined request_heard.ended request_heard_reads.Learnt
  pub reply_heard : Determined reply_heard.ended reply_heard_reads.Learnt

pub determined : Calls
determined =
    record {
      bit_frame_count_bit = fixed (λ κs a u v. refl);
      bit_cycle = fixed (λ κs a u v. refl);
      opening_header = fixed (λ κs a u v. refl);
      order_header = fixed (λ κs a u v. refl);
      ok_header = fixed (λ κs a u v. refl);
      reply_header = fixed (λ κs a u v. refl);
      request_to = fixed (λ κs a u v. refl);
      request_heard = fixed (λ κs a u v. refl);
      reply_heard = fixed (λ κs a u v. refl);
    }
