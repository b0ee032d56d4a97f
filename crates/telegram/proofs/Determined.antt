-- No second outcome fits the promise of a public call of `telegram`: two outcomes that its promise allows are the same.
use mathlib.Core.Path.{refl}
use Rattle.ground.proofs.DeterminedLaws.{fixed, same, seen, shows}
use Rattle.ground.specs.Determined.{Determined, ShownDetermined}
use Rattle.telegram.proofs.FrameLaws.{shown_frame_injective}
use Rattle.telegram.proofs.ReadingLaws.{shown_reading_injective}
use Rattle.telegram.specs.contracts.frame.Frame.is_sealed as is_sealed
use Rattle.telegram.proofs.frame.Frame.is_sealed.Reads as is_sealed_reads
use Rattle.telegram.specs.contracts.frame.frame_of as frame_of
use Rattle.telegram.proofs.frame.frame_of.Reads as frame_of_reads
use Rattle.telegram.specs.contracts.kinds.DataTelegram.is_fdl_status_request as is_fdl_status_request
use Rattle.telegram.proofs.kinds.DataTelegram.is_fdl_status_request.Reads as is_fdl_status_request_reads
use Rattle.telegram.specs.contracts.kinds.DataTelegram.is_response as is_response
use Rattle.telegram.proofs.kinds.DataTelegram.is_response.Reads as is_response_reads
use Rattle.telegram.specs.contracts.kinds.DataTelegram.pdu as pdu
use Rattle.telegram.proofs.kinds.DataTelegram.pdu.Reads as pdu_reads
use Rattle.telegram.specs.contracts.kinds.Telegram.deserialize as deserialize
use Rattle.telegram.proofs.kinds.Telegram.deserialize.Reads as deserialize_reads
use Rattle.telegram.specs.contracts.kinds.Telegram.destination_address as destination_address
use Rattle.telegram.proofs.kinds.Telegram.destination_address.Reads as destination_address_reads
use Rattle.telegram.specs.contracts.kinds.Telegram.source_address as source_address
use Rattle.telegram.proofs.kinds.Telegram.source_address.Reads as source_address_reads
use Rattle.telegram.specs.contracts.kinds.TokenTelegram.new as new_token
use Rattle.telegram.proofs.kinds.TokenTelegram.new.Reads as new_token_reads

pub record Calls : Type 0 where
  pub deserialize : Determined deserialize.ended deserialize_reads.Learnt
  pub frame_of : Determined frame_of.ended frame_of_reads.Learnt
  pub is_sealed : Determined is_sealed.ended is_sealed_reads.Learnt
  pub pdu : ShownDetermined pdu.ended (λ κs. (λ x. x.now)) pdu_reads.Learnt
  pub is_fdl_status_request : Determined is_fdl_status_request.ended is_fdl_status_request_reads.Learnt
  pub is_response : Determined is_response.ended is_response_reads.Learnt
  pub source_address : Determined source_address.ended source_address_reads.Learnt
  pub destination_address : Determined destination_address.ended destination_address_reads.Learnt
  pub new_token : Determined new_token.ended new_token_reads.Learnt

pub determined : Calls
determined =
    record {
      deserialize = seen (λ κs. shown_reading_injective) (λ κs a u v. refl);
      frame_of = seen (λ κs. shown_frame_injective) (λ κs a u v. refl);
      is_sealed = fixed (λ κs a u v. refl);
      pdu = shows (λ κs a u v. refl);
      is_fdl_status_request = fixed (λ κs a u v. refl);
      is_response = fixed (λ κs a u v. refl);
      source_address = fixed (λ κs a u v. refl);
      destination_address = fixed (λ κs a u v. refl);
      new_token = record { one = λ κs a m n. (λ i. record { da = same m.meets.0 n.meets.0 i; sa = same m.meets.1 n.meets.1 i }, refl) };
    }
