-- No second outcome fits the promise of a public call of `telegram_tx`: two outcomes that its promise allows are the same.
use mathlib.Core.Path.{refl}
use Rattle.ground.proofs.DeterminedLaws.{fixed, wrote}
use Rattle.ground.specs.Determined.{Determined}
use Rattle.telegram_tx.proofs.WritingLaws.{shown_writing_injective}
use Rattle.telegram_tx.specs.contracts.tx.TelegramTxResponse.bytes_sent as bytes_sent
use Rattle.telegram_tx.proofs.tx.TelegramTxResponse.bytes_sent.Reads as bytes_sent_reads
use Rattle.telegram_tx.specs.contracts.tx.TelegramTxResponse.expects_reply as expects_reply
use Rattle.telegram_tx.proofs.tx.TelegramTxResponse.expects_reply.Reads as expects_reply_reads
use Rattle.telegram_tx.specs.contracts.tx.TelegramTxResponse.new as new_response
use Rattle.telegram_tx.proofs.tx.TelegramTxResponse.new.Reads as new_response_reads
use Rattle.telegram_tx.specs.contracts.tx.send_coded_telegram as send_coded_telegram
use Rattle.telegram_tx.proofs.tx.send_coded_telegram.Reads as send_coded_telegram_reads
use Rattle.telegram_tx.specs.contracts.tx.send_data_telegram as send_data_telegram
use Rattle.telegram_tx.proofs.tx.send_data_telegram.Reads as send_data_telegram_reads
use Rattle.telegram_tx.specs.contracts.tx.send_fdl_status_request as send_fdl_status_request
use Rattle.telegram_tx.proofs.tx.send_fdl_status_request.Reads as send_fdl_status_request_reads
use Rattle.telegram_tx.specs.contracts.tx.send_fdl_status_response as send_fdl_status_response
use Rattle.telegram_tx.proofs.tx.send_fdl_status_response.Reads as send_fdl_status_response_reads
use Rattle.telegram_tx.specs.contracts.tx.send_short_confirmation as send_short_confirmation
use Rattle.telegram_tx.proofs.tx.send_short_confirmation.Reads as send_short_confirmation_reads
use Rattle.telegram_tx.specs.contracts.tx.send_token_telegram as send_token_telegram
use Rattle.telegram_tx.proofs.tx.send_token_telegram.Reads as send_token_telegram_reads

pub record Calls : Type 0 where
  pub send_data_telegram : Determined send_data_telegram.ended send_data_telegram_reads.Learnt
  pub send_coded_telegram : Determined send_coded_telegram.ended send_coded_telegram_reads.Learnt
  pub send_token_telegram : Determined send_token_telegram.ended send_token_telegram_reads.Learnt
  pub send_short_confirmation : Determined send_short_confirmation.ended send_short_confirmation_reads.Learnt
  pub send_fdl_status_request : Determined send_fdl_status_request.ended send_fdl_status_request_reads.Learnt
  pub send_fdl_status_response : Determined send_fdl_status_response.ended send_fdl_status_response_reads.Learnt
  pub new_response : Determined new_response.ended new_response_reads.Learnt
  pub bytes_sent : Determined bytes_sent.ended bytes_sent_reads.Learnt
  pub expects_reply : Determined expects_reply.ended expects_reply_reads.Learnt

pub determined : Calls
determined =
    record {
      send_data_telegram = wrote (λ κs. shown_writing_injective) (λ κs a u v p i. (tt, (tt, (p i, tt))));
      send_coded_telegram = wrote (λ κs. shown_writing_injective) (λ κs a u v p i. (tt, (tt, (p i, tt))));
      send_token_telegram = wrote (λ κs. shown_writing_injective) (λ κs a u v p i. (tt, (tt, (p i, tt))));
      send_short_confirmation = wrote (λ κs. shown_writing_injective) (λ κs a u v p i. (p i, tt));
      send_fdl_status_request = wrote (λ κs. shown_writing_injective) (λ κs a u v p i. (tt, (tt, (p i, tt))));
      send_fdl_status_response = wrote (λ κs. shown_writing_injective) (λ κs a u v p i. (tt, (tt, (tt, (tt, (p i, tt))))));
      new_response = fixed (λ κs a u v. refl);
      bytes_sent = fixed (λ κs a u v. refl);
      expects_reply = fixed (λ κs a u v. refl);
    }
