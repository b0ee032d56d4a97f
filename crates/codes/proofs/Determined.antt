-- No second outcome fits the promise of a public call of `codes`: two outcomes that its promise allows are the same.
use Rattle.std.proofs.Common.{refl}
use Rattle.ground.proofs.DeterminedLaws.{fixed, seen}
use Rattle.codes.proofs.NumberLaws.{cycled_injective}
use Rattle.ground.specs.Determined.{Determined}
use Rattle.codes.specs.contracts.frame_check.checksum as checksum
use Rattle.codes.proofs.frame_check.checksum.Reads as checksum_reads
use Rattle.codes.specs.contracts.frame_count_bit.FrameCountBit.cycle as cycle
use Rattle.codes.proofs.frame_count_bit.FrameCountBit.cycle.Reads as cycle_reads
use Rattle.codes.specs.contracts.frame_count_bit.FrameCountBit.fcb as fcb
use Rattle.codes.proofs.frame_count_bit.FrameCountBit.fcb.Reads as fcb_reads
use Rattle.codes.specs.contracts.frame_count_bit.FrameCountBit.fcv as fcv
use Rattle.codes.proofs.frame_count_bit.FrameCountBit.fcv.Reads as fcv_reads
use Rattle.codes.specs.contracts.frame_count_bit.FrameCountBit.from_fcv_fcb as from_fcv_fcb
use Rattle.codes.proofs.frame_count_bit.FrameCountBit.from_fcv_fcb.Reads as from_fcv_fcb_reads
use Rattle.codes.specs.contracts.frame_count_bit.FrameCountBit.reset as reset
use Rattle.codes.proofs.frame_count_bit.FrameCountBit.reset.Reads as reset_reads
use Rattle.codes.specs.contracts.function_code.FunctionCode.from_byte as from_byte
use Rattle.codes.proofs.function_code.FunctionCode.from_byte.Reads as from_byte_reads
use Rattle.codes.specs.contracts.function_code.FunctionCode.new_response as new_response
use Rattle.codes.proofs.function_code.FunctionCode.new_response.Reads as new_response_reads
use Rattle.codes.specs.contracts.function_code.FunctionCode.new_srd_high as new_srd_high
use Rattle.codes.proofs.function_code.FunctionCode.new_srd_high.Reads as new_srd_high_reads
use Rattle.codes.specs.contracts.function_code.FunctionCode.new_srd_low as new_srd_low
use Rattle.codes.proofs.function_code.FunctionCode.new_srd_low.Reads as new_srd_low_reads
use Rattle.codes.specs.contracts.function_code.FunctionCode.reply_to_byte as reply_to_byte
use Rattle.codes.proofs.function_code.FunctionCode.reply_to_byte.Reads as reply_to_byte_reads
use Rattle.codes.specs.contracts.function_code.FunctionCode.to_byte as to_byte
use Rattle.codes.proofs.function_code.FunctionCode.to_byte.Reads as to_byte_reads
use Rattle.codes.specs.contracts.request_type.RequestType.expects_reply as expects_reply
use Rattle.codes.proofs.request_type.RequestType.expects_reply.Reads as expects_reply_reads
use Rattle.codes.specs.contracts.request_type.RequestType.from_u8 as request_from_u8
use Rattle.codes.proofs.request_type.RequestType.from_u8.Reads as request_from_u8_reads
use Rattle.codes.specs.contracts.request_type.RequestType.number as request_number
use Rattle.codes.proofs.request_type.RequestType.number.Reads as request_number_reads
use Rattle.codes.specs.contracts.response.ResponseState.from_u8 as state_from_u8
use Rattle.codes.proofs.response.ResponseState.from_u8.Reads as state_from_u8_reads
use Rattle.codes.specs.contracts.response.ResponseState.number as state_number
use Rattle.codes.proofs.response.ResponseState.number.Reads as state_number_reads
use Rattle.codes.specs.contracts.response.ResponseStatus.from_u8 as status_from_u8
use Rattle.codes.proofs.response.ResponseStatus.from_u8.Reads as status_from_u8_reads
use Rattle.codes.specs.contracts.response.ResponseStatus.number as status_number
use Rattle.codes.proofs.response.ResponseStatus.number.Reads as status_number_reads

pub record Calls : Type 0 where
  pub reset : Determined reset.ended reset_reads.Learnt
  pub cycle : Determined cycle.ended cycle_reads.Learnt
  pub fcb : Determined fcb.ended fcb_reads.Learnt
  pub fcv : Determined fcv.ended fcv_reads.Learnt
  pub from_fcv_fcb : Determined from_fcv_fcb.ended from_fcv_fcb_reads.Learnt
  pub request_from_u8 : Determined request_from_u8.ended request_from_u8_reads.Learnt
  pub request_number : Determined request_number.ended request_number_reads.Learnt
  pub expects_reply : Determined expects_reply.ended expects_reply_reads.Learnt
  pub state_from_u8 : Determined state_from_u8.ended state_from_u8_reads.Learnt
  pub state_number : Determined state_number.ended state_number_reads.Learnt
  pub status_from_u8 : Determined status_from_u8.ended status_from_u8_reads.Learnt
  pub status_number : Determined status_number.ended status_number_reads.Learnt
  pub from_byte : Determined from_byte.ended from_byte_reads.Learnt
  pub to_byte : Determined to_byte.ended to_byte_reads.Learnt
  pub reply_to_byte : Determined reply_to_byte.ended reply_to_byte_reads.Learnt
  pub new_srd_low : Determined new_srd_low.ended new_srd_low_reads.Learnt
  pub new_srd_high : Determined new_srd_high.ended new_srd_high_reads.Learnt
  pub new_response : Determined new_response.ended new_response_reads.Learnt
  pub checksum : Determined checksum.ended checksum_reads.Learnt

pub determined : Calls
determined =
    record {
      reset = fixed (λ κs a u v. refl);
      cycle = seen (λ κs. cycled_injective) (λ κs a u v. refl);
      fcb = fixed (λ κs a u v. refl);
      fcv = fixed (λ κs a u v. refl);
      from_fcv_fcb = fixed (λ κs a u v. refl);
      request_from_u8 = fixed (λ κs a u v. refl);
      request_number = fixed (λ κs a u v. refl);
      expects_reply = fixed (λ κs a u v. refl);
      state_from_u8 = fixed (λ κs a u v. refl);
      state_number = fixed (λ κs a u v. refl);
      status_from_u8 = fixed (λ κs a u v. refl);
      status_number = fixed (λ κs a u v. refl);
      from_byte = fixed (λ κs a u v. refl);
      to_byte = fixed (λ κs a u v. refl);
      reply_to_byte = fixed (λ κs a u v. refl);
      new_srd_low = fixed (λ κs a u v. refl);
      new_srd_high = fixed (λ κs a u v. refl);
      new_response = fixed (λ κs a u v. refl);
      checksum = fixed (λ κs a u v. refl);
    }
