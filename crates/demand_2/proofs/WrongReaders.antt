-- Readers for which demand 2 is refuted: those that document 01 names, its trap, and others. Each is any reader that has the fault.
use Prim.Native.Nat.{ℕ, ◌<◌}
use mathlib.Core.Bool.{true}
use mathlib.Core.List.{List, [], ◌∷◌}
use mathlib.Core.Path.{◌≡◌, refl, sym, ◌∙◌}
use lib.ListN.{length}
use Rattle.ground.proofs.Injective.{zero_one}
use Rattle.codes.specs.Checksums.{sum_of, checksum_of}
use Rattle.codes.specs.FunctionCodes.{function_code_of}
use Rattle.codes.specs.RequestTypes.{request_type_of}
use Rattle.codes.specs.Responses.{state_of, status_of}
use Rattle.telegram.proofs.DrawnLaws.{picture_reads}
use Rattle.telegram.specs.Begins.{Bytes, Begins, document01}
use Rattle.telegram.specs.Asked.{asked_of}
use Rattle.telegram.specs.Reading.{Reading, whole, incomplete, refused, header_at, saps_at, read_of}
use Rattle.telegram.specs.Refused.{Refuses}
use Rattle.telegram.specs.declared.kinds.Telegram.{Telegram}
use Rattle.telegram.specs.declared.kinds.Telegram.TheVariants.{Token, ShortConfirmation}
use Rattle.demand_2.proofs.ByteRows.{small, bytes}
use Rattle.demand_2.proofs.OurReader.{our_reader, one_reader}
use Rattle.demand_2.specs.Readers.{IsReader}

abbrev confirmation : List ℕ
confirmation = 0xE5 ∷ []

abbrev token : List ℕ
token = 0xDC ∷ 5 ∷ 2 ∷ []

-- document 01's sample with SAPs, where the checksum leaves the SAPs and what stands before them out
abbrev pub summed_late : List ℕ
summed_late = 0x68 ∷ 0x05 ∷ 0x05 ∷ 0x68 ∷ 0x85 ∷ 0x82 ∷ 0x6C ∷ 0x3C ∷ 0x3E ∷ 0x00 ∷ 0x16 ∷ []

-- no telegram begins there: ours refuses it with 6
pub late_not_begun : (t : Telegram) (n : ℕ) → Begins document01 summed_late t n → ⊥
unfolding sum_of checksum_of function_code_of request_type_of state_of status_of header_at saps_at read_of
late_not_begun t n b = let e = picture_reads b in zero_one (cc)

-- the order of document 01 with the wrong checksum and the wrong end
abbrev both_wrong : List ℕ
both_wrong = 0x68 ∷ 0x05 ∷ 0x05 ∷ 0x68 ∷ 0x05 ∷ 0x02 ∷ 0x5C ∷ 0x01 ∷ 0x03 ∷ 0x66 ∷ 0x17 ∷ []

module _ (read : List ℕ → Reading) (is : IsReader read) where
  -- What any reader answers is what ours does.
  as_ours : (s : List ℕ) → small s ≡ true → read s ≡ read_of s
  as_ours s e = one_reader is our_reader s (bytes s e)

  confirms : read confirmation ≡ whole ShortConfirmation 1
  unfolding read_of
  confirms = as_ours confirmation refl

  passes : read token ≡ whole (Token (record { da = record { 0 = 5 }; sa = record { 0 = 2 } })) 3
  unfolding read_of
  passes = as_ours token refl

  -- "a reader refusing all": one that never gives a telegram
  pub refuses_all : ((s : List ℕ) (t : Telegram) (n : ℕ) → Bytes s → read s ≡ whole t n → ⊥) → ⊥
  refuses_all none = none confirmation ShortConfirmation 1 (bytes confirmation refl) confirms

  -- "or giving one telegram for all"
  pub one_for_all : (one : Telegram) → ((s : List ℕ) (t : Telegram) (n : ℕ) → Bytes s → read s ≡ whole t n → t ≡ one) → ⊥
  one_for_all one all =
      let a = all confirmation ShortConfirmation 1 (bytes confirmation refl) confirms in
      let b = all token _ 3 (bytes token refl) passes in
      zero_one (cc)

  -- "Summing the checksum after the SAPs only"
  pub sums_after_the_saps : (t : Telegram) (n : ℕ) → read summed_late ≡ whole t n → ⊥
  sums_after_the_saps t n e = late_not_begun t n ((is.telegrams summed_late t n (bytes summed_late refl)).0 e)

  -- one that calls incomplete what is refused
  pub waits_for_ever : ((s : List ℕ) (k : ℕ) → Refuses s k → read s ≡ incomplete) → ⊥
  unfolding read_of
  waits_for_ever waits =
      let e = as_ours (0x00 ∷ []) refl in
      let f = waits (0x00 ∷ []) 1 ((is.refusals (0x00 ∷ []) 1 (bytes (0x00 ∷ []) refl)).0 e) in
      zero_one (cc)

  -- one that refuses what is incomplete, with a number of its own
  pub refuses_the_incomplete : ((s : List ℕ) → length s < asked_of s → read s ≡ refused 99) → ⊥
  unfolding read_of
  refuses_the_incomplete refuses =
      let e = as_ours [] refl in
      let f = refuses [] ((is.incompletes [] (bytes [] refl)).0 e) in
      zero_one (cc)

  -- one that gives every refusal the same number
  pub one_number : (k : ℕ) → ((s : List ℕ) (n : ℕ) → Refuses s n → read s ≡ refused k) → ⊥
  unfolding sum_of checksum_of function_code_of request_type_of state_of status_of header_at saps_at read_of
  one_number k all =
      let a = as_ours (0x00 ∷ []) refl in
      let b = as_ours both_wrong refl in
      let f = all (0x00 ∷ []) 1 ((is.refusals (0x00 ∷ []) 1 (bytes (0x00 ∷ []) refl)).0 a) in
      let g = all both_wrong 6 ((is.refusals both_wrong 6 (bytes both_wrong refl)).0 b) in
      zero_one (cc)

  -- "in this order": the end delimiter looked at before the checksum
  pub end_before_sum : read both_wrong ≡ refused 7 → ⊥
  unfolding sum_of checksum_of function_code_of request_type_of state_of status_of header_at saps_at read_of
  end_before_sum e = let f = sym (as_ours both_wrong refl) ∙ e in zero_one (cc)

  -- the total looked at before the lengths: 68 03 04 00 00 00 incomplete
  pub total_before_lengths : read (0x68 ∷ 0x03 ∷ 0x04 ∷ 0x00 ∷ 0x00 ∷ 0x00 ∷ []) ≡ incomplete → ⊥
  unfolding read_of
  total_before_lengths e = let f = sym (as_ours (0x68 ∷ 0x03 ∷ 0x04 ∷ 0x00 ∷ 0x00 ∷ 0x00 ∷ []) refl) ∙ e in zero_one (cc)
