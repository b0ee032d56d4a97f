-- Readers that are no strict ones, each refuted: those that swap, delay or misplace a check, and those that refuse too much. Each is any reader that has
-- the fault.
use Prim.Native.Nat.{ℕ, ◌<◌}
use mathlib.Core.Bool.{true}
use mathlib.Core.List.{List, [], ◌∷◌, ◌++◌}
use mathlib.Core.Path.{◌≡◌, refl, sym, ◌∙◌}
use native.Mathlib.Omega.{arith}
use lib.ListN.{replicate}
use Rattle.codes.specs.Checksums.{sum_of, checksum_of}
use Rattle.codes.specs.FunctionCodes.{function_code_of}
use Rattle.codes.specs.RequestTypes.{request_type_of}
use Rattle.codes.specs.Responses.{state_of, status_of}
use Rattle.ground.proofs.Injective.{zero_one}
use Rattle.telegram.specs.Begins.{Bytes}
use Rattle.telegram.specs.Reading.{Reading, whole, incomplete, refused, header_at, saps_at, read_of}
use Rattle.telegram.specs.declared.kinds.Telegram.{Telegram}
use Rattle.telegram_strict.specs.Strict.{past_lengths, start_of, strict_of}
use Rattle.demand_2.proofs.ByteRows.{small, bytes}
use Rattle.demand_2.proofs.OurStrictReader.{our_strict_reader, one_strict_reader}
use Rattle.demand_2.specs.StrictReaders.{IsStrictReader}

-- L of 3 and a fourth byte of 00
abbrev both_sloppy : List ℕ
both_sloppy = 0x68 ∷ 0x03 ∷ 0x03 ∷ 0x00 ∷ 0x00 ∷ 0x00 ∷ []

-- an SD2 telegram whose L is 11, which a writer would send with SD3
abbrev eleven : List ℕ
eleven = 0x68 ∷ 0x0B ∷ 0x0B ∷ 0x68 ∷ replicate 12 0 ++ 0x16 ∷ []

-- one whose L is 249
abbrev longest : List ℕ
longest = 0x68 ∷ 0xF9 ∷ 0xF9 ∷ 0x68 ∷ replicate 250 0 ++ 0x16 ∷ []

-- a short telegram of a response, bit 7 of whose code is set
abbrev bit7 : List ℕ
bit7 = 0x10 ∷ 0x00 ∷ 0x00 ∷ 0x80 ∷ 0x80 ∷ 0x16 ∷ []

module _ (read : List ℕ → Reading) (is : IsStrictReader read) where
  -- What any strict reader answers is what ours does.
  as_ours : (s : List ℕ) → small s ≡ true → read s ≡ strict_of s
  as_ours s e = one_strict_reader is our_strict_reader s (bytes s e)

  -- "in this order: L, then the fourth byte": 25 before 24
  pub fourth_before_length : read both_sloppy ≡ refused 25 → ⊥
  unfolding past_lengths start_of strict_of
  fourth_before_length e = let f = sym (as_ours both_sloppy refl) ∙ e in zero_one (cc)

  -- "before the total length": one that waits for the rest of 68 FA FA 68 00 00, and of 68 05 05 00 00 00
  pub length_behind_the_total : read (0x68 ∷ 0xFA ∷ 0xFA ∷ 0x68 ∷ 0x00 ∷ 0x00 ∷ []) ≡ incomplete → ⊥
  unfolding past_lengths start_of strict_of
  length_behind_the_total e = let f = sym (as_ours (0x68 ∷ 0xFA ∷ 0xFA ∷ 0x68 ∷ 0x00 ∷ 0x00 ∷ []) refl) ∙ e in zero_one (cc)

  pub fourth_behind_the_total : read (0x68 ∷ 0x05 ∷ 0x05 ∷ 0x00 ∷ 0x00 ∷ 0x00 ∷ []) ≡ incomplete → ⊥
  unfolding past_lengths start_of strict_of
  fourth_behind_the_total e = let f = sym (as_ours (0x68 ∷ 0x05 ∷ 0x05 ∷ 0x00 ∷ 0x00 ∷ 0x00 ∷ []) refl) ∙ e in zero_one (cc)

  -- "after refusals 2 and 3": 68 02 03 00 00 00 and 68 02 02 00 00 00 with a number above them
  pub before_lengths_differ : (k : ℕ) → 3 < k → read (0x68 ∷ 0x02 ∷ 0x03 ∷ 0x00 ∷ 0x00 ∷ 0x00 ∷ []) ≡ refused k → ⊥
  unfolding past_lengths start_of strict_of read_of
  before_lengths_differ k h e = let f = sym (as_ours (0x68 ∷ 0x02 ∷ 0x03 ∷ 0x00 ∷ 0x00 ∷ 0x00 ∷ []) refl) ∙ e in let g : 2 ≡ k = cc in omega arith

  pub before_length_too_small : (k : ℕ) → 3 < k → read (0x68 ∷ 0x02 ∷ 0x02 ∷ 0x00 ∷ 0x00 ∷ 0x00 ∷ []) ≡ refused k → ⊥
  unfolding past_lengths start_of strict_of read_of
  before_length_too_small k h e = let f = sym (as_ours (0x68 ∷ 0x02 ∷ 0x02 ∷ 0x00 ∷ 0x00 ∷ 0x00 ∷ []) refl) ∙ e in let g : 3 ≡ k = cc in omega arith

  -- one that judges five bytes: "under 6 bytes: incomplete"
  pub judges_five_bytes : (k : ℕ) → read (0x68 ∷ 0x03 ∷ 0x03 ∷ 0x00 ∷ 0x00 ∷ []) ≡ refused k → ⊥
  unfolding past_lengths start_of strict_of read_of
  judges_five_bytes k e = let f = sym (as_ours (0x68 ∷ 0x03 ∷ 0x03 ∷ 0x00 ∷ 0x00 ∷ []) refl) ∙ e in zero_one (cc)

  -- an SD2 telegram with L = 11 refused
  pub refuses_eleven : (k : ℕ) → read eleven ≡ refused k → ⊥
  unfolding sum_of checksum_of function_code_of request_type_of state_of status_of header_at saps_at past_lengths start_of strict_of read_of
  refuses_eleven k e = let f = sym (as_ours eleven refl) ∙ e in zero_one (cc)

  -- 24 for an L of 249, which is the standard's
  pub refuses_249 : (k : ℕ) → read longest ≡ refused k → ⊥
  unfolding sum_of checksum_of function_code_of request_type_of state_of status_of header_at saps_at past_lengths start_of strict_of read_of
  refuses_249 k e = let f = sym (as_ours longest refl) ∙ e in zero_one (cc)

  -- bit 7 of a response refused: strict mode is strict in the SD2 start alone
  pub refuses_bit_7 : (k : ℕ) → read bit7 ≡ refused k → ⊥
  unfolding sum_of checksum_of function_code_of request_type_of state_of status_of header_at saps_at past_lengths start_of strict_of read_of
  refuses_bit_7 k e = let f = sym (as_ours bit7 refl) ∙ e in zero_one (cc)

  -- one that refuses all
  pub strictly_refuses_all : ((s : List ℕ) (t : Telegram) (n : ℕ) → Bytes s → read s ≡ whole t n → ⊥) → ⊥
  unfolding sum_of checksum_of function_code_of request_type_of state_of status_of header_at saps_at past_lengths start_of strict_of read_of
  strictly_refuses_all none = none eleven _ _ (bytes eleven refl) (as_ours eleven refl)

  -- the default reader itself: it never refuses with 24
  pub never_24 : ((s : List ℕ) → read s ≡ refused 24 → ⊥) → ⊥
  unfolding past_lengths start_of strict_of
  never_24 never = never both_sloppy (as_ours both_sloppy refl)
