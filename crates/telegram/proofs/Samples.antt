-- The smallest inputs that are read beyond the standard, computed on the definitions: `beyond_the_standard`.
use Prim.Native.Nat.{ℕ, ◌≤◌}
use mathlib.Core.List.{List, ◌∷◌, ◌++◌, append_assoc}
use mathlib.Core.Path.{◌≡◌, refl, sym, ◌∙◌, ap}
use native.Mathlib.Omega.{arith}
use Rattle.codes.specs.Checksums.{sum_of, checksum_of}
use Rattle.codes.specs.FunctionCodes.{code_byte, function_code_of}
use Rattle.ground.specs.Part.{byte_at}
use Rattle.codes.specs.RequestTypes.{request_type_of}
use Rattle.codes.specs.Responses.{state_of, status_of}
use Rattle.telegram.proofs.DrawnLaws.{begins_from, picture_reads, standard_begins}
use Rattle.telegram.specs.Begins.{standard, StartOf, with_sd1, with_sd2, with_sd3, Begins}
use Rattle.codes.specs.Delimiters.{SD1, SD2, ED}
use Rattle.telegram.specs.Picture.{head_with}
use Rattle.telegram.specs.Reading.{header_at, saps_at, whole, read_of}
use Rattle.telegram.specs.Samples.{ReadBeyond, BeyondTheStandard}
use Rattle.telegram.specs.declared.header.DataTelegramHeader.{DataTelegramHeader}
use Rattle.telegram.specs.declared.kinds.DataTelegram.{DataTelegram}
use Rattle.telegram.specs.declared.kinds.Telegram.{Telegram}
use Rattle.telegram.specs.declared.kinds.Telegram.TheVariants.{Data}

-- By the standard, an SD2 telegram's L and fourth byte lie within its bounds.
start_bounds :
    {l : ℕ} {start : List ℕ} → StartOf standard l start → (q : List ℕ) → byte_at (start ++ q) 0 ≡ SD2
    → (4 ≤ byte_at (start ++ q) 1) × (byte_at (start ++ q) 1 ≤ 249) × (byte_at (start ++ q) 3 ≡ SD2)
start_bounds with_sd1 q e = absurd (omega arith)
start_bounds with_sd3 q e = absurd (omega arith)
start_bounds (with_sd2 low fourth) q e = (low.0, low.1, fourth)

-- And the fourth byte of an SD1 telegram is its function code's.
start_code :
    {l : ℕ} {start : List ℕ} → StartOf standard l start → (h : DataTelegramHeader) (code : ℕ) (q : List ℕ)
    → byte_at (start ++ (head_with h code ++ q)) 0 ≡ SD1
    → byte_at (start ++ (head_with h code ++ q)) 3 ≡ code
start_code with_sd1 h code q e = refl
start_code with_sd3 h code q e = absurd (omega arith)
start_code (with_sd2 low fourth) h code q e = absurd (omega arith)

module _ {s : List ℕ} {d : DataTelegram} {n : ℕ} (b : Begins standard s (Data d) n) where
  covered : List ℕ
  covered = head_with d.h b.draws.code ++ b.draws.pdu

  from_start : s ≡ b.draws.start ++ (covered ++ checksum_of covered ∷ ED ∷ b.rest)
  unfolding covered
  from_start = begins_from b

  sd2_bounds : byte_at s 0 ≡ SD2 → (4 ≤ byte_at s 1) × (byte_at s 1 ≤ 249) × (byte_at s 3 ≡ SD2)
  sd2_bounds e = rw from_start (start_bounds b.draws.start_is (covered ++ checksum_of covered ∷ ED ∷ b.rest) (rw from_start at e))

  sd1_code : byte_at s 0 ≡ SD1 → byte_at s 3 ≡ code_byte d.h.fc
  unfolding covered
  sd1_code e =
      let q : List ℕ = b.draws.pdu ++ checksum_of covered ∷ ED ∷ b.rest in
      let all : s ≡ b.draws.start ++ (head_with d.h b.draws.code ++ q) = from_start ∙ ap (λ l. b.draws.start ++ l) (append_assoc (head_with d.h b.draws.code) b.draws.pdu (checksum_of covered ∷ ED ∷ b.rest)) in
      let code : byte_at s 3 ≡ b.draws.code = rw all (start_code b.draws.start_is d.h b.draws.code q (rw all at e)) in
      code ∙ b.draws.code_is

-- What is read as a telegram that the standard does not draw there, lies beyond the standard.
beyond : {s : List ℕ} {t : Telegram} {n : ℕ} → read_of s ≡ whole t n → (Begins standard s t n → ⊥) → ReadBeyond s t n
beyond {s} {t} {n} read none =
    record {
      is_read = read;
      not_drawn = λ u m b.
          let same : whole u m ≡ whole t n = sym (picture_reads (standard_begins b)) ∙ read in
          let kind : u ≡ t = cc in
          let total : m ≡ n = cc in
          none (rw (kind, total) at b);
    }

-- Each point, L at both ends, either SAP, either address of a token.
pub beyond_the_standard : BeyondTheStandard
unfolding sum_of checksum_of code_byte function_code_of request_type_of state_of status_of header_at saps_at read_of
beyond_the_standard =
    record {
      fourth_byte = beyond refl (λ b. omega (arith, sd2_bounds b refl));
      length_three = beyond refl (λ b. omega (arith, sd2_bounds b refl));
      length250 = beyond refl (λ b. omega (arith, sd2_bounds b refl));
      bit7 = beyond refl (λ b. omega (arith, sd1_code b refl));
      dsap64 = beyond refl (λ b. omega (arith, b.draws.dsap_is));
      ssap64 = beyond refl (λ b. omega (arith, b.draws.ssap_is));
      source127 = beyond refl (λ b. omega (arith, b.draws.source_is));
      token_to127 = beyond refl (λ b. omega (arith, b.draws.da_is));
      token_from127 = beyond refl (λ b. omega (arith, b.draws.sa_is));
    }
