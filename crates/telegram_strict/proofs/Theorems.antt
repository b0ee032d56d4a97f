-- Strict mode beside the picture: it reads exactly where the bytes begin with the picture under its rules, `strict_exactly`. Beside the default: what it
-- reads, the default reads to the same telegram and length, `strict_alike`; the two answers differ in 24 and 25 alone, `differ_alone`, and where
-- exactly, `strict_refused_exactly`, `strict_incomplete_exactly`.
use Rattle.std.proofs.Common.{None, Option, Some}
use Prim.Native.Nat.{ℕ, ◌<◌, ◌≤◌}
use mathlib.Core.Bool.{Bool, true, false}
use mathlib.Core.List.{List, [], ◌∷◌, ◌++◌}
use mathlib.Core.Logic.{◌⊎◌, inl, inr, ◌↔◌}
use mathlib.Core.Path.{◌≡◌, refl, sym, ◌∙◌}
use native.Mathlib.Decide.{dec_le}
use native.Mathlib.Omega.{arith}
use lib.Dec.{eqb}
use lib.ListN.{length, length-append}
use borrow.Author.Tests.{eqb-true, eqb-false}
use Rattle.codes.specs.Checksums.{checksum_of}
use Rattle.codes.specs.Delimiters.{SD2, ED}
use Rattle.ground.specs.Part.{byte_at}
use Rattle.telegram.proofs.AskedLaws.{incomplete_exactly}
use Rattle.telegram.proofs.DrawnLaws.{Wider, begins_wider, begins_from, picture_reads}
use Rattle.telegram.proofs.PictureLaws.{read_picture}
use Rattle.telegram.proofs.ReadingLaws.{refused_numbered, total_positive, total_within}
use Rattle.telegram.proofs.RefusedLaws.{refused_exactly}
use Rattle.telegram.proofs.StreamLaws.{Advances}
use Rattle.telegram.specs.Asked.{asked_of}
use Rattle.telegram.specs.Begins.{Bytes, document01, strict, StartOf, with_sd1, with_sd2, with_sd3, SapMayBe, DrawsData, Draws, Begins}
use Rattle.telegram.specs.Picture.{head_with}
use Rattle.telegram.specs.Reading.{Reading, whole, incomplete, refused, read_of}
use Rattle.telegram.specs.Refused.{Refuses}
use Rattle.telegram.specs.declared.kinds.DataTelegram.{DataTelegram}
use Rattle.telegram.specs.declared.kinds.Telegram.{Telegram}
use Rattle.telegram.specs.declared.kinds.Telegram.TheVariants.{Data, Token, ShortConfirmation}
use Rattle.telegram_strict.proofs.StartLaws.{StrictFor, sloppy, default, standard_neat, strict_sloppy, strict_neat, strict_for}
use Rattle.telegram_strict.specs.Sloppy.{LengthsHold, Sloppy, length_outside, fourth_not68, Neat}
use Rattle.telegram_strict.specs.Strict.{strict_of}
use Rattle.ground.specs.declared.address.Sap.{Sap}

-- ---- beside the default

-- "Everything that strict mode reads, the default reads to the same telegram."
pub strict_alike : (s : List ℕ) {t : Telegram} {n : ℕ} → strict_of s ≡ whole t n → read_of s ≡ whole t n
strict_alike s e = go (strict_for s e)
  where
    go : {t : Telegram} {n : ℕ} → StrictFor s (whole t n) → read_of s ≡ whole t n
    go (default neat q) = q

-- The two answers are one, or the strict one is 24 or 25, which the default never gives.
pub record StrictApart (s : List ℕ) (number : ℕ) : Type 0 where
  pub wrong : Sloppy s number
  pub strictly : strict_of s ≡ refused number
  pub never : read_of s ≡ refused number → ⊥

pub differ_alone : (s : List ℕ) → (strict_of s ≡ read_of s) ⊎ (StrictApart s 24 ⊎ StrictApart s 25)
differ_alone s = go (strict_for s refl)
  where
    apart : {number : ℕ} → 7 < number → Sloppy s number → StrictApart s number
    apart high wrong =
        record { wrong = wrong; strictly = strict_sloppy wrong; never = λ e. omega (arith, high, refused_numbered s e) }

    go : {r : Reading} → StrictFor s r → (strict_of s ≡ read_of s) ⊎ (StrictApart s 24 ⊎ StrictApart s 25)
    go (sloppy (length_outside h o)) = inr (inl (apart (omega arith) (length_outside h o)))
    go (sloppy (fourth_not68 h a b d)) = inr (inr (apart (omega arith) (fourth_not68 h a b d)))
    go (default neat e) = inl (strict_neat neat)

-- Incomplete where the default is and nothing is wrong with the start, which is judged before the total length.
pub strict_incomplete_exactly : (s : List ℕ) → strict_of s ≡ incomplete ↔ ((length s < asked_of s) × Neat s)
strict_incomplete_exactly s = (λ e. go (strict_for s e), λ h. strict_neat h.1 ∙ (incomplete_exactly s).1 h.0)
  where
    go : StrictFor s incomplete → (length s < asked_of s) × Neat s
    go (default neat e) = ((incomplete_exactly s).0 e, neat)

-- Refused for what is wrong with the start; else where document 01 refuses.
pub strict_refused_exactly :
    (s : List ℕ) (number : ℕ) → Bytes s
    → strict_of s ≡ refused number ↔ (Sloppy s number ⊎ (Refuses s number × Neat s))
strict_refused_exactly s number byte = (λ e. go (strict_for s e), back)
  where
    go : {k : ℕ} → StrictFor s (refused k) → Sloppy s k ⊎ (Refuses s k × Neat s)
    go (sloppy wrong) = inl wrong
    go {k} (default neat e) = inr ((refused_exactly s k byte).0 e, neat)

    back : Sloppy s number ⊎ (Refuses s number × Neat s) → strict_of s ≡ refused number
    back (inl wrong) = strict_sloppy wrong
    back (inr other) = strict_neat other.1 ∙ (refused_exactly s number byte).1 other.0

-- So a stream can be read in strict mode.
pub strict_advances : Advances strict_of
strict_advances =
    record {
      positive = λ s e. total_positive s (strict_alike s e);
      within = λ s e. total_within s (strict_alike s e);
    }

-- ---- beside the picture

strict_wider : Wider strict document01
strict_wider =
    record {
      lengths = λ l low. omega (arith, low.0);
      fourths = λ b e. tt;
      codes = λ fc b e. e;
      saps = λ b e. tt;
      sources = λ a e. tt;
      tokens = λ a e. tt;
    }

-- What is drawn by the strict rules has nothing wrong with its start.
start_strict :
    {l : ℕ} {start : List ℕ} → StartOf strict l start → (q : List ℕ) → byte_at (start ++ q) 0 ≡ SD2
    → (4 ≤ byte_at (start ++ q) 1) × (byte_at (start ++ q) 1 ≤ 249) × (byte_at (start ++ q) 3 ≡ SD2)
start_strict with_sd1 q e = absurd (omega arith)
start_strict with_sd3 q e = absurd (omega arith)
start_strict (with_sd2 low fourth) q e = (low.0, low.1, fourth)

holds : {s : List ℕ} {number : ℕ} → Sloppy s number → byte_at s 0 ≡ SD2
holds (length_outside h o) = h.delimiter
holds (fourth_not68 h a b d) = h.delimiter

drawn_neat : {s : List ℕ} {t : Telegram} {n : ℕ} → Begins strict s t n → Neat s
drawn_neat {s} {t = Data d} b number wrong =
    let c = head_with d.h b.draws.code ++ b.draws.pdu in
    let all = begins_from b in
    let bounds = start_strict b.draws.start_is (c ++ checksum_of c ∷ ED ∷ b.rest) (rw all at (holds wrong)) in
    standard_neat (rw all bounds.0) (rw all bounds.1) (rw all bounds.2) number wrong
drawn_neat {s} {t = Token t} b number wrong = omega (arith, rw (b.bytes, b.draws.drawn) at (holds wrong))
drawn_neat {s} {t = ShortConfirmation} b number wrong = omega (arith, rw (b.bytes, b.draws) at (holds wrong))

-- Any byte is a SAP's to strict mode.
strict_sap : (o : Option Sap) → SapMayBe strict o
strict_sap (Some sap) = tt
strict_sap None = tt

-- What is drawn by document 01's rules and has nothing wrong with its start is drawn by the strict ones.
module _ {s : List ℕ} (neat : Neat s) where
  start_narrow : {l : ℕ} {start : List ℕ} (q : List ℕ) → 2 ≤ length q → s ≡ start ++ q → StartOf document01 l start → StartOf strict l start
  start_narrow q some e with_sd1 = with_sd1
  start_narrow q some e with_sd3 = with_sd3
  start_narrow q some e (with_sd2 {l} {fourth} low any) = by_low (dec_le 4 l)
    where
      hold : LengthsHold s
      hold = rw e (record { six = omega arith; delimiter = refl; agree = refl; three = low })

      its_length : byte_at s 1 ≡ l
      its_length = rw e

      its_fourth : byte_at s 3 ≡ fourth
      its_fourth = rw e

      by_fourth : 4 ≤ l → l ≤ 249 → (t : Bool) → eqb fourth SD2 ≡ t → StartOf strict l (SD2 ∷ l ∷ l ∷ fourth ∷ [])
      by_fourth a b true f = with_sd2 (a, b) (eqb-true _ _ f)
      by_fourth a b false f =
          absurd (neat 25 (fourth_not68 hold (rw its_length a) (rw its_length b) (λ g. eqb-false fourth SD2 f (sym its_fourth ∙ g))))

      by_high : 4 ≤ l → Dec (l ≤ 249) → StartOf strict l (SD2 ∷ l ∷ l ∷ fourth ∷ [])
      by_high a (yes b) = by_fourth a b (eqb fourth SD2) refl
      by_high a (no b) = absurd (neat 24 (length_outside hold (inr (rw its_length (omega arith)))))

      by_low : Dec (4 ≤ l) → StartOf strict l (SD2 ∷ l ∷ l ∷ fourth ∷ [])
      by_low (yes a) = by_high a (dec_le l 249)
      by_low (no a) = absurd (neat 24 (length_outside hold (inl (its_length ∙ omega arith))))

  data_narrow : {d : DataTelegram} {n : ℕ} (b : Begins document01 s (Data d) n) → DrawsData strict d b.picture
  data_narrow {d} b =
      let c = head_with d.h b.draws.code ++ b.draws.pdu in
      record {
        start = b.draws.start;
        code = b.draws.code;
        pdu = b.draws.pdu;
        drawn = b.draws.drawn;
        start_is = start_narrow (c ++ checksum_of c ∷ ED ∷ b.rest) (simp length-append (omega arith)) (begins_from b) b.draws.start_is;
        code_is = b.draws.code_is;
        dsap_is = strict_sap d.h.dsap;
        ssap_is = strict_sap d.h.ssap;
        da_small = b.draws.da_small;
        sa_small = b.draws.sa_small;
        source_is = tt;
        pdu_start = b.draws.pdu_start;
        pdu_len = b.draws.pdu_len;
      }

  draws_narrow : {t : Telegram} {n : ℕ} (b : Begins document01 s t n) → Draws strict t b.picture
  draws_narrow {t = Data d} b = data_narrow b
  draws_narrow {t = Token t} b = record { drawn = b.draws.drawn; da_is = tt; sa_is = tt }
  draws_narrow {t = ShortConfirmation} b = b.draws

  begins_narrow : {t : Telegram} {n : ℕ} → Begins document01 s t n → Begins strict s t n
  begins_narrow {t} b =
      record { picture = b.picture; rest = b.rest; draws = draws_narrow b; bytes = b.bytes; total = b.total }

-- Strict mode reads a telegram exactly where the bytes begin with the picture of it under its rules.
pub strict_exactly : (s : List ℕ) (t : Telegram) (n : ℕ) → Bytes s → strict_of s ≡ whole t n ↔ Begins strict s t n
strict_exactly s t n byte = (
  λ e. go (strict_for s e),
  λ b. strict_neat (drawn_neat b) ∙ picture_reads (begins_wider strict_wider b),
)
  where
    go : {t : Telegram} {n : ℕ} → StrictFor s (whole t n) → Begins strict s t n
    go (default neat e) = begins_narrow neat (read_picture s byte e)
