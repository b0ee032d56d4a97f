-- What begins with a telegram's picture is read as that telegram: `picture_reads`.
use Rattle.std.proofs.Common.{None, Option, Some}
use Prim.Native.Nat.{ℕ, ◌+◌, ◌-◌, ◌%◌, ◌≤◌}
use mathlib.Core.Bool.{Bool, true, false}
use mathlib.Core.List.{List, [], ◌∷◌, ◌++◌, append_assoc}
use mathlib.Core.Path.{◌≡◌, refl, ◌∙◌, ap}
use native.Mathlib.Nat.{zero-add, add_assoc}
use native.Mathlib.Omega.{arith}
use lib.ListN.{length, length-append}
use lib.Seq.{get_or-append-add, get_or-append_seam}
use borrow.Author.Tests.{le-leb, lt-leb}
use Rattle.codes.proofs.FunctionCodeLaws.{code_reads}
use Rattle.ground.proofs.PartLaws.{part_between}
use Rattle.codes.specs.Checksums.{checksum_of}
use Rattle.ground.specs.Bits.{digit}
use Rattle.codes.specs.FunctionCodes.{CodeRead, as_written}
use Rattle.ground.specs.Part.{part, byte_at}
use Rattle.codes.specs.declared.function_code.FunctionCode.{FunctionCode}
use Rattle.telegram.proofs.AgreementLaws.{header_same, saps_same}
use Rattle.telegram.proofs.Answers.{Content, content_whole, Frame, code_known, confirmation, token_whole, sd1, sd2, sd3, answer_is}
use Rattle.telegram.specs.Begins.{Rules, standard, document01, StartOf, with_sd1, with_sd2, with_sd3, SapMayBe, DrawsData, Draws, Begins}
use Rattle.codes.specs.Delimiters.{SD1, SD2, SD3, ED}
use Rattle.telegram.specs.Picture.{address_byte, sap_bytes, head_with, framed}
use Rattle.telegram.specs.Reading.{whole, top, sap_at, header_at, saps_at, telegram_at, read_of}
use Rattle.telegram.specs.declared.header.DataTelegramHeader.{DataTelegramHeader}
use Rattle.telegram.specs.declared.kinds.DataTelegram.{DataTelegram}
use Rattle.telegram.specs.declared.kinds.Telegram.{Telegram}
use Rattle.telegram.specs.declared.kinds.Telegram.TheVariants.{Data, Token, ShortConfirmation}
use Rattle.ground.specs.declared.address.Sap.{Sap}

-- whether there is a SAP
is_some : Option Sap → Bool
is_some (Some sap) = true
is_some None = false

announces : (a : ℕ) (o : Option Sap) → a ≤ 127 → top (address_byte a o) ≡ is_some o
unfolding is_some
announces a (Some sap) h = le-leb 128 (a + 128) (omega arith)
announces a None h = lt-leb 128 a (omega arith)

bare : (a : ℕ) (o : Option Sap) → a ≤ 127 → address_byte a o % 128 ≡ a
bare a (Some sap) h = omega arith
bare a None h = omega arith

counted : (o : Option Sap) → digit (is_some o) ≡ length (sap_bytes o)
unfolding is_some
counted (Some sap) = refl
counted None = refl

first_sap : (a b c : ℕ) (o : Option Sap) (p q : List ℕ) → sap_at (is_some o) (a ∷ b ∷ c ∷ sap_bytes o ++ p ++ q) 3 ≡ o
unfolding is_some
first_sap a b c (Some sap) p q = refl
first_sap a b c None p q = refl

second_sap :
    (a b c : ℕ) (o p : Option Sap) (q : List ℕ)
    → sap_at (is_some p) (a ∷ b ∷ c ∷ sap_bytes o ++ sap_bytes p ++ q) (3 + digit (is_some o)) ≡ p
unfolding is_some
second_sap a b c o None q = refl
second_sap a b c (Some sap) (Some x) q = refl
second_sap a b c None (Some x) q = refl

-- The head's bytes are read as the header.
module _ (h : DataTelegramHeader) (da : h.da.0 ≤ 127) (sa : h.sa.0 ≤ 127) (code : ℕ) (q : List ℕ) where
  head_read : header_at (head_with h code ++ q) 0 h.fc ≡ h
  unfolding header_at
  head_read =
      rw (
        announces h.da.0 h.dsap da,
        announces h.sa.0 h.ssap sa,
        bare h.da.0 h.dsap da,
        bare h.sa.0 h.ssap sa,
        first_sap _ _ _ h.dsap (sap_bytes h.ssap) q,
        second_sap _ _ _ h.dsap h.ssap q,
      )

  saps_read : saps_at (head_with h code ++ q) 0 ≡ length (sap_bytes h.dsap) + length (sap_bytes h.ssap)
  unfolding saps_at
  saps_read =
      rw (
        announces h.da.0 h.dsap da,
        announces h.sa.0 h.ssap sa,
        counted h.dsap,
        counted h.ssap,
      )

-- A start, what the length counts, and what stands behind that: a framed telegram and anything behind it.
abbrev pub framed_then : List ℕ → List ℕ → List ℕ → List ℕ
framed_then start c rest = start ++ (c ++ checksum_of c ∷ ED ∷ rest)

pub framed_then_lem : (start c rest : List ℕ) → framed start c ++ rest ≡ framed_then start c rest
framed_then_lem start c rest = simp append_assoc

module _ (start c rest : List ℕ) where
  all_length : length (framed_then start c rest) ≡ length start + (length c + (2 + length rest))
  all_length = simp length-append (omega arith)

  from_start : (k : ℕ) → byte_at (framed_then start c rest) (length start + k) ≡ byte_at (c ++ checksum_of c ∷ ED ∷ rest) k
  from_start k = get_or-append-add start (c ++ checksum_of c ∷ ED ∷ rest) k 0

  part_is : part (framed_then start c rest) (length start) (length start + length c) ≡ c
  part_is = part_between start c (checksum_of c ∷ ED ∷ rest)

  sum_at : byte_at (framed_then start c rest) (length start + length c) ≡ checksum_of c
  sum_at = from_start (length c) ∙ get_or-append_seam c _ _ 0

  end_at : byte_at (framed_then start c rest) (length start + length c + 1) ≡ ED
  end_at = rw add_assoc (from_start (length c + 1) ∙ get_or-append-add c (checksum_of c ∷ ED ∷ rest) 1 0)

-- A framed head and PDU, behind any start, are read as a data telegram.
module _
    (d : DataTelegram) (da : d.h.da.0 ≤ 127) (sa : d.h.sa.0 ≤ 127) (code : ℕ) (code_is : CodeRead d.h.fc code)
    (pdu rest c : List ℕ) (covers : c ≡ head_with d.h code ++ pdu) (len : d.pdu.len ≡ length pdu) where
  head_first : c ++ checksum_of c ∷ ED ∷ rest ≡ head_with d.h code ++ (pdu ++ checksum_of c ∷ ED ∷ rest)
  head_first = ap (λ l. l ++ checksum_of c ∷ ED ∷ rest) covers ∙ append_assoc (head_with d.h code) pdu (checksum_of c ∷ ED ∷ rest)

  saps_long : length (sap_bytes d.h.dsap) + length (sap_bytes d.h.ssap) + 3 + length pdu ≡ length c
  saps_long = rw covers (simp length-append (omega arith))

  module _ (start : List ℕ) (place : d.pdu.start ≡ length (start ++ head_with d.h code)) where
    near :
        (k : ℕ) → k ≤ 4
        → byte_at (framed_then start c rest) (length start + k)
        ≡ byte_at (head_with d.h code ++ (pdu ++ checksum_of c ∷ ED ∷ rest)) (0 + k)
    near k h = rw (zero-add, ← head_first) (from_start start c rest k)

    header_is : header_at (framed_then start c rest) (length start) d.h.fc ≡ d.h
    header_is =
        header_same (framed_then start c rest) (head_with d.h code ++ (pdu ++ checksum_of c ∷ ED ∷ rest)) (length start) 0 near d.h.fc
        ∙ head_read d.h da sa code (pdu ++ checksum_of c ∷ ED ∷ rest)

    saps_are : saps_at (framed_then start c rest) (length start) ≡ length (sap_bytes d.h.dsap) + length (sap_bytes d.h.ssap)
    saps_are =
        saps_same (framed_then start c rest) (head_with d.h code ++ (pdu ++ checksum_of c ∷ ED ∷ rest)) (length start) 0 near
        ∙ saps_read d.h da sa code (pdu ++ checksum_of c ∷ ED ∷ rest)

    telegram_is : telegram_at (framed_then start c rest) (length start) (length c) d.h.fc ≡ d
    telegram_is =
        let from : length start + 3 + (length (sap_bytes d.h.dsap) + length (sap_bytes d.h.ssap)) ≡ d.pdu.start
        = omega (arith, simp length-append at place) in
        let left : length c - (3 + (length (sap_bytes d.h.dsap) + length (sap_bytes d.h.ssap))) ≡ d.pdu.len
        = omega (arith, saps_long) in
        rw (header_is, saps_are, from, left)

    frame_drawn :
        Frame (framed_then start c rest) (length start) (length c) (whole (Data d) (length start + length c + 2))
    frame_drawn =
        let code_at : byte_at (framed_then start c rest) (length start + 2) ≡ code = near 2 (omega arith) in
        let content :
        Content (framed_then start c rest) (length start) (length c) d.h.fc
        (whole (Data (telegram_at (framed_then start c rest) (length start) (length c) d.h.fc)) (length start + length c + 2))
        = content_whole (omega (arith, saps_are, saps_long)) (rw (part_is start c rest) (sum_at start c rest)) (end_at start c rest) in
        code_known d.h.fc (omega (arith, all_length start c rest)) (rw code_at (code_reads code_is)) (rw telegram_is at content)

  start_read :
      {l : ℕ} {start : List ℕ} → StartOf document01 l start → l ≡ length c → d.pdu.start ≡ length (start ++ head_with d.h code)
      → read_of (framed_then start c rest) ≡ whole (Data d) (length start + l + 2)
  start_read with_sd1 e place =
      answer_is (sd1 (omega (arith, all_length (SD1 ∷ []) c rest)) refl (rw (← e) at (frame_drawn (SD1 ∷ []) place)))
  start_read with_sd3 e place =
      answer_is (sd3 (omega (arith, all_length (SD3 ∷ []) c rest)) refl (rw (← e) at (frame_drawn (SD3 ∷ []) place)))
  start_read (with_sd2 {l} {fourth} low any) e place =
      answer_is
      (sd2 (omega (arith, all_length (SD2 ∷ l ∷ l ∷ fourth ∷ []) c rest)) refl refl low
      (rw (← e) at (frame_drawn (SD2 ∷ l ∷ l ∷ fourth ∷ []) place)))

data_reads :
    {d : DataTelegram} {picture : List ℕ} (rest : List ℕ) → DrawsData document01 d picture
    → read_of (picture ++ rest) ≡ whole (Data d) (length picture)
data_reads {d} rest draws =
    let c : List ℕ = head_with d.h draws.code ++ draws.pdu in
    let total : length (framed draws.start c) ≡ length draws.start + length c + 2 = simp length-append (omega arith) in
    rw (draws.drawn, total, framed_then_lem draws.start c rest)
    (start_read d draws.da_small draws.sa_small draws.code draws.code_is draws.pdu rest c refl draws.pdu_len draws.start_is refl draws.pdu_start)

-- The bytes of a data telegram and of what follows it, from its start on.
pub begins_from :
    {rules : Rules} {s : List ℕ} {d : DataTelegram} {n : ℕ} (b : Begins rules s (Data d) n)
    → s ≡ framed_then b.draws.start (head_with d.h b.draws.code ++ b.draws.pdu) b.rest
begins_from {d = d} b =
    b.bytes ∙ ap (λ q. q ++ b.rest) b.draws.drawn
    ∙ framed_then_lem b.draws.start (head_with d.h b.draws.code ++ b.draws.pdu) b.rest

-- What begins with the picture of a telegram is read as it.
pub picture_reads : {s : List ℕ} {t : Telegram} {n : ℕ} → Begins document01 s t n → read_of s ≡ whole t n
picture_reads {t = Data d} b = rw (b.bytes, b.total) (data_reads b.rest b.draws)
picture_reads {t = Token t} b = rw (b.bytes, b.total, b.draws.drawn) (answer_is (token_whole (omega arith) refl))
picture_reads {t = ShortConfirmation} b = rw (b.bytes, b.total, b.draws) (answer_is (confirmation (omega arith) refl))

-- Rules that allow all that others allow.
pub record Wider (narrow wide : Rules) : Type 0 where
  pub lengths : (l : ℕ) → narrow.length_may_be l → wide.length_may_be l
  pub fourths : (b : ℕ) → narrow.fourth_may_be b → wide.fourth_may_be b
  pub codes : (fc : FunctionCode) (b : ℕ) → narrow.code_may_be fc b → wide.code_may_be fc b
  pub saps : (b : ℕ) → narrow.sap_may_be b → wide.sap_may_be b
  pub sources : (a : ℕ) → narrow.source_may_be a → wide.source_may_be a
  pub tokens : (a : ℕ) → narrow.token_may_be a → wide.token_may_be a

module _ {narrow wide : Rules} (wider : Wider narrow wide) where
  starts_wider : {l : ℕ} {start : List ℕ} → StartOf narrow l start → StartOf wide l start
  starts_wider with_sd1 = with_sd1
  starts_wider with_sd3 = with_sd3
  starts_wider (with_sd2 {l} {fourth} low any) = with_sd2 (wider.lengths l low) (wider.fourths fourth any)

  saps_wider : (o : Option Sap) → SapMayBe narrow o → SapMayBe wide o
  saps_wider (Some sap) is = wider.saps sap.0 is
  saps_wider None is = tt

  draws_wider : (t : Telegram) (picture : List ℕ) → Draws narrow t picture → Draws wide t picture
  draws_wider (Data d) picture draws =
      record {
        start = draws.start;
        code = draws.code;
        pdu = draws.pdu;
        drawn = draws.drawn;
        start_is = starts_wider draws.start_is;
        code_is = wider.codes d.h.fc draws.code draws.code_is;
        dsap_is = saps_wider d.h.dsap draws.dsap_is;
        ssap_is = saps_wider d.h.ssap draws.ssap_is;
        da_small = draws.da_small;
        sa_small = draws.sa_small;
        source_is = wider.sources d.h.sa.0 draws.source_is;
        pdu_start = draws.pdu_start;
        pdu_len = draws.pdu_len;
      }
  draws_wider (Token t) picture draws =
      record { drawn = draws.drawn; da_is = wider.tokens t.da.0 draws.da_is; sa_is = wider.tokens t.sa.0 draws.sa_is }
  draws_wider ShortConfirmation picture draws = draws

  pub begins_wider : {s : List ℕ} {t : Telegram} {n : ℕ} → Begins narrow s t n → Begins wide s t n
  begins_wider {t = t} b =
      record {
        picture = b.picture;
        rest = b.rest;
        draws = draws_wider t b.picture b.draws;
        bytes = b.bytes;
        total = b.total;
      }

-- What the standard draws, document 01 reads.
standard_wider : Wider standard document01
standard_wider =
    record {
      lengths = λ l low. omega (arith, low.0);
      fourths = λ b e. tt;
      codes = λ fc b e. rw e as_written;
      saps = λ b e. tt;
      sources = λ a e. tt;
      tokens = λ a e. tt;
    }

pub standard_begins : {s : List ℕ} {t : Telegram} {n : ℕ} → Begins standard s t n → Begins document01 s t n
standard_begins = begins_wider standard_wider
