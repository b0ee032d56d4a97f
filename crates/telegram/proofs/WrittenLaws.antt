-- What a writer writes is a picture under the rules of what is written, `written_draws_written`, and so is read back: `read_after_write`, `pdu_after_write`.
use Rattle.std.proofs.Common.{None, Option, Some}
use Prim.Native.Nat.{ℕ, ◌≤◌}
use mathlib.Core.List.{List, [], ◌∷◌, ◌++◌, append_assoc}
use mathlib.Core.Path.{◌≡◌, refl, sym, ◌∙◌, ap}
use native.Mathlib.Omega.{arith}
use lib.Dec.{eqb}
use lib.ListN.{length, take, drop, length-append}
use lib.Seq.{take-append_seam, drop-append_seam, take_at, drop_at}
use borrow.Author.Tests.{eqb-true, eqb-false}
use Rattle.ground.proofs.PartLaws.{shown_between}
use Rattle.ground.proofs.PickLaws.{picked}
use Rattle.codes.specs.Checksums.{checksum_of}
use Rattle.codes.specs.FunctionCodes.{code_byte, as_written}
use Rattle.ground.specs.Part.{byte_at, shown_part}
use Rattle.telegram.proofs.DrawnLaws.{picture_reads}
use Rattle.telegram.proofs.PictureLaws.{any_sap}
use Rattle.telegram.specs.Begins.{Rules, document01, written, StartOf, with_sd1, with_sd2, with_sd3, SapMayBe, DrawsData, AsWritten}
use Rattle.codes.specs.Delimiters.{SD2, ED}
use Rattle.telegram.specs.Picture.{head_with, head_bytes, at_front, covered_bytes, length_byte, start_bytes, framed, telegram_bytes, token_bytes, confirmation_bytes}
use Rattle.telegram.specs.Reading.{whole, read_of}
use Rattle.telegram.specs.declared.header.DataTelegramHeader.{DataTelegramHeader}
use Rattle.telegram.specs.declared.kinds.DataTelegram.{DataTelegram}
use Rattle.telegram.specs.declared.kinds.Telegram.TheVariants.{Data, Token, ShortConfirmation}
use Rattle.telegram.specs.declared.kinds.TokenTelegram.{TokenTelegram}
use Rattle.ground.specs.declared.address.Sap.{Sap}

-- The start that is written, by any rules that allow its length byte where it has one, and the delimiter again.
written_start :
    {rules : Rules} (l : ℕ) → ((l ≡ 3 → ⊥) → rules.length_may_be l) → rules.fourth_may_be SD2
    → StartOf rules l (start_bytes l)
unfolding start_bytes
written_start {rules} l lengths again =
    picked (StartOf rules l) (eqb l 3) (λ e. rw (eqb-true l 3 e) with_sd1)
    (λ not3. picked (StartOf rules l) (eqb l 11) (λ e. rw (eqb-true l 11 e) with_sd3)
    (λ not11. with_sd2 (lengths (eqb-false l 3 not3)) again))

framed_parts :
    (start head pdu rest : List ℕ)
    → framed start (head ++ pdu) ++ rest ≡ start ++ head ++ (pdu ++ checksum_of (head ++ pdu) ∷ ED ∷ rest)
framed_parts start head pdu rest = simp append_assoc

-- A telegram's PDU is the part of its bytes that it says.
pub pdu_drawn :
    {rules : Rules} {d : DataTelegram} {picture : List ℕ} (rest : List ℕ) (draws : DrawsData rules d picture)
    → shown_part d.pdu (picture ++ rest) ≡ draws.pdu
pdu_drawn {d = d} {picture = picture} rest draws =
    let head : List ℕ = head_with d.h draws.code in
    let behind : List ℕ = checksum_of (head ++ draws.pdu) ∷ ED ∷ rest in
    let all : picture ++ rest ≡ draws.start ++ head ++ (draws.pdu ++ behind) = ap (λ q. q ++ rest) draws.drawn ∙ framed_parts draws.start head draws.pdu rest in
    rw all (shown_between d.pdu (draws.start ++ head) draws.pdu behind draws.pdu_start draws.pdu_len)

written_sap : (o : Option Sap) → SapMayBe written o
written_sap (Some sap) = tt
written_sap None = tt

counts_head : (h : DataTelegramHeader) (pdu : List ℕ) → 3 ≤ length_byte h pdu
unfolding length_byte covered_bytes head_bytes
counts_head h pdu = omega arith

module _ (h : DataTelegramHeader) (pdu : List ℕ) (da : h.da.0 ≤ 127) (sa : h.sa.0 ≤ 127) where
  written_draws :
      {rules : Rules} → StartOf rules (length_byte h pdu) (start_bytes (length_byte h pdu)) → rules.code_may_be h.fc (code_byte h.fc)
      → SapMayBe rules h.dsap → SapMayBe rules h.ssap → rules.source_may_be h.sa.0
      → DrawsData rules (at_front h pdu) (telegram_bytes h pdu)
  unfolding telegram_bytes covered_bytes head_bytes length_byte
  written_draws start code dsap ssap source =
      record {
        start = start_bytes (length_byte h pdu);
        code = code_byte h.fc;
        pdu = pdu;
        drawn = refl;
        start_is = start;
        code_is = code;
        dsap_is = dsap;
        ssap_is = ssap;
        da_small = da;
        sa_small = sa;
        source_is = source;
        pdu_start = refl;
        pdu_len = refl;
      }

  -- A telegram that is written is drawn so under the rules of what is written, where its length byte is at most 249.
  pub written_draws_written : length_byte h pdu ≤ 249 → DrawsData written (at_front h pdu) (telegram_bytes h pdu)
  written_draws_written fits =
      written_draws (written_start (length_byte h pdu) (λ not3. (omega (arith, counts_head h pdu), fits)) refl) refl
      (written_sap h.dsap) (written_sap h.ssap) tt

  read_draws : DrawsData document01 (at_front h pdu) (telegram_bytes h pdu)
  read_draws =
      written_draws (written_start (length_byte h pdu) (λ not3. counts_head h pdu) tt) as_written
      (any_sap h.dsap) (any_sap h.ssap) tt

  -- Reading what was written gives the header back and where the PDU stands, whatever follows it.
  pub read_after_write :
      (rest : List ℕ)
      → read_of (telegram_bytes h pdu ++ rest) ≡ whole (Data (at_front h pdu)) (length (telegram_bytes h pdu))
  read_after_write rest =
      picture_reads
      (record {
        picture = telegram_bytes h pdu;
        rest = rest;
        draws = read_draws;
        bytes = refl;
        total = refl;
      })

  -- And the PDU, as it is shown there.
  pub pdu_after_write : (rest : List ℕ) → shown_part (at_front h pdu).pdu (telegram_bytes h pdu ++ rest) ≡ pdu
  unfolding written_draws read_draws
  pdu_after_write rest = pdu_drawn rest read_draws

-- A written token and a short confirmation are read back too.
pub token_after_write :
    (t : TokenTelegram) (rest : List ℕ)
    → read_of (token_bytes t.da.0 t.sa.0 ++ rest) ≡ whole (Token t) 3
token_after_write t rest =
    picture_reads
    (record {
      picture = token_bytes t.da.0 t.sa.0;
      rest = rest;
      draws = record { drawn = refl; da_is = tt; sa_is = tt };
      bytes = refl;
      total = refl;
    })

pub confirmation_after_write : (rest : List ℕ) → read_of (confirmation_bytes ++ rest) ≡ whole ShortConfirmation 1
confirmation_after_write rest =
    picture_reads (record { picture = confirmation_bytes; rest = rest; draws = refl; bytes = refl; total = refl })

-- Two framed strings that are the same have the same start and the same content, where the contents are as long.
framed_same : (a b x y : List ℕ) → length x ≡ length y → framed a x ≡ framed b y → (a ≡ b) × (x ≡ y)
framed_same a b x y l e =
    let moved : a ++ (x ++ checksum_of x ∷ ED ∷ []) ≡ b ++ (y ++ checksum_of y ∷ ED ∷ []) = simp append_assoc at e in
    let n : length a ≡ length b = omega (arith, simp length-append at (ap length e)) in
    let content : x ++ checksum_of x ∷ ED ∷ [] ≡ y ++ checksum_of y ∷ ED ∷ [] = sym (drop-append_seam a _) ∙ ap (drop (length a)) moved ∙ drop_at b _ (length a) (sym n) in (
      sym (take-append_seam a _) ∙ ap (take (length a)) moved ∙ take_at b _ (length a) (sym n),
      sym (take-append_seam x _) ∙ ap (take (length x)) content ∙ take_at y _ (length x) (sym l),
    )

-- What is read is written back just where a writer would write it so.
module _ {rules : Rules} {d : DataTelegram} {picture : List ℕ} (draws : DrawsData rules d picture) where
  pub written_back : AsWritten draws → telegram_bytes d.h draws.pdu ≡ picture
  unfolding telegram_bytes covered_bytes head_bytes length_byte
  written_back own = rw (draws.drawn, own.start_written, own.code_written)

  pub only_written_back : telegram_bytes d.h draws.pdu ≡ picture → AsWritten draws
  unfolding telegram_bytes covered_bytes head_bytes length_byte
  only_written_back e =
      let same = framed_same _ draws.start (head_with d.h (code_byte d.h.fc) ++ draws.pdu) (head_with d.h draws.code ++ draws.pdu) refl (e ∙ draws.drawn) in
      record { start_written = sym same.0; code_written = sym (ap (λ q. byte_at q 2) same.1) }
