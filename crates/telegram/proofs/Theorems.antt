-- The reader and the picture, joined: `read_exactly`; the points in which document 01 is wider than the standard: `only_these_points`,
-- `beyond_not_standard`; and `same_telegram`, `one_telegram`, `written_back_exactly`.
use Rattle.std.proofs.Common.{None, Option, Some}
use Prim.Native.Nat.{ℕ, ◌+◌, ◌<◌, ◌≤◌}
use mathlib.Core.Bool.{Bool, true, false}
use mathlib.Core.List.{List, [], ◌∷◌, ◌++◌}
use mathlib.Core.Logic.{◌⊎◌, inl, inr, ⊎_elim}
use mathlib.Core.Path.{◌≡◌, refl, sym, ◌∙◌, ap}
use native.Mathlib.Omega.{arith}
use lib.Dec.{eqb, ltb}
use lib.ListN.{length, take}
use lib.Seq.{take-append_seam}
use borrow.Author.Tests.{ltb-true, ltb-false, eqb-true, eqb-false}
use Rattle.codes.specs.FunctionCodes.{code_byte, CodeRead, as_written, bit7_set}
use Rattle.ground.specs.Part.{byte_at, shown_part}
use Rattle.codes.specs.declared.function_code.FunctionCode.{FunctionCode}
use Rattle.telegram.proofs.DrawnLaws.{picture_reads}
use Rattle.telegram.proofs.OneDrawing.{place_once, drawn_once, lengths_alike, starts_alike}
use Rattle.telegram.proofs.PictureLaws.{read_picture}
use Rattle.telegram.proofs.WrittenLaws.{pdu_drawn, written_back, only_written_back}
use Rattle.telegram.specs.Begins.{Bytes, Rules, standard, document01, StartOf, with_sd1, with_sd2, with_sd3, SapMayBe, DrawsData, DrawsToken, Draws, AsWritten, Begins}
use Rattle.telegram.specs.Points.{StartBeyond, length_outside, fourth_not68, SapBeyond, above63, DataBeyond, start_beyond, bit7, dsap_beyond, ssap_beyond, source_beyond, TokenBeyond, da_beyond, sa_beyond, Beyond, Alike}
use Rattle.codes.specs.Delimiters.{SD2}
use Rattle.telegram.specs.Picture.{head_with, telegram_bytes}
use Rattle.telegram.specs.Reading.{whole, read_of}
use Rattle.telegram.specs.declared.kinds.DataTelegram.{DataTelegram}
use Rattle.telegram.specs.declared.kinds.Telegram.{Telegram}
use Rattle.telegram.specs.declared.kinds.Telegram.TheVariants.{Data, Token, ShortConfirmation}
use Rattle.telegram.specs.declared.kinds.TokenTelegram.{TokenTelegram}
use Rattle.ground.specs.declared.address.Sap.{Sap}

-- Reading answers a telegram exactly where the bytes begin with the picture of it.
pub read_exactly :
    (s : List ℕ) (t : Telegram) (n : ℕ) → Bytes s
    → (read_of s ≡ whole t n → Begins document01 s t n) × (Begins document01 s t n → read_of s ≡ whole t n)
read_exactly s t n byte = (read_picture s byte, picture_reads)

start_or_beyond : {l : ℕ} {start : List ℕ} → StartOf document01 l start → StartOf standard l start ⊎ StartBeyond start
start_or_beyond with_sd1 = inl with_sd1
start_or_beyond with_sd3 = inl with_sd3
start_or_beyond (with_sd2 {l} {fourth} low any) = by_low (ltb l 4) refl
  where
    by_fourth :
        4 ≤ l → l ≤ 249 → (t : Bool) → eqb fourth SD2 ≡ t
        → StartOf standard l (SD2 ∷ l ∷ l ∷ fourth ∷ []) ⊎ StartBeyond (SD2 ∷ l ∷ l ∷ fourth ∷ [])
    by_fourth a b true e = inl (with_sd2 (a, b) (eqb-true fourth SD2 e))
    by_fourth a b false e = inr (fourth_not68 (eqb-false fourth SD2 e))

    by_high :
        4 ≤ l → (t : Bool) → ltb 249 l ≡ t
        → StartOf standard l (SD2 ∷ l ∷ l ∷ fourth ∷ []) ⊎ StartBeyond (SD2 ∷ l ∷ l ∷ fourth ∷ [])
    by_high a true e = inr (length_outside (inr (ltb-true 249 l e)))
    by_high a false e = by_fourth a (ltb-false 249 l e) (eqb fourth SD2) refl

    by_low :
        (t : Bool) → ltb l 4 ≡ t
        → StartOf standard l (SD2 ∷ l ∷ l ∷ fourth ∷ []) ⊎ StartBeyond (SD2 ∷ l ∷ l ∷ fourth ∷ [])
    by_low true e = inr (length_outside (inl (ltb-true l 4 e)))
    by_low false e = by_high (ltb-false l 4 e) (ltb 249 l) refl

code_or_bit7 : {fc : FunctionCode} {code : ℕ} → CodeRead fc code → (code ≡ code_byte fc) ⊎ (code ≡ code_byte fc + 128)
code_or_bit7 as_written = inl refl
code_or_bit7 bit7_set = inr refl

sap_or_beyond : (o : Option Sap) → SapMayBe standard o ⊎ SapBeyond o
sap_or_beyond None = inl tt
sap_or_beyond (Some sap) = by_octet (ltb 63 sap.0) refl
  where
    by_octet : (t : Bool) → ltb 63 sap.0 ≡ t → SapMayBe standard (Some sap) ⊎ SapBeyond (Some sap)
    by_octet true e = inr (above63 (ltb-true 63 sap.0 e))
    by_octet false e = let low = ltb-false 63 sap.0 e in inl (omega arith)

station_or_beyond : (a : ℕ) → (a ≤ 126) ⊎ (126 < a)
station_or_beyond a = by_test (ltb 126 a) refl
  where
    by_test : (t : Bool) → ltb 126 a ≡ t → (a ≤ 126) ⊎ (126 < a)
    by_test true e = inr (ltb-true 126 a e)
    by_test false e = inl (ltb-false 126 a e)

-- A data telegram that is read is drawn by the standard, or one of the points holds of it.
data_points :
    {d : DataTelegram} {picture : List ℕ} (draws : DrawsData document01 d picture)
    → DrawsData standard d picture ⊎ DataBeyond d draws.start draws.code
data_points {d} {picture} draws =
    by_start (start_or_beyond draws.start_is)
  where
    by_source :
        StartOf standard (length (head_with d.h draws.code ++ draws.pdu)) draws.start → draws.code ≡ code_byte d.h.fc
        → SapMayBe standard d.h.dsap → SapMayBe standard d.h.ssap → (d.h.sa.0 ≤ 126) ⊎ (126 < d.h.sa.0)
        → DrawsData standard d picture ⊎ DataBeyond d draws.start draws.code
    by_source start code dsap ssap (inl source) =
        inl
        (record {
          start = draws.start;
          code = draws.code;
          pdu = draws.pdu;
          drawn = draws.drawn;
          start_is = start;
          code_is = code;
          dsap_is = dsap;
          ssap_is = ssap;
          da_small = draws.da_small;
          sa_small = draws.sa_small;
          source_is = source;
          pdu_start = draws.pdu_start;
          pdu_len = draws.pdu_len;
        })
    by_source start code dsap ssap (inr beyond) = inr (source_beyond beyond)

    by_saps :
        StartOf standard (length (head_with d.h draws.code ++ draws.pdu)) draws.start → draws.code ≡ code_byte d.h.fc
        → SapMayBe standard d.h.dsap ⊎ SapBeyond d.h.dsap → SapMayBe standard d.h.ssap ⊎ SapBeyond d.h.ssap
        → DrawsData standard d picture ⊎ DataBeyond d draws.start draws.code
    by_saps start code (inl dsap) (inl ssap) = by_source start code dsap ssap (station_or_beyond d.h.sa.0)
    by_saps start code (inl dsap) (inr beyond) = inr (ssap_beyond beyond)
    by_saps start code (inr beyond) ssap = inr (dsap_beyond beyond)

    by_code :
        StartOf standard (length (head_with d.h draws.code ++ draws.pdu)) draws.start
        → (draws.code ≡ code_byte d.h.fc) ⊎ (draws.code ≡ code_byte d.h.fc + 128)
        → DrawsData standard d picture ⊎ DataBeyond d draws.start draws.code
    by_code start (inl code) = by_saps start code (sap_or_beyond d.h.dsap) (sap_or_beyond d.h.ssap)
    by_code start (inr set) = inr (bit7 set)

    by_start :
        StartOf standard (length (head_with d.h draws.code ++ draws.pdu)) draws.start ⊎ StartBeyond draws.start
        → DrawsData standard d picture ⊎ DataBeyond d draws.start draws.code
    by_start (inl start) = by_code start (code_or_bit7 draws.code_is)
    by_start (inr beyond) = inr (start_beyond beyond)

token_points : {t : TokenTelegram} {picture : List ℕ} → DrawsToken document01 t picture → DrawsToken standard t picture ⊎ TokenBeyond t
token_points {t} {picture} draws = by_addresses (station_or_beyond t.da.0) (station_or_beyond t.sa.0)
  where
    by_addresses :
        (t.da.0 ≤ 126) ⊎ (126 < t.da.0) → (t.sa.0 ≤ 126) ⊎ (126 < t.sa.0)
        → DrawsToken standard t picture ⊎ TokenBeyond t
    by_addresses (inl da) (inl sa) = inl (record { drawn = draws.drawn; da_is = da; sa_is = sa })
    by_addresses (inl da) (inr sa) = inr (sa_beyond sa)
    by_addresses (inr da) sa = inr (da_beyond da)

points : (t : Telegram) (picture : List ℕ) (draws : Draws document01 t picture) → Draws standard t picture ⊎ Beyond t picture draws
points (Data d) picture draws = data_points draws
points (Token t) picture draws = token_points draws
points ShortConfirmation picture draws = inl draws

-- A telegram that is read is drawn by the standard, or one of the named points holds of it.
pub only_these_points :
    {s : List ℕ} {t : Telegram} {n : ℕ} (b : Begins document01 s t n)
    → Begins standard s t n ⊎ Beyond t b.picture b.draws
only_these_points {t = t} b =
    ⊎_elim
    (λ draws. inl (record { picture = b.picture; rest = b.rest; draws = draws; bytes = b.bytes; total = b.total }))
    (λ beyond. inr beyond)
    (points t b.picture b.draws)

starts_not : {l : ℕ} {a b : List ℕ} → a ≡ b → StartBeyond a → StartOf standard l b → ⊥
starts_not e (length_outside out) with_sd1 = (cc)
starts_not e (length_outside out) with_sd3 = (cc)
starts_not e (length_outside (inl low)) (with_sd2 fits again) =
    let same = ap (λ s. byte_at s 1) e in omega (arith, fits.0, same)
starts_not e (length_outside (inr high)) (with_sd2 fits again) =
    let same = ap (λ s. byte_at s 1) e in omega (arith, fits.1, same)
starts_not e (fourth_not68 other) with_sd1 = (cc)
starts_not e (fourth_not68 other) with_sd3 = (cc)
starts_not e (fourth_not68 other) (with_sd2 fits again) = other (ap (λ s. byte_at s 3) e ∙ again)

start_not : {l : ℕ} {start : List ℕ} → StartBeyond start → StartOf standard l start → ⊥
start_not beyond may = starts_not refl beyond may

sap_not : {o : Option Sap} → SapBeyond o → SapMayBe standard o → ⊥
sap_not (above63 high) low = omega arith

data_not :
    {s : List ℕ} {d : DataTelegram} {n m : ℕ} (b : Begins document01 s (Data d) n) (c : Begins standard s (Data d) m)
    → DataBeyond d b.draws.start b.draws.code → ⊥
data_not b c (start_beyond beyond) = start_not (rw (drawn_once b c).0 at beyond) c.draws.start_is
data_not b c (bit7 set) = let code = (drawn_once b c).1 in let clear = c.draws.code_is in omega (arith, set, code, clear)
data_not b c (dsap_beyond beyond) = sap_not beyond c.draws.dsap_is
data_not b c (ssap_beyond beyond) = sap_not beyond c.draws.ssap_is
data_not b c (source_beyond beyond) = omega (arith, beyond, c.draws.source_is)

token_not : {s : List ℕ} {t : TokenTelegram} {n : ℕ} → Begins standard s (Token t) n → TokenBeyond t → ⊥
token_not c (da_beyond beyond) = omega (arith, beyond, c.draws.da_is)
token_not c (sa_beyond beyond) = omega (arith, beyond, c.draws.sa_is)

-- And where one holds, it is none of the standard's.
pub beyond_not_standard :
    (t : Telegram) {s : List ℕ} {n m : ℕ} (b : Begins document01 s t n) → Beyond t b.picture b.draws → Begins standard s t m
    → ⊥
beyond_not_standard (Data d) b beyond c = data_not b c beyond
beyond_not_standard (Token t) b beyond c = token_not c beyond
beyond_not_standard ShortConfirmation b beyond c = beyond

-- A telegram's PDU, as the reader shows it, is the picture's.
pub read_pdu :
    {rules : Rules} {s : List ℕ} {d : DataTelegram} {n : ℕ} (b : Begins rules s (Data d) n)
    → shown_part d.pdu s ≡ b.draws.pdu
read_pdu b = rw b.bytes (pdu_drawn b.rest b.draws)

picture_taken : {rules : Rules} {s : List ℕ} {t : Telegram} {n : ℕ} (b : Begins rules s t n) → take n s ≡ b.picture
picture_taken b = rw (b.total, b.bytes) (take-append_seam b.picture b.rest)

-- Two byte strings that read as the same data telegram with the same PDU have the same bytes, but for the fourth byte of an SD2 telegram and bit 7 of a
-- response's code, and so the checksum.
pub same_telegram :
    {s u : List ℕ} {d : DataTelegram} {n m : ℕ} (a : Begins document01 s (Data d) n) (b : Begins document01 u (Data d) m)
    → shown_part d.pdu s ≡ shown_part d.pdu u
    → Alike d (take n s) (take m u)
same_telegram {d = d} a b same =
    let pdu : a.draws.pdu ≡ b.draws.pdu = sym (read_pdu a) ∙ same ∙ read_pdu b in
    record {
      start = a.draws.start;
      other = b.draws.start;
      code = a.draws.code;
      other_code = b.draws.code;
      pdu = a.draws.pdu;
      left = picture_taken a ∙ a.draws.drawn;
      right = picture_taken b ∙ rw pdu b.draws.drawn;
      starts = starts_alike (lengths_alike a b pdu) (place_once a b) a.draws.start_is b.draws.start_is;
      code_is = a.draws.code_is;
      other_is = b.draws.code_is;
    }

-- No byte string begins with two telegrams.
pub one_telegram :
    {s : List ℕ} {t u : Telegram} {n m : ℕ} → Begins document01 s t n → Begins document01 s u m
    → (t ≡ u) × (n ≡ m)
one_telegram {t = t} {u = u} {n = n} {m = m} a b =
    let same : whole t n ≡ whole u m = sym (picture_reads a) ∙ picture_reads b in (cc, cc)

-- Writing what was read gives its bytes back exactly for what a writer would write.
pub written_back_exactly :
    {rules : Rules} {s : List ℕ} {d : DataTelegram} {n : ℕ} (b : Begins rules s (Data d) n)
    → (AsWritten b.draws → telegram_bytes d.h (shown_part d.pdu s) ≡ take n s)
    × (telegram_bytes d.h (shown_part d.pdu s) ≡ take n s → AsWritten b.draws)
written_back_exactly b = (
  λ own. rw (read_pdu b, picture_taken b) (written_back b.draws own),
  λ e. only_written_back b.draws (rw (read_pdu b, picture_taken b) at e),
)
