-- Laws of the item at a place: its reason, `item_for`; where the function code stands, `code_within`; and how long its line is, `item_short`.
use Rattle.std.proofs.Common.{Some}
use mathlib.Core.Bool.{Bool, true, false}
use mathlib.Core.List.{List}
use mathlib.Core.Path.{◌≡◌, refl}
use Prim.Native.Nat.{ℕ, ◌+◌, ◌*◌, ◌≤◌, ◌<◌}
use native.Mathlib.Omega.{arith}
use lib.Dec.{eqb}
use lib.ListN.{length}
use borrow.Author.Tests.{eqb-true, eqb-false}
use Rattle.ground.specs.Bits.{digit}
use Rattle.codes.specs.FunctionCodes.{function_code_of}
use Rattle.codes.specs.declared.function_code.FunctionCode.{FunctionCode}
use Rattle.ground.specs.Part.{byte_at}
use Rattle.ground.specs.Pick.{if}
use Rattle.telegram.specs.Begins.{Bytes}
use Rattle.telegram.specs.Stream as ending
use Rattle.telegram.specs.Reading.{Reading, whole, incomplete, refused, top, sap_at, header_at, token_at, read_of}
use Rattle.telegram.specs.declared.kinds.DataTelegram.{DataTelegram}
use Rattle.telegram.specs.declared.kinds.Telegram.{Telegram}
use Rattle.telegram.specs.declared.kinds.Telegram.TheVariants as telegram
use Rattle.telegram.proofs.Answers.{Content, content_whole, whole_data, code_known, Answered, confirmation, token_whole, sd1, sd2, sd3}
use Rattle.telegram.proofs.ReadingLaws.{reason, total_within, total_positive, total_small, pdu_ends, addresses_small}
use Rattle.telegram_strict.proofs.ModeLaws.{mode_alike, mode_numbered}
use Rattle.telegram_strict.specs.Strict.{read_in}
use Rattle.telegram_strict.specs.declared.strict.Mode.{Mode}
use Rattle.text.proofs.DecimalLaws.{small_length}
use Rattle.listing_lines.specs.declared.line.End.{End}
use Rattle.listing_lines.specs.declared.line.End.TheVariants.{Done, Incomplete, Refused}
use Rattle.listing_lines.specs.declared.line.Line.{Line}
use Rattle.listing_lines.specs.declared.line.Item.{Item}
use Rattle.listing_lines.specs.declared.line.Item.TheVariants as item
use Rattle.listing.specs.Leaves.{item_read, item_of}
use Rattle.listing_lines.specs.Lines.{figure_of, line_of, end_of, shown_end, item_text}
use Rattle.listing.specs.Telegrams.{code_place, sap_figure, line_at}
use Rattle.listing_lines.proofs.LineLaws.{line_length, figure_length, four_digits, line_short, end_length}

-- ---- the reason for an item

pub data ItemFor (mode : Mode) (at : ℕ) (s : List ℕ) : Item → Type 0 where
  at_end_lem : length s ≡ 0 → ItemFor mode at s (item.Last Done at)
  of_telegram : {t : Telegram} {n : ℕ} → read_in mode s ≡ whole t n → ItemFor mode at s (item.Telegram (line_at at s t n))
  of_incomplete : 1 ≤ length s → read_in mode s ≡ incomplete → ItemFor mode at s (item.Last Incomplete at)
  of_refused : {k : ℕ} → 1 ≤ length s → read_in mode s ≡ refused k → ItemFor mode at s (item.Last (Refused k) at)

read_for : (mode : Mode) (at : ℕ) (s : List ℕ) → 1 ≤ length s → (r : Reading) → read_in mode s ≡ r → ItemFor mode at s (item_read at s r)
read_for mode at s h (whole t n) e = of_telegram e
read_for mode at s h incomplete e = of_incomplete h e
read_for mode at s h (refused k) e = of_refused h e

pub item_for : (mode : Mode) (at : ℕ) (s : List ℕ) → ItemFor mode at s (item_of mode at s)
unfolding item_of
item_for mode at s = go (eqb (length s) 0) refl
  where
    some : eqb (length s) 0 ≡ false → 1 ≤ length s
    some e = nonzero (length s) (eqb-false _ _ e)
      where
        nonzero : (n : ℕ) → (n ≡ 0 → ⊥) → 1 ≤ n
        nonzero n h = omega arith

    go : (t : Bool) → eqb (length s) 0 ≡ t → ItemFor mode at s (if t (item.Last Done at) (item_read at s (read_in mode s)))
    go true e = at_end_lem (eqb-true _ _ e)
    go false e = read_for mode at s (some e) (read_in mode s) refl

pub item_reason : {mode : Mode} (at : ℕ) (s : List ℕ) {x : Item} → item_of mode at s ≡ x → ItemFor mode at s x
item_reason {mode} at s e = rw e at (item_for mode at s)

-- a line says the place and the length of its telegram
pub line_place : (at : ℕ) (s : List ℕ) (t : Telegram) (n : ℕ) → ((line_at at s t n).at ≡ at) × ((line_at at s t n).len ≡ n)
line_place at s (telegram.Data t) n = (refl, refl)
line_place at s (telegram.Token t) n = (refl, refl)
line_place at s telegram.ShortConfirmation n = (refl, refl)

-- a line's telegram starts at the place, has a byte, and lies within the bytes
pub record Lies (at : ℕ) (s : List ℕ) (l : Line) : Type 0 where
  pub place : l.at ≡ at
  pub some : 1 ≤ l.len
  pub within : l.len ≤ length s

pub line_lies : {mode : Mode} {at : ℕ} {s : List ℕ} {l : Line} → ItemFor mode at s (item.Telegram l) → Lies at s l
line_lies {mode} {at} {s} (of_telegram {t} {n} q) =
    let e = mode_alike mode s q in
    let p = line_place at s t n in
    record {
      place = p.0;
      some = omega (arith, p.1, total_positive s e);
      within = omega (arith, p.1, total_within s e);
    }

-- ---- the function code

code_lies : {s : List ℕ} {t : DataTelegram} {n : ℕ} → Answered s (whole (telegram.Data t) n) → code_place s < length s
code_lies (sd1 h d (code_known fc g e c)) = rw d (omega arith)
code_lies (sd2 h d q l (code_known fc g e c)) = rw d (omega arith)
code_lies (sd3 h d (code_known fc g e c)) = rw d (omega arith)

-- a data telegram's function code stands within it
pub code_within : (s : List ℕ) {t : DataTelegram} {n : ℕ} → read_of s ≡ whole (telegram.Data t) n → code_place s < length s
code_within s e = code_lies (reason s e)

code_is : {s : List ℕ} {t : DataTelegram} {n : ℕ} → Answered s (whole (telegram.Data t) n) → function_code_of (byte_at s (code_place s)) ≡ Some t.h.fc
unfolding header_at
code_is (sd1 h d (code_known fc g e c)) = rw (whole_data fc c, d) e
code_is (sd2 h d q l (code_known fc g e c)) = rw (whole_data fc c, d) e
code_is (sd3 h d (code_known fc g e c)) = rw (whole_data fc c, d) e

-- the byte that `fc` shows is the one from which the telegram's function code was read
pub code_read : (s : List ℕ) {t : DataTelegram} {n : ℕ} → read_of s ≡ whole (telegram.Data t) n → function_code_of (byte_at s (code_place s)) ≡ Some t.h.fc
code_read s e = code_is (reason s e)

-- ---- how long a line is

sap_length : (s : List ℕ) (at : ℕ) (top : Bool) → Bytes s → length (figure_of (sap_figure (sap_at top s at))) ≤ 3
sap_length s at true byte = figure_length (byte_at s at) (omega (arith, byte at))
sap_length s at false byte = omega arith

header_saps_length : (s : List ℕ) (at : ℕ) (fc : FunctionCode) → Bytes s
    → (length (figure_of (sap_figure (header_at s at fc).dsap)) ≤ 3) × (length (figure_of (sap_figure (header_at s at fc).ssap)) ≤ 3)
unfolding header_at
header_saps_length s at fc byte =
    (sap_length s (at + 3) (top (byte_at s at)) byte, sap_length s (at + 3 + digit (top (byte_at s at))) (top (byte_at s (at + 1))) byte)

saps_length : {s : List ℕ} {t : DataTelegram} {n : ℕ} → Bytes s → Answered s (whole (telegram.Data t) n)
    → (length (figure_of (sap_figure t.h.dsap)) ≤ 3) × (length (figure_of (sap_figure t.h.ssap)) ≤ 3)
saps_length {s} byte (sd1 h d (code_known fc g e c)) = rw (whole_data fc c) (header_saps_length s 1 fc byte)
saps_length {s} byte (sd2 h d q l (code_known fc g e c)) = rw (whole_data fc c) (header_saps_length s 4 fc byte)
saps_length {s} byte (sd3 h d (code_known fc g e c)) = rw (whole_data fc c) (header_saps_length s 1 fc byte)

-- a line's length, for each byte of its telegram and in all
pub record Fits (l : Line) : Type 0 where
  pub weight : length (line_of l) ≤ 58 * l.len
  pub short : length (line_of l) ≤ 74

module _ (at : ℕ) (s : List ℕ) (low : at < 10000) (byte : Bytes s) where
  data_fits : (t : DataTelegram) (n : ℕ) → read_of s ≡ whole (telegram.Data t) n → Fits (line_at at s (telegram.Data t) n)
  data_fits t n e =
      let a = addresses_small s e in
      let p = saps_length byte (reason s e) in
      let small = total_small s byte e in
      let ends = pdu_ends s e in
      let short = line_short (line_at at s (telegram.Data t) n) (record {
        at = low;
        len = omega arith;
        da = figure_length _ (omega arith);
        sa = figure_length _ (omega arith);
        dsap = p.0;
        ssap = p.1;
        fc = figure_length _ (omega (arith, byte (code_place s)));
        pdu = figure_length _ (omega arith);
      }) in
      record { weight = omega arith; short = short }

  token_fits : Fits (line_at at s (telegram.Token (token_at s)) 3)
  token_fits =
      let short = line_short (line_at at s (telegram.Token (token_at s)) 3) (record {
        at = low;
        len = omega arith;
        da = figure_length _ (omega (arith, byte 1));
        sa = figure_length _ (omega (arith, byte 2));
        dsap = omega arith;
        ssap = omega arith;
        fc = omega arith;
        pdu = omega arith;
      }) in
      record { weight = omega arith; short = short }

  ack_fits : Fits (line_at at s telegram.ShortConfirmation 1)
  ack_fits =
      let all = line_length (line_at at s telegram.ShortConfirmation 1) in
      let digits = four_digits at low in
      let one = small_length 1 (omega arith) in
      record { weight = omega arith; short = omega arith }

  content_fits : {start l : ℕ} (fc : FunctionCode) {t : Telegram} {n : ℕ} → read_of s ≡ whole t n → Content s start l fc (whole t n) → Fits (line_at at s t n)
  content_fits fc e (content_whole f a b) = data_fits _ _ e

  telegram_fits : {t : Telegram} {n : ℕ} → read_of s ≡ whole t n → Answered s (whole t n) → Fits (line_at at s t n)
  telegram_fits e (confirmation h d) = ack_fits
  telegram_fits e (token_whole h d) = token_fits
  telegram_fits e (sd1 h d (code_known fc g q c)) = content_fits fc e c
  telegram_fits e (sd2 h d l k (code_known fc g q c)) = content_fits fc e c
  telegram_fits e (sd3 h d (code_known fc g q c)) = content_fits fc e c

  read_fits : (mode : Mode) {t : Telegram} {n : ℕ} → read_in mode s ≡ whole t n → Fits (line_at at s t n)
  read_fits mode q = let e = mode_alike mode s q in telegram_fits e (reason s e)

  pub line_fits : {mode : Mode} {l : Line} → ItemFor mode at s (item.Telegram l) → Fits l
  line_fits {mode} (of_telegram e) = read_fits mode e

  -- an item fits a line of 80 bytes
  pub item_short : {mode : Mode} {x : Item} → ItemFor mode at s x → length (item_text x) ≤ 80
  item_short (at_end_lem h) = omega (arith, end_length ending.done at, four_digits at low)
  item_short {mode} (of_telegram e) = omega (arith, (read_fits mode e).short)
  item_short (of_incomplete h e) = omega (arith, end_length ending.incomplete at, four_digits at low)
  item_short {mode} (of_refused {k} h e) =
      omega (arith, end_length (ending.refused k) at, four_digits at low, four_digits k (omega (arith, mode_numbered mode s e)))

  -- the last line has 17 bytes where nothing is left, and no more than a byte that is left may take
  pub last_length : {mode : Mode} {e : End} {p : ℕ} → ItemFor mode at s (item.Last e p) → length (end_of (shown_end e) p) ≤ 58 * length s + 17
  last_length (at_end_lem h) = omega (arith, end_length ending.done at, four_digits at low)
  last_length (of_incomplete h e) = omega (arith, end_length ending.incomplete at, four_digits at low)
  last_length {mode} (of_refused {k} h e) =
      omega (arith, end_length (ending.refused k) at, four_digits at low, four_digits k (omega (arith, mode_numbered mode s e)))
