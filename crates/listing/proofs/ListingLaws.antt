-- Laws of the listing: the lines from a place on, item by item, `lines_telegram` and `lines_last`; what its two loops keep; and the room that is
-- always enough, `listing_room_lem`.
use mathlib.Core.List.{List, [], ◌++◌, append_assoc}
use mathlib.Core.Path.{◌≡◌, refl, sym, ap, ◌∙◌}
use Prim.Native.Nat.{ℕ, zero, suc, ◌+◌, ◌-◌, ◌*◌, ◌≤◌}
use native.Mathlib.Omega.{arith}
use lib.ListN.{length, drop, length-append, length-drop}
use lib.Seq.{drop-drop}
use Rattle.telegram.specs.Begins.{Bytes}
use Rattle.telegram.specs.Stream.{Event, Stream, followed_by, stream_at}
use Rattle.telegram.proofs.ByteLaws.{drop_bytes}
use Rattle.telegram.proofs.StreamLaws.{stream_done, stream_telegram, stream_incomplete, stream_refused}
use Rattle.telegram_strict.proofs.ModeLaws.{mode_advances}
use Rattle.telegram_strict.specs.Strict.{read_in}
use Rattle.telegram_strict.specs.declared.strict.Mode.{Mode}
use Rattle.text.specs.Decimal.{decimal_of}
use Rattle.text.specs.Placed.{Placed}
use Rattle.text.proofs.PlacedLaws.{none, then}
use Rattle.listing_lines.specs.declared.line.End.{End}
use Rattle.listing_lines.specs.declared.line.Line.{Line}
use Rattle.listing_lines.specs.declared.line.Item.{Item}
use Rattle.listing_lines.specs.declared.line.Item.TheVariants.{Telegram, Last}
use Rattle.listing.specs.Leaves.{item_of, lines_at}
use Rattle.listing_lines.specs.Lines.{line_of, end_of, shown_end, item_text}
use Rattle.listing.specs.Listing.{event_line, lines_of, stream_text, bytes_line, listing_in, listing_room}
use Rattle.listing.specs.Telegrams.{line_at}
use Rattle.listing_lines.proofs.LineLaws.{four_digits}
use Rattle.listing.proofs.ItemLaws.{ItemFor, at_end_lem, of_telegram, of_incomplete, of_refused, item_reason, line_place, line_lies, line_fits, last_length}

-- ---- the lines from a place on, item by item

-- the text of a stream that begins with a telegram: its line, then the text of the rest
text_followed : (input : List ℕ) (event : Event) (rest : Stream)
    → stream_text input (followed_by event rest) ≡ line_of (event_line input event) ++ stream_text input rest
unfolding stream_text
text_followed input event rest =
    append_assoc (line_of (event_line input event)) (lines_of input rest.telegrams) (end_of rest.ending rest.at)

module _ (mode : Mode) (input : List ℕ) (at : ℕ) where
  -- a telegram's line, then the lines behind it
  pub lines_telegram : {l : Line} → item_of mode at (drop at input) ≡ Telegram l → lines_at mode input at ≡ line_of l ++ lines_at mode input (at + l.len)
  lines_telegram e = go (item_reason at (drop at input) e)
    where
      go : {l : Line} → ItemFor mode at (drop at input) (Telegram l) → lines_at mode input at ≡ line_of l ++ lines_at mode input (at + l.len)
      go (of_telegram {t} {n} r) =
          let line = line_of (line_at at (drop at input) t n) in
          ap (stream_text input) (stream_telegram (mode_advances mode) at (drop at input) r)
          ∙ text_followed input (record { at = at; telegram = t; len = n }) (stream_at (read_in mode) (at + n) (drop n (drop at input)))
          ∙ ap (λ (s : List ℕ). line ++ stream_text input (stream_at (read_in mode) (at + n) s)) (drop-drop n at input)
          ∙ ap (λ (k : ℕ). line ++ lines_at mode input (at + k)) (sym (line_place at (drop at input) t n).1)

  -- the last line
  pub lines_last : {end : End} {p : ℕ} → item_of mode at (drop at input) ≡ Last end p → lines_at mode input at ≡ end_of (shown_end end) p
  unfolding stream_text
  lines_last e = go (item_reason at (drop at input) e)
    where
      go : {end : End} {p : ℕ} → ItemFor mode at (drop at input) (Last end p) → lines_at mode input at ≡ end_of (shown_end end) p
      go (at_end_lem h) = ap (stream_text input) (stream_done (mode_advances mode) at (drop at input) h)
      go (of_incomplete h r) = ap (stream_text input) (stream_incomplete (mode_advances mode) at (drop at input) h r)
      go (of_refused h r) = ap (stream_text input) (stream_refused (mode_advances mode) at (drop at input) h r)

-- ---- the loop that puts the lines

-- up to a place the lines are put, and those from there on are left
pub record Progress (mode : Mode) (b₀ : List ℕ) (to : ℕ) (input b : List ℕ) (next at : ℕ) : Type 0 where
  pub done : List ℕ
  pub placed : Placed b₀ to done next b
  pub left : lines_at mode input 0 ≡ done ++ lines_at mode input at
  pub within : at ≤ length input

pub starts : {mode : Mode} {b input : List ℕ} {to : ℕ} → to ≤ length b + 1 → Progress mode b to input b to 0
starts h = record { done = []; placed = none (omega arith); left = refl; within = omega arith }

-- a telegram that is listed at a place ends within the input
pub ends_within : (mode : Mode) (input : List ℕ) (at : ℕ) {l : Line} → at ≤ length input → item_of mode at (drop at input) ≡ Telegram l
    → (1 ≤ l.len) × (at + l.len ≤ length input)
ends_within mode input at h e =
    let lies = line_lies (item_reason at (drop at input) e) in
    let left = length-drop at input in
    (lies.some, omega (arith, lies.within))

module _ {mode : Mode} {b₀ input b b' : List ℕ} {to next next' at : ℕ} {x : Item}
    (p : Progress mode b₀ to input b next at) (is : x ≡ item_of mode at (drop at input)) (put : Placed b next (item_text x) next' b') where
  pub goes_on : {l : Line} → x ≡ Telegram l → Progress mode b₀ to input b' next' (at + l.len)
  goes_on {l} e =
      record {
        done = p.done ++ line_of l;
        placed = then p.placed (rw e at put);
        left =
            p.left
            ∙ ap (λ (t : List ℕ). p.done ++ t) (lines_telegram mode input at (sym is ∙ e))
            ∙ sym (append_assoc p.done (line_of l) (lines_at mode input (at + l.len)));
        within = (ends_within mode input at p.within (sym is ∙ e)).1;
      }

  pub finishes : {end : End} {place : ℕ} → x ≡ Last end place → Placed b₀ to (lines_at mode input 0) next' b'
  finishes {end} {place} e =
      rw (p.left, lines_last mode input at (sym is ∙ e)) (then p.placed (rw e at put))

-- ---- the loop that counts them

pub record Counted (mode : Mode) (input : List ℕ) (len at : ℕ) : Type 0 where
  pub left : len + length (lines_at mode input at) ≡ length (lines_at mode input 0)
  pub within : at ≤ length input

pub counts : {mode : Mode} {input : List ℕ} → Counted mode input 0 0
counts = record { left = omega arith; within = omega arith }

module _ {mode : Mode} {input : List ℕ} {len at n : ℕ} {x : Item}
    (p : Counted mode input len at) (is : x ≡ item_of mode at (drop at input)) (long : n ≡ length (item_text x)) where
  pub counts_on : {l : Line} → x ≡ Telegram l → Counted mode input (len + n) (at + l.len)
  counts_on {l} e =
      let split = ap length (lines_telegram mode input at (sym is ∙ e)) ∙ length-append (line_of l) _ in
      let line : n ≡ length (line_of l) = rw e at long in
      record { left = omega (arith, p.left); within = (ends_within mode input at p.within (sym is ∙ e)).1 }

  pub counts_all : {end : End} {place : ℕ} → x ≡ Last end place → len + n ≡ length (lines_at mode input 0)
  counts_all {end} {place} e =
      let last = ap length (lines_last mode input at (sym is ∙ e)) in
      let line : n ≡ length (end_of (shown_end end) place) = rw e at long in
      omega (arith, p.left)

-- the item at a place is a part of the lines from there on
pub item_part : (mode : Mode) (input : List ℕ) (at : ℕ) → length (item_text (item_of mode at (drop at input))) ≤ length (lines_at mode input at)
item_part mode input at = go (item_of mode at (drop at input)) refl
  where
    go : (x : Item) → item_of mode at (drop at input) ≡ x → length (item_text x) ≤ length (lines_at mode input at)
    go (Telegram l) e =
        omega (arith, ap length (lines_telegram mode input at e), length-append (line_of l) (lines_at mode input (at + l.len)))
    go (Last end p) e = omega (arith, ap length (lines_last mode input at e))

-- ---- the room

module _ (mode : Mode) (input : List ℕ) (byte : Bytes input) (low : length input ≤ 4096) where
  -- 58 bytes for each byte that is left, and 17 for the last line
  LinesFit : ℕ → Type 0
  LinesFit at = length (lines_at mode input at) ≤ 58 * (length input - at) + 17

  -- an item and what follows it
  item_fits : (at : ℕ) → at ≤ length input → ((n : ℕ) → 1 ≤ n → at + n ≤ length input → LinesFit (at + n))
      → (x : Item) → item_of mode at (drop at input) ≡ x
      → LinesFit at
  unfolding LinesFit
  item_fits at h rest (Telegram l) e =
      let w = item_reason at (drop at input) e in
      let lies = line_lies w in
      let left = length-drop at input in
      let fits = line_fits at (drop at input) (omega arith) (drop_bytes at input byte) w in
      let more = rest l.len lies.some (omega arith) in
      omega (arith, ap length (lines_telegram mode input at e), length-append (line_of l) (lines_at mode input (at + l.len)))
  item_fits at h rest (Last end p) e =
      let left = length-drop at input in
      let last = last_length at (drop at input) (omega arith) (drop_bytes at input byte) (item_reason at (drop at input) e) in
      omega (arith, ap length (lines_last mode input at e))

  -- k is at least what is left
  lines_room : (k at : ℕ) → at ≤ length input → length input ≤ at + k → LinesFit at
  lines_room zero at h j = item_fits at h (λ n some within. absurd (omega arith)) (item_of mode at (drop at input)) refl
  lines_room (suc k) at h j =
      item_fits at h (λ n some within. lines_room k (at + n) within (omega arith)) (item_of mode at (drop at input)) refl

  pub lines_small : length (lines_at mode input 0) ≤ 58 * length input + 17
  unfolding LinesFit
  lines_small = omega (arith, lines_room (length input) 0 (omega arith) (omega arith))

pub listing_length : (mode : Mode) (input : List ℕ) → length (listing_in mode input) ≡ 7 + length (decimal_of (length input)) + length (lines_at mode input 0)
unfolding listing_in bytes_line
listing_length mode input = simp length-append (omega arith)

-- The listing of an input that is not refused fits the room.
pub listing_room_lem : (mode : Mode) (input : List ℕ) → Bytes input → length input ≤ 4096 → length (listing_in mode input) ≤ listing_room
listing_room_lem mode input byte h =
    omega (arith, listing_length mode input, lines_small mode input byte h, four_digits (length input) (omega arith))
