-- Laws of the calls' answers: each way out of a call makes its promise; what `text` shows of it, `output_shown`, in a room that is always enough;
-- and that no two answers are shown alike, `shown_listed_injective`.
use Rattle.std.proofs.Common.{Err, Ok, Result, ℕ}
use mathlib.Core.List.{List}
use mathlib.Core.Path.{◌≡◌, refl, ap, ◌∙◌}
use Prim.Native.Nat.{ℕ, ◌+◌, ◌-◌, ◌≤◌, ◌<◌}
use native.Mathlib.Omega.{arith}
use native.Mathlib.Decide.{dec_le}
use lib.ListN.{length, take}
use borrow.Author.Tests.{lt-ltb, le-ltb, le-leb}
use Rattle.ground.specs.Part.{shown_part}
use Rattle.ground.specs.Refusals.{OrRefused, gives, refused}
use Rattle.ground.proofs.Injective.{injective}
use Rattle.ground.proofs.RefusalLaws.{refusal_of, refusal_again}
use Rattle.telegram.specs.Begins.{Bytes}
use Rattle.telegram_strict.specs.declared.strict.Mode.{Mode}
use Rattle.text.specs.Placed.{laid, Placed}
use Rattle.text.proofs.PlacedLaws.{laid_length, laid_front}
use Rattle.listing.specs.Answers.{shown_listed, text_in, printed_of, list_in, Printed}
use Rattle.listing.specs.Listing.{listing_in, refused_line, output_in, listing_room}
use Rattle.listing.proofs.ListingLaws.{listing_room_lem}
use Rattle.ground.specs.declared.refusal.Refusal.{Refusal}

-- ---- an answer is led back to from what is shown of it

listed_of : OrRefused ℕ → Result ℕ Refusal
listed_of (gives len) = Ok len
listed_of (refused number) = Err (refusal_of number)

listed_again : (answer : Result ℕ Refusal) → listed_of (shown_listed answer) ≡ answer
unfolding listed_of
listed_again (Ok len) = refl
listed_again (Err refusal) = ap Err (refusal_again refusal)

pub shown_listed_injective : (r s : Result ℕ Refusal) → shown_listed r ≡ shown_listed s → r ≡ s
shown_listed_injective = injective shown_listed listed_of listed_again

-- ---- the ways out of a call

module _ (text before : List ℕ) where
  pub printed_done : {next : ℕ} {after : List ℕ} → length text ≤ length before → Placed before 0 text next after
      → Printed text before (printed_of text (length before)) (Ok next) after
  unfolding printed_of
  printed_done {next} h p =
      let end : next ≡ length text = omega (arith, p.place) in
      record { result = rw (le-leb _ _ h, end); buffer = rw (le-leb _ _ h) p.buffer }

-- ---- what is printed is shown

part_front : (buffer : List ℕ) (len : ℕ) → len ≤ length buffer → shown_part (record { start = 0; len = len }) buffer ≡ take len buffer
unfolding shown_part
part_front buffer len h =
    let room : 0 + len ≤ length buffer = omega arith in
    let count : 0 + len - 0 ≡ len = omega arith in
    rw (le-leb (0 + len) (length buffer) room) (ap (λ (n : ℕ). take n buffer) count)

-- The text of a call that was not refused is shown byte for byte.
pub text_shown : {text before after : List ℕ} {answer : Result ℕ Refusal} → length text ≤ length before
    → Printed text before (printed_of text (length before)) answer after
    → text_in answer after ≡ text
unfolding printed_of
text_shown {text} {before} {after} {answer} h m = go answer (rw (le-leb _ _ h) at m.result) (rw (le-leb _ _ h) at m.buffer)
  where
    go : (a : Result ℕ Refusal) → shown_listed a ≡ gives (length text) → after ≡ laid before 0 text → text_in a after ≡ text
    go (Ok len) r b =
        let n : len ≡ length text = cc in
        rw (n, b) (part_front (laid before 0 text) (length text) (rw (laid_length before 0 text) h) ∙ laid_front before text h)
    go (Err x) r b = let z : ◌≡◌ {A = ℕ} 0 1 = cc in absurd (omega arith)

module _ (mode : Mode) (input : List ℕ) where
  pub list_printed : (room : ℕ) → length input ≤ 4096 → list_in mode input room ≡ printed_of (listing_in mode input) room
  unfolding list_in
  list_printed room h = rw (le-ltb _ _ h)

  pub output_long : 4096 < length input → output_in mode input ≡ refused_line
  unfolding output_in
  output_long h = rw (lt-ltb _ _ h)

  pub output_listing : length input ≤ 4096 → output_in mode input ≡ listing_in mode input
  unfolding output_in
  output_listing h = rw (le-ltb _ _ h)

  -- What the lister prints fits the room, whatever the input.
  pub output_room : Bytes input → length (output_in mode input) ≤ listing_room
  output_room byte = go (dec_le (length input) 4096)
    where
      go : Dec (length input ≤ 4096) → length (output_in mode input) ≤ listing_room
      go (yes h) = rw (output_listing h) (listing_room_lem mode input byte h)
      go (no h) = rw (output_long (omega arith)) (omega arith)

  -- So with that room `output` is never refused.
  pub output_printed : (room : ℕ) → Bytes input → listing_room ≤ room → printed_of (output_in mode input) room ≡ gives (length (output_in mode input))
  unfolding printed_of
  output_printed room byte h = rw (le-leb (length (output_in mode input)) room (omega (arith, output_room byte)))

  -- And what `text` shows of its answer is what document 01 says, for every input.
  pub output_shown : {before after : List ℕ} {answer : Result ℕ Refusal} → Bytes input → listing_room ≤ length before
      → Printed (output_in mode input) before (printed_of (output_in mode input) (length before)) answer after
      → text_in answer after ≡ output_in mode input
  output_shown byte h m = text_shown (omega (arith, output_room byte)) m
