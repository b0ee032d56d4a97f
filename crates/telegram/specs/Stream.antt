-- Document 01, "The lister", without its limit and its text: the telegrams of a byte string, each with its place and its length, then how the
-- string ends and where, as a reader reads them. Read `stream_by`, and `stream_of`, which is document 01's. `StreamIs` says the same without a count
-- of steps (stream_exactly of proofs/StreamLaws.antt).
use Rattle.std.specs.Prelude.{ℕ, zero, suc, ◌+◌, ◌<◌, List, [], ◌∷◌, ◌≡◌, eqb, length, drop}
use Rattle.ground.specs.Pick.{if}
use Rattle.telegram.specs.Reading.{Reading, read_of}
use Rattle.telegram.specs.Reading as reading
use Rattle.telegram.specs.declared.kinds.Telegram.{Telegram}

-- a telegram of the stream: "`at` start, `len` telegram length"
pub record Event : Type 0 where
  pub at : ℕ
  pub telegram : Telegram
  pub len : ℕ

-- how a stream ends; a refusal by its number
pub data Ending : Type 0 where
  done : Ending
  incomplete : Ending
  refused : ℕ → Ending

-- the telegrams in their order, how the stream ends, and where: "P where that telegram starts", or the input's end
pub record Stream : Type 0 where
  pub telegrams : List Event
  pub ending : Ending
  pub at : ℕ

-- an end, and no telegram before it
abbrev pub ends_at : ℕ → Ending → Stream
ends_at at ending = record { telegrams = []; ending = ending; at = at }

-- a telegram, and the stream behind it
abbrev pub followed_by : Event → Stream → Stream
followed_by event rest = record { telegrams = event ∷ rest.telegrams; ending = rest.ending; at = rest.at }

-- by what the reader answers, where s is the input from a place on: "a line per telegram, stops at the first refusal, incomplete"
abbrev pub stream_read : (ℕ → List ℕ → Stream) → ℕ → List ℕ → Reading → Stream
stream_read rest at s (reading.whole t n) = followed_by (record { at = at; telegram = t; len = n }) (rest (at + n) (drop n s))
stream_read rest at s reading.incomplete = ends_at at incomplete
stream_read rest at s (reading.refused number) = ends_at at (refused number)

-- the stream from a place on, in so many steps: "or, done, the input's end"
unfoldable pub stream_from : (List ℕ → Reading) → ℕ → ℕ → List ℕ → Stream
stream_from read zero at s = ends_at at done
stream_from read (suc steps) at s = if (eqb (length s) 0) (ends_at at done) (stream_read (stream_from read steps) at s (read s))

-- every telegram has a byte, so that as many steps as there are bytes are enough
abbrev pub stream_at : (List ℕ → Reading) → ℕ → List ℕ → Stream
stream_at read at s = stream_from read (length s) at s

-- the stream of a byte string, as a reader reads it
abbrev pub stream_by : (List ℕ → Reading) → List ℕ → Stream
stream_by read s = stream_at read 0 s

-- by document 01's reader
abbrev pub stream_of : List ℕ → Stream
stream_of s = stream_by read_of s

-- how many bytes the telegrams have in all
abbrev pub bytes_in : List Event → ℕ
bytes_in [] = 0
bytes_in (event ∷ more) = event.len + bytes_in more

-- Telegram behind telegram of the input s, from a place up to another: each is what the reader finds at its place.
pub data Chain (read : List ℕ → Reading) (s : List ℕ) : ℕ → List Event → ℕ → Type 0 where
  no_more : {at : ℕ} → Chain read s at [] at
  one_more : {at n end : ℕ} {t : Telegram} {more : List Event}
      → read (drop at s) ≡ reading.whole t n
      → Chain read s (at + n) more end
      → Chain read s at (record { at = at; telegram = t; len = n } ∷ more) end

-- The input s ends so at a place: nothing is left there, or the reader finds no telegram in what is left.
pub data Ends (read : List ℕ → Reading) (s : List ℕ) (at : ℕ) : Ending → Type 0 where
  at_end : at ≡ length s → Ends read s at done
  cut : at < length s → read (drop at s) ≡ reading.incomplete → Ends read s at incomplete
  stopped : {number : ℕ} → at < length s → read (drop at s) ≡ reading.refused number → Ends read s at (refused number)

-- The stream of s, from a place on.
pub record StreamIs (read : List ℕ → Reading) (s : List ℕ) (from : ℕ) (stream : Stream) : Type 0 where
  pub telegrams : Chain read s from stream.telegrams stream.at
  pub ends : Ends read s stream.at stream.ending
