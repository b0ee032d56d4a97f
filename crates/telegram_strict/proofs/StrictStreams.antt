-- A stream in strict mode beside document 01's: its telegrams are those that document 01's reader finds, `strict_front`, up to the first sloppy one, whose
-- place and number it ends with; where there is none, the two streams are one: `strict_stream`.
use Prim.Native.Nat.{ℕ}
use mathlib.Core.List.{List}
use mathlib.Core.Path.{◌≡◌, refl}
use native.Mathlib.Omega.{arith}
use lib.ListN.{drop}
use Rattle.telegram.proofs.StreamLaws.{reading_advances, stream_is, stream_exactly}
use Rattle.telegram.specs.Reading.{read_of}
use Rattle.telegram.specs.Reading as reading
use Rattle.telegram.specs.Stream.{Event, Ending, refused, Stream, stream_by, stream_of, Chain, no_more, one_more, Ends, at_end, cut, stopped, StreamIs}
use Rattle.telegram_strict.proofs.StartLaws.{StrictFor, sloppy, default, strict_for}
use Rattle.telegram_strict.proofs.Theorems.{strict_alike, strict_advances}
use Rattle.telegram_strict.specs.Sloppy.{Sloppy}
use Rattle.telegram_strict.specs.Strict.{strict_of}

-- What a stream in strict mode is: document 01's, or it ends at the first sloppy telegram, with its number.
pub data StrictStream (s : List ℕ) (stream : Stream) : Type 0 where
  tidy : stream_of s ≡ stream → StrictStream s stream
  sloppy_at : {number : ℕ} → Sloppy (drop stream.at s) number → stream.ending ≡ refused number → StrictStream s stream

module _ (s : List ℕ) where
  chain_alike : {at end : ℕ} {telegrams : List Event} → Chain strict_of s at telegrams end → Chain read_of s at telegrams end
  chain_alike no_more = no_more
  chain_alike {at} (one_more e more) = one_more (strict_alike (drop at s) e) (chain_alike more)

  strict_is : StreamIs strict_of s 0 (stream_by strict_of s)
  strict_is = stream_is strict_advances s 0 (omega arith)

  pub strict_front : Chain read_of s 0 (stream_by strict_of s).telegrams (stream_by strict_of s).at
  strict_front = chain_alike strict_is.telegrams

  -- by the end of the strict stream
  module _ (stream : Stream) (front : Chain read_of s 0 stream.telegrams stream.at) where
    as_default : {ending : Ending} → stream.ending ≡ ending → Ends read_of s stream.at ending → StrictStream s stream
    as_default e is = tidy ((stream_exactly reading_advances s stream).1 (record { telegrams = front; ends = rw e is }))

    by_end : {ending : Ending} → stream.ending ≡ ending → Ends strict_of s stream.at ending → StrictStream s stream
    by_end e (at_end h) = as_default e (at_end h)
    by_end e (cut h r) = go (strict_for (drop stream.at s) r)
      where
        go : StrictFor (drop stream.at s) reading.incomplete → StrictStream s stream
        go (default neat q) = as_default e (cut h q)
    by_end e (stopped {number} h r) = go e (strict_for (drop stream.at s) r)
      where
        go : {k : ℕ} → stream.ending ≡ refused k → StrictFor (drop stream.at s) (reading.refused k) → StrictStream s stream
        go f (sloppy wrong) = sloppy_at wrong f
        go f (default neat q) = as_default f (stopped h q)

  pub strict_stream : StrictStream s (stream_by strict_of s)
  strict_stream = by_end (stream_by strict_of s) strict_front refl strict_is.ends
