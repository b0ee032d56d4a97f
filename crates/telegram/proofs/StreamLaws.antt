-- Laws of a stream, by any reader that advances (`Advances`); document 01's does, `reading_advances`. Read `stream_exactly`: what the stream of a
-- byte string is. Its rule without the count of steps: `stream_done`, `stream_telegram`, `stream_incomplete`, `stream_refused`. Its places add
-- up: `telegrams_end`, `ends_within`, `done_at_end`.
use Prim.Native.Nat.{ℕ, zero, suc, ◌+◌, ◌≤◌, ◌<◌}
use mathlib.Core.List.{List, [], ◌∷◌}
use mathlib.Core.Logic.{◌↔◌}
use mathlib.Core.Path.{◌≡◌, refl, sym, ◌∙◌, ap}
use native.Mathlib.Decide.{dec_le}
use native.Mathlib.Omega.{arith}
use borrow.Author.Tests.{eq-eqb, ne_eqb}
use lib.ListN.{length, drop, length-drop}
use lib.Seq.{drop-drop}
use Rattle.telegram.specs.Reading.{Reading, read_of}
use Rattle.telegram.specs.Reading as reading
use Rattle.telegram.specs.Stream.{Event, Ending, done, incomplete, refused, Stream, ends_at, followed_by, stream_read, stream_from, stream_at, stream_by, stream_of, bytes_in, Chain, no_more, one_more, Ends, at_end, cut, stopped, StreamIs}
use Rattle.telegram.specs.declared.kinds.Telegram.{Telegram}
use Rattle.telegram.specs.declared.kinds.Telegram.TheVariants.{Token, ShortConfirmation}
use Rattle.telegram.proofs.ReadingLaws.{total_within, total_positive}

-- What a stream needs of its reader: a telegram has a byte, and lies within the bytes.
pub record Advances (read : List ℕ → Reading) : Type 0 where
  pub positive : (s : List ℕ) {t : Telegram} {n : ℕ} → read s ≡ reading.whole t n → 1 ≤ n
  pub within : (s : List ℕ) {t : Telegram} {n : ℕ} → read s ≡ reading.whole t n → n ≤ length s

pub reading_advances : Advances read_of
reading_advances = record { positive = total_positive; within = total_within }

module _ {read : List ℕ → Reading} (advances : Advances read) where
  -- ---- the rule without the count of steps

  step_done : (k at : ℕ) (s : List ℕ) → length s ≡ 0 → stream_from read k at s ≡ ends_at at done
  unfolding stream_from
  step_done zero at s h = refl
  step_done (suc k) at s h = rw (eq-eqb _ _ h)

  step_read : (k at : ℕ) (s : List ℕ) → 1 ≤ length s → stream_from read (suc k) at s ≡ stream_read (stream_from read k) at s (read s)
  unfolding stream_from
  step_read k at s h = rw (ne_eqb (length s) 0 (λ e. omega arith))

  -- more steps than there are bytes change nothing
  pub enough : (k m at : ℕ) (s : List ℕ) → length s ≤ k → length s ≤ m → stream_from read k at s ≡ stream_from read m at s
  enough zero m at s h j = step_done zero at s (omega arith) ∙ sym (step_done m at s (omega arith))
  enough (suc k) zero at s h j = step_done (suc k) at s (omega arith) ∙ sym (step_done zero at s (omega arith))
  enough (suc k) (suc m) at s h j = go (dec_le 1 (length s)) (enough k m)
    where
      answer : (r : Reading) → read s ≡ r
          → ((at : ℕ) (s : List ℕ) → length s ≤ k → length s ≤ m → stream_from read k at s ≡ stream_from read m at s)
          → stream_read (stream_from read k) at s r ≡ stream_read (stream_from read m) at s r
      answer (reading.whole t n) e rest =
          let some = advances.positive s e in
          let left = length-drop n s in
          ap (followed_by (record { at = at; telegram = t; len = n })) (rest (at + n) (drop n s) (omega arith) (omega arith))
      answer reading.incomplete e rest = refl
      answer (reading.refused number) e rest = refl

      go : Dec (1 ≤ length s)
          → ((at : ℕ) (s : List ℕ) → length s ≤ k → length s ≤ m → stream_from read k at s ≡ stream_from read m at s)
          → stream_from read (suc k) at s ≡ stream_from read (suc m) at s
      go (yes some) rest = step_read k at s some ∙ answer (read s) refl rest ∙ sym (step_read m at s some)
      go (no none) rest = step_done (suc k) at s (omega arith) ∙ sym (step_done (suc m) at s (omega arith))

  module _ (at : ℕ) (s : List ℕ) where
    pub stream_done : length s ≡ 0 → stream_at read at s ≡ ends_at at done
    stream_done h = step_done (length s) at s h

    -- a step with as many steps behind it as there are bytes
    one_step : 1 ≤ length s → stream_at read at s ≡ stream_read (stream_from read (length s)) at s (read s)
    one_step h = enough (length s) (suc (length s)) at s (omega arith) (omega arith) ∙ step_read (length s) at s h

    pub stream_telegram : {t : Telegram} {n : ℕ} → read s ≡ reading.whole t n
        → stream_at read at s ≡ followed_by (record { at = at; telegram = t; len = n }) (stream_at read (at + n) (drop n s))
    stream_telegram {t} {n} e =
        let some = advances.positive s e in
        let within = advances.within s e in
        let left = length-drop n s in
        one_step (omega arith) ∙ ap (stream_read (stream_from read (length s)) at s) e
        ∙ ap (followed_by (record { at = at; telegram = t; len = n })) (enough (length s) (length (drop n s)) (at + n) (drop n s) (omega arith) (omega arith))

    pub stream_incomplete : 1 ≤ length s → read s ≡ reading.incomplete → stream_at read at s ≡ ends_at at incomplete
    stream_incomplete h e = one_step h ∙ ap (stream_read (stream_from read (length s)) at s) e

    pub stream_refused : {number : ℕ} → 1 ≤ length s → read s ≡ reading.refused number → stream_at read at s ≡ ends_at at (refused number)
    stream_refused h e = one_step h ∙ ap (stream_read (stream_from read (length s)) at s) e

  -- ---- what a stream is, exactly

  module _ (s : List ℕ) where
    at_the_end : (at : ℕ) → at ≡ length s → StreamIs read s at (stream_at read at (drop at s))
    at_the_end at e =
        let left = length-drop at s in
        rw (stream_done at (drop at s) (omega arith)) (record { telegrams = no_more; ends = at_end e })

    -- before the end, where the stream behind a telegram is one
    at_a_byte : (at : ℕ) → at < length s → ((n : ℕ) → 1 ≤ n → at + n ≤ length s → StreamIs read s (at + n) (stream_at read (at + n) (drop (at + n) s)))
        → (r : Reading) → read (drop at s) ≡ r
        → StreamIs read s at (stream_at read at (drop at s))
    at_a_byte at h rest (reading.whole t n) e =
        let within = advances.within (drop at s) e in
        let left = length-drop at s in
        let behind = rest n (advances.positive (drop at s) e) (omega arith) in
        rw (stream_telegram at (drop at s) e, drop-drop n at s) (record { telegrams = one_more e behind.telegrams; ends = behind.ends })
    at_a_byte at h rest reading.incomplete e =
        let left = length-drop at s in
        rw (stream_incomplete at (drop at s) (omega arith) e) (record { telegrams = no_more; ends = cut h e })
    at_a_byte at h rest (reading.refused number) e =
        let left = length-drop at s in
        rw (stream_refused at (drop at s) (omega arith) e) (record { telegrams = no_more; ends = stopped h e })

    -- the stream from a place on is one; k is at least what is left
    is_stream : (k at : ℕ) → at ≤ length s → length s ≤ at + k → StreamIs read s at (stream_at read at (drop at s))
    is_stream zero at h j = at_the_end at (omega arith)
    is_stream (suc k) at h j = go (dec_le (length s) at) (λ n some within. is_stream k (at + n) within (omega arith))
      where
        go : Dec (length s ≤ at) → ((n : ℕ) → 1 ≤ n → at + n ≤ length s → StreamIs read s (at + n) (stream_at read (at + n) (drop (at + n) s)))
            → StreamIs read s at (stream_at read at (drop at s))
        go (yes e) rest = at_the_end at (omega arith)
        go (no b) rest = at_a_byte at (omega arith) rest (read (drop at s)) refl

    pub stream_is : (at : ℕ) → at ≤ length s → StreamIs read s at (stream_at read at (drop at s))
    stream_is at h = is_stream (length s) at h (omega arith)

    -- and there is no other
    one_end : {at : ℕ} {ending : Ending} → Ends read s at ending → stream_at read at (drop at s) ≡ ends_at at ending
    one_end {at} (at_end e) = stream_done at (drop at s) (omega (arith, length-drop at s))
    one_end {at} (cut h e) = stream_incomplete at (drop at s) (omega (arith, length-drop at s)) e
    one_end {at} (stopped h e) = stream_refused at (drop at s) (omega (arith, length-drop at s)) e

    one_stream : {at end : ℕ} {telegrams : List Event} {ending : Ending}
        → Chain read s at telegrams end → Ends read s end ending
        → stream_at read at (drop at s) ≡ record { telegrams = telegrams; ending = ending; at = end }
    one_stream no_more x = one_end x
    one_stream {at} (one_more {n = n} {t = t} e more) x =
        stream_telegram at (drop at s) e
        ∙ ap (λ (rest : List ℕ). followed_by (record { at = at; telegram = t; len = n }) (stream_at read (at + n) rest)) (drop-drop n at s)
        ∙ ap (followed_by (record { at = at; telegram = t; len = n })) (one_stream more x)

    -- The stream of a byte string: telegram behind telegram, each what the reader finds at its place, up to an end for its reason.
    pub stream_exactly : (stream : Stream) → stream_by read s ≡ stream ↔ StreamIs read s 0 stream
    stream_exactly stream = (λ e. rw e at (stream_is 0 (omega arith)), λ k. one_stream k.telegrams k.ends)

  -- ---- its places add up

  pub places_add_up : {s : List ℕ} {at end : ℕ} {telegrams : List Event} → Chain read s at telegrams end → at + bytes_in telegrams ≡ end
  places_add_up no_more = omega arith
  places_add_up (one_more e more) = omega (arith, places_add_up more)

  module _ (s : List ℕ) where
    -- the telegrams stand in front of the place where the stream ends
    pub telegrams_end : bytes_in (stream_by read s).telegrams ≡ (stream_by read s).at
    telegrams_end = omega (arith, places_add_up (stream_is s 0 (omega arith)).telegrams)

    -- which is no place beyond the input
    pub ends_within : (stream_by read s).at ≤ length s
    ends_within = go (stream_is s 0 (omega arith)).ends
      where
        go : {at : ℕ} {ending : Ending} → Ends read s at ending → at ≤ length s
        go (at_end e) = omega arith
        go (cut h e) = omega arith
        go (stopped h e) = omega arith

    -- and, done, the input's end
    pub done_at_end : (stream_by read s).ending ≡ done → (stream_by read s).at ≡ length s
    done_at_end = go (stream_is s 0 (omega arith)).ends
      where
        go : {at : ℕ} {ending : Ending} → Ends read s at ending → ending ≡ done → at ≡ length s
        go (at_end e) x = e
        go (cut h e) x = let z : ◌≡◌ {A = ℕ} 0 1 = cc in absurd (omega arith)
        go (stopped h e) x = let z : ◌≡◌ {A = ℕ} 0 1 = cc in absurd (omega arith)

-- ---- by example

abbrev ack : ℕ → Event
ack at = record { at = at; telegram = ShortConfirmation; len = 1 }

abbrev token : ℕ → ℕ → ℕ → Event
token at da sa = record { at = at; telegram = Token (record { da = record { 0 = da }; sa = record { 0 = sa } }); len = 3 }

-- two telegrams, and each of the three ends behind them
pub stream_samples : (stream_of (0xE5 ∷ 0xDC ∷ 0x05 ∷ 0x02 ∷ []) ≡ followed_by (ack 0) (followed_by (token 1 5 2) (ends_at 4 done)))
    × (stream_of (0xE5 ∷ 0xDC ∷ 0x05 ∷ 0x02 ∷ 0xDC ∷ 0x05 ∷ []) ≡ followed_by (ack 0) (followed_by (token 1 5 2) (ends_at 4 incomplete)))
    × (stream_of (0xE5 ∷ 0xDC ∷ 0x05 ∷ 0x02 ∷ 0x00 ∷ 0xE5 ∷ []) ≡ followed_by (ack 0) (followed_by (token 1 5 2) (ends_at 4 (refused 1))))
unfolding read_of stream_from
stream_samples = (refl, refl, refl)
