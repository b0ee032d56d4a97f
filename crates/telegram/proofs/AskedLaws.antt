-- Incomplete means something: bytes are incomplete exactly where there are fewer than their own bytes ask for, `incomplete_exactly`; a telegram is as
-- long as its bytes ask, `telegram_asked`; and no more than 261 are ever asked for, `asked_small`.
use Prim.Native.Nat.{ℕ, ◌+◌, ◌<◌, ◌≤◌}
use mathlib.Core.List.{List}
use mathlib.Core.Logic.{◌↔◌, inl, inr}
use mathlib.Core.Path.{◌≡◌, refl, sym, ◌∙◌}
use native.Mathlib.Omega.{arith}
use lib.ListN.{length}
use borrow.Author.Tests.{lt-ltb, le-ltb, eq-eqb, ne_eqb}
use Rattle.codes.specs.Delimiters.{SD1, SD2, SD3, SD4, SC}
use Rattle.ground.specs.Part.{byte_at}
use Rattle.telegram.proofs.Answers.{DataStart, Frame, under_total, code_unknown, code_known, sap_missing, sum_differs, end_differs, whole_length, Answered, nothing, confirmation, token_short, token_whole, unknown, data_short, lengths_differ, length_small, sd1, sd2, sd3, some_bytes}
use Rattle.telegram.proofs.ReadingLaws.{reason}
use Rattle.telegram.specs.Asked.{asked_of}
use Rattle.telegram.specs.Begins.{Bytes}
use Rattle.telegram.specs.Reading.{Reading, whole, incomplete, refused, read_of}
use Rattle.telegram.specs.declared.kinds.Telegram.{Telegram}

-- ---- what is asked for, where the tests are decided

module _ (s : List ℕ) where
  asked_nothing : length s ≡ 0 → asked_of s ≡ 1
  unfolding asked_of
  asked_nothing h = rw (eq-eqb _ _ h)

  asked_confirmation : 1 ≤ length s → byte_at s 0 ≡ SC → asked_of s ≡ 1
  unfolding asked_of
  asked_confirmation h e = rw (some_bytes h, e)

  asked_token : 1 ≤ length s → byte_at s 0 ≡ SD4 → asked_of s ≡ 3
  unfolding asked_of
  asked_token h e = rw (some_bytes h, e)

  asked_unknown : 1 ≤ length s → (byte_at s 0 ≡ SD4 → ⊥) → (DataStart (byte_at s 0) → ⊥) → asked_of s ≡ 1
  unfolding asked_of
  asked_unknown h a d =
      rw (
        some_bytes h,
        ne_eqb _ _ a,
        ne_eqb _ _ (λ e. d (inl e)),
        ne_eqb _ _ (λ e. d (inr (inl e))),
        ne_eqb _ _ (λ e. d (inr (inr e))),
      )

  asked_six : 1 ≤ length s → DataStart (byte_at s 0) → length s < 6 → asked_of s ≡ 6
  unfolding asked_of
  asked_six h (inl e) l = rw (some_bytes h, e, lt-ltb _ _ l)
  asked_six h (inr (inl e)) l = rw (some_bytes h, e, lt-ltb _ _ l)
  asked_six h (inr (inr e)) l = rw (some_bytes h, e, lt-ltb _ _ l)

  asked_differ : 6 ≤ length s → byte_at s 0 ≡ SD2 → (byte_at s 1 ≡ byte_at s 2 → ⊥) → asked_of s ≡ 6
  unfolding asked_of
  asked_differ h d e = rw (some_bytes h, d, le-ltb _ _ h, ne_eqb _ _ e)

  asked_low : 6 ≤ length s → byte_at s 0 ≡ SD2 → byte_at s 1 ≡ byte_at s 2 → byte_at s 1 < 3 → asked_of s ≡ 6
  unfolding asked_of
  asked_low h d e l = rw (some_bytes h, d, le-ltb _ _ h, eq-eqb _ _ e, lt-ltb _ _ l)

  asked_sd1 : 6 ≤ length s → byte_at s 0 ≡ SD1 → asked_of s ≡ 1 + 3 + 2
  unfolding asked_of
  asked_sd1 h d = rw (some_bytes h, d, le-ltb _ _ h)

  asked_sd2 : 6 ≤ length s → byte_at s 0 ≡ SD2 → byte_at s 1 ≡ byte_at s 2 → 3 ≤ byte_at s 1 → asked_of s ≡ 4 + byte_at s 1 + 2
  unfolding asked_of
  asked_sd2 h d e l = rw (some_bytes h, d, le-ltb _ _ h, eq-eqb _ _ e, le-ltb _ _ l)

  asked_sd3 : 6 ≤ length s → byte_at s 0 ≡ SD3 → asked_of s ≡ 1 + 11 + 2
  unfolding asked_of
  asked_sd3 h d = rw (some_bytes h, d, le-ltb _ _ h)

-- ---- and the answer

frame_short : {s : List ℕ} {at l : ℕ} → Frame s at l incomplete → length s < at + l + 2
frame_short (under_total h) = h
frame_short {s = s} {at = at} {l = l} (code_known fc g e c) = elim c [ ]

frame_refused : {s : List ℕ} {at l k : ℕ} → Frame s at l (refused k) → at + l + 2 ≤ length s
frame_refused (code_unknown h e) = h
frame_refused (code_known fc h e (sap_missing f)) = h
frame_refused (code_known fc h e (sum_differs f a)) = h
frame_refused (code_known fc h e (end_differs f a b)) = h

too_few : {s : List ℕ} → Answered s incomplete → length s < asked_of s
too_few (nothing h) = rw (asked_nothing _ h) (omega arith)
too_few (token_short h e l) = rw (asked_token _ h e) l
too_few (data_short h d l) = rw (asked_six _ h d l) l
too_few (sd1 h d f) = rw (asked_sd1 _ h d) (frame_short f)
too_few (sd2 h d e l f) = rw (asked_sd2 _ h d e l) (frame_short f)
too_few (sd3 h d f) = rw (asked_sd3 _ h d) (frame_short f)

refused_enough : {s : List ℕ} {k : ℕ} → Answered s (refused k) → asked_of s ≤ length s
refused_enough (unknown h a b d) = rw (asked_unknown _ h b d) h
refused_enough (lengths_differ h d e) = rw (asked_differ _ h d e) h
refused_enough (length_small h d e l) = rw (asked_low _ h d e l) h
refused_enough (sd1 h d f) = rw (asked_sd1 _ h d) (frame_refused f)
refused_enough (sd2 h d e l f) = rw (asked_sd2 _ h d e l) (frame_refused f)
refused_enough (sd3 h d f) = rw (asked_sd3 _ h d) (frame_refused f)

whole_asked : {s : List ℕ} {t : Telegram} {n : ℕ} → Answered s (whole t n) → (asked_of s ≡ n) × (n ≤ length s)
whole_asked (confirmation h e) = (asked_confirmation _ h e, h)
whole_asked (token_whole h e) = (asked_token _ (omega arith) e, h)
whole_asked (sd1 h d (code_known fc g e c)) = (asked_sd1 _ h d ∙ sym (whole_length fc c), omega (arith, whole_length fc c))
whole_asked (sd2 h d q l (code_known fc g e c)) = (asked_sd2 _ h d q l ∙ sym (whole_length fc c), omega (arith, whole_length fc c))
whole_asked (sd3 h d (code_known fc g e c)) = (asked_sd3 _ h d ∙ sym (whole_length fc c), omega (arith, whole_length fc c))

-- A telegram is as long as its bytes ask.
pub telegram_asked : (s : List ℕ) {t : Telegram} {n : ℕ} → read_of s ≡ whole t n → asked_of s ≡ n
telegram_asked s e = (whole_asked (reason s e)).0

-- Bytes are incomplete exactly where there are fewer than they ask for.
pub incomplete_exactly : (s : List ℕ) → read_of s ≡ incomplete ↔ length s < asked_of s
incomplete_exactly s = (λ e. too_few (reason s e), λ few. by_answer few (read_of s) refl)
  where
    by_answer : length s < asked_of s → (r : Reading) → read_of s ≡ r → read_of s ≡ incomplete
    by_answer few (whole t n) e = let told = whole_asked (reason s e) in absurd (omega (arith, few, told.0, told.1))
    by_answer few incomplete e = e
    by_answer few (refused k) e = absurd (omega (arith, few, refused_enough (reason s e)))

asked_most : {s : List ℕ} {r : Reading} → Bytes s → Answered s r → asked_of s ≤ 261
asked_most byte (nothing h) = rw (asked_nothing _ h) (omega arith)
asked_most byte (confirmation h e) = rw (asked_confirmation _ h e) (omega arith)
asked_most byte (token_short h e l) = rw (asked_token _ h e) (omega arith)
asked_most {s} byte (token_whole h e) = let n = asked_token s (omega arith) e in omega (arith, n)
asked_most byte (unknown h a b d) = rw (asked_unknown _ h b d) (omega arith)
asked_most byte (data_short h d l) = rw (asked_six _ h d l) (omega arith)
asked_most byte (lengths_differ h d e) = rw (asked_differ _ h d e) (omega arith)
asked_most byte (length_small h d e l) = rw (asked_low _ h d e l) (omega arith)
asked_most byte (sd1 h d f) = rw (asked_sd1 _ h d) (omega arith)
asked_most {s} byte (sd2 h d e l f) = let n = asked_sd2 s h d e l in omega (arith, byte 1, n)
asked_most byte (sd3 h d f) = rw (asked_sd3 _ h d) (omega arith)

-- No more than 261 bytes are ever asked for.
pub asked_small : (s : List ℕ) → Bytes s → asked_of s ≤ 261
asked_small s byte = asked_most byte (reason s {r = read_of s} refl)
