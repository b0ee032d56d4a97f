-- Every answer of reading, with what is known where it is given (`Answered`): the laws of reading go by these cases. Read `answered` and
-- `answer_is`, the two ways, and `steps_read`: the table of document 01 and the steps of our reader answer alike.
use Rattle.std.proofs.Common.{None, Option, Some}
use Prim.Native.Nat.{ℕ, suc, ◌+◌, ◌<◌, ◌≤◌}
use mathlib.Core.Bool.{Bool, true, false, not}
use mathlib.Core.List.{List}
use mathlib.Core.Logic.{◌⊎◌, inl, inr, ⊎_elim}
use mathlib.Core.Path.{◌≡◌, refl, ◌∙◌}
use native.Mathlib.Omega.{arith}
use lib.Dec.{eqb, ltb}
use lib.ListN.{length}
use borrow.Author.Tests.{ltb-true, ltb-false, eqb-true, eqb-false, not-true, not-false, lt-ltb, le-ltb, eq-eqb, ne_eqb}
use Rattle.ground.proofs.Injective.{zero_one}
use Rattle.ground.proofs.PickLaws.{picked}
use Rattle.codes.specs.Checksums.{checksum_of}
use Rattle.codes.specs.FunctionCodes.{function_code_of, is_read}
use Rattle.ground.specs.Part.{part, byte_at}
use Rattle.ground.specs.Pick.{if}
use Rattle.codes.specs.declared.function_code.FunctionCode.{FunctionCode}
use Rattle.codes.specs.Delimiters.{SD1, SD2, SD3, SD4, SC, ED}
use Rattle.telegram.specs.Leaves.{content_of, code_of, frame_of, lengths_of, data_of, token_of, steps_of}
use Rattle.telegram.specs.Reading.{Reading, whole, incomplete, refused, saps_at, telegram_at, token_at, starts_data, data_read, read_of}
use Rattle.telegram.specs.declared.kinds.DataTelegram.{DataTelegram}
use Rattle.telegram.specs.declared.kinds.Telegram.{Telegram}
use Rattle.telegram.specs.declared.kinds.Telegram.TheVariants.{Data, Token, ShortConfirmation}

-- A first byte of a data telegram.
abbrev pub DataStart : ℕ → Type 0
DataStart b = (b ≡ SD1) ⊎ ((b ≡ SD2) ⊎ (b ≡ SD3))

-- What each step of our reader answers where its tests are decided, from the first byte on.
module _ (s : List ℕ) where
  steps_token : (length s ≡ 0 → ⊥) → byte_at s 0 ≡ SD4 → steps_of s ≡ token_of s
  unfolding steps_of
  steps_token h e = rw (ne_eqb _ _ h, e)

  steps_data : (length s ≡ 0 → ⊥) → DataStart (byte_at s 0) → steps_of s ≡ data_of s
  unfolding steps_of
  steps_data h (inl e) = rw (ne_eqb _ _ h, e)
  steps_data h (inr (inl e)) = rw (ne_eqb _ _ h, e)
  steps_data h (inr (inr e)) = rw (ne_eqb _ _ h, e)

-- Steps 5 to 7.
pub data Content (s : List ℕ) (at l : ℕ) (fc : FunctionCode) : Reading → Type 0 where
  sap_missing : l < 3 + saps_at s at → Content s at l fc (refused 5)
  sum_differs :
      3 + saps_at s at ≤ l → (byte_at s (at + l) ≡ checksum_of (part s at (at + l)) → ⊥)
      → Content s at l fc (refused 6)
  end_differs :
      3 + saps_at s at ≤ l → byte_at s (at + l) ≡ checksum_of (part s at (at + l)) → (byte_at s (at + l + 1) ≡ ED → ⊥)
      → Content s at l fc (refused 7)
  content_whole :
      3 + saps_at s at ≤ l → byte_at s (at + l) ≡ checksum_of (part s at (at + l)) → byte_at s (at + l + 1) ≡ ED
      → Content s at l fc (whole (Data (telegram_at s at l fc)) (at + l + 2))

-- Where the content is whole, what is read is of its length; and a data telegram that is read is the one that stands there.
pub whole_length : {s : List ℕ} {at l : ℕ} (fc : FunctionCode) {t : Telegram} {n : ℕ} → Content s at l fc (whole t n) → n ≡ at + l + 2
whole_length fc (content_whole f a b) = refl

pub whole_data :
    {s : List ℕ} {at l : ℕ} (fc : FunctionCode) {d : DataTelegram} {n : ℕ}
    → Content s at l fc (whole (Data d) n) → d ≡ telegram_at s at l fc
whole_data fc (content_whole f a b) = refl

pub whole_saps : {s : List ℕ} {at l : ℕ} (fc : FunctionCode) {t : Telegram} {n : ℕ} → Content s at l fc (whole t n) → 3 + saps_at s at ≤ l
whole_saps fc (content_whole f a b) = f

-- Steps 3 and 4.
pub data Frame (s : List ℕ) (at l : ℕ) : Reading → Type 0 where
  under_total : length s < at + l + 2 → Frame s at l incomplete
  code_unknown : at + l + 2 ≤ length s → function_code_of (byte_at s (at + 2)) ≡ None → Frame s at l (refused 4)
  code_known :
      {r : Reading} (fc : FunctionCode)
      → at + l + 2 ≤ length s → function_code_of (byte_at s (at + 2)) ≡ Some fc → Content s at l fc r
      → Frame s at l r

-- Steps 1 and 2, and what stands before them.
pub data Answered (s : List ℕ) : Reading → Type 0 where
  nothing : length s ≡ 0 → Answered s incomplete
  confirmation : 1 ≤ length s → byte_at s 0 ≡ SC → Answered s (whole ShortConfirmation 1)
  token_short : 1 ≤ length s → byte_at s 0 ≡ SD4 → length s < 3 → Answered s incomplete
  token_whole : 3 ≤ length s → byte_at s 0 ≡ SD4 → Answered s (whole (Token (token_at s)) 3)
  unknown :
      1 ≤ length s → (byte_at s 0 ≡ SC → ⊥) → (byte_at s 0 ≡ SD4 → ⊥) → (DataStart (byte_at s 0) → ⊥)
      → Answered s (refused 1)
  data_short : 1 ≤ length s → DataStart (byte_at s 0) → length s < 6 → Answered s incomplete
  lengths_differ : 6 ≤ length s → byte_at s 0 ≡ SD2 → (byte_at s 1 ≡ byte_at s 2 → ⊥) → Answered s (refused 2)
  length_small : 6 ≤ length s → byte_at s 0 ≡ SD2 → byte_at s 1 ≡ byte_at s 2 → byte_at s 1 < 3 → Answered s (refused 3)
  sd1 : {r : Reading} → 6 ≤ length s → byte_at s 0 ≡ SD1 → Frame s 1 3 r → Answered s r
  sd2 :
      {r : Reading} → 6 ≤ length s → byte_at s 0 ≡ SD2 → byte_at s 1 ≡ byte_at s 2 → 3 ≤ byte_at s 1 → Frame s 4 (byte_at s 1) r
      → Answered s r
  sd3 : {r : Reading} → 6 ≤ length s → byte_at s 0 ≡ SD3 → Frame s 1 11 r → Answered s r

pub content_answered : (s : List ℕ) (at l : ℕ) (fc : FunctionCode) → Content s at l fc (content_of s at l fc)
unfolding content_of
content_answered s at l fc =
    picked (Content s at l fc) (ltb l (3 + saps_at s at)) (λ e. sap_missing (ltb-true _ _ e))
    (λ fits. picked (Content s at l fc) (not (eqb (byte_at s (at + l)) (checksum_of (part s at (at + l)))))
    (λ e. sum_differs (ltb-false _ _ fits) (eqb-false _ _ (not-true _ e)))
    (λ sum. picked (Content s at l fc) (not (eqb (byte_at s (at + l + 1)) ED))
    (λ e. end_differs (ltb-false _ _ fits) (eqb-true _ _ (not-false _ sum)) (eqb-false _ _ (not-true _ e)))
    (λ e. content_whole (ltb-false _ _ fits) (eqb-true _ _ (not-false _ sum)) (eqb-true _ _ (not-false _ e)))))

code_answered :
    (s : List ℕ) (at l : ℕ) → at + l + 2 ≤ length s
    → (found : Option FunctionCode) → function_code_of (byte_at s (at + 2)) ≡ found
    → Frame s at l (code_of s at l found)
code_answered s at l h (Some fc) e = code_known fc h e (content_answered s at l fc)
code_answered s at l h None e = code_unknown h e

frame_answered : (s : List ℕ) (at l : ℕ) → Frame s at l (frame_of s at l)
unfolding frame_of
frame_answered s at l =
    picked (Frame s at l) (ltb (length s) (at + l + 2)) (λ e. under_total (ltb-true _ _ e))
    (λ e. code_answered s at l (ltb-false _ _ e) (function_code_of (byte_at s (at + 2))) refl)

lengths_answered : (s : List ℕ) → 6 ≤ length s → byte_at s 0 ≡ SD2 → Answered s (lengths_of s)
unfolding lengths_of
lengths_answered s h d =
    picked (Answered s) (not (eqb (byte_at s 1) (byte_at s 2))) (λ e. lengths_differ h d (eqb-false _ _ (not-true _ e)))
    (λ same. picked (Answered s) (ltb (byte_at s 1) 3)
    (λ e. length_small h d (eqb-true _ _ (not-false _ same)) (ltb-true _ _ e))
    (λ e. sd2 h d (eqb-true _ _ (not-false _ same)) (ltb-false _ _ e) (frame_answered s 4 (byte_at s 1))))

data_answered : (s : List ℕ) → 1 ≤ length s → DataStart (byte_at s 0) → Answered s (data_of s)
unfolding data_of
data_answered s h d =
    picked (Answered s) (ltb (length s) 6) (λ e. data_short h d (ltb-true _ _ e))
    (λ six. picked (Answered s) (eqb (byte_at s 0) SD1)
    (λ e. sd1 (ltb-false _ _ six) (eqb-true _ _ e) (frame_answered s 1 3))
    (λ not1. picked (Answered s) (eqb (byte_at s 0) SD2)
    (λ e. lengths_answered s (ltb-false _ _ six) (eqb-true _ _ e))
    (λ not2. sd3 (ltb-false _ _ six) (third d (eqb-false _ _ not1) (eqb-false _ _ not2)) (frame_answered s 1 11))))
  where
    third : DataStart (byte_at s 0) → (byte_at s 0 ≡ SD1 → ⊥) → (byte_at s 0 ≡ SD2 → ⊥) → byte_at s 0 ≡ SD3
    third (inl e) a b = absurd (a e)
    third (inr (inl e)) a b = absurd (b e)
    third (inr (inr e)) a b = e

-- One of three tests holds.
one_of : (x y z : Bool) → if x true (if y true z) ≡ true → (x ≡ true) ⊎ ((y ≡ true) ⊎ (z ≡ true))
one_of true y z e = inl refl
one_of false true z e = inr (inl refl)
one_of false false z e = inr (inr e)

pub starts_true : (b : ℕ) → starts_data b ≡ true → DataStart b
starts_true b t =
    ⊎_elim (λ e. inl (eqb-true _ _ e))
    (λ o. inr (⊎_elim (λ e. inl (eqb-true _ _ e)) (λ e. inr (eqb-true _ _ e)) o))
    (one_of (eqb b SD1) (eqb b SD2) (eqb b SD3) t)

starts_false : (b : ℕ) → starts_data b ≡ false → DataStart b → ⊥
starts_false b t (inl e) = zero_one (cc (rw e at t))
starts_false b t (inr (inl e)) = zero_one (cc (rw e at t))
starts_false b t (inr (inr e)) = zero_one (cc (rw e at t))

token_answered : (s : List ℕ) → 1 ≤ length s → byte_at s 0 ≡ SD4 → Answered s (token_of s)
unfolding token_of
token_answered s h d =
    picked (Answered s) (ltb (length s) 3) (λ e. token_short h d (ltb-true _ _ e)) (λ e. token_whole (ltb-false _ _ e) d)

steps_answered : (s : List ℕ) → Answered s (steps_of s)
unfolding steps_of
steps_answered s =
    picked (Answered s) (eqb (length s) 0) (λ e. nothing (eqb-true _ _ e))
    (λ some. picked (Answered s) (eqb (byte_at s 0) SC)
    (λ e. confirmation (filled (eqb-false _ _ some)) (eqb-true _ _ e))
    (λ not-sc. picked (Answered s) (eqb (byte_at s 0) SD4)
    (λ e. token_answered s (filled (eqb-false _ _ some)) (eqb-true _ _ e))
    (λ not-sd4. picked (Answered s) (starts_data (byte_at s 0))
    (λ e. data_answered s (filled (eqb-false _ _ some)) (starts_true _ e))
    (λ e. unknown (filled (eqb-false _ _ some)) (eqb-false _ _ not-sc) (eqb-false _ _ not-sd4) (starts_false _ e)))))
  where
    filled : (length s ≡ 0 → ⊥) → 1 ≤ length s
    filled h = omega arith

pub answer_content :
    {s : List ℕ} {at l : ℕ} {fc : FunctionCode} {r : Reading} → Content s at l fc r
    → content_of s at l fc ≡ r
unfolding content_of
answer_content (sap_missing h) = rw (lt-ltb _ _ h)
answer_content (sum_differs h e) = rw (le-ltb _ _ h, ne_eqb _ _ e)
answer_content (end_differs h e d) = rw (le-ltb _ _ h, eq-eqb _ _ e, ne_eqb _ _ d)
answer_content (content_whole h e d) = rw (le-ltb _ _ h, eq-eqb _ _ e, eq-eqb _ _ d)

-- A function code that is known: the rest of the telegram decides.
pub code_read :
    (s : List ℕ) (at l : ℕ) (fc : FunctionCode)
    → at + l + 2 ≤ length s → function_code_of (byte_at s (at + 2)) ≡ Some fc
    → frame_of s at l ≡ content_of s at l fc
unfolding frame_of
code_read s at l fc h e = rw (le-ltb _ _ h, e)

-- ---- the table of document 01

-- the last lines, from step 3 on, where da stands at a place with l bytes from there through the PDU
abbrev tail : List ℕ → ℕ → ℕ → Reading
tail s at l =
    if (ltb (length s) (at + l + 2)) incomplete
    (if (not (is_read (function_code_of (byte_at s (at + 2))))) (refused 4)
    (if (ltb l (3 + saps_at s at)) (refused 5)
    (if (not (eqb (byte_at s (at + l)) (checksum_of (part s at (at + l))))) (refused 6)
    (if (not (eqb (byte_at s (at + l + 1)) ED)) (refused 7)
    (data_read s at l (function_code_of (byte_at s (at + 2))))))))

tail_known :
    {s : List ℕ} {at l : ℕ} (fc : FunctionCode) {r : Reading}
    → at + l + 2 ≤ length s → function_code_of (byte_at s (at + 2)) ≡ Some fc → Content s at l fc r
    → tail s at l ≡ r
tail_known fc h e (sap_missing f) = rw (le-ltb _ _ h, e, lt-ltb _ _ f)
tail_known fc h e (sum_differs f d) = rw (le-ltb _ _ h, e, le-ltb _ _ f, ne_eqb _ _ d)
tail_known fc h e (end_differs f d g) = rw (le-ltb _ _ h, e, le-ltb _ _ f, eq-eqb _ _ d, ne_eqb _ _ g)
tail_known fc h e (content_whole f d g) = rw (le-ltb _ _ h, e, le-ltb _ _ f, eq-eqb _ _ d, eq-eqb _ _ g)

tail_is : {s : List ℕ} {at l : ℕ} {r : Reading} → Frame s at l r → tail s at l ≡ r
tail_is (under_total h) = rw (lt-ltb _ _ h)
tail_is (code_unknown h e) = rw (le-ltb _ _ h, e)
tail_is (code_known fc h e c) = tail_known fc h e c

pub some_bytes : {n k : ℕ} → suc k ≤ n → eqb n 0 ≡ false
some_bytes {n} {k} h = ne_eqb n 0 (λ e. omega arith)

-- Where there is a reason for an answer, the table gives it.
pub answer_is : {s : List ℕ} {r : Reading} → Answered s r → read_of s ≡ r
unfolding read_of
answer_is (nothing h) = rw (eq-eqb _ _ h)
answer_is (confirmation h e) = rw (some_bytes h, e)
answer_is (token_short h e l) = rw (some_bytes h, e, lt-ltb _ _ l)
answer_is (token_whole h e) = rw (some_bytes h, e, le-ltb _ _ h)
answer_is (unknown h a b d) =
    rw (
      some_bytes h,
      ne_eqb _ _ a,
      ne_eqb _ _ b,
      ne_eqb _ _ (λ e. d (inl e)),
      ne_eqb _ _ (λ e. d (inr (inl e))),
      ne_eqb _ _ (λ e. d (inr (inr e))),
    )
answer_is (data_short h (inl e) l) = rw (some_bytes h, e, lt-ltb _ _ l)
answer_is (data_short h (inr (inl e)) l) = rw (some_bytes h, e, lt-ltb _ _ l)
answer_is (data_short h (inr (inr e)) l) = rw (some_bytes h, e, lt-ltb _ _ l)
answer_is (lengths_differ h d e) = rw (some_bytes h, d, le-ltb _ _ h, ne_eqb _ _ e)
answer_is (length_small h d e l) = rw (some_bytes h, d, le-ltb _ _ h, eq-eqb _ _ e, lt-ltb _ _ l)
-- (of SD1 the total is 6, so that step 1 is step 3)
answer_is (sd1 h d f) = rw (some_bytes h, d, le-ltb _ _ h) (rw (le-ltb _ _ h) at (tail_is f))
answer_is (sd2 h d e l f) = rw (some_bytes h, d, le-ltb _ _ h, eq-eqb _ _ e, le-ltb _ _ l) (tail_is f)
answer_is (sd3 h d f) = rw (some_bytes h, d, le-ltb _ _ h) (tail_is f)

-- The table and the steps of our reader answer alike.
pub steps_read : (s : List ℕ) → read_of s ≡ steps_of s
steps_read s = answer_is (steps_answered s)

-- Every answer is given for its reason.
pub answered : (s : List ℕ) → Answered s (read_of s)
answered s = rw (steps_read s) (steps_answered s)

-- What a first byte leads to, for the reader's proof.
module _ (s : List ℕ) where
  filled : (length s ≡ 0 → ⊥) → 1 ≤ length s
  filled h = omega arith

  pub nothing_read : length s ≡ 0 → read_of s ≡ incomplete
  nothing_read h = answer_is (nothing h)

  pub confirmation_read : (length s ≡ 0 → ⊥) → byte_at s 0 ≡ SC → read_of s ≡ whole ShortConfirmation 1
  confirmation_read h e = answer_is (confirmation (filled h) e)

  pub token_start : (length s ≡ 0 → ⊥) → byte_at s 0 ≡ SD4 → read_of s ≡ token_of s
  token_start h e = steps_read s ∙ steps_token s h e

  pub data_start : (length s ≡ 0 → ⊥) → DataStart (byte_at s 0) → read_of s ≡ data_of s
  data_start h d = steps_read s ∙ steps_data s h d
