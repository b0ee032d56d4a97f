-- Reading looks at a telegram's own bytes alone: byte strings that agree so far are answered alike. Read `answer_lasts`, `own_bytes`,
-- `shorter_incomplete`.
use Prim.Native.Nat.{ℕ, ◌+◌, ◌<◌, ◌≤◌, min}
use mathlib.Core.Bool.{Bool, true, false}
use mathlib.Core.List.{List, ◌++◌}
use mathlib.Core.Path.{◌≡◌, refl, sym, ◌∙◌, subst}
use native.Mathlib.Nat.{add-zero, add_assoc, le_refl}
use native.Mathlib.Omega.{arith}
use lib.ListN.{length, take, drop, length-take, length-append, take-append-drop, get_or-append}
use lib.Seq.{ext_get_or, get_or-take}
use Rattle.ground.proofs.BitLaws.{digit_small}
use Rattle.ground.proofs.Injective.{zero_one}
use Rattle.ground.proofs.PartLaws.{part_length, part_at}
use Rattle.ground.specs.Bits.{digit}
use Rattle.ground.specs.Part.{part, byte_at}
use Rattle.codes.specs.declared.function_code.FunctionCode.{FunctionCode}
use Rattle.telegram.proofs.Answers.{Content, sap_missing, sum_differs, end_differs, content_whole, Frame, under_total, code_unknown, code_known, Answered, nothing, confirmation, token_short, token_whole, unknown, data_short, lengths_differ, length_small, sd1, sd2, sd3, content_answered, answer_content, answer_is}
use Rattle.telegram.proofs.ReadingLaws.{reason, total_within}
use Rattle.telegram.specs.Leaves.{content_of}
use Rattle.telegram.specs.Reading.{Reading, whole, incomplete, refused, top, sap_at, header_at, saps_at, read_of}
use Rattle.telegram.specs.declared.kinds.Telegram.{Telegram}

-- The header and its SAPs stand in five bytes: where these are the same from two places on, so are they.
module _ (s u : List ℕ) (at to : ℕ) (same : (k : ℕ) → k ≤ 4 → byte_at s (at + k) ≡ byte_at u (to + k)) where
  first_same : byte_at s at ≡ byte_at u to
  first_same = simp add-zero at (same 0 (omega arith))

  pub saps_same : saps_at s at ≡ saps_at u to
  unfolding saps_at
  saps_same = rw (first_same, same 1 (omega arith))

  sap_same : (t : Bool) (k : ℕ) → k ≤ 4 → sap_at t s (at + k) ≡ sap_at t u (to + k)
  sap_same true k h = rw (same k h)
  sap_same false k h = refl

  ssap_same : (t v : Bool) → sap_at t s (at + 3 + digit v) ≡ sap_at t u (to + 3 + digit v)
  ssap_same t v = rw (add_assoc at 3 (digit v), add_assoc to 3 (digit v)) (sap_same t (3 + digit v) (omega (arith, digit_small v)))

  pub header_same : (fc : FunctionCode) → header_at s at fc ≡ header_at u to fc
  unfolding header_at
  header_same fc = rw (first_same, same 1 (omega arith), sap_same (top (byte_at u to)) 3 (omega arith), ssap_same (top (byte_at u (to + 1))) (top (byte_at u to)))

-- Two byte strings agree in their first m bytes.
pub record Agree (m : ℕ) (s u : List ℕ) : Type 0 where
  pub left : m ≤ length s
  pub right : m ≤ length u
  pub same : (i : ℕ) → i < m → byte_at s i ≡ byte_at u i

-- m bytes reach for an answer to a string of k bytes: a telegram's own bytes, or all of a string that is refused.
abbrev Reaches : ℕ → ℕ → Reading → Type 0
Reaches m k (whole t n) = n ≤ m
Reaches m k incomplete = ⊥
Reaches m k (refused i) = k ≤ m

module _ {m : ℕ} {s u : List ℕ} (agree : Agree m s u) where
  part_same : (at l : ℕ) → at + l ≤ m → part s at (at + l) ≡ part u at (at + l)
  part_same at l h =
      ext_get_or 0 _ _ (part_length s at l (omega arith) ∙ sym (part_length u at l (omega arith)))
      (λ i g. let k : i < l = rw (part_length s at l (omega arith)) at g in
      rw (part_at s at l i k, part_at u at l i k) (agree.same (at + i) (omega arith)))

  content_same : (at l : ℕ) (fc : FunctionCode) → 3 ≤ l → at + l + 2 ≤ m → content_of s at l fc ≡ content_of u at l fc
  unfolding content_of
  content_same at l fc g h =
      let near : (k : ℕ) → k ≤ 4 → byte_at s (at + k) ≡ byte_at u (at + k) = λ k j. agree.same (at + k) (omega arith) in
      rw (
        saps_same s u at at near,
        header_same s u at at near,
        agree.same (at + l) (omega arith),
        agree.same (at + l + 1) (omega arith),
        part_same at l (omega arith),
      )

  frame_lasts : {r : Reading} (at l : ℕ) → 3 ≤ l → at + l + 2 ≤ m → Frame s at l r → Frame u at l r
  frame_lasts at l g h (under_total j) = absurd (omega arith)
  frame_lasts at l g h (code_unknown j e) =
      code_unknown (omega arith) (rw (← agree.same (at + 2) (omega arith)) e)
  frame_lasts at l g h (code_known fc j e c) =
      code_known fc (omega arith) (rw (← agree.same (at + 2) (omega arith)) e)
      (subst (Content u at l fc) (sym (content_same at l fc g h) ∙ answer_content c) (content_answered u at l fc))

  content_reaches :
      (at l : ℕ) (fc : FunctionCode) {r : Reading} → Reaches m (length s) r → at + l + 2 ≤ length s → Content s at l fc r
      → at + l + 2 ≤ m
  content_reaches at l fc h j (sap_missing f) = omega arith
  content_reaches at l fc h j (sum_differs f a) = omega arith
  content_reaches at l fc h j (end_differs f a b) = omega arith
  content_reaches at l fc h j (content_whole f a b) = h

  frame_reaches : {r : Reading} (at l : ℕ) → Reaches m (length s) r → Frame s at l r → at + l + 2 ≤ m
  frame_reaches at l h (under_total j) = absurd h
  frame_reaches at l h (code_unknown j e) = omega arith
  frame_reaches at l h (code_known fc j e c) = content_reaches at l fc h j c

  first : {b : ℕ} → 1 ≤ m → byte_at s 0 ≡ b → byte_at u 0 ≡ b
  first h e = rw (← agree.same 0 (omega arith)) e

  lasts : {r : Reading} → Reaches m (length s) r → Answered s r → Answered u r
  lasts h (nothing j) = absurd h
  lasts h (token_short j e l) = absurd h
  lasts h (data_short j d l) = absurd h
  lasts h (confirmation j e) = confirmation (omega arith) (first (omega arith) e)
  lasts h (token_whole j e) =
      rw (agree.same 1 (omega arith), agree.same 2 (omega arith)) (token_whole (omega arith) (first (omega arith) e))
  lasts h (unknown j a b d) =
      unknown (omega arith) (rw (agree.same 0 (omega arith)) at a) (rw (agree.same 0 (omega arith)) at b)
      (rw (agree.same 0 (omega arith)) at d)
  lasts h (lengths_differ j d e) =
      lengths_differ (omega arith) (first (omega arith) d)
      (rw (agree.same 1 (omega arith), agree.same 2 (omega arith)) at e)
  lasts h (length_small j d e l) =
      length_small (omega arith) (first (omega arith) d)
      (rw (agree.same 1 (omega arith), agree.same 2 (omega arith)) at e)
      (rw (agree.same 1 (omega arith)) at l)
  lasts h (sd1 j d f) =
      let g = frame_reaches 1 3 h f in
      sd1 (omega arith) (first (omega arith) d) (frame_lasts 1 3 (omega arith) g f)
  lasts h (sd2 j d e l f) =
      let g = frame_reaches 4 (byte_at s 1) h f in
      sd2 (omega arith) (first (omega arith) d)
      (rw (agree.same 1 (omega arith), agree.same 2 (omega arith)) at e)
      (rw (agree.same 1 (omega arith)) at l)
      (rw (agree.same 1 (omega arith)) at (frame_lasts 4 (byte_at s 1) l g f))
  lasts h (sd3 j d f) =
      let g = frame_reaches 1 11 h f in
      sd3 (omega arith) (first (omega arith) d) (frame_lasts 1 11 (omega arith) g f)

-- Bytes added behind, or taken away behind: both leave the first bytes.
append_agrees : (s t : List ℕ) → Agree (length s) s (s ++ t)
append_agrees s t =
    record {
      left = omega arith;
      right = simp length-append (omega arith);
      same = λ i h. sym (get_or-append s t 0 i h);
    }

take_agrees : (n : ℕ) (s : List ℕ) → n ≤ length s → Agree n s (take n s)
take_agrees n s h =
    record {
      left = h;
      right = simp length-take (omega arith);
      same = λ i j. sym (get_or-take n s i 0 j);
    }

-- A telegram stays the same when bytes are added behind it.
pub whole_lasts :
    (s t : List ℕ) {telegram : Telegram} {n : ℕ} → read_of s ≡ whole telegram n
    → read_of (s ++ t) ≡ whole telegram n
whole_lasts s t e = answer_is (lasts (append_agrees s t) (total_within s e) (reason s e))

-- And so does a refusal.
pub refused_lasts : (s t : List ℕ) {k : ℕ} → read_of s ≡ refused k → read_of (s ++ t) ≡ refused k
refused_lasts s t e = answer_is (lasts (append_agrees s t) (le_refl (length s)) (reason s e))

-- A telegram is read from its own bytes alone.
pub own_bytes :
    (s : List ℕ) {telegram : Telegram} {n : ℕ} → read_of s ≡ whole telegram n
    → read_of (take n s) ≡ whole telegram n
own_bytes s {n = n} e = answer_is (lasts (take_agrees n s (total_within s e)) (le_refl n) (reason s e))

-- An answer does not change when bytes are added behind it.
pub answer_lasts : (s t : List ℕ) → (read_of s ≡ incomplete → ⊥) → read_of (s ++ t) ≡ read_of s
answer_lasts s t told = by_answer (read_of s) refl
  where
    by_answer : (r : Reading) → read_of s ≡ r → read_of (s ++ t) ≡ read_of s
    by_answer (whole telegram n) e = whole_lasts s t e ∙ sym e
    by_answer incomplete e = absurd (told e)
    by_answer (refused k) e = refused_lasts s t e ∙ sym e

-- Fewer bytes than a telegram has are incomplete.
pub shorter_incomplete :
    (s : List ℕ) {telegram : Telegram} {n : ℕ} (k : ℕ) → read_of s ≡ whole telegram n → k < n
    → read_of (take k s) ≡ incomplete
shorter_incomplete s {telegram} {n} k all h = by_answer (read_of (take k s)) refl
  where
    again : {r : Reading} → read_of (take k s ++ drop k s) ≡ r → whole telegram n ≡ r
    again e = sym all ∙ rw (take-append-drop k s) at e

    by_answer : (r : Reading) → read_of (take k s) ≡ r → read_of (take k s) ≡ incomplete
    by_answer (whole other m) e =
        let same : whole telegram n ≡ whole other m = again (whole_lasts (take k s) (drop k s) e) in
        let total : n ≡ m = cc in
        let reach : m ≤ min k (length s) = rw length-take at (total_within (take k s) e) in
        absurd (omega arith)
    by_answer incomplete e = e
    by_answer (refused j) e =
        let other : whole telegram n ≡ refused j = again (refused_lasts (take k s) (drop k s) e) in
        absurd (zero_one (cc))
