-- Laws of the bytes of a record: a head of numbers, the last of which is a length, then 246 bytes.
use mathlib.Core.Path.{◌≡◌, refl, sym, ◌∙◌}
use mathlib.Core.List.{List, [], ◌∷◌, ◌++◌, append-nil}
use Prim.Native.Nat.{ℕ, ◌+◌, ◌-◌, ◌≤◌}
use native.Mathlib.Omega.{arith}
use lib.ListN.{length, take, drop, length-append, length-drop, drop_of_length-le}
use lib.Seq.{drop-length, take_all, take-append_seam, drop-append_seam, length-take-le}
use borrow.Author.Tests.{lt-ltb}
use Rattle.ground.specs.Front.{copied_to}
use Rattle.ground.proofs.FrontLaws.{copied_fits}
use Rattle.link_rules.specs.Rules.{longest}
use Rattle.exports_link.specs.Bytes.{length_byte}
use Rattle.exports_link.specs.Leaves.{initiator_head_of}

-- A length that the calls leave is its byte.
pub length_again : (n : ℕ) → n ≤ longest → length_byte n ≡ n
unfolding length_byte
length_again n h = rw (lt-ltb n 256 (omega arith))

-- Bytes that are as many as the buffer's take all of it.
pub copied_whole : (buffer bytes : List ℕ) → length bytes ≡ length buffer → copied_to buffer bytes ≡ bytes
copied_whole buffer bytes e =
    copied_fits buffer bytes (omega arith) ∙ rw (e, drop-length buffer, append-nil bytes)

joined_over : (h d q part : List ℕ) → length d ≡ length q → part ≡ copied_to (take (length (h ++ d) - length h) (drop (length h) (h ++ d))) q → take (length h) (h ++ d) ++ (part ++ drop (length (h ++ d) - length h) (drop (length h) (h ++ d))) ≡ h ++ q
joined_over h d q part e p =
    let short : length d ≤ length (h ++ d) - length h = rw length-append (omega arith) in
    let same : part ≡ q = p ∙ rw (drop-append_seam h d, take_all (length (h ++ d) - length h) d short) (copied_whole d q (sym e)) in
    rw (take-append_seam h d, drop-append_seam h d, drop_of_length-le d {i = length (h ++ d) - length h} short, same, append-nil q)

-- A head copied to the front, and the rest behind it, fill the bytes.
pub joined : (s h q s₁ part : List ℕ) → length h + length q ≡ length s → s₁ ≡ copied_to s h → part ≡ copied_to (take (length s₁ - length h) (drop (length h) s₁)) q → take (length h) s₁ ++ (part ++ drop (length s₁ - length h) (drop (length h) s₁)) ≡ h ++ q
joined s h q s₁ part e f p =
    let g : s₁ ≡ h ++ drop (length h) s = f ∙ copied_fits s h (omega arith) in
    let long : length (drop (length h) s) ≡ length q = rw length-drop (omega arith) in
    rw g (joined_over h (drop (length h) s) q part long (rw g at p))

-- The first six bytes are the same, whatever stands behind them.
pub same_six : (s body : List ℕ) → 6 ≤ length s → initiator_head_of (take 6 s ++ body) ≡ initiator_head_of s
unfolding initiator_head_of
same_six [] body h = let z : ⊥ = omega (arith, h) in absurd z
same_six (_ ∷ []) body h = let z : ⊥ = omega (arith, h) in absurd z
same_six (_ ∷ _ ∷ []) body h = let z : ⊥ = omega (arith, h) in absurd z
same_six (_ ∷ _ ∷ _ ∷ []) body h = let z : ⊥ = omega (arith, h) in absurd z
same_six (_ ∷ _ ∷ _ ∷ _ ∷ []) body h = let z : ⊥ = omega (arith, h) in absurd z
same_six (_ ∷ _ ∷ _ ∷ _ ∷ _ ∷ []) body h = let z : ⊥ = omega (arith, h) in absurd z
same_six (x ∷ y ∷ z ∷ u ∷ v ∷ w ∷ r) body h = refl

-- The order, or the held reply, is all that stands behind the head.
pub order_all : (s : List ℕ) → length s ≡ 252 → take 246 (drop 6 s) ≡ drop 6 s
order_all s l = take_all 246 (drop 6 s) (rw length-drop (omega (arith, l)))

pub order_long : (s : List ℕ) → length s ≡ 252 → longest ≤ length (drop 6 s)
order_long s l = rw length-drop (omega (arith, l))

pub held_all : (s : List ℕ) → length s ≡ 250 → take 246 (drop 4 s) ≡ drop 4 s
held_all s l = take_all 246 (drop 4 s) (rw length-drop (omega (arith, l)))

pub held_long : (s : List ℕ) → length s ≡ 250 → longest ≤ length (drop 4 s)
held_long s l = rw length-drop (omega (arith, l))

-- A head and 246 bytes behind it, of which others were put in their place: those stand there now.
module _ (s body : List ℕ) (n : ℕ) (full : length s ≡ n + 246) where
  pub put_back : take n s ++ (body ++ drop 246 (drop n s)) ≡ take n s ++ body
  put_back = rw (drop_of_length-le (drop n s) {i = 246} (rw length-drop (omega (arith, full))), append-nil body)

  pub put_again : drop n (take n s ++ body) ≡ body
  put_again = go (take n s) n (length-take-le n s (omega (arith, full)))
    where
      go : (x : List ℕ) (k : ℕ) → length x ≡ k → drop k (x ++ body) ≡ body
      go x k e = rw (← e) (drop-append_seam x body)
