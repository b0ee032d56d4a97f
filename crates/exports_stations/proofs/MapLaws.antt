-- Laws of the loop that maps each element of one list into another, from a place on.
use Rattle.std.proofs.Common.{◌≡◌, ℕ, ◌+◌, sym, ◌<◌, List, [], ◌∷◌, ◌++◌, length, take, drop, get_or, set, map, arith, ◌∙◌, append-nil, drop_of_length-le, length-drop, take_all}
use lib.Seq.{paste}
use Rattle.std.proofs.lemmas.List.{get_or-map, length-map}
use Rattle.std.proofs.lemmas.List.Edits.{paste_all, paste_more, sets-eq}

module _ {A B : Type 0} (f : A → B) (d : List B) (at : ℕ) (src : List A) where
  -- one element more
  pub map_turn : (i j : ℕ) (x : A) → j ≡ at + i → j < length d → i < length src
      → set (paste d at (map f src) i) j (f (get_or src i x)) ≡ paste d at (map f src) (i + 1)
  map_turn i j x e p q =
      let room : at + i < length d = omega arith in
      rw (e, ← get_or-map f src i x (f x) q) (paste_more d at (map f src) i (f x) room (rw (length-map src f) q))

  -- all of them
  pub map_done : (n : ℕ) → n ≡ length src → length d ≡ at + n → paste d at (map f src) n ≡ take at d ++ map f src
  map_done n p q =
      paste_all d at (map f src) n (p ∙ sym (length-map src f))
      ∙ rw (drop_of_length-le d {i = at + n} (omega arith), append-nil (map f src))

-- ---- 132 bytes: four, and behind them 128

pub behind_four : (s : List ℕ) → length s ≡ 132 → take 128 (drop 4 s) ≡ drop 4 s
behind_four s h = take_all 128 (drop 4 s) (rw length-drop (omega arith))

module _ (s : List ℕ) (a b c d : ℕ) (size : length s ≡ 132) where
  abbrev pub headed : List ℕ
  headed = set (set (set (set s 0 a) 1 b) 2 c) 3 d

  headed_is : headed ≡ a ∷ b ∷ c ∷ d ∷ drop 4 s
  headed_is = sets-eq (a ∷ b ∷ c ∷ d ∷ []) s 0 (omega arith)

  still_132 : length headed ≡ 132
  still_132 = rw headed_is (omega (arith, length-drop 4 s))

  pub room_behind : (i : ℕ) → i < 128 → 4 + i < length headed
  room_behind i h = rw still_132 (omega arith)

  -- the first four, and behind them what was put there
  pub stored : {A : Type 0} (f : A → ℕ) (src : List A) (n : ℕ) → length src ≡ 128 → n ≡ 128
      → paste headed 4 (map f src) n ≡ a ∷ b ∷ c ∷ d ∷ map f src
  stored f src n p q = map_done f headed 4 src n (q ∙ sym p) (still_132 ∙ rw q) ∙ rw headed_is
