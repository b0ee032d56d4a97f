-- Laws of `begins`: byte by byte, and as an equation of texts.
use mathlib.Core.Path.{◌≡◌, refl, sym, ap, ◌∙◌}
use mathlib.Core.Bool.{Bool, true, false, ◌&&◌}
use mathlib.Core.List.{List, [], ◌∷◌, ◌++◌}
use Prim.Native.Nat.{ℕ, ◌+◌, ◌-◌, ◌<◌, ◌≤◌, min}
use native.Mathlib.Numerals.{add-one}
use native.Mathlib.Omega.{arith}
use borrow.Author.Tests.{eqb-true, eqb-false, eq-eqb, ne_eqb}
use lib.Dec.{eqb}
use lib.ListN.{length, get_or, take, drop, length-drop, drop_of_length-le}
use native.Mathlib.Decide.{dec_le}
use lib.Seq.{drop-cons, drop-drop, take_all}
use Rattle.ground.proofs.PickLaws.{both_first, both_second}
use Rattle.ground.specs.Pick.{if}
use Rattle.text.specs.Begins.{begins}
use Rattle.std.specs.List.{starts_with}

-- the first byte is there: the rest decides
cons_there : (b : ℕ) (bytes text : List ℕ) → begins (b ∷ []) text ≡ true → begins (b ∷ bytes) text ≡ begins bytes (drop 1 text)
unfolding begins
cons_there b bytes [] e = cc
cons_there b bytes (x ∷ text) e = rw (both_first (eqb x b) true e)

-- the first byte is not there
cons_missing : (b : ℕ) (bytes text : List ℕ) → begins (b ∷ []) text ≡ false → begins (b ∷ bytes) text ≡ false
unfolding begins
cons_missing b bytes [] e = refl
cons_missing b bytes (x ∷ text) e = go (eqb x b) e
  where
    go : (t : Bool) → if t true false ≡ false → if t (begins bytes text) false ≡ false
    go true e = cc
    go false e = refl

drop_one : (text : List ℕ) (at : ℕ) → drop 1 (drop at text) ≡ drop (at + 1) text
drop_one text at = drop-drop 1 at text

-- a byte that is there stands within the text
pub there_within : (b : ℕ) (text : List ℕ) (at : ℕ) → begins (b ∷ []) (drop at text) ≡ true → at < length text
unfolding begins
there_within b text at e = go (drop at text) refl e
  where
    go : (l : List ℕ) → drop at text ≡ l → begins (b ∷ []) l ≡ true → at < length text
    go [] d e = let z : ◌≡◌ {A = ℕ} 0 1 = cc in omega arith
    go (x ∷ l) d e = omega (arith, length-drop at text, ap length d)

-- a turn of the comparing loop
pub turn : (bytes text : List ℕ) (i at : ℕ) → i < length bytes → begins (get_or bytes i 0 ∷ []) (drop at text) ≡ true
    → begins (drop i bytes) (drop at text) ≡ begins (drop (i + 1) bytes) (drop (at + 1) text)
turn bytes text i at h e = rw (add-one i, drop-cons bytes i 0 h) (cons_there _ _ _ e ∙ rw drop_one)

pub turn_last : (bytes text : List ℕ) (i at : ℕ) → i < length bytes → begins (get_or bytes i 0 ∷ []) (drop at text) ≡ false
    → begins (drop i bytes) (drop at text) ≡ false
turn_last bytes text i at h e = rw (drop-cons bytes i 0 h) (cons_missing _ _ _ e)

-- a text that begins with the bytes is the bytes and what is left
pub begins_split : (bytes text : List ℕ) → begins bytes text ≡ true → text ≡ bytes ++ drop (length bytes) text
unfolding begins
begins_split [] text e = refl
begins_split (b ∷ bytes) [] e = cc
begins_split (b ∷ bytes) (x ∷ text) e =
    rw (eqb-true x b (both_first (eqb x b) (begins bytes text) e))
    (ap (λ (l : List ℕ). b ∷ l) (begins_split bytes text (both_second (eqb x b) (begins bytes text) e)))

-- and the bytes with anything behind them begin with the bytes
pub begins_append : (bytes rest : List ℕ) → begins bytes (bytes ++ rest) ≡ true
unfolding begins
begins_append [] rest = refl
begins_append (b ∷ bytes) rest = rw (eq-eqb b b refl) (begins_append bytes rest)

-- one byte within the text: the byte at that place decides
pub byte_there : (b : ℕ) (text : List ℕ) (at : ℕ) → at < length text → eqb (get_or text at 0) b ≡ begins (b ∷ []) (drop at text)
unfolding begins
byte_there b text at h = rw (drop-cons text at 0 h) (go (eqb (get_or text at 0) b))
  where
    go : (t : Bool) → t ≡ if t true false
    go true = refl
    go false = refl

-- beyond the text there is none
pub byte_beyond : (b : ℕ) (text : List ℕ) (at : ℕ) → length text ≤ at → false ≡ begins (b ∷ []) (drop at text)
unfolding begins
byte_beyond b text at h = rw (drop_of_length-le text h)

-- what `starts_with` tests of the text from a place on, which is the text's end where the place is beyond it
starts_begins : (bytes text : List ℕ) → starts_with eqb text bytes ≡ begins bytes text
unfolding begins
starts_begins [] text = refl
starts_begins (b ∷ bytes) [] = refl
starts_begins (b ∷ bytes) (x ∷ text) = go (eqb x b) refl (starts_begins bytes text)
  where
    go : (t : Bool) → eqb x b ≡ t → starts_with eqb text bytes ≡ begins bytes text
        → (eqb b x && starts_with eqb text bytes) ≡ if t (begins bytes text) false
    go true p e = rw (eq-eqb b x (sym (eqb-true x b p))) e
    go false p e = rw (ne_eqb b x (λ q. eqb-false x b p (sym q)))

pub starts_at : (bytes text : List ℕ) (at : ℕ)
    → starts_with eqb (take (length text - min at (length text)) (drop (min at (length text)) text)) bytes ≡ begins bytes (drop at text)
starts_at bytes text at = rw (take_all (length text - min at (length text)) (drop (min at (length text)) text) (rw length-drop (omega arith)), from at) (starts_begins bytes (drop at text))
  where
    from : (at : ℕ) → drop (min at (length text)) text ≡ drop at text
    from at = go (dec_le at (length text))
      where
        go : Dec (at ≤ length text) → drop (min at (length text)) text ≡ drop at text
        go (yes h) = ap (λ (k : ℕ). drop k text) (omega arith)
        go (no h) = drop_of_length-le text (omega arith) ∙ sym (drop_of_length-le text (omega arith))
