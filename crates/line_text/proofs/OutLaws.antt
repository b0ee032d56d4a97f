-- Laws of `Lays` and `Laid`: a piece behind its place, pieces one after another, and the numbers of a list.
use Rattle.std.proofs.Common.{◌≡◌, refl, ap, subst, ℕ, Bool, true, false, List, [], ◌∷◌, ◌++◌, drop, codes}
use Rattle.std.specs.List.{list_any}
use Rattle.text.specs.Decimal.{decimal_of}
use Rattle.line_text.specs.declared.answers.Out.{Out}
use Rattle.line_text.specs.Out.{Lays, Laid, nothing, then, more_pieces, number_pieces, list_pieces, is_written, touched_pieces}

pub one : {a b : Out} {p : List ℕ} → Lays a p b → Laid a (p ∷ []) b
one f = then f nothing

pub two : {a b c : Out} {p q : List ℕ} → Lays a p b → Lays b q c → Laid a (p ∷ q ∷ []) c
two f g = then f (one g)

-- pieces behind pieces
pub behind : {a b c : Out} {ps qs : List (List ℕ)} → Laid a ps b → Laid b qs c → Laid a (ps ++ qs) c
behind nothing g = g
behind (then f fs) g = then f (behind fs g)

more_behind : (xs : List ℕ) (n : ℕ) → more_pieces xs ++ (codes "," ∷ decimal_of n ∷ []) ≡ more_pieces (xs ++ n ∷ [])
more_behind [] n = refl
more_behind (x ∷ xs) n = ap (λ (ps : List (List ℕ)). codes "," ∷ decimal_of x ∷ ps) (more_behind xs n)

-- whether a list has no number yet
abbrev pub none_yet : List ℕ → Bool
none_yet [] = true
none_yet (x ∷ xs) = false

-- the first number of a list
pub first_number : {a b c : Out} (xs : List ℕ) (n : ℕ) → none_yet xs ≡ true → Laid a (number_pieces xs) b → Lays b (decimal_of n) c
    → Laid a (number_pieces (xs ++ n ∷ [])) c
first_number [] n h f g = behind f (one g)
first_number (x ∷ xs) n h f g = cc

-- another number of a list
pub next_number : {a b c d : Out} (xs : List ℕ) (n : ℕ) → none_yet xs ≡ false → Laid a (number_pieces xs) b → Lays b (codes ",") c
    → Lays c (decimal_of n) d
    → Laid a (number_pieces (xs ++ n ∷ [])) d
next_number [] n h f g k = cc
next_number {a} {d = d} (x ∷ xs) n h f g k =
    subst (λ (ps : List (List ℕ)). Laid a (decimal_of x ∷ ps) d) (more_behind xs n) (behind f (two g k))

-- behind all numbers of a list
pub whole_list : {a b : Out} (xs : List ℕ) → none_yet xs ≡ false → Laid a (number_pieces xs) b → Laid a (list_pieces xs) b
whole_list [] h f = cc
whole_list (x ∷ xs) h f = f

pub empty_list : {a b c : Out} (xs : List ℕ) → none_yet xs ≡ true → Laid a (number_pieces xs) b → Lays b (codes "-") c
    → Laid a (list_pieces xs) c
empty_list [] h f g = behind f (one g)
empty_list (x ∷ xs) h f g = cc

-- where no byte was written, nothing is laid down
pub untouched : (a : Out) (buffer : List ℕ) (len : ℕ) → list_any is_written (drop len buffer) ≡ false → Laid a (touched_pieces buffer len) a
unfolding touched_pieces
untouched a buffer len h = rw h nothing
