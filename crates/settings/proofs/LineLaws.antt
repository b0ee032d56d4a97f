-- Laws of a line `name=number`: each answer of `line_at` by its tests, and that it reads just the lines that are written, `line_written` and
-- `line_read`.
use mathlib.Core.Path.{◌≡◌, refl, sym, ap, ◌∙◌}
use mathlib.Core.Bool.{Bool, true, false}
use mathlib.Core.List.{List, [], ◌++◌, append_assoc}
use Prim.Native.Nat.{ℕ, ◌+◌, ◌-◌, ◌≤◌}
use native.Mathlib.Omega.{arith}
use lib.ListN.{length, drop, length-append, length-drop}
use lib.Seq.{drop-drop, drop-append_seam}
use Rattle.ground.specs.Pick.{if}
use Rattle.text.specs.declared.decimal.Number.{Number}
use Rattle.text.specs.Begins.{begins}
use Rattle.text.specs.Decimal.{decimal_of, digits_in, is_digit, number_at}
use Rattle.text.specs.Placed.{Placed}
use Rattle.text.proofs.BeginsLaws.{begins_split, begins_append}
use Rattle.text.proofs.PlacedLaws.{then}
use Rattle.text.proofs.ReadingLaws.{NumberRead, number_written, number_read}
use Rattle.std.specs.Prelude.{None, Option, Some}
use Rattle.settings.specs.declared.line.Line.{Line}
use Rattle.settings.specs.Lines.{line_feed, line_is, line_of, ended_of, line_at}

-- the line that is found, by its tests
pub line_found : (name text : List ℕ) (at n next : ℕ) → begins name (drop at text) ≡ true
    → number_at text (at + length name) 255 ≡ Some (record { value = n; next = next })
    → begins line_feed (drop next text) ≡ true
    → line_at name text at ≡ line_is n (next + 1)
unfolding line_at
line_found name text at n next b e f = rw (b, e, f)

-- a line has one number and one end
value_in : Option Line → ℕ
value_in (Some l) = l.value
value_in None = 0

next_in : Option Line → ℕ
next_in (Some l) = l.next
next_in None = 0

line_same : (m k n next : ℕ) → line_is m k ≡ line_is n next → (m ≡ n) × (k ≡ next)
unfolding value_in next_in
line_same m k n next e = (ap value_in e, ap next_in e)

-- ---- the name, the number and the line feed, placed one behind the other, are the line

pub line_placed : {b₀ b₁ b₂ b₃ name : List ℕ} {at n₁ n₂ n₃ : ℕ} (n : ℕ)
    → Placed b₀ at name n₁ b₁
    → Placed b₁ n₁ (decimal_of n) n₂ b₂
    → Placed b₂ n₂ line_feed n₃ b₃
    → Placed b₀ at (line_of name n) n₃ b₃
unfolding line_of
line_placed n p q r = then (then p q) r

-- what begins a text at a place is no longer than what is left there
pub begins_short : (bytes text : List ℕ) (at : ℕ) → begins bytes (drop at text) ≡ true → length bytes ≤ length text - at
begins_short bytes text at e =
    omega (arith, length-drop at text, ap length (begins_split bytes (drop at text) e), length-append bytes (drop (length bytes) (drop at text)))

-- a number that is read in a line is at most 255
pub number_small : (text : List ℕ) (at : ℕ) (n : Number) → number_at text at 255 ≡ Some n → n.value ≤ 255
number_small text at n e = (number_read text at 255 n.value n.next e).within

-- ---- the lines that are read are the lines that are written

-- a line feed is no digit
feed_no_digit : (rest : List ℕ) → digits_in (line_feed ++ rest) ≡ []
unfolding digits_in is_digit
feed_no_digit rest = refl

-- a line that stands at a place is read there
pub line_written : (name text : List ℕ) (at n : ℕ) (rest : List ℕ) → drop at text ≡ line_of name n ++ rest → n ≤ 255
    → line_at name text at ≡ line_is n (at + length (line_of name n))
unfolding line_of
line_written name text at n rest e h =
    line_found name text at n (at + length name + length (decimal_of n)) named number ended
    ∙ ap (λ (k : ℕ). line_is n k) (simp length-append (omega arith))
  where
    split : drop at text ≡ name ++ (decimal_of n ++ (line_feed ++ rest))
    split = e ∙ simp append_assoc

    behind_name : drop (at + length name) text ≡ decimal_of n ++ (line_feed ++ rest)
    behind_name = sym (drop-drop (length name) at text) ∙ ap (drop (length name)) split ∙ drop-append_seam name (decimal_of n ++ (line_feed ++ rest))

    behind_number : drop (at + length name + length (decimal_of n)) text ≡ line_feed ++ rest
    behind_number =
        sym (drop-drop (length (decimal_of n)) (at + length name) text)
        ∙ ap (drop (length (decimal_of n))) behind_name
        ∙ drop-append_seam (decimal_of n) (line_feed ++ rest)

    named : begins name (drop at text) ≡ true
    named = rw split (begins_append name (decimal_of n ++ (line_feed ++ rest)))

    number : number_at text (at + length name) 255 ≡ Some (record { value = n; next = at + length name + length (decimal_of n) })
    number = number_written text (at + length name) n 255 (line_feed ++ rest) behind_name (feed_no_digit rest) h

    ended : begins line_feed (drop (at + length name + length (decimal_of n)) text) ≡ true
    ended = rw behind_number (begins_append line_feed rest)

-- a line that is read at a place stands there
pub record LineRead (name text : List ℕ) (at n next : ℕ) : Type 0 where
  pub within : n ≤ 255
  pub stands : drop at text ≡ line_of name n ++ drop next text
  pub place : next ≡ at + length (line_of name n)

pub line_read : (name text : List ℕ) (at n next : ℕ) → line_at name text at ≡ line_is n next → LineRead name text at n next
unfolding line_at line_of
line_read name text at n next e = go (begins name (drop at text)) refl (number_at text (at + length name) 255) refl e
  where
    ended : (m k : ℕ) → begins name (drop at text) ≡ true → NumberRead text (at + length name) 255 m k → (t : Bool) → begins line_feed (drop k text) ≡ t
        → if {A = Option Line} t (line_is m (k + 1)) None ≡ line_is n next
        → LineRead name text at n next
    ended m k b r true f e =
        let same = line_same m (k + 1) n next e in
        let value : m ≡ n = same.0 in
        let place : k + 1 ≡ next = same.1 in
        record {
          within = rw value at r.within;
          stands = rw (← value, ← place) (
              begins_split name (drop at text) b
              ∙ ap (λ (l : List ℕ). name ++ l)
              (drop-drop (length name) at text ∙ r.written
              ∙ ap (λ (l : List ℕ). decimal_of m ++ l) (begins_split line_feed (drop k text) f ∙ ap (λ (l : List ℕ). line_feed ++ l) (drop-drop 1 k text)))
              ∙ simp append_assoc
              );
          place = rw (← value, ← place, r.place) (simp length-append (omega arith));
        }
    ended m k b r false f e = let z : ◌≡◌ {A = ℕ} 0 1 = cc in absurd (omega arith)

    go : (s : Bool) → begins name (drop at text) ≡ s → (a : Option Number) → number_at text (at + length name) 255 ≡ a
        → if {A = Option Line} s (ended_of text a) None ≡ line_is n next
        → LineRead name text at n next
    go true b (Some m) p e =
        ended m.value m.next b (number_read text (at + length name) 255 m.value m.next p) (begins line_feed (drop m.next text)) refl e
    go true b None p e = let z : ◌≡◌ {A = ℕ} 0 1 = cc in absurd (omega arith)
    go false b a p e = let z : ◌≡◌ {A = ℕ} 0 1 = cc in absurd (omega arith)
