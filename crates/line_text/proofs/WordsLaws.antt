-- Laws of the words of a line.
use Rattle.std.proofs.Common.{◌≡◌, refl, ap, List, ℕ, ◌≤◌, Bool, true, false, cond, not, length, take, drop, ◌-◌, eqb, ltb, arith}
use Rattle.std.specs.Prelude.{Some, None, unwrap_or}
use Rattle.std.proofs.lemmas.List.Sums.{prefix_len-le-length}
use Rattle.line_text.specs.Words.{word_len}
use Rattle.text.specs.Decimal.{number_at, decimal_of}
use Rattle.text.specs.declared.decimal.Number.{Number}
use Rattle.text.proofs.ReadingLaws.{number_read}
use borrow.Author.Tests.{ltb-false}
use Rattle.std.proofs.Math.ListN.{length-append, length-drop}
use Rattle.std.proofs.Math.Seq.{take_all}

-- the first space, or the line's length where `position` finds none
pub word_len_found : (line : List ℕ) → unwrap_or (cond (ltb (word_len line) (length line)) (Some (word_len line)) None) (length line) ≡ word_len line
word_len_found line = go (ltb (word_len line) (length line)) refl
  where
    go : (t : Bool) → ltb (word_len line) (length line) ≡ t → unwrap_or (cond t (Some (word_len line)) None) (length line) ≡ word_len line
    go true e = refl
    go false e = omega (arith, ltb-false (word_len line) (length line) e, prefix_len-le-length (λ b. not (eqb b 32)) line)

-- a number's place stands within the bytes
pub number_within : (bytes : List ℕ) (n : Number) → number_at bytes 0 4294967295 ≡ Some n → n.next ≤ length bytes
number_within bytes n e =
    let r = number_read bytes 0 4294967295 n.value n.next e in
    omega (arith, ap length r.written, r.place, length-append (decimal_of n.value) (drop n.next bytes))

-- so what stands from there on is all that is left
pub number_rest : (bytes : List ℕ) (n : Number) → number_at bytes 0 4294967295 ≡ Some n → take (length bytes - n.next) (drop n.next bytes) ≡ drop n.next bytes
number_rest bytes n e = take_all (length bytes - n.next) (drop n.next bytes) (rw length-drop (omega arith))
