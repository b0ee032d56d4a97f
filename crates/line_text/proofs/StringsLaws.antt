-- What the loop over the digits of a byte string keeps.
use Rattle.std.proofs.Common.{◌≡◌, refl, ap, List, [], ◌∷◌, ◌++◌, append_assoc, append-nil, ℕ, suc, ◌+◌, ◌-◌, ◌≤◌, ◌<◌, min, length, take, arith, Bool, true, false, eqb}
use Rattle.std.specs.Prelude.{Some, None, Result, Ok, Err}
use Rattle.std.specs.List.{slice_set, slice_index_or}
use Rattle.std.proofs.Math.Seq.{take-suc-set}
use Rattle.std.proofs.Math.ListN.{length-set}
use Rattle.std.proofs.Math.Numerals.{add-one}
use Rattle.std.proofs.lemmas.List.{nil_from_length}
use Rattle.line_text.specs.declared.words.Fault.{Fault}
use Rattle.line_text.specs.declared.words.Fault.TheVariants.{BadBytes, BytesTooLong}
use Rattle.line_text.specs.Words.{behind_byte, hex_read, pair_value, bytes_read}
use Rattle.ground.specs.Pick.{if}
use Rattle.text.specs.Decimal.{same}
use borrow.Author.Tests.{ne_eqb}

-- bytes in front of what the digits behind them say
abbrev pub joined : List ℕ → Result (List ℕ) Fault → Result (List ℕ) Fault
joined done (Ok bytes) = Ok (done ++ bytes)
joined done (Err fault) = Err fault

-- the digits say the bytes that are done, and then what the digits that are left say
pub record HexLeft (digits bytes : List ℕ) (len : ℕ) (rest : List ℕ) : Type 0 where
  pub room : length bytes ≡ 4200
  pub within : len ≤ 4200
  pub said : joined (take len bytes) (hex_read (4200 - len) rest) ≡ hex_read 4200 digits

-- the next pair of the digits that are left, of which the last may be one digit
pub record NextPair (rest pair next : List ℕ) : Type 0 where
  pub parts : rest ≡ pair ++ next
  pub count : length pair ≡ min 2 (length rest)
  pub some : 0 < length rest

joined-nil : (r : Result (List ℕ) Fault) → joined [] r ≡ r
joined-nil (Ok bytes) = refl
joined-nil (Err fault) = refl

pub hex_start : (digits bytes : List ℕ) → length bytes ≡ 4200 → HexLeft digits bytes 0 digits
hex_start digits bytes room = record { room = room; within = omega arith; said = joined-nil (hex_read 4200 digits) }

hex_pair : (room : ℕ) (rest pair next : List ℕ) → NextPair rest pair next → hex_read (suc room) rest ≡ behind_byte (pair_value pair) (hex_read room next)
unfolding hex_read
hex_pair room rest [] next p = absurd (omega (arith, p.count, p.some))
hex_pair room rest (d ∷ []) next p =
    let none : next ≡ [] = nil_from_length next (omega (arith, ap length p.parts, p.count)) in
    rw (p.parts, none) refl
hex_pair room rest (high ∷ low ∷ []) next p = rw p.parts refl
hex_pair room rest (a ∷ b ∷ d ∷ pair) next p = absurd (omega (arith, p.count))

-- no room is left for the next pair
pub hex_full : {digits bytes rest pair next : List ℕ} {len : ℕ} → HexLeft digits bytes len rest → NextPair rest pair next → len ≡ 4200
    → Err BytesTooLong ≡ hex_read 4200 digits
unfolding hex_read
hex_full {rest = []} k p full = absurd (omega (arith, p.some))
hex_full {rest = d ∷ rest} k p full = rw full at k.said

-- the next pair is bad
pub hex_bad : {digits bytes rest pair next : List ℕ} {len : ℕ} → HexLeft digits bytes len rest → NextPair rest pair next → len < 4200
    → pair_value pair ≡ None → Err BadBytes ≡ hex_read 4200 digits
hex_bad {digits} {bytes} {rest} {pair} {next} {len} k p h bad =
    let turn = hex_pair (4199 - len) rest pair next p in
    let more : 4200 - len ≡ suc (4199 - len) = omega arith in
    rw (more, turn, bad) at k.said

joined_pair : (bytes : List ℕ) (len b : ℕ) (r : Result (List ℕ) Fault) → len < length bytes
    → joined (take (len + 1) (slice_set bytes len b)) r ≡ joined (take len bytes) (behind_byte (Some b) r)
joined_pair bytes len b (Ok rest) h = rw (add-one, take-suc-set bytes len b h, append_assoc)
joined_pair bytes len b (Err fault) h = refl

-- the next pair is a byte
pub hex_turn : {digits bytes rest pair next : List ℕ} {len b : ℕ} → HexLeft digits bytes len rest → NextPair rest pair next → len < 4200
    → pair_value pair ≡ Some b → HexLeft digits (slice_set bytes len b) (len + 1) next
hex_turn {digits} {bytes} {rest} {pair} {next} {len} {b} k p h good =
    let turn = hex_pair (4199 - len) rest pair next p in
    let more : 4200 - len ≡ suc (4199 - len) = omega arith in
    let less : 4200 - (len + 1) ≡ 4199 - len = omega arith in
    record {
      room = omega (arith, k.room, length-set {A = ℕ});
      within = omega arith;
      said = rw (less, joined_pair bytes len b (hex_read (4199 - len) next) (omega (arith, k.room))) (rw (more, turn, good) at k.said);
    }

-- no digit is left
pub hex_done : {digits bytes rest : List ℕ} {len : ℕ} → HexLeft digits bytes len rest → length rest ≡ 0 → Ok (take len bytes) ≡ hex_read 4200 digits
unfolding hex_read
hex_done {digits} {bytes} {rest} {len} k e =
    let none : rest ≡ [] = nil_from_length rest e in
    rw (none, append-nil) at k.said

-- `-` alone, and any other word that is not empty
pub dash_read : (word : List ℕ) → length word ≡ 1 → slice_index_or word 0 0 ≡ 45 → bytes_read word ≡ Ok []
unfolding same
dash_read [] e d = absurd (omega (arith, e))
dash_read (b ∷ []) e d = rw d refl
dash_read (b ∷ x ∷ word) e d = absurd (omega (arith, e))

pub digits_read : (word : List ℕ) → 0 < length word → (length word ≡ 1 → slice_index_or word 0 0 ≡ 45 → ⊥) → bytes_read word ≡ hex_read 4200 word
unfolding same
digits_read [] some other = absurd (omega (arith, some))
digits_read (b ∷ []) some other = rw (ne_eqb b 45 (other refl)) refl
digits_read (b ∷ x ∷ word) some other = go (eqb b 45)
  where
    go : (t : Bool) → if {A = Result (List ℕ) Fault} (if t false false) (Ok []) (hex_read 4200 (b ∷ x ∷ word)) ≡ hex_read 4200 (b ∷ x ∷ word)
    go true = refl
    go false = refl
