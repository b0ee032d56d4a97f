-- What a call leaves that lays text down for an answer, in pieces, one after another. Read `Lays`, one piece, and `Laid`, several; the others
-- say which. What lies before the place is written to standard output before the place goes back to the front: of what a device gets, nothing is
-- promised.
use Rattle.std.specs.Prelude.{◌≡◌, ℕ, Bool, not, List, [], ◌∷◌, drop, ltb, leb, ◌==◌, codes, Option, Some, None, Result, Ok, Err}
use Rattle.std.specs.List.{list_any}
use Rattle.ground.specs.Pick.{if}
use Rattle.ground.specs.Refusals.{number_of}
use Rattle.ground.specs.declared.refusal.Refusal.{Refusal}
use Rattle.text.specs.Decimal.{decimal_of}
use Rattle.text.specs.Hex.{hex_of}
use Rattle.text.specs.Placed.{Placed}
use Rattle.line_text.specs.declared.answers.Out.{Out}
use Rattle.line_text.specs.declared.answers.TheConstants.{ENOUGH, FULL}

-- where the next piece goes: behind what lies there, or at the front where that is more than FULL bytes, which are written out first
unfoldable pub place_of : Out → ℕ
place_of o = if (ltb FULL o.to) 0 o.to

-- where it goes behind a pause: likewise, from ENOUGH bytes on
unfoldable pub paused_place : Out → ℕ
paused_place o = if (leb ENOUGH o.to) 0 o.to

-- one piece was laid down at its place; the streams are the same
pub record Lays (before : Out) (piece : List ℕ) (after : Out) : Type 0 where
  pub placed : Placed before.bytes (place_of before) piece after.to after.bytes
  pub streams : after.streams ≡ before.streams

-- pieces were laid down, each behind the one before
pub data Laid : Out → List (List ℕ) → Out → Type 0 where
  nothing : {o : Out} → Laid o [] o
  then : {before between after : Out} {piece : List ℕ} {pieces : List (List ℕ)}
      → Lays before piece between
      → Laid between pieces after
      → Laid before (piece ∷ pieces) after

-- "0" or "1"
abbrev pub bool_piece : Bool → List ℕ
bool_piece on = decimal_of (if on 1 0)

-- a byte string; "-" where it is empty
abbrev pub hex_piece : List ℕ → List ℕ
hex_piece [] = codes "-"
hex_piece (b ∷ bytes) = hex_of (b ∷ bytes)

-- a byte behind a space; "-" behind one where there is none
abbrev pub byte_or_dash_pieces : Option ℕ → List (List ℕ)
byte_or_dash_pieces (Some n) = codes " " ∷ decimal_of n ∷ []
byte_or_dash_pieces None = codes " -" ∷ []

abbrev pub refused_pieces : Refusal → List (List ℕ)
refused_pieces refusal = codes "refused " ∷ decimal_of (number_of refusal) ∷ []

abbrev pub ok_or_refused_pieces : Result Unit Refusal → List (List ℕ)
ok_or_refused_pieces (Ok _) = codes "ok" ∷ []
ok_or_refused_pieces (Err refusal) = refused_pieces refusal

-- the numbers of a list behind its first, each behind a comma
abbrev pub more_pieces : List ℕ → List (List ℕ)
more_pieces [] = []
more_pieces (n ∷ numbers) = codes "," ∷ decimal_of n ∷ more_pieces numbers

-- the numbers of a list, with commas between them; nothing where it is empty
abbrev pub number_pieces : List ℕ → List (List ℕ)
number_pieces [] = []
number_pieces (n ∷ numbers) = decimal_of n ∷ more_pieces numbers

-- the same, and "-" where it is empty
abbrev pub list_pieces : List ℕ → List (List ℕ)
list_pieces [] = codes "-" ∷ []
list_pieces (n ∷ numbers) = number_pieces (n ∷ numbers)

-- whether a byte is not AA, of which the buffer was full that a call was lent
abbrev pub is_written : ℕ → Bool
is_written b = not (b == 0xAA)

-- the buffer behind a mark, where a byte was written behind so many
unfoldable pub touched_pieces : List ℕ → ℕ → List (List ℕ)
touched_pieces buffer len = if (list_any is_written (drop len buffer)) (codes " !" ∷ hex_piece buffer ∷ []) []
