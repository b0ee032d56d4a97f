-- What the standard says of the list of active stations (EN 50170 part 2; from general knowledge of it, its text was not at hand), said of any
-- station list: `LearnsRings`. A master that listens holds its list for valid after two identical complete rotations of the token; the next
-- station is the next higher active address, cyclic, and the previous one the next lower.
--
-- Stated, not yet proved of every list that keeps document 01's rules: proofs/OneRing.antt has one ring, computed of our list.
--
-- Document 01's, and not the standard's, are the phases on the way, that counting begins at the first wrap heard, claiming, setting and removing,
-- and that addresses end at 125: the standard's go up to the highest station address, 126 at most.
use Rattle.std.specs.Prelude.{ℕ, ◌≤◌, ◌<◌, Bool, true, false, List, [], ◌∷◌, ◌++◌, ◌≡◌, eqb, length, take, drop}
use Rattle.ground.specs.Pick.{if}
use Rattle.token_ring.specs.Passes.{Pass, ◌to◌}
use Rattle.token_ring.specs.declared.las_state.LasState.TheVariants.{Valid}
use Rattle.station_lists.specs.StationLists.{StationList, IsNext, IsPrevious}

-- ---- the ring

-- its stations: one address or more, rising, up to the highest station address
pub data Ring (highest : ℕ) : List ℕ → Type 0 where
  alone : {a : ℕ} → a ≤ highest → Ring highest (a ∷ [])
  below : {a b : ℕ} {rest : List ℕ} → a < b → Ring highest (b ∷ rest) → Ring highest (a ∷ b ∷ rest)

-- whether a station is in it
abbrev pub is_in : List ℕ → ℕ → Bool
is_in [] b = false
is_in (a ∷ rest) b = if (eqb b a) true (is_in rest b)

-- the passes from a station on: each to the next higher, the highest to the lowest
abbrev pub onward : ℕ → ℕ → List ℕ → List Pass
onward lowest a [] = a to lowest ∷ []
onward lowest a (b ∷ rest) = a to b ∷ onward lowest b rest

-- one complete rotation of the token: of {2,5,9} it is 2-5, 5-9, 9-2
abbrev pub rotation : List ℕ → List Pass
rotation [] = []
rotation (a ∷ rest) = onward a a rest

-- ---- who listens

-- what is heard by who begins with the k-th pass of a rotation: the rest of it, and then two complete ones
abbrev pub two_rotations : ℕ → List ℕ → List Pass
two_rotations k ring = drop k (rotation ring) ++ (rotation ring ++ rotation ring)

-- a list that hears these passes, one after the other
abbrev pub heard : (S : StationList) → List Pass → S.State → S.State
heard S [] r = r
heard S (p ∷ ps) r = heard S ps (S.witness p.sa p.da r)

-- It knows the ring: its set, and its neighbours there, whether it is in the ring or not.
pub record Knows (S : StationList) (ring : List ℕ) (r : S.State) : Type 0 where
  pub active : (a : ℕ) → S.active r a ≡ is_in ring a
  pub next : IsNext (is_in ring) (S.own r) (S.next r)
  pub previous : IsPrevious (is_in ring) (S.own r) (S.previous r)

-- A fresh list that hears two complete rotations is valid then and not before, and knows the ring.
pub record Learns (S : StationList) (own : ℕ) (ring : List ℕ) (k : ℕ) : Type 0 where
  pub valid : S.phase (heard S (two_rotations k ring) (S.new own).list) ≡ Valid
  pub not_before : (j : ℕ) → j < length (two_rotations k ring) → S.phase (heard S (take j (two_rotations k ring)) (S.new own).list) ≡ Valid → ⊥
  pub knows : Knows S ring (heard S (two_rotations k ring) (S.new own).list)

-- The sentence, for addresses up to a highest one: of every own station, every ring, and wherever the listening begins.
abbrev pub LearnsRings : ℕ → StationList → Type 0
LearnsRings highest S = (own : ℕ) (ring : List ℕ) (k : ℕ) → own ≤ highest → Ring highest ring → k < length ring → Learns S own ring k
