-- Demand 2 of any station list: document 01, "The station list", said of the set of active addresses, whatever the list is made of, and refusal 11
-- of its table. Read `IsStationList`, sentence by sentence; `SameCalls`, `SeenAlike` and `AnswersAlike` say what it is that no two such lists
-- differ. What the standard says of the list of active stations stands in `Standard`.
use Rattle.std.specs.Prelude.{ℕ, ◌≤◌, ◌<◌, Bool, true, false, ◌⊎◌, ◌≡◌, eqb}
use Rattle.ground.specs.Pick.{if}
use Rattle.token_ring.specs.Meaning.{between, in_gap}
use Rattle.token_ring.specs.Rules.{station_answer, wrap}
use Rattle.token_ring.specs.declared.las_state.LasState.{LasState}
use Rattle.token_ring.specs.declared.las_state.LasState.TheVariants.{Uninitialized, Discovery, Verification, Valid}

-- what a call gives that may refuse: the number of its answer, 0 for done, and the list
pub record Answered (State : Type 0) : Type 0 where
  pub answer : ℕ
  pub list : State

-- its calls, and what may be asked of it; addresses are numbers
pub record StationList : Type 1 where
  pub State : Type 0
  pub new : ℕ → Answered State
  pub witness : ℕ → ℕ → State → State
  pub claim : State → State
  pub set_next : ℕ → State → Answered State
  pub remove : ℕ → State → Answered State
  pub active : State → ℕ → Bool
  pub own : State → ℕ
  pub next : State → ℕ
  pub previous : State → ℕ
  pub phase : State → LasState

-- "Next is the lowest active above own, else the lowest active, else own"
pub data IsNext (active : ℕ → Bool) (own : ℕ) : ℕ → Type 0 where
  lowest_above : {a : ℕ} → active a ≡ true → own < a → ((b : ℕ) → own < b → active b ≡ true → a ≤ b)
      → IsNext active own a
  lowest_of_all : {a : ℕ} → active a ≡ true → ((b : ℕ) → own < b → active b ≡ false) → ((b : ℕ) → active b ≡ true → a ≤ b)
      → IsNext active own a
  nobody_next : ((b : ℕ) → active b ≡ false) → IsNext active own own

-- "previous the highest below, else the highest, else own"
pub data IsPrevious (active : ℕ → Bool) (own : ℕ) : ℕ → Type 0 where
  highest_below : {a : ℕ} → active a ≡ true → a < own → ((b : ℕ) → b < own → active b ≡ true → b ≤ a)
      → IsPrevious active own a
  highest_of_all : {a : ℕ} → active a ≡ true → ((b : ℕ) → b < own → active b ≡ false) → ((b : ℕ) → active b ≡ true → b ≤ a)
      → IsPrevious active own a
  nobody_previous : ((b : ℕ) → active b ≡ false) → IsPrevious active own own

-- "Update: clear flags from sa up to below da, or on a wrap from sa upward and all below da; set sa"
abbrev pub updated_set : ℕ → ℕ → (ℕ → Bool) → ℕ → Bool
updated_set sa da active a = if (eqb a sa) true (if (in_gap sa da a) false (active a))

-- "the pass holds if sa and da are active and nothing between is (on a wrap: nothing above sa or below da)"
pub record PassHolds (active : ℕ → Bool) (sa da : ℕ) : Type 0 where
  pub source : active sa ≡ true
  pub destination : active da ≡ true
  pub between : (a : ℕ) → between sa da a ≡ true → active a ≡ false

-- the lists that the calls make: from `new`, by those that change a list. One put together from parts need be none of them.
pub data Reached (S : StationList) : S.State → Type 0 where
  by_new : (own : ℕ) → Reached S (S.new own).list
  by_witness : (sa da : ℕ) {r : S.State} → Reached S r → Reached S (S.witness sa da r)
  by_claim : {r : S.State} → Reached S r → Reached S (S.claim r)
  by_set_next : (a : ℕ) {r : S.State} → Reached S r → Reached S (S.set_next a r).list
  by_remove : (a : ℕ) {r : S.State} → Reached S r → Reached S (S.remove a r).list

-- a list that stays, but for its phase
pub record Stays (S : StationList) (after : LasState) (r s : S.State) : Type 0 where
  pub active : (a : ℕ) → S.active s a ≡ S.active r a
  pub own : S.own s ≡ S.own r
  pub next : S.next s ≡ S.next r
  pub previous : S.previous s ≡ S.previous r
  pub phase : S.phase s ≡ after

-- a list that has another set: "find neighbours"
pub record Becomes (S : StationList) (after : LasState) (set : ℕ → Bool) (r s : S.State) : Type 0 where
  pub active : (a : ℕ) → S.active s a ≡ set a
  pub own : S.own s ≡ S.own r
  pub next : IsNext (S.active s) (S.own s) (S.next s)
  pub previous : IsPrevious (S.active s) (S.own s) (S.previous s)
  pub phase : S.phase s ≡ after

-- a fresh list of a station
pub record Fresh (S : StationList) (station : ℕ) (r : S.State) : Type 0 where
  pub active : (a : ℕ) → S.active r a ≡ eqb a station
  pub own : S.own r ≡ station
  pub next : S.next r ≡ station
  pub previous : S.previous r ≡ station
  pub phase : S.phase r ≡ Uninitialized

-- the demand, a field for each sentence
pub record IsStationList (S : StationList) : Type 0 where
  -- "11 | own, set or removed address above 125"; "A refusal returns its number; records and buffers stay"; beside the maker's refusal stands
  -- the fresh list of address 0 (decision 20)
  pub new_answers : (own : ℕ) → (S.new own).answer ≡ station_answer own
  pub set_next_answers : (a : ℕ) (r : S.State) → Reached S r → (S.set_next a r).answer ≡ station_answer a
  pub remove_answers : (a : ℕ) (r : S.State) → Reached S r → (S.remove a r).answer ≡ station_answer a
  pub new_refused : (own : ℕ) → 125 < own → Fresh S 0 (S.new own).list
  pub next_refused :
      (a : ℕ) (r : S.State) → Reached S r → 125 < a
      → Stays S (S.phase r) r (S.set_next a r).list
  pub remove_refused :
      (a : ℕ) (r : S.State) → Reached S r → 125 < a
      → Stays S (S.phase r) r (S.remove a r).list
  -- "Fresh: own flag only, next = previous = own, Uninitialized"
  pub fresh : (own : ℕ) → own ≤ 125 → Fresh S own (S.new own).list
  -- "A pass sa to da with either above 125 changes nothing"
  pub ignored :
      (sa da : ℕ) (r : S.State) → Reached S r → (125 < sa) ⊎ (125 < da)
      → Stays S (S.phase r) r (S.witness sa da r)
  -- "Uninitialized: a wrap moves to Discovery; the flags stay"
  pub uninitialized :
      (sa da : ℕ) (r : S.State) → Reached S r → sa ≤ 125 → da ≤ 125 → S.phase r ≡ Uninitialized
      → Stays S (if (wrap sa da) Discovery Uninitialized) r (S.witness sa da r)
  -- "Discovery: update; a wrap moves to Verification"
  pub discovery :
      (sa da : ℕ) (r : S.State) → Reached S r → sa ≤ 125 → da ≤ 125 → S.phase r ≡ Discovery
      → Becomes S (if (wrap sa da) Verification Discovery) (updated_set sa da (S.active r)) r (S.witness sa da r)
  -- "Verification: the pass holds … Holds and wrap: Valid. Fails: update and Discovery, even on a wrap"
  pub held :
      (sa da : ℕ) (r : S.State) → Reached S r → sa ≤ 125 → da ≤ 125 → S.phase r ≡ Verification → PassHolds (S.active r) sa da
      → Stays S (if (wrap sa da) Valid Verification) r (S.witness sa da r)
  pub failed :
      (sa da : ℕ) (r : S.State) → Reached S r → sa ≤ 125 → da ≤ 125 → S.phase r ≡ Verification → (PassHolds (S.active r) sa da → ⊥)
      → Becomes S Discovery (updated_set sa da (S.active r)) r (S.witness sa da r)
  -- "Valid: update"
  pub valid :
      (sa da : ℕ) (r : S.State) → Reached S r → sa ≤ 125 → da ≤ 125 → S.phase r ≡ Valid
      → Becomes S Valid (updated_set sa da (S.active r)) r (S.witness sa da r)
  -- "Claiming makes the phase Valid"
  pub claimed : (r : S.State) → Reached S r → Stays S Valid r (S.claim r)
  -- "Setting the next station sets its flag, then updates as if own had passed to it"
  pub next_set :
      (a : ℕ) (r : S.State) → Reached S r → a ≤ 125
      → Becomes S (S.phase r) (updated_set (S.own r) a (λ b. if (eqb b a) true (S.active r b))) r (S.set_next a r).list
  -- "Removing clears the flag and finds neighbours"
  pub removed :
      (a : ℕ) (r : S.State) → Reached S r → a ≤ 125
      → Becomes S (S.phase r) (λ b. if (eqb b a) false (S.active r b)) r (S.remove a r).list

-- two lists that the same calls made, refused ones among them
pub data SameCalls (S T : StationList) : S.State → T.State → Type 0 where
  both_new : (own : ℕ) → SameCalls S T (S.new own).list (T.new own).list
  both_witness : (sa da : ℕ) {r : S.State} {s : T.State} → SameCalls S T r s
      → SameCalls S T (S.witness sa da r) (T.witness sa da s)
  both_claim : {r : S.State} {s : T.State} → SameCalls S T r s → SameCalls S T (S.claim r) (T.claim s)
  both_set_next : (a : ℕ) {r : S.State} {s : T.State} → SameCalls S T r s
      → SameCalls S T (S.set_next a r).list (T.set_next a s).list
  both_remove : (a : ℕ) {r : S.State} {s : T.State} → SameCalls S T r s
      → SameCalls S T (S.remove a r).list (T.remove a s).list

-- nothing that may be asked tells them apart
pub record SeenAlike (S T : StationList) (r : S.State) (s : T.State) : Type 0 where
  pub active : (a : ℕ) → S.active r a ≡ T.active s a
  pub own : S.own r ≡ T.own s
  pub next : S.next r ≡ T.next s
  pub previous : S.previous r ≡ T.previous s
  pub phase : S.phase r ≡ T.phase s

-- and no call answers them differently
pub record AnswersAlike (S T : StationList) (r : S.State) (s : T.State) : Type 0 where
  pub new : (own : ℕ) → (S.new own).answer ≡ (T.new own).answer
  pub set_next : (a : ℕ) → (S.set_next a r).answer ≡ (T.set_next a s).answer
  pub remove : (a : ℕ) → (S.remove a r).answer ≡ (T.remove a s).answer
