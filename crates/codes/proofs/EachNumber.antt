-- A test computed at each of the first numbers: where it fails at none (`NoFault`), it holds at each (`at_each`).
use Rattle.std.proofs.Common.{◌≡◌, ℕ, zero, suc, ◌+◌, ◌<◌, Bool, true, false, List, [], ◌∷◌, refl, le_of_suc-le-suc, not-suc-le-zero, add-zero, add-suc, suc-add, zero-add}
use Rattle.ground.proofs.Injective.{zero_one}

-- A number before others, where a test fails at it.
unfoldable pub fault_before : Bool → ℕ → List ℕ → List ℕ
fault_before true i rest = rest
fault_before false i rest = i ∷ rest

-- Those of n numbers from i on at which a test fails.
unfoldable pub faults_from : (ℕ → Bool) → ℕ → ℕ → List ℕ
faults_from f i zero = []
faults_from f i (suc n) = fault_before (f i) i (faults_from f (suc i) n)

-- There are none. Where it is not so, the numbers stand in the type that the prover shows.
pub data NoFault : List ℕ → Type 0 where
  no_fault : NoFault []

none : {faults : List ℕ} → NoFault faults → faults ≡ []
none no_fault = refl

none_first : (t : Bool) (i : ℕ) (rest : List ℕ) → fault_before t i rest ≡ [] → t ≡ true
unfolding fault_before
none_first true i rest e = refl
none_first false i rest e = absurd (zero_one (cc))

none_behind : (t : Bool) (i : ℕ) (rest : List ℕ) → fault_before t i rest ≡ [] → rest ≡ []
unfolding fault_before
none_behind true i rest e = e
none_behind false i rest e = absurd (zero_one (cc))

each_from : (f : ℕ → Bool) (i n : ℕ) → faults_from f i n ≡ [] → (k : ℕ) → k < n → f (i + k) ≡ true
unfolding faults_from
each_from f i zero e k h = absurd (not-suc-le-zero h)
each_from f i (suc n) e zero h = rw add-zero (none_first (f i) i (faults_from f (suc i) n) e)
each_from f i (suc n) e (suc k) h =
    rw (add-suc, ← suc-add) (each_from f (suc i) n (none_behind (f i) i (faults_from f (suc i) n) e) k (le_of_suc-le-suc h))

pub at_each : (f : ℕ → Bool) (n : ℕ) → NoFault (faults_from f 0 n) → (k : ℕ) → k < n → f k ≡ true
at_each f n faultless k h = rw zero-add at (each_from f 0 n (none faultless) k h)
