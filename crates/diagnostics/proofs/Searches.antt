-- The first module set is what its name says, of every body (`first_module`, `no_module`): `first_set` and `is_set` never part. And
-- asking one after the other gives all that are set (`one_after_the_other`).
use mathlib.Core.Path.{◌≡◌, refl}
use mathlib.Core.Bool.{Bool, true, false}
use mathlib.Core.List.{List, ◌∷◌}
use Rattle.std.specs.Prelude.{None, Option, Some}
use Prim.Native.Nat.{ℕ, zero, suc, ◌+◌, ◌-◌, ◌/◌, ◌^◌, ◌≤◌, ◌<◌}
use native.Mathlib.Decide.{dec_lt, ℕ_discrete}
use native.Mathlib.Numerals.{add-one}
use native.Mathlib.Omega.{arith}
use lib.ListN.{length}
use Rattle.ground.specs.Pick.{if}
use Rattle.diagnostics.specs.Meaning.{FirstSet, asked, set_from, set_of_next}
use Rattle.diagnostics_blocks.specs.Modules.{bit_of, first_of, first_of_next, modules_of}
use Rattle.diagnostics_blocks.proofs.Bits.{bit_past, module_inside}
use Rattle.diagnostics.proofs.Steps.{clash}

-- what an answer of the search says of the k modules from a number
data Searched (body : List ℕ) (k from : ℕ) : Option ℕ → Type 0 where
  first : (m : ℕ) → from ≤ m → m < from + k → bit_of body m ≡ true → ((j : ℕ) → from ≤ j → j < m → bit_of body j ≡ false)
      → Searched body k from (Some m)
  without : ((j : ℕ) → from ≤ j → j < from + k → bit_of body j ≡ false) → Searched body k from None

module _ (body : List ℕ) where
  clear_from : (from : ℕ) (P : ℕ → Type 0) → bit_of body from ≡ false → ((j : ℕ) → suc from ≤ j → P j → bit_of body j ≡ false) → (j : ℕ)
      → from ≤ j → P j
      → bit_of body j ≡ false
  clear_from from P here later j h p = by (ℕ_discrete j from)
    where
      by : Dec (j ≡ from) → bit_of body j ≡ false
      by (yes e) = rw e here
      by (no other) = later j (omega arith) p

  one_on : (k from : ℕ) {o : Option ℕ} → bit_of body from ≡ false → Searched body k (suc from) o → Searched body (suc k) from o
  one_on k from here (first m low high set clear) = first m (omega arith) (omega arith) set (clear_from from (λ (j : ℕ). j < m) here clear)
  one_on k from here (without clear) = without (λ j h p. clear_from from (λ (i : ℕ). i < suc from + k) here clear j h (omega arith))

  by_bit : (k from : ℕ) (b : Bool) → bit_of body from ≡ b → Searched body k (suc from) (first_of_next body k (suc from))
      → Searched body (suc k) from (if b (Some from) (first_of_next body k (suc from)))
  by_bit k from true set rest = first from (omega arith) (omega arith) set (λ j h p. absurd (omega arith))
  by_bit k from false clear rest = one_on k from clear rest

  searched : (k from : ℕ) → Searched body k from (first_of_next body k from)
  searched zero from = without (λ j h p. absurd (omega arith))
  searched (suc k) from = by_bit k from (bit_of body from) refl (searched k (suc from))

first_by : {body : List ℕ} {k from : ℕ} {o : Option ℕ} (m : ℕ) → Searched body k from o → o ≡ Some m → FirstSet body from m
first_by n (first m low high set clear) e =
    let same : m ≡ n = cc in
    rw (← same) (record { above = low; is_set = set; clear_before = clear })
first_by n (without clear) e =
    clash (cc)

-- the module that is answered is the first that is set at or above the number
pub first_module : (body : List ℕ) (from m : ℕ) → first_of body from ≡ Some m → FirstSet body from m
unfolding first_of
first_module body from m e = first_by m (searched body (modules_of body - from) from) e

clear_by : {body : List ℕ} {k from : ℕ} {o : Option ℕ} → Searched body k from o → o ≡ None → (j : ℕ) → from ≤ j → j < from + k
    → bit_of body j ≡ false
clear_by (first m low high set clear) e j h p =
    clash (cc)
clear_by (without clear) e j h p = clear j h p

-- where none is answered, no module at or above the number is set, of any number that can be asked for
pub no_module : (body : List ℕ) (from : ℕ) → first_of body from ≡ None → (j : ℕ) → from ≤ j → j < 2 ^ 64 → bit_of body j ≡ false
unfolding first_of
no_module body from e j h small = by (dec_lt (j / 8) (length body))
  where
    by : Dec (j / 8 < length body) → bit_of body j ≡ false
    by (yes inside) =
        let there : j < modules_of body = module_inside body j small inside in
        clear_by (searched body (modules_of body - from) from) e j h (omega arith)
    by (no past) = bit_past body j (omega arith)

asked_by : (body : List ℕ) (k from : ℕ) (b : Bool) → modules_of body - from ≡ suc k
    → set_of_next body k (suc from) ≡ asked body (first_of_next body k (suc from))
    → if b (from ∷ set_of_next body k (suc from)) (set_of_next body k (suc from)) ≡ asked body (if b (Some from) (first_of_next body k (suc from)))
unfolding set_from
asked_by body k from true left rest =
    let less : modules_of body - (from + 1) ≡ k = omega arith in
    rw (less, add-one)
asked_by body k from false left rest = rest

asked_next : (body : List ℕ) (k from : ℕ) → modules_of body - from ≡ k → set_of_next body k from ≡ asked body (first_of_next body k from)
asked_next body zero from left = refl
asked_next body (suc k) from left = asked_by body k from (bit_of body from) left (asked_next body k (suc from) (omega arith))

-- asking from a number, and again from one above each answer, gives the modules that are set
pub one_after_the_other : (body : List ℕ) (from : ℕ) → set_from body from ≡ asked body (first_of body from)
unfolding set_from first_of
one_after_the_other body from = asked_next body (modules_of body - from) from refl
