-- Walks for which demand 2 is refuted. Each is any walk that has the fault.
use Prim.Native.Nat.{ℕ, ◌≤◌, ◌<◌}
use mathlib.Core.List.{List, [], ◌∷◌}
use mathlib.Core.Logic.{◌⊎◌, inl, inr}
use mathlib.Core.Path.{◌≡◌, refl, ap, sym, ◌∙◌}
use native.Mathlib.Omega.{arith}
use lib.Dec.{lit≤}
use Rattle.ground.proofs.Injective.{zero_one}
use Rattle.diagnostics.specs.Blocks.{Block, BlocksSay, device, device_says, document01, no_block, one_more}
use Rattle.diagnostics.specs.Faults.{Broken, Fault, block_cut_off, device_zero, identifier_zero, reserved_header}
use Rattle.diagnostics.specs.Walk as walks
use Rattle.diagnostics.specs.Walk.{Walk, broken}
use Rattle.telegram.specs.Begins.{Bytes}
use Rattle.demand_2.proofs.ByteRows.{bytes}
use Rattle.demand_2.specs.Walks.{IsWalk}

abbrev empty_device : List Block
empty_device = device [] ∷ []

-- 01: an empty device block
one_block : BlocksSay document01 (0x01 ∷ []) empty_device
one_block = one_more (device_says (lit≤ tt)) no_block

-- 01 C0: the same, and then a reserved header
abbrev then_reserved : List ℕ
then_reserved = 0x01 ∷ 0xC0 ∷ []

then_reserved_lem : Broken then_reserved empty_device 13
then_reserved_lem =
    record {
      front = 0x01 ∷ [];
      rest = 0xC0 ∷ [];
      row = record { says = one_block; together = tt };
      fault = reserved_header {low = 0} (lit≤ tt);
      bytes = refl;
    }

-- C0 01: a reserved header, and what would be a block behind it
abbrev reserved_first : List ℕ
reserved_first = 0xC0 ∷ 0x01 ∷ []

reserved_first_lem : Broken reserved_first [] 13
reserved_first_lem =
    record {
      front = [];
      rest = reserved_first;
      row = record { says = no_block; together = tt };
      fault = reserved_header {low = 0} (lit≤ tt);
      bytes = refl;
    }

-- the number of a fault is 12, 13 or 14
fault_number : {s : List ℕ} {n : ℕ} → Fault s n → (12 ≤ n) × (n ≤ 14)
fault_number (block_cut_off _) = omega arith
fault_number (reserved_header _) = omega arith
fault_number device_zero = omega arith
fault_number identifier_zero = omega arith

module _ (walk : List ℕ → Walk) (is : IsWalk walk) where
  goes_on : walk (0x01 ∷ []) ≡ record { blocks = empty_device; ending = walks.whole }
  goes_on = is.walked (0x01 ∷ []) empty_device (bytes (0x01 ∷ []) refl) (record { says = one_block; together = tt })

  stops : walk then_reserved ≡ record { blocks = empty_device; ending = broken 13 }
  stops = is.refused then_reserved empty_device 13 (bytes then_reserved refl) then_reserved_lem

  -- a walk refusing all
  pub walk_refuses_all : ((s : List ℕ) (bs : List Block) → walk s ≡ record { blocks = bs; ending = walks.whole } → ⊥) → ⊥
  walk_refuses_all none = none (0x01 ∷ []) empty_device goes_on

  -- a walk that finds nothing
  pub walk_finds_nothing : ((s : List ℕ) → (walk s).blocks ≡ []) → ⊥
  walk_finds_nothing none = let e = sym (none (0x01 ∷ [])) ∙ ap (λ w. w.blocks) goes_on in zero_one (cc)

  -- a walk that ends whole, or gives no blocks and a number of its own: 01 C0 is a block, and then 13
  pub walk_invents_a_number : ((s : List ℕ) → ((walk s).ending ≡ walks.whole) ⊎ (walk s ≡ record { blocks = []; ending = broken 99 })) → ⊥
  walk_invents_a_number all = by (all then_reserved)
    where
      by : ((walk then_reserved).ending ≡ walks.whole) ⊎ (walk then_reserved ≡ record { blocks = []; ending = broken 99 }) → ⊥
      by (inl e) = let f = sym e ∙ ap (λ w. w.ending) stops in zero_one (cc)
      by (inr e) = let f = ap (λ (w : Walk). w.blocks) (sym e ∙ stops) in zero_one (cc)

  -- a walk that anywhere ends with another number than 12 to 14; and one that takes one of them for another
  pub walk_has_another_number :
      (s : List ℕ) (bs : List Block) (n : ℕ) → Bytes s → walk s ≡ record { blocks = bs; ending = broken n } → (n < 12) ⊎ (14 < n)
      → ⊥
  walk_has_another_number s bs n byte e (inl low) = let h = fault_number (is.faulted s bs n byte e).fault in omega arith
  walk_has_another_number s bs n byte e (inr high) = let h = fault_number (is.faulted s bs n byte e).fault in omega arith

  pub walk_confuses_numbers : (n : ℕ) → (n ≡ 13 → ⊥) → (walk then_reserved).ending ≡ broken n → ⊥
  walk_confuses_numbers n other e =
      let f = sym e ∙ ap (λ w. w.ending) stops in
      let same : n ≡ 13 = cc in
      other same

  -- a walk that drops the blocks before a fault
  pub walk_drops_blocks : ((s : List ℕ) (bs : List Block) (n : ℕ) → walk s ≡ record { blocks = bs; ending = broken n } → bs ≡ []) → ⊥
  walk_drops_blocks none = let e = none then_reserved empty_device 13 stops in zero_one (cc)

  -- a walk that goes on after a fault: it finds a block behind C0
  pub walk_goes_on_after_a_fault : (b : Block) (bs : List Block) → (walk reserved_first).blocks ≡ b ∷ bs → ⊥
  walk_goes_on_after_a_fault b bs e =
      let f = sym e ∙ ap (λ w. w.blocks) (is.refused reserved_first [] 13 (bytes reserved_first refl) reserved_first_lem) in
      zero_one (cc)
