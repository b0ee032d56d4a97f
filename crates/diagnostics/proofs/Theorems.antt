-- The walk, the rows of specs/Blocks.antt and the faults of specs/Faults.antt, joined: `walk_exactly`, `fault_exactly`. Between them they speak of
-- every byte string (`row_or_fault`), and of none twice: `row_or_broken`, `one_fault`.
use Prim.Native.Nat.{ℕ, ◌<◌}
use mathlib.Core.List.{List, []}
use mathlib.Core.Logic.{◌⊎◌, inl, inr}
use mathlib.Core.Path.{◌≡◌, refl, ap, sym, ◌∙◌}
use Rattle.ground.proofs.Injective.{zero_one}
use Rattle.ground.specs.Part.{byte_at}
use Rattle.diagnostics.specs.Blocks.{Block, RowSays, document01, no_block}
use Rattle.diagnostics.specs.Faults.{Broken, Fault}
use Rattle.diagnostics.specs.Walk.{Walk, broken, walk_of, whole}
use Rattle.diagnostics.proofs.RowWalked.{fault_walked, row_walked}
use Rattle.diagnostics.proofs.Steps.{clash}
use Rattle.diagnostics.proofs.WalkSays.{Walked, brokenly, walk_says, wholly}

whole_said : {s : List ℕ} {w : Walk} {bs : List Block} → Walked s w → w ≡ record { blocks = bs; ending = whole } → RowSays document01 s bs
whole_said {bs = bs} (wholly {bs = cs} says) e =
    let same : cs ≡ bs = ap (λ (w : Walk). w.blocks) e in
    record { says = rw same at says; together = tt }
whole_said (brokenly broke) e = let ends = ap (λ (w : Walk). w.ending) e in clash (cc)

broken_said : {s : List ℕ} {w : Walk} {bs : List Block} {n : ℕ} → Walked s w → w ≡ record { blocks = bs; ending = broken n } → Broken s bs n
broken_said (wholly says) e = let ends = ap (λ (w : Walk). w.ending) e in clash (cc)
broken_said {bs = bs} {n = n} (brokenly {bs = cs} {n = m} broke) e =
    let same : cs ≡ bs = ap (λ (w : Walk). w.blocks) e in
    let ends = ap (λ (w : Walk). w.ending) e in
    let number : m ≡ n = cc in
    rw (same, number) at broke

-- The walk gives a row of blocks and then the end exactly where the bytes are that row.
pub walk_exactly :
    (s : List ℕ) (bs : List Block) → ((i : ℕ) → byte_at s i < 256)
    → (walk_of s ≡ record { blocks = bs; ending = whole } → RowSays document01 s bs)
    × (RowSays document01 s bs → walk_of s ≡ record { blocks = bs; ending = whole })
walk_exactly s bs byte = (whole_said (walk_says s byte), row_walked)

-- The walk gives a row of blocks and then a refusal exactly where the bytes are that row and then begin with the fault of that number.
pub fault_exactly :
    (s : List ℕ) (bs : List Block) (n : ℕ) → ((i : ℕ) → byte_at s i < 256)
    → (walk_of s ≡ record { blocks = bs; ending = broken n } → Broken s bs n)
    × (Broken s bs n → walk_of s ≡ record { blocks = bs; ending = broken n })
fault_exactly s bs n byte = (broken_said (walk_says s byte), fault_walked)

-- Bytes are a row of blocks, or one and then a fault.
pub row_or_fault :
    (s : List ℕ) → ((i : ℕ) → byte_at s i < 256)
    → ((bs : List Block) × RowSays document01 s bs) ⊎ ((bs : List Block) × (n : ℕ) × Broken s bs n)
row_or_fault s byte = by (walk_says s byte)
  where
    by : {w : Walk} → Walked s w → ((bs : List Block) × RowSays document01 s bs) ⊎ ((bs : List Block) × (n : ℕ) × Broken s bs n)
    by (wholly {bs} says) = inl (bs, record { says = says; together = tt })
    by (brokenly {bs} {n} broke) = inr (bs, n, broke)

-- No bytes are both.
pub row_or_broken : {s : List ℕ} {bs cs : List Block} {n : ℕ} → RowSays document01 s bs → Broken s cs n → ⊥
row_or_broken row broke = let ends = ap (λ (w : Walk). w.ending) (sym (row_walked row) ∙ fault_walked broke) in zero_one (cc)

-- No bytes begin with two faults.
pub one_fault : {s : List ℕ} {n m : ℕ} → Fault s n → Fault s m → n ≡ m
one_fault {s} {n} {m} one other =
    let ends = ap (λ (w : Walk). w.ending) (sym (fault_walked (at_once one)) ∙ fault_walked (at_once other)) in
    cc
  where
    at_once : {k : ℕ} → Fault s k → Broken s [] k
    at_once fault = record { front = []; rest = s; row = record { says = no_block; together = tt }; fault = fault; bytes = refl }
