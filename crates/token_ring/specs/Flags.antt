-- Document 01, "The station list": the 128 flags, a list with the flag of address 0 first. An address that has no flag is not active. Read
-- `active`, `lowest_from`, `highest_below` and `shown_found`, which promises cite; `cleared` and `quiet` are for specs/Rules.antt.
use Rattle.std.specs.Prelude.{ℕ, suc, Bool, true, false, ◌&&◌, List, [], ◌∷◌, take, drop, nat_le, nat_lt, slice_index_or, slice_range, None, Option, Some}
use Rattle.ground.specs.Pick.{if}
use Rattle.ground.specs.declared.address.Address.{Address}

-- whether an address is active: its flag is set
abbrev pub active : List Bool → ℕ → Bool
active flags a = slice_index_or flags a false

-- from one address up to below another
abbrev pub within : ℕ → ℕ → ℕ → Bool
within from to a = nat_le from a && nat_lt a to

-- the flags with those from one address up to below another cleared; `k` is the address of the first
abbrev pub sweep : ℕ → ℕ → ℕ → List Bool → List Bool
sweep from to k [] = []
sweep from to k (x ∷ xs) = if (within from to k) false x ∷ sweep from to (suc k) xs

-- clear flags from one address up to below another
unfoldable pub cleared : ℕ → ℕ → List Bool → List Bool
cleared from to flags = sweep from to 0 flags

-- whether none of these flags is set
abbrev pub all_clear : List Bool → Bool
all_clear [] = true
all_clear (x ∷ xs) = if x false (all_clear xs)

-- whether nothing from one address up to below another is active
unfoldable pub quiet : ℕ → ℕ → List Bool → Bool
quiet from to flags = all_clear (slice_range flags from to)

-- the lowest active address, if there is one; `k` is the address of the first flag
abbrev pub lowest : ℕ → List Bool → Option ℕ
lowest k [] = None
lowest k (x ∷ xs) = if x (Some k) (lowest (suc k) xs)

-- the lowest active address from one upward
unfoldable pub lowest_from : ℕ → List Bool → Option ℕ
lowest_from from flags = lowest from (drop from flags)

-- the highest active address, else what was found below; `k` is the address of the first flag
abbrev pub highest : ℕ → List Bool → Option ℕ → Option ℕ
highest k [] below = below
highest k (x ∷ xs) below = highest (suc k) xs (if x (Some k) below)

-- the highest active address below one
unfoldable pub highest_below : ℕ → List Bool → Option ℕ
highest_below to flags = highest 0 (take to flags) None

-- the answer of a search, as the address found
abbrev pub shown_found : Option Address → Option ℕ
shown_found (Some a) = Some a.0
shown_found None = None
