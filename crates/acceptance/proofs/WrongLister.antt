-- A lister that document 01 names, refuted: one that invents its `bytes` value.
use Prim.Native.Nat.{ℕ, ◌≤◌}
use mathlib.Core.List.{List}
use mathlib.Core.Path.{◌≡◌, ap, sym, ◌∙◌}
use lib.ListN.{length}
use Rattle.listing.proofs.Samples.{bytes_told}
use Rattle.listing.specs.Listing.{listing_of}
use Rattle.text.specs.Decimal.{number_at}
use Rattle.std.proofs.Common.{Option, None, Some}
use Rattle.text.specs.declared.decimal.Number.{Number}

value_in : Option Number → ℕ
value_in (Some number) = number.value
value_in None = 0

-- "an invented … `bytes` value": a text that is what `list` and `output` promise names the input's length and no other number.
pub names_other_bytes : (lists : List ℕ → List ℕ) → ((input : List ℕ) → lists input ≡ listing_of input) → (input : List ℕ) (limit n at : ℕ) → length input ≤ limit → number_at (lists input) 6 limit ≡ Some (record { value = n; next = at }) → (n ≡ length input → ⊥) → ⊥
unfolding value_in
names_other_bytes lists promise input limit n at h e other =
    let f = bytes_told input limit h in
    let g = ap (λ text. number_at text 6 limit) (promise input) in
    other (ap value_in (sym e ∙ g ∙ f))
