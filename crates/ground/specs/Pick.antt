-- The pick of a test, for the definitions of every crate: `if t a b` is a where the test t holds, else b.
use Rattle.std.specs.Prelude.{Bool, true, false}

abbrev pub if {ℓ} : {A : Type ℓ} → Bool → A → A → A
if true a b = a
if false a b = b
