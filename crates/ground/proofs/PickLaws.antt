-- Laws of a pick: what holds of both sides holds of it, and when a test joined to another holds.
use mathlib.Core.Bool.{Bool, true, false}
use mathlib.Core.Path.{◌≡◌, refl, sym}
use Rattle.ground.specs.Pick.{if}

-- What holds of each side where the test picks it, holds of the pick.
pub picked :
    {A : Type 0} (P : A → Type 0) (t : Bool) {a b : A} → (t ≡ true → P a) → (t ≡ false → P b)
    → P (if t a b)
picked P true f g = f refl
picked P false f g = g refl

-- `if s t false`: where it holds, both tests do.
pub both_first : (s t : Bool) → if s t false ≡ true → s ≡ true
both_first true t e = refl
both_first false t e = e

pub both_second : (s t : Bool) → if s t false ≡ true → t ≡ true
both_second true t e = e
both_second false t e = let z : true ≡ false = sym e in cc
