-- A definition that leads back to its values tells them apart: `injective`, by which every injectivity law is proved that would else want a
-- clause for each two cases. And `zero_one`, by which two cases of a type that would be one are shut out.
use Prim.Native.Nat.{ℕ}
use mathlib.Core.Path.{◌≡◌, sym, ◌∙◌, ap}
use native.Mathlib.Omega.{arith}

-- Where what is shown of a value leads back to the value inside a case, two values that are shown alike are alike there.
pub led_back :
    {A B C : Type 0} (shown : A → B) (is : A → C) (back : B → C) → ((x : A) → back (shown x) ≡ is x)
    → (x y : A) → shown x ≡ shown y → is x ≡ is y
led_back shown is back again x y e = sym (again x) ∙ ap back e ∙ again y

-- Where it leads back to the value itself, they are alike.
pub injective :
    {A B : Type 0} (shown : A → B) (back : B → A) → ((x : A) → back (shown x) ≡ x)
    → (x y : A) → shown x ≡ shown y → x ≡ y
injective shown back = led_back shown (λ x. x) back

-- Where two cases would be one, `cc` shows that 0 is 1.
pub zero_one : ◌≡◌ {A = ℕ} 0 1 → ⊥
zero_one e = omega arith
