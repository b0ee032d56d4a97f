-- Laws of the rules of a link: what they say where they refuse nothing.
use mathlib.Core.Path.{◌≡◌, refl}
use mathlib.Core.Bool.{Bool, true, false}
use Prim.Native.Nat.{ℕ}
use native.Mathlib.Omega.{arith}
use Rattle.ground.specs.Pick.{if}
use Rattle.link_rules.proofs.RuleLaws.{addresses_linked, linked_addresses, tries_permitted, permitted_tries}
use Rattle.link_rules.specs.Rules.{wrong_addresses, wrong_tries, link_of}
use Rattle.settings.specs.Rules.{rule_of, Allowed}

-- The rules refuse nothing just where the condition holds, and give no 20.
pub rule_allowed : (own peer tries : ℕ) → rule_of own peer tries ≡ 0 → Allowed own peer tries
unfolding rule_of
rule_allowed own peer tries e = go (wrong_addresses (link_of own peer)) refl (wrong_tries tries) refl e
  where
    go : (a : Bool) → wrong_addresses (link_of own peer) ≡ a → (b : Bool) → wrong_tries tries ≡ b → ◌≡◌ {A = ℕ} (if a 18 (if b 19 0)) 0
        → Allowed own peer tries
    go true p b q e = absurd (omega arith)
    go false p true q e = absurd (omega arith)
    go false p false q e = record { addresses = addresses_linked (link_of own peer) p; permitted = tries_permitted tries q }

pub allowed_rule : (own peer tries : ℕ) → Allowed own peer tries → rule_of own peer tries ≡ 0
unfolding rule_of
allowed_rule own peer tries k = rw (linked_addresses (link_of own peer) k.addresses, permitted_tries tries k.permitted)

pub rule_is : (own peer tries : ℕ) → rule_of own peer tries ≡ 20 → ⊥
unfolding rule_of
rule_is own peer tries e = go (wrong_addresses (link_of own peer)) (wrong_tries tries) e
  where
    go : (a b : Bool) → ◌≡◌ {A = ℕ} (if a 18 (if b 19 0)) 20 → ⊥
    go true b e = omega arith
    go false true e = omega arith
    go false false e = omega arith
