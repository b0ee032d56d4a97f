-- The promise of a call that may refuse, each part by its name: `Gives`. `TokenRing::new`, `set_next_station` and `remove_station` promise it.
use Rattle.std.specs.Prelude.{◌≡◌, ℕ, Result}
use Rattle.ground.specs.declared.refusal.Refusal.{Refusal}
use Rattle.ground.specs.declared.returned.Returned.{Returned}
use Rattle.ground.specs.Refusals.{shown}
use Rattle.token_ring.specs.declared.ring.TokenRing.{TokenRing}

-- the number of the answer, 0 for done, and the list
pub record Gives (number : ℕ) (after : TokenRing) (c : Returned (Result Unit Refusal) TokenRing) : Type 0 where
  pub answer : shown c.answer ≡ number
  pub ring : c.after ≡ after
