-- What a guarded call of either end is to a program in another language: that of `exports_link` and its guard. Read `GuardedCall`, `ignored`.
use Rattle.std.specs.Prelude.{ℕ, List, [], ◌∷◌}
use Rattle.exports_link.specs.Calls.{NewCall, unless_refused}

pub record GuardedCall : Type 0 where
  pub code : ℕ
  pub told : List ℕ
  pub state : List ℕ
  pub guard : List ℕ
  pub buffer : List ℕ

-- making an end
pub record GuardedNew : Type 0 where
  pub code : ℕ
  pub state : List ℕ
  pub guard : List ℕ

-- an end made, with its guard as it came and as it is made
abbrev pub made_with : List ℕ → List ℕ → NewCall → GuardedNew
made_with before after c = record { code = c.code; state = c.state; guard = unless_refused c.code before after }

-- nothing heard: only what is told is written
abbrev pub ignored : List ℕ → List ℕ → List ℕ → GuardedCall
ignored state guard buf = record { code = 0; told = 0 ∷ 0 ∷ 0 ∷ []; state = state; guard = guard; buffer = buf }
