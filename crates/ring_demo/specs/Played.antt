-- The list that the program plays: document 01's first sample of the station list, `played` up to discovery and `played_on` up to Valid.
use Rattle.std.specs.Prelude.{ℕ, [], ◌∷◌}
use Rattle.token_ring.specs.Rules.{made}
use Rattle.token_ring.specs.Passes.{Pass, ◌to◌, after}
use Rattle.token_ring.specs.declared.ring.TokenRing.{TokenRing}

-- own 7: 9-2, 2-5, 5-9, 9-2
abbrev pub played : TokenRing
played = after (9 to 2 ∷ 2 to 5 ∷ 5 to 9 ∷ 9 to 2 ∷ []) (made 7)

-- then 2-5, 5-9, 9-2
abbrev pub played_on : TokenRing
played_on = after (2 to 5 ∷ 5 to 9 ∷ 9 to 2 ∷ []) played

-- a pass as the program writes it
abbrev pub pass : ℕ × ℕ → Pass
pass p = p.0 to p.1
