-- Document 01, "The station list": the four phases.
use Rattle.std.specs.Prelude.{Bool, true, false}
use Rattle.token_ring.specs.declared.las_state.LasState.{LasState}
use Rattle.token_ring.specs.declared.las_state.LasState.TheVariants.{Uninitialized, Discovery, Verification, Valid}

-- the list may be trusted in one phase of the four
abbrev pub is_valid : LasState → Bool
is_valid Uninitialized = false
is_valid Discovery = false
is_valid Verification = false
is_valid Valid = true
