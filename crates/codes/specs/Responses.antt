-- Document 01, "Function code": a response's state and status, and their numbers, `state_number` and `status_number`.
use Rattle.std.specs.Prelude.{ℕ, List, [], ◌∷◌, None, Option, Some}
use Rattle.ground.specs.Lookup.{lookup}
use Rattle.codes.specs.declared.response.ResponseState.{ResponseState}
use Rattle.codes.specs.declared.response.ResponseState.TheVariants.{Slave, MasterNotReady, MasterWithoutToken, MasterInRing}
use Rattle.codes.specs.declared.response.ResponseStatus.{ResponseStatus}
use Rattle.codes.specs.declared.response.ResponseStatus.TheVariants.{Ok, UserError, NoResources, SapNotEnabled, DataLow, NoDataReady, DataHigh, NotReceivedDataLow, NotReceivedDataHigh}

-- "the state 0 to 3"
abbrev pub state_number : ResponseState → ℕ
state_number Slave = 0
state_number MasterNotReady = 1
state_number MasterWithoutToken = 2
state_number MasterInRing = 3

abbrev pub response_states : List ResponseState
response_states = Slave ∷ MasterNotReady ∷ MasterWithoutToken ∷ MasterInRing ∷ []

-- the state that has the number
unfoldable pub state_of : ℕ → Option ResponseState
state_of = lookup state_number Some None response_states

-- "low four bits one of 0, 1, 2, 3, 8, 9, A, C, D"
abbrev pub status_number : ResponseStatus → ℕ
status_number Ok = 0x0
status_number UserError = 0x1
status_number NoResources = 0x2
status_number SapNotEnabled = 0x3
status_number DataLow = 0x8
status_number NoDataReady = 0x9
status_number DataHigh = 0xA
status_number NotReceivedDataLow = 0xC
status_number NotReceivedDataHigh = 0xD

abbrev pub response_statuses : List ResponseStatus
response_statuses =
    Ok
    ∷ UserError
    ∷ NoResources
    ∷ SapNotEnabled
    ∷ DataLow
    ∷ NoDataReady
    ∷ DataHigh
    ∷ NotReceivedDataLow
    ∷ NotReceivedDataHigh
    ∷ []

-- the status that has the number
unfoldable pub status_of : ℕ → Option ResponseStatus
status_of = lookup status_number Some None response_statuses
