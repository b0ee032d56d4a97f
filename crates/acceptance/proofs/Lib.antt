-- Read `NoSecondOutcome`, `RefusedStays` and `Samples`; then what is refuted, `WrongRefusals` and `WrongLister`.
-- demand 1: no second outcome fits the promise of any public call
pub mod NoSecondOutcome
-- demand 1: a refused call leaves its records and what it was lent; the walk moves to its end
pub mod RefusedStays
-- document 01's samples marked P
pub mod Samples
-- a lister that invents, refuted
pub mod WrongLister
-- promises that let a refused call touch something; and that every refusal counts as one
pub mod WrongRefusals
-- what the definitions leave where they refuse: answers, and the calls of the order link
mod RefusedLaws
mod RefusedTurns
