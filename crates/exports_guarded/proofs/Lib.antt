-- Read `GuardLaws`; the rest serves the proofs of the code.
-- what the guards are for: what is stale is ignored, and an answer that is accepted named the order that was handed up last
pub mod GuardLaws
-- no second outcome fits the promise of any public call
pub mod Determined
