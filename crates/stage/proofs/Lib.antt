-- Each step on a stage is proved beside its code; these are what the proofs share.
-- a scene that is played, step by step
pub mod PlayLaws
-- a row of steps, by the number of tries
pub mod RowLaws
-- what is shown of an answer tells its values apart
pub mod ShownLaws
-- no second outcome fits the promise of any public call
pub mod Determined
