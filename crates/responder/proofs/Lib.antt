-- Read `Scenes`; the rest serves the proofs of the code.
-- a responder's day, computed
pub mod Scenes
-- what a call comes to, by its room and by what is lent
pub mod CallLaws
-- the maker, case by case
pub mod RecordLaws
-- what is shown of an answer tells its values apart
pub mod ShownLaws
-- no second outcome fits the promise of any public call
pub mod Determined
