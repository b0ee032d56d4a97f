-- Read `CallLaws`; the rest serves the proofs of the code.
-- what a call comes to, case by case
pub mod CallLaws
-- the pending order in its array
pub mod OrderLaws
-- a call on a record with another number of tries
pub mod TriesLaws
-- a call on a head and a lent order
pub mod HeadLaws
-- the maker, case by case
pub mod RecordLaws
-- what is shown of an answer tells its values apart
pub mod ShownLaws
-- no second outcome fits the promise of any public call
pub mod Determined
