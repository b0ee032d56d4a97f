-- Read `RowLaws`.
-- a row, its head, and the reply that it holds
pub mod RowLaws
-- what is shown of a heard request and of an answer tells their values apart
pub mod ShownLaws
-- no second outcome fits the promise of any public call
pub mod Determined
