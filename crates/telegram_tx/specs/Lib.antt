-- Read `Writing`.
-- document 01's rules of writing: the answer, and the buffer that is left
pub mod Writing
-- writing what was read
pub mod WrittenBack
-- what private functions promise each other
pub mod Leaves
