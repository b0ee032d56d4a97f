-- Read `Serialized`.
-- the bytes of a data telegram by a header with its function code's byte; the answer, and the buffer that is left
pub mod Serialized
-- what private functions promise each other
pub mod Leaves
