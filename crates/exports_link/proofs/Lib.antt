-- Read `InitiatorLossless` and `ResponderLossless`; the rest serves the proofs of the code.
-- a record packed and unpacked is the same, and every call keeps what that asks for
pub mod InitiatorLossless
pub mod ResponderLossless
-- a call by value, carried across to lent bytes
mod CallLaws
-- the bytes of a record
mod ByteLaws
-- no second outcome fits the promise of any public call
pub mod Determined
