-- The order link for programs in other languages. Read `InitiatorCalls` and `ResponderCalls`.
-- what the bytes of the two records have in common
pub mod Bytes
-- what a call of either end is
pub mod Calls
-- the initiator: its record as bytes, and its calls
pub mod InitiatorBytes
pub mod InitiatorCalls
-- the responder: its record as bytes, and its calls
pub mod ResponderBytes
pub mod ResponderCalls
-- what private functions promise each other
pub mod Leaves
