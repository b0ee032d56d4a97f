-- Read `Theorem`, then `Runs` and `Wrong`; the rest serves them.
-- demand 3 of the calls
pub mod Theorem
-- runs of the calls on bytes, computed
pub mod Runs
-- wrong ends on bytes, for which demand 3 is refuted
pub mod Wrong
-- the messages of the link as telegrams
pub mod Codec
-- a record of the code, seen as where its end stands on messages
pub mod Views
-- a call of either end: what it writes, and its room
pub mod EitherEnd
-- each call of the initiator, and of the responder, is the call on messages
pub mod InitiatorCalls
pub mod ResponderCalls
