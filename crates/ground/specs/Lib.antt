-- What a definition of any crate may be made of, in reading order.
-- a test picks one of two
pub mod Pick
-- the one of a row that has a number
pub mod Lookup
-- a bit of a number
pub mod Bits
-- a part of a byte string, and how it is shown
pub mod Part
-- bytes at the front of a lent buffer
pub mod Front
-- document 01's refusals and their numbers; what a call gives, or its refusal
pub mod Refusals
-- "no second outcome fits": what it is that a promise determines a call
pub mod Determined
