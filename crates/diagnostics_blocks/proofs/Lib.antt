-- no second outcome fits the promise of any public call
pub mod Determined
-- what the promises say of an answer determines it
pub mod Shows
-- a body's bits; the numbers of types and errors
pub mod Bits
pub mod Numbers
