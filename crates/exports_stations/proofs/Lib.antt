-- Read `Lossless: stations_again` and `Determined: determined`; the rest serves the functions' proofs.
-- a list packed into bytes and unpacked is the same list
pub mod Lossless
-- no second outcome fits the promise of any public call
pub mod Determined
-- a call by value, carried across to a call on lent bytes
mod CallLaws
-- the loop that maps one list into another, and where the bytes of a list stand
mod MapLaws
