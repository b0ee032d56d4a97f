-- Read `Determined`; the rest is cited by the crates above.
-- laws of a pick, of a bit as a number, and of a part of a byte string
pub mod PickLaws
pub mod BitLaws
pub mod PartLaws
-- laws of bytes at the front of a buffer, and of bytes stored one by one
pub mod FrontLaws
pub mod StoreLaws
-- injectivity by a way back; the refusals, led back to from their numbers
pub mod Injective
pub mod RefusalLaws
-- "no second outcome", shown once in general
pub mod DeterminedLaws
-- no second outcome fits the promise of any public call
pub mod Determined
