-- Read `Channel` and `Modules`, which the promises of the calls cite, seen through `Shown`.
-- what the three bytes of a channel block say
pub mod Channel
-- the bits of an identifier block's body
pub mod Modules
-- the numbers and values of document 01 for each answer of the code
pub mod Shown
