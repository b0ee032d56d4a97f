-- Read `Calls`: a definition for each call, its whole promise.
-- a station list as bytes
pub mod Bytes
-- what each call gives and leaves
pub mod Calls
