-- Read `Theorems`; the rest serves it and the functions.
-- strict mode beside the picture, and beside the default
pub mod Theorems
-- a stream in strict mode beside document 01's
pub mod StrictStreams
-- either mode, for callers that take it as an argument
pub mod ModeLaws
-- no second outcome fits the promise of any public call
pub mod Determined
-- what is known of a start where strict mode passes or refuses it
pub mod StartLaws
