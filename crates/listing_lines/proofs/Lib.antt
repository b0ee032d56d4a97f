-- no second outcome fits the promise of the public call
pub mod Determined
-- a line: its pieces placed, and its length
pub mod LineLaws
