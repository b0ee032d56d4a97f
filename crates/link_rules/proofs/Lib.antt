-- Read `RuleLaws`.
-- the rules as tests, and as the facts that hold where the tests refuse nothing
pub mod RuleLaws
-- no second outcome fits the promise of any public call
pub mod Determined
