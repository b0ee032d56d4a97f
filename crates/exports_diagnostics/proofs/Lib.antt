-- no second outcome fits the promise of any public call
pub mod Determined
