-- the guard: stamps and numbers
pub mod Guards
