-- A stage and its steps. Read `Stages`.
-- a stage, and each step on it
pub mod Stages
-- rows of steps in which nothing is lost
pub mod Exchanges
-- a scene as a row of steps, and its telegrams
pub mod Rows
