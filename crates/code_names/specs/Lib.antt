-- the names that are printed
pub mod Names
