-- what each call gives and leaves: a definition for each, its whole promise
pub mod Calls
