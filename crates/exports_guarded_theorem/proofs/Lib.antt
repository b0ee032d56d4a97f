-- demand 3 of the guarded calls, and answers by number
pub mod Theorem
