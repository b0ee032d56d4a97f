-- demand 1: what a refused call leaves, of any call and its promise
pub mod Refused
-- document 01's samples marked P
pub mod Samples
