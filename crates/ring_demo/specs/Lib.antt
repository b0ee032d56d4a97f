-- the list that the program plays
pub mod Played
