-- what is told of the list that the program plays, computed on the rules
pub mod PlayedLaws
