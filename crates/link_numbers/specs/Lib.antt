-- the numbers of phases and states in the bytes of the two records
pub mod Numbers
