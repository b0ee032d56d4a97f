-- the pair of ends that the calls make
pub mod OrderLink
