-- the pair of ends that the guarded calls make, and its numbers
pub mod GuardedLink
