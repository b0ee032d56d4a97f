-- the pair of ends that the exported calls make
pub mod ExportedLink
