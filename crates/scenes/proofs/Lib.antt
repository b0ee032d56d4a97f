-- What the number of tries is to each scene. Read `TriesLaws`.
pub mod TriesLaws
