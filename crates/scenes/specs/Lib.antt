-- The scenes as rows of steps, one for each file of `src`. Read `Scenes`, then `Tries`.
-- what each scene plays
pub mod Scenes
-- what the number of tries is to each
pub mod Tries
