-- demand 2 of any station list, and what it is that no two lists differ
pub mod StationLists
-- the standard's sentence on the list of active stations, of any station list
pub mod Standard
