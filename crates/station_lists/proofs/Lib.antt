-- Read `OurStations: ours_is` and `OneStationList: one_station_list, one_answer`.
-- our list is a station list; what every list has that our calls make
pub mod OurStations
-- the demand leaves one station list
pub mod OneStationList
-- the standard's sentence: one ring that our list learns, and why not up to 126
pub mod OneRing
