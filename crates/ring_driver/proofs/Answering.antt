-- The thin calls that may refuse, which store the list that the method gives and hand its answer on, meet their contracts: `meets`. In the older
-- Rattle this was a walk of such a call's code; today the borrow checker covers it, and each is the function's own theorem.
use Rattle.ring_driver.proofs.remove_station.Met as remove_station
use Rattle.ring_driver.proofs.remove_station.Statement as remove_station_stated
use Rattle.ring_driver.proofs.set_next_station.Met as set_next_station
use Rattle.ring_driver.proofs.set_next_station.Statement as set_next_station_stated

pub meets : {M : Type 1} → set_next_station_stated.statement M × remove_station_stated.statement M
meets = (set_next_station.met, remove_station.met)
