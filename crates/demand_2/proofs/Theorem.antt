-- Demand 2 holds of ours: of the definitions that the promises of the calls cite.
use Rattle.station_lists.proofs.OurStations.{ours, ours_is}
use Rattle.diagnostics.specs.Walk.{walk_of}
use Rattle.telegram.specs.Reading.{read_of}
use Rattle.demand_2.proofs.OurReader.{our_reader}
use Rattle.demand_2.proofs.OurWalk.{our_walk}
use Rattle.demand_2.proofs.OurWriter.{ours as ourWriter, our_writer}
use Rattle.demand_2.specs.Demand2.{Demand2}

pub demand_2 : Demand2 read_of ourWriter ours walk_of
demand_2 = record { reading = our_reader; writing = our_writer; station_list = ours_is; walking = our_walk }
