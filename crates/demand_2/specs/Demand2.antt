-- Demand 2, stated of any reader, writer, station list and walk, so that wrong ones can be refuted: `Demand2`. Each of the four is bound whole, by
-- definitions that know no code: reading and writing by pictures of telegrams, the station list by a set of addresses, the walk by a row of
-- blocks. How the definitions stand to the standard is named point by point (docs/DIFFERENCES.md).
use Rattle.std.specs.Prelude.{ℕ, List}
use Rattle.station_lists.specs.StationLists.{StationList, IsStationList}
use Rattle.diagnostics.specs.Walk.{Walk}
use Rattle.telegram.specs.Reading.{Reading}
use Rattle.demand_2.specs.Readers.{IsReader}
use Rattle.demand_2.specs.Walks.{IsWalk}
use Rattle.demand_2.specs.Writers.{Writer, IsWriter}

pub record Demand2 (read : List ℕ → Reading) (writer : Writer) (stations : StationList) (walk : List ℕ → Walk) : Type 0 where
  pub reading : IsReader read
  pub writing : IsWriter writer
  pub station_list : IsStationList stations
  pub walking : IsWalk walk
