-- `print_stations` ends: a station that is found from an address upward is not below it, so that the next search starts higher.
use Rattle.std.proofs.Common.{◌≡◌, length, sym, arith, rules}
use Rattle.token_ring.proofs.Sets.{active_within, lowest_found}
use Rattle.ring_demo.proofs.print_stations.Goals as goal

pub overflow_add-from : goal.overflow_add-from
overflow_add-from g c =
    let size : length c.args.ring.active_stations ≡ 128 = search rules in
    let found = lowest_found _ _ _ (sym c.in-Some.ensures) in
    omega (arith, active_within c.args.ring.active_stations c.in-Some.station.0 found.active)

pub loop-station-smaller : goal.loop-station-smaller
loop-station-smaller g c = omega (arith, (lowest_found _ _ _ (sym c.in-Some.ensures)).reached)
