-- `pack` meets its contract: the bytes of the flags so far are written.
use Rattle.std.proofs.Common.{◌≡◌, Bool, true, false, refl, ◌∙◌, arith, length-set, rules}
use mir.Val.{bool_byte}
use Rattle.ground.specs.Bits.{digit}
use Rattle.exports_stations.proofs.MapLaws.{map_turn, room_behind, stored}
use Rattle.exports_stations.proofs.bytes.pack.Goals as goal

byte_is : (on : Bool) → bool_byte on ≡ digit on
byte_is true = refl
byte_is false = refl

pub loop-i-preserved : goal.loop-i-preserved
loop-i-preserved c = (
  rw (c.active_stations.ensures, byte_is, c.loop-i.invariant.0)
      (map_turn digit _ 4 _ c.loop-i.i _ false refl (room_behind c.args.state.now _ _ _ _ c.told-state c.loop-i.i c.loop-i-test.true) (search rules)),
  simp length-set c.loop-i.invariant.1,
)

pub returns : goal.returns
returns c =
    c.loop-i.invariant.0
    ∙ stored c.args.state.now _ _ _ _ c.told-state digit _ c.loop-i.i (search rules) (omega arith)
    ∙ rw (c.phase_number.ensures, c.las_state.ensures, c.this_station.ensures, c.next_station.ensures, c.previous_station.ensures)
