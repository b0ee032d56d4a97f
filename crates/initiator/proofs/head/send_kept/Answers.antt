-- `send_kept` meets its contract: the pending order is the front of the lent bytes. By hand, since `order_len` promises its length for every
-- order, and no tactic picks one.
use mathlib.Core.List.{[]}
use mathlib.Core.Path.{sym}
use native.Mathlib.Omega.{arith}
use lib.Seq.{length-take-le}
use Rattle.initiator.proofs.OrderLaws.{len_small}
use Rattle.initiator.specs.Heads.{whole_of}
use Rattle.initiator.proofs.head.send_kept.Goals as goal

pub slice_bounds-send-end : goal.slice_bounds-send-end
slice_bounds-send-end c =
    sym (length-take-le _ _ (omega (arith, c.requires, c.order_len-len.ensures [], len_small (whole_of c.args.head []))))

pub returns : goal.returns
returns c =
    rw (← c.order_len-len.ensures []) c.send.ensures
