-- `lines_len` meets its contract: after each turn the lines up to the place are counted, and those from there on are left.
use mathlib.Core.Path.{sym, ap, ◌∙◌}
use Rattle.listing_lines.specs.Lines.{item_text}
use native.Mathlib.Omega.{arith}
use lib.ListN.{length}
use Rattle.telegram.proofs.ByteLaws.{drop_bytes}
use Rattle.listing.proofs.ItemLaws.{item_short, item_reason}
use Rattle.listing.proofs.ListingLaws.{counts_on, counts_all, item_part, lines_small}
use Rattle.listing.proofs.whole.lines_len.Goals as goal

pub item_len-len-requires : goal.item_len-len-requires
item_len-len-requires c =
    item_short _ _ (omega (arith, c.loop-line.invariant.within, c.requires))
    (drop_bytes c.loop-line.at c.args.input.now (λ i. (c.type_inv.input i).fits))
    (item_reason _ _ (sym c.item_at-item.ensures))

pub overflow_add-len : goal.overflow_add-len
overflow_add-len c =
    let small = lines_small c.args.mode c.args.input.now (λ i. (c.type_inv.input i).fits) c.requires in
    let part = item_part c.args.mode c.args.input.now c.loop-line.at in
    let long = c.item_len-len.ensures ∙ ap (λ x. length (item_text x)) c.item_at-item.ensures in
    omega (arith, c.loop-line.invariant.left, c.requires)

pub returns-in_default : goal.returns-in_default
returns-in_default c =
    counts_all c.loop-line.invariant c.item_at-item.ensures c.item_len-len.ensures c.in_default.is

pub loop-line-preserved : goal.loop-line-preserved
loop-line-preserved c =
    counts_on c.loop-line.invariant c.item_at-item.ensures c.item_len-len.ensures c.in-Telegram.is
