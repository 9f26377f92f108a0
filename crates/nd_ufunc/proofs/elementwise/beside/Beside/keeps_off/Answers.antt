use Rattle.std.proofs.Common.{length, sym, ap, ◌∙◌}
use Rattle.nd_ufunc.proofs.elementwise.Spreads.{length-spread}
use Rattle.nd_ufunc.proofs.elementwise.beside.Beside.keeps_off.Goals as goal

pub spread_keeps_off-requires-clause-count : goal.spread_keeps_off-requires-clause-count
spread_keeps_off-requires-clause-count c = c.element_count.ensures ∙ sym (ap length c.new-places.ensures ∙ length-spread c.in-OwnSpread.view.now c.in-OwnSpread.shape.now)
