use Rattle.std.proofs.Common.{◌≡◌, ◌∙◌, sym, true, arith}
use Rattle.nd_model.specs.Cells.Session as model
use Rattle.nd_heap.specs.declared.value.Base.{Base}
use Rattle.nd_heap.specs.Values.{base_of}
use Rattle.nd_heap.proofs.Entries.{all_more}
use Rattle.nd_heap.proofs.Loosening.{held_each}
use Rattle.nd_heap.proofs.blocks.are_held.Goals as goal

pub loop-i-preserved : goal.loop-i-preserved
loop-i-preserved c = all_more (λ (e : Base × Unit {0}). model.is_held (base_of e.0) c.args.names.now ≡ true) c.args.bases.now.entries c.loop-i.i _ (sym c.in-Some.ensures.entry) (sym c.is_held.ensures ∙ c.if-not-is_held.false) c.loop-i.invariant

pub returns : goal.returns
returns c = λ yes. held_each c.args.names.now c.args.bases.now.entries c.loop-i.i (omega (arith, c.loop-i-test.false, c.len-i-end.ensures.len)) c.loop-i.invariant
