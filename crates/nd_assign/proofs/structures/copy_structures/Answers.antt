use Rattle.std.proofs.Common.{◌<◌, length, ◌∙◌, arith}
use Rattle.nd_model.specs.Arrays.Content.{content_at, writes}
use Rattle.nd_model.specs.Cells.Session.{put}
use Rattle.nd_model.specs.Arrays.View.{ElementType, Structure}
use Rattle.nd_assign.specs.Copies.{with_copies}
use Rattle.nd_assign.proofs.Copied.{one_more}
use Rattle.nd_assign.proofs.structures.copy_structures.Goals as goal

pub loop-index-preserved : goal.loop-index-preserved
loop-index-preserved c =
    let a = c.args in let k = c.loop-index.index in let out = c.loop-index.out in
    let t : ElementType = Structure a.structure.now.0 a.structure.now.1 in
    let lt : k < length a.run.now = omega (arith, c.loop-index-test.true, c.count-index-end.ensures.value) in
    record {
      len = c.copy_structure.ensures.len ∙ c.loop-index.invariant.len;
      rest = one_more t t a.bytes.now a.run.now a.from_run.now out c.copy_structure.new.out (with_copies t t a.bytes.now a.run.now a.from_run.now a.out.now) k lt (omega (arith, lt, c.requires.counts))
          (c.copy_structure.ensures.bytes ∙ (λ i. put (writes t (c.place.ensures i) (content_at t a.bytes.now (c.place-in-loop-index.ensures i))) out))
          c.loop-index.invariant.rest;
    }
