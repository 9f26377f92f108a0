use Rattle.std.proofs.Common.{◌≡◌, ◌∙◌, ap, length}
use Rattle.nd_model.specs.Cells.Footprint.{patched}
use Rattle.nd_marks.specs.Kept.{kept_at}
use Rattle.nd_session.proofs.session.Patching.{is_patched, refilled}
use Rattle.nd_session.proofs.session.found.PartWriterBlockWriter.write.Goals as goal

pub returns : goal.returns
returns c =
    let w = kept_at c.args.self.part.now in
    let long : length c.patch.new.block ≡ length c.args.block.now = c.patch.ensures.len ∙ ap length c.as_mut_slice.ensures.value in
    refilled c.args.block.now c.patch.new.block long
    ∙ is_patched w c.as_mut_slice.result.now c.patch.new.block c.patch.ensures.len c.patch.ensures.bytes
    ∙ ap (patched w) c.as_mut_slice.ensures.value
