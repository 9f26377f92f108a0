use Rattle.std.proofs.Common.{◌≡◌, ◌∙◌, ap, length}
use Rattle.nd_model.specs.Cells.Footprint.{patched}
use Rattle.nd_marks.specs.Kept.{kept_at}
use Rattle.nd_session.proofs.session.Patching.{is_patched, refilled}
use Rattle.nd_session.proofs.session.found.PartWriterBlockWriter.write_copy.Goals as goal

pub returns : goal.returns
returns c =
    let w = kept_at c.args.self.now.part.now in
    let long : length c.patch.new.block ≡ length c.in_ok-copy.copy = c.patch.ensures.len ∙ ap length c.as_mut_slice.ensures.value in
    refilled c.in_ok-copy.copy c.patch.new.block long
    ∙ is_patched w c.as_mut_slice.result.now c.patch.new.block c.patch.ensures.len c.patch.ensures.bytes
    ∙ ap (patched w) (c.as_mut_slice.ensures.value ∙ c.in_ok-copy.ensures)
