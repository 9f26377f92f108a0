use Rattle.std.proofs.Common.{map, slice_index, sym, ap, ◌∙◌}
use Rattle.nd_marks.specs.Kept.{KeptData, places_in}
use Rattle.nd_marks.proofs.Walks.{kept_of_block}
use Rattle.nd_marks.proofs.Windows.{kept_of_other}
use Rattle.nd_marks.proofs.kept.KeptBytes.reread.Goals as goal

pub invariant_of-result : goal.invariant_of-result
invariant_of-result c = let f = slice_index c.args.block.now in
    kept_of_block f (places_in c.in_ok-marks.marks) c.in_ok-bytes.bytes.items (c.in_ok-bytes.ensures ∙ ap (λ m. map f (places_in m)) (sym c.in_ok-marks.ensures))

pub returns : goal.returns
returns c = let f = slice_index c.args.block.now in λ p.
    kept_of_other f c.args.self.now c.in_ok-marks.marks c.in_ok-bytes.bytes.items p (c.in_ok-marks.ensures ∙ ap (λ (k : KeptData). k.marks) c.self.view_is) (c.in_ok-bytes.ensures ∙ ap (λ (k : KeptData). map f (places_in k.marks)) c.self.view_is)
