use Rattle.std.proofs.Common.{List, Ok, ap, sym, ◌∙◌}
use Rattle.nd_model.specs.Arrays.Content.{Content}
use Rattle.nd_model.specs.Formats.NpyWriting.{npy_bytes}
use Rattle.nd_eval.proofs.loading.save.elements_file.Goals as goal

pub returns : goal.returns
returns c =
    let g = c.args.elements.now.view.now in
    ap (λ (cs : List Content). Ok (npy_bytes g.element g.shape cs)) c.soundness.ensures ∙ ap Ok (sym c.in_ok-file.ensures)
