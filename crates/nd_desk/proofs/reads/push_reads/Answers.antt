use Rattle.std.proofs.Common.{rules, ap, ◌∙◌, map}
use Rattle.std.specs.Fmt.{signed_decimal}
use Rattle.std.specs.Int.{w128}
use Rattle.std.specs.Int.RustNames.{FitsSigned}
use mir.Facts.{to_z-of_z}
use Rattle.nd_notebook.specs.ReadsShown.{block_of, name_of}
use Rattle.nd_script.proofs.lines.Answers.{pushes_same, pushes_trans}
use Rattle.nd_desk.specs.Answers.{block_lines, input_lines, name_lines}
use Rattle.nd_desk.proofs.reads.push_reads.Goals as goal

pub returns : goal.returns
returns g c =
    let fits : FitsSigned w128 c.line_count.result = search rules in
    let count = pushes_same (ap signed_decimal (to_z-of_z fits ∙ c.line_count.ensures)) c.push_integer.ensures in
    let front = pushes_trans (pushes_trans c.push_text.ensures count) c.push_text-2.ensures in
    let names = pushes_same (ap (λ l. name_lines (map name_of l)) c.deref.ensures.value) c.push_names.ensures in
    let inputs = pushes_same (ap (λ l. input_lines (map (λ n. n.now) l)) c.deref-2.ensures.value) c.push_inputs.ensures in
    let blocks = pushes_same (ap (λ l. block_lines (map block_of l)) c.deref-3.ensures.value) c.push_blocks.ensures in
    pushes_trans (pushes_trans (pushes_trans front names) inputs) blocks
