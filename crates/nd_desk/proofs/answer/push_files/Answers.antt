use Rattle.std.proofs.Common.{rules, ◌≡◌, ◌++◌, length, sym, ap, ap₂, ◌∙◌}
use Rattle.std.specs.Prelude.{codes, decimal, string_bytes}
use Rattle.nd_notebook.specs.Results.{saves_of}
use Rattle.nd_script.proofs.lines.Answers.{pushes_none, pushes_same, pushes_trans}
use Rattle.nd_desk.specs.Answers.{file_lines}
use Rattle.nd_desk.proofs.answer.push_files.Goals as goal

pub loop-name-preserved : goal.loop-name-preserved
loop-name-preserved g c =
    let rest = file_lines (saves_of c.next.new.self) in
    let count : c.len.result ≡ length c.in-Some.bytes.now.items = search rules in
    let line =
    ap₂ (λ w n. codes "save " ++ w ++ codes " " ++ decimal n ++ codes "\n" ++ c.as_slice.result.now ++ codes "\n" ++ rest) c.as_str.ensures.value count
    ∙ ap (λ bs. codes "save " ++ string_bytes c.in-Some.name.now ++ codes " " ++ decimal (length c.in-Some.bytes.now.items) ++ codes "\n" ++ bs ++ codes "\n" ++ rest) c.as_slice.ensures.value in
    let next = ap (λ es. file_lines (saves_of es)) c.in-Some.ensures.steps in
    λ end p. c.loop-name.invariant end (
    pushes_same (line ∙ sym next)
    (pushes_trans (pushes_trans (pushes_trans (pushes_trans c.push_text.ensures c.push_count_line.ensures) c.push_bytes.ensures) c.push_text-in-loop-name.ensures) p)
    )

pub returns : goal.returns
returns g c =
    let none = ap (λ es. file_lines (saves_of es)) c.in-None.ensures.steps.0 in
    c.loop-name.invariant _ (pushes_same (sym none) (pushes_none _))
