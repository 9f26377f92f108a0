use Rattle.std.proofs.Common.{◌++◌, ◌∙◌, ap}
use Rattle.std.specs.Prelude.{◌==◌}
use Rattle.std.specs.List.{slice_split}
use Rattle.nd_script.proofs.lines.Lines.{one_line}
use Rattle.nd_commands.proofs.Lines.{grown_lines}
use Rattle.nd_commands.proofs.source.OpenText.with_line.Goals as goal
use Rattle.nd_commands.proofs.source.OpenText.with_line.Goals.{then-has_lines+in_ok-push, else-has_lines}

pub returns-clause-lines : goal.returns-clause-lines
returns-clause-lines c =
    let line = c.args.line.now in
    let extended = c.in_ok-extend_from_slice.ensures.items in
    elim c.if-has_lines.branch [
      | then-has_lines+in_ok-push w ↦ rw w.if-has_lines.true (
          grown_lines c.args.self.text.items w.push.new.self.items c.extend_from_slice.new.self.items line c.requires w.in_ok-push.ensures.items
          (extended ∙ ap (λ v. v.items ++ line) w.text-is)
          )
      | else-has_lines w ↦ rw w.if-has_lines.false (
          ap (slice_split (λ c. c == 10)) (extended ∙ ap (λ v. v.items ++ line) w.text-is ∙ ap (λ l. l ++ line) w.clear.ensures.items) ∙ one_line line c.requires
          )
    ]
