use Rattle.std.proofs.Common.{◌∙◌, refl, inl}
use Rattle.std.specs.Prelude.{codes}
use Rattle.nd_commands.specs.Source.{lines_so_far, opening_of}
use Rattle.nd_commands.proofs.Carried.{closed_text, closed_bytes}
use Rattle.nd_commands.proofs.line.close_source.Goals as goal

pub returns-in-Ok : goal.returns-in-Ok
returns-in-Ok g c =
    let s = c.args.source.now in
    let utf8 = rw c.bytes.ensures at c.in-Ok.ensures.cases.1 in
    rw (closed_text (opening_of s.opening) (lines_so_far s) c.in-Ok.text.now (c.in-Ok.ensures.cases.0 ∙ c.bytes.ensures) utf8, ← c.edit.ensures) c.make_edit.ensures

pub returns-in-Err : goal.returns-in-Err
returns-in-Err g c =
    let s = c.args.source.now in
    let other = rw c.bytes.ensures at c.in-Err.ensures.cases.0 in
    rw (closed_bytes (opening_of s.opening) (lines_so_far s) other) (codes "bad command\n", ((inl (refl, refl), refl), refl), c.push_text.ensures)
