use Rattle.std.proofs.Common.{◌∙◌, sym, ap, Err}
use Rattle.std.proofs.lemmas.Result.{err_from_is_err_and}
use Rattle.nd_model.specs.Grammar.Cells.{under}
use Rattle.nd_model.specs.Grammar.Factored.{stmt, cell}
use Rattle.nd_syntax.specs.Trees.Syntax.{line_of, lines_of}
use Rattle.nd_parse.specs.Reader.Gives.{tokens_of, list_of}
use Rattle.nd_parse.specs.declared.reader.read.Reason.TheVariants.{TooMany}
use Rattle.nd_parse.proofs.reader.Stops.{stop_is}
use Rattle.nd_parse.proofs.rules.Appends.{appended, append_fails}
use Rattle.nd_parse.proofs.cells.Lines.{lines_begin, lines_go_on, lines_fail, lines_over, lines_end}
use Rattle.nd_parse.proofs.cells.parse.cell.Goals as goal

pub lines-init : goal.lines-init
unfolding cell
lines-init c =
    lines_begin (stmt (under 64)) (list_of c.new-all.result) 1000 (tokens_of c.args.tokens.now) (tokens_of c.split_at.result.1.now)
    (ap lines_of c.new-all.ensures.items) (ap tokens_of c.split_at.ensures.back)

pub returns-in_err-more : goal.returns-in_err-more
returns-in_err-more c =
    let p = err_from_is_err_and c.from_residual.result c.from_residual.ensures.1 in
    rw (p.1, p.2, ← c.lines.invariant)
    (lines_fail (stmt (under 64)) (list_of c.lines.all) c.lines.left (tokens_of c.lines.rest.now) _ (sym c.goes_on.ensures ∙ c.lines-test.true)
    (append_fails line_of c.lines.all c.line.result _ _ c.in_err-more.ensures c.line.ensures))

pub lines-preserved : goal.lines-preserved
lines-preserved c =
    let one = appended line_of c.lines.all c.line.result c.in_ok-more.more c.in_ok-more.after _ c.in_ok-more.ensures c.line.ensures in
    let step = lines_go_on (stmt (under 64)) (list_of c.lines.all) c.lines.left (tokens_of c.lines.rest.now) (tokens_of c.in_ok-more.after.now) one.0
    (sym c.goes_on.ensures ∙ c.lines-test.true) one.1.0 in
    rw one.1.1 (sym step ∙ c.lines.invariant)

pub returns-then-is_over : goal.returns-then-is_over
returns-then-is_over c =
    let over = lines_over (stmt (under 64)) (list_of c.lines.all) c.lines.left (tokens_of c.lines.rest.now) (sym c.is_over.ensures ∙ c.if-is_over.true) in
    rw (c.stop_at.ensures, ← c.lines.invariant, over) (ap (λ s. Err s) (stop_is c.lines.rest.now TooMany))

pub returns : goal.returns
returns c =
    sym c.lines.invariant
    ∙ lines_end (stmt (under 64)) (list_of c.lines.all) c.lines.left (tokens_of c.lines.rest.now) (sym c.goes_on.ensures ∙ c.lines-test.false) (sym c.is_over.ensures ∙ c.if-is_over.false)
