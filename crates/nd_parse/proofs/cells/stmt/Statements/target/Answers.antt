use Rattle.std.proofs.Common.{◌∙◌, sym, ap, Ok}
use Rattle.std.proofs.lemmas.Result.{err_from_is_err_and}
use Rattle.nd_model.specs.Grammar.Cells.{suffixed}
use Rattle.nd_syntax.specs.Trees.Syntax.{expr_of, index_of}
use Rattle.nd_parse.specs.Reader.Gives.{tokens_of, suffixes_of, trailing_of}
use Rattle.nd_parse.proofs.cells.Steps.{target_ends, target_fails, target_fails_at, pair_reads, pair_fails}
use Rattle.nd_parse.proofs.cells.stmt.Statements.target.Goals as goal

pub returns-in_err-operand : goal.returns-in_err-operand
returns-in_err-operand g c =
    let p = err_from_is_err_and c.from_residual.result c.from_residual.ensures.1 in
    rw (p.1, p.2) (target_fails c.args.levels (tokens_of c.args.tokens.now) _ c.in_err-operand.ensures)

pub returns-in_err-array : goal.returns-in_err-array
returns-in_err-array g c =
    let p = err_from_is_err_and c.from_residual-in_err-array.result c.from_residual-in_err-array.ensures.1 in
    rw (p.1, p.2) (target_fails_at c.args.levels (tokens_of c.args.tokens.now) (tokens_of c.in_ok-operand.rest.now) (expr_of c.in_ok-operand.operand) _ c.in_ok-operand.ensures
    (pair_fails trailing_of c.in_ok-operand.operand c.trailing.result _ _ c.in_err-array.ensures c.trailing.ensures))

pub returns : goal.returns
returns g c =
    let one = pair_reads trailing_of c.in_ok-operand.operand c.trailing.result _ c.in_ok-array.array (c.in_ok-array.before, c.in_ok-array.last) c.in_ok-array.rest c.in_ok-array.ensures c.trailing.ensures in
    target_ends c.args.levels (tokens_of c.args.tokens.now) (tokens_of c.in_ok-operand.rest.now) (tokens_of c.in_ok-array.rest.now)
    (expr_of c.in_ok-operand.operand) (suffixes_of c.in_ok-array.before) (index_of c.in_ok-array.last) c.in_ok-operand.ensures one.0
    ∙ ap (λ e. Ok ((e, index_of c.in_ok-array.last), tokens_of c.in_ok-array.rest.now)) (ap (λ a. suffixed (expr_of a) (suffixes_of c.in_ok-array.before)) (sym one.1) ∙ sym c.in_ok-with_suffixes.ensures)
