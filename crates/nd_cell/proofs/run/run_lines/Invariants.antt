use Rattle.std.proofs.Common.{◌≡◌, ◌+◌, ◌<◌, ◌^◌, [], drop, string_bytes}
use Rattle.nd_model.specs.Cells.Cell.{statements}
use Rattle.nd_model.specs.Grammar.Tokens.{tokens_of_lines}
use Rattle.nd_reach.specs.Reach.{EndsInReach}
use Rattle.nd_syntax.specs.Trees.Syntax.{lines_of}
use Rattle.nd_session.specs.Inputs.Values.{inputs_of}
use Rattle.nd_session.specs.Session.Live.{live}
use Rattle.nd_cell.specs.Results.{saves_of}
use Rattle.nd_cell.proofs.run.run_lines.Given as goal

abbrev pub invariant-loop-line : goal.invariant-loop-line
invariant-loop-line l =
    EndsInReach (statements (inputs_of l.fn.inputs.entries) (lines_of l.fn.lines) [] [] (live l.fn.session))
    (statements (inputs_of l.fn.inputs.entries) (lines_of (drop l.line-index l.fn.lines)) (string_bytes l.text) (saves_of l.saves.entries) (live l.session))
    × ((live l.session).next + tokens_of_lines (lines_of (drop l.line-index l.fn.lines)) < 2 ^ 64)
