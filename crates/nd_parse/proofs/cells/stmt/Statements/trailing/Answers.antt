use Rattle.std.proofs.Common.{refl, sym, ◌∙◌}
use Rattle.nd_model.specs.Grammar.Kinds.{kind, SUFFIX}
use Rattle.nd_model.specs.Grammar.Cells.{under}
use Rattle.nd_model.specs.Grammar.Factored.{group}
use Rattle.nd_model.proofs.Parsing.Loops.{many_step}
use Rattle.nd_syntax.specs.Trees.Syntax.{index_of}
use Rattle.nd_parse.specs.Reader.Gives.{tokens_of, suffixes_of, group_of}
use Rattle.nd_parse.specs.Cells.Readers.{collected}
use Rattle.nd_parse.proofs.cells.Steps.{group_shrinks, trailing_begin, pair_reads}
use Rattle.nd_parse.proofs.cells.stmt.Statements.trailing.Goals as goal

pub groups-init : goal.groups-init
groups-init g c =
    rw (c.in_ok-all.ensures.before, c.in_ok-all.ensures.last)
    (trailing_begin c.args.levels (tokens_of c.args.tokens.now) (tokens_of c.in_ok-first.rest.now) (group_of c.in_ok-first.first) _ refl c.in_ok-first.ensures)

pub groups-smaller : goal.groups-smaller
groups-smaller g c =
    let one = pair_reads group_of c.groups.all c.group-in-groups.result _ c.in_ok-before.before c.in_ok-before.next c.in_ok-before.after c.in_ok-before.ensures c.group-in-groups.ensures in
    (group_shrinks c.args.levels).less (tokens_of c.groups.rest.now) (group_of c.in_ok-before.next, tokens_of c.in_ok-before.after.now) one.0

pub groups-preserved : goal.groups-preserved
groups-preserved g c =
    let one = pair_reads group_of c.groups.all c.group-in-groups.result _ c.in_ok-before.before c.in_ok-before.next c.in_ok-before.after c.in_ok-before.ensures c.group-in-groups.ensures in
    let step = many_step kind SUFFIX (collected (suffixes_of c.groups.all.0) (index_of c.groups.all.1)) (group (under c.args.levels)) (tokens_of c.groups.rest.now)
    (group_of c.in_ok-before.next) (tokens_of c.in_ok-before.after.now) (group_shrinks c.args.levels) (sym c.next_in.ensures ∙ c.groups-test.true) one.0 in
    rw (c.in_ok-all-2.ensures.before, c.in_ok-all-2.ensures.last, one.1) (sym step ∙ c.groups.invariant)
