use Rattle.std.proofs.Common.{refl, sym, ◌∙◌}
use Rattle.nd_model.specs.Grammar.Kinds.{kind}
use Rattle.nd_model.specs.Grammar.Cells.{Anywhere, under, operation}
use Rattle.nd_model.proofs.Parsing.Loops.{push_step, push_end}
use Rattle.nd_parse.specs.Reader.Gives.{tokens_of, spot_of, operation_of, operations_of}
use Rattle.nd_parse.specs.Rules.Readers.{ranked}
use Rattle.nd_parse.proofs.rules.Appends.{appended}
use Rattle.nd_parse.proofs.rules.Steps.{ranked_none, ranked_some, operation_shrinks}
use Rattle.nd_parse.proofs.rules.operators.Rules.+ranks.Goals as goal

pub ranked-returns-then-rank-eq0 : goal.ranked-returns-then-rank-eq0
ranked-returns-then-rank-eq0 g t c = rw (ranked_none c.args.rank (spot_of c.args.spot) (under c.args.levels) (tokens_of c.args.tokens.now) c.if-rank-eq0.true) c.unary.ensures

pub ranked-returns : goal.ranked-returns
ranked-returns g t c = rw (ranked_some c.args.rank (spot_of c.args.spot) (under c.args.levels) (tokens_of c.args.tokens.now) c.if-rank-eq0.false, ← c.operators.ensures) c.chain.ensures

pub operations-more-init : goal.operations-more-init
operations-more-init g t c = rw (c.new-all.ensures.items, c.split_at.ensures.back) refl

pub operations-more-smaller : goal.operations-more-smaller
operations-more-smaller g t c =
    let one = appended operation_of c.more.all c.operation.result c.in_ok-more.more c.in_ok-more.after _ c.in_ok-more.ensures c.operation.ensures in
    (operation_shrinks c.args.set (ranked c.args.rank Anywhere (under c.args.levels))).less (tokens_of c.more.rest.now) (one.0, tokens_of c.in_ok-more.after.now) one.1.0

pub operations-more-preserved : goal.operations-more-preserved
operations-more-preserved g t c =
    let one = appended operation_of c.more.all c.operation.result c.in_ok-more.more c.in_ok-more.after _ c.in_ok-more.ensures c.operation.ensures in
    let step = push_step kind c.args.set (operation c.args.set (ranked c.args.rank Anywhere (under c.args.levels))) (operations_of c.more.all) (tokens_of c.more.rest.now) one.0 (tokens_of c.in_ok-more.after.now)
    (operation_shrinks c.args.set (ranked c.args.rank Anywhere (under c.args.levels))) (sym c.next_in.ensures ∙ c.more-test.true) one.1.0 in
    rw one.1.1 (sym step ∙ c.more.invariant)

pub operations-returns : goal.operations-returns
operations-returns g t c = sym c.more.invariant ∙ push_end kind c.args.set (operation c.args.set (ranked c.args.rank Anywhere (under c.args.levels))) (operations_of c.more.all) (tokens_of c.more.rest.now) (sym c.next_in.ensures ∙ c.more-test.false)
