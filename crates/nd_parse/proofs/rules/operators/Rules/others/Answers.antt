use Rattle.std.proofs.Common.{refl, sym, ◌∙◌}
use Rattle.nd_model.specs.Grammar.Kinds.{kind}
use Rattle.nd_model.specs.Grammar.Cells.{Anywhere, under, expr}
use Rattle.nd_model.proofs.Parsing.Loops.{push_step, push_end}
use Rattle.nd_syntax.specs.Trees.Syntax.{expr_of}
use Rattle.nd_parse.specs.Reader.Gives.{tokens_of, exprs_of}
use Rattle.nd_parse.specs.Reader.Parts.{behind_comma}
use Rattle.nd_parse.proofs.reader.Levels.{comma_shrinks}
use Rattle.nd_parse.proofs.rules.Appends.{appended}
use Rattle.nd_parse.proofs.rules.operators.Rules.others.Goals as goal

pub more-init : goal.more-init
more-init g c = rw (c.new-all.ensures.items, c.split_at.ensures.back) refl

pub more-smaller : goal.more-smaller
more-smaller g c =
    let one = appended expr_of c.more.all c.other.result c.in_ok-more.more c.in_ok-more.after _ c.in_ok-more.ensures c.other.ensures in
    (comma_shrinks c.args.comma (expr Anywhere (under c.args.levels))).less (tokens_of c.more.rest.now) (one.0, tokens_of c.in_ok-more.after.now) one.1.0

pub more-preserved : goal.more-preserved
more-preserved g c =
    let one = appended expr_of c.more.all c.other.result c.in_ok-more.more c.in_ok-more.after _ c.in_ok-more.ensures c.other.ensures in
    let step = push_step kind c.args.comma (behind_comma c.args.comma (expr Anywhere (under c.args.levels))) (exprs_of c.more.all) (tokens_of c.more.rest.now) one.0 (tokens_of c.in_ok-more.after.now)
    (comma_shrinks c.args.comma (expr Anywhere (under c.args.levels))) (sym c.next_in.ensures ∙ c.more-test.true) one.1.0 in
    rw one.1.1 (sym step ∙ c.more.invariant)

pub returns : goal.returns
returns g c = sym c.more.invariant ∙ push_end kind c.args.comma (behind_comma c.args.comma (expr Anywhere (under c.args.levels))) (exprs_of c.more.all) (tokens_of c.more.rest.now) (sym c.next_in.ensures ∙ c.more-test.false)
