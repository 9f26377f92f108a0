use Rattle.std.proofs.Common.{refl, sym, ◌∙◌}
use Rattle.std.proofs.lemmas.List.{map_push}
use Rattle.nd_model.specs.Grammar.Kinds.{kind, SUFFIX}
use Rattle.nd_model.specs.Grammar.Cells.{under, suffix}
use Rattle.nd_model.proofs.Parsing.Loops.{push_step, push_end}
use Rattle.nd_syntax.specs.Trees.Syntax.{suffix_of}
use Rattle.nd_parse.specs.Reader.Gives.{tokens_of, suffixes_of}
use Rattle.nd_parse.proofs.calls.Steps.{suffix_shrinks}
use Rattle.nd_parse.proofs.calls.operands.Calls.suffixes.Goals as goal

pub more-init : goal.more-init
more-init g c = rw (c.new-all.ensures.items, c.split_at.ensures.back) refl

pub more-smaller : goal.more-smaller
more-smaller g c = (suffix_shrinks c.args.levels).less (tokens_of c.more.rest.now) (suffix_of c.in_ok-next.next, tokens_of c.in_ok-next.after.now) c.in_ok-next.ensures

pub more-preserved : goal.more-preserved
more-preserved g c =
    let one = push_step kind SUFFIX (suffix (under c.args.levels)) (suffixes_of c.more.all) (tokens_of c.more.rest.now) (suffix_of c.in_ok-next.next) (tokens_of c.in_ok-next.after.now)
    (suffix_shrinks c.args.levels) (sym c.next_in.ensures ∙ c.more-test.true) c.in_ok-next.ensures in
    rw (c.in_ok-push.ensures.items, map_push suffix_of c.more.all.items c.in_ok-next.next) (sym one ∙ c.more.invariant)

pub returns : goal.returns
returns g c = sym c.more.invariant ∙ push_end kind SUFFIX (suffix (under c.args.levels)) (suffixes_of c.more.all) (tokens_of c.more.rest.now) (sym c.next_in.ensures ∙ c.more-test.false)
