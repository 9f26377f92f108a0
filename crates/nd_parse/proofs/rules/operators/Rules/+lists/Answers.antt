use Rattle.std.proofs.Common.{Ok, refl, sym, ap, ◌∙◌}
use Rattle.nd_model.specs.Grammar.Kinds.{kind, COMMA_MORE}
use Rattle.nd_model.specs.Grammar.Cells.{element, list}
use Rattle.nd_model.proofs.Parsing.Loops.{push_step, push_end}
use Rattle.nd_syntax.specs.Trees.Syntax.{element_of}
use Rattle.nd_parse.specs.Reader.Gives.{inside, tokens_of, elements_in, list_of_elements}
use Rattle.nd_parse.specs.Reader.Parts.{behind_comma}
use Rattle.nd_parse.proofs.reader.Levels.{enter_shut, comma_shrinks}
use Rattle.nd_parse.proofs.rules.Steps as steps
use Rattle.nd_parse.proofs.rules.Steps.{element_nested}
use Rattle.nd_syntax.proofs.trees.Chains as nodes
use Rattle.nd_parse.proofs.rules.Appends.{appended}
use Rattle.nd_parse.proofs.rules.operators.Rules.+lists.Goals as goal

pub list-returns-then-levels-eq0 : goal.list-returns-then-levels-eq0
unfolding list
list-returns-then-levels-eq0 g t c = rw c.refuse.ensures (enter_shut c.args.levels _ _ c.args.tokens.now c.if-levels-eq0.true)

pub list-returns : goal.list-returns
list-returns g t c = rw (steps.list_is c.args.levels (tokens_of c.args.tokens.now) c.if-levels-eq0.false) c.listed.ensures

pub other_elements-more-init : goal.other_elements-more-init
other_elements-more-init g t c = rw (c.new-all.ensures.items, c.split_at.ensures.back) refl

pub other_elements-more-smaller : goal.other_elements-more-smaller
other_elements-more-smaller g t c =
    let one = appended element_of c.more.all c.other_element.result c.in_ok-more.more c.in_ok-more.after _ c.in_ok-more.ensures c.other_element.ensures in
    (comma_shrinks COMMA_MORE (element (inside c.args.levels))).less (tokens_of c.more.rest.now) (one.0, tokens_of c.in_ok-more.after.now) one.1.0

pub other_elements-more-preserved : goal.other_elements-more-preserved
other_elements-more-preserved g t c =
    let one = appended element_of c.more.all c.other_element.result c.in_ok-more.more c.in_ok-more.after _ c.in_ok-more.ensures c.other_element.ensures in
    let step = push_step kind COMMA_MORE (behind_comma COMMA_MORE (element (inside c.args.levels))) (list_of_elements c.more.all) (tokens_of c.more.rest.now) one.0 (tokens_of c.in_ok-more.after.now)
    (comma_shrinks COMMA_MORE (element (inside c.args.levels))) (sym c.next_in.ensures ∙ c.more-test.true) one.1.0 in
    rw one.1.1 (sym step ∙ c.more.invariant)

pub other_elements-returns : goal.other_elements-returns
other_elements-returns g t c = sym c.more.invariant ∙ push_end kind COMMA_MORE (behind_comma COMMA_MORE (element (inside c.args.levels))) (list_of_elements c.more.all) (tokens_of c.more.rest.now) (sym c.next_in.ensures ∙ c.more-test.false)

pub element-returns-then-next_in : goal.element-returns-then-next_in
element-returns-then-next_in g t c =
    element_nested c.args.levels (tokens_of c.args.tokens.now) (tokens_of c.in_ok-elements.rest.now) (elements_in c.in_ok-elements.elements) (sym c.next_in.ensures ∙ c.if-next_in.true) c.in_ok-elements.ensures
    ∙ ap (λ x. Ok (x, tokens_of c.in_ok-elements.rest.now)) (sym (nodes.nested_is c.in_ok-elements.elements))
