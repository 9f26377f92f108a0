use Rattle.std.proofs.Common.{refl, sym, ◌∙◌}
use Rattle.std.proofs.lemmas.List.{map_push}
use Rattle.nd_model.specs.Grammar.Kinds.{kind, COMMA_MORE}
use Rattle.nd_model.specs.Grammar.Cells.{under, pair}
use Rattle.nd_model.proofs.Parsing.Loops.{push_step, push_end}
use Rattle.nd_syntax.specs.Trees.Calls.{field_type_of, field_types_of}
use Rattle.nd_parse.specs.Reader.Gives.{tokens_of}
use Rattle.nd_parse.specs.Reader.Parts.{behind_comma}
use Rattle.nd_parse.proofs.reader.Levels.{comma_shrinks}
use Rattle.nd_parse.proofs.reader.types.other_fields.Goals as goal

pub more-init : goal.more-init
more-init c = rw (c.new-all.ensures.items, c.split_at.ensures.back) refl

pub more-smaller : goal.more-smaller
more-smaller c =
    (comma_shrinks COMMA_MORE (pair (under c.args.levels))).less (tokens_of c.more.rest.now) (field_type_of c.in_ok-next.next, tokens_of c.in_ok-next.after.now) c.in_ok-next.ensures

pub more-preserved : goal.more-preserved
more-preserved c =
    let part = behind_comma COMMA_MORE (pair (under c.args.levels)) in
    let one = push_step kind COMMA_MORE part (field_types_of c.more.all) (tokens_of c.more.rest.now) (field_type_of c.in_ok-next.next) (tokens_of c.in_ok-next.after.now)
    (comma_shrinks COMMA_MORE (pair (under c.args.levels))) (sym c.next_in.ensures ∙ c.more-test.true) c.in_ok-next.ensures in
    rw (c.in_ok-push.ensures.items, map_push field_type_of c.more.all.items c.in_ok-next.next) (sym one ∙ c.more.invariant)

pub returns : goal.returns
returns c =
    let part = behind_comma COMMA_MORE (pair (under c.args.levels)) in
    sym c.more.invariant ∙ push_end kind COMMA_MORE part (field_types_of c.more.all) (tokens_of c.more.rest.now) (sym c.next_in.ensures ∙ c.more-test.false)
