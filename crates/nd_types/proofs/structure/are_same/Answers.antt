use Rattle.std.proofs.Common.{◌≡◌, get_or, sym, ap, ◌∙◌, arith}
use Rattle.std.proofs.lemmas.List.{get_or-map}
use Rattle.nd_types.specs.Fields.{field_of, fields_of}
use Rattle.nd_types.specs.declared.field.Field.{Field}
use Rattle.nd_types.proofs.structure.are_same.Goals as goal

pub returns-then-not-is_same : goal.returns-then-not-is_same
returns-then-not-is_same c =
    let i = c.loop-index.index in let x : Field = c.index-these-index.result in let y : Field = c.index-those-index.result in
    let same : fields_of c.args.these.now ≡ fields_of c.args.those.now → field_of x ≡ field_of y = λ e.
    ap field_of c.index-these-index.is ∙ sym (get_or-map field_of c.args.these.now i x (field_of x) c.loop-index-test.true)
    ∙ ap (λ l. get_or l i (field_of x)) e ∙ get_or-map field_of c.args.those.now i y (field_of x) (omega arith) ∙ sym (ap field_of c.index-those-index.is) in
    (λ f. cc, λ e. rw c.if-not-is_same.true at (c.is_same.ensures.1 (same e)))
