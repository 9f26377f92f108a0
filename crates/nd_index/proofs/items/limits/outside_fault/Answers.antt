use Rattle.std.proofs.Common.{sym, ap, ◌∙◌}
use Rattle.std.specs.List.{concat}
use Rattle.nd_model.specs.Indexing.Advanced.{or_next, outside_fault}
use Rattle.nd_element.specs.Elements.{numbers_at}
use Rattle.nd_index.proofs.items.Counted.{outside_run}
use Rattle.nd_index.proofs.items.limits.outside_fault.Goals as goal

pub returns-in-Some-outside_in : goal.returns-in-Some-outside_in
returns-in-Some-outside_in c =
    let a = c.args.array.now in let rest = concat c.next.new.self in let outside = outside_fault c.args.axis c.args.size in
    ap (λ o. or_next o (outside (numbers_at a.elem.now a.bytes.now rest))) c.in-Some-outside_in.ensures
    ∙ sym (outside_run c.args.axis c.args.size a.elem.now a.bytes.now (concat c.loop-run.runs) c.in-Some.run' rest (ap concat c.in-Some.ensures)) ∙ sym c.loop-run.invariant

pub loop-run-preserved : goal.loop-run-preserved
loop-run-preserved c =
    let a = c.args.array.now in let rest = concat c.next.new.self in let outside = outside_fault c.args.axis c.args.size in
    c.loop-run.invariant ∙ outside_run c.args.axis c.args.size a.elem.now a.bytes.now (concat c.loop-run.runs) c.in-Some.run' rest (ap concat c.in-Some.ensures)
    ∙ sym (ap (λ o. or_next o (outside (numbers_at a.elem.now a.bytes.now rest))) c.in_default-outside_in.ensures)
