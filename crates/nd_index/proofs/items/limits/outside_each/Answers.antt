use Rattle.std.proofs.Common.{◌≡◌, ◌+◌, ◌<◌, length, drop, get_or, to_z, of_z, sym, ap, ◌∙◌, arith, rules}
use Rattle.std.specs.Int.{w128}
use Rattle.std.specs.Int.RustNames.{FitsSigned}
use Rattle.std.proofs.lemmas.Int.{to_z-of_z}
use Rattle.nd_model.specs.Indexing.Advanced.{number_fault, or_next, outside_fault}
use Rattle.nd_model.specs.Arrays.Content.{number_at}
use Rattle.nd_element.specs.Elements.{numbers_at}
use Rattle.nd_index.proofs.items.Counted.{outside_next}
use Rattle.nd_index.proofs.items.limits.outside_each.Goals as goal

pub returns-in-Some : goal.returns-in-Some
returns-in-Some c =
    let axis = c.args.axis in let size = c.args.size in
    let e = c.args.elem in let bytes = c.args.bytes.now in let run = c.args.run.now in let k = c.loop-at.at in
    let lt : k < length run = omega (arith, c.loop-at-test.true, c.count-at-end.ensures.value) in
    let fits : FitsSigned w128 c.read_at-number.result = search rules in
    let number : to_z w128 (of_z w128 c.read_at-number.result) ≡ number_at e bytes (get_or run k 0) = to_z-of_z w128 c.read_at-number.result fits ∙ c.read_at-number.ensures in
    let rest = outside_fault axis size (numbers_at e bytes (drop (k + 1) run)) in
    ap (λ o. or_next o rest) (c.in-Some.ensures ∙ ap (number_fault axis size) number) ∙ sym (outside_next axis size e bytes run k lt) ∙ sym c.loop-at.invariant

pub loop-at-preserved : goal.loop-at-preserved
loop-at-preserved c =
    let axis = c.args.axis in let size = c.args.size in
    let e = c.args.elem in let bytes = c.args.bytes.now in let run = c.args.run.now in let k = c.loop-at.at in
    let lt : k < length run = omega (arith, c.loop-at-test.true, c.count-at-end.ensures.value) in
    let fits : FitsSigned w128 c.read_at-number.result = search rules in
    let number : to_z w128 (of_z w128 c.read_at-number.result) ≡ number_at e bytes (get_or run k 0) = to_z-of_z w128 c.read_at-number.result fits ∙ c.read_at-number.ensures in
    let rest = outside_fault axis size (numbers_at e bytes (drop (k + 1) run)) in
    c.loop-at.invariant ∙ outside_next axis size e bytes run k lt ∙ sym (ap (λ o. or_next o rest) (c.in_default.ensures ∙ ap (number_fault axis size) number))
