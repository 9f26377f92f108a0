use Rattle.std.proofs.Common.{rules, ◌++◌, get_or, take, append_assoc, sym, ap, ◌∙◌, ℤ, pos}
use Rattle.std.specs.List.{flat_map}
use Rattle.std.specs.Int.{w128}
use Rattle.std.specs.Int.RustNames.{FitsSigned}
use Rattle.std.proofs.lemmas.Int.{to_z-of_z}
use Rattle.nd_model.specs.Arrays.Element.{bytes_of}
use Rattle.nd_element.proofs.Pushed.{bytes_more}
use Rattle.nd_element.proofs.numbers.push_bytes_of.Goals as goal

pub loop-number-preserved : goal.loop-number-preserved
loop-number-preserved c =
    let z : ℤ = get_or c.args.numbers.now c.loop-number.number-index (pos 0) in
    let fits : FitsSigned w128 z = search rules in
    let whole = c.args.bytes.now.items in let front = flat_map (bytes_of c.args.elem) (take c.loop-number.number-index c.args.numbers.now) in
    c.in_ok-push_bytes.ensures ∙ ap (λ y. c.loop-number.bytes.items ++ bytes_of c.args.elem y) (to_z-of_z w128 z fits)
    ∙ ap (λ l. l ++ bytes_of c.args.elem z) c.loop-number.invariant ∙ append_assoc whole front (bytes_of c.args.elem z)
    ∙ ap (λ l. whole ++ l) (sym (bytes_more (bytes_of c.args.elem) c.args.numbers.now c.loop-number.number-index (pos 0) c.loop-number-test.true))
