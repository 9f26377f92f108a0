use Rattle.std.proofs.Common.{◌≡◌, ◌+◌, ◌*◌, slice_index, sym, ap, ◌∙◌, rules}
use Rattle.std.specs.Int.{w128}
use Rattle.std.specs.Int.RustNames.{FitsSigned}
use Rattle.std.proofs.lemmas.Int.{to_z-of_z}
use Rattle.nd_model.specs.Arrays.Content.{number_at}
use Rattle.nd_index.proofs.items.reading.read_at.Goals as goal

pub returns-then-packed : goal.returns-then-packed
returns-then-packed c =
    let run = c.args.run.now in let at = c.args.at in
    let fits : FitsSigned w128 c.value_at.result = search rules in
    let place : c.start.result + at * c.size.result ≡ slice_index run at
    = (λ i. c.start.ensures i + at * c.size.ensures.value i) ∙ sym ((c.requires.packed c.if-packed.true).places at c.requires.inside) in
    to_z-of_z w128 c.value_at.result fits ∙ c.value_at.ensures.value ∙ ap (number_at c.args.elem c.args.bytes.now) place
