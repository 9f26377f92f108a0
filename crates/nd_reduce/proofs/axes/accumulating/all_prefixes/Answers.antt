use Rattle.std.proofs.Common.{◌≡◌, ◌*◌, length, sym, ap, ◌∙◌, arith}
use Rattle.std.specs.List.{flat_map}
use Rattle.std.proofs.lemmas.List.{length-map}
use Rattle.nd_model.specs.Grammar.Calls.{Reduction}
use Rattle.nd_model.specs.Arrays.Content.{number_at}
use Rattle.nd_model.specs.Arrays.Element.{Kind}
use Rattle.nd_model.specs.Arrays.Tuple.{elements_of}
use Rattle.nd_model.specs.Arrays.View.{Geo}
use Rattle.nd_types.specs.Kinds.{kind_of}
use Rattle.nd_element.specs.Elements.{numbers_at}
use Rattle.nd_reduce.specs.Folds.Lanes.{lanes_in, prefix_bytes}
use Rattle.nd_reduce.proofs.axes.Accumulated.{all_prefixes}
use Rattle.nd_reduce.proofs.axes.accumulating.all_prefixes.Goals as goal

pub prefixes-requires-clause-enough : goal.prefixes-requires-clause-enough
prefixes-requires-clause-enough g c = let one : c.count.result ≡ 1 * c.count.result = omega arith in sym c.count.ensures.value ∙ one

pub returns : goal.returns
returns g c =
    let v : Geo = c.args.view.now in let bytes = c.args.bytes.now in let e = c.args.elem in let r : Reduction = g.F.FoldStep.reduction in let k : Kind = kind_of c.args.to in
    let many : length (numbers_at e bytes v.places) ≡ 1 * elements_of v.shape
    = length-map v.places (number_at e bytes) ∙ c.requires.lies.count ∙ (let one : elements_of v.shape ≡ 1 * elements_of v.shape = omega arith in one) in
    c.in_ok-folds.ensures ∙ ap (λ n. flat_map (prefix_bytes r k) (lanes_in n 1 (numbers_at e bytes v.places))) c.count.ensures.elements
    ∙ all_prefixes v e bytes c.requires.one c.requires.lies r k 1 many
