use Rattle.std.proofs.Common.{◌≡◌, ℤ, pos, List, length, replicate, sym, ap, ◌∙◌, subst}
use Rattle.std.specs.Prelude.{IfOk}
use Rattle.std.proofs.lemmas.List.{length-replicate}
use Rattle.nd_model.specs.Arrays.Element.{Kind}
use Rattle.nd_model.specs.Making.Elementwise.{little, single_number}
use Rattle.nd_types.specs.Kinds.{kind_of}
use Rattle.nd_ufunc.specs.Scalar.Ufuncs.{single_of}
use Rattle.nd_ufunc.specs.Elementwise.Arguments.{argument_of, numbers_beside}
use Rattle.nd_ufunc.specs.Loops.Results.{result_bytes}
use Rattle.nd_ufunc.specs.Elementwise.Stretched.{stretched_numbers}
use Rattle.nd_ufunc.proofs.elementwise.Mapped.{length-beside}
use Rattle.nd_ufunc.proofs.elementwise.map.single_block.Goals as goal

pub single_results-requires-clause-numbers_count :
    goal.single_results-requires-clause-numbers_count
single_results-requires-clause-numbers_count c =
    let counted = c.requires.elements in
    ap (λ n. length (stretched_numbers c.in_ok-numbers.numbers n)) counted ∙ ap length c.in_ok-numbers.ensures.numbers ∙ length-beside (argument_of c.args.argument) c.args.shape.now ∙ sym counted

pub single_results-requires-clause-others_count : goal.single_results-requires-clause-others_count
single_results-requires-clause-others_count c = length-replicate {A = ℤ} c.args.count (pos 0)

pub returns : goal.returns
returns c =
    let k : Kind = kind_of c.args.kind in
    let numbers : stretched_numbers c.in_ok-numbers.numbers c.args.count ≡ numbers_beside (argument_of c.args.argument) c.args.shape.now
    = ap (stretched_numbers c.in_ok-numbers.numbers) c.requires.elements ∙ c.in_ok-numbers.ensures.numbers in
    subst (λ (xs : List ℤ). IfOk c.single_results.result (λ b. b ≡ result_bytes (little k) (λ x y. single_number (single_of c.args.op) k x) xs (replicate c.args.count (pos 0))))
    numbers c.single_results.ensures
