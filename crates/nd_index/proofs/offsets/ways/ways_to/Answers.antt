use Rattle.std.proofs.Common.{◌<◌, [], map, length, ap, ◌∙◌, arith, rules}
use Rattle.std.specs.Int.{w128}
use Rattle.std.specs.Int.RustNames.{FitsSigned}
use Rattle.std.proofs.lemmas.Int.{to_z-of_z}
use Rattle.std.proofs.lemmas.List.{take_all}
use Rattle.nd_model.specs.Indexing.Advanced.{unravelled}
use Rattle.nd_model.specs.Arrays.Strides.{way_to}
use Rattle.nd_index.proofs.offsets.Pushed.{mapped_again}
use Rattle.nd_index.proofs.offsets.ways.ways_to.Goals as goal

pub way_of-requires-clause-number : goal.way_of-requires-clause-number
way_of-requires-clause-number c = c.requires.numbers c.loop-number.number-index 0 (omega (arith, c.loop-number-test.true))

pub loop-number-preserved : goal.loop-number-preserved
loop-number-preserved c =
    let numbers = c.args.numbers.now in let k = c.loop-number.number-index in
    let lt : k < length numbers = omega (arith, c.loop-number-test.true) in
    let fits : FitsSigned w128 c.way_of.result = search rules in
    mapped_again (λ j. way_to (unravelled c.args.lengths.now j) c.args.strides.now) numbers k 0 [] c.loop-number.ways.items c.push.new.self.items _ lt
    c.in_ok-push.ensures.items (to_z-of_z w128 c.way_of.result fits ∙ c.way_of.ensures) c.loop-number.invariant

pub returns : goal.returns
returns c =
    c.loop-number.invariant
    ∙ ap (map (λ j. way_to (unravelled c.args.lengths.now j) c.args.strides.now)) (take_all c.loop-number.number-index c.args.numbers.now (omega (arith, c.loop-number-test.false)))
