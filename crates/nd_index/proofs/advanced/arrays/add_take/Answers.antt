use Rattle.std.proofs.Common.{◌≡◌, length, drop, ap, ◌∙◌, arith}
use Rattle.nd_model.specs.Indexing.Advanced.{Spread}
use Rattle.nd_index.specs.Advanced.IndexNumbers.{numbers_in}
use Rattle.nd_index.specs.Advanced.Takes.{take_of}
use Rattle.nd_index.specs.Advanced.TakenWays.{way_by}
use Rattle.nd_index.proofs.advanced.Spreads.{no_items, none_added, none_by}
use Rattle.nd_index.proofs.advanced.arrays.add_take.Goals as goal

pub returns-then-spread-eq0 : goal.returns-then-spread-eq0
returns-then-spread-eq0 c =
    let sizes = drop c.args.axis c.args.sizes.now in let strides = drop c.args.axis c.args.strides.now in let s = c.in-Spread.spread in
    let none : length (numbers_in s.numbers) ≡ 0 = omega (arith, s.all, c.if-spread-eq0.true) in
    let empty = no_items (numbers_in s.numbers) none in
    λ f were. none_added (take_of c.args.take.now) sizes c.args.many.now strides c.args.ways.items f
    (λ m. ap (λ t. way_by (take_of t) sizes strides m) c.in-Spread.is ∙ ap (λ ks. way_by (Spread s.axes s.shape.items ks) sizes strides m) empty ∙ none_by s.axes s.shape.items sizes strides m) were
