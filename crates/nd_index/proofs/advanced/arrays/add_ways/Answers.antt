use Rattle.std.proofs.Common.{◌≡◌, ◌<◌, ◌++◌, length, drop, get_or, pos, sym, ap, ◌∙◌, arith, rules, append-nil}
use Rattle.std.specs.Int.{w128}
use Rattle.std.specs.Int.RustNames.{FitsSigned}
use Rattle.std.specs.Prelude.{unsigned_abs}
use Rattle.std.proofs.lemmas.Int.{ints, fits_signed_from_abs, to_z-of_z}
use Rattle.std.proofs.lemmas.List.{drop_all}
use Rattle.nd_index.specs.Offsets.Ways.{sums_at}
use Rattle.nd_index.proofs.offsets.Rows.{added_again, near_at}
use Rattle.nd_index.proofs.advanced.arrays.add_ways.Goals as goal

pub overflow_add-way : goal.overflow_add-way
overflow_add-way c =
    let ways = c.args.ways.now in let own = c.args.own.now in let numbers = c.args.numbers.now in let k = c.loop-at.at in
    let fits : FitsSigned w128 (get_or numbers k (pos 0)) = search rules in
    let here : c.way_at.result ≡ get_or own (unsigned_abs (get_or numbers k (pos 0))) (pos 0)
    = c.way_at.ensures ∙ ap (λ z. get_or own (unsigned_abs z) (pos 0)) (to_z-of_z w128 (get_or numbers k (pos 0)) fits) in
    fits_signed_from_abs w128 _ (omega (arith, ints, here, near_at ways k c.requires.near.0, near_at own (unsigned_abs (get_or numbers k (pos 0))) c.requires.near.1))

pub loop-at-preserved : goal.loop-at-preserved
loop-at-preserved c =
    let ways = c.args.ways.now in let own = c.args.own.now in let numbers = c.args.numbers.now in let k = c.loop-at.at in
    let lt : k < length ways = omega (arith, c.loop-at-test.true) in
    let lt' : k < length numbers = omega (arith, lt, c.requires.each) in
    let fits : FitsSigned w128 (get_or numbers k (pos 0)) = search rules in
    let here : c.way_at.result ≡ get_or own (unsigned_abs (get_or numbers k (pos 0))) (pos 0)
    = c.way_at.ensures ∙ ap (λ z. get_or own (unsigned_abs z) (pos 0)) (to_z-of_z w128 (get_or numbers k (pos 0)) fits) in
    added_again own ways numbers k c.loop-at.sums.items c.push.new.self.items (sums_at own ways numbers) _ lt lt' c.in_ok-push.ensures.items
    (omega (arith, ints, here, near_at ways k c.requires.near.0, near_at own (unsigned_abs (get_or numbers k (pos 0))) c.requires.near.1)) c.loop-at.invariant

pub returns : goal.returns
returns c =
    let ways = c.args.ways.now in let own = c.args.own.now in let rest = drop c.loop-at.at c.args.numbers.now in let done = c.loop-at.sums.items in
    sym (append-nil done) ∙ ap (λ l. done ++ sums_at own l rest) (sym (drop_all c.loop-at.at ways (omega (arith, c.loop-at-test.false)))) ∙ c.loop-at.invariant
