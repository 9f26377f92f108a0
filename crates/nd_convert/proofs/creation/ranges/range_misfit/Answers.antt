use Rattle.std.proofs.Common.{◌≡◌, ◌<◌, Some, false, to_z, of_z, sym, ap, ◌∙◌, arith, rules, below_more}
use Rattle.std.specs.Prelude.{not}
use Rattle.std.specs.Int.{w128}
use mir.Facts.{to_z-of_z}
use Rattle.nd_model.specs.Arrays.Element.{fits}
use Rattle.nd_model.specs.Making.Creation.{range_count, range_number}
use Rattle.nd_types.specs.Kinds.{kind_of}
use Rattle.nd_convert.specs.Creation.Ranges.{range_from}
use Rattle.nd_convert.proofs.creation.Counting.{find-first, find-none, looked_at}
use Rattle.nd_convert.proofs.creation.ranges.range_misfit.Goals as goal

pub returns-then-holds_ends : goal.returns-then-holds_ends
returns-then-holds_ends c =
    let r = c.args.range in let kind = kind_of c.args.kind in
    sym (find-none (λ z. not (fits kind z)) (range_number (range_from r)) 0 (range_count (range_from r))
    (λ j a b. ap not (c.holds_ends.ensures (search (rules, c.if-holds_ends.true)) j (omega (arith, b, c.requires.count)))))

pub returns-then-not-fits : goal.returns-then-not-fits
returns-then-not-fits c =
    let r = c.args.range in let k = c.loop-place.place in let kind = kind_of c.args.kind in
    let few : k < range_count (range_from r) = omega (arith, c.loop-place-test.true, c.requires.count) in
    let is : c.range_number-number.result ≡ range_number (range_from r) k
    = looked_at r c.range_number-number.result k (search rules) (search rules) c.requires.step few c.range_number-number.ensures in
    let wide : to_z w128 (of_z w128 c.range_number-number.result) ≡ range_number (range_from r) k = to_z-of_z {w = w128} (search rules) ∙ is in
    let misfit : fits kind (range_number (range_from r) k) ≡ false = ap (fits kind) (sym wide) ∙ sym c.fits.ensures.value ∙ c.if-not-fits.true in
    ap Some wide
    ∙ sym (find-first (λ z. not (fits kind z)) (range_number (range_from r)) 0 (range_count (range_from r)) k (omega arith) (omega arith)
    (λ j a b. ap not (c.loop-place.invariant j b)) (ap not misfit))

pub loop-place-preserved : goal.loop-place-preserved
loop-place-preserved c =
    let r = c.args.range in let k = c.loop-place.place in let kind = kind_of c.args.kind in
    let few : k < range_count (range_from r) = omega (arith, c.loop-place-test.true, c.requires.count) in
    let is : c.range_number-number.result ≡ range_number (range_from r) k
    = looked_at r c.range_number-number.result k (search rules) (search rules) c.requires.step few c.range_number-number.ensures in
    let wide : to_z w128 (of_z w128 c.range_number-number.result) ≡ range_number (range_from r) k = to_z-of_z {w = w128} (search rules) ∙ is in
    below_more _ _ c.loop-place.invariant (ap (fits kind) (sym wide) ∙ sym c.fits.ensures.value ∙ c.if-not-fits.false)

pub returns : goal.returns
returns c =
    let r = c.args.range in
    sym (find-none (λ z. not (fits (kind_of c.args.kind) z)) (range_number (range_from r)) 0 (range_count (range_from r))
    (λ j a b. ap not (c.loop-place.invariant j (omega (arith, c.loop-place-test.false, c.requires.count)))))
