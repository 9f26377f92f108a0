use Rattle.std.proofs.Common.{◌≡◌, ◌≢◌, ℕ, ◌-◌, ◌<◌, Bool, ℤ, pos, FitsSigned, true, to_z, of_z, sym, ap, ◌∙◌, arith, rules}
use Rattle.std.specs.Int.{w128, int_wrap}
use mir.Facts.{to_z-of_z}
use Rattle.nd_model.specs.Arrays.Element.{Kind, fits}
use Rattle.nd_model.specs.Making.Creation.{range_count, range_number}
use Rattle.nd_types.specs.Kinds.{kind_of}
use Rattle.nd_convert.specs.declared.creation.ranges.Range.{Range}
use Rattle.nd_convert.specs.Creation.Ranges.{range_from}
use Rattle.nd_convert.proofs.creation.Counting.{ends_fit, looked_at}
use Rattle.nd_convert.proofs.creation.ranges.holds_ends.Goals as goal
use Rattle.nd_convert.proofs.creation.ranges.holds_ends.Goals.{then-count-ne0, else-count-ne0}

-- a number that was asked
asked : (kind : Kind) (r : Range) (number : ℤ) (k : ℕ) (held : Bool) → FitsSigned w128 number → FitsSigned w128 r.start → FitsSigned w128 r.stop → r.step ≢ pos 0 → k < range_count (range_from r)
    → number ≡ int_wrap w128 (range_number (range_from r) k) → held ≡ fits kind (to_z w128 (of_z w128 number)) → held ≡ true → fits kind (range_number (range_from r) k) ≡ true
asked kind r number k held wide start stop some few is told is_held =
    ap (fits kind) (sym (to_z-of_z {w = w128} wide ∙ looked_at r number k start stop some few is)) ∙ sym told ∙ is_held

pub returns-then-fits : goal.returns-then-fits
returns-then-fits c = λ held k few.
    let r = c.args.range in let kind = kind_of c.args.kind in
    let start : FitsSigned w128 r.start = search rules in
    let stop : FitsSigned w128 r.stop = search rules in
    let none_past : c.args.count - 1 < range_count (range_from r) = omega (arith, few, c.requires.count) in
    let some : 0 < range_count (range_from r) = omega (arith, few, c.requires.count) in
    let last : fits kind (range_number (range_from r) (c.args.count - 1)) ≡ true
    = asked kind r c.range_number-then-fits.result (c.args.count - 1) c.fits-then-fits.result (search rules) start stop c.requires.step none_past c.range_number-then-fits.ensures c.fits-then-fits.ensures.value
    (search (rules, held)) in
    let first : fits kind (range_number (range_from r) 0) ≡ true = elim c.if-count-ne0.branch [
      | then-count-ne0 w ↦ asked kind r w.range_number.result 0 w.fits.result (search rules) start stop c.requires.step some w.range_number.ensures w.fits.ensures.value (sym w.value-is ∙ c.if-fits.true)
      | else-count-ne0 w ↦ absurd (omega (arith, few, w.if-count-ne0.false))
    ] in
    ends_fit kind (range_from r) k (c.args.count - 1) (omega (arith, few)) first last
