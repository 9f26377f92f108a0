use Rattle.std.proofs.Common.{◌≡◌, sym, ap, subst, ◌∙◌, arith}
use Rattle.std.specs.Option.{IfSome}
use Rattle.std.specs.Result.{IfOk}
use Rattle.std.proofs.lemmas.Int.{ints}
use Rattle.nd_index.specs.Offsets.RowPlaces.{places_beside}
use Rattle.nd_index.specs.Advanced.IndexNumbers.{numbers_in}
use Rattle.nd_index.proofs.advanced.Forms.{one_before}
use Rattle.nd_index.proofs.offsets.Rows.{near_at}
use Rattle.nd_index.proofs.advanced.by_mask.places_by_mask.Goals as goal

pub returns : goal.returns
returns c =
    let kept = c.args.kept.now in
    subst (λ l. IfOk c.places_on_line.result (λ found. IfSome found (λ v. v ≡ l)))
    (one_before kept c.args.axes.now _ _ c.if-kept-ne1.false (omega (arith, ints, near_at kept.before.now 0 kept.first)) ∙ ap (λ n. places_beside kept c.args.axes.now (numbers_in n)) (sym c.in-Trues.is))
    c.places_on_line.ensures
