use Rattle.std.proofs.Common.{rules, ℕ, ℤ, ◌<◌, ◌^◌, FitsSigned, sym, ap, ◌∙◌, subst, arith}
use Rattle.std.specs.Int.{w64, w128}
use mir.Facts.{to_z-of_z}
use Rattle.nd_model.specs.Arrays.Element.{residue}
use Rattle.nd_model.specs.Making.Reductions.{best, best_place, greater}
use Rattle.nd_model.proofs.Values.{wrap_value}
use Rattle.nd_types.specs.Kinds.{kind_of}
use Rattle.nd_reduce.specs.Folds.States.{IsBestPlace}
use Rattle.nd_reduce.proofs.folds.Folded.{best_value, place_within}
use Rattle.nd_reduce.proofs.folds.Wrapped.{place_again}
use Rattle.nd_reduce.proofs.folds.row_fold.ArgMaxRowFold.resume.Goals as goal

pub returns : goal.returns
returns c = λ zs some values long at is short.
    let fp : FitsSigned w128 c.args.fold = search rules in let fb : FitsSigned w128 c.number_in.result = search rules in let n : ℕ = best_place greater zs in
    let small : n < 2 ^ 64 = omega (arith, place_within greater zs, short) in
    subst (λ (x : ℤ). IsBestPlace greater c.args.taken c.place_in.result x zs) (sym (to_z-of_z fb)) (record {
      fits = fb;
      many = sym long;
      is = c.number_in.ensures.value ∙ is ∙ wrap_value (kind_of c.args.kind) (best greater zs) (best_value greater (kind_of c.args.kind) zs some values);
      at = c.place_in.ensures ∙ ap (residue w64) (to_z-of_z fp ∙ at) ∙ place_again n small;
    })
