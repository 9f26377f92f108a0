use Rattle.std.proofs.Common.{rules, ◌<◌, get_or, sym, subst, arith}
use Rattle.std.specs.Prelude.{pos}
use Rattle.std.specs.Int.{w128}
use Rattle.std.specs.Int.RustNames.{FitsSigned}
use Rattle.std.proofs.Math.Nat.{mod-lt}
use Rattle.std.proofs.lemmas.Int.{to_z-of_z}
use Rattle.nd_ufunc.proofs.elementwise.Taken.{IsTaken, at_inside, first_left, further, places_of, row_some, spot_is, sum_fits, sum_is, taken_first, taken_sum}
use Rattle.nd_ufunc.proofs.elementwise.spread.Spread.next.Goals as goal
use Rattle.nd_ufunc.proofs.elementwise.spread.Spread.next.Goals.{then-self-eq0, else-self-eq0}

pub spread_place-self-inside-requires-clause-inside : goal.spread_place-self-inside-requires-clause-inside
spread_place-self-inside-requires-clause-inside c = at_inside c.self.inside c.args.self.now c.self.invariant c.self.view_is c.requires

pub nonzero_rem-self : goal.nonzero_rem-self
nonzero_rem-self c = row_some c.self.inside c.args.self.now c.self.invariant c.self.view_is c.requires

pub overflow_sub-self : goal.overflow_sub-self
overflow_sub-self c =
    let some = row_some c.self.inside c.args.self.now c.self.invariant c.self.view_is c.requires in
    omega (arith, mod-lt c.self.inside.at some)

pub overflow_add-self : goal.overflow_add-self
overflow_add-self c =
    let fx : FitsSigned w128 c.from.result = search rules in let fz : FitsSigned w128 c.self.inside.row.stride = search rules in
    let more : 0 < c.self.inside.more = omega (arith, c.if-self-eq0.false) in
    rw (sum_is c.self.inside c.args.self.now c.self.invariant c.self.view_is c.requires more c.from.result c.from.ensures fx fz)
    (sum_fits c.self.inside c.args.self.now c.self.invariant c.self.view_is c.requires more c.from.result c.from.ensures fx fz)

pub overflow_cast-self : goal.overflow_cast-self
overflow_cast-self c =
    let fx : FitsSigned w128 c.from.result = search rules in let fz : FitsSigned w128 c.self.inside.row.stride = search rules in
    let more : 0 < c.self.inside.more = omega (arith, c.if-self-eq0.false) in
    let is = spot_is c.self.inside c.args.self.now c.self.invariant c.self.view_is c.requires more c.from.result c.from.ensures fx fz in
    let sum = sum_is c.self.inside c.args.self.now c.self.invariant c.self.view_is c.requires more c.from.result c.from.ensures fx fz in
    let fits = sum_fits c.self.inside c.args.self.now c.self.invariant c.self.view_is c.requires more c.from.result c.from.ensures fx fz in
    rw (sum, to_z-of_z w128 (pos (get_or (places_of c.self.inside) c.self.inside.at 0)) fits) (tt, omega (arith, is.1))

pub overflow_add-self-2 : goal.overflow_add-self-2
overflow_add-self-2 c = elim c.if-self-eq0.branch [
  | then-self-eq0 w ↦
      let taken = taken_first c.self.inside c.args.self.now c.self.invariant c.self.view_is c.requires w.spread_place-self-inside.result w.spread_place-self-inside.ensures in
      let now = subst (λ s. IsTaken s c.args.self.now) (sym w.self-inside-is) taken in omega (arith, now.inside, now.few)
  | else-self-eq0 w ↦
      let fx : FitsSigned w128 w.from.result = search rules in let fz : FitsSigned w128 c.self.inside.row.stride = search rules in
      let taken = taken_sum c.self.inside c.args.self.now c.self.invariant c.self.view_is c.requires (omega (arith, w.if-self-eq0.false)) w.from.result w.from.ensures fx fz in
      let now = subst (λ s. IsTaken s c.args.self.now) (sym w.self-inside-is) taken in omega (arith, now.inside, now.few)
]

pub overflow_sub-self-2 : goal.overflow_sub-self-2
overflow_sub-self-2 c = elim c.if-self-eq0.branch [
  | then-self-eq0 w ↦
      let taken = taken_first c.self.inside c.args.self.now c.self.invariant c.self.view_is c.requires w.spread_place-self-inside.result w.spread_place-self-inside.ensures in
      (subst (λ s. IsTaken s c.args.self.now) (sym w.self-inside-is) taken).more
  | else-self-eq0 w ↦
      let fx : FitsSigned w128 w.from.result = search rules in let fz : FitsSigned w128 c.self.inside.row.stride = search rules in
      let taken = taken_sum c.self.inside c.args.self.now c.self.invariant c.self.view_is c.requires (omega (arith, w.if-self-eq0.false)) w.from.result w.from.ensures fx fz in
      (subst (λ s. IsTaken s c.args.self.now) (sym w.self-inside-is) taken).more
]

pub invariant_of-self : goal.invariant_of-self
invariant_of-self c = elim c.if-self-eq0.branch [
  | then-self-eq0 w ↦
      let taken = taken_first c.self.inside c.args.self.now c.self.invariant c.self.view_is c.requires w.spread_place-self-inside.result w.spread_place-self-inside.ensures in
      further c.if-self-eq0.self-inside c.args.self.now (subst (λ s. IsTaken s c.args.self.now) (sym w.self-inside-is) taken)
  | else-self-eq0 w ↦
      let fx : FitsSigned w128 w.from.result = search rules in let fz : FitsSigned w128 c.self.inside.row.stride = search rules in
      let taken = taken_sum c.self.inside c.args.self.now c.self.invariant c.self.view_is c.requires (omega (arith, w.if-self-eq0.false)) w.from.result w.from.ensures fx fz in
      further c.if-self-eq0.self-inside c.args.self.now (subst (λ s. IsTaken s c.args.self.now) (sym w.self-inside-is) taken)
]

pub returns : goal.returns
returns c = elim c.if-self-eq0.branch [
  | then-self-eq0 w ↦
      let taken = taken_first c.self.inside c.args.self.now c.self.invariant c.self.view_is c.requires w.spread_place-self-inside.result w.spread_place-self-inside.ensures in
      first_left c.if-self-eq0.self-inside c.args.self.now (subst (λ s. IsTaken s c.args.self.now) (sym w.self-inside-is) taken)
  | else-self-eq0 w ↦
      let fx : FitsSigned w128 w.from.result = search rules in let fz : FitsSigned w128 c.self.inside.row.stride = search rules in
      let taken = taken_sum c.self.inside c.args.self.now c.self.invariant c.self.view_is c.requires (omega (arith, w.if-self-eq0.false)) w.from.result w.from.ensures fx fz in
      first_left c.if-self-eq0.self-inside c.args.self.now (subst (λ s. IsTaken s c.args.self.now) (sym w.self-inside-is) taken)
]
