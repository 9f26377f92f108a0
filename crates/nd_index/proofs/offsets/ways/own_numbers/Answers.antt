use Rattle.std.proofs.Common.{◌≡◌, ◌≤◌, length, take, sym, ap, subst, ◌∙◌, arith}
use Rattle.std.specs.Result.{IfOk}
use Rattle.std.proofs.lemmas.List.{length-take-le}
use Rattle.nd_index.specs.Offsets.Ways.{ways}
use Rattle.nd_index.proofs.offsets.Sums.{own_numbers, length-own}
use Rattle.nd_index.proofs.offsets.ways.own_numbers.Goals as goal

long : (c : goal.After-as_slice) → length c.args.many.now ≤ length c.as_slice.result.now
long c = omega (arith, length-own (length c.args.many.now) c.args.shape.now, ap length (c.as_slice.ensures ∙ c.in_ok-strides.ensures.value))

pub slice_bounds-ways_of-end : goal.slice_bounds-ways_of-end
slice_bounds-ways_of-end c = sym (length-take-le (length c.args.many.now) c.as_slice.result.now (long c))

pub ways_of-requires-clause-axes : goal.ways_of-requires-clause-axes
ways_of-requires-clause-axes c = length-take-le (length c.args.many.now) c.as_slice.result.now (long c)

pub returns : goal.returns
returns c =
    let many = c.args.many.now in
    let numbers = (λ i. ways many (take (length many) ((c.as_slice.ensures ∙ c.in_ok-strides.ensures.value) i))) ∙ own_numbers c.args.shape.now many in
    subst (λ l. IfOk c.ways_of.result (λ v. v.items ≡ l)) numbers c.ways_of.ensures
