use Rattle.std.proofs.Common.{◌^◌, ◌≤◌, ◌++◌, [], ◌∷◌, map, subst, sym, ap, ◌∙◌, append_assoc, rules}
use Rattle.std.specs.Int.{w128}
use Rattle.std.specs.Int.RustNames.{FitsSigned}
use Rattle.std.specs.List.{All}
use Rattle.std.proofs.lemmas.Int.{to_z-of_z}
use Rattle.std.proofs.lemmas.List.Elements.{All-head, All-tail}
use Rattle.nd_model.specs.Indexing.Selecting.{counted_from}
use Rattle.nd_index.proofs.advanced.index_numbers.positions_of.Goals as goal

pub inside_position-requires : goal.inside_position-requires
inside_position-requires c =
    let f = counted_from c.args.size in let rest = c.next.new.self in
    let fits : FitsSigned w128 c.in-Some.number = search rules in
    let near = subst (λ l. All (λ k. k ≤ 2 ^ 32) (map f l)) c.in-Some.ensures c.loop-number.invariant.near in
    subst (λ z. f z ≤ 2 ^ 32) (sym (to_z-of_z w128 c.in-Some.number fits)) (All-head (λ k. k ≤ 2 ^ 32) (f c.in-Some.number) (map f rest) near)

pub loop-number-preserved : goal.loop-number-preserved
loop-number-preserved c =
    let f = counted_from c.args.size in let old = c.loop-number.positions.items in let rest = c.next.new.self in let x = c.inside_position.result in
    let fits : FitsSigned w128 c.in-Some.number = search rules in
    let value = c.inside_position.ensures ∙ ap f (to_z-of_z w128 c.in-Some.number fits) in
    let near = subst (λ l. All (λ k. k ≤ 2 ^ 32) (map f l)) c.in-Some.ensures c.loop-number.invariant.near in
    record {
      done = ap (λ l. l ++ map f rest) c.in_ok-push.ensures.items ∙ append_assoc old (x ∷ []) (map f rest) ∙ ap (λ y. old ++ y ∷ map f rest) value
          ∙ ap (λ l. old ++ map f l) (sym c.in-Some.ensures) ∙ c.loop-number.invariant.done;
      near = All-tail (λ k. k ≤ 2 ^ 32) (f c.in-Some.number) (map f rest) near;
    }
