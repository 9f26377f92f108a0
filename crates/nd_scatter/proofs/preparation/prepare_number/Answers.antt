use Rattle.std.proofs.Common.{◌≡◌, ◌+◌, ◌≤◌, ℕ, List, [], length, sym, ap, ◌∙◌, subst}
use Rattle.std.specs.List.{All}
use Rattle.std.specs.Int.{w128, cast_signed, cast_unsigned}
use Rattle.std.proofs.lemmas.List.{length-replicate}
use mir.Facts.{to_z-of_z}
use Rattle.nd_model.specs.Arrays.View.{Geo, item_size, contiguous}
use Rattle.nd_types.specs.Types.{type_of}
use Rattle.nd_assign.specs.Assigned.{with_number}
use Rattle.nd_index.specs.Advanced.Chosen.{view_at}
use Rattle.nd_scatter.specs.Scattered.{Prepared, written_by}
use Rattle.nd_scatter.proofs.Assigned.{written_to, one_number}
use Rattle.nd_scatter.proofs.preparation.prepare_number.Goals as goal

pub returns-clause-written : goal.returns-clause-written
returns-clause-written c = λ old long.
    let g : Geo = view_at c.args.view.now c.args.places.now in let z = c.args.number in
    let values : List ℕ = c.assign.new.block in let first : List ℕ = c.in_ok-values.values in
    let type : type_of c.in_ok-try_clone.field-0 ≡ g.element = c.in_ok-try_clone.ensures ∙ c.elem.ensures in
    let is : c.in_ok-one.one ≡ contiguous g.element [] = c.in_ok-one.ensures ∙ (λ i. contiguous (type i) []) in
    let size : c.size.result ≡ item_size g.element = c.size.ensures.value ∙ ap item_size c.elem-2.ensures in
    let ready : Prepared = record { target = g; values = values; step = 0; len = c.args.len } in
    let room : length first ≡ item_size g.element = ap length c.in_ok-values.ensures ∙ length-replicate c.size.result 0 ∙ size in
    let number : cast_signed w128 (cast_unsigned w128 z) ≡ z = to_z-of_z c.ranges.number in
    let made : values ≡ with_number (contiguous g.element []) z first = c.in_ok-assign.ensures.done ∙ (λ i. with_number (is i) (number i) first) in
    let out : All (λ p. p + item_size g.element ≤ length old) g.places = subst (λ n. All (λ p. p + item_size g.element ≤ n) g.places) (sym long) c.requires.target.inside in
    ap (λ (a : Prepared). written_by a old) c.new.ensures ∙ written_to ready old long
    ∙ one_number g z first values old c.requires.numbers c.requires.target.count out room made
