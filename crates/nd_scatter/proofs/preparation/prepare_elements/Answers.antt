use Rattle.std.proofs.Common.{◌≡◌, ◌+◌, ◌*◌, ◌≤◌, ℕ, List, length, sym, ap, ◌∙◌, subst, arith}
use Rattle.std.specs.List.{All}
use Rattle.std.proofs.Math.Nat.{mul-le-mul_right}
use Rattle.std.proofs.lemmas.List.{length-replicate}
use Rattle.nd_model.specs.Cells.Sound.{LiesIn}
use Rattle.nd_model.specs.Arrays.Tuple.{elements_of}
use Rattle.nd_model.specs.Arrays.View.{Geo, item_size, contiguous}
use Rattle.nd_types.specs.Types.{type_of}
use Rattle.nd_assign.specs.Assigned.{with_elements}
use Rattle.nd_assign.specs.HeldFields.{HoldsFields}
use Rattle.nd_index.specs.Advanced.Chosen.{view_at}
use Rattle.nd_scatter.specs.Scattered.{Prepared, scattered, written_by}
use Rattle.nd_scatter.proofs.Assigned.{written_to, elements, length-elements}
use Rattle.nd_scatter.proofs.Values.{lies_alone}
use Rattle.nd_scatter.proofs.preparation.prepare_elements.Goals as goal

pub assign-requires-clause-target : goal.assign-requires-clause-target
assign-requires-clause-target c =
    let g : Geo = view_at c.args.view.now c.args.places.now in
    let type : type_of c.in_ok-try_clone.field-0 ≡ g.element = c.in_ok-try_clone.ensures ∙ c.elem-elem.ensures in
    let is : c.in_ok-all.all ≡ contiguous g.element g.shape = c.in_ok-all.ensures ∙ (λ i. contiguous (type i) (c.as_slice.ensures i)) in
    let size : c.size-size.result ≡ item_size g.element = c.size-size.ensures.value ∙ ap item_size c.elem-elem.ensures in
    let count : c.count.result ≡ elements_of g.shape = c.count.ensures.elements ∙ ap (λ (v : Geo). elements_of v.shape) is in
    let long : length c.in_ok-values.values ≡ elements_of g.shape * item_size g.element
    = ap length c.in_ok-values.ensures ∙ length-replicate (c.count.result * c.size-size.result) 0 ∙ (λ i. count i * size i) in
    subst (λ (v : Geo). LiesIn (length c.in_ok-values.values) v) (sym is) (lies_alone g.element g.shape (length c.in_ok-values.values) c.requires.target.limits long)

pub new-requires : goal.new-requires
new-requires c =
    let g : Geo = view_at c.args.view.now c.args.places.now in
    let type : type_of c.in_ok-try_clone.field-0 ≡ g.element = c.in_ok-try_clone.ensures ∙ c.elem-elem.ensures in
    let is : c.in_ok-all.all ≡ contiguous g.element g.shape = c.in_ok-all.ensures ∙ (λ i. contiguous (type i) (c.as_slice.ensures i)) in
    let size : c.size-size.result ≡ item_size g.element = c.size-size.ensures.value ∙ ap item_size c.elem-elem.ensures in
    let count : c.count.result ≡ elements_of g.shape = c.count.ensures.elements ∙ ap (λ (v : Geo). elements_of v.shape) is in
    let long : length c.assign.new.block ≡ length g.places * c.size-size.result
    = ap length c.in_ok-assign.ensures.done ∙ length-elements c.in_ok-all.all c.args.value.now c.args.bytes.now c.in_ok-values.values
    ∙ ap length c.in_ok-values.ensures ∙ length-replicate (c.count.result * c.size-size.result) 0 ∙ ap (λ n. n * c.size-size.result) (count ∙ sym c.requires.target.count) in
    record {
      out = c.requires.target.inside;
      held = λ k lt.
          let room : (k + 1) * c.size-size.result ≤ length g.places * c.size-size.result = mul-le-mul_right c.size-size.result (omega (arith, lt)) in
          omega (arith, room, long, size);
      few = omega (arith, sym count, c.requires.target.count, c.count.ensures.limit);
    }

pub returns-clause-written : goal.returns-clause-written
returns-clause-written c = λ old long.
    let g : Geo = view_at c.args.view.now c.args.places.now in let v : Geo = c.args.value.now in let bytes : List ℕ = c.args.bytes.now in
    let values : List ℕ = c.assign.new.block in let first : List ℕ = c.in_ok-values.values in
    let type : type_of c.in_ok-try_clone.field-0 ≡ g.element = c.in_ok-try_clone.ensures ∙ c.elem-elem.ensures in
    let is : c.in_ok-all.all ≡ contiguous g.element g.shape = c.in_ok-all.ensures ∙ (λ i. contiguous (type i) (c.as_slice.ensures i)) in
    let size : c.size-size.result ≡ item_size g.element = c.size-size.ensures.value ∙ ap item_size c.elem-elem.ensures in
    let count : c.count.result ≡ elements_of g.shape = c.count.ensures.elements ∙ ap (λ (v : Geo). elements_of v.shape) is in
    let ready : Prepared = record { target = g; values = values; step = c.size-size.result; len = c.args.len } in
    let fields : HoldsFields g.element = subst HoldsFields c.elem-elem.ensures c.hold_fields.ensures in
    let room : length first ≡ elements_of g.shape * item_size g.element
    = ap length c.in_ok-values.ensures ∙ length-replicate (c.count.result * c.size-size.result) 0 ∙ (λ i. count i * size i) in
    let made : values ≡ with_elements (contiguous g.element g.shape) v bytes first = c.in_ok-assign.ensures.done ∙ ap (λ (t : Geo). with_elements t v bytes first) is in
    let out : All (λ p. p + item_size g.element ≤ length old) g.places = subst (λ n. All (λ p. p + item_size g.element ≤ n) g.places) (sym long) c.requires.target.inside in
    ap (λ (a : Prepared). written_by a old) c.new.ensures ∙ written_to ready old long
    ∙ ap (λ n. scattered g.element values n 0 g.places old) size
    ∙ elements g v bytes first values old fields c.requires.source.types c.requires.source.shapes c.requires.source.lies.count c.requires.target.count out (omega (arith, room)) made
