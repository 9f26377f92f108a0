use Rattle.std.proofs.Common.{◌≡◌, ◌+◌, ◌*◌, ◌<◌, ◌≤◌, ℕ, List, length, refl, sym, ap, ◌∙◌, subst, arith}
use Rattle.std.specs.List.{All}
use Rattle.std.proofs.Math.Nat.{mul-le-mul_right}
use Rattle.std.proofs.lemmas.Result.{IfOk-weaker}
use Rattle.nd_model.specs.Arrays.Tuple.{elements_of}
use Rattle.nd_model.specs.Arrays.View.{Geo, item_size}
use Rattle.nd_assign.specs.Assigned.{with_elements}
use Rattle.nd_assign.specs.Sources.{IsValue}
use Rattle.nd_index.specs.Advanced.Chosen.{view_at}
use Rattle.nd_scatter.specs.OwnValues.{AreOwnValues}
use Rattle.nd_scatter.specs.Scattered.{Prepared, scattered, written_by}
use Rattle.nd_scatter.proofs.Assigned.{written_to, elements}
use Rattle.nd_scatter.proofs.OwnValues.{held_fields, many, own_values, room}
use Rattle.nd_scatter.proofs.results.prepare_results.Goals as goal

pub prepare_elements-requires-clause-source : goal.prepare_elements-requires-clause-source
prepare_elements-requires-clause-source c =
    let g : Geo = view_at c.args.view.now c.args.places.now in
    subst (λ (bytes : List ℕ). IsValue g (length bytes) c.args.array.now) (sym c.as_slice-bytes.ensures) c.requires.source

pub new-requires : goal.new-requires
new-requires c =
    let g : Geo = view_at c.args.view.now c.args.places.now in let v : Geo = c.args.array.now in let values : List ℕ = c.args.values in
    let own : AreOwnValues g v = c.stands_ready.ensures c.if-stands_ready.true in
    let size : c.size-size.result ≡ item_size g.element = c.size-size.ensures.value ∙ ap item_size c.elem.ensures in
    let count : length v.places ≡ length g.places = many g v own values c.requires.source.lies ∙ sym c.requires.target.count in
    let inside : length g.places * c.size-size.result ≤ length values
    = subst (λ n. n ≤ length values) (λ i. count i * sym size i) (room g v own values c.requires.source.lies) in
    record {
      out = c.requires.target.inside;
      held = λ k lt.
          let next : (k + 1) * c.size-size.result ≤ length g.places * c.size-size.result = mul-le-mul_right c.size-size.result (omega (arith, lt)) in
          omega (arith, inside, next, size);
      few = omega (arith, count, own.few);
    }

pub returns-clause-written : goal.returns-clause-written
returns-clause-written c =
    let g : Geo = view_at c.args.view.now c.args.places.now in let v : Geo = c.args.array.now in
    let values : List ℕ = c.args.values in let block : List ℕ = c.args.block.now in
    IfOk-weaker c.prepare_elements.result _ (λ s. written_by s block ≡ with_elements g v values block)
    (λ s all. all block refl ∙ ap (λ bytes. with_elements g v bytes block) c.as_slice-bytes.ensures) c.prepare_elements.ensures.written

pub returns-then-stands_ready-clause-written : goal.returns-then-stands_ready-clause-written
returns-then-stands_ready-clause-written c =
    let g : Geo = view_at c.args.view.now c.args.places.now in let v : Geo = c.args.array.now in
    let values : List ℕ = c.args.values in let block : List ℕ = c.args.block.now in
    let own : AreOwnValues g v = c.stands_ready.ensures c.if-stands_ready.true in
    let size : c.size-size.result ≡ item_size g.element = c.size-size.ensures.value ∙ ap item_size c.elem.ensures in
    let ready : Prepared = record { target = g; values = values; step = c.size-size.result; len = length block } in
    let source = c.requires.source in
    let small : All (λ b. b < 256) values = subst (λ (bytes : List ℕ). All (λ b. b < 256) bytes) c.as_slice-bytes.ensures c.hold_bytes.ensures in
    let inside : elements_of g.shape * item_size g.element ≤ length values
    = subst (λ n. n * item_size g.element ≤ length values) (many g v own values source.lies) (room g v own values source.lies) in
    ap (λ (a : Prepared). written_by a block) c.new.ensures ∙ written_to ready block refl
    ∙ ap (λ n. scattered g.element values n 0 g.places block) size
    ∙ elements g v values values values block (held_fields g v own) source.types source.shapes source.lies.count c.requires.target.count c.requires.target.inside inside
    (own_values g v own values source.lies small source.shapes)
