use Rattle.std.proofs.Common.{rules, ◌≡◌, ◌≤◌, ℕ, zero, suc, List, [], length, sym, ap, ◌∙◌, subst, arith}
use Rattle.std.specs.Prelude.{Some}
use Rattle.std.specs.Int.{w128, cast_signed, cast_unsigned}
use Rattle.std.specs.Int.RustNames.{FitsSigned}
use mir.Facts.{to_z-of_z}
use Rattle.nd_model.specs.Arrays.Content.{number_at}
use Rattle.nd_model.specs.Making.Conversion.{converts}
use Rattle.nd_model.specs.Arrays.Element.{Element, size_of, wrap}
use Rattle.nd_model.specs.Arrays.View.{Geo, One, contiguous}
use Rattle.nd_model.proofs.Values.{few_bytes, wrap_in_range}
use Rattle.nd_types.specs.Types.{type_of}
use Rattle.nd_assign.specs.Prepared.{Prepared, written_by}
use Rattle.nd_assign.specs.Ways.{AreIn}
use Rattle.nd_assign.proofs.Assigned.{number_back, number_assigned}
use Rattle.nd_assign.proofs.Readied.{copies_written}
use Rattle.nd_assign.proofs.preparation.prepare_number.Goals as goal

-- one number lies in as many bytes as it has
one_held : (e : Element) (n : ℕ) → size_of e.kind ≤ n → AreIn n (contiguous (One e) [])
one_held e n le zero d lt = omega (arith, le)
one_held e n le (suc k) d lt = absurd (omega (arith, lt))

pub new-requires : goal.new-requires
new-requires c =
    let e = c.in-One.elem in let bytes : List ℕ = c.store_at.new.bytes in
    let type : c.args.target.now.element ≡ One e = sym c.elem.ensures ∙ ap type_of c.in-One.is in
    let is : c.in_ok-one.one ≡ contiguous (One e) [] = c.in_ok-one.ensures in
    let own : c.in_ok-value.value.element ≡ One e = c.in_ok-value.ensures.element ∙ ap (λ (g : Geo). g.element) is in
    let few : size_of e.kind ≤ length bytes = omega (arith, few_bytes e.kind, c.store_at.ensures.len) in
    record {
      types = λ i. converts (own i) (type i);
      counts = c.in_ok-value.ensures.counts;
      out = c.requires.target.inside;
      leads = c.in_ok-value.ensures.held (length bytes) (subst (λ (g : Geo). AreIn (length bytes) g) (sym is) (one_held e (length bytes) few));
    }

pub returns-clause-written : goal.returns-clause-written
returns-clause-written c = λ old long.
    let a = c.args in let g = a.target.now in let e = c.in-One.elem in let bytes : List ℕ = c.store_at.new.bytes in
    let ready : Prepared = record { target = g; source = c.in_ok-value.value; bytes = Some bytes; len = a.len } in
    let type : g.element ≡ One e = sym c.elem.ensures ∙ ap type_of c.in-One.is in
    let fits : FitsSigned w128 c.wrap.result = search rules in
    let number : cast_signed w128 (cast_unsigned w128 a.number) ≡ a.number = to_z-of_z c.ranges.number in
    let z : cast_signed w128 (cast_unsigned w128 c.wrap.result) ≡ wrap e.kind a.number = to_z-of_z fits ∙ c.wrap.ensures.value ∙ (λ i. wrap (c.kind.ensures i) (number i)) in
    let back : number_at e bytes 0 ≡ wrap e.kind a.number
    = number_back e (cast_signed w128 (cast_unsigned w128 c.wrap.result)) (wrap e.kind a.number) _ bytes c.store_at.ensures.bytes z (wrap_in_range e.kind a.number) in
    ap (λ (p : Prepared). written_by p old) c.new.ensures ∙ sym (copies_written ready old long) ∙ c.in_ok-value.ensures.copies bytes old
    ∙ number_assigned g c.in_ok-one.one e a.number bytes old type c.in_ok-one.ensures back
