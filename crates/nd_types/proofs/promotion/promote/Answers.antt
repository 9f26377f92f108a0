use Rattle.std.proofs.Common.{◌≡◌, ◌+◌, suc, [], ◌∷◌, sym, ap, ◌∙◌, map, drop, arith}
use Rattle.nd_model.specs.Arrays.Promotion as promotion
use Rattle.nd_types.specs.Kinds.{kind_of}
use Rattle.nd_types.specs.declared.kind.Kind.TheVariants as kind
use Rattle.nd_types.proofs.Skipping.{passed}
use Rattle.nd_types.proofs.promotion.promote.Goals as goal

pub loop-kind-preserved : goal.loop-kind-preserved
loop-kind-preserved c =
    let items = kind.Bool ∷ kind.U8 ∷ kind.I8 ∷ kind.U16 ∷ kind.I16 ∷ kind.U32 ∷ kind.I32 ∷ kind.U64 ∷ kind.I64 ∷ [] in
    let i = c.loop-kind.kind-index in
    let next : i + 1 ≡ suc i = omega arith in
    ap (λ n. promotion.first_for (kind_of c.args.a) (kind_of c.args.b) (map kind_of (drop n items))) next
    ∙ sym (passed (kind_of c.args.a) (kind_of c.args.b) items i _ c.loop-kind-test.true (sym c.has_both.ensures ∙ c.if-has_both.false))
    ∙ c.loop-kind.invariant
