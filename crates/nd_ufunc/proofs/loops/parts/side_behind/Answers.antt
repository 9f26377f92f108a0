use Rattle.std.proofs.Common.{◌≡◌, ℕ, ◌+◌, ◌*◌, List, take, drop, sym, ap, ◌∙◌, arith}
use Rattle.std.proofs.lemmas.List.{drop-drop}
use Rattle.nd_model.specs.Arrays.Content.{number_at}
use Rattle.nd_model.specs.Arrays.Element.{Element, size_of, value_of}
use Rattle.nd_model.specs.Making.Elementwise.{little}
use Rattle.nd_types.specs.Kinds.{kind_of}
use Rattle.nd_ufunc.specs.Loops.Sides.{number_on}
use Rattle.nd_ufunc.specs.declared.loops.kernel.Side.{Side}
use Rattle.nd_ufunc.proofs.loops.parts.side_behind.Goals as goal

pub returns-in-Each-clause-numbers : goal.returns-in-Each-clause-numbers
returns-in-Each-clause-numbers c = λ j.
    let e : Element = little (kind_of c.in-Each.kind) in let s = size_of (kind_of c.in-Each.kind) in let k = c.args.index in let bytes : List ℕ = c.in-Each.bytes.now in
    let place : k * c.size.result + j * s ≡ (k + j) * s = ap (λ m. k * m + j * s) c.size.ensures.value ∙ omega arith in
    ap (λ (l : List ℕ). number_at e l (j * s)) c.bytes_behind.ensures ∙ ap (λ l. value_of e (take s l)) (drop-drop (j * s) (k * c.size.result) bytes ∙ ap (λ m. drop m bytes) place)
    ∙ ap (λ (side : Side). number_on side (k + j)) (sym c.in-Each.is)
