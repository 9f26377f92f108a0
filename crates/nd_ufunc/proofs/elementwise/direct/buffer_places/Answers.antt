use Rattle.std.proofs.Common.{◌≡◌, ℕ, ◌+◌, ◌*◌, List, [], ◌∷◌, map, Option, Some, None, ap, ◌∙◌, arith}
use Rattle.std.specs.Prelude.{IfSome}
use Rattle.nd_model.specs.Arrays.Element.{Element, size_of}
use Rattle.nd_model.specs.Making.Elementwise.{little}
use Rattle.nd_model.specs.Arrays.Tuple.{count_up, elements_of}
use Rattle.nd_model.specs.Arrays.View.{One, Geo, contiguous}
use Rattle.nd_types.specs.Kinds.{kind_of}
use Rattle.nd_view.specs.SideBySide.{side_by_side}
use Rattle.nd_view.proofs.Tuples.{map_same}
use Rattle.nd_ufunc.proofs.elementwise.direct.buffer_places.Goals as goal

of_some : (o : Option (List ℕ)) (P Q : List ℕ → Type 0) → ((x : List ℕ) → P x → Q x) → IfSome o P → IfSome o Q
of_some None P Q f p = tt
of_some (Some x) P Q f p = f x p

-- an array of one axis
laid : (e : Element) (n : ℕ) → (contiguous (One e) (n ∷ [])).places ≡ side_by_side (size_of e.kind) 0 n
laid e n =
    let many : elements_of (n ∷ []) ≡ n = omega arith in
    ap (λ m. map (λ k. k * size_of e.kind) (count_up 0 m)) many
    ∙ map_same (λ k. k * size_of e.kind) (λ k. 0 + k * size_of e.kind) (λ k. omega arith) (count_up 0 n)

pub returns-in-Ok : goal.returns-in-Ok
returns-in-Ok c =
    let e : Element = little (kind_of c.args.kind) in
    let view_is : c.in-Ok.view ≡ contiguous (One e) (8192 ∷ []) = c.in-Ok.ensures ∙ (λ i. contiguous (One (c.little-elem.ensures i)) (8192 ∷ [])) in
    of_some c.contiguous_run.result _ (λ run. run ≡ side_by_side (size_of e.kind) 0 8192)
    (λ run is. is.0 ∙ ap (λ (v : Geo). v.places) view_is ∙ laid e 8192) c.contiguous_run.ensures
