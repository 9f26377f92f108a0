use Rattle.std.proofs.Common.{◌≡◌, ℕ, ◌+◌, ◌*◌, ◌≤◌, List, length, slice_index, Option, None, Some, IfSome, Bor, sym, ap, ◌∙◌}
use Rattle.std.specs.List.{flat_map}
use Rattle.nd_model.specs.Arrays.Element.{size_of, bytes_at}
use Rattle.nd_model.specs.Arrays.View.{One}
use Rattle.nd_types.specs.Types.{type_of}
use Rattle.nd_element.specs.Elements.{canonical_at}
use Rattle.nd_npy.proofs.writing.SideBySide.{plain}
use Rattle.nd_npy.proofs.writing.plain.plain_bytes.Goals as goal

found : (r : Option (Bor (List ℕ))) (a b : List ℕ) (Held : Type 0) → IfSome r (λ part. part.now ≡ a) → IfSome r (λ part. Held) → (Held → a ≡ b) → IfSome r (λ part. part.now ≡ b)
found None a b Held value held f = tt
found (Some part) a b Held value held f = value ∙ f held

pub returns : goal.returns
returns c =
    let g = c.args.view.now in let xs = c.args.bytes.now in let e = c.in-One.elem in
    let run = c.in_ok-run.run' in let known = c.in_ok-run.ensures in
    let type : One e ≡ g.element = ap type_of (sym c.in-One.is) ∙ c.elem.ensures in
    let first = slice_index run 0 in let n = length run * size_of e.kind in
    found c.run_bytes.result (bytes_at xs first n) (flat_map (canonical_at g.element xs) g.places) (first + n ≤ length xs) c.run_bytes.ensures.value c.run_bytes.ensures.inside
    (λ held. sym (plain e known.1 xs c.run_bytes.ensures.small run first known.2 held) ∙ (λ i. flat_map (canonical_at (type i) xs) (known.0 i)))
