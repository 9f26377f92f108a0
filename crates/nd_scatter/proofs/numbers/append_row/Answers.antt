use Rattle.std.proofs.Common.{◌≡◌, ℕ, List, ◌++◌, ◌+◌, ◌-◌, ◌*◌, length, take, drop, slice_index, sym, ap, ◌∙◌, arith}
use Rattle.std.specs.List.{flat_map}
use Rattle.nd_model.specs.Arrays.Element.{size_of}
use Rattle.nd_model.specs.Arrays.View.{One}
use Rattle.nd_element.specs.Elements.{canonical_at}
use Rattle.nd_assign.proofs.Bytewise.{small_bytes}
use Rattle.nd_scatter.proofs.OwnBytes.{side_by_side_bytes}
use Rattle.nd_scatter.proofs.numbers.append_row.Goals as goal

pub returns-clause-written : goal.returns-clause-written
returns-clause-written c =
    let a = c.args in let xs : List ℕ = a.bytes.now in let ps : List ℕ = a.places.now in let n : ℕ = length ps in let p : ℕ = slice_index ps 0 in
    let size : n * c.size.result ≡ n * size_of a.elem.kind = ap (λ m. n * m) c.size.ensures.value in
    let long : p + n * c.size.result - p ≡ n * size_of a.elem.kind = omega (arith, size) in
    c.push.ensures.written ∙ ap (λ j. a.filling.0 ++ take j (drop p xs)) long
    ∙ ap (λ l. a.filling.0 ++ l) (side_by_side_bytes a.elem xs c.requires.kind (small_bytes xs c.type_inv.bytes) p n c.requires.inside ∙ ap (flat_map (canonical_at (One a.elem) xs)) (sym c.requires.places))
