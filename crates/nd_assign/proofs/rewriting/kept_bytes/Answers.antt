use Rattle.std.proofs.Common.{◌≡◌, ◌≢◌, ◌+◌, ◌-◌, ◌*◌, ◌≤◌, ℕ, List, length, take, drop, get_or, ap, ◌∙◌, arith}
use Rattle.nd_model.specs.Arrays.Element.{Boolean, size_of}
use Rattle.nd_view.specs.SideBySide.{side_by_side}
use Rattle.nd_convert.specs.Conversion.Converted.{converted_bytes}
use Rattle.nd_assign.proofs.Rewritten.{kept}
use Rattle.nd_assign.proofs.rewriting.kept_bytes.Goals as goal

pub returns : goal.returns
returns c =
    let a = c.args in let qs : List ℕ = a.run.now in let xs : List ℕ = a.bytes.now in let first = get_or qs 0 0 in let n = length qs * size_of a.to.kind in
    let same : a.to ≡ a.from = c.is_elem.ensures.0 c.if-not-is_elem.false in
    let number : a.to.kind ≢ Boolean = c.keeps_bytes.ensures.0 c.if-not-keeps_bytes.false in
    let are : qs ≡ side_by_side (size_of a.to.kind) first (length qs)
    = c.is_contiguous.ensures.0 c.if-not-is_contiguous.false ∙ ap (λ s. side_by_side s first (length qs)) c.size.ensures.value in
    let held : first + n ≤ length xs = omega (arith, c.end_of.ensures.value, c.end_of.ensures.inside) in
    let many : c.end_of.result - c.start.result ≡ n = omega (arith, c.end_of.ensures.value, c.start.ensures) in
    (λ i. take (many i) (drop (c.start.ensures i) xs)) ∙ kept a.to xs qs first number c.end_of.ensures.small are held ∙ (λ i. converted_bytes a.to (same i) xs qs)
