use Rattle.std.proofs.Common.{rules, ◌≡◌, ◌+◌, ◌≤◌, ◌++◌, ℕ, List, length, sym, ap, ◌∙◌, arith}
use Rattle.std.specs.Int.{w128, cast_signed, cast_unsigned}
use Rattle.std.specs.Int.RustNames.{FitsSigned}
use mir.Facts.{to_z-of_z}
use Rattle.nd_model.specs.Arrays.Content.{number_at}
use Rattle.nd_model.specs.Arrays.Element.{Element, size_of, bytes_at, bytes_of}
use Rattle.nd_model.specs.Making.Elementwise.{little}
use Rattle.nd_model.specs.Arrays.View.{One}
use Rattle.nd_model.proofs.Contents.{number_bytes}
use Rattle.nd_types.specs.Kinds.{kind_of}
use Rattle.nd_element.specs.Elements.{canonical_at}
use Rattle.nd_assign.proofs.Bytewise.{small_bytes}
use Rattle.nd_scatter.proofs.OwnBytes.{own_bytes}
use Rattle.nd_scatter.proofs.numbers.append_number.Goals as goal

pub returns-then-place-len-clause-written : goal.returns-then-place-len-clause-written
returns-then-place-len-clause-written c =
    let a = c.args in let xs : List ℕ = a.bytes.now in let w : Element = little (kind_of a.word) in
    let small = small_bytes xs c.type_inv.bytes in
    let held : a.place + size_of (kind_of a.word) ≤ length xs = omega (arith, c.size-size.ensures.value, c.if-size-len.true, c.if-place-len.true) in
    let le : a.place + size_of a.elem.kind ≤ length xs = omega (arith, held, c.requires.size) in
    let fits : FitsSigned w128 c.value_at.result = search rules in
    let z : cast_signed w128 (cast_unsigned w128 c.value_at.result) ≡ number_at w xs a.place
    = to_z-of_z fits ∙ c.value_at.ensures.value ∙ ap (λ (e : Element). number_at e xs a.place) c.little-same.ensures in
    let word : bytes_of c.little-same.result (cast_signed w128 (cast_unsigned w128 c.value_at.result)) ≡ canonical_at (One a.elem) xs a.place
    = (λ i. bytes_of (c.little-same.ensures i) (z i)) ∙ sym (number_bytes w (number_at w xs a.place)) ∙ sym (own_bytes w xs c.requires.kinds.1 small a.place held)
    ∙ ap (bytes_at xs a.place) c.requires.size ∙ own_bytes a.elem xs c.requires.kinds.0 small a.place le in
    c.push_number.ensures.written ∙ ap (λ l. a.filling.0 ++ l) word
