use Rattle.std.proofs.Common.{rules, ◌≡◌, ◌+◌, ◌≤◌, ℕ, ℤ, List, length, refl, ap, ◌∙◌, arith}
use Rattle.std.specs.Prelude.{if◌then◌else◌}
use Rattle.std.specs.Int.{w128, cast_signed, cast_unsigned}
use Rattle.std.specs.Int.RustNames.{FitsSigned}
use mir.Facts.{to_z-of_z}
use Rattle.nd_model.specs.Arrays.Content.{number_at}
use Rattle.nd_model.specs.Arrays.Element.{Element, size_of, bytes_of, with_bytes}
use Rattle.nd_model.specs.Making.Elementwise.{little}
use Rattle.nd_types.specs.Kinds.{kind_of}
use Rattle.nd_places.specs.Near.{is_true}
use Rattle.nd_assign.proofs.Bytewise.{small_bytes}
use Rattle.nd_scatter.proofs.Chosen.{number_written}
use Rattle.nd_scatter.proofs.masked.write_chosen.Goals as goal

pub returns-clause-bytes : goal.returns-clause-bytes
returns-clause-bytes c =
    let a = c.args in let out : List ℕ = a.out.now in let values : List ℕ = a.values.now in let w : Element = little (kind_of a.word) in
    let own : FitsSigned w128 c.value_at-old.result = search rules in let other : FitsSigned w128 c.value_at-new.result = search rules in let either : FitsSigned w128 c.choose_number.result = search rules in
    let old : cast_signed w128 (cast_unsigned w128 c.value_at-old.result) ≡ number_at w out a.to
    = to_z-of_z own ∙ c.value_at-old.ensures.value ∙ ap (λ (e : Element). number_at e out a.to) c.little-same.ensures in
    let new : cast_signed w128 (cast_unsigned w128 c.value_at-new.result) ≡ number_at w values a.from
    = to_z-of_z other ∙ c.value_at-new.ensures.value ∙ ap (λ (e : Element). number_at e values a.from) c.little-same.ensures in
    let z : cast_signed w128 (cast_unsigned w128 c.choose_number.result) ≡ (if is_true a.byte then number_at w values a.from else number_at w out a.to)
    = to_z-of_z either ∙ c.choose_number.ensures ∙ (λ i. if is_true a.byte then new i else old i) in
    c.store_at.ensures.bytes ∙ (λ i. with_bytes out a.to (bytes_of (c.little-same.ensures i) (z i)))
    ∙ number_written (is_true a.byte) w values out a.to a.from (if is_true a.byte then number_at w values a.from else number_at w out a.to) c.requires.word (small_bytes values c.type_inv.values) c.hold_bytes.ensures c.requires.out c.requires.held refl
