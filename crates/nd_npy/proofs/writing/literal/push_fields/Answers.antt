-- Nothing is left behind the last pad bytes.
use Rattle.std.proofs.Common.{◌≡◌, ◌++◌, ◌≤◌, ◌-◌, [], Bool, true, false, length, drop, refl, sym, ap, ◌∙◌, append-nil, arith}
use Rattle.std.proofs.lemmas.List.{drop_all}
use Rattle.nd_model.specs.Formats.NpyWriting as model
use Rattle.nd_types.specs.Fields.{fields_of}
use Rattle.nd_npy.specs.Writing.Items.{items_left}
use Rattle.nd_npy.proofs.writing.literal.push_fields.Goals as goal

none_left : (is_first : Bool) → items_left is_first [] ≡ []
none_left true = refl
none_left false = refl

pub returns : goal.returns
returns c =
    let l = c.loop-field in
    let fields = c.args.fields.now in
    let size = c.args.size in
    let past : length fields ≤ l.field-index = omega arith in
    let last : model.field_pairs l.place size (fields_of (drop l.field-index fields)) ≡ model.pad_pairs (size - l.place) =
    ap (λ fs. model.field_pairs l.place size (fields_of fs)) (drop_all l.field-index fields past) in
    sym (append-nil c.push_pads-2.new.out.items)
    ∙ ap (λ rest. c.push_pads-2.new.out.items ++ rest) (sym (none_left c.in_ok-_is_first._is_first))
    ∙ c.in_ok-_is_first.ensures []
    ∙ ap (λ ps. l.out.items ++ items_left l.is_first ps) (append-nil (model.pad_pairs c.saturating_sub-2.result) ∙ ap model.pad_pairs c.saturating_sub-2.ensures ∙ sym last)
    ∙ l.invariant
