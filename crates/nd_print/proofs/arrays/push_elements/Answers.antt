use Rattle.std.proofs.Common.{rules, ◌≡◌, ℕ, ◌<◌, ◌++◌, List, map, length, string_bytes, string_len, refl, sym, ap, ◌∙◌, arith}
use Rattle.nd_model.specs.Arrays.Tuple.{elements_of}
use Rattle.nd_model.specs.Text.Text.{bracketed}
use Rattle.nd_model.specs.Arrays.View.{ElementType}
use Rattle.nd_print.specs.Columns.{least_columns, fields_in, is_structure, has_axes, wider_columns}
use Rattle.nd_print.specs.Lengths.{element_len, nested_len}
use Rattle.nd_print.specs.Texts.{text_at}
use Rattle.nd_print.proofs.Limits.{above, too_long_narrow, too_long_wide, fits}
use Rattle.nd_print.proofs.Showing.{shown}
use Rattle.nd_print.proofs.arrays.push_elements.Goals as goal

pub returns-then-not-has_room : goal.returns-then-not-has_room
returns-then-not-has_room c =
    let t : ElementType = c.args.view.now.element in
    let long : string_len c.args.line.now ≡ length (string_bytes c.args.line.now) = search rules in
    let shape : List ℕ = c.args.view.now.shape in
    let places : List ℕ = c.args.view.now.places in
    let size : length places ≡ elements_of shape = sym c.count.ensures.value ∙ c.count.ensures.elements in
    let some : 0 < length places = omega (arith, c.count.ensures.value, c.if-count-eq0.false) in
    let made = c.in_ok-layout.ensures in
    let same : nested_len 0 (element_len c.in_ok-layout.layout.is_structure c.in_ok-layout.layout.columns.items) c.shape-shape.result.now ≡ nested_len 0 (element_len (is_structure t) (least_columns (has_axes shape) (fields_in t))) shape
    = λ i. nested_len 0 (element_len (made.structure i) (made.columns i)) (c.shape-shape.ensures.value i) in
    let lt = above _ _ c.if-not-has_room.ensures.1 in
    (refl, too_long_narrow t shape c.args.bytes.now places size some (string_bytes c.args.line.now) c.args.limit (omega (arith, c.requires, long)) (omega (arith, lt, same, c.len.ensures, long)))

pub returns-then-not-has_room-2 : goal.returns-then-not-has_room-2
returns-then-not-has_room-2 c =
    let t : ElementType = c.args.view.now.element in
    let long : string_len c.args.line.now ≡ length (string_bytes c.args.line.now) = search rules in
    let shape : List ℕ = c.args.view.now.shape in
    let places : List ℕ = c.args.view.now.places in
    let bytes : List ℕ = c.args.bytes.now in
    let size : length places ≡ elements_of shape = sym c.count.ensures.value ∙ c.count.ensures.elements in
    let some : 0 < length places = omega (arith, c.count.ensures.value, c.if-count-eq0.false) in
    let made = c.in_ok-layout.ensures in
    let structure : c.widen.new.self.is_structure ≡ is_structure t = c.widen.ensures.structure ∙ made.structure in
    let columns : c.widen.new.self.columns.items ≡ wider_columns bytes places (least_columns (has_axes shape) (fields_in t)) = c.widen.ensures.columns ∙ ap (wider_columns bytes places) made.columns in
    let same : nested_len 0 (element_len c.widen.new.self.is_structure c.widen.new.self.columns.items) c.shape-shape.result.now
    ≡ nested_len 0 (element_len (is_structure t) (wider_columns bytes places (least_columns (has_axes shape) (fields_in t)))) shape
    = λ i. nested_len 0 (element_len (structure i) (columns i)) (c.shape-shape.ensures.value i) in
    let lt = above _ _ c.if-not-has_room-2.ensures.1 in
    (refl, too_long_wide t shape bytes places size some (string_bytes c.args.line.now) c.args.limit (omega (arith, c.requires, long)) (omega (arith, lt, same, c.len.ensures, long)))

pub returns : goal.returns
returns c =
    let t : ElementType = c.args.view.now.element in
    let long : string_len c.args.line.now ≡ length (string_bytes c.args.line.now) = search rules in
    let shape : List ℕ = c.args.view.now.shape in
    let places : List ℕ = c.args.view.now.places in
    let bytes : List ℕ = c.args.bytes.now in
    let size : length places ≡ elements_of shape = sym c.count.ensures.value ∙ c.count.ensures.elements in
    let some : 0 < length places = omega (arith, c.count.ensures.value, c.if-count-eq0.false) in
    let made = c.in_ok-layout.ensures in
    let structure : c.widen.new.self.is_structure ≡ is_structure t = c.widen.ensures.structure ∙ made.structure in
    let columns : c.widen.new.self.columns.items ≡ wider_columns bytes places (least_columns (has_axes shape) (fields_in t)) = c.widen.ensures.columns ∙ ap (wider_columns bytes places) made.columns in
    let same : nested_len 0 (element_len c.widen.new.self.is_structure c.widen.new.self.columns.items) c.shape-shape.result.now
    ≡ nested_len 0 (element_len (is_structure t) (wider_columns bytes places (least_columns (has_axes shape) (fields_in t)))) shape
    = λ i. nested_len 0 (element_len (structure i) (columns i)) (c.shape-shape.ensures.value i) in
    let le = c.if-not-has_room-2.ensures.0 refl in (
      c.in_ok-push_array.ensures
          ∙ ap (λ l. string_bytes c.args.line.now ++ l) ((λ i. bracketed 0 shape (map (text_at (structure i) (columns i) bytes) places)) ∙ sym (shown t shape bytes places size some)),
      fits t shape bytes places size some (string_bytes c.args.line.now) c.args.limit (omega (arith, c.requires, long)) (omega (arith, le, same, c.len.ensures, long)),
    )
