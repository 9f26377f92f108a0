-- Whether there is room for a text.
use Rattle.std.proofs.Common.{rules, ◌≡◌, ◌==◌, true, false, ℕ, ◌-◌, ◌<◌, ◌≤◌, List, [], ◌∷◌, ◌++◌, map, length, refl, ap, ◌∙◌, arith, length-append, inl, inr}
use Rattle.std.specs.Prelude.{not, IsTrue}
use Rattle.std.proofs.lemmas.List.{length-map}
use Rattle.std.proofs.lemmas.Bool.{cases_lt}
use Rattle.nd_model.specs.Arrays.Content.{content_at}
use Rattle.nd_model.specs.Text.StructureText.{elements_text}
use Rattle.nd_model.specs.Arrays.Tuple.{elements_of}
use Rattle.nd_model.specs.Arrays.View.{ElementType}
use Rattle.nd_print.specs.declared.columns.Column.{Column}
use Rattle.nd_print.specs.Columns.{least_columns, fields_in, is_structure, has_axes, wider_columns}
use Rattle.nd_print.specs.Lengths.{element_len, nested_len}
use Rattle.nd_print.specs.Texts.{text_at}
use Rattle.nd_print.proofs.Measuring.{length-bracketed, nested_mono}
use Rattle.nd_print.proofs.Showing.{shown}
use Rattle.nd_print.proofs.Widening.{length-elements, more_elements}

pub axes_are : (shape : List ℕ) → not (length shape == 0) ≡ has_axes shape
axes_are [] = refl
axes_are (n ∷ shape) = search rules

module _ (t : ElementType) (shape bytes places : List ℕ) (size : length places ≡ elements_of shape) (some : 0 < length places) where
  abbrev narrow : List Column
  narrow = least_columns (has_axes shape) (fields_in t)

  abbrev wide : List Column
  wide = wider_columns bytes places (least_columns (has_axes shape) (fields_in t))

  abbrev text : List ℕ
  text = elements_text t shape (map (content_at t bytes) places)

  pub length-shown : length (elements_text t shape (map (content_at t bytes) places)) ≡ nested_len 0 (element_len (is_structure t) (wider_columns bytes places (least_columns (has_axes shape) (fields_in t)))) shape
  length-shown =
      let some_elements : 0 < elements_of shape = omega arith in
      ap (λ l. length l) (shown t shape bytes places size some)
      ∙ length-bracketed (element_len (is_structure t) wide) 0 shape (map (text_at (is_structure t) wide bytes) places)
      (length-elements (is_structure t) bytes places narrow) (length-map places (text_at (is_structure t) wide bytes) ∙ size) some_elements

  module _ (line : List ℕ) (limit : ℕ) (inside : length line ≤ limit) where
    -- a text that is too long with the least widths is too long
    pub too_long_narrow : limit - length line < nested_len 0 (element_len (is_structure t) narrow) shape → limit < length (line ++ text)
    too_long_narrow lt =
        let more = nested_mono 0 (element_len (is_structure t) narrow) (element_len (is_structure t) wide) shape (more_elements (is_structure t) bytes places narrow) in
        let all = length-shown in let both = length-append line text in omega arith

    pub too_long_wide : limit - length line < nested_len 0 (element_len (is_structure t) wide) shape → limit < length (line ++ text)
    too_long_wide lt = let all = length-shown in let both = length-append line text in omega arith

    pub fits : nested_len 0 (element_len (is_structure t) wide) shape ≤ limit - length line → length (line ++ text) ≤ limit
    fits le = let all = length-shown in let both = length-append line text in omega arith

pub above : (a b : ℕ) → (b ≤ a → IsTrue false) → a < b
above a b never = elim (cases_lt a b) [ inl lt ↦ lt | inr le ↦ absurd (let e : false ≡ true = never le in cc) ]
