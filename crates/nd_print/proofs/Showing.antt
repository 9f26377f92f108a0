-- The text by columns is the text of the definitions.
use Rattle.std.proofs.Common.{◌≡◌, ℕ, ◌+◌, ◌-◌, ◌<◌, ℤ, max, Bool, true, false, List, [], ◌∷◌, map, length, take, drop, refl, sym, ap, ap₂, ◌∙◌, arith, append-nil}
use Rattle.std.specs.Prelude.{codes}
use Rattle.std.proofs.lemmas.List.{drop-drop}
use Rattle.nd_model.specs.Arrays.Element.{Element, size_of, value_of}
use Rattle.nd_model.specs.Arrays.Tuple.{elements_of}
use Rattle.nd_model.specs.Arrays.View.{Field, ElementType, One, Structure}
use Rattle.nd_model.specs.Arrays.Content.{number_in, number_at, content_at}
use Rattle.nd_model.specs.Text.Text as text
use Rattle.nd_model.specs.Text.Text.{number_text, widest, aligned, bracketed}
use Rattle.nd_model.specs.Text.StructureText.{number_texts, field_texts, wider, widths_of, all_aligned, in_parentheses, elements_text}
use Rattle.nd_print.specs.declared.columns.Column.{Column}
use Rattle.nd_print.specs.Columns.{least_width, least_columns, fields_in, is_structure, has_axes, wider_column, wider_columns}
use Rattle.nd_print.specs.Texts.{column_text, text_at}

-- a part of an element is read there
read_there : (e : Element) (bytes : List ℕ) (p at : ℕ) → number_at e (drop p bytes) at ≡ number_at e bytes (p + at)
read_there e bytes p at = ap (λ (l : List ℕ). value_of e (take (size_of e.kind) l)) (drop-drop at p bytes)

-- ---- structures

columns : List Field → List ℕ → List Column
columns (f ∷ fs) (w ∷ ws) = record { at = f.at; elem = f.element; width = w } ∷ columns fs ws
columns (f ∷ fs) [] = []
columns [] ws = []

module _ (bytes : List ℕ) where
  abbrev texts : List Field → ℕ → List (List ℕ)
  texts fs p = number_texts fs (map (λ (f : Field). number_at f.element bytes (p + f.at)) fs)

  least : (padded : Bool) (fs : List Field) → least_columns padded fs ≡ columns fs (map (λ (f : Field). least_width padded f.element.kind) fs)
  unfolding columns
  least padded [] = refl
  least padded (f ∷ fs) = ap (λ l. record { at = f.at; elem = f.element; width = least_width padded f.element.kind } ∷ l) (least padded fs)

  next_columns : (fs : List Field) (ws : List ℕ) (p : ℕ) → map (wider_column (drop p bytes)) (columns fs ws) ≡ columns fs (wider ws (texts fs p))
  unfolding columns
  next_columns [] ws p = refl
  next_columns (f ∷ fs) [] p = refl
  next_columns (f ∷ fs) (w ∷ ws) p =
      ap₂ (λ (z : ℤ) l. record { at = f.at; elem = f.element; width = max w (length (number_text f.element.kind z)) } ∷ l) (read_there f.element bytes p f.at) (next_columns fs ws p)

  all_columns : (ps : List ℕ) (fs : List Field) (ws : List ℕ) → wider_columns bytes ps (columns fs ws) ≡ columns fs (widths_of ws (map (texts fs) ps))
  all_columns [] fs ws = refl
  all_columns (p ∷ ps) fs ws = ap (wider_columns bytes ps) (next_columns fs ws p) ∙ all_columns ps fs (wider ws (texts fs p))

  shown_columns : (fs : List Field) (ws : List ℕ) (p : ℕ) → map (column_text (drop p bytes)) (columns fs ws) ≡ all_aligned ws (texts fs p)
  unfolding columns
  shown_columns [] [] p = refl
  shown_columns [] (w ∷ ws) p = refl
  shown_columns (f ∷ fs) [] p = refl
  shown_columns (f ∷ fs) (w ∷ ws) p = ap₂ (λ (z : ℤ) l. aligned w (number_text f.element.kind z) ∷ l) (read_there f.element bytes p f.at) (shown_columns fs ws p)

  own_width : (t : List ℕ) → aligned (max 0 (length t)) t ≡ t
  own_width t = let none : max 0 (length t) - length t ≡ 0 = omega arith in rw none refl

  own_widths : (fs : List Field) (p : ℕ) → all_aligned (wider (map (λ (f : Field). least_width false f.element.kind) fs) (texts fs p)) (texts fs p) ≡ texts fs p
  own_widths [] p = refl
  own_widths (f ∷ fs) p = ap₂ (λ a l. a ∷ l) (own_width (number_text f.element.kind (number_at f.element bytes (p + f.at)))) (own_widths fs p)

  module _ (fs : List Field) (size : ℕ) where
    rows : (ps : List ℕ) → map (field_texts fs) (map (content_at (Structure fs size) bytes) ps) ≡ map (texts fs) ps
    rows [] = refl
    rows (p ∷ ps) = ap (λ l. texts fs p ∷ l) (rows ps)

    shown_rows : (ws : List ℕ) (ps : List ℕ) → map (λ ts. in_parentheses (all_aligned ws ts)) (map (texts fs) ps) ≡ map (text_at true (columns fs ws) bytes) ps
    shown_rows ws [] = refl
    shown_rows ws (p ∷ ps) = ap₂ (λ a l. in_parentheses a ∷ l) (sym (shown_columns fs ws p)) (shown_rows ws ps)

    structures : (n : ℕ) (shape : List ℕ) (p : ℕ) (ps : List ℕ)
        → elements_text (Structure fs size) (n ∷ shape) (map (content_at (Structure fs size) bytes) (p ∷ ps))
        ≡ bracketed 0 (n ∷ shape) (map (text_at true (wider_columns bytes (p ∷ ps) (least_columns true fs)) bytes) (p ∷ ps))
    structures n shape p ps =
        let start : List ℕ = map (λ (f : Field). least_width true f.element.kind) fs in
        ap (λ rs. bracketed 0 (n ∷ shape) (map (λ ts. in_parentheses (all_aligned (widths_of start rs) ts)) rs)) (rows (p ∷ ps))
        ∙ ap (bracketed 0 (n ∷ shape)) (shown_rows (widths_of start (map (texts fs) (p ∷ ps))) (p ∷ ps))
        ∙ ap (λ cs. bracketed 0 (n ∷ shape) (map (text_at true cs bytes) (p ∷ ps))) (sym (ap (wider_columns bytes (p ∷ ps)) (least true fs) ∙ all_columns (p ∷ ps) fs start))

    structure : (p : ℕ)
        → elements_text (Structure fs size) [] (map (content_at (Structure fs size) bytes) (p ∷ []))
        ≡ bracketed 0 [] (map (text_at true (wider_columns bytes (p ∷ []) (least_columns false fs)) bytes) (p ∷ []))
    structure p =
        let start : List ℕ = map (λ (f : Field). least_width false f.element.kind) fs in
        ap in_parentheses (sym (shown_columns fs (wider start (texts fs p)) p ∙ own_widths fs p))
        ∙ ap (λ cs. text_at true cs bytes p) (sym (ap (wider_columns bytes (p ∷ [])) (least false fs) ∙ all_columns (p ∷ []) fs start))
        ∙ sym (append-nil (text_at true (wider_columns bytes (p ∷ []) (least_columns false fs)) bytes p))

-- ---- numbers

module _ (bytes : List ℕ) (e : Element) where
  abbrev number : ℕ → List ℕ
  number p = number_text e.kind (number_at e bytes p)

  abbrev column : ℕ → Column
  column w = record { at = 0; elem = e; width = w }

  three : (a b c : ℕ) → max (max a b) c ≡ max a (max b c)
  three a b c = omega arith

  one_column : (w : ℕ) (ps : List ℕ) → wider_columns bytes ps (column w ∷ []) ≡ column (max w (widest (map number ps))) ∷ []
  one_column w [] = let same : max w 0 ≡ w = omega arith in ap (λ n. column n ∷ []) (sym same)
  one_column w (p ∷ ps) = one_column (max w (length (number p))) ps ∙ ap (λ n. column n ∷ []) (three w (length (number p)) (widest (map number ps)))

  numbers : (ps : List ℕ) → map (number_text e.kind) (map number_in (map (content_at (One e) bytes) ps)) ≡ map number ps
  numbers [] = refl
  numbers (p ∷ ps) = ap (λ l. number p ∷ l) (numbers ps)

  shown_numbers : (w : ℕ) (ps : List ℕ) → map (aligned w) (map number ps) ≡ map (text_at false (column w ∷ []) bytes) ps
  shown_numbers w [] = refl
  shown_numbers w (p ∷ ps) = ap₂ (λ a l. a ∷ l) (sym (append-nil (aligned w (number p)))) (shown_numbers w ps)

  of_numbers : (n : ℕ) (shape : List ℕ) (p : ℕ) (ps : List ℕ)
      → elements_text (One e) (n ∷ shape) (map (content_at (One e) bytes) (p ∷ ps))
      ≡ bracketed 0 (n ∷ shape) (map (text_at false (wider_columns bytes (p ∷ ps) (column (text.least_width e.kind) ∷ [])) bytes) (p ∷ ps))
  of_numbers n shape p ps =
      ap (λ ts. bracketed 0 (n ∷ shape) (map (aligned (max (text.least_width e.kind) (widest ts))) ts)) (numbers (p ∷ ps))
      ∙ ap (bracketed 0 (n ∷ shape)) (shown_numbers (max (text.least_width e.kind) (widest (map number (p ∷ ps)))) (p ∷ ps))
      ∙ ap (λ cs. bracketed 0 (n ∷ shape) (map (text_at false cs bytes) (p ∷ ps))) (sym (one_column (text.least_width e.kind) (p ∷ ps)))

  of_number : (p : ℕ)
      → elements_text (One e) [] (map (content_at (One e) bytes) (p ∷ []))
      ≡ bracketed 0 [] (map (text_at false (wider_columns bytes (p ∷ []) (column 0 ∷ [])) bytes) (p ∷ []))
  of_number p =
      sym (own_width bytes (number p)) ∙ sym (append-nil (aligned (max 0 (length (number p))) (number p)))
      ∙ sym (append-nil (text_at false (wider_columns bytes (p ∷ []) (column 0 ∷ [])) bytes p))

-- ---- both

-- how the elements of an array are shown
pub shown : (t : ElementType) (shape bytes places : List ℕ) → length places ≡ elements_of shape → 0 < length places
    → elements_text t shape (map (content_at t bytes) places)
    ≡ bracketed 0 shape (map (text_at (is_structure t) (wider_columns bytes places (least_columns (has_axes shape) (fields_in t))) bytes) places)
shown t shape bytes [] size some = absurd (omega arith)
shown (One e) (n ∷ shape) bytes (p ∷ ps) size some = of_numbers bytes e n shape p ps
shown (Structure fs s) (n ∷ shape) bytes (p ∷ ps) size some = structures bytes fs s n shape p ps
shown (One e) [] bytes (p ∷ []) size some = of_number bytes e p
shown (Structure fs s) [] bytes (p ∷ []) size some = structure bytes fs s p
shown t [] bytes (p ∷ q ∷ ps) size some = absurd (omega arith)

-- no elements
pub shown_none : (t : ElementType) (shape bytes places : List ℕ) → length places ≡ 0 → elements_text t shape (map (content_at t bytes) places) ≡ codes "[]"
shown_none (One e) [] bytes [] none = refl
shown_none (One e) (n ∷ shape) bytes [] none = refl
shown_none (Structure fs s) [] bytes [] none = refl
shown_none (Structure fs s) (n ∷ shape) bytes [] none = refl
shown_none t shape bytes (p ∷ ps) none = absurd (omega arith)
