-- The text of structures, as NumPy prints them: `(a, b)`, of one field `(a,)`, and each field aligned over the array.
use Rattle.std.specs.Prelude.{ℕ, max, ℤ, List, [], ◌∷◌, ◌++◌, map, length, codes}
use Rattle.nd_model.specs.Arrays.View.{Field, ElementType, One, Structure}
use Rattle.nd_model.specs.Arrays.Content.{Content, Num, Rec, number_in}
use Rattle.nd_model.specs.Text.Text.{number_text, array_text, joined, aligned, least_width, bracketed}

-- the numbers of the fields
abbrev pub number_texts : List Field → List ℤ → List (List ℕ)
number_texts (f ∷ fs) (z ∷ zs) = number_text f.element.kind z ∷ number_texts fs zs
number_texts _ _ = []

abbrev pub field_texts : List Field → Content → List (List ℕ)
field_texts fields (Rec zs) = number_texts fields zs
field_texts fields (Num z) = []

-- the widths, or those of these texts where they are greater
abbrev pub wider : List ℕ → List (List ℕ) → List ℕ
wider (w ∷ ws) (t ∷ ts) = max w (length t) ∷ wider ws ts
wider ws ts = ws

-- the widths that the texts of all elements need, these at least
abbrev pub widths_of : List ℕ → List (List (List ℕ)) → List ℕ
widths_of ws [] = ws
widths_of ws (ts ∷ rows) = widths_of (wider ws ts) rows

-- each text aligned to its width
abbrev pub all_aligned : List ℕ → List (List ℕ) → List (List ℕ)
all_aligned (w ∷ ws) (t ∷ ts) = aligned w t ∷ all_aligned ws ts
all_aligned _ _ = []

abbrev pub in_parentheses : List (List ℕ) → List ℕ
in_parentheses (t ∷ []) = 40 ∷ t ++ 44 ∷ 41 ∷ []
in_parentheses ts = 40 ∷ joined (44 ∷ 32 ∷ []) ts ++ 41 ∷ []

abbrev pub structures_text : List Field → List ℕ → List Content → List ℕ
structures_text fields shape [] = codes "[]"
structures_text fields [] (c ∷ cs) = in_parentheses (field_texts fields c)
structures_text fields (n ∷ shape) (c ∷ cs) =
    let rows = map (field_texts fields) (c ∷ cs) in
    let widths = widths_of (map (λ (f : Field). least_width f.element.kind) fields) rows in
    bracketed 0 (n ∷ shape) (map (λ ts. in_parentheses (all_aligned widths ts)) rows)

-- THE TEXT of an array or a row, from the contents of its elements in C order
abbrev pub elements_text : ElementType → List ℕ → List Content → List ℕ
elements_text (One e) shape cs = array_text e.kind shape (map number_in cs)
elements_text (Structure fields size) shape cs = structures_text fields shape cs
