-- Conversion of elements to another type (NumPy user guide, "Data types"; NumPy's `astype`): a number is wrapped, or `not zero` for a
-- Boolean; a structure stays as it is, in the same type alone.
use Rattle.std.specs.Prelude.{◌==◌, bytes_eq, Bool, true, false, ◌&&◌, List, [], ◌∷◌}
use Rattle.nd_model.specs.Arrays.Element.{Element, size_of, wrap}
use Rattle.nd_model.specs.Arrays.Promotion.{sort_of}
use Rattle.nd_model.specs.Arrays.View.{Field, ElementType, One, Structure}
use Rattle.nd_model.specs.Arrays.Content.{Content, Num, number_in}

-- ---- which types convert

abbrev pub same_order : Bool → Bool → Bool
same_order true true = true
same_order false false = true
same_order _ _ = false

abbrev pub same_element : Element → Element → Bool
same_element d e = (sort_of d.kind == sort_of e.kind) && (size_of d.kind == size_of e.kind) && same_order d.big e.big

abbrev pub same_field : Field → Field → Bool
same_field f g = bytes_eq f.name g.name && (f.at == g.at) && same_element f.element g.element

abbrev pub same_fields : List Field → List Field → Bool
same_fields [] [] = true
same_fields (f ∷ fs) (g ∷ gs) = same_field f g && same_fields fs gs
same_fields _ _ = false

-- a number converts to each number, a structure to the same structure alone
abbrev pub converts : ElementType → ElementType → Bool
converts (One d) (One e) = true
converts (Structure fs m) (Structure gs n) = same_fields fs gs && (m == n)
converts _ _ = false

-- ---- what becomes of them

-- THE CONTENT of another type that a content becomes
abbrev pub converted_content : ElementType → Content → Content
converted_content (One e) c = Num (wrap e.kind (number_in c))
converted_content (Structure fields size) c = c
