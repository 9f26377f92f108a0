-- Structures that convert are the same.
use Rattle.std.proofs.Common.{◌≡◌, ℕ, Bool, true, false, cond, ◌&&◌, List, [], ◌∷◌, refl, sym, ap₂, ◌∙◌}
use Rattle.std.specs.Prelude.{bytes_eq, ◌==◌}
use Rattle.std.proofs.lemmas.Bool.{eqb-true}
use Rattle.nd_model.specs.Arrays.Element.{Kind, Boolean, Int8, Int16, Int32, Int64, UInt8, UInt16, UInt32, UInt64, Element, size_of}
use Rattle.nd_model.specs.Arrays.Promotion.{sort_of}
use Rattle.nd_model.specs.Arrays.View.{Field, Structure}
use Rattle.nd_model.specs.Making.Conversion.{same_order, same_element, same_field, same_fields, converts}
use Rattle.nd_model.proofs.Lists.{same_bytes}

both : (a b : Bool) → (a && b) ≡ true → (a ≡ true) × (b ≡ true)
both true true h = (refl, refl)
both true false h = absurd cc
both false b h = absurd cc

-- the kind of a sort that has a size
abbrev kind_by : ℕ → ℕ → Kind
kind_by m n =
    cond (m == 1) (cond (n == 1) UInt8 (cond (n == 2) UInt16 (cond (n == 4) UInt32 UInt64)))
    (cond (m == 2) (cond (n == 1) Int8 (cond (n == 2) Int16 (cond (n == 4) Int32 Int64))) Boolean)

kind_is : (k : Kind) → kind_by (sort_of k) (size_of k) ≡ k
kind_is Boolean = refl
kind_is Int8 = refl
kind_is Int16 = refl
kind_is Int32 = refl
kind_is Int64 = refl
kind_is UInt8 = refl
kind_is UInt16 = refl
kind_is UInt32 = refl
kind_is UInt64 = refl

order_is : (a b : Bool) → same_order a b ≡ true → a ≡ b
order_is true true h = refl
order_is true false h = absurd cc
order_is false true h = absurd cc
order_is false false h = refl

element_is : (d e : Element) → same_element d e ≡ true → d ≡ e
element_is d e h =
    let parts = both ((sort_of d.kind == sort_of e.kind) && (size_of d.kind == size_of e.kind)) (same_order d.big e.big) h in
    let kinds = both (sort_of d.kind == sort_of e.kind) (size_of d.kind == size_of e.kind) parts.0 in
    let kind : d.kind ≡ e.kind = sym (kind_is d.kind) ∙ ap₂ kind_by (eqb-true _ _ kinds.0) (eqb-true _ _ kinds.1) ∙ kind_is e.kind in
    let order : d.big ≡ e.big = order_is d.big e.big parts.1 in
    λ i. record { kind = kind i; big = order i }

field_is : (f g : Field) → same_field f g ≡ true → f ≡ g
field_is f g h =
    let parts = both (bytes_eq f.name g.name && (f.at == g.at)) (same_element f.element g.element) h in
    let fronts = both (bytes_eq f.name g.name) (f.at == g.at) parts.0 in
    let name : f.name ≡ g.name = same_bytes f.name g.name fronts.0 in
    let place : f.at ≡ g.at = eqb-true f.at g.at fronts.1 in
    let element : f.element ≡ g.element = element_is f.element g.element parts.1 in
    λ i. record { name = name i; at = place i; element = element i }

fields_are : (fs gs : List Field) → same_fields fs gs ≡ true → fs ≡ gs
fields_are [] [] h = refl
fields_are [] (g ∷ gs) h = absurd cc
fields_are (f ∷ fs) [] h = absurd cc
fields_are (f ∷ fs) (g ∷ gs) h = let parts = both (same_field f g) (same_fields fs gs) h in ap₂ (λ a b. a ∷ b) (field_is f g parts.0) (fields_are fs gs parts.1)

pub same_structure : (fs gs : List Field) (m n : ℕ) → converts (Structure fs m) (Structure gs n) ≡ true → Structure fs m ≡ Structure gs n
same_structure fs gs m n h = let parts = both (same_fields fs gs) (m == n) h in ap₂ Structure (fields_are fs gs parts.0) (eqb-true m n parts.1)
