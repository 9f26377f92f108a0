-- Fields one behind the other.
use Rattle.std.proofs.Common.{◌≡◌, ℕ, suc, nat_lt, nat_le, ◌+◌, ◌<◌, List, [], ◌∷◌, ◌++◌, length, drop, get_or, true, false, ◌&&◌, Option, None, Some, Err, refl, sym, ap, ◌∙◌, add-one, drop-cons, arith}
use Rattle.std.specs.Option.{is_some}
use Rattle.std.proofs.lemmas.Bool.{lt-ltb, lt-leb}
use Rattle.std.proofs.lemmas.List.{append_assoc}
use Rattle.nd_model.specs.Arrays.Element.{Element, size_of}
use Rattle.nd_model.specs.Arrays.View.{Field}
use Rattle.nd_model.specs.Grammar.Calls.{FieldType}
use Rattle.nd_model.specs.Arrays.Content.{fields_size}
use Rattle.nd_model.specs.Cells.Fault.{Stmt, BadType}
use Rattle.nd_model.specs.Arrays.Types.{element_named, and_field, fields_from, size_or, structure_type}
use Rattle.nd_syntax.specs.Dtypes.Types.{are_all_named}

-- more fields, if there are any
abbrev pub onto : List Field → Option (List Field) → Option (List Field)
onto done None = None
onto done (Some fs) = Some (done ++ fs)

pub onto_none : (o : Option (List Field)) → o ≡ onto [] o
onto_none None = refl
onto_none (Some fs) = refl

pub one_field : (done : List Field) (f : FieldType) (fs : List FieldType) (at : ℕ) (e : Element) → element_named f.type_name ≡ Some e
    → onto done (fields_from at (f ∷ fs)) ≡ onto (done ++ record { name = f.name; at = at; element = e } ∷ []) (fields_from (at + size_of e.kind) fs)
one_field done f fs at e h =
    ap (λ x. onto done (and_field f.name at x (fields_from (at + size_or x) fs))) h ∙ more (fields_from (at + size_of e.kind) fs)
  where
    more : (r : Option (List Field)) → onto done (and_field f.name at (Some e) r) ≡ onto (done ++ record { name = f.name; at = at; element = e } ∷ []) r
    more None = refl
    more (Some gs) = ap Some (sym (append_assoc done (record { name = f.name; at = at; element = e } ∷ []) gs))

pub no_field : (done : List Field) (f : FieldType) (fs : List FieldType) (at : ℕ) → element_named f.type_name ≡ None → onto done (fields_from at (f ∷ fs)) ≡ None
no_field done f fs at h = ap (λ x. onto done (and_field f.name at x (fields_from (at + size_or x) fs))) h

pub size_more : (fs : List Field) (f : Field) → fields_size (fs ++ f ∷ []) ≡ fields_size fs + size_of f.element.kind
size_more [] f = omega arith
size_more (g ∷ fs) f = omega (arith, size_more fs f)

-- ---- what is refused before memory is taken

and_rest : (t : FieldType) (at : ℕ) (x : Option Element) (fs : List FieldType) → ((m : ℕ) → are_all_named fs ≡ false → fields_from m fs ≡ None)
    → (is_some x && are_all_named fs) ≡ false → and_field t.name at x (fields_from (at + size_or x) fs) ≡ None
and_rest t at None fs rest h = refl
and_rest t at (Some e) fs rest h = ap (and_field t.name at (Some e)) (rest (at + size_of e.kind) h)

not_named : (fs : List FieldType) (at : ℕ) → are_all_named fs ≡ false → fields_from at fs ≡ None
not_named [] at h = absurd cc
not_named (f ∷ fs) at h = and_rest f at (element_named f.type_name) fs (not_named fs) h

pub no_fields : (fs : List FieldType) → are_all_named fs ≡ false → structure_type (fields_from 0 fs) ≡ Err (Stmt BadType)
no_fields fs h = ap structure_type (not_named fs 0 h)

one_more : (n : List ℕ) (at : ℕ) (x : Option Element) (r : Option (List Field)) (k : ℕ) (gs : List Field) → ((rest : List Field) → r ≡ Some rest → length rest ≡ k)
    → and_field n at x r ≡ Some gs → length gs ≡ suc k
one_more n at None r k gs f h = absurd cc
one_more n at (Some x) None k gs f h = absurd cc
one_more n at (Some x) (Some rest) k gs f h =
    let is : record { name = n; at = at; element = x } ∷ rest ≡ gs = cc in
    ap length (sym is) ∙ ap suc (f rest refl)

as_many : (fs : List FieldType) (at : ℕ) (gs : List Field) → fields_from at fs ≡ Some gs → length gs ≡ length fs
as_many [] at gs h = let is : [] ≡ gs = cc in ap length (sym is)
as_many (f ∷ fs) at gs h =
    one_more f.name at (element_named f.type_name) (fields_from (at + size_or (element_named f.type_name)) fs) (length fs) gs
    (λ rest e. as_many fs (at + size_or (element_named f.type_name)) rest e) h

pub too_many : (fs : List FieldType) → 256 < length fs → structure_type (fields_from 0 fs) ≡ Err (Stmt BadType)
too_many fs more = here (fields_from 0 fs) (λ gs e. as_many fs 0 gs e)
  where
    none : (gs : List Field) → 256 < length gs → structure_type (Some gs) ≡ Err (Stmt BadType)
    none gs many =
        let some : nat_lt 0 (length gs) ≡ true = lt-ltb 0 (length gs) (omega (arith, many)) in
        let over : nat_le (length gs) 256 ≡ false = lt-leb (length gs) 256 many in
        rw (some, over) refl

    here : (r : Option (List Field)) → ((gs : List Field) → r ≡ Some gs → length gs ≡ length fs) → structure_type r ≡ Err (Stmt BadType)
    here None f = refl
    here (Some gs) f = none gs (omega (arith, more, f gs refl))

-- the field that comes next
pub next_field : {A : Type 0} (xs : List A) (k : ℕ) (x : A) → k < length xs → x ≡ get_or xs k x → drop k xs ≡ x ∷ drop (k + 1) xs
next_field xs k x lt is = rw add-one (drop-cons xs k x lt ∙ ap (λ y. y ∷ drop (suc k) xs) (sym is))
