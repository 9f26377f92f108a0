-- Which types convert, and what is made of elements that do.
use Rattle.std.proofs.Common.{◌≡◌, ◌↔◌, ℕ, IsTrue, Bool, true, false, cond, ◌&&◌, ℤ, List, [], ◌∷◌, length, map, replicate, Option, None, Some, Result, Ok, Err, refl, sym, ap, ap₂, subst, ◌∙◌, append-nil}
use Rattle.std.specs.Prelude.{bytes_eq, ◌==◌, IfOk}
use Rattle.std.specs.declared.alloc.AllocError.{AllocError}
use Rattle.std.proofs.lemmas.Bool.{eqb-true, eq-eqb}
use Rattle.std.proofs.lemmas.List.{length-replicate}
use Rattle.nd_model.specs.Arrays.Element.{Kind, Boolean, Int8, Int16, Int32, Int64, UInt8, UInt16, UInt32, UInt64, Element, size_of, wrap}
use Rattle.nd_model.specs.Arrays.Promotion.{sort_of}
use Rattle.nd_model.specs.Arrays.View.{Field, ElementType, One, Structure, Geo, item_size}
use Rattle.nd_model.specs.Arrays.Content.{Content, Num, number_in, content_at, content_in_order, writes, element_bytes, array_bytes}
use Rattle.nd_model.specs.Arrays.Strides.{limit_fault}
use Rattle.nd_model.specs.Grammar.Calls.{DType}
use Rattle.nd_model.specs.Cells.Fault.{Fault, Ufunc, NotNumbers, IntOutOfRange}
use Rattle.nd_model.specs.Cells.Refusing as refusing
use Rattle.nd_model.specs.Arrays.Broadcast.{unless_fault, in_limits}
use Rattle.nd_model.specs.Making.Operand.{Number, Plain, Made, AnArray, number_of, content_of, made_of}
use Rattle.nd_model.specs.Making.Conversion.{same_order, same_element, same_field, same_fields, converts, converted_content}
use Rattle.nd_model.specs.Making.Creation.{little, type_or, type_for, array_type, is_number_type, misfit, operand_misfit, unless_misfit, uniform, converted_at, converted_array, full_array, new_array, convert}
use Rattle.nd_model.proofs.Lists.{same_bytes, bytes_eq_self, length-put}
use Rattle.nd_operation.specs.Operators.Contents.{contents_over, elements_over}
use Rattle.nd_operation.proofs.operators.Creating.{over}

both : (a b : Bool) → (a && b) ≡ true → (a ≡ true) × (b ≡ true)
both true true h = (refl, refl)
both true false h = absurd cc
both false b h = absurd cc

-- ---- the same type

-- the kind of a sort that has a size
abbrev kind_by : ℕ → ℕ → Kind
kind_by m n =
    cond (m == 1) (cond (n == 1) UInt8 (cond (n == 2) UInt16 (cond (n == 4) UInt32 UInt64)))
    (cond (m == 2) (cond (n == 1) Int8 (cond (n == 2) Int16 (cond (n == 4) Int32 Int64))) Boolean)

kind_is : (k : Kind) → kind_by (sort_of k) (size_of k) ≡ k
kind_is Boolean = refl
kind_is Int8 = refl
kind_is Int16 = refl
kind_is Int32 = refl
kind_is Int64 = refl
kind_is UInt8 = refl
kind_is UInt16 = refl
kind_is UInt32 = refl
kind_is UInt64 = refl

order_is : (a b : Bool) → same_order a b ≡ true → a ≡ b
order_is true true h = refl
order_is true false h = absurd cc
order_is false true h = absurd cc
order_is false false h = refl

order_self : (a : Bool) → same_order a a ≡ true
order_self true = refl
order_self false = refl

element_is : (d e : Element) → same_element d e ≡ true → d ≡ e
element_is d e h =
    let parts = both ((sort_of d.kind == sort_of e.kind) && (size_of d.kind == size_of e.kind)) (same_order d.big e.big) h in
    let kinds = both (sort_of d.kind == sort_of e.kind) (size_of d.kind == size_of e.kind) parts.0 in
    let kind : d.kind ≡ e.kind = sym (kind_is d.kind) ∙ ap₂ kind_by (eqb-true _ _ kinds.0) (eqb-true _ _ kinds.1) ∙ kind_is e.kind in
    let order : d.big ≡ e.big = order_is d.big e.big parts.1 in
    λ i. record { kind = kind i; big = order i }

element_self : (d : Element) → same_element d d ≡ true
element_self d = rw (eq-eqb (sort_of d.kind) (sort_of d.kind) refl, eq-eqb (size_of d.kind) (size_of d.kind) refl) (order_self d.big)

field_is : (f g : Field) → same_field f g ≡ true → f ≡ g
field_is f g h =
    let parts = both (bytes_eq f.name g.name && (f.at == g.at)) (same_element f.element g.element) h in
    let fronts = both (bytes_eq f.name g.name) (f.at == g.at) parts.0 in
    let name : f.name ≡ g.name = same_bytes f.name g.name fronts.0 in
    let place : f.at ≡ g.at = eqb-true f.at g.at fronts.1 in
    let element : f.element ≡ g.element = element_is f.element g.element parts.1 in
    λ i. record { name = name i; at = place i; element = element i }

field_self : (f : Field) → same_field f f ≡ true
field_self f = rw (bytes_eq_self f.name, eq-eqb f.at f.at refl) (element_self f.element)

fields_are : (fs gs : List Field) → same_fields fs gs ≡ true → fs ≡ gs
fields_are [] [] h = refl
fields_are [] (g ∷ gs) h = absurd cc
fields_are (f ∷ fs) [] h = absurd cc
fields_are (f ∷ fs) (g ∷ gs) h = let parts = both (same_field f g) (same_fields fs gs) h in ap₂ (λ a b. a ∷ b) (field_is f g parts.0) (fields_are fs gs parts.1)

fields_self : (fs : List Field) → same_fields fs fs ≡ true
fields_self [] = refl
fields_self (f ∷ fs) = rw (field_self f) (fields_self fs)

-- a structure converts to itself alone
pub structure_is : (fs : List Field) (n : ℕ) (t : ElementType) → converts (Structure fs n) t ≡ true → Structure fs n ≡ t
structure_is fs n (One e) h = absurd cc
structure_is fs n (Structure gs m) h = let parts = both (same_fields fs gs) (n == m) h in ap₂ Structure (fields_are fs gs parts.0) (eqb-true n m parts.1)

pub self_converts : (t : ElementType) → converts t t ≡ true
self_converts (One e) = refl
self_converts (Structure fs n) = rw (fields_self fs, eq-eqb n n refl) refl

pub structure_converts : (fs : List Field) (n : ℕ) (t : ElementType) (b : Bool) → (IsTrue b ↔ (Structure fs n ≡ t)) → b ≡ converts (Structure fs n) t
structure_converts fs n t b is = at b (converts (Structure fs n) t) is refl
  where
    at : (a c : Bool) → (IsTrue a ↔ (Structure fs n ≡ t)) → converts (Structure fs n) t ≡ c → a ≡ c
    at true true is h = refl
    at false false is h = refl
    at true false is h = absurd (let yes : converts (Structure fs n) t ≡ true = ap (converts (Structure fs n)) (sym (is.0 refl)) ∙ self_converts (Structure fs n) in let no : true ≡ false = sym yes ∙ h in cc)
    at false true is h = absurd (let no : false ≡ true = is.1 (structure_is fs n t h) in cc)

-- and only a structure becomes one
pub structure_from : (s : ElementType) (fs : List Field) (n : ℕ) → converts s (Structure fs n) ≡ true → s ≡ Structure fs n
structure_from (One e) fs n h = absurd cc
structure_from (Structure gs m) fs n h = structure_is gs m (Structure fs n) h

-- ---- the type of a new array

pub own_type : (t : ElementType) → refusing.when (converts t t) (Ufunc NotNumbers) (Ok t) ≡ Ok t
own_type t = rw (self_converts t) refl

-- a type that is given converts
given_converts : (T : Result ElementType Fault) (s t : ElementType) → refusing.◌>>=◌ T (λ t. refusing.when (converts s t) (Ufunc NotNumbers) (Ok t)) ≡ Ok t → converts s t ≡ true
given_converts (Ok x) s t h = at (converts s x) refl h
  where
    at : (b : Bool) → converts s x ≡ b → refusing.when b (Ufunc NotNumbers) (Ok x) ≡ Ok t → converts s t ≡ true
    at true is h = (let same : x ≡ t = cc in ap (converts s) (sym same)) ∙ is
    at false is h = absurd cc
given_converts (Err f) s t h = absurd cc

pub type_converts : (d : Option DType) (row : Bool) (g : Geo) (block : List ℕ) (t : ElementType) → type_for d (elements_over row g block) ≡ Ok t → converts g.element t ≡ true
type_converts d row g block t h = given_converts (type_or d (Ok g.element)) g.element t h

-- ---- arrays of one number

-- one number is within the limits
no_limit : (k : Kind) → limit_fault (size_of k) [] ≡ None
no_limit Boolean = refl
no_limit Int8 = refl
no_limit Int16 = refl
no_limit Int32 = refl
no_limit Int64 = refl
no_limit UInt8 = refl
no_limit UInt16 = refl
no_limit UInt32 = refl
no_limit UInt64 = refl

pub misfit_over : {A B : Type 0} (m : Option ℤ) (f : Fault) (b : A) → unless_misfit {A = A} m (Ok b) ≡ Err f → (r : Result B Fault) → unless_misfit m r ≡ Err f
misfit_over None f b h r = absurd cc
misfit_over (Some z) f b h r = let same : Ufunc (IntOutOfRange z) ≡ f = cc in ap Err same

pub misfit_within : {A B : Type 0} (m : Option ℤ) (a b : A) → unless_misfit {A = A} m (Ok b) ≡ Ok a → (r : Result B Fault) → unless_misfit m r ≡ r
misfit_within None a b h r = refl
misfit_within (Some z) a b h r = absurd cc

abbrev pub number_made : Element → (shape : List ℕ) → Number → Result Made Fault
number_made e shape n = unless_misfit (misfit e.kind n) (Ok (uniform (One e) shape (Num (wrap e.kind (number_of n)))))

pub full_number : (d : Option DType) (shape : List ℕ) (n : Number) (e : Element) → type_for d (Plain n) ≡ Ok (One e) → limit_fault (size_of e.kind) shape ≡ None
    → full_array d shape (Plain n) ≡ number_made e shape n
full_number d shape n e typed fine =
    ap (λ T. refusing.◌>>=◌ T (λ t. in_limits t shape (unless_misfit (operand_misfit t (Plain n)) (Ok (uniform t shape (converted_at t (Plain n) [])))))) typed
    ∙ ap (λ L. unless_fault L (number_made e shape n)) fine

-- an array of one number over the limits
pub full_over : (d : Option DType) (shape : List ℕ) (n : Number) (e : Element) (f : Fault) → type_for d (Plain n) ≡ Ok (One e) → unless_fault (limit_fault (size_of e.kind) shape) (Ok (tt {0})) ≡ Err f
    → full_array d shape (Plain n) ≡ Err f
full_over d shape n e f typed limits =
    ap (λ T. refusing.◌>>=◌ T (λ t. in_limits t shape (unless_misfit (operand_misfit t (Plain n)) (Ok (uniform t shape (converted_at t (Plain n) [])))))) typed
    ∙ over (limit_fault (size_of e.kind) shape) (number_made e shape n) f limits

-- an array of a number is one without axes
pub lone_number : (d : Option DType) (n : Number) → new_array d (Plain n) ≡ full_array d [] (Plain n)
lone_number d n = at (type_or d (array_type (Plain n)))
  where
    at : (T : Result ElementType Fault)
        → refusing.◌>>=◌ (refusing.◌>>=◌ T (λ t. refusing.when (is_number_type t) (Ufunc NotNumbers) (Ok t))) (λ t. unless_misfit (operand_misfit t (Plain n)) (Ok (converted_array t (Plain n))))
        ≡ refusing.◌>>=◌ (refusing.◌>>=◌ T (λ t. refusing.when (is_number_type t) (Ufunc NotNumbers) (Ok t))) (λ t. in_limits t [] (unless_misfit (operand_misfit t (Plain n)) (Ok (uniform t [] (converted_at t (Plain n) [])))))
    at (Ok (One e)) = sym (ap (λ L. unless_fault L (number_made e [] n)) (no_limit e.kind))
    at (Ok (Structure fs m)) = refl
    at (Err f) = refl

-- ---- arrays of elements

made_many : (k : Kind) (shape : List ℕ) (f : List ℕ → ℤ) → (length shape == 0) ≡ false → made_of k shape f ≡ AnArray (One (little k)) shape (λ t. Num (f t))
made_many k [] f h = absurd cc
made_many k (n ∷ shape) f h = refl

-- numbers with axes, of a kind that is named
pub convert_many : (k : Kind) (row : Bool) (g : Geo) (block : List ℕ) (e : Element) → g.element ≡ One e → (length g.shape == 0) ≡ false
    → convert k (elements_over row g block) ≡ Ok (converted_array (One (little k)) (elements_over row g block))
convert_many k row g block e one some =
    ap (λ t. refusing.when (converts t (One (little k))) (Ufunc NotNumbers) (Ok (made_of k g.shape (λ i. wrap k (number_in (content_of (elements_over row g block) i)))))) one
    ∙ ap Ok (made_many k g.shape (λ i. wrap k (number_in (content_of (elements_over row g block) i))) some)

module _ (row : Bool) (g : Geo) (block : List ℕ) (sound : contents_over g block ≡ map (content_at g.element block) g.places) where
  in_place : List ℕ → Content
  in_place = content_in_order g.shape (map (content_at g.element block) g.places)

  -- the bytes of numbers in another type
  pub numbers_become : (d e : Element) (made : Result (List ℕ) AllocError) → g.element ≡ One d
      → IfOk made (λ b. b ≡ array_bytes (One e) g.shape (λ i. converted_content (One e) (content_in_order g.shape (map (content_at (One d) block) g.places) i)))
      → IfOk made (λ b. b ≡ array_bytes (One e) g.shape (converted_at (One e) (elements_over row g block)))
  numbers_become d e made one h =
      subst (λ cs. IfOk made (λ b. b ≡ array_bytes (One e) g.shape (λ i. converted_content (One e) (content_in_order g.shape cs i))))
      (ap (λ t. map (content_at t block) g.places) (sym one) ∙ sym sound) h

  -- and of structures in their own type
  pub structures_stay : (fs : List Field) (n : ℕ) (made : Result (List ℕ) AllocError) → g.element ≡ Structure fs n
      → IfOk made (λ b. b ≡ array_bytes g.element g.shape (content_in_order g.shape (map (content_at g.element block) g.places)))
      → IfOk made (λ b. b ≡ array_bytes (Structure fs n) g.shape (converted_at (Structure fs n) (elements_over row g block)))
  structures_stay fs n made is h =
      subst (λ t. IfOk made (λ b. b ≡ array_bytes t g.shape (content_in_order g.shape (contents_over g block)))) is
      (subst (λ cs. IfOk made (λ b. b ≡ array_bytes g.element g.shape (content_in_order g.shape cs))) (sym sound) h)

-- one element has as many bytes as its type says
pub one_size : (t : ElementType) (f : List ℕ → Content) → length (array_bytes t [] f) ≡ item_size t
one_size t f =
    ap length (append-nil (element_bytes t (f []))) ∙ length-put (writes t 0 (f [])) (replicate (item_size t) 0) ∙ length-replicate (item_size t) 0
