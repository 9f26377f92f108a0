-- What is found at a key, where two of them are not apart, is the same.
use Rattle.std.proofs.Common.{◌≡◌, ℕ, ℤ, pos, negsuc, Bool, true, false, cond, eqb, eqb-true, eq-eqb, List, [], ◌∷◌, get_or, Option, Some, None, refl, sym, ap, ap₂, ◌∙◌, inl, inr}
use Rattle.std.proofs.lemmas.Bool.{cases_Bool}
use Rattle.nd_model.specs.Arrays.Element.{Kind, Boolean, Int8, Int16, Int32, Int64, UInt8, UInt16, UInt32, UInt64, Element}
use Rattle.nd_model.specs.Arrays.View.{Field, ElementType, One, Structure, Geo}
use Rattle.nd_model.specs.Arrays.Value.{Base, Value, Int, Truth, Scalar, Array, Row}
use Rattle.nd_model.specs.Cells.Session.{Session}
use Rattle.nd_model.specs.Cells.Running.{Key, Source, Npy, Buffer, Rule, Python, Atomic, World}
use Rattle.nd_model.specs.Cells.Footprint.{Found, Bound, Given, Number, Ruled, Agree}
use Rattle.nd_model.proofs.Lists.{not_both}

-- two that are not apart are the same
abbrev Stable : Type 0 → Type 0
Stable A = (x y : A) → ¬ ¬ (x ≡ y) → x ≡ y

-- what can be got back from its code is stable where the codes are
by_code : {A B : Type 0} (code : A → B) (back : B → A) → ((x : A) → back (code x) ≡ x) → Stable B → Stable A
by_code code back same stable x y h = sym (same x) ∙ ap back (stable (code x) (code y) (λ n. h (λ e. n (ap code e)))) ∙ same y

numbers : Stable ℕ
numbers x y h = elim (cases_Bool (eqb x y)) [
  | inl is ↦ eqb-true x y is
  | inr other ↦ absurd (h (λ e. not_both (eqb x y) other (eq-eqb x y e)))
]

bools : Stable Bool
bools true true h = refl
bools false false h = refl
bools true false h = absurd (h (λ e. cc))
bools false true h = absurd (h (λ e. cc))

pairs : {A B : Type 0} → Stable A → Stable B → Stable (A × B)
pairs {A} {B} sa sb x y h =
    ap₂ {A = A} {B = B} {C = A × B} (λ a b. (a, b)) (sa x.0 y.0 (λ n. h (λ e. n (ap (λ (p : A × B). p.0) e)))) (sb x.1 y.1 (λ n. h (λ e. n (ap (λ (p : A × B). p.1) e))))

head : {A : Type 0} (x y : A) (xs ys : List A) → ◌≡◌ {A = List A} (x ∷ xs) (y ∷ ys) → x ≡ y
head x y xs ys e = cc

tail : {A : Type 0} (x y : A) (xs ys : List A) → ◌≡◌ {A = List A} (x ∷ xs) (y ∷ ys) → xs ≡ ys
tail x y xs ys e = cc

lists : {A : Type 0} → Stable A → Stable (List A)
lists s [] [] h = refl
lists s [] (y ∷ ys) h = absurd (h (λ e. cc))
lists s (x ∷ xs) [] h = absurd (h (λ e. cc))
lists {A} s (x ∷ xs) (y ∷ ys) h = ap₂ (λ (z : A) zs. z ∷ zs) (s x y (λ n. h (λ e. n (head x y xs ys e)))) (lists s xs ys (λ n. h (λ e. n (tail x y xs ys e))))

inside : {A : Type 0} (x y : A) → Some x ≡ Some y → x ≡ y
inside x y e = cc

options : {A : Type 0} → Stable A → Stable (Option A)
options s None None h = refl
options s None (Some y) h = absurd (h (λ e. cc))
options s (Some x) None h = absurd (h (λ e. cc))
options s (Some x) (Some y) h = ap Some (s x y (λ n. h (λ e. n (inside x y e))))

-- ---- values

integer_code : ℤ → Bool × ℕ
integer_code (pos n) = (true, n)
integer_code (negsuc n) = (false, n)

integers : Stable ℤ
unfolding integer_code
integers = by_code integer_code (λ c. cond c.0 (pos c.1) (negsuc c.1)) same (pairs bools numbers)
  where
    same : (z : ℤ) → cond (integer_code z).0 (pos (integer_code z).1) (negsuc (integer_code z).1) ≡ z
    same (pos n) = refl
    same (negsuc n) = refl

kind_code : Kind → ℕ
kind_code Boolean = 0
kind_code Int8 = 1
kind_code Int16 = 2
kind_code Int32 = 3
kind_code Int64 = 4
kind_code UInt8 = 5
kind_code UInt16 = 6
kind_code UInt32 = 7
kind_code UInt64 = 8

all_kinds : List Kind
all_kinds = Boolean ∷ Int8 ∷ Int16 ∷ Int32 ∷ Int64 ∷ UInt8 ∷ UInt16 ∷ UInt32 ∷ UInt64 ∷ []

kinds : Stable Kind
unfolding kind_code all_kinds
kinds = by_code kind_code (λ n. get_or all_kinds n Boolean) same numbers
  where
    same : (k : Kind) → get_or all_kinds (kind_code k) Boolean ≡ k
    same Boolean = refl
    same Int8 = refl
    same Int16 = refl
    same Int32 = refl
    same Int64 = refl
    same UInt8 = refl
    same UInt16 = refl
    same UInt32 = refl
    same UInt64 = refl

elements : Stable Element
elements = by_code (λ (e : Element). (e.kind, e.big)) (λ c. record { kind = c.0; big = c.1 }) (λ e. refl) (pairs kinds bools)

fields : Stable Field
fields = by_code (λ (f : Field). (f.name, (f.at, f.element))) (λ c. record { name = c.0; at = c.1.0; element = c.1.1 }) (λ f. refl) (pairs (lists numbers) (pairs numbers elements))

some_element : Element
some_element = record { kind = Boolean; big = false }

type_code : ElementType → Bool × (Element × (List Field × ℕ))
type_code (One e) = (true, (e, ([], 0)))
type_code (Structure fs n) = (false, (some_element, (fs, n)))

types : Stable ElementType
unfolding type_code
types = by_code type_code (λ c. cond c.0 (One c.1.0) (Structure c.1.1.0 c.1.1.1)) same (pairs bools (pairs elements (pairs (lists fields) numbers)))
  where
    same : (t : ElementType) → cond (type_code t).0 (One (type_code t).1.0) (Structure (type_code t).1.1.0 (type_code t).1.1.1) ≡ t
    same (One e) = refl
    same (Structure fs n) = refl

geos : Stable Geo
geos = by_code (λ (g : Geo). (g.element, (g.shape, (g.writable, g.places))))
    (λ c. record { element = c.0; shape = c.1.0; writable = c.1.1.0; places = c.1.1.1 }) (λ g. refl) (pairs types (pairs (lists numbers) (pairs bools (lists numbers))))

bases : Stable Base
bases = by_code (λ (b : Base). (b.label, b.number)) (λ c. record { label = c.0; number = c.1 }) (λ b. refl) (pairs numbers numbers)

-- a constructor by its number, and what it may have
abbrev ValueCode : Type 0
ValueCode = ℕ × (ℤ × (Bool × (Kind × (Base × Geo))))

coded : ℕ → ℤ → Bool → Kind → Base → Geo → ValueCode
coded n z t k b g = (n, (z, (t, (k, (b, g)))))

some_base : Base
some_base = record { label = 0; number = 0 }

some_geo : Geo
some_geo = record { element = One some_element; shape = []; writable = false; places = [] }

value_code : Value → ValueCode
value_code (Int z) = coded 0 z true Boolean some_base some_geo
value_code (Truth t) = coded 1 (pos 0) t Boolean some_base some_geo
value_code (Scalar k z) = coded 2 z true k some_base some_geo
value_code (Array b g) = coded 3 (pos 0) true Boolean b g
value_code (Row b g) = coded 4 (pos 0) true Boolean b g

value_back : ValueCode → Value
value_back c = get_or (Int c.1.0 ∷ Truth c.1.1.0 ∷ Scalar c.1.1.1.0 c.1.0 ∷ Array c.1.1.1.1.0 c.1.1.1.1.1 ∷ Row c.1.1.1.1.0 c.1.1.1.1.1 ∷ []) c.0 (Int c.1.0)

values : Stable Value
unfolding value_code value_back coded
values = by_code value_code value_back same (pairs numbers (pairs integers (pairs bools (pairs kinds (pairs bases geos)))))
  where
    same : (v : Value) → value_back (value_code v) ≡ v
    same (Int z) = refl
    same (Truth t) = refl
    same (Scalar k z) = refl
    same (Array b g) = refl
    same (Row b g) = refl

-- ---- inputs, and the rule

abbrev SourceCode : Type 0
SourceCode = Bool × (List ℕ × (List ℕ × (ℕ × (List ℕ × (List ℤ × ℕ)))))

source_code : Source → SourceCode
source_code (Npy bytes) = (true, (bytes, ([], (0, ([], ([], 0))))))
source_code (Buffer format itemsize shape strides offset bytes) = (false, (bytes, (format, (itemsize, (shape, (strides, offset))))))

source_back : SourceCode → Source
source_back c = cond c.0 (Npy c.1.0) (Buffer c.1.1.0 c.1.1.1.0 c.1.1.1.1.0 c.1.1.1.1.1.0 c.1.1.1.1.1.1 c.1.0)

sources : Stable Source
unfolding source_code source_back
sources = by_code source_code source_back same (pairs bools (pairs (lists numbers) (pairs (lists numbers) (pairs numbers (pairs (lists numbers) (pairs (lists integers) numbers))))))
  where
    same : (s : Source) → source_back (source_code s) ≡ s
    same (Npy bytes) = refl
    same (Buffer format itemsize shape strides offset bytes) = refl

is_python : Rule → Bool
is_python Python = true
is_python Atomic = false

rules : Stable Rule
unfolding is_python
rules = by_code is_python (λ b. cond b Python Atomic) same bools
  where
    same : (r : Rule) → cond (is_python r) Python Atomic ≡ r
    same Python = refl
    same Atomic = refl

-- ---- what is found

abbrev FoundCode : Type 0
FoundCode = ℕ × (Option Value × (Option Source × (ℕ × Rule)))

found_code : Found → FoundCode
found_code (Bound v) = (0, (v, (None, (0, Python))))
found_code (Given s) = (1, (None, (s, (0, Python))))
found_code (Number n) = (2, (None, (None, (n, Python))))
found_code (Ruled r) = (3, (None, (None, (0, r))))

found_back : FoundCode → Found
found_back c = get_or (Bound c.1.0 ∷ Given c.1.1.0 ∷ Number c.1.1.1.0 ∷ Ruled c.1.1.1.1 ∷ []) c.0 (Number 0)

founds : Stable Found
unfolding found_code found_back
founds = by_code found_code found_back same (pairs numbers (pairs (options values) (pairs (options sources) (pairs numbers rules))))
  where
    same : (f : Found) → found_back (found_code f) ≡ f
    same (Bound v) = refl
    same (Given s) = refl
    same (Number n) = refl
    same (Ruled r) = refl

-- sessions that do not differ at the keys agree on them
pub agrees : (keys : Key → Bool) (s : Session) (i : World) (t : Session) (j : World) → ¬ ¬ Agree keys s i t j → Agree keys s i t j
agrees keys s i t j h k read = founds _ _ (λ n. h (λ agree. n (agree k read)))
