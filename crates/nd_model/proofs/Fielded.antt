-- The view of a field lies where the view lies.
use Rattle.std.proofs.Common.{◌≡◌, ℕ, suc, ◌+◌, ◌*◌, ◌≤◌, ◌^◌, Bool, true, false, cond, ◌||◌, List, [], ◌∷◌, length, Option, Some, None, refl, subst, ◌∙◌, inl, inr, arith}
use Rattle.std.specs.Prelude.{nat_lt, nat_le, bytes_eq, if◌then◌else◌}
use Rattle.std.specs.List.{All, list_any}
use Rattle.std.specs.Option.{option_map}
use Rattle.std.proofs.Math.Nat.{mul-le-mul_left}
use Rattle.std.proofs.lemmas.Bool.{cases_Bool}
use Rattle.std.proofs.lemmas.Bool.Decides.{nat_tests}
use Rattle.std.proofs.lemmas.List.{length-map}
use Rattle.std.proofs.lemmas.List.Elements.{All-map, All-weaker}
use Rattle.nd_model.specs.Arrays.Element.{size_of}
use Rattle.nd_model.specs.Cells.Fault.{TooManyAxes, TooManyElements}
use Rattle.nd_model.specs.Arrays.Strides.{is_too_large, IsInLimits}
use Rattle.nd_model.specs.Arrays.Tuple.{elements_of}
use Rattle.nd_model.specs.Arrays.View.{Field, ElementType, One, Structure, Geo, item_size}
use Rattle.nd_model.specs.Indexing.Selecting.{field_in, if_inside, field_of, view_of_field, field_view}
use Rattle.nd_model.specs.Cells.Sound.{LiesIn}

-- the field that is found is one of them
pub found_is : (P : Field → Type 0) (name : List ℕ) (fs : List Field) (f : Field) → field_in name fs ≡ Some f → All P fs → P f
found_is P name [] f e all = absurd (cc)
found_is P name (h ∷ fs) f e all = elim (bytes_eq name h.name) as (λ b. cond b (Some h) (field_in name fs) ≡ Some f → P f) [
  | true ↦ λ e. let same : h ≡ f = cc in subst P same (all 0 h (omega arith))
  | false ↦ λ e. found_is P name fs f e (λ k d lt. all (suc k) d (omega arith))
] e

-- smaller elements of the same lengths are in the limits too
none_of : (long large : Bool) → (if long then Some TooManyAxes else (if large then Some TooManyElements else None)) ≡ None → (long ≡ false) × (large ≡ false)
none_of true large e = cc
none_of false true e = cc
none_of false false e = (refl, refl)

either : (a b : Bool) → (a || b) ≡ false → (a ≡ false) × (b ≡ false)
either true b e = cc
either false b e = (refl, e)

pub within_limits : (size part : ℕ) (shape : List ℕ) → part ≤ size → IsInLimits size shape → IsInLimits part shape
within_limits size part shape le limits =
    let tests = none_of (nat_lt 32 (length shape)) (is_too_large size shape) limits in
    let large = either (list_any (nat_lt (2 ^ 32)) shape) (nat_lt (2 ^ 24) (elements_of shape) || nat_lt (2 ^ 27) (elements_of shape * size)) tests.1 in
    let sums = either (nat_lt (2 ^ 24) (elements_of shape)) (nat_lt (2 ^ 27) (elements_of shape * size)) large.1 in
    let bytes : nat_lt (2 ^ 27) (elements_of shape * part) ≡ false = below (2 ^ 27) (elements_of shape * part) (elements_of shape * size) (mul-le-mul_left (elements_of shape) le) sums.1 in
    rw (tests.0, large.0, sums.0, bytes) refl
  where
    below : (m n k : ℕ) → n ≤ k → nat_lt m k ≡ false → nat_lt m n ≡ false
    below m n k le e = grind (arith, nat_tests)

-- and it ends inside its structure
inside_is : (size : ℕ) (o : Option Field) (f : Field) → if_inside size o ≡ Some f → f.at + size_of f.element.kind ≤ size
inside_is size None f e = absurd (cc)
inside_is size (Some h) f e = elim (cases_Bool (nat_le (h.at + size_of h.element.kind) size)) [
  | inl is ↦ let same : h ≡ f = some_same h f (rw is at e) in subst (λ (f : Field). f.at + size_of f.element.kind ≤ size) same (grind (arith, nat_tests))
  | inr other ↦ let none : ◌≡◌ {A = Option Field} None (Some f) = rw other at e in absurd (cc)
]
  where
    some_same : (x y : Field) → ◌≡◌ {A = Option Field} (Some x) (Some y) → x ≡ y
    some_same x y e = cc

found_inside : (name : List ℕ) (t : ElementType) (f : Field) → field_of name t ≡ Some f → f.at + size_of f.element.kind ≤ item_size t
found_inside name (One e) f found = absurd (cc)
found_inside name (Structure fields size) f found = inside_is size (field_in name fields) f found

view_lies : (g : Geo) (f : Field) (len : ℕ) → f.at + size_of f.element.kind ≤ item_size g.element → LiesIn len g → LiesIn len (view_of_field g f)
view_lies g f len inside lies = record {
  count = length-map g.places (λ p. p + f.at) ∙ lies.count;
  limits = within_limits (item_size g.element) (size_of f.element.kind) g.shape (omega (arith, inside)) lies.limits;
  inside = All-map (λ p. p + size_of f.element.kind ≤ len) (λ p. p + f.at) g.places
      (All-weaker (λ p. p + item_size g.element ≤ len) (λ p. p + f.at + size_of f.element.kind ≤ len) (λ p le. omega (arith, inside, le)) g.places lies.inside);
}

pub found_lies : (name : List ℕ) (g : Geo) (f : Field) (len : ℕ) → LiesIn len g → field_of name g.element ≡ Some f → LiesIn len (view_of_field g f)
found_lies name g f len lies found = view_lies g f len (found_inside name g.element f found) lies

pub field_lies : (name : List ℕ) (g h : Geo) (len : ℕ) → LiesIn len g → field_view name g ≡ Some h → LiesIn len h
field_lies name g h len lies e = by (field_of name g.element) (λ f found. found_lies name g f len lies found) e
  where
    by : (o : Option Field) → ((f : Field) → o ≡ Some f → LiesIn len (view_of_field g f)) → option_map (view_of_field g) o ≡ Some h → LiesIn len h
    by None inside e = absurd (cc)
    by (Some f) inside e = let same : view_of_field g f ≡ h = cc in subst (LiesIn len) same (inside f refl)
