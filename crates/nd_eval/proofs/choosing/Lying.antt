-- What may be assigned to: it lies where the value lies that it was chosen of, and what is written to it.
use Rattle.std.proofs.Common.{◌≡◌, ℕ, ℤ, ◌+◌, ◌≤◌, Bool, true, false, Option, Some, None, List, [], ◌∷◌, length, get_or, Result, Ok, Err, refl, sym, ap, ◌∙◌, arith}
use Rattle.std.specs.Prelude.{not, ◌||◌, nat_le}
use Rattle.std.specs.List.{All}
use Rattle.std.proofs.lemmas.List.Elements.{All-cons, All-nil}
use Rattle.nd_model.specs.Arrays.Tuple.{elements_of}
use Rattle.nd_model.specs.Arrays.View.{Geo, item_size}
use Rattle.nd_model.specs.Arrays.Strides.{IsInLimits}
use Rattle.nd_model.specs.Cells.Fault.{Fault, Ufunc, NotNumbers, ReadOnly, ShapeMismatch}
use Rattle.nd_model.specs.Making.Operand as model
use Rattle.nd_model.specs.Making.Operand.{Operand, Plain, Elements, shape_of}
use Rattle.nd_model.specs.Cells.Refusing as refusing
use Rattle.nd_model.specs.Cells.Refusing.{when}
use Rattle.nd_model.specs.Indexing.Viewing.{Viewing, choose_of_first}
use Rattle.nd_model.specs.Making.Writing.{may_be_written, target_of, assign_to, is_full_mask, items_in, assignment_writes}
use Rattle.nd_model.specs.Cells.Sound.{LiesIn}
use Rattle.nd_model.proofs.Choosing.{ChoosesWithin, chooses_within}
use Rattle.nd_eval.specs.declared.choosing.indexes.Chosen.{Chosen}
use Rattle.nd_eval.specs.declared.choosing.indexes.Chosen.TheVariants.{Element, View, Copy}
use Rattle.nd_eval.specs.Choosing.Indexing.{CopyLies, IsOne, chosen_of, view_in}
use Rattle.nd_eval.specs.Choosing.Targets.{Lies, geo_in, may_take, target_by, writes_to}
use Rattle.nd_eval.specs.declared.choosing.targets.Target.{Target}
use Rattle.nd_model.specs.Making.Assigning.{fits_into}
use Rattle.nd_model.specs.Making.Creation.{operand_converts, operand_misfit, unless_misfit}
use Rattle.nd_operation.specs.declared.refusals.stop.Stop.{Stop}
use Rattle.nd_operation.specs.declared.refusals.stop.Stop.TheVariants.{Memory, Refused}
use Rattle.nd_operation.specs.Refusals.Ends.{Makes}

-- a list of one place
one_place : (ps : List ℕ) (size len : ℕ) → length ps ≡ 1 → get_or ps 0 0 + size ≤ len → All (λ p. p + size ≤ len) ps
one_place [] size len one h = absurd (omega (arith, one))
one_place (p ∷ []) size len one h = All-cons (λ p. p + size ≤ len) p [] h (All-nil (λ p. p + size ≤ len))
one_place (p ∷ q ∷ ps) size len one h = absurd (omega (arith, one))

chosen_lies : (len : ℕ) (writable : Bool) (ch : Chosen) → IsOne writable ch → length (view_in ch).places ≡ elements_of (view_in ch).shape → IsInLimits (item_size (view_in ch).element) (view_in ch).shape
    → CopyLies len ch → ChoosesWithin len (chosen_of ch) → LiesIn len (view_in ch)
chosen_lies len writable (Element v) one count limits copy within = record {
  count = count;
  limits = limits;
  inside = one_place v.places (item_size v.element) len (count ∙ ap elements_of one.0) within;
}
chosen_lies len writable (View v) one count limits copy within = record { count = count; limits = limits; inside = within.1 }
chosen_lies len writable (Copy s) one count limits copy within = copy

pub target_lies : (len : ℕ) (w : Viewing) (o : Operand) (os : List Operand) (writable : Bool) (ch : Chosen) → choose_of_first w o os ≡ Ok (chosen_of ch) → IsOne writable ch
    → length (view_in ch).places ≡ elements_of (view_in ch).shape → IsInLimits (item_size (view_in ch).element) (view_in ch).shape → Lies len o → (Lies len o → CopyLies len ch) → LiesIn len (view_in ch)
target_lies len w (Plain n) os writable ch chosen one count limits lies copy = absurd lies
target_lies len w (Elements row g cs) os writable ch chosen one count limits lies copy =
    chosen_lies len writable ch one count limits (copy lies) (chooses_within w row g cs os (chosen_of ch) len lies chosen)

-- ---- what is written

single : (ps : List ℕ) → length ps ≡ 1 → get_or ps 0 0 ∷ [] ≡ ps
single [] one = absurd (omega (arith, one))
single (p ∷ []) one = refl
single (p ∷ q ∷ ps) one = absurd (omega (arith, one))

target_is : (writable : Bool) (ch : Chosen) → IsOne writable ch → length (view_in ch).places ≡ elements_of (view_in ch).shape → target_of writable (chosen_of ch) ≡ Ok (view_in ch)
target_is writable (Element v) one count = λ i. Ok (record { element = v.element; shape = sym one.0 i; writable = sym one.1 i; places = single v.places (count ∙ ap elements_of one.0) i })
target_is writable (View v) one count = refl
target_is writable (Copy s) one count = refl

pub target_found : (w : Viewing) (v t : Operand) (os : List Operand) (ch : Chosen) → choose_of_first w t os ≡ Ok (chosen_of ch) → IsOne (may_be_written t) ch
    → length (view_in ch).places ≡ elements_of (view_in ch).shape → target_by w v t os ≡ may_take (is_full_mask (length (shape_of t)) (items_in w os)) (view_in ch) v
target_found w v t os ch chosen one count =
    let full : Bool = is_full_mask (length (shape_of t)) (items_in w os) in
    ap (λ r. refusing.◌>>=◌ r (λ c. refusing.◌>>=◌ (target_of (may_be_written t) c) (λ g. may_take full g v))) chosen
    ∙ ap (λ r. refusing.◌>>=◌ r (λ g. may_take full g v)) (target_is (may_be_written t) ch one count)

abbrev Bytes : Type 0
Bytes = List (ℕ × ℕ)

-- what is assigned is written to the elements that take it
in_order : (a b : Bool) (o : Option ℤ) (c d : Bool) (g : Geo) (written : Geo → Bytes)
    → refusing.◌>>=◌ (when a (Ufunc ReadOnly) (when b (Ufunc NotNumbers) (unless_misfit o (when c (Ufunc ShapeMismatch) (Ok (written g)))))) (λ ws. when d (Ufunc ShapeMismatch) (Ok ws))
    ≡ refusing.◌>>=◌ (when a (Ufunc ReadOnly) (when b (Ufunc NotNumbers) (unless_misfit o (when c (Ufunc ShapeMismatch) (when d (Ufunc ShapeMismatch) (Ok g)))))) (λ h. Ok (written h))
in_order false b o c d g written = refl
in_order true false o c d g written = refl
in_order true true (Some z) c d g written = refl
in_order true true None false d g written = refl
in_order true true None true false g written = refl
in_order true true None true true g written = refl

module _ (full : Bool) (v : Operand) where
  -- once the elements are chosen
  abbrev assigned : Geo → Result Bytes Fault
  assigned g = refusing.◌>>=◌ (assign_to g v) (λ ws. when (not full || nat_le (length (shape_of v)) 1) (Ufunc ShapeMismatch) (Ok ws))

  of_target : (m : Result Geo Fault) → refusing.◌>>=◌ m assigned ≡ refusing.◌>>=◌ (refusing.◌>>=◌ m (λ g. may_take full g v)) (λ g. Ok (writes_to g v))
  of_target (Err f) = refl
  of_target (Ok g) =
      in_order g.writable (operand_converts v g.element) (operand_misfit g.element v) (fits_into (shape_of v) g.shape) (not full || nat_le (length (shape_of v)) 1) g (λ h. writes_to h v)

  of_choice : (writable : Bool) (m : Result model.Chosen Fault)
      → refusing.◌>>=◌ m (λ c. refusing.◌>>=◌ (target_of writable c) assigned)
      ≡ refusing.◌>>=◌ (refusing.◌>>=◌ m (λ c. refusing.◌>>=◌ (target_of writable c) (λ g. may_take full g v))) (λ g. Ok (writes_to g v))
  of_choice writable (Err f) = refl
  of_choice writable (Ok c) = of_target (target_of writable c)

pub writes_are : (w : Viewing) (v t : Operand) (os : List Operand) → assignment_writes w v t os ≡ refusing.◌>>=◌ (target_by w v t os) (λ g. Ok (writes_to g v))
writes_are w v t os = of_choice (is_full_mask (length (shape_of t)) (items_in w os)) v (may_be_written t) (choose_of_first w t os)

-- what is written where the elements are found, or refused where they are
pub writes_made : (w : Viewing) (v t : Operand) (os : List Operand) (r : Result Target Stop) → Makes geo_in r (target_by w v t os) → Makes (λ x. writes_to (geo_in x) v) r (assignment_writes w v t os)
writes_made w v t os (Ok x) h = writes_are w v t os ∙ ap (λ m. refusing.◌>>=◌ m (λ g. Ok (writes_to g v))) h
writes_made w v t os (Err (Memory m)) h = tt
writes_made w v t os (Err (Refused f)) h = writes_are w v t os ∙ ap (λ m. refusing.◌>>=◌ m (λ g. Ok (writes_to g v))) h
