-- The arrays of folds, and the number of one without axes.
use Rattle.std.proofs.Common.{◌≡◌, ℕ, suc, ℤ, pos, ◌+ℤ◌, ◌||◌, take, Bool, true, false, not, List, length, Option, None, Some, Result, Ok, Err, refl, sym, ap, subst, ◌∙◌}
use Rattle.std.specs.Prelude.{slice_index}
use Rattle.nd_model.specs.Arrays.Element.{Kind, IsValue, wrap}
use Rattle.nd_model.specs.Grammar.Calls.{Reduction}
use Rattle.nd_model.specs.Making.Elementwise.{Numbers, element_sort, little, numbers_made, operand_sort}
use Rattle.nd_model.specs.Cells.Evaluation.{Refuses, ◌>>=◌, decide}
use Rattle.nd_model.specs.Cells.Fault.{Fault, ViewFault, Reduce}
use Rattle.nd_model.specs.Making.ReduceFault.{EmptyReduce, NoAxis}
use Rattle.nd_model.specs.Arrays.Broadcast.{in_limits, unless_fault}
use Rattle.nd_model.specs.Arrays.Content.{Content}
use Rattle.nd_model.specs.Making.Operand.{Scalar, Operand, Plain, Elements, Made, shape_of}
use Rattle.nd_model.specs.Making.Operators.{is_zero}
use Rattle.nd_model.specs.Cells.Operation.{give}
use Rattle.nd_model.specs.Making.Reductions.{accumulated_numbers, axis_in, fold_kind, folded, folds, kind_of_sort, lacks_numbers, lane, lane_length, numbers_of, prefix_folds, reduced_numbers, reduced_shape}
use Rattle.nd_model.specs.Cells.Refusing as refusing
use Rattle.nd_model.specs.Cells.Refusing.{when}
use Rattle.nd_model.specs.Arrays.Strides.{IsInLimits, limit_fault}
use Rattle.nd_model.specs.Arrays.Tuple.{elements_of, first_index}
use Rattle.nd_model.specs.Arrays.View.{Geo, One, item_size}
use Rattle.nd_model.proofs.Values.{wrap_in_range}
use Rattle.nd_reduce.specs.Axes.Made.{array_of, new_array}
use Rattle.nd_reduce.specs.Axes.Faults.{Makes}
use Rattle.nd_reduce.specs.declared.axes.fault.AxisFault.{AxisFault}
use Rattle.nd_reduce.specs.declared.axes.fault.AxisFault.TheVariants as fault
use Rattle.nd_types.specs.declared.num.Num.{Num}
use Rattle.nd_types.specs.declared.num.Num.TheVariants as num
use Rattle.nd_operation.specs.declared.operators.operand.New.TheVariants.{Number}
use Rattle.nd_operation.specs.Operators.Contents.{number_made}
use Rattle.nd_operation.specs.declared.refusals.stop.Stop.{Stop}
use Rattle.nd_operation.specs.Operators.Elementwise.{IsArrayOf}
use Rattle.nd_operation.specs.Operators.New.{MakesNew, given}
use Rattle.nd_eval.specs.Reducing.Stops.{fold_stop}

abbrev taken : {A : Type 0} → A → Result A Fault → A
taken a (Ok b) = b
taken a (Err f) = a

came : {A B : Type 0} (m : Result A Fault) (f : A → Result B Fault) (b : B) → refusing.◌>>=◌ m f ≡ Ok b → (a : A) × (m ≡ Ok a) × (f a ≡ Ok b)
came (Ok a) f b h = (a, refl, h)
came (Err e) f b h = absurd cc

limited : (l : Option ViewFault) (r : Result Numbers Fault) (n : Numbers) → unless_fault l r ≡ Ok n → r ≡ Ok n
limited None r n h = h
limited (Some f) r n h = absurd cc

allowed : {A : Type 0} (b : Bool) (f : Fault) (r : Result A Fault) (a : A) → when b f r ≡ Ok a → r ≡ Ok a
allowed true f r a h = h
allowed false f r a h = absurd cc

-- ---- the numbers are of their kind

abbrev AreValid : Numbers → Type 0
AreValid n = (t : List ℕ) → IsValue n.kind (n.number t)

folds_valid : (r : Reduction) (k : Kind) (a : Option ℕ) (keep : Bool) (o : Operand) (n : Numbers) → folds r k a keep o ≡ Ok n → AreValid n
folds_valid r k a keep o n h =
    let shape = reduced_shape a keep (shape_of o) in
    let found : Numbers = record { kind = k; shape = shape; number = λ t. wrap k (folded r (lane o a keep t)) } in
    let all = allowed (not (lacks_numbers r (lane_length o a) (elements_of shape))) (Reduce EmptyReduce) (in_limits (One (little k)) shape (Ok found)) n h in
    let is = limited (limit_fault (item_size (One (little k))) shape) (Ok found) n all in
    subst AreValid (ap (taken found) is) (λ t. wrap_in_range k (folded r (lane o a keep t)))

pub reduced_valid : (r : Reduction) (axis : Option ℤ) (keep : Bool) (o : Operand) (n : Numbers) → reduced_numbers r axis keep o ≡ Ok n → AreValid n
reduced_valid r axis keep o n h =
    let kind = came (kind_of_sort (operand_sort o)) (λ k. refusing.◌>>=◌ (axis_in (length (shape_of o)) axis) (λ a. folds r (fold_kind r k) a keep o)) n h in
    let at = came (axis_in (length (shape_of o)) axis) (λ a. folds r (fold_kind r kind.0) a keep o) n kind.2 in
    folds_valid r (fold_kind r kind.0) at.0 keep o n at.2

prefixes_valid : (r : Reduction) (k : Kind) (a : Option ℕ) (o : Operand) → AreValid (prefix_folds r k a o)
prefixes_valid r k None o = λ t. wrap_in_range k (folded r (take (suc (first_index t)) (numbers_of o)))
prefixes_valid r k (Some a) o = λ t. wrap_in_range k (folded r (take (suc (slice_index t a)) (lane o (Some a) true t)))

pub accumulated_valid : (r : Reduction) (axis : Option ℤ) (o : Operand) (n : Numbers) → accumulated_numbers r axis o ≡ Ok n → AreValid n
accumulated_valid r axis o n h =
    let kind = came (kind_of_sort (operand_sort o)) (λ k. refusing.◌>>=◌ (axis_in (length (shape_of o)) axis) (λ a. Ok (prefix_folds r (fold_kind r k) a o))) n h in
    let at = came (axis_in (length (shape_of o)) axis) (λ a. Ok (prefix_folds r (fold_kind r kind.0) a o)) n kind.2 in
    subst AreValid (ap (taken (prefix_folds r (fold_kind r kind.0) at.0 o)) at.2) (prefixes_valid r (fold_kind r kind.0) at.0 o)

-- ---- what changes no number

-- a number has no axes that are kept
pub keeps_nothing : (r : Reduction) (axis : Option ℤ) (keep : Bool) (k : Kind) (z : ℤ) → reduced_numbers r axis keep (Plain (Scalar k z)) ≡ reduced_numbers r axis false (Plain (Scalar k z))
keeps_nothing r axis keep k z = at axis
  where
    whole : (keep : Bool) → folds r (fold_kind r k) None keep (Plain (Scalar k z)) ≡ folds r (fold_kind r k) None false (Plain (Scalar k z))
    whole true = refl
    whole false = refl

    allow : (b : Bool) → refusing.◌>>=◌ (when b (Reduce NoAxis) (Ok None)) (λ a. folds r (fold_kind r k) a keep (Plain (Scalar k z))) ≡ refusing.◌>>=◌ (when b (Reduce NoAxis) (Ok None)) (λ a. folds r (fold_kind r k) a false (Plain (Scalar k z)))
    allow true = whole keep
    allow false = refl

    at : (axis : Option ℤ) → reduced_numbers r axis keep (Plain (Scalar k z)) ≡ reduced_numbers r axis false (Plain (Scalar k z))
    at None = whole keep
    at (Some i) = allow (is_zero i || is_zero (i +ℤ pos 1))

-- a row is accumulated as an array is
pub row_accumulated : (r : Reduction) (axis : Option ℤ) (row : Bool) (g : Geo) (cs : List Content) → accumulated_numbers r axis (Elements row g cs) ≡ accumulated_numbers r axis (Elements false g cs)
row_accumulated r axis true g cs = at (kind_of_sort (element_sort g.element)) (length g.shape) axis
  where
    at : (kind : Result Kind Fault) (axes : ℕ) (axis : Option ℤ) → refusing.◌>>=◌ kind (λ k. refusing.◌>>=◌ (axis_in axes axis) (λ a. Ok (prefix_folds r (fold_kind r k) a (Elements true g cs)))) ≡ refusing.◌>>=◌ kind (λ k. refusing.◌>>=◌ (axis_in axes axis) (λ a. Ok (prefix_folds r (fold_kind r k) a (Elements false g cs))))
    at (Ok k) axes axis = along (axis_in axes axis)
      where
        along : (a : Result (Option ℕ) Fault) → refusing.◌>>=◌ a (λ a. Ok (prefix_folds r (fold_kind r k) a (Elements true g cs))) ≡ refusing.◌>>=◌ a (λ a. Ok (prefix_folds r (fold_kind r k) a (Elements false g cs)))
        along (Ok None) = refl
        along (Ok (Some a)) = refl
        along (Err f) = refl
    at (Err f) axes axis = refl
row_accumulated r axis false g cs = refl

-- ---- what is made of them

-- the array that was made is that of the numbers
pub array_made : (r : Result Numbers Fault) → ((n : Numbers) → r ≡ Ok n → AreValid n) → (view : Geo) (block : List ℕ) → array_of r ≡ Ok (view, block)
    → IsInLimits (item_size view.element) view.shape → (n : Numbers) × (r ≡ Ok n) × IsArrayOf n view block
array_made r all view block h limits =
    let made = came r (λ n. Ok (new_array n)) (view, block) h in
    let same : new_array made.0 ≡ (view, block) = ap (taken (new_array made.0)) made.2 in
    let is : view ≡ (new_array made.0).0 = sym (ap (λ m. m.0) same) in (
      made.0,
      made.1,
      record {
        view = is;
        block = sym (ap (λ m. m.1) same);
        valid = all made.0 made.1;
        limits = subst (λ (g : Geo). IsInLimits (item_size g.element) g.shape) is limits;
      },
    )

not_made : (r : Result Numbers Fault) (f : Fault) → array_of r ≡ Err f → numbers_made r ≡ Err f
not_made (Ok n) f h = absurd cc
not_made (Err e) f h = let same : e ≡ f = cc in ap Err same

refuses : (m : Result Made Fault) (f : Fault) → m ≡ Err f → (decide m >>= give) ≡ Refuses f
refuses m f h = ap (λ m. decide m >>= give) h

-- why there is no number
pub not_reduced : {X : Type 0} (v : X → Made) (m : Result Made Fault) (f : AxisFault) (s : Stop) → s ≡ fold_stop f → Makes v (Err f) m → MakesNew (Err s) m
not_reduced v m f s is h = subst (λ s. MakesNew (Err s) m) (sym is) (at f h)
  where
    at : (f : AxisFault) → Makes v (Err f) m → MakesNew (Err (fold_stop f)) m
    at (fault.Memory m) h = tt
    at fault.NotNumbers h = refuses m _ h
    at fault.NoAxis h = refuses m _ h
    at fault.EmptyReduce h = refuses m _ h
    at (fault.View f) h = refuses m _ h

-- why there is no array
pub not_folded : (r : Result Numbers Fault) (f : AxisFault) (s : Stop) → s ≡ fold_stop f → Makes (λ (m : Geo × List ℕ). m) (Err f) (array_of r) → MakesNew (Err s) (numbers_made r)
not_folded r f s is h = subst (λ s. MakesNew (Err s) (numbers_made r)) (sym is) (at f h)
  where
    at : (f : AxisFault) → Makes (λ (m : Geo × List ℕ). m) (Err f) (array_of r) → MakesNew (Err (fold_stop f)) (numbers_made r)
    at (fault.Memory m) h = tt
    at fault.NotNumbers h = refuses (numbers_made r) _ (not_made r _ h)
    at fault.NoAxis h = refuses (numbers_made r) _ (not_made r _ h)
    at fault.EmptyReduce h = refuses (numbers_made r) _ (not_made r _ h)
    at (fault.View f) h = refuses (numbers_made r) _ (not_made r _ h)

-- a number is given as it is
pub number_gives : (n : Num) → give (number_made n) ≡ given (Number n)
number_gives (num.Int z) = refl
number_gives (num.Bool t) = refl
number_gives (num.Scalar k z) = refl
