-- The arrays that functions of NumPy make, element by element, and the number of one without axes.
use Rattle.std.proofs.Common.{◌≡◌, ℕ, suc, Bool, true, false, not, ℤ, List, [], ◌∷◌, map, take, length, Option, None, Some, Result, Ok, Err, IsErrAnd, append-nil, refl, sym, ap, ap₂, subst, ◌∙◌, arith}
use Rattle.std.specs.Prelude.{◌==◌}
use Rattle.std.specs.List.{flat_map}
use Rattle.std.proofs.lemmas.Bool.Decides.{nat_tests}
use Rattle.std.proofs.lemmas.List.{take_all}
use Rattle.std.proofs.lemmas.Result.{err_from_is_err_and}
use Rattle.nd_model.specs.Making.Augmenting.{in_place_kind, operand_of_made}
use Rattle.nd_model.specs.Arrays.Broadcast.{broadcast, in_limits, unless_fault}
use Rattle.nd_model.specs.Arrays.Content.{Num, array_bytes, element_bytes, number_at, number_in}
use Rattle.nd_model.specs.Cells.Evaluation.{Gives, ◌>>=◌, decide}
use Rattle.nd_model.specs.Arrays.Value as value
use Rattle.nd_model.specs.Arrays.Element.{Element, Kind, Boolean, Int8, Int16, Int32, Int64, UInt8, UInt16, UInt32, UInt64, IsValue, bytes_of, size_of, value_of, wrap}
use Rattle.nd_model.specs.Making.Elementwise.{Numbers, little, binary_kind, binary_number, binary_numbers, common_shape, has_power_below, numbers_made, operand_sort, single_kind, single_number, single_numbers}
use Rattle.nd_model.specs.Cells.Fault.{Fault, ViewFault, Ufunc, NegativePower}
use Rattle.nd_model.specs.Making.Operand.{Operand, Plain, Elements, Scalar, made_of, shape_of, content_of, truth_number}
use Rattle.nd_model.specs.Cells.Operation.{give, fresh_array}
use Rattle.nd_model.specs.Making.Operators.{BinaryUfunc, Single, Of, Absolute, is_zero}
use Rattle.nd_model.specs.Cells.Refusing.{when}
use Rattle.nd_model.specs.Cells.Refusing as refusing
use Rattle.nd_model.specs.Arrays.Strides.{limit_fault}
use Rattle.nd_model.specs.Grammar.Syntax.{Negative, Invert, BinaryOp}
use Rattle.nd_model.specs.Cells.Sound.{LiesIn}
use Rattle.nd_model.specs.Arrays.Tuple.{indices}
use Rattle.nd_model.specs.Arrays.View.{ElementType, Geo, One, Structure, contiguous}
use Rattle.nd_model.proofs.Contents.{number_bytes, numbers_bytes}
use Rattle.nd_model.proofs.Values.{length-bytes_of, round_trip, wrap_in_range}
use Rattle.nd_ufunc.proofs.elementwise.Alone.{contents_alone, count_alone, held_alone, length-alone}
use Rattle.nd_ufunc.specs.Elementwise.Made.{array_of, new_array}
use Rattle.nd_ufunc.specs.Elementwise.Faults.{Makes}
use Rattle.nd_ufunc.specs.declared.elementwise.fault.MapFault.{MapFault}
use Rattle.nd_ufunc.specs.declared.elementwise.fault.MapFault.TheVariants.{Memory}
use Rattle.nd_ufunc.specs.declared.elementwise.fault.MapFault.TheVariants as map_fault
use Rattle.nd_operation.specs.declared.refusals.fault.StmtFault.TheVariants as stmt_fault
use Rattle.nd_operation.specs.declared.operators.operand.New.{New}
use Rattle.nd_operation.specs.declared.operators.operand.New.TheVariants.{Array}
use Rattle.nd_operation.specs.declared.refusals.stop.Stop.{Stop}
use Rattle.nd_operation.specs.Operators.Elementwise.{IsArrayOf, as_array}
use Rattle.nd_operation.specs.Operators.Contents.{elements_over}
use Rattle.nd_operation.specs.Operators.New.{MakesNew, StandsFor, given, operand_of_new}
use Rattle.nd_operation.specs.Refusals.Stops.{map_stop}
use Rattle.nd_operation.proofs.operators.Creating.{gives_array, new_memory, new_refused}

-- ---- one number alone

pub no_axes : (shape : List ℕ) (b : Bool) → b ≡ (length shape == 0) → b ≡ true → shape ≡ []
no_axes [] b e is = refl
no_axes (n ∷ shape) b e is = absurd (by (length shape) (sym e ∙ is))
  where
    by : (n : ℕ) → (suc n == 0) ≡ true → ⊥
    by n e = grind (arith, nat_tests)

-- and some where there are some
pub some_axes : (shape : List ℕ) (b : Bool) → b ≡ (length shape == 0) → b ≡ false → (n : ℕ) × (s : List ℕ) × (shape ≡ n ∷ s)
some_axes [] b e is = absurd cc
some_axes (n ∷ shape) b e is = (n, shape, refl)

pub lone_bytes : (n : Numbers) (view : Geo) (block : List ℕ) → IsArrayOf n view block → n.shape ≡ [] → block ≡ bytes_of (little n.kind) (n.number [])
lone_bytes n view block is none =
    is.block ∙ ap (λ s. array_bytes (One (little n.kind)) s (λ t. Num (n.number t))) none
    ∙ append-nil (element_bytes (One (little n.kind)) (Num (n.number []))) ∙ number_bytes (little n.kind) (n.number [])

pub lone_number : (n : Numbers) (view : Geo) (block : List ℕ) → IsArrayOf n view block → n.shape ≡ [] → number_at (little n.kind) block 0 ≡ n.number []
lone_number n view block is none =
    ap (λ bs. number_at (little n.kind) bs 0) (lone_bytes n view block is none)
    ∙ ap (value_of (little n.kind)) (ap (λ m. take m (bytes_of (little n.kind) (n.number []))) (sym (length-bytes_of (little n.kind) (n.number []))) ∙ take_all (length (bytes_of (little n.kind) (n.number []))) (bytes_of (little n.kind) (n.number [])) (omega arith))
    ∙ round_trip (little n.kind) (n.number []) (is.valid [])

-- ---- what is made

abbrev taken : {A : Type 0} → A → Result A Fault → A
taken a (Ok b) = b
taken a (Err f) = a

-- a result that comes to something came to it by what went before
came : {A B : Type 0} (m : Result A Fault) (f : A → Result B Fault) (b : B) → refusing.◌>>=◌ m f ≡ Ok b → (a : A) × (m ≡ Ok a) × (f a ≡ Ok b)
came (Ok a) f b h = (a, refl, h)
came (Err e) f b h = absurd cc

limited : (l : Option ViewFault) (r : Result Numbers Fault) (n : Numbers) → unless_fault l r ≡ Ok n → (l ≡ None) × (r ≡ Ok n)
limited None r n h = (refl, h)
limited (Some f) r n h = absurd cc

allowed : {A : Type 0} (b : Bool) (f : Fault) (r : Result A Fault) (a : A) → when b f r ≡ Ok a → r ≡ Ok a
allowed true f r a h = h
allowed false f r a h = absurd cc

-- the numbers are of their kind, and the array of them is in the limits
pub record AreNumbers (n : Numbers) : Type 0 where
  pub valid : (t : List ℕ) → IsValue n.kind (n.number t)
  pub limits : limit_fault (size_of n.kind) n.shape ≡ None

pub binary_are : (f : BinaryUfunc) (x y : Operand) (n : Numbers) → binary_numbers f x y ≡ Ok n → AreNumbers n
binary_are f x y n h =
    let go = λ (k : Kind) (shape : List ℕ). in_limits (One (little k)) shape (when (not (has_power_below f y shape)) (Ufunc NegativePower) (Ok (record { kind = k; shape = shape; number = binary_number k f x y }))) in
    let kind = came (binary_kind f (operand_sort x) (operand_sort y)) (λ k. refusing.◌>>=◌ (common_shape (broadcast (shape_of x) (shape_of y))) (go k)) n h in
    let shape = came (common_shape (broadcast (shape_of x) (shape_of y))) (go kind.0) n kind.2 in
    let within = limited (limit_fault (size_of kind.0) shape.0) _ n shape.2 in
    let is = allowed (not (has_power_below f y shape.0)) (Ufunc NegativePower) _ n within.1 in
    at kind.0 shape.0 within.0 is
  where
    found : Kind → List ℕ → Result Numbers Fault
    found k shape = Ok (record { kind = k; shape = shape; number = binary_number k f x y })

    at : (k : Kind) (shape : List ℕ) → limit_fault (size_of k) shape ≡ None → found k shape ≡ Ok n → AreNumbers n
    at k shape within same =
        let is : record { kind = k; shape = shape; number = binary_number k f x y } ≡ n = ap (taken (record { kind = k; shape = shape; number = binary_number k f x y })) same in
        subst AreNumbers is (record { valid = λ t. wrap_in_range k _; limits = within })

-- a truth as a number of its kind
truth_is : (b : Bool) → truth_number b ≡ wrap Boolean (truth_number b)
truth_is true = refl
truth_is false = refl

single_in_range : (op : Single) (k : Kind) (z : ℤ) → IsValue k (single_number op k z)
single_in_range (Of Negative) k z = wrap_in_range k _
single_in_range Absolute k z = wrap_in_range k _
single_in_range (Of Invert) Boolean z = subst (IsValue Boolean) (sym (truth_is (is_zero z))) (wrap_in_range Boolean (truth_number (is_zero z)))
single_in_range (Of Invert) Int8 z = wrap_in_range Int8 _
single_in_range (Of Invert) Int16 z = wrap_in_range Int16 _
single_in_range (Of Invert) Int32 z = wrap_in_range Int32 _
single_in_range (Of Invert) Int64 z = wrap_in_range Int64 _
single_in_range (Of Invert) UInt8 z = wrap_in_range UInt8 _
single_in_range (Of Invert) UInt16 z = wrap_in_range UInt16 _
single_in_range (Of Invert) UInt32 z = wrap_in_range UInt32 _
single_in_range (Of Invert) UInt64 z = wrap_in_range UInt64 _

pub single_are : (op : Single) (x : Operand) (n : Numbers) → single_numbers op x ≡ Ok n → AreNumbers n
single_are op x n h =
    let kind = came (single_kind op (operand_sort x)) (λ k. in_limits (One (little k)) (shape_of x) (Ok (record { kind = k; shape = shape_of x; number = λ t. single_number op k (number_in (content_of x t)) }))) n h in
    let within = limited (limit_fault (size_of kind.0) (shape_of x)) _ n kind.2 in
    at kind.0 within.0 within.1
  where
    found : Kind → Result Numbers Fault
    found k = Ok (record { kind = k; shape = shape_of x; number = λ t. single_number op k (number_in (content_of x t)) })

    at : (k : Kind) → limit_fault (size_of k) (shape_of x) ≡ None → found k ≡ Ok n → AreNumbers n
    at k within same =
        let is : record { kind = k; shape = shape_of x; number = λ t. single_number op k (number_in (content_of x t)) } ≡ n = ap (taken (record { kind = k; shape = shape_of x; number = λ t. single_number op k (number_in (content_of x t)) })) same in
        subst AreNumbers is (record { valid = λ t. single_in_range op k _; limits = within })

-- the array that was made is that of the numbers
pub array_is : (r : Result Numbers Fault) → ((n : Numbers) → r ≡ Ok n → AreNumbers n) → (view : Geo) (block : List ℕ) → array_of r ≡ Ok (view, block)
    → (n : Numbers) × (r ≡ Ok n) × IsArrayOf n view block
array_is r all view block h =
    let made = came r (λ n. Ok (new_array n)) (view, block) h in
    let same : new_array made.0 ≡ (view, block) = ap (taken (new_array made.0)) made.2 in
    let are = all made.0 made.1 in
    (made.0, made.1, record { view = sym (ap (λ m. m.0) same); block = sym (ap (λ m. m.1) same); valid = are.valid; limits = are.limits })

-- what is given of it
pub gives_numbers : (r : Result Numbers Fault) (n : Numbers) (new : New) → r ≡ Ok n → give (made_of n.kind n.shape n.number) ≡ given new → MakesNew (Ok new) (numbers_made r)
gives_numbers r n new is h = ap (λ r. decide (numbers_made r) >>= give) is ∙ h

not_made : (r : Result Numbers Fault) (f : Fault) → array_of r ≡ Err f → numbers_made r ≡ Err f
not_made (Ok n) f h = absurd cc
not_made (Err e) f h = let same : e ≡ f = cc in ap Err same

-- the exit by `?`
pub exits_map : (r : Result Numbers Fault) (f : MapFault) (o : Result New Stop) → IsErrAnd o (λ x. x ≡ map_stop f) → Makes (λ (m : Geo × List ℕ). m) (Err f) (array_of r) → MakesNew o (numbers_made r)
exits_map r (Memory m) o is h = new_memory (numbers_made r) o is
exits_map r (map_fault.Ufunc f) o is h = new_refused (numbers_made r) (stmt_fault.Ufunc f) o is (not_made r _ h)
exits_map r (map_fault.View f) o is h = new_refused (numbers_made r) (stmt_fault.View f) o is (not_made r _ h)

-- and what that says of an operand
pub exits_operand : (r : Result Numbers Fault) (f : MapFault) (o : Result New Stop) → IsErrAnd o (λ x. x ≡ map_stop f) → Makes (λ (m : Geo × List ℕ). m) (Err f) (array_of r) → StandsFor o (numbers_made r)
exits_operand r f o is h =
    let p : (x : Stop) × (o ≡ Err x) × (x ≡ map_stop f) = err_from_is_err_and o is in
    subst (λ (o : Result New Stop). StandsFor o (numbers_made r)) (sym (p.1 ∙ ap Err p.2)) (at f h)
  where
    at : (f : MapFault) → Makes (λ (m : Geo × List ℕ). m) (Err f) (array_of r) → StandsFor (Err (map_stop f)) (numbers_made r)
    at (Memory m) h = tt
    at (map_fault.Ufunc f) h = not_made r _ h
    at (map_fault.View f) h = not_made r _ h

-- a row counts as an array without axes
binary_arrays : (f : BinaryUfunc) (x y : Operand) → binary_numbers f (as_array x) (as_array y) ≡ binary_numbers f x y
binary_arrays f (Plain m) (Plain n) = refl
binary_arrays f (Plain m) (Elements row g cs) = refl
binary_arrays f (Elements row g cs) (Plain n) = refl
binary_arrays f (Elements row g cs) (Elements row' h ds) = refl

single_array : (op : Single) (x : Operand) → single_numbers op (as_array x) ≡ single_numbers op x
single_array op (Plain n) = refl
single_array op (Elements row g cs) = refl

pub mapped_two : (f : BinaryUfunc) (x y x' y' : Operand) → x' ≡ as_array x → y' ≡ as_array y → binary_numbers f x' y' ≡ binary_numbers f x y
mapped_two f x y x' y' is is' = ap₂ (binary_numbers f) is is' ∙ binary_arrays f x y

in_place_arrays : (op : BinaryOp) (g : Geo) (y : Operand) → in_place_kind op g (as_array y) ≡ in_place_kind op g y
in_place_arrays op g (Plain n) = refl
in_place_arrays op g (Elements row h cs) = refl

pub in_place_alike : (op : BinaryOp) (g : Geo) (y y' : Operand) → y' ≡ as_array y → in_place_kind op g y' ≡ in_place_kind op g y
in_place_alike op g y y' is = ap (in_place_kind op g) is ∙ in_place_arrays op g y

pub mapped_one : (op : Single) (x x' : Operand) → x' ≡ as_array x → single_numbers op x' ≡ single_numbers op x
mapped_one op x x' is = ap (single_numbers op) is ∙ single_array op x

-- ---- what is given of a new array, and what it is as an operand

-- a number alone
lone_is : (n : Numbers) (view : Geo) (block : List ℕ) (e : Element) (k : Kind) (z : ℤ) → IsArrayOf n view block → n.shape ≡ [] → view.element ≡ One e → k ≡ e.kind → z ≡ number_at e block 0
    → (n.kind ≡ k) × (n.number [] ≡ z)
lone_is n view block e k z is alone typed kind number =
    let same : little n.kind ≡ e = ap element_in (sym (ap (λ g. g.element) is.view) ∙ typed) in
    (ap (λ e. e.kind) same ∙ sym kind, sym (number ∙ ap (λ e. number_at e block 0) (sym same) ∙ lone_number n view block is alone))
  where
    element_in : ElementType → Element
    element_in (One e) = e
    element_in (Structure fields size) = little n.kind

module _ (n : Numbers) (view : Geo) (block : List ℕ) (is : IsArrayOf n view block) where
  module _ (e : Element) (k : Kind) (z : ℤ) (none : view.shape ≡ []) (typed : view.element ≡ One e) (kind : k ≡ e.kind) (number : z ≡ number_at e block 0) where
    alone : n.shape ≡ []
    alone = sym (ap (λ g. g.shape) is.view) ∙ none

    pub gives_lone : give (made_of n.kind n.shape n.number) ≡ Gives (value.Scalar k z)
    gives_lone =
        let same = lone_is n view block e k z is alone typed kind number in
        ap (λ s. give (made_of n.kind s n.number)) alone ∙ ap₂ (λ j z. Gives (value.Scalar j z)) same.0 same.1

    pub operand_lone : operand_of_made (made_of n.kind n.shape n.number) ≡ Plain (Scalar k z)
    operand_lone =
        let same = lone_is n view block e k z is alone typed kind number in
        ap (λ s. operand_of_made (made_of n.kind s n.number)) alone ∙ ap₂ (λ j z. Plain (Scalar j z)) same.0 same.1

  bytes_are : block ≡ flat_map (λ t. bytes_of (little n.kind) (n.number t)) (indices n.shape)
  bytes_are = is.block ∙ numbers_bytes (little n.kind) n.shape n.number

  module _ (m : ℕ) (s : List ℕ) (more : n.shape ≡ m ∷ s) where
    pub gives_many : give (made_of n.kind n.shape n.number) ≡ given (Array view block)
    gives_many =
        ap (λ s. give (made_of n.kind s n.number)) more
        ∙ ap (λ s. fresh_array (One (little n.kind)) s (λ t. Num (n.number t))) (sym more)
        ∙ gives_array (One (little n.kind)) n.shape (λ t. Num (n.number t)) view block is.limits is.view is.block

    pub operand_many : operand_of_made (made_of n.kind n.shape n.number) ≡ elements_over false view block
    operand_many =
        ap (λ s. operand_of_made (made_of n.kind s n.number)) more
        ∙ ap (λ s. Elements false (contiguous (One (little n.kind)) s) (map (λ t. Num (n.number t)) (indices s))) (sym more)
        ∙ ap (Elements false (contiguous (One (little n.kind)) n.shape)) (sym (contents_alone (little n.kind) n.shape n.number is.valid block bytes_are))
        ∙ ap (λ g. elements_over false g block) (sym is.view)

  -- it lies in its block
  pub array_lies : LiesIn (length block) view
  array_lies = subst (LiesIn (length block)) (sym is.view) (record {
    count = count_alone (little n.kind) n.shape;
    limits = is.limits;
    inside = held_alone (little n.kind) n.shape (length block) (length-alone (little n.kind) n.shape n.number is.valid block bytes_are);
  })

-- what is made of numbers stands for it
pub stands_for : (r : Result Numbers Fault) (n : Numbers) (new : New) → r ≡ Ok n → operand_of_made (made_of n.kind n.shape n.number) ≡ operand_of_new new → StandsFor (Ok new) (numbers_made r)
stands_for r n new is same = (made_of n.kind n.shape n.number, ap numbers_made is, same)
