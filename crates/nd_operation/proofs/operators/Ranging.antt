-- `np.arange`: its integers one after the other.
use Rattle.std.proofs.Common.{◌≡◌, ℤ, pos, Bool, true, false, List, [], ◌∷◌, Option, None, Some, Result, Ok, Err, refl, sym, subst}
use Rattle.std.specs.Option.{is_some}
use Rattle.nd_model.specs.Grammar.Calls as calls
use Rattle.nd_model.specs.Arrays.Element.{Element}
use Rattle.nd_model.specs.Cells.Fault.{Fault}
use Rattle.nd_model.specs.Cells.Refusing as refusing
use Rattle.nd_model.specs.Making.Operand.{Made}
use Rattle.nd_model.specs.Making.Creation.{arange, integer_of, range_of, range_by, range_in, range_array, element_of_range}
use Rattle.nd_heap.specs.declared.value.Value.{Value}
use Rattle.nd_operation.specs.declared.refusals.stop.Stop.{Stop}
use Rattle.nd_operation.specs.declared.operators.operand.New.{New}
use Rattle.nd_operation.specs.Operators.Contents.{unused_of}
use Rattle.nd_operation.specs.Operators.New.{MakesNew, bound_or, bounds_of}
use Rattle.nd_operation.proofs.operators.Creating.{new_then}

-- ---- the integers, and then the array

abbrev integers : Bool → Bool → Option calls.DType → List ℤ → Result Made Fault
integers p q t zs = refusing.◌>>=◌ (range_of p q zs) (range_in t)

abbrev onto : Result ℤ Fault → Result (List ℤ) Fault → Result (List ℤ) Fault
onto m ms = refusing.◌>>=◌ m (λ z. refusing.◌>>=◌ ms (λ zs. Ok (z ∷ zs)))

abbrev in_turn : Option calls.DType → Result ℤ Fault → Result ℤ Fault → Result ℤ Fault → Result Made Fault
in_turn t a b c = refusing.◌>>=◌ a (λ x. refusing.◌>>=◌ b (λ y. refusing.◌>>=◌ c (λ z. range_in t (range_by x y z))))

only_stop : (t : Option calls.DType) (b : Result ℤ Fault) → refusing.◌>>=◌ (onto b (Ok [])) (integers false false t) ≡ in_turn t (Ok (pos 0)) b (Ok (pos 1))
only_stop t (Ok y) = refl
only_stop t (Err f) = refl

with_start : (t : Option calls.DType) (a b : Result ℤ Fault) → refusing.◌>>=◌ (onto a (onto b (Ok []))) (integers true false t) ≡ in_turn t a b (Ok (pos 1))
with_start t (Ok x) (Ok y) = refl
with_start t (Ok x) (Err f) = refl
with_start t (Err f) b = refl

with_step : (t : Option calls.DType) (b c : Result ℤ Fault) → refusing.◌>>=◌ (onto b (onto c (Ok []))) (integers false true t) ≡ in_turn t (Ok (pos 0)) b c
with_step t (Ok y) (Ok z) = refl
with_step t (Ok y) (Err f) = refl
with_step t (Err f) c = refl

with_both : (t : Option calls.DType) (a b c : Result ℤ Fault) → refusing.◌>>=◌ (onto a (onto b (onto c (Ok [])))) (integers true true t) ≡ in_turn t a b c
with_both t (Ok x) (Ok y) (Ok z) = refl
with_both t (Ok x) (Ok y) (Err f) = refl
with_both t (Ok x) (Err f) c = refl
with_both t (Err f) b c = refl

bounds_in_turn : (t : Option calls.DType) (a : Option Value) (b : Value) (c : Option Value)
    → arange (is_some a) (is_some c) t (bounds_of a b c) ≡ in_turn t (bound_or a (pos 0)) (integer_of (unused_of b)) (bound_or c (pos 1))
bounds_in_turn t None b None = only_stop t (integer_of (unused_of b))
bounds_in_turn t (Some a) b None = with_start t (integer_of (unused_of a)) (integer_of (unused_of b))
bounds_in_turn t None b (Some c) = with_step t (integer_of (unused_of b)) (integer_of (unused_of c))
bounds_in_turn t (Some a) b (Some c) = with_both t (integer_of (unused_of a)) (integer_of (unused_of b)) (integer_of (unused_of c))

pub range_made_of : (t : Option calls.DType) (a : Option Value) (b : Value) (c : Option Value) (x y z : ℤ) (e : Element) (o : Result New Stop)
    → bound_or a (pos 0) ≡ Ok x → integer_of (unused_of b) ≡ Ok y → bound_or c (pos 1) ≡ Ok z → element_of_range t ≡ Ok e
    → MakesNew o (range_array e (range_by x y z)) → MakesNew o (arange (is_some a) (is_some c) t (bounds_of a b c))
range_made_of t a b c x y z e o first second third type made =
    subst (MakesNew o) (sym (bounds_in_turn t a b c))
    (new_then (bound_or a (pos 0)) x (λ x. refusing.◌>>=◌ (integer_of (unused_of b)) (λ y. refusing.◌>>=◌ (bound_or c (pos 1)) (λ z. range_in t (range_by x y z)))) o first
    (new_then (integer_of (unused_of b)) y (λ y. refusing.◌>>=◌ (bound_or c (pos 1)) (λ z. range_in t (range_by x y z))) o second
    (new_then (bound_or c (pos 1)) z (λ z. range_in t (range_by x y z)) o third
    (new_then (element_of_range t) e (λ e. range_array e (range_by x y z)) o type made))))
