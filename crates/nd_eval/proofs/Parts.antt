-- The operands of an operation, one after the other.
use Rattle.std.proofs.Common.{◌≡◌, ℕ, List, [], ◌∷◌, Result, Ok, Err, refl, sym, ap, ◌∙◌}
use Rattle.nd_model.specs.Cells.Fault.{Fault}
use Rattle.nd_model.specs.Grammar.Syntax.{Expr}
use Rattle.nd_model.specs.Arrays.Value as model
use Rattle.nd_model.specs.Cells.Running.{Running, Inputs, Effect, Binding, Unbinding}
use Rattle.nd_model.specs.Cells.Evaluation.{Eval, Gives, run, ◌>>=◌}
use Rattle.nd_model.specs.Making.Operand.{Plain, Usage, Whole, Unused, BindsFirst, Unbinds}
use Rattle.nd_model.specs.Cells.Operation.{use_operand, act_on, evaluate_all}
use Rattle.nd_model.specs.Cells.Meaning.{value, whole_plans}
use Rattle.nd_types.specs.declared.num.Num.{Num}
use Rattle.nd_types.specs.declared.num.Num.TheVariants as num
use Rattle.nd_heap.specs.declared.value.Value.{Value}
use Rattle.nd_heap.specs.declared.value.Value.TheVariants.{Number, Array, Row}
use Rattle.nd_heap.specs.Values.{value_of}
use Rattle.nd_model.proofs.Steps.{goes_on, run_bind}
use Rattle.nd_operation.specs.Operators.Contents.{num_of, unused_of}
use Rattle.nd_eval.specs.Parts.{values_then, values, wholes}

-- ---- the code's values

pub use_number : (u : Usage) (n : Num) → use_operand u (value_of (Number n)) ≡ Gives (Plain (num_of n))
use_number u (num.Int z) = refl
use_number u (num.Bool t) = refl
use_number u (num.Scalar k z) = refl

pub not_used : (v : Value) → use_operand Unused (value_of v) ≡ Gives (unused_of v)
not_used (Number n) = use_number Unused n
not_used (Array a) = refl
not_used (Row a) = refl

-- ---- operations

-- a value that is not used stops nothing
unused_only : {A : Type 0} (v : model.Value) (e : Eval A) → (use_operand Unused v >>= λ o. e) ≡ e
unused_only (model.Int z) e = refl
unused_only (model.Truth t) e = refl
unused_only (model.Scalar k z) e = refl
unused_only (model.Array b g) e = refl
unused_only (model.Row b g) e = refl

pub binding_parts : (n : List ℕ) (v : model.Value) → act_on (λ os. Ok (BindsFirst n)) ((Unused, v) ∷ []) ≡ Gives (Binding n v)
binding_parts n v = unused_only v (Gives (Binding n v))

pub deletion_parts : (n : List ℕ) (v : model.Value) → act_on (λ os. Ok (Unbinds n)) ((Unused, v) ∷ []) ≡ Gives (Unbinding n)
deletion_parts n v = unused_only v (Gives (Unbinding n))

-- ---- all operands, and then what goes on

pub goes_same : {A B : Type 0} (i : Inputs) (m : Result A Fault × Running) (f g : A → Eval B) → ((x : A) (r : Running) → run i (f x) r ≡ run i (g x) r) → goes_on i m f ≡ goes_on i m g
goes_same i (Ok x, r) f g h = h x r
goes_same i (Err e, r) f g h = refl

twice : {A B C : Type 0} (i : Inputs) (m : Result A Fault × Running) (f : A → Eval B) (g : B → Eval C)
    → goes_on i (goes_on i m f) g ≡ goes_on i m (λ x. f x >>= g)
twice i (Ok x, r) f g = sym (run_bind i (f x) g r)
twice i (Err e, r) f g = refl

pub regrouped : {A B C : Type 0} (i : Inputs) (t : Eval A) (f : A → Eval B) (g : B → Eval C) (r : Running) → run i ((t >>= f) >>= g) r ≡ run i (t >>= (λ x. f x >>= g)) r
regrouped i t f g r =
    run_bind i (t >>= f) g r ∙ ap (λ m. goes_on i m g) (run_bind i t f r) ∙ twice i (run i t r) f g ∙ sym (run_bind i t (λ x. f x >>= g) r)

pub then_same : {A B : Type 0} (i : Inputs) (t : Eval A) (f g : A → Eval B) (r : Running) → ((x : A) (s : Running) → run i (f x) s ≡ run i (g x) s) → run i (t >>= f) r ≡ run i (t >>= g) r
then_same i t f g r h = run_bind i t f r ∙ goes_same i (run i t r) f g h ∙ sym (run_bind i t g r)

all_values : (i : Inputs) (es : List Expr) (go : List (Usage × model.Value) → Eval Effect) (k : List model.Value → List model.Value) (g : List model.Value → Eval Effect) (r : Running)
    → ((vs : List model.Value) → go (wholes vs) ≡ g (k vs)) → run i (evaluate_all (whole_plans es) go) r ≡ run i (values_then es (λ vs. Gives (k vs)) >>= g) r
all_values i [] go k g r h = ap (λ t. run i t r) (h [])
all_values i (e ∷ es) go k g r h =
    then_same i (value e) (λ v. evaluate_all (whole_plans es) (λ vs. go ((Whole, v) ∷ vs))) (λ v. values_then es (λ vs. Gives (k (v ∷ vs))) >>= g) r
    (λ v s. all_values i es (λ vs. go ((Whole, v) ∷ vs)) (λ vs. k (v ∷ vs)) g s (λ vs. h (v ∷ vs)))
    ∙ sym (regrouped i (value e) (λ v. values_then es (λ vs. Gives (k (v ∷ vs)))) g r)

-- expressions that are used whole: first all are evaluated
pub values_first : (i : Inputs) (es : List Expr) (go : List (Usage × model.Value) → Eval Effect) (r : Running)
    → run i (evaluate_all (whole_plans es) go) r ≡ run i (values es >>= λ vs. go (wholes vs)) r
values_first i es go r = all_values i es go (λ vs. vs) (λ vs. go (wholes vs)) r (λ vs. refl)
