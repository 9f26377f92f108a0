-- `np.arange`: its bounds one after the other.
use Rattle.std.proofs.Common.{◌≡◌, Bool, true, false, [], ◌∷◌, ◌++◌, Option, None, Some, refl, sym, ◌∙◌, option_map}
use Rattle.nd_model.specs.Grammar.Calls as calls
use Rattle.nd_model.specs.Cells.Running.{Running, Inputs}
use Rattle.nd_model.specs.Cells.Evaluation.{Gives, run, ◌>>=◌, decide}
use Rattle.nd_model.specs.Cells.Operation.{Computes, perform, give}
use Rattle.nd_model.specs.Making.Creation.{arange}
use Rattle.nd_model.specs.Grammar.Syntax as syntax
use Rattle.nd_model.specs.Grammar.Syntax.{Expr, Bound, Omitted, Given, Called}
use Rattle.nd_model.specs.Cells.Meaning.{value}
use Rattle.nd_syntax.specs.declared.trees.tree.Expr as tree
use Rattle.nd_syntax.specs.declared.trees.tree.Call as call
use Rattle.nd_syntax.specs.declared.trees.calls.DType.{DType}
use Rattle.nd_syntax.specs.Trees.Calls.{dtype_of}
use Rattle.nd_syntax.specs.Trees.Syntax.{bound_of, call_of, expr_of}
use Rattle.nd_heap.specs.declared.value.Value.{Value}
use Rattle.nd_heap.specs.Values.{value_of}
use Rattle.nd_eval.specs.Contents.{option_values}
use Rattle.nd_operation.specs.Operators.New.{bounds_of}
use Rattle.nd_eval.specs.Parts.{range_value, unused, values}
use Rattle.nd_eval.proofs.Calls.{none_used}
use Rattle.nd_eval.proofs.Parts.{then_same, regrouped}

-- ---- expressions, and then their values

pub range_first : (i : Inputs) (a : Bound) (b : Expr) (c : Bound) (t : Option calls.DType) (r : Running)
    → run i (value (Called (syntax.Arange a b c t))) r ≡ run i (range_value a b c t) r
range_first i Omitted b Omitted t r = refl
range_first i Omitted b (Given e) t r =
    then_same i (value b) _ _ r
    (λ v s. sym (regrouped i (value e) (λ y. Gives (y ∷ [])) (λ ys. perform (Computes (arange false true t)) (unused (v ∷ ys))) s))
range_first i (Given e) b Omitted t r =
    sym (regrouped i (value e) (λ x. Gives (x ∷ [])) (λ xs. value b >>= λ v. perform (Computes (arange true false t)) (unused (xs ++ v ∷ []))) r)
range_first i (Given e) b (Given f) t r =
    then_same i (value e) _ _ r (λ x s. then_same i (value b) _ _ s
    (λ v s. sym (regrouped i (value f) (λ y. Gives (y ∷ [])) (λ ys. perform (Computes (arange true true t)) (unused (x ∷ v ∷ ys))) s)))
    ∙ sym (regrouped i (value e) (λ x. Gives (x ∷ []))
    (λ xs. value b >>= λ v. values (f ∷ []) >>= λ ys. perform (Computes (arange true true t)) (unused (xs ++ v ∷ ys))) r)

pub range_parts : (p q : Bool) (t : Option calls.DType) (a : Option Value) (b : Value) (c : Option Value)
    → perform (Computes (arange p q t)) (unused (option_values a ++ value_of b ∷ option_values c)) ≡ (decide (arange p q t (bounds_of a b c)) >>= give)
range_parts p q t None b None = none_used (b ∷ []) (λ os. decide (arange p q t os) >>= give)
range_parts p q t (Some a) b None = none_used (a ∷ b ∷ []) (λ os. decide (arange p q t os) >>= give)
range_parts p q t None b (Some c) = none_used (b ∷ c ∷ []) (λ os. decide (arange p q t os) >>= give)
range_parts p q t (Some a) b (Some c) = none_used (a ∷ b ∷ c ∷ []) (λ os. decide (arange p q t os) >>= give)

-- ---- the code's call

pub range_is : (a : Option tree.Expr) (b : tree.Expr) (c : Option tree.Expr) (t : Option DType)
    → call_of (call.Arange a b c t) ≡ syntax.Arange (bound_of a) (expr_of b) (bound_of c) (option_map dtype_of t)
range_is None b None t = refl
range_is None b (Some c) t = refl
range_is (Some a) b None t = refl
range_is (Some a) b (Some c) t = refl
