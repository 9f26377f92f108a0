-- The operands of calls with several, one after the other.
use Rattle.std.proofs.Common.{◌≡◌, ℕ, List, [], ◌∷◌, ◌++◌, map, Option, Result, Ok, refl, sym, ap, ◌∙◌, append-nil}
use Rattle.std.proofs.lemmas.List.{map-append}
use Rattle.nd_model.specs.Grammar.Calls.{Fill, DType}
use Rattle.nd_model.specs.Grammar.Syntax.{Expr, Called, Filled, Full, BroadcastTo, NewArray, Elements, NoElement, AndElement, Element, Single, Nested}
use Rattle.nd_model.specs.Grammar.Cells.{exprs_of}
use Rattle.nd_model.specs.Arrays.Value as model
use Rattle.nd_model.specs.Cells.Running.{Running, Inputs}
use Rattle.nd_model.specs.Cells.Refusing as refusing
use Rattle.nd_model.specs.Cells.Evaluation.{Eval, Gives, run, ◌>>=◌, decide}
use Rattle.nd_model.specs.Making.Operand.{Operand, Usage, Whole, RowsOnly, Unused}
use Rattle.nd_model.specs.Cells.Operation.{Operation, Computes, Views, perform, operands, give, choose_of, Plans, Done, And, with_values}
use Rattle.nd_model.specs.Making.Creation.{length_of, lengths_of, last_of, filled, full, full_of, full_array, without_axes, python_number, python_numbers, even_shape, element_for_list, array_of_numbers, array_of_list}
use Rattle.nd_model.specs.Indexing.Viewing as viewing
use Rattle.nd_model.specs.Indexing.Viewing.{Viewing, choose_of_first}
use Rattle.nd_model.specs.Cells.Meaning.{value, plan, expr_plans, list_plans, element_plans}
use Rattle.nd_model.specs.Arrays.Value.{Base}
use Rattle.nd_heap.specs.declared.value.Value.{Value}
use Rattle.nd_heap.specs.declared.value.Value.TheVariants.{Number, Array, Row}
use Rattle.nd_heap.specs.Values.{value_of}
use Rattle.nd_operation.specs.declared.operators.operand.Operand as lent
use Rattle.nd_operation.specs.declared.refusals.stop.Stop.{Stop}
use Rattle.nd_operation.specs.Operators.Contents.{operand_of, unused_of}
use Rattle.nd_eval.specs.Ends.{Ends}
use Rattle.nd_eval.proofs.Chains.{ends_alike}
use Rattle.nd_eval.specs.Parts.{values_then, values, wholes, unused, filled_value, full_value, stretch, stretched_value, view_value, exprs_in, exprs_of_element, list_value}
use Rattle.nd_eval.specs.Uses.{marked, all_marked, operand_over, operands_over}
use Rattle.nd_eval.proofs.Parts.{then_same, regrouped, not_used}
use Rattle.nd_eval.proofs.Uses.{all_used}

-- ---- first all expressions are evaluated

pub all_exprs : (i : Inputs) (u : Usage) (es : List Expr) (rest : Plans) (go : List (Usage × model.Value) → Eval model.Value) (k : List model.Value → List model.Value) (g : List model.Value → Eval model.Value) (r : Running)
    → ((vs : List model.Value) → with_values rest (λ ws. go (map (λ v. (u, v)) vs ++ ws)) ≡ g (k vs)) → run i (with_values (expr_plans u (exprs_of es) rest) go) r ≡ run i (values_then es (λ vs. Gives (k vs)) >>= g) r
all_exprs i u [] rest go k g r h = ap (λ t. run i t r) (h [])
all_exprs i u (e ∷ es) rest go k g r h =
    then_same i (value e) (λ v. with_values (expr_plans u (exprs_of es) rest) (λ vs. go ((u, v) ∷ vs))) (λ v. values_then es (λ vs. Gives (k (v ∷ vs))) >>= g) r
    (λ v s. all_exprs i u es rest (λ vs. go ((u, v) ∷ vs)) (λ vs. k (v ∷ vs)) g s (λ vs. h (v ∷ vs)))
    ∙ sym (regrouped i (value e) (λ v. values_then es (λ vs. Gives (k (v ∷ vs)))) g r)

pub filled_first : (i : Inputs) (f : Fill) (es : List Expr) (t : Option DType) (r : Running) → run i (value (Called (Filled f (exprs_of es) t))) r ≡ run i (filled_value f es t) r
filled_first i f es t r =
    all_exprs i Unused es Done (perform (Computes (filled f t))) (λ vs. vs) (λ vs. perform (Computes (filled f t)) (unused vs)) r (λ vs. ap (perform (Computes (filled f t))) (append-nil (unused vs)))

-- expressions that are not used, behind a value
pub unused_first : (i : Inputs) (es : List Expr) (op : Operation) (v : Usage × model.Value) (r : Running)
    → run i (with_values (expr_plans Unused (exprs_of es) Done) (λ vs. perform op (v ∷ vs))) r ≡ run i (values es >>= λ ws. perform op (v ∷ unused ws)) r
unused_first i es op v r =
    all_exprs i Unused es Done (λ vs. perform op (v ∷ vs)) (λ vs. vs) (λ ws. perform op (v ∷ unused ws)) r (λ ws. ap (λ l. perform op (v ∷ l)) (append-nil (unused ws)))

pub stretched_first : (i : Inputs) (e : Expr) (es : List Expr) (r : Running) → run i (value (Called (BroadcastTo e (exprs_of es)))) r ≡ run i (stretched_value e es) r
stretched_first i e es r =
    then_same i (value e) _ (λ v. values es >>= stretch v) r (λ v s. unused_first i es (Views viewing.BroadcastTo) (RowsOnly, v) s)

pub full_first : (i : Inputs) (es : List Expr) (e : Expr) (t : Option DType) (r : Running) → run i (value (Called (Full (exprs_of es) e t))) r ≡ run i (full_value es e t) r
full_first i es e t r =
    all_exprs i Whole es (And Whole (plan e) Done) (perform (Computes (full t))) (λ vs. vs) (λ vs. value e >>= λ v. perform (Computes (full t)) (wholes vs ++ (Whole, v) ∷ [])) r (λ vs. refl)

-- ---- lists

expr_plans-append : (u : Usage) (es fs : List Expr) (rest : Plans) → expr_plans u (exprs_of (es ++ fs)) rest ≡ expr_plans u (exprs_of es) (expr_plans u (exprs_of fs) rest)
expr_plans-append u [] fs rest = refl
expr_plans-append u (e ∷ es) fs rest = ap (And u (plan e)) (expr_plans-append u es fs rest)

-- the plans of a list are those of its expressions
mutual
  plans_of_list : (es : Elements) (rest : Plans) → list_plans es rest ≡ expr_plans Whole (exprs_of (exprs_in es)) rest
  plans_of_list NoElement rest = refl
  plans_of_list (AndElement x xs) rest =
      plans_of_element x (list_plans xs rest) ∙ ap (expr_plans Whole (exprs_of (exprs_of_element x))) (plans_of_list xs rest)
      ∙ sym (expr_plans-append Whole (exprs_of_element x) (exprs_in xs) rest)

  plans_of_element : (x : Element) (rest : Plans) → element_plans x rest ≡ expr_plans Whole (exprs_of (exprs_of_element x)) rest
  plans_of_element (Single e) rest = refl
  plans_of_element (Nested es) rest = plans_of_list es rest

pub list_first : (i : Inputs) (es : Elements) (t : Option DType) (r : Running) → run i (value (Called (NewArray (Nested es) t))) r ≡ run i (list_value (Nested es) t) r
list_first i es t r =
    ap (λ ps. run i (with_values ps (perform (Computes (array_of_list (Nested es) t)))) r) (plans_of_list es Done)
    ∙ all_exprs i Whole (exprs_in es) Done (perform (Computes (array_of_list (Nested es) t))) (λ vs. vs) (λ vs. perform (Computes (array_of_list (Nested es) t)) (wholes vs)) r
    (λ vs. ap (perform (Computes (array_of_list (Nested es) t))) (append-nil (wholes vs)))

same_python : (bytes : Base → List ℕ) (v : Value) → python_number (operand_over bytes v) ≡ python_number (unused_of v)
same_python bytes (Number n) = refl
same_python bytes (Array a) = refl
same_python bytes (Row a) = refl

same_pythons : (bytes : Base → List ℕ) (vs : List Value) → python_numbers (operands_over bytes vs) ≡ python_numbers (map unused_of vs)
same_pythons bytes [] = refl
same_pythons bytes (v ∷ vs) =
    ap (λ n. refusing.◌>>=◌ n (λ n. refusing.◌>>=◌ (python_numbers (operands_over bytes vs)) (λ ns. Ok (n ∷ ns)))) (same_python bytes v)
    ∙ ap (λ l. refusing.◌>>=◌ (python_number (unused_of v)) (λ n. refusing.◌>>=◌ l (λ ns. Ok (n ∷ ns)))) (same_pythons bytes vs)

pub list_parts : (i : Inputs) (x : Element) (t : Option DType) (vs : List Value) (r : Running)
    → run i (perform (Computes (array_of_list x t)) (wholes (map value_of vs))) r ≡ run i (decide (array_of_list x t (map unused_of vs)) >>= give) (all_marked vs r)
list_parts i x t vs r =
    all_used i vs (λ os. decide (array_of_list x t os) >>= give) r
    ∙ ap (λ l. run i (decide (refusing.◌>>=◌ l (λ ns. refusing.◌>>=◌ (even_shape x) (λ shape. refusing.◌>>=◌ (element_for_list t ns) (λ e. array_of_numbers e shape ns)))) >>= give) (all_marked vs r)) (same_pythons r.bytes vs)

-- ---- operands that are not used

pub none_used : {A : Type 0} (vs : List Value) (go : List Operand → Eval A) → operands (unused (map value_of vs)) go ≡ go (map unused_of vs)
none_used [] go = refl
none_used (v ∷ vs) go =
    ap (λ t. t >>= λ o. operands (unused (map value_of vs)) (λ os. go (o ∷ os))) (not_used v) ∙ none_used vs (λ os. go (unused_of v ∷ os))

-- what is seen of a value, by values that are not used
pub view_parts : (i : Inputs) (w : Viewing) (v : Value) (ws : List Value) (r : Running)
    → run i (view_value w (value_of v) (map value_of ws)) r ≡ run i (decide (choose_of_first w (unused_of v) (map unused_of ws)) >>= choose_of (value_of v)) r
view_parts i w v ws r =
    ap (λ t. run i (t >>= λ o. operands (unused (map value_of ws)) (λ os. decide (choose_of_first w o os) >>= choose_of (value_of v))) r) (not_used v)
    ∙ ap (λ t. run i t r) (none_used ws (λ os. decide (choose_of_first w (unused_of v) os) >>= choose_of (value_of v)))

pub filled_parts : (f : Fill) (t : Option DType) (vs : List Value) → perform (Computes (filled f t)) (unused (map value_of vs)) ≡ (decide (filled f t (map unused_of vs)) >>= give)
filled_parts f t vs = none_used vs (λ os. decide (filled f t os) >>= give)

-- ---- and those that are

wholes-last : (vs : List Value) (v : Value) → wholes (map value_of vs) ++ (Whole, value_of v) ∷ [] ≡ wholes (map value_of (vs ++ v ∷ []))
wholes-last vs v = sym (ap (map (λ w. (Whole, w))) (map-append value_of vs (v ∷ [])) ∙ map-append (λ w. (Whole, w)) (map value_of vs) (value_of v ∷ []))

marked-last : (vs : List Value) (v : Value) (r : Running) → all_marked (vs ++ v ∷ []) r ≡ marked v (all_marked vs r)
marked-last [] v r = refl
marked-last (w ∷ vs) v r = marked-last vs v (marked w r)

last_is : (os : List Operand) (o : Operand) → last_of (os ++ o ∷ []) ≡ Ok (os, o)
last_is [] o = refl
last_is (p ∷ []) o = refl
last_is (p ∷ q ∷ os) o = ap (λ r. refusing.◌>>=◌ r (λ rest. Ok (p ∷ rest.0, rest.1))) (last_is (q ∷ os) o)

same_length : (bytes : Base → List ℕ) (v : Value) → length_of (operand_over bytes v) ≡ length_of (unused_of v)
same_length bytes (Number n) = refl
same_length bytes (Array a) = refl
same_length bytes (Row a) = refl

same_lengths : (bytes : Base → List ℕ) (vs : List Value) → lengths_of (operands_over bytes vs) ≡ lengths_of (map unused_of vs)
same_lengths bytes [] = refl
same_lengths bytes (v ∷ vs) =
    ap (λ n. refusing.◌>>=◌ n (λ n. refusing.◌>>=◌ (lengths_of (operands_over bytes vs)) (λ ns. Ok (n ∷ ns)))) (same_length bytes v)
    ∙ ap (λ l. refusing.◌>>=◌ (length_of (unused_of v)) (λ n. refusing.◌>>=◌ l (λ ns. Ok (n ∷ ns)))) (same_lengths bytes vs)

full_same : (t : Option DType) (bytes : Base → List ℕ) (vs : List Value) (o : Operand) → full t (operands_over bytes vs ++ o ∷ []) ≡ full_of t (map unused_of vs) o
full_same t bytes vs o =
    ap (λ r. refusing.◌>>=◌ r (λ parts. full_of t parts.0 parts.1)) (last_is (operands_over bytes vs) o)
    ∙ ap (λ l. refusing.◌>>=◌ l (λ shape. refusing.◌>>=◌ (without_axes o) (λ e. full_array t shape e))) (same_lengths bytes vs)

pub full_parts : (i : Inputs) (t : Option DType) (vs : List Value) (v : Value) (r : Running)
    → run i (perform (Computes (full t)) (wholes (map value_of vs) ++ (Whole, value_of v) ∷ [])) r
    ≡ run i (decide (full_of t (map unused_of vs) (operand_over r.bytes v)) >>= give) (marked v (all_marked vs r))
full_parts i t vs v r =
    ap (λ ws. run i (perform (Computes (full t)) ws) r) (wholes-last vs v)
    ∙ all_used i (vs ++ v ∷ []) (λ os. decide (full t os) >>= give) r
    ∙ ap (λ os. run i (decide (full t os) >>= give) (all_marked (vs ++ v ∷ []) r)) (map-append (operand_over r.bytes) vs (v ∷ []))
    ∙ ap (λ m. run i (decide m >>= give) (all_marked (vs ++ v ∷ []) r)) (full_same t r.bytes vs (operand_over r.bytes v))
    ∙ ap (run i (decide (full_of t (map unused_of vs) (operand_over r.bytes v)) >>= give)) (marked-last vs v r)

-- what comes after the uses, where the value's operand is lent by a session of these bytes
pub full_follows : (i : Inputs) (t : Option DType) (vs : List Value) (v : Value) (r s u : Running) (bytes : Base → List ℕ) (x : lent.Operand) (o : Result Value Stop)
    → s ≡ marked v (all_marked vs r) → bytes ≡ r.bytes → operand_of x ≡ operand_over bytes v
    → Ends value_of o u (run i (decide (full_of t (map unused_of vs) (operand_of x)) >>= give) s)
    → Ends value_of o u (run i (perform (Computes (full t)) (wholes (map value_of vs) ++ (Whole, value_of v) ∷ [])) r)
full_follows i t vs v r s u bytes x o mark kept is rest =
    let same : operand_over r.bytes v ≡ operand_of x = sym (is ∙ ap (λ b. operand_over b v) kept) in
    ends_alike value_of o u
    (full_parts i t vs v r ∙ ap (λ y. run i (decide (full_of t (map unused_of vs) y) >>= give) (marked v (all_marked vs r))) same
    ∙ ap (run i (decide (full_of t (map unused_of vs) (operand_of x)) >>= give)) (sym mark)) rest
