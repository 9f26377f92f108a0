-- How many bases an evaluation makes.
use Rattle.std.proofs.Common.{◌≡◌, ℕ, ℤ, ◌+◌, ◌≤◌, Bool, true, false, List, [], ◌∷◌, ◌++◌, Option, None, Result, Ok, refl, subst, arith}
use Rattle.nd_model.specs.Arrays.Value.{Value}
use Rattle.nd_model.specs.Cells.Fault.{Fault}
use Rattle.nd_model.specs.Grammar.Syntax.{Expr, Bound, Omitted, Given, Elements, NoElement, AndElement, Element, Single, Nested, Exprs, NoExpr, AndExpr, Method, Copy, AsType, Transpose, Reshape, ViewAs, Reduced, Accumulated, Axis, DefaultAxis, AllAxes, AtAxis, Index, Field, Items, IndexItems, IndexItem, AndItem, NoItem, At, Slice, Ellipsis, NewAxis, Listed, Stmt}
use Rattle.nd_model.specs.Grammar.Cells.{Suffix, AtIndex, OfMethod}
use Rattle.nd_model.specs.Grammar.Calls.{Accumulation}
use Rattle.nd_model.specs.Making.Creation.{array_of_list, copy_array, astype}
use Rattle.nd_model.specs.Making.Reductions.{reduce_array, accumulate_array}
use Rattle.nd_model.specs.Grammar.Tokens.{tokens_of, tokens_of_bound, tokens_of_step, tokens_of_index, tokens_of_items, tokens_of_item, tokens_of_elements, tokens_of_others, tokens_of_element, tokens_of_all, tokens_of_exprs, tokens_of_axis, tokens_of_first, tokens_of_number, tokens_of_method, tokens_of_stmt}
use Rattle.nd_model.specs.Cells.Running.{Inputs, Running, Effect, Nothing, Prints, Saves, Binding, Unbinding, Storing, done}
use Rattle.nd_model.specs.Cells.Evaluation.{Eval, Gives, run, ◌>>=◌}
use Rattle.nd_model.specs.Making.Operand.{Operand, Made, Whole, ArraysOnly, Unused}
use Rattle.nd_model.specs.Indexing.Viewing.{Viewing, Transposed, Reshaped, ViewedAs}
use Rattle.nd_model.specs.Cells.Operation.{Computes, Views, perform}
use Rattle.nd_model.specs.Indexing.Index.{AtForm}
use Rattle.nd_model.specs.Cells.Meaning as meaning
use Rattle.nd_model.specs.Cells.Meaning.{is_empty_list}
use Rattle.nd_model.proofs.Bases.{Few, few_more, few_bind, few_run, few_plan, few_performed, few_work, at_expr, at_stmt}
use Rattle.nd_eval.specs.Parts.{accumulation_value, reduction_value, bound_exprs, choose_value, exprs_in, exprs_of_element, index_parts, item_parts, items_parts, items_then, IndexParts, ItemParts, list_parts, list_value, listed, wholes, method_value, suffix_value, unused, view_value, viewed_value, values_behind, values_then, values}
use Rattle.nd_eval.specs.Suffixes.{axis_tokens, suffix_tokens}

few_value : (e : Expr) → Few (meaning.value e) (tokens_of e)
few_value e = few_more (meaning.value e) _ _ (at_expr e) (few_plan (meaning.plan e))

few_then : {A : Type 0} (es : List Expr) (go : List Value → Eval A) (n : ℕ) → ((vs : List Value) → Few (go vs) n) → Few (values_then es go) (tokens_of_all es + n)
few_then [] go n h = few_more (go []) n _ (omega arith) (h [])
few_then (e ∷ es) go n h =
    few_more (meaning.value e >>= λ v. values_then es (λ vs. go (v ∷ vs))) (tokens_of e + (tokens_of_all es + n)) _ (omega arith)
    (few_bind (meaning.value e) _ (tokens_of e) (tokens_of_all es + n) (few_value e) (λ v. few_then es (λ vs. go (v ∷ vs)) n (λ vs. h (v ∷ vs))))

few_meaning : (s : Stmt) → Few (meaning.meaning s) (tokens_of_stmt s)
few_meaning s = few_more (meaning.meaning s) _ _ (at_stmt s) (few_work (meaning.work s))

-- ---- the number after

-- what was evaluated to its end
ended_next : {A : Type 0} (i : Inputs) (t : Eval A) (n : ℕ) (r s : Running) (o : Result A Fault) → Few t n → run i t r ≡ (o, s) → s.next ≤ r.next + n
ended_next {A} i t n r s o few h = subst (λ (x : Result A Fault × Running). x.1.next ≤ r.next + n) h (few_run i t r n few)

pub next_value : (i : Inputs) (e : Expr) (r s : Running) (o : Result Value Fault) → run i (meaning.value e) r ≡ (o, s) → s.next ≤ r.next + tokens_of e
next_value i e r s o h = ended_next i (meaning.value e) (tokens_of e) r s o (few_value e) h

pub next_values : (i : Inputs) (es : List Expr) (r s : Running) (o : Result (List Value) Fault) → run i (values es) r ≡ (o, s) → s.next ≤ r.next + tokens_of_all es
next_values i es r s o h = omega (arith, ended_next i (values es) (tokens_of_all es + 0) r s o (few_then es Gives 0 (λ vs. tt)) h)

few_bound : (b : Bound) → Few (values (bound_exprs b)) (tokens_of_bound b)
few_bound Omitted = tt
few_bound (Given e) = few_more (values (e ∷ [])) (tokens_of e + 0) _ (omega arith) (few_bind (meaning.value e) _ (tokens_of e) 0 (few_value e) (λ v. tt))

pub next_bound : (i : Inputs) (b : Bound) (r s : Running) (o : Result (List Value) Fault) → run i (values (bound_exprs b)) r ≡ (o, s) → s.next ≤ r.next + tokens_of_bound b
next_bound i b r s o h = ended_next i (values (bound_exprs b)) (tokens_of_bound b) r s o (few_bound b) h

-- ---- what goes on a value

-- expressions with a comma before each
listed_tokens : (es : Exprs) → tokens_of_all (listed es) ≤ tokens_of_exprs es
listed_tokens NoExpr = omega arith
listed_tokens (AndExpr e es) = omega (arith, listed_tokens es)

axes_tokens : (es : Exprs) → tokens_of_all (listed es) ≤ tokens_of_method (Transpose es)
axes_tokens NoExpr = omega arith
axes_tokens (AndExpr e es) = omega (arith, listed_tokens es)

lengths_tokens : (es : Exprs) → tokens_of_all (listed es) ≤ tokens_of_method (Reshape es)
lengths_tokens NoExpr = omega arith
lengths_tokens (AndExpr e es) = omega (arith, listed_tokens es)

few_viewed : (w : Viewing) (es : List Expr) (v : Value) → Few (viewed_value w es v) (tokens_of_all es + 0 + 1)
few_viewed w es v = few_bind (values es) (view_value w v) (tokens_of_all es + 0) 1 (few_then es Gives 0 (λ vs. tt)) (λ ws. few_performed (Views w) ((Unused, v) ∷ unused ws))

-- ---- folds

few_reduction : (f : Operand → Option ℤ → Result Made Fault) (otherwise : Option ℤ) (a : Axis) (v : Value) → Few (reduction_value f otherwise a v) (1 + axis_tokens a)
few_reduction f otherwise DefaultAxis v = few_performed (Computes (meaning.one (λ o. f o otherwise))) ((Whole, v) ∷ [])
few_reduction f otherwise AllAxes v = few_performed (Computes (meaning.one (λ o. f o None))) ((Whole, v) ∷ [])
few_reduction f otherwise (AtAxis e) v =
    few_more (reduction_value f otherwise (AtAxis e) v) (tokens_of e + 1) _ (omega arith)
    (few_bind (meaning.value e) _ (tokens_of e) 1 (few_value e) (λ w. few_performed (Computes (meaning.two (meaning.along f))) ((Whole, v) ∷ (Whole, w) ∷ [])))

few_accumulation : (f : Operand → Option ℤ → Result Made Fault) (otherwise : Option ℤ) (a : Bound) (v : Value) → Few (accumulation_value f otherwise a v) (1 + tokens_of_bound a)
few_accumulation f otherwise Omitted v = few_performed (Computes (meaning.one (λ o. f o otherwise))) ((Whole, v) ∷ [])
few_accumulation f otherwise (Given e) v =
    few_more (accumulation_value f otherwise (Given e) v) (tokens_of e + 1) _ (omega arith)
    (few_bind (meaning.value e) _ (tokens_of e) 1 (few_value e) (λ w. few_performed (Computes (meaning.two (meaning.along f))) ((Whole, v) ∷ (Whole, w) ∷ [])))

pub first_tokens : (a : Axis) (keep : Bool) → axis_tokens a ≤ tokens_of_first a keep
first_tokens DefaultAxis keep = omega arith
first_tokens AllAxes keep = omega arith
first_tokens (AtAxis e) keep = omega arith

pub axis_behind : (a : Axis) → axis_tokens a ≤ tokens_of_axis a
axis_behind DefaultAxis = omega arith
axis_behind AllAxes = omega arith
axis_behind (AtAxis e) = omega arith

pub accumulated_tokens : (f : Accumulation) (a : Bound) → tokens_of_bound a ≤ tokens_of_method (Accumulated f a)
accumulated_tokens f Omitted = omega arith
accumulated_tokens f (Given e) = omega arith

pub bound_behind : (a : Bound) → tokens_of_bound a ≤ tokens_of_number a
bound_behind Omitted = omega arith
bound_behind (Given e) = omega arith

few_method : (m : Method) (v : Value) → Few (method_value m v) (1 + tokens_of_method m)
few_method Copy v = few_more (method_value Copy v) 1 _ (omega arith) (few_performed (Computes (meaning.one copy_array)) ((Whole, v) ∷ []))
few_method (AsType t) v = few_more (method_value (AsType t) v) 1 _ (omega arith) (few_performed (Computes (meaning.one (astype t))) ((Whole, v) ∷ []))
few_method (Transpose axes) v = few_more (method_value (Transpose axes) v) (tokens_of_all (listed axes) + 0 + 1) _ (omega (arith, axes_tokens axes)) (few_viewed Transposed (listed axes) v)
few_method (Reshape shape) v = few_more (method_value (Reshape shape) v) (tokens_of_all (listed shape) + 0 + 1) _ (omega (arith, lengths_tokens shape)) (few_viewed Reshaped (listed shape) v)
few_method (ViewAs t) v = few_more (method_value (ViewAs t) v) 1 _ (omega arith) (few_performed (Views (ViewedAs t)) ((Unused, v) ∷ []))
few_method (Reduced f a keep) v = few_more (method_value (Reduced f a keep) v) (1 + axis_tokens a) _ (omega (arith, first_tokens a keep)) (few_reduction (reduce_array f keep) None a v)
few_method (Accumulated f a) v = few_more (method_value (Accumulated f a) v) (1 + tokens_of_bound a) _ (omega (arith, accumulated_tokens f a)) (few_accumulation (accumulate_array f) None a v)

pub step_more : (b : Bound) → tokens_of_bound b ≤ tokens_of_step b
step_more Omitted = omega arith
step_more (Given e) = omega arith

-- ---- the expressions in a list

abbrev tokens_in : List Expr → ℕ
tokens_in [] = 0
tokens_in (e ∷ es) = tokens_of e + tokens_in es

tokens_in-append : (es fs : List Expr) → tokens_in (es ++ fs) ≡ tokens_in es + tokens_in fs
tokens_in-append [] fs = omega arith
tokens_in-append (e ∷ es) fs = omega (arith, tokens_in-append es fs)

mutual
  tokens_in_list : (es : Elements) → tokens_in (exprs_in es) ≤ tokens_of_elements es
  tokens_in_list NoElement = omega arith
  tokens_in_list (AndElement x xs) = omega (arith, tokens_in-append (exprs_of_element x) (exprs_in xs), tokens_in_element x, tokens_in_others xs)

  tokens_in_others : (es : Elements) → tokens_in (exprs_in es) ≤ tokens_of_others es
  tokens_in_others NoElement = omega arith
  tokens_in_others (AndElement x xs) = omega (arith, tokens_in-append (exprs_of_element x) (exprs_in xs), tokens_in_element x, tokens_in_others xs)

  tokens_in_element : (x : Element) → tokens_in (exprs_of_element x) ≤ tokens_of_element x
  tokens_in_element (Single e) = omega arith
  tokens_in_element (Nested es) = omega (arith, tokens_in_list es)

-- a list's tokens with a comma before each element
pub list_others : (es : Elements) → tokens_of_others es ≤ tokens_of_elements es + 1
list_others NoElement = omega arith
list_others (AndElement x xs) = omega arith

few_exprs : {A : Type 0} (es : List Expr) (k : List Value → Eval A) → ((ws : List Value) → Few (k ws) 0) → Few (values_then es k) (tokens_in es)
few_exprs [] k h = h []
few_exprs (e ∷ es) k h = few_bind (meaning.value e) (λ v. values_then es (λ ws. k (v ∷ ws))) (tokens_of e) (tokens_in es) (few_value e) (λ v. few_exprs es (λ ws. k (v ∷ ws)) (λ ws. h (v ∷ ws)))

few_behind : (vs : List Value) (es : List Expr) → Few (values_behind vs es) (tokens_in es)
few_behind vs es = few_exprs es (λ ws. Gives (vs ++ ws)) (λ ws. tt)

few_list : (es : Elements) → Few (list_value (Nested es) None) (tokens_in (exprs_in es) + 1)
few_list es =
    few_bind (values (exprs_in es)) (λ vs. perform (Computes (array_of_list (Nested es) None)) (wholes vs)) (tokens_in (exprs_in es)) 1 (few_exprs (exprs_in es) Gives (λ ws. tt))
    (λ vs. few_performed (Computes (array_of_list (Nested es) None)) (wholes vs))

-- a list as an item of an index
few_listed : (is_empty : Bool) (es : Elements) → Few (list_parts is_empty es) (2 + tokens_of_elements es)
few_listed true es = tt
few_listed false es =
    few_more (list_parts false es) (tokens_in (exprs_in es) + 1 + 0) _ (omega (arith, tokens_in_list es))
    (few_bind (list_value (Nested es) None) (λ v. Gives (AtForm, (ArraysOnly, v) ∷ [])) (tokens_in (exprs_in es) + 1) 0 (few_list es) (λ v. tt))

few_item : (x : IndexItem) → Few (item_parts x) (tokens_of_item x)
few_item (At e) = few_more (item_parts (At e)) (tokens_of e + 0) _ (omega arith) (few_bind (meaning.value e) _ (tokens_of e) 0 (few_value e) (λ v. tt))
few_item (Slice a b c) =
    few_more (item_parts (Slice a b c)) (tokens_of_bound a + (tokens_of_bound b + (tokens_of_bound c + 0))) _ (omega (arith, step_more c))
    (few_bind (values (bound_exprs a)) _ (tokens_of_bound a) (tokens_of_bound b + (tokens_of_bound c + 0)) (few_bound a)
    (λ xs. few_bind (values (bound_exprs b)) _ (tokens_of_bound b) (tokens_of_bound c + 0) (few_bound b)
    (λ ys. few_bind (values (bound_exprs c)) _ (tokens_of_bound c) 0 (few_bound c) (λ zs. tt))))
few_item Ellipsis = tt
few_item NewAxis = tt
few_item (Listed es) = few_listed (is_empty_list es) es

pub next_item_parts : (i : Inputs) (x : IndexItem) (r s : Running) (o : Result ItemParts Fault) → run i (item_parts x) r ≡ (o, s) → s.next ≤ r.next + tokens_of_item x
next_item_parts i x r s o h = ended_next i (item_parts x) (tokens_of_item x) r s o (few_item x) h

few_items : {A : Type 0} (is : IndexItems) (go : List ItemParts → Eval A) → ((xs : List ItemParts) → Few (go xs) 0) → Few (items_then is go) (tokens_of_items is)
few_items NoItem go h = h []
few_items (AndItem i is) go h =
    few_more (items_then (AndItem i is) go) (tokens_of_item i + tokens_of_items is) _ (omega arith)
    (few_bind (item_parts i) _ (tokens_of_item i) (tokens_of_items is) (few_item i) (λ x. few_items is (λ xs. go (x ∷ xs)) (λ xs. h (x ∷ xs))))

-- items with a comma before each
pub few_of_items : (is : IndexItems) → tokens_of_items is ≤ tokens_of_index (Items is) + 1
few_of_items NoItem = omega arith
few_of_items (AndItem i is) = omega arith

few_all_items : (is : IndexItems) → Few (items_parts is) (tokens_of_index (Items is))
few_all_items NoItem = tt
few_all_items (AndItem i is) = few_bind (item_parts i) _ (tokens_of_item i) (tokens_of_items is) (few_item i) (λ x. few_items is (λ xs. Gives (x ∷ xs)) (λ xs. tt))

few_index : (x : Index) → Few (index_parts x) (tokens_of_index x)
few_index (Field n) = tt
few_index (Items is) =
    few_more (index_parts (Items is)) (tokens_of_index (Items is) + 0) _ (omega arith) (few_bind (items_parts is) _ (tokens_of_index (Items is)) 0 (few_all_items is) (λ xs. tt))

few_suffix : (x : Suffix) (v : Value) → Few (suffix_value x v) (suffix_tokens x)
few_suffix (AtIndex x) v =
    few_more (index_parts x >>= choose_value v) (tokens_of_index x + 1) _ (omega arith)
    (few_bind (index_parts x) (choose_value v) (tokens_of_index x) 1 (few_index x) (λ p. few_performed (Views p.0) ((Unused, v) ∷ p.1)))
few_suffix (OfMethod m) v = few_more (method_value m v) (1 + tokens_of_method m) _ (omega arith) (few_method m v)

pub next_at_suffix : (i : Inputs) (x : Suffix) (v : Value) (r s : Running) (o : Result Value Fault) → run i (suffix_value x v) r ≡ (o, s) → s.next ≤ r.next + suffix_tokens x
next_at_suffix i x v r s o h = ended_next i (suffix_value x v) (suffix_tokens x) r s o (few_suffix x v) h

pub next_index : (i : Inputs) (x : Index) (r s : Running) (o : Result IndexParts Fault) → run i (index_parts x) r ≡ (o, s) → s.next ≤ r.next + tokens_of_index x
next_index i x r s o h = ended_next i (index_parts x) (tokens_of_index x) r s o (few_index x) h

-- the values of a list behind others
pub next_list : (i : Inputs) (vs : List Value) (es : Elements) (r s : Running) (o : Result (List Value) Fault) → run i (values_behind vs (exprs_in es)) r ≡ (o, s) → s.next ≤ r.next + tokens_of_elements es
next_list i vs es r s o h = omega (arith, tokens_in_list es, ended_next i (values_behind vs (exprs_in es)) (tokens_in (exprs_in es)) r s o (few_behind vs (exprs_in es)) h)

pub next_behind : (i : Inputs) (vs : List Value) (x : Element) (r s : Running) (o : Result (List Value) Fault) → run i (values_behind vs (exprs_of_element x)) r ≡ (o, s) → s.next ≤ r.next + tokens_of_element x
next_behind i vs x r s o h = omega (arith, tokens_in_element x, ended_next i (values_behind vs (exprs_of_element x)) (tokens_in (exprs_of_element x)) r s o (few_behind vs (exprs_of_element x)) h)

done_next : (e : Effect) (r : Running) → (done e r).next ≡ r.next
done_next Nothing r = refl
done_next (Prints text) r = refl
done_next (Saves name file) r = refl
done_next (Binding n v) r = refl
done_next (Unbinding n) r = refl
done_next (Storing b ws) r = refl

-- A STATEMENT makes at most as many bases as it has tokens, whether it is done or refused
pub next_done : (i : Inputs) (s : Stmt) (e : Effect) (r m x : Running) → run i (meaning.meaning s) r ≡ (Ok e, m) → x ≡ done e m → x.next ≤ r.next + tokens_of_stmt s
next_done i s e r m x h end =
    let made = ended_next i (meaning.meaning s) (tokens_of_stmt s) r m (Ok e) (few_meaning s) h in
    rw (end, done_next e m) made

pub next_ended : (i : Inputs) (s : Stmt) (r m : Running) → (run i (meaning.meaning s) r).1 ≡ m → m.next ≤ r.next + tokens_of_stmt s
next_ended i s r m h = subst (λ (x : Running). x.next ≤ r.next + tokens_of_stmt s) h (few_run i (meaning.meaning s) r (tokens_of_stmt s) (few_meaning s))
