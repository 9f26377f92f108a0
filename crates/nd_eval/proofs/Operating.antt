-- An operand and the operators behind it, one after the other.
use Rattle.std.proofs.Common.{◌≡◌, ℕ, ◌+◌, ◌<◌, ◌≤◌, List, [], ◌∷◌, ◌++◌, length, get_or, take, drop, map, Result, Ok, Err, refl, sym, ap, subst, ◌∙◌, add-one, IsErrAnd, arith}
use Rattle.std.proofs.Math.Seq.{take-suc}
use Rattle.std.proofs.lemmas.Result.{err_from_is_err_and}
use Rattle.std.proofs.lemmas.List.{map-append, take-append-drop}
use Rattle.nd_model.specs.Cells.Fault.{Fault}
use Rattle.nd_model.specs.Grammar.Syntax.{Expr, BinaryOp, Binary}
use Rattle.nd_model.specs.Grammar.Tokens.{tokens_of}
use Rattle.nd_model.specs.Grammar.Cells.{chained}
use Rattle.nd_model.specs.Cells.Running.{Running, Inputs}
use Rattle.nd_model.specs.Cells.Evaluation.{run}
use Rattle.nd_model.specs.Cells.Meaning.{value}
use Rattle.nd_model.specs.Making.Elementwise.{binary}
use Rattle.nd_model.proofs.Steps.{goes_on, run_bind}
use Rattle.nd_syntax.specs.declared.trees.tree.Expr as tree
use Rattle.nd_syntax.specs.declared.trees.tree.BinaryOp as operators
use Rattle.nd_syntax.specs.Trees.Lists.{operation_of}
use Rattle.nd_heap.specs.declared.value.Value.{Value}
use Rattle.nd_heap.specs.Values.{value_of}
use Rattle.nd_operation.specs.declared.refusals.stop.Stop.{Stop}
use Rattle.nd_operation.specs.declared.refusals.stop.Stop.TheVariants.{Memory, Refused}
use Rattle.nd_eval.specs.Ends.{Ends}
use Rattle.nd_operation.specs.Refusals.Faults.{fault_of}
use Rattle.nd_eval.specs.Parts.{binary_value}
use Rattle.nd_eval.proofs.Chains.{ends_as, follows}
use Rattle.nd_operation.proofs.operators.InTurn.{next_item}

-- the last operator stands outermost
pub chained-last : (e : Expr) (xs : List (BinaryOp × Expr)) (x : BinaryOp × Expr) (ys : List (BinaryOp × Expr)) → chained e (xs ++ x ∷ ys) ≡ chained (Binary x.0 (chained e xs) x.1) ys
chained-last e [] x ys = refl
chained-last e (y ∷ xs) x ys = chained-last (Binary y.0 e y.1) xs x ys

-- what is refused is refused whatever stands behind it
refused_chain : (i : Inputs) (e : Expr) (ys : List (BinaryOp × Expr)) (r s : Running) (f : Fault) → run i (value e) r ≡ (Err f, s) → run i (value (chained e ys)) r ≡ (Err f, s)
refused_chain i e [] r s f h = h
refused_chain i e (y ∷ ys) r s f h =
    refused_chain i (Binary y.0 e y.1) ys r s f (run_bind i (value e) (λ v. binary_value (binary y.0) v y.1) r ∙ ap (λ m. goes_on i m (λ v. binary_value (binary y.0) v y.1)) h)

stopped_chain : (i : Inputs) (e : Expr) (ys : List (BinaryOp × Expr)) (r s : Running) (x : Stop) → Ends value_of (Err x) s (run i (value e) r) → Ends value_of (Err x) s (run i (value (chained e ys)) r)
stopped_chain i e ys r s (Memory m) h = tt
stopped_chain i e ys r s (Refused f) h = refused_chain i e ys r s (fault_of f) h

-- the exit by `?`
pub exits_chain : (i : Inputs) (e : Expr) (ys : List (BinaryOp × Expr)) (r s : Running) (x : Stop) (o : Result Value Stop)
    → IsErrAnd o (λ y. y ≡ x) → Ends value_of (Err x) s (run i (value e) r) → Ends value_of o s (run i (value (chained e ys)) r)
exits_chain i e ys r s x o is h =
    let p : (y : Stop) × (o ≡ Err y) × (y ≡ x) = err_from_is_err_and o is in
    subst (λ (o : Result Value Stop). Ends value_of o s (run i (value (chained e ys)) r)) (sym (p.1 ∙ ap Err p.2)) (stopped_chain i e ys r s x h)

module _ (ops : List (operators.BinaryOp × tree.Expr)) (k : ℕ) (x : operators.BinaryOp × tree.Expr) (lt : k < length ops) (is : x ≡ get_or ops k x) where
  one_more : map operation_of (take (k + 1) ops) ≡ map operation_of (take k ops) ++ operation_of x ∷ []
  one_more =
      ap (λ n. map operation_of (take n ops)) (add-one k) ∙ ap (map operation_of) (take-suc ops k x lt ∙ ap (λ y. take k ops ++ y ∷ []) (sym is))
      ∙ map-append operation_of (take k ops) (x ∷ [])

  -- with one operator more
  pub chain_step : (e : Expr) → chained e (map operation_of (take (k + 1) ops)) ≡ Binary (operation_of x).0 (chained e (map operation_of (take k ops))) (operation_of x).1
  chain_step e = ap (chained e) one_more ∙ chained-last e (map operation_of (take k ops)) (operation_of x) []

  -- and with all
  pub chain_rest : (e : Expr) → chained e (map operation_of ops) ≡ chained (chained e (map operation_of (take (k + 1) ops))) (map operation_of (drop (k + 1) ops))
  chain_rest e =
      ap (λ l. chained e (map operation_of l)) (sym (take-append-drop k ops) ∙ ap (λ l. take k ops ++ l) (next_item ops k x lt is))
      ∙ ap (chained e) (map-append operation_of (take k ops) (x ∷ drop (k + 1) ops))
      ∙ chained-last e (map operation_of (take k ops)) (operation_of x) (map operation_of (drop (k + 1) ops))
      ∙ ap (λ f. chained f (map operation_of (drop (k + 1) ops))) (sym (chain_step e))

module _ (i : Inputs) (e : Expr) (ops : List (operators.BinaryOp × tree.Expr)) (k : ℕ) (x : operators.BinaryOp × tree.Expr) (lt : k < length ops) (is' : x ≡ get_or ops k x) where
  abbrev so_far : Expr
  so_far = chained e (map operation_of (take k ops))

  -- the exit by `?` there
  pub exits_later : (found : Value) (r s u : Running) (f : Stop) (o : Result Value Stop) → run i (value so_far) r ≡ (Ok (value_of found), s)
      → IsErrAnd o (λ y. y ≡ f) → Ends value_of (Err f) u (run i (binary_value (binary (operation_of x).0) (value_of found) (operation_of x).1) s) → Ends value_of o u (run i (value (chained e (map operation_of ops))) r)
  exits_later found r s u f o same is h =
      ends_as value_of i r u o (ap value (chain_rest ops k x lt is' e))
      (exits_chain i (chained e (map operation_of (take (k + 1) ops))) (map operation_of (drop (k + 1) ops)) r u f o is
      (ends_as value_of i r u (Err f) (ap value (chain_step ops k x lt is' e))
      (follows value_of value_of i (value so_far) (λ v. binary_value (binary (operation_of x).0) v (operation_of x).1) r s u found (Err f) same h)))

-- an operand has no more tokens than it has with operators behind it
pub fewer_tokens : (e : Expr) (xs : List (BinaryOp × Expr)) → tokens_of e ≤ tokens_of (chained e xs)
fewer_tokens e [] = omega arith
fewer_tokens e (x ∷ xs) = omega (arith, fewer_tokens (Binary x.0 e x.1) xs)
