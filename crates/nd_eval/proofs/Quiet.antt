-- Statements that print nothing, so that no limit meets them.
use Rattle.std.proofs.Common.{◌≡◌, ℕ, zero, suc, Bool, true, false, List, [], ◌∷◌, Result, Ok, Err, refl}
use Rattle.nd_model.specs.Cells.Fault.{Fault, Stmt, BadArgument}
use Rattle.nd_model.specs.Formats.Files.{operand_file, save}
use Rattle.nd_model.specs.Cells.InputName.{is_input_name}
use Rattle.nd_model.specs.Arrays.Value as model
use Rattle.nd_model.specs.Arrays.Value.{Int, Truth, Scalar, Array, Row}
use Rattle.nd_model.specs.Cells.Running.{Running, Inputs, reply, after, Effect, Nothing, Prints, Saves, Binding, Unbinding, Storing}
use Rattle.nd_model.specs.Cells.Refusing as refusing
use Rattle.nd_model.specs.Grammar.Syntax.{Expr, Index, BinaryOp, Augment, AugmentItem, Bind, Assign, Delete, Save}
use Rattle.nd_model.specs.Cells.Evaluation.{Eval, Gives, Refuses, Asks, run, ◌>>=◌, decide}
use Rattle.nd_model.specs.Making.Operand.{Operand, Plain, Elements, Usage, Whole, Unused, Made, ANumber, AnArray, Deed, BindsFirst, BindsMade, SavesFile, Unbinds, Writes}
use Rattle.nd_model.specs.Cells.Operation.{Views, Named, Plans, Done, And, perform, evaluate, evaluate_all, act_on, do_deed, give, with_value, store_in}
use Rattle.nd_model.specs.Arrays.Content.{Content}
use Rattle.nd_model.specs.Indexing.Index.{has_array}
use Rattle.nd_model.specs.Arrays.View.{Geo}
use Rattle.nd_model.specs.Indexing.Viewing.{Viewing}
use Rattle.nd_model.specs.Making.Writing.{assignment_writes}
use Rattle.nd_model.specs.Making.Elementwise.{binary}
use Rattle.nd_model.specs.Making.Augmenting.{array_in_place, augment_array, augment_item, augment_name, deed_of_made, in_place_writes, operand_of_made}
use Rattle.nd_model.specs.Cells.Meaning.{plan, one, two, viewing_of, index_plans, assignment_deed, meaning}
use Rattle.nd_model.proofs.Soundness.{Safe, safe_bind, safe_operands, IfGiven, given_run}
use Rattle.nd_operation.specs.declared.refusals.stop.Stop.{Stop}
use Rattle.nd_eval.specs.Ends.{Ends}
use Rattle.nd_eval.specs.Lines.{limit_effect}

abbrev IsQuiet : Running → Effect → Type 0
IsQuiet r Nothing = Unit {0}
IsQuiet r (Prints t) = ⊥
IsQuiet r (Saves n f) = Unit {0}
IsQuiet r (Binding n v) = Unit {0}
IsQuiet r (Unbinding n) = Unit {0}
IsQuiet r (Storing b ws) = Unit {0}

abbrev Always : {A : Type 0} → Running → A → Type 0
Always r x = Unit {0}

anything : {A : Type 0} (i : Inputs) (r : Running) (t : Eval A) → Safe Always i r t
anything i r (Gives x) = tt
anything i r (Refuses f) = tt
anything i r (Asks a go) = anything i (after a r) (go (reply i a r))

quiet_plans : (i : Inputs) (r : Running) (ps : Plans) (k : List (Usage × model.Value) → Eval Effect) → ((q : Running) (vs : List (Usage × model.Value)) → Safe IsQuiet i q (k vs))
    → Safe IsQuiet i r (evaluate_all ps k)
quiet_plans i r Done k h = h r []
quiet_plans i r (And u p ps) k h =
    safe_bind Always IsQuiet i r (evaluate p) (λ v. evaluate_all ps (λ vs. k ((u, v) ∷ vs))) (anything i r (evaluate p)) (λ q v g always. quiet_plans i q ps (λ vs. k ((u, v) ∷ vs)) (λ q vs. h q ((u, v) ∷ vs)))

quiet_with : (i : Inputs) (r : Running) (vs : List (Usage × model.Value)) (n : ℕ) (k : model.Value → Eval Effect) → ((v : model.Value) → Safe IsQuiet i r (k v)) → Safe IsQuiet i r (with_value vs n k)
quiet_with i r [] n k h = tt
quiet_with i r (v ∷ vs) zero k h = h v.1
quiet_with i r (v ∷ vs) (suc n) k h = quiet_with i r vs n k h

quiet_store : (i : Inputs) (r : Running) (ws : List (ℕ × ℕ)) (v : model.Value) → Safe IsQuiet i r (store_in ws v)
quiet_store i r ws (Int z) = tt
quiet_store i r ws (Truth t) = tt
quiet_store i r ws (Scalar k z) = tt
quiet_store i r ws (Array b g) = tt
quiet_store i r ws (Row b g) = tt

writes_only : (i : Inputs) (r : Running) (vs : List (Usage × model.Value)) (k : ℕ) (m : Result (List (ℕ × ℕ)) Fault)
    → Safe IsQuiet i r (decide (refusing.◌>>=◌ m (λ ws. Ok (Writes k ws))) >>= do_deed vs)
writes_only i r vs k (Ok ws) = quiet_with i r vs k (store_in ws) (quiet_store i r ws)
writes_only i r vs k (Err f) = tt

quiet_deed : (w : Viewing) (i : Inputs) (r : Running) (vs : List (Usage × model.Value)) (os : List Operand) → Safe IsQuiet i r (decide (assignment_deed w os) >>= do_deed vs)
quiet_deed w i r vs [] = tt
quiet_deed w i r vs (v ∷ []) = tt
quiet_deed w i r vs (v ∷ t ∷ os) = writes_only i r vs 1 (assignment_writes w v t os)

quiet_act : (i : Inputs) (r : Running) (f : List Operand → Result Deed Fault) (ps : Plans) → ((q : Running) (vs : List (Usage × model.Value)) (os : List Operand) → Safe IsQuiet i q (decide (f os) >>= do_deed vs))
    → Safe IsQuiet i r (evaluate_all ps (act_on f))
quiet_act i r f ps h = quiet_plans i r ps (act_on f) (λ q vs. safe_operands IsQuiet i q vs (λ os. decide (f os) >>= do_deed vs) (λ p os g is. h p vs os))

-- what is bound to what an operator makes, and what is assigned of it
binds_only : (i : Inputs) (r : Running) (vs : List (Usage × model.Value)) (n : List ℕ) (m : Result Made Fault)
    → Safe IsQuiet i r (decide (refusing.◌>>=◌ m (λ made. Ok (BindsMade n made))) >>= do_deed vs)
binds_only i r vs n (Ok made) = safe_bind Always IsQuiet i r (give made) (λ v. Gives (Binding n v)) (anything i r (give made)) (λ q v g always. tt)
binds_only i r vs n (Err f) = tt

quiet_made : (i : Inputs) (r : Running) (vs : List (Usage × model.Value)) (made : Made) (ws : List (ℕ × ℕ)) → Safe IsQuiet i r (do_deed vs (deed_of_made made ws))
quiet_made i r vs (ANumber n) ws = quiet_with i r vs 2 (store_in ws) (quiet_store i r ws)
quiet_made i r vs (AnArray t shape f) ws =
    safe_bind Always IsQuiet i r (give (AnArray t shape f)) (λ v. with_value vs 2 (store_in ws)) (anything i r (give (AnArray t shape f))) (λ q v g always. quiet_with i q vs 2 (store_in ws) (quiet_store i q ws))

assigns_only : (i : Inputs) (r : Running) (vs : List (Usage × model.Value)) (m : Result Made Fault) (k : Made → Result (List (ℕ × ℕ)) Fault)
    → Safe IsQuiet i r (decide (refusing.◌>>=◌ m (λ made. refusing.◌>>=◌ (k made) (λ ws. Ok (deed_of_made made ws)))) >>= do_deed vs)
assigns_only i r vs (Err f) k = tt
assigns_only i r vs (Ok made) k = by (k made)
  where
    by : (q : Result (List (ℕ × ℕ)) Fault) → Safe IsQuiet i r (decide (refusing.◌>>=◌ q (λ ws. Ok (deed_of_made made ws))) >>= do_deed vs)
    by (Ok ws) = quiet_made i r vs made ws
    by (Err f) = tt

quiet_name : (n : List ℕ) (op : BinaryOp) (i : Inputs) (r : Running) (vs : List (Usage × model.Value)) (os : List Operand) → Safe IsQuiet i r (decide (two (augment_name n op) os) >>= do_deed vs)
quiet_name n op i r vs [] = tt
quiet_name n op i r vs (x ∷ []) = tt
quiet_name n op i r vs (Plain k ∷ y ∷ []) = binds_only i r vs n (binary op (Plain k) y)
quiet_name n op i r vs (Elements false g cs ∷ y ∷ []) = writes_only i r vs 0 (in_place_writes op g cs y)
quiet_name n op i r vs (Elements true g cs ∷ y ∷ []) = binds_only i r vs n (binary op (Elements true g cs) y)
quiet_name n op i r vs (x ∷ y ∷ z ∷ os) = tt

-- what is stored of a copy
copies_only : (i : Inputs) (r : Running) (vs : List (Usage × model.Value)) (m : Result Operand Fault) (k : Operand → Result (List (ℕ × ℕ)) Fault)
    → Safe IsQuiet i r (decide (refusing.◌>>=◌ m (λ x. refusing.◌>>=◌ (k x) (λ ws. Ok (Writes 2 ws)))) >>= do_deed vs)
copies_only i r vs (Ok x) k = writes_only i r vs 2 (k x)
copies_only i r vs (Err f) k = tt

quiet_array : (i : Inputs) (r : Running) (vs : List (Usage × model.Value)) (is_copy : Bool) (op : BinaryOp) (w : Viewing) (g : Geo) (cs : List Content) (y t : Operand) (os : List Operand)
    → Safe IsQuiet i r (decide (augment_array is_copy op w g cs y t os) >>= do_deed vs)
quiet_array i r vs false op w g cs y t os = writes_only i r vs 1 (in_place_writes op g cs y)
quiet_array i r vs true op w g cs y t os = copies_only i r vs (array_in_place op g cs y) (λ x. assignment_writes w x t os)

quiet_item : (op : BinaryOp) (w : Viewing) (i : Inputs) (r : Running) (vs : List (Usage × model.Value)) (os : List Operand) → Safe IsQuiet i r (decide (augment_item op w os) >>= do_deed vs)
quiet_item op w i r vs [] = tt
quiet_item op w i r vs (y ∷ []) = tt
quiet_item op w i r vs (y ∷ Plain k ∷ []) = tt
quiet_item op w i r vs (y ∷ Elements false g cs ∷ []) = tt
quiet_item op w i r vs (y ∷ Elements true g cs ∷ []) = tt
quiet_item op w i r vs (y ∷ Plain k ∷ t ∷ os) = assigns_only i r vs (binary op (Plain k) y) (λ m. assignment_writes w (operand_of_made m) t os)
quiet_item op w i r vs (y ∷ Elements false g cs ∷ t ∷ os) = quiet_array i r vs (has_array os) op w g cs y t os
quiet_item op w i r vs (y ∷ Elements true g cs ∷ t ∷ os) = assigns_only i r vs (binary op (Elements true g cs) y) (λ m. assignment_writes w (operand_of_made m) t os)

-- a file that is saved
saves_only : (i : Inputs) (r : Running) (vs : List (Usage × model.Value)) (n : List ℕ) (m : Result (List ℕ) Fault)
    → Safe IsQuiet i r (decide (refusing.◌>>=◌ m (λ file. Ok (SavesFile n file))) >>= do_deed vs)
saves_only i r vs n (Ok file) = tt
saves_only i r vs n (Err f) = tt

quiet_save : (n : List ℕ) (i : Inputs) (r : Running) (vs : List (Usage × model.Value)) (os : List Operand) → Safe IsQuiet i r (decide (one (save n) os) >>= do_deed vs)
quiet_save n i r vs [] = tt
quiet_save n i r vs (o ∷ []) =
    elim (is_input_name n)
    as (λ t. Safe IsQuiet i r (decide (refusing.when t (Stmt BadArgument) (refusing.◌>>=◌ (operand_file o) (λ file. Ok (SavesFile n file)))) >>= do_deed vs)) [
      | true ↦ saves_only i r vs n (operand_file o)
      | false ↦ tt
    ]
quiet_save n i r vs (o ∷ p ∷ os) = tt

unlimited : (m : Result Effect Fault × Running) → IfGiven IsQuiet m → limit_effect m ≡ m
unlimited (Ok Nothing, r) h = refl
unlimited (Ok (Prints t), r) h = absurd h
unlimited (Ok (Saves n f), r) h = refl
unlimited (Ok (Binding n v), r) h = refl
unlimited (Ok (Unbinding n), r) h = refl
unlimited (Ok (Storing b ws), r) h = refl
unlimited (Err f, r) h = refl

quiet : {Y : Type 0} (w : Y → Effect) (i : Inputs) (t : Eval Effect) (r s : Running) (o : Result Y Stop) → Safe IsQuiet i r t → Ends w o s (run i t r) → Ends w o s (limit_effect (run i t r))
quiet w i t r s o safe h = rw (unlimited (run i t r) (given_run IsQuiet i r t safe)) h

module _ {Y : Type 0} (w : Y → Effect) (i : Inputs) (r s : Running) (o : Result Y Stop) where
  pub quiet_binding : (n : List ℕ) (e : Expr) → Ends w o s (run i (meaning (Bind n e)) r) → Ends w o s (limit_effect (run i (meaning (Bind n e)) r))
  quiet_binding n e h =
      quiet w i (meaning (Bind n e)) r s o (quiet_act i r (λ os. Ok (BindsFirst n)) (And Unused (plan e) Done) (λ q vs os. quiet_with i q vs 0 (λ v. Gives (Binding n v)) (λ v. tt))) h

  pub quiet_assignment : (t : Expr) (x : Index) (e : Expr) → Ends w o s (run i (meaning (Assign t x e)) r) → Ends w o s (limit_effect (run i (meaning (Assign t x e)) r))
  quiet_assignment t x e h = quiet w i (meaning (Assign t x e)) r s o (quiet_act i r (assignment_deed (viewing_of x)) (And Whole (plan e) (And Unused (plan t) (index_plans x))) (quiet_deed (viewing_of x) i)) h

  pub quiet_augment : (n : List ℕ) (op : BinaryOp) (e : Expr) → Ends w o s (run i (meaning (Augment n op e)) r) → Ends w o s (limit_effect (run i (meaning (Augment n op e)) r))
  quiet_augment n op e h = quiet w i (meaning (Augment n op e)) r s o (quiet_act i r (two (augment_name n op)) (And Whole (Named n) (And Whole (plan e) Done)) (quiet_name n op i)) h

  pub quiet_augment_item : (t : Expr) (x : Index) (op : BinaryOp) (e : Expr) → Ends w o s (run i (meaning (AugmentItem t x op e)) r) → Ends w o s (limit_effect (run i (meaning (AugmentItem t x op e)) r))
  quiet_augment_item t x op e h =
      quiet w i (meaning (AugmentItem t x op e)) r s o
      (quiet_plans i r (And Unused (plan t) (index_plans x)) (λ vs. perform (Views (viewing_of x)) vs >>= λ v. evaluate (plan e) >>= λ y. act_on (augment_item op (viewing_of x)) ((Whole, y) ∷ (Whole, v) ∷ vs))
      (λ q vs. safe_bind Always IsQuiet i q (perform (Views (viewing_of x)) vs) _ (anything i q (perform (Views (viewing_of x)) vs))
      (λ p v g always. safe_bind Always IsQuiet i p (evaluate (plan e)) _ (anything i p (evaluate (plan e)))
      (λ m y g always. safe_operands IsQuiet i m ((Whole, y) ∷ (Whole, v) ∷ vs) (λ os. decide (augment_item op (viewing_of x) os) >>= do_deed ((Whole, y) ∷ (Whole, v) ∷ vs))
      (λ k os g is. quiet_item op (viewing_of x) i k ((Whole, y) ∷ (Whole, v) ∷ vs) os))))) h

  pub quiet_saving : (n : List ℕ) (e : Expr) → Ends w o s (run i (meaning (Save n e)) r) → Ends w o s (limit_effect (run i (meaning (Save n e)) r))
  quiet_saving n e h = quiet w i (meaning (Save n e)) r s o (quiet_act i r (one (save n)) (And Whole (plan e) Done) (quiet_save n i)) h

  pub quiet_deletion : (n : List ℕ) → Ends w o s (run i (meaning (Delete n)) r) → Ends w o s (limit_effect (run i (meaning (Delete n)) r))
  quiet_deletion n h = quiet w i (meaning (Delete n)) r s o (quiet_act i r (λ os. Ok (Unbinds n)) (And Unused (Named n) Done) (λ q vs os. tt)) h
