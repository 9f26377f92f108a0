-- A statement makes at most one base for each of its tokens.
use Rattle.std.proofs.Common.{◌≡◌, ℕ, ℤ, pos, zero, suc, ◌+◌, ◌≤◌, Bool, true, false, cond, List, [], ◌∷◌, Option, Some, None, Result, Ok, Err, refl, arith}
use Rattle.nd_model.specs.Arrays.View.{ElementType, One, Structure, Geo, item_size}
use Rattle.nd_model.specs.Arrays.Content.{Content}
use Rattle.nd_model.specs.Arrays.Value.{Base, Value, Int, Truth, Scalar, Array, Row}
use Rattle.nd_model.specs.Arrays.Strides.{limit_fault}
use Rattle.nd_model.specs.Cells.Running.{Source, Inputs, Running, Lookup, Ask, Use, Make, reply, after, Effect, Nothing, Prints, Saves, Binding, Unbinding, Storing}
use Rattle.nd_model.specs.Cells.Fault.{Fault, ViewFault, BadArgument}
use Rattle.nd_model.specs.Cells.Fault as fault
use Rattle.nd_model.specs.Cells.InputName.{is_input_name}
use Rattle.nd_model.specs.Grammar.Syntax as syntax
use Rattle.nd_model.specs.Grammar.Syntax.{Expr, Call, Axis, Method, Elements, Element, Index, IndexItems, IndexItem, Stmt}
use Rattle.nd_model.specs.Grammar.Tokens.{tokens_of, tokens_of_call, tokens_of_axis, tokens_of_first, tokens_of_shape, tokens_of_lengths, tokens_of_exprs, tokens_of_bound, tokens_of_step, tokens_of_index, tokens_of_items, tokens_of_item, tokens_of_method, tokens_of_elements, tokens_of_others, tokens_of_element, tokens_of_all, tokens_of_stmt}
use Rattle.nd_model.specs.Cells.Evaluation.{Eval, Gives, Refuses, Asks, run, ◌>>=◌, decide}
use Rattle.nd_model.specs.Making.Operand as operand
use Rattle.nd_model.specs.Making.Operand.{Operand, Usage, Made, ANumber, AnArray, Loaded, AFile, ABuffer, Chosen, AnElement, AView, ACopy, Stretched, Deed, NoDeed, PrintsText, SavesFile, BindsFirst, BindsMade, Unbinds, Writes, MakesAndWrites}
use Rattle.nd_model.specs.Indexing.Viewing.{choose}
use Rattle.nd_model.specs.Cells.Operation
use Rattle.nd_model.specs.Cells.Operation.{operands, Operation, Computes, Views, perform, Plan, Named, FromInput, Does, Plans, Done, And, evaluate, with_values, evaluate_all, Work, Acts, ActsOn, do_work}
use Rattle.nd_model.specs.Making.Creation.{array_of_list}
use Rattle.nd_model.specs.Making.Reductions.{reduce_array, reduce_call}
use Rattle.nd_model.specs.Cells.Meaning
use Rattle.nd_model.specs.Cells.Cell.{had}
use Rattle.nd_model.specs.Cells.Bases.{FewBases}

-- ---- evaluations that make at most n bases

abbrev pub Few : {A : Type 0} → Eval A → ℕ → Type 0
Few (Gives x) n = Unit {0}
Few (Refuses f) n = Unit {0}
Few (Asks (Lookup m) go) n = (o : Option Value) → Few (go o) n
Few (Asks (Ask m) go) n = (o : Option Source) → Few (go o) n
Few (Asks (Use b ps) go) n = (l : List ℕ) → Few (go l) n
Few (Asks (Make l) go) n = (k : ℕ) × (suc k ≤ n) × ((b : Base) → Few (go b) k)

pub few_more : {A : Type 0} (t : Eval A) (m n : ℕ) → m ≤ n → Few t m → Few t n
few_more (Gives x) m n le h = tt
few_more (Refuses f) m n le h = tt
few_more (Asks (Lookup l) go) m n le h = λ o. few_more (go o) m n le (h o)
few_more (Asks (Ask l) go) m n le h = λ o. few_more (go o) m n le (h o)
few_more (Asks (Use b ps) go) m n le h = λ l. few_more (go l) m n le (h l)
few_more (Asks (Make l) go) m n le h = (h.0, omega (arith, h.1), h.2)

pub few_bind : {A B : Type 0} (t : Eval A) (k : A → Eval B) (m n : ℕ) → Few t m → ((x : A) → Few (k x) n) → Few (t >>= k) (m + n)
few_bind (Gives x) k m n h f = few_more (k x) n (m + n) (omega arith) (f x)
few_bind (Refuses e) k m n h f = tt
few_bind (Asks (Lookup l) go) k m n h f = λ o. few_bind (go o) k m n (h o) f
few_bind (Asks (Ask l) go) k m n h f = λ o. few_bind (go o) k m n (h o) f
few_bind (Asks (Use b ps) go) k m n h f = λ l. few_bind (go l) k m n (h l) f
few_bind (Asks (Make l) go) k m n h f = (h.0 + n, omega (arith, h.1), λ b. few_bind (go b) k h.0 n (h.2 b) f)

pub few_run : {A : Type 0} (i : Inputs) (t : Eval A) (r : Running) (n : ℕ) → Few t n → (run i t r).1.next ≤ r.next + n
few_run i (Gives x) r n h = omega arith
few_run i (Refuses f) r n h = omega arith
few_run i (Asks (Lookup l) go) r n h = few_run i (go (reply i (Lookup l) r)) (after (Lookup l) r) n (h (reply i (Lookup l) r))
few_run i (Asks (Ask l) go) r n h = few_run i (go (reply i (Ask l) r)) (after (Ask l) r) n (h (reply i (Ask l) r))
few_run i (Asks (Use b ps) go) r n h = few_run i (go (reply i (Use b ps) r)) (after (Use b ps) r) n (h (reply i (Use b ps) r))
few_run i (Asks (Make l) go) r n h = omega (arith, h.1, few_run i (go (reply i (Make l) r)) (after (Make l) r) h.0 (h.2 (reply i (Make l) r)))

few_decided : {A B : Type 0} (x : Result A Fault) (k : A → Eval B) (n : ℕ) → ((x : A) → Few (k x) n) → Few (decide x >>= k) n
few_decided (Ok x) k n f = f x
few_decided (Err e) k n f = tt

few_limits : {A : Type 0} (f : Option ViewFault) (t : Eval A) (n : ℕ) → Few t n → Few (Operation.unless_too_large f t) n
few_limits None t n h = h
few_limits (Some f) t n h = tt

-- ---- what asks for bytes and what makes bases

few_elements : (t is_row : Bool) (b : Base) (g : Geo) → Few (Operation.elements t is_row b g) 0
few_elements true is_row b g = λ l. tt
few_elements false is_row b g = tt

few_used : (u : Usage) (v : Value) → Few (Operation.use_operand u v) 0
few_used u (Int z) = tt
few_used u (Truth t) = tt
few_used u (Scalar k z) = tt
few_used u (Array b g) = few_elements (operand.is_used u false) false b g
few_used u (Row b g) = few_elements (operand.is_used u true) true b g

few_operands : {A : Type 0} (vs : List (Usage × Value)) (k : List Operand → Eval A) (n : ℕ) → ((os : List Operand) → Few (k os) n) → Few (operands vs k) n
few_operands [] k n f = f []
few_operands (v ∷ vs) k n f = few_more (operands (v ∷ vs) k) (0 + n) n (omega arith) (few_bind (Operation.use_operand v.0 v.1) _ 0 n (few_used v.0 v.1) (λ o. few_operands vs (λ os. k (o ∷ os)) n (λ os. f (o ∷ os))))

few_fresh : (t : ElementType) (shape : List ℕ) (f : List ℕ → Content) → Few (Operation.fresh_array t shape f) 1
few_fresh t shape f = few_limits (limit_fault (item_size t) shape) _ 1 (0, omega arith, λ b. tt)

pub few_given : (m : Made) → Few (Operation.give m) 1
few_given (ANumber n) = tt
few_given (AnArray t shape f) = few_fresh t shape f

few_over : (bytes : List ℕ) (o : Result Geo ViewFault) → Few (Operation.array_over bytes o) 1
few_over bytes (Ok g) = (0, omega arith, λ b. tt)
few_over bytes (Err f) = tt

few_loaded : (l : Loaded) → Few (Operation.give_loaded l) 1
few_loaded (AFile t shape f) = few_fresh t shape f
few_loaded (ABuffer t shape strides offset bytes) = few_over bytes _

few_stretched : (t : ElementType) (c : Content) (shape : List ℕ) → Few (Operation.stretch_content t c shape) 1
few_stretched t c shape = few_limits (limit_fault (item_size t) []) _ 1 (0, omega arith, λ b. few_limits (limit_fault (item_size t) shape) _ 0 tt)

few_element : (b : Base) (w : Bool) (t : ElementType) (p : ℕ) → Few (Operation.element_of b w t p) 1
few_element b w (One e) p = λ l. tt
few_element b w (Structure fields size) p = few_limits (limit_fault size []) _ 1 tt

few_chosen_in : (b : Base) (g : Geo) (x : Chosen) → Few (Operation.choose_in b g x) 1
few_chosen_in b g (AnElement t p) = few_element b g.writable t p
few_chosen_in b g (AView h) = few_limits (limit_fault (item_size h.element) h.shape) _ 1 tt
few_chosen_in b g (ACopy h) = λ l. few_fresh h.element h.shape _
few_chosen_in b g (Stretched t c shape) = few_stretched t c shape

few_alone : (x : Chosen) → Few (Operation.choose_of_number x) 1
few_alone (Stretched t c shape) = few_stretched t c shape
few_alone x = tt

pub few_chosen : (v : Value) (x : Chosen) → Few (Operation.choose_of v x) 1
few_chosen (Int z) x = few_alone x
few_chosen (Truth t) x = few_alone x
few_chosen (Scalar k z) x = few_alone x
few_chosen (Array b g) x = few_chosen_in b g x
few_chosen (Row b g) x = few_chosen_in b g x

few_with : {A : Type 0} (vs : List (Usage × Value)) (m : ℕ) (k : Value → Eval A) (n : ℕ) → ((v : Value) → Few (k v) n) → Few (Operation.with_value vs m k) n
few_with [] m k n f = tt
few_with (v ∷ vs) zero k n f = f v.1
few_with (v ∷ vs) (suc m) k n f = few_with vs m k n f

pub few_performed : (op : Operation) (vs : List (Usage × Value)) → Few (perform op vs) 1
few_performed (Computes f) vs = few_operands vs _ 1 (λ os. few_decided (f os) _ 1 few_given)
few_performed (Views w) vs = few_operands vs _ 1 (λ os. few_decided (choose w os) _ 1 (λ c. few_with vs 0 _ 1 (λ v. few_chosen v c)))

-- ---- plans: a base for each operation

abbrev mutual
  pub bases : Plan → ℕ
  bases (Named n) = 0
  bases (FromInput n f) = 1
  bases (Does op ps) = all_bases ps + 1

  pub all_bases : Plans → ℕ
  all_bases Done = 0
  all_bases (And u p ps) = bases p + all_bases ps

few_bound : (n : List ℕ) (o : Option Value) → Few (Operation.bound_value n o) 0
few_bound n None = tt
few_bound n (Some v) = tt

pub few_input : (n : List ℕ) (f : Option Source → Result Loaded Fault) → Few (Operation.input_value n f) 1
few_input n f =
    elim (is_input_name n) as (λ t. Few (cond t (Asks (Ask n) (λ source. decide (f source) >>= Operation.give_loaded)) (Refuses (fault.Stmt BadArgument))) 1) [
      | true ↦ λ source. few_decided (f source) Operation.give_loaded 1 few_loaded
      | false ↦ tt
    ]

mutual
  pub few_plan : (p : Plan) → Few (evaluate p) (bases p)
  few_plan (Named n) = λ o. few_bound n o
  few_plan (FromInput n f) = few_input n f
  few_plan (Does op ps) = few_values ps (perform op) 1 (few_performed op)

  pub few_values : (ps : Plans) (k : List (Usage × Value) → Eval Value) (n : ℕ) → ((vs : List (Usage × Value)) → Few (k vs) n) → Few (with_values ps k) (all_bases ps + n)
  few_values Done k n f = few_more (k []) n (0 + n) (omega arith) (f [])
  few_values (And u p ps) k n f = few_more (evaluate p >>= λ v. with_values ps (λ vs. k ((u, v) ∷ vs))) (bases p + (all_bases ps + n)) _ (omega arith)
      (few_bind (evaluate p) _ (bases p) (all_bases ps + n) (few_plan p) (λ v. few_values ps (λ vs. k ((u, v) ∷ vs)) n (λ vs. f ((u, v) ∷ vs))))

pub few_all : (ps : Plans) (k : List (Usage × Value) → Eval Effect) (n : ℕ) → ((vs : List (Usage × Value)) → Few (k vs) n) → Few (evaluate_all ps k) (all_bases ps + n)
few_all Done k n f = few_more (k []) n (0 + n) (omega arith) (f [])
few_all (And u p ps) k n f = few_more (evaluate p >>= λ v. evaluate_all ps (λ vs. k ((u, v) ∷ vs))) (bases p + (all_bases ps + n)) _ (omega arith)
    (few_bind (evaluate p) _ (bases p) (all_bases ps + n) (few_plan p) (λ v. few_all ps (λ vs. k ((u, v) ∷ vs)) n (λ vs. f ((u, v) ∷ vs))))

few_stored : (ws : List (ℕ × ℕ)) (v : Value) → Few (Operation.store_in ws v) 0
few_stored ws (Int z) = tt
few_stored ws (Truth t) = tt
few_stored ws (Scalar k z) = tt
few_stored ws (Array b g) = tt
few_stored ws (Row b g) = tt

few_deed : (vs : List (Usage × Value)) (d : Deed) → Few (Operation.do_deed vs d) 1
few_deed vs NoDeed = tt
few_deed vs (PrintsText text) = tt
few_deed vs (SavesFile n file) = tt
few_deed vs (BindsFirst n) = few_with vs 0 _ 1 (λ v. tt)
few_deed vs (BindsMade n m) = few_bind (Operation.give m) _ 1 0 (few_given m) (λ v. tt)
few_deed vs (Unbinds n) = tt
few_deed vs (Writes k ws) = few_more (Operation.with_value vs k (Operation.store_in ws)) 0 1 (omega arith) (few_with vs k _ 0 (few_stored ws))
few_deed vs (MakesAndWrites m k ws) = few_bind (Operation.give m) _ 1 0 (few_given m) (λ v. few_with vs k _ 0 (few_stored ws))

pub few_acted : (f : List Operand → Result Deed Fault) (vs : List (Usage × Value)) → Few (Operation.act_on f vs) 1
few_acted f vs = few_operands vs _ 1 (λ os. few_decided (f os) _ 1 (few_deed vs))

abbrev pub work_bases : Work → ℕ
work_bases (Acts f ps) = all_bases ps + 1
work_bases (ActsOn f w ps p) = all_bases ps + (1 + (bases p + 1))

pub few_work : (w : Work) → Few (do_work w) (work_bases w)
few_work (Acts f ps) = few_all ps _ 1 (few_acted f)
few_work (ActsOn f w ps p) = few_all ps _ (1 + (bases p + 1)) (λ vs. few_bind (perform (Views w) vs) _ 1 (bases p + 1) (few_performed (Views w) vs) (λ x. few_bind (evaluate p) _ (bases p) 1 (few_plan p) (λ y. few_acted f ((operand.Whole, y) ∷ (operand.Whole, x) ∷ vs))))

-- ---- at most as many as tokens

-- the array of a list, or nothing
at_list : (is_empty : Bool) (p : Plan) (rest : Plans) → all_bases (Meaning.unless_empty is_empty p rest) ≤ bases p + all_bases rest
at_list true p rest = omega arith
at_list false p rest = omega arith

step_more : (b : syntax.Bound) → tokens_of_bound b ≤ tokens_of_step b
step_more syntax.Omitted = omega arith
step_more (syntax.Given e) = omega arith

mutual
  pub at_expr : (e : Expr) → bases (Meaning.plan e) ≤ tokens_of e
  at_expr (syntax.Name n) = omega arith
  at_expr (syntax.Integer n) = omega arith
  at_expr (syntax.Truth t) = omega arith
  at_expr (syntax.Unary op e) = omega (arith, at_expr e)
  at_expr (syntax.Binary op a b) = omega (arith, at_expr a, at_expr b)
  at_expr (syntax.Called c) = at_call c
  at_expr (syntax.Item t x) = omega (arith, at_expr t, at_index x)
  at_expr (syntax.Attribute t m) = omega (arith, at_expr t, at_method m (Meaning.plan t))

  pub at_call : (c : Call) → bases (Meaning.call_plan c) ≤ tokens_of_call c
  at_call (syntax.Arange a b c t) = omega (arith, at_bound a (And operand.Unused (Meaning.plan b) (Meaning.bound_plans c Done)), at_expr b, at_bound c Done, step_more a, step_more c)
  at_call (syntax.Filled f s t) = omega (arith, at_shape operand.Unused s Done)
  at_call (syntax.Full s e t) = omega (arith, at_shape operand.Whole s (And operand.Whole (Meaning.plan e) Done), at_expr e)
  at_call (syntax.NewArray (syntax.Single e) t) = omega (arith, at_expr e)
  at_call (syntax.NewArray (syntax.Nested es) t) = omega (arith, at_elements es Done)
  at_call (syntax.Convert k e) = omega (arith, at_expr e)
  at_call (syntax.BroadcastTo e s) = omega (arith, at_expr e, at_shape operand.Unused s Done)
  at_call (syntax.Minimum a b) = omega (arith, at_expr a, at_expr b)
  at_call (syntax.Maximum a b) = omega (arith, at_expr a, at_expr b)
  at_call (syntax.Absolute e) = omega (arith, at_expr e)
  at_call (syntax.PythonAbs e) = omega (arith, at_expr e)
  at_call (syntax.Folded u (syntax.Reduce e a k)) = omega (arith, at_expr e, at_reduction (reduce_call u k) (Some (pos 0)) a (Meaning.plan e))
  at_call (syntax.Folded u (syntax.Accumulate e syntax.Omitted)) = omega (arith, at_expr e)
  at_call (syntax.Folded u (syntax.Accumulate e (syntax.Given a))) = omega (arith, at_expr e, at_expr a)
  at_call (syntax.Load n) = omega arith
  at_call (syntax.Buffer n) = omega arith

  pub at_reduction : (f : Operand → Option ℤ → Result Made Fault) (otherwise : Option ℤ) (a : Axis) (x : Plan) → bases (Meaning.reduction_plan f otherwise x a) ≤ 1 + bases x + tokens_of_axis a
  at_reduction f otherwise syntax.DefaultAxis x = omega arith
  at_reduction f otherwise syntax.AllAxes x = omega arith
  at_reduction f otherwise (syntax.AtAxis e) x = omega (arith, at_expr e)

  pub at_first : (f : Operand → Option ℤ → Result Made Fault) (otherwise : Option ℤ) (a : Axis) (k : Bool) (x : Plan) → bases (Meaning.reduction_plan f otherwise x a) ≤ 1 + bases x + tokens_of_first a k
  at_first f otherwise syntax.DefaultAxis true x = omega arith
  at_first f otherwise syntax.DefaultAxis false x = omega arith
  at_first f otherwise syntax.AllAxes k x = omega arith
  at_first f otherwise (syntax.AtAxis e) k x = omega (arith, at_expr e)

  pub at_method : (m : Method) (x : Plan) → bases (Meaning.method_plan m x) ≤ 2 + bases x + tokens_of_method m
  at_method (syntax.Transpose axes) x = at_axes axes x
  at_method (syntax.Reshape s) x = omega (arith, at_lengths s)
  at_method syntax.Copy x = omega arith
  at_method (syntax.AsType t) x = omega arith
  at_method (syntax.ViewAs t) x = omega arith
  at_method (syntax.Reduced r a k) x = omega (arith, at_first (reduce_array r k) None a k x)
  at_method (syntax.Accumulated r syntax.Omitted) x = omega arith
  at_method (syntax.Accumulated r (syntax.Given e)) x = omega (arith, at_expr e)

  pub at_elements : (es : Elements) (rest : Plans) → all_bases (Meaning.list_plans es rest) ≤ tokens_of_elements es + all_bases rest
  at_elements syntax.NoElement rest = omega arith
  at_elements (syntax.AndElement e es) rest = omega (arith, at_element e (Meaning.list_plans es rest), at_others es rest)

  -- each has a comma before it
  pub at_others : (es : Elements) (rest : Plans) → all_bases (Meaning.list_plans es rest) ≤ tokens_of_others es + all_bases rest
  at_others syntax.NoElement rest = omega arith
  at_others (syntax.AndElement e es) rest = omega (arith, at_element e (Meaning.list_plans es rest), at_others es rest)

  pub at_element : (e : Element) (rest : Plans) → all_bases (Meaning.element_plans e rest) ≤ tokens_of_element e + all_bases rest
  at_element (syntax.Single e) rest = omega (arith, at_expr e)
  at_element (syntax.Nested es) rest = omega (arith, at_elements es rest)

  pub at_shape : (u : Usage) (es : syntax.Exprs) (rest : Plans) → all_bases (Meaning.expr_plans u es rest) ≤ tokens_of_shape es + all_bases rest
  at_shape u syntax.NoExpr rest = omega arith
  at_shape u (syntax.AndExpr e syntax.NoExpr) rest = omega (arith, at_expr e)
  at_shape u (syntax.AndExpr e (syntax.AndExpr f es)) rest = omega (arith, at_expr e, at_expr f, at_exprs u es rest)

  pub at_axes : (es : syntax.Exprs) (x : Plan) → bases (Meaning.method_plan (syntax.Transpose es) x) ≤ 2 + bases x + tokens_of_method (syntax.Transpose es)
  at_axes syntax.NoExpr x = omega arith
  at_axes (syntax.AndExpr e es) x = omega (arith, at_expr e, at_exprs operand.Unused es Done)

  pub at_lengths : (es : syntax.Exprs) → all_bases (Meaning.expr_plans operand.Unused es Done) ≤ tokens_of_lengths es
  at_lengths syntax.NoExpr = omega arith
  at_lengths (syntax.AndExpr e es) = omega (arith, at_expr e, at_exprs operand.Unused es Done)

  -- each has a comma before it
  pub at_exprs : (u : Usage) (es : syntax.Exprs) (rest : Plans) → all_bases (Meaning.expr_plans u es rest) ≤ tokens_of_exprs es + all_bases rest
  at_exprs u syntax.NoExpr rest = omega arith
  at_exprs u (syntax.AndExpr e es) rest = omega (arith, at_expr e, at_exprs u es rest)

  pub at_bound : (b : syntax.Bound) (rest : Plans) → all_bases (Meaning.bound_plans b rest) ≤ tokens_of_bound b + all_bases rest
  at_bound syntax.Omitted rest = omega arith
  at_bound (syntax.Given e) rest = omega (arith, at_expr e)

  pub at_index : (x : Index) → all_bases (Meaning.index_plans x) ≤ tokens_of_index x
  at_index (syntax.Field n) = omega arith
  at_index (syntax.Items syntax.NoItem) = omega arith
  at_index (syntax.Items (syntax.AndItem i is)) = omega (arith, at_item i (Meaning.items_plans is), at_items is)

  -- each has a comma before it
  pub at_items : (is : IndexItems) → all_bases (Meaning.items_plans is) ≤ tokens_of_items is
  at_items syntax.NoItem = omega arith
  at_items (syntax.AndItem i is) = omega (arith, at_item i (Meaning.items_plans is), at_items is)

  pub at_item : (i : IndexItem) (rest : Plans) → all_bases (Meaning.item_plans i rest) ≤ tokens_of_item i + all_bases rest
  at_item (syntax.At e) rest = omega (arith, at_expr e)
  at_item (syntax.Slice a b c) rest =
      omega (arith, at_bound a (Meaning.bound_plans b (Meaning.bound_plans c rest)), at_bound b (Meaning.bound_plans c rest), at_bound c rest, step_more c)
  at_item syntax.Ellipsis rest = omega arith
  at_item syntax.NewAxis rest = omega arith
  at_item (syntax.Listed es) rest = omega (arith, at_elements es Done, at_list (Meaning.is_empty_list es) (Does (Computes (array_of_list (syntax.Nested es) None)) (Meaning.list_plans es Done)) rest)

pub at_all : (es : List Expr) → all_bases (Meaning.whole_plans es) ≤ tokens_of_all es
at_all [] = omega arith
at_all (e ∷ es) = omega (arith, at_expr e, at_all es)

pub at_stmt : (s : Stmt) → work_bases (Meaning.work s) ≤ tokens_of_stmt s
at_stmt syntax.Import = omega arith
at_stmt (syntax.Bind n e) = omega (arith, at_expr e)
at_stmt (syntax.Augment n op e) = omega (arith, at_expr e)
at_stmt (syntax.Assign t x e) = omega (arith, at_expr t, at_index x, at_expr e)
at_stmt (syntax.AugmentItem t x op e) = omega (arith, at_expr t, at_index x, at_expr e)
at_stmt (syntax.Delete n) = omega arith
at_stmt (syntax.Print es) = omega (arith, at_all es)
at_stmt (syntax.Save n e) = omega (arith, at_expr e)

-- the effect makes none
had_next : (o : Result Effect Fault) (r : Running) → (had (o, r)).1.next ≡ r.next
had_next (Ok Nothing) r = refl
had_next (Ok (Prints text)) r = refl
had_next (Ok (Saves n file)) r = refl
had_next (Ok (Binding n v)) r = refl
had_next (Ok (Unbinding n)) r = refl
had_next (Ok (Storing b ws)) r = refl
had_next (Err f) r = refl

pub few_bases : FewBases
few_bases i s r = omega (arith, at_stmt s, few_run i (do_work (Meaning.work s)) r (work_bases (Meaning.work s)) (few_work (Meaning.work s)), had_next (run i (do_work (Meaning.work s)) r).0 (run i (do_work (Meaning.work s)) r).1)
