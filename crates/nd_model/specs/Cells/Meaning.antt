-- What expressions and statements mean: for each form its operands, how they are used, and what is made of them.
use Rattle.std.specs.Prelude.{◌==◌, ℤ, pos, Bool, true, false, ◌&&◌, List, [], ◌∷◌, Option, Some, None, Result, Ok, Err}
use Rattle.nd_model.specs.Arrays.Tuple.{elements_of}
use Rattle.nd_model.specs.Arrays.Value.{Value}
use Rattle.nd_model.specs.Cells.Running.{Effect}
use Rattle.nd_model.specs.Cells.Fault.{Fault, BadArgument}
use Rattle.nd_model.specs.Cells.Fault as fault
use Rattle.nd_model.specs.Grammar.Syntax.{Expr, Exprs, NoExpr, AndExpr, Name, Integer, Unary, Binary, Called, Call, Arange, Filled, Full, NewArray, Convert, Minimum, Maximum, Absolute, PythonAbs, Folded, Load, Buffer, Fold, Reduce, Accumulate, Axis, DefaultAxis, AllAxes, AtAxis, Bound, Omitted, Given, Elements, NoElement, AndElement, Element, Single, Nested, Item, Attribute, Method, Copy, AsType, Transpose, Reshape, ViewAs, Reduced, Accumulated, Index, Field, Items, IndexItems, IndexItem, AndItem, NoItem, At, Slice, Ellipsis, NewAxis, Listed, Stmt, Import, Bind, Augment, Assign, AugmentItem, Delete, Print, Save}
use Rattle.nd_model.specs.Grammar.Syntax as syntax
use Rattle.nd_model.specs.Cells.Refusing as refusing
use Rattle.nd_model.specs.Cells.Evaluation.{Eval}
use Rattle.nd_model.specs.Making.Operand.{Int, Truth, Operand, Usage, Whole, ArraysOnly, RowsOnly, Unused, Made, ANumber, Deed, NoDeed, BindsFirst, Unbinds, Writes}
use Rattle.nd_model.specs.Making.Operators as operators
use Rattle.nd_model.specs.Making.Operators.{Of}
use Rattle.nd_model.specs.Making.Elementwise.{binary, single, call_binary, call_single}
use Rattle.nd_model.specs.Making.Reductions.{axis_number, reduce_array, accumulate_array, reduce_call, accumulate_call}
use Rattle.nd_model.specs.Making.Creation.{arange, filled, full, new_array, shape_of_element, has_shape, array_of_list, convert, copy_array, astype}
use Rattle.nd_model.specs.Making.Writing.{assignment_writes}
use Rattle.nd_model.specs.Making.Augmenting.{augment_name, augment_item}
use Rattle.nd_model.specs.Formats.Files.{load, buffer, save}
use Rattle.nd_model.specs.Indexing.Index.{Form, AtForm, SliceForm, EllipsisForm, NewAxisForm, EmptyForm}
use Rattle.nd_model.specs.Indexing.Viewing.{Viewing, Indexed, Fielded, Transposed, Reshaped, BroadcastTo, ViewedAs}
use Rattle.nd_model.specs.Text.Printing.{print_deed}
use Rattle.nd_model.specs.Cells.Operation.{Computes, Views, Plan, Named, FromInput, Does, Plans, Done, And, evaluate, Work, Acts, ActsOn, do_work}

-- a function of one operand
abbrev pub one : {A : Type 0} → (Operand → Result A Fault) → List Operand → Result A Fault
one f (x ∷ []) = f x
one f _ = Err (fault.Stmt BadArgument)

-- and of two
abbrev pub two : {A : Type 0} → (Operand → Operand → Result A Fault) → List Operand → Result A Fault
two f (x ∷ y ∷ []) = f x y
two f _ = Err (fault.Stmt BadArgument)

-- a fold along the axis that stands behind the operand
abbrev pub along : (Operand → (axis : Option ℤ) → Result Made Fault) → Operand → Operand → Result Made Fault
along f x a = refusing.◌>>=◌ (axis_number a) (λ z. f x (Some z))

abbrev pub is_given : Bound → Bool
is_given Omitted = false
is_given (Given e) = true

-- ---- indexes

-- a list without a number: it is nested evenly, and one of its lengths is 0
abbrev pub is_empty_list : Elements → Bool
is_empty_list es =
    let shape = shape_of_element (Nested es) in
    has_shape shape (Nested es) && (elements_of shape == 0)

-- a list is written as the array of it, unless it is empty
abbrev pub list_form : (is_empty : Bool) → Form
list_form true = EmptyForm
list_form false = AtForm

abbrev pub unless_empty : (is_empty : Bool) → (array : Plan) → Plans → Plans
unless_empty true array rest = rest
unless_empty false array rest = And ArraysOnly array rest

-- how an item is written
abbrev pub forms_of : IndexItems → List Form
forms_of NoItem = []
forms_of (AndItem (At e) is) = AtForm ∷ forms_of is
forms_of (AndItem (Slice start stop step) is) = SliceForm (is_given start) (is_given stop) (is_given step) ∷ forms_of is
forms_of (AndItem Ellipsis is) = EllipsisForm ∷ forms_of is
forms_of (AndItem NewAxis is) = NewAxisForm ∷ forms_of is
forms_of (AndItem (Listed es) is) = list_form (is_empty_list es) ∷ forms_of is

abbrev pub viewing_of : Index → Viewing
viewing_of (Field n) = Fielded n
viewing_of (Items is) = Indexed (forms_of is)

-- ---- expressions

abbrev mutual
  pub plan : Expr → Plan
  plan (Name n) = Named n
  plan (Integer n) = Does (Computes (λ os. Ok (ANumber (Int (pos n))))) Done
  plan (syntax.Truth t) = Does (Computes (λ os. Ok (ANumber (Truth t)))) Done
  plan (Unary op e) = Does (Computes (one (single (Of op)))) (And Whole (plan e) Done)
  plan (Binary op a b) = Does (Computes (two (binary op))) (And Whole (plan a) (And Whole (plan b) Done))
  plan (Called c) = call_plan c
  plan (Item t x) = Does (Views (viewing_of x)) (And Unused (plan t) (index_plans x))
  plan (Attribute e m) = method_plan m (plan e)

  pub call_plan : Call → Plan
  call_plan (Arange a b c t) = Does (Computes (arange (is_given a) (is_given c) t)) (bound_plans a (And Unused (plan b) (bound_plans c Done)))
  call_plan (Filled f shape t) = Does (Computes (filled f t)) (expr_plans Unused shape Done)
  call_plan (Full shape e t) = Does (Computes (full t)) (expr_plans Whole shape (And Whole (plan e) Done))
  call_plan (NewArray (Single e) t) = Does (Computes (one (new_array t))) (And Whole (plan e) Done)
  call_plan (NewArray (Nested es) t) = Does (Computes (array_of_list (Nested es) t)) (list_plans es Done)
  call_plan (Convert k e) = Does (Computes (one (convert k))) (And Whole (plan e) Done)
  call_plan (syntax.BroadcastTo e shape) = Does (Views BroadcastTo) (And RowsOnly (plan e) (expr_plans Unused shape Done))
  call_plan (Minimum a b) = Does (Computes (two (call_binary operators.Minimum))) (And Whole (plan a) (And Whole (plan b) Done))
  call_plan (Maximum a b) = Does (Computes (two (call_binary operators.Maximum))) (And Whole (plan a) (And Whole (plan b) Done))
  call_plan (Absolute e) = Does (Computes (one (call_single operators.Absolute))) (And Whole (plan e) Done)
  call_plan (PythonAbs e) = Does (Computes (one (single operators.Absolute))) (And Whole (plan e) Done)
  call_plan (Folded f (Reduce e a keep)) = reduction_plan (reduce_call f keep) (Some (pos 0)) (plan e) a
  call_plan (Folded f (Accumulate e a)) = accumulation_plan (accumulate_call f) (Some (pos 0)) (plan e) a
  call_plan (Load n) = FromInput n (load n)
  call_plan (Buffer n) = FromInput n (buffer n)

  -- a fold along an axis, where none is written along this one; `None` is for all
  pub reduction_plan : (Operand → (axis : Option ℤ) → Result Made Fault) → Option ℤ → Plan → Axis → Plan
  reduction_plan f otherwise x DefaultAxis = Does (Computes (one (λ o. f o otherwise))) (And Whole x Done)
  reduction_plan f otherwise x AllAxes = Does (Computes (one (λ o. f o None))) (And Whole x Done)
  reduction_plan f otherwise x (AtAxis e) = Does (Computes (two (along f))) (And Whole x (And Whole (plan e) Done))

  -- the same where `None` may not be written
  pub accumulation_plan : (Operand → (axis : Option ℤ) → Result Made Fault) → Option ℤ → Plan → Bound → Plan
  accumulation_plan f otherwise x Omitted = Does (Computes (one (λ o. f o otherwise))) (And Whole x Done)
  accumulation_plan f otherwise x (Given e) = Does (Computes (two (along f))) (And Whole x (And Whole (plan e) Done))

  -- of an array's method, and of the plan of the array
  pub method_plan : Method → Plan → Plan
  method_plan Copy x = Does (Computes (one copy_array)) (And Whole x Done)
  method_plan (AsType t) x = Does (Computes (one (astype t))) (And Whole x Done)
  method_plan (Transpose axes) x = Does (Views Transposed) (And Unused x (expr_plans Unused axes Done))
  method_plan (Reshape shape) x = Does (Views Reshaped) (And Unused x (expr_plans Unused shape Done))
  method_plan (ViewAs t) x = Does (Views (ViewedAs t)) (And Unused x Done)
  method_plan (Reduced r a keep) x = reduction_plan (reduce_array r keep) None x a
  method_plan (Accumulated f a) x = accumulation_plan (accumulate_array f) None x a

  -- the numbers of a list from left to right, and then the others
  pub list_plans : Elements → Plans → Plans
  list_plans NoElement rest = rest
  list_plans (AndElement x xs) rest = element_plans x (list_plans xs rest)

  pub element_plans : Element → Plans → Plans
  element_plans (Single e) rest = And Whole (plan e) rest
  element_plans (Nested es) rest = list_plans es rest

  -- from left to right, and then the others
  pub expr_plans : Usage → Exprs → Plans → Plans
  expr_plans u NoExpr rest = rest
  expr_plans u (AndExpr e es) rest = And u (plan e) (expr_plans u es rest)

  -- none where nothing is written
  pub bound_plans : Bound → Plans → Plans
  bound_plans Omitted rest = rest
  bound_plans (Given e) rest = And Unused (plan e) rest

  pub index_plans : Index → Plans
  index_plans (Field n) = Done
  index_plans (Items is) = items_plans is

  pub items_plans : IndexItems → Plans
  items_plans NoItem = Done
  items_plans (AndItem i is) = item_plans i (items_plans is)

  -- an array among the items is used whole
  pub item_plans : IndexItem → Plans → Plans
  item_plans (At e) rest = And ArraysOnly (plan e) rest
  item_plans (Slice start stop step) rest = bound_plans start (bound_plans stop (bound_plans step rest))
  item_plans Ellipsis rest = rest
  item_plans NewAxis rest = rest
  item_plans (Listed es) rest = unless_empty (is_empty_list es) (Does (Computes (array_of_list (Nested es) None)) (list_plans es Done)) rest

-- from left to right
abbrev pub whole_plans : List Expr → Plans
whole_plans [] = Done
whole_plans (e ∷ es) = And Whole (plan e) (whole_plans es)

-- WHAT AN EXPRESSION MEANS
abbrev pub value : Expr → Eval Value
value e = evaluate (plan e)

-- ---- statements

abbrev pub assignment_deed : Viewing → List Operand → Result Deed Fault
assignment_deed w (v ∷ t ∷ os) = refusing.◌>>=◌ (assignment_writes w v t os) (λ ws. Ok (Writes 1 ws))
assignment_deed w _ = Err (fault.Stmt BadArgument)

abbrev pub work : Stmt → Work
work Import = Acts (λ os. Ok NoDeed) Done
work (Bind n e) = Acts (λ os. Ok (BindsFirst n)) (And Unused (plan e) Done)
work (Assign t x e) = Acts (assignment_deed (viewing_of x)) (And Whole (plan e) (And Unused (plan t) (index_plans x)))
work (Augment n op e) = Acts (two (augment_name n op)) (And Whole (Named n) (And Whole (plan e) Done))
work (AugmentItem t x op e) = ActsOn (augment_item op (viewing_of x)) (viewing_of x) (And Unused (plan t) (index_plans x)) (plan e)
work (Delete n) = Acts (λ os. Ok (Unbinds n)) (And Unused (Named n) Done)
work (Save n e) = Acts (one (save n)) (And Whole (plan e) Done)
work (Print es) = Acts print_deed (whole_plans es)

-- WHAT A STATEMENT DOES: it is evaluated, and then has one effect or is refused
abbrev pub meaning : Stmt → Eval Effect
meaning s = do_work (work s)
