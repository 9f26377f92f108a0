-- Parts of the meaning, as the functions work them out.
use Rattle.std.specs.Prelude.{ℕ, ℤ, pos, Bool, true, false, List, [], ◌∷◌, ◌++◌, map, Option, Some, None, Result, Ok, Err}
use Rattle.std.specs.List.{flat_map}
use Rattle.nd_model.specs.Arrays.View.{Geo}
use Rattle.nd_model.specs.Arrays.Content.{Content}
use Rattle.nd_model.specs.Arrays.Value as given
use Rattle.nd_model.specs.Arrays.Value.{Base, Value}
use Rattle.nd_model.specs.Cells.Running.{Effect, Storing}
use Rattle.nd_model.specs.Cells.Refusing as refusing
use Rattle.nd_model.specs.Cells.Fault.{Fault, Stmt, NotAnArray}
use Rattle.nd_model.specs.Grammar.Calls.{Fill, DType, Ufunc}
use Rattle.nd_model.specs.Making.Creation.{arange, array_of_list, astype, copy_array, filled, full}
use Rattle.nd_model.specs.Making.Elementwise.{binary}
use Rattle.nd_model.specs.Formats.Files.{save}
use Rattle.nd_model.specs.Making.Reductions.{reduce_array, accumulate_array, reduce_call, accumulate_call}
use Rattle.nd_model.specs.Making.Writing.{assignment_writes}
use Rattle.nd_model.specs.Making.Augmenting.{array_in_place, augment_item, augment_name, in_place_writes, operand_of_made}
use Rattle.nd_model.specs.Grammar.Syntax.{BinaryOp, Expr, Bound, Omitted, Given, Elements, NoElement, AndElement, Element, Single, Nested, Fold, Reduce, Accumulate, Method, Copy, AsType, Transpose, Reshape, ViewAs, Reduced, Accumulated, Axis, DefaultAxis, AllAxes, AtAxis, Exprs, NoExpr, AndExpr, Index, Field, Items, IndexItems, IndexItem, AndItem, NoItem, At, Slice, Ellipsis, NewAxis, Listed}
use Rattle.nd_model.specs.Grammar.Cells.{Suffix, AtIndex, OfMethod}
use Rattle.nd_model.specs.Cells.Evaluation.{Eval, Gives, ◌>>=◌}
use Rattle.nd_model.specs.Making.Operand.{Operand, Usage, Whole, ArraysOnly, RowsOnly, Unused, Made}
use Rattle.nd_model.specs.Indexing.Index.{Form, AtForm, SliceForm, EllipsisForm, NewAxisForm, EmptyForm}
use Rattle.nd_model.specs.Indexing.Viewing.{Viewing, Indexed, Fielded, Transposed, Reshaped, BroadcastTo, ViewedAs}
use Rattle.nd_model.specs.Cells.Operation.{Computes, Views, perform, act_on, evaluate_all, give, store_in}
use Rattle.nd_model.specs.Cells.Meaning.{is_given, is_empty_list, one, two, along, value, assignment_deed, index_plans, viewing_of}

-- what is computed of one value
abbrev pub make_value : (Operand → Result Made Fault) → Value → Eval Value
make_value f v = perform (Computes (one f)) ((Whole, v) ∷ [])

-- of one expression
abbrev pub value_of_one : (Operand → Result Made Fault) → Expr → Eval Value
value_of_one f e = value e >>= make_value f

-- what is computed of two values
abbrev pub operate : (Operand → Operand → Result Made Fault) → Value → Value → Eval Value
operate f v w = perform (Computes (two f)) ((Whole, v) ∷ (Whole, w) ∷ [])

-- of a value, and of an expression behind it
abbrev pub binary_value : (Operand → Operand → Result Made Fault) → Value → Expr → Eval Value
binary_value f v e = value e >>= λ w. operate f v w

-- of two expressions
abbrev pub value_of_two : (Operand → Operand → Result Made Fault) → Expr → Expr → Eval Value
value_of_two f a b = value a >>= λ v. binary_value f v b

-- values of expressions from left to right, and then it goes on
abbrev pub values_then : {A : Type 0} → List Expr → (List Value → Eval A) → Eval A
values_then [] go = go []
values_then (e ∷ es) go = value e >>= λ v. values_then es (λ vs. go (v ∷ vs))

abbrev pub values : List Expr → Eval (List Value)
values es = values_then es Gives

-- values that are used whole, and values that are not used
abbrev pub wholes : List Value → List (Usage × Value)
wholes vs = map (λ v. (Whole, v)) vs

abbrev pub unused : List Value → List (Usage × Value)
unused vs = map (λ v. (Unused, v)) vs

-- expressions as a list
abbrev pub listed : Exprs → List Expr
listed NoExpr = []
listed (AndExpr e es) = e ∷ listed es

-- ---- views of values

-- what is seen of a value, by the values of expressions
abbrev pub view_value : Viewing → Value → List Value → Eval Value
view_value w v ws = perform (Views w) ((Unused, v) ∷ unused ws)

-- by the expressions
abbrev pub viewed_value : Viewing → List Expr → Value → Eval Value
viewed_value w es v = values es >>= view_value w v

-- `np.broadcast_to` of a value, and of an expression
abbrev pub stretch : Value → List Value → Eval Value
stretch v ws = perform (Views BroadcastTo) ((RowsOnly, v) ∷ unused ws)

abbrev pub stretch_by : Value → List Expr → Eval Value
stretch_by v es = values es >>= stretch v

abbrev pub stretched_value : Expr → List Expr → Eval Value
stretched_value e es = value e >>= λ v. stretch_by v es

-- ---- folds

-- a fold of a value along an axis, where none is written along this one or of all numbers
abbrev pub reduction_value : (Operand → (axis : Option ℤ) → Result Made Fault) → Option ℤ → Axis → Value → Eval Value
reduction_value f otherwise DefaultAxis v = make_value (λ o. f o otherwise) v
reduction_value f otherwise AllAxes v = make_value (λ o. f o None) v
reduction_value f otherwise (AtAxis e) v = binary_value (along f) v e

abbrev pub accumulation_value : (Operand → (axis : Option ℤ) → Result Made Fault) → Option ℤ → Bound → Value → Eval Value
accumulation_value f otherwise Omitted v = make_value (λ o. f o otherwise) v
accumulation_value f otherwise (Given e) v = binary_value (along f) v e

-- `np.add.reduce` and the like
abbrev pub fold_call : Ufunc → Fold → Eval Value
fold_call f (Reduce e a keep) = value e >>= reduction_value (reduce_call f keep) (Some (pos 0)) a
fold_call f (Accumulate e a) = value e >>= accumulation_value (accumulate_call f) (Some (pos 0)) a

-- a method on a value
abbrev pub method_value : Method → Value → Eval Value
method_value Copy v = make_value copy_array v
method_value (AsType t) v = make_value (astype t) v
method_value (Transpose axes) v = viewed_value Transposed (listed axes) v
method_value (Reshape shape) v = viewed_value Reshaped (listed shape) v
method_value (ViewAs t) v = view_value (ViewedAs t) v []
method_value (Reduced r a keep) v = reduction_value (reduce_array r keep) None a v
method_value (Accumulated f a) v = accumulation_value (accumulate_array f) None a v

-- an expression that may be left out
abbrev pub bound_exprs : Bound → List Expr
bound_exprs Omitted = []
bound_exprs (Given e) = e ∷ []

-- ---- lists

-- the expressions in a list from left to right
abbrev mutual
  pub exprs_in : Elements → List Expr
  exprs_in NoElement = []
  exprs_in (AndElement x xs) = exprs_of_element x ++ exprs_in xs

  pub exprs_of_element : Element → List Expr
  exprs_of_element (Single e) = e ∷ []
  exprs_of_element (Nested es) = exprs_in es

-- `np.array` of a list
abbrev pub list_value : Element → Option DType → Eval Value
list_value x t = values (exprs_of_element x) >>= λ vs. perform (Computes (array_of_list x t)) (wholes vs)

-- ---- indexes

-- how an item is written, and the values of its expressions with how they are used
abbrev pub ItemParts : Type 0
ItemParts = Form × List (Usage × Value)

-- a list, which is the array of it unless it has no number
abbrev pub list_parts : (is_empty : Bool) → Elements → Eval ItemParts
list_parts true es = Gives (EmptyForm, [])
list_parts false es = list_value (Nested es) None >>= λ v. Gives (AtForm, (ArraysOnly, v) ∷ [])

-- a slice, by the values of its start and its stop, and by that of its start
abbrev pub slice_to : (has_start has_stop : Bool) → List Value → List Value → Bound → Eval ItemParts
slice_to p q xs ys c = values (bound_exprs c) >>= λ zs. Gives (SliceForm p q (is_given c), unused (xs ++ ys ++ zs))

abbrev pub slice_from : (has_start : Bool) → List Value → Bound → Bound → Eval ItemParts
slice_from p xs b c = values (bound_exprs b) >>= λ ys. slice_to p (is_given b) xs ys c

abbrev pub item_parts : IndexItem → Eval ItemParts
item_parts (At e) = value e >>= λ v. Gives (AtForm, (ArraysOnly, v) ∷ [])
item_parts (Slice a b c) = values (bound_exprs a) >>= λ xs. slice_from (is_given a) xs b c
item_parts Ellipsis = Gives (EllipsisForm, [])
item_parts NewAxis = Gives (NewAxisForm, [])
item_parts (Listed es) = list_parts (is_empty_list es) es

-- from left to right, and then it goes on
abbrev pub items_then : {A : Type 0} → IndexItems → (List ItemParts → Eval A) → Eval A
items_then NoItem go = go []
items_then (AndItem i is) go = item_parts i >>= λ x. items_then is (λ xs. go (x ∷ xs))

abbrev pub items_parts : IndexItems → Eval (List ItemParts)
items_parts is = items_then is Gives

-- what an index says, and the values of its expressions
abbrev pub IndexParts : Type 0
IndexParts = Viewing × List (Usage × Value)

abbrev pub parts_of_items : List ItemParts → IndexParts
parts_of_items xs = (Indexed (map (λ (x : ItemParts). x.0) xs), flat_map (λ (x : ItemParts). x.1) xs)

abbrev pub index_parts : Index → Eval IndexParts
index_parts (Field n) = Gives (Fielded n, [])
index_parts (Items is) = items_parts is >>= λ xs. Gives (parts_of_items xs)

-- `t[..]`
abbrev pub choose_value : Value → IndexParts → Eval Value
choose_value t x = perform (Views x.0) ((Unused, t) ∷ x.1)

-- what goes on a value: an index or a method
abbrev pub suffix_value : Suffix → Value → Eval Value
suffix_value (AtIndex x) v = index_parts x >>= choose_value v
suffix_value (OfMethod m) v = method_value m v

-- `t[..] = v`
abbrev pub assignment : Value → Value → IndexParts → Eval Effect
assignment v t x = act_on (assignment_deed x.0) ((Whole, v) ∷ (Unused, t) ∷ x.1)

-- `t[..] = v` by the expressions of the index
abbrev pub index_assignment : Value → Value → Index → Eval Effect
index_assignment v t x = index_parts x >>= assignment v t

-- `t[..] = v` by the expressions of the target and the index
abbrev pub target_assignment : Value → Expr → Index → Eval Effect
target_assignment v e x = value e >>= λ t. evaluate_all (index_plans x) (λ vs. act_on (assignment_deed (viewing_of x)) ((Whole, v) ∷ (Unused, t) ∷ vs))

-- bytes that are stored where a value lies
abbrev pub stored_in : List (ℕ × ℕ) → Value → Result Effect Fault
stored_in ws (given.Array b g) = Ok (Storing b ws)
stored_in ws (given.Row b g) = Ok (Storing b ws)
stored_in ws v = Err (Stmt NotAnArray)

-- `x op= y` of an array: what is stored in its base, whose elements have these contents
abbrev pub update : BinaryOp → Base → Geo → List Content → Operand → Result Effect Fault
update op b g cs y = refusing.◌>>=◌ (in_place_writes op g cs y) (λ ws. Ok (Storing b ws))

-- `t[..] op= y` of a copy with these contents, once all is used: what the operator leaves of it is assigned to t
abbrev pub copy_update : BinaryOp → Geo → List Content → (y : Operand) → Viewing → Value → (t : Operand) → List Operand → Result Effect Fault
copy_update op g cs y w v t os = refusing.◌>>=◌ (array_in_place op g cs y) (λ x. refusing.◌>>=◌ (assignment_writes w x t os) (λ ws. stored_in ws v))

-- `n op= y`
abbrev pub augmentation : List ℕ → BinaryOp → Value → Value → Eval Effect
augmentation n op x y = act_on (two (augment_name n op)) ((Whole, x) ∷ (Whole, y) ∷ [])

-- `t[..] op= y`, where x is `t[..]`
abbrev pub item_augmentation : BinaryOp → Value → Value → Value → IndexParts → Eval Effect
item_augmentation op y x t p = act_on (augment_item op p.0) ((Whole, y) ∷ (Whole, x) ∷ (Unused, t) ∷ p.1)

-- `t[..] op= y` by the expressions of the index and the operand
abbrev pub index_augmentation : BinaryOp → Expr → Value → Index → Eval Effect
index_augmentation op e t x = index_parts x >>= λ p. choose_value t p >>= λ v. value e >>= λ y. item_augmentation op y v t p

-- `t[..] op= y` where `t[..]` is no array, once all is used: what the operator makes is assigned
abbrev pub made_assignment : BinaryOp → Operand → Operand → Viewing → Operand → List Operand → Result (Made × List (ℕ × ℕ)) Fault
made_assignment op x y w t os = refusing.◌>>=◌ (binary op x y) (λ m. refusing.◌>>=◌ (assignment_writes w (operand_of_made m) t os) (λ ws. Ok (m, ws)))

abbrev pub store_made : Value → Made × List (ℕ × ℕ) → Eval Effect
store_made t made = give made.0 >>= λ v. store_in made.1 t

-- values behind others
abbrev pub values_behind : List Value → List Expr → Eval (List Value)
values_behind vs es = values_then es (λ ws. Gives (vs ++ ws))

-- `np.zeros`, `np.ones`
abbrev pub filled_value : Fill → List Expr → Option DType → Eval Value
filled_value f es t = values es >>= λ vs. perform (Computes (filled f t)) (unused vs)

-- `np.full` of values, of an expression, and of expressions
abbrev pub full_array : List Value → Value → Option DType → Eval Value
full_array vs v t = perform (Computes (full t)) (wholes vs ++ (Whole, v) ∷ [])

abbrev pub full_of_shape : List Value → Expr → Option DType → Eval Value
full_of_shape vs e t = value e >>= λ v. full_array vs v t

abbrev pub full_value : List Expr → Expr → Option DType → Eval Value
full_value es e t = values es >>= λ vs. full_of_shape vs e t

-- `np.arange` of values, of a step, of an end and a step, and of expressions
abbrev pub range_array : (has_start has_step : Bool) → List Value → Value → List Value → Option DType → Eval Value
range_array p q xs v ys t = perform (Computes (arange p q t)) (unused (xs ++ v ∷ ys))

abbrev pub range_to : (has_start : Bool) → List Value → Value → Bound → Option DType → Eval Value
range_to p xs v c t = values (bound_exprs c) >>= λ ys. range_array p (is_given c) xs v ys t

abbrev pub range_from : (has_start : Bool) → List Value → Expr → Bound → Option DType → Eval Value
range_from p xs b c t = value b >>= λ v. range_to p xs v c t

abbrev pub range_value : Bound → Expr → Bound → Option DType → Eval Value
range_value a b c t = values (bound_exprs a) >>= λ xs. range_from (is_given a) xs b c t

-- what saving a value by a name comes to
abbrev pub saving : List ℕ → Value → Eval Effect
saving n v = act_on (one (save n)) ((Whole, v) ∷ [])
