-- Operations: how values become operands and results become values. Here alone inputs and bytes are asked for and bases made.
use Rattle.std.specs.Prelude.{ℕ, zero, suc, Bool, true, false, if◌then◌else◌, List, [], ◌∷◌, length, Option, Some, None, Result, Ok, Err}
use Rattle.nd_model.specs.Arrays.View.{ElementType, One, Structure, Geo, item_size, element_places, byte_places, contiguous}
use Rattle.nd_model.specs.Arrays.Content.{Content, number_at, contents_in, array_bytes, content_in_order}
use Rattle.nd_model.specs.Arrays.Value.{Base, Value}
use Rattle.nd_model.specs.Arrays.Value as value
use Rattle.nd_model.specs.Cells.Running.{Source, Lookup, Ask, Use, Make, Effect, Nothing, Prints, Saves, Binding, Unbinding, Storing}
use Rattle.nd_model.specs.Cells.InputName.{is_input_name}
use Rattle.nd_model.specs.Arrays.Strides.{limit_fault, from_parts}
use Rattle.nd_model.specs.Cells.Fault.{Fault, ViewFault, View, Stmt, NoName, NotAnArray, BadArgument}
use Rattle.nd_model.specs.Cells.Evaluation.{Eval, Gives, Refuses, Asks, ◌>>=◌, decide}
use Rattle.nd_model.specs.Arrays.Broadcast.{broadcast_view}
use Rattle.nd_model.specs.Indexing.Viewing.{Viewing, choose}
use Rattle.nd_model.specs.Making.Operand.{Number, Int, Truth, Scalar, Operand, Plain, Elements, Usage, Whole, is_used, Made, ANumber, AnArray, Chosen, Loaded, AFile, ABuffer, AnElement, AView, ACopy, Stretched, Deed, NoDeed, PrintsText, SavesFile, BindsFirst, BindsMade, Unbinds, Writes, MakesAndWrites}

-- ---- values to operands

-- all elements of an array or a row, or none of them
abbrev pub elements : (is_used row : Bool) → Base → Geo → Eval Operand
elements true row b g = Asks (Use b (byte_places g)) (λ bytes. Gives (Elements row g (contents_in g.element (length g.places) bytes)))
elements false row b g = Gives (Elements row g [])

-- USES: the operand that a value is
abbrev pub use_operand : Usage → Value → Eval Operand
use_operand u (value.Int z) = Gives (Plain (Int z))
use_operand u (value.Truth t) = Gives (Plain (Truth t))
use_operand u (value.Scalar k z) = Gives (Plain (Scalar k z))
use_operand u (value.Array b g) = elements (is_used u false) false b g
use_operand u (value.Row b g) = elements (is_used u true) true b g

-- ---- results to values

abbrev pub number_value : Number → Value
number_value (Int z) = value.Int z
number_value (Truth t) = value.Truth t
number_value (Scalar k z) = value.Scalar k z

-- there is no array over the limits
abbrev pub unless_too_large : {A : Type 0} → Option ViewFault → Eval A → Eval A
unless_too_large None e = e
unless_too_large (Some f) e = Refuses (View f)

-- an array or a row in a base
abbrev pub view_value : (Base → Geo → Value) → Base → Geo → Eval Value
view_value as_value b g = unless_too_large (limit_fault (item_size g.element) g.shape) (Gives (as_value b g))

-- an array alone in its new base
abbrev pub fresh_array : ElementType → List ℕ → (List ℕ → Content) → Eval Value
fresh_array t shape f = unless_too_large (limit_fault (item_size t) shape) (Asks (Make (array_bytes t shape f)) (λ b. Gives (value.Array b (contiguous t shape))))

-- GIVES what an operation made
abbrev pub give : Made → Eval Value
give (ANumber n) = Gives (number_value n)
give (AnArray t shape f) = fresh_array t shape f

-- an array in a new base of these bytes
abbrev pub array_over : List ℕ → Result Geo ViewFault → Eval Value
array_over bytes (Ok g) = Asks (Make bytes) (λ b. Gives (value.Array b g))
array_over bytes (Err f) = Refuses (View f)

-- GIVES what an input comes to
abbrev pub give_loaded : Loaded → Eval Value
give_loaded (AFile t shape f) = fresh_array t shape f
give_loaded (ABuffer t shape strides offset bytes) = array_over bytes (from_parts t shape strides offset (length bytes))

-- an element in a base: a NumPy scalar, or a row, which uses nothing
abbrev pub element_of : Base → (writable : Bool) → ElementType → ℕ → Eval Value
element_of b writable (One e) p = Asks (Use b (element_places (One e) p)) (λ bytes. Gives (value.Scalar e.kind (number_at e bytes 0)))
element_of b writable (Structure fields size) p = view_value value.Row b (record { element = Structure fields size; shape = []; writable = writable; places = p ∷ [] })

-- an array of one element in a new base, and a view of it
abbrev pub stretch_content : ElementType → Content → List ℕ → Eval Value
stretch_content t c shape = unless_too_large (limit_fault (item_size t) []) (Asks (Make (array_bytes t [] (λ i. c))) (λ b. view_value value.Array b (broadcast_view (contiguous t []) shape)))

-- what was chosen of the elements in a base
abbrev pub choose_in : Base → Geo → Chosen → Eval Value
choose_in b g (AnElement t p) = element_of b g.writable t p
choose_in b g (AView h) = view_value value.Array b h
choose_in b g (ACopy h) = Asks (Use b (byte_places h)) (λ bytes. fresh_array h.element h.shape (content_in_order h.shape (contents_in h.element (length h.places) bytes)))
choose_in b g (Stretched t c shape) = stretch_content t c shape

-- a number has no elements to choose of
abbrev pub choose_of_number : Chosen → Eval Value
choose_of_number (Stretched t c shape) = stretch_content t c shape
choose_of_number c = Refuses (Stmt NotAnArray)

-- GIVES what was chosen of a value
abbrev pub choose_of : Value → Chosen → Eval Value
choose_of (value.Array b g) c = choose_in b g c
choose_of (value.Row b g) c = choose_in b g c
choose_of _ c = choose_of_number c

-- the bytes are stored where a value lies
abbrev pub store_in : List (ℕ × ℕ) → Value → Eval Effect
store_in ws (value.Array b g) = Gives (Storing b ws)
store_in ws (value.Row b g) = Gives (Storing b ws)
store_in ws _ = Refuses (Stmt NotAnArray)

-- ---- operations

-- all operands are used, and then it goes on
abbrev pub operands : {A : Type 0} → List (Usage × Value) → (List Operand → Eval A) → Eval A
operands [] go = go []
operands (v ∷ vs) go = use_operand v.0 v.1 >>= λ o. operands vs (λ os. go (o ∷ os))

-- an operation computes a number or a fresh array, or it chooses something of its first operand
pub data Operation : Type 0 where
  Computes : (List Operand → Result Made Fault) → Operation
  Views : Viewing → Operation

-- goes on with the value of an operand
abbrev pub with_value : {A : Type 0} → List (Usage × Value) → ℕ → (Value → Eval A) → Eval A
with_value [] n go = Refuses (Stmt BadArgument)
with_value (v ∷ vs) zero go = go v.1
with_value (v ∷ vs) (suc n) go = with_value vs n go

-- AN OPERATION: its operands are used, then it is refused or gives its result
abbrev pub perform : Operation → List (Usage × Value) → Eval Value
perform (Computes f) vs = operands vs (λ os. decide (f os) >>= give)
perform (Views w) vs = operands vs (λ os. decide (choose w os) >>= λ c. with_value vs 0 (λ v. choose_of v c))

-- ---- evaluation

abbrev pub bound_value : List ℕ → Option Value → Eval Value
bound_value n None = Refuses (Stmt (NoName n))
bound_value n (Some v) = Gives v

abbrev pub name : List ℕ → Eval Value
name n = Asks (Lookup n) (λ found. bound_value n found)

-- what is made of an input: it is read, also where it is then refused. A name that no input may have is refused, and nothing is read.
abbrev pub input_value : List ℕ → (Option Source → Result Loaded Fault) → Eval Value
input_value n f = if is_input_name n then Asks (Ask n) (λ source. decide (f source) >>= give_loaded) else Refuses (Stmt BadArgument)

-- what an expression comes to: a name, what is made of an input, or an operation and its operands, from left to right
mutual
  pub data Plan : Type 0 where
    Named : List ℕ → Plan
    FromInput : List ℕ → (Option Source → Result Loaded Fault) → Plan
    Does : Operation → Plans → Plan

  pub data Plans : Type 0 where
    Done : Plans
    And : Usage → Plan → Plans → Plans

abbrev mutual
  pub evaluate : Plan → Eval Value
  evaluate (Named n) = name n
  evaluate (FromInput n f) = input_value n f
  evaluate (Does op ps) = with_values ps (perform op)

  -- all are evaluated, and then it goes on
  pub with_values : Plans → (List (Usage × Value) → Eval Value) → Eval Value
  with_values Done go = go []
  with_values (And u p ps) go = evaluate p >>= λ v. with_values ps (λ vs. go ((u, v) ∷ vs))

-- ---- statements

abbrev pub do_deed : List (Usage × Value) → Deed → Eval Effect
do_deed vs NoDeed = Gives Nothing
do_deed vs (PrintsText text) = Gives (Prints text)
do_deed vs (SavesFile n file) = Gives (Saves n file)
do_deed vs (BindsFirst n) = with_value vs 0 (λ v. Gives (Binding n v))
do_deed vs (BindsMade n m) = give m >>= λ v. Gives (Binding n v)
do_deed vs (Unbinds n) = Gives (Unbinding n)
do_deed vs (Writes k ws) = with_value vs k (store_in ws)
do_deed vs (MakesAndWrites m k ws) = give m >>= λ v. with_value vs k (store_in ws)

abbrev pub act_on : (List Operand → Result Deed Fault) → List (Usage × Value) → Eval Effect
act_on f vs = operands vs (λ os. decide (f os) >>= do_deed vs)

-- What a statement comes to: its operands, and what is done by them. `T[..] op= e` takes `T[..]` before e is evaluated: then e and
-- `T[..]` stand before the operands of `T[..]`.
pub data Work : Type 0 where
  Acts : (List Operand → Result Deed Fault) → Plans → Work
  ActsOn : (List Operand → Result Deed Fault) → Viewing → Plans → Plan → Work

-- the same for what goes on to an effect
abbrev pub evaluate_all : Plans → (List (Usage × Value) → Eval Effect) → Eval Effect
evaluate_all Done go = go []
evaluate_all (And u p ps) go = evaluate p >>= λ v. evaluate_all ps (λ vs. go ((u, v) ∷ vs))

-- its operands are evaluated and used, then it is refused or does its deed
abbrev pub do_work : Work → Eval Effect
do_work (Acts f ps) = evaluate_all ps (act_on f)
do_work (ActsOn f w ps p) = evaluate_all ps (λ vs. perform (Views w) vs >>= λ x. evaluate p >>= λ y. act_on f ((Whole, y) ∷ (Whole, x) ∷ vs))
