-- Views of values, and `np.broadcast_to`.
use Rattle.std.proofs.Common.{◌≡◌, ℕ, true, List, map, Option, None, Some, Result, Ok, Err, IsErrAnd, refl, sym, ap, subst, ◌∙◌}
use Rattle.std.proofs.lemmas.Result.{err_from_is_err_and}
use Rattle.nd_model.specs.Arrays.View.{Geo, item_size}
use Rattle.nd_model.specs.Arrays.Content.{Content, content_or}
use Rattle.nd_model.specs.Cells.Fault.{Fault, ViewFault}
use Rattle.nd_model.specs.Cells.Refusing as refusing
use Rattle.nd_model.specs.Arrays.Strides.{limit_fault}
use Rattle.nd_model.specs.Arrays.Broadcast.{unless_fault}
use Rattle.nd_model.specs.Making.Creation.{lengths_of, without_axes}
use Rattle.nd_model.specs.Cells.Running.{Running, Inputs}
use Rattle.nd_model.specs.Arrays.Value as model
use Rattle.nd_model.specs.Arrays.Value.{Base}
use Rattle.nd_model.specs.Cells.Evaluation.{Eval, run, ◌>>=◌, decide}
use Rattle.nd_model.specs.Making.Operand as operand
use Rattle.nd_model.specs.Making.Operand.{Operand, Plain, Elements, Chosen, AView, Stretched, RowsOnly}
use Rattle.nd_model.specs.Cells.Operation.{operands, choose_in, choose_of, choose_of_number}
use Rattle.nd_model.specs.Indexing.ShapeChoices.{stretch_operand, stretch_to}
use Rattle.nd_types.specs.declared.num.Num.{Num}
use Rattle.nd_types.specs.declared.num.Num.TheVariants as num
use Rattle.nd_heap.specs.declared.value.Value.{Value}
use Rattle.nd_heap.specs.declared.value.Value.TheVariants.{Number, Array, Row}
use Rattle.nd_heap.specs.declared.value.Array as heap
use Rattle.nd_heap.specs.Values.{base_of, geo_of, value_of}
use Rattle.nd_operation.specs.declared.operators.operand.New.{New}
use Rattle.nd_operation.specs.declared.operators.operand.Operand as lent
use Rattle.nd_operation.specs.declared.operators.operand.Operand.TheVariants as lent_operand
use Rattle.nd_operation.specs.declared.refusals.stop.Stop.{Stop}
use Rattle.nd_operation.specs.declared.refusals.stop.Stop.TheVariants.{Memory, Refused}
use Rattle.nd_operation.specs.Operators.Contents.{num_of, operand_of, unused_of}
use Rattle.nd_operation.specs.Operators.New.{given}
use Rattle.nd_eval.specs.Choosing.Shapes.{IsAlone, MakesStretched}
use Rattle.nd_eval.specs.Ends.{Ends}
use Rattle.nd_eval.specs.Parts.{stretch, unused}
use Rattle.nd_eval.specs.Uses.{IsNoArray, marked, operand_over}
use Rattle.nd_eval.proofs.Parts.{use_number}
use Rattle.nd_eval.proofs.Calls.{none_used}

-- an array is not used
pub stretch_array_parts : (i : Inputs) (a : heap.Array) (ws : List Value) (r : Running)
    → run i (stretch (value_of (Array a)) (map value_of ws)) r ≡ run i (decide (stretch_to (unused_of (Array a)) (map unused_of ws)) >>= choose_of (value_of (Array a))) r
stretch_array_parts i a ws r = ap (λ t. run i t r) (none_used ws (λ os. decide (stretch_to (unused_of (Array a)) os) >>= choose_of (value_of (Array a))))

-- of a number or a row there is a new array, whatever is chosen of
of_number : (n : Num) (c : Chosen) → choose_of (value_of (Number n)) c ≡ choose_of_number c
of_number (num.Int z) c = refl
of_number (num.Bool t) c = refl
of_number (num.Scalar k z) c = refl

of_limits : (L : Option ViewFault) (b : Base) (g : Geo) (c : Content) (shape : List ℕ)
    → (decide (unless_fault L (Ok (Stretched g.element c shape))) >>= choose_in b g) ≡ (decide (unless_fault L (Ok (Stretched g.element c shape))) >>= choose_of_number)
of_limits None b g c shape = refl
of_limits (Some f) b g c shape = refl

of_row : (b : Base) (g : Geo) (cs : List Content) (shape : List ℕ)
    → (decide (stretch_operand (Elements true g cs) shape) >>= choose_in b g) ≡ (decide (stretch_operand (Elements true g cs) shape) >>= choose_of_number)
of_row b g cs shape = by (without_axes (Elements true g cs))
  where
    by : (o : Result Operand Fault)
        → (decide (refusing.◌>>=◌ o (λ row. unless_fault (limit_fault (item_size g.element) shape) (Ok (Stretched g.element (content_or cs 0) shape)))) >>= choose_in b g)
        ≡ (decide (refusing.◌>>=◌ o (λ row. unless_fault (limit_fault (item_size g.element) shape) (Ok (Stretched g.element (content_or cs 0) shape)))) >>= choose_of_number)
    by (Ok o) = of_limits (limit_fault (item_size g.element) shape) b g (content_or cs 0) shape
    by (Err f) = refl

of_shape : (b : Base) (g : Geo) (cs : List Content) (os : List Operand)
    → (decide (stretch_to (Elements true g cs) os) >>= choose_in b g) ≡ (decide (stretch_to (Elements true g cs) os) >>= choose_of_number)
of_shape b g cs os = by (lengths_of os)
  where
    by : (o : Result (List ℕ) Fault)
        → (decide (refusing.◌>>=◌ o (stretch_operand (Elements true g cs))) >>= choose_in b g) ≡ (decide (refusing.◌>>=◌ o (stretch_operand (Elements true g cs))) >>= choose_of_number)
    by (Ok shape) = of_row b g cs shape
    by (Err f) = refl

same_then : (m : Result Chosen Fault) (f g : Chosen → Eval model.Value) → ((c : Chosen) → f c ≡ g c) → (decide m >>= f) ≡ (decide m >>= g)
same_then (Ok c) f g h = h c
same_then (Err f) _ _ h = refl

-- it is used, and then stretched
stretch_parts : (i : Inputs) (v : Value) (ws : List Value) (r : Running) → IsNoArray v
    → run i (stretch (value_of v) (map value_of ws)) r ≡ run i (decide (stretch_to (operand_over r.bytes v) (map unused_of ws)) >>= choose_of_number) (marked v r)
stretch_parts i (Number n) ws r alone =
    ap (λ t. run i (t >>= λ o. operands (unused (map value_of ws)) (λ os. decide (stretch_to o os) >>= choose_of (value_of (Number n)))) r) (use_number RowsOnly n)
    ∙ ap (λ t. run i t r) (none_used ws (λ os. decide (stretch_to (Plain (num_of n)) os) >>= choose_of (value_of (Number n))))
    ∙ ap (λ t. run i t r) (same_then (stretch_to (Plain (num_of n)) (map unused_of ws)) (choose_of (value_of (Number n))) choose_of_number (of_number n))
stretch_parts i (Array a) ws r alone = absurd alone
stretch_parts i (Row a) ws r alone =
    ap (λ t. run i t (marked (Row a) r)) (none_used ws (λ os. decide (stretch_to (operand_over r.bytes (Row a)) os) >>= choose_in (base_of a.base) (geo_of a))
    ∙ of_shape (base_of a.base) (geo_of a) (operand.contents_of (operand_over r.bytes (Row a))) (map unused_of ws))

-- what comes after the use, where the operand is lent by a session of these bytes
pub stretch_used : (i : Inputs) (v : Value) (ws : List Value) (r s : Running) (bytes : Base → List ℕ) (x : lent.Operand) → IsNoArray v → s ≡ marked v r → bytes ≡ r.bytes → operand_of x ≡ operand_over bytes v
    → run i (stretch (value_of v) (map value_of ws)) r ≡ run i (decide (stretch_to (operand_of x) (map unused_of ws)) >>= choose_of_number) s
stretch_used i v ws r s bytes x alone mark kept lent =
    stretch_parts i v ws r alone
    ∙ (λ j. run i (decide (stretch_to (sym (lent ∙ ap (λ b. operand_over b v) kept) j) (map unused_of ws)) >>= choose_of_number) (sym mark j))

pub alone_is : (v : Value) (bytes : Base → List ℕ) (x : lent.Operand) → IsNoArray v → operand_of x ≡ operand_over bytes v → IsAlone x
alone_is (Number n) bytes (lent_operand.Number m) alone h = tt
alone_is (Number n) bytes (lent_operand.Elements e) alone h = absurd (cc)
alone_is (Array a) bytes x alone h = absurd alone
alone_is (Row a) bytes (lent_operand.Number m) alone h = absurd (cc)
alone_is (Row a) bytes (lent_operand.Elements e) alone h = cc

-- ---- what is made

stopped_stretching : (i : Inputs) (m : Result Chosen Fault) (r : Running) (e : Stop) → MakesStretched (Err e) m → Ends value_of (Err e) r (run i (decide m >>= choose_of_number) r)
stopped_stretching i m r (Memory want) h = tt
stopped_stretching i m r (Refused f) h = ap (λ t. run i t r) h

pub exits_stretching : (i : Inputs) (m : Result Chosen Fault) (r : Running) (e : Stop) (o : Result Value Stop) → IsErrAnd o (λ x. x ≡ e) → MakesStretched (Err e) m
    → Ends value_of o r (run i (decide m >>= choose_of_number) r)
exits_stretching i m r e o is h =
    let p : (x : Stop) × (o ≡ Err x) × (x ≡ e) = err_from_is_err_and o is in
    subst (λ (o : Result Value Stop). Ends value_of o r (run i (decide m >>= choose_of_number) r)) (sym (p.1 ∙ ap Err p.2)) (stopped_stretching i m r e h)

pub follows_stretching : (i : Inputs) (m : Result Chosen Fault) (r s : Running) (n : New) (o : Result Value Stop) → MakesStretched (Ok n) m → Ends value_of o s (run i (given n) r)
    → Ends value_of o s (run i (decide m >>= choose_of_number) r)
follows_stretching i m r s n o h rest = subst (λ t. Ends value_of o s (run i t r)) (sym h) rest
