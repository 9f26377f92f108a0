-- Assignments with an operator: what is used, and then what is done.
use Rattle.std.proofs.Common.{◌≡◌, ℕ, true, false, List, [], ◌∷◌, map, length, Result, Ok, Err, IsErrAnd, refl, sym, ap, ◌∙◌, subst, arith}
use Rattle.std.specs.Prelude.{nat_eq, ◌&&◌, if◌then◌else◌}
use Rattle.std.proofs.lemmas.Bool.Decides.{nat_tests}
use Rattle.std.proofs.lemmas.Result.{err_from_is_err_and}
use Rattle.nd_model.specs.Making.Augmenting.{array_in_place, content_in_place, augment_array, augment_item, augment_name, deed_of_made, in_place_kind, in_place_writes, operand_of_made, results_in_place}
use Rattle.nd_model.specs.Arrays.Content.{Content}
use Rattle.nd_model.specs.Arrays.Element.{Kind}
use Rattle.nd_model.specs.Making.Elementwise.{binary}
use Rattle.nd_model.specs.Cells.Evaluation.{Eval, Gives, run, ◌>>=◌, decide}
use Rattle.nd_model.specs.Cells.Fault.{Fault}
use Rattle.nd_model.specs.Cells.Meaning.{two}
use Rattle.nd_model.specs.Making.Operand as model
use Rattle.nd_model.specs.Making.Operand.{Usage, Whole, Unused, Made, ANumber, AnArray, BindsMade, Writes}
use Rattle.nd_model.specs.Cells.Operation.{Computes, do_deed, give, operands, store_in, use_operand}
use Rattle.nd_model.specs.Cells.Refusing as refusing
use Rattle.nd_model.specs.Cells.Running.{Running, Inputs, Effect, Binding, Storing}
use Rattle.nd_model.specs.Cells.Sound.{IsHeldView, IsViewOf, LiesIn}
use Rattle.nd_model.specs.Grammar.Syntax.{BinaryOp}
use Rattle.nd_model.specs.Arrays.Tuple.{indices}
use Rattle.nd_model.specs.Arrays.Value as value
use Rattle.nd_model.specs.Arrays.Value.{Base, same_base}
use Rattle.nd_model.specs.Arrays.View.{Geo}
use Rattle.nd_model.specs.Indexing.Viewing.{Viewing}
use Rattle.nd_model.specs.Making.Writing.{assignment_writes}
use Rattle.nd_model.proofs.Soundness.{given_run, safe_performed, IfGiven}
use Rattle.nd_types.specs.Kinds.{kind_of}
use Rattle.nd_types.specs.declared.num.Num.{Num}
use Rattle.nd_types.specs.declared.num.Num.TheVariants as num
use Rattle.nd_heap.specs.declared.value.Array.{Array as ArrayValue}
use Rattle.nd_heap.specs.declared.value.Value.{Value}
use Rattle.nd_heap.specs.declared.value.Value.TheVariants.{Number, Array, Row}
use Rattle.nd_heap.specs.Values.{base_of, geo_of, value_of}
use Rattle.nd_operation.specs.Operators.Contents.{contents_over, elements_over, unused_of}
use Rattle.nd_operation.specs.Operators.New.{given, MakesNew, NewLies, StandsFor, operand_of_new}
use Rattle.nd_operation.specs.declared.operators.operand.New.{New}
use Rattle.nd_operation.specs.declared.operators.operand.New.TheVariants as new
use Rattle.nd_operation.specs.declared.refusals.stop.Stop.{Stop}
use Rattle.nd_operation.specs.declared.refusals.stop.Stop.TheVariants.{Memory, Refused}
use Rattle.nd_operation.specs.Refusals.Ends.{Makes}
use Rattle.nd_eval.specs.Choosing.Indexing.{index_operands, operands_of, viewing_of}
use Rattle.nd_eval.proofs.choosing.Indexing.{same_index_arrays}
use Rattle.nd_model.specs.Indexing.Index.{has_array}
use Rattle.nd_eval.specs.Choosing.Targets.{geo_in, target_by, writes_to}
use Rattle.nd_eval.specs.declared.choosing.targets.Target.{Target}
use Rattle.nd_eval.specs.declared.choosing.indexes.IndexValue.{IndexValue}
use Rattle.nd_eval.specs.declared.choosing.indexes.IndexValue.TheVariants as index
use Rattle.nd_eval.proofs.choosing.Lying.{writes_made}
use Rattle.nd_eval.specs.Contents as contents
use Rattle.nd_eval.specs.Ends.{Ends}
use Rattle.nd_eval.specs.Parts.{augmentation, copy_update, item_augmentation, made_assignment, operate, store_made, stored_in, update}
use Rattle.nd_eval.specs.Uses.{IsHeld, IsNoArray, index_marked, marked, operand_over}
use Rattle.nd_eval.proofs.Chains.{decided_later, ends_alike, exits_making, made_ends}
use Rattle.nd_eval.proofs.Parts.{regrouped, then_same}
use Rattle.nd_eval.proofs.Uses.{index_kept, index_used, kept_bytes, used}

-- what is made without a question
pub makes_ends : {A X : Type 0} (v : X → A) (i : Inputs) (r : Running) (o : Result X Stop) (m : Result A Fault) → Makes v o m → Ends v o r (run i (decide m) r)
makes_ends v i r (Ok x) m h = ap (λ m. run i (decide m) r) h
makes_ends v i r (Err e) m h = made_ends v i m r e h

-- ---- in place

abbrev Bytes : Type 0
Bytes = List (ℕ × ℕ)

-- bytes that are stored where the first operand lies, or the second one
first_written : (i : Inputs) (m : Result Bytes Fault) (b : Base) (g : Geo) (y : Usage × value.Value) (r : Running)
    → run i (decide (refusing.◌>>=◌ m (λ ws. Ok (Writes 0 ws))) >>= do_deed ((Whole, value.Array b g) ∷ y ∷ [])) r ≡ run i (decide (refusing.◌>>=◌ m (λ ws. Ok (Storing b ws)))) r
first_written i (Ok ws) b g y r = refl
first_written i (Err f) b g y r = refl

second_written : (i : Inputs) (m : Result Bytes Fault) (b : Base) (g : Geo) (y : Usage × value.Value) (vs : List (Usage × value.Value)) (r : Running)
    → run i (decide (refusing.◌>>=◌ m (λ ws. Ok (Writes 1 ws))) >>= do_deed (y ∷ (Whole, value.Array b g) ∷ vs)) r ≡ run i (decide (refusing.◌>>=◌ m (λ ws. Ok (Storing b ws)))) r
second_written i (Ok ws) b g y vs r = refl
second_written i (Err f) b g y vs r = refl

stored_there : (i : Inputs) (ws : Bytes) (v : value.Value) (r : Running) → run i (store_in ws v) r ≡ run i (decide (stored_in ws v)) r
stored_there i ws (value.Int z) r = refl
stored_there i ws (value.Truth t) r = refl
stored_there i ws (value.Scalar k z) r = refl
stored_there i ws (value.Array b g) r = refl
stored_there i ws (value.Row b g) r = refl

-- or the third one, once something is made
third_written : (i : Inputs) (m : Result model.Operand Fault) (k : model.Operand → Result Bytes Fault) (y x t : Usage × value.Value) (vs : List (Usage × value.Value)) (r : Running)
    → run i (decide (refusing.◌>>=◌ m (λ z. refusing.◌>>=◌ (k z) (λ ws. Ok (Writes 2 ws)))) >>= do_deed (y ∷ x ∷ t ∷ vs)) r
    ≡ run i (decide (refusing.◌>>=◌ m (λ z. refusing.◌>>=◌ (k z) (λ ws. stored_in ws t.1)))) r
third_written i (Err f) k y x t vs r = refl
third_written i (Ok z) k y x t vs r = at (k z)
  where
    at : (q : Result Bytes Fault) → run i (decide (refusing.◌>>=◌ q (λ ws. Ok (Writes 2 ws))) >>= do_deed (y ∷ x ∷ t ∷ vs)) r ≡ run i (decide (refusing.◌>>=◌ q (λ ws. stored_in ws t.1))) r
    at (Ok ws) = stored_there i ws t.1 r
    at (Err f) = refl

module _ (i : Inputs) (op : BinaryOp) (a : ArrayValue) (v : Value) where
  abbrev b : Base
  b = base_of a.base

  abbrev g : Geo
  g = geo_of a

  -- what is stored, over the blocks of a session
  abbrev stored : Running → (Base → List ℕ) → Result Effect Fault × Running
  stored r bytes = run i (decide (update op b g (contents_over g (bytes b)) (operand_over bytes v))) r

  -- `n op= v`
  pub array_augmented : (n : List ℕ) (r s t : Running) → s ≡ marked (Array a) r → t ≡ marked v s → run i (augmentation n op (value_of (Array a)) (value_of v)) r ≡ stored t t.bytes
  array_augmented n r s t mark again =
      let vs = (Whole, value_of (Array a)) ∷ (Whole, value_of v) ∷ [] in
      let go = λ (o : model.Operand) (p : model.Operand). decide (two (augment_name n op) (o ∷ p ∷ [])) >>= do_deed vs in
      let x = operand_over r.bytes (Array a) in
      let m : Running = marked (Array a) r in
      used i (Array a) (λ o. use_operand Whole (value_of v) >>= go o) r
      ∙ used i v (go x) m
      ∙ first_written i (in_place_writes op g (contents_over g (r.bytes b)) (operand_over r.bytes v)) b g (Whole, value_of v) (marked v m)
      ∙ (λ j. stored (sym (again ∙ ap (marked v) mark) j) (sym (kept_bytes v s t again ∙ kept_bytes (Array a) r s mark) j))

  module _ (t : Value) (x : IndexValue) (r s q u : Running) (mark : s ≡ marked v r) (again : q ≡ marked (Array a) s) (last : u ≡ index_marked x q) where
    abbrev vs : List (Usage × value.Value)
    vs = (Whole, value_of v) ∷ (Whole, value_of (Array a)) ∷ (Unused, value_of t) ∷ (contents.index_of x).1

    abbrev once : Running
    once = marked v r

    abbrev twice : Running
    twice = marked (Array a) once

    -- the elements of the array and the value
    abbrev deed : (Base → List ℕ) → Viewing → model.Operand → List model.Operand → Result model.Deed Fault
    deed bytes w p os = augment_array (has_array os) op w g (contents_over g (bytes b)) (operand_over bytes v) p os

    all_kept : u.bytes ≡ r.bytes
    all_kept = index_kept x q u last ∙ kept_bytes (Array a) s q again ∙ kept_bytes v r s mark

    all_noted : index_marked x twice ≡ u
    all_noted = sym (last ∙ ap (index_marked x) (again ∙ ap (marked (Array a)) mark))

    kept_twice : twice.bytes ≡ r.bytes
    kept_twice = kept_bytes (Array a) once twice refl ∙ kept_bytes v r once refl

    -- `t[x] op= v`, once all is used
    all_used_there : run i (item_augmentation op (value_of v) (value_of (Array a)) (value_of t) (contents.index_of x)) r
        ≡ run i (decide (deed u.bytes (viewing_of x) (unused_of t) (index_operands u.bytes x)) >>= do_deed vs) u
    all_used_there =
        let rest = λ (y : model.Operand) (o : model.Operand). use_operand Unused (value_of t) >>= λ p. operands (contents.index_of x).1 (λ os. decide (augment_item op (contents.index_of x).0 (y ∷ o ∷ p ∷ os)) >>= do_deed vs) in
        let y = operand_over r.bytes v in
        used i v (λ y. use_operand Whole (value_of (Array a)) >>= rest y) r
        ∙ used i (Array a) (rest y) once
        ∙ index_used i t x (λ w p os. decide (augment_array (has_array os) op w g (contents_over g (once.bytes b)) y p os) >>= do_deed vs) twice
        ∙ (λ j. run i (decide (augment_array (has_array (index_operands (kept_twice j) x)) op (viewing_of x) g (contents_over g (kept_bytes v r once refl j b)) y (unused_of t) (index_operands (kept_twice j) x)) >>= do_deed vs) (all_noted j))
        ∙ (λ j. run i (decide (deed (sym all_kept j) (viewing_of x) (unused_of t) (index_operands (sym all_kept j) x)) >>= do_deed vs) u)

    -- on a view
    pub array_item_augmented : has_array (operands_of x) ≡ false → run i (item_augmentation op (value_of v) (value_of (Array a)) (value_of t) (contents.index_of x)) r ≡ stored u u.bytes
    array_item_augmented basic =
        let os : List model.Operand = index_operands u.bytes x in
        let y = operand_over u.bytes v in
        let cs = contents_over g (u.bytes b) in
        all_used_there
        ∙ ap (λ t'. run i (decide (augment_array t' op (viewing_of x) g cs y (unused_of t) os) >>= do_deed vs) u) (same_index_arrays u.bytes x ∙ basic)
        ∙ second_written i (in_place_writes op g cs y) b g (Whole, value_of v) ((Unused, value_of t) ∷ (contents.index_of x).1) u

    -- on a copy
    pub copy_item_augmented : has_array (operands_of x) ≡ true → run i (item_augmentation op (value_of v) (value_of (Array a)) (value_of t) (contents.index_of x)) r
        ≡ run i (decide (copy_update op g (contents_over g (u.bytes b)) (operand_over u.bytes v) (viewing_of x) (value_of t) (unused_of t) (index_operands u.bytes x))) u
    copy_item_augmented advanced =
        let os : List model.Operand = index_operands u.bytes x in
        let y = operand_over u.bytes v in
        let cs = contents_over g (u.bytes b) in
        all_used_there
        ∙ ap (λ t'. run i (decide (augment_array t' op (viewing_of x) g cs y (unused_of t) os) >>= do_deed vs) u) (same_index_arrays u.bytes x ∙ advanced)
        ∙ third_written i (array_in_place op g cs y) (λ z. assignment_writes (viewing_of x) z (unused_of t) os) (Whole, value_of v) (Whole, value_of (Array a)) (Unused, value_of t) (contents.index_of x).1 u

-- ---- a name gets another value

module _ (i : Inputs) (n : List ℕ) (op : BinaryOp) where
  no_array : (bytes : Base → List ℕ) (found : Value) (p : model.Operand) → IsNoArray found
      → augment_name n op (operand_over bytes found) p ≡ refusing.◌>>=◌ (binary op (operand_over bytes found) p) (λ m. Ok (BindsMade n m))
  no_array bytes (Number k) p none = refl
  no_array bytes (Array a) p none = absurd none
  no_array bytes (Row a) p none = refl

  -- what the operator makes is bound
  pub made_bound : (found v : Value) (r : Running) → IsNoArray found
      → run i (augmentation n op (value_of found) (value_of v)) r ≡ run i (operate (binary op) (value_of found) (value_of v) >>= λ w. Gives (Binding n w)) r
  made_bound found v r none =
      let vs = (Whole, value_of found) ∷ (Whole, value_of v) ∷ [] in
      let x = operand_over r.bytes found in
      let go = λ (o : model.Operand). use_operand Whole (value_of v) >>= λ p. decide (binary op o p) >>= give in
      let bind = λ (w : value.Value). Gives (Binding n w) in
      let s : Running = marked found r in
      used i found (λ o. use_operand Whole (value_of v) >>= λ p. decide (two (augment_name n op) (o ∷ p ∷ [])) >>= do_deed vs) r
      ∙ then_same i (use_operand Whole (value_of v)) (λ p. decide (augment_name n op x p) >>= do_deed vs) (λ p. (decide (binary op x p) >>= give) >>= bind) s
      (λ p q. ap (λ m. run i (decide m >>= do_deed vs) q) (no_array r.bytes found p none)
      ∙ decided_later i (binary op x p) (BindsMade n) (do_deed vs) q ∙ sym (regrouped i (decide (binary op x p)) give bind q))
      ∙ sym (regrouped i (use_operand Whole (value_of v)) (λ p. decide (binary op x p) >>= give) bind s)
      ∙ sym (used i found (λ o. go o >>= bind) r)
      ∙ sym (regrouped i (use_operand Whole (value_of found)) go bind r)

abbrev V : Running → value.Value → Type 0
V r v = IsViewOf (IsHeldView r) v

-- ---- what the operator makes is assigned

made_stored : (i : Inputs) (m : Result Made Fault) (k : Made → Result Bytes Fault) (y x t : Usage × value.Value) (vs : List (Usage × value.Value)) (r : Running)
    → run i (decide (refusing.◌>>=◌ m (λ made. refusing.◌>>=◌ (k made) (λ ws. Ok (deed_of_made made ws)))) >>= do_deed (y ∷ x ∷ t ∷ vs)) r
    ≡ run i (decide (refusing.◌>>=◌ m (λ made. refusing.◌>>=◌ (k made) (λ ws. Ok (made, ws)))) >>= store_made t.1) r
made_stored i (Err f) k y x t vs r = refl
made_stored i (Ok made) k y x t vs r = at made (k made)
  where
    at : (made : Made) (q : Result Bytes Fault) → run i (decide (refusing.◌>>=◌ q (λ ws. Ok (deed_of_made made ws))) >>= do_deed (y ∷ x ∷ t ∷ vs)) r ≡ run i (decide (refusing.◌>>=◌ q (λ ws. Ok (made, ws))) >>= store_made t.1) r
    at made (Err f) = refl
    at (ANumber n) (Ok ws) = refl
    at (AnArray e shape f) (Ok ws) = refl

module _ (i : Inputs) (op : BinaryOp) (v found t : Value) (x : IndexValue) where
  abbrev made : (Base → List ℕ) → Result (Made × Bytes) Fault
  made bytes = made_assignment op (operand_over bytes found) (operand_over bytes v) (viewing_of x) (unused_of t) (index_operands bytes x)

  module _ (bytes : Base → List ℕ) (y : model.Operand) where
    not_array : (w : Viewing) (o : model.Operand) (os : List model.Operand) → IsNoArray found → augment_item op w (y ∷ operand_over bytes found ∷ o ∷ os)
        ≡ refusing.◌>>=◌ (binary op (operand_over bytes found) y) (λ m. refusing.◌>>=◌ (assignment_writes w (operand_of_made m) o os) (λ ws. Ok (deed_of_made m ws)))
    not_array w o os none = by found none
      where
        by : (found : Value) → IsNoArray found → augment_item op w (y ∷ operand_over bytes found ∷ o ∷ os)
            ≡ refusing.◌>>=◌ (binary op (operand_over bytes found) y) (λ m. refusing.◌>>=◌ (assignment_writes w (operand_of_made m) o os) (λ ws. Ok (deed_of_made m ws)))
        by (Number k) none = refl
        by (Array a) none = absurd none
        by (Row a) none = refl

  -- once all is used
  pub made_assigned : (r s q u : Running) → IsNoArray found → s ≡ marked v r → q ≡ marked found s → u ≡ index_marked x q
      → run i (item_augmentation op (value_of v) (value_of found) (value_of t) (contents.index_of x)) r ≡ run i (decide (made u.bytes) >>= store_made (value_of t)) u
  made_assigned r s q u none mark again last =
      let vs = (Whole, value_of v) ∷ (Whole, value_of found) ∷ (Unused, value_of t) ∷ (contents.index_of x).1 in
      let w = (contents.index_of x).0 in
      let rest = λ (y : model.Operand) (o : model.Operand). use_operand Unused (value_of t) >>= λ p. operands (contents.index_of x).1 (λ os. decide (augment_item op w (y ∷ o ∷ p ∷ os)) >>= do_deed vs) in
      let y = operand_over r.bytes v in
      let m : Running = marked v r in
      let n : Running = marked found m in
      let z = operand_over m.bytes found in
      let kept : n.bytes ≡ r.bytes = kept_bytes found m n refl ∙ kept_bytes v r m refl in
      let done = λ (w : Viewing) (p : model.Operand) (os : List model.Operand). decide (refusing.◌>>=◌ (binary op z y) (λ made. refusing.◌>>=◌ (assignment_writes w (operand_of_made made) p os) (λ ws. Ok (deed_of_made made ws)))) >>= do_deed vs in
      used i v (λ y. use_operand Whole (value_of found) >>= rest y) r
      ∙ used i found (rest y) m
      ∙ ap (λ (k : model.Operand → List model.Operand → Eval Effect). run i (use_operand Unused (value_of t) >>= λ p. operands (contents.index_of x).1 (k p)) n) (λ j p os. decide (not_array m.bytes y w p os none j) >>= do_deed vs)
      ∙ index_used i t x done n
      ∙ made_stored i (binary op z y) (λ made. assignment_writes (viewing_of x) (operand_of_made made) (unused_of t) (index_operands n.bytes x)) (Whole, value_of v) (Whole, value_of found) (Unused, value_of t) (contents.index_of x).1 (index_marked x n)
      ∙ (λ j. run i (decide (made_assignment op (operand_over (kept_bytes v r m refl j) found) y (viewing_of x) (unused_of t) (index_operands (kept j) x)) >>= store_made (value_of t)) (index_marked x n))
      ∙ (λ j. run i (decide (made (sym (index_kept x q u last ∙ kept_bytes found s q again ∙ kept_bytes v r s mark) j)) >>= store_made (value_of t)) (sym (last ∙ ap (index_marked x) (again ∙ ap (marked found) mark)) j))

-- ---- values that are given

-- a value that an operator gives lies in its block
pub operate_held : (i : Inputs) (f : model.Operand → model.Operand → Result Made Fault) (v w : Value) (r s : Running) (x : Value)
    → run i (operate f (value_of v) (value_of w)) r ≡ (Ok (value_of x), s) → IsHeld r v → IsHeld r w → IsHeld s x
operate_held i f v w r s x found held also =
    subst (λ (m : Result value.Value Fault × Running). IfGiven V m) found (given_run V i r (operate f (value_of v) (value_of w)) (safe_performed i r (Computes (two f)) ((Whole, value_of v) ∷ (Whole, value_of w) ∷ []) (held, (also, tt))))

-- the operand that a value of the definitions is
abbrev operand_in : (Base → List ℕ) → value.Value → model.Operand
operand_in bytes (value.Int z) = model.Plain (model.Int z)
operand_in bytes (value.Truth b) = model.Plain (model.Truth b)
operand_in bytes (value.Scalar k z) = model.Plain (model.Scalar k z)
operand_in bytes (value.Array b g) = elements_over false g (bytes b)
operand_in bytes (value.Row b g) = elements_over true g (bytes b)

operand_is : (bytes : Base → List ℕ) (v : Value) → operand_over bytes v ≡ operand_in bytes (value_of v)
operand_is bytes (Number (num.Int z)) = refl
operand_is bytes (Number (num.Bool b)) = refl
operand_is bytes (Number (num.Scalar k z)) = refl
operand_is bytes (Array a) = refl
operand_is bytes (Row a) = refl

own_base : (b : Base) → same_base b b ≡ true
own_base b = (λ i. same b.label i && same b.number i)
  where
    same : (n : ℕ) → nat_eq n n ≡ true
    same n = grind (arith, nat_tests)

module _ (i : Inputs) (r s : Running) (v : Value) where
  abbrev session : Result value.Value Fault × Running → Running
  session m = m.1

  abbrev given_value : value.Value → Result value.Value Fault × Running → value.Value
  given_value w (Ok x, q) = x
  given_value w (Err f, q) = w

  -- the value of what was made is the operand that it was
  pub given_operand : (n : New) → run i (given n) r ≡ (Ok (value_of v), s) → operand_over s.bytes v ≡ operand_of_new n
  given_operand (new.Number (num.Int z)) h = operand_is s.bytes v ∙ ap (operand_in s.bytes) (sym (ap (given_value (value.Int z)) h))
  given_operand (new.Number (num.Bool b)) h = operand_is s.bytes v ∙ ap (operand_in s.bytes) (sym (ap (given_value (value.Truth b)) h))
  given_operand (new.Number (num.Scalar k z)) h = operand_is s.bytes v ∙ ap (operand_in s.bytes) (sym (ap (given_value (value.Truth true)) h))
  given_operand (new.Array g block) h =
      let b : Base = record { label = r.label; number = r.next } in
      operand_is s.bytes v ∙ ap (operand_in s.bytes) (sym (ap (given_value (value.Truth true)) h))
      ∙ ap (λ (q : Running). elements_over false g (q.bytes b)) (sym (ap session h)) ∙ ap (λ t. elements_over false g (if t then block else r.bytes b)) (own_base b)

  pub given_held : (n : New) → run i (given n) r ≡ (Ok (value_of v), s) → NewLies n → IsHeld s v
  given_held (new.Number (num.Int z)) h lies = subst (V s) (ap (given_value (value.Int z)) h) tt
  given_held (new.Number (num.Bool b)) h lies = subst (V s) (ap (given_value (value.Truth b)) h) tt
  given_held (new.Number (num.Scalar k z)) h lies = subst (V s) (ap (given_value (value.Truth true)) h) tt
  given_held (new.Array g block) h lies =
      let b : Base = record { label = r.label; number = r.next } in
      subst (V s) (ap (given_value (value.Truth true)) h) (subst (λ (q : Running). IsHeldView q b g) (ap session h) (record {
        lies = subst (λ t. LiesIn (length (if t then block else r.bytes b)) g) (sym (own_base b)) lies;
        old = λ e. omega arith;
      }))

-- ---- the exits by `?`

-- an operator in place that is refused
pub exits_update : {Y : Type 0} (w : Y → Effect) (op : BinaryOp) (b : Base) (g : Geo) (cs : List Content) (y : model.Operand) (e : Stop) (o : Result Y Stop)
    → IsErrAnd o (λ x. x ≡ e) → Makes kind_of (Err e) (in_place_kind op g y) → Makes w o (update op b g cs y)
exits_update {Y} w op b g cs y e o is h =
    let p : (x : Stop) × (o ≡ Err x) × (x ≡ e) = err_from_is_err_and o is in
    subst (λ (o : Result Y Stop). Makes w o (update op b g cs y)) (sym (p.1 ∙ ap Err p.2)) (at e h)
  where
    at : (e : Stop) → Makes kind_of (Err e) (in_place_kind op g y) → Makes w (Err e) (update op b g cs y)
    at (Memory m) h = tt
    at (Refused f) h = ap (λ k. refusing.◌>>=◌ (refusing.◌>>=◌ k (λ k. Ok (results_in_place k op g cs y))) (λ ws. Ok (Storing b ws))) h

pub goes_update : (op : BinaryOp) (b : Base) (g : Geo) (cs : List Content) (y : model.Operand) (k : Kind) → in_place_kind op g y ≡ Ok k → update op b g cs y ≡ Ok (Storing b (results_in_place k op g cs y))
goes_update op b g cs y k h = ap (λ k. refusing.◌>>=◌ (refusing.◌>>=◌ k (λ k. Ok (results_in_place k op g cs y))) (λ ws. Ok (Storing b ws))) h

-- what an operator makes that is refused, and the assignment of what it made
module _ {Y : Type 0} (w : Y → Effect) (i : Inputs) (t : value.Value) (r : Running) (op : BinaryOp) (x y : model.Operand) (v : Viewing) (a : model.Operand) (os : List model.Operand) where
  abbrev all : Result (Made × Bytes) Fault
  all = made_assignment op x y v a os

  abbrev assigned : Made → Result Bytes Fault
  assigned m = assignment_writes v (operand_of_made m) a os

  pub exits_made : (e : Stop) (o : Result Y Stop) → IsErrAnd o (λ x. x ≡ e) → StandsFor (Err e) (binary op x y) → Ends w o r (run i (decide all >>= store_made t) r)
  exits_made e o is h =
      let p : (x : Stop) × (o ≡ Err x) × (x ≡ e) = err_from_is_err_and o is in
      subst (λ (o : Result Y Stop). Ends w o r (run i (decide all >>= store_made t) r)) (sym (p.1 ∙ ap Err p.2)) (at e h)
    where
      at : (e : Stop) → StandsFor (Err e) (binary op x y) → Ends w (Err e) r (run i (decide all >>= store_made t) r)
      at (Memory m) h = tt
      at (Refused f) h = ap (λ m. run i (decide (refusing.◌>>=◌ m (λ m. refusing.◌>>=◌ (assigned m) (λ ws. Ok (m, ws)))) >>= store_made t) r) h

  module _ (n : New) (o : model.Operand) (made : StandsFor (Ok n) (binary op x y)) (new_gives : MakesNew (Ok n) (binary op x y)) (is_new : o ≡ operand_of_new n) where
    same_operand : operand_of_made made.0 ≡ o
    same_operand = made.2 ∙ sym is_new

    parts : all ≡ refusing.◌>>=◌ (assignment_writes v o a os) (λ ws. Ok (made.0, ws))
    parts =
        ap (λ m. refusing.◌>>=◌ m (λ m. refusing.◌>>=◌ (assigned m) (λ ws. Ok (m, ws)))) made.1
        ∙ ap (λ o. refusing.◌>>=◌ (assignment_writes v o a os) (λ ws. Ok (made.0, ws))) same_operand

    in_parts : run i (decide all >>= store_made t) r ≡ run i (decide (assignment_writes v o a os) >>= λ ws. store_made t (made.0, ws)) r
    in_parts =
        ap (λ m. run i (decide m >>= store_made t) r) parts
        ∙ decided_later i (assignment_writes v o a os) (λ ws. (made.0, ws)) (store_made t) r

    pub exits_assigned : (e : Stop) (q : Result Y Stop) → IsErrAnd q (λ x. x ≡ e) → Makes (λ (x : Target). writes_to (geo_in x) o) (Err e) (assignment_writes v o a os) → Ends w q r (run i (decide all >>= store_made t) r)
    exits_assigned e q is h = ends_alike w q r in_parts (exits_making (λ (x : Target). writes_to (geo_in x) o) w i (assignment_writes v o a os) (λ ws. store_made t (made.0, ws)) r e q is h)

    gives_made : give made.0 ≡ given n
    gives_made = sym (ap (λ m. decide m >>= give) made.1) ∙ new_gives

    -- it is given, and then it is stored
    pub goes_made : (g : Geo) → assignment_writes v o a os ≡ Ok (writes_to g o) → run i (decide all >>= store_made t) r ≡ run i (given n >>= λ v. store_in (writes_to g o) t) r
    goes_made g h =
        in_parts ∙ ap (λ m. run i (decide m >>= λ ws. store_made t (made.0, ws)) r) h
        ∙ ap (λ e. run i (e >>= λ v. store_in (writes_to g o) t) r) gives_made

-- ---- an operator on a copy

module _ (op : BinaryOp) (g : Geo) (cs : List Content) (y : model.Operand) (w : Viewing) (v : value.Value) (t : model.Operand) (os : List model.Operand) where
  -- it is refused by the operator
  pub exits_copy : {Y : Type 0} (f : Y → Effect) (e : Stop) (o : Result Y Stop) → IsErrAnd o (λ x. x ≡ e) → Makes kind_of (Err e) (in_place_kind op g y) → Makes f o (copy_update op g cs y w v t os)
  exits_copy {Y} f e o is h =
      let p : (x : Stop) × (o ≡ Err x) × (x ≡ e) = err_from_is_err_and o is in
      subst (λ (o : Result Y Stop). Makes f o (copy_update op g cs y w v t os)) (sym (p.1 ∙ ap Err p.2)) (at e h)
    where
      at : (e : Stop) → Makes kind_of (Err e) (in_place_kind op g y) → Makes f (Err e) (copy_update op g cs y w v t os)
      at (Memory m) h = tt
      at (Refused d) h = ap (λ k. refusing.◌>>=◌ (refusing.◌>>=◌ k (λ k. Ok (model.Elements false g (map (content_in_place k op g cs y) (indices g.shape))))) (λ x. refusing.◌>>=◌ (assignment_writes w x t os) (λ ws. stored_in ws v))) h

  module _ (k : Kind) (kind : in_place_kind op g y ≡ Ok k) where
    abbrev left : model.Operand
    left = model.Elements false g (map (content_in_place k op g cs y) (indices g.shape))

    assigned_left : copy_update op g cs y w v t os ≡ refusing.◌>>=◌ (assignment_writes w left t os) (λ ws. stored_in ws v)
    assigned_left = ap (λ k. refusing.◌>>=◌ (refusing.◌>>=◌ k (λ k. Ok (model.Elements false g (map (content_in_place k op g cs y) (indices g.shape))))) (λ x. refusing.◌>>=◌ (assignment_writes w x t os) (λ ws. stored_in ws v))) kind

    -- or by the elements
    pub exits_left : {Y : Type 0} (f : Y → Effect) (e : Stop) (o : Result Y Stop) → IsErrAnd o (λ x. x ≡ e) → Makes geo_in (Err e) (target_by w (model.Elements false g cs) t os) → Makes f o (copy_update op g cs y w v t os)
    exits_left {Y} f e o is h =
        let p : (x : Stop) × (o ≡ Err x) × (x ≡ e) = err_from_is_err_and o is in
        subst (λ (o : Result Y Stop). Makes f o (copy_update op g cs y w v t os)) (sym (p.1 ∙ ap Err p.2)) (at e h)
      where
        at : (e : Stop) → Makes geo_in (Err e) (target_by w left t os) → Makes f (Err e) (copy_update op g cs y w v t os)
        at (Memory m) h = tt
        at (Refused d) h = assigned_left ∙ ap (λ m. refusing.◌>>=◌ m (λ ws. stored_in ws v)) (writes_made w left t os (Err (Refused d)) h)

    pub goes_left : (x : Target) → target_by w (model.Elements false g cs) t os ≡ Ok (geo_in x) → copy_update op g cs y w v t os ≡ stored_in (writes_to (geo_in x) left) v
    goes_left x h = assigned_left ∙ ap (λ m. refusing.◌>>=◌ m (λ ws. stored_in ws v)) (writes_made w left t os (Ok x) h)

-- only of an array elements are chosen by arrays
none_of_a_number : (x : IndexValue) (n : Num) (y : model.Operand) (os : List model.Operand) (h : Geo) → has_array (operands_of x) ≡ true → target_by (viewing_of x) y (unused_of (Number n)) os ≡ Ok h → ⊥
none_of_a_number (index.Field f) n y os h advanced found = absurd (cc)
none_of_a_number (index.Items xs) n y os h advanced found = absurd (cc)

none_of_a_row : (x : IndexValue) (a : ArrayValue) (y : model.Operand) (os : List model.Operand) (h : Geo) → has_array (operands_of x) ≡ true → target_by (viewing_of x) y (unused_of (Row a)) os ≡ Ok h → ⊥
none_of_a_row (index.Field f) a y os h advanced found = absurd (cc)
none_of_a_row (index.Items xs) a y os h advanced found = absurd (cc)

pub only_of_an_array : (x : IndexValue) (t : Value) (y : model.Operand) (os : List model.Operand) (h : Geo) → has_array (operands_of x) ≡ true → target_by (viewing_of x) y (unused_of t) os ≡ Ok h
    → ((a : ArrayValue) → t ≡ Array a → ⊥) → ⊥
only_of_an_array x (Number n) y os h advanced found other = none_of_a_number x n y os h advanced found
only_of_an_array x (Array a) y os h advanced found other = other a refl
only_of_an_array x (Row a) y os h advanced found other = none_of_a_row x a y os h advanced found
