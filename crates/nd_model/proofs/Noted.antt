-- What is written lies in a base whose length was read, or in one of the cell's own.
use Rattle.std.proofs.Common.{◌≡◌, ℕ, zero, suc, Bool, true, false, not, ◌&&◌, ◌||◌, eqb-true, eq-eqb, List, [], ◌∷◌, Option, Some, None, Result, Ok, Err, refl, sym, ap, ap₂, subst, ◌∙◌, inl, inr}
use Rattle.std.specs.Prelude.{nat_eq}
use mathlib.Core.Path.{fun_ext}
use Rattle.std.proofs.lemmas.Bool.{cases_Bool, or_left, and_from}
use Rattle.nd_model.specs.Arrays.View.{ElementType, One, Structure, Geo, item_size, byte_places, contiguous}
use Rattle.nd_model.specs.Arrays.Broadcast.{broadcast_view}
use Rattle.nd_model.specs.Arrays.Value.{Base, same_base, Value, Int, Truth, Scalar, Array, Row}
use Rattle.nd_model.specs.Arrays.Strides.{limit_fault}
use Rattle.nd_model.specs.Cells.Session.{lookup}
use Rattle.nd_model.specs.Arrays.Content.{Content, array_bytes}
use Rattle.nd_model.specs.Cells.Running.{Inputs, Key, Name, Input, Length, Byte, OfRule, Running, Lookup, Use, Make, after, is_name, is_length_of, is_own, Effect, Storing, done}
use Rattle.nd_model.specs.Cells.Fault.{Fault, ViewFault}
use Rattle.nd_model.specs.Cells.Evaluation.{Eval, run}
use Rattle.nd_model.specs.Making.Operand as operand
use Rattle.nd_model.specs.Making.Operand.{Operand, Usage, Made, ANumber, AnArray, Loaded, AFile, ABuffer, Chosen, AnElement, AView, ACopy, Stretched, Deed, NoDeed, PrintsText, SavesFile, BindsFirst, BindsMade, Unbinds, Writes, MakesAndWrites}
use Rattle.nd_model.specs.Indexing.Viewing.{choose}
use Rattle.nd_model.specs.Cells.Operation
use Rattle.nd_model.specs.Cells.Operation.{Operation, Computes, Views, perform, Plan, Named, FromInput, Does, Plans, Done, And, evaluate, with_values, evaluate_all, Work, Acts, ActsOn}
use Rattle.nd_model.specs.Cells.Meaning
use Rattle.nd_model.specs.Cells.Sound.{IsViewOf}
use Rattle.nd_model.specs.Cells.Noting.{WritesReadNoMore}
use Rattle.nd_model.proofs.Growing.{Grows, stays, grows_on}
use Rattle.nd_model.proofs.Soundness.{views_map, Safe, safe_bind, safe_decided, safe_limits, safe_operands, safe_input, IfFound, IfGiven, given_run}

-- the base is the cell's own, or its length was read
abbrev IsKnown : Running → Base → Type 0
IsKnown r b = (nat_eq b.label r.label || r.read (Length b)) ≡ true

abbrev K : Running → Value → Type 0
K r v = IsViewOf (λ b g. IsKnown r b) v

or_more : (a b c : Bool) → (a || b) ≡ true → (b ≡ true → c ≡ true) → (a || c) ≡ true
or_more true b c h f = refl
or_more false b c h f = f h

known_grows : (x y : Running) → Grows x y → (b : Base) → IsKnown x b → IsKnown y b
known_grows x y g b h =
    subst (λ l. (nat_eq b.label l || y.read (Length b)) ≡ true) (sym g.label) (or_more (nat_eq b.label x.label) (x.read (Length b)) (y.read (Length b)) h (g.read (Length b)))

value_grows : (x y : Running) → Grows x y → (v : Value) → K x v → K y v
value_grows x y grows v h = views_map (λ b g. IsKnown x b) (λ b g. IsKnown y b) (λ b g k. known_grows x y grows b k) v h

own : (r : Running) (n : ℕ) → IsKnown r (record { label = r.label; number = n })
own r n = or_left _ _ (eq-eqb r.label r.label refl)

-- ---- results

known_fresh : (i : Inputs) (r : Running) (t : ElementType) (shape : List ℕ) (f : List ℕ → Content) → Safe K i r (Operation.fresh_array t shape f)
known_fresh i r t shape f = safe_limits K i r (limit_fault (item_size t) shape) _ (λ fine. own (after (Make (array_bytes t shape f)) r) r.next)

known_number : (r : Running) (n : operand.Number) → K r (Operation.number_value n)
known_number r (operand.Int z) = tt
known_number r (operand.Truth t) = tt
known_number r (operand.Scalar k z) = tt

known_given : (i : Inputs) (r : Running) (m : Made) → Safe K i r (Operation.give m)
known_given i r (ANumber n) = known_number r n
known_given i r (AnArray t shape f) = known_fresh i r t shape f

known_over : (i : Inputs) (r : Running) (bytes : List ℕ) (o : Result Geo ViewFault) → Safe K i r (Operation.array_over bytes o)
known_over i r bytes (Ok g) = own (after (Make bytes) r) r.next
known_over i r bytes (Err f) = tt

known_loaded : (i : Inputs) (r : Running) (l : Loaded) → Safe K i r (Operation.give_loaded l)
known_loaded i r (AFile t shape f) = known_fresh i r t shape f
known_loaded i r (ABuffer t shape strides offset bytes) = known_over i r bytes _

known_array : (i : Inputs) (r : Running) (b : Base) (g : Geo) → IsKnown r b → Safe K i r (Operation.view_value Array b g)
known_array i r b g h = safe_limits K i r (limit_fault (item_size g.element) g.shape) _ (λ fine. h)

known_row : (i : Inputs) (r : Running) (b : Base) (g : Geo) → IsKnown r b → Safe K i r (Operation.view_value Row b g)
known_row i r b g h = safe_limits K i r (limit_fault (item_size g.element) g.shape) _ (λ fine. h)

known_element : (i : Inputs) (r : Running) (b : Base) (w : Bool) (t : ElementType) (p : ℕ) → IsKnown r b → Safe K i r (Operation.element_of b w t p)
known_element i r b w (One e) p h = tt
known_element i r b w (Structure fields size) p h = known_row i r b (record { element = Structure fields size; shape = []; writable = w; places = p ∷ [] }) h

known_stretched : (i : Inputs) (r : Running) (t : ElementType) (c : Content) (shape : List ℕ) → Safe K i r (Operation.stretch_content t c shape)
known_stretched i r t c shape = safe_limits K i r (limit_fault (item_size t) []) _ (λ fine.
    let q : Running = after (Make (array_bytes t [] (λ j. c))) r in
    known_array i q (record { label = r.label; number = r.next }) (broadcast_view (contiguous t []) shape) (own q r.next))

known_in : (i : Inputs) (r : Running) (b : Base) (g : Geo) (x : Chosen) → IsKnown r b → Safe K i r (Operation.choose_in b g x)
known_in i r b g (AnElement t p) h = known_element i r b g.writable t p h
known_in i r b g (AView v) h = known_array i r b v h
known_in i r b g (ACopy v) h = known_fresh i (after (Use b (byte_places v)) r) v.element v.shape _
known_in i r b g (Stretched t c shape) h = known_stretched i r t c shape

known_alone : (i : Inputs) (r : Running) (x : Chosen) → Safe K i r (Operation.choose_of_number x)
known_alone i r (Stretched t c shape) = known_stretched i r t c shape
known_alone i r x = tt

known_choice : (i : Inputs) (r : Running) (v : Value) (x : Chosen) → K r v → Safe K i r (Operation.choose_of v x)
known_choice i r (Int z) x h = known_alone i r x
known_choice i r (Truth t) x h = known_alone i r x
known_choice i r (Scalar k z) x h = known_alone i r x
known_choice i r (Array b g) x h = known_in i r b g x h
known_choice i r (Row b g) x h = known_in i r b g x h

-- ---- operations

abbrev AllK : Running → List (Usage × Value) → Type 0
AllK r [] = Unit {0}
AllK r (v ∷ vs) = K r v.1 × AllK r vs

all_grow : (x y : Running) → Grows x y → (vs : List (Usage × Value)) → AllK x vs → AllK y vs
all_grow x y g [] h = tt
all_grow x y g (v ∷ vs) h = (value_grows x y g v.1 h.0, all_grow x y g vs h.1)

known_with : {A : Type 0} (P : Running → A → Type 0) (i : Inputs) (r : Running) (vs : List (Usage × Value)) (n : ℕ) (k : Value → Eval A) → AllK r vs
    → ((v : Value) → K r v → Safe P i r (k v)) → Safe P i r (Operation.with_value vs n k)
known_with P i r [] n k h f = tt
known_with P i r (v ∷ vs) zero k h f = f v.1 h.0
known_with P i r (v ∷ vs) (suc n) k h f = known_with P i r vs n k h.1 f

known_performed : (i : Inputs) (r : Running) (op : Operation) (vs : List (Usage × Value)) → AllK r vs → Safe K i r (perform op vs)
known_performed i r (Computes f) vs h = safe_operands K i r vs _ (λ q os g is. safe_decided K i q (f os) _ (λ m e. known_given i q m))
known_performed i r (Views w) vs h =
    safe_operands K i r vs _ (λ q os g is. safe_decided K i q (choose w os) _ (λ x e. known_with K i q vs 0 _ (all_grow r q g vs h) (λ v kv. known_choice i q v x kv)))

-- ---- expressions

noted : (a was name is : Bool) → is ≡ true → (a || (was || (name || is) && not a)) ≡ true
noted true was name is e = refl
noted false true name is e = refl
noted false false true is e = refl
noted false false false is e = rw e refl

same_self : (b : Base) → same_base b b ≡ true
same_self b = and_from _ _ (eq-eqb b.label b.label refl) (eq-eqb b.number b.number refl)

-- the length of the base of a name's value is read with the name
looked_up : (r : Running) (n : List ℕ) (o : Option Value) → lookup n r.names ≡ o → IfFound (λ b g. IsKnown (after (Lookup n) r) b) o
looked_up r n None e = tt
looked_up r n (Some (Int z)) e = tt
looked_up r n (Some (Truth t)) e = tt
looked_up r n (Some (Scalar k z)) e = tt
looked_up r n (Some (Array b g)) e =
    noted (nat_eq b.label r.label) (r.read (Length b)) (is_name n (Length b)) (is_length_of (lookup n r.names) (Length b)) (ap (λ o. is_length_of o (Length b)) e ∙ same_self b)
looked_up r n (Some (Row b g)) e =
    noted (nat_eq b.label r.label) (r.read (Length b)) (is_name n (Length b)) (is_length_of (lookup n r.names) (Length b)) (ap (λ o. is_length_of o (Length b)) e ∙ same_self b)

known_bound : (i : Inputs) (r : Running) (n : List ℕ) (o : Option Value) → IfFound (λ b g. IsKnown r b) o → Safe K i r (Operation.bound_value n o)
known_bound i r n None h = tt
known_bound i r n (Some v) h = h

mutual
  known_plan : (p : Plan) (i : Inputs) (r : Running) → Safe K i r (evaluate p)
  known_plan (Named n) i r = known_bound i (after (Lookup n) r) n (lookup n r.names) (looked_up r n (lookup n r.names) refl)
  known_plan (FromInput n f) i r = safe_input K i r n f (known_loaded i)
  known_plan (Does op ps) i r = known_values ps (perform op) i r (λ q vs g h. known_performed i q op vs h)

  known_values : (ps : Plans) (k : List (Usage × Value) → Eval Value) (i : Inputs) (r : Running) → ((q : Running) (vs : List (Usage × Value)) → Grows r q → AllK q vs → Safe K i q (k vs))
      → Safe K i r (with_values ps k)
  known_values Done k i r h = h r [] (stays r) tt
  known_values (And u p ps) k i r h =
      safe_bind K K i r (evaluate p) _ (known_plan p i r)
      (λ q v g kv. known_values ps (λ vs. k ((u, v) ∷ vs)) i q (λ q' vs g' kvs. h q' ((u, v) ∷ vs) (grows_on r q q' g g') (value_grows q q' g' v kv, kvs)))

-- ---- statements

abbrev E : Running → Effect → Type 0
E r (Storing b ws) = IsKnown r b
E r _ = Unit {0}

known_stored : (i : Inputs) (r : Running) (ws : List (ℕ × ℕ)) (v : Value) → K r v → Safe E i r (Operation.store_in ws v)
known_stored i r ws (Int z) h = tt
known_stored i r ws (Truth t) h = tt
known_stored i r ws (Scalar k z) h = tt
known_stored i r ws (Array b g) h = h
known_stored i r ws (Row b g) h = h

known_deed : (i : Inputs) (r : Running) (vs : List (Usage × Value)) (d : Deed) → AllK r vs → Safe E i r (Operation.do_deed vs d)
known_deed i r vs NoDeed h = tt
known_deed i r vs (PrintsText text) h = tt
known_deed i r vs (SavesFile n file) h = tt
known_deed i r vs (BindsFirst n) h = known_with E i r vs 0 _ h (λ v kv. tt)
known_deed i r vs (BindsMade n m) h = safe_bind K E i r (Operation.give m) _ (known_given i r m) (λ q v g kv. tt)
known_deed i r vs (Unbinds n) h = tt
known_deed i r vs (Writes k ws) h = known_with E i r vs k _ h (known_stored i r ws)
known_deed i r vs (MakesAndWrites m k ws) h =
    safe_bind K E i r (Operation.give m) _ (known_given i r m) (λ q v g kv. known_with E i q vs k _ (all_grow r q g vs h) (known_stored i q ws))

known_all : (ps : Plans) (k : List (Usage × Value) → Eval Effect) (i : Inputs) (r : Running) → ((q : Running) (vs : List (Usage × Value)) → Grows r q → AllK q vs → Safe E i q (k vs))
    → Safe E i r (evaluate_all ps k)
known_all Done k i r h = h r [] (stays r) tt
known_all (And u p ps) k i r h =
    safe_bind K E i r (evaluate p) _ (known_plan p i r)
    (λ q v g kv. known_all ps (λ vs. k ((u, v) ∷ vs)) i q (λ q' vs g' kvs. h q' ((u, v) ∷ vs) (grows_on r q q' g g') (value_grows q q' g' v kv, kvs)))

known_acted : (i : Inputs) (r : Running) (f : List Operand → Result Deed Fault) (vs : List (Usage × Value)) → AllK r vs → Safe E i r (Operation.act_on f vs)
known_acted i r f vs h = safe_operands E i r vs _ (λ p os g is. safe_decided E i p (f os) _ (λ d e. known_deed i p vs d (all_grow r p g vs h)))

known_work : (w : Work) (i : Inputs) (r : Running) → Safe E i r (Operation.do_work w)
known_work (Acts f ps) i r = known_all ps _ i r (λ q vs g h. known_acted i q f vs h)
known_work (ActsOn f w ps p) i r =
    known_all ps _ i r (λ q vs g h. safe_bind K E i q (perform (Views w) vs) _ (known_performed i q (Views w) vs h) (λ q' x g' hx.
    safe_bind K E i q' (evaluate p) _ (known_plan p i q') (λ q'' y g'' hy.
    known_acted i q'' f ((operand.Whole, y) ∷ (operand.Whole, x) ∷ vs) (hy, (value_grows q' q'' g'' x hx, all_grow q q'' (grows_on q q' q'' g' g'') vs h)))))

-- ---- what is noted

nothing_more : (was b : Bool) → (was || false && b) ≡ was
nothing_more true b = refl
nothing_more false b = refl

known_already : (was is own : Bool) → (own || was) ≡ true → (was || is && not own) ≡ was
known_already true is own h = refl
known_already false true true h = refl
known_already false false own h = refl
known_already false true false h = sym h

both : (a b : Bool) → (a && b) ≡ true → (a ≡ true) × (b ≡ true)
both true b e = (refl, e)
both false b e = absurd (let f : false ≡ true = e in cc)

is_same : (b c : Base) → same_base b c ≡ true → b ≡ c
is_same b c e = ap₂ (λ l n. record { label = l; number = n }) (eqb-true b.label c.label (both _ _ e).0) (eqb-true b.number c.number (both _ _ e).1)

same_read : (r : Running) (b : Base) (ws : List (ℕ × ℕ)) → IsKnown r b → (k : Key) → (done (Storing b ws) r).read k ≡ r.read k
same_read r b ws h (Name n) = nothing_more (r.read (Name n)) (not (is_own r (Name n)))
same_read r b ws h (Input n) = nothing_more (r.read (Input n)) (not (is_own r (Input n)))
same_read r b ws h OfRule = nothing_more (r.read OfRule) (not (is_own r OfRule))
same_read r b ws h (Byte c p) = nothing_more (r.read (Byte c p)) (not (is_own r (Byte c p)))
same_read r b ws h (Length c) = elim (cases_Bool (same_base b c)) [
  | inl same ↦ known_already (r.read (Length c)) (same_base b c) (nat_eq c.label r.label) (subst (λ d. IsKnown r d) (is_same b c same) h)
  | inr other ↦ rw other (nothing_more (r.read (Length c)) (not (is_own r (Length c))))
]

given_known : (o : Result Effect Fault × Running) (b : Base) (ws : List (ℕ × ℕ)) → IfGiven E o → o.0 ≡ Ok (Storing b ws) → IsKnown o.1 b
given_known (o, r) b ws h e = subst (λ o. IfGiven E (o, r)) e h

pub writes_read_no_more : WritesReadNoMore
writes_read_no_more i s r b ws e =
    fun_ext (same_read (run i (Meaning.meaning s) r).1 b ws (given_known (run i (Meaning.meaning s) r) b ws (given_run E i r (Meaning.meaning s) (known_work (Meaning.work s) i r)) e))
