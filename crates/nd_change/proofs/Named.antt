-- A cell comes to the bases of other cells by names alone: what it uses lies in a base of its own, or in one whose length was read with
-- a name, and a length is read with a name that was bound to a value there.
use Rattle.std.proofs.Common.{◌≡◌, ℕ, zero, suc, Bool, true, false, cond, not, ◌&&◌, ◌||◌, leb, eqb-true, eq-eqb, List, [], ◌∷◌, ◌++◌, length, Option, Some, None, Result, Ok, Err, refl, sym, ap, ap₂, subst, ◌∙◌, inl, inr}
use Rattle.std.specs.Prelude.{nat_eq, bytes_eq, ◌⊎◌}
use Rattle.std.proofs.lemmas.Bool.{cases_Bool, or_left, or_cases, and_from}
use Rattle.nd_model.specs.Arrays.View.{ElementType, One, Structure, Geo, item_size, byte_places, contiguous}
use Rattle.nd_model.specs.Arrays.Broadcast.{broadcast_view}
use Rattle.nd_model.specs.Arrays.Value.{Base, same_base, Value, Int, Truth, Scalar, Array, Row, lies_in}
use Rattle.nd_model.specs.Arrays.Strides.{limit_fault, from_parts}
use Rattle.nd_model.specs.Cells.Session.{Names, lookup, bind, unbind, is_in, Session}
use Rattle.nd_model.specs.Arrays.Content.{Content, array_bytes}
use Rattle.nd_model.specs.Cells.Running.{Source, Event, Binds, Unbinds, Inputs, Rule, Python, Atomic, World, Key, Name, Length, Byte, Running, start, Act, Lookup, Ask, Use, Make, reply, after, is_name, is_length_of, is_byte, is_touched, is_own, Effect, Nothing, Prints, Saves, Binding, Unbinding, Storing, done, Output}
use Rattle.nd_model.specs.Cells.Fault.{Fault, Refusal, ViewFault, BadArgument}
use Rattle.nd_model.specs.Cells.Fault as fault
use Rattle.nd_model.specs.Cells.InputName.{is_input_name}
use Rattle.nd_model.specs.Grammar.Syntax.{Stmt, Line, Parsed}
use Rattle.nd_model.specs.Cells.Evaluation.{Eval, Gives, Refuses, Asks, run, ◌>>=◌, decide}
use Rattle.nd_model.specs.Making.Operand as operand
use Rattle.nd_model.specs.Making.Operand.{Operand, Usage, Made, ANumber, AnArray, Loaded, AFile, ABuffer, Chosen, AnElement, AView, ACopy, Stretched, Deed, NoDeed, PrintsText, SavesFile, BindsFirst, BindsMade, Writes, MakesAndWrites}
use Rattle.nd_model.specs.Indexing.Viewing.{choose}
use Rattle.nd_model.specs.Cells.Operation
use Rattle.nd_model.specs.Cells.Operation.{operands, Operation, Computes, Views, perform, Plan, Named, FromInput, Does, Plans, Done, And, evaluate, with_values, evaluate_all, Work, Acts, ActsOn}
use Rattle.nd_model.specs.Cells.Meaning
use Rattle.nd_model.specs.Cells.Cell.{Saved, Ended, had, statement, most_text, with_save, and_then, statements, ran, ruled, under, cell}
use Rattle.nd_model.specs.Cells.Footprint.{Bound, found, replayed}
use Rattle.nd_model.specs.Book.Records.{record_of}
use Rattle.nd_model.specs.Cells.Sound.{IsViewOf, AreViewsOf}
use Rattle.nd_model.proofs.Lists.{not_both}
use Rattle.nd_model.proofs.Frames.{either_end}
use Rattle.nd_model.proofs.Growing.{Grows, stays, grows_on, grows_after}
use Rattle.nd_model.proofs.Soundness.{views_map, IfFound, IfGiven, bind_views, unbind_views}
use Rattle.nd_model.proofs.Sessions.{untouched_lookup}
use Rattle.nd_change.specs.Change.{IsNamed, BindsNamed, ByName}
use Rattle.nd_change.proofs.Touched.{touched_lookup}

-- the base is the cell's own, or its length was read
abbrev IsKnown : Running → Base → Type 0
IsKnown r b = (nat_eq b.label r.label || r.read (Length b)) ≡ true

abbrev K : Running → Value → Type 0
K r v = IsViewOf (λ b g. IsKnown r b) v

or_more : (a b c : Bool) → (a || b) ≡ true → (b ≡ true → c ≡ true) → (a || c) ≡ true
or_more true b c h f = refl
or_more false b c h f = f h

known_grows : (x y : Running) → Grows x y → (b : Base) → IsKnown x b → IsKnown y b
known_grows x y g b h =
    subst (λ l. (nat_eq b.label l || y.read (Length b)) ≡ true) (sym g.label) (or_more (nat_eq b.label x.label) (x.read (Length b)) (y.read (Length b)) h (g.read (Length b)))

value_grows : (x y : Running) → Grows x y → (v : Value) → K x v → K y v
value_grows x y grows v h = views_map (λ b g. IsKnown x b) (λ b g. IsKnown y b) (λ b g k. known_grows x y grows b k) v h

own : (r : Running) (n : ℕ) → IsKnown r (record { label = r.label; number = n })
own r n = or_left _ _ (eq-eqb r.label r.label refl)

-- ---- evaluations that use known bases alone, and give what they should

abbrev UsesKnown : Running → Act → Type 0
UsesKnown r (Use b ps) = IsKnown r b
UsesKnown r (Lookup n) = Unit {0}
UsesKnown r (Ask n) = Unit {0}
UsesKnown r (Make bytes) = Unit {0}

abbrev Fine : {A : Type 0} → (Running → A → Type 0) → Inputs → Running → Eval A → Type 0
Fine P i r (Gives x) = P r x
Fine P i r (Refuses f) = Unit {0}
Fine P i r (Asks a go) = UsesKnown r a × Fine P i (after a r) (go (reply i a r))

fine_bind : {A B : Type 0} (P : Running → A → Type 0) (Q : Running → B → Type 0) (i : Inputs) (r : Running) (t : Eval A) (k : A → Eval B) → Fine P i r t
    → ((q : Running) (x : A) → Grows r q → P q x → Fine Q i q (k x)) → Fine Q i r (t >>= k)
fine_bind P Q i r (Gives x) k s h = h r x (stays r) s
fine_bind P Q i r (Refuses f) k s h = tt
fine_bind P Q i r (Asks a go) k s h = (s.0, fine_bind P Q i (after a r) (go (reply i a r)) k s.1 (λ q x g p. h q x (grows_on r (after a r) q (grows_after a r) g) p))

fine_decided : {A B : Type 0} (Q : Running → B → Type 0) (i : Inputs) (r : Running) (x : Result A Fault) (k : A → Eval B) → ((y : A) → Fine Q i r (k y)) → Fine Q i r (decide x >>= k)
fine_decided Q i r (Ok x) k h = h x
fine_decided Q i r (Err f) k h = tt

fine_limits : {A : Type 0} (Q : Running → A → Type 0) (i : Inputs) (r : Running) (f : Option ViewFault) (t : Eval A) → Fine Q i r t → Fine Q i r (Operation.unless_too_large f t)
fine_limits Q i r None t h = h
fine_limits Q i r (Some f) t h = tt

-- ---- results

known_fresh : (i : Inputs) (r : Running) (t : ElementType) (shape : List ℕ) (f : List ℕ → Content) → Fine K i r (Operation.fresh_array t shape f)
known_fresh i r t shape f = fine_limits K i r (limit_fault (item_size t) shape) _ (tt, own (after (Make (array_bytes t shape f)) r) r.next)

known_number : (r : Running) (n : operand.Number) → K r (Operation.number_value n)
known_number r (operand.Int z) = tt
known_number r (operand.Truth t) = tt
known_number r (operand.Scalar k z) = tt

known_given : (i : Inputs) (r : Running) (m : Made) → Fine K i r (Operation.give m)
known_given i r (ANumber n) = known_number r n
known_given i r (AnArray t shape f) = known_fresh i r t shape f

known_over : (i : Inputs) (r : Running) (bytes : List ℕ) (o : Result Geo ViewFault) → Fine K i r (Operation.array_over bytes o)
known_over i r bytes (Ok g) = (tt, own (after (Make bytes) r) r.next)
known_over i r bytes (Err f) = tt

known_loaded : (i : Inputs) (r : Running) (l : Loaded) → Fine K i r (Operation.give_loaded l)
known_loaded i r (AFile t shape f) = known_fresh i r t shape f
known_loaded i r (ABuffer t shape strides offset bytes) = known_over i r bytes (from_parts t shape strides offset (length bytes))

known_array : (i : Inputs) (r : Running) (b : Base) (g : Geo) → IsKnown r b → Fine K i r (Operation.view_value Array b g)
known_array i r b g h = fine_limits K i r (limit_fault (item_size g.element) g.shape) _ h

known_row : (i : Inputs) (r : Running) (b : Base) (g : Geo) → IsKnown r b → Fine K i r (Operation.view_value Row b g)
known_row i r b g h = fine_limits K i r (limit_fault (item_size g.element) g.shape) _ h

known_element : (i : Inputs) (r : Running) (b : Base) (w : Bool) (t : ElementType) (p : ℕ) → IsKnown r b → Fine K i r (Operation.element_of b w t p)
known_element i r b w (One e) p h = (h, tt)
known_element i r b w (Structure fields size) p h = known_row i r b (record { element = Structure fields size; shape = []; writable = w; places = p ∷ [] }) h

known_stretched : (i : Inputs) (r : Running) (t : ElementType) (c : Content) (shape : List ℕ) → Fine K i r (Operation.stretch_content t c shape)
known_stretched i r t c shape = fine_limits K i r (limit_fault (item_size t) []) _
    (let q : Running = after (Make (array_bytes t [] (λ j. c))) r in
    (tt, known_array i q (record { label = r.label; number = r.next }) (broadcast_view (contiguous t []) shape) (own q r.next)))

known_in : (i : Inputs) (r : Running) (b : Base) (g : Geo) (x : Chosen) → IsKnown r b → Fine K i r (Operation.choose_in b g x)
known_in i r b g (AnElement t p) h = known_element i r b g.writable t p h
known_in i r b g (AView v) h = known_array i r b v h
known_in i r b g (ACopy v) h = (h, known_fresh i (after (Use b (byte_places v)) r) v.element v.shape _)
known_in i r b g (Stretched t c shape) h = known_stretched i r t c shape

known_alone : (i : Inputs) (r : Running) (x : Chosen) → Fine K i r (Operation.choose_of_number x)
known_alone i r (Stretched t c shape) = known_stretched i r t c shape
known_alone i r x = tt

known_choice : (i : Inputs) (r : Running) (v : Value) (x : Chosen) → K r v → Fine K i r (Operation.choose_of v x)
known_choice i r (Int z) x h = known_alone i r x
known_choice i r (Truth t) x h = known_alone i r x
known_choice i r (Scalar k z) x h = known_alone i r x
known_choice i r (Array b g) x h = known_in i r b g x h
known_choice i r (Row b g) x h = known_in i r b g x h

-- ---- operations

abbrev AllK : Running → List (Usage × Value) → Type 0
AllK r [] = Unit {0}
AllK r (v ∷ vs) = K r v.1 × AllK r vs

all_grow : (x y : Running) → Grows x y → (vs : List (Usage × Value)) → AllK x vs → AllK y vs
all_grow x y g [] h = tt
all_grow x y g (v ∷ vs) h = (value_grows x y g v.1 h.0, all_grow x y g vs h.1)

abbrev Any : Running → Operand → Type 0
Any r o = Unit {0}

fine_elements : (i : Inputs) (r : Running) (used row : Bool) (b : Base) (g : Geo) → IsKnown r b → Fine Any i r (Operation.elements used row b g)
fine_elements i r true row b g h = (h, tt)
fine_elements i r false row b g h = tt

fine_used : (i : Inputs) (r : Running) (u : Usage) (v : Value) → K r v → Fine Any i r (Operation.use_operand u v)
fine_used i r u (Int z) h = tt
fine_used i r u (Truth t) h = tt
fine_used i r u (Scalar k z) h = tt
fine_used i r u (Array b g) h = fine_elements i r (operand.is_used u false) false b g h
fine_used i r u (Row b g) h = fine_elements i r (operand.is_used u true) true b g h

fine_operands : {A : Type 0} (Q : Running → A → Type 0) (i : Inputs) (r : Running) (vs : List (Usage × Value)) (go : List Operand → Eval A) → AllK r vs
    → ((q : Running) (os : List Operand) → Grows r q → Fine Q i q (go os)) → Fine Q i r (operands vs go)
fine_operands Q i r [] go ks h = h r [] (stays r)
fine_operands Q i r (v ∷ vs) go ks h =
    fine_bind Any Q i r (Operation.use_operand v.0 v.1) _ (fine_used i r v.0 v.1 ks.0)
    (λ q o g is. fine_operands Q i q vs (λ os. go (o ∷ os)) (all_grow r q g vs ks.1) (λ q' os g'. h q' (o ∷ os) (grows_on r q q' g g')))

known_with : {A : Type 0} (P : Running → A → Type 0) (i : Inputs) (r : Running) (vs : List (Usage × Value)) (n : ℕ) (k : Value → Eval A) → AllK r vs
    → ((v : Value) → K r v → Fine P i r (k v)) → Fine P i r (Operation.with_value vs n k)
known_with P i r [] n k h f = tt
known_with P i r (v ∷ vs) zero k h f = f v.1 h.0
known_with P i r (v ∷ vs) (suc n) k h f = known_with P i r vs n k h.1 f

known_performed : (i : Inputs) (r : Running) (op : Operation) (vs : List (Usage × Value)) → AllK r vs → Fine K i r (perform op vs)
known_performed i r (Computes f) vs h = fine_operands K i r vs _ h (λ q os g. fine_decided K i q (f os) _ (λ m. known_given i q m))
known_performed i r (Views w) vs h =
    fine_operands K i r vs _ h (λ q os g. fine_decided K i q (choose w os) _ (λ x. known_with K i q vs 0 _ (all_grow r q g vs h) (λ v kv. known_choice i q v x kv)))

-- ---- expressions

noted : (a was name is : Bool) → is ≡ true → (a || (was || (name || is) && not a)) ≡ true
noted true was name is e = refl
noted false true name is e = refl
noted false false true is e = refl
noted false false false is e = rw e refl

same_self : (b : Base) → same_base b b ≡ true
same_self b = and_from _ _ (eq-eqb b.label b.label refl) (eq-eqb b.number b.number refl)

-- the length of the base of a name's value is read with the name
looked_up : (r : Running) (n : List ℕ) (o : Option Value) → lookup n r.names ≡ o → IfFound (λ b g. IsKnown (after (Lookup n) r) b) o
looked_up r n None e = tt
looked_up r n (Some (Int z)) e = tt
looked_up r n (Some (Truth t)) e = tt
looked_up r n (Some (Scalar k z)) e = tt
looked_up r n (Some (Array b g)) e =
    noted (nat_eq b.label r.label) (r.read (Length b)) (is_name n (Length b)) (is_length_of (lookup n r.names) (Length b)) (ap (λ o. is_length_of o (Length b)) e ∙ same_self b)
looked_up r n (Some (Row b g)) e =
    noted (nat_eq b.label r.label) (r.read (Length b)) (is_name n (Length b)) (is_length_of (lookup n r.names) (Length b)) (ap (λ o. is_length_of o (Length b)) e ∙ same_self b)

known_bound : (i : Inputs) (r : Running) (n : List ℕ) (o : Option Value) → IfFound (λ b g. IsKnown r b) o → Fine K i r (Operation.bound_value n o)
known_bound i r n None h = tt
known_bound i r n (Some v) h = h

fine_input : (P : Running → Value → Type 0) (i : Inputs) (r : Running) (n : List ℕ) (f : Option Source → Result Loaded Fault) → ((q : Running) (l : Loaded) → Fine P i q (Operation.give_loaded l))
    → Fine P i r (Operation.input_value n f)
fine_input P i r n f h =
    elim (is_input_name n) as (λ t. Fine P i r (cond t (Asks (Ask n) (λ source. decide (f source) >>= Operation.give_loaded)) (Refuses (fault.Stmt BadArgument)))) [
      | true ↦ (tt, fine_decided P i (after (Ask n) r) (f (i n)) Operation.give_loaded (λ m. h (after (Ask n) r) m))
      | false ↦ tt
    ]

mutual
  known_plan : (p : Plan) (i : Inputs) (r : Running) → Fine K i r (evaluate p)
  known_plan (Named n) i r = (tt, known_bound i (after (Lookup n) r) n (lookup n r.names) (looked_up r n (lookup n r.names) refl))
  known_plan (FromInput n f) i r = fine_input K i r n f (known_loaded i)
  known_plan (Does op ps) i r = known_values ps (perform op) i r (λ q vs g h. known_performed i q op vs h)

  known_values : (ps : Plans) (k : List (Usage × Value) → Eval Value) (i : Inputs) (r : Running) → ((q : Running) (vs : List (Usage × Value)) → Grows r q → AllK q vs → Fine K i q (k vs))
      → Fine K i r (with_values ps k)
  known_values Done k i r h = h r [] (stays r) tt
  known_values (And u p ps) k i r h =
      fine_bind K K i r (evaluate p) _ (known_plan p i r)
      (λ q v g kv. known_values ps (λ vs. k ((u, v) ∷ vs)) i q (λ q' vs g' kvs. h q' ((u, v) ∷ vs) (grows_on r q q' g g') (value_grows q q' g' v kv, kvs)))

-- ---- statements

abbrev E : Running → Effect → Type 0
E r (Binding n v) = K r v
E r (Storing b ws) = IsKnown r b
E r _ = Unit {0}

known_stored : (i : Inputs) (r : Running) (ws : List (ℕ × ℕ)) (v : Value) → K r v → Fine E i r (Operation.store_in ws v)
known_stored i r ws (Int z) h = tt
known_stored i r ws (Truth t) h = tt
known_stored i r ws (Scalar k z) h = tt
known_stored i r ws (Array b g) h = h
known_stored i r ws (Row b g) h = h

known_deed : (i : Inputs) (r : Running) (vs : List (Usage × Value)) (d : Deed) → AllK r vs → Fine E i r (Operation.do_deed vs d)
known_deed i r vs NoDeed h = tt
known_deed i r vs (PrintsText text) h = tt
known_deed i r vs (SavesFile n file) h = tt
known_deed i r vs (BindsFirst n) h = known_with E i r vs 0 _ h (λ v kv. kv)
known_deed i r vs (BindsMade n m) h = fine_bind K E i r (Operation.give m) _ (known_given i r m) (λ q v g kv. kv)
known_deed i r vs (operand.Unbinds n) h = tt
known_deed i r vs (Writes k ws) h = known_with E i r vs k _ h (known_stored i r ws)
known_deed i r vs (MakesAndWrites m k ws) h =
    fine_bind K E i r (Operation.give m) _ (known_given i r m) (λ q v g kv. known_with E i q vs k _ (all_grow r q g vs h) (known_stored i q ws))

known_all : (ps : Plans) (k : List (Usage × Value) → Eval Effect) (i : Inputs) (r : Running) → ((q : Running) (vs : List (Usage × Value)) → Grows r q → AllK q vs → Fine E i q (k vs))
    → Fine E i r (evaluate_all ps k)
known_all Done k i r h = h r [] (stays r) tt
known_all (And u p ps) k i r h =
    fine_bind K E i r (evaluate p) _ (known_plan p i r)
    (λ q v g kv. known_all ps (λ vs. k ((u, v) ∷ vs)) i q (λ q' vs g' kvs. h q' ((u, v) ∷ vs) (grows_on r q q' g g') (value_grows q q' g' v kv, kvs)))

known_acted : (i : Inputs) (r : Running) (f : List Operand → Result Deed Fault) (vs : List (Usage × Value)) → AllK r vs → Fine E i r (Operation.act_on f vs)
known_acted i r f vs h = fine_operands E i r vs _ h (λ p os g. fine_decided E i p (f os) _ (λ d. known_deed i p vs d (all_grow r p g vs h)))

known_work : (w : Work) (i : Inputs) (r : Running) → Fine E i r (Operation.do_work w)
known_work (Acts f ps) i r = known_all ps _ i r (λ q vs g h. known_acted i q f vs h)
known_work (ActsOn f w ps p) i r =
    known_all ps _ i r (λ q vs g h. fine_bind K E i q (perform (Views w) vs) _ (known_performed i q (Views w) vs h) (λ q' x g' hx.
    fine_bind K E i q' (evaluate p) _ (known_plan p i q') (λ q'' y g'' hy.
    known_acted i q'' f ((operand.Whole, y) ∷ (operand.Whole, x) ∷ vs) (hy, (value_grows q' q'' g'' x hx, all_grow q q'' (grows_on q q' q'' g' g'') vs h)))))

-- ---- what is read, while a cell runs from a session

module _ (s : Session) where
  -- a name was read that was bound to a value in the base at first
  record Came (r : Running) (b : Base) : Type 0 where
    name : List ℕ
    value : Value
    read : r.read (Name name) ≡ true
    found : lookup name s.names ≡ Some value
    lies : lies_in b value ≡ true

  came_on : (x y : Running) → ((k : Key) → x.read k ≡ true → y.read k ≡ true) → (b : Base) → Came x b → Came y b
  came_on x y more b c = record { name = c.name; value = c.value; read = more (Name c.name) c.read; found = c.found; lies = c.lies }

  abbrev AreBound : Running → List Event → Type 0
  AreBound r [] = Unit {0}
  AreBound r (Binds n v ∷ es) = K r v × AreBound r es
  AreBound r (Unbinds n ∷ es) = AreBound r es

  bound_grow : (x y : Running) → ((b : Base) → IsKnown x b → IsKnown y b) → (es : List Event) → AreBound x es → AreBound y es
  bound_grow x y f [] h = tt
  bound_grow x y f (Binds n v ∷ es) h = (views_map (λ b g. IsKnown x b) (λ b g. IsKnown y b) (λ b g. f b) v h.0, bound_grow x y f es h.1)
  bound_grow x y f (Unbinds n ∷ es) h = bound_grow x y f es h

  bound_more : (r : Running) (es : List Event) (e : Event) → AreBound r es → AreBound r (e ∷ []) → AreBound r (es ++ e ∷ [])
  bound_more r [] e h more = more
  bound_more r (Binds n v ∷ es) e h more = (h.0, bound_more r es e h.1 more)
  bound_more r (Unbinds n ∷ es) e h more = bound_more r es e h more

  views_replayed : (P : Base → Geo → Type 0) (r : Running) (es : List Event) (names : Names) → ((b : Base) (g : Geo) → IsKnown r b → P b g) → AreBound r es → AreViewsOf P names → AreViewsOf P (replayed es names)
  views_replayed P r [] names f h views = views
  views_replayed P r (Binds n v ∷ es) names f h views = views_replayed P r es (bind n v names) f h.1 (bind_views P n v names (views_map (λ b g. IsKnown r b) P f v h.0) views)
  views_replayed P r (Unbinds n ∷ es) names f h views = views_replayed P r es (unbind n names) f h (unbind_views P n names views)

  found_view : (P : Base → Geo → Type 0) (n : List ℕ) (es : Names) → AreViewsOf P es → IfFound P (lookup n es)
  found_view P n [] h = tt
  found_view P n (e ∷ es) h = elim (bytes_eq n e.0) as (λ t. IfFound P (cond t (Some e.1) (lookup n es))) [ true ↦ h.0 | false ↦ found_view P n es h.1 ]

  record J (r : Running) : Type 0 where
    names : r.names ≡ replayed r.events s.names
    bound : AreBound r r.events
    lengths : (b : Base) → r.read (Length b) ≡ true → Came r b
    bytes : (b : Base) (p : ℕ) → r.read (Byte b p) ≡ true → Came r b

  -- a base of another cell that is known was come to
  came_known : (r : Running) (b : Base) → J r → nat_eq b.label r.label ≡ false → IsKnown r b → Came r b
  came_known r b j other known = j.lengths b (right (nat_eq b.label r.label) (r.read (Length b)) known other)
    where
      right : (a b : Bool) → (a || b) ≡ true → a ≡ false → b ≡ true
      right true b h f = absurd (not_both true f refl)
      right false b h f = h

  parts : (a b : Bool) → (a && not b) ≡ true → (a ≡ true) × (b ≡ false)
  parts true true h = absurd (cc)
  parts true false h = (refl, refl)
  parts false b h = absurd (cc)

  first : (a b : Bool) → (a || b) ≡ false → a ≡ false
  first true b h = h
  first false b h = refl

  both : (a b : Bool) → (a && b) ≡ true → (a ≡ true) × (b ≡ true)
  both true b e = (refl, e)
  both false b e = absurd (let f : false ≡ true = e in cc)

  is_same : (b c : Base) → same_base b c ≡ true → b ≡ c
  is_same b c e = ap₂ (λ l n. record { label = l; number = n }) (eqb-true b.label c.label (both _ _ e).0) (eqb-true b.number c.number (both _ _ e).1)

  same_sym : (b c : Base) → same_base b c ≡ true → same_base c b ≡ true
  same_sym b c e = subst (λ d. same_base d b ≡ true) (is_same b c e) (same_self b)

  -- the value whose length is read lies in the base, and the base is known where the value is
  length_lies : (o : Option Value) (b : Base) → is_length_of o (Length b) ≡ true → (v : Value) × (o ≡ Some v) × (lies_in b v ≡ true)
  length_lies None b h = absurd (cc)
  length_lies (Some (Int z)) b h = absurd (cc)
  length_lies (Some (Truth t)) b h = absurd (cc)
  length_lies (Some (Scalar k z)) b h = absurd (cc)
  length_lies (Some (Array c g)) b h = (Array c g, refl, same_sym c b h)
  length_lies (Some (Row c g)) b h = (Row c g, refl, same_sym c b h)

  view_known : (P : Base → Type 0) (v : Value) (b : Base) → lies_in b v ≡ true → IsViewOf (λ c g. P c) v → P b
  view_known P (Int z) b l h = absurd (cc)
  view_known P (Truth t) b l h = absurd (cc)
  view_known P (Scalar k z) b l h = absurd (cc)
  view_known P (Array c g) b l h = subst P (sym (is_same b c l)) h
  view_known P (Row c g) b l h = subst P (sym (is_same b c l)) h

  given_view : (P : Base → Geo → Type 0) (o : Option Value) (v : Value) → o ≡ Some v → IfFound P o → IsViewOf P v
  given_view P o v e h = subst (λ o. IfFound P o) e h

  -- by a name that is looked up the cell comes to the base of its value
  looked : (r : Running) (n : List ℕ) (b : Base) → J r → is_length_of (lookup n r.names) (Length b) ≡ true → nat_eq b.label r.label ≡ false → Came (after (Lookup n) r) b
  looked r n b j is other =
      let v : (v : Value) × (lookup n r.names ≡ Some v) × (lies_in b v ≡ true) = length_lies (lookup n r.names) b is in
      elim (cases_Bool (is_touched n r.events)) [
        | inl touched ↦
            let again : lookup n (replayed r.events []) ≡ Some v.0 = sym (touched_lookup n r.events s.names [] touched) ∙ ap (lookup n) (sym j.names) ∙ v.1 in
            let known : IsKnown r b = view_known (IsKnown r) v.0 b v.2 (given_view (λ c g. IsKnown r c) _ v.0 again (found_view (λ c g. IsKnown r c) n (replayed r.events []) (views_replayed (λ c g. IsKnown r c) r r.events [] (λ c g k. k) j.bound tt))) in
            came_on r (after (Lookup n) r) (grows_after (Lookup n) r).read b (came_known r b j other known)
        | inr untouched ↦ record {
          name = n;
          value = v.0;
          read = now (r.read (Name n)) (bytes_eq n n) (is_length_of (lookup n r.names) (Name n)) (is_touched n r.events) (Rattle.nd_model.proofs.Lists.bytes_eq_self n) untouched;
          found = sym (untouched_lookup n r.events s.names untouched) ∙ ap (lookup n) (sym j.names) ∙ v.1;
          lies = v.2;
        }
      ]
    where
      now : (was name is own : Bool) → name ≡ true → own ≡ false → (was || (name || is) && not own) ≡ true
      now true name is own e f = refl
      now false name is own e f = rw (e, f) refl

  keeps : (x y : Running) → ((k : Key) → x.read k ≡ true → y.read k ≡ true) → y.label ≡ x.label → y.names ≡ x.names → y.events ≡ x.events
      → ((b : Base) → y.read (Length b) ≡ true → Came y b) → ((b : Base) (p : ℕ) → y.read (Byte b p) ≡ true → Came y b) → J x → J y
  keeps x y more label names events lengths bytes j = record {
    names = names ∙ j.names ∙ ap (λ es. replayed es s.names) (sym events);
    bound = subst (AreBound y) (sym events) (bound_grow x y known x.events j.bound);
    lengths = lengths;
    bytes = bytes;
  }
    where
      known : (b : Base) → IsKnown x b → IsKnown y b
      known b h = subst (λ l. (nat_eq b.label l || y.read (Length b)) ≡ true) (sym label) (or_more (nat_eq b.label x.label) (x.read (Length b)) (y.read (Length b)) h (more (Length b)))

  nothing_more : (was b : Bool) → (was || false && b) ≡ true → was ≡ true
  nothing_more true b h = refl
  nothing_more false b h = h

  j_after : (a : Act) (r : Running) → UsesKnown r a → J r → J (after a r)
  j_after (Lookup n) r fine j = keeps r (after (Lookup n) r) (grows_after (Lookup n) r).read refl refl refl
      (λ b h. elim (or_cases (r.read (Length b)) (is_length_of (lookup n r.names) (Length b) && not (nat_eq b.label r.label)) h) [
        | inl was ↦ came_on r (after (Lookup n) r) (grows_after (Lookup n) r).read b (j.lengths b was)
        | inr is ↦ let ps : (is_length_of (lookup n r.names) (Length b) ≡ true) × (nat_eq b.label r.label ≡ false) = parts _ _ is in looked r n b j ps.0 ps.1
      ])
      (λ b p h. came_on r (after (Lookup n) r) (grows_after (Lookup n) r).read b (j.bytes b p (nothing_more (r.read (Byte b p)) (not (is_own r (Byte b p))) (byte (lookup n r.names) b p (r.read (Byte b p)) (not (is_own r (Byte b p))) h)))) j
    where
      byte : (o : Option Value) (b : Base) (p : ℕ) (was own : Bool) → (was || is_length_of o (Byte b p) && own) ≡ true → (was || false && own) ≡ true
      byte None b p was own h = h
      byte (Some (Int z)) b p was own h = h
      byte (Some (Truth t)) b p was own h = h
      byte (Some (Scalar k z)) b p was own h = h
      byte (Some (Array c g)) b p was own h = h
      byte (Some (Row c g)) b p was own h = h
  j_after (Ask n) r fine j = keeps r (after (Ask n) r) (grows_after (Ask n) r).read refl refl refl
      (λ b h. came_on r (after (Ask n) r) (grows_after (Ask n) r).read b (j.lengths b (nothing_more (r.read (Length b)) (not (is_own r (Length b))) h)))
      (λ b p h. came_on r (after (Ask n) r) (grows_after (Ask n) r).read b (j.bytes b p (nothing_more (r.read (Byte b p)) (not (is_own r (Byte b p))) h))) j
  j_after (Use b ps) r fine j = keeps r (after (Use b ps) r) (grows_after (Use b ps) r).read refl refl refl
      (λ c h. came_on r (after (Use b ps) r) (grows_after (Use b ps) r).read c (j.lengths c (nothing_more (r.read (Length c)) (not (is_own r (Length c))) h)))
      (λ c p h. elim (or_cases (r.read (Byte c p)) (is_byte b ps (Byte c p) && not (nat_eq c.label r.label || r.written c p)) h) [
        | inl was ↦ came_on r (after (Use b ps) r) (grows_after (Use b ps) r).read c (j.bytes c p was)
        | inr is ↦
            let qs : ((same_base b c && is_in p ps) ≡ true) × ((nat_eq c.label r.label || r.written c p) ≡ false) = parts _ _ is in
            let same : b ≡ c = is_same b c (both _ _ qs.0).0 in
            came_on r (after (Use b ps) r) (grows_after (Use b ps) r).read c (came_known r c j (first _ _ qs.1) (subst (IsKnown r) same fine))
      ]) j
  j_after (Make bytes) r fine j = keeps r (after (Make bytes) r) (grows_after (Make bytes) r).read refl refl refl
      (λ b h. came_on r (after (Make bytes) r) (grows_after (Make bytes) r).read b (j.lengths b (nothing_more (r.read (Length b)) (not (is_own r (Length b))) h)))
      (λ b p h. came_on r (after (Make bytes) r) (grows_after (Make bytes) r).read b (j.bytes b p (nothing_more (r.read (Byte b p)) (not (is_own r (Byte b p))) h))) j

  j_run : {A : Type 0} (P : Running → A → Type 0) (i : Inputs) (r : Running) (t : Eval A) → Fine P i r t → J r → J (run i t r).1 × IfGiven P (run i t r)
  j_run P i r (Gives x) fine j = (j, fine)
  j_run P i r (Refuses f) fine j = (j, tt)
  j_run P i r (Asks a go) fine j = j_run P i (after a r) (go (reply i a r)) fine.1 (j_after a r fine.0 j)

  replayed-more : (es : List Event) (e : Event) (names : Names) → replayed (es ++ e ∷ []) names ≡ replayed (e ∷ []) (replayed es names)
  replayed-more [] e names = refl
  replayed-more (Binds n v ∷ es) e names = replayed-more es e (bind n v names)
  replayed-more (Unbinds n ∷ es) e names = replayed-more es e (unbind n names)

  j_done : (e : Effect) (r : Running) → E r e → J r → J (done e r)
  j_done Nothing r h j = j
  j_done (Prints text) r h j = j
  j_done (Saves name file) r h j = j
  j_done (Binding n v) r h j = record {
    names = ap (bind n v) j.names ∙ sym (replayed-more r.events (Binds n v) s.names);
    bound = bound_grow r (done (Binding n v) r) (λ b k. k) (r.events ++ Binds n v ∷ []) (bound_more r r.events (Binds n v) j.bound (h, tt));
    lengths = λ b is. came_on r (done (Binding n v) r) (λ k k'. k') b (j.lengths b is);
    bytes = λ b p is. came_on r (done (Binding n v) r) (λ k k'. k') b (j.bytes b p is);
  }
  j_done (Unbinding n) r h j = record {
    names = ap (unbind n) j.names ∙ sym (replayed-more r.events (Unbinds n) s.names);
    bound = bound_grow r (done (Unbinding n) r) (λ b k. k) (r.events ++ Unbinds n ∷ []) (bound_more r r.events (Unbinds n) j.bound tt);
    lengths = λ b is. came_on r (done (Unbinding n) r) (λ k k'. k') b (j.lengths b is);
    bytes = λ b p is. came_on r (done (Unbinding n) r) (λ k k'. k') b (j.bytes b p is);
  }
  j_done (Storing b ws) r h j =
      let y : Running = done (Storing b ws) r in
      let more : (k : Key) → r.read k ≡ true → y.read k ≡ true = λ k was. or_left _ _ was in
      keeps r y more refl refl refl
      (λ c is. elim (or_cases (r.read (Length c)) (same_base b c && not (nat_eq c.label r.label)) is) [
        | inl was ↦ came_on r y more c (j.lengths c was)
        | inr now ↦ let ps : (same_base b c ≡ true) × (nat_eq c.label r.label ≡ false) = parts _ _ now in
            came_on r y more c (came_known r c j ps.1 (subst (IsKnown r) (is_same b c ps.0) h))
      ])
      (λ c p is. came_on r y more c (j.bytes c p (nothing_more (r.read (Byte c p)) (not (is_own r (Byte c p))) is))) j

  j_had : (o : Result Effect Fault) (r : Running) → J r → IfGiven E (o, r) → J (had (o, r)).1
  j_had (Ok e) r j h = j_done e r h j
  j_had (Err f) r j h = j

  j_statement : (i : Inputs) (x : Stmt) (r : Running) → J r → J (statement i x r).1
  j_statement i x r j = let both : J (run i (Meaning.meaning x) r).1 × IfGiven E (run i (Meaning.meaning x) r) = j_run E i r (Meaning.meaning x) (known_work (Meaning.work x) i r) j in
      j_had (run i (Meaning.meaning x) r).0 (run i (Meaning.meaning x) r).1 both.0 both.1

  j_rest : (line : ℕ) (text : List ℕ) (saves : Saved) (o : Result Output Fault × Running) (rest : List ℕ → Saved → Running → Ended) → J o.1
      → ((text : List ℕ) (saves : Saved) (r : Running) → J r → J (rest text saves r).running) → J (and_then line text saves o rest).running
  j_rest line text saves (Ok o, r) rest h more = either_end (leb (length (text ++ o.text)) most_text) _ _ (λ e. J e.running) (more (text ++ o.text) (with_save o.save saves) r h) h
  j_rest line text saves (Err f, r) rest h more = h

  j_all : (i : Inputs) (ls : List Line) (text : List ℕ) (saves : Saved) (r : Running) → J r → J (statements i ls text saves r).running
  j_all i [] text saves r h = h
  j_all i (l ∷ ls) text saves r h = j_rest l.line text saves (statement i l.stmt r) (statements i ls) (j_statement i l.stmt r h) (j_all i ls)

  j_ran : (i : Inputs) (p : Parsed) (r : Running) → J r → J (ran i p r).running
  j_ran i (Ok ls) r h = j_all i ls [] [] r h
  j_ran i (Err f) r h = h

  j_start : (label : ℕ) → J (start label s)
  j_start label = record { names = refl; bound = tt; lengths = λ b is. absurd (let f : false ≡ true = is in cc); bytes = λ b p is. absurd (let f : false ≡ true = is in cc) }

  no_more : (a : Bool) → (a || false) ≡ true → a ≡ true
  no_more true h = refl
  no_more false h = h

  known_still : (a b : Bool) → (a || b) ≡ true → (a || (b || false)) ≡ true
  known_still true b h = refl
  known_still false b h = or_left _ _ h

  j_under : (label : ℕ) (rule : Rule) (o : Option (ℕ × Refusal)) (e : Ended) → J e.running → J (under rule (start label s) o e).running
  j_under label rule None e j = j
  j_under label Python (Some f) e j = record {
    names = j.names;
    bound = bound_grow e.running (ruled e.running) (λ b h. known_still (nat_eq b.label e.running.label) (e.running.read (Length b)) h) e.running.events j.bound;
    lengths = λ b read. came_on e.running (ruled e.running) (λ k h. or_left _ _ h) b (j.lengths b (no_more _ read));
    bytes = λ b p read. came_on e.running (ruled e.running) (λ k h. or_left _ _ h) b (j.bytes b p (no_more _ read));
  }
  j_under label Atomic (Some f) e j =
      let end : Running = record (start label s) { read = (ruled e.running).read } in
      record {
        names = refl;
        bound = tt;
        lengths = λ b read. came_on e.running end (λ k h. or_left _ _ h) b (j.lengths b (no_more _ read));
        bytes = λ b p read. came_on e.running end (λ k h. or_left _ _ h) b (j.bytes b p (no_more _ read));
      }

  same_label : (i : World) (p : Parsed) (label : ℕ) → (cell label p i s).running.label ≡ label
  same_label i p label = (Rattle.nd_model.proofs.Tracks.tracks_cell label p s i).labelled

  named : (label : ℕ) (p : Parsed) (i : World) (b : Base) → Came (cell label p i s).running b → IsNamed (record_of label p i s) b
  named label p i b c = record {
    name = c.name;
    value = c.value;
    read = c.read;
    found = ap (λ (t : Bool). cond t (Some (found s i (Name c.name))) None) c.read ∙ ap (λ o. Some (Bound o)) c.found;
    lies = c.lies;
  }

  binds_named : (label : ℕ) (p : Parsed) (i : World) (es : List Event) → J (cell label p i s).running → AreBound (cell label p i s).running es → BindsNamed (record_of label p i s) es
  binds_named label p i [] j h = tt
  binds_named label p i (Binds n v ∷ es) j h = (one, binds_named label p i es j h.1)
    where
      r : Running
      r = (cell label p i s).running

      one : (b : Base) → lies_in b v ≡ true → (b.label ≡ label) ⊎ IsNamed (record_of label p i s) b
      one b lies = elim (cases_Bool (nat_eq b.label r.label)) [
        | inl mine ↦ inl (eqb-true b.label r.label mine ∙ same_label i p label)
        | inr other ↦ inr (named label p i b (came_known r b j other (view_known (IsKnown r) v b lies h.0)))
      ]
  binds_named label p i (Unbinds n ∷ es) j h = binds_named label p i es j h

pub by_name : ByName
by_name label p s i =
    let e : Ended = ran i.inputs p (start label s) in
    let j : J s (cell label p i s).running = j_under s label i.rule e.refusal e (j_ran s i.inputs p (start label s) (j_start s label)) in
    record {
      lengths = λ b read. named s label p i b (j.lengths b read);
      bytes = λ b at read. named s label p i b (j.bytes b at read);
      events = binds_named s label p i (cell label p i s).running.events j (j.bound);
    }
