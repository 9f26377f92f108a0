-- A statement comes to what names hold and to what it made itself: so it goes the same way over other bytes elsewhere.
use Rattle.std.proofs.Common.{◌≡◌, ℕ, zero, suc, Bool, true, false, cond, not, ◌&&◌, ◌||◌, eq-eqb, eqb-true, List, [], ◌∷◌, Option, Some, None, Result, Ok, Err, length, map, get_or, refl, sym, ap, ap₂, subst, ◌∙◌, inl, inr}
use Rattle.std.specs.Prelude.{nat_eq, bytes_eq, ◌⊎◌}
use Rattle.std.proofs.lemmas.Bool.{cases_Bool, or_left, or_right, or_cases, and_from}
use Rattle.nd_model.specs.Arrays.View.{ElementType, One, Structure, Geo, item_size, byte_places, contiguous}
use Rattle.nd_model.specs.Arrays.Broadcast.{broadcast_view}
use Rattle.nd_model.specs.Arrays.Value.{Base, same_base, Value, Int, Truth, Scalar, Array, Row, lies_in}
use Rattle.nd_model.specs.Arrays.Strides.{limit_fault, from_parts}
use Rattle.nd_model.specs.Cells.Session.{Names, lookup, bind, unbind, is_held, put}
use Rattle.nd_model.specs.Arrays.Content.{Content, array_bytes}
use Rattle.nd_model.specs.Cells.Running.{Source, Inputs, Running, Act, Lookup, Ask, Use, Make, reply, with_base, after, Effect, Nothing, Prints, Saves, Binding, Unbinding, Storing, done, Output}
use Rattle.nd_model.specs.Cells.Fault.{Fault, ViewFault, BadArgument}
use Rattle.nd_model.specs.Cells.Fault as fault
use Rattle.nd_model.specs.Cells.InputName.{is_input_name}
use Rattle.nd_model.specs.Grammar.Syntax.{Stmt}
use Rattle.nd_model.specs.Cells.Evaluation.{Eval, Gives, Refuses, Asks, run, ◌>>=◌, decide}
use Rattle.nd_model.specs.Making.Operand as operand
use Rattle.nd_model.specs.Making.Operand.{Operand, Usage, Made, ANumber, AnArray, Loaded, AFile, ABuffer, Chosen, AnElement, AView, ACopy, Stretched, Deed, NoDeed, PrintsText, SavesFile, BindsFirst, BindsMade, Writes, MakesAndWrites}
use Rattle.nd_model.specs.Indexing.Viewing.{choose}
use Rattle.nd_model.specs.Cells.Operation
use Rattle.nd_model.specs.Cells.Operation.{operands, Operation, Computes, Views, perform, Plan, Named, FromInput, Does, Plans, Done, And, evaluate, with_values, evaluate_all, Work, Acts, ActsOn}
use Rattle.nd_model.specs.Cells.Meaning
use Rattle.nd_model.specs.Cells.Cell.{had, statement}
use Rattle.nd_model.specs.Cells.Sound.{IsViewOf}
use Rattle.nd_model.proofs.Lists.{not_both}
use Rattle.nd_model.proofs.Soundness.{views_map, IfFound}
use Rattle.nd_reach.specs.Reach.{is_lost}

-- a running session, and other bytes for its bases
record Both : Type 0 where
  now : Running
  other : Base → List ℕ

-- the session with the other bytes
abbrev over : Both → Running
over r = record r.now { bytes = r.other }

-- the base has the same bytes in both
abbrev IsKnown : Both → Base → Type 0
IsKnown r b = r.other b ≡ r.now.bytes b

abbrev K : Both → Value → Type 0
K r v = IsViewOf (λ b g. IsKnown r b) v

-- each base that some bound value lies in is known
abbrev Holds : Both → Type 0
Holds r = (b : Base) → is_held b r.now.names ≡ true → IsKnown r b

abbrev other_after : Act → Both → Base → List ℕ
other_after (Lookup n) r = r.other
other_after (Ask n) r = r.other
other_after (Use b ps) r = r.other
other_after (Make bytes) r = with_base (record { label = r.now.label; number = r.now.next }) bytes r.other

abbrev both_after : Act → Both → Both
both_after a r = record { now = after a r.now; other = other_after a r }

-- ---- what stays as it was

record Keeps (x y : Both) : Type 0 where
  label : y.now.label ≡ x.now.label
  names : y.now.names ≡ x.now.names
  known : (b : Base) → IsKnown x b → IsKnown y b

stays : (x : Both) → Keeps x x
stays x = record { label = refl; names = refl; known = λ b h. h }

keeps_on : (x y z : Both) → Keeps x y → Keeps y z → Keeps x z
keeps_on x y z g h = record { label = h.label ∙ g.label; names = h.names ∙ g.names; known = λ b k. h.known b (g.known b k) }

keeps_after : (a : Act) (r : Both) → Keeps r (both_after a r)
keeps_after (Lookup n) r = record { label = refl; names = refl; known = λ b h. h }
keeps_after (Ask n) r = record { label = refl; names = refl; known = λ b h. h }
keeps_after (Use b ps) r = record { label = refl; names = refl; known = λ b h. h }
keeps_after (Make bytes) r = record {
  label = refl;
  names = refl;
  known = λ b h. ap (cond (same_base (record { label = r.now.label; number = r.now.next }) b) bytes) h;
}

value_keeps : (x y : Both) → Keeps x y → (v : Value) → K x v → K y v
value_keeps x y k v h = views_map (λ b g. IsKnown x b) (λ b g. IsKnown y b) (λ b g. k.known b) v h

holds_keeps : (x y : Both) → Keeps x y → Holds x → Holds y
holds_keeps x y k h b held = k.known b (h b (ap (is_held b) (sym k.names) ∙ held))

same_self : (b : Base) → same_base b b ≡ true
same_self b = and_from _ _ (eq-eqb b.label b.label refl) (eq-eqb b.number b.number refl)

-- a new base has the bytes that it is made with
new_known : (bytes : List ℕ) (r : Both) → IsKnown (both_after (Make bytes) r) (record { label = r.now.label; number = r.now.next })
new_known bytes r = let own : same_base (record { label = r.now.label; number = r.now.next }) (record { label = r.now.label; number = r.now.next }) ≡ true = same_self (record { label = r.now.label; number = r.now.next }) in rw own refl

-- ---- evaluations that use known bases alone, and give what they should

abbrev UsesKnown : Both → Act → Type 0
UsesKnown r (Use b ps) = IsKnown r b
UsesKnown r (Lookup n) = Unit {0}
UsesKnown r (Ask n) = Unit {0}
UsesKnown r (Make bytes) = Unit {0}

abbrev Fine : {A : Type 0} → (Both → A → Type 0) → Inputs → Both → Eval A → Type 0
Fine P i r (Gives x) = P r x
Fine P i r (Refuses f) = Unit {0}
Fine P i r (Asks a go) = UsesKnown r a × Fine P i (both_after a r) (go (reply i a r.now))

fine_bind : {A B : Type 0} (P : Both → A → Type 0) (Q : Both → B → Type 0) (i : Inputs) (r : Both) (t : Eval A) (k : A → Eval B) → Fine P i r t
    → ((q : Both) (x : A) → Keeps r q → P q x → Fine Q i q (k x)) → Fine Q i r (t >>= k)
fine_bind P Q i r (Gives x) k s h = h r x (stays r) s
fine_bind P Q i r (Refuses f) k s h = tt
fine_bind P Q i r (Asks a go) k s h = (s.0, fine_bind P Q i (both_after a r) (go (reply i a r.now)) k s.1 (λ q x g p. h q x (keeps_on r (both_after a r) q (keeps_after a r) g) p))

fine_decided : {A B : Type 0} (Q : Both → B → Type 0) (i : Inputs) (r : Both) (x : Result A Fault) (k : A → Eval B) → ((y : A) → Fine Q i r (k y)) → Fine Q i r (decide x >>= k)
fine_decided Q i r (Ok x) k h = h x
fine_decided Q i r (Err f) k h = tt

fine_limits : {A : Type 0} (Q : Both → A → Type 0) (i : Inputs) (r : Both) (f : Option ViewFault) (t : Eval A) → Fine Q i r t → Fine Q i r (Operation.unless_too_large f t)
fine_limits Q i r None t h = h
fine_limits Q i r (Some f) t h = tt

-- ---- results

known_fresh : (i : Inputs) (r : Both) (t : ElementType) (shape : List ℕ) (f : List ℕ → Content) → Fine K i r (Operation.fresh_array t shape f)
known_fresh i r t shape f = fine_limits K i r (limit_fault (item_size t) shape) _ (tt, new_known (array_bytes t shape f) r)

known_number : (r : Both) (n : operand.Number) → K r (Operation.number_value n)
known_number r (operand.Int z) = tt
known_number r (operand.Truth t) = tt
known_number r (operand.Scalar k z) = tt

known_given : (i : Inputs) (r : Both) (m : Made) → Fine K i r (Operation.give m)
known_given i r (ANumber n) = known_number r n
known_given i r (AnArray t shape f) = known_fresh i r t shape f

known_over : (i : Inputs) (r : Both) (bytes : List ℕ) (o : Result Geo ViewFault) → Fine K i r (Operation.array_over bytes o)
known_over i r bytes (Ok g) = (tt, new_known bytes r)
known_over i r bytes (Err f) = tt

known_loaded : (i : Inputs) (r : Both) (l : Loaded) → Fine K i r (Operation.give_loaded l)
known_loaded i r (AFile t shape f) = known_fresh i r t shape f
known_loaded i r (ABuffer t shape strides offset bytes) = known_over i r bytes (from_parts t shape strides offset (length bytes))

known_array : (i : Inputs) (r : Both) (b : Base) (g : Geo) → IsKnown r b → Fine K i r (Operation.view_value Array b g)
known_array i r b g h = fine_limits K i r (limit_fault (item_size g.element) g.shape) _ h

known_row : (i : Inputs) (r : Both) (b : Base) (g : Geo) → IsKnown r b → Fine K i r (Operation.view_value Row b g)
known_row i r b g h = fine_limits K i r (limit_fault (item_size g.element) g.shape) _ h

known_element : (i : Inputs) (r : Both) (b : Base) (w : Bool) (t : ElementType) (p : ℕ) → IsKnown r b → Fine K i r (Operation.element_of b w t p)
known_element i r b w (One e) p h = (h, tt)
known_element i r b w (Structure fields size) p h = known_row i r b (record { element = Structure fields size; shape = []; writable = w; places = p ∷ [] }) h

known_stretched : (i : Inputs) (r : Both) (t : ElementType) (c : Content) (shape : List ℕ) → Fine K i r (Operation.stretch_content t c shape)
known_stretched i r t c shape = fine_limits K i r (limit_fault (item_size t) []) _
    (let bytes : List ℕ = array_bytes t [] (λ j. c) in
    (tt, known_array i (both_after (Make bytes) r) (record { label = r.now.label; number = r.now.next }) (broadcast_view (contiguous t []) shape) (new_known bytes r)))

known_in : (i : Inputs) (r : Both) (b : Base) (g : Geo) (x : Chosen) → IsKnown r b → Fine K i r (Operation.choose_in b g x)
known_in i r b g (AnElement t p) h = known_element i r b g.writable t p h
known_in i r b g (AView v) h = known_array i r b v h
known_in i r b g (ACopy v) h = (h, known_fresh i (both_after (Use b (byte_places v)) r) v.element v.shape _)
known_in i r b g (Stretched t c shape) h = known_stretched i r t c shape

known_alone : (i : Inputs) (r : Both) (x : Chosen) → Fine K i r (Operation.choose_of_number x)
known_alone i r (Stretched t c shape) = known_stretched i r t c shape
known_alone i r x = tt

known_choice : (i : Inputs) (r : Both) (v : Value) (x : Chosen) → K r v → Fine K i r (Operation.choose_of v x)
known_choice i r (Int z) x h = known_alone i r x
known_choice i r (Truth t) x h = known_alone i r x
known_choice i r (Scalar k z) x h = known_alone i r x
known_choice i r (Array b g) x h = known_in i r b g x h
known_choice i r (Row b g) x h = known_in i r b g x h

-- ---- operations

abbrev AllK : Both → List (Usage × Value) → Type 0
AllK r [] = Unit {0}
AllK r (v ∷ vs) = K r v.1 × AllK r vs

all_keep : (x y : Both) → Keeps x y → (vs : List (Usage × Value)) → AllK x vs → AllK y vs
all_keep x y g [] h = tt
all_keep x y g (v ∷ vs) h = (value_keeps x y g v.1 h.0, all_keep x y g vs h.1)

abbrev Any : Both → Operand → Type 0
Any r o = Unit {0}

fine_elements : (i : Inputs) (r : Both) (used row : Bool) (b : Base) (g : Geo) → IsKnown r b → Fine Any i r (Operation.elements used row b g)
fine_elements i r true row b g h = (h, tt)
fine_elements i r false row b g h = tt

fine_used : (i : Inputs) (r : Both) (u : Usage) (v : Value) → K r v → Fine Any i r (Operation.use_operand u v)
fine_used i r u (Int z) h = tt
fine_used i r u (Truth t) h = tt
fine_used i r u (Scalar k z) h = tt
fine_used i r u (Array b g) h = fine_elements i r (operand.is_used u false) false b g h
fine_used i r u (Row b g) h = fine_elements i r (operand.is_used u true) true b g h

fine_operands : {A : Type 0} (Q : Both → A → Type 0) (i : Inputs) (r : Both) (vs : List (Usage × Value)) (go : List Operand → Eval A) → AllK r vs
    → ((q : Both) (os : List Operand) → Keeps r q → Fine Q i q (go os)) → Fine Q i r (operands vs go)
fine_operands Q i r [] go ks h = h r [] (stays r)
fine_operands Q i r (v ∷ vs) go ks h =
    fine_bind Any Q i r (Operation.use_operand v.0 v.1) _ (fine_used i r v.0 v.1 ks.0)
    (λ q o g is. fine_operands Q i q vs (λ os. go (o ∷ os)) (all_keep r q g vs ks.1) (λ q' os g'. h q' (o ∷ os) (keeps_on r q q' g g')))

known_with : {A : Type 0} (P : Both → A → Type 0) (i : Inputs) (r : Both) (vs : List (Usage × Value)) (n : ℕ) (k : Value → Eval A) → AllK r vs
    → ((v : Value) → K r v → Fine P i r (k v)) → Fine P i r (Operation.with_value vs n k)
known_with P i r [] n k h f = tt
known_with P i r (v ∷ vs) zero k h f = f v.1 h.0
known_with P i r (v ∷ vs) (suc n) k h f = known_with P i r vs n k h.1 f

known_performed : (i : Inputs) (r : Both) (op : Operation) (vs : List (Usage × Value)) → AllK r vs → Fine K i r (perform op vs)
known_performed i r (Computes f) vs h = fine_operands K i r vs _ h (λ q os g. fine_decided K i q (f os) _ (λ m. known_given i q m))
known_performed i r (Views w) vs h =
    fine_operands K i r vs _ h (λ q os g. fine_decided K i q (choose w os) _ (λ x. known_with K i q vs 0 _ (all_keep r q g vs h) (λ v kv. known_choice i q v x kv)))

-- ---- expressions

value_held : (P : Base → Type 0) (v : Value) → ((b : Base) → lies_in b v ≡ true → P b) → IsViewOf (λ b g. P b) v
value_held P (Int z) h = tt
value_held P (Truth t) h = tt
value_held P (Scalar k z) h = tt
value_held P (Array b g) h = h b (same_self b)
value_held P (Row b g) h = h b (same_self b)

found_held : (P : Base → Type 0) (n : List ℕ) (es : Names) → ((b : Base) → is_held b es ≡ true → P b) → IfFound (λ b g. P b) (lookup n es)
found_held P n [] h = tt
found_held P n (e ∷ es) h = elim (bytes_eq n e.0) as (λ t. IfFound (λ b g. P b) (cond t (Some e.1) (lookup n es))) [
  | true ↦ value_held P e.1 (λ b l. h b (or_left _ _ l))
  | false ↦ found_held P n es (λ b l. h b (or_right _ _ l))
]

known_bound : (i : Inputs) (r : Both) (n : List ℕ) (o : Option Value) → IfFound (λ b g. IsKnown r b) o → Fine K i r (Operation.bound_value n o)
known_bound i r n None h = tt
known_bound i r n (Some v) h = h

fine_input : (P : Both → Value → Type 0) (i : Inputs) (r : Both) (n : List ℕ) (f : Option Source → Result Loaded Fault) → ((q : Both) (l : Loaded) → Fine P i q (Operation.give_loaded l))
    → Fine P i r (Operation.input_value n f)
fine_input P i r n f h =
    elim (is_input_name n) as (λ t. Fine P i r (cond t (Asks (Ask n) (λ source. decide (f source) >>= Operation.give_loaded)) (Refuses (fault.Stmt BadArgument)))) [
      | true ↦ (tt, fine_decided P i (both_after (Ask n) r) (f (i n)) Operation.give_loaded (λ m. h (both_after (Ask n) r) m))
      | false ↦ tt
    ]

mutual
  known_plan : (p : Plan) (i : Inputs) (r : Both) → Holds r → Fine K i r (evaluate p)
  known_plan (Named n) i r h = (tt, known_bound i (both_after (Lookup n) r) n (lookup n r.now.names) (found_held (IsKnown r) n r.now.names h))
  known_plan (FromInput n f) i r h = fine_input K i r n f (known_loaded i)
  known_plan (Does op ps) i r h = known_values ps (perform op) i r h (λ q vs g kvs. known_performed i q op vs kvs)

  known_values : (ps : Plans) (k : List (Usage × Value) → Eval Value) (i : Inputs) (r : Both) → Holds r
      → ((q : Both) (vs : List (Usage × Value)) → Keeps r q → AllK q vs → Fine K i q (k vs)) → Fine K i r (with_values ps k)
  known_values Done k i r held h = h r [] (stays r) tt
  known_values (And u p ps) k i r held h =
      fine_bind K K i r (evaluate p) _ (known_plan p i r held)
      (λ q v g kv. known_values ps (λ vs. k ((u, v) ∷ vs)) i q (holds_keeps r q g held) (λ q' vs g' kvs. h q' ((u, v) ∷ vs) (keeps_on r q q' g g') (value_keeps q q' g' v kv, kvs)))

-- ---- statements

abbrev E : Both → Effect → Type 0
E r (Binding n v) = K r v
E r _ = Unit {0}

fine_stored : (i : Inputs) (r : Both) (ws : List (ℕ × ℕ)) (v : Value) → Fine E i r (Operation.store_in ws v)
fine_stored i r ws (Int z) = tt
fine_stored i r ws (Truth t) = tt
fine_stored i r ws (Scalar k z) = tt
fine_stored i r ws (Array b g) = tt
fine_stored i r ws (Row b g) = tt

known_deed : (i : Inputs) (r : Both) (vs : List (Usage × Value)) (d : Deed) → AllK r vs → Fine E i r (Operation.do_deed vs d)
known_deed i r vs NoDeed h = tt
known_deed i r vs (PrintsText text) h = tt
known_deed i r vs (SavesFile n file) h = tt
known_deed i r vs (BindsFirst n) h = known_with E i r vs 0 _ h (λ v kv. kv)
known_deed i r vs (BindsMade n m) h = fine_bind K E i r (Operation.give m) _ (known_given i r m) (λ q v g kv. kv)
known_deed i r vs (operand.Unbinds n) h = tt
known_deed i r vs (Writes k ws) h = known_with E i r vs k _ h (λ v kv. fine_stored i r ws v)
known_deed i r vs (MakesAndWrites m k ws) h =
    fine_bind K E i r (Operation.give m) _ (known_given i r m) (λ q v g kv. known_with E i q vs k _ (all_keep r q g vs h) (λ v kv. fine_stored i q ws v))

known_all : (ps : Plans) (k : List (Usage × Value) → Eval Effect) (i : Inputs) (r : Both) → Holds r
    → ((q : Both) (vs : List (Usage × Value)) → Keeps r q → AllK q vs → Fine E i q (k vs)) → Fine E i r (evaluate_all ps k)
known_all Done k i r held h = h r [] (stays r) tt
known_all (And u p ps) k i r held h =
    fine_bind K E i r (evaluate p) _ (known_plan p i r held)
    (λ q v g kv. known_all ps (λ vs. k ((u, v) ∷ vs)) i q (holds_keeps r q g held) (λ q' vs g' kvs. h q' ((u, v) ∷ vs) (keeps_on r q q' g g') (value_keeps q q' g' v kv, kvs)))

known_acted : (i : Inputs) (r : Both) (f : List Operand → Result Deed Fault) (vs : List (Usage × Value)) → AllK r vs → Fine E i r (Operation.act_on f vs)
known_acted i r f vs h = fine_operands E i r vs _ h (λ p os g. fine_decided E i p (f os) _ (λ d. known_deed i p vs d (all_keep r p g vs h)))

known_work : (w : Work) (i : Inputs) (r : Both) → Holds r → Fine E i r (Operation.do_work w)
known_work (Acts f ps) i r held = known_all ps _ i r held (λ q vs g h. known_acted i q f vs h)
known_work (ActsOn f w ps p) i r held =
    known_all ps _ i r held (λ q vs g h. fine_bind K E i q (perform (Views w) vs) _ (known_performed i q (Views w) vs h) (λ q' x g' hx.
    fine_bind K E i q' (evaluate p) _ (known_plan p i q' (holds_keeps r q' (keeps_on r q q' g g') held)) (λ q'' y g'' hy.
    known_acted i q'' f ((operand.Whole, y) ∷ (operand.Whole, x) ∷ vs) (hy, (value_keeps q' q'' g'' x hx, all_keep q q'' (keeps_on q q' q'' g' g'') vs h)))))

-- ---- both ways at once

abbrev IfGiven : {A : Type 0} → (Both → A → Type 0) → Both → Result A Fault → Type 0
IfGiven P r (Ok x) = P r x
IfGiven P r (Err f) = Unit {0}

-- the evaluation over the other bytes gives the same, and ends in the same but for bytes
record Walks {A : Type 0} (P : Both → A → Type 0) (i : Inputs) (r : Both) (t : Eval A) : Type 0 where
  other : Base → List ℕ
  same : run i t (over r) ≡ ((run i t r.now).0, over (record { now = (run i t r.now).1; other = other }))
  keeps : Keeps r (record { now = (run i t r.now).1; other = other })
  given : IfGiven P (record { now = (run i t r.now).1; other = other }) (run i t r.now).0

same_after : (a : Act) (r : Both) → after a (over r) ≡ over (both_after a r)
same_after (Lookup n) r = refl
same_after (Ask n) r = refl
same_after (Use b ps) r = refl
same_after (Make bytes) r = refl

same_reply : (i : Inputs) (a : Act) (r : Both) → UsesKnown r a → reply i a (over r) ≡ reply i a r.now
same_reply i (Lookup n) r h = refl
same_reply i (Ask n) r h = refl
same_reply i (Use b ps) r h = ap (λ (bytes : List ℕ). map (λ p. get_or bytes p 0) ps) h
same_reply i (Make bytes) r h = refl

walks : {A : Type 0} (P : Both → A → Type 0) (i : Inputs) (r : Both) (t : Eval A) → Fine P i r t → Walks P i r t
walks P i r (Gives x) fine = record { other = r.other; same = refl; keeps = stays r; given = fine }
walks P i r (Refuses f) fine = record { other = r.other; same = refl; keeps = stays r; given = tt }
walks P i r (Asks a go) fine =
    let w : Walks P i (both_after a r) (go (reply i a r.now)) = walks P i (both_after a r) (go (reply i a r.now)) fine.1 in
    record {
      other = w.other;
      same = ap₂ (λ x q. run i (go x) q) (same_reply i a r fine.0) (same_after a r) ∙ w.same;
      keeps = keeps_on r (both_after a r) _ (keeps_after a r) w.keeps;
      given = w.given;
    }

-- ---- effects

held_bind : (b : Base) (n : List ℕ) (v : Value) (es : Names) → is_held b (bind n v es) ≡ true → (lies_in b v ≡ true) ⊎ (is_held b es ≡ true)
held_bind b n v [] h = elim (or_cases _ _ h) [ inl here ↦ inl here | inr there ↦ inr there ]
held_bind b n v (e ∷ es) h = elim (cases_Bool (bytes_eq n e.0)) [
  | inl is ↦ elim (or_cases (lies_in b v) (is_held b es) (rw is at h)) [ inl here ↦ inl here | inr there ↦ inr (or_right _ _ there) ]
  | inr other ↦ elim (or_cases (lies_in b e.1) (is_held b (bind n v es)) (rw other at h)) [
    | inl here ↦ inr (or_left _ _ here)
    | inr there ↦ elim (held_bind b n v es there) [ inl v ↦ inl v | inr more ↦ inr (or_right _ _ more) ]
  ]
]

held_unbind : (b : Base) (n : List ℕ) (es : Names) → is_held b (unbind n es) ≡ true → is_held b es ≡ true
held_unbind b n [] h = h
held_unbind b n (e ∷ es) h = elim (cases_Bool (bytes_eq n e.0)) [
  | inl is ↦ or_right _ _ (held_unbind b n es (rw is at h))
  | inr other ↦ elim (or_cases (lies_in b e.1) (is_held b (unbind n es)) (rw other at h)) [
    | inl here ↦ or_left _ _ here
    | inr there ↦ or_right _ _ (held_unbind b n es there)
  ]
]

both : (a b : Bool) → (a && b) ≡ true → (a ≡ true) × (b ≡ true)
both true b e = (refl, e)
both false b e = absurd (let f : false ≡ true = e in cc)

is_same : (b c : Base) → same_base b c ≡ true → b ≡ c
is_same b c e = ap₂ (λ l n. record { label = l; number = n }) (eqb-true b.label c.label (both _ _ e).0) (eqb-true b.number c.number (both _ _ e).1)

view_known : (P : Base → Type 0) (v : Value) (b : Base) → lies_in b v ≡ true → IsViewOf (λ c g. P c) v → P b
view_known P (Int z) b l h = absurd (cc)
view_known P (Truth t) b l h = absurd (cc)
view_known P (Scalar k z) b l h = absurd (cc)
view_known P (Array c g) b l h = subst P (sym (is_same b c l)) h
view_known P (Row c g) b l h = subst P (sym (is_same b c l)) h

-- all but lost bases are known
abbrev IsReached : Both → Type 0
IsReached r = (b : Base) → is_lost r.now b ≡ false → IsKnown r b

-- a base that is not lost is another cell's, or some bound value lies in it
not_lost : (own held : Bool) → (own && not held) ≡ false → (own ≡ false) ⊎ (held ≡ true)
not_lost true true h = inr refl
not_lost true false h = absurd (let f : true ≡ false = h in cc)
not_lost false held h = inl refl

lost_from : (own held : Bool) → (own ≡ false) ⊎ (held ≡ true) → (own && not held) ≡ false
lost_from true held (inl h) = absurd (let f : true ≡ false = h in cc)
lost_from false held (inl h) = refl
lost_from true true (inr h) = refl
lost_from true false (inr h) = absurd (let f : false ≡ true = h in cc)
lost_from false held (inr h) = refl

held_known : (r : Both) → IsReached r → Holds r
held_known r h b held = h b (lost_from (nat_eq b.label r.now.label) (is_held b r.now.names) (inr held))

-- what follows an effect: the same effect over the other bytes, and all but lost bases are known
record Follows (r : Both) (d : Running → Running) : Type 0 where
  other : Base → List ℕ
  same : d (over r) ≡ over (record { now = d r.now; other = other })
  reached : IsReached (record { now = d r.now; other = other })

follows : (e : Effect) (r : Both) → E r e → IsReached r → Follows r (done e)
follows Nothing r given h = record { other = r.other; same = refl; reached = h }
follows (Prints text) r given h = record { other = r.other; same = refl; reached = h }
follows (Saves name file) r given h = record { other = r.other; same = refl; reached = h }
follows (Binding n v) r given h = record {
  other = r.other;
  same = refl;
  reached = λ b kept. elim (not_lost (nat_eq b.label r.now.label) (is_held b (bind n v r.now.names)) kept) [
    | inl other ↦ h b (lost_from (nat_eq b.label r.now.label) (is_held b r.now.names) (inl other))
    | inr held ↦ elim (held_bind b n v r.now.names held) [
      | inl lies ↦ view_known (IsKnown r) v b lies given
      | inr before ↦ held_known r h b before
    ]
  ];
}
follows (Unbinding n) r given h = record {
  other = r.other;
  same = refl;
  reached = λ b kept. elim (not_lost (nat_eq b.label r.now.label) (is_held b (unbind n r.now.names)) kept) [
    | inl other ↦ h b (lost_from (nat_eq b.label r.now.label) (is_held b r.now.names) (inl other))
    | inr held ↦ held_known r h b (held_unbind b n r.now.names held)
  ];
}
follows (Storing b ws) r given h = record {
  other = λ c. cond (same_base b c) (put ws (r.other c)) (r.other c);
  same = refl;
  reached = λ c kept. ap (λ (bytes : List ℕ). cond (same_base b c) (put ws bytes) bytes) (h c kept);
}

reached_keeps : (x y : Both) → Keeps x y → IsReached x → IsReached y
reached_keeps x y k h b kept = k.known b (h b (ap₂ (λ l ns. nat_eq b.label l && not (is_held b ns)) (sym k.label) (sym k.names) ∙ kept))

-- ---- a statement

pub record Goes (i : Inputs) (s : Stmt) (r : Running) (f : Base → List ℕ) : Type 0 where
  pub other : Base → List ℕ
  pub same : statement i s (record r { bytes = f }) ≡ ((statement i s r).0, record (statement i s r).1 { bytes = other })
  pub reached : (b : Base) → is_lost (statement i s r).1 b ≡ false → other b ≡ (statement i s r).1.bytes b

goes_had : (r : Both) (o : Result Effect Fault) → IfGiven E r o → IsReached r
    → (f : Base → List ℕ) × (had (o, over r) ≡ ((had (o, r.now)).0, over (record { now = (had (o, r.now)).1; other = f }))) × IsReached (record { now = (had (o, r.now)).1; other = f })
goes_had r (Ok e) given h = let w : Follows r (done e) = follows e r given h in (w.other, ap (λ q. (Ok (Rattle.nd_model.specs.Cells.Running.output e), q)) w.same, w.reached)
goes_had r (Err f) given h = (r.other, refl, h)

pub goes : (i : Inputs) (s : Stmt) (r : Running) (f : Base → List ℕ) → ((b : Base) → is_lost r b ≡ false → f b ≡ r.bytes b) → Goes i s r f
goes i s r f h =
    let x : Both = record { now = r; other = f } in
    let w : Walks E i x (Meaning.meaning s) = walks E i x (Meaning.meaning s) (known_work (Meaning.work s) i x (held_known x h)) in
    let y : Both = record { now = (run i (Meaning.meaning s) r).1; other = w.other } in
    let e : (f : Base → List ℕ) × (had ((run i (Meaning.meaning s) r).0, over y) ≡ ((statement i s r).0, over (record { now = (statement i s r).1; other = f }))) × IsReached (record { now = (statement i s r).1; other = f })
    = goes_had y (run i (Meaning.meaning s) r).0 w.given (reached_keeps x y w.keeps h) in
    record { other = e.0; same = ap had w.same ∙ e.1; reached = e.2 }
