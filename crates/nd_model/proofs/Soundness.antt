-- Sessions stay sound: one lemma for each way in which a value is had, and none for the forms of expressions.
use Rattle.std.proofs.Common.{◌≡◌, ℕ, ℤ, zero, suc, ◌+◌, ◌*◌, ◌<◌, ◌≤◌, Bool, true, false, cond, leb, eq-eqb, List, [], ◌∷◌, ◌++◌, map, length, replicate, Option, Some, None, Result, Ok, Err, refl, sym, ap, ap₂, subst, ◌∙◌, arith, length-append}
use Rattle.std.specs.Prelude.{bytes_eq}
use Rattle.std.specs.List.{All, flat_map}
use Rattle.std.proofs.Math.Nat.{mul-le-mul_right}
use Rattle.std.proofs.lemmas.Bool.{or_left, or_right, and_from}
use Rattle.std.proofs.lemmas.List.{length-map, length-replicate}
use Rattle.std.proofs.lemmas.List.Elements.{All-nil, All-cons}
use Rattle.nd_model.specs.Arrays.Tuple.{count_up, elements_of, indices}
use Rattle.nd_model.specs.Arrays.View.{ElementType, One, Structure, Geo, item_size, byte_places, contiguous}
use Rattle.nd_model.specs.Arrays.Value.{Base, same_base, Value, Int, Truth, Scalar, Array, Row, lies_in}
use Rattle.nd_model.specs.Arrays.Strides.{limit_fault, from_parts}
use Rattle.nd_model.proofs.Parts.{parts_lie}
use Rattle.nd_model.specs.Cells.Session.{Names, lookup, bind, unbind, is_held, Session, held_bytes, put}
use Rattle.nd_model.specs.Arrays.Content.{Content, element_bytes, writes, array_bytes}
use Rattle.nd_model.specs.Cells.Running.{Key, Source, Inputs, Rule, Python, Atomic, Running, start, Lookup, Ask, Use, Make, reply, with_base, after, Effect, Nothing, Prints, Saves, Binding, Unbinding, Storing, done, Output}
use Rattle.nd_model.specs.Cells.Fault.{Fault, Refusal, ViewFault, BadArgument}
use Rattle.nd_model.specs.Cells.Fault as fault
use Rattle.nd_model.specs.Cells.InputName.{is_input_name}
use Rattle.nd_model.specs.Grammar.Syntax.{Stmt, Line, Parsed}
use Rattle.nd_model.specs.Cells.Evaluation.{Eval, Gives, Refuses, Asks, run, ◌>>=◌, decide}
use Rattle.nd_model.specs.Making.Operand as operand
use Rattle.nd_model.specs.Making.Operand.{Operand, Plain, Elements, Usage, Made, ANumber, AnArray, Loaded, AFile, ABuffer, Chosen, AnElement, AView, ACopy, Stretched, Deed, NoDeed, PrintsText, SavesFile, BindsFirst, BindsMade, Unbinds, Writes, MakesAndWrites}
use Rattle.nd_model.specs.Indexing.Viewing.{Viewing, choose}
use Rattle.nd_model.specs.Arrays.Broadcast.{broadcast_view}
use Rattle.nd_model.specs.Cells.Operation
use Rattle.nd_model.specs.Cells.Operation.{operands, Operation, Computes, Views, perform, Plan, Named, FromInput, Does, Plans, Done, And, evaluate, with_values, evaluate_all, Work, Acts, ActsOn}
use Rattle.nd_model.specs.Cells.Meaning
use Rattle.nd_model.specs.Cells.Cell.{Saved, Ended, had, statement, most_text, with_save, and_then, statements, ran, ruled, under, cell, session_after}
use Rattle.nd_model.specs.Cells.Footprint.{HasNone}
use Rattle.nd_model.specs.Cells.Sound.{LiesIn, IsViewOf, AreViewsOf, IsHeldView, IsSound, IsSoundSession, StaysSound}
use Rattle.nd_model.proofs.Lists.{not_both, length-put}
use Rattle.nd_model.proofs.Frames.{either_end}
use Rattle.nd_model.proofs.Growing.{Grows, stays, grows_on, grows_after, grows_run}
use Rattle.nd_model.proofs.Taking.{IsWithin, spread_alone}
use Rattle.nd_model.proofs.Choosing.{ChoosesWithin, chooses_within}
use Rattle.nd_model.proofs.Tuples.{length-count_up, length-indices}

-- ---- new arrays

length-element : (t : ElementType) (c : Content) → length (element_bytes t c) ≡ item_size t
length-element t c = length-put (writes t 0 c) (replicate (item_size t) 0) ∙ length-replicate (item_size t) 0

more : (size n : ℕ) → size + n * size ≡ suc n * size
more size n = omega arith

none : (size : ℕ) → 0 ≡ 0 * size
none size = omega arith

length-elements : (t : ElementType) (f : List ℕ → Content) (is : List (List ℕ)) → length (flat_map (λ i. element_bytes t (f i)) is) ≡ length is * item_size t
length-elements t f [] = none (item_size t)
length-elements t f (i ∷ is) =
    length-append (element_bytes t (f i)) (flat_map (λ i. element_bytes t (f i)) is) ∙ ap₂ (λ a b. a + b) (length-element t (f i)) (length-elements t f is)
    ∙ more (item_size t) (length is)

length-array : (t : ElementType) (shape : List ℕ) (f : List ℕ → Content) → length (array_bytes t shape f) ≡ elements_of shape * item_size t
length-array t shape f = length-elements t f (indices shape) ∙ ap (λ n. n * item_size t) (length-indices shape)

in_run : (size k n : ℕ) → k < n → k * size + size ≤ n * size
in_run size k n lt = omega (arith, mul-le-mul_right size lt)

places_in_run : (size : ℕ) (from many n : ℕ) → from + many ≤ n → All (λ p. p + size ≤ n * size) (map (λ k. k * size) (count_up from many))
places_in_run size from zero n le = All-nil (λ p. p + size ≤ n * size)
places_in_run size from (suc many) n le =
    All-cons (λ p. p + size ≤ n * size) (from * size) _ (in_run size from n (omega arith)) (places_in_run size (from + 1) many n (omega arith))

lies_alone : (t : ElementType) (shape : List ℕ) (f : List ℕ → Content) → limit_fault (item_size t) shape ≡ None → LiesIn (length (array_bytes t shape f)) (contiguous t shape)
lies_alone t shape f fine = record {
  count = length-map (count_up 0 (elements_of shape)) (λ k. k * item_size t) ∙ length-count_up 0 (elements_of shape);
  limits = fine;
  inside = subst (λ len. All (λ p. p + item_size t ≤ len) (map (λ k. k * item_size t) (count_up 0 (elements_of shape)))) (sym (length-array t shape f))
      (places_in_run (item_size t) 0 (elements_of shape) (elements_of shape) (omega arith));
}

-- ---- values that stay sound

pub views_map : (P Q : Base → Geo → Type 0) → ((b : Base) (g : Geo) → P b g → Q b g) → (v : Value) → IsViewOf P v → IsViewOf Q v
views_map P Q f (Int z) h = tt
views_map P Q f (Truth t) h = tt
views_map P Q f (Scalar k z) h = tt
views_map P Q f (Array b g) h = f b g h
views_map P Q f (Row b g) h = f b g h

pub all_views_map : (P Q : Base → Geo → Type 0) → ((b : Base) (g : Geo) → P b g → Q b g) → (es : Names) → AreViewsOf P es → AreViewsOf Q es
all_views_map P Q f [] h = tt
all_views_map P Q f (e ∷ es) h = (views_map P Q f e.1 h.0, all_views_map P Q f es h.1)

abbrev pub V : Running → Value → Type 0
V r v = IsViewOf (IsHeldView r) v

held_grows : (x y : Running) → Grows x y → (b : Base) (g : Geo) → IsHeldView x b g → IsHeldView y b g
held_grows x y grows b g h = record {
  lies = subst (λ l. LiesIn (length l) g) (sym (grows.kept b h.old)) h.lies;
  old = λ e. omega (arith, grows.next, h.old (e ∙ grows.label));
}

value_grows : (x y : Running) → Grows x y → (v : Value) → V x v → V y v
value_grows x y grows v h = views_map (IsHeldView x) (IsHeldView y) (held_grows x y grows) v h

pub sound_grows : (x y : Running) → Grows x y → IsSound x → IsSound y
sound_grows x y grows h = subst (AreViewsOf (IsHeldView y)) (sym grows.names) (all_views_map (IsHeldView x) (IsHeldView y) (held_grows x y grows) x.names h)

-- ---- evaluations

-- what an evaluation gives is as it should be in the session after it
abbrev pub Safe : {A : Type 0} → (Running → A → Type 0) → Inputs → Running → Eval A → Type 0
Safe P i r (Gives x) = P r x
Safe P i r (Refuses f) = Unit {0}
Safe P i r (Asks a go) = Safe P i (after a r) (go (reply i a r))

pub safe_bind : {A B : Type 0} (P : Running → A → Type 0) (Q : Running → B → Type 0) (i : Inputs) (r : Running) (t : Eval A) (k : A → Eval B) → Safe P i r t
    → ((q : Running) (x : A) → Grows r q → P q x → Safe Q i q (k x)) → Safe Q i r (t >>= k)
safe_bind P Q i r (Gives x) k s h = h r x (stays r) s
safe_bind P Q i r (Refuses f) k s h = tt
safe_bind P Q i r (Asks a go) k s h = safe_bind P Q i (after a r) (go (reply i a r)) k s (λ q x g p. h q x (grows_on r (after a r) q (grows_after a r) g) p)

pub safe_decided : {A B : Type 0} (Q : Running → B → Type 0) (i : Inputs) (r : Running) (x : Result A Fault) (k : A → Eval B) → ((y : A) → x ≡ Ok y → Safe Q i r (k y)) → Safe Q i r (decide x >>= k)
safe_decided Q i r (Ok x) k h = h x refl
safe_decided Q i r (Err f) k h = tt

pub safe_limits : {A : Type 0} (Q : Running → A → Type 0) (i : Inputs) (r : Running) (f : Option ViewFault) (t : Eval A) → (f ≡ None → Safe Q i r t) → Safe Q i r (Operation.unless_too_large f t)
safe_limits Q i r None t h = h refl
safe_limits Q i r (Some f) t h = tt

-- NEW BASES
new_base : (r : Running) (bytes : List ℕ) → with_base (record { label = r.label; number = r.next }) bytes r.bytes (record { label = r.label; number = r.next }) ≡ bytes
new_base r bytes = ap (λ t. cond t bytes (r.bytes (record { label = r.label; number = r.next }))) (and_from _ _ (eq-eqb r.label r.label refl) (eq-eqb r.next r.next refl))

safe_fresh : (i : Inputs) (r : Running) (t : ElementType) (shape : List ℕ) (f : List ℕ → Content) → Safe V i r (Operation.fresh_array t shape f)
safe_fresh i r t shape f = safe_limits V i r (limit_fault (item_size t) shape) _ (λ fine. record {
  lies = subst (λ l. LiesIn (length l) (contiguous t shape)) (sym (new_base r (array_bytes t shape f))) (lies_alone t shape f fine);
  old = λ e. omega arith;
})

safe_number : (r : Running) (n : operand.Number) → V r (Operation.number_value n)
safe_number r (operand.Int z) = tt
safe_number r (operand.Truth t) = tt
safe_number r (operand.Scalar k z) = tt

safe_given : (i : Inputs) (r : Running) (m : Made) → Safe V i r (Operation.give m)
safe_given i r (ANumber n) = safe_number r n
safe_given i r (AnArray t shape f) = safe_fresh i r t shape f

-- the view of parts over a new base of these bytes
safe_over : (i : Inputs) (r : Running) (t : ElementType) (shape : List ℕ) (strides : List ℤ) (offset : ℕ) (bytes : List ℕ) (o : Result Geo ViewFault)
    → from_parts t shape strides offset (length bytes) ≡ o → Safe V i r (Operation.array_over bytes o)
safe_over i r t shape strides offset bytes (Err f) e = tt
safe_over i r t shape strides offset bytes (Ok g) e = record {
  lies = subst (λ l. LiesIn (length l) g) (sym (new_base r bytes)) (parts_lie t shape strides offset (length bytes) g e);
  old = λ e. omega arith;
}

safe_loaded : (i : Inputs) (r : Running) (l : Loaded) → Safe V i r (Operation.give_loaded l)
safe_loaded i r (AFile t shape f) = safe_fresh i r t shape f
safe_loaded i r (ABuffer t shape strides offset bytes) = safe_over i r t shape strides offset bytes _ refl

-- OLD BASES
within : (r : Running) (b : Base) (g : Geo) → (b.label ≡ r.label → b.number < r.next) → IsWithin (length (r.bytes b)) g → limit_fault (item_size g.element) g.shape ≡ None → IsHeldView r b g
within r b g old h fine = record { lies = record { count = h.0; limits = fine; inside = h.1 }; old = old }

safe_array : (i : Inputs) (r : Running) (b : Base) (g : Geo) → (b.label ≡ r.label → b.number < r.next) → IsWithin (length (r.bytes b)) g → Safe V i r (Operation.view_value Array b g)
safe_array i r b g old h = safe_limits V i r (limit_fault (item_size g.element) g.shape) _ (within r b g old h)

safe_row : (i : Inputs) (r : Running) (b : Base) (g : Geo) → (b.label ≡ r.label → b.number < r.next) → IsWithin (length (r.bytes b)) g → Safe V i r (Operation.view_value Row b g)
safe_row i r b g old h = safe_limits V i r (limit_fault (item_size g.element) g.shape) _ (within r b g old h)

safe_element : (i : Inputs) (r : Running) (b : Base) (w : Bool) (t : ElementType) (p : ℕ) → (b.label ≡ r.label → b.number < r.next) → p + item_size t ≤ length (r.bytes b) → Safe V i r (Operation.element_of b w t p)
safe_element i r b w (One e) p old h = tt
safe_element i r b w (Structure fields size) p old h =
    safe_row i r b (record { element = Structure fields size; shape = []; writable = w; places = p ∷ [] }) old (refl, All-cons (λ p. p + size ≤ length (r.bytes b)) p [] h (All-nil (λ p. p + size ≤ length (r.bytes b))))

safe_stretched : (i : Inputs) (r : Running) (t : ElementType) (c : Content) (shape : List ℕ) → Safe V i r (Operation.stretch_content t c shape)
safe_stretched i r t c shape = safe_limits V i r (limit_fault (item_size t) []) _ (λ fine.
    let bytes : List ℕ = array_bytes t [] (λ i. c) in
    safe_array i (after (Make bytes) r) (record { label = r.label; number = r.next }) (broadcast_view (contiguous t []) shape) (λ e. omega arith)
    (subst (λ l. IsWithin (length l) (broadcast_view (contiguous t []) shape)) (sym (new_base r bytes)) (spread_alone (length bytes) (contiguous t []) shape (lies_alone t [] (λ i. c) fine) refl)))

safe_chosen_in : (i : Inputs) (r : Running) (b : Base) (g : Geo) (x : Chosen) → IsHeldView r b g → ChoosesWithin (length (r.bytes b)) x → Safe V i r (Operation.choose_in b g x)
safe_chosen_in i r b g (AnElement t p) h c = safe_element i r b g.writable t p h.old c
safe_chosen_in i r b g (AView v) h c = safe_array i r b v h.old c
safe_chosen_in i r b g (ACopy v) h c = safe_fresh i (after (Use b (byte_places v)) r) v.element v.shape _
safe_chosen_in i r b g (Stretched t c' shape) h c = safe_stretched i r t c' shape

safe_alone : (i : Inputs) (r : Running) (x : Chosen) → Safe V i r (Operation.choose_of_number x)
safe_alone i r (Stretched t c shape) = safe_stretched i r t c shape
safe_alone i r x = tt

-- an operand has the places of its value
abbrev IsOf : Value → Operand → Type 0
IsOf (Array b g) (Elements row h cs) = g ≡ h
IsOf (Row b g) (Elements row h cs) = g ≡ h
IsOf (Array b g) (Plain n) = ⊥
IsOf (Row b g) (Plain n) = ⊥
IsOf v o = Unit {0}

abbrev pub FirstIsOf : List (Usage × Value) → List Operand → Type 0
FirstIsOf (v ∷ vs) (o ∷ os) = IsOf v.1 o
FirstIsOf (v ∷ vs) [] = ⊥
FirstIsOf [] os = Unit {0}

abbrev pub AllV : Running → List (Usage × Value) → Type 0
AllV r [] = Unit {0}
AllV r (v ∷ vs) = V r v.1 × AllV r vs

all_grow : (x y : Running) → Grows x y → (vs : List (Usage × Value)) → AllV x vs → AllV y vs
all_grow x y g [] h = tt
all_grow x y g (v ∷ vs) h = (value_grows x y g v.1 h.0, all_grow x y g vs h.1)

safe_used : (i : Inputs) (r : Running) (u : Usage) (v : Value) → Safe (λ q o. IsOf v o) i r (Operation.use_operand u v)
safe_used i r u (Int z) = tt
safe_used i r u (Truth t) = tt
safe_used i r u (Scalar k z) = tt
safe_used i r u (Array b g) = elim (operand.is_used u false) as (λ t. Safe (λ q o. IsOf (Array b g) o) i r (Operation.elements t false b g)) [ true ↦ refl | false ↦ refl ]
safe_used i r u (Row b g) = elim (operand.is_used u true) as (λ t. Safe (λ q o. IsOf (Row b g) o) i r (Operation.elements t true b g)) [ true ↦ refl | false ↦ refl ]

pub safe_operands : {A : Type 0} (Q : Running → A → Type 0) (i : Inputs) (r : Running) (vs : List (Usage × Value)) (go : List Operand → Eval A)
    → ((q : Running) (os : List Operand) → Grows r q → FirstIsOf vs os → Safe Q i q (go os)) → Safe Q i r (operands vs go)
safe_operands Q i r [] go h = h r [] (stays r) tt
safe_operands Q i r (v ∷ vs) go h =
    safe_bind (λ q o. IsOf v.1 o) Q i r (Operation.use_operand v.0 v.1) _ (safe_used i r v.0 v.1)
    (λ q o g is. safe_operands Q i q vs (λ os. go (o ∷ os)) (λ q' os g' f. h q' (o ∷ os) (grows_on r q q' g g') is))

-- ---- operations

safe_choice : (i : Inputs) (r : Running) (w : Viewing) (v : Value) (o : Operand) (os : List Operand) (x : Chosen) → V r v → IsOf v o → choose w (o ∷ os) ≡ Ok x → Safe V i r (Operation.choose_of v x)
safe_choice i r w (Int z) o os x h is e = safe_alone i r x
safe_choice i r w (Truth t) o os x h is e = safe_alone i r x
safe_choice i r w (Scalar k z) o os x h is e = safe_alone i r x
safe_choice i r w (Array b g) (Plain n) os x h is e = absurd is
safe_choice i r w (Row b g) (Plain n) os x h is e = absurd is
safe_choice i r w (Array b g) (Elements is_row f cs) os x h is e =
    let len : ℕ = length (r.bytes b) in
    safe_chosen_in i r b g x h (chooses_within w is_row f cs os x len (subst (LiesIn len) is h.lies) e)
safe_choice i r w (Row b g) (Elements is_row f cs) os x h is e =
    let len : ℕ = length (r.bytes b) in
    safe_chosen_in i r b g x h (chooses_within w is_row f cs os x len (subst (LiesIn len) is h.lies) e)

safe_first : (i : Inputs) (r : Running) (w : Viewing) (vs : List (Usage × Value)) (os : List Operand) (x : Chosen) → AllV r vs → FirstIsOf vs os → choose w os ≡ Ok x
    → Safe V i r (Operation.with_value vs 0 (λ v. Operation.choose_of v x))
safe_first i r w [] os x h is e = tt
safe_first i r w (v ∷ vs) [] x h is e = absurd is
safe_first i r w (v ∷ vs) (o ∷ os) x h is e = safe_choice i r w v.1 o os x h.0 is e

pub safe_performed : (i : Inputs) (r : Running) (op : Operation) (vs : List (Usage × Value)) → AllV r vs → Safe V i r (perform op vs)
safe_performed i r (Computes f) vs h = safe_operands V i r vs _ (λ q os g is. safe_decided V i q (f os) _ (λ m e. safe_given i q m))
safe_performed i r (Views w) vs h = safe_operands V i r vs _ (λ q os g is. safe_decided V i q (choose w os) _ (λ x e. safe_first i q w vs os x (all_grow r q g vs h) is e))

-- ---- expressions

abbrev pub IfFound : (Base → Geo → Type 0) → Option Value → Type 0
IfFound P None = Unit {0}
IfFound P (Some v) = IsViewOf P v

found_sound : (P : Base → Geo → Type 0) (n : List ℕ) (es : Names) → AreViewsOf P es → IfFound P (lookup n es)
found_sound P n [] h = tt
found_sound P n (e ∷ es) h = elim (bytes_eq n e.0) as (λ t. IfFound P (cond t (Some e.1) (lookup n es))) [ true ↦ h.0 | false ↦ found_sound P n es h.1 ]

safe_bound : (i : Inputs) (r : Running) (n : List ℕ) (o : Option Value) → IfFound (IsHeldView r) o → Safe V i r (Operation.bound_value n o)
safe_bound i r n None h = tt
safe_bound i r n (Some v) h = h

safe_name : (i : Inputs) (r : Running) (n : List ℕ) → IsSound r → Safe V i r (Operation.name n)
safe_name i r n s = safe_bound i (after (Lookup n) r) n (lookup n r.names) (found_sound _ n r.names (sound_grows r (after (Lookup n) r) (grows_after (Lookup n) r) s))

-- what is made of an input is as it should be where whatever is made is so
pub safe_input : (P : Running → Value → Type 0) (i : Inputs) (r : Running) (n : List ℕ) (f : Option Source → Result Loaded Fault) → ((q : Running) (l : Loaded) → Safe P i q (Operation.give_loaded l))
    → Safe P i r (Operation.input_value n f)
safe_input P i r n f h =
    elim (is_input_name n) as (λ t. Safe P i r (cond t (Asks (Ask n) (λ source. decide (f source) >>= Operation.give_loaded)) (Refuses (fault.Stmt BadArgument)))) [
      | true ↦ safe_decided P i (after (Ask n) r) (f (i n)) Operation.give_loaded (λ m e. h (after (Ask n) r) m)
      | false ↦ tt
    ]

mutual
  safe_plan : (p : Plan) (i : Inputs) (r : Running) → IsSound r → Safe V i r (evaluate p)
  safe_plan (Named n) i r s = safe_name i r n s
  safe_plan (FromInput n f) i r s = safe_input V i r n f (safe_loaded i)
  safe_plan (Does op ps) i r s = safe_values ps (perform op) i r s (λ q vs g h. safe_performed i q op vs h)

  safe_values : (ps : Plans) (k : List (Usage × Value) → Eval Value) (i : Inputs) (r : Running) → IsSound r → ((q : Running) (vs : List (Usage × Value)) → Grows r q → AllV q vs → Safe V i q (k vs))
      → Safe V i r (with_values ps k)
  safe_values Done k i r s h = h r [] (stays r) tt
  safe_values (And u p ps) k i r s h =
      safe_bind V V i r (evaluate p) _ (safe_plan p i r s)
      (λ q v g sv. safe_values ps (λ vs. k ((u, v) ∷ vs)) i q (sound_grows r q g s) (λ q' vs g' svs. h q' ((u, v) ∷ vs) (grows_on r q q' g g') (value_grows q q' g' v sv, svs)))

-- ---- statements

abbrev pub E : Running → Effect → Type 0
E r (Binding n v) = V r v
E r _ = Unit {0}

safe_with : (i : Inputs) (r : Running) (vs : List (Usage × Value)) (n : ℕ) (k : Value → Eval Effect) → AllV r vs → ((v : Value) → V r v → Safe E i r (k v)) → Safe E i r (Operation.with_value vs n k)
safe_with i r [] n k h f = tt
safe_with i r (v ∷ vs) zero k h f = f v.1 h.0
safe_with i r (v ∷ vs) (suc n) k h f = safe_with i r vs n k h.1 f

safe_stored : (i : Inputs) (r : Running) (ws : List (ℕ × ℕ)) (v : Value) → V r v → Safe E i r (Operation.store_in ws v)
safe_stored i r ws (Int z) h = tt
safe_stored i r ws (Truth t) h = tt
safe_stored i r ws (Scalar k z) h = tt
safe_stored i r ws (Array b g) h = tt
safe_stored i r ws (Row b g) h = tt

safe_deed : (i : Inputs) (r : Running) (vs : List (Usage × Value)) (d : Deed) → AllV r vs → Safe E i r (Operation.do_deed vs d)
safe_deed i r vs NoDeed h = tt
safe_deed i r vs (PrintsText text) h = tt
safe_deed i r vs (SavesFile n file) h = tt
safe_deed i r vs (BindsFirst n) h = safe_with i r vs 0 _ h (λ v sv. sv)
safe_deed i r vs (BindsMade n m) h = safe_bind V E i r (Operation.give m) _ (safe_given i r m) (λ q v g sv. sv)
safe_deed i r vs (Unbinds n) h = tt
safe_deed i r vs (Writes k ws) h = safe_with i r vs k _ h (safe_stored i r ws)
safe_deed i r vs (MakesAndWrites m k ws) h = safe_bind V E i r (Operation.give m) _ (safe_given i r m) (λ q v g sv. safe_with i q vs k _ (all_grow r q g vs h) (safe_stored i q ws))

safe_all : (ps : Plans) (k : List (Usage × Value) → Eval Effect) (i : Inputs) (r : Running) → IsSound r → ((q : Running) (vs : List (Usage × Value)) → Grows r q → AllV q vs → Safe E i q (k vs))
    → Safe E i r (evaluate_all ps k)
safe_all Done k i r s h = h r [] (stays r) tt
safe_all (And u p ps) k i r s h =
    safe_bind V E i r (evaluate p) _ (safe_plan p i r s)
    (λ q v g sv. safe_all ps (λ vs. k ((u, v) ∷ vs)) i q (sound_grows r q g s) (λ q' vs g' svs. h q' ((u, v) ∷ vs) (grows_on r q q' g g') (value_grows q q' g' v sv, svs)))

safe_acted : (i : Inputs) (r : Running) (f : List Operand → Result Deed Fault) (vs : List (Usage × Value)) → AllV r vs → Safe E i r (Operation.act_on f vs)
safe_acted i r f vs h = safe_operands E i r vs _ (λ p os g is. safe_decided E i p (f os) _ (λ d e. safe_deed i p vs d (all_grow r p g vs h)))

pub safe_work : (w : Work) (i : Inputs) (r : Running) → IsSound r → Safe E i r (Operation.do_work w)
safe_work (Acts f ps) i r s = safe_all ps _ i r s (λ q vs g h. safe_acted i q f vs h)
safe_work (ActsOn f w ps p) i r s =
    safe_all ps _ i r s (λ q vs g h. safe_bind V E i q (perform (Views w) vs) _ (safe_performed i q (Views w) vs h) (λ q' x g' hx.
    safe_bind V E i q' (evaluate p) _ (safe_plan p i q' (sound_grows q q' g' (sound_grows r q g s))) (λ q'' y g'' hy.
    safe_acted i q'' f ((operand.Whole, y) ∷ (operand.Whole, x) ∷ vs) (hy, (value_grows q' q'' g'' x hx, all_grow q q'' (grows_on q q' q'' g' g'') vs h)))))

abbrev pub IfGiven : {A : Type 0} → (Running → A → Type 0) → Result A Fault × Running → Type 0
IfGiven P (Ok x, r) = P r x
IfGiven P (Err f, r) = Unit {0}

pub given_run : {A : Type 0} (P : Running → A → Type 0) (i : Inputs) (r : Running) (t : Eval A) → Safe P i r t → IfGiven P (run i t r)
given_run P i r (Gives x) h = h
given_run P i r (Refuses f) h = tt
given_run P i r (Asks a go) h = given_run P i (after a r) (go (reply i a r)) h

pub bind_views : (P : Base → Geo → Type 0) (n : List ℕ) (v : Value) (es : Names) → IsViewOf P v → AreViewsOf P es → AreViewsOf P (bind n v es)
bind_views P n v [] h hs = (h, tt)
bind_views P n v (e ∷ es) h hs = elim (bytes_eq n e.0) as (λ t. AreViewsOf P (cond t ((e.0, v) ∷ es) (e ∷ bind n v es))) [ true ↦ (h, hs.1) | false ↦ (hs.0, bind_views P n v es h hs.1) ]

pub unbind_views : (P : Base → Geo → Type 0) (n : List ℕ) (es : Names) → AreViewsOf P es → AreViewsOf P (unbind n es)
unbind_views P n [] hs = tt
unbind_views P n (e ∷ es) hs = elim (bytes_eq n e.0) as (λ t. AreViewsOf P (cond t (unbind n es) (e ∷ unbind n es))) [ true ↦ unbind_views P n es hs.1 | false ↦ (hs.0, unbind_views P n es hs.1) ]

-- names may change, and bytes while the lengths stay
same_lengths : (x y : Running) → y.label ≡ x.label → y.next ≡ x.next → ((b : Base) → length (y.bytes b) ≡ length (x.bytes b)) → (b : Base) (g : Geo) → IsHeldView x b g → IsHeldView y b g
same_lengths x y l n long b g h = record { lies = subst (λ k. LiesIn k g) (sym (long b)) h.lies; old = λ e. subst (λ k. b.number < k) (sym n) (h.old (e ∙ l)) }

done_sound : (e : Effect) (r : Running) → IsSound r → E r e → IsSound (done e r)
done_sound Nothing r s h = s
done_sound (Prints text) r s h = s
done_sound (Saves name file) r s h = s
done_sound (Binding n v) r s h =
    let y : Running = done (Binding n v) r in
    all_views_map (IsHeldView r) (IsHeldView y) (same_lengths r y refl refl (λ b. refl)) (bind n v r.names) (bind_views (IsHeldView r) n v r.names h s)
done_sound (Unbinding n) r s h =
    let y : Running = done (Unbinding n) r in
    all_views_map (IsHeldView r) (IsHeldView y) (same_lengths r y refl refl (λ b. refl)) (unbind n r.names) (unbind_views (IsHeldView r) n r.names s)
done_sound (Storing b ws) r s h =
    let y : Running = done (Storing b ws) r in
    all_views_map (IsHeldView r) (IsHeldView y) (same_lengths r y refl refl (λ c. elim (same_base b c) as (λ t. length (cond t (put ws (r.bytes c)) (r.bytes c)) ≡ length (r.bytes c)) [ true ↦ length-put ws (r.bytes c) | false ↦ refl ])) r.names s

had_sound : (o : Result Effect Fault) (r : Running) → IsSound r → IfGiven E (o, r) → IsSound (had (o, r)).1
had_sound (Ok e) r s h = done_sound e r s h
had_sound (Err f) r s h = s

pub statement_sound : (i : Inputs) (s : Stmt) (r : Running) → IsSound r → IsSound (statement i s r).1
statement_sound i s r h =
    had_sound (run i (Meaning.meaning s) r).0 (run i (Meaning.meaning s) r).1 (sound_grows r _ (grows_run i (Meaning.meaning s) r) h) (given_run E i r (Meaning.meaning s) (safe_work (Meaning.work s) i r h))

-- ---- cells

rest_sound : (line : ℕ) (text : List ℕ) (saves : Saved) (o : Result Output Fault × Running) (rest : List ℕ → Saved → Running → Ended) → IsSound o.1
    → ((text : List ℕ) (saves : Saved) (r : Running) → IsSound r → IsSound (rest text saves r).running) → IsSound (and_then line text saves o rest).running
rest_sound line text saves (Ok o, r) rest h more = either_end (leb (length (text ++ o.text)) most_text) _ _ (λ e. IsSound e.running) (more (text ++ o.text) (with_save o.save saves) r h) h
rest_sound line text saves (Err f, r) rest h more = h

all_sound : (i : Inputs) (ls : List Line) (text : List ℕ) (saves : Saved) (r : Running) → IsSound r → IsSound (statements i ls text saves r).running
all_sound i [] text saves r h = h
all_sound i (l ∷ ls) text saves r h = rest_sound l.line text saves (statement i l.stmt r) (statements i ls) (statement_sound i l.stmt r h) (all_sound i ls)

ran_sound : (i : Inputs) (p : Parsed) (r : Running) → IsSound r → IsSound (ran i p r).running
ran_sound i (Ok ls) r h = all_sound i ls [] [] r h
ran_sound i (Err f) r h = h

-- a base that a value lies in is one of the session
lies_self : (b : Base) → same_base b b ≡ true
lies_self b = and_from _ _ (eq-eqb b.label b.label refl) (eq-eqb b.number b.number refl)

pub held_map : (P Q : Base → Geo → Type 0) (names : Names) → ((b : Base) (g : Geo) → is_held b names ≡ true → P b g → Q b g) → (es : Names) → ((b : Base) → is_held b es ≡ true → is_held b names ≡ true)
    → AreViewsOf P es → AreViewsOf Q es
held_map P Q names f [] in_names h = tt
held_map P Q names f (e ∷ es) in_names h =
    (one e.1 (λ b l. in_names b (or_left _ _ l)) h.0, held_map P Q names f es (λ b l. in_names b (or_right _ _ l)) h.1)
  where
    one : (v : Value) → ((b : Base) → lies_in b v ≡ true → is_held b names ≡ true) → IsViewOf P v → IsViewOf Q v
    one (Int z) l h = tt
    one (Truth t) l h = tt
    one (Scalar k z) l h = tt
    one (Array b g) l h = f b g (l b (lies_self b)) h
    one (Row b g) l h = f b g (l b (lies_self b)) h

pub start_sound : (label : ℕ) (s : Session) → HasNone label s → IsSoundSession s → IsSound (start label s)
start_sound label s none h =
    held_map (λ b g. LiesIn (length (held_bytes s b)) g) (IsHeldView (start label s)) s.names
    (λ b g held lies. record { lies = lies; old = λ e. absurd (not_both _ (none.none b e) held) }) s.names (λ b l. l) h

after_sound : (e : Ended) → IsSound e.running → IsSoundSession (session_after e)
after_sound e h =
    held_map (IsHeldView e.running) (λ b g. LiesIn (length (held_bytes (session_after e) b)) g) e.running.names
    (λ b g held view. subst (λ l. LiesIn (length l) g) (sym (twice b held)) view.lies) e.running.names (λ b l. l) h
  where
    twice : (b : Base) → is_held b e.running.names ≡ true → held_bytes (session_after e) b ≡ e.running.bytes b
    twice b held = rw held refl

-- a session that has read more is as sound
sound_read : (r : Running) (read : Key → Bool) → IsSound r → IsSound (record r { read = read })
sound_read r read h = all_views_map (IsHeldView r) (IsHeldView (record r { read = read })) (λ b g view. record { lies = view.lies; old = view.old }) r.names h

under_sound : (rule : Rule) (began : Running) (o : Option (ℕ × Refusal)) (e : Ended) → IsSound began → IsSound e.running → IsSound (under rule began o e).running
under_sound rule began None e first last = last
under_sound Python began (Some f) e first last = sound_read e.running (ruled e.running).read last
under_sound Atomic began (Some f) e first last = sound_read began (ruled e.running).read first

pub stays_sound : StaysSound
stays_sound = record {
  start = start_sound;
  statement = statement_sound;
  cell = λ label p i s none h.
      let began : IsSound (start label s) = start_sound label s none h in
      let e : Ended = ran i.inputs p (start label s) in
      after_sound (cell label p i s) (under_sound i.rule (start label s) e.refusal e began (ran_sound i.inputs p (start label s) began));
}
