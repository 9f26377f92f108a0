-- Arrays that an evaluation finds lie in their blocks.
use Rattle.std.proofs.Common.{◌≡◌, ℕ, ℤ, Option, None, Bool, cond, true, false, List, [], ◌∷◌, ◌++◌, map, length, Result, Ok, Err, refl, sym, ap, subst, ◌∙◌, arith}
use Rattle.std.specs.Prelude.{bytes_eq}
use Rattle.std.specs.List.{flat_map}
use Rattle.std.proofs.lemmas.List.Elements.{All-nil, All-cons, All-head, All-tail}
use Rattle.nd_model.specs.Arrays.View.{Geo, byte_places}
use Rattle.nd_model.specs.Arrays.Value as model
use Rattle.nd_model.specs.Arrays.Value.{Base}
use Rattle.nd_model.specs.Cells.Session as session
use Rattle.nd_model.specs.Cells.Session.{Names}
use Rattle.nd_model.specs.Cells.Fault.{Fault}
use Rattle.nd_model.specs.Cells.Running.{Running, Inputs, Use, reply, after, Effect, Binding, done}
use Rattle.nd_model.specs.Making.Reductions.{reduce_array, accumulate_array}
use Rattle.nd_model.specs.Grammar.Syntax.{Expr, Bound, Omitted, Given, Elements, Nested, Method, Copy, AsType, Transpose, Reshape, ViewAs, Reduced, Accumulated, Axis, DefaultAxis, AllAxes, AtAxis, Index, Field, Items, IndexItems, IndexItem, AndItem, NoItem, At, Slice, Ellipsis, NewAxis, Listed, Bind}
use Rattle.nd_model.specs.Cells.Evaluation.{Eval, Gives, Refuses, Asks, run}
use Rattle.nd_model.specs.Making.Operand.{Operand, Made, BindsFirst, Usage, Whole, Unused}
use Rattle.nd_model.specs.Grammar.Cells.{Suffix, AtIndex, OfMethod}
use Rattle.nd_model.specs.Making.Creation.{array_of_list, copy_array, astype}
use Rattle.nd_model.specs.Cells.Operation.{Computes, Views, act_on}
use Rattle.nd_model.specs.Indexing.Viewing.{Viewing, Transposed, Reshaped, ViewedAs}
use Rattle.nd_model.specs.Cells.Meaning as meaning
use Rattle.nd_model.specs.Cells.Meaning.{is_empty_list}
use Rattle.nd_model.specs.Cells.Cell.{had}
use Rattle.nd_model.specs.Cells.Sound.{LiesIn, IsViewOf, AreViewsOf, IsHeldView, IsSound}
use Rattle.nd_model.proofs.Growing.{Grows, stays, grows_on, grows_after, grows_run}
use Rattle.nd_model.proofs.Steps.{goes_on, run_bind}
use Rattle.nd_model.proofs.Soundness.{AllV as AreHeldValues, Safe, safe_bind, safe_performed, IfGiven, given_run, stays_sound}
use Rattle.nd_heap.specs.declared.value.Value.{Value}
use Rattle.nd_heap.specs.declared.value.Value.TheVariants.{Number, Array, Row}
use Rattle.nd_heap.specs.Values.{base_of, geo_of, value_of}
use Rattle.nd_eval.specs.declared.choosing.indexes.ItemValue.{ItemValue}
use Rattle.nd_eval.specs.declared.choosing.indexes.ItemValue.TheVariants as item
use Rattle.nd_eval.specs.declared.choosing.indexes.IndexValue.{IndexValue}
use Rattle.nd_eval.specs.declared.choosing.indexes.IndexValue.TheVariants as index
use Rattle.nd_eval.specs.Parts.{accumulation_value, binary_value, reduction_value, bound_exprs, choose_value, exprs_in, index_parts, item_parts, items_parts, items_then, list_parts, list_value, listed, method_value, suffix_value, unused, values, values_then, view_value, viewed_value, wholes, IndexParts, ItemParts}
use Rattle.nd_eval.specs.Uses.{IsHeld, AreHeld, marked, item_marked, items_marked, index_marked, all_marked}
use Rattle.nd_eval.proofs.Parts.{binding_parts}

-- ---- what is held stays held

views_map : (P Q : Base → Geo → Type 0) → ((b : Base) (g : Geo) → P b g → Q b g) → (v : model.Value) → IsViewOf P v → IsViewOf Q v
views_map P Q f (model.Int z) h = tt
views_map P Q f (model.Truth t) h = tt
views_map P Q f (model.Scalar k z) h = tt
views_map P Q f (model.Array b g) h = f b g h
views_map P Q f (model.Row b g) h = f b g h

all_views_map : (P Q : Base → Geo → Type 0) → ((b : Base) (g : Geo) → P b g → Q b g) → (es : Names) → AreViewsOf P es → AreViewsOf Q es
all_views_map P Q f [] h = tt
all_views_map P Q f (e ∷ es) h = (views_map P Q f e.1 h.0, all_views_map P Q f es h.1)

abbrev V : Running → model.Value → Type 0
V r v = IsViewOf (IsHeldView r) v

held_grows : (x y : Running) → Grows x y → (b : Base) (g : Geo) → IsHeldView x b g → IsHeldView y b g
held_grows x y grows b g h = record {
  lies = subst (λ l. LiesIn (length l) g) (sym (grows.kept b h.old)) h.lies;
  old = λ e. omega (arith, grows.next, h.old (e ∙ grows.label));
}

value_grows : (x y : Running) → Grows x y → (v : model.Value) → V x v → V y v
value_grows x y grows v h = views_map (IsHeldView x) (IsHeldView y) (held_grows x y grows) v h

sound_grows : (x y : Running) → Grows x y → IsSound x → IsSound y
sound_grows x y grows h = subst (AreViewsOf (IsHeldView y)) (sym grows.names) (all_views_map (IsHeldView x) (IsHeldView y) (held_grows x y grows) x.names h)

-- after an evaluation
grown : {A : Type 0} (i : Inputs) (t : Eval A) (r s : Running) (o : Result A Fault) → run i t r ≡ (o, s) → Grows r s
grown {A} i t r s o h = subst (λ (m : Result A Fault × Running). Grows r m.1) h (grows_run i t r)

pub sound_after : {A : Type 0} (i : Inputs) (t : Eval A) (r s : Running) (o : Result A Fault) → run i t r ≡ (o, s) → IsSound r → IsSound s
sound_after i t r s o h sound = sound_grows r s (grown i t r s o h) sound

pub held_after : {A : Type 0} (i : Inputs) (t : Eval A) (r s : Running) (o : Result A Fault) (v : Value) → run i t r ≡ (o, s) → IsHeld r v → IsHeld s v
held_after i t r s o v h held = value_grows r s (grown i t r s o h) (value_of v) held

-- after a use is noted
grows_marked : (v : Value) (r : Running) → Grows r (marked v r)
grows_marked (Number n) r = stays r
grows_marked (Array a) r = grows_after (Use (base_of a.base) (byte_places (geo_of a))) r
grows_marked (Row a) r = grows_after (Use (base_of a.base) (byte_places (geo_of a))) r

grows_item : (v : Value) (r : Running) → Grows r (item_marked v r)
grows_item (Number n) r = stays r
grows_item (Array a) r = grows_after (Use (base_of a.base) (byte_places (geo_of a))) r
grows_item (Row a) r = stays r

grows_items : (xs : List ItemValue) (r : Running) → Grows r (items_marked xs r)
grows_items [] r = stays r
grows_items (item.At v ∷ xs) r = grows_on r (item_marked v r) (items_marked xs (item_marked v r)) (grows_item v r) (grows_items xs (item_marked v r))
grows_items (item.Slice a b c ∷ xs) r = grows_items xs r
grows_items (item.Ellipsis ∷ xs) r = grows_items xs r
grows_items (item.NewAxis ∷ xs) r = grows_items xs r
grows_items (item.Empty ∷ xs) r = grows_items xs r

grows_index : (x : IndexValue) (r : Running) → Grows r (index_marked x r)
grows_index (index.Field n) r = stays r
grows_index (index.Items xs) r = grows_items xs.items r

pub held_index_marked : (x : IndexValue) (v : Value) (r s : Running) → s ≡ index_marked x r → IsHeld r v → IsHeld s v
held_index_marked x v r s mark held = rw mark (value_grows r (index_marked x r) (grows_index x r) (value_of v) held)

pub held_marked : (w v : Value) (r s : Running) → s ≡ marked w r → IsHeld r v → IsHeld s v
held_marked w v r s mark held = rw mark (value_grows r (marked w r) (grows_marked w r) (value_of v) held)

all_held_marked : (w : Value) (r : Running) (vs : List Value) → AreHeld r vs → AreHeld (marked w r) vs
all_held_marked w r [] h = All-nil (λ v. IsHeld (marked w r) v)
all_held_marked w r (v ∷ vs) h =
    All-cons (λ v. IsHeld (marked w r) v) v vs (value_grows r (marked w r) (grows_marked w r) (value_of v) (All-head (λ v. IsHeld r v) v vs h))
    (all_held_marked w r vs (All-tail (λ v. IsHeld r v) v vs h))

pub held_all_marked : (ws vs : List Value) (r s : Running) → s ≡ all_marked ws r → AreHeld r vs → AreHeld s vs
held_all_marked [] vs r s mark h = rw mark h
held_all_marked (w ∷ ws) vs r s mark h = held_all_marked ws vs (marked w r) s mark (all_held_marked w r vs h)

pub held_past : (ws : List Value) (v : Value) (r s : Running) → s ≡ all_marked ws r → IsHeld r v → IsHeld s v
held_past ws v r s mark h = All-head (λ w. IsHeld s w) v [] (held_all_marked ws (v ∷ []) r s mark (All-cons (λ w. IsHeld r w) v [] h (All-nil (λ w. IsHeld r w))))

-- ---- what is found is held

bound_held : (P : Base → Geo → Type 0) (n : List ℕ) (v : model.Value) (es : Names) → AreViewsOf P (session.bind n v es) → IsViewOf P v
bound_held P n v [] h = h.0
bound_held P n v (e ∷ es) h =
    (elim (bytes_eq n e.0) as (λ t. AreViewsOf P (cond t ((e.0, v) ∷ es) (e ∷ session.bind n v es)) → IsViewOf P v) [ true ↦ λ h. h.0 | false ↦ λ h. bound_held P n v es h.1 ]) h

-- since it could be bound to a name
if_bound : (n : List ℕ) (v : model.Value) (s : Running) → IsSound (done (Binding n v) s) → V s v
if_bound n v s h =
    views_map (IsHeldView (done (Binding n v) s)) (IsHeldView s) (λ b g x. record { lies = x.lies; old = x.old }) v (bound_held (IsHeldView (done (Binding n v) s)) n v s.names h)

value_found : (i : Inputs) (e : Expr) (r s : Running) (v : model.Value) → IsSound r → run i (meaning.value e) r ≡ (Ok v, s) → V s v
value_found i e r s v sound found =
    let binding : run i (meaning.meaning (Bind [] e)) r ≡ (Ok (Binding [] v), s)
    = run_bind i (meaning.value e) (λ v. act_on (λ os. Ok (BindsFirst [])) ((Unused, v) ∷ [])) r
    ∙ ap (λ m. goes_on i m (λ v. act_on (λ os. Ok (BindsFirst [])) ((Unused, v) ∷ []))) found
    ∙ ap (λ t. run i t s) (binding_parts [] v) in
    if_bound [] v s (subst (λ (m : Result Effect Fault × Running). IsSound (had m).1) binding (stays_sound.statement i (Bind [] e) r sound))

-- the value of an expression
pub value_held : (i : Inputs) (e : Expr) (r s : Running) (v : Value) → run i (meaning.value e) r ≡ (Ok (value_of v), s) → IsSound r → IsHeld s v
value_held i e r s v found sound = value_found i e r s (value_of v) sound found

no_value : {A : Type 0} {f : Fault} {v : A} {r s : Running} → ◌≡◌ {A = Result A Fault × Running} (Err f, r) (Ok v, s) → ⊥
no_value {A} {f} {v} {r} {s} h = let same : ◌≡◌ {A = Result A Fault} (Err f) (Ok v) = ap (λ (m : Result A Fault × Running). m.0) h in absurd (cc)

-- ---- values one after another

abbrev AllV : Running → List model.Value → Type 0
AllV r [] = Unit {0}
AllV r (v ∷ vs) = V r v × AllV r vs

if_given : (P : Running → model.Value → Type 0) (i : Inputs) (r : Running) (t : Eval model.Value) → IfGiven P (run i t r) → Safe P i r t
if_given P i r (Gives x) h = h
if_given P i r (Refuses f) h = tt
if_given P i r (Asks a go) h = if_given P i (after a r) (go (reply i a r)) h

safe_value : (i : Inputs) (r : Running) (e : Expr) → IsSound r → Safe V i r (meaning.value e)
safe_value i r e sound = if_given V i r (meaning.value e) (go (run i (meaning.value e) r) refl)
  where
    go : (m : Result model.Value Fault × Running) → run i (meaning.value e) r ≡ m → IfGiven V m
    go (Ok v, s) h = value_found i e r s v sound h
    go (Err f, s) h = tt

safe_values : {A : Type 0} (Q : Running → A → Type 0) (i : Inputs) (r : Running) (es : List Expr) (k : List model.Value → Eval A) → IsSound r
    → ((q : Running) (vs : List model.Value) → Grows r q → AllV q vs → Safe Q i q (k vs)) → Safe Q i r (values_then es k)
safe_values Q i r [] k sound h = h r [] (stays r) tt
safe_values Q i r (e ∷ es) k sound h =
    safe_bind V Q i r (meaning.value e) _ (safe_value i r e sound)
    (λ q v g hv. safe_values Q i q es (λ vs. k (v ∷ vs)) (sound_grows r q g sound) (λ p vs g' hvs. h p (v ∷ vs) (grows_on r q p g g') (value_grows q p g' v hv, hvs)))

of_all : (r : Running) (vs : List Value) → AllV r (map value_of vs) → AreHeld r vs
of_all r [] h = All-nil (λ v. IsHeld r v)
of_all r (v ∷ vs) h = All-cons (λ v. IsHeld r v) v vs h.0 (of_all r vs h.1)

-- the values of expressions
pub values_held : (i : Inputs) (es : List Expr) (r s : Running) (vs : List Value) → run i (values es) r ≡ (Ok (map value_of vs), s) → IsSound r → AreHeld s vs
values_held i es r s vs found sound =
    of_all s vs (subst (λ (m : Result (List model.Value) Fault × Running). IfGiven AllV m) found (given_run AllV i r (values es) (safe_values AllV i r es Gives sound (λ q vs g h. h))))

-- ---- what an index or a method gives

-- the values of an index
abbrev P : Running → IndexParts → Type 0
P r x = AreHeldValues r x.1

all_unused : (r : Running) (vs : List model.Value) → AllV r vs → AreHeldValues r (unused vs)
all_unused r [] h = tt
all_unused r (v ∷ vs) h = (h.0, all_unused r vs h.1)

all_together : (r : Running) (xs ys : List model.Value) → AllV r xs → AllV r ys → AllV r (xs ++ ys)
all_together r [] ys h k = k
all_together r (x ∷ xs) ys h k = (h.0, all_together r xs ys h.1 k)

all_behind : (r : Running) (vs ws : List (Usage × model.Value)) → AreHeldValues r vs → AreHeldValues r ws → AreHeldValues r (vs ++ ws)
all_behind r [] ws h k = k
all_behind r (v ∷ vs) ws h k = (h.0, all_behind r vs ws h.1 k)

all_grow : (x y : Running) → Grows x y → (vs : List model.Value) → AllV x vs → AllV y vs
all_grow x y grows [] h = tt
all_grow x y grows (v ∷ vs) h = (value_grows x y grows v h.0, all_grow x y grows vs h.1)

held_grow : (x y : Running) → Grows x y → (vs : List (Usage × model.Value)) → AreHeldValues x vs → AreHeldValues y vs
held_grow x y grows [] h = tt
held_grow x y grows (v ∷ vs) h = (value_grows x y grows v.1 h.0, held_grow x y grows vs h.1)

safe_bound : (i : Inputs) (r : Running) (b : Bound) → IsSound r → Safe AllV i r (values (bound_exprs b))
safe_bound i r b sound = safe_values AllV i r (bound_exprs b) Gives sound (λ q vs g h. h)

all_wholes : (r : Running) (vs : List model.Value) → AllV r vs → AreHeldValues r (wholes vs)
all_wholes r [] h = tt
all_wholes r (v ∷ vs) h = (h.0, all_wholes r vs h.1)

-- a list as an item
safe_listed : (i : Inputs) (r : Running) (is_empty : Bool) (es : Elements) → IsSound r → Safe (λ q (p : ItemParts). AreHeldValues q p.1) i r (list_parts is_empty es)
safe_listed i r true es sound = tt
safe_listed i r false es sound =
    safe_bind V (λ q (p : ItemParts). AreHeldValues q p.1) i r (list_value (Nested es) None) _
    (safe_bind AllV V i r (values (exprs_in es)) _ (safe_values AllV i r (exprs_in es) Gives sound (λ q vs g h. h))
    (λ q vs g h. safe_performed i q (Computes (array_of_list (Nested es) None)) (wholes vs) (all_wholes q vs h)))
    (λ q v g h. (h, tt))

safe_item : (i : Inputs) (r : Running) (x : IndexItem) → IsSound r → Safe (λ q p. AreHeldValues q p.1) i r (item_parts x)
safe_item i r (At e) sound = safe_bind V (λ q (p : ItemParts). AreHeldValues q p.1) i r (meaning.value e) _ (safe_value i r e sound) (λ q v g h. (h, tt))
safe_item i r (Slice a b c) sound =
    safe_bind AllV (λ q (p : ItemParts). AreHeldValues q p.1) i r (values (bound_exprs a)) _ (safe_bound i r a sound)
    (λ q xs g hx. safe_bind AllV (λ q (p : ItemParts). AreHeldValues q p.1) i q (values (bound_exprs b)) _ (safe_bound i q b (sound_grows r q g sound))
    (λ m ys g' hy. safe_bind AllV (λ q (p : ItemParts). AreHeldValues q p.1) i m (values (bound_exprs c)) _ (safe_bound i m c (sound_grows q m g' (sound_grows r q g sound)))
    (λ n zs g'' hz. all_unused n (xs ++ ys ++ zs) (all_together n (xs ++ ys) zs (all_together n xs ys (all_grow m n g'' xs (all_grow q m g' xs hx)) (all_grow m n g'' ys hy)) hz))))
safe_item i r Ellipsis sound = tt
safe_item i r NewAxis sound = tt
safe_item i r (Listed es) sound = safe_listed i r (is_empty_list es) es sound

abbrev AllItems : Running → List ItemParts → Type 0
AllItems r xs = AreHeldValues r (flat_map (λ (x : ItemParts). x.1) xs)

safe_items : {A : Type 0} (Q : Running → A → Type 0) (i : Inputs) (r : Running) (is : IndexItems) (k : List ItemParts → Eval A) → IsSound r
    → ((q : Running) (xs : List ItemParts) → Grows r q → AllItems q xs → Safe Q i q (k xs)) → Safe Q i r (items_then is k)
safe_items Q i r NoItem k sound h = h r [] (stays r) tt
safe_items Q i r (AndItem x is) k sound h =
    safe_bind (λ q (p : ItemParts). AreHeldValues q p.1) Q i r (item_parts x) _ (safe_item i r x sound)
    (λ q p g hp. safe_items Q i q is (λ xs. k (p ∷ xs)) (sound_grows r q g sound)
    (λ m xs g' hxs. h m (p ∷ xs) (grows_on r q m g g') (all_behind m p.1 (flat_map (λ (x : ItemParts). x.1) xs) (held_grow q m g' p.1 hp) hxs)))

safe_index : (i : Inputs) (r : Running) (x : Index) → IsSound r → Safe P i r (index_parts x)
safe_index i r (Field n) sound = tt
safe_index i r (Items is) sound = safe_bind AllItems P i r (items_parts is) _ (safe_items AllItems i r is Gives sound (λ q xs g h. h)) (λ q xs g h. h)

safe_viewed : (i : Inputs) (r : Running) (w : Viewing) (es : List Expr) (v : model.Value) → IsSound r → V r v → Safe V i r (viewed_value w es v)
safe_viewed i r w es v sound h =
    safe_bind AllV V i r (values es) (view_value w v) (safe_values AllV i r es Gives sound (λ q vs g hvs. hvs))
    (λ q vs g hvs. safe_performed i q (Views w) ((Unused, v) ∷ unused vs) (value_grows r q g v h, all_unused q vs hvs))

safe_along : (i : Inputs) (r : Running) (f : Operand → Option ℤ → Result Made Fault) (e : Expr) (v : model.Value) → IsSound r → V r v → Safe V i r (binary_value (meaning.along f) v e)
safe_along i r f e v sound h =
    safe_bind V V i r (meaning.value e) _ (safe_value i r e sound)
    (λ q w g hw. safe_performed i q (Computes (meaning.two (meaning.along f))) ((Whole, v) ∷ (Whole, w) ∷ []) (value_grows r q g v h, (hw, tt)))

safe_reduction : (i : Inputs) (r : Running) (f : Operand → Option ℤ → Result Made Fault) (otherwise : Option ℤ) (a : Axis) (v : model.Value) → IsSound r → V r v → Safe V i r (reduction_value f otherwise a v)
safe_reduction i r f otherwise DefaultAxis v sound h = safe_performed i r (Computes (meaning.one (λ o. f o otherwise))) ((Whole, v) ∷ []) (h, tt)
safe_reduction i r f otherwise AllAxes v sound h = safe_performed i r (Computes (meaning.one (λ o. f o None))) ((Whole, v) ∷ []) (h, tt)
safe_reduction i r f otherwise (AtAxis e) v sound h = safe_along i r f e v sound h

safe_accumulation : (i : Inputs) (r : Running) (f : Operand → Option ℤ → Result Made Fault) (otherwise : Option ℤ) (a : Bound) (v : model.Value) → IsSound r → V r v → Safe V i r (accumulation_value f otherwise a v)
safe_accumulation i r f otherwise Omitted v sound h = safe_performed i r (Computes (meaning.one (λ o. f o otherwise))) ((Whole, v) ∷ []) (h, tt)
safe_accumulation i r f otherwise (Given e) v sound h = safe_along i r f e v sound h

safe_method : (i : Inputs) (r : Running) (m : Method) (v : model.Value) → IsSound r → V r v → Safe V i r (method_value m v)
safe_method i r Copy v sound h = safe_performed i r (Computes (meaning.one copy_array)) ((Whole, v) ∷ []) (h, tt)
safe_method i r (AsType t) v sound h = safe_performed i r (Computes (meaning.one (astype t))) ((Whole, v) ∷ []) (h, tt)
safe_method i r (Transpose axes) v sound h = safe_viewed i r Transposed (listed axes) v sound h
safe_method i r (Reshape shape) v sound h = safe_viewed i r Reshaped (listed shape) v sound h
safe_method i r (ViewAs t) v sound h = safe_performed i r (Views (ViewedAs t)) ((Unused, v) ∷ []) (h, tt)
safe_method i r (Reduced f a keep) v sound h = safe_reduction i r (reduce_array f keep) None a v sound h
safe_method i r (Accumulated f a) v sound h = safe_accumulation i r (accumulate_array f) None a v sound h

safe_suffix : (i : Inputs) (r : Running) (x : Suffix) (v : model.Value) → IsSound r → V r v → Safe V i r (suffix_value x v)
safe_suffix i r (AtIndex x) v sound h =
    safe_bind P V i r (index_parts x) (choose_value v) (safe_index i r x sound)
    (λ q p g hp. safe_performed i q (Views p.0) ((Unused, v) ∷ p.1) (value_grows r q g v h, hp))
safe_suffix i r (OfMethod m) v sound h = safe_method i r m v sound h

pub suffix_held : (i : Inputs) (x : Suffix) (v : Value) (r s : Running) (w : Value) → run i (suffix_value x (value_of v)) r ≡ (Ok (value_of w), s) → IsSound r → IsHeld r v → IsHeld s w
suffix_held i x v r s w found sound held =
    subst (λ (m : Result model.Value Fault × Running). IfGiven V m) found (given_run V i r (suffix_value x (value_of v)) (safe_suffix i r x (value_of v) sound held))
