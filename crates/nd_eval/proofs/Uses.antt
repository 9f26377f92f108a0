-- Uses of values, and the blocks that they leave as they were.
use Rattle.std.proofs.Common.{◌≡◌, ℕ, Bool, true, false, cond, List, [], ◌∷◌, ◌++◌, map, Option, None, Some, Result, Ok, refl, sym, ap, ap₂, ◌∙◌}
use Rattle.std.specs.Prelude.{is_some}
use Rattle.std.specs.List.{flat_map}
use Rattle.std.proofs.lemmas.List.{map-append}
use Rattle.nd_model.specs.Cells.Fault.{Fault}
use Rattle.nd_model.specs.Arrays.View.{Geo, byte_places}
use Rattle.nd_model.specs.Arrays.Value.{Base}
use Rattle.nd_model.specs.Arrays.Value as model_value
use Rattle.nd_model.specs.Making.Operand as model
use Rattle.nd_model.specs.Making.Operand.{Usage, Whole, ArraysOnly, Unused, is_used}
use Rattle.nd_model.specs.Indexing.Index.{SliceForm}
use Rattle.nd_model.specs.Indexing.Viewing.{Viewing, Indexed, choose_of_first}
use Rattle.nd_model.specs.Making.Writing.{assignment_writes}
use Rattle.nd_model.specs.Cells.Running.{Running, Inputs, Use, after}
use Rattle.nd_model.specs.Cells.Evaluation.{Eval, run, ◌>>=◌}
use Rattle.nd_model.specs.Cells.Operation.{use_operand, operands, elements}
use Rattle.nd_types.specs.declared.num.Num.{Num}
use Rattle.nd_types.specs.declared.num.Num.TheVariants as num
use Rattle.nd_heap.specs.declared.value.Value.{Value}
use Rattle.nd_heap.specs.declared.value.Value.TheVariants.{Number, Array, Row}
use Rattle.nd_heap.specs.Values.{value_of}
use Rattle.nd_eval.specs.declared.choosing.indexes.ItemValue.{ItemValue}
use Rattle.nd_eval.specs.declared.choosing.indexes.ItemValue.TheVariants as item
use Rattle.nd_eval.specs.declared.choosing.indexes.IndexValue.{IndexValue}
use Rattle.nd_eval.specs.declared.choosing.indexes.IndexValue.TheVariants as index
use Rattle.nd_operation.specs.declared.operators.operand.Operand.{Operand}
use Rattle.nd_operation.specs.declared.refusals.stop.Stop.{Stop}
use Rattle.nd_operation.specs.Operators.Contents.{elements_over, operand_of, unused_of}
use Rattle.nd_operation.specs.Operators.New.{option_list}
use Rattle.nd_eval.specs.Choosing.Indexing.{form_of, forms_of, index_operand, item_operands, items_operands, index_operands, viewing_of}
use Rattle.nd_eval.specs.Ends.{Ends}
use Rattle.nd_eval.specs.Contents as contents
use Rattle.nd_eval.specs.Contents.{option_values}
use Rattle.nd_eval.specs.Parts.{ItemParts, unused, wholes}
use Rattle.nd_eval.specs.Uses.{marked, item_marked, items_marked, index_marked, all_marked, operand_over, operands_over}
use Rattle.nd_eval.proofs.Chains.{ends_alike}
use Rattle.nd_eval.proofs.Parts.{use_number, not_used}

pub marked_bytes : (v : Value) (r : Running) → (marked v r).bytes ≡ r.bytes
marked_bytes (Number n) r = refl
marked_bytes (Array a) r = refl
marked_bytes (Row a) r = refl

pub all_marked_bytes : (vs : List Value) (r : Running) → (all_marked vs r).bytes ≡ r.bytes
all_marked_bytes [] r = refl
all_marked_bytes (v ∷ vs) r = all_marked_bytes vs (marked v r) ∙ marked_bytes v r

pub marked_next : (v : Value) (r : Running) → (marked v r).next ≡ r.next
marked_next (Number n) r = refl
marked_next (Array a) r = refl
marked_next (Row a) r = refl

pub all_marked_next : (vs : List Value) (r : Running) → (all_marked vs r).next ≡ r.next
all_marked_next [] r = refl
all_marked_next (v ∷ vs) r = all_marked_next vs (marked v r) ∙ marked_next v r

-- a use gives the operand in the block, and notes it
pub used : {A : Type 0} (i : Inputs) (v : Value) (go : model.Operand → Eval A) (r : Running)
    → run i (use_operand Whole (value_of v) >>= go) r ≡ run i (go (operand_over r.bytes v)) (marked v r)
used i (Number n) go r = ap (λ t. run i (t >>= go) r) (use_number Whole n)
used i (Array a) go r = refl
used i (Row a) go r = refl

-- the same of values one after another
pub all_used : {A : Type 0} (i : Inputs) (vs : List Value) (go : List model.Operand → Eval A) (r : Running)
    → run i (operands (wholes (map value_of vs)) go) r ≡ run i (go (operands_over r.bytes vs)) (all_marked vs r)
all_used i [] go r = refl
all_used i (v ∷ vs) go r =
    used i v (λ o. operands (wholes (map value_of vs)) (λ os. go (o ∷ os))) r
    ∙ all_used i vs (λ os. go (operand_over r.bytes v ∷ os)) (marked v r)
    ∙ ap (λ bytes. run i (go (operand_over r.bytes v ∷ operands_over bytes vs)) (all_marked vs (marked v r))) (marked_bytes v r)

-- the session once it is noted
pub kept_bytes : (v : Value) (r s : Running) → s ≡ marked v r → s.bytes ≡ r.bytes
kept_bytes v r s mark = ap (λ (q : Running). q.bytes) mark ∙ marked_bytes v r

pub kept_next : (v : Value) (r s : Running) → s ≡ marked v r → s.next ≡ r.next
kept_next v r s mark = ap (λ (q : Running). q.next) mark ∙ marked_next v r

-- what comes after the use of a value, whose operand is lent by a session of these bytes
pub goes_used : {B : Type 0} (i : Inputs) (v : Value) (go : model.Operand → Eval B) (r s : Running) (bytes : Base → List ℕ) (x : Operand)
    → s ≡ marked v r → bytes ≡ r.bytes → operand_of x ≡ operand_over bytes v → run i (use_operand Whole (value_of v) >>= go) r ≡ run i (go (operand_of x)) s
goes_used i v go r s bytes x mark kept lent =
    let is : operand_over r.bytes v ≡ operand_of x = sym (lent ∙ ap (λ b. operand_over b v) kept) in
    used i v go r ∙ ap (λ y. run i (go y) (marked v r)) is ∙ ap (run i (go (operand_of x))) (sym mark)

pub follows_use : {B Y : Type 0} (w : Y → B) (i : Inputs) (v : Value) (go : model.Operand → Eval B) (r s u : Running) (bytes : Base → List ℕ) (x : Operand) (o : Result Y Stop)
    → s ≡ marked v r → bytes ≡ r.bytes → operand_of x ≡ operand_over bytes v → Ends w o u (run i (go (operand_of x)) s) → Ends w o u (run i (use_operand Whole (value_of v) >>= go) r)
follows_use w i v go r s u bytes x o mark kept lent rest =
    ends_alike w o u (goes_used i v go r s bytes x mark kept lent) rest

-- ---- the items of an index

item_marked_bytes : (v : Value) (r : Running) → (item_marked v r).bytes ≡ r.bytes
item_marked_bytes (Number n) r = refl
item_marked_bytes (Array a) r = refl
item_marked_bytes (Row a) r = refl

items_marked_bytes : (xs : List ItemValue) (r : Running) → (items_marked xs r).bytes ≡ r.bytes
items_marked_bytes [] r = refl
items_marked_bytes (item.At v ∷ xs) r = items_marked_bytes xs (item_marked v r) ∙ item_marked_bytes v r
items_marked_bytes (item.Slice a b c ∷ xs) r = items_marked_bytes xs r
items_marked_bytes (item.Ellipsis ∷ xs) r = items_marked_bytes xs r
items_marked_bytes (item.NewAxis ∷ xs) r = items_marked_bytes xs r
items_marked_bytes (item.Empty ∷ xs) r = items_marked_bytes xs r

index_marked_bytes : (x : IndexValue) (r : Running) → (index_marked x r).bytes ≡ r.bytes
index_marked_bytes (index.Field n) r = refl
index_marked_bytes (index.Items xs) r = items_marked_bytes xs.items r

pub index_kept : (x : IndexValue) (r s : Running) → s ≡ index_marked x r → s.bytes ≡ r.bytes
index_kept x r s mark = ap (λ (q : Running). q.bytes) mark ∙ index_marked_bytes x r

item_marked_next : (v : Value) (r : Running) → (item_marked v r).next ≡ r.next
item_marked_next (Number n) r = refl
item_marked_next (Array a) r = refl
item_marked_next (Row a) r = refl

items_marked_next : (xs : List ItemValue) (r : Running) → (items_marked xs r).next ≡ r.next
items_marked_next [] r = refl
items_marked_next (item.At v ∷ xs) r = items_marked_next xs (item_marked v r) ∙ item_marked_next v r
items_marked_next (item.Slice a b c ∷ xs) r = items_marked_next xs r
items_marked_next (item.Ellipsis ∷ xs) r = items_marked_next xs r
items_marked_next (item.NewAxis ∷ xs) r = items_marked_next xs r
items_marked_next (item.Empty ∷ xs) r = items_marked_next xs r

index_marked_next : (x : IndexValue) (r : Running) → (index_marked x r).next ≡ r.next
index_marked_next (index.Field n) r = refl
index_marked_next (index.Items xs) r = items_marked_next xs.items r

pub index_next : (x : IndexValue) (r s : Running) → s ≡ index_marked x r → s.next ≡ r.next
index_next x r s mark = ap (λ (q : Running). q.next) mark ∙ index_marked_next x r

-- ---- the operands of an index, as they are seen

abbrev seen : (Base → List ℕ) → Usage → model_value.Value → model.Operand
seen bytes u (model_value.Int z) = model.Plain (model.Int z)
seen bytes u (model_value.Truth t) = model.Plain (model.Truth t)
seen bytes u (model_value.Scalar k z) = model.Plain (model.Scalar k z)
seen bytes u (model_value.Array b g) = cond (is_used u false) (elements_over false g (bytes b)) (model.Elements false g [])
seen bytes u (model_value.Row b g) = cond (is_used u true) (elements_over true g (bytes b)) (model.Elements true g [])

abbrev mark : Usage → model_value.Value → Running → Running
mark u (model_value.Array b g) r = cond (is_used u false) (after (Use b (byte_places g)) r) r
mark u (model_value.Row b g) r = cond (is_used u true) (after (Use b (byte_places g)) r) r
mark u v r = r

abbrev all_seen : (Base → List ℕ) → List (Usage × model_value.Value) → List model.Operand
all_seen bytes vs = map (λ (v : Usage × model_value.Value). seen bytes v.0 v.1) vs

abbrev all_marks : List (Usage × model_value.Value) → Running → Running
all_marks [] r = r
all_marks (v ∷ vs) r = all_marks vs (mark v.0 v.1 r)

elements_seen : {A : Type 0} (i : Inputs) (t is_row : Bool) (b : Base) (g : Geo) (go : model.Operand → Eval A) (r : Running)
    → run i (elements t is_row b g >>= go) r ≡ run i (go (cond t (elements_over is_row g (r.bytes b)) (model.Elements is_row g []))) (cond t (after (Use b (byte_places g)) r) r)
elements_seen i true is_row b g go r = refl
elements_seen i false is_row b g go r = refl

one_seen : {A : Type 0} (i : Inputs) (u : Usage) (v : model_value.Value) (go : model.Operand → Eval A) (r : Running)
    → run i (use_operand u v >>= go) r ≡ run i (go (seen r.bytes u v)) (mark u v r)
one_seen i u (model_value.Int z) go r = refl
one_seen i u (model_value.Truth t) go r = refl
one_seen i u (model_value.Scalar k z) go r = refl
one_seen i u (model_value.Array b g) go r = elements_seen i (is_used u false) false b g go r
one_seen i u (model_value.Row b g) go r = elements_seen i (is_used u true) true b g go r

marked_alike : (t : Bool) (b : Base) (ps : List ℕ) (r : Running) → (cond t (after (Use b ps) r) r).bytes ≡ r.bytes
marked_alike true b ps r = refl
marked_alike false b ps r = refl

mark_bytes : (u : Usage) (v : model_value.Value) (r : Running) → (mark u v r).bytes ≡ r.bytes
mark_bytes u (model_value.Int z) r = refl
mark_bytes u (model_value.Truth t) r = refl
mark_bytes u (model_value.Scalar k z) r = refl
mark_bytes u (model_value.Array b g) r = marked_alike (is_used u false) b (byte_places g) r
mark_bytes u (model_value.Row b g) r = marked_alike (is_used u true) b (byte_places g) r

each_seen : {A : Type 0} (i : Inputs) (vs : List (Usage × model_value.Value)) (go : List model.Operand → Eval A) (r : Running)
    → run i (operands vs go) r ≡ run i (go (all_seen r.bytes vs)) (all_marks vs r)
each_seen i [] go r = refl
each_seen i (v ∷ vs) go r =
    let o : model.Operand = seen r.bytes v.0 v.1 in
    let m : Running = mark v.0 v.1 r in
    one_seen i v.0 v.1 (λ o. operands vs (λ os. go (o ∷ os))) r
    ∙ each_seen i vs (λ os. go (o ∷ os)) m
    ∙ ap (λ bytes. run i (go (o ∷ all_seen bytes vs)) (all_marks vs m)) (mark_bytes v.0 v.1 r)

-- ---- the same of the code's values

seen_unused : (bytes : Base → List ℕ) (v : Value) → seen bytes Unused (value_of v) ≡ unused_of v
seen_unused bytes (Number (num.Int z)) = refl
seen_unused bytes (Number (num.Bool t)) = refl
seen_unused bytes (Number (num.Scalar k z)) = refl
seen_unused bytes (Array a) = refl
seen_unused bytes (Row a) = refl

seen_item : (bytes : Base → List ℕ) (v : Value) → seen bytes ArraysOnly (value_of v) ≡ index_operand bytes v
seen_item bytes (Number (num.Int z)) = refl
seen_item bytes (Number (num.Bool t)) = refl
seen_item bytes (Number (num.Scalar k z)) = refl
seen_item bytes (Array a) = refl
seen_item bytes (Row a) = refl

mark_unused : (v : Value) (r : Running) → mark Unused (value_of v) r ≡ r
mark_unused (Number (num.Int z)) r = refl
mark_unused (Number (num.Bool t)) r = refl
mark_unused (Number (num.Scalar k z)) r = refl
mark_unused (Array a) r = refl
mark_unused (Row a) r = refl

mark_array : (v : Value) (r : Running) → mark ArraysOnly (value_of v) r ≡ item_marked v r
mark_array (Number (num.Int z)) r = refl
mark_array (Number (num.Bool t)) r = refl
mark_array (Number (num.Scalar k z)) r = refl
mark_array (Array a) r = refl
mark_array (Row a) r = refl

module _ (bytes : Base → List ℕ) where
  bounds_seen : (a b c : Option Value) → all_seen bytes (unused (option_values a ++ option_values b ++ option_values c)) ≡ map unused_of (option_list a ++ option_list b ++ option_list c)
  bounds_seen None None None = refl
  bounds_seen None None (Some c) = λ i. seen_unused bytes c i ∷ []
  bounds_seen None (Some b) None = λ i. seen_unused bytes b i ∷ []
  bounds_seen None (Some b) (Some c) = λ i. seen_unused bytes b i ∷ seen_unused bytes c i ∷ []
  bounds_seen (Some a) None None = λ i. seen_unused bytes a i ∷ []
  bounds_seen (Some a) None (Some c) = λ i. seen_unused bytes a i ∷ seen_unused bytes c i ∷ []
  bounds_seen (Some a) (Some b) None = λ i. seen_unused bytes a i ∷ seen_unused bytes b i ∷ []
  bounds_seen (Some a) (Some b) (Some c) = λ i. seen_unused bytes a i ∷ seen_unused bytes b i ∷ seen_unused bytes c i ∷ []

  item_seen : (x : ItemValue) → all_seen bytes (contents.used_of x) ≡ item_operands bytes x
  item_seen (item.At v) = λ i. seen_item bytes v i ∷ []
  item_seen (item.Slice a b c) = bounds_seen a b c
  item_seen item.Ellipsis = refl
  item_seen item.NewAxis = refl
  item_seen item.Empty = refl

  items_seen : (xs : List ItemValue) → all_seen bytes (flat_map (λ (x : ItemParts). x.1) (map contents.item_of xs)) ≡ items_operands bytes xs
  items_seen [] = refl
  items_seen (x ∷ xs) =
      map-append (λ (v : Usage × model_value.Value). seen bytes v.0 v.1) (contents.used_of x) (flat_map (λ (x : ItemParts). x.1) (map contents.item_of xs))
      ∙ ap₂ (λ (a b : List model.Operand). a ++ b) (item_seen x) (items_seen xs)

items_forms : (xs : List ItemValue) → map (λ (x : ItemParts). x.0) (map contents.item_of xs) ≡ forms_of xs
items_forms [] = refl
items_forms (x ∷ xs) = ap (λ l. form_of x ∷ l) (items_forms xs)

marks_unused : (vs : List Value) (rest : List (Usage × model_value.Value)) (r : Running) → all_marks (unused (map value_of vs) ++ rest) r ≡ all_marks rest r
marks_unused [] rest r = refl
marks_unused (v ∷ vs) rest r = ap (all_marks (unused (map value_of vs) ++ rest)) (mark_unused v r) ∙ marks_unused vs rest r

bounds_are : (a b c : Option Value) → option_values a ++ option_values b ++ option_values c ≡ map value_of (option_list a ++ option_list b ++ option_list c)
bounds_are None None None = refl
bounds_are None None (Some c) = refl
bounds_are None (Some b) None = refl
bounds_are None (Some b) (Some c) = refl
bounds_are (Some a) None None = refl
bounds_are (Some a) None (Some c) = refl
bounds_are (Some a) (Some b) None = refl
bounds_are (Some a) (Some b) (Some c) = refl

items_marks : (xs : List ItemValue) (r : Running) → all_marks (flat_map (λ (x : ItemParts). x.1) (map contents.item_of xs)) r ≡ items_marked xs r
items_marks [] r = refl
items_marks (item.At v ∷ xs) r = ap (all_marks (flat_map (λ (x : ItemParts). x.1) (map contents.item_of xs))) (mark_array v r) ∙ items_marks xs (item_marked v r)
items_marks (item.Slice a b c ∷ xs) r =
    ap (λ l. all_marks (unused l ++ flat_map (λ (x : ItemParts). x.1) (map contents.item_of xs)) r) (bounds_are a b c)
    ∙ marks_unused (option_list a ++ option_list b ++ option_list c) (flat_map (λ (x : ItemParts). x.1) (map contents.item_of xs)) r ∙ items_marks xs r
items_marks (item.Ellipsis ∷ xs) r = items_marks xs r
items_marks (item.NewAxis ∷ xs) r = items_marks xs r
items_marks (item.Empty ∷ xs) r = items_marks xs r

pub viewing_is : (x : IndexValue) → (contents.index_of x).0 ≡ viewing_of x
viewing_is (index.Field n) = refl
viewing_is (index.Items xs) = ap Indexed (items_forms xs.items)

operands_are : (bytes : Base → List ℕ) (x : IndexValue) → all_seen bytes (contents.index_of x).1 ≡ index_operands bytes x
operands_are bytes (index.Field n) = refl
operands_are bytes (index.Items xs) = items_seen bytes xs.items

marks_are : (x : IndexValue) (r : Running) → all_marks (contents.index_of x).1 r ≡ index_marked x r
marks_are (index.Field n) r = refl
marks_are (index.Items xs) r = items_marks xs.items r

-- what goes on with a value and the operands of an index
pub index_used : {A : Type 0} (i : Inputs) (t : Value) (x : IndexValue) (go : Viewing → model.Operand → List model.Operand → Eval A) (r : Running)
    → run i (use_operand Unused (value_of t) >>= λ o. operands (contents.index_of x).1 (go (contents.index_of x).0 o)) r
    ≡ run i (go (viewing_of x) (unused_of t) (index_operands r.bytes x)) (index_marked x r)
index_used i t x go r =
    let w : Viewing = (contents.index_of x).0 in
    let vs : List (Usage × model_value.Value) = (contents.index_of x).1 in
    ap (λ s. run i (s >>= λ o. operands vs (go w o)) r) (not_used t)
    ∙ each_seen i vs (go w (unused_of t)) r
    ∙ (λ j. run i (go (viewing_is x j) (unused_of t) (operands_are r.bytes x j)) (marks_are x r j))

-- over the blocks of the session once it is noted
pub index_used_in : {A : Type 0} (i : Inputs) (t : Value) (x : IndexValue) (go : Viewing → model.Operand → List model.Operand → Eval A) (r s : Running) → s ≡ index_marked x r
    → run i (use_operand Unused (value_of t) >>= λ o. operands (contents.index_of x).1 (go (contents.index_of x).0 o)) r
    ≡ run i (go (viewing_of x) (unused_of t) (index_operands s.bytes x)) s
index_used_in i t x go r s mark = index_used i t x go r ∙ (λ j. run i (go (viewing_of x) (unused_of t) (index_operands (sym (index_kept x r s mark) j) x)) (sym mark j))

-- of a number nothing is chosen, and nothing is written to it
pub nothing_chosen : (n : Num) (x : IndexValue) (os : List model.Operand) (y : model.Chosen) → choose_of_first (viewing_of x) (unused_of (Number n)) os ≡ Ok y → ⊥
nothing_chosen n (index.Items xs) os y h = absurd (cc)
nothing_chosen n (index.Field f) os y h = absurd (cc)

pub nothing_written : (n : Num) (x : IndexValue) (o : model.Operand) (os : List model.Operand) (ws : List (ℕ × ℕ)) → assignment_writes (viewing_of x) o (unused_of (Number n)) os ≡ Ok ws → ⊥
nothing_written n (index.Items xs) o os ws h = absurd (cc)
nothing_written n (index.Field f) o os ws h = absurd (cc)

-- a slice whose bounds are written as its values are there
pub slice_seen : (r : Running) (a b c : Bool) (xs ys zs : Option Value) → is_some xs ≡ a → is_some ys ≡ b → is_some zs ≡ c
    → ◌≡◌ {A = Result ItemParts Fault × Running} (Ok (SliceForm a b c, unused (option_values xs ++ option_values ys ++ option_values zs)), r) (Ok (contents.item_of (item.Slice xs ys zs)), r)
slice_seen r a b c xs ys zs p q s = λ j. (Ok (SliceForm (sym p j) (sym q j) (sym s j), unused (option_values xs ++ option_values ys ++ option_values zs)), r)
