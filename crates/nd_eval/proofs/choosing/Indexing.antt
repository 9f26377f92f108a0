-- Items of an index, one after the other, and what they choose.
use Rattle.std.proofs.Common.{◌≡◌, ℕ, ℤ, Bool, true, false, List, [], ◌∷◌, ◌++◌, map, Option, None, Some, Result, Ok, Err, IsErrAnd, refl, sym, ap, subst, ◌∙◌, append_assoc}
use Rattle.std.proofs.lemmas.Result.{err_from_is_err_and}
use Rattle.std.specs.Prelude.{is_ok, is_some, ◌||◌}
use Rattle.std.proofs.lemmas.List.Folds.{list_any-append}
use Rattle.nd_model.specs.Indexing.Advanced.{IndexItem, Basic, choose}
use Rattle.nd_model.specs.Cells.Fault.{Fault}
use Rattle.nd_model.specs.Cells.Refusing.{◌>>=◌}
use Rattle.nd_model.specs.Indexing.Selecting.{Item, At as AtItem, Slice as SliceItem}
use Rattle.nd_model.specs.Making.Operand.{Operand, ACopy}
use Rattle.nd_model.specs.Indexing.Index.{array_of, integer_of, bound_of, items_of, basic_items, has_array, choose_basic, choose_items}
use Rattle.nd_model.specs.Arrays.Value.{Base}
use Rattle.nd_model.specs.Arrays.View.{Geo}
use Rattle.nd_heap.specs.declared.value.Value.{Value}
use Rattle.nd_heap.specs.declared.value.Value.TheVariants.{Number, Array, Row}
use Rattle.nd_eval.specs.declared.choosing.indexes.ItemValue.{ItemValue}
use Rattle.nd_eval.specs.declared.choosing.indexes.ItemValue.TheVariants.{At, Slice, Ellipsis, NewAxis, Empty}
use Rattle.nd_eval.specs.declared.choosing.indexes.IndexValue.{IndexValue}
use Rattle.nd_eval.specs.declared.choosing.indexes.IndexValue.TheVariants.{Field, Items}
use Rattle.nd_eval.specs.declared.choosing.indexes.Chosen as chosen_value
use Rattle.nd_eval.specs.Choosing.Selections.{selected}
use Rattle.nd_operation.specs.declared.refusals.stop.Stop.{Stop}
use Rattle.nd_operation.specs.declared.refusals.stop.Stop.TheVariants.{Memory, Refused}
use Rattle.nd_operation.specs.Refusals.Ends.{Makes}
use Rattle.nd_operation.specs.Operators.Contents.{unused_of}
use Rattle.nd_operation.specs.Operators.New.{option_list}
use Rattle.nd_eval.specs.Choosing.Indexing.{forms_of, operands_in, operands_in_item, items_operands, bound_operands, bound_item, item_from, items_from, as_basic, item_over, items_over, refusal_in, basic_choice, elements_by, choice_by, chosen_of, index_operands, operands_of}

-- ---- items in turn

-- items behind others
abbrev pub behind : {A : Type 0} → List A → Result (List A) Fault → Result (List A) Fault
behind front rest = do
  is ← rest
  Ok (front ++ is)

-- one more item
pub one_more : {A : Type 0} (front : List A) (m : Result A Fault) (n : Result (List A) Fault) (i : A) → m ≡ Ok i → behind front (m >>= λ j. n >>= λ js. Ok (j ∷ js)) ≡ behind (front ++ i ∷ []) n
one_more {A} front m n i is = ap (λ m. behind front (m >>= λ j. n >>= λ js. Ok (j ∷ js))) is ∙ go n
  where
    go : (n : Result (List A) Fault) → behind front (n >>= λ js. Ok (i ∷ js)) ≡ behind (front ++ i ∷ []) n
    go (Ok js) = ap Ok (sym (append_assoc front (i ∷ []) js))
    go (Err f) = refl

-- or it is refused
pub one_refused : {A : Type 0} (front : List A) (m : Result A Fault) (n : Result (List A) Fault) (f : Fault) → m ≡ Err f → behind front (m >>= λ j. n >>= λ js. Ok (j ∷ js)) ≡ Err f
one_refused front m n f is = ap (λ m. behind front (m >>= λ j. n >>= λ js. Ok (j ∷ js))) is

-- ---- the operands of a slice

bound_is : {B : Type 0} (o : Option Value) (os : List Operand) (k : Option ℤ × List Operand → Result B Fault) → (bound_of (is_some o) (bound_operands o ++ os) >>= k) ≡ (bound_item o >>= λ z. k (z, os))
bound_is None os k = refl
bound_is {B} (Some v) os k = go (integer_of (unused_of v))
  where
    go : (m : Result ℤ Fault) → ((m >>= λ z. Ok (Some z, os)) >>= k) ≡ ((m >>= λ z. Ok (Some z)) >>= λ z. k (z, os))
    go (Ok z) = refl
    go (Err f) = refl

spread : (a b c : Option Value) (rest : List Operand) → map unused_of (option_list a ++ option_list b ++ option_list c) ++ rest ≡ bound_operands a ++ (bound_operands b ++ (bound_operands c ++ rest))
spread None None None rest = refl
spread None None (Some c) rest = refl
spread None (Some b) None rest = refl
spread None (Some b) (Some c) rest = refl
spread (Some a) None None rest = refl
spread (Some a) None (Some c) rest = refl
spread (Some a) (Some b) None rest = refl
spread (Some a) (Some b) (Some c) rest = refl

then_others : (p q r : Result (Option ℤ) Fault) (n : Result (List IndexItem) Fault)
    → (p >>= λ a. q >>= λ b. r >>= λ c. n >>= λ is. Ok (Basic (SliceItem a b c) ∷ is)) ≡ (as_basic (p >>= λ a. q >>= λ b. r >>= λ c. Ok (SliceItem a b c)) >>= λ i. n >>= λ is. Ok (i ∷ is))
then_others (Ok a) (Ok b) (Ok c) n = refl
then_others (Ok a) (Ok b) (Err f) n = refl
then_others (Ok a) (Err f) r n = refl
then_others (Err f) q r n = refl

-- ---- all items

module _ (bytes : Base → List ℕ) where
  first_item : (x : ItemValue) (xs : List ItemValue)
      → items_of (forms_of (x ∷ xs)) (items_operands bytes (x ∷ xs)) ≡ (item_over bytes x >>= λ i. items_of (forms_of xs) (items_operands bytes xs) >>= λ is. Ok (i ∷ is))
  first_item (At v) xs = refl
  first_item (Slice a b c) xs =
      let rest : List Operand = items_operands bytes xs in
      let others : Result (List IndexItem) Fault = items_of (forms_of xs) rest in
      ap (items_of (forms_of (Slice a b c ∷ xs))) (spread a b c rest)
      ∙ bound_is a (bound_operands b ++ (bound_operands c ++ rest)) (λ x. bound_of (is_some b) x.1 >>= λ y. bound_of (is_some c) y.1 >>= λ z. items_of (forms_of xs) z.1 >>= λ is. Ok (Basic (SliceItem x.0 y.0 z.0) ∷ is))
      ∙ ap (λ k. bound_item a >>= k) (λ i x. bound_is b (bound_operands c ++ rest) (λ y. bound_of (is_some c) y.1 >>= λ z. items_of (forms_of xs) z.1 >>= λ is. Ok (Basic (SliceItem x y.0 z.0) ∷ is)) i)
      ∙ ap (λ k. bound_item a >>= k) (λ i x. bound_item b >>= λ y. bound_is c rest (λ z. items_of (forms_of xs) z.1 >>= λ is. Ok (Basic (SliceItem x y z.0) ∷ is)) i)
      ∙ then_others (bound_item a) (bound_item b) (bound_item c) others
  first_item Ellipsis xs = refl
  first_item NewAxis xs = refl
  first_item Empty xs = refl

  pub items_are : (xs : List ItemValue) → items_of (forms_of xs) (items_operands bytes xs) ≡ items_over bytes xs
  items_are [] = refl
  items_are (x ∷ xs) = first_item x xs ∙ ap (λ n. item_over bytes x >>= λ i. n >>= λ is. Ok (i ∷ is)) (items_are xs)

  -- ---- the first one that is none

  refusal_is : {A : Type 0} (m : Result A Fault) (f : Fault) → refusal_in m ≡ Some f → m ≡ Err f
  refusal_is (Ok x) f h = absurd (cc)
  refusal_is (Err e) f h = cc

  pub refused_items : (xs : List ItemValue) (g : Geo) (f : Fault) → refusal_in (items_over bytes xs) ≡ Some f → choice_by bytes xs g ≡ Err f
  refused_items xs g f h = ap (λ m. m >>= λ is. choose_items (has_array (items_operands bytes xs)) is g) (items_are xs ∙ refusal_is (items_over bytes xs) f h)

  pub next_taken : (x : ItemValue) (xs : List ItemValue) (i : IndexItem) → item_over bytes x ≡ Ok i → refusal_in (items_over bytes (x ∷ xs)) ≡ refusal_in (items_over bytes xs)
  next_taken x xs i h = ap (λ m. refusal_in (m >>= λ i. items_over bytes xs >>= λ is. Ok (i ∷ is))) h ∙ same (items_over bytes xs)
    where
      same : (m : Result (List IndexItem) Fault) → refusal_in (m >>= λ is. Ok (i ∷ is)) ≡ refusal_in m
      same (Ok is) = refl
      same (Err f) = refl

  pub next_refused : (x : ItemValue) (xs : List ItemValue) (f : Fault) → item_over bytes x ≡ Err f → refusal_in (items_over bytes (x ∷ xs)) ≡ Some f
  next_refused x xs f h = ap (λ m. refusal_in (m >>= λ i. items_over bytes xs >>= λ is. Ok (i ∷ is))) h

  -- ---- arrays among them

  same_any : (front a b : List Operand) → has_array a ≡ has_array b → has_array (front ++ a) ≡ has_array (front ++ b)
  same_any [] a b h = h
  same_any (o ∷ front) a b h = ap (λ t. is_ok (array_of o) || t) (same_any front a b h)

  pub same_arrays : (xs : List ItemValue) → has_array (items_operands bytes xs) ≡ has_array (operands_in xs)
  same_arrays [] = refl
  same_arrays (At (Number n) ∷ xs) = same_arrays xs
  same_arrays (At (Array a) ∷ xs) = refl
  same_arrays (At (Row a) ∷ xs) = same_arrays xs
  same_arrays (Slice a b c ∷ xs) = same_any (operands_in_item (Slice a b c)) (items_operands bytes xs) (operands_in xs) (same_arrays xs)
  same_arrays (Ellipsis ∷ xs) = same_arrays xs
  same_arrays (NewAxis ∷ xs) = same_arrays xs
  same_arrays (Empty ∷ xs) = same_arrays xs

  -- ---- an index without arrays

  as_number : (m : Result ℤ Fault) → (m >>= λ z. Ok (Basic (AtItem z))) ≡ as_basic (m >>= λ z. Ok (AtItem z))
  as_number (Ok z) = refl
  as_number (Err f) = refl

  item_is_basic : (x : ItemValue) → has_array (operands_in_item x) ≡ false → item_over bytes x ≡ as_basic (item_from x)
  item_is_basic (At (Number n)) h = as_number (integer_of (unused_of (Number n)))
  item_is_basic (At (Array a)) h = absurd (cc)
  item_is_basic (At (Row a)) h = refl
  item_is_basic (Slice a b c) h = refl
  item_is_basic Ellipsis h = refl
  item_is_basic NewAxis h = refl
  item_is_basic Empty h = refl

  in_turn : (m : Result Item Fault) (n : Result (List Item) Fault) → (as_basic m >>= λ i. (n >>= λ is. Ok (map Basic is)) >>= λ is. Ok (i ∷ is)) ≡ ((m >>= λ i. n >>= λ is. Ok (i ∷ is)) >>= λ is. Ok (map Basic is))
  in_turn (Ok i) (Ok is) = refl
  in_turn (Ok i) (Err f) = refl
  in_turn (Err f) n = refl

  neither : (a b : Bool) → (a || b) ≡ false → (a ≡ false) × (b ≡ false)
  neither true b h = absurd (cc)
  neither false b h = (refl, h)

  items_are_basic : (xs : List ItemValue) → has_array (operands_in xs) ≡ false → items_over bytes xs ≡ (items_from xs >>= λ is. Ok (map Basic is))
  items_are_basic [] h = refl
  items_are_basic (x ∷ xs) h =
      let parts = neither (has_array (operands_in_item x)) (has_array (operands_in xs)) (sym (list_any-append (λ o. is_ok (array_of o)) (operands_in_item x) (operands_in xs)) ∙ h) in
      ap (λ m. m >>= λ i. items_over bytes xs >>= λ is. Ok (i ∷ is)) (item_is_basic x parts.0)
      ∙ ap (λ n. as_basic (item_from x) >>= λ i. n >>= λ is. Ok (i ∷ is)) (items_are_basic xs parts.1)
      ∙ in_turn (item_from x) (items_from xs)

  basic_again : (is : List Item) → basic_items (map Basic is) ≡ is
  basic_again [] = refl
  basic_again (i ∷ is) = ap (λ l. i ∷ l) (basic_again is)

  pub chooses_basic : (xs : List ItemValue) (g : Geo) → has_array (operands_in xs) ≡ false → choice_by bytes xs g ≡ basic_choice xs g
  chooses_basic xs g h =
      ap (λ t. items_of (forms_of xs) (items_operands bytes xs) >>= λ is. choose_items t is g) (same_arrays xs ∙ h)
      ∙ ap (λ m. m >>= λ is. choose_items false is g) (items_are xs ∙ items_are_basic xs h)
      ∙ go (items_from xs)
    where
      go : (m : Result (List Item) Fault) → ((m >>= λ is. Ok (map Basic is)) >>= λ is. choose_items false is g) ≡ (m >>= λ is. choose_basic is g)
      go (Ok is) = ap (λ is. choose_basic is g) (basic_again is)
      go (Err f) = refl

  -- ---- an index with arrays

  pub chooses_elements : (xs : List ItemValue) (g : Geo) → has_array (operands_in xs) ≡ true → choice_by bytes xs g ≡ (elements_by bytes xs g >>= λ h. Ok (ACopy h))
  chooses_elements xs g h =
      ap (λ t. items_of (forms_of xs) (items_operands bytes xs) >>= λ is. choose_items t is g) (same_arrays xs ∙ h)
      ∙ ap (λ m. m >>= λ is. choose_items true is g) (items_are xs)
      ∙ go (items_over bytes xs)
    where
      go : (m : Result (List IndexItem) Fault) → (m >>= λ is. choose_items true is g) ≡ ((m >>= λ is. choose is g) >>= λ h. Ok (ACopy h))
      go (Ok is) = refl
      go (Err f) = refl

-- nothing is copied of what is refused
pub copy_stops : (bytes : Base → List ℕ) (xs : List ItemValue) (g : Geo) → has_array (operands_in xs) ≡ true → (e : Stop) (o : Result chosen_value.Chosen Stop) → IsErrAnd o (λ x. x ≡ e)
    → Makes selected (Err e) (elements_by bytes xs g) → Makes chosen_of o (choice_by bytes xs g)
copy_stops bytes xs g h e o is made =
    let p : (x : Stop) × (o ≡ Err x) × (x ≡ e) = err_from_is_err_and o is in
    subst (λ o. Makes chosen_of o (choice_by bytes xs g)) (sym (p.1 ∙ ap Err p.2)) (at e made)
  where
    at : (e : Stop) → Makes selected (Err e) (elements_by bytes xs g) → Makes chosen_of (Err e) (choice_by bytes xs g)
    at (Memory m) made = tt
    at (Refused f) made = chooses_elements bytes xs g h ∙ ap (λ m. m >>= λ h. Ok (ACopy h)) made

pub same_index_arrays : (bytes : Base → List ℕ) (x : IndexValue) → has_array (index_operands bytes x) ≡ has_array (operands_of x)
same_index_arrays bytes (Field name) = refl
same_index_arrays bytes (Items xs) = same_arrays bytes xs.items
