-- Values that are numbers, one after the other, and the shapes of lists.
use Rattle.std.proofs.Common.{◌≡◌, ℕ, ◌+◌, ◌*◌, ◌<◌, ℤ, get_or, take, add-one, Bool, true, false, ◌&&◌, List, [], ◌∷◌, ◌++◌, length, map, Option, None, Some, Result, Ok, Err, Vec, Global, refl, sym, ap, ap₂, ◌∙◌, arith}
use Rattle.std.specs.Prelude.{◌==◌}
use Rattle.std.specs.List.{list_all}
use Rattle.std.proofs.lemmas.Bool.{eqb-true, eq-eqb, false≢true}
use Rattle.std.proofs.Math.Seq.{take-suc}
use Rattle.std.proofs.lemmas.List.{length-map, map-append}
use Rattle.nd_model.specs.Arrays.Element as arrays
use Rattle.nd_model.specs.Arrays.Element.{Kind, size_of, wrap}
use Rattle.nd_model.specs.Arrays.Content as content
use Rattle.nd_model.specs.Arrays.Tuple.{count_up, elements_of}
use Rattle.nd_model.specs.Arrays.View.{ElementType, One, item_size, contiguous}
use Rattle.nd_model.specs.Arrays.Strides.{limit_fault}
use Rattle.nd_model.specs.Arrays.Broadcast.{unless_fault}
use Rattle.nd_model.specs.Grammar.Calls.{DType}
use Rattle.nd_model.proofs.Tuples.{length-count_up}
use Rattle.nd_model.specs.Cells.Fault.{Fault, Stmt, BadArgument, RaggedList}
use Rattle.nd_model.specs.Cells.Refusing as refusing
use Rattle.nd_model.specs.Grammar.Syntax as syntax
use Rattle.nd_model.specs.Grammar.Syntax.{NoElement, AndElement, Single, Nested}
use Rattle.nd_model.specs.Grammar.Cells as cells
use Rattle.nd_model.specs.Making.Operand.{AnArray, Number, Operand, number_of}
use Rattle.nd_model.specs.Making.Creation.{element_count, shape_of_element, shape_of_first, has_shape, have_shape, even_shape, python_number, python_numbers, is_truth, misfit, first_misfit, converted_numbers, unless_misfit, element_for_list, array_of_numbers, array_of_list}
use Rattle.nd_types.specs.declared.num.Num.{Num}
use Rattle.nd_types.specs.declared.num.Num.TheVariants as num
use Rattle.nd_heap.specs.declared.value.Value.{Value}
use Rattle.nd_heap.specs.declared.value.Value.TheVariants as value
use Rattle.nd_syntax.specs.declared.trees.tree.Element.{Element}
use Rattle.nd_syntax.specs.declared.trees.tree.Element as element
use Rattle.nd_syntax.specs.Trees.Syntax.{element_of}
use Rattle.nd_syntax.proofs.trees.Chains.{nested_is}
use Rattle.nd_operation.specs.Operators.Contents.{num_of, unused_of}
use Rattle.nd_operation.proofs.operators.Creating.{over}
use Rattle.nd_operation.specs.Operators.Listing.{is_python, list_of, number_count, number_counts, number_in, numbers_in}

-- ---- Python numbers

abbrev pub are_python : List Value → Bool
are_python [] = true
are_python (v ∷ vs) = is_python v && are_python vs

python_one : (v : Value) → is_python v ≡ true → python_number (unused_of v) ≡ Ok (number_in v)
python_one (value.Number (num.Int z)) h = refl
python_one (value.Number (num.Bool t)) h = refl
python_one (value.Number (num.Scalar k z)) h = absurd cc
python_one (value.Array a) h = absurd cc
python_one (value.Row a) h = absurd cc

python_none : (v : Value) → is_python v ≡ false → python_number (unused_of v) ≡ Err (Stmt BadArgument)
python_none (value.Number (num.Int z)) h = absurd cc
python_none (value.Number (num.Bool t)) h = absurd cc
python_none (value.Number (num.Scalar k z)) h = refl
python_none (value.Array a) h = refl
python_none (value.Row a) h = refl

abbrev after : Result Number Fault → Result (List Number) Fault → Result (List Number) Fault
after n rest = refusing.◌>>=◌ n (λ n. refusing.◌>>=◌ rest (λ ns. Ok (n ∷ ns)))

pub all_python : (vs : List Value) → are_python vs ≡ true → python_numbers (map unused_of vs) ≡ Ok (numbers_in vs)
all_python [] h = refl
all_python (v ∷ vs) h = at (is_python v) (are_python vs) refl (all_python vs) h
  where
    at : (a b : Bool) → is_python v ≡ a → (b ≡ true → python_numbers (map unused_of vs) ≡ Ok (numbers_in vs)) → (a && b) ≡ true
        → after (python_number (unused_of v)) (python_numbers (map unused_of vs)) ≡ Ok (numbers_in (v ∷ vs))
    at true true x rest h = rw (python_one v x, rest refl) refl
    at true false x rest h = absurd cc
    at false b x rest h = absurd cc

pub some_not_python : (vs : List Value) → are_python vs ≡ false → python_numbers (map unused_of vs) ≡ Err (Stmt BadArgument)
some_not_python [] h = absurd cc
some_not_python (v ∷ vs) h = at (is_python v) (are_python vs) refl (some_not_python vs) h
  where
    at : (a b : Bool) → is_python v ≡ a → (b ≡ false → python_numbers (map unused_of vs) ≡ Err (Stmt BadArgument)) → (a && b) ≡ false
        → after (python_number (unused_of v)) (python_numbers (map unused_of vs)) ≡ Err (Stmt BadArgument)
    at true true x rest h = absurd cc
    at true false x rest h = rw (python_one v x, rest refl) refl
    at false b x rest h = rw (python_none v x) refl

-- what is no Python Boolean
pub not_truth : (n : Num) → ((t : Bool) → n ≡ num.Bool t → ⊥) → is_truth (num_of n) ≡ false
not_truth (num.Int z) h = refl
not_truth (num.Bool t) h = absurd (h t refl)
not_truth (num.Scalar k z) h = refl

-- ---- one value more

pub next_python : (all : List Value) (v : Value) (vs rest : List Value) → are_python all ≡ are_python vs → vs ≡ v ∷ rest → is_python v ≡ true → are_python all ≡ are_python rest
next_python all v vs rest same is h = same ∙ ap are_python is ∙ ap (λ b. b && are_python rest) h

pub no_python : (all : List Value) (v : Value) (vs rest : List Value) → are_python all ≡ are_python vs → vs ≡ v ∷ rest → is_python v ≡ false → are_python all ≡ false
no_python all v vs rest same is h = same ∙ ap are_python is ∙ ap (λ b. b && are_python rest) h

module _ (p : Number → Bool) (all : List Value) (v : Value) (vs rest : List Value) (same : list_all p (numbers_in all) ≡ list_all p (numbers_in vs)) (is : vs ≡ v ∷ rest) where
  pub next_holds : p (number_in v) ≡ true → list_all p (numbers_in all) ≡ list_all p (numbers_in rest)
  next_holds h = same ∙ ap (λ l. list_all p (numbers_in l)) is ∙ ap (λ b. b && list_all p (numbers_in rest)) h

  pub next_fails : p (number_in v) ≡ false → list_all p (numbers_in all) ≡ false
  next_fails h = same ∙ ap (λ l. list_all p (numbers_in l)) is ∙ ap (λ b. b && list_all p (numbers_in rest)) h

module _ (k : Kind) (all : List Value) (v : Value) (vs rest : List Value) (same : first_misfit k (numbers_in all) ≡ first_misfit k (numbers_in vs)) (is : vs ≡ v ∷ rest) where
  misfits : first_misfit k (numbers_in all) ≡ first_misfit k (numbers_in (v ∷ rest))
  misfits = same ∙ ap (λ l. first_misfit k (numbers_in l)) is

  pub next_fits : misfit k (number_in v) ≡ None → first_misfit k (numbers_in all) ≡ first_misfit k (numbers_in rest)
  next_fits h = misfits ∙ (rw h refl)

  pub found_misfit : (z : _) → misfit k (number_in v) ≡ Some z → first_misfit k (numbers_in all) ≡ Some z
  found_misfit z h = misfits ∙ (rw h refl)

-- ---- shapes

as_many : (xs : List syntax.Element) → element_count (cells.elements_of xs) ≡ length xs
as_many [] = refl
as_many (x ∷ xs) = omega (arith, as_many xs)

not_equal : (a b : ℕ) → (a ≡ b → ⊥) → (a == b) ≡ false
not_equal a b differ = at (a == b) refl
  where
    at : (t : Bool) → (a == b) ≡ t → t ≡ false
    at true h = absurd (differ (eqb-true a b h))
    at false h = refl

both : (a b : Bool) → (a && b) ≡ true → (a ≡ true) × (b ≡ true)
both true true h = (refl, refl)
both true false h = absurd cc
both false b h = absurd cc

-- a list with a shape has as many numbers as the shape has elements
mutual
  pub count_is : (shape : List ℕ) (x : syntax.Element) → has_shape shape x ≡ true → number_count x ≡ elements_of shape
  count_is [] (Single e) h = refl
  count_is [] (Nested es) h = absurd cc
  count_is (n ∷ shape) (Single e) h = absurd cc
  count_is (n ∷ shape) (Nested es) h =
      let parts = both (element_count es == n) (have_shape shape es) h in
      counts_are shape es parts.1 ∙ ap (λ m. m * elements_of shape) (eqb-true (element_count es) n parts.0)

  pub counts_are : (shape : List ℕ) (es : syntax.Elements) → have_shape shape es ≡ true → number_counts es ≡ element_count es * elements_of shape
  counts_are shape NoElement h = omega arith
  counts_are shape (AndElement e es) h =
      let parts = both (has_shape shape e) (have_shape shape es) h in
      omega (arith, count_is shape e parts.0, counts_are shape es parts.1)

-- what is even has its shape
pub even_has : (x : syntax.Element) (shape : List ℕ) → even_shape x ≡ Ok shape → has_shape shape x ≡ true
even_has x shape h = at (has_shape (shape_of_element x) x) refl h
  where
    at : (b : Bool) → has_shape (shape_of_element x) x ≡ b → refusing.when b (Stmt RaggedList) (Ok (shape_of_element x)) ≡ Ok shape → has_shape shape x ≡ true
    at true is h = (let same : shape_of_element x ≡ shape = cc in ap (λ s. has_shape s x) (sym same)) ∙ is
    at false is h = absurd cc

-- ---- lists of the code's tree

abbrev elements_in : List Element → syntax.Elements
elements_in xs = cells.elements_of (map element_of xs)

list_count : (xs : List Element) → element_count (elements_in xs) ≡ length xs
list_count xs = as_many (map element_of xs) ∙ length-map xs element_of

lengths_are : (xs : List Element) → shape_of_element (list_of xs) ≡ length xs ∷ shape_of_first (elements_in xs)
lengths_are xs = ap (λ n. n ∷ shape_of_first (elements_in xs)) (list_count xs)

first_none : (xs : List Element) → length xs ≡ 0 → shape_of_first (elements_in xs) ≡ []
first_none [] h = refl
first_none (x ∷ xs) h = absurd (omega (arith, h))

no_lengths : (xs : List Element) → length xs ≡ 0 → shape_of_element (list_of xs) ≡ length xs ∷ []
no_lengths xs none = lengths_are xs ∙ ap (λ l. length xs ∷ l) (first_none xs none)

module _ (xs : List Element) (first : Element) (rest : List Element) (some : xs ≡ first ∷ rest) where
  some_lengths : shape_of_element (list_of xs) ≡ length xs ∷ shape_of_element (element_of first)
  some_lengths = lengths_are xs ∙ ap (λ l. length xs ∷ shape_of_first (elements_in l)) some

  pub one_length : (e : _) → first ≡ element.Single e → shape_of_element (list_of xs) ≡ length xs ∷ []
  one_length e is = some_lengths ∙ ap (λ x. length xs ∷ shape_of_element (element_of x)) is

  pub nested_lengths : (es : Vec Element Global) → first ≡ element.Nested es → shape_of_element (list_of xs) ≡ length xs ∷ shape_of_element (list_of es.items)
  nested_lengths es is = some_lengths ∙ ap (λ x. length xs ∷ shape_of_element (element_of x)) is ∙ ap (λ x. length xs ∷ shape_of_element x) (nested_is es)

-- a list within another one
module _ (x : Element) (es : Vec Element Global) (is : x ≡ element.Nested es) (xs : List Element) (same : xs ≡ es.items) where
  pub nested_elements : list_of xs ≡ element_of x
  nested_elements = ap list_of same ∙ sym (ap element_of is ∙ nested_is es)

-- a list has the shape of an empty one where it is empty too
pub empty_shape : (others xs : List Element) → length others ≡ 0 → has_shape (shape_of_element (list_of others)) (list_of xs) ≡ (length xs == 0)
empty_shape others xs none = ap (λ l. has_shape l (list_of xs)) (no_lengths others none ∙ ap (λ n. n ∷ []) none) ∙ at xs
  where
    at : (xs : List Element) → ((element_count (elements_in xs) == 0) && have_shape [] (elements_in xs)) ≡ (length xs == 0)
    at [] = refl
    at (x ∷ xs) =
        ap (λ b. b && have_shape [] (elements_in (x ∷ xs))) (not_equal (element_count (elements_in (x ∷ xs))) 0 (λ e. omega arith))
        ∙ sym (not_equal (length (x ∷ xs)) 0 (λ e. omega arith))

module _ (others xs : List Element) where
  pub other_count : (length xs ≡ length others → ⊥) → has_shape (shape_of_element (list_of others)) (list_of xs) ≡ false
  other_count differ =
      ap (λ l. has_shape l (list_of xs)) (lengths_are others)
      ∙ ap (λ b. b && have_shape (shape_of_first (elements_in others)) (elements_in xs)) (not_equal (element_count (elements_in xs)) (length others) (λ same. differ (sym (list_count xs) ∙ same)))

  pub same_count : (first : Element) (rest : List Element) → others ≡ first ∷ rest → length xs ≡ length others
      → has_shape (shape_of_element (list_of others)) (list_of xs) ≡ have_shape (shape_of_element (element_of first)) (elements_in xs)
  same_count first rest some same =
      ap (λ l. has_shape l (list_of xs)) (some_lengths others first rest some)
      ∙ ap (λ b. b && have_shape (shape_of_element (element_of first)) (elements_in xs)) (eq-eqb (element_count (elements_in xs)) (length others) (list_count xs ∙ same))

module _ (lengths : List ℕ) (all : List Element) (x : Element) (xs rest : List Element)
    (same : have_shape lengths (elements_in all) ≡ have_shape lengths (elements_in xs)) (is : xs ≡ x ∷ rest) where
  one_shaped : have_shape lengths (elements_in all) ≡ (has_shape lengths (element_of x) && have_shape lengths (elements_in rest))
  one_shaped = same ∙ ap (λ l. have_shape lengths (elements_in l)) is

  pub next_shaped : has_shape lengths (element_of x) ≡ true → have_shape lengths (elements_in all) ≡ have_shape lengths (elements_in rest)
  next_shaped h = one_shaped ∙ ap (λ b. b && have_shape lengths (elements_in rest)) h

  pub not_shaped : has_shape lengths (element_of x) ≡ false → have_shape lengths (elements_in all) ≡ false
  not_shaped h = one_shaped ∙ ap (λ b. b && have_shape lengths (elements_in rest)) h

-- a product is 0 where its other factor is
some_product : (k m : ℕ) → ((k + 1) * m == 0) ≡ (m == 0)
some_product k m = at (m == 0) refl
  where
    at : (t : Bool) → (m == 0) ≡ t → ((k + 1) * m == 0) ≡ t
    at true h = eq-eqb ((k + 1) * m) 0 (ap (λ x. (k + 1) * x) (eqb-true m 0 h) ∙ omega arith)
    at false h = not_equal ((k + 1) * m) 0 (λ e. false≢true (sym h ∙ eq-eqb m 0 (omega arith)))

-- a list whose first element is a list has no element where that has none
pub first_is_empty : (xs : List Element) (first : Element) (rest : List Element) → xs ≡ first ∷ rest → length rest + 1 ≡ length xs
    → (es : Vec Element Global) → first ≡ element.Nested es
    → (elements_of (shape_of_element (list_of xs)) == 0) ≡ (elements_of (shape_of_element (list_of es.items)) == 0)
first_is_empty xs first rest some count es is =
    let deeper = shape_of_element (list_of es.items) in
    ap (λ l. elements_of l == 0) (nested_lengths xs first rest some es is ∙ ap (λ n. n ∷ deeper) (sym count)) ∙ some_product (length rest) (elements_of deeper)

-- a number more
pub number_more : (k : Kind) (vs : List Value) (i : ℕ) (v : Value) → i < length vs → v ≡ get_or vs i v → (before after : List ℤ) (z : ℤ)
    → map content.Num before ≡ converted_numbers k (numbers_in (take i vs)) → after ≡ before ++ z ∷ [] → z ≡ wrap k (number_of (number_in v))
    → map content.Num after ≡ converted_numbers k (numbers_in (take (i + 1) vs))
number_more k vs i v lt is before after z so_far pushed wrapped =
    ap (map content.Num) pushed ∙ map-append content.Num before (z ∷ [])
    ∙ ap₂ (λ a b. a ++ content.Num b ∷ []) so_far wrapped
    ∙ sym (map-append (λ n. content.Num (wrap k (number_of n))) (numbers_in (take i vs)) (number_in v ∷ []))
    ∙ ap (converted_numbers k) (sym (map-append number_in (take i vs) (v ∷ [])))
    ∙ ap (λ l. converted_numbers k (numbers_in l)) (sym (ap (λ n. take n vs) (add-one i) ∙ take-suc vs i v lt ∙ ap (λ y. take i vs ++ y ∷ []) (sym is)))

pub contiguous_count : (t : ElementType) (shape : List ℕ) → length (contiguous t shape).places ≡ elements_of shape
contiguous_count t shape = length-map (count_up 0 (elements_of shape)) (λ k. k * item_size t) ∙ length-count_up 0 (elements_of shape)

pub numbers_count : (k : Kind) (vs : List Value) (zs : List ℤ) → map content.Num zs ≡ converted_numbers k (numbers_in vs) → length zs ≡ length vs
numbers_count k vs zs same =
    sym (length-map zs content.Num) ∙ ap length same ∙ length-map (numbers_in vs) (λ n. content.Num (wrap k (number_of n))) ∙ length-map vs number_in

-- ---- a list over the limits of arrays

pub list_over : (x : syntax.Element) (d : Option DType) (os : List Operand) (ns : List Number) (shape : List ℕ) (e : arrays.Element) (f : Fault) → python_numbers os ≡ Ok ns → even_shape x ≡ Ok shape
    → element_for_list d ns ≡ Ok e → unless_fault (limit_fault (size_of e.kind) shape) (Ok (tt {0})) ≡ Err f → array_of_list x d os ≡ Err f
list_over x d os ns shape e f numbers even typed limits =
    ap (λ r. refusing.◌>>=◌ r (λ ns. refusing.◌>>=◌ (even_shape x) (λ shape. refusing.◌>>=◌ (element_for_list d ns) (λ e. array_of_numbers e shape ns)))) numbers
    ∙ ap (λ r. refusing.◌>>=◌ r (λ shape. refusing.◌>>=◌ (element_for_list d ns) (λ e. array_of_numbers e shape ns))) even
    ∙ ap (λ r. refusing.◌>>=◌ r (λ e. array_of_numbers e shape ns)) typed
    ∙ over (limit_fault (size_of e.kind) shape) (unless_misfit (first_misfit e.kind ns) (Ok (AnArray (One e) shape (content.content_in_order shape (converted_numbers e.kind ns))))) f limits
