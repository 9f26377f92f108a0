-- One mask alone that stands for all axes.
use Rattle.std.proofs.Common.{◌≡◌, ℕ, ℤ, Bool, false, List, [], ◌∷◌, length, Result, Ok, Err, refl, ap, sym, ◌∙◌}
use Rattle.std.specs.Prelude.{◌==◌, ◌&&◌}
use Rattle.std.specs.Result.{result_unwrap_or}
use Rattle.nd_model.specs.Indexing.Advanced.{IndexItem, Basic, Numbers, Mask, array_item, kind_item}
use Rattle.nd_model.specs.Arrays.Content.{Content}
use Rattle.nd_model.specs.Arrays.Element.{Kind, Boolean}
use Rattle.nd_model.specs.Cells.Fault.{Fault, Index, NotAnIndex}
use Rattle.nd_model.specs.Indexing.Index.{integer_of, item_or, items_of}
use Rattle.nd_model.specs.Cells.Refusing.{◌>>=◌}
use Rattle.nd_model.specs.Indexing.Selecting as selecting
use Rattle.nd_model.specs.Arrays.Value.{Base}
use Rattle.nd_model.specs.Arrays.View.{ElementType, One, Structure}
use Rattle.nd_model.specs.Making.Writing.{is_full_mask}
use Rattle.nd_heap.specs.declared.value.Value.TheVariants.{Number, Array, Row}
use Rattle.nd_heap.specs.Values.{base_of, geo_of}
use Rattle.nd_operation.specs.Operators.Contents.{contents_over, unused_of}
use Rattle.nd_eval.specs.declared.choosing.indexes.ItemValue.{ItemValue}
use Rattle.nd_eval.specs.declared.choosing.indexes.ItemValue.TheVariants.{At, Slice, Ellipsis, NewAxis, Empty}
use Rattle.nd_eval.specs.Choosing.Indexing.{forms_of, item_from, item_over, items_over, items_operands, as_basic}
use Rattle.nd_eval.specs.Choosing.Targets.{is_boolean, is_lone_mask, mask_of}
use Rattle.nd_eval.proofs.choosing.Indexing.{items_are}

module _ (axes : ℕ) where
  abbrev full : Result (List IndexItem) Fault → Bool
  full m = is_full_mask axes (result_unwrap_or m [])

  of_kind : (k : Kind) (n : ℕ) (shape : List ℕ) (zs : List ℤ) → (is_boolean k && length (n ∷ shape) == axes) ≡ is_full_mask axes (kind_item k (n ∷ shape) zs ∷ [])
  of_kind Boolean n shape zs = refl
  of_kind k n shape zs = refl

  of_array : (t : ElementType) (shape : List ℕ) (cs : List Content) → mask_of axes t shape ≡ full (item_or (array_item t shape cs) (Index NotAnIndex) >>= λ i. Ok (i ∷ []))
  of_array (One e) [] cs = refl
  of_array (One e) (n ∷ shape) cs = of_kind e.kind n shape _
  of_array (Structure fields size) [] cs = refl
  of_array (Structure fields size) (n ∷ shape) cs = refl

  of_number : (m : Result ℤ Fault) → false ≡ full ((m >>= λ z. Ok (Basic (selecting.At z))) >>= λ i. Ok (i ∷ []))
  of_number (Ok z) = refl
  of_number (Err f) = refl

  of_slice : (m : Result selecting.Item Fault) → false ≡ full (as_basic m >>= λ i. Ok (i ∷ []))
  of_slice (Ok i) = refl
  of_slice (Err f) = refl

  of_two : (i j : IndexItem) (is : List IndexItem) → false ≡ is_full_mask axes (i ∷ j ∷ is)
  of_two (Basic i) j is = refl
  of_two (Numbers shape zs) j is = refl
  of_two (Mask shape bs) j is = refl

  of_more : (m n : Result IndexItem Fault) (o : Result (List IndexItem) Fault) → false ≡ full (m >>= λ i. (n >>= λ j. o >>= λ is. Ok (j ∷ is)) >>= λ is. Ok (i ∷ is))
  of_more (Ok i) (Ok j) (Ok is) = of_two i j is
  of_more (Ok i) (Ok j) (Err f) = refl
  of_more (Ok i) (Err f) o = refl
  of_more (Err f) n o = refl

  by_items : (bytes : Base → List ℕ) (xs : List ItemValue) → is_lone_mask axes xs ≡ full (items_over bytes xs)
  by_items bytes [] = refl
  by_items bytes (At (Number n) ∷ []) = of_number (integer_of (unused_of (Number n)))
  by_items bytes (At (Array a) ∷ []) = of_array (geo_of a).element (geo_of a).shape (contents_over (geo_of a) (bytes (base_of a.base)))
  by_items bytes (At (Row a) ∷ []) = refl
  by_items bytes (Slice a b c ∷ []) = of_slice (item_from (Slice a b c))
  by_items bytes (Ellipsis ∷ []) = refl
  by_items bytes (NewAxis ∷ []) = refl
  by_items bytes (Empty ∷ []) = refl
  by_items bytes (At (Number n) ∷ y ∷ xs) = of_more (item_over bytes (At (Number n))) (item_over bytes y) (items_over bytes xs)
  by_items bytes (At (Array a) ∷ y ∷ xs) = of_more (item_over bytes (At (Array a))) (item_over bytes y) (items_over bytes xs)
  by_items bytes (At (Row a) ∷ y ∷ xs) = of_more (item_over bytes (At (Row a))) (item_over bytes y) (items_over bytes xs)
  by_items bytes (Slice a b c ∷ y ∷ xs) = of_more (item_over bytes (Slice a b c)) (item_over bytes y) (items_over bytes xs)
  by_items bytes (Ellipsis ∷ y ∷ xs) = of_more (item_over bytes Ellipsis) (item_over bytes y) (items_over bytes xs)
  by_items bytes (NewAxis ∷ y ∷ xs) = of_more (item_over bytes NewAxis) (item_over bytes y) (items_over bytes xs)
  by_items bytes (Empty ∷ y ∷ xs) = of_more (item_over bytes Empty) (item_over bytes y) (items_over bytes xs)

  -- whether it is one is told by the array that the item is
  pub lone_mask_is : (bytes : Base → List ℕ) (xs : List ItemValue) → is_lone_mask axes xs ≡ full (items_of (forms_of xs) (items_operands bytes xs))
  lone_mask_is bytes xs = by_items bytes xs ∙ ap full (sym (items_are bytes xs))
