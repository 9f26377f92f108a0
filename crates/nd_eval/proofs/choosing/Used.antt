-- The contents of an array among the items of an index, in any bytes.
use Rattle.std.proofs.Common.{◌≡◌, ℕ, ℤ, ◌+◌, ◌*◌, List, [], ◌∷◌, ◌++◌, map, length, take, drop, Some, refl, sym, ap, ap₂, subst, ◌∙◌, arith, length-append, append_assoc, append-nil}
use Rattle.std.specs.Prelude.{slice_index}
use Rattle.std.specs.List.{flat_map}
use Rattle.std.proofs.Math.Seq.{drop-append_seam, take-append_seam}
use Rattle.std.proofs.lemmas.List.{length-map, map-append}
use Rattle.nd_model.specs.Indexing.Advanced.{IndexItem, array_item, is_nonzero, kind_item}
use Rattle.nd_model.specs.Arrays.Content.{Content, Num, content_at, number_at, number_in}
use Rattle.nd_model.specs.Arrays.Element.{Element, Kind, Boolean, size_of, value_of, bytes_at}
use Rattle.nd_model.specs.Indexing.Selected.{HoldsAll}
use Rattle.nd_model.specs.Arrays.Tuple.{count_up, elements_of}
use Rattle.nd_model.specs.Arrays.View.{ElementType, One, Structure, Geo, element_places}
use Rattle.nd_model.proofs.Tuples.{length-count_up}
use Rattle.nd_operation.specs.Operators.Contents.{contents_over}
use Rattle.nd_model.specs.Cells.Sound.{LiesIn}
use Rattle.nd_assign.specs.HeldFields.{HoldsFields}
use Rattle.nd_operation.proofs.operators.Decoding.{numbers_are, structures_are, used_alone}

module _ (e : Element) (bytes : List ℕ) where
  abbrev size : ℕ
  size = size_of e.kind

  abbrev used : List ℕ → List ℕ
  used places = map (λ q. slice_index bytes q) (flat_map (element_places (One e)) places)

  abbrev one_used : ℕ → List ℕ
  one_used p = map (λ q. slice_index bytes q) (count_up p size)

  long_one : (p : ℕ) → length (one_used p) ≡ size
  long_one p = length-map (count_up p size) (λ q. slice_index bytes q) ∙ length-count_up p size

  -- a number of so many bytes, alone and among others
  alone : (p : ℕ) → value_of e (one_used p) ≡ number_at e bytes p
  alone p =
      let whole : take size (one_used p) ≡ one_used p = ap (λ n. take n (one_used p)) (sym (long_one p)) ∙ ap (take (length (one_used p))) (sym (append-nil (one_used p))) ∙ take-append_seam (one_used p) [] in
      sym (ap (value_of e) whole) ∙ used_alone e bytes p

  at_seam : (pre c rest : List ℕ) (q : ℕ) → length pre ≡ q → length c ≡ size → bytes_at (pre ++ (c ++ rest)) q size ≡ c
  at_seam pre c rest q long size_is =
      ap₂ (λ k n. take n (drop k (pre ++ (c ++ rest)))) (sym long) (sym size_is) ∙ ap (take (length c)) (drop-append_seam pre (c ++ rest)) ∙ take-append_seam c rest

  all_used : (places pre : List ℕ) (k : ℕ) → length pre ≡ k * size
      → map (λ j. content_at (One e) (pre ++ used places) (j * size)) (count_up k (length places)) ≡ map (content_at (One e) bytes) places
  all_used [] pre k long = refl
  all_used (p ∷ ps) pre k long =
      let c : List ℕ = one_used p in
      let split : used (p ∷ ps) ≡ c ++ used ps = map-append (λ q. slice_index bytes q) (count_up p size) (flat_map (element_places (One e)) ps) in
      let here : bytes_at (pre ++ (c ++ used ps)) (k * size) size ≡ c = at_seam pre c (used ps) (k * size) long (long_one p) in
      ap (λ l. map (λ j. content_at (One e) (pre ++ l) (j * size)) (k ∷ count_up (k + 1) (length ps))) split
      ∙ ap₂ (λ z l. z ∷ l) (ap (λ z. Num z) (ap (value_of e) here ∙ alone p))
      (ap (λ l. map (λ j. content_at (One e) l (j * size)) (count_up (k + 1) (length ps))) (sym (append_assoc pre c (used ps)))
      ∙ all_used ps (pre ++ c) (k + 1) (length-append pre c ∙ next (length pre) (length c) size k long (long_one p)))
    where
      next : (a b size k : ℕ) → a ≡ k * size → b ≡ size → a + b ≡ (k + 1) * size
      next a b size k e f = omega arith

-- the contents of numbers, also past the end of the bytes
numbers_used : (g : Geo) (e : Element) (bytes : List ℕ) → g.element ≡ One e → contents_over g bytes ≡ map (content_at (One e) bytes) g.places
numbers_used g e bytes one = rw one (all_used e bytes g.places [] 0 (omega arith))

-- an array as an item is the one of its contents
item_used : (t : ElementType) (g : Geo) (bytes : List ℕ) → g.element ≡ t → array_item t g.shape (contents_over g bytes) ≡ array_item t g.shape (map (content_at t bytes) g.places)
item_used (One e) g bytes is = ap (array_item (One e) g.shape) (numbers_used g e bytes is)
item_used (Structure fields wide) g bytes is = refl

pub array_item_used : (g : Geo) (bytes : List ℕ) → array_item g.element g.shape (contents_over g bytes) ≡ array_item g.element g.shape (map (content_at g.element bytes) g.places)
array_item_used g bytes = item_used g.element g bytes refl

-- it has all its contents
kind_holds : (k : Kind) (shape : List ℕ) (zs : List ℤ) → length zs ≡ elements_of shape → HoldsAll (kind_item k shape zs)
kind_holds Boolean shape zs count = length-map zs is_nonzero ∙ count
kind_holds k shape zs count = count

pub array_holds : (t : ElementType) (shape : List ℕ) (cs : List Content) (i : IndexItem) → length cs ≡ elements_of shape → Some i ≡ array_item t shape cs → HoldsAll i
array_holds (One e) [] cs i count is = absurd (cc)
array_holds (One e) (n ∷ shape) cs i count is =
    let same : i ≡ kind_item e.kind (n ∷ shape) (map number_in cs) = cc in
    subst HoldsAll (sym same) (kind_holds e.kind (n ∷ shape) (map number_in cs) (length-map cs number_in ∙ count))
array_holds (Structure fields wide) shape cs i count is = absurd (cc)

-- the contents of elements in their block
pub contents_held : (t : ElementType) (g : Geo) (block : List ℕ) → g.element ≡ t → HoldsFields t → LiesIn (length block) g → contents_over g block ≡ map (content_at g.element block) g.places
contents_held (One e) g block is holds lies = numbers_are g e block is lies
contents_held (Structure fields wide) g block is holds lies = structures_are g fields wide block is holds lies
