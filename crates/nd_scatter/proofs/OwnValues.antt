-- An array of numbers that is assigned to itself stays as it is.
use Rattle.std.proofs.Common.{◌≡◌, ℕ, ◌+◌, ◌-◌, ◌*◌, ◌<◌, ◌≤◌, true, List, ◌++◌, map, length, take, drop, get_or, refl, sym, ap, ◌∙◌, subst, arith}
use Rattle.std.specs.List.{All}
use Rattle.std.proofs.lemmas.List.{take-append-drop}
use Rattle.nd_model.specs.Making.Assigning.{fits_into, value_shape, without_ones}
use Rattle.nd_model.specs.Arrays.Broadcast.{own_tuple}
use Rattle.nd_model.specs.Arrays.Element.{Element, bytes_at, size_of, with_bytes}
use Rattle.nd_model.specs.Cells.Sound.{LiesIn}
use Rattle.nd_model.specs.Arrays.Tuple.{count_up, elements_of, indices, number}
use Rattle.nd_model.specs.Arrays.View.{ElementType, Geo, One, contiguous, item_size}
use Rattle.nd_block.proofs.Copied.{length-bytes_at}
use Rattle.nd_view.proofs.Indexed.{at_index, same_indexes}
use Rattle.nd_view.proofs.Tuples.{map-map, map_same, numbers}
use Rattle.nd_assign.specs.Assigned.{with_elements}
use Rattle.nd_assign.specs.Copies.{with_copies}
use Rattle.nd_assign.specs.HeldFields.{HoldsFields}
use Rattle.nd_view.specs.SideBySide.{side_by_side}
use Rattle.nd_assign.specs.Stretched.{value_places}
use Rattle.nd_assign.proofs.Assigned.{assigned}
use Rattle.nd_assign.proofs.Bytewise.{bytewise, end_held}
use Rattle.nd_index.proofs.advanced.Alike.{own_same}
use Rattle.nd_scatter.specs.OwnValues.{AreOwnValues}

-- ---- a value of the target's own shape

-- a contiguous value has its elements' places in its own shape
places_same : (v : Geo) (size : ℕ) → length v.places ≡ elements_of v.shape → v.places ≡ side_by_side size 0 (length v.places) → value_places v v.shape ≡ v.places
places_same v size count are =
    let shape = v.shape in
    let f : List ℕ → ℕ = λ t. 0 + number shape t * size in
    let none : length shape - length shape ≡ 0 = omega arith in
    let own : value_shape shape shape ≡ shape = ap (λ k. without_ones k shape) none in
    let led : v.places ≡ map f (indices shape)
    = are ∙ ap (side_by_side size 0) count ∙ ap (map (λ k. 0 + k * size)) (sym (numbers shape)) ∙ map-map (λ k. 0 + k * size) (number shape) (indices shape) in
    ap (λ s. map (λ t. get_or v.places (number s (own_tuple s t)) 0) (indices shape)) own
    ∙ same_indexes (λ t. get_or v.places (number shape (own_tuple shape t)) 0) f shape
    (λ t is. (λ i. get_or (led i) (number shape (own_same shape t is i)) 0) ∙ at_index f shape t 0 is)
    ∙ sym led

-- ---- bytes that are written where they were read

stay : (xs : List ℕ) (m : ℕ) → 0 + m ≤ length xs → with_bytes xs 0 (bytes_at xs 0 m) ≡ xs
stay xs m le =
    let here : 0 + length (bytes_at xs 0 m) ≡ m = omega (arith, length-bytes_at xs 0 m le) in
    ap (λ k. (take 0 xs ++ bytes_at xs 0 m) ++ drop k xs) here ∙ take-append-drop m xs

-- ---- the whole

module _ (g v : Geo) (own : AreOwnValues g v) where
  pub held_fields : HoldsFields g.element
  held_fields = subst HoldsFields (sym own.target) tt

  module _ (values : List ℕ) (lies : LiesIn (length values) v) where
    -- the values end in the block
    end : 0 + length v.places * size_of own.elem.kind ≤ length values
    end = end_held v.places (size_of own.elem.kind) 0 (length values) own.some own.places (subst (λ (t : ElementType). All (λ p. p + item_size t ≤ length values) v.places) own.source lies.inside)

    pub room : length v.places * item_size g.element ≤ length values
    room =
        let e : 0 + length v.places * size_of own.elem.kind ≡ length v.places * size_of own.elem.kind = omega arith in
        subst (λ (t : ElementType). length v.places * item_size t ≤ length values) (sym own.target) (subst (λ n. n ≤ length values) e end)

    pub many : length v.places ≡ elements_of g.shape
    many = lies.count ∙ ap elements_of own.shape

    pub own_values : All (λ b. b < 256) values → fits_into v.shape g.shape ≡ true → values ≡ with_elements (contiguous g.element g.shape) v values values
    own_values small shapes =
        let e : Element = own.elem in let size = size_of e.kind in let ps : List ℕ = v.places in
        let w : Geo = contiguous (One e) v.shape in
        let fits : fits_into v.shape v.shape ≡ true = ap (fits_into v.shape) own.shape ∙ shapes in
        let same : w.places ≡ ps
        = ap (λ n. map (λ k. k * size) (count_up 0 n)) (sym lies.count) ∙ map_same (λ k. k * size) (λ k. 0 + k * size) (λ k. omega arith) (count_up 0 (length ps)) ∙ sym own.places in
        let whole : with_elements w v values values ≡ values
        = sym (assigned w v values values fits lies.count)
        ∙ (λ i. with_copies (One e) (own.source i) values (same i) (places_same v size lies.count own.places i) values)
        ∙ bytewise e own.number values small ps ps 0 0 values refl own.places own.places end end
        ∙ stay values (length ps * size) end in
        sym ((λ i. with_elements (contiguous (own.target i) (sym own.shape i)) v values values) ∙ whole)
