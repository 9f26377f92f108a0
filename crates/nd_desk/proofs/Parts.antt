-- What items choose of elements in a block is the part of what is shown of these elements.
use Rattle.std.proofs.Common.{◌≡◌, ℕ, zero, suc, ◌+◌, ◌*◌, ◌<◌, ◌≤◌, Bool, true, false, List, [], ◌∷◌, ◌++◌, map, length, get_or, take, drop, Option, Some, None, Result, Ok, Err, refl, sym, ap, ap₂, ◌∙◌, arith, append-nil}
use Rattle.std.specs.Prelude.{nat_lt, nat_le, not}
use Rattle.std.specs.List.{All, flat_map, list_all, list_any}
use Rattle.std.proofs.Math.Seq.{take-append_seam, drop-append-add}
use Rattle.std.proofs.lemmas.Bool.Decides.{nat_tests}
use Rattle.std.proofs.lemmas.List.{get_or-map}
use Rattle.std.proofs.lemmas.List.Elements.{All-head, All-tail, All-weaker}
use Rattle.nd_model.specs.Arrays.Element.{Element, IsValue, size_of, bytes_at, value_of, bytes_of}
use Rattle.nd_model.specs.Arrays.Tuple.{count_up, elements_of, indices, number}
use Rattle.nd_model.specs.Arrays.View.{ElementType, One, Structure, Geo, item_size, contiguous, place_of, rearranged_view}
use Rattle.nd_model.specs.Arrays.Content.{number_at}
use Rattle.nd_model.specs.Arrays.Strides.{limit_fault}
use Rattle.nd_model.specs.Arrays.Broadcast.{unless_fault}
use Rattle.nd_model.specs.Cells.Fault.{Fault, ViewFault, IndexFault, Index, TwoEllipses, TooManyIndices, ZeroStep}
use Rattle.nd_model.specs.Cells.Refusing.{when}
use Rattle.nd_model.specs.Indexing.Selecting.{Item, items_for, picks_of, picked_shape, picked_view, source, first_outside, unless_outside, axes_in, ellipses_in, has_zero_step, select}
use Rattle.nd_model.specs.Indexing.Index.{choice_of, is_number}
use Rattle.nd_model.specs.Book.Renaming.{Shown, ShownArray, ShownScalar, ShownRow}
use Rattle.nd_model.proofs.Contents.{number_bytes}
use Rattle.nd_model.proofs.Selected.{AreFit, picks_fit, filled_whole, outside_ok, source_tuple}
use Rattle.nd_model.proofs.Tuples.{IsTuple, all_tuples, number_below, length-count_up}
use Rattle.nd_model.proofs.Values.{round_trip}
use Rattle.nd_element.specs.Elements.{canonical_at, canonical_bytes}
use Rattle.nd_view.proofs.Tuples.{get_or-count_up}
use Rattle.nd_commands.proofs.Shown.{length-canonical}
use Rattle.nd_desk.specs.Chosen.{shown_in}
use Rattle.nd_desk.specs.Parts.{elements_at, shown_choice, part_of}

-- ---- elements one after the other

chunk : (F : ℕ → List ℕ) (size : ℕ) → ((p : ℕ) → length (F p) ≡ size) → (ps : List ℕ) (n : ℕ) → n < length ps → bytes_at (flat_map F ps) (n * size) size ≡ F (get_or ps n 0)
chunk F size sized [] n lt = absurd (omega arith)
chunk F size sized (p ∷ ps) zero lt =
    let e : zero * size ≡ 0 = omega arith in
    ap (λ k. take size (drop k (F p ++ flat_map F ps))) e ∙ ap (λ k. take k (F p ++ flat_map F ps)) (sym (sized p)) ∙ take-append_seam (F p) (flat_map F ps)
chunk F size sized (p ∷ ps) (suc n) lt =
    let e : suc n * size ≡ length (F p) + n * size = omega (arith, sized p) in
    ap (λ k. take size (drop k (F p ++ flat_map F ps))) e ∙ ap (take size) (drop-append-add (F p) (flat_map F ps) (n * size)) ∙ chunk F size sized ps n (omega arith)

-- where element n of an array without gaps begins
evenly : (t : ElementType) (shape : List ℕ) (n : ℕ) → n < elements_of shape → get_or (contiguous t shape).places n 0 ≡ n * item_size t
evenly t shape n lt =
    let at : get_or (count_up 0 (elements_of shape)) n 0 ≡ n = get_or-count_up 0 (elements_of shape) n 0 lt ∙ omega arith in
    get_or-map (λ k. k * item_size t) (count_up 0 (elements_of shape)) n 0 0 (within (elements_of shape) n lt) ∙ ap (λ k. k * item_size t) at
  where
    within : (many n : ℕ) → n < many → n < length (count_up 0 many)
    within many n lt = omega (arith, length-count_up 0 many)

-- ---- the elements of a view in a block, and as they are shown

module _ (g : Geo) (block : List ℕ) (count : length g.places ≡ elements_of g.shape) where
  element_shown : (u : List ℕ) → IsTuple g.shape u
      → bytes_at (canonical_bytes g block) (place_of (contiguous g.element g.shape) u) (item_size g.element) ≡ canonical_at g.element block (place_of g u)
  element_shown u is =
      let below : number g.shape u < elements_of g.shape = number_below g.shape u is in
      ap (λ p. bytes_at (canonical_bytes g block) p (item_size g.element)) (evenly g.element g.shape (number g.shape u) below)
      ∙ chunk (canonical_at g.element block) (item_size g.element) (length-canonical g.element block) g.places (number g.shape u) (omega (arith, count, below))

  elements_shown : (from : List ℕ → List ℕ) (us : List (List ℕ)) → All (λ u. IsTuple g.shape (from u)) us
      → flat_map (λ p. bytes_at (canonical_bytes g block) p (item_size g.element)) (map (λ u. place_of (contiguous g.element g.shape) (from u)) us)
      ≡ flat_map (canonical_at g.element block) (map (λ u. place_of g (from u)) us)
  elements_shown from [] all = refl
  elements_shown from (u ∷ us) all =
      ap₂ (λ a b. a ++ b) (element_shown (from u) (All-head (λ w. IsTuple g.shape (from w)) u us all)) (elements_shown from us (All-tail (λ w. IsTuple g.shape (from w)) u us all))

-- the number of an element, which its shown bytes are worth
number_shown : (e : Element) (block shown : List ℕ) (p q : ℕ) → IsValue e.kind (number_at e block q) → bytes_at shown p (size_of e.kind) ≡ canonical_at (One e) block q
    → number_at e shown p ≡ number_at e block q
number_shown e block shown p q is same = ap (value_of e) (same ∙ number_bytes e (number_at e block q)) ∙ round_trip e (number_at e block q) is

-- ---- what is chosen of the view, and of what is shown

single : (t : ElementType) (block shown : List ℕ) (p q : ℕ) → ((e : Element) (r : ℕ) → IsValue e.kind (number_at e block r)) → bytes_at shown p (item_size t) ≡ canonical_at t block q
    → shown_choice shown (choice_of true [] (record { element = t; shape = []; writable = true; places = p ∷ [] }))
    ≡ shown_in block (choice_of true [] (record { element = t; shape = []; writable = true; places = q ∷ [] }))
single (One e) block shown p q valid same = ap (ShownScalar e.kind) (number_shown e block shown p q (valid e q) same)
single (Structure fields size) block shown p q valid same = ap (ShownRow (Structure fields size)) same

module _ (g : Geo) (block : List ℕ) (count : length g.places ≡ elements_of g.shape) (valid : (e : Element) (p : ℕ) → IsValue e.kind (number_at e block p)) where
  -- elements that are taken by their index tuples
  taken : (is_one : Bool) (shape : List ℕ) (from : List ℕ → List ℕ) → ((u : List ℕ) → IsTuple shape u → IsTuple g.shape (from u))
      → shown_choice (canonical_bytes g block) (choice_of is_one shape (rearranged_view (contiguous g.element g.shape) shape from)) ≡ shown_in block (choice_of is_one shape (rearranged_view g shape from))
  taken false shape from fits =
      ap (ShownArray g.element shape) (elements_shown g block count from (indices shape) (All-weaker (IsTuple shape) (λ u. IsTuple g.shape (from u)) fits (indices shape) (all_tuples shape)))
  taken true (n ∷ shape) from fits =
      ap (ShownArray g.element (n ∷ shape))
      (elements_shown g block count from (indices (n ∷ shape)) (All-weaker (IsTuple (n ∷ shape)) (λ u. IsTuple g.shape (from u)) fits (indices (n ∷ shape)) (all_tuples (n ∷ shape))))
  taken true [] from fits =
      single g.element block (canonical_bytes g block) (place_of (contiguous g.element g.shape) (from [])) (place_of g (from [])) valid (element_shown g block count (from []) (fits [] tt))

-- ---- the view that items select, and that of what is shown

-- both are refused alike, or are these
abbrev Alike : {A B : Type 0} → A → B → Result A Fault → Result B Fault → Type 0
Alike x y (Ok a) (Ok b) = (a ≡ x) × (b ≡ y)
Alike x y (Err f) (Err h) = f ≡ h
Alike x y (Ok a) (Err h) = ⊥
Alike x y (Err f) (Ok b) = ⊥

guarded : {A B : Type 0} (x : A) (y : B) (a b c : Bool) (f g h : Fault) (o : Option IndexFault) (l : Option ViewFault)
    → Alike x y (when a f (when b g (when c h (unless_outside o (unless_fault l (Ok x)))))) (when a f (when b g (when c h (unless_outside o (unless_fault l (Ok y))))))
guarded x y false b c f g h o l = refl
guarded x y true false c f g h o l = refl
guarded x y true true false f g h o l = refl
guarded x y true true true f g h (Some k) l = refl
guarded x y true true true f g h None (Some k) = refl
guarded x y true true true f g h None None = (refl, refl)

both_selected : (is : List Item) (g : Geo)
    → let qs = picks_of (items_for g.shape is) g.shape in
    Alike (picked_view g qs) (picked_view (contiguous g.element g.shape) qs) (select is g) (select is (contiguous g.element g.shape))
both_selected is g =
    let qs = picks_of (items_for g.shape is) g.shape in
    guarded (picked_view g qs) (picked_view (contiguous g.element g.shape) qs) (nat_lt (ellipses_in is) 2) (nat_le (axes_in is) (length g.shape)) (not (list_any has_zero_step is))
    (Index TwoEllipses) (Index TooManyIndices) (Index ZeroStep) (first_outside (items_for g.shape is) 0 g.shape) (limit_fault (item_size g.element) (picked_shape qs))

when_ok : {A : Type 0} (b : Bool) (f : Fault) (x : Result A Fault) (y : A) → when b f x ≡ Ok y → (b ≡ true) × (x ≡ Ok y)
when_ok true f x y e = (refl, e)
when_ok false f x y e = absurd (cc)

-- the picks of items that select a view
picks_are_fit : (is : List Item) (g h : Geo) → select is g ≡ Ok h → AreFit (picks_of (items_for g.shape is) g.shape) g.shape
picks_are_fit is g h e =
    let one = when_ok _ _ _ h e in
    let few = when_ok (nat_le (axes_in is) (length g.shape)) _ _ h one.1 in
    let stepped = when_ok _ _ _ h few.1 in
    let inside = outside_ok (first_outside (items_for g.shape is) 0 g.shape) _ h stepped.1 in
    picks_fit (items_for g.shape is) 0 g.shape (filled_whole g.shape is (below (axes_in is) (length g.shape) few.0)) inside.0
  where
    below : (m n : ℕ) → nat_le m n ≡ true → m ≤ n
    below m n e = grind (arith, nat_tests)

-- ---- the part

part_alike : (is : List Item) (shown : List ℕ) (g : Geo) (x y : Geo) (r s : Result Geo Fault) → Alike x y r s → select is g ≡ r → select is (contiguous g.element g.shape) ≡ s
    → (h : Geo) → r ≡ Ok h → (h ≡ x) × (part_of is (ShownArray g.element g.shape shown) ≡ Ok (shown_choice shown (choice_of (list_all is_number is) y.shape y)))
part_alike is shown g x y (Ok a) (Ok b) both er es h e =
    let same : a ≡ h = cc in
    (sym same ∙ both.0, rw es (ap (λ v. Ok (shown_choice shown (choice_of (list_all is_number is) v.shape v))) both.1))
part_alike is shown g x y (Err f) (Err k) both er es h e = absurd (cc)
part_alike is shown g x y (Ok a) (Err k) both er es h e = absurd both
part_alike is shown g x y (Err f) (Ok b) both er es h e = absurd both

refused_alike : (is : List Item) (shown : List ℕ) (g : Geo) (x y : Geo) (r s : Result Geo Fault) → Alike x y r s → select is (contiguous g.element g.shape) ≡ s
    → (f : Fault) → r ≡ Err f → part_of is (ShownArray g.element g.shape shown) ≡ Err f
refused_alike is shown g x y (Err f) (Err k) both es h e = let same : k ≡ h = cc in rw (es, same) refl
refused_alike is shown g x y (Ok a) (Ok b) both es h e = absurd (cc)
refused_alike is shown g x y (Ok a) (Err k) both es h e = absurd both
refused_alike is shown g x y (Err f) (Ok b) both es h e = absurd both

-- WHAT ITEMS CHOOSE of a view is the part that they choose of what is shown of it
pub chosen_part : (is : List Item) (g : Geo) (block : List ℕ) (h : Geo) → length g.places ≡ elements_of g.shape → ((e : Element) (p : ℕ) → IsValue e.kind (number_at e block p)) → select is g ≡ Ok h
    → part_of is (ShownArray g.element g.shape (canonical_bytes g block)) ≡ Ok (shown_in block (choice_of (list_all is_number is) h.shape h))
chosen_part is g block h count valid e =
    let qs = picks_of (items_for g.shape is) g.shape in
    let x = picked_view g qs in
    let y = picked_view (contiguous g.element g.shape) qs in
    let parts = part_alike is (canonical_bytes g block) g x y (select is g) (select is (contiguous g.element g.shape)) (both_selected is g) refl refl h e in
    let fit = picks_are_fit is g h e in
    parts.1
    ∙ ap Ok (taken g block count valid (list_all is_number is) (picked_shape qs) (source qs) (λ u is. source_tuple qs g.shape u fit is))
    ∙ ap (λ v. Ok (shown_in block (choice_of (list_all is_number is) v.shape v))) (sym parts.0)

-- and what refuses them there refuses them here
pub refused_part : (is : List Item) (g : Geo) (block : List ℕ) (f : Fault) → select is g ≡ Err f → part_of is (ShownArray g.element g.shape (canonical_bytes g block)) ≡ Err f
refused_part is g block f e =
    let qs = picks_of (items_for g.shape is) g.shape in
    refused_alike is (canonical_bytes g block) g (picked_view g qs) (picked_view (contiguous g.element g.shape) qs) (select is g) (select is (contiguous g.element g.shape)) (both_selected is g) refl f e
