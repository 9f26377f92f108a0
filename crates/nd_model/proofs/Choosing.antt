-- What is chosen of an array or a row lies where it lies: one lemma for each way to choose.
use Rattle.std.proofs.Common.{◌≡◌, ℕ, ◌+◌, ◌≤◌, Bool, true, false, ℤ, List, [], ◌∷◌, length, Option, Some, None, Result, Ok, refl, subst, arith}
use Rattle.std.specs.List.{list_all}
use Rattle.nd_model.specs.Arrays.Tuple.{elements_of}
use Rattle.nd_model.specs.Arrays.View.{Field, Geo, item_size}
use Rattle.nd_model.specs.Arrays.Content.{Content, content_or}
use Rattle.nd_model.specs.Cells.Fault.{Fault}
use Rattle.nd_model.specs.Making.Operand.{Operand, Elements, Chosen, AnElement, AView, ACopy, Stretched}
use Rattle.nd_model.specs.Indexing.Selecting.{Item, select, field_of, view_of_field}
use Rattle.nd_model.specs.Indexing.Advanced as advanced
use Rattle.nd_model.specs.Indexing.Advanced.{IndexItem}
use Rattle.nd_model.specs.Indexing.Index.{array_of, items_of, has_array, basic_items, is_number, choice_of, choose_basic, choose_items, choose_field}
use Rattle.nd_model.specs.Indexing.Viewing.{Viewing, Indexed, Fielded, Transposed, Reshaped, BroadcastTo, ViewedAs, choose}
use Rattle.nd_model.specs.Arrays.Types.{element_type}
use Rattle.nd_model.specs.Indexing.Transposing.{transpose, reversed_view}
use Rattle.nd_model.specs.Indexing.Reshaping as reshaping
use Rattle.nd_model.specs.Indexing.Stretching.{broadcast_to}
use Rattle.nd_model.specs.Indexing.Recasting.{view_as}
use Rattle.nd_model.specs.Making.Creation.{integers_of, lengths_of, without_axes, number_element}
use Rattle.nd_model.specs.Arrays.Strides.{limit_fault}
use Rattle.nd_model.specs.Arrays.Broadcast.{in_limits}
use Rattle.nd_model.specs.Indexing.ShapeChoices.{seen, ordered, bounded_lengths, reshaped_choice, stretch_operand}
use Rattle.nd_model.specs.Cells.Sound.{LiesIn}
use Rattle.nd_model.proofs.Taking.{IsWithin}
use Rattle.nd_model.proofs.Selected.{selected_lies}
use Rattle.nd_model.proofs.Fielded.{found_lies}
use Rattle.nd_model.proofs.Gathered.{bind_ok}
use Rattle.nd_model.proofs.Transposed.{transposed_lies, reversed_lies}
use Rattle.nd_model.proofs.Reshaped.{reshaped_within}
use Rattle.nd_model.proofs.Stretched.{stretched_lies, unless_ok}
use Rattle.nd_model.proofs.Recast.{recast_lies}

-- WHAT A CHOICE OWES: its places lie in the base
abbrev pub ChoosesWithin : ℕ → Chosen → Type 0
ChoosesWithin len (AnElement t p) = p + item_size t ≤ len
ChoosesWithin len (AView h) = IsWithin len h
ChoosesWithin len (ACopy h) = Unit {0}
ChoosesWithin len (Stretched t c shape) = Unit {0}

ok_same : {A : Type 0} (x y : A) → ◌≡◌ {A = Result A Fault} (Ok x) (Ok y) → x ≡ y
ok_same x y e = cc

-- a view without axes has an element
choice_within : (len : ℕ) (are_numbers : Bool) (shape : List ℕ) (h : Geo) → length h.places ≡ elements_of shape → LiesIn len h → ChoosesWithin len (choice_of are_numbers shape h)
choice_within len true [] h count lies = lies.inside 0 0 (omega (arith, count))
choice_within len true (n ∷ shape) h count lies = (lies.count, lies.inside)
choice_within len false shape h count lies = (lies.count, lies.inside)

basic_within : (len : ℕ) (g : Geo) (is : List Item) (x : Chosen) → LiesIn len g → choose_basic is g ≡ Ok x → ChoosesWithin len x
basic_within len g is x lies e =
    let found = bind_ok (select is g) (λ h. Ok (choice_of (list_all is_number is) h.shape h)) x e in
    let inside : LiesIn len found.0 = selected_lies is g found.0 len lies found.1 in
    subst (ChoosesWithin len) (ok_same _ x found.2) (choice_within len (list_all is_number is) found.0.shape found.0 inside.count inside)

-- a copy is made of what it holds
index_within : (len : ℕ) (g : Geo) (is_advanced : Bool) (is : List IndexItem) (x : Chosen) → LiesIn len g → choose_items is_advanced is g ≡ Ok x → ChoosesWithin len x
index_within len g false is x lies e = basic_within len g (basic_items is) x lies e
index_within len g true is x lies e =
    let found = bind_ok (advanced.choose is g) (λ h. Ok (ACopy h)) x e in
    subst (ChoosesWithin len) (ok_same _ x found.2) tt

field_within : (len : ℕ) (is_row : Bool) (g : Geo) (name : List ℕ) (o : Option Field) (x : Chosen) → LiesIn len g → ((f : Field) → o ≡ Some f → LiesIn len (view_of_field g f))
    → choose_field is_row g name o ≡ Ok x → ChoosesWithin len x
field_within len is_row g name None x lies inside e = absurd (cc)
field_within len is_row g name (Some f) x lies inside e =
    let h : LiesIn len (view_of_field g f) = inside f refl in
    subst (ChoosesWithin len) (ok_same _ x e) (choice_within len is_row g.shape (view_of_field g f) h.count h)

-- an array that is found is the one that is there
array_is : (is_row : Bool) (g h : Geo) (cs : List Content) → array_of (Elements is_row g cs) ≡ Ok h → g ≡ h
array_is true g h cs e = absurd (cc)
array_is false g h cs e = ok_same g h e

seen_within : (len : ℕ) (r : Result Geo Fault) (x : Chosen) → ((h : Geo) → r ≡ Ok h → LiesIn len h) → seen r ≡ Ok x → ChoosesWithin len x
seen_within len r x lies e =
    let found = bind_ok r (λ h. Ok (AView h)) x e in
    let inside : LiesIn len found.0 = lies found.0 found.1 in
    subst (ChoosesWithin len) (ok_same _ x found.2) (inside.count, inside.inside)

ordered_within : (len : ℕ) (zs : List ℤ) (g : Geo) (x : Chosen) → LiesIn len g → ordered zs g ≡ Ok x → ChoosesWithin len x
ordered_within len [] g x lies e =
    let inside : LiesIn len (reversed_view g) = reversed_lies g len lies in
    subst (ChoosesWithin len) (ok_same _ x e) (inside.count, inside.inside)
ordered_within len (z ∷ zs) g x lies e = seen_within len (transpose (z ∷ zs) g) x (λ h is. transposed_lies (z ∷ zs) g h len lies is) e

reshaped_choice_within : (len : ℕ) (zs : List ℤ) (g : Geo) (r : reshaping.Reshaped) → LiesIn len g → reshaping.reshape zs g ≡ Ok r → ChoosesWithin len (reshaped_choice g r)
reshaped_choice_within len zs g (reshaping.View h) lies e = reshaped_within zs g h len lies e
reshaped_choice_within len zs g (reshaping.Copy shape) lies e = tt

stretched_row_within : (len : ℕ) (g : Geo) (cs : List Content) (shape : List ℕ) (x : Chosen) → stretch_operand (Elements true g cs) shape ≡ Ok x → ChoosesWithin len x
stretched_row_within len g cs shape x e =
    let row = bind_ok (without_axes (Elements true g cs)) (λ _. in_limits g.element shape (Ok (Stretched g.element (content_or cs 0) shape))) x e in
    let found = unless_ok (limit_fault (item_size g.element) shape) _ x row.2 in
    subst (ChoosesWithin len) (ok_same _ x found.1) tt

stretched_within : (len : ℕ) (is_row : Bool) (g : Geo) (cs : List Content) (shape : List ℕ) (x : Chosen) → LiesIn len g → stretch_operand (Elements is_row g cs) shape ≡ Ok x → ChoosesWithin len x
stretched_within len true g cs shape x lies e = stretched_row_within len g cs shape x e
stretched_within len false g cs shape x lies e = seen_within len (broadcast_to shape g) x (λ h is. stretched_lies shape g h len lies is) e

pub chooses_within : (w : Viewing) (is_row : Bool) (g : Geo) (cs : List Content) (os : List Operand) (x : Chosen) (len : ℕ) → LiesIn len g → choose w (Elements is_row g cs ∷ os) ≡ Ok x → ChoosesWithin len x
chooses_within (Indexed forms) true g cs os x len lies e = absurd (cc)
chooses_within (Indexed forms) false g cs os x len lies e =
    let found = bind_ok (items_of forms os) (λ is. choose_items (has_array os) is g) x e in
    index_within len g (has_array os) found.0 x lies found.2
chooses_within (Fielded name) is_row g cs os x len lies e = field_within len is_row g name (field_of name g.element) x lies (λ f found. found_lies name g f len lies found) e
chooses_within Transposed is_row g cs os x len lies e =
    let integers = bind_ok (integers_of os) _ x e in
    let array = bind_ok (array_of (Elements is_row g cs)) (ordered integers.0) x integers.2 in
    ordered_within len integers.0 array.0 x (subst (LiesIn len) (array_is is_row g array.0 cs array.1) lies) array.2
chooses_within Reshaped is_row g cs os x len lies e =
    let integers = bind_ok (integers_of os) _ x e in
    let bounded = bind_ok (bounded_lengths integers.0) _ x integers.2 in
    let array = bind_ok (array_of (Elements is_row g cs)) _ x bounded.2 in
    let found = bind_ok (reshaping.reshape bounded.0 array.0) (λ r. Ok (reshaped_choice array.0 r)) x array.2 in
    subst (ChoosesWithin len) (ok_same _ x found.2)
    (reshaped_choice_within len bounded.0 array.0 found.0 (subst (LiesIn len) (array_is is_row g array.0 cs array.1) lies) found.1)
chooses_within BroadcastTo is_row g cs os x len lies e =
    let lengths = bind_ok (lengths_of os) (stretch_operand (Elements is_row g cs)) x e in
    stretched_within len is_row g cs lengths.0 x lies lengths.2
chooses_within (ViewedAs dtype) is_row g cs os x len lies e =
    let written = bind_ok (element_type dtype) _ x e in
    let array = bind_ok (array_of (Elements is_row g cs)) _ x written.2 in
    let own = bind_ok (number_element array.0.element) _ x array.2 in
    let new = bind_ok (number_element written.0) (λ d. seen (view_as d array.0)) x own.2 in
    seen_within len (view_as new.0 array.0) x (λ h is. recast_lies new.0 array.0 h len (subst (LiesIn len) (array_is is_row g array.0 cs array.1) lies) is) new.2
