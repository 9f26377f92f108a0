-- Assignments to chosen elements, by the values that were made ready.
use Rattle.std.proofs.Common.{◌≡◌, ℕ, ℤ, ◌+◌, ◌*◌, ◌<◌, ◌≤◌, true, List, [], ◌∷◌, map, length, get_or, refl, sym, ap, ◌∙◌, subst, arith, append-nil}
use Rattle.std.specs.Prelude.{pos, ◌==◌, if◌then◌else◌}
use Rattle.std.proofs.lemmas.Bool.Decides.{nat_tests}
use Rattle.std.specs.List.{All}
use Rattle.std.proofs.lemmas.List.{length-map, get_or-map}
use Rattle.nd_model.specs.Making.Assigning.{value_shape, fits_into, assigned_writes}
use Rattle.nd_model.specs.Arrays.Broadcast.{own_tuple}
use Rattle.nd_model.specs.Arrays.Content.{Content, Num, Rec, number_at, content_at, writes, all_writes, content_or}
use Rattle.nd_model.specs.Making.Conversion.{converts, converted_content}
use Rattle.nd_model.specs.Making.Creation.{is_number_type}
use Rattle.nd_model.specs.Arrays.Element.{size_of, wrap}
use Rattle.nd_model.specs.Cells.Session.{put}
use Rattle.nd_model.specs.Arrays.Tuple.{elements_of, indices, number}
use Rattle.nd_model.specs.Arrays.View.{Field, ElementType, One, Structure, Geo, item_size, contiguous}
use Rattle.nd_model.proofs.Lists.{length-put}
use Rattle.nd_view.specs.Indexes.{IsIndex}
use Rattle.nd_view.proofs.Indexed.{length-indices, same_indexes}
use Rattle.nd_assign.specs.Assigned.{with_elements, with_number}
use Rattle.nd_assign.specs.HeldFields.{HoldsFields}
use Rattle.nd_assign.proofs.SameTypes.{same_structure}
use Rattle.nd_assign.proofs.Stretched.{own_below}
use Rattle.nd_scatter.specs.Scattered.{Prepared, scattered, written_by}
use Rattle.nd_scatter.proofs.ByteWrites.{IsWhole}
use Rattle.nd_scatter.proofs.LastStays.{Holds}
use Rattle.nd_scatter.proofs.Values.{HoldAll, AreWhole, all_copied, hold_side, hold_one, side}

-- a block of the length that it is made ready for is written to
pub written_to : (a : Prepared) (block : List ℕ) → length block ≡ a.len → written_by a block ≡ scattered a.target.element a.values a.step 0 a.target.places block
written_to a block same =
    let test : (length block == a.len) ≡ true = grind (arith, nat_tests) in
    ap (λ b. if b then scattered a.target.element a.values a.step 0 a.target.places block else block) test

-- ---- the contents that are assigned

-- at the tuples of a shape they are these, and whole
pub record Given (t : ElementType) (content : List ℕ → Content) (shape : List ℕ) : Type 0 where
  pub own : List ℕ → Content
  pub same : map content (indices shape) ≡ map own (indices shape)
  pub whole : (i : List ℕ) → IsWhole t (own i)

abbrev pub value_content : (t s : ElementType) → (own places bytes : List ℕ) → List ℕ → Content
value_content t s own places bytes i = converted_content t (content_or (map (content_at s bytes) places) (number own (own_tuple own i)))

given : (t s : ElementType) (own places bytes shape : List ℕ) → converts s t ≡ true → ((i : List ℕ) → IsIndex shape i → number own (own_tuple own i) < length places)
    → Given t (value_content t s own places bytes) shape
given (One e) s own places bytes shape types below = record { own = value_content (One e) s own places bytes; same = refl; whole = λ i. tt }
given (Structure fs n) (One d) own places bytes shape types below = cc
given (Structure fs n) (Structure gs m) own places bytes shape types below =
    let k : List ℕ → ℕ = λ i. number own (own_tuple own i) in
    let t : ElementType = Structure fs n in
    let zs : List ℕ → List ℤ = λ i. map (λ (f : Field). number_at f.element bytes (get_or places (k i) 0 + f.at)) fs in
    record {
      own = λ i. Rec (zs i);
      same =
          ap (λ (s : ElementType). map (λ i. content_or (map (content_at s bytes) places) (k i)) (indices shape)) (same_structure gs fs m n types)
          ∙ same_indexes (λ i. content_or (map (content_at t bytes) places) (k i)) (λ i. Rec (zs i)) shape
          (λ i is. get_or-map (content_at t bytes) places (k i) 0 (Num (pos 0)) (below i is));
      whole = λ i. length-map fs (λ (f : Field). number_at f.element bytes (get_or places (k i) 0 + f.at));
    }

are_whole : {X : Type 0} (t : ElementType) (content : X → Content) (xs : List X) → ((x : X) → IsWhole t (content x)) → AreWhole t (map content xs)
are_whole t content [] each = tt
are_whole t content (x ∷ xs) each = (each x, are_whole t content xs each)

-- ---- elements

-- what was assigned to an array of the same shape is what is assigned to the chosen elements
pub elements : (g v : Geo) (bytes first values old : List ℕ) → HoldsFields g.element → converts v.element g.element ≡ true → fits_into v.shape g.shape ≡ true
    → length v.places ≡ elements_of v.shape → length g.places ≡ elements_of g.shape → All (λ p. p + item_size g.element ≤ length old) g.places
    → elements_of g.shape * item_size g.element ≤ length first → values ≡ with_elements (contiguous g.element g.shape) v bytes first
    → scattered g.element values (item_size g.element) 0 g.places old ≡ with_elements g v bytes old
elements g v bytes first values old fields types fits count all out long is =
    let t = g.element in let ts : List (List ℕ) = indices g.shape in
    let content : List ℕ → Content = value_content t v.element (value_shape v.shape g.shape) v.places bytes in
    let found = given t v.element (value_shape v.shape g.shape) v.places bytes g.shape types (own_below v g.shape fits count) in
    let cs : List Content = map found.own ts in
    let many : length cs ≡ elements_of g.shape = length-map ts found.own ∙ length-indices g.shape in
    let none : 0 * item_size t ≡ 0 = omega arith in
    let room : (0 + length cs) * item_size t ≤ length first = subst (λ n. n * item_size t ≤ length first) (let e : elements_of g.shape ≡ 0 + length cs = omega (arith, many) in e) long in
    let made : values ≡ put (all_writes t (side t 0 (length cs)) cs) first
    = is ∙ (λ i. put (all_writes t (side t 0 (sym many i)) (found.same i)) first) in
    let hold : HoldAll t values (item_size t) 0 cs
    = subst (λ q. HoldAll t values (item_size t) q cs) none (hold_side t 0 cs values first (are_whole t found.own ts found.whole) room made) in
    all_copied t fields values (item_size t) 0 g.places cs old (all ∙ sym many) hold out
    ∙ ap (λ l. put (all_writes t g.places l) old) (sym found.same)

pub length-elements : (g v : Geo) (bytes old : List ℕ) → length (with_elements g v bytes old) ≡ length old
length-elements g v bytes old = length-put (assigned_writes g (value_shape v.shape g.shape) (map (content_at v.element bytes) v.places)) old

-- ---- one number

number_of : (g : Geo) (z : ℤ) (first values old : List ℕ) (t : ElementType) → g.element ≡ t → is_number_type t ≡ true → length g.places ≡ elements_of g.shape
    → All (λ p. p + item_size t ≤ length old) g.places → length first ≡ item_size t → values ≡ with_number (contiguous t []) z first
    → scattered t values 0 0 g.places old ≡ put (all_writes t g.places (map (λ i. converted_content t (Num z)) (indices g.shape))) old
number_of g z first values old (Structure fs n) type is all out long made = cc
number_of g z first values old (One e) type is all out long made =
    let t : ElementType = One e in let c : Content = Num (wrap e.kind z) in
    let none : 0 * size_of e.kind ≡ 0 = omega arith in
    let one : with_number (contiguous t []) z first ≡ put (all_writes t (0 ∷ []) (c ∷ [])) first = ap (λ p. put (all_writes t (p ∷ []) (c ∷ [])) first) none in
    let alone : put (all_writes t (0 ∷ []) (c ∷ [])) first ≡ put (writes t 0 c) first = ap (λ l. put l first) (append-nil (writes t 0 c)) in
    let holds : Holds t values 0 c = record {
      whole = tt;
      old = first;
      room = omega (arith, long);
      same = λ i lt. ap (λ l. get_or l (0 + i) 0) (made ∙ one ∙ alone);
    } in
    all_copied t tt values 0 0 g.places (map (λ i. c) (indices g.shape)) old (all ∙ sym (length-map (indices g.shape) (λ i. c) ∙ length-indices g.shape)) (hold_one t c (indices g.shape) values 0 holds) out

pub one_number : (g : Geo) (z : ℤ) (first values old : List ℕ) → is_number_type g.element ≡ true → length g.places ≡ elements_of g.shape
    → All (λ p. p + item_size g.element ≤ length old) g.places → length first ≡ item_size g.element → values ≡ with_number (contiguous g.element []) z first
    → scattered g.element values 0 0 g.places old ≡ with_number g z old
one_number g z first values old is all out long made = number_of g z first values old g.element refl is all out long made
