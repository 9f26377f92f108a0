-- The numbers of elements that are used, in the block that they lie in.
use Rattle.std.proofs.Common.{◌≡◌, ◌≢◌, ℕ, zero, suc, length, ◌+◌, ◌-◌, ◌<◌, ◌≤◌, List, [], ◌∷◌, ◌++◌, map, take, drop, Bool, true, false, refl, sym, ap, ap₂, subst, ◌∙◌, arith}
use Rattle.std.specs.Prelude.{slice_index}
use Rattle.std.specs.List.{All}
use Rattle.std.specs.Int.{byte_len, byte_worth, sum_through}
use Rattle.nd_model.specs.Arrays.Element.{Element, width_of, size_of, value_in, number_in as number_of_bytes, value_of, bytes_at}
use Rattle.nd_model.specs.Arrays.Tuple.{count_up}
use Rattle.nd_model.specs.Arrays.View.{Field, One, Structure, Geo, item_size}
use Rattle.nd_model.specs.Arrays.Content.{number_at, content_at, content_or, number_in}
use Rattle.nd_model.specs.Cells.Sound.{LiesIn}
use Rattle.nd_model.proofs.Uses.{used_numbers}
use Rattle.nd_model.proofs.UsedStructures.{used_structures}
use Rattle.nd_types.proofs.Sized.{some_bytes}
use Rattle.nd_element.specs.Elements.{AreHeld}
use Rattle.nd_operation.specs.Operators.Contents.{contents_over}

pub up_more : (from k : ℕ) → count_up from (suc k) ≡ count_up from k ++ (from + k) ∷ []
up_more from zero = let e : from ≡ from + 0 = omega arith in ap (λ n. n ∷ []) e
up_more from (suc k) = ap (λ l. from ∷ l) (up_more (from + 1) k ∙ (let e : from + 1 + k ≡ from + suc k = omega arith in ap (λ n. count_up (from + 1) k ++ n ∷ []) e))

pub one_more : (k : ℕ) → count_up 0 (k + 1) ≡ count_up 0 k ++ k ∷ []
one_more k =
    let last : k + 1 ≡ suc k = omega arith in
    let same : 0 + k ≡ k = omega arith in
    ap (count_up 0) last ∙ up_more 0 k ∙ ap (λ n. count_up 0 k ++ n ∷ []) same

-- ---- all elements of an array

-- every byte of its numbers is one of the block
pub numbers_held : (g : Geo) (e : Element) (block : List ℕ) → g.element ≡ One e → LiesIn (length block) g → AreHeld e block g.places
numbers_held g e block one held = subst (λ t. All (λ p. p + item_size t ≤ length block) g.places) one held.inside

contents_are : (g : Geo) (e : Element) (block : List ℕ) → g.element ≡ One e → AreHeld e block g.places → contents_over g block ≡ map (content_at (One e) block) g.places
contents_are g e block one held = rw one (used_numbers e block g.places held)

-- the same of structures, whose fields lie inside
pub structures_are : (g : Geo) (fields : List Field) (size : ℕ) (block : List ℕ) → g.element ≡ Structure fields size
    → All (λ (f : Field). f.at + size_of f.element.kind ≤ size) fields → LiesIn (length block) g
    → contents_over g block ≡ map (content_at g.element block) g.places
structures_are g fields size block is inside held =
    let places = subst (λ t. All (λ p. p + item_size t ≤ length block) g.places) is held.inside in
    rw is (used_structures fields size block g.places inside places)

pub numbers_are : (g : Geo) (e : Element) (block : List ℕ) → g.element ≡ One e → LiesIn (length block) g
    → contents_over g block ≡ map (content_at g.element block) g.places
numbers_are g e block one held = contents_are g e block one (numbers_held g e block one held) ∙ ap (λ t. map (content_at t block) g.places) (sym one)

-- the first one
first_at : (e : Element) (block places : List ℕ) → length places ≢ 0 → number_at e block (slice_index places 0) ≡ number_in (content_or (map (content_at (One e) block) places) 0)
first_at e block [] some = absurd (some refl)
first_at e block (p ∷ ps) some = refl

pub first_in : (g : Geo) (e : Element) (block : List ℕ) → g.element ≡ One e → LiesIn (length block) g → length g.places ≢ 0 → number_at e block (slice_index g.places 0) ≡ number_in (content_or (contents_over g block) 0)
first_in g e block one held some = first_at e block g.places some ∙ ap (λ cs. number_in (content_or cs 0)) (sym (contents_are g e block one (numbers_held g e block one held)))

-- ---- one element, whose bytes are 0 past the end of the block

at_front : (n : ℕ) (xs : List ℕ) (i : ℕ) → i < n → slice_index (take n xs) i ≡ slice_index xs i
at_front zero xs i lt = absurd (omega arith)
at_front (suc n) [] i lt = refl
at_front (suc n) (x ∷ xs) zero lt = refl
at_front (suc n) (x ∷ xs) (suc i) lt = at_front n xs i (omega arith)

after_drop : (n : ℕ) (xs : List ℕ) (i : ℕ) → slice_index (drop n xs) i ≡ slice_index xs (n + i)
after_drop zero xs i = ap (slice_index xs) (omega arith)
after_drop (suc n) [] i = refl
after_drop (suc n) (x ∷ xs) i = after_drop n xs i ∙ (let e : suc n + i ≡ suc (n + i) = omega arith in sym (ap (slice_index (x ∷ xs)) e))

counted_up : (f : ℕ → ℕ) (from n i : ℕ) → i < n → slice_index (map f (count_up from n)) i ≡ f (from + i)
counted_up f from zero i lt = absurd (omega arith)
counted_up f from (suc n) zero lt = ap f (omega arith)
counted_up f from (suc n) (suc i) lt = counted_up f (from + 1) n i (omega arith) ∙ ap f (omega arith)

same_sum : (f g : ℕ → ℕ) (n : ℕ) → ((i : ℕ) → i ≤ n → f i ≡ g i) → sum_through f n ≡ sum_through g n
same_sum f g zero h = h 0 (omega arith)
same_sum f g (suc n) h = ap₂ (λ a b. a + b) (same_sum f g n (λ i le. h i (omega arith))) (h (suc n) (omega arith))

-- a number is told by its bytes
module _ (e : Element) (xs ys : List ℕ) (same : (i : ℕ) → i < size_of e.kind → slice_index xs i ≡ slice_index ys i) where
  byte : (i : ℕ) → i ≤ byte_len (width_of e.kind) - 1 → slice_index xs i ≡ slice_index ys i
  byte i le = same i (omega (arith, some_bytes e.kind))

  same_number : (big : Bool) → number_of_bytes (width_of e.kind) big xs ≡ number_of_bytes (width_of e.kind) big ys
  same_number true = same_sum _ _ (byte_len (width_of e.kind) - 1) (λ i le. ap (byte_worth (byte_len (width_of e.kind) - 1 - i)) (byte i le))
  same_number false = same_sum _ _ (byte_len (width_of e.kind) - 1) (λ i le. ap (byte_worth i) (byte i le))

  same_value : value_of e xs ≡ value_of e ys
  same_value = ap (value_in e.kind) (same_number e.big)

pub used_alone : (e : Element) (block : List ℕ) (p : ℕ) → number_at e (map (λ q. slice_index block q) (count_up p (size_of e.kind))) 0 ≡ number_at e block p
used_alone e block p =
    let bytes : List ℕ = map (λ q. slice_index block q) (count_up p (size_of e.kind)) in
    same_value e (bytes_at bytes 0 (size_of e.kind)) (bytes_at block p (size_of e.kind)) (λ i lt.
    at_front (size_of e.kind) bytes i lt ∙ counted_up (λ q. slice_index block q) p (size_of e.kind) i lt
    ∙ sym (at_front (size_of e.kind) (drop p block) i lt ∙ after_drop p block i))
