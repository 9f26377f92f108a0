-- What is written over the elements of a target that lie side by side.
use Rattle.std.proofs.Common.{◌≡◌, ℕ, ℤ, zero, suc, ◌+◌, ◌*◌, ◌<◌, ◌≤◌, false, List, [], ◌∷◌, ◌++◌, map, length, take, drop, get_or, refl, sym, ap, ◌∙◌, subst, arith, append-nil}
use Rattle.std.specs.List.{flat_map}
use Rattle.std.proofs.lemmas.List.{get_or-map, length-map, same_lists, take-append-drop}
use Rattle.nd_model.specs.Making.Augmenting.{results_in_place}
use Rattle.nd_model.specs.Arrays.Broadcast.{broadcast_view, own_tuple}
use Rattle.nd_model.specs.Arrays.Content.{Num, number_at, writes, all_writes}
use Rattle.nd_model.specs.Making.Conversion.{converted_content}
use Rattle.nd_model.specs.Arrays.Element.{Element, Kind, size_of, bytes_of, with_bytes, wrap}
use Rattle.nd_model.specs.Making.Elementwise.{number_beside, binary_number}
use Rattle.nd_model.specs.Making.Operand.{Operand, Elements}
use Rattle.nd_model.specs.Making.Operators.{Operator}
use Rattle.nd_model.specs.Cells.Session.{put}
use Rattle.nd_model.specs.Cells.Sound.{LiesIn}
use Rattle.nd_model.specs.Grammar.Syntax.{BinaryOp}
use Rattle.nd_model.specs.Arrays.Tuple.{count_up, elements_of, indices, number}
use Rattle.nd_model.specs.Arrays.View.{One, Geo}
use Rattle.nd_model.proofs.Puts.{put-append}
use Rattle.nd_model.proofs.Values.{length-bytes_of}
use Rattle.nd_view.specs.SideBySide.{side_by_side}
use Rattle.nd_assign.proofs.Copied.{number_put}
use Rattle.nd_block.proofs.Copied.{length-with_bytes}
use Rattle.nd_block.proofs.Together.{with_bytes-twice}
use Rattle.nd_view.proofs.Indexed.{length-indices, same_indexes}
use Rattle.nd_view.proofs.Tuples.{map-map, numbers, length-count_up, get_or-count_up}
use Rattle.nd_ufunc.specs.Elementwise.Arguments.{contents_over, numbers_beside}
use Rattle.nd_ufunc.specs.Elementwise.Replaced.{replaced}
use Rattle.nd_ufunc.specs.Loops.Results.{binary_result}
use Rattle.nd_ufunc.proofs.elementwise.Common.{fits_itself}
use Rattle.nd_ufunc.proofs.elementwise.Mapped.{own_itself}
use Rattle.nd_ufunc.proofs.elementwise.Standing.{beside_is}
use Rattle.nd_ufunc.proofs.loops.Zipped.{by_items}

-- ---- the numbers of a target in its own shape

any_default : (xs : List ℕ) (k d e : ℕ) → k < length xs → get_or xs k d ≡ get_or xs k e
any_default [] k d e lt = absurd (omega arith)
any_default (x ∷ xs) zero d e lt = refl
any_default (x ∷ xs) (suc k) d e lt = any_default xs k d e (omega arith)

all_again : (xs : List ℕ) → map (λ n. get_or xs n 0) (count_up 0 (length xs)) ≡ xs
all_again xs =
    let long : length (map (λ n. get_or xs n 0) (count_up 0 (length xs))) ≡ length xs = length-map (count_up 0 (length xs)) (λ n. get_or xs n 0) ∙ length-count_up 0 (length xs) in
    same_lists (map (λ n. get_or xs n 0) (count_up 0 (length xs))) xs long (λ k d lt.
    let few : k < length xs = omega (arith, lt, long) in
    let in_order : k < length (count_up 0 (length xs)) = omega (arith, length-count_up 0 (length xs), few) in
    get_or-map (λ n. get_or xs n 0) (count_up 0 (length xs)) k 0 d in_order
    ∙ ap (λ n. get_or xs n 0) (get_or-count_up 0 (length xs) k 0 few ∙ omega arith) ∙ any_default xs k 0 d few)

pub places_again : (g : Geo) → length g.places ≡ elements_of g.shape → (broadcast_view g g.shape).places ≡ g.places
places_again g count =
    same_indexes (λ t. get_or g.places (number g.shape (own_tuple g.shape t)) 0) (λ t. get_or g.places (number g.shape t) 0) g.shape
    (λ t is. ap (λ u. get_or g.places (number g.shape u) 0) (own_itself g.shape t is))
    ∙ sym (map-map (λ n. get_or g.places n 0) (number g.shape) (indices g.shape)) ∙ ap (map (λ n. get_or g.places n 0)) (numbers g.shape)
    ∙ ap (λ n. map (λ j. get_or g.places j 0) (count_up 0 n)) (sym count) ∙ all_again g.places

pub own_numbers : (g : Geo) (e : Element) (bytes : List ℕ) → g.element ≡ One e → LiesIn (length bytes) g → map (number_at e bytes) g.places ≡ numbers_beside (Elements false g (contents_over g bytes)) g.shape
own_numbers g e bytes one lies = ap (map (number_at e bytes)) (sym (places_again g lies.count)) ∙ beside_is g e bytes one lies g.shape (fits_itself g.shape)

-- ---- numbers that are put side by side

nothing_written : (xs : List ℕ) (p : ℕ) → with_bytes xs p [] ≡ xs
nothing_written xs p = let same : p + 0 ≡ p = omega arith in ap (λ k. take p xs ++ [] ++ drop k xs) same ∙ ap (λ l. l ++ drop p xs) (append-nil (take p xs)) ∙ take-append-drop p xs

module _ (e : Element) {A : Type 0} (h : A → ℤ) where
  puts : (first j : ℕ) (ts : List A) (out : List ℕ) → first + (j + length ts) * size_of e.kind ≤ length out
      → put (all_writes (One e) (map (λ k. first + k * size_of e.kind) (count_up j (length ts))) (map (λ t. Num (h t)) ts)) out
      ≡ with_bytes out (first + j * size_of e.kind) (flat_map (λ t. bytes_of e (h t)) ts)
  puts first j [] out room = sym (nothing_written out (first + j * size_of e.kind))
  puts first j (t ∷ ts) out room =
      let size = size_of e.kind in let p = first + j * size in let b : List ℕ = bytes_of e (h t) in let new : List ℕ = with_bytes out p b in
      let all : (j + suc (length ts)) * size ≡ j * size + size + length ts * size = omega arith in
      let further : (j + 1 + length ts) * size ≡ (j + suc (length ts)) * size = omega arith in
      let here : p + size ≤ length out = omega (arith, all, room) in
      let long : length b ≡ size = length-bytes_of e (h t) in
      let kept : length new ≡ length out = length-with_bytes out p b (omega (arith, here, long)) in
      let next : first + (j + 1) * size ≡ p + length b = omega (arith, long) in
      put-append (writes (One e) p (Num (h t))) (all_writes (One e) (map (λ k. first + k * size) (count_up (j + 1) (length ts))) (map (λ t. Num (h t)) ts)) out
      ∙ ap (put (all_writes (One e) (map (λ k. first + k * size) (count_up (j + 1) (length ts))) (map (λ t. Num (h t)) ts))) (sym (number_put e (h t) p out here))
      ∙ puts first (j + 1) ts new (omega (arith, further, room, kept))
      ∙ with_bytes-twice out p b (flat_map (λ t. bytes_of e (h t)) ts) (first + (j + 1) * size) next (omega (arith, here, long))

-- ---- the results of an operator

pub written_over : (k : Kind) (op : BinaryOp) (g : Geo) (e : Element) (y : Operand) (old : List ℕ) (first : ℕ) → g.element ≡ One e → LiesIn (length old) g
    → g.places ≡ side_by_side (size_of e.kind) first (length g.places) → first + length g.places * size_of e.kind ≤ length old
    → with_bytes old first (replaced e (binary_result (Operator op) k) (map (number_at e old) g.places) (numbers_beside y g.shape)) ≡ put (results_in_place k op g (contents_over g old) y) old
written_over k op g e y old first one lies gapless room =
    let x : Operand = Elements false g (contents_over g old) in let ts : List (List ℕ) = indices g.shape in
    let h : List ℕ → ℤ = λ t. wrap e.kind (binary_number k (Operator op) x y t) in
    let many : length g.places ≡ length ts = lies.count ∙ sym (length-indices g.shape) in
    let none : first + 0 * size_of e.kind ≡ first = omega arith in
    let all : first + (0 + length ts) * size_of e.kind ≤ length old = subst (λ n. first + n * size_of e.kind ≤ length old) (let same : length g.places ≡ 0 + length ts = omega (arith, many) in same) room in
    let bytes : replaced e (binary_result (Operator op) k) (map (number_at e old) g.places) (numbers_beside y g.shape) ≡ flat_map (λ t. bytes_of e (h t)) ts
    = ap (λ xs. replaced e (binary_result (Operator op) k) xs (numbers_beside y g.shape)) (own_numbers g e old one lies)
    ∙ sym (by_items e (λ a b. wrap e.kind (binary_result (Operator op) k a b)) (number_beside x) (number_beside y) ts) in
    (λ i. with_bytes old (sym none i) (bytes i))
    ∙ sym (puts e h first 0 ts old all)
    ∙ (λ i. put (all_writes (One e) ((ap (side_by_side (size_of e.kind) first) (sym many) ∙ sym gapless) i) (map (λ t. Num (h t)) ts)) old)
    ∙ (λ i. put (all_writes (sym one i) g.places (map (λ t. converted_content (sym one i) (Num (binary_number k (Operator op) x y t))) ts)) old)
