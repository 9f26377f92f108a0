-- Numbers that are written one after another.
use Rattle.std.proofs.Common.{◌≡◌, ℕ, zero, suc, ◌+◌, ◌*◌, add-one, ℤ, pos, ◌+ℤ◌, ◌*ℤ◌, List, [], ◌∷◌, ◌++◌, length, take, drop, sym, ap, ◌∙◌, arith, length-append, append-nil, replicate, drop_of_length-le}
use Rattle.std.proofs.lemmas.List.{drop-drop, take_at, length-replicate}
use Rattle.std.proofs.lemmas.Grind.{flat_map-append}
use Rattle.std.proofs.Math.Seq.{drop-append-add, take-length}
use Rattle.std.specs.Int.{int_wrap, w128}
use Rattle.std.proofs.lemmas.Int.{ints, int_wrap_fits, SFits-int_wrap, int_wrap-add_same}
use Rattle.std.proofs.Math.IntN.{zero-*ℤ, suc_ℤ-*ℤ}
use Rattle.std.specs.List.{flat_map}
use Rattle.nd_model.specs.Arrays.Element.{Element, size_of, bytes_of, with_bytes}
use Rattle.nd_model.specs.Arrays.Tuple.{count_up}
use Rattle.nd_model.proofs.Tuples.{length-count_up}
use Rattle.nd_model.proofs.Values.{length-bytes_of}
use Rattle.nd_convert.specs.Creation.Numbers.{bytes_below}

up_more : (from k : ℕ) → count_up from (suc k) ≡ count_up from k ++ (from + k) ∷ []
up_more from zero = let e : from ≡ from + 0 = omega arith in ap (λ n. n ∷ []) e
up_more from (suc k) = ap (λ l. from ∷ l) (up_more (from + 1) k ∙ (let e : from + 1 + k ≡ from + suc k = omega arith in ap (λ n. count_up (from + 1) k ++ n ∷ []) e))

pub one_more : (k : ℕ) → count_up 0 (k + 1) ≡ count_up 0 k ++ k ∷ []
one_more k =
    let last : k + 1 ≡ suc k = omega arith in
    let same : 0 + k ≡ k = omega arith in
    ap (count_up 0) last ∙ up_more 0 k ∙ ap (λ n. count_up 0 k ++ n ∷ []) same

pub length-all : (e : Element) (f : ℕ → ℤ) (ks : List ℕ) → length (flat_map (λ j. bytes_of e (f j)) ks) ≡ length ks * size_of e.kind
length-all e f [] = omega arith
length-all e f (k ∷ ks) = omega (arith, length-append (bytes_of e (f k)) (flat_map (λ j. bytes_of e (f j)) ks), length-bytes_of e (f k), length-all e f ks)

pub length-below : (e : Element) (f : ℕ → ℤ) (k : ℕ) → length (bytes_below e f k) ≡ k * size_of e.kind
length-below e f k = length-all e f (count_up 0 k) ∙ ap (λ n. n * size_of e.kind) (length-count_up 0 k)

below_more : (e : Element) (f : ℕ → ℤ) (k : ℕ) → bytes_below e f (k + 1) ≡ bytes_below e f k ++ bytes_of e (f k)
below_more e f k =
    ap (flat_map (λ j. bytes_of e (f j))) (one_more k)
    ∙ flat_map-append (λ j. bytes_of e (f j)) (count_up 0 k) (k ∷ [])
    ∙ ap (λ l. bytes_below e f k ++ l) (append-nil (bytes_of e (f k)))

-- one number more
pub fill_more : (e : Element) (f : ℕ → ℤ) (k size : ℕ) (first now new : List ℕ) → size ≡ size_of e.kind
    → now ≡ bytes_below e f k ++ drop (k * size) first → new ≡ with_bytes now (k * size) (bytes_of e (f k))
    → new ≡ bytes_below e f (k + 1) ++ drop ((k + 1) * size) first
fill_more e f k size first now new is so_far stored =
    let done : List ℕ = bytes_below e f k in let rest : List ℕ = drop (k * size) first in let run : List ℕ = bytes_of e (f k) in
    let here : length done ≡ k * size = length-below e f k ∙ ap (λ s. k * s) (sym is) in
    let long : length run ≡ size = length-bytes_of e (f k) ∙ sym is in
    let number : new ≡ with_bytes (done ++ rest) (k * size) run = stored ∙ ap (λ l. with_bytes l (k * size) run) so_far in
    let front : take (k * size) (done ++ rest) ≡ done = take_at done rest (k * size) here in
    let far : k * size + length run ≡ length done + size = omega arith in
    let back : drop (k * size + length run) (done ++ rest) ≡ drop (k * size + size) first
    = ap (λ m. drop m (done ++ rest)) far ∙ drop-append-add done rest size ∙ drop-drop size (k * size) first in
    let next : k * size + size ≡ (k + 1) * size = omega arith in
    number ∙ (λ i. front i ++ run ++ back i) ∙ ap (λ l. l ++ drop (k * size + size) first) (sym (below_more e f k))
    ∙ (λ i. bytes_below e f (k + 1) ++ drop (next i) first)

-- a block of as many bytes, with the numbers in their place
pub written : (e : Element) (f : ℕ → ℤ) (n size : ℕ) (block new : List ℕ) → size ≡ size_of e.kind → block ≡ replicate (n * size) 0 → new ≡ bytes_below e f n
    → take (length block) (new ++ drop (length new) block) ≡ bytes_below e f n
written e f n size block new is zeros filled =
    let long : length new ≡ n * size = ap length filled ∙ length-below e f n ∙ ap (λ s. n * s) (sym is) in
    let same : length block ≡ length new = ap length zeros ∙ length-replicate (n * size) 0 ∙ sym long in
    let none : drop (length new) block ≡ [] = drop_of_length-le block {i = length new} (omega (arith, same)) in
    ap (λ l. take (length block) (new ++ l)) none ∙ ap (take (length block)) (append-nil new) ∙ ap (λ k. take k new) same ∙ take-length new ∙ filled

-- all numbers
pub fill_all : (e : Element) (f : ℕ → ℤ) (k n size : ℕ) (first now : List ℕ) → k ≡ n → size ≡ size_of e.kind → length first ≡ n * size_of e.kind
    → now ≡ bytes_below e f k ++ drop (k * size) first → now ≡ bytes_below e f n
fill_all e f k n size first now end is long so_far =
    let whole : length first ≡ n * size = long ∙ ap (λ s. n * s) (sym is) in
    let none : drop (n * size) first ≡ [] = drop_of_length-le first {i = n * size} (omega (arith, whole)) in
    so_far ∙ ap (λ m. bytes_below e f m ++ drop (m * size) first) end ∙ ap (λ l. bytes_below e f n ++ l) none ∙ append-nil (bytes_below e f n)

-- ---- numbers that are a step apart

abbrev pub apart : ℤ → ℤ → ℕ → ℤ
apart start step k = start +ℤ (pos k *ℤ step)

pub apart-zero : (start step : ℤ) → apart start step 0 ≡ start
apart-zero start step = let none : pos 0 *ℤ step ≡ pos 0 = zero-*ℤ step in omega (arith, ints, none)

apart-more : (start step : ℤ) (k : ℕ) → apart start step k +ℤ step ≡ apart start step (k + 1)
apart-more start step k =
    let more : pos (k + 1) *ℤ step ≡ pos k *ℤ step +ℤ step = ap (λ n. pos n *ℤ step) (add-one k) ∙ suc_ℤ-*ℤ (pos k) step in omega (arith, ints, more)

-- where only the lowest bits are kept
pub next_apart : (start step number next : ℤ) (k : ℕ) → int_wrap w128 number ≡ int_wrap w128 (apart start step k) → next ≡ int_wrap w128 (number +ℤ step)
    → int_wrap w128 next ≡ int_wrap w128 (apart start step (k + 1))
next_apart start step number next k same is =
    ap (int_wrap w128) is ∙ int_wrap_fits w128 (int_wrap w128 (number +ℤ step)) (SFits-int_wrap w128 (number +ℤ step))
    ∙ int_wrap-add_same w128 number (apart start step k) step same ∙ ap (int_wrap w128) (apart-more start step k)
