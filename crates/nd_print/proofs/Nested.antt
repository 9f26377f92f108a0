-- The text of an array of several axes, part by part.
use Rattle.std.proofs.Common.{◌≡◌, ℕ, zero, suc, ◌+◌, ◌-◌, ◌*◌, ◌/◌, ◌<◌, ◌≤◌, List, [], ◌∷◌, ◌++◌, map, length, get_or, take, drop, replicate, refl, sym, ap, ap₂, ◌∙◌, arith, append_assoc}
use Rattle.std.specs.List.{flat_map, All}
use Rattle.std.proofs.lemmas.List.{take-map, take-take, drop-take, drop-drop, length-take-le, length-drop}
use Rattle.std.proofs.lemmas.List.Elements.{All-cons}
use Rattle.std.proofs.Math.Nat.{div-mul-le_self}
use Rattle.nd_model.specs.Arrays.Runs.{pieces, in_pieces, last_length}
use Rattle.nd_model.specs.Arrays.Tuple.{elements_of}
use Rattle.nd_model.specs.Text.Text.{split, bracketed, joined}
use Rattle.nd_print.proofs.Sizes.{below_is}

drop-map : {X Y : Type 0} (f : X → Y) (n : ℕ) (xs : List X) → drop n (map f xs) ≡ map f (drop n xs)
drop-map f zero xs = refl
drop-map f (suc n) [] = refl
drop-map f (suc n) (x ∷ xs) = drop-map f n xs

-- n parts are made of what they have
split-take : {X : Type 0} (n each : ℕ) (xs : List X) → split n each (take (n * each) xs) ≡ split n each xs
split-take zero each xs = refl
split-take (suc n) each xs =
    let all : suc n * each ≡ each + n * each = omega arith in
    let fits : each ≤ each + n * each = omega arith in
    ap (λ m. take each (take m xs) ∷ split n each (drop each (take m xs))) all
    ∙ ap₂ (λ a l. a ∷ split n each l) (take-take each (each + n * each) xs fits) (drop-take each (n * each) xs)
    ∙ ap (λ l. take each xs ∷ l) (split-take n each (drop each xs))

module _ (f : ℕ → List ℕ) where
  -- the text of a part
  abbrev pub part : ℕ → List ℕ → List ℕ → List ℕ
  part depth below ps = bracketed depth below (map f ps)

  -- what stands between two parts
  abbrev pub gap : ℕ → List ℕ → List ℕ
  gap depth below = replicate (length below) 10 ++ replicate depth 32

  -- the text of n further parts, each after a gap
  abbrev pub further : ℕ → List ℕ → ℕ → List ℕ → List ℕ
  further depth below n ps = flat_map (λ q. gap depth below ++ q) (map (bracketed depth below) (split n (elements_of below) (map f ps)))

  further-suc : (depth : ℕ) (below : List ℕ) (n : ℕ) (ps : List ℕ)
      → further depth below (suc n) ps ≡ (gap depth below ++ part depth below (take (elements_of below) ps)) ++ further depth below n (drop (elements_of below) ps)
  further-suc depth below n ps = λ i.
      (gap depth below ++ bracketed depth below (take-map f (elements_of below) ps i))
      ++ flat_map (λ q. gap depth below ++ q) (map (bracketed depth below) (split n (elements_of below) (drop-map f (elements_of below) ps i)))

  -- the i-th part, and those behind it
  pub further_more : (depth : ℕ) (below : List ℕ) (end i : ℕ) (ps rest : List ℕ) → i < end → rest ≡ drop (elements_of below) ps
      → further depth below (end - i) ps ≡ (gap depth below ++ part depth below (take (elements_of below) ps)) ++ further depth below (end - (i + 1)) rest
  further_more depth below end i ps rest lt is =
      let left : end - i ≡ suc (end - (i + 1)) = omega arith in
      ap (λ n. further depth below n ps) left ∙ further-suc depth below (end - (i + 1)) ps
      ∙ ap (λ l. (gap depth below ++ part depth below (take (elements_of below) ps)) ++ further depth below (end - (i + 1)) l) (sym is)

  pub further_none : (depth : ℕ) (below : List ℕ) (end i : ℕ) (ps : List ℕ) → end ≤ i → further depth below (end - i) ps ≡ []
  further_none depth below end i ps le = let left : end - i ≡ 0 = omega arith in rw left refl

  -- several axes
  pub nested_is : (depth : ℕ) (shape below : List ℕ) (ps rest : List ℕ) → 1 < length shape → 0 < get_or shape 0 0 → below ≡ drop 1 shape → rest ≡ drop (elements_of below) ps
      → part depth shape (take (elements_of shape) ps)
      ≡ (91 ∷ (part (depth + 1) below (take (elements_of below) ps) ++ further (depth + 1) below (get_or shape 0 0 - 1) rest)) ++ 93 ∷ []
  nested_is depth [] below ps rest several some b r = absurd (omega arith)
  nested_is depth (n ∷ []) below ps rest several some b r = absurd (omega arith)
  nested_is depth (zero ∷ m ∷ shape) below ps rest several some b r = absurd (omega arith)
  nested_is depth (suc n ∷ m ∷ shape) below ps rest several some b r =
      let left : suc n - 1 ≡ n = omega arith in
      let all : split (suc n) (elements_of (m ∷ shape)) (map f (take (suc n * elements_of (m ∷ shape)) ps)) ≡ split (suc n) (elements_of (m ∷ shape)) (map f ps) =
      ap (split (suc n) (elements_of (m ∷ shape))) (sym (take-map f (suc n * elements_of (m ∷ shape)) ps)) ∙ split-take (suc n) (elements_of (m ∷ shape)) (map f ps) in
      rw (left, r, b)
      (ap (λ l. 91 ∷ joined (gap (depth + 1) (m ∷ shape)) (map (bracketed (depth + 1) (m ∷ shape)) l) ++ 93 ∷ []) all
      ∙ (λ j. (91 ∷ (bracketed (depth + 1) (m ∷ shape) (take-map f (elements_of (m ∷ shape)) ps j)
      ++ flat_map (λ q. gap (depth + 1) (m ∷ shape) ++ q) (map (bracketed (depth + 1) (m ∷ shape)) (split n (elements_of (m ∷ shape)) (drop-map f (elements_of (m ∷ shape)) ps j))))) ++ 93 ∷ []))

-- ---- rows

even_pieces : (n count : ℕ) (ps : List ℕ) → count * n ≤ length ps → All (λ row. length row ≡ n) (pieces n count ps)
even_pieces n zero ps le = λ k d lt. absurd (omega arith)
even_pieces n (suc count) ps le =
    All-cons (λ row. length row ≡ n) (take n ps) (pieces n count (drop n ps)) (length-take-le n ps (omega arith))
    (even_pieces n count (drop n ps) (let long = length-drop n ps in omega arith))

-- each row is as long as the last axis
pub even_rows : (shape places : List ℕ) → All (λ row. length row ≡ last_length shape) (in_pieces (last_length shape) places)
even_rows shape places = even_pieces (last_length shape) (length places / last_length shape) places (div-mul-le_self (length places) (last_length shape))

-- the last axis stays the last one
pub last_below : (shape : List ℕ) → 1 < length shape → last_length (drop 1 shape) ≡ last_length shape
last_below [] several = absurd (omega arith)
last_below (n ∷ []) several = absurd (omega arith)
last_below (n ∷ m ∷ shape) several =
    let one : suc (length shape) - 1 ≡ length shape = omega arith in
    let two : suc (suc (length shape)) - 1 ≡ suc (length shape) = omega arith in
    ap (λ i. get_or (m ∷ shape) i 1) one ∙ sym (ap (λ i. get_or (n ∷ m ∷ shape) i 1) two)

module _ (shape : List ℕ) (rows : List (List ℕ)) (several : 1 < length shape) where
  below : List ℕ
  below = take (length shape - 1) (drop 1 shape)

  same : last_length (take (length shape - 1) (drop 1 shape)) ≡ last_length shape
  same = ap last_length (below_is shape) ∙ last_below shape several

  pub even_below : All (λ row. length row ≡ last_length shape) rows → All (λ row. length row ≡ last_length (take (length shape - 1) (drop 1 shape))) rows
  even_below even = λ k d lt. even k d lt ∙ sym same

  pub even_above : All (λ row. length row ≡ last_length (take (length shape - 1) (drop 1 shape))) rows → All (λ row. length row ≡ last_length shape) rows
  even_above even = λ k d lt. even k d lt ∙ same

-- ---- what is left of the rows

module _ (each : ℕ) (ps rest : List ℕ) (is : rest ≡ drop each ps) where
  pub left_more : (end i : ℕ) → i < end → drop ((end - (i + 1)) * each) rest ≡ drop ((end - i) * each) ps
  left_more end i lt =
      let left : end - i ≡ suc (end - (i + 1)) = omega arith in
      ap (drop ((end - (i + 1)) * each)) is ∙ drop-drop ((end - (i + 1)) * each) each ps ∙ ap (λ n. drop n ps) (one_more (end - i) (end - (i + 1)) left)
    where
      one_more : (a b : ℕ) → a ≡ suc b → each + b * each ≡ a * each
      one_more a b e = rw e (again b)
        where
          again : (b : ℕ) → each + b * each ≡ suc b * each
          again b = omega arith

  pub left_all : (n all : ℕ) → 0 < n → all ≡ n * each → drop ((n - 1) * each) rest ≡ drop all ps
  left_all zero all some e = absurd (omega arith)
  left_all (suc n) all some e =
      let one : suc n - 1 ≡ n = omega arith in
      rw one (ap (drop (n * each)) is ∙ drop-drop (n * each) each ps ∙ ap (λ m. drop m ps) (whole n all e))
    where
      whole : (n all : ℕ) → all ≡ suc n * each → each + n * each ≡ all
      whole n all e = omega arith

  pub whole_more : (end i : ℕ) → i < end → (end - i) * each ≤ length ps → (end - (i + 1)) * each ≤ length rest
  whole_more end i lt le =
      let left : end - i ≡ suc (end - (i + 1)) = omega arith in
      let long : length rest ≡ length ps - each = ap (λ l. length l) is ∙ length-drop each ps in
      rw long (less (end - (i + 1)) (length ps) (rw left at le))
    where
      less : (a n : ℕ) → suc a * each ≤ n → a * each ≤ n - each
      less a n le = omega arith

pub none_left : (each : ℕ) (ps : List ℕ) (end i : ℕ) → end ≤ i → drop ((end - i) * each) ps ≡ ps
none_left each ps end i le = let left : end - i ≡ 0 = omega arith in rw left (ap (λ n. drop n ps) (none each))
  where
    none : (each : ℕ) → 0 * each ≡ 0
    none each = omega arith

pub one_left : (each : ℕ) (n len : ℕ) → 0 < n → n * each ≤ len → each ≤ len
one_left each zero len some le = absurd (omega arith)
one_left each (suc n) len some le = omega arith

pub whole_first : (n each all len : ℕ) → 0 < n → all ≡ n * each → all ≤ len → (n - 0) * each ≤ len
whole_first n each all len some e le = let same : n - 0 ≡ n = omega arith in rw same (omega arith)

pub open_and_closed : (a b c d e : List ℕ) → (((a ++ b) ++ c) ++ d) ++ e ≡ a ++ ((b ++ (c ++ d)) ++ e)
open_and_closed a b c d e = simp append_assoc

pub after_gap : (a b c d : List ℕ) → ((a ++ b) ++ c) ++ d ≡ a ++ ((b ++ c) ++ d)
after_gap a b c d = simp append_assoc
