-- Copies within parts of a block.
use Rattle.std.proofs.Common.{◌≡◌, ℕ, ℤ, zero, suc, ◌+◌, ◌-◌, ◌<◌, ◌≤◌, List, [], ◌∷◌, ◌++◌, map, take, drop, refl, sym, ap, ap₂, ◌∙◌, arith}
use Rattle.std.specs.Prelude.{slice_set}
use Rattle.std.specs.List.{All, zip}
use Rattle.std.proofs.lemmas.List.{take-append-drop, drop-drop, drop-take, map-append}
use Rattle.std.proofs.lemmas.List.Elements.{All-map}
use Rattle.nd_model.specs.Arrays.Content.{Content, Num, Rec, number_at, content_at, number_writes, field_writes, writes, all_writes}
use Rattle.nd_model.specs.Making.Conversion.{converted_content}
use Rattle.nd_model.specs.Arrays.Element.{size_of, value_of, bytes_of, bytes_at}
use Rattle.nd_assign.specs.HeldFields.{HoldsFields}
use Rattle.nd_model.specs.Cells.Session.{put}
use Rattle.nd_model.specs.Arrays.Tuple.{count_up}
use Rattle.nd_model.specs.Arrays.View.{Field, ElementType, One, Structure, item_size}
use Rattle.nd_assign.specs.Copies.{copied_content, with_copies}

-- ---- what is read of a part

take-take : (n m : ℕ) (xs : List ℕ) → n ≤ m → take n (take m xs) ≡ take n xs
take-take zero m xs le = refl
take-take (suc n) zero xs le = absurd (omega arith)
take-take (suc n) (suc m) [] le = refl
take-take (suc n) (suc m) (x ∷ xs) le = ap (λ l. x ∷ l) (take-take n m xs (omega arith))

bytes_front : (xs : List ℕ) (m q n : ℕ) → q + n ≤ m → bytes_at (take m xs) q n ≡ bytes_at xs q n
bytes_front xs m q n le =
    let split : m ≡ q + (m - q) = omega arith in
    ap (λ k. take n (drop q (take k xs))) split ∙ ap (take n) (drop-take q (m - q) xs) ∙ take-take n (m - q) (drop q xs) (omega arith)

bytes_behind : (xs : List ℕ) (m q n : ℕ) → m ≤ q → bytes_at (drop m xs) (q - m) n ≡ bytes_at xs q n
bytes_behind xs m q n le =
    let split : m + (q - m) ≡ q = omega arith in
    ap (take n) (drop-drop (q - m) m xs ∙ ap (λ k. drop k xs) split)

content_front : (t : ElementType) (xs : List ℕ) (m q : ℕ) → HoldsFields t → q + item_size t ≤ m → content_at t (take m xs) q ≡ content_at t xs q
content_front (One e) xs m q holds le = ap (λ l. Num (value_of e l)) (bytes_front xs m q (size_of e.kind) le)
content_front (Structure fields size) xs m q holds le = ap Rec (each fields holds)
  where
    each : (fs : List Field) → All (λ (f : Field). f.at + size_of f.element.kind ≤ size) fs
        → map (λ (f : Field). number_at f.element (take m xs) (q + f.at)) fs ≡ map (λ (f : Field). number_at f.element xs (q + f.at)) fs
    each [] all = refl
    each (f ∷ fs) all =
        let here : f.at + size_of f.element.kind ≤ size = all 0 f (omega arith) in
        ap₂ (λ a b. a ∷ b) (ap (value_of f.element) (bytes_front xs m (q + f.at) (size_of f.element.kind) (omega (arith, here, le)))) (each fs (λ k d lt. all (suc k) d (omega (arith, lt))))

content_behind : (t : ElementType) (xs : List ℕ) (m q : ℕ) → m ≤ q → content_at t (drop m xs) (q - m) ≡ content_at t xs q
content_behind (One e) xs m q le = ap (λ l. Num (value_of e l)) (bytes_behind xs m q (size_of e.kind) le)
content_behind (Structure fields size) xs m q le = ap Rec (each fields)
  where
    each : (fs : List Field) → map (λ (f : Field). number_at f.element (drop m xs) (q - m + f.at)) fs ≡ map (λ (f : Field). number_at f.element xs (q + f.at)) fs
    each [] = refl
    each (f ∷ fs) =
        let at : q - m + f.at ≡ (q + f.at) - m = omega arith in
        ap₂ (λ a b. a ∷ b) (ap (number_at f.element (drop m xs)) at ∙ ap (value_of f.element) (bytes_behind xs m (q + f.at) (size_of f.element.kind) (omega arith))) (each fs)

module _ (t f : ElementType) (xs : List ℕ) (m : ℕ) where
  pub contents_front : (qs : List ℕ) → HoldsFields f → All (λ q. q + item_size f ≤ m) qs → map (copied_content t f (take m xs)) qs ≡ map (copied_content t f xs) qs
  contents_front [] holds all = refl
  contents_front (q ∷ qs) holds all =
      ap₂ (λ a b. a ∷ b) (ap (λ c. converted_content t c) (content_front f xs m q holds (all 0 0 (omega arith)))) (contents_front qs holds (λ k d lt. all (suc k) d (omega (arith, lt))))

  pub contents_behind : (qs : List ℕ) → All (λ q. m ≤ q) qs → map (copied_content t f (drop m xs)) (map (λ q. q - m) qs) ≡ map (copied_content t f xs) qs
  contents_behind [] all = refl
  contents_behind (q ∷ qs) all =
      ap₂ (λ a b. a ∷ b) (ap (λ c. converted_content t c) (content_behind f xs m q (all 0 0 (omega arith)))) (contents_behind qs (λ k d lt. all (suc k) d (omega (arith, lt))))

-- places that are counted from further on
pub moved_out : (ps : List ℕ) (m size len : ℕ) → All (λ p. m ≤ p) ps → All (λ p. p + size ≤ len) ps → All (λ p. p + (m + size) ≤ len) (map (λ p. p - m) ps)
moved_out ps m size len behind all =
    All-map (λ p. p + (m + size) ≤ len) (λ p. p - m) ps (λ k d lt. let b = behind k d lt in let a = all k d lt in omega (arith, a, b))

pub moved_inside : (ps : List ℕ) (m size n : ℕ) → All (λ p. m ≤ p) ps → All (λ p. p + size ≤ m + n) ps → All (λ p. p + size ≤ n) (map (λ p. p - m) ps)
moved_inside ps m size n behind all =
    All-map (λ p. p + size ≤ n) (λ p. p - m) ps (λ k d lt. let b = behind k d lt in let a = all k d lt in omega (arith, a, b))

-- ---- what is written to a part

abbrev shift : ℕ → ℕ × ℕ → ℕ × ℕ
shift m w = (w.0 - m, w.1)

abbrev Before : ℕ → List (ℕ × ℕ) → Type 0
Before m [] = Unit {0}
Before m (w ∷ ws) = (w.0 < m) × Before m ws

abbrev Behind : ℕ → List (ℕ × ℕ) → Type 0
Behind m [] = Unit {0}
Behind m (w ∷ ws) = (m ≤ w.0) × Behind m ws

before-append : (m : ℕ) (vs ws : List (ℕ × ℕ)) → Before m vs → Before m ws → Before m (vs ++ ws)
before-append m [] ws a b = b
before-append m (v ∷ vs) ws a b = (a.0, before-append m vs ws a.1 b)

behind-append : (m : ℕ) (vs ws : List (ℕ × ℕ)) → Behind m vs → Behind m ws → Behind m (vs ++ ws)
behind-append m [] ws a b = b
behind-append m (v ∷ vs) ws a b = (a.0, behind-append m vs ws a.1 b)

set_front : (xs : List ℕ) (m p y : ℕ) → p < m → (slice_set (take m xs) p y ≡ take m (slice_set xs p y)) × (drop m (slice_set xs p y) ≡ drop m xs)
set_front xs zero p y lt = absurd (omega arith)
set_front [] (suc m) p y lt = (refl, refl)
set_front (x ∷ xs) (suc m) zero y lt = (refl, refl)
set_front (x ∷ xs) (suc m) (suc p) y lt = let rest = set_front xs m p y (omega arith) in (ap (λ l. x ∷ l) rest.0, rest.1)

set_behind : (xs : List ℕ) (m p y : ℕ) → m ≤ p → (take m (slice_set xs p y) ≡ take m xs) × (drop m (slice_set xs p y) ≡ slice_set (drop m xs) (p - m) y)
set_behind xs zero p y le = let none : p - 0 ≡ p = omega arith in (refl, ap (λ k. slice_set xs k y) (sym none))
set_behind [] (suc m) p y le = (refl, refl)
set_behind (x ∷ xs) (suc m) zero y le = absurd (omega arith)
set_behind (x ∷ xs) (suc m) (suc p) y le =
    let rest = set_behind xs m p y (omega arith) in let less : suc p - suc m ≡ p - m = omega arith in
    (ap (λ l. x ∷ l) rest.0, rest.1 ∙ ap (λ k. slice_set (drop m xs) k y) (sym less))

put_front : (ws : List (ℕ × ℕ)) (xs : List ℕ) (m : ℕ) → Before m ws → put ws (take m xs) ++ drop m xs ≡ put ws xs
put_front [] xs m all = take-append-drop m xs
put_front (w ∷ ws) xs m all =
    let set = set_front xs m w.0 w.1 all.0 in
    (λ i. put ws (set.0 i) ++ sym set.1 i) ∙ put_front ws (slice_set xs w.0 w.1) m all.1

put_behind : (ws : List (ℕ × ℕ)) (xs : List ℕ) (m : ℕ) → Behind m ws → take m xs ++ put (map (shift m) ws) (drop m xs) ≡ put ws xs
put_behind [] xs m all = take-append-drop m xs
put_behind (w ∷ ws) xs m all =
    let set = set_behind xs m w.0 w.1 all.0 in
    (λ i. sym set.0 i ++ put (map (shift m) ws) (sym set.1 i)) ∙ put_behind ws (slice_set xs w.0 w.1) m all.1

-- the writes of numbers
zip_before : (m p n : ℕ) (ys : List ℕ) → p + n ≤ m → Before m (zip (count_up p n) ys)
zip_before m p zero ys le = tt
zip_before m p (suc n) [] le = tt
zip_before m p (suc n) (y ∷ ys) le = (omega arith, zip_before m (p + 1) n ys (omega arith))

zip_behind : (m p n : ℕ) (ys : List ℕ) → m ≤ p → Behind m (zip (count_up p n) ys)
zip_behind m p zero ys le = tt
zip_behind m p (suc n) [] le = tt
zip_behind m p (suc n) (y ∷ ys) le = (le, zip_behind m (p + 1) n ys (omega arith))

zip_shift : (m p n : ℕ) (ys : List ℕ) → m ≤ p → zip (count_up (p - m) n) ys ≡ map (shift m) (zip (count_up p n) ys)
zip_shift m p zero ys le = refl
zip_shift m p (suc n) [] le = refl
zip_shift m p (suc n) (y ∷ ys) le =
    let next : p - m + 1 ≡ (p + 1) - m = omega arith in
    ap (λ l. (p - m, y) ∷ l) (ap (λ k. zip (count_up k n) ys) next ∙ zip_shift m (p + 1) n ys (omega arith))

-- of fields
fields_before : (m p size : ℕ) (fs : List Field) (zs : List ℤ) → p + size ≤ m → All (λ (f : Field). f.at + size_of f.element.kind ≤ size) fs → Before m (field_writes p fs zs)
fields_before m p size [] zs le all = tt
fields_before m p size (f ∷ fs) [] le all = tt
fields_before m p size (f ∷ fs) (z ∷ zs) le all =
    let here : f.at + size_of f.element.kind ≤ size = all 0 f (omega arith) in
    before-append m (number_writes f.element (p + f.at) z) (field_writes p fs zs) (zip_before m (p + f.at) (size_of f.element.kind) (bytes_of f.element z) (omega (arith, here, le)))
    (fields_before m p size fs zs le (λ k d lt. all (suc k) d (omega (arith, lt))))

fields_behind : (m p : ℕ) (fs : List Field) (zs : List ℤ) → m ≤ p → Behind m (field_writes p fs zs)
fields_behind m p [] zs le = tt
fields_behind m p (f ∷ fs) [] le = tt
fields_behind m p (f ∷ fs) (z ∷ zs) le =
    behind-append m (number_writes f.element (p + f.at) z) (field_writes p fs zs) (zip_behind m (p + f.at) (size_of f.element.kind) (bytes_of f.element z) (omega arith)) (fields_behind m p fs zs le)

fields_shift : (m p : ℕ) (fs : List Field) (zs : List ℤ) → m ≤ p → field_writes (p - m) fs zs ≡ map (shift m) (field_writes p fs zs)
fields_shift m p [] zs le = refl
fields_shift m p (f ∷ fs) [] le = refl
fields_shift m p (f ∷ fs) (z ∷ zs) le =
    let at : p - m + f.at ≡ (p + f.at) - m = omega arith in
    ap₂ (λ a b. a ++ b) (ap (λ k. number_writes f.element k z) at ∙ zip_shift m (p + f.at) (size_of f.element.kind) (bytes_of f.element z) (omega arith)) (fields_shift m p fs zs le)
    ∙ sym (map-append (shift m) (number_writes f.element (p + f.at) z) (field_writes p fs zs))

-- of elements
writes_before : (t : ElementType) (m p : ℕ) (c : Content) → HoldsFields t → p + item_size t ≤ m → Before m (writes t p c)
writes_before (One e) m p (Num z) holds le = zip_before m p (size_of e.kind) (bytes_of e z) le
writes_before (One e) m p (Rec zs) holds le = tt
writes_before (Structure fields size) m p (Num z) holds le = tt
writes_before (Structure fields size) m p (Rec zs) holds le = fields_before m p size fields zs le holds

writes_behind : (t : ElementType) (m p : ℕ) (c : Content) → m ≤ p → Behind m (writes t p c)
writes_behind (One e) m p (Num z) le = zip_behind m p (size_of e.kind) (bytes_of e z) le
writes_behind (One e) m p (Rec zs) le = tt
writes_behind (Structure fields size) m p (Num z) le = tt
writes_behind (Structure fields size) m p (Rec zs) le = fields_behind m p fields zs le

writes_shift : (t : ElementType) (m p : ℕ) (c : Content) → m ≤ p → writes t (p - m) c ≡ map (shift m) (writes t p c)
writes_shift (One e) m p (Num z) le = zip_shift m p (size_of e.kind) (bytes_of e z) le
writes_shift (One e) m p (Rec zs) le = refl
writes_shift (Structure fields size) m p (Num z) le = refl
writes_shift (Structure fields size) m p (Rec zs) le = fields_shift m p fields zs le

module _ (t : ElementType) (m : ℕ) where
  all_before : (ps : List ℕ) (cs : List Content) → HoldsFields t → All (λ p. p + item_size t ≤ m) ps → Before m (all_writes t ps cs)
  all_before [] cs holds all = tt
  all_before (p ∷ ps) [] holds all = tt
  all_before (p ∷ ps) (c ∷ cs) holds all =
      before-append m (writes t p c) (all_writes t ps cs) (writes_before t m p c holds (all 0 0 (omega arith))) (all_before ps cs holds (λ k d lt. all (suc k) d (omega (arith, lt))))

  all_behind : (ps : List ℕ) (cs : List Content) → All (λ p. m ≤ p) ps → Behind m (all_writes t ps cs)
  all_behind [] cs all = tt
  all_behind (p ∷ ps) [] all = tt
  all_behind (p ∷ ps) (c ∷ cs) all =
      behind-append m (writes t p c) (all_writes t ps cs) (writes_behind t m p c (all 0 0 (omega arith))) (all_behind ps cs (λ k d lt. all (suc k) d (omega (arith, lt))))

  all_shift : (ps : List ℕ) (cs : List Content) → All (λ p. m ≤ p) ps → all_writes t (map (λ p. p - m) ps) cs ≡ map (shift m) (all_writes t ps cs)
  all_shift [] cs all = refl
  all_shift (p ∷ ps) [] all = refl
  all_shift (p ∷ ps) (c ∷ cs) all =
      ap₂ (λ a b. a ++ b) (writes_shift t m p c (all 0 0 (omega arith))) (all_shift ps cs (λ k d lt. all (suc k) d (omega (arith, lt))))
      ∙ sym (map-append (shift m) (writes t p c) (all_writes t ps cs))

-- ---- copies from one part to the other

module _ (t f : ElementType) (xs : List ℕ) (m : ℕ) (ps qs : List ℕ) where
  -- from before a place to behind it
  pub up : HoldsFields f → All (λ p. m ≤ p) ps → All (λ q. q + item_size f ≤ m) qs
      → take m xs ++ with_copies t f (take m xs) (map (λ p. p - m) ps) qs (drop m xs) ≡ with_copies t f xs ps qs xs
  up holds behind before =
      let cs : List Content = map (copied_content t f xs) qs in
      (λ i. take m xs ++ put (all_writes t (map (λ p. p - m) ps) (contents_front t f xs m qs holds before i)) (drop m xs))
      ∙ (λ i. take m xs ++ put (all_shift t m ps cs behind i) (drop m xs))
      ∙ put_behind (all_writes t ps cs) xs m (all_behind t m ps cs behind)

  -- from behind a place to before it
  pub down : HoldsFields t → All (λ p. p + item_size t ≤ m) ps → All (λ q. m ≤ q) qs
      → with_copies t f (drop m xs) ps (map (λ q. q - m) qs) (take m xs) ++ drop m xs ≡ with_copies t f xs ps qs xs
  down holds before behind =
      let cs : List Content = map (copied_content t f xs) qs in
      (λ i. put (all_writes t ps (contents_behind t f xs m qs behind i)) (take m xs) ++ drop m xs)
      ∙ put_front (all_writes t ps cs) xs m (all_before t m ps cs holds before)

  -- from a copy of some of the bytes
  pub apart : (n : ℕ) (out : List ℕ) → HoldsFields f → All (λ q. m ≤ q) qs → All (λ q. q + item_size f ≤ n) (map (λ q. q - m) qs)
      → with_copies t f (take n (drop m xs)) ps (map (λ q. q - m) qs) out ≡ with_copies t f xs ps qs out
  apart n out holds behind before =
      (λ i. put (all_writes t ps (contents_front t f (drop m xs) n (map (λ q. q - m) qs) holds before i)) out)
      ∙ (λ i. put (all_writes t ps (contents_behind t f xs m qs behind i)) out)
