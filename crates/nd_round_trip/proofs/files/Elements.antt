-- Elements are read back from their bytes.
use Rattle.std.proofs.Common.{◌≡◌, ℕ, ℤ, zero, suc, ◌+◌, ◌*◌, ◌<◌, ◌≤◌, nat_le, true, List, [], ◌∷◌, ◌++◌, map, length, take, drop, replicate, refl, sym, ap, ap₂, ◌∙◌, arith, append_assoc, length-append, subst}
use Rattle.std.specs.Prelude.{slice_set}
use Rattle.std.specs.List.{flat_map, zip}
use Rattle.std.proofs.lemmas.Bool.{leb-true}
use Rattle.std.proofs.lemmas.List.{length-replicate}
use Rattle.nd_model.specs.Arrays.Element.{Element, size_of, value_of, bytes_of, bytes_at}
use Rattle.nd_model.specs.Arrays.View.{Field, ElementType, One, Structure, item_size}
use Rattle.nd_model.specs.Arrays.Tuple.{count_up}
use Rattle.nd_model.specs.Cells.Session.{put}
use Rattle.nd_model.specs.Arrays.Structure.{are_apart}
use Rattle.nd_model.specs.Arrays.Content.{Content, Num, Rec, number_at, content_at, number_writes, field_writes, writes, element_bytes}
use Rattle.nd_model.proofs.Puts.{put-append}
use Rattle.nd_model.proofs.Lists.{length-put}
use Rattle.nd_model.proofs.Contents.{number_bytes}
use Rattle.nd_model.proofs.Values.{round_trip, length-bytes_of}
use Rattle.nd_round_trip.specs.Files.FileLaws.{AreNumbers, IsContent, AreContents}
use Rattle.nd_round_trip.proofs.files.Fields.{first, second, ends_inside}

-- ---- bytes that are put to places

-- a byte that is put behind some others leaves them
set_kept : (n at p : ℕ) (xs : List ℕ) (y : ℕ) → at + n ≤ p → take n (drop at (slice_set xs p y)) ≡ take n (drop at xs)
set_kept n at p [] y le = refl
set_kept zero zero p (x ∷ xs) y le = refl
set_kept (suc n) zero zero (x ∷ xs) y le = absurd (omega (arith, le))
set_kept (suc n) zero (suc p) (x ∷ xs) y le = ap (λ l. x ∷ l) (set_kept n zero p xs y (omega (arith, le)))
set_kept n (suc at) zero (x ∷ xs) y le = absurd (omega (arith, le))
set_kept n (suc at) (suc p) (x ∷ xs) y le = set_kept n at p xs y (omega (arith, le))

run_kept : (n at p m : ℕ) (ys xs : List ℕ) → at + n ≤ p → take n (drop at (put (zip (count_up p m) ys) xs)) ≡ take n (drop at xs)
run_kept n at p zero ys xs le = refl
run_kept n at p (suc m) [] xs le = refl
run_kept n at p (suc m) (y ∷ ys) xs le = run_kept n at (p + 1) m ys (slice_set xs p y) (omega (arith, le)) ∙ set_kept n at p xs y le

set_there : (p : ℕ) (xs : List ℕ) (y : ℕ) → p < length xs → take 1 (drop p (slice_set xs p y)) ≡ y ∷ []
set_there p [] y lt = absurd (omega (arith, lt))
set_there zero (x ∷ xs) y lt = refl
set_there (suc p) (x ∷ xs) y lt = set_there p xs y (omega (arith, lt))

abbrev none : List ℕ
none = []

nothing : (n : ℕ) → none ≡ take n none
nothing zero = refl
nothing (suc n) = refl

one_more : (n p : ℕ) (xs : List ℕ) → take (suc n) (drop p xs) ≡ take 1 (drop p xs) ++ take n (drop (suc p) xs)
one_more n zero [] = nothing n
one_more n zero (x ∷ xs) = refl
one_more n (suc p) [] = nothing n
one_more n (suc p) (x ∷ xs) = one_more n p xs

length-set : (xs : List ℕ) (p y : ℕ) → length (slice_set xs p y) ≡ length xs
length-set [] p y = refl
length-set (x ∷ xs) zero y = refl
length-set (x ∷ xs) (suc p) y = ap suc (length-set xs p y)

run_there : (p : ℕ) (ys xs : List ℕ) → p + length ys ≤ length xs → take (length ys) (drop p (put (zip (count_up p (length ys)) ys) xs)) ≡ ys
run_there p [] xs le = refl
run_there p (y ∷ ys) xs le =
    let set = slice_set xs p y in
    let all = put (zip (count_up (p + 1) (length ys)) ys) set in
    let next : suc p ≡ p + 1 = omega arith in
    let long = length-set xs p y in
    one_more (length ys) p all
    ∙ ap₂ (λ a b. a ++ b) (run_kept 1 p (p + 1) (length ys) ys set (omega arith) ∙ set_there p xs y (omega (arith, le)))
    (ap (λ k. take (length ys) (drop k all)) next ∙ run_there (p + 1) ys set (omega (arith, le, long)))

number_there : (e : Element) (z : ℤ) (p : ℕ) (xs : List ℕ) → p + size_of e.kind ≤ length xs → bytes_at (put (number_writes e p z) xs) p (size_of e.kind) ≡ bytes_of e z
number_there e z p xs le =
    let ys = bytes_of e z in
    let same : length ys ≡ size_of e.kind = length-bytes_of e z in
    subst (λ n. take n (drop p (put (zip (count_up p n) ys) xs)) ≡ ys) same (run_there p ys xs (omega (arith, same, le)))

-- ---- structures

fields_kept : (n at place size : ℕ) (fs : List Field) (zs : List ℤ) (xs : List ℕ) → at + n ≤ place → are_apart place fs size ≡ true
    → take n (drop at (put (field_writes 0 fs zs) xs)) ≡ take n (drop at xs)
fields_kept n at place size [] zs xs le inside = refl
fields_kept n at place size (f ∷ fs) [] xs le inside = refl
fields_kept n at place size (f ∷ fs) (z ∷ zs) xs le inside =
    let e = f.element in
    let end = f.at + size_of e.kind in
    let low = leb-true place f.at (first (nat_le place f.at) (are_apart end fs size) inside) in
    ap (λ l. take n (drop at l)) (put-append (number_writes e (0 + f.at) z) (field_writes 0 fs zs) xs)
    ∙ fields_kept n at end size fs zs (put (number_writes e (0 + f.at) z) xs) (omega (arith, le, low)) (second (nat_le place f.at) (are_apart end fs size) inside)
    ∙ run_kept n at (0 + f.at) (size_of e.kind) (bytes_of e z) xs (omega (arith, le, low))

fields_back : (place size : ℕ) (fs : List Field) (zs : List ℤ) (xs : List ℕ) → are_apart place fs size ≡ true → size ≤ length xs → AreNumbers fs zs
    → map (λ (f : Field). number_at f.element (put (field_writes 0 fs zs) xs) (0 + f.at)) fs ≡ zs
fields_back place size [] [] xs inside le all = refl
fields_back place size [] (z ∷ zs) xs inside le all = absurd all
fields_back place size (f ∷ fs) [] xs inside le all = absurd all
fields_back place size (f ∷ fs) (z ∷ zs) xs inside le all =
    let e = f.element in
    let at = 0 + f.at in
    let same : 0 + f.at ≡ f.at = omega arith in
    let end = f.at + size_of e.kind in
    let on = second (nat_le place f.at) (are_apart end fs size) inside in
    let high = ends_inside end size fs on in
    let ys = put (number_writes e at z) xs in
    let long = length-put (number_writes e at z) xs in
    let split = put-append (number_writes e at z) (field_writes 0 fs zs) xs in
    ap (λ l. map (λ (f : Field). number_at f.element l (0 + f.at)) (f ∷ fs)) split
    ∙ ap₂ (λ w ws. w ∷ ws)
    (ap (value_of e) (fields_kept (size_of e.kind) at end size fs zs ys (omega (arith, same)) on ∙ number_there e z at xs (omega (arith, high, le))) ∙ round_trip e z all.0)
    (fields_back end size fs zs ys on (omega (arith, long, le)) all.1)

-- ---- elements

-- a type whose fields stand apart
abbrev pub StandApart : ElementType → Type 0
StandApart (One e) = Unit {0}
StandApart (Structure fields size) = are_apart 0 fields size ≡ true

element_back : (t : ElementType) (c : Content) → StandApart t → IsContent t c → content_at t (element_bytes t c) 0 ≡ c
element_back (One e) (Num z) apart is =
    let b = bytes_of e z in
    ap (λ l. Num (value_of e (take (size_of e.kind) l))) (number_bytes e z)
    ∙ ap (λ l. Num (value_of e l)) (all_of (size_of e.kind) b (length-bytes_of e z)) ∙ ap Num (round_trip e z is)
  where
    all_of : (n : ℕ) (xs : List ℕ) → length xs ≡ n → take n xs ≡ xs
    all_of n xs same = subst (λ k. take k xs ≡ xs) same (own xs)
      where
        own : (xs : List ℕ) → take (length xs) xs ≡ xs
        own [] = refl
        own (x ∷ xs) = ap (λ l. x ∷ l) (own xs)
element_back (One e) (Rec zs) apart is = absurd is
element_back (Structure fields size) (Num z) apart is = absurd is
element_back (Structure fields size) (Rec zs) apart is =
    let zeros : List ℕ = replicate size 0 in
    let long : length zeros ≡ size = length-replicate size 0 in
    ap Rec (fields_back 0 size fields zs zeros apart (omega (arith, long)) is)

-- ---- elements one behind the other

drop_front : (pre xs : List ℕ) (at : ℕ) → drop (length pre + at) (pre ++ xs) ≡ drop at xs
drop_front [] xs at = let same : 0 + at ≡ at = omega arith in ap (λ k. drop k xs) same
drop_front (p ∷ pre) xs at = let same : suc (length pre) + at ≡ suc (length pre + at) = omega arith in ap (λ k. drop k (p ∷ (pre ++ xs))) same ∙ drop_front pre xs at

take_front : (n at : ℕ) (xs post : List ℕ) → at + n ≤ length xs → take n (drop at (xs ++ post)) ≡ take n (drop at xs)
take_front zero zero xs post le = refl
take_front (suc n) zero [] post le = absurd (omega (arith, le))
take_front (suc n) zero (x ∷ xs) post le = ap (λ l. x ∷ l) (take_front n zero xs post (omega (arith, le)))
take_front n (suc at) [] post le = absurd (omega (arith, le))
take_front n (suc at) (x ∷ xs) post le = take_front n at xs post (omega (arith, le))

number_alone : (e : Element) (pre xs post : List ℕ) (at : ℕ) → at + size_of e.kind ≤ length xs → number_at e (pre ++ (xs ++ post)) (length pre + at) ≡ number_at e xs at
number_alone e pre xs post at le = ap (λ l. value_of e (take (size_of e.kind) l)) (drop_front pre (xs ++ post) at) ∙ ap (value_of e) (take_front (size_of e.kind) at xs post le)

fields_alone : (place size : ℕ) (fs : List Field) (pre xs post : List ℕ) → are_apart place fs size ≡ true → size ≤ length xs
    → map (λ (f : Field). number_at f.element (pre ++ (xs ++ post)) (length pre + f.at)) fs ≡ map (λ (f : Field). number_at f.element xs (0 + f.at)) fs
fields_alone place size [] pre xs post inside le = refl
fields_alone place size (f ∷ fs) pre xs post inside le =
    let end = f.at + size_of f.element.kind in
    let on = second (nat_le place f.at) (are_apart end fs size) inside in
    let high = ends_inside end size fs on in
    let same : f.at ≡ 0 + f.at = omega arith in
    ap₂ (λ w ws. w ∷ ws) (number_alone f.element pre xs post f.at (omega (arith, high, le)) ∙ ap (number_at f.element xs) same) (fields_alone end size fs pre xs post on le)

alone : (t : ElementType) (pre xs post : List ℕ) → StandApart t → length xs ≡ item_size t → content_at t (pre ++ (xs ++ post)) (length pre) ≡ content_at t xs 0
alone (One e) pre xs post apart long =
    let none : length pre ≡ length pre + 0 = omega arith in
    ap (λ k. Num (number_at e (pre ++ (xs ++ post)) k)) none ∙ ap Num (number_alone e pre xs post 0 (omega (arith, long)))
alone (Structure fields size) pre xs post apart long = ap Rec (fields_alone 0 size fields pre xs post apart (omega (arith, long)))

pub length-element : (t : ElementType) (c : Content) → length (element_bytes t c) ≡ item_size t
length-element t c = length-put (writes t 0 c) (replicate (item_size t) 0) ∙ length-replicate (item_size t) 0

pub elements_back : (t : ElementType) (pre : List ℕ) (k : ℕ) (cs : List Content) → StandApart t → length pre ≡ k * item_size t → AreContents t cs
    → map (content_at t (pre ++ flat_map (element_bytes t) cs)) (map (λ j. j * item_size t) (count_up k (length cs))) ≡ cs
elements_back t pre k [] apart long all = refl
elements_back t pre k (c ∷ cs) apart long all =
    let eb = element_bytes t c in
    let rest = flat_map (element_bytes t) cs in
    let size = item_size t in
    let own = length-element t c in
    let both = length-append pre eb in
    let next : length (pre ++ eb) ≡ (k + 1) * size = omega (arith, both, own, long) in
    ap₂ (λ x xs. x ∷ xs)
    (ap (content_at t (pre ++ (eb ++ rest))) (sym long) ∙ alone t pre eb rest apart own ∙ element_back t c apart all.0)
    (ap (λ l. map (content_at t l) (map (λ j. j * size) (count_up (k + 1) (length cs)))) (sym (append_assoc pre eb rest))
    ∙ elements_back t (pre ++ eb) (k + 1) cs apart next all.1)
