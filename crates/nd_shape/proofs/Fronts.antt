-- The strides of another shape lead to all elements where they lead to the second one on each axis.
use Rattle.std.proofs.Common.{◌≡◌, ℕ, zero, suc, ◌+◌, ◌*◌, ◌/◌, ◌%◌, ◌<◌, ◌≤◌, ◌^◌, Bool, true, false, ◌&&◌, ◌||◌, List, [], ◌∷◌, map, length, get_or, refl, sym, ap, subst, ◌∙◌, inl, inr, arith}
use Rattle.std.specs.Prelude.{ℤ, pos, neg_ℤ, ◌+ℤ◌, ◌*ℤ◌, nat_le, nat_lt, if◌then◌else◌}
use Rattle.std.specs.List.{list_all}
use Rattle.std.specs.Ordering.{int_eq}
use Rattle.std.proofs.Math.Nat.{div-div-eq-div-mul, div-eq_of_lt, div-one, div_self, mod-eq_of_lt, mul-add-div_right, mul-add-mod_self_right, zero-div, zero-mod}
use Rattle.std.proofs.lemmas.Bool.{cases_lt}
use Rattle.std.proofs.lemmas.Bool.Decides.{nat_tests, Decides-int_eq}
use Rattle.std.proofs.lemmas.Int.{ints}
use Rattle.std.proofs.lemmas.Nat.{div-mul-add}
use Rattle.nd_model.specs.Arrays.Strides.{way_to, begins_at}
use Rattle.nd_model.specs.Arrays.Tuple.{elements_of, indices, number}
use Rattle.nd_model.specs.Arrays.View.{Geo, item_size}
use Rattle.nd_model.specs.Indexing.Reshaping.{distance, steps_in, is_even}
use Rattle.nd_model.proofs.Recast.{at_each}
use Rattle.nd_model.proofs.Transposed.{both}
use Rattle.nd_view.specs.Indexes.{IsIndex}
use Rattle.nd_view.proofs.Counts.{rest_some}
use Rattle.nd_view.proofs.Indexed.{all_indexes}
use Rattle.nd_view.proofs.Made.{axes}
use Rattle.nd_view.proofs.Numbered.{tuple_of, tuple_is}
use Rattle.nd_view.proofs.Steps.{number-below}
use Rattle.nd_shape.specs.Reshapes.{way_of, steps_for, are_met, leads_to}
use Rattle.nd_shape.proofs.Digits.{Axis, reach, count, ArePositive, Meets, meets_same, agree}
use Rattle.nd_shape.proofs.Rearranged.{HasStrides, tuple_of_index}
use Rattle.nd_shape.proofs.Recasts.{place_is}

-- ---- ways by number

shift : (shape : List ℕ) (ss : List ℤ) (a x : ℕ) → 0 < elements_of shape → way_of shape ss (a * elements_of shape + x) ≡ way_of shape ss x
shift [] ss a x some = refl
shift (n ∷ shape) [] a x some = refl
shift (n ∷ shape) (s ∷ ss) a x some =
    let e : ℕ = elements_of shape in
    let some' : 0 < e = rest_some n e some in
    let move : a * (n * e) + x ≡ a * n * e + x = moved a n e x in
    let digit : (a * (n * e) + x) / e % n ≡ x / e % n = ap (λ k. k / e % n) move ∙ ap (λ k. k % n) (mul-add-div_right some' (a * n) x) ∙ mul-add-mod_self_right a n (x / e) in
    λ i. (pos (digit i) *ℤ s) +ℤ (ap (way_of shape ss) move ∙ shift shape ss (a * n) x some') i
  where
    moved : (a n e x : ℕ) → a * (n * e) + x ≡ a * n * e + x
    moved a n e x = omega arith

nothing : (s z : ℤ) → z ≡ pos 0 → (pos 0 *ℤ s) +ℤ z ≡ pos 0
nothing s z e = omega (arith, ints, e)

way_zero : (shape : List ℕ) (ss : List ℤ) → way_of shape ss 0 ≡ pos 0
way_zero [] ss = refl
way_zero (n ∷ shape) [] = refl
way_zero (n ∷ shape) (s ∷ ss) =
    let digit : 0 / elements_of shape % n ≡ 0 = ap (λ k. k % n) (zero-div (elements_of shape)) ∙ zero-mod n in
    (λ i. (pos (digit i) *ℤ s) +ℤ way_of shape ss 0) ∙ nothing s (way_of shape ss 0) (way_zero shape ss)

pub way_tuple : (shape t : List ℕ) (ss : List ℤ) → IsIndex shape t → way_to t ss ≡ way_of shape ss (number shape t)
way_tuple [] [] ss is = refl
way_tuple [] (i ∷ t) ss is = absurd is
way_tuple (n ∷ shape) [] ss is = absurd is
way_tuple (n ∷ shape) (i ∷ t) [] is = refl
way_tuple (n ∷ shape) (i ∷ t) (s ∷ ss) is =
    let e : ℕ = elements_of shape in
    let x : ℕ = number shape t in
    let below : x < e = number-below shape t is.1 in
    let digit : (i * e + x) / e % n ≡ i = ap (λ k. k % n) (div-mul-add i e x below) ∙ mod-eq_of_lt is.0 in
    λ j. (pos (sym digit j) *ℤ s) +ℤ (way_tuple shape t ss is.1 ∙ sym (shift shape ss i x (omega arith))) j

-- ---- the last axis first

abbrev back : List ℕ → List ℤ → List Axis → List Axis
back [] ss acc = acc
back (n ∷ shape) [] acc = acc
back (n ∷ shape) (s ∷ ss) acc = back shape ss ((n, s) ∷ acc)

back_reach : (shape : List ℕ) (ss : List ℤ) (acc : List Axis) (f : ℕ) → length ss ≡ length shape → reach (back shape ss acc) f ≡ way_of shape ss f +ℤ reach acc (f / elements_of shape)
back_reach [] ss acc f same = sym (plain (reach acc (f / 1)) ∙ ap (reach acc) (div-one f))
  where
    plain : (z : ℤ) → pos 0 +ℤ z ≡ z
    plain z = omega (arith, ints)
back_reach (n ∷ shape) [] acc f same = absurd (omega arith)
back_reach (n ∷ shape) (s ∷ ss) acc f same =
    let e : ℕ = elements_of shape in
    let further : f / e / n ≡ f / (n * e) = div-div-eq-div-mul f e n ∙ ap (λ k. f / k) (swap e n) in
    back_reach shape ss ((n, s) ∷ acc) f (omega arith) ∙ regroup (way_of shape ss f) (pos (f / e % n) *ℤ s) (reach acc (f / e / n)) ∙ ap (λ k. ((pos (f / e % n) *ℤ s) +ℤ way_of shape ss f) +ℤ reach acc k) further
  where
    swap : (a b : ℕ) → a * b ≡ b * a
    swap a b = omega arith

    regroup : (a b c : ℤ) → a +ℤ (b +ℤ c) ≡ (b +ℤ a) +ℤ c
    regroup a b c = omega (arith, ints)

back_whole : (shape : List ℕ) (ss : List ℤ) (f : ℕ) → length ss ≡ length shape → reach (back shape ss []) f ≡ way_of shape ss f
back_whole shape ss f same = back_reach shape ss [] f same ∙ plain (way_of shape ss f)
  where
    plain : (z : ℤ) → z +ℤ pos 0 ≡ z
    plain z = omega (arith, ints)

back_count : (shape : List ℕ) (ss : List ℤ) (acc : List Axis) → length ss ≡ length shape → count (back shape ss acc) ≡ elements_of shape * count acc
back_count [] ss acc same = omega arith
back_count (n ∷ shape) [] acc same = absurd (omega arith)
back_count (n ∷ shape) (s ∷ ss) acc same = back_count shape ss ((n, s) ∷ acc) (omega arith) ∙ swap (elements_of shape) n (count acc)
  where
    swap : (e n c : ℕ) → e * (n * c) ≡ n * e * c
    swap e n c = omega arith

back_positive : (shape : List ℕ) (ss : List ℤ) (acc : List Axis) → 0 < elements_of shape → ArePositive acc → ArePositive (back shape ss acc)
back_positive [] ss acc some p = p
back_positive (n ∷ shape) [] acc some p = p
back_positive (n ∷ shape) (s ∷ ss) acc some p = back_positive shape ss ((n, s) ∷ acc) (rest_some n (elements_of shape) some) (first n (elements_of shape) some, p)
  where
    first : (n e : ℕ) → 0 < n * e → 0 < n
    first zero e lt = absurd (omega arith)
    first (suc n) e lt = omega arith

-- ---- steps that are met

abbrev AreMet : (ℕ → ℤ) → List ℕ → List ℤ → Type 0
AreMet q [] ss = Unit {0}
AreMet q (n ∷ shape) [] = Unit {0}
AreMet q (n ∷ shape) (s ∷ ss) = (1 < n → s ≡ q (elements_of shape)) × AreMet q shape ss

either : (a b : Bool) → (a || b) ≡ true → a ≡ false → b ≡ true
either true b e f = absurd (cc)
either false b e f = e

met_is : (q : ℕ → ℤ) (shape : List ℕ) (ss : List ℤ) → are_met q shape ss ≡ true → AreMet q shape ss
met_is q [] ss e = tt
met_is q (n ∷ shape) [] e = tt
met_is q (n ∷ shape) (s ∷ ss) e =
    let parts = both (nat_le n 1 || int_eq (q (elements_of shape)) s) (are_met q shape ss) e in
    (λ long. sym ((Decides-int_eq (q (elements_of shape)) s).0 (either (nat_le n 1) (int_eq (q (elements_of shape)) s) parts.0 (test n long))), met_is q shape ss parts.1)
  where
    test : (n : ℕ) → 1 < n → nat_le n 1 ≡ false
    test n long = grind (arith, nat_tests)

is_met : (q : ℕ → ℤ) (shape : List ℕ) (ss : List ℤ) → AreMet q shape ss → are_met q shape ss ≡ true
is_met q [] ss m = refl
is_met q (n ∷ shape) [] m = refl
is_met q (n ∷ shape) (s ∷ ss) m =
    let here : (nat_le n 1 || int_eq (q (elements_of shape)) s) ≡ true = elim (cases_lt 1 n) [
      | inr short ↦ rw (low n short) refl
      | inl long ↦ let same : int_eq (q (elements_of shape)) s ≡ true = (Decides-int_eq (q (elements_of shape)) s).1 (sym (m.0 long)) in rw same (any (nat_le n 1))
    ] in
    rw here (is_met q shape ss m.1)
  where
    low : (n : ℕ) → n ≤ 1 → nat_le n 1 ≡ true
    low n short = grind (arith, nat_tests)

    any : (b : Bool) → (b || true) ≡ true
    any true = refl
    any false = refl

back_meets : (q : ℕ → ℤ) (shape : List ℕ) (ss : List ℤ) (acc : List Axis) → length ss ≡ length shape → AreMet q shape ss → Meets acc q (elements_of shape) → Meets (back shape ss acc) q 1
back_meets q [] ss acc same m rest = rest
back_meets q (n ∷ shape) [] acc same m rest = absurd (omega arith)
back_meets q (n ∷ shape) (s ∷ ss) acc same m rest = back_meets q shape ss ((n, s) ∷ acc) (omega arith) m.1 (m.0, subst (Meets acc q) (swap n (elements_of shape)) rest)
  where
    swap : (a b : ℕ) → a * b ≡ b * a
    swap a b = omega arith

own_steps : (q : ℕ → ℤ) (to : List ℕ) → AreMet q to (steps_for q to)
own_steps q [] = tt
own_steps q (n ∷ to) = (λ _. refl, own_steps q to)

pub length-steps : (q : ℕ → ℤ) (to : List ℕ) → length (steps_for q to) ≡ length to
length-steps q [] = refl
length-steps q (n ∷ to) = ap suc (length-steps q to)

-- what leads to each element leads to the second one on each axis
units : (r : ℕ → ℤ) (shape : List ℕ) (ss : List ℤ) → 0 < elements_of shape → ((f : ℕ) → f < elements_of shape → way_of shape ss f ≡ r f) → AreMet r shape ss
units r [] ss some all = tt
units r (n ∷ shape) [] some all = tt
units r (n ∷ shape) (s ∷ ss) some all = (λ long. first long, units r shape ss some' (λ f lt. sym (below f lt) ∙ all f (more f lt)))
  where
    some' : 0 < elements_of shape
    some' = rest_some n (elements_of shape) some

    at_least : (n e f : ℕ) → 0 < n * e → f < e → f < n * e
    at_least zero e f some lt = absurd (omega arith)
    at_least (suc n) e f some lt = omega arith

    more : (f : ℕ) → f < elements_of shape → f < n * elements_of shape
    more f lt = at_least n (elements_of shape) f some lt

    below : (f : ℕ) → f < elements_of shape → way_of (n ∷ shape) (s ∷ ss) f ≡ way_of shape ss f
    below f lt =
        let digit : f / elements_of shape % n ≡ 0 = ap (λ k. k % n) (div-eq_of_lt lt) ∙ zero-mod n in
        (λ i. (pos (digit i) *ℤ s) +ℤ way_of shape ss f) ∙ none s (way_of shape ss f)
      where
        none : (s z : ℤ) → (pos 0 *ℤ s) +ℤ z ≡ z
        none s z = omega (arith, ints)

    twice : (n e : ℕ) → 1 < n → 0 < e → e < n * e
    twice zero e long some = absurd (omega arith)
    twice (suc zero) e long some = absurd (omega arith)
    twice (suc (suc n)) e long some = omega arith

    first : 1 < n → s ≡ r (elements_of shape)
    first long =
        let digit : elements_of shape / elements_of shape % n ≡ 1 = ap (λ k. k % n) (div_self some') ∙ mod-eq_of_lt long in
        let one : elements_of shape ≡ 1 * elements_of shape + 0 = omega arith in
        let rest : way_of shape ss (elements_of shape) ≡ pos 0 = ap (way_of shape ss) one ∙ shift shape ss 1 0 some' ∙ way_zero shape ss in
        let here : way_of (n ∷ shape) (s ∷ ss) (elements_of shape) ≡ s = (λ i. (pos (digit i) *ℤ s) +ℤ rest i) ∙ alone s in
        sym here ∙ all (elements_of shape) (twice n (elements_of shape) long some')
      where
        alone : (s : ℤ) → (pos 1 *ℤ s) +ℤ pos 0 ≡ s
        alone s = omega (arith, ints)

module _ (shape : List ℕ) (ss : List ℤ) (same : length ss ≡ length shape) (to : List ℕ) (many : elements_of to ≡ elements_of shape) (some : 0 < elements_of shape) where
  abbrev q : ℕ → ℤ
  q = way_of shape ss

  abbrev z : List ℤ
  z = steps_for (way_of shape ss) to

  abbrev r : ℕ → ℤ
  r = way_of to z

  all_met : AreMet r shape ss → (f : ℕ) → q f ≡ r f
  all_met m f =
      let xs : List Axis = back shape ss [] in
      let ys : List Axis = back to z [] in
      let long : length z ≡ length to = length-steps q to in
      let own : (x : ℕ) → reach xs x ≡ q x = λ x. back_whole shape ss x same in
      let other : (x : ℕ) → reach ys x ≡ r x = λ x. back_whole to z x long in
      let counts : count xs ≡ count ys = back_count shape ss [] same ∙ ap (λ k. k * 1) (sym many) ∙ sym (back_count to z [] long) in
      let meets : Meets xs (reach ys) 1 = meets_same xs r (reach ys) 1 (λ x. sym (other x)) (back_meets r shape ss [] same m tt) in
      let meets' : Meets ys (reach xs) 1 = meets_same ys q (reach xs) 1 (λ x. sym (own x)) (back_meets q to z [] long (own_steps q to) tt) in
      sym (own f) ∙ agree (length xs + length ys) xs ys (omega arith) counts (back_positive shape ss [] some tt) (back_positive to z [] (omega (arith, some, many)) tt) meets meets' f ∙ other f

  pub leads_all : leads_to shape ss to ≡ true → (f : ℕ) → q f ≡ r f
  leads_all e f = all_met (met_is r shape ss e) f

  pub all_leads : ((f : ℕ) → f < elements_of shape → q f ≡ r f) → leads_to shape ss to ≡ true
  all_leads all = is_met r shape ss (units r shape ss some all)

-- ---- places

-- the steps that the places give
steps_same : (places : List ℕ) (q : ℕ → ℤ) (to t : List ℕ) → IsIndex to t → ((f : ℕ) → f < elements_of to → distance places f ≡ q f) → way_to t (steps_in places to) ≡ way_to t (steps_for q to)
steps_same places q [] [] is far = refl
steps_same places q [] (i ∷ t) is far = absurd is
steps_same places q (n ∷ to) [] is far = absurd is
steps_same places q (n ∷ to) (i ∷ t) is far =
    let rest : way_to t (steps_in places to) ≡ way_to t (steps_for q to) = steps_same places q to t is.1 (λ f lt. far f (at_least n i (elements_of to) f is.0 lt)) in
    elim (cases_lt n 2) [
      | inl short ↦
          let first : i ≡ 0 = omega (arith, is.0, short) in
          (λ k. (pos (first k) *ℤ (if nat_lt n 2 then pos 0 else distance places (elements_of to))) +ℤ rest k) ∙ still (if nat_lt n 2 then pos 0 else distance places (elements_of to)) (q (elements_of to)) (way_to t (steps_for q to))
          ∙ (λ k. (pos (sym first k) *ℤ q (elements_of to)) +ℤ way_to t (steps_for q to))
      | inr long ↦
          let test : nat_lt n 2 ≡ false = grind (arith, nat_tests) in
          let some : 0 < elements_of to = positive (number to t) (elements_of to) (number-below to t is.1) in
          rw test (λ k. (pos i *ℤ far (elements_of to) (twice n (elements_of to) long some) k) +ℤ rest k)
    ]
  where
    at_least : (n i e f : ℕ) → i < n → f < e → f < n * e
    at_least zero i e f lt lt' = absurd (omega arith)
    at_least (suc n) i e f lt lt' = omega arith

    twice : (n e : ℕ) → 2 ≤ n → 0 < e → e < n * e
    twice zero e long some = absurd (omega arith)
    twice (suc zero) e long some = absurd (omega arith)
    twice (suc (suc n)) e long some = omega arith

    positive : (x e : ℕ) → x < e → 0 < e
    positive x e lt = omega arith

    still : (a b y : ℤ) → (pos 0 *ℤ a) +ℤ y ≡ (pos 0 *ℤ b) +ℤ y
    still a b y = omega (arith, ints)

module _ (g : Geo) (strides : List ℤ) (has : HasStrides g strides) (to : List ℕ) (many : elements_of to ≡ elements_of g.shape) (some : 0 < elements_of g.shape) where
  length_same : length strides ≡ length g.shape
  length_same = axes (item_size g.element) g.shape strides (get_or g.places 0 0) (2 ^ 64) has.held

  abbrev own : ℕ → ℤ
  own = way_of g.shape strides

  abbrev steps : List ℤ
  steps = steps_for (way_of g.shape strides) to

  pub place_by : (f : ℕ) → f < elements_of g.shape → pos (get_or g.places f 0) ≡ pos (get_or g.places 0 0) +ℤ own f
  place_by f lt =
      let is = tuple_is g.shape f lt in
      ap (λ k. pos (get_or g.places k 0)) (sym is.1) ∙ place_is g strides has (tuple_of g.shape f) is.0
      ∙ ap (λ w. pos (get_or g.places 0 0) +ℤ w) (way_tuple g.shape (tuple_of g.shape f) strides is.0 ∙ ap own is.1)

  far : (f : ℕ) → f < elements_of to → distance g.places f ≡ own f
  far f lt = ap (λ z. z +ℤ neg_ℤ (pos (get_or g.places 0 0))) (place_by f (omega (arith, lt, many))) ∙ back (pos (get_or g.places 0 0)) (own f)
    where
      back : (a b : ℤ) → (a +ℤ b) +ℤ neg_ℤ a ≡ b
      back a b = omega (arith, ints)

  pub begins_by : (t : List ℕ) → IsIndex to t → begins_at (get_or g.places 0 0) (steps_in g.places to) t ≡ pos (get_or g.places 0 0) +ℤ way_of to steps (number to t)
  begins_by t is = ap (λ w. pos (get_or g.places 0 0) +ℤ w) (steps_same g.places own to t is far ∙ way_tuple to t steps is)

  abbrev tested : List ℕ → Bool
  tested t = int_eq (pos (get_or g.places (number to t) 0)) (begins_at (get_or g.places 0 0) (steps_in g.places to) t)

  cancel : (a b c : ℤ) → a +ℤ b ≡ a +ℤ c → b ≡ c
  cancel a b c e = omega (arith, ints, e)

  pub leads_even : leads_to g.shape strides to ≡ true → is_even to g.places ≡ true
  leads_even e = sym (all_plain tested (indices to)) ∙ all_indexes (λ b. b) tested to (λ t is.
      let lt : number to t < elements_of g.shape = omega (arith, number-below to t is, many) in
      (Decides-int_eq (pos (get_or g.places (number to t) 0)) (begins_at (get_or g.places 0 0) (steps_in g.places to) t)).1
      (place_by (number to t) lt ∙ ap (λ w. pos (get_or g.places 0 0) +ℤ w) (leads_all g.shape strides length_same to many some e (number to t)) ∙ sym (begins_by t is)))
    where
      all_plain : (p : List ℕ → Bool) (ts : List (List ℕ)) → list_all (λ b. b) (map p ts) ≡ list_all p ts
      all_plain p [] = refl
      all_plain p (t ∷ ts) = ap (λ b. p t && b) (all_plain p ts)

  pub even_leads : is_even to g.places ≡ true → leads_to g.shape strides to ≡ true
  even_leads e = all_leads g.shape strides length_same to many some (λ f lt.
      let is = tuple_is to f (omega (arith, lt, many)) in
      let u : List ℕ = tuple_of to f in
      let here : pos (get_or g.places (number to u) 0) ≡ begins_at (get_or g.places 0 0) (steps_in g.places to) u
      = (Decides-int_eq (pos (get_or g.places (number to u) 0)) (begins_at (get_or g.places 0 0) (steps_in g.places to) u)).0 (at_each tested to u e (tuple_of_index to u is.0)) in
      let at : pos (get_or g.places f 0) ≡ pos (get_or g.places 0 0) +ℤ way_of to steps f
      = ap (λ k. pos (get_or g.places k 0)) (sym is.1) ∙ here ∙ begins_by (tuple_of to f) is.0 ∙ ap (λ k. pos (get_or g.places 0 0) +ℤ way_of to steps k) is.1 in
      cancel (pos (get_or g.places 0 0)) (own f) (way_of to steps f) (sym (place_by f lt) ∙ at))
