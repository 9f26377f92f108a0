-- The axes of an array in some order: each is there once, and what is gathered over them is what is gathered in their own order.
use Rattle.std.proofs.Common.{◌≡◌, ℕ, zero, suc, ◌+◌, ◌<◌, ◌≤◌, Bool, true, false, ◌||◌, nat_eq, if◌then◌else◌, List, [], ◌∷◌, length, get_or, refl, sym, ap, ◌∙◌, ◌⊎◌, inl, inr, arith, eqb-true}
use Rattle.std.proofs.lemmas.Bool.{cases_Bool}
use Rattle.std.proofs.lemmas.Bool.Decides.{nat_tests}
use Rattle.nd_model.specs.Cells.Session.{is_in}
use Rattle.nd_model.specs.Indexing.Transposing.{position_in}
use Rattle.nd_model.specs.Arrays.Tuple.{count_up}
use Rattle.nd_model.proofs.Tuples.{length-count_up}

pub same_is : (a : ℕ) → nat_eq a a ≡ true
same_is a = grind (arith, nat_tests)

pub in_cases : (a b : ℕ) (bs : List ℕ) → is_in a (b ∷ bs) ≡ true → ((nat_eq a b ≡ true) × (a ≡ b)) ⊎ ((nat_eq a b ≡ false) × (is_in a bs ≡ true))
in_cases a b bs e = elim (cases_Bool (nat_eq a b)) [
  | inl is ↦ inl (is, eqb-true a b is)
  | inr other ↦ inr (other, rw other at e)
]

pub in_more : (a b : ℕ) (bs : List ℕ) → is_in a bs ≡ true → is_in a (b ∷ bs) ≡ true
in_more a b bs e = elim (nat_eq a b) as (λ t. (t || is_in a bs) ≡ true) [ true ↦ refl | false ↦ e ]

-- the list without the first of these
abbrev pub without : ℕ → List ℕ → List ℕ
without a [] = []
without a (b ∷ bs) = if nat_eq a b then bs else b ∷ without a bs

pub length-without : (a : ℕ) (xs : List ℕ) → is_in a xs ≡ true → length xs ≡ suc (length (without a xs))
length-without a [] e = absurd (cc)
length-without a (b ∷ bs) e = elim (in_cases a b bs e) [
  | inl is ↦ rw is.0 refl
  | inr other ↦ rw other.0 (ap suc (length-without a bs other.1))
]

pub in_without : (a b : ℕ) (xs : List ℕ) → nat_eq b a ≡ false → is_in b xs ≡ true → is_in b (without a xs) ≡ true
in_without a b [] differ e = absurd (cc)
in_without a b (x ∷ xs) differ e = elim (cases_Bool (nat_eq a x)) [
  | inl is ↦ let same : a ≡ x = eqb-true a x is in let other : nat_eq b x ≡ false = rw (← same) differ in rw is (rw other at e)
  | inr other ↦ rw other (elim (in_cases b x xs e) [
    | inl here ↦ rw here.0 refl
    | inr later ↦ in_more b x (without a xs) (in_without a b xs differ later.1)
  ])
]

pub of_without : (a b : ℕ) (xs : List ℕ) → is_in b (without a xs) ≡ true → is_in b xs ≡ true
of_without a b [] e = e
of_without a b (x ∷ xs) e = elim (cases_Bool (nat_eq a x)) [
  | inl is ↦ in_more b x xs (rw is at e)
  | inr other ↦ let e' : is_in b (x ∷ without a xs) ≡ true = rw other at e in elim (in_cases b x (without a xs) e') [
    | inl here ↦ rw here.0 refl
    | inr later ↦ in_more b x xs (of_without a b xs later.1)
  ]
]

abbrev pub AreDistinct : List ℕ → Type 0
AreDistinct [] = Unit {0}
AreDistinct (x ∷ xs) = (is_in x xs ≡ false) × AreDistinct xs

is_not : (b : Bool) → (b ≡ true → ⊥) → b ≡ false
is_not b never = elim (cases_Bool b) [ inl is ↦ absurd (never is) | inr other ↦ other ]

not_both : (b : Bool) → b ≡ true → b ≡ false → ⊥
not_both b e f = cc

pub distinct_without : (a : ℕ) (xs : List ℕ) → AreDistinct xs → AreDistinct (without a xs)
distinct_without a [] d = tt
distinct_without a (x ∷ xs) d = elim (cases_Bool (nat_eq a x)) [
  | inl is ↦ rw is d.1
  | inr other ↦ rw other (is_not (is_in x (without a xs)) (λ e. not_both (is_in x xs) (of_without a x xs e) d.0), distinct_without a xs d.1)
]

pub gone : (a : ℕ) (xs : List ℕ) → AreDistinct xs → is_in a (without a xs) ≡ false
gone a [] d = refl
gone a (x ∷ xs) d = elim (cases_Bool (nat_eq a x)) [
  | inl is ↦ let same : a ≡ x = eqb-true a x is in rw is (rw same d.0)
  | inr other ↦ rw (other, other) (gone a xs d.1)
]

abbrev pub AreIn : List ℕ → List ℕ → Type 0
AreIn ys xs = (y : ℕ) → is_in y ys ≡ true → is_in y xs ≡ true

-- the others are in what is left
others_in : (y : ℕ) (ys xs : List ℕ) → AreDistinct (y ∷ ys) → AreIn (y ∷ ys) xs → AreIn ys (without y xs)
others_in y ys xs d all a e =
    in_without y a xs (is_not (nat_eq a y) (λ is. let same : a ≡ y = eqb-true a y is in not_both (is_in y ys) (rw (← same) e) d.0)) (all a (in_more a y ys e))

pub enough : (ys xs : List ℕ) → AreDistinct ys → AreIn ys xs → length ys ≤ length xs
enough [] xs d all = omega arith
enough (y ∷ ys) xs d all =
    let here : is_in y xs ≡ true = all y (rw (same_is y) refl) in
    omega (arith, length-without y xs here, enough ys (without y xs) d.1 (others_in y ys xs d all))

length-less : (a : ℕ) (xs : List ℕ) → length xs ≤ suc (length (without a xs))
length-less a [] = omega arith
length-less a (x ∷ xs) = elim (cases_Bool (nat_eq a x)) [
  | inl is ↦ rw is (omega arith)
  | inr other ↦ rw other (omega (arith, length-less a xs))
]

-- no more than these distinct ones, and each of them: so they are distinct too
pub all_distinct : (xs ys : List ℕ) → AreDistinct ys → AreIn ys xs → length xs ≤ length ys → AreDistinct xs
all_distinct [] ys d all le = tt
all_distinct (x ∷ xs) ys d all le =
    let once : is_in x xs ≡ false = is_not (is_in x xs) (λ twice.
    let fewer = enough ys xs d (λ y e. elim (in_cases y x xs (all y e)) [ inl is ↦ let same : y ≡ x = is.1 in rw same twice | inr later ↦ later.1 ]) in absurd (omega (arith, fewer))) in
    let rest : AreIn (without x ys) xs = λ y e. elim (in_cases y x xs (all y (of_without x y ys e))) [
      | inl is ↦ let same : y ≡ x = is.1 in absurd (not_both (is_in x (without x ys)) (rw same at e) (gone x ys d))
      | inr later ↦ later.1
    ] in
    (once, all_distinct xs (without x ys) (distinct_without x ys d) rest (omega (arith, length-less x ys)))

-- ---- what is gathered over numbers

abbrev pub gather : {A : Type 0} → (A → A → A) → A → (ℕ → A) → List ℕ → A
gather op e f [] = e
gather op e f (x ∷ xs) = op (f x) (gather op e f xs)

pub gather_same : {A : Type 0} (op : A → A → A) (e : A) (f g : ℕ → A) (xs : List ℕ) → ((x : ℕ) → is_in x xs ≡ true → f x ≡ g x) → gather op e f xs ≡ gather op e g xs
gather_same op e f g [] same = refl
gather_same op e f g (x ∷ xs) same = λ i. op (same x (rw (same_is x) refl) i) (gather_same op e f g xs (λ y is. same y (in_more y x xs is)) i)

module _ {A : Type 0} (op : A → A → A) (e : A) (swap : (x y z : A) → op x (op y z) ≡ op y (op x z)) (f : ℕ → A) where
  gather_without : (a : ℕ) (xs : List ℕ) → is_in a xs ≡ true → gather op e f xs ≡ op (f a) (gather op e f (without a xs))
  gather_without a [] is = absurd (cc)
  gather_without a (b ∷ bs) is = elim (in_cases a b bs is) [
    | inl here ↦ let same : a ≡ b = here.1 in rw (here.0, same) refl
    | inr other ↦ rw other.0 (ap (op (f b)) (gather_without a bs other.1) ∙ swap (f b) (f a) (gather op e f (without a bs)))
  ]

  pub gather_order : (ys xs : List ℕ) → AreDistinct ys → AreIn ys xs → length xs ≡ length ys → gather op e f xs ≡ gather op e f ys
  gather_order [] [] d all le = refl
  gather_order [] (x ∷ xs) d all le = absurd (omega arith)
  gather_order (y ∷ ys) xs d all le =
      let here : is_in y xs ≡ true = all y (rw (same_is y) refl) in
      gather_without y xs here ∙ ap (op (f y)) (gather_order ys (without y xs) d.1 (others_in y ys xs d all) (omega (arith, length-without y xs here)))

-- ---- the numbers below n

pub in_count : (from n a : ℕ) → is_in a (count_up from n) ≡ true → (from ≤ a) × (a < from + n)
in_count from zero a e = absurd (cc)
in_count from (suc n) a e = elim (in_cases a from (count_up (from + 1) n) e) [
  | inl is ↦ (omega (arith, is.1), omega (arith, is.1))
  | inr later ↦ let r = in_count (from + 1) n a later.1 in (omega (arith, r.0), omega (arith, r.1))
]

pub count_distinct : (from n : ℕ) → AreDistinct (count_up from n)
count_distinct from zero = tt
count_distinct from (suc n) = (is_not (is_in from (count_up (from + 1) n)) (λ e. let r = in_count (from + 1) n from e in absurd (omega (arith, r.0))), count_distinct (from + 1) n)

-- AN ORDER of n axes
pub record IsOrder (n : ℕ) (order : List ℕ) : Type 0 where
  pub long : length order ≡ n
  pub each : (a : ℕ) → a < n → is_in a order ≡ true

module _ (n : ℕ) (order : List ℕ) (is : IsOrder n order) where
  all : AreIn (count_up 0 n) order
  all a e = let r = in_count 0 n a e in is.each a (omega (arith, r.1))

  pub order_distinct : AreDistinct order
  order_distinct = all_distinct order (count_up 0 n) (count_distinct 0 n) all (omega (arith, is.long, length-count_up 0 n))

  pub over_order : {A : Type 0} (op : A → A → A) (e : A) (f : ℕ → A) → ((x y z : A) → op x (op y z) ≡ op y (op x z)) → gather op e f order ≡ gather op e f (count_up 0 n)
  over_order op e f swap = gather_order op e swap f (count_up 0 n) order (count_distinct 0 n) all (is.long ∙ sym (length-count_up 0 n))

pub position_is : (a : ℕ) (order : List ℕ) → is_in a order ≡ true → (position_in order a < length order) × (get_or order (position_in order a) 0 ≡ a)
position_is a [] h = absurd (cc)
position_is a (b ∷ order) h = elim (in_cases a b order h) [
  | inl is ↦ rw is.0 (omega arith, sym is.1)
  | inr other ↦ let rest = position_is a order other.1 in rw other.0 (omega (arith, rest.0), rest.1)
]
