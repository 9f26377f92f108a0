-- Lists that grow by what is told of one thing after another, unless it is there.
use Rattle.std.proofs.Common.{◌≡◌, ℕ, zero, suc, ◌+◌, ◌<◌, Bool, true, false, cond, ◌↔◌, ◌⊎◌, get_or, arith, List, [], ◌∷◌, ◌++◌, map, length, refl, sym, ap, subst, ◌∙◌, inl, inr}
use Rattle.std.proofs.lemmas.Bool.{cases_Bool, cases_eq, both_ways, false≢true, or_cases, or_parts}
use Rattle.std.proofs.lemmas.List.{map-append}
use Rattle.std.proofs.lemmas.List.Elements.{Contains-append_left, Contains-push, Contains-push_cases}
use Rattle.std.specs.Bool.{Decides}
use Rattle.std.specs.List.{Contains, list_any}
use Rattle.nd_notebook.specs.Readers.{AreAll, AreUnlike}

-- ---- elements

contains_nothing : {X : Type 0} (x : X) → Contains [] x → ⊥
contains_nothing x h = absurd (omega (arith, h.1))

contains_head : {X : Type 0} (x : X) (xs : List X) → Contains (x ∷ xs) x
contains_head x xs = (0, omega arith, refl)

contains_cons : {X : Type 0} (x y : X) (xs : List X) → Contains xs y → Contains (x ∷ xs) y
contains_cons x y xs h = (suc h.0, omega (arith, h.1), h.2)

contains_cases : {X : Type 0} (x y : X) (xs : List X) → Contains (x ∷ xs) y → (x ≡ y) ⊎ Contains xs y
contains_cases {X} x y xs h = by h.0 h.1 h.2
  where
    by : (k : ℕ) → k < length (x ∷ xs) → get_or (x ∷ xs) k y ≡ y → (x ≡ y) ⊎ Contains xs y
    by zero lt is = inl is
    by (suc k) lt is = inr (k, omega arith, is)

unlike_push : {X : Type 0} (xs : List X) (y : X) → AreUnlike xs → (Contains xs y → ⊥) → AreUnlike (xs ++ y ∷ [])
unlike_push [] y unlike lacks = (contains_nothing y, tt)
unlike_push (x ∷ xs) y unlike lacks = (
  λ h. elim (Contains-push_cases xs y x h) [
    | inl there ↦ unlike.0 there
    | inr same ↦ lacks (subst (λ z. Contains (x ∷ xs) z) (sym same) (contains_head x xs))
  ],
  unlike_push xs y unlike.1 (λ h. lacks (contains_cons x y xs h)),
)

-- an element passes a test that tells of what stands for it
any_there : {X Y : Type 0} (f : X → Y) (y : Y) (test : X → Bool) (xs : List X) → ((x : X) → Decides (test x) (f x ≡ y)) → list_any test xs ≡ true → Contains (map f xs) y
any_there f y test [] tells h = absurd (false≢true h)
any_there f y test (x ∷ xs) tells h = elim (or_cases (test x) (list_any test xs) h) [
  | inl here ↦ subst (λ z. Contains (f x ∷ map f xs) z) ((tells x).0 here) (contains_head (f x) (map f xs))
  | inr there ↦ contains_cons (f x) y (map f xs) (any_there f y test xs tells there)
]

any_lacks : {X Y : Type 0} (f : X → Y) (y : Y) (test : X → Bool) (xs : List X) → ((x : X) → Decides (test x) (f x ≡ y)) → list_any test xs ≡ false → Contains (map f xs) y → ⊥
any_lacks f y test [] tells h there = contains_nothing y there
any_lacks f y test (x ∷ xs) tells h there =
    let p = or_parts (test x) (list_any test xs) h in
    elim (contains_cases (f x) y (map f xs) there) [
      | inl same ↦ both_ways (test x) p.0 ((tells x).1 same)
      | inr rest ↦ any_lacks f y test xs tells p.1 rest
    ]

-- ---- what is told of one thing

-- the new list is the old one and all that is P, each once
pub record Notes {X : Type 0} (P : X → Type 0) (old new : List X) : Type 0 where
  pub all : (x : X) → Contains new x ↔ (Contains old x ⊎ P x)
  pub once : AreUnlike old → AreUnlike new

pub notes_nothing : {X : Type 0} (P : X → Type 0) (xs : List X) → ((x : X) → P x → ⊥) → Notes P xs xs
notes_nothing P xs none = record {
  all = λ x. (λ h. inl h, λ h. elim h [ inl there ↦ there | inr p ↦ absurd (none x p) ]);
  once = λ unlike. unlike;
}

notes_there : {X : Type 0} (P : X → Type 0) (y : X) (xs : List X) → ((x : X) → P x → x ≡ y) → Contains xs y → Notes P xs xs
notes_there P y xs one there = record {
  all = λ x. (λ h. inl h, λ h. elim h [ inl old ↦ old | inr p ↦ subst (λ z. Contains xs z) (sym (one x p)) there ]);
  once = λ unlike. unlike;
}

notes_new : {X : Type 0} (P : X → Type 0) (y : X) (xs : List X) → P y → ((x : X) → P x → x ≡ y) → (Contains xs y → ⊥) → Notes P xs (xs ++ y ∷ [])
notes_new P y xs is one lacks = record {
  all = λ x. (
    λ h. elim (Contains-push_cases xs y x h) [ inl old ↦ inl old | inr same ↦ inr (subst P same is) ],
    λ h. elim h [
      | inl old ↦ Contains-append_left xs (y ∷ []) x old
      | inr p ↦ subst (λ z. Contains (xs ++ y ∷ []) z) (sym (one x p)) (Contains-push xs y)
    ],
  );
  once = λ unlike. unlike_push xs y unlike lacks;
}

-- a thing is added unless a test finds it
pub noted : {X Y : Type 0} (f : X → Y) (P : Y → Type 0) (x : X) (test : X → Bool) (old new : List X) → P (f x) → ((y : Y) → P y → y ≡ f x)
    → ((y : X) → Decides (test y) (f y ≡ f x)) → new ≡ cond (list_any test old) old (old ++ x ∷ []) → Notes P (map f old) (map f new)
noted f P x test old new is one tells grows = elim (cases_Bool (list_any test old)) [
  | inl there ↦
      let same : new ≡ old = grows ∙ ap (λ t. cond t old (old ++ x ∷ [])) there in
      subst (λ l. Notes P (map f old) (map f l)) (sym same) (notes_there P (f x) (map f old) one (any_there f (f x) test old tells there))
  | inr lacks ↦
      let more : map f new ≡ map f old ++ f x ∷ [] = ap (map f) (grows ∙ ap (λ t. cond t old (old ++ x ∷ [])) lacks) ∙ map-append f old (x ∷ []) in
      subst (λ l. Notes P (map f old) l) (sym more) (notes_new P (f x) (map f old) is one (any_lacks f (f x) test old tells lacks))
]

-- ---- what is told of one thing after another

-- the new list is the old one and all that is told of the first things, each once
pub record Adds {X : Type 0} (T : ℕ → X → Type 0) (count : ℕ) (old new : List X) : Type 0 where
  pub all : (x : X) → Contains new x ↔ (Contains old x ⊎ ((k : ℕ) × (k < count) × T k x))
  pub once : AreUnlike old → AreUnlike new

pub adds_nothing : {X : Type 0} (T : ℕ → X → Type 0) (xs : List X) → Adds T 0 xs xs
adds_nothing T xs = record {
  all = λ x. (λ h. inl h, λ h. elim h [ inl old ↦ old | inr t ↦ absurd (omega (arith, t.1)) ]);
  once = λ unlike. unlike;
}

pub adds_more : {X : Type 0} (T : ℕ → X → Type 0) (P : X → Type 0) (k : ℕ) (old mid new : List X) → ((x : X) → P x ↔ T k x) → Adds T k old mid → Notes P mid new → Adds T (k + 1) old new
adds_more T P k old mid new same so_far notes = record {
  all = λ x. (
    λ h. elim ((notes.all x).0 h) [
      | inl there ↦ elim ((so_far.all x).0 there) [ inl first ↦ inl first | inr t ↦ inr (t.0, omega (arith, t.1), t.2) ]
      | inr p ↦ inr (k, omega arith, (same x).0 p)
    ],
    λ h. elim h [
      | inl first ↦ (notes.all x).1 (inl ((so_far.all x).1 (inl first)))
      | inr t ↦ elim (cases_eq t.0 k) [
        | inl is ↦ (notes.all x).1 (inr ((same x).1 (subst (λ j. T j x) is t.2)))
        | inr other ↦ (notes.all x).1 (inl ((so_far.all x).1 (inr (t.0, omega (arith, t.1, other), t.2))))
      ]
    ],
  );
  once = λ unlike. notes.once (so_far.once unlike);
}

-- all is told
pub all_added : {X : Type 0} (T : ℕ → X → Type 0) (P : X → Type 0) (count : ℕ) (xs : List X) → ((x : X) → ((k : ℕ) × (k < count) × T k x) → P x) → ((x : X) → P x → (k : ℕ) × (k < count) × T k x)
    → Adds T count [] xs → AreAll P xs
all_added T P count xs sound full added = record {
  all = λ x. (
    λ h. elim ((added.all x).0 h) [ inl none ↦ absurd (contains_nothing x none) | inr t ↦ sound x t ],
    λ p. (added.all x).1 (inr (full x p)),
  );
  once = added.once tt;
}

-- all is told by two walks
pub all_added_twice : {X : Type 0} (S T : ℕ → X → Type 0) (P : X → Type 0) (m n : ℕ) (mid xs : List X) → ((x : X) → ((k : ℕ) × (k < m) × S k x) → P x) → ((x : X) → ((k : ℕ) × (k < n) × T k x) → P x)
    → ((x : X) → P x → ((k : ℕ) × (k < m) × S k x) ⊎ ((k : ℕ) × (k < n) × T k x)) → Adds S m [] mid → Adds T n mid xs → AreAll P xs
all_added_twice S T P m n mid xs first second full one two = record {
  all = λ x. (
    λ h. elim ((two.all x).0 h) [
      | inl there ↦ elim ((one.all x).0 there) [ inl none ↦ absurd (contains_nothing x none) | inr s ↦ first x s ]
      | inr t ↦ second x t
    ],
    λ p. elim (full x p) [
      | inl s ↦ (two.all x).1 (inl ((one.all x).1 (inr s)))
      | inr t ↦ (two.all x).1 (inr t)
    ],
  );
  once = two.once (one.once tt);
}
