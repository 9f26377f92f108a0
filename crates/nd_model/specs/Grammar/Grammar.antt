-- Grammars as data: the texts of a grammar with their values, and the fronts of its texts.
use Rattle.std.specs.Prelude.{◌≡◌, ℕ, ◌==◌, Bool, true, List, [], ◌∷◌, ◌⊎◌}
use Rattle.std.specs.Int.{bit_at}

-- A grammar whose texts are lists of T and mean a C. A set of kinds of tokens is a number, by its bits.
-- The set of Or and Many is for the reader alone: the tokens with which the first part, or a further one, begins.
pub data Gram (T : Type 0) : Type 0 → Type 1 where
  -- nothing
  Done : {C : Type 0} → C → Gram T C
  -- nothing; what it means depends on the tokens that stand here
  Here : {C : Type 0} → (List T → C) → Gram T C
  -- a token of the set
  One : {C : Type 0} → ℕ → (T → C) → Gram T C
  -- one part, and then another
  Then : {A B C : Type 0} → (A → B → C) → Gram T A → Gram T B → Gram T C
  Or : {C : Type 0} → ℕ → Gram T C → Gram T C → Gram T C
  -- any number of parts
  Many : {A C : Type 0} → ℕ → (List A → C) → Gram T A → Gram T C
  -- no text: a token of the set is refused here, for a reason
  Shut : {C : Type 0} → (set why : ℕ) → Gram T C

-- where reading stops: how many tokens are left, and why the next one is refused, or 0
pub record Stop : Type 0 where
  pub left : ℕ
  pub why : ℕ

-- whether a token of this kind is in the set
unfoldable pub has : ℕ → ℕ → Bool
has set k = bit_at set k == 1

abbrev pub Repeats : {T A : Type 0} → (List T → List T → A → Type 0) → List T → List T → List A → Type 0
Repeats R ts rest [] = rest ≡ ts
Repeats {T} R ts rest (x ∷ xs) = (mid : List T) × R ts mid x × Repeats R mid rest xs

-- The tokens of ts up to rest are a text of the grammar, with this meaning.
abbrev pub Spans : {T C : Type 0} → (List T → ℕ) → Gram T C → List T → List T → C → Type 0
Spans kind (Done c) ts rest d = (rest ≡ ts) × (d ≡ c)
Spans kind (Here f) ts rest d = (rest ≡ ts) × (d ≡ f ts)
Spans {T} kind (One set f) ts rest d = (t : T) × (ts ≡ t ∷ rest) × (has set (kind (t ∷ rest)) ≡ true) × (d ≡ f t)
Spans {T} kind (Then {A} {B} f a b) ts rest d = (mid : List T) × (x : A) × (y : B) × Spans kind a ts mid x × Spans kind b mid rest y × (d ≡ f x y)
Spans kind (Or set a b) ts rest d = Spans kind a ts rest d ⊎ Spans kind b ts rest d
Spans kind (Many {A} set f a) ts rest d = (xs : List A) × Repeats (Spans kind a) ts rest xs × (d ≡ f xs)
Spans kind (Shut set why) ts rest d = ⊥

-- The tokens of ts up to rest are the front of a text: a front of the first part, or the first part and a front of the rest.
abbrev pub Reaches : {T C : Type 0} → (List T → ℕ) → Gram T C → List T → List T → Type 0
Reaches kind (Done c) ts rest = rest ≡ ts
Reaches kind (Here f) ts rest = rest ≡ ts
Reaches {T} kind (One set f) ts rest = (rest ≡ ts) ⊎ ((t : T) × (ts ≡ t ∷ rest) × (has set (kind (t ∷ rest)) ≡ true))
Reaches {T} kind (Then {A} f a b) ts rest = Reaches kind a ts rest ⊎ ((mid : List T) × (x : A) × Spans kind a ts mid x × Reaches kind b mid rest)
Reaches kind (Or set a b) ts rest = Reaches kind a ts rest ⊎ Reaches kind b ts rest
Reaches {T} kind (Many {A} set f a) ts rest = (mid : List T) × (xs : List A) × Repeats (Spans kind a) ts mid xs × ((rest ≡ mid) ⊎ Reaches kind a mid rest)
Reaches kind (Shut set why) ts rest = rest ≡ ts

-- The tokens of ts up to rest are such a front, and the next token is refused there, for the reason w.
abbrev pub Opens : {T C : Type 0} → (List T → ℕ) → Gram T C → List T → List T → ℕ → Type 0
Opens kind (Done c) ts rest w = ⊥
Opens kind (Here f) ts rest w = ⊥
Opens kind (One set f) ts rest w = ⊥
Opens {T} kind (Then {A} f a b) ts rest w = Opens kind a ts rest w ⊎ ((mid : List T) × (x : A) × Spans kind a ts mid x × Opens kind b mid rest w)
Opens kind (Or set a b) ts rest w = Opens kind a ts rest w ⊎ Opens kind b ts rest w
Opens {T} kind (Many {A} set f a) ts rest w = (mid : List T) × (xs : List A) × Repeats (Spans kind a) ts mid xs × Opens kind a mid rest w
Opens {T} kind (Shut set why) ts rest w = (why ≡ w) × (t : T) × (more : List T) × (rest ≡ ts) × (ts ≡ t ∷ more) × (has set (kind (t ∷ more)) ≡ true)
