-- Grammars whose texts have at least as many words as their meanings weigh.
use Rattle.std.proofs.Common.{◌≡◌, ℕ, suc, ◌+◌, ◌-◌, ◌≤◌, true, false, List, [], ◌∷◌, Option, None, Some, inl, inr, refl, ap, arith}
use Rattle.std.specs.Prelude.{◌==◌, ◌&&◌, not, if◌then◌else◌}
use Rattle.std.proofs.lemmas.Bool.{cond_both}
use Rattle.nd_model.specs.Grammar.Grammar.{Gram, Done, Here, One, Then, Or, Many, Shut, has, Repeats, Spans}
use Rattle.nd_model.specs.Grammar.Token.{Word, End, Token}
use Rattle.nd_model.specs.Grammar.Lexing.{is_end, words_in}
use Rattle.nd_model.specs.Grammar.Syntax.{Expr, Items, IndexItem, Listed, Bound, Omitted, Given, Elements, Element, Single, Nested}
use Rattle.nd_model.specs.Grammar.Tokens.{tokens_of, tokens_of_index, tokens_of_items, tokens_of_item, tokens_of_bound, tokens_of_step, tokens_of_elements, tokens_of_others, tokens_of_element}
use Rattle.nd_model.specs.Grammar.Kinds.{kind_of_word, kind, NAME, NEWAXIS, OPEN, OPEN_NONE, CLOSE, OPEN_BRACKET, CLOSE_BRACKET, COMMA_MORE, COMMA_LAST, COLON, ELLIPSIS, NONE, QUOTED, DOT, NP_NEWAXIS}
use Rattle.nd_model.specs.Grammar.Cells.{items_of, elements_of, sliced, between, mapped, some, separated, Spot, Anywhere, FirstItem, LaterItem, Level, Bottom, Under, Inside, enter, name, grouped, bound_in, step_in, slice, newaxis_name, newaxis, element, elements, list, part, item, nothing, contents, index}
use Rattle.nd_model.proofs.Parsing.Sets.{true_false}

-- ---- words

-- no token of the set is the end of a statement: not one in its place, nor one that begins elsewhere than in column 1
abbrev pub HasNoEnd : ℕ → Type 0
HasNoEnd set = (has set 25 ≡ false) × (has set 127 ≡ false)

no_end_word : (set : ℕ) (w : Word) (rest : List Token) → has set 25 ≡ false → has set (kind_of_word w rest) ≡ true → is_end w ≡ false
no_end_word set End rest outside h = true_false _ h outside
no_end_word set _ rest outside h = refl

no_end : (set : ℕ) (t : Token) (rest : List Token) → HasNoEnd set → has set (kind (t ∷ rest)) ≡ true → is_end t.word ≡ false
no_end set t rest outside =
    cond_both (t.starts && not (t.column == 1)) 127 (kind_of_word t.word rest) (λ k. has set k ≡ true → is_end t.word ≡ false)
    (λ _ h. true_false _ h outside.1) (λ _ h. no_end_word set t.word rest outside.0 h)

one_more : (t : Token) (rest : List Token) → is_end t.word ≡ false → words_in (t ∷ rest) ≡ suc (words_in rest)
one_more t rest e = ap (λ b. if b then words_in rest else suc (words_in rest)) e

none_less : (t : Token) (rest : List Token) → words_in rest ≤ words_in (t ∷ rest)
none_less t rest = cond_both (is_end t.word) (words_in rest) (suc (words_in rest)) (λ n. words_in rest ≤ n) (λ _. omega arith) (λ _. omega arith)

-- ---- grammars

-- A text of the grammar has at least as many words as its meaning weighs.
pub record Weighs {C : Type 0} (g : Gram Token C) (weight : C → ℕ) : Type 0 where
  pub words : (ts rest : List Token) (c : C) → Spans kind g ts rest c → weight c + words_in rest ≤ words_in ts

pub done : {C : Type 0} (weight : C → ℕ) (d : C) → weight d ≤ 0 → Weighs (Done d) weight
done weight d none = record { words = λ ts rest c h. (let e = ap words_in h.0 in let f = ap weight h.1 in omega arith) }

pub here : {C : Type 0} (f : List Token → C) → Weighs (Here f) (λ _. 0)
here f = record { words = λ ts rest c h. (let e = ap words_in h.0 in omega arith) }

pub one : {C : Type 0} (set : ℕ) (f : Token → C) (weight : C → ℕ) → HasNoEnd set → ((t : Token) → weight (f t) ≤ 1) → Weighs (One set f) weight
one set f weight outside le = record {
  words = λ ts rest c h. (
      let e = ap words_in h.1 in let m = one_more h.0 rest (no_end set h.0 rest outside h.2) in let d = ap weight h.3 in let l = le h.0 in omega arith);
}

-- a token of the set
pub token_weighs : (set : ℕ) → HasNoEnd set → Weighs (One set (λ (t : Token). t)) (λ _. 1)
token_weighs set outside = one set (λ t. t) (λ _. 1) outside (λ t. omega arith)

-- a token that does not count
pub skip : {C : Type 0} (set : ℕ) (f : Token → C) → Weighs (One set f) (λ _. 0)
skip set f = record { words = λ ts rest c h. (let e = ap words_in h.1 in let m = none_less h.0 rest in omega arith) }

pub both : {A B C : Type 0} {f : A → B → C} {a : Gram Token A} {b : Gram Token B} {v : A → ℕ} {w : B → ℕ} (weight : C → ℕ)
    → Weighs a v → Weighs b w → ((x : A) (y : B) → weight (f x y) ≤ v x + w y) → Weighs (Then f a b) weight
both weight p q le = record {
  words = λ ts rest c h. (
      let x = p.words ts h.0 h.1 h.3 in let y = q.words h.0 rest h.2 h.4 in let l = le h.1 h.2 in let e = ap weight h.5 in omega arith);
}

pub either : {C : Type 0} {set : ℕ} {a b : Gram Token C} {weight : C → ℕ} → Weighs a weight → Weighs b weight → Weighs (Or set a b) weight
either p q = record { words = λ ts rest c h. elim h [ inl x ↦ p.words ts rest c x | inr x ↦ q.words ts rest c x ] }

pub shut : {C : Type 0} {set why : ℕ} {weight : C → ℕ} → Weighs (Shut {C = C} set why) weight
shut = record { words = λ ts rest c h. absurd h }

abbrev pub total : {A : Type 0} → (A → ℕ) → List A → ℕ
total weight [] = 0
total weight (x ∷ xs) = weight x + total weight xs

repeats : {A : Type 0} {a : Gram Token A} {v : A → ℕ} → Weighs a v → (xs : List A) (ts rest : List Token)
    → Repeats (Spans kind a) ts rest xs → total v xs + words_in rest ≤ words_in ts
repeats p [] ts rest h = let e = ap words_in h in omega arith
repeats p (x ∷ xs) ts rest h = let y = p.words ts h.0 x h.1 in let z = repeats p xs h.0 rest h.2 in omega arith

pub many : {A : Type 0} {set : ℕ} {a : Gram Token A} {v : A → ℕ} → Weighs a v → Weighs (Many set (λ (xs : List A). xs) a) (total v)
many {v = v} p = record { words = λ ts rest c h. (let r = repeats p h.0 ts rest h.1 in let e = ap (total v) h.2 in omega arith) }

pub lighter : {C : Type 0} {g : Gram Token C} {v : C → ℕ} (weight : C → ℕ) → Weighs g v → ((c : C) → weight c ≤ v c) → Weighs g weight
lighter weight p le = record { words = λ ts rest c h. (let x = p.words ts rest c h in let l = le c in omega arith) }

pub enclosed : {A : Type 0} {inner : Gram Token A} {v : A → ℕ} (first last : ℕ) → HasNoEnd first → HasNoEnd last → Weighs inner v
    → Weighs (between first inner last) (λ x. 2 + v x)
enclosed {v = v} first last p q r =
    both (λ x. 2 + v x) (token_weighs first p) (both (λ x. 1 + v x) r (token_weighs last q) (λ x _. omega arith)) (λ _ x. omega arith)

pub in_parentheses : {A : Type 0} {inner : Gram Token A} {v : A → ℕ} → Weighs inner v → Weighs (between OPEN inner CLOSE) (λ x. 2 + v x)
unfolding has
in_parentheses p = enclosed OPEN CLOSE (refl, refl) (refl, refl) p

-- ---- levels

-- a list with its brackets
abbrev list_tokens : Elements → ℕ
list_tokens es = 2 + tokens_of_elements es

abbrev pub LevelWeighs : Level → Type 0
LevelWeighs Bottom = Unit {0}
LevelWeighs (Under l e u s) = LevelWeighs l × ((s : Spot) → Weighs (e s) tokens_of) × Weighs u tokens_of × Weighs s list_tokens

pub record InsideWeighs (inside : Inside) : Type 0 where
  pub level : LevelWeighs inside.level
  pub expr : (s : Spot) → Weighs (inside.expr s) tokens_of
  pub unary : Weighs inside.unary tokens_of
  pub list : Weighs inside.list list_tokens

pub entered : {C : Type 0} (i : Level) (set : ℕ) (inner : Inside → Gram Token C) (weight : C → ℕ) → LevelWeighs i
    → ((inside : Inside) → InsideWeighs inside → Weighs (inner inside) weight) → Weighs (enter i set inner) weight
entered Bottom set inner weight p f = shut
entered (Under l e u s) set inner weight p f = f _ (record { level = p.0; expr = p.1; unary = p.2; list = p.3 })

-- where it is missing it weighs nothing
abbrev pub maybe : {C : Type 0} → (C → ℕ) → Option C → ℕ
maybe weight None = 0
maybe weight (Some x) = weight x

pub optional : {C : Type 0} {set : ℕ} {g : Gram Token C} {v : C → ℕ} → Weighs g v → Weighs (Or set (some g) (Done None)) (maybe v)
optional {v = v} p = either (both (maybe v) p (done (λ _. 0) tt (omega arith)) (λ x _. omega arith)) (done (maybe v) None (omega arith))

pub name_weighs : Weighs name (λ _. 1)
unfolding name has
name_weighs = either (one NAME _ (λ _. 1) (refl, refl) (λ t. omega arith)) shut

pub grouped_weighs : (opening : ℕ) (i : Level) → HasNoEnd opening → LevelWeighs i → Weighs (grouped opening i) (λ e. 2 + tokens_of e)
unfolding grouped has
grouped_weighs opening i outside p = entered i opening _ _ p (λ inside q. enclosed opening CLOSE outside (refl, refl) (q.expr Anywhere))

-- the same texts
pub mapped_weighs : {B C : Type 0} {g : Gram Token B} {v : B → ℕ} (f : B → C) (weight : C → ℕ) → Weighs g v → ((x : B) → weight (f x) ≤ v x) → Weighs (mapped f g) weight
mapped_weighs f weight p le = both weight p (done (λ _. 0) tt (omega arith)) (λ x _. let l = le x in omega arith)

-- ---- indexes

bound_weighs : (inside : Inside) → InsideWeighs inside → Weighs (bound_in inside) tokens_of_bound
unfolding bound_in
bound_weighs inside q = either (mapped_weighs Given tokens_of_bound (q.expr Anywhere) (λ e. omega arith)) (done tokens_of_bound Omitted (omega arith))

step_of_bound : (b : Bound) → tokens_of_step b ≤ 1 + tokens_of_bound b
step_of_bound Omitted = omega arith
step_of_bound (Given e) = omega arith

step_weighs : (inside : Inside) → InsideWeighs inside → Weighs (step_in inside) tokens_of_step
unfolding step_in has
step_weighs inside q =
    either (both tokens_of_step (token_weighs COLON (refl, refl)) (bound_weighs inside q) (λ _ b. let l = step_of_bound b in omega arith)) (done tokens_of_step Omitted (omega arith))

-- a slice without its first bound
abbrev slice_tokens : Bound × Bound → ℕ
slice_tokens b = 1 + tokens_of_bound b.0 + tokens_of_step b.1

slice_weighs : (inside : Inside) → InsideWeighs inside → Weighs (slice inside) slice_tokens
unfolding slice has
slice_weighs inside q =
    both slice_tokens (token_weighs COLON (refl, refl)) (both (λ b. slice_tokens b - 1) (bound_weighs inside q) (step_weighs inside q) (λ _ _. omega arith)) (λ _ b. omega arith)

newaxis_name_weighs : Weighs newaxis_name (λ i. tokens_of_item i - 2)
unfolding newaxis_name has
newaxis_name_weighs = either (one NEWAXIS _ (λ i. tokens_of_item i - 2) (refl, refl) (λ t. omega arith)) shut

newaxis_weighs : Weighs newaxis tokens_of_item
unfolding newaxis has
newaxis_weighs =
    both tokens_of_item (token_weighs NP_NEWAXIS (refl, refl)) (both (λ i. tokens_of_item i - 1) (token_weighs DOT (refl, refl)) newaxis_name_weighs (λ _ i. omega arith)) (λ _ i. omega arith)

abbrev pub separated_tokens : {A : Type 0} → (A → ℕ) → List A → ℕ
separated_tokens weight [] = 0
separated_tokens weight (x ∷ xs) = weight x + total (λ y. 1 + weight y) xs

pub separated_weighs : {A : Type 0} {first part : Gram Token A} {v : A → ℕ} (comma last : ℕ) (weight : List A → ℕ) → HasNoEnd comma → Weighs first v → Weighs part v
    → ((x : A) (xs : List A) → weight (x ∷ xs) ≤ v x + total (λ y. 1 + v y) xs) → Weighs (separated comma last first part) weight
separated_weighs {v = v} comma last weight outside p q le =
    both weight p
    (both (total (λ y. 1 + v y)) (many (both (λ y. 1 + v y) (token_weighs comma outside) q (λ _ y. omega arith)))
    (either (skip last _) (done (λ _. 0) tt (omega arith))) (λ xs _. omega arith))
    le

pub element_weighs : (inside : Inside) → InsideWeighs inside → Weighs (element inside) tokens_of_element
element_weighs inside q =
    either (mapped_weighs Nested tokens_of_element q.list (λ es. omega arith)) (mapped_weighs Single tokens_of_element (q.expr Anywhere) (λ e. omega arith))

others_weigh : (es : List Element) → tokens_of_others (elements_of es) ≤ total (λ e. 1 + tokens_of_element e) es
others_weigh [] = omega arith
others_weigh (e ∷ es) = let h = others_weigh es in omega arith

elements_weigh : (es : List Element) → tokens_of_elements (elements_of es) ≤ separated_tokens tokens_of_element es
elements_weigh [] = omega arith
elements_weigh (e ∷ es) = let h = others_weigh es in omega arith

pub list_weighs : (i : Level) → LevelWeighs i → Weighs (list i) list_tokens
unfolding list elements has
list_weighs i p =
    entered i OPEN_BRACKET _ _ p (λ inside q. enclosed OPEN_BRACKET CLOSE_BRACKET (refl, refl) (refl, refl)
    (mapped_weighs elements_of tokens_of_elements
    (either (separated_weighs COMMA_MORE COMMA_LAST (separated_tokens tokens_of_element) (refl, refl) (element_weighs inside q) (element_weighs inside q) (λ e es. omega arith))
    (done (separated_tokens tokens_of_element) [] (omega arith)))
    (λ es. elements_weigh es)))

sliced_weigh : (e : Expr) (b : Option (Bound × Bound)) → tokens_of_item (sliced e b) ≤ tokens_of e + maybe slice_tokens b
sliced_weigh e None = omega arith
sliced_weigh e (Some b) = omega arith

part_weighs : (s : Spot) (inside : Inside) → InsideWeighs inside → Weighs (part s inside) tokens_of_item
unfolding part
part_weighs s inside q = both tokens_of_item (q.expr s) (optional (slice_weighs inside q)) (λ e b. sliced_weigh e b)

item_weighs : (s : Spot) (inside : Inside) → InsideWeighs inside → Weighs (item s inside) tokens_of_item
unfolding item has
item_weighs s inside q =
    either (mapped_weighs _ tokens_of_item (slice_weighs inside q) (λ b. omega arith))
    (either (one ELLIPSIS _ tokens_of_item (refl, refl) (λ t. omega arith))
    (either (one NONE _ tokens_of_item (refl, refl) (λ t. omega arith))
    (either newaxis_weighs
    (either (mapped_weighs Listed tokens_of_item (list_weighs inside.level q.level) (λ es. omega arith)) (part_weighs s inside q)))))

-- what the items of an index count at least
abbrev listed_tokens : List IndexItem → ℕ
listed_tokens [] = 2
listed_tokens (i ∷ is) = separated_tokens tokens_of_item (i ∷ is)

nothing_weighs : (i : Level) → LevelWeighs i → Weighs (nothing i) listed_tokens
unfolding nothing has
nothing_weighs i p = entered i OPEN_NONE _ _ p (λ inside q. both listed_tokens (token_weighs OPEN_NONE (refl, refl)) (token_weighs CLOSE (refl, refl)) (λ _ _. omega arith))

more_items : (is : List IndexItem) → tokens_of_items (items_of is) ≤ total (λ i. 1 + tokens_of_item i) is
more_items [] = omega arith
more_items (i ∷ is) = let h = more_items is in omega arith

all_items : (is : List IndexItem) → tokens_of_index (Items (items_of is)) ≤ listed_tokens is
all_items [] = omega arith
all_items (i ∷ is) = let h = more_items is in omega arith

contents_weigh : (inside : Inside) → InsideWeighs inside → Weighs (contents inside) tokens_of_index
unfolding contents has
contents_weigh inside q =
    either (one QUOTED _ tokens_of_index (refl, refl) (λ t. omega arith))
    (mapped_weighs _ tokens_of_index
    (either (nothing_weighs inside.level q.level)
    (separated_weighs COMMA_MORE COMMA_LAST listed_tokens (refl, refl) (item_weighs FirstItem inside q) (item_weighs LaterItem inside q) (λ i is. omega arith)))
    (λ is. all_items is))

pub index_weighs : (i : Level) → LevelWeighs i → Weighs (index i) (λ x. 2 + tokens_of_index x)
unfolding index has
index_weighs i p = entered i OPEN_BRACKET _ _ p (λ inside q. enclosed OPEN_BRACKET CLOSE_BRACKET (refl, refl) (refl, refl) (contents_weigh inside q))
