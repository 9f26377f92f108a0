-- Reading a rule as its function does.
use Rattle.std.proofs.Common.{◌≡◌, ◌≢◌, ◌-◌, ℕ, zero, suc, true, false, List, Ok, refl, arith}
use Rattle.nd_model.specs.Grammar.Grammar.{Gram}
use Rattle.nd_model.specs.Grammar.Predict.{next_in, read}
use Rattle.nd_model.specs.Grammar.Token as model
use Rattle.nd_model.specs.Grammar.Syntax.{Expr, Items, IndexItem, Listed, Elements, Nested}
use Rattle.nd_model.specs.Grammar.Kinds.{kind, QUOTED, OPEN_NONE, OPEN_TUPLE, OPEN_BRACKET, CLOSE, CLOSE_BRACKET}
use Rattle.nd_model.specs.Grammar.Cells.{Spot, Anywhere, Level, under, between, grouped, elements, elements_of, list, nothing, items_of, contents, index, unary, operation, chain, term, sum, shift, band, bxor, bor, expr, tuple}
use Rattle.nd_model.specs.Grammar.Cells as cells
use Rattle.nd_model.proofs.Parsing.Loops.{Shrinks, one_shrinks, then_shrinks}
use Rattle.nd_parse.specs.Reader.Gives.{inside}
use Rattle.nd_parse.proofs.reader.Levels.{enter_in}
use Rattle.nd_parse.specs.Rules.Readers.{items_of_index, no_items, list_item, operators, ranked, tuple_body}

-- ---- levels

pub grouped_is : (opening n : ℕ) (ts : List model.Token) → n ≢ 0 → read kind (grouped opening (under n)) ts ≡ read kind (between opening (expr Anywhere (under (n - 1))) CLOSE) ts
unfolding grouped
grouped_is opening n ts z = enter_in n opening (λ i. between opening (i.expr Anywhere) CLOSE) ts z

pub index_is : (n : ℕ) (ts : List model.Token) → n ≢ 0 → read kind (index (under n)) ts ≡ read kind (between OPEN_BRACKET (contents (inside (n - 1))) CLOSE_BRACKET) ts
unfolding index
index_is n ts z = enter_in n OPEN_BRACKET (λ i. between OPEN_BRACKET (contents i) CLOSE_BRACKET) ts z

pub nothing_is : (n : ℕ) (ts : List model.Token) → n ≢ 0 → read kind (nothing (under n)) ts ≡ read kind no_items ts
unfolding nothing
nothing_is n ts z = enter_in n OPEN_NONE (λ i. no_items) ts z

pub list_is : (n : ℕ) (ts : List model.Token) → n ≢ 0 → read kind (list (under n)) ts ≡ read kind (between OPEN_BRACKET (cells.mapped elements_of (elements (inside (n - 1)))) CLOSE_BRACKET) ts
unfolding list
list_is n ts z = enter_in n OPEN_BRACKET (λ i. between OPEN_BRACKET (cells.mapped elements_of (elements i)) CLOSE_BRACKET) ts z

pub tuple_is : (n : ℕ) (ts : List model.Token) → n ≢ 0 → read kind (tuple (under n)) ts ≡ read kind (between OPEN_TUPLE (tuple_body (inside (n - 1))) CLOSE) ts
unfolding tuple
tuple_is n ts z = enter_in n OPEN_TUPLE (λ i. between OPEN_TUPLE (tuple_body i) CLOSE) ts z

-- ---- ranks

pub ranked_none : (n : ℕ) (s : Spot) (i : Level) (ts : List model.Token) → n ≡ 0 → read kind (ranked n s i) ts ≡ read kind (unary s i) ts
unfolding ranked
ranked_none n s i ts z = rw z refl

pub ranked_some : (n : ℕ) (s : Spot) (i : Level) (ts : List model.Token) → n ≢ 0 → read kind (ranked n s i) ts ≡ read kind (chain (operators n) (ranked (n - 1) s i) (ranked (n - 1) Anywhere i)) ts
unfolding ranked
ranked_some zero s i ts z = absurd (z refl)
ranked_some (suc n) s i ts z = let e : suc n - 1 ≡ n = omega arith in rw e refl

pub bor_is : (s : Spot) (i : Level) (ts : List model.Token) → read kind (bor s i) ts ≡ read kind (ranked 6 s i) ts
unfolding ranked bor bxor band shift sum term
bor_is s i ts = refl

-- ---- parts that take a token

pub operation_shrinks : (set : ℕ) (g : Gram model.Token Expr) → Shrinks kind (operation set g)
operation_shrinks set g = then_shrinks kind _ _ _ (one_shrinks kind set (λ t. t))

-- ---- nodes that hold a row

module _ (levels : ℕ) (ts rest : List model.Token) where
  pub contents_items : (is : List IndexItem) → next_in kind QUOTED ts ≡ false → read kind (items_of_index (inside levels)) ts ≡ Ok (is, rest)
      → read kind (contents (inside levels)) ts ≡ Ok (Items (items_of is), rest)
  unfolding contents
  contents_items is n e = rw (n, e) refl

  pub element_nested : (es : Elements) → next_in kind OPEN_BRACKET ts ≡ true → read kind (list (under levels)) ts ≡ Ok (es, rest)
      → read kind (cells.element (inside levels)) ts ≡ Ok (Nested es, rest)
  element_nested es n e = rw (n, e) refl

  pub list_item_is : (es : Elements) → read kind (list (under levels)) ts ≡ Ok (es, rest) → read kind (list_item (inside levels)) ts ≡ Ok (Listed es, rest)
  list_item_is es e = rw e refl
