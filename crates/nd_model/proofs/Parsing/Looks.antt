-- One token of lookahead tells how to read each rule, at each level.
use Rattle.std.proofs.Common.{◌≡◌, ◌+◌, ℕ, zero, suc, true, false, refl, ap, ◌⊎◌, inl, inr}
use Rattle.std.specs.Prelude.{bit_or}
use Rattle.nd_model.specs.Grammar.Grammar.{Gram}
use Rattle.nd_model.specs.Grammar.Predict.{Look, look}
use Rattle.nd_model.specs.Grammar.Token.{Token}
use Rattle.nd_model.specs.Grammar.Syntax.{Expr, Elements, Stmt}
use Rattle.nd_model.specs.Grammar.Kinds.{CALLED, PLUS, SIGN, OPEN, OPEN_NONE, OPEN_TUPLE, ABS, BUFFER, NP, QUOTED, OPEN_BRACKET, DOT, ANY_NAME, DTYPE, DTYPE_BOUND, AXIS, AXIS_BOUND, KEEPDIMS_BOUND, FIRST_AXIS, SUFFIX, NP_SAVE, POWER, PRODUCT, SUM, SHIFT, AMPERSAND, CARET, BAR, COMPARISON, COMMA, ASSIGNMENT, EXPR, PLACE_START, START, ANY}
use Rattle.nd_model.specs.Grammar.Cells.{Spot, Anywhere, Statement, Target, FirstItem, LaterItem, Length, Number, AxisNumber, leaves, modules, openings, Level, Bottom, Under, Inside, name, grouped, bound_in, step_in, slice, newaxis_name, newaxis, elements, list, part, item, nothing, contents, index, exprs, quoted, no_lengths, tuple, shape, kind_name, type_name, pair, fields, dtype, typing, only_typing, comma_typing, named_axis, numbered_axis, named_keepdims, only_keepdims, comma_keepdims, options, comma_options, first_axis, third, second, arange, filled, full, new_array, broadcast_to, two, reduce, accumulate, fold, call, function, empty, type_argument, axes, lengths, reduction_options, reduction, accumulation, attribute, method, operand, suffix, postfix, exponent, power, signed, unary, term, sum, shift, band, bxor, bor, comparison, expr, under, module_name, imports, delete, printed, print, saved, save, value, line, lines}
use Rattle.nd_model.specs.Grammar.Factored.{bind, place, group, groups, target, assign, stmt, cell}

-- what begins with a token of `first`, and may go on with one of `ext`
abbrev pub seen : ℕ → ℕ → Look
seen first ext = record { first = first; ext = ext; empty = false; fits = true }

-- the same, where it may be nothing
abbrev pub perhaps : ℕ → ℕ → Look
perhaps first ext = record { first = first; ext = ext; empty = true; fits = true }

-- what an operand begins with
abbrev pub atoms : Spot → ℕ
atoms s = leaves s + CALLED + PLUS + modules s + ABS + BUFFER + openings s

abbrev pub exprs_at : Spot → ℕ
exprs_at s = atoms s + SIGN

-- what may go on an operand, and an expression
abbrev pub UNARY_MORE : ℕ
UNARY_MORE = SUFFIX + POWER

abbrev pub BOR_MORE : ℕ
BOR_MORE = UNARY_MORE + PRODUCT + SUM + SHIFT + AMPERSAND + CARET + BAR

abbrev pub MORE : ℕ
MORE = BOR_MORE + COMPARISON

-- what the rules of a level see of those further in
pub data IsKnown : Level → Type 1 where
  bottom : IsKnown Bottom
  below : {l : Level} {e : Spot → Gram Token Expr} {u : Gram Token Expr} {s : Gram Token Elements} → IsKnown l
      → ((s : Spot) → look (e s) ≡ seen (exprs_at s) MORE) → look u ≡ seen EXPR UNARY_MORE → look s ≡ seen OPEN_BRACKET 0 → IsKnown (Under l e u s)

pub record IsKnownInside (inside : Inside) : Type 1 where
  pub level : IsKnown inside.level
  pub expr : (s : Spot) → look (inside.expr s) ≡ seen (exprs_at s) MORE
  pub list : look inside.list ≡ seen OPEN_BRACKET 0

pub look_grouped : (opening : ℕ) (i : Level) → IsKnown i → look (grouped opening i) ≡ seen opening 0
unfolding grouped
look_grouped opening Bottom k = refl
look_grouped opening (Under l e u s) (below j p q r) = rw (p Anywhere) refl

-- ---- indexes

pub look_list : (i : Level) → IsKnown i → look (list i) ≡ seen OPEN_BRACKET 0
unfolding list elements
look_list Bottom k = refl
look_list (Under l e u s) (below j p q r) = rw (p Anywhere, r) refl

pub look_nothing : (i : Level) → look (nothing i) ≡ seen OPEN_NONE 0
unfolding nothing
look_nothing Bottom = refl
look_nothing (Under l e u s) = refl

pub look_index : (i : Level) → IsKnown i → look (index i) ≡ seen OPEN_BRACKET 0
unfolding index contents item part slice bound_in step_in newaxis_name newaxis
look_index Bottom k = refl
look_index (Under l e u s) (below j p q r) = rw (p Anywhere, p FirstItem, p LaterItem, look_list l j, look_nothing l) refl

-- ---- parts of calls

pub look_exprs : (s : Spot) (f e : Gram Token Expr) → look f ≡ seen (exprs_at s) MORE → look e ≡ seen EXPR MORE → look (exprs f e) ≡ seen (exprs_at s) (MORE + COMMA)
unfolding exprs
look_exprs s f e p q = rw (p, q) refl

pub look_quoted : (i : Level) → look (quoted i) ≡ seen OPEN 0
unfolding quoted
look_quoted Bottom = refl
look_quoted (Under l e u s) = refl

pub look_no_lengths : (i : Level) → look (no_lengths i) ≡ seen OPEN_NONE 0
unfolding no_lengths
look_no_lengths Bottom = refl
look_no_lengths (Under l e u s) = refl

pub look_tuple : (i : Level) → IsKnown i → look (tuple i) ≡ seen OPEN_TUPLE 0
unfolding tuple
look_tuple Bottom k = refl
look_tuple (Under l e u s) (below j p q r) = rw (p Anywhere) refl

pub look_shape : (inside : Inside) → IsKnownInside inside → look (shape inside) ≡ seen EXPR MORE
unfolding shape
look_shape inside k = rw (k.expr Length, look_tuple inside.level k.level, look_no_lengths inside.level) refl

-- ---- types

pub look_type_name : look type_name ≡ seen (NP + QUOTED) 0
unfolding type_name kind_name
look_type_name = refl

pub look_pair : (i : Level) → look (pair i) ≡ seen OPEN 0
unfolding pair
look_pair Bottom = refl
look_pair (Under l e u s) = rw look_type_name refl

pub look_fields : (i : Level) → look (fields i) ≡ seen OPEN_BRACKET 0
unfolding fields
look_fields Bottom = refl
look_fields (Under l e u s) = rw (look_pair l) refl

pub look_dtype : (i : Level) → look (dtype i) ≡ seen (OPEN_BRACKET + NP + QUOTED) 0
unfolding dtype
look_dtype i = rw (look_fields i, look_type_name) refl

pub look_typing : (key : ℕ) (i : Level) → look (typing key i) ≡ seen key 0
unfolding typing
look_typing key i = rw (look_dtype i) refl

pub look_comma_typing : (i : Level) → look (comma_typing i) ≡ perhaps COMMA COMMA
unfolding comma_typing only_typing
look_comma_typing i = rw (look_typing DTYPE i) refl

-- ---- axes

pub look_named_axis : (key : ℕ) (inside : Inside) → IsKnownInside inside → look (named_axis key inside) ≡ seen key MORE
unfolding named_axis
look_named_axis key inside k = rw (k.expr Anywhere) refl

pub look_numbered_axis : (inside : Inside) → IsKnownInside inside → look (numbered_axis inside) ≡ seen AXIS MORE
unfolding numbered_axis
look_numbered_axis inside k = rw (k.expr Anywhere) refl

pub look_comma_keepdims : look comma_keepdims ≡ perhaps COMMA COMMA
unfolding comma_keepdims only_keepdims named_keepdims
look_comma_keepdims = refl

pub look_comma_options : (inside : Inside) → IsKnownInside inside → look (comma_options inside) ≡ perhaps COMMA (MORE + COMMA)
unfolding comma_options options only_keepdims named_keepdims
look_comma_options inside k = rw (look_named_axis AXIS inside k, look_comma_keepdims) refl

pub look_reduction_options : (inside : Inside) → IsKnownInside inside → look (reduction_options inside) ≡ perhaps (FIRST_AXIS + AXIS_BOUND + KEEPDIMS_BOUND) (bit_or (FIRST_AXIS + AXIS_BOUND + KEEPDIMS_BOUND) (MORE + COMMA))
unfolding reduction_options first_axis named_keepdims
look_reduction_options inside k = rw (look_named_axis AXIS_BOUND inside k, look_comma_keepdims, k.expr AxisNumber) refl

-- ---- functions

pub look_third : (inside : Inside) → IsKnownInside inside → look (third inside) ≡ perhaps COMMA (COMMA + MORE)
unfolding third
look_third inside k = rw (look_typing DTYPE_BOUND inside.level, look_comma_typing inside.level, k.expr Number) refl

pub look_second : (inside : Inside) → IsKnownInside inside → look (second inside) ≡ perhaps COMMA (COMMA + MORE)
unfolding second
look_second inside k = rw (look_typing DTYPE_BOUND inside.level, look_third inside k, k.expr Number) refl

module _ (l : Level) (e : Spot → Gram Token Expr) (u : Gram Token Expr) (s : Gram Token Elements) where
  abbrev pub here : Inside
  here = record { level = l; expr = e; unary = u; list = s }

  pub known_here : IsKnown (Under l e u s) → IsKnownInside here
  known_here (below j p q r) = record { level = j; expr = p; list = r }

pub look_arange : (i : Level) → IsKnown i → look (arange i) ≡ seen OPEN 0
unfolding arange
look_arange Bottom k = refl
look_arange (Under l e u s) (below j p q r) = rw (p Anywhere, look_second (here l e u s) (known_here l e u s (below j p q r))) refl

pub look_filled : (i : Level) → IsKnown i → look (filled i) ≡ seen OPEN 0
unfolding filled
look_filled Bottom k = refl
look_filled (Under l e u s) (below j p q r) = rw (look_shape (here l e u s) (known_here l e u s (below j p q r)), look_comma_typing l) refl

pub look_full : (i : Level) → IsKnown i → look (full i) ≡ seen OPEN 0
unfolding full
look_full Bottom k = refl
look_full (Under l e u s) (below j p q r) = rw (look_shape (here l e u s) (known_here l e u s (below j p q r)), p Anywhere, look_comma_typing l) refl

pub look_new_array : (i : Level) → IsKnown i → look (new_array i) ≡ seen OPEN 0
unfolding new_array
look_new_array Bottom k = refl
look_new_array (Under l e u s) (below j p q r) = rw (p Anywhere, r, look_comma_typing l) refl

pub look_broadcast_to : (i : Level) → IsKnown i → look (broadcast_to i) ≡ seen OPEN 0
unfolding broadcast_to
look_broadcast_to Bottom k = refl
look_broadcast_to (Under l e u s) (below j p q r) = rw (p Anywhere, look_shape (here l e u s) (known_here l e u s (below j p q r))) refl

pub look_two : (i : Level) → IsKnown i → look (two i) ≡ seen OPEN 0
unfolding two
look_two Bottom k = refl
look_two (Under l e u s) (below j p q r) = rw (p Anywhere) refl

pub look_reduce : (i : Level) → IsKnown i → look (reduce i) ≡ seen OPEN 0
unfolding reduce
look_reduce Bottom k = refl
look_reduce (Under l e u s) (below j p q r) = rw (p Anywhere, look_comma_options (here l e u s) (known_here l e u s (below j p q r))) refl

pub look_accumulate : (i : Level) → IsKnown i → look (accumulate i) ≡ seen OPEN 0
unfolding accumulate
look_accumulate Bottom k = refl
look_accumulate (Under l e u s) (below j p q r) = rw (p Anywhere, look_numbered_axis (here l e u s) (known_here l e u s (below j p q r))) refl

pub look_fold : (i : Level) → IsKnown i → look (fold i) ≡ seen DOT 0
unfolding fold
look_fold i k = rw (look_reduce i k, look_accumulate i k) refl

pub look_call : (i : Level) → IsKnown i → look (call i) ≡ seen (ANY_NAME + ABS) 0
unfolding call
look_call i k =
    rw (look_arange i k, look_filled i k, look_full i k, look_new_array i k, look_broadcast_to i k, look_grouped OPEN i k, look_two i k, look_fold i k, look_quoted i) refl

pub look_function : (np : ℕ) (i : Level) → IsKnown i → look (function np i) ≡ seen np 0
unfolding function
look_function np i k = rw (look_call i k) refl

-- ---- methods

pub look_empty : (i : Level) → look (empty i) ≡ seen OPEN 0
unfolding empty
look_empty Bottom = refl
look_empty (Under l e u s) = refl

pub look_type_argument : (i : Level) → look (type_argument i) ≡ seen OPEN 0
unfolding type_argument
look_type_argument Bottom = refl
look_type_argument (Under l e u s) = rw (look_dtype l) refl

pub look_axes : (i : Level) → IsKnown i → look (axes i) ≡ seen OPEN 0
unfolding axes
look_axes Bottom k = refl
look_axes (Under l e u s) (below j p q r) = rw (look_exprs Anywhere (e Anywhere) (e Anywhere) (p Anywhere) (p Anywhere)) refl

pub look_lengths : (i : Level) → IsKnown i → look (lengths i) ≡ seen OPEN 0
unfolding lengths
look_lengths Bottom k = refl
look_lengths (Under l e u s) (below j p q r) = rw (look_exprs Length (e Length) (e Anywhere) (p Length) (p Anywhere), look_tuple l j, look_no_lengths l) refl

pub look_reduction : (i : Level) → IsKnown i → look (reduction i) ≡ seen OPEN 0
unfolding reduction
look_reduction Bottom k = refl
look_reduction (Under l e u s) (below j p q r) = rw (look_reduction_options (here l e u s) (known_here l e u s (below j p q r))) refl

pub look_accumulation : (i : Level) → IsKnown i → look (accumulation i) ≡ seen OPEN 0
unfolding accumulation
look_accumulation Bottom k = refl
look_accumulation (Under l e u s) (below j p q r) = rw (look_numbered_axis (here l e u s) (known_here l e u s (below j p q r))) refl

pub look_method : (i : Level) → IsKnown i → look (method i) ≡ seen DOT 0
unfolding method attribute
look_method i k =
    rw (look_axes i k, look_lengths i k, look_empty i, look_type_argument i, look_reduction i k, look_accumulation i k) refl

-- ---- operands and operators

pub look_operand : (s : Spot) (i : Level) → IsKnown i → look (operand s i) ≡ seen (atoms s) 0
unfolding operand
look_operand Anywhere i k = rw (look_function (modules Anywhere) i k, look_quoted i, look_grouped OPEN i k) refl
look_operand Statement i k = rw (look_function (modules Statement) i k, look_quoted i, look_grouped OPEN i k) refl
look_operand Target i k = rw (look_function (modules Target) i k, look_quoted i, look_grouped OPEN i k) refl
look_operand FirstItem i k = rw (look_function (modules FirstItem) i k, look_quoted i, look_grouped OPEN i k, look_grouped (openings FirstItem) i k) refl
look_operand LaterItem i k = rw (look_function (modules LaterItem) i k, look_quoted i, look_grouped OPEN i k) refl
look_operand Length i k = rw (look_function (modules Length) i k, look_quoted i, look_grouped OPEN i k, look_grouped (openings Length) i k) refl
look_operand Number i k = rw (look_function (modules Number) i k, look_quoted i, look_grouped OPEN i k) refl
look_operand AxisNumber i k = rw (look_function (modules AxisNumber) i k, look_quoted i, look_grouped OPEN i k) refl

pub look_place : (i : Level) → IsKnown i → look (place i) ≡ seen PLACE_START 0
unfolding place
look_place i k = look_operand Target i k

pub look_suffix : (i : Level) → IsKnown i → look (suffix i) ≡ seen SUFFIX 0
unfolding suffix
look_suffix i k = rw (look_index i k, look_method i k) refl

pub look_postfix : (s : Spot) (i : Level) → IsKnown i → look (postfix s i) ≡ seen (atoms s) SUFFIX
unfolding postfix
look_postfix s i k = rw (look_operand s i k, look_suffix i k) refl

pub look_exponent : (i : Level) → IsKnown i → (look (exponent i) ≡ seen POWER 0) ⊎ (look (exponent i) ≡ seen POWER UNARY_MORE)
unfolding exponent
look_exponent Bottom k = inl refl
look_exponent (Under l e u s) (below j p q r) = inr (rw q refl)

pub look_power : (s : Spot) (i : Level) → IsKnown i → look (power s i) ≡ seen (atoms s) UNARY_MORE
unfolding power
look_power Anywhere i k = elim (look_exponent i k) [ inl e ↦ rw (look_postfix Anywhere i k, e) refl | inr e ↦ rw (look_postfix Anywhere i k, e) refl ]
look_power s i k = elim (look_exponent i k) [ inl e ↦ rw (look_postfix s i k, e) refl | inr e ↦ rw (look_postfix s i k, e) refl ]

pub look_signed : (i : Level) → IsKnown i → (look (signed i) ≡ seen SIGN 0) ⊎ (look (signed i) ≡ seen SIGN UNARY_MORE)
unfolding signed
look_signed Bottom k = inl refl
look_signed (Under l e u s) (below j p q r) = inr (rw q refl)

pub look_unary : (s : Spot) (i : Level) → IsKnown i → look (unary s i) ≡ seen (exprs_at s) UNARY_MORE
unfolding unary
look_unary Anywhere i k = elim (look_signed i k) [ inl e ↦ rw (look_power Anywhere i k, e) refl | inr e ↦ rw (look_power Anywhere i k, e) refl ]
look_unary s i k = elim (look_signed i k) [ inl e ↦ rw (look_power s i k, e) refl | inr e ↦ rw (look_power s i k, e) refl ]

pub look_term : (s : Spot) (i : Level) → IsKnown i → look (term s i) ≡ seen (exprs_at s) (UNARY_MORE + PRODUCT)
unfolding term
look_term Anywhere i k = rw (look_unary Anywhere i k) refl
look_term s i k = rw (look_unary s i k, look_unary Anywhere i k) refl

pub look_sum : (s : Spot) (i : Level) → IsKnown i → look (sum s i) ≡ seen (exprs_at s) (UNARY_MORE + PRODUCT + SUM)
unfolding sum
look_sum Anywhere i k = rw (look_term Anywhere i k) refl
look_sum s i k = rw (look_term s i k, look_term Anywhere i k) refl

pub look_shift : (s : Spot) (i : Level) → IsKnown i → look (shift s i) ≡ seen (exprs_at s) (UNARY_MORE + PRODUCT + SUM + SHIFT)
unfolding shift
look_shift Anywhere i k = rw (look_sum Anywhere i k) refl
look_shift s i k = rw (look_sum s i k, look_sum Anywhere i k) refl

pub look_band : (s : Spot) (i : Level) → IsKnown i → look (band s i) ≡ seen (exprs_at s) (UNARY_MORE + PRODUCT + SUM + SHIFT + AMPERSAND)
unfolding band
look_band Anywhere i k = rw (look_shift Anywhere i k) refl
look_band s i k = rw (look_shift s i k, look_shift Anywhere i k) refl

pub look_bxor : (s : Spot) (i : Level) → IsKnown i → look (bxor s i) ≡ seen (exprs_at s) (UNARY_MORE + PRODUCT + SUM + SHIFT + AMPERSAND + CARET)
unfolding bxor
look_bxor Anywhere i k = rw (look_band Anywhere i k) refl
look_bxor s i k = rw (look_band s i k, look_band Anywhere i k) refl

pub look_bor : (s : Spot) (i : Level) → IsKnown i → look (bor s i) ≡ seen (exprs_at s) BOR_MORE
unfolding bor
look_bor Anywhere i k = rw (look_bxor Anywhere i k) refl
look_bor s i k = rw (look_bxor s i k, look_bxor Anywhere i k) refl

pub look_expr : (s : Spot) (i : Level) → IsKnown i → look (expr s i) ≡ seen (exprs_at s) MORE
unfolding expr comparison
look_expr Anywhere i k = rw (look_bor Anywhere i k) refl
look_expr s i k = rw (look_bor s i k, look_bor Anywhere i k) refl

pub known : (n : ℕ) → IsKnown (under n)
unfolding under
known zero = bottom
known (suc n) = below (known n) (λ s. look_expr s (under n) (known n)) (look_unary Anywhere (under n) (known n)) (look_list (under n) (known n))

pub look_value : (i : Level) → IsKnown i → look (value i) ≡ seen ASSIGNMENT MORE
unfolding value
look_value i k = rw (look_expr Anywhere i k) refl

pub look_printed : (i : Level) → IsKnown i → look (printed i) ≡ seen OPEN 0
unfolding printed
look_printed Bottom k = refl
look_printed (Under l e u s) (below j p q r) = rw (look_exprs Anywhere (e Anywhere) (e Anywhere) (p Anywhere) (p Anywhere)) refl

pub look_saved : (i : Level) → IsKnown i → look (saved i) ≡ seen OPEN 0
unfolding saved
look_saved Bottom k = refl
look_saved (Under l e u s) (below j p q r) = rw (p Anywhere) refl

pub look_save : (i : Level) → IsKnown i → look (save i) ≡ seen NP_SAVE 0
unfolding save
look_save i k = rw (look_saved i k) refl

pub look_group : (i : Level) → IsKnown i → look (group i) ≡ seen SUFFIX 0
unfolding group
look_group i k = rw (look_index i k, look_method i k) refl

pub look_groups : (i : Level) → IsKnown i → look (groups i) ≡ seen SUFFIX SUFFIX
unfolding groups
look_groups i k = rw (look_group i k) refl

pub look_assign : (i : Level) → IsKnown i → look (assign i) ≡ seen PLACE_START MORE
unfolding assign target
look_assign i k = rw (look_place i k, look_groups i k, look_value i k) refl

pub look_stmt : (i : Level) → IsKnown i → look (stmt i) ≡ seen START MORE
unfolding stmt imports module_name delete name print bind
look_stmt i k = rw (look_printed i k, look_save i k, look_value i k, look_assign i k) refl

pub look_line : (s : Gram Token Stmt) → look s ≡ seen START MORE → look (line s) ≡ seen START 0
unfolding line
look_line s p = rw p refl

-- what a list of at most n lines begins with
abbrev pub lines_start : ℕ → ℕ
lines_start zero = ANY
lines_start (suc n) = START

pub look_lines : (s : Gram Token Stmt) (n : ℕ) → look s ≡ seen START MORE → look (lines s n) ≡ record { first = lines_start n; ext = ANY; empty = true; fits = true }
unfolding lines
look_lines s zero p = refl
look_lines s (suc n) p = rw (look_line s p, look_lines s n p) refl

pub fits : (look cell).fits ≡ true
unfolding cell
fits = ap (λ (l : Look). l.fits) (look_lines (stmt (under 64)) 1000 (look_stmt (under 64) (known 64)))
