-- What the grammar knows behind each token of a cell is settled by the token alone.
use Rattle.std.proofs.Common.{◌≡◌, ◌+◌, ℕ, zero, suc, true, false, refl, inl, inr}
use Rattle.std.specs.Prelude.{bit_or}
use Rattle.nd_model.specs.Grammar.Grammar.{Gram}
use Rattle.nd_model.specs.Grammar.Predict.{look}
use Rattle.nd_model.specs.Grammar.Token.{Token}
use Rattle.nd_model.specs.Grammar.Syntax.{Expr, Elements, Stmt}
use Rattle.nd_model.specs.Grammar.Kinds.{CLOSE, OPEN, OPEN_BRACKET, CLOSE_BRACKET, COMMA, COLON, SUFFIX, POWER, PRODUCT, SUM, SHIFT, AMPERSAND, CARET, BAR, COMPARISON, ASSIGNMENT, ANY_NAME, EXPR, DTYPE, DTYPE_BOUND, AXIS, AXIS_BOUND, END, START}
use Rattle.nd_model.specs.Grammar.Cells.{Spot, Anywhere, Statement, FirstItem, LaterItem, Length, Number, AxisNumber, modules, openings, Level, Bottom, Under, Inside, name, grouped, bound_in, step_in, slice, newaxis_name, newaxis, elements, list, part, item, nothing, contents, index, exprs, quoted, no_lengths, tuple, shape, kind_name, type_name, pair, fields, dtype, typing, only_typing, comma_typing, named_axis, numbered_axis, named_keepdims, only_keepdims, comma_keepdims, options, comma_options, first_axis, third, second, arange, filled, full, new_array, broadcast_to, two, reduce, accumulate, fold, call, function, empty, type_argument, axes, lengths, reduction_options, reduction, accumulation, attribute, method, operand, suffix, postfix, exponent, power, signed, unary, chain, term, sum, shift, band, bxor, bor, comparison, expr, under, module_name, imports, delete, printed, print, saved, save, value, bind, target, assign, stmt, line, lines, cell}
use Rattle.nd_model.specs.Grammar.Lookahead.{from, LookaheadChooses}
use Rattle.nd_model.proofs.Parsing.Looks.{IsKnown, IsKnownInside, below, here, known_here, known, seen, lines_start, look_list, look_nothing, look_index, look_tuple, look_no_lengths, look_shape, look_pair, look_dtype, look_typing, look_comma_typing, look_named_axis, look_numbered_axis, look_comma_keepdims, look_comma_options, look_third, look_second, look_arange, look_filled, look_full, look_new_array, look_broadcast_to, look_grouped, look_two, look_reduce, look_accumulate, look_fold, look_quoted, look_call, look_axes, look_lengths, look_empty, look_type_argument, look_reduction, look_accumulation, look_suffix, look_exponent, look_unary, look_term, look_sum, look_shift, look_band, look_bxor, look_bor, look_expr, look_value, look_printed, look_postfix, look_saved}
use Rattle.nd_model.proofs.Parsing.Settled.{settled, settled_or, settled_is, places, places_are}

-- the rules of the levels further in have settled places, whatever settled set comes behind them
data IsSettledLevel : Level → Type 1 where
  lowest : IsSettledLevel Bottom
  further : {l : Level} {e : Spot → Gram Token Expr} {u : Gram Token Expr} {s : Gram Token Elements} → IsSettledLevel l
      → ((s : Spot) (next : ℕ) → settled next ≡ true → places (e s) next ≡ true) → ((next : ℕ) → settled next ≡ true → places u next ≡ true)
      → ((next : ℕ) → settled next ≡ true → places s next ≡ true) → IsSettledLevel (Under l e u s)

record IsSettledInside (inside : Inside) : Type 1 where
  known : IsKnownInside inside
  level : IsSettledLevel inside.level
  expr : (s : Spot) (next : ℕ) → settled next ≡ true → places (inside.expr s) next ≡ true
  list : (next : ℕ) → settled next ≡ true → places inside.list next ≡ true

settled_here : (l : Level) (e : Spot → Gram Token Expr) (u : Gram Token Expr) (s : Gram Token Elements) → IsKnown (Under l e u s) → IsSettledLevel (Under l e u s) → IsSettledInside (here l e u s)
settled_here l e u s k (further w x y z) = record { known = known_here l e u s k; level = w; expr = x; list = z }

-- nothing comes before it
settled_zero : (next : ℕ) → settled next ≡ true → settled (bit_or 0 next) ≡ true
settled_zero next h = settled_or 0 next refl h

places_grouped : (opening : ℕ) (i : Level) (next : ℕ) → IsKnown i → IsSettledLevel i → settled next ≡ true → places (grouped opening i) next ≡ true
unfolding grouped
places_grouped opening Bottom next k w h = refl
places_grouped opening (Under l e u s) next (below j p q r) (further w x y z) h =
    rw (p Anywhere, x Anywhere CLOSE refl, h) refl

-- ---- indexes

places_list : (i : Level) (next : ℕ) → IsKnown i → IsSettledLevel i → settled next ≡ true → places (list i) next ≡ true
unfolding list elements
places_list Bottom next k w h = refl
places_list (Under l e u s) next (below j p q r) (further w x y z) h =
    rw (p Anywhere, r, x Anywhere (COMMA + CLOSE_BRACKET) refl, z (COMMA + CLOSE_BRACKET) refl, h) refl

places_nothing : (i : Level) (next : ℕ) → IsKnown i → IsSettledLevel i → settled next ≡ true → places (nothing i) next ≡ true
unfolding nothing
places_nothing Bottom next k w h = refl
places_nothing (Under l e u s) next (below j p q r) (further w x y z) h =
    rw (h) refl

places_index : (i : Level) (next : ℕ) → IsKnown i → IsSettledLevel i → settled next ≡ true → places (index i) next ≡ true
unfolding index contents item part slice bound_in step_in newaxis_name newaxis
places_index Bottom next k w h = refl
places_index (Under l e u s) next (below j p q r) (further w x y z) h =
    rw (
      p Anywhere,
      p FirstItem,
      p LaterItem,
      look_list l j,
      look_nothing l,
      x FirstItem (COLON + COMMA + CLOSE_BRACKET) refl,
      x LaterItem (COLON + COMMA + CLOSE_BRACKET) refl,
      x Anywhere (COLON + COMMA + CLOSE_BRACKET) refl,
      x Anywhere (COMMA + CLOSE_BRACKET) refl,
      places_list l (COMMA + CLOSE_BRACKET) j w refl,
      places_nothing l CLOSE_BRACKET j w refl,
      h,
    ) refl

-- ---- parts of calls

places_quoted : (i : Level) (next : ℕ) → IsKnown i → IsSettledLevel i → settled next ≡ true → places (quoted i) next ≡ true
unfolding quoted
places_quoted Bottom next k w h = refl
places_quoted (Under l e u s) next (below j p q r) (further w x y z) h =
    rw (h) refl

places_no_lengths : (i : Level) (next : ℕ) → IsKnown i → IsSettledLevel i → settled next ≡ true → places (no_lengths i) next ≡ true
unfolding no_lengths
places_no_lengths Bottom next k w h = refl
places_no_lengths (Under l e u s) next (below j p q r) (further w x y z) h =
    rw (h) refl

places_tuple : (i : Level) (next : ℕ) → IsKnown i → IsSettledLevel i → settled next ≡ true → places (tuple i) next ≡ true
unfolding tuple
places_tuple Bottom next k w h = refl
places_tuple (Under l e u s) next (below j p q r) (further w x y z) h =
    rw (p Anywhere, x Anywhere (COMMA + CLOSE) refl, h) refl

places_shape : (inside : Inside) (next : ℕ) → IsSettledInside inside → settled next ≡ true → places (shape inside) next ≡ true
unfolding shape
places_shape inside next k h =
    rw (places_tuple inside.level next k.known.level k.level h, places_no_lengths inside.level next k.known.level k.level h, k.expr Length (bit_or 0 next) (settled_zero next h)) refl

-- ---- types

places_type_name : (next : ℕ) → settled next ≡ true → places type_name next ≡ true
unfolding type_name kind_name
places_type_name next h = rw h refl

places_pair : (i : Level) (next : ℕ) → IsKnown i → IsSettledLevel i → settled next ≡ true → places (pair i) next ≡ true
unfolding pair type_name kind_name
places_pair Bottom next k w h = refl
places_pair (Under l e u s) next (below j p q r) (further w x y z) h =
    rw (h) refl

places_fields : (i : Level) (next : ℕ) → IsKnown i → IsSettledLevel i → settled next ≡ true → places (fields i) next ≡ true
unfolding fields
places_fields Bottom next k w h = refl
places_fields (Under l e u s) next (below j p q r) (further w x y z) h =
    rw (look_pair l, places_pair l (COMMA + CLOSE_BRACKET) j w refl, h) refl

places_dtype : (i : Level) (next : ℕ) → IsKnown i → IsSettledLevel i → settled next ≡ true → places (dtype i) next ≡ true
unfolding dtype
places_dtype i next k w h =
    rw (places_fields i (bit_or 0 next) k w (settled_zero next h), places_type_name (bit_or 0 next) (settled_zero next h)) refl

places_typing : (key : ℕ) (i : Level) (next : ℕ) → IsKnown i → IsSettledLevel i → settled next ≡ true → places (typing key i) next ≡ true
unfolding typing
places_typing key i next k w h =
    rw (look_dtype i, places_dtype i next k w h) refl

places_comma_typing : (i : Level) (next : ℕ) → IsKnown i → IsSettledLevel i → settled next ≡ true → places (comma_typing i) next ≡ true
unfolding comma_typing only_typing
places_comma_typing i next k w h =
    rw (look_typing DTYPE i, places_typing DTYPE i (bit_or 0 next) k w (settled_zero next h)) refl

-- ---- axes

places_named_axis : (key : ℕ) (inside : Inside) (next : ℕ) → IsSettledInside inside → settled next ≡ true → places (named_axis key inside) next ≡ true
unfolding named_axis
places_named_axis key inside next k h =
    rw (k.known.expr Anywhere, k.expr Anywhere (bit_or 0 next) (settled_zero next h), h) refl

places_numbered_axis : (inside : Inside) (next : ℕ) → IsSettledInside inside → settled next ≡ true → places (numbered_axis inside) next ≡ true
unfolding numbered_axis
places_numbered_axis inside next k h =
    rw (k.known.expr Anywhere, k.expr Anywhere next h) refl

places_comma_keepdims : (next : ℕ) → settled next ≡ true → places comma_keepdims next ≡ true
unfolding comma_keepdims only_keepdims named_keepdims
places_comma_keepdims next h = rw h refl

places_comma_options : (inside : Inside) (next : ℕ) → IsSettledInside inside → settled next ≡ true → places (comma_options inside) next ≡ true
unfolding comma_options options only_keepdims named_keepdims
places_comma_options inside next k h =
    rw (look_named_axis AXIS inside k.known, look_comma_keepdims, places_named_axis AXIS inside (bit_or COMMA next) k (settled_or COMMA next refl h), places_comma_keepdims next h, settled_zero next h) refl

-- ---- functions

places_third : (inside : Inside) (next : ℕ) → IsSettledInside inside → settled next ≡ true → places (third inside) next ≡ true
unfolding third
places_third inside next k h =
    rw (
      look_typing DTYPE_BOUND inside.level,
      look_comma_typing inside.level,
      k.known.expr Number,
      places_typing DTYPE_BOUND inside.level (bit_or 0 next) k.known.level k.level (settled_zero next h),
      k.expr Number (bit_or COMMA next) (settled_or COMMA next refl h),
      places_comma_typing inside.level next k.known.level k.level h,
    ) refl

places_second : (inside : Inside) (next : ℕ) → IsSettledInside inside → settled next ≡ true → places (second inside) next ≡ true
unfolding second
places_second inside next k h =
    rw (
      look_typing DTYPE_BOUND inside.level,
      look_third inside k.known,
      k.known.expr Number,
      places_typing DTYPE_BOUND inside.level (bit_or 0 next) k.known.level k.level (settled_zero next h),
      k.expr Number (bit_or COMMA next) (settled_or COMMA next refl h),
      places_third inside next k h,
    ) refl

places_arange : (i : Level) (next : ℕ) → IsKnown i → IsSettledLevel i → settled next ≡ true → places (arange i) next ≡ true
unfolding arange
places_arange Bottom next k w h = refl
places_arange (Under l e u s) next (below j p q r) (further w x y z) h =
    rw (p Anywhere, look_second (here l e u s) (known_here l e u s (below j p q r)), x Anywhere (COMMA + CLOSE) refl, places_second (here l e u s) CLOSE (settled_here l e u s (below j p q r) (further w x y z)) refl, h) refl

places_filled : (i : Level) (next : ℕ) → IsKnown i → IsSettledLevel i → settled next ≡ true → places (filled i) next ≡ true
unfolding filled
places_filled Bottom next k w h = refl
places_filled (Under l e u s) next (below j p q r) (further w x y z) h =
    rw (look_shape (here l e u s) (known_here l e u s (below j p q r)), look_comma_typing l, places_shape (here l e u s) (COMMA + CLOSE) (settled_here l e u s (below j p q r) (further w x y z)) refl, places_comma_typing l CLOSE j w refl, h) refl

places_full : (i : Level) (next : ℕ) → IsKnown i → IsSettledLevel i → settled next ≡ true → places (full i) next ≡ true
unfolding full
places_full Bottom next k w h = refl
places_full (Under l e u s) next (below j p q r) (further w x y z) h =
    rw (look_shape (here l e u s) (known_here l e u s (below j p q r)), p Anywhere, look_comma_typing l, places_shape (here l e u s) COMMA (settled_here l e u s (below j p q r) (further w x y z)) refl, x Anywhere (COMMA + CLOSE) refl, places_comma_typing l CLOSE j w refl, h) refl

places_new_array : (i : Level) (next : ℕ) → IsKnown i → IsSettledLevel i → settled next ≡ true → places (new_array i) next ≡ true
unfolding new_array
places_new_array Bottom next k w h = refl
places_new_array (Under l e u s) next (below j p q r) (further w x y z) h =
    rw (p Anywhere, r, look_comma_typing l, z (COMMA + CLOSE) refl, x Anywhere (COMMA + CLOSE) refl, places_comma_typing l CLOSE j w refl, h) refl

places_broadcast_to : (i : Level) (next : ℕ) → IsKnown i → IsSettledLevel i → settled next ≡ true → places (broadcast_to i) next ≡ true
unfolding broadcast_to
places_broadcast_to Bottom next k w h = refl
places_broadcast_to (Under l e u s) next (below j p q r) (further w x y z) h =
    rw (p Anywhere, look_shape (here l e u s) (known_here l e u s (below j p q r)), x Anywhere COMMA refl, places_shape (here l e u s) CLOSE (settled_here l e u s (below j p q r) (further w x y z)) refl, h) refl

places_two : (i : Level) (next : ℕ) → IsKnown i → IsSettledLevel i → settled next ≡ true → places (two i) next ≡ true
unfolding two
places_two Bottom next k w h = refl
places_two (Under l e u s) next (below j p q r) (further w x y z) h =
    rw (p Anywhere, x Anywhere COMMA refl, x Anywhere CLOSE refl, h) refl

places_reduce : (i : Level) (next : ℕ) → IsKnown i → IsSettledLevel i → settled next ≡ true → places (reduce i) next ≡ true
unfolding reduce
places_reduce Bottom next k w h = refl
places_reduce (Under l e u s) next (below j p q r) (further w x y z) h =
    rw (p Anywhere, look_comma_options (here l e u s) (known_here l e u s (below j p q r)), x Anywhere (COMMA + CLOSE) refl, places_comma_options (here l e u s) CLOSE (settled_here l e u s (below j p q r) (further w x y z)) refl, h) refl

places_accumulate : (i : Level) (next : ℕ) → IsKnown i → IsSettledLevel i → settled next ≡ true → places (accumulate i) next ≡ true
unfolding accumulate
places_accumulate Bottom next k w h = refl
places_accumulate (Under l e u s) next (below j p q r) (further w x y z) h =
    rw (p Anywhere, look_numbered_axis (here l e u s) (known_here l e u s (below j p q r)), x Anywhere (COMMA + CLOSE) refl, places_numbered_axis (here l e u s) CLOSE (settled_here l e u s (below j p q r) (further w x y z)) refl, h) refl

places_fold : (i : Level) (next : ℕ) → IsKnown i → IsSettledLevel i → settled next ≡ true → places (fold i) next ≡ true
unfolding fold
places_fold i next k w h =
    rw (look_reduce i k, look_accumulate i k, places_reduce i next k w h, places_accumulate i next k w h) refl

places_call : (i : Level) (next : ℕ) → IsKnown i → IsSettledLevel i → settled next ≡ true → places (call i) next ≡ true
unfolding call
places_call i next k w h =
    rw (
      look_arange i k,
      look_filled i k,
      look_full i k,
      look_new_array i k,
      look_broadcast_to i k,
      look_grouped OPEN i k,
      look_two i k,
      look_fold i k,
      look_quoted i,
      places_arange i next k w h,
      places_filled i next k w h,
      places_full i next k w h,
      places_new_array i next k w h,
      places_broadcast_to i next k w h,
      places_grouped OPEN i next k w h,
      places_two i next k w h,
      places_fold i next k w h,
      places_quoted i next k w h,
    ) refl

places_function : (np : ℕ) (i : Level) (next : ℕ) → IsKnown i → IsSettledLevel i → settled next ≡ true → places (function np i) next ≡ true
unfolding function
places_function np i next k w h =
    rw (look_call i k, places_call i next k w h) refl

-- ---- methods

places_empty : (i : Level) (next : ℕ) → IsKnown i → IsSettledLevel i → settled next ≡ true → places (empty i) next ≡ true
unfolding empty
places_empty Bottom next k w h = refl
places_empty (Under l e u s) next (below j p q r) (further w x y z) h =
    rw (h) refl

places_type_argument : (i : Level) (next : ℕ) → IsKnown i → IsSettledLevel i → settled next ≡ true → places (type_argument i) next ≡ true
unfolding type_argument
places_type_argument Bottom next k w h = refl
places_type_argument (Under l e u s) next (below j p q r) (further w x y z) h =
    rw (look_dtype l, places_dtype l CLOSE j w refl, h) refl

places_axes : (i : Level) (next : ℕ) → IsKnown i → IsSettledLevel i → settled next ≡ true → places (axes i) next ≡ true
unfolding axes exprs
places_axes Bottom next k w h = refl
places_axes (Under l e u s) next (below j p q r) (further w x y z) h =
    rw (p Anywhere, x Anywhere (COMMA + CLOSE) refl, h) refl

places_lengths : (i : Level) (next : ℕ) → IsKnown i → IsSettledLevel i → settled next ≡ true → places (lengths i) next ≡ true
unfolding lengths exprs
places_lengths Bottom next k w h = refl
places_lengths (Under l e u s) next (below j p q r) (further w x y z) h =
    rw (look_tuple l j, look_no_lengths l, p Length, p Anywhere, places_tuple l CLOSE j w refl, places_no_lengths l CLOSE j w refl, x Length (COMMA + CLOSE) refl, x Anywhere (COMMA + CLOSE) refl, h) refl

places_reduction : (i : Level) (next : ℕ) → IsKnown i → IsSettledLevel i → settled next ≡ true → places (reduction i) next ≡ true
unfolding reduction reduction_options first_axis named_keepdims
places_reduction Bottom next k w h = refl
places_reduction (Under l e u s) next (below j p q r) (further w x y z) h =
    rw (look_named_axis AXIS_BOUND (here l e u s) (known_here l e u s (below j p q r)), look_comma_keepdims, p AxisNumber, places_named_axis AXIS_BOUND (here l e u s) (COMMA + CLOSE) (settled_here l e u s (below j p q r) (further w x y z)) refl, places_comma_keepdims CLOSE refl, x AxisNumber (COMMA + CLOSE) refl, h) refl

places_accumulation : (i : Level) (next : ℕ) → IsKnown i → IsSettledLevel i → settled next ≡ true → places (accumulation i) next ≡ true
unfolding accumulation
places_accumulation Bottom next k w h = refl
places_accumulation (Under l e u s) next (below j p q r) (further w x y z) h =
    rw (look_numbered_axis (here l e u s) (known_here l e u s (below j p q r)), places_numbered_axis (here l e u s) CLOSE (settled_here l e u s (below j p q r) (further w x y z)) refl, h) refl

places_method : (i : Level) (next : ℕ) → IsKnown i → IsSettledLevel i → settled next ≡ true → places (method i) next ≡ true
unfolding method attribute
places_method i next k w h =
    rw (
      look_axes i k,
      look_lengths i k,
      look_empty i,
      look_type_argument i,
      look_reduction i k,
      look_accumulation i k,
      h,
      places_axes i next k w h,
      places_lengths i next k w h,
      places_empty i next k w h,
      places_type_argument i next k w h,
      places_reduction i next k w h,
      places_accumulation i next k w h,
    ) refl

-- ---- operands and operators

places_operand : (s : Spot) (i : Level) (next : ℕ) → IsKnown i → IsSettledLevel i → settled next ≡ true → places (operand s i) next ≡ true
unfolding operand
places_operand s i next k w h =
    rw (look_grouped OPEN i k, look_quoted i, places_function (modules s) i next k w h, places_grouped OPEN i next k w h, places_quoted i next k w h, places_grouped (openings s) i next k w h, h) refl

places_suffix : (i : Level) (next : ℕ) → IsKnown i → IsSettledLevel i → settled next ≡ true → places (suffix i) next ≡ true
unfolding suffix
places_suffix i next k w h =
    rw (places_index i (bit_or 0 next) k w (settled_zero next h), places_method i (bit_or 0 next) k w (settled_zero next h)) refl

places_postfix : (s : Spot) (i : Level) (next : ℕ) → IsKnown i → IsSettledLevel i → settled next ≡ true → places (postfix s i) next ≡ true
unfolding postfix
places_postfix s i next k w h =
    rw (look_suffix i k, places_operand s i (bit_or SUFFIX next) k w (settled_or SUFFIX next refl h), places_suffix i (bit_or SUFFIX next) k w (settled_or SUFFIX next refl h)) refl

places_exponent : (i : Level) (next : ℕ) → IsKnown i → IsSettledLevel i → settled next ≡ true → places (exponent i) next ≡ true
unfolding exponent
places_exponent Bottom next k w h = refl
places_exponent (Under l e u s) next (below j p q r) (further w x y z) h =
    rw (q, y next h) refl

places_power : (s : Spot) (i : Level) (next : ℕ) → IsKnown i → IsSettledLevel i → settled next ≡ true → places (power s i) next ≡ true
unfolding power
places_power s i next k w h = elim (look_exponent i k) [
  | inl e ↦ rw (e, places_postfix s i (bit_or POWER next) k w (settled_or POWER next refl h), places_exponent i (bit_or 0 next) k w (settled_zero next h)) refl
  | inr e ↦ rw (e, places_postfix s i (bit_or POWER next) k w (settled_or POWER next refl h), places_exponent i (bit_or 0 next) k w (settled_zero next h)) refl
]

places_signed : (i : Level) (next : ℕ) → IsKnown i → IsSettledLevel i → settled next ≡ true → places (signed i) next ≡ true
unfolding signed
places_signed Bottom next k w h = refl
places_signed (Under l e u s) next (below j p q r) (further w x y z) h =
    rw (q, y next h) refl

places_unary : (s : Spot) (i : Level) (next : ℕ) → IsKnown i → IsSettledLevel i → settled next ≡ true → places (unary s i) next ≡ true
unfolding unary
places_unary s i next k w h =
    rw (places_signed i next k w h, places_power s i next k w h) refl

places_chain : (set more : ℕ) (f o : Gram Token Expr) (next : ℕ) → settled set ≡ true → look o ≡ seen EXPR more → ((next : ℕ) → settled next ≡ true → places f next ≡ true)
    → ((next : ℕ) → settled next ≡ true → places o next ≡ true) → settled next ≡ true → places (chain set f o) next ≡ true
places_chain set more f o next t l p q h = let b = settled_or set next t h in rw (l, p (bit_or set next) b, q (bit_or set next) b) refl

places_term : (s : Spot) (i : Level) (next : ℕ) → IsKnown i → IsSettledLevel i → settled next ≡ true → places (term s i) next ≡ true
unfolding term
places_term s i next k w h =
    places_chain PRODUCT _ (unary s i) (unary Anywhere i) next refl (look_unary Anywhere i k) (λ n t. places_unary s i n k w t) (λ n t. places_unary Anywhere i n k w t) h

places_sum : (s : Spot) (i : Level) (next : ℕ) → IsKnown i → IsSettledLevel i → settled next ≡ true → places (sum s i) next ≡ true
unfolding sum
places_sum s i next k w h =
    places_chain SUM _ (term s i) (term Anywhere i) next refl (look_term Anywhere i k) (λ n t. places_term s i n k w t) (λ n t. places_term Anywhere i n k w t) h

places_shift : (s : Spot) (i : Level) (next : ℕ) → IsKnown i → IsSettledLevel i → settled next ≡ true → places (shift s i) next ≡ true
unfolding shift
places_shift s i next k w h =
    places_chain SHIFT _ (sum s i) (sum Anywhere i) next refl (look_sum Anywhere i k) (λ n t. places_sum s i n k w t) (λ n t. places_sum Anywhere i n k w t) h

places_band : (s : Spot) (i : Level) (next : ℕ) → IsKnown i → IsSettledLevel i → settled next ≡ true → places (band s i) next ≡ true
unfolding band
places_band s i next k w h =
    places_chain AMPERSAND _ (shift s i) (shift Anywhere i) next refl (look_shift Anywhere i k) (λ n t. places_shift s i n k w t) (λ n t. places_shift Anywhere i n k w t) h

places_bxor : (s : Spot) (i : Level) (next : ℕ) → IsKnown i → IsSettledLevel i → settled next ≡ true → places (bxor s i) next ≡ true
unfolding bxor
places_bxor s i next k w h =
    places_chain CARET _ (band s i) (band Anywhere i) next refl (look_band Anywhere i k) (λ n t. places_band s i n k w t) (λ n t. places_band Anywhere i n k w t) h

places_bor : (s : Spot) (i : Level) (next : ℕ) → IsKnown i → IsSettledLevel i → settled next ≡ true → places (bor s i) next ≡ true
unfolding bor
places_bor s i next k w h =
    places_chain BAR _ (bxor s i) (bxor Anywhere i) next refl (look_bxor Anywhere i k) (λ n t. places_bxor s i n k w t) (λ n t. places_bxor Anywhere i n k w t) h

places_comparison : (i : Level) (next : ℕ) → IsKnown i → IsSettledLevel i → settled next ≡ true → places (comparison i) next ≡ true
unfolding comparison
places_comparison i next k w h =
    rw (look_bor Anywhere i k, places_bor Anywhere i (bit_or COMPARISON next) k w (settled_or COMPARISON next refl h)) refl

places_expr : (s : Spot) (i : Level) (next : ℕ) → IsKnown i → IsSettledLevel i → settled next ≡ true → places (expr s i) next ≡ true
unfolding expr comparison
places_expr s i next k w h =
    rw (places_bor s i (bit_or COMPARISON next) k w (settled_or COMPARISON next refl h), places_comparison i (bit_or 0 next) k w (settled_zero next h)) refl

settled_levels : (n : ℕ) → IsSettledLevel (under n)
unfolding under
settled_levels zero = lowest
settled_levels (suc n) =
    let k = known n in
    let w = settled_levels n in
    further w (λ s next h. places_expr s (under n) next k w h) (λ next h. places_unary Anywhere (under n) next k w h) (λ next h. places_list (under n) next k w h)

-- ---- statements

places_value : (i : Level) (next : ℕ) → IsKnown i → IsSettledLevel i → settled next ≡ true → places (value i) next ≡ true
unfolding value
places_value i next k w h =
    rw (look_expr Anywhere i k, places_expr Anywhere i next k w h) refl

places_printed : (i : Level) (next : ℕ) → IsKnown i → IsSettledLevel i → settled next ≡ true → places (printed i) next ≡ true
unfolding printed exprs
places_printed Bottom next k w h = refl
places_printed (Under l e u s) next (below j p q r) (further w x y z) h =
    rw (p Anywhere, x Anywhere (COMMA + CLOSE) refl, h) refl

places_saved : (i : Level) (next : ℕ) → IsKnown i → IsSettledLevel i → settled next ≡ true → places (saved i) next ≡ true
unfolding saved
places_saved Bottom next k w h = refl
places_saved (Under l e u s) next (below j p q r) (further w x y z) h =
    rw (p Anywhere, x Anywhere CLOSE refl, h) refl

look_name : look name ≡ seen ANY_NAME 0
unfolding name
look_name = refl

places_name : (next : ℕ) → settled next ≡ true → places name next ≡ true
unfolding name
places_name next h = rw h refl

places_target : (i : Level) (next : ℕ) → IsKnown i → IsSettledLevel i → settled next ≡ true → places (target i) next ≡ true
unfolding target
places_target i next k w h =
    rw (look_index i k, places_postfix Statement i OPEN_BRACKET k w refl, places_index i next k w h) refl

places_assign : (i : Level) (next : ℕ) → IsKnown i → IsSettledLevel i → settled next ≡ true → places (assign i) next ≡ true
unfolding assign
places_assign i next k w h =
    rw (look_value i k, places_target i ASSIGNMENT k w refl, places_value i next k w h) refl

places_stmt : (i : Level) (next : ℕ) → IsKnown i → IsSettledLevel i → settled next ≡ true → places (stmt i) next ≡ true
unfolding stmt imports module_name delete print save bind
places_stmt i next k w h =
    rw (
      look_name,
      look_printed i k,
      look_saved i k,
      look_value i k,
      places_printed i next k w h,
      places_saved i next k w h,
      places_name ASSIGNMENT refl,
      places_value i next k w h,
      places_name next h,
      places_assign i next k w h,
      h,
    ) refl

-- what statements begin with, and that none is empty
first_of_stmt : (i : Level) → IsKnown i → (look (stmt i)).first ≡ START
unfolding stmt imports module_name delete print save name bind assign target
first_of_stmt i k = rw (look_postfix Statement i k) refl

stmt_is_some : (i : Level) → IsKnown i → (look (stmt i)).empty ≡ false
unfolding stmt imports module_name delete print save name bind assign target
stmt_is_some i k = rw (look_postfix Statement i k) refl

first_of_lines : (s : Gram Token Stmt) (n : ℕ) → (look s).first ≡ START → (look s).empty ≡ false → (look (lines s n)).first ≡ lines_start n
unfolding lines line
first_of_lines s zero p q = refl
first_of_lines s (suc n) p q = rw (p, q) refl

lines_may_be_none : (s : Gram Token Stmt) (n : ℕ) → (look (lines s n)).empty ≡ true
unfolding lines
lines_may_be_none s zero = refl
lines_may_be_none s (suc n) = refl

starts_are_settled : (n : ℕ) → settled (bit_or (lines_start n) 0) ≡ true
starts_are_settled zero = refl
starts_are_settled (suc n) = refl

places_lines : (s : Gram Token Stmt) (n : ℕ) → (look s).first ≡ START → (look s).empty ≡ false → ((next : ℕ) → settled next ≡ true → places s next ≡ true) → places (lines s n) 0 ≡ true
unfolding lines line
places_lines s zero p q r = refl
places_lines s (suc n) p q r =
    rw (r END refl, lines_may_be_none s n, first_of_lines s n p q, starts_are_settled n, places_lines s n p q r) refl

begin_is_settled : (s : Gram Token Stmt) (n : ℕ) → (look s).first ≡ START → (look s).empty ≡ false → settled (from (look (lines s n)) 0) ≡ true
begin_is_settled s n p q = rw (lines_may_be_none s n, first_of_lines s n p q, starts_are_settled n) refl

pub chooses : LookaheadChooses
unfolding cell
chooses =
    let i = under 64 in
    let k = known 64 in
    let p = first_of_stmt i k in
    let q = stmt_is_some i k in
    (settled_is _ (begin_is_settled (stmt i) 1000 p q), places_are (lines (stmt i) 1000) 0 (places_lines (stmt i) 1000 p q (λ next h. places_stmt i next k (settled_levels 64) h)))
