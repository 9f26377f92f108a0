-- The calls of functions and methods have at least as many words as their meanings have tokens.
use Rattle.std.proofs.Common.{ℕ, ◌+◌, ◌-◌, ◌≤◌, true, false, List, [], ◌∷◌, Option, None, Some, refl, arith}
use Rattle.std.specs.Prelude.{Bool, bytes_eq, codes}
use Rattle.std.proofs.lemmas.Bool.{cond_both}
use Rattle.nd_model.specs.Grammar.Grammar.{Gram, has}
use Rattle.nd_model.specs.Grammar.Token.{Token}
use Rattle.nd_model.specs.Grammar.Calls.{Accumulation, FieldType, DType, Simple, Packed}
use Rattle.nd_model.specs.Grammar.Syntax.{Expr, Call, Minimum, Maximum, Method, Transpose, AsType, ViewAs, Accumulated, Axis, DefaultAxis, AllAxes, AtAxis, Bound, Omitted, Given}
use Rattle.nd_model.specs.Grammar.Tokens.{tokens_of_type, tokens_of_fields, tokens_of_dtype, tokens_of_typing, tokens_of_keepdims, tokens_of, tokens_of_call, tokens_of_fold, tokens_of_axis, tokens_of_number, tokens_of_method, tokens_of_first, tokens_of_shape, tokens_of_lengths, tokens_of_exprs}
use Rattle.nd_model.specs.Grammar.Kinds.{ARANGE, FILL, FULL, ARRAY, BROADCAST, UFUNC, EXTREMUM, ABSOLUTE, LOAD, KIND, KIND_PLAIN, REDUCE, ACCUMULATE, TRANSPOSED, TRANSPOSE, RESHAPE, COPY, CONVERSION, REDUCTION, ACCUMULATION, AXIS, AXIS_BOUND, KEEPDIMS, KEEPDIMS_BOUND, DTYPE, DTYPE_BOUND, TRUTH, OPEN, OPEN_NONE, OPEN_TUPLE, CLOSE, OPEN_BRACKET, CLOSE_BRACKET, COMMA, COMMA_MORE, COMMA_LAST, COMMA_INNER, COMMA_CLOSING, NONE, QUOTED, EQUAL, DOT, NP}
use Rattle.nd_model.specs.Grammar.Cells.{exprs_of, name_of, accumulation_named, extremum_named, conversion_named, ranged, Anywhere, Length, Number, AxisNumber, Level, Inside, comma_expr, exprs, quoted, no_lengths, tuple, shape, kind_name, type_name, pair, fields, dtype, typing, only_typing, comma_typing, named_axis, numbered_axis, named_keepdims, only_keepdims, comma_keepdims, options, comma_options, first_axis, third, second, arange, filled, full, new_array, broadcast_to, two, reduce, accumulate, fold, call, function, empty, type_argument, axes, lengths, reduction_options, reduction, accumulation, attribute, method}
use Rattle.nd_model.proofs.Weights.{HasNoEnd, Weighs, done, one, token_weighs, both, either, shut, total, many, lighter, enclosed, in_parentheses, LevelWeighs, InsideWeighs, entered, maybe, grouped_weighs, mapped_weighs, separated_tokens, separated_weighs, element_weighs}

-- ---- parts of calls

pub comma_weighs : {e : Gram Token Expr} → Weighs e tokens_of → Weighs (comma_expr e) (λ x. 1 + tokens_of x)
unfolding has
comma_weighs p = both (λ x. 1 + tokens_of x) (token_weighs COMMA (refl, refl)) p (λ _ x. omega arith)

pub exprs_weigh : {first e : Gram Token Expr} (weight : List Expr → ℕ) → Weighs first tokens_of → Weighs e tokens_of
    → ((x : Expr) (xs : List Expr) → weight (x ∷ xs) ≤ tokens_of x + total (λ y. 1 + tokens_of y) xs) → Weighs (exprs first e) weight
unfolding exprs
exprs_weigh weight p q le = both weight p (many (comma_weighs q)) le

pub quoted_weighs : (i : Level) → LevelWeighs i → Weighs (quoted i) (λ _. 3)
unfolding quoted has
quoted_weighs i p = entered i OPEN _ _ p (λ inside q. in_parentheses (one QUOTED _ (λ _. 1) (refl, refl) (λ t. omega arith)))

more_weigh : (es : List Expr) → tokens_of_exprs (exprs_of es) ≤ total (λ e. 1 + tokens_of e) es
more_weigh [] = omega arith
more_weigh (e ∷ es) = let h = more_weigh es in omega arith

-- lengths in brackets of their own
abbrev tuple_tokens : List Expr → ℕ
tuple_tokens es = 2 + separated_tokens tokens_of es

no_lengths_weigh : (i : Level) → LevelWeighs i → Weighs (no_lengths i) tuple_tokens
unfolding no_lengths has
no_lengths_weigh i p =
    entered i OPEN_NONE _ _ p (λ inside q. both tuple_tokens (token_weighs OPEN_NONE (refl, refl)) (token_weighs CLOSE (refl, refl)) (λ _ _. omega arith))

tuple_weighs : (i : Level) → LevelWeighs i → Weighs (tuple i) tuple_tokens
unfolding tuple has
tuple_weighs i p =
    entered i OPEN_TUPLE _ _ p (λ inside q. enclosed OPEN_TUPLE CLOSE (refl, refl) (refl, refl)
    (separated_weighs COMMA_INNER COMMA_CLOSING (separated_tokens tokens_of) (refl, refl) (q.expr Anywhere) (q.expr Anywhere) (λ e es. omega arith)))

shape_of_tuple : (es : List Expr) → tokens_of_shape (exprs_of es) ≤ tuple_tokens es
shape_of_tuple [] = omega arith
shape_of_tuple (e ∷ []) = omega arith
shape_of_tuple (e ∷ f ∷ es) = let h = more_weigh es in omega arith

shape_weighs : (inside : Inside) → InsideWeighs inside → Weighs (shape inside) (λ es. tokens_of_shape (exprs_of es))
unfolding shape
shape_weighs inside q =
    either (lighter _ (tuple_weighs inside.level q.level) shape_of_tuple)
    (either (lighter _ (no_lengths_weigh inside.level q.level) shape_of_tuple) (mapped_weighs _ _ (q.expr Length) (λ e. omega arith)))

-- ---- types

kind_name_weighs : Weighs kind_name (λ t. tokens_of_type t - 2)
unfolding kind_name has
kind_name_weighs = either (one KIND_PLAIN _ (λ t. tokens_of_type t - 2) (refl, refl) (λ t. omega arith)) shut

type_name_weighs : Weighs type_name tokens_of_type
unfolding type_name has
type_name_weighs =
    either (both tokens_of_type (token_weighs NP (refl, refl))
    (both (λ t. tokens_of_type t - 1) (token_weighs DOT (refl, refl)) kind_name_weighs (λ _ t. omega arith)) (λ _ t. omega arith))
    (one QUOTED _ tokens_of_type (refl, refl) (λ t. omega arith))

-- `(STRING, type)`
abbrev pair_tokens : FieldType → ℕ
pair_tokens f = 2 + (2 + tokens_of_type f.type_name)

pair_weighs : (i : Level) → LevelWeighs i → Weighs (pair i) pair_tokens
unfolding pair has
pair_weighs i p =
    entered i OPEN _ _ p (λ inside q. in_parentheses
    (both (λ (f : FieldType). 2 + tokens_of_type f.type_name) (one QUOTED _ (λ _. 1) (refl, refl) (λ t. omega arith))
    (both (λ t. 1 + tokens_of_type t) (token_weighs COMMA (refl, refl)) type_name_weighs (λ _ t. omega arith)) (λ n t. omega arith)))

more_fields : (fs : List FieldType) → tokens_of_fields fs ≤ total (λ f. 1 + pair_tokens f) fs
more_fields [] = omega arith
more_fields (f ∷ fs) = let h = more_fields fs in omega arith

fields_weigh : (i : Level) → LevelWeighs i → Weighs (fields i) (λ fs. 2 + (tokens_of_fields fs - 1))
unfolding fields has
fields_weigh i p =
    entered i OPEN_BRACKET _ _ p (λ inside q. enclosed OPEN_BRACKET CLOSE_BRACKET (refl, refl) (refl, refl)
    (separated_weighs COMMA_MORE COMMA_LAST (λ fs. tokens_of_fields fs - 1) (refl, refl) (pair_weighs inside.level q.level) (pair_weighs inside.level q.level)
    (λ f fs. let h = more_fields fs in omega arith)))

dtype_weighs : (i : Level) → LevelWeighs i → Weighs (dtype i) tokens_of_dtype
unfolding dtype
dtype_weighs i p =
    either (mapped_weighs Packed tokens_of_dtype (fields_weigh i p) (λ fs. omega arith)) (mapped_weighs Simple tokens_of_dtype type_name_weighs (λ t. omega arith))

-- `dtype = ..`
abbrev typing_tokens : DType → ℕ
typing_tokens t = 2 + tokens_of_dtype t

typing_weighs : (key : ℕ) (i : Level) → HasNoEnd key → LevelWeighs i → Weighs (typing key i) typing_tokens
unfolding typing has
typing_weighs key i outside p =
    both typing_tokens (token_weighs key outside) (both (λ t. 1 + tokens_of_dtype t) (token_weighs EQUAL (refl, refl)) (dtype_weighs i p) (λ _ t. omega arith)) (λ _ t. omega arith)

only_typing_weighs : (i : Level) → LevelWeighs i → Weighs (only_typing i) typing_tokens
unfolding only_typing has
only_typing_weighs i p = either (typing_weighs DTYPE i (refl, refl) p) shut

comma_typing_weighs : (i : Level) → LevelWeighs i → Weighs (comma_typing i) tokens_of_typing
unfolding comma_typing has
comma_typing_weighs i p =
    either (mapped_weighs Some tokens_of_typing (both (λ t. 1 + typing_tokens t) (token_weighs COMMA (refl, refl)) (only_typing_weighs i p) (λ _ t. omega arith)) (λ t. omega arith))
    (done tokens_of_typing None (omega arith))

-- ---- axes

-- what stands behind `axis =`
abbrev axis_tokens : Axis → ℕ
axis_tokens DefaultAxis = 0
axis_tokens AllAxes = 1
axis_tokens (AtAxis e) = tokens_of e

named_axis_weighs : (key : ℕ) (inside : Inside) → HasNoEnd key → InsideWeighs inside → Weighs (named_axis key inside) (λ a. 2 + axis_tokens a)
unfolding named_axis has
named_axis_weighs key inside outside q =
    both (λ a. 2 + axis_tokens a) (token_weighs key outside)
    (both (λ a. 1 + axis_tokens a) (token_weighs EQUAL (refl, refl))
    (either (one NONE _ axis_tokens (refl, refl) (λ t. omega arith)) (mapped_weighs AtAxis axis_tokens (q.expr Anywhere) (λ e. omega arith))) (λ _ a. omega arith))
    (λ _ a. omega arith)

numbered_axis_weighs : (inside : Inside) → InsideWeighs inside → Weighs (numbered_axis inside) (λ a. tokens_of_number a - 1)
unfolding numbered_axis has
numbered_axis_weighs inside q =
    both (λ a. tokens_of_number a - 1) (token_weighs AXIS (refl, refl))
    (both (λ e. 1 + tokens_of e) (token_weighs EQUAL (refl, refl)) (q.expr Anywhere) (λ _ e. omega arith)) (λ _ e. omega arith)

named_keepdims_weighs : (key : ℕ) → HasNoEnd key → Weighs (named_keepdims key) (λ _. 3)
unfolding named_keepdims has
named_keepdims_weighs key outside =
    both (λ _. 3) (token_weighs key outside)
    (both (λ _. 2) (token_weighs EQUAL (refl, refl)) (one TRUTH _ (λ _. 1) (refl, refl) (λ t. omega arith)) (λ _ k. omega arith)) (λ _ k. omega arith)

only_keepdims_weighs : Weighs only_keepdims (λ _. 3)
unfolding only_keepdims has
only_keepdims_weighs = either (named_keepdims_weighs KEEPDIMS (refl, refl)) shut

keepdims_weigh : (k : Bool) → tokens_of_keepdims k ≤ 4
keepdims_weigh true = omega arith
keepdims_weigh false = omega arith

comma_keepdims_weighs : Weighs comma_keepdims tokens_of_keepdims
unfolding comma_keepdims has
comma_keepdims_weighs =
    either (both tokens_of_keepdims (token_weighs COMMA (refl, refl)) only_keepdims_weighs (λ _ k. keepdims_weigh k)) (done tokens_of_keepdims false (omega arith))

-- `, axis = .., keepdims = ..`
abbrev option_tokens : Axis × Bool → ℕ
option_tokens o = tokens_of_axis o.0 + tokens_of_keepdims o.1

axis_weighs : (a : Axis) → tokens_of_axis a ≤ 3 + axis_tokens a
axis_weighs DefaultAxis = omega arith
axis_weighs AllAxes = omega arith
axis_weighs (AtAxis e) = omega arith

options_weigh : (inside : Inside) → InsideWeighs inside → Weighs (options inside) (λ o. option_tokens o - 1)
unfolding options has
options_weigh inside q =
    either (both (λ o. option_tokens o - 1) (named_axis_weighs AXIS inside (refl, refl) q) comma_keepdims_weighs (λ a k. let h = axis_weighs a in omega arith))
    (either shut (mapped_weighs _ (λ o. option_tokens o - 1) only_keepdims_weighs (λ k. let h = keepdims_weigh k in omega arith)))

comma_options_weigh : (inside : Inside) → InsideWeighs inside → Weighs (comma_options inside) option_tokens
unfolding comma_options has
comma_options_weigh inside q =
    either (both option_tokens (token_weighs COMMA (refl, refl)) (options_weigh inside q) (λ _ o. omega arith)) (done option_tokens (DefaultAxis, false) (omega arith))

first_axis_weighs : (inside : Inside) → InsideWeighs inside → Weighs (first_axis inside) axis_tokens
unfolding first_axis has
first_axis_weighs inside q =
    either (one NONE _ axis_tokens (refl, refl) (λ t. omega arith)) (mapped_weighs AtAxis axis_tokens (q.expr AxisNumber) (λ e. omega arith))

-- ---- functions

-- what stands behind the second number of `arange`
abbrev third_tokens : Option Expr × Option DType → ℕ
third_tokens x = maybe (λ c. 1 + tokens_of c) x.0 + tokens_of_typing x.1

third_weighs : (inside : Inside) → InsideWeighs inside → Weighs (third inside) third_tokens
unfolding third has
third_weighs inside q =
    either (both third_tokens (token_weighs COMMA (refl, refl))
    (either (mapped_weighs _ (λ x. third_tokens x - 1) (typing_weighs DTYPE_BOUND inside.level (refl, refl) q.level) (λ t. omega arith))
    (both (λ x. third_tokens x - 1) (q.expr Number) (comma_typing_weighs inside.level q.level) (λ c t. omega arith))) (λ _ x. omega arith))
    (done third_tokens (None, None) (omega arith))

-- and behind the first one
abbrev second_tokens : Option (Expr × Option Expr) × Option DType → ℕ
second_tokens x = maybe (λ (b : Expr × Option Expr). 1 + tokens_of b.0 + maybe (λ c. 1 + tokens_of c) b.1) x.0 + tokens_of_typing x.1

second_weighs : (inside : Inside) → InsideWeighs inside → Weighs (second inside) second_tokens
unfolding second has
second_weighs inside q =
    either (both second_tokens (token_weighs COMMA (refl, refl))
    (either (mapped_weighs _ (λ x. second_tokens x - 1) (typing_weighs DTYPE_BOUND inside.level (refl, refl) q.level) (λ t. omega arith))
    (both (λ x. second_tokens x - 1) (q.expr Number) (third_weighs inside q) (λ b x. omega arith))) (λ _ x. omega arith))
    (done second_tokens (None, None) (omega arith))

ranged_weighs : (a : Expr) (x : Option (Expr × Option Expr) × Option DType) → tokens_of_call (ranged a x) ≤ 5 + tokens_of a + second_tokens x
ranged_weighs a (None, t) = omega arith
ranged_weighs a (Some (b, None), t) = omega arith
ranged_weighs a (Some (b, Some c), t) = omega arith

-- a call without `np.` and its name
abbrev argument_tokens : Call → ℕ
argument_tokens c = 2 + (tokens_of_call c - 5)

arange_weighs : (i : Level) → LevelWeighs i → Weighs (arange i) argument_tokens
unfolding arange
arange_weighs i p =
    entered i OPEN _ _ p (λ inside q. in_parentheses
    (both (λ c. tokens_of_call c - 5) (q.expr Anywhere) (second_weighs inside q) (λ a x. let h = ranged_weighs a x in omega arith)))

filled_weighs : (i : Level) → LevelWeighs i → Weighs (filled i) (λ x. 2 + (tokens_of_shape (exprs_of x.0) + tokens_of_typing x.1))
unfolding filled
filled_weighs i p =
    entered i OPEN _ _ p (λ inside q. in_parentheses (both _ (shape_weighs inside q) (comma_typing_weighs inside.level q.level) (λ s t. omega arith)))

full_weighs : (i : Level) → LevelWeighs i → Weighs (full i) argument_tokens
unfolding full
full_weighs i p =
    entered i OPEN _ _ p (λ inside q. in_parentheses
    (both (λ c. tokens_of_call c - 5) (shape_weighs inside q)
    (both (λ (x : Expr × Option DType). 1 + tokens_of x.0 + tokens_of_typing x.1) (comma_weighs (q.expr Anywhere)) (comma_typing_weighs inside.level q.level) (λ e t. omega arith))
    (λ s x. omega arith)))

new_array_weighs : (i : Level) → LevelWeighs i → Weighs (new_array i) argument_tokens
unfolding new_array
new_array_weighs i p =
    entered i OPEN _ _ p (λ inside q. in_parentheses
    (both (λ c. tokens_of_call c - 5) (element_weighs inside q) (comma_typing_weighs inside.level q.level) (λ x t. omega arith)))

broadcast_to_weighs : (i : Level) → LevelWeighs i → Weighs (broadcast_to i) argument_tokens
unfolding broadcast_to has
broadcast_to_weighs i p =
    entered i OPEN _ _ p (λ inside q. in_parentheses
    (both (λ c. tokens_of_call c - 5) (q.expr Anywhere)
    (both (λ s. 1 + tokens_of_shape (exprs_of s)) (token_weighs COMMA (refl, refl)) (shape_weighs inside q) (λ _ s. omega arith)) (λ e s. omega arith)))

two_weigh : (i : Level) → LevelWeighs i → Weighs (two i) (λ x. 2 + (1 + tokens_of x.0 + tokens_of x.1))
unfolding two
two_weigh i p = entered i OPEN _ _ p (λ inside q. in_parentheses (both _ (q.expr Anywhere) (comma_weighs (q.expr Anywhere)) (λ a b. omega arith)))

extremum_weighs : (n : List ℕ) (a b : Expr) → tokens_of_call (extremum_named n a b) ≤ 6 + tokens_of a + tokens_of b
extremum_weighs n a b =
    cond_both (bytes_eq n (codes "minimum")) (Minimum a b) (Maximum a b) (λ c. tokens_of_call c ≤ 6 + tokens_of a + tokens_of b) (λ _. omega arith) (λ _. omega arith)

reduce_weighs : (i : Level) → LevelWeighs i → Weighs (reduce i) (λ f. 2 + (tokens_of_fold f - 3))
unfolding reduce
reduce_weighs i p =
    entered i OPEN _ _ p (λ inside q. in_parentheses (both (λ f. tokens_of_fold f - 3) (q.expr Anywhere) (comma_options_weigh inside q) (λ e o. omega arith)))

accumulate_weighs : (i : Level) → LevelWeighs i → Weighs (accumulate i) (λ f. 2 + (tokens_of_fold f - 3))
unfolding accumulate has
accumulate_weighs i p =
    entered i OPEN _ _ p (λ inside q. in_parentheses
    (both (λ f. tokens_of_fold f - 3) (q.expr Anywhere)
    (either (both tokens_of_number (token_weighs COMMA (refl, refl)) (either (numbered_axis_weighs inside q) shut) (λ _ a. omega arith)) (done tokens_of_number Omitted (omega arith)))
    (λ e a. omega arith)))

fold_weighs : (i : Level) → LevelWeighs i → Weighs (fold i) (λ f. 1 + tokens_of_fold f)
unfolding fold has
fold_weighs i p =
    both (λ f. 1 + tokens_of_fold f) (token_weighs DOT (refl, refl))
    (either (both tokens_of_fold (token_weighs REDUCE (refl, refl)) (reduce_weighs i p) (λ _ f. omega arith))
    (either (both tokens_of_fold (token_weighs ACCUMULATE (refl, refl)) (accumulate_weighs i p) (λ _ f. omega arith)) shut))
    (λ _ f. omega arith)

-- a call without `np.`
abbrev call_tokens : Call → ℕ
call_tokens c = tokens_of_call c - 2

call_weighs : (i : Level) → LevelWeighs i → Weighs (call i) call_tokens
unfolding call has
call_weighs i p =
    either (both call_tokens (token_weighs ARANGE (refl, refl)) (arange_weighs i p) (λ _ c. omega arith))
    (either (both call_tokens (token_weighs FILL (refl, refl)) (filled_weighs i p) (λ _ x. omega arith))
    (either (both call_tokens (token_weighs FULL (refl, refl)) (full_weighs i p) (λ _ c. omega arith))
    (either (both call_tokens (token_weighs ARRAY (refl, refl)) (new_array_weighs i p) (λ _ c. omega arith))
    (either (both call_tokens (token_weighs BROADCAST (refl, refl)) (broadcast_to_weighs i p) (λ _ c. omega arith))
    (either (both call_tokens (token_weighs KIND (refl, refl)) (grouped_weighs OPEN i (refl, refl) p) (λ _ e. omega arith))
    (either (both call_tokens (token_weighs EXTREMUM (refl, refl)) (two_weigh i p) (λ t x. let h = extremum_weighs (name_of t) x.0 x.1 in omega arith))
    (either (both call_tokens (token_weighs ABSOLUTE (refl, refl)) (grouped_weighs OPEN i (refl, refl) p) (λ _ e. omega arith))
    (either (both call_tokens (token_weighs UFUNC (refl, refl)) (fold_weighs i p) (λ _ f. omega arith))
    (either (both call_tokens (token_weighs LOAD (refl, refl)) (quoted_weighs i p) (λ _ n. omega arith)) shut)))))))))

pub function_weighs : (np : ℕ) (i : Level) → HasNoEnd np → LevelWeighs i → Weighs (function np i) tokens_of
unfolding function has
function_weighs np i outside p =
    both tokens_of (token_weighs np outside) (both (λ e. tokens_of e - 1) (token_weighs DOT (refl, refl)) (call_weighs i p) (λ _ c. omega arith)) (λ _ e. omega arith)

-- ---- methods

empty_weighs : (i : Level) → LevelWeighs i → Weighs (empty i) (λ _. 2)
unfolding empty has
empty_weighs i p = entered i OPEN _ _ p (λ inside q. both (λ _. 2) (token_weighs OPEN (refl, refl)) (token_weighs CLOSE (refl, refl)) (λ _ _. omega arith))

type_argument_weighs : (i : Level) → LevelWeighs i → Weighs (type_argument i) (λ t. 2 + tokens_of_dtype t)
unfolding type_argument
type_argument_weighs i p = entered i OPEN _ _ p (λ inside q. in_parentheses (dtype_weighs inside.level q.level))

axes_weigh : (i : Level) → LevelWeighs i → Weighs (axes i) tuple_tokens
unfolding axes
axes_weigh i p =
    entered i OPEN _ _ p (λ inside q. in_parentheses
    (either (exprs_weigh (separated_tokens tokens_of) (q.expr Anywhere) (q.expr Anywhere) (λ e es. omega arith)) (done (separated_tokens tokens_of) [] (omega arith))))

transpose_weighs : (es : List Expr) → tokens_of_method (Transpose (exprs_of es)) ≤ tuple_tokens es
transpose_weighs [] = omega arith
transpose_weighs (e ∷ es) = let h = more_weigh es in omega arith

lengths_of_tuple : (es : List Expr) → tokens_of_lengths (exprs_of es) ≤ tuple_tokens es
lengths_of_tuple [] = omega arith
lengths_of_tuple (e ∷ es) = let h = more_weigh es in omega arith

lengths_weigh : (i : Level) → LevelWeighs i → Weighs (lengths i) (λ es. 2 + tokens_of_lengths (exprs_of es))
unfolding lengths
lengths_weigh i p =
    entered i OPEN _ _ p (λ inside q. in_parentheses
    (either (lighter _ (tuple_weighs inside.level q.level) lengths_of_tuple)
    (either (lighter _ (no_lengths_weigh inside.level q.level) lengths_of_tuple)
    (exprs_weigh (λ es. tokens_of_lengths (exprs_of es)) (q.expr Length) (q.expr Anywhere) (λ e es. let h = more_weigh es in omega arith)))))

conversion_weighs : (n : List ℕ) (t : DType) → tokens_of_method (conversion_named n t) ≤ 2 + tokens_of_dtype t
conversion_weighs n t =
    cond_both (bytes_eq n (codes "astype")) (AsType t) (ViewAs t) (λ m. tokens_of_method m ≤ 2 + tokens_of_dtype t) (λ _. omega arith) (λ _. omega arith)

-- what stands in the brackets of a reduction
abbrev first_tokens : Axis × Bool → ℕ
first_tokens o = tokens_of_first o.0 o.1

first_weighs : (a : Axis) (k : Bool) → tokens_of_first a k ≤ axis_tokens a + tokens_of_keepdims k
first_weighs DefaultAxis true = omega arith
first_weighs DefaultAxis false = omega arith
first_weighs AllAxes k = omega arith
first_weighs (AtAxis e) k = omega arith

only_first : (k : Bool) → tokens_of_first DefaultAxis k ≤ 3
only_first true = omega arith
only_first false = omega arith

reduction_options_weigh : (inside : Inside) → InsideWeighs inside → Weighs (reduction_options inside) first_tokens
unfolding reduction_options has
reduction_options_weigh inside q =
    either (both first_tokens (named_axis_weighs AXIS_BOUND inside (refl, refl) q) comma_keepdims_weighs (λ a k. let h = first_weighs a k in omega arith))
    (either (mapped_weighs _ first_tokens (named_keepdims_weighs KEEPDIMS_BOUND (refl, refl)) only_first)
    (either (both first_tokens (first_axis_weighs inside q) comma_keepdims_weighs (λ a k. first_weighs a k)) (done first_tokens (DefaultAxis, false) (omega arith))))

reduction_weighs : (i : Level) → LevelWeighs i → Weighs (reduction i) (λ o. 2 + first_tokens o)
unfolding reduction
reduction_weighs i p = entered i OPEN _ _ p (λ inside q. in_parentheses (reduction_options_weigh inside q))

accumulation_weighs : (i : Level) → LevelWeighs i → Weighs (accumulation i) (λ a. 2 + (tokens_of_number a - 1))
unfolding accumulation
accumulation_weighs i p =
    entered i OPEN _ _ p (λ inside q. in_parentheses
    (either (numbered_axis_weighs inside q) (either shut (done (λ a. tokens_of_number a - 1) Omitted (omega arith)))))

accumulated_weighs : (f : Accumulation) (a : Bound) → tokens_of_method (Accumulated f a) ≤ 2 + (tokens_of_number a - 1)
accumulated_weighs f Omitted = omega arith
accumulated_weighs f (Given e) = omega arith

-- a method with its name
abbrev method_tokens : Method → ℕ
method_tokens m = 1 + tokens_of_method m

attribute_weighs : (i : Level) → LevelWeighs i → Weighs (attribute i) method_tokens
unfolding attribute has
attribute_weighs i p =
    either (one TRANSPOSED _ method_tokens (refl, refl) (λ t. omega arith))
    (either (both method_tokens (token_weighs TRANSPOSE (refl, refl)) (axes_weigh i p) (λ _ es. let h = transpose_weighs es in omega arith))
    (either (both method_tokens (token_weighs RESHAPE (refl, refl)) (lengths_weigh i p) (λ _ es. omega arith))
    (either (both method_tokens (token_weighs COPY (refl, refl)) (empty_weighs i p) (λ _ _. omega arith))
    (either (both method_tokens (token_weighs CONVERSION (refl, refl)) (type_argument_weighs i p) (λ t d. let h = conversion_weighs (name_of t) d in omega arith))
    (either (both method_tokens (token_weighs REDUCTION (refl, refl)) (reduction_weighs i p) (λ _ o. omega arith))
    (either (both method_tokens (token_weighs ACCUMULATION (refl, refl)) (accumulation_weighs i p) (λ t a. let h = accumulated_weighs (accumulation_named (name_of t)) a in omega arith))
    shut))))))

pub method_weighs : (i : Level) → LevelWeighs i → Weighs (method i) (λ m. 2 + tokens_of_method m)
unfolding method has
method_weighs i p = both (λ m. 2 + tokens_of_method m) (token_weighs DOT (refl, refl)) (attribute_weighs i p) (λ _ m. omega arith)
