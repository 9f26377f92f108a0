-- The fault of whole statements stands at a token: each front that ends with the tokens is a cell.
use Rattle.std.proofs.Common.{◌≡◌, ◌+◌, ◌-◌, ◌^◌, ◌<◌, ◌⊎◌, inl, inr, ℕ, zero, suc, Bool, true, false, List, [], ◌∷◌, ◌++◌, length, refl, sym, ap, subst, ◌∙◌, arith}
use Rattle.std.specs.Prelude.{slice_get, IsSome, ◌&&◌, ◌==◌}
use Rattle.std.proofs.lemmas.Bool.{eqb-true}
use Rattle.std.proofs.lemmas.List.{length-append}
use Rattle.std.proofs.lemmas.Option.{slice_get-get_or}
use Rattle.nd_model.specs.Grammar.Grammar.{Gram, Done, Here, One, Then, Or, Many, Shut, Stop, has, Repeats, Spans, Reaches}
use Rattle.nd_model.specs.Grammar.Faults.{HasFault}
use Rattle.nd_model.specs.Grammar.Predict.{apart}
use Rattle.nd_model.specs.Grammar.Token.{Word, Name, Keyword, End, Token}
use Rattle.nd_model.specs.Grammar.Lexing.{is_end, AreStatements}
use Rattle.nd_model.specs.Grammar.Syntax.{Expr, Elements, Stmt, Line}
use Rattle.nd_model.specs.Grammar.Kinds.{OPEN, OPEN_ONE, OPEN_SOME, DTYPE, DTYPE_BOUND, name_kinds, keyword_kinds, kind_of_symbol, kind, kind_of_word, END}
use Rattle.nd_model.specs.Grammar.Cells.{Level, Bottom, Under, Spot, Anywhere, FirstItem, LaterItem, Length, Number, AxisNumber, name, grouped, bound_in, step_in, slice, newaxis_name, newaxis, elements, list, part, item, nothing, contents, index, exprs, quoted, no_lengths, tuple, shape, kind_name, type_name, pair, fields, dtype, typing, only_typing, comma_typing, named_axis, numbered_axis, named_keepdims, only_keepdims, comma_keepdims, options, comma_options, first_axis, third, second, arange, filled, full, new_array, broadcast_to, two, reduce, accumulate, fold, call, function, empty, type_argument, axes, lengths, reduction_options, reduction, accumulation, attribute, method, operand, suffix, postfix, exponent, power, signed, unary, term, sum, shift, band, bxor, bor, comparison, expr, under, module_name, imports, delete, printed, print, saved, save, value, line, lines}
use Rattle.nd_model.specs.Grammar.Cells as cells
use Rattle.nd_model.specs.Grammar.Factored.{bind, place, group, groups, target, assign, stmt, cell}
use Rattle.nd_model.proofs.Parsing.Sets.{and_true, apart_false}
use Rattle.nd_model.proofs.Parsing.Words.{by_place, implied, so, by_both, no_keyword, no_name}
use Rattle.nd_model.proofs.Parsing.Unique.{front_end}
use Rattle.nd_model.proofs.Parsing.Answers.{same_fault}
use Rattle.nd_model.proofs.Parsing.Alike.{cell_up, cell_down}

-- ---- the tokens that a grammar takes

-- no rule takes a token of the set
abbrev avoids : {T C : Type 0} → ℕ → Gram T C → Bool
avoids set (Done c) = true
avoids set (Here f) = true
avoids set (One s f) = apart set s
avoids set (Then f a b) = avoids set a && avoids set b
avoids set (Or s a b) = avoids set a && avoids set b
avoids set (Many s f a) = avoids set a
avoids set (Shut s why) = true

-- a token that is not of the set
abbrev Other : {T : Type 0} → (List T → ℕ) → ℕ → List T → List T → T → Type 0
Other kind set ts rest t = (ts ≡ t ∷ rest) × (has set (kind (t ∷ rest)) ≡ false)

-- no token from ts up to rest is of the set
abbrev IsFree : {T : Type 0} → (List T → ℕ) → ℕ → List T → List T → Type 0
IsFree {T} kind set ts rest = (front : List T) × Repeats (Other kind set) ts rest front

join : {T A : Type 0} (R : List T → List T → A → Type 0) (xs ys : List A) (ts mid rest : List T) → Repeats R ts mid xs → Repeats R mid rest ys → Repeats R ts rest (xs ++ ys)
join R [] ys ts mid rest h r = subst (λ l. Repeats R l rest ys) h r
join R (x ∷ xs) ys ts mid rest h r = (h.0, h.1, join R xs ys h.0 mid rest h.2 r)

free_then : {T : Type 0} (kind : List T → ℕ) (set : ℕ) (ts mid rest : List T) → IsFree kind set ts mid → IsFree kind set mid rest → IsFree kind set ts rest
free_then kind set ts mid rest p q = (p.0 ++ q.0, join (Other kind set) p.0 q.0 ts mid rest p.1 q.1)

free_all : {T A : Type 0} (kind : List T → ℕ) (set : ℕ) (R : List T → List T → A → Type 0) → ((ts rest : List T) (x : A) → R ts rest x → IsFree kind set ts rest)
    → (xs : List A) (ts rest : List T) → Repeats R ts rest xs → IsFree kind set ts rest
free_all kind set R f [] ts rest h = ([], h)
free_all kind set R f (x ∷ xs) ts rest h = free_then kind set ts h.0 rest (f ts h.0 x h.1) (free_all kind set R f xs h.0 rest h.2)

one_free : {T : Type 0} (kind : List T → ℕ) (set s : ℕ) (ts rest : List T) (t : T) → apart set s ≡ true → ts ≡ t ∷ rest → has s (kind (t ∷ rest)) ≡ true → IsFree kind set ts rest
one_free kind set s ts rest t a is h = (t ∷ [], (rest, (is, apart_false kind set s (t ∷ rest) a h), refl))

text_free : {T C : Type 0} (kind : List T → ℕ) (set : ℕ) (g : Gram T C) (ts rest : List T) (c : C) → avoids set g ≡ true → Spans kind g ts rest c → IsFree kind set ts rest
text_free kind set (Done c) ts rest d a h = ([], h.0)
text_free kind set (Here f) ts rest d a h = ([], h.0)
text_free kind set (One s f) ts rest d a h = one_free kind set s ts rest h.0 a h.1 h.2
text_free kind set (Then f p q) ts rest d a h =
    let b = and_true _ _ a in
    free_then kind set ts h.0 rest (text_free kind set p ts h.0 h.1 b.0 h.3) (text_free kind set q h.0 rest h.2 b.1 h.4)
text_free kind set (Or s p q) ts rest d a (inl h) = text_free kind set p ts rest d (and_true _ _ a).0 h
text_free kind set (Or s p q) ts rest d a (inr h) = text_free kind set q ts rest d (and_true _ _ a).1 h
text_free kind set (Many s f p) ts rest d a h = free_all kind set (Spans kind p) (λ ts rest x h. text_free kind set p ts rest x a h) h.0 ts rest h.1
text_free kind set (Shut s why) ts rest d a h = absurd h

front_free : {T C : Type 0} (kind : List T → ℕ) (set : ℕ) (g : Gram T C) (ts rest : List T) → avoids set g ≡ true → Reaches kind g ts rest → IsFree kind set ts rest
front_free kind set (Done c) ts rest a h = ([], h)
front_free kind set (Here f) ts rest a h = ([], h)
front_free kind set (One s f) ts rest a (inl h) = ([], h)
front_free kind set (One s f) ts rest a (inr h) = one_free kind set s ts rest h.0 a h.1 h.2
front_free kind set (Then f p q) ts rest a (inl h) = front_free kind set p ts rest (and_true _ _ a).0 h
front_free kind set (Then f p q) ts rest a (inr h) =
    let b = and_true _ _ a in
    free_then kind set ts h.0 rest (text_free kind set p ts h.0 h.1 b.0 h.2) (front_free kind set q h.0 rest b.1 h.3)
front_free kind set (Or s p q) ts rest a (inl h) = front_free kind set p ts rest (and_true _ _ a).0 h
front_free kind set (Or s p q) ts rest a (inr h) = front_free kind set q ts rest (and_true _ _ a).1 h
front_free kind set (Many s f p) ts rest a h =
    free_then kind set ts h.0 rest (free_all kind set (Spans kind p) (λ ts rest x h. text_free kind set p ts rest x a h) h.1 ts h.0 h.2)
    (elim h.3 [ inl e ↦ ([], e) | inr r ↦ front_free kind set p h.0 rest a r ])
front_free kind set (Shut s why) ts rest a h = ([], h)

-- ---- the end of a statement

-- what no statement takes: an end, and a token that stands elsewhere
abbrev ENDS : ℕ
ENDS = END + 2 ^ 127

data IsSafe : Level → Type 1 where
  bottom : IsSafe Bottom
  below : {l : Level} {e : Spot → Gram Token Expr} {u : Gram Token Expr} {s : Gram Token Elements} → IsSafe l
      → ((s : Spot) → avoids ENDS (e s) ≡ true) → avoids ENDS u ≡ true → avoids ENDS s ≡ true → IsSafe (Under l e u s)

safe_list : (i : Level) → IsSafe i → avoids ENDS (list i) ≡ true
unfolding list elements
safe_list Bottom s = refl
safe_list (Under l e u s) (below j p q r) = rw (p Anywhere, r) refl

safe_nothing : (i : Level) → avoids ENDS (nothing i) ≡ true
unfolding nothing
safe_nothing Bottom = refl
safe_nothing (Under l e u s) = refl

safe_index : (i : Level) → IsSafe i → avoids ENDS (index i) ≡ true
unfolding index contents item part slice bound_in step_in newaxis_name newaxis
safe_index Bottom s = refl
safe_index (Under l e u s) (below j p q r) = rw (p Anywhere, p FirstItem, p LaterItem, safe_list l j, safe_nothing l) refl

safe_grouped : (i : Level) (opening : ℕ) → IsSafe i → apart ENDS opening ≡ true → avoids ENDS (grouped opening i) ≡ true
unfolding grouped
safe_grouped Bottom opening s h = refl
safe_grouped (Under l e u s) opening (below j p q r) h = rw (p Anywhere, h) refl

-- ---- parts of calls

safe_quoted : (i : Level) → avoids ENDS (quoted i) ≡ true
unfolding quoted
safe_quoted Bottom = refl
safe_quoted (Under l e u s) = refl

safe_no_lengths : (i : Level) → avoids ENDS (no_lengths i) ≡ true
unfolding no_lengths
safe_no_lengths Bottom = refl
safe_no_lengths (Under l e u s) = refl

safe_tuple : (i : Level) → IsSafe i → avoids ENDS (tuple i) ≡ true
unfolding tuple
safe_tuple Bottom s = refl
safe_tuple (Under l e u s) (below j p q r) = rw (p Anywhere) refl

safe_type_name : avoids ENDS type_name ≡ true
unfolding type_name kind_name
safe_type_name = refl

safe_pair : (i : Level) → avoids ENDS (pair i) ≡ true
unfolding pair
safe_pair Bottom = refl
safe_pair (Under l e u s) = rw safe_type_name refl

safe_fields : (i : Level) → avoids ENDS (fields i) ≡ true
unfolding fields
safe_fields Bottom = refl
safe_fields (Under l e u s) = rw (safe_pair l) refl

safe_dtype : (i : Level) → avoids ENDS (dtype i) ≡ true
unfolding dtype
safe_dtype i = rw (safe_fields i, safe_type_name) refl

safe_typing : (key : ℕ) (i : Level) → apart ENDS key ≡ true → avoids ENDS (typing key i) ≡ true
unfolding typing
safe_typing key i h = rw (h, safe_dtype i) refl

safe_comma_typing : (i : Level) → avoids ENDS (comma_typing i) ≡ true
unfolding comma_typing only_typing
safe_comma_typing i = rw (safe_typing DTYPE i refl) refl

-- ---- functions

safe_arange : (i : Level) → IsSafe i → avoids ENDS (arange i) ≡ true
unfolding arange second third
safe_arange Bottom s = refl
safe_arange (Under l e u s) (below j p q r) = rw (p Anywhere, p Number, safe_typing DTYPE_BOUND l refl, safe_comma_typing l) refl

safe_filled : (i : Level) → IsSafe i → avoids ENDS (filled i) ≡ true
unfolding filled shape
safe_filled Bottom s = refl
safe_filled (Under l e u s) (below j p q r) = rw (safe_tuple l j, safe_no_lengths l, p Length, safe_comma_typing l) refl

safe_full : (i : Level) → IsSafe i → avoids ENDS (full i) ≡ true
unfolding full shape
safe_full Bottom s = refl
safe_full (Under l e u s) (below j p q r) = rw (safe_tuple l j, safe_no_lengths l, p Length, p Anywhere, safe_comma_typing l) refl

safe_new_array : (i : Level) → IsSafe i → avoids ENDS (new_array i) ≡ true
unfolding new_array
safe_new_array Bottom s = refl
safe_new_array (Under l e u s) (below j p q r) = rw (r, p Anywhere, safe_comma_typing l) refl

safe_broadcast_to : (i : Level) → IsSafe i → avoids ENDS (broadcast_to i) ≡ true
unfolding broadcast_to shape
safe_broadcast_to Bottom s = refl
safe_broadcast_to (Under l e u s) (below j p q r) = rw (p Anywhere, safe_tuple l j, safe_no_lengths l, p Length) refl

safe_two : (i : Level) → IsSafe i → avoids ENDS (two i) ≡ true
unfolding two
safe_two Bottom s = refl
safe_two (Under l e u s) (below j p q r) = rw (p Anywhere) refl

safe_fold : (i : Level) → IsSafe i → avoids ENDS (fold i) ≡ true
unfolding fold reduce accumulate comma_options options numbered_axis named_axis comma_keepdims only_keepdims named_keepdims
safe_fold Bottom s = refl
safe_fold (Under l e u s) (below j p q r) = rw (p Anywhere) refl

safe_call : (i : Level) → IsSafe i → avoids ENDS (call i) ≡ true
unfolding call
safe_call i k =
    rw (safe_arange i k, safe_filled i k, safe_full i k, safe_new_array i k, safe_broadcast_to i k, safe_grouped i OPEN k refl, safe_two i k, safe_fold i k, safe_quoted i)
    refl

-- ---- methods

safe_empty : (i : Level) → avoids ENDS (empty i) ≡ true
unfolding empty
safe_empty Bottom = refl
safe_empty (Under l e u s) = refl

safe_type_argument : (i : Level) → avoids ENDS (type_argument i) ≡ true
unfolding type_argument
safe_type_argument Bottom = refl
safe_type_argument (Under l e u s) = rw (safe_dtype l) refl

safe_axes : (i : Level) → IsSafe i → avoids ENDS (axes i) ≡ true
unfolding axes exprs
safe_axes Bottom s = refl
safe_axes (Under l e u s) (below j p q r) = rw (p Anywhere) refl

safe_lengths : (i : Level) → IsSafe i → avoids ENDS (lengths i) ≡ true
unfolding lengths exprs
safe_lengths Bottom s = refl
safe_lengths (Under l e u s) (below j p q r) = rw (safe_tuple l j, safe_no_lengths l, p Length, p Anywhere) refl

safe_reduction : (i : Level) → IsSafe i → avoids ENDS (reduction i) ≡ true
unfolding reduction reduction_options first_axis named_axis comma_keepdims only_keepdims named_keepdims
safe_reduction Bottom s = refl
safe_reduction (Under l e u s) (below j p q r) = rw (p Anywhere, p AxisNumber) refl

safe_accumulation : (i : Level) → IsSafe i → avoids ENDS (accumulation i) ≡ true
unfolding accumulation numbered_axis
safe_accumulation Bottom s = refl
safe_accumulation (Under l e u s) (below j p q r) = rw (p Anywhere) refl

safe_method : (i : Level) → IsSafe i → avoids ENDS (method i) ≡ true
unfolding method attribute
safe_method i k = rw (safe_axes i k, safe_lengths i k, safe_empty i, safe_type_argument i, safe_reduction i k, safe_accumulation i k) refl

-- ---- expressions

safe_operand : (s : Spot) (i : Level) → IsSafe i → avoids ENDS (operand s i) ≡ true
unfolding operand function
safe_operand FirstItem i k = rw (safe_call i k, safe_grouped i OPEN k refl, safe_grouped i OPEN_SOME k refl, safe_quoted i) refl
safe_operand Length i k = rw (safe_call i k, safe_grouped i OPEN k refl, safe_grouped i OPEN_ONE k refl, safe_quoted i) refl
safe_operand s i k = rw (safe_call i k, safe_grouped i OPEN k refl, safe_quoted i) refl

safe_unary : (s : Spot) (i : Level) → IsSafe i → avoids ENDS (unary s i) ≡ true
unfolding unary signed power exponent postfix suffix
safe_unary s Bottom k = rw (safe_index Bottom k, safe_method Bottom k, safe_operand s Bottom k) refl
safe_unary s (Under l e u r) (below j p q o) =
    rw (safe_index (Under l e u r) (below j p q o), safe_method (Under l e u r) (below j p q o), safe_operand s (Under l e u r) (below j p q o), q) refl

safe_expr : (s : Spot) (i : Level) → IsSafe i → avoids ENDS (expr s i) ≡ true
unfolding expr comparison bor bxor band shift sum term
safe_expr s i k = rw (safe_unary s i k, safe_unary Anywhere i k) refl

safe : (n : ℕ) → IsSafe (under n)
unfolding under
safe zero = bottom
safe (suc n) = below (safe n) (λ s. safe_expr s (under n) (safe n)) (safe_unary Anywhere (under n) (safe n)) (safe_list (under n) (safe n))

-- ---- statements

safe_print : (i : Level) → IsSafe i → avoids ENDS (print i) ≡ true
unfolding print printed exprs
safe_print Bottom s = refl
safe_print (Under l e u s) (below j p q r) = rw (p Anywhere) refl

safe_save : (i : Level) → IsSafe i → avoids ENDS (save i) ≡ true
unfolding save saved
safe_save Bottom s = refl
safe_save (Under l e u s) (below j p q r) = rw (p Anywhere) refl

safe_assign : (i : Level) → IsSafe i → avoids ENDS (assign i) ≡ true
unfolding assign target place groups group value
safe_assign i k = rw (safe_operand cells.Target i k, safe_method i k, safe_index i k, safe_expr Anywhere i k) refl

safe_stmt : (i : Level) → IsSafe i → avoids ENDS (stmt i) ≡ true
unfolding stmt imports module_name delete name bind value
safe_stmt i k = rw (safe_print i k, safe_save i k, safe_expr Anywhere i k, safe_assign i k) refl

not_end_word : (w : Word) (rest : List Token) → has ENDS (kind_of_word w rest) ≡ false → is_end w ≡ false
unfolding has
not_end_word End rest h = absurd cc
not_end_word _ rest h = refl

not_end : (t : Token) (rest : List Token) → has ENDS (kind (t ∷ rest)) ≡ false → is_end t.word ≡ false
unfolding has
not_end t rest h = by_place (λ k. has ENDS k ≡ false → is_end t.word ≡ false) t rest (λ h. absurd cc) (not_end_word t.word rest) h

an_end_word : (w : Word) (rest : List Token) → has END (kind_of_word w rest) ≡ true → is_end w ≡ true
unfolding has name_kinds keyword_kinds
an_end_word (Name n) rest h = absurd (let k = no_name END n rest refl in cc)
an_end_word (Keyword k) rest h = absurd (let k = no_keyword END k refl in cc)
an_end_word w rest h = is_end_of w (eqb-true _ _ (so _ _ (by_both (λ k m. implied (has END m) (k == 25)) w rest refl) h))
  where
    is_end_of : (w : Word) → kind_of_symbol w ≡ 25 → is_end w ≡ true
    is_end_of End e = refl
    is_end_of _ e = absurd (omega arith)

an_end : (t : Token) (rest : List Token) → has END (kind (t ∷ rest)) ≡ true → is_end t.word ≡ true
unfolding has
an_end t rest h = by_place (λ k. has END k ≡ true → is_end t.word ≡ true) t rest (λ h. absurd cc) (an_end_word t.word rest) h

-- ---- whole statements

-- within a statement there is a token more
unended : (front : List Token) (ts : List Token) → Repeats (Other kind ENDS) ts [] front → AreStatements false ts → ⊥
unended [] ts h a = let b = subst (λ l. AreStatements false l) (sym h) a in cc
unended (t ∷ front) ts h a =
    let b : AreStatements false (t ∷ h.0) = subst (λ l. AreStatements false l) h.1.0 a in
    unended front h.0 h.2 (subst (λ e. AreStatements e h.0) (not_end t h.0 h.1.1) b.1)

nothing_left : (ts : List Token) → IsFree kind ENDS ts [] → AreStatements true ts → [] ≡ ts
nothing_left ts f a = go f.0 f.1
  where
    go : (front : List Token) → Repeats (Other kind ENDS) ts [] front → [] ≡ ts
    go [] h = h
    go (t ∷ front) h =
        let b : AreStatements true (t ∷ h.0) = subst (λ l. AreStatements true l) h.1.0 a in
        absurd (unended front h.0 h.2 (subst (λ e. AreStatements e h.0) (not_end t h.0 h.1.1) b.1))

-- what comes behind some tokens
behind : (front : List Token) (b : Bool) (ts rest : List Token) → Repeats (Other kind ENDS) ts rest front → AreStatements b ts → (c : Bool) × AreStatements c rest
behind [] b ts rest h a = (b, subst (λ l. AreStatements b l) (sym h) a)
behind (t ∷ front) b ts rest h a =
    let d : AreStatements b (t ∷ h.0) = subst (λ l. AreStatements b l) h.1.0 a in
    behind front (is_end t.word) h.0 rest h.2 d.1

-- ---- lines

no_lines : (s : Gram Token Stmt) (n : ℕ) (ts : List Token) → [] ≡ ts → Spans kind (lines s n) ts [] []
unfolding lines
no_lines s zero ts e = inr (e, refl)
no_lines s (suc n) ts e = inr (e, refl)

-- behind a line a statement begins
after_line : (s : Gram Token Stmt) (ts mid : List Token) (l : Line) → avoids ENDS s ≡ true → AreStatements true ts → Spans kind (line s) ts mid l → AreStatements true mid
unfolding line
after_line s ts mid l free a h =
    let body = h.4 in
    let last = body.4 in
    let begin : AreStatements true h.0 = subst (λ x. AreStatements true x) (sym h.3.0) a in
    let f = text_free kind ENDS s h.0 body.0 body.1 free body.3 in
    let b = behind f.0 true h.0 body.0 f.1 begin in
    let d : AreStatements b.0 (last.0 ∷ mid) = subst (λ x. AreStatements b.0 x) last.1 b.1 in
    subst (λ e. AreStatements e mid) (an_end last.0 mid last.2) d.1

-- the front of a line that ends with the tokens is nothing or the line
last_line : (s : Gram Token Stmt) (ts : List Token) → avoids ENDS s ≡ true → AreStatements true ts → Reaches kind (line s) ts [] → ([] ≡ ts) ⊎ ((l : Line) × Spans kind (line s) ts [] l)
unfolding line
last_line s ts free a (inl e) = inl e
last_line s ts free a (inr h) = (let begin : AreStatements true h.0 = subst (λ x. AreStatements true x) (sym h.2.0) a in
    elim h.3 [
      | inl r ↦ inl (nothing_left h.0 (front_free kind ENDS s h.0 [] free r) begin ∙ h.2.0)
      | inr r ↦ elim r.3 [
        | inl e ↦ inl (nothing_left h.0 (text_free kind ENDS s h.0 [] r.1 free (subst (λ m. Spans kind s h.0 m r.1) (sym e) r.2)) begin ∙ h.2.0)
        | inr t ↦ inr (record { line = h.1; stmt = r.1 }, (h.0, h.1, r.1, h.2, (r.0, r.1, t.0, r.2, (t.0, t.1, t.2, refl), refl), refl))
      ]
    ])

whole_front : (s : Gram Token Stmt) → avoids ENDS s ≡ true → (n : ℕ) (ts : List Token) → AreStatements true ts → Reaches kind (lines s n) ts [] → (ls : List Line) × Spans kind (lines s n) ts [] ls
unfolding lines
whole_front s free zero ts a (inl e) = ([], inr (e, refl))
whole_front s free zero ts a (inr e) = ([], inr (e, refl))
whole_front s free (suc n) ts a (inl (inl h)) =
    elim (last_line s ts free a h) [
      | inl e ↦ ([], inr (e, refl))
      | inr l ↦ (l.0 ∷ [], inl ([], l.0, [], l.1, no_lines s n [] refl, refl))
    ]
whole_front s free (suc n) ts a (inl (inr h)) =
    let ls = whole_front s free n h.0 (after_line s ts h.0 h.1 free a h.2) h.3 in
    (h.1 ∷ ls.0, inl (h.0, h.1, ls.0, h.2, ls.1, refl))
whole_front s free (suc n) ts a (inr e) = ([], inr (e, refl))

pub fault_is_at_token : (ts : List Token) (s : Stop) → AreStatements true ts → HasFault kind cells.cell ts s → IsSome (slice_get ts (length ts - s.left))
unfolding cell
fault_is_at_token ts s a h = go f.rest f.at.front f.left
  where
    f : HasFault kind cell ts s
    f = same_fault kind cells.cell cell cell_up cell_down ts s h

    go : (rest : List Token) → Reaches kind cell ts rest → length rest ≡ s.left → IsSome (slice_get ts (length ts - s.left))
    go [] r e = (let w = whole_front (stmt (under 64)) (safe_stmt (under 64) (safe 64)) 1000 ts a r in absurd (f.none w.0 w.1))
    go (t ∷ more) r e =
        let p = front_end kind cell ts (t ∷ more) r in
        let long : length ts ≡ length p.0 + length (t ∷ more) = ap length p.1 ∙ length-append p.0 (t ∷ more) in
        let lt : length ts - s.left < length ts = omega arith in
        rw (slice_get-get_or ts (length ts - s.left) t lt) refl
