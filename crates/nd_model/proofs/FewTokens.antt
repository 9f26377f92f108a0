-- The statements of a text have together at most as many tokens as the text has bytes.
use Rattle.std.proofs.Common.{ℕ, zero, suc, ◌+◌, ◌-◌, ◌≤◌, List, [], ◌∷◌, length, Option, None, Some, IfOk, refl, subst, arith}
use Rattle.nd_model.specs.Grammar.Grammar.{Gram, Then, Many, has}
use Rattle.nd_model.specs.Grammar.Token as words
use Rattle.nd_model.specs.Grammar.Token.{Word, Token}
use Rattle.nd_model.specs.Grammar.Lexing.{words_in}
use Rattle.nd_model.specs.Grammar.Syntax.{BinaryOp, Expr, Binary, Index, Stmt}
use Rattle.nd_model.specs.Grammar.Tokens.{tokens_of, tokens_of_method, tokens_of_index, tokens_of_all, tokens_of_stmt, tokens_of_lines}
use Rattle.nd_model.specs.Grammar.Kinds.{NUMPY, SAVE, SIGN, POWER, PRODUCT, SUM, SHIFT, AMPERSAND, CARET, BAR, COMPARISON, OPEN, QUOTED, ASSIGNMENT, DOT, NP, NP_SAVE, ABS, BUFFER, PRINT, IMPORT, AS, DEL}
use Rattle.nd_model.specs.Grammar.Cells.{leaf_of, chained, chained_once, bound, written, Suffix, AtIndex, OfMethod, with_suffix, suffixed, operation, Spot, Anywhere, Statement, Target, FirstItem, LaterItem, Length, Number, AxisNumber, leaves, modules, openings, Level, operand, suffix, postfix, exponent, power, signed, unary, term, sum, shift, band, bxor, bor, comparison, expr, under, module_name, imports, delete, printed, print, saved, save, value, bind, target, assign, stmt, line, lines, cell}
use Rattle.nd_model.specs.Grammar.Few.{FewTokens}
use Rattle.nd_model.proofs.Parsing.Texts.{read_is_cell}
use Rattle.nd_model.proofs.TokenLaws.{few_words}
use Rattle.nd_model.proofs.Weights.{HasNoEnd, Weighs, done, here, one, token_weighs, skip, both, either, shut, total, many, lighter, in_parentheses, LevelWeighs, entered, maybe, optional, name_weighs, grouped_weighs, mapped_weighs, list_weighs, index_weighs}
use Rattle.nd_model.proofs.CallWeights.{comma_weighs, exprs_weigh, quoted_weighs, function_weighs, method_weighs}

-- ---- operands and operators

abbrev suffix_tokens : Suffix → ℕ
suffix_tokens (AtIndex i) = 2 + tokens_of_index i
suffix_tokens (OfMethod m) = 2 + tokens_of_method m

leaf_weighs : (w : Word) → tokens_of (leaf_of w) ≤ 1
leaf_weighs (words.Integer n) = omega arith
leaf_weighs _ = omega arith

no_end_at : (s : Spot) → HasNoEnd (leaves s) × HasNoEnd (modules s) × HasNoEnd (openings s)
unfolding has
no_end_at Anywhere = ((refl, refl), (refl, refl), (refl, refl))
no_end_at Statement = ((refl, refl), (refl, refl), (refl, refl))
no_end_at Target = ((refl, refl), (refl, refl), (refl, refl))
no_end_at FirstItem = ((refl, refl), (refl, refl), (refl, refl))
no_end_at LaterItem = ((refl, refl), (refl, refl), (refl, refl))
no_end_at Length = ((refl, refl), (refl, refl), (refl, refl))
no_end_at Number = ((refl, refl), (refl, refl), (refl, refl))
no_end_at AxisNumber = ((refl, refl), (refl, refl), (refl, refl))

operand_weighs : (s : Spot) (i : Level) → LevelWeighs i → Weighs (operand s i) tokens_of
unfolding operand has
operand_weighs s i p =
    let o = no_end_at s in
    either (one (leaves s) _ tokens_of o.0 (λ t. leaf_weighs t.word))
    (either shut
    (either shut
    (either (function_weighs (modules s) i o.1 p)
    (either (both tokens_of (token_weighs ABS (refl, refl)) (grouped_weighs OPEN i (refl, refl) p) (λ _ e. omega arith))
    (either (both tokens_of (token_weighs BUFFER (refl, refl)) (quoted_weighs i p) (λ _ n. omega arith))
    (lighter tokens_of (grouped_weighs (openings s) i o.2 p) (λ e. omega arith)))))))

suffix_weighs : (i : Level) → LevelWeighs i → Weighs (suffix i) suffix_tokens
unfolding suffix
suffix_weighs i p = either (mapped_weighs AtIndex suffix_tokens (index_weighs i p) (λ x. omega arith)) (mapped_weighs OfMethod suffix_tokens (method_weighs i p) (λ m. omega arith))

with_suffix_weighs : (e : Expr) (x : Suffix) → tokens_of (with_suffix e x) ≤ tokens_of e + suffix_tokens x
with_suffix_weighs e (AtIndex i) = omega arith
with_suffix_weighs e (OfMethod m) = omega arith

suffixed_weigh : (xs : List Suffix) (e : Expr) → tokens_of (suffixed e xs) ≤ tokens_of e + total suffix_tokens xs
suffixed_weigh [] e = omega arith
suffixed_weigh (x ∷ xs) e = let h = suffixed_weigh xs (with_suffix e x) in let l = with_suffix_weighs e x in omega arith

postfix_weighs : (s : Spot) (i : Level) → LevelWeighs i → Weighs (postfix s i) tokens_of
unfolding postfix
postfix_weighs s i p = both tokens_of (operand_weighs s i p) (many (suffix_weighs i p)) (λ e xs. suffixed_weigh xs e)

-- an operator with its right operand
abbrev operated : BinaryOp × Expr → ℕ
operated x = 1 + tokens_of x.1

operation_weighs : (set : ℕ) (g : Gram Token Expr) → HasNoEnd set → Weighs g tokens_of → Weighs (operation set g) operated
operation_weighs set g outside p = both operated (token_weighs set outside) p (λ t x. omega arith)

once_weighs : (e : Expr) (x : Option (BinaryOp × Expr)) → tokens_of (chained_once e x) ≤ tokens_of e + maybe operated x
once_weighs e None = omega arith
once_weighs e (Some x) = omega arith

chained_weigh : (xs : List (BinaryOp × Expr)) (e : Expr) → tokens_of (chained e xs) ≤ tokens_of e + total operated xs
chained_weigh [] e = omega arith
chained_weigh (x ∷ xs) e = let h = chained_weigh xs (Binary x.0 e x.1) in omega arith

exponent_weighs : (i : Level) → LevelWeighs i → Weighs (exponent i) operated
unfolding exponent has
exponent_weighs i p = entered i POWER _ operated p (λ inside q. operation_weighs POWER inside.unary (refl, refl) q.unary)

power_weighs : (s : Spot) (i : Level) → LevelWeighs i → Weighs (power s i) tokens_of
unfolding power
power_weighs s i p = both tokens_of (postfix_weighs s i p) (optional (exponent_weighs i p)) (λ e x. once_weighs e x)

signed_weighs : (i : Level) → LevelWeighs i → Weighs (signed i) tokens_of
unfolding signed has
signed_weighs i p = entered i SIGN _ tokens_of p (λ inside q. both tokens_of (token_weighs SIGN (refl, refl)) q.unary (λ _ x. omega arith))

unary_weighs : (s : Spot) (i : Level) → LevelWeighs i → Weighs (unary s i) tokens_of
unfolding unary
unary_weighs s i p = either (signed_weighs i p) (power_weighs s i p)

chain_weighs : (set : ℕ) (f g : Gram Token Expr) → HasNoEnd set → Weighs f tokens_of → Weighs g tokens_of → Weighs (Then chained f (Many set (λ (xs : List (BinaryOp × Expr)). xs) (operation set g))) tokens_of
chain_weighs set f g outside p q = both tokens_of p (many (operation_weighs set g outside q)) (λ e xs. chained_weigh xs e)

term_weighs : (s : Spot) (i : Level) → LevelWeighs i → Weighs (term s i) tokens_of
unfolding term has
term_weighs s i p = chain_weighs PRODUCT _ _ (refl, refl) (unary_weighs s i p) (unary_weighs Anywhere i p)

sum_weighs : (s : Spot) (i : Level) → LevelWeighs i → Weighs (sum s i) tokens_of
unfolding sum has
sum_weighs s i p = chain_weighs SUM _ _ (refl, refl) (term_weighs s i p) (term_weighs Anywhere i p)

shift_weighs : (s : Spot) (i : Level) → LevelWeighs i → Weighs (shift s i) tokens_of
unfolding shift has
shift_weighs s i p = chain_weighs SHIFT _ _ (refl, refl) (sum_weighs s i p) (sum_weighs Anywhere i p)

band_weighs : (s : Spot) (i : Level) → LevelWeighs i → Weighs (band s i) tokens_of
unfolding band has
band_weighs s i p = chain_weighs AMPERSAND _ _ (refl, refl) (shift_weighs s i p) (shift_weighs Anywhere i p)

bxor_weighs : (s : Spot) (i : Level) → LevelWeighs i → Weighs (bxor s i) tokens_of
unfolding bxor has
bxor_weighs s i p = chain_weighs CARET _ _ (refl, refl) (band_weighs s i p) (band_weighs Anywhere i p)

bor_weighs : (s : Spot) (i : Level) → LevelWeighs i → Weighs (bor s i) tokens_of
unfolding bor has
bor_weighs s i p = chain_weighs BAR _ _ (refl, refl) (bxor_weighs s i p) (bxor_weighs Anywhere i p)

comparison_weighs : (i : Level) → LevelWeighs i → Weighs (comparison i) operated
unfolding comparison has
comparison_weighs i p =
    both operated (operation_weighs COMPARISON (bor Anywhere i) (refl, refl) (bor_weighs Anywhere i p)) (either shut (done (λ _. 0) tt (omega arith))) (λ x _. omega arith)

expr_weighs : (s : Spot) (i : Level) → LevelWeighs i → Weighs (expr s i) tokens_of
unfolding expr
expr_weighs s i p = both tokens_of (bor_weighs s i p) (optional (comparison_weighs i p)) (λ e x. once_weighs e x)

under_weighs : (n : ℕ) → LevelWeighs (under n)
unfolding under
under_weighs zero = tt
under_weighs (suc n) =
    (under_weighs n, λ s. expr_weighs s (under n) (under_weighs n), unary_weighs Anywhere (under n) (under_weighs n), list_weighs (under n) (under_weighs n))

-- ---- statements

module_name_weighs : Weighs module_name (λ _. 1)
unfolding module_name has
module_name_weighs = either (token_weighs NUMPY (refl, refl)) shut

imports_weighs : Weighs imports tokens_of_stmt
unfolding imports has
imports_weighs =
    both tokens_of_stmt (token_weighs IMPORT (refl, refl))
    (both (λ s. tokens_of_stmt s - 1) module_name_weighs
    (both (λ s. tokens_of_stmt s - 2) (token_weighs AS (refl, refl)) (token_weighs NP (refl, refl)) (λ _ _. omega arith)) (λ _ s. omega arith))
    (λ _ s. omega arith)

delete_weighs : Weighs delete tokens_of_stmt
unfolding delete has
delete_weighs = both tokens_of_stmt (token_weighs DEL (refl, refl)) name_weighs (λ _ n. omega arith)

all_weigh : (es : List Expr) → tokens_of_all es ≤ total (λ e. 1 + tokens_of e) es
all_weigh [] = omega arith
all_weigh (e ∷ es) = let h = all_weigh es in omega arith

printed_weighs : (i : Level) → LevelWeighs i → Weighs (printed i) (λ es. 2 + (tokens_of_all es - 1))
unfolding printed
printed_weighs i p =
    entered i OPEN _ _ p (λ inside q. in_parentheses
    (exprs_weigh (λ es. tokens_of_all es - 1) (q.expr Anywhere) (q.expr Anywhere) (λ e es. let h = all_weigh es in omega arith)))

print_weighs : (i : Level) → LevelWeighs i → Weighs (print i) tokens_of_stmt
unfolding print has
print_weighs i p = both tokens_of_stmt (token_weighs PRINT (refl, refl)) (printed_weighs i p) (λ _ es. omega arith)

saved_weighs : (i : Level) → LevelWeighs i → Weighs (saved i) (λ s. 2 + (tokens_of_stmt s - 5))
unfolding saved has
saved_weighs i p =
    entered i OPEN _ _ p (λ inside q. in_parentheses
    (both (λ s. tokens_of_stmt s - 5) (one QUOTED _ (λ _. 1) (refl, refl) (λ t. omega arith)) (comma_weighs (q.expr Anywhere)) (λ n e. omega arith)))

save_weighs : (i : Level) → LevelWeighs i → Weighs (save i) tokens_of_stmt
unfolding save has
save_weighs i p =
    both tokens_of_stmt (token_weighs NP_SAVE (refl, refl))
    (both (λ s. tokens_of_stmt s - 1) (token_weighs DOT (refl, refl))
    (both (λ s. tokens_of_stmt s - 2) (token_weighs SAVE (refl, refl)) (saved_weighs i p) (λ _ s. omega arith)) (λ _ s. omega arith))
    (λ _ s. omega arith)

value_weighs : (i : Level) → LevelWeighs i → Weighs (value i) (λ v. 1 + tokens_of v.1)
unfolding value has
value_weighs i p = both (λ v. 1 + tokens_of v.1) (one ASSIGNMENT _ (λ _. 1) (refl, refl) (λ t. omega arith)) (expr_weighs Anywhere i p) (λ _ e. omega arith)

bind_of_weighs : (n : List ℕ) (op : Option BinaryOp) (e : Expr) → tokens_of_stmt (bound n op e) ≤ 2 + tokens_of e
bind_of_weighs n None e = omega arith
bind_of_weighs n (Some op) e = omega arith

bind_weighs : (i : Level) → LevelWeighs i → Weighs (bind i) tokens_of_stmt
unfolding bind
bind_weighs i p = both tokens_of_stmt name_weighs (value_weighs i p) (λ n v. let h = bind_of_weighs n v.0 v.1 in omega arith)

target_weighs : (i : Level) → LevelWeighs i → Weighs (target i) (λ t. tokens_of t.0 + (2 + tokens_of_index t.1))
unfolding target
target_weighs i p = both (λ t. tokens_of t.0 + (2 + tokens_of_index t.1)) (postfix_weighs Statement i p) (index_weighs i p) (λ t x. omega arith)

written_weighs : (t : Expr) (x : Index) (op : Option BinaryOp) (e : Expr) → tokens_of_stmt (written t x op e) ≤ 3 + tokens_of t + tokens_of_index x + tokens_of e
written_weighs t x None e = omega arith
written_weighs t x (Some op) e = omega arith

assign_weighs : (i : Level) → LevelWeighs i → Weighs (assign i) tokens_of_stmt
unfolding assign
assign_weighs i p = both tokens_of_stmt (target_weighs i p) (value_weighs i p) (λ t v. let h = written_weighs t.0 t.1 v.0 v.1 in omega arith)

stmt_weighs : (i : Level) → LevelWeighs i → Weighs (stmt i) tokens_of_stmt
unfolding stmt
stmt_weighs i p =
    either imports_weighs (either delete_weighs (either (print_weighs i p) (either (save_weighs i p) (either (bind_weighs i p) (assign_weighs i p)))))

-- ---- cells

line_weighs : (s : Gram Token Stmt) → Weighs s tokens_of_stmt → Weighs (line s) (λ l. tokens_of_stmt l.stmt)
unfolding line
line_weighs s p = both (λ l. tokens_of_stmt l.stmt) (here _) (both tokens_of_stmt p (skip _ _) (λ s _. omega arith)) (λ l s. omega arith)

lines_weigh : (s : Gram Token Stmt) → Weighs s tokens_of_stmt → (n : ℕ) → Weighs (lines s n) tokens_of_lines
unfolding lines
lines_weigh s p zero = either shut (done tokens_of_lines [] (omega arith))
lines_weigh s p (suc n) = either (both tokens_of_lines (line_weighs s p) (lines_weigh s p n) (λ l ls. omega arith)) (done tokens_of_lines [] (omega arith))

pub cell_weighs : Weighs cell tokens_of_lines
unfolding cell
cell_weighs = lines_weigh (stmt (under 64)) (stmt_weighs (under 64) (under_weighs 64)) 1000

-- ---- texts

pub few_tokens : FewTokens
few_tokens text ls e =
    let c = read_is_cell text ls e in
    let few : words_in c.0 ≤ length text = subst (λ r. IfOk r (λ ts. words_in ts ≤ length text)) c.1 (few_words text) in
    let more : tokens_of_lines ls + 0 ≤ words_in c.0 = cell_weighs.words c.0 [] ls c.2 in
    omega arith
