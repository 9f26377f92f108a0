-- The grammar of cells, and the one that is read, are below one another.
use Rattle.std.proofs.Common.{◌≡◌, ◌+◌, ◌==◌, max, ℕ, zero, suc, true, false, List, ◌∷◌, inl, inr, ◌⊎◌, sym, ap, subst, ◌∙◌, arith}
use Rattle.std.specs.Prelude.{bit_or}
use Rattle.std.specs.Int.{bit_at}
use Rattle.std.proofs.lemmas.Bool.{eqb-true}
use Rattle.std.proofs.lemmas.Nat.Bits.{bit_at_or}
use Rattle.nd_model.specs.Grammar.Grammar.{Gram, One, Then, Or, Shut, Spans, Reaches, Opens, has}
use Rattle.nd_model.specs.Grammar.Predict.{Look, look, next_in}
use Rattle.nd_model.specs.Grammar.Faults.{IsBelow}
use Rattle.nd_model.specs.Grammar.Token.{Token}
use Rattle.nd_model.specs.Grammar.Syntax.{Expr, Called, PythonAbs, Buffer, Index, Stmt}
use Rattle.nd_model.specs.Grammar.Kinds.{kind, CALLED, PLUS, OPEN, NP_NO_SAVE, ABS, BUFFER, NAME, BOUND, OPERAND, PLACE, UNBOUND, INTEGER, TRUTH, ASSIGNMENT, SUFFIX, START}
use Rattle.nd_model.specs.Grammar.Cells.{Statement, Target, Level, unknown_call, left_out, token, function, quoted, grouped, name_of, written, name, operand, index, method, suffix, postfix, value, line, lines, under}
use Rattle.nd_model.specs.Grammar.Cells as cells
use Rattle.nd_model.specs.Grammar.Factored.{place, group, groups}
use Rattle.nd_model.specs.Grammar.Factored as factored
use Rattle.nd_model.proofs.Parsing.Sets.{which, true_false, eq-true, has_left}
use Rattle.nd_model.proofs.Parsing.Laws.{none, whole, front, starts, opens_first}
use Rattle.nd_model.proofs.Parsing.Below.{below_refl, below_trans, below_then, below_or}
use Rattle.nd_model.proofs.Parsing.Looks.{seen, MORE, known, look_value, look_groups}
use Rattle.nd_model.proofs.Parsing.Words.{bound_name, place_operand}
use Rattle.nd_model.proofs.Parsing.Targets.{some_groups, grouped_index, target_up, target_down}

-- ---- sets

in_either : (a b k : ℕ) → has (bit_or a b) k ≡ true → (has a k ≡ true) ⊎ (has b k ≡ true)
unfolding has
in_either a b k h =
    let one : bit_at (bit_or a b) k ≡ 1 = eqb-true _ _ h in
    let p = bit_at_or a b k in
    elim (which (bit_at a k == 1)) [
      | inl e ↦ inl e
      | inr e ↦ inr (eq-true _ _ (other (bit_at a k) (bit_at b k) (sym p ∙ one) e))
    ]
  where
    other : (m n : ℕ) → max m n ≡ 1 → (m == 1) ≡ false → n ≡ 1
    other zero n e f = omega arith
    other (suc zero) n e f = absurd cc
    other (suc (suc m)) n e f = absurd (omega arith)

one_below : {C : Type 0} (s s' : ℕ) (f : Token → C) → ((k : ℕ) → has s k ≡ true → has s' k ≡ true) → IsBelow kind (One s f) (One s' f)
one_below s s' f w = record {
  spans = λ ts rest c h. (h.0, h.1, w _ h.2, h.3);
  reaches = λ ts rest h. elim h [ inl x ↦ inl x | inr x ↦ inr (x.0, x.1, w _ x.2) ];
  opens = λ ts rest w h. h;
}

below_left : {C : Type 0} (s : ℕ) (g h : Gram Token C) → IsBelow kind g (Or s g h)
below_left s g h = record { spans = λ ts rest c x. inl x; reaches = λ ts rest x. inl x; opens = λ ts rest w x. inl x }

-- an operand of several tokens
abbrev others : Level → Gram Token Expr
others i =
    Or CALLED (Shut CALLED unknown_call)
    (Or PLUS (Shut PLUS left_out)
    (Or NP_NO_SAVE (function NP_NO_SAVE i)
    (Or ABS (Then (λ _ e. Called (PythonAbs e)) (token ABS) (grouped OPEN i))
    (Or BUFFER (Then (λ _ n. Called (Buffer n)) (token BUFFER) (quoted i))
    (grouped OPEN i)))))

-- ---- a statement that begins with a name or a target

-- a target that is read so
abbrev targeted : (Gram Token Expr) → Level → Gram Token Stmt
targeted a i = Then (λ t v. written t.0 t.1 v.0 v.1) (grouped_index (method i) (index i) a) (value i)

module _ (i : Level) (look_v : look (value i) ≡ seen ASSIGNMENT MORE) (look_x : look (some_groups (method i) (index i)) ≡ seen SUFFIX SUFFIX) where
  abbrev published : Gram Token Stmt
  published = Or 0 (cells.bind i) (targeted (operand Statement i) i)

  abbrev read_so : Gram Token Stmt
  read_so = Or BOUND (factored.bind i) (targeted (operand Target i) i)

  fits_of : {C : Type 0} (g : Gram Token C) (a b : ℕ) → look g ≡ seen a b → (look g).fits ≡ true
  fits_of g a b e = ap (λ (l : Look). l.fits) e

  -- how what follows begins
  text_begins : {C : Type 0} (g : Gram Token C) (a b : ℕ) → look g ≡ seen a b → (ts rest : List Token) (c : C) → Spans kind g ts rest c → next_in kind a ts ≡ true
  text_begins g a b e ts rest c h =
      elim (front kind g ts rest c (fits_of g a b e) h) [
        | inl p ↦ true_false _ p.1 (ap (λ (l : Look). l.empty) e)
        | inr p ↦ subst (λ k. next_in kind k ts ≡ true) (ap (λ (l : Look). l.first) e) p.0
      ]

  front_begins : {C : Type 0} (g : Gram Token C) (a b : ℕ) → look g ≡ seen a b → (ts rest : List Token) → Reaches kind g ts rest → (rest ≡ ts) ⊎ (next_in kind a ts ≡ true)
  front_begins g a b e ts rest h =
      elim (starts kind g ts rest (fits_of g a b e) h) [ inl p ↦ inl p | inr p ↦ inr (subst (λ k. next_in kind k ts ≡ true) (ap (λ (l : Look). l.first) e) p) ]

  open_begins : {C : Type 0} (g : Gram Token C) (a b : ℕ) → look g ≡ seen a b → (ts rest : List Token) (w : ℕ) → Opens kind g ts rest w → next_in kind a ts ≡ true
  open_begins g a b e ts rest w h = subst (λ k. next_in kind k ts ≡ true) (ap (λ (l : Look). l.first) e) (opens_first kind g ts rest w (fits_of g a b e) h)

  -- a name before `=`
  bound : (ts mid : List Token) (n : List ℕ) → Spans kind name ts mid n → next_in kind ASSIGNMENT mid ≡ true → Spans kind (One BOUND name_of) ts mid n
  unfolding name
  bound ts mid n (inl h) e = (h.0, h.1, bound_name h.0 mid e h.2, h.3)
  bound ts mid n (inr h) e = absurd h

  -- an operand before an index or a method
  placed : (ts mid : List Token) (a : Expr) → Spans kind (operand Statement i) ts mid a → next_in kind SUFFIX mid ≡ true → Spans kind (operand Target i) ts mid a
  unfolding operand
  placed ts mid a (inl h) e = inl (h.0, h.1, place_operand h.0 mid e h.2, h.3)
  placed ts mid a (inr h) e = inr h

  -- an operand alone
  lone : (ts rest : List Token) (t : Token) → ts ≡ t ∷ rest → has OPERAND (kind (t ∷ rest)) ≡ true → Reaches kind read_so ts rest
  unfolding operand factored.bind
  lone ts rest t is h = elim (in_either PLACE BOUND _ h) [ inl k ↦ inr (inl (inl (inl (inr (t, is, k))))) | inr k ↦ inl (inl (inr (t, is, k))) ]

  nothing : (ts rest : List Token) → rest ≡ ts → Reaches kind read_so ts rest
  nothing ts rest e = subst (λ r. Reaches kind read_so ts r) (sym e) (none kind read_so ts)

  lone_name : (ts rest : List Token) (n : List ℕ) → Spans kind name ts rest n → Reaches kind read_so ts rest
  unfolding name
  lone_name ts rest n (inl h) = lone ts rest h.0 h.1 (has_left NAME (INTEGER + TRUTH) _ h.2)
  lone_name ts rest n (inr h) = absurd h

  lone_operand : (ts rest : List Token) (a : Expr) → Spans kind (operand Statement i) ts rest a → Reaches kind read_so ts rest
  unfolding operand
  lone_operand ts rest a (inl h) = lone ts rest h.0 h.1 h.2
  lone_operand ts rest a (inr h) = inr (inl (inl (inr (whole kind (others i) ts rest a h))))

  -- the front of an operand
  front_operand : (ts rest : List Token) → Reaches kind (operand Statement i) ts rest → Reaches kind read_so ts rest
  unfolding operand
  front_operand ts rest (inl (inl e)) = nothing ts rest e
  front_operand ts rest (inl (inr h)) = lone ts rest h.0 h.1 h.2
  front_operand ts rest (inr h) = inr (inl (inl (inr h)))

  front_name : (ts rest : List Token) → Reaches kind name ts rest → Reaches kind read_so ts rest
  unfolding name
  front_name ts rest (inl (inl e)) = nothing ts rest e
  front_name ts rest (inl (inr h)) = lone ts rest h.0 h.1 (has_left NAME (INTEGER + TRUTH) _ h.2)
  front_name ts rest (inr e) = nothing ts rest e

  open_operand : (ts rest : List Token) (w : ℕ) → Opens kind (operand Statement i) ts rest w → Opens kind read_so ts rest w
  unfolding operand
  open_operand ts rest w (inl h) = absurd h
  open_operand ts rest w (inr h) = inr (inl (inl (inr h)))

  open_name : (ts rest : List Token) (w : ℕ) → Opens kind name ts rest w → Opens kind read_so ts rest w
  unfolding name operand
  open_name ts rest w (inl h) = absurd h
  open_name ts rest w (inr h) = inr (inl (inl (inr (inl h))))

  -- a target
  spans_target : (ts rest : List Token) (t : Expr × Index) → Spans kind (grouped_index (method i) (index i) (operand Statement i)) ts rest t → Spans kind (grouped_index (method i) (index i) (operand Target i)) ts rest t
  spans_target ts rest t h = (h.0, h.1, h.2, placed ts h.0 h.1 h.3 (text_begins (some_groups (method i) (index i)) _ _ look_x h.0 rest h.2 h.4), h.4, h.5)

  front_target : (ts rest : List Token) → Reaches kind (grouped_index (method i) (index i) (operand Statement i)) ts rest → Reaches kind read_so ts rest
  front_target ts rest (inl h) = front_operand ts rest h
  front_target ts rest (inr h) = elim (front_begins (some_groups (method i) (index i)) _ _ look_x h.0 rest h.3) [
    | inl e ↦ lone_operand ts rest h.1 (subst (λ m. Spans kind (operand Statement i) ts m h.1) (sym e) h.2)
    | inr n ↦ inr (inl (inr (h.0, h.1, placed ts h.0 h.1 h.2 n, h.3)))
  ]

  open_target : (ts rest : List Token) (w : ℕ) → Opens kind (grouped_index (method i) (index i) (operand Statement i)) ts rest w → Opens kind read_so ts rest w
  open_target ts rest w (inl h) = open_operand ts rest w h
  open_target ts rest w (inr h) =
      inr (inl (inr (h.0, h.1, placed ts h.0 h.1 h.2 (open_begins (some_groups (method i) (index i)) _ _ look_x h.0 rest w h.3), h.3)))

  starts_up : IsBelow kind published read_so
  unfolding cells.bind factored.bind
  starts_up = record {
    spans = λ ts rest c h. elim h [
      | inl b ↦ inl (b.0, b.1, b.2, bound ts b.0 b.1 b.3 (text_begins (value i) _ _ look_v b.0 rest b.2 b.4), b.4, b.5)
      | inr a ↦ inr (a.0, a.1, a.2, spans_target ts a.0 a.1 a.3, a.4, a.5)
    ];
    reaches = λ ts rest h. elim h [
      | inl (inl b) ↦ front_name ts rest b
      | inl (inr b) ↦ elim (front_begins (value i) _ _ look_v b.0 rest b.3) [
        | inl e ↦ lone_name ts rest b.1 (subst (λ m. Spans kind name ts m b.1) (sym e) b.2)
        | inr n ↦ inl (inr (b.0, b.1, bound ts b.0 b.1 b.2 n, b.3))
      ]
      | inr (inl a) ↦ front_target ts rest a
      | inr (inr a) ↦ inr (inr (a.0, a.1, spans_target ts a.0 a.1 a.2, a.3))
    ];
    opens = λ ts rest w h. elim h [
      | inl (inl b) ↦ open_name ts rest w b
      | inl (inr b) ↦ inl (inr (b.0, b.1, bound ts b.0 b.1 b.2 (open_begins (value i) _ _ look_v b.0 rest w b.3), b.3))
      | inr (inl a) ↦ open_target ts rest w a
      | inr (inr a) ↦ inr (inr (a.0, a.1, spans_target ts a.0 a.1 a.2, a.3))
    ];
  }

starts_down : (i : Level) → IsBelow kind (Or BOUND (factored.bind i) (targeted (operand Target i) i)) (Or 0 (cells.bind i) (targeted (operand Statement i) i))
unfolding cells.bind factored.bind name operand
starts_down i =
    below_or kind BOUND 0 _ _ _ _
    (below_then kind _ _ _ _ _ (below_trans kind _ _ _ (one_below BOUND NAME name_of (λ k h. has_left BOUND UNBOUND k h)) (below_left NAME _ _)) (below_refl kind _))
    (below_then kind _ _ _ _ _ (below_then kind _ _ _ _ _ (below_or kind PLACE OPERAND _ _ _ _ (one_below PLACE OPERAND _ (λ k h. has_left PLACE BOUND k h)) (below_refl kind _)) (below_refl kind _)) (below_refl kind _))

-- ---- statements and cells

stmt_up : (i : Level) → look (value i) ≡ seen ASSIGNMENT MORE → look (groups i) ≡ seen SUFFIX SUFFIX → IsBelow kind (cells.stmt i) (factored.stmt i)
unfolding cells.stmt factored.stmt cells.assign factored.assign cells.target factored.target postfix suffix place group groups
stmt_up i v x =
    below_or kind _ _ _ _ _ _ (below_refl kind _)
    (below_or kind _ _ _ _ _ _ (below_refl kind _)
    (below_or kind _ _ _ _ _ _ (below_refl kind _)
    (below_or kind _ _ _ _ _ _ (below_refl kind _)
    (below_trans kind _ _ _ (below_or kind 0 0 _ _ _ _ (below_refl kind _) (below_then kind _ _ _ _ _ (target_up (method i) (index i) (operand Statement i)) (below_refl kind _)))
    (starts_up i v x)))))

stmt_down : (i : Level) → IsBelow kind (factored.stmt i) (cells.stmt i)
unfolding cells.stmt factored.stmt cells.assign factored.assign cells.target factored.target postfix suffix place group groups
stmt_down i =
    below_or kind _ _ _ _ _ _ (below_refl kind _)
    (below_or kind _ _ _ _ _ _ (below_refl kind _)
    (below_or kind _ _ _ _ _ _ (below_refl kind _)
    (below_or kind _ _ _ _ _ _ (below_refl kind _)
    (below_trans kind _ _ _ (starts_down i)
    (below_or kind 0 0 _ _ _ _ (below_refl kind _) (below_then kind _ _ _ _ _ (target_down (method i) (index i) (operand Statement i)) (below_refl kind _)))))))

lines_below : (r s : Gram Token Stmt) → IsBelow kind r s → (n : ℕ) → IsBelow kind (lines r n) (lines s n)
unfolding lines line
lines_below r s b zero = below_refl kind _
lines_below r s b (suc n) =
    below_or kind START START _ _ _ _
    (below_then kind _ _ _ _ _ (below_then kind _ _ _ _ _ (below_refl kind _) (below_then kind _ _ _ _ _ b (below_refl kind _))) (lines_below r s b n))
    (below_refl kind _)

pub cell_up : IsBelow kind cells.cell factored.cell
unfolding cells.cell factored.cell
cell_up = lines_below _ _ (stmt_up (under 64) (look_value (under 64) (known 64)) (look_groups (under 64) (known 64))) 1000

pub cell_down : IsBelow kind factored.cell cells.cell
unfolding cells.cell factored.cell
cell_down = lines_below _ _ (stmt_down (under 64)) 1000
