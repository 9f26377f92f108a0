-- Lines that may be too long.
use Rattle.std.proofs.Common.{◌≡◌, ℕ, ◌<◌, ◌≤◌, leb, Bool, true, false, cond, List, [], ◌∷◌, ◌++◌, length, length-append, append_assoc, map, Result, Ok, Err, IsErrAnd, refl, sym, ap, ◌∙◌, subst, arith}
use Rattle.std.specs.List.{flat_map}
use Rattle.std.proofs.lemmas.Bool.{le-leb, lt-leb, leb-false}
use Rattle.std.proofs.lemmas.Result.{err_from_is_err_and}
use Rattle.nd_model.specs.Cells.Fault.{Fault, Stmt, TextTooLong}
use Rattle.nd_model.specs.Making.Operand.{Operand}
use Rattle.nd_model.specs.Text.Printing.{text_of, printed_line}
use Rattle.nd_model.specs.Cells.Cell.{most_text}
use Rattle.nd_operation.specs.declared.refusals.stop.Stop.{Stop}
use Rattle.nd_operation.specs.declared.refusals.stop.Stop.TheVariants.{Memory, Refused}
use Rattle.nd_operation.specs.Refusals.Ends.{Makes}
use Rattle.nd_operation.specs.Refusals.Faults.{fault_of}
use Rattle.nd_operation.specs.Operators.Lines.{limit_line, line_with}

-- ---- one text

pub in_limit : (t : List ℕ) → length t ≤ most_text → limit_line t ≡ Ok t
in_limit t le = ap (λ b. cond b (Ok t) (Err (Stmt TextTooLong))) (le-leb (length t) most_text le)

pub over_limit : (t : List ℕ) → most_text < length t → limit_line t ≡ Err (Stmt TextTooLong)
over_limit t lt = ap (λ b. cond b (Ok t) (Err (Stmt TextTooLong))) (lt-leb (length t) most_text lt)

-- what is refused is too long
too_long : (t : List ℕ) (f : Fault) → limit_line t ≡ Err f → (most_text < length t) × (Stmt TextTooLong ≡ f)
too_long t f refused = go (leb (length t) most_text) refl
  where
    go : (b : Bool) → leb (length t) most_text ≡ b → (most_text < length t) × (Stmt TextTooLong ≡ f)
    go true is = let same : ◌≡◌ {A = Result (List ℕ) Fault} (Ok t) (Err f) = sym (ap (λ b. cond b (Ok t) (Err (Stmt TextTooLong))) is) ∙ refused in absurd (cc)
    go false is = (leb-false (length t) most_text is, (let same : ◌≡◌ {A = Result (List ℕ) Fault} (Err (Stmt TextTooLong)) (Err f) = sym (ap (λ b. cond b (Ok t) (Err (Stmt TextTooLong))) is) ∙ refused in cc))

-- and stays so with more behind it
more_behind : (a b : List ℕ) (f : Fault) → limit_line a ≡ Err f → limit_line (a ++ b) ≡ Err f
more_behind a b f refused =
    let long : most_text < length a = (too_long a f refused).0 in
    over_limit (a ++ b) (omega (arith, length-append a b)) ∙ ap Err (too_long a f refused).1

-- what is given is what was said
pub kept : (s t : List ℕ) → limit_line s ≡ Ok t → s ≡ t
kept s t h = go (leb (length s) most_text) refl
  where
    go : (b : Bool) → leb (length s) most_text ≡ b → s ≡ t
    go true is = let same : ◌≡◌ {A = Result (List ℕ) Fault} (Ok s) (Ok t) = sym (ap (λ b. cond b (Ok s) (Err (Stmt TextTooLong))) is) ∙ h in cc
    go false is = let same : ◌≡◌ {A = Result (List ℕ) Fault} (Err (Stmt TextTooLong)) (Ok t) = sym (ap (λ b. cond b (Ok s) (Err (Stmt TextTooLong))) is) ∙ h in absurd (cc)

-- ---- lines

-- what comes behind a line: a space and a text each, and the newline
abbrev pub behind : List Operand → List ℕ
behind os = flat_map (λ q. (32 ∷ []) ++ q) (map text_of os) ++ 10 ∷ []

-- the line so far, which goes on with these operands
abbrev pub GoesOn : List ℕ → List ℕ → List Operand → Type 0
GoesOn all line os = all ≡ line ++ behind os

-- the first text
first_text : (o : Operand) (os : List Operand) → printed_line (o ∷ os) ≡ text_of o ++ behind os
first_text o os = append_assoc (text_of o) (flat_map (λ q. (32 ∷ []) ++ q) (map text_of os)) (10 ∷ [])

begun : (all line before : List ℕ) (o : Operand) (os : List Operand) → all ≡ (before ++ text_of o) ++ behind os → limit_line (line_with before o) ≡ Ok line → GoesOn all line os
begun all line before o os same pushed = same ∙ ap (λ l. l ++ behind os) (kept (line_with before o) line pushed)

stopped : (all before : List ℕ) (o : Operand) (rest : List ℕ) (f : Fault) → all ≡ (before ++ text_of o) ++ rest → limit_line (line_with before o) ≡ Err f → limit_line all ≡ Err f
stopped all before o rest f same refused = ap limit_line same ∙ more_behind (before ++ text_of o) rest f refused

pub line_begun : (o : Operand) (os : List Operand) (line : List ℕ) → limit_line (line_with [] o) ≡ Ok line → GoesOn (printed_line (o ∷ os)) line os
line_begun o os line pushed = begun (printed_line (o ∷ os)) line [] o os (first_text o os) pushed

pub line_not_begun : (o : Operand) (os : List Operand) (f : Fault) → limit_line (line_with [] o) ≡ Err f → limit_line (printed_line (o ∷ os)) ≡ Err f
line_not_begun o os f refused = stopped (printed_line (o ∷ os)) [] o (behind os) f (first_text o os) refused

-- a space and one text more
one_behind : (line : List ℕ) (o : Operand) (os : List Operand) → line ++ behind (o ∷ os) ≡ ((line ++ 32 ∷ []) ++ text_of o) ++ behind os
one_behind line o os =
    let more : List ℕ = flat_map (λ q. (32 ∷ []) ++ q) (map text_of os) in
    ap (λ l. line ++ l) (append_assoc ((32 ∷ []) ++ text_of o) more (10 ∷ []))
    ∙ sym (append_assoc line ((32 ∷ []) ++ text_of o) (more ++ 10 ∷ []))
    ∙ ap (λ l. l ++ (more ++ 10 ∷ [])) (sym (append_assoc line (32 ∷ []) (text_of o)))

pub line_more : (all line spaced new : List ℕ) (o : Operand) (os : List Operand) → GoesOn all line (o ∷ os) → spaced ≡ line ++ 32 ∷ []
    → limit_line (line_with spaced o) ≡ Ok new → GoesOn all new os
line_more all line spaced new o os so_far space pushed =
    begun all new spaced o os (so_far ∙ one_behind line o os ∙ ap (λ l. (l ++ text_of o) ++ behind os) (sym space)) pushed

pub line_not_more : (all line spaced : List ℕ) (o : Operand) (os : List Operand) (f : Fault) → GoesOn all line (o ∷ os) → spaced ≡ line ++ 32 ∷ []
    → limit_line (line_with spaced o) ≡ Err f → limit_line all ≡ Err f
line_not_more all line spaced o os f so_far space refused =
    stopped all spaced o (behind os) f (so_far ∙ one_behind line o os ∙ ap (λ l. (l ++ text_of o) ++ behind os) (sym space)) refused

-- the exit by `?` of a line that may be refused
pub stops_line : {Y Z : Type 0} (v : Z → List ℕ) (w : Y → List ℕ) (part all : List ℕ) (e : Stop) (out : Result Y Stop) → ((f : Fault) → limit_line part ≡ Err f → limit_line all ≡ Err f)
    → IsErrAnd out (λ x. x ≡ e) → Makes v (Err e) (limit_line part) → Makes w out (limit_line all)
stops_line {Y} v w part all e out more is h =
    let p : (x : Stop) × (out ≡ Err x) × (x ≡ e) = err_from_is_err_and out is in
    subst (λ (out : Result Y Stop). Makes w out (limit_line all)) (sym (p.1 ∙ ap Err p.2)) (go e h)
  where
    go : (e : Stop) → Makes v (Err e) (limit_line part) → Makes w (Err e) (limit_line all)
    go (Memory m) h = tt
    go (Refused f) h = more (fault_of f) h
