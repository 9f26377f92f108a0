-- Edits answered one after another.
use Rattle.std.proofs.Common.{◌≡◌, ℕ, zero, suc, ◌+◌, ◌<◌, List, [], ◌∷◌, ◌++◌, length, map, drop, get_or, Result, refl, sym, ap, ap₂, subst, ◌∙◌, add-one, drop-cons, append_assoc, append-nil, ◌≤◌, arith}
use Rattle.std.proofs.lemmas.List.{drop_all}
use Rattle.nd_model.specs.Book.Book as model
use Rattle.nd_notebook.specs.declared.edit.Edit.{Edit}
use Rattle.nd_notebook.specs.declared.edit.EditFault.{EditFault}
use Rattle.nd_model.specs.Book.Notebook.{Sheet, Answers, CountsRuns, AreAnswered}
use Rattle.nd_notebook.specs.Edits.{edit_of, outcome_of, outcomes_of}

abbrev pub Answer : Type 0
Answer = Result (Unit {0}) EditFault

abbrev pub Outcome : Type 0
Outcome = Result (Unit {0}) model.EditFault

none_left : (es : List Edit) → outcomes_of (map edit_of es) [] ≡ []
none_left [] = refl
none_left (e ∷ es) = refl

-- one answer more
outcomes-more : (es : List Edit) (k : ℕ) (d : Edit) (answers : List Answer) (r : Answer) → length answers ≡ k → k < length es → d ≡ get_or es k d
    → outcomes_of (map edit_of es) (answers ++ r ∷ []) ≡ outcomes_of (map edit_of es) answers ++ outcome_of (edit_of d) r ∷ []
outcomes-more [] k d answers r long lt is = absurd (omega arith)
outcomes-more (e ∷ es) zero d [] r long lt is = ap₂ (λ (x : Edit) l. outcome_of (edit_of x) r ∷ l) (sym is) (none_left es)
outcomes-more (e ∷ es) zero d (a ∷ answers) r long lt is = absurd (omega (arith, long))
outcomes-more (e ∷ es) (suc k) d [] r long lt is = absurd (omega (arith, long))
outcomes-more (e ∷ es) (suc k) d (a ∷ answers) r long lt is =
    ap (λ l. outcome_of (edit_of e) a ∷ l) (outcomes-more es k d answers r (omega (arith, long)) (omega arith) is)

-- what is left to be answered makes the whole list answered
abbrev pub Leads : List Edit → (k : ℕ) (first : Sheet) (begun : ℕ) (answers : List Outcome) (sheet : Sheet) (meter : ℕ) → Type 0
Leads es k first begun answers sheet meter =
    (rest : List Outcome) (new : Sheet) (after : ℕ) → AreAnswered (map edit_of (drop k es)) sheet meter rest new after → AreAnswered (map edit_of es) first begun (answers ++ rest) new after

-- where nothing is answered yet
pub leads_first : (es : List Edit) (answers : List Answer) (sheet : Sheet) (meter : ℕ) → answers ≡ [] → Leads es 0 sheet meter (outcomes_of (map edit_of es) answers) sheet meter
leads_first es answers sheet meter none rest new after h =
    let P : List Outcome → Type 0 = λ rs. AreAnswered (map edit_of es) sheet meter (rs ++ rest) new after in
    subst P (sym (ap (outcomes_of (map edit_of es)) none ∙ none_left es)) h

pub leads_on : (es : List Edit) (k : ℕ) (d : Edit) (first : Sheet) (begun : ℕ) (answers more : List Answer) (r : Answer) (sheet next : Sheet) (before between : ℕ)
    → length answers ≡ k → k < length es → d ≡ get_or es k d → Answers (edit_of d) sheet (outcome_of (edit_of d) r) next
    → CountsRuns (edit_of d) sheet (outcome_of (edit_of d) r) before between → more ≡ answers ++ r ∷ []
    → Leads es k first begun (outcomes_of (map edit_of es) answers) sheet before → Leads es (k + 1) first begun (outcomes_of (map edit_of es) more) next between
leads_on es k d first begun answers more r sheet next before between long lt is answered counts grown leads rest new after h =
    let here : drop k es ≡ d ∷ drop (k + 1) es = drop-cons es k d lt ∙ ap₂ (λ (e : Edit) n. e ∷ drop n es) (sym is) (sym (add-one k)) in
    let P : List Outcome → Type 0 = λ rs. AreAnswered (map edit_of es) first begun rs new after in
    let Q : List Edit → Type 0 = λ ds. AreAnswered (map edit_of ds) sheet before (outcome_of (edit_of d) r ∷ rest) new after in
    let so_far : List Outcome = outcomes_of (map edit_of es) answers in
    let all : outcomes_of (map edit_of es) more ≡ so_far ++ outcome_of (edit_of d) r ∷ [] = ap (outcomes_of (map edit_of es)) grown ∙ outcomes-more es k d answers r long lt is in
    subst P (sym (append_assoc so_far (outcome_of (edit_of d) r ∷ []) rest) ∙ ap (λ rs. rs ++ rest) (sym all))
    (leads (outcome_of (edit_of d) r ∷ rest) new after (subst Q (sym here) (next, between, answered, counts, h)))

-- where nothing is left
pub leads_to_end : (es : List Edit) (k : ℕ) (first : Sheet) (begun : ℕ) (answers : List Outcome) (sheet : Sheet) (meter : ℕ)
    → length es ≤ k → Leads es k first begun answers sheet meter → AreAnswered (map edit_of es) first begun answers sheet meter
leads_to_end es k first begun answers sheet meter past leads =
    let P : List Outcome → Type 0 = λ rs. AreAnswered (map edit_of es) first begun rs sheet meter in
    let Q : List Edit → Type 0 = λ ds. AreAnswered (map edit_of ds) sheet meter [] sheet meter in
    subst P (append-nil answers) (leads [] sheet meter (subst Q (sym (drop_all k es past)) (refl, refl)))
