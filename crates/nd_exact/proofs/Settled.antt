-- Two answers to the same edit or query are the same, memory aside.
use Rattle.std.proofs.Common.{◌≡◌, ℕ, Bool, true, false, cond, List, [], ◌∷◌, length, Option, Some, None, Result, Ok, Err, refl, sym, ap, ap₂, subst, ◌∙◌}
use Rattle.std.specs.Prelude.{◌≢◌, nat_lt, nat_le, is_none, is_ok, IsTrue}
use Rattle.nd_model.specs.Cells.InputName.{is_input_name}
use Rattle.nd_model.specs.Book.Book.{Book, Edit, Insert, Change, Move, Remove, SetInput, DropInput, SetRule, EditFault, NoCell, TooManyCells, CellTooLong, BadInputName, InputTooLarge, NoInputNamed, most_cells, most_source, most_input, size_of_input, count_of, fit_source, in_place, fit_input, under_name, refusal, QueryFault}
use Rattle.nd_model.specs.Book.Notebook.{Sheet, book_of, edited_sheet, Fails, Answers, AreAnswered, Tells}
use Rattle.nd_model.specs.Book.Stale.{CountsStale}
use Rattle.nd_exact.specs.Answers.{Reply, IsSettled, AnswersAreDetermined, EachIsAnswered, MemoryComesLast, RefusalChangesNothing, CountsAtMostStale, RefusalCountsNothing, ListsAreDetermined, TellsMemoryLast, TellsOne, TellingIsDetermined}
use Rattle.nd_model.specs.Book.Renaming.{Shown}

-- ---- edits

-- an edit that fails otherwise is refused so
pub refused : (e : Edit) (s : Sheet) (f : EditFault) → Fails e s f → IsSettled (Err f) → refusal e (book_of s) ≡ Some f
refused e s EditFault.OutOfMemory h settled = absurd (settled refl)
refused e s (EditFault.NoCell at count) h settled = h
refused e s TooManyCells h settled = h
refused e s CellTooLong h settled = h
refused e s BadInputName h settled = h
refused e s InputTooLarge h settled = h
refused e s (NoInputNamed name) h settled = h

not_both : {A : Type 0} (o : Option A) (x : A) → o ≡ None → o ≡ Some x → ⊥
not_both o x none some = cc

one : (x y : EditFault) → Some x ≡ Some y → x ≡ y
one x y h = cc

pub answers_are_determined : AnswersAreDetermined
answers_are_determined e old new now (Ok d) (Ok f) a b sa sb = (refl, a.1 ∙ sym b.1)
answers_are_determined e old new now (Ok d) (Err f) a b sa sb = absurd (not_both _ f a.0 (refused e old f b.0 sb))
answers_are_determined e old new now (Err f) (Ok d) a b sa sb = absurd (not_both _ f b.0 (refused e old f a.0 sa))
answers_are_determined e old new now (Err f) (Err g) a b sa sb =
    (ap Err (one f g (sym (refused e old f a.0 sa) ∙ refused e old g b.0 sb)), a.1 ∙ sym b.1)

pub memory_comes_last : MemoryComesLast
memory_comes_last e old new now EditFault.OutOfMemory a b = refl
memory_comes_last e old new now (EditFault.NoCell at count) a b = absurd (not_both _ (EditFault.NoCell at count) b.0 a.0)
memory_comes_last e old new now TooManyCells a b = absurd (not_both _ TooManyCells b.0 a.0)
memory_comes_last e old new now CellTooLong a b = absurd (not_both _ CellTooLong b.0 a.0)
memory_comes_last e old new now BadInputName a b = absurd (not_both _ BadInputName b.0 a.0)
memory_comes_last e old new now InputTooLarge a b = absurd (not_both _ InputTooLarge b.0 a.0)
memory_comes_last e old new now (NoInputNamed name) a b = absurd (not_both _ (NoInputNamed name) b.0 a.0)

pub refusal_changes_nothing : RefusalChangesNothing
refusal_changes_nothing e old new f a = a.1

-- ---- each edit has an answer

-- no want of memory
abbrev NoWant : Option EditFault → Type 0
NoWant o = o ≢ Some EditFault.OutOfMemory

either : (b : Bool) (x y : Option EditFault) → NoWant x → NoWant y → NoWant (cond b x y)
either true x y p q = p
either false x y p q = q

is_none_of : NoWant None
is_none_of h = cc

placed : (at count : ℕ) (o : Option EditFault) → NoWant o → NoWant (in_place at count o)
placed at count o h = either (nat_lt at count) o (Some (NoCell at count)) h (λ e. cc)

sourced : (source : List ℕ) → NoWant (fit_source source)
sourced source = either (nat_le (length source) most_source) None (Some CellTooLong) is_none_of (λ e. cc)

named : (name : List ℕ) (o : Option EditFault) → NoWant o → NoWant (under_name name o)
named name o h = either (is_input_name name) o (Some BadInputName) h (λ e. cc)

pub no_want : (e : Edit) (b : Book) → NoWant (refusal e b)
no_want (Insert at source) b =
    either (nat_lt (count_of b) at) (Some (NoCell at (count_of b))) _ (λ e. cc)
    (either (nat_le most_cells (count_of b)) (Some TooManyCells) (fit_source source) (λ e. cc) (sourced source))
no_want (Change at source) b = placed at (count_of b) (fit_source source) (sourced source)
no_want (Move from to) b = placed from (count_of b) _ (placed to (count_of b) None is_none_of)
no_want (Remove at) b = placed at (count_of b) None is_none_of
no_want (SetInput name input) b = named name (fit_input input) (either (nat_le (size_of_input input) most_input) None (Some InputTooLarge) is_none_of (λ e. cc))
no_want (DropInput name) b = named name _ (either (is_none (b.world.inputs name)) (Some (NoInputNamed name)) None (λ e. cc) is_none_of)
no_want (SetRule rule) b = is_none_of

pub fails : (e : Edit) (s : Sheet) (f : EditFault) → refusal e (book_of s) ≡ Some f → Fails e s f
fails e s EditFault.OutOfMemory h = absurd (no_want e (book_of s) h)
fails e s (EditFault.NoCell at count) h = h
fails e s TooManyCells h = h
fails e s CellTooLong h = h
fails e s BadInputName h = h
fails e s InputTooLarge h = h
fails e s (NoInputNamed name) h = h

settled : (e : Edit) (s : Sheet) (f : EditFault) → refusal e (book_of s) ≡ Some f → IsSettled (Err f)
settled e s f h same = no_want e (book_of s) (h ∙ ap Some (inside f same))
  where
    inside : (f : EditFault) → ◌≡◌ {A = Reply} (Err f) (Err EditFault.OutOfMemory) → f ≡ EditFault.OutOfMemory
    inside f h = cc

pub each_is_answered : EachIsAnswered
each_is_answered e old = by (refusal e (book_of old)) refl
  where
    by : (o : Option EditFault) → refusal e (book_of old) ≡ o → (a : Reply) × (new : Sheet) × Answers e old a new × IsSettled a
    by None h = (Ok tt, edited_sheet e old, (h, refl), λ same. cc)
    by (Some f) h = (Err f, old, (fails e old f h, refl), settled e old f h)

-- ---- the meter

-- nothing is counted
uncounted : (e : Edit) (s : Sheet) (before after : ℕ) → after ≡ before → CountsStale (book_of s) (book_of (edited_sheet e s)) before after
uncounted e s before after h = (0, tt, h)

pub counts_at_most_stale : CountsAtMostStale
counts_at_most_stale e old (Ok d) before after h = h
counts_at_most_stale e old (Err EditFault.OutOfMemory) before after h = h
counts_at_most_stale e old (Err (EditFault.NoCell at count)) before after h = uncounted e old before after h
counts_at_most_stale e old (Err TooManyCells) before after h = uncounted e old before after h
counts_at_most_stale e old (Err CellTooLong) before after h = uncounted e old before after h
counts_at_most_stale e old (Err BadInputName) before after h = uncounted e old before after h
counts_at_most_stale e old (Err InputTooLarge) before after h = uncounted e old before after h
counts_at_most_stale e old (Err (NoInputNamed name)) before after h = uncounted e old before after h

pub refusal_counts_nothing : RefusalCountsNothing
refusal_counts_nothing e old new EditFault.OutOfMemory before after a s h = absurd (s refl)
refusal_counts_nothing e old new (EditFault.NoCell at count) before after a s h = h
refusal_counts_nothing e old new TooManyCells before after a s h = h
refusal_counts_nothing e old new CellTooLong before after a s h = h
refusal_counts_nothing e old new BadInputName before after a s h = h
refusal_counts_nothing e old new InputTooLarge before after a s h = h
refusal_counts_nothing e old new (NoInputNamed name) before after a s h = h

-- ---- lists of edits

pub lists_are_determined : ListsAreDetermined
lists_are_determined [] old new now from to since till [] [] a b sa sb = (refl, a.0 ∙ sym b.0)
lists_are_determined [] old new now from to since till [] (y ∷ ys) a b sa sb = absurd b
lists_are_determined [] old new now from to since till (x ∷ xs) ys a b sa sb = absurd a
lists_are_determined (e ∷ es) old new now from to since till [] ys a b sa sb = absurd a
lists_are_determined (e ∷ es) old new now from to since till (x ∷ xs) [] a b sa sb = absurd b
lists_are_determined (e ∷ es) old new now from to since till (x ∷ xs) (y ∷ ys) (mid, between, answer, counts, rest) (mid', between', answer', counts', rest') sa sb =
    let first : (x ≡ y) × (mid ≡ mid') = answers_are_determined e old mid mid' x y answer answer' sa.0 sb.0 in
    let P : Sheet → Type 0 = λ s. AreAnswered es s between' ys now till in
    let others : (xs ≡ ys) × (new ≡ now) = lists_are_determined es mid new now between to between' till xs ys rest (subst P (sym first.1) rest') sa.1 sb.1 in
    (ap₂ (λ (z : Reply) zs. z ∷ zs) first.0 others.0, others.1)

-- ---- queries

told : {X : Type 0} (a meant : Result X QueryFault) → Tells a meant → a ≢ Err QueryFault.OutOfMemory → meant ≡ a
told (Ok x) meant h settled = h
told (Err (QueryFault.NoCell at count)) meant h settled = h
told (Err (QueryFault.NoName name)) meant h settled = h
told (Err (QueryFault.NoSave name)) meant h settled = h
told (Err QueryFault.OutOfMemory) meant h settled = absurd (settled refl)

not_ok : {X : Type 0} (f : QueryFault) (meant : Result X QueryFault) → meant ≡ Err f → IsTrue (is_ok meant) → ⊥
not_ok f (Ok x) is ok = cc
not_ok f (Err g) is ok = cc

tells_one : (X : Type 0) → TellsOne X
tells_one X meant = (λ a b ta tb sa sb. sym (told a meant ta sa) ∙ told b meant tb sb, last)
  where
    last : TellsMemoryLast meant
    last (QueryFault.NoCell at count) t want = absurd (not_ok (QueryFault.NoCell at count) meant t want)
    last (QueryFault.NoName name) t want = absurd (not_ok (QueryFault.NoName name) meant t want)
    last (QueryFault.NoSave name) t want = absurd (not_ok (QueryFault.NoSave name) meant t want)
    last QueryFault.OutOfMemory t want = refl

pub telling_is_determined : TellingIsDetermined
telling_is_determined = (tells_one (List (List ℕ)), tells_one Shown)
