-- What is told of the cell at a place.
use Rattle.std.proofs.Common.{◌≡◌, ℕ, zero, suc, ◌+◌, ◌<◌, ◌≤◌, get_or, add-one, arith, String, string_bytes, Global, List, [], ◌∷◌, ◌++◌, map, length, take, Option, Some, None, option_map, is_some, Result, Ok, Err, bytes_eq, refl, sym, ap, ap₂, ◌∙◌, inl, inr, slice_get, is_ok, true, false, IsErrAnd, subst, eq-eqb}
use Rattle.std.proofs.lemmas.List.{map-append}
use Rattle.std.proofs.lemmas.Bool.{and_from, cases_Bool}
use Rattle.std.specs.List.{flat_map}
use Rattle.nd_model.specs.Arrays.Value.{Base, Value, Int, Truth, Scalar, Array, Row, same_base}
use Rattle.nd_model.specs.Cells.Session.{Session, Names, is_held, lookup, no_session}
use Rattle.nd_model.specs.Cells.Running.{World}
use Rattle.nd_model.specs.Grammar.Reading.{reading}
use Rattle.nd_model.specs.Cells.Cell.{cell, notebook, session_after}
use Rattle.nd_model.specs.Book.Entries.{session_before}
use Rattle.nd_model.specs.Book.Renaming.{Told, Shown, ShownArray, ShownRow, shown, shown_element, shown_names, told}
use Rattle.nd_model.specs.Book.Book.{Book, Cell, QueryFault, ask_cell, ask_told, count_of, found_value, names_at, no_cell, read_cells, result_at, saved_at, source_at, told_book, value_at, found_file}
use Rattle.nd_model.specs.Book.Book as model
use Rattle.nd_model.specs.Book.Notebook.{Sheet, Tells, book_of}
use Rattle.nd_model.specs.Book.Scheduler.{told_of}
use Rattle.nd_model.proofs.Entries.{told_by_records}
use Rattle.nd_memory.specs.Want.{out_of_memory}
use Rattle.nd_change.specs.Snapshots.{IsAlike}
use Rattle.nd_change.proofs.Changes.{held_by_name}
use Rattle.nd_notebook.specs.declared.query.QueryFault as declared
use Rattle.nd_notebook.specs.declared.query.QueryFault.TheVariants as faults
use Rattle.nd_notebook.specs.Queries.{answer_of, query_fault_of, result_of}
use Rattle.nd_cell.specs.declared.result.CellResult as declaredResult
use Rattle.nd_cell.specs.Records.{RecordData, recorded}
use Rattle.nd_cell.specs.Results.{refusal_of, saves_of}

-- where no cell stands
told_past : (cs : List Cell) (i : World) (s : Session) (at : ℕ) → length cs ≤ at → slice_get (told (notebook (read_cells cs) i s)) at ≡ None
told_past [] i s at h = refl
told_past (c ∷ cs) i s zero h = absurd (omega arith)
told_past (c ∷ cs) i s (suc at) h = told_past cs i (session_after (cell c.label (reading c.source) i s)) at (omega arith)

pub not_told : {X : Type 0} (answer : Told → Result X QueryFault) (b : Book) (at count : ℕ) → length b.cells ≤ at → count ≡ length b.cells → ask_told answer b at ≡ Err (QueryFault.NoCell at count)
not_told answer b at count past is =
    ap (λ (o : Option Told). ask_cell at (count_of b) o answer) (told_past b.cells b.world no_session at past) ∙ ap (λ n. Err (QueryFault.NoCell at n)) (sym is)

cell_past : (cs : List Cell) (at : ℕ) → length cs ≤ at → slice_get cs at ≡ None
cell_past [] at h = refl
cell_past (c ∷ cs) zero h = absurd (omega arith)
cell_past (c ∷ cs) (suc at) h = cell_past cs at (omega arith)

cell_there : (cs : List Cell) (at : ℕ) → at < length cs → slice_get cs at ≡ Some (get_or cs at no_cell)
cell_there [] at h = absurd (omega arith)
cell_there (c ∷ cs) zero h = refl
cell_there (c ∷ cs) (suc at) h = cell_there cs at (omega arith)

pub no_source : (b : Book) (at count : ℕ) → length b.cells ≤ at → count ≡ length b.cells → source_at b at ≡ Err (QueryFault.NoCell at count)
no_source b at count past is =
    ap (λ (o : Option Cell). ask_cell at (count_of b) o (λ (c : Cell). Ok c.source)) (cell_past b.cells at past) ∙ ap (λ n. Err (QueryFault.NoCell at n)) (sym is)

pub source_there : (b : Book) (at : ℕ) (source : List ℕ) → at < length b.cells → source ≡ (get_or b.cells at no_cell).source → source_at b at ≡ Ok source
source_there b at source lt is = ap (λ (o : Option Cell). ask_cell at (count_of b) o (λ (c : Cell). Ok c.source)) (cell_there b.cells at lt) ∙ ap Ok (sym is)

-- what a cell gave, by its record
pub result_told : (now sheet : Sheet) (at : ℕ) (r : RecordData) (s : Session) (x : declaredResult.CellResult) → sheet ≡ now → slice_get (told_book (book_of sheet)) at ≡ Some (told_of (recorded r) s)
    → string_bytes x.text ≡ r.text → option_map refusal_of x.refusal ≡ r.refusal → saves_of x.saves.entries ≡ r.saves → Ok (result_of x) ≡ result_at (book_of now) at
result_told now sheet at r s x same told text refusal saves =
    (λ d. Ok (record { text = text d; refusal = refusal d; saves = saves d }))
    ∙ sym (ap (λ (o : Option Told). ask_cell at (length sheet.cells) o (λ (t : Told). Ok (record { text = t.text; refusal = t.refusal; saves = t.saves }))) told)
    ∙ ap (λ (n : Sheet). result_at (book_of n) at) same

names-shown : (s : Session) (es : Names) → map (λ (e : List ℕ × Shown). e.0) (shown_names s es) ≡ map (λ (e : List ℕ × Value). e.0) es
names-shown s [] = refl
names-shown s (e ∷ es) = ap (λ l. e.0 ∷ l) (names-shown s es)

pub names_shown : (s : Session) (es : Names) (names : List (List ℕ)) → names ≡ map (λ (e : List ℕ × Value). e.0) es → map (λ (e : List ℕ × Shown). e.0) (shown_names s es) ≡ names
names_shown s es names is = names-shown s es ∙ sym is

pub lookup-shown : (n : List ℕ) (s : Session) (es : Names) → lookup n (shown_names s es) ≡ option_map (shown s) (lookup n es)
lookup-shown n s [] = refl
lookup-shown n s (e ∷ es) = elim (cases_Bool (bytes_eq n e.0)) [ inl is ↦ rw is refl | inr other ↦ rw other (lookup-shown n s es) ]

-- ---- names, one after another

pub names_more : (names new : List (String Global)) (s : String Global) (n : List ℕ) (order : List (List ℕ)) (i : ℕ)
    → map string_bytes names ≡ take i order → new ≡ names ++ s ∷ [] → string_bytes s ≡ n → slice_get order i ≡ Some n
    → map string_bytes new ≡ take (i + 1) order
names_more names new s n order i so_far is named at =
    ap (map string_bytes) is ∙ map-append string_bytes names (s ∷ [])
    ∙ ap₂ (λ l m. l ++ m ∷ []) so_far named
    ∙ sym (ap (λ k. take k order) (add-one i) ∙ grows order i n at)
  where
    grows : (es : List (List ℕ)) (i : ℕ) (n : List ℕ) → slice_get es i ≡ Some n → take (suc i) es ≡ take i es ++ n ∷ []
    grows [] i n at = absurd (cc)
    grows (e ∷ es) zero n at = ap (λ m. m ∷ []) (let same : e ≡ n = cc in same)
    grows (e ∷ es) (suc i) n at = ap (λ l. e ∷ l) (grows es i n at)

-- ---- sessions that are alike

same_base_self : (b : Base) → same_base b b ≡ true
same_base_self b = and_from _ _ (eq-eqb b.label b.label refl) (eq-eqb b.number b.number refl)

-- a base that some value lies in has the same bytes in both
same_bytes_there : (s t : Session) (b : Base) → IsAlike s t → is_held b s.names ≡ true → s.bytes b ≡ t.bytes b
same_bytes_there s t b a held = let there : is_held b t.names ≡ true = sym (a.held b) ∙ held in
    sym (rw held refl) ∙ a.bytes b ∙ rw there refl

-- ---- what is told of the session behind a cell

pub names_told : (b : Book) (at : ℕ) (names : List (List ℕ)) → at < length b.cells → names ≡ map (λ (e : List ℕ × Value). e.0) (session_before b (at + 1)).names → names_at b at ≡ Ok names
names_told b at names lt told =
    ap (λ (o : Option Told). ask_cell at (count_of b) o (λ (t : Told). Ok (map (λ (e : List ℕ × Shown). e.0) t.names))) (told_by_records b at lt)
    ∙ ap Ok (names_shown (session_before b (at + 1)) (session_before b (at + 1)).names names told)

pub names_are_told : (b : Book) (at : ℕ) → at < length b.cells → is_ok (names_at b at) ≡ true
names_are_told b at lt = ap is_ok (names_told b at (map (λ (e : List ℕ × Value). e.0) (session_before b (at + 1)).names) lt refl)

value_at_is : (b : Book) (at : ℕ) (n : List ℕ) → at < length b.cells → value_at b at n ≡ found_value n (option_map (shown (session_before b (at + 1))) (lookup n (session_before b (at + 1)).names))
value_at_is b at n lt =
    ap (λ (o : Option Told). ask_cell at (count_of b) o (λ (t : Told). found_value n (lookup n t.names))) (told_by_records b at lt)
    ∙ ap (found_value n) (lookup-shown n (session_before b (at + 1)) (session_before b (at + 1)).names)

-- what is found under a name is shown in the same way in sessions that are alike
shown_alike : (s t : Session) (n : List ℕ) (v : Value) → IsAlike s t → lookup n s.names ≡ Some v → shown s v ≡ shown t v
shown_alike s t n (Int z) a found = refl
shown_alike s t n (Truth z) a found = refl
shown_alike s t n (Scalar k z) a found = refl
shown_alike s t n (Array b g) a found = ap (λ bytes. ShownArray g.element g.shape (flat_map (shown_element g.element bytes) g.places)) (same_bytes_there s t b a (held_by_name b n (Array b g) s.names found (same_base_self b)))
shown_alike s t n (Row b g) a found = ap (λ bytes. ShownRow g.element (flat_map (shown_element g.element bytes) g.places)) (same_bytes_there s t b a (held_by_name b n (Row b g) s.names found (same_base_self b)))

pub value_told : (b : Book) (at : ℕ) (n : List ℕ) (s : Session) (v : Value) (x : Shown) → at < length b.cells → IsAlike s (session_before b (at + 1)) → Some v ≡ lookup n s.names → x ≡ shown s v → value_at b at n ≡ Ok x
value_told b at n s v x lt a found shows =
    value_at_is b at n lt ∙ ap (λ o. found_value n (option_map (shown (session_before b (at + 1))) o)) (sym (found ∙ a.names n)) ∙ ap Ok (sym (shows ∙ shown_alike s (session_before b (at + 1)) n v a (sym found)))

no_value_there : (b : Book) (at : ℕ) (n : List ℕ) → at < length b.cells → None ≡ lookup n (session_before b (at + 1)).names → value_at b at n ≡ Err (QueryFault.NoName n)
no_value_there b at n lt found = value_at_is b at n lt ∙ ap (λ o. found_value n (option_map (shown (session_before b (at + 1))) o)) (sym found)

pub no_value : (b : Book) (at : ℕ) (n : List ℕ) (s : Session) → at < length b.cells → IsAlike s (session_before b (at + 1)) → None ≡ lookup n s.names → value_at b at n ≡ Err (QueryFault.NoName n)
no_value b at n s lt a found = no_value_there b at n lt (found ∙ a.names n)

-- by whether the name is bound
pub unbound_value : (b : Book) (at : ℕ) (n : List ℕ) → at < length b.cells → is_some (lookup n (session_before b (at + 1)).names) ≡ false → value_at b at n ≡ Err (QueryFault.NoName n)
unbound_value b at n lt is = no_value_there b at n lt (none (lookup n (session_before b (at + 1)).names) is)
  where
    none : (o : Option Value) → is_some o ≡ false → None ≡ o
    none None h = refl
    none (Some v) h = absurd (cc)

pub value_is_told : (b : Book) (at : ℕ) (n : List ℕ) → at < length b.cells → is_some (lookup n (session_before b (at + 1)).names) ≡ true → is_ok (value_at b at n) ≡ true
value_is_told b at n lt is = ap is_ok (value_at_is b at n lt) ∙ some (session_before b (at + 1)) (lookup n (session_before b (at + 1)).names) is
  where
    some : (s : Session) (o : Option Value) → is_some o ≡ true → is_ok (found_value n (option_map (shown s) o)) ≡ true
    some s None h = absurd (cc)
    some s (Some v) h = refl

-- ---- what is told of the files that a cell saved

pub save_told : (b : Book) (at : ℕ) (n : List ℕ) (r : model.CellResult) → Ok r ≡ result_at b at → found_file n (lookup n r.saves) ≡ saved_at b at n
save_told b at n r e = by (slice_get (told_book b) at) e
  where
    by : (o : Option Told) → Ok r ≡ ask_cell at (count_of b) o (λ (t : Told). Ok (record { text = t.text; refusal = t.refusal; saves = t.saves }))
        → found_file n (lookup n r.saves) ≡ ask_cell at (count_of b) o (λ (t : Told). found_file n (lookup n t.saves))
    by None e = absurd (cc)
    by (Some t) e = let same : r ≡ record { text = t.text; refusal = t.refusal; saves = t.saves } = cc in ap (λ (r : model.CellResult). found_file n (lookup n r.saves)) same

pub save_not_told : (b : Book) (at : ℕ) (n : List ℕ) (f : declared.QueryFault) → Err (query_fault_of [] f) ≡ result_at b at → Err (query_fault_of n f) ≡ saved_at b at n
save_not_told b at n f e = by (slice_get (told_book b) at) f e
  where
    by : (o : Option Told) (f : declared.QueryFault) → Err (query_fault_of [] f) ≡ ask_cell {C = Told} {X = model.CellResult} at (count_of b) o (λ (t : Told). Ok (record { text = t.text; refusal = t.refusal; saves = t.saves }))
        → Err (query_fault_of n f) ≡ ask_cell at (count_of b) o (λ (t : Told). found_file n (lookup n t.saves))
    by None (faults.NoCell a k) e = cc
    by None faults.NoName e = absurd (cc)
    by None faults.NoSave e = absurd (cc)
    by None (faults.Memory m) e = absurd (cc)
    by (Some t) f e = absurd (cc)

-- memory is wanted where there is a value
pub wants_memory : {X Y : Type 0} (name : List ℕ) (view : X → Y) (r : Result X declared.QueryFault) (answer : Result Y QueryFault)
    → IsErrAnd r (λ e. e ≡ faults.Memory out_of_memory) → is_ok answer ≡ true → Tells (answer_of name view r) answer
wants_memory name view (Ok x) answer h ok = elim h [ ]
wants_memory {X} name view (Err e) answer h ok = subst (λ (f : declared.QueryFault). Tells (answer_of {X = X} name view (Err f)) answer) (sym h) ok
