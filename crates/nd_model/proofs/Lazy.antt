-- An edit runs at most its stale cells.
use Rattle.std.proofs.Common.{◌≡◌, ℕ, zero, suc, ◌-◌, ◌≤◌, Bool, true, false, eqb, eqb-true, eq-eqb, ◌&&◌, ◌||◌, List, [], ◌∷◌, length, map, take, find, Option, Some, None, IfSome, option_map, refl, sym, ap, ap₂, subst, ◌∙◌, inl, inr, arith}
use Rattle.std.specs.Prelude.{⊤}
use Rattle.std.proofs.lemmas.Bool.{cases_Bool, and_from, or_parts}
use Rattle.std.proofs.lemmas.Bool.Decides.{nat_tests}
use Rattle.std.proofs.lemmas.List.{take-map}
use Rattle.nd_model.specs.Cells.Session.{Session, no_session, is_in}
use Rattle.nd_model.specs.Cells.Running.{World}
use Rattle.nd_model.specs.Grammar.Reading.{reading}
use Rattle.nd_model.specs.Cells.Cell.{session_after}
use Rattle.nd_model.specs.Cells.Footprint.{Agree, HasNone, found, reads_of}
use Rattle.nd_model.specs.Book.Records.{record_of, StillHolds}
use Rattle.nd_model.specs.Book.Scheduler.{IsOfRun, AreOfRuns, records}
use Rattle.nd_model.specs.Book.Renaming.{AreDistinct}
use Rattle.nd_model.specs.Book.Book.{Cell, Book, labels_of}
use Rattle.nd_model.specs.Book.Entries.{Entry, ended, record_at, entries, after_cells, entries_of, records_of, SameFront}
use Rattle.nd_model.specs.Book.Stale.{is_same, entry_before, IsStale, AtLeast, slot_of, RunsAtNeed, runs_in, FewRuns, MarksAll, AtMostIsAtMost, MarksOnly, FrontIsNotStale}
use Rattle.nd_model.proofs.Lists.{bytes_eq_self, not_both, same_bytes}
use Rattle.nd_model.proofs.Fresh.{has_none_after}
use Rattle.nd_model.proofs.Passing.{any_pass}

-- ---- no base of a later cell's label

-- the session has no base of any of these cells' labels
abbrev pub NoneOf : List Cell → Session → Type 0
NoneOf [] s = ⊤
NoneOf (c ∷ cs) s = HasNone c.label s × NoneOf cs s

pub none_of_nothing : (cs : List Cell) → NoneOf cs no_session
none_of_nothing [] = tt
none_of_nothing (c ∷ cs) = (record { none = λ b is. refl }, none_of_nothing cs)

both : (x y : Bool) → (x && y) ≡ true → (x ≡ true) × (y ≡ true)
both true y h = (refl, h)
both false y h = absurd (cc)

-- a cell leaves none of the labels of those behind it
pub none_behind : (c : Cell) (cs : List Cell) (i : World) (s : Session) → AreDistinct (labels_of (c ∷ cs)) → NoneOf cs s → NoneOf cs (session_after (ended i (record { cell = c; session = s })))
none_behind c [] i s d none = tt
none_behind c (x ∷ cs) i s d none =
    let apart : (eqb c.label x.label ≡ false) × (_ ≡ false) = or_parts _ _ d.0 in (
      has_none_after x.label c.label (reading c.source) s i (λ e. not_both _ apart.0 (eq-eqb c.label x.label e)) none.0,
      none_behind c cs i s (apart.1, d.1.1) none.1,
    )

-- ---- each entry

-- each of the list is P
abbrev pub Each : {X : Type 0} → (X → Type 0) → List X → Type 0
Each P [] = ⊤
Each P (x ∷ xs) = P x × Each P xs

-- what is found is P, and passes the test
pub found_each : {X : Type 0} (P : X → Type 0) (test : X → Bool) (xs : List X) → Each P xs → IfSome (find test xs) (λ x. P x × (test x ≡ true))
found_each P test [] h = tt
found_each {X} P test (x ∷ xs) h = elim (cases_Bool (test x)) [
  | inl is ↦ let Q : Bool → Type 0 = λ b. IfSome (Rattle.std.proofs.Common.cond b (Some x) (find test xs)) (λ y. P y × (test y ≡ true)) in subst Q (sym is) (h.0, is)
  | inr other ↦ let Q : Bool → Type 0 = λ b. IfSome (Rattle.std.proofs.Common.cond b (Some x) (find test xs)) (λ y. P y × (test y ≡ true)) in subst Q (sym other) (found_each P test xs h.1)
]

-- it is entered from a session without a base of its label
abbrev pub Fresh : Entry → Type 0
Fresh e = HasNone e.cell.label e.session

pub each_fresh : (cs : List Cell) (i : World) (s : Session) → AreDistinct (labels_of cs) → NoneOf cs s → Each Fresh (entries cs i s)
each_fresh [] i s d none = tt
each_fresh (c ∷ cs) i s d none = (none.0, each_fresh cs i _ d.1 (none_behind c cs i s d none.1))

pub fresh_of : (b : Book) → AreDistinct (labels_of b.cells) → Each Fresh (entries_of b)
fresh_of b d = each_fresh b.cells b.world no_session d (none_of_nothing b.cells)

-- how a cell was entered before, where it was
pub was_fresh : (old : Book) → AreDistinct (labels_of old.cells) → (c : Cell) → IfSome (entry_before old c) (λ was. Fresh was × (is_same c was.cell ≡ true))
was_fresh old d c = found_each Fresh (λ (e : Entry). is_same c e.cell) (entries_of old) (fresh_of old d)

-- ---- the records of running all

pub records_are : (old : Book) (cs : List Cell) (i : World) (s : Session) → records (map (slot_of old) cs) i s ≡ map (record_at i) (entries cs i s)
records_are old [] i s = refl
records_are old (c ∷ cs) i s = ap (λ rs. record_of c.label (reading c.source) i s ∷ rs) (records_are old cs i (session_after (ended i (record { cell = c; session = s }))))

is_same_label : (c d : Cell) → is_same c d ≡ true → d.label ≡ c.label
is_same_label c d h = sym (eqb-true c.label d.label (both _ _ h).0)

is_same_source : (c d : Cell) → is_same c d ≡ true → d.source ≡ c.source
is_same_source c d h = sym (same_bytes c.source d.source (both _ _ h).1)

-- what is kept of a cell is the record of a run of it
pub kept_of_run : (i : World) (c : Cell) (o : Option Entry) → IfSome o (λ was. Fresh was × (is_same c was.cell ≡ true))
    → IfSome (option_map (record_at i) o) (IsOfRun c.label (reading c.source))
kept_of_run i c None h = tt
kept_of_run i c (Some was) h =
    let label : was.cell.label ≡ c.label = is_same_label c was.cell h.1 in
    let source : was.cell.source ≡ c.source = is_same_source c was.cell h.1 in
    let P : ℕ → Type 0 = λ n. HasNone n was.session in
    (i, was.session, subst P label h.0, ap₂ (λ n t. record_of n (reading t) i was.session) label source)

pub are_of_runs : (old : Book) → AreDistinct (labels_of old.cells) → (cs : List Cell) → AreOfRuns (map (slot_of old) cs)
are_of_runs old d [] = tt
are_of_runs old d (c ∷ cs) = (kept_of_run old.world c (entry_before old c) (was_fresh old d c), are_of_runs old d cs)

-- ---- stale

-- A record of the run before still holds where the cell finds all that it read as it was.
pub still_holds : (i j : World) (was : Entry) (s : Session) → HasNone was.cell.label s → Agree (reads_of (ended i was)) was.session i s j → StillHolds (record_at i was) s j
still_holds i j was s none agree = record { none = none; same = λ k read. rw read (ap Some (agree k read)) }

-- a cell of whose run before no record holds is stale
pub stale : (i j : World) (c : Cell) (s : Session) (o : Option Entry) → HasNone c.label s → IfSome o (λ was. Fresh was × (is_same c was.cell ≡ true))
    → IfSome (option_map (record_at i) o) (λ r. ¬ StillHolds r s j) → IfSome o (λ was. ¬ Agree (reads_of (ended i was)) was.session i s j)
stale i j c s None none h fails = tt
stale i j c s (Some was) none h fails = λ agree. fails (still_holds i j was s (let P : ℕ → Type 0 = λ n. HasNone n s in subst P (sym (is_same_label c was.cell h.1)) none) agree)

-- one more that is not counted
pub at_least_more : {X : Type 0} (n : ℕ) (P : X → Type 0) (x : X) (xs : List X) → AtLeast n P xs → AtLeast n P (x ∷ xs)
at_least_more zero P x xs h = tt
at_least_more (suc n) P x xs h = inr h

-- the number of flags that stand at P alone
pub marked_only : {X : Type 0} (P : X → Type 0) (xs : List X) (fs : List Bool) → MarksOnly P xs fs → AtLeast (runs_in fs) P xs
marked_only P [] [] h = tt
marked_only P [] (f ∷ fs) h = absurd h
marked_only P (x ∷ xs) [] h = absurd h
marked_only P (x ∷ xs) (true ∷ fs) h = inl (h.0 refl, marked_only P xs fs h.1)
marked_only P (x ∷ xs) (false ∷ fs) h = at_least_more (runs_in fs) P x xs (marked_only P xs fs h.1)

only_stale : (old new : Book) → AreDistinct (labels_of old.cells) → (cs : List Cell) (s : Session) (fs : List Bool) → AreDistinct (labels_of cs) → NoneOf cs s
    → RunsAtNeed new.world s (map (slot_of old) cs) fs → MarksOnly (IsStale old new) (entries cs new.world s) fs
only_stale old new d [] s [] e none h = tt
only_stale old new d [] s (f ∷ fs) e none h = absurd h
only_stale old new d (c ∷ cs) s [] e none h = absurd h
only_stale old new d (c ∷ cs) s (f ∷ fs) e none h = (
  λ run. stale old.world new.world c s (entry_before old c) none.0 (was_fresh old d c) (h.0 run),
  only_stale old new d cs (session_after (ended new.world (record { cell = c; session = s }))) fs e.1 (none_behind c cs new.world s e none.1) h.1,
)

pub few_runs : FewRuns
few_runs old new fs rs d e passes needs =
    let only : MarksOnly (IsStale old new) (entries_of new) fs = only_stale old new d new.cells no_session fs e (none_of_nothing new.cells) needs in (
      (any_pass new.world no_session (map (slot_of old) new.cells) fs rs (are_of_runs old d new.cells) passes).0 ∙ records_are old new.cells new.world no_session,
      only,
      marked_only (IsStale old new) (entries_of new) fs only,
    )

-- ---- at most is at most

marked : {X : Type 0} (P : X → Type 0) (xs : List X) (n : ℕ) (fs : List Bool) → AtLeast n P xs → MarksAll P xs fs → n ≤ runs_in fs
marked P xs zero fs h m = omega arith
marked P [] (suc n) fs h m = absurd h
marked P (x ∷ xs) (suc n) [] h m = absurd m
marked P (x ∷ xs) (suc n) (true ∷ fs) (inl here) m = let more : n ≤ runs_in fs = marked P xs n fs here.1 m.1 in omega arith
marked P (x ∷ xs) (suc n) (true ∷ fs) (inr there) m = let more : suc n ≤ runs_in fs = marked P xs (suc n) fs there m.1 in omega arith
marked P (x ∷ xs) (suc n) (false ∷ fs) (inl here) m = let is : false ≡ true = m.0 here.0 in absurd (cc)
marked P (x ∷ xs) (suc n) (false ∷ fs) (inr there) m = marked P xs (suc n) fs there m.1

pub at_most_is_at_most : AtMostIsAtMost
at_most_is_at_most old new n fs h m = marked (IsStale old new) (entries_of new) n fs h m

-- ---- the cells in front

pub take-entries : (at : ℕ) (cs : List Cell) (i : World) (s : Session) → take at (entries cs i s) ≡ entries (take at cs) i s
take-entries zero cs i s = refl
take-entries (suc at) [] i s = refl
take-entries (suc at) (c ∷ cs) i s = let e : Entry = record { cell = c; session = s } in ap (λ es. e ∷ es) (take-entries at cs i (session_after (ended i e)))

pub take-records : (at : ℕ) (b : Book) → take at (records_of b) ≡ map (record_at b.world) (entries (take at b.cells) b.world no_session)
take-records at b = take-map (record_at b.world) at (entries_of b) ∙ ap (map (record_at b.world)) (take-entries at b.cells b.world no_session)

take_of_take : {X : Type 0} (k at : ℕ) (xs : List X) → k ≤ at → take k (take at xs) ≡ take k xs
take_of_take zero at xs h = refl
take_of_take (suc k) zero xs h = absurd (omega arith)
take_of_take (suc k) (suc at) [] h = refl
take_of_take (suc k) (suc at) (x ∷ xs) h = ap (λ ys. x ∷ ys) (take_of_take k at xs (omega arith))

fewer : (k at : ℕ) (xs ys : List Cell) → k ≤ at → take at xs ≡ take at ys → take k xs ≡ take k ys
fewer k at xs ys h e = sym (take_of_take k at xs h) ∙ ap (take k) e ∙ take_of_take k at ys h

pub same_front : SameFront
same_front at old new inputs cells = (
  take-records at old ∙ ap₂ (λ (i : World) (cs : List Cell). map (record_at i) (entries cs i no_session)) inputs cells ∙ sym (take-records at new),
  λ k h. ap₂ (λ (i : World) (cs : List Cell). after_cells cs i no_session) inputs (fewer k at old.cells new.cells h cells),
)

-- ---- and none of them is stale

each_both : {X : Type 0} (P Q R : X → Type 0) (xs : List X) → ((x : X) → P x → Q x → R x) → Each P xs → Each Q xs → Each R xs
each_both P Q R [] f p q = tt
each_both P Q R (x ∷ xs) f p q = (f x p.0 q.0, each_both P Q R xs f p.1 q.1)

each_take : {X : Type 0} (P : X → Type 0) (at : ℕ) (xs : List X) → Each P xs → Each P (take at xs)
each_take P zero xs h = tt
each_take P (suc at) [] h = tt
each_take P (suc at) (x ∷ xs) h = (h.0, each_take P at xs h.1)

is_same_self : (c : Cell) → is_same c c ≡ true
is_same_self c = and_from _ _ (eq-eqb c.label c.label refl) (bytes_eq_self c.source)

other_label : (c : Cell) (cs : List Cell) (i : World) (s : Session) → is_in c.label (labels_of cs) ≡ false → Each (λ (e : Entry). is_same e.cell c ≡ false) (entries cs i s)
other_label c [] i s h = tt
other_label c (d ∷ cs) i s h =
    let apart : (eqb c.label d.label ≡ false) × (is_in c.label (labels_of cs) ≡ false) = or_parts _ _ h in
    let other : eqb d.label c.label ≡ false = grind (arith, nat_tests) in
    (rw other refl, other_label c cs i (session_after (ended i (record { cell = d; session = s }))) apart.1)

-- each cell of a run is found in it
abbrev pub IsFoundIn : List Entry → Entry → Type 0
IsFoundIn es e = find (λ (x : Entry). is_same e.cell x.cell) es ≡ Some e

pub each_found : (cs : List Cell) (i : World) (s : Session) → AreDistinct (labels_of cs) → Each (IsFoundIn (entries cs i s)) (entries cs i s)
each_found [] i s d = tt
each_found (c ∷ cs) i s d =
    let e : Entry = record { cell = c; session = s } in
    let rest : List Entry = entries cs i (session_after (ended i e)) in (
      rw (is_same_self c) refl,
      each_both (λ (x : Entry). is_same x.cell c ≡ false) (IsFoundIn rest) (IsFoundIn (e ∷ rest)) rest (λ x other is. rw other is)
          (other_label c cs i (session_after (ended i e)) d.0) (each_found cs i (session_after (ended i e)) d.1),
    )

not_stale : (old new : Book) (e : Entry) → old.world ≡ new.world → entry_before old e.cell ≡ Some e → ¬ IsStale old new e
not_stale old new e inputs is h =
    let P : Option Entry → Type 0 = λ o. IfSome o (λ was. ¬ Agree (reads_of (ended old.world was)) was.session old.world e.session new.world) in
    let changed : ¬ Agree (reads_of (ended old.world e)) e.session old.world e.session new.world = subst P is h in
    changed (λ k read. ap (λ j. found e.session j k) inputs)

-- no more than there are behind those that are not P
behind : {X : Type 0} (P : X → Type 0) (at n : ℕ) (xs : List X) → Each (λ x. ¬ P x) (take at xs) → AtLeast n P xs → n ≤ length xs - at
behind P at zero xs front h = omega arith
behind P at (suc n) [] front h = absurd h
behind P zero (suc n) (x ∷ xs) front (inl here) = let rest : n ≤ length xs - 0 = behind P zero n xs tt here.1 in omega arith
behind P zero (suc n) (x ∷ xs) front (inr there) = let rest : suc n ≤ length xs - 0 = behind P zero (suc n) xs tt there in omega arith
behind P (suc at) (suc n) (x ∷ xs) front (inl here) = absurd (front.0 here.0)
behind P (suc at) (suc n) (x ∷ xs) front (inr there) = let rest : suc n ≤ length xs - at = behind P at (suc n) xs front.1 there in omega arith

pub length-entries : (cs : List Cell) (i : World) (s : Session) → length (entries cs i s) ≡ length cs
length-entries [] i s = refl
length-entries (c ∷ cs) i s = ap suc (length-entries cs i (session_after (ended i (record { cell = c; session = s }))))

pub front_is_not_stale : FrontIsNotStale
front_is_not_stale at n old new d inputs cells h =
    let front : take at (entries_of old) ≡ take at (entries_of new) = take-entries at old.cells old.world no_session
    ∙ ap₂ (λ (i : World) (cs : List Cell). entries cs i no_session) inputs cells ∙ sym (take-entries at new.cells new.world no_session) in
    let each : Each (λ e. ¬ IsStale old new e) (take at (entries_of old)) =
    each_take (λ e. ¬ IsStale old new e) at (entries_of old) (each_both (IsFoundIn (entries_of old)) (λ e. ⊤) (λ e. ¬ IsStale old new e) (entries_of old)
    (λ e is t. not_stale old new e inputs is) (each_found old.cells old.world no_session d) (all_of (entries_of old))) in
    let most : n ≤ length (entries_of new) - at = behind (IsStale old new) at n (entries_of new) (subst (Each (λ e. ¬ IsStale old new e)) front each) h in
    let long : length (entries_of new) ≡ length new.cells = length-entries new.cells new.world no_session in omega arith
  where
    all_of : (es : List Entry) → Each (λ e. ⊤) es
    all_of [] = tt
    all_of (e ∷ es) = (tt, all_of es)
