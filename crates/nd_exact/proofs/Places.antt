-- The record that is kept of a cell is that of the run of it, at the place where it stood.
use Rattle.std.proofs.Common.{◌≡◌, ℕ, zero, suc, ◌<◌, Bool, true, false, eqb, eqb-true, ◌&&◌, List, [], ◌∷◌, length, take, get_or, Option, Some, None, IfSome, option_map, refl, ap, ap₂, ◌∙◌, arith}
use Rattle.std.specs.Prelude.{bytes_eq}
use Rattle.nd_model.specs.Cells.Session.{Session, no_session}
use Rattle.nd_model.specs.Cells.Running.{World}
use Rattle.nd_model.specs.Cells.Cell.{session_after}
use Rattle.nd_model.specs.Book.Records.{Record}
use Rattle.nd_model.specs.Book.Book.{Cell, no_cell}
use Rattle.nd_model.specs.Book.Entries.{Entry, ended, record_at, entries, after_cells, entries_of, entry_at}
use Rattle.nd_model.specs.Book.Stale.{is_same, entry_before}
use Rattle.nd_model.proofs.Lists.{same_bytes}
use Rattle.nd_model.proofs.Lazy.{Each, IsFoundIn, each_found, found_each}
use Rattle.nd_exact.specs.Need.{RecordIsKept, KeptIsItsRecord}

-- how the cell at a place of a list is entered
abbrev entered : List Cell → World → Session → ℕ → Entry
entered cs i s k = record { cell = get_or cs k no_cell; session = after_cells (take k cs) i s }

each_at : (P : Entry → Type 0) (cs : List Cell) (i : World) (s : Session) (k : ℕ) → k < length cs → Each P (entries cs i s) → P (entered cs i s k)
each_at P [] i s k h e = absurd (omega arith)
each_at P (c ∷ cs) i s zero h e = e.0
each_at P (c ∷ cs) i s (suc k) h e = each_at P cs i (session_after (ended i (record { cell = c; session = s }))) k (omega arith) e.1

pub record_is_kept : RecordIsKept
record_is_kept old at d h =
    ap (option_map (record_at old.world)) (each_at (IsFoundIn (entries_of old)) old.cells old.world no_session at h (each_found old.cells old.world no_session d))

-- ---- and no other

each_map : (P Q : Entry → Type 0) (es : List Entry) → ((e : Entry) → P e → Q e) → Each P es → Each Q es
each_map P Q [] f h = tt
each_map P Q (e ∷ es) f h = (f e h.0, each_map P Q es f h.1)

-- it is the entry of a cell at some place
abbrev IsAt : List Cell → World → Session → Entry → Type 0
IsAt cs i s e = (k : ℕ) × (k < length cs) × (e ≡ entered cs i s k)

each_placed : (cs : List Cell) (i : World) (s : Session) → Each (IsAt cs i s) (entries cs i s)
each_placed [] i s = tt
each_placed (c ∷ cs) i s =
    let t : Session = session_after (ended i (record { cell = c; session = s })) in
    ((zero, omega arith, refl), each_map (IsAt cs i t) (IsAt (c ∷ cs) i s) (entries cs i t) (λ e h. one_on c cs i s e h) (each_placed cs i t))
  where
    one_on : (c : Cell) (cs : List Cell) (i : World) (s : Session) (e : Entry) → IsAt cs i (session_after (ended i (record { cell = c; session = s }))) e → IsAt (c ∷ cs) i s e
    one_on c cs i s e (k, h, is) = (suc k, omega arith, is)

parts : (x y : Bool) → (x && y) ≡ true → (x ≡ true) × (y ≡ true)
parts true y h = (refl, h)
parts false y h = absurd (cc)

same_cell : (c d : Cell) → is_same c d ≡ true → c ≡ d
same_cell c d h =
    let both : (eqb c.label d.label ≡ true) × (bytes_eq c.source d.source ≡ true) = parts _ _ h in
    ap₂ (λ (n : ℕ) (text : List ℕ). record { label = n; source = text }) (eqb-true c.label d.label both.0) (same_bytes c.source d.source both.1)

the_record : (r q : Record) → Some r ≡ Some q → q ≡ r
the_record r q e = cc

pub kept_is_its_record : KeptIsItsRecord
kept_is_its_record old c r is =
    by (entry_before old c) (found_each (IsAt old.cells old.world no_session) (λ (e : Entry). is_same c e.cell) (entries_of old) (each_placed old.cells old.world no_session)) is
  where
    by : (o : Option Entry) → IfSome o (λ e. IsAt old.cells old.world no_session e × (is_same c e.cell ≡ true)) → option_map (record_at old.world) o ≡ Some r
        → (at : ℕ) × (at < length old.cells) × (r ≡ record_at old.world (entry_at old at)) × (c ≡ (entry_at old at).cell)
    by None found kept = absurd (cc)
    by (Some e) ((k, h, there), same) kept =
        (k, h, the_record (record_at old.world e) r kept ∙ ap (record_at old.world) there, same_cell c e.cell same ∙ ap (λ (x : Entry). x.cell) there)
