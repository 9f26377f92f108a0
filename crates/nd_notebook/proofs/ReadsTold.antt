-- The reads of a cell, as they are told one after another.
use Rattle.std.proofs.Common.{◌≡◌, ℕ, ◌+◌, ◌<◌, Bool, true, false, cond, bytes_eq, nat_eq, ◌&&◌, ◌↔◌, ◌⊎◌, IsTrue, IsErrAnd, arith, List, [], ◌∷◌, ◌++◌, map, length, Option, Some, None, is_some, option_map, Result, Ok, Err, refl, sym, ap, subst, ◌∙◌, inl, inr, slice_get}
use Rattle.std.proofs.lemmas.Bool.{and_from, and_parts, both_ways, false≢true}
use Rattle.std.proofs.lemmas.Bool.Decides.{Decides-eqb}
use Rattle.std.proofs.lemmas.Option.{none-some, same_Some}
use Rattle.std.proofs.lemmas.Slice.Eq.{bytes_eq-Decides}
use Rattle.std.specs.Bool.{Decides}
use Rattle.std.specs.List.{list_any}
use Rattle.std.specs.Option.{option_eq}
use Rattle.nd_memory.specs.Want.{out_of_memory}
use Rattle.nd_model.specs.Arrays.Value.{Base, Value}
use Rattle.nd_model.specs.Book.Book.{Book, count_of}
use Rattle.nd_model.specs.Book.Records.{Record}
use Rattle.nd_model.specs.Cells.Running.{Byte, Input, Length, Name, Source}
use Rattle.nd_model.specs.Cells.Footprint.{Given, Bound, Number}
use Rattle.nd_session.specs.Session.Found.{Found, byte_at, lookup_base}
use Rattle.nd_session.specs.Session.Changes.{ChangesData, writes_in}
use Rattle.nd_session.specs.Session.Reads.{ReadsData, keys_of}
use Rattle.nd_model.specs.Cells.Session.{lookup}
use Rattle.nd_notebook.specs.Readers.{AreAll, IsBlockRead, IsLast, IsNameRead, ReadsBase, SetsName, TellsReads, WritesFor, run_at}
use Rattle.nd_notebook.specs.Readers as readers
use Rattle.nd_notebook.specs.ReadsShown.{block_of, name_of, reads_told}
use Rattle.nd_notebook.specs.declared.query.QueryFault as declared
use Rattle.nd_notebook.specs.declared.query.QueryFault.TheVariants as faults
use Rattle.nd_notebook.specs.declared.reading.BlockRead.{BlockRead}
use Rattle.nd_notebook.specs.declared.reading.CellReads.{CellReads}
use Rattle.nd_notebook.specs.declared.reading.NameRead.{NameRead}
use Rattle.nd_notebook.proofs.Entries.{base_entry, byte_base, entry_base, entry_name, is_some-map, name_entry}
use Rattle.nd_notebook.proofs.LastPlaces.{last_is_one}
use Rattle.nd_notebook.proofs.Listing.{Adds, adds_more, all_added, all_added_twice, noted, notes_nothing}

-- ---- who wrote what was read

pub writes_by : (reader writer : Record) (r : ReadsData) (c : ChangesData) (b : Base) (makes writes : Bool) → keys_of r ≡ reader.read → writes_in c ≡ writer.effects.writes
    → IsTrue makes ↔ (b.label ≡ writer.label) → makes ≡ false → IsTrue writes ↔ ((p : ℕ) × IsTrue (keys_of r (Byte b p)) × IsTrue (is_some (writes_in c b p))) → IsTrue writes ↔ WritesFor reader b writer
writes_by reader writer r c b makes writes reads wrote makes_if other writes_if = (
  λ h. let w = writes_if.0 h in inr (w.0, sym (ap (λ f. f (Byte b w.0)) reads) ∙ w.1, sym (ap (λ f. is_some (f b w.0)) wrote) ∙ w.2),
  λ h. elim h [
    | inl made ↦ absurd (both_ways makes other (makes_if.1 made))
    | inr w ↦ writes_if.1 (w.0, ap (λ f. f (Byte b w.0)) reads ∙ w.1, ap (λ f. is_some (f b w.0)) wrote ∙ w.2)
  ],
)

-- ---- names

-- what is told of the name at a place among those that were read
abbrev pub NameAt : Book → ℕ → ReadsData → ℕ → List ℕ × Option ℕ → Type 0
NameAt b at r k n = (option_map (λ (e : List ℕ × Option Value). e.0) (slice_get r.names k) ≡ Some n.0) × IsLast (λ j. SetsName n.0 (run_at b j)) at n.1

same_cells : (x y : Option ℕ) → Decides (option_eq nat_eq x y) (x ≡ y)
same_cells None None = (λ h. refl, λ h. refl)
same_cells None (Some k) = (λ h. absurd (false≢true h), λ h. absurd (none-some k h))
same_cells (Some j) None = (λ h. absurd (false≢true h), λ h. absurd (none-some j (sym h)))
same_cells (Some j) (Some k) = (λ h. ap Some ((Decides-eqb j k).0 h), λ h. (Decides-eqb j k).1 (same_Some j k h))

pub same_names : (y x : NameRead) → Decides (bytes_eq y.name.now x.name.now && option_eq nat_eq y.cell x.cell) (name_of y ≡ name_of x)
same_names y x = (
  λ h.
      let p = and_parts (bytes_eq y.name.now x.name.now) (option_eq nat_eq y.cell x.cell) h in
      let name = (bytes_eq-Decides y.name.now x.name.now).0 p.0 in
      let cell = (same_cells y.cell x.cell).0 p.1 in
      λ i. (name i, cell i),
  λ e. and_from (bytes_eq y.name.now x.name.now) (option_eq nat_eq y.cell x.cell) ((bytes_eq-Decides y.name.now x.name.now).1 (λ i. (e i).0)) ((same_cells y.cell x.cell).1 (λ i. (e i).1)),
)

pub name_more : (b : Book) (at : ℕ) (r : ReadsData) (k : ℕ) (x : NameRead) (test : NameRead → Bool) (old new : List NameRead)
    → option_map (λ (e : List ℕ × Option Value). e.0) (slice_get r.names k) ≡ Some x.name.now → IsLast (λ j. SetsName x.name.now (run_at b j)) at x.cell
    → ((y : NameRead) → Decides (test y) (name_of y ≡ name_of x)) → new ≡ cond (list_any test old) old (old ++ x ∷ [])
    → Adds (NameAt b at r) k [] (map name_of old) → Adds (NameAt b at r) (k + 1) [] (map name_of new)
name_more b at r k x test old new there last tells grows so_far =
    adds_more (NameAt b at r) (NameAt b at r k) k [] (map name_of old) (map name_of new) (λ n. (λ h. h, λ h. h)) so_far
    (noted name_of (NameAt b at r k) x test old new (there, last) one tells grows)
  where
    one : (n : List ℕ × Option ℕ) → NameAt b at r k n → n ≡ name_of x
    one n h =
        let name : n.0 ≡ x.name.now = same_Some n.0 x.name.now (sym h.0 ∙ there) in
        let cell : n.1 ≡ x.cell = last_is_one (λ j. SetsName x.name.now (run_at b j)) at n.1 x.cell (subst (λ m. IsLast (λ j. SetsName m (run_at b j)) at n.1) name h.1) last in
        λ i. (name i, cell i)

pub names_told : (b : Book) (at : ℕ) (r : ReadsData) (count : ℕ) (names : List NameRead) → keys_of r ≡ (run_at b at).read → count ≡ length r.names
    → Adds (NameAt b at r) count [] (map name_of names) → AreAll (IsNameRead b at) (map name_of names)
names_told b at r count names reads many = all_added (NameAt b at r) (IsNameRead b at) count (map name_of names)
    (λ n t. (sym (ap (λ f. f (Name n.0)) reads) ∙ is_some-map Bound (lookup n.0 r.names) ∙ entry_name r.names t.0 n.0 t.2.0, t.2.1))
    (λ n p.
    let t = name_entry r.names n.0 (sym (is_some-map Bound (lookup n.0 r.names)) ∙ ap (λ f. f (Name n.0)) reads ∙ p.0) in
    (t.0, omega (arith, t.1, many), (t.2, p.1)))

-- ---- inputs

abbrev pub InputAt : ReadsData → ℕ → List ℕ → Type 0
InputAt r k n = option_map (λ (e : List ℕ × Option Source). e.0) (slice_get r.inputs k) ≡ Some n

pub input_more : {S : Type 0} (view : S → List ℕ) (r : ReadsData) (k : ℕ) (x : S) (test : S → Bool) (old new : List S) → InputAt r k (view x)
    → ((y : S) → Decides (test y) (view y ≡ view x)) → new ≡ cond (list_any test old) old (old ++ x ∷ [])
    → Adds (InputAt r) k [] (map view old) → Adds (InputAt r) (k + 1) [] (map view new)
input_more view r k x test old new there tells grows so_far =
    adds_more (InputAt r) (InputAt r k) k [] (map view old) (map view new) (λ n. (λ h. h, λ h. h)) so_far
    (noted view (InputAt r k) x test old new there (λ n h. same_Some n (view x) (sym h ∙ there)) tells grows)

pub inputs_told : (run : Record) (r : ReadsData) (count : ℕ) (inputs : List (List ℕ)) → keys_of r ≡ run.read → count ≡ length r.inputs
    → Adds (InputAt r) count [] inputs → AreAll (λ n. IsTrue (run.read (Input n))) inputs
inputs_told run r count inputs reads many = all_added (InputAt r) (λ n. IsTrue (run.read (Input n))) count inputs
    (λ n t. sym (ap (λ f. f (Input n)) reads) ∙ is_some-map Given (lookup n r.inputs) ∙ entry_name r.inputs t.0 n t.2)
    (λ n p.
    let t = name_entry r.inputs n (sym (is_some-map Given (lookup n r.inputs)) ∙ ap (λ f. f (Input n)) reads ∙ p) in
    (t.0, omega (arith, t.1, many), t.2))

-- ---- blocks

-- what is told of the base at a place among those of which bytes were noted, and among those whose length was read
abbrev pub BytesAt : Book → ℕ → ReadsData → ℕ → readers.BlockRead → Type 0
BytesAt b at r k d = (i : IsBlockRead b at d) × ((p : ℕ) × IsTrue (keys_of r (Byte i.base p))) × (option_map (λ (e : Base × Found). e.0) (slice_get r.bytes k) ≡ Some i.base)

abbrev pub LengthAt : Book → ℕ → ReadsData → ℕ → readers.BlockRead → Type 0
LengthAt b at r k d = (i : IsBlockRead b at d) × (option_map (λ (e : Base × ℕ). e.0) (slice_get r.lengths k) ≡ Some i.base)

pub same_blocks : (y x : BlockRead) → Decides (option_eq nat_eq y.maker x.maker && (nat_eq y.number x.number && option_eq nat_eq y.writer x.writer)) (block_of y ≡ block_of x)
same_blocks y x = (
  λ h.
      let p = and_parts (option_eq nat_eq y.maker x.maker) (nat_eq y.number x.number && option_eq nat_eq y.writer x.writer) h in
      let q = and_parts (nat_eq y.number x.number) (option_eq nat_eq y.writer x.writer) p.1 in
      let maker = (same_cells y.maker x.maker).0 p.0 in
      let number = (Decides-eqb y.number x.number).0 q.0 in
      let writer = (same_cells y.writer x.writer).0 q.1 in
      λ i. record { maker = maker i; number = number i; writer = writer i },
  λ e. and_from (option_eq nat_eq y.maker x.maker) (nat_eq y.number x.number && option_eq nat_eq y.writer x.writer) ((same_cells y.maker x.maker).1 (λ i. (e i).maker))
      (and_from (nat_eq y.number x.number) (option_eq nat_eq y.writer x.writer) ((Decides-eqb y.number x.number).1 (λ i. (e i).number)) ((same_cells y.writer x.writer).1 (λ i. (e i).writer))),
)

-- a base is told in one way
pub told_once : (b : Book) (at : ℕ) (x y : readers.BlockRead) (i : IsBlockRead b at x) (j : IsBlockRead b at y) → i.base ≡ j.base → x ≡ y
told_once b at x y i j same =
    let maker = last_is_one (λ k. j.base.label ≡ (run_at b k).label) at x.maker y.maker (subst (λ (c : Base). IsLast (λ k. c.label ≡ (run_at b k).label) at x.maker) same i.maker) j.maker in
    let number : x.number ≡ y.number = i.number ∙ ap (λ (c : Base). c.number) same ∙ sym j.number in
    let writer = last_is_one (λ k. WritesFor (run_at b at) j.base (run_at b k)) at x.writer y.writer (subst (λ (c : Base). IsLast (λ k. WritesFor (run_at b at) c (run_at b k)) at x.writer) same i.writer) j.writer in
    λ t. record { maker = maker t; number = number t; writer = writer t }

abbrev pub block_told : (b : Book) (at : ℕ) (base : Base) (x : BlockRead) → ReadsBase (run_at b at) base → IsLast (λ k. base.label ≡ (run_at b k).label) at x.maker → x.number ≡ base.number
    → IsLast (λ k. WritesFor (run_at b at) base (run_at b k)) at x.writer → IsBlockRead b at (block_of x)
block_told b at base x reads maker number writer = record { base = base; read = reads; maker = maker; number = number; writer = writer }

pub bytes_more : (b : Book) (at : ℕ) (r : ReadsData) (k : ℕ) (base : Base) (x : BlockRead) (test : BlockRead → Bool) (old new : List BlockRead) → keys_of r ≡ (run_at b at).read
    → option_map (λ (e : Base × Found). e.0) (slice_get r.bytes k) ≡ Some base → ((p : ℕ) × IsTrue (keys_of r (Byte base p)))
    → IsLast (λ k. base.label ≡ (run_at b k).label) at x.maker → x.number ≡ base.number → IsLast (λ k. WritesFor (run_at b at) base (run_at b k)) at x.writer
    → ((y : BlockRead) → Decides (test y) (block_of y ≡ block_of x)) → new ≡ cond (list_any test old) old (old ++ x ∷ [])
    → Adds (BytesAt b at r) k [] (map block_of old) → Adds (BytesAt b at r) (k + 1) [] (map block_of new)
bytes_more b at r k base x test old new reads there byte maker number writer tells grows so_far =
    let is : IsBlockRead b at (block_of x) = block_told b at base x (inr (byte.0, sym (ap (λ f. f (Byte base byte.0)) reads) ∙ byte.1)) maker number writer in
    adds_more (BytesAt b at r) (BytesAt b at r k) k [] (map block_of old) (map block_of new) (λ n. (λ h. h, λ h. h)) so_far
    (noted block_of (BytesAt b at r k) x test old new (is, byte, there) (λ d h. told_once b at d (block_of x) h.0 is (same_Some h.0.base base (sym h.2 ∙ there))) tells grows)

pub bytes_not_read : (b : Book) (at : ℕ) (r : ReadsData) (k : ℕ) (base : Base) (blocks : List readers.BlockRead) (reads : Bool)
    → option_map (λ (e : Base × Found). e.0) (slice_get r.bytes k) ≡ Some base → IsTrue reads ↔ ((p : ℕ) × IsTrue (keys_of r (Byte base p))) → reads ≡ false
    → Adds (BytesAt b at r) k [] blocks → Adds (BytesAt b at r) (k + 1) [] blocks
bytes_not_read b at r k base blocks reads there reads_if unread so_far =
    adds_more (BytesAt b at r) (BytesAt b at r k) k [] blocks blocks (λ n. (λ h. h, λ h. h)) so_far
    (notes_nothing (BytesAt b at r k) blocks (λ d h. both_ways reads unread (reads_if.1 (subst (λ (c : Base). (p : ℕ) × IsTrue (keys_of r (Byte c p))) (same_Some h.0.base base (sym h.2 ∙ there)) h.1))))

pub length_more : (b : Book) (at : ℕ) (r : ReadsData) (k : ℕ) (base : Base) (x : BlockRead) (test : BlockRead → Bool) (first : List readers.BlockRead) (old new : List BlockRead) → keys_of r ≡ (run_at b at).read
    → option_map (λ (e : Base × ℕ). e.0) (slice_get r.lengths k) ≡ Some base
    → IsLast (λ k. base.label ≡ (run_at b k).label) at x.maker → x.number ≡ base.number → IsLast (λ k. WritesFor (run_at b at) base (run_at b k)) at x.writer
    → ((y : BlockRead) → Decides (test y) (block_of y ≡ block_of x)) → new ≡ cond (list_any test old) old (old ++ x ∷ [])
    → Adds (LengthAt b at r) k first (map block_of old) → Adds (LengthAt b at r) (k + 1) first (map block_of new)
length_more b at r k base x test first old new reads there maker number writer tells grows so_far =
    let read : (run_at b at).read (Length base) ≡ true = sym (ap (λ f. f (Length base)) reads) ∙ is_some-map Number (lookup_base base r.lengths) ∙ entry_base r.lengths k base there in
    let is : IsBlockRead b at (block_of x) = block_told b at base x (inl read) maker number writer in
    adds_more (LengthAt b at r) (LengthAt b at r k) k first (map block_of old) (map block_of new) (λ n. (λ h. h, λ h. h)) so_far
    (noted block_of (LengthAt b at r k) x test old new (is, there) (λ d h. told_once b at d (block_of x) h.0 is (same_Some h.0.base base (sym h.1 ∙ there))) tells grows)

pub blocks_told : (b : Book) (at : ℕ) (r : ReadsData) (bytes lengths : ℕ) (mid blocks : List readers.BlockRead) → keys_of r ≡ (run_at b at).read → bytes ≡ length r.bytes → lengths ≡ length r.lengths
    → Adds (BytesAt b at r) bytes [] mid → Adds (LengthAt b at r) lengths mid blocks → AreAll (IsBlockRead b at) blocks
blocks_told b at r bytes lengths mid blocks reads many more =
    all_added_twice (BytesAt b at r) (LengthAt b at r) (IsBlockRead b at) bytes lengths mid blocks (λ d s. s.2.0) (λ d t. t.2.0) full
  where
    full : (d : readers.BlockRead) → IsBlockRead b at d → ((k : ℕ) × (k < bytes) × BytesAt b at r k d) ⊎ ((k : ℕ) × (k < lengths) × LengthAt b at r k d)
    full d i = elim i.read [
      | inl length_read ↦
          let t = base_entry r.lengths i.base (sym (is_some-map Number (lookup_base i.base r.lengths)) ∙ ap (λ f. f (Length i.base)) reads ∙ length_read) in
          inr (t.0, omega (arith, t.1, more), (i, t.2))
      | inr byte ↦
          let found = ap (λ f. f (Byte i.base byte.0)) reads ∙ byte.1 in
          let t = base_entry r.bytes i.base (byte_base (lookup_base i.base r.bytes) byte.0 (sym (is_some-map Number (byte_at (lookup_base i.base r.bytes) byte.0)) ∙ found)) in
          inl (t.0, omega (arith, t.1, many), (i, (byte.0, found), t.2))
    ]

-- ---- the answer

pub reads_wanted : (b : Book) (at : ℕ) (r : Result CellReads declared.QueryFault) → at < count_of b → IsErrAnd r (λ e. e ≡ faults.Memory out_of_memory) → TellsReads b at (reads_told r)
reads_wanted b at (Ok x) lt h = elim h [ ]
reads_wanted b at (Err e) lt h = subst (λ (f : declared.QueryFault). TellsReads b at (reads_told (Err f))) (sym h) lt
