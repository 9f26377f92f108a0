-- What a change becomes behind two runs that bind the same names to the same values.
use Rattle.std.proofs.Common.{◌≡◌, ◌⊎◌, ◌&&◌, ℕ, ◌<◌, ◌+◌, true, false, cond, nat_eq, List, [], ◌∷◌, ◌++◌, map, take, length, slice_index, get_or, Option, Some, None, option_map, eqb-true, refl, sym, ap, ap₂, ◌∙◌, inl, inr, arith}
use Rattle.std.specs.List.{AllByRecursion}
use Rattle.std.specs.Map.{lookup as find}
use Rattle.std.proofs.lemmas.Bool.{cases_Bool}
use Rattle.std.proofs.lemmas.Bool.Decides.{nat_tests}
use Rattle.std.proofs.lemmas.List.{take_more, map-append}
use Rattle.nd_change.specs.Whole.{Whole, HasBase, HasByte, HasPart, IsAsItWas, IsGone, IsOut, IsWithBoth, LeavesBase, LeavesName, LosesBase, binds_in}
use Rattle.nd_heap.specs.Live.{bytes_at}
use Rattle.nd_heap.specs.Values.{base_of}
use Rattle.nd_heap.specs.declared.value.Base.{Base}
use Rattle.nd_heap.proofs.Bases.{base_eq}
use Rattle.nd_heap.proofs.Same.{base_same, same_bases}
use Rattle.nd_marks.specs.Kept.{KeptData, kept_at}
use Rattle.std.specs.Prelude.{is_some}
use Rattle.nd_model.specs.Arrays.Value as model
use Rattle.nd_model.specs.Book.Records.{Record}
use Rattle.nd_model.specs.Cells.Footprint.{Bound, Number, replayed}
use Rattle.nd_model.specs.Cells.Running.{Name, is_touched}
use Rattle.nd_model.specs.Cells.Session.{Session, collected, is_held, lookup}
use Rattle.nd_session.specs.declared.session.found.FoundBytes.{FoundBytes}
use Rattle.nd_session.specs.Session.Change.{AreBytesNoted, HasDone, IsByteNow, IsBytewise, IsNoted, LosesSame}
use Rattle.nd_session.specs.Session.Changes.{ChangesData, bases_in, writes_in}
use Rattle.nd_session.specs.Session.Found as places
use Rattle.nd_session.specs.Session.Found.{by_base, byte_at, byte_found, bytes_of, found_at, lookup_base}
use Rattle.nd_session.proofs.session.Carrying.{IsOwnNow, bound_now, has_base, has_byte, leaves_base}
use Rattle.nd_session.proofs.session.Reading.{base_all, base_found}
use Rattle.nd_session.proofs.session.Standing.{none_before, none_some, noted_on, stays_noted}
use Rattle.nd_trace.specs.declared.trace.Event.{Event}
use Rattle.nd_trace.specs.Events.{event_of}

-- ---- events

-- as many of the one list as of the other are the same
pub same_more : {E F : Type 0} (f : E → F) (xs ys : List E) (k : ℕ) (x y : E) → k < length xs → k < length ys → x ≡ get_or xs k x → y ≡ get_or ys k y → f x ≡ f y
    → map f (take k xs) ≡ map f (take k ys) → map f (take (k + 1) xs) ≡ map f (take (k + 1) ys)
same_more {E = E} f xs ys k x y lx ly is_x is_y same before = one xs x lx is_x ∙ ap₂ (λ zs z. zs ++ z ∷ []) before same ∙ sym (one ys y ly is_y)
  where
    one : (zs : List E) (z : E) → k < length zs → z ≡ get_or zs k z → map f (take (k + 1) zs) ≡ map f (take k zs) ++ f z ∷ []
    one zs z lt is = ap (map f) (take_more zs k z lt ∙ ap (λ d. take k zs ++ d ∷ []) (sym is)) ∙ map-append f (take k zs) (z ∷ [])

-- ---- blocks that both made with the same bytes

-- a block is taken out
pub base_removed : {V A : Type 0} (f : V → A) (base : Base) (es fs : List (Base × V)) → ((q : Base) → find (base_eq q) fs ≡ cond (base_eq base q) None (find (base_eq q) es)) → (b : model.Base)
    → lookup_base b (by_base f fs) ≡ cond (model.same_base (base_of base) b) None (lookup_base b (by_base f es))
base_removed f base es fs updates b =
    let q : Base = record { label = b.label; number = b.number } in
    base_found f q fs ∙ ap (option_map f) (updates q) ∙ elim (cases_Bool (base_eq base q)) [
      | inl same ↦ rw same refl
      | inr apart ↦ rw apart (sym (base_found f q es))
    ]

module _ (label : ℕ) (one other : model.Base → List ℕ) where
  pub loses_none : (old : model.Base → Option (List ℕ)) (b : model.Base) → LosesSame label one other old old b
  loses_none old b = inl refl

  pub loses_base : (old new : model.Base → Option (List ℕ)) (c : model.Base) → c.label ≡ label → one c ≡ other c → ((b : model.Base) → new b ≡ cond (model.same_base c b) None (old b)) → (b : model.Base) → LosesSame label one other old new b
  loses_base old new c own same removed b = elim (cases_Bool (model.same_base c b)) [
    | inl is ↦
        let here : c ≡ b = Rattle.nd_heap.proofs.Same.same_bases c b is in
        inr (removed b ∙ ap (λ t. cond t None (old b)) is, sym (ap (λ (c : model.Base). c.label) here) ∙ own, sym (ap one here) ∙ same ∙ ap other here)
    | inr apart ↦ inl (removed b ∙ ap (λ t. cond t None (old b)) apart)
  ]

  pub loses_more : (old mid new : model.Base → Option (List ℕ)) → ((b : model.Base) → LosesSame label one other old mid b) → ((b : model.Base) → LosesSame label one other mid new b) → (b : model.Base) → LosesSame label one other old new b
  loses_more old mid new first second b = elim (second b) [
    | inl same ↦ elim (first b) [ inl was ↦ inl (same ∙ was) | inr gone ↦ inr (same ∙ gone.0, gone.1, gone.2) ]
    | inr gone ↦ inr gone
  ]

-- ---- single bytes to which both wrote

bytewise_on : (now : List ℕ) (one other old mid new : ℕ → Option ℕ) → IsNoted (λ p. slice_index now p) mid new → (p : ℕ) → IsBytewise now one other old mid p → IsBytewise now one other old new p
bytewise_on now one other old mid new step p h = elim h [
  | inl here ↦ inl (stays_noted (λ p. slice_index now p) mid new step p here)
  | inr out ↦ elim (step p) [ inl there ↦ inl there | inr same ↦ inr (same ∙ out.0, out.1, out.2) ]
]

bytewise_from : (now : List ℕ) (one other first old new : ℕ → Option ℕ) → IsNoted (λ p. slice_index now p) first old → (p : ℕ) → IsBytewise now one other old new p → IsBytewise now one other first new p
bytewise_from now one other first old new step p h = elim h [
  | inl here ↦ inl here
  | inr out ↦ inr (out.0, none_before (λ p. slice_index now p) first old step p out.1, out.2)
]

pub none_of_same : (x y : Option ℕ) → is_some x ≡ is_some y → y ≡ None → x ≡ None
none_of_same None y same none = refl
none_of_same (Some n) y same none = absurd (let no : true ≡ false = same ∙ ap is_some none in cc)

-- the bytes of a base are noted where some are kept
module _ (now : model.Base → List ℕ) (kept : KeptData) (c : model.Base) (old new : model.Base → ℕ → Option ℕ)
    (set : (b : model.Base) (p : ℕ) → new b p ≡ cond (model.same_base b c) (cond (is_some (kept_at kept p)) (Some (slice_index (now c) p)) None) (old b p))
    (less : (p : ℕ) → kept_at kept p ≡ None → old c p ≡ None) where
  pub part_noted : AreBytesNoted now old new
  part_noted b p = elim (cases_Bool (model.same_base b c)) [
    | inl same ↦ here (same_bases b c same) (set b p ∙ ap (λ t. cond t (cond (is_some (kept_at kept p)) (Some (slice_index (now c) p)) None) (old b p)) same) (kept_at kept p) refl
    | inr apart ↦ inr (set b p ∙ ap (λ t. cond t (cond (is_some (kept_at kept p)) (Some (slice_index (now c) p)) None) (old b p)) apart)
  ]
    where
      here : b ≡ c → new b p ≡ cond (is_some (kept_at kept p)) (Some (slice_index (now c) p)) None → (o : Option ℕ) → kept_at kept p ≡ o → (new b p ≡ Some (slice_index (now b) p)) ⊎ (new b p ≡ old b p)
      here is put None none = inr (put ∙ ap (λ o. cond (is_some o) (Some (slice_index (now c) p)) None) none ∙ sym (ap (λ b. old b p) is ∙ less p none))
      here is put (Some n) some = inl (put ∙ ap (λ o. cond (is_some o) (Some (slice_index (now c) p)) None) some ∙ ap (λ b. Some (slice_index (now b) p)) (sym is))

  pub part_now_there : (found : ℕ → Option ℕ) → ((p : ℕ) → found p ≡ kept_at kept p) → (p : ℕ) → IsByteNow (now c) found (new c) p
  part_now_there found is p = here (kept_at kept p) refl
    where
      here : (o : Option ℕ) → kept_at kept p ≡ o → IsByteNow (now c) found (new c) p
      here None none = inr (is p ∙ none)
      here (Some n) some = inl (
          set c p ∙ ap (λ t. cond t (cond (is_some (kept_at kept p)) (Some (slice_index (now c) p)) None) (old c p)) (base_same c) ∙ ap (λ o. cond (is_some o) (Some (slice_index (now c) p)) None) some
          )

  pub part_bytewise : (found other : ℕ → Option ℕ) → ((p : ℕ) → found p ≡ kept_at kept p) → ((p : ℕ) → is_some (kept_at kept p) ≡ is_some (other p)) → (p : ℕ) → IsBytewise (now c) found other (old c) (new c) p
  part_bytewise found other is offsets p = here (kept_at kept p) refl
    where
      put : new c p ≡ cond (is_some (kept_at kept p)) (Some (slice_index (now c) p)) None
      put = set c p ∙ ap (λ t. cond t (cond (is_some (kept_at kept p)) (Some (slice_index (now c) p)) None) (old c p)) (base_same c)

      here : (o : Option ℕ) → kept_at kept p ≡ o → IsBytewise (now c) found other (old c) (new c) p
      here None none = inr (
        put ∙ ap (λ o. cond (is_some o) (Some (slice_index (now c) p)) None) none,
        less p none,
        is p ∙ none ∙ sym (none_of_same (other p) (kept_at kept p) (sym (offsets p)) none),
      )
      here (Some n) some = inl (put ∙ ap (λ o. cond (is_some o) (Some (slice_index (now c) p)) None) some)

-- ---- blocks to which both wrote

-- a base has the bytes that it has now; or it is of another cell, was not in the change, and is in it by single bytes
abbrev pub IsUnlike : (now : model.Base → List ℕ) (label : ℕ) (others : model.Base → ℕ → Option ℕ) (old new : model.Base → Option (List ℕ)) (was is : model.Base → ℕ → Option ℕ) → model.Base → places.Found → Type 0
IsUnlike now label others old new was is b e = (new b ≡ Some (now b)) ⊎ ((old b ≡ None) × (nat_eq b.label label ≡ false) × ((p : ℕ) → IsBytewise (now b) (found_at e) (others b) (was b) (is b) p))

-- so it is with an entry
abbrev pub IsEntryUnlike : (now : model.Base → List ℕ) (label : ℕ) (others : model.Base → ℕ → Option ℕ) (old new : model.Base → Option (List ℕ)) (was is : model.Base → ℕ → Option ℕ) → Base × FoundBytes → Type 0
IsEntryUnlike now label others old new was is e = IsUnlike now label others old new was is (base_of e.0) (bytes_of e.1)

module _ (now : model.Base → List ℕ) (label : ℕ) (others : model.Base → ℕ → Option ℕ) (old mid new : model.Base → Option (List ℕ)) (was there is : model.Base → ℕ → Option ℕ) where
  pub still_unlike : IsNoted now mid new → AreBytesNoted now there is → (e : Base × FoundBytes) → IsEntryUnlike now label others old mid was there e → IsEntryUnlike now label others old new was is e
  still_unlike step bytes e h = elim h [
    | inl here ↦ inl (stays_noted now mid new step (base_of e.0) here)
    | inr out ↦ let b : model.Base = base_of e.0 in
        inr (out.0, out.1, λ p. bytewise_on (now b) (found_at (bytes_of e.1)) (others b) (was b) (there b) (is b) (bytes b) p (out.2 p))
  ]

  pub more_unlike : IsNoted now old mid → AreBytesNoted now was there → (e : Base × FoundBytes) → IsEntryUnlike now label others mid new there is e → IsEntryUnlike now label others old new was is e
  more_unlike step bytes e h = elim h [
    | inl here ↦ inl here
    | inr out ↦ let b : model.Base = base_of e.0 in
        inr (none_before now old mid step b out.0, out.1, λ p. bytewise_from (now b) (found_at (bytes_of e.1)) (others b) (was b) (there b) (is b) (bytes b) p (out.2 p))
  ]

-- ---- behind both runs

-- what both runs made is the same
same_own : (c d : ChangesData) → c.label ≡ d.label → c.events ≡ d.events → (b : model.Base) → bytes_at c.blocks b ≡ bytes_at d.blocks b → bases_in c b ≡ bases_in d b
same_own c d label events b bytes = λ i. cond (nat_eq b.label (label i)) (cond (is_held b (replayed (events i) [])) (bytes i) []) []

module _ (s : Session) (c e : Whole) (r q : Record) (d k : ChangesData) (was : HasDone d r) (is : HasDone k q) (label : d.label ≡ k.label) (events : d.events ≡ k.events) where
  own_test : (b : model.Base) → b.label ≡ k.label → nat_eq b.label k.label ≡ true
  own_test b own = grind (arith, nat_tests)

  -- a base of its own that both made with the same bytes
  lost_own : (b : model.Base) → b.label ≡ k.label → bytes_at d.blocks b ≡ bytes_at k.blocks b → e.blocks b ≡ None → ((p : ℕ) → HasByte e (collected s) b p ⊎ (e.bytes b p ≡ None))
      → LosesBase r q (collected s) c e b
  lost_own b own bytes out singles =
      let mine : nat_eq b.label r.label ≡ true = ap (nat_eq b.label) (was.label ∙ label) ∙ own_test b own in
      let ours : nat_eq b.label q.label ≡ true = ap (nat_eq b.label) is.label ∙ own_test b own in
      let same : r.effects.bases b ≡ q.effects.bases b = was.bases b ∙ same_own d k label events b bytes ∙ sym (is.bases b) in
      record {
        out = out;
        length = record { same = rw (mine, ours) (ap (λ bs. Some (Number (length bs))) same); rest = λ none. let put : Some (Number (length (r.effects.bases b))) ≡ None = rw mine at none in none_some _ (sym put) };
        bytes = λ p. elim (singles p) [
          | inl here ↦ inl here
          | inr none ↦ inr (none, record { same = rw (mine, ours) (ap (λ bs. Some (Number (slice_index bs p))) same); rest = λ none. let put : Some (Number (slice_index (r.effects.bases b) p)) ≡ None = rw mine at none in none_some _ (sym put) })
        ];
      }

  -- a base of another cell that is in it by single bytes, or is out of it
  lost_other : (b : model.Base) → nat_eq b.label k.label ≡ false → c.blocks b ≡ None → e.blocks b ≡ None → ((p : ℕ) → IsBytewise (s.bytes b) (writes_in d b) (writes_in k b) (c.bytes b) (e.bytes b) p)
      → LosesBase r q (collected s) c e b
  lost_other b other before out writes =
      let mine : nat_eq b.label r.label ≡ false = ap (nat_eq b.label) (was.label ∙ label) ∙ other in
      let ours : nat_eq b.label q.label ≡ false = ap (nat_eq b.label) is.label ∙ other in
      record {
        out = out;
        length = record { same = rw (mine, ours) refl; rest = λ none. ap (option_map (λ bs. Number (length bs))) before };
        bytes = λ p. elim (writes p) [
          | inl here ↦ inl (has_byte s e b p here)
          | inr gone ↦ inr (gone.0, record { same = rw (mine, ours) (ap (option_map Number) (was.writes b p ∙ gone.2 ∙ sym (is.writes b p))); rest = λ none. rw (before, gone.1) refl })
        ];
      }

  -- the names that both touch are out of the change, and bound to the same values
  names_alike : ((n : List ℕ) → e.names n ≡ cond (is_touched n k.events) None (c.names n)) → (n : List ℕ)
      → (e.names n ≡ Some (lookup n s.names)) ⊎ (((e.names n ≡ c.names n) × LeavesName (Some r) n × LeavesName (Some q) n) ⊎ ((e.names n ≡ None) × IsOut r q c (Name n)))
  names_alike less n =
      let before : r.effects.events ≡ k.events = was.events ∙ events in
      elim (cases_Bool (is_touched n k.events)) [
        | inl touched ↦
            let mine : is_touched n r.effects.events ≡ true = ap (is_touched n) before ∙ touched in
            let ours : is_touched n q.effects.events ≡ true = ap (is_touched n) is.events ∙ touched in
            inr (inr (
              less n ∙ ap (λ t. cond t None (c.names n)) touched,
              record {
                same = rw (mine, ours) (ap (λ es. Some (Bound (lookup n (replayed es [])))) (before ∙ sym is.events));
                rest = λ none. let put : Some (Bound (lookup n (replayed r.effects.events []))) ≡ None = rw mine at none in none_some _ (sym put);
              },
            ))
        | inr not ↦ inr (inl (less n ∙ ap (λ t. cond t None (c.names n)) not, ap (is_touched n) before ∙ not, ap (is_touched n) is.events ∙ not))
      ]

  module _ (bound : List Event) (before now : List (Base × FoundBytes)) (c1 c2 c3 : model.Base → Option (List ℕ)) (p1 p2 : model.Base → ℕ → Option ℕ)
      (of_events : map event_of bound ≡ k.events) (of_before : by_base bytes_of before ≡ d.written) (of_now : by_base bytes_of now ≡ k.written)
      (one : IsNoted s.bytes c.blocks c1) (own : AllByRecursion (IsOwnNow k.label s.bytes c1) bound)
      (two : (b : model.Base) → LosesSame k.label (bytes_at d.blocks) (bytes_at k.blocks) c1 c2 b)
      (three : IsNoted s.bytes c2 c3) (unlike : AllByRecursion (IsEntryUnlike s.bytes k.label (byte_found now) c2 c3 p1 p2) before)
      (four : IsNoted s.bytes c3 e.blocks) (others : AllByRecursion (IsEntryUnlike s.bytes k.label (byte_found before) c3 e.blocks p2 e.bytes) now)
      (removed : (b : model.Base) (p : ℕ) → p1 b p ≡ cond (nat_eq b.label k.label && binds_in b (map event_of bound)) None (c.bytes b p))
      (five : AreBytesNoted s.bytes p1 p2) (six : AreBytesNoted s.bytes p2 e.bytes) where
    abbrev IsBehind : model.Base → Type 0
    IsBehind b = HasBase e (collected s) b ⊎ ((IsAsItWas (collected s) c e b × LeavesBase (Some r) b × LeavesBase (Some q) b) ⊎ (HasPart (Some r) (Some q) (collected s) c e b ⊎ (LosesBase r q (collected s) c e b ⊎ IsGone q b)))

    lost : (b : model.Base) → LosesBase r q (collected s) c e b → IsBehind b
    lost b h = inr (inr (inr (inl h)))

    -- bytes are in it as they are now, or as they were once those of the bases that the cell binds were out
    bytes_noted : (b : model.Base) → IsNoted (λ p. slice_index (s.bytes b) p) (p1 b) (e.bytes b)
    bytes_noted b = noted_on (λ p. slice_index (s.bytes b) p) (p1 b) (p2 b) (e.bytes b) (five b) (six b)

    same_away : (b : model.Base) (p : ℕ) → nat_eq b.label k.label ≡ false → p1 b p ≡ c.bytes b p
    same_away b p away = removed b p ∙ ap (λ t. cond (t && binds_in b (map event_of bound)) None (c.bytes b p)) away

    here : (b : model.Base) → e.blocks b ≡ Some (s.bytes b) → IsBehind b
    here b there = inl (has_base s e b there)

    written_before : (b : model.Base) (p : ℕ) → byte_found before b p ≡ writes_in d b p
    written_before b p = ap (λ es. byte_at (lookup_base b es) p) of_before

    written_now : (b : model.Base) (p : ℕ) → byte_found now b p ≡ writes_in k b p
    written_now b p = ap (λ es. byte_at (lookup_base b es) p) of_now

    not_own : {P : Type 0} (b : model.Base) → nat_eq b.label k.label ≡ false → b.label ≡ k.label → P
    not_own b other own = absurd (let mine : nat_eq b.label k.label ≡ true = own_test b own in cc)

    -- a base of another cell that is not in the change as a whole, and to which one of them wrote
    alike : (b : model.Base) → e.blocks b ≡ c2 b → c2 b ≡ None → nat_eq b.label k.label ≡ false → ((p : ℕ) → IsBytewise (s.bytes b) (writes_in d b) (writes_in k b) (p1 b) (e.bytes b) p) → IsBehind b
    alike b stays out other writes =
        let before : c.blocks b ≡ None = elim (two b) [
          | inl same ↦ none_before s.bytes c.blocks c1 one b (sym same ∙ out)
          | inr gone ↦ not_own b other gone.1
        ] in
        lost b (lost_other b other before (stays ∙ out) (λ p. elim (writes p) [
          | inl here ↦ inl here
          | inr gone ↦ inr (gone.0, sym (same_away b p other) ∙ gone.1, gone.2)
        ]))

    -- a base of its own
    unwritten_own : (b : model.Base) → e.blocks b ≡ c2 b → nat_eq b.label k.label ≡ true → IsBehind b
    unwritten_own b stays mine = elim (cases_Bool (binds_in b (map event_of bound))) [
      | inl binds ↦ elim (two b) [
        | inl same ↦ here b (stays ∙ same ∙ bound_now s.bytes k.label c1 bound own b (eqb-true b.label k.label mine) binds)
        | inr gone ↦ lost b (lost_own b gone.1 gone.2 (stays ∙ gone.0) (λ p. elim (bytes_noted b p) [
          | inl there ↦ inl (has_byte s e b p there)
          | inr same ↦ inr (same ∙ removed b p ∙ ap₂ (λ t u. cond (t && u) None (c.bytes b p)) mine binds)
        ]))
      ]
      | inr not ↦ inr (inr (inr (inr (eqb-true b.label k.label mine ∙ sym is.label, ap (binds_in b) (is.events ∙ sym of_events) ∙ not))))
    ]

    -- a base of another cell to which neither wrote
    unwritten_away : (b : model.Base) → e.blocks b ≡ c2 b → nat_eq b.label k.label ≡ false → ((p : ℕ) → writes_in d b p ≡ None) → ((p : ℕ) → writes_in k b p ≡ None) → IsBehind b
    unwritten_away b stays away none none_now = elim (two b) [
      | inr gone ↦ not_own b away gone.1
      | inl same ↦ elim (one b) [
        | inl there ↦ here b (stays ∙ same ∙ there)
        | inr as_before ↦ inr (inl (
          record {
            block = stays ∙ same ∙ as_before;
            bytes = λ p. elim (bytes_noted b p) [ inl there ↦ inl (has_byte s e b p there) | inr was ↦ inr (was ∙ same_away b p away) ];
          },
          leaves_base d r b was (λ mine. not_own b away (mine ∙ label), none),
          leaves_base k q b is (λ mine. not_own b away mine, none_now),
        ))
      ]
    ]

    unwritten : (b : model.Base) → e.blocks b ≡ c2 b → ((p : ℕ) → writes_in d b p ≡ None) → ((p : ℕ) → writes_in k b p ≡ None) → IsBehind b
    unwritten b stays none none_now = elim (cases_Bool (nat_eq b.label k.label)) [ inl mine ↦ unwritten_own b stays mine | inr away ↦ unwritten_away b stays away none none_now ]

    blocks_alike : (b : model.Base) → IsBehind b
    blocks_alike b = elim (four b) [
      | inl there ↦ here b there
      | inr same_four ↦ elim (three b) [
        | inl there ↦ here b (same_four ∙ there)
        | inr same_three ↦ new_writes same_three (same_four ∙ same_three) (lookup_base b (by_base bytes_of now)) refl
      ]
    ]
      where
        old_writes : e.blocks b ≡ c2 b → lookup_base b (by_base bytes_of now) ≡ None → (o : Option places.Found) → lookup_base b (by_base bytes_of before) ≡ o → IsBehind b
        old_writes stays none_now None none = unwritten b stays
            (λ p. sym (written_before b p) ∙ ap (λ o. byte_at o p) none) (λ p. sym (written_now b p) ∙ ap (λ o. byte_at o p) none_now)
        old_writes stays none_now (Some f) at = elim (base_all bytes_of (IsUnlike s.bytes k.label (byte_found now) c2 c3 p1 p2) before unlike b f at) [
          | inl there ↦ here b (stays_noted s.bytes c3 e.blocks four b there)
          | inr same ↦ alike b stays same.0 same.1 (λ p. elim (bytewise_on (s.bytes b) (found_at f) (byte_found now b) (p1 b) (p2 b) (e.bytes b) (six b) p (same.2 p)) [
            | inl there ↦ inl there
            | inr gone ↦ inr (gone.0, gone.1, sym (written_before b p) ∙ ap (λ o. byte_at o p) at ∙ gone.2 ∙ written_now b p)
          ])
        ]

        new_writes : c3 b ≡ c2 b → e.blocks b ≡ c2 b → (o : Option places.Found) → lookup_base b (by_base bytes_of now) ≡ o → IsBehind b
        new_writes same_three stays None none = old_writes stays none (lookup_base b (by_base bytes_of before)) refl
        new_writes same_three stays (Some f) at = elim (base_all bytes_of (IsUnlike s.bytes k.label (byte_found before) c3 e.blocks p2 e.bytes) now others b f at) [
          | inl there ↦ here b there
          | inr same ↦ alike b stays (sym same_three ∙ same.0) same.1 (λ p. elim (bytewise_from (s.bytes b) (found_at f) (byte_found before b) (p1 b) (p2 b) (e.bytes b) (five b) p (same.2 p)) [
            | inl there ↦ inl there
            | inr gone ↦ inr (gone.0, gone.1, sym (written_before b p) ∙ sym gone.2 ∙ sym (ap (λ o. byte_at o p) at) ∙ written_now b p)
          ])
        ]

    pub with_alike : ((n : List ℕ) → e.names n ≡ cond (is_touched n k.events) None (c.names n)) → ((n : List ℕ) → e.inputs n ≡ c.inputs n) → e.rule ≡ c.rule → IsWithBoth r q (collected s) c e
    with_alike less inputs rule = record { names = names_alike less; inputs = inputs; rule = rule; blocks = blocks_alike }
