-- What traces stand for.
use Rattle.std.proofs.Common.{◌≡◌, ℕ, Bool, true, false, not, ◌||◌, ◌&&◌, cond, nat_eq, bytes_eq, List, [], ◌∷◌, ◌++◌, map, string_bytes, String, None, Option, Some, inl, inr, slice_get, zero, suc, ◌≤◌, length, Global, ap, ap₂, ◌∙◌, sym, refl, arith}
use mathlib.Core.Path.{fun_ext}
use Rattle.std.specs.Prelude.{nat_lt, string_eq}
use Rattle.std.specs.List.{list_any, IsDistinct, AllByRecursion}
use Rattle.std.proofs.lemmas.Bool.{cases_Bool, false≢true}
use Rattle.std.proofs.lemmas.Bool.Decides.{nat_tests, same_from_decides}
use Rattle.std.proofs.lemmas.List.{map-append}
use Rattle.std.proofs.lemmas.Slice.Eq.{bytes_eq-Decides}
use Rattle.indexmap.specs.IndexSet.{insert_key}
use Rattle.nd_marks.specs.Marks.{Places}
use Rattle.nd_model.specs.Cells.Session.{is_in}
use Rattle.nd_model.specs.Cells.Session as session
use Rattle.nd_model.specs.Arrays.Value as model
use Rattle.nd_model.specs.Cells.Running.{Key, Name, Input, Length, Byte, OfRule}
use Rattle.nd_model.specs.Cells.Running as running
use Rattle.nd_heap.specs.declared.value.Base.{Base}
use Rattle.nd_heap.specs.Values.{base_of}
use Rattle.nd_trace.specs.Seen.{Seen}
use Rattle.nd_heap.specs.Live.{is_base_among}
use Rattle.nd_trace.specs.Marked.{is_among, is_marked, is_read}
use Rattle.nd_trace.specs.Traced.{trace_of}
use Rattle.nd_trace.specs.Noted.{unread_base, unread_in, with_length, with_text}
use Rattle.nd_model.specs.Cells.Storing.{having_written}
use Rattle.nd_heap.proofs.Bases.{base_eq, base_eq_sym}
use Rattle.nd_trace.proofs.Noting.{noted, noted_none, name_more, name_there, input_more, input_there, length_more, length_there, bytes_more, written_more}

pub bytes_eq_sym : (m n : List ℕ) → bytes_eq m n ≡ bytes_eq n m
bytes_eq_sym m n = same_from_decides (bytes_eq m n) (bytes_eq n m) (bytes_eq-Decides m n) (let d = bytes_eq-Decides n m in (λ h. sym (d.0 h), λ e. d.1 (sym e)))

pub or_right : (x y : Bool) → y ≡ true → (x || y) ≡ true
or_right true y h = refl
or_right false y h = h

-- a text is among the keys
pub found_text : (n : List ℕ) (ks : List (String Global)) → is_among (map string_bytes ks) n ≡ list_any (λ k. bytes_eq n (string_bytes k)) ks
found_text n [] = refl
found_text n (k ∷ ks) = ap₂ (λ a b. a || b) (bytes_eq_sym (string_bytes k) n) (found_text n ks)

pub found_base : (b : Base) (ks : List Base) → is_base_among (map base_of ks) (base_of b) ≡ list_any (base_eq b) ks
found_base b [] = refl
found_base b (k ∷ ks) = ap₂ (λ x y. x || y) (base_eq_sym k b) (found_base b ks)

-- a key that is not there goes last
pub text_more : (n : List ℕ) (k : String Global) (ks ls : List (String Global)) → string_bytes k ≡ n → list_any (λ k. bytes_eq n (string_bytes k)) ks ≡ false → ls ≡ insert_key string_eq ks k
    → map string_bytes ls ≡ map string_bytes ks ++ n ∷ []
text_more n k ks ls is new set =
    let absent : list_any (string_eq k) ks ≡ false = ap (λ n. list_any (λ l. bytes_eq n (string_bytes l)) ks) is ∙ new in
    ap (map string_bytes) (set ∙ ap (λ t. cond t ks (ks ++ k ∷ [])) absent) ∙ map-append string_bytes ks (k ∷ []) ∙ ap (λ n. map string_bytes ks ++ n ∷ []) is

pub base_more : (b : Base) (ks ls : List Base) → list_any (base_eq b) ks ≡ false → ls ≡ insert_key base_eq ks b → map base_of ls ≡ map base_of ks ++ base_of b ∷ []
base_more b ks ls new set = ap (map base_of) (set ∙ ap (λ t. cond t ks (ks ++ b ∷ [])) new) ∙ map-append base_of ks (b ∷ [])

-- past the last
none_at : {X Y : Type 0} (f : X → Y) (xs : List X) (i : ℕ) → length xs ≤ i → None ≡ slice_get (map f xs) i
none_at f [] i h = refl
none_at f (x ∷ xs) zero h = absurd (omega arith)
none_at f (x ∷ xs) (suc i) h = none_at f xs i (omega arith)

pub none_past : {X Y : Type 0} (f : X → Y) (xs ys : List X) (i : ℕ) → false ≡ nat_lt i (length ys) → ys ≡ xs → None ≡ slice_get (map f xs) i
none_past f xs ys i past same = none_at f xs i (le_of (length xs) i (sym (past ∙ ap (λ ys. nat_lt i (length ys)) same)))
  where
    le_of : (n i : ℕ) → nat_lt i n ≡ false → n ≤ i
    le_of n i h = grind (arith, nat_tests, h)

-- nothing is read and done
reads_none : (k : Key) → is_read [] [] [] [] k ≡ false
reads_none (Name n) = refl
reads_none (Input n) = refl
reads_none (Length b) = refl
reads_none (Byte b p) = refl
reads_none OfRule = refl

pub nothing_seen : (t : Seen) → t.events ≡ [] → t.written ≡ [] → t.looked ≡ [] → t.asked ≡ [] → t.lengths ≡ [] → t.used ≡ [] → trace_of t ≡ running.start t.label session.no_session
nothing_seen t events written looked asked lengths used =
    (λ i. trace_of (record { label = t.label; events = events i; written = written i; looked = looked i; asked = asked i; lengths = lengths i; used = used i; room = t.room }))
    ∙ ap (λ f. record (running.start t.label session.no_session) { read = f }) (fun_ext reads_none)

-- each text once, each base once
pub texts_once : (ks : List (String Global)) → IsDistinct string_eq ks → IsDistinct bytes_eq (map string_bytes ks)
unfolding IsDistinct
texts_once [] h = tt
texts_once (k ∷ ks) h = (others ks h.0, texts_once ks h.1)
  where
    others : (ks : List (String Global)) → AllByRecursion (λ l. string_eq k l ≡ false) ks → AllByRecursion (λ m. bytes_eq (string_bytes k) m ≡ false) (map string_bytes ks)
    others [] h = tt
    others (l ∷ ks) h = (h.0, others ks h.1)

pub bases_once : (ks : List Base) → IsDistinct base_eq ks → IsDistinct model.same_base (map base_of ks)
unfolding IsDistinct
bases_once [] h = tt
bases_once (k ∷ ks) h = (others ks h.0, bases_once ks h.1)
  where
    others : (ks : List Base) → AllByRecursion (λ l. base_eq k l ≡ false) ks → AllByRecursion (λ m. model.same_base (base_of k) m ≡ false) (map base_of ks)
    others [] h = tt
    others (l ∷ ks) h = (h.0, others ks h.1)

pub first_false : (x y : Bool) → (x || y) ≡ false → x ≡ false
first_false false y h = refl
first_false true y h = h

kept : {X : Type 0} (x y : Bool) (a b : X) → (x || y) ≡ true → cond x a (cond y a b) ≡ a
kept true y a b h = refl
kept false y a b h = ap (λ y. cond y a b) h

added : {X : Type 0} (x y : Bool) (a b : X) → (x || y) ≡ false → cond x a (cond y a b) ≡ b
added true y a b h = absurd (false≢true (sym h))
added false y a b h = ap (λ y. cond y a b) h

pub and_true : (x : Bool) → x ≡ (x && not false)
and_true true = refl
and_true false = refl

module _ (t : Seen) where
  pub looks_up : (n : List ℕ) (looked : List (List ℕ)) → running.is_touched n t.events ≡ false → looked ≡ t.looked ++ n ∷ []
      → trace_of (record t { looked = looked }) ≡ running.having_read (running.is_name n) (trace_of t)
  looks_up n looked other more = ap (λ looked. trace_of (record t { looked = looked })) more
      ∙ noted (running.is_name n) (trace_of t) _ (name_more t.looked t.asked t.lengths t.used (running.is_own (trace_of t)) n other)

  pub looked_up_before : (n : List ℕ) → (running.is_touched n t.events || is_among t.looked n) ≡ true → trace_of t ≡ running.having_read (running.is_name n) (trace_of t)
  looked_up_before n h = noted (running.is_name n) (trace_of t) _ (name_there t.looked t.asked t.lengths t.used (running.is_own (trace_of t)) n h)

  pub asks : (n : List ℕ) (asked : List (List ℕ)) → asked ≡ t.asked ++ n ∷ []
      → trace_of (record t { asked = asked }) ≡ running.having_read (running.is_input n) (trace_of t)
  asks n asked more = ap (λ asked. trace_of (record t { asked = asked })) more
      ∙ noted (running.is_input n) (trace_of t) _ (input_more t.looked t.asked t.lengths t.used (running.is_own (trace_of t)) n (λ m. refl))

  pub asked_before : (n : List ℕ) → is_among t.asked n ≡ true → trace_of t ≡ running.having_read (running.is_input n) (trace_of t)
  asked_before n h = noted (running.is_input n) (trace_of t) _ (input_there t.looked t.asked t.lengths t.used (running.is_own (trace_of t)) n h)

  pub reads_length : (b : Base) (lengths : List model.Base) → nat_eq b.label t.label ≡ false → lengths ≡ t.lengths ++ base_of b ∷ []
      → trace_of (record t { lengths = lengths }) ≡ running.having_read (running.is_length (base_of b)) (trace_of t)
  reads_length b lengths other more = ap (λ lengths. trace_of (record t { lengths = lengths })) more
      ∙ noted (running.is_length (base_of b)) (trace_of t) _ (length_more t.looked t.asked t.lengths t.used (running.is_own (trace_of t)) (base_of b) other)

  pub length_before : (b : Base) → (nat_eq b.label t.label || is_base_among t.lengths (base_of b)) ≡ true → trace_of t ≡ running.having_read (running.is_length (base_of b)) (trace_of t)
  length_before b h = noted (running.is_length (base_of b)) (trace_of t) _ (length_there t.looked t.asked t.lengths t.used (running.is_own (trace_of t)) (base_of b) h)

  pub uses : (b : Base) (ps : List ℕ) (used : List (model.Base × Places)) (except : ℕ → Bool) → nat_eq b.label t.label ≡ false → ((p : ℕ) → except p ≡ is_marked t.written (base_of b) p)
      → ((c : model.Base) (p : ℕ) → is_marked used c p ≡ (is_marked t.used c p || (model.same_base (base_of b) c && (is_in p ps && not (except p)))))
      → trace_of (record t { used = used }) ≡ running.having_read (running.is_byte (base_of b) ps) (trace_of t)
  uses b ps used except other is marked = noted (running.is_byte (base_of b) ps) (trace_of t) _
      (bytes_more t.looked t.asked t.lengths t.used (running.is_own (trace_of t)) (base_of b) ps used except
      (λ p. ap (λ o. o || is_marked t.written (base_of b) p) other ∙ sym (is p)) marked)

  -- a text is noted once
  pub named : (n : List ℕ) (looked : List (List ℕ)) → looked ≡ cond (running.is_touched n t.events) t.looked (with_text n t.looked)
      → trace_of (record t { looked = looked }) ≡ running.having_read (running.is_name n) (trace_of t)
  named n looked is = elim (cases_Bool (running.is_touched n t.events || is_among t.looked n)) [
    | inl there ↦ ap (λ looked. trace_of (record t { looked = looked })) (is ∙ kept (running.is_touched n t.events) (is_among t.looked n) t.looked (t.looked ++ n ∷ []) there) ∙ looked_up_before n there
    | inr new ↦ looks_up n looked (first_false (running.is_touched n t.events) (is_among t.looked n) new) (is ∙ added (running.is_touched n t.events) (is_among t.looked n) t.looked (t.looked ++ n ∷ []) new)
  ]

  pub asked_for : (n : List ℕ) (asked : List (List ℕ)) → asked ≡ with_text n t.asked → trace_of (record t { asked = asked }) ≡ running.having_read (running.is_input n) (trace_of t)
  asked_for n asked is = elim (cases_Bool (is_among t.asked n)) [
    | inl there ↦ ap (λ asked. trace_of (record t { asked = asked })) (is ∙ ap (λ x. cond x t.asked (t.asked ++ n ∷ [])) there) ∙ asked_before n there
    | inr new ↦ asks n asked (is ∙ ap (λ x. cond x t.asked (t.asked ++ n ∷ [])) new)
  ]

  -- the length of a base is noted once
  pub length_noted : (b : model.Base) (lengths : List model.Base) → lengths ≡ with_length (unread_base t b) t.lengths
      → trace_of (record t { lengths = lengths }) ≡ running.having_read (running.is_length b) (trace_of t)
  length_noted b lengths is = elim (cases_Bool (nat_eq b.label t.label || is_base_among t.lengths b)) [
    | inl there ↦
        ap (λ lengths. trace_of (record t { lengths = lengths })) (is ∙ ap (λ x. with_length (cond x None (Some b)) t.lengths) there)
        ∙ noted (running.is_length b) (trace_of t) _ (length_there t.looked t.asked t.lengths t.used (running.is_own (trace_of t)) b there)
    | inr new ↦
        ap (λ lengths. trace_of (record t { lengths = lengths })) (is ∙ ap (λ x. with_length (cond x None (Some b)) t.lengths) new)
        ∙ noted (running.is_length b) (trace_of t) _ (length_more t.looked t.asked t.lengths t.used (running.is_own (trace_of t)) b (first_false (nat_eq b.label t.label) (is_base_among t.lengths b) new))
  ]

  pub length_of_value : (v : Option model.Value) (lengths : List model.Base) → lengths ≡ with_length (unread_in t v) t.lengths
      → trace_of (record t { lengths = lengths }) ≡ running.having_read (running.is_length_of v) (trace_of t)
  length_of_value None lengths is = noted_none (running.is_length_of None) (trace_of t) _ (λ k. refl) (ap (λ ls. trace_of (record t { lengths = ls })) is)
  length_of_value (Some (model.Int n)) lengths is = noted_none (running.is_length_of (Some (model.Int n))) (trace_of t) _ (λ k. refl) (ap (λ ls. trace_of (record t { lengths = ls })) is)
  length_of_value (Some (model.Truth b)) lengths is = noted_none (running.is_length_of (Some (model.Truth b))) (trace_of t) _ (λ k. refl) (ap (λ ls. trace_of (record t { lengths = ls })) is)
  length_of_value (Some (model.Scalar e n)) lengths is = noted_none (running.is_length_of (Some (model.Scalar e n))) (trace_of t) _ (λ k. refl) (ap (λ ls. trace_of (record t { lengths = ls })) is)
  length_of_value (Some (model.Array b g)) lengths is = length_noted b lengths is
  length_of_value (Some (model.Row b g)) lengths is = length_noted b lengths is

  -- bytes are written, and the length of their base is read
  pub writes : (b : model.Base) (ps : List ℕ) (m : ℕ → Bool) (written : List (model.Base × Places)) (lengths : List model.Base) → ((p : ℕ) → m p ≡ is_in p ps)
      → ((c : model.Base) (p : ℕ) → is_marked written c p ≡ (is_marked t.written c p || (model.same_base b c && m p))) → lengths ≡ with_length (unread_base t b) t.lengths
      → trace_of (record t { written = written; lengths = lengths }) ≡ having_written b ps (trace_of t)
  writes b ps m written lengths is marked long =
      written_more b ps (trace_of t) (trace_of (record t { lengths = lengths })) (is_marked written) (λ p. false) (length_noted b lengths long) (λ p. refl)
      (λ c p. marked c p ∙ ap (λ x. is_marked t.written c p || (model.same_base b c && x)) (is p ∙ and_true (is_in p ps)))
