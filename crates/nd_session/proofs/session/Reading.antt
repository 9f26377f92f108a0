-- What is kept of what a cell read, by texts and by bases.
use Rattle.std.proofs.Common.{◌≡◌, ◌<◌, ◌≤◌, ℕ, zero, suc, Bool, true, false, cond, ◌&&◌, ◌||◌, bytes_eq, List, [], ◌∷◌, map, take, length, slice_get, slice_index, get_or, string_bytes, String, Global, Option, Some, None, option_map, refl, sym, ap, ap₂, subst, ◌∙◌, inl, inr, arith}
use Rattle.std.specs.Prelude.{is_some}
use Rattle.std.specs.Map.{lookup as find}
use Rattle.std.specs.List.{AllByRecursion}
use Rattle.indexmap.specs.IndexMap.{insert_entry}
use Rattle.std.proofs.lemmas.Bool.{cases_Bool, and_parts}
use Rattle.std.proofs.lemmas.Bool.Decides.{nat_tests}
use Rattle.nd_marks.specs.Marks.{Places, holds}
use Rattle.nd_model.specs.Arrays.Value as model
use Rattle.nd_model.specs.Cells.Session.{lookup}
use Rattle.nd_heap.specs.declared.value.Base.{Base}
use Rattle.nd_heap.specs.Values.{base_of}
use Rattle.nd_trace.specs.Contents.{marks_of}
use Rattle.nd_heap.specs.Live.{is_base_among}
use Rattle.nd_trace.specs.Marked.{is_among, is_marked}
use Rattle.nd_session.specs.Session.Reading.{by_text}
use Rattle.nd_session.specs.Session.Found as places
use Rattle.nd_session.specs.Session.Found.{by_base, byte_at, lookup_base}
use Rattle.nd_heap.proofs.Same.{same_bases, same_bytes, bytes_same}
use Rattle.nd_heap.proofs.Bases.{base_eq}
use Rattle.nd_trace.proofs.Places.{found_marks, found_marked}
use Rattle.nd_trace.proofs.Traces.{bytes_eq_sym, or_right}

pub or_false : (x : Bool) → (x || false) ≡ x
or_false true = refl
or_false false = refl

either : (a b c : Bool) → (a || (b || c)) ≡ ((a || b) || c)
either true b c = refl
either false b c = refl

pub same_base_sym : (a b : model.Base) → model.same_base a b ≡ model.same_base b a
same_base_sym a b = grind (arith, nat_tests)

none_some : {E P : Type 0} (e : E) → None ≡ Some e → P
none_some e h = cc

pub some_same : {E : Type 0} (d e : E) → Some d ≡ Some e → d ≡ e
some_same d e h = cc

abbrev pub text_eq : String Global → String Global → Bool
text_eq a b = bytes_eq (string_bytes a) (string_bytes b)

-- ---- one more entry

module _ {V A : Type 0} (f : V → A) where
  pub text_insert : (k : String Global) (v : V) (es : List (String Global × V)) (n : List ℕ)
      → lookup n (by_text f (insert_entry text_eq es k v)) ≡ cond (bytes_eq n (string_bytes k)) (Some (f v)) (lookup n (by_text f es))
  text_insert k v [] n = refl
  text_insert k v (e ∷ es) n = elim (cases_Bool (bytes_eq (string_bytes k) (string_bytes e.0))) [
    | inl is ↦
        let same : string_bytes k ≡ string_bytes e.0 = same_bytes (string_bytes k) (string_bytes e.0) is in
        rw is (rw same (twice (bytes_eq n (string_bytes e.0)) (Some (f v)) (Some (f e.1)) (lookup n (by_text f es))))
    | inr other ↦ rw other (elim (cases_Bool (bytes_eq n (string_bytes e.0))) [
      | inl is ↦
          let same : n ≡ string_bytes e.0 = same_bytes n (string_bytes e.0) is in
          let apart : bytes_eq n (string_bytes k) ≡ false = ap (λ m. bytes_eq m (string_bytes k)) same ∙ bytes_eq_sym (string_bytes e.0) (string_bytes k) ∙ other in
          rw (is, apart) refl
      | inr apart ↦ rw apart (text_insert k v es n)
    ])
  ]
    where
      twice : (t : Bool) (a b c : Option A) → cond t a c ≡ cond t a (cond t b c)
      twice true a b c = refl
      twice false a b c = refl

  pub base_insert : (b : Base) (v : V) (es : List (Base × V)) (c : model.Base)
      → lookup_base c (by_base f (insert_entry base_eq es b v)) ≡ cond (model.same_base c (base_of b)) (Some (f v)) (lookup_base c (by_base f es))
  base_insert b v [] c = refl
  base_insert b v (e ∷ es) c = elim (cases_Bool (base_eq b e.0)) [
    | inl is ↦ rw is (grind (arith, nat_tests, and_parts))
    | inr other ↦ rw other (grind (arith, nat_tests, base_insert b v es c))
  ]

  -- what is found
  pub text_found : (n : List ℕ) (es : List (String Global × V)) → lookup n (by_text f es) ≡ option_map f (find (λ k. bytes_eq n (string_bytes k)) es)
  text_found n [] = refl
  text_found n (e ∷ es) = elim (cases_Bool (bytes_eq n (string_bytes e.0))) [ inl is ↦ rw is refl | inr other ↦ rw other (text_found n es) ]

  pub base_found : (b : Base) (es : List (Base × V)) → lookup_base (base_of b) (by_base f es) ≡ option_map f (find (base_eq b) es)
  base_found b [] = refl
  base_found b (e ∷ es) = elim (cases_Bool (base_eq b e.0)) [ inl is ↦ rw is refl | inr other ↦ rw other (base_found b es) ]

  pub text_entry : (k : String Global) (v : V) (es : List (String Global × V)) → find (text_eq k) es ≡ Some v → lookup (string_bytes k) (by_text f es) ≡ Some (f v)
  text_entry k v es there = text_found (string_bytes k) es ∙ ap (option_map f) there

  pub base_entry : (b : Base) (v : V) (es : List (Base × V)) → find (base_eq b) es ≡ Some v → lookup_base (base_of b) (by_base f es) ≡ Some (f v)
  base_entry b v es there = base_found b es ∙ ap (option_map f) there

  -- what is true of each entry is true of what is found
  pub text_all : (Q : List ℕ → A → Type 0) (es : List (String Global × V)) → AllByRecursion (λ (e : String Global × V). Q (string_bytes e.0) (f e.1)) es
      → (n : List ℕ) (a : A) → lookup n (by_text f es) ≡ Some a → Q n a
  text_all Q [] h n a at = none_some a at
  text_all Q (e ∷ es) h n a at = elim (cases_Bool (bytes_eq n (string_bytes e.0))) [
    | inl is ↦ let here : Some (f e.1) ≡ Some a = rw is at at in
        subst (λ k. Q k a) (sym (same_bytes n (string_bytes e.0) is)) (subst (Q (string_bytes e.0)) (some_same (f e.1) a here) h.0)
    | inr other ↦ let rest : lookup n (by_text f es) ≡ Some a = rw other at at in text_all Q es h.1 n a rest
  ]

  pub base_all : (Q : model.Base → A → Type 0) (es : List (Base × V)) → AllByRecursion (λ (e : Base × V). Q (base_of e.0) (f e.1)) es
      → (b : model.Base) (a : A) → lookup_base b (by_base f es) ≡ Some a → Q b a
  base_all Q [] h b a at = none_some a at
  base_all Q (e ∷ es) h b a at = elim (cases_Bool (model.same_base b (base_of e.0))) [
    | inl is ↦ let here : Some (f e.1) ≡ Some a = rw is at at in
        subst (λ k. Q k a) (sym (same_bases b (base_of e.0) is)) (subst (Q (base_of e.0)) (some_same (f e.1) a here) h.0)
    | inr other ↦ let rest : lookup_base b (by_base f es) ≡ Some a = rw other at at in base_all Q es h.1 b a rest
  ]

-- ---- entries by their place

pub length-by_base : {V A : Type 0} (f : V → A) (es : List (Base × V)) → length (by_base f es) ≡ length es
length-by_base f [] = refl
length-by_base f (e ∷ es) = ap suc (length-by_base f es)

pub base_at : {V A : Type 0} (f : V → A) (es : List (Base × V)) (i : ℕ) (e : Base × V) → slice_get es i ≡ Some e → slice_get (by_base f es) i ≡ Some (base_of e.0, f e.1)
base_at f [] i e at = none_some e at
base_at {V} f (d ∷ es) zero e at = ap (λ (d : Base × V). Some (base_of d.0, f d.1)) (some_same d e at)
base_at f (d ∷ es) (suc i) e at = base_at f es i e at

pub length-by_text : {V A : Type 0} (f : V → A) (es : List (String Global × V)) → length (by_text f es) ≡ length es
length-by_text f [] = refl
length-by_text f (e ∷ es) = ap suc (length-by_text f es)

pub text_at : {V A : Type 0} (f : V → A) (es : List (String Global × V)) (i : ℕ) (e : String Global × V) → slice_get es i ≡ Some e → slice_get (by_text f es) i ≡ Some (string_bytes e.0, f e.1)
text_at f [] i e at = none_some e at
text_at {V} f (d ∷ es) zero e at = ap (λ (d : String Global × V). Some (string_bytes d.0, f d.1)) (some_same d e at)
text_at f (d ∷ es) (suc i) e at = text_at f es i e at

-- what is there stays there
pub is_some-map : {A B : Type 0} (f : A → B) (o : Option A) → is_some (option_map f o) ≡ is_some o
is_some-map f None = refl
is_some-map f (Some a) = refl

-- nothing stands by a base that has no entry
pub base_lacks : {V A : Type 0} (f : V → A) (b : Base) (es : List (Base × V)) → is_some (find (base_eq b) es) ≡ false → lookup_base (base_of b) (by_base f es) ≡ None
base_lacks f b es out = base_found f b es ∙ ap (option_map f) (gone (find (base_eq b) es) out)
  where
    gone : {V : Type 0} (o : Option V) → is_some o ≡ false → o ≡ None
    gone None h = refl
    gone (Some v) h = cc

-- ---- one more text or base

among_step : (ts : List (String Global)) (i : ℕ) (t : String Global) (n : List ℕ) → i < length ts → t ≡ get_or ts i t
    → is_among (map string_bytes (take (suc i) ts)) n ≡ (is_among (map string_bytes (take i ts)) n || bytes_eq (string_bytes t) n)
among_step [] i t n lt is = absurd (omega arith)
among_step (x ∷ xs) zero t n lt is = or_false (bytes_eq (string_bytes x) n) ∙ ap (λ x. bytes_eq (string_bytes x) n) (sym is)
among_step (x ∷ xs) (suc i) t n lt is = ap (λ h. bytes_eq (string_bytes x) n || h) (among_step xs i t n (omega arith) is)
    ∙ either (bytes_eq (string_bytes x) n) (is_among (map string_bytes (take i xs)) n) (bytes_eq (string_bytes t) n)

base_step : (bs : List Base) (i : ℕ) (b : Base) (c : model.Base) → i < length bs → b ≡ get_or bs i b
    → is_base_among (map base_of (take (suc i) bs)) c ≡ (is_base_among (map base_of (take i bs)) c || model.same_base (base_of b) c)
base_step [] i b c lt is = absurd (omega arith)
base_step (x ∷ xs) zero b c lt is = or_false (model.same_base (base_of x) c) ∙ ap (λ x. model.same_base (base_of x) c) (sym is)
base_step (x ∷ xs) (suc i) b c lt is = ap (λ h. model.same_base (base_of x) c || h) (base_step xs i b c (omega arith) is)
    ∙ either (model.same_base (base_of x) c) (is_base_among (map base_of (take i xs)) c) (model.same_base (base_of b) c)

module _ {A : Type 0} where
  -- one more name or input is noted
  pub text_noted : (g : List ℕ → A) (old new : List (List ℕ × A)) (ts : List (String Global)) (i : ℕ) (t : String Global) (m n : List ℕ) → i < length ts → t ≡ get_or ts i t → m ≡ string_bytes t
      → lookup n new ≡ cond (bytes_eq n m) (Some (g m)) (lookup n old) → lookup n old ≡ cond (is_among (map string_bytes (take i ts)) n) (Some (g n)) None
      → lookup n new ≡ cond (is_among (map string_bytes (take (suc i) ts)) n) (Some (g n)) None
  text_noted g old new ts i t m n lt at is noted before =
      let all = sym (ap (λ h. cond h (Some (g n)) None) (among_step ts i t n lt at)) in
      noted ∙ elim (cases_Bool (bytes_eq n m)) [
        | inl same ↦
            let e : n ≡ m = same_bytes n m same in
            let here : bytes_eq (string_bytes t) n ≡ true = ap (λ k. bytes_eq k n) (sym is ∙ sym e) ∙ bytes_same n in
            ap (λ h. cond h (Some (g m)) (lookup n old)) same ∙ ap (λ k. Some (g k)) (sym e)
            ∙ sym (ap (λ h. cond h (Some (g n)) None) (or_right (is_among (map string_bytes (take i ts)) n) _ here)) ∙ all
        | inr apart ↦
            let here : bytes_eq (string_bytes t) n ≡ false = bytes_eq_sym (string_bytes t) n ∙ ap (bytes_eq n) (sym is) ∙ apart in
            ap (λ h. cond h (Some (g m)) (lookup n old)) apart ∙ before
            ∙ sym (ap (λ h. cond h (Some (g n)) None) (ap (λ h. is_among (map string_bytes (take i ts)) n || h) here ∙ or_false _)) ∙ all
      ]

  -- one more length is noted
  pub base_noted : (g : model.Base → A) (old new : List (model.Base × A)) (bs : List Base) (i : ℕ) (b : Base) (c : model.Base) → i < length bs → b ≡ get_or bs i b
      → lookup_base c new ≡ cond (model.same_base c (base_of b)) (Some (g (base_of b))) (lookup_base c old) → lookup_base c old ≡ cond (is_base_among (map base_of (take i bs)) c) (Some (g c)) None
      → lookup_base c new ≡ cond (is_base_among (map base_of (take (suc i) bs)) c) (Some (g c)) None
  base_noted g old new bs i b c lt at noted before =
      let all = sym (ap (λ h. cond h (Some (g c)) None) (base_step bs i b c lt at)) in
      noted ∙ elim (cases_Bool (model.same_base c (base_of b))) [
        | inl same ↦
            let e : c ≡ base_of b = same_bases c (base_of b) same in
            let here : model.same_base (base_of b) c ≡ true = same_base_sym (base_of b) c ∙ same in
            ap (λ h. cond h (Some (g (base_of b))) (lookup_base c old)) same ∙ ap (λ k. Some (g k)) (sym e)
            ∙ sym (ap (λ h. cond h (Some (g c)) None) (or_right (is_base_among (map base_of (take i bs)) c) _ here)) ∙ all
        | inr apart ↦
            let here : model.same_base (base_of b) c ≡ false = same_base_sym (base_of b) c ∙ apart in
            ap (λ h. cond h (Some (g (base_of b))) (lookup_base c old)) apart ∙ before
            ∙ sym (ap (λ h. cond h (Some (g c)) None) (ap (λ h. is_base_among (map base_of (take i bs)) c || h) here ∙ or_false _)) ∙ all
      ]

-- ---- the bytes of one more base

abbrev pub entry_bases : {V : Type 0} → List (Base × V) → List model.Base
entry_bases [] = []
entry_bases (e ∷ es) = base_of e.0 ∷ entry_bases es

pub entry_step : {V : Type 0} (es : List (Base × V)) (i : ℕ) (e : Base × V) (b : model.Base) → slice_get es i ≡ Some e
    → is_base_among (entry_bases (take (suc i) es)) b ≡ (is_base_among (entry_bases (take i es)) b || model.same_base (base_of e.0) b)
entry_step [] i e b at = none_some e at
entry_step {V = V} (d ∷ es) zero e b at = or_false (model.same_base (base_of d.0) b) ∙ ap (λ (d : Base × V). model.same_base (base_of d.0) b) (some_same d e at)
entry_step (d ∷ es) (suc i) e b at = ap (λ h. model.same_base (base_of d.0) b || h) (entry_step es i e b at)
    ∙ either (model.same_base (base_of d.0) b) (is_base_among (entry_bases (take i es)) b) (model.same_base (base_of e.0) b)

pub bytes_noted : (bytes : model.Base → List ℕ) (old new : List (model.Base × places.Found)) (es : List (Base × Places)) (i : ℕ) (e : Base × Places) (b : model.Base) (p : ℕ)
    → slice_get es i ≡ Some e → find (base_eq e.0) es ≡ Some e.1
    → byte_at (lookup_base b new) p ≡ cond (model.same_base b (base_of e.0)) (cond (holds e.1 p) (Some (slice_index (bytes (base_of e.0)) p)) None) (byte_at (lookup_base b old) p)
    → byte_at (lookup_base b old) p ≡ cond (is_base_among (entry_bases (take i es)) b && is_marked (marks_of es) b p) (Some (slice_index (bytes b) p)) None
    → byte_at (lookup_base b new) p ≡ cond (is_base_among (entry_bases (take (suc i) es)) b && is_marked (marks_of es) b p) (Some (slice_index (bytes b) p)) None
bytes_noted bytes old new es i e b p at found noted before =
    let all = sym (ap (λ h. cond (h && is_marked (marks_of es) b p) (Some (slice_index (bytes b) p)) None) (entry_step es i e b at)) in
    noted ∙ elim (cases_Bool (model.same_base b (base_of e.0))) [
      | inl same ↦
          let is : b ≡ base_of e.0 = same_bases b (base_of e.0) same in
          let here : model.same_base (base_of e.0) b ≡ true = same_base_sym (base_of e.0) b ∙ same in
          let marked : holds e.1 p ≡ is_marked (marks_of es) b p = sym (ap (λ c. is_marked (marks_of es) c p) is ∙ found_marked e.0 es p ∙ ap (λ o. found_marks o p) found) in
          ap (λ h. cond h (cond (holds e.1 p) (Some (slice_index (bytes (base_of e.0)) p)) None) (byte_at (lookup_base b old) p)) same
          ∙ ap₂ (λ h c. cond h (Some (slice_index (bytes c) p)) None) marked (sym is)
          ∙ sym (ap (λ h. cond (h && is_marked (marks_of es) b p) (Some (slice_index (bytes b) p)) None) (or_right (is_base_among (entry_bases (take i es)) b) _ here)) ∙ all
      | inr apart ↦
          let here : model.same_base (base_of e.0) b ≡ false = same_base_sym (base_of e.0) b ∙ apart in
          ap (λ h. cond h (cond (holds e.1 p) (Some (slice_index (bytes (base_of e.0)) p)) None) (byte_at (lookup_base b old) p)) apart ∙ before
          ∙ sym (ap (λ h. cond (h && is_marked (marks_of es) b p) (Some (slice_index (bytes b) p)) None) (ap (λ h. is_base_among (entry_bases (take i es)) b || h) here ∙ or_false _)) ∙ all
    ]

pub all_marked : (es : List (Base × Places)) (i : ℕ) → length es ≤ i → (b : model.Base) (p : ℕ)
    → (is_base_among (entry_bases (take i es)) b && is_marked (marks_of es) b p) ≡ is_marked (marks_of es) b p
all_marked [] zero long b p = refl
all_marked [] (suc i) long b p = refl
all_marked (e ∷ es) zero long b p = absurd (omega arith)
all_marked (e ∷ es) (suc i) long b p = elim (cases_Bool (model.same_base (base_of e.0) b)) [
  | inl same ↦ rw same refl
  | inr apart ↦ rw apart (all_marked es i (omega arith) b p)
]
