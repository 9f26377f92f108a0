-- What is noted.
use Rattle.std.proofs.Common.{◌≡◌, ℕ, Bool, true, false, not, ◌&&◌, ◌||◌, bytes_eq, List, [], ◌∷◌, ◌++◌, refl, sym, ap, ◌∙◌, inl, inr, arith}
use mathlib.Core.Path.{fun_ext}
use Rattle.std.proofs.lemmas.Bool.{cases_Bool}
use Rattle.std.proofs.lemmas.Bool.Decides.{nat_tests}
use Rattle.nd_model.specs.Arrays.Value.{Base, same_base}
use Rattle.nd_model.specs.Cells.Session as model
use Rattle.nd_model.specs.Cells.Running.{Key, Name, Input, Length, Byte, OfRule}
use Rattle.nd_model.specs.Cells.Running as running
use Rattle.nd_marks.specs.Marks.{Places}
use Rattle.nd_model.specs.Cells.Storing.{having_written}
use Rattle.nd_heap.specs.Live.{is_base_among}
use Rattle.nd_trace.specs.Marked.{is_among, is_marked, is_read}
use Rattle.nd_heap.proofs.Same.{same_bases, same_bytes}

-- keys are read
pub noted : (keys : Key → Bool) (r : running.Running) (read : Key → Bool) → ((k : Key) → read k ≡ (r.read k || (keys k && not (running.is_own r k)))) → record r { read = read } ≡ running.having_read keys r
noted keys r read h = ap (λ f. record r { read = f }) (fun_ext h)

or_false : (x : Bool) → x ≡ (x || false)
or_false true = refl
or_false false = refl

is_among-append : (ms : List (List ℕ)) (n m : List ℕ) → is_among (ms ++ n ∷ []) m ≡ (is_among ms m || bytes_eq n m)
is_among-append [] n m = grind (arith, nat_tests)
is_among-append (l ∷ ms) n m = grind (arith, nat_tests, is_among-append ms n m)

is_base-append : (cs : List Base) (b c : Base) → is_base_among (cs ++ b ∷ []) c ≡ (is_base_among cs c || same_base b c)
is_base-append [] b c = grind (arith, nat_tests)
is_base-append (d ∷ cs) b c = grind (arith, nat_tests, is_base-append cs b c)

-- a test that tells which key it is, where that key is not the cell's own
more : (x t o : Bool) → (t ≡ true → o ≡ false) → (x || t) ≡ (x || (t && not o))
more x true o h = ap (λ o. x || not o) (sym (h refl))
more x false o h = refl

-- or is its own, or is there already
there : (x t o : Bool) → (t ≡ true → (o || x) ≡ true) → x ≡ (x || (t && not o))
there true t o h = refl
there false true true h = refl
there false true false h = grind (arith, nat_tests, h refl)
there false false o h = refl

module _ (looked asked : List (List ℕ)) (lengths : List Base) (used : List (Base × Places)) (own : Key → Bool) where
  pub name_more : (n : List ℕ) → own (Name n) ≡ false → (k : Key) → is_read (looked ++ n ∷ []) asked lengths used k ≡ (is_read looked asked lengths used k || (running.is_name n k && not (own k)))
  name_more n h (Name m) = is_among-append looked n m ∙ more (is_among looked m) (bytes_eq n m) (own (Name m)) (λ e. ap (λ m. own (Name m)) (sym (same_bytes n m e)) ∙ h)
  name_more n h (Input m) = or_false _
  name_more n h (Length b) = or_false _
  name_more n h (Byte b p) = or_false _
  name_more n h OfRule = refl

  pub name_there : (n : List ℕ) → (own (Name n) || is_among looked n) ≡ true → (k : Key) → is_read looked asked lengths used k ≡ (is_read looked asked lengths used k || (running.is_name n k && not (own k)))
  name_there n h (Name m) = there (is_among looked m) (bytes_eq n m) (own (Name m)) (λ e. ap (λ m. own (Name m) || is_among looked m) (sym (same_bytes n m e)) ∙ h)
  name_there n h (Input m) = or_false _
  name_there n h (Length b) = or_false _
  name_there n h (Byte b p) = or_false _
  name_there n h OfRule = refl

  pub input_more : (n : List ℕ) → ((m : List ℕ) → own (Input m) ≡ false) → (k : Key) → is_read looked (asked ++ n ∷ []) lengths used k ≡ (is_read looked asked lengths used k || (running.is_input n k && not (own k)))
  input_more n h (Name m) = or_false _
  input_more n h (Input m) = is_among-append asked n m ∙ more (is_among asked m) (bytes_eq n m) (own (Input m)) (λ e. h m)
  input_more n h (Length b) = or_false _
  input_more n h (Byte b p) = or_false _
  input_more n h OfRule = refl

  pub input_there : (n : List ℕ) → (own (Input n) || is_among asked n) ≡ true → (k : Key) → is_read looked asked lengths used k ≡ (is_read looked asked lengths used k || (running.is_input n k && not (own k)))
  input_there n h (Name m) = or_false _
  input_there n h (Input m) = there (is_among asked m) (bytes_eq n m) (own (Input m)) (λ e. ap (λ m. own (Input m) || is_among asked m) (sym (same_bytes n m e)) ∙ h)
  input_there n h (Length b) = or_false _
  input_there n h (Byte b p) = or_false _
  input_there n h OfRule = refl

  pub length_more : (b : Base) → own (Length b) ≡ false → (k : Key) → is_read looked asked (lengths ++ b ∷ []) used k ≡ (is_read looked asked lengths used k || (running.is_length b k && not (own k)))
  length_more b h (Name m) = or_false _
  length_more b h (Input m) = or_false _
  length_more b h (Length c) = is_base-append lengths b c ∙ more (is_base_among lengths c) (same_base b c) (own (Length c)) (λ e. ap (λ c. own (Length c)) (sym (same_bases b c e)) ∙ h)
  length_more b h (Byte c p) = or_false _
  length_more b h OfRule = refl

  pub length_there : (b : Base) → (own (Length b) || is_base_among lengths b) ≡ true → (k : Key) → is_read looked asked lengths used k ≡ (is_read looked asked lengths used k || (running.is_length b k && not (own k)))
  length_there b h (Name m) = or_false _
  length_there b h (Input m) = or_false _
  length_there b h (Length c) = there (is_base_among lengths c) (same_base b c) (own (Length c)) (λ e. ap (λ c. own (Length c) || is_base_among lengths c) (sym (same_bases b c e)) ∙ h)
  length_there b h (Byte c p) = or_false _
  length_there b h OfRule = refl

  -- bytes of another base, but for those that the cell has written
  pub bytes_more : (b : Base) (ps : List ℕ) (used' : List (Base × Places)) (except : ℕ → Bool) → ((p : ℕ) → own (Byte b p) ≡ except p)
      → ((c : Base) (p : ℕ) → is_marked used' c p ≡ (is_marked used c p || (same_base b c && (model.is_in p ps && not (except p)))))
      → (k : Key) → is_read looked asked lengths used' k ≡ (is_read looked asked lengths used k || (running.is_byte b ps k && not (own k)))
  bytes_more b ps used' except h marked (Name m) = or_false _
  bytes_more b ps used' except h marked (Input m) = or_false _
  bytes_more b ps used' except h marked (Length c) = or_false _
  bytes_more b ps used' except h marked OfRule = refl
  bytes_more b ps used' except h marked (Byte c p) = marked c p ∙ ap (λ t. is_marked used c p || t) (elim (cases_Bool (same_base b c)) [
    | inl same ↦ rw same (ap (λ o. model.is_in p ps && not o) (sym (h p) ∙ ap (λ c. own (Byte c p)) (same_bases b c same)))
    | inr apart ↦ rw apart refl
  ])

pub no_exceptions : (t e : Bool) → e ≡ false → (t && not e) ≡ t
no_exceptions true e none = rw none refl
no_exceptions false e none = refl

-- bytes are written
pub written_more : (b : Base) (ps : List ℕ) (r s : running.Running) (written : Base → ℕ → Bool) (e : ℕ → Bool) → s ≡ running.having_read (running.is_length b) r → ((p : ℕ) → e p ≡ false)
    → ((c : Base) (p : ℕ) → written c p ≡ (s.written c p || (same_base b c && (model.is_in p ps && not (e p))))) → record s { written = written } ≡ having_written b ps r
written_more b ps r s written e read none marked =
    ap (λ w. record s { written = w }) (fun_ext (λ c. fun_ext (λ p. marked c p ∙ ap (λ t. s.written c p || (same_base b c && t)) (no_exceptions (model.is_in p ps) (e p) (none p)))))
    ∙ ap (λ (s : running.Running). record s { written = λ c p. s.written c p || (same_base b c && model.is_in p ps) }) read

-- nothing is read
pub noted_none : (keys : Key → Bool) (r s : running.Running) → ((k : Key) → keys k ≡ false) → s ≡ r → s ≡ running.having_read keys r
noted_none keys r s none same = same ∙ ap (λ f. record r { read = f }) (fun_ext (λ k. or_false (r.read k) ∙ ap (λ t. r.read k || (t && not (running.is_own r k))) (sym (none k))))

-- sets of bytes that hold what they held
pub same_used : (looked asked : List (List ℕ)) (lengths : List Base) (used used' : List (Base × Places)) → ((c : Base) (p : ℕ) → is_marked used' c p ≡ is_marked used c p)
    → is_read looked asked lengths used' ≡ is_read looked asked lengths used
same_used looked asked lengths used used' same = fun_ext at
  where
    at : (k : Key) → is_read looked asked lengths used' k ≡ is_read looked asked lengths used k
    at (Name n) = refl
    at (Input n) = refl
    at (Length b) = refl
    at (Byte b p) = same b p
    at OfRule = refl

pub same_marks : (used used' : List (Base × Places)) → ((c : Base) (p : ℕ) → is_marked used' c p ≡ is_marked used c p) → is_marked used' ≡ is_marked used
same_marks used used' same = fun_ext (λ c. fun_ext (λ p. same c p))
