-- Pieces of an answer, one behind another.
use Rattle.std.proofs.Common.{◌≡◌, ℕ, Bool, true, false, List, [], ◌++◌, Option, Result, Ok, Err, refl, sym, ap, subst, ◌∙◌, append_assoc, append-nil}
use Rattle.std.specs.Prelude.{is_ok, is_err, OnOk, OnErr}
use Rattle.std.specs.Borrow.{GName}
use Rattle.std.specs.Io.KnownBytes.{Appends}
use Rattle.std.proofs.KnownBytes.{Appends-nil, Appends-trans}
use Rattle.std.proofs.lemmas.Bool.{false≢true}
use Rattle.nd_script.specs.Lines.Ends.{counted_on}
use Rattle.nd_script.specs.Lines.Answers.{AnswerState, begun, Ends, Pushes, PushesBy, SendsBy}
use Rattle.nd_script.specs.Lines.Run.{Wrote}

-- what was written of two pieces
two_fronts : (pending one two front mid front2 rest : List ℕ) → pending ++ one ≡ front ++ mid → mid ++ two ≡ front2 ++ rest → pending ++ (one ++ two) ≡ (front ++ front2) ++ rest
two_fronts pending one two front mid front2 rest first second =
    sym (append_assoc pending one two) ∙ ap (λ l. l ++ two) first ∙ append_assoc front mid two ∙ ap (λ l. front ++ l) second ∙ sym (append_assoc front front2 rest)

steps_trans : (fa fb fc : Bool) (a b c : AnswerState) (one two : List ℕ) → PushesBy fa fb a one b → PushesBy fb fc b two c → PushesBy fa fc a (one ++ two) c
steps_trans false false false a b c one two p q =
    (p.0 ++ q.0, two_fronts a.pending one two p.0 b.pending q.0 c.pending p.1 q.1, Appends-trans a.contents b.contents c.contents p.0 q.0 p.2 q.2, q.3 ∙ p.3)
steps_trans false false true a b c one two p q =
    (p.0 ++ q.0, q.1, two_fronts a.pending one two p.0 b.pending q.0 q.1 p.1 q.2, Appends-trans a.contents b.contents c.contents p.0 q.0 p.2 q.3, q.4 ∙ ap (λ n. counted_on n 1) p.3)
steps_trans false true false a b c one two p q = absurd q
steps_trans false true true a b c one two p q = (
  p.0,
  p.1 ++ two,
  sym (append_assoc a.pending one two) ∙ ap (λ l. l ++ two) p.2 ∙ append_assoc p.0 p.1 two,
  subst (Appends a.contents c.contents) (append-nil p.0) (Appends-trans a.contents b.contents c.contents p.0 [] p.3 q.0),
  q.1 ∙ p.4,
)
steps_trans true false fc a b c one two p q = absurd p
steps_trans true true false a b c one two p q = absurd q
steps_trans true true true a b c one two p q = (Appends-trans a.contents b.contents c.contents [] [] p.0 q.0, q.1 ∙ p.1)

pub pushes_trans : {a b c : AnswerState} {one two : List ℕ} → Pushes a one b → Pushes b two c → Pushes a (one ++ two) c
pushes_trans {a} {b} {c} {one} {two} p q = record {
  same_reference = q.same_reference ∙ p.same_reference;
  steps = steps_trans a.has_failed b.has_failed c.has_failed a b c one two p.steps q.steps;
}

steps_none : (f : Bool) (a : AnswerState) → PushesBy f f a [] a
steps_none false a = ([], append-nil a.pending, Appends-nil a.contents, refl)
steps_none true a = (Appends-nil a.contents, refl)

pub pushes_none : (a : AnswerState) → Pushes a [] a
pushes_none a = record { same_reference = refl; steps = steps_none a.has_failed a }

pub pushes_same : {a b : AnswerState} {xs ys : List ℕ} → xs ≡ ys → Pushes a xs b → Pushes a ys b
pushes_same {a} {b} same p = subst (λ l. Pushes a l b) same p

-- ---- what is sent and what is kept

pending_by : (fa fb : Bool) (a b : AnswerState) → b.pending ≡ [] → SendsBy fa fb a.pending a.contents b.contents a.failures b.failures → PushesBy fa fb a [] b
pending_by false false a b none p = (a.pending, ap (λ l. a.pending ++ l) (sym none), p.0, p.1)
pending_by false true a b none p = (p.0, p.1, append-nil a.pending ∙ p.2, p.3, p.4)
pending_by true false a b none p = absurd p
pending_by true true a b none p = p

-- what was pending was sent
pub sent_pending : {a b : AnswerState} → b.reference ≡ a.reference → b.pending ≡ []
    → SendsBy a.has_failed b.has_failed a.pending a.contents b.contents a.failures b.failures → Pushes a [] b
sent_pending {a} {b} same none p = record { same_reference = same; steps = pending_by a.has_failed b.has_failed a b none p }

bytes_by : (fa fb : Bool) (a b : AnswerState) (bytes : List ℕ) → a.pending ≡ [] → b.pending ≡ [] → SendsBy fa fb bytes a.contents b.contents a.failures b.failures → PushesBy fa fb a bytes b
bytes_by false false a b bytes was none p = (bytes, ap (λ l. l ++ bytes) was ∙ sym (append-nil bytes) ∙ ap (λ l. bytes ++ l) (sym none), p.0, p.1)
bytes_by false true a b bytes was none p = (p.0, p.1, ap (λ l. l ++ bytes) was ∙ p.2, p.3, p.4)
bytes_by true false a b bytes was none p = absurd p
bytes_by true true a b bytes was none p = p

-- bytes were sent where none was pending
pub sent_bytes : {a b : AnswerState} {bytes : List ℕ} → b.reference ≡ a.reference → a.pending ≡ [] → b.pending ≡ []
    → SendsBy a.has_failed b.has_failed bytes a.contents b.contents a.failures b.failures → Pushes a bytes b
sent_bytes {a} {b} {bytes} same was none p = record { same_reference = same; steps = bytes_by a.has_failed b.has_failed a b bytes was none p }

kept_by : (f : Bool) (a : AnswerState) (bytes pending : List ℕ) → pending ≡ a.pending ++ bytes → PushesBy f f a bytes (record a { pending = pending })
kept_by false a bytes pending more = ([], sym more, Appends-nil a.contents, refl)
kept_by true a bytes pending more = (Appends-nil a.contents, refl)

-- bytes are pending
pub kept_bytes : (a : AnswerState) (bytes pending : List ℕ) → pending ≡ a.pending ++ bytes → Pushes a bytes (record a { pending = pending })
kept_bytes a bytes pending more = record { same_reference = refl; steps = kept_by a.has_failed a bytes pending more }

-- ---- the end of an answer

-- what was written at the end of an answer, and what the writer counts then
pub record IsWritten (was : Option (List ℕ)) (failures : ℕ) (answer : List ℕ) (has_failed : Bool) (now : Option (List ℕ)) (after : ℕ) : Type 0 where
  pub front : List ℕ
  pub rest : List ℕ
  pub cut : answer ≡ front ++ rest
  pub whole : has_failed ≡ false → rest ≡ []
  pub appended : Appends was now front
  pub kept : has_failed ≡ false → after ≡ failures
  pub failed : has_failed ≡ true → after ≡ counted_on failures 1

ends_by : (fb fc : Bool) (a b c : AnswerState) (answer : List ℕ) → a.pending ≡ [] → PushesBy false fb a answer b
    → SendsBy fb fc b.pending b.contents c.contents b.failures c.failures → IsWritten a.contents a.failures answer fc c.contents c.failures
ends_by false false a b c answer none p q = record {
  front = p.0 ++ b.pending;
  rest = [];
  cut = ap (λ l. l ++ answer) (sym none) ∙ p.1 ∙ sym (append-nil (p.0 ++ b.pending));
  whole = λ e. refl;
  appended = Appends-trans a.contents b.contents c.contents p.0 b.pending p.2 q.0;
  kept = λ e. q.1 ∙ p.3;
  failed = λ e. absurd (false≢true e);
}
ends_by false true a b c answer none p q = record {
  front = p.0 ++ q.0;
  rest = q.1;
  cut = ap (λ l. l ++ answer) (sym none) ∙ p.1 ∙ ap (λ l. p.0 ++ l) q.2 ∙ sym (append_assoc p.0 q.0 q.1);
  whole = λ e. absurd (false≢true (sym e));
  appended = Appends-trans a.contents b.contents c.contents p.0 q.0 p.2 q.3;
  kept = λ e. absurd (false≢true (sym e));
  failed = λ e. q.4 ∙ ap (λ n. counted_on n 1) p.3;
}
ends_by true false a b c answer none p q = absurd q
ends_by true true a b c answer none p q = record {
  front = p.0 ++ [];
  rest = p.1;
  cut = ap (λ l. l ++ answer) (sym none) ∙ p.2 ∙ ap (λ l. l ++ p.1) (sym (append-nil p.0));
  whole = λ e. absurd (false≢true (sym e));
  appended = Appends-trans a.contents b.contents c.contents p.0 [] p.3 q.0;
  kept = λ e. absurd (false≢true (sym e));
  failed = λ e. q.1 ∙ p.4;
}

pub written : {reference : GName} {was : Option (List ℕ)} {failures : ℕ} {a b c : AnswerState} {answer : List ℕ} {failed : Bool}
    → a ≡ begun reference was failures → Pushes a answer b → Ends b failed c → IsWritten was failures answer failed c.contents c.failures
written {reference} {was} {failures} {a} {b} {c} {answer} {failed} is p q =
    let first : Pushes (begun reference was failures) answer b = subst (λ s. Pushes s answer b) is p in
    ends_by b.has_failed failed (begun reference was failures) b c answer refl first.steps q.sent

pub wrote : {T E : Type 0} (r : Result T E) {was now : Option (List ℕ)} {failures after : ℕ} {answer : List ℕ} → IsWritten was failures answer (is_err r) now after → Wrote was answer (is_ok r) now
wrote (Ok x) w = record { front = w.front; rest = w.rest; cut = w.cut; whole = λ e. w.whole refl; appended = w.appended }
wrote (Err e) w = record { front = w.front; rest = w.rest; cut = w.cut; whole = λ e. absurd (false≢true e); appended = w.appended }

pub wrote_kept : {T E : Type 0} (r : Result T E) {was now : Option (List ℕ)} {failures after : ℕ} {answer : List ℕ} → IsWritten was failures answer (is_err r) now after → OnOk r (after ≡ failures)
wrote_kept (Ok x) w = w.kept refl
wrote_kept (Err e) w = tt

pub wrote_failed : {T E : Type 0} (r : Result T E) {was now : Option (List ℕ)} {failures after : ℕ} {answer : List ℕ} → IsWritten was failures answer (is_err r) now after → OnErr r (after ≡ counted_on failures 1)
wrote_failed (Ok x) w = tt
wrote_failed (Err e) w = w.failed refl

-- at the end of a borrow the writer holds what the answer's writer left in it
pub wrote_at : {T E : Type 0} (r : Result T E) {was mid now : Option (List ℕ)} {failures after : ℕ} {answer : List ℕ} → IsWritten was failures answer (is_err r) mid after → now ≡ mid → Wrote was answer (is_ok r) now
wrote_at r {was} {mid} {now} {failures} {after} {answer} w same = subst (λ m. Wrote was answer (is_ok r) m) (sym same) (wrote r w)
