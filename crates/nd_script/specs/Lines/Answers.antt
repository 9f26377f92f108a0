-- Answers on their way to a writer: of the bytes a front was written, and the rest is pending.
use Rattle.std.specs.Prelude.{◌≡◌, ℕ, Bool, true, false, List, [], ◌++◌, Option}
use Rattle.std.specs.Borrow.{GName}
use Rattle.std.specs.Io.KnownBytes.{Appends}
use Rattle.nd_script.specs.Lines.Ends.{counted_on}

-- a writer, with the bytes that are pending; once a write has failed no more are written
pub record AnswerState : Type 0 where
  pub reference : GName
  pub contents : Option (List ℕ)
  pub failures : ℕ
  pub pending : List ℕ
  pub has_failed : Bool

-- a front of the bytes was written, and the rest is pending
abbrev pub GoesOn : AnswerState → (bytes : List ℕ) → AnswerState → Type 0
GoesOn old bytes new =
    (front : List ℕ) × (old.pending ++ bytes ≡ front ++ new.pending) × Appends old.contents new.contents front × (new.failures ≡ old.failures)

-- a front of the bytes was written, and then a write failed
abbrev pub Breaks : AnswerState → (bytes : List ℕ) → AnswerState → Type 0
Breaks old bytes new =
    (front : List ℕ) × (rest : List ℕ) × (old.pending ++ bytes ≡ front ++ rest) × Appends old.contents new.contents front
    × (new.failures ≡ counted_on old.failures 1)

-- nothing more is written
abbrev pub StaysBroken : AnswerState → AnswerState → Type 0
StaysBroken old new = Appends old.contents new.contents [] × (new.failures ≡ old.failures)

abbrev pub PushesBy : (had_failed has_failed : Bool) → AnswerState → (bytes : List ℕ) → AnswerState → Type 0
PushesBy false false old bytes new = GoesOn old bytes new
PushesBy false true old bytes new = Breaks old bytes new
PushesBy true false old bytes new = ⊥
PushesBy true true old bytes new = StaysBroken old new

-- THESE BYTES WERE APPENDED to the answer
pub record Pushes (old : AnswerState) (bytes : List ℕ) (new : AnswerState) : Type 0 where
  pub same_reference : new.reference ≡ old.reference
  pub steps : PushesBy old.has_failed new.has_failed old bytes new

-- before the first byte of an answer to a writer
abbrev pub begun : GName → (contents : Option (List ℕ)) → (failures : ℕ) → AnswerState
begun reference contents failures = record {
  reference = reference;
  contents = contents;
  failures = failures;
  pending = [];
  has_failed = false;
}

-- ---- what is sent to the writer

-- bytes were sent: all of them, or a front where a write failed; and none where one had failed before
abbrev pub SendsBy : (had_failed has_failed : Bool) → (bytes : List ℕ) → (was now : Option (List ℕ)) → (before after : ℕ) → Type 0
SendsBy false false bytes was now before after = Appends was now bytes × (after ≡ before)
SendsBy false true bytes was now before after =
    (front : List ℕ) × (rest : List ℕ) × (bytes ≡ front ++ rest) × Appends was now front × (after ≡ counted_on before 1)
SendsBy true false bytes was now before after = ⊥
SendsBy true true bytes was now before after = Appends was now [] × (after ≡ before)

-- what is pending was sent
pub record Ends (old : AnswerState) (has_failed : Bool) (new : AnswerState) : Type 0 where
  pub same_reference : new.reference ≡ old.reference
  pub sent : SendsBy old.has_failed has_failed old.pending old.contents new.contents old.failures new.failures
