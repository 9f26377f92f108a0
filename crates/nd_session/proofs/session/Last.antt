-- The last event of a name.
use Rattle.std.proofs.Common.{◌≡◌, ℕ, ◌+◌, ◌<◌, Bool, true, false, cond, bytes_eq, get_or, take, List, [], ◌∷◌, ◌++◌, map, length, Option, Some, unwrap_or, is_some, refl, sym, ap, ◌∙◌, inl, inr}
use Rattle.std.proofs.lemmas.Bool.{cases_Bool}
use Rattle.std.proofs.lemmas.List.{map-append, take_more}
use Rattle.nd_model.specs.Cells.Session.{Names, bind, unbind}
use Rattle.nd_model.specs.Cells.Running.{Event, Binds, Unbinds}
use Rattle.nd_model.specs.Cells.Footprint.{replayed}
use Rattle.nd_model.proofs.Lists.{lookup-bind, lookup-unbind}
use Rattle.nd_session.specs.Session.Changes.{is_bound}
use Rattle.nd_trace.specs.Events.{binds, event_of, name_of_event}
use Rattle.nd_trace.specs.declared.trace.Event as code

pub replayed-more : (es : List Event) (e : Event) (names : Names) → replayed (es ++ e ∷ []) names ≡ replayed (e ∷ []) (replayed es names)
replayed-more [] e names = refl
replayed-more (Binds n v ∷ es) e names = replayed-more es e (bind n v names)
replayed-more (Unbinds n ∷ es) e names = replayed-more es e (unbind n names)

one_event : (e : Event) (n : List ℕ) (names : Names) → is_bound n (replayed (e ∷ []) names) ≡ cond (bytes_eq n (name_of_event e)) (binds e) (is_bound n names)
one_event (Binds m v) n names = ap is_some (lookup-bind n m v names) ∙ elim (cases_Bool (bytes_eq n m)) [ inl is ↦ rw is refl | inr other ↦ rw other refl ]
one_event (Unbinds m) n names = ap is_some (lookup-unbind n m names) ∙ elim (cases_Bool (bytes_eq n m)) [ inl is ↦ rw is refl | inr other ↦ rw other refl ]

-- what the events do at last to a name
abbrev pub IsLast : List ℕ → List Event → Option Bool → Type 0
IsLast n es last = (names : Names) → is_bound n (replayed es names) ≡ unwrap_or last (is_bound n names)

-- one event more, of this name or of another
pub last_is : (n : List ℕ) (es : List Event) (e : Event) (last : Option Bool) (b : Bool) → bytes_eq n (name_of_event e) ≡ true → b ≡ binds e → IsLast n (es ++ e ∷ []) (Some b)
last_is n es e last b is same names = ap (is_bound n) (replayed-more es e names) ∙ one_event e n (replayed es names) ∙ rw is (sym same)

pub last_stays : (n : List ℕ) (es : List Event) (e : Event) (last : Option Bool) → bytes_eq n (name_of_event e) ≡ false → IsLast n es last → IsLast n (es ++ e ∷ []) last
last_stays n es e last other h names = ap (is_bound n) (replayed-more es e names) ∙ one_event e n (replayed es names) ∙ rw other (h names)

-- one event more
pub events_more : (es : List code.Event) (k : ℕ) (e : code.Event) → k < length es → e ≡ get_or es k e → map event_of (take (k + 1) es) ≡ map event_of (take k es) ++ event_of e ∷ []
events_more es k e lt is = ap (map event_of) (take_more es k e lt ∙ ap (λ d. take k es ++ d ∷ []) (sym is)) ∙ map-append event_of (take k es) (e ∷ [])
