-- Entries and events, one by one.
use Rattle.std.proofs.Common.{◌≡◌, ℕ, zero, suc, bytes_eq, List, [], ◌∷◌, refl}
use Rattle.nd_model.specs.Cells.Running.{Event, Binds, Unbinds, is_event_of}
use Rattle.nd_heap.proofs.Entries.{AllBefore}
use Rattle.nd_trace.specs.Events.{name_of_event}

-- what is true of each of the first entries, told weaker
pub before_weaker : {E : Type 0} (P Q : E → Type 0) → ((e : E) → P e → Q e) → (es : List E) (i : ℕ) → AllBefore P es i → AllBefore Q es i
before_weaker P Q w es zero h = tt
before_weaker P Q w [] (suc i) h = tt
before_weaker P Q w (e ∷ es) (suc i) h = (w e h.0, before_weaker P Q w es i h.1)

pub event_name : (n : List ℕ) (e : Event) → is_event_of n e ≡ bytes_eq n (name_of_event e)
event_name n (Binds m v) = refl
event_name n (Unbinds m) = refl
