-- Snapshots, and what they stand for.
use Rattle.std.proofs.Common.{◌≡◌, ℕ, zero, suc, ◌+◌, ◌-◌, ◌<◌, ◌≤◌, Bool, true, false, List, [], ◌∷◌, ◌++◌, length, map, take, drop, get_or, Option, Some, None, Result, Ok, Err, refl, sym, ap, subst, ◌∙◌, not, arith, add-one}
use Rattle.std.specs.Prelude.{insert, remove, IfOk, IfSome, if◌then◌else◌, is_ok}
use Rattle.std.specs.List.{All}
use Rattle.std.proofs.Math.Seq.{drop-cons}
use Rattle.std.proofs.lemmas.List.{length-map, map-append}
use Rattle.std.proofs.lemmas.List.Elements.{All-append, All-cons, All-drop, All-nil, All-push, All-take, All-weaker}
use mathlib.Core.Path.{fun_ext}
use Rattle.nd_model.specs.Cells.Session.{Names, Session, no_session}
use Rattle.nd_model.specs.Cells.Running.{World, Key}
use Rattle.nd_model.specs.Cells.Footprint.{replayed, with_effects}
use Rattle.nd_model.specs.Book.Sessions.{IsOnce}
use Rattle.nd_model.specs.Book.Records.{Record, StillHolds}
use Rattle.nd_model.specs.Book.Renaming.{AreDistinct}
use Rattle.nd_model.specs.Book.Book.{Book, Cell, labels_of}
use Rattle.nd_model.specs.Book.Notebook.{Sheet}
use Rattle.nd_model.specs.Book.Entries.{entries_of, entry_at, record_at, records_of, session_before}
use Rattle.nd_model.proofs.Entries.{get_or-records_of}
use Rattle.nd_model.proofs.Lazy.{length-entries}
use Rattle.nd_model.proofs.Sessions.{names_stand_once}
use Rattle.nd_change.specs.Change.{Change, IsOver, did_by}
use Rattle.nd_change.specs.Snapshots.{IsAlike}
use Rattle.nd_change.specs.Steps.{IsPutOver}
use Rattle.nd_change.proofs.Snapshots.{nothing_left, over_alike}
use Rattle.nd_schedule.specs.Schedule.Snapshot.{IsBehind, IsChangeAt, IsNoted, IsSnapshot, Leads, StandsBefore, names_in}
use Rattle.nd_schedule.specs.declared.schedule.noting.Memo.{Memo}
use Rattle.nd_schedule.specs.declared.schedule.noting.Memo.TheVariants as memo
use Rattle.nd_schedule.specs.Schedule.Sweep.{IsAt, IsAtHand, IsPlace, IsRun}
use Rattle.nd_schedule.proofs.schedule.Sweeping.{alike_self, leaves_next, next_alike}

-- ---- changes that lead from one session to another

alike_more : (s t u : Session) → IsAlike s t → IsAlike t u → IsAlike s u
alike_more s t u a b = record { names = λ n. a.names n ∙ b.names n; held = λ k. a.held k ∙ b.held k; bytes = λ k. a.bytes k ∙ b.bytes k }

leads_from : (ds : List Change) (u s t : Session) → IsAlike u s → Leads ds s t → Leads ds u t
leads_from [] u s t a h = alike_more u s t a h
leads_from (d ∷ ds) u s t a h = (h.0, h.1, h.2, over_alike d s h.0 u h.0 h.1 h.2 h.3 a (alike_self h.0 h.0 refl), h.4, h.5)

pub leads_on : (ds : List Change) (d : Change) (s t u : Session) (i j : World) → Leads ds s t → IsOver d t i u j → IsOnce u.names → Leads (ds ++ d ∷ []) s u
leads_on [] d s t u i j h over once = (u, i, j, over_alike d t u s u i j over h (alike_self u u refl), once, alike_self u u refl)
leads_on (e ∷ ds) d s t u i j h over once = (h.0, h.1, h.2, h.3, h.4, leads_on ds d h.0 t u i j h.5 over once)

leads_put : (d : Change) (ds : List Change) (s t u : Session) → IsPutOver d s u → Leads (d ∷ ds) s t → Leads ds u t
leads_put d ds s t u put h = leads_from ds u h.0 t (put h.0 h.1 h.2 h.3 h.4) h.5

-- one of the changes is put over the session
pub leads_turn : {X : Type 0} (view : X → Change) (xs : List X) (k : ℕ) (x : X) (s t u : Session) → k < length xs → x ≡ get_or xs k x → IsPutOver (view x) s u → Leads (map view (drop k xs)) s t → Leads (map view (drop (k + 1) xs)) u t
leads_turn view xs k x s t u lt is put h = leads_put (view x) (map view (drop (k + 1) xs)) s t u put (subst (λ ys. Leads (map view ys) s t) split h)
  where
    split : drop k xs ≡ x ∷ drop (k + 1) xs
    split = drop-cons xs k x lt ∙ ap (λ y. y ∷ drop (suc k) xs) (sym is) ∙ ap (λ n. x ∷ drop n xs) (sym (add-one k))

drop_all : {X : Type 0} (xs : List X) (k : ℕ) → length xs ≤ k → drop k xs ≡ []
drop_all [] zero le = refl
drop_all [] (suc k) le = refl
drop_all (x ∷ xs) zero le = absurd (omega arith)
drop_all (x ∷ xs) (suc k) le = drop_all xs k (omega arith)

pub could : (b : Bool) → not b ≡ false → b ≡ true
could true e = refl
could false e = absurd (cc)

-- all of them are
pub leads_there : {X : Type 0} (view : X → Change) (xs : List X) (k : ℕ) (s t : Session) → length xs ≤ k → Leads (map view (drop k xs)) s t → IsAlike s t
leads_there view xs k s t le h = subst (λ ys. Leads (map view ys) s t) (drop_all xs k le) h

-- a snapshot of which no change is pending
pub renewed : (b : Book) (place : ℕ) (s : Session) (ds : List Change) (h : Session) (es : List Change) → StandsBefore b place s → IsSnapshot b place h es → ds ≡ [] → IsSnapshot b place s ds
renewed b place s ds h es stands was none = record { within = was.within; once = stands.once; leads = subst (λ ds. Leads ds s (session_before b place)) (sym none) stands.alike }

pub fresh_one : (b : Book) (place : ℕ) (s h : Session) (ds : List Change) → place ≤ length b.cells → StandsBefore b place h → s ≡ h → ds ≡ [] → IsSnapshot b place s ds
fresh_one b place s h ds le stands same none = record {
  within = le;
  once = subst (λ (u : Session). IsOnce u.names) (sym same) stands.once;
  leads = subst (λ ds. Leads ds s (session_before b place)) (sym none) (subst (λ u. IsAlike u (session_before b place)) (sym same) stands.alike);
}

-- the session at hand, where it stands before the place now
pub hand_there : (old new : Book) (i j : ℕ) (d : Change) (s : Session) (since : ℕ) → IsAt old new i j d s since → since ≡ i → StandsBefore new j s
hand_there old new i j d s since at is = record {
  alike = let e : j - (i - since) ≡ j = omega (arith, is) in subst (λ n. IsAlike s (session_before new n)) e at.hand.session;
  once = at.hand.once;
}

-- what holds of a notebook holds of one that is the same
pub along : (A B : Sheet → Type 0) (C : List Cell → Type 0) (t u : Sheet) → t ≡ u → A u → B u → C u.cells → A t × B t × C t.cells
along A B C t u same a b c = (subst A (sym same) a, subst B (sym same) b, subst (λ (s : Sheet). C s.cells) (sym same) c)

-- ---- snapshots behind an edit

pub kept_in_front : (old new : Book) (front place : ℕ) (s : Session) (ds : List Change) → IsBehind old new front → place ≤ front → IsSnapshot old place s ds → IsSnapshot new place s ds
kept_in_front old new front place s ds behind le h = record {
  within = omega (arith, behind.within);
  once = h.once;
  leads = subst (Leads ds s) (behind.same.1 place le) h.leads;
}

-- where nothing is edited yet
pub behind_same : (b : Book) (front : ℕ) → front ≤ length b.cells → AreDistinct (labels_of b.cells) → IsBehind b b front
behind_same b front within d = record { same = (refl, λ k le. refl); within = within; before = d; distinct = d }

pub noted_on : {X : Type 0} (view : X → Change) (old new : Book) (place now : ℕ) (s : Session) (xs ys : List X) (x : X) → AreDistinct (labels_of new.cells) → IsChangeAt old new place now (view x) → ys ≡ xs ++ x ∷ [] → IsSnapshot old place s (map view xs) → IsSnapshot new now s (map view ys)
noted_on view old new place now s xs ys x d noted grown h = record {
  within = noted.within;
  once = h.once;
  leads = subst (λ ds. Leads ds s (session_before new now)) (sym (ap (map view) grown ∙ map-append view xs (x ∷ [])))
      (leads_on (map view xs) (view x) s (session_before old place) (session_before new now) old.world new.world h.leads noted.over (names_stand_once new now d noted.within));
}

leads_alike : (ds : List Change) (s t u : Session) → IsAlike t u → Leads ds s t → Leads ds s u
leads_alike [] s t u a h = alike_more s t u h a
leads_alike (d ∷ ds) s t u a h = (h.0, h.1, h.2, h.3, h.4, leads_alike ds h.0 t u a h.5)

-- what is noted is a change
pub change_noted : {D V : Type 0} (view : D → Change) (kept : V → Session) (old new : Book) (place now : ℕ) (m : Memo D V) (d : D) → IsNoted view kept old new place now m → m ≡ memo.Change d → IsChangeAt old new place now (view d)
change_noted view kept old new place now m d noted is = subst (IsNoted view kept old new place now) is noted

-- what is noted is a session
pub session_noted : {D V : Type 0} (view : D → Change) (kept : V → Session) (old new : Book) (place now : ℕ) (m : Memo D V) (v : V) (ds : List Change) → IsNoted view kept old new place now m → m ≡ memo.Session v → ds ≡ [] → IsSnapshot new now (kept v) ds
session_noted view kept old new place now m v ds noted is none = subst (IsSnapshot new now (kept v)) (sym none) (subst (IsNoted view kept old new place now) is noted)

-- a change with nothing in it need not be kept
pub still_on : (d : Change) (old new : Book) (place now : ℕ) (s : Session) (ds : List Change) → ((k : Key) → d k ≡ None) → AreDistinct (labels_of old.cells) → AreDistinct (labels_of new.cells) → IsChangeAt old new place now d → IsSnapshot old place s ds → IsSnapshot new now s ds
still_on d old new place now s ds none before distinct noted h = record {
  within = noted.within;
  once = h.once;
  leads = leads_alike ds s (session_before old place) (session_before new now) alike h.leads;
}
  where
    alike : IsAlike (session_before old place) (session_before new now)
    alike = nothing_left (session_before old place) (session_before new now) old.world new.world (subst (λ e. IsOver e (session_before old place) old.world (session_before new now) new.world) (fun_ext none) noted.over)
        (names_stand_once old place before h.within) (names_stand_once new now distinct noted.within)

-- ---- lists of them

pub All-insert : {X : Type 0} (P : X → Type 0) (xs : List X) (k : ℕ) (x : X) → All P xs → P x → All P (insert xs k x)
All-insert P xs k x all one = All-append P (take k xs) (x ∷ drop k xs) (All-take P k xs all) (All-cons P x (drop k xs) one (All-drop P k xs all))

pub one_of : {X : Type 0} (P : X → Type 0) (xs : List X) (k : ℕ) (x : X) → All P xs → k < length xs → x ≡ get_or xs k x → P x
one_of P xs k x all lt is = subst P (sym is) (all k x lt)

pub All-none : {X : Type 0} (P : X → Type 0) (xs : List X) → xs ≡ [] → All P xs
All-none P xs none = subst (All P) (sym none) (All-nil P)

pub All-pushed : {X Y E : Type 0} (P : X → Type 0) (res : Result Y E) (xs ys : List X) (x : X) → ys ≡ (if is_ok res then xs ++ x ∷ [] else xs) → All P xs → P x → All P ys
All-pushed P (Ok y) xs ys x is all one = subst (All P) (sym is) (All-push P xs x all one)
All-pushed P (Err e) xs ys x is all one = subst (All P) (sym is) all

pub All-inserted : {X Y E : Type 0} (P : X → Type 0) (res : Result Y E) (xs ys : List X) (k : ℕ) (x : X) → ys ≡ (if is_ok res then insert xs k x else xs) → All P xs → P x → All P ys
All-inserted P (Ok y) xs ys k x is all one = subst (All P) (sym is) (All-insert P xs k x all one)
All-inserted P (Err e) xs ys k x is all one = subst (All P) (sym is) all

pub if_some : {X : Type 0} (P : X → Type 0) (o : Option X) (x : X) → o ≡ Some x → IfSome o P → P x
if_some P o x is h = subst (λ o. IfSome o P) is h

pub if_some_more : {X : Type 0} {P Q : X → Type 0} (o : Option X) → IfSome o P → ((x : X) → P x → Q x) → IfSome o Q
if_some_more None h f = tt
if_some_more (Some x) h f = f x h

pub if_ok_some_more : {X E : Type 0} {P Q : X → Type 0} (r : Result (Option X) E) → IfOk r (λ o. IfSome o P) → ((x : X) → P x → Q x) → IfOk r (λ o. IfSome o Q)
if_ok_some_more (Err e) h f = tt
if_ok_some_more (Ok o) h f = if_some_more o h f

pub All-remove : {X : Type 0} (P : X → Type 0) (xs : List X) (k : ℕ) → All P xs → All P (remove xs k)
All-remove P xs k all = All-append P (take k xs) (drop (suc k) xs) (All-take P k xs all) (All-drop P (suc k) xs all)

pub kept_lists : {X : Type 0} (P Q : X → Type 0) (xs ys : List X) → xs ≡ ys → ((x : X) → P x → Q x) → All P ys → All Q xs
kept_lists P Q xs ys same more all = subst (All Q) (sym same) (All-weaker P Q more ys all)

-- ---- records from there on

module _ (b : Book) (d : AreDistinct (labels_of b.cells)) (k : ℕ) (lt : k < length b.cells) (r : Record) (h : Session) (is : r ≡ record_at b.world (entry_at b k)) (stands : StandsBefore b k h) where
  abbrev q : Record
  q = record_at b.world (entry_at b k)

  next : StillHolds q h b.world × IsAlike (did_by (Some q) h) (session_before b (k + 1)) × IsOnce (did_by (Some q) h).names
  next = next_alike b k lt d h stands.alike stands.once

  pub holds_near : StillHolds r h b.world
  holds_near = subst (λ x. StillHolds x h b.world) (sym is) next.0

  pub next_near : (after : Session) → after ≡ with_effects r.label r.effects h → StandsBefore b (k + 1) after
  next_near after done_is =
      let done : after ≡ did_by (Some q) h = done_is ∙ ap (λ x. did_by (Some x) h) is in
      record { alike = subst (λ u. IsAlike u (session_before b (k + 1))) (sym done) next.1; once = subst (λ u. IsOnce u.names) (sym done) next.2 }

pub at_first : (b : Book) (s : Session) → s ≡ no_session → StandsBefore b 0 s
at_first b s is = record { alike = alike_self s no_session is; once = subst (λ u. IsOnce u.names) (sym is) tt }

-- ---- the order of names

pub names_next : (b : Book) (d : AreDistinct (labels_of b.cells)) (k : ℕ) (lt : k < length b.cells) (r : Record) (o p : List (List ℕ)) → r ≡ record_at b.world (entry_at b k) → names_in (session_before b k).names ≡ o
    → ((names : Names) → names_in names ≡ o → names_in (replayed r.effects.events names) ≡ p) → names_in (session_before b (k + 1)).names ≡ p
names_next b d k lt r o p is here step =
    ap (λ (s : Session). names_in s.names) (sym (leaves_next b k lt d)) ∙ ap (λ (x : Record). names_in (replayed x.effects.events (session_before b k).names)) (sym is) ∙ step (session_before b k).names here

-- ---- notebooks of the same records

pub same_sessions : (a b : Book) → AreDistinct (labels_of a.cells) → AreDistinct (labels_of b.cells) → records_of a ≡ records_of b → (k : ℕ) → k ≤ length a.cells → k ≤ length b.cells → session_before a k ≡ session_before b k
same_sessions a b d e same zero le le' = refl
same_sessions a b d e same (suc k) le le' =
    let x : Record = record_at a.world (entry_at a k) in
    let here : session_before a k ≡ session_before b k = same_sessions a b d e same k (omega arith) (omega arith) in
    let made : record_at a.world (entry_at a k) ≡ record_at b.world (entry_at b k) = sym (get_or-records_of a k x (omega arith)) ∙ ap (λ rs. get_or rs k x) same ∙ get_or-records_of b k x (omega arith) in
    let next : k + 1 ≡ suc k = omega arith in
    ap (session_before a) (sym next) ∙ sym (leaves_next a k (omega arith) d) ∙ ap (λ (q : Record). did_by (Some q) (session_before a k)) made
    ∙ ap (did_by (Some (record_at b.world (entry_at b k)))) here ∙ leaves_next b k (omega arith) e ∙ ap (session_before b) next

length-records : (b : Book) → length (records_of b) ≡ length b.cells
length-records b = length-map (entries_of b) (record_at b.world) ∙ length-entries b.cells b.world no_session

pub kept_by_records : (a b : Book) (rs : List Record) → IsRun a rs → IsRun b rs → (place : ℕ) (s : Session) (ds : List Change) → IsSnapshot a place s ds → IsSnapshot b place s ds
kept_by_records a b rs run run' place s ds h =
    let same : records_of a ≡ records_of b = sym run.records ∙ run'.records in
    let long : length a.cells ≡ length b.cells = sym (length-records a) ∙ ap length same ∙ length-records b in
    record {
      within = omega (arith, h.within);
      once = h.once;
      leads = subst (Leads ds s) (same_sessions a b run.distinct run'.distinct same place h.within (omega (arith, h.within))) h.leads;
    }

-- ---- a snapshot as the session at hand

pub taken : (old new : Book) (place j : ℕ) (d : Change) (h u : Session) → IsPlace old new place j → IsChangeAt old new place j d → StandsBefore old place h → IsPutOver d h u → IsOnce u.names → IsAtHand old new place j u place
taken old new place j d h u there at stands put once =
    let t : Session = session_before new j in
    let over : IsOver d h old.world t new.world = over_alike d (session_before old place) t h t old.world new.world at.over stands.alike (alike_self t t refl) in
    let alike : IsAlike u t = put t old.world new.world over (names_stand_once new j there.distinct there.now) in
    record {
      behind = omega arith;
      enough = omega arith;
      session = let e : j ≡ j - (place - place) = omega arith in subst (λ n. IsAlike u (session_before new n)) e alike;
      once = once;
      kept = λ n less. absurd (omega arith);
    }
