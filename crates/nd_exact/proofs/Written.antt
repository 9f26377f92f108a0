-- Two runs of the same commands write the same, memory aside.
use Rattle.std.proofs.Common.{◌≡◌, ℕ, Bool, true, false, List, [], ◌∷◌, ◌++◌, Option, Some, None, Result, Ok, Err, refl, sym, ap, ap₂, subst, ◌∙◌, inl, inr, append_assoc, append-nil}
use Rattle.std.specs.Prelude.{◌&&◌, IsTrue, is_none}
use Rattle.std.specs.Io.KnownBytes.{Consumes, IsAtEnd}
use Rattle.nd_model.specs.Book.Book.{Book, EditFault, refusal, QueryFault}
use Rattle.nd_model.specs.Book.Script.{Command, Edits, Asks, Silent, Bad, query, takes_memory, succeeds, may_want_memory, Answers, commands, completed}
use Rattle.nd_exact.specs.Scripts.{want_line, CommandIsDetermined, WouldGive, WantStandsForAnAnswer, HasWant, ScriptsAreDetermined, StopsAreDetermined, RunsAreDetermined, CutsAreFronts}

-- ---- a command

pub command_is_determined : CommandIsDetermined
command_is_determined c b text told next last (inl x) (inl y) s t = (x.0 ∙ sym y.0, x.1 ∙ sym y.1)
command_is_determined c b text told next last (inl x) (inr y) s t = absurd (t y.1)
command_is_determined c b text told next last (inr x) y s t = absurd (s x.1)

none_there : (o : Option EditFault) → IsTrue (is_none o) → o ≡ None
none_there None h = refl
none_there (Some f) h = absurd (cc)

and_parts : (a b : Bool) → (a && b) ≡ true → (a ≡ true) × (b ≡ true)
and_parts true b h = (refl, h)
and_parts false b h = absurd (cc)

ok_there : (r : Result (List ℕ) QueryFault) → IsTrue (succeeds r) → (text : List ℕ) × (r ≡ Ok text)
ok_there (Ok text) h = (text, refl)
ok_there (Err f) h = absurd (cc)

would_give : (c : Command) (b : Book) → IsTrue (may_want_memory c b) → WouldGive c b
would_give (Edits e) b h = inl (e, refl, none_there (refusal e b) h)
would_give (Asks q) b h =
    let both : (takes_memory q ≡ true) × (succeeds (query q b) ≡ true) = and_parts (takes_memory q) (succeeds (query q b)) h in
    let there : (text : List ℕ) × (query q b ≡ Ok text) = ok_there (query q b) both.1 in
    inr (q, there.0, refl, both.0, there.1)
would_give Silent b h = absurd (cc)
would_give Bad b h = absurd (cc)

pub want_stands_for_an_answer : WantStandsForAnAnswer
want_stands_for_an_answer c b text next (inl x) other = absurd (other x.0)
want_stands_for_an_answer c b text next (inr x) other = (would_give c b x.0, x.1, x.2)

-- ---- commands

begins : (first rest text : List ℕ) → text ≡ first ++ rest → first ≡ want_line → HasWant text
begins first rest text is want = ([], rest, is ∙ ap (λ t. t ++ rest) want)

goes_on : (first rest text : List ℕ) → text ≡ first ++ rest → HasWant rest → HasWant text
goes_on first rest text is (front, back, there) =
    (first ++ front, back, is ∙ ap (λ t. first ++ t) there ∙ sym (append_assoc first (front ++ want_line) back) ∙ ap (λ t. t ++ back) (sym (append_assoc first front want_line)))

pub all_determined : (cs : List Command) (b : Book) (text told : List ℕ) (next last : Book) → Answers cs b text next → Answers cs b told last
    → ¬ HasWant text → ¬ HasWant told → (text ≡ told) × (next ≡ last)
all_determined [] b text told next last x y s t = (x.0 ∙ sym y.0, x.1 ∙ sym y.1)
all_determined (c ∷ cs) b text told next last (first, rest, mid, is, here, there) (first', rest', mid', is', here', there') s t =
    let one : (first ≡ first') × (mid ≡ mid') =
    command_is_determined c b first first' mid mid' here here' (λ want. s (begins first rest text is want)) (λ want. t (begins first' rest' told is' want)) in
    let P : Book → Type 0 = λ d. Answers cs d rest' last in
    let others : (rest ≡ rest') × (next ≡ last) =
    all_determined cs mid rest rest' next last there (subst P (sym one.1) there') (λ want. s (goes_on first rest text is want)) (λ want. t (goes_on first' rest' told is' want)) in
    (is ∙ ap₂ (λ (x : List ℕ) y. x ++ y) one.0 others.0 ∙ sym is', others.1)

pub cuts_are_fronts : CutsAreFronts
cuts_are_fronts [] b text last h = (text, ([], sym (append-nil text)), h)
cuts_are_fronts (c ∷ []) b text last (whole, front, answer) = (whole, front, (whole, [], last, sym (append-nil whole), answer, (refl, refl)))
cuts_are_fronts (c ∷ d ∷ cs) b text last (first, rest, next, is, here, there) =
    let (whole, (back, front), answers) = cuts_are_fronts (d ∷ cs) next rest last there in
    (first ++ whole, (back, ap (λ t. first ++ t) front ∙ sym (append_assoc first rest back) ∙ ap (λ t. t ++ back) (sym is)), (first, whole, next, refl, here, answers))

-- ---- scripts

pub scripts_are_determined : ScriptsAreDetermined
scripts_are_determined script b text told next last x y s t = all_determined (commands script) b text told next last x y s t

pub stops_are_determined : StopsAreDetermined
stops_are_determined given b text told next last x y s t = all_determined (completed given) b text told next last x.1 y.1 s t

-- all that was unread is the script
whole : (unread : List ℕ) (left : Option (List ℕ)) (script : List ℕ) → Consumes (Some unread) left script → IsAtEnd left → script ≡ unread
whole unread None script h end = absurd h
whole unread (Some rest) script h end = sym (h ∙ ap (λ t. script ++ t) end ∙ append-nil script)

pub runs_are_determined : RunsAreDetermined
runs_are_determined unread left rest was now then old new last x y s t =
    let P : Book → List ℕ → List ℕ → Type 0 = λ b text script. Answers (commands script) old text b in
    let here : Answers (commands unread) old x.written new = subst (P new x.written) (whole unread left x.script x.given x.ended) x.answers in
    let there : Answers (commands unread) old y.written last = subst (P last y.written) (whole unread rest y.script y.given y.ended) y.answers in
    let same : (x.written ≡ y.written) × (new ≡ last) =
    all_determined (commands unread) old x.written y.written new last here there (s x.written x.appended) (t y.written y.appended) in
    (x.appended ∙ ap (λ w. was ++ w) same.0 ∙ sym y.appended, same.1)
