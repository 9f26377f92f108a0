-- How the runs of lines and bytes make one run.
use Rattle.std.proofs.Common.{◌≡◌, ℕ, ◌<◌, ◌≤◌, true, false, List, [], ◌∷◌, ◌++◌, Option, length, take, inl, inr, refl, sym, ap, ◌∙◌, append_assoc, append-nil, subst, arith}
use Rattle.std.specs.Prelude.{◌==◌, Result, Ok, Err, is_ok, OnOk, OnErr, IfErr}
use Rattle.std.specs.Io.KnownBytes.{Consumes, ReadConsumes, IsAtEnd}
use Rattle.std.specs.List.{slice_split}
use Rattle.std.proofs.KnownBytes.{Appends-nil, Appends-trans, Consumes-kept, Consumes-trans}
use Rattle.std.proofs.lemmas.Bool.{ne_eqb, false≢true}
use Rattle.std.proofs.lemmas.List.Splits.{slice_split_at}
use Rattle.nd_memory.specs.Want.{out_of_memory}
use Rattle.nd_script.specs.Lines.Language.{AtMostOne, Language, OneByOne, commands_in, completed_in, stage_behind, AreFirstIn, AnswersIn, CutAnswersIn, BeforeIn, RunsAtIn, RanToEndIn, StoppedAtIn}
use Rattle.nd_model.specs.Book.Script.{lines_of, ended_lines, last_line}
use Rattle.nd_script.specs.declared.lines.run_fault.RunFault.{RunFault}
use Rattle.nd_script.specs.declared.lines.run_fault.RunFault.TheVariants.{ReadFault, WriteFault, LineTooLong, Memory}
use Rattle.nd_model.specs.Book.ScriptRuns.{most_line, AreWholeLines, IsInLine}
use Rattle.nd_script.specs.Lines.Run.{run_fault_of, LineRuns, LineStops, EndAnswered, Finishes, FinishStops, Runs, AnswersAt, Before, Stops, StopsAtEnd, StopsInLine, Wrote, WroteEnd}
use Rattle.nd_script.proofs.lines.Lines.{one_line, parts_are_some}
use Rattle.nd_script.proofs.lines.Ended.{whole-append, ended_lines-append, ended_lines-open, ended_lines-one, completed_in-append, stage_behind-append, commands_behind, completed_are_first}

-- ---- lines

pub lines_of-cons : (l more : List ℕ) → IsInLine l → lines_of (l ++ 10 ∷ more) ≡ l ∷ lines_of more
lines_of-cons l more inside =
    let cut : slice_split (λ c. c == 10) (l ++ 10 ∷ more) ≡ l ∷ slice_split (λ c. c == 10) more
    = slice_split_at (λ c. c == 10) l 10 more (λ k d h. ne_eqb _ 10 (inside k d h)) refl in
    let some = parts_are_some (λ c. c == 10) more in
    rw (cut, some.2) refl

pub lines_of-open : (l : List ℕ) → IsInLine l → lines_of l ≡ last_line l
lines_of-open l inside = rw (one_line l inside) refl

-- ---- reads

-- the last read gave nothing
pub consumes_none : (unread was left : Option (List ℕ)) (given buf : List ℕ) (n : ℕ) → Consumes unread was given → Consumes was left (take n buf) → n ≡ 0 → Consumes unread left given
consumes_none unread was left given buf n before after zero =
    let same : given ++ take n buf ≡ given = rw zero (append-nil given) in
    rw (← same) (Consumes-trans unread was left given (take n buf) before after)

-- a read that failed took nothing
pub consumes_at_failure : {E : Type 0} (r : Result ℕ E) (unread was left : Option (List ℕ)) (given buf : List ℕ) → Consumes unread was given → ((n : ℕ) → r ≡ Ok n → ⊥) → ReadConsumes was left r buf → Consumes unread left given
consumes_at_failure (Ok n) unread was left given buf before fails after = absurd (fails n refl)
consumes_at_failure (Err e) unread was left given buf before fails after = Consumes-kept unread was left given before after

-- ---- no bytes

pub no_bytes : (xs : List ℕ) → length xs ≡ 0 → xs ≡ []
no_bytes [] e = refl
no_bytes (x ∷ xs) e = absurd (omega arith)

empty_front : (front rest : List ℕ) → [] ≡ front ++ rest → front ≡ []
empty_front [] rest e = refl
empty_front (x ∷ xs) rest e = cc

module _ (L : Language) where
  -- ---- answers

  pub AnswersIn-append : (cs ds : List L.Command) (old mid new : L.State) (one two : List ℕ) → AnswersIn L cs old one mid → AnswersIn L ds mid two new → AnswersIn L (cs ++ ds) old (one ++ two) new
  AnswersIn-append [] ds old mid new one two first second = rw (first.0, ← first.1) second
  AnswersIn-append (c ∷ cs) ds old mid new one two first second =
      (first.0, first.1 ++ two, first.2, rw first.3 (append_assoc first.0 first.1 two), first.4, AnswersIn-append cs ds first.2 mid new first.1 two first.5 second)

  -- the answer of one command
  pub only_answer : (c : L.Command) (old new : L.State) (text : List ℕ) → AnswersIn L (c ∷ []) old text new → L.gives c old text new
  only_answer c old new text given =
      let same : text ≡ given.0 = given.3 ∙ ap (λ r. given.0 ++ r) given.5.0 ∙ append-nil given.0 in
      rw (same, given.5.1) given.4

  -- answers that are whole are cut nowhere
  pub cut_nowhere : (cs : List L.Command) (old new : L.State) (text : List ℕ) → AnswersIn L cs old text new → CutAnswersIn L cs old text new
  cut_nowhere [] old new text given = given
  cut_nowhere (c ∷ []) old new text given = (text, ([], sym (append-nil text)), only_answer c old new text given)
  cut_nowhere (c ∷ d ∷ cs) old new text given = (given.0, given.1, given.2, given.3, given.4, cut_nowhere (d ∷ cs) given.2 new given.1 given.5)

  pub CutAnswersIn-append : (cs ds : List L.Command) (old mid new : L.State) (one two : List ℕ) → AnswersIn L cs old one mid → CutAnswersIn L ds mid two new → CutAnswersIn L (cs ++ ds) old (one ++ two) new
  CutAnswersIn-append [] ds old mid new one two first second = rw (first.0, ← first.1) second
  CutAnswersIn-append (c ∷ []) [] old mid new one two first second =
      let same : one ≡ (one ++ two) ++ [] = sym (append-nil (one ++ two) ∙ ap (λ r. one ++ r) second.0 ∙ append-nil one) in
      (one, ([], same), rw second.1 (only_answer c old mid one first))
  CutAnswersIn-append (c ∷ []) (d ∷ ds) old mid new one two first second = (one, two, mid, refl, only_answer c old mid one first, second)
  CutAnswersIn-append (c ∷ e ∷ cs) ds old mid new one two first second =
      (first.0, first.1 ++ two, first.2, rw first.3 (append_assoc first.0 first.1 two), first.4, CutAnswersIn-append (e ∷ cs) ds first.2 mid new first.1 two first.5 second)

  -- of one command a front of the answer is a cut answer
  pub cut_few : (cs : List L.Command) (old new : L.State) (text front rest : List ℕ) → AtMostOne cs → AnswersIn L cs old text new → text ≡ front ++ rest → CutAnswersIn L cs old front new
  cut_few [] old new text front rest few given cut = (empty_front front rest (sym given.0 ∙ cut), given.1)
  cut_few (c ∷ []) old new text front rest few given cut = (text, (rest, cut), only_answer c old new text given)
  cut_few (c ∷ d ∷ cs) old new text front rest few given cut = absurd few

  -- ---- lines that were run

  -- what was done, and then written
  pub line_runs : (s t : L.Stage) (line answer : List ℕ) (old new : L.State) (was now : Option (List ℕ)) → t ≡ (L.step s line).1 → AnswersIn L (L.step s line).0 old answer new → Wrote was answer true now
      → LineRuns L s line t old was now new
  line_runs s t line answer old new was now stage answers wrote =
      let same : answer ≡ wrote.front = wrote.cut ∙ ap (λ r. wrote.front ++ r) (wrote.whole refl) ∙ append-nil wrote.front in
      record { written = answer; stage = stage; appended = rw same wrote.appended; answers = answers }

  pub line_stops : OneByOne L → (s : L.Stage) (line answer : List ℕ) (old new : L.State) (was now : Option (List ℕ)) → AnswersIn L (L.step s line).0 old answer new → Wrote was answer false now
      → LineStops L s line old was now new
  line_stops few s line answer old new was now answers wrote = record {
    executed = (L.step s line).0;
    written = wrote.front;
    first = ([], sym (append-nil (L.step s line).0));
    appended = wrote.appended;
    answers = cut_few (L.step s line).0 old new answer wrote.front wrote.rest (few.lines s line) answers wrote.cut;
  }

  -- ---- commands of some lines, and of more

  done_later : (s t : L.Stage) (cs ds : List L.Command) (first second : List (List ℕ)) → cs ≡ completed_in L s first → t ≡ stage_behind L s first → ds ≡ completed_in L t second → cs ++ ds ≡ completed_in L s (first ++ second)
  done_later s t cs ds first second before stage after =
      let later : ds ≡ completed_in L (stage_behind L s first) second = after ∙ ap (λ v. completed_in L v second) stage in
      ap (λ xs. xs ++ ds) before ∙ ap (λ xs. completed_in L s first ++ xs) later ∙ sym (completed_in-append L s first second)

  -- ---- bytes that were run

  pub runs_none : (s : L.Stage) (line : List ℕ) (old : L.State) (was : Option (List ℕ)) → Runs L s line [] s line old was was old
  runs_none s line old was = record {
    whole = [];
    executed = [];
    written = [];
    place = append-nil line;
    are_whole = inl refl;
    stage = refl;
    done = refl;
    appended = Appends-nil was;
    answers = (refl, refl);
  }

  -- some more of a line
  pub runs_part : (s : L.Stage) (line bytes : List ℕ) (t : L.Stage) (begun part : List ℕ) (old new : L.State) (was now : Option (List ℕ)) → Runs L s line bytes t begun old was now new
      → Runs L s line (bytes ++ part) t (begun ++ part) old was now new
  runs_part s line bytes t begun part old new was now r = record {
    whole = r.whole;
    executed = r.executed;
    written = r.written;
    place = sym (append_assoc line bytes part) ∙ ap (λ xs. xs ++ part) r.place ∙ append_assoc r.whole begun part;
    are_whole = r.are_whole;
    stage = r.stage;
    done = r.done;
    appended = r.appended;
    answers = r.answers;
  }

  -- one run after another
  pub runs_runs : (s : L.Stage) (line bytes : List ℕ) (t : L.Stage) (begun more : List ℕ) (u : L.Stage) (rest : List ℕ) (old mid new : L.State) (was now then_now : Option (List ℕ)) → Runs L s line bytes t begun old was now mid
      → Runs L t begun more u rest mid now then_now new → Runs L s line (bytes ++ more) u rest old was then_now new
  runs_runs s line bytes t begun more u rest old mid new was now then_now r q =
      let first = ended_lines r.whole in
      let second = ended_lines q.whole in
      let both : ended_lines (r.whole ++ q.whole) ≡ first ++ second = ended_lines-append r.whole q.whole r.are_whole in
      record {
        whole = r.whole ++ q.whole;
        executed = r.executed ++ q.executed;
        written = r.written ++ q.written;
        place = sym (append_assoc line bytes more) ∙ ap (λ xs. xs ++ more) r.place ∙ append_assoc r.whole begun more ∙ ap (λ xs. r.whole ++ xs) q.place ∙ sym (append_assoc r.whole q.whole rest);
        are_whole = whole-append r.whole q.whole r.are_whole q.are_whole;
        stage = q.stage ∙ ap (λ v. stage_behind L v second) r.stage ∙ sym (ap (stage_behind L s) both ∙ stage_behind-append L s first second);
        done = done_later s t r.executed q.executed first second r.done r.stage q.done ∙ sym (ap (completed_in L s) both);
        appended = Appends-trans was now then_now r.written q.written r.appended q.appended;
        answers = AnswersIn-append r.executed q.executed old mid new r.written q.written r.answers q.answers;
      }

  -- the newline behind a line
  line_ended : (t u : L.Stage) (begun : List ℕ) (mid new : L.State) (now then_now : Option (List ℕ)) → IsInLine begun → LineRuns L t begun u mid now then_now new → Runs L t begun (10 ∷ []) u [] mid now then_now new
  line_ended t u begun mid new now then_now inside l =
      let ended : ended_lines (begun ++ 10 ∷ []) ≡ begun ∷ [] = ended_lines-one begun inside in
      record {
        whole = begun ++ 10 ∷ [];
        executed = (L.step t begun).0;
        written = l.written;
        place = sym (append-nil (begun ++ 10 ∷ []));
        are_whole = inr (begun, refl);
        stage = l.stage ∙ sym (ap (stage_behind L t) ended);
        done = sym (ap (completed_in L t) ended ∙ append-nil (L.step t begun).0);
        appended = l.appended;
        answers = l.answers;
      }

  -- a whole line more
  pub runs_line : (s : L.Stage) (line bytes : List ℕ) (t u : L.Stage) (begun : List ℕ) (old mid new : L.State) (was now then_now : Option (List ℕ)) → IsInLine begun → Runs L s line bytes t begun old was now mid
      → LineRuns L t begun u mid now then_now new → Runs L s line (bytes ++ 10 ∷ []) u [] old was then_now new
  runs_line s line bytes t u begun old mid new was now then_now inside r l =
      runs_runs s line bytes t begun (10 ∷ []) u [] old mid new was now then_now r (line_ended t u begun mid new now then_now inside l)

  -- the commands of a script behind these bytes
  pub splits : {s t : L.Stage} {line bytes begun : List ℕ} {old new : L.State} {was now : Option (List ℕ)} (r : Runs L s line bytes t begun old was now new) (more : List ℕ)
      → commands_in L s (lines_of (line ++ (bytes ++ more))) ≡ r.executed ++ commands_in L t (lines_of (begun ++ more))
  splits {s} {t} {line} {bytes} {begun} r more =
      let place : line ++ (bytes ++ more) ≡ r.whole ++ (begun ++ more) = sym (append_assoc line bytes more) ∙ ap (λ xs. xs ++ more) r.place ∙ append_assoc r.whole begun more in
      ap (λ xs. commands_in L s (lines_of xs)) place ∙ commands_behind L s r.whole (begun ++ more) r.are_whole
      ∙ ap (λ cs. cs ++ commands_in L (stage_behind L s (ended_lines r.whole)) (lines_of (begun ++ more))) (sym r.done)
      ∙ ap (λ v. r.executed ++ commands_in L v (lines_of (begun ++ more))) (sym r.stage)

  -- ---- runs that stop

  -- within the answer to a line
  pub stops_line : (s : L.Stage) (line bytes : List ℕ) (t : L.Stage) (begun tail : List ℕ) (old mid new : L.State) (was now then_now : Option (List ℕ)) → IsInLine begun
      → Runs L s line bytes t begun old was now mid → LineStops L t begun mid now then_now new → Stops L WriteFault s line (bytes ++ 10 ∷ tail) old was then_now new
  stops_line s line bytes t begun tail old mid new was now then_now inside r l = record {
    executed = r.executed ++ l.executed;
    written = r.written ++ l.written;
    first = λ more.
        let after = commands_in L (L.step t begun).1 (lines_of (tail ++ more)) in
        let next : commands_in L t (lines_of (begun ++ 10 ∷ (tail ++ more))) ≡ (l.executed ++ l.first.0) ++ after
        = ap (commands_in L t) (lines_of-cons begun (tail ++ more) inside) ∙ ap (λ cs. cs ++ after) l.first.1 in (
          l.first.0 ++ after,
          ap (λ xs. commands_in L s (lines_of (line ++ xs))) (append_assoc bytes (10 ∷ tail) more) ∙ splits r (10 ∷ (tail ++ more)) ∙ ap (λ cs. r.executed ++ cs) next
              ∙ ap (λ cs. r.executed ++ cs) (append_assoc l.executed l.first.0 after) ∙ sym (append_assoc r.executed l.executed (l.first.0 ++ after)),
        );
    appended = Appends-trans was now then_now r.written l.written r.appended l.appended;
    answers = CutAnswersIn-append r.executed l.executed old mid new r.written l.written r.answers l.answers;
    before = tt;
  }

  -- a line is too long
  pub stops_long : (s : L.Stage) (line bytes : List ℕ) (t : L.Stage) (begun part tail : List ℕ) (old new : L.State) (was now : Option (List ℕ)) → IsInLine (begun ++ part) → most_line < length (begun ++ part)
      → Runs L s line bytes t begun old was now new → Stops L LineTooLong s line (bytes ++ (part ++ tail)) old was now new
  stops_long s line bytes t begun part tail old new was now inside long r = record {
    executed = r.executed;
    written = r.written;
    first = λ more. (
      commands_in L t (lines_of (begun ++ ((part ++ tail) ++ more))),
      ap (λ xs. commands_in L s (lines_of (line ++ xs))) (append_assoc bytes (part ++ tail) more) ∙ splits r ((part ++ tail) ++ more),
    );
    appended = r.appended;
    answers = r.answers;
    before = (
      r.whole,
      record {
        line = begun ++ part;
        rest = tail;
        place = sym (append_assoc line bytes (part ++ tail)) ∙ ap (λ xs. xs ++ (part ++ tail)) r.place ∙ simp append_assoc;
        are_whole = r.are_whole;
        in_line = inside;
        long = long;
      },
      r.done,
    );
  }

  -- no memory for a line
  pub stops_memory : (s : L.Stage) (line bytes : List ℕ) (t : L.Stage) (begun tail : List ℕ) (old new : L.State) (was now : Option (List ℕ)) → Runs L s line bytes t begun old was now new → Stops L (Memory out_of_memory) s line (bytes ++ tail) old was now new
  stops_memory s line bytes t begun tail old new was now r = record {
    executed = r.executed;
    written = r.written;
    first = λ more. (
      commands_in L t (lines_of (begun ++ (tail ++ more))),
      ap (λ xs. commands_in L s (lines_of (line ++ xs))) (append_assoc bytes tail more) ∙ splits r (tail ++ more),
    );
    appended = r.appended;
    answers = r.answers;
    before = (r.whole, begun ++ tail, sym (append_assoc line bytes tail) ∙ ap (λ xs. xs ++ tail) r.place ∙ append_assoc r.whole begun tail, r.are_whole, r.done);
  }

  -- ---- one command

  pub one_answer : (c : L.Command) (old new : L.State) (text : List ℕ) → L.gives c old text new → AnswersIn L (c ∷ []) old text new
  one_answer c old new text given = (text, [], new, sym (append-nil text), given, (refl, refl))

  -- ---- lines that are written

  -- the answer to a line could not be written
  pub line_stopped : OneByOne L → (r : Result (Unit {0}) RunFault) (s : L.Stage) (line answer : List ℕ) (old new : L.State) (was now : Option (List ℕ)) → AnswersIn L (L.step s line).0 old answer new → Wrote was answer (is_ok r) now
      → IfErr r (λ f. f ≡ WriteFault) → IfErr r (λ f. StopsInLine L f s line old was now new)
  line_stopped few (Ok x) s line answer old new was now answers wrote fault = tt
  line_stopped few (Err e) s line answer old new was now answers wrote fault =
      subst (λ f. StopsInLine L f s line old was now new) (sym fault) (line_stops few s line answer old new was now answers wrote)

  -- ---- the end of a script

  -- the answer to the end, of which a front was written
  left_cut : OneByOne L → (s : L.Stage) (held : L.State) (answer front rest : List ℕ) → EndAnswered L s held answer → answer ≡ front ++ rest → CutAnswersIn L (L.left_open s) held front held
  left_cut few s held answer front rest given cut = cut_few (L.left_open s) held held answer front rest (few.ends s) given cut

  finish_empty : OneByOne L → (r : Result (Unit {0}) RunFault) (s : L.Stage) (old : L.State) (was now : Option (List ℕ)) → WroteEnd L s old was (is_ok r) now → OnOk r (Finishes L s [] old was now old) × OnErr r (FinishStops L s [] old was now old)
  finish_empty few (Ok x) s old was now w =
      let wrote = w.2 in
      let same : w.0 ≡ wrote.front = wrote.cut ∙ ap (λ q. wrote.front ++ q) (wrote.whole refl) ∙ append-nil wrote.front in
      (record { written = w.0; appended = rw same wrote.appended; answers = w.1 }, tt)
  finish_empty few (Err e) s old was now w = (
    tt,
    record {
      executed = L.left_open s;
      written = w.2.front;
      first = ([], sym (append-nil (L.left_open s)));
      appended = w.2.appended;
      answers = left_cut few s old w.0 w.2.front w.2.rest w.1 w.2.cut;
    },
  )

  -- no line is open
  pub finish_none : OneByOne L → (r : Result (Unit {0}) RunFault) (s : L.Stage) (line : List ℕ) (old : L.State) (was now : Option (List ℕ)) → line ≡ [] → WroteEnd L s old was (is_ok r) now → OnOk r (Finishes L s line old was now old) × OnErr r (FinishStops L s line old was now old)
  finish_none few r s line old was now none wrote = rw none (finish_empty few r s old was now wrote)

  -- the commands behind a last line
  last_commands : (s : L.Stage) (line : List ℕ) → IsInLine line → 0 < length line → commands_in L s (lines_of line) ≡ (L.step s line).0 ++ L.left_open (L.step s line).1
  last_commands s [] inside some = absurd (omega arith)
  last_commands s (c ∷ cs) inside some = ap (commands_in L s) (lines_of-open (c ∷ cs) inside)

  -- a line was open, and is answered
  pub finish_some : OneByOne L → (r : Result (Unit {0}) RunFault) (s t : L.Stage) (line : List ℕ) (old mid : L.State) (was now then_now : Option (List ℕ)) → IsInLine line → 0 < length line → LineRuns L s line t old was now mid → WroteEnd L t mid now (is_ok r) then_now
      → OnOk r (Finishes L s line old was then_now mid) × OnErr r (FinishStops L s line old was then_now mid)
  finish_some few (Ok x) s t line old mid was now then_now inside some l w =
      let wrote = w.2 in
      let same : w.0 ≡ wrote.front = wrote.cut ∙ ap (λ q. wrote.front ++ q) (wrote.whole refl) ∙ append-nil wrote.front in
      let all = last_commands s line inside some in (
        record {
          written = l.written ++ w.0;
          appended = Appends-trans was now then_now l.written w.0 l.appended (rw same wrote.appended);
          answers = rw (all, ← l.stage) (AnswersIn-append (L.step s line).0 (L.left_open t) old mid mid l.written w.0 l.answers w.1);
        },
        tt,
      )
  finish_some few (Err e) s t line old mid was now then_now inside some l w =
      let wrote = w.2 in
      let all = last_commands s line inside some in (
        tt,
        record {
          executed = (L.step s line).0 ++ L.left_open t;
          written = l.written ++ wrote.front;
          first = ([], rw (all, ← l.stage) (sym (append-nil ((L.step s line).0 ++ L.left_open t))));
          appended = Appends-trans was now then_now l.written wrote.front l.appended wrote.appended;
          answers = CutAnswersIn-append (L.step s line).0 (L.left_open t) old mid mid l.written wrote.front l.answers (left_cut few t mid w.0 wrote.front wrote.rest w.1 wrote.cut);
        },
      )

  -- a line was open, and its answer was cut off
  finish_cut : (s : L.Stage) (line : List ℕ) (old new : L.State) (was now : Option (List ℕ)) → IsInLine line → 0 < length line → LineStops L s line old was now new → FinishStops L s line old was now new
  finish_cut s line old new was now inside some l = record {
    executed = l.executed;
    written = l.written;
    first = (
      l.first.0 ++ L.left_open (L.step s line).1,
      last_commands s line inside some ∙ ap (λ cs. cs ++ L.left_open (L.step s line).1) l.first.1 ∙ append_assoc l.executed l.first.0 (L.left_open (L.step s line).1),
    );
    appended = l.appended;
    answers = l.answers;
  }

  -- the end could not be written
  pub at_end : (r : Result (Unit {0}) RunFault) (s : L.Stage) (line : List ℕ) (old new : L.State) (was now : Option (List ℕ)) → IfErr r (λ f. f ≡ WriteFault) → OnErr r (FinishStops L s line old was now new)
      → IfErr r (λ f. StopsAtEnd L f s line old was now new)
  at_end (Ok x) s line old new was now fault stops = tt
  at_end (Err e) s line old new was now fault stops = subst (λ f. StopsAtEnd L f s line old was now new) (sym fault) stops

  -- a line was open, and the run stopped in it
  pub finish_stopped : (f : RunFault) (s : L.Stage) (line : List ℕ) (old new : L.State) (was now : Option (List ℕ)) → IsInLine line → 0 < length line → StopsInLine L f s line old was now new → StopsAtEnd L f s line old was now new
  finish_stopped ReadFault s line old new was now inside some l = l
  finish_stopped WriteFault s line old new was now inside some l = finish_cut s line old new was now inside some l
  finish_stopped LineTooLong s line old new was now inside some l = l
  finish_stopped (Memory m) s line old new was now inside some l = l

  -- ---- whole runs

  pub ran_to_end : (s : L.Stage) (unread left : Option (List ℕ)) (given : List ℕ) (t : L.Stage) (begun : List ℕ) (old mid new : L.State) (was now then_now : Option (List ℕ)) → Consumes unread left given → IsAtEnd left
      → Runs L s [] given t begun old was now mid → Finishes L t begun mid now then_now new → RanToEndIn L s unread left old was then_now new
  ran_to_end s unread left given t begun old mid new was now then_now taken ended r q =
      let all : commands_in L s (lines_of given) ≡ r.executed ++ commands_in L t (lines_of begun)
      = ap (λ xs. commands_in L s (lines_of xs)) (sym (append-nil given)) ∙ splits r [] ∙ ap (λ xs. r.executed ++ commands_in L t (lines_of xs)) (append-nil begun) in
      record {
        script = given;
        written = r.written ++ q.written;
        given = taken;
        ended = ended;
        appended = Appends-trans was now then_now r.written q.written r.appended q.appended;
        answers = rw all (AnswersIn-append r.executed (commands_in L t (lines_of begun)) old mid new r.written q.written r.answers q.answers);
      }

  -- the answer to the end of a script could not be written
  cut_at_end : (s : L.Stage) (unread left : Option (List ℕ)) (given : List ℕ) (t : L.Stage) (begun : List ℕ) (old mid new : L.State) (was now then_now : Option (List ℕ)) → Consumes unread left given → IsAtEnd left
      → Runs L s [] given t begun old was now mid → FinishStops L t begun mid now then_now new → StoppedAtIn L s (run_fault_of WriteFault) unread left old was then_now new
  cut_at_end s unread left given t begun old mid new was now then_now taken ended r q =
      let all : commands_in L s (lines_of given) ≡ r.executed ++ commands_in L t (lines_of begun)
      = ap (λ xs. commands_in L s (lines_of xs)) (sym (append-nil given)) ∙ splits r [] ∙ ap (λ xs. r.executed ++ commands_in L t (lines_of xs)) (append-nil begun) in
      let fronts : commands_in L s (lines_of given) ≡ (r.executed ++ q.executed) ++ q.first.0 = all ∙ ap (λ cs. r.executed ++ cs) q.first.1 ∙ sym (append_assoc r.executed q.executed q.first.0) in
      record {
        given = given;
        written = r.written ++ q.written;
        ended = true;
        taken = taken;
        at_end = λ e. ended;
        appended = Appends-trans was now then_now r.written q.written r.appended q.appended;
        answers = (
          r.executed ++ q.executed,
          λ script same. (q.first.0, ap (λ xs. commands_in L s (lines_of xs)) same ∙ fronts),
          CutAnswersIn-append r.executed q.executed old mid new r.written q.written r.answers q.answers,
        );
      }

  -- the commands of the whole lines that have come
  completed_before : {s t : L.Stage} {given begun : List ℕ} {old new : L.State} {was now : Option (List ℕ)} (r : Runs L s [] given t begun old was now new) → BeforeIn L s given old r.written new
  completed_before {s = s} {given = given} {begun = begun} r = (r.whole, begun, r.place, r.are_whole, (completed_are_first L s r.whole r.are_whole, rw (← r.done) r.answers))

  -- memory was wanted to read the last line
  unread_at_end : (s : L.Stage) (unread left : Option (List ℕ)) (given : List ℕ) (t : L.Stage) (begun : List ℕ) (old new : L.State) (was now : Option (List ℕ)) → Consumes unread left given → IsAtEnd left
      → Runs L s [] given t begun old was now new → StoppedAtIn L s (run_fault_of (Memory out_of_memory)) unread left old was now new
  unread_at_end s unread left given t begun old new was now taken ended r = record {
    given = given;
    written = r.written;
    ended = true;
    taken = taken;
    at_end = λ e. ended;
    appended = r.appended;
    answers = completed_before r;
  }

  pub stopped_at_end : (s : L.Stage) (f : RunFault) (unread left : Option (List ℕ)) (given : List ℕ) (t : L.Stage) (begun : List ℕ) (old mid new : L.State) (was now then_now : Option (List ℕ)) → Consumes unread left given → IsAtEnd left
      → Runs L s [] given t begun old was now mid → StopsAtEnd L f t begun mid now then_now new → StoppedAtIn L s (run_fault_of f) unread left old was then_now new
  stopped_at_end s ReadFault unread left given t begun old mid new was now then_now taken ended r q = absurd q
  stopped_at_end s WriteFault unread left given t begun old mid new was now then_now taken ended r q = cut_at_end s unread left given t begun old mid new was now then_now taken ended r q
  stopped_at_end s LineTooLong unread left given t begun old mid new was now then_now taken ended r q = absurd q
  stopped_at_end s (Memory m) unread left given t begun old mid new was now then_now taken ended r q = rw (q.0, q.1) (unread_at_end s unread left given t begun old mid was now taken ended r)

  -- a read failed, or the turns ran out
  pub stopped_in_reading : (s : L.Stage) (unread left : Option (List ℕ)) (given : List ℕ) (t : L.Stage) (begun : List ℕ) (old new : L.State) (was now : Option (List ℕ)) → Consumes unread left given → IsInLine begun
      → Runs L s [] given t begun old was now new → StoppedAtIn L s (run_fault_of ReadFault) unread left old was now new
  stopped_in_reading s unread left given t begun old new was now taken inside r =
      let ended : ended_lines given ≡ ended_lines r.whole
      = ap ended_lines r.place ∙ ended_lines-append r.whole begun r.are_whole ∙ ap (λ ls. ended_lines r.whole ++ ls) (ended_lines-open begun inside) ∙ append-nil (ended_lines r.whole) in
      let all : completed_in L s (ended_lines given) ≡ r.executed = ap (completed_in L s) ended ∙ sym r.done in
      record {
        given = given;
        written = r.written;
        ended = false;
        taken = taken;
        at_end = λ e. absurd (false≢true e);
        appended = r.appended;
        answers = (
          λ script more. (commands_in L t (lines_of (begun ++ more.0)), ap (λ xs. commands_in L s (lines_of xs)) more.1 ∙ splits r more.0 ∙ ap (λ cs. cs ++ commands_in L t (lines_of (begun ++ more.0))) (sym all)),
          rw all r.answers,
        );
      }

  -- the run stopped within the bytes
  runs_at : (s : L.Stage) (f : RunFault) (given : List ℕ) (old new : L.State) (written : List ℕ) (executed : List L.Command) → (f ≡ ReadFault → ⊥) → AreFirstIn L s executed false given → AnswersAt L f executed old written new → Before L f s executed given
      → RunsAtIn L s (run_fault_of f) false given old written new
  runs_at s ReadFault given old new written executed other first answers before = absurd (other refl)
  runs_at s WriteFault given old new written executed other first answers before = (executed, first, answers)
  runs_at s LineTooLong given old new written executed other first answers before = (before.0, before.1, (completed_are_first L s before.0 before.1.are_whole, rw (sym before.2) answers))
  runs_at s (Memory m) given old new written executed other first answers before = (before.0, before.1, before.2, before.3, (completed_are_first L s before.0 before.3, rw (← before.4) answers))

  answers_before : (f : RunFault) (cs ds : List L.Command) (old mid new : L.State) (one two : List ℕ) → AnswersIn L cs old one mid → AnswersAt L f ds mid two new → AnswersAt L f (cs ++ ds) old (one ++ two) new
  answers_before ReadFault cs ds old mid new one two first second = AnswersIn-append cs ds old mid new one two first second
  answers_before WriteFault cs ds old mid new one two first second = CutAnswersIn-append cs ds old mid new one two first second
  answers_before LineTooLong cs ds old mid new one two first second = AnswersIn-append cs ds old mid new one two first second
  answers_before (Memory m) cs ds old mid new one two first second = AnswersIn-append cs ds old mid new one two first second

  before_later : (f : RunFault) (s t : L.Stage) (cs ds : List L.Command) (whole bytes all : List ℕ) → all ≡ whole ++ bytes → AreWholeLines whole → cs ≡ completed_in L s (ended_lines whole) → t ≡ stage_behind L s (ended_lines whole)
      → Before L f t ds bytes → Before L f s (cs ++ ds) all
  before_later ReadFault s t cs ds whole bytes all e w done stage before = tt
  before_later WriteFault s t cs ds whole bytes all e w done stage before = tt
  before_later LineTooLong s t cs ds whole bytes all e w done stage before =
      let b = before.1 in (
        whole ++ before.0,
        record {
          line = b.line;
          rest = b.rest;
          place = e ∙ ap (λ xs. whole ++ xs) b.place ∙ simp append_assoc;
          are_whole = whole-append whole before.0 w b.are_whole;
          in_line = b.in_line;
          long = b.long;
        },
        done_later s t cs ds (ended_lines whole) (ended_lines before.0) done stage before.2 ∙ sym (ap (completed_in L s) (ended_lines-append whole before.0 w)),
      )
  before_later (Memory m) s t cs ds whole bytes all e w done stage before = (
    whole ++ before.0,
    before.1,
    e ∙ ap (λ xs. whole ++ xs) before.2 ∙ sym (append_assoc whole before.0 before.1),
    whole-append whole before.0 w before.3,
    done_later s t cs ds (ended_lines whole) (ended_lines before.0) done stage before.4 ∙ sym (ap (completed_in L s) (ended_lines-append whole before.0 w)),
  )

  pub stopped_in_bytes : (s : L.Stage) (f : RunFault) (unread left : Option (List ℕ)) (given bytes : List ℕ) (t : L.Stage) (begun : List ℕ) (old mid new : L.State) (was now then_now : Option (List ℕ)) → (f ≡ ReadFault → ⊥) → Consumes unread left (given ++ bytes)
      → Runs L s [] given t begun old was now mid → Stops L f t begun bytes mid now then_now new → StoppedAtIn L s (run_fault_of f) unread left old was then_now new
  stopped_in_bytes s f unread left given bytes t begun old mid new was now then_now other taken r q =
      let place : given ++ bytes ≡ r.whole ++ (begun ++ bytes) = ap (λ xs. xs ++ bytes) r.place ∙ append_assoc r.whole begun bytes in
      record {
        given = given ++ bytes;
        written = r.written ++ q.written;
        ended = false;
        taken = taken;
        at_end = λ e. absurd (false≢true e);
        appended = Appends-trans was now then_now r.written q.written r.appended q.appended;
        answers = runs_at s f (given ++ bytes) old new (r.written ++ q.written) (r.executed ++ q.executed) other
            (λ script more.
            let next = q.first more.0 in (
              next.0,
              ap (λ xs. commands_in L s (lines_of xs)) (more.1 ∙ append_assoc given bytes more.0) ∙ splits r (bytes ++ more.0) ∙ ap (λ cs. r.executed ++ cs) next.1 ∙ sym (append_assoc r.executed q.executed next.0),
            ))
            (answers_before f r.executed q.executed old mid new r.written q.written r.answers q.answers)
            (before_later f s t r.executed q.executed r.whole (begun ++ bytes) (given ++ bytes) place r.are_whole r.done r.stage q.before);
      }
