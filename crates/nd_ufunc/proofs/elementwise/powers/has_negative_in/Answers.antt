use Rattle.std.proofs.Common.{◌≡◌, ℕ, ◌+◌, ◌≤◌, false, ◌++◌, List, map, length, sym, ap, ◌∙◌}
use Rattle.std.specs.Prelude.{◌||◌}
use Rattle.std.specs.List.{concat, list_any}
use Rattle.std.proofs.lemmas.List.{map-append}
use Rattle.nd_model.specs.Arrays.Content.{number_at}
use Rattle.nd_model.specs.Arrays.Element.{size_of}
use Rattle.nd_model.specs.Making.Operators.{is_negative}
use Rattle.nd_view.proofs.ByRuns.{in_run, behind_run}
use Rattle.nd_ufunc.proofs.elementwise.Any.{any-append}
use Rattle.nd_ufunc.proofs.elementwise.powers.has_negative_in.Goals as goal

pub has_negative-requires : goal.has_negative-requires
has_negative-requires c =
    in_run (λ p. p + size_of c.args.elem.kind ≤ length c.args.bytes.now) c.in-Some.run' (concat c.next.new.self) (concat c.loop-run.runs) (ap concat c.in-Some.ensures) c.loop-run.invariant.held

pub loop-run-preserved : goal.loop-run-preserved
loop-run-preserved c =
    let a = c.args in let run : List ℕ = c.in-Some.run' in let rest : List ℕ = concat c.next.new.self in let read = number_at a.elem a.bytes.now in
    let split : concat c.loop-run.runs ≡ run ++ rest = ap concat c.in-Some.ensures in
    let none : list_any is_negative (map read run) ≡ false = sym c.has_negative.ensures ∙ c.if-has_negative.false in
    record {
      held = behind_run (λ p. p + size_of a.elem.kind ≤ length a.bytes.now) run rest (concat c.loop-run.runs) split c.loop-run.invariant.held;
      left = sym (ap (λ ps. list_any is_negative (map read ps)) split ∙ ap (list_any is_negative) (map-append read run rest) ∙ any-append is_negative (map read run) (map read rest)
          ∙ ap (λ b. b || list_any is_negative (map read rest)) none) ∙ c.loop-run.invariant.left;
    }

pub returns-then-has_negative : goal.returns-then-has_negative
returns-then-has_negative c =
    let a = c.args in let run : List ℕ = c.in-Some.run' in let rest : List ℕ = concat c.next.new.self in let read = number_at a.elem a.bytes.now in
    let split : concat c.loop-run.runs ≡ run ++ rest = ap concat c.in-Some.ensures in
    sym (sym c.loop-run.invariant.left ∙ ap (λ ps. list_any is_negative (map read ps)) split ∙ ap (list_any is_negative) (map-append read run rest) ∙ any-append is_negative (map read run) (map read rest)
    ∙ ap (λ b. b || list_any is_negative (map read rest)) (sym c.has_negative.ensures ∙ c.if-has_negative.true))
