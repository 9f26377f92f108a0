use Rattle.std.proofs.Common.{◌≡◌, ◌+◌, ◌≤◌, ◌^◌, [], ◌∷◌, ◌++◌, get_or, refl, sym, ap, subst, ◌∙◌, arith, append-nil}
use Rattle.std.specs.List.{All, concat, flat_map}
use Rattle.std.proofs.lemmas.Grind.{flat_map-append}
use Rattle.nd_types.specs.Types.{type_of}
use Rattle.nd_element.specs.Elements.{canonical_at}
use Rattle.nd_model.specs.Arrays.View.{item_size}
use Rattle.nd_model.specs.Book.Script.{hex_digits}
use Rattle.nd_view.proofs.ByRuns.{begun, taken, ended, in_run, behind_run}
use Rattle.nd_script.proofs.lines.Answers.{pushes_none, pushes_same, pushes_trans}
use Rattle.nd_script.proofs.words.Hex.{hex_digits-append}
use Rattle.nd_commands.proofs.elements.push_runs.Goals as goal

pub loop-run-init : goal.loop-run-init
loop-run-init g c = record {
  room = c.requires;
  so_far = ([], pushes_none _, ap (flat_map (canonical_at c.args.view.now.element c.args.bytes.now)) c.runs-runs.ensures.places);
  ends = subst (All (λ p. p + item_size c.args.view.now.element ≤ 2 ^ 64)) (sym c.runs-runs.ensures.places) c.runs-runs.ensures.ends;
}

pub loop-number-init : goal.loop-number-init
loop-number-init g c = record {
  room = c.loop-run.invariant.room;
  so_far = (
    c.loop-run.invariant.so_far.0,
    c.loop-run.invariant.so_far.1,
    begun (flat_map (canonical_at c.args.view.now.element c.args.bytes.now)) refl (flat_map-append (canonical_at c.args.view.now.element c.args.bytes.now)) (flat_map (canonical_at c.args.view.now.element c.args.bytes.now) c.args.view.now.places) c.loop-run.invariant.so_far.0 (concat c.loop-run.runs) c.in-Some.run' (concat c.next.new.self) (ap concat c.in-Some.ensures) c.loop-run.invariant.so_far.2,
  );
  ends = in_run (λ p. p + item_size c.args.view.now.element ≤ 2 ^ 64) c.in-Some.run' (concat c.next.new.self) (concat c.loop-run.runs) (ap concat c.in-Some.ensures) c.loop-run.invariant.ends;
  rest = behind_run (λ p. p + item_size c.args.view.now.element ≤ 2 ^ 64) c.in-Some.run' (concat c.next.new.self) (concat c.loop-run.runs) (ap concat c.in-Some.ensures) c.loop-run.invariant.ends;
}

pub loop-run-preserved : goal.loop-run-preserved
loop-run-preserved g c = record {
  room = c.loop-number.invariant.room;
  so_far = (
    c.loop-number.invariant.so_far.0,
    c.loop-number.invariant.so_far.1,
    ended (flat_map (canonical_at c.args.view.now.element c.args.bytes.now)) refl (flat_map-append (canonical_at c.args.view.now.element c.args.bytes.now)) (flat_map (canonical_at c.args.view.now.element c.args.bytes.now) c.args.view.now.places) c.loop-number.invariant.so_far.0 _ c.in-Some.run' c.loop-number.number (omega (arith, c.loop-number-test.false, c.count-number-end.ensures.value)) c.loop-number.invariant.so_far.2,
  );
  ends = c.loop-number.invariant.rest;
}

pub push_element-requires : goal.push_element-requires
push_element-requires g c =
    let end = c.loop-number.invariant.ends c.loop-number.number 0 (omega (arith, c.loop-number-test.true, c.count-number-end.ensures.value)) in
    record {
      room = c.loop-number.invariant.room ∙ ap item_size (sym c.elem.ensures);
      end = omega (arith, end, ap item_size c.elem.ensures, c.place.ensures);
    }

pub loop-number-preserved : goal.loop-number-preserved
loop-number-preserved g c =
    let F = canonical_at c.args.view.now.element c.args.bytes.now in
    let inv = c.loop-number.invariant.so_far in
    let one = canonical_at (type_of c.elem.result.now) c.args.bytes.now c.place.result in
    let more : inv.0 ++ one ≡ inv.0 ++ flat_map F (get_or c.in-Some.run' c.loop-number.number 0 ∷ [])
    = (λ i. inv.0 ++ canonical_at (c.elem.ensures i) c.args.bytes.now (c.place.ensures i)) ∙ ap (λ l. inv.0 ++ l) (sym (append-nil (F (get_or c.in-Some.run' c.loop-number.number 0)))) in
    record {
      room = c.push_element.ensures.room ∙ ap item_size c.elem.ensures;
      so_far = (
        inv.0 ++ one,
        pushes_same (sym (hex_digits-append inv.0 one)) (pushes_trans inv.1 c.push_element.ensures.pushed),
        taken (flat_map F) refl (flat_map-append F) (flat_map F c.args.view.now.places) inv.0 (inv.0 ++ one) _ c.in-Some.run' c.loop-number.number
            (omega (arith, c.loop-number-test.true, c.count-number-end.ensures.value)) more inv.2,
      );
      ends = c.loop-number.invariant.ends;
      rest = c.loop-number.invariant.rest;
    }

pub returns : goal.returns
returns g c =
    let F = canonical_at c.args.view.now.element c.args.bytes.now in
    let inv = c.loop-run.invariant.so_far in
    let all : inv.0 ≡ flat_map F c.args.view.now.places
    = sym (append-nil inv.0) ∙ ap (λ rs. inv.0 ++ flat_map F (concat rs)) (sym c.in_default.ensures.0) ∙ inv.2 in
    pushes_same (ap hex_digits all) inv.1
