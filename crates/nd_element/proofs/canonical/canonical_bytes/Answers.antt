use Rattle.std.proofs.Common.{◌+◌, ◌≤◌, ◌^◌, ◌++◌, get_or, refl, sym, ap, ◌∙◌, arith, append-nil}
use Rattle.std.specs.List.{concat, flat_map}
use Rattle.std.proofs.lemmas.Grind.{flat_map-append}
use Rattle.nd_element.specs.Elements.{canonical_at}
use Rattle.nd_model.specs.Arrays.View.{item_size}
use Rattle.nd_view.proofs.ByRuns.{begun, taken, ended, in_run, behind_run}
use Rattle.nd_element.proofs.canonical.canonical_bytes.Goals as goal

pub loop-number-init : goal.loop-number-init
loop-number-init c = record {
  all = begun (flat_map (canonical_at c.args.view.now.element c.args.bytes.now)) refl (flat_map-append (canonical_at c.args.view.now.element c.args.bytes.now)) (flat_map (canonical_at c.args.view.now.element c.args.bytes.now) c.args.view.now.places) c.loop-run.all.items (concat c.loop-run.runs) c.in-Some.run' (concat c.next.new.self) (ap concat c.in-Some.ensures) c.loop-run.invariant.all;
  ends = in_run (λ p. p + item_size c.args.view.now.element ≤ 2 ^ 64) c.in-Some.run' (concat c.next.new.self) (concat c.loop-run.runs) (ap concat c.in-Some.ensures) c.loop-run.invariant.ends;
  rest = behind_run (λ p. p + item_size c.args.view.now.element ≤ 2 ^ 64) c.in-Some.run' (concat c.next.new.self) (concat c.loop-run.runs) (ap concat c.in-Some.ensures) c.loop-run.invariant.ends;
}

pub loop-run-preserved : goal.loop-run-preserved
loop-run-preserved c = record {
  all = ended (flat_map (canonical_at c.args.view.now.element c.args.bytes.now)) refl (flat_map-append (canonical_at c.args.view.now.element c.args.bytes.now)) (flat_map (canonical_at c.args.view.now.element c.args.bytes.now) c.args.view.now.places) c.loop-number.all.items _ c.in-Some.run' c.loop-number.number (omega (arith, c.loop-number-test.false, c.count-number-end.ensures.value)) c.loop-number.invariant.all;
  ends = c.loop-number.invariant.rest;
}

pub push_canonical-requires : goal.push_canonical-requires
push_canonical-requires c =
    let end = c.loop-number.invariant.ends c.loop-number.number 0 (omega (arith, c.loop-number-test.true, c.count-number-end.ensures.value)) in
    omega (arith, end, ap item_size c.elem.ensures, c.place.ensures)

pub loop-number-preserved : goal.loop-number-preserved
loop-number-preserved c =
    let more = c.in_ok-push_canonical.ensures ∙ (λ i. c.loop-number.all.items ++ canonical_at (c.elem.ensures i) c.args.bytes.now (c.place.ensures i))
    ∙ ap (λ l. c.loop-number.all.items ++ l) (sym (append-nil (canonical_at c.args.view.now.element c.args.bytes.now (get_or c.in-Some.run' c.loop-number.number 0)))) in
    record {
      all = taken (flat_map (canonical_at c.args.view.now.element c.args.bytes.now)) refl (flat_map-append (canonical_at c.args.view.now.element c.args.bytes.now)) (flat_map (canonical_at c.args.view.now.element c.args.bytes.now) c.args.view.now.places) c.loop-number.all.items c.push_canonical.new.all.items _ c.in-Some.run' c.loop-number.number
          (omega (arith, c.loop-number-test.true, c.count-number-end.ensures.value)) more c.loop-number.invariant.all;
      ends = c.loop-number.invariant.ends;
      rest = c.loop-number.invariant.rest;
    }
