use Rattle.std.proofs.Common.{◌≡◌, ◌+◌, ◌≤◌, ◌^◌, ◌++◌, get_or, refl, sym, ap, ◌∙◌, arith, append-nil}
use Rattle.std.specs.List.{All, concat, flat_map}
use Rattle.std.proofs.lemmas.List.Elements.{All-from_get_or}
use Rattle.std.proofs.lemmas.Grind.{flat_map-append}
use Rattle.nd_model.specs.Arrays.View.{element_places, item_size}
use Rattle.nd_types.specs.Types.{type_of}
use Rattle.nd_view.proofs.ByRuns.{begun, taken, ended, in_run, behind_run}
use Rattle.nd_view.proofs.Fields.{ends}
use Rattle.nd_view.proofs.strided.View.byte_places.Goals as goal

pub loop-run-init : goal.loop-run-init
loop-run-init c =
    let all : All (λ p. p + item_size c.args.self.now.element ≤ 2 ^ 64) c.args.self.now.places
    = All-from_get_or (λ p. p + item_size c.args.self.now.element ≤ 2 ^ 64) c.args.self.now.places 0 (ends c.self.inside c.self.invariant c.args.self.now c.self.view_is) in
    rw (c.new-places.ensures.items, c.runs-runs.ensures.places) (record { all = refl; ends = all })

pub loop-number-init : goal.loop-number-init
loop-number-init c = record {
  all = begun (flat_map (element_places c.args.self.now.element)) refl (flat_map-append (element_places c.args.self.now.element)) (flat_map (element_places c.args.self.now.element) c.args.self.now.places) c.loop-run.places.items (concat c.loop-run.runs) c.in-Some.run' (concat c.next.new.self) (ap concat c.in-Some.ensures) c.loop-run.invariant.all;
  ends = in_run (λ p. p + item_size c.args.self.now.element ≤ 2 ^ 64) c.in-Some.run' (concat c.next.new.self) (concat c.loop-run.runs) (ap concat c.in-Some.ensures) c.loop-run.invariant.ends;
  rest = behind_run (λ p. p + item_size c.args.self.now.element ≤ 2 ^ 64) c.in-Some.run' (concat c.next.new.self) (concat c.loop-run.runs) (ap concat c.in-Some.ensures) c.loop-run.invariant.ends;
}

pub loop-run-preserved : goal.loop-run-preserved
loop-run-preserved c = record {
  all = ended (flat_map (element_places c.args.self.now.element)) refl (flat_map-append (element_places c.args.self.now.element)) (flat_map (element_places c.args.self.now.element) c.args.self.now.places) c.loop-number.places.items _ c.in-Some.run' c.loop-number.number (omega (arith, c.loop-number-test.false, c.count-number-end.ensures.value)) c.loop-number.invariant.all;
  ends = c.loop-number.invariant.rest;
}

pub push_element-requires : goal.push_element-requires
push_element-requires c =
    let size : item_size (type_of c.self.inside.elem) ≡ item_size c.args.self.now.element = λ i. item_size (c.self.view_is i).element in
    let end = c.loop-number.invariant.ends c.loop-number.number 0 (omega (arith, c.loop-number-test.true, c.count-number-end.ensures.value)) in
    omega (arith, end, size, c.place.ensures)

pub loop-number-preserved : goal.loop-number-preserved
loop-number-preserved c =
    let more = c.in_ok-push_element.ensures ∙ (λ i. c.loop-number.places.items ++ element_places (c.self.view_is i).element (c.place.ensures i))
    ∙ ap (λ l. c.loop-number.places.items ++ l) (sym (append-nil (element_places c.args.self.now.element (get_or c.in-Some.run' c.loop-number.number 0)))) in
    record {
      all = taken (flat_map (element_places c.args.self.now.element)) refl (flat_map-append (element_places c.args.self.now.element)) (flat_map (element_places c.args.self.now.element) c.args.self.now.places) c.loop-number.places.items c.push_element.new.places.items _ c.in-Some.run' c.loop-number.number
          (omega (arith, c.loop-number-test.true, c.count-number-end.ensures.value)) more c.loop-number.invariant.all;
      ends = c.loop-number.invariant.ends;
      rest = c.loop-number.invariant.rest;
    }
