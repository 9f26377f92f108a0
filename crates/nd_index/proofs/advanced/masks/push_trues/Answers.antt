use Rattle.std.proofs.Common.{◌≡◌, ◌+◌, ◌≤◌, ◌^◌, List, ℕ, ◌++◌, map, length, drop, sym, ap, subst, ◌∙◌, arith}
use Rattle.std.specs.List.{All}
use Rattle.std.proofs.lemmas.List.{take-append-drop, drop-drop, length-drop, length-map, length-take-le}
use Rattle.nd_model.specs.Indexing.Advanced.{is_nonzero}
use Rattle.nd_model.specs.Arrays.Content.{number_at}
use Rattle.nd_element.specs.Elements.{numbers_at}
use Rattle.nd_index.specs.Offsets.RowPlaces.{chosen_places}
use Rattle.nd_index.proofs.items.Items.{near_trues}
use Rattle.nd_index.proofs.advanced.SoleArrays.{piece_more, true_run, trues_split}
use Rattle.nd_index.proofs.advanced.masks.push_trues.Goals as goal

pub push_numbers-requires : goal.push_numbers-requires
push_numbers-requires c =
    let e = c.args.mask.now.elem.now in let bytes = c.args.mask.now.bytes.now in let part : List ℕ = c.part-part.result in let at = c.loop-at.at in
    let fits : c.min.result ≤ length (drop at c.args.run.now) = omega (arith, c.min.ensures, length-drop at c.args.run.now, c.count-in-loop-at.ensures.value) in
    let long : length part ≡ c.min.result = ap length c.part-part.ensures ∙ length-take-le c.min.result (drop at c.args.run.now) fits in
    let many : length (map is_nonzero (numbers_at e bytes part)) ≡ length part = length-map (numbers_at e bytes part) is_nonzero ∙ length-map part (number_at e bytes) in
    subst (All (λ k. k ≤ 2 ^ 32)) (sym c.write_true_numbers-count.ensures.numbers)
    (near_trues (c.args.first + at) (map is_nonzero (numbers_at e bytes part)) (omega (arith, many, long, c.requires, fits, length-drop at c.args.run.now, c.loop-at.invariant.few)))

pub loop-at-preserved : goal.loop-at-preserved
loop-at-preserved c =
    let row = c.args.row.now in let axes = c.args.axes.now in
    let e = c.args.mask.now.elem.now in let bytes = c.args.mask.now.bytes.now in let run : List ℕ = c.args.run.now in let at = c.loop-at.at in let n = c.min.result in
    let part : List ℕ = c.part-part.result in let rest : List ℕ = drop n (drop at run) in
    let fits : n ≤ length (drop at run) = omega (arith, c.min.ensures, length-drop at run, c.count-in-loop-at.ensures.value) in
    let long : length part ≡ n = ap length c.part-part.ensures ∙ length-take-le n (drop at run) fits in
    let counted : c.count-at.result ≡ n = c.count-at.ensures.value ∙ long in
    let parts : drop at run ≡ part ++ rest = sym (ap (λ p. p ++ rest) c.part-part.ensures ∙ take-append-drop n (drop at run)) in
    let pushed : c.push_numbers.new.places.items ≡ c.loop-at.places.items ++ true_run row axes e bytes (c.args.first + at) part
    = c.in_ok-push_numbers.ensures ∙ ap (λ ks. c.loop-at.places.items ++ chosen_places row axes ks) c.write_true_numbers-count.ensures.numbers in
    let next : at + c.count-at.result ≡ at + n = omega (arith, counted) in
    let further : c.args.first + (at + c.count-at.result) ≡ c.args.first + at + length part = omega (arith, counted, long) in
    let more = piece_more (true_run row axes e bytes (c.args.first + at)) (true_run row axes e bytes (c.args.first + at + length part)) c.loop-at.places.items c.push_numbers.new.places.items _ (drop at run) part rest
    parts (trues_split row axes e bytes (c.args.first + at) part rest) pushed c.loop-at.invariant.done in
    record {
      room = c.write_true_numbers-count.ensures.len ∙ c.loop-at.invariant.room;
      few = omega (arith, counted, fits, length-drop at run, c.loop-at.invariant.few);
      done = (λ i. c.push_numbers.new.places.items ++ true_run row axes e bytes (further i) ((ap (λ m. drop m run) next ∙ sym (drop-drop n at run)) i)) ∙ more;
    }
