use Rattle.std.proofs.Common.{◌≡◌, ℕ, ◌+◌, ◌-◌, ◌*◌, ◌≤◌, ◌^◌, List, length, drop, refl, sym, ap, ◌∙◌, arith, length-append, length-take, length-drop}
use Rattle.std.specs.List.{concat, flat_map}
use Rattle.std.proofs.lemmas.List.{length-replicate}
use Rattle.std.proofs.lemmas.Slice.{drop-put_mid}
use borrow.Rule.Slice.PartMut.{put_mid}
use Rattle.nd_element.specs.Elements.{canonical_structure}
use Rattle.nd_view.proofs.ByRuns.{in_run, behind_run}
use Rattle.nd_convert.proofs.conversion.Pieces.{run_more, same_further, zeros_left, length-put_mid}
use Rattle.nd_convert.proofs.conversion.structures.copy_view.Goals as goal

pub copy_run-requires-clause-zeros : goal.copy_run-requires-clause-zeros
copy_run-requires-clause-zeros c =
    let a = c.args in let is = c.loop-run.invariant in let run = c.in-Some.run' in let rest : List (List ℕ) = c.next.new.self in
    let n = c.count.result in let size = c.size-size.result in let at = c.loop-run.at in let s = a.structure.now.1 in
    let all : length (concat c.loop-run.runs) ≡ length run + length (concat rest) = ap (λ l. length (concat l)) c.in-Some.ensures ∙ length-append run (concat rest) in
    let product : length (concat c.loop-run.runs) * s ≡ length run * s + length (concat rest) * s = ap (λ m. m * s) all ∙ omega arith in
    let bytes : n * size ≡ length run * s = λ i. c.count.ensures.value i * c.size-size.ensures.value i in
    let whole : length a.out.now ≡ length a.view.now.places * s = ap length c.requires.zeros ∙ length-replicate (length a.view.now.places * s) 0 in
    zeros_left a.out.now c.loop-run.out at (length run * s) (at + n * size - at) (length a.view.now.places * s) c.requires.zeros is.rest (omega (arith, bytes)) (omega (arith, is.room, is.len, product, whole))

pub copy_run-requires-clause-ends : goal.copy_run-requires-clause-ends
copy_run-requires-clause-ends c =
    in_run (λ p. p + c.args.structure.now.1 ≤ 2 ^ 64) c.in-Some.run' (concat c.next.new.self) (concat c.loop-run.runs) (ap concat c.in-Some.ensures) c.loop-run.invariant.ends

pub loop-run-preserved : goal.loop-run-preserved
loop-run-preserved c =
    let a = c.args in let is = c.loop-run.invariant in let out = c.loop-run.out in let part = c.copy_run.new.out in
    let run = c.in-Some.run' in let rest : List (List ℕ) = c.next.new.self in
    let n = c.count.result in let size = c.size-size.result in let at = c.loop-run.at in let s = a.structure.now.1 in
    let split = ap concat c.in-Some.ensures in
    let F = canonical_structure a.structure.now a.bytes.now in
    let all : length (concat c.loop-run.runs) ≡ length run + length (concat rest) = ap length split ∙ length-append run (concat rest) in
    let product : length (concat c.loop-run.runs) * s ≡ length run * s + length (concat rest) * s = ap (λ m. m * s) all ∙ omega arith in
    let bytes : n * size ≡ length run * s = λ i. c.count.ensures.value i * c.size-size.ensures.value i in
    let inside : at + n * size + length (concat rest) * s ≡ length out = omega (arith, is.room, product, bytes) in
    let written : length part ≡ at + n * size - at = c.copy_run.auto.out ∙ omega (arith, length-take (at + n * size - at) (drop at out), length-drop at out, inside) in
    let kept : length (put_mid at (at + n * size - at) out part) ≡ length out = length-put_mid at (at + n * size - at) out part (omega arith) written in
    let further : drop (at + n * size) out ≡ drop (at + n * size) a.out.now = same_further a.out.now out at (n * size) (at + n * size) refl is.rest in
    record {
      len = kept ∙ is.len;
      room = inside ∙ sym kept;
      ends = behind_run (λ p. p + s ≤ 2 ^ 64) run (concat rest) (concat c.loop-run.runs) split is.ends;
      rest = drop-put_mid at (at + n * size - at) out part (at + n * size) (omega arith) (omega arith) written ∙ further;
      done = run_more F out part at (at + n * size - at) (at + n * size) run (concat rest) (concat c.loop-run.runs) (flat_map F a.view.now.places)
          (omega (arith, written)) (omega arith) c.copy_run.ensures split is.done;
    }
