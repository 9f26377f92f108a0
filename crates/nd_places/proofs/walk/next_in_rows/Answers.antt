use Rattle.std.proofs.Common.{◌≡◌, ◌+◌, ◌-◌, ◌<◌, ◌≤◌, List, ℕ, ℤ, ◌++◌, length, map, take, drop, get_or, pos, to_z, of_z, sym, ap, ◌∙◌, arith, rules}
use Rattle.std.specs.Prelude.{◌+ℤ◌}
use Rattle.std.specs.Int.{w64}
use Rattle.std.specs.Int.RustNames.{FitsSigned}
use Rattle.std.proofs.Math.Seq.{take-append_seam}
use Rattle.std.proofs.lemmas.Int.{to_z-of_z}
use Rattle.std.proofs.lemmas.List.{length-map, length-take-le, length-drop}
use Rattle.nd_places.specs.Left.{rows_left}
use Rattle.nd_places.specs.Near.{place_on, rows_places}
use Rattle.nd_places.proofs.Parts.{row_at, row_next, row_end}
use Rattle.nd_places.proofs.walk.next_in_rows.Goals as goal
use Rattle.nd_places.proofs.walk.next_in_rows.Goals.{then-end-ways, else-end-ways}

pub returns-clause-places : goal.returns-clause-places
returns-clause-places c =
    let rows = c.args.rows.now in let starts : List ℤ = rows.starts.items in let ways : List ℤ = rows.ways.items in let k : ℕ = c.args.done.now in let within : ℕ = c.args.within.now in
    let n : ℕ = c.min-count.result in
    let here : c.as_slice-starts.result.now ≡ starts = c.as_slice-starts.ensures.value in
    let there : c.as_slice-ways.result.now ≡ ways = c.as_slice-ways.ensures.value in
    let width : within + n - within ≡ n = omega arith in
    let fits : FitsSigned w64 (get_or c.as_slice-starts.result.now k (pos 0)) = search rules in
    let start : to_z w64 (of_z w64 (get_or c.as_slice-starts.result.now k (pos 0))) ≡ get_or starts k (pos 0)
    = to_z-of_z w64 (get_or c.as_slice-starts.result.now k (pos 0)) fits ∙ ap (λ ss. get_or ss k (pos 0)) here in
    let is : c.write_row.new.out ≡ row_at starts k (take n (drop within ways))
    = c.write_row.ensures ∙ (λ i. map (λ z. place_on (start i +ℤ z)) (take (width i) (drop within (there i)))) in
    let lt : k < length starts = omega (arith, c.if-done-starts.false, ap length here) in
    let le : within + n ≤ length ways = omega (arith, c.min-count.ensures, ap length there, c.requires.within) in
    let inside : n ≤ length (drop within ways) = omega (arith, le, length-drop within ways) in
    let long : length c.write_row.new.out ≡ n = ap length is ∙ length-map (take n (drop within ways)) (λ z. place_on (get_or starts k (pos 0) +ℤ z)) ∙ length-take-le n (drop within ways) inside in
    let part : take n (c.write_row.new.out ++ drop n c.args.room.now) ≡ c.write_row.new.out
    = ap (λ m. take m (c.write_row.new.out ++ drop n c.args.room.now)) (sym long) ∙ take-append_seam c.write_row.new.out (drop n c.args.room.now) in
    let counted : length (take n (c.write_row.new.out ++ drop n c.args.room.now)) ≡ n = ap length part ∙ long in
    let left : rows_left rows c.if-end-ways.done c.if-end-ways.within ≡ drop (within + n) (rows_places (drop k starts) ways) = elim c.if-end-ways.branch [
      | then-end-ways w ↦ (λ i. drop (w.within-is i) (rows_places (drop (w.done-is i) starts) ways))
      | else-end-ways w ↦
          let end : length ways ≡ within + n = omega (arith, w.if-end-ways.false, ap length there, le) in
          (λ i. drop (w.within-is i) (rows_places (drop (w.done-is i) starts) ways)) ∙ sym (row_end starts ways k lt) ∙ ap (λ m. drop m (rows_places (drop k starts) ways)) end
    ] in
    record {
      split = row_next starts ways k within n lt le ∙ (λ i. sym (part ∙ is) i ++ sym left i);
      some = omega (arith, counted, c.min-count.ensures, c.requires.room, c.requires.within, ap length there);
      few = omega (arith, counted, c.min-count.ensures);
    }
