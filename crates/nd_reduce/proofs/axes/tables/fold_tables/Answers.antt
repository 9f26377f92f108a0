use Rattle.std.proofs.lemmas.Grind.{common_steps}
use Rattle.std.proofs.Common.{◌≡◌, ℕ, ◌+◌, ◌-◌, ◌*◌, ◌≤◌, ℤ, List, [], ◌++◌, length, replicate, sym, ap, ◌∙◌, arith, append_assoc, length-drop, subst}
use Rattle.std.specs.List.{All}
use Rattle.std.proofs.Math.Nat.{mul-le-mul_right}
use Rattle.std.proofs.lemmas.List.Elements.{All-drop}
use Rattle.nd_model.specs.Grammar.Calls.{Reduction}
use Rattle.nd_model.specs.Arrays.Element.{Kind, IsValue, size_of}
use Rattle.nd_types.specs.Kinds.{kind_of}
use Rattle.nd_reduce.specs.Folds.Lanes.{fold_bytes}
use Rattle.nd_reduce.specs.Axes.Tables.{row_columns, rows_kept, table_columns}
use Rattle.nd_reduce.proofs.axes.Tabled.{bytes-append, next_table}
use Rattle.nd_reduce.proofs.axes.tables.fold_tables.Goals as goal

pub fold_rows-requires-clause-room : goal.fold_rows-requires-clause-room
fold_rows-requires-clause-room g c =
    let kept : ℕ = rows_kept c.args.each c.args.rows * (c.args.width * size_of (kind_of c.args.to)) in
    let le : 1 * kept ≤ c.loop-rest.rest * kept = mul-le-mul_right kept (omega (arith, c.loop-rest-test.true)) in omega (arith, le, c.loop-rest.invariant.room)

pub loop-rest-preserved : goal.loop-rest-preserved
loop-rest-preserved g c =
    let a = c.args in let is = c.loop-rest.invariant in let m = c.loop-rest.rest in let p : ℕ = m - 1 in let w = a.width in let rows = a.rows in
    let r : Reduction = g.F.FoldStep.reduction in let kind : Kind = kind_of a.kind in let k : Kind = kind_of a.to in
    let now : List ℤ = c.loop-rest.numbers.numbers in let after : List ℤ = c.fold_rows.new.numbers.numbers in
    let own : List (List ℤ) = row_columns a.each w rows (replicate w []) now in let others : List (List ℤ) = table_columns a.each w rows p after in
    let kept : ℕ = rows_kept a.each rows * (w * size_of k) in
    let one : m ≡ p + 1 = omega (arith, c.loop-rest-test.true) in
    let whole : length now ≡ p * (rows * w) + rows * w = is.numbers ∙ ap (λ n. n * (rows * w)) one ∙ omega arith in
    let room : m * kept ≡ p * kept + kept = ap (λ n. n * kept) one ∙ omega arith in
    record {
      numbers = ap length c.fold_rows.ensures.left ∙ length-drop (rows * w) now ∙ omega (arith, whole);
      kind = c.fold_rows.ensures.kind ∙ is.kind;
      values = subst (λ (l : List ℤ). All (λ z. IsValue kind z) l) (sym c.fold_rows.ensures.left) (All-drop (λ z. IsValue kind z) (rows * w) now is.values);
      found = c.fold_rows.auto.found ∙ is.found;
      buffer = c.fold_rows.auto.buffer ∙ is.buffer;
      room = omega (arith, is.room, room, c.fold_rows.ensures.room);
      written = ap (λ l. l ++ fold_bytes r k others) c.fold_rows.ensures.written
          ∙ append_assoc c.loop-rest.out.0 (fold_bytes r k own) (fold_bytes r k others)
          ∙ ap (λ l. c.loop-rest.out.0 ++ l) (sym (bytes-append r k own others)
          ∙ ap (fold_bytes r k) (ap (λ l. own ++ table_columns a.each w rows p l) c.fold_rows.ensures.left ∙ sym (next_table a.each w rows m now c.loop-rest-test.true)))
          ∙ is.written;
    }

pub slice_bounds-fold_rows-end : goal.slice_bounds-fold_rows-end
slice_bounds-fold_rows-end g c = grind (arith, common_steps)

pub slice_bounds-fold_rows-end-in-loop-rest : goal.slice_bounds-fold_rows-end-in-loop-rest
slice_bounds-fold_rows-end-in-loop-rest g c = grind (arith, common_steps)

pub fold_rows-requires-clause-found : goal.fold_rows-requires-clause-found
fold_rows-requires-clause-found g c = grind (arith, common_steps)

pub fold_rows-requires-clause-buffer : goal.fold_rows-requires-clause-buffer
fold_rows-requires-clause-buffer g c = grind (arith, common_steps)

pub fold_rows-requires-clause-enough : goal.fold_rows-requires-clause-enough
fold_rows-requires-clause-enough g c =
    let each : ℕ = c.args.rows * c.args.width in let le : 1 * each ≤ c.loop-rest.rest * each = mul-le-mul_right each (omega (arith, c.loop-rest-test.true)) in
    omega (arith, le, c.loop-rest.invariant.numbers)
