use Rattle.std.proofs.Common.{ℕ, pos, ◌+◌, ◌*◌, ◌≤◌, List, length, refl, sym, ap, ◌∙◌, subst, arith}
use Rattle.nd_model.specs.Arrays.Element.{size_of}
use Rattle.nd_model.specs.Arrays.Runs.{AreWithin}
use Rattle.nd_model.specs.Arrays.Tuple.{count_up}
use Rattle.nd_model.specs.Arrays.View.{One}
use Rattle.nd_assign.specs.Copies.{with_copies}
use Rattle.nd_assign.specs.Grids.{grid_place}
use Rattle.nd_assign.proofs.Crossed.{next_column}
use Rattle.nd_assign.proofs.Gridded.{first_columns, no_columns, of_rows, column_within}
use Rattle.nd_assign.proofs.columns.copy_columns.Goals as goal

pub loop-column-init : goal.loop-column-init
loop-column-init c =
    let a = c.args in let g = a.target in let s = a.source in
    record {
      len = refl;
      done = sym (λ i. with_copies (One a.to) (One a.from) a.bytes.now (no_columns (grid_place g.start g.across g.along) (count_up 0 g.rows) i) (no_columns (grid_place s.start s.across s.along) (count_up 0 s.rows) i) a.out.now);
    }

pub overflow_mul-start : goal.overflow_mul-start
overflow_mul-start c =
    let a = c.args in let g = a.target in let n = c.loop-column.column in
    let here : grid_place g.start g.across g.along 0 n + size_of a.to.kind ≤ length a.out.now
    = of_rows (λ p. p + size_of a.to.kind ≤ length a.out.now) (grid_place g.start g.across g.along) g.columns 0 g.rows c.requires.out 0 n (omega arith) (omega (arith, c.requires.some)) c.loop-column-test.true in
    omega (arith, here)

pub overflow_add-start : goal.overflow_add-start
overflow_add-start c =
    let a = c.args in let g = a.target in let n = c.loop-column.column in
    let here : grid_place g.start g.across g.along 0 n + size_of a.to.kind ≤ length a.out.now
    = of_rows (λ p. p + size_of a.to.kind ≤ length a.out.now) (grid_place g.start g.across g.along) g.columns 0 g.rows c.requires.out 0 n (omega arith) (omega (arith, c.requires.some)) c.loop-column-test.true in
    omega (arith, here)

pub overflow_mul-from_start : goal.overflow_mul-from_start
overflow_mul-from_start c =
    let a = c.args in let s = a.source in let n = c.loop-column.column in
    let here : grid_place s.start s.across s.along 0 n + size_of a.from.kind ≤ length a.bytes.now
    = of_rows (λ p. p + size_of a.from.kind ≤ length a.bytes.now) (grid_place s.start s.across s.along) s.columns 0 s.rows c.requires.held 0 n (omega arith)
    (omega (arith, c.requires.some, c.requires.rows)) (omega (arith, c.loop-column-test.true, c.requires.columns)) in
    omega (arith, here)

pub overflow_add-from_start : goal.overflow_add-from_start
overflow_add-from_start c =
    let a = c.args in let s = a.source in let n = c.loop-column.column in
    let here : grid_place s.start s.across s.along 0 n + size_of a.from.kind ≤ length a.bytes.now
    = of_rows (λ p. p + size_of a.from.kind ≤ length a.bytes.now) (grid_place s.start s.across s.along) s.columns 0 s.rows c.requires.held 0 n (omega arith)
    (omega (arith, c.requires.some, c.requires.rows)) (omega (arith, c.loop-column-test.true, c.requires.columns)) in
    omega (arith, here)

pub copy_column-requires-clause-out : goal.copy_column-requires-clause-out
copy_column-requires-clause-out c =
    let a = c.args in let g = a.target in let n = c.loop-column.column in
    subst (λ len. AreWithin (g.start + n * g.along) (pos g.across) (size_of a.to.kind) g.rows len) (sym c.loop-column.invariant.len)
    (column_within g.start g.across g.along g.rows g.columns n (size_of a.to.kind) (length a.out.now) c.requires.out c.loop-column-test.true)

pub copy_column-requires-clause-held : goal.copy_column-requires-clause-held
copy_column-requires-clause-held c =
    let a = c.args in let s = a.source in let n = c.loop-column.column in
    subst (λ rows. AreWithin (s.start + n * s.along) (pos s.across) (size_of a.from.kind) rows (length a.bytes.now)) c.requires.rows
    (column_within s.start s.across s.along s.rows s.columns n (size_of a.from.kind) (length a.bytes.now) c.requires.held (omega (arith, c.loop-column-test.true, c.requires.columns)))

pub loop-column-preserved : goal.loop-column-preserved
loop-column-preserved c =
    let a = c.args in let g = a.target in let s = a.source in let n = c.loop-column.column in
    let copies : ℕ → ℕ → List ℕ
    = λ (k rows : ℕ). with_copies (One a.to) (One a.from) a.bytes.now (first_columns (grid_place g.start g.across g.along) k (count_up 0 g.rows)) (first_columns (grid_place s.start s.across s.along) k (count_up 0 rows)) a.out.now in
    record {
      len = c.copy_column.ensures.len ∙ c.loop-column.invariant.len;
      done = next_column a.to a.from a.bytes.now g s c.requires.apart n a.out.now c.loop-column.out c.copy_column.new.out c.loop-column-test.true
          c.copy_column.ensures.bytes (c.loop-column.invariant.done ∙ ap (copies n) c.requires.rows)
          ∙ sym (ap (copies (n + 1)) c.requires.rows);
    }
