use Rattle.std.proofs.Common.{◌≡◌, ◌+◌, ◌≤◌, length, sym, ◌∙◌, subst, arith}
use Rattle.std.specs.List.{All}
use Rattle.nd_model.specs.Arrays.Element.{size_of}
use Rattle.nd_model.specs.Arrays.Tuple.{count_up}
use Rattle.nd_model.specs.Arrays.View.{One}
use Rattle.nd_assign.specs.Copies.{with_copies}
use Rattle.nd_assign.specs.Grids.{AreColumnsApart, grid_place, grid_places}
use Rattle.nd_assign.specs.declared.grid.Grid.{Grid}
use Rattle.nd_assign.proofs.Crossed.{next_band, part_apart}
use Rattle.nd_assign.proofs.Gridded.{first_columns, of_rows, all_of_part}
use Rattle.nd_assign.proofs.columns.copy_bands.Goals as goal

pub part-part-requires : goal.part-part-requires
part-part-requires c =
    let a = c.args in let g = a.target in let at = c.loop-row.row in
    let here : grid_place g.start g.across g.along at 0 + size_of a.to.kind ≤ length a.out.now
    = of_rows (λ p. p + size_of a.to.kind ≤ length a.out.now) (grid_place g.start g.across g.along) g.columns 0 g.rows c.requires.out at 0 (omega arith) (omega (arith, c.loop-row-test.true)) c.requires.wide in
    omega (arith, here)

pub part-from_part-requires : goal.part-from_part-requires
part-from_part-requires c =
    let a = c.args in let s = a.source in let at = c.loop-row.row in
    let here : grid_place s.start s.across s.along at 0 + size_of a.from.kind ≤ length a.bytes.now
    = of_rows (λ p. p + size_of a.from.kind ≤ length a.bytes.now) (grid_place s.start s.across s.along) s.columns 0 s.rows c.requires.held at 0 (omega arith)
    (omega (arith, c.loop-row-test.true, c.requires.rows)) (omega (arith, c.requires.wide, c.requires.columns)) in
    omega (arith, here)

pub copy_columns-requires-clause-apart : goal.copy_columns-requires-clause-apart
copy_columns-requires-clause-apart c =
    let a = c.args in let at = c.loop-row.row in let some = c.min-some.result in
    let inside : at + some ≤ a.target.rows = omega (arith, c.min-some.ensures, c.loop-row-test.true) in
    subst (λ (g : Grid). AreColumnsApart (size_of a.to.kind) g) (sym c.part-part.ensures) (part_apart a.target (size_of a.to.kind) at some inside c.requires.apart)

pub copy_columns-requires-clause-out : goal.copy_columns-requires-clause-out
copy_columns-requires-clause-out c =
    let a = c.args in let g = a.target in let at = c.loop-row.row in let some = c.min-some.result in
    let inside : at + some ≤ g.rows = omega (arith, c.min-some.ensures, c.loop-row-test.true) in
    subst (λ n. All (λ p. p + size_of a.to.kind ≤ n) (grid_places c.part-part.result)) (sym c.loop-row.invariant.len)
    (subst (λ (t : Grid). All (λ p. p + size_of a.to.kind ≤ length a.out.now) (grid_places t)) (sym c.part-part.ensures)
    (all_of_part g.start g.across g.along (λ p. p + size_of a.to.kind ≤ length a.out.now) g.rows g.columns at some inside c.requires.out))

pub copy_columns-requires-clause-held : goal.copy_columns-requires-clause-held
copy_columns-requires-clause-held c =
    let a = c.args in let s = a.source in let at = c.loop-row.row in let some = c.min-some.result in
    let inside : at + some ≤ s.rows = omega (arith, c.min-some.ensures, c.loop-row-test.true, c.requires.rows) in
    subst (λ (t : Grid). All (λ p. p + size_of a.from.kind ≤ length a.bytes.now) (grid_places t)) (sym c.part-from_part.ensures)
    (all_of_part s.start s.across s.along (λ p. p + size_of a.from.kind ≤ length a.bytes.now) s.rows s.columns at some inside c.requires.held)

pub loop-row-preserved : goal.loop-row-preserved
loop-row-preserved c =
    let a = c.args in let g = a.target in let s = a.source in let at = c.loop-row.row in let some = c.min-some.result in
    record {
      inside = omega (arith, c.min-some.ensures, c.loop-row-test.true);
      len = c.copy_columns.ensures.len ∙ c.loop-row.invariant.len;
      done = next_band a.to a.from a.bytes.now g s c.requires.columns at some a.out.now c.loop-row.out c.copy_columns.new.out
          (c.copy_columns.ensures.bytes
          ∙ (λ i. with_copies (One a.to) (One a.from) a.bytes.now (grid_places (c.part-part.ensures i)) (grid_places (c.part-from_part.ensures i)) c.loop-row.out))
          c.loop-row.invariant.done;
    }

pub returns-clause-bytes : goal.returns-clause-bytes
returns-clause-bytes c =
    let a = c.args in let g = a.target in let s = a.source in
    let all : c.loop-row.row ≡ g.rows = omega (arith, c.loop-row.invariant.inside, c.loop-row-test.false) in
    let from_all : c.loop-row.row ≡ s.rows = all ∙ sym c.requires.rows in
    c.loop-row.invariant.done
    ∙ (λ i. with_copies (One a.to) (One a.from) a.bytes.now (first_columns (grid_place g.start g.across g.along) g.columns (count_up 0 (all i)))
    (first_columns (grid_place s.start s.across s.along) s.columns (count_up 0 (from_all i))) a.out.now)
