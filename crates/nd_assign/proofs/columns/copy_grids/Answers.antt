use Rattle.std.proofs.Common.{ℕ, ◌+◌, ◌*◌, ◌<◌, ◌≤◌, length, sym, ◌∙◌, subst, arith}
use Rattle.std.specs.List.{All}
use Rattle.nd_model.specs.Arrays.Element.{size_of}
use Rattle.nd_model.specs.Arrays.View.{One}
use Rattle.nd_assign.specs.Copies.{with_copies}
use Rattle.nd_assign.specs.Grids.{AreColumnsApart, grid_place, grid_places, moved_by, stack_places}
use Rattle.nd_assign.specs.declared.grid.Grid.{Grid}
use Rattle.nd_assign.specs.declared.grid.Stack.{Stack}
use Rattle.nd_assign.proofs.Crossed.{as_many, moved_apart, next_list}
use Rattle.nd_assign.proofs.Gridded.{in_each, of_rows}
use Rattle.nd_assign.proofs.columns.copy_grids.Goals as goal

-- what is so of the elements of all grids is so of those of each
each_grid : (R : ℕ → Type 0) (s : Stack) (at : ℕ) → at < s.count → All R (stack_places s s.count) → All R (grid_places (moved_by s.first (at * s.jump)))
each_grid R s at lt all = in_each R (λ k. grid_places (moved_by s.first (k * s.jump))) 0 s.count all at (omega arith) (omega (arith, lt))

-- the first element of each grid lies inside
first_inside : (s : Stack) (size len at : ℕ) → at < s.count → 0 < s.first.rows → 0 < s.first.columns → All (λ p. p + size ≤ len) (stack_places s s.count) → (s.first.start + at * s.jump) + size ≤ len
first_inside s size len at lt tall wide all =
    let g : Grid = moved_by s.first (at * s.jump) in
    let here : grid_place g.start g.across g.along 0 0 + size ≤ len
    = of_rows (λ p. p + size ≤ len) (grid_place g.start g.across g.along) g.columns 0 g.rows (each_grid (λ p. p + size ≤ len) s at lt all) 0 0 (omega arith) (omega (arith, tall)) wide in
    omega (arith, here)

pub overflow_mul-at : goal.overflow_mul-at
overflow_mul-at c =
    let a = c.args in let is = c.requires.crossed in
    let here = first_inside a.grids.target (size_of a.to.kind) (length a.out.now) c.loop-at.at c.loop-at-test.true is.tall is.wide c.requires.out in omega (arith, here)

pub shift-grid-requires : goal.shift-grid-requires
shift-grid-requires c =
    let a = c.args in let is = c.requires.crossed in
    let here = first_inside a.grids.target (size_of a.to.kind) (length a.out.now) c.loop-at.at c.loop-at-test.true is.tall is.wide c.requires.out in omega (arith, here)

pub overflow_mul-at-in-loop-at : goal.overflow_mul-at-in-loop-at
overflow_mul-at-in-loop-at c =
    let a = c.args in let is = c.requires.crossed in
    let lt : c.loop-at.at < a.grids.source.count = omega (arith, c.loop-at-test.true, is.count) in
    let tall : 0 < a.grids.source.first.rows = omega (arith, is.tall, is.rows) in let wide : 0 < a.grids.source.first.columns = omega (arith, is.wide, is.columns) in
    let here = first_inside a.grids.source (size_of a.from.kind) (length a.bytes.now) c.loop-at.at lt tall wide c.requires.held in omega (arith, here)

pub shift-from_grid-requires : goal.shift-from_grid-requires
shift-from_grid-requires c =
    let a = c.args in let is = c.requires.crossed in
    let lt : c.loop-at.at < a.grids.source.count = omega (arith, c.loop-at-test.true, is.count) in
    let tall : 0 < a.grids.source.first.rows = omega (arith, is.tall, is.rows) in let wide : 0 < a.grids.source.first.columns = omega (arith, is.wide, is.columns) in
    let here = first_inside a.grids.source (size_of a.from.kind) (length a.bytes.now) c.loop-at.at lt tall wide c.requires.held in omega (arith, here)

pub copy_bands-requires-clause-apart : goal.copy_bands-requires-clause-apart
copy_bands-requires-clause-apart c =
    let a = c.args in let t = a.grids.target in
    subst (λ (g : Grid). AreColumnsApart (size_of a.to.kind) g) (sym c.shift-grid.ensures) (moved_apart t.first (size_of a.to.kind) (c.loop-at.at * t.jump) c.requires.crossed.apart)

pub copy_bands-requires-clause-out : goal.copy_bands-requires-clause-out
copy_bands-requires-clause-out c =
    let a = c.args in
    subst (λ n. All (λ p. p + size_of a.to.kind ≤ n) (grid_places c.shift-grid.result)) (sym c.loop-at.invariant.len)
    (subst (λ (g : Grid). All (λ p. p + size_of a.to.kind ≤ length a.out.now) (grid_places g)) (sym c.shift-grid.ensures)
    (each_grid (λ p. p + size_of a.to.kind ≤ length a.out.now) a.grids.target c.loop-at.at c.loop-at-test.true c.requires.out))

pub copy_bands-requires-clause-held : goal.copy_bands-requires-clause-held
copy_bands-requires-clause-held c =
    let a = c.args in let lt : c.loop-at.at < a.grids.source.count = omega (arith, c.loop-at-test.true, c.requires.crossed.count) in
    subst (λ (g : Grid). All (λ p. p + size_of a.from.kind ≤ length a.bytes.now) (grid_places g)) (sym c.shift-from_grid.ensures)
    (each_grid (λ p. p + size_of a.from.kind ≤ length a.bytes.now) a.grids.source c.loop-at.at lt c.requires.held)

pub loop-at-preserved : goal.loop-at-preserved
loop-at-preserved c =
    let a = c.args in let t = a.grids.target in let s = a.grids.source in let is = c.requires.crossed in
    record {
      len = c.copy_bands.ensures.len ∙ c.loop-at.invariant.len;
      done = next_list a.to a.from a.bytes.now (λ k. grid_places (moved_by t.first (k * t.jump))) (λ k. grid_places (moved_by s.first (k * s.jump)))
          (λ k. as_many (moved_by t.first (k * t.jump)) (moved_by s.first (k * s.jump)) is.rows is.columns) c.loop-at.at a.out.now c.loop-at.out c.copy_bands.new.out
          (c.copy_bands.ensures.bytes ∙ (λ i. with_copies (One a.to) (One a.from) a.bytes.now (grid_places (c.shift-grid.ensures i)) (grid_places (c.shift-from_grid.ensures i)) c.loop-at.out))
          c.loop-at.invariant.done;
    }
