use Rattle.std.proofs.Common.{◌≡◌, ◌≤◌, ◌+◌, ◌-◌, ℕ, sym, subst, arith}
use Rattle.std.proofs.lemmas.Bool.Decides.{nat_tests}
use Rattle.nd_model.specs.Book.Book.{Book}
use Rattle.nd_schedule.specs.Schedule.Sweep.{IsAt}
use Rattle.nd_schedule.proofs.schedule.Standing.{hand_there}
use Rattle.nd_schedule.proofs.schedule.Parting.{itself, part, at_part, counts_part, noted_part}
use Rattle.nd_schedule.proofs.schedule.Visiting.{next_changed, on_ok, start_at, start_counts}
use Rattle.nd_schedule.proofs.schedule.sweep.sweep.Goals as goal

pub loop-snapshot-init : goal.loop-snapshot-init
loop-snapshot-init g c = record {
  behind = omega arith;
  upto = omega (arith, c.requires.order);
  at = λ old new j frame at. start_at old new c.args.i j _ _ _ at;
  covered = c.requires.covered;
  changed = λ old new j from first frame at le is all. all;
  fit = λ n le h. h;
  counts = λ old new j before frame at h. start_counts old new c.args.i j before _ h;
  noted = λ old new frame at all. all;
}

pub sweep_between-requires-clause-at : goal.sweep_between-requires-clause-at
sweep_between-requires-clause-at g c =
    let order : c.loop-snapshot.at ≤ c.snapshot-item.result.place = omega arith in
    let below : c.snapshot-item.result.place ≤ c.args.to = omega arith in
    let old : Book = c.requires.at.0 in
    let new : Book = c.requires.at.1 in
    let j : ℕ = c.requires.at.2 in
    let frame = c.requires.at.3 in
    (old, new, j + (c.loop-snapshot.at - c.args.i), (part old new c.args.i j c.args.to _ _ _ frame c.loop-snapshot.at c.snapshot-item.result.place c.loop-snapshot.invariant.behind order below), c.loop-snapshot.invariant.at old new j frame c.requires.at.4)

pub returns-in_err-sweep_between-clause-counts : goal.returns-in_err-sweep_between-clause-counts
returns-in_err-sweep_between-clause-counts g c = λ old new j before frame at all.
    let order : c.loop-snapshot.at ≤ c.snapshot-item.result.place = omega arith in
    let below : c.snapshot-item.result.place ≤ c.args.to = omega arith in
    c.sweep_between.ensures.counts old new (j + (c.loop-snapshot.at - c.args.i)) before (part old new c.args.i j c.args.to _ _ _ frame c.loop-snapshot.at c.snapshot-item.result.place c.loop-snapshot.invariant.behind order below) (c.loop-snapshot.invariant.at old new j frame at) (c.loop-snapshot.invariant.counts old new j before frame at all)

pub loop-snapshot-preserved : goal.loop-snapshot-preserved
loop-snapshot-preserved g c =
    let order : c.loop-snapshot.at ≤ c.snapshot-item.result.place = omega arith in
    let below : c.snapshot-item.result.place ≤ c.args.to = omega arith in
    record {
      behind = omega (arith, c.loop-snapshot.invariant.behind);
      upto = below;
      at = λ old new j frame at.
          subst (λ u. IsAt old new c.snapshot-item.result.place (j + (c.snapshot-item.result.place - c.args.i)) (g.C.CellRunner.change_of c.sweep_between.new.state.change) u c.sweep_between.new.state.since) (sym c.note.ensures.same)
          (at_part old new c.args.i j c.args.to _ _ _ frame c.loop-snapshot.at c.snapshot-item.result.place c.loop-snapshot.invariant.behind order below _ _ _ (c.in_ok-sweep_between.ensures.at old new (j + (c.loop-snapshot.at - c.args.i)) (part old new c.args.i j c.args.to _ _ _ frame c.loop-snapshot.at c.snapshot-item.result.place c.loop-snapshot.invariant.behind order below) (c.loop-snapshot.invariant.at old new j frame at)));
      covered = c.in_ok-sweep_between.ensures.covered;
      changed = λ old new j from first frame at le is all.
          c.in_ok-sweep_between.ensures.changed old new (j + (c.loop-snapshot.at - c.args.i)) from first (part old new c.args.i j c.args.to _ _ _ frame c.loop-snapshot.at c.snapshot-item.result.place c.loop-snapshot.invariant.behind order below) (c.loop-snapshot.invariant.at old new j frame at)
          (omega (arith, c.loop-snapshot.invariant.behind)) (next_changed c.args.i j c.loop-snapshot.at from first le c.loop-snapshot.invariant.behind is) (c.loop-snapshot.invariant.changed old new j from first frame at le is all);
      fit = λ n le h. c.in_ok-sweep_between.ensures.fit n (omega arith) (c.loop-snapshot.invariant.fit n le h);
      counts = λ old new j before frame at all.
          counts_part old new c.args.i j c.args.to _ _ _ frame c.loop-snapshot.at c.snapshot-item.result.place c.loop-snapshot.invariant.behind order below before _ (c.in_ok-sweep_between.ensures.counted old new (j + (c.loop-snapshot.at - c.args.i)) before (part old new c.args.i j c.args.to _ _ _ frame c.loop-snapshot.at c.snapshot-item.result.place c.loop-snapshot.invariant.behind order below) (c.loop-snapshot.invariant.at old new j frame at) (c.loop-snapshot.invariant.counts old new j before frame at all));
      noted = λ old new frame at all.
          let stands = at_part old new c.args.i c.args.now c.args.to _ _ _ frame c.loop-snapshot.at c.snapshot-item.result.place c.loop-snapshot.invariant.behind order below _ _ _ (c.in_ok-sweep_between.ensures.at old new (c.args.now + (c.loop-snapshot.at - c.args.i)) (part old new c.args.i c.args.now c.args.to _ _ _ frame c.loop-snapshot.at c.snapshot-item.result.place c.loop-snapshot.invariant.behind order below) (c.loop-snapshot.invariant.at old new c.args.now frame at)) in
          c.note.ensures.noted old new (noted_part old new c.args.i c.args.now c.args.to _ _ _ frame c.loop-snapshot.at c.snapshot-item.result.place c.loop-snapshot.invariant.behind order below _ _ _ stands)
          (λ there. let is : c.sweep_between.new.state.since ≡ c.snapshot-item.result.place = grind (arith, nat_tests) in hand_there old new c.snapshot-item.result.place (c.args.now + (c.snapshot-item.result.place - c.args.i)) _ _ _ stands is)
          (c.loop-snapshot.invariant.noted old new frame at all);
    }

pub sweep_between-requires-2-clause-at : goal.sweep_between-requires-2-clause-at
sweep_between-requires-2-clause-at g c =
    let old : Book = c.requires.at.0 in
    let new : Book = c.requires.at.1 in
    let j : ℕ = c.requires.at.2 in
    let frame = c.requires.at.3 in
    (old, new, j + (c.loop-snapshot.at - c.args.i), (part old new c.args.i j c.args.to _ _ _ frame c.loop-snapshot.at c.args.to c.loop-snapshot.invariant.behind c.loop-snapshot.invariant.upto (itself c.args.to)), c.loop-snapshot.invariant.at old new j frame c.requires.at.4)

pub returns-clause-at : goal.returns-clause-at
returns-clause-at g c = on_ok c.sweep_between-2.result c.sweep_between-2.ensures.at (λ h old new j frame at.
    at_part old new c.args.i j c.args.to _ _ _ frame c.loop-snapshot.at c.args.to c.loop-snapshot.invariant.behind c.loop-snapshot.invariant.upto (itself c.args.to) _ _ _
    (h old new (j + (c.loop-snapshot.at - c.args.i)) (part old new c.args.i j c.args.to _ _ _ frame c.loop-snapshot.at c.args.to c.loop-snapshot.invariant.behind c.loop-snapshot.invariant.upto (itself c.args.to)) (c.loop-snapshot.invariant.at old new j frame at)))

pub returns-clause-changed : goal.returns-clause-changed
returns-clause-changed g c = on_ok c.sweep_between-2.result c.sweep_between-2.ensures.changed (λ h old new j from first frame at le is all.
    h old new (j + (c.loop-snapshot.at - c.args.i)) from first (part old new c.args.i j c.args.to _ _ _ frame c.loop-snapshot.at c.args.to c.loop-snapshot.invariant.behind c.loop-snapshot.invariant.upto (itself c.args.to)) (c.loop-snapshot.invariant.at old new j frame at)
    (omega (arith, c.loop-snapshot.invariant.behind)) (next_changed c.args.i j c.loop-snapshot.at from first le c.loop-snapshot.invariant.behind is) (c.loop-snapshot.invariant.changed old new j from first frame at le is all))

pub returns-clause-fit : goal.returns-clause-fit
returns-clause-fit g c = on_ok c.sweep_between-2.result c.sweep_between-2.ensures.fit (λ h n le all. h n le (c.loop-snapshot.invariant.fit n le all))

pub returns-clause-noted : goal.returns-clause-noted
returns-clause-noted g c = on_ok c.sweep_between-2.result c.sweep_between-2.ensures.covered (λ h old new frame at all. c.loop-snapshot.invariant.noted old new frame at all)

pub returns-clause-counted : goal.returns-clause-counted
returns-clause-counted g c = on_ok c.sweep_between-2.result c.sweep_between-2.ensures.counted (λ h old new j before frame at all.
    counts_part old new c.args.i j c.args.to _ _ _ frame c.loop-snapshot.at c.args.to c.loop-snapshot.invariant.behind c.loop-snapshot.invariant.upto (itself c.args.to) before _
    (h old new (j + (c.loop-snapshot.at - c.args.i)) before (part old new c.args.i j c.args.to _ _ _ frame c.loop-snapshot.at c.args.to c.loop-snapshot.invariant.behind c.loop-snapshot.invariant.upto (itself c.args.to)) (c.loop-snapshot.invariant.at old new j frame at) (c.loop-snapshot.invariant.counts old new j before frame at all)))

pub returns-clause-counts : goal.returns-clause-counts
returns-clause-counts g c = λ old new j before frame at all.
    c.sweep_between-2.ensures.counts old new (j + (c.loop-snapshot.at - c.args.i)) before (part old new c.args.i j c.args.to _ _ _ frame c.loop-snapshot.at c.args.to c.loop-snapshot.invariant.behind c.loop-snapshot.invariant.upto (itself c.args.to)) (c.loop-snapshot.invariant.at old new j frame at) (c.loop-snapshot.invariant.counts old new j before frame at all)

pub sweep_between-requires-clause-words : goal.sweep_between-requires-clause-words
sweep_between-requires-clause-words g c = c.requires.words

pub sweep_between-requires-clause-covered : goal.sweep_between-requires-clause-covered
sweep_between-requires-clause-covered g c = c.loop-snapshot.invariant.covered

pub sweep_between-requires-clause-order : goal.sweep_between-requires-clause-order
sweep_between-requires-clause-order g c = omega arith

pub sweep_between-requires-clause-cells : goal.sweep_between-requires-clause-cells
sweep_between-requires-clause-cells g c = omega (arith, c.requires.cells)

pub sweep_between-requires-clause-records : goal.sweep_between-requires-clause-records
sweep_between-requires-clause-records g c = omega (arith, c.requires.records)

pub sweep_between-requires-clause-places : goal.sweep_between-requires-clause-places
sweep_between-requires-clause-places g c = omega (arith, c.requires.places)

pub sweep_between-requires-2-clause-words : goal.sweep_between-requires-2-clause-words
sweep_between-requires-2-clause-words g c = c.requires.words

pub sweep_between-requires-2-clause-covered : goal.sweep_between-requires-2-clause-covered
sweep_between-requires-2-clause-covered g c = c.loop-snapshot.invariant.covered

pub sweep_between-requires-2-clause-order : goal.sweep_between-requires-2-clause-order
sweep_between-requires-2-clause-order g c = c.loop-snapshot.invariant.upto

pub sweep_between-requires-2-clause-cells : goal.sweep_between-requires-2-clause-cells
sweep_between-requires-2-clause-cells g c = c.requires.cells

pub sweep_between-requires-2-clause-records : goal.sweep_between-requires-2-clause-records
sweep_between-requires-2-clause-records g c = c.requires.records

pub sweep_between-requires-2-clause-places : goal.sweep_between-requires-2-clause-places
sweep_between-requires-2-clause-places g c = c.requires.places

pub returns-clause-covered : goal.returns-clause-covered
returns-clause-covered g c = c.sweep_between-2.ensures.covered

pub sweep_between-requires-clause-kept : goal.sweep_between-requires-clause-kept
sweep_between-requires-clause-kept g c = c.requires.kept

pub sweep_between-requires-2-clause-kept : goal.sweep_between-requires-2-clause-kept
sweep_between-requires-2-clause-kept g c = c.requires.kept
