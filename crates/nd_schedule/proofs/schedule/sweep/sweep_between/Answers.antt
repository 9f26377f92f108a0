use Rattle.std.proofs.Common.{◌≡◌, ◌≤◌, ◌<◌, ◌+◌, ◌-◌, ℕ, subst, arith}
use Rattle.nd_model.specs.Book.Book.{Book}
use Rattle.nd_schedule.specs.Schedule.Sweep.{IsAt, CountsFront}
use Rattle.nd_schedule.proofs.schedule.Passing.{meets_none, skips_at, skips_changed, skips_counts}
use Rattle.nd_schedule.proofs.schedule.Sweeping.{counts_stale}
use Rattle.nd_schedule.proofs.schedule.Visiting.{frame_at, start_at, start_counts, next_at, next_counts, next_changed, changed_to}
use Rattle.nd_schedule.proofs.schedule.sweep.sweep_between.Goals as goal

pub loop-at-init : goal.loop-at-init
loop-at-init g c =
    let order : c.args.i ≤ c.first_met-at.result = c.first_met-at.ensures.order in
    let upto : c.first_met-at.result ≤ c.args.to = c.first_met-at.ensures.within in
    record {
      behind = order;
      upto = upto;
      at = λ old new j frame at.
          skips_at old new c.args.i j c.args.to _ _ _ frame _ _ _ c.args.i c.first_met-at.result (omega arith) order upto
          (meets_none g.C.CellRunner.covers old _ c.args.words.now c.args.state.now.word _ c.args.i c.first_met-at.result frame.run c.requires.words c.requires.covered (omega (arith, frame.beside.within, upto)) c.first_met-at.ensures.apart)
          (start_at old new c.args.i j _ _ _ at);
      covered = c.requires.covered;
      changed = λ old new j from first frame at le is all.
          skips_changed old new c.args.i j c.args.to _ _ _ frame _ _ _ c.args.i c.first_met-at.result from first _ (omega arith) order upto
          (meets_none g.C.CellRunner.covers old _ c.args.words.now c.args.state.now.word _ c.args.i c.first_met-at.result frame.run c.requires.words c.requires.covered (omega (arith, frame.beside.within, upto)) c.first_met-at.ensures.apart)
          le is (start_at old new c.args.i j _ _ _ at) all;
      fit = λ n le h. h;
      counts = λ old new j before frame at h.
          skips_counts old new c.args.i j c.args.to _ _ _ frame _ _ _ c.args.i c.first_met-at.result before _ (omega arith) order upto
          (meets_none g.C.CellRunner.covers old _ c.args.words.now c.args.state.now.word _ c.args.i c.first_met-at.result frame.run c.requires.words c.requires.covered (omega (arith, frame.beside.within, upto)) c.first_met-at.ensures.apart)
          (start_at old new c.args.i j _ _ _ at) (start_counts old new c.args.i j before _ h);
    }

pub visit-requires-clause-at : goal.visit-requires-clause-at
visit-requires-clause-at g c =
    let old : Book = c.requires.at.0 in
    let new : Book = c.requires.at.1 in
    let j : ℕ = c.requires.at.2 in
    let lt : c.loop-at.at < c.args.to = omega arith in
    (old, new, j + (c.loop-at.at - c.args.i), frame_at old new c.args.i j c.args.to _ _ _ c.requires.at.3 c.loop-at.at c.loop-at.invariant.behind lt, c.loop-at.invariant.at old new j c.requires.at.3 c.requires.at.4)

pub returns-in_err-visit-clause-counts : goal.returns-in_err-visit-clause-counts
returns-in_err-visit-clause-counts g c = λ old new j before frame at h.
    let lt : c.loop-at.at < c.args.to = omega arith in
    counts_stale old new (j + (c.loop-at.at - c.args.i) + 1) before _
    (c.visit.ensures.counts old new (j + (c.loop-at.at - c.args.i)) before (frame_at old new c.args.i j c.args.to _ _ _ frame c.loop-at.at c.loop-at.invariant.behind lt) (c.loop-at.invariant.at old new j frame at) (c.loop-at.invariant.counts old new j before frame at h))

pub loop-at-preserved : goal.loop-at-preserved
loop-at-preserved g c =
    let lt : c.loop-at.at < c.args.to = omega arith in
    let behind : c.args.i ≤ c.loop-at.at + 1 = omega (arith, c.loop-at.invariant.behind) in
    let order : c.loop-at.at + 1 ≤ c.first_met-at-in-loop-at.result = c.first_met-at-in-loop-at.ensures.order in
    let upto : c.first_met-at-in-loop-at.result ≤ c.args.to = c.first_met-at-in-loop-at.ensures.within in
    record {
      behind = omega arith;
      upto = upto;
      at = λ old new j frame at.
          skips_at old new c.args.i j c.args.to _ _ _ frame _ _ _ (c.loop-at.at + 1) c.first_met-at-in-loop-at.result behind order upto
          (meets_none g.C.CellRunner.covers old _ c.args.words.now c.visit.new.state.word _ (c.loop-at.at + 1) c.first_met-at-in-loop-at.result frame.run c.requires.words c.in_ok-visit.ensures.covered (omega (arith, frame.beside.within, upto)) c.first_met-at-in-loop-at.ensures.apart)
          (next_at old new c.args.i j c.loop-at.at _ _ _ c.loop-at.invariant.behind
          (c.in_ok-visit.ensures.at old new (j + (c.loop-at.at - c.args.i)) (frame_at old new c.args.i j c.args.to _ _ _ frame c.loop-at.at c.loop-at.invariant.behind lt) (c.loop-at.invariant.at old new j frame at)));
      covered = c.in_ok-visit.ensures.covered;
      changed = λ old new j from first frame at le is all.
          skips_changed old new c.args.i j c.args.to _ _ _ frame _ _ _ (c.loop-at.at + 1) c.first_met-at-in-loop-at.result from first _ behind order upto
          (meets_none g.C.CellRunner.covers old _ c.args.words.now c.visit.new.state.word _ (c.loop-at.at + 1) c.first_met-at-in-loop-at.result frame.run c.requires.words c.in_ok-visit.ensures.covered (omega (arith, frame.beside.within, upto)) c.first_met-at-in-loop-at.ensures.apart)
          le is
          (next_at old new c.args.i j c.loop-at.at _ _ _ c.loop-at.invariant.behind
          (c.in_ok-visit.ensures.at old new (j + (c.loop-at.at - c.args.i)) (frame_at old new c.args.i j c.args.to _ _ _ frame c.loop-at.at c.loop-at.invariant.behind lt) (c.loop-at.invariant.at old new j frame at)))
          (c.in_ok-visit.ensures.changed old new (j + (c.loop-at.at - c.args.i)) from first (frame_at old new c.args.i j c.args.to _ _ _ frame c.loop-at.at c.loop-at.invariant.behind lt) (c.loop-at.invariant.at old new j frame at)
          (omega (arith, c.loop-at.invariant.behind)) (next_changed c.args.i j c.loop-at.at from first le c.loop-at.invariant.behind is) (c.loop-at.invariant.changed old new j from first frame at le is all));
      fit = λ n le h. c.in_ok-visit.ensures.fit n (omega arith) (c.loop-at.invariant.fit n le h);
      counts = λ old new j before frame at h.
          skips_counts old new c.args.i j c.args.to _ _ _ frame _ _ _ (c.loop-at.at + 1) c.first_met-at-in-loop-at.result before _ behind order upto
          (meets_none g.C.CellRunner.covers old _ c.args.words.now c.visit.new.state.word _ (c.loop-at.at + 1) c.first_met-at-in-loop-at.result frame.run c.requires.words c.in_ok-visit.ensures.covered (omega (arith, frame.beside.within, upto)) c.first_met-at-in-loop-at.ensures.apart)
          (next_at old new c.args.i j c.loop-at.at _ _ _ c.loop-at.invariant.behind
          (c.in_ok-visit.ensures.at old new (j + (c.loop-at.at - c.args.i)) (frame_at old new c.args.i j c.args.to _ _ _ frame c.loop-at.at c.loop-at.invariant.behind lt) (c.loop-at.invariant.at old new j frame at)))
          (next_counts old new c.args.i j c.loop-at.at before _ c.loop-at.invariant.behind
          (c.visit.ensures.counts old new (j + (c.loop-at.at - c.args.i)) before (frame_at old new c.args.i j c.args.to _ _ _ frame c.loop-at.at c.loop-at.invariant.behind lt) (c.loop-at.invariant.at old new j frame at) (c.loop-at.invariant.counts old new j before frame at h)));
    }

pub returns-clause-at : goal.returns-clause-at
returns-clause-at g c = λ old new j frame at. let e : c.loop-at.at ≡ c.args.to = omega (arith, c.loop-at.invariant.upto) in
    subst (λ k. IsAt old new k (j + (k - c.args.i)) (g.C.CellRunner.change_of c.loop-at.state.change) (g.C.CellRunner.session_of c.loop-at.state.session) c.loop-at.state.since) e (c.loop-at.invariant.at old new j frame at)

pub returns-clause-changed : goal.returns-clause-changed
returns-clause-changed g c = λ old new j from first frame at le is all. let e : c.loop-at.at ≡ c.args.to = omega (arith, c.loop-at.invariant.upto) in
    changed_to old new from first c.loop-at.at c.args.to _ e (c.loop-at.invariant.changed old new j from first frame at le is all)

pub returns-clause-counted : goal.returns-clause-counted
returns-clause-counted g c = λ old new j before frame at h. let e : c.loop-at.at ≡ c.args.to = omega (arith, c.loop-at.invariant.upto) in
    subst (λ k. CountsFront old new (j + (k - c.args.i)) before c.loop-at.meter) e (c.loop-at.invariant.counts old new j before frame at h)

pub returns-clause-counts : goal.returns-clause-counts
returns-clause-counts g c = λ old new j before frame at h. counts_stale old new (j + (c.loop-at.at - c.args.i)) before _ (c.loop-at.invariant.counts old new j before frame at h)

pub visit-requires-clause-cell : goal.visit-requires-clause-cell
visit-requires-clause-cell g c = omega (arith, c.requires.cells)

pub visit-requires-clause-record : goal.visit-requires-clause-record
visit-requires-clause-record g c = omega (arith, c.requires.records)

pub visit-requires-clause-kept : goal.visit-requires-clause-kept
visit-requires-clause-kept g c = c.requires.kept

pub returns-clause-covered : goal.returns-clause-covered
returns-clause-covered g c = c.loop-at.invariant.covered

pub returns-clause-fit : goal.returns-clause-fit
returns-clause-fit g c = c.loop-at.invariant.fit
