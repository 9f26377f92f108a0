use Rattle.std.proofs.Common.{◌<◌, [], ◌++◌, ◌∙◌, length, take, refl, ap, rules}
use Rattle.std.proofs.KnownBytes.{Consumes-nil, Consumes-trans}
use Rattle.std.proofs.lemmas.Result.{IfErr-weaker, err_from_is_err_and, on_ok_weaker}
use Rattle.nd_script.specs.Lines.Ends.{counted_on}
use Rattle.nd_script.proofs.lines.Chunks.{fits_none, runs_start}
use Rattle.nd_script.proofs.lines.Counts.{counted_none, counted_more}
use Rattle.nd_script.proofs.lines.Progress.{consumes_none, consumes_at_failure, ran_to_end, runs_runs, stopped_at_end, stopped_in_bytes, stopped_in_reading}
use Rattle.nd_script.proofs.lines.runner.run_lines.Goals as goal

pub loop-turn-init : goal.loop-turn-init
loop-turn-init g c = record {
  fits = fits_none c.new-script.result.line.items c.new-script.ensures;
  so_far = (
    [],
    Consumes-nil (g.R.CountedRead.remaining c.args.reader.now),
    runs_start g.A.Answerer.language (g.A.Answerer.stage c.args.answerer.now) c.new-script.result.line.items (g.A.Answerer.state c.args.answerer.now) (g.W.CountedWrite.contents c.args.writer.now) c.new-script.ensures,
  );
  turn = counted_none (g.R.CountedRead.reads c.args.reader.now);
  reader_kept = refl;
  writer_kept = refl;
  same_reference = refl;
  same_meter = refl;
}

pub returns-then-n-eq0-clause-to_end : goal.returns-then-n-eq0-clause-to_end
returns-then-n-eq0-clause-to_end g c =
    let inv = c.loop-turn.invariant.so_far in
    let room : 0 < length c.read_counted.new.buffer = search rules in
    let read = c.in-Ok.ensures.bytes in
    let unread = g.R.CountedRead.remaining c.args.reader.now in
    let left = g.R.CountedRead.remaining c.read_counted.new.self in
    let taken = consumes_none unread (g.R.CountedRead.remaining c.loop-turn.reader) left inv.0 c.read_counted.new.buffer c.in-Ok.n inv.1 read.0 c.if-n-eq0.true in
    on_ok_weaker c.finish.result
    (λ q. ran_to_end g.A.Answerer.language (g.A.Answerer.stage c.args.answerer.now) unread left inv.0 (g.A.Answerer.stage c.loop-turn.answerer) c.loop-turn.script.line.items (g.A.Answerer.state c.args.answerer.now) (g.A.Answerer.state c.loop-turn.answerer) (g.A.Answerer.state c.finish.new.answerer)
    (g.W.CountedWrite.contents c.args.writer.now) (g.W.CountedWrite.contents c.loop-turn.writer) (g.W.CountedWrite.contents c.finish.new.writer) taken (read.1 c.if-n-eq0.true room) inv.2 q)
    c.finish.ensures.ok

pub returns-then-n-eq0-clause-stopped : goal.returns-then-n-eq0-clause-stopped
returns-then-n-eq0-clause-stopped g c =
    let inv = c.loop-turn.invariant.so_far in
    let room : 0 < length c.read_counted.new.buffer = search rules in
    let read = c.in-Ok.ensures.bytes in
    let unread = g.R.CountedRead.remaining c.args.reader.now in
    let left = g.R.CountedRead.remaining c.read_counted.new.self in
    let taken = consumes_none unread (g.R.CountedRead.remaining c.loop-turn.reader) left inv.0 c.read_counted.new.buffer c.in-Ok.n inv.1 read.0 c.if-n-eq0.true in
    IfErr-weaker c.finish.result _ _
    (λ f q. stopped_at_end g.A.Answerer.language (g.A.Answerer.stage c.args.answerer.now) f unread left inv.0 (g.A.Answerer.stage c.loop-turn.answerer) c.loop-turn.script.line.items (g.A.Answerer.state c.args.answerer.now) (g.A.Answerer.state c.loop-turn.answerer) (g.A.Answerer.state c.finish.new.answerer)
    (g.W.CountedWrite.contents c.args.writer.now) (g.W.CountedWrite.contents c.loop-turn.writer) (g.W.CountedWrite.contents c.finish.new.writer) taken (read.1 c.if-n-eq0.true room) inv.2 q)
    c.finish.ensures.err

pub returns-in_err-take_bytes-clause-stopped : goal.returns-in_err-take_bytes-clause-stopped
returns-in_err-take_bytes-clause-stopped g c =
    let p = err_from_is_err_and c.from_residual.result c.from_residual.ensures.1 in
    let inv = c.loop-turn.invariant.so_far in
    let bytes = take c.in-Ok.n c.read_counted.new.buffer in
    let unread = g.R.CountedRead.remaining c.args.reader.now in
    let left = g.R.CountedRead.remaining c.read_counted.new.self in
    let taken = Consumes-trans unread (g.R.CountedRead.remaining c.loop-turn.reader) left inv.0 bytes inv.1 c.in-Ok.ensures.bytes.0 in
    rw (p.1, p.2) (
    stopped_in_bytes g.A.Answerer.language (g.A.Answerer.stage c.args.answerer.now) _ unread left inv.0 bytes (g.A.Answerer.stage c.loop-turn.answerer) c.loop-turn.script.line.items (g.A.Answerer.state c.args.answerer.now) (g.A.Answerer.state c.loop-turn.answerer) (g.A.Answerer.state c.take_bytes.new.answerer)
    (g.W.CountedWrite.contents c.args.writer.now) (g.W.CountedWrite.contents c.loop-turn.writer) (g.W.CountedWrite.contents c.take_bytes.new.writer) c.in_err-take_bytes.ensures.unread taken inv.2 c.in_err-take_bytes.ensures.err
    )

pub returns-in_err-take_bytes-clause-read : goal.returns-in_err-take_bytes-clause-read
returns-in_err-take_bytes-clause-read g c =
    let p = err_from_is_err_and c.from_residual.result c.from_residual.ensures.1 in
    rw (p.1, p.2) (λ e. absurd (c.in_err-take_bytes.ensures.unread e))

pub loop-turn-preserved : goal.loop-turn-preserved
loop-turn-preserved g c =
    let kept = c.loop-turn.invariant in
    let inv = kept.so_far in
    let bytes = take c.in-Ok.n c.read_counted.new.buffer in
    let unread = g.R.CountedRead.remaining c.args.reader.now in
    let left = g.R.CountedRead.remaining c.read_counted.new.self in
    record {
      fits = c.in_ok-take_bytes.ensures.fits;
      so_far = (
        inv.0 ++ bytes,
        Consumes-trans unread (g.R.CountedRead.remaining c.loop-turn.reader) left inv.0 bytes inv.1 c.in-Ok.ensures.bytes.0,
        runs_runs g.A.Answerer.language (g.A.Answerer.stage c.args.answerer.now) [] inv.0 (g.A.Answerer.stage c.loop-turn.answerer) c.loop-turn.script.line.items bytes (g.A.Answerer.stage c.take_bytes.new.answerer) c.take_bytes.new.self.line.items (g.A.Answerer.state c.args.answerer.now)
            (g.A.Answerer.state c.loop-turn.answerer) (g.A.Answerer.state c.take_bytes.new.answerer) (g.W.CountedWrite.contents c.args.writer.now) (g.W.CountedWrite.contents c.loop-turn.writer) (g.W.CountedWrite.contents c.take_bytes.new.writer)
            inv.2 c.in_ok-take_bytes.ensures.ok,
      );
      turn = c.read_counted.ensures.turn ∙ ap (λ n. counted_on n 1) kept.turn ∙ counted_more (g.R.CountedRead.reads c.args.reader.now) c.loop-turn._turn;
      reader_kept = c.in-Ok.ensures.kept ∙ kept.reader_kept;
      writer_kept = c.in_ok-take_bytes.ensures.kept ∙ kept.writer_kept;
      same_reference = c.take_bytes.ensures.same_reference ∙ kept.same_reference;
      same_meter = c.take_bytes.ensures.same_meter ∙ kept.same_meter;
    }

pub returns-in_default-clause-stopped : goal.returns-in_default-clause-stopped
returns-in_default-clause-stopped g c =
    let inv = c.loop-turn.invariant in
    let unread = g.R.CountedRead.remaining c.args.reader.now in
    let left = g.R.CountedRead.remaining c.read_counted.new.self in
    let taken = consumes_at_failure c.read_counted.result unread (g.R.CountedRead.remaining c.loop-turn.reader) left inv.so_far.0 c.read_counted.new.buffer inv.so_far.1 c.in_default.not-Ok c.read_counted.ensures.bytes in
    stopped_in_reading g.A.Answerer.language (g.A.Answerer.stage c.args.answerer.now) unread left inv.so_far.0 (g.A.Answerer.stage c.loop-turn.answerer) c.loop-turn.script.line.items (g.A.Answerer.state c.args.answerer.now) (g.A.Answerer.state c.loop-turn.answerer)
    (g.W.CountedWrite.contents c.args.writer.now) (g.W.CountedWrite.contents c.loop-turn.writer) taken inv.fits.in_line inv.so_far.2

pub returns-clause-stopped : goal.returns-clause-stopped
returns-clause-stopped g c =
    let inv = c.loop-turn.invariant in
    stopped_in_reading g.A.Answerer.language (g.A.Answerer.stage c.args.answerer.now) (g.R.CountedRead.remaining c.args.reader.now) (g.R.CountedRead.remaining c.loop-turn.reader) inv.so_far.0 (g.A.Answerer.stage c.loop-turn.answerer) c.loop-turn.script.line.items (g.A.Answerer.state c.args.answerer.now)
    (g.A.Answerer.state c.loop-turn.answerer) (g.W.CountedWrite.contents c.args.writer.now) (g.W.CountedWrite.contents c.loop-turn.writer) inv.so_far.1 inv.fits.in_line inv.so_far.2
