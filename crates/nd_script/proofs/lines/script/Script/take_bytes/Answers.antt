use Rattle.std.proofs.Common.{◌∙◌, [], refl, sym}
use Rattle.std.proofs.lemmas.Result.{err_from_is_err_and}
use Rattle.nd_script.proofs.lines.Progress.{runs_none}
use Rattle.nd_script.proofs.lines.Chunks.{fits_none, in_line_extended, stops_extend, stops_end, line_more, last_runs, last_fits, last_stops}
use Rattle.nd_script.proofs.lines.script.Script.take_bytes.Goals as goal

pub loop-end-init : goal.loop-end-init
loop-end-init g c = record {
  fits = c.requires;
  so_far = ([], refl, runs_none g.A.Answerer.language (g.A.Answerer.stage c.args.answerer.now) c.args.self.now.line.items (g.A.Answerer.state c.args.answerer.now) (g.W.CountedWrite.contents c.args.writer.now));
  kept = refl;
  same_reference = refl;
  same_meter = refl;
}

pub returns-in_err-extend_line-clause-err : goal.returns-in_err-extend_line-clause-err
returns-in_err-extend_line-clause-err g c =
    let p = err_from_is_err_and c.from_residual.result c.from_residual.ensures.1 in
    let inv = c.loop-end.invariant in
    let found = sym c.newline_in.ensures ∙ c.in-Some.is in
    rw (p.1, p.2) (
    stops_extend g.A.Answerer.language _ (g.A.Answerer.stage c.args.answerer.now) c.args.self.now.line.items inv.so_far.0 (g.A.Answerer.stage c.loop-end.answerer) c.loop-end.self.line.items _ c.loop-end.rest.now c.args.bytes.now c.in-Some.end
    (g.A.Answerer.state c.args.answerer.now) (g.A.Answerer.state c.loop-end.answerer) (g.W.CountedWrite.contents c.args.writer.now) (g.W.CountedWrite.contents c.loop-end.writer) found refl inv.fits.in_line inv.so_far.1 inv.so_far.2
    c.in_err-extend_line.ensures.fault
    )

pub end_line-requires : goal.end_line-requires
end_line-requires g c =
    let found = sym c.newline_in.ensures ∙ c.in-Some.is in
    in_line_extended c.loop-end.rest.now c.loop-end.self.line.items _ c.extend_line.new.self.line.items c.in-Some.end found refl c.loop-end.invariant.fits.in_line c.in_ok-extend_line.ensures.line

pub returns-in_err-end_line-clause-err : goal.returns-in_err-end_line-clause-err
returns-in_err-end_line-clause-err g c =
    let p = err_from_is_err_and c.from_residual-in_err-end_line.result c.from_residual-in_err-end_line.ensures.1 in
    let inv = c.loop-end.invariant in
    let found = sym c.newline_in.ensures ∙ c.in-Some.is in
    rw (p.1, p.2) (
    stops_end g.A.Answerer.language _ (g.A.Answerer.stage c.args.answerer.now) c.args.self.now.line.items inv.so_far.0 (g.A.Answerer.stage c.loop-end.answerer) c.loop-end.self.line.items _
    c.extend_line.new.self.line.items c.loop-end.rest.now c.args.bytes.now c.in-Some.end (g.A.Answerer.state c.args.answerer.now) (g.A.Answerer.state c.loop-end.answerer) (g.A.Answerer.state c.end_line.new.answerer)
    (g.W.CountedWrite.contents c.args.writer.now) (g.W.CountedWrite.contents c.loop-end.writer) (g.W.CountedWrite.contents c.end_line.new.writer) found refl inv.fits.in_line inv.so_far.1 inv.so_far.2
    c.in_ok-extend_line.ensures.line c.in_err-end_line.ensures.err
    )

pub loop-end-preserved : goal.loop-end-preserved
loop-end-preserved g c =
    let inv = c.loop-end.invariant in
    let found = sym c.newline_in.ensures ∙ c.in-Some.is in
    record {
      fits = fits_none c.end_line.new.self.line.items c.in_ok-end_line.ensures.line;
      so_far = line_more g.A.Answerer.language (g.A.Answerer.stage c.args.answerer.now) c.args.self.now.line.items inv.so_far.0 (g.A.Answerer.stage c.loop-end.answerer) (g.A.Answerer.stage c.end_line.new.answerer)
          c.loop-end.self.line.items _ c.extend_line.new.self.line.items c.loop-end.rest.now c.args.bytes.now c.end_line.new.self.line.items c.in-Some.end (g.A.Answerer.state c.args.answerer.now) (g.A.Answerer.state c.loop-end.answerer)
          (g.A.Answerer.state c.end_line.new.answerer) (g.W.CountedWrite.contents c.args.writer.now) (g.W.CountedWrite.contents c.loop-end.writer) (g.W.CountedWrite.contents c.end_line.new.writer) found refl inv.fits.in_line inv.so_far.1 inv.so_far.2
          c.in_ok-extend_line.ensures.line c.in_ok-end_line.ensures.ok c.in_ok-end_line.ensures.line;
      kept = c.in_ok-end_line.ensures.kept ∙ inv.kept;
      same_reference = c.end_line.ensures.same_reference ∙ inv.same_reference;
      same_meter = c.end_line.ensures.same_meter ∙ inv.same_meter;
    }

pub returns-clause-ok : goal.returns-clause-ok
returns-clause-ok g c =
    let inv = c.loop-end.invariant in
    last_runs g.A.Answerer.language c.extend_line-2.result (g.A.Answerer.stage c.args.answerer.now) c.args.self.now.line.items inv.so_far.0 (g.A.Answerer.stage c.loop-end.answerer) c.loop-end.self.line.items
    c.extend_line-2.new.self.line.items c.loop-end.rest.now c.args.bytes.now (g.A.Answerer.state c.args.answerer.now) (g.A.Answerer.state c.loop-end.answerer) (g.W.CountedWrite.contents c.args.writer.now) (g.W.CountedWrite.contents c.loop-end.writer)
    inv.so_far.1 inv.so_far.2 c.extend_line-2.ensures.line

pub returns-clause-fits : goal.returns-clause-fits
returns-clause-fits g c =
    let none = sym c.newline_in.ensures ∙ c.in_default.is in
    last_fits c.extend_line-2.result c.loop-end.self.line.items c.extend_line-2.new.self.line.items c.loop-end.rest.now none c.loop-end.invariant.fits.in_line c.extend_line-2.ensures.line c.extend_line-2.ensures.fits

pub returns-clause-err : goal.returns-clause-err
returns-clause-err g c =
    let inv = c.loop-end.invariant in
    let none = sym c.newline_in.ensures ∙ c.in_default.is in
    last_stops g.A.Answerer.language c.extend_line-2.result (g.A.Answerer.stage c.args.answerer.now) c.args.self.now.line.items inv.so_far.0 (g.A.Answerer.stage c.loop-end.answerer) c.loop-end.self.line.items c.loop-end.rest.now c.args.bytes.now
    (g.A.Answerer.state c.args.answerer.now) (g.A.Answerer.state c.loop-end.answerer) (g.W.CountedWrite.contents c.args.writer.now) (g.W.CountedWrite.contents c.loop-end.writer) none inv.fits.in_line inv.so_far.1 inv.so_far.2 c.extend_line-2.ensures.fault
