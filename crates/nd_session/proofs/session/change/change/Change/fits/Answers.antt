use Rattle.std.proofs.Common.{◌≡◌, ◌∙◌, Bool, false, sym, subst}
use Rattle.std.specs.Prelude.{◌↔◌, IsTrue}
use Rattle.nd_change.specs.Change.{Fits}
use Rattle.nd_session.specs.Session.Change.{ChangeData, change_of, reader_in, whole_in}
use Rattle.nd_session.specs.Session.Now.{data_in}
use Rattle.nd_session.specs.Session.Reading.{reads_of}
use Rattle.nd_session.specs.Session.Reads.{ReadsData}
use Rattle.nd_session.proofs.session.Agreeing.{false_true}
use Rattle.nd_session.proofs.session.Fitting.{fitting, rule_fits, names_fit, inputs_fit, lengths_fit, bytes_fit}
use Rattle.nd_session.proofs.session.change.change.Change.fits.Goals as goal

fits_as : (c d : ChangeData) (r s : ReadsData) (t : Bool) → c ≡ d → r ≡ s → IsTrue t ↔ Fits (change_of c) (reader_in r) → IsTrue t ↔ Fits (change_of d) (reader_in s)
fits_as c d r s t one two h = subst (λ (d : ChangeData). IsTrue t ↔ Fits (change_of d) (reader_in s)) one (subst (λ (s : ReadsData). IsTrue t ↔ Fits (change_of c) (reader_in s)) two h)

pub returns-then-not-fits_rule : goal.returns-then-not-fits_rule
returns-then-not-fits_rule c = fits_as (data_in c.self.inside) c.args.self.now (reads_of c.reads.inside) c.args.reads.now false c.self.view_is c.reads.view_is (
  false_true,
  λ all. sym c.if-not-fits_rule.true ∙ c.fits_rule.ensures.1 (rule_fits (whole_in (data_in c.self.inside)) (reads_of c.reads.inside) all),
)

pub returns-then-not-fit_names : goal.returns-then-not-fit_names
returns-then-not-fit_names c = fits_as (data_in c.self.inside) c.args.self.now (reads_of c.reads.inside) c.args.reads.now false c.self.view_is c.reads.view_is (
  false_true,
  λ all. sym c.if-not-fit_names.true ∙ c.fit_names.ensures.1 (names_fit (whole_in (data_in c.self.inside)) (reads_of c.reads.inside) all),
)

pub returns-then-not-fit_inputs : goal.returns-then-not-fit_inputs
returns-then-not-fit_inputs c = fits_as (data_in c.self.inside) c.args.self.now (reads_of c.reads.inside) c.args.reads.now false c.self.view_is c.reads.view_is (
  false_true,
  λ all. sym c.if-not-fit_inputs.true ∙ c.fit_inputs.ensures.1 (inputs_fit (whole_in (data_in c.self.inside)) (reads_of c.reads.inside) all),
)

pub returns-then-not-fit_lengths : goal.returns-then-not-fit_lengths
returns-then-not-fit_lengths c = fits_as (data_in c.self.inside) c.args.self.now (reads_of c.reads.inside) c.args.reads.now false c.self.view_is c.reads.view_is (
  false_true,
  λ all. sym c.if-not-fit_lengths.true ∙ c.fit_lengths.ensures.1 (lengths_fit (whole_in (data_in c.self.inside)) (reads_of c.reads.inside) all),
)

pub returns : goal.returns
returns c = fits_as (data_in c.self.inside) c.args.self.now (reads_of c.reads.inside) c.args.reads.now c.fit_bytes.result c.self.view_is c.reads.view_is (
  λ yes. fitting (whole_in (data_in c.self.inside)) (reads_of c.reads.inside) (c.fits_rule.ensures.0 c.if-not-fits_rule.false) (c.fit_names.ensures.0 c.if-not-fit_names.false) (c.fit_inputs.ensures.0 c.if-not-fit_inputs.false)
      (c.fit_lengths.ensures.0 c.if-not-fit_lengths.false) (c.fit_bytes.ensures.0 yes),
  λ all. c.fit_bytes.ensures.1 (bytes_fit (whole_in (data_in c.self.inside)) (reads_of c.reads.inside) all),
)
