use Rattle.std.proofs.Common.{◌∙◌, sym, subst}
use Rattle.std.specs.Prelude.{◌↔◌, IsTrue, false}
use Rattle.nd_model.specs.Cells.Running as running
use Rattle.nd_session.specs.Session.Live.{live}
use Rattle.nd_session.specs.Session.Reading.{reads_of}
use Rattle.nd_session.specs.Session.Reads.{ReadsData}
use Rattle.nd_session.specs.Inputs.Values.{inputs_of, world_of}
use Rattle.nd_session.proofs.session.Agreeing.{Agreed, false_true, agreeing, agree_rule, agree_names, agree_inputs, agree_lengths, agree_bytes}
use Rattle.nd_session.proofs.session.reads.Reads.agree.Goals as goal

pub returns-then-not-has_same_rule : goal.returns-then-not-has_same_rule
returns-then-not-has_same_rule c =
    let s = running.session_of (live c.args.session.now) in
    let i = world_of (inputs_of c.args.inputs.now.entries) c.args.rule in
    subst (λ (r : ReadsData). IsTrue false ↔ Agreed r s i) c.self.view_is (
      false_true,
      λ all. sym c.if-not-has_same_rule.true ∙ c.has_same_rule.ensures.1 (agree_rule (reads_of c.self.inside) s i all),
    )

pub returns-then-not-have_same_names : goal.returns-then-not-have_same_names
returns-then-not-have_same_names c =
    let s = running.session_of (live c.args.session.now) in
    let i = world_of (inputs_of c.args.inputs.now.entries) c.args.rule in
    subst (λ (r : ReadsData). IsTrue false ↔ Agreed r s i) c.self.view_is (
      false_true,
      λ all. sym c.if-not-have_same_names.true ∙ c.have_same_names.ensures.1 (agree_names (reads_of c.self.inside) s i all),
    )

pub returns-then-not-have_same_inputs : goal.returns-then-not-have_same_inputs
returns-then-not-have_same_inputs c =
    let s = running.session_of (live c.args.session.now) in
    let i = world_of (inputs_of c.args.inputs.now.entries) c.args.rule in
    subst (λ (r : ReadsData). IsTrue false ↔ Agreed r s i) c.self.view_is (
      false_true,
      λ all. sym c.if-not-have_same_inputs.true ∙ c.have_same_inputs.ensures.1 (agree_inputs (reads_of c.self.inside) s i all),
    )

pub returns-then-not-have_same_lengths : goal.returns-then-not-have_same_lengths
returns-then-not-have_same_lengths c =
    let s = running.session_of (live c.args.session.now) in
    let i = world_of (inputs_of c.args.inputs.now.entries) c.args.rule in
    subst (λ (r : ReadsData). IsTrue false ↔ Agreed r s i) c.self.view_is (
      false_true,
      λ all. sym c.if-not-have_same_lengths.true ∙ c.have_same_lengths.ensures.1 (agree_lengths (reads_of c.self.inside) s i all),
    )

pub returns : goal.returns
returns c =
    let s = running.session_of (live c.args.session.now) in
    let i = world_of (inputs_of c.args.inputs.now.entries) c.args.rule in
    subst (λ (r : ReadsData). IsTrue c.have_same_bytes.result ↔ Agreed r s i) c.self.view_is (
      λ yes. agreeing (reads_of c.self.inside) s i (c.has_same_rule.ensures.0 c.if-not-has_same_rule.false) (c.have_same_names.ensures.0 c.if-not-have_same_names.false) (c.have_same_inputs.ensures.0 c.if-not-have_same_inputs.false)
          (c.have_same_lengths.ensures.0 c.if-not-have_same_lengths.false) (c.have_same_bytes.ensures.0 yes),
      λ all. c.have_same_bytes.ensures.1 (agree_bytes (reads_of c.self.inside) s i all),
    )
