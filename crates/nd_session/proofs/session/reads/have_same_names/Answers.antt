use Rattle.std.proofs.Common.{◌≡◌, ◌∙◌, ap, sym, refl, arith, string_bytes}
use Rattle.nd_model.specs.Cells.Session as model
use Rattle.nd_session.specs.Session.Live.{live}
use Rattle.nd_session.specs.Session.Reading.{value_at}
use Rattle.nd_session.proofs.session.Agreeing.{IsNameFound, false_true, lent_value}
use Rattle.nd_heap.proofs.Entries.{all_more, all_of}
use Rattle.nd_session.proofs.session.Reading.{text_all, text_entry}
use Rattle.nd_session.proofs.session.reads.have_same_names.Goals as goal

pub returns-then-not-are_same_values : goal.returns-then-not-are_same_values
returns-then-not-are_same_values c =
    let names = (live c.args.session.now).names in (
      false_true,
      λ all. sym c.if-not-are_same_values.true ∙ c.are_same_values.ensures.1 (lent_value c.as_ref.result ∙ ap value_at c.as_ref.ensures.value
          ∙ all (string_bytes c.in-Some.name.now) (value_at c.in-Some.value.now) (text_entry value_at c.in-Some.name.now c.in-Some.value.now c.args.reads.now.entries c.in-Some.ensures.value)
          ∙ sym (c.peek.ensures ∙ ap (λ n. model.lookup n names) c.as_str.ensures.value)),
    )

pub loop-i-preserved : goal.loop-i-preserved
loop-i-preserved c =
    let names = (live c.args.session.now).names in
    all_more (IsNameFound names) c.args.reads.now.entries c.loop-i.i (c.in-Some.name.now, c.in-Some.value.now) (sym c.in-Some.ensures.entry)
    (sym (lent_value c.as_ref.result ∙ ap value_at c.as_ref.ensures.value) ∙ c.are_same_values.ensures.0 c.if-not-are_same_values.false
    ∙ c.peek.ensures ∙ ap (λ n. model.lookup n names) c.as_str.ensures.value) c.loop-i.invariant

pub returns : goal.returns
returns c =
    let names = (live c.args.session.now).names in (
      λ yes. text_all value_at (λ n v. v ≡ model.lookup n names) c.args.reads.now.entries
          (all_of (IsNameFound names) c.args.reads.now.entries c.loop-i.i (omega (arith, c.loop-i-test.false, c.len-i-end.ensures.len)) c.loop-i.invariant),
      λ all. refl,
    )
