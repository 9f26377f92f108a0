-- The rule is read before no rules.
use Rattle.std.proofs.Common.{◌≡◌, ◌≤◌, length, List, [], ◌∷◌, ℕ, Bool, ap, subst, sym, ◌∙◌}
use Rattle.nd_model.specs.Formats.RuleReading.{run, reading}
use Rattle.nd_grammar.specs.Reads.{rule_of, ahead, after, rest_of, seen, roles_of}
use Rattle.nd_grammar.proofs.Runs.{run_none, run_within}
use Rattle.nd_grammar.proofs.read.Goals as goal
use Rattle.nd_grammar.proofs.read.Goals.{in-Some, in-None}

pub returns-clause-read : goal.returns-clause-read
unfolding reading
returns-clause-read c = elim c.match-branch-2.branch [
  | in-Some w ↦ (
      let end : after new (rest_of c.in_ok-rest.field-0) [] ≡ (new, c.match-branch-2.whole) = subst (λ o. after new (rest_of o) [] ≡ (new, c.match-branch-2.whole)) (sym w.in-Some.is)
      (run_none new w.in-Some.rest.now ∙ ap (λ b. (new, b)) (sym (w.whole-is ∙ w.is_empty-whole.ensures))) in
      sym (begin ∙ end)
      )
  | in-None w ↦ (
      let end : after new (rest_of c.in_ok-rest.field-0) [] ≡ (new, c.match-branch-2.whole) =
      subst (λ o. after new (rest_of o) [] ≡ (new, c.match-branch-2.whole)) (sym w.in-None.is) (ap (λ b. (new, b)) (sym w.whole-is)) in
      sym (begin ∙ end)
      )
]
  where
    new : List ℕ
    new = c.read_rule.new.roles.items

    begin : seen (run (rule_of c.args.rule.now ∷ []) c.args.tokens.now) ≡ after new (rest_of c.in_ok-rest.field-0) []
    begin =
        subst (λ l. ahead l (run (rule_of c.args.rule.now ∷ []) c.args.tokens.now) ≡ after new (rest_of c.in_ok-rest.field-0) []) c.new-roles.ensures.items (c.in_ok-rest.ensures.read [])

pub returns-clause-within : goal.returns-clause-within
unfolding reading
returns-clause-within c =
    let same : c.read_rule.new.roles.items ≡ roles_of (run (rule_of c.args.rule.now ∷ []) c.args.tokens.now).parts = ap (λ (x : List ℕ × Bool). x.0) (returns-clause-read c) in
    let le : length c.read_rule.new.roles.items ≤ length c.args.tokens.now = rw same (run_within c.args.tokens.now (rule_of c.args.rule.now ∷ [])) in
    le
