-- Each arm by what its rule makes of the tokens before the rules that are to come.
use Rattle.std.proofs.Common.{◌≡◌, ◌<◌, ◌≤◌, ◌∷◌, List, ℕ, Option, Some, None, IfSome, true, false, length, refl, ap, subst, ◌∙◌, sym, arith, Bool}
use Rattle.std.specs.Borrow.{Bor}
use Rattle.nd_model.proofs.Parsing.Laws.{fits_many}
use Rattle.nd_model.specs.Formats.Rules.{Rule, Nothing, Then, Many}
use Rattle.nd_model.specs.Formats.RuleReading.{look, stands, run}
use Rattle.nd_grammar.specs.Reads.{rule_of, ahead, after, rest_of}
use Rattle.nd_grammar.proofs.Runs.{run_nothing, run_then, run_more, run_end, if_ok}
use Rattle.nd_grammar.proofs.+read_rule.Goals as goal

-- what the rule is, where its variant is known
by_rule : (r s : Rule) (k : List Rule) (old ts : List ℕ) → r ≡ s → ahead old (run (r ∷ k) ts) ≡ ahead old (run (s ∷ k) ts)
by_rule r s k old ts e = ap (λ x. ahead old (run (x ∷ k) ts)) e

-- what is left of a part
by_rest : (x : List ℕ × Bool) (new : List ℕ) (o p : Option (Bor (List ℕ))) (k : List Rule) → o ≡ p → x ≡ after new (rest_of o) k → x ≡ after new (rest_of p) k
by_rest x new o p k e h = subst (λ q. x ≡ after new (rest_of q) k) e h

pub returns-in-Nothing-clause-read : goal.returns-in-Nothing-clause-read
returns-in-Nothing-clause-read t c k =
    by_rule _ Nothing k c.args.roles.now.items c.args.tokens.now (ap rule_of c.in-Nothing.is) ∙ ap (ahead c.args.roles.now.items) (run_nothing k c.args.tokens.now)

pub returns-in-Some-clause-read : goal.returns-in-Some-clause-read
returns-in-Some-clause-read t c =
    let old = c.args.roles.now.items in
    let ts = c.args.tokens.now in
    let a = rule_of c.in-Then.first.now in
    let b = rule_of c.in-Then.second.now in
    if_ok c.read_rule-in-Some.result
    (λ o h k.
    by_rule _ (Then a b) k old ts (ap rule_of c.in-Then.is) ∙ ap (ahead old) (run_then a b k ts)
    ∙ by_rest _ c.read_rule.new.roles.items c.in_ok-rest-in-Then.field-0 (Some c.in-Some.rest) (b ∷ k) c.in-Some.is (c.in_ok-rest-in-Then.ensures.read (b ∷ k)) ∙ h k)
    c.read_rule-in-Some.ensures.read

pub returns-in-None-clause-read : goal.returns-in-None-clause-read
returns-in-None-clause-read t c k =
    let old = c.args.roles.now.items in
    let ts = c.args.tokens.now in
    let a = rule_of c.in-Then.first.now in
    let b = rule_of c.in-Then.second.now in
    by_rule _ (Then a b) k old ts (ap rule_of c.in-Then.is) ∙ ap (ahead old) (run_then a b k ts)
    ∙ by_rest _ c.read_rule.new.roles.items c.in_ok-rest-in-Then.field-0 None (b ∷ k) c.in-None.is (c.in_ok-rest-in-Then.ensures.read (b ∷ k))

pub loop-set-init : goal.loop-set-init
loop-set-init t c = (λ k. refl, omega arith)

pub loop-set-smaller : goal.loop-set-smaller
loop-set-smaller t c =
    let fit : (look (Many c.in-Many.set (rule_of c.in-Many.part.now))).fits ≡ true = subst (λ r. (look r).fits ≡ true) (ap rule_of c.in-Many.is) c.requires in
    let taken = subst (λ o. IfSome o (λ (rest : Bor (List ℕ)). (look (rule_of c.in-Many.part.now)).empty ≡ false → length rest.now < length c.loop-set.rest.now)) c.in-Some-2.is c.in_ok-behind-in-Many.ensures.taken in
    taken (fits_many c.in-Many.set (look (rule_of c.in-Many.part.now)) fit).1

pub loop-set-preserved : goal.loop-set-preserved
loop-set-preserved t c =
    let set = c.in-Many.set in
    let a = rule_of c.in-Many.part.now in
    let fit : (look (Many set a)).fits ≡ true = subst (λ r. (look r).fits ≡ true) (ap rule_of c.in-Many.is) c.requires in
    let m : stands set c.loop-set.rest.now ≡ true = sym c.next_in-in-loop-set.ensures ∙ c.loop-set-test.true in
    let shorter = subst (λ o. IfSome o (λ (rest : Bor (List ℕ)). length rest.now ≤ length c.loop-set.rest.now)) c.in-Some-2.is c.in_ok-behind-in-Many.ensures.shorter in
    let so_far = c.loop-set.invariant.1 in (
      λ k.
          c.loop-set.invariant.0 k ∙ ap (ahead c.loop-set.roles.items) (run_more set a k c.loop-set.rest.now fit m)
          ∙ by_rest _ c.read_rule-in-loop-set.new.roles.items c.in_ok-behind-in-Many.field-0 (Some c.in-Some-2.behind) (Many set a ∷ k) c.in-Some-2.is (c.in_ok-behind-in-Many.ensures.read (Many set a ∷ k)),
      omega arith,
    )

pub returns-in-None-2-clause-read : goal.returns-in-None-2-clause-read
returns-in-None-2-clause-read t c k =
    let set = c.in-Many.set in
    let a = rule_of c.in-Many.part.now in
    let fit : (look (Many set a)).fits ≡ true = subst (λ r. (look r).fits ≡ true) (ap rule_of c.in-Many.is) c.requires in
    let m : stands set c.loop-set.rest.now ≡ true = sym c.next_in-in-loop-set.ensures ∙ c.loop-set-test.true in
    by_rule _ (Many set a) k c.args.roles.now.items c.args.tokens.now (ap rule_of c.in-Many.is)
    ∙ c.loop-set.invariant.0 k ∙ ap (ahead c.loop-set.roles.items) (run_more set a k c.loop-set.rest.now fit m)
    ∙ by_rest _ c.read_rule-in-loop-set.new.roles.items c.in_ok-behind-in-Many.field-0 None (Many set a ∷ k) c.in-None-2.is (c.in_ok-behind-in-Many.ensures.read (Many set a ∷ k))

pub returns-after-loop-set-clause-read : goal.returns-after-loop-set-clause-read
returns-after-loop-set-clause-read t c k =
    let set = c.in-Many.set in
    let a = rule_of c.in-Many.part.now in
    let m : stands set c.loop-set.rest.now ≡ false = sym c.next_in-in-loop-set.ensures ∙ c.loop-set-test.false in
    by_rule _ (Many set a) k c.args.roles.now.items c.args.tokens.now (ap rule_of c.in-Many.is)
    ∙ c.loop-set.invariant.0 k ∙ ap (ahead c.loop-set.roles.items) (run_end set a k c.loop-set.rest.now m)

pub returns-after-loop-set-clause-shorter : goal.returns-after-loop-set-clause-shorter
returns-after-loop-set-clause-shorter t c = c.loop-set.invariant.1
