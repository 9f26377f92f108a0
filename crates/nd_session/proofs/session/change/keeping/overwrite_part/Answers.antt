use Rattle.std.proofs.Common.{◌≡◌, ◌∙◌, ℕ, Option, None, Some, cond, false, true, sym, ap, refl, option_map}
use Rattle.std.specs.Prelude.{is_some, unwrap_or}
use Rattle.nd_heap.specs.Values.{base_of}
use Rattle.nd_marks.specs.Kept.{kept_at}
use Rattle.nd_session.specs.Session.Change.{part_at}
use Rattle.nd_session.specs.Session.Now.{kept_in, part_now}
use Rattle.nd_heap.proofs.Same.{base_same}
use Rattle.nd_session.proofs.session.Matching.{base_removed}
use Rattle.nd_session.specs.Session.Found.{by_base, bytes_of, found_at, lookup_base}
use Rattle.nd_session.proofs.session.Dropping.{stays_apart, taken_out, written_over}
use Rattle.nd_session.proofs.session.Reading.{base_found, base_insert, same_base_sym}
use Rattle.nd_session.proofs.session.change.keeping.overwrite_part.Goals as goal

pub returns-then-is_apart-clause-here : goal.returns-then-is_apart-clause-here
returns-then-is_apart-clause-here c = λ p.
    let here : part_now c.args.parts.now.entries (base_of c.args.base) p ≡ kept_at (kept_in c.in-Some.part.now) p
    = ap (λ o. part_at o p) (base_found kept_in c.args.base c.args.parts.now.entries ∙ ap (option_map kept_in) (sym c.in-Some.ensures.value)) in
    stays_apart (found_at (bytes_of c.args.found.now)) (part_now c.args.parts.now.entries (base_of c.args.base)) p
    (λ some. c.is_apart.ensures c.if-is_apart.true p (ap (λ k. is_some (kept_at k p)) c.as_ref.ensures ∙ sym (ap is_some here) ∙ some))

pub returns-then-has_offsets_of-clause-here : goal.returns-then-has_offsets_of-clause-here
returns-then-has_offsets_of-clause-here c = λ p.
    let es = c.args.parts.now.entries in
    let base = base_of c.args.base in
    let here : part_now es base p ≡ kept_at (kept_in c.in-Some.part.now) p
    = ap (λ o. part_at o p) (base_found kept_in c.args.base es ∙ ap (option_map kept_in) (sym c.in-Some.ensures.value)) in
    taken_out (found_at (bytes_of c.args.found.now)) (part_now es base) (part_now c.swap_remove.new.self.entries base) p
    (ap is_some here ∙ sym (ap (λ k. is_some (kept_at k p)) c.as_ref-2.ensures) ∙ c.has_offsets_of.ensures c.if-has_offsets_of.true p)
    (ap (λ o. part_at o p) (base_removed kept_in c.args.base es c.swap_remove.new.self.entries c.swap_remove.ensures.updates.0 base ∙ ap (λ t. cond t None (lookup_base base (by_base kept_in es))) (base_same base)))

pub returns-then-has_offsets_of-clause-others : goal.returns-then-has_offsets_of-clause-others
returns-then-has_offsets_of-clause-others c = λ b p other.
    let es = c.args.parts.now.entries in
    ap (λ o. part_at o p) (base_removed kept_in c.args.base es c.swap_remove.new.self.entries c.swap_remove.ensures.updates.0 b
    ∙ ap (λ t. cond t None (lookup_base b (by_base kept_in es))) (same_base_sym (base_of c.args.base) b ∙ other))

pub returns-in-None-clause-here : goal.returns-in-None-clause-here
returns-in-None-clause-here c = λ p.
    let none : part_now c.args.parts.now.entries (base_of c.args.base) p ≡ None
    = ap (λ o. part_at o p) (base_found kept_in c.args.base c.args.parts.now.entries ∙ ap (option_map kept_in) (sym c.in-None.ensures.value)) in
    stays_apart (found_at (bytes_of c.args.found.now)) (part_now c.args.parts.now.entries (base_of c.args.base)) p (λ some. absurd (let no : false ≡ true = sym (ap is_some none) ∙ some in cc))

pub returns-clause-here : goal.returns-clause-here
returns-clause-here c = λ p.
    let es = c.args.parts.now.entries in
    let base = base_of c.args.base in
    let new = c.insert.new.self.entries in
    let w = found_at (bytes_of c.args.found.now) in
    let here : part_now es base p ≡ kept_at (kept_in c.in-Some.part.now) p
    = ap (λ o. part_at o p) (base_found kept_in c.args.base es ∙ ap (option_map kept_in) (sym c.in-Some.ensures.value)) in
    let put : part_now new base p ≡ kept_at (kept_in c.in_ok-shared.shared) p
    = ap (λ fs. part_now fs base p) c.in_ok-insert.ensures.entries
    ∙ ap (λ o. part_at o p) (base_insert kept_in c.args.base c.in_ok-shared.shared es base ∙ ap (λ t. cond t (Some (kept_in c.in_ok-shared.shared)) (lookup_base base (by_base kept_in es))) (base_same base)) in
    written_over w (part_now es base) (part_now new base) p (put ∙ ap (λ k. kept_at k p) c.in_ok-shared.ensures.ok ∙ c.overwrite.ensures p
    ∙ ap (λ x. cond (is_some x) (Some (unwrap_or (w p) (unwrap_or x 0))) None) (ap (λ k. kept_at k p) (c.in_ok-own.ensures ∙ c.as_ref-3.ensures) ∙ sym here))

pub returns-clause-others : goal.returns-clause-others
returns-clause-others c = λ b p other.
    let es = c.args.parts.now.entries in
    ap (λ fs. part_now fs b p) c.in_ok-insert.ensures.entries
    ∙ ap (λ o. part_at o p) (base_insert kept_in c.args.base c.in_ok-shared.shared es b ∙ ap (λ t. cond t (Some (kept_in c.in_ok-shared.shared)) (lookup_base b (by_base kept_in es))) other)
