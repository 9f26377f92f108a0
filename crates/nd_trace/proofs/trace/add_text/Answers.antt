use Rattle.std.proofs.Common.{◌∙◌, ◌++◌, ◌∷◌, [], cond, map, sym, string_bytes, ap}
use Rattle.nd_trace.proofs.Traces.{found_text, text_more}
use Rattle.nd_trace.proofs.trace.add_text.Goals as goal

pub returns-then-contains-clause-ok : goal.returns-then-contains-clause-ok
returns-then-contains-clause-ok c =
    let n = c.args.text.now in let ms = map string_bytes c.args.texts.now.keys in
    sym (ap (λ x. cond x ms (ms ++ n ∷ [])) (found_text n c.args.texts.now.keys ∙ sym c.contains.ensures ∙ c.if-contains.true))

pub returns-clause-ok : goal.returns-clause-ok
returns-clause-ok c =
    let n = c.args.text.now in let ms = map string_bytes c.args.texts.now.keys in
    let new = sym c.contains.ensures ∙ c.if-contains.false in
    text_more n c.in_ok-key.key c.args.texts.now.keys c.insert.new.self.keys c.in_ok-key.ensures.ok new c.in_ok-insert.ensures.keys
    ∙ sym (ap (λ x. cond x ms (ms ++ n ∷ [])) (found_text n c.args.texts.now.keys ∙ new))
