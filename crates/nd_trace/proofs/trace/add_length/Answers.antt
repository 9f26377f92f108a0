use Rattle.std.proofs.Common.{◌≡◌, ◌∙◌, false, map, option_map, sym, ap, subst}
use Rattle.std.specs.Prelude.{IfSome}
use Rattle.nd_heap.specs.Live.{is_base_among}
use Rattle.nd_heap.specs.Values.{base_of}
use Rattle.nd_trace.specs.Noted.{with_length}
use Rattle.nd_trace.proofs.Traces.{base_more, found_base}
use Rattle.nd_trace.proofs.trace.add_length.Goals as goal

pub returns-in-Ok : goal.returns-in-Ok
returns-in-Ok c =
    let b = c.in-Some.base in
    let ks = c.args.lengths.now.keys in
    let new : is_base_among (map base_of ks) (base_of b) ≡ false = subst (λ u. IfSome u (λ b. is_base_among (map base_of ks) (base_of b) ≡ false)) c.in-Some.is c.requires.new in
    base_more b ks c.insert.new.self.keys (sym (found_base b ks) ∙ new) c.in-Ok.ensures.keys
    ∙ ap (λ u. with_length (option_map base_of u) (map base_of ks)) (sym c.in-Some.is)
