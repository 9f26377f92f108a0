use Rattle.std.proofs.Common.{◌≡◌, ◌∙◌, cond, List, ℕ, Option, map, option_map, sym, string_bytes, ap, ap₂}
use Rattle.nd_model.specs.Arrays.Value as model
use Rattle.nd_model.specs.Cells.Running as running
use Rattle.nd_heap.specs.Values.{base_of, value_of}
use Rattle.nd_trace.specs.Events.{seen_in}
use Rattle.nd_trace.specs.Noted.{unread_in, with_length, with_text}
use Rattle.nd_trace.specs.Seen.{Seen}
use Rattle.nd_trace.specs.Traced.{trace_of}
use Rattle.nd_trace.proofs.Traces.{length_of_value, named}
use Rattle.nd_trace.proofs.trace.Trace.note_lookup.Goals as goal

pub returns-clause-after : goal.returns-clause-after
returns-clause-after c =
    let n = c.args.name.now in
    let v : Option model.Value = option_map (λ v. value_of v.now) c.args.value in
    let t = seen_in c.self.inside in
    let looked : List (List ℕ) = map string_bytes c.add_name.new.looked.keys in
    let own : c.contains-is_own.result ≡ running.is_touched n t.events = c.contains-is_own.ensures ∙ c.self.invariant n in
    let is : looked ≡ cond (running.is_touched n t.events) t.looked (with_text n t.looked) = c.in_ok-add_name.ensures.ok ∙ ap (λ o. cond o t.looked (with_text n t.looked)) own in
    let long : map base_of c.add_length.new.lengths.keys ≡ with_length (unread_in t v) t.lengths
    = c.add_length.ensures ∙ ap₂ (λ u ks. with_length u (map base_of ks)) (c.unread_base-unread.ensures.base ∙ ap (λ (t : Seen). unread_in t v) (sym c.self.view_is)) c.make_room.ensures.same in
    length_of_value (record t { looked = looked }) v (map base_of c.add_length.new.lengths.keys) long
    ∙ ap (running.having_read (running.is_length_of v)) (named t n looked is)
    ∙ ap (λ (t : Seen). running.having_read (running.is_length_of v) (running.having_read (running.is_name n) (trace_of t))) c.self.view_is
