use Rattle.std.proofs.Common.{◌≡◌, ℕ, ◌++◌, List, unwrap_or, drop, length, map, take, ap, ◌∙◌, arith}
use Rattle.std.proofs.lemmas.List.{length-map}
use Rattle.nd_marks.specs.Kept.{KeptData, byte_for, byte_of, kept_at, places_in}
use Rattle.nd_marks.proofs.Walks.{kept_of_block}
use Rattle.nd_marks.proofs.Windows.{kept_over, taken_all}
use Rattle.nd_marks.proofs.kept.KeptBytes.overwrite.Goals as goal

pub invariant_of-self : goal.invariant_of-self
invariant_of-self c =
    let i = c.self.inside in let ps = places_in i.marks in let bs = i.bytes.items in let new = c.overwrite_bytes.new.bytes in let h = λ (p x : ℕ). unwrap_or (kept_at c.args.other.now p) x in
    let f = byte_for ps bs in
    let is : new ≡ map (λ p. h p (f p)) ps = c.overwrite_bytes.ensures ∙ ap (λ (ys : List ℕ). map (λ p. h p (byte_for ps ys p)) ps) c.deref_mut.ensures.value in
    let first : length new ≡ length ps = ap length is ∙ length-map ps (λ p. h p (f p)) in
    let old : length bs ≡ length ps = ap length c.self.invariant ∙ length-map ps f in
    let long : length new ≡ i.bytes.len = omega (arith, first, old, c.deref_mut.ensures.len, ap length c.deref_mut.ensures.value) in
    let taken = taken_all new bs i.bytes.len long in
    kept_of_block (λ p. h p (f p)) ps (take i.bytes.len (new ++ drop (length new) bs)) (taken ∙ is)

pub returns : goal.returns
returns c = λ p.
    let i = c.self.inside in let ps = places_in i.marks in let bs = i.bytes.items in let new = c.overwrite_bytes.new.bytes in let h = λ (p x : ℕ). unwrap_or (kept_at c.args.other.now p) x in
    let f = byte_for ps bs in
    let is : new ≡ map (λ p. h p (f p)) ps = c.overwrite_bytes.ensures ∙ ap (λ (ys : List ℕ). map (λ p. h p (byte_for ps ys p)) ps) c.deref_mut.ensures.value in
    let first : length new ≡ length ps = ap length is ∙ length-map ps (λ p. h p (f p)) in
    let old : length bs ≡ length ps = ap length c.self.invariant ∙ length-map ps f in
    let long : length new ≡ i.bytes.len = omega (arith, first, old, c.deref_mut.ensures.len, ap length c.deref_mut.ensures.value) in
    let taken = taken_all new bs i.bytes.len long in
    kept_over h c.args.self.now i.marks (take i.bytes.len (new ++ drop (length new) bs)) p (ap (λ (k : KeptData). k.marks) c.self.view_is)
    (taken ∙ is ∙ ap (λ (k : KeptData). map (λ q. h q (byte_of k q)) (places_in k.marks)) c.self.view_is)
