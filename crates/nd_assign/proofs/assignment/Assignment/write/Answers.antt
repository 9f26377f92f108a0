use Rattle.std.proofs.Common.{◌≡◌, ◌+◌, ◌≤◌, ◌++◌, ℕ, List, length, take, drop, sym, ap, ◌∙◌, subst}
use Rattle.std.specs.List.{All}
use Rattle.nd_model.specs.Arrays.View.{ElementType, Geo, item_size}
use Rattle.nd_convert.proofs.conversion.Written.{all_written}
use Rattle.nd_assign.specs.Copies.{with_copies}
use Rattle.nd_assign.specs.Prepared.{written_by}
use Rattle.nd_assign.specs.Ways.{AreIn, AreParted, IsMoved, IsWay, bytes_read, own_copy}
use Rattle.nd_assign.proofs.Parted.{moved_out, up, down}
use Rattle.nd_assign.proofs.Readied.{copies_written}
use Rattle.nd_assign.proofs.assignment.Assignment.write.Goals as goal

-- what is seen from a place on lies behind it
seen_in : (g moved : Geo) (m len : ℕ) (bytes : List ℕ) → IsMoved g moved m → AreIn len g → length bytes ≡ len → All (λ p. p + (m + item_size moved.element) ≤ length bytes) moved.places
seen_in g moved m len bytes seen inside long =
    subst (λ n. All (λ p. p + (m + item_size moved.element) ≤ n) moved.places) (sym long)
    (subst (λ (t : ElementType). All (λ p. p + (m + item_size t) ≤ len) moved.places) (sym seen.element)
    (subst (λ ps. All (λ p. p + (m + item_size g.element) ≤ len) ps) (sym seen.places) (moved_out g.places m (item_size g.element) len seen.behind inside)))

pub copy_up-requires-clause-out : goal.copy_up-requires-clause-out
copy_up-requires-clause-out c =
    let i = c.self.inside in
    let parted : AreParted i.len i.source i.target.now c.in-Up.target c.in-Up.middle = subst (IsWay i.target.now i.source i.len) c.in-Up.is c.self.invariant.leads in
    let long : length c.args.block.now ≡ i.len = sym c.len.ensures.0 ∙ c.if-len-self.false in
    seen_in i.target.now c.in-Up.target c.in-Up.middle i.len c.as_mut_slice-bytes.result.now parted.seen c.self.invariant.out (ap length c.as_mut_slice-bytes.ensures.value ∙ long)

pub copy_down-requires-clause-held : goal.copy_down-requires-clause-held
copy_down-requires-clause-held c =
    let i = c.self.inside in
    let way : AreIn i.len i.source × AreParted i.len i.target.now i.source c.in-Down.source c.in-Down.middle = subst (IsWay i.target.now i.source i.len) c.in-Down.is c.self.invariant.leads in
    let long : length c.args.block.now ≡ i.len = sym c.len.ensures.0 ∙ c.if-len-self.false in
    seen_in i.source c.in-Down.source c.in-Down.middle i.len c.as_mut_slice-bytes.result.now way.1.seen way.0 (ap length c.as_mut_slice-bytes.ensures.value ∙ long)

pub returns-in-Up : goal.returns-in-Up
returns-in-Up c =
    let i = c.self.inside in let g = i.target.now in let s = i.source in let m = c.in-Up.middle in let old : List ℕ = c.args.block.now in
    let parted : AreParted i.len s g c.in-Up.target m = subst (IsWay g s i.len) c.in-Up.is c.self.invariant.leads in
    let long : length old ≡ i.len = sym c.len.ensures.0 ∙ c.if-len-self.false in
    all_written old c.copy_up.new.bytes (c.copy_up.ensures.len ∙ ap length c.as_mut_slice-bytes.ensures.value) ∙ c.copy_up.ensures.bytes
    ∙ (λ j. take m (c.as_mut_slice-bytes.ensures.value j) ++ with_copies (parted.seen.element j) s.element (take m (c.as_mut_slice-bytes.ensures.value j)) (parted.seen.places j) s.places (drop m (c.as_mut_slice-bytes.ensures.value j)))
    ∙ up g.element s.element old m g.places s.places parted.fields parted.seen.behind parted.held
    ∙ copies_written (own_copy g s i.len) old long ∙ ap (λ a. written_by a old) (ap (λ w. record { target = g; source = s; bytes = bytes_read w; len = i.len }) (sym c.in-Up.is) ∙ c.self.view_is)

pub returns-in-Down : goal.returns-in-Down
returns-in-Down c =
    let i = c.self.inside in let g = i.target.now in let s = i.source in let m = c.in-Down.middle in let old : List ℕ = c.args.block.now in
    let way : AreIn i.len s × AreParted i.len g s c.in-Down.source m = subst (IsWay g s i.len) c.in-Down.is c.self.invariant.leads in
    let long : length old ≡ i.len = sym c.len.ensures.0 ∙ c.if-len-self.false in
    all_written old c.copy_down.new.bytes (c.copy_down.ensures.len ∙ ap length c.as_mut_slice-bytes.ensures.value) ∙ c.copy_down.ensures.bytes
    ∙ (λ j. with_copies g.element (way.1.seen.element j) (drop m (c.as_mut_slice-bytes.ensures.value j)) g.places (way.1.seen.places j) (take m (c.as_mut_slice-bytes.ensures.value j)) ++ drop m (c.as_mut_slice-bytes.ensures.value j))
    ∙ down g.element s.element old m g.places s.places way.1.fields way.1.held way.1.seen.behind
    ∙ copies_written (own_copy g s i.len) old long ∙ ap (λ a. written_by a old) (ap (λ w. record { target = g; source = s; bytes = bytes_read w; len = i.len }) (sym c.in-Down.is) ∙ c.self.view_is)
