-- What stands beside a target, by the elements that it has.
use Rattle.std.proofs.Common.{◌≡◌, ℕ, ◌+◌, ◌≤◌, List, sym, subst}
use Rattle.std.specs.List.{All}
use Rattle.nd_model.specs.Arrays.Broadcast.{broadcast_view}
use Rattle.nd_model.specs.Arrays.Element.{Element, size_of}
use Rattle.nd_element.specs.Elements.{AreHeld, numbers_at}
use Rattle.nd_ufunc.specs.Elementwise.KeptOff.{KeepsOff}
use Rattle.nd_ufunc.specs.Elementwise.Beside.{IsBeside, IsFixedHeld, IsOtherBeside, IsOwnBeside, KeepsOffTarget, beside_numbers}
use Rattle.nd_ufunc.specs.declared.elementwise.beside.Beside.{Beside}
use Rattle.nd_ufunc.specs.declared.elementwise.beside.Beside.TheVariants as beside
use Rattle.nd_ufunc.specs.declared.elementwise.stretched.Stretched.TheVariants as stretched

-- ---- elements of the target's block

pub own_numbers : (b : Beside) (e : Element) (places : List ℕ) → IsOwnBeside b e places → (n : ℕ) (bytes : List ℕ) → beside_numbers b n bytes ≡ numbers_at e bytes places
own_numbers (beside.Own v f) e places is n bytes = λ i. numbers_at (is.0 i) bytes (is.1 i)
own_numbers (beside.OwnAlike v f) e places is n bytes = λ i. numbers_at (is.0 i) bytes (is.1 i)
own_numbers (beside.OwnSpread v s f) e places is n bytes = λ i. numbers_at (is.0 i) bytes (is.1 i)
own_numbers (beside.FixedSpread v s f bs) e places is n bytes = absurd is
own_numbers (beside.Fixed s) e places is n bytes = absurd is
own_numbers (beside.FixedAlike v f bs) e places is n bytes = absurd is

pub own_fixed : (b : Beside) (e : Element) (places : List ℕ) → IsOwnBeside b e places → IsFixedHeld b
own_fixed (beside.Own v f) e places is = tt
own_fixed (beside.OwnAlike v f) e places is = tt
own_fixed (beside.OwnSpread v s f) e places is = is.2
own_fixed (beside.FixedSpread v s f bs) e places is = absurd is
own_fixed (beside.Fixed s) e places is = absurd is
own_fixed (beside.FixedAlike v f bs) e places is = absurd is

pub own_held : (b : Beside) (e : Element) (places : List ℕ) → IsOwnBeside b e places → (len : ℕ) → All (λ p. p + size_of e.kind ≤ len) places → IsBeside b len
own_held (beside.Own v f) e places is len held = subst (λ (h : Element). All (λ p. p + size_of h.kind ≤ len) v.places) (sym is.0) (subst (All (λ p. p + size_of e.kind ≤ len)) (sym is.1) held)
own_held (beside.OwnAlike v f) e places is len held = subst (λ (h : Element). All (λ p. p + size_of h.kind ≤ len) v.now.places) (sym is.0) (subst (All (λ p. p + size_of e.kind ≤ len)) (sym is.1) held)
own_held (beside.OwnSpread v s f) e places is len held =
    subst (λ (h : Element). All (λ p. p + size_of h.kind ≤ len) (broadcast_view v.now s.now).places) (sym is.0) (subst (All (λ p. p + size_of e.kind ≤ len)) (sym is.1) held)
own_held (beside.FixedSpread v s f bs) e places is len held = absurd is
own_held (beside.Fixed s) e places is len held = absurd is
own_held (beside.FixedAlike v f bs) e places is len held = absurd is

pub own_off : (b : Beside) (e : Element) (places : List ℕ) → IsOwnBeside b e places → (first step : ℕ) → KeepsOff (size_of e.kind) first step 0 places → KeepsOffTarget b first step
own_off (beside.Own v f) e places is first step off = subst (λ (h : Element). KeepsOff (size_of h.kind) first step 0 v.places) (sym is.0) (subst (KeepsOff (size_of e.kind) first step 0) (sym is.1) off)
own_off (beside.OwnAlike v f) e places is first step off = subst (λ (h : Element). KeepsOff (size_of h.kind) first step 0 v.now.places) (sym is.0) (subst (KeepsOff (size_of e.kind) first step 0) (sym is.1) off)
own_off (beside.OwnSpread v s f) e places is first step off =
    subst (λ (h : Element). KeepsOff (size_of h.kind) first step 0 (broadcast_view v.now s.now).places) (sym is.0) (subst (KeepsOff (size_of e.kind) first step 0) (sym is.1) off)
own_off (beside.FixedSpread v s f bs) e places is first step off = absurd is
own_off (beside.Fixed s) e places is first step off = absurd is
own_off (beside.FixedAlike v f bs) e places is first step off = absurd is

-- ---- elements of another block

pub other_numbers : (b : Beside) (e : Element) (bytes places : List ℕ) → IsOtherBeside b e bytes places → (n : ℕ) (block : List ℕ) → beside_numbers b n block ≡ numbers_at e bytes places
other_numbers (beside.Fixed (stretched.Elements v f bs)) e bytes places is n block = λ i. numbers_at (is.0 i) (is.1 i) (is.2 i)
other_numbers (beside.FixedAlike v f bs) e bytes places is n block = λ i. numbers_at (is.0 i) (is.1 i) (is.2 i)
other_numbers (beside.FixedSpread v s f bs) e bytes places is n block = λ i. numbers_at (is.0 i) (is.1 i) (is.2 i)
other_numbers (beside.OwnSpread v s f) e bytes places is n block = absurd is
other_numbers (beside.Fixed (stretched.Number z)) e bytes places is n block = absurd is
other_numbers (beside.Own v f) e bytes places is n block = absurd is
other_numbers (beside.OwnAlike v f) e bytes places is n block = absurd is

-- the elements are held where they are seen
seen : (f e : Element) (bs bytes ps places : List ℕ) → f ≡ e → bs ≡ bytes → ps ≡ places → AreHeld e bytes places → AreHeld f bs ps
seen f e bs bytes ps places is same there held = subst (λ (h : Element). AreHeld h bs ps) (sym is) (subst (λ (l : List ℕ). AreHeld e l ps) (sym same) (subst (AreHeld e bytes) (sym there) held))

pub other_fixed : (b : Beside) (e : Element) (bytes places : List ℕ) → IsOtherBeside b e bytes places → AreHeld e bytes places → IsFixedHeld b
other_fixed (beside.Fixed (stretched.Elements v f bs)) e bytes places is held = seen f e bs.now bytes v.places places is.0 is.1 is.2 held
other_fixed (beside.FixedAlike v f bs) e bytes places is held = seen f e bs.now bytes v.now.places places is.0 is.1 is.2 held
other_fixed (beside.FixedSpread v s f bs) e bytes places is held = (is.3, seen f e bs.now bytes (broadcast_view v.now s.now).places places is.0 is.1 is.2 held)
other_fixed (beside.OwnSpread v s f) e bytes places is held = absurd is
other_fixed (beside.Fixed (stretched.Number z)) e bytes places is held = absurd is
other_fixed (beside.Own v f) e bytes places is held = absurd is
other_fixed (beside.OwnAlike v f) e bytes places is held = absurd is

-- such numbers are held beside any block
pub other_held : (b : Beside) (e : Element) (bytes places : List ℕ) → IsOtherBeside b e bytes places → (len : ℕ) → AreHeld e bytes places → IsBeside b len
other_held (beside.Fixed (stretched.Elements v f bs)) e bytes places is len held = seen f e bs.now bytes v.places places is.0 is.1 is.2 held
other_held (beside.FixedAlike v f bs) e bytes places is len held = seen f e bs.now bytes v.now.places places is.0 is.1 is.2 held
other_held (beside.FixedSpread v s f bs) e bytes places is len held = seen f e bs.now bytes (broadcast_view v.now s.now).places places is.0 is.1 is.2 held
other_held (beside.OwnSpread v s f) e bytes places is len held = absurd is
other_held (beside.Fixed (stretched.Number z)) e bytes places is len held = absurd is
other_held (beside.Own v f) e bytes places is len held = absurd is
other_held (beside.OwnAlike v f) e bytes places is len held = absurd is

pub other_off : (b : Beside) (e : Element) (bytes places : List ℕ) → IsOtherBeside b e bytes places → (first step : ℕ) → KeepsOffTarget b first step
other_off (beside.Fixed s) e bytes places is first step = tt
other_off (beside.FixedAlike v f bs) e bytes places is first step = tt
other_off (beside.FixedSpread v s f bs) e bytes places is first step = tt
other_off (beside.OwnSpread v s f) e bytes places is first step = absurd is
other_off (beside.Own v f) e bytes places is first step = absurd is
other_off (beside.OwnAlike v f) e bytes places is first step = absurd is
