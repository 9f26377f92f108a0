use Rattle.std.proofs.Common.{◌≡◌, ℕ, ℤ, ◌+◌, ◌*◌, ◌<◌, ◌≤◌, List, ◌++◌, length, take, drop, get_or, sym, ap, ◌∙◌, subst, arith, append_assoc, append-nil, take_all, refl, length-drop, length-append}
use Rattle.std.specs.List.{All}
use Rattle.std.proofs.Math.Nat.{mul-le-mul_right}
use Rattle.std.proofs.Math.Seq.{take-add}
use Rattle.std.proofs.lemmas.List.{get_or-drop, get_or-map, get_or-take, take-append-drop, take-take, take_at, drop_at, drop-drop, take-map, drop-map, length-map, length-take-le}
use borrow.Rule.Slice.PartMut.{put_mid}
use Rattle.std.proofs.lemmas.Slice.{take-put_mid, drop-put_mid}
use Rattle.nd_model.specs.Arrays.Content.{number_at}
use Rattle.nd_model.specs.Arrays.Element.{Element, Kind, size_of, with_bytes, wrap}
use Rattle.nd_model.specs.Arrays.Tuple.{count_up}
use Rattle.nd_types.specs.Kinds.{kind_of}
use Rattle.nd_view.specs.SideBySide.{side_by_side}
use Rattle.nd_assign.proofs.Bytewise.{end_held, put_bytes}
use Rattle.nd_convert.proofs.conversion.Pieces.{length-put_mid}
use Rattle.nd_element.specs.Elements.{numbers_at}
use Rattle.nd_view.proofs.ByRuns.{in_run, behind_run}
use Rattle.nd_view.proofs.Tuples.{length-count_up, get_or-count_up}
use Rattle.nd_ufunc.specs.Elementwise.Beside.{HeldBeside, StaysBeside, left_beside, size_beside}
use Rattle.nd_ufunc.specs.Elementwise.Replaced.{replaced}
use Rattle.nd_ufunc.specs.Loops.Sides.{Keeps}
use Rattle.nd_ufunc.proofs.elementwise.KeptOff.{same_beside, same_target}
use Rattle.nd_ufunc.proofs.loops.Zipped.{result-append, length-result}
use Rattle.nd_ufunc.proofs.elementwise.replacing.replace_numbers.Goals as goal

-- the elements that are next end inside
part_held : (at n all s first len : ℕ) → at + n ≤ all → first + all * s ≤ len → (at * s ≤ all * s) × (first + at * s + n * s ≤ len) × ((at + n) * s ≡ at * s + n * s)
part_held at n all s first len le end =
    let most : at * s ≤ all * s = mul-le-mul_right s (omega (arith, le)) in
    let more : (at + n) * s ≡ at * s + n * s = omega arith in
    let far : (at + n) * s ≤ all * s = mul-le-mul_right s le in
    (most, omega (arith, more, far, end), more)

-- what stands before what is written
in_front : (xs old rest : List ℕ) (first m : ℕ) → first ≤ m → first ≤ length old → take m xs ≡ take first old ++ rest → take first xs ≡ take first old
in_front xs old rest first m le long is =
    sym (take-take first m xs le) ∙ ap (take first) is ∙ take_at (take first old) rest first (length-take-le first old long)

-- the elements of a part are held where all are
held_part : (P : ℕ → Type 0) (at n : ℕ) (ps : List ℕ) → All P ps → All P (take n (drop at ps))
held_part P at n ps held =
    in_run P (take n (drop at ps)) (drop n (drop at ps)) (drop at ps) (sym (take-append-drop n (drop at ps)))
    (behind_run P (take at ps) (drop at ps) ps (sym (take-append-drop at ps)) held)

-- what a walk takes is the next part, and no more than there is
part_of : (run walk part rest : List ℕ) (at : ℕ) → walk ≡ drop at run → walk ≡ part ++ rest → at ≤ length run
    → (part ≡ take (length part) (drop at run)) × (at + length part ≤ length run) × (rest ≡ drop (at + length part) run)
part_of run walk part rest at is split le =
    let both : drop at run ≡ part ++ rest = sym is ∙ split in (
      sym (take_at part rest (length part) refl) ∙ ap (take (length part)) (sym both),
      omega (arith, ap length both, length-drop at run, length-append part rest, le),
      sym (drop_at part rest (length part) refl) ∙ ap (drop (length part)) (sym both) ∙ drop-drop (length part) at run,
    )

-- where a part begins
part_start : (ps : List ℕ) (first s at n : ℕ) → ps ≡ side_by_side s first (length ps) → at < length ps → 0 < n → get_or (take n (drop at ps)) 0 0 ≡ first + at * s
part_start ps first s at n gapless lt some =
    let here : at + 0 ≡ at = omega arith in let none : 0 + at ≡ at = omega arith in
    get_or-take n (drop at ps) 0 0 some ∙ get_or-drop at ps 0 0 ∙ ap (λ k. get_or ps k 0) here ∙ ap (λ l. get_or l at 0) gapless
    ∙ get_or-map (λ k. first + k * s) (count_up 0 (length ps)) at 0 0 (omega (arith, length-count_up 0 (length ps), lt))
    ∙ ap (λ j. first + j * s) (get_or-count_up 0 (length ps) at 0 lt ∙ none)

pub loop-at-init : goal.loop-at-init
loop-at-init g c =
    let a = c.args in let first = get_or a.target.now.places 0 0 in
    let none : first + 0 * size_of a.elem.kind ≡ first = omega arith in
    record {
      within = omega arith;
      walk = c.new-walk.ensures;
      size = refl;
      len = refl;
      front = ap (λ m. take m a.bytes.now) none ∙ sym (append-nil (take first a.bytes.now));
      behind = refl;
      beside = refl;
      held = c.requires.beside_held;
      stays = c.requires.stays;
    }

pub next-part-requires-clause-left : goal.next-part-requires-clause-left
next-part-requires-clause-left g c =
    let run : List ℕ = c.args.target.now.places in
    omega (arith, ap length c.loop-at.invariant.walk, length-drop c.loop-at.at run, c.loop-at-test.true, c.count-count.ensures.value)

pub replace_chunk-requires-clause-held : goal.replace_chunk-requires-clause-held
replace_chunk-requires-clause-held g c =
    let a = c.args in let bytes : List ℕ = c.loop-at.bytes in let s = size_of a.elem.kind in let run : List ℕ = a.target.now.places in let at = c.loop-at.at in
    let part : List ℕ = c.next-part.result in
    let is = part_of run c.loop-at.walk part c.next-part.new.self at c.loop-at.invariant.walk c.next-part.ensures.split c.loop-at.invariant.within in
    subst (All (λ p. p + s ≤ length bytes)) (sym is.0)
    (subst (λ len. All (λ p. p + s ≤ len) (take (length part) (drop at run))) (sym c.loop-at.invariant.len)
    (held_part (λ p. p + s ≤ length a.bytes.now) at (length part) run c.requires.held))

pub replace_chunk-requires-clause-enough : goal.replace_chunk-requires-clause-enough
replace_chunk-requires-clause-enough g c =
    let a = c.args in let is = c.loop-at.invariant in let e : Element = a.elem in let s = size_of e.kind in let f : ℤ → ℤ → ℤ = g.O.Operation.gives (kind_of a.to) in
    let old : List ℕ = a.bytes.now in let bytes : List ℕ = c.loop-at.bytes in let run : List ℕ = a.target.now.places in let first = get_or run 0 0 in
    let at = c.loop-at.at in let n = length c.next-part.result in
    let X : List ℤ = numbers_at e old run in let Y : List ℤ = left_beside a.beside.now old in
    let taken = part_of run c.loop-at.walk c.next-part.result c.next-part.new.self at c.loop-at.invariant.walk c.next-part.ensures.split c.loop-at.invariant.within in
    let few : at + n ≤ length run = taken.1 in
    let some : 0 < length run = omega (arith, c.count-count.ensures.value, c.loop-at-test.true) in
    let end = end_held run s first (length old) some c.requires.gapless c.requires.held in
    let before : take first bytes ≡ take first old = in_front bytes old (replaced e f (take at X) (take at Y)) first (first + at * s) (omega arith) (omega (arith, end)) is.front in
    let rights : left_beside c.loop-at.beside bytes ≡ drop at Y = same_beside c.loop-at.beside old bytes first s at before is.behind is.stays ∙ is.beside in
    let counted : length c.next-part.result ≡ n = refl in
    omega (arith, counted, ap length rights, length-drop at Y, c.requires.beside, few)

pub replace_chunk-requires-clause-beside_held : goal.replace_chunk-requires-clause-beside_held
replace_chunk-requires-clause-beside_held g c = subst (HeldBeside c.loop-at.beside) (sym c.loop-at.invariant.len) c.loop-at.invariant.held

pub replace_chunk-requires-clause-keeps : goal.replace_chunk-requires-clause-keeps
replace_chunk-requires-clause-keeps g c = subst (λ (j : Kind). Keeps j (kind_of c.side_kind-own.result)) c.kind.ensures c.side_kind-own.ensures

pub replace_chunk-requires-clause-results : goal.replace_chunk-requires-clause-results
replace_chunk-requires-clause-results g c =
    let a = c.args in let run : List ℕ = a.target.now.places in let at = c.loop-at.at in let n = length c.next-part.result in
    let taken = part_of run c.loop-at.walk c.next-part.result c.next-part.new.self at c.loop-at.invariant.walk c.next-part.ensures.split c.loop-at.invariant.within in
    let few : at + n ≤ length run = taken.1 in
    let counted : length c.next-part.result ≡ n = refl in
    let w = c.size.result in
    let most : n * w ≤ c.chunk_of-chunk.result * w = mul-le-mul_right w (omega (arith, c.next-part.ensures.few)) in
    let bytes : length c.next-part.result * size_of (kind_of c.args.to) ≡ n * w = λ i. counted i * sym c.size.ensures.value i in
    omega (arith, most, bytes, c.chunk_of-chunk.ensures.size)

pub replace_chunk-requires-clause-left : goal.replace_chunk-requires-clause-left
replace_chunk-requires-clause-left g c =
    let a = c.args in let run : List ℕ = a.target.now.places in let at = c.loop-at.at in let n = length c.next-part.result in
    let taken = part_of run c.loop-at.walk c.next-part.result c.next-part.new.self at c.loop-at.invariant.walk c.next-part.ensures.split c.loop-at.invariant.within in
    let few : at + n ≤ length run = taken.1 in
    let counted : length c.next-part.result ≡ n = refl in
    let w = c.size-2.result in
    let most : n * w ≤ c.chunk_of-chunk.result * w = mul-le-mul_right w (omega (arith, c.next-part.ensures.few)) in
    let bytes : length c.next-part.result * size_of (kind_of c.side_kind-own.result) ≡ n * w = λ i. counted i * sym c.size-2.ensures.value i in
    omega (arith, most, bytes, c.chunk_of-chunk.ensures.left)

pub replace_chunk-requires-clause-right : goal.replace_chunk-requires-clause-right
replace_chunk-requires-clause-right g c =
    let a = c.args in let run : List ℕ = a.target.now.places in let at = c.loop-at.at in let n = length c.next-part.result in
    let taken = part_of run c.loop-at.walk c.next-part.result c.next-part.new.self at c.loop-at.invariant.walk c.next-part.ensures.split c.loop-at.invariant.within in
    let few : at + n ≤ length run = taken.1 in
    let counted : length c.next-part.result ≡ n = refl in
    let w = c.size-3.result in
    let most : n * w ≤ c.chunk_of-chunk.result * w = mul-le-mul_right w (omega (arith, c.next-part.ensures.few)) in
    let bytes : length c.next-part.result * size_beside c.loop-at.beside ≡ n * w = λ i. counted i * (c.loop-at.invariant.size ∙ sym c.size-3.ensures.value) i in
    omega (arith, most, bytes, c.chunk_of-chunk.ensures.right)

pub replace_chunk-requires-clause-room : goal.replace_chunk-requires-clause-room
replace_chunk-requires-clause-room g c =
    let a = c.args in let run : List ℕ = a.target.now.places in let at = c.loop-at.at in let n = length c.next-part.result in
    let taken = part_of run c.loop-at.walk c.next-part.result c.next-part.new.self at c.loop-at.invariant.walk c.next-part.ensures.split c.loop-at.invariant.within in
    let few : at + n ≤ length run = taken.1 in
    let counted : length c.next-part.result ≡ n = refl in
    let s = size_of a.elem.kind in let first = get_or run 0 0 in
    let some : 0 < length run = omega (arith, c.count-count.ensures.value, c.loop-at-test.true) in
    let end = end_held run s first (length a.bytes.now) some c.requires.gapless c.requires.held in
    let room = part_held at n (length run) s first (length a.bytes.now) few end in
    let next : 0 < n = omega (arith, c.count-some.ensures.value, c.count-some.ensures.some) in
    let begin : get_or c.next-part.result 0 0 ≡ first + at * s = ap (λ l. get_or l 0 0) taken.0 ∙ part_start run first s at n c.requires.gapless (omega (arith, few, next)) next in
    let wide : length c.next-part.result * s ≡ n * s = ap (λ j. j * s) counted in
    omega (arith, begin, wide, room.1, c.loop-at.invariant.len)

pub loop-at-preserved : goal.loop-at-preserved
loop-at-preserved g c =
    let a = c.args in let is = c.loop-at.invariant in let e : Element = a.elem in let s = size_of e.kind in let k : Kind = kind_of a.to in
    let f : ℤ → ℤ → ℤ = g.O.Operation.gives k in
    let old : List ℕ = a.bytes.now in let bytes : List ℕ = c.loop-at.bytes in let run : List ℕ = a.target.now.places in let first = get_or run 0 0 in
    let at = c.loop-at.at in let n = c.count-some.result in
    let X : List ℤ = numbers_at e old run in let Y : List ℤ = left_beside a.beside.now old in
    let taken = part_of run c.loop-at.walk c.next-part.result c.next-part.new.self at c.loop-at.invariant.walk c.next-part.ensures.split c.loop-at.invariant.within in
    let few : at + n ≤ length run = omega (arith, taken.1, c.count-some.ensures.value) in
    let some : 0 < length run = omega (arith, c.count-count.ensures.value, c.loop-at-test.true) in
    let end = end_held run s first (length old) some c.requires.gapless c.requires.held in
    let room = part_held at n (length run) s first (length old) few end in
    let next_some : 0 < n = c.count-some.ensures.some in
    let start : ℕ = first + at * s in let m : ℕ = n * s in
    let inside : start + m ≤ length bytes = omega (arith, room.1, is.len) in
    let part : List ℕ = c.next-part.result in
    let counted : length part ≡ n = sym c.count-some.ensures.value in
    let part_is : part ≡ take n (drop at run) = taken.0 ∙ ap (λ j. take j (drop at run)) counted in
    let begin : get_or part 0 0 ≡ start = ap (λ l. get_or l 0 0) part_is ∙ part_start run first s at n c.requires.gapless (omega (arith, few, next_some)) next_some in
    let front : take start bytes ≡ take first old ++ replaced e f (take at X) (take at Y) = is.front in
    let before : take first bytes ≡ take first old = in_front bytes old (replaced e f (take at X) (take at Y)) first start (omega arith) (omega (arith, end)) front in
    let lefts : numbers_at e bytes (drop at run) ≡ drop at X
    = same_target e old bytes run first at c.requires.gapless before is.behind ∙ sym (drop-map (number_at e old) at run) in
    let left : numbers_at e bytes part ≡ take n (drop at X)
    = ap (numbers_at e bytes) part_is ∙ sym (take-map (number_at e bytes) n (drop at run)) ∙ ap (take n) lefts in
    let rights : left_beside c.loop-at.beside bytes ≡ drop at Y = same_beside c.loop-at.beside old bytes first s at before is.behind is.stays ∙ is.beside in
    let right : take (length part) (left_beside c.loop-at.beside bytes) ≡ take n (drop at Y) = (λ i. take (counted i) (rights i)) in
    let all_X : length X ≡ length run = length-map run (number_at e old) in
    let some_X : length (take n (drop at X)) ≡ n = length-take-le n (drop at X) (omega (arith, length-drop at X, all_X, few)) in
    let some_Y : length (take n (drop at Y)) ≡ n = length-take-le n (drop at Y) (omega (arith, length-drop at Y, c.requires.beside, few)) in
    let W : List ℕ = replaced e f (take n (drop at X)) (take n (drop at Y)) in
    let W_long : length W ≡ m = length-result e (λ x y. wrap e.kind (f x y)) (take n (drop at X)) (take n (drop at Y)) (some_X ∙ sym some_Y) ∙ ap (λ j. j * s) some_X in
    let made : c.replace_chunk.new.bytes ≡ put_mid start m bytes W
    = c.replace_chunk.ensures.bytes ∙ (λ i. with_bytes bytes (begin i) (replaced e f (left i) (right i))) ∙ sym (put_bytes start m bytes W W_long) in
    let next : first + (at + n) * s ≡ start + length W = omega (arith, W_long, room.2) in
    let X_long : length (take at X) ≡ at = length-take-le at X (omega (arith, all_X, few)) in
    let Y_long : length (take at Y) ≡ at = length-take-le at Y (omega (arith, c.requires.beside, few)) in
    record {
      within = few;
      walk = taken.2 ∙ ap (λ j. drop (at + j) run) counted;
      size = c.replace_chunk.ensures.size ∙ is.size;
      len = ap length made ∙ length-put_mid start m bytes W inside W_long ∙ is.len;
      front = ap (take (first + (at + n) * s)) made ∙ take-put_mid start m bytes W (first + (at + n) * s) next (omega (arith, inside))
          ∙ ap (λ l. l ++ W) front
          ∙ append_assoc (take first old) (replaced e f (take at X) (take at Y)) W
          ∙ ap (λ l. take first old ++ l) (sym (result-append e (λ x y. wrap e.kind (f x y)) (take at X) (take at Y) (take n (drop at X)) (take n (drop at Y)) (X_long ∙ sym Y_long))
          ∙ (λ i. replaced e f (sym (take-add at n X) i) (sym (take-add at n Y) i)));
      behind = ap (drop (first + (at + n) * s)) made ∙ drop-put_mid start m bytes W (first + (at + n) * s) (omega (arith, room.2)) (omega (arith, inside)) W_long
          ∙ (let far : first + (at + n) * s ≡ first + at * s + n * s = omega (arith, room.2) in
          ap (λ j. drop j bytes) far ∙ sym (drop-drop (n * s) (first + at * s) bytes) ∙ ap (drop (n * s)) is.behind ∙ drop-drop (n * s) (first + at * s) old ∙ ap (λ j. drop j old) (sym far));
      beside = c.replace_chunk.ensures.further old ∙ (λ i. drop (counted i) (is.beside i)) ∙ drop-drop n at Y;
      held = c.replace_chunk.ensures.held (length old) is.held;
      stays = subst (λ j. StaysBeside c.replace_chunk.new.beside first s (at + j)) counted (c.replace_chunk.ensures.stays first s at is.stays);
    }

pub returns : goal.returns
returns g c =
    let a = c.args in let is = c.loop-at.invariant in let e : Element = a.elem in let s = size_of e.kind in let k : Kind = kind_of a.to in let f : ℤ → ℤ → ℤ = g.O.Operation.gives k in
    let old : List ℕ = a.bytes.now in let bytes : List ℕ = c.loop-at.bytes in let run : List ℕ = a.target.now.places in let first = get_or run 0 0 in let at = c.loop-at.at in
    let X : List ℤ = numbers_at e old run in let Y : List ℤ = left_beside a.beside.now old in
    let done : at ≡ length run = omega (arith, is.within, c.loop-at-test.false, c.count-count.ensures.value) in
    let all_X : length X ≡ length run = length-map run (number_at e old) in
    let xs : take at X ≡ X = take_all at X (omega (arith, all_X, done)) in
    let ys : take at Y ≡ Y = take_all at Y (omega (arith, c.requires.beside, done)) in
    let R : List ℕ = replaced e f X Y in
    let long : length R ≡ at * s = length-result e (λ x y. wrap e.kind (f x y)) X Y (all_X ∙ sym c.requires.beside) ∙ ap (λ j. j * s) (all_X ∙ sym done) in
    let front : take (first + at * s) bytes ≡ take first old ++ R = is.front ∙ (λ j. take first old ++ replaced e f (xs j) (ys j)) in
    let rest : List ℕ = drop (first + at * s) old in
    let behind : drop (first + at * s) bytes ≡ rest = is.behind in
    let whole : bytes ≡ (take first old ++ R) ++ rest = sym (take-append-drop (first + at * s) bytes) ∙ (λ i. front i ++ behind i) in
    let end : rest ≡ drop (first + length R) old = ap (λ j. drop (first + j) old) (sym long) in
    whole ∙ ap (λ l. (take first old ++ R) ++ l) end
