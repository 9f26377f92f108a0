use Rattle.std.proofs.Common.{◌≡◌, ℕ, ◌+◌, ◌-◌, ◌*◌, ◌≤◌, ℤ, not, List, [], ◌++◌, length, take, drop, replicate, refl, sym, ap, ◌∙◌, arith, append_assoc, length-drop, subst}
use Rattle.std.specs.Prelude.{if◌then◌else◌}
use Rattle.std.specs.List.{All}
use Rattle.std.proofs.Math.Nat.{mul-le-mul_right}
use Rattle.std.proofs.lemmas.List.{drop-drop, length-replicate, length-take-le}
use Rattle.std.proofs.lemmas.List.Elements.{All-drop, All-take}
use Rattle.nd_model.specs.Grammar.Calls.{Reduction}
use Rattle.nd_model.specs.Arrays.Element.{Kind, IsValue, size_of}
use Rattle.nd_types.specs.Kinds.{kind_of}
use Rattle.nd_reduce.specs.Folds.Lanes.{fold_bytes}
use Rattle.nd_reduce.specs.Axes.Tables.{more_columns, row_columns}
use Rattle.nd_reduce.proofs.axes.Tabled.{appended, bytes-append, last_appended, length-columns, more_folds, next_row, no_folds, no_room, room_for_last, room_for_row, room_left, room_more}
use Rattle.nd_reduce.proofs.axes.tables.fold_rows.Goals as goal

pub extend_row-requires-clause-enough : goal.extend_row-requires-clause-enough
extend_row-requires-clause-enough g c =
    let a = c.args in let is = c.loop-taken.invariant in let t = c.loop-taken.taken in let w = a.width in
    let le : (t + 1) * w ≤ a.rows * w = mul-le-mul_right w (omega (arith, c.loop-taken-test.true)) in let one : (t + 1) * w ≡ t * w + w = omega arith in
    omega (arith, ap length is.left, length-drop (t * w) a.numbers.now.numbers, le, one, c.requires.enough)

pub append_if-requires : goal.append_if-requires
append_if-requires g c =
    let a = c.args in let is = c.loop-taken.invariant in
    let long : length c.extend_row.new.folds ≡ a.width * size_of (kind_of a.to) = c.extend_row.auto.folds ∙ c.loop-taken.auto.folds ∙ c.requires.folds in
    subst (λ (m : ℕ). (if a.each then m else 0) ≤ c.loop-taken.out.1) (sym long)
    (room_for_row a.each c.loop-taken.taken a.rows (a.width * size_of (kind_of a.to)) c.loop-taken.out.1 a.out.now.1 c.loop-taken-test.true is.room c.requires.room)

pub append_if-requires-2 : goal.append_if-requires-2
append_if-requires-2 g c =
    let a = c.args in let is = c.loop-taken.invariant in
    let long : length c.loop-taken.folds ≡ a.width * size_of (kind_of a.to) = c.loop-taken.auto.folds ∙ c.requires.folds in
    subst (λ (m : ℕ). (if not a.each then m else 0) ≤ c.loop-taken.out.1) (sym long)
    (room_for_last a.each c.loop-taken.taken a.rows (a.width * size_of (kind_of a.to)) c.loop-taken.out.1 a.out.now.1 is.room c.requires.room)

pub loop-taken-init : goal.loop-taken-init
loop-taken-init g c =
    let a = c.args in let k : Kind = kind_of a.to in let w = a.width in let nothing : 0 * w ≡ 0 = omega arith in let all : a.rows - 0 ≡ a.rows = omega arith in
    record {
      within = omega arith;
      left = sym (ap (λ m. drop m a.numbers.now.numbers) nothing);
      kind = refl;
      room = no_room a.each (w * size_of k) a.out.now.1;
      folds = (
        replicate w [],
        record {
          many = length-replicate {A = List ℤ} w [];
          are = no_folds g.F.FoldStep.reduction g.F.Best.Bests.kept (kind_of a.kind) k w a.folds.now a.bests.now;
          more = ap (λ m. a.out.now.0 ++ fold_bytes g.F.FoldStep.reduction k (row_columns a.each w m (replicate w []) a.numbers.now.numbers)) all;
        },
      );
    }

pub loop-taken-preserved : goal.loop-taken-preserved
loop-taken-preserved g c =
    let a = c.args in let is = c.loop-taken.invariant in let t = c.loop-taken.taken in let w = a.width in let zs : List ℤ = a.numbers.now.numbers in
    let r : Reduction = g.F.FoldStep.reduction in let kind : Kind = kind_of a.kind in let k : Kind = kind_of a.to in let size : ℕ = w * size_of k in
    let now : List ℤ = c.loop-taken.numbers.numbers in let after : List ℤ = c.extend_row.new.numbers.numbers in let columns : List (List ℤ) = is.folds.0 in let are = is.folds.1 in
    let folds : List ℕ = c.extend_row.new.folds in let out = c.loop-taken.out in let more : List (List ℤ) = more_columns columns (take w now) in
    let le : (t + 1) * w ≤ a.rows * w = mul-le-mul_right w (omega (arith, c.loop-taken-test.true)) in let one : (t + 1) * w ≡ t * w + w = omega arith in
    let enough : w ≤ length now = omega (arith, ap length is.left, length-drop (t * w) zs, le, one, c.requires.enough) in
    let valid : All (λ z. IsValue kind z) (take w now)
    = All-take (λ z. IsValue kind z) w now (subst (λ (l : List ℤ). All (λ z. IsValue kind z) l) (sym is.left) (All-drop (λ z. IsValue kind z) (t * w) zs c.requires.values)) in
    let same : length columns ≡ length (take w now) = are.many ∙ sym (length-take-le w now enough) in
    let written : folds ≡ fold_bytes r k more = c.extend_row.ensures.folds columns are.many are.are in
    let long : length folds ≡ size = c.extend_row.auto.folds ∙ c.loop-taken.auto.folds ∙ c.requires.folds in
    let rest : a.rows - t - 1 ≡ a.rows - (t + 1) = omega arith in
    let kept : List ℕ = if a.each then folds else [] in
    let others : List (List ℤ) = row_columns a.each w (a.rows - (t + 1)) more after in
    record {
      within = omega (arith, c.loop-taken-test.true);
      left = c.extend_row.ensures.left ∙ ap (drop w) is.left ∙ drop-drop w (t * w) zs ∙ ap (λ m. drop m zs) (sym one);
      kind = c.extend_row.ensures.kind ∙ is.kind;
      room = room_more a.each t size c.append_if.new.out.1 out.1 a.out.now.1
          (subst (λ (m : ℕ). c.append_if.new.out.1 + (if a.each then m else 0) ≡ out.1) long c.append_if.ensures.left) is.room;
      folds = (
        more,
        record {
          many = length-columns columns (take w now) same ∙ are.many;
          are = more_folds r g.F.Best.Bests.kept kind k t c.loop-taken.folds c.loop-taken.bests folds c.extend_row.new.bests columns (take w now) valid are.are written
              (c.extend_row.ensures.bests columns are.many are.are);
          more = ap (λ l. l ++ fold_bytes r k others) (c.append_if.ensures.written ∙ ap (λ l. out.0 ++ l) (appended a.each r k folds more written))
              ∙ append_assoc out.0 (fold_bytes r k (if a.each then more else [])) (fold_bytes r k others)
              ∙ ap (λ l. out.0 ++ l) (sym (bytes-append r k (if a.each then more else []) others)
              ∙ ap (fold_bytes r k) ((λ i. (if a.each then more else []) ++ row_columns a.each w (sym rest i) more (c.extend_row.ensures.left i))
              ∙ sym (next_row a.each w (a.rows - t) columns now (omega (arith, c.loop-taken-test.true)))))
              ∙ are.more;
        },
      );
    }

pub returns-clause-left : goal.returns-clause-left
returns-clause-left g c =
    let a = c.args in let is = c.loop-taken.invariant in let all : c.loop-taken.taken ≡ a.rows = omega (arith, is.within, c.loop-taken-test.false) in
    is.left ∙ ap (λ m. drop (m * a.width) a.numbers.now.numbers) all

pub returns-clause-room : goal.returns-clause-room
returns-clause-room g c =
    let a = c.args in let is = c.loop-taken.invariant in let all : c.loop-taken.taken ≡ a.rows = omega (arith, is.within, c.loop-taken-test.false) in
    let long : length c.loop-taken.folds ≡ a.width * size_of (kind_of a.to) = c.loop-taken.auto.folds ∙ c.requires.folds in
    room_left a.each c.loop-taken.taken a.rows (a.width * size_of (kind_of a.to)) c.append_if-2.new.out.1 c.loop-taken.out.1 a.out.now.1 all
    (subst (λ (m : ℕ). c.append_if-2.new.out.1 + (if not a.each then m else 0) ≡ c.loop-taken.out.1) long c.append_if-2.ensures.left) is.room

pub returns-clause-written : goal.returns-clause-written
returns-clause-written g c =
    let a = c.args in let is = c.loop-taken.invariant in let all : c.loop-taken.taken ≡ a.rows = omega (arith, is.within, c.loop-taken-test.false) in
    let r : Reduction = g.F.FoldStep.reduction in let k : Kind = kind_of a.to in let columns : List (List ℤ) = is.folds.0 in let are = is.folds.1 in
    let none : 0 ≡ a.rows - c.loop-taken.taken = omega (arith, all) in
    c.append_if-2.ensures.written
    ∙ ap (λ l. c.loop-taken.out.0 ++ l) (last_appended a.each r k c.loop-taken.folds columns (are.are.written (omega (arith, all, c.requires.some))))
    ∙ ap (λ m. c.loop-taken.out.0 ++ fold_bytes r k (row_columns a.each a.width m columns c.loop-taken.numbers.numbers)) none
    ∙ are.more
