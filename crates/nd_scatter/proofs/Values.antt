-- Values that were assigned to an array of their own: they have what was assigned.
use Rattle.std.proofs.Common.{◌≡◌, ℕ, suc, ◌+◌, ◌*◌, ◌<◌, ◌≤◌, List, [], ◌∷◌, map, length, get_or, refl, sym, ap, ◌∙◌, subst, arith}
use Rattle.std.specs.List.{All}
use Rattle.std.proofs.Math.Nat.{mul-le-mul_right}
use Rattle.std.proofs.lemmas.List.{length-map, get_or-map}
use Rattle.std.proofs.lemmas.List.Elements.{All-head, All-tail}
use Rattle.nd_model.specs.Arrays.Content.{Content, writes, all_writes}
use Rattle.nd_model.specs.Cells.Session.{put, is_place}
use Rattle.nd_model.specs.Cells.Sound.{LiesIn}
use Rattle.nd_model.specs.Arrays.Strides.{IsInLimits}
use Rattle.nd_model.specs.Arrays.Tuple.{count_up, elements_of}
use Rattle.nd_model.specs.Arrays.View.{ElementType, item_size, element_places, contiguous}
use Rattle.nd_model.proofs.Lists.{length-put, put_elsewhere}
use Rattle.nd_model.proofs.Puts.{put-append}
use Rattle.nd_view.proofs.Tuples.{length-count_up, get_or-count_up}
use Rattle.nd_assign.specs.HeldFields.{HoldsFields}
use Rattle.nd_scatter.specs.Scattered.{scattered}
use Rattle.nd_scatter.proofs.ByteWrites.{IsWhole, content_bytes, writes_by, none_before}
use Rattle.nd_scatter.proofs.LastStays.{Holds, copied}

module _ (t : ElementType) where
  -- the values hold these contents, from byte `from` on and `step` bytes apart
  abbrev pub HoldAll : (values : List ℕ) → (step from : ℕ) → List Content → Type 0
  HoldAll values step from [] = Unit {0}
  HoldAll values step from (c ∷ cs) = Holds t values from c × HoldAll values step (from + step) cs

  -- values that hold these contents are written as these contents
  pub all_copied : HoldsFields t → (values : List ℕ) (step from : ℕ) (ps : List ℕ) (cs : List Content) (old : List ℕ) → length ps ≡ length cs → HoldAll values step from cs
      → All (λ p. p + item_size t ≤ length old) ps → scattered t values step from ps old ≡ put (all_writes t ps cs) old
  all_copied fields values step from [] [] old same hold out = refl
  all_copied fields values step from [] (c ∷ cs) old same hold out = absurd (omega (arith, same))
  all_copied fields values step from (p ∷ ps) [] old same hold out = absurd (omega (arith, same))
  all_copied fields values step from (p ∷ ps) (c ∷ cs) old same hold out =
      let new : List ℕ = put (writes t p c) old in
      let long : length new ≡ length old = length-put (writes t p c) old in
      let rest : All (λ p. p + item_size t ≤ length new) ps = subst (λ n. All (λ p. p + item_size t ≤ n) ps) (sym long) (All-tail (λ p. p + item_size t ≤ length old) p ps out) in
      ap (scattered t values step (from + step) ps) (copied t c values p from old fields hold.0 (All-head (λ p. p + item_size t ≤ length old) p ps out))
      ∙ all_copied fields values step (from + step) ps cs new (omega (arith, same)) hold.1 rest
      ∙ sym (put-append (writes t p c) (all_writes t ps cs) old)

  -- ---- one after another

  -- the places of n contiguous elements, from element j on
  abbrev pub side : ℕ → ℕ → List ℕ
  side j n = map (λ k. k * item_size t) (count_up j n)

  abbrev pub AreWhole : List Content → Type 0
  AreWhole [] = Unit {0}
  AreWhole (c ∷ cs) = IsWhole t c × AreWhole cs

  -- what lies before them stays
  kept : (j x : ℕ) (cs : List Content) (old : List ℕ) → AreWhole cs → x < j * item_size t → get_or (put (all_writes t (side j (length cs)) cs) old) x 0 ≡ get_or old x 0
  kept j x [] old whole lt = refl
  kept j x (c ∷ cs) old whole lt =
      let p = j * item_size t in let next : (j + 1) * item_size t ≡ p + item_size t = omega arith in
      ap (λ l. get_or l x 0) (put-append (writes t p c) (all_writes t (side (j + 1) (length cs)) cs) old)
      ∙ kept (j + 1) x cs (put (writes t p c) old) whole.1 (omega (arith, lt, next))
      ∙ put_elsewhere (writes t p c) x old (ap (is_place x) (writes_by t p c whole.0) ∙ none_before x p (element_places t 0) (content_bytes t c) lt)

  pub hold_side : (j : ℕ) (cs : List Content) (values old : List ℕ) → AreWhole cs → (j + length cs) * item_size t ≤ length old → values ≡ put (all_writes t (side j (length cs)) cs) old
      → HoldAll values (item_size t) (j * item_size t) cs
  hold_side j [] values old whole room is = tt
  hold_side j (c ∷ cs) values old whole room is =
      let p = j * item_size t in let size = item_size t in
      let new : List ℕ = put (writes t p c) old in
      let long : length new ≡ length old = length-put (writes t p c) old in
      let next : (j + 1) * size ≡ p + size = omega arith in
      let all : (j + suc (length cs)) * size ≡ p + size + length cs * size = omega arith in
      let further : (j + 1 + length cs) * size ≡ (j + suc (length cs)) * size = omega arith in
      let rest : values ≡ put (all_writes t (side (j + 1) (length cs)) cs) new = is ∙ put-append (writes t p c) (all_writes t (side (j + 1) (length cs)) cs) old in (
        record {
          whole = whole.0;
          old = old;
          room = omega (arith, all, room);
          same = λ i lt. ap (λ l. get_or l (p + i) 0) rest ∙ kept (j + 1) (p + i) cs new whole.1 (omega (arith, next, lt));
        },
        subst (λ q. HoldAll values size q cs) next (hold_side (j + 1) cs values new whole.1 (omega (arith, further, room, long)) rest),
      )

  -- ---- one for all

  pub hold_one : {X : Type 0} (c : Content) (xs : List X) (values : List ℕ) (from : ℕ) → Holds t values from c → HoldAll values 0 from (map (λ x. c) xs)
  hold_one c [] values from holds = tt
  hold_one c (x ∷ xs) values from holds =
      let same : from ≡ from + 0 = omega arith in
      (holds, subst (λ q. HoldAll values 0 q (map (λ x. c) xs)) same (hold_one c xs values from holds))

-- ---- an array of their own

-- in as many bytes as it has, an array lies
pub lies_alone : (t : ElementType) (shape : List ℕ) (len : ℕ) → IsInLimits (item_size t) shape → len ≡ elements_of shape * item_size t → LiesIn len (contiguous t shape)
lies_alone t shape len limits long = record {
  count = length-map (count_up 0 (elements_of shape)) (λ k. k * item_size t) ∙ length-count_up 0 (elements_of shape);
  limits = limits;
  inside = λ k d lt.
      let n = elements_of shape in let numbers : List ℕ = count_up 0 n in
      let few : k < n = omega (arith, lt, length-map numbers (λ j. j * item_size t), length-count_up 0 n) in
      let here : get_or (map (λ j. j * item_size t) numbers) k d ≡ k * item_size t
      = get_or-map (λ j. j * item_size t) numbers k 0 d (omega (arith, few, length-count_up 0 n)) ∙ ap (λ j. j * item_size t) (get_or-count_up 0 n k 0 few ∙ omega arith) in
      let room : (k + 1) * item_size t ≤ n * item_size t = mul-le-mul_right (item_size t) (omega (arith, few)) in
      omega (arith, here, room, long);
}
