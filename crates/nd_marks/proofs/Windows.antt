-- Windows of bytes: what is left of a walk behind a range, and bytes that are put into a part.
use Rattle.std.proofs.Common.{◌≡◌, ℕ, ◌+◌, ◌-◌, ◌<◌, ◌≤◌, ◌&&◌, ◌⊎◌, ◌++◌, Bool, true, false, nat_le, nat_lt, List, append_assoc, Some, None, cond, drop, take, length, length-append, map, slice_index, unwrap_or, refl, sym, ap, ap₂, ◌∙◌, inl, inr, arith}
use Rattle.std.specs.Option.{is_some}
use Rattle.std.proofs.lemmas.Bool.{cases_Bool}
use Rattle.std.proofs.lemmas.Bool.Decides.{nat_tests}
use Rattle.std.proofs.lemmas.List.{ext_get_or, map-append, places, take_at, drop_at}
use borrow.Rule.Slice.PartMut.{put_mid, post_of}
use Rattle.nd_model.specs.Arrays.Tuple.{count_up}
use Rattle.nd_model.specs.Cells.Session.{is_in}
use Rattle.nd_marks.specs.Kept.{KeptData, byte_of, kept_at, places_in}
use Rattle.nd_marks.specs.Marks.{Places, holds}
use Rattle.nd_marks.proofs.Walks.{byte_here, bytes_behind, enough_bytes, kept_from, length_here, left_split, length-map_range, map_range}

-- a place that is left no more was left no more before, or is in the range
pub behind_split : (p from w : ℕ) (left new : List ℕ) → left ≡ count_up from w ++ new → is_in p new ≡ false → (is_in p left ≡ false) ⊎ ((from ≤ p) × (p < from + w))
behind_split p from w left new split out = go (cases_Bool (nat_le from p && nat_lt p (from + w)))
  where
    go : ((nat_le from p && nat_lt p (from + w)) ≡ true) ⊎ ((nat_le from p && nat_lt p (from + w)) ≡ false) → (is_in p left ≡ false) ⊎ ((from ≤ p) × (p < from + w))
    go (inl yes') = inr (grind (arith, nat_tests), grind (arith, nat_tests))
    go (inr no') = inl (left_split p from w left new split ∙ rw (no', out) refl)

pub left_outside : (p from w : ℕ) (left new : List ℕ) (t : Bool) → left ≡ count_up from w ++ new → (nat_le from p && nat_lt p (from + w)) ≡ false → is_in p left ≡ t → is_in p new ≡ t
left_outside p from w left new t split out before = sym (left_split p from w left new split ∙ rw out refl) ∙ before

-- the bytes of a range, by their places
pub part_len : (f : ℕ → ℕ) (bs part : List ℕ) (from w : ℕ) (left new : List ℕ) → bs ≡ map f left → left ≡ count_up from w ++ new → part ≡ take w bs → length part ≡ w
part_len f bs part from w left new is split front = ap length front ∙ length_here f bs from w left new is split

pub part_at : (f : ℕ → ℕ) (bs part : List ℕ) (from w : ℕ) (left new : List ℕ) (i : ℕ) → bs ≡ map f left → left ≡ count_up from w ++ new → part ≡ take w bs → i < w → slice_index part i ≡ f (from + i)
part_at f bs part from w left new i is split front lt = ap (λ xs. slice_index xs i) front ∙ byte_here f bs from w left new i is split lt

pub part_byte : (f : ℕ → ℕ) (bs part : List ℕ) (from w : ℕ) (left new : List ℕ) (p : ℕ) → bs ≡ map f left → left ≡ count_up from w ++ new → part ≡ take w bs → from ≤ p → p < from + w → slice_index part (p - from) ≡ f p
part_byte f bs part from w left new p is split front lo hi = let back : from + (p - from) ≡ p = omega arith in part_at f bs part from w left new (p - from) is split front (omega arith) ∙ ap f back

-- ---- bytes are put into a part, and the rest is left to be

put_front : (xs ys : List ℕ) (at n w : ℕ) → at ≤ length xs → length ys ≡ w → take (at + w) (put_mid at n xs ys) ≡ take at xs ++ ys
put_front xs ys at n w le long =
    ap (take (at + w)) (sym (append_assoc (take at xs) ys (post_of at n xs)))
    ∙ take_at (take at xs ++ ys) (post_of at n xs) (at + w) (length-append (take at xs) ys ∙ ap₂ (λ a b. a + b) (let e : length (take at xs) ≡ at = grind (arith, places) in e) long)

put_behind : (xs ys : List ℕ) (at n w : ℕ) → at ≤ length xs → length ys ≡ w → drop (at + w) (put_mid at n xs ys) ≡ drop n (drop at xs)
put_behind xs ys at n w le long =
    ap (drop (at + w)) (sym (append_assoc (take at xs) ys (post_of at n xs)))
    ∙ drop_at (take at xs ++ ys) (post_of at n xs) (at + w) (length-append (take at xs) ys ∙ ap₂ (λ a b. a + b) (let e : length (take at xs) ≡ at = grind (arith, places) in e) long)

window_of : (g : ℕ → ℕ) (ys : List ℕ) (from w : ℕ) → length ys ≡ w → ((i : ℕ) → i < w → slice_index ys i ≡ g (from + i)) → ys ≡ map g (count_up from w)
window_of g ys from w long is = ext_get_or 0 _ _ (long ∙ sym (length-map_range g from w)) (λ i lt. let less : i < w = omega (arith, lt, long) in is i less ∙ sym (map_range g from w i 0 less))

pub window_within : (f : ℕ → ℕ) (xs : List ℕ) (at from w : ℕ) (left new : List ℕ) → left ≡ count_up from w ++ new → at ≤ length xs → drop at xs ≡ map f left → at + w ≤ length xs
window_within f xs at from w left new split le is =
    let long : w ≤ length (drop at xs) = enough_bytes f (drop at xs) from w left new is split in
    let short : length (drop at xs) ≡ length xs - at = grind (arith, places) in
    omega arith

-- a part of the bytes is put, each by its place and the byte that was there
module _ (f : ℕ → ℕ) (h : ℕ → ℕ → ℕ) (xs ys : List ℕ) (at from w n : ℕ) (left new : List ℕ) (same : n ≡ w) (split : left ≡ count_up from w ++ new) (le : at ≤ length xs) (rest : drop at xs ≡ map f left)
    (len : length ys ≡ length (take n (drop at xs))) (put : (i : ℕ) → i < length (take n (drop at xs)) → slice_index ys i ≡ h (from + i) (slice_index (take n (drop at xs)) i)) where
  abbrev g : ℕ → ℕ
  g p = h p (f p)

  part_is : take n (drop at xs) ≡ take w (drop at xs)
  part_is = ap (λ m. take m (drop at xs)) same

  old : length (take n (drop at xs)) ≡ w
  old = part_len f (drop at xs) (take n (drop at xs)) from w left new rest split part_is

  long : length ys ≡ w
  long = len ∙ old

  each : (i : ℕ) → i < w → slice_index ys i ≡ g (from + i)
  each i lt = put i (omega (arith, lt, old)) ∙ ap (h (from + i)) (part_at f (drop at xs) (take n (drop at xs)) from w left new i rest split part_is lt)

  pub window_put : at + w ≤ length (put_mid at n xs ys)
  window_put =
      let front : length (take (at + w) (put_mid at n xs ys)) ≡ at + w = ap length (put_front xs ys at n w le long) ∙ length-append (take at xs) ys ∙ ap₂ (λ a b. a + b) (let e : length (take at xs) ≡ at = grind (arith, places) in e) long in
      let short : length (take (at + w) (put_mid at n xs ys)) ≤ length (put_mid at n xs ys) = grind (arith, places) in
      omega arith

  pub window_front : (all : List ℕ) → take at xs ++ map (λ p. h p (f p)) left ≡ all → take (at + w) (put_mid at n xs ys) ++ map (λ p. h p (f p)) new ≡ all
  window_front all before =
      ap (λ zs. zs ++ map g new) (put_front xs ys at n w le long)
      ∙ append_assoc (take at xs) ys (map g new)
      ∙ ap (λ zs. take at xs ++ zs) (ap (λ zs. zs ++ map g new) (window_of g ys from w long each) ∙ sym (ap (map g) split ∙ map-append g (count_up from w) new))
      ∙ before

  pub window_behind : drop (at + w) (put_mid at n xs ys) ≡ map f new
  window_behind = put_behind xs ys at n w le long ∙ ap (λ m. drop m (drop at xs)) same ∙ bytes_behind f (drop at xs) from w left new rest split

-- all bytes are put back
pub taken_all : (new old : List ℕ) (n : ℕ) → length new ≡ n → take n (new ++ drop (length new) old) ≡ new
taken_all new old n long = take_at new (drop (length new) old) n long

-- ---- what is kept

pub some_kept : (k : KeptData) (p : ℕ) → is_some (kept_at k p) ≡ holds k.marks p
some_kept k p = go (holds k.marks p)
  where
    go : (t : Bool) → is_some (cond t (Some (byte_of k p)) None) ≡ t
    go true = refl
    go false = refl

pub none_kept : (k : KeptData) (p : ℕ) → holds k.marks p ≡ false → kept_at k p ≡ None
none_kept k p h = rw h refl

pub found_kept : (k : KeptData) (p b : ℕ) → kept_at k p ≡ Some b → is_some (kept_at k p) ≡ true
found_kept k p b h = ap is_some h

-- other bytes of the same places
pub kept_of_other : (f : ℕ → ℕ) (k : KeptData) (n : Places) (bs : List ℕ) (p : ℕ) → n ≡ k.marks → bs ≡ map f (places_in k.marks) → kept_at (record { marks = n; bytes = bs }) p ≡ cond (is_some (kept_at k p)) (Some (f p)) None
kept_of_other f k n bs p same is = kept_from f k.marks n bs p same is ∙ ap (λ t. cond t (Some (f p)) None) (sym (some_kept k p))

-- bytes that were taken over
pub kept_over : (g : ℕ → ℕ → ℕ) (k : KeptData) (n : Places) (bs : List ℕ) (p : ℕ) → n ≡ k.marks → bs ≡ map (λ q. g q (byte_of k q)) (places_in k.marks)
    → kept_at (record { marks = n; bytes = bs }) p ≡ cond (is_some (kept_at k p)) (Some (g p (unwrap_or (kept_at k p) 0))) None
kept_over g k n bs p same is = kept_from (λ q. g q (byte_of k q)) k.marks n bs p same is ∙ go (holds k.marks p)
  where
    go : (t : Bool) → cond t (Some (g p (byte_of k p))) None ≡ cond (is_some (cond t (Some (byte_of k p)) None)) (Some (g p (unwrap_or (cond t (Some (byte_of k p)) None) 0))) None
    go true = refl
    go false = refl
