-- Pages of words, and the words in them.
use Rattle.std.proofs.Common.{◌≡◌, ℕ, zero, suc, ◌+◌, ◌-◌, ◌*◌, ◌/◌, ◌%◌, ◌<◌, ◌≤◌, ◌||◌, ◌&&◌, Bool, true, false, nat_eq, nat_le, nat_lt, cond, List, [], ◌∷◌, ◌++◌, Vec, get_or, take, length, length-append, slice_index, slice_set, add-one, refl, sym, ap, ap₂, ◌∙◌, inl, inr, arith}
use Rattle.std.specs.Global.{Global}
use Rattle.std.proofs.lemmas.Bool.{cases_Bool, cases_lt, false≢true}
use Rattle.std.proofs.lemmas.Bool.Decides.{nat_tests}
use Rattle.std.proofs.lemmas.Nat.Bits.{bit_at-zero}
use Rattle.nd_marks.specs.Marks.{has_bit, in_word, page_at, pages_of, word_at}

-- the page of a list of words
pub page_here : (vs : List (Vec ℕ Global)) (k : ℕ) (d : Vec ℕ Global) → k < length vs → page_at (pages_of vs) k ≡ (get_or vs k d).items
page_here [] k d lt = elim lt [ ]
page_here (v ∷ vs) zero d lt = refl
page_here (v ∷ vs) (suc k) d lt = page_here vs k d (omega arith)

pub page_past : (ps : List (List ℕ)) (k : ℕ) → length ps ≤ k → page_at ps k ≡ []
page_past [] k le = refl
page_past (p ∷ ps) zero le = absurd (omega arith)
page_past (p ∷ ps) (suc k) le = page_past ps k (omega arith)

pub length-pages_of : (vs : List (Vec ℕ Global)) → length (pages_of vs) ≡ length vs
length-pages_of [] = refl
length-pages_of (v ∷ vs) = ap suc (length-pages_of vs)

-- a page without words is behind the others
pub page_pushed : (vs : List (Vec ℕ Global)) (v : Vec ℕ Global) (k : ℕ) → v.items ≡ [] → page_at (pages_of (vs ++ v ∷ [])) k ≡ page_at (pages_of vs) k
page_pushed [] v zero none = none
page_pushed [] v (suc k) none = refl
page_pushed (w ∷ vs) v zero none = refl
page_pushed (w ∷ vs) v (suc k) none = page_pushed vs v k none

-- the last page
pub page_last : (vs : List (Vec ℕ Global)) (v : Vec ℕ Global) → page_at (pages_of (vs ++ v ∷ [])) (length vs) ≡ v.items
page_last [] v = refl
page_last (w ∷ vs) v = page_last vs v

pub page_before : (vs : List (Vec ℕ Global)) (v : Vec ℕ Global) (k : ℕ) → k < length vs → page_at (pages_of (vs ++ v ∷ [])) k ≡ page_at (pages_of vs) k
page_before [] v k lt = elim lt [ ]
page_before (w ∷ vs) v zero lt = refl
page_before (w ∷ vs) v (suc k) lt = page_before vs v k (omega arith)

-- a word past the last of a page
pub past_page : (ws : List ℕ) (k : ℕ) → length ws ≤ k → slice_index ws k ≡ 0
past_page [] k le = refl
past_page (w ∷ ws) zero le = absurd (omega arith)
past_page (w ∷ ws) (suc k) le = past_page ws k (omega arith)

-- a word past the last page has no bit
pub no_word : (ps : List (List ℕ)) (q : ℕ) → length ps ≤ q / 512 → word_at ps q ≡ 0
no_word ps q le = ap (λ ws. slice_index ws (q % 512)) (page_past ps (q / 512) le)

pub no_bit : (ps : List (List ℕ)) (p : ℕ) → word_at ps (p / 64) ≡ 0 → has_bit ps p ≡ false
no_bit ps p none = ap (λ w. in_word w (p % 64)) none ∙ ap (λ b. nat_eq b 1) (bit_at-zero (p % 64))

pub bit_within : (ps : List (List ℕ)) (p : ℕ) → has_bit ps p ≡ true → p < length ps * 32768
bit_within ps p h = elim (cases_lt p (length ps * 32768)) [
  | inl lt ↦ lt
  | inr ge ↦ let k : length ps ≤ p / 64 / 512 = omega arith in
      absurd (false≢true (sym (no_bit ps p (no_word ps (p / 64) k)) ∙ h))
]

-- a page that is put in the place of another
pub page_put : (vs : List (Vec ℕ Global)) (k : ℕ) (v : Vec ℕ Global) → k < length vs → page_at (pages_of (slice_set vs k v)) k ≡ v.items
page_put [] k v lt = elim lt [ ]
page_put (w ∷ vs) zero v lt = refl
page_put (w ∷ vs) (suc k) v lt = page_put vs k v (omega arith)

pub page_beside : (vs : List (Vec ℕ Global)) (k j : ℕ) (v : Vec ℕ Global) → nat_eq j k ≡ false → page_at (pages_of (slice_set vs k v)) j ≡ page_at (pages_of vs) j
page_beside [] k j v other = refl
page_beside (w ∷ vs) zero zero v other = absurd (false≢true (sym other))
page_beside (w ∷ vs) zero (suc j) v other = refl
page_beside (w ∷ vs) (suc k) zero v other = refl
page_beside (w ∷ vs) (suc k) (suc j) v other = page_beside vs k j v (grind (arith, nat_tests))

-- a page with other words, each as before
pub page_alike : (vs : List (Vec ℕ Global)) (k : ℕ) (old new : Vec ℕ Global) → k < length vs → old ≡ get_or vs k old → ((q : ℕ) → slice_index new.items q ≡ slice_index old.items q)
    → (j q : ℕ) → slice_index (page_at (pages_of (slice_set vs k new)) j) q ≡ slice_index (page_at (pages_of vs) j) q
page_alike vs k old new lt is same j q = elim (cases_Bool (nat_eq j k)) [
  | inl here ↦ let e : j ≡ k = grind (arith, nat_tests) in
      rw e (ap (λ ws. slice_index ws q) (page_put vs k new lt) ∙ same q ∙ ap (λ ws. slice_index ws q) (ap (λ (v : Vec ℕ Global). v.items) is ∙ sym (page_here vs k old lt)))
  | inr other ↦ ap (λ ws. slice_index ws q) (page_beside vs k j new other)
]

-- a word is added to one of a page
pub word_added : (os vs : List (Vec ℕ Global)) (at word : ℕ) (old new : Vec ℕ Global) → at / 512 < length vs → old ≡ get_or vs (at / 512) old
    → ((k q : ℕ) → slice_index (page_at (pages_of vs) k) q ≡ slice_index (page_at (pages_of os) k) q)
    → ((q i : ℕ) → in_word (slice_index new.items q) i ≡ (in_word (slice_index old.items q) i || (nat_eq q (at % 512) && in_word word i)))
    → (q i : ℕ) → in_word (word_at (pages_of (slice_set vs (at / 512) new)) q) i ≡ (in_word (word_at (pages_of os) q) i || (nat_eq q at && in_word word i))
word_added os vs at word old new lt is same set q i = elim (cases_Bool (nat_eq (q / 512) (at / 512))) [
  | inl here ↦
      let e : q / 512 ≡ at / 512 = grind (arith, nat_tests) in
      let index : nat_eq (q % 512) (at % 512) ≡ nat_eq q at = grind (arith, nat_tests, e) in
      let before : slice_index old.items (q % 512) ≡ word_at (pages_of os) q = ap (λ (v : Vec ℕ Global). slice_index v.items (q % 512)) is ∙ ap (λ ws. slice_index ws (q % 512)) (sym (page_here vs (at / 512) old lt)) ∙ same (at / 512) (q % 512) ∙ ap (λ k. slice_index (page_at (pages_of os) k) (q % 512)) (sym e) in
      ap (λ k. in_word (slice_index (page_at (pages_of (slice_set vs (at / 512) new)) k) (q % 512)) i) e
      ∙ ap (λ ws. in_word (slice_index ws (q % 512)) i) (page_put vs (at / 512) new lt) ∙ set (q % 512) i
      ∙ ap₂ (λ w t. in_word w i || (t && in_word word i)) before index
  | inr other ↦
      let away : nat_eq q at ≡ false = grind (arith, nat_tests, other) in
      ap (λ ws. in_word (slice_index ws (q % 512)) i) (page_beside vs (at / 512) (q / 512) new other) ∙ ap (λ w. in_word w i) (same (q / 512) (q % 512))
      ∙ rw away (nothing (in_word (word_at (pages_of os) q) i))
]
  where
    nothing : (b : Bool) → b ≡ (b || false)
    nothing true = refl
    nothing false = refl

-- a page that has words is in the list
pub page_within : (vs : List (Vec ℕ Global)) (k n : ℕ) → 0 < n → n ≤ length (page_at (pages_of vs) k) → k < length vs
page_within [] k n some le = absurd (omega (arith, some, le))
page_within (v ∷ vs) zero n some le = omega arith
page_within (v ∷ vs) (suc k) n some le = let lt : k < length vs = page_within vs k n some le in omega (arith, lt)

-- a page of others is added to the one of its index
pub page_added : (vs us : List (Vec ℕ Global)) (k : ℕ) (w old new : Vec ℕ Global) → k ≡ length us → k < length vs → old ≡ get_or vs k old
    → ((q i : ℕ) → in_word (slice_index new.items q) i ≡ (in_word (slice_index old.items q) i || in_word (slice_index w.items q) i))
    → (p : ℕ) → (has_bit (pages_of (slice_set vs k new)) p || has_bit (pages_of us) p) ≡ (has_bit (pages_of vs) p || has_bit (pages_of (us ++ w ∷ [])) p)
page_added vs us k w old new last lt is set p =
    let j : ℕ = p / 64 / 512 in let q : ℕ = p / 64 % 512 in let i : ℕ = p % 64 in
    let bit : List ℕ → Bool = λ ws. in_word (slice_index ws q) i in
    elim (cases_lt j k) [
      | inl before ↦ let other : nat_eq j k ≡ false = grind (arith, nat_tests, before) in
          ap₂ (λ a b. bit a || bit b) (page_beside vs k j new other) (sym (page_before us w j (omega (arith, before, last))))
      | inr ge ↦ elim (cases_lt k j) [
        | inl behind ↦ let other : nat_eq j k ≡ false = grind (arith, nat_tests, behind) in
            let longer : length (pages_of (us ++ w ∷ [])) ≤ j = omega (arith, behind, last, length-pages_of (us ++ w ∷ []), length-append us (w ∷ [])) in
            ap₂ (λ a b. bit a || bit b) (page_beside vs k j new other) (page_past (pages_of us) j (omega (arith, behind, last, length-pages_of us)) ∙ sym (page_past (pages_of (us ++ w ∷ [])) j longer))
        | inr le ↦
            let here : j ≡ k = omega (arith, ge, le) in
            let none : bit (page_at (pages_of us) j) ≡ false = ap bit (page_past (pages_of us) j (omega (arith, ge, last, length-pages_of us))) ∙ ap (λ b. nat_eq b 1) (bit_at-zero i) in
            let page : page_at (pages_of vs) k ≡ old.items = page_here vs k old lt ∙ ap (λ (v : Vec ℕ Global). v.items) (sym is) in
            ap₂ (λ a b. a || b) (ap (λ n. bit (page_at (pages_of (slice_set vs k new)) n)) here ∙ ap bit (page_put vs k new lt) ∙ set q i) none
            ∙ plain (bit old.items) (bit w.items)
            ∙ ap₂ (λ a b. bit a || bit b) (sym (ap (page_at (pages_of vs)) here ∙ page)) (sym (ap (page_at (pages_of (us ++ w ∷ []))) (here ∙ last) ∙ page_last us w))
      ]
    ]
  where
    plain : (a b : Bool) → ((a || b) || false) ≡ (a || b)
    plain true b = refl
    plain false true = refl
    plain false false = refl

-- one more page of both is the same
pub pages_more : (vs us : List (Vec ℕ Global)) (k : ℕ) (v u : Vec ℕ Global) → k < length vs → k < length us → v ≡ get_or vs k v → u ≡ get_or us k u → v.items ≡ u.items
    → pages_of (take k vs) ≡ pages_of (take k us) → pages_of (take (k + 1) vs) ≡ pages_of (take (k + 1) us)
pages_more vs us k v u lt lu is iu same before = rw (take_at vs k v lt is, take_at us k u lu iu) (pages_joined (take k vs) (v ∷ []) ∙ ap₂ (λ a b. a ++ b ∷ []) before same ∙ sym (pages_joined (take k us) (u ∷ [])))
  where
    pages_joined : (xs ys : List (Vec ℕ Global)) → pages_of (xs ++ ys) ≡ pages_of xs ++ pages_of ys
    pages_joined [] ys = refl
    pages_joined (x ∷ xs) ys = ap (λ zs. x.items ∷ zs) (pages_joined xs ys)

    take_at : (xs : List (Vec ℕ Global)) (k : ℕ) (x : Vec ℕ Global) → k < length xs → x ≡ get_or xs k x → take (k + 1) xs ≡ take k xs ++ x ∷ []
    take_at xs k x lt is = rw add-one (go xs k x lt is)
      where
        go : (xs : List (Vec ℕ Global)) (k : ℕ) (x : Vec ℕ Global) → k < length xs → x ≡ get_or xs k x → take (suc k) xs ≡ take k xs ++ x ∷ []
        go [] k x lt is = elim lt [ ]
        go (y ∷ ys) zero x lt is = ap (λ z. z ∷ []) (sym is)
        go (y ∷ ys) (suc k) x lt is = ap (λ zs. y ∷ zs) (go ys k x (omega arith) is)

-- a bit of these words is in the first of them, where the others have none
pub in_first : (ps : List (List ℕ)) (at next p : ℕ) → ((q : ℕ) → at < q → q < next → word_at ps q ≡ 0) → at * 64 ≤ p → p < next * 64 → has_bit ps p ≡ true → p / 64 ≡ at
in_first ps at next p none from to h = elim (cases_lt at (p / 64)) [
  | inl behind ↦ absurd (false≢true (sym (no_bit ps p (none (p / 64) behind (omega (arith, to)))) ∙ h))
  | inr le ↦ omega (arith, le, from)
]

-- the bits of one more word
pub words_more : (ps : List (List ℕ)) (at next p word : ℕ) → at < next → word ≡ word_at ps at → ((q : ℕ) → at < q → q < next → word_at ps q ≡ 0)
    → (nat_lt p (next * 64) && has_bit ps p) ≡ ((nat_lt p (at * 64) && has_bit ps p) || ((nat_le (at * 64) p && nat_lt p (at * 64 + 64)) && in_word word (p - at * 64)))
words_more ps at next p word more is none = elim (cases_lt p (at * 64)) [
  | inl lt ↦
      let a : nat_lt p (next * 64) ≡ true = grind (arith, nat_tests, lt, more) in
      let b : nat_lt p (at * 64) ≡ true = grind (arith, nat_tests, lt) in
      let d : nat_le (at * 64) p ≡ false = grind (arith, nat_tests, lt) in
      rw (a, b, d) (plain (has_bit ps p))
  | inr ge ↦
      let b : nat_lt p (at * 64) ≡ false = grind (arith, nat_tests, ge) in
      let d : nat_le (at * 64) p ≡ true = grind (arith, nat_tests, ge) in
      elim (cases_lt p (at * 64 + 64)) [
        | inl lt ↦
            let a : nat_lt p (next * 64) ≡ true = grind (arith, nat_tests, lt, more) in
            let e : nat_lt p (at * 64 + 64) ≡ true = grind (arith, nat_tests, lt) in
            let here : p / 64 ≡ at = omega (arith, lt, ge) in
            let low : p % 64 ≡ p - at * 64 = omega (arith, lt, ge) in
            let bit : has_bit ps p ≡ in_word word (p - at * 64) = ap₂ (λ k i. in_word (word_at ps k) i) here low ∙ ap (λ w. in_word w (p - at * 64)) (sym is) in
            rw (a, b, d, e) bit
        | inr ge' ↦
            let e : nat_lt p (at * 64 + 64) ≡ false = grind (arith, nat_tests, ge') in
            rw (b, d, e) (elim (cases_lt p (next * 64)) [
              | inl lt ↦ let z : has_bit ps p ≡ false = no_bit ps p (none (p / 64) (omega (arith, ge')) (omega (arith, lt))) in rw z (nothing (nat_lt p (next * 64)))
              | inr past ↦ let a : nat_lt p (next * 64) ≡ false = grind (arith, nat_tests, past) in rw a refl
            ])
      ]
]
  where
    plain : (a : Bool) → a ≡ (a || false)
    plain true = refl
    plain false = refl

    nothing : (a : Bool) → (a && false) ≡ false
    nothing true = refl
    nothing false = refl

-- what is patched twice
pub cond_or : (a b : Bool) (s o : ℕ) → cond b s (cond a s o) ≡ cond (a || b) s o
cond_or true true s o = refl
cond_or true false s o = refl
cond_or false b s o = refl
