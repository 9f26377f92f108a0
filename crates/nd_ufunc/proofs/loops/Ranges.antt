-- What is read of bytes is a number of its kind.
use Rattle.std.proofs.Common.{◌≡◌, ℕ, pos, zero, suc, ◌+◌, ◌*◌, ◌^◌, ◌<◌, ◌≤◌, Bool, true, false, List, [], ◌∷◌, take, drop, get_or, refl, sym, ap, subst, arith}
use Rattle.std.specs.Int.{Width, w8, w16, w32, w64, w128, byte_len}
use Rattle.std.proofs.lemmas.List.{get_or-drop}
use native.Mathlib.Nat.{mod-eq_of_lt}
use Rattle.nd_model.specs.Arrays.Content.{number_at}
use Rattle.nd_model.specs.Arrays.Element.{Kind, Boolean, Int8, Int16, Int32, Int64, UInt8, UInt16, UInt32, UInt64, Element, IsValue, width_of, size_of, number_in, value_in, wrap, bytes_at}
use Rattle.nd_model.proofs.Values.{few_bytes, wrap_in_range}

-- bytes that are read are below 256
small_front : (n : ℕ) (xs : List ℕ) → ((i : ℕ) → get_or xs i 0 < 256) → (i : ℕ) → get_or (take n xs) i 0 < 256
small_front zero xs small i = omega arith
small_front (suc n) [] small i = omega arith
small_front (suc n) (x ∷ xs) small zero = small 0
small_front (suc n) (x ∷ xs) small (suc i) = small_front n xs (λ k. small (suc k)) i

small_at : (bytes : List ℕ) → ((i : ℕ) → get_or bytes i 0 < 256) → (p n i : ℕ) → get_or (bytes_at bytes p n) i 0 < 256
small_at bytes small p n = small_front n (drop p bytes) (λ i. subst (λ b. b < 256) (sym (get_or-drop p bytes i 0)) (small (p + i)))

module _ (bs : List ℕ) (small : (i : ℕ) → get_or bs i 0 < 256) where
  number_small : (w : Width) (big : Bool) → byte_len w ≤ 8 → number_in w big bs < 2 ^ (8 * byte_len w)
  number_small w8 true few = let a = small 0 in omega arith
  number_small w8 false few = let a = small 0 in omega arith
  number_small w16 true few = let a = small 0 in let b = small 1 in omega arith
  number_small w16 false few = let a = small 0 in let b = small 1 in omega arith
  number_small w32 true few = let a = small 0 in let b = small 1 in let c = small 2 in let d = small 3 in omega arith
  number_small w32 false few = let a = small 0 in let b = small 1 in let c = small 2 in let d = small 3 in omega arith
  number_small w64 true few =
      let a = small 0 in let b = small 1 in let c = small 2 in let d = small 3 in let e = small 4 in let f = small 5 in let g = small 6 in let h = small 7 in omega arith
  number_small w64 false few =
      let a = small 0 in let b = small 1 in let c = small 2 in let d = small 3 in let e = small 4 in let f = small 5 in let g = small 6 in let h = small 7 in omega arith
  number_small w128 big few = absurd (omega arith)

-- a number that the bytes hold is worth what it wraps to
worth : (k : Kind) (n : ℕ) → n < 2 ^ (8 * size_of k) → wrap k (pos n) ≡ value_in k n
worth Boolean n small = refl
worth Int8 n small = ap (value_in Int8) (mod-eq_of_lt small)
worth Int16 n small = ap (value_in Int16) (mod-eq_of_lt small)
worth Int32 n small = ap (value_in Int32) (mod-eq_of_lt small)
worth Int64 n small = ap (value_in Int64) (mod-eq_of_lt small)
worth UInt8 n small = ap (value_in UInt8) (mod-eq_of_lt small)
worth UInt16 n small = ap (value_in UInt16) (mod-eq_of_lt small)
worth UInt32 n small = ap (value_in UInt32) (mod-eq_of_lt small)
worth UInt64 n small = ap (value_in UInt64) (mod-eq_of_lt small)

pub in_range : (e : Element) (bytes : List ℕ) → ((i : ℕ) → get_or bytes i 0 < 256) → (p : ℕ) → IsValue e.kind (number_at e bytes p)
in_range e bytes small p =
    let n : ℕ = number_in (width_of e.kind) e.big (bytes_at bytes p (size_of e.kind)) in
    subst (IsValue e.kind) (worth e.kind n (number_small (bytes_at bytes p (size_of e.kind)) (small_at bytes small p (size_of e.kind)) (width_of e.kind) e.big (few_bytes e.kind))) (wrap_in_range e.kind (pos n))
