-- What the walks over memory share. Assumes `Logic`.
use Rattle.std.proofs.Common.{◌≡◌, ℕ, suc, ◌+◌, List, [], ◌∷◌, ◌++◌, length, refl, arith, w8}
use seplogic.Ra.Ura.{Ura}
use base.Fraction.{full_share}
use base.Logic.{ent, sep, emp}
use base.Fml.{Fml, ftrue, fat, froom}
use mir.Syntax.{ty_int}
use mir.Val.{Val, vint, vstruct, vcons, vnil}
use types.Logic.{Logic, sem}
use types.Kit.{‵, ◌$◌, ◌∵◌, !, qed, done, move, drop, use1, use2, fsplit, fjoin, fpack, feq_i, rewrite}
use types.SemTy.{cells}
use denote.Builtin.{u8}
use denote.Memory.{part_at, mem}
use denote.Plain.{uint_out}
use denote.RattleType.{RattleType, Valss}
use denote.RawPtr.{Ptr, RawPtr, ptr_val}
use denote.Shadow.{makes_shadow}
use denote.Steps.{nothing}
use denote.Struct.Declared.{shape}
use denote.Struct.Struct.{Struct, within}
use denote.Struct.Tuple.{Tuple, tuple_type}
use Rattle.nd_block.specs.Ownership.{bytes_type}

module _ {M : Type 1} {𝓤 : Ura M} (𝓛 : Logic 𝓤) (b : ℕ) where
  abbrev Bytes : List ℕ → ℕ → Fml
  Bytes xs o = cells (mem u8) xs b o

  -- one byte more
  pub one_more : (xs : List ℕ) (x o at : ℕ) → at ≡ length xs + o → ent 𝓤 (sep 𝓤 (sem 𝓛 (Bytes xs o)) (sem 𝓛 (part_at u8 full_share x b at))) (sem 𝓛 (Bytes (xs ++ x ∷ []) o))
  one_more [] x o at e = let same : at ≡ o = omega arith in qed 𝓛 (‵ ftrue ∷ ‵ (part_at u8 full_share x b at) ∷ []) ∵ drop ! $
      rewrite ! 0 (λ (k : ℕ). ‵ (part_at u8 full_share x b k)) same refl $ nothing ! $ move ! (1 ∷ 0 ∷ []) $ fjoin ! $ done !
  one_more (y ∷ xs) x o at e = qed 𝓛 (‵ (Bytes (y ∷ xs) o) ∷ ‵ (part_at u8 full_share x b at) ∷ []) ∵ fsplit ! $ move ! (1 ∷ 2 ∷ []) $
      use2 𝓛 (‵ (Bytes (xs ++ x ∷ []) (o + 1))) (one_more xs x (o + 1) at (omega arith)) $ move ! (1 ∷ 0 ∷ []) $ fjoin ! $ done !

  -- the bytes are let go, and their places are room again
  pub room_again : (xs : List ℕ) (n m o at : ℕ) → at ≡ length xs + o → m ≡ length xs + n → ent 𝓤 (sep 𝓤 (sem 𝓛 (Bytes xs o)) (sem 𝓛 (froom (bytes_type n) b at))) (sem 𝓛 (froom (bytes_type m) b o))
  room_again [] n m o at e all = let same : at ≡ o = omega arith in let none : n ≡ m = omega arith in qed 𝓛 (‵ ftrue ∷ ‵ (froom (bytes_type n) b at) ∷ []) ∵ drop ! $
      rewrite ! 0 (λ (k : ℕ × ℕ). ‵ (froom (bytes_type k.0) b k.1)) (λ i. (none i, same i)) refl $ done !
  room_again (x ∷ xs) n m o at e all = let more : suc (length xs + n) ≡ m = omega arith in qed 𝓛 (‵ (Bytes (x ∷ xs) o) ∷ ‵ (froom (bytes_type n) b at) ∷ []) ∵ fsplit ! $ move ! (1 ∷ 2 ∷ []) $
      use2 𝓛 (‵ (froom (bytes_type (length xs + n)) b (o + 1))) (room_again xs n (length xs + n) (o + 1) at (omega arith) refl) $ move ! (1 ∷ []) $
      use1 𝓛 (‵ (fat full_share (ty_int w8) b o (vint w8 x))) (uint_out 𝓛 full_share w8 x b o) $
      use1 𝓛 (‵ (froom (ty_int w8) b o)) (𝓛.laws.at_room (ty_int w8) b o (vint w8 x)) $
      use2 𝓛 (‵ (froom (bytes_type (suc (length xs + n))) b o)) (𝓛.laws.room_cons (ty_int w8) (length xs + n) b o) $ rewrite ! 0 (λ (k : ℕ). ‵ (froom (bytes_type k) b o)) more refl $ done !

-- The machine values of the module's structs, none of which but the pointer takes space.
abbrev of_fields : List RattleType → RattleType
of_fields Rs = Struct (record { name = []; args = []; types = []; fields = Rs })

abbrev pub start_val : Ptr → Val
start_val p = vstruct (vcons (ptr_val p) vnil)

abbrev pub places_val : Val
places_val = vstruct vnil

abbrev pub right_val : Val
right_val = vstruct (vcons (vstruct vnil) vnil)

abbrev pub three_val : Val → Val → Val → Val
three_val u v w = vstruct (vcons u (vcons v (vcons w vnil)))

module _ {M : Type 1} {𝓤 : Ura M} (𝓛 : Logic 𝓤) where
  pub start_made : (p : Ptr) → ent 𝓤 (emp 𝓤) (sem 𝓛 ((of_fields (RawPtr ∷ [])).own_val (p, tt) (start_val p ∷ [])))
  start_made p = makes_shadow 𝓛 ((of_fields (RawPtr ∷ [])).own_val (p, tt) (start_val p ∷ [])) (λ _. (tt, (tt, tt))) ((ptr_val p ∷ [], tt), (refl, (refl, tt)))

  pub places_made : ent 𝓤 (emp 𝓤) (sem 𝓛 ((of_fields []).own_val tt (places_val ∷ [])))
  places_made = makes_shadow 𝓛 ((of_fields []).own_val tt (places_val ∷ [])) (λ _. (tt, tt)) (tt, (refl, tt))

  pub right_made : ent 𝓤 (emp 𝓤) (sem 𝓛 ((of_fields (of_fields [] ∷ [])).own_val (tt, tt) (right_val ∷ [])))
  right_made = makes_shadow 𝓛 ((of_fields (of_fields [] ∷ [])).own_val (tt, tt) (right_val ∷ [])) (λ _. (tt, ((λ _. (tt, tt)), tt))) ((vstruct vnil ∷ [], tt), (refl, ((tt, (refl, tt)), tt)))

  -- a tuple of three
  pub three_made : (R S T : RattleType) (x : R.Denot) (y : S.Denot) (z : T.Denot) (u v w : Val)
      → ent 𝓤 (sep 𝓤 (sem 𝓛 (R.own_val x (u ∷ []))) (sep 𝓤 (sem 𝓛 (S.own_val y (v ∷ []))) (sem 𝓛 (T.own_val z (w ∷ []))))) (sem 𝓛 ((Tuple (R ∷ S ∷ T ∷ [])).own_val (x, y, z) (three_val u v w ∷ [])))
  three_made R S T x y z u v w = qed 𝓛 (‵ (R.own_val x (u ∷ [])) ∷ ‵ (S.own_val y (v ∷ [])) ∷ ‵ (T.own_val z (w ∷ [])) ∷ []) ∵
      nothing ! $ move ! (1 ∷ 2 ∷ 3 ∷ 0 ∷ []) $ move ! (2 ∷ 3 ∷ []) $ fjoin ! $ move ! (2 ∷ 0 ∷ []) $ fjoin ! $ move ! (1 ∷ 0 ∷ []) $ fjoin ! $
      feq_i ! (List Val) (three_val u v w ∷ []) (three_val u v w ∷ []) refl $ fjoin ! $
      fpack ! (Valss (R ∷ S ∷ T ∷ [])) (within (shape (tuple_type (R ∷ S ∷ T ∷ []))) (x, (y, (z, tt))) (three_val u v w ∷ [])) (u ∷ [], (v ∷ [], (w ∷ [], tt))) $ done !
