-- `as_mut_slice` lends the written bytes, and the places follow what is written through the slice. Assumes `Logic`.
use Rattle.std.proofs.Common.{◌≡◌, ℕ, ◌+◌, ◌*◌, ◌^◌, ◌<◌, List, [], ◌∷◌, length, drop as drop_l, refl, sym, ap, subst, ◌∙◌, arith, w64, MutBor}
use Rattle.std.proofs.raw_atomic.Walks.{proved}
use Rattle.std_alloc.proofs.RcSteps.{word, word-Good}
use Rattle.std_alloc.proofs.VecSteps.Shapes.{after}
use Rattle.std.specs.List.{refill}
use lib.Seq.{take_at as take_front}
use seplogic.Ra.Ura.{Ura}
use base.Fraction.{full_share}
use base.Logic.{ent, sep, never, id⊢}
use base.Fml.{Fml, GName, ftrue, fsep, fat, flft, froom}
use mir.Syntax.{named}
use mir.Val.{Val}
use contract.Monad.{fact}
use contract.Running.{tables}
use types.Logic.{Logic, sem}
use types.Kit.{‵, raw, some, later, ◌⊛◌, at_ret, ◌$◌, ◌∵◌, !, qed, done, move, keep, use1, await, pick, group, split, join, fsplit, fsplit3, fjoin, fjoin3, fpack, flt_i, flt_l, rewrite, suffices, frame}
use types.Part.{whole, sub, agg}
use types.Run.{enter, of_opd, stop, fld, no_more, and_then, first, blocks, exec, returns}
use types.ByLocal.{alloc_all, pass_all, free_all, look_at, get, get_in, take_at, give_at, sets, sets_last, env}
use types.SemTy.{cells}
use denote.Array.{Array}
use denote.Builtin.{u8, usize}
use denote.Exit.{yes, no}
use denote.Follow.{follows}
use denote.FollowSlice.{Elements, lends_Elements}
use denote.Memory.{mem, cell_at, part_of}
use denote.Param.{layout}
use denote.Plain.{uint_vals, uint_Tells}
use denote.RattleType.{RattleType, owns}
use denote.RawPtr.{Ptr, block_ptr, in_a_block}
use denote.Ref.{MutRef, mut_vals, mut_Tells}
use denote.Signature.{plain, mut_ref_to}
use denote.Slice.{MutSlice, slice_val}
use denote.Steps.{nothing, heard, opens}
use denote.Struct.Owning.{shape}
use denote.Struct.Struct.{Struct}
use denote.Triple.Walked.{Stays, walk_of, says, stay_dropped, Goes-dropped, Goes-spent_ref, ends_at}
use Rattle.nd_block.specs.Lends.{with_written}
use Rattle.nd_block.specs.Ownership.{bytes_type, places_owned}
use Rattle.nd_block.specs.declared.memory.Places.{Places}
use Rattle.nd_block.specs.contracts.memory.Places.{the_row as R, the_type as T}
use Rattle.nd_block.specs.contracts.memory.Start.{the_row as S}
use Rattle.nd_block.specs.contracts.memory.Places.as_mut_slice as f
use Rattle.nd_block.proofs.memory.Start.TheLaws.{lowers as start}
use Rattle.nd_block.proofs.memory.Places.as_mut_slice.Statement.{statement}
use Rattle.nd_block.proofs.memory.Places.as_mut_slice.Code as code

abbrev stayed : Stays f.ended.signature.params f.ended.kept
stayed = (stay_dropped (mut_ref_to (0 ∷ []) tt (plain (λ _. R))) no, (stay_dropped (plain (λ _. S)) yes, (stay_dropped (plain (λ _. usize)) yes, tt)))

abbrev Fields : RattleType
Fields = Struct (shape T)

-- the places, once the bytes ws were written through the slice
abbrev new : Places → List ℕ → Places
new d ws = with_written d (refill (length d.written) d.written ws)

module _ {M : Type 1} {𝓤 : Ura M} (𝓛 : Logic 𝓤) (d : Places) (us : List Val) (rb ro b o : ℕ) where
  -- what the places own beside their bytes
  abbrev Rest : Fml
  Rest = fsep (froom (bytes_type d.unwritten) b (length d.written + o)) (fsep (Fields.own_val tt us) (cell_at full_share R.mir us rb ro))

  back : d.first ≡ block_ptr b o → length d.written + d.unwritten < 2 ^ 63 → (ws : List ℕ) → length ws ≡ length d.written
      → ent 𝓤 (sep 𝓤 (sem 𝓛 (cells (mem u8) ws b o)) (sem 𝓛 Rest)) (sem 𝓛 ((mem R).own_at (new d ws) rb ro))
  unfolding part_of
  back e few ws same =
      let now = (new d ws).written in
      let all : now ≡ ws = take_front ws (drop_l (length ws) d.written) (length d.written) same in
      let long : length d.written ≡ length now = sym (ap length all ∙ same) in
      qed 𝓛 (‵ (cells (mem u8) ws b o) ∷ ‵ Rest ∷ []) ∵ rewrite ! 0 (λ (l : List ℕ). ‵ (cells (mem u8) l b o)) (sym all) refl $
      move ! (1 ∷ []) $ fsplit3 ! $ rewrite ! 0 (λ (k : ℕ). ‵ (froom (bytes_type d.unwritten) b (k + o))) long refl $ move ! (3 ∷ 0 ∷ []) $ fjoin ! $
      flt_i ! (length now + d.unwritten) (2 ^ 63) (subst (λ k. k + d.unwritten < 2 ^ 63) long few) $ fjoin ! $
      rewrite ! 0 (λ (p : Ptr). ‵ (places_owned p now d.unwritten)) (sym e) refl $ move ! (1 ∷ 0 ∷ []) $ fjoin ! $ move ! (1 ∷ 0 ∷ []) $ fjoin ! $
      fpack ! (List Val) (λ vs. fsep (cell_at full_share R.mir vs rb ro) (R.own_val (new d ws) vs)) us $ done !

pub as_mut_slice_spec : {M : Type 1} → statement M
as_mut_slice_spec 𝓤 𝓛 𝓜 𝓡 wired =
    let c = f.clauses 𝓛 𝓜.mem 𝓡.returns in let W = walk_of 𝓛 f.ended stayed c in let 𝓣 = tables 𝓤 𝓛.H 𝓜 𝓡 𝓡.env in
    proved 𝓛 f.ended stayed c 𝓜 𝓡
    (Goes-spent_ref 𝓛 1 (0 ∷ []) tt (plain (λ _. R)), (Goes-dropped 𝓛 1 (plain (λ _. S)) yes (λ κs x w. refl), (Goes-dropped 𝓛 1 (plain (λ _. usize)) yes (λ κs x w. refl), tt)))
    f.Key.name code.function (code.unfolded 𝓤 𝓛.H 𝓜 𝓡 wired)
    (λ κs. (mut_vals, ((λ s. start.lowered s ∷ []), (uint_vals w64, tt)))) (λ κs. (mut_Tells (named 0) κs.0 R, (start.val_is, (uint_Tells w64, tt)))) (λ κs qs bounds a _ are.
    let κ = κs.0 in let q = qs.0 in let rb = a.0.ref_ptr.0 in let ro = a.0.ref_ptr.1 in let γ = a.0.ghost_name in
    let d = a.0.now in let from = a.1.0 in let len = a.1.1.0 in let xs = d.written in let code' = R.coded.code d in
    let y : W.Ghost = ((κs, qs, bounds, a, (mut_vals a.0, (start.lowered from ∷ [], (uint_vals w64 len, tt)))), tt) in
    let Asked : Type 0 = (from.first ≡ d.first) × (len ≡ length xs) in
    qed 𝓛 (((‵ (flft κ q) ⊛ ‵ ftrue) ⊛ ‵ (owns (MutRef (named 0) κ R ∷ S ∷ usize ∷ []) a y.0.4)) ∷ raw (fact 𝓤 Asked) ∷ []) ∵
    move ! (1 ∷ []) $ heard ! Asked (λ asked. split ! $ split ! $ move ! (2 ∷ []) $ fsplit ! $ keep ! (0 ∷ 2 ∷ []) $
    enter ! _ _ _ _ _ $ alloc_all ! (λ l. pass_all ! refl ((tt, tt), (word-Good [] from.first, ((tt, record { fits = are.1.1.0.1 }), tt))) $
    fsplit3 ! $ move ! (1 ∷ 2 ∷ 3 ∷ []) $ opens ! tt R rb ro (λ us. move ! (1 ∷ []) $ fsplit ! $ move ! (1 ∷ []) $
    in_a_block ! d.first (λ p. places_owned p xs d.unwritten) (id⊢ 𝓤 (never 𝓤)) (λ b o e. fsplit ! $ flt_l ! (λ few. fsplit ! $
    let fits : len < 2 ^ 64 = are.1.1.0.1 in
    let way = back 𝓛 d us rb ro b o e few in let roomy : length xs < 2 ^ 64 = omega arith in let small : length xs * 1 < 2 ^ 63 = omega arith in
    take_at ! 2 $ rewrite ! 0 (λ (p : Ptr). ‵ (fat full_share (layout S) (l 2) 0 (word p))) (asked.0 ∙ e) refl $ give_at ! 2 $
    first ! $ blocks ! $
    sets_last ! (agg ! (and_then ! (get_in ! (fld ! refl (stop !)) (sub ! 0 refl (whole !))) (and_then ! (get ! refl) (no_more !)))) refl (tt, (tt, (record { fits = fits }, tt))) $
    exec ! 𝓣.C 𝓣.Λ (env code.Mir.locals l) (after 1 (code.function).body) (at_ret _ (W.post y)) $
    sets ! (of_opd ! (get ! refl)) refl (tt, (tt, (record { fits = fits }, tt))) $
    -- [the bytes; the room; the struct's fields; its cell; the open borrow, in three entries; ..]
    move ! (1 ∷ 2 ∷ 3 ∷ []) $ fjoin3 ! $ move ! (2 ∷ 3 ∷ 4 ∷ 1 ∷ 0 ∷ []) $ group ! 5 $
    let F = new d in let rest = sem 𝓛 (Rest 𝓛 d us rb ro b o) in
    use1 𝓛 (later (some (λ (δ : GName). raw (Elements 𝓛 R u8 F (named 0) κ q rb ro b o γ xs (roomy, small) rest way δ))))
    (lends_Elements 𝓛 R u8 F (named 0) κ q rb ro b o γ xs (roomy, small) rest way code' code') $ await ! tt $ pick ! (λ δ.
    let r : MutBor (List ℕ) = record { ref_ptr = (b, o); ghost_name = δ; now = xs } in
    returns ! (look_at ! 0 refl) $ free_all ! refl $ keep ! (0 ∷ []) $
    use1 𝓛 (‵ ((MutSlice (named 0) κ u8).own_val r (slice_val (b, o) (length xs) ∷ [])) ⊛ ‵ (flft κ q) ⊛ ‵ (follows R (Array u8 0) γ δ F)) (id⊢ 𝓤 _) $ split ! $
    rewrite ! 0 (λ (k : ℕ). ‵ ((MutSlice (named 0) κ u8).own_val r (slice_val (b, o) k ∷ []))) (sym asked.1) refl $ move ! (1 ∷ []) $ split ! $ move ! (2 ∷ []) $
    suffices ! _ (ends_at 𝓛 f.ended stayed c y (slice_val (b, o) len) r (tt, (tt, (tt, tt))) (tt, (tt, (tt, tt)))) $
    nothing ! $ nothing ! $ fjoin ! $ nothing ! $ fjoin ! $ nothing ! $ fjoin ! $ join ! $ nothing ! $ move ! (2 ∷ 0 ∷ []) $ join ! $ join ! $ frame ! $ says ! refl $ done !)))))))
