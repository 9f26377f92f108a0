-- `write` fills the first of the places that are not written. Assumes `Logic`.
use Rattle.std.proofs.Common.{◌≡◌, ℕ, ◌+◌, ◌-◌, ◌<◌, ◌^◌, suc, List, [], ◌∷◌, ◌++◌, length, refl, sym, ◌∙◌, arith, w8, w64, length-append}
use Rattle.std.proofs.raw_atomic.Walks.{proved}
use Rattle.std_alloc.proofs.RcSteps.{word, word-Good}
use Rattle.std_alloc.proofs.VecSteps.Shapes.{after}
use base.Fraction.{full_share}
use base.Logic.{never, id⊢}
use base.Fml.{ftrue, fat, flft, froom}
use mir.Syntax.{ty_int, named}
use mir.Val.{Val, vunit}
use contract.Monad.{fact}
use contract.Running.{tables}
use types.Kit.{‵, raw, ◌⊛◌, at_ret, ◌$◌, ◌∵◌, !, qed, done, move, keep, use1, use2, split, join, fsplit, fsplit3, fjoin, fjoin3, feq_i, flt_l, flt_i, rewrite, suffices, frame}
use types.Part.{whole, sub}
use types.Run.{enter, of_opd, unit_lit, bin, init, stop, fld, assigns_last, first, blocks, exec, returns}
use types.ByLocal.{alloc_all, pass_all, free_all, look_at, get, get_in, take_at, give_at, through, sets, env}
use types.SemTy.{cells}
use denote.Builtin.{u8, usize}
use denote.Exit.{yes}
use denote.Memory.{part_at, mem}
use denote.Param.{layout}
use denote.Plain.{uint_in, uint_vals, uint_Tells}
use denote.RattleType.{owns}
use denote.RawPtr.{Ptr, in_a_block}
use denote.Ref.{MutRef, mut_vals, mut_Tells}
use denote.Signature.{plain}
use denote.Steps.{nothing, opens, closes, heard}
use denote.Triple.Walked.{Stays, walk_of, says, stay_dropped, stay_ref, Goes-dropped, Goes-ref, ends_at}
use Rattle.nd_block.specs.Ownership.{bytes_type, places_owned}
use Rattle.nd_block.specs.declared.memory.Places.{Places}
use Rattle.nd_block.specs.contracts.memory.Places.{the_row as R}
use Rattle.nd_block.specs.contracts.memory.Start.{the_row as S}
use Rattle.nd_block.specs.contracts.memory.Places.write as f
use Rattle.nd_block.proofs.Steps.{one_more}
use Rattle.nd_block.proofs.memory.Start.TheLaws.{lowers as start}
use Rattle.nd_block.proofs.memory.Places.write.Statement.{statement}
use Rattle.nd_block.proofs.memory.Places.write.Code as code

abbrev stayed : Stays f.ended.signature.params f.ended.kept
stayed = (stay_ref (0 ∷ []) tt (plain (λ _. R)), (stay_dropped (plain (λ _. S)) yes, (stay_dropped (plain (λ _. usize)) yes, (stay_dropped (plain (λ _. u8)) yes, tt))))

pub write_spec : {M : Type 1} → statement M
write_spec 𝓤 𝓛 𝓜 𝓡 wired =
    let c = f.clauses 𝓛 𝓜.mem 𝓡.returns in let W = walk_of 𝓛 f.ended stayed c in let 𝓣 = tables 𝓤 𝓛.H 𝓜 𝓡 𝓡.env in
    proved 𝓛 f.ended stayed c 𝓜 𝓡
    (Goes-ref 𝓛 1 0 tt (plain (λ _. R)), (Goes-dropped 𝓛 1 (plain (λ _. S)) yes (λ κs x w. refl), (Goes-dropped 𝓛 1 (plain (λ _. usize)) yes (λ κs x w. refl), (Goes-dropped 𝓛 1 (plain (λ _. u8)) yes (λ κs x w. refl), tt))))
    f.Key.name code.function (code.unfolded 𝓤 𝓛.H 𝓜 𝓡 wired)
    (λ κs. (mut_vals, ((λ s. start.lowered s ∷ []), (uint_vals w64, (uint_vals w8, tt))))) (λ κs. (mut_Tells (named 0) κs.0 R, (start.val_is, (uint_Tells w64, (uint_Tells w8, tt))))) (λ κs qs bounds a _ are.
    let rb = a.0.ref_ptr.0 in let ro = a.0.ref_ptr.1 in let d = a.0.now in let from = a.1.0 in let index = a.1.1.0 in let byte = a.1.1.1.0 in
    let y : W.Ghost = ((κs, qs, bounds, a, (mut_vals a.0, (start.lowered from ∷ [], (uint_vals w64 index, (uint_vals w8 byte, tt))))), tt) in
    let Asked : Type 0 = (from.first ≡ d.first) × (index ≡ length d.written) × (0 < d.unwritten) in
    let left : ℕ = d.unwritten - 1 in
    let new : Places = record { first = d.first; written = d.written ++ byte ∷ []; unwritten = left } in
    qed 𝓛 (((‵ (flft κs.0 qs.0) ⊛ ‵ ftrue) ⊛ ‵ (owns (MutRef (named 0) κs.0 R ∷ S ∷ usize ∷ u8 ∷ []) a y.0.4)) ∷ raw (fact 𝓤 Asked) ∷ []) ∵
    move ! (1 ∷ []) $ heard ! Asked (λ asked. split ! $ split ! $ move ! (2 ∷ []) $ fsplit ! $ keep ! (0 ∷ 2 ∷ []) $
    enter ! _ _ _ _ _ $ alloc_all ! (λ l. pass_all ! refl ((tt, tt), (word-Good [] from.first, ((tt, record { fits = are.1.1.0.1 }), ((tt, record { fits = are.1.1.1.0.1 }), tt)))) $
    fsplit3 ! $ move ! (1 ∷ 2 ∷ 3 ∷ []) $ opens ! tt R rb ro (λ us. move ! (1 ∷ []) $ fsplit ! $ move ! (1 ∷ []) $
    in_a_block ! d.first (λ p. places_owned p d.written d.unwritten) (id⊢ 𝓤 (never 𝓤)) (λ b o e. fsplit ! $ flt_l ! (λ few. fsplit ! $ move ! (1 ∷ []) $
    let at : ℕ = index + o in
    let one : d.unwritten ≡ suc left = omega arith in let here : length d.written + o ≡ at = omega arith in
    let past : at + 1 ≡ length new.written + o = omega (arith, length-append d.written (byte ∷ [])) in
    rewrite ! 0 (λ (k : ℕ × ℕ). ‵ (froom (bytes_type k.0) b k.1)) (λ i. (one i, here i)) refl $
    use1 𝓛 (‵ (froom (ty_int w8) b at) ⊛ ‵ (froom (bytes_type left) b (at + 1))) (𝓛.laws.room_uncons (ty_int w8) left b at) $ split ! $
    -- [room for the byte; the room behind it; the bytes before it; ..]
    take_at ! 2 $ rewrite ! 0 (λ (p : Ptr). ‵ (fat full_share (layout S) (l 2) 0 (word p))) (asked.0 ∙ e) refl $ give_at ! 2 $
    first ! $ blocks ! $
    sets ! (bin ! (get_in ! (fld ! refl (stop !)) (sub ! 0 refl (whole !))) (get ! refl) tt) refl (tt, tt) $
    assigns_last ! (of_opd ! (get ! refl)) (through ! refl (stop !)) (init ! 0 refl (tt, record { fits = are.1.1.1.0.1 })) $
    exec ! 𝓣.C 𝓣.Λ (env code.Mir.locals l) (after 1 (code.function).body) (at_ret _ (W.post y)) $
    sets ! (of_opd ! (unit_lit !)) refl (tt, tt) $
    use1 𝓛 (‵ (part_at u8 full_share byte b at)) (uint_in 𝓛 full_share w8 byte b at) $ move ! (2 ∷ 0 ∷ []) $
    use2 𝓛 (‵ (cells (mem u8) new.written b o)) (one_more 𝓛 b d.written byte o at (sym here)) $ move ! (1 ∷ []) $
    rewrite ! 0 (λ (k : ℕ). ‵ (froom (bytes_type left) b k)) past refl $ move ! (1 ∷ 0 ∷ []) $ fjoin ! $
    flt_i ! (length new.written + left) (2 ^ 63) (omega (arith, length-append d.written (byte ∷ []))) $ fjoin ! $
    rewrite ! 0 (λ (p : Ptr). ‵ (places_owned p new.written left)) (sym e) refl $ move ! (1 ∷ 0 ∷ []) $ fjoin ! $ move ! (1 ∷ 0 ∷ []) $ closes ! tt R new us rb ro $
    returns ! (look_at ! 0 refl) $ free_all ! refl $ move ! (3 ∷ []) $ fjoin3 ! $
    suffices ! _ (ends_at 𝓛 f.ended stayed c y vunit tt (new, (tt, (tt, (tt, tt)))) (tt, (tt, (tt, (tt, tt))))) $ says ! (refl, refl, omega arith) $
    nothing ! $ move ! (2 ∷ 0 ∷ []) $ join ! $ frame ! $ nothing ! $ nothing ! $ fjoin ! $ nothing ! $ fjoin ! $ nothing ! $ fjoin ! $ move ! (1 ∷ 0 ∷ []) $ fjoin ! $
    feq_i ! (List Val) (vunit ∷ []) (vunit ∷ []) refl $ move ! (1 ∷ 0 ∷ []) $ done !))))))
