-- `deallocate` makes room of the places again, and hands it back with the allocator's token. Assumes `Logic`.
use Rattle.std.proofs.Common.{◌≡◌, ℕ, ◌+◌, ◌*◌, ◌^◌, ◌<◌, List, [], ◌∷◌, length, refl, sym, subst, ◌∙◌, arith, lit<, w64}
use Rattle.std.proofs.raw_atomic.Walks.{proved}
use Rattle.core.proofs.alloc.Calls.{Al, Goes-blank, Gives, at_gives, Gives-goes, Gives-Gives}
use Rattle.core.proofs.alloc.Shapes.{after}
use Rattle.core.proofs.atomic.Steps.{fm}
use Rattle.core.specs.declared.alloc.Allocator.{Ghosts}
use Rattle.std_alloc.proofs.RcSteps.{word, word-Good}
use lib.Dec.{T}
use base.Fraction.{full_share}
use base.Logic.{never, id⊢}
use base.Fml.{Lft, Share, ftrue, fat, flft, froom}
use prog.Capped.{capped_is}
use prog.Wp.{Env}
use mir.Syntax.{Ty, Fn, Args, Dict, a_type, dcons, dnil, named, ty_unit}
use mir.Val.{Val, vunit, has_ty, WT}
use mir.MapTy.{inst_fn}
use contract.BorrowLft.{◌⊑◌, ⊑_trans}
use contract.Monad.{fact}
use contract.Running.{tables}
use types.Kit.{‵, raw, given, later, ◌⊛◌, at_ret, ◌$◌, ◌∵◌, !, qed, done, move, keep, drop, use1, use2, await, learn, split, join, group, fsplit, fjoin, feq_i, flt_l, rewrite, suffices}
use types.Part.{whole, sub}
use types.Run.{enter, of_opd, lit, unit_lit, stop, fld, no_more, and_then, first, blocks, exec, returns}
use types.ByLocal.{alloc_all, pass_all, free_all, look_at, get, get_in, take_at, give_at, sets, lands_last, env}
use denote.Builtin.{usize, RefOf}
use denote.Exit.{yes, no}
use denote.Param.{layout, param, bounded}
use denote.Param.Laws.{param_laws}
use denote.Plain.{uint_vals, uint_Tells}
use denote.RattleType.{RattleType, owns}
use denote.RawPtr.{Ptr, in_a_block}
use denote.Ref.{ShrRef, shr_vals, shr_Tells}
use denote.Signature.{plain}
use denote.Steps.{nothing, heard}
use denote.Triple.Call.{calls_at_last}
use denote.Triple.Walked.{Stays, walk_of, stay_dropped, Goes-dropped, ends_at}
use Rattle.nd_block.specs.Ownership.{bytes_type, places_owned, right_owned}
use Rattle.nd_block.specs.contracts.memory.Places.{the_row as P}
use Rattle.nd_block.specs.contracts.memory.Start.{the_row as S}
use Rattle.nd_block.specs.contracts.memory.Right.{the_row as R}
use Rattle.nd_block.specs.contracts.memory.deallocate as f
use Rattle.nd_block.proofs.Steps.{room_again}
use Rattle.nd_block.proofs.memory.Start.TheLaws.{lowers as start}
use Rattle.nd_block.proofs.memory.Places.TheLaws.{lowers as places}
use Rattle.nd_block.proofs.memory.Right.TheLaws.{lowers as right}
use Rattle.nd_block.proofs.memory.deallocate.Statement.{statement}
use Rattle.nd_block.proofs.memory.deallocate.Code as code

module _ (A : RattleType) (g : Ghosts A.Denot) (d dd : Dict) where
  abbrev stayed : Stays (f.ended A g d dd).signature.params (f.ended A g d dd).kept
  stayed = (stay_dropped (RefOf (0 ∷ []) tt (plain (λ _. param 0 A)) (λ _. tt)) yes, (stay_dropped (plain (λ _. S)) yes, (stay_dropped (plain (λ _. usize)) yes, (stay_dropped (plain (λ _. P)) yes, (stay_dropped (plain (λ _. R (param 0 A) g)) no, tt)))))

pub deallocate_spec : {M : Type 1} → statement M
deallocate_spec 𝓤 𝓛 𝓜 𝓡 wired A L g d dd met md =
    let E = f.ended A g d dd in let c = f.clauses A g d dd 𝓛 𝓜.mem 𝓡.returns in let W = walk_of 𝓛 E (stayed A g d dd) c in
    let 𝓣 = tables 𝓤 𝓛.H 𝓜 𝓡 𝓡.env in
    let args : Args = bounded (a_type ∷ []) (A, tt) (dcons d (dcons dd dnil)) in
    let fn : Fn = inst_fn args code.function in
    let Y : Al = record { row = A; laws = L; g = g; d = d; drops = dd } in
    let Z : RattleType = param 0 A in
    let right_of = right Z g (param_laws 0 A L) in
    proved 𝓛 E (stayed A g d dd) c 𝓜 𝓡 (
      Goes-dropped 𝓛 2 (RefOf (0 ∷ []) tt (plain (λ _. Z)) (λ _. tt)) yes (λ κs x w. refl),
      (
        Goes-dropped 𝓛 2 (plain (λ _. S)) yes (λ κs x w. refl),
        (
          Goes-dropped 𝓛 2 (plain (λ _. usize)) yes (λ κs x w. refl),
          (Goes-blank 𝓛 2 (plain (λ _. P)) yes (λ κs x w. tt), (Goes-blank 𝓛 2 (plain (λ _. R Z g)) no (λ κs x w. tt), tt)),
        ),
      ),
    )
    (f.Key.name args) fn (code.unfolded 𝓤 𝓛.H 𝓜 𝓡 wired (A, tt) d dd)
    (λ κs. (shr_vals, ((λ s. start.lowered s ∷ []), (uint_vals w64, ((λ s. places.lowered s ∷ []), ((λ s. right_of.lowered s ∷ []), tt))))))
    (λ κs. (shr_Tells (named 0) κs.0 Z, (start.val_is, (uint_Tells w64, (places.val_is, (right_of.val_is, tt)))))) (λ κs qs bounds a _ are.
    let κ : Lft = κs.0 in let q : Share = qs.0 in let h = a.0.now in let handle = a.0.ref_ptr in let from = a.1.0 in let n = a.1.1.0 in let p = a.1.1.1.0 in let k = a.1.1.1.1.0 in
    let y : W.Ghost = ((κs, qs, bounds, a, (shr_vals a.0, (start.lowered from ∷ [], (uint_vals w64 n, (places.lowered p ∷ [], (right_of.lowered k ∷ [], tt)))))), tt) in
    let τ : Ty = bytes_type n in
    let Asked : Type 0 = (p.first ≡ from.first) × (length p.written + p.unwritten ≡ n) × (k.first ≡ from.first) × (k.count ≡ n) × (k.from ≡ h) in
    qed 𝓛 (((‵ (flft κ q) ⊛ ‵ (flft κs.1.0 qs.1.0) ⊛ ‵ ftrue) ⊛ ‵ (owns (ShrRef (named 0) κ Z ∷ S ∷ usize ∷ P ∷ R Z g ∷ []) a y.0.4)) ∷ (raw (fact 𝓤 (κs.1.0 ⊑ A.lives)) ⊛ raw (fact 𝓤 Asked)) ∷ []) ∵
    move ! (1 ∷ []) $ split ! $ heard ! (κs.1.0 ⊑ A.lives) (λ le. heard ! Asked (λ asked. split ! $ split ! $ move ! (2 ∷ []) $ fsplit ! $ fsplit ! $ drop ! $
    move ! (1 ∷ []) $ fsplit ! $ drop ! $ fsplit ! $ drop ! $ fsplit ! $ fsplit ! $ drop ! $ move ! (1 ∷ []) $ fsplit ! $ fsplit ! $ drop ! $ keep ! (2 ∷ 0 ∷ 3 ∷ 4 ∷ 5 ∷ []) $
    in_a_block ! p.first (λ x. places_owned x p.written p.unwritten) (id⊢ 𝓤 (never 𝓤)) (λ b o e. fsplit ! $ flt_l ! (λ few. fsplit ! $
    let fits : n < 2 ^ 64 = are.1.1.0.1 in
    let gives = at_gives Y 𝓛 𝓜.mem 𝓡.returns κ q handle h b o n 1 τ in
    use2 𝓛 (‵ (froom τ b o)) (room_again 𝓛 b p.written p.unwritten n o (length p.written + o) refl (sym asked.1)) $ move ! (1 ∷ []) $
    rewrite ! 0 (λ (u : A.Denot × Ptr × ℕ). ‵ (right_owned (g.dealloc_token u.0) u.1 u.2)) (λ i. (asked.4 i, (asked.2 ∙ sym asked.0 ∙ e) i, asked.3 i)) refl $ move ! (1 ∷ 0 ∷ []) $
    -- [the room; the token; the `&` to the allocator; its lifetime's token; the others]
    enter ! _ _ _ _ _ $ alloc_all ! (λ l. pass_all ! refl ((tt, tt), (word-Good [] from.first, ((tt, record { fits = fits }), ((tt, tt), ((tt, (tt, tt)), tt))))) $
    let En : Env 𝓤 𝓛.H = env fn.locals l in
    take_at ! 2 $ rewrite ! 0 (λ (x : Ptr). ‵ (fat full_share (layout S) (l 2) 0 (word x))) (sym asked.0 ∙ e) refl $ give_at ! 2 $
    first ! $ blocks ! $ group ! 4 $
    use1 𝓛 (raw ((Gives Y 𝓛 𝓜.mem 𝓡.returns).pre gives))
    (Gives-goes Y 𝓛 𝓜.mem 𝓡.returns κ q handle h (⊑_trans κ κs.1.0 A.lives bounds.0 le) b o n 1 τ (capped_is (n * 1) (omega arith) ∙ omega arith) refl fits (lit< tt)) $
    calls_at_last ! (fm 𝓛 𝓜 𝓡) (Gives Y 𝓛 𝓜.mem 𝓡.returns) (met.deallocate dd) gives
    (and_then ! (get ! refl) (and_then ! (get_in ! (fld ! refl (stop !)) (sub ! 0 refl (whole !))) (and_then ! (get ! refl) (and_then ! (lit ! tt) (no_more !))))) (λ v.
    use1 𝓛 (later (given (v ≡ vunit) (‵ (flft κ q)))) (Gives-Gives Y 𝓛 𝓜.mem 𝓡.returns κ q handle h b o n 1 τ v) $ await ! tt $ learn ! (λ is_unit.
    lands_last ! refl (subst (λ (u : Val). T (has_ty ty_unit u) × WT u) (sym is_unit) (tt, tt)) $ exec ! 𝓣.C 𝓣.Λ En (after 1 fn.body) (at_ret En (W.post y)) $
    sets ! (of_opd ! (unit_lit !)) refl (tt, tt) $ returns ! (look_at ! 0 refl) $ free_all ! refl $ keep ! (0 ∷ 1 ∷ []) $
    suffices ! _ (ends_at 𝓛 E (stayed A g d dd) c y vunit tt (tt, (tt, (tt, (tt, (tt, tt))))) (tt, (tt, (tt, (tt, (tt, tt)))))) $ join ! $
    feq_i ! (List Val) (vunit ∷ []) (vunit ∷ []) refl $ nothing ! $ nothing ! $ fjoin ! $ nothing ! $ fjoin ! $ nothing ! $ fjoin ! $ nothing ! $ fjoin ! $ nothing ! $ fjoin ! $ join ! $
    move ! (1 ∷ 0 ∷ []) $ join ! $ nothing ! $ move ! (1 ∷ 0 ∷ []) $ done !))))))))
