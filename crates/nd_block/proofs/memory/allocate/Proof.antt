-- `allocate` takes the block as places that are not written, and keeps the right to free it. Assumes `Logic`.
use Rattle.std.proofs.Common.{◌≡◌, ℕ, ◌+◌, ◌*◌, ◌^◌, ◌<◌, [], ◌∷◌, length, refl, ◌∙◌, arith, lit<, w64, Ok, Err, true, false}
use Rattle.std.proofs.raw_atomic.Walks.{proved}
use Rattle.core.proofs.alloc.Calls.{Al, Answer-typed, Takes, at_takes, Answered, Takes-goes, Takes-gives, answers}
use Rattle.core.proofs.alloc.Shapes.{after, head, arm_body}
use Rattle.core.proofs.atomic.Steps.{fm}
use Rattle.core.specs.declared.alloc.Allocator.{Ghosts}
use Rattle.core.specs.contracts.result.Result as result
use Rattle.core.specs.contracts.alloc.AllocError as error
use Rattle.std_alloc.proofs.ResultValues.{ok_of, err_of}
use base.Fml.{Lft, Share, ftrue, flft, froom}
use prog.Capped.{capped_is}
use prog.Wp.{Env, Wp, after_seq, at_return}
use mir.Syntax.{Ty, Fn, Args, Dict, a_type, dcons, dnil, named}
use mir.Val.{Val, vstruct, vcons, vnil}
use mir.MapTy.{inst_fn}
use contract.BorrowLft.{◌⊑◌, ⊑_trans}
use contract.Monad.{fact}
use contract.Running.{tables}
use types.Kit.{Post, any_q, ‵, raw, later, ◌⊛◌, at_ret, ◌$◌, ◌∵◌, !, qed, done, move, keep, drop, use0, use1, use2, use3, await, split, join, fsplit, fjoin, flt_i, rewrite, suffices, frame}
use types.Match.{live, vrt, in_variant}
use types.Part.{whole, agg}
use types.Run.{enter, of_opd, lit, stop, fld, no_more, and_then, first, switches_on, exec, returns}
use types.ByLocal.{alloc_all, pass_all, free_all, look_at, get, get_in, get_tag, sets, sets_last, lands_as, env}
use denote.Builtin.{usize, RefOf}
use denote.Exit.{yes}
use denote.Laws.{Is}
use denote.Param.{param, bounded}
use denote.Plain.{uint_vals, uint_Tells}
use denote.RattleType.{RattleType, owns}
use denote.RawPtr.{Ptr, block_ptr}
use denote.Ref.{ShrRef, shr_vals, shr_Tells}
use denote.Signature.{plain}
use denote.Steps.{nothing, heard, owned}
use denote.Struct.Struct.{Struct, Struct-Makes}
use denote.Struct.Declared as Declared
use denote.Struct.Owning.{shape}
use denote.Struct.Tuple.{Tuple}
use denote.Triple.Call.{calls_at}
use denote.Triple.Walked.{Stays, walk_of, says, stay_dropped, Goes-dropped, ends_at}
use Rattle.nd_block.specs.Ownership.{bytes_type}
use Rattle.nd_block.specs.contracts.memory.Places.{the_row as P, the_type as places_type}
use Rattle.nd_block.specs.contracts.memory.Start.{the_row as S}
use Rattle.nd_block.specs.contracts.memory.Right.{the_row as R, the_type as right_type}
use Rattle.nd_block.specs.contracts.memory.allocate as f
use Rattle.nd_block.proofs.Steps.{start_val, places_val, right_val, three_val, start_made, places_made, right_made, three_made}
use Rattle.nd_block.proofs.memory.allocate.Statement.{statement}
use Rattle.nd_block.proofs.memory.allocate.Code as code

module _ (A : RattleType) (g : Ghosts A.Denot) (d dd : Dict) where
  abbrev stayed : Stays (f.ended A g d dd).signature.params (f.ended A g d dd).kept
  stayed = (stay_dropped (RefOf (0 ∷ []) tt (plain (λ _. param 0 A)) (λ _. tt)) yes, (stay_dropped (plain (λ _. usize)) yes, tt))

pub allocate_spec : {M : Type 1} → statement M
allocate_spec 𝓤 𝓛 𝓜 𝓡 wired A L g d dd met md =
    let E = f.ended A g d dd in let c = f.clauses A g d dd 𝓛 𝓜.mem 𝓡.returns in let W = walk_of 𝓛 E (stayed A g d dd) c in
    let 𝓣 = tables 𝓤 𝓛.H 𝓜 𝓡 𝓡.env in
    let args : Args = bounded (a_type ∷ []) (A, tt) (dcons d (dcons dd dnil)) in
    let fn : Fn = inst_fn args code.function in
    let Y : Al = record { row = A; laws = L; g = g; d = d; drops = dd } in
    let Z : RattleType = param 0 A in
    proved 𝓛 E (stayed A g d dd) c 𝓜 𝓡
    (Goes-dropped 𝓛 2 (RefOf (0 ∷ []) tt (plain (λ _. Z)) (λ _. tt)) yes (λ κs x w. refl), (Goes-dropped 𝓛 2 (plain (λ _. usize)) yes (λ κs x w. refl), tt))
    (f.Key.name args) fn (code.unfolded 𝓤 𝓛.H 𝓜 𝓡 wired (A, tt) d dd)
    (λ κs. (shr_vals, (uint_vals w64, tt))) (λ κs. (shr_Tells (named 0) κs.0 Z, (uint_Tells w64, tt))) (λ κs qs bounds a _ are.
    let κ : Lft = κs.0 in let q : Share = qs.0 in let h = a.0.now in let handle = a.0.ref_ptr in let n = a.1.0 in
    let y : W.Ghost = ((κs, qs, bounds, a, (shr_vals a.0, (uint_vals w64 n, tt))), tt) in
    let τ : Ty = bytes_type n in
    let Three : RattleType = Tuple (S ∷ P ∷ R Z g ∷ []) in let Out : RattleType = result.the_row Three error.the_row in
    let asks = at_takes Y 𝓛 𝓜.mem 𝓡.returns κ q handle h n 1 τ in
    let Asked : Type 0 = n < 2 ^ 63 in
    qed 𝓛 (((‵ (flft κ q) ⊛ ‵ (flft κs.1.0 qs.1.0) ⊛ ‵ ftrue) ⊛ ‵ (owns (ShrRef (named 0) κ Z ∷ usize ∷ []) a y.0.4)) ∷ (raw (fact 𝓤 (κs.1.0 ⊑ A.lives)) ⊛ raw (fact 𝓤 Asked)) ∷ []) ∵
    move ! (1 ∷ []) $ split ! $ heard ! (κs.1.0 ⊑ A.lives) (λ le. heard ! Asked (λ few. split ! $ split ! $ move ! (2 ∷ []) $ fsplit ! $ fsplit ! $ drop ! $ keep ! (0 ∷ 2 ∷ 3 ∷ []) $
    let fits : n < 2 ^ 64 = are.1.0.1 in
    enter ! _ _ _ _ _ $ alloc_all ! (λ l. pass_all ! refl ((tt, tt), ((tt, record { fits = fits }), tt)) $
    let En : Env 𝓤 𝓛.H = env fn.locals l in
    let then : Post 𝓤 𝓛.H = any_q (after_seq 𝓤 𝓛.H (Wp 𝓤 𝓛.H 𝓣.C 𝓣.Λ En (after 2 fn.body) (at_return 𝓤 𝓛.H En (W.post y))) (at_return 𝓤 𝓛.H En (W.post y))) in
    use2 𝓛 (raw ((Takes Y 𝓛 𝓜.mem 𝓡.returns).pre asks))
    (Takes-goes Y 𝓛 𝓜.mem 𝓡.returns κ q handle h (⊑_trans κ κs.1.0 A.lives bounds.0 le) n 1 τ (capped_is (n * 1) (omega arith) ∙ omega arith) refl fits (lit< tt)) $
    calls_at ! (fm 𝓛 𝓜 𝓡) (Takes Y 𝓛 𝓜.mem 𝓡.returns) (met.allocate dd) asks (and_then ! (get ! refl) (and_then ! (get ! refl) (and_then ! (lit ! tt) (no_more !)))) (λ v.
    use1 𝓛 (later (raw (Answered Y 𝓛 𝓜.mem 𝓡.returns h τ v) ⊛ ‵ (flft κ q))) (Takes-gives Y 𝓛 𝓜.mem 𝓡.returns κ q handle h n 1 τ v) $ await ! tt $ split ! $
    answers Y ! 𝓜.mem 𝓡.returns h τ v
    (λ b o e.
    let p : Ptr = block_ptr b o in
    lands_as ! e refl (Answer-typed true b o) $ first ! $ switches_on ! (get_tag ! (vrt ! refl (fld ! refl (stop !))) (whole !)) $ exec ! 𝓣.C 𝓣.Λ En (arm_body 0 (head (after 1 fn.body))) then $
    sets ! (of_opd ! (get_in ! (vrt ! refl (fld ! refl (stop !))) (in_variant ! 0 0 refl refl (whole !)))) refl (tt, tt) $
    sets ! (agg ! (and_then ! (get ! refl) (no_more !))) refl (tt, (tt, tt)) $
    sets ! (agg ! (no_more !)) refl (tt, tt) $
    sets ! (agg ! (no_more !)) refl (tt, tt) $
    sets ! (agg ! (and_then ! (get ! refl) (no_more !))) refl (tt, (tt, tt)) $
    sets ! (agg ! (and_then ! (get ! refl) (and_then ! (get ! refl) (and_then ! (get ! refl) (no_more !))))) refl (tt, ((tt, tt), (tt, ((tt, tt), tt)))) $
    sets_last ! (agg ! (and_then ! (lit ! tt) (and_then ! (get ! refl) (no_more !)))) refl (tt, (record { fits = lit< tt }, (((tt, tt), (tt, ((tt, tt), tt))), tt))) $
    exec ! 𝓣.C 𝓣.Λ En (after 2 fn.body) (at_ret En (W.post y)) $
    sets ! (of_opd ! (get ! refl)) refl (tt, (record { fits = lit< tt }, (((tt, tt), (tt, ((tt, tt), tt))), tt))) $
    -- [the room; the token; the lifetime's token; the others; ..]
    let start : S.Denot = record { first = p } in let places : P.Denot = record { first = p; written = []; unwritten = n } in let right : (R Z g).Denot = record { mark = record {}; first = p; count = n; from = h } in
    let made : Val = three_val (start_val p) places_val right_val in
    let here : o ≡ length places.written + o = omega arith in
    move ! (1 ∷ []) $ use0 𝓛 (‵ ((Struct (shape (right_type Z g))).own_val (tt, tt) (right_val ∷ []))) (right_made 𝓛) $ fjoin ! $
    move ! (1 ∷ []) $ rewrite ! 0 (λ (k : ℕ). ‵ (froom τ b k)) here refl $ nothing ! $ fjoin ! $ flt_i ! (length places.written + n) (2 ^ 63) (omega arith) $ fjoin ! $
    use0 𝓛 (‵ ((Struct (shape places_type)).own_val tt (places_val ∷ []))) (places_made 𝓛) $ fjoin ! $
    use0 𝓛 (‵ (S.own_val start (start_val p ∷ []))) (start_made 𝓛 p) $
    use3 𝓛 (‵ (Three.own_val (start, places, right) (made ∷ []))) (three_made 𝓛 S P (R Z g) start places right (start_val p) places_val right_val) $
    use1 𝓛 (‵ (Out.own_val (Ok (start, places, right)) (live 0 (vcons made vnil) ∷ []))) (ok_of 𝓛 Three error.the_row (start, places, right) made) $
    returns ! (look_at ! 0 refl) $ free_all ! refl $ keep ! (0 ∷ 1 ∷ 2 ∷ []) $
    suffices ! _ (ends_at 𝓛 E (stayed A g d dd) c y (live 0 (vcons made vnil)) (Ok (start, places, right)) (tt, (tt, tt)) (tt, (tt, tt))) $ says ! (refl, refl, refl, refl, refl, refl) $
    move ! (1 ∷ 2 ∷ []) $ join ! $ frame ! $ nothing ! $ nothing ! $ fjoin ! $ nothing ! $ fjoin ! $ done !)
    (λ e.
    let Refusal : RattleType = Struct (Declared.shape error.the_type) in
    let none : Val = live 1 (vcons (vstruct vnil) vnil) in
    lands_as ! e refl (Answer-typed false 0 0) $ first ! $ switches_on ! (get_tag ! (vrt ! refl (fld ! refl (stop !))) (whole !)) $ exec ! 𝓣.C 𝓣.Λ En (arm_body 1 (head (after 1 fn.body))) then $
    sets ! (of_opd ! (get_in ! (vrt ! refl (fld ! refl (stop !))) (in_variant ! 1 0 refl refl (whole !)))) refl (tt, tt) $
    sets_last ! (agg ! (and_then ! (lit ! tt) (and_then ! (get ! refl) (no_more !)))) refl (tt, (record { fits = lit< tt }, (tt, tt))) $
    exec ! 𝓣.C 𝓣.Λ En (after 2 fn.body) (at_ret En (W.post y)) $
    sets ! (of_opd ! (get ! refl)) refl (tt, (record { fits = lit< tt }, (tt, tt))) $
    owned ! Refusal (Is Refusal) (Struct-Makes 𝓛 (Declared.shape error.the_type) tt) tt (vstruct vnil ∷ []) (tt, (refl, tt)) $
    use1 𝓛 (‵ (Out.own_val (Err (record {})) (none ∷ []))) (err_of 𝓛 Three error.the_row (record {}) (vstruct vnil)) $
    returns ! (look_at ! 0 refl) $ free_all ! refl $ keep ! (0 ∷ 1 ∷ 2 ∷ []) $
    suffices ! _ (ends_at 𝓛 E (stayed A g d dd) c y none (Err (record {})) (tt, (tt, tt)) (tt, (tt, tt))) $ says ! tt $
    move ! (1 ∷ 2 ∷ []) $ join ! $ frame ! $ nothing ! $ nothing ! $ fjoin ! $ nothing ! $ fjoin ! $ done !))))))
