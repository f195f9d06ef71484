-- `is_full` reads whether the handle holds something.
use Rattle.std.proofs.Common.{ℕ, List, [], ◌∷◌, refl, ap, ◌∙◌, eqb}
use mathlib.Core.Bool.{Bool}
use mir.Syntax.{a_type, named}
use mir.MapTy.{inst_fn}
use mir.Val.{Val, vbool}
use base.Fml.{ftrue, flft, fsep}
use base.Fraction.{full_share}
use types.Kit.{‵, raw, ◌⊛◌, ◌$◌, ◌∵◌, !, qed, done, move, keep, split, join, fsplit3, feq_i, rewrite, suffices, frame, group}
use types.Run.{enter, of_opd, lit, bin, load, stop, fld, returns}
use types.ByLocal.{alloc_all, pass_all, free_all, look_at, get, through, sets}
use types.Part.{whole, sub, look_in}
use denote.Memory.{cell_at}
use denote.Ref.{MutRef, mut_vals, mut_Tells}
use denote.Param.{param, layouts}
use denote.RattleType.{RattleType}
use denote.Signature.{plain}
use denote.Steps.{nothing, opens, closes}
use denote.Triple.Walked.{Stays, stay_ref, Goes-ref, walk_of, ends_at}
use Rattle.std.proofs.mem.Facts.{says_two}
use Rattle.std.proofs.raw_atomic.Walks.{proved}
use Rattle.thp_capi.proofs.Handles.{words, handle_out, handle_in, eqb-flag}
use Rattle.thp_capi.specs.contracts.handle.Handle as handle
use Rattle.thp_capi.specs.contracts.handle.Handle.is_full.{ended, clauses}
use Rattle.thp_capi.specs.contracts.handle.Handle.is_full.Key.{name as #self}
use Rattle.thp_capi.proofs.handle.Handle.is_full.Statement.{statement}
use Rattle.thp_capi.proofs.handle.Handle.is_full.Code as code

pub is_full_spec : {M : Type 1} → statement M
is_full_spec 𝓤 𝓛 𝓜 𝓡 wired T L =
    let c = clauses T 𝓛 𝓜.mem 𝓡.returns in let En = ended T in let inst = layouts (a_type ∷ []) (T, tt) in let R : RattleType = param 0 T in let S : RattleType = handle.the_row R in
    let stayed : Stays En.signature.params En.kept = (stay_ref (0 ∷ []) tt (plain (λ _. S)), tt) in let W = walk_of 𝓛 En stayed c in
    proved 𝓛 En stayed c 𝓜 𝓡 (Goes-ref 𝓛 2 0 tt (plain (λ _. S)), tt)
    (#self inst) (inst_fn inst code.function) (code.unfolded 𝓤 𝓛.H 𝓜 𝓡 wired (T, tt))
    (λ κs. (mut_vals, tt)) (λ κs. (mut_Tells (named 0) κs.0 S, tt)) (λ κs qs bounds a _ are.
    let b = a.0.ref_ptr.0 in let o = a.0.ref_ptr.1 in let h = a.0.now in let vs = mut_vals a.0 in
    let y : W.Ghost = ((κs, qs, bounds, a, (vs, tt)), tt) in let r : Bool = eqb h.live 1 in
    let w : Val = words h.at h.live in
    qed 𝓛 (((‵ (flft κs.0 qs.0) ⊛ ‵ (fsep (flft κs.1.0 qs.1.0) ftrue)) ⊛ ‵ ((MutRef (named 0) κs.0 S).own_val a.0 vs) ⊛ ‵ ftrue) ∷ raw ((c κs a).requires tt) ∷ []) ∵
    split ! $ split ! $ move ! (2 ∷ []) $ split ! $ keep ! (0 ∷ 2 ∷ 3 ∷ []) $
    enter ! _ _ _ _ _ $ alloc_all ! (λ l. pass_all ! refl ((tt, tt), tt) $
    fsplit3 ! $ move ! (1 ∷ 2 ∷ 3 ∷ []) $ opens ! tt S b o (λ us. move ! (1 ∷ []) $ handle_out R ! h.at h.live h.held us (λ ws small flagged.
    -- [what the handle owns; its cell; the open borrow, in three entries]
    rewrite ! 1 (λ (xs : List Val). ‵ (cell_at full_share S.mir xs b o)) ws refl $
    sets ! (of_opd ! (load ! (through ! refl (fld ! refl (stop !))) (look_in ! 1 (sub ! 1 refl (whole !))))) refl (tt, record { fits = small }) $
    sets ! (bin ! (get ! refl) (lit ! tt) tt) refl (tt, tt) $
    handle_in R ! h.at h.live h.held small flagged $ move ! (1 ∷ []) $ closes ! tt S h (w ∷ []) b o $
    -- [two parts of self; its token; self's first part; the token of T]
    returns ! (look_at ! 0 refl) $ free_all ! refl $ move ! (3 ∷ []) $
    suffices ! _ (ends_at 𝓛 En stayed c y (vbool r) r (h, tt) (tt, tt)) $ says_two ! (refl, ap (λ (n : ℕ). eqb n 1) flagged ∙ eqb-flag h.held) $
    group ! 3 $ nothing ! $ move ! (1 ∷ 0 ∷ []) $ join ! $ move ! (1 ∷ 2 ∷ []) $ join ! $ frame ! $ frame ! $
    feq_i ! _ (vbool r ∷ []) _ refl $ done !))))
