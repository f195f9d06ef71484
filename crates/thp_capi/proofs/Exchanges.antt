-- The walk of `exchange`, once for all handles that C sees. They differ in the struct's name, in the record of its values, and in what they hold. Assumes `Logic`.
use Rattle.std.proofs.Common.{◌≡◌, ℕ, List, [], ◌∷◌, ◌++◌, refl, sym, subst, Option}
use seplogic.Ra.Ura.{Ura}
use mir.Syntax.{Body, Callee, Fn, Place, Step, Sym, Ty, assign, aggregate, copy, deref, field, local, mut, named, place, return, rv_opd, seq, tcons, tnil, ty_int, ty_named, ty_ptr, ty_ref, ty_struct, value_local, w32}
use mir.Val.{Val, vptr}
use base.Logic.{SProp, ent, emp, id⊢, sep}
use base.Fml.{ftrue, flft}
use base.Fraction.{full_share}
use prog.Model.{Model}
use prog.Wp.{WpFn, Closed}
use types.Logic.{Logic}
use types.Kit.{‵, raw, ◌⊛◌, ◌$◌, ◌∵◌, !, qed, by, move, keep, split, join, fsplit3, fjoin, fjoin3, feq_l, feq_i, suffices, use0, rewrite}
use types.Run.{stop, fld, load, of_opd, no_more, and_then, assigns, returns, enter}
use types.ByLocal.{alloc_all, pass_all, free_all, look_at, get, get_in, through, sets}
use types.Part.{agg, sub, whole, look_in, store_in}
use contract.Monad.{fact, fact_i}
use contract.Running.{Running, tables}
use denote.Builtin.{RefMutOf}
use denote.Exit.{yes}
use denote.Memory.{cell_at}
use denote.RattleType.{RattleType, owns}
use denote.RawPtr.{Ptr}
use denote.Signature.{types_at, plain}
use denote.Steps.{nothing, opens, closes}
use denote.Struct.Field.{RawPtr-field, u32-field}
use denote.Struct.Owning.{Owning, row}
use denote.Triple.Clauses.{Clauses, Ended, closing}
use denote.Triple.Spec.{Meets}
use denote.Triple.Walked.{Stays, stay_dropped, stay_ref, walk_of, Goes-dropped, Goes-ref}
use Rattle.std.proofs.raw_atomic.Walks.{proved_at, leaves}
use Rattle.std_alloc.proofs.RcSteps.{Ptr-Good}
use Rattle.thp_capi.specs.Handles.{handle_owns}
use Rattle.thp_capi.specs.contracts.handle.Handle as handle
use Rattle.thp_capi.proofs.Handles.{words, words_good, handle_at, handle_out, handle_in}

-- a handle that C sees: a struct of a pointer and a mark, which holds a value of R or nothing
pub record Seen : Type 2 where
  pub R : RattleType
  pub type : Owning
  pub at : type.D → Ptr
  pub live : type.D → ℕ
  pub held : type.D → Option R.Denot
  pub make : Ptr → ℕ → Option R.Denot → type.D
  pub at_is : (p : Ptr) (n : ℕ) (v : Option R.Denot) → p ≡ at (make p n v)
  pub live_is : (p : Ptr) (n : ℕ) (v : Option R.Denot) → n ≡ live (make p n v)
  pub held_is : (p : Ptr) (n : ℕ) (v : Option R.Denot) → v ≡ held (make p n v)

module _ (X : Seen) where
  abbrev S : RattleType
  S = row (record { name = X.type.name; args = []; types = []; parts = RawPtr-field ∷ u32-field ∷ []; D = X.type.D; as_values = λ d. (X.at d, (X.live d, tt)); coded = X.type.coded; heap = λ d. handle_owns X.R (X.at d) (X.live d) (X.held d); exit = X.type.exit; shr_at = X.type.shr_at })

  abbrev C : RattleType
  C = handle.the_row X.R

  -- ---- the function and its contract
  abbrev laid : Sym → Ty
  laid ν = ty_struct ν (tcons ty_ptr (tcons (ty_int w32) tnil))

  abbrev own : Ty
  own = laid (handle.the_type X.R).name

  abbrev behind : Step → Place
  behind s = place 1 (deref (laid X.type.name) ∷ s ∷ [])

  abbrev sets_to : Place → Place → Body
  sets_to to from = assign to (rv_opd (copy from))

  abbrev pub function : Fn
  function = record {
    lifetimes = 1;
    outlives = [];
    ty_params = [];
    givens = 0;
    params = 2;
    locals = local own value_local ∷ local (ty_ref (named 0) mut (ty_named (X.type.name, []) tnil)) value_local ∷ local own value_local ∷ local ty_ptr value_local ∷ local (ty_int w32) value_local
        ∷ local own value_local ∷ local ty_ptr value_local ∷ local ty_ptr value_local ∷ local (ty_int w32) value_local ∷ [];
    body = seq (sets_to (place 3 []) (place 2 (field 0 ∷ []))) (seq (sets_to (place 4 []) (place 2 (field 1 ∷ [])))
        (seq (sets_to (place 6 []) (behind (field 0))) (seq (sets_to (place 7 []) (place 6 [])) (seq (sets_to (place 8 []) (behind (field 1)))
        (seq (assign (place 5 []) (aggregate (copy (place 7 []) ∷ copy (place 8 []) ∷ [])))
        (seq (sets_to (place 6 []) (place 3 [])) (seq (sets_to (behind (field 0)) (place 6 [])) (seq (sets_to (behind (field 1)) (place 4 []))
        (seq (sets_to (place 0 []) (place 5 [])) return)))))))));
  }

  abbrev pub ended : Ended
  ended = record { signature = record { lifetimes = 1; outlives = []; params = RefMutOf (0 ∷ []) tt (plain (λ _. S)) (λ _. tt) ∷ plain (λ _. C) ∷ []; result = plain (λ _. C) }; kept = (yes, (yes, tt)) }

  abbrev pub clauses : {M : Type 1} (𝓤 : Ura M) → Clauses 𝓤 ended
  clauses 𝓤 κs a = record { ghost = Unit {0}; requires = λ g. emp 𝓤; ensures = λ g r w. sep 𝓤 (fact 𝓤 (r.held ≡ X.held a.0.now)) (fact 𝓤 (X.held w.0.now ≡ a.1.0.held)) }

  pub exchanged : {M : Type 1} (𝓤 : Ura M) (𝓛 : Logic 𝓤) (𝓜 : Model 𝓤 𝓛.H) (𝓡 : Running 𝓤 𝓛.H 𝓜) (k : Callee)
      → Closed 𝓤 𝓛.H (tables 𝓤 𝓛.H 𝓜 𝓡 𝓡.env).C (tables 𝓤 𝓛.H 𝓜 𝓡 𝓡.env).Λ k function → Meets 𝓛 ended.signature ((tables 𝓤 𝓛.H 𝓜 𝓡 𝓡.env).C k) (closing 𝓛 ended (clauses 𝓤))
  exchanged 𝓤 𝓛 𝓜 𝓡 k unfolded =
      let R = X.R in let H = 𝓛.H in let 𝓣 = tables 𝓤 H 𝓜 𝓡 𝓡.env in let c = clauses 𝓤 in
      let hs : Stays ended.signature.params ended.kept = (stay_ref (0 ∷ []) tt (plain (λ _. S)), (stay_dropped (plain (λ _. C)) yes, tt)) in
      proved_at 𝓛 ended hs c 𝓜 𝓡 (Goes-ref 𝓛 1 0 tt (plain (λ _. S)), (Goes-dropped 𝓛 1 (plain (λ _. C)) yes (λ κs x f. refl), tt)) k function unfolded (λ z are.
      let κs = z.0.0 in let qs = z.0.1 in let r = z.0.3.0 in let b = r.ref_ptr.0 in let o = r.ref_ptr.1 in let old = r.now in let new = z.0.3.1.0 in
      let Post : Val → SProp 𝓤 = (walk_of 𝓛 ended hs c).post z in let Run : List Val → SProp 𝓤 = λ ws. WpFn 𝓤 H 𝓣.C 𝓣.Λ function ws Post in
      let w : Val = words new.at new.live in let out : Val = words (X.at old) (X.live old) in
      let now : X.type.D = X.make new.at new.live new.held in let was : C.Denot = record { at = X.at old; live = X.live old; held = X.held old } in let kept : X.held now ≡ new.held = sym (X.held_is new.at new.live new.held) in
      qed 𝓛 (((‵ (flft κs.0 qs.0) ⊛ ‵ ftrue) ⊛ ‵ (owns (types_at ended.signature.params κs) z.0.3 z.0.4)) ∷ raw ((c κs z.0.3).requires z.1) ∷ []) ∵
      split ! $ split ! $ move ! (2 ∷ []) $ fsplit3 ! $ fsplit3 ! $ feq_l ! (λ e. move ! (2 ∷ []) $ handle_out R ! new.at new.live new.held z.0.4.1.0 (λ ws small flagged.
      -- [what the new one owns; two parts of self; true; the token]
      suffices ! (Run (vptr b o ∷ w ∷ [])) (subst (λ (us : List Val). ent 𝓤 (Run (vptr b o ∷ w ∷ [])) (Run us)) (sym (λ i. e i ++ (ws i ++ []))) (id⊢ 𝓤 (Run (vptr b o ∷ w ∷ [])))) $
      enter ! 𝓣.C 𝓣.Λ function (vptr b o ∷ w ∷ []) Post $ alloc_all ! (λ l. pass_all ! refl ((tt, tt), (words_good [] new.at new.live small, tt)) $
      move ! (1 ∷ 2 ∷ 4 ∷ []) $ opens ! tt S b o (λ us. move ! (1 ∷ []) $ handle_out R ! (X.at old) (X.live old) (X.held old) us (λ vs fits marked.
      -- [what the old one owns; its cell; the open borrow, in three entries; what the new one owns]
      rewrite ! 1 (λ (xs : List Val). ‵ (cell_at full_share S.mir xs b o)) vs refl $
      sets ! (of_opd ! (get_in ! (fld ! refl (stop !)) (sub ! 0 refl (whole !)))) refl (Ptr-Good new.at) $
      sets ! (of_opd ! (get_in ! (fld ! refl (stop !)) (sub ! 1 refl (whole !)))) refl (tt, record { fits = small }) $
      sets ! (of_opd ! (load ! (through ! refl (fld ! refl (stop !))) (look_in ! 1 (sub ! 0 refl (whole !))))) refl (Ptr-Good (X.at old)) $
      sets ! (of_opd ! (get ! refl)) refl (Ptr-Good (X.at old)) $
      sets ! (of_opd ! (load ! (through ! refl (fld ! refl (stop !))) (look_in ! 1 (sub ! 1 refl (whole !))))) refl (tt, record { fits = fits }) $
      sets ! (agg ! (and_then ! (get ! refl) (and_then ! (get ! refl) (no_more !)))) refl (words_good [] (X.at old) (X.live old) fits) $
      sets ! (of_opd ! (get ! refl)) refl (Ptr-Good new.at) $
      assigns ! (of_opd ! (get ! refl)) (through ! refl (fld ! refl (stop !))) (store_in ! 1 (sub ! 0 refl (whole !)) (Ptr-Good new.at)) $
      assigns ! (of_opd ! (get ! refl)) (through ! refl (fld ! refl (stop !))) (store_in ! 1 (sub ! 1 refl (whole !)) (tt, record { fits = small })) $
      sets ! (of_opd ! (get ! refl)) refl (words_good [] (X.at old) (X.live old) fits) $
      move ! (5 ∷ []) $ handle_in R ! new.at new.live new.held small flagged $
      rewrite ! 0 (λ (p : Ptr). ‵ (handle_at R p new.live new.held (w ∷ []))) (X.at_is new.at new.live new.held) refl $
      rewrite ! 0 (λ (n : ℕ). ‵ (handle_at R (X.at now) n new.held (w ∷ []))) (X.live_is new.at new.live new.held) refl $
      rewrite ! 0 (λ (v : Option R.Denot). ‵ (handle_at R (X.at now) (X.live now) v (w ∷ []))) (X.held_is new.at new.live new.held) refl $
      move ! (2 ∷ 0 ∷ 3 ∷ 4 ∷ 5 ∷ []) $ closes ! tt S now (w ∷ []) b o $
      -- [two parts of self; the token; what the old one owns]
      returns ! (look_at ! 0 refl) $ free_all ! refl $ move ! (3 ∷ []) $ handle_in R ! (X.at old) (X.live old) (X.held old) fits marked $
      feq_i ! (List Val) z.0.4.0 (vptr b o ∷ []) e $ move ! (0 ∷ 2 ∷ 3 ∷ []) $ fjoin3 ! $ nothing ! $ nothing ! $ fjoin ! $ move ! (1 ∷ 0 ∷ []) $ fjoin ! $
      nothing ! $ move ! (3 ∷ 0 ∷ []) $ join ! $
      use0 𝓛 (raw (fact 𝓤 (X.held now ≡ new.held))) (fact_i 𝓤 (X.held now ≡ new.held) (emp 𝓤) kept) $ use0 𝓛 (raw (fact 𝓤 (was.held ≡ X.held old))) (fact_i 𝓤 (was.held ≡ X.held old) (emp 𝓤) refl) $ join ! $
      keep ! (1 ∷ 2 ∷ 3 ∷ 0 ∷ []) $ by ! (leaves 𝓛 ended hs c z out was (now, (tt, tt)) (tt, (tt, tt)))))))))
