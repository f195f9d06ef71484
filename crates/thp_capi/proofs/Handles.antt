-- The machine values of a handle: what is owned of one, taken apart and put together. Assumes `Logic`.
use Rattle.std.proofs.Common.{◌≡◌, ℕ, ◌<◌, ◌^◌, List, [], ◌∷◌, ◌++◌, refl, true≢false, Option, None, Some, IsSome, is_some, eqb}
use mathlib.Core.Path.{◌∙◌, sym}
use seplogic.Ra.Ura.{Ura}
use mir.Syntax.{Sym, ty_int, ty_ptr, ty_struct, w32}
use mir.Val.{Val, vint, vstruct, of_list}
use base.Fml.{Fml, fsep}
use types.Logic.{Logic}
use types.Kit.{Item, Goal, Seq, Step, step, ‵, ◌$◌, move, drop, fsplit, fjoin, fpick, fpack, feq_i, feq_l}
use denote.RattleType.{RattleType, Valss}
use denote.Builtin.{RawPtr, u32}
use denote.Laws.{Is, shows}
use denote.Plain.{uint_Makes}
use denote.RawPtr.{Ptr, ptr_val}
use denote.Steps.{nothing, owned, facts}
use denote.Struct.Struct.{Shape, Struct, within, to_tys, as_fields}
use Rattle.std.proofs.cell.Inside.{Good}
use Rattle.std_alloc.proofs.RcSteps.{Ptr-Good}
use Rattle.thp_capi.specs.Handles.{flag, boxed_at, handle_owns}
use Rattle.thp_capi.proofs.Values.{both}

-- the machine value of a handle
abbrev pub words : Ptr → ℕ → Val
words p n = both (ptr_val p) (vint w32 n)

-- it fits a struct of that layout, whatever the struct's name
pub words_good : (ν : Sym) (p : Ptr) (n : ℕ) → n < 2 ^ 32 → Good (ty_struct ν (to_tys (ty_ptr ∷ ty_int w32 ∷ []))) (words p n)
words_good ν p n small = as_fields (ty_ptr ∷ ty_int w32 ∷ []) (ptr_val p ∷ vint w32 n ∷ []) (Ptr-Good p, ((tt, record { fits = small }), tt))

abbrev plain_shape : Shape
plain_shape = record { name = []; args = []; types = []; fields = RawPtr ∷ u32 ∷ [] }

-- what is owned of a handle that holds v, the name of whose struct says nothing here
abbrev pub handle_at : (R : RattleType) → Ptr → ℕ → Option R.Denot → List Val → Fml
handle_at R p n v vs = fsep ((Struct plain_shape).own_val (p, (n, tt)) vs) (handle_owns R p n v)

module _ (R : RattleType) {M : Type 1} {𝓤 : Ura M} {𝓛 : Logic 𝓤} {K : Type 0} {Γ : List (Item 𝓤)} {G : Goal 𝓤 𝓛.H} where
  pub handle_out : K → (p : Ptr) (n : ℕ) (v : Option R.Denot) (vs : List Val)
      → (vs ≡ words p n ∷ [] → n < 2 ^ 32 → n ≡ flag v → Seq K 𝓛 (‵ (boxed_at R p v) ∷ Γ) G)
      → Seq K 𝓛 (‵ (handle_at R p n v vs) ∷ Γ) G
  handle_out t p n v vs k =
      fsplit t $ fpick t (λ vss. fsplit t $ feq_l t (λ ev. fsplit t $ feq_l t (λ ep. fsplit t $ facts t u32 (Is u32) (shows 𝓛 u32) n vss.1.0 (λ is. drop t $
      fsplit t $ feq_l t (λ ef. k
      (ev ∙ (λ i. vstruct (of_list (ep i ++ (is.0 i ++ []))) ∷ [])) is.1 ef)))))

  pub handle_in : K → (p : Ptr) (n : ℕ) (v : Option R.Denot) → n < 2 ^ 32 → n ≡ flag v
      → Step K 𝓛 (‵ (handle_at R p n v (words p n ∷ [])) ∷ Γ) G (‵ (boxed_at R p v) ∷ Γ) G
  handle_in t p n v small e = step (λ s. let w : Val = words p n in
      nothing t $ owned t u32 (Is u32) (uint_Makes 𝓛 w32) n (vint w32 n ∷ []) (refl, small) $ fjoin t $
      feq_i t (List Val) (ptr_val p ∷ []) (ptr_val p ∷ []) refl $ fjoin t $ feq_i t (List Val) (w ∷ []) (w ∷ []) refl $ fjoin t $
      fpack t (Valss (RawPtr ∷ u32 ∷ [])) (within plain_shape (p, (n, tt)) (w ∷ [])) (ptr_val p ∷ [], (vint w32 n ∷ [], tt)) $
      move t (1 ∷ []) $ feq_i t ℕ n (flag v) e $ fjoin t $ move t (1 ∷ 0 ∷ []) $ fjoin t $ s)

pub taken_out : {X : Type 0} (v : Option X) → IsSome v → (x : X) × (v ≡ Some x)
taken_out None s = absurd (true≢false (sym s))
taken_out (Some x) s = (x, refl)

pub eqb-flag : {X : Type 0} (v : Option X) → eqb (flag v) 1 ≡ is_some v
eqb-flag None = refl
eqb-flag (Some x) = refl
