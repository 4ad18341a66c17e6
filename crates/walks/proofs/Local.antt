-- A local array `[T; n]` that is lent as a `&κ' mut [T]` for a call, and comes back as room. It says nothing of the crate.
use mathlib.Core.Path.{refl}
use Prim.Native.Nat.{ℕ}
use mathlib.Core.List.{List, [], ◌∷◌}
use lib.ListN.{length}
use seplogic.Ra.Ura.{Ura}
use base.Fraction.{full_share}
use mir.Syntax.{Lifetime, ty_array}
use mir.Val.{Val}
use base.Logic.{ent, sep, ex}
use base.Fml.{Lft, GName, fsep, fat, froom, fdead, flent}
use types.Logic.{Logic, sem}
use types.Kit.{‵, later, ◌$◌, ◌∵◌, !, qed, by, move, keep, use1, use3, drop, rewrite, fsplit, fjoin, fpick, fpack, feq_l, await, updating, now as at_once, done}
use types.SemTy.{cells, Arr}
use types.Share.{arr_parts}
use denote.RattleType.{RattleType}
use denote.Laws.{Is, Makes}
use denote.Memory.{cell_at, lone, part_at, mem, shares, part_of}
use denote.Array.{Array, array_val, Array-Makes}
use denote.ArrayMemory.{Single, Array-apart, Array-whole}
use denote.Slice.{Room, finally}
use denote.Lend.{Held, Lent, lends_slice, slice_back}
use denote.Index.{row, whole_out, whole_in}
use denote.Steps.{owned}

module _ (R : RattleType) (one : Single R.mir) {M : Type 1} {𝓤 : Ura M} (𝓛 : Logic 𝓤) (mk : Makes 𝓛 R (Is R)) where
  open 𝓛 use {H, A}

  pub array_lends : (ℓ : Lifetime) (κ' : Lft) (n : ℕ) (xs : List R.Denot) (b : ℕ) (v : Val) → Is (Array R n) xs (v ∷ []) → Room R (length xs)
      → ent 𝓤 (sem 𝓛 (fat full_share (ty_array (lone R.mir) n) b 0 v)) (H.⇛ (ex 𝓤 (Lent 𝓛 R ℓ κ' xs b 0)))
  unfolding part_of
  array_lends ℓ κ' n xs b v g room =
      qed 𝓛 (‵ (fat full_share (ty_array (lone R.mir) n) b 0 v) ∷ []) ∵
      use1 𝓛 (‵ (cell_at full_share (Array R n).mir (v ∷ []) b 0)) (𝓛.laws.at_raw full_share (ty_array (lone R.mir) n) b 0 v) $
      owned ! (Array R n) (Is (Array R n)) (Array-Makes 𝓛 R mk n) xs (v ∷ []) g $ move ! (1 ∷ 0 ∷ []) $ fjoin ! $
      fpack ! (List Val) (λ vs. fsep (cell_at full_share (Array R n).mir vs b 0) ((Array R n).own_val xs vs)) (v ∷ []) $
      use1 𝓛 (‵ ((arr_parts (shares R) n).part full_share xs b 0)) (Array-apart 𝓛 R full_share one n xs b 0) $ fsplit ! $ drop ! $
      use1 𝓛 (‵ (cells (mem R) xs b 0)) (whole_in 𝓛 R xs b 0) $ by ! (lends_slice 𝓛 R ℓ κ' xs b 0 room)

  pub array_back : (κ' : Lft) (γ : GName) (n : ℕ) (zs : List R.Denot) (b : ℕ)
      → ent 𝓤 (sep 𝓤 (A.dead κ') (sep 𝓤 (A.lent κ' (Held R n b 0 γ)) (sem 𝓛 (finally R γ zs)))) (H.⇛ (H.room (ty_array (lone R.mir) n) b 0))
  unfolding part_of
  array_back κ' γ n zs b =
      qed 𝓛 (‵ (fdead κ') ∷ ‵ (flent κ' (Held R n b 0 γ)) ∷ ‵ (finally R γ zs) ∷ []) ∵ updating ! $
      use3 𝓛 (later (‵ ((Arr (mem R) n).own_at zs b 0))) (slice_back 𝓛 R κ' γ zs n b 0) $ await ! tt $ fsplit ! $ move ! (1 ∷ []) $
      use1 𝓛 (‵ (row R full_share zs b 0)) (whole_out 𝓛 R zs b 0) $ move ! (1 ∷ 0 ∷ []) $ fjoin ! $
      use1 𝓛 (‵ (part_at (Array R n) full_share zs b 0)) (Array-whole 𝓛 R full_share n zs b 0) $ fpick ! (λ vs. fsplit ! $ move ! (1 ∷ []) $ fpick ! (λ us. fsplit ! $ fsplit ! $ feq_l ! (λ e. feq_l ! (λ l.
      rewrite ! 1 (λ (ws : List Val). ‵ (cell_at full_share (ty_array (lone R.mir) n ∷ []) ws b 0)) e refl $ move ! (1 ∷ []) $
      use1 𝓛 (‵ (fat full_share (ty_array (lone R.mir) n) b 0 (array_val us))) (𝓛.laws.raw_at full_share (ty_array (lone R.mir) n) b 0 (array_val us)) $
      use1 𝓛 (‵ (froom (ty_array (lone R.mir) n) b 0)) (𝓛.laws.at_room (ty_array (lone R.mir) n) b 0 (array_val us)) $ at_once ! $ keep ! (0 ∷ []) $ done !))))
