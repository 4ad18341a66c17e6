-- A lent slice in a walk. It stands at a list l that is as long as the one that was passed, n, so its machine value stays what was passed.
--     slice, seen  the machine value of a `&mut [T]`, and of a `&[T]`
--     copied       a `&[T]` is had twice
--     lends        a `&mut [T]` at l is lent again, for a lifetime ν of a call, under a name δ.        back         it comes back, at the list that the call left
--     shares       the same as a `&[T]`, where T is shared out at any lifetime, as what holds no `&mut` is.        unshares     it comes back as it was
--     lends_local, back_local      an array that is a local is lent as a `&mut [T]`, and comes back as room
--     ref_of, slice-of     the right sides of a `&*x` of a slice
--     says-last, gave      what a call says of a slice that was given up to it: its last list, which is as long
-- Assumes `Logic`.
use mathlib.Core.Path.{◌≡◌, sym, ◌∙◌, subst}
use Prim.Native.Nat.{ℕ, zero, ◌+◌}
use mathlib.Core.Option.{some as just}
use mathlib.Core.List.{List, [], ◌∷◌}
use lib.ListN.{length}
use seplogic.Ra.Ura.{Ura}
use base.Fraction.{full_share}
use mir.Syntax.{Lifetime, Ty, tcons, tnil, ty_int, ty_array, w64, place, field, deref, copy, addr_of, aggregate}
use mir.Val.{Val, vint, vptr, vstruct, vcons, vnil}
use mir.Fields.{set_v}
use base.Logic.{ent, sep, ex}
use base.Fml.{Lft, GName, Share, Fml, Incl-refl, fsep, feq, fat, froom, flft, flent}
use prog.Memory.{field_at}
use prog.Wp.{Env, Spot, spot_of}
use types.Logic.{Logic, sem}
use types.Kit.{Item, ‵, nth, ◌⊛◌, some, later, Soaks, Goal, Seq, Step, step, ◌$◌, use1, use2, use3, move, split, pick, await, drop, fsplit, feq_l}
use types.Run.{Rv, Walks as Way, stop, hop, fld, from, addr, and_then, no_more}
use types.Part.{Part, whole, sub, look_in, agg}
use types.Tokens.{lft_new, lft_end}
use denote.Exit.{yes, left}
use denote.RattleType.{RattleType, RowLaws}
use denote.Laws.{Is, Makes}
use denote.Memory.{lone}
use denote.Array.{Array}
use denote.ArrayMemory.{Single}
use denote.Ref.{Bor, MutBor, as_bor, at_last}
use denote.Shares.{Shares}
use denote.Slice.{slice_ty, slice_val, MutSlice, ShrSlice, Room, finally, shr_slice_copy}
use denote.Lend.{Held}
use Rattle.walks.proofs.Walk.{whole_of, field_of}
use Rattle.walks.proofs.Again.{LentAgain, lends_again, comes_back}
use Rattle.walks.proofs.Shared.{LentShared, lends_shared, back-shared}
use Rattle.walks.proofs.Local.{array_lends, array_back}

-- x under the name δ at l, and its machine value
abbrev pub under : {X : Type 0} → MutBor X → GName → X → MutBor X
under x δ l = record { ref_ptr = x.ref_ptr; ghost_name = δ; now = l }

abbrev pub slice : {X : Type 0} → MutBor (List X) → Val
slice x = slice_val x.ref_ptr (length x.now)

-- the machine value of a `&[T]`
abbrev pub seen : {X : Type 0} → Bor (List X) → Val
seen x = slice_val x.ref_ptr (length x.now)

-- what a call says of a slice at l whose last list is zs
abbrev pub Last : (R : RattleType) → GName → List R.Denot → List R.Denot → Fml
Last R δ l zs = fsep (finally R δ zs) (feq ℕ (length zs) (length l))

-- what the holder keeps meanwhile
module _ (R : RattleType) (κ : Lft) (q : Share) (x : MutBor (List R.Denot)) where
  abbrev pub Meanwhile : List R.Denot → ℕ → GName → Fml
  Meanwhile l ν δ = LentAgain R κ (ν ∷ []) q x.ghost_name x.ref_ptr.0 x.ref_ptr.1 δ l

  abbrev pub Sharing : ℕ → Fml
  Sharing ν = LentShared R κ (ν ∷ []) q x.ghost_name x.ref_ptr.0 x.ref_ptr.1 x.now

module _ {M : Type 1} {𝓤 : Ura M} {𝓛 : Logic 𝓤} {K : Type 0} {Γ : List (Item 𝓤)} {G : Goal 𝓤 𝓛.H} (t : K) where
  open 𝓛 use {H, A}

  pub copied : (R : RattleType) → RowLaws R → (ℓ : Lifetime) (κ : Lft) (x : Bor (List R.Denot)) → Step K 𝓛 (‵ ((ShrSlice ℓ κ R).own_val x (seen x ∷ [])) ∷ ‵ ((ShrSlice ℓ κ R).own_val x (seen x ∷ [])) ∷ Γ) G (‵ ((ShrSlice ℓ κ R).own_val x (seen x ∷ [])) ∷ Γ) G
  copied R L ℓ κ x = step (λ s. use1 𝓛 (‵ ((ShrSlice ℓ κ R).own_val x (seen x ∷ [])) ⊛ ‵ ((ShrSlice ℓ κ R).own_val x (seen x ∷ []))) ((shr_slice_copy 𝓛 ℓ κ R L).twice x (seen x ∷ [])) $ split t $ s)

  -- what a call says of a slice that it has back at zs, in the words of its contract
  pub says-last : (R : RattleType) (ℓ : Lifetime) (κ : Lft) (x : MutBor (List R.Denot)) (δ : GName) (l zs : List R.Denot) → Step K 𝓛 (‵ (Last R δ l zs) ∷ Γ) G (‵ (left ((MutSlice ℓ κ R).exit yes) (under x δ l) zs) ∷ Γ) G
  says-last R ℓ κ x δ l zs = step (λ s. fsplit t $ move t (1 ∷ []) $ drop t $ s)

  pub gave : (R : RattleType) (δ : GName) (l zs : List R.Denot) → (length zs ≡ length l → Seq K 𝓛 (‵ (finally R δ zs) ∷ Γ) G) → Seq K 𝓛 (‵ (Last R δ l zs) ∷ Γ) G
  gave R δ l zs k = fsplit t $ move t (1 ∷ []) $ feq_l t k

  module _ (soaks : Soaks G) (R : RattleType) (ℓ ℓ' : Lifetime) (κ : Lft) (q : Share) (x : MutBor (List R.Denot)) (l : List R.Denot) (e : length l ≡ length x.now) where
    pub lends : ((ν : ℕ) (δ : GName) → Seq K 𝓛 (‵ (flft (ν ∷ []) full_share) ∷ ‵ ((MutSlice ℓ' (ν ∷ []) R).own_val (under x δ l) (slice x ∷ [])) ∷ ‵ (Meanwhile R κ q x l ν δ) ∷ Γ) G) → Seq K 𝓛 (‵ (flft κ q) ∷ ‵ ((MutSlice ℓ κ R).own_val (at_last x l) (slice x ∷ [])) ∷ Γ) G
    lends k = lft_new t soaks (λ ν. move t (2 ∷ 1 ∷ []) $
        use2 𝓛 (later (some (λ (δ : GName). ‵ ((MutSlice ℓ' (ν ∷ []) R).own_val (under x δ l) (slice x ∷ [])) ⊛ ‵ (Meanwhile R κ q x l ν δ))))
        (subst (λ (m : ℕ). ent 𝓤 (sep 𝓤 (sem 𝓛 ((MutSlice ℓ κ R).own_val (at_last x l) (slice_val x.ref_ptr m ∷ []))) (A.lft κ q)) (H.⇛ (ex 𝓤 (λ (δ : GName). sep 𝓤 (sem 𝓛 ((MutSlice ℓ' (ν ∷ []) R).own_val (under x δ l) (slice_val x.ref_ptr m ∷ []))) (sem 𝓛 (Meanwhile R κ q x l ν δ))))))
        e (lends_again R κ (ν ∷ []) q x.ghost_name x.ref_ptr.0 x.ref_ptr.1 𝓛 ℓ ℓ' l)) $
        await t soaks $ pick t (λ δ. split t $ move t (2 ∷ 0 ∷ 1 ∷ []) $ k ν δ))

    pub back : Room R (length x.now) → (ν : ℕ) (δ : GName) (zs : List R.Denot) → (length zs ≡ length x.now → Seq K 𝓛 (‵ (flft κ q) ∷ ‵ ((MutSlice ℓ κ R).own_val (at_last x zs) (slice x ∷ [])) ∷ Γ) G) → Seq K 𝓛 (‵ (flft (ν ∷ []) full_share) ∷ ‵ (Meanwhile R κ q x l ν δ) ∷ ‵ (Last R δ l zs) ∷ Γ) G
    back room ν δ zs k = lft_end t soaks $ move t (2 ∷ []) $ fsplit t $ move t (1 ∷ []) $ feq_l t (λ d. move t (1 ∷ 2 ∷ 0 ∷ []) $
        use3 𝓛 (later (‵ ((MutSlice ℓ κ R).own_val (at_last x zs) (slice x ∷ [])) ⊛ ‵ (flft κ q)))
        (subst (λ (m : ℕ). ent 𝓤 (sep 𝓤 (A.dead (ν ∷ [])) (sep 𝓤 (sem 𝓛 (Meanwhile R κ q x l ν δ)) (sem 𝓛 (finally R δ zs)))) (H.⇛ (sep 𝓤 (sem 𝓛 ((MutSlice ℓ κ R).own_val (at_last x zs) (slice_val x.ref_ptr m ∷ []))) (A.lft κ q))))
        e (comes_back R κ (ν ∷ []) q x.ghost_name x.ref_ptr.0 x.ref_ptr.1 𝓛 ℓ ℓ' l δ zs (subst (Room R) (sym e) room) d)) $
        await t soaks $ split t $ move t (1 ∷ 0 ∷ []) $ k (d ∙ e))

  module _ (soaks : Soaks G) (R : RattleType) (ℓ ℓ' : Lifetime) (κ : Lft) (q : Share) (x : MutBor (List R.Denot)) where
    pub shares : ((l : Lft) → Shares 𝓛 R l) → ((ν : ℕ) → Seq K 𝓛 (‵ (flft (ν ∷ []) full_share) ∷ ‵ ((ShrSlice ℓ' (ν ∷ []) R).own_val (as_bor x) (slice x ∷ [])) ∷ ‵ (Sharing R κ q x ν) ∷ Γ) G) → Seq K 𝓛 (‵ (flft κ q) ∷ ‵ ((MutSlice ℓ κ R).own_val x (slice x ∷ [])) ∷ Γ) G
    shares sh k = lft_new t soaks (λ ν. move t (2 ∷ 1 ∷ 0 ∷ []) $
        use3 𝓛 (later (‵ ((ShrSlice ℓ' (ν ∷ []) R).own_val (as_bor x) (slice x ∷ [])) ⊛ ‵ (Sharing R κ q x ν) ⊛ ‵ (flft (ν ∷ []) full_share)))
        (lends_shared R κ (ν ∷ []) q x.ghost_name x.ref_ptr.0 x.ref_ptr.1 𝓛 ℓ ℓ' x.now (ν ∷ []) (sh (ν ∷ [])) ((ν ∷ [], full_share) ∷ []) (Incl-refl (ν ∷ [])) (Incl-refl (ν ∷ []))) $
        await t soaks $ split t $ move t (1 ∷ []) $ split t $ move t (1 ∷ 2 ∷ 0 ∷ []) $ k ν)

    pub unshares : Room R (length x.now) → (ν : ℕ) → Step K 𝓛 (‵ (flft κ q) ∷ ‵ ((MutSlice ℓ κ R).own_val x (slice x ∷ [])) ∷ Γ) G (‵ (flft (ν ∷ []) full_share) ∷ ‵ (Sharing R κ q x ν) ∷ Γ) G
    unshares room ν = step (λ s. lft_end t soaks $ use2 𝓛 (later (‵ ((MutSlice ℓ κ R).own_val x (slice x ∷ [])) ⊛ ‵ (flft κ q))) (back-shared R κ (ν ∷ []) q x.ghost_name x.ref_ptr.0 x.ref_ptr.1 𝓛 ℓ ℓ' x.now room) $ await t soaks $ split t $ move t (1 ∷ 0 ∷ []) $ s)

  module _ (soaks : Soaks G) (R : RattleType) (one : Single R.mir) (makes : Makes 𝓛 R (Is R)) (n : ℕ) (b : ℕ) where
    pub lends_local : (ℓ : Lifetime) (xs : List R.Denot) (v : Val) → Is (Array R n) xs (v ∷ []) → Room R (length xs)
        → ((ν : ℕ) (δ : GName) → Seq K 𝓛 (‵ (flft (ν ∷ []) full_share) ∷ ‵ ((MutSlice ℓ (ν ∷ []) R).own_val (record { ref_ptr = (b, 0); ghost_name = δ; now = xs }) (slice_val (b, 0) (length xs) ∷ [])) ∷ ‵ (flent (ν ∷ []) (Held R (length xs) b 0 δ)) ∷ Γ) G)
        → Seq K 𝓛 (‵ (fat full_share (ty_array (lone R.mir) n) b 0 v) ∷ Γ) G
    lends_local ℓ xs v is room k = lft_new t soaks (λ ν. move t (1 ∷ []) $
        use1 𝓛 (later (some (λ (δ : GName). ‵ ((MutSlice ℓ (ν ∷ []) R).own_val (record { ref_ptr = (b, 0); ghost_name = δ; now = xs }) (slice_val (b, 0) (length xs) ∷ [])) ⊛ ‵ (flent (ν ∷ []) (Held R (length xs) b 0 δ))))) (array_lends R one 𝓛 makes ℓ (ν ∷ []) n xs b v is room) $
        await t soaks $ pick t (λ δ. split t $ move t (2 ∷ 0 ∷ 1 ∷ []) $ k ν δ))

    pub back_local : (ν : ℕ) (δ : GName) (l zs : List R.Denot) → Step K 𝓛 (‵ (froom (ty_array (lone R.mir) n) b 0) ∷ Γ) G (‵ (flft (ν ∷ []) full_share) ∷ ‵ (flent (ν ∷ []) (Held R n b 0 δ)) ∷ ‵ (Last R δ l zs) ∷ Γ) G
    back_local ν δ l zs = step (λ s. lft_end t soaks $ move t (2 ∷ []) $ fsplit t $ move t (1 ∷ []) $ drop t $ move t (1 ∷ 2 ∷ 0 ∷ []) $ use3 𝓛 (later (‵ (froom (ty_array (lone R.mir) n) b 0))) (array_back R one 𝓛 makes (ν ∷ []) δ n zs b) $ await t soaks $ s)

-- ---- `&*x` of a slice x in a local whose cell is entry n: the reference, and the slice of it and of the length of x
module _ {M : Type 1} {𝓤 : Ura M} {𝓛 : Logic 𝓤} {K : Type 0} {Γ : List (Item 𝓤)} {E : Env 𝓤 𝓛.H} where
  open 𝓛 use {H}

  pub ref_of : K → (n : ℕ) {j b : ℕ} {q : Share} {ρ τ : Ty} {x o m d : ℕ} → spot_of 𝓤 H E j ≡ (slice_ty ρ, b, zero) → nth 𝓛 n Γ ≡ ‵ (fat q (slice_ty ρ) b zero (slice_val (x, o) m)) → field_at zero (tcons ρ (tcons (ty_int w64) tnil)) 0 ≡ just (ρ, d)
      → Rv K 𝓛 Γ E (addr_of (place j (field 0 ∷ deref τ ∷ []))) (vptr x o)
  ref_of t n {b = b} {q = q} {ρ = ρ} {τ = τ} {x = x} {o = o} {m = m} {d = d} spot cell e =
      addr t (from t (subst (λ (sp : Spot 𝓤 H). Way K 𝓛 Γ E sp (field 0 ∷ deref τ ∷ []) (τ, x, o)) (sym spot) (fld t e (hop t (look_in t n
      (subst (λ (i : Item 𝓤). Part K 𝓛 i q ρ b (zero + d) (vptr x o) (λ u. ‵ (fat q (slice_ty ρ) b zero (vstruct (set_v (vcons (vptr x o) (vcons (vint w64 m) vnil)) 0 u))))) (sym cell) (sub t 0 e (whole t)))) (stop t)))))

  pub slice-of : K → (p n : ℕ) {i j b : ℕ} {q q' : Share} {ρ τ : Ty} {v : Val} {x o m d : ℕ} → nth 𝓛 p Γ ≡ ‵ (fat q (spot_of 𝓤 H E i).0 (spot_of 𝓤 H E i).1 zero v)
      → spot_of 𝓤 H E j ≡ (slice_ty ρ, b, zero) → nth 𝓛 n Γ ≡ ‵ (fat q' (slice_ty ρ) b zero (slice_val (x, o) m)) → field_at zero (tcons ρ (tcons (ty_int w64) tnil)) 1 ≡ just (τ, d)
      → Rv K 𝓛 Γ E (aggregate (copy (place i []) ∷ copy (place j (field 1 ∷ [])) ∷ [])) (vstruct (vcons v (vcons (vint w64 m) vnil)))
  slice-of t p n ref spot cell e = agg t (and_then t (whole_of t p ref) (and_then t (field_of t n 1 spot cell e) (no_more t)))
