-- Steps that every walk takes, each made of several of the logic's. They say nothing of the crate, and serve any signature.
--     whole_of, field_of   an operand: the local whose cell is entry n of the context, or its k-th field
--     stores, lands_in     a right side, or a call's result, is stored in the local whose room is entry n.        frees_at    the local whose cell is entry n is freed, with what it holds
--     tokens, token        what the signature of a function with one lifetime has for it, put together and taken apart
--     begins               a walk begins: the tokens and what the parameters own are in the context, and the locals are allocated
--     calls-met            a function that meets its contract is called, from the tokens and what its parameters own. After it: what it ensures, what the result owns, the tokens, and what says the last values
--     ends                 a walk ends, at a result and last values of which the `ensures` holds: what is had of the parameters and what the result owns are left to show
--     by_walk              a function whose MIR is walked meets its contract
-- Assumes `Logic`.
use mathlib.Core.Path.{◌≡◌, sym, subst}
use Prim.Native.Nat.{ℕ, zero, ◌+◌}
use mathlib.Core.Option.{some}
use mathlib.Core.List.{List, [], ◌∷◌}
use lib.Dec.{T as Holds}
use seplogic.Ra.Ura.{Ura}
use base.Fraction.{full_share}
use mir.Syntax.{Callee, Fn, Ty, Place, place, copy, Opd as Operand, Body, seq, call, assign, Rv as RValue, Sym, Tys, ty_struct, field}
use mir.Val.{Val, WT, has_ty, vstruct, Vals as Fields}
use mir.Fields.{get_v, set_v}
use base.Logic.{SProp, ent, sep, emp, id⊢, via, mono∗, mono_r, comm∗, fst∗, emp∗}
use base.Fml.{Lft, Share, fat, froom, fdies, flft}
use prog.Memory.{field_at}
use prog.Model.{Model}
use prog.Routine.{Env as Names}
use prog.Wp.{Env, Spot, spot_of, Calls, Loops, Closed, WpFn, Tables}
use types.Logic.{Logic, sem}
use sound.Laws.{Laws}
use sound.WpLaws.{FmC, fm_of, WpFn-mono}
use types.Kit.{Item, ‵, raw, ◌⊛◌, some as any, later, Sq, !, qed, allocs, params', at_ret, nth, del, put, pull, push, ⋆, mean, Post, Goal, prop, runs, lands, frees, Seq, Step, step, ◌$◌, use1, use2, split, pick, await, move, suffices, frame}
use types.Run.{Opd, Opds, Rv, Walks as Way, look, init, stop, fld, from, load, assigns, land, enter, free1}
use types.Part.{Part, whole, sub, look_in}
use contract.Lifetimes.{Lfts, Shares, AllOutlive, toks}
use contract.Running.{Running, tables, tables_of}
use denote.RattleType.{owns, flat}
use denote.Laws.{Are, Ises, Spells, valss, Tellss}
use denote.Signature.{type_at, types_at}
use denote.Triple.Entry.{Args, Res, alive, on_entry}
use denote.Triple.Spec.{triple_of}
use denote.Triple.Statement.{Contract, Triple}
use denote.Triple.Clauses.{Ended, Clauses, Lasts, at_exit, lasts, closing}
use denote.Triple.Call.{calls_at}
use denote.Triple.Table.{entered}
use denote.Triple.Walked.{Stays, Fit, has_of, AllGo, Ending, walk_of, on_exit, ends_at, walked, walk_Meets}

module _ {M : Type 1} {𝓤 : Ura M} {𝓛 : Logic 𝓤} {K : Type 0} {Γ : List (Item 𝓤)} where
  open 𝓛 use {H, A}

  module _ {E : Env 𝓤 H} where
    pub whole_of : K → (n : ℕ) {i : ℕ} {q : Share} {v : Val} → nth 𝓛 n Γ ≡ ‵ (fat q (spot_of 𝓤 H E i).0 (spot_of 𝓤 H E i).1 zero v) → Opd K 𝓛 Γ E (copy (place i [])) v
    whole_of t n e = load t (from t (stop t)) (look t n e)

    pub field_of : K → (n k : ℕ) {i b : ℕ} {q : Share} {ν : Sym} {τs : Tys} {vs : Fields} {τ : Ty} {d : ℕ} → spot_of 𝓤 H E i ≡ (ty_struct ν τs, b, zero) → nth 𝓛 n Γ ≡ ‵ (fat q (ty_struct ν τs) b zero (vstruct vs)) → field_at zero τs k ≡ some (τ, d)
        → Opd K 𝓛 Γ E (copy (place i (field k ∷ []))) (get_v vs k)
    field_of t n k {b = b} {q = q} {ν = ν} {τs = τs} {vs = vs} {τ = τ} {d = d} spot cell e =
        load t (from t (subst (λ (sp : Spot 𝓤 H). Way K 𝓛 Γ E sp (field k ∷ []) (τ, b, zero + d)) (sym spot) (fld t e (stop t))))
        (look_in t n (subst (λ (i : Item 𝓤). Part K 𝓛 i q τ b (zero + d) (get_v vs k) (λ u. ‵ (fat q (ty_struct ν τs) b zero (vstruct (set_v vs k u))))) (sym cell) (sub t k e (whole t))))

    -- a value is stored in a local, whose room is entry n
    module _ {C : Calls 𝓤 H} {Λ : Loops 𝓤 H} {q : Post 𝓤 H} {i : ℕ} {rest : Body} {v : Val} where
      pub stores : K → (n : ℕ) {rv : RValue} → Rv K 𝓛 Γ E rv v → nth 𝓛 n Γ ≡ ‵ (froom (spot_of 𝓤 H E i).0 (spot_of 𝓤 H E i).1 zero) → Holds (has_ty (spot_of 𝓤 H E i).0 v) × WT v
          → Step K 𝓛 (put 𝓛 n (‵ (fat full_share (spot_of 𝓤 H E i).0 (spot_of 𝓤 H E i).1 zero v)) Γ) (runs C Λ E rest q) Γ (runs C Λ E (seq (assign (place i []) rv) rest) q)
      stores t n r e wt = assigns t r (from t (stop t)) (init t n e wt)

      pub lands_in : K → (n : ℕ) → nth 𝓛 n Γ ≡ ‵ (froom (spot_of 𝓤 H E i).0 (spot_of 𝓤 H E i).1 zero) → Holds (has_ty (spot_of 𝓤 H E i).0 v) × WT v
          → Step K 𝓛 (put 𝓛 n (‵ (fat full_share (spot_of 𝓤 H E i).0 (spot_of 𝓤 H E i).1 zero v)) Γ) (runs C Λ E rest q) Γ (lands C Λ E (place i []) v rest q)
      lands_in t n e wt = land t (from t (stop t)) (init t n e wt)

    pub frees_at : K → (n : ℕ) {τ : Ty} {b : ℕ} {v : Val} {g : Goal 𝓤 H} → nth 𝓛 n Γ ≡ ‵ (fat full_share τ b zero v) → nth 𝓛 n (del 𝓛 n Γ) ≡ ‵ (fdies τ b)
        → Step K 𝓛 (del 𝓛 n (del 𝓛 n Γ)) (frees E g) Γ (frees ((τ, b) ∷ E) g)
    frees_at t n {τ} {b} {v} cell dies =
        let Δ : List (Item 𝓤) = del 𝓛 n Γ in
        let Θ : List (Item 𝓤) = del 𝓛 n Δ in
        step (λ s. record {
          prf =
              via 𝓤 (sep 𝓤 (H.at full_share τ b zero v) (⋆ 𝓛 Δ)) (subst (λ (i : Item 𝓤). ent 𝓤 (⋆ 𝓛 Γ) (sep 𝓤 (mean 𝓛 i) (⋆ 𝓛 Δ))) cell (pull 𝓛 n Γ))
              (via 𝓤 (sep 𝓤 (H.room τ b zero) (⋆ 𝓛 (‵ (fdies τ b) ∷ Θ)))
              (mono∗ 𝓤 (𝓛.laws.at_room τ b zero v) (via 𝓤 (sep 𝓤 (H.dies τ b) (⋆ 𝓛 Θ)) (subst (λ (i : Item 𝓤). ent 𝓤 (⋆ 𝓛 Δ) (sep 𝓤 (mean 𝓛 i) (⋆ 𝓛 Θ))) dies (pull 𝓛 n Δ)) (push 𝓛 (‵ (fdies τ b)) Θ)))
              (free1 t {τ = τ} {b = b} $ s).prf);
        })

  module _ {G : Goal 𝓤 H} where
    pub tokens : K → {κ : Lft} {q : Share} → Step K 𝓛 (raw (toks 𝓛 1 (κ, tt) (q, tt)) ∷ Γ) G (‵ (flft κ q) ∷ Γ) G
    tokens t {κ} {q} = use1 𝓛 (raw (toks 𝓛 1 (κ, tt) (q, tt))) (via 𝓤 (sep 𝓤 (emp 𝓤) (A.lft κ q)) (emp∗ 𝓤 (A.lft κ q)) (comm∗ 𝓤 (emp 𝓤) (A.lft κ q)))

    pub token : K → (κ : Lft) (q : Share) → Step K 𝓛 (‵ (flft κ q) ∷ Γ) G (raw (toks 𝓛 1 (κ, tt) (q, tt)) ∷ Γ) G
    token t κ q = use1 𝓛 (‵ (flft κ q)) (fst∗ 𝓤 (A.lft κ q) (emp 𝓤))

-- P ⊢ P ∗ Q, where Q holds of nothing
pub beside : {M : Type 1} (𝓤 : Ura M) (P Q : SProp 𝓤) → ent 𝓤 (emp 𝓤) Q → ent 𝓤 P (sep 𝓤 P Q)
beside 𝓤 P Q h = via 𝓤 (sep 𝓤 (emp 𝓤) P) (emp∗ 𝓤 P) (via 𝓤 (sep 𝓤 P (emp 𝓤)) (comm∗ 𝓤 (emp 𝓤) P) (mono_r 𝓤 P h))

abbrev pub ContractOf : {M : Type 1} {𝓤 : Ura M} (𝓛 : Logic 𝓤) (T : Ended) → Clauses 𝓤 T → Contract 𝓤
ContractOf 𝓛 T c = triple_of 𝓛 T.signature (closing 𝓛 T c)

-- at what the triple binds outside, y, the function e is walked from its entry to its exit
abbrev pub WalkAt : {M : Type 1} {𝓤 : Ura M} (𝓛 : Logic 𝓤) (T : Ended) (c : Clauses 𝓤 T) (hs : Stays T.signature.params T.kept) (e : Fn) → Calls 𝓤 𝓛.H → Loops 𝓤 𝓛.H → (walk_of 𝓛 T hs c).Ghost → Type 1
WalkAt {𝓤 = 𝓤} 𝓛 T c hs e C Λ y = ent 𝓤 (on_entry 𝓛 T.signature y.0.0 y.0.1 y.0.3 y.0.4) (WpFn 𝓤 𝓛.H C Λ e (flat (types_at T.signature.params y.0.0) y.0.4) ((walk_of 𝓛 T hs c).post y))

pub begins : {M : Type 1} {𝓤 : Ura M} (𝓛 : Logic 𝓤) (T : Ended) (c : Clauses 𝓤 T) (hs : Stays T.signature.params T.kept) (e : Fn) (C : Calls 𝓤 𝓛.H) (Λ : Loops 𝓤 𝓛.H) (y : (walk_of 𝓛 T hs c).Ghost)
    → Sq 𝓛 (raw (alive 𝓛 T.signature y.0.0 y.0.1) ∷ ‵ (owns (types_at T.signature.params y.0.0) y.0.3 y.0.4) ∷ [])
    (allocs e.locals (λ E. params' E (flat (types_at T.signature.params y.0.0) y.0.4) (runs C Λ E e.body (at_ret E ((walk_of 𝓛 T hs c).post y)))))
    → WalkAt 𝓛 T c hs e C Λ y
begins 𝓛 T c hs e C Λ y s = qed 𝓛 _ (enter ! C Λ e _ _ $ s)

module _ {M : Type 1} {𝓤 : Ura M} {K : Type 0} (𝓛 : Logic 𝓤) {Γ : List (Item 𝓤)} (t : K) (T : Ended) (c : Clauses 𝓤 T) where
  open 𝓛 use {H}

  module _ {E : Env 𝓤 H} {C : Calls 𝓤 H} {Λ : Loops 𝓤 H} {q : Post 𝓤 H} {f : Callee} {xs : List Operand} {d : Place} {rest : Body} where
    pub calls-met : FmC 𝓤 H 𝓛.laws C → Triple 𝓤 (C f) (ContractOf 𝓛 T c) → (y : (ContractOf 𝓛 T c).Ghost) → ent 𝓤 (emp 𝓤) ((c y.0.0 y.0.3).requires y.1) → Opds K 𝓛 (raw ((ContractOf 𝓛 T c).pre y) ∷ Γ) E xs ((ContractOf 𝓛 T c).args y)
        → ((v : Val) (r : Res T.signature y.0.0) (ws : Lasts T y.0.0 y.0.3)
        → Seq K 𝓛 (raw ((c y.0.0 y.0.3).ensures y.1 r (at_exit T y.0.0 y.0.3 ws)) ∷ ‵ ((type_at T.signature.result y.0.0).own_val r (v ∷ [])) ∷ raw (alive 𝓛 T.signature y.0.0 y.0.1) ∷ ‵ (lasts T y.0.0 y.0.3 ws) ∷ Γ) (lands C Λ E d v rest q))
        → Seq K 𝓛 (raw (alive 𝓛 T.signature y.0.0 y.0.1) ∷ ‵ (owns (types_at T.signature.params y.0.0) y.0.3 y.0.4) ∷ Γ) (runs C Λ E (seq (call f xs d) rest) q)
    calls-met fm known y asks os k =
        use2 𝓛 (raw ((ContractOf 𝓛 T c).pre y)) (beside 𝓤 (on_entry 𝓛 T.signature y.0.0 y.0.1 y.0.3 y.0.4) ((c y.0.0 y.0.3).requires y.1) asks) $
        calls_at t fm (ContractOf 𝓛 T c) known y os (λ v.
        use1 𝓛 (later (any (λ (r : Res T.signature y.0.0).
        (raw (alive 𝓛 T.signature y.0.0 y.0.1) ⊛ ‵ ((type_at T.signature.result y.0.0).own_val r (v ∷ []))) ⊛ any (λ (ws : Lasts T y.0.0 y.0.3). ‵ (lasts T y.0.0 y.0.3 ws) ⊛ raw ((c y.0.0 y.0.3).ensures y.1 r (at_exit T y.0.0 y.0.3 ws)))))) (id⊢ 𝓤 _) $
        await t tt $ pick t (λ r. split t $ split t $ move t (2 ∷ []) $ pick t (λ ws. split t $ move t (1 ∷ 3 ∷ 2 ∷ 0 ∷ []) $ k v r ws)))

  module _ (hs : Stays T.signature.params T.kept) where
    pub ends : (y : (walk_of 𝓛 T hs c).Ghost) (v : Val) (r : Res T.signature y.0.0) (ws : Lasts T y.0.0 y.0.3) → Fit T hs y.0.0 y.0.3 ws → ent 𝓤 (emp 𝓤) ((c y.0.0 y.0.3).ensures y.1 r (at_exit T y.0.0 y.0.3 ws))
        → Step K 𝓛 Γ (prop (sep 𝓤 (sem 𝓛 (has_of y.0.0 T.signature.params T.kept hs y.0.3 ws y.0.4)) (sem 𝓛 ((type_at T.signature.result y.0.0).own_val r (v ∷ [])))))
        (raw (alive 𝓛 T.signature y.0.0 y.0.1) ∷ Γ) (prop ((walk_of 𝓛 T hs c).post y v))
    ends y v r ws fits told = step (λ s.
        suffices t (Ending 𝓛 T hs c y v r ws) (ends_at 𝓛 T hs c y v r ws fits) $
        suffices t (on_exit 𝓛 T hs y.0.0 y.0.1 y.0.4 v r y.0.3 ws) (beside 𝓤 (on_exit 𝓛 T hs y.0.0 y.0.1 y.0.4 v r y.0.3 ws) ((c y.0.0 y.0.3).ensures y.1 r (at_exit T y.0.0 y.0.3 ws)) told) $ frame t $ s)

module _ {M : Type 1} {𝓤 : Ura M} (𝓛 : Logic 𝓤) (𝓜 : Model 𝓤 𝓛.H) (𝓡 : Running 𝓤 𝓛.H 𝓜) (env : Names) (k : Callee) (e : Fn) where
  open 𝓛 use {H}

  abbrev C : Calls 𝓤 H
  C = (tables 𝓤 H 𝓜 𝓡 env).C

  abbrev Λ : Loops 𝓤 H
  Λ = (tables 𝓤 H 𝓜 𝓡 env).Λ

  pub by_walk : Closed 𝓤 H C Λ k e → (T : Ended) (c : Clauses 𝓤 T) (hs : Stays T.signature.params T.kept) → AllGo 𝓛 T.signature.lifetimes T.signature.params T.kept hs
      → (sp : (κs : Lfts T.signature.lifetimes) → Spells (types_at T.signature.params κs)) → ((κs : Lfts T.signature.lifetimes) → Tellss (types_at T.signature.params κs) (Ises (types_at T.signature.params κs)) (sp κs))
      → (FmC 𝓤 H 𝓛.laws C → (κs : Lfts T.signature.lifetimes) (qs : Shares T.signature.lifetimes) (bounds : AllOutlive T.signature.lifetimes T.signature.outlives κs) (a : Args T.signature κs) (g : (c κs a).ghost)
      → Are (types_at T.signature.params κs) (Ises (types_at T.signature.params κs)) a (valss (types_at T.signature.params κs) (sp κs) a)
      → ent 𝓤 (sep 𝓤 (on_entry 𝓛 T.signature κs qs a (valss (types_at T.signature.params κs) (sp κs) a)) ((c κs a).requires g))
      (WpFn 𝓤 H C Λ e (flat (types_at T.signature.params κs) (valss (types_at T.signature.params κs) (sp κs) a)) ((walk_of 𝓛 T hs c).post ((κs, qs, bounds, a, valss (types_at T.signature.params κs) (sp κs) a), g))))
      → Triple 𝓤 (C k) (ContractOf 𝓛 T c)
  unfolding tables_of
  by_walk closed T c hs go sp tl walk =
      let 𝓣 : Tables 𝓤 H = tables_of 𝓤 H 𝓜 (tables 𝓤 H 𝓜 𝓡 env) in
      let L : Laws 𝓤 H = 𝓛.laws in
      entered 𝓤 H (ContractOf 𝓛 T c) C Λ k e closed
      (walk_Meets 𝓛 T hs go c (WpFn 𝓤 H C Λ e) (WpFn-mono 𝓤 H L 𝓣 e) (walked 𝓛 T hs c (WpFn 𝓤 H C Λ e) sp tl (walk (fm_of 𝓤 H L 𝓣))))
