-- Steps of a walk of any signature, over contexts that hold its tokens and what its parameters own one by one, the last first.
--     Value R, struct_value, enum_value, number-value, truth, no_value       a type whose values are plain: the machine value, that it is told, that it is of the type, and that what it owns is had for nothing
--     fits         it is of its MIR type.        made         what it owns
--     placed, ty_at     a function's locals, each with its place; the type of local k.        second       what follows a body's first statement.        held, failed     how a test came out
--     tokens-on, owned_on, had_on, lasts_on        a context, and on it a token for each lifetime; what each parameter owns; what is had of each at exit; what says its last value
--     starts       a walk begins, with the tokens and what the parameters own
--     calls        a function that meets its contract is called, with its tokens and what its parameters own; after it the tokens are there, and what says the last values.        calls_last       the same of the last statement of a part
--     finishes     a walk ends, at a result and last values of which the `ensures` holds, with the tokens and what is had of the parameters
-- Assumes `Logic`.
use mathlib.Core.Path.{◌≡◌, refl, sym, ap, subst}
use Prim.Native.Nat.{ℕ, zero, suc}
use mathlib.Core.Bool.{Bool, true, false, not}
use mathlib.Core.List.{List, [], ◌∷◌}
use lib.Dec.{T as Holds}
use seplogic.Ra.Ura.{Ura}
use mir.Syntax.{Callee, Fn, Local, local, Ty, ty_unit, Place, Opd as Operand, Body, skip, seq, assign, call, block, loop, cond, switch, exit, return, unreachable, call_v, lend_static, w64}
use mir.Val.{Val, vbool, vint, vunit}
use base.Logic.{ent, emp, id⊢}
use base.Fml.{flft}
use prog.Wp.{Env, Calls, Loops}
use types.Logic.{Logic}
use sound.WpLaws.{FmC}
use types.Kit.{Item, ‵, raw, ◌⊛◌, some as any, later, Soaks, Sq, !, allocs, params', at_ret, Post, Goal, prop, runs, lands, settles, Seq, Step, step, ◌$◌, use1, use2, split, pick, await, move, drop, fsplit, fjoin, done}
use types.Run.{Opds}
use contract.Lifetimes.{Lfts, Shares, toks}
use contract.Monad.{fact}
use denote.Exit.{left}
use denote.RattleType.{RattleType, Denots, Valss, owns, flat}
use denote.Laws.{Is, Tells, Typed, Makes, Lawful, shows}
use denote.Plain.{Boolean, Nothing, uint_Tells, uint_Lawful, uint_Makes, bool_Tells, bool_Lawful, bool_Makes, Nothing-Tells, Nothing-Lawful, Nothing-Makes}
use denote.Builtin.{usize}
use denote.Signature.{Slot, type_at, types_at}
use denote.Steps.{only, owned, peeks, heard, nothing}
use denote.Struct.Declared as struct
use denote.Struct.Struct.{Plains}
use denote.Struct.Laws as LL
use denote.Enum.Declared as enum
use denote.Enum.Enum.{Plainss, Few}
use denote.Enum.Laws as EL
use denote.Triple.Entry.{Res, alive, on_entry}
use denote.Triple.Statement.{Triple}
use denote.Triple.End.{Kepts, Fins, lasts_of}
use denote.Triple.Clauses.{Ended, Clauses, Lasts, at_exit, lasts}
use denote.Triple.Call.{calls_at, calls_at_last}
use denote.Triple.Walked.{Stays, Fit, has_of, walk_of}
use Rattle.walks.proofs.Walk.{ContractOf, WalkAt, begins, ends, beside}

-- ---- plain values
pub record Value (R : RattleType) : Type 2 where
  pub val : R.Denot → Val
  pub tells : Tells R (Is R) (λ x. val x ∷ [])
  pub lawful : {M : Type 1} {𝓤 : Ura M} (𝓛 : Logic 𝓤) → Lawful 𝓛 R
  pub makes : {M : Type 1} {𝓤 : Ura M} (𝓛 : Logic 𝓤) → Makes 𝓛 R (Is R)

abbrev pub struct_value : (T : struct.Declared) → LL.Laws T → Plains (struct.fields T) → Value (struct.row T)
struct_value T L P = record { val = LL.val T L; tells = LL.tells T L; lawful = λ 𝓛. LL.lawful T L 𝓛; makes = λ 𝓛. LL.makes T P 𝓛 }

abbrev pub enum_value : (T : enum.Declared) → EL.Laws T → Few (enum.shape T) → Plainss (enum.variants T) → Value (enum.row T)
enum_value T L F P = record { val = EL.val T L; tells = EL.tells T L; lawful = λ 𝓛. EL.lawful T L 𝓛 F; makes = λ 𝓛. EL.makes T P 𝓛 }

abbrev pub number-value : Value usize
number-value = record { val = vint w64; tells = uint_Tells w64; lawful = λ 𝓛. uint_Lawful 𝓛 w64; makes = λ 𝓛. uint_Makes 𝓛 w64 }

abbrev pub truth : Value Boolean
truth = record { val = vbool; tells = bool_Tells; lawful = λ 𝓛. bool_Lawful 𝓛; makes = λ 𝓛. bool_Makes 𝓛 }

abbrev pub no_value : Value Nothing
no_value = record { val = λ _. vunit; tells = Nothing-Tells; lawful = λ 𝓛. Nothing-Lawful 𝓛; makes = λ 𝓛. Nothing-Makes 𝓛 }

-- a plain value is of its MIR type
pub fits : {M : Type 1} {𝓤 : Ura M} (𝓛 : Logic 𝓤) {R : RattleType} (P : Value R) (x : R.Denot) → Is R x (P.val x ∷ []) → Typed R.mir (P.val x ∷ [])
fits {𝓤 = 𝓤} 𝓛 P x is = (P.lawful 𝓛).typed x (P.val x ∷ []) is

-- ---- a function's locals, at places of memory
abbrev pub placed : List Local → List ℕ → List (Ty × ℕ)
placed [] bs = []
placed (x ∷ ls) [] = []
placed (local τ h ∷ ls) (b ∷ bs) = (τ, b) ∷ placed ls bs

abbrev pub ty_at : List Local → ℕ → Ty
ty_at [] k = ty_unit
ty_at (local τ h ∷ ls) zero = τ
ty_at (local τ h ∷ ls) (suc k) = ty_at ls k

-- what follows the first statement
abbrev pub second : Body → Body
second skip = skip
second (seq a b) = b
second (assign p v) = skip
second (call f xs d) = skip
second (block b) = skip
second (loop b) = skip
second (cond c a b) = skip
second (switch c arms) = skip
second (exit n) = skip
second return = skip
second unreachable = skip
second (call_v g σ xs d) = skip
second (lend_static p τ c) = skip

-- how a test came out
pub held : (b : Bool) → Holds b → b ≡ true
held true _ = refl
held false a = absurd a

pub failed : (b : Bool) → Holds (not b) → b ≡ false
failed true a = absurd a
failed false _ = refl

-- ---- contexts
module _ {M : Type 1} {𝓤 : Ura M} where
  abbrev pub tokens-on : (n : ℕ) → Lfts n → Shares n → List (Item 𝓤) → List (Item 𝓤)
  tokens-on zero κs qs Γ = Γ
  tokens-on (suc n) κs qs Γ = tokens-on n κs.1 qs.1 (‵ (flft κs.0 qs.0) ∷ Γ)

  abbrev pub owned_on : (Ts : List RattleType) → Denots Ts → Valss Ts → List (Item 𝓤) → List (Item 𝓤)
  owned_on [] a vss Γ = Γ
  owned_on (T ∷ Ts) a vss Γ = owned_on Ts a.1 vss.1 (‵ (T.own_val a.0 vss.0) ∷ Γ)

  module _ {n : ℕ} (κs : Lfts n) where
    abbrev pub had_on : (ss : List (Slot n)) (ks : Kepts ss) → Stays ss ks → (a : Denots (types_at ss κs)) → Fins κs ss ks a → Valss (types_at ss κs) → List (Item 𝓤) → List (Item 𝓤)
    had_on [] ks hs a ws vss Γ = Γ
    had_on (s ∷ ss) ks hs a ws vss Γ = had_on ss ks.1 hs.1 a.1 ws.1 vss.1 (‵ (hs.0.has κs a.0 ws.0 vss.0) ∷ Γ)

    abbrev pub lasts_on : (ss : List (Slot n)) (ks : Kepts ss) (a : Denots (types_at ss κs)) → Fins κs ss ks a → List (Item 𝓤) → List (Item 𝓤)
    lasts_on [] ks a ws Γ = Γ
    lasts_on (s ∷ ss) ks a ws Γ = lasts_on ss ks.1 a.1 ws.1 (‵ (left ((s.row κs).exit ks.0) a.0 ws.0) ∷ Γ)

module _ {M : Type 1} {𝓤 : Ura M} {𝓛 : Logic 𝓤} {K : Type 0} {G : Goal 𝓤 𝓛.H} where
  pub made : {Γ : List (Item 𝓤)} {R : RattleType} → K → (P : Value R) (x : R.Denot) → Is R x (P.val x ∷ []) → Step K 𝓛 (‵ (R.own_val x (P.val x ∷ [])) ∷ Γ) G Γ G
  made {R = R} t P x is = owned t R (Is R) (P.makes 𝓛) x (P.val x ∷ []) is

  tokens-apart : K → (n : ℕ) (κs : Lfts n) (qs : Shares n) (Γ : List (Item 𝓤)) → Step K 𝓛 (tokens-on n κs qs Γ) G (raw (toks 𝓛 n κs qs) ∷ Γ) G
  tokens-apart t zero κs qs Γ = drop t
  tokens-apart t (suc n) κs qs Γ = step (λ s. use1 𝓛 (‵ (flft κs.0 qs.0) ⊛ raw (toks 𝓛 n κs.1 qs.1)) (id⊢ 𝓤 _) $ split t $ move t (1 ∷ []) $ tokens-apart t n κs.1 qs.1 (‵ (flft κs.0 qs.0) ∷ Γ) $ s)

  tokens-whole : K → (n : ℕ) (κs : Lfts n) (qs : Shares n) (Γ : List (Item 𝓤)) → Step K 𝓛 (raw (toks 𝓛 n κs qs) ∷ Γ) G (tokens-on n κs qs Γ) G
  tokens-whole t zero κs qs Γ = step (λ s. nothing t $ use1 𝓛 (raw (emp 𝓤)) (id⊢ 𝓤 _) $ s)
  tokens-whole t (suc n) κs qs Γ = step (λ s. tokens-whole t n κs.1 qs.1 (‵ (flft κs.0 qs.0) ∷ Γ) $ move t (1 ∷ 0 ∷ []) $ use2 𝓛 (raw (toks 𝓛 (suc n) κs qs)) (id⊢ 𝓤 _) $ s)

  -- under a first entry i
  module _ (i : Item 𝓤) where
    owned_apart : K → (Ts : List RattleType) (a : Denots Ts) (vss : Valss Ts) (Γ : List (Item 𝓤)) → Step K 𝓛 (i ∷ owned_on Ts a vss Γ) G (i ∷ ‵ (owns Ts a vss) ∷ Γ) G
    owned_apart t [] a vss Γ = step (λ s. move t (1 ∷ []) $ drop t $ s)
    owned_apart t (T ∷ Ts) a vss Γ = step (λ s. move t (1 ∷ []) $ fsplit t $ move t (2 ∷ 1 ∷ 0 ∷ []) $ owned_apart t Ts a.1 vss.1 (‵ (T.own_val a.0 vss.0) ∷ Γ) $ s)

    owned_whole : K → (Ts : List RattleType) (a : Denots Ts) (vss : Valss Ts) (Γ : List (Item 𝓤)) → Step K 𝓛 (i ∷ ‵ (owns Ts a vss) ∷ Γ) G (i ∷ owned_on Ts a vss Γ) G
    owned_whole t [] a vss Γ = step (λ s. nothing t $ move t (1 ∷ 0 ∷ []) $ s)
    owned_whole t (T ∷ Ts) a vss Γ = step (λ s. owned_whole t Ts a.1 vss.1 (‵ (T.own_val a.0 vss.0) ∷ Γ) $ move t (2 ∷ 1 ∷ 0 ∷ []) $ fjoin t $ move t (1 ∷ 0 ∷ []) $ s)

    module _ {n : ℕ} (κs : Lfts n) where
      had_whole : K → (ss : List (Slot n)) (ks : Kepts ss) (hs : Stays ss ks) (a : Denots (types_at ss κs)) (ws : Fins κs ss ks a) (vss : Valss (types_at ss κs)) (Γ : List (Item 𝓤)) → Step K 𝓛 (i ∷ ‵ (has_of κs ss ks hs a ws vss) ∷ Γ) G (i ∷ had_on κs ss ks hs a ws vss Γ) G
      had_whole t [] ks hs a ws vss Γ = step (λ s. nothing t $ move t (1 ∷ 0 ∷ []) $ s)
      had_whole t (x ∷ ss) ks hs a ws vss Γ = step (λ s. had_whole t ss ks.1 hs.1 a.1 ws.1 vss.1 (‵ (hs.0.has κs a.0 ws.0 vss.0) ∷ Γ) $ move t (2 ∷ 1 ∷ 0 ∷ []) $ fjoin t $ move t (1 ∷ 0 ∷ []) $ s)

      lasts_apart : K → (ss : List (Slot n)) (ks : Kepts ss) (a : Denots (types_at ss κs)) (ws : Fins κs ss ks a) (Γ : List (Item 𝓤)) → Step K 𝓛 (i ∷ lasts_on κs ss ks a ws Γ) G (i ∷ ‵ (lasts_of κs ss ks a ws) ∷ Γ) G
      lasts_apart t [] ks a ws Γ = step (λ s. move t (1 ∷ []) $ drop t $ s)
      lasts_apart t (x ∷ ss) ks a ws Γ = step (λ s. move t (1 ∷ []) $ fsplit t $ move t (2 ∷ 1 ∷ 0 ∷ []) $ lasts_apart t ss ks.1 a.1 ws.1 (‵ (left ((x.row κs).exit ks.0) a.0 ws.0) ∷ Γ) $ s)

-- ---- the walk's beginning
pub starts : {M : Type 1} {𝓤 : Ura M} (𝓛 : Logic 𝓤) (T : Ended) (c : Clauses 𝓤 T) (hs : Stays T.signature.params T.kept) (e : Fn) (C : Calls 𝓤 𝓛.H) (Λ : Loops 𝓤 𝓛.H) (y : (walk_of 𝓛 T hs c).Ghost)
    → Sq 𝓛 (tokens-on T.signature.lifetimes y.0.0 y.0.1 (owned_on (types_at T.signature.params y.0.0) y.0.3 y.0.4 []))
    (allocs e.locals (λ E. params' E (flat (types_at T.signature.params y.0.0) y.0.4) (runs C Λ E e.body (at_ret E ((walk_of 𝓛 T hs c).post y)))))
    → WalkAt 𝓛 T c hs e C Λ y
starts {𝓤 = 𝓤} 𝓛 T c hs e C Λ y s =
    begins 𝓛 T c hs e C Λ y (owned_apart (raw (alive 𝓛 T.signature y.0.0 y.0.1)) ! (types_at T.signature.params y.0.0) y.0.3 y.0.4 [] $
    tokens-apart ! T.signature.lifetimes y.0.0 y.0.1 (owned_on (types_at T.signature.params y.0.0) y.0.3 y.0.4 []) $ s)

module _ {M : Type 1} {𝓤 : Ura M} {K : Type 0} (𝓛 : Logic 𝓤) (t : K) (T : Ended) (c : Clauses 𝓤 T) where
  -- ---- a call
  open 𝓛 use {H}

  abbrev Pre : (ContractOf 𝓛 T c).Ghost → List (Item 𝓤) → List (Item 𝓤)
  Pre y Γ = tokens-on T.signature.lifetimes y.0.0 y.0.1 (owned_on (types_at T.signature.params y.0.0) y.0.3 y.0.4 Γ)

  abbrev Left : (y : (ContractOf 𝓛 T c).Ghost) → Lasts T y.0.0 y.0.3 → List (Item 𝓤) → List (Item 𝓤)
  Left y ws Γ = tokens-on T.signature.lifetimes y.0.0 y.0.1 (lasts_on y.0.0 T.signature.params T.kept y.0.3 ws Γ)

  module _ (y : (ContractOf 𝓛 T c).Ghost) (P : Value (type_at T.signature.result y.0.0)) (φ : Res T.signature y.0.0 → Lasts T y.0.0 y.0.3 → Type 0)
      (told : (r : Res T.signature y.0.0) (ws : Lasts T y.0.0 y.0.3) → ent 𝓤 ((c y.0.0 y.0.3).ensures y.1 r (at_exit T y.0.0 y.0.3 ws)) (fact 𝓤 (φ r ws))) where
    abbrev R : RattleType
    R = type_at T.signature.result y.0.0

    abbrev On : List (Item 𝓤) → (Val → Goal 𝓤 H) → Type 1
    On Γ g = (r : Res T.signature y.0.0) (ws : Lasts T y.0.0 y.0.3) → Is R r (P.val r ∷ []) → φ r ws → Seq K 𝓛 (Left y ws Γ) (g (P.val r))

    after : (Γ : List (Item 𝓤)) (g : Val → Goal 𝓤 H) → ((v : Val) → Soaks (g v)) → On Γ g → (v : Val) → Seq K 𝓛 (raw ((ContractOf 𝓛 T c).post y v) ∷ Γ) (g v)
    after Γ g soaks k v =
        use1 𝓛 (later (any (λ (r : Res T.signature y.0.0).
        (raw (alive 𝓛 T.signature y.0.0 y.0.1) ⊛ ‵ (R.own_val r (v ∷ []))) ⊛ any (λ (ws : Lasts T y.0.0 y.0.3). ‵ (lasts T y.0.0 y.0.3 ws) ⊛ raw ((c y.0.0 y.0.3).ensures y.1 r (at_exit T y.0.0 y.0.3 ws)))))) (id⊢ 𝓤 _) $
        await t (soaks v) $ pick t (λ r. split t $ split t $ move t (2 ∷ []) $ pick t (λ ws. split t $ move t (1 ∷ []) $ use1 𝓛 (raw (fact 𝓤 (φ r ws))) (told r ws) $ heard t (φ r ws) (λ e.
        move t (2 ∷ []) $ peeks t R (Is R) (shows 𝓛 R) r (v ∷ []) (λ is. drop t $ move t (1 ∷ 0 ∷ []) $
        lasts_apart (raw (alive 𝓛 T.signature y.0.0 y.0.1)) y.0.0 t T.signature.params T.kept y.0.3 ws Γ $
        tokens-apart t T.signature.lifetimes y.0.0 y.0.1 (lasts_on y.0.0 T.signature.params T.kept y.0.3 ws Γ) $
        subst (λ (u : Val). Seq K 𝓛 (Left y ws Γ) (g u)) (sym (ap only (P.tells r (v ∷ []) is))) (k r ws (subst (λ (us : List Val). Is R r us) (P.tells r (v ∷ []) is) is) e)))))

    enters : (Γ : List (Item 𝓤)) → ent 𝓤 (emp 𝓤) ((c y.0.0 y.0.3).requires y.1) → {G : Goal 𝓤 H} → Step K 𝓛 (raw ((ContractOf 𝓛 T c).pre y) ∷ Γ) G (Pre y Γ) G
    enters Γ asks = step (λ s.
        tokens-whole t T.signature.lifetimes y.0.0 y.0.1 (owned_on (types_at T.signature.params y.0.0) y.0.3 y.0.4 Γ) $
        owned_whole (raw (alive 𝓛 T.signature y.0.0 y.0.1)) t (types_at T.signature.params y.0.0) y.0.3 y.0.4 Γ $
        use2 𝓛 (raw ((ContractOf 𝓛 T c).pre y)) (beside 𝓤 (on_entry 𝓛 T.signature y.0.0 y.0.1 y.0.3 y.0.4) ((c y.0.0 y.0.3).requires y.1) asks) $ s)

    module _ {Γ : List (Item 𝓤)} {E : Env 𝓤 H} {C : Calls 𝓤 H} {Λ : Loops 𝓤 H} {q : Post 𝓤 H} {f : Callee} {xs : List Operand} {d : Place} (fm : FmC 𝓤 H 𝓛.laws C) (known : Triple 𝓤 (C f) (ContractOf 𝓛 T c)) (asks : ent 𝓤 (emp 𝓤) ((c y.0.0 y.0.3).requires y.1))
        (os : Opds K 𝓛 (raw ((ContractOf 𝓛 T c).pre y) ∷ Γ) E xs ((ContractOf 𝓛 T c).args y)) where
      pub calls : {rest : Body} → On Γ (λ v. lands C Λ E d v rest q) → Seq K 𝓛 (Pre y Γ) (runs C Λ E (seq (call f xs d) rest) q)
      calls {rest} k = enters Γ asks $ calls_at t fm (ContractOf 𝓛 T c) known y os (after Γ (λ v. lands C Λ E d v rest q) (λ v. tt) k)

      pub calls_last : On Γ (λ v. settles E d v q) → Seq K 𝓛 (Pre y Γ) (runs C Λ E (call f xs d) q)
      calls_last k = enters Γ asks $ calls_at_last t fm (ContractOf 𝓛 T c) known y os (after Γ (λ v. settles E d v q) (λ v. tt) k)

  -- ---- the walk's end
  module _ (hs : Stays T.signature.params T.kept) where
    pub finishes : (y : (walk_of 𝓛 T hs c).Ghost) (P : Value (type_at T.signature.result y.0.0)) (r : Res T.signature y.0.0) (ws : Lasts T y.0.0 y.0.3) → Is (type_at T.signature.result y.0.0) r (P.val r ∷ []) → Fit T hs y.0.0 y.0.3 ws
        → ent 𝓤 (emp 𝓤) ((c y.0.0 y.0.3).ensures y.1 r (at_exit T y.0.0 y.0.3 ws))
        → Seq K 𝓛 (tokens-on T.signature.lifetimes y.0.0 y.0.1 (had_on y.0.0 T.signature.params T.kept hs y.0.3 ws y.0.4 [])) (prop ((walk_of 𝓛 T hs c).post y (P.val r)))
    finishes y P r ws is fits told =
        tokens-whole t T.signature.lifetimes y.0.0 y.0.1 (had_on y.0.0 T.signature.params T.kept hs y.0.3 ws y.0.4 []) $
        had_whole (raw (alive 𝓛 T.signature y.0.0 y.0.1)) y.0.0 t T.signature.params T.kept hs y.0.3 ws y.0.4 [] $
        ends 𝓛 t T c hs y (P.val r) r ws fits told $ made t P r is $ move t (1 ∷ 0 ∷ []) $ done t
