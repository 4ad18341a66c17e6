-- A `Writer` in the walks: its machine value, what it owns, and what is had at exit of one that was passed by value.
--     ParcelsAt, WriterAt  the types of the lent parcels and of a writer of them.        slice_of, writer_val s n       their machine values: of a slice, and of a writer whose slice's is s
--     writer_vals, writer_tells    a writer's machine value is told.        room_of, place_of    its fields' facts.        typed        the machine value has the struct's MIR type, at any lifetime: a local's erases it
--     slice-of, writer_of  what a writer owns gives what its slice owns; and it is made of that
--     writer_spent         the result names the writer's lifetime: nothing is said of a last list.        spent_had, writer_spent_goes      it is had for nothing; its law
--     writer_gave          the body has passed the borrow on for good, and has only what says its last list, and the borrow as it came back.        GaveParcels, gave_had, writer_gave_goes      it is had of that; its law
-- Assumes `Logic`.
use mathlib.Core.Path.{◌≡◌, refl, sym, ap, subst}
use Prim.Native.Nat.{ℕ, ◌<◌, ◌^◌}
use mathlib.Core.List.{List, [], ◌∷◌}
use lib.Dec.{T as Holds}
use lib.ListN.{length}
use seplogic.Ra.Ura.{Ura}
use mir.Syntax.{Sym, Lifetime, named, w64}
use mir.Val.{Val, WT, has_ty, vint, vstruct, vcons, vnil}
use base.Logic.{ent, emp}
use base.Fml.{Lft, Fml, ftrue, fsep}
use types.Logic.{Logic, sem}
use types.Kit.{‵, given, ◌$◌, ◌∵◌, !, qed, by, move, drop, use1, learn, fsplit, fjoin, done}
use denote.RattleType.{RattleType}
use denote.Laws.{Is, Tells}
use denote.Builtin.{u16, usize}
use denote.Exit.{Kept, yes, no}
use denote.Ref.{MutBor, NamedLft}
use denote.Signature.{Slot, plain, mut_slice, mut_slice_of, named_lft}
use denote.Signature.Struct.{struct_at, in_struct, makes}
use denote.Slice.{slice_val, MutSlice, Room}
use denote.Steps.{only, nothing}
use denote.Struct.Laws as LL
use denote.Struct.Rest.{all_own, own_open}
use denote.Triple.Walked.{Stay, Fields, stay_none, gave_slice, stay_dropped, stay_struct_at, stay_declared, Goes, FieldsGo, Goes-none, Goes-gave_slice, Goes-spent_slice, Goes-struct_at, Goes-declared}
use Rattle.writer.specs.declared.Writer.{Writer}
use Rattle.walks.proofs.Plain.{and_number}
use Rattle.writer.specs.contracts.Writer as T
use Rattle.writer.proofs.Writer.TheLaws as T'

abbrev at_lft : Lft → NamedLft
at_lft κ = record { mir = named 0; lft = κ }

-- the types of the lent parcels and of a writer of them, at the lifetime κ
abbrev pub ParcelsAt : Lft → RattleType
ParcelsAt κ = MutSlice (named 0) κ u16

abbrev pub WriterAt : Lft → RattleType
WriterAt κ = T.the_row (at_lft κ)

abbrev pub slice_of : MutBor (List ℕ) → Val
slice_of x = slice_val x.ref_ptr (length x.now)

abbrev pub writer_val : Val → ℕ → Val
writer_val s n = vstruct (vcons s (vcons (vint w64 n) vnil))

-- a writer's machine value is told, and its fields' facts are known
abbrev pub writer_vals : (κ : Lft) → Writer → List Val
writer_vals κ = LL.vals (T.the_type (at_lft κ)) (T'.the_laws (at_lft κ))

pub writer_tells : (κ : Lft) → Tells (WriterAt κ) (Is (WriterAt κ)) (writer_vals κ)
writer_tells κ = LL.tells (T.the_type (at_lft κ)) (T'.the_laws (at_lft κ))

pub room_of : (κ : Lft) (h : Writer) (vs : List Val) → Is (WriterAt κ) h vs → Room u16 (length h.parcels.now)
room_of κ h vs is = (LL.owed (T.the_type (at_lft κ)) (T'.the_laws (at_lft κ)) h vs is).0.0.1

pub place_of : (κ : Lft) (h : Writer) (vs : List Val) → Is (WriterAt κ) h vs → h.at < 2 ^ 64
place_of κ h vs is = (LL.owed (T.the_type (at_lft κ)) (T'.the_laws (at_lft κ)) h vs is).1.0.1

pub typed : (ℓ : Lifetime) (κ : Lft) (h : Writer) (v : Val) → Is (WriterAt κ) h (v ∷ []) → Holds (has_ty (T'.mir ℓ) v) × WT v
typed ℓ κ h v is =
    subst (λ (z : Val). Holds (has_ty (T'.mir ℓ) z) × WT z) (sym (ap only (writer_tells κ h (v ∷ []) is)))
    (tt, ((tt, (record { fits = (room_of κ h (v ∷ []) is).0 }, tt)), (record { fits = place_of κ h (v ∷ []) is }, tt)))

-- ---- what is had at exit: the fields' choices, and the struct's of them
abbrev slots : List (Slot 1)
slots = mut_slice 0 tt (λ _. u16) ∷ plain (λ _. usize) ∷ []

abbrev name : Sym
name = (T.struct (named_lft 1 0 tt ([], tt))).name

abbrev WriterS : Slot 1
WriterS = plain (λ κs. T.the_row (named_lft 1 0 tt κs))

abbrev held : (k : Kept) → Fields slots k → Stay WriterS k
held k hs = stay_declared (struct_at name (named 0 ∷ []) slots) k (stay_struct_at name (named 0 ∷ []) slots k hs) Writer (λ κs. (T.the_type (named_lft 1 0 tt κs)).to) (λ κs. (T.the_type (named_lft 1 0 tt κs)).to_one)

abbrev gives : Fields slots yes
gives = (gave_slice (0 ∷ []) tt (plain (λ _. u16)), (stay_none (λ _. usize) yes, tt))

abbrev spends : Fields slots no
spends = (stay_dropped (mut_slice_of (0 ∷ []) tt (plain (λ _. u16))) no, (stay_none (λ _. usize) no, tt))

abbrev pub writer_gave : Stay WriterS yes
writer_gave = held yes gives

abbrev pub writer_spent : Stay WriterS no
writer_spent = held no spends

module _ {M : Type 1} {𝓤 : Ura M} (𝓛 : Logic 𝓤) where
  held-goes : (k : Kept) (hs : Fields slots k) → FieldsGo 𝓛 1 slots k hs → Goes 𝓛 1 WriterS k (held k hs)
  held-goes k hs gs =
      Goes-declared 𝓛 1 (struct_at name (named 0 ∷ []) slots) k (stay_struct_at name (named 0 ∷ []) slots k hs) Writer (λ κs. (T.the_type (named_lft 1 0 tt κs)).to) (λ κs. (T.the_type (named_lft 1 0 tt κs)).to_one)
      (Goes-struct_at 𝓛 1 name (named 0 ∷ []) slots k hs gs)

  pub writer_gave_goes : Goes 𝓛 1 WriterS yes writer_gave
  writer_gave_goes = held-goes yes gives (Goes-gave_slice 𝓛 1 0 tt (plain (λ _. u16)), (Goes-none 𝓛 1 (λ _. usize) yes (λ κs x f. refl), tt))

  pub writer_spent_goes : Goes 𝓛 1 WriterS no writer_spent
  writer_spent_goes = held-goes no spends (Goes-spent_slice 𝓛 1 (0 ∷ []) tt (plain (λ _. u16)), (Goes-none 𝓛 1 (λ _. usize) no (λ κs x f. refl), tt))

  -- ---- what a writer owns
  module _ (κ : Lft) where
    pub slice-of : (h : Writer) (v : Val) → ent 𝓤 (sem 𝓛 ((WriterAt κ).own_val h (v ∷ []))) (sem 𝓛 ((ParcelsAt κ).own_val h.parcels (slice_of h.parcels ∷ [])))
    slice-of h v =
        qed 𝓛 (‵ ((WriterAt κ).own_val h (v ∷ [])) ∷ []) ∵
        use1 𝓛 (given (v ∷ [] ≡ T'.lowered h ∷ []) (‵ (all_own (T.the_type (at_lft κ)).parts (T'.the_laws (at_lft κ)) (h.parcels, (h.at, tt))))) (own_open 𝓛 (T.the_type (at_lft κ)) (T'.the_laws (at_lft κ)) (h.parcels, (h.at, tt)) v) $
        learn ! (λ _. fsplit ! $ move ! (1 ∷ []) $ drop ! $ done !)

    -- a writer, of what is had of its slice, P, and a number
    whole : (P : List Val → Fml) (s : Val) (n : ℕ) → n < 2 ^ 64 → ent 𝓤 (sem 𝓛 (P (s ∷ []))) (sem 𝓛 (in_struct (ParcelsAt κ ∷ usize ∷ []) (writer_val s n ∷ []) (λ vss. fsep (P vss.0) (fsep (usize.own_val n vss.1.0) ftrue))))
    whole P s n fits =
        qed 𝓛 (‵ (P (s ∷ [])) ∷ []) ∵ nothing ! $ and_number ! n fits $ move ! (1 ∷ 0 ∷ []) $ fjoin ! $
        by ! (makes 𝓛 (ParcelsAt κ ∷ usize ∷ []) (λ vss. fsep (P vss.0) (fsep (usize.own_val n vss.1.0) ftrue)) (s ∷ [], (vint w64 n ∷ [], tt)))

    pub writer_of : (h : Writer) (s : Val) → h.at < 2 ^ 64 → ent 𝓤 (sem 𝓛 ((ParcelsAt κ).own_val h.parcels (s ∷ []))) (sem 𝓛 ((WriterAt κ).own_val h (writer_val s h.at ∷ [])))
    writer_of h s fits = whole ((ParcelsAt κ).own_val h.parcels) s h.at fits

    pub spent_had : (h : Writer) (s : Val) → h.at < 2 ^ 64 → ent 𝓤 (emp 𝓤) (sem 𝓛 (writer_spent.has (κ, tt) h (tt, tt) (writer_val s h.at ∷ [])))
    spent_had h s fits = whole (λ _. ftrue) s h.at fits

    -- what is had of a slice that the body has passed on: what says its last list, and the borrow, closed again
    abbrev pub GaveParcels : Writer → List ℕ → Fml
    GaveParcels h zs = (gave_slice {n = 1} (0 ∷ []) tt (plain (λ _. u16))).has (κ, tt) h.parcels zs (slice_of h.parcels ∷ [])

    pub gave_had : (h : Writer) (s : Val) (zs : List ℕ) → h.at < 2 ^ 64 → ent 𝓤 (sem 𝓛 (GaveParcels h zs)) (sem 𝓛 (writer_gave.has (κ, tt) h (zs, tt) (writer_val s h.at ∷ [])))
    gave_had h s zs fits = whole (λ _. GaveParcels h zs) s h.at fits
