-- The plain parameters of the walks: a number, `usize`, and an array of k parcels, `[u16; k]`. What they own is had for nothing.
--     words_val             an array's machine value.        words-typed      it has the MIR type of a local
--     number, and_number, and_words        what a number owns; and in front of what the later parameters own, what a number, an array owns
--     number_stay, words_stay      what is had of one at exit.        number-goes, words-goes       its law
--     words-vals, words-tells      an array's machine value is told
--     words-share, words-row       a parcel is shared out at any lifetime, and its row has its laws: what `Lent.antt` asks of what a slice holds
-- Assumes `Logic`.
use mathlib.Core.Path.{refl}
use Prim.Native.Nat.{ℕ, ◌<◌, ◌^◌}
use mathlib.Core.List.{List, [], ◌∷◌, map}
use lib.Dec.{T as Holds}
use seplogic.Ra.Ura.{Ura}
use mir.Syntax.{ty_array, ty_int, w16, w64}
use mir.Val.{Val, WT, has_ty, vint}
use base.Fraction.{full_share}
use base.Fml.{Lft, Fml, fsep}
use types.Logic.{Logic}
use types.Kit.{Item, ‵, Goal, Step, step, ◌$◌, fjoin}
use denote.Laws.{Is, Tells}
use denote.RattleType.{RowLaws}
use denote.Copied.{uint_Copied}
use denote.Shares.{Shares}
use denote.Plain.{uint_row_laws, uint_vals, uint_Tells, uint_Makes, uint_Lawful}
use denote.Builtin.{u16, usize}
use denote.Array.{Array, array_val, array_vals, Array-Tells, Array-Makes, Array-Lawful}
use denote.Exit.{yes}
use denote.Signature.{plain}
use denote.Steps.{owned}
use denote.Triple.Walked.{Stay, stay_none, Goes, Goes-none}

abbrev pub words_val : List ℕ → Val
words_val ws = array_val (map (λ (w : ℕ). vint w16 w) ws)

abbrev pub words-vals : List ℕ → List Val
words-vals = array_vals (uint_vals w16)

pub words-tells : (k : ℕ) → Tells (Array u16 k) (Is (Array u16 k)) words-vals
words-tells = Array-Tells u16 (uint_vals w16) (uint_Tells w16)

pub words-row : RowLaws u16
words-row = uint_row_laws w16

abbrev pub number_stay : Stay {n = 1} (plain (λ _. usize)) yes
number_stay = stay_none (λ _. usize) yes

abbrev pub words_stay : (k : ℕ) → Stay {n = 1} (plain (λ _. Array u16 k)) yes
words_stay k = stay_none (λ _. Array u16 k) yes

module _ {M : Type 1} {𝓤 : Ura M} (𝓛 : Logic 𝓤) where
  pub number-goes : Goes 𝓛 1 (plain (λ _. usize)) yes number_stay
  number-goes = Goes-none 𝓛 1 (λ _. usize) yes (λ κs x f. refl)

  pub words-goes : (k : ℕ) → Goes 𝓛 1 (plain (λ _. Array u16 k)) yes (words_stay k)
  words-goes k = Goes-none 𝓛 1 (λ _. Array u16 k) yes (λ κs x f. refl)

  pub words-share : (l : Lft) → Shares 𝓛 u16 l
  words-share = (uint_Copied 𝓛 w16).shares full_share

  pub words-typed : (k : ℕ) (ws : List ℕ) → Is (Array u16 k) ws (words_val ws ∷ []) → Holds (has_ty (ty_array (ty_int w16) k) (words_val ws)) × WT (words_val ws)
  words-typed k ws is = ((Array-Lawful 𝓛 u16 (uint_Lawful 𝓛 w16) k).typed ws (words_val ws ∷ []) is).0

module _ {M : Type 1} {𝓤 : Ura M} {𝓛 : Logic 𝓤} {K : Type 0} {Γ : List (Item 𝓤)} {G : Goal 𝓤 𝓛.H} where
  pub number : K → (n : ℕ) → n < 2 ^ 64 → Step K 𝓛 (‵ (usize.own_val n (vint w64 n ∷ [])) ∷ Γ) G Γ G
  number t n fits = owned t usize (Is usize) (uint_Makes 𝓛 w64) n (vint w64 n ∷ []) (refl, fits)

module _ {M : Type 1} {𝓤 : Ura M} {𝓛 : Logic 𝓤} {K : Type 0} {Γ : List (Item 𝓤)} {G : Goal 𝓤 𝓛.H} {P : Fml} where
  pub and_number : K → (n : ℕ) → n < 2 ^ 64 → Step K 𝓛 (‵ (fsep (usize.own_val n (vint w64 n ∷ [])) P) ∷ Γ) G (‵ P ∷ Γ) G
  and_number t n fits = step (λ s. number t n fits $ fjoin t $ s)

  pub and_words : K → (k : ℕ) (ws : List ℕ) → Is (Array u16 k) ws (words_val ws ∷ []) → Step K 𝓛 (‵ (fsep ((Array u16 k).own_val ws (words_val ws ∷ [])) P) ∷ Γ) G (‵ P ∷ Γ) G
  and_words t k ws is = step (λ s. owned t (Array u16 k) (Is (Array u16 k)) (Array-Makes 𝓛 u16 (uint_Makes 𝓛 w16) k) ws (words_val ws ∷ []) is $ fjoin t $ s)
