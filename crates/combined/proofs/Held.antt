-- The compute beside a move, or none: its places lie below their bounds, and what it writes is what the row's places say.
use Prim.Native.Nat.{ℕ, ◌+◌, ◌%◌, ◌^◌, ◌≤◌, ◌<◌}
use native.Mathlib.Omega.{arith}
use mathlib.Core.Path.{◌≡◌, refl, sym, subst}
use Rattle.std.specs.Prelude.{Option, Some, None, option_map}
use Rattle.std.specs.Option.{option_or}
use Rattle.std.specs.Bool.{then_some}
use Rattle.std.proofs.lemmas.Option.{none-some, same_Some}
use mathlib.Core.Bool.{Bool, true, false, not, ◌&&◌}
use mathlib.Core.List.{List, [], ◌∷◌}
use lib.Dec.{eqb}
use borrow.Author.Tests.{eqb-true, eq-eqb, ne_eqb}
use Rattle.words.specs.Forms.{is_store}
use Rattle.std.specs.Prelude.{Ok, Some, None, Option}
use Rattle.items.specs.declared.Compute.{Compute}
use Rattle.encode.specs.Registers.{writes}
use Rattle.encode.specs.Layouts.{field_of}
use Rattle.bounds.specs.Tables.{at}
use Rattle.bounds.specs.Bounds.{form, compute}
use Rattle.rows.specs.Fields.{direction_of}
use Rattle.rows.specs.Kept.{Below}
use Rattle.rows.specs.Rows.{beside_of}
use Rattle.combined.specs.Tests.{four, word_of, none_of, bits_beside, written, clash_of}
use Rattle.combined.proofs.Fits.{zero_or_one}
use Rattle.combined.proofs.Fine.{eight, word-fine, low_bits}

pub record Beside (row : List ℕ) (field : ℕ) : Type 0 where
  pub held : Option Compute
  pub below : Below (compute form row) (eight row 1)
  pub makes : beside_of row ≡ Ok held
  pub bits : field_of held ≡ field
  pub clear : (n : ℕ) → n < 16 → written row n ≡ false → writes held n ≡ false

some : (row : List ℕ) (w : ℕ) → word_of row ≡ Some w → Beside row (w % 2 ^ 32)
unfolding beside_of writes
some row w h =
    let f = word-fine row h in
    record {
      held = Some f.held;
      below = f.below form;
      makes = rw (ne_eqb _ _ f.some, f.makes);
      bits = sym (low_bits row w f);
      clear = f.clear;
    }

none-bounds : (row : List ℕ) → at row 1 ≡ 0 → compute form row ≡ 3 ∷ 1 ∷ 1 ∷ 1 ∷ 1 ∷ 1 ∷ 1 ∷ 1 ∷ []
unfolding compute
none-bounds row e = rw e

none : (row : List ℕ) → none_of row ≡ true → Beside row 0
unfolding beside_of writes none_of
none row t =
    let s : four (at row 1) (at row 2) (at row 3) (at row 4) + four (at row 5) (at row 6) (at row 7) (at row 8) ≡ 0 = eqb-true _ 0 t in
    let e : at row 1 ≡ 0 = omega (arith, s) in
    record {
      held = None;
      below = rw (none-bounds row e) (omega (arith, s), (omega (arith, s), (omega (arith, s), (omega (arith, s), (omega (arith, s), (omega (arith, s), (omega (arith, s), (omega (arith, s), tt))))))));
      makes = rw (eq-eqb _ _ e);
      bits = refl;
      clear = λ n l c. refl;
    }

pub held : (row : List ℕ) {field : ℕ} → bits_beside row ≡ Some field → Beside row field
unfolding bits_beside
held row {field} h = go (word_of row) refl h
  where
    none-held : (t : Bool) → none_of row ≡ t → then_some t 0 ≡ Some field → Beside row field
    none-held true e h = subst (λ (n : ℕ). Beside row n) (same_Some _ _ h) (none row e)
    none-held false e h = absurd (none-some _ h)

    go : (o : Option ℕ) → word_of row ≡ o → option_or (option_map (λ word. word % 2 ^ 32) o) (then_some (none_of row) 0) ≡ Some field → Beside row field
    go (Some w) e h = subst (λ (n : ℕ). Beside row n) (same_Some _ _ h) (some row w e)
    go None e h = none-held (none_of row) refl h

-- a direction that loads, and one that stores
pub loading : (d : ℕ) → d ≤ 1 → not (is_store (direction_of d)) ≡ eqb d 0
unfolding direction_of
loading = zero_or_one (λ d. not (is_store (direction_of d)) ≡ eqb d 0) refl refl

pub storing : (d : ℕ) → d ≤ 1 → is_store (direction_of d) ≡ eqb d 1
unfolding direction_of
storing = zero_or_one (λ d. is_store (direction_of d) ≡ eqb d 1) refl refl

-- an access that does not clash writes nothing that the compute writes
pub apart : {row : List ℕ} {field : ℕ} (b : Beside row field) (d n : ℕ) → n < 16 → clash_of row d n ≡ false → (eqb d 0 && writes b.held n) ≡ false
unfolding clash_of
apart {row} b d n l h = go (eqb d 0) h
  where
    go : (t : Bool) → (t && written row n) ≡ false → (t && writes b.held n) ≡ false
    go true h = b.clear n l h
    go false h = refl
