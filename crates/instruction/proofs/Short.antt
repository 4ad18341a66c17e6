-- What the short way gives is what the long way gives.
use mathlib.Core.Path.{◌≡◌, sym, ap, ap₂, ◌∙◌, subst}
use mathlib.Core.Bool.{Bool, true, false}
use mathlib.Core.Logic.{◌⊎◌, inl, inr}
use mathlib.Core.List.{List}
use Prim.Native.Nat.{ℕ, zero, suc, ◌+◌}
use native.Mathlib.Omega.{arith}
use lib.ListN.{length, take}
use lib.Seq.{sets, take-length}
use lib.Dec.{eqb}
use Rattle.std.specs.Prelude.{Result}
use Rattle.encode.specs.declared.Form.{Form}
use Rattle.refusals.specs.declared.Refusal.{Refusal}
use Rattle.items.specs.declared.Item.{Item}
use Rattle.items.specs.declared.VisaInstruction.{VisaInstruction}
use Rattle.encode.specs.Encoding.{form_parcels}
use Rattle.bounds.specs.Tables.{at}
use Rattle.rows.specs.Rows.{read_of}
use Rattle.coded.specs.Coded.{coded_of}
use Rattle.places.specs.Items.{row_count}
use Rattle.runs.specs.declared.Run.{Run}
use Rattle.runs.specs.Runs.{Ran, Runs, row_in}
use Rattle.instruction.specs.Instruction.{held_form, is_mark, form_at}
use Rattle.instruction.specs.Short.{Shown}

abbrev pub start : Run
start = record { row = 0; at = 0; count = 0; last = 0; short = 0; shortat = 0 }

-- a run goes on by a row a turn
ran-rows : (rows : List ℕ) (room : ℕ) (free : Bool) (p : List ℕ) (n : ℕ) (x : Run) (q : List ℕ) → Ran rows room free start p n x q → x.row ≡ n
ran-rows rows room free p zero x q (e, d) = ap (λ (y : Run). y.row) e
ran-rows rows room free p (suc n) x q h = let i = ran-rows rows room free p n h.x h.p h.before in ap (λ (y : Run). y.row) h.taken.on ∙ omega (arith, i)

module _ (row : List ℕ) (n : length row ≡ 17) (mark : is_mark (at row 0) ≡ false) (p : List ℕ) where
  one : row_count row ≡ 1
  one = rw n

  whole : row_in row 0 ≡ row
  whole = subst (λ (l : ℕ). take l row ≡ row) n (take-length row)

  form_of : {f : (Result Form Refusal)} → held_form (coded_of (read_of row 0)) ≡ f → form_at row ≡ f
  unfolding form_at
  form_of e = rw (ap (λ (l : ℕ). eqb l 17) n, mark) e

  by_rows : (k : ℕ) (x : Run) (q : List ℕ) → Ran row 6 true start p k x q → (x.at ≡ 0) ⊎ Shown row p x.at q
  by_rows zero x q (e, d) = inl (ap (λ (y : Run). y.at) e)
  by_rows (suc zero) x q h =
      let k = h.taken in
      let s : h.x ≡ start = h.before.0 in
      let on : x.at ≡ h.x.at + length (form_parcels k.form) = ap (λ (y : Run). y.at) k.on in
      let first : h.x.at ≡ 0 = ap (λ (y : Run). y.at) s in
      let w : row_in row h.x.row ≡ row = ap (λ (y : Run). row_in row y.row) s ∙ whole in
      inr
      (record {
        form = k.form;
        form_is = form_of (ap (λ (r : List ℕ). held_form (coded_of (read_of r 0))) (sym w) ∙ ap (λ (r : Result (Item VisaInstruction) Refusal). held_form (coded_of r)) (k.seen.reads 0) ∙ k.seen.encodes);
        encodes = k.encodes;
        counted = omega (arith, on, first);
        places = k.parcels ∙ ap₂ (λ (l : List ℕ) (a : ℕ). sets l a (form_parcels k.form)) h.before.1 first;
      })
  by_rows (suc (suc k)) x q h = let i = ran-rows row 6 true p (suc k) h.x h.p h.before in let l = h.taken.left in absurd (omega (arith, i, l, one))

  pub shown : {x : Run} {q : List ℕ} → Runs row 6 true start p x q → (x.at ≡ 0 → ⊥) → Shown row p x.at q
  shown {x} {q} h n = some (by_rows h.rows_taken x q h.ran)
    where
      some : (x.at ≡ 0) ⊎ Shown row p x.at q → Shown row p x.at q
      some (inl e) = absurd (n e)
      some (inr s) = s
