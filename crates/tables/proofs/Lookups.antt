-- A table that holds the entries of the label rows: its search finds what the items say, the address of the row that bears the name,
-- and its entries lie in the names. `newest-entry` is the only law about the order of the search.
use mathlib.Core.Path.{◌≡◌, refl, sym, ap, ◌∙◌, subst}
use mathlib.Core.Logic.{⊎_elim}
use mathlib.Core.Bool.{Bool, true, false, cond}
use mathlib.Core.List.{List}
use Prim.Native.Nat.{ℕ, zero, suc, ◌+◌, ◌*◌, ◌≤◌, ◌<◌}
use native.Mathlib.Omega.{arith}
use lib.ListN.{length, get_or}
use Rattle.std.specs.Prelude.{Some, None, Option}
use Rattle.coded.specs.Coded.{Coded}
use Rattle.coded.proofs.Fine.{label-named}
use Rattle.places.specs.Items.{Kernel, is_label, total, address}
use Rattle.places.specs.Looking.{Found, at, nothing, is_found, newest, bears, labelled}
use Rattle.prefixes.proofs.Looking.{newest-found, newest-earliest, pick_false}
use Rattle.prefixes.proofs.Single.{Single}
use Rattle.tables.specs.Tables.{entry_is, lookup, is_there, Entries, KernelFine}
use Rattle.tables.proofs.Which.{IsLabel, label_or_not, label-row}
use Rattle.tables.specs.Held.{HoldsLabels}

-- the address of the row that was found
abbrev pub placed : (ℕ → Coded) → Found → Option ℕ
placed it (at row) = Some (address it row)
placed it nothing = None

there-is : (it : ℕ → Coded) (f : Found) → is_there (placed it f) ≡ is_found f
there-is it (at row) = refl
there-is it nothing = refl

pick_placed : (it : ℕ → Coded) (t : Bool) (i : ℕ) (f : Found) → cond t (Some (address it i)) (placed it f) ≡ placed it (cond t (at i) f)
pick_placed it true i f = refl
pick_placed it false i f = refl

module _ (k : Kernel) (n : ℕ) (T : List ℕ) (held : HoldsLabels k.it n T) where
  abbrev it : ℕ → Coded
  it = k.it

  module _ (a b : ℕ) where
    abbrev bearing : ℕ → Bool
    bearing q = bears k.names a b (it q)

    abbrev Here : ℕ → Type 0
    Here i = lookup k.names T a b (total is_label it i) ≡ placed it (newest bearing i)

    other : (i : ℕ) → is_label (it i) ≡ 0 → Here i → Here (suc i)
    other i z h =
        let e : bearing i ≡ false = rw z refl in
        ap (lookup k.names T a b) (let w : total is_label it i + is_label (it i) ≡ total is_label it i = omega arith in w) ∙ h
        ∙ ap (placed it) (sym (pick_false (bearing i) (at i) (newest bearing i) e))

    label : (i : ℕ) → i < n → IsLabel (it i) → Here i → Here (suc i)
    label i u y h =
        let e = y.label in
        let t = total is_label it i in
        let one : is_label (it i) ≡ 1 = ap is_label e in
        let g = held i y.start y.len u e in
        let v : entry_is k.names T a b t ≡ bearing i = rw (g.start, g.len, e) refl in
        ap (lookup k.names T a b) (let w : t + is_label (it i) ≡ suc t = omega arith in w)
        ∙ ap (λ (s : Bool). cond s (Some (get_or T (3 * t + 2) 0)) (lookup k.names T a b t)) v
        ∙ ap (λ (p : ℕ). cond (bearing i) (Some p) (lookup k.names T a b t)) g.address
        ∙ ap (cond (bearing i) (Some (address it i))) h
        ∙ pick_placed it (bearing i) i (newest bearing i)

    -- the newest entry of a name is that of the newest row
    newest-entry : (i : ℕ) → i ≤ n → Here i
    newest-entry zero h = refl
    newest-entry (suc i) h = let r = newest-entry i (omega arith) in ⊎_elim (λ z. other i z r) (λ y. label i h y r) (label_or_not (it i))

    -- whether there is a label of the name, and, where names are single, its address
    pub lookup-there : is_there (lookup k.names T a b (total is_label k.it n)) ≡ is_found (labelled k a b n)
    lookup-there = ap is_there (newest-entry n (omega arith)) ∙ there-is it (newest bearing n) ∙ newest-found bearing n

    pub lookup-is : Single k n → lookup k.names T a b (total is_label k.it n) ≡ placed k.it (labelled k a b n)
    lookup-is single = newest-entry n (omega arith) ∙ ap (placed it) (newest-earliest bearing n (single a b))

  -- every entry is the range of a name
  pub entries_in : KernelFine k → Entries k.names T (total is_label k.it n)
  entries_in fine q h =
      let r = label-row it n q h in
      let g = held r.row r.is.start r.is.len r.before r.is.label in
      let named = label-named (length k.names) (it r.row) (fine r.row) r.is.start r.is.len r.is.label in
      subst (λ (y : ℕ). get_or T (3 * y) 0 + get_or T (3 * y + 1) 0 ≤ length k.names) r.number (rw (g.start, g.len) named)
