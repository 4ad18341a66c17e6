-- What the second walk has written after i rows.
use mathlib.Core.Path.{◌≡◌, refl, sym, ap, ◌∙◌}
use mathlib.Core.List.{List}
use Prim.Native.Nat.{ℕ, ◌+◌, ◌-◌, ◌≤◌}
use native.Mathlib.Omega.{arith}
use lib.ListN.{length, drop}
use lib.Seq.{drop-drop}
use Rattle.refusals.specs.Scan.{scan_at}
use Rattle.places.specs.Items.{Kernel, size, place}
use Rattle.places.specs.Left.{left, gather}
use Rattle.places.proofs.Emitted.{emits, place-emitted}
use Rattle.prefixes.proofs.Totals.{total-up}
use Rattle.tables.proofs.Stores.{table_is}
use Rattle.tables.proofs.Fronts.{Front, rest-is}
use Rattle.plain.specs.Once.{written}
use Rattle.plain.specs.Plain.{aims}

module _ (k : Kernel) (ps : List ℕ) (room : place k.it k.n ≤ length ps) where
  open k use {it, n}

  abbrev pub walked : ℕ → List ℕ
  walked i = scan_at (aims k) (written k) ps i

  -- its first i rows
  pub walked-is : (i : ℕ) → i ≤ n → Front (walked i) (gather (λ q. (left k q (it q)).parcels) i) ps (place it i)
  walked-is i h =
      record {
        held = table_is walked (λ q. (left k q (it q)).parcels) (place it) refl (λ q. ap (λ (m : ℕ). place it q + m) (sym (emits k q (it q)))) (λ q. refl) i (let u = total-up size it i n h in omega (arith, room));
        many = place-emitted k i;
      }

  pub walked-rest : (i : ℕ) → i ≤ n → drop (place it n) (walked i) ≡ drop (place it n) ps
  walked-rest i h =
      let u = total-up size it i n h in
      let c : place it n - place it i + place it i ≡ place it n = omega arith in
      let d : place it i + (place it n - place it i) ≡ place it n = omega arith in
      cut (walked i) ∙ ap (drop (place it n - place it i)) (rest-is (walked-is i h)) ∙ sym (cut ps)
    where
      cut : (l : List ℕ) → drop (place it n) l ≡ drop (place it n - place it i) (drop (place it i) l)
      cut l =
          let u = total-up size it i n h in
          let d : place it n ≡ place it i + (place it n - place it i) = omega arith in
          ap (λ (m : ℕ). drop m l) d ∙ sym (drop-drop (place it n - place it i) (place it i) l)
