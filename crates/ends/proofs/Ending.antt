-- Looking on for the end of a loop.
use Prim.Native.Nat.{ℕ, suc, ◌+◌, ◌-◌, ◌≤◌, ◌<◌}
use native.Mathlib.Omega.{arith}
use native.Mathlib.Numerals.{add-one}
use mathlib.Core.Path.{◌≡◌, refl}
use Rattle.coded.specs.Coded.{Coded}
use Rattle.places.specs.Items.{about, size, place, nest}
use Rattle.places.specs.Looking.{at, closer}
use Rattle.prefixes.proofs.Traits.{one_way}
use Rattle.prefixes.proofs.Nesting.{OpenAt, nest-opens, open_now, still_open, closer-is}
use Rattle.ends.specs.Ends.{Closed}

module _ (it : ℕ → Coded) (start : ℕ) where
  pub record Inside (i depth : ℕ) : Type 0 where
    pub open_at : OpenAt it start i
    pub level : nest it i ≡ nest it start + depth
    pub some : 0 < depth
    pub few : depth + start ≤ i

  pub inside-start : (about (it start)).opens ≡ 1 → Inside (start + 1) 1
  inside-start o = rw add-one (record { open_at = open_now it start o; level = nest-opens it start o; some = omega arith; few = omega arith })

  module _ {i depth : ℕ} (b : Inside i depth) where
    pub inside-fits : (about (it i)).closes ≤ depth + (about (it i)).opens
    inside-fits = let w = one_way (it i) in omega (arith, b.some)

    pub inside_found : (n : ℕ) → Closed it n → i < n → depth + (about (it i)).opens - (about (it i)).closes ≡ 0 → closer it n start ≡ at i
    inside_found n c h z =
        let w = one_way (it i) in
        let d : depth ≡ 1 = omega (arith, b.some) in
        let k : (about (it i)).closes ≡ 1 = omega (arith, b.some) in
        closer-is it n start i c h k b.open_at (let l = b.level in omega arith)

    pub inside_not : (n : ℕ) → i ≤ n → n ≤ i → nest it n ≡ 0 → ⊥
    inside_not n u v z = let e : i ≡ n = omega arith in let l : nest it n ≡ nest it start + depth = rw e at b.level in omega (arith, b.some)

    pub inside_on : (depth + (about (it i)).opens - (about (it i)).closes ≡ 0 → ⊥) → Inside (i + 1) (depth + (about (it i)).opens - (about (it i)).closes)
    inside_on z = rw add-one (go (depth + (about (it i)).opens - (about (it i)).closes) refl z)
      where
        go : (d : ℕ) → depth + (about (it i)).opens - (about (it i)).closes ≡ d → (d ≡ 0 → ⊥) → Inside (suc i) d
        go d e z =
            let w = one_way (it i) in
            let l = b.level in
            let s = b.some in
            let y : nest it (suc i) ≡ nest it start + d = omega arith in
            let p : 0 < d = omega arith in
            record { open_at = still_open it b.open_at (omega arith); level = y; some = p; few = omega (arith, b.few) }

-- ---- the parcels from a row on
pub place-next : (it : ℕ → Coded) (i : ℕ) → place it (i + 1) ≡ place it i + size (it i)
place-next it i = rw add-one refl

pub arrived : (it : ℕ → Coded) {a i to : ℕ} → i ≤ to → to ≤ i → a ≡ place it i → a ≡ place it to
arrived it {i} {to} u v e = let z : i ≡ to = omega arith in rw (← z) e
