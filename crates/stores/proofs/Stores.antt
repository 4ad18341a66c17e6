-- A store just past the written front of a lent slice makes the front longer.
use mathlib.Core.Path.{◌≡◌, refl, ap, ◌∙◌}
use mathlib.Core.List.{List, [], ◌∷◌, ◌++◌}
use Prim.Native.Nat.{ℕ, suc, ◌+◌, ◌*◌, ◌≤◌, ◌<◌}
use native.Mathlib.Omega.{arith}
use native.Mathlib.Numerals.{add-one}
use lib.ListN.{length, set, drop, length-append, length-drop}
use lib.Seq.{paste, take_at, take_all, drop-cons, drop-drop, drop-append-add, drop_at, set_at, append_snoc}
use Rattle.rows.specs.Rows.{row_width}
use Rattle.stores.specs.Stores.{Begins}

module _ {old : List ℕ} where
  pub begins : {front new : List ℕ} {n : ℕ} → length front ≡ n → n ≤ length old → new ≡ front ++ drop n old → Begins old front n new
  begins long fits here =
      record { long = long; fits = fits; here = here; same = ap length here ∙ simp (length-append, length-drop) (omega arith) }

  pub begins_unwritten : Begins old [] 0 old
  begins_unwritten = begins refl (omega arith) refl

  module _ {front new : List ℕ} {n : ℕ} (b : Begins old front n new) where
    -- one number more
    pub begins-one : (x : ℕ) → n < length old → Begins old (front ++ x ∷ []) (n + 1) (set new n x)
    begins-one x room =
        begins
        (simp length-append (omega (arith, b.long)))
        (omega arith)
        (rw (b.here, drop-cons old n 0 room, set_at front _ _ x n b.long, add-one n, append_snoc front x (drop (suc n) old)))

    -- a run of numbers more
    pub begins-run : (run : List ℕ) {m next : ℕ} {new' : List ℕ} → length run ≡ m → n + m ≡ next → next ≤ length old → new' ≡ paste new n run m → Begins old (front ++ run) next new'
    begins-run run {m} {next} wide e room stored =
        let rest : drop (n + m) (front ++ drop n old) ≡ drop next old = rw (← e, ← b.long) (drop-append-add front _ m ∙ drop-drop m _ old) in
        begins
        (simp length-append (omega (arith, b.long)))
        room
        (stored ∙ rw (b.here, take_at front (drop n old) n b.long, take_all m run (omega arith), rest))

    -- past the front it is the old
    pub begins-past : drop n new ≡ drop n old
    begins-past = rw b.here (drop_at front (drop n old) n b.long)

-- the next row starts where the one before ends
pub row-after : (i : ℕ) → i * row_width + row_width ≡ (i + 1) * row_width
row-after i = omega arith
