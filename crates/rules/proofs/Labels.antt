-- Rule 2: each label is the first of its name exactly when no name occurs twice, and a jump reaches the label that bears its name.
use Prim.Native.Nat.{ℕ, ◌+◌, ◌≤◌, ◌<◌}
use native.Mathlib.Omega.{arith}
use mathlib.Core.Path.{◌≡◌, refl, sym, ap, ◌∙◌, subst}
use mathlib.Core.Logic.{⊎_elim}
use mathlib.Core.Bool.{false}
use lib.ListN.{length}
use Rattle.items.specs.declared.Condition.{Condition}
use Rattle.items.specs.declared.Item.TheVariants.{Label, Jump}
use Rattle.std.specs.Prelude.{Ok}
use Rattle.coded.specs.Coded.{Coded}
use Rattle.encode.proofs.Reach.{jump-reach}
use Rattle.places.specs.declared.Rooms.{Rooms}
use Rattle.places.specs.Items.{Kernel, address}
use Rattle.places.specs.Looking.{Found, at, bears, labelled, is_found}
use Rattle.places.specs.Verdict.{reach, reaches}
use Rattle.prefixes.proofs.Tests.{true_false, same_row}
use Rattle.refusals.proofs.Order.{refused-good}
use Rattle.prefixes.proofs.Looking.{earliest-row}
use Rattle.prefixes.proofs.Names.{Named, bears-label, label-bears}
use Rattle.prefixes.proofs.Single.{single}
use Rattle.rules.specs.Rules.{SameName, Aimed, Rule2}
use Rattle.rules.specs.WhichRow.{RowsPass}
use Rattle.rules.proofs.Rows.{JumpsReach}

module _ (k : Kernel) (named : Named k) where
  open k use {names, it, n}

  -- ---- where the rows pass and the jumps reach
  module _ (r : Rooms) (rows : RowsPass k r) (jumps : JumpsReach k) where
    twice : (i j a b c d : ℕ) → i < j → j < n → it i ≡ Ok (Label a b) → it j ≡ Ok (Label c d) → SameName names a b c d → ⊥
    twice i j a b c d l h e f s =
        let g = named.label j c d f in
        true_false (label-bears names c d g (it i) a b (named.label i a b e) e s) (single k r n rows c d j h (label-bears names c d g (it j) c d g f refl) i l)

    aimed : (i : ℕ) → i < n → (c : Condition) (a b : ℕ) → it i ≡ Ok (Jump c a b) → Aimed k i a b
    aimed i h c a b e =
        ⊎_elim (λ x. absurd (refused-good _ (subst (λ (f : Found). reach it c i a b f ≡ Ok tt) x.1 good)))
        (λ x.
        let q = x.0 in
        let w = x.1 in
        let l = bears-label names a b (named.jump i c a b e) (it q) (named.label q) w.holds in
        let g = (jump-reach c (address it q) (address it i) false).0 (subst (λ (f : Found). reach it c i a b f ≡ Ok tt) x.2 good) in
        record {
          row = q;
          start = l.start;
          length = l.len;
          within = w.before;
          label = l.label;
          name = l.name;
          not_below = omega (arith, g.0);
          not_above = omega (arith, g.1);
        })
        (earliest-row (λ q. bears names a b (it q)) n)
      where
        good : reach it c i a b (labelled k a b n) ≡ Ok tt
        good = subst (λ (y : Coded). reaches k i y ≡ Ok tt) e (jumps i h)

    pub rule2 : Rule2 k
    rule2 =
        record {
          once = λ i j a b c d h g e f s. same_row i j (λ l. twice i j a b c d l (omega arith) e f s) (λ l. twice j i c d a b l (omega arith) f e (sym s));
          aimed = aimed;
        }

  -- ---- where rule 2 holds
  module _ (rule : Rule2 k) where
    pub unique : (i a b : ℕ) → i < n → it i ≡ Ok (Label a b) → is_found (labelled k a b i) ≡ false
    unique i a b h e =
        ⊎_elim (λ x. ap is_found x.1)
        (λ x.
        let q = x.0 in
        let w = x.1.before in
        let l = bears-label names a b (named.label i a b e) (it q) (named.label q) x.1.holds in
        let z = rule.once q i l.start l.len a b (omega arith) (omega arith) l.label e l.name in
        absurd (omega arith))
        (earliest-row (λ q. bears names a b (it q)) i)

    -- the label that bears a name is the one that is found
    pub labelled-is : (a b q s t : ℕ) → a + b ≤ length names → q < n → it q ≡ Ok (Label s t) → SameName names s t a b → labelled k a b n ≡ at q
    labelled-is a b q s t h g e m =
        ⊎_elim (λ x. absurd (true_false (label-bears names a b h (it q) s t (named.label q s t e) e m) (x.0 q g)))
        (λ x.
        let l = bears-label names a b h (it x.0) (named.label x.0) x.1.holds in
        x.2 ∙ ap at (rule.once x.0 q l.start l.len s t (omega (arith, x.1.before)) (omega arith) l.label e (l.name ∙ sym m)))
        (earliest-row (λ q. bears names a b (it q)) n)

    pub jump-reaches : (i : ℕ) → i < n → (c : Condition) (a b : ℕ) → it i ≡ Ok (Jump c a b) → reach it c i a b (labelled k a b n) ≡ Ok tt
    jump-reaches i h c a b e =
        let g = rule.aimed i h c a b e in
        let f = labelled-is a b g.row g.start g.length (named.jump i c a b e) g.within g.label g.name in
        subst (λ (f : Found). reach it c i a b f ≡ Ok tt) (sym f) ((jump-reach c (address it g.row) (address it i) false).1 (omega (arith, g.not_below, g.not_above)))
