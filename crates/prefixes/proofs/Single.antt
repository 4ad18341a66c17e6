-- Among rows that pass no label name occurs twice.
use Prim.Native.Nat.{ℕ, zero, suc, ◌<◌}
use mathlib.Core.Path.{◌≡◌, refl, sym, ap, ap₂, ◌∙◌}
use mathlib.Core.Logic.{⊎_elim}
use mathlib.Core.Bool.{Bool, true, ◌&&◌}
use mathlib.Core.List.{List}
use lib.Dec.{eqb}
use lib.ListN.{get_or}
use borrow.Author.Tests.{eqb-true}
use Rattle.refusals.proofs.Order.{AllPass, when-good}
use Rattle.std.specs.Prelude.{Ok, Err}
use Rattle.coded.specs.Coded.{Coded}
use Rattle.items.specs.declared.Item.TheVariants.{Instruction, Label, Jump, LoopBegin, LoopEnd}
use Rattle.places.specs.declared.Rooms.{Rooms}
use Rattle.places.specs.Items.{Kernel}
use Rattle.places.specs.Looking.{same_from, bears}
use Rattle.places.specs.Verdict.{verdict_at}
use Rattle.prefixes.proofs.Tests.{true_false, and_both}
use Rattle.prefixes.proofs.Looking.{None, Once, not_found, at-nothing, earliest-row}
use Rattle.prefixes.proofs.Passing.{passed}

-- no label name occurs twice among the first n items: before a label that bears a name none does
abbrev pub Single : Kernel → ℕ → Type 0
Single k n = (a b : ℕ) → Once (λ q. bears k.names a b (k.it q)) n

-- what is the same as c is the same as a, where these are the same
same_through : (names : List ℕ) (n x a c : ℕ) → same_from names n c a ≡ true → same_from names n x c ≡ same_from names n x a
same_through names zero x a c e = refl
same_through names (suc n) x a c e =
    let s = and_both _ _ e in
    ap₂ (λ (y : ℕ) (t : Bool). eqb (get_or names x 0) y && t) (eqb-true (get_or names c 0) (get_or names a 0) s.0) (same_through names n (suc x) (suc a) (suc c) s.1)

module _ (k : Kernel) (r : Rooms) (n : ℕ) (all : AllPass (verdict_at k r) n) where
  open k use {names, it}

  -- the label of row q bears the name at a of length b
  label-once : (a b q c d : ℕ) → q < n → it q ≡ Ok (Label c d) → (eqb d b && same_from names b c a) ≡ true → None (λ i. bears names a b (it i)) q
  label-once a b q c d h e t =
      let s = and_both _ _ t in
      let l : d ≡ b = eqb-true d b s.0 in
      let z = not_found _ (when-good _ _ (passed k r q (all q h) (Ok (Label c d)) e).1.0) in
      ⊎_elim
      (λ x i u. sym (alike (it i) l s.1) ∙ x.0 i u)
      (λ x. absurd (at-nothing x.0 (sym x.2 ∙ z)))
      (earliest-row (λ i. bears names c d (it i)) q)
    where
      alike : (x : Coded) → d ≡ b → same_from names b c a ≡ true → bears names c d x ≡ bears names a b x
      alike x l s = rw (l, same_through names b _ a c s) refl

  pub single : Single k n
  single a b q h e = go (it q) refl
    where
      go : (x : Coded) → it q ≡ x → None (λ i. bears names a b (it i)) q
      go (Ok (Instruction v)) f = absurd (true_false e (ap (bears names a b) f))
      go (Ok (Label c d)) f = label-once a b q c d h f (sym (ap (bears names a b) f) ∙ e)
      go (Ok (Jump j c d)) f = absurd (true_false e (ap (bears names a b) f))
      go (Ok (LoopBegin c m)) f = absurd (true_false e (ap (bears names a b) f))
      go (Ok LoopEnd) f = absurd (true_false e (ap (bears names a b) f))
      go (Err why) f = absurd (true_false e (ap (bears names a b) f))
