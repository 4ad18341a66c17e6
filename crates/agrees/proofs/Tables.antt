-- The label entries and the waiting jumps once i rows are taken in: each row adds what the items say of it.
use mathlib.Core.Path.{◌≡◌, refl, ap}
use mathlib.Core.List.{[], ◌∷◌}
use Prim.Native.Nat.{ℕ, suc, ◌*◌}
use lib.Seq.{sets}
use Rattle.items.specs.declared.Item.TheVariants.{Instruction, Label, Jump, LoopBegin, LoopEnd}
use Rattle.std.specs.Prelude.{Ok, Err}
use Rattle.coded.specs.Coded.{Coded}
use Rattle.places.specs.Items.{Kernel, is_label, is_jump, total, address_of}
use Rattle.places.specs.Left.{Lent, left}
use Rattle.tables.specs.Held.{HoldsLabels}
use Rattle.tables.proofs.Held.{HoldsJumps, labels-held, jumps-held}
use Rattle.machine.specs.declared.State.{State}
use Rattle.machine.specs.Machine.{Mem, next}
use Rattle.agrees.proofs.Prefix.{mem, state_is}
use Rattle.agrees.proofs.Fits.{Fits}

module _ (k : Kernel) (lent : Lent) where
  abbrev M : ℕ → Mem
  M i = mem k.it lent i

  next-L : (i : ℕ) (x : Coded) → (next i x (M i)).lent.labels ≡ sets (M i).lent.labels (3 * total is_label k.it i) (left k i x).labels
  next-L i (Ok (Instruction v)) = refl
  next-L i (Ok (Label a b)) = ap (λ (s : State). sets (M i).lent.labels (3 * s.labels) (a ∷ b ∷ address_of s.at ∷ [])) (state_is k.it lent i)
  next-L i (Ok (Jump c a b)) = refl
  next-L i (Ok (LoopBegin c m)) = refl
  next-L i (Ok LoopEnd) = refl
  next-L i (Err why) = refl

  next-J : (i : ℕ) (x : Coded) → (next i x (M i)).lent.jumps ≡ sets (M i).lent.jumps (2 * total is_jump k.it i) (left k i x).jumps
  next-J i (Ok (Instruction v)) = refl
  next-J i (Ok (Label a b)) = refl
  next-J i (Ok (Jump c a b)) = ap (λ (s : State). sets (M i).lent.jumps (2 * s.jumps) (s.at ∷ i ∷ [])) (state_is k.it lent i)
  next-J i (Ok (LoopBegin c m)) = refl
  next-J i (Ok LoopEnd) = refl
  next-J i (Err why) = refl

  pub labels-step : (i : ℕ) → (mem k.it lent (suc i)).lent.labels ≡ sets (mem k.it lent i).lent.labels (3 * total is_label k.it i) (left k i (k.it i)).labels
  labels-step i = next-L i (k.it i)

  pub jumps-step : (i : ℕ) → (mem k.it lent (suc i)).lent.jumps ≡ sets (mem k.it lent i).lent.jumps (2 * total is_jump k.it i) (left k i (k.it i)).jumps
  jumps-step i = next-J i (k.it i)

  module _ (i : ℕ) (f : Fits k.it lent i) where
    pub entries-held : HoldsLabels k.it i (mem k.it lent i).lent.labels
    entries-held = labels-held k (λ q. (M q).lent.labels) labels-step i f.labels

    pub waiting-held : HoldsJumps k.it i (mem k.it lent i).lent.jumps
    waiting-held = jumps-held k (λ q. (M q).lent.jumps) jumps-step i f.jumps
