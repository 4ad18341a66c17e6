-- The label entries and the waiting jumps of the first rows in a lent table: the items' entries in order, and after them what was lent.
use mathlib.Core.Path.{◌≡◌, refl, sym, ap, ◌∙◌}
use mathlib.Core.List.{List, ◌∷◌, [], ◌++◌}
use Prim.Native.Nat.{ℕ, suc, ◌+◌, ◌*◌, ◌≤◌, ◌<◌}
use native.Mathlib.Omega.{arith}
use native.Mathlib.Nat.{mul-add, mul-zero}
use lib.ListN.{length, get_or, drop}
use lib.Seq.{sets}
use Rattle.items.specs.declared.Item.TheVariants.{Instruction, Label, Jump, LoopBegin, LoopEnd}
use Rattle.std.specs.Prelude.{Ok, Err}
use Rattle.coded.specs.Coded.{Coded}
use Rattle.places.specs.Items.{Kernel, is_label, is_jump, total, place, address, label_width, jump_width}
use Rattle.places.specs.Left.{left, gather}
use Rattle.tables.specs.Held.{HoldsLabels}
use Rattle.tables.proofs.Stores.{gather-length, table_is, table_at}
use Rattle.tables.proofs.Which.{IsJump}

-- ---- a table of any width
-- row i adds its part: so many numbers for each item that counts
module _ (it : ℕ → Coded) (counts : Coded → ℕ) (width : ℕ) (part : ℕ → List ℕ) (long : (i : ℕ) → length (part i) ≡ width * counts (it i)) where
  abbrev used : ℕ → ℕ
  used i = width * total counts it i

  more : (i : ℕ) → used (suc i) ≡ used i + length (part i)
  more i = mul-add width (total counts it i) (counts (it i)) ∙ ap (λ (y : ℕ). used i + y) (sym (long i))

  pub parts-length : (i : ℕ) → length (gather part i) ≡ width * total counts it i
  parts-length = gather-length part used (mul-zero width) more

  module _ (X : ℕ → List ℕ) (step : (i : ℕ) → X (suc i) ≡ sets (X i) (width * total counts it i) (part i)) (n : ℕ) (room : width * total counts it n ≤ length (X 0)) where
    pub parts_are : X n ≡ gather part n ++ drop (width * total counts it n) (X 0)
    parts_are = table_is X part used (mul-zero width) more step n room

    -- number c of the part of row q
    pub part_at : (q c : ℕ) {vs : List ℕ} → q < n → part q ≡ vs → c < length vs → get_or (X n) (width * total counts it q + c) 0 ≡ get_or vs c 0
    part_at q c h e u = table_at X part used (mul-zero width) more step n q c room h e u

-- ---- the entries of the waiting jumps before n, wherever they stand at their numbers
pub record JumpEntry (it : ℕ → Coded) (T : List ℕ) (q : ℕ) : Type 0 where
  pub place : get_or T (jump_width * total is_jump it q) 0 ≡ place it q
  pub row : get_or T (jump_width * total is_jump it q + 1) 0 ≡ q

abbrev pub HoldsJumps : (ℕ → Coded) → ℕ → List ℕ → Type 0
HoldsJumps it n T = (q : ℕ) → q < n → IsJump (it q) → JumpEntry it T q

-- ---- the two tables of a kernel
plus_zero : (k : ℕ) → k ≡ k + 0
plus_zero k = omega arith

module _ (k : Kernel) where
  abbrev pub entry : ℕ → List ℕ
  entry q = (left k q (k.it q)).labels

  abbrev pub waiting : ℕ → List ℕ
  waiting q = (left k q (k.it q)).jumps

  entry-long : (q : ℕ) (x : Coded) → length (left k q x).labels ≡ label_width * is_label x
  entry-long q (Ok (Instruction v)) = refl
  entry-long q (Ok (Label a b)) = refl
  entry-long q (Ok (Jump c a b)) = refl
  entry-long q (Ok (LoopBegin c m)) = refl
  entry-long q (Ok LoopEnd) = refl
  entry-long q (Err why) = refl

  waiting-long : (q : ℕ) (x : Coded) → length (left k q x).jumps ≡ jump_width * is_jump x
  waiting-long q (Ok (Instruction v)) = refl
  waiting-long q (Ok (Label a b)) = refl
  waiting-long q (Ok (Jump c a b)) = refl
  waiting-long q (Ok (LoopBegin c m)) = refl
  waiting-long q (Ok LoopEnd) = refl
  waiting-long q (Err why) = refl

  pub labels_length : (i : ℕ) → length (gather entry i) ≡ label_width * total is_label k.it i
  labels_length = parts-length k.it is_label label_width entry (λ q. entry-long q (k.it q))

  pub jumps-length : (i : ℕ) → length (gather waiting i) ≡ jump_width * total is_jump k.it i
  jumps-length = parts-length k.it is_jump jump_width waiting (λ q. waiting-long q (k.it q))

  module _ (X : ℕ → List ℕ) (step : (i : ℕ) → X (suc i) ≡ sets (X i) (label_width * total is_label k.it i) (left k i (k.it i)).labels) (n : ℕ) (room : label_width * total is_label k.it n ≤ length (X 0)) where
    pub labels_are : X n ≡ gather (λ q. (left k q (k.it q)).labels) n ++ drop (label_width * total is_label k.it n) (X 0)
    labels_are = parts_are k.it is_label label_width entry (λ q. entry-long q (k.it q)) X step n room

    label_at : (q c a b : ℕ) → q < n → k.it q ≡ Ok (Label a b) → c < 3 → get_or (X n) (label_width * total is_label k.it q + c) 0 ≡ get_or (a ∷ b ∷ address k.it q ∷ []) c 0
    label_at q c a b h e u = part_at k.it is_label label_width entry (λ q. entry-long q (k.it q)) X step n room q c h (ap (λ (x : Coded). (left k q x).labels) e) u

    pub labels-held : HoldsLabels k.it n (X n)
    labels-held q a b h e =
        record {
          start = ap (λ (y : ℕ). get_or (X n) y 0) (plus_zero _) ∙ label_at q 0 a b h e (omega arith);
          len = label_at q 1 a b h e (omega arith);
          address = label_at q 2 a b h e (omega arith);
        }

  module _ (X : ℕ → List ℕ) (step : (i : ℕ) → X (suc i) ≡ sets (X i) (jump_width * total is_jump k.it i) (left k i (k.it i)).jumps) (n : ℕ) (room : jump_width * total is_jump k.it n ≤ length (X 0)) where
    pub jumps_are : X n ≡ gather (λ q. (left k q (k.it q)).jumps) n ++ drop (jump_width * total is_jump k.it n) (X 0)
    jumps_are = parts_are k.it is_jump jump_width waiting (λ q. waiting-long q (k.it q)) X step n room

    jump-at : (q c : ℕ) → q < n → IsJump (k.it q) → c < 2 → get_or (X n) (jump_width * total is_jump k.it q + c) 0 ≡ get_or (place k.it q ∷ q ∷ []) c 0
    jump-at q c h y u = part_at k.it is_jump jump_width waiting (λ q. waiting-long q (k.it q)) X step n room q c h (ap (λ (x : Coded). (left k q x).jumps) y.jump) u

    pub jumps-held : HoldsJumps k.it n (X n)
    jumps-held q h y =
        record {
          place = ap (λ (z : ℕ). get_or (X n) z 0) (plus_zero _) ∙ jump-at q 0 h y (omega arith);
          row = jump-at q 1 h y (omega arith);
        }
