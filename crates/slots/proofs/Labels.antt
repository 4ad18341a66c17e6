-- Labels left out twice are left out; a list is fine exactly where it is without its labels.
use mathlib.Core.Path.{◌≡◌, refl, ap}
use mathlib.Core.Logic.{◌↔◌}
use mathlib.Core.Bool.{Bool, true, false, cond, ◌&&◌, not}
use mathlib.Core.List.{List, [], ◌∷◌, ◌++◌}
use Prim.Native.Nat.{ℕ, zero, suc, ◌<◌}
use native.Mathlib.Omega.{arith}
use lib.ListN.{length, get_or, drop}
use Rattle.std.specs.Prelude.{Ok}
use Rattle.coded.specs.Coded.{Coded, read_verdict}
use Rattle.slots.specs.Slots.{opens, label, unlabelled, filled}
use Rattle.slots.proofs.Others.{label-reads}

-- one item and what is left of the others, with more behind, and once more
joined_by : (x : Coded) (xs ys : List Coded) {zs : List Coded} → zs ≡ xs ++ ys → (b : Bool) → cond b zs (x ∷ zs) ≡ cond b xs (x ∷ xs) ++ ys
joined_by x xs ys h true = h
joined_by x xs ys h false = ap (λ (y : List Coded). x ∷ y) h

pub unlabelled-joined : (xs ys : List Coded) → unlabelled (xs ++ ys) ≡ unlabelled xs ++ unlabelled ys
unlabelled-joined [] ys = refl
unlabelled-joined (x ∷ xs) ys = joined_by x (unlabelled xs) (unlabelled ys) (unlabelled-joined xs ys) (label x)

twice-by : (x : Coded) (xs : List Coded) → unlabelled xs ≡ xs → (b : Bool) → label x ≡ b → unlabelled (cond b xs (x ∷ xs)) ≡ cond b xs (x ∷ xs)
twice-by x xs h true e = h
twice-by x xs h false e = rw e (ap (λ (y : List Coded). x ∷ y) h)

unlabelled-twice : (xs : List Coded) → unlabelled (unlabelled xs) ≡ unlabelled xs
unlabelled-twice [] = refl
unlabelled-twice (x ∷ xs) = twice-by x (unlabelled xs) (unlabelled-twice xs) (label x) refl

-- an item before these is read, and 33 is not met there
abbrev pub Sound : Coded → List Coded → Type 0
Sound x xs = (read_verdict x ≡ Ok tt) × ((opens x && not (filled (unlabelled xs))) ≡ false)

abbrev pub Fine : List Coded → Type 0
Fine [] = Unit {0}
Fine (x ∷ xs) = (ok : Sound x xs) × Fine xs

pub fine-at : (d : Coded) (xs : List Coded) → Fine xs → (k : ℕ) → k < length xs → Sound (get_or xs k d) (drop (suc k) xs)
fine-at d [] f k l = absurd (omega arith)
fine-at d (x ∷ xs) f zero l = f.0
fine-at d (x ∷ xs) f (suc k) l = fine-at d xs f.1 k (omega arith)

pub at-fine : (d : Coded) (xs : List Coded) → ((k : ℕ) → k < length xs → Sound (get_or xs k d) (drop (suc k) xs)) → Fine xs
at-fine d [] h = tt
at-fine d (x ∷ xs) h = (h 0 (omega arith), at-fine d xs (λ k l. h (suc k) (omega arith)))

label-ok : (x : Coded) (xs : List Coded) → label x ≡ true → Sound x xs
label-ok x xs e = let r = label-reads x e in (r.0, rw r.1)

fine-by : (x : Coded) (xs : List Coded) → Fine xs ↔ Fine (unlabelled xs) → (b : Bool) → label x ≡ b → Fine (x ∷ xs) ↔ Fine (cond b (unlabelled xs) (x ∷ unlabelled xs))
fine-by x xs h true e = ((λ f. h.0 f.1), (λ f. (label-ok x xs e, h.1 f)))
fine-by x xs h false e =
    let twice = unlabelled-twice xs in
    ((λ f. (rw twice f.0, h.0 f.1)), (λ f. (rw twice at f.0, h.1 f.1)))

pub fine-unlabelled : (xs : List Coded) → Fine xs ↔ Fine (unlabelled xs)
fine-unlabelled [] = ((λ f. f), (λ f. f))
fine-unlabelled (x ∷ xs) = fine-by x xs (fine-unlabelled xs) (label x) refl
