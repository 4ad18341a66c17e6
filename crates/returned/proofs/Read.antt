-- What a row comes to, as what it is read as.
use Prim.Native.Nat.{ℕ}
use native.Mathlib.Omega.{arith}
use mathlib.Core.Path.{◌≡◌, refl}
use Rattle.items.specs.declared.Condition.{Condition}
use Rattle.items.specs.declared.LoopCount.{LoopCount}
use Rattle.items.specs.declared.LoopMode.{LoopMode}
use Rattle.items.specs.declared.VisaInstruction.{VisaInstruction}
use Rattle.items.specs.declared.Item.TheVariants as item
use Rattle.std.specs.Prelude.{Ok, Err, Result}
use Rattle.items.specs.declared.Item.{Item}
use Rattle.refusals.specs.declared.Refusal.{Refusal}
use Rattle.coded.specs.declared.Coding.{Coding}
use Rattle.coded.specs.Coded.{coding_of, coded_of}

pub coded-instruction : (r : Result (Item VisaInstruction) Refusal) (c : Coding) → coded_of r ≡ Ok (item.Instruction c) → (v : VisaInstruction) × (r ≡ Ok (item.Instruction v)) × (c ≡ coding_of v)
coded-instruction (Ok (item.Instruction v)) c e = (v, refl, let y : c ≡ coding_of v = cc in y)
coded-instruction (Ok (item.Label a b)) c e = let z : ◌≡◌ {A = ℕ} 0 1 = cc in absurd (omega arith)
coded-instruction (Ok (item.Jump d a b)) c e = let z : ◌≡◌ {A = ℕ} 0 1 = cc in absurd (omega arith)
coded-instruction (Ok (item.LoopBegin n m)) c e = let z : ◌≡◌ {A = ℕ} 0 1 = cc in absurd (omega arith)
coded-instruction (Ok item.LoopEnd) c e = let z : ◌≡◌ {A = ℕ} 0 1 = cc in absurd (omega arith)
coded-instruction (Err r) c e = let z : ◌≡◌ {A = ℕ} 0 1 = cc in absurd (omega arith)

pub coded-jump : (r : Result (Item VisaInstruction) Refusal) (c : Condition) (a b : ℕ) → coded_of r ≡ Ok (item.Jump c a b) → r ≡ Ok (item.Jump c a b)
coded-jump (Ok (item.Instruction v)) c a b e = let z : ◌≡◌ {A = ℕ} 0 1 = cc in absurd (omega arith)
coded-jump (Ok (item.Label x y)) c a b e = let z : ◌≡◌ {A = ℕ} 0 1 = cc in absurd (omega arith)
coded-jump (Ok (item.Jump d x y)) c a b e = let p : d ≡ c = cc in let q : x ≡ a = cc in let s : y ≡ b = cc in rw (p, q, s)
coded-jump (Ok (item.LoopBegin n m)) c a b e = let z : ◌≡◌ {A = ℕ} 0 1 = cc in absurd (omega arith)
coded-jump (Ok item.LoopEnd) c a b e = let z : ◌≡◌ {A = ℕ} 0 1 = cc in absurd (omega arith)
coded-jump (Err r) c a b e = let z : ◌≡◌ {A = ℕ} 0 1 = cc in absurd (omega arith)

pub coded-loop : (r : Result (Item VisaInstruction) Refusal) (c : LoopCount) (m : LoopMode) → coded_of r ≡ Ok (item.LoopBegin c m) → r ≡ Ok (item.LoopBegin c m)
coded-loop (Ok (item.Instruction v)) c m e = let z : ◌≡◌ {A = ℕ} 0 1 = cc in absurd (omega arith)
coded-loop (Ok (item.Label x y)) c m e = let z : ◌≡◌ {A = ℕ} 0 1 = cc in absurd (omega arith)
coded-loop (Ok (item.Jump d x y)) c m e = let z : ◌≡◌ {A = ℕ} 0 1 = cc in absurd (omega arith)
coded-loop (Ok (item.LoopBegin n o)) c m e = let p : n ≡ c = cc in let q : o ≡ m = cc in rw (p, q)
coded-loop (Ok item.LoopEnd) c m e = let z : ◌≡◌ {A = ℕ} 0 1 = cc in absurd (omega arith)
coded-loop (Err r) c m e = let z : ◌≡◌ {A = ℕ} 0 1 = cc in absurd (omega arith)
