-- What a row comes to is fine, by what the row may hold.
use Prim.Native.Nat.{ℕ, ◌+◌, ◌%◌, ◌≤◌, ◌<◌}
use mathlib.Core.List.{List}
use mathlib.Core.Bool.{Bool, true, false, cond}
use mathlib.Core.Path.{◌≡◌}
use native.Mathlib.Nat.{mod-lt}
use lib.Dec.{eqb, lit<}
use Rattle.items.specs.declared.Condition.{Condition}
use Rattle.items.specs.declared.LoopMode.{LoopMode}
use Rattle.items.specs.declared.LoopCount.{LoopCount}
use Rattle.items.specs.declared.LoopCount.TheVariants.{Immediate, Register}
use Rattle.std.specs.Prelude.{Ok, Result}
use Rattle.items.specs.declared.Item.{Item}
use Rattle.items.specs.declared.VisaInstruction.{VisaInstruction}
use Rattle.refusals.specs.declared.Refusal.{Refusal}
use Rattle.coded.specs.Coded.{Coded, coded_of}
use Rattle.rows.specs.Fields.{count_of, code}
use Rattle.rows.specs.Rows.{read_of}
use Rattle.rows.proofs.Cases.{read_cases}
use Rattle.items.specs.declared.Item.TheVariants.{Label, Jump, LoopBegin}
use Rattle.coded.specs.Fine.{CountFine, CodedFine}

either : (t : Bool) (a b : LoopCount) → CountFine a → CountFine b → CountFine (cond t a b)
either true a b ha hb = ha
either false a b ha hb = hb

count-fine : (choice v : ℕ) → CountFine (count_of choice v)
unfolding count_of
count-fine choice v =
    let register : v % 256 < 256 = mod-lt v (lit< tt) in
    either (eqb choice 0) (Immediate (v % 65536)) _ (mod-lt v (lit< tt)) (either (eqb choice 1) (Register (code v)) (Register (code v)) register register)

pub coded-fine : (row : List ℕ) (names : ℕ) → CodedFine names (coded_of (read_of row names))
coded-fine row names =
    read_cases (λ (r : Result (Item VisaInstruction) Refusal). CodedFine names (coded_of r)) (λ r. tt) (λ v. tt) names (λ start length h. h) (λ v start length h. h)
    (λ choice v w. count-fine choice v) tt row

-- where it is one with a name or a count
module _ (names : ℕ) (x : Coded) (fine : CodedFine names x) where
  pub label-named : (start length : ℕ) → x ≡ Ok (Label start length) → start + length ≤ names
  label-named start length e = rw e at fine

  pub jump-named : (condition : Condition) (start length : ℕ) → x ≡ Ok (Jump condition start length) → start + length ≤ names
  jump-named condition start length e = rw e at fine

  pub begin_counted : (count : LoopCount) (mode : LoopMode) → x ≡ Ok (LoopBegin count mode) → CountFine count
  begin_counted count mode e = rw e at fine
