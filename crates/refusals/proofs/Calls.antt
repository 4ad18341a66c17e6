-- Every number that is listed for a call is one of the table; so no answer has the number 3. And how a call's answer comes to be listed.
use mathlib.Core.Path.{◌≡◌, refl, sym, subst}
use mathlib.Core.Bool.{true, true≢false}
use mathlib.Core.List.{◌∷◌}
use Prim.Native.Nat.{ℕ}
use Rattle.refusals.specs.declared.Told.{Told}
use Rattle.std.specs.Prelude.{Ok, Err}
use Rattle.refusals.specs.Answers.{Verdict}
use Rattle.refusals.specs.Numbers.{among, answer_in, answered}
use Rattle.refusals.specs.Calls.{Call, one_instruction, build, parcel_count, instruction_count, slot_check, parcel_bytes, reads_back, widen, numbers_of, Listed}
use Rattle.refusals.proofs.Numbered.{numbers}
use Rattle.refusals.proofs.Within.{Tells, part, wider}

known : (call : Call) → part (0 ∷ numbers_of call) (0 ∷ numbers) ≡ true
known one_instruction = refl
known build = refl
known parcel_count = refl
known instruction_count = refl
known slot_check = refl
known parcel_bytes = refl
known reads_back = refl
known widen = refl

pub listed-known : (call : Call) (n : ℕ) → Listed call n → among (0 ∷ numbers) n ≡ true
listed-known call n listed = wider (0 ∷ numbers_of call) (0 ∷ numbers) n (known call) listed

-- THE THEOREM: 3 is unused
pub never-three : (call : Call) {n : ℕ} → Listed call n → n ≡ 3 → ⊥
never-three call {n} listed e = true≢false (sym (subst (λ (m : ℕ). among (0 ∷ numbers) m ≡ true) e (listed-known call n listed)))

-- ---- a call answers what its verdict tells, whatever row that names and whatever is counted
answer-tells : (call : Call) (row : ℕ) (v : Verdict) (n : ℕ) → Tells (numbers_of call) v → Listed call (answered (answer_in row v n)).number
answer-tells call row (Ok _) n h = refl
answer-tells call row (Err r) n h = h

pub answer-listed : (call : Call) (row : ℕ) (v : Verdict) (n : ℕ) {t : Told} → t ≡ answered (answer_in row v n) → Tells (numbers_of call) v → Listed call t.number
answer-listed call row v n e h = subst (λ (t : Told). Listed call t.number) (sym e) (answer-tells call row v n h)
