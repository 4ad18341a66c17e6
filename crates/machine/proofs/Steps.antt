-- From a method's contract to the step's, a law for each kind of row: what the method does not write stays in any case.
use mathlib.Core.Path.{◌≡◌}
use mathlib.Core.List.{List}
use Prim.Native.Nat.{ℕ}
use Rattle.refusals.specs.declared.Refusal.{Refusal}
use Rattle.coded.specs.declared.Coding.{Coding}
use Rattle.std.specs.Prelude.{Ok, Result}
use Rattle.coded.specs.Coded.{Coded}
use Rattle.items.specs.declared.Item.TheVariants.{Instruction, Label, LoopEnd}
use Rattle.places.specs.declared.OpenLoop.{OpenLoop}
use Rattle.places.specs.declared.Rooms.{Rooms}
use Rattle.places.specs.Left.{Lent}
use Rattle.checks.specs.Checks.{instruction_chk, label_chk}
use Rattle.machine.specs.declared.State.{State}
use Rattle.machine.specs.declared.Step.{Step}
use Rattle.machine.specs.Machine.{end_chk, Instructed, Labelled, Ended, Stepped, with_parcels, with_labels}
use Rattle.machine.proofs.Checks.{same-either}

module _ {names : List ℕ} {r : Rooms} {x : Coded} {row : ℕ} {s : State} {lent : Lent} {top : OpenLoop} {y : Result Step Refusal} where
  pub step_instruction : {v : Coding} {p' : List ℕ} → x ≡ Ok (Instruction v) → Instructed s r v lent.parcels y p' → Stepped names r x row s lent top y (with_parcels lent p')
  step_instruction {v} e h =
      let c = instruction_chk r s.at s.depth v in
      rw e (record { answer = h.answer; parcels = h.parcels; labels = same-either c _; jumps = same-either c _ })

  pub step_label : {a b : ℕ} {l' : List ℕ} → x ≡ Ok (Label a b) → Labelled names s r lent.labels a b y l' → Stepped names r x row s lent top y (with_labels lent l')
  step_label {a} {b} e h =
      let c = label_chk r s.depth names lent.labels s.labels a b in
      rw e (record { answer = h.answer; parcels = same-either c _; labels = h.labels; jumps = same-either c _ })

  pub step_end : {p' : List ℕ} → x ≡ Ok LoopEnd → Ended s top lent.parcels y p' → Stepped names r x row s lent top y (with_parcels lent p')
  step_end e h =
      let c = end_chk s top in
      rw e (record { answer = h.answer; parcels = h.parcels; labels = same-either c _; jumps = same-either c _ })
