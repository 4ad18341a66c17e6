-- What a build may tell: each refusal of its order has a number of its table, and a name only where a label or a jump has it, in the names.
use mathlib.Core.Path.{◌≡◌, refl}
use mathlib.Core.Bool.{true, false}
use mathlib.Core.List.{List, ◌∷◌}
use Prim.Native.Nat.{ℕ, ◌+◌, ◌≤◌}
use native.Mathlib.Omega.{arith}
use lib.ListN.{length}
use Rattle.refusals.specs.declared.Told.{Told}
use Rattle.refusals.specs.declared.Refusal.{Refusal}
use Rattle.refusals.specs.declared.Refusal.TheVariants.{RowSlice, DuplicateLabel, UndefinedLabel, EmptyLoop, UnclosedLoop, UnmatchedLoopEnd, SharedLoopEnd, LoopTailNotFullWidth, BranchInLoop, LabelInLoop, NoRoomForParcels, NoRoomForLabels, NoRoomForJumps, NoRoomForLoops}
use Rattle.std.specs.Prelude.{Ok, Err}
use Rattle.refusals.specs.Answers.{Verdict}
use Rattle.refusals.specs.Numbers.{told_of, answer_in, answered, among, naming}
use Rattle.refusals.specs.Calls.{reading, encoding, build, numbers_of}
use Rattle.refusals.proofs.Numbered.{checked, numbered}
use Rattle.refusals.proofs.Within.{Tells, tells-wider, part, none, other}
use Rattle.encode.proofs.Numbers.{loop_numbers}
use Rattle.places.specs.Items.{Kernel, kernel_of, address}
use Rattle.places.specs.Looking.{Found, at, nothing, short_one}
use Rattle.places.specs.Verdict.{when_found}
use Rattle.places.specs.Left.{Lent, Builds}
use Rattle.prefixes.proofs.Names.{Named, rows_named}
use Rattle.rules.specs.Tellable.{Tellable}
use Rattle.rules.proofs.Walk.{Holds, build-holds}

module _ (k : Kernel) where
  -- a number of the build's table, and a range in the names
  pub record Sound (v : Verdict) : Type 0 where
    pub tells : Tells (numbers_of build) v
    pub within : (checked v).start + (checked v).length ≤ length k.names

  good : Sound (Ok tt)
  good = record { tells = refl; within = omega arith }

  unnamed : (r : Refusal) → Tells (numbers_of build) (Err r) → among naming (told_of r).number ≡ false → Sound (Err r)
  unnamed r h n = let u = (numbered r).unnamed n in record { tells = h; within = omega (arith, u.0, u.1) }

  named : (r : Refusal) → Tells (numbers_of build) (Err r) → (told_of r).start + (told_of r).length ≤ length k.names → Sound (Err r)
  named r h w = record { tells = h; within = w }

  -- of a shorter list without names
  among_these : (ns : List ℕ) → part (0 ∷ ns) (0 ∷ numbers_of build) ≡ true → none (0 ∷ ns) naming ≡ true → (v : Verdict) → Tells ns v → Sound v
  among_these ns p n (Ok _) h = good
  among_these ns p n (Err r) h = unnamed r (tells-wider ns (numbers_of build) (Err r) p h) (other (0 ∷ ns) naming (checked (Err r)).number n h)

  tail-found : (f : Found) (address : ℕ → ℕ) → Sound (when_found f (λ q. LoopTailNotFullWidth (address q)))
  tail-found (at row) address = unnamed (LoopTailNotFullWidth (address row)) refl refl
  tail-found nothing address = good

  -- each refusal
  holds : Named k → Holds k Sound
  holds fine =
      record {
        good = good;
        reads = among_these reading refl refl;
        codes = among_these encoding refl refl;
        loops = among_these loop_numbers refl refl;
        branch = unnamed BranchInLoop refl refl;
        label = λ i a b e. let w = fine.label i a b e in (named (LabelInLoop a b) refl w, named (DuplicateLabel a b) refl w);
        undefined = λ i c a b e. named (UndefinedLabel a b) refl (fine.jump i c a b e);
        unmatched = unnamed UnmatchedLoopEnd refl refl;
        empty = unnamed EmptyLoop refl refl;
        shared = unnamed SharedLoopEnd refl refl;
        tail = λ e h z d. tail-found (short_one k.it e) (λ q. address k.it q);
        unclosed = unnamed UnclosedLoop refl refl;
        parcels-room = λ m. unnamed (NoRoomForParcels m) refl refl;
        labels-room = λ m. unnamed (NoRoomForLabels m) refl refl;
        jumps-room = λ m. unnamed (NoRoomForJumps m) refl refl;
        loops-room = λ m. unnamed (NoRoomForLoops m) refl refl;
      }

-- ---- an answer
answer_sound : (k : Kernel) (row : ℕ) (v : Verdict) (count : ℕ) → Sound k v → Tellable k.names (answered (answer_in row v count))
answer_sound k row (Ok _) count s = record { number = refl; within = omega arith; unnamed = λ f. (refl, refl) }
answer_sound k row (Err r) count s = record { number = s.tells; within = s.within; unnamed = (numbered r).unnamed }

-- THE THEOREM: what a build tells is 0 or a number of its table, and the range of a name lies in the names; any other answer has range 0, 0
pub build-tells : (rows names : List ℕ) (lent : Lent) (t : Told) (x : Lent) → Builds rows names lent t x → Tellable names t
build-tells rows names lent t x b =
    let k = kernel_of rows names in
    build-holds rows names lent (Sound k) (holds k (rows_named rows names)) (unnamed k RowSlice refl refl) (Tellable names) (answer_sound k) t x b
