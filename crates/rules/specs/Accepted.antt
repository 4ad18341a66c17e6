-- Demand 3: what stands in the parcels of an accepted kernel, and what it means that a jump or a loop start carries its offset.
use Rattle.std.specs.Prelude.{◌≡◌, false, List, ◌++◌, ℕ, ◌-◌, ◌<◌, take, drop, ℤ, pos, ◌-ℤ◌, Ok, Result}
use Rattle.fields.specs.Pack.{field}
use Rattle.fields.specs.Parcels.{cut, joined}
use Rattle.signs.specs.Signs.{signed_in}
use Rattle.items.specs.declared.Condition.{Condition}
use Rattle.items.specs.declared.LoopCount.{LoopCount}
use Rattle.items.specs.declared.LoopMode.{LoopMode}
use Rattle.encode.specs.declared.Form.{Form}
use Rattle.refusals.specs.declared.Refusal.{Refusal}
use Rattle.encode.specs.declared.Form.TheVariants.{Word}
use Rattle.encode.specs.Encoding.{form_parcels, jump_form, loop_form}
use Rattle.coded.specs.declared.Coding.{Coding}
use Rattle.items.specs.declared.Item.TheVariants.{Instruction, Jump, LoopBegin}
use Rattle.places.specs.Items.{Kernel, kernel_of, size_of, size, place, address}
use Rattle.places.specs.Left.{Lent, rooms_of_lent, left, gather}
use Rattle.rules.specs.Rules.{Aimed, Pair, Last, Valid}

-- the rules of a valid kernel, for rows, names and lent buffers
abbrev pub ValidRows : List ℕ → List ℕ → Lent → Type 0
ValidRows rows names lent = Valid (kernel_of rows names) (rooms_of_lent lent)

-- the signed number in the lowest n bits of the word whose three parcels stand at a place, high first
abbrev pub offset_at : ℕ → ℕ → List ℕ → ℤ
offset_at n place parcels = signed_in n (field (n - 1) 0 (joined (take 3 (drop place parcels))))

-- a form is a word, whose three parcels stand at a place
pub record WordAt (f : Result Form Refusal) (place : ℕ) (parcels : List ℕ) : Type 0 where
  pub word : ℕ
  pub is : f ≡ Ok (Word word)
  pub stands : take 3 (drop place parcels) ≡ cut 3 word

module _ (k : Kernel) (P : List ℕ) where
  open k use {it, n}

  -- the jump of row i to the name at a of length b: the row of its label is given; its parcels are the word of its condition over
  -- the label's address minus its own, and bits 23:0 carry that offset
  pub record JumpCarries (i : ℕ) (c : Condition) (a b : ℕ) : Type 0 where
    pub aimed : Aimed k i a b
    pub word : WordAt (jump_form c (pos (address it aimed.row) -ℤ pos (address it i)) false) (place it i) P
    pub carries : offset_at 24 (place it i) P ≡ pos (address it aimed.row) -ℤ pos (address it i)

  -- the loop start b: its end and its last body instruction are given; its parcels are the word of its count and mode over that
  -- instruction's address minus its own, and bits 22:0 carry that offset
  pub record LoopCarries (b : ℕ) (c : LoopCount) (m : LoopMode) : Type 0 where
    pub end : ℕ
    pub last : ℕ
    pub pair : Pair k b end
    pub is_last : Last k last end
    pub in_body : b < last
    pub word : WordAt (loop_form c m (pos (address it last) -ℤ pos (address it b))) (place it b) P
    pub carries : offset_at 23 (place it b) P ≡ pos (address it last) -ℤ pos (address it b)

  -- the parcels P of an accepted kernel, where p was lent
  pub record AcceptedParcels (p : List ℕ) : Type 0 where
    -- the items' parcels in order, each at its place, then what was lent
    pub in_order : P ≡ gather (λ i. (left k i (it i)).parcels) n ++ drop (place it n) p
    pub at_place : (i : ℕ) → i < n → take (size (it i)) (drop (place it i) P) ≡ (left k i (it i)).parcels
    -- an instruction's, each labelled jump's, each loop start's
    pub instruction : (i : ℕ) (c : Coding) → i < n → it i ≡ Ok (Instruction c) → take (size_of c.form) (drop (place it i) P) ≡ form_parcels c.form
    pub jump : (i : ℕ) (c : Condition) (a b : ℕ) → i < n → it i ≡ Ok (Jump c a b) → JumpCarries i c a b
    pub loop : (b : ℕ) (c : LoopCount) (m : LoopMode) → b < n → it b ≡ Ok (LoopBegin c m) → LoopCarries b c m
