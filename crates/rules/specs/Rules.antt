-- Document 01, "Rules of a valid kernel": over the items it 0, .., it (n - 1) of a list and their places alone.
use Rattle.std.specs.Prelude.{◌≡◌, List, ℕ, suc, ◌+◌, ◌≤◌, ◌<◌, take, drop, false, Ok, Err}
use Rattle.refusals.specs.declared.Refusal.{Refusal}
use Rattle.items.specs.Kinds.{is_branch}
use Rattle.items.specs.declared.Condition.{Condition}
use Rattle.items.specs.declared.LoopCount.{LoopCount}
use Rattle.items.specs.declared.LoopCount.TheVariants.{Immediate}
use Rattle.items.specs.declared.LoopMode.{LoopMode}
use Rattle.items.specs.declared.Item.TheVariants.{Instruction, Label, Jump, LoopBegin, LoopEnd}
use Rattle.encode.specs.Encoding.{form_verdict}
use Rattle.coded.specs.declared.Coding.{Coding}
use Rattle.places.specs.Items.{Kernel, size, is_entry, is_label, is_jump, total, place, address, entries, nest}
use Rattle.places.specs.declared.Rooms.{Rooms}

-- two ranges of the names hold the same bytes
abbrev pub SameName : List ℕ → ℕ → ℕ → ℕ → ℕ → Type 0
SameName names a b c d = take b (drop a names) ≡ take d (drop c names)

module _ (k : Kernel) where
  open k use {names, it, n}

  -- 1. Every row is constructible and every instruction encodes.
  pub record Rule1 : Type 0 where
    pub constructible : (i : ℕ) → i < n → (r : Refusal) → it i ≡ Err r → ⊥
    pub encodes : (i : ℕ) → i < n → (c : Coding) → it i ≡ Ok (Instruction c) → form_verdict c.form ≡ Ok tt

  -- the jump at i has a label: its row and name
  pub record Aimed (i a b : ℕ) : Type 0 where
    pub row : ℕ
    pub start : ℕ
    pub length : ℕ
    pub within : row < n
    pub label : it row ≡ Ok (Label start length)
    pub name : SameName names start length a b
    -- label minus jump start lies in -0x800000 .. 0x7fffff
    pub not_below : address it i ≤ address it row + 0x80_0000
    pub not_above : address it row < address it i + 0x80_0000

  -- 2. No label name occurs twice; every jump's name is a label somewhere in the list, within reach.
  pub record Rule2 : Type 0 where
    pub once : (i j a b c d : ℕ) → i < n → j < n → it i ≡ Ok (Label a b) → it j ≡ Ok (Label c d) → SameName names a b c d → i ≡ j
    pub aimed : (i : ℕ) → i < n → (c : Condition) (a b : ℕ) → it i ≡ Ok (Jump c a b) → Aimed i a b

  -- the loop start b and the loop end e are a pair of brackets: what stands between them lies deeper
  pub record Pair (b e : ℕ) : Type 0 where
    pub count : LoopCount
    pub mode : LoopMode
    pub opens : it b ≡ Ok (LoopBegin count mode)
    pub closes : it e ≡ Ok LoopEnd
    pub order : b < e
    pub before_end : e < n
    pub level : nest it e ≡ nest it b + 1
    pub deep : (q : ℕ) → b < q → q ≤ e → nest it b < nest it q

  -- an instruction in the body, between the brackets; a jump and a nested loop start count as one
  pub record Body (b e : ℕ) : Type 0 where
    pub row : ℕ
    pub after : b < row
    pub before : row < e
    pub entry : is_entry (it row) ≡ 1

  -- 3. Loop starts and ends pair as brackets. Between a pair stand no label, no jump, no `JumpRelative`, `CJump` or
  -- `LeafReturn`, and at least one instruction. A nested loop start counts as an instruction of the outer body.
  pub record Rule3 : Type 0 where
    pub matched : (e : ℕ) → e < n → it e ≡ Ok LoopEnd → 0 < nest it e
    pub closed : nest it n ≡ 0
    pub no_label : (b e q a c : ℕ) → Pair b e → b < q → q < e → it q ≡ Ok (Label a c) → ⊥
    pub no_jump : (b e q : ℕ) (c : Condition) (a d : ℕ) → Pair b e → b < q → q < e → it q ≡ Ok (Jump c a d) → ⊥
    pub no_branch : (b e q : ℕ) (c : Coding) → Pair b e → b < q → q < e → it q ≡ Ok (Instruction c) → is_branch c.kind ≡ false
    pub some : (b e : ℕ) → Pair b e → Body b e

  -- row q is the last instruction before row e: as many stand before e as up to q
  pub record Last (q e : ℕ) : Type 0 where
    pub before : q < e
    pub entry : is_entry (it q) ≡ 1
    pub none_after : entries it (suc q) ≡ entries it e

  -- 4. No two loops end on the same instruction. In each body the last 11 instructions (all, if fewer) take three parcels:
  -- each of the body from which at most 11 stand up to the end, itself counted.
  pub record Rule4 : Type 0 where
    pub apart : (b e b' e' q : ℕ) → Pair b e → Pair b' e' → Last q e → Last q e' → e ≡ e'
    pub tail : (b e q : ℕ) → Pair b e → b < q → q < e → is_entry (it q) ≡ 1 → entries it e ≤ entries it q + 11 → size (it q) ≡ 3

  -- 5. Immediate counts are not 0; a loop's offset is at most 0x3fffff.
  pub record Rule5 : Type 0 where
    pub counted : (b c : ℕ) (m : LoopMode) → b < n → it b ≡ Ok (LoopBegin (Immediate c) m) → 0 < c
    pub near : (b e q : ℕ) → Pair b e → Last q e → address it q ≤ address it b + 0x3f_ffff

  -- 6. Totals of parcels, labels, jumps and the deepest nesting fit their rooms.
  pub record Rule6 (r : Rooms) : Type 0 where
    pub parcels : place it n ≤ r.parcels
    pub labels : total is_label it n ≤ r.labels
    pub jumps : total is_jump it n ≤ r.jumps
    pub loops : (i : ℕ) → i ≤ n → nest it i ≤ r.loops

  -- a valid kernel
  pub record Valid (r : Rooms) : Type 0 where
    pub rule1 : Rule1
    pub rule2 : Rule2
    pub rule3 : Rule3
    pub rule4 : Rule4
    pub rule5 : Rule5
    pub rule6 : Rule6 r
