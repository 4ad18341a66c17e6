-- Document 02, wish 6, in the words of the rules of a valid kernel: "in the last 11 instructions of each loop body".
use Rattle.std.specs.Prelude.{◌≡◌, true, List, ℕ, ◌+◌, ◌≤◌, ◌<◌, Ok}
use Rattle.items.specs.declared.Item.TheVariants.{LoopEnd}
use Rattle.coded.specs.Coded.{encodes}
use Rattle.places.specs.Items.{Kernel, kernel_of, size, is_entry, entries, nest}
use Rattle.rules.specs.Rules.{Pair}
use Rattle.widening.specs.Widening.{has_twin, row_of}

module _ (k : Kernel) where
  open k use {it, n}

  -- rule 3: "Loop starts and ends pair as brackets"
  pub record Paired : Type 0 where
    pub matched : (e : ℕ) → e < n → it e ≡ Ok LoopEnd → 0 < nest it e
    pub closed : nest it n ≡ 0

  -- rule 4: row i stands between a pair of brackets, and from it at most 11 instructions stand up to the end, itself counted
  pub record InTail (i : ℕ) : Type 0 where
    pub start : ℕ
    pub end : ℕ
    pub pair : Pair k start end
    pub after : start < i
    pub before : i < end
    pub near : entries it end ≤ entries it i + 11

module _ (rows names : List ℕ) where
  -- which rows are changed: loops pair, the row is in a tail and of a kind that has a twin, and "Only rows that encode are changed"
  pub record GivesWay (i : ℕ) : Type 0 where
    pub paired : Paired (kernel_of rows names)
    pub in_tail : InTail (kernel_of rows names) i
    pub kind_has_twin : has_twin (row_of rows i) ≡ true
    pub row_encodes : encodes ((kernel_of rows names).it i) ≡ Ok tt

  -- loops pair, and of the instructions in tails that encode only those of a kind that has a twin do not take three parcels
  pub record OnlyTwinsShort : Type 0 where
    pub paired : Paired (kernel_of rows names)
    pub twin_or_full :
        (q : ℕ) → InTail (kernel_of rows names) q → is_entry ((kernel_of rows names).it q) ≡ 1 → encodes ((kernel_of rows names).it q) ≡ Ok tt →
        (size ((kernel_of rows names).it q) ≡ 3 → ⊥) → has_twin (row_of rows q) ≡ true
