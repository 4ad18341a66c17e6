-- THEOREMS of the reader's table, forth: what it gives encodes to the parcels that it was read from, or is the loop start whose word they are.
use Prim.Native.Nat.{ℕ, zero, suc, ◌+◌, ◌-◌, ◌*◌, ◌/◌, ◌^◌, ◌≤◌, ◌<◌}
use native.Mathlib.Omega.{arith}
use mathlib.Core.Path.{◌≡◌, refl, sym, ap, ap₂, ◌∙◌, subst}
use mathlib.Core.Logic.{◌⊎◌, inl, inr}
use mathlib.Core.Bool.{Bool, true, false, cond}
use mathlib.Core.List.{List, [], ◌∷◌}
use lib.Dec.{leb, lit≤}
use lib.ListN.{length, take, length-take}
use lib.Seq.{take-take}
use borrow.Author.Tests.{leb-true}
use Rattle.fields.specs.Pack.{pack}
use Rattle.fields.specs.Parcels.{cut}
use Rattle.items.specs.declared.VisaInstruction.TheVariants as Visa
use Rattle.words.specs.Forms.{leaf_return}
use Rattle.encode.specs.Layouts.{layout_of}
use Rattle.bounds.specs.Tables.{at}
use Rattle.bounds.specs.Bounds.{fields, bounds_of}
use Rattle.rows.specs.Fields.{instruction_of, others}
use Rattle.rows.specs.Rows.{item_of}
use Rattle.faithful.proofs.Lines.{◌&◌}
use Rattle.known.specs.declared.Known.{Known}
use Rattle.known.specs.Front.{EncodesTo, StartsLoop, Parcels}
use Rattle.std.specs.Prelude.{Option, Some, None}
use Rattle.std.specs.Bool.{then_some}
use Rattle.known.specs.Table.{known, line, table, known_in}
use Rattle.known.proofs.Leaf.{leaf-taken}
use Rattle.known.proofs.Starts.{loop-moved}
use Rattle.known.specs.Window.{window, starts_leaf, cut_off, known_at}
use Rattle.forth.proofs.Entries.{Gives, Stands, Holds, Each, first-line, entry-stands}
use Rattle.forth.proofs.Encoded.{encodes}
use Rattle.forth.proofs.Plain as plain
use Rattle.forth.proofs.LoopStarts.{counted-loop, register-loop}
use Rattle.forth.proofs.Moves.{computed, dual_move, memory-move}

-- ---- a word of three parcels
each_line : Each (Holds Stands (2 ^ 48)) table
unfolding table
each_line =
    entry-stands plain.pre_modify &
    entry-stands plain.load_immediate &
    entry-stands plain.load-dm &
    entry-stands plain.store_dm &
    entry-stands plain.move &
    entry-stands plain.modify_index &
    entry-stands plain.offset-far &
    entry-stands plain.jump &
    entry-stands plain.call &
    entry-stands plain.store_immediate &
    entry-stands plain.set-mode &
    entry-stands plain.clear-mode &
    entry-stands plain.wide-nop &
    entry-stands counted-loop &
    entry-stands register-loop &
    entry-stands plain.transfer &
    entry-stands plain.offset_near &
    entry-stands plain.post_modify &
    entry-stands plain.nop &
    entry-stands computed &
    entry-stands dual_move &
    entry-stands memory-move &
    tt

-- THE THEOREM of the table
pub table-encodes :
    (word : ℕ) → word < 2 ^ 48 → (n : ℕ) (row : List ℕ) → known_in word ≡ Some (known n row) →
    (n ≤ 3) × Gives n (cut n (word / 2 ^ (48 - 16 * n))) row
unfolding known_in
table-encodes word h n row e =
    subst (λ (o : Option Known). Stands o word) e (first-line Stands (2 ^ 48) None table each_line word h tt)

-- ---- one, two or three parcels of the window
abbrev word3 : ℕ → ℕ → ℕ → ℕ
word3 x y z = x * 2 ^ 32 + y * 2 ^ 16 + z

module _ (x y z : ℕ) (hx : x < 2 ^ 16) (hy : y < 2 ^ 16) (hz : z < 2 ^ 16) where
  front-one : cut 1 (word3 x y z / 2 ^ 32) ≡ x ∷ []
  front-one = ap (λ (p : ℕ). p ∷ []) (omega arith)

  front-two : cut 2 (word3 x y z / 2 ^ 16) ≡ x ∷ y ∷ []
  front-two = ap₂ ◌∷◌ (omega arith) (ap (λ (p : ℕ). p ∷ []) (omega arith))

  front-three : cut 3 (word3 x y z / 2 ^ 0) ≡ x ∷ y ∷ z ∷ []
  front-three = ap₂ ◌∷◌ (omega arith) (ap₂ ◌∷◌ (omega arith) (ap (λ (p : ℕ). p ∷ []) (omega arith)))

-- ---- the parcels at the front are those of the window
front_cut : (n : ℕ) (parcels : List ℕ) → Parcels parcels → n ≤ 3 → n ≤ length parcels → cut n (window parcels / 2 ^ (48 - 16 * n)) ≡ take n parcels
front_cut zero ps h few long = refl
front_cut (suc n) [] h few long = absurd (omega arith)
front_cut (suc zero) (x ∷ ps) h few long = front-one x (at ps 0) (at ps 1) (h 0) (h 1) (h 2)
front_cut (suc (suc n)) (x ∷ []) h few long = absurd (omega arith)
front_cut (suc (suc zero)) (x ∷ y ∷ ps) h few long = front-two x y (at ps 0) (h 0) (h 1) (h 2)
front_cut (suc (suc (suc n))) (x ∷ y ∷ []) h few long = absurd (omega arith)
front_cut (suc (suc (suc zero))) (x ∷ y ∷ z ∷ ps) h few long = front-three x y z (h 0) (h 1) (h 2)
front_cut (suc (suc (suc (suc n)))) (x ∷ y ∷ z ∷ ps) h few long = absurd (omega arith)

window-small : (parcels : List ℕ) → Parcels parcels → window parcels < 2 ^ 48
window-small parcels h = omega (arith, h 0, h 1, h 2)

-- ---- "Six parcels of `LeafReturn` are one row"
pub leaf-encodes : EncodesTo (cut 6 (pack leaf_return)) (line 31 0 0 0)
unfolding fields bounds_of item_of instruction_of others layout_of
leaf-encodes = encodes (line 31 0 0 0) Visa.LeafReturn 6 leaf_return refl (omega arith) refl refl tt refl refl

taken-long : (n : ℕ) (l : List ℕ) → length (take n l) ≡ n → n ≤ length l
taken-long n l e = omega (arith, simp length-take at e)

-- what stands at the front of parcels
abbrev pub Starts : List ℕ → ℕ → List ℕ → Type 0
Starts parcels n row = (n ≤ length parcels) × (EncodesTo (take n parcels) row ⊎ ((n ≡ 3) × StartsLoop parcels row))

leaf-starts : (parcels : List ℕ) → starts_leaf parcels ≡ true → Starts parcels 6 (line 31 0 0 0)
leaf-starts parcels e =
    let s = leaf-taken parcels e in
    (taken-long 6 parcels (ap length s), inl (subst (λ (ps : List ℕ). EncodesTo ps (line 31 0 0 0)) (sym s) leaf-encodes))

-- a loop's three parcels, with those that follow
loop-on : (parcels row : List ℕ) → 3 ≤ length parcels → StartsLoop (take 3 parcels) row → StartsLoop parcels row
loop-on parcels row long s = loop-moved (take 3 parcels) parcels row long (take-take 3 3 parcels (lit≤ tt)) s

on : (n : ℕ) (parcels row : List ℕ) → n ≤ length parcels → Gives n (take n parcels) row → Starts parcels n row
on n parcels row long (inl e) = (long, inl e)
on n parcels row long (inr l) =
    let s : StartsLoop (take 3 parcels) row = subst (λ (m : ℕ). StartsLoop (take m parcels) row) l.0 l.1 in
    (long, inr (l.0, loop-on parcels row (omega (arith, l.0)) s))

-- THE THEOREM of the front
pub known-starts : (parcels : List ℕ) → Parcels parcels → (n : ℕ) (row : List ℕ) → known_at parcels ≡ Some (known n row) → Starts parcels n row
unfolding known_at
known-starts parcels h n row e = go (starts_leaf parcels) (known_in (window parcels)) refl refl e
  where
    at_table : known_in (window parcels) ≡ Some (known n row) → n ≤ length parcels → Starts parcels n row
    at_table k long =
        let g = table-encodes (window parcels) (window-small parcels h) n row k in
        on n parcels row long (subst (λ (ps : List ℕ). Gives n ps row) (front_cut n parcels h g.0 long) g.1)

    whole : (t : Bool) (k : Known) → known_in (window parcels) ≡ Some k → leb k.parcels (length parcels) ≡ t → then_some t k ≡ Some (known n row) → Starts parcels n row
    whole true k x y q =
        let a : k ≡ known n row = cc in
        at_table (x ∙ ap Some a) (omega (arith, leb-true k.parcels (length parcels) y, ap (λ (k : Known). k.parcels) a))
    whole false k x y q = let o : ◌≡◌ {A = ℕ} 0 1 = cc in absurd (omega arith)

    go :
        (s : Bool) (o : Option Known) → starts_leaf parcels ≡ s → known_in (window parcels) ≡ o →
        cond s (Some (known 6 (line 31 0 0 0))) (cut_off (length parcels) o) ≡ Some (known n row) → Starts parcels n row
    go true o x y q =
        let k : known 6 (line 31 0 0 0) ≡ known n row = cc in
        let a : 6 ≡ n = ap (λ (k : Known). k.parcels) k in
        let b : line 31 0 0 0 ≡ row = ap (λ (k : Known). k.row) k in
        rw (← a, ← b) (leaf-starts parcels x)
    go false None x y q = let o : ◌≡◌ {A = ℕ} 0 1 = cc in absurd (omega arith)
    go false (Some k) x y q = whole (leb k.parcels (length parcels)) k y refl q
