-- THE THEOREM of loop starts: a loop start's word over an offset of 3 to 0x3fffff is read as its row.
use Prim.Native.Nat.{ℕ, ◌+◌, ◌%◌, ◌≤◌, ◌<◌}
use native.Mathlib.Omega.{arith}
use mathlib.Core.Path.{◌≡◌, refl, sym, ap, ◌∙◌, subst}
use mathlib.Core.Bool.{Bool, true, false, not, cond}
use mathlib.Core.List.{List}
use lib.IntN.{pos}
use lib.Dec.{eqb}
use lib.ListN.{take, drop, take-append-drop}
use lib.Seq.{get_or-take, get_or-drop}
use borrow.Author.Tests.{eqb-true, eqb-false, lt-ltb, le-leb}
use Rattle.fields.specs.Pack.{pack}
use Rattle.fields.specs.Parcels.{cut}
use Rattle.fields.specs.Faithful.{Spells}
use Rattle.fields.proofs.Matching.{is_false}
use Rattle.std.specs.Prelude.{Ok}
use Rattle.items.specs.declared.Item.{Item}
use Rattle.items.specs.declared.VisaInstruction.{VisaInstruction}
use Rattle.refusals.proofs.Order.{when-good}
use Rattle.items.specs.declared.LoopMode.{LoopMode}
use Rattle.items.specs.declared.LoopCount.TheVariants.{Immediate}
use Rattle.words.specs.Forms.{leaf_return}
use Rattle.encode.specs.Layouts.{loop_layout}
use Rattle.encode.specs.Encoding.{loop_form, form_verdict}
use Rattle.encode.proofs.Laid.{three}
use Rattle.encode.proofs.Passed.{good-passed}
use Rattle.bounds.specs.Tables.{at}
use Rattle.bounds.specs.Bounds.{bounds_of}
use Rattle.bounds.specs.Checks.{check_of}
use Rattle.rows.specs.Fields.{count_of, mode_of}
use Rattle.rows.specs.Rows.{read_of, item_of}
use Rattle.rows.proofs.Kept.{within-bounds}
use Rattle.faithful.proofs.Read.{read-good}
use Rattle.faithful.proofs.Rows.{each-loop}
use Rattle.std.specs.Prelude.{Option, Some}
use Rattle.known.specs.declared.Known.{Known}
use Rattle.known.specs.Front.{StartsLoop, Parcels}
use Rattle.known.specs.Table.{known, line, loop_fine, table, known_in}
use Rattle.known.proofs.Leaf.{leaf-taken}
use Rattle.known.specs.Window.{window, starts_leaf, known_at}
use Rattle.back.proofs.Finding.{Stands, reads-row}
use Rattle.back.proofs.Folded.{mode-back}
use Rattle.back.proofs.Standing.{at-line, makes, same, and_true}
use Rattle.back.proofs.Returning.{at_front}

-- ---- what starts with the six parcels of the leaf return is no loop start
leaf-window : (parcels : List ℕ) → starts_leaf parcels ≡ true → window parcels ≡ window (cut 6 (pack leaf_return))
leaf-window parcels s =
    let e = leaf-taken parcels s in
    sym (front (get_or-take 6 parcels 0 0 (omega arith)) (get_or-take 6 parcels 1 0 (omega arith)) (get_or-take 6 parcels 2 0 (omega arith))) ∙ ap window e
  where
    front : at (take 6 parcels) 0 ≡ at parcels 0 → at (take 6 parcels) 1 ≡ at parcels 1 → at (take 6 parcels) 2 ≡ at parcels 2 → window (take 6 parcels) ≡ window parcels
    front x y z = rw (x, y, z)

-- "its first two alone are a pre-modify load of I12": of six parcels the reader's table sees these two
pub leaf-pair : known_in (window (cut 6 (pack leaf_return))) ≡ Some (known 2 (line 21 28 6 7))
unfolding known_in table
leaf-pair = refl

not_leaf : (parcels row : List ℕ) → known_in (window parcels) ≡ Some (known 3 row) → starts_leaf parcels ≡ false
not_leaf parcels row k = is_false _ (λ s. differ (sym k ∙ ap known_in (leaf-window parcels s) ∙ leaf-pair))
  where
    differ : ◌≡◌ {A = Option Known} (Some (known 3 row)) (Some (known 2 (line 21 28 6 7))) → ⊥
    differ e = let k : known 3 row ≡ known 2 (line 21 28 6 7) = cc in let n : ◌≡◌ {A = ℕ} 3 2 = ap (λ (k : Known). k.parcels) k in omega arith

-- ---- the line of the table
abbrev LoopStands : ℕ → Type 0
LoopStands choice =
    (count mode offset : ℕ) → count < cond (eqb choice 1) 0x60 65536 → mode < 2 → 3 ≤ offset → offset ≤ 0x3f_ffff →
    form_verdict (loop_form (count_of choice count) (mode_of mode) (pos offset)) ≡ Ok tt →
    Stands 3 (loop_layout (count_of choice count) (mode_of mode) (pos offset)).fields (line 50 choice count mode)

loop-fine : (offset : ℕ) → 3 ≤ offset → offset ≤ 0x3f_ffff → loop_fine offset ≡ true
loop-fine offset l h = and_true (le-leb 3 offset l) (le-leb offset 0x3f_ffff h)

counted : (n offset : ℕ) (m : LoopMode) → form_verdict (loop_form (Immediate n) m (pos offset)) ≡ Ok tt → not (eqb n 0) ≡ true
unfolding loop_form
counted n offset m g = rw (when-good (eqb n 0) _ (good-passed (loop_layout (Immediate n) m (pos offset)) g).1.0)

immediate_stands : LoopStands 0
unfolding count_of
immediate_stands count mode offset hc hm l h g =
    at-line 12 (three refl) refl refl
    (makes (and_true (counted (count % 65536) offset (mode_of mode) g) (loop-fine offset l h)) (same refl refl (omega arith) (mode-back mode hm)))

register-stands : LoopStands 1
unfolding count_of
register-stands count mode offset hc hm l h g =
    at-line 13 (three refl) refl refl
    (makes (and_true (lt-ltb (count % 256) 0x60 (omega arith)) (loop-fine offset l h)) (same refl refl (omega arith) (mode-back mode hm)))

loop-stands : (choice : ℕ) → choice < 2 → LoopStands choice
loop-stands choice h = go (eqb choice 0) refl
  where
    go : (t : Bool) → eqb choice 0 ≡ t → LoopStands choice
    go true e = subst LoopStands (sym (eqb-true choice 0 e)) immediate_stands
    go false e =
        let n = eqb-false choice 0 e in
        let z : 1 ≡ choice = omega (arith, n) in
        subst LoopStands z register-stands

-- ---- THE THEOREM
loop-bounds : (choice count mode : ℕ) (i : Item VisaInstruction) → read_of (line 50 choice count mode) 0 ≡ Ok i → (choice < 2) × (count < cond (eqb choice 1) 0x60 65536) × (mode < 2)
unfolding read_of bounds_of
loop-bounds choice count mode i e =
    let row = line 50 choice count mode in
    let w = within-bounds row 0 (read-good (check_of row 0) (item_of row) i e).0 in
    (w.0, w.1.0, w.1.1.0)

after-three : (parcels : List ℕ) → Parcels parcels → Parcels (drop 3 parcels)
after-three parcels p i = rw (get_or-drop 3 parcels i 0) (p (3 + i))

pub loop-known : (parcels row : List ℕ) → Parcels parcels → StartsLoop parcels row → known_at parcels ≡ Some (known 3 row)
loop-known parcels row p s =
    let choice = s.choice in
    let count = s.count in
    let mode = s.mode in
    let offset = s.offset in
    let reads = ap (λ (l : List ℕ). read_of l 0) (sym s.numbers) ∙ s.reads in
    let w = loop-bounds choice count mode _ reads in
    let t : Stands 3 (loop_layout (count_of choice count) (mode_of mode) (pos offset)).fields row =
    subst (Stands 3 (loop_layout (count_of choice count) (mode_of mode) (pos offset)).fields) (sym s.numbers)
    (loop-stands choice w.0 count mode offset w.1 w.2 s.low s.high s.good) in
    let spell : Spells (take 3 parcels) 3 (loop_layout (count_of choice count) (mode_of mode) (pos offset)).fields =
    rw s.same at (each-loop (line 50 choice count mode) 0 (count_of choice count) (mode_of mode) refl reads (pos offset) s.good).0 in
    let k : known_in (window parcels) ≡ Some (known 3 row) =
    ap (λ (l : List ℕ). known_in (window l)) (sym (take-append-drop 3 parcels)) ∙ reads-row (take 3 parcels) 3 _ spell (drop 3 parcels) (after-three parcels p) row t in
    at_front parcels 3 row (not_leaf parcels row k) s.within k
