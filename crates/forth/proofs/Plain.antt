-- The lines of the reader's table without a compute: a row that is fine encodes to its form with the row's numbers.
use Prim.Native.Nat.{ℕ, ◌+◌, ◌*◌, ◌/◌, ◌%◌, ◌≤◌, ◌<◌}
use native.Mathlib.Omega.{arith}
use mathlib.Core.Path.{◌≡◌, refl}
use mathlib.Core.Logic.{inl}
use mathlib.Core.Bool.{Bool, true, false, not, ◌&&◌}
use mathlib.Core.List.{List, [], ◌∷◌}
use lib.Dec.{eqb, leb, ltb}
use lib.ListN.{drop}
use borrow.Author.Tests.{ltb-true, leb-true, le-ltb, lt-leb, not-true}
use Rattle.fields.specs.Pack.{Field, pack}
use Rattle.fields.specs.Parcels.{cut}
use Rattle.fields.specs.Matching.{filled_by}
use Rattle.fields.proofs.Matching.{both}
use Rattle.refusals.proofs.Order.{AllGood, good-when}
use Rattle.items.specs.declared.Item.TheVariants as item
use Rattle.words.specs.Forms.{long17a, move5a, modify19a, offset15a, jump8a, call25a, store16a, mode18a, nop21a, transfer5b, modify3b, offset15b, modify3c, nop21c}
use Rattle.words.proofs.Tiling.{tiles_17a, tiles_5a, tiles_19a, tiles_15a, tiles_8a, tiles_25a, tiles_16a, tiles_18a, tiles_21a, tiles_5b, tiles_3b, tiles_15b, tiles_3c, tiles_21c}
use Rattle.encode.proofs.Laid.{one, two, three}
use Rattle.encode.specs.Registers.{in_dag}
use Rattle.encode.specs.Layouts.{Layout, layout_of}
use Rattle.bounds.specs.Tables.{at}
use Rattle.bounds.specs.Bounds.{fields, bounds_of}
use Rattle.bounds.specs.Checks.{inside}
use Rattle.std.specs.Prelude.{Ok}
use Rattle.rows.specs.Kept.{Below}
use Rattle.rows.specs.Fields.{instruction_of, scalars, transfers, others}
use Rattle.rows.specs.Rows.{item_of}
use Rattle.std.specs.Prelude.{is_some, unwrap_or}
use Rattle.known.specs.Table.{line, always, source, widened, condition_at, code_fine}
use Rattle.forth.proofs.Entries.{Gives, Entry, entered}
use Rattle.forth.proofs.Encoded.{encodes}
use Rattle.forth.proofs.Bits.{untrue, bit, byte, source-parts, flag, in_dag_lem, low_bits, unmixed, condition-back, widens, folded-whole, far}

-- a row of three fields
module _ (n : ℕ) (form : List Field) (ns : List ℕ) (kind a b c : ℕ) where
  abbrev row : List ℕ
  row = line kind a b c

  abbrev layout : Layout
  layout = layout_of (instruction_of kind a b c)

  gives :
      Below (bounds_of row) (drop 1 row) → inside kind a b c 0 ≡ true → item_of row ≡ Ok (item.Instruction (instruction_of kind a b c)) → AllGood layout.refusals →
      layout.parcels ≡ n → pack layout.fields ≡ pack (filled_by form ns) → Gives n (cut n (pack (filled_by form ns))) row
  gives h i r p m e = inl (encodes row (instruction_of kind a b c) n (filled_by form ns) refl h i r p m e)

-- ---- three parcels: transfers
pub load_immediate : Entry 3 (long17a 0x0f 0 0) (λ ns. ltb (at ns 0) 0x60) (λ ns. line 17 (at ns 0) (at ns 1) 0)
unfolding fields bounds_of item_of instruction_of transfers layout_of
load_immediate = entered (three refl) (tiles_17a 0 0 0)
    (λ a ha b hb f.
    let h = ltb-true a 0x60 f in
    gives 3 (long17a 0x0f 0 0) (a ∷ b ∷ []) 17 a b 0 (omega arith) refl refl tt refl (omega arith))

pub load-dm : Entry 3 (long17a 0x10 0 0) (λ ns. ltb (at ns 0) 16) (λ ns. line 11 (at ns 0) (at ns 1) 0)
unfolding fields bounds_of item_of instruction_of scalars layout_of
load-dm = entered (three refl) (tiles_17a 0 0 0)
    (λ a ha b hb f.
    let h = ltb-true a 16 f in
    gives 3 (long17a 0x10 0 0) (a ∷ b ∷ []) 11 a b 0 (omega arith) refl refl tt refl (omega arith))

pub store_dm : Entry 3 (long17a 0x11 0 0) (λ ns. ltb (at ns 0) 16) (λ ns. line 12 (at ns 0) (at ns 1) 0)
unfolding fields bounds_of item_of instruction_of scalars layout_of
store_dm = entered (three refl) (tiles_17a 0 0 0)
    (λ a ha b hb f.
    let h = ltb-true a 16 f in
    gives 3 (long17a 0x11 0 0) (a ∷ b ∷ []) 12 a b 0 (omega arith) refl refl tt refl (omega arith))

pub move : Entry 3 (move5a 0 0) (λ ns. ltb (at ns 3) 16 && ltb (source (at ns 0) (at ns 1) (at ns 2)) 16) (λ ns. line 10 (at ns 3) (source (at ns 0) (at ns 1) (at ns 2)) 0)
unfolding fields bounds_of item_of instruction_of scalars layout_of
move = entered (three refl) (tiles_5a 0 0)
    (λ a ha b hb c hc d hd f.
    let g = both (ltb d 16) (ltb (source a b c) 16) f in
    let h = ltb-true d 16 g.0 in
    let k = ltb-true (source a b c) 16 g.1 in
    let p = source-parts a b c hb hc (omega arith) in
    gives 3 (move5a 0 0) (a ∷ b ∷ c ∷ d ∷ []) 10 d (source a b c) 0 (omega arith) refl refl tt refl (rw (p.0, p.1, p.2, byte d (omega arith))))

pub modify_index : Entry 3 (modify19a 0 0) always (λ ns. line 18 (at ns 0 * 8 + at ns 1) (at ns 2) 0)
unfolding fields bounds_of item_of instruction_of transfers layout_of
modify_index = entered (three refl) (tiles_19a 0 0)
    (λ g hg i hi o ho f.
    gives 3 (modify19a 0 0) (g ∷ i ∷ o ∷ []) 18 (g * 8 + i) o 0 (omega arith) refl refl tt refl (rw (folded-whole o ho) (omega arith)))

-- a universal code, and that a store takes it
code-small : (c s : ℕ) → code_fine c s ≡ true → c < 0x60
code-small c s f = ltb-true c 0x60 (both (ltb c 0x60) (not (eqb s 1 && in_dag c false)) f).0

code_stored : (c : ℕ) → code_fine c 1 ≡ true → in_dag (c % 256) false ≡ false
code_stored c f =
    let h = code-small c 1 f in
    rw (byte c (omega arith)) (not-true _ (both (ltb c 0x60) (not (in_dag c false)) f).1)

-- 15a, which holds no near offset
abbrev far_fine : ℕ → ℕ → ℕ → Bool
far_fine c s o = code_fine c s && (leb 64 o && ltb o 0xffff_ffc0)

far-fine : (c s o : ℕ) → far_fine c s o ≡ true → (code_fine c s ≡ true) × (64 ≤ o) × (o < 0xffff_ffc0)
far-fine c s o f =
    let g = both (code_fine c s) (leb 64 o && ltb o 0xffff_ffc0) f in
    let h = both (leb 64 o) (ltb o 0xffff_ffc0) g.1 in
    (g.0, leb-true 64 o h.0, ltb-true o 0xffff_ffc0 h.1)

pub offset-far : Entry 3 (offset15a 0 0 0 0) (λ ns. far_fine (at ns 2) (at ns 1) (at ns 3)) (λ ns. line (23 + at ns 1) (at ns 2) (at ns 0) (at ns 3))
unfolding fields bounds_of item_of instruction_of transfers layout_of
offset-far = entered (three refl) (tiles_15a 0 0 0 0)
    (λ i hi s hs c hc o ho.
    bit (λ s. far_fine c s o ≡ true → Gives 3 (cut 3 (pack (filled_by (offset15a 0 0 0 0) (i ∷ s ∷ c ∷ o ∷ [])))) (line (23 + s) c i o))
    (λ f.
    let g = far-fine c 0 o f in
    let h = code-small c 0 g.0 in
    let w = far o g.1 g.2 in
    gives 3 (offset15a 0 0 0 0) (i ∷ 0 ∷ c ∷ o ∷ []) 23 c i o (omega arith) refl refl
    (good-when _ _ (lt-leb 8 (i % 256) (omega arith)), (refl, tt)) (rw w) (rw (w, folded-whole o ho) (omega arith)))
    (λ f.
    let g = far-fine c 1 o f in
    let h = code-small c 1 g.0 in
    let w = far o g.1 g.2 in
    gives 3 (offset15a 0 0 0 0) (i ∷ 1 ∷ c ∷ o ∷ []) 24 c i o (omega arith) refl refl
    (good-when _ _ (lt-leb 8 (i % 256) (omega arith)), (good-when _ _ (code_stored c g.0), tt)) (rw w) (rw (w, folded-whole o ho) (omega arith)))
    s hs)

pub jump : Entry 3 (jump8a 0 0 0) (λ ns. is_some (condition_at (at ns 0))) (λ ns. line 28 (unwrap_or (condition_at (at ns 0)) 0) (widened 0x80_0000 (at ns 2)) (at ns 1))
unfolding fields bounds_of item_of instruction_of others layout_of
jump = entered (three refl) (tiles_8a 0 0 0)
    (λ c hc d hd o ho f.
    let h = condition-back c hc f in
    let z = widened 0x80_0000 o in
    let w = widens 24 0x7f_ffff o (omega arith) refl ho in
    gives 3 (jump8a 0 0 0) (c ∷ d ∷ o ∷ []) 28 (unwrap_or (condition_at c) 0) z d (h.0, (w.small, (hd, omega arith))) refl refl
    (good-when _ _ (untrue _ w.near), tt) refl (rw (h.1, flag d hd, w.back)))

-- ---- three parcels: the others
pub call : Entry 3 (call25a 0) always (λ ns. line 29 (at ns 0) 0 0)
unfolding fields bounds_of item_of instruction_of others layout_of
call = entered (three refl) (tiles_25a 0)
    (λ t ht f.
    gives 3 (call25a 0) (t ∷ []) 29 t 0 0 (omega arith) refl refl (good-when _ _ (le-ltb 0xff_ffff t (omega arith)), tt) refl (omega arith))

pub store_immediate : Entry 3 (store16a 0 0 0 0) always (λ ns. line 35 (at ns 0 + 8 * at ns 2) (at ns 1 + 8 * at ns 2) (at ns 3))
unfolding fields bounds_of item_of instruction_of others layout_of
store_immediate = entered (three refl) (tiles_16a 0 0 0 0)
    (λ i hi m hm g hg v hv f.
    gives 3 (store16a 0 0 0 0) (i ∷ m ∷ g ∷ v ∷ []) 35 (i + 8 * g) (m + 8 * g) v (omega arith) refl refl
    (good-when _ _ (unmixed i m g hi hm hg), tt) refl (rw (low_bits i g hi hg, low_bits m g hm hg, in_dag_lem i g hi hg, flag g hg)))

pub set-mode : Entry 3 (mode18a 0 0) always (λ ns. line 36 (at ns 0) 0 0)
unfolding fields bounds_of item_of instruction_of others layout_of
set-mode = entered (three refl) (tiles_18a 0 0)
    (λ m hm f.
    gives 3 (mode18a 0 0) (m ∷ []) 36 m 0 0 (omega arith) refl refl tt refl refl)

pub clear-mode : Entry 3 (mode18a 1 0) always (λ ns. line 37 (at ns 0) 0 0)
unfolding fields bounds_of item_of instruction_of others layout_of
clear-mode = entered (three refl) (tiles_18a 0 0)
    (λ m hm f.
    gives 3 (mode18a 1 0) (m ∷ []) 37 m 0 0 (omega arith) refl refl tt refl refl)

pub wide-nop : Entry 3 nop21a always (λ ns. line 39 0 0 0)
unfolding fields bounds_of item_of instruction_of others layout_of
wide-nop = entered (three refl) tiles_21a
    (λ f. gives 3 nop21a [] 39 0 0 0 (omega arith) refl refl tt refl refl)

-- ---- one or two parcels
pub transfer :
    Entry 2 (transfer5b 0 0) (λ ns. ltb (at ns 3) 0x60 && ltb (source (at ns 0) (at ns 1) (at ns 2)) 0x60)
    (λ ns. line 16 (at ns 3) (source (at ns 0) (at ns 1) (at ns 2)) 0)
unfolding fields bounds_of item_of instruction_of transfers layout_of
transfer = entered (two refl) (tiles_5b 0 0)
    (λ a ha b hb c hc d hd f.
    let g = both (ltb d 0x60) (ltb (source a b c) 0x60) f in
    let h = ltb-true d 0x60 g.0 in
    let k = ltb-true (source a b c) 0x60 g.1 in
    let p = source-parts a b c hb hc (omega arith) in
    gives 2 (transfer5b 0 0) (a ∷ b ∷ c ∷ d ∷ []) 16 d (source a b c) 0 (omega arith) refl refl tt refl (rw (p.0, p.1, p.2, byte d (omega arith))))

pub offset_near : Entry 2 (offset15b 0 0 0 0) (λ ns. code_fine (at ns 2) (at ns 1)) (λ ns. line (23 + at ns 1) (at ns 2) (at ns 0) (widened 64 (at ns 3)))
unfolding fields bounds_of item_of instruction_of transfers layout_of
offset_near = entered (two refl) (tiles_15b 0 0 0 0)
    (λ i hi s hs c hc o ho.
    let w = widens 7 63 o (omega arith) refl ho in
    bit (λ s. code_fine c s ≡ true → Gives 2 (cut 2 (pack (filled_by (offset15b 0 0 0 0) (i ∷ s ∷ c ∷ o ∷ [])))) (line (23 + s) c i (widened 64 o)))
    (λ f.
    let h = code-small c 0 f in
    gives 2 (offset15b 0 0 0 0) (i ∷ 0 ∷ c ∷ o ∷ []) 23 c i (widened 64 o) (h, (omega arith, (w.small, omega arith))) refl refl
    (good-when _ _ (lt-leb 8 (i % 256) (omega arith)), (refl, tt)) (rw w.near) (rw (w.near, w.back) (omega arith)))
    (λ f.
    let h = code-small c 1 f in
    gives 2 (offset15b 0 0 0 0) (i ∷ 1 ∷ c ∷ o ∷ []) 24 c i (widened 64 o) (h, (omega arith, (w.small, omega arith))) refl refl
    (good-when _ _ (lt-leb 8 (i % 256) (omega arith)), (good-when _ _ (code_stored c f), tt)) (rw w.near) (rw (w.near, w.back) (omega arith)))
    s hs)

pub pre_modify : Entry 2 (modify3b 0 0 0 0) (λ ns. code_fine (at ns 3) (at ns 2)) (λ ns. line (21 + at ns 2) (at ns 3) (at ns 0) (at ns 1))
unfolding fields bounds_of item_of instruction_of transfers layout_of
pre_modify = entered (two refl) (tiles_3b 0 0 0 0)
    (λ i hi m hm s hs c hc.
    let x = lt-leb 8 (i % 256) (omega arith) in
    let y = lt-leb 8 (m % 256) (omega arith) in
    bit (λ s. code_fine c s ≡ true → Gives 2 (cut 2 (pack (filled_by (modify3b 0 0 0 0) (i ∷ m ∷ s ∷ c ∷ [])))) (line (21 + s) c i m))
    (λ f.
    let h = code-small c 0 f in
    gives 2 (modify3b 0 0 0 0) (i ∷ m ∷ 0 ∷ c ∷ []) 21 c i m (omega arith) refl refl
    (good-when _ _ x, (refl, (good-when _ _ y, (refl, tt)))) refl (omega arith))
    (λ f.
    let h = code-small c 1 f in
    gives 2 (modify3b 0 0 0 0) (i ∷ m ∷ 1 ∷ c ∷ []) 22 c i m (omega arith) refl refl
    (good-when _ _ x, (good-when _ _ (code_stored c f), (good-when _ _ y, (refl, tt)))) refl (omega arith))
    s hs)

-- a data register is of no DAG
data_stored : (c : ℕ) → c < 16 → in_dag (c % 256) false ≡ false
unfolding in_dag
data_stored c h = rw (lt-leb 1 (c % 256 / 16) (omega arith))

pub post_modify : Entry 1 (modify3c 0 0 0 0) always (λ ns. line (19 + at ns 2) (at ns 3) (at ns 0) (at ns 1))
unfolding fields bounds_of item_of instruction_of transfers layout_of
post_modify = entered (one refl) (tiles_3c 0 0 0 0)
    (λ i hi m hm s hs c hc f.
    let x = lt-leb 8 (i % 256) (omega arith) in
    let y = lt-leb 8 (m % 256) (omega arith) in
    let z = lt-leb 16 (c % 256) (omega arith) in
    bit (λ s. Gives 1 (cut 1 (pack (filled_by (modify3c 0 0 0 0) (i ∷ m ∷ s ∷ c ∷ [])))) (line (19 + s) c i m))
    (gives 1 (modify3c 0 0 0 0) (i ∷ m ∷ 0 ∷ c ∷ []) 19 c i m (omega arith) refl refl
    (good-when _ _ x, (refl, (good-when _ _ y, (good-when _ _ z, tt)))) refl (omega arith))
    (gives 1 (modify3c 0 0 0 0) (i ∷ m ∷ 1 ∷ c ∷ []) 20 c i m (omega arith) refl refl
    (good-when _ _ x, (good-when _ _ (data_stored c hc), (good-when _ _ y, (good-when _ _ z, tt)))) refl (omega arith))
    s hs)

pub nop : Entry 1 nop21c always (λ ns. line 38 0 0 0)
unfolding fields bounds_of item_of instruction_of others layout_of
nop = entered (one refl) tiles_21c
    (λ f. gives 1 nop21c [] 38 0 0 0 (omega arith) refl refl tt refl refl)
