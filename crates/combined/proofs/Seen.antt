-- What the glances at kinds 32, 33 and 34 say is right.
use Prim.Native.Nat.{ℕ, ◌+◌, ◌/◌, ◌%◌, ◌≤◌}
use native.Mathlib.Omega.{arith}
use mathlib.Core.Path.{◌≡◌, refl, sym, ap, ◌∙◌}
use mathlib.Core.Bool.{Bool, true, false, not, ◌&&◌, ◌||◌, beq}
use mathlib.Core.List.{List}
use Rattle.std.specs.Prelude.{Some, Ok}
use lib.Dec.{eqb, ltb, leb}
use lib.ListN.{length}
use borrow.Author.Tests.{eqb-true, eq-eqb, le-leb, lt-leb, leb-true, leb-false, ltb-true}
use Rattle.fields.specs.Pack.{pack}
use Rattle.words.specs.Forms.{bit_of, is_post, type2a, whole, dual1a, memory3a}
use Rattle.refusals.proofs.Order.{AllGood, good-when}
use Rattle.items.specs.declared.VisaInstruction.TheVariants as visa
use Rattle.encode.specs.declared.Form.TheVariants as form
use Rattle.encode.specs.Registers.{is_pm, in_dag, mixed, writes, dm_clashes, pm_clashes, same_dag, memory_clashes}
use Rattle.encode.specs.Refusals.{dual_refusals, memory_refusals}
use Rattle.encode.specs.Layouts.{layout_of}
use Rattle.encode.specs.Encoding.{form_of}
use Rattle.encode.proofs.Passed.{passed-good, good-word}
use Rattle.bounds.specs.Tables.{at}
use Rattle.bounds.specs.Bounds.{never}
use Rattle.rows.specs.Fields.{update_of}
use Rattle.rows.specs.Rows.{item_of, data_access_of, memory_access_of, dm_of, pm_of, access_of}
use Rattle.combined.specs.Right.{Plain}
use Rattle.combined.specs.Tests.{four, unlike, word_of, bits_beside, clash_of, dual_fits, memory_fits, own_dag}
use Rattle.combined.proofs.Single.{word_2a}
use Rattle.combined.proofs.Fits.{zero_or_one, DualFit, dual_fit, MemoryFit, memory-fit}
use Rattle.combined.proofs.Fine.{kept, word-fine}
use Rattle.combined.proofs.Places.{alone-reads, dual_reads, memory-reads}
use Rattle.combined.proofs.Held.{Beside, held, loading, storing, apart}

-- ---- a compute alone
pub alone_right :
    (row : List ℕ) {w : ℕ} → length row ≡ 17 → at row 0 ≡ 32 → word_of row ≡ Some w →
    four (at row 9) (at row 10) (at row 11) (at row 12) + four (at row 13) (at row 14) (at row 15) (at row 16) ≡ 0 →
    Plain row (Ok (form.Word w))
unfolding item_of form_of layout_of
alone_right row {w} n e found s =
    let f = word-fine row found in
    let p : pack (type2a (whole f.held.field)) ≡ w = word_2a (whole f.held.field) ∙ omega (arith, f.word) in
    record {
      seen =
          record {
            instruction = visa.Compute f.held;
            reads = λ names. alone-reads row n e (f.below never) (omega (arith, s), (omega (arith, s), (omega (arith, s), (omega (arith, s), (omega (arith, s), (omega (arith, s), (omega (arith, s), (omega (arith, s), tt)))))))) names ∙ rw (e, f.makes);
            encodes = ap (λ (v : ℕ). Ok (form.Word v)) p;
          };
      stays = refl;
    }

-- ---- two accesses
both : (t u v : Bool) → (t && u) ≡ false → (t && v) ≡ false → (t && (u || v)) ≡ false
both true true v e f = e
both true false v e f = f
both false u v e f = refl

-- two loads into one register
one-register : (a b e f : ℕ) → eqb (four a e 0 0 + unlike b f) 0 ≡ false → (eqb e 0 && (eqb a 0 && eqb b f)) ≡ false
one-register a b e f h = go (eqb e 0) (eqb a 0) (eqb b f) refl refl refl h
  where
    go : (t u v : Bool) → eqb e 0 ≡ t → eqb a 0 ≡ u → eqb b f ≡ v → eqb (four a e 0 0 + bit_of (not v)) 0 ≡ false → (t && (u && v)) ≡ false
    go true true true x y z h = sym (eq-eqb (four a e 0 0 + 0) 0 (omega (arith, eqb-true e 0 x, eqb-true a 0 y))) ∙ h
    go true true false x y z h = refl
    go true false v x y z h = refl
    go false u v x y z h = refl

abbrev Dual : List ℕ → Type 0
Dual row = DualFit (at row 9) (at row 10) (at row 11) (at row 12) (at row 13) (at row 14) (at row 15) (at row 16)

module _ {row : List ℕ} {field : ℕ} (k : Beside row field) where
  dm-clear : at row 9 ≤ 1 → at row 10 ≤ 15 → clash_of row (at row 9) (at row 10) ≡ false → dm_clashes k.held (dm_of row) ≡ false
  unfolding dm_clashes data_access_of
  dm-clear a b c = rw (loading (at row 9) a, kept (at row 10) b) (apart k (at row 9) (at row 10) (omega (arith, b)) c)

  pm-clear : Dual row → clash_of row (at row 13) (at row 14) ≡ false → pm_clashes k.held (dm_of row) (pm_of row) ≡ false
  unfolding pm_clashes data_access_of
  pm-clear h c =
      let p = h.dm in
      let q = h.pm in
      rw (loading (at row 9) p.0, loading (at row 13) q.0, kept (at row 10) p.1, kept (at row 14) q.1)
      (both (eqb (at row 13) 0) (writes k.held (at row 14)) (eqb (at row 9) 0 && eqb (at row 10) (at row 14))
      (apart k (at row 13) (at row 14) (omega (arith, q.1)) c) (one-register (at row 9) (at row 10) (at row 13) (at row 14) h.apart))

  dual_good :
      Dual row → clash_of row (at row 9) (at row 10) ≡ false → clash_of row (at row 13) (at row 14) ≡ false →
      AllGood (dual_refusals k.held (dm_of row) (pm_of row))
  unfolding data_access_of
  dual_good h c d =
      let p = h.dm in
      let q = h.pm in (
        good-when (is_pm (at row 11 % 256)) _ (lt-leb 8 (at row 11 % 256) (omega (arith, p.2))),
        (
          good-when (is_pm (at row 12 % 256)) _ (lt-leb 8 (at row 12 % 256) (omega (arith, p.3))),
          (
            good-when (not (is_pm (at row 15 % 256))) _ (ap not (le-leb 8 (at row 15 % 256) (omega (arith, q.2)))),
            (
              good-when (not (is_pm (at row 16 % 256))) _ (ap not (le-leb 8 (at row 16 % 256) (omega (arith, q.3)))),
              (
                good-when (dm_clashes k.held (dm_of row)) _ (dm-clear p.0 p.1 c),
                (good-when (pm_clashes k.held (dm_of row) (pm_of row)) _ (pm-clear h d), tt),
              ),
            ),
          ),
        ),
      )

abbrev pub dual_word : List ℕ → ℕ → ℕ
dual_word row field =
    pack (dual1a (bit_of (eqb (at row 9) 1)) (at row 11 % 256) (at row 12 % 256) (bit_of (eqb (at row 13) 1)) (at row 10 % 256)
    (at row 15 % 256 % 8) (at row 16 % 256 % 8) (at row 14 % 256) (whole field))

pub dual_right :
    (row : List ℕ) {field : ℕ} → length row ≡ 17 → at row 0 ≡ 33 →
    dual_fits (at row 9) (at row 10) (at row 11) (at row 12) (at row 13) (at row 14) (at row 15) (at row 16) ≡ true →
    clash_of row (at row 9) (at row 10) ≡ false → clash_of row (at row 13) (at row 14) ≡ false → bits_beside row ≡ Some field →
    Plain row (Ok (form.Word (dual_word row field)))
unfolding item_of form_of layout_of data_access_of
dual_right row {field} n e t c d w =
    let h = dual_fit (at row 9) (at row 10) (at row 11) (at row 12) (at row 13) (at row 14) (at row 15) (at row 16) t in
    let p = h.dm in
    let q = h.pm in
    let k = held row w in
    let v = visa.DualMove k.held (dm_of row) (pm_of row) in
    record {
      seen =
          record {
            instruction = v;
            reads = λ names. dual_reads row n e k.below (omega (arith, p.0), (omega (arith, p.1), (omega (arith, p.2), (omega (arith, p.3), (omega (arith, q.0), (omega (arith, q.1), (omega (arith, q.2), (omega (arith, q.3), tt)))))))) names ∙ rw (e, k.makes);
            encodes = good-word (layout_of v) (passed-good (layout_of v) (dual_good k h c d)) ∙ rw (storing (at row 9) p.0, storing (at row 13) q.0, k.bits);
          };
      stays = refl;
    }

-- ---- one access
posting : (u : ℕ) → u ≤ 1 → is_post (update_of u) ≡ eqb u 0
unfolding update_of
posting = zero_or_one (λ u. is_post (update_of u) ≡ eqb u 0) refl refl

-- an index and a modifier of one DAG
one_dag : (i m : ℕ) → i / 8 ≡ m / 8 → mixed i m ≡ false
one_dag i m h = go (is_pm i) (is_pm m) refl refl
  where
    go : (t u : Bool) → leb 8 i ≡ t → leb 8 m ≡ u → not (beq t u) ≡ false
    go true true x y = refl
    go true false x y = absurd (omega (arith, h, leb-true 8 i x, leb-false 8 m y))
    go false true x y = absurd (omega (arith, h, leb-false 8 i x, leb-true 8 m y))
    go false false x y = refl

either-flag : (t u v : Bool) → (not (eqb (bit_of t + bit_of u) 0) && v) ≡ false → ((t || u) && v) ≡ false
either-flag true true v h = h
either-flag true false v h = h
either-flag false true v h = h
either-flag false false v h = refl

beyond : (t u v : Bool) → (u ≡ true → (t && v) ≡ false) → (t && (u && v)) ≡ false
beyond true true v h = h refl
beyond true false v h = refl
beyond false u v h = refl

abbrev Memory : List ℕ → Type 0
Memory row = MemoryFit (at row 9) (at row 10) (at row 11) (at row 12) (at row 13) (at row 14) (at row 15) (at row 16)

module _ {row : List ℕ} {field : ℕ} (k : Beside row field) (h : Memory row) where
  code-kept : at row 10 % 256 ≡ at row 10
  code-kept = let p = h.access in omega (arith, p.1)

  own-clear : own_dag (at row 9) (at row 10) (at row 11) (at row 13) ≡ false → same_dag (access_of row) ≡ false
  unfolding own_dag same_dag memory_access_of
  own-clear c =
      let p = h.access in
      rw (posting (at row 13) p.4, storing (at row 9) p.0, kept (at row 11) p.2)
      (either-flag (eqb (at row 13) 0) (eqb (at row 9) 1) (in_dag (at row 10 % 256) (leb 8 (at row 11))) c)

  load-clear : clash_of row (at row 9) (at row 10) ≡ false → memory_clashes k.held (access_of row) ≡ false
  unfolding memory_clashes memory_access_of
  load-clear c =
      let p = h.access in
      rw (loading (at row 9) p.0, code-kept)
      (beyond (eqb (at row 9) 0) (ltb (at row 10) 16) (writes k.held (at row 10)) (λ l. apart k (at row 9) (at row 10) (ltb-true (at row 10) 16 l) c))

  memory-good : own_dag (at row 9) (at row 10) (at row 11) (at row 13) ≡ false → clash_of row (at row 9) (at row 10) ≡ false → AllGood (memory_refusals k.held (access_of row))
  unfolding memory_access_of
  memory-good c d =
      let p = h.access in (
        good-when (mixed (at row 11 % 256) (at row 12 % 256)) _ (rw (kept (at row 11) p.2, kept (at row 12) p.3) (one_dag (at row 11) (at row 12) h.same)),
        (
          good-when (same_dag (access_of row)) _ (own-clear c),
          (good-when (memory_clashes k.held (access_of row)) _ (load-clear d), tt),
        ),
      )

abbrev pub memory_word : List ℕ → ℕ → ℕ
memory_word row field =
    pack (memory3a (bit_of (eqb (at row 13) 0)) (at row 11 % 256 % 8) (at row 12 % 256 % 8) (bit_of (leb 8 (at row 11))) (bit_of (eqb (at row 9) 1))
    (at row 10 % 256) (whole field))

pub memory_right :
    (row : List ℕ) {field : ℕ} → length row ≡ 17 → at row 0 ≡ 34 →
    memory_fits (at row 9) (at row 10) (at row 11) (at row 12) (at row 13) (at row 14) (at row 15) (at row 16) ≡ true →
    own_dag (at row 9) (at row 10) (at row 11) (at row 13) ≡ false → clash_of row (at row 9) (at row 10) ≡ false → bits_beside row ≡ Some field →
    Plain row (Ok (form.Word (memory_word row field)))
unfolding item_of form_of layout_of memory_access_of
memory_right row {field} n e t c d w =
    let h = memory-fit (at row 9) (at row 10) (at row 11) (at row 12) (at row 13) (at row 14) (at row 15) (at row 16) t in
    let p = h.access in
    let s = h.spare in
    let k = held row w in
    let v = visa.MemoryMove k.held (access_of row) in
    record {
      seen =
          record {
            instruction = v;
            reads = λ names. memory-reads row n e k.below (omega (arith, p.0), (omega (arith, p.1), (omega (arith, p.2), (omega (arith, p.3), (omega (arith, p.4), (omega (arith, s.0), (omega (arith, s.1), (omega (arith, s.2), tt)))))))) names ∙ rw (e, k.makes);
            encodes = good-word (layout_of v) (passed-good (layout_of v) (memory-good k h c d)) ∙ rw (posting (at row 13) p.4, storing (at row 9) p.0, k.bits, kept (at row 11) p.2);
          };
      stays = refl;
    }
