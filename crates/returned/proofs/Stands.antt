-- Each item with parcels stands at the front of what is left from its place on, as the row that it comes back as.
use Prim.Native.Nat.{ℕ, suc, ◌^◌, ◌≤◌, ◌<◌}
use native.Mathlib.Omega.{arith}
use mathlib.Core.Path.{◌≡◌, refl, sym, ap, ◌∙◌, subst}
use mathlib.Core.Bool.{false}
use mathlib.Core.List.{List, ◌∷◌, ◌++◌}
use lib.ListN.{length, take, drop, replicate}
use lib.IntN.{pos, ◌-ℤ◌}
use mir.Syntax.{w32}
use mir.Val.{of_z, SFits}
use mir.Facts.{to_z-of_z}
use Rattle.fields.specs.Parcels.{cut}
use Rattle.signs.proofs.Ints.{apart_mag}
use Rattle.items.specs.declared.Condition.{Condition}
use Rattle.items.specs.declared.LoopCount.{LoopCount}
use Rattle.items.specs.declared.LoopMode.{LoopMode}
use Rattle.encode.specs.Encoding.{jump_form, form_parcels}
use Rattle.encode.proofs.Sizes.{form-some}
use Rattle.bounds.specs.Tables.{at}
use Rattle.rows.specs.Fields.{condition_of}
use Rattle.rows.specs.Rows.{row_width, read_of}
use Rattle.coded.specs.declared.Coding.{Coding}
use Rattle.std.specs.Prelude.{Ok, Err}
use Rattle.coded.specs.Coded.{Coded}
use Rattle.items.specs.declared.Item.TheVariants.{Instruction, Label, Jump, LoopBegin, LoopEnd}
use Rattle.places.specs.Items.{Kernel, kernel_of, size, is_entry, place, address}
use Rattle.places.specs.Left.{left}
use Rattle.prefixes.proofs.Totals.{total-up}
use Rattle.rules.specs.Rules.{Rule1}
use Rattle.rules.specs.Accepted.{JumpCarries, LoopCarries}
use Rattle.known.specs.Front.{EncodesTo, Front, loop_start, Parcels}
use Rattle.known.specs.Front as front
use Rattle.returned.specs.Returned.{row, ComesBack}
use Rattle.returned.specs.Returned as back
use Rattle.back.proofs.Larger.{larger_row, larger_encodes, larger_twin, not_lower}
use Rattle.inverse.proofs.Sorted.{jump-row}
use Rattle.inverse.proofs.Leaf.{instruction-front}
use Rattle.returned.proofs.Read.{coded-instruction, coded-jump, coded-loop}
use Rattle.returned.proofs.Items.{jump-condition, instruction-encodes, jump-encodes, loop-starts}

module _ (rows names : List ℕ) where
  abbrev k : Kernel
  k = kernel_of rows names

  open k use {it, n}

  abbrev emitted : ℕ → List ℕ
  emitted i = (left k i (it i)).parcels

  -- ---- an item with parcels, and what stands after it
  pub record Stands (i : ℕ) (rest : List ℕ) : Type 0 where
    pub back : List ℕ
    pub stands : Front (emitted i ++ rest) (front.known (size (it i)) back)
    pub comes : ComesBack rows names i back
    pub wide : length back ≡ row_width
    pub some : 1 ≤ length (emitted i)

  module _ (X : List ℕ) (rule1 : Rule1 k) (whole : (i : ℕ) → i < n → length (row rows i) ≡ row_width) (small : (i : ℕ) → i ≤ n → place it i < 2 ^ 31)
      (jumps : (i : ℕ) (c : Condition) (a b : ℕ) → i < n → it i ≡ Ok (Jump c a b) → JumpCarries k X i c a b)
      (loops : (b : ℕ) (c : LoopCount) (m : LoopMode) → b < n → it b ≡ Ok (LoopBegin c m) → LoopCarries k X b c m)
      (at_place : (i : ℕ) → i < n → take (size (it i)) (drop (place it i) X) ≡ emitted i) where
    -- an instruction
    stands-instruction :
        (i : ℕ) (rest : List ℕ) (c : Coding) → i < n → it i ≡ Ok (Instruction c) → Parcels (emitted i ++ rest) → Parcels rest → ((more : List ℕ) → rest ≡ 0x083f ∷ more → ⊥) → Stands i rest
    stands-instruction i rest c h e p q t =
        let o = coded-instruction (read_of (row rows i) (length names)) c e in
        let own : emitted i ≡ form_parcels c.form = ap (λ (y : Coded). (left k i y).parcels) e in
        let z : size (it i) ≡ length (form_parcels c.form) = ap size e in
        let good = rule1.encodes i h c e in
        let enc : EncodesTo (form_parcels c.form) (row rows i) = instruction-encodes (row rows i) (length names) c o.0 (whole i h) o.1 o.2 good in
        record {
          back = larger_row (row rows i);
          stands =
              rw (own, z)
              (instruction-front (form_parcels c.form) rest (row rows i) (subst (λ (xs : List ℕ). Parcels (xs ++ rest)) own p) q t enc);
          comes = back.instruction c e (larger_twin (form_parcels c.form) (row rows i) enc);
          wide = (larger_encodes (form_parcels c.form) (row rows i) enc).whole;
          some = rw own (form-some c.form good);
        }

    -- a jump to its label: the word of its condition over its offset
    stands-jump :
        (i : ℕ) (rest : List ℕ) (c : Condition) (a b : ℕ) → i < n → it i ≡ Ok (Jump c a b) → Parcels (emitted i ++ rest) → Parcels rest → ((more : List ℕ) → rest ≡ 0x083f ∷ more → ⊥) → Stands i rest
    stands-jump i rest c a b h e p q t =
        let j = jumps i c a b h e in
        let z = pos (address it j.aimed.row) -ℤ pos (address it i) in
        let w = j.word.word in
        let r = jump-row (row rows i) (length names) c a b (coded-jump (read_of (row rows i) (length names)) c a b e) in
        let f : SFits w32 z = record { sfits = apart_mag (2 ^ 31) _ _ (small j.aimed.row (let l = j.aimed.within in omega (arith, l))) (small i (omega (arith, h))) } in
        let y : size (it i) ≡ 3 = ap size e in
        let own : emitted i ≡ cut 3 w = sym (at_place i h) ∙ ap (λ (m : ℕ). take m (drop (place it i) X)) y ∙ j.word.stands in
        let g : jump_form (condition_of (at (row rows i) 1)) z false ≡ _ = ap (λ (x : Condition). jump_form x z false) (sym r.1) ∙ j.word.is in
        let enc = jump-encodes (at (row rows i) 1) z w (jump-condition (row rows i) (length names) r.0 r.2) f g in
        let new : List ℕ = 28 ∷ at (row rows i) 1 ∷ of_z w32 z ∷ 0 ∷ replicate 13 0 in
        record {
          back = new;
          stands =
              rw (own, y)
              (subst (λ (x : List ℕ). Front (cut 3 w ++ rest) (front.known 3 x)) (not_lower new refl)
              (instruction-front (cut 3 w) rest new (subst (λ (xs : List ℕ). Parcels (xs ++ rest)) own p) q t enc));
          comes = back.jump c a b (of_z w32 z) j.aimed e (to_z-of_z f) refl;
          wide = refl;
          some = rw own (omega arith);
        }

    -- a loop start
    stands-loop : (i : ℕ) (rest : List ℕ) (c : LoopCount) (m : LoopMode) → i < n → it i ≡ Ok (LoopBegin c m) → Stands i rest
    stands-loop i rest c m h e =
        let l = loops i c m h e in
        let w = l.word.word in
        let y : size (it i) ≡ 3 = ap size e in
        let own : emitted i ≡ cut 3 w = sym (at_place i h) ∙ ap (λ (m : ℕ). take m (drop (place it i) X)) y ∙ l.word.stands in
        let u = total-up size it (suc i) l.last l.in_body in
        record {
          back = row rows i;
          stands =
              rw (own, y)
              (loop_start
              (loop-starts (cut 3 w ++ rest) (row rows i) (length names) c m (address it l.last) (address it i) w (whole i h)
              (coded-loop (read_of (row rows i) (length names)) c m e) (omega (arith, u, y)) l.word.is (omega arith) refl));
          comes = back.loop_start c m e refl;
          wide = whole i h;
          some = rw own (omega arith);
        }

    -- any item that counts as an instruction
    pub stand : (i : ℕ) (rest : List ℕ) → i < n → is_entry (it i) ≡ 1 → Parcels (emitted i ++ rest) → Parcels rest → ((more : List ℕ) → rest ≡ 0x083f ∷ more → ⊥) → Stands i rest
    stand i rest h e p q t = go (it i) refl e
      where
        go : (x : Coded) → it i ≡ x → is_entry x ≡ 1 → Stands i rest
        go (Ok (Instruction c)) w f = stands-instruction i rest c h w p q t
        go (Ok (Label a b)) w f = absurd (omega (arith, f))
        go (Ok (Jump c a b)) w f = stands-jump i rest c a b h w p q t
        go (Ok (LoopBegin c m)) w f = stands-loop i rest c m h w
        go (Ok LoopEnd) w f = absurd (omega (arith, f))
        go (Err r) w f = absurd (omega (arith, f))
