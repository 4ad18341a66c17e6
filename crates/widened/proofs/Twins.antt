-- A row with a twin is one of the four moves or a Nop; its twin is read, moves the same and encodes in three parcels, and has no twin.
use Prim.Native.Nat.{ℕ, ◌<◌}
use native.Mathlib.Omega.{arith}
use mathlib.Core.Path.{◌≡◌, refl, sym, ap, ◌∙◌, subst}
use mathlib.Core.Bool.{Bool, true, false, ◌||◌}
use mathlib.Core.List.{List, [], ◌∷◌}
use lib.Dec.{eqb}
use lib.ListN.{drop}
use borrow.Author.Tests.{eqb-true}
use Rattle.std.specs.Prelude.{Ok}
use Rattle.items.specs.declared.Item.{Item}
use Rattle.items.specs.declared.VisaInstruction.{VisaInstruction}
use Rattle.items.specs.declared.Direction.{Direction}
use Rattle.items.specs.declared.Direction.TheVariants.{Load, Store}
use Rattle.items.specs.declared.Update.{Update}
use Rattle.items.specs.declared.Update.TheVariants.{PostModify, PreModify}
use Rattle.items.specs.declared.VisaInstruction.TheVariants as visa
use Rattle.items.specs.declared.Item.TheVariants as item
use Rattle.encode.specs.Layouts.{layout_of}
use Rattle.encode.specs.Encoding.{form_of, parcels_of, verdict_of}
use Rattle.bounds.specs.Tables.{at}
use Rattle.bounds.specs.Bounds as bound
use Rattle.bounds.specs.Bounds.{filled, fields, compute, bounds_of}
use Rattle.bounds.specs.Checks.{said, places_of, check_of}
use Rattle.rows.specs.Fields.{code, index, modifier, direction_of, update_of, transfers, others, instruction_of}
use Rattle.rows.specs.Rows.{read_of, item_of, beside_of, memory_access_of}
use Rattle.rows.specs.Kept.{Below}
use Rattle.rows.proofs.Kept.{within-bounds, read-item}
use Rattle.faithful.proofs.Lines.{◌&◌}
use Rattle.faithful.proofs.Read.{read-good}
use Rattle.coded.specs.Coded.{coded_of, encodes}
use Rattle.widening.specs.Widening.{memory_move, wide_nop, has_twin, twin}
use Rattle.widened.specs.Moves.{dm, nothing, moved, nop, full_nop, KeepsMove}
use Rattle.widened.proofs.Widths.{short_move, wide_move, short_moves, short-few, wide-encodes, wide-full, wide_moves}

-- ---- which rows have a twin
abbrev kind : Direction → Update → ℕ
kind Load PostModify = 19
kind Store PostModify = 20
kind Load PreModify = 21
kind Store PreModify = 22

abbrev direction_code : Direction → ℕ
direction_code Load = 0
direction_code Store = 1

abbrev update_code : Update → ℕ
update_code PostModify = 0
update_code PreModify = 1

abbrev wide : Direction → Update → List ℕ → List ℕ
wide d u row = memory_move (direction_code d) (update_code u) row

pub data Gives (row : List ℕ) : Type 0 where
  a_move : (d : Direction) (u : Update) → at row 0 ≡ kind d u → twin row ≡ wide d u row → Gives row
  a_nop : at row 0 ≡ 38 → twin row ≡ wide_nop → Gives row

pub gives : (row : List ℕ) → has_twin row ≡ true → Gives row
gives row h = go (eqb (at row 0) 19) (eqb (at row 0) 20) (eqb (at row 0) 21) (eqb (at row 0) 22) (eqb (at row 0) 38) refl refl refl refl refl h
  where
    go :
        (a b c d e : Bool) → eqb (at row 0) 19 ≡ a → eqb (at row 0) 20 ≡ b → eqb (at row 0) 21 ≡ c → eqb (at row 0) 22 ≡ d → eqb (at row 0) 38 ≡ e →
        (a || (b || (c || (d || (e || false))))) ≡ true → Gives row
    go true b c d e p q r s t h = a_move Load PostModify (eqb-true _ _ p) (rw p)
    go false true c d e p q r s t h = a_move Store PostModify (eqb-true _ _ q) (rw (p, q))
    go false false true d e p q r s t h = a_move Load PreModify (eqb-true _ _ r) (rw (p, q, r))
    go false false false true e p q r s t h = a_move Store PreModify (eqb-true _ _ s) (rw (p, q, r, s))
    go false false false false true p q r s t h = a_nop (eqb-true _ _ t) (rw (p, q, r, s, t))
    go false false false false false p q r s t h = let z : ◌≡◌ {A = ℕ} 0 1 = cc in absurd (omega arith)

-- no twin has one
pub twin_has_none : (row : List ℕ) → has_twin row ≡ true → has_twin (twin row) ≡ false
twin_has_none row h = go (gives row h)
  where
    go : Gives row → has_twin (twin row) ≡ false
    go (a_move d u k e) = rw e refl
    go (a_nop k e) = rw e refl

-- ---- what such a row is read as
module _ (row : List ℕ) where
  move-item : (d : Direction) (u : Update) → at row 0 ≡ kind d u → item_of row ≡ Ok (item.Instruction (short_move d u (code (at row 1)) (index (at row 2)) (modifier (at row 3))))
  unfolding item_of instruction_of transfers
  move-item Load PostModify k = rw k
  move-item Store PostModify k = rw k
  move-item Load PreModify k = rw k
  move-item Store PreModify k = rw k

  nop-item : at row 0 ≡ 38 → item_of row ≡ Ok (item.Instruction visa.Nop)
  unfolding item_of instruction_of others
  nop-item k = rw k

  move-bounds : (d : Direction) (u : Update) → at row 0 ≡ kind d u → bounds_of row ≡ filled 16 (bound.code ∷ bound.index ∷ bound.modifier ∷ [])
  unfolding bounds_of fields
  move-bounds Load PostModify k = rw k
  move-bounds Store PostModify k = rw k
  move-bounds Load PreModify k = rw k
  move-bounds Store PreModify k = rw k

-- the fields of a move lie within their bounds
record Fields (row : List ℕ) : Type 0 where
  register : at row 1 < 0x60
  index_at : at row 2 < 16
  modifier-at : at row 3 < 16

move-fields : (row : List ℕ) → Below (filled 16 (bound.code ∷ bound.index ∷ bound.modifier ∷ [])) (drop 1 row) → Fields row
move-fields [] h = record { register = omega arith; index_at = omega arith; modifier-at = omega arith }
move-fields (k ∷ []) h = record { register = omega arith; index_at = omega arith; modifier-at = omega arith }
move-fields (k ∷ a ∷ []) h = record { register = h.0; index_at = omega arith; modifier-at = omega arith }
move-fields (k ∷ a ∷ b ∷ []) h = record { register = h.0; index_at = h.1.0; modifier-at = omega arith }
move-fields (k ∷ a ∷ b ∷ c ∷ vs) h = record { register = h.0; index_at = h.1.0; modifier-at = h.1.1.0 }

-- ---- what its twin is read as
direction-small : (d : Direction) → direction_code d < 2
direction-small Load = omega arith
direction-small Store = omega arith

update-small : (u : Update) → update_code u < 2
update-small PostModify = omega arith
update-small PreModify = omega arith

-- no compute, and a spare place
none : 0 < 3
none = omega arith

o : 0 < 1
o = omega arith

module _ (row : List ℕ) (names : ℕ) where
  wide_bounds : (d : Direction) (u : Update) → Fields row → Below (bounds_of (wide d u row)) (drop 1 (wide d u row))
  unfolding bounds_of compute
  wide_bounds d u f = none & o & o & o & o & o & o & o & direction-small d & f.register & f.index_at & f.modifier-at & update-small u & o & o & o & tt

  wide-item : (d : Direction) (u : Update) → item_of (wide d u row) ≡ Ok (item.Instruction (wide_move d u (code (at row 1)) (index (at row 2)) (modifier (at row 3))))
  unfolding item_of beside_of memory_access_of direction_of update_of
  wide-item Load PostModify = refl
  wide-item Store PostModify = refl
  wide-item Load PreModify = refl
  wide-item Store PreModify = refl

  wide_read : (d : Direction) (u : Update) → Fields row → read_of (wide d u row) names ≡ Ok (item.Instruction (wide_move d u (code (at row 1)) (index (at row 2)) (modifier (at row 3))))
  wide_read d u f = read-item (wide d u row) names (wide_bounds d u f) refl ∙ wide-item d u

  nop-read : read_of wide_nop names ≡ Ok (item.Instruction visa.WideNop)
  unfolding read_of check_of places_of said bounds_of fields item_of instruction_of others
  nop-read = refl

-- ---- THE THEOREM: a row that is read, has a twin and encodes
module _ (row : List ℕ) (names : ℕ) (x : Item VisaInstruction) (readable : read_of row names ≡ Ok x) where
  checked : (check_of row names ≡ Ok tt) × (item_of row ≡ Ok x)
  unfolding read_of
  checked = read-good (check_of row names) (item_of row) x readable

  move-keeps : (d : Direction) (u : Update) → at row 0 ≡ kind d u → twin row ≡ wide d u row → encodes (coded_of (read_of row names)) ≡ Ok tt → KeepsMove row (twin row) names
  unfolding verdict_of
  move-keeps d u k e g =
      let r = code (at row 1) in
      let i = index (at row 2) in
      let m = modifier (at row 3) in
      let f = move-fields row (subst (λ (bs : List ℕ). Below bs (drop 1 row)) (move-bounds row d u k) (within-bounds row names checked.0)) in
      let old : read_of row names ≡ Ok (item.Instruction (short_move d u r i m)) = readable ∙ sym checked.1 ∙ move-item row d u k in
      let good : verdict_of (short_move d u r i m) ≡ Ok tt = rw old at g in
      record {
        before = short_move d u r i m;
        after = wide_move d u r i m;
        what = moved dm d r i m u;
        is_before = old;
        is_after = ap (λ (y : List ℕ). read_of y names) e ∙ wide_read row names d u f;
        moves_before = short_moves d u;
        moves_after = wide_moves r i m d u good;
        short = short-few r i m d u good;
        encodes = wide-encodes r i m d u good;
        full = wide-full r i m d u good;
      }

  nop-keeps : at row 0 ≡ 38 → twin row ≡ wide_nop → KeepsMove row (twin row) names
  unfolding parcels_of verdict_of form_of layout_of
  nop-keeps k e = record {
    before = visa.Nop;
    after = visa.WideNop;
    what = nothing;
    is_before = readable ∙ sym checked.1 ∙ nop-item row k;
    is_after = ap (λ (y : List ℕ). read_of y names) e ∙ nop-read row names;
    moves_before = nop;
    moves_after = full_nop;
    short = omega arith;
    encodes = refl;
    full = refl;
  }

  pub twin-keeps : has_twin row ≡ true → encodes (coded_of (read_of row names)) ≡ Ok tt → KeepsMove row (twin row) names
  twin-keeps h g = go (gives row h)
    where
      go : Gives row → KeepsMove row (twin row) names
      go (a_move d u k e) = move-keeps d u k e g
      go (a_nop k e) = nop-keeps k e
