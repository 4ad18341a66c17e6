-- A turn by a glance that is right about its row takes the row, or ends the run; and what a run keeps, row by row.
use mathlib.Core.Path.{◌≡◌, refl, sym, ap, ◌∙◌, subst}
use mathlib.Core.Bool.{Bool, true, false}
use mathlib.Core.List.{List, []}
use Prim.Native.Nat.{ℕ, zero, suc, ◌+◌, ◌-◌, ◌*◌, ◌/◌, ◌≤◌, ◌<◌}
use native.Mathlib.Omega.{arith}
use lib.ListN.{length, take, drop, get_or}
use lib.Seq.{sets}
use Rattle.std.proofs.Common.{length-take, length-drop, get_or-take, get_or-drop}
use Rattle.std.proofs.lemmas.List.{drop-drop}
use Rattle.std.specs.Prelude.{Some, Ok}
use Rattle.std.specs.Bool.{then_some}
use Rattle.std.specs.Simd.{first_chunks}
use Rattle.std.proofs.lemmas.Option.{none-some, same_Some}
use Rattle.encode.specs.declared.Form.{Form}
use Rattle.encode.specs.declared.Form.TheVariants as form
use Rattle.encode.specs.Encoding.{form_parcels}
use Rattle.encode.proofs.Sizes.{form-few}
use Rattle.combined.specs.declared.Glance.{Glance}
use Rattle.combined.specs.declared.Glance.TheVariants.{Short, Pair, Word, Branch, Leaf}
use Rattle.combined.specs.Right.{Seen, Plain, Shows}
use Rattle.places.specs.Items.{row_count, size_of}
use Rattle.runs.specs.declared.Run.{Run}
use Rattle.runs.specs.Runs.{took, form_seen, row_in, Taken, Skimming, Runs}

module _ (rows : List ℕ) (room : ℕ) (free : Bool) (x : Run) (p : List ℕ) (left : x.row < row_count rows) (roomy : x.at + 6 ≤ room) where
  -- the next row is taken, and has this form
  abbrev Past : Form → Type 0
  Past f = Taken rows room free x p (took (size_of (Ok f)) x) (sets p x.at (form_parcels (Ok f)))

  plain-taken : (f : Form) → Plain (row_in rows x.row) (Ok f) → Past f
  plain-taken f s = record { form = Ok f; seen = s.seen; stays = λ _. s.stays; encodes = refl; left = left; roomy = roomy; on = refl; parcels = refl }

  seen-taken : (f : Form) → free ≡ true → Seen (row_in rows x.row) (Ok f) → Past f
  seen-taken f e s = record { form = Ok f; seen = s; stays = λ d. let z : ◌≡◌ {A = Bool} true false = rw e at d in let y : ◌≡◌ {A = ℕ} 0 1 = cc in absurd (omega arith); encodes = refl; left = left; roomy = roomy; on = refl; parcels = refl }

  branch-taken : (t : Bool) (f : Form) {h : Form} → free ≡ t → Seen (row_in rows x.row) (Ok f) → then_some t f ≡ Some h → Past h
  branch-taken true f e s m = subst Past (same_Some _ _ m) (seen-taken f e s)
  branch-taken false f e s m = absurd (none-some _ m)

  taken : (g : Glance) {f : Form} → Shows (row_in rows x.row) g → form_seen free g ≡ Some f → Past f
  taken (Short w) s m = subst Past (same_Some _ _ m) (plain-taken (form.Short w) s)
  taken (Pair w) s m = subst Past (same_Some _ _ m) (plain-taken (form.Pair w) s)
  taken (Word w) s m = subst Past (same_Some _ _ m) (plain-taken (form.Word w) s)
  taken (Branch w) s m = branch-taken free (form.Word w) refl s m
  taken Leaf s m = branch-taken free form.Leaf refl s m

  pub taken_by : {row : List ℕ} {y : Run} {q : List ℕ} (g : Glance) {f : Form} → row ≡ row_in rows x.row → Shows row g → form_seen free g ≡ Some f
      → y ≡ took (size_of (Ok f)) x → q ≡ sets p x.at (form_parcels (Ok f)) → Taken rows room free x p y q
  taken_by {row} {y} {q} g r s m e d = rw (e, d) (taken g (subst (λ (l : List ℕ). Shows l g) r s) m)

-- ---- the rows of a slice, as chunks
chunk-is : {X : Type 0} (n k i : ℕ) (xs : List X) (d : List X) → i < k → get_or (first_chunks n k xs) i d ≡ take n (drop (i * n) xs)
chunk-is n zero i xs d h = absurd (omega (arith, h))
chunk-is n (suc k) zero xs d h = let e : 0 * n ≡ 0 = omega arith in rw e
chunk-is n (suc k) (suc i) xs d h = let e : suc i * n ≡ n + i * n = omega arith in chunk-is n k i (drop n xs) d (omega (arith, h)) ∙ ap (take n) (drop-drop (i * n) n xs ∙ ap (λ (j : ℕ). drop j xs) (sym e))

pub record Next (rows row : List ℕ) (i : ℕ) : Type 0 where
  pub row_is : row ≡ row_in rows i
  pub left : i < row_count rows

-- row i of those from row a on
pub next-is :
    (rows : List ℕ) (whole : List (List ℕ)) (a i : ℕ) → whole ≡ first_chunks 17 (length rows / 17) rows → length whole ≡ length rows / 17
    → i < length (take (length whole - a) (drop a whole)) → Next rows (get_or (take (length whole - a) (drop a whole)) i []) (a + i)
next-is rows whole a i e l h =
    let n : length (take (length whole - a) (drop a whole)) ≡ length whole - a = length-take (length whole - a) (drop a whole) ∙ omega (arith, length-drop a whole) in
    let s : i < length whole - a = omega (arith, h, n) in
    let k : a + i < length rows / 17 = omega (arith, s, l) in
    record {
      row_is = get_or-take (length whole - a) (drop a whole) i [] s ∙ get_or-drop a whole i [] ∙ ap (λ (ws : List (List ℕ)). get_or ws (a + i) []) e ∙ chunk-is 17 (length rows / 17) (a + i) rows [] k;
      left = k;
    }

-- ---- along the turns
module _ (rows : List ℕ) (room : ℕ) (free : Bool) (from : Run) (p₀ : List ℕ) where
  -- where the loop stands
  pub record Along (x : Run) (p : List ℕ) : Type 0 where
    pub runs : Runs rows room free from p₀ x p
    pub row_within : x.row ≤ row_count rows
    pub at_in : x.at ≤ room
    pub counted : x.count + from.row ≡ from.count + x.row

  pub starts : {lent : ℕ} → Skimming rows room from lent → Along from p₀
  starts h = record { runs = record { rows_taken = 0; ran = (refl, refl) }; row_within = h.row_within; at_in = h.at_in; counted = omega arith }

  pub goes : {x y : Run} {p q : List ℕ} → Along x p → Taken rows room free x p y q → Along y q
  goes {x} {y} {p} {q} a k =
      let few = form-few k.form in
      record {
        runs = record { rows_taken = suc a.runs.rows_taken; ran = record { x = x; p = p; before = a.runs.ran; taken = k } };
        row_within = rw k.on (omega (arith, k.left));
        at_in = rw k.on (omega (arith, k.roomy, few));
        counted = rw k.on (omega (arith, a.counted));
      }
