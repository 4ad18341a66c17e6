-- The parcels once i rows are taken in: those of the items in order, and after them what was lent. A loop end sets its start's part anew.
use mathlib.Core.Path.{◌≡◌, refl, sym, ap, ap₂, ◌∙◌}
use mathlib.Core.Logic.{◌≢◌}
use mathlib.Core.Bool.{cond, Bool, true, false, ◌&&◌}
use mathlib.Core.List.{List, [], ◌++◌, append-nil}
use Prim.Native.Nat.{ℕ, zero, suc, ◌+◌, ◌-◌, ◌≤◌, ◌<◌}
use native.Mathlib.Omega.{arith}
use lib.ListN.{length, drop, length-drop}
use lib.Seq.{sets, drop-drop}
use lib.Dec.{eqb}
use borrow.Author.Tests.{eq-eqb, ne_eqb}
use Rattle.items.specs.declared.Item.TheVariants.{Instruction, Label, Jump, LoopBegin, LoopEnd}
use Rattle.std.specs.Prelude.{Ok, Err, Result}
use Rattle.encode.specs.declared.Form.{Form}
use Rattle.refusals.specs.declared.Refusal.{Refusal}
use Rattle.coded.specs.Coded.{Coded}
use Rattle.items.specs.declared.LoopCount.{LoopCount}
use Rattle.items.specs.declared.LoopMode.{LoopMode}
use Rattle.encode.specs.Encoding.{form_parcels, loop_form, settled}
use Rattle.places.specs.declared.OpenLoop.{OpenLoop}
use Rattle.places.specs.Items.{Kernel, about, size, place, nest}
use Rattle.places.specs.Left.{Lent, loop_parcels, gather, zeros}
use Rattle.places.specs.Looking.{Found, at, nothing, latest, opener, closer}
use Rattle.places.proofs.Emitted.{settled-three}
use Rattle.places.specs.Verdict.{loop_offset, loop_row}
use Rattle.prefixes.proofs.Tests.{and_second}
use Rattle.machine.specs.declared.State.{State}
use Rattle.machine.specs.Machine.{Mem, next, top_of, top_form}
use Rattle.tables.specs.Tables.{KernelFine}
use Rattle.tables.proofs.Stores.{sets_at, gather_eq, gather-length, gather_patch}
use Rattle.agrees.proofs.Prefix.{mem, state_is}
use Rattle.agrees.proofs.Fits.{Fits, fits-less}
use Rattle.agrees.proofs.Tops.{Opener, opener-at, top-is, top-form}

module _ (it : ℕ → Coded) where
  -- the parcels of row q, a loop that ends as said, while jumps wait
  abbrev pub words : Found → ℕ → Coded → List ℕ
  words e q (Ok (Instruction v)) = form_parcels v.form
  words e q (Ok (Label a b)) = []
  words e q (Ok (Jump c a b)) = zeros
  words e q (Ok (LoopBegin c m)) = loop_parcels it c m q e
  words e q (Ok LoopEnd) = []
  words e q (Err why) = []

  loop-length : (c : LoopCount) (m : LoopMode) (q : ℕ) (e : Found) → length (loop_parcels it c m q e) ≡ 3
  loop-length c m q (at e) = settled-three (loop_form c m (loop_offset it e q))
  loop-length c m q nothing = refl

  pub words-length : (e : Found) (q : ℕ) (x : Coded) → length (words e q x) ≡ size x
  words-length e q (Ok (Instruction v)) = refl
  words-length e q (Ok (Label a b)) = refl
  words-length e q (Ok (Jump c a b)) = refl
  words-length e q (Ok (LoopBegin c m)) = loop-length c m q e
  words-length e q (Ok LoopEnd) = refl
  words-length e q (Err why) = refl

  -- while i rows are in
  abbrev pub parts : ℕ → ℕ → List ℕ
  parts i q = words (closer it i q) q (it q)

  pub parts-length : (i n : ℕ) → length (gather (parts i) n) ≡ place it n
  parts-length i n = gather-length (parts i) (λ q. place it q) refl (λ q. ap (λ (y : ℕ). place it q + y) (sym (words-length (closer it i q) q (it q)))) n

  -- ---- no end before a start is its end
  latest-low : (t : ℕ → Bool) (i : ℕ) → latest t (λ q. q) 0 i ≤ i
  latest-low t zero = omega arith
  latest-low t (suc i) = go (latest-low t i) (t i)
    where
      go : latest t (λ q. q) 0 i ≤ i → (b : Bool) → cond b i (latest t (λ q. q) 0 i) ≤ suc i
      go h true = omega arith
      go h false = omega arith

  pub opener-low : (i : ℕ) → opener it i ≤ i
  opener-low i = latest-low (λ q. eqb (about (it q)).opens 1 && eqb (nest it q + 1) (nest it i)) i

  not_its_end : (i b : ℕ) → (opener it i ≡ b → ⊥) → closer it i b ≡ closer it (suc i) b
  not_its_end i b f = rw (and_second (eqb (about (it i)).closes 1) (eqb (opener it i) b) (ne_eqb _ _ f)) refl

  fresh : (b i : ℕ) → i ≤ b → closer it i b ≡ nothing
  fresh b zero h = refl
  fresh b (suc i) h =
      let u = opener-low i in
      sym (not_its_end i b (λ z. omega arith)) ∙ fresh b i (omega arith)

module _ (k : Kernel) (lent : Lent) (fine : KernelFine k) where
  abbrev it : ℕ → Coded
  it = k.it

  abbrev M : ℕ → Mem
  M i = mem it lent i

  abbrev Here : ℕ → Type 0
  Here i = (M i).lent.parcels ≡ gather (parts it i) i ++ drop (place it i) lent.parcels

  -- a row that is no loop end adds its parcels
  plain : (i : ℕ) {x : Coded} → it i ≡ x → (about x).closes ≡ 0 → (next i x (M i)).lent.parcels ≡ sets (M i).lent.parcels (place it i) (words it nothing i x) → Fits it lent (suc i) → Here i → Here (suc i)
  plain i {x} e z s f h =
      let c : (about (it i)).closes ≡ 0 = ap (λ (y : Coded). (about y).closes) e ∙ z in
      let now : words it nothing i x ≡ parts it i i = ap₂ (λ (y : Found) (x : Coded). words it y i x) (sym (fresh it i i (omega arith))) (sym e) in
      let ln : length (parts it i i) ≡ size (it i) = words-length it (closer it i i) i (it i) in
      let room = f.parcels in
      let left : length (drop (place it i) lent.parcels) ≡ length lent.parcels - place it i = length-drop (place it i) lent.parcels in
      ap (λ (y : Coded). (next i y (M i)).lent.parcels) e ∙ s ∙ ap₂ (λ (x y : List ℕ). sets x (place it i) y) h now
      ∙ sets_at (gather (parts it i) i) (parts it i i) (drop (place it i) lent.parcels) (place it i) (parts-length it i i) (omega arith)
      ∙ ap₂ ◌++◌ (gather_eq (parts it i) (parts it (suc i)) (suc i) (λ q u. rw c refl)) (drop-drop (length (parts it i i)) (place it i) lent.parcels ∙ ap (λ (y : ℕ). drop (place it i + y) lent.parcels) ln)

  closes : (i : ℕ) → it i ≡ Ok LoopEnd → Fits it lent (suc i) → Here i → Here (suc i)
  closes i e f h =
      let some : 0 < nest it i = f.ends i (omega arith) e in
      let b = opener it i in
      let o : Opener it i b = opener-at it i some in
      let c : (about (it i)).closes ≡ 1 = ap (λ (y : Coded). (about y).closes) e in
      let its : closer it (suc i) b ≡ at i = rw (c, eq-eqb b b refl) refl in
      let new : settled (loop_row it i b (it b)) ≡ parts it (suc i) b = ap (λ (x : Coded). settled (loop_row it i b x)) o.begins ∙ ap₂ (λ (y : Found) (x : Coded). words it y b x) (sym its) (sym o.begins) in
      let ln : length (parts it (suc i) b) ≡ length (parts it i b) = words-length it (closer it (suc i) b) b (it b) ∙ sym (words-length it (closer it i b) b (it b)) in
      let old : (q : ℕ) → q < i → q ≢ b → parts it i q ≡ parts it (suc i) q = λ q u g. ap (λ (y : Found). words it y q (it q)) (not_its_end it i q (λ z. g (sym z))) in
      let none : size (it i) ≡ 0 = ap size e in
      ap (λ (x : Coded). (next i x (M i)).lent.parcels) e
      ∙ ap (λ (s : State). sets (M i).lent.parcels (top_of s (M i).lent.loops).place (settled (top_form s (top_of s (M i).lent.loops)))) (state_is it lent i)
      ∙ ap₂ (λ (x : ℕ) (y : Result Form Refusal). sets (M i).lent.parcels x (settled y)) (ap (λ (y : OpenLoop). y.place) (top-is it lent i (fits-less f) some)) (top-form it lent i (fits-less f) some k.names (fine b))
      ∙ ap₂ (λ (x y : List ℕ). sets x (place it b) y) h new
      ∙ gather_patch (parts it i) (parts it (suc i)) (drop (place it i) lent.parcels) i b (place it b) o.before (parts-length it i b) ln old
      ∙ ap₂ (λ (x : List ℕ) (y : ℕ). x ++ drop y lent.parcels) (sym (append-nil (gather (parts it (suc i)) i)) ∙ ap (λ (x : Coded). gather (parts it (suc i)) i ++ words it (closer it (suc i) i) i x) (sym e)) (let w : place it i ≡ place it (suc i) = omega arith in w)

  by_row : (i : ℕ) (x : Coded) → it i ≡ x → Fits it lent (suc i) → Here i → Here (suc i)
  by_row i (Ok (Instruction v)) e f h = plain i e refl (ap (λ (s : State). sets (M i).lent.parcels s.at (form_parcels v.form)) (state_is it lent i)) f h
  by_row i (Ok (Label a b)) e f h = plain i e refl refl f h
  by_row i (Ok (Jump c a b)) e f h = plain i e refl (ap (λ (s : State). sets (M i).lent.parcels s.at zeros) (state_is it lent i)) f h
  by_row i (Ok (LoopBegin c m)) e f h = plain i e refl (ap (λ (s : State). sets (M i).lent.parcels s.at zeros) (state_is it lent i)) f h
  by_row i (Ok LoopEnd) e f h = closes i e f h
  by_row i (Err why) e f h = plain i e refl refl f h

  pub parcels_are : (i : ℕ) → Fits k.it lent i → (mem k.it lent i).lent.parcels ≡ gather (parts k.it i) i ++ drop (place k.it i) lent.parcels
  parcels_are zero f = refl
  parcels_are (suc i) f = by_row i (it i) refl f (parcels_are i (fits-less f))
