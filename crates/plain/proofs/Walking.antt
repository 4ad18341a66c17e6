-- The first walk: before row i it has passed the rows before it, and the tables hold their entries.
use mathlib.Core.Path.{◌≡◌, refl, sym, ap, ap₂, ◌∙◌, subst}
use mathlib.Core.List.{List, [], ◌∷◌}
use mathlib.Core.Bool.{Bool}
use Prim.Native.Nat.{ℕ, zero, suc, ◌+◌, ◌*◌, ◌≤◌, ◌<◌}
use native.Mathlib.Omega.{arith}
use native.Mathlib.Numerals.{add-one}
use lib.ListN.{length}
use lib.Dec.{ltb}
use lib.Seq.{sets, length-sets}
use Rattle.refusals.specs.declared.Refusal.{Refusal}
use Rattle.refusals.specs.declared.Refusal.TheVariants.{DuplicateLabel, LabelInLoop, NoRoomForLabels}
use Rattle.std.specs.Prelude.{Ok, Err}
use Rattle.refusals.specs.Answers.{Judged}
use Rattle.coded.specs.Coded.{Coded}
use Rattle.refusals.specs.Order.{when, first, first_in, row_named}
use Rattle.refusals.proofs.Order.{last_one, AllPass, StopsAt, below_suc, all_first, all-passing, stop-first, stop-passing, foremost-here, foremost-on}
use Rattle.rows.specs.Rows.{most_rows}
use Rattle.items.specs.declared.Item.TheVariants.{Instruction, Label, Jump, LoopBegin, LoopEnd}
use Rattle.places.specs.declared.Rooms.{Rooms}
use Rattle.places.specs.Items.{Kernel, kernel_of, row_at, row_count, about, is_label, is_jump, total, nest, label_width, jump_width}
use Rattle.places.specs.Verdict.{faults, verdict_at, taken}
use Rattle.places.specs.Left.{Lent, left}
use Rattle.prefixes.proofs.Names.{row_fine}
use Rattle.prefixes.proofs.Traits.{one_way}
use Rattle.prefixes.proofs.Passing.{Fits, fits}
use Rattle.tables.specs.Held.{HoldsLabels}
use Rattle.tables.proofs.Held.{labels-held}
use Rattle.tables.proofs.Lookups.{lookup-there, entries_in}
use Rattle.ends.specs.Ends.{Closed}
use Rattle.plain.specs.declared.first.Before.{Before}
use Rattle.plain.specs.Plain.{before_row, passed, PassFine, check_at, CheckFine, EnterFine, Entered, labels_at, jumps_at, unclosed, late_of, past_of, Passed, rows_judged, RoomingOf, Walked}
use Rattle.plain.proofs.Entries.{label-left, jump-left}

module _ (k : Kernel) where
  open k use {names, it, n}

  pub labels-long : (ls : List ℕ) (i : ℕ) → length (labels_at k ls i) ≡ length ls
  labels-long ls zero = refl
  labels-long ls (suc i) = length-sets (labels_at k ls i) (label_width * total is_label it i) (left k i (it i)).labels ∙ labels-long ls i

  pub jumps-long : (js : List ℕ) (i : ℕ) → length (jumps_at k js i) ≡ length js
  jumps-long js zero = refl
  jumps-long js (suc i) = length-sets (jumps_at k js i) (jump_width * total is_jump it i) (left k i (it i)).jumps ∙ jumps-long js i

  -- a label's search finds what the items say
  check-by : (r : Rooms) (ls : List ℕ) (i : ℕ) → HoldsLabels it i ls → (x : Coded) → check_at k r ls (before_row it i) i x ≡ first (faults k r i x)
  check-by r ls i held (Ok (Instruction c)) = refl
  check-by r ls i held (Ok (Label a b)) =
      ap (λ (t : Bool). first (when (ltb 0 (nest it i)) (LabelInLoop a b) ∷ when t (DuplicateLabel a b) ∷ when (ltb r.labels (total is_label it i + 1)) (NoRoomForLabels r.labels) ∷ []))
      (lookup-there k i ls held a b)
  check-by r ls i held (Ok (Jump c a b)) = refl
  check-by r ls i held (Ok (LoopBegin c m)) = refl
  check-by r ls i held (Ok LoopEnd) = refl
  check-by r ls i held (Err why) = sym (last_one (Err why))

module _ (k : Kernel) (r : Rooms) (lent : Lent) where
  open k use {names, it, n}

  pub record Along (i : ℕ) (b : Before) (now : Lent) : Type 0 where
    pub within : i ≤ n
    pub before : b ≡ before_row it i
    pub passes : AllPass (verdict_at k r) i
    pub labels : now.labels ≡ labels_at k lent.labels i
    pub jumps : now.jumps ≡ jumps_at k lent.jumps i

  pub along_start : Along 0 (before_row it 0) lent
  along_start = record { within = omega arith; before = refl; passes = λ q h. absurd (omega arith); labels = refl; jumps = refl }

  module _ (rooming : RoomingOf r lent) {i : ℕ} {b : Before} (now : Lent) (a : Along i b now) where
    abbrev f : Fits it r i
    f = fits k r i a.passes

    labels-same : length now.labels ≡ length lent.labels
    labels-same = ap length a.labels ∙ labels-long k lent.labels i

    jumps-same : length now.jumps ≡ length lent.jumps
    jumps-same = ap length a.jumps ∙ jumps-long k lent.jumps i

    held : HoldsLabels it i now.labels
    held =
        subst (HoldsLabels it i) (sym a.labels)
        (labels-held k (labels_at k lent.labels) (λ q. refl) i (let u = f.labels in omega (arith, rooming.labels_in)))

    -- the check is the verdict
    pub check-is : {x : Coded} → x ≡ it i → check_at k r now.labels b i x ≡ verdict_at k r i
    check-is {x} e = ap₂ (λ (y : Before) (z : Coded). check_at k r now.labels y i z) a.before e ∙ check-by k r now.labels i held (it i)

    more : verdict_at k r i ≡ Ok tt → AllPass (verdict_at k r) (suc i)
    more g = below_suc (λ (q : ℕ). verdict_at k r q ≡ Ok tt) i a.passes g

    module _ (h : i < n) {x : Coded} (e : x ≡ it i) where
      pub along_stop : {why : Refusal} → check_at k r now.labels b i x ≡ Err why → Walked k r lent (record { before = b; outcome = Err (record { why = why; row = i }) }) now
      along_stop {why} c =
          let s : StopsAt (verdict_at k r) n = record { row = i; why = why; before = h; fails = sym (check-is e) ∙ c; earlier = a.passes } in
          let t : taken k r ≡ i = stop-passing (verdict_at k r) n s in
          let j : rows_judged k r ≡ first_in (verdict_at k r) n = foremost-here (first_in (verdict_at k r) n) (unclosed k (nest it n) ∷ []) (stop-first (verdict_at k r) n s) in
          record {
            before = a.before ∙ ap (before_row it) (sym t);
            outcome = sym (ap₂ row_named (ap (λ (j : Judged). j.row) j ∙ t) (ap (λ (j : Judged). j.verdict) j ∙ stop-first (verdict_at k r) n s));
            labels = a.labels ∙ ap (labels_at k lent.labels) (sym t);
            jumps = a.jumps ∙ ap (jumps_at k lent.jumps) (sym t);
          }

      module _ (good : check_at k r now.labels b i x ≡ Ok tt) where
        abbrev g : Fits it r (suc i)
        g = fits k r (suc i) (more (sym (check-is e) ∙ good))

        -- the next row's numbers
        pub pass-fine : PassFine b (about x)
        pass-fine =
            rw (a.before, e)
            (let u = g in let v = f in let w = one_way (it i) in
            record {
              place = omega (arith, rooming.parcels_few, g.parcels);
              labels = omega (arith, rooming.labels_few, g.labels);
              jumps = omega (arith, rooming.jumps_few, g.jumps);
              opens = omega (arith, rooming.loops_few, f.loops);
              closes = closes;
            })
          where
            closes : (about (it i)).closes ≤ nest it i + (about (it i)).opens
            closes = let w = one_way (it i) in go (about (it i)).closes refl
              where
                go : (c : ℕ) → (about (it i)).closes ≡ c → (about (it i)).closes ≤ nest it i + (about (it i)).opens
                go zero e = omega arith
                go (suc c) e =
                    let w = one_way (it i) in
                    let z : (about (it i)).closes ≡ 1 = omega arith in
                    let u = g.closed i (omega arith) z in
                    omega arith

        pub enter_fine : EnterFine x b now
        enter_fine =
            rw (a.before, e)
            (record {
              label = λ l. omega (arith, rooming.labels_in, g.labels, labels-same);
              jump = λ l. omega (arith, rooming.jumps_in, g.jumps, jumps-same);
              place_few = omega (arith, rooming.parcels_few, f.parcels);
              labels_few = omega (arith, rooming.labels_few, f.labels);
              jumps_few = omega (arith, rooming.jumps_few, f.jumps);
            })

        pub along_next : {b' : Before} (then : Lent) → Entered x i b now then → b' ≡ passed b (about x) → Along (i + 1) b' then
        along_next then en p =
            rw add-one
            (record {
              within = h;
              before = p ∙ ap₂ (λ (y : Before) (z : Coded). passed y (about z)) a.before e;
              passes = more (sym (check-is e) ∙ good);
              labels = en.labels ∙ rw (a.before, e, a.labels) (ap (sets (labels_at k lent.labels i) (label_width * total is_label it i)) (label-left k i (it i)));
              jumps = en.jumps ∙ rw (a.before, e, a.jumps) (ap (sets (jumps_at k lent.jumps i) (jump_width * total is_jump it i)) (jump-left k i (it i)));
            })

    pub along_end : n ≤ i → Walked k r lent (past_of k b) now
    along_end h =
        let z : i ≡ n = omega (arith, a.within) in
        let p : AllPass (verdict_at k r) n = subst (AllPass (verdict_at k r)) z a.passes in
        let t : taken k r ≡ i = all-passing (verdict_at k r) n p ∙ sym z in
        let j : late_of k b.depth ≡ rows_judged k r = ap (λ (y : Before). late_of k y.depth) (a.before ∙ ap (before_row it) z) ∙ sym (foremost-on (first_in (verdict_at k r) n) (unclosed k (nest it n) ∷ []) (all_first (verdict_at k r) n p)) in
        record {
          before = a.before ∙ ap (before_row it) (sym t);
          outcome = ap (λ (j : Judged). row_named j.row j.verdict) j;
          labels = a.labels ∙ ap (labels_at k lent.labels) (sym t);
          jumps = a.jumps ∙ ap (jumps_at k lent.jumps) (sym t);
        }

-- ---- past the rows every loop end has closed a loop
pub past-fine : (rows names : List ℕ) (r : Rooms) (lent : Lent) → row_count rows ≤ most_rows → {i : ℕ} {b : Before} (now : Lent) → Along (kernel_of rows names) r lent i b now
    → row_count rows ≤ i → Passed rows names b
past-fine rows names r lent few {i} now a h =
    let z : i ≡ row_count rows = omega (arith, a.within) in
    record {
      few = few;
      closed = subst (Closed (row_at rows names)) z (fits (kernel_of rows names) r i a.passes).closed;
      depth_is = ap (λ (y : Before). y.depth) a.before ∙ ap (nest (row_at rows names)) z;
    }

-- ---- what the check leans on
pub check-fine : (rows names : List ℕ) (r : Rooms) (lent : Lent) → RoomingOf r lent → row_count rows ≤ most_rows → {i : ℕ} {b : Before} (now : Lent)
    → Along (kernel_of rows names) r lent i b now → i < row_count rows → {x : Coded} → x ≡ (kernel_of rows names).it i → CheckFine rows names r now.labels b i x
check-fine rows names r lent rooming few {i} now a h e =
    let k = kernel_of rows names in
    let f = fits k r i a.passes in
    let l : length now.labels ≡ length lent.labels = ap length a.labels ∙ labels-long k lent.labels i in
    let t = held k r lent rooming now a in
    rw (a.before, e)
    (record {
      rows_in = (omega arith, few);
      closed = f.closed;
      place_is = refl;
      depth_is = refl;
      place_few = omega (arith, rooming.parcels_few, f.parcels);
      parcels_few = rooming.parcels_few;
      labels_in = f.labels;
      labels_few = rooming.labels_few;
      entries_in = omega (arith, rooming.labels_in, f.labels, l);
      entries = entries_in k i now.labels t (row_fine rows names);
      jumps_few = omega (arith, rooming.jumps_few, f.jumps);
      waits_few = rooming.jumps_few;
      depth_few = omega (arith, rooming.loops_few, f.loops);
      loops_few = rooming.loops_few;
      fine = row_fine rows names i;
    })
