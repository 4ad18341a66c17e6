-- From the two walks to the contract of the build.
use mathlib.Core.Path.{◌≡◌, refl, sym, ap, ap₂, ◌∙◌, subst}
use mathlib.Core.Bool.{Bool, true, false, cond}
use mathlib.Core.List.{List, [], ◌∷◌, ◌++◌}
use Prim.Native.Nat.{ℕ, ◌+◌, ◌*◌, ◌≤◌}
use native.Mathlib.Omega.{arith}
use lib.ListN.{length, drop, replicate}
use Rattle.std.specs.Prelude.{Ok, Err, Result}
use Rattle.refusals.specs.Answers.{Answer, Verdict, Judged}
use Rattle.refusals.specs.declared.Refusal.{Refusal}
use Rattle.refusals.specs.declared.Refusal.TheVariants.{RowSlice}
use Rattle.refusals.specs.Numbers.{answer_of, answered}
use Rattle.refusals.specs.Order.{or_else, first_of, passing, if_good, said_of_row, first_in, foremost}
use Rattle.refusals.specs.Scan.{scan_end, scan_end_lem}
use Rattle.refusals.proofs.Order.{foremost-here, foremost-on, named-refused, named-good}
use Rattle.refusals.proofs.Scans.{scan_low, scan_first}
use Rattle.rows.specs.Rows.{well_formed}
use Rattle.rows.proofs.Limit.{rows_few}
use Rattle.places.specs.declared.OpenLoop.{OpenLoop}
use Rattle.places.specs.declared.Rooms.{Rooms}
use Rattle.places.specs.Items.{Kernel, kernel_of, is_label, is_jump, total, place, label_width, jump_width}
use Rattle.places.specs.Looking.{deepest}
use Rattle.places.specs.Verdict.{verdict_at, reach_at, judgement, taken}
use Rattle.places.specs.Left.{Lent, lent_of, rooms_of_lent, left, gather, put, zero_loop, Outcome, outcome, built, build_of, Builds}
use Rattle.places.proofs.Emitted.{place-emitted}
use Rattle.prefixes.proofs.Passing.{fits}
use Rattle.tables.specs.Tables.{wiped}
use Rattle.tables.specs.Held.{HoldsLabels}
use Rattle.tables.proofs.Held.{labels_length, jumps-length, labels_are, jumps_are, labels-held}
use Rattle.tables.proofs.Fronts.{Front, put-good, put_refused, front-refused}
use Rattle.checks.specs.Rooming.{RoomingIn}
use Rattle.checks.proofs.Rooming.{rooming-of}
use Rattle.plain.specs.declared.first.Before.{Before}
use Rattle.plain.specs.declared.first.Placed.{Placed}
use Rattle.plain.specs.Once.{written}
use Rattle.plain.specs.Plain.{labels_at, jumps_at, rows_judged, RoomingOf, Walked, WalkedAll, tables, aims, Wiped, Concluding, Ended, Concluded}
use Rattle.plain.proofs.Asked.{fit, open_late, jumped, late, early, all-good}
use Rattle.plain.proofs.Walking.{labels-long, jumps-long}
use Rattle.plain.proofs.Written.{walked, walked-is, walked-rest}
use Rattle.refusals.specs.declared.Refused.{Refused}
use Rattle.plain.proofs.Finishing.{no_refusal}

pub walking_of : {r : Rooms} (lent : Lent) → r ≡ rooms_of_lent lent → RoomingOf r (tables lent.labels lent.jumps)
walking_of lent e = let g = rooming-of e in omega (arith, g)

-- ---- a list of rows
module _ (k : Kernel) (few : k.n ≤ 4194304) {r : Rooms} (lent : Lent) (e : r ≡ rooms_of_lent lent) {p : Placed} {ls js : List ℕ} (y : Walked k r (tables lent.labels lent.jumps) p (tables ls js)) where
  open k use {it, n}

  abbrev t : ℕ
  t = taken k r

  rooming : RoomingIn r lent
  rooming = rooming-of e

  labels-room : label_width * total is_label it t ≤ length lent.labels
  labels-room = let f = fit k r in omega (arith, rooming.labels_in, f.labels)

  jumps-room : jump_width * total is_jump it t ≤ length lent.jumps
  jumps-room = let f = fit k r in omega (arith, rooming.jumps_in, f.jumps)

  L-is : Front ls (gather (λ q. (left k q (it q)).labels) t) lent.labels (label_width * total is_label it t)
  L-is = record { held = y.labels ∙ labels_are k (labels_at k lent.labels) (λ q. refl) t labels-room; many = labels_length k t }

  J-is : Front js (gather (λ q. (left k q (it q)).jumps) t) lent.jumps (jump_width * total is_jump it t)
  J-is = record { held = y.jumps ∙ jumps_are k (jumps_at k lent.jumps) (λ q. refl) t jumps-room; many = jumps-length k t }

  deep : p.before.deepest ≤ length lent.loops
  deep = let f = fit k r in rw y.before (omega (arith, rooming.loops_in, f.deep))

  finishes : Concluding k p (lent_of lent.parcels ls js [])
  finishes =
      let f = fit k r in
      let l : length ls ≡ length lent.labels = ap length y.labels ∙ labels-long k lent.labels t in
      let j : length js ≡ length lent.jumps = ap length y.jumps ∙ jumps-long k lent.jumps t in
      record {
        used = rw y.before (omega (arith, rooming, f.parcels, f.labels, f.jumps, l, j));
        writable = λ v.
            let g = all-good k r (named-good (rows_judged k r).row (rows_judged k r).verdict (sym y.outcome ∙ v)) in
            let w = g.whole in
            record {
              rooms = r;
              few = few;
              passed = g.passes;
              closed = g.closed;
              count_is = rw (y.before, w) refl;
              held = subst (λ (i : ℕ). HoldsLabels it i ls) w (subst (HoldsLabels it t) (sym y.labels) (labels-held k (labels_at k lent.labels) (λ q. refl) t labels-room));
              labels_in = rw y.before (omega (arith, l, labels-room));
              parcels_few = rooming.parcels_few;
              parcels_in = rooming.parcels_in;
            };
      }

  -- ---- what is left in these rooms, with this judgement
  abbrev come : Rooms → Judged → Outcome
  come r j =
      let v = j.verdict in
      outcome (answer_of j (place it n))
      (record {
        parcels = put v (gather (λ q. (left k q (it q)).parcels) (taken k r)) lent.parcels;
        labels = put v (gather (λ q. (left k q (it q)).labels) (taken k r)) lent.labels;
        jumps = put v (gather (λ q. (left k q (it q)).jumps) (taken k r)) lent.jumps;
        loops = replicate (deepest it (taken k r)) zero_loop ++ drop (deepest it (taken k r)) lent.loops;
      })

  abbrev O : Judged → Outcome
  O j = come r j

  -- an answer and the buffers are an outcome
  pub record Is (o : Outcome) (a : Answer) (left : Lent) : Type 0 where
    pub answer : a ≡ o.answer
    pub parcels : left.parcels ≡ o.lent.parcels
    pub labels : left.labels ≡ o.lent.labels
    pub jumps : left.jumps ≡ o.lent.jumps
    pub loops : left.loops ≡ o.lent.loops

  module _ (a : Answer) (lent' : Lent) (ks : List OpenLoop) (z : ks ≡ wiped zero_loop p.before.deepest lent.loops) where
    abbrev after : Lent
    after = lent_of lent'.parcels lent'.labels lent'.jumps ks

    loops_are : ks ≡ (O (said_of_row 0 (Ok tt))).lent.loops
    loops_are = z ∙ ap (λ (b : Before). wiped zero_loop b.deepest lent.loops) y.before

    -- refused, with any parcels that keep the rest
    refused-is : (why : Refusal) (row : ℕ) (ps : List ℕ) → drop (place it t) ps ≡ drop (place it t) lent.parcels → Wiped (record { why = why; row = row }) p.before (lent_of ps ls js []) a lent' → Is (O (said_of_row row (Err why))) a after
    refused-is why row ps d w =
        let b = y.before in
        record {
          answer = w.answer;
          parcels = w.parcels ∙ ap (λ (b : Before). wiped 0 b.place ps) b ∙ put_refused why ps (gather (λ q. (left k q (it q)).parcels) t) lent.parcels (place it t) (place-emitted k t) d;
          labels = w.labels ∙ ap (λ (b : Before). wiped 0 (label_width * b.labels) ls) b ∙ front-refused why L-is;
          jumps = w.jumps ∙ ap (λ (b : Before). wiped 0 (jump_width * b.jumps) js) b ∙ front-refused why J-is;
          loops = loops_are;
        }

    -- ---- the second walk
    module _ (good : (rows_judged k r).verdict ≡ Ok tt) where
      whole : t ≡ n
      whole = (all-good k r good).whole

      place-fits : place it n ≤ length lent.parcels
      place-fits = let f = fits k r n (all-good k r good).passes in omega (arith, rooming.parcels_in, f.parcels)

      abbrev W : ℕ → List ℕ
      W i = walked k lent.parcels place-fits i

      ended_is : Ended k p.before (lent_of lent.parcels ls js []) a lent' → Is (O (first_in (reach_at k) n)) a after
      ended_is w = subst (λ (j : Judged). Is (O j) a after) said (go w.judged.verdict refl)
        where
          said : w.judged ≡ first_in (reach_at k) n
          said =
              let s = scan_first (reach_at k) (written k) lent.parcels n in
              ap₂ said_of_row (w.came.end ∙ s.1) (w.came.outcome ∙ s.0)

          ends : ℕ
          ends = scan_end (aims k) (written k) lent.parcels n 0

          go : (v : Verdict) → w.judged.verdict ≡ v → Is (O w.judged) a after
          go (Ok _) q =
              let g = w.accepted q in
              let s = scan_end_lem (aims k) (written k) lent.parcels n 0 (sym w.came.outcome ∙ q) in
              let x : w.parcels ≡ W t = w.came.here ∙ ap W (s ∙ (let c : 0 + n ≡ n = omega arith in c) ∙ sym whole) in
              let f : Front w.parcels (gather (λ i. (left k i (it i)).parcels) t) lent.parcels (place it t) = subst (λ (l : List ℕ). Front l (gather (λ i. (left k i (it i)).parcels) t) lent.parcels (place it t)) (sym x) (walked-is k lent.parcels place-fits t (omega (arith, whole))) in
              subst (λ (v : Verdict). Is (O (said_of_row w.judged.row v)) a after) (sym q)
              (record {
                answer = g.0 ∙ ap (λ (b : Before). Ok b.place) y.before ∙ ap (λ (i : ℕ). Ok (place it i)) whole;
                parcels = ap (λ (l : Lent). l.parcels) g.1 ∙ put-good f;
                labels = ap (λ (l : Lent). l.labels) g.1 ∙ put-good L-is;
                jumps = ap (λ (l : Lent). l.jumps) g.1 ∙ put-good J-is;
                loops = loops_are;
              })
          go (Err why) q =
              let l = scan_low (aims k) (written k) lent.parcels n 0 in
              subst (λ (v : Verdict). Is (O (said_of_row w.judged.row v)) a after) (sym q)
              (refused-is why w.judged.row w.parcels
              (subst (λ (i : ℕ). drop (place it i) w.parcels ≡ drop (place it i) lent.parcels) (sym whole) (ap (drop (place it n)) w.came.here ∙ walked-rest k lent.parcels place-fits ends (omega arith)))
              (w.refused why q))

    finished_is : Concluded k p (lent_of lent.parcels ls js []) a lent' → Is (built k lent) a after
    finished_is w = subst (λ (r : Rooms). Is (come r (judgement k r)) a after) e (go p.outcome refl)
      where
        -- a last one: of a good one no row is told
        last : Is (O (first_in (reach_at k) n)) a after → Is (O (foremost (first_in (reach_at k) n ∷ []))) a after
        last i = go' (first_of (reach_at k) n) refl
          where
            go' : (v : Verdict) → first_of (reach_at k) n ≡ v → Is (O (foremost (first_in (reach_at k) n ∷ []))) a after
            go' (Err why) q = subst (λ (j : Judged). Is (O j) a after) (sym (foremost-here (jumped k r) [] q)) i
            go' (Ok _) q = subst (λ (v : Verdict). Is (O (said_of_row (if_good v 0 (passing (reach_at k) n)) (or_else v (Ok tt)))) a after) (sym q) (subst (λ (v : Verdict). Is (O (said_of_row (passing (reach_at k) n) v)) a after) q i)

        go : (v : Result (Unit {0}) Refused) → p.outcome ≡ v → Is (O (judgement k r)) a after
        go (Err e) q =
            let s = named-refused (rows_judged k r).row (rows_judged k r).verdict (sym y.outcome ∙ q) in
            let j : said_of_row e.row (Err e.why) ≡ judgement k r = ap₂ said_of_row (sym s.1) (sym s.0) ∙ sym (early k r s.0) in
            subst (λ (j : Judged). Is (O j) a after) j (refused-is e.why e.row lent.parcels refl (w.stopped e q))
        go (Ok _) q =
            let g = named-good (rows_judged k r).row (rows_judged k r).verdict (sym y.outcome ∙ q) in
            let h = all-good k r g in
            let s : judgement k r ≡ foremost (first_in (reach_at k) n ∷ []) = foremost-on (first_in (verdict_at k r) n) (late k r) h.rows ∙ foremost-on (open_late k r) (jumped k r ∷ []) h.late in
            subst (λ (j : Judged). Is (O j) a after) (sym s) (last (ended_is g (w.went q)))

-- ---- any slice
module _ {rows names : List ℕ} {r : Rooms} (lent : Lent) (e : r ≡ rooms_of_lent lent) {p : Placed} {ls js : List ℕ} (x : WalkedAll rows names r (tables lent.labels lent.jumps) p (tables ls js)) where
  abbrev k : Kernel
  k = kernel_of rows names

  abbrev formed : Bool → Type 0
  formed b = well_formed (length rows) ≡ b

  pub deep_in : p.before.deepest ≤ length lent.loops
  deep_in = go (well_formed (length rows)) refl
    where
      go : (b : Bool) → formed b → p.before.deepest ≤ length lent.loops
      go true w = deep k (rows_few (length rows) w) lent e (x.read w)
      go false w = rw (x.unread w).before (omega arith)

  pub finishing : Concluding k p (lent_of lent.parcels ls js [])
  finishing = go (well_formed (length rows)) refl
    where
      go : (b : Bool) → formed b → Concluding k p (lent_of lent.parcels ls js [])
      go true w = finishes k (rows_few (length rows) w) lent e (x.read w)
      go false w =
          let u = x.unread w in
          record { used = rw u.before (omega arith); writable = λ v. absurd (no_refusal (sym u.outcome ∙ v)) }

  abbrev Come : Answer → Lent → List OpenLoop → Outcome → Type 0
  Come a lent' ks o = (a ≡ o.answer) × (lent'.parcels ≡ o.lent.parcels) × (lent'.labels ≡ o.lent.labels) × (lent'.jumps ≡ o.lent.jumps) × (ks ≡ o.lent.loops)

  pub plain_builds : {a : Answer} {lent' : Lent} {ks : List OpenLoop} → Concluded k p (lent_of lent.parcels ls js []) a lent' → ks ≡ wiped zero_loop p.before.deepest lent.loops
      → Builds rows names lent (answered a) (lent_of lent'.parcels lent'.labels lent'.jumps ks)
  plain_builds {a} {lent'} {ks} w z = go (well_formed (length rows)) refl
    where
      done : Come a lent' ks (build_of rows names lent) → Builds rows names lent (answered a) (lent_of lent'.parcels lent'.labels lent'.jumps ks)
      done c = record { answer = ap answered c.0; parcels = c.1; labels = c.2; jumps = c.3; loops = c.4 }

      go : (b : Bool) → formed b → Builds rows names lent (answered a) (lent_of lent'.parcels lent'.labels lent'.jumps ks)
      go true f =
          let i = finished_is k (rows_few (length rows) f) lent e (x.read f) a lent' ks z w in
          done (subst (λ (b : Bool). Come a lent' ks (cond b (built k lent) (outcome (Err (record { why = RowSlice; row = 0 })) lent))) (sym f) (i.answer, i.parcels, i.labels, i.jumps, i.loops))
      go false f =
          let u = x.unread f in
          let s = w.stopped (record { why = RowSlice; row = 0 }) u.outcome in
          let b = u.before in
          done
          (subst (λ (b : Bool). Come a lent' ks (cond b (built k lent) (outcome (Err (record { why = RowSlice; row = 0 })) lent))) (sym f)
          (s.answer, s.parcels ∙ rw b refl, s.labels ∙ rw b u.labels, s.jumps ∙ rw b u.jumps, z ∙ rw b refl))
