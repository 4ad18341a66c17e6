-- After some turns the rows and places read stand at the front of the lent slices, and whatever the rest goes to, the whole goes to with these in front.
use mathlib.Core.Path.{◌≡◌, refl, ap}
use mathlib.Core.Logic.{◌≢◌}
use mathlib.Core.List.{List, [], ◌∷◌, ◌++◌, append_assoc, append-nil}
use Prim.Native.Nat.{ℕ, zero, suc, ◌+◌, ◌*◌, ◌≤◌, ◌<◌}
use native.Mathlib.Omega.{arith}
use native.Mathlib.Nat.{le_of_suc-le-suc}
use native.Mathlib.Numerals.{add-one}
use lib.ListN.{length, drop, set, length-drop}
use lib.Seq.{paste, drop-nil, drop-drop}
use Rattle.std.specs.Prelude.{Ok, Err, Some, None}
use Rattle.refusals.specs.Answers.{Verdict}
use Rattle.refusals.specs.declared.Refusal.{Refusal}
use Rattle.refusals.specs.declared.Refusal.TheVariants.{UnknownForm, NoRoomForRows}
use Rattle.rows.specs.Rows.{row_width}
use Rattle.known.specs.Front.{Front, known, unknown, instruction, loop_start, Parcels}
use Rattle.known.specs.declared.Known.{Known}
use Rattle.known.specs.Window.{known_at}
use Rattle.reading.specs.Back.{Goes, ended, strange, full, next, room_in, ReadsBack, told_back}
use Rattle.stores.specs.Stores.{Begins}
use Rattle.reading.specs.Walk.{Wiped, WalksBack}
use Rattle.reading.specs.declared.Walk.{Walk}
use Rattle.inverse.proofs.Small.{parcels-drop}
use Rattle.inverse.proofs.Fronts.{front_some}
use Rattle.reading.proofs.Found.{none_found, one_found}
use Rattle.stores.proofs.Stores.{begins_unwritten, begins-one, begins-run, begins-past, row-after}

-- ---- what stands at the front of parcels takes some of them, and its row is whole
pub front-within : {ps row : List ℕ} {n : ℕ} → Front ps (known n row) → n ≤ length ps
front-within (instruction s) = s.within
front-within (loop_start s) = s.within

pub front-whole : {ps row : List ℕ} {n : ℕ} → Front ps (known n row) → length row ≡ row_width
front-whole (instruction s) = s.encodes.whole
front-whole (loop_start s) = ap length s.numbers

drop_all : (l : List ℕ) (n : ℕ) → length l ≤ n → drop n l ≡ []
drop_all [] n h = drop-nil n
drop_all (x ∷ l) zero h = absurd (omega arith)
drop_all (x ∷ l) (suc n) h = drop_all l n (le_of_suc-le-suc h)

-- ---- the ways to go on or to stop, over parcels of which there are some
module _ {room place done : ℕ} where
  goes-strange : (ps : List ℕ) → 0 < length ps → Front ps unknown → Goes room place done ps [] [] (Err (UnknownForm place))
  goes-strange [] some f = absurd (omega arith)
  goes-strange (p ∷ ps) some f = strange f

  module _ {n : ℕ} {row : List ℕ} where
    goes-full : (ps : List ℕ) → 0 < length ps → Front ps (known n row) → room ≤ done → Goes room place done ps [] [] (Err (NoRoomForRows room))
    goes-full [] some f h = absurd (omega arith)
    goes-full (p ∷ ps) some f h = full f h

    goes-next : (ps : List ℕ) {rows places : List ℕ} {v : Verdict} → 0 < length ps → Front ps (known n row) → done < room → Goes room (place + n) (suc done) (drop n ps) rows places v → Goes room place done ps (row ++ rows) (place ∷ places) v
    goes-next [] some f h g = absurd (omega arith)
    goes-next (p ∷ ps) some f h g = next f h g

-- ---- what holds after `done` rows, at parcel `at`
pub record Walked (parcels rows₀ places₀ : List ℕ) (at done : ℕ) (rows places : List ℕ) : Type 0 where
  pub each : Parcels parcels
  pub within : at ≤ length parcels
  pub fits : done ≤ room_in rows₀ places₀
  pub new_rows : List ℕ
  pub new_places : List ℕ
  pub rows-here : Begins rows₀ new_rows (done * row_width) rows
  pub places-here : Begins places₀ new_places done places
  pub goes :
      (rs ps : List ℕ) (v : Verdict) → Goes (room_in rows₀ places₀) at done (drop at parcels) rs ps v →
      Goes (room_in rows₀ places₀) 0 0 parcels (new_rows ++ rs) (new_places ++ ps) v

module _ {parcels rows₀ places₀ : List ℕ} where
  pub walked_start : Parcels parcels → Walked parcels rows₀ places₀ 0 0 rows₀ places₀
  walked_start each =
      record {
        each = each;
        within = omega arith;
        fits = omega arith;
        new_rows = [];
        new_places = [];
        rows-here = begins_unwritten;
        places-here = begins_unwritten;
        goes = λ rs ps v g. g;
      }

  module _ {at done : ℕ} {rows places : List ℕ} (w : Walked parcels rows₀ places₀ at done rows places) where
    -- the walk stops where the rest goes to nothing more
    stopped : {v : Verdict} → Goes (room_in rows₀ places₀) at done (drop at parcels) [] [] v → WalksBack parcels rows₀ places₀ (record { done = done; verdict = v }) rows places
    stopped {v} g =
        record {
          new_rows = w.new_rows;
          new_places = w.new_places;
          goes = rw (append-nil, append-nil) at (w.goes [] [] v g);
          rows_left = w.rows-here;
          places_left = w.places-here;
        }

    -- at the end of the parcels
    pub walked_end : length parcels ≤ at → WalksBack parcels rows₀ places₀ (record { done = done; verdict = Ok tt }) rows places
    walked_end h = stopped (rw (drop_all parcels at h) ended)

    -- what is found at a parcel
    module _ (more : at < length parcels) where
      some : 0 < length (drop at parcels)
      some = simp length-drop (omega arith)

      each : Parcels (drop at parcels)
      each = parcels-drop at parcels w.each

      -- it starts no known form
      pub walked-strange : None ≡ known_at (drop at parcels) → WalksBack parcels rows₀ places₀ (record { done = done; verdict = Err (UnknownForm at) }) rows places
      walked-strange none = stopped (goes-strange _ some (none_found each none))

      module _ {k : Known} (one : Some k ≡ known_at (drop at parcels)) where
        front : Front (drop at parcels) (known k.parcels k.row)
        front = one_found each one

        pub walked-on : 0 < k.parcels
        walked-on = front_some front

        pub walked-within : at + k.parcels ≤ length parcels
        walked-within = let h = front-within front in let e = length-drop at parcels in omega arith

        -- the room is full
        pub walked-full : {room : ℕ} → room ≡ room_in rows₀ places₀ → done ≡ room → WalksBack parcels rows₀ places₀ (record { done = done; verdict = Err (NoRoomForRows room) }) rows places
        walked-full e h = rw e (stopped (goes-full _ some front (omega arith)))

        -- a row more
        pub walked_next : {room : ℕ} → room ≡ room_in rows₀ places₀ → done ≢ room → {rows' : List ℕ} → rows' ≡ paste rows (done * row_width) k.row row_width → Walked parcels rows₀ places₀ (at + k.parcels) (done + 1) rows' (set places done at)
        walked_next e h stored =
            let room : done < room_in rows₀ places₀ = omega (arith, w.fits) in
            record {
              each = w.each;
              within = walked-within;
              fits = omega arith;
              new_rows = w.new_rows ++ k.row;
              new_places = w.new_places ++ at ∷ [];
              rows-here = begins-run w.rows-here k.row (front-whole front) (row-after done) (omega arith) stored;
              places-here = begins-one w.places-here at (omega arith);
              goes =
                  λ rs ps v g.
                  rw (append_assoc, append_assoc)
                  (w.goes (k.row ++ rs) (at ∷ ps) v (goes-next _ some front room (rw (drop-drop k.parcels at parcels, ← add-one done) g)));
            }

-- ---- the two steps together
module _ {parcels rows₀ places₀ rows places : List ℕ} {walk : Walk} (w : WalksBack parcels rows₀ places₀ walk rows places) where
  pub reads-good : walk.verdict ≡ Ok tt → ReadsBack parcels rows₀ places₀ (told_back (Ok walk.done)) rows places
  reads-good e =
      record {
        new_rows = w.new_rows;
        new_places = w.new_places;
        verdict = Ok tt;
        goes = rw e at w.goes;
        answer = rw w.places_left.long;
        rows_left = rw w.rows_left.long w.rows_left.here;
        places_left = rw w.places_left.long w.places_left.here;
      }

  pub reads-refused : {r : Refusal} {rows' places' : List ℕ} → walk.verdict ≡ Err r → Wiped rows (walk.done * row_width) rows' → Wiped places walk.done places'
      → ReadsBack parcels rows₀ places₀ (told_back (Err r)) rows' places'
  reads-refused {r} e wiped-rows wiped-places =
      record {
        new_rows = w.new_rows;
        new_places = w.new_places;
        verdict = Err r;
        goes = rw e at w.goes;
        answer = refl;
        rows_left = rw (w.rows_left.long, ← begins-past w.rows_left) wiped-rows.here;
        places_left = rw (w.places_left.long, ← begins-past w.places_left) wiped-places.here;
      }
