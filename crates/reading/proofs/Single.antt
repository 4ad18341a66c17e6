-- What stands at the front of parcels is single, so from each place on they go one way, and no second answer fits.
use mathlib.Core.Path.{◌≡◌, refl, sym, ap, ap₂, ◌∙◌}
use mathlib.Core.Logic.{◌↔◌}
use mathlib.Core.List.{List, ◌∷◌, ◌++◌}
use Prim.Native.Nat.{ℕ}
use native.Mathlib.Omega.{arith}
use lib.ListN.{length}
use Rattle.refusals.specs.Answers.{Verdict}
use Rattle.known.specs.Front.{known, unknown}
use Rattle.places.specs.Left.{put}
use Rattle.reading.specs.declared.ToldRows.{ToldRows}
use Rattle.reading.specs.Back.{Goes, ended, strange, full, next, told_rows, ReadsBack}
use Rattle.reading.specs.All.{ReadsAll}
use Rattle.inverse.proofs.Single.{front-single}
use Rattle.reading.proofs.Numbers.{good_zero}

-- nothing known is unknown
known_or_not : {n : ℕ} {row : List ℕ} → unknown ≡ known n row → ⊥
known_or_not e = let z : ◌≡◌ {A = ℕ} 0 1 = cc in absurd (omega arith)

pub goes-only : {room place done : ℕ} {ps rows places rows' places' : List ℕ} {v v' : Verdict} → Goes room place done ps rows places v → Goes room place done ps rows' places' v'
    → (rows ≡ rows') × (places ≡ places') × (v ≡ v')
goes-only ended ended = (refl, refl, refl)
goes-only (strange f) (strange g) = (refl, refl, refl)
goes-only (strange f) (full g h) = absurd (known_or_not (front-single _ _ _ f g))
goes-only (strange f) (next g h rest) = absurd (known_or_not (front-single _ _ _ f g))
goes-only (full f h) (strange g) = absurd (known_or_not (front-single _ _ _ g f))
goes-only (full f h) (full g i) = (refl, refl, refl)
goes-only (full f h) (next g i rest) = absurd (omega arith)
goes-only (next f h rest) (strange g) = absurd (known_or_not (front-single _ _ _ g f))
goes-only (next f h rest) (full g i) = absurd (omega arith)
goes-only (next {place = place} {n = n} {row = row} f h rest) (next {n = m} {row = line} g i other) =
    let e = front-single _ _ _ f g in
    let size : m ≡ n = cc in
    let same : row ≡ line = cc in
    let r = goes-only rest (rw size at other) in
    (ap₂ ◌++◌ same r.0, ap (λ (l : List ℕ). place ∷ l) r.1, r.2)

-- THE CONTRACT leaves no choice
module _ {parcels rows places : List ℕ} where
  pub no_second_answer : {t t' : ToldRows} {r r' p p' : List ℕ} → ReadsBack parcels rows places t r p → ReadsBack parcels rows places t' r' p' → (t ≡ t') × (r ≡ r') × (p ≡ p')
  no_second_answer x y =
      let e = goes-only x.goes y.goes in
      let rows_same = e.0 in
      let places_same = e.1 in
      let verdict-same = e.2 in (
        x.answer ∙ ap₂ told_rows verdict-same (ap length places_same) ∙ sym y.answer,
        x.rows_left ∙ ap₂ (λ (v : Verdict) (l : List ℕ). put v l rows) verdict-same rows_same ∙ sym y.rows_left,
        x.places_left ∙ ap₂ (λ (v : Verdict) (l : List ℕ). put v l places) verdict-same places_same ∙ sym y.places_left,
      )

  -- number 0 exactly where the parcels can be read to their end in the room lent
  pub read_zero : {t : ToldRows} {r p : List ℕ} → ReadsBack parcels rows places t r p → (t.number ≡ 0) ↔ ReadsAll parcels rows places
  read_zero x = (
    (λ e. let good = good_zero x.goes _ (sym (ap (λ (t : ToldRows). t.number) x.answer) ∙ e) in record { new_rows = x.new_rows; new_places = x.new_places; goes = rw good at x.goes }),
    (λ all. ap (λ (t : ToldRows). t.number) x.answer ∙ rw (goes-only x.goes all.goes).2),
  )
