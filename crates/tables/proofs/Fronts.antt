-- A buffer that holds new numbers at its front, and after them what was lent: what a build that is accepted, or refused, leaves in it.
use mathlib.Core.Path.{◌≡◌, sym, ap, ◌∙◌}
use mathlib.Core.List.{List, ◌++◌}
use Prim.Native.Nat.{ℕ}
use lib.ListN.{length, drop, replicate}
use lib.Seq.{drop_at}
use Rattle.refusals.specs.declared.Refusal.{Refusal}
use Rattle.std.specs.Prelude.{Ok, Err}
use Rattle.places.specs.Left.{lent_of, put, Outcome, outcome}
use Rattle.tables.specs.Tables.{zeroed}

pub out_eq : {a b : Outcome} → a.answer ≡ b.answer → a.lent.parcels ≡ b.lent.parcels → a.lent.labels ≡ b.lent.labels → a.lent.jumps ≡ b.lent.jumps → a.lent.loops ≡ b.lent.loops → a ≡ b
out_eq p q r s t = λ i. outcome (p i) (lent_of (q i) (r i) (s i) (t i))

-- t new numbers
pub record Front (x new old : List ℕ) (t : ℕ) : Type 0 where
  pub held : x ≡ new ++ drop t old
  pub many : length new ≡ t

pub rest-is : {x new old : List ℕ} {t : ℕ} → Front x new old t → drop t x ≡ drop t old
rest-is {x} {new} {old} {t} f = ap (drop t) f.held ∙ drop_at new (drop t old) t f.many

pub put-good : {x new old : List ℕ} {t : ℕ} → Front x new old t → x ≡ put (Ok tt) new old
put-good {x} {new} {old} {t} f = f.held ∙ ap (λ (y : ℕ). new ++ drop y old) (sym f.many)

pub put_refused : (why : Refusal) (x new old : List ℕ) (t : ℕ) → length new ≡ t → drop t x ≡ drop t old → zeroed t x ≡ put (Err why) new old
put_refused why x new old t h e = ap (λ (y : List ℕ). replicate t 0 ++ y) e ∙ ap (λ (y : ℕ). replicate y 0 ++ drop y old) (sym h)

pub front-refused : (why : Refusal) {x new old : List ℕ} {t : ℕ} → Front x new old t → zeroed t x ≡ put (Err why) new old
front-refused why {x} {new} {old} {t} f = put_refused why x new old t f.many (rest-is f)
