-- The quick build's rows in turn, with 64 loop records of their own, all zero.
use Rattle.std.specs.Prelude.{List, ℕ, replicate}
use Rattle.places.specs.declared.OpenLoop.{OpenLoop}
use Rattle.places.specs.Left.{Lent, rooms_of_lent, zero_loop, with_loops}
use Rattle.taking.specs.declared.Taking.{Taking}
use Rattle.taking.specs.Taking.{Took}

-- what is lent, with those records
abbrev pub with_own : Lent → Lent
with_own lent = with_loops lent (replicate 64 zero_loop)

pub record TakesAlone (rows names : List ℕ) (lent : Lent) (t : Taking) (left : Lent) : Type 0 where
  pub loops : List OpenLoop
  pub took : Took rows names (rooms_of_lent (with_own lent)) (with_own lent) t (with_loops left loops)
