-- The rows that are seen keep what the long way leans on.
use Rattle.places.specs.Items.{row_count}
use Rattle.taking.proofs.Skims.{skimmed-fine}
use Rattle.taking.proofs.NextRow.{row_next}
use native.Mathlib.Omega.{arith}
use mathlib.Core.Logic.{inl, inr}
use mathlib.Core.Path.{refl, sym, ◌∙◌}
use Rattle.taking.proofs.Taking.at_row.Goals as goal

pub long_row-requires : goal.long_row-requires
long_row-requires c = let h = row_next c.skim-s.result.verdict c.skim-s.result.row (row_count c.args.rows.now) (sym c.going.ensures ∙ c.if-going.true) in (skimmed-fine c.requires.0 (c.skim-s.ensures c.args.names.now), h.1, omega (arith, h.1, c.requires.3))

pub returns-then-going : goal.returns-then-going
returns-then-going c = record { mid = _; parcels = _; skimmed = c.skim-s.ensures c.args.names.now; rest = inl (sym c.going.ensures ∙ c.if-going.true, c.long_row.ensures) }

pub returns : goal.returns
returns c = record { mid = _; parcels = _; skimmed = c.skim-s.ensures c.args.names.now; rest = inr (sym c.going.ensures ∙ c.if-going.false, refl, refl) }
