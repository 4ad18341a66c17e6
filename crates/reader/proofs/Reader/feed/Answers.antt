use mathlib.Core.Path.{sym, ap, ◌∙◌}
use Rattle.std.specs.Prelude.{Result}
use Rattle.reader.specs.declared.Place.{Place}
use Rattle.reader.specs.declared.Unread.{Unread}
use Rattle.reader.specs.Steps.{mem, run}
use Rattle.reader.proofs.Feeding.{has-fine, has_more, has-unread}
use Rattle.reader.proofs.Reader.feed.Goals as goal

pub turns-self-requires : goal.turns-self-requires
turns-self-requires c = rw c.in-Ok.is at (has-fine _ c.requires)

pub returns-in-Ok : goal.returns-in-Ok
returns-in-Ok c = λ past h. has_more past _ (c.turns-self.ensures ∙ ap (λ (p : Result Place Unread). run (mem p c.args.self.now.rows c.args.self.now.names) c.args.chunk.now) (sym c.in-Ok.is)) h

pub returns-in_default : goal.returns-in_default
returns-in_default c = λ past h. has-unread past _ _ _ c.in_default.is h
