-- An instrument of the slot check's proof: what one pass keeps in mind.
use Rattle.std.specs.Prelude.{cond, ℕ, Ok, Err}
use Rattle.refusals.specs.declared.Refusal.TheVariants.{BrokenSlot}
use Rattle.refusals.specs.Answers.{Answer}
use Rattle.coded.specs.Coded.{Coded}
use Rattle.slots.specs.declared.Watch.{Watch}
use Rattle.slots.specs.declared.Watch.TheVariants.{Free, Both, Second, Broken}
use Rattle.slots.specs.Slots.{opens, fills}

-- row i more
abbrev pub after : Watch → Coded → ℕ → Watch
after Free x i = cond (opens x) (Both i) Free
after (Both jump) x i = cond (fills x) (Second jump) (Broken jump)
after (Second jump) x i = cond (fills x) Free (Broken jump)
after (Broken jump) x i = Broken jump

-- no row more
abbrev pub ending : Watch → Answer
ending Free = Ok 0
ending (Both jump) = Err (record { why = (BrokenSlot jump); row = jump })
ending (Second jump) = Err (record { why = (BrokenSlot jump); row = jump })
ending (Broken jump) = Err (record { why = (BrokenSlot jump); row = jump })
