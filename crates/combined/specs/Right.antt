-- An instrument of the short way: when a glance is right about its row.
use Rattle.std.specs.Prelude.{◌≡◌, false, List, ℕ, Option, Some, None, Ok, Result}
use Rattle.items.specs.declared.VisaInstruction.{VisaInstruction}
use Rattle.items.specs.declared.Item.TheVariants as item
use Rattle.items.specs.Kinds.{kind_of, is_branch}
use Rattle.encode.specs.declared.Form.{Form}
use Rattle.refusals.specs.declared.Refusal.{Refusal}
use Rattle.encode.specs.declared.Form.TheVariants as form
use Rattle.encode.specs.Encoding.{form_of}
use Rattle.rows.specs.Rows.{read_of}
use Rattle.combined.specs.declared.Glance.{Glance}
use Rattle.combined.specs.declared.Glance.TheVariants.{Short, Pair, Word, Branch, Leaf}

-- whatever the names, the row says an instruction of this form
pub record Seen (row : List ℕ) (f : Result Form Refusal) : Type 0 where
  pub instruction : VisaInstruction
  pub reads : (names : ℕ) → read_of row names ≡ Ok (item.Instruction instruction)
  pub encodes : form_of instruction ≡ f

-- and it is no branch
pub record Plain (row : List ℕ) (f : Result Form Refusal) : Type 0 where
  pub seen : Seen row f
  pub stays : is_branch (kind_of seen.instruction) ≡ false

-- what a glance shows
abbrev pub Shows : List ℕ → Glance → Type 0
Shows row (Short word) = Plain row (Ok (form.Short word))
Shows row (Pair word) = Plain row (Ok (form.Pair word))
Shows row (Word word) = Plain row (Ok (form.Word word))
Shows row (Branch word) = Seen row (Ok (form.Word word))
Shows row Leaf = Seen row (Ok form.Leaf)

-- what is not seen says nothing
abbrev pub Right : List ℕ → Option Glance → Type 0
Right row (Some glance) = Shows row glance
Right row None = Unit
