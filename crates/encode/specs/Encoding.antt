-- What each instruction comes to: its first refusal, or its layout's word of one, two, three or six parcels; and its parcels.
use Rattle.std.specs.Prelude.{ℕ, ◌-◌, Bool, cond, List, [], ◌++◌, ℤ, eqb, length, replicate, Ok, Err, Result}
use Rattle.fields.specs.Pack.{pack}
use Rattle.fields.specs.Parcels.{cut}
use Rattle.refusals.specs.Answers.{Verdict}
use Rattle.encode.specs.declared.Form.{Form}
use Rattle.refusals.specs.declared.Refusal.{Refusal}
use Rattle.refusals.specs.Order.{first}
use Rattle.items.specs.declared.Condition.{Condition}
use Rattle.items.specs.declared.LoopCount.{LoopCount}
use Rattle.items.specs.declared.LoopMode.{LoopMode}
use Rattle.items.specs.declared.VisaInstruction.{VisaInstruction}
use Rattle.words.specs.Forms.{leaf_return}
use Rattle.encode.specs.Layouts.{Layout, layout_of, jump_layout, loop_layout}
use Rattle.encode.specs.declared.Form.TheVariants.{Short, Pair, Word, Leaf}
use Rattle.encode.specs.declared.Encoded.{Encoded}

-- a word of so many parcels
abbrev pub form_in : ℕ → ℕ → Result Form Refusal
form_in parcels word = cond (eqb parcels 1) (Ok (Short word)) (cond (eqb parcels 2) (Ok (Pair word)) (cond (eqb parcels 3) (Ok (Word word)) (Ok Leaf)))

-- the refusal, or the layout's word
abbrev pub form_by : Verdict → Layout → Result Form Refusal
form_by (Ok _) layout = form_in layout.parcels (pack layout.fields)
form_by (Err refusal) layout = Err refusal

-- a layout's form
abbrev pub form_as : Layout → Result Form Refusal
form_as layout = form_by (first layout.refusals) layout

-- what an instruction, a jump over an offset and a loop start over an offset come to
unfoldable pub form_of : VisaInstruction → Result Form Refusal
form_of v = form_as (layout_of v)

unfoldable pub jump_form : Condition → ℤ → Bool → Result Form Refusal
jump_form condition offset delayed = form_as (jump_layout condition offset delayed)

unfoldable pub loop_form : LoopCount → LoopMode → ℤ → Result Form Refusal
loop_form count mode offset = form_as (loop_layout count mode offset)

-- a form's parcels, high first
abbrev pub form_parcels : Result Form Refusal → List ℕ
form_parcels (Ok (Short word)) = cut 1 word
form_parcels (Ok (Pair word)) = cut 2 word
form_parcels (Ok (Word word)) = cut 3 word
form_parcels (Ok Leaf) = cut 6 (pack leaf_return)
form_parcels (Err refusal) = []

-- whether a form encodes
abbrev pub form_verdict : Result Form Refusal → Verdict
form_verdict (Ok _) = Ok tt
form_verdict (Err refusal) = Err refusal

-- the three parcels of a jump or a loop start, which waits as zeros
abbrev pub settled : Result Form Refusal → List ℕ
settled f = cond (eqb (length (form_parcels f)) 3) (form_parcels f) (replicate 3 0)

-- "count and six places, unused ones zero"
abbrev pub padded : List ℕ → List ℕ
padded parcels = parcels ++ replicate (6 - length parcels) 0

-- a form's answer
abbrev pub form_encoded : Result Form Refusal → Result Encoded Refusal
form_encoded (Ok f) = Ok (record { count = length (form_parcels (Ok f)); places = padded (form_parcels (Ok f)) })
form_encoded (Err refusal) = Err refusal

-- an instruction's parcels, and whether it encodes
unfoldable pub parcels_of : VisaInstruction → List ℕ
parcels_of v = form_parcels (form_of v)

unfoldable pub verdict_of : VisaInstruction → Verdict
verdict_of v = form_verdict (form_of v)
