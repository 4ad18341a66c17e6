-- What a row comes to: an item with its instruction already encoded, or the refusal.
use Rattle.std.specs.Prelude.{ℕ, Ok, Err, Result}
use Rattle.items.specs.declared.Condition.{Condition}
use Rattle.items.specs.declared.LoopCount.{LoopCount}
use Rattle.items.specs.declared.LoopMode.{LoopMode}
use Rattle.refusals.specs.declared.Refusal.{Refusal}
use Rattle.refusals.specs.Answers.{Verdict}
use Rattle.items.specs.declared.Item.{Item}
use Rattle.items.specs.Kinds.{kind_of}
use Rattle.items.specs.declared.VisaInstruction.{VisaInstruction}
use Rattle.encode.specs.Encoding.{form_of, form_verdict}
use Rattle.coded.specs.declared.Coding.{Coding}
use Rattle.items.specs.declared.Item.TheVariants.{Instruction, Label, Jump, LoopBegin, LoopEnd}

-- an instruction as its form, and its kind
abbrev pub coding_of : VisaInstruction → Coding
coding_of v = record { form = form_of v; kind = kind_of v }

-- an item whose instruction is its form already, or the refusal
abbrev pub Coded : Type 0
Coded = Result (Item Coding) Refusal

-- any other item as it is
abbrev pub item_coded : Item VisaInstruction → Item Coding
item_coded (Instruction v) = Instruction (coding_of v)
item_coded (Label start length) = Label start length
item_coded (Jump condition start length) = Jump condition start length
item_coded (LoopBegin count mode) = LoopBegin count mode
item_coded LoopEnd = LoopEnd

abbrev pub coded_of : Result (Item VisaInstruction) Refusal → Coded
coded_of (Ok item) = Ok (item_coded item)
coded_of (Err refusal) = Err refusal

-- of an instruction, of a labelled jump, of a loop start, and of a refusal, this; of any other row the other
abbrev pub of_instruction : {A : Type 0} → (Coding → A) → A → Coded → A
of_instruction f other (Ok (Instruction x)) = f x
of_instruction f other _ = other

abbrev pub of_jump : {A : Type 0} → (Condition → ℕ → ℕ → A) → A → Coded → A
of_jump f other (Ok (Jump condition start length)) = f condition start length
of_jump f other _ = other

abbrev pub of_loop : {A : Type 0} → (LoopCount → LoopMode → A) → A → Coded → A
of_loop f other (Ok (LoopBegin count mode)) = f count mode
of_loop f other _ = other

abbrev pub of_refused : {A : Type 0} → (Refusal → A) → A → Coded → A
of_refused f other (Ok _) = other
of_refused f other (Err refusal) = f refusal

-- "row refusals (2, 4, and 17 to 19 from compute construction)", and whether an instruction encodes
abbrev pub read_verdict : Coded → Verdict
read_verdict x = of_refused Err (Ok tt) x

abbrev pub encodes : Coded → Verdict
encodes x = of_instruction (λ y. form_verdict y.form) (Ok tt) x
