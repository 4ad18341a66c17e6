-- For each call that C makes: no second answer fits its promise, number 0 is acceptance, every other number is one of its table.
use mathlib.Core.Path.{◌≡◌, refl, sym, ap, ap₂, subst, ◌∙◌}
use mathlib.Core.Logic.{◌↔◌, ◌⊎◌, ⊎_elim}
use mathlib.Core.Bool.{true, false}
use mathlib.Core.List.{List}
use Prim.Native.Nat.{ℕ, ◌*◌, ◌<◌, ◌≤◌}
use lib.ListN.{length}
use lib.IntN.{pos}
use Rattle.refusals.specs.declared.Told.{Told}
use Rattle.refusals.specs.Numbers.{alone, in_row}
use Rattle.refusals.specs.Calls.{one_instruction, slot_check, parcel_bytes, reads_back, widen, Listed}
use Rattle.rows.specs.Rows.{well_formed}
use Rattle.instruction.specs.Instruction.{Accepted, Encodes}
use Rattle.instruction.proofs.Single.{no_second_answer}
use Rattle.instruction.proofs.Numbers.{instruction_zero, instruction-numbers, instruction_no_row}
use Rattle.places.specs.Items.{kernel_of, row_count, place}
use Rattle.places.specs.Left.{Lent, rooms_of_lent, Builds}
use Rattle.places.proofs.Single.{no_second_build}
use Rattle.rules.specs.Accepted.{ValidRows}
use Rattle.rules.proofs.Answers.{accepted_well_formed, build_accepts_exactly_when_valid, accepted-count}
use Rattle.rules.proofs.Fits.{accepted-fits}
use Rattle.rules.specs.Tellable.{Tellable}
use Rattle.rules.proofs.Numbers.{build-tells}
use Rattle.rules.specs.WhichRow.{verdict_before, told_before, NamesRow}
use Rattle.rules.proofs.WhichRow.{build_names_none, build_names_row, build_told_before}
use Rattle.plain.specs.Once.{from, writes}
use Rattle.plain.proofs.Once.{each-once}
use Rattle.counts.specs.declared.Counting.{Counting}
use Rattle.counts.specs.Counts.{row_verdict, Passes, Counts, call_for}
use Rattle.counts.specs.WhichRow as counts
use Rattle.counts.proofs.Single.{no_second_count}
use Rattle.counts.proofs.WhichRow.{count_names_row}
use Rattle.counts.proofs.Numbers.{count_zero, count-numbers}
use Rattle.slots.specs.Slots.{Filled, Checks}
use Rattle.slots.specs.WhichRow as slots
use Rattle.slots.proofs.Single.{no_second_verdict}
use Rattle.slots.proofs.WhichRow.{slot_check_names_row}
use Rattle.slots.proofs.Numbers.{check_zero, check-numbers}
use Rattle.parcel_bytes.specs.declared.ToldBytes.{ToldBytes}
use Rattle.parcel_bytes.specs.Bytes.{Writes}
use Rattle.parcel_bytes.proofs.Single as bytes
use Rattle.rows.specs.Rows.{row_width}
use Rattle.reading.specs.declared.ToldRows.{ToldRows}
use Rattle.reading.specs.Back.{ReadsBack}
use Rattle.reading.specs.All.{ReadsAll}
use Rattle.reading.proofs.Numbers as numbers
use Rattle.reading.proofs.Single as reading
use Rattle.widening.specs.declared.ToldWidened.{ToldWidened}
use Rattle.widening.specs.Widening.{change_width, Widens, Fits}
use Rattle.widening.specs.WhichRow as widening
use Rattle.widening.proofs.Single.{no_second_widening}
use Rattle.widening.proofs.Numbers as widenings
use Rattle.widening.proofs.WhichRow.{widen_names_row}
use Rattle.link.specs.declared.One.{One}
use Rattle.link.specs.One.{one_of, told_in}

-- ---- lhodrupesh_instruction
module _ (row : List ℕ) {r : One} (promise : Encodes row (told_in r) r.places) where
  pub no_second_one : {s : One} → Encodes row (told_in s) s.places → r ≡ s
  no_second_one other = let e = no_second_answer row promise other in ap₂ (λ (t : Told) (p : List ℕ). one_of t p) e.0 e.1

  pub one_zero : (r.number ≡ 0) ↔ Accepted row
  one_zero = instruction_zero row promise

  pub one-numbers : Listed one_instruction r.number
  one-numbers = instruction-numbers row promise

  -- "One-instruction calls give 0" for the row
  pub one_no_row : r.third ≡ pos 0
  one_no_row = instruction_no_row row promise

-- ---- lhodrupesh_build
module _ (rows names : List ℕ) (lent : Lent) {t : Told} {left : Lent} (promise : Builds rows names lent t left) where
  pub no_second_built : {s : Told} {other : Lent} → Builds rows names lent s other → (t ≡ s) × (left ≡ other)
  no_second_built {s} {other} b = no_second_build rows names lent t s left other promise b

  -- DEMAND 3 of what C calls: number 0 exactly where the list is well formed and the rules hold
  pub build_zero : (t.number ≡ 0) ↔ ((well_formed (length rows) ≡ true) × ValidRows rows names lent)
  build_zero = (
    (λ e. let w = accepted_well_formed rows names lent t left promise e in (w, (build_accepts_exactly_when_valid rows names lent t left promise w).0 e)),
    (λ v. (build_accepts_exactly_when_valid rows names lent t left promise v.0).1 v.1),
  )

  -- the parcels counted lie in the lent ones
  pub build-count : t.number ≡ 0 → t.count ≤ length lent.parcels
  build-count e = accepted-fits rows names lent t left promise e

  -- a number of the build's table; the range of a name lies in the names, and any other answer has range 0, 0
  pub build-numbers : Tellable names t
  build-numbers = build-tells rows names lent t left promise

  -- WHICH ROW: 1 names none; any other refusal names one of the list's, the first at fault; and the answer without it is the answer of before
  pub built_no_row : well_formed (length rows) ≡ false → t ≡ alone 1
  built_no_row w = build_names_none rows names lent t left promise w

  pub built-row : well_formed (length rows) ≡ true → (t.number ≡ 0 → ⊥) → NamesRow rows names lent t
  built-row w refused = build_names_row rows names lent t left promise w refused

  pub built-before : well_formed (length rows) ≡ true → in_row 0 t ≡ told_before (verdict_before (kernel_of rows names) (rooms_of_lent lent)) (place (kernel_of rows names).it (row_count rows))
  built-before w = build_told_before rows names lent t left promise w

-- ---- lhodrupesh_parcel_count, lhodrupesh_instruction_count
module _ (what : Counting) (rows names : List ℕ) {t : Told} (promise : Counts what rows names t) where
  pub no_second_counted : {s : Told} → Counts what rows names s → t ≡ s
  no_second_counted other = no_second_count what rows names promise other

  pub counted_zero : (t.number ≡ 0) ↔ Passes (row_verdict what) rows names
  counted_zero = count_zero what rows names promise

  pub counted-numbers : Listed (call_for what) t.number
  counted-numbers = count-numbers what rows names promise

  -- 1 names no row; any other refusal names the first row at fault
  pub counted-row : counts.NamesRow (λ i. row_verdict what ((kernel_of rows names).it i)) (row_count rows) t
  counted-row = count_names_row what rows names promise

-- ---- lhodrupesh_slot_check
module _ (rows names : List ℕ) {t : Told} (promise : Checks rows names t) where
  pub no_second_checked : {s : Told} → Checks rows names s → t ≡ s
  no_second_checked other = no_second_verdict rows names promise other

  pub checked_zero : (t.number ≡ 0) ↔ Filled rows names
  checked_zero = check_zero rows names promise

  pub checked-numbers : Listed slot_check t.number
  checked-numbers = check-numbers rows names promise

  -- 1 names no row; a row refusal names the first row at fault, 33 the first jump whose slots are broken
  pub checked-row : slots.NamesRow rows names t
  checked-row = slot_check_names_row rows names promise

-- ---- lhodrupesh_bytes
module _ (parcels lent : List ℕ) {t : ToldBytes} {left : List ℕ} (promise : Writes parcels lent t left) where
  pub no_second_written : {s : ToldBytes} {other : List ℕ} → Writes parcels lent s other → (t ≡ s) × (left ≡ other)
  no_second_written b = bytes.no_second_answer parcels lent promise b

  pub written_zero : ((t.number ≡ 0) × (2 * length parcels ≤ length lent)) ⊎ ((t.number ≡ 34) × (length lent < 2 * length parcels))
  written_zero = bytes.written_or_34 parcels lent promise

  pub written-numbers : Listed parcel_bytes t.number
  written-numbers = ⊎_elim (λ a. subst (Listed parcel_bytes) (sym a.0) refl) (λ b. subst (Listed parcel_bytes) (sym b.0) refl) written_zero

  pub written_no_row : t.third ≡ pos 0
  written_no_row = bytes.no_row parcels lent promise

-- ---- lhodrupesh_read_back
module _ (parcels rows places : List ℕ) {t : ToldRows} {left_rows left_places : List ℕ} (promise : ReadsBack parcels rows places t left_rows left_places) where
  pub no_second_read : {s : ToldRows} {other_rows other_places : List ℕ} → ReadsBack parcels rows places s other_rows other_places → (t ≡ s) × (left_rows ≡ other_rows) × (left_places ≡ other_places)
  no_second_read other = reading.no_second_answer promise other

  -- number 0 exactly where the parcels can be read to their end in the room lent
  pub read_zero : (t.number ≡ 0) ↔ ReadsAll parcels rows places
  read_zero = reading.read_zero promise

  pub read-numbers : Listed reads_back t.number
  read-numbers = numbers.read-numbers promise

  -- the rows counted, and their places, lie in the lent ones
  pub read_count : (t.rows * row_width ≤ length rows) × (t.rows ≤ length places)
  read_count = numbers.read_count promise

  pub read_no_row : t.third ≡ pos 0
  read_no_row = numbers.read_no_row promise

-- ---- lhodrupesh_build_plain: its contract is lhodrupesh_build's, so what is said of that is said of it
-- THE TWO ENGINES AGREE on every input: the quick one's answer and every lent place, and the plain one's
pub engines_agree : (rows names : List ℕ) (lent : Lent) {quick plain : Told} {quickly plainly : Lent} → Builds rows names lent quick quickly → Builds rows names lent plain plainly → (quick ≡ plain) × (quickly ≡ plainly)
engines_agree rows names lent promise other = no_second_built rows names lent promise other

-- in an accepted build the places that the second walk writes are 0, 1, .., count - 1, each once
pub written_once : (rows names : List ℕ) (lent : Lent) {t : Told} {left : Lent} → Builds rows names lent t left → t.number ≡ 0 → writes (kernel_of rows names) (row_count rows) ≡ from 0 t.count
written_once rows names lent {t} {left} promise e = each-once (kernel_of rows names) (row_count rows) ∙ ap (from 0) (sym (ap (λ (o : Told). o.count) (accepted-count rows names lent t left promise e)))

-- ---- lhodrupesh_widen
module _ (rows names copy list : List ℕ) {t : ToldWidened} {left_copy left_list : List ℕ} (promise : Widens rows names copy list t left_copy left_list) where
  pub no_second_widened : {s : ToldWidened} {other_copy other_list : List ℕ} → Widens rows names copy list s other_copy other_list → (t ≡ s) × (left_copy ≡ other_copy) × (left_list ≡ other_list)
  no_second_widened other = no_second_widening rows names copy list promise other

  -- number 0 exactly where every row is read and both slices have room
  pub widened_zero : (t.number ≡ 0) ↔ Fits rows names copy list
  widened_zero = widenings.widen_zero rows names copy list promise

  pub widened-numbers : Listed widen t.number
  widened-numbers = widenings.widen-numbers rows names copy list promise

  -- 1 and 36 name no row; a row refusal names the first row at fault
  pub widened-row : widening.NamesRow rows names copy list t
  widened-row = widen_names_row rows names copy list promise

  -- the rows copied and the changes listed lie in the lent slices
  pub widened-count : t.number ≡ 0 → (row_count rows * row_width ≤ length copy) × (change_width * t.changes ≤ length list)
  widened-count z = widenings.widened-fits rows names copy list promise z
