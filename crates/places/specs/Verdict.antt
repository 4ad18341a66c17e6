-- What a build answers. Document 01, "Order": "1; then rows in turn; then 23; then jumps in item order, 12 before 9"; document 02, wish 3: and
-- which row it names.
use Rattle.std.specs.Prelude.{false, ◌&&◌, List, [], ◌∷◌, ℕ, ◌+◌, ltb, eqb, ℤ, pos, ◌-ℤ◌, Ok, Err, Result}
use Rattle.refusals.specs.declared.Refusal.{Refusal}
use Rattle.refusals.specs.declared.Refusal.TheVariants.{DuplicateLabel, UndefinedLabel, EmptyLoop, UnclosedLoop, UnmatchedLoopEnd, SharedLoopEnd, LoopTailNotFullWidth, BranchInLoop, LabelInLoop, NoRoomForParcels, NoRoomForLabels, NoRoomForJumps, NoRoomForLoops}
use Rattle.refusals.specs.Answers.{Verdict, Judged}
use Rattle.encode.specs.declared.Form.{Form}
use Rattle.coded.specs.Coded.{Coded, of_jump, of_loop}
use Rattle.refusals.specs.Order.{when, first, passing, said_of_row, first_in, foremost}
use Rattle.items.specs.Kinds.{is_branch}
use Rattle.items.specs.declared.Condition.{Condition}
use Rattle.encode.specs.declared.Form.TheVariants as form
use Rattle.encode.specs.Encoding.{form_verdict, jump_form, loop_form}
use Rattle.items.specs.declared.Item.TheVariants.{Instruction, Label, Jump, LoopBegin, LoopEnd}
use Rattle.places.specs.declared.Rooms.{Rooms}
use Rattle.places.specs.Items.{Kernel, size_of, is_label, is_jump, total, place, address, entries, nest}
use Rattle.places.specs.Looking.{Found, at, nothing, is_found, last_at, opener, sharer, short_one, labelled}

-- a refusal for what is found
abbrev pub when_found : Found → (ℕ → Refusal) → Verdict
when_found (at row) r = Err (r row)
when_found nothing r = Ok tt

module _ (it : ℕ → Coded) where
  -- "label minus jump start"
  abbrev pub jump_offset : ℕ → ℕ → ℤ
  jump_offset label jump = pos (address it label) -ℤ pos (address it jump)

  -- the last body instruction before the end e, minus the loop start
  abbrev pub loop_offset : ℕ → ℕ → ℤ
  loop_offset e start = pos (last_at it e) -ℤ pos (address it start)

  -- the word of the loop start in row i, whose loop ends at e
  abbrev pub loop_row : ℕ → ℕ → Coded → Result Form Refusal
  loop_row e i x = of_loop (λ c m. loop_form c m (loop_offset e i)) (Ok form.Leaf) x

  -- 12, 9: the jump of row i, once its label is looked for
  abbrev pub reach : Condition → ℕ → ℕ → ℕ → Found → Verdict
  reach c i a b (at label) = form_verdict (jump_form c (jump_offset label i) false)
  reach c i a b nothing = Err (UndefinedLabel a b)

module _ (k : Kernel) where
  open k use {it, n}

  -- "In a row: 2, 4 .., compute construction .., then 27 or 28, then its own refusals as in the Rust, then room."
  abbrev pub faults : Rooms → ℕ → Coded → List Verdict
  -- 2, 4, 17, 18, 19
  faults r i (Err why) = Err why ∷ []
  -- 27, the encoding's, 29
  faults r i (Ok (Instruction c)) =
      when (is_branch c.kind && ltb 0 (nest it i)) BranchInLoop
      ∷ form_verdict c.form
      ∷ when (ltb r.parcels (place it i + size_of c.form)) (NoRoomForParcels r.parcels)
      ∷ []
  -- 28, 11, 30
  faults r i (Ok (Label a b)) =
      when (ltb 0 (nest it i)) (LabelInLoop a b)
      ∷ when (is_found (labelled k a b i)) (DuplicateLabel a b)
      ∷ when (ltb r.labels (total is_label it i + 1)) (NoRoomForLabels r.labels)
      ∷ []
  -- 27, 31, 29
  faults r i (Ok (Jump c a b)) =
      when (ltb 0 (nest it i)) BranchInLoop
      ∷ when (ltb r.jumps (total is_jump it i + 1)) (NoRoomForJumps r.jumps)
      ∷ when (ltb r.parcels (place it i + 3)) (NoRoomForParcels r.parcels)
      ∷ []
  -- 32, 29
  faults r i (Ok (LoopBegin c m)) =
      when (ltb r.loops (nest it i + 1)) (NoRoomForLoops r.loops)
      ∷ when (ltb r.parcels (place it i + 3)) (NoRoomForParcels r.parcels)
      ∷ []
  -- 24, 22, 25, 26, 21 and 20
  faults r i (Ok LoopEnd) =
      when (eqb (nest it i) 0) UnmatchedLoopEnd
      ∷ when (eqb (entries it i) (entries it (opener it i) + 1)) EmptyLoop
      ∷ when_found (sharer it i) (λ k. SharedLoopEnd)
      ∷ when_found (short_one it i) (λ k. LoopTailNotFullWidth (address it k))
      ∷ form_verdict (loop_row it i (opener it i) (it (opener it i)))
      ∷ []

  -- the jump of row i, once every row is taken
  abbrev pub reaches : ℕ → Coded → Verdict
  reaches i x = of_jump (λ c a b. reach it c i a b (labelled k a b n)) (Ok tt) x

  abbrev pub reach_at : ℕ → Verdict
  reach_at i = reaches i (it i)

module _ (k : Kernel) (rooms : Rooms) where
  open k use {it, n}

  abbrev pub verdict_at : ℕ → Verdict
  verdict_at i = first (faults k rooms i (it i))

  -- "rows in turn; then 23; then jumps in item order"; "refusal 23 gives the innermost loop start still open, and 12 and 9 from a labelled
  -- jump give the jump's row"
  abbrev pub judgement : Judged
  judgement =
      foremost
      (first_in verdict_at n
      ∷ said_of_row (opener it n) (when (ltb 0 (nest it n)) UnclosedLoop)
      ∷ first_in (reach_at k) n
      ∷ [])

  abbrev pub verdict : Verdict
  verdict = judgement.verdict

  -- "the rows before the refused one", or all
  abbrev pub taken : ℕ
  taken = passing verdict_at n
