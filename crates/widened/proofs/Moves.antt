-- No instruction moves two things.
use mathlib.Core.Path.{◌≡◌, refl}
use Rattle.items.specs.declared.VisaInstruction.{VisaInstruction}
use Rattle.widened.specs.Moves.{Moved, Moves, load_post, store_post, load_pre, store_pre, memory, nop, full_nop}

pub no_second_move : {v : VisaInstruction} {m n : Moved} → Moves v m → Moves v n → m ≡ n
no_second_move load_post load_post = refl
no_second_move store_post store_post = refl
no_second_move load_pre load_pre = refl
no_second_move store_pre store_pre = refl
no_second_move memory memory = refl
no_second_move nop nop = refl
no_second_move full_nop full_nop = refl
