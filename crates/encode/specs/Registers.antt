-- The rules on registers that the encoding refusals test.
use Rattle.std.specs.Prelude.{ℕ, ◌/◌, ◌%◌, Bool, false, not, ◌&&◌, ◌||◌, leb, ltb, eqb, Some, None, Option}
use Rattle.std.specs.Bool.{beq}
use Rattle.items.specs.declared.Compute.{Compute}
use Rattle.items.specs.declared.DataAccess.{DataAccess}
use Rattle.items.specs.declared.MemoryAccess.{MemoryAccess}
use Rattle.words.specs.Forms.{is_store, is_post}

-- numbers 0 to 7 are DAG1 (DM), 8 to 15 are DAG2 (PM)
abbrev pub is_pm : ℕ → Bool
is_pm number = leb 8 number

-- an I, M, L or B register of DAG2 where pm, else of DAG1
unfoldable pub in_dag : ℕ → Bool → Bool
in_dag code pm = leb 1 (code / 16) && (leb (code / 16) 4 && beq (is_pm (code % 16)) pm)

-- an index and a modifier of different DAGs
abbrev pub mixed : ℕ → ℕ → Bool
mixed index modifier = not (beq (is_pm index) (is_pm modifier))

-- the compute writes the register
unfoldable pub writes : Option Compute → ℕ → Bool
writes None number = false
writes (Some k) number = eqb k.first number || eqb k.second number

-- the access loads its register
abbrev pub loads : DataAccess → Bool
loads access = not (is_store access.direction)

-- the DM load writes what the compute writes
unfoldable pub dm_clashes : Option Compute → DataAccess → Bool
dm_clashes k dm = loads dm && writes k dm.register.0

-- the PM load writes what the compute or the DM load writes
unfoldable pub pm_clashes : Option Compute → DataAccess → DataAccess → Bool
pm_clashes k dm pm = loads pm && (writes k pm.register.0 || (loads dm && eqb dm.register.0 pm.register.0))

-- a post-modify access or a store of a register of the DAG that addresses it
unfoldable pub same_dag : MemoryAccess → Bool
same_dag access = (is_post access.update || is_store access.direction) && in_dag access.register.0 (is_pm access.index.0)

-- the load writes a data register that the compute writes
unfoldable pub memory_clashes : Option Compute → MemoryAccess → Bool
memory_clashes k access = not (is_store access.direction) && (ltb access.register.0 16 && writes k access.register.0)
