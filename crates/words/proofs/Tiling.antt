-- Each form tiles its bits, whatever its numbers.
use Prim.Native.Nat.{ℕ}
use native.Mathlib.Omega.{arith}
use Rattle.fields.specs.Pack.{Tiles}
use Rattle.words.specs.Forms.{type2a, whole, long17a, move5a, modify19a, offset15a, jump8a, call25a, store16a, mode18a, dual1a, memory3a, loop12a, register_loop12a, nop21a, transfer5b, modify3b, offset15b, modify3c, nop21c, leaf_return}

-- three parcels
pub tiles_2a : (n : ℕ) → Tiles 48 (type2a (whole n))
tiles_2a n = omega arith

pub tiles_17a : (opcode code value : ℕ) → Tiles 48 (long17a opcode code value)
tiles_17a opcode code value = omega arith

pub tiles_5a : (dst src : ℕ) → Tiles 48 (move5a dst src)
tiles_5a dst src = omega arith

pub tiles_19a : (index offset : ℕ) → Tiles 48 (modify19a index offset)
tiles_19a index offset = omega arith

pub tiles_15a : (code index offset store : ℕ) → Tiles 48 (offset15a code index offset store)
tiles_15a code index offset store = omega arith

pub tiles_8a : (condition delayed offset : ℕ) → Tiles 48 (jump8a condition delayed offset)
tiles_8a condition delayed offset = omega arith

pub tiles_25a : (target : ℕ) → Tiles 48 (call25a target)
tiles_25a target = omega arith

pub tiles_16a : (index modifier g value : ℕ) → Tiles 48 (store16a index modifier g value)
tiles_16a index modifier g value = omega arith

pub tiles_18a : (bop mask : ℕ) → Tiles 48 (mode18a bop mask)
tiles_18a bop mask = omega arith

pub tiles_1a : (dmd dmi dmm pmd dmdreg pmi pmm pmdreg n : ℕ) → Tiles 48 (dual1a dmd dmi dmm pmd dmdreg pmi pmm pmdreg (whole n))
tiles_1a dmd dmi dmm pmd dmdreg pmi pmm pmdreg n = omega arith

pub tiles_3a : (u index modifier g d code n : ℕ) → Tiles 48 (memory3a u index modifier g d code (whole n))
tiles_3a u index modifier g d code n = omega arith

pub tiles_12a : (count f1 offset : ℕ) → Tiles 48 (loop12a count f1 offset)
tiles_12a count f1 offset = omega arith

pub tiles_12a_register : (code f1 offset : ℕ) → Tiles 48 (register_loop12a code f1 offset)
tiles_12a_register code f1 offset = omega arith

pub tiles_21a : Tiles 48 nop21a
tiles_21a = omega arith

-- two parcels
pub tiles_5b : (dst src : ℕ) → Tiles 32 (transfer5b dst src)
tiles_5b dst src = omega arith

pub tiles_3b : (code index modifier store : ℕ) → Tiles 32 (modify3b code index modifier store)
tiles_3b code index modifier store = omega arith

pub tiles_15b : (code index offset store : ℕ) → Tiles 32 (offset15b code index offset store)
tiles_15b code index offset store = omega arith

-- one parcel
pub tiles_3c : (code index modifier store : ℕ) → Tiles 16 (modify3c code index modifier store)
tiles_3c code index modifier store = omega arith

pub tiles_21c : Tiles 16 nop21c
tiles_21c = omega arith

-- six parcels
pub tiles-leaf : Tiles 96 leaf_return
tiles-leaf = omega arith
