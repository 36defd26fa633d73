-- The kinds of all registers at a position, and how a write changes them (this project's profile).
use Rattle.std.specs.Prelude.{ℕ, ◌+◌, ◌-◌, Bool, true, false, ◌&&◌, if◌then◌else◌, nat_eq, List, [], ◌∷◌, map, replicate, Option, Some, None, slice_index_or, slice_set}
use Rattle.dalvik_defs.specs.declared.program.NamedProgram.{NamedProgram}
use Rattle.pass_defs.specs.Kinds.{Kind, Undefined, Low, High, Fresh, kind_eq, is_below}

-- A kind for each register, for the place of the last result, for that of the caught object, and in a constructor for the
-- receiver's own place, which no form reads, writes or moves.
pub record Kinds : Type 0 where
  pub registers : List Kind
  pub result : Kind
  pub caught : Kind
  pub receiver : Kind

abbrev pub kind_at : List Kind → ℕ → Kind
kind_at ks r = slice_index_or ks r Undefined

-- a register that holds this half of a wide is undefined
abbrev pub cleared : ℕ → Kind → List Kind → List Kind
cleared r half ks = if kind_eq (kind_at ks r) half then slice_set ks r Undefined else ks

-- A write to one half of a wide makes the other half undefined: the low half in the register before, or the high half in
-- the register behind. It goes by what the other register holds, so that of two lists of kinds the lower one stays lower.
abbrev pub split : ℕ → List Kind → List Kind
split r ks = cleared (r - 1) Low (cleared (r + 1) High ks)

abbrev pub written_one : ℕ → Kind → List Kind → List Kind
written_one r k ks = slice_set (split r ks) r k

abbrev pub written_pair : ℕ → List Kind → List Kind
written_pair r ks = slice_set (slice_set (split (r + 1) (split r ks)) r Low) (r + 1) High

-- the low half stands for both
abbrev pub written_kinds : ℕ → Kind → List Kind → List Kind
written_kinds r Low ks = written_pair r ks
written_kinds r k ks = written_one r k ks

abbrev pub written : ℕ → Kind → Kinds → Kinds
written r k a = record a { registers = written_kinds r k a.registers }

-- every register of a kind has another
abbrev pub replaced : Kind → Kind → Kind → Kind
replaced old new k = elim (kind_eq k old) [ true ↦ new | false ↦ k ]

abbrev pub replace : Kind → Kind → Kinds → Kinds
replace old new a = record a { registers = map (replaced old new) a.registers; receiver = replaced old new a.receiver }

-- what was made at a position and never initialised
abbrev pub forgotten : ℕ → Kind → Kind
forgotten n (Fresh t m) = elim (nat_eq n m) [ true ↦ Undefined | false ↦ Fresh t m ]
forgotten n k = k

abbrev pub forget : ℕ → Kinds → Kinds
forget n a = record a { registers = map (forgotten n) a.registers }

-- ---- order

abbrev pub all_below : NamedProgram → List Kind → List Kind → Bool
all_below p [] [] = true
all_below p (k ∷ ks) (l ∷ ls) = is_below p k l && all_below p ks ls
all_below p ks ls = false

abbrev pub kinds_below : NamedProgram → Kinds → Kinds → Bool
kinds_below p a b = all_below p a.registers b.registers && is_below p a.result b.result && is_below p a.caught b.caught && is_below p a.receiver b.receiver

-- at or below; where there is no state, all is above it
abbrev pub state_below : NamedProgram → Option Kinds → Option Kinds → Bool
state_below p None b = true
state_below p (Some a) None = false
state_below p (Some a) (Some b) = kinds_below p a b

abbrev pub tables_below : NamedProgram → List (Option Kinds) → List (Option Kinds) → Bool
tables_below p [] [] = true
tables_below p (a ∷ t) (b ∷ u) = state_below p a b && tables_below p t u
tables_below p t u = false

abbrev pub all_undefined : ℕ → Kinds
all_undefined n = record { registers = replicate n Undefined; result = Undefined; caught = Undefined; receiver = Undefined }
