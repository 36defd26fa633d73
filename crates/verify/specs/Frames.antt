-- The kinds of all registers at a position, and how a write changes them (this project's profile).
use Rattle.std.specs.Prelude.{ℕ, ◌+◌, ◌-◌, Bool, ◌&&◌, List, map, replicate, slice_index_or, slice_set, if◌then◌else◌}
use Rattle.verify.specs.declared.frames.Frame.{Frame}
use Rattle.verify.specs.declared.kinds.Kind.{Kind}
use Rattle.verify.specs.declared.kinds.Kind.TheVariants.{Undefined, WideLow, WideHigh}
use Rattle.verify.specs.Kinds.{same_kind, replaced, forgotten}

-- A kind for each register, for the place of the last result, for that of the caught object, and in a constructor for the
-- receiver's own place.
pub record Kinds : Type 0 where
  pub registers : List Kind
  pub result : Kind
  pub caught : Kind
  pub receiver : Kind

abbrev pub kinds_of : Frame → Kinds
kinds_of f = record { registers = f.registers.items; result = f.result; caught = f.caught; receiver = f.receiver }

abbrev pub kind_at : List Kind → ℕ → Kind
kind_at ks r = slice_index_or ks r Undefined

abbrev pub is_pair : List Kind → ℕ → Bool
is_pair ks r = same_kind (kind_at ks r) WideLow && same_kind (kind_at ks (r + 1)) WideHigh

-- a register that holds this half of a wide is undefined
abbrev pub cleared : ℕ → Kind → List Kind → List Kind
cleared r half ks = if same_kind (kind_at ks r) half then slice_set ks r Undefined else ks

-- a write to one half of a wide makes the other half undefined: a high half stands behind its low half alone
abbrev pub split : ℕ → List Kind → List Kind
split r ks = cleared (r - 1) WideLow (cleared (r + 1) WideHigh ks)

abbrev pub written_one : ℕ → Kind → List Kind → List Kind
written_one r k ks = slice_set (split r ks) r k

abbrev pub written_pair : ℕ → List Kind → List Kind
written_pair r ks = slice_set (slice_set (split (r + 1) (split r ks)) r WideLow) (r + 1) WideHigh

-- the low half stands for both
abbrev pub written_kinds : ℕ → Kind → List Kind → List Kind
written_kinds r WideLow ks = written_pair r ks
written_kinds r k ks = written_one r k ks

abbrev pub written : ℕ → Kind → Kinds → Kinds
written r k a = record a { registers = written_kinds r k a.registers }

-- every register of a kind has another
abbrev pub replace : Kind → Kind → Kinds → Kinds
replace old new a = record a { registers = map (replaced old new) a.registers; receiver = replaced old new a.receiver }

-- what was made at a position and never initialised
abbrev pub forget : ℕ → Kinds → Kinds
forget n a = record a { registers = map (forgotten n) a.registers }

abbrev pub all_undefined : ℕ → Kinds
all_undefined n = record { registers = replicate n Undefined; result = Undefined; caught = Undefined; receiver = Undefined }
