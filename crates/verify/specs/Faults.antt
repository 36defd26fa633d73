-- Where a table breaks (this project's profile).
use Rattle.std.specs.Prelude.{◌≡◌, ℕ, ◌<◌, List, Option, Some, None, slice_get, slice_index_or, if◌then◌else◌}
use Rattle.insn_set.specs.declared.form.Insn.{Insn}
use Rattle.verify.specs.declared.frames.Frame.{Frame}
use Rattle.verify.specs.declared.setting.Setting.{Setting}
use Rattle.verify.specs.Frames.{Kinds, kinds_of}
use Rattle.verify.specs.Reads.{refused}
use Rattle.verify.specs.Wrong.{is_wrong}

-- the lowest register at which a position breaks: 0 where it is wrong whatever the registers hold
abbrev pub fault_of : Setting → ℕ → Kinds → Insn → Option ℕ
fault_of s n a i = if is_wrong s n a i then Some 0 else refused s n a i

abbrev pub fault_in : Setting → ℕ → Option Insn → Option Frame → Option ℕ
fault_in s n (Some i) (Some f) = fault_of s n (kinds_of f) i
fault_in s n i f = None

abbrev pub state_at : List (Option Frame) → ℕ → Option Frame
state_at fs n = slice_index_or fs n None

-- the lowest register at which a position of a table breaks
abbrev pub fault_at : Setting → List Insn → List (Option Frame) → ℕ → Option ℕ
fault_at s is fs n = fault_in s n (slice_get is n) (state_at fs n)

-- no position below this one breaks
abbrev pub NoneBreaks : Setting → List Insn → List (Option Frame) → ℕ → Type 0
NoneBreaks s is fs n = (k : ℕ) → k < n → fault_at s is fs k ≡ None
