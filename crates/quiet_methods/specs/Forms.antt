-- Which forms are quiet, and where a run goes on behind them, by what is known of the registers (Dalvik bytecode, "Summary of
-- bytecode set"; this project's profile).
use Rattle.std.specs.Prelude.{ℕ, zero, suc, ◌+◌, Bool, true, false, ◌==◌, ◌||◌, ◌&&◌, not, nat_lt, pos, if◌then◌else◌, cond, List, [], ◌∷◌, ◌++◌, length, Option, Some, None, is_some, slice_index}
use Rattle.std.specs.Ordering.{int_eq}
use Rattle.insn_set.specs.Flow.{divides, divides_by_literal, goes_on, targets_of}
use Rattle.insn_set.specs.declared.ops.BinaryOp.{BinaryOp}
use Rattle.insn_set.specs.declared.ops.InvokeKind.{InvokeKind}
use Rattle.insn_set.specs.declared.ops.InvokeKind.TheVariants as call
use Rattle.insn_set.specs.declared.form.Insn.{Insn}
use Rattle.insn_set.specs.declared.form.Insn.TheVariants as insn
use Rattle.program_model.specs.declared.program.Method.{Method}
use Rattle.program_model.specs.declared.program.MethodAt.{MethodAt}
use Rattle.program_model.specs.declared.program.Program.{Program}
use Rattle.program_model.specs.Lookups.{method_at}
use Rattle.class_defs.specs.Finding.{resolves_field, finds_static}
use Rattle.domains.specs.Values.{Parts, known_of, known_wide_of}
use Rattle.value_ops.specs.Left.{is_nothing}
use Rattle.dom_frame.specs.Registers.{Registers, value_at}
use Rattle.dom_frame.specs.Steps.{branched, unswitched, switched}
use Rattle.quiet_methods.specs.declared.forms.Demand.{Demand}
use Rattle.quiet_methods.specs.declared.forms.Demand.TheVariants.{Nothing, Call, Loud}
pub use Rattle.class_criteria.specs.Starting.{starts_quietly}

abbrev pub quiet_if : Bool → Demand
quiet_if true = Nothing
quiet_if false = Loud

-- ---- classes, fields and calls

abbrev pub gets_quietly : Program → ℕ → Bool
gets_quietly p field = elim (resolves_field p field) [ Some at ↦ starts_quietly p at.0 | None ↦ false ]

-- a method with code is called, and its class runs none when it is initialised
abbrev pub method_demand : Bool → Option Method → Demand
method_demand starts (Some m) = cond (starts && is_some m.body) (Call m.name) Loud
method_demand starts None = Loud

abbrev pub found_demand : Program → Option MethodAt → Demand
found_demand p (Some at) = method_demand (starts_quietly p at.class) (method_at p at)
found_demand p None = Loud

abbrev pub call_demand : Program → InvokeKind → ℕ → Demand
call_demand p call.Static method = found_demand p (finds_static p method)
call_demand p kind method = Loud

-- ---- divisions

abbrev pub is_other_than_zero : Option ℕ → Bool
is_other_than_zero (Some n) = not (n == 0)
is_other_than_zero None = false

-- a value holds of one number alone, other than 0, or of nothing
abbrev pub is_no_zero : Parts → Bool
is_no_zero v = is_nothing v || (is_other_than_zero (known_of v) || is_other_than_zero (known_wide_of v))

-- an operation never throws whose second operand has a value
abbrev pub never_throws : BinaryOp → Parts → Bool
never_throws op v = not (divides op) || is_no_zero v

-- ---- forms

-- forms that do nothing but write a register, go on elsewhere or return, whatever their operands
abbrev pub is_plain : Insn → Bool
is_plain insn.Nop = true
is_plain (insn.Move slot to from) = true
is_plain (insn.MoveResult slot to) = true
is_plain (insn.MoveException to) = true
is_plain (insn.Const to value) = true
is_plain (insn.ConstWide to value) = true
is_plain (insn.ConstString to string) = true
is_plain (insn.ConstClass to kind) = true
is_plain (insn.InstanceOf to from kind) = true
is_plain (insn.Cmp op to a b) = true
is_plain (insn.Unary op to from) = true
is_plain (insn.Goto target) = true
is_plain (insn.If test a b target) = true
is_plain (insn.IfZero test a target) = true
is_plain (insn.PackedSwitch on first targets) = true
is_plain (insn.SparseSwitch on keys targets) = true
is_plain (insn.Return slot from) = true
is_plain insn.ReturnVoid = true
is_plain i = false

abbrev pub form_demand : Program → Registers → Insn → Demand
form_demand p x (insn.Binary op to a b) = quiet_if (never_throws op (value_at x b))
form_demand p x (insn.Literal op to a value) = quiet_if (not (divides_by_literal op) || not (int_eq value (pos 0)))
form_demand p x (insn.StaticGet item to field) = quiet_if (gets_quietly p field)
form_demand p x (insn.Invoke kind method args) = call_demand p kind method
form_demand p x i = quiet_if (is_plain i)

-- What a form asks for so that its method is quiet, with these registers. A switch has fewer than 2 ^ 32 targets.
abbrev pub demand : Program → Registers → Insn → Demand
demand p x i = if nat_lt (length (targets_of i)) 4294967296 then form_demand p x i else Loud

-- ---- where a run goes on

abbrev pub one_if : Bool → ℕ → List ℕ
one_if true n = n ∷ []
one_if false n = []

-- the first targets of a switch to which it may go
abbrev pub cases_upto : Insn → List ℕ → Registers → ℕ → List ℕ
cases_upto i targets x zero = []
cases_upto i targets x (suc k) = cases_upto i targets x k ++ one_if (is_some (switched k i x)) (slice_index targets k)

abbrev pub switch_ways : Insn → List ℕ → ℕ → Registers → List ℕ
switch_ways i targets n x = cases_upto i targets x (length targets) ++ one_if (is_some (unswitched i x)) (n + 1)

abbrev pub branch_ways : Insn → ℕ → ℕ → Registers → List ℕ
branch_ways i target n x = one_if (is_some (branched true i x)) target ++ one_if (is_some (branched false i x)) (n + 1)

-- a division by what holds of nothing goes on nowhere
abbrev pub division_ways : BinaryOp → Parts → ℕ → List ℕ
division_ways op v n = one_if (not (divides op && is_nothing v)) (n + 1)

-- the positions at which a run may go on behind a form at a position, unless it throws
abbrev pub ways : Insn → ℕ → Registers → List ℕ
ways (insn.Goto target) n x = target ∷ []
ways (insn.If test a b target) n x = branch_ways (insn.If test a b target) target n x
ways (insn.IfZero test a target) n x = branch_ways (insn.IfZero test a target) target n x
ways (insn.PackedSwitch on first targets) n x = switch_ways (insn.PackedSwitch on first targets) targets n x
ways (insn.SparseSwitch on keys targets) n x = switch_ways (insn.SparseSwitch on keys targets) targets n x
ways (insn.Binary op to a b) n x = division_ways op (value_at x b) n
ways i n x = one_if (goes_on i) (n + 1)
