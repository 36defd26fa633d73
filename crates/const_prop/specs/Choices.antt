-- Where branches go on whose operands are known (Dalvik bytecode, "Summary of bytecode set").
use Rattle.std.specs.Prelude.{ℕ, ℤ, Bool, true, false, nat_eq, if◌then◌else◌, List, Option, Some, None, slice_get, position}
use Rattle.std.specs.Int.{w32, cast_signed}
use Rattle.std.specs.Ordering.{int_eq}
use Rattle.std.specs.List.{list_any}
use Rattle.insn_set.specs.declared.form.Insn.{Insn}
use Rattle.insn_set.specs.declared.form.Insn.TheVariants as insn
use Rattle.dalvik_defs.specs.Arith.{passes}
use Rattle.dalvik_defs.specs.ActPlain.{packed_target}
use Rattle.dalvik_defs.specs.declared.state.Value.TheVariants as value
use Rattle.const_prop.specs.declared.choices.Way.{Way}
use Rattle.const_prop.specs.declared.choices.Way.TheVariants.{Open, Next, To}

abbrev pub way_at : Option ℕ → Way
way_at (Some target) = To target
way_at None = Next

abbrev pub way_if : Bool → ℕ → Way
way_if true target = To target
way_if false target = Next

abbrev pub target_at : List ℕ → Option ℕ → Option ℕ
target_at ts (Some place) = slice_get ts place
target_at ts None = None

-- the place of the first key that is the operand
abbrev pub place_of : ℤ → List ℤ → Option ℕ
place_of key keys = position (λ k. int_eq k key) keys

-- a branch on one word, or on two
abbrev pub way_of : Insn → ℕ → ℕ → Way
way_of (insn.If test x y target) a b = way_if (passes test (value.Word a) (value.Word b)) target
way_of (insn.IfZero test x target) a b = way_if (passes test (value.Word a) (value.Word 0)) target
way_of (insn.PackedSwitch on first targets) a b = way_at (packed_target a first targets)
way_of (insn.SparseSwitch on keys targets) a b = way_at (target_at targets (place_of (cast_signed w32 a) keys))
way_of f a b = Open

abbrev pub is_choice : Insn → Bool
is_choice (insn.If test a b target) = true
is_choice (insn.IfZero test a target) = true
is_choice (insn.PackedSwitch on first targets) = true
is_choice (insn.SparseSwitch on keys targets) = true
is_choice f = false

-- whether a form is such a branch and a position one of its targets
abbrev pub has_target : Insn → ℕ → Bool
has_target (insn.If test a b target) n = nat_eq target n
has_target (insn.IfZero test a target) n = nat_eq target n
has_target (insn.PackedSwitch on first targets) n = list_any (λ t. nat_eq t n) targets
has_target (insn.SparseSwitch on keys targets) n = list_any (λ t. nat_eq t n) targets
has_target f n = false

abbrev pub goto_or_nop : ℕ → ℕ → Insn
goto_or_nop next target = if nat_eq target next then insn.Nop else insn.Goto target

-- what is written over a branch whose way is known
abbrev pub chosen : Insn → ℕ → Way → Option Insn
chosen f next Open = None
chosen f next Next = if is_choice f then Some insn.Nop else None
chosen f next (To target) = if has_target f target then Some (goto_or_nop next target) else None
