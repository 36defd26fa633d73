-- Which calls do nothing, by which methods are quiet and by what is known of registers, by number (Dalvik bytecode, "Summary of
-- bytecode set"; this project's profile).
use Rattle.std.specs.Prelude.{ℕ, ◌&&◌, ◌||◌, not, Bool, true, false, nat_eq, codes, List, [], ◌∷◌, Option, Some, None, is_some, slice_get}
use Rattle.std.specs.Cmp.Lexicographic.{pointwise}
use Rattle.insn_set.specs.declared.ops.InvokeKind.{InvokeKind}
use Rattle.insn_set.specs.declared.ops.InvokeKind.TheVariants as call
use Rattle.program_model.specs.MemberRules.{is_static}
use Rattle.program_model.specs.Lookups.{class_place, method_at}
use Rattle.program_model.specs.declared.pools.MethodName.{MethodName}
use Rattle.program_model.specs.declared.program.Method.{Method}
use Rattle.program_model.specs.declared.program.MethodAt.{MethodAt}
use Rattle.program_model.specs.declared.program.Program.{Program}
use Rattle.class_defs.specs.Finding.{finds_static, finds_virtual}
use Rattle.domains.specs.declared.nulls.Nullness.{Nullness}
use Rattle.domains.specs.declared.nulls.Nullness.TheVariants.{Bottom, Null, NotNull, Any}
use Rattle.dom_frame.specs.Registers.{value_at}
use Rattle.dom_frame.specs.declared.frames.Frame.{Frame}
use Rattle.receivers.specs.Receiving.{interface_at, is_overridden}
use Rattle.quiet_methods.specs.Forms.{starts_quietly}
use Rattle.quiet_methods.specs.Quiet.{is_on}

-- ---- what a call finds

abbrev pub is_init : List ℕ → Bool
is_init units = pointwise nat_eq units (codes "<init>")

-- a name is that of constructors
abbrev pub is_constructor : Program → MethodName → Bool
is_constructor p q = elim (slice_get p.strings q.name) [ Some units ↦ is_init units | None ↦ true ]

-- a method is static, or isn't
abbrev pub is_called_so : Bool → Method → Bool
is_called_so true m = is_static m.flags
is_called_so false m = not (is_static m.flags)

-- a method of the class at a place has code and is quiet, and initialising the class runs no code
abbrev pub is_quiet_at : Program → List Bool → ℕ → Method → Bool
is_quiet_at p quiet class m = is_some m.body && is_on quiet m.name && starts_quietly p class

abbrev pub is_quiet_target : Program → List Bool → Bool → ℕ → Option Method → Bool
is_quiet_target p quiet static class (Some m) = is_called_so static m && is_quiet_at p quiet class m
is_quiet_target p quiet static class None = false

-- What is found by a name is such a method, static or not as the call wants it. A call on an object calls no constructor.
abbrev pub is_quiet_found : Program → List Bool → Bool → MethodName → Option MethodAt → Bool
is_quiet_found p quiet static q (Some at) = (static || not (is_constructor p q)) && is_quiet_target p quiet static at.class (method_at p at)
is_quiet_found p quiet static q None = false

-- what a static or direct call of a method number finds
abbrev pub is_quiet_named : Program → List Bool → Bool → ℕ → Option MethodName → Bool
is_quiet_named p quiet static method (Some q) = is_quiet_found p quiet static q (finds_static p method)
is_quiet_named p quiet static method None = false

-- no class under the named one has another such method
abbrev pub is_quiet_for_all : Program → List Bool → MethodName → ℕ → Option MethodAt → Bool
is_quiet_for_all p quiet q class (Some at) = is_quiet_found p quiet false q (Some at) && not (is_overridden p q class at)
is_quiet_for_all p quiet q class None = false

-- what objects find of a class, which is no interface, and of all classes under it
abbrev pub is_quiet_under : Program → List Bool → MethodName → Option ℕ → Bool
is_quiet_under p quiet q (Some class) = not (interface_at p class) && is_quiet_for_all p quiet q class (finds_virtual p q.name q.proto class)
is_quiet_under p quiet q None = false

-- what a virtual call finds
abbrev pub is_quiet_virtual : Program → List Bool → Option MethodName → Bool
is_quiet_virtual p quiet (Some q) = is_quiet_under p quiet q (class_place p q.class)
is_quiet_virtual p quiet None = false

-- ---- receivers

abbrev pub is_no_null : Nullness → Bool
is_no_null Bottom = true
is_no_null Null = false
is_no_null NotNull = true
is_no_null Any = false

-- a register isn't null, or no run comes to the position
abbrev pub holds_object : Option Frame → ℕ → Bool
holds_object (Some f) r = is_no_null (value_at f.registers r).nullness
holds_object None r = true

abbrev pub has_object : Option Frame → List ℕ → Bool
has_object o [] = false
has_object o (r ∷ rs) = holds_object o r

-- ---- calls

-- A call does nothing: it finds a quiet method, and its receiver, where it has one, isn't null. A static call finds a static method,
-- and a call on an object none.
abbrev pub is_idle_call : Program → List Bool → Option Frame → InvokeKind → ℕ → List ℕ → Bool
is_idle_call p quiet o call.Static method args = is_quiet_named p quiet true method (slice_get p.methods method)
is_idle_call p quiet o call.Direct method args = has_object o args && is_quiet_named p quiet false method (slice_get p.methods method)
is_idle_call p quiet o call.Virtual method args = has_object o args && is_quiet_virtual p quiet (slice_get p.methods method)
is_idle_call p quiet o kind method args = false
