-- Which calls may find a method of the framework, a native one or an abstract one (this project's profile).
use Rattle.std.specs.Prelude.{Bool, true, ◌||◌, not, is_some}
use Rattle.std.specs.List.{list_any}
use Rattle.insn_set.specs.declared.ops.InvokeKind.{InvokeKind}
use Rattle.insn_set.specs.declared.ops.InvokeKind.TheVariants as call
use Rattle.dalvik_defs.specs.Names.{Text}
use Rattle.dalvik_defs.specs.Under.{defines}
use Rattle.dalvik_defs.specs.Find.{finds_at, finds_statically, finds_super, interface_named}
use Rattle.dalvik_defs.specs.declared.names.MethodKey.{MethodKey}
use Rattle.dalvik_defs.specs.declared.program.NamedProgram.{NamedProgram}
use Rattle.pass_defs.specs.Calls.{may_find, receivers, is_nothing}

-- A call by its kind that may find none. A virtual call may name an interface, and then any object may be its receiver.
abbrev pub misses : NamedProgram → Text → InvokeKind → MethodKey → Bool
misses p class call.Static k = is_nothing (finds_statically p k)
misses p class call.Direct k = is_nothing (finds_statically p k)
misses p class call.Super k = is_nothing (finds_super p class k)
misses p class call.Interface k = true
misses p class call.Virtual k = is_some (interface_named p k.class) || list_any (λ t. is_nothing (finds_at p t k)) (receivers p k.class)

-- A call may leave the program's code where it names a class that the program doesn't define, a super call too, is an
-- interface call, may find none, or may find a method without code.
abbrev pub may_leave : NamedProgram → Text → InvokeKind → MethodKey → Bool
may_leave p class kind k = not (defines p k.class) || misses p class kind k || list_any (λ g. not g.coded) (may_find p class kind k)
