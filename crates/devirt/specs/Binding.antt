-- To which method a virtual or interface call is bound, by number (Dalvik bytecode, "invoke-kind"; this project's profile).
use Rattle.std.specs.Prelude.{ℕ, ◌&&◌, ◌||◌, not, Bool, true, false, nat_eq, nat_lt, List, [], ◌∷◌, length, Option, Some, None, is_some, slice_get, cond, if◌then◌else◌}
use Rattle.std.specs.List.{list_all, list_any}
use Rattle.std.specs.Option.{option_or}
use Rattle.insn_set.specs.declared.ops.InvokeKind.{InvokeKind}
use Rattle.insn_set.specs.declared.ops.InvokeKind.TheVariants as call
use Rattle.program_model.specs.declared.pools.MethodName.{MethodName}
use Rattle.program_model.specs.declared.program.Method.{Method}
use Rattle.program_model.specs.declared.program.MethodAt.{MethodAt}
use Rattle.program_model.specs.declared.program.Program.{Program}
use Rattle.program_model.specs.Lookups.{class_place, method_at}
use Rattle.class_defs.specs.Finding.{resolves_method}
use Rattle.class_defs.specs.Members.{own_virtual, has_code}
use Rattle.class_defs.specs.Places.{is_under, chain_from}
use Rattle.verify.specs.Building.{class_above}
use Rattle.verify.specs.Kinds.{is_initialised}
use Rattle.verify.specs.declared.kinds.Kind.{Kind}
use Rattle.verify.specs.declared.kinds.Kind.TheVariants as kind
use Rattle.receivers.specs.Receiving.{interface_at, is_at, agreed, agreed_under}
use Rattle.devirt.specs.declared.binding.Bound.{Bound}
use Rattle.devirt.specs.declared.binding.Call.{Call}
use Rattle.devirt.specs.Measure.{names_code, names_interface}
use Rattle.devirt.specs.Reach.{may_access}

-- an interface call of a method of an interface, and a virtual one of any other
abbrev pub kind_for : Bool → InvokeKind
kind_for true = call.Interface
kind_for false = call.Virtual

-- ---- the receiver

-- a class is another one, or stands under it by superclasses, none of them above an interface
abbrev pub in_line : Program → ℕ → ℕ → Bool
in_line p lower upper = list_any (nat_eq upper) (chain_from (class_above p) (length p.classes) (Some lower))

abbrev pub is_in_class : Program → Kind → ℕ → Bool
is_in_class p kind.Zero class = true
is_in_class p kind.Null class = true
is_in_class p (kind.Program lower) class = in_line p lower class
is_in_class p k class = false

-- a receiver of a kind may be that of a call of a class's method: of an interface any object, and else one of the class
abbrev pub receives : Program → Kind → ℕ → Bool
receives p k class = if interface_at p class then is_initialised k else is_in_class p k class

-- ---- from a method with code of an interface

abbrev pub default_at : Program → Option MethodAt → Option ℕ
default_at p (Some at) = cond (has_code (method_at p at) && interface_at p at.class) (Some at.class) None
default_at p None = None

-- the interface whose method with code a number names
abbrev pub default_of : Program → ℕ → Option ℕ
default_of p method = default_at p (resolves_method p method)

abbrev pub is_under_default : Program → ℕ → Option ℕ → Bool
is_under_default p class (Some upper) = is_under p class upper
is_under_default p class None = true

-- from a method with code of an interface a call goes to another interface only where that one is under it
abbrev pub may_rebind : Program → ℕ → ℕ → Bool
may_rebind p method class = not (interface_at p class) || is_under_default p class (default_of p method)

-- ---- what the call falls to

-- a class stands strictly under the one that a call names
abbrev pub is_lower : Program → ℕ → Option ℕ → Bool
is_lower p class (Some upper) = is_under p class upper && not (nat_eq class upper)
is_lower p class None = false

abbrev pub falls_so : Program → Bool → Bool → MethodName → ℕ → Bool
falls_so p true false q class = true
falls_so p false true q class = false
falls_so p from to q class = is_lower p class (class_place p q.class)

-- The call names no method with code of the named class itself; or it leaves an interface for a class that is none; or it goes to
-- a class strictly under the named one, both interfaces or both none. So no chain of calls goes round.
abbrev pub falls : Program → InvokeKind → MethodName → ℕ → Bool
falls p kind q class = not (names_code p q) || falls_so p (names_interface p kind q) (interface_at p class) q class

-- ---- the method that is found

-- the entry of the method that is found is of the name and the proto of the call, and of the class that defines it
abbrev pub is_same_name : Program → MethodName → ℕ → Option MethodName → Bool
is_same_name p q class None = false
is_same_name p q class (Some r) = nat_eq r.name q.name && nat_eq r.proto q.proto && elim (class_place p r.class) [ Some c ↦ nat_eq c class | None ↦ false ]

-- a method that receivers find may be called: it is the class's own with code, the receiver is one for it, and the caller may
-- reach it
abbrev pub may_call : Program → Call → MethodName → MethodAt → Method → Bool
may_call p call q at target = is_some target.body
    && is_at at (own_virtual p q.name q.proto at.class)
    && is_same_name p q at.class (slice_get p.methods target.name)
    && receives p call.receiver at.class
    && may_rebind p call.method at.class
    && may_access p call.caller at.class target
    && falls p call.kind q at.class

abbrev pub bound_by : Program → Call → MethodName → MethodAt → Option Method → Option Bound
bound_by p call q at None = None
bound_by p call q at (Some target) = cond (not (nat_eq target.name call.method) && may_call p call q at target)
    (Some (record { kind = kind_for (interface_at p at.class); method = target.name })) None

-- how a call goes to a method that its receivers find, where it may and that is another one
abbrev pub bound_to : Program → Call → MethodName → MethodAt → Option Bound
bound_to p call q at = bound_by p call q at (method_at p at)

-- where all of some classes stand under the one of the method that they find
abbrev pub bound_above : Program → Call → MethodName → List ℕ → Option MethodAt → Option Bound
bound_above p call q classes None = None
bound_above p call q classes (Some at) = cond (nat_lt at.class (length p.classes) && list_all (λ c. is_under p c at.class) classes) (bound_to p call q at) None

-- all of these are places of classes
abbrev pub are_places : Program → List ℕ → Bool
are_places p classes = list_all (λ c. nat_lt c (length p.classes)) classes

-- what a call is bound to by the exact classes of its receivers
abbrev pub by_places : Program → Call → MethodName → List ℕ → Option Bound
by_places p call q classes = cond (are_places p classes) (bound_above p call q classes (agreed p q classes)) None

abbrev pub by_classes : Program → Call → MethodName → Option (List ℕ) → Option Bound
by_classes p call q (Some classes) = by_places p call q classes
by_classes p call q None = None

abbrev pub by_class : Program → Call → MethodName → ℕ → Option Bound
by_class p call q class = cond (nat_lt class (length p.classes) && not (interface_at p class)) (bound_above p call q (class ∷ []) (agreed_under p q class)) None

-- what a call is bound to by the kind of its receiver
abbrev pub by_kind : Program → Call → MethodName → Kind → Option Bound
by_kind p call q (kind.Program class) = by_class p call q class
by_kind p call q k = None

abbrev pub bound_named : Program → Call → Option (List ℕ) → Option MethodName → Option Bound
bound_named p call classes (Some q) = option_or (by_classes p call q classes) (by_kind p call q call.receiver)
bound_named p call classes None = None

-- what a call is bound to, if its receivers find one method, by what is known of them or by their kind
abbrev pub bound : Program → Call → Option (List ℕ) → Option Bound
bound p call classes = bound_named p call classes (slice_get p.methods call.method)
