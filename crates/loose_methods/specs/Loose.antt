-- What keeps a method from being static, by number: what reaches it other than by calls, the calls that may find it, and the
-- annotations and first values that name it (Dalvik executable format, "access_flags Definitions"; this project's profile).
use Rattle.std.specs.Prelude.{ℕ, suc, ◌&&◌, ◌||◌, not, Bool, true, false, nat_eq, List, [], ◌∷◌, ◌++◌, length, filter, flat_map, Option, Some, None, is_some, slice_get, slice_index_or, if◌then◌else◌}
use Rattle.std.specs.List.{list_any, list_all, range_with_len}
use Rattle.std.specs.Option.{option_map}
use Rattle.insn_set.specs.declared.ops.InvokeKind.{InvokeKind}
use Rattle.insn_set.specs.declared.ops.InvokeKind.TheVariants as call
use Rattle.insn_set.specs.declared.form.Insn.{Insn}
use Rattle.insn_set.specs.declared.form.Insn.TheVariants as insn
use Rattle.program_model.specs.declared.body.Body.{Body}
use Rattle.program_model.specs.declared.pools.MethodName.{MethodName}
use Rattle.program_model.specs.declared.program.Class.{Class}
use Rattle.program_model.specs.declared.program.Method.{Method}
use Rattle.program_model.specs.declared.program.MethodAt.{MethodAt}
use Rattle.program_model.specs.declared.program.Program.{Program}
use Rattle.program_model.specs.Lookups.{class_place, method_at}
use Rattle.program_model.specs.MemberRules.{is_object}
use Rattle.program_model.specs.Texts.{type_text}
use Rattle.class_defs.specs.Finding.{Search, Nothing, Clash, Finds, one_or_none, is_037, candidates, finds_at, finds_static, finds_super, resolves_method}
use Rattle.class_defs.specs.Members.{own_method, own_virtual, has_code, is_common}
use Rattle.class_defs.specs.Places.{is_under, interface_places, chain_of}
use Rattle.domains.specs.declared.nulls.Nullness.{Nullness}
use Rattle.domains.specs.declared.nulls.Nullness.TheVariants as null
use Rattle.dom_frame.specs.Registers.{value_at}
use Rattle.dom_frame.specs.declared.frames.Frame.{Frame}
use Rattle.facts.specs.Lent.{frame_at}
use Rattle.facts.specs.declared.facts.Facts.{Facts}
use Rattle.receivers.specs.Receiving.{interface_at, lists_above}

-- ---- what stands above the classes under one

abbrev pub places : Program → List ℕ
places p = range_with_len 0 (length p.classes)

-- a class and the classes under it, by superclasses and interfaces
abbrev pub classes_under : Program → ℕ → List ℕ
classes_under p class = filter (λ d. is_under p d class) (places p)

-- another class above one of these that has a virtual method of the name and the proto: it overrides the method or is overridden by
-- it, or it stands in an interface list, also where it is no interface
abbrev pub is_rival : Program → MethodName → ℕ → ℕ → ℕ → Bool
is_rival p q class d u = not (nat_eq u class) && is_under p d u && is_some (own_virtual p q.name q.proto u)

abbrev pub has_rival : Program → MethodName → ℕ → Bool
has_rival p q class = list_any (λ d. list_any (is_rival p q class d) (places p)) (classes_under p class)

-- an interface above one of these that has the name and the proto
abbrev pub is_face : Program → MethodName → ℕ → ℕ → Bool
is_face p q d i = interface_at p i && is_under p d i && is_some (own_method p q.name q.proto i)

abbrev pub is_in_interface : Program → MethodName → ℕ → Bool
is_in_interface p q class = list_any (λ d. list_any (is_face p q d) (places p)) (classes_under p class)

-- a type of the framework other than Object
abbrev pub is_outer : Program → ℕ → Bool
is_outer p kind = not (is_some (class_place p kind)) && not (is_object (type_text p kind))

abbrev pub lists_outer : Program → Option Class → Bool
lists_outer p None = false
lists_outer p (Some k) = list_any (is_outer p) (k.superclass ∷ k.interfaces)

-- a class has a framework ancestor other than Object
abbrev pub is_outward : Program → ℕ → Bool
is_outward p d = list_any (λ e. is_under p d e && lists_outer p (slice_get p.classes e)) (places p)

-- one of the classes under a class has
abbrev pub has_outward : Program → ℕ → Bool
has_outward p class = list_any (is_outward p) (classes_under p class)

-- nothing but calls of the class itself reaches a virtual method of a class
abbrev pub is_alone : Program → MethodName → ℕ → Bool
is_alone p q class = not (has_rival p q class) && not (is_common p q.name q.proto) && not (is_in_interface p q class) && not (has_outward p class)

-- ---- calls, by the method number that they name

-- the number of the method at a place
abbrev pub number_at : Program → MethodAt → Option ℕ
number_at p at = option_map (λ (m : Method). m.name) (method_at p at)

abbrev pub number_found : Program → Option MethodAt → Option ℕ
number_found p None = None
number_found p (Some at) = number_at p at

abbrev pub is_this : ℕ → Option ℕ → Bool
is_this n None = false
is_this n (Some x) = nat_eq x n

-- the method at a place is that of a number
abbrev pub is_it : Program → ℕ → MethodAt → Bool
is_it p n at = is_this n (number_at p at)

abbrev pub resolves_to : Program → ℕ → ℕ → Bool
resolves_to p n called = is_this n (number_found p (resolves_method p called))

-- the method that a number names: the one that it resolves to, or that of this very number
abbrev pub named_by : Program → ℕ → Option MethodAt → Option ℕ
named_by p called None = Some called
named_by p called (Some at) = number_at p at

abbrev pub names_it : Program → ℕ → ℕ → Bool
names_it p n called = is_this n (named_by p called (resolves_method p called))

abbrev pub found_by : Search → List MethodAt
found_by Nothing = []
found_by Clash = []
found_by (Finds at) = at ∷ []

abbrev pub is_nothing : Search → Bool
is_nothing Nothing = true
is_nothing Clash = false
is_nothing (Finds at) = false

-- a class is under a type by the program's own lists; every class is under Object
abbrev pub is_within_at : Program → ℕ → ℕ → Option ℕ → Bool
is_within_at p d kind (Some u) = is_under p d u
is_within_at p d kind None = is_object (type_text p kind) || lists_above p d kind

abbrev pub is_within : Program → ℕ → ℕ → Bool
is_within p kind d = is_within_at p d kind (class_place p kind)

-- the program classes of objects that a virtual or interface call may meet
abbrev pub receivers : Program → ℕ → List ℕ
receivers p kind = filter (is_within p kind) (places p)

-- the candidates of a class: those of its interfaces and of its superclasses' interfaces
abbrev pub class_candidates : Program → MethodName → ℕ → List MethodAt
class_candidates p q d = candidates p (flat_map (interface_places p) (chain_of p (Some d))) q.name q.proto

-- what an object of a class may find
abbrev pub may_find_at : Program → MethodName → ℕ → List MethodAt
may_find_at p q d = found_by (finds_at p d q.name q.proto) ++ class_candidates p q d

-- the candidates of a program interface that a super call names
abbrev pub super_candidates : Program → MethodName → Option ℕ → List MethodAt
super_candidates p q None = []
super_candidates p q (Some c) = if is_037 p.version && interface_at p c then candidates p (c ∷ []) q.name q.proto else []

-- A static, direct or super call may find one method, and a super call that names a program interface every candidate of it. A virtual
-- or interface call may find what the named class and each program class under it finds, and every candidate of these.
abbrev pub may_find : Program → ℕ → InvokeKind → ℕ → MethodName → List MethodAt
may_find p caller call.Static called q = one_or_none (finds_static p called)
may_find p caller call.Direct called q = one_or_none (finds_static p called)
may_find p caller call.Super called q = found_by (finds_super p caller called) ++ super_candidates p q (class_place p q.class)
may_find p caller kind called q = flat_map (may_find_at p q) (receivers p q.class)

-- A call by its kind that may find no method. A virtual call may name an interface, and then any object may be its receiver.
abbrev pub interface_there : Program → Option ℕ → Bool
interface_there p None = false
interface_there p (Some c) = interface_at p c

abbrev pub misses : Program → ℕ → InvokeKind → ℕ → MethodName → Bool
misses p caller call.Static called q = not (is_some (finds_static p called))
misses p caller call.Direct called q = not (is_some (finds_static p called))
misses p caller call.Super called q = is_nothing (finds_super p caller called)
misses p caller call.Interface called q = true
misses p caller call.Virtual called q = interface_there p (class_place p q.class) || list_any (λ d. is_nothing (finds_at p d q.name q.proto)) (receivers p q.class)

-- A call may leave the program's code where it names a class that the program doesn't define, may find none, or may find a method
-- without code.
abbrev pub may_leave : Program → ℕ → InvokeKind → ℕ → MethodName → Bool
may_leave p caller kind called q = not (is_some (class_place p q.class)) || misses p caller kind called q || list_any (λ at. not (has_code (method_at p at))) (may_find p caller kind called q)

-- a call that names the method of a number or may find it
abbrev pub concerns : Program → ℕ → ℕ → InvokeKind → ℕ → MethodName → Bool
concerns p n caller kind called q = names_it p n called || list_any (is_it p n) (may_find p caller kind called q)

-- the class that a method number names
abbrev pub class_of_entry : Program → Option MethodName → Option ℕ
class_of_entry p None = None
class_of_entry p (Some q) = class_place p q.class

abbrev pub class_of_number : Program → ℕ → Option ℕ
class_of_number p n = class_of_entry p (slice_get p.methods n)

abbrev pub is_among : List ℕ → Option ℕ → Bool
is_among cs None = false
is_among cs (Some c) = list_any (nat_eq c) cs

-- the call names the class of the method of a number, or a class that has it among its superclasses
abbrev pub is_subclass : Program → ℕ → MethodName → Bool
is_subclass p n q = is_among (chain_of p (class_place p q.class)) (class_of_number p n)

-- it names the method through its class or one under that, and finds it alone
abbrev pub is_plain_call : Program → ℕ → ℕ → InvokeKind → ℕ → MethodName → Bool
is_plain_call p n caller kind called q =
    resolves_to p n called && is_subclass p n q && not (may_leave p caller kind called q) && list_all (is_it p n) (may_find p caller kind called q)

-- ---- receivers

abbrev pub is_not_null : Nullness → Bool
is_not_null null.Bottom = true
is_not_null null.NotNull = true
is_not_null n = false

-- a register is known as not null: also where no run comes
abbrev pub holds_no_null : Option Frame → ℕ → Bool
holds_no_null None register = true
holds_no_null (Some frame) register = is_not_null (value_at frame.registers register).nullness

abbrev pub knows_not_null : Facts → ℕ → ℕ → ℕ → Bool
knows_not_null facts method position register = holds_no_null (frame_at facts.frames.items method position) register

-- A receiver that is known as not null. A static call has none, nor has one that passes nothing.
abbrev pub has_receiver : Facts → ℕ → ℕ → InvokeKind → List ℕ → Bool
has_receiver facts method position call.Static args = false
has_receiver facts method position kind [] = false
has_receiver facts method position kind (register ∷ args) = knows_not_null facts method position register

-- ---- all calls of a program

module _ (p : Program) (facts : Facts) (admitted : List Bool) where
  -- A call lets the method of a number be static: it doesn't concern it, or it stands in a method that may be rewritten, is plain and
  -- has a receiver.
  abbrev pub allows_by : ℕ → ℕ → ℕ → ℕ → InvokeKind → ℕ → List ℕ → Option MethodName → Bool
  allows_by n caller method position kind called args None = true
  allows_by n caller method position kind called args (Some q) =
      not (concerns p n caller kind called q)
      || (slice_index_or admitted method false && is_plain_call p n caller kind called q && has_receiver facts method position kind args)

  abbrev pub allows : ℕ → ℕ → ℕ → ℕ → Insn → Bool
  allows n caller method position (insn.Invoke kind called args) = allows_by n caller method position kind called args (slice_get p.methods called)
  allows n caller method position i = true

  -- instructions, of which the first stands at a position
  abbrev pub all_allow : ℕ → ℕ → ℕ → ℕ → List Insn → Bool
  all_allow n caller method position [] = true
  all_allow n caller method position (i ∷ is) = allows n caller method position i && all_allow n caller method (suc position) is

  abbrev pub code_allows : ℕ → ℕ → ℕ → Option Body → Bool
  code_allows n caller method None = true
  code_allows n caller method (Some b) = all_allow n caller method 0 b.insns

  abbrev pub methods_allow : ℕ → ℕ → List Method → Bool
  methods_allow n caller ms = list_all (λ m. code_allows n caller m.name m.body) ms

  -- classes, of which the first stands at a place
  abbrev pub classes_allow : ℕ → ℕ → List Class → Bool
  classes_allow n caller [] = true
  classes_allow n caller (k ∷ ks) = methods_allow n caller k.methods && classes_allow n (suc caller) ks

  -- every call of the program lets it be static
  abbrev pub calls_allow : ℕ → Bool
  calls_allow n = classes_allow n 0 p.classes
