-- What is noted of a made class, call by call and method by method.
use Rattle.std.specs.Prelude.{ℕ, Bool, not, ◌&&◌, ◌||◌, List, [], ◌∷◌, ◌++◌, flat_map, Option, Some, None, is_some, nat_eq, cond, slice_get}
use Rattle.program_model.specs.declared.pools.MethodName.{MethodName}
use Rattle.program_model.specs.declared.program.Class.{Class}
use Rattle.program_model.specs.declared.program.Method.{Method}
use Rattle.program_model.specs.declared.program.Program.{Program}
use Rattle.program_model.specs.Lookups.{method_at}
use Rattle.program_model.specs.MemberRules.{is_static, is_direct}
use Rattle.class_defs.specs.Members.{is_common}
use Rattle.class_defs.specs.Finding.{Search, Nothing, Clash, Finds, finds_at}
use Rattle.call_graph.specs.Follows.{class_of}
use Rattle.call_targets.specs.Adding.{Note, Links, Leaves, Enters}
use Rattle.call_targets.specs.Called.{calls_on}
use Rattle.call_targets.specs.Targeted.{is_on}
use Rattle.call_targets.specs.declared.kept.Kept.{Kept}
use Rattle.call_targets.specs.declared.named.Call.{Call}
use Rattle.call_targets.specs.declared.named.Named.{Named}

-- ---- a call on an object

-- a link to a method with code; a call that finds none may leave
abbrev pub link_notes : ℕ → Option Method → List Note
link_notes call None = Leaves call ∷ []
link_notes call (Some m) = cond (is_some m.body) (Links (record { call = call; method = m.name }) ∷ []) (Leaves call ∷ [])

abbrev pub search_notes : Program → ℕ → Search → List Note
search_notes p call Nothing = Leaves call ∷ []
search_notes p call Clash = []
search_notes p call (Finds at) = link_notes call (method_at p at)

abbrev pub call_notes_of : Program → ℕ → ℕ → Option MethodName → List Note
call_notes_of p class call None = []
call_notes_of p class call (Some q) = search_notes p call (finds_at p class q.name q.proto)

abbrev pub call_notes : Program → ℕ → Call → List Note
call_notes p class call = call_notes_of p class call.number (slice_get p.methods call.method)

-- ---- a method of a class above

-- the framework enters a method, where it has code
abbrev pub enter_notes : Method → List Note
enter_notes m = cond (is_some m.body) (Enters m.name ∷ []) []

-- what is found, where any counts or it is the one of a number
abbrev pub answer_notes : Bool → ℕ → Option Method → List Note
answer_notes any number None = []
answer_notes any number (Some m) = cond (any || nat_eq m.name number) (enter_notes m) []

abbrev pub found_notes : Program → Bool → ℕ → Search → List Note
found_notes p any number Nothing = []
found_notes p any number Clash = []
found_notes p any number (Finds at) = answer_notes any number (method_at p at)

-- whether the framework may call a virtual method by its own knowledge; `outer` says whether a type of its own stands above
abbrev pub is_called_back : Program → Kept → Bool → ℕ → MethodName → Bool
is_called_back p k outer number q = not (is_on k.shut.items number) && (outer || is_common p q.name q.proto)

abbrev pub virtual_notes_of : Program → Kept → ℕ → Bool → ℕ → Option MethodName → List Note
virtual_notes_of p k class outer number None = []
virtual_notes_of p k class outer number (Some q) = cond (is_on k.methods.items number || is_called_back p k outer number q) (found_notes p (is_on k.methods.items number) number (finds_at p class q.name q.proto)) []

abbrev pub virtual_notes : Program → Kept → ℕ → Bool → ℕ → List Note
virtual_notes p k class outer number = virtual_notes_of p k class outer number (slice_get p.methods number)

abbrev pub method_notes : Program → Kept → ℕ → Bool → Method → List Note
method_notes p k class outer m = cond (is_static m.flags) [] (cond (is_on k.methods.items m.name) (enter_notes m) [] ++ cond (is_direct p m) [] (virtual_notes p k class outer m.name))

-- ---- the types above

abbrev pub methods_of : Option Class → List Method
methods_of None = []
methods_of (Some c) = c.methods

abbrev pub kind_notes : Program → Named → Kept → ℕ → Bool → ℕ → List Note
kind_notes p n k class outer kind = flat_map (call_notes p class) (calls_on n kind) ++ flat_map (method_notes p k class outer) (methods_of (class_of p kind))
