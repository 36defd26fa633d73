-- Which methods a call may find (this project's profile).
use Rattle.std.specs.Prelude.{ℕ, Bool, true, false, ◌&&◌, ◌||◌, not, List, [], ◌∷◌, ◌++◌, map, filter, flat_map, Option, Some, None, is_some}
use Rattle.insn_set.specs.declared.ops.InvokeKind.{InvokeKind}
use Rattle.insn_set.specs.declared.ops.InvokeKind.TheVariants as call
use Rattle.dalvik_defs.specs.Names.{Text, text_eq, signature_eq, object_type}
use Rattle.dalvik_defs.specs.Under.{is_own_under}
use Rattle.dalvik_defs.specs.Find.{Found, Search, Nothing, Clash, Finds, is_virtual_method, first_method, chain_of, candidates, finds_at, finds_statically, finds_super, interface_named, is_037}
use Rattle.dalvik_defs.specs.declared.names.Signature.{Signature}
use Rattle.dalvik_defs.specs.declared.names.MethodKey.{MethodKey}
use Rattle.dalvik_defs.specs.declared.program.NamedProgram.{NamedProgram}

-- under another by the program's own lists; every class is under Object
abbrev pub is_within : NamedProgram → Text → Text → Bool
is_within p s t = text_eq t object_type || is_own_under p s t

-- a type and the program classes under it
abbrev pub receivers : NamedProgram → Text → List Text
receivers p t = t ∷ filter (λ u. is_within p u t && not (text_eq u t)) (map (λ c. c.name) p.classes)

abbrev pub found_by : Search → List Found
found_by (Finds g) = g ∷ []
found_by s = []

abbrev pub is_nothing : Search → Bool
is_nothing Nothing = true
is_nothing s = false

-- the first virtual method along a class and its superclasses
abbrev pub inherits : NamedProgram → Text → Text → Signature → Option Found
inherits p t n s = first_method is_virtual_method n s (chain_of p t)

-- the candidates of a class: those of its interfaces and of its superclasses' interfaces
abbrev pub candidates_of : NamedProgram → Text → Text → Signature → List Found
candidates_of p t n s = candidates p (flat_map (λ c. c.interfaces) (chain_of p t)) n s

-- the candidates of a program interface that a super call names
abbrev pub super_candidates : NamedProgram → MethodKey → List Found
super_candidates p k = elim (is_037 p.version && is_some (interface_named p k.class)) [
  | true ↦ candidates p (k.class ∷ []) k.name k.signature
  | false ↦ []
]

-- A static, direct or super call may find one method, and a super call that names a program interface every candidate of
-- it. A virtual or interface call may find what the named class and each program class under it finds, and every
-- candidate of these.
abbrev pub may_find : NamedProgram → Text → InvokeKind → MethodKey → List Found
may_find p class call.Static k = found_by (finds_statically p k)
may_find p class call.Direct k = found_by (finds_statically p k)
may_find p class call.Super k = found_by (finds_super p class k) ++ super_candidates p k
may_find p class kind k = flat_map (λ t. found_by (finds_at p t k) ++ candidates_of p t k.name k.signature) (receivers p k.class)
