-- What super calls find, with the numbers of the classes' types (this project's profile).
use Rattle.std.specs.Prelude.{◌≡◌, ℕ, ◌<◌, Bool, true, false, List, Option, Some, None, nat_eq, slice_get, slice_index_or, length, vec_len}
use Rattle.std.specs.List.{list_any}
use Rattle.class_defs.specs.Finding.{finds_super, is_037}
use Rattle.class_defs.specs.Finding as finding
use Rattle.hierarchy.specs.Walking.{IsFair}
use Rattle.hierarchy.specs.declared.build.Hierarchy.{Hierarchy}
use Rattle.hierarchy.specs.declared.walk.Walk.{Walk}
use Rattle.insn_set.specs.declared.form.Insn.{Insn}
use Rattle.insn_set.specs.declared.form.Insn.TheVariants as insn
use Rattle.insn_set.specs.declared.ops.InvokeKind.{InvokeKind}
use Rattle.insn_set.specs.declared.ops.InvokeKind.TheVariants as call
use Rattle.program_model.specs.Lookups.{method_at}
use Rattle.program_model.specs.MemberRules.{has_flag}
use Rattle.program_model.specs.declared.program.Class.{Class}
use Rattle.program_model.specs.declared.program.Method.{Method}
use Rattle.program_model.specs.declared.program.MethodAt.{MethodAt}
use Rattle.program_model.specs.declared.program.Program.{Program}
use Rattle.verify.specs.declared.calls.Search.{Search}
use Rattle.verify.specs.declared.calls.Search.TheVariants as search

-- the method of a class
abbrev pub found_in : Option Method → Option Class → Search
found_in (Some m) (Some c) = search.Finds c.name (has_flag m.flags 8)
found_in m c = search.Nothing

abbrev pub found_at_place : Program → Option MethodAt → Search
found_at_place p None = search.Nothing
found_at_place p (Some at) = found_in (method_at p at) (slice_get p.classes at.class)

-- the place that a look-up answers, where it finds one method
abbrev pub place_found : finding.Search → Option MethodAt
place_found (finding.Finds at) = Some at
place_found finding.Nothing = None
place_found finding.Clash = None

abbrev pub said : Program → finding.Search → Search
said p (finding.Finds at) = found_at_place p (Some at)
said p finding.Nothing = search.Nothing
said p finding.Clash = search.Nothing

-- what an instruction of a class finds, if it is a super call
abbrev pub called_by_kind : Program → ℕ → InvokeKind → ℕ → Search
called_by_kind p class call.Super method = said p (finds_super p class method)
called_by_kind p class k method = search.Nothing

abbrev pub super_search : Program → ℕ → Insn → Search
super_search p class (insn.Invoke k method args) = called_by_kind p class k method
super_search p class i = search.Nothing

-- a type stands in the interface list of a class
abbrev pub lists : ℕ → Class → Bool
lists kind c = list_any (nat_eq kind) c.interfaces

abbrev pub is_super_kind : InvokeKind → Bool
is_super_kind call.Super = true
is_super_kind k = false

abbrev pub is_super : Insn → Bool
is_super (insn.Invoke k method args) = is_super_kind k
is_super i = false

-- what is found at each position, of so many or of all
abbrev pub FindsBelow : Program → ℕ → List Insn → List Search → ℕ → Type 0
FindsBelow p class insns found count = (n : ℕ) (i : Insn) → n < count → slice_get insns n ≡ Some i → slice_index_or found n search.Nothing ≡ super_search p class i

abbrev pub Finds : Program → ℕ → List Insn → List Search → Type 0
Finds p class insns found = (n : ℕ) (i : Insn) → slice_get insns n ≡ Some i → slice_index_or found n search.Nothing ≡ super_search p class i

-- a walk that was made serves the hierarchy
abbrev pub Serves : Hierarchy → Option Walk → Type 0
Serves h None = Unit {0}
Serves h (Some w) = IsFair w × (length w.seen.items ≡ vec_len h.shape.supers)
