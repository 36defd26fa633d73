-- What calls, fields and classes that instructions name are, by number.
use Rattle.std.specs.Prelude.{◌≡◌, ℕ, ◌+◌, ◌*◌, Bool, true, List, [], Option, Some, None, is_some, slice_get, Contains, option_and_then}
use Rattle.std.specs.Option.{option_map}
use Rattle.insn_set.specs.declared.ops.InvokeKind.{InvokeKind}
use Rattle.insn_set.specs.declared.ops.InvokeKind.TheVariants as call
use Rattle.insn_set.specs.declared.form.Insn.{Insn}
use Rattle.insn_set.specs.declared.form.Insn.TheVariants as insn
use Rattle.program_model.specs.declared.program.Field.{Field}
use Rattle.program_model.specs.declared.program.Method.{Method}
use Rattle.program_model.specs.declared.program.MethodAt.{MethodAt}
use Rattle.program_model.specs.declared.program.Program.{Program}
use Rattle.program_model.specs.Lookups.{class_place, method_at}
use Rattle.class_defs.specs.Members.{is_interface}
use Rattle.class_defs.specs.Finding.{Search, Nothing, Finds, search_of, finds_static, finds_super, resolves_field, beside}
use Rattle.call_targets.specs.declared.table.Link.{Link}
use Rattle.call_targets.specs.declared.table.Targets.{Targets}

-- ---- calls

-- what a static, direct or super call in the class at a place finds by the method number that it names
abbrev pub finds_bound : Program → ℕ → ℕ → InvokeKind → Search
finds_bound p class method call.Static = search_of (finds_static p method)
finds_bound p class method call.Direct = search_of (finds_static p method)
finds_bound p class method call.Super = finds_super p class method
finds_bound p class method call.Virtual = Nothing
finds_bound p class method call.Interface = Nothing

-- such a call, which finds by its name alone
abbrev pub IsBound : InvokeKind → Type 0
IsBound call.Virtual = ⊥
IsBound call.Interface = ⊥
IsBound kind = Unit {0}

-- the number of the virtual or interface calls that name a method
abbrev pub call_number : ℕ → InvokeKind → Option ℕ
call_number method call.Virtual = Some (2 * method)
call_number method call.Interface = Some (2 * method + 1)
call_number method kind = None

-- A call in the class at a place may enter a method, by its number: the one that it finds by its name, which has code or has
-- none, or one with code that an object of a made class finds.
pub data MayCall (p : Program) (targets : Targets) (class method : ℕ) : InvokeKind → ℕ → Bool → Type 0 where
  Bound : (kind : InvokeKind) (at : MethodAt) (m : Method) → finds_bound p class method kind ≡ Finds at → method_at p at ≡ Some m → MayCall p targets class method kind m.name (is_some m.body)
  Linked : (kind : InvokeKind) (link : Link) → call_number method kind ≡ Some link.call → Contains targets.links.items link → MayCall p targets class method kind link.method true

-- the class that a method number names is an interface of the program
abbrev pub names_interface : Program → ℕ → Bool
names_interface p method = is_interface (option_and_then (λ q. option_and_then (slice_get p.classes) (class_place p q.class)) (slice_get p.methods method))

-- It may leave the program's code: it finds nothing by its name, or a method without code, or its number is marked, or it is a
-- virtual call that names an interface, which a receiver needn't have.
pub data MayLeave (p : Program) (targets : Targets) (class method : ℕ) : InvokeKind → Type 0 where
  Unfound : (kind : InvokeKind) → IsBound kind → finds_bound p class method kind ≡ Nothing → MayLeave p targets class method kind
  Bare : (kind : InvokeKind) (at : MethodAt) (m : Method) → finds_bound p class method kind ≡ Finds at → method_at p at ≡ Some m → m.body ≡ None → MayLeave p targets class method kind
  ByInterface : names_interface p method ≡ true → MayLeave p targets class method call.Virtual
  Marked : (kind : InvokeKind) (number : ℕ) → call_number method kind ≡ Some number → slice_get targets.leaves.items number ≡ Some true → MayLeave p targets class method kind

-- ---- fields

-- the field that a class defines at a place
abbrev pub field_in : Program → ℕ × ℕ → Option Field
field_in p at = option_and_then (λ c. slice_get c.fields at.1) (slice_get p.classes at.0)

-- the number by which the program defines the field that a field number names
abbrev pub own_number : Program → ℕ → Option ℕ
own_number p field = option_and_then (λ at. option_map (λ f. f.name) (field_in p at)) (resolves_field p field)

-- ---- classes

abbrev pub field_class : Program → ℕ → List ℕ
field_class p field = beside (option_map (λ at. at.0) (resolves_field p field))

-- the class that an instruction needs, by its place
abbrev pub needs : Program → Insn → List ℕ
needs p (insn.NewInstance to kind) = beside (class_place p kind)
needs p (insn.StaticGet item to field) = field_class p field
needs p (insn.StaticPut item from field) = field_class p field
needs p (insn.Invoke call.Static method args) = beside (option_map (λ at. at.class) (finds_static p method))
needs p i = []
