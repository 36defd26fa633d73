-- Calls that can name the one method that they find (this project's profile).
use Rattle.std.specs.Prelude.{◌≡◌, ℕ, Bool, true, false, ◌&&◌, ◌||◌, not, if◌then◌else◌, nat_eq, List, [], ◌∷◌, Option, Some, None, is_some, Contains}
use Rattle.std.specs.List.{list_any}
use Rattle.insn_set.specs.declared.ops.InvokeKind.{InvokeKind}
use Rattle.insn_set.specs.declared.ops.InvokeKind.TheVariants as call
use Rattle.dalvik_defs.specs.Names.{Text, text_eq, method_eq}
use Rattle.dalvik_defs.specs.Flags.{has_bit}
use Rattle.dalvik_defs.specs.Under.{class_named, is_own_under}
use Rattle.dalvik_defs.specs.Find.{Found, Search, Nothing, Finds, finds_at, resolves_method, interface_named}
use Rattle.dalvik_defs.specs.declared.names.MethodKey.{MethodKey}
use Rattle.dalvik_defs.specs.declared.forms.Form.TheVariants as form
use Rattle.dalvik_defs.specs.declared.program.NamedBody.{NamedBody}
use Rattle.dalvik_defs.specs.declared.program.NamedMethod.{NamedMethod}
use Rattle.dalvik_defs.specs.declared.program.NamedClass.{NamedClass}
use Rattle.dalvik_defs.specs.declared.program.NamedProgram.{NamedProgram}
use Rattle.pass_defs.specs.Walks.{form_at}
use Rattle.pass_defs.specs.Kinds.{Class}
use Rattle.pass_defs.specs.Registers.{Kinds, kind_at}
use Rattle.pass_defs.specs.Typed.{Table, state_at, IsLeastTyping}

-- what a virtual or interface call finds at a class, by the program's own lists
abbrev pub finds_within : NamedProgram → Text → MethodKey → Search
finds_within p t k = elim (is_own_under p t k.class) [ true ↦ finds_at p t k | false ↦ Nothing ]

abbrev pub is_virtual_call : InvokeKind → Bool
is_virtual_call call.Virtual = true
is_virtual_call call.Interface = true
is_virtual_call kind = false

-- the interface of a method with code, where the name resolves to one
abbrev pub default_of : NamedProgram → MethodKey → Option Text
default_of p k = elim (resolves_method p k) [ Some g ↦ if g.coded && is_some (interface_named p g.key.class) then Some g.key.class else None | None ↦ None ]

-- A call that names a method with code of an interface goes to another interface only where that one is under it.
abbrev pub may_rebind : NamedProgram → MethodKey → MethodKey → Bool
may_rebind p k g = not (is_some (interface_named p g.class)) || elim (default_of p k) [ Some t ↦ is_own_under p g.class t | None ↦ true ]

-- ---- what a caller may reach

-- a class descriptor up to its last slash
abbrev pub package_of : Text → Text
package_of [] = []
package_of (u ∷ us) = elim (list_any (nat_eq 47) (u ∷ us)) [ true ↦ u ∷ package_of us | false ↦ [] ]

abbrev pub is_public : ℕ → Bool
is_public flags = has_bit 1 flags

abbrev pub is_public_class : NamedProgram → Text → Bool
is_public_class p t = elim (class_named p t) [ Some c ↦ is_public c.flags | None ↦ false ]

-- The method and its class are public, or the class lies in the caller's package.
abbrev pub may_access : NamedProgram → Text → Found → Bool
may_access p caller g = (is_public g.flags && is_public_class p g.key.class) || text_eq (package_of caller) (package_of g.key.class)

pub record IsBindable (p : NamedProgram) (c : NamedClass) (m : NamedMethod) (n : ℕ) (found : Found) : Type 0 where
  pub body : NamedBody
  pub coded : m.body ≡ Some body
  pub kind : InvokeKind
  pub key : MethodKey
  pub receiver : ℕ
  pub args : List ℕ
  pub has_form : form_at body n ≡ Some (form.Invoke kind key (receiver ∷ args))
  pub virtual : is_virtual_call kind ≡ true
  pub table : Table
  pub least : IsLeastTyping p c m body table
  pub kinds : Kinds
  pub there : state_at table n ≡ Some kinds
  pub class : Text
  pub typed : kind_at kinds.registers receiver ≡ Class class
  pub finds : (u : NamedClass) → Contains p.classes u → is_own_under p u.name class ≡ true → finds_within p u.name key ≡ Finds found
  pub has_code : found.coded ≡ true
  pub other : method_eq found.key key ≡ false
  pub rebinds : may_rebind p key found.key ≡ true
  pub access : may_access p c.name found ≡ true
