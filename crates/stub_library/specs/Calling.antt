-- The methods that a program calls on framework types, by their keys.
use Rattle.std.specs.Prelude.{◌≡◌, ℕ, ◌&&◌, not, Bool, true, false, List, [], ◌∷◌, length, replicate, flat_map, Option, Some, None, is_none, slice_get, cond}
use Rattle.insn_set.specs.declared.form.Insn.{Insn}
use Rattle.insn_set.specs.declared.form.Insn.TheVariants as insn
use Rattle.insn_set.specs.declared.ops.InvokeKind.TheVariants as call
use Rattle.program_model.specs.Lookups.{class_place}
use Rattle.program_model.specs.MemberRules.{is_object}
use Rattle.program_model.specs.Texts.{type_text}
use Rattle.program_model.specs.declared.pools.MethodName.{MethodName}
use Rattle.program_model.specs.declared.body.Body.{Body}
use Rattle.program_model.specs.declared.program.Method.{Method}
use Rattle.program_model.specs.declared.program.Class.{Class}
use Rattle.program_model.specs.declared.program.Program.{Program}
use Rattle.hierarchy.specs.Membership.{key_at}
use Rattle.hierarchy.specs.declared.build.Hierarchy.{Hierarchy}
use Rattle.stub_library.specs.Marking.{is_on}
use Rattle.stub_library.specs.Shut.{called_outside}

-- the method that a virtual or interface call names
abbrev pub called_by : Insn → Option ℕ
called_by (insn.Invoke call.Virtual method args) = Some method
called_by (insn.Invoke call.Interface method args) = Some method
called_by other = None

-- whether an entry names a method of a framework type other than Object
abbrev pub names_outside : Program → Option MethodName → Bool
names_outside p None = false
names_outside p (Some q) = is_none (class_place p q.class) && not (is_object (type_text p q.class))

abbrev pub keys_of_call : Program → Hierarchy → Option ℕ → List ℕ
keys_of_call p h None = []
keys_of_call p h (Some n) = cond (names_outside p (slice_get p.methods n)) (key_at h.named.method_keys.keys.items n ∷ []) []

abbrev pub keys_of_insn : Program → Hierarchy → Insn → List ℕ
keys_of_insn p h i = keys_of_call p h (called_by i)

abbrev pub keys_of_body : Program → Hierarchy → Option Body → List ℕ
keys_of_body p h None = []
keys_of_body p h (Some b) = flat_map (keys_of_insn p h) b.insns

abbrev pub keys_of_method : Program → Hierarchy → Method → List ℕ
keys_of_method p h m = keys_of_body p h m.body

abbrev pub keys_of_class : Program → Hierarchy → Class → List ℕ
keys_of_class p h k = flat_map (keys_of_method p h) k.methods

-- the key of each method is marked where some call names its name and proto on the framework
pub record AreCalled (p : Program) (h : Hierarchy) (marks : List Bool) : Type 0 where
  pub are : (i : ℕ) (q : MethodName) → slice_get p.methods i ≡ Some q → is_on marks (key_at h.named.method_keys.keys.items i) ≡ called_outside p q
