-- Methods that the framework can't call back, since no type of the framework declares them: shut methods (this project's
-- profile). The framework enters declared methods alone; what it declares is read off a library of stubs.
use Rattle.std.specs.Prelude.{ℕ, zero, suc, ◌+◌, Bool, true, false, ◌&&◌, ◌||◌, not, List, [], ◌∷◌, length, Some, None, is_some}
use Rattle.std.specs.List.{list_any, list_all}
use Rattle.insn_set.specs.declared.ops.InvokeKind.TheVariants as call
use Rattle.dalvik_defs.specs.Names.{Text, text_eq, method_eq, same_name, is_common, object_type}
use Rattle.dalvik_defs.specs.Flags.{is_interface}
use Rattle.dalvik_defs.specs.Under.{defines, is_own_under}
use Rattle.dalvik_defs.specs.Find.{Search, Finds, finds_at, is_virtual_method, is_037}
use Rattle.dalvik_defs.specs.Outer.{Outer}
use Rattle.dalvik_defs.specs.declared.names.Signature.{Signature}
use Rattle.dalvik_defs.specs.declared.names.MethodKey.{MethodKey}
use Rattle.dalvik_defs.specs.declared.forms.Form.{Form}
use Rattle.dalvik_defs.specs.declared.forms.Form.TheVariants as form
use Rattle.dalvik_defs.specs.declared.program.NamedMethod.{NamedMethod}
use Rattle.dalvik_defs.specs.declared.program.NamedClass.{NamedClass}
use Rattle.dalvik_defs.specs.declared.program.NamedProgram.{NamedProgram}

-- A library: the types that it declares, those directly above each by all its declarations, the virtual methods that it
-- declares of a type, and how many types there are.
pub record Library : Type 0 where
  pub declares : Text → Bool
  pub above : Text → List Text
  pub has : Text → Text → Signature → Bool
  pub size : ℕ

-- each type met on the walk from a type is Object or declared, and none declares the method
abbrev pub walk_clear : ℕ → Library → Text → Signature → Text → Bool
walk_clear zero l n q t = true
walk_clear (suc k) l n q t = (text_eq t object_type || l.declares t) && not (l.has t n q) && list_all (walk_clear k l n q) (l.above t)

abbrev pub type_clear : NamedProgram → Library → Text → Signature → Text → Bool
type_clear p l n q t = defines p t || text_eq t object_type || walk_clear (l.size + 2) l n q t

-- the framework types above a class by the program's lists
abbrev pub types_clear : NamedProgram → Library → Text → Signature → Text → Bool
types_clear p l n q t = list_all (λ d. not (is_own_under p t d.name) || list_all (type_clear p l n q) (d.superclass ∷ d.interfaces)) p.classes

abbrev pub key_of : NamedClass → NamedMethod → MethodKey
key_of c m = record { class = c.name; name = m.name; signature = m.signature }

-- whether a class finds a method by its name and signature
abbrev pub is_found_as : MethodKey → Search → Bool
is_found_as k (Finds f) = method_eq f.key k
is_found_as k s = false

abbrev pub finds_it : NamedProgram → MethodKey → NamedClass → Bool
finds_it p k d = is_found_as k (finds_at p d.name k)

-- a virtual or interface call that names the method on a type other than Object that the program doesn't define
abbrev pub names_outside : NamedProgram → Text → Signature → Form → Bool
names_outside p n q (form.Invoke call.Virtual k args) = same_name k.name k.signature n q && not (defines p k.class) && not (text_eq k.class object_type)
names_outside p n q (form.Invoke call.Interface k args) = same_name k.name k.signature n q && not (defines p k.class) && not (text_eq k.class object_type)
names_outside p n q form = false

abbrev pub called_outside : NamedProgram → Text → Signature → Bool
called_outside p n q = list_any (λ c. list_any (λ m. elim m.body [ Some b ↦ list_any (names_outside p n q) b.forms | None ↦ false ]) c.methods) p.classes

-- another virtual method with code of the name and signature
abbrev pub is_other : Text → NamedMethod → NamedClass → NamedMethod → Bool
is_other class m e x = same_name x.name x.signature m.name m.signature && is_virtual_method x && is_some x.body && not (text_eq e.name class)

-- whether the framework may call the method of a class by a kept virtual one of its name and signature there
abbrev pub keeps_name : Outer → NamedMethod → NamedClass → Bool
keeps_name o m e = list_any (λ x. same_name x.name x.signature m.name m.signature && is_virtual_method x && o.methods (key_of e x)) e.methods

abbrev pub keeper_over : NamedProgram → Outer → NamedMethod → Text → Bool
keeper_over p o m t = list_any (λ e. is_own_under p t e.name && keeps_name o m e) p.classes

-- A virtual method that isn't kept, that not every object answers to, in version 037 of no interface. No class that finds
-- it stands under one with a kept virtual method of its name, or has a framework type above it that may declare it; no
-- call names it on the framework, and every other method of its name with code above such a class is kept or shut.
abbrev pub is_shut : ℕ → NamedProgram → Outer → Library → NamedClass → NamedMethod → Bool
is_shut zero p o l c m = false
is_shut (suc k) p o l c m =
    is_virtual_method m && not (o.methods (key_of c m)) && not (is_common m.name m.signature) && not (is_037 p.version && is_interface c.flags)
    && not (called_outside p m.name m.signature)
    && list_all (λ d. not (finds_it p (key_of c m) d)
    || (not (keeper_over p o m d.name)
    && types_clear p l m.name m.signature d.name
    && list_all (λ e. not (is_own_under p d.name e.name) || list_all (λ x. not (is_other c.name m e x) || o.methods (key_of e x) || is_shut k p o l e x) e.methods) p.classes)) p.classes

-- of a method that the program defines: the definition looks upwards alone
abbrev pub shut : NamedProgram → Outer → Library → NamedClass → NamedMethod → Bool
shut p o l c m = is_shut (suc (length p.classes)) p o l c m
