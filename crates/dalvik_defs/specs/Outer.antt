-- What the framework may reach, by names: the closed table of kept classes, methods and fields, the methods whose calls
-- do nothing, and those that no framework type declares (ProGuard manual, "Keep Options"; this project's profile). A kept
-- constructor lets its class be made, and a kept virtual method is entered as the receiver's class finds it.
use Rattle.std.specs.Prelude.{ℕ, Bool, ◌&&◌, List, map, filter}
use Rattle.std.specs.List.{list_any}
use Rattle.program_model.specs.declared.program.Program.{Program}
use Rattle.program_model.specs.declared.pass.Outside.{Outside}
use Rattle.dalvik_defs.specs.Names.{Text, text_eq, method_eq, field_eq, same_name, constructor_name}
use Rattle.dalvik_defs.specs.Naming.{type_at, field_at, method_at}
use Rattle.dalvik_defs.specs.declared.names.Signature.{Signature}
use Rattle.dalvik_defs.specs.declared.names.MethodKey.{MethodKey}
use Rattle.dalvik_defs.specs.declared.names.FieldKey.{FieldKey}

pub record Outer : Type 0 where
  pub classes : Text → Bool
  pub methods : MethodKey → Bool
  -- of which classes a constructor is kept
  pub constructed : Text → Bool
  -- the classes of the kept methods of a name and signature
  pub keepers : Text → Signature → List Text
  pub fields : FieldKey → Bool
  pub silent : MethodKey → Bool
  pub shut : MethodKey → Bool

abbrev pub methods_in : Program → List ℕ → MethodKey → Bool
methods_in p ns k = list_any (λ n. method_eq (method_at p n) k) ns

abbrev pub is_constructor_of : Text → MethodKey → Bool
is_constructor_of t k = text_eq k.class t && text_eq k.name constructor_name

abbrev pub keepers_in : Program → List ℕ → Text → Signature → List Text
keepers_in p ns name signature = map (λ k. k.class) (filter (λ k. same_name k.name k.signature name signature) (map (method_at p) ns))

abbrev pub outer_of : Program → Outside → Outer
outer_of p o = record {
  classes = λ t. list_any (λ n. text_eq (type_at p n) t) o.classes;
  methods = methods_in p o.methods;
  constructed = λ t. list_any (λ n. is_constructor_of t (method_at p n)) o.methods;
  keepers = keepers_in p o.methods;
  fields = λ k. list_any (λ n. field_eq (field_at p n) k) o.fields;
  silent = methods_in p o.silent;
  shut = methods_in p o.shut;
}
