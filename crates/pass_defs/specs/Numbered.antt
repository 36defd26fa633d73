-- Programs by number over the tables of another one: what limits and layouts count, a named program doesn't show.
use Rattle.std.specs.Prelude.{◌≡◌, List, map, Option, find}
use Rattle.std.specs.Option.{option_and_then}
use Rattle.program_model.specs.declared.pools.Proto.{Proto}
use Rattle.program_model.specs.declared.pools.MethodName.{MethodName}
use Rattle.program_model.specs.declared.body.Body.{Body}
use Rattle.program_model.specs.declared.program.Program.{Program}
use Rattle.dalvik_defs.specs.Names.{Text, text_eq, same_name}
use Rattle.dalvik_defs.specs.Naming.{text_at, type_at, signature_at, method_at, named}
use Rattle.dalvik_defs.specs.declared.names.Signature.{Signature}
use Rattle.dalvik_defs.specs.declared.names.MethodKey.{MethodKey}
use Rattle.dalvik_defs.specs.declared.program.NamedProgram.{NamedProgram}

-- A program by number with the tables of another, and what it names. Where no table has two equal entries and all numbers are
-- below its size there is one at most.
pub record IsNumbered (base : Program) (q : NamedProgram) (x : Program) : Type 0 where
  pub tables : x ≡ record base { classes = x.classes }
  pub names : named x ≡ q

-- the code of a method by number: that of the first method of its name in the first class of its class's name
abbrev pub numbered_body : Program → MethodKey → Option Body
numbered_body x k =
    option_and_then (λ c. option_and_then (λ m. m.body) (find (λ m. let n : MethodKey = method_at x m.name in same_name n.name n.signature k.name k.signature) c.methods))
    (find (λ c. text_eq (type_at x c.name) k.class) x.classes)

-- ---- tables by name

pub record Tables : Type 0 where
  pub strings : List Text
  pub signatures : List Signature
  pub methods : List MethodKey

abbrev pub signature_of : Program → Proto → Signature
signature_of x q = record { parameters = map (type_at x) q.parameters; result = type_at x q.result }

abbrev pub method_of : Program → MethodName → MethodKey
method_of x m = record { class = type_at x m.class; name = text_at x m.name; signature = signature_at x m.proto }

abbrev pub tables_of : Program → Tables
tables_of x = record { strings = x.strings; signatures = map (signature_of x) x.protos; methods = map (method_of x) x.methods }
