-- What the names of methods say.
use Rattle.std.specs.Prelude.{Bool, ◌&&◌, [], map, Option, Some, None, codes}
use Rattle.program_model.specs.declared.pools.MethodName.{MethodName}
use Rattle.program_model.specs.declared.pools.Proto.{Proto}
use Rattle.program_model.specs.declared.program.Program.{Program}
use Rattle.dalvik_defs.specs.Names.{Text, text_eq, signature_eq, object_type, void, proto_text}
use Rattle.dalvik_defs.specs.Naming.{text_at, type_at, signature_at}
use Rattle.dalvik_defs.specs.declared.names.Signature.{Signature}

-- what a proto takes and gives
abbrev pub signature_of : Program → Proto → Signature
signature_of p q = record { parameters = map (type_at p) q.parameters; result = type_at p q.result }

-- an entry of the table of methods names the constructor of Object
abbrev pub is_constructor : Program → MethodName → Bool
is_constructor p q = text_eq (type_at p q.class) object_type && text_eq (text_at p q.name) (codes "<init>") && signature_eq (signature_at p q.proto) void

-- how a proto is spelled, none past the table
abbrev pub spelled : Program → Option Proto → Text
spelled p None = []
spelled p (Some q) = proto_text (signature_of p q)
