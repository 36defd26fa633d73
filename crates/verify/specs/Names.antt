-- What the members say that an instruction names.
use Rattle.std.specs.Prelude.{ℕ, List, [], Option, Some, None, slice_get, option_and_then}
use Rattle.program_model.specs.declared.pools.FieldName.{FieldName}
use Rattle.program_model.specs.declared.pools.MethodName.{MethodName}
use Rattle.program_model.specs.declared.pools.Proto.{Proto}
use Rattle.program_model.specs.declared.program.Program.{Program}

abbrev pub kind_or : Option FieldName → ℕ
kind_or (Some n) = n.kind
kind_or None = 4294967295

abbrev pub field_class_or : Option FieldName → ℕ
field_class_or (Some n) = n.class
field_class_or None = 4294967295

-- the type of a field
abbrev pub field_kind : Program → ℕ → ℕ
field_kind p f = kind_or (slice_get p.fields f)

-- the type that the name of a field names as its class
abbrev pub field_class : Program → ℕ → ℕ
field_class p f = field_class_or (slice_get p.fields f)

abbrev pub class_or : Option MethodName → ℕ
class_or (Some n) = n.class
class_or None = 4294967295

-- the type that the name of a method names as its class
abbrev pub method_class : Program → ℕ → ℕ
method_class p m = class_or (slice_get p.methods m)

abbrev pub proto_of : Program → ℕ → Option Proto
proto_of p m = option_and_then (λ n. slice_get p.protos n.proto) (slice_get p.methods m)

abbrev pub parameters_or : Option Proto → List ℕ
parameters_or (Some p) = p.parameters
parameters_or None = []

abbrev pub result_or : Option Proto → ℕ
result_or (Some p) = p.result
result_or None = 4294967295

-- the types of a method's parameters
abbrev pub parameters_of : Program → ℕ → List ℕ
parameters_of p m = parameters_or (proto_of p m)

-- the result type of a method
abbrev pub result_of : Program → ℕ → ℕ
result_of p m = result_or (proto_of p m)
