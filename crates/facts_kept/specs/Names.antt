-- The facts of a program by names: what a table of facts says at the number of a name. Of a method without code, and of a name
-- that no number has, nothing is known.
use Rattle.std.specs.Prelude.{ℕ, Bool, if◌then◌else◌, Option, Some, None, is_some, position}
use Rattle.std.specs.Option.{option_map}
use Rattle.program_model.specs.declared.pools.FieldName.{FieldName}
use Rattle.program_model.specs.declared.pools.MethodName.{MethodName}
use Rattle.program_model.specs.declared.program.Program.{Program}
use Rattle.domains.specs.Values.{Parts, any_value}
use Rattle.dom_frame.specs.Registers.{Registers, value_at}
use Rattle.facts.specs.declared.facts.Facts as number
use Rattle.closed_facts.specs.Tables.{registers_at, parameter_at, result_at}
use Rattle.closed_facts.specs.Edges.{value_by}
use Rattle.dalvik_defs.specs.Face.{bodies_of}
use Rattle.dalvik_defs.specs.Names.{field_eq, method_eq}
use Rattle.dalvik_defs.specs.Naming.{named, signature_at, text_at, type_at}
use Rattle.dalvik_defs.specs.declared.names.FieldKey.{FieldKey}
use Rattle.dalvik_defs.specs.declared.names.MethodKey.{MethodKey}
use Rattle.pass_defs.specs.Analysis.{Analysis}
use Rattle.pass_defs.specs.Facts.{Facts}
use Rattle.run_facts.specs.ValueAnalysis.{value_analysis}
use Rattle.cover_law.specs.Operators.{operators}

-- the name of an entry, and the number of a name
abbrev pub method_key_of : Program → MethodName → MethodKey
method_key_of p e = record { class = type_at p e.class; name = text_at p e.name; signature = signature_at p e.proto }

abbrev pub field_key_of : Program → FieldName → FieldKey
field_key_of p e = record { class = type_at p e.class; name = text_at p e.name; kind = type_at p e.kind }

abbrev pub method_number : Program → MethodKey → Option ℕ
method_number p k = position (λ e. method_eq (method_key_of p e) k) p.methods

abbrev pub field_number : Program → FieldKey → Option ℕ
field_number p k = position (λ e. field_eq (field_key_of p e) k) p.fields

-- registers as a function
abbrev pub values_of : Registers → ℕ → Parts
values_of x = λ r. value_at x r

-- a position with its registers, by names
abbrev pub by_names : ℕ × Registers → ℕ × (ℕ → Parts)
by_names q = (q.0, values_of q.1)

-- what a table says at a number, if there is one
abbrev pub registers_by : number.Facts → Option ℕ → ℕ → Option (ℕ → Parts)
registers_by t None n = None
registers_by t (Some m) n = option_map values_of (registers_at t m n)

abbrev pub parameter_by : number.Facts → Option ℕ → ℕ → Parts
parameter_by t None i = any_value
parameter_by t (Some m) i = parameter_at t m i

abbrev pub result_by : number.Facts → Option ℕ → Parts
result_by t None = any_value
result_by t (Some m) = result_at t m

-- a name of a method with code
abbrev pub is_coded : Program → MethodKey → Bool
is_coded p k = is_some (bodies_of (named p) k)

abbrev pub named_facts : Program → number.Facts → Facts Parts
named_facts p t = record {
  parameters = λ k i. if is_coded p k then parameter_by t (method_number p k) i else any_value;
  results = λ k. if is_coded p k then result_by t (method_number p k) else any_value;
  registers = λ k n. registers_by t (method_number p k) n;
  fields = λ k. value_by t (field_number p k);
}

-- the analysis of which the facts are
abbrev pub values : Program → Analysis Parts
values p = value_analysis (named p) operators
