-- What a program of stubs declares.
use Rattle.std.specs.Prelude.{ℕ, not, Bool, List, [], ◌∷◌, ◌++◌, map, flat_map, Option, Some, None, Result, Ok, slice_get, cond}
use Rattle.dex_base.specs.Reading.{◌>>=◌}
use Rattle.dex_read.specs.File.{program_at}
use Rattle.dex_read.specs.declared.fault.DexFault.{DexFault}
use Rattle.program_model.specs.Texts.{string_text, type_text}
use Rattle.program_model.specs.MemberRules.{is_direct}
use Rattle.program_model.specs.declared.pools.MethodName.{MethodName}
use Rattle.program_model.specs.declared.program.Method.{Method}
use Rattle.program_model.specs.declared.program.Class.{Class}
use Rattle.program_model.specs.declared.program.Program.{Program}
use Rattle.stub_library.specs.declared.library.LibraryMethod.{LibraryMethod}
use Rattle.stub_library.specs.declared.library.LibraryClass.{LibraryClass}
use Rattle.stub_library.specs.declared.library.Library.{Library}

-- `(PARAMETERS)RESULT`, empty where there is no such proto
abbrev pub proto_text : Program → ℕ → List ℕ
proto_text p n = elim (slice_get p.protos n) [ Some q ↦ 40 ∷ (flat_map (type_text p) q.parameters ++ 41 ∷ type_text p q.result) | None ↦ [] ]

abbrev pub is_virtual : Program → Method → Bool
is_virtual p m = not (is_direct p m)

abbrev pub declared_method : Program → Option MethodName → LibraryMethod
declared_method p (Some q) = record { name = string_text p q.name; proto = proto_text p q.proto }
declared_method p None = record { name = []; proto = [] }

-- what is declared of the virtual methods among some
abbrev pub methods_of : Program → List Method → List LibraryMethod
methods_of p ms = flat_map (λ m. cond (is_virtual p m) (declared_method p (slice_get p.methods m.name) ∷ []) []) ms

abbrev pub class_of : Program → Class → LibraryClass
class_of p c = record { name = type_text p c.name; above = type_text p c.superclass ∷ map (type_text p) c.interfaces; methods = methods_of p c.methods }

abbrev pub library_of : Program → Library
library_of p = record { classes = map (class_of p) p.classes }

-- what the bytes of a file declare, or the fault for which they are refused as those of a program are
abbrev pub library_at : List ℕ → Result Library DexFault
library_at bytes = program_at bytes >>= λ p. Ok (library_of p)
