-- A library of stubs as the definition of shut methods sees it.
use Rattle.std.specs.Prelude.{length}
use Rattle.dalvik_defs.specs.Names.{proto_text}
use Rattle.dalvik_defs.specs.Shut as shut
use Rattle.stub_library.specs.Shut.{declares, above_of, declares_method}
use Rattle.stub_library.specs.declared.library.Library.{Library}

-- the types that it declares, those directly above each, and what it declares of each: a proto is told by its text
abbrev pub library_of : Library → shut.Library
library_of l = record { declares = declares l; above = above_of l; has = λ t n q. declares_method l t n (proto_text q); size = length l.classes }
