-- A program in which the framework enters a method that only its class seems to reach.
use Rattle.std.specs.Prelude.{[], ◌∷◌, codes, if◌then◌else◌}
use Rattle.program_model.specs.declared.program.Version.TheVariants.{V035}
use Rattle.dalvik_defs.specs.Names.{Text, void, method_eq, same_name}
use Rattle.dalvik_defs.specs.Find.{Found, found_in}
use Rattle.dalvik_defs.specs.Outer.{Outer}
use Rattle.dalvik_defs.specs.Examples.{a_type, b_type, class, program, keeps_nothing}
use Rattle.dalvik_defs.specs.declared.program.NamedClass.{NamedClass}
use Rattle.dalvik_defs.specs.declared.program.NamedProgram.{NamedProgram}
use Rattle.dalvik_defs.specs.declared.tables.Framework.{Framework}
use Rattle.pass_defs.specs.PassExamples.{nothing_key, nothing_method}

abbrev pub d_type : Text
d_type = codes "LD;"

abbrev pub a_class : NamedClass
a_class = class a_type 1 [] [] (nothing_method 1 ∷ [])

-- B under A has D in its interface list, which is none; A and D have a q
abbrev pub lists_plain : NamedProgram
lists_plain = program V035 (a_class ∷ record (class b_type 1 (d_type ∷ []) [] []) { superclass = a_type } ∷ class d_type 1 [] [] (nothing_method 1 ∷ []) ∷ [])

-- D's q is kept
abbrev pub keeps_q : Outer
keeps_q = record (keeps_nothing) { methods = method_eq (nothing_key d_type); keepers = λ n g. if same_name n g (codes "q") void then d_type ∷ [] else [] }

abbrev pub no_rows : Framework
no_rows = record { rows = [] }

abbrev pub found_q : Found
found_q = found_in a_class (nothing_method 1)
