-- Fates under which a body is without dead code and typed again.
use Rattle.std.specs.Prelude.{List}
use Rattle.dalvik_defs.specs.declared.program.NamedBody.{NamedBody}
use Rattle.dalvik_defs.specs.declared.program.NamedClass.{NamedClass}
use Rattle.dalvik_defs.specs.declared.program.NamedMethod.{NamedMethod}
use Rattle.dalvik_defs.specs.declared.program.NamedProgram.{NamedProgram}
use Rattle.pass_defs.specs.Thinned.{Fate, thinned}
use Rattle.pass_defs.specs.Typed.{Table, IsTyping}
use Rattle.thin_laws.specs.Cleaning.{IsCleaning}
use Rattle.thin_laws.specs.Thins.{Right}

abbrev pub KeepsTyping : NamedProgram → List Fate → NamedBody → Type 0
KeepsTyping p fs b = (c : NamedClass) (m : NamedMethod) (t : Table) → IsTyping p c m b t → (u : Table) × IsTyping p c m (thinned fs b) u

abbrev pub Cleans : NamedProgram → Right
Cleans p k fs b = IsCleaning p fs b × KeepsTyping p fs b
