-- The tables of a run, where they are made and where they are not.
use Rattle.std.proofs.Common.{◌≡◌, subst, sym}
use Rattle.std.specs.Prelude.{IfSome, IsSome, Option, Some, None, Vec}
use Rattle.std.specs.declared.alloc.Global.{Global}
use Rattle.program_model.specs.declared.program.Program.{Program}
use Rattle.dalvik_lookups.specs.Playing.{ArePlays}
use Rattle.dalvik_lookups.specs.Reached.{constructed_kinds, AreTypeMarks, IsOuter}
use Rattle.dalvik_lookups.specs.Tables.{IsRight}
use Rattle.dalvik_lookups.specs.declared.lookups.Lookups.{Lookups}
use Rattle.dalvik_lookups.specs.declared.plays.Play.{Play}
use Rattle.dalvik_numbers.specs.Rows.{IsTable}
use Rattle.dalvik_numbers.specs.declared.floats.FloatTable.{FloatTable}
use Rattle.dalvik_model.specs.Standing.{AreTablesOf, Subject}

-- what is said of a value that is there
pub there : {A : Type 0} (o : Option A) (P : A → Type 0) (x : A) → o ≡ Some x → IfSome o P → P x
there o P x e h = subst (λ q. IfSome q P) e h

pub not_there : {A B : Type 0} (o : Option A) → o ≡ None → IsSome o → B
not_there None e h = absurd (cc)
not_there (Some x) e h = absurd (cc)

pub tables_there : (s : Subject) (l : Lookups) (floats : FloatTable) (plays : Vec Play Global) → l.program.now ≡ s.program → l.framework.now ≡ s.framework → IsRight l → IsOuter s.program s.outside l.outer → AreTypeMarks s.program l.types s.outside.classes l.outer.classes.items
    → AreTypeMarks s.program l.types (constructed_kinds s.program s.outside.methods) l.outer.constructed.items
    → IsTable floats s.floats → ArePlays s.program l.types l.texts s.script plays.items → AreTablesOf s (record { lookups = l; floats = floats; plays = plays })
tables_there s l floats plays program framework right members classes constructed table each = record {
  program = program;
  framework = framework;
  right = right;
  reach = record {
    members = subst (λ (p : Program). IsOuter p s.outside l.outer) (sym program) members;
    classes = subst (λ (p : Program). AreTypeMarks p l.types s.outside.classes l.outer.classes.items) (sym program) classes;
    constructed = subst (λ (p : Program). AreTypeMarks p l.types (constructed_kinds p s.outside.methods) l.outer.constructed.items) (sym program) constructed;
  };
  floats = table;
  plays = subst (λ (p : Program). ArePlays p l.types l.texts s.script plays.items) (sym program) each;
}
