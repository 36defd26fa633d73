-- The methods that every object answers to, by the units of the name.
use Rattle.std.specs.Prelude.{Bool, ◌&&◌, ◌||◌, List, ℕ, [], ◌∷◌, Option, codes}
use Rattle.program_model.specs.declared.pools.Proto.{Proto}
use Rattle.program_model.specs.declared.program.Program.{Program}
use Rattle.class_defs.specs.Members.{proto_is}
use Rattle.call_graph.specs.Bases.{same_text, object_text}

abbrev pub common_of : Program → List ℕ → Option Proto → Bool
common_of p units o = same_text units (codes "equals") && proto_is p (object_text ∷ []) (codes "Z") o
    || same_text units (codes "hashCode") && proto_is p [] (codes "I") o
    || same_text units (codes "toString") && proto_is p [] (codes "Ljava/lang/String;") o
    || same_text units (codes "clone") && proto_is p [] object_text o
    || same_text units (codes "finalize") && proto_is p [] (codes "V") o
