-- Parts of the examples of `examples.rt`.
use Rattle.std.specs.Prelude.{false, List, [], ◌∷◌, codes}
use Rattle.dalvik_defs.specs.declared.script.Given.{Given}
use Rattle.dalvik_defs.specs.declared.script.Move.{Move}
use Rattle.dalvik_defs.specs.declared.script.Move.TheVariants as move
use Rattle.dalvik_defs.specs.declared.tables.FloatOp.TheVariants.{NegFloat}
use Rattle.dalvik_defs.specs.declared.tables.FloatRow.{FloatRow}
use Rattle.dalvik_defs.specs.declared.tables.FrameworkType.{FrameworkType}
use Rattle.text_defs.specs.Plays.{no_play}
use Rattle.text_defs.specs.declared.play.Play.{Play}

-- enters `m` of `LA;`, which takes and gives an int, and then makes these moves
abbrev pub enters_m : List Given → List Move → Play
enters_m values moves = record no_play { moves = move.Enter (codes "LA;") (codes "m") (codes "(I)I") values ∷ moves }

-- `LV;` under `LW;` and `LI;`
abbrev pub view_row : FrameworkType
view_row = record { name = codes "LV;"; interface = false; superclass = codes "LW;"; interfaces = codes "LI;" ∷ [] }

-- 1.0 negated is -1.0
abbrev pub negated_row : FloatRow
negated_row = record { op = NegFloat; a = 1065353216; b = 0; result = 3212836864 }
