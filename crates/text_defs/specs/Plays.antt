-- The play that a text spells, or the first line outside the grammar (this project's profile).
use Rattle.std.specs.Prelude.{◌≡◌, ◌⊎◌, ℕ, suc, ◌==◌, ◌&&◌, ◌||◌, Bool, not, List, [], ◌∷◌, ◌++◌, length, Option, Some, None, Result, Ok, Err, codes, option_map, option_and_then, if◌then◌else◌}
use Rattle.std.specs.List.{list_any}
use Rattle.dalvik_defs.specs.Names.{Text, text_eq}
use Rattle.dalvik_defs.specs.Known.{known_rows}
use Rattle.dalvik_defs.specs.declared.script.Move.{Move}
use Rattle.dalvik_defs.specs.declared.tables.FloatRow.{FloatRow}
use Rattle.dalvik_defs.specs.declared.tables.FrameworkType.{FrameworkType}
use Rattle.text_defs.specs.Words.{lines_of, words_of}
use Rattle.text_defs.specs.Rows.{framework_row, float_row}
use Rattle.text_defs.specs.Moves.{move_of}
use Rattle.text_defs.specs.declared.play.Play.{Play}
use Rattle.text_defs.specs.declared.play.ScriptLine.{ScriptLine}
use Rattle.text_defs.specs.declared.play.ScriptLine.TheVariants as line
use Rattle.text_defs.specs.declared.fault.ScriptFault.{ScriptFault}
use Rattle.text_defs.specs.declared.fault.ScriptFault.TheVariants as fault

-- what a line's words say
abbrev pub line_of : List (List ℕ) → Option ScriptLine
line_of [] = None
line_of (name ∷ words) = if text_eq name (codes "type") then option_map line.Framework (framework_row words)
    else if text_eq name (codes "float") then option_map line.Float (float_row words)
    else option_map line.Move (move_of name words)

abbrev pub no_play : Play
no_play = record { framework = record { rows = [] }; floats = record { rows = [] }; moves = [] }

-- rows precede all moves
abbrev pub takes_rows : Play → Bool
takes_rows play = length play.moves == 0

-- whether one of the rows is of this type
abbrev pub has_row : List FrameworkType → Text → Bool
has_row rows name = list_any (λ row. text_eq name row.name) rows

abbrev pub with_framework_row : Play → FrameworkType → Play
with_framework_row play row = record play { framework = record { rows = play.framework.rows ++ row ∷ [] } }

abbrev pub with_float_row : Play → FloatRow → Play
with_float_row play row = record play { floats = record { rows = play.floats.rows ++ row ∷ [] } }

abbrev pub with_move : Play → Move → Play
with_move play m = record play { moves = play.moves ++ m ∷ [] }

-- The play and one line more. A type that the machine knows has no row in a script, and every other has one at most.
abbrev pub with_said : Play → ScriptLine → Option Play
with_said play (line.Framework row) =
    if takes_rows play && not (has_row known_rows row.name || has_row play.framework.rows row.name)
    then Some (with_framework_row play row) else None
with_said play (line.Float row) = if takes_rows play then Some (with_float_row play row) else None
with_said play (line.Move m) = Some (with_move play m)

-- an empty line says nothing
abbrev pub with_line : Play → List ℕ → Option Play
with_line play [] = Some play
with_line play (c ∷ cs) = option_and_then (with_said play) (line_of (words_of (c ∷ cs)))

abbrev pub goes_on : ℕ → Option Play → (Play → Result Play ScriptFault) → Result Play ScriptFault
goes_on number None next = Err (fault.Line number)
goes_on number (Some play) next = next play

-- the play and these lines more, of which the first has this number
abbrev pub play_from : ℕ → Play → List (List ℕ) → Result Play ScriptFault
play_from number play [] = Ok play
play_from number play (line ∷ lines) = goes_on number (with_line play line) (λ next. play_from (suc number) next lines)

-- lines count from 1
abbrev pub play_of : List ℕ → Result Play ScriptFault
play_of text = play_from 1 no_play (lines_of text)

-- why a script is refused: want of memory, or the line that the text says
abbrev pub IsRefusal : List ℕ → ScriptFault → Type 0
IsRefusal text f = (f ≡ fault.NoMemory) ⊎ (play_of text ≡ Err f)
