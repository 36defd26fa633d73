-- The types that a script may give no row any more.
use Rattle.std.specs.Prelude.{◌≡◌, ◌≢◌, ◌⊎◌, ℕ, ◌+◌, ◌<◌, ◌^◌, ◌||◌, Bool, List, [], Err, slice_index_or as get_or}
use Rattle.std.specs.List.{list_any}
use Rattle.std.specs.HashSet.{keys}
use Rattle.dalvik_defs.specs.Names.{text_eq}
use Rattle.dalvik_defs.specs.Known.{known_rows}
use Rattle.dalvik_defs.specs.declared.tables.FrameworkType.{FrameworkType}
use Rattle.text_defs.specs.Plays.{has_row, no_play, play_from}
use Rattle.text_defs.specs.declared.fault.ScriptFault.{ScriptFault}
use Rattle.text_defs.specs.declared.fault.ScriptFault.TheVariants as fault
use Rattle.script_text.specs.declared.names.TypeNames.{TypeNames}

-- whether the name is one of them
abbrev pub has_name : TypeNames → List ℕ → Bool
has_name names name = list_any (λ key. text_eq name key.items) (keys names.names)

-- the names are those of the machine's own rows and of these
pub record Knows (names : TypeNames) (rows : List FrameworkType) : Type 0 where
  pub says : (name : List ℕ) → has_name names name ≡ (has_row known_rows name || has_row rows name)

-- each line that isn't empty has a number of 32 bits
pub record HasNumbers (lines : List (List ℕ)) : Type 0 where
  pub below : (i : ℕ) → get_or lines i [] ≢ [] → i + 1 < 2 ^ 32

-- why lines are refused: want of memory, or the first line outside the grammar
abbrev pub IsRefusalOf : List (List ℕ) → ScriptFault → Type 0
IsRefusalOf lines f = (f ≡ fault.NoMemory) ⊎ (play_from 1 no_play lines ≡ Err f)
