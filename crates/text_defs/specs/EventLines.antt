-- The lines of events (this project's profile).
use Rattle.std.specs.Prelude.{ℕ, List, [], ◌∷◌, ◌++◌, Option, Some, None, codes}
use Rattle.std.specs.Fmt.{decimal}
use Rattle.std.specs.List.{flat_map}
use Rattle.insn_set.specs.declared.ops.InvokeKind.{InvokeKind}
use Rattle.insn_set.specs.declared.ops.InvokeKind.TheVariants.{Virtual, Super, Direct, Static, Interface}
use Rattle.dalvik_defs.specs.Names.{Text}
use Rattle.dalvik_defs.specs.declared.events.Shown.{Shown}
use Rattle.dalvik_defs.specs.declared.events.Shown.TheVariants as shown
use Rattle.dalvik_defs.specs.declared.events.Event.{Event}
use Rattle.dalvik_defs.specs.declared.events.Event.TheVariants as event
use Rattle.text_defs.specs.Digits.{hex}
use Rattle.text_defs.specs.Escapes.{escaped}

-- a value; 35 is `#`, and an object has its type where it is printed for the first time
abbrev pub shown_text : Shown → List ℕ
shown_text shown.Null = codes "null"
shown_text (shown.Word n) = codes "w" ++ hex 8 n
shown_text (shown.Wide n) = codes "l" ++ hex 16 n
shown_text (shown.First number kind) = codes "#" ++ decimal number ++ codes "=" ++ escaped kind
shown_text (shown.Again number) = codes "#" ++ decimal number
shown_text (shown.Literal text) = codes "text:" ++ escaped text
shown_text (shown.Class kind) = codes "class:" ++ escaped kind

-- a space and a word
abbrev pub and_word : List ℕ → List ℕ
and_word word = codes " " ++ word

abbrev pub and_value : Shown → List ℕ
and_value value = and_word (shown_text value)

abbrev pub and_perhaps : Option Shown → List ℕ
and_perhaps None = []
and_perhaps (Some value) = and_value value

-- three names
abbrev pub and_member : Text → Text → Text → List ℕ
and_member class name kind = and_word (escaped class) ++ and_word (escaped name) ++ and_word (escaped kind)

abbrev pub kind_name : InvokeKind → List ℕ
kind_name Virtual = codes "virtual"
kind_name Super = codes "super"
kind_name Direct = codes "direct"
kind_name Static = codes "static"
kind_name Interface = codes "interface"

-- the words of an event
abbrev pub event_text : Event → List ℕ
event_text (event.Call kind class name proto values) = codes "call " ++ kind_name kind ++ and_member class name proto ++ flat_map and_value values
event_text (event.Make value) = codes "make" ++ and_value value
event_text (event.Get class name kind on) = codes "get" ++ and_member class name kind ++ and_perhaps on
event_text (event.Put class name kind on value) = codes "put" ++ and_member class name kind ++ and_perhaps on ++ and_value value
event_text (event.Lock value) = codes "lock" ++ and_value value
event_text (event.Unlock value) = codes "unlock" ++ and_value value
event_text (event.Result value) = codes "result" ++ and_perhaps value
event_text (event.Uncaught value) = codes "uncaught" ++ and_value value
event_text (event.Answer value) = codes "answer" ++ and_value value

-- each event has a line
abbrev pub event_line : Event → List ℕ
event_line e = event_text e ++ codes "\n"

abbrev pub event_lines : List Event → List ℕ
event_lines events = flat_map event_line events
