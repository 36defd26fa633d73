-- What goes up and down the stack: entries, results, thrown objects, and classes that are initialised (Dalvik bytecode,
-- "invoke-kind", "return", "throw"; Dalvik executable format, "try_item"; this project's profile).
use Rattle.std.specs.Prelude.{ℕ, ◌-◌, Bool, true, false, ◌&&◌, List, [], ◌∷◌, ◌++◌, length, replicate, Option, Some, None, find, slice_get, nat_eq, nat_le, nat_lt}
use Rattle.std.specs.Option.{option_map, option_and_then}
use Rattle.dalvik_defs.specs.Names.{Text, throwable_type, error_type}
use Rattle.dalvik_defs.specs.Known.{initialiser_error}
use Rattle.dalvik_defs.specs.Face.{Face, Bodies}
use Rattle.dalvik_defs.specs.State.{World, Classes, Status, New, Running, Done, Failed, Value, Word, Frame, Waiting, Method, Initialiser, Ending, Outside, State, On, Ended, Next, quiet, next_object, with_thing, fresh, kind_of, put_status}
use Rattle.dalvik_defs.specs.Effect.{next, go, write_item}
use Rattle.dalvik_defs.specs.Show.{show, show_option}
use Rattle.dalvik_defs.specs.declared.names.MethodKey.{MethodKey}
use Rattle.dalvik_defs.specs.declared.forms.Form.{Form}
use Rattle.dalvik_defs.specs.declared.forms.Form.TheVariants as form
use Rattle.dalvik_defs.specs.declared.script.Move.{Move}
use Rattle.dalvik_defs.specs.declared.events.Event.TheVariants as event
use Rattle.dalvik_defs.specs.declared.program.NamedRegion.{NamedRegion}
use Rattle.dalvik_defs.specs.declared.program.NamedBody.{NamedBody}

-- ---- entries

-- the registers at an entry: the arguments are last
abbrev pub entry_registers : NamedBody → List Value → List Value
entry_registers b values = replicate (b.registers - b.ins) (Word 0) ++ values

abbrev pub entry_frame : MethodKey → List Value → NamedBody → Frame
entry_frame k values b = record { method = k; position = 0; registers = entry_registers b values; result = Word 0; caught = Word 0 }

-- a body is entered with as many values as it takes
abbrev pub enters_body : Option NamedBody → World → Classes → MethodKey → List Value → List Waiting → List Move → State
enters_body (Some b) w classes k values stack script = elim (nat_eq (length values) b.ins) [
  | true ↦ On w classes (Method (entry_frame k values b) ∷ stack) script
  | false ↦ Ended
]
enters_body None w classes k values stack script = Ended

abbrev pub enters : Bodies → World → Classes → MethodKey → List Value → List Waiting → List Move → State
enters find w classes k values stack script = enters_body (find k) w classes k values stack script

-- ---- results

abbrev pub form_at : Bodies → Frame → Option Form
form_at find f = option_and_then (λ b. slice_get b.forms f.position) (find f.method)

-- A value comes back to the position that asked for it; where none comes, nothing is left of an earlier result.
abbrev pub receives : Option Form → Frame → Value → Frame
receives (Some (form.InstanceGet item to on field)) f v = next (write_item item f to v)
receives (Some (form.StaticGet item to field)) f v = next (write_item item f to v)
receives form f v = next (record f { result = v })

abbrev pub back : Bodies → Frame → Option Value → Frame
back find f (Some v) = receives (form_at find f) f v
back find f None = next (record f { result = Word 0 })

-- what a method gives to whatever waits for it; its result is of this type
abbrev pub gives : Bodies → Text → World → Classes → Option Value → List Waiting → List Move → Next
gives find kind w classes v [] script = quiet Ended
gives find kind w classes v (Method f ∷ rest) script = quiet (On w classes (Method (back find f v) ∷ rest) script)
gives find kind w classes v (Initialiser c above ∷ rest) script = quiet Ended
gives find kind w classes v (Ending c ∷ rest) script = quiet (On w classes (Ending c ∷ rest) script)
gives find kind w classes v (Outside owes pending ∷ rest) script =
    let s = show_option w kind v in (On s.0 classes (Outside owes pending ∷ rest) script, Some (event.Result s.1))

-- ---- thrown objects

abbrev pub covers : ℕ → NamedRegion → Bool
covers at r = nat_le r.first at && nat_lt at r.end

-- the first handler whose type is above the object's class, else the catch-all
abbrev pub handler_in : (Text → Bool) → NamedRegion → Option ℕ
handler_in above r = elim (find (λ h. above h.kind) r.handlers) [ Some h ↦ Some h.position | None ↦ r.rest ]

abbrev pub handler_at : (Text → Bool) → ℕ → NamedBody → Option ℕ
handler_at above at b = option_and_then (handler_in above) (find (covers at) b.regions)

-- the frame at the handler of a thrown object, where there is one
abbrev pub lands : Face → Bodies → World → Frame → Value → Option Frame
lands face find w f v = option_map (λ at. record (go f at) { caught = v }) (option_and_then (handler_at (face.under (kind_of w v)) f.position) (find f.method))

-- what leaves an initialiser: an object under Error, or else a new ExceptionInInitializerError
abbrev pub wrapped : Face → World → Value → World × Value
wrapped face w v = elim (face.under (kind_of w v) error_type) [ true ↦ (w, v) | false ↦ (with_thing w (fresh initialiser_error), next_object w) ]

-- the frame goes on at its handler, or else the other comes
abbrev pub lands_or : World → Classes → List Waiting → List Move → Option Frame → Next → Next
lands_or w classes rest script (Some g) otherwise = quiet (On w classes (Method g ∷ rest) script)
lands_or w classes rest script None otherwise = otherwise

-- Without a handler the object goes on to what waits below. At the framework it is uncaught, and a move that waits there
-- for a class is over.
abbrev pub unwinds : Face → Bodies → World → Classes → Value → List Waiting → List Move → Next
unwinds face find w classes v [] script = quiet Ended
unwinds face find w classes v (Method f ∷ rest) script = lands_or w classes rest script (lands face find w f v) (unwinds face find w classes v rest script)
unwinds face find w classes v (Initialiser c above ∷ rest) script = unwinds face find w (put_status c Failed classes) v rest script
unwinds face find w classes v (Ending c ∷ rest) script = unwinds face find (wrapped face w v).0 (put_status c Failed classes) (wrapped face w v).1 rest script
unwinds face find w classes v (Outside owes pending ∷ rest) script = let s = show w throwable_type v in
    (On s.0 classes (Outside owes None ∷ rest) script, Some (event.Uncaught s.1))

-- a new object of a class is thrown
abbrev pub throws_new : Face → Bodies → World → Classes → Text → List Waiting → List Move → Next
throws_new face find w classes c stack script = unwinds face find (with_thing w (fresh c)) classes (next_object w) stack script

-- ---- classes that are initialised

-- a class that is running or done is no hindrance
abbrev pub left_at : Status → List Text → List Text → List Text
left_at New here behind = here
left_at Running here behind = behind
left_at Done here behind = behind
left_at Failed here behind = here

-- the classes from the first on that is neither running nor done
abbrev pub left_of : Classes → List Text → List Text
left_of classes [] = []
left_of classes (c ∷ cs) = left_at (classes c) (c ∷ cs) (left_of classes cs)

-- a class whose turn has come: its initialiser is called
abbrev pub runs : Bodies → World → Classes → Text → Option MethodKey → List Waiting → List Move → State
runs find w classes c (Some k) stack script = enters find w classes k [] (Ending c ∷ stack) script
runs find w classes c None stack script = On w classes (Ending c ∷ stack) script

abbrev pub goes_on : Face → Bodies → World → Classes → Text → List Text → List Waiting → List Move → State
goes_on face find w classes c [] stack script = runs find w classes c (face.initialiser c) stack script
goes_on face find w classes c (d ∷ ds) stack script = On w classes (Initialiser c (d ∷ ds) ∷ stack) script

-- the start of a class: it is running, and those that come before it are looked at
abbrev pub starts : Face → Bodies → World → Classes → Text → List Waiting → List Move → State
starts face find w classes c stack script = let running = put_status c Running classes in
    goes_on face find w running c (left_of running (face.first c)) stack script

-- what waited for a class goes on
abbrev pub resumes : Face → Bodies → World → Classes → List Waiting → List Move → State
resumes face find w classes (Initialiser c above ∷ rest) script = goes_on face find w classes c (left_of classes above) rest script
resumes face find w classes stack script = On w classes stack script

-- the end of a class: it is done
abbrev pub ends : Face → Bodies → World → Classes → Text → List Waiting → List Move → State
ends face find w classes c rest script = resumes face find w (put_status c Done classes) rest script
