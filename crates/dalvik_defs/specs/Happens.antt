-- What an outcome does to the stack, and a class that is being initialised (this project's profile).
use Rattle.std.specs.Prelude.{List, [], ◌∷◌, Option, Some, None}
use Rattle.dalvik_defs.specs.Names.{Text}
use Rattle.dalvik_defs.specs.Known.{no_class}
use Rattle.dalvik_defs.specs.Face.{Face, Bodies}
use Rattle.dalvik_defs.specs.Outer.{Outer}
use Rattle.dalvik_defs.specs.State.{World, Classes, Status, New, Running, Done, Failed, Frame, Waiting, Method, Initialiser, Outside, On, Ended, Next, quiet}
use Rattle.dalvik_defs.specs.Effect.{Effect, Stuck}
use Rattle.dalvik_defs.specs.Act.{act}
use Rattle.dalvik_defs.specs.Outcome.{Outcome, Stays, Starts, Enters, Leaves, Ends, Raises, Halts, Need, outcome}
use Rattle.dalvik_defs.specs.Stack.{enters, form_at, gives, unwinds, throws_new, left_of, goes_on, starts}
use Rattle.dalvik_defs.specs.declared.forms.Form.{Form}
use Rattle.dalvik_defs.specs.declared.script.Move.{Move}
use Rattle.dalvik_defs.specs.declared.tables.Floats.{Floats}

-- all that a run depends on beside the bodies: what the program answers, what the framework may reach, and floats
pub record Setting : Type 0 where
  pub face : Face
  pub outer : Outer
  pub floats : Floats

-- what the form at the frame's position does
abbrev pub effect_of : Setting → Option Form → World → Frame → Effect
effect_of s (Some form) w f = act s.face.under s.floats form w f
effect_of s None w f = Stuck

-- what comes of it, where classes are needed as `need` says
abbrev pub outcome_at : Setting → Bodies → (Text → Need) → World → Frame → Outcome
outcome_at s find need w f = outcome s.face need (effect_of s (form_at find f) w f) w f

abbrev pub happens : Setting → Bodies → Outcome → World → Classes → Frame → List Waiting → List Move → Next
happens s find (Stays w' f' shown) w classes f rest script = (On w' classes (Method f' ∷ rest) script, shown)
happens s find (Starts c) w classes f rest script = quiet (starts s.face find w classes c (Method f ∷ rest) script)
happens s find (Enters k values) w classes f rest script = quiet (enters find w classes k values (Method f ∷ rest) script)
happens s find (Leaves w' owes shown) w classes f rest script = (On w' classes (Outside (Some owes) None ∷ Method f ∷ rest) script, Some shown)
happens s find (Ends v) w classes f rest script = gives find f.method.signature.result w classes v rest script
happens s find (Raises w' v) w classes f rest script = unwinds s.face find w' classes v (Method f ∷ rest) script
happens s find Halts w classes f rest script = quiet Ended

-- a class with those that come before it: the first of these is started, and a failed one fails it too
abbrev pub first_needed : Setting → Bodies → World → Classes → Text → Text → List Text → Status → List Waiting → List Move → Next
first_needed s find w classes c d ds New rest script = quiet (starts s.face find w classes d (Initialiser c (d ∷ ds) ∷ rest) script)
first_needed s find w classes c d ds Failed rest script = throws_new s.face find w classes no_class (Initialiser c (d ∷ ds) ∷ rest) script
first_needed s find w classes c d ds Running rest script = quiet (goes_on s.face find w classes c (left_of classes ds) rest script)
first_needed s find w classes c d ds Done rest script = quiet (goes_on s.face find w classes c (left_of classes ds) rest script)

abbrev pub initialises : Setting → Bodies → World → Classes → Text → List Text → List Waiting → List Move → Next
initialises s find w classes c [] rest script = quiet (goes_on s.face find w classes c [] rest script)
initialises s find w classes c (d ∷ ds) rest script = first_needed s find w classes c d ds (classes d) rest script
