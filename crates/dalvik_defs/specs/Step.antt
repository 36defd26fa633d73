-- One step, and what is shown (this project's profile). A step is one instruction, one move of the framework, or one
-- start or end of a class.
use Rattle.std.specs.Prelude.{ℕ, zero, suc, List, [], ◌∷◌, ◌++◌, Option, Some, None}
use Rattle.dalvik_defs.specs.Face.{Bodies, face_of, bodies_of}
use Rattle.dalvik_defs.specs.Outer.{Outer}
use Rattle.dalvik_defs.specs.State.{Method, Initialiser, Ending, Outside, State, On, Ended, Next, quiet, opening}
use Rattle.dalvik_defs.specs.Outcome.{need_of}
use Rattle.dalvik_defs.specs.Stack.{ends}
use Rattle.dalvik_defs.specs.Happens.{Setting, outcome_at, happens, initialises}
use Rattle.dalvik_defs.specs.Moves.{framework_turn}
use Rattle.dalvik_defs.specs.declared.script.Move.{Move}
use Rattle.dalvik_defs.specs.declared.events.Event.{Event}
use Rattle.dalvik_defs.specs.declared.program.NamedProgram.{NamedProgram}
use Rattle.dalvik_defs.specs.declared.tables.Framework.{Framework}
use Rattle.dalvik_defs.specs.declared.tables.Floats.{Floats}

-- a state without a step ends the run, and a run that has ended stays as it is
abbrev pub step : Setting → Bodies → State → Next
step s find Ended = quiet Ended
step s find (On w classes [] script) = quiet Ended
step s find (On w classes (Method f ∷ rest) script) = happens s find (outcome_at s find (need_of s.face classes) w f) w classes f rest script
step s find (On w classes (Initialiser c above ∷ rest) script) = initialises s find w classes c above rest script
step s find (On w classes (Ending c ∷ rest) script) = quiet (ends s.face find w classes c rest script)
step s find (On w classes (Outside owes pending ∷ rest) script) = framework_turn s find w classes owes pending rest script

abbrev pub events_of : Option Event → List Event
events_of None = []
events_of (Some e) = e ∷ []

-- the state after n steps, and the events of n steps
abbrev pub after : Setting → Bodies → State → ℕ → State
after s find t zero = t
after s find t (suc n) = after s find (step s find t).0 n

abbrev pub shows_from : Setting → Bodies → State → ℕ → List Event
shows_from s find t zero = []
shows_from s find t (suc n) = let r = step s find t in events_of r.1 ++ shows_from s find r.0 n

abbrev pub setting_of : NamedProgram → Outer → Framework → Floats → Setting
setting_of p o f a = record { face = face_of p f; outer = o; floats = a }

-- the events of n steps of a program, from the opening state
abbrev pub shows : NamedProgram → Outer → Framework → Floats → List Move → ℕ → List Event
shows p o f a script n = shows_from (setting_of p o f a) (bodies_of p) (opening script) n
