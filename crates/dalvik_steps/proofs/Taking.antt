-- Whether a body takes the values that a method is entered with, by numbers and by names.
use Rattle.std.proofs.Common.{◌≡◌, ℕ, List, ◌∷◌, Bool, true, false, length, ap, refl}
use Rattle.std.specs.Prelude.{Option, Some, None, nat_eq}
use Rattle.std.specs.Option.{option_map}
use Rattle.std.proofs.lemmas.List.{length-map}
use Rattle.program_model.specs.declared.body.Body.{Body}
use Rattle.program_model.specs.declared.program.Program.{Program}
use Rattle.dalvik_defs.specs.Naming.{body_of}
use Rattle.dalvik_defs.specs.Stack.{enters_body, entry_frame}
use Rattle.dalvik_defs.specs.State.{Classes, Ended, On, State, World}
use Rattle.dalvik_defs.specs.declared.names.MethodKey.{MethodKey}
use Rattle.dalvik_defs.specs.declared.program.NamedBody.{NamedBody}
use Rattle.dalvik_defs.specs.declared.script.Move.{Move}
use Rattle.dalvik_defs.specs.declared.state.Value.{Value}
use Rattle.dalvik_defs.specs.declared.state.Waiting.{Waiting}
use Rattle.dalvik_defs.specs.declared.state.Waiting.TheVariants.{Method}
use Rattle.dalvik_state.specs.declared.datum.Datum.{Datum}
use Rattle.dalvik_state.specs.Views.{Names, value_of, values_of}
use Rattle.dalvik_steps.specs.Entries.{takes, takes_in}

pub counted : (n : Names) (values : List Datum) (ins : ℕ) → nat_eq (length (values_of n values)) ins ≡ nat_eq (length values) ins
counted n values ins = ap (λ (k : ℕ). nat_eq k ins) (length-map values (value_of n))

pub takes_named : (n : Names) (p : Program) (values : List Datum) (o : Option Body) → takes (option_map (body_of p) o) (values_of n values) ≡ takes_in o values
takes_named n p values None = refl
takes_named n p values (Some code) = counted n values code.ins

abbrev entry_by : NamedBody → World → Classes → MethodKey → List Value → List Waiting → List Move → Bool → State
entry_by body w classes k values stack script b = elim b as (λ b. State) [ true ↦ On w classes (Method (entry_frame k values body) ∷ stack) script | false ↦ Ended ]

-- a body that takes the values is entered
pub entered_by : (body : NamedBody) (w : World) (classes : Classes) (k : MethodKey) (values : List Value) (stack : List Waiting) (script : List Move) → takes (Some body) values ≡ true
    → enters_body (Some body) w classes k values stack script ≡ On w classes (Method (entry_frame k values body) ∷ stack) script
entered_by body w classes k values stack script e = ap (entry_by body w classes k values stack script) e

-- any other ends the run
pub not_entered : (o : Option NamedBody) (w : World) (classes : Classes) (k : MethodKey) (values : List Value) (stack : List Waiting) (script : List Move) → takes o values ≡ false → enters_body o w classes k values stack script ≡ Ended
not_entered None w classes k values stack script e = refl
not_entered (Some body) w classes k values stack script e = ap (entry_by body w classes k values stack script) e
