-- Where an instruction makes an array, it names the type of one, at each state of a run. Typed code does so; that a body
-- is well-formed doesn't say it.
use Rattle.std.specs.Prelude.{ℕ, ◌≡◌, ◌<◌, true, [], ◌∷◌, Option, Some, None}
use Rattle.dalvik_defs.specs.Face.{Bodies}
use Rattle.dalvik_defs.specs.Happens.{Setting}
use Rattle.dalvik_defs.specs.Names.{is_array}
use Rattle.dalvik_defs.specs.Stack.{form_at}
use Rattle.dalvik_defs.specs.State.{State, On, Ended}
use Rattle.dalvik_defs.specs.Step.{after}
use Rattle.dalvik_defs.specs.declared.state.Waiting.TheVariants.{Method, Initialiser, Ending, Outside}
use Rattle.dalvik_defs.specs.declared.forms.Form.{Form}
use Rattle.dalvik_defs.specs.declared.forms.Form.TheVariants as form

abbrev pub NamesArrayOf : Form → Type 0
NamesArrayOf (form.NewArray to size kind) = is_array kind ≡ true
NamesArrayOf (form.FilledNewArray kind args) = is_array kind ≡ true
NamesArrayOf x = Unit {0}

abbrev pub NamesMaybe : Option Form → Type 0
NamesMaybe None = Unit {0}
NamesMaybe (Some x) = NamesArrayOf x

-- of the instruction that comes next
abbrev pub MakesArray : Bodies → State → Type 0
MakesArray find Ended = Unit {0}
MakesArray find (On w classes [] script) = Unit {0}
MakesArray find (On w classes (Method f ∷ rest) script) = NamesMaybe (form_at find f)
MakesArray find (On w classes (Initialiser c above ∷ rest) script) = Unit {0}
MakesArray find (On w classes (Ending c ∷ rest) script) = Unit {0}
MakesArray find (On w classes (Outside owes pending ∷ rest) script) = Unit {0}

-- at each of the next n steps
pub record MakesArrays (s : Setting) (find : Bodies) (t : State) (n : ℕ) : Type 0 where
  pub at : (k : ℕ) → k < n → MakesArray find (after s find t k)
