-- Positions that go, without a goto that comes to lead to itself: such a one would be longer than it was.
use Rattle.std.specs.Prelude.{◌≡◌, ℕ, ◌<◌, List, Some, slice_get}
use Rattle.insn_set.specs.declared.form.Insn.TheVariants.{Goto}
use Rattle.program_model.specs.declared.body.Body.{Body}
use Rattle.pass_defs.specs.Thinned.{Fate, Stays, place}

-- between a goto that stays and its target before it some position is left
abbrev pub NoneCircles : List Fate → Body → Type 0
NoneCircles fates b = (n target : ℕ) → slice_get fates n ≡ Some Stays → slice_get b.insns n ≡ Some (Goto target) → target < n → place fates target < place fates n
