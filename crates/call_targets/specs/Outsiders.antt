-- What tables say of what the framework may name.
use Rattle.std.specs.Prelude.{◌≡◌, ◌<◌, ℕ, length}
use Rattle.program_model.specs.declared.pass.Outside.{Outside}
use Rattle.program_model.specs.declared.program.Program.{Program}
use Rattle.call_targets.specs.Targeted.{is_on, keeps_class, keeps_method, is_shut}
use Rattle.call_targets.specs.declared.kept.Kept.{Kept}

-- the marks are those of the outside, as far as there are numbers
pub record AreKept (p : Program) (o : Outside) (k : Kept) : Type 0 where
  pub classes : (n : ℕ) → n < length p.types → is_on k.classes.items n ≡ keeps_class o n
  pub methods : (n : ℕ) → n < length p.methods → is_on k.methods.items n ≡ keeps_method o n
  pub shut : (n : ℕ) → n < length p.methods → is_on k.shut.items n ≡ is_shut o n
