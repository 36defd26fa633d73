-- A region that never throws goes with its handler, which no walk reaches.
use Rattle.std.proofs.Common.{◌≡◌, true, [], ◌∷◌, refl}
use Rattle.program_model.specs.BodyRules.{insn_fits, body_fits}
use Rattle.program_model.specs.RegionRules.{regions_fit}
use Rattle.program_model.specs.OperandRules.{registers_fit, numbers_fit}
use Rattle.program_model.specs.declared.program.Program.{Program}
use Rattle.pass_defs.specs.Thinned.{Stays, Goes, body_thinned}
use Rattle.thin_laws.specs.Examples.{guarded}

pub fits_before : (p : Program) → body_fits p guarded ≡ true
unfolding body_fits insn_fits registers_fit numbers_fit regions_fit
fits_before p = refl

pub fits_still : (p : Program) → body_fits p (body_thinned (Stays ∷ Stays ∷ Goes ∷ Goes ∷ []) guarded) ≡ true
unfolding body_fits insn_fits registers_fit numbers_fit regions_fit
fits_still p = refl
