-- What kept members keep live in small programs.
use Rattle.std.proofs.Common.{◌≡◌, ℕ, true, refl, arith}
use Rattle.std.specs.Prelude.{codes}
use Rattle.program_model.specs.declared.program.Version.{Version}
use Rattle.program_model.specs.declared.program.Version.TheVariants.{V035, V037}
use Rattle.dalvik_defs.specs.Names.{void}
use Rattle.dalvik_defs.specs.Examples.{b_type, c_type, i_type, m_key, keeps_m, r_key, constructor_key}
use Rattle.pass_defs.specs.Live.{Family, IsClosedFamily, IsLiveClass, IsLiveMethod, IsMade, unconditional}
use Rattle.pass_defs.specs.KeptExamples.{names_view, keeps_constructor, overrides_r, implements_r, keeps_r}

named_is_live : IsLiveClass names_view (keeps_m void) keeps_constructor b_type
named_is_live s h = h.types.bodies (m_key void) _ (h.kept.methods (m_key void) refl refl, refl) b_type (0, omega arith, refl) refl

pub constructed_is_made : IsMade names_view (keeps_m void) keeps_constructor b_type
constructed_is_made s h = h.made.constructed (constructor_key b_type) refl refl (named_is_live s h)

pub called_is_live : IsLiveMethod names_view (keeps_m void) keeps_constructor (r_key b_type)
called_is_live s h = h.called_back b_type (codes "r") void (constructed_is_made s h) refl _ (0, omega arith, refl) refl

pub override_is_live : IsLiveMethod overrides_r (keeps_r b_type c_type) unconditional (r_key c_type)
override_is_live s h = h.entered (r_key b_type) _ refl refl refl c_type (h.made.kept c_type refl refl) refl _ (0, omega arith, refl)

pub implemented_is_live : (v : Version) → IsLiveMethod (implements_r v) (keeps_r i_type b_type) unconditional (r_key b_type)
implemented_is_live V035 s h = h.entered (r_key i_type) _ refl refl refl b_type (h.made.kept b_type refl refl) refl _ (0, omega arith, refl)
implemented_is_live V037 s h = h.entered (r_key i_type) _ refl refl refl b_type (h.made.kept b_type refl refl) refl _ (0, omega arith, refl)
