-- A class whose static field is read is live, and its conditional field.
use Rattle.std.proofs.Common.{refl, arith}
use Rattle.dalvik_defs.specs.Names.{void}
use Rattle.dalvik_defs.specs.Examples.{b_type, m_key, keeps_m}
use Rattle.pass_defs.specs.Live.{IsLiveClass, IsLiveField}
use Rattle.pass_defs.specs.Examples.{names_b, keeps_x, x_of}

pub b_is_live : IsLiveClass names_b (keeps_m void) keeps_x b_type
b_is_live s h = h.types.bodies (m_key void) _ (h.kept.methods (m_key void) refl refl, refl) b_type (0, omega arith, refl) refl

pub x_is_live : IsLiveField names_b (keeps_m void) keeps_x (x_of b_type)
x_is_live s h = h.kept.fields (x_of b_type) refl (b_is_live s h)
