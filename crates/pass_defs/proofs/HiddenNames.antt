-- A call that names a private method doesn't let the public one above it be made static.
use Rattle.std.proofs.Common.{true, true≢false, [], ◌∷◌, refl, sym}
use Rattle.insn_set.specs.declared.ops.InvokeKind.TheVariants as call
use Rattle.dalvik_defs.specs.Names.{void}
use Rattle.dalvik_defs.specs.Examples.{a_type, b_type, m_key}
use Rattle.pass_defs.specs.Loose.{KnowsCalls}
use Rattle.pass_defs.specs.PassExamples.{hides_q, nothing_key, calls_hidden}

pub not_known : KnowsCalls hides_q (λ k. true) (λ k n r. Unit {0}) (nothing_key a_type) → ⊥
not_known h = true≢false (sym (h.calls (m_key void) calls_hidden 2 call.Virtual (nothing_key b_type) (0 ∷ []) refl refl refl).0)
