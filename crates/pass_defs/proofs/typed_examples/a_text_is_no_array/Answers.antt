use Rattle.std.proofs.Common.{[], ◌∷◌, Some, refl}
use Rattle.std.specs.Prelude.{codes}
use Rattle.insn_set.specs.declared.ops.Item.TheVariants as item
use Rattle.dalvik_defs.specs.Names.{void}
use Rattle.dalvik_defs.specs.Examples.{b_type, with_m}
use Rattle.dalvik_defs.specs.declared.encoded.NamedValue.TheVariants as value
use Rattle.dalvik_defs.specs.declared.forms.Form.TheVariants as form
use Rattle.pass_defs.specs.TypedExamples.{with_code, m_with, b_with, reads_s, s_of}
use Rattle.pass_defs.proofs.FirstValues.{first_text, first_type, ill_first}
use Rattle.pass_defs.proofs.typed_examples.a_text_is_no_array.Goals as goal

pub returns-clause-array : goal.returns-clause-array
returns-clause-array c = ill_first
    (with_code void (reads_s (codes "[I")) (b_with (codes "[I") (Some (value.Str (codes "t"))) ∷ [])) (with_m void (reads_s (codes "[I"))) (m_with void (reads_s (codes "[I"))) (reads_s (codes "[I"))
    (form.StaticGet item.Object 0 (s_of (codes "[I"))) refl (λ a. first_text (codes "t"))

pub returns-clause-class : goal.returns-clause-class
returns-clause-class c = ill_first
    (with_code void (reads_s b_type) (b_with b_type (Some (value.Class b_type)) ∷ [])) (with_m void (reads_s b_type)) (m_with void (reads_s b_type)) (reads_s b_type)
    (form.StaticGet item.Object 0 (s_of b_type)) refl (λ a. first_type b_type)
