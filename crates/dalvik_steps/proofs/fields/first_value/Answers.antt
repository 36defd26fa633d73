use Rattle.std.proofs.Common.{arith, ap, refl, subst, sym, ◌∙◌}
use Rattle.std.proofs.lemmas.Int.{ints}
use Rattle.std.specs.Int.{w32, w64, cast_unsigned}
use Rattle.dalvik_state.specs.Views.{names_in, value_of, IsFine}
use Rattle.dalvik_steps.proofs.Firsts.{class_fine, class_named, first_bool, first_byte, first_char, first_class, first_double, first_float, first_int, first_long, first_other, first_short, first_str, there_class, there_str}
use Rattle.dalvik_steps.proofs.fields.first_value.Goals as goal

pub returns-in-Byte-clause-named : goal.returns-in-Byte-clause-named
returns-in-Byte-clause-named c = λ r h. first_byte c.args.tables.now.lookups.program.now c.args.value.now c.in-Byte.number c.byte_word.result c.in-Byte.is c.byte_word.ensures

pub returns-in-Short-clause-named : goal.returns-in-Short-clause-named
returns-in-Short-clause-named c = λ r h. first_short c.args.tables.now.lookups.program.now c.args.value.now c.in-Short.number c.short_word.result c.in-Short.is c.short_word.ensures

pub returns-in-Char-clause-named : goal.returns-in-Char-clause-named
returns-in-Char-clause-named c = λ r h. first_char c.args.tables.now.lookups.program.now c.args.value.now c.in-Char.number c.from.result c.in-Char.is c.from.ensures

pub returns-in-Int-clause-named : goal.returns-in-Int-clause-named
returns-in-Int-clause-named c = λ r h. first_int c.args.tables.now.lookups.program.now c.args.value.now c.in-Int.number c.cast_unsigned.result c.in-Int.is (grind (arith, ints))

pub returns-in-Long-clause-named : goal.returns-in-Long-clause-named
returns-in-Long-clause-named c = λ r h. first_long c.args.tables.now.lookups.program.now c.args.value.now c.in-Long.number c.cast_unsigned-in-Long.result c.in-Long.is (grind (arith, ints))

pub returns-in-Float-clause-named : goal.returns-in-Float-clause-named
returns-in-Float-clause-named c = λ r h. first_float c.args.tables.now.lookups.program.now c.args.value.now c.in-Float.bits c.in-Float.bits c.in-Float.is refl

pub returns-in-Double-clause-named : goal.returns-in-Double-clause-named
returns-in-Double-clause-named c = λ r h. first_double c.args.tables.now.lookups.program.now c.args.value.now c.in-Double.bits c.in-Double.bits c.in-Double.is refl

pub returns-in-Str-clause-named : goal.returns-in-Str-clause-named
returns-in-Str-clause-named c = λ r h. first_str c.args.tables.now.lookups.program.now c.args.value.now c.in-Str.string (value_of (names_in c.args.tables.now.lookups) c.text_value.result) c.in-Str.is (c.text_value.ensures.named r (there_str c.args.tables.now.lookups.program.now c.args.value.now c.in-Str.string c.in-Str.is h))

pub returns-in-Str-clause-fine : goal.returns-in-Str-clause-fine
returns-in-Str-clause-fine c = λ size r h. c.text_value.ensures.fine size r (there_str c.args.tables.now.lookups.program.now c.args.value.now c.in-Str.string c.in-Str.is h)

pub returns-in-Class-clause-named : goal.returns-in-Class-clause-named
returns-in-Class-clause-named c = λ r h. first_class c.args.tables.now.lookups.program.now c.args.value.now c.in-Class.kind (value_of (names_in c.args.tables.now.lookups) c.class_constant.result) c.in-Class.is (ap (value_of (names_in c.args.tables.now.lookups)) c.class_constant.ensures ∙ class_named c.args.tables.now.lookups r c.in-Class.kind (there_class c.args.tables.now.lookups.program.now c.args.value.now c.in-Class.kind c.in-Class.is h))

pub returns-in-Class-clause-fine : goal.returns-in-Class-clause-fine
returns-in-Class-clause-fine c = λ size r h. subst (IsFine (names_in c.args.tables.now.lookups) size) (sym c.class_constant.ensures) (class_fine c.args.tables.now.lookups r c.in-Class.kind (there_class c.args.tables.now.lookups.program.now c.args.value.now c.in-Class.kind c.in-Class.is h) size)

pub returns-in-Bool-clause-named : goal.returns-in-Bool-clause-named
returns-in-Bool-clause-named c = λ r h. first_bool (names_in c.args.tables.now.lookups) c.args.tables.now.lookups.program.now c.args.value.now c.in-Bool.holds c.truth.result c.in-Bool.is c.truth.ensures

pub returns-in_default-clause-named : goal.returns-in_default-clause-named
returns-in_default-clause-named c = λ r h. let n = c.in_default in first_other c.args.tables.now.lookups.program.now c.args.value.now n.not-Byte n.not-Short n.not-Char n.not-Int n.not-Long n.not-Float n.not-Double n.not-Str n.not-Class n.not-Bool
