-- The product domain as an analysis of a program: its meaning by the place of an object's class, new objects by their class,
-- uses that refine nullness, casts that refine classes. What it makes of numbers and of tests is left to the code.
use Rattle.std.specs.Prelude.{ℕ, ℤ, pos, Bool, true, false, ◌&&◌, not, if◌then◌else◌, List, [], ◌∷◌, filter, position, slice_get, Option, Some, None}
use Rattle.std.specs.Option.{option_map}
use Rattle.insn_set.specs.declared.ops.Item.{Item}
use Rattle.insn_set.specs.declared.ops.Test.{Test}
use Rattle.insn_set.specs.declared.ops.Test.TheVariants as test
use Rattle.insn_set.specs.declared.ops.CmpOp.{CmpOp}
use Rattle.insn_set.specs.declared.ops.UnaryOp.{UnaryOp}
use Rattle.insn_set.specs.declared.ops.BinaryOp.{BinaryOp}
use Rattle.insn_set.specs.declared.ops.LiteralOp.{LiteralOp}
use Rattle.dalvik_defs.specs.Names.{Text, text_eq, object_type}
use Rattle.dalvik_defs.specs.Under.{defines, is_own_under}
use Rattle.dalvik_defs.specs.declared.state.Value.{Value}
use Rattle.dalvik_defs.specs.declared.state.Value.TheVariants as machine
use Rattle.dalvik_defs.specs.declared.program.NamedProgram.{NamedProgram}
use Rattle.domains.specs.declared.nulls.Nullness.{Nullness}
use Rattle.domains.specs.declared.nulls.Nullness.TheVariants.{Bottom, Null, NotNull, Any}
use Rattle.domains.specs.declared.numbers.Word.TheVariants as word
use Rattle.domains.specs.Datum.{Datum, Plain, Single, Double, Object, Within}
use Rattle.domains.specs.Ranges.{words_between}
use Rattle.domains.specs.Values.{Parts, value_holds, any_value, constant_value, wide_value, objects_value}
use Rattle.domains.specs.Reducing.{reduced}
use Rattle.pass_defs.specs.Analysis.{Analysis}

-- the place of a class among those of the program
abbrev pub class_place : NamedProgram → Text → Option ℕ
class_place p t = position (λ c. text_eq c.name t) p.classes

-- what a register's value is as a datum, with the type of its object
abbrev pub datum_of : NamedProgram → Text → Value → Datum
datum_of p k (machine.Word n) = Plain (Single n)
datum_of p k (machine.Low n) = Plain (Double n)
datum_of p k (machine.High n) = Plain (Double n)
datum_of p k (machine.Object n) = Object (class_place p k)
datum_of p k (machine.Literal t) = Object None
datum_of p k (machine.Class t) = Object None

abbrev pub any_object : Parts
any_object = objects_value None

abbrev pub of_class : Option ℕ → Parts
of_class (Some c) = objects_value (Some (c ∷ []))
of_class None = any_object

abbrev pub known_value : Value → Parts
known_value (machine.Word n) = constant_value n
known_value (machine.Low n) = wide_value n
known_value (machine.High n) = wide_value n
known_value v = any_object

abbrev pub words_in : ℤ → ℤ → Parts
words_in low high = reduced (record { word = word.Any; interval = words_between low high; nullness = Any; classes = Some [] })

abbrev pub any_number : Parts
any_number = record any_value { classes = Some [] }

-- what isn't the word 0, or is
abbrev pub without_null : Nullness → Nullness
without_null Bottom = Bottom
without_null Null = Bottom
without_null NotNull = NotNull
without_null Any = NotNull

abbrev pub with_null : Nullness → Nullness
with_null Bottom = Bottom
with_null Null = Null
with_null NotNull = Bottom
with_null Any = Null

abbrev pub held_value : Parts → Parts
held_value x = reduced (record x { nullness = without_null x.nullness })

abbrev pub null_value : Parts → Parts
null_value x = reduced (record x { nullness = with_null x.nullness })

abbrev pub goes_on : Parts → Option Parts
goes_on x = elim x.nullness [ Bottom ↦ None | Null ↦ Some x | NotNull ↦ Some x | Any ↦ Some x ]

-- the classes of a set that stand under a class of the program
abbrev pub under_class : NamedProgram → Text → ℕ → Bool
under_class p t n = elim (slice_get p.classes n) [ Some c ↦ is_own_under p c.name t | None ↦ false ]

abbrev pub cast_value : NamedProgram → Text → Parts → Parts
cast_value p t x = if defines p t && not (text_eq t object_type) then reduced (record x { classes = option_map (filter (under_class p t)) x.classes }) else x

-- a test against null
abbrev pub tested_null : Bool → Parts → Parts → Option (Parts × Parts)
tested_null true x y = option_map (λ v. (v, y)) (goes_on (null_value x))
tested_null false x y = option_map (λ v. (v, y)) (goes_on (held_value x))

abbrev pub is_only_null : Parts → Bool
is_only_null x = elim x.nullness [ Bottom ↦ false | Null ↦ true | NotNull ↦ false | Any ↦ false ]

-- what a test against null says, and nothing of another
abbrev pub tested_values : Bool → Test → Parts → Parts → Option (Parts × Parts)
tested_values b test.Eq x y = if is_only_null y then tested_null b x y else Some (x, y)
tested_values b test.Ne x y = if is_only_null y then tested_null (not b) x y else Some (x, y)
tested_values b t x y = Some (x, y)

-- what the code makes of numbers, and of the operands of tests and switches
pub record Numbers : Type 0 where
  pub unary : UnaryOp → Parts → Parts
  pub binary : BinaryOp → Parts → Parts → Option Parts
  pub literal : LiteralOp → Parts → ℤ → Option Parts
  pub compared : CmpOp → Parts → Parts → Parts
  pub stored : Item → Parts → Parts
  pub tested : Bool → Test → Parts → Parts → Option (Parts × Parts)
  pub keyed : ℤ → Parts → Option Parts
  pub unkeyed : List ℤ → Parts → Option Parts

abbrev pub value_analysis : NamedProgram → Numbers → Analysis Parts
value_analysis p n = record {
  holds = λ x k v. value_holds x (datum_of p k v);
  below = Within value_holds;
  any = any_value;
  known = known_value;
  made = λ t. of_class (class_place p t);
  length = words_in (pos 0) (pos 2147483647);
  truth = words_in (pos 0) (pos 1);
  item = λ i. any_value;
  outer = λ t. any_value;
  caught = any_object;
  unary = n.unary;
  binary = n.binary;
  literal = n.literal;
  compared = n.compared;
  stored = n.stored;
  held = λ x. goes_on (held_value x);
  cast = λ t x. Some (cast_value p t x);
  tested = n.tested;
  keyed = n.keyed;
  unkeyed = n.unkeyed;
}
