-- What the verifier's kinds by numbers are by names.
use Rattle.std.specs.Prelude.{ℕ, zero, suc, List, map, Option, Some, None, slice_get, if◌then◌else◌}
use Rattle.std.specs.Option.{option_map}
use Rattle.dalvik_defs.specs.Names.{Text, object_type, base_of}
use Rattle.dalvik_defs.specs.Naming.{type_at, named}
use Rattle.program_model.specs.declared.program.Class.{Class}
use Rattle.program_model.specs.declared.program.Program.{Program}
use Rattle.pass_defs.specs.Kinds as name
use Rattle.pass_defs.specs.Registers as name_registers
use Rattle.verify.specs.declared.kinds.Kind.{Kind}
use Rattle.verify.specs.declared.kinds.Kind.TheVariants.{Undefined, Word, Zero, WideLow, WideHigh, Fresh, FreshThis, Null, Program as ClassAt, Array, Reference}
use Rattle.verify.specs.Kinds.{is_initialised}
use Rattle.verify.specs.Frames.{Kinds}
use Rattle.verify.specs.Typings.{Table}

-- the items of arrays without their brackets, by a type that has the same; no type stands for objects
abbrev pub item_text : Program → Option ℕ → Text
item_text p None = object_type
item_text p (Some k) = base_of (type_at p k)

-- what is no class and no array is null alone
abbrev pub class_kind : Program → Option Class → name.Kind
class_kind p None = name.Null
class_kind p (Some c) = name.Class (type_at p c.name)

abbrev pub array_kind : Program → ℕ → Option ℕ → name.Kind
array_kind p zero i = name.Null
array_kind p (suc n) i = name.Array (name.arrays_of (suc n) (item_text p i))

abbrev pub kind_named : Program → Kind → name.Kind
kind_named p Undefined = name.Undefined
kind_named p Word = name.Word
kind_named p Zero = name.Zero
kind_named p WideLow = name.Low
kind_named p WideHigh = name.High
kind_named p (Fresh c n) = name.Fresh (type_at p c) n
kind_named p FreshThis = name.FreshThis
kind_named p Null = name.Null
kind_named p (ClassAt c) = class_kind p (slice_get p.classes c)
kind_named p (Array n i) = array_kind p n i
kind_named p Reference = name.Reference

-- A receiver's own place holds its class's kind where it holds an object, and begins as the receiver of a constructor.
abbrev pub receiver_named : name.Kind → Kind → name.Kind
receiver_named made FreshThis = name.FreshThis
receiver_named made (Fresh c n) = made
receiver_named made k = if is_initialised k then made else name.Undefined

-- the kinds at a position of a method of the class of this kind
abbrev pub kinds_named : Program → name.Kind → Kinds → name_registers.Kinds
kinds_named p made a = record {
  registers = map (kind_named p) a.registers;
  result = kind_named p a.result;
  caught = kind_named p a.caught;
  receiver = receiver_named made a.receiver;
}

abbrev pub table_named : Program → name.Kind → Table → List (Option name_registers.Kinds)
table_named p made x = map (option_map (kinds_named p made)) x

-- the table of a method of this class
abbrev pub method_table : Program → Class → Table → List (Option name_registers.Kinds)
method_table p c x = table_named p (name.kind_of (named p) (type_at p c.name)) x
