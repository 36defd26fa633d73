-- Which kinds by numbers stand for one kind by names alone.
use Rattle.std.specs.Prelude.{Bool, true, ◌&&◌, length, nat_lt, is_some, slice_get}
use Rattle.program_model.specs.declared.program.Program.{Program}
use Rattle.verify.specs.declared.kinds.Kind.{Kind}
use Rattle.verify.specs.declared.kinds.Kind.TheVariants.{Fresh, Program as ClassAt, Array}
use Rattle.verify.specs.Descriptors.{item_named}
use Rattle.verify.specs.Kinds.{same_number}
use Rattle.type_bridge.specs.Views.{item_text}

-- A class of the program, an array with a dimension whose item is the first type of its text, an object that was made of a
-- type of the program, or a kind that has no number.
abbrev pub is_numbered : Program → Kind → Bool
is_numbered p (ClassAt c) = is_some (slice_get p.classes c)
is_numbered p (Array n i) = nat_lt 0 n && same_number (item_named p (item_text p i)) i
is_numbered p (Fresh c n) = nat_lt c (length p.types)
is_numbered p k = true
