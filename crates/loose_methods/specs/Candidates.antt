-- Which methods may be static, as far as the tables have room for their new protos (Dalvik executable format, "access_flags
-- Definitions"; this project's profile).
use Rattle.std.specs.Prelude.{ℕ, ◌&&◌, ◌||◌, not, Bool, nat_eq, List, codes, is_some}
use Rattle.std.specs.List.{list_any}
use Rattle.program_model.specs.declared.pass.Outside.{Outside}
use Rattle.program_model.specs.declared.pools.MethodName.{MethodName}
use Rattle.program_model.specs.declared.program.Class.{Class}
use Rattle.program_model.specs.declared.program.Method.{Method}
use Rattle.program_model.specs.declared.program.Program.{Program}
use Rattle.program_model.specs.MemberRules.{is_static, is_direct, has_flag}
use Rattle.class_defs.specs.Members.{string_is}
use Rattle.class_defs.specs.Starts.{is_trivial}
use Rattle.facts.specs.declared.facts.Facts.{Facts}
use Rattle.loose_methods.specs.Loose.{is_alone, calls_allow}
use Rattle.loose_methods.specs.Mentioned.{is_mentioned}

-- ---- methods

abbrev pub is_kept : Outside → ℕ → Bool
is_kept o n = list_any (nat_eq n) o.methods

abbrev pub is_plain_class : Program → ℕ → Class → Bool
is_plain_class p place k = not (has_flag k.flags 512) && is_trivial p place

-- it has code and a receiver, and is no constructor
abbrev pub takes_receiver : Program → MethodName → Method → Bool
takes_receiver p q m = is_some m.body && not (is_static m.flags) && not (string_is p q.name (codes "<init>"))

-- A method of a class that isn't kept, which other methods let be static: its class is no interface and is trivially initialised, and
-- where it is virtual, nothing but calls of that class reaches it.
abbrev pub is_candidate : Program → Outside → ℕ → Class → MethodName → Method → Bool
is_candidate p o place k q m = is_plain_class p place k && takes_receiver p q m && not (is_kept o m.name) && (is_direct p m || is_alone p q place)

module _ (p : Program) (facts : Facts) (o : Outside) (admitted : List Bool) where
  -- it may be static as far as the tables have room: neither annotations, first values nor calls keep it from being so
  abbrev pub may_be_static : ℕ → Class → MethodName → Method → Bool
  may_be_static place k q m = is_candidate p o place k q m && not (is_mentioned p m.name) && calls_allow p facts admitted m.name
