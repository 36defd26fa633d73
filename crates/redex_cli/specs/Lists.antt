-- What `live` says.
use Rattle.std.specs.Prelude.{◌≡◌, ℕ, Bool, List, [], ◌++◌, flat_map, Option, Some, None, Ok, slice_get, cond, codes}
use Rattle.call_graph.specs.Closed.{IsClosedSet}
use Rattle.call_graph.specs.Least.{IsLeastSet}
use Rattle.call_graph.specs.declared.live_set.LiveSet.{LiveSet}
use Rattle.dex_read.specs.File.{program_at}
use Rattle.pipeline.specs.Asks.{proto_text}
use Rattle.program_model.specs.Texts.{string_text, type_text}
use Rattle.program_model.specs.declared.pass.Outside.{Outside}
use Rattle.program_model.specs.declared.pools.FieldName.{FieldName}
use Rattle.program_model.specs.declared.pools.MethodName.{MethodName}
use Rattle.program_model.specs.declared.program.Class.{Class}
use Rattle.program_model.specs.declared.program.Field.{Field}
use Rattle.program_model.specs.declared.program.Method.{Method}
use Rattle.program_model.specs.declared.program.Program.{Program}
use Rattle.reach.specs.Kept.{is_marked}
use Rattle.redex_outside.specs.Held.{Held}
use Rattle.text_defs.specs.Escapes.{escaped}
use Rattle.redex_cli.specs.Accepted.{IsAccepted}
use Rattle.redex_cli.specs.Files.{AreHeld}
use Rattle.redex_cli.specs.Tables.{IsTableWith}
use Rattle.redex_cli.specs.declared.fetching.Inputs.{Inputs}

-- `CLASS->NAME:TYPE`
abbrev pub field_line : Program → ℕ → Option FieldName → List ℕ
field_line p class None = []
field_line p class (Some field) =
    escaped (type_text p class) ++ codes "->" ++ escaped (string_text p field.name) ++ codes ":" ++ escaped (type_text p field.kind) ++ codes "\n"

-- `CLASS->NAME(PARAMETERS)RESULT`
abbrev pub method_line : Program → ℕ → Option MethodName → List ℕ
method_line p class None = []
method_line p class (Some method) =
    escaped (type_text p class) ++ codes "->" ++ escaped (string_text p method.name) ++ escaped (proto_text p method.proto) ++ codes "\n"

-- the lines of a member, of the members of a class, and of a class, where they are live
abbrev pub live_field : Program → LiveSet → ℕ → Field → List ℕ
live_field p live class f = cond (is_marked live.fields.items f.name) (field_line p class (slice_get p.fields f.name)) []

abbrev pub live_method : Program → LiveSet → ℕ → Method → List ℕ
live_method p live class m = cond (is_marked live.methods.items m.name) (method_line p class (slice_get p.methods m.name)) []

abbrev pub class_lines : Program → LiveSet → Class → List ℕ
class_lines p live class =
    escaped (type_text p class.name) ++ codes "\n" ++ flat_map (live_field p live class.name) class.fields ++ flat_map (live_method p live class.name) class.methods

abbrev pub live_class : Program → LiveSet → Class → List ℕ
live_class p live class = cond (is_marked live.classes.items class.name) (class_lines p live class) []

-- the live classes in file order, each with its live members in class order
abbrev pub live_text : Program → LiveSet → List ℕ
live_text p live = flat_map (live_class p live) p.classes

-- The text lists what is live of the program that the file of these inputs spells, which is accepted, by the table of their rules
-- and their library: the least sets that hold all that the table keeps and all that something in them entails.
pub record ListsFile (inputs : Inputs) (text : List ℕ) : Type 0 where
  pub program : Program
  pub reads : program_at inputs.file ≡ Ok program
  pub accepted : IsAccepted program
  pub outside : Outside
  pub table : IsTableWith inputs.rules inputs.library program outside
  pub live : LiveSet
  pub closed : IsClosedSet program outside live
  pub least : IsLeastSet program outside live
  pub says : text ≡ live_text program live

-- The same of what the names hold, where the shelf tells it.
pub record IsListed (tells : Bool) (held : Held) (rules input : List ℕ) (library : Option (List ℕ)) (text : List ℕ) : Type 0 where
  pub inputs : Inputs
  pub are : AreHeld tells held rules input library inputs
  pub lists : ListsFile inputs text
