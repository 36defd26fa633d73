-- The lists of handlers (Dalvik executable format, "encoded_catch_handler_list").
use Rattle.std.specs.Prelude.{ℕ, min, ℤ, pos, ◌-ℤ◌, Bool, Option, Some, None, is_some, List, [], ◌++◌, length, if◌then◌else◌}
use Rattle.std.specs.List.{flat_map}
use Rattle.dex_base.specs.Leb.{uleb_text, sleb_text}
use Rattle.program_model.specs.declared.body.Handler.{Handler}
use Rattle.program_model.specs.declared.body.Region.{Region}
use Rattle.program_model.specs.declared.pass.Renumber.{Renumber}
use Rattle.relax.specs.Steps.{renumbered}
use Rattle.code_write.specs.Code.{place_at}

-- how many handlers, with the sign turned where there is a catch-all
abbrev pub list_size : ℕ → Bool → ℤ
list_size count has_rest = if has_rest then pos 0 -ℤ pos (min count 2147483647) else pos (min count 2147483647)

-- a handler's type and address
abbrev pub pair_text : List ℕ → List ℕ → ℕ → Handler → List ℕ
pair_text types starts end handler = uleb_text (renumbered types handler.kind) ++ uleb_text (place_at starts end handler.position)

-- the address of the catch-all
abbrev pub rest_text : List ℕ → ℕ → Option ℕ → List ℕ
rest_text starts end (Some position) = uleb_text (place_at starts end position)
rest_text starts end None = []

-- the list of a region's handlers
abbrev pub handlers_text : Renumber → List ℕ → ℕ → Region → List ℕ
handlers_text numbers starts end region = sleb_text (list_size (length region.handlers) (is_some region.rest)) ++ (flat_map (pair_text numbers.types.items starts end) region.handlers ++ rest_text starts end region.rest)
