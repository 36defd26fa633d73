-- What the regions of a body and their handlers have to be (Dalvik executable format, "try_item").
use Rattle.std.specs.Prelude.{ℕ, List, length, Bool, true, false, not, ◌&&◌, ◌||◌, nat_eq, nat_lt, nat_le, Option, Some, None, is_some, slice_get}
use Rattle.std.specs.List.{list_all}
use Rattle.insn_set.specs.declared.form.Insn.{Insn}
use Rattle.insn_set.specs.declared.form.Insn.TheVariants.{MoveResult}
use Rattle.program_model.specs.Neighbours.{neighbours}
use Rattle.program_model.specs.Texts.{has_type}
use Rattle.program_model.specs.declared.body.Handler.{Handler}
use Rattle.program_model.specs.declared.body.Region.{Region}
use Rattle.program_model.specs.declared.program.Program.{Program}

-- a handler, or the body itself, may begin at a position that is no move-result
abbrev pub may_begin : Option Insn → Bool
may_begin None = false
may_begin (Some (MoveResult slot to)) = false
may_begin (Some insn) = true

abbrev pub handler_fits : Program → List Insn → Handler → Bool
handler_fits p insns handler = has_type p handler.kind && may_begin (slice_get insns handler.position)

abbrev pub rest_fits : List Insn → Option ℕ → Bool
rest_fits insns None = true
rest_fits insns (Some position) = may_begin (slice_get insns position)

-- a region has a handler or a catch-all
abbrev pub catches : Region → Bool
catches region = not (nat_eq (length region.handlers) 0) || is_some region.rest

-- a region covers some of the positions
abbrev pub region_fits : Program → List Insn → Region → Bool
region_fits p insns region = (nat_lt region.first region.end && nat_le region.end (length insns))
    && (catches region && (list_all (handler_fits p insns) region.handlers && rest_fits insns region.rest))

-- each region ends before the one behind it begins
abbrev pub are_apart : Region × Region → Bool
are_apart pair = nat_le pair.0.end pair.1.first

unfoldable pub regions_fit : Program → List Insn → List Region → Bool
regions_fit p insns regions = list_all (region_fits p insns) regions && list_all are_apart (neighbours regions)
