-- Where registers are live, by what an analysis says.
use Rattle.std.specs.Prelude.{ℕ, ◌+◌, Bool, false, ◌&&◌, ◌||◌, min, List, Option, Some, None, slice_get}
use Rattle.std.specs.List.{list_any}
use Rattle.insn_set.specs.Flow.{throws}
use Rattle.insn_set.specs.declared.form.Insn.{Insn}
use Rattle.program_model.specs.declared.body.Body.{Body}
use Rattle.program_model.specs.declared.body.Region.{Region}
use Rattle.flow_cfg.specs.Walks.{handlers_in}
use Rattle.live_regs.specs.Live.{is_live}
use Rattle.live_regs.specs.Liveness.{writes_at}
use Rattle.live_regs.specs.declared.table.Live.{Live}

-- the register is live at a handler of a region, where there is one
abbrev pub is_live_caught : Live → ℕ → Option Region → Bool
is_live_caught live r None = false
is_live_caught live r (Some s) = list_any (λ n. is_live live n r) (handlers_in s)

-- The register is live where a pure form goes: at the next position, or at a handler of the region at a place where the form
-- may throw.
abbrev pub is_live_after : Live → Body → ℕ → ℕ → Insn → ℕ → Bool
is_live_after live b k n i r = is_live live (n + 1) r || (throws i && is_live_caught live r (slice_get b.regions k))

-- whether a register is live behind a position, or written there
abbrev pub is_hit : Live → List Insn → ℕ → ℕ → Bool
is_hit live insns s n = is_live live (min (n + 1) 4294967295) s || writes_at s (slice_get insns n)
