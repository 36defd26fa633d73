use Rattle.std.proofs.Common.{◌≡◌, ◌<◌, ◌-◌, ℕ, zero, suc, ap, ◌∙◌, arith}
use Rattle.program_model.specs.declared.value.EncValue.{EncValue, out-EncValue}
use Rattle.program_model.specs.declared.program.Program.{Program}
use Rattle.program_model.specs.ValueRules.{names_fit, value_fits}
use Rattle.program_model.proofs.value_rules.+fits.Goals as goal

-- a value is itself one step deep
deeper : (p : Program) (v : EncValue) (depth : ℕ) → 0 < depth → names_fit (value_fits (depth - 1) p) p (out-EncValue v) ≡ value_fits depth p v
deeper p v zero h = absurd (omega arith)
deeper p v (suc d) h = let e : suc d - 1 ≡ d = omega arith in ap (λ k. names_fit (value_fits k p) p (out-EncValue v)) e

pub value_fits-returns-then-depth-gt0 : goal.value_fits-returns-then-depth-gt0
value_fits-returns-then-depth-gt0 t c = c.names_fit.ensures ∙ deeper c.args.program.now c.args.value.now c.args.depth c.if-depth-gt0.true
