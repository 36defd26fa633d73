-- The methods that may be rewritten, by names.
use Rattle.std.specs.Prelude.{Bool, false, ◌&&◌, List, length, slice_index_or}
use Rattle.program_model.specs.declared.program.Program.{Program}
use Rattle.dalvik_defs.specs.Names.{method_eq}
use Rattle.dalvik_defs.specs.Naming.{method_at}
use Rattle.dalvik_defs.specs.declared.names.MethodKey.{MethodKey}
use Rattle.reach_bridge.specs.Names.{any_below}

-- an admitted number of the table names the method
abbrev pub admitted_in : Program → List Bool → MethodKey → Bool
admitted_in p admitted k = any_below (length p.methods) (λ n. slice_index_or admitted n false && method_eq (method_at p n) k)
