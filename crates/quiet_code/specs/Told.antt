-- Which calls do nothing, as it is told once by method number.
use Rattle.std.specs.Prelude.{◌≡◌, ℕ, zero, suc, min, ◌&&◌, Bool, true, false, List, [], ◌∷◌, ◌++◌, Option, Some, None, length, slice_get}
use Rattle.insn_set.specs.declared.ops.InvokeKind.{InvokeKind}
use Rattle.insn_set.specs.declared.ops.InvokeKind.TheVariants as call
use Rattle.program_model.specs.declared.program.Program.{Program}
use Rattle.dom_frame.specs.declared.frames.Frame.{Frame}
use Rattle.hierarchy.specs.Shapes.{IsResolved}
use Rattle.quiet_code.specs.declared.pass.Dropping.{Dropping}
use Rattle.quiet_code.specs.declared.told.Idle.{Idle}
use Rattle.quiet_code.specs.Calls.{is_quiet_named, is_quiet_virtual, has_object}

abbrev pub idle_of : Program → List Bool → ℕ → Idle
idle_of p quiet n = record {
  as_static = is_quiet_named p quiet true n (slice_get p.methods n);
  as_direct = is_quiet_named p quiet false n (slice_get p.methods n);
  as_virtual = is_quiet_virtual p quiet (slice_get p.methods n);
}

-- so for each of so many numbers
abbrev pub idles_upto : Program → List Bool → ℕ → List Idle
idles_upto p quiet zero = []
idles_upto p quiet (suc k) = idles_upto p quiet k ++ idle_of p quiet (min k 4294967295) ∷ []

-- and for all method numbers of the program
pub record AreTold (p : Program) (quiet : List Bool) (idles : List Idle) : Type 0 where
  pub all : idles ≡ idles_upto p quiet (length p.methods)

abbrev pub told : Option Idle → Idle
told (Some idle) = idle
told None = record { as_static = false; as_direct = false; as_virtual = false }

abbrev pub told_at : List Idle → ℕ → Idle
told_at idles n = told (slice_get idles n)

-- a call does nothing, by what is told of its method number
abbrev pub is_idle_by : Idle → Option Frame → InvokeKind → List ℕ → Bool
is_idle_by idle o call.Static args = idle.as_static
is_idle_by idle o call.Direct args = has_object o args && idle.as_direct
is_idle_by idle o call.Virtual args = has_object o args && idle.as_virtual
is_idle_by idle o kind args = false

-- what the pass asks is told of its program, where the hierarchy is that of the program's classes
pub record IsAsked (s : Dropping) : Type 0 where
  pub known : IsResolved s.search.program.now s.search.hierarchy.now → AreTold s.search.program.now s.search.quiet.now s.idles.now
