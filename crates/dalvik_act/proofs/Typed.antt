-- Tests of types and monitors, by names.
use Rattle.std.proofs.Common.{◌≡◌, ℕ, Bool, true, false, cond, nat_eq, ap, refl, sym, ◌∙◌}
use Rattle.std.specs.Prelude.{◌&&◌, ◌||◌, not}
use Rattle.dalvik_defs.specs.Names.{Text}
use Rattle.dalvik_defs.specs.Known.{bad_cast, bad_monitor}
use Rattle.dalvik_defs.specs.State.{World, is_null, kind_of}
use Rattle.dalvik_defs.specs.declared.state.Value.{Value}
use Rattle.dalvik_defs.specs.declared.state.Frame.{Frame}
use Rattle.dalvik_defs.specs.Effect.{Effect, Faults, Goes, Unlocks, next, register, sets}
use Rattle.dalvik_defs.specs.ActPlain.{casts, exits, is_instance, truth}
use Rattle.dalvik_state.specs.declared.datum.Datum.{Datum}
use Rattle.dalvik_state.specs.declared.datum.Datum.TheVariants as datum
use Rattle.dalvik_lookups.specs.declared.lookups.Lookups.{Lookups}
use Rattle.dalvik_state.specs.Views.{IsFine, Names, names_in, value_of}
use Rattle.dalvik_act.specs.Acting.{casts_by}

by_test : (b : Bool) (w : World) (f : Frame) → casts_by b w f ≡ elim b as (λ b. Effect) [ true ↦ Goes w (next f) | false ↦ Faults bad_cast ]
by_test true w f = refl
by_test false w f = refl

-- a cast, by the answer of the test of types
pub casting : (under : Text → Text → Bool) (w : World) (f : Frame) (on : ℕ) (kind : Text) → casts_by (is_null (register f on) || is_instance under w (register f on) kind) w f ≡ casts under w f on kind
casting under w f on kind = by_test (is_null (register f on) || is_instance under w (register f on) kind) w f

pub truth_named : (n : Names) (b : Bool) → value_of n (cond b (datum.Word 1) (datum.Word 0)) ≡ truth b
truth_named n true = refl
truth_named n false = refl

-- a monitor that is freed, by its count
pub exits_by : (w : World) (v : Value) (b : Bool) → nat_eq (w.locks v) 0 ≡ b → exits w v ≡ elim b as (λ b. Effect) [ true ↦ Faults bad_monitor | false ↦ Unlocks v ]
exits_by w v b e = ap (λ (b : Bool). elim b as (λ b. Effect) [ true ↦ Faults bad_monitor | false ↦ Unlocks v ]) e

pub truth_fine : (l : Lookups) (size : ℕ) (b : Bool) → IsFine (names_in l) size (cond b (datum.Word 1) (datum.Word 0))
truth_fine l size true = tt
truth_fine l size false = tt
