-- What the effect of an instruction by numbers is by names.
use Rattle.std.specs.Prelude.{ℕ, map}
use Rattle.std.specs.Option.{option_map}
use Rattle.dalvik_lookups.specs.declared.types.Kind.{Kind}
use Rattle.dalvik_defs.specs.Naming.{type_at, method_at, field_at}
use Rattle.dalvik_defs.specs.Effect.{Effect, Goes, Faults, Throws, Gives, Calls, Makes, Reads, Writes, Locks, Unlocks, Stuck, register}
use Rattle.dalvik_defs.specs.State.{World}
use Rattle.dalvik_defs.specs.declared.state.Frame.{Frame}
use Rattle.dalvik_state.specs.Views.{Names, value_of}
use Rattle.dalvik_state.specs.declared.effect.Effect.{Effect as OwnEffect}
use Rattle.dalvik_state.specs.declared.effect.Effect.TheVariants as own

-- the type with a number, which is no array
abbrev pub plain : ℕ → Kind
plain number = record { depth = 0; base = number }

-- the effect, with the world and the frame that it leaves
abbrev pub effect_of : Names → OwnEffect → World → Frame → Effect
effect_of n own.Goes w f = Goes w f
effect_of n (own.Faults kind) w f = Faults (n.kind (plain kind))
effect_of n (own.Throws thrown) w f = Throws (value_of n thrown)
effect_of n (own.Gives value) w f = Gives (option_map (value_of n) value)
effect_of n (own.Calls kind method args) w f = Calls kind (method_at n.program method) (map (register f) args.now)
effect_of n (own.Makes to kind) w f = Makes to (type_at n.program kind)
effect_of n (own.Reads item to field on) w f = Reads item to (field_at n.program field) (option_map (value_of n) on)
effect_of n (own.Writes field on value) w f = Writes (field_at n.program field) (option_map (value_of n) on) (value_of n value)
effect_of n (own.Locks on) w f = Locks (value_of n on)
effect_of n (own.Unlocks on) w f = Unlocks (value_of n on)
effect_of n own.Stuck w f = Stuck
