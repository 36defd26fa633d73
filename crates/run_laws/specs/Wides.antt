-- That a wide is whole, as an invariant: its two registers hold the two halves of one number, and the place of the last result,
-- fields and items of arrays hold all of it (Dalvik bytecode, "General Design": a wide takes a pair of adjacent registers).
use Rattle.std.specs.Prelude.{◌≡◌, ℕ, ◌+◌, true, Option, Some}
use Rattle.dalvik_defs.specs.Effect.{register}
use Rattle.dalvik_defs.specs.Names.{is_wide}
use Rattle.dalvik_defs.specs.Outer.{Outer}
use Rattle.dalvik_defs.specs.State.{World, Thing, Instance, Items}
use Rattle.dalvik_defs.specs.declared.names.FieldKey.{FieldKey}
use Rattle.dalvik_defs.specs.declared.program.NamedProgram.{NamedProgram}
use Rattle.dalvik_defs.specs.declared.state.Frame.{Frame}
use Rattle.dalvik_defs.specs.declared.state.Value.{Value}
use Rattle.dalvik_defs.specs.declared.state.Value.TheVariants.{Low, High}
use Rattle.dalvik_defs.specs.declared.tables.Framework.{Framework}
use Rattle.pass_defs.specs.Kinds as kind
use Rattle.pass_defs.specs.Registers.{Kinds, kind_at}
use Rattle.run_laws.specs.Holds.{Each}
use Rattle.run_laws.specs.Invariant.{Above, Invariant}
use Rattle.run_laws.specs.TypedStates.{TypedFrame, TypedWaiting, typed_states}

-- a wide in one place
abbrev pub IsWhole : Value → Type 0
IsWhole v = (n : ℕ) × (v ≡ Low n)

-- Where the kinds have the low half of a wide in front of a high one, the registers hold both halves of one number; where they
-- have a wide as the last result, it is whole.
pub record HoldsWides (a : Kinds) (g : Frame) : Type 0 where
  pub registers : (r : ℕ) → kind_at a.registers r ≡ kind.Low → kind_at a.registers (r + 1) ≡ kind.High → (n : ℕ) × ((register g r ≡ Low n) × (register g (r + 1) ≡ High n))
  pub result : a.result ≡ kind.Low → IsWhole g.result

-- fields and items of a wide type
abbrev pub WideFields : (FieldKey → Option Value) → Type 0
WideFields fields = (k : FieldKey) (v : Value) → is_wide k.kind ≡ true → fields k ≡ Some v → IsWhole v

abbrev pub WideThing : Thing → Type 0
WideThing (Instance c fields) = WideFields fields
WideThing (Items t vs) = is_wide t ≡ true → Each IsWhole vs

pub record WideWorld (w : World) : Type 0 where
  pub statics : WideFields w.statics
  pub things : Each WideThing w.heap

module _ (p : NamedProgram) (f : Framework) where
  -- a frame with kinds of a typing that hold of it, and its wides
  pub record WideFrame (w : World) (g : Frame) : Type 0 where
    pub typed : TypedFrame p f w g
    pub wides : HoldsWides typed.kinds g

  pub record WideWaiting (w : World) (a : Above) (g : Frame) : Type 0 where
    pub typed : TypedWaiting p f w a g
    pub wides : HoldsWides typed.frame.kinds g

  abbrev pub wide_states : Outer → Invariant
  wide_states o = record (typed_states p f o) { outside = λ w c. WideWorld w; top = λ w c g. WideFrame w g; waits = WideWaiting }
