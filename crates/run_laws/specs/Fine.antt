-- A first invariant, which every program has: each reference is to what there is.
use Rattle.std.specs.Prelude.{◌≡◌, true, Option, Some, None, slice_get, is_some}
use Rattle.dalvik_defs.specs.State.{World, Exposed, Thing, Instance, Items}
use Rattle.dalvik_defs.specs.declared.state.Value.{Value}
use Rattle.dalvik_defs.specs.declared.state.Value.TheVariants.{Object}
use Rattle.dalvik_defs.specs.declared.state.Frame.{Frame}
use Rattle.dalvik_defs.specs.declared.names.FieldKey.{FieldKey}
use Rattle.run_laws.specs.Invariant.{Invariant, Grows}
use Rattle.run_laws.specs.Holds.{Each}

-- a reference to an object that there is
abbrev pub IsThere : World → Value → Type 0
IsThere w (Object n) = is_some (slice_get w.heap n) ≡ true
IsThere w v = Unit {0}

abbrev pub MaybeThere : World → Option Value → Type 0
MaybeThere w None = Unit {0}
MaybeThere w (Some v) = IsThere w v

abbrev pub FineThing : World → Thing → Type 0
FineThing w (Instance c fields) = (k : FieldKey) (v : Value) → fields k ≡ Some v → IsThere w v
FineThing w (Items k vs) = Each (IsThere w) vs

pub record FineWorld (w : World) : Type 0 where
  pub statics : (k : FieldKey) (v : Value) → w.statics k ≡ Some v → IsThere w v
  pub things : Each (FineThing w) w.heap
  pub exposed : Each (λ e. IsThere w (Object e.number)) w.exposed

pub record FineFrame (w : World) (f : Frame) : Type 0 where
  pub registers : Each (IsThere w) f.registers
  pub result : IsThere w f.result
  pub caught : IsThere w f.caught

abbrev pub fine_states : Invariant
fine_states = record {
  outside = λ w c. FineWorld w;
  top = λ w c f. FineFrame w f;
  waits = λ w a f. FineFrame w f;
  result = λ w k v. MaybeThere w v;
  thrown = IsThere;
  class = λ t. Unit {0};
  move = λ x. Unit {0};
  later = Grows;
  ended = Unit {0};
}
