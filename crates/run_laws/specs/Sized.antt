-- An invariant over that of references, which every program has: a frame has a body, and as many registers as it.
use Rattle.std.specs.Prelude.{◌≡◌, ◌+◌, ◌-◌, Some, length}
use Rattle.dalvik_defs.specs.Face.{Bodies}
use Rattle.dalvik_defs.specs.declared.state.Frame.{Frame}
use Rattle.dalvik_defs.specs.declared.program.NamedBody.{NamedBody}
use Rattle.run_laws.specs.Invariant.{Invariant, Grows}

-- the arguments are last, behind the other registers
pub record IsSized (find : Bodies) (f : Frame) : Type 0 where
  pub body : NamedBody
  pub found : find f.method ≡ Some body
  pub registers : length f.registers ≡ (body.registers - body.ins) + body.ins

abbrev pub sized_states : Bodies → Invariant
sized_states find = record {
  outside = λ w c. Unit {0};
  top = λ w c f. IsSized find f;
  waits = λ w a f. IsSized find f;
  result = λ w k v. Unit {0};
  thrown = λ w v. Unit {0};
  class = λ t. Unit {0};
  move = λ x. Unit {0};
  later = Grows;
  ended = Unit {0};
}
