-- Calls, by numbers and by names.
use Rattle.std.specs.declared.alloc.Global.{Global}
use Rattle.std.specs.Prelude.{ℕ, Vec, ◌≡◌, ◌<◌, List, [], ◌∷◌, Option, Some, None, Bool, true, false, is_some, length, map}
use Rattle.insn_set.specs.declared.ops.InvokeKind.{InvokeKind}
use Rattle.insn_set.specs.declared.ops.InvokeKind.TheVariants as call
use Rattle.program_model.specs.declared.program.Method.{Method}
use Rattle.program_model.specs.declared.program.Program.{Program}
use Rattle.dalvik_lookups.specs.declared.lookups.Lookups.{Lookups}
use Rattle.dalvik_defs.specs.Face.{Face}
use Rattle.dalvik_defs.specs.Find.{Found, Search}
use Rattle.dalvik_defs.specs.Names.{Text, proto_text}
use Rattle.dalvik_defs.specs.Naming.{method_at}
use Rattle.dalvik_defs.specs.Outcome as name
use Rattle.dalvik_defs.specs.Outcome.{Need, Outcome, calls_by}
use Rattle.dalvik_defs.specs.State.{World as NamedWorld, kind_of}
use Rattle.dalvik_defs.specs.declared.state.Frame.{Frame as NamedFrame}
use Rattle.dalvik_defs.specs.declared.state.Value.{Value}
use Rattle.dalvik_defs.specs.declared.names.MethodKey.{MethodKey}
use Rattle.dalvik_state.specs.declared.datum.Datum.{Datum}
use Rattle.dalvik_state.specs.declared.datum.Datum.TheVariants as datum
use Rattle.dalvik_state.specs.declared.frame.Frame.{Frame}
use Rattle.dalvik_state.specs.Frames.{cell}
use Rattle.dalvik_steps.specs.declared.calling.CallTexts.{CallTexts}

-- the texts of a method number
pub record AreCallTexts (p : Program) (method : ℕ) (t : CallTexts) : Type 0 where
  pub class : t.class ≡ (method_at p method).class
  pub name : t.name ≡ (method_at p method).name
  pub proto : t.proto ≡ proto_text (method_at p method).signature

-- the first value, null without one
abbrev pub receiver_in : List Datum → Datum
receiver_in [] = datum.Word 0
receiver_in (d ∷ ds) = d

-- a method that was found, by names
pub record IsFound (l : Lookups) (g : Found) (own : Method) : Type 0 where
  pub key : g.key ≡ method_at l.program.now own.name
  pub flags : g.flags ≡ own.flags.0
  pub coded : g.coded ≡ is_some own.body
  pub within : own.name < length l.program.now.methods

-- what a call of a kind finds, at a receiver of a class, from a class
abbrev pub searched : Face → InvokeKind → MethodKey → Text → Text → Search
searched face call.Static k t c = face.statically k
searched face call.Direct k t c = face.statically k
searched face call.Super k t c = face.above c k
searched face call.Virtual k t c = face.virtually t k
searched face call.Interface k t c = face.virtually t k

-- a call on a receiver that isn't null
abbrev pub calls_on : Face → (Text → Need) → InvokeKind → MethodKey → List Value → NamedWorld → NamedFrame → Outcome
calls_on face need kind k values w f = calls_by need kind k values w f (searched face kind k (kind_of w (name.receiver values)) f.method.class)

-- what a frame passes in some registers
pub record FramesPass (f : Frame) (args : List ℕ) (values : List Datum) (on : Datum) (own : ℕ) : Type 0 where
  pub all : values ≡ map (cell f.registers.items) args
  pub first : on ≡ receiver_in values
  pub class : own ≡ f.at.class

abbrev pub FramesCall : Frame → List ℕ → Option (Vec Datum Global × Datum × ℕ) → Type 0
FramesCall f args None = ⊥
FramesCall f args (Some p) = FramesPass f args p.0.items p.1 p.2
