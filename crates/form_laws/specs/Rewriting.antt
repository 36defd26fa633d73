-- Programs of which the second has other forms at the same positions, and which registers of the second hold what registers
-- of the first hold (this project's profile).
use Rattle.std.specs.Prelude.{◌≡◌, ℕ, ◌+◌, ◌-◌, ◌<◌, ◌⊎◌, false, List, ◌∷◌, Option, Some, None, length}
use Rattle.insn_set.specs.declared.ops.Slot.{Slot}
use Rattle.dalvik_defs.specs.Names.{is_void}
use Rattle.dalvik_defs.specs.Face.{Bodies}
use Rattle.dalvik_defs.specs.State.{World, Classes, State, On}
use Rattle.dalvik_defs.specs.Effect.{Goes, register}
use Rattle.dalvik_defs.specs.Outcome.{Stays, need_of, outcome}
use Rattle.dalvik_defs.specs.Act.{act}
use Rattle.dalvik_defs.specs.Stack.{entry_frame}
use Rattle.dalvik_defs.specs.Happens.{Setting}
use Rattle.dalvik_defs.specs.Step.{step}
use Rattle.dalvik_defs.specs.declared.state.Value.{Value}
use Rattle.dalvik_defs.specs.declared.state.Frame.{Frame}
use Rattle.dalvik_defs.specs.declared.state.Waiting.{Waiting}
use Rattle.dalvik_defs.specs.declared.state.Waiting.TheVariants.{Method}
use Rattle.dalvik_defs.specs.declared.names.MethodKey.{MethodKey}
use Rattle.dalvik_defs.specs.declared.names.FieldKey.{FieldKey}
use Rattle.dalvik_defs.specs.declared.forms.Form.{Form}
use Rattle.dalvik_defs.specs.declared.forms.Form.TheVariants as form
use Rattle.dalvik_defs.specs.declared.script.Move.{Move}
use Rattle.dalvik_defs.specs.declared.program.NamedBody.{NamedBody}
use Rattle.pass_defs.specs.Walks.{form_at, onward, caught, IsReached}
use Rattle.form_laws.specs.Changes.{In, destination, width, field_of, Change, changed, Possible, Alike}

-- Claims: at a position of a method a register of the one frame, and the register of the other frame that holds the same.
abbrev pub Claims : Type 1
Claims = MethodKey → ℕ → ℕ → ℕ → Type 0

-- how many registers the frames of a method have: the arguments are behind the others
abbrev pub frame_size : Option NamedBody → ℕ
frame_size (Some b) = (b.registers - b.ins) + b.ins
frame_size None = 0

-- no field that is read is of type void
abbrev pub ReadsFields : NamedBody → Type 0
ReadsFields b = (n : ℕ) (f : Form) (q : FieldKey) → form_at b n ≡ Some f → field_of f ≡ Some q → is_void q.kind ≡ false

-- frames at one position of which all claims hold
pub record Holds (find other : Bodies) (R : Claims) (g g' : Frame) : Type 0 where
  pub reached : (b : NamedBody) → find g.method ≡ Some b → IsReached b g.position
  pub method : g'.method ≡ g.method
  pub position : g'.position ≡ g.position
  pub result : g'.result ≡ g.result
  pub caught : g'.caught ≡ g.caught
  pub long : length g.registers ≡ frame_size (find g.method)
  pub long' : length g'.registers ≡ frame_size (other g.method)
  pub registers : (o x : ℕ) → R g.method g.position o x → register g' x ≡ register g o

-- Two registers of which one is written as the other is, at the same place behind the destination.
pub record Written (f f' : Form) (o x : ℕ) : Type 0 where
  pub place : ℕ
  pub below : place < width f
  pub old : o ≡ destination f + place
  pub new : x ≡ destination f' + place

-- Two registers that neither form writes.
pub record Unwritten (f f' : Form) (o x : ℕ) : Type 0 where
  pub old : (i : ℕ) → i < width f → o ≡ destination f + i → ⊥
  pub new : (i : ℕ) → i < width f → x ≡ destination f' + i → ⊥

-- A register that a move writes, and one that neither form writes, with a claim on what is moved.
pub record Copied (R : Claims) (k : MethodKey) (n : ℕ) (f f' : Form) (o x : ℕ) : Type 0 where
  pub slot : Slot
  pub to : ℕ
  pub from : ℕ
  pub is : f ≡ form.Move slot to from
  pub place : ℕ
  pub below : place < width f
  pub old : o ≡ destination f + place
  pub new : (i : ℕ) → i < width f → x ≡ destination f' + i → ⊥
  pub claim : R k n (from + place) x

-- how a claim onward comes: of what was written, of what was moved, or of what was there and isn't written
pub data Comes (R : Claims) (k : MethodKey) (n : ℕ) (f f' : Form) (o x : ℕ) : Type 0 where
  Writes : Written f f' o x → Comes R k n f f' o x
  Copies : Copied R k n f f' o x → Comes R k n f f' o x
  Keeps : Unwritten f f' o x → R k n o x → Comes R k n f f' o x

-- What comes of the first form is that it changes its frame as the second one does, whatever it had to look up.
pub record Settles (s : Setting) (f f' : Form) (w : World) (c : Classes) (g g' : Frame) : Type 0 where
  pub change : Change
  pub first : outcome s.face (need_of s.face c) (act s.face.under s.floats f w g) w g ≡ Stays w (changed change (destination f) g) None
  pub second : act s.face.under s.floats f' w g' ≡ Goes w (changed change (destination f') g')
  pub possible : Possible f change

-- What two forms at a position have to do for claims to hold. `I` says what states a run of the first program reaches.
pub record Fits (s : Setting) (find other : Bodies) (R : Claims) (I : State → Type 0) (k : MethodKey) (b : NamedBody) (n : ℕ) (f f' : Form) : Type 0 where
  -- from frames of which the claims hold they do the same
  pub alike : (w : World) (c : Classes) (g g' : Frame) (rest : List Waiting) (script : List Move) → Holds find other R g g' → g.method ≡ k → g.position ≡ n → I (On w c (Method g ∷ rest) script)
      → Alike (λ m. m) f f' g g' (act s.face.under s.floats f w g) (act s.face.under s.floats f' w g') ⊎ Settles s f f' w c g g'
  -- what they write is there
  pub room : (i : ℕ) → i < width f → (destination f + i < frame_size (find k)) × (destination f' + i < frame_size (other k))
  -- a claim at a handler was there
  pub onward : (m o x : ℕ) → In m (onward f n) → R k m o x → Comes R k n f f' o x
  pub caught : (m o x : ℕ) → In m (caught b f n) → R k m o x → R k n o x

-- Rewritten in place: the same methods have code, for as many arguments, with the same regions and with forms that fit at
-- each position, and the claims hold at each entry.
pub record IsInPlace (s : Setting) (find other : Bodies) (R : Claims) (I : State → Type 0) : Type 0 where
  pub none : (k : MethodKey) → find k ≡ None → other k ≡ None
  pub some : (k : MethodKey) (b : NamedBody) → find k ≡ Some b → (d : NamedBody) × (other k ≡ Some d)
  pub ins : (k : MethodKey) (b d : NamedBody) → find k ≡ Some b → other k ≡ Some d → d.ins ≡ b.ins
  pub regions : (k : MethodKey) (b d : NamedBody) → find k ≡ Some b → other k ≡ Some d → d.regions ≡ b.regions
  pub fields : (k : MethodKey) (b : NamedBody) → find k ≡ Some b → ReadsFields b
  pub ends : (k : MethodKey) (b d : NamedBody) (n : ℕ) → find k ≡ Some b → other k ≡ Some d → form_at b n ≡ None → form_at d n ≡ None
  pub forms : (k : MethodKey) (b d : NamedBody) (n : ℕ) (f : Form) → find k ≡ Some b → other k ≡ Some d → IsReached b n → form_at b n ≡ Some f
      → (f' : Form) × ((form_at d n ≡ Some f') × Fits s find other R I k b n f f')
  pub entry : (k : MethodKey) (b d : NamedBody) (vs : List Value) (o x : ℕ) → find k ≡ Some b → other k ≡ Some d → length vs ≡ b.ins → R k 0 o x
      → register (entry_frame k vs d) x ≡ register (entry_frame k vs b) o
  pub keeps : (t : State) → I t → I (step s find t).0
