-- Calls of quiet methods: a run enters such a method, shows nothing and changes nothing, and comes back (this project's profile).
-- Each position of a quiet method has a rank, and each step in the method goes on at a lower one or ends it, so it ends. Other forms
-- may go too that do no more than write registers which nobody reads, as far as it is known what they do in a run.
use Rattle.std.specs.Prelude.{◌≡◌, ◌⊎◌, ℕ, ◌+◌, ◌<◌, Bool, true, false, List, ◌∷◌, length, Option, Some, None, slice_get}
use Rattle.insn_set.specs.declared.ops.InvokeKind.{InvokeKind}
use Rattle.dalvik_defs.specs.Face.{Bodies}
use Rattle.dalvik_defs.specs.State.{World, Classes, State, On}
use Rattle.dalvik_defs.specs.Outcome.{Stays, Enters, Ends}
use Rattle.dalvik_defs.specs.Stack.{form_at as form_here}
use Rattle.dalvik_defs.specs.Happens.{Setting}
use Rattle.dalvik_defs.specs.Step.{step}
use Rattle.dalvik_defs.specs.declared.state.Value.{Value}
use Rattle.dalvik_defs.specs.declared.state.Frame.{Frame}
use Rattle.dalvik_defs.specs.declared.state.Waiting.{Waiting}
use Rattle.dalvik_defs.specs.declared.state.Waiting.TheVariants.{Method}
use Rattle.dalvik_defs.specs.declared.names.MethodKey.{MethodKey}
use Rattle.dalvik_defs.specs.declared.forms.Form.{Form}
use Rattle.dalvik_defs.specs.declared.forms.Form.TheVariants as form
use Rattle.dalvik_defs.specs.declared.script.Move.{Move}
use Rattle.dalvik_defs.specs.declared.program.NamedBody.{NamedBody}
use Rattle.dalvik_defs.specs.declared.program.NamedProgram.{NamedProgram}
use Rattle.dalvik_defs.proofs.Frames.{now}
use Rattle.pass_defs.specs.Bare.{writes, continues}
use Rattle.pass_defs.specs.Quiet.{takes_result}
use Rattle.pass_defs.specs.Thinned.{Fate, stays}
use Rattle.pass_defs.specs.Walks.{form_at, IsReached, IsReadAfter}
use Rattle.program_laws.specs.Results.{TakesInPlace, gives_result}
use Rattle.program_laws.specs.Agree.{Agree}
use Rattle.thin_laws.specs.Cleaning.{IsDropped}

-- how far a position of a method is from the method's end, at most
abbrev pub Rank : Type 0
Rank = MethodKey → ℕ → ℕ

-- a call that enters a quiet method with code for as many values
pub record EntersQuietly (s : Setting) (find : Bodies) (quiet : MethodKey → Type 0) (w : World) (c : Classes) (f : Frame) : Type 0 where
  pub kind : InvokeKind
  pub named : MethodKey
  pub args : List ℕ
  pub call : form_here find f ≡ Some (form.Invoke kind named args)
  pub method : MethodKey
  pub values : List Value
  pub body : NamedBody
  pub enters : now s find w c f ≡ Enters method values
  pub found : find method ≡ Some body
  pub takes : length values ≡ body.ins
  pub is_quiet : quiet method

-- what a step in a quiet method does
pub data Advances (s : Setting) (find : Bodies) (quiet : MethodKey → Type 0) (rank : Rank) (w : World) (c : Classes) (f : Frame) : Type 0 where
  GoesOn : (g : Frame) → now s find w c f ≡ Stays w g None → g.method ≡ f.method → rank f.method g.position < rank f.method f.position → Advances s find quiet rank w c f
  CallsOne : (call : EntersQuietly s find quiet w c f) → rank call.method 0 < rank f.method f.position → rank f.method (f.position + 1) < rank f.method f.position → Advances s find quiet rank w c f
  EndsIt : (v : Option Value) → now s find w c f ≡ Ends v → Advances s find quiet rank w c f

-- what goes, by method and position
abbrev pub Gone : Type 1
Gone = MethodKey → ℕ → Type 0

-- a form that does no more than write registers of its own, and goes on
pub record WorksAlone (s : Setting) (find : Bodies) (w : World) (c : Classes) (f : Frame) (x : Form) : Type 0 where
  pub registers : List Value
  pub goes : now s find w c f ≡ Stays w (record f { position = f.position + 1; registers = registers }) None
  pub others : Agree (λ r. writes x r ≡ false) f.registers registers

-- What is known in the states that a run reaches: steps in quiet methods advance, calls that go enter quiet methods, and other forms
-- that go do no more than write registers of their own.
pub record QuietRuns (s : Setting) (find : Bodies) (quiet : MethodKey → Type 0) (rank : Rank) (gone spare : Gone) (I : State → Type 0) : Type 0 where
  pub advances : (w : World) (c : Classes) (f : Frame) (rest : List Waiting) (script : List Move) → I (On w c (Method f ∷ rest) script) → quiet f.method → Advances s find quiet rank w c f
  pub enters : (w : World) (c : Classes) (f : Frame) (rest : List Waiting) (script : List Move) → I (On w c (Method f ∷ rest) script) → gone f.method f.position → EntersQuietly s find quiet w c f
  pub works : (w : World) (c : Classes) (f : Frame) (rest : List Waiting) (script : List Move) (x : Form) → I (On w c (Method f ∷ rest) script) → form_here find f ≡ Some x
      → spare f.method f.position → WorksAlone s find w c f x
  pub keeps : (t : State) → I t → I (step s find t).0

-- a call that goes, whose result isn't taken
pub record IsCallGone (gone : ℕ → Type 0) (b : NamedBody) (n : ℕ) (x : Form) : Type 0 where
  pub marked : gone n
  pub kind : InvokeKind
  pub named : MethodKey
  pub args : List ℕ
  pub call : x ≡ form.Invoke kind named args
  pub untaken : takes_result (form_at b (n + 1)) ≡ false

-- another form that goes: it goes on, gives no result, and writes no register that some walk onward reads before it is written
pub record IsSpare (spare : ℕ → Type 0) (b : NamedBody) (n : ℕ) (x : Form) : Type 0 where
  pub marked : spare n
  pub goes_on : continues x ≡ true
  pub gives_none : gives_result x ≡ false
  pub unread : (r : ℕ) → writes x r ≡ true → IsReadAfter b r n → ⊥

-- No walk passes the end, results are taken where they are given, and each position that goes or empties is dead code, such a call or
-- such another form.
pub record IsQuietCleaning (p : NamedProgram) (gone spare : ℕ → Type 0) (fs : List Fate) (b : NamedBody) : Type 0 where
  pub long : length fs ≡ length b.forms
  pub within : (n : ℕ) → IsReached b n → n < length b.forms
  pub in_place : TakesInPlace b
  pub dropped : (n : ℕ) (x : Form) (f : Fate) → IsReached b n → form_at b n ≡ Some x → slice_get fs n ≡ Some f → stays f ≡ false → IsDropped p b fs n x ⊎ (IsCallGone gone b n x ⊎ IsSpare spare b n x)

-- A body with nops for such calls and such other forms, and else the same.
pub record IsEmptied (gone spare : ℕ → Type 0) (b c : NamedBody) : Type 0 where
  pub registers : c.registers ≡ b.registers
  pub ins : c.ins ≡ b.ins
  pub regions : c.regions ≡ b.regions
  pub in_place : TakesInPlace b
  pub forms : (n : ℕ) (x : Form) → form_at b n ≡ Some x → (form_at c n ≡ Some x) ⊎ ((form_at c n ≡ Some form.Nop) × (IsCallGone gone b n x ⊎ IsSpare spare b n x))
  pub ends : (n : ℕ) → form_at b n ≡ None → form_at c n ≡ None

-- the code of a method, the same or emptied
pub data Empties (gone spare : Gone) (k : MethodKey) : Option NamedBody → Option NamedBody → Type 0 where
  NoCode : Empties gone spare k None None
  SameCode : (b : NamedBody) → Empties gone spare k (Some b) (Some b)
  EmptiedCode : (b c : NamedBody) → IsEmptied (gone k) (spare k) b c → Empties gone spare k (Some b) (Some c)
