-- Bodies in which the bodies of callees stand in place of calls.
use Rattle.std.specs.Prelude.{◌≡◌, ℕ, ◌+◌, ◌-◌, ◌<◌, ◌≤◌, Bool, true, false, List, [], ◌∷◌, length, Option, Some, None, is_some, Contains}
use Rattle.std.specs.Option.{option_map}
use Rattle.insn_set.specs.declared.ops.Slot.{Slot}
use Rattle.insn_set.specs.declared.ops.InvokeKind.{InvokeKind}
use Rattle.insn_set.specs.Widths.{is_wide_slot}
use Rattle.dalvik_defs.specs.Names.{Text, is_wide}
use Rattle.dalvik_defs.specs.Face.{Bodies}
use Rattle.dalvik_defs.specs.Stack.{handler_at}
use Rattle.dalvik_defs.specs.declared.names.MethodKey.{MethodKey}
use Rattle.dalvik_defs.specs.declared.forms.Form.{Form}
use Rattle.dalvik_defs.specs.declared.forms.Form.TheVariants as form
use Rattle.dalvik_defs.specs.declared.program.NamedBody.{NamedBody}
use Rattle.pass_defs.specs.Bare.{reads, writes, may_throw}
use Rattle.pass_defs.specs.Remade.{remade, retargeted}
use Rattle.pass_defs.specs.Walks.{form_at, onward, IsReached}
use Rattle.pass_defs.specs.Quiet.{takes_result}
use Rattle.pass_defs.specs.Inlined.{Callee, Taken, passed_types, moves_of}
use Rattle.program_laws.specs.Results.{TakesInPlace}
use Rattle.program_laws.specs.Alike.{gets_void}

-- ---- the caller

-- which calls of which methods are inlined
abbrev pub Sites : Type 0
Sites = MethodKey → ℕ → Option Callee

-- the MoveResult behind an inlined call goes with it, so that a run isn't seen there
abbrev pub Lives : NamedBody → (ℕ → Option Callee) → ℕ → Type 0
Lives b sites n = (m : ℕ) → n ≡ m + 1 → is_some (sites m) ≡ true → takes_result (form_at b n) ≡ false

-- where a caller goes on behind an inlined call, and the register of its MoveResult
pub data Behind (b : NamedBody) (at : ℕ → ℕ) (n : ℕ) : Taken → ℕ → Type 0 where
  Untaken : takes_result (form_at b (n + 1)) ≡ false → Behind b at n None (at (n + 1))
  TakenBy : (s : Slot) (to : ℕ) → form_at b (n + 1) ≡ Some (form.MoveResult s to) → Behind b at n (Some (s, to)) (at (n + 2))

-- ---- the callee

-- what is read of the registers at a position: all that the form there reads, and what is read further on unless it is
-- written before
pub record IsNeed (b : NamedBody) (need : ℕ → ℕ → Type 0) : Type 0 where
  pub reads : (n : ℕ) (f : Form) (r : ℕ) → form_at b n ≡ Some f → reads f r ≡ true → need n r
  pub onward : (n m : ℕ) (f : Form) (r : ℕ) → form_at b n ≡ Some f → Contains (onward f n) m → need m r → writes f r ≡ false → need n r
  -- where a field of type void is read, which no well-formed program does, nothing is written
  pub voids : (n : ℕ) (f : Form) (r : ℕ) → form_at b n ≡ Some f → gets_void f ≡ true → need (n + 1) r → need n r

-- registers are passed for types: of a wide both halves
pub data Passes : List Text → List ℕ → Type 0 where
  PassesNone : Passes [] []
  PassesOne : (t : Text) (ts : List Text) (r : ℕ) (rs : List ℕ) → is_wide t ≡ false → Passes ts rs → Passes (t ∷ ts) (r ∷ rs)
  PassesTwo : (t : Text) (ts : List Text) (r : ℕ) (rs : List ℕ) → is_wide t ≡ true → Passes ts rs → Passes (t ∷ ts) (r ∷ (r + 1) ∷ rs)

-- a callee of a call of a method: in the method's class, without regions, with registers that fit below the method's, and
-- reading no register before it is written but those of its arguments
pub record IsCallee (find : Bodies) (need : MethodKey → ℕ → ℕ → Type 0) (shift : ℕ) (k : MethodKey) (x : Form) (y : Callee) : Type 0 where
  pub kind : InvokeKind
  pub called : MethodKey
  pub call : x ≡ form.Invoke kind called y.args
  pub found : find y.key ≡ Some y.body
  pub class : y.key.class ≡ k.class
  pub unguarded : y.body.regions ≡ []
  pub fits : y.body.registers ≤ shift
  pub ins : y.body.ins ≤ y.body.registers
  pub passes : Passes (passed_types y) y.args
  pub passes_all : length y.args ≡ y.body.ins
  pub in_place : TakesInPlace y.body
  pub begins : takes_result (form_at y.body 0) ≡ false
  pub reads_room : (n : ℕ) (f : Form) (r : ℕ) → form_at y.body n ≡ Some f → reads f r ≡ true → r < y.body.registers
  pub writes_room : (n : ℕ) (f : Form) (r : ℕ) → form_at y.body n ≡ Some f → writes f r ≡ true → r < y.body.registers
  pub is_need : IsNeed y.body (need y.key)
  pub arguments : (r : ℕ) → need y.key 0 r → y.body.registers - y.body.ins ≤ r

-- ---- the copy

-- forms stand from a position on
abbrev pub Stand : NamedBody → ℕ → List Form → Type 0
Stand c n [] = Unit {0}
Stand c n (f ∷ fs) = (form_at c n ≡ Some f) × Stand c (n + 1) fs

abbrev pub stays_form : Form → Bool
stays_form form.ReturnVoid = false
stays_form (form.Return s from) = false
stays_form (form.MoveException to) = false
stays_form f = true

-- what became of a form of the callee: a return is a jump behind the call, behind a move where the result is taken
pub data Copied (c : NamedBody) (up inner : ℕ → ℕ) (t : Taken) (end j : ℕ) : Form → Type 0 where
  Kept : (f : Form) → stays_form f ≡ true → form_at c (inner j) ≡ Some (retargeted inner f) → inner (j + 1) ≡ inner j + 1 → Copied c up inner t end j f
  Ended : t ≡ None → form_at c (inner j) ≡ Some (form.Goto end) → Copied c up inner t end j form.ReturnVoid
  Dropped : (s : Slot) (from : ℕ) → t ≡ None → form_at c (inner j) ≡ Some (form.Goto end) → Copied c up inner t end j (form.Return s from)
  Handed : (s : Slot) (from : ℕ) (s' : Slot) (to : ℕ) → t ≡ Some (s', to) → is_wide_slot s' ≡ is_wide_slot s → form_at c (inner j) ≡ Some (form.Move s' (up to) from) → form_at c (inner j + 1) ≡ Some (form.Goto end)
      → Copied c up inner t end j (form.Return s from)

-- the callee stands in place of the call at a position: moves of the arguments, and then its forms
pub record IsCopied (b c : NamedBody) (at up : ℕ → ℕ) (shift n : ℕ) (y : Callee) : Type 0 where
  pub inner : ℕ → ℕ
  pub taken : Taken
  pub end : ℕ
  pub behind : Behind b at n taken end
  pub moves : Stand c (at n) (moves_of shift y)
  pub begins : inner 0 ≡ at n + length (moves_of shift y)
  pub copies : (j : ℕ) → IsReached y.body j → (f : Form) × ((form_at y.body j ≡ Some f) × Copied c up inner taken end j f)
  -- what covered the call covers the copy
  pub handlers : (j : ℕ) (f : Form) → form_at y.body j ≡ Some f → may_throw f ≡ true → (above : Text → Bool) → handler_at above (inner j) c ≡ option_map at (handler_at above n b)

-- ---- a body with inlined calls

pub data Went (find : Bodies) (need : MethodKey → ℕ → ℕ → Type 0) (k : MethodKey) (b c : NamedBody) (at up : ℕ → ℕ) (shift n : ℕ) : Option Form → Option Callee → Type 0 where
  -- there was no form, and there is none
  Past : form_at c (at n) ≡ None → Went find need k b c at up shift n None None
  -- the form stands in its new place with its registers shifted, with its handlers
  Stood : (x : Form) → form_at c (at n) ≡ Some (remade up up at x) → at (n + 1) ≡ at n + 1
      → (may_throw x ≡ true → (above : Text → Bool) → handler_at above (at n) c ≡ option_map at (handler_at above n b)) → Went find need k b c at up shift n (Some x) None
  -- a callee stands for the call
  Replaced : (x : Form) (y : Callee) → IsCallee find need shift k x y → IsCopied b c at up shift n y → Went find need k b c at up shift n (Some x) (Some y)

-- A body of a method and the same with calls inlined. `at` says where each position went, `up` where each register.
pub record IsInlined (find : Bodies) (need : MethodKey → ℕ → ℕ → Type 0) (k : MethodKey) (sites : ℕ → Option Callee) (b c : NamedBody) : Type 0 where
  pub at : ℕ → ℕ
  pub up : ℕ → ℕ
  pub shift : ℕ
  pub ups : (r : ℕ) → up r ≡ shift + r
  pub registers : c.registers ≡ b.registers + shift
  pub ins : c.ins ≡ b.ins
  pub room : b.ins ≤ b.registers
  pub entry : at 0 ≡ 0
  pub in_place : TakesInPlace b
  pub went : (n : ℕ) → IsReached b n → Lives b sites n → Went find need k b c at up shift n (form_at b n) (sites n)

-- the same of what a method has
pub data AreInlined (find : Bodies) (need : MethodKey → ℕ → ℕ → Type 0) (k : MethodKey) (sites : ℕ → Option Callee) : Option NamedBody → Option NamedBody → Type 0 where
  Neither : AreInlined find need k sites None None
  Both : (b c : NamedBody) → IsInlined find need k sites b c → AreInlined find need k sites (Some b) (Some c)
