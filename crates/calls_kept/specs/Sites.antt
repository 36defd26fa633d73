-- Sites by number, whoever found them: calls with what is called and what is known there (this project's profile).
use Rattle.std.specs.Prelude.{◌≡◌, ℕ, ◌+◌, ◌≤◌, Bool, true, false, List, [], ◌∷◌, length, Option, Some, None, slice_get, slice_index_or}
use Rattle.insn_set.specs.Widths.{is_wide_slot}
use Rattle.insn_set.specs.declared.ops.Slot.{Slot}
use Rattle.insn_set.specs.declared.ops.InvokeKind.TheVariants as call
use Rattle.insn_set.specs.declared.form.Insn.{Insn}
use Rattle.insn_set.specs.declared.form.Insn.TheVariants as insn
use Rattle.program_model.specs.Lookups.{method_at}
use Rattle.program_model.specs.MemberRules.{has_flag}
use Rattle.program_model.specs.Texts.{letter_of, is_void, is_wide}
use Rattle.program_model.specs.declared.body.Body.{Body}
use Rattle.program_model.specs.declared.program.Method.{Method}
use Rattle.program_model.specs.declared.program.MethodAt.{MethodAt}
use Rattle.program_model.specs.declared.program.Program.{Program}
use Rattle.class_defs.specs.Finding.{finds_static}
use Rattle.hierarchy.specs.declared.build.Hierarchy.{Hierarchy}
use Rattle.domains.specs.Datum.{Plain, Single}
use Rattle.domains.specs.Values.{value_holds}
use Rattle.dom_frame.specs.Registers.{value_at}
use Rattle.dom_frame.specs.declared.frames.Frame.{Frame}
use Rattle.facts.specs.Lent.{frame_at}
use Rattle.facts.specs.declared.facts.Facts.{Facts}
use Rattle.dalvik_defs.specs.Naming.{form_of, body_of, named}
use Rattle.dalvik_defs.specs.declared.names.MethodKey.{MethodKey}
use Rattle.dalvik_defs.specs.declared.forms.Form.{Form}
use Rattle.pass_defs.specs.Walks.{form_at, IsReached}
use Rattle.pass_defs.specs.Inlined.{callee_of}
use Rattle.pass_defs.specs.Inlined as by_name
use Rattle.inline_law.specs.Accepted.{Suits}
use Rattle.inline_law.specs.Sound.{IsSoundCallee}
use Rattle.splice.specs.declared.callee.Callee.{Callee}
use Rattle.splice.specs.Callees.{taken_by}
use Rattle.splice.specs.Moves.{parameters_of}

-- a static call of a static method, or a direct one of a method with a receiver, which finds the method at a place and passes these
-- registers
pub data Calls (p : Program) (place : MethodAt) (args : List ℕ) : Bool → Insn → Type 0 where
  Statically : (method : ℕ) → finds_static p method ≡ Some place → Calls p place args true (insn.Invoke call.Static method args)
  Directly : (method : ℕ) → finds_static p method ≡ Some place → Calls p place args false (insn.Invoke call.Direct method args)

-- registers hold arguments of these types, both halves of a wide one behind the other, and no more
pub data Holds (p : Program) : List ℕ → List ℕ → Type 0 where
  HoldsNone : Holds p [] []
  HoldsOne : (t r : ℕ) (ts rs : List ℕ) → is_wide (letter_of p t) ≡ false → Holds p ts rs → Holds p (t ∷ ts) (r ∷ rs)
  HoldsTwo : (t r : ℕ) (ts rs : List ℕ) → is_wide (letter_of p t) ≡ true → Holds p ts rs → Holds p (t ∷ ts) (r ∷ (r + 1) ∷ rs)

-- the same with a receiver in front, unless the method is static
pub data Passed (p : Program) (ts : List ℕ) : Bool → List ℕ → Type 0 where
  Plainly : (rs : List ℕ) → Holds p ts rs → Passed p ts true rs
  Behind : (r : ℕ) (rs : List ℕ) → Holds p ts rs → Passed p ts false (r ∷ rs)

-- where a result is taken, the method gives one that is as wide
pub record TakesFrom (p : Program) (result : ℕ) (taken : Option (Slot × ℕ)) : Type 0 where
  pub gives : (s : Slot × ℕ) → taken ≡ Some s → is_void (letter_of p result) ≡ false
  pub wide : (s : Slot × ℕ) → taken ≡ Some s → is_wide (letter_of p result) ≡ is_wide_slot s.0

abbrev pub receiver_of : List ℕ → ℕ
receiver_of [] = 65535
receiver_of (r ∷ rs) = r

-- the type that a method gives, by its proto
abbrev pub result_of : Program → ℕ → ℕ
result_of p method = elim (slice_get p.methods method) [ Some q ↦ elim (slice_get p.protos q.proto) [ Some t ↦ t.result | None ↦ 4294967295 ] | None ↦ 4294967295 ]

-- the facts know that a register holds no null at a position
pub record NeverNull (facts : Facts) (method n r : ℕ) : Type 0 where
  pub frame : Frame
  pub here : frame_at facts.frames.items method n ≡ Some frame
  pub never_null : value_holds (value_at frame.registers r) (Plain (Single 0)) → ⊥

-- A call at a position of a method's code finds a short method without regions in the method's class. It passes what this one takes
-- and takes what it gives, and enters it at once.
pub record IsSite (p : Program) (h : Hierarchy) (facts : Facts) (at : MethodAt) (m : Method) (b : Body) (n : ℕ) (y : Callee) : Type 0 where
  pub insn : Insn
  pub here : slice_get b.insns n ≡ Some insn
  pub place : MethodAt
  pub args : List ℕ
  pub calls : Calls p place args (has_flag y.method.now.flags 8) insn
  pub method : method_at p place ≡ Some y.method.now
  pub code : y.method.now.body ≡ Some y.body.now
  pub beside : place.class ≡ at.class
  pub unguarded : y.body.now.regions ≡ []
  pub short : length y.body.now.insns ≤ 16
  pub few : b.registers + y.body.now.registers ≤ 16
  pub passes : Passed p (parameters_of p y.method.now.name) (has_flag y.method.now.flags 8) args
  pub takes : TakesFrom p (result_of p y.method.now.name) (taken_by (slice_get b.insns (n + 1)))
  pub static : has_flag y.method.now.flags 8 ≡ true → slice_index_or h.starts.trivial.items place.class false ≡ true
  pub direct : has_flag y.method.now.flags 8 ≡ false → NeverNull facts m.name n (receiver_of args)

-- What the law of inlining asks of one accepted call: it finds a sound callee by name, and each reached form of this one may stand in
-- a copy.
pub record IsSoundSite (p : Program) (k : MethodKey) (b : Body) (n : ℕ) : Type 0 where
  pub callee : by_name.Callee
  pub finds : callee_of (named p) (form_at (body_of p b) n) ≡ Some callee
  pub sound : IsSoundCallee k callee
  pub suits : (j : ℕ) → IsReached callee.body j → (f : Form) × ((form_at callee.body j ≡ Some f) × Suits (by_name.taken_by (form_at (body_of p b) (n + 1))) f)
