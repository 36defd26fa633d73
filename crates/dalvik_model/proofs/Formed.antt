-- The instruction at the position of a frame does what the form there does, by names.
use Rattle.std.proofs.Common.{◌≡◌, ℕ, arith, ap, refl, sym, ◌∙◌, Result, Ok, Err}
use Rattle.std.specs.Prelude.{IfOk, OnErr, Option, Some, None, length}
use Rattle.std.specs.Option.{option_map}
use Rattle.std.specs.declared.alloc.AllocError.{AllocError}
use Rattle.insn_set.specs.declared.form.Insn.{Insn}
use Rattle.dalvik_defs.specs.Happens as name
use Rattle.dalvik_defs.specs.Naming.{form_of}
use Rattle.dalvik_defs.specs.Stack.{form_at}
use Rattle.dalvik_defs.specs.declared.forms.Form.{Form}
use Rattle.dalvik_defs.specs.declared.tables.Floats.{Floats}
use Rattle.dalvik_lookups.specs.declared.lookups.Lookups.{Lookups}
use Rattle.dalvik_lookups.specs.declared.memo.Memo.{Memo}
use Rattle.dalvik_state.specs.Effects.{effect_of}
use Rattle.dalvik_state.specs.Frames.{IsSame, Leaves}
use Rattle.dalvik_state.specs.Runs.{bodies_in, setting_in}
use Rattle.dalvik_state.specs.States.{IsInMethod}
use Rattle.dalvik_state.specs.Views.{frame_of, names_in, world_of}
use Rattle.dalvik_state.specs.Worlds.{spots_of, IsSameWorld, LeavesWorld}
use Rattle.dalvik_state.specs.declared.effect.Effect.{Effect}
use Rattle.dalvik_state.specs.declared.effect.Effect.TheVariants as effect
use Rattle.dalvik_state.specs.declared.frame.Frame.{Frame}
use Rattle.dalvik_state.specs.declared.state.Waiting.{Waiting}
use Rattle.dalvik_state.specs.declared.state.Waiting.TheVariants as waiting
use Rattle.dalvik_state.specs.declared.world.World.{World}
use Rattle.dalvik_state.proofs.Bodies.{frame_form}
use Rattle.dalvik_state.proofs.Kept.{same, same_world}
use Rattle.dalvik_act.specs.Acted.{insn_of, IsActed, IsActing}
use Rattle.dalvik_model.specs.Doing.{IsForm, IsInRun, IsUndoneIn}

-- the form at the position of a frame, by the instruction there
form_there : (l : Lookups) (m : Memo) (steps : ℕ) (w : World) (f : Frame) → IsInRun l m steps w f → (x : Option Insn) → insn_of f ≡ x
    → form_at (bodies_in l) (frame_of (names_in l) f) ≡ option_map (form_of l.program.now) x
form_there l m steps w f r x e = frame_form l r.right (length (spots_of w)) f r.frame ∙ ap (option_map (form_of l.program.now)) e

-- what an instruction of a run begins with
pub acting : (l : Lookups) (m : Memo) (steps : ℕ) (w : World) (f : Frame) (x : Insn) → IsInRun l m steps w f → insn_of f ≡ Some x → IsActing l m steps w f x
acting l m steps w f x r e = record {
  right = r.right;
  kept = r.kept;
  sound = r.sound;
  frame = r.frame;
  paced = r.paced;
  early = r.early;
  is = e;
  array = r.next.next x e;
}

pub formed : (l : Lookups) (m : Memo) (floats : Floats) (steps : ℕ) (w w' : World) (f f' : Frame) (x : Insn) (e : Effect) → IsInRun l m steps w f → insn_of f ≡ Some x → IsActed l floats steps x w w' f f' e → Leaves e f f' → LeavesWorld e w w'
    → IsForm l floats steps w w' f f' e
formed l m floats steps w w' f f' x e r is a left world =
    let n = names_in l in
    record {
      effect = λ o. a.effect ∙ sym (ap (λ (form : Option Form). name.effect_of (setting_in l o floats) form (world_of n w) (frame_of n f)) (form_there l m steps w f r (Some x) is));
      fine = a.fine;
      sound = a.sound;
      frame = a.frame;
      paced = a.paced;
      more = a.more;
      locks = a.locks;
      left = left;
      world = world;
    }

-- there is no instruction at the position
pub formless : (l : Lookups) (m : Memo) (floats : Floats) (steps : ℕ) (w : World) (f : Frame) → IsInRun l m steps w f → insn_of f ≡ None → IsForm l floats steps w w f f effect.Stuck
formless l m floats steps w f r is =
    let n = names_in l in
    let low = r.paced in
    record {
      effect = λ o. sym (ap (λ (form : Option Form). name.effect_of (setting_in l o floats) form (world_of n w) (frame_of n f)) (form_there l m steps w f r None is));
      fine = tt;
      sound = r.sound;
      frame = r.frame;
      paced = omega (arith, low);
      more = omega arith;
      locks = refl;
      left = record { kept = same f };
      world = record { kept = same_world w };
    }

-- ---- by what `act` answers

pub formed_by : (l : Lookups) (m : Memo) (floats : Floats) (steps : ℕ) (w w' : World) (f f' : Frame) (x : Insn) (r : Result Effect AllocError) → IsInRun l m steps w f → insn_of f ≡ Some x → IfOk r (IsActed l floats steps x w w' f f') → IfOk r (λ (e : Effect). Leaves e f f') → IfOk r (λ (e : Effect). LeavesWorld e w w')
    → IfOk r (IsForm l floats steps w w' f f')
formed_by l m floats steps w w' f f' x (Ok e) run is acted left world = formed l m floats steps w w' f f' x e run is acted left world
formed_by l m floats steps w w' f f' x (Err k) run is acted left world = acted

pub unformed_by : (w w' : World) (f f' : Frame) (r : Result Effect AllocError) → OnErr r (IsSameWorld w w') → OnErr r (IsSame f f') → OnErr r (IsUndoneIn w w' f f')
unformed_by w w' f f' (Ok e) world frame = frame
unformed_by w w' f f' (Err k) world frame = record { world = world; frame = frame }

-- ---- in a method of the stack

pub method_same : (w : Waiting) (f g : Frame) → w ≡ waiting.Method f → w ≡ waiting.Method g → f ≡ g
method_same w f g a b = let same : waiting.Method f ≡ waiting.Method g = sym a ∙ b in cc

pub formed_in : (l : Lookups) (floats : Floats) (steps : ℕ) (w w' : World) (f g : Frame) (r : Result Effect AllocError) → IfOk r (IsForm l floats steps w w' f g) → IfOk r (λ (e : Effect). IsInMethod (λ (h : Frame). IsForm l floats steps w w' f h e) (waiting.Method g))
formed_in l floats steps w w' f g (Ok e) h = record { frame = g; is = refl; so = h }
formed_in l floats steps w w' f g (Err k) h = h

pub unformed_in : (w w' : World) (f g : Frame) (r : Result Effect AllocError) → OnErr r (IsUndoneIn w w' f g) → OnErr r (IsInMethod (IsUndoneIn w w' f) (waiting.Method g))
unformed_in w w' f g (Ok e) h = h
unformed_in w w' f g (Err k) h = record { frame = g; is = refl; so = h }
