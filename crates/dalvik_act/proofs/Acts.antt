-- What an instruction does, from what is shown of the groups of instructions.
use Rattle.std.proofs.Common.{◌≡◌, ℕ, ◌+◌, ◌<◌, ◌≤◌, Bool, true, false, List, length, arith, ap, refl, sym, ◌∙◌}
use Rattle.std.specs.Prelude.{◌^◌, Option, Some, None, Ok, Err, IfOk, IsTrue}
use Rattle.std.specs.declared.result.Result.{Result}
use Rattle.insn_set.specs.declared.form.Insn.{Insn}
use Rattle.insn_set.specs.declared.form.Insn.TheVariants as insn
use Rattle.dalvik_defs.specs.Act.{act}
use Rattle.dalvik_defs.specs.Naming.{form_of}
use Rattle.dalvik_defs.specs.State.{World}
use Rattle.dalvik_defs.specs.declared.tables.Floats.{Floats}
use Rattle.dalvik_numbers.specs.Rows.{IsTable}
use Rattle.dalvik_lookups.specs.Facing.{run_face}
use Rattle.dalvik_lookups.specs.Tables.{IsRight}
use Rattle.dalvik_lookups.specs.declared.lookups.Lookups.{Lookups}
use Rattle.dalvik_lookups.specs.declared.memo.Memo.{Memo}
use Rattle.dalvik_state.specs.declared.effect.Effect.{Effect}
use Rattle.dalvik_state.specs.declared.frame.Frame.{Frame}
use Rattle.dalvik_state.specs.declared.state.Tables.{Tables}
use Rattle.dalvik_state.specs.declared.world.World.{World as OwnWorld}
use Rattle.dalvik_state.specs.Effects.{effect_of}
use Rattle.dalvik_state.specs.Views.{Names, frame_of, names_in, world_of}
use Rattle.dalvik_state.specs.Worlds.{IsSameWorld, IsShort, spots_of}
use Rattle.dalvik_state.proofs.Running.{sound_frame_more, sound_same_code}
use Rattle.dalvik_state.proofs.Things.{heap_named}
use Rattle.name_bridge.proofs.Tables.{sound}
use Rattle.dalvik_act.specs.Acted.{ActsUnder, Fits, IsActed, IsActing, IsAsking, IsReady, IsSafeIn, NamesArray}
use Rattle.dalvik_act.specs.Acting.{ActsIn, ActsLocked, ActsNamed, ActsTabled, ActsWith, Knows, is_array_form, is_constant, is_exact, is_get, is_length, is_monitor, is_still, is_tested}
use Rattle.dalvik_act.proofs.Bodies.{frame_insn, placed_of, switch_keys}
use Rattle.dalvik_act.proofs.Tabled.{apart_named, knows_named}

pub same_named : (n : Names) (w w' : OwnWorld) → IsSameWorld w w' → world_of n w' ≡ world_of n w
same_named n w w' h = heap_named n w w' (spots_of w) h

-- what an instruction of a run asks
pub asking_of : (l : Lookups) (m : Memo) (steps : ℕ) (w : OwnWorld) (f : Frame) (x : Insn) → IsActing l m steps w f x → IsAsking l m w f
asking_of l m steps w f x a = record {
  right = a.right;
  kept = a.kept;
  ready = record { sound = a.sound; fine = a.frame.fine; below = let p = a.paced in let e = a.early in omega (arith, p, e) };
}

pub fits_of : (l : Lookups) (m : Memo) (steps : ℕ) (w : OwnWorld) (f : Frame) (x : Insn) → IsActing l m steps w f x → Fits l.program.now x
fits_of l m steps w f x a = frame_insn l a.right (length (spots_of w)) f x a.frame a.is

-- what is shown of the groups
pub record IsGrouped (t : Tables) (m : Memo) (w w' : OwnWorld) (f f' : Frame) (x : Insn) (e : Effect) : Type 0 where
  pub exact : is_exact x ≡ true → ActsIn t.floats x f f' e
  pub still : is_still x ≡ true → IsSameWorld w w'
  pub length : is_length x ≡ true → IsShort (spots_of w) → ActsWith x w w' f f' e
  pub constant : is_constant x ≡ true → ActsTabled t x f f' e
  pub array : is_array_form x ≡ true → ActsNamed t x w w' f f' e
  pub get : is_get x ≡ true → ActsWith x w w' f f' e
  pub test : is_tested x ≡ true → IsAsking t.lookups m w f → Fits t.lookups.program.now x → ActsUnder t.lookups x w w' f f' e
  pub lock : is_monitor x ≡ true → ActsLocked x w f f' e

module _ (t : Tables) (m : Memo) (steps : ℕ) (w w' : OwnWorld) (f f' : Frame) (floats : Floats) (e : Effect) (table : IsTable t.floats floats) where
  -- the effect is that of the definition
  abbrev pub IsOf : Insn → Type 0
  IsOf x = effect_of (names_in t.lookups) e (world_of (names_in t.lookups) w') (frame_of (names_in t.lookups) f') ≡ act (run_face t.lookups).under floats (form_of t.lookups.program.now x) (world_of (names_in t.lookups) w) (frame_of (names_in t.lookups) f)

  module _ (x : Insn) (a : IsActing t.lookups m steps w f x) (g : IsGrouped t m w w' f f' x e) where
    below : f.position < 2 ^ 63
    below = (asking_of t.lookups m steps w f x a).ready.below

    knows : Knows (names_in t.lookups)
    knows = knows_named t.lookups a.right.tabled.named.types

    there : is_still x ≡ true → (world_of (names_in t.lookups) w') ≡ (world_of (names_in t.lookups) w)
    there s = same_named (names_in t.lookups) w w' (g.still s)

    by_exact : is_exact x ≡ true → is_still x ≡ true → IsOf x
    by_exact h s = ap (λ (u : World). effect_of (names_in t.lookups) e u (frame_of (names_in t.lookups) f')) (there s) ∙ g.exact h (run_face t.lookups).under floats (length (spots_of w)) (names_in t.lookups) table knows (apart_named t.lookups a.right.tabled.named.texts) a.frame.fine below (world_of (names_in t.lookups) w)

    by_length : is_length x ≡ true → IsOf x
    by_length h = g.length h a.sound.short (run_face t.lookups).under floats (names_in t.lookups) knows below

    by_constant : is_constant x ≡ true → is_still x ≡ true → IsOf x
    by_constant h s = ap (λ (u : World). effect_of (names_in t.lookups) e u (frame_of (names_in t.lookups) f')) (there s) ∙ g.constant h (run_face t.lookups).under floats a.right.tabled.named (placed_of t.lookups.program.now (sound t.lookups.program.now a.right.well) x (fits_of t.lookups m steps w f x a) a.array) below (world_of (names_in t.lookups) w)

    by_array : is_array_form x ≡ true → IsOf x
    by_array h = g.array h (run_face t.lookups).under floats a.right.tabled.named (placed_of t.lookups.program.now (sound t.lookups.program.now a.right.well) x (fits_of t.lookups m steps w f x a) a.array) below

    by_get : is_get x ≡ true → IsOf x
    by_get h = g.get h (run_face t.lookups).under floats (names_in t.lookups) knows below

    by_test : is_tested x ≡ true → IsOf x
    by_test h = g.test h (asking_of t.lookups m steps w f x a) (fits_of t.lookups m steps w f x a) floats

    by_lock : is_monitor x ≡ true → is_still x ≡ true → IsOf x
    by_lock h s = ap (λ (u : World). effect_of (names_in t.lookups) e u (frame_of (names_in t.lookups) f')) (there s) ∙ g.lock h (run_face t.lookups).under floats (names_in t.lookups) knows (apart_named t.lookups a.right.tabled.named.texts) a.sound.fine.locks a.frame.fine

  by_form : (x : Insn) → IsActing t.lookups m steps w f x → IsGrouped t m w w' f f' x e → IsOf x
  by_form insn.Nop acting groups = by_exact insn.Nop acting groups refl refl
  by_form (insn.Move slot to from) acting groups = by_exact (insn.Move slot to from) acting groups refl refl
  by_form (insn.MoveResult slot to) acting groups = by_exact (insn.MoveResult slot to) acting groups refl refl
  by_form (insn.MoveException to) acting groups = by_exact (insn.MoveException to) acting groups refl refl
  by_form insn.ReturnVoid acting groups = by_exact insn.ReturnVoid acting groups refl refl
  by_form (insn.Return slot from) acting groups = by_exact (insn.Return slot from) acting groups refl refl
  by_form (insn.Const to value) acting groups = by_constant (insn.Const to value) acting groups refl refl
  by_form (insn.ConstWide to value) acting groups = by_constant (insn.ConstWide to value) acting groups refl refl
  by_form (insn.ConstString to string) acting groups = by_constant (insn.ConstString to string) acting groups refl refl
  by_form (insn.ConstClass to kind) acting groups = by_constant (insn.ConstClass to kind) acting groups refl refl
  by_form (insn.MonitorEnter on) acting groups = by_lock (insn.MonitorEnter on) acting groups refl refl
  by_form (insn.MonitorExit on) acting groups = by_lock (insn.MonitorExit on) acting groups refl refl
  by_form (insn.CheckCast on kind) acting groups = by_test (insn.CheckCast on kind) acting groups refl
  by_form (insn.InstanceOf to from kind) acting groups = by_test (insn.InstanceOf to from kind) acting groups refl
  by_form (insn.ArrayLength to from) acting groups = by_length (insn.ArrayLength to from) acting groups refl
  by_form (insn.NewInstance to kind) acting groups = by_exact (insn.NewInstance to kind) acting groups refl refl
  by_form (insn.NewArray to size kind) acting groups = by_array (insn.NewArray to size kind) acting groups refl
  by_form (insn.FilledNewArray kind args) acting groups = by_array (insn.FilledNewArray kind args) acting groups refl
  by_form (insn.FillArray on width items) acting groups = by_array (insn.FillArray on width items) acting groups refl
  by_form (insn.Throw on) acting groups = by_exact (insn.Throw on) acting groups refl refl
  by_form (insn.Goto target) acting groups = by_exact (insn.Goto target) acting groups refl refl
  by_form (insn.PackedSwitch on first targets) acting groups = by_exact (insn.PackedSwitch on first targets) acting groups refl refl
  by_form (insn.SparseSwitch on keys targets) acting groups = by_exact (insn.SparseSwitch on keys targets) acting groups (switch_keys t.lookups.program.now on keys targets (fits_of t.lookups m steps w f (insn.SparseSwitch on keys targets) acting)) refl
  by_form (insn.Cmp op to a b) acting groups = by_exact (insn.Cmp op to a b) acting groups refl refl
  by_form (insn.If test a b target) acting groups = by_exact (insn.If test a b target) acting groups refl refl
  by_form (insn.IfZero test a target) acting groups = by_exact (insn.IfZero test a target) acting groups refl refl
  by_form (insn.ArrayGet item to array index) acting groups = by_get (insn.ArrayGet item to array index) acting groups refl
  by_form (insn.ArrayPut item from array index) acting groups = by_test (insn.ArrayPut item from array index) acting groups refl
  by_form (insn.InstanceGet item to on field) acting groups = by_exact (insn.InstanceGet item to on field) acting groups refl refl
  by_form (insn.InstancePut item from on field) acting groups = by_exact (insn.InstancePut item from on field) acting groups refl refl
  by_form (insn.StaticGet item to field) acting groups = by_exact (insn.StaticGet item to field) acting groups refl refl
  by_form (insn.StaticPut item from field) acting groups = by_exact (insn.StaticPut item from field) acting groups refl refl
  by_form (insn.Invoke kind method args) acting groups = by_exact (insn.Invoke kind method args) acting groups refl refl
  by_form (insn.Unary op to from) acting groups = by_exact (insn.Unary op to from) acting groups refl refl
  by_form (insn.Binary op to a b) acting groups = by_exact (insn.Binary op to a b) acting groups refl refl
  by_form (insn.Literal op to a value) acting groups = by_exact (insn.Literal op to a value) acting groups refl refl

  pub acted_of : (x : Insn) → IsActing t.lookups m steps w f x → IsGrouped t m w w' f f' x e → IsSafeIn t.lookups w w' f f' e → IsActed t.lookups floats steps x w w' f f' e
  acted_of x a g s = record {
    effect = by_form x a g;
    fine = s.safe.effect;
    sound = s.world.sound;
    frame = sound_same_code t.lookups (length (spots_of w')) f f' (sound_frame_more t.lookups (length (spots_of w)) (length (spots_of w')) f s.world.more a.frame) s.safe.frame.code s.safe.frame.fine;
    paced = s.safe.frame.paced steps a.paced;
    more = s.world.more;
    locks = s.world.locks;
  }

-- the same of a result
pub acted_by : {X : Type 0} (t : Tables) (m : Memo) (steps : ℕ) (w w' : OwnWorld) (f f' : Frame) (x : Insn) (r : Result Effect X) (floats : Floats) → IsTable t.floats floats → IsActing t.lookups m steps w f x
    → (is_exact x ≡ true → IfOk r (ActsIn t.floats x f f'))
    → (is_still x ≡ true → IsSameWorld w w')
    → (is_length x ≡ true → IsShort (spots_of w) → IfOk r (ActsWith x w w' f f'))
    → (is_constant x ≡ true → IfOk r (ActsTabled t x f f'))
    → (is_array_form x ≡ true → IfOk r (ActsNamed t x w w' f f'))
    → (is_get x ≡ true → IfOk r (ActsWith x w w' f f'))
    → (is_tested x ≡ true → IsAsking t.lookups m w f → Fits t.lookups.program.now x → IfOk r (ActsUnder t.lookups x w w' f f'))
    → (is_monitor x ≡ true → IfOk r (ActsLocked x w f f'))
    → IfOk r (IsSafeIn t.lookups w w' f f')
    → IfOk r (IsActed t.lookups floats steps x w w' f f')
acted_by t m steps w w' f f' x (Err y) floats table a exact still length constant array get test lock safe = tt
acted_by t m steps w w' f f' x (Ok e) floats table a exact still length constant array get test lock safe =
    acted_of t m steps w w' f f' floats e table x a (record { exact = exact; still = still; length = length; constant = constant; array = array; get = get; test = test; lock = lock }) safe
