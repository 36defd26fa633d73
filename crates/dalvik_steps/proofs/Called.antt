-- What becomes of a call, by what it finds.
use Rattle.std.proofs.Common.{◌≡◌, ℕ, ◌<◌, Bool, true, false, List, [], length, ap, refl, sym, subst, ◌∙◌, Ok, Err, Result}
use Rattle.std.specs.Prelude.{◌==◌, ◌&&◌, ◌^◌, IfOk, OnErr, Option, Some, None, slice_get}
use Rattle.std.specs.Int.RustNames.{bit_and}
use Rattle.std.specs.declared.alloc.AllocError.{AllocError}
use Rattle.insn_set.specs.declared.ops.InvokeKind.{InvokeKind}
use Rattle.program_model.specs.declared.pass.Outside.{Outside}
use Rattle.program_model.specs.declared.program.Method.{Method}
use Rattle.name_bridge.proofs.Flags.{native_flag, static_flag}
use Rattle.dalvik_defs.specs.Effect.{next}
use Rattle.dalvik_defs.specs.Find.{Found}
use Rattle.dalvik_defs.specs.Flags.{is_native, is_static}
use Rattle.dalvik_defs.specs.Known.{abstract_method}
use Rattle.dalvik_defs.specs.Names.{Text, method_eq, object_constructor}
use Rattle.dalvik_defs.specs.Outcome.{calls_found, calls_out, calls_ready, calls_uncoded, calls_unfound, faults, is_direct, native_kind, takes_no_receiver, when_ready, Enters, Need, Outcome, Stays}
use Rattle.dalvik_defs.specs.State.{World as NamedWorld}
use Rattle.dalvik_defs.specs.declared.state.Frame.{Frame as NamedFrame}
use Rattle.dalvik_defs.specs.declared.state.Value.{Value}
use Rattle.dalvik_defs.specs.declared.state.Value.TheVariants.{Word}
use Rattle.dalvik_defs.specs.declared.events.Event.{Event}
use Rattle.dalvik_defs.specs.declared.names.MethodKey.{MethodKey}
use Rattle.dalvik_defs.specs.declared.script.Move.{Move}
use Rattle.dalvik_defs.specs.declared.tables.Floats.{Floats}
use Rattle.dalvik_lookups.specs.Tables.{IsRight}
use Rattle.dalvik_lookups.specs.Views.{known_names}
use Rattle.dalvik_lookups.specs.Walks.{IsKept}
use Rattle.dalvik_lookups.specs.declared.lookups.Lookups.{Lookups}
use Rattle.dalvik_lookups.specs.declared.memo.Memo.{Memo}
use Rattle.dalvik_state.specs.Runs.{classes_in, comes_of, script_in, stack_in, world_in, IsEvent, IsNext, IsRun}
use Rattle.dalvik_state.specs.States.{top_frame, ChangesTop, KeepsRest}
use Rattle.dalvik_state.specs.Views.{frame_of, names_in, AreFine}
use Rattle.dalvik_state.specs.Worlds.{spots_of}
use Rattle.dalvik_state.specs.declared.datum.Datum.{Datum}
use Rattle.dalvik_state.specs.declared.frame.Frame.{Frame}
use Rattle.dalvik_state.specs.declared.state.State.{State}
use Rattle.dalvik_state.proofs.Tops.{top_named, top_there}
use Rattle.dalvik_steps.specs.Backs.{Backs}
use Rattle.dalvik_steps.specs.Entries.{thrown_by}
use Rattle.dalvik_steps.specs.Invoking.{IsFound}
use Rattle.dalvik_steps.specs.Reaching.{IsStep}
use Rattle.dalvik_steps.specs.declared.throwing.Thrown.TheVariants as thrown
use Rattle.dalvik_steps.proofs.Handing.{given, goes_back}
use Rattle.dalvik_steps.proofs.Outcomes.{faulted, ready_next}

-- ---- flags

pub native_test : (l : Lookups) (g : Found) (own : Method) (b c : Bool) → IsFound l g own → b ≡ (bit_and own.flags.0 256 == 256) → b ≡ c → is_native g.flags ≡ c
native_test l g own b c h e same = ap is_native h.flags ∙ sym (native_flag own.flags) ∙ sym e ∙ same

pub static_test : (l : Lookups) (g : Found) (own : Method) (b c : Bool) → IsFound l g own → b ≡ (bit_and own.flags.0 8 == 8) → b ≡ c → is_static g.flags ≡ c
static_test l g own b c h e same = ap is_static h.flags ∙ sym (static_flag own.flags) ∙ sym e ∙ same

-- ---- by names

module _ (kind : InvokeKind) (g : Found) (values : List Value) (w : NamedWorld) where
  pub uncoded_by : (b : Bool) → is_native g.flags ≡ b → calls_uncoded kind g values w ≡ elim b as (λ b. Outcome) [ true ↦ calls_out (native_kind kind) (takes_no_receiver kind) g.key values w | false ↦ faults w abstract_method ]
  uncoded_by b e = ap (λ (x : Bool). elim x as (λ x. Outcome) [ true ↦ calls_out (native_kind kind) (takes_no_receiver kind) g.key values w | false ↦ faults w abstract_method ]) e

  pub native_called : (own : InvokeKind) (static : Bool) (key : MethodKey) → own ≡ native_kind kind → static ≡ takes_no_receiver kind → g.key ≡ key → is_native g.flags ≡ true → calls_out own static key values w ≡ calls_uncoded kind g values w
  native_called own static key k s e native = (λ i. calls_out (k i) (s i) (sym e i) values w) ∙ sym (uncoded_by true native)

  pub found_by : (b : Bool) → g.coded ≡ b → calls_found kind g values w ≡ elim b as (λ b. Outcome) [ true ↦ Enters g.key values | false ↦ calls_uncoded kind g values w ]
  found_by b e = ap (λ (x : Bool). elim x as (λ x. Outcome) [ true ↦ Enters g.key values | false ↦ calls_uncoded kind g values w ]) e

  pub found_enters : (key : MethodKey) → g.key ≡ key → g.coded ≡ true → Enters key values ≡ calls_found kind g values w
  found_enters key e coded = ap (λ (k : MethodKey). Enters k values) (sym e) ∙ sym (found_by true coded)

  pub ready_by : (need : Text → Need) (b : Bool) → is_static g.flags ≡ b → calls_ready need kind g values w ≡ elim b as (λ b. Outcome) [ true ↦ when_ready (need g.key.class) w g.key.class (calls_found kind g values w) | false ↦ calls_found kind g values w ]
  ready_by need b e = ap (λ (x : Bool). elim x as (λ x. Outcome) [ true ↦ when_ready (need g.key.class) w g.key.class (calls_found kind g values w) | false ↦ calls_found kind g values w ]) e

pub unfound_by : (kind : InvokeKind) (k : MethodKey) (values : List Value) (w : NamedWorld) (f : NamedFrame) (b : Bool) → (is_direct kind && method_eq k object_constructor) ≡ b
    → calls_unfound kind k values w f ≡ elim b as (λ b. Outcome) [ true ↦ Stays w (next (record f { result = Word 0 })) None | false ↦ calls_out kind (takes_no_receiver kind) k values w ]
unfound_by kind k values w f b e = ap (λ (x : Bool). elim x as (λ x. Outcome) [ true ↦ Stays w (next (record f { result = Word 0 })) None | false ↦ calls_out kind (takes_no_receiver kind) k values w ]) e

-- ---- a new object of a known class is thrown

pub faulted_of : (l : Lookups) (o : Outside) (floats : Floats) (script : List Move) (steps : ℕ) (old : State) (f : Frame) → top_frame old.stack.items ≡ Some f → IsRight l → (m : Memo) (new : State) (number : ℕ) (c : Text) → slice_get known_names number ≡ Some c
    → (r : Result (Option Event) AllocError) → IfOk r (λ (e : Option Event). IsNext l steps script m new e (thrown_by l (thrown.New number) (world_in l old) (classes_in l old) (stack_in l script old) (script_in script old)))
    → IfOk r (λ (e : Option Event). IsNext l steps script m new e (comes_of l o floats script old f (faults (world_in l old) c)))
faulted_of l o floats script steps old f top right m new number c known (Ok e) h = faulted l o floats script steps old f top right m new e number c known h
faulted_of l o floats script steps old f top right m new number c known (Err x) h = h

-- ---- a class is ready

pub ready_of : (l : Lookups) (o : Outside) (floats : Floats) (script : List Move) (steps : ℕ) (old : State) (f : Frame) → top_frame old.stack.items ≡ Some f → (m : Memo) (new : State) (need : Need) (c : Text) (now : Outcome) → need ≡ Need.Ready
    → (r : Result (Option Event) AllocError) → IfOk r (λ (e : Option Event). IsNext l steps script m new e (comes_of l o floats script old f now))
    → IfOk r (λ (e : Option Event). IsNext l steps script m new e (comes_of l o floats script old f (when_ready need (world_in l old) c now)))
ready_of l o floats script steps old f top m new need c now is (Ok e) h = ready_next l o floats script steps old f top m new e need c now is h
ready_of l o floats script steps old f top m new need c now is (Err x) h = h

-- ---- the constructor of Object does nothing

pub went_on : (l : Lookups) (o : Outside) (floats : Floats) (script : List Move) (steps : ℕ) (f : Frame) (old new : State) → IsStep l steps old f → ChangesTop (Backs None) old.stack.items new.stack.items → KeepsRest old new
    → (kind : InvokeKind) (k : MethodKey) (values : List Value) → (is_direct kind && method_eq k object_constructor) ≡ true
    → IsEvent l steps script new None (comes_of l o floats script old f (calls_unfound kind k values (world_in l old) (frame_of (names_in l) f)))
went_on l o floats script steps f old new h changes k kind key values is = subst (λ (x : Outcome). IsEvent l steps script new None (comes_of l o floats script old f x)) (sym (unfound_by kind key values (world_in l old) (frame_of (names_in l) f) true is))
    (subst (IsEvent l steps script new None) (ap (given l h.right steps h.early script old new h.state h.on None []) (top_named (names_in l) script old.stack.items f h.top))
    (goes_back l h.right steps h.early script old new h.state h.on None [] tt f (top_there old.stack.items f h.top) (record { stack = changes; rest = k })))

pub ready_run : (l : Lookups) (steps : ℕ) (m n : Memo) (old new : State) → new ≡ old → IsKept l n → IsRun l m steps old → IsRun l n steps new
ready_run l steps m n old new same k r = subst (IsRun l n steps) (sym same) (record { right = r.right; kept = k; state = r.state; early = r.early; on = r.on })

pub ready_top : (old new : State) (f : Frame) → new ≡ old → top_frame old.stack.items ≡ Some f → top_frame new.stack.items ≡ Some f
ready_top old new f same top = ap (λ (s : State). top_frame s.stack.items) same ∙ top

pub ready_fine : (l : Lookups) (old new : State) (values : List Datum) → new ≡ old → AreFine (names_in l) (length (spots_of old.world)) values → AreFine (names_in l) (length (spots_of new.world)) values
ready_fine l old new values same fine = subst (λ (s : State). AreFine (names_in l) (length (spots_of s.world)) values) (sym same) fine

pub run_kept : (l : Lookups) (steps : ℕ) (m n : Memo) (s : State) → IsKept l n → IsRun l m steps s → IsRun l n steps s
run_kept l steps m n s k r = record { right = r.right; kept = k; state = r.state; early = r.early; on = r.on }
