-- The framework is shown a call.
use Rattle.std.proofs.Common.{◌≡◌, ℕ, ◌+◌, ◌≤◌, Bool, List, length, arith, ap, refl, sym, subst, ◌∙◌}
use Rattle.std.specs.Prelude.{slice_get, Some}
use Rattle.insn_set.specs.declared.ops.InvokeKind.{InvokeKind}
use Rattle.program_model.specs.declared.pass.Outside.{Outside}
use Rattle.dalvik_defs.specs.Names.{Text, proto_text}
use Rattle.dalvik_defs.specs.Outcome.{calls_out, passed_types, Leaves}
use Rattle.dalvik_defs.specs.Show.{show_all}
use Rattle.dalvik_defs.specs.State.{World as NamedWorld}
use Rattle.dalvik_defs.specs.declared.events.Event.{Event}
use Rattle.dalvik_defs.specs.declared.events.Event.TheVariants as event
use Rattle.dalvik_defs.specs.declared.events.Shown.{Shown}
use Rattle.dalvik_defs.specs.declared.names.MethodKey.{MethodKey}
use Rattle.dalvik_defs.specs.declared.script.Move.{Move}
use Rattle.dalvik_defs.specs.declared.state.Value.{Value}
use Rattle.dalvik_defs.specs.declared.tables.Floats.{Floats}
use Rattle.dalvik_lookups.specs.Views.{type_text}
use Rattle.dalvik_lookups.specs.declared.types.Kind.{Kind}
use Rattle.dalvik_lookups.specs.declared.lookups.Lookups.{Lookups}
use Rattle.dalvik_state.specs.declared.frame.Frame.{Frame}
use Rattle.dalvik_state.specs.declared.state.State.{State}
use Rattle.dalvik_state.specs.declared.world.World.{World}
use Rattle.dalvik_state.specs.Drafts.{AreAllShown}
use Rattle.dalvik_state.specs.Runs.{comes_of, world_in, IsEvent}
use Rattle.dalvik_state.specs.States.{IsFineKind, IsRunning}
use Rattle.dalvik_steps.specs.Reaching.{IsAsked, IsStep, Turns}
use Rattle.dalvik_steps.proofs.Leaving.{asked_left}

module _ (l : Lookups) (steps : ℕ) (old : State) (r : IsRunning l steps old) where
  pub turns_all : (w : World) (kinds : List Text) (vs : List Value) (s : List Shown) → AreAllShown l kinds vs old.world w s → Turns l steps old (record old { world = w }) (show_all (world_in l old) kinds vs).0
  turns_all w kinds vs s h = record {
    named = ap (λ (x : NamedWorld × List Shown). x.0) (sym h.shown);
    sound = h.sound;
    more = (let size = h.stands.size in omega (arith, size));
    held = λ i e g. (let most = r.held i e (ap (λ m. slice_get m.entries i) (sym h.stands.locks) ∙ g) in omega (arith, most));
    stack = refl;
    statuses = refl;
    next = refl;
    ended = refl;
  }

module _ (l : Lookups) (o : Outside) (floats : Floats) (script : List Move) (steps : ℕ) (f : Frame) (old : State) (h : IsStep l steps old f) where
  pub asked_call : (new : State) (w : World) (kind : InvokeKind) (static : Bool) (k : MethodKey) (vs : List Value) (s : List Shown) (e : Event) (owes : Kind) → AreAllShown l (passed_types static k) vs old.world w s → type_text l.types owes ≡ k.signature.result → IsFineKind l owes → IsAsked (record old { world = w }) new owes
      → e ≡ event.Call kind k.class k.name (proto_text k.signature) s → IsEvent l steps script new (Some e) (comes_of l o floats script old f (calls_out kind static k vs (world_in l old)))
  asked_call new w kind static k vs s e owes shown text fine asked same =
      let left = asked_left l steps script old (record old { world = w }) new (show_all (world_in l old) (passed_types static k) vs).0 h.state h.early h.on (turns_all l steps old h.state w (passed_types static k) vs s shown) f h.top owes fine asked in
      subst (λ (t : Text). IsEvent l steps script new (Some e) (comes_of l o floats script old f (Leaves (show_all (world_in l old) (passed_types static k) vs).0 t (event.Call kind k.class k.name (proto_text k.signature) (show_all (world_in l old) (passed_types static k) vs).1)))) text (record {
        left = left;
        shown = ap (λ (x : Event). Some x) (same ∙ ap (λ (y : NamedWorld × List Shown). event.Call kind k.class k.name (proto_text k.signature) y.1) (sym shown.shown));
      })
