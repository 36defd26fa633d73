-- Steps that change the world or show something, by their parts.
use Rattle.std.proofs.Common.{◌≡◌, ℕ, ◌+◌, ◌<◌, ◌≤◌, Bool, true, false, true≢false, List, [], ◌∷◌, ◌++◌, length, map, arith, ap, refl, sym, subst, ◌∙◌}
use Rattle.std.specs.Prelude.{Option, Some, None, slice_get}
use Rattle.program_model.specs.declared.pass.Outside.{Outside}
use Rattle.dalvik_defs.specs.Effect.{next}
use Rattle.dalvik_defs.specs.Names.{Text}
use Rattle.dalvik_defs.specs.Outcome.{reads_out, writes_out, written, Leaves, Stays}
use Rattle.dalvik_defs.specs.Show.{show, show_option}
use Rattle.dalvik_defs.specs.State.{World as NamedWorld}
use Rattle.dalvik_defs.specs.declared.events.Event.{Event}
use Rattle.dalvik_defs.specs.declared.events.Event.TheVariants as event
use Rattle.dalvik_defs.specs.declared.events.Shown.{Shown}
use Rattle.dalvik_defs.specs.declared.names.FieldKey.{FieldKey}
use Rattle.dalvik_defs.specs.declared.script.Move.{Move}
use Rattle.dalvik_defs.specs.declared.state.Value.{Value}
use Rattle.dalvik_defs.specs.declared.tables.Floats.{Floats}
use Rattle.dalvik_lookups.specs.Views.{type_text}
use Rattle.dalvik_lookups.specs.declared.lookups.Lookups.{Lookups}
use Rattle.dalvik_lookups.specs.declared.types.Kind.{Kind}
use Rattle.dalvik_state.specs.declared.frame.Frame.{Frame}
use Rattle.dalvik_state.specs.declared.shows.Draft.{Draft}
use Rattle.dalvik_state.specs.declared.state.State.{State}
use Rattle.dalvik_state.specs.declared.world.World.{World}
use Rattle.dalvik_state.specs.Drafts.{AreShown, IsDraft, IsLater, IsShown}
use Rattle.dalvik_state.specs.Frames.{GoesOn}
use Rattle.dalvik_state.specs.Runs.{comes_of, world_in, IsEvent}
use Rattle.dalvik_state.specs.States.{ChangesTop, IsFineKind, IsRunning, KeepsRest}
use Rattle.dalvik_state.specs.Views.{frame_of, names_in, world_of}
use Rattle.dalvik_state.specs.Worlds.{spot_of, spots_of}
use Rattle.dalvik_state.proofs.Later.{draft_later, later_self, later_show}
use Rattle.dalvik_steps.specs.Reaching.{AreTextsOf, IsAsked, IsPut, IsStep, Rewrites, Turns}
use Rattle.dalvik_steps.specs.declared.fields.FieldTexts.{FieldTexts}
use Rattle.dalvik_steps.proofs.Leaving.{asked_left, ended_left, goes_on_left}

module _ (l : Lookups) (steps : ℕ) (old : State) (r : IsRunning l steps old) where
  -- something was shown
  pub turns_option : (w : World) (kind : Text) (v : Option Value) (s : Option Shown) → AreShown l kind v old.world w s → Turns l steps old (record old { world = w }) (show_option (world_in l old) kind v).0
  turns_option w kind v s h = record {
    named = ap (λ (x : NamedWorld × Option Shown). x.0) (sym h.shown);
    sound = h.sound;
    more = (let size = h.stands.size in omega (arith, size));
    held = λ i e g. (let most = r.held i e (ap (λ m. slice_get m.entries i) (sym h.stands.locks) ∙ g) in omega (arith, most));
    stack = refl;
    statuses = refl;
    next = refl;
    ended = refl;
  }

  -- one value after another
  pub turns_two : (u w : World) (kind declared : Text) (v : Option Value) (x : Value) (s : Option Shown) (t : Shown) → AreShown l kind v old.world u s → IsShown l declared x u w t
      → Turns l steps old (record old { world = w }) (show (show_option (world_in l old) kind v).0 declared x).0
  turns_two u w kind declared v x s t h g = record {
    named = ap (λ (y : NamedWorld × Shown). y.0) (sym g.shown) ∙ ap (λ (y : NamedWorld × Option Shown). (show y.0 declared x).0) (sym h.shown);
    sound = g.sound;
    more = (let size = h.stands.size in let same = g.stands.size in omega (arith, size, same));
    held = λ i e k. (let most = r.held i e (ap (λ m. slice_get m.entries i) (sym (g.stands.locks ∙ h.stands.locks)) ∙ k) in omega (arith, most));
    stack = refl;
    statuses = refl;
    next = refl;
    ended = refl;
  }

  -- fields were written
  pub turns_rewritten : (w : World) (named : NamedWorld) → Rewrites l old.world w named → Turns l steps old (record old { world = w }) named
  turns_rewritten w named h = record {
    named = h.named;
    sound = h.sound;
    more = (let size : length (spots_of w) ≡ length (spots_of old.world) = ap (λ hs. length (map spot_of hs.items)) h.heap in omega (arith, size));
    held = λ i e g. (let most = r.held i e (ap (λ m. slice_get m.entries i) (sym h.locks) ∙ g) in omega (arith, most));
    stack = refl;
    statuses = refl;
    next = refl;
    ended = refl;
  }

later_option : (w : NamedWorld) (kind : Text) (v : Option Value) → IsLater w (show_option w kind v).0
later_option w kind None = later_self w
later_option w kind (Some v) = later_show w kind v

-- a draft stays one where something else is shown before
pub draft_after : (l : Lookups) (kind declared : Text) (v : Option Value) (x : Value) (d : Draft) (old new : World) (s : Option Shown) → AreShown l kind v old new s → IsDraft (world_of (names_in l) old) declared x d → IsDraft (world_of (names_in l) new) declared x d
draft_after l kind declared v x d old new s h g =
    let later : IsLater (world_of (names_in l) old) (world_of (names_in l) new) = subst (IsLater (world_of (names_in l) old)) (ap (λ (y : NamedWorld × Option Shown). y.0) h.shown) (later_option (world_of (names_in l) old) kind v) in
    draft_later (world_of (names_in l) old) (world_of (names_in l) new) declared x d later g

module _ (l : Lookups) (o : Outside) (floats : Floats) (script : List Move) (steps : ℕ) (f : Frame) (old : State) (h : IsStep l steps old f) where
  -- the framework is asked for a field
  pub asked_field : (new : State) (w : World) (field : ℕ) (k : FieldKey) (on : Option Value) (s : Option Shown) (e : Event) (kind : Kind) → AreShown l k.class on old.world w s → type_text l.types kind ≡ k.kind → IsFineKind l kind → IsAsked (record old { world = w }) new kind
      → e ≡ event.Get k.class k.name k.kind s → IsEvent l steps script new (Some e) (comes_of l o floats script old f (reads_out k on (world_in l old)))
  asked_field new w field k on s e kind shown text fine asked same =
      let left = asked_left l steps script old (record old { world = w }) new (show_option (world_in l old) k.class on).0 h.state h.early h.on (turns_option l steps old h.state w k.class on s shown) f h.top kind fine asked in
      subst (λ (t : Text). IsEvent l steps script new (Some e) (comes_of l o floats script old f (Leaves (show_option (world_in l old) k.class on).0 t (event.Get k.class k.name k.kind (show_option (world_in l old) k.class on).1)))) text (record {
        left = left;
        shown = ap (λ (x : Event). Some x) (same ∙ ap (λ (y : NamedWorld × Option Shown). event.Get k.class k.name k.kind y.1) (sym shown.shown));
      })

  -- it is shown that a field is written
  pub wrote_field : (mid new : State) (u w : World) (k : FieldKey) (on : Option Value) (v : Value) (s : Option Shown) (t : Shown) (e : Event) → AreShown l k.class on old.world u s → IsShown l k.kind v u w t → mid ≡ record old { world = w }
      → ChangesTop (λ (f g : Frame). GoesOn f g f.registers.items) mid.stack.items new.stack.items → KeepsRest mid new → e ≡ event.Put k.class k.name k.kind s t
      → IsEvent l steps script new (Some e) (comes_of l o floats script old f (writes_out k on v (world_in l old) (frame_of (names_in l) f)))
  wrote_field mid new u w k on v s t e shown after is changes rest same =
      let turned = turns_two l steps old h.state u w k.class k.kind on v s t shown after in
      record {
        left = goes_on_left l steps script old mid new (show (show_option (world_in l old) k.class on).0 k.kind v).0 h.state h.early h.on (subst (λ (m : State). Turns l steps old m (show (show_option (world_in l old) k.class on).0 k.kind v).0) (sym is) turned) f h.top changes rest;
        shown = ap (λ (x : Event). Some x) (same ∙ sym (λ i. event.Put k.class k.name k.kind (shown.shown i).1 ((ap (λ (y : NamedWorld × Option Shown). show y.0 k.kind v) shown.shown ∙ after.shown) i).1));
      }

  -- a field was written, and the frame goes on
  pub goes_written : (mid new : State) (w : World) (named : NamedWorld) → Rewrites l old.world w named → mid ≡ record old { world = w } → ChangesTop (λ (f g : Frame). GoesOn f g f.registers.items) mid.stack.items new.stack.items → KeepsRest mid new
      → IsEvent l steps script new None (comes_of l o floats script old f (Stays named (next (frame_of (names_in l) f)) None))
  goes_written mid new w named put is changes rest = record {
    left = goes_on_left l steps script old mid new named h.state h.early h.on (subst (λ (m : State). Turns l steps old m named) (sym is) (turns_rewritten l steps old h.state w named put)) f h.top changes rest;
    shown = refl;
  }

  pub put_true : (mid new : State) (w : World) (named : Option NamedWorld) → IsPut l old.world w true named → mid ≡ record old { world = w } → ChangesTop (λ (f g : Frame). GoesOn f g f.registers.items) mid.stack.items new.stack.items → KeepsRest mid new
      → IsEvent l steps script new None (comes_of l o floats script old f (written named (frame_of (names_in l) f)))
  put_true mid new w (Some named) put is changes rest = goes_written mid new w named put is changes rest
  put_true mid new w None put is changes rest = absurd put

  pub put_false : (mid : State) (w : World) (named : Option NamedWorld) → IsPut l old.world w false named → IsEvent l steps script (record mid { ended = true }) None (comes_of l o floats script old f (written named (frame_of (names_in l) f)))
  put_false mid w None put = record { left = ended_left l steps script mid; shown = refl }
  put_false mid w (Some named) put = absurd put
