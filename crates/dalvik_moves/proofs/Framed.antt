-- A method's frame comes to stand on the framework's, and a class that is needed is initialised first.
use Rattle.std.proofs.Common.{◌≡◌, ℕ, ◌+◌, ◌<◌, ◌≤◌, Bool, true, false, List, [], ◌∷◌, ◌++◌, length, map, min, arith, ap, refl, sym, subst, ◌∙◌, length-append}
use Rattle.std.specs.Prelude.{◌^◌, drop, Option, Some, None, option_and_then, slice_get}
use Rattle.std.specs.Option.{option_map}
use Rattle.program_model.specs.Lookups as look
use Rattle.program_model.specs.declared.pass.Outside.{Outside as OwnOutside}
use Rattle.program_model.specs.declared.program.Class.{Class}
use Rattle.program_model.specs.declared.program.Method.{Method}
use Rattle.program_model.specs.declared.program.MethodAt.{MethodAt}
use Rattle.name_bridge.specs.Named.{found_at, found_of, found_there}
use Rattle.dalvik_defs.specs.Face.{Bodies}
use Rattle.dalvik_defs.specs.Find.{Found, found_in}
use Rattle.dalvik_defs.specs.Flags.{is_static}
use Rattle.dalvik_defs.specs.Gives.{gets_all, spread}
use Rattle.dalvik_defs.specs.Happens.{Setting}
use Rattle.dalvik_defs.specs.Known.{no_class}
use Rattle.dalvik_defs.specs.Legal.{may_enter}
use Rattle.dalvik_defs.specs.Moves.{enter, entered, needs}
use Rattle.dalvik_defs.specs.Names.{Text, throwable_type}
use Rattle.dalvik_defs.specs.Naming.{named_class, named_method}
use Rattle.dalvik_defs.specs.Outcome.{need_of, Need, Ready}
use Rattle.dalvik_defs.specs.Show.{show}
use Rattle.dalvik_defs.specs.Stack.{enters, enters_body, entry_frame, starts, throws_new}
use Rattle.dalvik_defs.specs.State.{Classes, Ended, Next, On, State as NamedState, World as NamedWorld, fresh, next_object, quiet, with_thing}
use Rattle.dalvik_defs.specs.declared.events.Event.{Event}
use Rattle.dalvik_defs.specs.declared.events.Event.TheVariants as event
use Rattle.dalvik_defs.specs.declared.names.MethodKey.{MethodKey}
use Rattle.dalvik_defs.specs.declared.program.NamedBody.{NamedBody}
use Rattle.dalvik_defs.specs.declared.script.Given.{Given}
use Rattle.dalvik_defs.specs.declared.script.Move.{Move}
use Rattle.dalvik_defs.specs.declared.state.Frame.{Frame as NamedFrame}
use Rattle.dalvik_defs.specs.declared.state.Value.{Value}
use Rattle.dalvik_defs.specs.declared.state.Waiting.{Waiting as NamedWaiting}
use Rattle.dalvik_defs.specs.declared.state.Waiting.TheVariants.{Method as InMethod, Outside}
use Rattle.dalvik_defs.specs.declared.tables.Floats.{Floats}
use Rattle.dalvik_lookups.specs.Facing.{run_face}
use Rattle.dalvik_lookups.specs.Views.{type_text}
use Rattle.dalvik_lookups.specs.Walks.{IsKept}
use Rattle.dalvik_lookups.specs.declared.lookups.Lookups.{Lookups}
use Rattle.dalvik_lookups.specs.declared.memo.Memo.{Memo}
use Rattle.dalvik_lookups.specs.declared.types.Kind.{Kind}
use Rattle.dalvik_state.specs.declared.frame.Frame.{Frame}
use Rattle.dalvik_state.specs.declared.gifts.Gifts.{Gifts}
use Rattle.dalvik_state.specs.declared.state.State.{State}
use Rattle.dalvik_state.specs.declared.state.Waiting.{Waiting}
use Rattle.dalvik_state.specs.declared.state.Waiting.TheVariants as waiting
use Rattle.dalvik_state.specs.declared.world.World.{World}
use Rattle.dalvik_state.specs.Drafts.{give_all, gift_spots, given_things, given_world}
use Rattle.dalvik_state.specs.Giving.{AreGiven, IsGiven}
use Rattle.dalvik_state.specs.Runs.{below_in, bodies_in, classes_in, need_in, script_in, setting_in, stack_in, world_in, IsEvent, IsLeft, IsNext}
use Rattle.dalvik_state.specs.States.{class_text, classes_of, pending_top, stack_of, AreKinds, IsRunning, IsSoundFrame}
use Rattle.dalvik_state.specs.Views.{frame_of, names_in}
use Rattle.dalvik_state.specs.Worlds.{new_spot, spots_of, IsShort, Spot}
use Rattle.dalvik_state.proofs.Running.{one_paced, paced_pushed, pending_paced, pending_sound, pushed_named, running_held, running_more, running_of, running_paced, running_stack, sound_pushed, stack_more, AreHeld, ArePaced, AreSoundWaiting}
use Rattle.dalvik_steps.specs.Entries.{takes, HasFailed, IsStarted}
use Rattle.dalvik_steps.specs.Turns.{IsAsItWas}
use Rattle.dalvik_steps.proofs.Taking.{entered_by, not_entered}
use Rattle.dalvik_steps.proofs.Undone.{sound_same, world_same}
use Rattle.dalvik_moves.specs.Moving.{freed_in, IsMember, IsMoving, MemberMaybe}
use Rattle.dalvik_moves.proofs.Moved.{freed_named, freed_owes, state_on, top_owes}

-- ---- look-ups that were kept

-- the same move, where other look-ups are kept
pub moves_with : (l : Lookups) (o : OwnOutside) (m k : Memo) (script : List Move) (steps : ℕ) (s : State) (owes : Option Kind) (first : Move) (rest : List Move) → IsMoving l o m script steps s owes first rest → IsKept l k → IsMoving l o k script steps s owes first rest
moves_with l o m k script steps s owes first rest h kept = record {
  run = record { right = h.run.right; kept = kept; state = h.run.state; early = h.run.early; on = h.run.on };
  reach = h.reach;
  place = h.place;
  top = h.top;
  waits = h.waits;
  left = h.left;
}

-- ---- the objects of a move, where only room was made

pub gifts_stay : (l : Lookups) (g : Gifts) (old new : World) → IsAsItWas old new → IsGiven l old g → IsGiven l new g
gifts_stay l g old new same h =
    let spots : gift_spots new g ≡ gift_spots old g = ap (λ (ss : List Spot). ss ++ map new_spot g.things.items) same.heap in
    record { sound = sound_same l old new same h.sound; kinds = subst (AreKinds l) (sym spots) h.kinds; short = subst IsShort (sym spots) h.short; fine = h.fine }

pub gifts_from : (l : Lookups) (g : Gifts) (old mid new : World) → IsAsItWas old mid → AreGiven l g mid new → AreGiven l g old new
gifts_from l g old mid new same h = record {
  world = h.world ∙ ap (λ (w : NamedWorld). give_all w (given_things (names_in l) g.things.items)) (world_same (names_in l) old mid same);
  spots = h.spots ∙ ap (λ (ss : List Spot). length (ss ++ map new_spot g.things.items)) same.heap;
  sound = h.sound;
  locks = h.locks ∙ same.locks;
}

-- ---- a frame on top

-- the objects are given, the move is done, and the frame stands on the others
pub record IsFrameOn (l : Lookups) (g : Gifts) (f : Frame) (old new : State) : Type 0 where
  pub given : AreGiven l g old.world new.world
  pub stack : new.stack.items ≡ pending_top None old.stack.items ++ waiting.Method f ∷ []
  pub statuses : new.statuses ≡ old.statuses
  pub next : new.next ≡ old.next
  pub ended : new.ended ≡ old.ended

module _ (l : Lookups) (o : OwnOutside) (m : Memo) (script : List Move) (steps : ℕ) (old : State) (owes : Option Kind) (first : Move) (rest : List Move) (h : IsMoving l o m script steps old owes first rest) where
  frame_runs : (g : Gifts) (f : Frame) (new : State) → IsSoundFrame l (length (gift_spots old.world g)) f → f.position ≡ 0 → IsFrameOn l g f old new → IsRunning l (steps + 1) new
  frame_runs g f new sound start r =
      let size : ℕ = length (spots_of new.world) in
      let more = length-append (spots_of old.world) (map new_spot g.things.items) in
      let count = r.given.spots in
      let low : length (spots_of old.world) ≤ size = omega (arith, more, count) in
      let run = running_more l steps old h.run.state in
      running_of l (steps + 1) new r.given.sound (ap (λ v. length v.items) r.statuses ∙ h.run.state.classes)
      (subst (AreSoundWaiting l size) (sym r.stack)
      (sound_pushed l size (pending_top None old.stack.items) (waiting.Method f) (pending_sound l size None old.stack.items (stack_more l (length (spots_of old.world)) size old.stack.items low (running_stack l (steps + 1) old run))) (subst (λ (k : ℕ). IsSoundFrame l k f) (sym r.given.spots) sound)))
      (subst (ArePaced (2 ^ 32 + (steps + 1))) (sym r.stack)
      (paced_pushed (2 ^ 32 + (steps + 1)) (pending_top None old.stack.items) (waiting.Method f) (pending_paced (2 ^ 32 + (steps + 1)) None old.stack.items (running_paced l (steps + 1) old run)) (one_paced (2 ^ 32 + (steps + 1)) f (omega (arith, start)))))
      (subst (λ x. AreHeld (steps + 1) x.entries) (sym r.given.locks) (running_held l (steps + 1) old run))

  pub frame_on : (g : Gifts) (f : Frame) (new : State) → IsSoundFrame l (length (gift_spots old.world g)) f → f.position ≡ 0 → IsFrameOn l g f old new
      → IsEvent l steps script new None (quiet (On (given_world (names_in l) old.world g) (classes_in l old) (InMethod (frame_of (names_in l) f) ∷ freed_in l script old) rest))
  frame_on g f new sound start r =
      let n = names_in l in
      let w = given_world n old.world g in
      record {
        left = record {
          state = state_on l script new (r.ended ∙ h.run.on)
              ∙ ap (λ (v : NamedWorld). On v (classes_in l new) (stack_in l script new) (script_in script new)) r.given.world
              ∙ ap (λ v. On w (classes_of l.program.now v.items) (stack_in l script new) (script_in script new)) r.statuses
              ∙ ap (λ (ws : List Waiting). On w (classes_in l old) (stack_of n script ws) (script_in script new)) r.stack
              ∙ ap (λ (ws : List NamedWaiting). On w (classes_in l old) ws (script_in script new)) (pushed_named n script (pending_top None old.stack.items) (waiting.Method f))
              ∙ ap (λ (ws : List NamedWaiting). On w (classes_in l old) (InMethod (frame_of n f) ∷ ws) (script_in script new)) (freed_named l o m script steps old owes first rest h (pending_top None old.stack.items) refl)
              ∙ ap (λ (ms : List Move). On w (classes_in l old) (InMethod (frame_of n f) ∷ freed_in l script old) ms) (ap (λ (k : ℕ). drop k script) r.next ∙ h.left);
          running = λ e. frame_runs g f new sound start r;
        };
        shown = refl;
      }

-- ---- a method is entered, by names

module _ (l : Lookups) (w : NamedWorld) (classes : Classes) (key own : MethodKey) (vs registers : List Value) (stack : List NamedWaiting) (rest : List Move) (same : key ≡ own) (all : vs ≡ registers) where
  by_own : enters (bodies_in l) w classes own registers stack rest ≡ enters (bodies_in l) w classes key vs stack rest
  by_own = λ i. enters (bodies_in l) w classes (sym same i) (sym all i) stack rest

  pub enters_named : (f : NamedFrame) (b : NamedBody) → bodies_in l own ≡ Some b → takes (Some b) registers ≡ true → f ≡ entry_frame own registers b → quiet (On w classes (InMethod f ∷ stack) rest) ≡ quiet (enters (bodies_in l) w classes key vs stack rest)
  enters_named f b found fits is =
      ap (λ (g : NamedFrame). quiet (On w classes (InMethod g ∷ stack) rest)) is
      ∙ ap (λ (s : NamedState). quiet s) (sym (entered_by b w classes own registers stack rest fits))
      ∙ ap (λ (c : Option NamedBody). quiet (enters_body c w classes own registers stack rest)) (sym found)
      ∙ ap (λ (s : NamedState). quiet s) by_own

  pub enters_none : takes (bodies_in l own) registers ≡ false → quiet (enters (bodies_in l) w classes key vs stack rest) ≡ quiet Ended
  enters_none none = ap (λ (s : NamedState). quiet s) (sym by_own ∙ not_entered (bodies_in l own) w classes own registers stack rest none)

-- ---- what a move that enters one does, by names

module _ (s : Setting) (find : Bodies) (w v : NamedWorld) (classes : Classes) (f : Found) (gs : List Given) (vs : List Value) (waiting stack : List NamedWaiting) (rest : List Move) where
  abbrev now : Next
  now = quiet (enters find v classes f.key (spread vs) stack rest)

  abbrev once_static : Bool → Next
  once_static b = elim b as (λ b. Next) [
    | true ↦ needs s find (need_of s.face classes f.key.class) w classes f.key.class waiting stack rest now
    | false ↦ now
  ]

  pub entered_static : true ≡ is_static f.flags → needs s find (need_of s.face classes f.key.class) w classes f.key.class waiting stack rest now ≡ entered s find w classes f vs waiting stack rest v
  entered_static e = ap once_static e

  pub entered_plain : false ≡ is_static f.flags → now ≡ entered s find w classes f vs waiting stack rest v
  entered_plain e = ap once_static e

  abbrev enter_by : NamedWorld × List Value → Bool → Next
  enter_by a b = elim b as (λ b. Next) [ true ↦ entered s find w classes f a.1 waiting stack rest a.0 | false ↦ quiet Ended ]

  enter_with : (b : Bool) → gets_all w gs ≡ (v, vs) → b ≡ may_enter s.face s.outer w v f gs vs → enter_by (v, vs) b ≡ enter s find w classes (Some f) gs waiting stack rest
  enter_with b got e = ap (enter_by (v, vs)) e ∙ ap (λ (a : NamedWorld × List Value). enter_by a (may_enter s.face s.outer w a.0 f gs a.1)) (sym got)

  pub enter_legal : gets_all w gs ≡ (v, vs) → true ≡ may_enter s.face s.outer w v f gs vs → entered s find w classes f vs waiting stack rest v ≡ enter s find w classes (Some f) gs waiting stack rest
  enter_legal got e = enter_with true got e

  pub enter_illegal : gets_all w gs ≡ (v, vs) → false ≡ may_enter s.face s.outer w v f gs vs → enter s find w classes (Some f) gs waiting stack rest ≡ quiet Ended
  enter_illegal got e = sym (enter_with false got e)

-- the method of a member that may be none
pub member_some : (l : Lookups) (a : Option Found) (b : Option (MethodAt × Method)) (m : MethodAt × Method) → b ≡ Some m → MemberMaybe l a b → (f : Found) × ((a ≡ Some f) × IsMember l m.0 m.1 f)
member_some l None b m e h = absurd (subst (MemberMaybe l None) e h)
member_some l (Some f) b m e h = (f, (refl, subst (MemberMaybe l (Some f)) e h))

pub member_none : (l : Lookups) (a : Option Found) (b : Option (MethodAt × Method)) → b ≡ None → MemberMaybe l a b → a ≡ None
member_none l None b e h = refl
member_none l (Some f) b e h = absurd (subst (MemberMaybe l (Some f)) e h)

-- the method at a place that was found
pub member_found : (l : Lookups) (a : Option Found) (at : MethodAt) (m : Method) → a ≡ found_at l.program.now at → look.method_at l.program.now at ≡ Some m → MemberMaybe l a (Some (at, m))
member_found l a at m e there = by (slice_get l.program.now.classes at.class) refl there
  where
    by : (k : Option Class) → slice_get l.program.now.classes at.class ≡ k → option_and_then (λ (c : Class). slice_get c.methods at.place) k ≡ Some m → MemberMaybe l a (Some (at, m))
    by None g h = absurd (cc)
    by (Some c) g h =
        let found : found_at l.program.now at ≡ Some (found_in (named_class l.program.now c) (named_method l.program.now m)) = ap (found_of l.program.now at.place) g ∙ ap (found_there l.program.now c) h in
        subst (λ (x : Option Found). MemberMaybe l x (Some (at, m))) (sym (e ∙ found)) (record { there = there; found = found })

-- where there is none, none was found
pub member_lacks : (l : Lookups) (a : Option Found) (at : MethodAt) → a ≡ found_at l.program.now at → look.method_at l.program.now at ≡ None → MemberMaybe l a None
member_lacks l a at e there = by (slice_get l.program.now.classes at.class) refl there
  where
    by : (k : Option Class) → slice_get l.program.now.classes at.class ≡ k → option_and_then (λ (c : Class). slice_get c.methods at.place) k ≡ None → MemberMaybe l a None
    by None g h = subst (λ (x : Option Found). MemberMaybe l x None) (sym (e ∙ ap (found_of l.program.now at.place) g)) tt
    by (Some c) g h = subst (λ (x : Option Found). MemberMaybe l x None) (sym (e ∙ ap (found_of l.program.now at.place) g ∙ ap (found_there l.program.now c) h)) tt

-- ---- a class that is needed

module _ (l : Lookups) (o : OwnOutside) (floats : Floats) (m k : Memo) (script : List Move) (steps : ℕ) (old new : State) (owes : Option Kind) (first : Move) (rest : List Move) (class : ℕ) (c : Text) (now : Next)
    (h : IsMoving l o m script steps old owes first rest) (same : class_text l.program.now class ≡ c) (kept : IsKept l k) where
  abbrev needs_by : Text → Need → Next
  needs_by t need = needs (setting_in l o floats) (bodies_in l) need (world_in l old) (classes_in l old) t (stack_in l script old) (freed_in l script old) rest now

  -- it is ready
  pub ready_needs : (s : State) (e : Option Event) → need_in l old (class_text l.program.now class) ≡ Ready → IsEvent l steps script s e now → IsNext l steps script k s e (needs_by c (need_in l old c))
  ready_needs s e need event =
      subst (λ (t : Text). IsNext l steps script k s e (needs_by t (need_in l old t))) same
      (subst (λ (x : Need). IsNext l steps script k s e (needs_by (class_text l.program.now class) x)) (sym need) (record { event = event; kept = kept }))

  -- it is new, and has been started: the move waits
  pub started_needs : IsStarted l steps script k old new class → IsNext l steps script k new None (needs_by c (need_in l old c))
  started_needs started =
      subst (λ (t : Text). IsNext l steps script k new None (needs_by t (need_in l old t))) same
      (subst (λ (x : Need). IsNext l steps script k new None (needs_by (class_text l.program.now class) x)) (sym started.need) (record {
        event = record {
          left = subst (λ (ms : List Move). IsLeft l steps script new (starts (run_face l) (bodies_in l) (world_in l old) (classes_in l old) (class_text l.program.now class) (stack_in l script old) ms)) h.left started.left;
          shown = refl;
        };
        kept = kept;
      }))

  -- what is thrown comes to the framework, and the move is over
  thrown_freed : throws_new (run_face l) (bodies_in l) (world_in l old) (classes_in l old) no_class (stack_in l script old) (script_in script old) ≡ throws_new (run_face l) (bodies_in l) (world_in l old) (classes_in l old) no_class (freed_in l script old) rest
  thrown_freed =
      let by : List NamedWaiting → List Move → Next = λ ws ms. throws_new (run_face l) (bodies_in l) (world_in l old) (classes_in l old) no_class ws ms in
      ap (by (stack_in l script old)) h.left
      ∙ ap (λ (ws : List NamedWaiting). by ws rest) (top_owes l o m script steps old owes first rest h)
      ∙ ap (λ (ws : List NamedWaiting). by ws rest) (sym (freed_owes l o m script steps old owes first rest h))

  -- it has failed
  pub failed_needs : (s : State) (e : Option Event) → HasFailed l steps script k old s class e → IsNext l steps script k s e (needs_by c (need_in l old c))
  failed_needs s e failed =
      subst (λ (t : Text). IsNext l steps script k s e (needs_by t (need_in l old t))) same
      (subst (λ (x : Need). IsNext l steps script k s e (needs_by (class_text l.program.now class) x)) (sym failed.need) (record {
        event = subst (IsEvent l steps script s e) thrown_freed failed.next.event;
        kept = kept;
      }))
