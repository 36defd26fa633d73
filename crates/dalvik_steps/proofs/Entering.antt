-- The frame of a method at its entry, by numbers and by names.
use Rattle.std.proofs.Common.{◌≡◌, ℕ, zero, suc, ◌+◌, ◌-◌, ◌<◌, ◌≤◌, List, [], ◌∷◌, ◌++◌, length, map, replicate, arith, ap, refl, sym, subst, ◌∙◌, true, false}
use Rattle.std.specs.Prelude.{◌^◌, Option, Some, None, option_and_then, slice_get}
use Rattle.std.specs.Option.{option_map}
use Rattle.program_model.specs.Lookups as look
use Rattle.program_model.specs.declared.body.Body.{Body}
use Rattle.program_model.specs.declared.program.Class.{Class}
use Rattle.program_model.specs.declared.program.Method.{Method}
use Rattle.program_model.specs.declared.program.MethodAt.{MethodAt}
use Rattle.program_model.specs.declared.program.Program.{Program}
use Rattle.name_bridge.proofs.Classes.{class_parts}
use Rattle.name_bridge.proofs.Tables.{method_is, sound}
use Rattle.dalvik_defs.specs.Naming.{body_of, method_at, type_at}
use Rattle.dalvik_defs.specs.Stack.{enters, enters_body, entry_frame}
use Rattle.dalvik_defs.specs.State.{Ended, On, State as NamedState}
use Rattle.dalvik_defs.specs.declared.names.MethodKey.{MethodKey}
use Rattle.dalvik_defs.specs.declared.program.NamedBody.{NamedBody}
use Rattle.dalvik_defs.specs.declared.program.NamedMethod.{NamedMethod}
use Rattle.dalvik_defs.specs.declared.script.Move.{Move}
use Rattle.dalvik_defs.specs.declared.state.Frame.{Frame as NamedFrame}
use Rattle.dalvik_defs.specs.declared.state.Value.{Value}
use Rattle.dalvik_defs.specs.declared.state.Value.TheVariants as value
use Rattle.dalvik_defs.specs.declared.state.Waiting.{Waiting as NamedWaiting}
use Rattle.dalvik_defs.specs.declared.state.Waiting.TheVariants.{Method as InMethod}
use Rattle.dalvik_lookups.specs.Tables.{IsRight}
use Rattle.dalvik_lookups.specs.declared.lookups.Lookups.{Lookups}
use Rattle.dalvik_state.specs.declared.datum.Datum.{Datum}
use Rattle.dalvik_state.specs.declared.datum.Datum.TheVariants as datum
use Rattle.dalvik_state.specs.declared.frame.Frame.{Frame}
use Rattle.dalvik_state.specs.declared.state.State.{State}
use Rattle.dalvik_state.specs.declared.state.Waiting.{Waiting}
use Rattle.dalvik_state.specs.declared.state.Waiting.TheVariants as waiting
use Rattle.dalvik_state.specs.Frames.{cell}
use Rattle.dalvik_state.specs.Runs.{bodies_in, classes_in, script_in, stack_in, world_in, IsLeft}
use Rattle.dalvik_state.specs.States.{stack_of, IsRunning, KeepsRest}
use Rattle.dalvik_state.specs.Views.{frame_of, names_in, value_of, values_of, AreFine, IsFine, Names}
use Rattle.dalvik_state.specs.Worlds.{spots_of}
use Rattle.dalvik_state.proofs.Bodies.{defined_named}
use Rattle.dalvik_state.proofs.Running.{ArePaced, AreSoundWaiting, one_paced, paced_pushed, pushed_named, running_paced, running_stack, sound_pushed}
use Rattle.dalvik_steps.specs.Entries.{takes, takes_in, IsEntered, IsEntry, IsFirst, IsWithinOf}
use Rattle.dalvik_steps.proofs.Handing.{no_running, state_over}
use Rattle.dalvik_steps.proofs.Stacked.{stack_left}
use Rattle.dalvik_steps.proofs.Taking.{counted, entered_by, not_entered, takes_named}

-- the class in which a method stands
pub record StandsIn (p : Program) (at : MethodAt) (own : Method) : Type 0 where
  pub class : Class
  pub within : slice_get p.classes at.class ≡ Some class
  pub there : slice_get class.methods at.place ≡ Some own

pub stands_in : (p : Program) (at : MethodAt) (own : Method) → look.method_at p at ≡ Some own → StandsIn p at own
stands_in p at own e = by (slice_get p.classes at.class) refl e
  where
    by : (o : Option Class) → slice_get p.classes at.class ≡ o → option_and_then (λ (c : Class). slice_get c.methods at.place) o ≡ Some own → StandsIn p at own
    by None f g = absurd (cc)
    by (Some k) f g = record { class = k; within = f; there = g }

-- the body of a method by its place
pub own_body : (l : Lookups) → IsRight l → (at : MethodAt) (own : Method) → look.method_at l.program.now at ≡ Some own → bodies_in l (method_at l.program.now own.name) ≡ option_map (body_of l.program.now) own.body
own_body l r at own e =
    let p = l.program.now in
    let k = stands_in p at own e in
    ap (option_and_then (λ (m : NamedMethod). m.body)) (defined_named p (sound p r.well) r.resolved.of.once at.class at.place k.class own k.within k.there)

own_class_text : (l : Lookups) → IsRight l → (at : MethodAt) (own : Method) (k : StandsIn l.program.now at own) → type_at l.program.now k.class.name ≡ (method_at l.program.now own.name).class
own_class_text l r at own k =
    let p = l.program.now in
    let s = sound p r.well in
    let fit = (class_parts p s at.class k.class k.within).methods at.place own k.there in
    sym (ap (λ (q : MethodKey). q.class) (method_is p s own.name fit.entry fit.is) ∙ ap (type_at p) fit.owner)

-- ---- registers

values_at_entry : (n : Names) (k : ℕ) (values : List Datum) → values_of n (replicate k (datum.Word 0) ++ values) ≡ replicate k (value.Word 0) ++ values_of n values
values_at_entry n zero values = refl
values_at_entry n (suc k) values = ap (λ (vs : List Value). value.Word 0 ∷ vs) (values_at_entry n k values)

fine_at_entry : (n : Names) (size k : ℕ) (values : List Datum) → AreFine n size values → (r : ℕ) → IsFine n size (cell (replicate k (datum.Word 0) ++ values) r)
fine_at_entry n size zero values h r = h.at r
fine_at_entry n size (suc k) values h zero = tt
fine_at_entry n size (suc k) values h (suc r) = fine_at_entry n size k values h r

-- ---- the frame

pub entered : (l : Lookups) → IsRight l → (size : ℕ) (at : MethodAt) (own : Method) (values : List Datum) (body : Body) (f : Frame) → look.method_at l.program.now at ≡ Some own → own.body ≡ Some body → AreFine (names_in l) size values → IsWithinOf at own.name body values f
    → IsEntered l size own values f
entered l r size at own values body f e coded fine within =
    let p = l.program.now in
    let n = names_in l in
    let k = stands_in p at own e in
    let h = within.entry in
    record {
      body = body_of p body;
      found = own_body l r at own e ∙ ap (option_map (body_of p)) coded;
      fits = counted n values body.ins ∙ within.fits;
      frame = λ i. record {
        method = method_at p (h.method i);
        position = h.position i;
        registers = (ap (values_of n) h.registers ∙ values_at_entry n (body.registers - body.ins) values) i;
        result = value_of n (h.result i);
        caught = value_of n (h.caught i);
      };
      sound = record {
        fine = record {
          registers = λ q. subst (λ (ds : List Datum). IsFine n size (cell ds q)) (sym h.registers) (fine_at_entry n size (body.registers - body.ins) values fine q);
          result = subst (IsFine n size) (sym h.result) tt;
          caught = subst (IsFine n size) (sym h.caught) tt;
        };
        own = own;
        class = k.class;
        found = ap (look.method_at p) h.at ∙ e;
        body = coded ∙ ap (λ (b : Body). Some b) (sym h.body);
        name = sym h.method;
        within = ap (λ (a : MethodAt). slice_get p.classes a.class) h.at ∙ k.within;
        of_class = own_class_text l r at own k ∙ ap (λ (m : ℕ). (method_at p m).class) (sym h.method);
      };
      start = h.position;
    }

pub uncoded : (l : Lookups) → IsRight l → (size : ℕ) (at : MethodAt) (own : Method) (values : List Datum) → look.method_at l.program.now at ≡ Some own → takes_in own.body values ≡ false → IsEntry l size own values None
uncoded l r size at own values e not = ap (λ (o : Option NamedBody). takes o (values_of (names_in l) values)) (own_body l r at own e) ∙ takes_named (names_in l) l.program.now values own.body ∙ not

pub entry_of : (l : Lookups) → IsRight l → (size : ℕ) (at : MethodAt) (own m : Method) (values : List Datum) (o : Option Frame) → look.method_at l.program.now at ≡ Some own → look.method_at l.program.now at ≡ Some m → AreFine (names_in l) size values → IsFirst at m values o → IsEntry l size own values o
entry_of l r size at own m values None e f fine h =
    let both : Some m ≡ Some own = sym f ∙ e in
    let same : m ≡ own = cc in
    uncoded l r size at own values e (ap (λ (x : Method). takes_in x.body values) (sym same) ∙ h)
entry_of l r size at own m values (Some g) e f fine h =
    let both : Some m ≡ Some own = sym f ∙ e in
    let same : m ≡ own = cc in
    entered l r size at own values h.code g e (ap (λ (x : Method). x.body) (sym same) ∙ h.coded) fine (subst (λ (x : Method). IsWithinOf at x.name h.code values g) same h.within)

-- ---- a method that is entered

module _ (l : Lookups) (r : IsRight l) (steps : ℕ) (script : List Move) (old new : State) (run : IsRunning l steps old) (on : old.ended ≡ false) (own : Method) (values : List Datum) where
  abbrev enters_by : Option NamedBody → NamedState
  enters_by b = enters_body b (world_in l old) (classes_in l old) (method_at l.program.now own.name) (values_of (names_in l) values) (stack_in l script old) (script_in script old)

  pub enters_coded : (f : Frame) → IsEntered l (length (spots_of old.world)) own values f → KeepsRest old new → new.stack.items ≡ old.stack.items ++ waiting.Method f ∷ []
      → IsLeft l steps script new (enters_by (bodies_in l (method_at l.program.now own.name)))
  enters_coded f h keeps e =
      let size = length (spots_of old.world) in
      let start = h.start in
      subst (IsLeft l steps script new)
      (ap (λ (xs : List Waiting). On (world_in l old) (classes_in l old) (stack_of (names_in l) script xs) (script_in script old)) e
      ∙ ap (λ (ws : List NamedWaiting). On (world_in l old) (classes_in l old) ws (script_in script old)) (pushed_named (names_in l) script old.stack.items (waiting.Method f))
      ∙ ap (λ (g : NamedFrame). On (world_in l old) (classes_in l old) (InMethod g ∷ stack_in l script old) (script_in script old)) h.frame
      ∙ sym (ap enters_by h.found ∙ entered_by h.body (world_in l old) (classes_in l old) (method_at l.program.now own.name) (values_of (names_in l) values) (stack_in l script old) (script_in script old) h.fits))
      (stack_left l r steps script old run on new keeps
      (subst (AreSoundWaiting l size) (sym e) (sound_pushed l size old.stack.items (waiting.Method f) (running_stack l steps old run) h.sound))
      (subst (ArePaced (2 ^ 32 + steps)) (sym e) (paced_pushed (2 ^ 32 + steps) old.stack.items (waiting.Method f) (running_paced l steps old run) (one_paced (2 ^ 32 + steps) f (omega (arith, start))))))

  pub enters_uncoded : takes (bodies_in l (method_at l.program.now own.name)) (values_of (names_in l) values) ≡ false → new.ended ≡ true → IsLeft l steps script new (enters_by (bodies_in l (method_at l.program.now own.name)))
  enters_uncoded e ended = record {
    state = state_over l script new ended ∙ sym (not_entered (bodies_in l (method_at l.program.now own.name)) (world_in l old) (classes_in l old) (method_at l.program.now own.name) (values_of (names_in l) values) (stack_in l script old) (script_in script old) e);
    running = no_running l (steps + 1) new ended;
  }
