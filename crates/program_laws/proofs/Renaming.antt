-- The law of renamed methods. The other program answers all as the one does but which methods are found, and its methods
-- stand under other names. In the states that a run of the one reaches, the other takes the same steps, in frames of these
-- other names.
use Rattle.std.proofs.Common.{◌≡◌, ℕ, Bool, true, false, true≢false, List, [], ◌∷◌, Option, Some, None, refl, sym, ap, ◌∙◌, subst}
use Rattle.std.specs.Prelude.{◌&&◌, map, length, nat_eq, slice_get, slice_set}
use Rattle.lemmas.proofs.Lists.{get_map}
use Rattle.std.specs.Option.{option_map, option_and_then}
use Rattle.insn_set.specs.declared.ops.Item.{Item}
use Rattle.insn_set.specs.declared.ops.InvokeKind.{InvokeKind}
use Rattle.dalvik_defs.specs.Names.{Text}
use Rattle.dalvik_defs.specs.Flags.{is_static}
use Rattle.dalvik_defs.specs.Known.{no_class}
use Rattle.dalvik_defs.specs.Find.{Found}
use Rattle.dalvik_defs.specs.Face.{Face, Bodies, Place, is_defined}
use Rattle.dalvik_defs.specs.Outer.{Outer}
use Rattle.dalvik_defs.specs.State.{World, Classes, Status, New, Running, Done, Failed, Thing, Instance, Items, State, On, Ended, Next, quiet, with_thing, next_object, fresh, put_status, thing_at, kind_of}
use Rattle.dalvik_defs.specs.declared.state.Value.{Value}
use Rattle.dalvik_defs.specs.declared.state.Frame.{Frame}
use Rattle.dalvik_defs.specs.declared.state.Waiting.{Waiting}
use Rattle.dalvik_defs.specs.declared.state.Waiting.TheVariants.{Method, Initialiser, Ending, Outside}
use Rattle.dalvik_defs.specs.Effect.{Effect, Goes, Faults, Throws, Gives, Calls, Makes, Reads, Writes, Locks, Unlocks, Stuck, register, next, go}
use Rattle.dalvik_defs.specs.Outcome.{Outcome, Stays, Starts, Enters, Leaves, Ends, Raises, Halts, Need, Ready, Fresh, Broken, need_of, when_ready, calls, makes, reads_value, reads_static, reads_instance, written, writes_static, writes_instance, outcome}
use Rattle.dalvik_defs.specs.Fields.{key_at, static_value, instance_value, with_instance}
use Rattle.dalvik_defs.specs.Stack.{form_at, entry_frame, enters_body, enters, receives, back, gives, handler_at, lands, wrapped, lands_or, unwinds, left_of, runs, goes_on, starts, resumes}
use Rattle.dalvik_defs.specs.Happens.{Setting, effect_of, outcome_at, happens, first_needed, initialises}
use Rattle.dalvik_defs.specs.Gives.{gets, gets_all, spread, fits, may_throw}
use Rattle.dalvik_defs.specs.Legal.{may_enter, may_make, may_answer, on_fits, is_exposed}
use Rattle.dalvik_defs.specs.Moves.{needs, entered, enter, made, make, got, answers, throws, shows_value, goes, field_value, with_field, reads as reads_field, writes as writes_field, reads_item, with_item, writes_item, measures_thing, key_of, moves, framework_turn}
use Rattle.dalvik_defs.specs.Show.{show}
use Rattle.dalvik_defs.specs.Items.{stored, item_of_type}
use Rattle.dalvik_defs.specs.Step.{step}
use Rattle.dalvik_defs.specs.Act.{act}
use Rattle.dalvik_defs.specs.declared.names.MethodKey.{MethodKey}
use Rattle.dalvik_defs.specs.declared.names.FieldKey.{FieldKey}
use Rattle.dalvik_defs.specs.declared.events.Event.TheVariants as event
use Rattle.dalvik_defs.specs.declared.forms.Form.{Form}
use Rattle.dalvik_defs.specs.declared.forms.Form.TheVariants as form
use Rattle.dalvik_defs.specs.declared.program.NamedBody.{NamedBody}
use Rattle.dalvik_defs.specs.declared.script.Given.{Given}
use Rattle.dalvik_defs.specs.declared.script.Move.{Move}
use Rattle.dalvik_defs.specs.declared.script.Move.TheVariants as move
use Rattle.program_laws.specs.Renames.{is_invoke, frame_named, stack_named, state_named, next_named, effect_named, outcome_named, Edit, form_edited, body_edited, Finding, setting_with}
use Rattle.program_laws.proofs.RenamedActs.{is_call, item_named, act_named}
use Rattle.program_laws.proofs.Along.{StepsAlong}

-- ---- the law's premises

-- a method that the framework can't enter, whatever it gives
abbrev pub Barred : Face → Outer → Option Found → Type 0
Barred face outer None = Unit {0}
Barred face outer (Some f) = (w w' : World) (gs : List Given) (vs : List Value) → may_enter face outer w w' f gs vs ≡ false

-- both define the same method, which the framework may enter alike, or neither one that it can enter
pub data DeclaredAlike (rename : MethodKey → MethodKey) (F G : Face) (outer : Outer) : Option Found → Option Found → Type 0 where
  Both : (f : Found) → rename f.key ≡ f.key → ((w w' : World) (gs : List Given) (vs : List Value) → may_enter G outer w w' f gs vs ≡ may_enter F outer w w' f gs vs) → DeclaredAlike rename F G outer (Some f) (Some f)
  Neither : (a b : Option Found) → Barred F outer a → Barred G outer b → DeclaredAlike rename F G outer a b

module _ (rename : MethodKey → MethodKey) (edit : Edit) (s : Setting) (x : Finding) (find other : Bodies) where
  abbrev pub s' : Setting
  s' = setting_with s x

  pub record KeysAlike (I : State → Type 0) : Type 0 where
    pub result : (k : MethodKey) → (rename k).signature.result ≡ k.signature.result
    pub bodies : (k : MethodKey) → other (rename k) ≡ option_map (body_edited edit) (find k)
    pub initialisers : (t : Text) (k : MethodKey) → s.face.initialiser t ≡ Some k → rename k ≡ k
    pub declared : (t n q : Text) → DeclaredAlike rename s.face s'.face s.outer (s.face.declared t n q) (x.declared t n q)
    -- in states that a run reaches, calls lead to the same
    pub calls : (w : World) (c : Classes) (f : Frame) (rest : List Waiting) (script : List Move) (kind : InvokeKind) (k : MethodKey) (args : List ℕ)
        → I (On w c (Method f ∷ rest) script) → form_at find f ≡ Some (form.Invoke kind k args)
        → calls s'.face (need_of s.face c) (edit kind k).0 (edit kind k).1 (map (register f) args) w (frame_named rename f) ≡ outcome_named rename (calls s.face (need_of s.face c) kind k (map (register f) args) w f)
    pub keeps : (t : State) → I t → I (step s find t).0

  module _ (I : State → Type 0) (alike : KeysAlike I) where
    abbrev down : List Waiting → List Waiting
    down = stack_named rename

    abbrev image : State → State
    image = state_named rename

    abbrev on : Next → Next
    on = next_named rename

    -- ---- frames

    abbrev Forms : Option NamedBody → ℕ → Option Form
    Forms o n = option_and_then (λ (b : NamedBody). slice_get b.forms n) o

    forms_named : (o : Option NamedBody) (n : ℕ) → Forms (option_map (body_edited edit) o) n ≡ option_map (form_edited edit) (Forms o n)
    forms_named None n = refl
    forms_named (Some b) n = get_map (form_edited edit) b.forms n

    form_named : (f : Frame) → form_at other (frame_named rename f) ≡ option_map (form_edited edit) (form_at find f)
    form_named f = ap (λ o. Forms o f.position) (alike.bodies f.method) ∙ forms_named (find f.method) f.position

    received : (o : Option Form) (f : Frame) (v : Value) → receives (option_map (form_edited edit) o) (frame_named rename f) v ≡ frame_named rename (receives o f v)
    received None f v = refl
    received (Some (form.InstanceGet item to on field)) f v = ap next (item_named rename item f to v)
    received (Some (form.StaticGet item to field)) f v = ap next (item_named rename item f to v)
    received (Some form) f v = refl

    back_named : (f : Frame) (v : Option Value) → back other (frame_named rename f) v ≡ frame_named rename (back find f v)
    back_named f None = refl
    back_named f (Some v) = ap (λ o. receives o (frame_named rename f) v) (form_named f) ∙ received (form_at find f) f v

    abbrev landed_at : World → Frame → Value → Option NamedBody → Option Frame
    landed_at w f v o = option_map (λ at. record (go f at) { caught = v }) (option_and_then (handler_at (s.face.under (kind_of w v)) f.position) o)

    landed : (w : World) (f : Frame) (v : Value) (o : Option NamedBody) → landed_at w (frame_named rename f) v (option_map (body_edited edit) o) ≡ option_map (frame_named rename) (landed_at w f v o)
    landed w f v None = refl
    landed w f v (Some b) = by (handler_at (s.face.under (kind_of w v)) f.position b)
      where
        by : (o : Option ℕ) → option_map (λ at. record (go (frame_named rename f) at) { caught = v }) o ≡ option_map (frame_named rename) (option_map (λ at. record (go f at) { caught = v }) o)
        by None = refl
        by (Some at) = refl

    lands_named : (w : World) (f : Frame) (v : Value) → lands s.face other w (frame_named rename f) v ≡ option_map (frame_named rename) (lands s.face find w f v)
    lands_named w f v = ap (landed_at w (frame_named rename f) v) (alike.bodies f.method) ∙ landed w f v (find f.method)

    -- ---- entries, results, thrown objects

    body_named : (o : Option NamedBody) (w : World) (c : Classes) (k : MethodKey) (vs : List Value) (stack : List Waiting) (script : List Move)
        → enters_body (option_map (body_edited edit) o) w c (rename k) vs (down stack) script ≡ image (enters_body o w c k vs stack script)
    body_named None w c k vs stack script = refl
    body_named (Some b) w c k vs stack script = by (nat_eq (length vs) b.ins)
      where
        by : (x : Bool) → elim x as (λ x. State) [ true ↦ On w c (Method (entry_frame (rename k) vs (body_edited edit b)) ∷ down stack) script | false ↦ Ended ]
            ≡ image (elim x as (λ x. State) [ true ↦ On w c (Method (entry_frame k vs b) ∷ stack) script | false ↦ Ended ])
        by true = refl
        by false = refl

    enters_named : (w : World) (c : Classes) (k : MethodKey) (vs : List Value) (stack : List Waiting) (script : List Move) → enters other w c (rename k) vs (down stack) script ≡ image (enters find w c k vs stack script)
    enters_named w c k vs stack script = ap (λ o. enters_body o w c (rename k) vs (down stack) script) (alike.bodies k) ∙ body_named (find k) w c k vs stack script

    gives_named : (kind : Text) (w : World) (c : Classes) (v : Option Value) (stack : List Waiting) (script : List Move) → gives other kind w c v (down stack) script ≡ on (gives find kind w c v stack script)
    gives_named kind w c v [] script = refl
    gives_named kind w c v (Method f ∷ rest) script = ap (λ g. quiet (On w c (Method g ∷ down rest) script)) (back_named f v)
    gives_named kind w c v (Initialiser t above ∷ rest) script = refl
    gives_named kind w c v (Ending t ∷ rest) script = refl
    gives_named kind w c v (Outside owes pending ∷ rest) script = refl

    lands_or_named : (w : World) (c : Classes) (rest : List Waiting) (script : List Move) (o : Option Frame) (y z : Next) → z ≡ on y → lands_or w c (down rest) script (option_map (frame_named rename) o) z ≡ on (lands_or w c rest script o y)
    lands_or_named w c rest script None y z e = e
    lands_or_named w c rest script (Some g) y z e = refl

    unwinds_named : (w : World) (c : Classes) (v : Value) (stack : List Waiting) (script : List Move) → unwinds s.face other w c v (down stack) script ≡ on (unwinds s.face find w c v stack script)
    unwinds_named w c v [] script = refl
    unwinds_named w c v (Method f ∷ rest) script =
        ap (λ o. lands_or w c (down rest) script o (unwinds s.face other w c v (down rest) script)) (lands_named w f v)
        ∙ lands_or_named w c rest script (lands s.face find w f v) _ _ (unwinds_named w c v rest script)
    unwinds_named w c v (Initialiser t above ∷ rest) script = unwinds_named w (put_status t Failed c) v rest script
    unwinds_named w c v (Ending t ∷ rest) script = unwinds_named (wrapped s.face w v).0 (put_status t Failed c) (wrapped s.face w v).1 rest script
    unwinds_named w c v (Outside owes pending ∷ rest) script = refl

    -- ---- classes

    runs_named : (w : World) (c : Classes) (t : Text) (o : Option MethodKey) (stack : List Waiting) (script : List Move) → ((k : MethodKey) → o ≡ Some k → rename k ≡ k) → runs other w c t o (down stack) script ≡ image (runs find w c t o stack script)
    runs_named w c t None stack script h = refl
    runs_named w c t (Some k) stack script h = subst (λ x. enters other w c x [] (Ending t ∷ down stack) script ≡ image (enters find w c k [] (Ending t ∷ stack) script)) (h k refl) (enters_named w c k [] (Ending t ∷ stack) script)

    goes_on_named : (w : World) (c : Classes) (t : Text) (ds : List Text) (stack : List Waiting) (script : List Move) → goes_on s.face other w c t ds (down stack) script ≡ image (goes_on s.face find w c t ds stack script)
    goes_on_named w c t [] stack script = runs_named w c t (s.face.initialiser t) stack script (alike.initialisers t)
    goes_on_named w c t (d ∷ ds) stack script = refl

    starts_named : (w : World) (c : Classes) (t : Text) (stack : List Waiting) (script : List Move) → starts s.face other w c t (down stack) script ≡ image (starts s.face find w c t stack script)
    starts_named w c t stack script = goes_on_named w (put_status t Running c) t (left_of (put_status t Running c) (s.face.first t)) stack script

    resumes_named : (w : World) (c : Classes) (stack : List Waiting) (script : List Move) → resumes s.face other w c (down stack) script ≡ image (resumes s.face find w c stack script)
    resumes_named w c [] script = refl
    resumes_named w c (Method f ∷ rest) script = refl
    resumes_named w c (Initialiser t above ∷ rest) script = goes_on_named w c t (left_of c above) rest script
    resumes_named w c (Ending t ∷ rest) script = refl
    resumes_named w c (Outside owes pending ∷ rest) script = refl

    first_named : (w : World) (c : Classes) (t d : Text) (ds : List Text) (x : Status) (rest : List Waiting) (script : List Move) → first_needed s other w c t d ds x (down rest) script ≡ on (first_needed s find w c t d ds x rest script)
    first_named w c t d ds New rest script = ap quiet (starts_named w c d (Initialiser t (d ∷ ds) ∷ rest) script)
    first_named w c t d ds Running rest script = ap quiet (goes_on_named w c t (left_of c ds) rest script)
    first_named w c t d ds Done rest script = ap quiet (goes_on_named w c t (left_of c ds) rest script)
    first_named w c t d ds Failed rest script = unwinds_named (with_thing w (fresh no_class)) c (next_object w) (Initialiser t (d ∷ ds) ∷ rest) script

    initialises_named : (w : World) (c : Classes) (t : Text) (above : List Text) (rest : List Waiting) (script : List Move) → initialises s other w c t above (down rest) script ≡ on (initialises s find w c t above rest script)
    initialises_named w c t [] rest script = ap quiet (goes_on_named w c t [] rest script)
    initialises_named w c t (d ∷ ds) rest script = first_named w c t d ds (c d) rest script

    -- ---- outcomes

    ready_named : (n : Need) (w : World) (t : Text) (y z : Outcome) → z ≡ outcome_named rename y → when_ready n w t z ≡ outcome_named rename (when_ready n w t y)
    ready_named Ready w t y z e = e
    ready_named Fresh w t y z e = refl
    ready_named Broken w t y z e = refl

    module _ (w : World) (f : Frame) (need : Text → Need) where
      abbrev g : Frame
      g = frame_named rename f

      value_named : (item : Item) (to : ℕ) (o : Option Value) → reads_value item to o w g ≡ outcome_named rename (reads_value item to o w f)
      value_named item to None = refl
      value_named item to (Some v) = ap (λ h. Stays w (next h) None) (item_named rename item f to v)

      makes_named : (to : ℕ) (t : Text) → makes s.face need to t w g ≡ outcome_named rename (makes s.face need to t w f)
      makes_named to t = by (is_defined s.face t)
        where
          made_in : Frame → Bool → Outcome
          made_in h b = elim b as (λ b. Outcome) [
            | true ↦ when_ready (need t) w t (Stays (with_thing w (fresh t)) (next (record h { registers = slice_set h.registers to (next_object w) })) None)
            | false ↦ Stays (show (with_thing w (fresh t)) t (next_object w)).0 (next (record h { registers = slice_set h.registers to (next_object w) })) (Some (event.Make (show (with_thing w (fresh t)) t (next_object w)).1))
          ]

          by : (b : Bool) → made_in g b ≡ outcome_named rename (made_in f b)
          by true = ready_named (need t) w t _ _ refl
          by false = refl

      reads_named : (item : Item) (to : ℕ) (k : FieldKey) (on : Option Value) (o : Option Place) → elim on as (λ o. Outcome) [ None ↦ reads_static need item to k w g o | Some v ↦ reads_instance item to k v w g o ]
          ≡ outcome_named rename (elim on as (λ o. Outcome) [ None ↦ reads_static need item to k w f o | Some v ↦ reads_instance item to k v w f o ])
      reads_named item to k None None = refl
      reads_named item to k None (Some place) = ready_named (need place.class) w place.class _ _ (value_named item to (Some (static_value w k place)))
      reads_named item to k (Some v) None = refl
      reads_named item to k (Some v) (Some place) = value_named item to (instance_value k place (thing_at w v))

      written_named : (o : Option World) → written o g ≡ outcome_named rename (written o f)
      written_named None = refl
      written_named (Some u) = refl

      static_written : (k : FieldKey) (v : Value) (o : Option Place) → writes_static need k v w g o ≡ outcome_named rename (writes_static need k v w f o)
      static_written k v None = refl
      static_written k v (Some place) = ready_named (need place.class) w place.class _ _ refl

      instance_written : (k : FieldKey) (v z : Value) (o : Option Place) → writes_instance k v z w g o ≡ outcome_named rename (writes_instance k v z w f o)
      instance_written k v z None = refl
      instance_written k v z (Some place) = written_named (with_instance w (key_at k place) v z (thing_at w v))

      -- an effect that is no call
      led : (e : Effect) → ((kind : InvokeKind) (k : MethodKey) (vs : List Value) → e ≡ Calls kind k vs → calls s'.face need kind k vs w g ≡ outcome_named rename (calls s.face need kind k vs w f))
          → outcome s'.face need (effect_named rename e) w g ≡ outcome_named rename (outcome s.face need e w f)
      led (Goes u h) c = refl
      led (Faults t) c = refl
      led (Throws v) c = refl
      led (Gives v) c = refl
      led (Calls kind k vs) c = c kind k vs refl
      led (Makes to t) c = makes_named to t
      led (Reads item to k None) c = reads_named item to k None (s.face.field k)
      led (Reads item to k (Some v)) c = reads_named item to k (Some v) (s.face.field k)
      led (Writes k None v) c = static_written k v (s.face.field k)
      led (Writes k (Some v) z) c = instance_written k v z (s.face.field k)
      led (Locks v) c = refl
      led (Unlocks v) c = refl
      led Stuck c = refl

    -- ---- what comes of the form at a frame

    abbrev led_by : Setting → (Text → Need) → Option Form → World → Frame → Outcome
    led_by z need o w h = outcome z.face need (effect_of z o w h) w h

    plain : (w : World) (f : Frame) (need : Text → Need) (x : Form) → form_edited edit x ≡ x → is_invoke x ≡ false
        → led_by s' need (Some (form_edited edit x)) w (frame_named rename f) ≡ outcome_named rename (led_by s need (Some x) w f)
    plain w f need x d q =
        let e = act_named rename s.face.under s.floats x w f q in
        ap (λ y. outcome s'.face need (act s.face.under s.floats y w (frame_named rename f)) w (frame_named rename f)) d
        ∙ ap (λ y. outcome s'.face need y w (frame_named rename f)) e.0
        ∙ led w f need (act s.face.under s.floats x w f) (λ kind k vs i. absurd (true≢false (sym (ap is_call i) ∙ e.1)))

    now_by : (w : World) (c : Classes) (f : Frame) (o : Option Form)
        → ((kind : InvokeKind) (k : MethodKey) (args : List ℕ) → o ≡ Some (form.Invoke kind k args)
        → calls s'.face (need_of s.face c) (edit kind k).0 (edit kind k).1 (map (register f) args) w (frame_named rename f) ≡ outcome_named rename (calls s.face (need_of s.face c) kind k (map (register f) args) w f))
        → led_by s' (need_of s.face c) (option_map (form_edited edit) o) w (frame_named rename f) ≡ outcome_named rename (led_by s (need_of s.face c) o w f)
    now_by w c f None h = refl
    now_by w c f (Some (form.Invoke kind k args)) h = h kind k args refl
    now_by w c f (Some x) h = plain w f (need_of s.face c) x refl refl

    now_named : (w : World) (c : Classes) (f : Frame) (rest : List Waiting) (script : List Move) → I (On w c (Method f ∷ rest) script)
        → outcome_at s' other (need_of s.face c) w (frame_named rename f) ≡ outcome_named rename (outcome_at s find (need_of s.face c) w f)
    now_named w c f rest script i =
        ap (λ o. led_by s' (need_of s.face c) o w (frame_named rename f)) (form_named f)
        ∙ now_by w c f (form_at find f) (λ kind k args e. alike.calls w c f rest script kind k args i e)

    happens_named : (o : Outcome) (w : World) (c : Classes) (f : Frame) (rest : List Waiting) (script : List Move)
        → happens s' other (outcome_named rename o) w c (frame_named rename f) (down rest) script ≡ on (happens s find o w c f rest script)
    happens_named (Stays u g e) w c f rest script = refl
    happens_named (Starts t) w c f rest script = ap quiet (starts_named w c t (Method f ∷ rest) script)
    happens_named (Enters k vs) w c f rest script = ap quiet (enters_named w c k vs (Method f ∷ rest) script)
    happens_named (Leaves u owes e) w c f rest script = refl
    happens_named (Ends v) w c f rest script = ap (λ kind. gives other kind w c v (down rest) script) (alike.result f.method) ∙ gives_named f.method.signature.result w c v rest script
    happens_named (Raises u v) w c f rest script = unwinds_named u c v (Method f ∷ rest) script
    happens_named Halts w c f rest script = refl

    -- ---- moves of the framework

    if_next : (b : Bool) (x y x' y' : Next) → x' ≡ on x → y' ≡ on y → elim b as (λ b. Next) [ true ↦ x' | false ↦ y' ] ≡ on (elim b as (λ b. Next) [ true ↦ x | false ↦ y ])
    if_next true x y x' y' d e = d
    if_next false x y x' y' d e = e

    module _ (owes : Option Text) (below : List Waiting) where
      -- the framework with nothing that waits, and with a move that waits for a class
      abbrev stack : List Waiting
      stack = Outside owes None ∷ below

      abbrev waiting : Move → List Waiting
      waiting m = Outside owes (Some m) ∷ below

      needs_named : (n : Need) (w : World) (c : Classes) (t : Text) (m : Move) (rest : List Move) (y z : Next) → z ≡ on y → needs s' other n w c t (down (waiting m)) (down stack) rest z ≡ on (needs s find n w c t (waiting m) stack rest y)
      needs_named Ready w c t m rest y z e = e
      needs_named Fresh w c t m rest y z e = ap quiet (starts_named w c t (waiting m) rest)
      needs_named Broken w c t m rest y z e = unwinds_named (with_thing w (fresh no_class)) c (next_object w) stack rest

      calls_named : (w : World) (c : Classes) (k : MethodKey) (vs : List Value) (rest : List Move) → rename k ≡ k → enters other w c k vs (down stack) rest ≡ image (enters find w c k vs stack rest)
      calls_named w c k vs rest e = subst (λ x. enters other w c x vs (down stack) rest ≡ image (enters find w c k vs stack rest)) e (enters_named w c k vs stack rest)

      entered_named : (w : World) (c : Classes) (f : Found) (vs : List Value) (m : Move) (rest : List Move) (u : World) → rename f.key ≡ f.key
          → entered s' other w c f vs (down (waiting m)) (down stack) rest u ≡ on (entered s find w c f vs (waiting m) stack rest u)
      entered_named w c f vs m rest u e = if_next (is_static f.flags) _ _ _ _
          (needs_named (need_of s.face c f.key.class) w c f.key.class m rest _ _ (ap quiet (calls_named u c f.key (spread vs) rest e)))
          (ap quiet (calls_named u c f.key (spread vs) rest e))

      barred_move : (z : Setting) (bodies : Bodies) (waits st : List Waiting) (w : World) (c : Classes) (o : Option Found) (gs : List Given) (rest : List Move) → Barred z.face z.outer o → enter z bodies w c o gs waits st rest ≡ quiet Ended
      barred_move z bodies waits st w c None gs rest h = refl
      barred_move z bodies waits st w c (Some f) gs rest h =
          ap (λ b. elim b as (λ b. Next) [ true ↦ entered z bodies w c f (gets_all w gs).1 waits st rest (gets_all w gs).0 | false ↦ quiet Ended ]) (h w (gets_all w gs).0 gs (gets_all w gs).1)

      enter_named : (w : World) (c : Classes) (a b : Option Found) (gs : List Given) (m : Move) (rest : List Move) → DeclaredAlike rename s.face s'.face s.outer a b
          → enter s' other w c b gs (down (waiting m)) (down stack) rest ≡ on (enter s find w c a gs (waiting m) stack rest)
      enter_named w c a b gs m rest (Both f e h) =
          ap (λ b. elim b as (λ b. Next) [ true ↦ entered s' other w c f (gets_all w gs).1 (down (waiting m)) (down stack) rest (gets_all w gs).0 | false ↦ quiet Ended ]) (h w (gets_all w gs).0 gs (gets_all w gs).1)
          ∙ if_next (may_enter s.face s.outer w (gets_all w gs).0 f gs (gets_all w gs).1) _ _ _ _ (entered_named w c f (gets_all w gs).1 m rest (gets_all w gs).0 e) refl
      enter_named w c a b gs m rest (Neither d e h k) =
          barred_move s' other (down (waiting m)) (down stack) w c e gs rest k ∙ ap on (sym (barred_move s find (waiting m) stack w c d gs rest h))

      make_named : (w : World) (c : Classes) (t : Text) (m : Move) (rest : List Move) → make s' other w c t (down (waiting m)) (down stack) rest ≡ on (make s find w c t (waiting m) stack rest)
      make_named w c t m rest = if_next (may_make s.face s.outer t) _ _ _ _ (needs_named (need_of s.face c t) w c t m rest (made w c t stack rest) (made w c t (down stack) rest) refl) refl

      answers_named : (w : World) (c : Classes) (o : Option Text) (g : Option Given) (rest : List Move) → answers s' other w c o g (down below) rest ≡ on (answers s find w c o g below rest)
      answers_named w c None g rest = refl
      answers_named w c (Some kind) g rest = if_next (may_answer s.face s.outer w kind g) _ _ _ _ (gives_named kind (got w g).0 c (got w g).1 below rest) refl

      throws_named : (w : World) (c : Classes) (o : Option Text) (g : Given) (rest : List Move) → throws s' other w c o g (down below) rest ≡ on (throws s find w c o g below rest)
      throws_named w c None g rest = refl
      throws_named w c (Some kind) g rest = if_next (may_throw s.face s.outer w (gets w g).0 g (gets w g).1) _ _ _ _ (unwinds_named (gets w g).0 c (gets w g).1 below rest) refl

      shows_named : (w : World) (c : Classes) (kind : Text) (o : Option Value) (rest : List Move) → shows_value w c kind o (down stack) rest ≡ on (shows_value w c kind o stack rest)
      shows_named w c kind None rest = refl
      shows_named w c kind (Some v) rest = refl

      goes_named : (o : Option World) (c : Classes) (rest : List Move) → goes o c (down stack) rest ≡ on (goes o c stack rest)
      goes_named None c rest = refl
      goes_named (Some w) c rest = refl

      read_named : (w : World) (c : Classes) (k : FieldKey) (o : Option Place) (to : Option Given) (rest : List Move) → reads_field s' w c k o to (down stack) rest ≡ on (reads_field s w c k o to stack rest)
      read_named w c k None to rest = refl
      read_named w c k (Some place) to rest = if_next (s.outer.fields k && on_fits s.face s.outer w (got w to).0 k place to (got w to).1) _ _ _ _ (shows_named (got w to).0 c k.kind (field_value (got w to).0 k place (got w to).1) rest) refl

      write_named : (w : World) (c : Classes) (k : FieldKey) (o : Option Place) (to : Option Given) (g : Given) (rest : List Move) → writes_field s' w c k o to g (down stack) rest ≡ on (writes_field s w c k o to g stack rest)
      write_named w c k None to g rest = refl
      write_named w c k (Some place) to g rest = let a = got w to in let b = gets a.0 g in
          if_next (s.outer.fields k && on_fits s.face s.outer w a.0 k place to a.1 && fits s.face s.outer a.0 b.0 g b.1 k.kind) _ _ _ _ (goes_named (with_field b.0 k a.1 (stored (item_of_type k.kind) b.1)) c rest) refl

      item_read : (w : World) (c : Classes) (o : Option Thing) (n : ℕ) (rest : List Move) → reads_item w c o n (down stack) rest ≡ on (reads_item w c o n stack rest)
      item_read w c None n rest = refl
      item_read w c (Some (Instance t fields)) n rest = refl
      item_read w c (Some (Items kind vs)) n rest = shows_named w c kind (slice_get vs n) rest

      item_written : (w : World) (c : Classes) (to : Value) (o : Option Thing) (n : ℕ) (g : Given) (rest : List Move) → writes_item s' w c to o n g (down stack) rest ≡ on (writes_item s w c to o n g stack rest)
      item_written w c to None n g rest = refl
      item_written w c to (Some (Instance t fields)) n g rest = refl
      item_written w c to (Some (Items kind vs)) n g rest = if_next (fits s.face s.outer w (gets w g).0 g (gets w g).1 kind) _ _ _ _ (goes_named (with_item (gets w g).0 to kind vs n (gets w g).1) c rest) refl

      measured : (w : World) (c : Classes) (o : Option Thing) (rest : List Move) → measures_thing w c o (down stack) rest ≡ on (measures_thing w c o stack rest)
      measured w c None rest = refl
      measured w c (Some (Instance t fields)) rest = refl
      measured w c (Some (Items kind vs)) rest = refl

      moves_named : (w : World) (c : Classes) (m : Move) (rest : List Move) → moves s' other w c owes m (down below) rest ≡ on (moves s find w c owes m below rest)
      moves_named w c (move.Enter t n q gs) rest = enter_named w c (s.face.declared t n q) (x.declared t n q) gs (move.Enter t n q gs) rest (alike.declared t n q)
      moves_named w c (move.Make t) rest = make_named w c t (move.Make t) rest
      moves_named w c (move.Return g) rest = answers_named w c owes g rest
      moves_named w c (move.Throw g) rest = throws_named w c owes g rest
      moves_named w c (move.Get t n k to) rest = read_named w c (key_of t n k) (s.face.own_field (key_of t n k)) to rest
      moves_named w c (move.Put t n k to g) rest = write_named w c (key_of t n k) (s.face.own_field (key_of t n k)) to g rest
      moves_named w c (move.ArrayGet g n) rest = if_next (is_exposed w g) _ _ _ _ (item_read w c (thing_at w (gets w g).1) n rest) refl
      moves_named w c (move.ArrayPut to n g) rest = if_next (is_exposed w to) _ _ _ _ (item_written w c (gets w to).1 (thing_at w (gets w to).1) n g rest) refl
      moves_named w c (move.ArrayLength g) rest = if_next (is_exposed w g) _ _ _ _ (measured w c (thing_at w (gets w g).1) rest) refl

      turn_named : (w : World) (c : Classes) (pending : Option Move) (script : List Move) → framework_turn s' other w c owes pending (down below) script ≡ on (framework_turn s find w c owes pending below script)
      turn_named w c (Some m) script = moves_named w c m script
      turn_named w c None [] = refl
      turn_named w c None (m ∷ rest) = moves_named w c m rest

    -- ---- a step

    step_named : (t : State) → I t → step s' other (image t) ≡ on (step s find t)
    step_named Ended i = refl
    step_named (On w c [] script) i = refl
    step_named (On w c (Method f ∷ rest) script) i = ap (λ o. happens s' other o w c (frame_named rename f) (down rest) script) (now_named w c f rest script i) ∙ happens_named (outcome_at s find (need_of s.face c) w f) w c f rest script
    step_named (On w c (Initialiser t above ∷ rest) script) i = initialises_named w c t above rest script
    step_named (On w c (Ending t ∷ rest) script) i = ap quiet (resumes_named w (put_status t Done c) rest script)
    step_named (On w c (Outside owes pending ∷ rest) script) i = turn_named owes rest w c pending script

    -- the law of renamed methods
    pub renamed_along : StepsAlong s find s' other image I
    renamed_along = record { same = step_named; keeps = alike.keeps }
