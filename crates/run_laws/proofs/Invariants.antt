-- The law of invariants. An invariant says what holds of the frame on top, of a frame that waits for what stands directly
-- above it, and of all that lies outside the frames. Where each step of a frame, each entry, each answer and each move of
-- the framework keeps it, it holds of every state that a run reaches. Where an end is no such state, a run ends only at
-- the end of its script or at a move that isn't legal.
use Rattle.std.proofs.Common.{◌≡◌, ℕ, zero, suc, Bool, true, false, List, [], ◌∷◌, Option, Some, None, ◌⊎◌, inl, inr, refl, sym, ap, ◌∙◌, subst, eqb-true, eq-eqb, true≢false}
use Rattle.std.specs.Prelude.{◌&&◌, length, slice_get, slice_set, is_some, nat_lt, nat_eq}
use Rattle.std.specs.Option.{option_map, option_and_then}
use Rattle.dalvik_defs.specs.Names.{Text, throwable_type, error_type}
use Rattle.dalvik_defs.specs.Flags.{is_static}
use Rattle.dalvik_defs.specs.Known.{no_class, initialiser_error}
use Rattle.dalvik_defs.specs.Find.{Found}
use Rattle.dalvik_defs.specs.Face.{Bodies, Place}
use Rattle.dalvik_defs.specs.State.{World, Classes, Status, New, Running, Done, Failed, Thing, Instance, Items, State, On, Ended, Next, quiet, with_thing, next_object, fresh, put_status, thing_at, put_thing, kind_of, opening_world, opening}
use Rattle.insn_set.specs.declared.ops.Item.{Item}
use Rattle.insn_set.specs.declared.ops.Item.TheVariants as item
use Rattle.dalvik_defs.specs.Effect.{go, write_item}
use Rattle.dalvik_defs.specs.Outcome.{Outcome, Stays, Starts, Enters, Leaves, Ends, Raises, Halts, Need, Ready, Fresh, Broken, need_of}
use Rattle.dalvik_defs.specs.Stack.{entry_frame, enters_body, enters, form_at, receives, back, gives, handler_at, lands, wrapped, lands_or, unwinds, throws_new, left_at, left_of, runs, goes_on, starts, resumes, ends}
use Rattle.dalvik_defs.specs.Happens.{Setting, outcome_at, happens, first_needed, initialises}
use Rattle.dalvik_defs.specs.Gives.{gets, gets_all, spread, fits, may_throw}
use Rattle.dalvik_defs.specs.Legal.{may_enter, may_make, may_answer, on_fits, is_exposed}
use Rattle.dalvik_defs.specs.MayGo.{legal_enter, legal_answer, legal_throw, legal_read, legal_write, has_item, legal_item, is_items, is_legal, may_move, may_go}
use Rattle.dalvik_defs.specs.Moves.{needs, entered, enter, made, make, got, answers, throws, shows_value, goes, field_value, with_field, reads, writes, reads_item, array_get, with_item, writes_item, array_put, measures_thing, key_of, moves, framework_turn}
use Rattle.dalvik_defs.specs.Show.{show, show_option}
use Rattle.dalvik_defs.specs.Items.{stored, item_of_type}
use Rattle.dalvik_defs.specs.Step.{step, after}
use Rattle.dalvik_defs.specs.declared.state.Value.{Value}
use Rattle.dalvik_defs.specs.declared.state.Frame.{Frame}
use Rattle.dalvik_defs.specs.declared.state.Waiting.{Waiting}
use Rattle.dalvik_defs.specs.declared.state.Waiting.TheVariants.{Method, Initialiser, Ending, Outside}
use Rattle.dalvik_defs.specs.declared.names.FieldKey.{FieldKey}
use Rattle.dalvik_defs.specs.declared.names.MethodKey.{MethodKey}
use Rattle.dalvik_defs.specs.declared.program.NamedBody.{NamedBody}
use Rattle.dalvik_defs.specs.declared.forms.Form.{Form}
use Rattle.dalvik_defs.specs.declared.forms.Form.TheVariants as form
use Rattle.dalvik_defs.specs.declared.script.Given.{Given}
use Rattle.dalvik_defs.specs.declared.script.Move.{Move}
use Rattle.dalvik_defs.specs.declared.script.Move.TheVariants as move
use Rattle.run_laws.specs.Invariant.{Above, Callee, Begun, Owing, Invariant}
use Rattle.run_laws.specs.Holds.{Each, IsCall, IsBegun, IsInner, Pends as PendsBy, Waits as WaitsBy, Stacks as StacksBy, Holds as HoldsBy}
use Rattle.run_laws.proofs.Growing.{back_method}

module _ (s : Setting) (find : Bodies) (i : Invariant) where
  abbrev pub Pends : Option Move → Type 0
  Pends = PendsBy i

  abbrev pub Waits : World → Above → List Waiting → Type 0
  Waits = WaitsBy i

  abbrev pub Stacks : World → Classes → List Waiting → Type 0
  Stacks = StacksBy i

  abbrev pub Holds : State → Type 0
  Holds = HoldsBy i

  -- ---- the law's premises

  -- a new object of a class is thrown by the machine
  abbrev pub Faulted : World → Classes → Text → Type 0
  Faulted w c t = i.later w (with_thing w (fresh t)) × i.outside (with_thing w (fresh t)) c × i.thrown (with_thing w (fresh t)) (next_object w)

  -- a world that comes behind another
  abbrev pub Follows : World → Classes → World → Type 0
  Follows w c w1 = i.later w w1 × i.outside w1 c

  -- a body takes as many values as come, or the run ends
  abbrev pub Entered : World → Classes → MethodKey → List Value → Option NamedBody → Type 0
  Entered w c k vs None = i.ended
  Entered w c k vs (Some b) = (length vs ≡ b.ins → i.top w c (entry_frame k vs b)) × ((length vs ≡ b.ins → ⊥) → i.ended)

  abbrev pub Landed : World → Classes → Option Frame → Type 0
  Landed w c None = Unit {0}
  Landed w c (Some g) = i.top w c g

  -- what comes of the frame on top
  abbrev pub Leads : World → Classes → Frame → Outcome → Type 0
  Leads w c f (Stays w1 f1 e) = Follows w c w1 × (f1.method ≡ f.method) × i.top w1 c f1
  Leads w c f (Starts t) = i.class t × i.waits w (Begun t) f
  Leads w c f (Enters k vs) = i.waits w (Callee k) f × Entered w c k vs (find k)
  Leads w c f (Leaves w1 owes e) = Follows w c w1 × i.waits w1 (Owing owes) f
  Leads w c f (Ends v) = i.result w f.method v
  Leads w c f (Raises w1 v) = Follows w c w1 × i.thrown w1 v × Landed w1 c (lands s.face find w1 f v)
  Leads w c f Halts = i.ended

  abbrev pub ShownValue : World → Classes → World → Text → Option Value → Type 0
  ShownValue w c w1 kind None = i.ended
  ShownValue w c w1 kind (Some v) = Follows w c (show w1 kind v).0

  abbrev pub WrittenTo : World → Classes → Option World → Type 0
  WrittenTo w c None = i.ended
  WrittenTo w c (Some w1) = Follows w c w1

  -- what the framework's legal moves keep
  pub record KeptOutside : Type 0 where
    pub enters : (w : World) (c : Classes) (t n q : Text) (gs : List Given) (f : Found) → i.outside w c → i.move (move.Enter t n q gs) → s.face.declared t n q ≡ Some f
        → may_enter s.face s.outer w (gets_all w gs).0 f gs (gets_all w gs).1 ≡ true
        → Follows w c (gets_all w gs).0 × (is_static f.flags ≡ true → i.class f.key.class) × Entered (gets_all w gs).0 c f.key (spread (gets_all w gs).1) (find f.key)
    pub makes : (w : World) (c : Classes) (t : Text) → i.outside w c → i.move (move.Make t) → may_make s.face s.outer t ≡ true
        → i.class t × Follows w c (show (with_thing w (fresh t)) t (next_object w)).0
    pub answers : (w : World) (c : Classes) (kind : Text) (g : Option Given) (f : Frame) → i.outside w c → i.move (move.Return g) → i.waits w (Owing kind) f → may_answer s.face s.outer w kind g ≡ true
        → Follows w c (got w g).0 × i.top (got w g).0 c (back find f (got w g).1)
    pub throws : (w : World) (c : Classes) (g : Given) → i.outside w c → i.move (move.Throw g) → may_throw s.face s.outer w (gets w g).0 g (gets w g).1 ≡ true
        → Follows w c (gets w g).0 × i.thrown (gets w g).0 (gets w g).1
    pub reads : (w : World) (c : Classes) (t n k : Text) (place : Place) (on : Option Given) → i.outside w c → i.move (move.Get t n k on) → s.face.own_field (key_of t n k) ≡ Some place
        → (s.outer.fields (key_of t n k) && on_fits s.face s.outer w (got w on).0 (key_of t n k) place on (got w on).1) ≡ true
        → ShownValue w c (got w on).0 k (field_value (got w on).0 (key_of t n k) place (got w on).1)
    pub writes : (w : World) (c : Classes) (t n k : Text) (place : Place) (on : Option Given) (g : Given) → i.outside w c → i.move (move.Put t n k on g) → s.face.own_field (key_of t n k) ≡ Some place
        → legal_write s w (key_of t n k) (Some place) on g ≡ true
        → WrittenTo w c (with_field (gets (got w on).0 g).0 (key_of t n k) (got w on).1 (stored (item_of_type k) (gets (got w on).0 g).1))
    pub reads_items : (w : World) (c : Classes) (g : Given) (n : ℕ) (kind : Text) (vs : List Value) (v : Value) → i.outside w c → i.move (move.ArrayGet g n) → is_exposed w g ≡ true
        → thing_at w (gets w g).1 ≡ Some (Items kind vs) → slice_get vs n ≡ Some v → Follows w c (show w kind v).0
    pub writes_items : (w : World) (c : Classes) (on g : Given) (n : ℕ) (kind : Text) (vs : List Value) → i.outside w c → i.move (move.ArrayPut on n g) → is_exposed w on ≡ true
        → thing_at w (gets w on).1 ≡ Some (Items kind vs) → fits s.face s.outer w (gets w g).0 g (gets w g).1 kind ≡ true → nat_lt n (length vs) ≡ true
        → WrittenTo w c (with_item (gets w g).0 (gets w on).1 kind vs n (gets w g).1)

  pub record Keeps : Type 0 where
    -- the frame on top goes on
    pub steps : (w : World) (c : Classes) (f : Frame) → i.outside w c → i.top w c f → Leads w c f (outcome_at s find (need_of s.face c) w f)
    -- a frame that waits: in later worlds, once a result has come back, once a class is done, and at the handler of what is thrown
    pub later : (w w1 : World) (a : Above) (f : Frame) → i.later w w1 → i.waits w a f → i.waits w1 a f
    pub returns : (w : World) (c : Classes) (k : MethodKey) (f : Frame) (v : Option Value) → i.outside w c → i.waits w (Callee k) f → i.result w k v → i.top w c (back find f v)
    pub retries : (w : World) (c : Classes) (t : Text) (f : Frame) → i.outside w c → i.waits w (Begun t) f → i.top w c f
    pub lands : (w : World) (c : Classes) (a : Above) (f : Frame) (v : Value) → i.outside w c → i.waits w a f → i.thrown w v → Landed w c (lands s.face find w f v)
    -- what the machine throws itself
    pub unfound : (w : World) (c : Classes) → i.outside w c → Faulted w c no_class
    pub wraps : (w : World) (c : Classes) (v : Value) → i.outside w c → i.thrown w v → Faulted w c initialiser_error
    -- classes: their statuses, those that come before one, and their initialisers
    pub statuses : (w : World) (c : Classes) (t : Text) (x : Status) → i.outside w c → i.class t → i.outside w (put_status t x c)
    pub firsts : (t : Text) → i.class t → Each i.class (s.face.first t)
    pub initialisers : (w : World) (c : Classes) (t : Text) (k : MethodKey) → i.outside w c → i.class t → s.face.initialiser t ≡ Some k → Entered w c k [] (find k)
    -- what is shown to the framework
    pub shows_result : (w : World) (c : Classes) (k : MethodKey) (v : Option Value) → i.outside w c → i.result w k v → Follows w c (show_option w k.signature.result v).0
    pub shows_thrown : (w : World) (c : Classes) (v : Value) → i.outside w c → i.thrown w v → Follows w c (show w throwable_type v).0
    pub framework : KeptOutside

  -- ---- the law

  module _ (keep : Keeps) where
    later_waits : (w w1 : World) → i.later w w1 → (a : Above) (r : List Waiting) → Waits w a r → Waits w1 a r
    later_waits w w1 l a [] h = h
    later_waits w w1 l a (Method f ∷ r) h = (keep.later w w1 a f l h.0, later_waits w w1 l (Callee f.method) r h.1)
    later_waits w w1 l a (Initialiser t ts ∷ r) h = (h.0, h.1, later_waits w w1 l (Begun t) r h.2)
    later_waits w w1 l a (Ending t ∷ r) h = (h.0, h.1, later_waits w w1 l (Begun t) r h.2)
    later_waits w w1 l a (Outside None pending ∷ r) h = h
    later_waits w w1 l a (Outside (Some kind) pending ∷ r) h = (h.0, h.1, later_waits w w1 l (Owing kind) r h.2)

    -- what the framework's frame owes, to those that wait below it
    abbrev Owes : World → Option Text → List Waiting → Type 0
    Owes w None r = r ≡ []
    Owes w (Some kind) r = Waits w (Owing kind) r

    opens : (w : World) (a : Above) (owes : Option Text) (pending : Option Move) (r : List Waiting) (c : Classes) → Waits w a (Outside owes pending ∷ r) → Stacks w c (Outside owes pending ∷ r)
    opens w a None pending r c h = (h.1, h.2)
    opens w a (Some kind) pending r c h = (h.1, h.2)

    on_top : (w : World) (c : Classes) (owes : Option Text) (pending : Option Move) (r : List Waiting) → Pends pending → Owes w owes r → Stacks w c (Outside owes pending ∷ r)
    on_top w c None pending r p h = (p, h)
    on_top w c (Some kind) pending r p h = (p, h)

    waits_for : (w : World) (a : Above) (owes : Option Text) (pending : Option Move) (r : List Waiting) → IsInner a → Pends pending → Owes w owes r → Waits w a (Outside owes pending ∷ r)
    waits_for w a None pending r n p h = (n, p, h)
    waits_for w a (Some kind) pending r n p h = (n, p, h)

    -- the frame of a stack on top owes, and its move may be made
    owes_of : (w : World) (c : Classes) (owes : Option Text) (pending : Option Move) (r : List Waiting) → Stacks w c (Outside owes pending ∷ r) → Pends pending × Owes w owes r
    owes_of w c None pending r h = h
    owes_of w c (Some kind) pending r h = h

    owes_inside : (w : World) (a : Above) (owes : Option Text) (pending : Option Move) (r : List Waiting) → Waits w a (Outside owes pending ∷ r) → Owes w owes r
    owes_inside w a None pending r h = h.2
    owes_inside w a (Some kind) pending r h = h.2

    later_owes : (w w1 : World) → i.later w w1 → (owes : Option Text) (r : List Waiting) → Owes w owes r → Owes w1 owes r
    later_owes w w1 l None r h = h
    later_owes w w1 l (Some kind) r h = later_waits w w1 l (Owing kind) r h

    -- ---- entries, classes

    on_body : (w : World) (c : Classes) (k : MethodKey) (vs : List Value) (o : Option NamedBody) (r : List Waiting) (script : List Move)
        → i.outside w c → Entered w c k vs o → Waits w (Callee k) r → Each i.move script → Holds (enters_body o w c k vs r script)
    on_body w c k vs None r script g e ws m = e
    on_body w c k vs (Some b) r script g e ws m = by (nat_eq (length vs) b.ins) refl
      where
        by : (q : Bool) → nat_eq (length vs) b.ins ≡ q → Holds (elim q as (λ q. State) [ true ↦ On w c (Method (entry_frame k vs b) ∷ r) script | false ↦ Ended ])
        by true j = (g, (e.0 (eqb-true (length vs) b.ins j), ws), m)
        by false j = e.1 (λ z. true≢false (sym (eq-eqb (length vs) b.ins z) ∙ j))

    on_enters : (w : World) (c : Classes) (k : MethodKey) (vs : List Value) (r : List Waiting) (script : List Move)
        → i.outside w c → Entered w c k vs (find k) → Waits w (Callee k) r → Each i.move script → Holds (enters find w c k vs r script)
    on_enters w c k vs r script g e ws m = on_body w c k vs (find k) r script g e ws m

    on_runs : (w : World) (c : Classes) (t : Text) (o : Option MethodKey) (r : List Waiting) (script : List Move) → s.face.initialiser t ≡ o
        → i.outside w c → i.class t → Waits w (Begun t) r → Each i.move script → Holds (runs find w c t o r script)
    on_runs w c t None r script e g k ws m = (g, (k, ws), m)
    on_runs w c t (Some x) r script e g k ws m = on_enters w c x [] (Ending t ∷ r) script g (keep.initialisers w c t x g k e) (tt, k, ws) m

    on_goes_on : (w : World) (c : Classes) (t : Text) (ts : List Text) (r : List Waiting) (script : List Move)
        → i.outside w c → i.class t → Each i.class ts → Waits w (Begun t) r → Each i.move script → Holds (goes_on s.face find w c t ts r script)
    on_goes_on w c t [] r script g k ks ws m = on_runs w c t (s.face.initialiser t) r script refl g k ws m
    on_goes_on w c t (u ∷ us) r script g k ks ws m = (g, ((k, ks), ws), m)

    left_cases : (x : Status) (here behind : List Text) → Each i.class here → Each i.class behind → Each i.class (left_at x here behind)
    left_cases New here behind h b = h
    left_cases Running here behind h b = b
    left_cases Done here behind h b = b
    left_cases Failed here behind h b = h

    each_left : (c : Classes) (ts : List Text) → Each i.class ts → Each i.class (left_of c ts)
    each_left c [] h = h
    each_left c (t ∷ ts) h = left_cases (c t) (t ∷ ts) (left_of c ts) h (each_left c ts h.1)

    on_starts : (w : World) (c : Classes) (t : Text) (r : List Waiting) (script : List Move)
        → i.outside w c → i.class t → Waits w (Begun t) r → Each i.move script → Holds (starts s.face find w c t r script)
    on_starts w c t r script g k ws m =
        on_goes_on w (put_status t Running c) t (left_of (put_status t Running c) (s.face.first t)) r script (keep.statuses w c t Running g k) k
        (each_left (put_status t Running c) (s.face.first t) (keep.firsts t k)) ws m

    on_resumes : (w : World) (c : Classes) (t : Text) (r : List Waiting) (script : List Move)
        → i.outside w c → Waits w (Begun t) r → Each i.move script → Holds (resumes s.face find w c r script)
    on_resumes w c t [] script g ws m = absurd ws
    on_resumes w c t (Method f ∷ r) script g ws m = (g, (keep.retries w c t f g ws.0, ws.1), m)
    on_resumes w c t (Initialiser u us ∷ r) script g ws m = on_goes_on w c u (left_of c us) r script g ws.1.0 (each_left c us ws.1.1) ws.2 m
    on_resumes w c t (Ending u ∷ r) script g ws m = absurd ws.0
    on_resumes w c t (Outside owes pending ∷ r) script g ws m = (g, opens w (Begun t) owes pending r c ws, m)

    on_ends : (w : World) (c : Classes) (t : Text) (r : List Waiting) (script : List Move)
        → i.outside w c → i.class t → Waits w (Begun t) r → Each i.move script → Holds (ends s.face find w c t r script)
    on_ends w c t r script g k ws m = on_resumes w (put_status t Done c) t r script (keep.statuses w c t Done g k) ws m

    -- ---- results

    goes_on_top : (w : World) (c : Classes) (f g : Frame) (r : List Waiting) → g.method ≡ f.method → i.top w c g → Waits w (Callee f.method) r → Stacks w c (Method g ∷ r)
    goes_on_top w c f g r e t ws = (t, subst (λ k. Waits w (Callee k) r) (sym e) ws)

    on_outside : (w w1 : World) (c : Classes) (a : Above) (owes : Option Text) (pending : Option Move) (r : List Waiting) (script : List Move)
        → Follows w c w1 → Waits w a (Outside owes pending ∷ r) → Each i.move script → Holds (On w1 c (Outside owes pending ∷ r) script)
    on_outside w w1 c a owes pending r script f ws m = (f.1, opens w1 a owes pending r c (later_waits w w1 f.0 a (Outside owes pending ∷ r) ws), m)

    on_gives : (w : World) (c : Classes) (k : MethodKey) (v : Option Value) (r : List Waiting) (script : List Move)
        → i.outside w c → i.result w k v → Waits w (Callee k) r → Each i.move script → Holds (gives find k.signature.result w c v r script).0
    on_gives w c k v [] script g x ws m = absurd ws
    on_gives w c k v (Method f ∷ r) script g x ws m = (g, goes_on_top w c f (back find f v) r (back_method find f v) (keep.returns w c k f v g ws.0 x) ws.1, m)
    on_gives w c k v (Initialiser t ts ∷ r) script g x ws m = absurd ws.0
    on_gives w c k v (Ending t ∷ r) script g x ws m = (g, (ws.1, ws.2), m)
    on_gives w c k v (Outside owes pending ∷ r) script g x ws m = on_outside w (show_option w k.signature.result v).0 c (Callee k) owes pending r script (keep.shows_result w c k v g x) ws m

    -- ---- thrown objects

    on_lands : (w : World) (c : Classes) (f : Frame) (v : Value) (o : Option ℕ) (r : List Waiting) (script : List Move) (x : Next)
        → i.outside w c → Landed w c (option_map (λ at. record (go f at) { caught = v }) o) → Waits w (Callee f.method) r → Each i.move script
        → Holds x.0 → Holds (lands_or w c r script (option_map (λ at. record (go f at) { caught = v }) o) x).0
    on_lands w c f v None r script x g l ws m h = h
    on_lands w c f v (Some at) r script x g l ws m h = (g, (l, ws), m)

    record Thrown (w : World) (c : Classes) (x : World × Value) : Type 0 where
      here : i.outside x.0 c
      object : i.thrown x.0 x.1
      waits : (a : Above) (r : List Waiting) → Waits w a r → Waits x.0 a r

    on_wrapped : (w : World) (c : Classes) (v : Value) (b : Bool) → i.outside w c → i.thrown w v
        → Thrown w c (elim b as (λ b. World × Value) [ true ↦ (w, v) | false ↦ (with_thing w (fresh initialiser_error), next_object w) ])
    on_wrapped w c v true g x = record { here = g; object = x; waits = λ a r ws. ws }
    on_wrapped w c v false g x = let h = keep.wraps w c v g x in record { here = h.1; object = h.2; waits = λ a r ws. later_waits w (with_thing w (fresh initialiser_error)) h.0 a r ws }

    on_unwinds : (r : List Waiting) (w : World) (c : Classes) (a : Above) (v : Value) (script : List Move)
        → i.outside w c → i.thrown w v → Waits w a r → Each i.move script → Holds (unwinds s.face find w c v r script).0
    on_unwinds [] w c a v script g x ws m = absurd ws
    on_unwinds (Method f ∷ r) w c a v script g x ws m =
        on_lands w c f v (option_and_then (handler_at (s.face.under (kind_of w v)) f.position) (find f.method)) r script (unwinds s.face find w c v r script) g (keep.lands w c a f v g ws.0 x) ws.1 m
        (on_unwinds r w c (Callee f.method) v script g x ws.1 m)
    on_unwinds (Initialiser t ts ∷ r) w c a v script g x ws m =
        on_unwinds r w (put_status t Failed c) (Begun t) v script (keep.statuses w c t Failed g ws.1.0) x ws.2 m
    on_unwinds (Ending t ∷ r) w c a v script g x ws m =
        let h = on_wrapped w c v (s.face.under (kind_of w v) error_type) g x in
        on_unwinds r (wrapped s.face w v).0 (put_status t Failed c) (Begun t) (wrapped s.face w v).1 script (keep.statuses (wrapped s.face w v).0 c t Failed h.here ws.1) h.object
        (h.waits (Begun t) r ws.2) m
    on_unwinds (Outside owes pending ∷ r) w c a v script g x ws m =
        let w1 = (show w throwable_type v).0 in let k = keep.shows_thrown w c v g x in
        (k.1, on_top w1 c owes None r tt (later_owes w w1 k.0 owes r (owes_inside w a owes pending r ws)), m)

    on_throws_new : (w : World) (c : Classes) (t : Text) (a : Above) (r : List Waiting) (script : List Move)
        → Faulted w c t → Waits w a r → Each i.move script → Holds (throws_new s.face find w c t r script).0
    on_throws_new w c t a r script h ws m = on_unwinds r (with_thing w (fresh t)) c a (next_object w) script h.1 h.2 (later_waits w (with_thing w (fresh t)) h.0 a r ws) m

    -- ---- a class with those that come before it

    on_first : (w : World) (c : Classes) (t d : Text) (ds : List Text) (x : Status) (r : List Waiting) (script : List Move)
        → i.outside w c → i.class t → i.class d × Each i.class ds → Waits w (Begun t) r → Each i.move script → Holds (first_needed s find w c t d ds x r script).0
    on_first w c t d ds New r script g k ks ws m = on_starts w c d (Initialiser t (d ∷ ds) ∷ r) script g ks.0 (tt, (k, ks), ws) m
    on_first w c t d ds Failed r script g k ks ws m = on_throws_new w c no_class (Begun d) (Initialiser t (d ∷ ds) ∷ r) script (keep.unfound w c g) (tt, (k, ks), ws) m
    on_first w c t d ds Running r script g k ks ws m = on_goes_on w c t (left_of c ds) r script g k (each_left c ds ks.1) ws m
    on_first w c t d ds Done r script g k ks ws m = on_goes_on w c t (left_of c ds) r script g k (each_left c ds ks.1) ws m

    on_initialises : (w : World) (c : Classes) (t : Text) (ts : List Text) (r : List Waiting) (script : List Move)
        → i.outside w c → i.class t → Each i.class ts → Waits w (Begun t) r → Each i.move script → Holds (initialises s find w c t ts r script).0
    on_initialises w c t [] r script g k ks ws m = on_goes_on w c t [] r script g k ks ws m
    on_initialises w c t (d ∷ ds) r script g k ks ws m = on_first w c t d ds (c d) r script g k ks ws m

    -- ---- outcomes

    on_happens : (w : World) (c : Classes) (f : Frame) (o : Outcome) (r : List Waiting) (script : List Move)
        → i.outside w c → Leads w c f o → Waits w (Callee f.method) r → Each i.move script → Holds (happens s find o w c f r script).0
    on_happens w c f (Stays w1 f1 e) r script g l ws m = (l.0.1, goes_on_top w1 c f f1 r l.1 l.2 (later_waits w w1 l.0.0 (Callee f.method) r ws), m)
    on_happens w c f (Starts t) r script g l ws m = on_starts w c t (Method f ∷ r) script g l.0 (l.1, ws) m
    on_happens w c f (Enters k vs) r script g l ws m = on_enters w c k vs (Method f ∷ r) script g l.1 (l.0, ws) m
    on_happens w c f (Leaves w1 owes e) r script g l ws m = (l.0.1, (tt, (l.1, later_waits w w1 l.0.0 (Callee f.method) r ws)), m)
    on_happens w c f (Ends v) r script g l ws m = on_gives w c f.method v r script g l ws m
    on_happens w c f (Raises w1 v) r script g l ws m =
        let ws1 = later_waits w w1 l.0.0 (Callee f.method) r ws in
        on_lands w1 c f v (option_and_then (handler_at (s.face.under (kind_of w1 v)) f.position) (find f.method)) r script (unwinds s.face find w1 c v r script) l.0.1 l.2 ws1 m
        (on_unwinds r w1 c (Callee f.method) v script l.0.1 l.1 ws1 m)
    on_happens w c f Halts r script g l ws m = l

    -- ---- moves of the framework

    -- where a move is legal, what it leaves holds; any other ends the run
    abbrev OnMove : Bool → Next → Type 0
    OnMove true x = Holds x.0
    OnMove false x = x ≡ quiet Ended

    on_if : (b : Bool) (x : Next) → (b ≡ true → Holds x.0) → OnMove b (elim b as (λ b. Next) [ true ↦ x | false ↦ quiet Ended ])
    on_if true x h = h refl
    on_if false x h = refl

    -- a legal move by two tests, one after the other
    on_both : (b d : Bool) (x : Next) → (b ≡ true → OnMove d x) → OnMove (b && d) (elim b as (λ b. Next) [ true ↦ x | false ↦ quiet Ended ])
    on_both true d x h = h refl
    on_both false d x h = refl

    module _ (owes : Option Text) (below : List Waiting) where
      abbrev here : List Waiting
      here = Outside owes None ∷ below

      -- the same frame with the move that waits
      abbrev with_move : Move → List Waiting
      with_move x = Outside owes (Some x) ∷ below

      -- the framework goes on in a world that comes behind
      on_here : (w w1 : World) (c : Classes) (rest : List Move) → Follows w c w1 → Owes w owes below → Each i.move rest → Holds (On w1 c here rest)
      on_here w w1 c rest f h m = (f.1, on_top w1 c owes None below tt (later_owes w w1 f.0 owes below h), m)

      on_needs : (n : Need) (w : World) (c : Classes) (t : Text) (y : Move) (rest : List Move) (x : Next)
          → i.outside w c → i.class t → Owes w owes below → i.move y → Each i.move rest → Holds x.0 → Holds (needs s find n w c t (with_move y) here rest x).0
      on_needs Ready w c t y rest x g k h p m z = z
      on_needs Fresh w c t y rest x g k h p m z = on_starts w c t (with_move y) rest g k (waits_for w (Begun t) owes (Some y) below tt p h) m
      on_needs Broken w c t y rest x g k h p m z = on_throws_new w c no_class (Begun t) here rest (keep.unfound w c g) (waits_for w (Begun t) owes None below tt tt h) m

      on_entered : (w w1 : World) (c : Classes) (f : Found) (vs : List Value) (y : Move) (rest : List Move) (b : Bool)
          → i.outside w c → Follows w c w1 → (b ≡ true → i.class f.key.class) → Entered w1 c f.key (spread vs) (find f.key) → Owes w owes below → i.move y → Each i.move rest
          → Holds (elim b as (λ b. Next) [
            | true ↦ needs s find (need_of s.face c f.key.class) w c f.key.class (with_move y) here rest (quiet (enters find w1 c f.key (spread vs) here rest))
            | false ↦ quiet (enters find w1 c f.key (spread vs) here rest)
          ]).0
      on_entered w w1 c f vs y rest true g l k e h p m =
          on_needs (need_of s.face c f.key.class) w c f.key.class y rest (quiet (enters find w1 c f.key (spread vs) here rest)) g (k refl) h p m
          (on_enters w1 c f.key (spread vs) here rest l.1 e (waits_for w1 (Callee f.key) owes None below tt tt (later_owes w w1 l.0 owes below h)) m)
      on_entered w w1 c f vs y rest false g l k e h p m =
          on_enters w1 c f.key (spread vs) here rest l.1 e (waits_for w1 (Callee f.key) owes None below tt tt (later_owes w w1 l.0 owes below h)) m

      on_enter : (w : World) (c : Classes) (t n q : Text) (gs : List Given) (rest : List Move) (o : Option Found) → s.face.declared t n q ≡ o
          → i.outside w c → Owes w owes below → i.move (move.Enter t n q gs) → Each i.move rest → OnMove (legal_enter s w o gs) (enter s find w c o gs (with_move (move.Enter t n q gs)) here rest)
      on_enter w c t n q gs rest None e g h p m = refl
      on_enter w c t n q gs rest (Some f) e g h p m =
          on_if (may_enter s.face s.outer w (gets_all w gs).0 f gs (gets_all w gs).1) (entered s find w c f (gets_all w gs).1 (with_move (move.Enter t n q gs)) here rest (gets_all w gs).0)
          (λ y. let k = keep.framework.enters w c t n q gs f g p e y in
          on_entered w (gets_all w gs).0 c f (gets_all w gs).1 (move.Enter t n q gs) rest (is_static f.flags) g k.0 k.1 k.2 h p m)

      on_make : (w : World) (c : Classes) (t : Text) (rest : List Move)
          → i.outside w c → Owes w owes below → i.move (move.Make t) → Each i.move rest → OnMove (may_make s.face s.outer t) (make s find w c t (with_move (move.Make t)) here rest)
      on_make w c t rest g h p m = on_if (may_make s.face s.outer t) (needs s find (need_of s.face c t) w c t (with_move (move.Make t)) here rest (made w c t here rest))
          (λ y. let k = keep.framework.makes w c t g p y in
          on_needs (need_of s.face c t) w c t (move.Make t) rest (made w c t here rest) g k.0 h p m (on_here w (show (with_thing w (fresh t)) t (next_object w)).0 c rest k.1 h m))

      on_shows_value : (w w1 : World) (c : Classes) (kind : Text) (o : Option Value) (rest : List Move) → ShownValue w c w1 kind o → Owes w owes below → Each i.move rest → Holds (shows_value w1 c kind o here rest).0
      on_shows_value w w1 c kind None rest l h m = l
      on_shows_value w w1 c kind (Some v) rest l h m = on_here w (show w1 kind v).0 c rest l h m

      on_goes : (w : World) (c : Classes) (o : Option World) (rest : List Move) → WrittenTo w c o → Owes w owes below → Each i.move rest → Holds (goes o c here rest).0
      on_goes w c None rest l h m = l
      on_goes w c (Some w1) rest l h m = on_here w w1 c rest l h m

      on_reads : (w : World) (c : Classes) (t n k : Text) (on : Option Given) (rest : List Move) (o : Option Place) → s.face.own_field (key_of t n k) ≡ o
          → i.outside w c → Owes w owes below → i.move (move.Get t n k on) → Each i.move rest → OnMove (legal_read s w (key_of t n k) o on) (reads s w c (key_of t n k) o on here rest)
      on_reads w c t n k on rest None e g h p m = refl
      on_reads w c t n k on rest (Some place) e g h p m =
          on_if (s.outer.fields (key_of t n k) && on_fits s.face s.outer w (got w on).0 (key_of t n k) place on (got w on).1)
          (shows_value (got w on).0 c k (field_value (got w on).0 (key_of t n k) place (got w on).1) here rest)
          (λ y. on_shows_value w (got w on).0 c k (field_value (got w on).0 (key_of t n k) place (got w on).1) rest (keep.framework.reads w c t n k place on g p e y) h m)

      on_writes : (w : World) (c : Classes) (t n k : Text) (on : Option Given) (x : Given) (rest : List Move) (o : Option Place) → s.face.own_field (key_of t n k) ≡ o
          → i.outside w c → Owes w owes below → i.move (move.Put t n k on x) → Each i.move rest → OnMove (legal_write s w (key_of t n k) o on x) (writes s w c (key_of t n k) o on x here rest)
      on_writes w c t n k on x rest None e g h p m = refl
      on_writes w c t n k on x rest (Some place) e g h p m =
          let a = got w on in let b = gets a.0 x in let o = with_field b.0 (key_of t n k) a.1 (stored (item_of_type k) b.1) in
          on_if (legal_write s w (key_of t n k) (Some place) on x) (goes o c here rest)
          (λ y. on_goes w c o rest (keep.framework.writes w c t n k place on x g p e y) h m)

      on_reads_item : (w : World) (c : Classes) (x : Given) (n : ℕ) (rest : List Move) → is_exposed w x ≡ true → (o : Option Thing) → thing_at w (gets w x).1 ≡ o
          → i.outside w c → Owes w owes below → i.move (move.ArrayGet x n) → Each i.move rest → OnMove (has_item o n) (reads_item w c o n here rest)
      on_reads_item w c x n rest b None e g h p m = refl
      on_reads_item w c x n rest b (Some (Instance t fields)) e g h p m = refl
      on_reads_item w c x n rest b (Some (Items kind vs)) e g h p m = by (slice_get vs n) refl
        where
          by : (v : Option Value) → slice_get vs n ≡ v → OnMove (is_some v) (shows_value w c kind v here rest)
          by None j = refl
          by (Some v) j = on_here w (show w kind v).0 c rest (keep.framework.reads_items w c x n kind vs v g p b e j) h m

      on_array_get : (w : World) (c : Classes) (x : Given) (n : ℕ) (rest : List Move)
          → i.outside w c → Owes w owes below → i.move (move.ArrayGet x n) → Each i.move rest → OnMove (is_exposed w x && has_item (thing_at w (gets w x).1) n) (array_get w c x n here rest)
      on_array_get w c x n rest g h p m = on_both (is_exposed w x) (has_item (thing_at w (gets w x).1) n) (reads_item w c (thing_at w (gets w x).1) n here rest)
          (λ b. on_reads_item w c x n rest b (thing_at w (gets w x).1) refl g h p m)

      on_writes_item : (w : World) (c : Classes) (on : Given) (n : ℕ) (x : Given) (rest : List Move) → is_exposed w on ≡ true → (o : Option Thing) → thing_at w (gets w on).1 ≡ o
          → i.outside w c → Owes w owes below → i.move (move.ArrayPut on n x) → Each i.move rest → OnMove (legal_item s w o n x) (writes_item s w c (gets w on).1 o n x here rest)
      on_writes_item w c on n x rest b None e g h p m = refl
      on_writes_item w c on n x rest b (Some (Instance t fields)) e g h p m = refl
      on_writes_item w c on n x rest b (Some (Items kind vs)) e g h p m =
          let o = with_item (gets w x).0 (gets w on).1 kind vs n (gets w x).1 in
          on_both (fits s.face s.outer w (gets w x).0 x (gets w x).1 kind) (nat_lt n (length vs)) (goes o c here rest) (λ y. by y (nat_lt n (length vs)) refl)
        where
          by : fits s.face s.outer w (gets w x).0 x (gets w x).1 kind ≡ true → (d : Bool) → nat_lt n (length vs) ≡ d → OnMove d (goes (with_item (gets w x).0 (gets w on).1 kind vs n (gets w x).1) c here rest)
          by y true j = on_goes w c (with_item (gets w x).0 (gets w on).1 kind vs n (gets w x).1) rest (keep.framework.writes_items w c on x n kind vs g p b e y j) h m
          by y false j = ap (λ d. goes (elim d as (λ d. Option World) [
            | true ↦ Some (put_thing (gets w x).0 (gets w on).1 (Items kind (slice_set vs n (stored (item_of_type kind) (gets w x).1))))
            | false ↦ None
          ]) c here rest) j

      on_array_put : (w : World) (c : Classes) (on : Given) (n : ℕ) (x : Given) (rest : List Move)
          → i.outside w c → Owes w owes below → i.move (move.ArrayPut on n x) → Each i.move rest → OnMove (is_exposed w on && legal_item s w (thing_at w (gets w on).1) n x) (array_put s w c on n x here rest)
      on_array_put w c on n x rest g h p m = on_both (is_exposed w on) (legal_item s w (thing_at w (gets w on).1) n x) (writes_item s w c (gets w on).1 (thing_at w (gets w on).1) n x here rest)
          (λ b. on_writes_item w c on n x rest b (thing_at w (gets w on).1) refl g h p m)

      on_measures : (w : World) (c : Classes) (o : Option Thing) (rest : List Move) → i.outside w c → Owes w owes below → Each i.move rest → OnMove (is_items o) (measures_thing w c o here rest)
      on_measures w c None rest g h m = refl
      on_measures w c (Some (Instance t fields)) rest g h m = refl
      on_measures w c (Some (Items kind vs)) rest g h m = (g, on_top w c owes None below tt h, m)

    on_answers : (w : World) (c : Classes) (kind : Text) (x : Option Given) (below : List Waiting) (rest : List Move) → may_answer s.face s.outer w kind x ≡ true
        → i.outside w c → Waits w (Owing kind) below → i.move (move.Return x) → Each i.move rest → Holds (gives find kind (got w x).0 c (got w x).1 below rest).0
    on_answers w c kind x [] rest y g ws p m = absurd ws
    on_answers w c kind x (Method f ∷ r) rest y g ws p m =
        let k = keep.framework.answers w c kind x f g p ws.0 y in
        (k.0.1, goes_on_top (got w x).0 c f (back find f (got w x).1) r (back_method find f (got w x).1) k.1 (later_waits w (got w x).0 k.0.0 (Callee f.method) r ws.1), m)
    on_answers w c kind x (Initialiser t ts ∷ r) rest y g ws p m = absurd ws.0
    on_answers w c kind x (Ending t ∷ r) rest y g ws p m = absurd ws.0
    on_answers w c kind x (Outside None pending ∷ r) rest y g ws p m = absurd ws.0
    on_answers w c kind x (Outside (Some k) pending ∷ r) rest y g ws p m = absurd ws.0

    on_return : (w : World) (c : Classes) (owes : Option Text) (x : Option Given) (below : List Waiting) (rest : List Move)
        → i.outside w c → Owes w owes below → i.move (move.Return x) → Each i.move rest → OnMove (legal_answer s w owes x) (answers s find w c owes x below rest)
    on_return w c None x below rest g h p m = refl
    on_return w c (Some kind) x below rest g h p m =
        on_if (may_answer s.face s.outer w kind x) (gives find kind (got w x).0 c (got w x).1 below rest) (λ y. on_answers w c kind x below rest y g h p m)

    on_throw : (w : World) (c : Classes) (owes : Option Text) (x : Given) (below : List Waiting) (rest : List Move)
        → i.outside w c → Owes w owes below → i.move (move.Throw x) → Each i.move rest → OnMove (legal_throw s w owes x) (throws s find w c owes x below rest)
    on_throw w c None x below rest g h p m = refl
    on_throw w c (Some kind) x below rest g h p m = on_if (may_throw s.face s.outer w (gets w x).0 x (gets w x).1) (unwinds s.face find (gets w x).0 c (gets w x).1 below rest)
        (λ y. let k = keep.framework.throws w c x g p y in
        on_unwinds below (gets w x).0 c (Owing kind) (gets w x).1 rest k.0.1 k.1 (later_waits w (gets w x).0 k.0.0 (Owing kind) below h) m)

    on_moves : (w : World) (c : Classes) (owes : Option Text) (below : List Waiting) (y : Move) (rest : List Move)
        → i.outside w c → Owes w owes below → i.move y → Each i.move rest → OnMove (is_legal s w owes y) (moves s find w c owes y below rest)
    on_moves w c owes below (move.Enter t n q gs) rest g h p m = on_enter owes below w c t n q gs rest (s.face.declared t n q) refl g h p m
    on_moves w c owes below (move.Make t) rest g h p m = on_make owes below w c t rest g h p m
    on_moves w c owes below (move.Return x) rest g h p m = on_return w c owes x below rest g h p m
    on_moves w c owes below (move.Throw x) rest g h p m = on_throw w c owes x below rest g h p m
    on_moves w c owes below (move.Get t n k on) rest g h p m = on_reads owes below w c t n k on rest (s.face.own_field (key_of t n k)) refl g h p m
    on_moves w c owes below (move.Put t n k on x) rest g h p m = on_writes owes below w c t n k on x rest (s.face.own_field (key_of t n k)) refl g h p m
    on_moves w c owes below (move.ArrayGet x n) rest g h p m = on_array_get owes below w c x n rest g h p m
    on_moves w c owes below (move.ArrayPut on n x) rest g h p m = on_array_put owes below w c on n x rest g h p m
    on_moves w c owes below (move.ArrayLength x) rest g h p m = on_both (is_exposed w x) (is_items (thing_at w (gets w x).1)) (measures_thing w c (thing_at w (gets w x).1) (Outside owes None ∷ below) rest)
        (λ b. on_measures owes below w c (thing_at w (gets w x).1) rest g h m)

    on_turn : (w : World) (c : Classes) (owes : Option Text) (pending : Option Move) (below : List Waiting) (script : List Move)
        → i.outside w c → Pends pending → Owes w owes below → Each i.move script → OnMove (may_move s w owes pending script) (framework_turn s find w c owes pending below script)
    on_turn w c owes (Some y) below script g p h m = on_moves w c owes below y script g h p m
    on_turn w c owes None below [] g p h m = refl
    on_turn w c owes None below (y ∷ rest) g p h m = on_moves w c owes below y rest g h m.0 m.1

    -- ---- a step

    on_step : (t : State) → Holds t → OnMove (may_go s t) (step s find t)
    on_step Ended h = h
    on_step (On w c [] script) h = absurd h.1
    on_step (On w c (Method f ∷ r) script) h = on_happens w c f (outcome_at s find (need_of s.face c) w f) r script h.0 (keep.steps w c f h.0 h.1.0) h.1.1 h.2
    on_step (On w c (Initialiser t ts ∷ r) script) h = on_initialises w c t ts r script h.0 h.1.0.0 h.1.0.1 h.1.1 h.2
    on_step (On w c (Ending t ∷ r) script) h = on_ends w c t r script h.0 h.1.0 h.1.1 h.2
    on_step (On w c (Outside owes pending ∷ r) script) h = let o = owes_of w c owes pending r h.1 in on_turn w c owes pending r script h.0 o.0 o.1 h.2

    -- The law of invariants: what holds of a state holds of the next one, unless the framework's next move isn't legal or
    -- there is none; then the run ends.
    pub holds_on : (t : State) → Holds t → may_go s t ≡ true → Holds (step s find t).0
    holds_on t h e = subst (λ b. OnMove b (step s find t)) e (on_step t h)

    pub stops : (t : State) → Holds t → may_go s t ≡ false → step s find t ≡ quiet Ended
    stops t h e = subst (λ b. OnMove b (step s find t)) e (on_step t h)

    stays_ended : (n : ℕ) → after s find Ended n ≡ Ended
    stays_ended zero = refl
    stays_ended (suc n) = stays_ended n

    -- each state that a run reaches has ended, or it holds of it
    pub holds_after : (n : ℕ) (t : State) → Holds t → (after s find t n ≡ Ended) ⊎ Holds (after s find t n)
    holds_after zero t h = inr h
    holds_after (suc n) t h = by (λ x. holds_after n (step s find t).0 x) (may_go s t) refl
      where
        by : (Holds (step s find t).0 → (after s find (step s find t).0 n ≡ Ended) ⊎ Holds (after s find (step s find t).0 n))
            → (b : Bool) → may_go s t ≡ b → (after s find (step s find t).0 n ≡ Ended) ⊎ Holds (after s find (step s find t).0 n)
        by more true e = more (holds_on t h e)
        by more false e = inl (ap (λ x. after s find x.0 n) (stops t h e) ∙ stays_ended n)

    -- where an end is no such state, a run ends only at the end of its script or at a move that isn't legal
    pub never_stuck : (i.ended → ⊥) → (t : State) → Holds t → (step s find t).0 ≡ Ended → may_go s t ≡ false
    never_stuck none t h e = by (may_go s t) refl
      where
        by : (b : Bool) → may_go s t ≡ b → b ≡ false
        by true j = absurd (none (subst Holds e (holds_on t h j)))
        by false j = refl

    -- the opening state
    pub opens_with : (script : List Move) → i.outside opening_world (λ t. New) → Each i.move script → Holds (opening script)
    opens_with script g m = (g, (tt, refl), m)
