-- The law of invariants where what waits asks only that things keep their kinds: that each step and each move leaves a world
-- in which they do, and a frame of the same method, is shown here once.
use Rattle.std.proofs.Common.{◌≡◌, ℕ, Bool, true, false, List, [], ◌∷◌, Option, Some, None, ◌⊎◌, inl, inr, refl}
use Rattle.std.specs.Prelude.{◌&&◌, length, slice_get, slice_set, nat_lt}
use Rattle.dalvik_defs.specs.Names.{Text, throwable_type}
use Rattle.dalvik_defs.specs.Flags.{is_static}
use Rattle.dalvik_defs.specs.Known.{no_class, initialiser_error}
use Rattle.dalvik_defs.specs.Find.{Found}
use Rattle.dalvik_defs.specs.Face.{Bodies, Place}
use Rattle.dalvik_defs.specs.State.{World, Classes, Status, Thing, Instance, Items, with_thing, next_object, fresh, put_status, put_thing, put_field, thing_at}
use Rattle.dalvik_defs.specs.Fields.{with_instance, with_static}
use Rattle.dalvik_defs.specs.Outcome.{Outcome, Stays, Starts, Enters, Leaves, Ends, Raises, Halts, need_of}
use Rattle.dalvik_defs.specs.Stack.{back, lands}
use Rattle.dalvik_defs.specs.Happens.{Setting, outcome_at}
use Rattle.dalvik_defs.specs.Gives.{gets, gets_all, spread, fits, may_throw}
use Rattle.dalvik_defs.specs.Legal.{may_enter, may_make, may_answer, on_fits, is_exposed}
use Rattle.dalvik_defs.specs.Moves.{got, field_value, with_field, with_item, key_of}
use Rattle.dalvik_defs.specs.ActArray.{zeros}
use Rattle.dalvik_defs.specs.Show.{show, show_option}
use Rattle.dalvik_defs.specs.Items.{stored, item_of_type}
use Rattle.dalvik_defs.specs.declared.state.Value.{Value}
use Rattle.dalvik_defs.specs.declared.state.Frame.{Frame}
use Rattle.dalvik_defs.specs.declared.names.FieldKey.{FieldKey}
use Rattle.dalvik_defs.specs.declared.names.MethodKey.{MethodKey}
use Rattle.dalvik_defs.specs.declared.script.Given.{Given}
use Rattle.dalvik_defs.specs.declared.script.Given.TheVariants as given
use Rattle.dalvik_defs.specs.declared.script.Move.TheVariants as move
use Rattle.run_laws.specs.Invariant.{Above, Callee, Begun, Owing, Invariant, Grows}
use Rattle.run_laws.proofs.Growing.{grows_same, grows_then, grows_with, grows_put, grows_over, show_heap, option_heap, OutcomeGrows, step_grows}
use Rattle.dalvik_defs.specs.MayGo.{legal_write}
use Rattle.run_laws.specs.Holds.{Each}
use Rattle.run_laws.proofs.Invariants.{Entered, Landed, Leads, ShownValue, WrittenTo, Keeps}

-- ---- values that are given

pub gets_grow : (w : World) (g : Given) → Grows w (gets w g).0
gets_grow w (given.New kind) = grows_then w (with_thing w (fresh kind)) (gets w (given.New kind)).0 (grows_with w (fresh kind)) (grows_same (with_thing w (fresh kind)) (gets w (given.New kind)).0 refl)
gets_grow w (given.Array item size) = grows_then w (with_thing w (zeros item size)) (gets w (given.Array item size)).0 (grows_with w (zeros item size)) (grows_same (with_thing w (zeros item size)) (gets w (given.Array item size)).0 refl)
gets_grow w g = grows_same w w refl

pub got_grows : (w : World) (o : Option Given) → Grows w (got w o).0
got_grows w None = grows_same w w refl
got_grows w (Some g) = gets_grow w g

pub all_grow : (gs : List Given) (w : World) → Grows w (gets_all w gs).0
all_grow [] w = grows_same w w refl
all_grow (g ∷ gs) w = grows_then w (gets w g).0 (gets_all (gets w g).0 gs).0 (gets_grow w g) (all_grow gs (gets w g).0)

shown_grows : (w w1 : World) (kind : Text) (v : Value) → Grows w w1 → Grows w (show w1 kind v).0
shown_grows w w1 kind v g = grows_then w w1 (show w1 kind v).0 g (grows_same w1 (show w1 kind v).0 (show_heap w1 kind v))

-- a world that is written, where it is
abbrev MaybeGrows : World → Option World → Type 0
MaybeGrows w None = Unit {0}
MaybeGrows w (Some w1) = Grows w w1

instance_grows : (w : World) (k : FieldKey) (on v : Value) (o : Option Thing) → thing_at w on ≡ o → MaybeGrows w (with_instance w k on v o)
instance_grows w k on v (Some (Instance c fields)) e = grows_put w on (Instance c fields) (Instance c (put_field k v fields)) e refl
instance_grows w k on v (Some (Items kind vs)) e = tt
instance_grows w k on v None e = tt

field_grows : (w : World) (k : FieldKey) (on : Option Value) (v : Value) → MaybeGrows w (with_field w k on v)
field_grows w k None v = grows_same w (with_static w k v) refl
field_grows w k (Some on) v = instance_grows w k on v (thing_at w on) refl

module _ (s : Setting) (find : Bodies) (i : Invariant) where
  abbrev pub grown : Invariant
  grown = record i { later = Grows }

  -- ---- the premises

  abbrev pub LeadsPlainly : World → Classes → Frame → Outcome → Type 0
  LeadsPlainly w c f (Stays w1 f1 e) = i.outside w1 c × i.top w1 c f1
  LeadsPlainly w c f (Starts t) = i.class t × i.waits w (Begun t) f
  LeadsPlainly w c f (Enters k vs) = i.waits w (Callee k) f × Entered s find grown w c k vs (find k)
  LeadsPlainly w c f (Leaves w1 owes e) = i.outside w1 c × i.waits w1 (Owing owes) f
  LeadsPlainly w c f (Ends v) = i.result w f.method v
  LeadsPlainly w c f (Raises w1 v) = i.outside w1 c × i.thrown w1 v × Landed s find grown w1 c (lands s.face find w1 f v)
  LeadsPlainly w c f Halts = i.ended

  abbrev pub ShownPlainly : Classes → World → Text → Option Value → Type 0
  ShownPlainly c w1 kind None = i.ended
  ShownPlainly c w1 kind (Some v) = i.outside (show w1 kind v).0 c

  abbrev pub WrittenPlainly : Classes → Option World → Type 0
  WrittenPlainly c None = i.ended
  WrittenPlainly c (Some w1) = i.outside w1 c

  abbrev pub ThrownNew : World → Classes → Text → Type 0
  ThrownNew w c t = i.outside (with_thing w (fresh t)) c × i.thrown (with_thing w (fresh t)) (next_object w)

  pub record KeptPlainly : Type 0 where
    pub steps : (w : World) (c : Classes) (f : Frame) → i.outside w c → i.top w c f → LeadsPlainly w c f (outcome_at s find (need_of s.face c) w f)
    pub later : (w w1 : World) (a : Above) (f : Frame) → Grows w w1 → i.waits w a f → i.waits w1 a f
    pub returns : (w : World) (c : Classes) (k : MethodKey) (f : Frame) (v : Option Value) → i.outside w c → i.waits w (Callee k) f → i.result w k v → i.top w c (back find f v)
    pub retries : (w : World) (c : Classes) (t : Text) (f : Frame) → i.outside w c → i.waits w (Begun t) f → i.top w c f
    pub lands : (w : World) (c : Classes) (a : Above) (f : Frame) (v : Value) → i.outside w c → i.waits w a f → i.thrown w v → Landed s find grown w c (lands s.face find w f v)
    pub faults : (w : World) (c : Classes) (t : Text) → (t ≡ no_class) ⊎ (t ≡ initialiser_error) → i.outside w c → ThrownNew w c t
    pub statuses : (w : World) (c : Classes) (t : Text) (x : Status) → i.outside w c → i.class t → i.outside w (put_status t x c)
    pub firsts : (t : Text) → i.class t → Each i.class (s.face.first t)
    pub initialisers : (w : World) (c : Classes) (t : Text) (k : MethodKey) → i.outside w c → i.class t → s.face.initialiser t ≡ Some k → Entered s find grown w c k [] (find k)
    pub shows_result : (w : World) (c : Classes) (k : MethodKey) (v : Option Value) → i.outside w c → i.result w k v → i.outside (show_option w k.signature.result v).0 c
    pub shows_thrown : (w : World) (c : Classes) (v : Value) → i.outside w c → i.thrown w v → i.outside (show w throwable_type v).0 c
    -- the framework's legal moves
    pub enters : (w : World) (c : Classes) (t n q : Text) (gs : List Given) (f : Found) → i.outside w c → i.move (move.Enter t n q gs) → s.face.declared t n q ≡ Some f
        → may_enter s.face s.outer w (gets_all w gs).0 f gs (gets_all w gs).1 ≡ true
        → i.outside (gets_all w gs).0 c × (is_static f.flags ≡ true → i.class f.key.class) × Entered s find grown (gets_all w gs).0 c f.key (spread (gets_all w gs).1) (find f.key)
    pub makes : (w : World) (c : Classes) (t : Text) → i.outside w c → i.move (move.Make t) → may_make s.face s.outer t ≡ true
        → i.class t × i.outside (show (with_thing w (fresh t)) t (next_object w)).0 c
    pub answers : (w : World) (c : Classes) (kind : Text) (g : Option Given) (f : Frame) → i.outside w c → i.move (move.Return g) → i.waits w (Owing kind) f → may_answer s.face s.outer w kind g ≡ true
        → i.outside (got w g).0 c × i.top (got w g).0 c (back find f (got w g).1)
    pub throws : (w : World) (c : Classes) (g : Given) → i.outside w c → i.move (move.Throw g) → may_throw s.face s.outer w (gets w g).0 g (gets w g).1 ≡ true
        → i.outside (gets w g).0 c × i.thrown (gets w g).0 (gets w g).1
    pub reads : (w : World) (c : Classes) (t n k : Text) (place : Place) (on : Option Given) → i.outside w c → i.move (move.Get t n k on) → s.face.own_field (key_of t n k) ≡ Some place
        → (s.outer.fields (key_of t n k) && on_fits s.face s.outer w (got w on).0 (key_of t n k) place on (got w on).1) ≡ true
        → ShownPlainly c (got w on).0 k (field_value (got w on).0 (key_of t n k) place (got w on).1)
    pub writes : (w : World) (c : Classes) (t n k : Text) (place : Place) (on : Option Given) (g : Given) → i.outside w c → i.move (move.Put t n k on g) → s.face.own_field (key_of t n k) ≡ Some place
        → legal_write s w (key_of t n k) (Some place) on g ≡ true
        → WrittenPlainly c (with_field (gets (got w on).0 g).0 (key_of t n k) (got w on).1 (stored (item_of_type k) (gets (got w on).0 g).1))
    pub reads_items : (w : World) (c : Classes) (g : Given) (n : ℕ) (kind : Text) (vs : List Value) (v : Value) → i.outside w c → i.move (move.ArrayGet g n) → is_exposed w g ≡ true
        → thing_at w (gets w g).1 ≡ Some (Items kind vs) → slice_get vs n ≡ Some v → i.outside (show w kind v).0 c
    pub writes_items : (w : World) (c : Classes) (on g : Given) (n : ℕ) (kind : Text) (vs : List Value) → i.outside w c → i.move (move.ArrayPut on n g) → is_exposed w on ≡ true
        → thing_at w (gets w on).1 ≡ Some (Items kind vs) → fits s.face s.outer w (gets w g).0 g (gets w g).1 kind ≡ true → nat_lt n (length vs) ≡ true
        → WrittenPlainly c (with_item (gets w g).0 (gets w on).1 kind vs n (gets w g).1)

  module _ (keep : KeptPlainly) where
    leads : (w : World) (c : Classes) (f : Frame) (x : Outcome) → OutcomeGrows w f x → LeadsPlainly w c f x → Leads s find grown w c f x
    leads w c f (Stays w1 f1 e) g h = ((g.0, h.0), g.1, h.1)
    leads w c f (Starts t) g h = h
    leads w c f (Enters k vs) g h = h
    leads w c f (Leaves w1 owes e) g h = ((g, h.0), h.1)
    leads w c f (Ends v) g h = h
    leads w c f (Raises w1 v) g h = ((g, h.0), h.1, h.2)
    leads w c f Halts g h = h

    shows : (w w1 : World) (c : Classes) (kind : Text) (o : Option Value) → Grows w w1 → ShownPlainly c w1 kind o → ShownValue s find grown w c w1 kind o
    shows w w1 c kind None g h = h
    shows w w1 c kind (Some v) g h = (shown_grows w w1 kind v g, h)

    written : (w w1 : World) (c : Classes) (o : Option World) → Grows w w1 → MaybeGrows w1 o → WrittenPlainly c o → WrittenTo s find grown w c o
    written w w1 c None g m h = h
    written w w1 c (Some w2) g m h = (grows_then w w1 w2 g m, h)

    fault : (w : World) (c : Classes) (t : Text) → ThrownNew w c t → Grows w (with_thing w (fresh t)) × i.outside (with_thing w (fresh t)) c × i.thrown (with_thing w (fresh t)) (next_object w)
    fault w c t h = (grows_with w (fresh t), h.0, h.1)

    -- a new item of an array: the array is one, also in the later world
    item_grows : (w w1 : World) (on : Value) (kind : Text) (vs us : List Value) → Grows w w1 → thing_at w on ≡ Some (Items kind vs) → Grows w1 (put_thing w1 on (Items kind us))
    item_grows w w1 on kind vs us g e = grows_over w w1 on (Items kind vs) (Items kind us) g e refl

    pub keeps_plainly : Keeps s find grown
    keeps_plainly = record {
      steps = λ w c f g t. leads w c f (outcome_at s find (need_of s.face c) w f) (step_grows s find (need_of s.face c) w f) (keep.steps w c f g t);
      later = keep.later;
      returns = keep.returns;
      retries = keep.retries;
      lands = keep.lands;
      unfound = λ w c g. fault w c no_class (keep.faults w c no_class (inl refl) g);
      wraps = λ w c v g x. fault w c initialiser_error (keep.faults w c initialiser_error (inr refl) g);
      statuses = keep.statuses;
      firsts = keep.firsts;
      initialisers = keep.initialisers;
      shows_result = λ w c k v g x. (grows_same w (show_option w k.signature.result v).0 (option_heap w k.signature.result v), keep.shows_result w c k v g x);
      shows_thrown = λ w c v g x. (grows_same w (show w throwable_type v).0 (show_heap w throwable_type v), keep.shows_thrown w c v g x);
      framework = record {
        enters = λ w c t n q gs f g m e l. let h = keep.enters w c t n q gs f g m e l in ((all_grow gs w, h.0), h.1, h.2);
        makes = λ w c t g m l. let h = keep.makes w c t g m l in (h.0, (shown_grows w (with_thing w (fresh t)) t (next_object w) (grows_with w (fresh t)), h.1));
        answers = λ w c kind x f g m ws l. let h = keep.answers w c kind x f g m ws l in ((got_grows w x, h.0), h.1);
        throws = λ w c x g m l. let h = keep.throws w c x g m l in ((gets_grow w x, h.0), h.1);
        reads = λ w c t n k place on g m e l. shows w (got w on).0 c k (field_value (got w on).0 (key_of t n k) place (got w on).1) (got_grows w on) (keep.reads w c t n k place on g m e l);
        writes = λ w c t n k place on x g m e l. let w1 = (got w on).0 in let w2 = (gets w1 x).0 in let v = stored (item_of_type k) (gets w1 x).1 in
            written w w2 c (with_field w2 (key_of t n k) (got w on).1 v) (grows_then w w1 w2 (got_grows w on) (gets_grow w1 x)) (field_grows w2 (key_of t n k) (got w on).1 v) (keep.writes w c t n k place on x g m e l);
        reads_items = λ w c x n kind vs v g m b e j. (grows_same w (show w kind v).0 (show_heap w kind v), keep.reads_items w c x n kind vs v g m b e j);
        writes_items = λ w c on x n kind vs g m b e y l.
            written w (gets w x).0 c (with_item (gets w x).0 (gets w on).1 kind vs n (gets w x).1) (gets_grow w x) (by (gets w x).0 (gets w on).1 kind vs n (gets w x).1 (nat_lt n (length vs)) (item_grows w (gets w x).0 (gets w on).1 kind vs (slice_set vs n (stored (item_of_type kind) (gets w x).1)) (gets_grow w x) e)) (keep.writes_items w c on x n kind vs g m b e y l);
      };
    }
      where
        by : (w1 : World) (on : Value) (kind : Text) (vs : List Value) (n : ℕ) (v : Value) (b : Bool) → Grows w1 (put_thing w1 on (Items kind (slice_set vs n (stored (item_of_type kind) v))))
            → MaybeGrows w1 (elim b as (λ b. Option World) [ true ↦ Some (put_thing w1 on (Items kind (slice_set vs n (stored (item_of_type kind) v)))) | false ↦ None ])
        by w1 on kind vs n v true g = g
        by w1 on kind vs n v false g = tt
