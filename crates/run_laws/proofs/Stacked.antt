-- One invariant over another that is kept already: the second may use all that the first says, of what was and of what comes.
use Rattle.std.proofs.Common.{◌≡◌, ℕ, true, List, [], ◌∷◌, Option, Some, None, ◌⊎◌}
use Rattle.std.specs.Prelude.{◌&&◌, length, slice_get, nat_lt}
use Rattle.dalvik_defs.specs.Names.{Text, throwable_type}
use Rattle.dalvik_defs.specs.Flags.{is_static}
use Rattle.dalvik_defs.specs.Known.{no_class, initialiser_error}
use Rattle.dalvik_defs.specs.Find.{Found}
use Rattle.dalvik_defs.specs.Face.{Bodies, Place}
use Rattle.dalvik_defs.specs.State.{World, Classes, Status, Items, with_thing, next_object, fresh, put_status, thing_at}
use Rattle.dalvik_defs.specs.Outcome.{Outcome, Stays, Starts, Enters, Leaves, Ends, Raises, Halts, need_of}
use Rattle.dalvik_defs.specs.Stack.{entry_frame, back, lands}
use Rattle.dalvik_defs.specs.Happens.{Setting, outcome_at}
use Rattle.dalvik_defs.specs.Gives.{gets, gets_all, spread, fits, may_throw}
use Rattle.dalvik_defs.specs.Legal.{may_enter, may_make, may_answer, on_fits, is_exposed}
use Rattle.dalvik_defs.specs.Moves.{got, field_value, with_field, with_item, key_of}
use Rattle.dalvik_defs.specs.Show.{show, show_option}
use Rattle.dalvik_defs.specs.Items.{stored, item_of_type}
use Rattle.dalvik_defs.specs.declared.state.Value.{Value}
use Rattle.dalvik_defs.specs.declared.state.Frame.{Frame}
use Rattle.dalvik_defs.specs.declared.names.MethodKey.{MethodKey}
use Rattle.dalvik_defs.specs.declared.program.NamedBody.{NamedBody}
use Rattle.dalvik_defs.specs.declared.script.Given.{Given}
use Rattle.dalvik_defs.specs.declared.script.Move.TheVariants as move
use Rattle.run_laws.specs.Invariant.{Above, Callee, Begun, Owing, Invariant, Grows, both as both_of}
use Rattle.dalvik_defs.specs.MayGo.{legal_write}
use Rattle.run_laws.specs.Holds.{Each}
use Rattle.run_laws.proofs.Invariants.{Entered, Landed}
use Rattle.run_laws.proofs.Plain.{LeadsPlainly, ShownPlainly, WrittenPlainly, KeptPlainly}

module _ (s : Setting) (find : Bodies) (i j : Invariant) where
  abbrev both : Invariant
  both = both_of i j

  abbrev pub EnteredOver : World → Classes → MethodKey → List Value → Option NamedBody → Type 0
  EnteredOver w c k vs None = Unit {0}
  EnteredOver w c k vs (Some b) = length vs ≡ b.ins → i.top w c (entry_frame k vs b) → j.top w c (entry_frame k vs b)

  abbrev pub LandedOver : World → Classes → Option Frame → Type 0
  LandedOver w c None = Unit {0}
  LandedOver w c (Some g) = i.top w c g → j.top w c g

  abbrev pub LeadsOver : World → Classes → Frame → Outcome → Type 0
  LeadsOver w c f (Stays w1 f1 e) = i.outside w1 c → i.top w1 c f1 → j.outside w1 c × j.top w1 c f1
  LeadsOver w c f (Starts t) = i.waits w (Begun t) f → j.class t × j.waits w (Begun t) f
  LeadsOver w c f (Enters k vs) = i.waits w (Callee k) f → j.waits w (Callee k) f × EnteredOver w c k vs (find k)
  LeadsOver w c f (Leaves w1 owes e) = i.outside w1 c → i.waits w1 (Owing owes) f → j.outside w1 c × j.waits w1 (Owing owes) f
  LeadsOver w c f (Ends v) = i.result w f.method v → j.result w f.method v
  LeadsOver w c f (Raises w1 v) = i.outside w1 c → i.thrown w1 v → j.outside w1 c × j.thrown w1 v × LandedOver w1 c (lands s.face find w1 f v)
  LeadsOver w c f Halts = Unit {0}

  abbrev pub ShownOver : Classes → World → Text → Option Value → Type 0
  ShownOver c w1 kind None = Unit {0}
  ShownOver c w1 kind (Some v) = i.outside (show w1 kind v).0 c → j.outside (show w1 kind v).0 c

  abbrev pub WrittenOver : Classes → Option World → Type 0
  WrittenOver c None = Unit {0}
  WrittenOver c (Some w1) = i.outside w1 c → j.outside w1 c

  -- what is left to show of the second
  pub record KeptOver : Type 0 where
    pub steps : (w : World) (c : Classes) (f : Frame) → both.outside w c → both.top w c f → LeadsOver w c f (outcome_at s find (need_of s.face c) w f)
    pub later : (w w1 : World) (a : Above) (f : Frame) → Grows w w1 → i.waits w a f → j.waits w a f → j.waits w1 a f
    pub returns : (w : World) (c : Classes) (k : MethodKey) (f : Frame) (v : Option Value) → both.outside w c → both.waits w (Callee k) f → both.result w k v → i.top w c (back find f v) → j.top w c (back find f v)
    pub retries : (w : World) (c : Classes) (t : Text) (f : Frame) → both.outside w c → both.waits w (Begun t) f → i.top w c f → j.top w c f
    pub lands : (w : World) (c : Classes) (a : Above) (f : Frame) (v : Value) → both.outside w c → both.waits w a f → both.thrown w v → LandedOver w c (lands s.face find w f v)
    pub faults : (w : World) (c : Classes) (t : Text) → (t ≡ no_class) ⊎ (t ≡ initialiser_error) → both.outside w c → j.outside (with_thing w (fresh t)) c × j.thrown (with_thing w (fresh t)) (next_object w)
    pub statuses : (w : World) (c : Classes) (t : Text) (x : Status) → both.outside w c → both.class t → j.outside w (put_status t x c)
    pub firsts : (t : Text) → both.class t → Each j.class (s.face.first t)
    pub initialisers : (w : World) (c : Classes) (t : Text) (k : MethodKey) → both.outside w c → both.class t → s.face.initialiser t ≡ Some k → EnteredOver w c k [] (find k)
    pub shows_result : (w : World) (c : Classes) (k : MethodKey) (v : Option Value) → both.outside w c → both.result w k v → j.outside (show_option w k.signature.result v).0 c
    pub shows_thrown : (w : World) (c : Classes) (v : Value) → both.outside w c → both.thrown w v → j.outside (show w throwable_type v).0 c
    pub enters : (w : World) (c : Classes) (t n q : Text) (gs : List Given) (f : Found) → both.outside w c → both.move (move.Enter t n q gs) → s.face.declared t n q ≡ Some f
        → may_enter s.face s.outer w (gets_all w gs).0 f gs (gets_all w gs).1 ≡ true → i.outside (gets_all w gs).0 c
        → j.outside (gets_all w gs).0 c × (is_static f.flags ≡ true → j.class f.key.class) × EnteredOver (gets_all w gs).0 c f.key (spread (gets_all w gs).1) (find f.key)
    pub makes : (w : World) (c : Classes) (t : Text) → both.outside w c → both.move (move.Make t) → may_make s.face s.outer t ≡ true
        → j.class t × j.outside (show (with_thing w (fresh t)) t (next_object w)).0 c
    pub answers : (w : World) (c : Classes) (kind : Text) (g : Option Given) (f : Frame) → both.outside w c → both.move (move.Return g) → both.waits w (Owing kind) f → may_answer s.face s.outer w kind g ≡ true
        → i.outside (got w g).0 c → i.top (got w g).0 c (back find f (got w g).1) → j.outside (got w g).0 c × j.top (got w g).0 c (back find f (got w g).1)
    pub throws : (w : World) (c : Classes) (g : Given) → both.outside w c → both.move (move.Throw g) → may_throw s.face s.outer w (gets w g).0 g (gets w g).1 ≡ true
        → j.outside (gets w g).0 c × j.thrown (gets w g).0 (gets w g).1
    pub reads : (w : World) (c : Classes) (t n k : Text) (place : Place) (on : Option Given) → both.outside w c → both.move (move.Get t n k on) → s.face.own_field (key_of t n k) ≡ Some place
        → (s.outer.fields (key_of t n k) && on_fits s.face s.outer w (got w on).0 (key_of t n k) place on (got w on).1) ≡ true
        → ShownOver c (got w on).0 k (field_value (got w on).0 (key_of t n k) place (got w on).1)
    pub writes : (w : World) (c : Classes) (t n k : Text) (place : Place) (on : Option Given) (g : Given) → both.outside w c → both.move (move.Put t n k on g) → s.face.own_field (key_of t n k) ≡ Some place
        → legal_write s w (key_of t n k) (Some place) on g ≡ true
        → WrittenOver c (with_field (gets (got w on).0 g).0 (key_of t n k) (got w on).1 (stored (item_of_type k) (gets (got w on).0 g).1))
    pub reads_items : (w : World) (c : Classes) (g : Given) (n : ℕ) (kind : Text) (vs : List Value) (v : Value) → both.outside w c → both.move (move.ArrayGet g n) → is_exposed w g ≡ true
        → thing_at w (gets w g).1 ≡ Some (Items kind vs) → slice_get vs n ≡ Some v → j.outside (show w kind v).0 c
    pub writes_items : (w : World) (c : Classes) (on g : Given) (n : ℕ) (kind : Text) (vs : List Value) → both.outside w c → both.move (move.ArrayPut on n g) → is_exposed w on ≡ true
        → thing_at w (gets w on).1 ≡ Some (Items kind vs) → fits s.face s.outer w (gets w g).0 g (gets w g).1 kind ≡ true → nat_lt n (length vs) ≡ true
        → WrittenOver c (with_item (gets w g).0 (gets w on).1 kind vs n (gets w g).1)

  module _ (first : KeptPlainly s find i) (over : KeptOver) where
    entered : (w : World) (c : Classes) (k : MethodKey) (vs : List Value) (b : Option NamedBody) → Entered s find (record i { later = Grows }) w c k vs b → EnteredOver w c k vs b → Entered s find both w c k vs b
    entered w c k vs None h o = h
    entered w c k vs (Some b) h o = ((λ e. (h.0 e, o e (h.0 e))), h.1)

    landed : (w : World) (c : Classes) (g : Option Frame) → Landed s find (record i { later = Grows }) w c g → LandedOver w c g → Landed s find both w c g
    landed w c None h o = tt
    landed w c (Some g) h o = (h, o h)

    leads : (w : World) (c : Classes) (f : Frame) (x : Outcome) → LeadsPlainly s find i w c f x → LeadsOver w c f x → LeadsPlainly s find both w c f x
    leads w c f (Stays w1 f1 e) h o = let k = o h.0 h.1 in ((h.0, k.0), (h.1, k.1))
    leads w c f (Starts t) h o = let k = o h.1 in ((h.0, k.0), (h.1, k.1))
    leads w c f (Enters m vs) h o = let k = o h.0 in ((h.0, k.0), entered w c m vs (find m) h.1 k.1)
    leads w c f (Leaves w1 owes e) h o = let k = o h.0 h.1 in ((h.0, k.0), (h.1, k.1))
    leads w c f (Ends v) h o = (h, o h)
    leads w c f (Raises w1 v) h o = let k = o h.0 h.1 in ((h.0, k.0), (h.1, k.1), landed w1 c (lands s.face find w1 f v) h.2 k.2)
    leads w c f Halts h o = h

    shown : (c : Classes) (w1 : World) (kind : Text) (v : Option Value) → ShownPlainly s find i c w1 kind v → ShownOver c w1 kind v → ShownPlainly s find both c w1 kind v
    shown c w1 kind None h o = h
    shown c w1 kind (Some v) h o = (h, o h)

    written : (c : Classes) (w1 : Option World) → WrittenPlainly s find i c w1 → WrittenOver c w1 → WrittenPlainly s find both c w1
    written c None h o = h
    written c (Some w1) h o = (h, o h)

    each_both : (ts : List Text) → Each i.class ts → Each j.class ts → Each both.class ts
    each_both [] h o = tt
    each_both (t ∷ ts) h o = ((h.0, o.0), each_both ts h.1 o.1)

    -- both are kept
    pub keeps_both : KeptPlainly s find both
    keeps_both = record {
      steps = λ w c f g t. leads w c f (outcome_at s find (need_of s.face c) w f) (first.steps w c f g.0 t.0) (over.steps w c f g t);
      later = λ w w1 a f g h. (first.later w w1 a f g h.0, over.later w w1 a f g h.0 h.1);
      returns = λ w c k f v g h r. let x = first.returns w c k f v g.0 h.0 r.0 in (x, over.returns w c k f v g h r x);
      retries = λ w c t f g h. let x = first.retries w c t f g.0 h.0 in (x, over.retries w c t f g h x);
      lands = λ w c a f v g h x. landed w c (lands s.face find w f v) (first.lands w c a f v g.0 h.0 x.0) (over.lands w c a f v g h x);
      faults = λ w c t e g. let h = first.faults w c t e g.0 in let o = over.faults w c t e g in ((h.0, o.0), (h.1, o.1));
      statuses = λ w c t x g k. (first.statuses w c t x g.0 k.0, over.statuses w c t x g k);
      firsts = λ t k. each_both (s.face.first t) (first.firsts t k.0) (over.firsts t k);
      initialisers = λ w c t k g x e. entered w c k [] (find k) (first.initialisers w c t k g.0 x.0 e) (over.initialisers w c t k g x e);
      shows_result = λ w c k v g r. (first.shows_result w c k v g.0 r.0, over.shows_result w c k v g r);
      shows_thrown = λ w c v g x. (first.shows_thrown w c v g.0 x.0, over.shows_thrown w c v g x);
      enters = λ w c t n q gs f g m e l. let h = first.enters w c t n q gs f g.0 m.0 e l in let o = over.enters w c t n q gs f g m e l h.0 in
          ((h.0, o.0), (λ z. (h.1 z, o.1 z)), entered (gets_all w gs).0 c f.key (spread (gets_all w gs).1) (find f.key) h.2 o.2);
      makes = λ w c t g m l. let h = first.makes w c t g.0 m.0 l in let o = over.makes w c t g m l in ((h.0, o.0), (h.1, o.1));
      answers = λ w c kind x f g m ws l. let h = first.answers w c kind x f g.0 m.0 ws.0 l in let o = over.answers w c kind x f g m ws l h.0 h.1 in ((h.0, o.0), (h.1, o.1));
      throws = λ w c x g m l. let h = first.throws w c x g.0 m.0 l in let o = over.throws w c x g m l in ((h.0, o.0), (h.1, o.1));
      reads = λ w c t n k place on g m e l. shown c (got w on).0 k (field_value (got w on).0 (key_of t n k) place (got w on).1) (first.reads w c t n k place on g.0 m.0 e l) (over.reads w c t n k place on g m e l);
      writes = λ w c t n k place on x g m e l. written c (with_field (gets (got w on).0 x).0 (key_of t n k) (got w on).1 (stored (item_of_type k) (gets (got w on).0 x).1)) (first.writes w c t n k place on x g.0 m.0 e l) (over.writes w c t n k place on x g m e l);
      reads_items = λ w c x n kind vs v g m b e l. (first.reads_items w c x n kind vs v g.0 m.0 b e l, over.reads_items w c x n kind vs v g m b e l);
      writes_items = λ w c on x n kind vs g m b e y l. written c (with_item (gets w x).0 (gets w on).1 kind vs n (gets w x).1) (first.writes_items w c on x n kind vs g.0 m.0 b e y l) (over.writes_items w c on x n kind vs g m b e y l);
    }
