-- In each state that a run reaches words have 32 bits, where those of the program and of the script have.
use Rattle.std.proofs.Common.{◌≡◌, ℕ, ◌+◌, ◌-◌, ◌<◌, Bool, true, false, List, [], ◌∷◌, Option, Some, None, refl, sym, ap, ◌∙◌, subst, arith}
use Rattle.std.specs.Prelude.{◌^◌, length, replicate, nat_lt, slice_get, slice_set}
use Rattle.std.specs.Option.{option_map, option_and_then}
use Rattle.insn_set.specs.declared.ops.Item.{Item}
use Rattle.insn_set.specs.declared.ops.Item.TheVariants as item
use Rattle.dalvik_defs.specs.Names.{Text, throwable_type}
use Rattle.dalvik_defs.specs.Face.{face_of, bodies_of, Place, place_of}
use Rattle.dalvik_defs.specs.Fields.{first_of, with_instance}
use Rattle.dalvik_defs.specs.Find.{finds_field}
use Rattle.dalvik_defs.specs.Gives.{gets, gets_all, spread}
use Rattle.dalvik_defs.specs.Happens.{Setting, outcome_at, effect_of}
use Rattle.dalvik_defs.specs.Items.{stored, item_of_type}
use Rattle.dalvik_defs.specs.Moves.{got, with_field, with_item, field_value, key_of}
use Rattle.dalvik_defs.specs.Outcome.{Outcome, Stays, Starts, Enters, Leaves, Ends, Raises, Halts, need_of, outcome}
use Rattle.dalvik_defs.specs.Outer.{Outer}
use Rattle.dalvik_defs.specs.Show.{with_given}
use Rattle.dalvik_defs.specs.Stack.{entry_frame, receives, back, handler_at, form_at as form_of}
use Rattle.dalvik_defs.specs.State.{World, Classes, Thing, Instance, Items, fresh, kind_of, next_object, with_thing, thing_at, put_field, put_thing, word_of}
use Rattle.dalvik_defs.specs.ActArray.{zeros}
use Rattle.dalvik_defs.specs.Effect.{write_item, next, go}
use Rattle.dalvik_defs.specs.declared.names.FieldKey.{FieldKey}
use Rattle.dalvik_defs.specs.declared.names.MethodKey.{MethodKey}
use Rattle.dalvik_defs.specs.declared.forms.Form.{Form}
use Rattle.dalvik_defs.specs.declared.forms.Form.TheVariants as form
use Rattle.dalvik_defs.specs.declared.state.Value.{Value}
use Rattle.dalvik_defs.specs.declared.state.Value.TheVariants.{Word, Low, High}
use Rattle.dalvik_defs.specs.declared.state.Frame.{Frame}
use Rattle.dalvik_defs.specs.declared.script.Given.{Given}
use Rattle.dalvik_defs.specs.declared.script.Given.TheVariants as given
use Rattle.dalvik_defs.specs.declared.program.NamedBody.{NamedBody}
use Rattle.dalvik_defs.specs.declared.program.NamedField.{NamedField}
use Rattle.dalvik_defs.specs.declared.program.NamedProgram.{NamedProgram}
use Rattle.dalvik_defs.specs.declared.tables.Floats.{Floats}
use Rattle.dalvik_defs.specs.declared.tables.Framework.{Framework}
use Rattle.pass_defs.specs.Analysis.{Analysis, IsRanged}
use Rattle.pass_defs.specs.Facts.{Facts}
use Rattle.run_laws.specs.Holds.{Each}
use Rattle.run_laws.specs.Invariant.{Invariant}
use Rattle.run_laws.proofs.Fine.{each_join, each_same, each_set}
use Rattle.run_laws.proofs.Stacked.{KeptOver, LeadsOver, LandedOver, EnteredOver, ShownOver, WrittenOver}
use Rattle.run_laws.specs.TypedStates.{TypedFrame, typed_states}
use Rattle.run_laws.proofs.Settled.{IsSettled, FindsRegularly}
use Rattle.run_laws.proofs.Climbs.{none_some, some_one}
use Rattle.run_laws.proofs.Here.{at_form, get_contains, setting}
use Rattle.cover_law.proofs.Ready.{IsReady}
use Rattle.cover_law.specs.Known.{MaybeGiven, MaybeRanged, RangedFrame, RangedGiven, RangedThing, RangedWorld, ranged_states}
use Rattle.cover_law.proofs.Fields.{found_own}
use Rattle.cover_law.proofs.Given.{gets_ranged, got_ranged}
use Rattle.cover_law.proofs.Numbers.{stored_ranged}
use Rattle.cover_law.proofs.Ranges.{ranged_same, ranged_show, ranged_option, ranged_with, ranged_put, at_ranged, fresh_ranged, zeros_ranged, set_length, put_ranged, OutcomeRanged, step_ranged}

-- ---- values that are given

given_world : (w : World) (t : Thing) → RangedWorld w → RangedThing t → RangedWorld (with_given w t)
given_world w t h k = ranged_same (with_thing w t) (with_given w t) refl refl (ranged_with w t h k)

gets_world : (w : World) (g : Given) → RangedGiven g → RangedWorld w → RangedWorld (gets w g).0
gets_world w (given.New kind) r h = given_world w (fresh kind) h (fresh_ranged kind)
gets_world w (given.Array item size) r h = given_world w (zeros item size) h (zeros_ranged item size r)
gets_world w given.Null r h = h
gets_world w (given.Word n) r h = h
gets_world w (given.Wide n) r h = h
gets_world w (given.Exposed n) r h = h
gets_world w (given.Literal s) r h = h
gets_world w (given.Class s) r h = h

got_world : (w : World) (y : Option Given) → MaybeGiven y → RangedWorld w → RangedWorld (got w y).0
got_world w None r h = h
got_world w (Some g) r h = gets_world w g r h

all_given : (gs : List Given) (w : World) → Each RangedGiven gs → RangedWorld w → RangedWorld (gets_all w gs).0 × Each IsRanged (gets_all w gs).1
all_given [] w r h = (h, tt)
all_given (g ∷ gs) w r h = let k = all_given gs (gets w g).0 r.1 (gets_world w g r.0 h) in (k.0, (gets_ranged w g r.0, k.1))

spread_ranged : (vs : List Value) → Each IsRanged vs → Each IsRanged (spread vs)
spread_ranged [] h = tt
spread_ranged (Low n ∷ vs) h = (tt, (tt, spread_ranged vs h.1))
spread_ranged (v ∷ vs) h = (h.0, spread_ranged vs h.1)

-- ---- frames

entry_ranged : (k : MethodKey) (vs : List Value) (b : NamedBody) → Each IsRanged vs → RangedFrame (entry_frame k vs b)
entry_ranged k vs b h = record { registers = each_join IsRanged (replicate (b.registers - b.ins) (Word 0)) vs (each_same IsRanged (b.registers - b.ins) (Word 0) (omega arith)) h; result = omega arith; caught = omega arith }

item_ranged : (f : Frame) (i : Item) (to : ℕ) (v : Value) → RangedFrame f → IsRanged v → RangedFrame (next (write_item i f to v))
item_ranged f item.Wide to v h k = record { registers = each_set IsRanged (slice_set f.registers to (Low (word_of v))) (to + 1) (High (word_of v)) (each_set IsRanged f.registers to (Low (word_of v)) h.registers tt) tt; result = h.result; caught = h.caught }
item_ranged f i to v h k = record { registers = each_set IsRanged f.registers to v h.registers k; result = h.result; caught = h.caught }

receives_ranged : (y : Option Form) (f : Frame) (v : Value) → RangedFrame f → IsRanged v → RangedFrame (receives y f v)
receives_ranged (Some (form.InstanceGet i to on field)) f v h k = item_ranged f i to v h k
receives_ranged (Some (form.StaticGet i to field)) f v h k = item_ranged f i to v h k
receives_ranged y f v h k = record { registers = h.registers; result = k; caught = h.caught }

module _ {V : Type 0} (a : Analysis V) (p : NamedProgram) (o : Outer) (f : Framework) (floats : Floats) (facts : Facts V) (base : IsReady a p o f floats facts) (reg : IsSettled p) (finds : FindsRegularly p f) where
  abbrev s : Setting
  s = setting p o f floats reg

  abbrev i : Invariant
  i = typed_states p f o

  abbrev j : Invariant
  j = ranged_states

  back_ranged : (g : Frame) (v : Option Value) → RangedFrame g → MaybeRanged v → RangedFrame (back (bodies_of p) g v)
  back_ranged g (Some v) h k = receives_ranged (form_of (bodies_of p) g) g v h k
  back_ranged g None h k = record { registers = h.registers; result = omega arith; caught = h.caught }

  entered : (w : World) (cs : Classes) (k : MethodKey) (vs : List Value) (b : Option NamedBody) → Each IsRanged vs → EnteredOver s (bodies_of p) i j w cs k vs b
  entered w cs k vs None h = tt
  entered w cs k vs (Some b) h = λ long t. entry_ranged k vs b h

  landed : (w : World) (cs : Classes) (g : Frame) (v : Value) (q : Option ℕ) → RangedFrame g → IsRanged v → LandedOver s (bodies_of p) i j w cs (option_map (λ at. record (go g at) { caught = v }) q)
  landed w cs g v None h k = tt
  landed w cs g v (Some at) h k = λ t. record { registers = h.registers; result = h.result; caught = k }

  leads : (w : World) (cs : Classes) (g : Frame) (rw : RangedWorld w) (rf : RangedFrame g) (x : Outcome) → OutcomeRanged w g rw rf x → LeadsOver s (bodies_of p) i j w cs g x
  leads w cs g rw rf (Stays w1 f1 e) h = λ u t. h
  leads w cs g rw rf (Starts t) h = λ u. (tt, rf)
  leads w cs g rw rf (Enters k vs) h = λ u. (rf, entered w cs k vs (bodies_of p k) h)
  leads w cs g rw rf (Leaves w1 owes e) h = λ u t. (h, rf)
  leads w cs g rw rf (Ends v) h = λ u. h
  leads w cs g rw rf (Raises w1 v) h = λ u t. (h.0, h.1, landed w1 cs g v (option_and_then (handler_at ((face_of p f).under (kind_of w1 v)) g.position) (bodies_of p g.method)) rf h.1)
  leads w cs g rw rf Halts h = tt

  first_ranged : (k : FieldKey) (place : Place) → (face_of p f).field k ≡ Some place → IsRanged (first_of k place)
  first_ranged k place e = by (finds_field p k) refl e
    where
      by : (y : Option (Text × NamedField)) → finds_field p k ≡ y → option_map (λ c. place_of c.0 c.1) y ≡ Some place → IsRanged (first_of k place)
      by None l m = none_some place m
      by (Some d) l m = subst (λ q. IsRanged (first_of k q)) (some_one (place_of d.0 d.1) place m) (base.firsts (record k { class = d.0 }) d.1 (found_own p k d reg.regular.named l))

  steps : (w : World) (cs : Classes) (g : Frame) → RangedWorld w → TypedFrame p f w g → RangedFrame g → LeadsOver s (bodies_of p) i j w cs g (outcome_at s (bodies_of p) (need_of (face_of p f) cs) w g)
  steps w cs g rw t rf = let at = at_form p o f floats reg w g t in
      subst (λ y. LeadsOver s (bodies_of p) i j w cs g (outcome (face_of p f) (need_of (face_of p f) cs) (effect_of s y w g) w g)) (sym (ap (λ b. option_and_then (λ b. slice_get b.forms g.position) b) (ap (bodies_of p) t.of ∙ t.in_method.has_body) ∙ at.1.has))
      (leads w cs g rw rf (outcome (face_of p f) (need_of (face_of p f) cs) (effect_of s (Some at.0) w g) w g) (step_ranged w g rw rf (face_of p f) first_ranged s (need_of (face_of p f) cs) at.0
      (base.formed g.method t.in_method.body at.0 (ap (bodies_of p) t.of ∙ t.in_method.has_body) (get_contains t.in_method.body.forms g.position at.0 at.1.has))))

  each_unit : (ts : List Text) → Each (λ t. Unit {0}) ts
  each_unit [] = tt
  each_unit (t ∷ ts) = (tt, each_unit ts)

  shown : (w : World) (cs : Classes) (kind : Text) (v : Option Value) → RangedWorld w → ShownOver s (bodies_of p) i j cs w kind v
  shown w cs kind None h = tt
  shown w cs kind (Some v) h = λ u. ranged_show w kind v h

  fields : (w : World) (cs : Classes) (k : FieldKey) (on : Option Value) (v : Value) → RangedWorld w → IsRanged v → WrittenOver s (bodies_of p) i j cs (with_field w k on v)
  fields w cs k None v h r = λ u. record { statics = λ q z e. put_ranged k v w.statics (λ q z e. h.statics q z e) r q z e; things = h.things }
  fields w cs k (Some on) v h r = by (thing_at w on) refl
    where
      by : (y : Option Thing) → thing_at w on ≡ y → WrittenOver s (bodies_of p) i j cs (with_instance w k on v y)
      by None e = tt
      by (Some (Items kind vs)) e = tt
      by (Some (Instance c fs)) e = λ u. ranged_put w on (Instance c (put_field k v fs)) h (put_ranged k v fs (at_ranged w on (Instance c fs) h e) r)

  items : (w w1 : World) (cs : Classes) (on v : Value) (kind : Text) (vs : List Value) (n : ℕ) → RangedWorld w → RangedWorld w1 → IsRanged v → thing_at w on ≡ Some (Items kind vs) → WrittenOver s (bodies_of p) i j cs (with_item w1 on kind vs n v)
  items w w1 cs on v kind vs n h h1 r e = by (nat_lt n (length vs))
    where
      old : (length vs < 2 ^ 31) × Each IsRanged vs
      old = at_ranged w on (Items kind vs) h e

      by : (b : Bool) → WrittenOver s (bodies_of p) i j cs (elim b as (λ b. Option World) [ true ↦ Some (put_thing w1 on (Items kind (slice_set vs n (stored (item_of_type kind) v)))) | false ↦ None ])
      by true = λ u. ranged_put w1 on (Items kind (slice_set vs n (stored (item_of_type kind) v))) h1 (subst (λ m. m < 2 ^ 31) (sym (set_length vs n (stored (item_of_type kind) v))) old.0, each_set IsRanged vs n (stored (item_of_type kind) v) old.1 (stored_ranged (item_of_type kind) v r))
      by false = tt

  pub keeps_ranged : KeptOver s (bodies_of p) i j
  keeps_ranged = record {
    steps = λ w cs g h t. steps w cs g h.1 t.0 t.1;
    later = λ w w1 above g gr t h. h;
    returns = λ w cs k g v h t r x. back_ranged g v t.1 r.1;
    retries = λ w cs u g h t x. t.1;
    lands = λ w cs above g v h t x. landed w cs g v (option_and_then (handler_at ((face_of p f).under (kind_of w v)) g.position) (bodies_of p g.method)) t.1 x.1;
    faults = λ w cs u e h. (ranged_with w (fresh u) h.1 (fresh_ranged u), tt);
    statuses = λ w cs u x h c. h.1;
    firsts = λ u c. each_unit ((face_of p f).first u);
    initialisers = λ w cs u k h c e. entered w cs k [] (bodies_of p k) tt;
    shows_result = λ w cs k v h r. ranged_option w k.signature.result v h.1;
    shows_thrown = λ w cs v h x. ranged_show w throwable_type v h.1;
    enters = λ w cs u n q gs d h m e l x. let k = all_given gs w m.1 h.1 in (k.0, (λ z. tt), entered (gets_all w gs).0 cs d.key (spread (gets_all w gs).1) (bodies_of p d.key) (spread_ranged (gets_all w gs).1 k.1));
    makes = λ w cs u h m l. (tt, ranged_show (with_thing w (fresh u)) u (next_object w) (ranged_with w (fresh u) h.1 (fresh_ranged u)));
    answers = λ w cs u y g h m t l x z. (got_world w y m.1 h.1, back_ranged g (got w y).1 t.1 (got_ranged w y m.1));
    throws = λ w cs g h m l. (gets_world w g m.1 h.1, gets_ranged w g m.1);
    reads = λ w cs u n k place on h m e l. shown (got w on).0 cs k (field_value (got w on).0 (key_of u n k) place (got w on).1) (got_world w on m.1 h.1);
    writes = λ w cs u n k place on g h m e l. let w1 = (got w on).0 in fields (gets w1 g).0 cs (key_of u n k) (got w on).1 (stored (item_of_type k) (gets w1 g).1) (gets_world w1 g m.1.1 (got_world w on m.1.0 h.1)) (stored_ranged (item_of_type k) (gets w1 g).1 (gets_ranged w1 g m.1.1));
    reads_items = λ w cs g n u vs v h m b e l. ranged_show w u v h.1;
    writes_items = λ w cs on g n u vs h m b e x l. items w (gets w g).0 cs (gets w on).1 (gets w g).1 u vs n h.1 (gets_world w g m.1 h.1) (gets_ranged w g m.1) e;
  }
