-- The law of invariants at references: each reference of each state that a run reaches is to what there is.
use Rattle.std.proofs.Common.{◌≡◌, ℕ, ◌+◌, ◌-◌, Bool, true, false, true≢false, List, [], ◌∷◌, Option, Some, None, ◌⊎◌, refl, ap, subst}
use Rattle.std.specs.Prelude.{length, replicate, slice_get, slice_set, nat_lt}
use Rattle.std.specs.Option.{option_map, option_and_then}
use Rattle.lemmas.proofs.Options.{none_some, some_same}
use Rattle.insn_set.specs.declared.ops.Item.{Item}
use Rattle.insn_set.specs.declared.ops.Item.TheVariants as item
use Rattle.dalvik_defs.specs.Names.{Text, throwable_type}
use Rattle.dalvik_defs.specs.Face.{Bodies, Place}
use Rattle.dalvik_defs.specs.Fields.{first_of, with_instance, key_at, written_or, instance_value}
use Rattle.dalvik_defs.specs.State.{World, Classes, Ended, Exposed, Thing, Instance, Items, kind_of, with_thing, next_object, fresh, put_thing, put_field, thing_at, zero_of, word_of, opening_world, opening}
use Rattle.dalvik_defs.specs.ActArray.{zeros}
use Rattle.dalvik_defs.specs.Effect.{next, go, write_item}
use Rattle.dalvik_defs.specs.Outcome.{Outcome, Stays, Starts, Enters, Leaves, Ends, Raises, Halts, need_of}
use Rattle.dalvik_defs.specs.Stack.{entry_frame, form_at, receives, back, handler_at}
use Rattle.dalvik_defs.specs.Happens.{Setting, outcome_at}
use Rattle.dalvik_defs.specs.Step.{after}
use Rattle.dalvik_defs.specs.Gives.{gets, gets_all, spread}
use Rattle.dalvik_defs.specs.Moves.{got, field_value, with_field, with_item, key_of}
use Rattle.dalvik_defs.specs.Show.{with_given}
use Rattle.dalvik_defs.specs.Items.{stored, item_of_type}
use Rattle.dalvik_defs.specs.declared.state.Value.{Value}
use Rattle.dalvik_defs.specs.declared.state.Value.TheVariants.{Word, Low, High, Object}
use Rattle.dalvik_defs.specs.declared.state.Frame.{Frame}
use Rattle.dalvik_defs.specs.declared.names.FieldKey.{FieldKey}
use Rattle.dalvik_defs.specs.declared.names.MethodKey.{MethodKey}
use Rattle.dalvik_defs.specs.declared.forms.Form.{Form}
use Rattle.dalvik_defs.specs.declared.forms.Form.TheVariants as form
use Rattle.dalvik_defs.specs.declared.program.NamedBody.{NamedBody}
use Rattle.dalvik_defs.specs.declared.script.Given.{Given}
use Rattle.dalvik_defs.specs.declared.script.Given.TheVariants as given
use Rattle.dalvik_defs.specs.declared.script.Move.{Move}
use Rattle.run_laws.specs.Invariant.{Grows}
use Rattle.run_laws.specs.Holds.{Each, Holds}
use Rattle.run_laws.specs.Fine.{IsThere, MaybeThere, FineThing, FineWorld, FineFrame, fine_states}
use Rattle.run_laws.proofs.Invariants.{Entered, Landed, holds_after, opens_with}
use Rattle.run_laws.proofs.Growing.{OutcomeGrows, step_grows, there_later}
use Rattle.run_laws.proofs.Plain.{gets_grow, got_grows, all_grow, grown, LeadsPlainly, ShownPlainly, WrittenPlainly, KeptPlainly, keeps_plainly}
use Rattle.run_laws.proofs.Fine.{frame_later, fine_with, fine_put, fine_put_over, new_there, at_there, fine_show, fine_option, zero_there, stored_there, fresh_fine, zeros_fine, put_there, each_append, each_set, each_get, each_join, each_same, each_to}
use Rattle.run_laws.proofs.FineFirsts.{firsts_there}
use Rattle.run_laws.proofs.FineSteps.{OutcomeFine, step_fine}

maybe : (w : World) (o : Option Value) → MaybeThere w o → (v : Value) → o ≡ Some v → IsThere w v
maybe w None h v e = none_some v e
maybe w (Some u) h v e = subst (IsThere w) (some_same u v e) h

-- ---- values that are given

fine_given : (w : World) (t : Thing) → FineWorld w → FineThing w t → FineWorld (with_given w t)
fine_given w t h k = let j = fine_with w t h k in let w1 = with_thing w t in record {
  statics = j.statics;
  things = j.things;
  exposed = each_append (λ e. IsThere w1 (Object e.number)) w.exposed (record { number = length w.heap; printed = false }) j.exposed (new_there w t);
}

record Gotten (w : World) (x : World × Value) : Type 0 where
  world : FineWorld x.0
  value : IsThere x.0 x.1

gets_fine : (w : World) (g : Given) → FineWorld w → Gotten w (gets w g)
gets_fine w given.Null h = record { world = h; value = tt }
gets_fine w (given.Word n) h = record { world = h; value = tt }
gets_fine w (given.Wide n) h = record { world = h; value = tt }
gets_fine w (given.Exposed n) h = record { world = h; value = by (slice_get w.exposed n) refl }
  where
    by : (o : Option Exposed) → slice_get w.exposed n ≡ o → IsThere w (elim o as (λ o. Value) [ Some e ↦ Object e.number | None ↦ Word 0 ])
    by None e = tt
    by (Some x) e = each_get (λ e. IsThere w (Object e.number)) w.exposed n x h.exposed e
gets_fine w (given.New kind) h = record { world = fine_given w (fresh kind) h (fresh_fine w kind); value = new_there w (fresh kind) }
gets_fine w (given.Array item size) h = record { world = fine_given w (zeros item size) h (zeros_fine w item size); value = new_there w (zeros item size) }
gets_fine w (given.Literal t) h = record { world = h; value = tt }
gets_fine w (given.Class t) h = record { world = h; value = tt }

got_fine : (w : World) (o : Option Given) → FineWorld w → FineWorld (got w o).0 × MaybeThere (got w o).0 (got w o).1
got_fine w None h = (h, tt)
got_fine w (Some g) h = let k = gets_fine w g h in (k.world, k.value)

all_fine : (gs : List Given) (w : World) → FineWorld w → FineWorld (gets_all w gs).0 × Each (IsThere (gets_all w gs).0) (gets_all w gs).1
all_fine [] w h = (h, tt)
all_fine (g ∷ gs) w h = let k = gets_fine w g h in let r = all_fine gs (gets w g).0 k.world in
    (r.0, (there_later (gets w g).0 (gets_all (gets w g).0 gs).0 (all_grow gs (gets w g).0) (gets w g).1 k.value, r.1))

spread_there : (w : World) (vs : List Value) → Each (IsThere w) vs → Each (IsThere w) (spread vs)
spread_there w [] h = tt
spread_there w (Low n ∷ vs) h = (tt, (tt, spread_there w vs h.1))
spread_there w (v ∷ vs) h = (h.0, spread_there w vs h.1)

-- ---- frames

entry_fine : (w : World) (k : MethodKey) (vs : List Value) (b : NamedBody) → Each (IsThere w) vs → FineFrame w (entry_frame k vs b)
entry_fine w k vs b h = record { registers = each_join (IsThere w) (replicate (b.registers - b.ins) (Word 0)) vs (each_same (IsThere w) (b.registers - b.ins) (Word 0) tt) h; result = tt; caught = tt }

item_fine : (w : World) (f : Frame) (i : Item) (to : ℕ) (v : Value) → FineFrame w f → IsThere w v → FineFrame w (next (write_item i f to v))
item_fine w f item.Wide to v h k = record { registers = each_set (IsThere w) (slice_set f.registers to (Low (word_of v))) (to + 1) (High (word_of v)) (each_set (IsThere w) f.registers to (Low (word_of v)) h.registers tt) tt; result = h.result; caught = h.caught }
item_fine w f i to v h k = record { registers = each_set (IsThere w) f.registers to v h.registers k; result = h.result; caught = h.caught }

receives_fine : (w : World) (x : Option Form) (f : Frame) (v : Value) → FineFrame w f → IsThere w v → FineFrame w (receives x f v)
receives_fine w (Some (form.InstanceGet i to on field)) f v h k = item_fine w f i to v h k
receives_fine w (Some (form.StaticGet i to field)) f v h k = item_fine w f i to v h k
receives_fine w x f v h k = record { registers = h.registers; result = k; caught = h.caught }

back_fine : (find : Bodies) (w : World) (f : Frame) (v : Option Value) → FineFrame w f → MaybeThere w v → FineFrame w (back find f v)
back_fine find w f (Some v) h k = receives_fine w (form_at find f) f v h k
back_fine find w f None h k = record { registers = h.registers; result = tt; caught = h.caught }

-- nothing is referred to at the opening
pub fine_opening : FineWorld opening_world
fine_opening = record { statics = λ k v e. none_some v e; things = tt; exposed = tt }

module _ (s : Setting) (find : Bodies) (firsts : (w : World) (k : FieldKey) (place : Place) → IsThere w (first_of k place)) where
  entered : (w : World) (c : Classes) (k : MethodKey) (vs : List Value) (o : Option NamedBody) → Each (IsThere w) vs → Entered s find (grown s find fine_states) w c k vs o
  entered w c k vs None h = tt
  entered w c k vs (Some b) h = ((λ e. entry_fine w k vs b h), (λ n. tt))

  landed : (w : World) (c : Classes) (f : Frame) (v : Value) (o : Option ℕ) → FineFrame w f → IsThere w v → Landed s find (grown s find fine_states) w c (option_map (λ at. record (go f at) { caught = v }) o)
  landed w c f v None h k = tt
  landed w c f v (Some at) h k = record { registers = h.registers; result = h.result; caught = k }

  leads : (w : World) (c : Classes) (f : Frame) (x : Outcome) (fw : FineWorld w) (ff : FineFrame w f) → OutcomeGrows w f x → OutcomeFine w f fw ff x → LeadsPlainly s find fine_states w c f x
  leads w c f (Stays w1 f1 e) fw ff g o = o
  leads w c f (Starts t) fw ff g o = (tt, ff)
  leads w c f (Enters k vs) fw ff g o = (ff, entered w c k vs (find k) o)
  leads w c f (Leaves w1 owes e) fw ff g o = (o, frame_later w w1 f g ff)
  leads w c f (Ends v) fw ff g o = o
  leads w c f (Raises w1 v) fw ff g o = (o.0, o.1, landed w1 c f v (option_and_then (handler_at (s.face.under (kind_of w1 v)) f.position) (find f.method)) (frame_later w w1 f g ff) o.1)
  leads w c f Halts fw ff g o = tt

  each_unit : (ts : List Text) → Each (λ t. Unit {0}) ts
  each_unit [] = tt
  each_unit (t ∷ ts) = (tt, each_unit ts)

  shown : (w : World) (c : Classes) (kind : Text) (o : Option Value) → FineWorld w → MaybeThere w o → ShownPlainly s find fine_states c w kind o
  shown w c kind None h k = tt
  shown w c kind (Some v) h k = fine_show w kind v h k

  or_there : (w : World) (o : Option Value) (z : Value) → ((v : Value) → o ≡ Some v → IsThere w v) → IsThere w z → IsThere w (written_or o z)
  or_there w (Some v) z h k = h v refl
  or_there w None z h k = k

  field_there : (w : World) (k : FieldKey) (place : Place) (on : Option Value) → FineWorld w → MaybeThere w (field_value w k place on)
  field_there w k place None h = or_there w (w.statics (key_at k place)) (first_of k place) (λ v e. h.statics (key_at k place) v e) (firsts w k place)
  field_there w k place (Some on) h = by (thing_at w on) refl
    where
      by : (o : Option Thing) → thing_at w on ≡ o → MaybeThere w (instance_value k place o)
      by (Some (Instance c fields)) e = or_there w (fields (key_at k place)) (zero_of k.kind) (λ v i. at_there w on (Instance c fields) h e (key_at k place) v i) (zero_there w k.kind)
      by (Some (Items kind vs)) e = tt
      by None e = tt

  put_fine : (w : World) (c : Classes) (k : FieldKey) (on : Option Value) (v : Value) → FineWorld w → IsThere w v → WrittenPlainly s find fine_states c (with_field w k on v)
  put_fine w c k None v h i = record { statics = λ j u e. put_there w k v w.statics (λ m z q. h.statics m z q) i j u e; things = h.things; exposed = h.exposed }
  put_fine w c k (Some on) v h i = by (thing_at w on) refl
    where
      by : (o : Option Thing) → thing_at w on ≡ o → WrittenPlainly s find fine_states c (with_instance w k on v o)
      by (Some (Instance t fields)) e = fine_put w on (Instance t fields) (Instance t (put_field k v fields)) e refl h (put_there w k v fields (at_there w on (Instance t fields) h e) i)
      by (Some (Items kind vs)) e = tt
      by None e = tt

  -- the array is still one, with items that are there, when a value has been given
  items_fine : (w : World) (c : Classes) (x : Given) (on : Value) (kind : Text) (vs : List Value) (n : ℕ) → FineWorld w → thing_at w on ≡ Some (Items kind vs) → WrittenPlainly s find fine_states c (with_item (gets w x).0 on kind vs n (gets w x).1)
  items_fine w c x on kind vs n h e = by (nat_lt n (length vs))
    where
      by : (b : Bool) → WrittenPlainly s find fine_states c (elim b as (λ b. Option World) [ true ↦ Some (put_thing (gets w x).0 on (Items kind (slice_set vs n (stored (item_of_type kind) (gets w x).1)))) | false ↦ None ])
      by true = let w1 = (gets w x).0 in let j = gets_fine w x h in let v = stored (item_of_type kind) (gets w x).1 in
          fine_put_over w w1 on (Items kind vs) (Items kind (slice_set vs n v)) (gets_grow w x) e refl j.world
          (each_set (IsThere w1) vs n v (each_to (IsThere w) (IsThere w1) (there_later w w1 (gets_grow w x)) vs (at_there w on (Items kind vs) h e)) (stored_there w1 (item_of_type kind) (gets w x).1 j.value))
      by false = tt

  pub fine_kept : KeptPlainly s find fine_states
  fine_kept = record {
    steps = λ w c f g t. leads w c f (outcome_at s find (need_of s.face c) w f) g t (step_grows s find (need_of s.face c) w f) (step_fine w f g t (firsts w) s find (need_of s.face c));
    later = λ w w1 a f g h. frame_later w w1 f g h;
    returns = λ w c k f v g h r. back_fine find w f v h r;
    retries = λ w c t f g h. h;
    lands = λ w c a f v g h x. landed w c f v (option_and_then (handler_at (s.face.under (kind_of w v)) f.position) (find f.method)) h x;
    faults = λ w c t e g. (fine_with w (fresh t) g (fresh_fine w t), new_there w (fresh t));
    statuses = λ w c t x g k. g;
    firsts = λ t k. each_unit (s.face.first t);
    initialisers = λ w c t k g x e. entered w c k [] (find k) tt;
    shows_result = λ w c k v g r. fine_option w k.signature.result v g (maybe w v r);
    shows_thrown = λ w c v g x. fine_show w throwable_type v g x;
    enters = λ w c t n q gs f g m e l. let h = all_fine gs w g in (h.0, (λ z. tt), entered (gets_all w gs).0 c f.key (spread (gets_all w gs).1) (find f.key) (spread_there (gets_all w gs).0 (gets_all w gs).1 h.1));
    makes = λ w c t g m l. (tt, fine_show (with_thing w (fresh t)) t (next_object w) (fine_with w (fresh t) g (fresh_fine w t)) (new_there w (fresh t)));
    answers = λ w c kind x f g m ws l. let h = got_fine w x g in (h.0, back_fine find (got w x).0 f (got w x).1 (frame_later w (got w x).0 f (got_grows w x) ws) h.1);
    throws = λ w c x g m l. let h = gets_fine w x g in (h.world, h.value);
    reads = λ w c t n k place on g m e l. let h = got_fine w on g in shown (got w on).0 c k (field_value (got w on).0 (key_of t n k) place (got w on).1) h.0 (field_there (got w on).0 (key_of t n k) place (got w on).1 h.0);
    writes = λ w c t n k place on x g m e l. let h = got_fine w on g in let j = gets_fine (got w on).0 x h.0 in
        put_fine (gets (got w on).0 x).0 c (key_of t n k) (got w on).1 (stored (item_of_type k) (gets (got w on).0 x).1) j.world (stored_there (gets (got w on).0 x).0 (item_of_type k) (gets (got w on).0 x).1 j.value);
    reads_items = λ w c x n kind vs v g m b e j. fine_show w kind v g (each_get (IsThere w) vs n v (at_there w (gets w x).1 (Items kind vs) g e) j);
    writes_items = λ w c on x n kind vs g m b e y l. items_fine w c x (gets w on).1 kind vs n g e;
  }

  each_move : (xs : List Move) → Each (λ x. Unit {0}) xs
  each_move [] = tt
  each_move (x ∷ xs) = (tt, each_move xs)

  -- The instance of the law: after any number of steps from the opening state.
  pub always_fine : (script : List Move) (n : ℕ) → (after s find (opening script) n ≡ Ended) ⊎ Holds fine_states (after s find (opening script) n)
  always_fine script n = let keep = keeps_plainly s find fine_states fine_kept in
      holds_after s find (grown s find fine_states) keep n (opening script)
      (opens_with s find (grown s find fine_states) keep script fine_opening (each_move script))

-- Whatever the setting, the bodies and the script: each state that a run reaches has ended, or refers to what there is alone.
pub every_run_is_fine : (s : Setting) (find : Bodies) (script : List Move) (n : ℕ) → (after s find (opening script) n ≡ Ended) ⊎ Holds fine_states (after s find (opening script) n)
every_run_is_fine s find script n = always_fine s find firsts_there script n
