-- Steps that use monitors, make objects, read and write fields, or end their frame keep it covered.
use Rattle.std.proofs.Common.{◌≡◌, ℕ, zero, suc, ◌+◌, ◌-◌, ◌<◌, Bool, true, false, true≢false, List, [], ◌∷◌, Option, Some, None, refl, sym, ap, ◌∙◌, subst, arith, nat_eq}
use Rattle.std.specs.Prelude.{◌&&◌, ◌||◌, not, length, slice_get, Contains}
use Rattle.std.specs.Option.{option_map}
use Rattle.insn_set.specs.declared.ops.Slot.{Slot}
use Rattle.insn_set.specs.declared.ops.Item.{Item}
use Rattle.insn_set.specs.declared.ops.Item.TheVariants as item
use Rattle.insn_set.specs.Widths.{is_wide_item}
use Rattle.dalvik_defs.specs.Names.{Text, is_wide, is_reference}
use Rattle.dalvik_defs.specs.Flags.{is_static}
use Rattle.dalvik_defs.specs.Known.{bad_monitor, no_class}
use Rattle.dalvik_defs.specs.Face.{face_of, bodies_of, is_defined, place_of}
use Rattle.dalvik_defs.specs.Fields.{first_of, written_or, static_value, instance_value, with_static, with_instance}
use Rattle.dalvik_defs.specs.Find.{finds_field}
use Rattle.dalvik_defs.specs.Items.{stored}
use Rattle.dalvik_defs.specs.Outer.{Outer}
use Rattle.dalvik_defs.specs.State.{World, Classes, Thing, Instance, fresh, is_null, kind_of, kind_of_thing, next_object, with_thing, thing_at, put_field, put_thing, zero_of}
use Rattle.dalvik_defs.specs.Show.{show, show_option}
use Rattle.dalvik_defs.specs.Effect.{Effect, Goes, Faults, Locks, Unlocks, Reads, Writes, register, write, write_item, next}
use Rattle.dalvik_defs.specs.ActPlain.{exits}
use Rattle.dalvik_defs.specs.Act.{act}
use Rattle.dalvik_defs.specs.Outcome.{Outcome, Stays, Need, Ready, Fresh, Broken, need_of, when_ready, with_lock, reads_value, reads_out, reads_static, reads_instance, writes_static, writes_instance, written as written_to}
use Rattle.dalvik_defs.specs.declared.state.Value.{Value}
use Rattle.dalvik_defs.specs.declared.state.Value.TheVariants.{Word, Object}
use Rattle.dalvik_defs.specs.declared.state.Frame.{Frame}
use Rattle.dalvik_defs.specs.declared.events.Event.{Event}
use Rattle.dalvik_defs.specs.declared.events.Event.TheVariants as event
use Rattle.dalvik_defs.specs.declared.names.FieldKey.{FieldKey}
use Rattle.dalvik_defs.specs.declared.forms.Form.{Form}
use Rattle.dalvik_defs.specs.declared.forms.Form.TheVariants as form
use Rattle.dalvik_defs.specs.declared.program.NamedField.{NamedField}
use Rattle.dalvik_defs.specs.declared.program.NamedProgram.{NamedProgram}
use Rattle.dalvik_defs.specs.declared.tables.Floats.{Floats}
use Rattle.dalvik_defs.specs.declared.tables.Framework.{Framework}
use Rattle.pass_defs.specs.Analysis.{Analysis, IsRanged, Holds}
use Rattle.pass_defs.specs.Bare.{may_throw}
use Rattle.run_facts.specs.Closed.{At, Puts, Instance as PutsInstance, Static as PutsStatic, AtPosition, put, put_sized, refined, then_put, arm, edges, field_value}
use Rattle.pass_defs.specs.Facts.{Facts, Itself, own_key, needs, field_class}
use Rattle.pass_defs.specs.Demands.{meets, of_type, holds_field}
use Rattle.pass_defs.specs.Registers.{kind_at}
use Rattle.pass_defs.specs.Kinds.{fits_holder}
use Rattle.pass_defs.specs.Typed.{wrong_item, wrong_field, wrong_first, differ}
use Rattle.run_laws.specs.Invariant.{Above, Begun, Owing, Grows}
use Rattle.run_laws.proofs.Growing.{grows_same, grows_put, show_heap}
use Rattle.run_facts.specs.Covered.{Sees, CoversTop, CoversWaiting, CoversWorld, Awaits, IsPast}
use Rattle.program_laws.specs.Results.{gives_result}
use Rattle.run_laws.proofs.Fine.{each_or}
use Rattle.run_laws.specs.TypedStates.{KindHolds, ValueOf, TypedFrame, TypedWorld}
use Rattle.run_laws.proofs.Settled.{IsSettled}
use Rattle.run_laws.proofs.Registers.{and_left, and_right}
use Rattle.run_laws.proofs.Climbs.{none_some}
use Rattle.run_laws.proofs.Sorts.{Sorted, OfWord, OfWide, OfReference, OfNone, sorted}
use Rattle.run_laws.proofs.Arrays.{true_false}
use Rattle.run_laws.proofs.ArrayForms.{kind_new}
use Rattle.run_laws.proofs.FirstValues.{first_held}
use Rattle.run_laws.proofs.Forms.{or_left, or_right, typed_value}
use Rattle.run_laws.proofs.FieldForms.{holds_instance, puts_instance, or_value, stored_value}
use Rattle.run_laws.proofs.Here.{get_contains}
use Rattle.run_laws.proofs.Worlds.{at_typed, zero_value}
use Rattle.form_laws.specs.Changes.{operands}
use Rattle.cover_law.specs.Coverable.{IsFormed, has_values}
use Rattle.cover_law.specs.Sound.{IsWord}
use Rattle.cover_law.proofs.Ready.{IsReady}
use Rattle.cover_law.specs.Known.{KnownFrame, KnownWorld}
use Rattle.cover_law.proofs.Along.{Along, Looks, sees_put, closer, then_item, just_item}
use Rattle.cover_law.proofs.Standing.{own_form, all_later, top_on}
use Rattle.cover_law.proofs.Worlds.{typed_fields, value_there, SameFields, same_world, same_with, same_then, same_show, same_option, same_lock}
use Rattle.cover_law.proofs.Fields.{read_same, static_seen, instance_seen, covers_static, covers_instance}
use Rattle.cover_law.proofs.Stays.{Leads, Does, Is, kept, there, arrays, here, faulted, held, looks}

module _ {V : Type 0} (a : Analysis V) (p : NamedProgram) (o : Outer) (f : Framework) (floats : Floats) (facts : Facts V) (base : IsReady a p o f floats facts) (reg : IsSettled p) where
  pub item_method : (i : Item) (g : Frame) (to : ℕ) (v : Value) → (next (write_item i g to v)).method ≡ g.method
  item_method item.Wide g to v = refl
  item_method i g to v = refl

  module _ (w : World) (cs : Classes) (g : Frame) (tw : TypedWorld p f w) (kw : KnownWorld p o w) (cw : CoversWorld a p o facts w) (t : TypedFrame p f w g) (kg : KnownFrame p o g) (top : CoversTop a p o facts w g) where
    abbrev L : Outcome → Type 0
    L = Leads a p o f floats facts base reg w cs g tw kw cw t kg top

    abbrev D : Effect → Type 0
    D = Does a p o f floats facts base reg w cs g tw kw cw t kg top

    abbrev I : Form → Type 0
    I = Is a p o f floats facts base reg w cs g tw kw cw t kg top

    abbrev x : ℕ → V
    x = top.stands.registers

    abbrev S : V → World → Value → Type 0
    S = Sees a p o facts

    abbrev n : ℕ
    n = g.position

    abbrev need : Text → Need
    need = need_of (face_of p f) cs

    module _ (y : Form) (h : I y) where
      abbrev at_y : At a p facts g.method g.position
      at_y = here a p o f floats facts base reg w cs g tw kw cw t kg top y h

      -- a frame that waits, also in a world that came behind
      pub waits : (w1 : World) → Grows w w1 → (above : Above) → Awaits a p o facts g x y above → IsPast a p o facts above y g → CoversWaiting a p o facts w1 above g
      waits w1 gr above e past = record {
        stands = record { registers = x; reached = top.stands.reached; hold = all_later a p o f floats facts base reg w w1 x g t gr top.stands.hold };
        form = y;
        has_form = own_form a p o f floats facts base reg w g t y h.has;
        awaits = e;
        past = past;
      }

      pub readied : may_throw y ≡ true → (m : Need) (u : Text) (now : Outcome) → Contains (needs p y) u → L now → L (when_ready m w u now)
      readied thr Ready u now c l = l
      readied thr Fresh u now c l = λ i. ((u, AtPosition g.method g.position u at_y c, Itself u), waits w (grows_same w w refl) (Begun u) c tt)
      readied thr Broken u now c l = faulted a p o f floats facts base reg w cs g tw kw cw t kg top y h thr no_class

      abbrev Goes_to : Option (ℕ → V) → World → Frame → Type 0
      Goes_to z w1 g1 = Along a p facts (face_of p f).under floats base.sound w g x top.stands.hold (there a p o f floats facts base reg w cs g tw kw cw t kg top) (arrays a p o f floats facts base reg w cs g tw kw cw t kg top) (arm a (n + 1) z) (Goes w1 g1)

      -- to the next position, with fields as they are or as they are written
      moves_on : gives_result y ≡ false → (w1 : World) (g1 : Frame) (e : Option Event) → CoversWorld a p o facts w1 → g1.method ≡ g.method → (z : Option (ℕ → V)) → edges a p facts n y x ≡ arm a (n + 1) z → Goes_to z w1 g1 → L (Stays w1 g1 e)
      moves_on gives w1 g1 e c em z ed al = λ u v. (c, top_on a p o f floats facts base reg w g t y h.has top.stands gives w1 g1 al.0 (subst (λ es. Contains es al.0) (sym ed) al.1) al.2 em al.3)

      pub seen_first : (r : ℕ) (rs : List ℕ) → operands y ≡ r ∷ rs → S (x r) w (register g r)
      seen_first r rs e = (subst (Looks a p facts (face_of p f).under floats base.sound w g x top.stands.hold (there a p o f floats facts base reg w cs g tw kw cw t kg top) (arrays a p o f floats facts base reg w cs g tw kw cw t kg top)) e
          (looks a p o f floats facts base reg w cs g tw kw cw t kg top y h)).0

      not_null : (r : ℕ) → S (x r) w (register g r) → is_null (register g r) ≡ false → Holds a (a.held (x r)) (kind_of w (register g r)) (register g r)
      not_null r s z = base.sound.holders (x r) (kind_of w (register g r)) (register g r) s z

      -- behind a use of an object
      pub used_on : (r : ℕ) → S (x r) w (register g r) → is_null (register g r) ≡ false → (w1 : World) → Grows w w1 → Goes_to (refined a r (a.held (x r)) x) w1 (next g)
      used_on r s z w1 gr = by (closer a p facts (face_of p f).under floats base.sound w g x top.stands.hold (there a p o f floats facts base reg w cs g tw kw cw t kg top) (arrays a p o f floats facts base reg w cs g tw kw cw t kg top) r (a.held (x r)) (not_null r s z))
        where
          by : Goes_to (refined a r (a.held (x r)) x) w (next g) → Goes_to (refined a r (a.held (x r)) x) w1 (next g)
          by k = (k.0, k.1, k.2, all_later a p o f floats facts base reg w w1 k.0.1 g t gr k.3)

      unchanged : (w1 : World) → Grows w w1 → Goes_to (Some x) w1 (next g)
      unchanged w1 gr = ((n + 1, x), (0, omega arith, refl), refl, all_later a p o f floats facts base reg w w1 x g t gr top.stands.hold)

    -- ---- ends

    pub returns : (s : Slot) (from : ℕ) → I (form.Return s from) → D (act (face_of p f).under floats (form.Return s from) w g)
    returns s from h = λ u. base.sound.grows (x from) (facts.results g.method) (kind_of w (register g from)) (register g from) (base.closed.returns g.method g.position from s (at_y (form.Return s from) h) refl) (seen_first (form.Return s from) h from [] refl)

    pub voids : I form.ReturnVoid → D (act (face_of p f).under floats form.ReturnVoid w g)
    voids h = λ u. tt

    -- ---- monitors

    locked : (y : Form) (h : I y) (on : ℕ) → gives_result y ≡ false → edges a p facts n y x ≡ arm a (n + 1) (refined a on (a.held (x on)) x) → S (x on) w (register g on) → is_null (register g on) ≡ false → (m : ℕ) (e : Option Event)
        → L (Stays (with_lock (show w (kind_of w (register g on)) (register g on)).0 (register g on) m) (next g) e)
    locked y h on gives ed s z m e = let w1 = with_lock (show w (kind_of w (register g on)) (register g on)).0 (register g on) m in let sf = same_lock w (register g on) m in
        moves_on y h gives w1 (next g) e (kept a p o f floats facts base reg w cs g tw kw cw t kg top w1 sf) refl (refined a on (a.held (x on)) x) ed (used_on y h on s z w1 sf.grows)

    pub enters : (on : ℕ) → I (form.MonitorEnter on) → D (act (face_of p f).under floats (form.MonitorEnter on) w g)
    enters on h = held a p o f floats facts base reg w cs g tw kw cw t kg top (form.MonitorEnter on) h refl (register g on) (Locks (register g on)) (λ z.
        locked (form.MonitorEnter on) h on refl refl (seen_first (form.MonitorEnter on) h on [] refl) z (w.locks (register g on) + 1) (Some (event.Lock (show w (kind_of w (register g on)) (register g on)).1)))

    pub exits_held : (on : ℕ) → I (form.MonitorExit on) → D (act (face_of p f).under floats (form.MonitorExit on) w g)
    exits_held on h = held a p o f floats facts base reg w cs g tw kw cw t kg top (form.MonitorExit on) h refl (register g on) (exits w (register g on)) (λ z. by (nat_eq (w.locks (register g on)) 0) z)
      where
        by : (b : Bool) → is_null (register g on) ≡ false → D (elim b as (λ b. Effect) [ true ↦ Faults bad_monitor | false ↦ Unlocks (register g on) ])
        by true z = faulted a p o f floats facts base reg w cs g tw kw cw t kg top (form.MonitorExit on) h refl bad_monitor
        by false z = locked (form.MonitorExit on) h on refl refl (seen_first (form.MonitorExit on) h on [] refl) z (w.locks (register g on) - 1) (Some (event.Unlock (show w (kind_of w (register g on)) (register g on)).1))

    -- ---- objects

    pub makes : (to : ℕ) (u : Text) → I (form.NewInstance to u) → D (act (face_of p f).under floats (form.NewInstance to u) w g)
    makes to u h = by (is_defined (face_of p f) u)
      where
        w1 : World
        w1 = with_thing w (fresh u)

        g1 : Frame
        g1 = next (write g to (next_object w))

        made : SameFields w w1
        made = same_with w (fresh u) (λ k. refl)

        new : (w2 : World) → SameFields w w2 → kind_of w2 (next_object w) ≡ u → (e : Option Event) → L (Stays w2 g1 e)
        new w2 s k e = moves_on (form.NewInstance to u) h refl w2 g1 e (kept a p o f floats facts base reg w cs g tw kw cw t kg top w2 s) refl (Some (put a to (a.made u) x)) refl (
          (n + 1, put a to (a.made u) x),
          (0, omega arith, refl),
          refl,
          sees_put a p facts x w2 g.registers to (a.made u) (next_object w) (all_later a p o f floats facts base reg w w2 x g t s.grows top.stands.hold)
              (subst (λ j. a.holds (a.made u) j (next_object w)) (sym k) (base.sound.makes u (length w.heap))),
        )

        shown_kind : (w2 : World) → w2.heap ≡ w1.heap → kind_of w2 (next_object w) ≡ u
        shown_kind w2 e = ap (λ hp. elim (slice_get {X = Thing} hp (length w.heap)) as (λ o. Text) [ Some th ↦ kind_of_thing th | None ↦ [] ]) e ∙ kind_new w (fresh u)

        by : (b : Bool) → L (elim b as (λ b. Outcome) [ true ↦ when_ready (need u) w u (Stays w1 g1 None) | false ↦ Stays (show w1 u (next_object w)).0 g1 (Some (event.Make (show w1 u (next_object w)).1)) ])
        by true = readied (form.NewInstance to u) h refl (need u) u (Stays w1 g1 None) (0, omega arith, refl) (new w1 made (kind_new w (fresh u)) None)
        by false = let w2 = (show w1 u (next_object w)).0 in new w2 (same_then w w1 w2 made (same_show w1 u (next_object w))) (shown_kind w2 (show_heap w1 u (next_object w))) (Some (event.Make (show w1 u (next_object w)).1))

    -- ---- fields that are read

    past_on : (i : Item) (to on : ℕ) (k : FieldKey) → is_null (register g on) ≡ false → (r : ℕ) → Contains (on ∷ []) r → is_null (register g r) ≡ false
    past_on i to on k z r (zero, l, e) = subst (λ r. is_null (register g r) ≡ false) e z
    past_on i to on k z r (suc m, l, e) = absurd (omega (arith, l))

    flag_of : (static : Bool) (k : FieldKey) (y : Text × NamedField) → finds_field p k ≡ Some y → wrong_field p static k ≡ false → differ static (is_static y.1.flags) ≡ false
    flag_of static k y e r = sym (ap (λ z. elim z as (λ z. Bool) [ Some f ↦ differ static (is_static f.1.flags) | None ↦ false ]) e) ∙ r

    pub instance_gets : (i : Item) (to on : ℕ) (k : FieldKey) → I (form.InstanceGet i to on k) → D (act (face_of p f).under floats (form.InstanceGet i to on k) w g)
    instance_gets i to on k h = held a p o f floats facts base reg w cs g tw kw cw t kg top y h refl (register g on) (Reads i to k (Some (register g on))) (λ z. by z (finds_field p k) refl)
      where
        y : Form
        y = form.InstanceGet i to on k

        wrong : wrong_item i k.kind ≡ false
        wrong = or_left (wrong_item i k.kind) (wrong_field p false k) h.right

        seen : S (x on) w (register g on)
        seen = seen_first y h on [] refl

        out : is_null (register g on) ≡ false → finds_field p k ≡ None → L (reads_out k (Some (register g on)) w)
        out z e = let w1 = (show_option w k.class (Some (register g on))).0 in let sf = same_option w k.class (Some (register g on)) in
            λ u v. (kept a p o f floats facts base reg w cs g tw kw cw t kg top w1 sf, waits y h w1 sf.grows (Owing k.kind) (e, refl) (past_on i to on k z))

        read : (d : Text × NamedField) → finds_field p k ≡ Some d → is_null (register g on) ≡ false → (v : Value) → S (facts.fields (own_key k d)) w v → ValueOf p f w k.kind v → L (Stays w (next (write_item i g to v)) None)
        read d e z v s vt = moves_on y h refl w (next (write_item i g to v)) None cw (item_method i g to v) (then_put a (is_wide_item i) to (field_value a p facts k) (refined a on (a.held (x on)) x)) refl
            (then_item a p facts (face_of p f).under floats base.sound w g x top.stands.hold (there a p o f floats facts base reg w cs g tw kw cw t kg top) (arrays a p o f floats facts base reg w cs g tw kw cw t kg top) on to (a.held (x on)) i (field_value a p facts k) w v (grows_same w w refl) (not_null y h on seen z)
            (subst (λ u. S (field_value a p facts k) w u) (sym (read_same a p o f floats facts base reg w i k.kind v wrong vt))
            (subst (λ m. S (elim m as (λ m. V) [ Some f ↦ facts.fields (own_key k f) | None ↦ a.outer k.kind ]) w v) (sym e) s)))

        value : (d : Text × NamedField) → finds_field p k ≡ Some d → is_null (register g on) ≡ false → (z : Value) → (c : Text) × ((fs : FieldKey → Option Value) × (thing_at w z ≡ Some (Instance c fs))) → L (reads_value i to (instance_value k (place_of d.0 d.1) (thing_at w z)) w g)
        value d e nn (Object m) (c, (fs, at)) = subst (λ q. L (reads_value i to (instance_value k (place_of d.0 d.1) q) w g)) (sym at) (read d e nn (written_or (fs (own_key k d)) (zero_of k.kind))
            (instance_seen a p o f floats facts base reg w k d m c fs cw e (flag_of false k d e (or_right (wrong_item i k.kind) (wrong_field p false k) h.right)) at)
            (or_value p o f floats reg w cs g tw t k.kind (fs (own_key k d)) (zero_of k.kind) (λ v j. (at_typed p f w (Object m) (Instance c fs) tw at).1 (own_key k d) v j) (zero_value p f w k.kind)))
        value d e nn z (c, (fs, at)) = none_some (Instance c fs) at

        by : is_null (register g on) ≡ false → (m : Option (Text × NamedField)) → finds_field p k ≡ m → L (reads_instance i to k (register g on) w g (option_map (λ c. place_of c.0 c.1) (finds_field p k)))
        by z None e = subst (λ m. L (reads_instance i to k (register g on) w g (option_map (λ c. place_of c.0 c.1) m))) (sym e) (out z e)
        by z (Some d) e = subst (λ m. L (reads_instance i to k (register g on) w g (option_map (λ c. place_of c.0 c.1) m))) (sym e)
            (value d e z (register g on) (holds_instance p o f floats reg w cs g tw t k d e on (and_left (fits_holder p (kind_at t.kinds.registers on) k.class) true h.allowed) z))

    class_of : (k : FieldKey) (d : Text × NamedField) → finds_field p k ≡ Some d → Contains (field_class p k) d.0
    class_of k d e = subst (λ m. Contains (elim m as (λ m. List Text) [ Some f ↦ f.0 ∷ [] | None ↦ [] ]) d.0) (sym e) (0, omega arith, refl)

    pub static_gets : (i : Item) (to : ℕ) (k : FieldKey) → I (form.StaticGet i to k) → D (act (face_of p f).under floats (form.StaticGet i to k) w g)
    static_gets i to k h = by (finds_field p k) refl
      where
        y : Form
        y = form.StaticGet i to k

        wrong : (wrong_item i k.kind || wrong_field p true k) ≡ false
        wrong = or_left (wrong_item i k.kind || wrong_field p true k) (wrong_first p k) h.right

        out : finds_field p k ≡ None → L (reads_out k None w)
        out e = λ u v. (kept a p o f floats facts base reg w cs g tw kw cw t kg top w (same_world w), waits y h w (grows_same w w refl) (Owing k.kind) (e, refl) (λ r c. absurd (let l : c.0 < 0 = c.1 in omega (arith, l))))

        read : (d : Text × NamedField) → finds_field p k ≡ Some d → (v : Value) → S (facts.fields (own_key k d)) w v → ValueOf p f w k.kind v → L (Stays w (next (write_item i g to v)) None)
        read d e v s vt = moves_on y h refl w (next (write_item i g to v)) None cw (item_method i g to v) (Some (put_sized a (is_wide_item i) to (field_value a p facts k) x)) refl
            (just_item a p facts (face_of p f).under floats base.sound w g x top.stands.hold (there a p o f floats facts base reg w cs g tw kw cw t kg top) (arrays a p o f floats facts base reg w cs g tw kw cw t kg top) to i (field_value a p facts k) w v (grows_same w w refl)
            (subst (λ u. S (field_value a p facts k) w u) (sym (read_same a p o f floats facts base reg w i k.kind v (or_left (wrong_item i k.kind) (wrong_field p true k) wrong) vt))
            (subst (λ m. S (elim m as (λ m. V) [ Some f ↦ facts.fields (own_key k f) | None ↦ a.outer k.kind ]) w v) (sym e) s)))

        static : (d : Text × NamedField) → finds_field p k ≡ Some d → is_static d.1.flags ≡ true
        static d e = untrue (is_static d.1.flags) (flag_of true k d e (or_right (wrong_item i k.kind) (wrong_field p true k) wrong))
          where
            untrue : (b : Bool) → not b ≡ false → b ≡ true
            untrue true e = refl
            untrue false e = absurd (true≢false e)

        by : (m : Option (Text × NamedField)) → finds_field p k ≡ m → L (reads_static need i to k w g (option_map (λ c. place_of c.0 c.1) (finds_field p k)))
        by None e = subst (λ m. L (reads_static need i to k w g (option_map (λ c. place_of c.0 c.1) m))) (sym e) (out e)
        by (Some d) e = subst (λ m. L (reads_static need i to k w g (option_map (λ c. place_of c.0 c.1) m))) (sym e)
            (readied y h refl (need d.0) d.0 (Stays w (next (write_item i g to (static_value w k (place_of d.0 d.1)))) None) (class_of k d e)
            (read d e (static_value w k (place_of d.0 d.1)) (static_seen a p o f floats facts base reg w k d cw e (static d e))
            (or_value p o f floats reg w cs g tw t k.kind (w.statics (own_key k d)) (first_of k (place_of d.0 d.1)) (λ v j. tw.statics (own_key k d) v j) (first_held p f reg w k d e (or_right (wrong_item i k.kind || wrong_field p true k) (wrong_first p k) h.right)))))

    -- ---- fields that are written

    -- what a field keeps of a value of its type
    stored_seen : (i : Item) (u : Text) (z : V) (v : Value) → IsRanged v → has_values u ≡ true → wrong_item i u ≡ false → ValueOf p f w u v → S z w v → S (a.stored i z) w (stored i v)
    stored_seen i u z v bits hv wr vt s = by i wr
      where
        a_word : (is_wide u || is_reference u) ≡ false → (m : ℕ) × (v ≡ Word m)
        a_word e = one (sorted p u)
          where
            one : Sorted p u → (m : ℕ) × (v ≡ Word m)
            one (OfWord q b d j l) = subst (λ k. KindHolds p f [] w k v) j (vt [])
            one (OfWide q b d j l) = true_false b (or_left (is_wide u) (is_reference u) e)
            one (OfReference q b d j l) = true_false d (or_right (is_wide u) (is_reference u) e)
            one (OfNone q b d j l) = absurd (true≢false (sym hv ∙ (ap (λ c. c || is_wide u || is_reference u) q ∙ (ap (λ c. c || is_reference u) b ∙ d))))

        number : (is_wide u || is_reference u) ≡ false → kind_of w v ≡ []
        number e = ap (kind_of w) (a_word e).1

        word : (is_wide u || is_reference u) ≡ false → IsWord v
        word e = let h = a_word e in subst IsWord (sym h.1) (subst IsRanged h.1 bits)

        plain : S (a.stored item.Plain z) w v
        plain = base.sound.stores item.Plain z (kind_of w v) v tt s

        by : (i : Item) → wrong_item i u ≡ false → S (a.stored i z) w (stored i v)
        by item.Plain e = plain
        by item.Wide e = base.sound.stores item.Wide z (kind_of w v) v tt s
        by item.Object e = base.sound.stores item.Object z (kind_of w v) v tt s
        by item.Boolean e = subst (λ c. a.holds (a.stored item.Boolean z) c (stored item.Boolean v)) (number e) (base.sound.stores item.Boolean z (kind_of w v) v (word e) s)
        by item.Byte e = subst (λ c. a.holds (a.stored item.Byte z) c (stored item.Byte v)) (number e) (base.sound.stores item.Byte z (kind_of w v) v (word e) s)
        by item.Char e = subst (λ c. a.holds (a.stored item.Char z) c (stored item.Char v)) (number e) (base.sound.stores item.Char z (kind_of w v) v (word e) s)
        by item.Short e = subst (λ c. a.holds (a.stored item.Short z) c (stored item.Short v)) (number e) (base.sound.stores item.Short z (kind_of w v) v (word e) s)

    -- the field's facts hold of what is put into it
    put_holds : (y : Form) (h : I y) (i : Item) (from : ℕ) (k : FieldKey) (d : Text × NamedField) → Puts i from k y → finds_field p k ≡ Some d → has_values k.kind ≡ true → wrong_item i k.kind ≡ false → ValueOf p f w k.kind (register g from) → S (x from) w (register g from)
        → S (facts.fields (own_key k d)) w (stored i (register g from))
    put_holds y h i from k d puts e hv wr vt s = base.sound.grows (a.stored i (x from)) (facts.fields (own_key k d)) (kind_of w (stored i (register g from))) (stored i (register g from)) (base.closed.fields.puts g.method g.position from i k d (at_y y h) puts e)
        (stored_seen i k.kind (x from) (register g from) (each_or IsRanged g.registers from (Word 0) kg.ranged.registers (omega arith)) hv wr vt s)

    pub formed : (y : Form) → I y → IsFormed y
    formed y h = base.formed g.method t.in_method.body y (ap (bodies_of p) t.of ∙ t.in_method.has_body) (get_contains t.in_method.body.forms n y h.has)

    shown_out : (k : FieldKey) (on : Option Value) (v : Value) → SameFields w (show (show_option w k.class on).0 k.kind v).0
    shown_out k on v = let w1 = (show_option w k.class on).0 in same_then w w1 (show w1 k.kind v).0 (same_option w k.class on) (same_show w1 k.kind v)

    pub static_puts : (i : Item) (from : ℕ) (k : FieldKey) → I (form.StaticPut i from k) → D (act (face_of p f).under floats (form.StaticPut i from k) w g)
    static_puts i from k h = by (finds_field p k) refl
      where
        y : Form
        y = form.StaticPut i from k

        v : Value
        v = stored i (register g from)

        wrong : wrong_item i k.kind ≡ false
        wrong = or_left (wrong_item i k.kind) (wrong_field p true k) h.right

        vt : ValueOf p f w k.kind (register g from)
        vt = typed_value p o f floats reg w cs g tw t from k.kind (and_left (meets p t.in_method.class t.kinds.registers from (of_type k.kind)) true h.allowed)

        by : (m : Option (Text × NamedField)) → finds_field p k ≡ m → L (writes_static need k v w g (option_map (λ c. place_of c.0 c.1) (finds_field p k)))
        by None e = subst (λ m. L (writes_static need k v w g (option_map (λ c. place_of c.0 c.1) m))) (sym e) (let sf = shown_out k None v in let w1 = (show (show_option w k.class None).0 k.kind v).0 in
            moves_on y h refl w1 (next g) (Some (event.Put k.class k.name k.kind (show_option w k.class None).1 (show (show_option w k.class None).0 k.kind v).1)) (kept a p o f floats facts base reg w cs g tw kw cw t kg top w1 sf) refl (Some x) refl (unchanged y h w1 sf.grows))
        by (Some d) e = let w1 = with_static w (own_key k d) v in subst (λ m. L (writes_static need k v w g (option_map (λ c. place_of c.0 c.1) m))) (sym e)
            (readied y h refl (need d.0) d.0 (Stays w1 (next g) None) (class_of k d e)
            (moves_on y h refl w1 (next g) None (covers_static a p o f floats facts base reg w (own_key k d) v (typed_fields p f w tw) cw (value_there p f w k.kind v (stored_value p o f floats reg w cs g tw t i k.kind (register g from) wrong vt))
            (put_holds y h i from k d PutsStatic e (formed y h) wrong vt (seen_first y h from [] refl))) refl (Some x) refl (unchanged y h w1 (grows_same w w1 refl))))

    pub instance_puts : (i : Item) (from on : ℕ) (k : FieldKey) → I (form.InstancePut i from on k) → D (act (face_of p f).under floats (form.InstancePut i from on k) w g)
    instance_puts i from on k h = held a p o f floats facts base reg w cs g tw kw cw t kg top y h refl (register g on) (Writes k (Some (register g on)) v) (λ z. by z (finds_field p k) refl)
      where
        y : Form
        y = form.InstancePut i from on k

        v : Value
        v = stored i (register g from)

        wrong : wrong_item i k.kind ≡ false
        wrong = or_left (wrong_item i k.kind) (wrong_field p false k) h.right

        second : Bool
        second = holds_field p t.in_method.class k (kind_at t.kinds.registers on)

        vt : ValueOf p f w k.kind (register g from)
        vt = typed_value p o f floats reg w cs g tw t from k.kind (and_left (meets p t.in_method.class t.kinds.registers from (of_type k.kind)) (second && true) h.allowed)

        on_seen : S (x on) w (register g on)
        on_seen = (looks a p o f floats facts base reg w cs g tw kw cw t kg top y h).1.0

        value : (d : Text × NamedField) → finds_field p k ≡ Some d → is_null (register g on) ≡ false → (z : Value) → (c : Text) × ((fs : FieldKey → Option Value) × (thing_at w z ≡ Some (Instance c fs))) → L (written_to (with_instance w (own_key k d) z v (thing_at w z)) g)
        value d e nn z (c, (fs, at)) = let w1 = put_thing w z (Instance c (put_field (own_key k d) v fs)) in subst (λ q. L (written_to (with_instance w (own_key k d) z v q) g)) (sym at)
            (moves_on y h refl w1 (next g) None (covers_instance a p o f floats facts base reg w (own_key k d) z v c fs at (typed_fields p f w tw) cw (value_there p f w k.kind v (stored_value p o f floats reg w cs g tw t i k.kind (register g from) wrong vt))
            (put_holds y h i from k d (PutsInstance on) e (formed y h) wrong vt (seen_first y h from (on ∷ []) refl))) refl (refined a on (a.held (x on)) x) refl
            (used_on y h on on_seen nn w1 (grows_put w z (Instance c fs) (Instance c (put_field (own_key k d) v fs)) at refl)))

        by : is_null (register g on) ≡ false → (m : Option (Text × NamedField)) → finds_field p k ≡ m → L (writes_instance k (register g on) v w g (option_map (λ c. place_of c.0 c.1) (finds_field p k)))
        by z None e = subst (λ m. L (writes_instance k (register g on) v w g (option_map (λ c. place_of c.0 c.1) m))) (sym e) (let sf = shown_out k (Some (register g on)) v in let w1 = (show (show_option w k.class (Some (register g on))).0 k.kind v).0 in
            moves_on y h refl w1 (next g) (Some (event.Put k.class k.name k.kind (show_option w k.class (Some (register g on))).1 (show (show_option w k.class (Some (register g on))).0 k.kind v).1)) (kept a p o f floats facts base reg w cs g tw kw cw t kg top w1 sf) refl
            (refined a on (a.held (x on)) x) refl (used_on y h on on_seen z w1 sf.grows))
        by z (Some d) e = subst (λ m. L (writes_instance k (register g on) v w g (option_map (λ c. place_of c.0 c.1) m))) (sym e)
            (value d e z (register g on) (puts_instance p o f floats reg w cs g tw t k d e on (and_left second true (and_right (meets p t.in_method.class t.kinds.registers from (of_type k.kind)) (second && true) h.allowed)) z))
