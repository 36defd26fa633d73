-- The law of rewriting in place, for the bodies of two programs in one setting.
use Rattle.std.proofs.Common.{◌≡◌, ℕ, zero, suc, ◌+◌, ◌-◌, ◌<◌, Bool, true, false, List, [], ◌∷◌, ◌++◌, length, Option, Some, None, refl, sym, ap, ap₂, ◌∙◌, subst, subst₂, inl, inr, arith}
use Rattle.std.specs.Prelude.{◌&&◌, slice_get, slice_index_or, replicate}
use Rattle.std.specs.Option.{option_map, option_and_then}
use Rattle.std.proofs.lemmas.List.{length-append, length-replicate}
use Rattle.lemmas.proofs.Options.{some_same}
use Rattle.insn_set.specs.declared.ops.Slot.{Slot}
use Rattle.insn_set.specs.declared.ops.Slot.TheVariants as slot
use Rattle.insn_set.specs.declared.ops.Item.{Item}
use Rattle.insn_set.specs.declared.ops.Item.TheVariants as item
use Rattle.insn_set.specs.declared.ops.InvokeKind.{InvokeKind}
use Rattle.insn_set.specs.declared.ops.InvokeKind.TheVariants as call
use Rattle.insn_set.specs.Widths.{is_wide_item}
use Rattle.dalvik_defs.specs.Names.{Text, is_void, method_eq, object_constructor}
use Rattle.dalvik_defs.specs.Known.{no_class, null_pointer, class_change, abstract_method}
use Rattle.dalvik_defs.specs.Flags.{is_static, is_native}
use Rattle.dalvik_defs.specs.Find.{Found, Search, Nothing, Clash, Finds}
use Rattle.dalvik_defs.specs.Face.{Face, Bodies, Place, is_defined}
use Rattle.dalvik_defs.specs.State.{World, Classes, State, On, word_of, is_null, kind_of, thing_at, next_object, with_thing, fresh}
use Rattle.dalvik_defs.specs.declared.state.Value.{Value}
use Rattle.dalvik_defs.specs.declared.state.Value.TheVariants.{Word, Low, High}
use Rattle.dalvik_defs.specs.declared.state.Frame.{Frame}
use Rattle.dalvik_defs.specs.declared.state.Waiting.{Waiting}
use Rattle.dalvik_defs.specs.declared.state.Waiting.TheVariants.{Method}
use Rattle.dalvik_defs.specs.Fields.{key_at, static_value, instance_value, with_static, with_instance}
use Rattle.dalvik_defs.specs.Show.{show}
use Rattle.dalvik_defs.specs.Effect.{Effect, Goes, Faults, Throws, Gives, Calls, Makes, Reads, Writes, Locks, Unlocks, Stuck, register, write, write_item, next, go}
use Rattle.dalvik_defs.specs.Outcome.{Outcome, Stays, Enters, Ends, Raises, Halts, Need, Ready, Fresh, Broken, need_of, faults, when_ready, calls_out, native_kind, takes_no_receiver, is_direct, calls_uncoded, calls_found, calls_ready, calls_unfound, calls_by, receiver, on_receiver, calls, makes, reads_value, reads_static, reads_instance, reads, written as put_back, writes_static, writes_instance, writes, locks, unlocks, outcome}
use Rattle.dalvik_defs.specs.Stack.{form_at as form_of, entry_registers, receives, back, handler_at, lands}
use Rattle.dalvik_defs.specs.Act.{act}
use Rattle.dalvik_defs.specs.Happens.{Setting, effect_of}
use Rattle.dalvik_defs.specs.declared.names.MethodKey.{MethodKey}
use Rattle.dalvik_defs.specs.declared.names.FieldKey.{FieldKey}
use Rattle.dalvik_defs.specs.declared.forms.Form.{Form}
use Rattle.dalvik_defs.specs.declared.forms.Form.TheVariants as form
use Rattle.dalvik_defs.specs.declared.script.Move.{Move}
use Rattle.dalvik_defs.specs.declared.tables.Floats.{Floats}
use Rattle.dalvik_defs.specs.declared.events.Event.{Event}
use Rattle.dalvik_defs.specs.declared.events.Event.TheVariants as event
use Rattle.dalvik_defs.specs.declared.program.NamedBody.{NamedBody}
use Rattle.dalvik_defs.proofs.Frames.{Above, Calls as Called, Asks, Begins, Comes, Glides, now, Landed, Leads, Meet, Entered, FramesFollow}
use Rattle.pass_defs.specs.Bare.{may_throw, continues, targets}
use Rattle.pass_defs.specs.Walks.{form_at, handlers_at, next_position, onward, caught, successors, Walk, IsReached}
use Rattle.form_laws.specs.Changes.{In, destination, Change, Sets, Jumps, Results, written, changed, aimed, width_if, width, Possible, Waits, TakesResult, TakesItem, Alike}
use Rattle.form_laws.proofs.Runs.{written_method, written_position, written_result, written_caught, written_long, written_other, written_there}
use Rattle.form_laws.specs.Rewriting.{Claims, frame_size, ReadsFields, Holds, Comes as Follows, Writes as Wrote, Copies, Keeps, Settles, Fits, IsInPlace}
use Rattle.form_laws.proofs.Onward.{clash, in_front, in_back, contained, walk_on, next_onward, caught_in}

glide : (s : Setting) (find : Bodies) (w : World) (c : Classes) (g : Frame) → Glides s find w c g 0 w c g
glide s find w c g = record { ends = λ rest script. refl; silent = λ rest script. refl }

-- the frame that a form goes on in
abbrev frame_of : Effect → Frame → Frame
frame_of (Goes w h) g = h
frame_of e g = g

move_writes : (under : Text → Text → Bool) (floats : Floats) (slot : Slot) (to from : ℕ) (w : World) (g : Frame) (k : ℕ) → k < width (form.Move slot to from) → to + k < length g.registers
    → register (frame_of (act under floats (form.Move slot to from) w g) g) (to + k) ≡ register g (from + k)
move_writes under floats slot.Word to from w g zero lt room = written_there (register g from ∷ []) to g 0 lt room ∙ ap (register g) (omega arith)
move_writes under floats slot.Object to from w g zero lt room = written_there (register g from ∷ []) to g 0 lt room ∙ ap (register g) (omega arith)
move_writes under floats slot.Word to from w g (suc k) lt room = absurd (omega (arith, lt))
move_writes under floats slot.Object to from w g (suc k) lt room = absurd (omega (arith, lt))
move_writes under floats slot.Wide to from w g zero lt room = written_there (register g from ∷ register g (from + 1) ∷ []) to g 0 lt room ∙ ap (register g) (omega arith)
move_writes under floats slot.Wide to from w g (suc zero) lt room = written_there (register g from ∷ register g (from + 1) ∷ []) to g 1 lt room
move_writes under floats slot.Wide to from w g (suc (suc k)) lt room = absurd (omega (arith, lt))

abbrev stays_in : Outcome → Frame → Frame
stays_in (Stays w h e) g = h
stays_in o g = g

move_stays : (face : Face) (need : Text → Need) (floats : Floats) (slot : Slot) (to from : ℕ) (w : World) (g : Frame) (k : ℕ) → k < width (form.Move slot to from) → to + k < length g.registers
    → register (stays_in (outcome face need (act face.under floats (form.Move slot to from) w g) w g) g) (to + k) ≡ register g (from + k)
move_stays face need floats slot.Word to from w g k lt room = move_writes face.under floats slot.Word to from w g k lt room
move_stays face need floats slot.Object to from w g k lt room = move_writes face.under floats slot.Object to from w g k lt room
move_stays face need floats slot.Wide to from w g k lt room = move_writes face.under floats slot.Wide to from w g k lt room

long_entry : (b : NamedBody) (vs : List Value) → length vs ≡ b.ins → length (entry_registers b vs) ≡ (b.registers - b.ins) + b.ins
long_entry b vs e = length-append (replicate (b.registers - b.ins) (Word 0)) vs ∙ ap₂ (λ x y. x + y) (length-replicate (b.registers - b.ins) (Word 0)) e

module _ (s : Setting) (find other : Bodies) (R : Claims) (I : State → Type 0) where
  -- nothing is asked of the runs of the second program
  abbrev pub J : State → Type 0
  J t = Unit {0}

  abbrev pub H : Frame → Frame → Type 0
  H g g' = Holds find other R g g'

  abbrev pub LandsAs : Option Frame → Option Frame → Type 0
  LandsAs None o = o ≡ None
  LandsAs (Some h) o = (h' : Frame) × ((o ≡ Some h') × H h h')

  -- frames that wait
  pub record Awaits (a : Above) (g g' : Frame) : Type 0 where
    pub holds : H g g'
    pub lands : (w : World) (v : Value) → LandsAs (lands s.face find w g v) (lands s.face other w g' v)
    pub returns : (v : Option Value) → Comes a v → H (back find g v) (back other g' v)

  abbrev pub Tops : World → Classes → Frame → Frame → Type 0
  Tops w c g g' = H g g'

  landed : (w : World) (c : Classes) (rest rest' : List Waiting) (script : List Move) (o o' : Option Frame) → LandsAs o o' → Landed s find other Tops Awaits I J w c rest rest' script o o'
  landed w c rest rest' script None o' h = h
  landed w c rest rest' script (Some x) o' h = (h.0, (h.1.0, λ i j. h.1.1))

  -- ---- frames at forms that fit

  module _ (b d : NamedBody) (f f' : Form) (g g' : Frame) (holds : H g g') (e : find g.method ≡ Some b) (e' : other g.method ≡ Some d) (x : form_at b g.position ≡ Some f) (x' : form_at d g.position ≡ Some f')
      (fits : Fits s find other R I g.method b g.position f f') (same : d.regions ≡ b.regions) (solid : ReadsFields b) where
    goes_to : (m : ℕ) → In m (onward f g.position ++ caught b f g.position) → (k : MethodKey) (n : ℕ) → k ≡ g.method → n ≡ m → (q : NamedBody) → find k ≡ Some q → IsReached q n
    goes_to m i k n j l q h =
        let z : b ≡ q = some_same b q (sym e ∙ ap find (sym j) ∙ h) in
        subst₂ IsReached z (sym l) (walk_on (successors b) 0 g.position m (holds.reached b e)
        (contained m (successors b g.position) (subst (λ o. In m (elim o as (λ o. List ℕ) [ Some f ↦ onward f g.position ++ caught b f g.position | None ↦ [] ])) (sym x) i)))

    goes_onward : (m : ℕ) → In m (onward f g.position) → (k : MethodKey) (n : ℕ) → k ≡ g.method → n ≡ m → (q : NamedBody) → find k ≡ Some q → IsReached q n
    goes_onward m i = goes_to m (in_front m (onward f g.position) (caught b f g.position) i)

    -- what a move writes
    abbrev IsMoved : List Value → Type 0
    IsMoved vs = (slot : Slot) (to from : ℕ) → f ≡ form.Move slot to from → (i : ℕ) → i < width f → slice_index_or vs i (Word 0) ≡ register g (from + i)

    sets : (vs : List Value) → continues f ≡ true → length vs ≡ width f → IsMoved vs → H (next (written vs (destination f) g)) (next (written vs (destination f') g'))
    sets vs c l moved = record {
      reached = goes_onward (g.position + 1) (next_onward f g.position c) (written vs (destination f) g).method ((written vs (destination f) g).position + 1)
          (written_method vs (destination f) g) (ap (λ n. n + 1) (written_position vs (destination f) g));
      method = written_method vs (destination f') g' ∙ holds.method ∙ sym (written_method vs (destination f) g);
      position = ap (λ n. n + 1) (written_position vs (destination f') g' ∙ holds.position ∙ sym (written_position vs (destination f) g));
      result = written_result vs (destination f') g' ∙ holds.result ∙ sym (written_result vs (destination f) g);
      caught = written_caught vs (destination f') g' ∙ holds.caught ∙ sym (written_caught vs (destination f) g);
      long = written_long vs (destination f) g ∙ holds.long ∙ ap (λ k. frame_size (find k)) (sym (written_method vs (destination f) g));
      long' = written_long vs (destination f') g' ∙ holds.long' ∙ ap (λ k. frame_size (other k)) (sym (written_method vs (destination f) g));
      registers = λ o y r. at o y (fits.onward (g.position + 1) o y (next_onward f g.position c)
          (subst₂ (λ k n. R k (n + 1) o y) (written_method vs (destination f) g) (written_position vs (destination f) g) r));
    }
      where
        old_there : (i : ℕ) → i < width f → register (written vs (destination f) g) (destination f + i) ≡ slice_index_or vs i (Word 0)
        old_there i lt = written_there vs (destination f) g i (subst (λ n. i < n) (sym l) lt) (subst (λ n. destination f + i < n) (sym holds.long) (fits.room i lt).0)

        new_there : (i : ℕ) → i < width f → register (written vs (destination f') g') (destination f' + i) ≡ slice_index_or vs i (Word 0)
        new_there i lt = written_there vs (destination f') g' i (subst (λ n. i < n) (sym l) lt) (subst (λ n. destination f' + i < n) (sym holds.long') (fits.room i lt).1)

        new_other : (y : ℕ) → ((i : ℕ) → i < width f → y ≡ destination f' + i → ⊥) → register (written vs (destination f') g') y ≡ register g' y
        new_other y h = written_other vs (destination f') g' y (λ i lt j. h i (subst (λ n. i < n) l lt) j)

        at : (o y : ℕ) → Follows R g.method g.position f f' o y → register (written vs (destination f') g') y ≡ register (written vs (destination f) g) o
        at o y (Wrote a) =
            subst₂ (λ u v. register (written vs (destination f') g') v ≡ register (written vs (destination f) g) u) (sym a.old) (sym a.new) (new_there a.place a.below ∙ sym (old_there a.place a.below))
        at o y (Copies a) =
            new_other y a.new ∙ holds.registers (a.from + a.place) y a.claim ∙ sym (moved a.slot a.to a.from a.is a.place a.below) ∙ sym (old_there a.place a.below)
            ∙ ap (λ u. register (written vs (destination f) g) u) (sym a.old)
        at o y (Keeps a r) = new_other y a.new ∙ holds.registers o y r ∙ sym (written_other vs (destination f) g o (λ i lt j. a.old i (subst (λ n. i < n) l lt) j))

    -- a form that waits is no move
    no_move : (vs : List Value) → may_throw f ≡ true → IsMoved vs
    no_move vs m slot to from i j lt = clash (may_throw f) m (ap may_throw i)

    no_width : (vs : List Value) → width f ≡ 0 → IsMoved vs
    no_width vs z slot to from i j lt = let h : j < 0 = subst (λ n. j < n) z lt in absurd (omega (arith, h))

    -- where nothing is written
    kept : (m : ℕ) → In m (onward f g.position) → width f ≡ 0 → (o y : ℕ) → R g.method m o y → register g' y ≡ register g o
    kept m i z o y r = at (fits.onward m o y i r)
      where
        at : Follows R g.method g.position f f' o y → register g' y ≡ register g o
        at (Wrote a) = let lt : a.place < 0 = subst (λ n. a.place < n) z a.below in absurd (omega (arith, lt))
        at (Copies a) = let lt : a.place < 0 = subst (λ n. a.place < n) z a.below in absurd (omega (arith, lt))
        at (Keeps a r) = holds.registers o y r

    jumps : (m : ℕ) → In m (targets f) → width f ≡ 0 → H (go g m) (go g' m)
    jumps m i z = record {
      reached = goes_onward m (in_back m (next_position (continues f) g.position) (targets f) i) g.method m refl refl;
      method = holds.method;
      position = refl;
      result = holds.result;
      caught = holds.caught;
      long = holds.long;
      long' = holds.long';
      registers = kept m (in_back m (next_position (continues f) g.position) (targets f) i) z;
    }

    results : (v : Value) → continues f ≡ true → width f ≡ 0 → H (next (record g { result = v })) (next (record g' { result = v }))
    results v c z = record {
      reached = goes_onward (g.position + 1) (next_onward f g.position c) g.method (g.position + 1) refl refl;
      method = holds.method;
      position = ap (λ n. n + 1) holds.position;
      result = refl;
      caught = holds.caught;
      long = holds.long;
      long' = holds.long';
      registers = kept (g.position + 1) (next_onward f g.position c) z;
    }

    goes_on : continues f ≡ true → width f ≡ 0 → H (next g) (next g')
    goes_on c z = sets [] c (sym z) (no_width [] z)

    abbrev MovedBy : Change → Type 0
    MovedBy (Sets vs) = IsMoved vs
    MovedBy (Jumps n) = Unit {0}
    MovedBy (Results v) = Unit {0}

    changes : (m : Change) → Possible f m → MovedBy m → H (changed m (destination f) g) (changed (aimed (λ n. n) m) (destination f') g')
    changes (Sets vs) p moved = sets vs p.0 p.1 moved
    changes (Jumps m) p moved = jumps m p.0 p.1
    changes (Results v) p moved = results v p.0 p.1

    itemed : (i : Item) (v : Value) → Waits f → width f ≡ width_if (is_wide_item i) → H (next (write_item i g (destination f) v)) (next (write_item i g' (destination f') v))
    itemed item.Wide v ws z = sets (Low (word_of v) ∷ High (word_of v) ∷ []) ws.continues (sym z) (no_move (Low (word_of v) ∷ High (word_of v) ∷ []) ws.throws)
    itemed item.Plain v ws z = sets (v ∷ []) ws.continues (sym z) (no_move (v ∷ []) ws.throws)
    itemed item.Object v ws z = sets (v ∷ []) ws.continues (sym z) (no_move (v ∷ []) ws.throws)
    itemed item.Boolean v ws z = sets (v ∷ []) ws.continues (sym z) (no_move (v ∷ []) ws.throws)
    itemed item.Byte v ws z = sets (v ∷ []) ws.continues (sym z) (no_move (v ∷ []) ws.throws)
    itemed item.Char v ws z = sets (v ∷ []) ws.continues (sym z) (no_move (v ∷ []) ws.throws)
    itemed item.Short v ws z = sets (v ∷ []) ws.continues (sym z) (no_move (v ∷ []) ws.throws)

    -- ---- thrown objects

    other_method : other g'.method ≡ Some d
    other_method = ap other holds.method ∙ e'

    caught_here : (w : World) (v : Value) → may_throw f ≡ true → (n : ℕ) → handler_at (s.face.under (kind_of w v)) g.position b ≡ Some n → In n (caught b f g.position)
    caught_here w v m n i = subst (λ z. In n (elim z as (λ z. List ℕ) [ true ↦ handlers_at b g.position | false ↦ [] ])) (sym m) (caught_in (s.face.under (kind_of w v)) g.position n b i)

    handlers : (w : World) (v : Value) → may_throw f ≡ true → (o : Option ℕ) → handler_at (s.face.under (kind_of w v)) g.position b ≡ o
        → LandsAs (option_map (λ at. record (go g at) { caught = v }) o) (option_map (λ at. record (go g' at) { caught = v }) o)
    handlers w v m None i = refl
    handlers w v m (Some n) i = (
      record (go g' n) { caught = v },
      (
        refl,
        record {
          reached = goes_to n (in_back n (onward f g.position) (caught b f g.position) (caught_here w v m n i)) g.method n refl refl;
          method = holds.method;
          position = refl;
          result = holds.result;
          caught = refl;
          long = holds.long;
          long' = holds.long';
          registers = λ o y r. holds.registers o y (fits.caught n o y (caught_here w v m n i) r);
        },
      ),
    )

    catches : may_throw f ≡ true → (w : World) (v : Value) → LandsAs (lands s.face find w g v) (lands s.face other w g' v)
    catches m w v =
        let above = s.face.under (kind_of w v) in
        let first : lands s.face find w g v ≡ option_map (λ at. record (go g at) { caught = v }) (handler_at above g.position b) =
        ap (λ o. option_map (λ at. record (go g at) { caught = v }) (option_and_then (handler_at above g.position) o)) e in
        let second : lands s.face other w g' v ≡ option_map (λ at. record (go g' at) { caught = v }) (handler_at above g.position b) =
        ap₂ (λ n o. option_map (λ at. record (go g' at) { caught = v }) (option_and_then (handler_at above n) o)) holds.position other_method
        ∙ ap (λ rs. option_map (λ at. record (go g' at) { caught = v }) (handler_at above g.position (record d { regions = rs }))) same in
        subst₂ (λ o p. LandsAs o p) (sym first) (sym second) (handlers w v m (handler_at above g.position b) refl)

    -- ---- what waits

    form_there : form_of find g ≡ Some f
    form_there = ap (λ o. option_and_then (λ b. slice_get b.forms g.position) o) e ∙ x

    other_there : form_of other g' ≡ Some f'
    other_there = ap₂ (λ n o. option_and_then (λ b. slice_get b.forms n) o) holds.position other_method ∙ x'

    awaits_class : may_throw f ≡ true → Awaits Begins g g'
    awaits_class m = record { holds = holds; lands = catches m; returns = λ v cs. absurd cs }

    awaits_call : (a : Above) → Waits f → width f ≡ 0 → TakesResult f → TakesResult f' → Awaits a g g'
    awaits_call a ws z t t' = record { holds = holds; lands = catches ws.throws; returns = λ v cs. backs v }
      where
        backs : (v : Option Value) → H (back find g v) (back other g' v)
        backs None = results (Word 0) ws.continues z
        backs (Some v) = subst₂ H (sym (ap (λ o. receives o g v) form_there ∙ t g v)) (sym (ap (λ o. receives o g' v) other_there ∙ t' g' v)) (results v ws.continues z)

    awaits_item : (i : Item) (kind : Text) → is_void kind ≡ false → Waits f → width f ≡ width_if (is_wide_item i) → TakesItem i f → TakesItem i f' → Awaits (Asks kind) g g'
    awaits_item i kind void ws z t t' = record { holds = holds; lands = catches ws.throws; returns = backs }
      where
        backs : (v : Option Value) → Comes (Asks kind) v → H (back find g v) (back other g' v)
        backs None cs = clash (is_void kind) cs void
        backs (Some v) cs = subst₂ H (sym (ap (λ o. receives o g v) form_there ∙ t g v)) (sym (ap (λ o. receives o g' v) other_there ∙ t' g' v)) (itemed i v ws z)

    module _ (w : World) (c : Classes) where
      abbrev L : Outcome → Outcome → Type 0
      L o o' = Leads s find other Tops Awaits I J w c g o g' o'

      raises : may_throw f ≡ true → (w1 : World) (v : Value) → L (Raises w1 v) (Raises w1 v)
      raises m w1 v = (refl, λ rest rest' script. landed w1 c rest rest' script (lands s.face find w1 g v) (lands s.face other w1 g' v) (catches m w1 v))

      ready : may_throw f ≡ true → (n : Need) (t : Text) (o o' : Outcome) → L o o' → L (when_ready n w t o) (when_ready n w t o')
      ready m Ready t o o' h = h
      ready m Fresh t o o' h = (refl, awaits_class m)
      ready m Broken t o o' h = raises m (with_thing w (fresh no_class)) (next_object w)

      -- ---- calls

      module _ (ws : Waits f) (z : width f ≡ 0) (t : TakesResult f) (t' : TakesResult f') where
        uncoded : (kind : InvokeKind) (q : Found) (vs : List Value) → L (calls_uncoded kind q vs w) (calls_uncoded kind q vs w)
        uncoded kind q vs = by (is_native q.flags)
          where
            by : (b : Bool) → L (elim b as (λ b. Outcome) [ true ↦ calls_out (native_kind kind) (takes_no_receiver kind) q.key vs w | false ↦ faults w abstract_method ])
                (elim b as (λ b. Outcome) [ true ↦ calls_out (native_kind kind) (takes_no_receiver kind) q.key vs w | false ↦ faults w abstract_method ])
            by true = (refl, awaits_call (Asks q.key.signature.result) ws z t t')
            by false = raises ws.throws (with_thing w (fresh abstract_method)) (next_object w)

        called : (kind : InvokeKind) (q : Found) (vs : List Value) → L (calls_found kind q vs w) (calls_found kind q vs w)
        called kind q vs = by q.coded
          where
            by : (b : Bool) → L (elim b as (λ b. Outcome) [ true ↦ Enters q.key vs | false ↦ calls_uncoded kind q vs w ]) (elim b as (λ b. Outcome) [ true ↦ Enters q.key vs | false ↦ calls_uncoded kind q vs w ])
            by true = (refl, awaits_call Called ws z t t')
            by false = uncoded kind q vs

        called_ready : (need : Text → Need) (kind : InvokeKind) (q : Found) (vs : List Value) → L (calls_ready need kind q vs w) (calls_ready need kind q vs w)
        called_ready need kind q vs = by (is_static q.flags)
          where
            by : (b : Bool) → L (elim b as (λ b. Outcome) [ true ↦ when_ready (need q.key.class) w q.key.class (calls_found kind q vs w) | false ↦ calls_found kind q vs w ])
                (elim b as (λ b. Outcome) [ true ↦ when_ready (need q.key.class) w q.key.class (calls_found kind q vs w) | false ↦ calls_found kind q vs w ])
            by true = ready ws.throws (need q.key.class) q.key.class (calls_found kind q vs w) (calls_found kind q vs w) (called kind q vs)
            by false = called kind q vs

        unfound : (kind : InvokeKind) (k : MethodKey) (vs : List Value) → L (calls_unfound kind k vs w g) (calls_unfound kind k vs w g')
        unfound kind k vs = by (is_direct kind && method_eq k object_constructor)
          where
            by : (b : Bool) → L (elim b as (λ b. Outcome) [ true ↦ Stays w (next (record g { result = Word 0 })) None | false ↦ calls_out kind (takes_no_receiver kind) k vs w ]) (elim b as (λ b. Outcome) [ true ↦ Stays w (next (record g' { result = Word 0 })) None | false ↦ calls_out kind (takes_no_receiver kind) k vs w ])
            by true = (next (record g' { result = Word 0 }), (refl, results (Word 0) ws.continues z))
            by false = (refl, awaits_call (Asks k.signature.result) ws z t t')

        called_by : (need : Text → Need) (kind : InvokeKind) (k : MethodKey) (vs : List Value) (q : Search) → L (calls_by need kind k vs w g q) (calls_by need kind k vs w g' q)
        called_by need kind k vs Nothing = unfound kind k vs
        called_by need kind k vs Clash = raises ws.throws (with_thing w (fresh class_change)) (next_object w)
        called_by need kind k vs (Finds q) = called_ready need kind q vs

        on_it : (vs : List Value) (o o' : Outcome) → L o o' → L (on_receiver vs w o) (on_receiver vs w o')
        on_it vs o o' h = by (is_null (receiver vs))
          where
            by : (b : Bool) → L (elim b as (λ b. Outcome) [ true ↦ faults w null_pointer | false ↦ o ]) (elim b as (λ b. Outcome) [ true ↦ faults w null_pointer | false ↦ o' ])
            by true = raises ws.throws (with_thing w (fresh null_pointer)) (next_object w)
            by false = h

        calls_alike : (need : Text → Need) (kind : InvokeKind) (k : MethodKey) (vs : List Value) → L (calls s.face need kind k vs w g) (calls s.face need kind k vs w g')
        calls_alike need call.Static k vs = called_by need call.Static k vs (s.face.statically k)
        calls_alike need call.Direct k vs = on_it vs _ _ (called_by need call.Direct k vs (s.face.statically k))
        calls_alike need call.Super k vs = subst (λ m. L (calls s.face need call.Super k vs w g) (on_receiver vs w (calls_by need call.Super k vs w g' (s.face.above m.class k)))) (sym holds.method)
            (on_it vs _ _ (called_by need call.Super k vs (s.face.above g.method.class k)))
        calls_alike need call.Virtual k vs = on_it vs _ _ (called_by need call.Virtual k vs (s.face.virtually (kind_of w (receiver vs)) k))
        calls_alike need call.Interface k vs = on_it vs _ _ (called_by need call.Interface k vs (s.face.virtually (kind_of w (receiver vs)) k))

      -- ---- objects

      makes_alike : (need : Text → Need) (t : Text) → Waits f → width f ≡ 1 → L (makes s.face need (destination f) t w g) (makes s.face need (destination f') t w g')
      makes_alike need t ws z = by (is_defined s.face t)
        where
          stays : (w1 : World) (e : Option Event) → L (Stays w1 (next (write g (destination f) (next_object w))) e) (Stays w1 (next (write g' (destination f') (next_object w))) e)
          stays w1 e = (next (write g' (destination f') (next_object w)), (refl, sets (next_object w ∷ []) ws.continues (sym z) (no_move (next_object w ∷ []) ws.throws)))

          by : (b : Bool) → L (elim b as (λ b. Outcome) [
            | true ↦ when_ready (need t) w t (Stays (with_thing w (fresh t)) (next (write g (destination f) (next_object w))) None)
            | false ↦ Stays (show (with_thing w (fresh t)) t (next_object w)).0 (next (write g (destination f) (next_object w))) (Some (event.Make (show (with_thing w (fresh t)) t (next_object w)).1))
          ])
              (elim b as (λ b. Outcome) [
                | true ↦ when_ready (need t) w t (Stays (with_thing w (fresh t)) (next (write g' (destination f') (next_object w))) None)
                | false ↦ Stays (show (with_thing w (fresh t)) t (next_object w)).0 (next (write g' (destination f') (next_object w))) (Some (event.Make (show (with_thing w (fresh t)) t (next_object w)).1))
              ])
          by true = ready ws.throws (need t) t _ _ (stays (with_thing w (fresh t)) None)
          by false = stays (show (with_thing w (fresh t)) t (next_object w)).0 (Some (event.Make (show (with_thing w (fresh t)) t (next_object w)).1))

      -- ---- fields

      module _ (need : Text → Need) (i : Item) (q : FieldKey) (void : is_void q.kind ≡ false) (ws : Waits f) (z : width f ≡ width_if (is_wide_item i)) (t : TakesItem i f) (t' : TakesItem i f') where
        valued : (v : Option Value) → L (reads_value i (destination f) v w g) (reads_value i (destination f') v w g')
        valued (Some v) = (next (write_item i g' (destination f') v), (refl, itemed i v ws z))
        valued None = refl

        fields_alike : (on : Option Value) → L (reads s.face need i (destination f) q on w g) (reads s.face need i (destination f') q on w g')
        fields_alike None = by (s.face.field q)
          where
            by : (o : Option Place) → L (reads_static need i (destination f) q w g o) (reads_static need i (destination f') q w g' o)
            by (Some place) = ready ws.throws (need place.class) place.class _ _ (valued (Some (static_value w q place)))
            by None = (refl, awaits_item i q.kind void ws z t t')
        fields_alike (Some on) = by (s.face.field q)
          where
            by : (o : Option Place) → L (reads_instance i (destination f) q on w g o) (reads_instance i (destination f') q on w g' o)
            by (Some place) = valued (instance_value q place (thing_at w on))
            by None = (refl, awaits_item i q.kind void ws z t t')

      puts_alike : (need : Text → Need) (q : FieldKey) (on : Option Value) (v : Value) → Waits f → width f ≡ 0 → L (writes s.face need q on v w g) (writes s.face need q on v w g')
      puts_alike need q on v ws z = at on
        where
          stays : (w1 : World) (e : Option Event) → L (Stays w1 (next g) e) (Stays w1 (next g') e)
          stays w1 e = (next g', (refl, goes_on ws.continues z))

          maybe : (o : Option World) → L (put_back o g) (put_back o g')
          maybe (Some w1) = stays w1 None
          maybe None = refl

          static : (o : Option Place) → L (writes_static need q v w g o) (writes_static need q v w g' o)
          static (Some place) = ready ws.throws (need place.class) place.class _ _ (stays (with_static w (key_at q place) v) None)
          static None = stays _ _

          instance : (on : Value) (o : Option Place) → L (writes_instance q on v w g o) (writes_instance q on v w g' o)
          instance on (Some place) = maybe (with_instance w (key_at q place) on v (thing_at w on))
          instance on None = stays _ _

          at : (on : Option Value) → L (writes s.face need q on v w g) (writes s.face need q on v w g')
          at None = static (s.face.field q)
          at (Some on) = instance on (s.face.field q)

      -- ---- what a move writes

      moved_by : (w1 : World) (g1 : Frame) → act s.face.under s.floats f w g ≡ Goes w1 g1 → (m : Change) → g1 ≡ changed m (destination f) g → Possible f m → MovedBy m
      moved_by w1 g1 is (Jumps n) i p = tt
      moved_by w1 g1 is (Results v) i p = tt
      moved_by w1 g1 is (Sets vs) i p = λ slot to from j k lt.
          let room : destination f + k < length g.registers = subst (λ n. destination f + k < n) (sym holds.long) (fits.room k lt).0 in
          let l : k < length vs = subst (λ n. k < n) (sym p.1) lt in
          sym (written_there vs (destination f) g k l room)
          ∙ ap (λ h. register h (destination f + k)) (sym i)
          ∙ ap (λ e. register (frame_of e g) (destination f + k)) (sym is)
          ∙ subst (λ q. k < width q → destination q + k < length g.registers → register (frame_of (act s.face.under s.floats q w g) g) (destination q + k) ≡ register g (from + k)) (sym j)
          (move_writes s.face.under s.floats slot to from w g k) lt room

      -- ---- what settles

      settles : Settles s f f' w c g g' → L (outcome s.face (need_of s.face c) (act s.face.under s.floats f w g) w g) (outcome s.face (need_of s.face c) (act s.face.under s.floats f' w g') w g')
      settles a = subst₂ (λ o p. L o (outcome s.face (need_of s.face c) p w g')) (sym a.first) (sym a.second) (changed a.change (destination f') g', (refl, same_aim a.change (changes a.change a.possible (moved_of a.change a.first a.possible))))
        where
          same_aim : (m : Change) → H (changed m (destination f) g) (changed (aimed (λ n. n) m) (destination f') g') → H (changed m (destination f) g) (changed m (destination f') g')
          same_aim (Sets vs) h = h
          same_aim (Jumps n) h = h
          same_aim (Results v) h = h

          moved_of : (m : Change) → outcome s.face (need_of s.face c) (act s.face.under s.floats f w g) w g ≡ Stays w (changed m (destination f) g) None → Possible f m → MovedBy m
          moved_of (Jumps n) is p = tt
          moved_of (Results v) is p = tt
          moved_of (Sets vs) is p = λ slot to from j k lt.
              let room : destination f + k < length g.registers = subst (λ n. destination f + k < n) (sym holds.long) (fits.room k lt).0 in
              let l : k < length vs = subst (λ n. k < n) (sym p.1) lt in
              sym (written_there vs (destination f) g k l room)
              ∙ ap (λ e. register (stays_in e g) (destination f + k)) (sym is)
              ∙ subst (λ q. k < width q → destination q + k < length g.registers → register (stays_in (outcome s.face (need_of s.face c) (act s.face.under s.floats q w g) w g) g) (destination q + k) ≡ register g (from + k)) (sym j)
              (move_stays s.face (need_of s.face c) s.floats slot to from w g k) lt room

      -- ---- an effect

      leads : (need : Text → Need) (e e' : Effect) → act s.face.under s.floats f w g ≡ e → Alike (λ m. m) f f' g g' e e' → L (outcome s.face need e w g) (outcome s.face need e' w g')
      leads need (Goes w1 g1) e' is h = subst₂ (λ o p. L (Stays w1 o None) (outcome s.face need p w g')) (sym h.first) (sym h.second) (changed (aimed (λ n. n) h.change) (destination f') g', (refl, changes h.change h.possible (moved_by w1 g1 is h.change h.first h.possible)))
      leads need (Faults t) e' is h = subst (λ p. L (faults w t) (outcome s.face need p w g')) (sym h.0) (raises h.1 (with_thing w (fresh t)) (next_object w))
      leads need (Throws v) e' is h = subst (λ p. L (Raises w v) (outcome s.face need p w g')) (sym h.0) (raises h.1 w v)
      leads need (Gives v) e' is h = subst (λ p. L (Ends v) (outcome s.face need p w g')) (sym h) (refl, ap (λ k. k.signature.result) holds.method)
      leads need (Calls kind k vs) e' is h = subst (λ p. L (calls s.face need kind k vs w g) (outcome s.face need p w g')) (sym h.0) (calls_alike h.1.0 h.1.1.0 h.1.1.1.0 h.1.1.1.1 need kind k vs)
      leads need (Makes to t) e' is h = subst₂ (λ o p. L (makes s.face need o t w g) (outcome s.face need p w g')) (sym h.0) (sym h.1.0) (makes_alike need t h.1.1.0 h.1.1.1)
      leads need (Reads i to q on) e' is h = subst₂ (λ o p. L (reads s.face need i o q on w g) (outcome s.face need p w g')) (sym h.0) (sym h.1.0)
          (fields_alike need i q (solid g.position f q x h.1.1.1.1.0) h.1.1.0 h.1.1.1.0 h.1.1.1.1.1.0 h.1.1.1.1.1.1 on)
      leads need (Writes q on v) e' is h = subst (λ p. L (writes s.face need q on v w g) (outcome s.face need p w g')) (sym h.0) (puts_alike need q on v h.1.0 h.1.1)
      leads need (Locks v) e' is h = subst (λ p. L (locks w v g) (outcome s.face need p w g')) (sym h.0) (next g', (refl, goes_on h.1.0.continues h.1.1))
      leads need (Unlocks v) e' is h = subst (λ p. L (unlocks w v g) (outcome s.face need p w g')) (sym h.0) (next g', (refl, goes_on h.1.0.continues h.1.1))
      leads need Stuck e' is h = subst (λ p. L Halts (outcome s.face need p w g')) (sym h) refl

  -- ---- the law of rewriting in place

  module _ (place : IsInPlace s find other R I) where
    both_halt : (w : World) (c : Classes) (g g' : Frame) → form_of find g ≡ None → form_of other g' ≡ None → Leads s find other Tops Awaits I J w c g (now s find w c g) g' (now s other w c g')
    both_halt w c g g' e e' =
        let need = need_of s.face c in
        subst₂ (λ o p. Leads s find other Tops Awaits I J w c g (outcome s.face need (effect_of s o w g) w g) g' (outcome s.face need (effect_of s p w g') w g')) (sym e) (sym e') refl

    pub once : (w : World) (c : Classes) (g g' : Frame) (rest rest' : List Waiting) (script : List Move) → H g g' → I (On w c (Method g ∷ rest) script) → J (On w c (Method g' ∷ rest') script)
        → Leads s find other Tops Awaits I J w c g (now s find w c g) g' (now s other w c g')
    once w c g g' rest rest' script h i j = at (find g.method) refl
      where
        Goal : Type 0
        Goal = Leads s find other Tops Awaits I J w c g (now s find w c g) g' (now s other w c g')

        at_form : (b d : NamedBody) → find g.method ≡ Some b → other g.method ≡ Some d → (x : Option Form) → form_at b g.position ≡ x → Leads s find other Tops Awaits I J w c g (now s find w c g) g' (now s other w c g')
        at_form b d e e' None x = both_halt w c g g' (ap (λ o. option_and_then (λ b. slice_get b.forms g.position) o) e ∙ x)
            (ap₂ (λ n o. option_and_then (λ b. slice_get b.forms n) o) h.position (ap other h.method ∙ e') ∙ place.ends g.method b d g.position e e' x)
        at_form b d e e' (Some f) x =
            let r = place.forms g.method b d g.position f e e' (h.reached b e) x in
            let same = place.regions g.method b d e e' in
            let solid = place.fields g.method b e in
            let need = need_of s.face c in
            let l : Leads s find other Tops Awaits I J w c g (outcome s.face need (act s.face.under s.floats f w g) w g) g' (outcome s.face need (act s.face.under s.floats r.0 w g') w g') =
            elim (r.1.1.alike w c g g' rest script h refl refl i) [
              | inl a ↦ leads b d f r.0 g g' h e e' x r.1.0 r.1.1 same solid w c need (act s.face.under s.floats f w g) (act s.face.under s.floats r.0 w g') refl a
              | inr a ↦ settles b d f r.0 g g' h e e' x r.1.0 r.1.1 same solid w c a
            ] in
            subst₂ (λ o p. Leads s find other Tops Awaits I J w c g (outcome s.face need (effect_of s o w g) w g) g' (outcome s.face need (effect_of s p w g') w g'))
            (sym (form_there b d f r.0 g g' h e e' x r.1.0 r.1.1 same solid)) (sym (other_there b d f r.0 g g' h e e' x r.1.0 r.1.1 same solid)) l

        at : (o : Option NamedBody) → find g.method ≡ o → Leads s find other Tops Awaits I J w c g (now s find w c g) g' (now s other w c g')
        at None e = both_halt w c g g' (ap (λ o. option_and_then (λ b. slice_get b.forms g.position) o) e)
            (ap (λ o. option_and_then (λ b. slice_get b.forms g'.position) o) (ap other h.method ∙ place.none g.method e))
        at (Some b) e = let r = place.some g.method b e in at_form b r.0 e r.1 (form_at b g.position) refl

    entered : (w : World) (c : Classes) (rest rest' : List Waiting) (script : List Move) (k : MethodKey) (vs : List Value) (o : Option NamedBody) → find k ≡ o
        → Entered s find other Tops Awaits I J w c rest rest' script k vs o (other k)
    entered w c rest rest' script k vs None e = place.none k e
    entered w c rest rest' script k vs (Some b) e = let r = place.some k b e in (
      r.0,
      (
        r.1,
        (
          place.ins k b r.0 e r.1,
          λ l i j. record {
            reached = λ q h. Walk.Stays 0;
            method = refl;
            position = refl;
            result = refl;
            caught = refl;
            long = long_entry b vs l ∙ sym (ap frame_size e);
            long' = long_entry r.0 vs (l ∙ sym (place.ins k b r.0 e r.1)) ∙ sym (ap frame_size r.1);
            registers = λ o x h. place.entry k b r.0 vs o x e r.1 l h;
          },
        ),
      ),
    )

    pub follow : FramesFollow s find other Tops Awaits I J
    follow = record {
      steps = λ w c g g' rest rest' script h i j. Meet 0 0 w c g g' (glide s find w c g) (glide s other w c g') (once w c g g' rest rest' script h i j);
      entries = λ w c rest rest' script k vs. entered w c rest rest' script k vs (find k) refl;
      returns = λ w c g g' rest rest' script a v cs h i j. h.returns v cs;
      retries = λ w c g g' rest rest' script h i j. h.holds;
      throws = λ w c g g' rest rest' script a v h. landed w c rest rest' script (lands s.face find w g v) (lands s.face other w g' v) (h.lands w v);
      keeps = place.keeps;
      keeps_other = λ t j. tt;
    }
