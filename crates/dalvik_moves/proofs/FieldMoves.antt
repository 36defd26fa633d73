-- What the framework reads and writes in fields, by numbers and by names.
use Rattle.std.proofs.Common.{◌≡◌, ℕ, Bool, true, false, true≢false, List, [], ◌∷◌, ◌++◌, length, map, arith, ap, refl, sym, subst, ◌∙◌}
use Rattle.std.specs.Prelude.{◌&&◌, Option, Some, None, slice_get}
use Rattle.std.specs.Option.{option_map}
use Rattle.program_model.specs.declared.pass.Outside.{Outside}
use Rattle.program_model.specs.declared.program.Field.{Field}
use Rattle.dalvik_defs.specs.ActArray.{zeros}
use Rattle.dalvik_defs.specs.Face.{Place}
use Rattle.dalvik_defs.specs.Fields.{instance_value, key_at, with_instance, with_static}
use Rattle.dalvik_defs.specs.Gives.{fits, gets, may_give}
use Rattle.dalvik_defs.specs.Happens.{Setting}
use Rattle.dalvik_defs.specs.Items.{item_of_type, stored}
use Rattle.dalvik_defs.specs.Legal.{on_fits}
use Rattle.dalvik_defs.specs.Names.{Text, is_wide}
use Rattle.dalvik_defs.specs.Moves.{field_value, goes, got, reads, shows_value, with_field, writes}
use Rattle.dalvik_defs.specs.Outer.{outer_of}
use Rattle.dalvik_defs.specs.State.{Classes, Ended, Next, On, Thing, World, fresh, quiet, thing_at, zero_of}
use Rattle.dalvik_defs.specs.declared.names.FieldKey.{FieldKey}
use Rattle.dalvik_defs.specs.declared.events.Event.{Event}
use Rattle.dalvik_defs.specs.declared.script.Given.{Given}
use Rattle.dalvik_defs.specs.declared.script.Move.{Move}
use Rattle.dalvik_defs.specs.declared.state.Value.{Value}
use Rattle.dalvik_defs.specs.declared.state.Value.TheVariants as value
use Rattle.dalvik_defs.specs.declared.state.Waiting.{Waiting}
use Rattle.dalvik_lookups.specs.Facing.{run_face}
use Rattle.dalvik_lookups.specs.Playing.{given_of, AreBoth, IsGift}
use Rattle.dalvik_lookups.specs.Views.{type_text}
use Rattle.dalvik_lookups.specs.Walks.{IsKept}
use Rattle.dalvik_lookups.specs.declared.lookups.Lookups.{Lookups}
use Rattle.dalvik_lookups.specs.declared.memo.Memo.{Memo}
use Rattle.dalvik_lookups.specs.declared.plays.FieldAt.{FieldAt}
use Rattle.dalvik_lookups.specs.declared.plays.Gift.{Gift}
use Rattle.dalvik_lookups.specs.declared.plays.Gift.TheVariants as gift
use Rattle.dalvik_lookups.specs.declared.texts.Texts.{Texts}
use Rattle.dalvik_lookups.specs.declared.types.Kind.{Kind}
use Rattle.dalvik_lookups.specs.declared.types.Types.{Types}
use Rattle.dalvik_state.specs.declared.datum.Datum.{Datum}
use Rattle.dalvik_state.specs.declared.gifts.Gifts.{Gifts}
use Rattle.dalvik_state.specs.declared.gifts.Taken.{Taken}
use Rattle.dalvik_state.specs.declared.state.State.{State}
use Rattle.dalvik_state.specs.declared.world.World.{World as OwnWorld}
use Rattle.dalvik_state.specs.Drafts.{gift_spots, given_world}
use Rattle.dalvik_state.specs.Frames.{zero_in}
use Rattle.dalvik_state.specs.Giving.{AreGiven, IsGiven, TakesMaybe}
use Rattle.dalvik_state.specs.Runs.{classes_in, IsEvent, IsNext}
use Rattle.dalvik_state.specs.States.{IsSound}
use Rattle.dalvik_state.specs.Views.{Names, names_in, value_of, world_of, IsFine}
use Rattle.dalvik_state.specs.Worlds.{spot_of, spots_of}
use Rattle.dalvik_state.proofs.Fine.{fine_more, fine_zero}
use Rattle.dalvik_steps.specs.Entries.{AreGivenFine}
use Rattle.dalvik_steps.specs.Reaching.{FineMaybe, IsPut, Rewrites}
use Rattle.dalvik_moves.specs.Moving.{freed_in, IsDone, IsKeptField, IsMoving}
use Rattle.dalvik_moves.specs.Touching.{is_new, IsGot}
use Rattle.dalvik_moves.proofs.KeptFields.{key_kept}
use Rattle.dalvik_moves.proofs.Moved.{event_as, over_event, world_done}
use Rattle.dalvik_moves.proofs.Taken.{none_given, nothing_given}
use Rattle.dalvik_moves.proofs.Touched.{gifts_more}

-- ---- what is taken

abbrev beside : World → Option Value → World × Option Value
beside w v = (w, v)

module _ (l : Lookups) (o : Outside) (w : OwnWorld) (old new : Gifts) (s : IsSound l w) (none : old.things.items ≡ []) where
  pub got_taken : (g : Option Given) (t : Option Taken) → TakesMaybe l o w old new g t → IsGot l o w g new t
  got_taken None None h = record {
    got = ap (λ (v : World). beside v None) (sym (ap (given_world (names_in l) w) h ∙ nothing_given l w old none));
    on = tt;
    given = subst (IsGiven l w) (sym h) (none_given l w old s none);
  }
  got_taken None (Some t) h = absurd h
  got_taken (Some g) None h = absurd h
  got_taken (Some g) (Some t) h = record {
    got = ap (λ (p : World × Value). beside p.0 (Some p.1)) (ap (λ (v : World). gets v g) (sym (nothing_given l w old none)) ∙ h.got);
    on = record {
      allowed = h.allowed ∙ ap (λ (v : World). may_give (run_face l) (outer_of l.program.now o) v g) (nothing_given l w old none);
      fine = h.fine;
    };
    given = h.given;
  }

-- ---- what a field of a new object holds

last_there : (ts : List Thing) (t : Thing) → slice_get (ts ++ t ∷ []) (length ts) ≡ Some t
last_there [] t = refl
last_there (x ∷ xs) t = last_there xs t

past_there : (ts : List Thing) → slice_get ts (length ts) ≡ None
past_there [] = refl
past_there (x ∷ xs) = past_there xs

module _ (w : World) (k : FieldKey) (place : Place) (types : Types) (texts : Texts) where
  abbrev held : World × Option Value → Option Value
  held p = field_value p.0 k place p.1

  abbrev HeldOther : Given → Type 0
  HeldOther g = held (got w (Some g)) ≡ field_value w k place (got w (Some g)).1

  held_gift : (on : Gift) → is_new (Some on) ≡ false → HeldOther (given_of types texts on)
  held_gift gift.Null e = refl
  held_gift (gift.Word x) e = refl
  held_gift (gift.Wide x) e = refl
  held_gift (gift.Exposed i) e = refl
  held_gift (gift.New c) e = absurd (true≢false e)
  held_gift (gift.Array c size) e = ap (instance_value k place) (last_there w.heap (zeros (type_text types c) size)) ∙ sym (ap (instance_value k place) (past_there w.heap))
  held_gift (gift.Literal x) e = refl
  held_gift (gift.Class x) e = refl

  -- no object is given, or an array, which has no fields
  pub held_other : (g : Option Given) (on : Option Gift) → AreBoth (IsGift types texts) g on → is_new on ≡ false → held (got w g) ≡ field_value w k place (got w g).1
  held_other None None h e = refl
  held_other None (Some on) h e = absurd h
  held_other (Some g) None h e = absurd h
  held_other (Some g) (Some on) h e = subst HeldOther h.is (held_gift on e)

  abbrev HeldNew : Given → Type 0
  HeldNew g = held (got w (Some g)) ≡ Some (zero_of k.kind)

  new_gift : (on : Gift) → is_new (Some on) ≡ true → HeldNew (given_of types texts on)
  new_gift (gift.New c) e = ap (instance_value k place) (last_there w.heap (fresh (type_text types c)))
  new_gift gift.Null e = absurd (true≢false (sym e))
  new_gift (gift.Word x) e = absurd (true≢false (sym e))
  new_gift (gift.Wide x) e = absurd (true≢false (sym e))
  new_gift (gift.Exposed i) e = absurd (true≢false (sym e))
  new_gift (gift.Array c size) e = absurd (true≢false (sym e))
  new_gift (gift.Literal x) e = absurd (true≢false (sym e))
  new_gift (gift.Class x) e = absurd (true≢false (sym e))

  -- a new object of a class has nothing written in it
  pub held_new : (g : Option Given) (on : Option Gift) → AreBoth (IsGift types texts) g on → is_new on ≡ true → held (got w g) ≡ Some (zero_of k.kind)
  held_new g None h e = absurd (true≢false (sym e))
  held_new None (Some on) h e = absurd h
  held_new (Some g) (Some on) h e = subst HeldNew h.is (new_gift on e)

zero_named : (n : Names) (wide : Bool) → value_of n (zero_in wide) ≡ elim wide as (λ b. Value) [ true ↦ value.Low 0 | false ↦ value.Word 0 ]
zero_named n true = refl
zero_named n false = refl

module _ (l : Lookups) (o : Outside) (w : OwnWorld) (k : FieldKey) (place : Place) (g : Option Given) (on : Option Gift) (all : Gifts) (t : Option Taken) (h : IsGot l o w g all t) (are : AreBoth (IsGift l.types l.texts) g on) where
  abbrev n : Names
  n = names_in l

  abbrev taken_value : Option Value
  taken_value = option_map (λ (x : Taken). value_of n x.datum) t

  pub value_other : (d : Option Datum) → is_new on ≡ false → option_map (value_of n) d ≡ field_value (world_of n w) k place taken_value → option_map (value_of n) d ≡ field_value (given_world n w all) k place taken_value
  value_other d e named =
      named
      ∙ ap (λ (p : World × Option Value). field_value (world_of n w) k place p.1) (sym h.got)
      ∙ sym (held_other (world_of n w) k place l.types l.texts g on are e)
      ∙ ap (held (world_of n w) k place l.types l.texts) h.got

  pub value_new : (d : Datum) (kind : Text) → is_new on ≡ true → d ≡ zero_in (is_wide kind) → kind ≡ k.kind → option_map (value_of n) (Some d) ≡ field_value (given_world n w all) k place taken_value
  value_new d kind e nothing same =
      ap (λ (x : Datum). Some (value_of n x)) nothing
      ∙ ap Some (zero_named n (is_wide kind))
      ∙ ap (λ (u : Text). Some (zero_of u)) same
      ∙ sym (held_new (world_of n w) k place l.types l.texts g on are e)
      ∙ ap (held (world_of n w) k place l.types l.texts) h.got

-- what there is stays there with more objects
pub fine_given : (l : Lookups) (w : OwnWorld) (g : Gifts) (d : Option Datum) → FineMaybe (names_in l) (length (spots_of w)) d → AreGivenFine l w g d
fine_given l w g None f = tt
fine_given l w g (Some d) f = fine_more (names_in l) (length (spots_of w)) (length (gift_spots w g)) d (gifts_more w g) f

pub zero_given : (l : Lookups) (w : OwnWorld) (g : Gifts) (d : Datum) (wide : Bool) → d ≡ zero_in wide → AreGivenFine l w g (Some d)
zero_given l w g d wide e = subst (IsFine (names_in l) (length (gift_spots w g))) (sym e) (fine_zero (names_in l) (length (gift_spots w g)) wide)

-- ---- a field is read

module _ (s : Setting) (w v : World) (classes : Classes) (k : FieldKey) (place : Place) (on : Option Given) (x : Option Value) (stack : List Waiting) (rest : List Move) (kept : s.outer.fields k ≡ true) (got_is : got w on ≡ (v, x)) where
  abbrev read_by : World × Option Value → Bool → Next
  read_by p b = elim b as (λ b. Next) [ true ↦ shows_value p.0 classes k.kind (field_value p.0 k place p.1) stack rest | false ↦ quiet Ended ]

  read_as : (b : Bool) → b ≡ on_fits s.face s.outer w v k place on x → reads s w classes k (Some place) on stack rest ≡ read_by (v, x) b
  read_as b e =
      ap (λ (p : World × Option Value). read_by p (s.outer.fields k && on_fits s.face s.outer w p.0 k place on p.1)) got_is
      ∙ ap (λ (f : Bool). read_by (v, x) (f && on_fits s.face s.outer w v k place on x)) kept
      ∙ ap (read_by (v, x)) (sym e)

  pub read_then : (b : Bool) → b ≡ on_fits s.face s.outer w v k place on x → b ≡ true → shows_value v classes k.kind (field_value v k place x) stack rest ≡ reads s w classes k (Some place) on stack rest
  read_then b e h = sym (read_as b e ∙ ap (read_by (v, x)) h)

  pub read_over : (b : Bool) → b ≡ on_fits s.face s.outer w v k place on x → b ≡ false → reads s w classes k (Some place) on stack rest ≡ quiet Ended
  read_over b e h = read_as b e ∙ ap (read_by (v, x)) h

  -- ---- a field is written

  abbrev written_by : Given → World × Option Value → World × Value → Bool → Next
  written_by g p q b = elim b as (λ b. Next) [ true ↦ goes (with_field q.0 k p.1 (stored (item_of_type k.kind) q.1)) classes stack rest | false ↦ quiet Ended ]

  write_as : (g : Given) (f b : Bool) → f ≡ on_fits s.face s.outer w v k place on x → f && fits s.face s.outer v (gets v g).0 g (gets v g).1 k.kind ≡ b → writes s w classes k (Some place) on g stack rest ≡ written_by g (v, x) (gets v g) b
  write_as g f b e h =
      ap (λ (p : World × Option Value). written_by g p (gets p.0 g) (s.outer.fields k && on_fits s.face s.outer w p.0 k place on p.1 && fits s.face s.outer p.0 (gets p.0 g).0 g (gets p.0 g).1 k.kind)) got_is
      ∙ ap (λ (c : Bool). written_by g (v, x) (gets v g) (c && on_fits s.face s.outer w v k place on x && fits s.face s.outer v (gets v g).0 g (gets v g).1 k.kind)) kept
      ∙ ap (λ (c : Bool). written_by g (v, x) (gets v g) (c && fits s.face s.outer v (gets v g).0 g (gets v g).1 k.kind)) (sym e)
      ∙ ap (written_by g (v, x) (gets v g)) h

  pub write_unfit : (g : Given) (f : Bool) → f ≡ on_fits s.face s.outer w v k place on x → f ≡ false → writes s w classes k (Some place) on g stack rest ≡ quiet Ended
  write_unfit g f e h = write_as g f false e (ap (λ (c : Bool). c && fits s.face s.outer v (gets v g).0 g (gets v g).1 k.kind) h)

  module _ (g : Given) (u : World) (y : Value) (fit : on_fits s.face s.outer w v k place on x ≡ true) (gets_is : gets v g ≡ (u, y)) where
    fit_is : (b : Bool) → b ≡ fits s.face s.outer v u g y k.kind → true && fits s.face s.outer v (gets v g).0 g (gets v g).1 k.kind ≡ b
    fit_is b e = ap (λ (q : World × Value). fits s.face s.outer v q.0 g q.1 k.kind) gets_is ∙ sym e

    pub write_then : (b : Bool) → b ≡ fits s.face s.outer v u g y k.kind → b ≡ true → goes (with_field u k x (stored (item_of_type k.kind) y)) classes stack rest ≡ writes s w classes k (Some place) on g stack rest
    write_then b e h = sym (write_as g true b (sym fit) (fit_is b e) ∙ ap (written_by g (v, x) (gets v g)) h ∙ ap (λ (q : World × Value). written_by g (v, x) q true) gets_is)

    pub write_over : (b : Bool) → b ≡ fits s.face s.outer v u g y k.kind → b ≡ false → writes s w classes k (Some place) on g stack rest ≡ quiet Ended
    write_over b e h = write_as g true b (sym fit) (fit_is b e) ∙ ap (written_by g (v, x) (gets v g)) h

-- where no field is kept, the run ends
pub read_none : (s : Setting) (w : World) (classes : Classes) (k : FieldKey) (place : Option Place) (on : Option Given) (stack : List Waiting) (rest : List Move) → ((p : Place) → place ≡ Some p → s.outer.fields k ≡ false) → reads s w classes k place on stack rest ≡ quiet Ended
read_none s w classes k None on stack rest h = refl
read_none s w classes k (Some p) on stack rest h =
    let a = got w on in
    ap (λ (b : Bool). elim (b && on_fits s.face s.outer w a.0 k p on a.1) as (λ b. Next) [ true ↦ shows_value a.0 classes k.kind (field_value a.0 k p a.1) stack rest | false ↦ quiet Ended ]) (h p refl)

pub write_none : (s : Setting) (w : World) (classes : Classes) (k : FieldKey) (place : Option Place) (on : Option Given) (g : Given) (stack : List Waiting) (rest : List Move) → ((p : Place) → place ≡ Some p → s.outer.fields k ≡ false) → writes s w classes k place on g stack rest ≡ quiet Ended
write_none s w classes k None on g stack rest h = refl
write_none s w classes k (Some p) on g stack rest h =
    let a = got w on in
    let b = gets a.0 g in
    ap (λ (c : Bool). elim (c && on_fits s.face s.outer w a.0 k p on a.1 && fits s.face s.outer a.0 b.0 g b.1 k.kind) as (λ b. Next) [ true ↦ goes (with_field b.0 k a.1 (stored (item_of_type k.kind) b.1)) classes stack rest | false ↦ quiet Ended ]) (h p refl)

-- ---- a field that is put

pub static_put : (l : Lookups) (o : Outside) (k : FieldKey) (at : FieldAt) (field : Field) (h : IsKeptField l o k at field) (old new : OwnWorld) (d : Value) → Rewrites l old new (with_static (world_of (names_in l) old) (key_at k h.place) d) → Rewrites l old new (with_static (world_of (names_in l) old) k d)
static_put l o k at field h old new d p = subst (λ (x : FieldKey). Rewrites l old new (with_static (world_of (names_in l) old) x d)) (key_kept l o k at field h) p

pub instance_put : (l : Lookups) (o : Outside) (k : FieldKey) (at : FieldAt) (field : Field) (h : IsKeptField l o k at field) (old new : OwnWorld) (on d : Value) (b : Bool)
    → IsPut l old new b (with_instance (world_of (names_in l) old) (key_at k h.place) on d (thing_at (world_of (names_in l) old) on)) → IsPut l old new b (with_instance (world_of (names_in l) old) k on d (thing_at (world_of (names_in l) old) on))
instance_put l o k at field h old new on d b p = subst (λ (x : FieldKey). IsPut l old new b (with_instance (world_of (names_in l) old) x on d (thing_at (world_of (names_in l) old) on))) (key_kept l o k at field h) p

module _ (l : Lookups) (o : Outside) (m : Memo) (script : List Move) (steps : ℕ) (s : State) (owes : Option Kind) (first : Move) (rest : List Move) (h : IsMoving l o m script steps s owes first rest) (g : Gifts) (mid new : OwnWorld) (a : AreGiven l g s.world mid) where
  -- it is written, and the move is done
  pub put_done : (to : Option World) → IsPut l mid new true to → (left : State) → IsDone (record s { world = new }) left → IsEvent l steps script left None (goes to (classes_in l s) (freed_in l script s) rest)
  put_done None p left done = absurd p
  put_done (Some u) p left done =
      let more = gifts_more s.world g in
      let count = a.spots in
      let size : length (spots_of new) ≡ length (spots_of mid) = ap (λ x. length (map spot_of x.items)) p.heap in
      event_as l steps script left None (quiet (On (world_of (names_in l) new) (classes_in l s) (freed_in l script s) rest)) (goes (Some u) (classes_in l s) (freed_in l script s) rest)
      (ap (λ (v : World). quiet (On v (classes_in l s) (freed_in l script s) rest)) p.named)
      (world_done l o m script steps s owes first rest new left None h p.sound (omega (arith, more, count, size)) (p.locks ∙ a.locks) done)

  -- there is no such field, and the run ends
  pub put_over : (to : Option World) → IsPut l mid new false to → IsEvent l steps script (record (record s { world = new }) { ended = true }) None (goes to (classes_in l s) (freed_in l script s) rest)
  put_over None p = over_event l steps script (record s { world = new })
  put_over (Some u) p = absurd p

-- ---- a move whose look-ups are kept

pub moving_memo : (l : Lookups) (o : Outside) (m new : Memo) (script : List Move) (steps : ℕ) (s : State) (owes : Option Kind) (first : Move) (rest : List Move) → IsKept l new → IsMoving l o m script steps s owes first rest → IsMoving l o new script steps s owes first rest
moving_memo l o m new script steps s owes first rest k h = record {
  run = record { right = h.run.right; kept = k; state = h.run.state; early = h.run.early; on = h.run.on };
  reach = h.reach;
  place = h.place;
  top = h.top;
  waits = h.waits;
  left = h.left;
}

-- a state that is none other
pub event_at : (l : Lookups) (steps : ℕ) (script : List Move) (s t : State) (e : Option Event) (to : Next) → t ≡ s → IsEvent l steps script s e to → IsEvent l steps script t e to
event_at l steps script s t e to same h = subst (λ (u : State). IsEvent l steps script u e to) (sym same) h

pub next_at : (l : Lookups) (steps : ℕ) (script : List Move) (m : Memo) (s t : State) (e : Option Event) (to : Next) → t ≡ s → IsNext l steps script m s e to → IsNext l steps script m t e to
next_at l steps script m s t e to same h = subst (λ (u : State). IsNext l steps script m u e to) (sym same) h
