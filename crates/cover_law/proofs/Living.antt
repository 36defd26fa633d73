-- In each state that a run reaches, methods that run and classes that are initialised are live, and objects are of made
-- classes: what the law of removal finds of each step, entry and move, of every closed family of live sets at once.
use Rattle.std.proofs.Common.{◌≡◌, ℕ, Bool, true, false, true≢false, List, [], ◌∷◌, Option, Some, None, ◌⊎◌, inl, inr, refl, sym, ap, ◌∙◌, subst}
use Rattle.std.specs.Prelude.{◌&&◌, length, nat_lt, slice_get, slice_set}
use Rattle.std.specs.List.{list_all}
use Rattle.std.specs.Option.{option_and_then}
use Rattle.insn_set.specs.declared.ops.InvokeKind.{InvokeKind}
use Rattle.insn_set.specs.declared.ops.InvokeKind.TheVariants as call
use Rattle.dalvik_defs.specs.Names.{Text, throwable_type}
use Rattle.dalvik_defs.specs.Face.{Face, face_of, bodies_of, Place}
use Rattle.dalvik_defs.specs.Fields.{with_instance, with_static}
use Rattle.dalvik_defs.specs.Find.{Found}
use Rattle.dalvik_defs.specs.Gives.{gets, gets_all, spread, fits, may_throw as may_be_thrown}
use Rattle.dalvik_defs.specs.Happens.{Setting, outcome_at, effect_of}
use Rattle.dalvik_defs.specs.Items.{stored, item_of_type}
use Rattle.dalvik_defs.specs.Known.{no_class, initialiser_error}
use Rattle.dalvik_defs.specs.Legal.{may_enter, may_answer, on_fits}
use Rattle.dalvik_defs.specs.MayGo.{legal_write}
use Rattle.dalvik_defs.specs.Moves.{got, field_value, with_field, with_item, key_of}
use Rattle.dalvik_defs.specs.Outcome.{Outcome, Stays, Starts, Enters, Leaves, Ends, Raises, Halts, need_of, outcome}
use Rattle.dalvik_defs.specs.Outer.{Outer}
use Rattle.dalvik_defs.specs.Show.{show, show_option}
use Rattle.dalvik_defs.specs.Shown.{fit_given, fit_option}
use Rattle.dalvik_defs.specs.Stack.{form_at, back, lands, lands_or, unwinds}
use Rattle.dalvik_defs.specs.State.{World, Classes, Thing, Instance, Items, Next, fresh, with_thing, next_object, thing_at, put_thing, put_field, kind_of_thing}
use Rattle.dalvik_defs.specs.Step.{setting_of}
use Rattle.dalvik_defs.specs.declared.events.Event.{Event}
use Rattle.dalvik_defs.specs.declared.names.FieldKey.{FieldKey}
use Rattle.dalvik_defs.specs.declared.names.MethodKey.{MethodKey}
use Rattle.dalvik_defs.specs.declared.forms.Form.{Form}
use Rattle.dalvik_defs.specs.declared.state.Value.{Value}
use Rattle.dalvik_defs.specs.declared.state.Frame.{Frame}
use Rattle.dalvik_defs.specs.declared.state.Waiting.TheVariants.{Method}
use Rattle.dalvik_defs.specs.declared.script.Given.{Given}
use Rattle.dalvik_defs.specs.declared.program.NamedBody.{NamedBody}
use Rattle.dalvik_defs.specs.declared.program.NamedProgram.{NamedProgram}
use Rattle.dalvik_defs.specs.declared.tables.Floats.{Floats}
use Rattle.dalvik_defs.specs.declared.tables.Framework.{Framework}
use Rattle.pass_defs.specs.Bare.{may_throw}
use Rattle.pass_defs.specs.Live.{Family, IsClosedFamily, IsLiveMethod, unconditional}
use Rattle.run_laws.specs.Holds.{Each}
use Rattle.run_laws.specs.Invariant.{Invariant}
use Rattle.run_laws.proofs.Stacked.{KeptOver, LeadsOver, LandedOver, EnteredOver, ShownOver, WrittenOver}
use Rattle.run_laws.proofs.Climbs.{none_some, some_one}
use Rattle.removal_law.specs.Agree.{searched, sieve, sieved, Agree, AgreeOnDeclared, CalmDone, Each as EachOf}
use Rattle.removal_law.specs.Left.{left_of}
use Rattle.removal_law.specs.Reach.{OkType, MadeType, LiveMethod, Says, ReachedAt, LeftAgrees, is_idle}
use Rattle.removal_law.proofs.Lists.{and_left, and_behind}
use Rattle.removal_law.proofs.Worlds.{Kinds, kinds_put, kinds_at, show_heap, option_heap}
use Rattle.removal_law.proofs.Acts.{Sound, sound_with, Acts, acts}
use Rattle.removal_law.proofs.Outcomes.{OutcomeOk, comes}
use Rattle.removal_law.proofs.Stacks.{StateOk, onward_ok, throws_at, unwinding, giving}
use Rattle.removal_law.proofs.Given.{given_fine, enter_fine, enter_barred, answer_fine, throw_fine, on_place_fine}
use Rattle.cover_law.specs.Known.{Always, LivesAt, MayWait, LiveThings, MadeThing, live_states}
use Rattle.cover_law.specs.States.{word_states}

-- ---- what live states say

pub made_things : (p : NamedProgram) (o : Outer) (ts : List Thing) → Always p o (λ s. Kinds (MadeType p o s) ts) → Each (MadeThing p o) ts
made_things p o [] h = tt
made_things p o (Instance c fs ∷ ts) h = ((λ d s k. ((h s k).0 d).0), made_things p o ts (λ s k. (h s k).1))
made_things p o (Items c vs ∷ ts) h = (tt, made_things p o ts (λ s k. (h s k).1))

pub live_method : (p : NamedProgram) (o : Outer) (f : Frame) → Always p o (λ s. LivesAt p s f) → IsLiveMethod p o unconditional f.method
live_method p o f h s k = (h s k).0.live

-- ---- what is left agrees with the program, where no class is passed over

abbrev no_calm : Text → Bool
no_calm t = false

all_stay : (ts : List Text) → sieve no_calm ts ≡ ts
all_stay [] = refl
all_stay (t ∷ ts) = ap (λ us. t ∷ us) (all_stay ts)

none_waits : (c : Classes) → CalmDone no_calm c
none_waits c t e = absurd (true≢false (sym e))

module _ (p : NamedProgram) (o : Outer) (f : Framework) where
  abbrev F : Face
  F = face_of p f

  module _ (s : Family) (agree : LeftAgrees p o s f) where
    abbrev left_face : Face
    left_face = sieved (is_idle p) (face_of (left_of s p) f)

    -- what is left, where all classes that come first for one are the program's
    abbrev G : Face
    G = record (face_of (left_of s p) f) { first = F.first }

    same_search : (class : Text) (kind : InvokeKind) (t : Text) (k : MethodKey) → searched left_face class kind t k ≡ searched G class kind t k
    same_search class call.Static t k = refl
    same_search class call.Direct t k = refl
    same_search class call.Super t k = refl
    same_search class call.Virtual t k = refl
    same_search class call.Interface t k = refl

    opens : (a b : Option Found) → AgreeOnDeclared (OkType p s) (MadeType p o s) (LiveMethod p s) o F left_face a b → AgreeOnDeclared (OkType p s) (MadeType p o s) (LiveMethod p s) o F G a b
    opens None b h = h
    opens (Some g) b (inl h) = inl (record { lives = h.0.lives; called = h.0.called }, h.1)
    opens (Some g) b (inr h) = inr h

    pub itself : Agree (OkType p s) (MadeType p o s) (LiveMethod p s) (Says p s) (ReachedAt p) no_calm p o F G (bodies_of p) (bodies_of (left_of s p))
    itself = record {
      flags = agree.flags;
      under = agree.under;
      known = agree.known;
      empty = agree.empty;
      array = agree.array;
      item = agree.item;
      base = agree.base;
      new_fits = agree.new_fits;
      new_made = agree.new_made;
      array_fits = agree.array_fits;
      bodies = agree.bodies;
      class_ok = agree.class_ok;
      result_ok = agree.result_ok;
      parameters_ok = agree.parameters_ok;
      code = agree.code;
      entry = agree.entry;
      onwards = agree.onwards;
      catches = agree.catches;
      news = agree.news;
      arrays = agree.arrays;
      filled = agree.filled;
      fields = agree.fields;
      calls = λ m kind k args t a h d. record { same = (agree.calls m kind k args t a h d).same ∙ same_search m.class kind t k; live_found = (agree.calls m kind k args t a h d).live_found };
      answers = agree.answers;
      initialiser = agree.initialiser;
      initialiser_live = agree.initialiser_live;
      first = λ t h. all_stay (F.first t);
      first_ok = agree.first_ok;
      declared = λ c n q. opens (F.declared c n q) (left_face.declared c n q) (agree.declared c n q);
      makes = agree.makes;
      made_ok = agree.made_ok;
      own_field = agree.own_field;
      own_kind = agree.own_kind;
    }

    -- ---- what a step comes to, by one family

    abbrev pub Fine : World → Type 0
    Fine = Sound (OkType p s) (MadeType p o s) (LiveMethod p s) (Says p s) (ReachedAt p) no_calm p o F G (bodies_of p) (bodies_of (left_of s p)) itself

    abbrev pub ComesTo : Frame → Form → Outcome → Type 0
    ComesTo g x y = OutcomeOk (OkType p s) (MadeType p o s) (LiveMethod p s) (Says p s) (ReachedAt p) no_calm p o F G (bodies_of p) (bodies_of (left_of s p)) itself g.method g.position x y

    said : (g : Frame) (x : Form) (b : Option NamedBody) → LivesAt p s g → bodies_of p g.method ≡ b → option_and_then (λ y. slice_get y.forms g.position) b ≡ Some x → Says p s g.method x
    said g x (Some b) l e i = itself.code g.method b g.position x l.0 e l.1 i
    said g x None l e i = none_some x i

    module _ (floats : Floats) where
      pub coming : (w : World) (c : Classes) (g : Frame) (x : Form) → Fine w → LivesAt p s g → form_at (bodies_of p) g ≡ Some x
          → ComesTo g x (outcome F (need_of F c) (effect_of (setting_of p o f floats) (Some x) w g) w g)
      coming w c g x h l i = (comes (OkType p s) (MadeType p o s) (LiveMethod p s) (Says p s) (ReachedAt p) no_calm p o F G (bodies_of p) (bodies_of (left_of s p)) itself c w g h (none_waits c) x (effect_of (setting_of p o f floats) (Some x) w g) a.good).good
        where
          a : Acts (OkType p s) (MadeType p o s) (LiveMethod p s) (Says p s) (ReachedAt p) no_calm p o F G (bodies_of p) (bodies_of (left_of s p)) itself g.method g.position x
              (effect_of (setting_of p o f floats) (Some x) w g) (effect_of (record { face = G; outer = o; floats = floats }) (Some x) w g)
          a = acts (OkType p s) (MadeType p o s) (LiveMethod p s) (Says p s) (ReachedAt p) no_calm p o F G (bodies_of p) (bodies_of (left_of s p)) itself w g h floats x (said g x (bodies_of p g.method) l refl i)

    pub onward : (g : Frame) (x : Form) (g1 : Frame) → LivesAt p s g → form_at (bodies_of p) g ≡ Some x → (w : World) (e : Option Event) → ComesTo g x (Stays w g1 e) → LivesAt p s g1
    onward g x g1 l i w e k = onward_ok (OkType p s) (MadeType p o s) (LiveMethod p s) (Says p s) (ReachedAt p) no_calm p o F G (bodies_of p) (bodies_of (left_of s p)) itself g x g1 l i k.1.0 k.1.1

    -- an object that is thrown at a frame, with nothing below
    pub thrown_at : (w : World) (c : Classes) (v : Value) (g : Frame) (x : Form) → Fine w → LivesAt p s g → form_at (bodies_of p) g ≡ Some x → may_throw x ≡ true
        → StateOk (OkType p s) (MadeType p o s) (LiveMethod p s) (Says p s) (ReachedAt p) no_calm p o F G (bodies_of p) (bodies_of (left_of s p)) itself (lands_or w c [] [] (lands F (bodies_of p) w g v) (unwinds F (bodies_of p) w c v [] [])).0
    thrown_at w c v g x h l i t = (throws_at (OkType p s) (MadeType p o s) (LiveMethod p s) (Says p s) (ReachedAt p) no_calm p o F G (bodies_of p) (bodies_of (left_of s p)) itself w c v g [] [] h l (x, (i, t)) tt (none_waits c, refl)
        (unwinding (OkType p s) (MadeType p o s) (LiveMethod p s) (Says p s) (ReachedAt p) no_calm p o F G (bodies_of p) (bodies_of (left_of s p)) itself w c v [] [] h tt (none_waits c, refl))).good

    -- a frame that takes a result
    pub given_back : (w : World) (c : Classes) (g : Frame) (v : Option Value) → Fine w → LivesAt p s g × MayWait p g → LivesAt p s (back (bodies_of p) g v)
    given_back w c g v h l = (giving (OkType p s) (MadeType p o s) (LiveMethod p s) (Says p s) (ReachedAt p) no_calm p o F G (bodies_of p) (bodies_of (left_of s p)) itself [] w c v (Method g ∷ []) [] h (l, tt) (none_waits c, refl)).good.1.0.0

    -- what the framework enters is live
    pub entered_live : (w : World) (g : Found) (gs : List Given) (a b : Option Found) → Fine w → list_all (fit_given p o) gs ≡ true → AgreeOnDeclared (OkType p s) (MadeType p o s) (LiveMethod p s) o F G a b → a ≡ Some g
        → may_enter F o w (gets_all w gs).0 g gs (gets_all w gs).1 ≡ true → LiveMethod p s g.key
    entered_live w g gs None b h e k i l = none_some g i
    entered_live w g gs (Some d) b h e (inl k) i l = subst (λ z. LiveMethod p s z.key) (some_one d g i) k.0.lives
    entered_live w g gs (Some d) b h e (inr k) i l = absurd (true≢false (sym l ∙ sym (ap (λ z. may_enter F o w (gets_all w gs).0 z gs (gets_all w gs).1) (some_one d g i))
        ∙ enter_barred (OkType p s) (MadeType p o s) (LiveMethod p s) (Says p s) (ReachedAt p) no_calm p o F G (bodies_of p) (bodies_of (left_of s p)) itself w h d gs e k.0))

  -- ---- and by all

  module _ (floats : Floats) (agrees : (s : Family) → IsClosedFamily p o unconditional s → LeftAgrees p o s f) where
    abbrev S : Setting
    S = setting_of p o f floats

    abbrev i : Invariant
    i = word_states p f o

    abbrev j : Invariant
    j = live_states p o

    abbrev Lives : World → Type 0
    Lives w = Always p o (λ s. LiveThings p o s w)

    fine : (w : World) → Lives w → (s : Family) (k : IsClosedFamily p o unconditional s) → Fine s (agrees s k) w
    fine w h s k = record { kinds = (h s k).0; mades = (h s k).1 }

    things : (w : World) → ((s : Family) (k : IsClosedFamily p o unconditional s) → Fine s (agrees s k) w) → Lives w
    things w h s k = ((h s k).kinds, (h s k).mades)

    heap_lives : (w v : World) → v.heap ≡ w.heap → Lives w → Lives v
    heap_lives w v e h s k = (subst (Kinds (OkType p s)) (sym e) (h s k).0, subst (Kinds (MadeType p o s)) (sym e) (h s k).1)

    with_lives : (w : World) (t : Text) → Lives w → Always p o (λ s. OkType p s t × MadeType p o s t) → Lives (with_thing w (fresh t))
    with_lives w t h l = things (with_thing w (fresh t)) (λ s k. sound_with (OkType p s) (MadeType p o s) (LiveMethod p s) (Says p s) (ReachedAt p) no_calm p o F (G s (agrees s k)) (bodies_of p) (bodies_of (left_of s p)) (itself s (agrees s k)) w (fresh t) (fine w h s k) (l s k))

    -- ---- frames

    landing : (w : World) (c : Classes) (x : Next) (g : Option Frame)
        → ((s : Family) (k : IsClosedFamily p o unconditional s) → StateOk (OkType p s) (MadeType p o s) (LiveMethod p s) (Says p s) (ReachedAt p) no_calm p o F (G s (agrees s k)) (bodies_of p) (bodies_of (left_of s p)) (itself s (agrees s k)) (lands_or w c [] [] g x).0)
        → LandedOver S (bodies_of p) i j w c g
    landing w c x None h = tt
    landing w c x (Some g) h = λ u s k. (h s k).1.0.0

    entering : (w : World) (c : Classes) (k : MethodKey) (vs : List Value) (b : Option NamedBody) → bodies_of p k ≡ b → Always p o (λ s. LiveMethod p s k) → EnteredOver S (bodies_of p) i j w c k vs b
    entering w c k vs None e l = tt
    entering w c k vs (Some b) e l = λ n u s q. (l s q, (agrees s q).entry k b (l s q) e)

    leads : (w : World) (c : Classes) (g : Frame) (x : Form) (y : Outcome) → form_at (bodies_of p) g ≡ Some x → Lives w → Always p o (λ s. LivesAt p s g)
        → ((s : Family) (k : IsClosedFamily p o unconditional s) → ComesTo s (agrees s k) g x y) → LeadsOver S (bodies_of p) i j w c g y
    leads w c g x (Stays w1 g1 e) q h l m = λ a b. (things w1 (λ s k. (m s k).0), λ s k. onward s (agrees s k) g x g1 (l s k) q w1 e (m s k))
    leads w c g x (Starts t) q h l m = λ a. ((λ s k. (m s k).0.0), λ s k. (l s k, (x, (q, (m s k).1))))
    leads w c g x (Enters k vs) q h l m = λ a. ((λ s z. (l s z, (x, (q, (m s z).1)))), entering w c k vs (bodies_of p k) refl (λ s z. (m s z).0))
    leads w c g x (Leaves w1 owes e) q h l m = λ a b. (things w1 (λ s k. (m s k).0.0), λ s k. (l s k, (x, (q, (m s k).1))))
    leads w c g x (Ends v) q h l m = λ a. tt
    leads w c g x (Raises w1 v) q h l m = λ a b. (
      things w1 (λ s k. (m s k).0),
      tt,
      landing w1 c (unwinds F (bodies_of p) w1 c v [] []) (lands F (bodies_of p) w1 g v)
          (λ s k. thrown_at s (agrees s k) w1 c v g x (m s k).0 (l s k) q (m s k).1),
    )
    leads w c g x Halts q h l m = tt

    steps : (w : World) (c : Classes) (g : Frame) → Lives w → Always p o (λ s. LivesAt p s g) → LeadsOver S (bodies_of p) i j w c g (outcome_at S (bodies_of p) (need_of F c) w g)
    steps w c g h l = by (form_at (bodies_of p) g) refl
      where
        by : (x : Option Form) → form_at (bodies_of p) g ≡ x → LeadsOver S (bodies_of p) i j w c g (outcome F (need_of F c) (effect_of S x w g) w g)
        by None e = tt
        by (Some x) e = leads w c g x (outcome F (need_of F c) (effect_of S (Some x) w g) w g) e h l (λ s k. coming s (agrees s k) floats w c g x (fine w h s k) (l s k) e)

    takes : (w : World) (c : Classes) (g : Frame) (v : Option Value) → Lives w → Always p o (λ s. LivesAt p s g × MayWait p g) → Always p o (λ s. LivesAt p s (back (bodies_of p) g v))
    takes w c g v h l s k = given_back s (agrees s k) w c g v (fine w h s k) (l s k)

    throws : (w : World) (c : Classes) (g : Frame) (v : Value) → Lives w → Always p o (λ s. LivesAt p s g × MayWait p g) → LandedOver S (bodies_of p) i j w c (lands F (bodies_of p) w g v)
    throws w c g v h l = landing w c (unwinds F (bodies_of p) w c v [] []) (lands F (bodies_of p) w g v)
        (λ s k. let y = (l s k).1 in thrown_at s (agrees s k) w c v g y.0 (fine w h s k) (l s k).0 y.1.0 y.1.1.1)

    -- ---- classes and faults

    each_class : (ts : List Text) → ((s : Family) → IsClosedFamily p o unconditional s → EachOf (OkType p s) ts) → Each j.class ts
    each_class [] h = tt
    each_class (t ∷ ts) h = ((λ s k. (h s k).0), each_class ts (λ s k. (h s k).1))

    faults : (w : World) (t : Text) → (t ≡ no_class) ⊎ (t ≡ initialiser_error) → Lives w → Lives (with_thing w (fresh t))
    faults w t (inl e) h = with_lives w t h (λ s k. subst (λ u. OkType p s u × MadeType p o s u) (sym e) ((agrees s k).known no_class refl))
    faults w t (inr e) h = with_lives w t h (λ s k. subst (λ u. OkType p s u × MadeType p o s u) (sym e) ((agrees s k).known initialiser_error refl))

    -- ---- moves

    lives_in : (w : World) (u n q : Text) (g : Found) (gs : List Given) → Lives w → list_all (fit_given p o) gs ≡ true → F.declared u n q ≡ Some g
        → may_enter F o w (gets_all w gs).0 g gs (gets_all w gs).1 ≡ true → Always p o (λ s. LiveMethod p s g.key)
    lives_in w u n q g gs h e d l s k = entered_live s (agrees s k) w g gs (F.declared u n q) ((G s (agrees s k)).declared u n q) (fine w h s k) e ((itself s (agrees s k)).declared u n q) d l

    gotten : (w : World) (u : Text) (y : Option Given) → Lives w → fit_option p o y ≡ true → may_answer F o w u y ≡ true → Lives (got w y).0
    gotten w u y h e l = things (got w y).0 (λ s k. answer_fine (OkType p s) (MadeType p o s) (LiveMethod p s) (Says p s) (ReachedAt p) no_calm p o F (G s (agrees s k)) (bodies_of p) (bodies_of (left_of s p)) (itself s (agrees s k)) w u y e (fine w h s k) l)

    getting : (w u : World) (g : Given) (v : Value) (t : Text) → Lives w → fit_given p o g ≡ true → fits F o w u g v t ≡ true → Lives (gets w g).0
    getting w u g v t h e l = things (gets w g).0 (λ s k. given_fine (OkType p s) (MadeType p o s) (LiveMethod p s) (Says p s) (ReachedAt p) no_calm p o F (G s (agrees s k)) (bodies_of p) (bodies_of (left_of s p)) (itself s (agrees s k)) w u g v t e (fine w h s k) l)

    placed : (w u : World) (x : FieldKey) (z : Place) (y : Option Given) (v : Option Value) → Lives w → fit_option p o y ≡ true → on_fits F o w u x z y v ≡ true → Lives (got w y).0
    placed w u x z y v h e l = things (got w y).0 (λ s k. on_place_fine (OkType p s) (MadeType p o s) (LiveMethod p s) (Says p s) (ReachedAt p) no_calm p o F (G s (agrees s k)) (bodies_of p) (bodies_of (left_of s p)) (itself s (agrees s k)) w u x z y v e (fine w h s k) l)

    enters_in : (w : World) (g : Found) (gs : List Given) → Lives w → list_all (fit_given p o) gs ≡ true → may_enter F o w (gets_all w gs).0 g gs (gets_all w gs).1 ≡ true → Lives (gets_all w gs).0
    enters_in w g gs h e l = things (gets_all w gs).0 (λ s k. enter_fine (OkType p s) (MadeType p o s) (LiveMethod p s) (Says p s) (ReachedAt p) no_calm p o F (G s (agrees s k)) (bodies_of p) (bodies_of (left_of s p)) (itself s (agrees s k)) w (fine w h s k) g gs e l)

    throwing : (w : World) (g : Given) → Lives w → fit_given p o g ≡ true → may_be_thrown F o w (gets w g).0 g (gets w g).1 ≡ true → Lives (gets w g).0
    throwing w g h e l = things (gets w g).0 (λ s k. throw_fine (OkType p s) (MadeType p o s) (LiveMethod p s) (Says p s) (ReachedAt p) no_calm p o F (G s (agrees s k)) (bodies_of p) (bodies_of (left_of s p)) (itself s (agrees s k)) w g e (fine w h s k) l)

    written : (w : World) (x : FieldKey) (z : Place) (on : Option Given) (g : Given) → Lives w → (fit_option p o on && fit_given p o g) ≡ true → legal_write S w x (Some z) on g ≡ true → Lives (gets (got w on).0 g).0
    written w x z on g h e l = let w1 = (got w on).0 in let place = on_fits F o w w1 x z on (got w on).1 in let value = fits F o w1 (gets w1 g).0 g (gets w1 g).1 x.kind in
        getting w1 (gets w1 g).0 g (gets w1 g).1 x.kind (placed w w1 x z on (got w on).1 h (and_left (fit_option p o on) (fit_given p o g) e) (and_behind (o.fields x) place (and_left (o.fields x && place) value l)))
        (and_behind (fit_option p o on) (fit_given p o g) e) (and_behind (o.fields x && place) value l)

    shown : (w : World) (c : Classes) (kind : Text) (v : Option Value) → Lives w → ShownOver S (bodies_of p) i j c w kind v
    shown w c kind None h = tt
    shown w c kind (Some v) h = λ u. heap_lives w (show w kind v).0 (show_heap w kind v) h

    -- a field is written, or an item
    put_lives : (w : World) (on : Value) (t : Thing) → Lives w → Always p o (λ s. OkType p s (kind_of_thing t) × MadeType p o s (kind_of_thing t)) → Lives (put_thing w on t)
    put_lives w on t h m s k = (kinds_put (OkType p s) w on t (h s k).0 (m s k).0, kinds_put (MadeType p o s) w on t (h s k).1 (m s k).1)

    at_lives : (w : World) (on : Value) (t : Thing) → Lives w → thing_at w on ≡ Some t → Always p o (λ s. OkType p s (kind_of_thing t) × MadeType p o s (kind_of_thing t))
    at_lives w on t h e s k = (kinds_at (OkType p s) w on t (h s k).0 e, kinds_at (MadeType p o s) w on t (h s k).1 e)

    field_lives : (w : World) (c : Classes) (x : FieldKey) (on : Option Value) (v : Value) → Lives w → WrittenOver S (bodies_of p) i j c (with_field w x on v)
    field_lives w c x None v h = λ u. heap_lives w (with_static w x v) refl h
    field_lives w c x (Some on) v h = by (thing_at w on) refl
      where
        by : (t : Option Thing) → thing_at w on ≡ t → WrittenOver S (bodies_of p) i j c (with_instance w x on v t)
        by (Some (Instance d fs)) e = λ u. put_lives w on (Instance d (put_field x v fs)) h (at_lives w on (Instance d fs) h e)
        by (Some (Items d vs)) e = tt
        by None e = tt

    item_lives : (w w1 : World) (c : Classes) (on v : Value) (kind : Text) (vs : List Value) (n : ℕ) → Lives w → Lives w1 → thing_at w on ≡ Some (Items kind vs) → WrittenOver S (bodies_of p) i j c (with_item w1 on kind vs n v)
    item_lives w w1 c on v kind vs n h h1 e = by (nat_lt n (length vs))
      where
        by : (b : Bool) → WrittenOver S (bodies_of p) i j c (elim b as (λ b. Option World) [ true ↦ Some (put_thing w1 on (Items kind (slice_set vs n (stored (item_of_type kind) v)))) | false ↦ None ])
        by true = λ u. put_lives w1 on (Items kind (slice_set vs n (stored (item_of_type kind) v))) h1 (at_lives w on (Items kind vs) h e)
        by false = tt

    -- ---- all that the law asks

    pub keeps_live : KeptOver S (bodies_of p) i j
    keeps_live = record {
      steps = λ w c g h t. steps w c g h.1 t.1;
      later = λ w w1 a g gr t h. h;
      returns = λ w c k g v h t r x. takes w c g v h.1 t.1;
      retries = λ w c u g h t x. λ s k. (t.1 s k).0;
      lands = λ w c a g v h t x. throws w c g v h.1 t.1;
      faults = λ w c u e h. (faults w u e h.1, tt);
      statuses = λ w c u x h k. h.1;
      firsts = λ u k. each_class (F.first u) (λ s q. (agrees s q).first_ok u (k.1 s q));
      initialisers = λ w c u k h x e. entering w c k [] (bodies_of p k) refl (λ s q. (agrees s q).initialiser_live u k (x.1 s q) e);
      shows_result = λ w c k v h r. heap_lives w (show_option w k.signature.result v).0 (option_heap w k.signature.result v) h.1;
      shows_thrown = λ w c v h x. heap_lives w (show w throwable_type v).0 (show_heap w throwable_type v) h.1;
      enters = λ w c u n q gs d h m e l x. let live = lives_in w u n q d gs h.1 m.0.0 e l in (
        enters_in w d gs h.1 m.0.0 l,
        (λ z s k. (agrees s k).class_ok d.key (live s k)),
        entering (gets_all w gs).0 c d.key (spread (gets_all w gs).1) (bodies_of p d.key) refl live,
      );
      makes = λ w c u h m l. let live : Always p o (λ s. OkType p s u × MadeType p o s u) = λ s k. (agrees s k).made_ok u l in let w1 = with_thing w (fresh u) in
          ((λ s k. (live s k).0), heap_lives w1 (show w1 u (next_object w)).0 (show_heap w1 u (next_object w)) (with_lives w u h.1 live));
      answers = λ w c u y g h m t l x z. (gotten w u y h.1 m.0.0 l, takes w c g (got w y).1 h.1 t.1);
      throws = λ w c g h m l. (throwing w g h.1 m.0.0 l, tt);
      reads = λ w c u n k z on h m e l. shown (got w on).0 c k (field_value (got w on).0 (key_of u n k) z (got w on).1)
          (placed w (got w on).0 (key_of u n k) z on (got w on).1 h.1 m.0.0 (and_behind (o.fields (key_of u n k)) (on_fits F o w (got w on).0 (key_of u n k) z on (got w on).1) l));
      writes = λ w c u n k z on g h m e l. field_lives (gets (got w on).0 g).0 c (key_of u n k) (got w on).1 (stored (item_of_type k) (gets (got w on).0 g).1) (written w (key_of u n k) z on g h.1 m.0.0 l);
      reads_items = λ w c g n u vs v h m b e l. heap_lives w (show w u v).0 (show_heap w u v) h.1;
      writes_items = λ w c on g n u vs h m b e x l. item_lives w (gets w g).0 c (gets w on).1 (gets w g).1 u vs n h.1
          (getting w (gets w g).0 g (gets w g).1 u h.1 (and_behind (fit_given p o on) (fit_given p o g) m.0.0) x) e;
    }
