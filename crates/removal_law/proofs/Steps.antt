-- Two machines whose faces agree take equal steps, and keep to what is live.
use Rattle.std.proofs.Common.{◌≡◌, ℕ, zero, suc, Bool, true, false, List, [], ◌∷◌, ◌++◌, refl, sym, ap, ◌∙◌, subst, inl, inr}
use Rattle.std.specs.Prelude.{◌&&◌, not, cond, Option, Some, None, length, slice_get, slice_set, nat_lt}
use Rattle.std.specs.List.{list_all}
use Rattle.std.specs.Option.{option_and_then}
use Rattle.dalvik_defs.specs.Names.{Text}
use Rattle.dalvik_defs.specs.Flags.{is_static}
use Rattle.dalvik_defs.specs.Known.{no_class}
use Rattle.dalvik_defs.specs.Items.{stored, item_of_type}
use Rattle.dalvik_defs.specs.Find.{Found}
use Rattle.dalvik_defs.specs.Face.{Face, Place, Bodies}
use Rattle.dalvik_defs.specs.Outer.{Outer}
use Rattle.dalvik_defs.specs.Shown.{fit_given, fit_option, fit_move}
use Rattle.dalvik_defs.specs.State.{World, Classes, Status, New, Running, Done, Failed, Thing, Instance, Items, State, On, Ended, Next, quiet, thing_at, put_thing, with_thing, next_object, fresh, put_field}
use Rattle.dalvik_defs.specs.declared.state.Value.{Value}
use Rattle.dalvik_defs.specs.declared.state.Value.TheVariants.{Word}
use Rattle.dalvik_defs.specs.declared.state.Frame.{Frame}
use Rattle.dalvik_defs.specs.declared.state.Waiting.{Waiting}
use Rattle.dalvik_defs.specs.declared.state.Waiting.TheVariants.{Method, Initialiser, Ending, Outside}
use Rattle.dalvik_defs.specs.Fields.{with_static, with_instance}
use Rattle.dalvik_defs.specs.Show.{show}
use Rattle.dalvik_defs.specs.Outcome.{Outcome, Stays, Starts, Enters, Leaves, Ends, Raises, Halts, Need, Ready, Fresh, Broken, need_of, outcome}
use Rattle.dalvik_defs.specs.Stack.{enters, form_at, throws_new, left_of, goes_on, starts}
use Rattle.dalvik_defs.specs.Gives.{gets, gets_all, spread, fits, may_throw}
use Rattle.dalvik_defs.specs.Legal.{may_enter, may_make, may_answer, on_fits, is_exposed}
use Rattle.dalvik_defs.specs.Happens.{Setting, effect_of, outcome_at, happens, first_needed, initialises}
use Rattle.dalvik_defs.specs.Moves.{needs, entered, enter, made as makes_now, make, got, answers, throws, shows_value, goes, field_value, with_field, reads, writes, reads_item, array_get, with_item, writes_item, array_put, measures_thing, array_length, key_of, moves, framework_turn}
use Rattle.dalvik_defs.specs.Quiet.{status_if, calm_classes, calm_opening}
use Rattle.dalvik_defs.specs.Step.{step, events_of, shows_from}
use Rattle.dalvik_defs.specs.declared.names.MethodKey.{MethodKey}
use Rattle.dalvik_defs.specs.declared.names.FieldKey.{FieldKey}
use Rattle.dalvik_defs.specs.declared.forms.Form.{Form}
use Rattle.dalvik_defs.specs.declared.script.Given.{Given}
use Rattle.dalvik_defs.specs.declared.script.Move.{Move}
use Rattle.dalvik_defs.specs.declared.script.Move.TheVariants as move
use Rattle.dalvik_defs.specs.declared.tables.Floats.{Floats}
use Rattle.dalvik_defs.specs.declared.program.NamedBody.{NamedBody}
use Rattle.dalvik_defs.specs.declared.program.NamedProgram.{NamedProgram}
use Rattle.removal_law.specs.Agree.{Each, sieve, CalmDone, AgreeOnDeclared, IsOpen, Agree}
use Rattle.removal_law.proofs.Lists.{clash, and_left, and_behind}
use Rattle.removal_law.proofs.Worlds.{Kinds, show_heap}
use Rattle.removal_law.proofs.Acts.{Sound, sound_heap, sound_with, sound_put, sound_at, Acts, acts}
use Rattle.removal_law.proofs.Outcomes.{OutcomeOk, Comes, comes, need_same, fresh_calm}
use Rattle.removal_law.proofs.Stacks.{OwesOk, HeadOk, FrameOk, WaitOk, top_ok, throws_at, onward_ok, Fits, StateOk, sifted, sift, left_sieved, left_head, Good, GoodState, good_one, good_quiet, entering, giving, unwinding, throwing, left_ok, going_on, starting, ending}
use Rattle.removal_law.proofs.Given.{AllFit, GivenFits, OptionFits, gets_kinds, got_kinds, fits_same, given_fine, enter_same, enter_fine, enter_barred, make_same, answer_same, answer_fine, throw_same, throw_fine, on_place_same, on_place_fine}

module _ (ok made : Text → Type 0) (live : MethodKey → Type 0) (says : MethodKey → Form → Type 0) (stands : MethodKey → ℕ → Type 0) (calm : Text → Bool) (p : NamedProgram) (o : Outer) (F G : Face) (find other : Bodies)
    (agree : Agree ok made live says stands calm p o F G find other) (floats : Floats) where
  abbrev S : Setting
  S = record { face = F; outer = o; floats = floats }

  abbrev Z : Setting
  Z = record { face = G; outer = o; floats = floats }

  abbrev Fine : World → Type 0
  Fine = Sound ok made live says stands calm p o F G find other agree

  abbrev Stacked : List Waiting → Type 0
  Stacked = WaitOk ok made live says stands calm p o F G find other agree

  abbrev Scripted : Classes → List Move → Type 0
  Scripted = Fits ok made live says stands calm p o F G find other agree

  abbrev Reached : State → Type 0
  Reached = StateOk ok made live says stands calm p o F G find other agree

  abbrev Fair : Next → Next → Type 0
  Fair = Good ok made live says stands calm p o F G find other agree

  abbrev down : List Waiting → List Waiting
  down = sifted ok made live says stands calm p o F G find other agree

  one : (x : Next) → Reached x.0 → Good ok made live says stands calm p o F G find other agree x (sift ok made live says stands calm p o F G find other agree x.0, x.1)
  one = good_one ok made live says stands calm p o F G find other agree

  silent : (x y : State) → GoodState ok made live says stands calm p o F G find other agree x y → Good ok made live says stands calm p o F G find other agree (quiet x) (quiet y)
  silent = good_quiet ok made live says stands calm p o F G find other agree

  fine_heap : (w v : World) → v.heap ≡ w.heap → Fine w → Fine v
  fine_heap = sound_heap ok made live says stands calm p o F G find other agree

  -- ---- a frame's form

  form_same : (f : Frame) → live f.method → form_at find f ≡ form_at other f
  form_same f l = ap (λ b. option_and_then (λ x. slice_get x.forms f.position) b) (agree.bodies f.method l)

  abbrev Framed : Frame → Type 0
  Framed = FrameOk ok made live says stands calm p o F G find other agree

  said : (f : Frame) (x : Form) (b : Option NamedBody) → Framed f → find f.method ≡ b → option_and_then (λ y. slice_get y.forms f.position) b ≡ Some x → says f.method x
  said f x (Some b) l e i = agree.code f.method b f.position x l.0 e l.1 i
  said f x None l e i = clash true refl (ap (λ a. elim a [ Some y ↦ false | None ↦ true ]) i)

  outcomes : (w : World) (c : Classes) (f : Frame) (x : Form) → CalmDone calm c → Fine w → Framed f → form_at find f ≡ Some x
      → Comes ok made live says stands calm p o F G find other agree f.method f.position x (outcome_at S find (need_of F c) w f) (outcome_at Z other (need_of G c) w f)
  outcomes w c f x e h l i = record { same = first ∙ r.same ∙ last; good = subst (OutcomeOk ok made live says stands calm p o F G find other agree f.method f.position x) (sym first) r.good }
    where
      a : Acts ok made live says stands calm p o F G find other agree f.method f.position x (effect_of S (Some x) w f) (effect_of Z (Some x) w f)
      a = acts ok made live says stands calm p o F G find other agree w f h floats x (said f x (find f.method) l refl i)

      r : Comes ok made live says stands calm p o F G find other agree f.method f.position x (outcome F (need_of F c) (effect_of S (Some x) w f) w f) (outcome G (need_of G c) (effect_of S (Some x) w f) w f)
      r = comes ok made live says stands calm p o F G find other agree c w f h e x (effect_of S (Some x) w f) a.good

      first : outcome_at S find (need_of F c) w f ≡ outcome F (need_of F c) (effect_of S (Some x) w f) w f
      first = ap (λ y. outcome F (need_of F c) (effect_of S y w f) w f) i

      last : outcome G (need_of G c) (effect_of S (Some x) w f) w f ≡ outcome_at Z other (need_of G c) w f
      last = ap (λ y. outcome G (need_of G c) y w f) a.same ∙ ap (λ y. outcome G (need_of G c) (effect_of Z y w f) w f) (sym i ∙ form_same f l.0)

  -- ---- what an outcome does

  module _ (w : World) (c : Classes) (rest : List Waiting) (script : List Move) (h : Fine w) (s : Stacked rest) (m : Scripted c script) where
    happening : (f : Frame) (x : Form) (a : Outcome) → Framed f → form_at find f ≡ Some x → OutcomeOk ok made live says stands calm p o F G find other agree f.method f.position x a
        → Fair (happens S find a w c f rest script) (happens Z other a w c f (down rest) script)
    happening f x (Stays w' f' e) l i g = one (On w' c (Method f' ∷ rest) script, e) (g.0, ((onward_ok ok made live says stands calm p o F G find other agree f x f' l i g.1.0 g.1.1, s), m))
    happening f x (Starts t) l i g = silent _ _ (starting ok made live says stands calm p o F G find other agree w c t (Method f ∷ rest) script g.0.0 g.0.1 h ((l, (x, (i, g.1))), s) m)
    happening f x (Enters k vs) l i g = silent _ _ (entering ok made live says stands calm p o F G find other agree w c k vs (Method f ∷ rest) script h g.0 ((l, (x, (i, g.1))), s) m)
    happening f x (Leaves w' owes e) l i g = one (On w' c (Outside (Some owes) None ∷ Method f ∷ rest) script, Some e) (g.0.0, (((g.0.1, tt), ((l, (x, (i, g.1))), s)), m))
    happening f x (Ends v) l i g = giving ok made live says stands calm p o F G find other agree f.method.signature.result w c v rest script h s m
    happening f x (Raises w' v) l i g = throws_at ok made live says stands calm p o F G find other agree w' c v f rest script g.0 l (x, (i, g.1)) s m
        (unwinding ok made live says stands calm p o F G find other agree w' c v rest script g.0 s m)
    happening f x Halts l i g = one (quiet Ended) tt

    running : (f : Frame) → Framed f → Fair (happens S find (outcome_at S find (need_of F c) w f) w c f rest script) (happens Z other (outcome_at Z other (need_of G c) w f) w c f (down rest) script)
    running f l = by (form_at find f) refl
      where
        by : (x : Option Form) → form_at find f ≡ x → Fair (happens S find (outcome_at S find (need_of F c) w f) w c f rest script) (happens Z other (outcome_at Z other (need_of G c) w f) w c f (down rest) script)
        by (Some x) i = let r = outcomes w c f x m.0 h l i in
            subst (λ a. Fair (happens S find (outcome_at S find (need_of F c) w f) w c f rest script) (happens Z other a w c f (down rest) script)) r.same
            (happening f x (outcome_at S find (need_of F c) w f) l i r.good)
        by None i = subst (λ a. Fair (happens S find a w c f rest script) (happens Z other (outcome_at Z other (need_of G c) w f) w c f (down rest) script)) (sym (ap (λ y. outcome F (need_of F c) (effect_of S y w f) w f) i))
            (subst (λ a. Fair (quiet Ended) (happens Z other a w c f (down rest) script)) (sym (ap (λ y. outcome G (need_of G c) (effect_of Z y w f) w f) (sym (form_same f l.0) ∙ i))) (one (quiet Ended) tt))

    -- ---- a class with those that come before it

    with_head : (d : Text) (ds : List Text) → calm d ≡ false → sieve calm (d ∷ ds) ≡ d ∷ sieve calm ds
    with_head d ds b = ap (λ x. cond (not x) (d ∷ sieve calm ds) (sieve calm ds)) b

    later : (t d : Text) (ds : List Text) → ok t → calm t ≡ false → Each ok (d ∷ ds)
        → Fair (quiet (goes_on F find w c t (left_of c ds) rest script)) (quiet (goes_on G other w c t (left_of c (sieve calm ds)) (down rest) script))
    later t d ds k n a = subst (λ l. Fair (quiet (goes_on F find w c t (left_of c ds) rest script)) (quiet (goes_on G other w c t l (down rest) script)))
        (left_sieved ok made live says stands calm p o F G find other agree c ds m.0)
        (silent _ _ (going_on ok made live says stands calm p o F G find other agree w c t (left_of c ds) rest script k n (left_ok ok made live says stands calm p o F G find other agree c ds a.1)
        (left_head ok made live says stands calm p o F G find other agree c ds m.0) h s m))

    needing : (t d : Text) (ds : List Text) (x : Status) → c d ≡ x → ok t → calm t ≡ false → Each ok (d ∷ ds) → calm d ≡ false
        → Fair (first_needed S find w c t d ds x rest script) (first_needed Z other w c t d (sieve calm ds) x (down rest) script)
    needing t d ds New e k n a b = subst (λ l. Fair (first_needed S find w c t d ds New rest script) (quiet (starts G other w c d (Initialiser t l ∷ down rest) script))) (with_head d ds b)
        (silent _ _ (starting ok made live says stands calm p o F G find other agree w c d (Initialiser t (d ∷ ds) ∷ rest) script a.0 b h ((k, n), ((a, b), s)) m))
    needing t d ds Failed e k n a b = subst (λ l. Fair (first_needed S find w c t d ds Failed rest script) (throws_new G other w c no_class (Initialiser t l ∷ down rest) script)) (with_head d ds b)
        (throwing ok made live says stands calm p o F G find other agree w c no_class (Initialiser t (d ∷ ds) ∷ rest) script (agree.known no_class refl) h ((k, n), ((a, b), s)) m)
    needing t d ds Running e k n a b = later t d ds k n a
    needing t d ds Done e k n a b = later t d ds k n a

    initialising : (t : Text) (ts : List Text) → ok t → calm t ≡ false → Each ok ts → HeadOk ok made live says stands calm p o F G find other agree ts
        → Fair (initialises S find w c t ts rest script) (initialises Z other w c t (sieve calm ts) (down rest) script)
    initialising t [] k n a b = silent _ _ (going_on ok made live says stands calm p o F G find other agree w c t [] rest script k n tt tt h s m)
    initialising t (d ∷ ds) k n a b = subst (λ l. Fair (initialises S find w c t (d ∷ ds) rest script) (initialises Z other w c t l (down rest) script)) (sym (with_head d ds b)) (needing t d ds (c d) refl k n a b)

  -- ---- moves

  fair_if : (b d : Bool) (x x' y y' : Next) → b ≡ d → (b ≡ true → Fair x x') → (b ≡ false → Fair y y') → Fair (elim b [ true ↦ x | false ↦ y ]) (elim d [ true ↦ x' | false ↦ y' ])
  fair_if b d x x' y y' e h k = subst (λ z. Fair (elim b [ true ↦ x | false ↦ y ]) (elim z [ true ↦ x' | false ↦ y' ])) e (by b h k)
    where
      by : (b : Bool) → (b ≡ true → Fair x x') → (b ≡ false → Fair y y') → Fair (elim b [ true ↦ x | false ↦ y ]) (elim b [ true ↦ x' | false ↦ y' ])
      by true h k = h refl
      by false h k = k refl

  over : Fair (quiet Ended) (quiet Ended)
  over = one (quiet Ended) tt

  -- `stack` has the framework on top, `waiting` the same framework with the move that waits, `rest` is the script behind it
  module _ (w : World) (c : Classes) (waiting stack : List Waiting) (rest : List Move) (h : Fine w) (q : Stacked waiting) (s : Stacked stack) (n : Scripted c rest) where
    need_cases : (x : Need) (t : Text) (a b : Next) → (x ≡ Fresh → calm t ≡ false) → ok t → Fair a b → Fair (needs S find x w c t waiting stack rest a) (needs Z other x w c t (down waiting) (down stack) rest b)
    need_cases Ready t a b e k g = g
    need_cases Fresh t a b e k g = silent _ _ (starting ok made live says stands calm p o F G find other agree w c t waiting rest k (e refl) h q n)
    need_cases Broken t a b e k g = throwing ok made live says stands calm p o F G find other agree w c no_class stack rest (agree.known no_class refl) h s n

    needed : (t : Text) (a b : Next) → ok t → Fair a b → Fair (needs S find (need_of F c t) w c t waiting stack rest a) (needs Z other (need_of G c t) w c t (down waiting) (down stack) rest b)
    needed t a b k g = subst (λ x. Fair (needs S find (need_of F c t) w c t waiting stack rest a) (needs Z other x w c t (down waiting) (down stack) rest b))
        (need_same ok made live says stands calm p o F G find other agree c t k) (need_cases (need_of F c t) t a b (fresh_calm ok made live says stands calm p o F G find other agree c t n.0) k g)

    entry : (f : Found) (vs : List Value) (u : World) → live f.key → Fine u → Fair (entered S find w c f vs waiting stack rest u) (entered Z other w c f vs (down waiting) (down stack) rest u)
    entry f vs u l k = fair_if (is_static f.flags) (is_static f.flags) _ _ _ _ refl (λ i. needed f.key.class _ _ (agree.class_ok f.key l) here) (λ i. here)
      where
        here : Fair (quiet (enters find u c f.key (spread vs) stack rest)) (quiet (enters other u c f.key (spread vs) (down stack) rest))
        here = silent _ _ (entering ok made live says stands calm p o F G find other agree u c f.key (spread vs) stack rest k l s n)

    enter_live : (f : Found) (gs : List Given) → AllFit ok made live says stands calm p o F G find other agree gs → IsOpen ok made live o F G f
        → Fair (enter S find w c (Some f) gs waiting stack rest) (enter Z other w c (Some f) gs (down waiting) (down stack) rest)
    enter_live f gs e l = fair_if (may_enter F o w (gets_all w gs).0 f gs (gets_all w gs).1) (may_enter G o w (gets_all w gs).0 f gs (gets_all w gs).1) _ _ _ _
        (enter_same ok made live says stands calm p o F G find other agree w h f gs e l)
        (λ i. entry f (gets_all w gs).1 (gets_all w gs).0 l.lives (enter_fine ok made live says stands calm p o F G find other agree w h f gs e i)) (λ i. over)

    enter_cases : (a b : Option Found) (gs : List Given) → AllFit ok made live says stands calm p o F G find other agree gs → AgreeOnDeclared ok made live o F G a b
        → Fair (enter S find w c a gs waiting stack rest) (enter Z other w c b gs (down waiting) (down stack) rest)
    enter_cases None b gs e g = subst (λ x. Fair (quiet Ended) (enter Z other w c x gs (down waiting) (down stack) rest)) (sym g) over
    enter_cases (Some f) b gs e (inl g) = subst (λ x. Fair (enter S find w c (Some f) gs waiting stack rest) (enter Z other w c x gs (down waiting) (down stack) rest)) (sym g.1) (enter_live f gs e g.0)
    enter_cases (Some f) b gs e (inr g) = subst (λ x. Fair (enter S find w c (Some f) gs waiting stack rest) (enter Z other w c x gs (down waiting) (down stack) rest)) (sym g.1)
        (subst (λ x. Fair (elim x as (λ b. Next) [ true ↦ entered S find w c f (gets_all w gs).1 waiting stack rest (gets_all w gs).0 | false ↦ quiet Ended ]) (quiet Ended))
        (sym (enter_barred ok made live says stands calm p o F G find other agree w h f gs e g.0)) over)

    making : (t : Text) → Fair (make S find w c t waiting stack rest) (make Z other w c t (down waiting) (down stack) rest)
    making t = fair_if (may_make F o t) (may_make G o t) _ _ _ _ (make_same ok made live says stands calm p o F G find other agree t)
        (λ i. let k = agree.made_ok t i in needed t _ _ k.0 (one (makes_now w c t stack rest) (
          fine_heap (with_thing w (fresh t)) (show (with_thing w (fresh t)) t (next_object w)).0 (show_heap (with_thing w (fresh t)) t (next_object w))
              (sound_with ok made live says stands calm p o F G find other agree w (fresh t) h k),
          (top_ok ok made live says stands calm p o F G find other agree stack s, n),
        )))
        (λ i. over)

  module _ (w : World) (c : Classes) (below : List Waiting) (rest : List Move) (h : Fine w) (s : Stacked below) (n : Scripted c rest) where
    answering : (owes : Option Text) (g : Option Given) → OwesOk ok made live says stands calm p o F G find other agree owes → OptionFits ok made live says stands calm p o F G find other agree g
        → Fair (answers S find w c owes g below rest) (answers Z other w c owes g (down below) rest)
    answering None g k e = over
    answering (Some t) g k e = fair_if (may_answer F o w t g) (may_answer G o w t g) _ _ _ _ (answer_same ok made live says stands calm p o F G find other agree w t g e h k)
        (λ i. giving ok made live says stands calm p o F G find other agree t (got w g).0 c (got w g).1 below rest (answer_fine ok made live says stands calm p o F G find other agree w t g e h i) s n)
        (λ i. over)

    throws_given : (owes : Option Text) (g : Given) → GivenFits ok made live says stands calm p o F G find other agree g → Fair (throws S find w c owes g below rest) (throws Z other w c owes g (down below) rest)
    throws_given None g e = over
    throws_given (Some t) g e = fair_if (may_throw F o w (gets w g).0 g (gets w g).1) (may_throw G o w (gets w g).0 g (gets w g).1) _ _ _ _ (throw_same ok made live says stands calm p o F G find other agree w g e h)
        (λ i. unwinding ok made live says stands calm p o F G find other agree (gets w g).0 c (gets w g).1 below rest (throw_fine ok made live says stands calm p o F G find other agree w g e h i) s n)
        (λ i. over)

  -- `stack` has the framework on top and stays
  module _ (c : Classes) (stack : List Waiting) (rest : List Move) (s : Stacked stack) (n : Scripted c rest) where
    showing : (w : World) (t : Text) (v : Option Value) → Fine w → Fair (shows_value w c t v stack rest) (shows_value w c t v (down stack) rest)
    showing w t (Some v) h = one (shows_value w c t (Some v) stack rest) (fine_heap w (show w t v).0 (show_heap w t v) h, (top_ok ok made live says stands calm p o F G find other agree stack s, n))
    showing w t None h = over

    going : (w : Option World) → ((u : World) → w ≡ Some u → Fine u) → Fair (goes w c stack rest) (goes w c (down stack) rest)
    going (Some w) h = one (quiet (On w c stack rest)) (h w refl, (top_ok ok made live says stands calm p o F G find other agree stack s, n))
    going None h = over

    some_is : (u v : World) → Some u ≡ Some v → u ≡ v
    some_is u v e = ap (λ x. elim x [ Some y ↦ y | None ↦ u ]) e

    none_is : (u : World) → None ≡ Some u → Fine u
    none_is u e = clash true refl (ap (λ x. elim x [ Some y ↦ false | None ↦ true ]) e)

    module _ (w : World) (h : Fine w) where
      -- a field that the framework doesn't reach
      reads_barred : (st : List Waiting) (k : FieldKey) (x : Option Place) (on : Option Given) (z : Setting) → z.outer.fields k ≡ false → reads z w c k x on st rest ≡ quiet Ended
      reads_barred st k None on z e = refl
      reads_barred st k (Some x) on z e = ap (λ b. elim (b && on_fits z.face z.outer w (got w on).0 k x on (got w on).1) as (λ b. Next) [ true ↦ shows_value (got w on).0 c k.kind (field_value (got w on).0 k x (got w on).1) st rest | false ↦ quiet Ended ]) e

      reading : (k : FieldKey) (x : Option Place) (on : Option Given) → OptionFits ok made live says stands calm p o F G find other agree on → Fair (reads S w c k x on stack rest) (reads Z w c k x on (down stack) rest)
      reading k None on e = over
      reading k (Some x) on e = fair_if (o.fields k && on_fits F o w (got w on).0 k x on (got w on).1) (o.fields k && on_fits G o w (got w on).0 k x on (got w on).1) _ _ _ _
          (ap (λ b. o.fields k && b) (on_place_same ok made live says stands calm p o F G find other agree w (got w on).0 k x on (got w on).1 e (got_kinds ok made live says stands calm p o F G find other agree w on e h.kinds)))
          (λ i. showing (got w on).0 k.kind (field_value (got w on).0 k x (got w on).1)
          (on_place_fine ok made live says stands calm p o F G find other agree w (got w on).0 k x on (got w on).1 e h (and_behind (o.fields k) (on_fits F o w (got w on).0 k x on (got w on).1) i)))
          (λ i. over)

      read_field : (k : FieldKey) (on : Option Given) (b : Bool) → o.fields k ≡ b → OptionFits ok made live says stands calm p o F G find other agree on
          → Fair (reads S w c k (F.own_field k) on stack rest) (reads Z w c k (G.own_field k) on (down stack) rest)
      read_field k on true i e = subst (λ x. Fair (reads S w c k (F.own_field k) on stack rest) (reads Z w c k x on (down stack) rest)) (agree.own_field k i) (reading k (F.own_field k) on e)
      read_field k on false i e = subst (λ x. Fair x (reads Z w c k (G.own_field k) on (down stack) rest)) (sym (reads_barred stack k (F.own_field k) on S i))
          (subst (λ x. Fair (quiet Ended) x) (sym (reads_barred (down stack) k (G.own_field k) on Z i)) over)

      written : (u : World) (k : FieldKey) (on v : Value) (t : Option Thing) → Fine u → thing_at u on ≡ t → (z : World) → with_instance u k on v t ≡ Some z → Fine z
      written u k on v (Some (Instance d fields)) g e z i = subst Fine (some_is (put_thing u on (Instance d (put_field k v fields))) z i)
          (sound_put ok made live says stands calm p o F G find other agree u on (Instance d (put_field k v fields)) g (sound_at ok made live says stands calm p o F G find other agree u on (Instance d fields) g e))
      written u k on v (Some (Items d vs)) g e z i = none_is z i
      written u k on v None g e z i = none_is z i

      field_written : (u : World) (k : FieldKey) (on : Option Value) (v : Value) → Fine u → (z : World) → with_field u k on v ≡ Some z → Fine z
      field_written u k None v g z i = subst Fine (some_is (with_static u k v) z i) (fine_heap u (with_static u k v) refl g)
      field_written u k (Some on) v g z i = written u k on v (thing_at u on) g refl z i

      abbrev place_test : Face → FieldKey → Place → Option Given → Bool
      place_test face k x on = on_fits face o w (got w on).0 k x on (got w on).1

      abbrev value_test : Face → FieldKey → Option Given → Given → Bool
      value_test face k on g = fits face o (got w on).0 (gets (got w on).0 g).0 g (gets (got w on).0 g).1 k.kind

      abbrev write_test : Face → FieldKey → Place → Option Given → Given → Bool
      write_test face k x on g = o.fields k && on_fits face o w (got w on).0 k x on (got w on).1 && fits face o (got w on).0 (gets (got w on).0 g).0 g (gets (got w on).0 g).1 k.kind

      writes_barred : (st : List Waiting) (k : FieldKey) (x : Option Place) (on : Option Given) (g : Given) (z : Setting) → z.outer.fields k ≡ false → writes z w c k x on g st rest ≡ quiet Ended
      writes_barred st k None on g z e = refl
      writes_barred st k (Some x) on g z e = ap (λ b. elim (b && on_fits z.face z.outer w (got w on).0 k x on (got w on).1 && fits z.face z.outer (got w on).0 (gets (got w on).0 g).0 g (gets (got w on).0 g).1 k.kind) as (λ b. Next)
          [ true ↦ goes (with_field (gets (got w on).0 g).0 k (got w on).1 (stored (item_of_type k.kind) (gets (got w on).0 g).1)) c st rest | false ↦ quiet Ended ]) e

      writing : (k : FieldKey) (x : Option Place) (on : Option Given) (g : Given) → OptionFits ok made live says stands calm p o F G find other agree on → GivenFits ok made live says stands calm p o F G find other agree g
          → ((y : Place) → x ≡ Some y → ok k.kind) → Fair (writes S w c k x on g stack rest) (writes Z w c k x on g (down stack) rest)
      writing k None on g e i q = over
      writing k (Some x) on g e i q = fair_if (write_test F k x on g) (write_test G k x on g) _ _ _ _ same
          (λ j. going (with_field (gets (got w on).0 g).0 k (got w on).1 (stored (item_of_type k.kind) (gets (got w on).0 g).1))
          (field_written (gets (got w on).0 g).0 k (got w on).1 (stored (item_of_type k.kind) (gets (got w on).0 g).1) (fine j)))
          (λ j. over)
        where
          on_kinds : Kinds ok (got w on).0.heap
          on_kinds = got_kinds ok made live says stands calm p o F G find other agree w on e h.kinds

          same : write_test F k x on g ≡ write_test G k x on g
          same = ap (λ y. o.fields k && y && value_test F k on g) (on_place_same ok made live says stands calm p o F G find other agree w (got w on).0 k x on (got w on).1 e on_kinds)
              ∙ ap (λ y. o.fields k && place_test G k x on && y) (fits_same ok made live says stands calm p o F G find other agree (got w on).0 (gets (got w on).0 g).0 g (gets (got w on).0 g).1 k.kind i
              (gets_kinds ok made live says stands calm p o F G find other agree (got w on).0 g i on_kinds) (q x refl))

          fine : write_test F k x on g ≡ true → Fine (gets (got w on).0 g).0
          fine j = given_fine ok made live says stands calm p o F G find other agree (got w on).0 (gets (got w on).0 g).0 g (gets (got w on).0 g).1 k.kind i
              (on_place_fine ok made live says stands calm p o F G find other agree w (got w on).0 k x on (got w on).1 e h (and_behind (o.fields k) (place_test F k x on) (and_left (o.fields k && place_test F k x on) (value_test F k on g) j)))
              (and_behind (o.fields k && place_test F k x on) (value_test F k on g) j)

      write_field : (k : FieldKey) (on : Option Given) (g : Given) (b : Bool) → o.fields k ≡ b → OptionFits ok made live says stands calm p o F G find other agree on → GivenFits ok made live says stands calm p o F G find other agree g
          → Fair (writes S w c k (F.own_field k) on g stack rest) (writes Z w c k (G.own_field k) on g (down stack) rest)
      write_field k on g true i e d = subst (λ x. Fair (writes S w c k (F.own_field k) on g stack rest) (writes Z w c k x on g (down stack) rest)) (agree.own_field k i)
          (writing k (F.own_field k) on g e d (λ y j. agree.own_kind k y i j))
      write_field k on g false i e d = subst (λ x. Fair x (writes Z w c k (G.own_field k) on g (down stack) rest)) (sym (writes_barred stack k (F.own_field k) on g S i))
          (subst (λ x. Fair (quiet Ended) x) (sym (writes_barred (down stack) k (G.own_field k) on g Z i)) over)

      -- ---- arrays

      item_read : (t : Option Thing) (i : ℕ) → Fair (reads_item w c t i stack rest) (reads_item w c t i (down stack) rest)
      item_read (Some (Items k vs)) i = showing w k (slice_get vs i) h
      item_read (Some (Instance d fields)) i = over
      item_read None i = over

      getting : (g : Given) (i : ℕ) → Fair (array_get w c g i stack rest) (array_get w c g i (down stack) rest)
      getting g i = fair_if (is_exposed w g) (is_exposed w g) _ _ _ _ refl (λ e. item_read (thing_at w (gets w g).1) i) (λ e. over)

      put_in : (u : World) (on : Value) (k : Text) (vs : List Value) (i : ℕ) (v : Value) (b : Bool) → Fine u → ok k
          → (z : World) → (elim b as (λ b. Option World) [ true ↦ Some (put_thing u on (Items k (slice_set vs i (stored (item_of_type k) v)))) | false ↦ None ]) ≡ Some z → Fine z
      put_in u on k vs i v true g q z e = subst Fine (some_is (put_thing u on (Items k (slice_set vs i (stored (item_of_type k) v)))) z e)
          (sound_put ok made live says stands calm p o F G find other agree u on (Items k (slice_set vs i (stored (item_of_type k) v))) g (agree.array k q))
      put_in u on k vs i v false g q z e = none_is z e

      item_written : (on : Value) (t : Option Thing) (i : ℕ) (g : Given) → thing_at w on ≡ t → GivenFits ok made live says stands calm p o F G find other agree g
          → Fair (writes_item S w c on t i g stack rest) (writes_item Z w c on t i g (down stack) rest)
      item_written on (Some (Items k vs)) i g e d = fair_if (fits F o w (gets w g).0 g (gets w g).1 k) (fits G o w (gets w g).0 g (gets w g).1 k) _ _ _ _
          (fits_same ok made live says stands calm p o F G find other agree w (gets w g).0 g (gets w g).1 k d (gets_kinds ok made live says stands calm p o F G find other agree w g d h.kinds) q)
          (λ j. going (with_item (gets w g).0 on k vs i (gets w g).1)
          (put_in (gets w g).0 on k vs i (gets w g).1 (nat_lt i (length vs)) (given_fine ok made live says stands calm p o F G find other agree w (gets w g).0 g (gets w g).1 k d h j) q))
          (λ j. over)
        where
          q : ok k
          q = agree.item k (sound_at ok made live says stands calm p o F G find other agree w on (Items k vs) h e).0
      item_written on (Some (Instance d fields)) i g e q = over
      item_written on None i g e q = over

      putting : (on : Given) (i : ℕ) (g : Given) → GivenFits ok made live says stands calm p o F G find other agree g → Fair (array_put S w c on i g stack rest) (array_put Z w c on i g (down stack) rest)
      putting on i g d = fair_if (is_exposed w on) (is_exposed w on) _ _ _ _ refl (λ e. item_written (gets w on).1 (thing_at w (gets w on).1) i g refl d) (λ e. over)

      length_read : (t : Option Thing) → Fair (measures_thing w c t stack rest) (measures_thing w c t (down stack) rest)
      length_read (Some (Items k vs)) = showing w (73 ∷ []) (Some (Word (length vs))) h
      length_read (Some (Instance d fields)) = over
      length_read None = over

      measuring : (g : Given) → Fair (array_length w c g stack rest) (array_length w c g (down stack) rest)
      measuring g = fair_if (is_exposed w g) (is_exposed w g) _ _ _ _ refl (λ e. length_read (thing_at w (gets w g).1)) (λ e. over)

  -- ---- a move

  -- `owes` is what the framework's frame on top owes, `rest` the script behind the move
  moving : (w : World) (c : Classes) (owes : Option Text) (x : Move) (below : List Waiting) (rest : List Move) → Fine w → OwesOk ok made live says stands calm p o F G find other agree owes → Stacked below
      → Scripted c rest → fit_move p o x ≡ true → Fair (moves S find w c owes x below rest) (moves Z other w c owes x (down below) rest)
  moving w c owes (move.Enter t k q gs) below rest h a s n e =
      enter_cases w c (Outside owes (Some (move.Enter t k q gs)) ∷ below) (Outside owes None ∷ below) rest h ((a, e), s) ((a, tt), s) n (F.declared t k q) (G.declared t k q) gs e (agree.declared t k q)
  moving w c owes (move.Make t) below rest h a s n e = making w c (Outside owes (Some (move.Make t)) ∷ below) (Outside owes None ∷ below) rest h ((a, e), s) ((a, tt), s) n t
  moving w c owes (move.Return g) below rest h a s n e = answering w c below rest h s n owes g a e
  moving w c owes (move.Throw g) below rest h a s n e = throws_given w c below rest h s n owes g e
  moving w c owes (move.Get t k q on) below rest h a s n e = read_field c (Outside owes None ∷ below) rest ((a, tt), s) n w h (key_of t k q) on (o.fields (key_of t k q)) refl e
  moving w c owes (move.Put t k q on g) below rest h a s n e = write_field c (Outside owes None ∷ below) rest ((a, tt), s) n w h (key_of t k q) on g (o.fields (key_of t k q)) refl
      (and_left (fit_option p o on) (fit_given p o g) e) (and_behind (fit_option p o on) (fit_given p o g) e)
  moving w c owes (move.ArrayGet g i) below rest h a s n e = getting c (Outside owes None ∷ below) rest ((a, tt), s) n w h g i
  moving w c owes (move.ArrayPut on i g) below rest h a s n e = putting c (Outside owes None ∷ below) rest ((a, tt), s) n w h on i g (and_behind (fit_given p o on) (fit_given p o g) e)
  moving w c owes (move.ArrayLength g) below rest h a s n e = measuring c (Outside owes None ∷ below) rest ((a, tt), s) n w h g

  -- the move that waits, else the next one of the script
  turning : (w : World) (c : Classes) (owes : Option Text) (pending : Option Move) (below : List Waiting) (script : List Move) → Fine w → Stacked (Outside owes pending ∷ below) → Scripted c script
      → Fair (framework_turn S find w c owes pending below script) (framework_turn Z other w c owes pending (down below) script)
  turning w c owes (Some x) below script h s m = moving w c owes x below script h s.0.0 s.1 m s.0.1
  turning w c owes None below [] h s m = over
  turning w c owes None below (x ∷ rest) h s m = moving w c owes x below rest h s.0.0 s.1 (m.0, and_behind (fit_move p o x) (list_all (fit_move p o) rest) m.1)
      (and_left (fit_move p o x) (list_all (fit_move p o) rest) m.1)

  -- ---- a step

  pub stepping : (t : State) → Reached t → Fair (step S find t) (step Z other (sift ok made live says stands calm p o F G find other agree t))
  stepping Ended h = over
  stepping (On w c [] script) h = over
  stepping (On w c (Method f ∷ rest) script) h = running w c rest script h.0 h.1.0.1 h.1.1 f h.1.0.0
  stepping (On w c (Initialiser t above ∷ rest) script) h = initialising w c rest script h.0 h.1.0.1.1 h.1.1 t above h.1.0.0.0 h.1.0.0.1 h.1.0.1.0.0 h.1.0.1.0.1
  stepping (On w c (Ending t ∷ rest) script) h = silent _ _ (ending ok made live says stands calm p o F G find other agree w c t rest script h.1.0.0 h.0 h.1.0.1 h.1.1)
  stepping (On w c (Outside owes pending ∷ rest) script) h = turning w c owes pending rest script h.0 h.1.0 h.1.1

  -- within each number of steps both show the same
  shows_alike : (n : ℕ) (t : State) → Reached t → shows_from S find t n ≡ shows_from Z other (sift ok made live says stands calm p o F G find other agree t) n
  shows_alike zero t h = refl
  shows_alike (suc n) t h = let r = stepping t h in
      ap (λ l. events_of (step S find t).1 ++ l) (shows_alike n (step S find t).0 r.good) ∙ ap (λ x. events_of x.1 ++ shows_from Z other x.0 n) r.same

  calm_done : CalmDone calm (calm_classes calm)
  calm_done t e = ap status_if e

  pub calm_alike : (script : List Move) (n : ℕ) → list_all (fit_move p o) script ≡ true → shows_from S find (calm_opening calm script) n ≡ shows_from Z other (calm_opening calm script) n
  calm_alike script n m = shows_alike n (calm_opening calm script) (record { kinds = tt; mades = tt }, (((tt, tt), tt), (calm_done, m)))
