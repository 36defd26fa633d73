-- A program takes the same steps for a table with other silent and shut methods, where it shuts the same of its virtual methods.
use Rattle.std.proofs.Common.{◌≡◌, ℕ, zero, suc, Bool, true, false, List, [], ◌∷◌, ◌++◌, Option, Some, None, refl, sym, ap, ◌∙◌, subst}
use std.Path.{fun_ext}
use Rattle.std.specs.Prelude.{◌&&◌, cond, find, Contains}
use Rattle.std.specs.List.{list_all}
use Rattle.lemmas.proofs.Lists.{contains_here, contains_there}
use Rattle.std.specs.Option.{option_map}
use Rattle.lemmas.proofs.Options.{none_some, some_same}
use Rattle.dalvik_defs.specs.Face.{Bodies, Face, Place, bodies_of, declared_in, face_of}
use Rattle.dalvik_defs.specs.Find.{Found, found_in}
use Rattle.dalvik_defs.specs.Flags.{is_virtual}
use Rattle.dalvik_defs.specs.Gives.{gets, gets_all, fits}
use Rattle.dalvik_defs.specs.Happens.{Setting, effect_of, first_needed, happens, initialises, outcome_at}
use Rattle.dalvik_defs.specs.Legal.{may_enter, on_fits, is_exposed}
use Rattle.dalvik_defs.specs.Moves.{answers, array_put, enter, entered, framework_turn, goes, got, key_of, moves, reads, shows_value, field_value, throws, with_field, with_item, writes, writes_item}
use Rattle.dalvik_defs.specs.Items.{stored, item_of_type}
use Rattle.dalvik_defs.specs.Names.{Text, text_eq, proto_text}
use Rattle.dalvik_defs.specs.Outcome.{Outcome, Stays, Starts, Enters, Leaves, Ends, Raises, Halts, need_of, outcome}
use Rattle.dalvik_defs.specs.Outer.{Outer}
use Rattle.dalvik_defs.specs.Shown.{Fit, IsPrefixOf, SameShown, fit_given, fit_option, fit_move}
use Rattle.dalvik_defs.specs.Stack.{gives, unwinds, form_at}
use Rattle.dalvik_defs.specs.State.{World, Classes, Status, New, Running, Done, Failed, Thing, Instance, Items, State, On, Ended, Next, quiet, opening, thing_at}
use Rattle.dalvik_defs.specs.Step.{events_of, setting_of, shows, shows_from, step}
use Rattle.dalvik_defs.specs.Under.{class_named}
use Rattle.dalvik_defs.specs.declared.events.Event.{Event}
use Rattle.dalvik_defs.specs.declared.forms.Form.{Form}
use Rattle.dalvik_defs.specs.declared.names.FieldKey.{FieldKey}
use Rattle.dalvik_defs.specs.declared.names.MethodKey.{MethodKey}
use Rattle.dalvik_defs.specs.declared.program.NamedClass.{NamedClass}
use Rattle.dalvik_defs.specs.declared.program.NamedMethod.{NamedMethod}
use Rattle.dalvik_defs.specs.declared.program.NamedProgram.{NamedProgram}
use Rattle.dalvik_defs.specs.declared.script.Given.{Given}
use Rattle.dalvik_defs.specs.declared.script.Given.TheVariants as given
use Rattle.dalvik_defs.specs.declared.script.Move.{Move}
use Rattle.dalvik_defs.specs.declared.script.Move.TheVariants as move
use Rattle.dalvik_defs.specs.declared.state.Frame.{Frame}
use Rattle.dalvik_defs.specs.declared.state.Value.{Value}
use Rattle.dalvik_defs.specs.declared.state.Waiting.{Waiting}
use Rattle.dalvik_defs.specs.declared.state.Waiting.TheVariants.{Method, Initialiser, Ending, Outside}
use Rattle.dalvik_defs.specs.declared.tables.Floats.{Floats}
use Rattle.dalvik_defs.specs.declared.tables.Framework.{Framework}
use Rattle.program_laws.specs.Shutting.{ShutsAlike, with_shut}
use Rattle.program_laws.proofs.Entering.{fits_same, throws_same, answers_same, on_same, enters_same}

-- what is found stands in the list
contains_found : {A : Type 0} (test : A → Bool) (xs : List A) (x : A) → find test xs ≡ Some x → Contains xs x
contains_found {A} test [] x e = none_some x e
contains_found {A} test (y ∷ ys) x e = by (test y) (contains_found test ys x) e
  where
    by : (b : Bool) → (find test ys ≡ Some x → Contains ys x) → cond b (Some y) (find test ys) ≡ Some x → Contains (y ∷ ys) x
    by true more i = subst (Contains (y ∷ ys)) (some_same y x i) (contains_here y ys)
    by false more i = contains_there y ys x (more i)

module _ (p : NamedProgram) (o : Outer) (silent shut : MethodKey → Bool) (alike : ShutsAlike p o.shut shut) (f : Framework) (floats : Floats) where
  abbrev s : Setting
  s = setting_of p o f floats

  abbrev s' : Setting
  s' = setting_of p (with_shut o silent shut) f floats

  abbrev find_in : Bodies
  find_in = bodies_of p

  abbrev face : Face
  face = face_of p f

  -- a method that the program declares
  declared_alike : (t n x : Text) (g : Found) → declared_in p t n x ≡ Some g → is_virtual g.flags g.key.name ≡ true → shut g.key ≡ o.shut g.key
  declared_alike t n x g e v = in_class (class_named p t) refl e
    where
      test : NamedMethod → Bool
      test m = text_eq m.name n && text_eq (proto_text m.signature) x

      in_class : (a : Option NamedClass) → class_named p t ≡ a → elim a as (λ o. Option Found) [ Some c ↦ option_map (found_in c) (find test c.methods) | None ↦ None ] ≡ Some g → shut g.key ≡ o.shut g.key
      in_class None i d = none_some g d
      in_class (Some c) i d = by (find test c.methods) refl d
        where
          by : (a : Option NamedMethod) → find test c.methods ≡ a → option_map (found_in c) a ≡ Some g → shut g.key ≡ o.shut g.key
          by None j d = none_some g d
          by (Some m) j d =
              let same : found_in c m ≡ g = some_same (found_in c m) g d in
              subst (λ (g : Found). shut g.key ≡ o.shut g.key) same
              (alike t c m i (contains_found test c.methods m j) (subst (λ (g : Found). is_virtual g.flags g.key.name ≡ true) (sym same) v))

  -- ---- moves

  enter_same : (w : World) (classes : Classes) (t n x : Text) (gs : List Given) (waiting stack : List Waiting) (rest : List Move)
      → enter s' find_in w classes (declared_in p t n x) gs waiting stack rest ≡ enter s find_in w classes (declared_in p t n x) gs waiting stack rest
  enter_same w classes t n x gs waiting stack rest = by (declared_in p t n x) refl
    where
      by : (a : Option Found) → declared_in p t n x ≡ a → enter s' find_in w classes a gs waiting stack rest ≡ enter s find_in w classes a gs waiting stack rest
      by None e = refl
      by (Some g) e = ap (λ b. elim b as (λ b. Next) [ true ↦ entered s find_in w classes g (gets_all w gs).1 waiting stack rest (gets_all w gs).0 | false ↦ quiet Ended ])
          (enters_same face o silent shut g (declared_alike t n x g e) w (gets_all w gs).0 gs (gets_all w gs).1)

  answer_same : (w : World) (classes : Classes) (owes : Option Text) (g : Option Given) (below : List Waiting) (rest : List Move) → answers s' find_in w classes owes g below rest ≡ answers s find_in w classes owes g below rest
  answer_same w classes None g below rest = refl
  answer_same w classes (Some t) g below rest = ap (λ b. elim b as (λ b. Next) [ true ↦ gives find_in t (got w g).0 classes (got w g).1 below rest | false ↦ quiet Ended ]) (answers_same face o silent shut w t g)

  throw_same : (w : World) (classes : Classes) (owes : Option Text) (g : Given) (below : List Waiting) (rest : List Move) → throws s' find_in w classes owes g below rest ≡ throws s find_in w classes owes g below rest
  throw_same w classes None g below rest = refl
  throw_same w classes (Some t) g below rest = ap (λ b. elim b as (λ b. Next) [ true ↦ unwinds face find_in (gets w g).0 classes (gets w g).1 below rest | false ↦ quiet Ended ]) (throws_same face o silent shut w (gets w g).0 g (gets w g).1)

  read_same : (w : World) (classes : Classes) (k : FieldKey) (place : Option Place) (on : Option Given) (stack : List Waiting) (rest : List Move) → reads s' w classes k place on stack rest ≡ reads s w classes k place on stack rest
  read_same w classes k None on stack rest = refl
  read_same w classes k (Some place) on stack rest = ap (λ b. elim (o.fields k && b) as (λ b. Next) [ true ↦ shows_value (got w on).0 classes k.kind (field_value (got w on).0 k place (got w on).1) stack rest | false ↦ quiet Ended ])
      (on_same face o silent shut w (got w on).0 k place on (got w on).1)

  write_same : (w : World) (classes : Classes) (k : FieldKey) (place : Option Place) (on : Option Given) (g : Given) (stack : List Waiting) (rest : List Move) → writes s' w classes k place on g stack rest ≡ writes s w classes k place on g stack rest
  write_same w classes k None on g stack rest = refl
  write_same w classes k (Some place) on g stack rest =
      let a = got w on in let b = gets a.0 g in
      let then : Bool → Next = λ x. elim x as (λ b. Next) [ true ↦ goes (with_field b.0 k a.1 (stored (item_of_type k.kind) b.1)) classes stack rest | false ↦ quiet Ended ] in
      ap (λ x. then (o.fields k && x && fits face (with_shut o silent shut) a.0 b.0 g b.1 k.kind)) (on_same face o silent shut w a.0 k place on a.1)
      ∙ ap (λ x. then (o.fields k && on_fits face o w a.0 k place on a.1 && x)) (fits_same face o silent shut a.0 b.0 g b.1 k.kind)

  item_same : (w : World) (classes : Classes) (on : Value) (thing : Option Thing) (n : ℕ) (g : Given) (stack : List Waiting) (rest : List Move) → writes_item s' w classes on thing n g stack rest ≡ writes_item s w classes on thing n g stack rest
  item_same w classes on None n g stack rest = refl
  item_same w classes on (Some (Instance c fields)) n g stack rest = refl
  item_same w classes on (Some (Items kind vs)) n g stack rest =
      ap (λ b. elim b as (λ b. Next) [ true ↦ goes (with_item (gets w g).0 on kind vs n (gets w g).1) classes stack rest | false ↦ quiet Ended ]) (fits_same face o silent shut w (gets w g).0 g (gets w g).1 kind)

  put_same : (w : World) (classes : Classes) (on : Given) (n : ℕ) (g : Given) (stack : List Waiting) (rest : List Move) → array_put s' w classes on n g stack rest ≡ array_put s w classes on n g stack rest
  put_same w classes on n g stack rest = ap (λ x. elim (is_exposed w on) as (λ b. Next) [ true ↦ x | false ↦ quiet Ended ]) (item_same w classes (gets w on).1 (thing_at w (gets w on).1) n g stack rest)

  move_same : (w : World) (classes : Classes) (owes : Option Text) (m : Move) (below : List Waiting) (rest : List Move) → moves s' find_in w classes owes m below rest ≡ moves s find_in w classes owes m below rest
  move_same w classes owes (move.Enter c n q gs) below rest = enter_same w classes c n q gs (Outside owes (Some (move.Enter c n q gs)) ∷ below) (Outside owes None ∷ below) rest
  move_same w classes owes (move.Make c) below rest = refl
  move_same w classes owes (move.Return g) below rest = answer_same w classes owes g below rest
  move_same w classes owes (move.Throw g) below rest = throw_same w classes owes g below rest
  move_same w classes owes (move.Get c n k on) below rest = read_same w classes (key_of c n k) (face.own_field (key_of c n k)) on (Outside owes None ∷ below) rest
  move_same w classes owes (move.Put c n k on g) below rest = write_same w classes (key_of c n k) (face.own_field (key_of c n k)) on g (Outside owes None ∷ below) rest
  move_same w classes owes (move.ArrayGet g n) below rest = refl
  move_same w classes owes (move.ArrayPut on n g) below rest = put_same w classes on n g (Outside owes None ∷ below) rest
  move_same w classes owes (move.ArrayLength g) below rest = refl

  turn_same : (w : World) (classes : Classes) (owes : Option Text) (pending : Option Move) (below : List Waiting) (script : List Move)
      → framework_turn s' find_in w classes owes pending below script ≡ framework_turn s find_in w classes owes pending below script
  turn_same w classes owes (Some m) below script = move_same w classes owes m below script
  turn_same w classes owes None below [] = refl
  turn_same w classes owes None below (m ∷ rest) = move_same w classes owes m below rest

  -- ---- steps

  happens_same : (x : Outcome) (w : World) (classes : Classes) (g : Frame) (rest : List Waiting) (script : List Move) → happens s' find_in x w classes g rest script ≡ happens s find_in x w classes g rest script
  happens_same (Stays w' g' shown) w classes g rest script = refl
  happens_same (Starts c) w classes g rest script = refl
  happens_same (Enters k values) w classes g rest script = refl
  happens_same (Leaves w' owes shown) w classes g rest script = refl
  happens_same (Ends v) w classes g rest script = refl
  happens_same (Raises w' v) w classes g rest script = refl
  happens_same Halts w classes g rest script = refl

  needed_same : (w : World) (classes : Classes) (c d : Text) (ds : List Text) (z : Status) (rest : List Waiting) (script : List Move)
      → first_needed s' find_in w classes c d ds z rest script ≡ first_needed s find_in w classes c d ds z rest script
  needed_same w classes c d ds New rest script = refl
  needed_same w classes c d ds Failed rest script = refl
  needed_same w classes c d ds Running rest script = refl
  needed_same w classes c d ds Done rest script = refl

  initial_same : (w : World) (classes : Classes) (c : Text) (above : List Text) (rest : List Waiting) (script : List Move) → initialises s' find_in w classes c above rest script ≡ initialises s find_in w classes c above rest script
  initial_same w classes c [] rest script = refl
  initial_same w classes c (d ∷ ds) rest script = needed_same w classes c d ds (classes d) rest script

  at_same : (form : Option Form) (w : World) (g : Frame) → effect_of s' form w g ≡ effect_of s form w g
  at_same (Some x) w g = refl
  at_same None w g = refl

  step_same : (t : State) → step s' find_in t ≡ step s find_in t
  step_same Ended = refl
  step_same (On w classes [] script) = refl
  step_same (On w classes (Method g ∷ rest) script) =
      happens_same (outcome_at s' find_in (need_of face classes) w g) w classes g rest script
      ∙ ap (λ e. happens s find_in (outcome face (need_of face classes) e w g) w classes g rest script) (at_same (form_at find_in g) w g)
  step_same (On w classes (Initialiser c above ∷ rest) script) = initial_same w classes c above rest script
  step_same (On w classes (Ending c ∷ rest) script) = refl
  step_same (On w classes (Outside owes pending ∷ rest) script) = turn_same w classes owes pending rest script

  from_same : (n : ℕ) (t : State) → shows_from s' find_in t n ≡ shows_from s find_in t n
  from_same zero t = refl
  from_same (suc n) t = ap (λ x. events_of x.1 ++ shows_from s' find_in x.0 n) (step_same t) ∙ ap (λ l. events_of (step s find_in t).1 ++ l) (from_same n (step s find_in t).0)

  pub shows_same : (script : List Move) (n : ℕ) → shows p (with_shut o silent shut) f floats script n ≡ shows p o f floats script n
  shows_same script n = from_same n (opening script)

module _ (p q : NamedProgram) (o : Outer) (silent shut : MethodKey → Bool) (alike : ShutsAlike p o.shut shut) (alike_q : ShutsAlike q o.shut shut) where
  fit_same : (f : Framework) (script : List Move) → Fit p o f script → Fit p (with_shut o silent shut) f script
  fit_same f script fit = record { rows = fit.rows; classes = fit.classes; values = values script fit.values; ranged = fit.ranged }
    where
      values : (ms : List Move) → list_all (fit_move p o) ms ≡ true → list_all (fit_move p (with_shut o silent shut)) ms ≡ true
      values ms e = ap (λ t. list_all t ms) (fun_ext moved) ∙ e
        where
          given_same : (g : Given) → fit_given p (with_shut o silent shut) g ≡ fit_given p o g
          given_same (given.New kind) = refl
          given_same (given.Array item size) = refl
          given_same g = refl

          option_same : (g : Option Given) → fit_option p (with_shut o silent shut) g ≡ fit_option p o g
          option_same None = refl
          option_same (Some g) = given_same g

          all_given : (gs : List Given) → list_all (fit_given p (with_shut o silent shut)) gs ≡ list_all (fit_given p o) gs
          all_given gs = ap (λ t. list_all t gs) (fun_ext given_same)

          moved : (m : Move) → fit_move p (with_shut o silent shut) m ≡ fit_move p o m
          moved (move.Enter c n q gs) = all_given gs
          moved (move.Make c) = refl
          moved (move.Return g) = option_same g
          moved (move.Throw g) = given_same g
          moved (move.Get c n k on) = option_same on
          moved (move.Put c n k on g) = ap (λ b. b && fit_given p (with_shut o silent shut) g) (option_same on) ∙ ap (λ b. fit_option p o on && b) (given_same g)
          moved (move.ArrayGet on n) = given_same on
          moved (move.ArrayPut on n g) = ap (λ b. b && fit_given p (with_shut o silent shut) g) (given_same on) ∙ ap (λ b. fit_given p o on && b) (given_same g)
          moved (move.ArrayLength on) = given_same on

  pub shown_alike : SameShown p q (with_shut o silent shut) → SameShown p q o
  shown_alike same = record {
    there = λ f a script n fit. let r = same.there f a script n (fit_same f script fit) in (
      r.0,
      subst (λ xs. IsPrefixOf xs (shows q o f a script r.0)) (shows_same p o silent shut alike f a script n)
          (subst (λ ys. IsPrefixOf (shows p (with_shut o silent shut) f a script n) ys) (shows_same q o silent shut alike_q f a script r.0) r.1),
    );
    back = λ f a script n fit. let r = same.back f a script n (fit_same f script fit) in (
      r.0,
      subst (λ xs. IsPrefixOf xs (shows p o f a script r.0)) (shows_same q o silent shut alike_q f a script n)
          (subst (λ ys. IsPrefixOf (shows q (with_shut o silent shut) f a script n) ys) (shows_same p o silent shut alike f a script r.0) r.1),
    );
  }
