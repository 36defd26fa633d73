-- What the framework enters and makes is typed.
use Rattle.std.proofs.Common.{◌≡◌, Bool, true, false, true≢false, List, [], ◌∷◌, Option, Some, None, inr, refl, sym, ap, ◌∙◌, subst}
use Rattle.std.specs.Prelude.{◌&&◌, ◌||◌, not, find, slice_get, is_some, Contains, if◌then◌else◌}
use Rattle.std.specs.Option.{option_map}
use Rattle.dalvik_defs.specs.Names.{Text, text_eq, is_class_type, proto_text}
use Rattle.dalvik_defs.specs.Face.{face_of, bodies_of, declared_in, is_concrete}
use Rattle.dalvik_defs.specs.Find.{Found, found_in}
use Rattle.dalvik_defs.specs.Under.{class_named, is_under}
use Rattle.dalvik_defs.specs.Flags.{is_static, is_interface, is_abstract}
use Rattle.dalvik_defs.specs.Silence.{key_in}
use Rattle.dalvik_defs.specs.Outer.{Outer}
use Rattle.dalvik_defs.specs.Show.{show}
use Rattle.dalvik_defs.specs.State.{World, Classes, Thing, is_null, kind_of, kind_of_thing, fresh, with_thing, next_object}
use Rattle.dalvik_defs.specs.Gives.{gets, gets_all, spread, all_fit, is_on, fits as given_fits}
use Rattle.dalvik_defs.specs.Legal.{may_enter, may_enter_found, receiver_ok, may_reach, is_class_initialiser, may_make}
use Rattle.dalvik_defs.specs.declared.program.NamedClass.{NamedClass}
use Rattle.dalvik_defs.specs.declared.program.NamedMethod.{NamedMethod}
use Rattle.dalvik_defs.specs.declared.program.NamedBody.{NamedBody}
use Rattle.dalvik_defs.specs.declared.state.Value.{Value}
use Rattle.dalvik_defs.specs.declared.state.Value.TheVariants.{Word, Low, High, Object, Literal, Class}
use Rattle.dalvik_defs.specs.declared.tables.Floats.{Floats}
use Rattle.dalvik_defs.specs.declared.tables.Framework.{Framework}
use Rattle.dalvik_defs.specs.declared.program.NamedProgram.{NamedProgram}
use Rattle.dalvik_defs.specs.declared.script.Given.{Given}
use Rattle.pass_defs.specs.Kinds.{Kind, is_plain, kind_eq, is_number, is_initialised, kind_of_reference, fits}
use Rattle.pass_defs.specs.Kinds as kind
use Rattle.pass_defs.specs.Typed.{parameter_kinds, argument_kinds, receiver_kind, is_constructor}
use Rattle.run_laws.specs.Holds.{Each}
use Rattle.run_laws.proofs.Growing.{grows_same}
use Rattle.run_laws.proofs.Plain.{all_grow}
use Rattle.run_laws.specs.TypedStates.{AllHold, IsObject, KindHolds, TypedWorld}
use Rattle.run_laws.proofs.Settled.{IsSettled, FindsRegularly}
use Rattle.run_laws.proofs.Registers.{no_low, and_left, and_right}
use Rattle.run_laws.proofs.Sorts.{class_alone, not_wide}
use Rattle.run_laws.proofs.Climbs.{found_in_list, class_in, defined_by, none_some, some_one}
use Rattle.run_laws.proofs.Worlds.{typed_with, typed_show, fresh_typed, new_object, object_there}
use Rattle.run_laws.proofs.Calls.{Enter, entered, receiver_whole}
use Rattle.run_laws.proofs.Given.{GivenTyped, gets_typed, gives_first, given_typed, all_given}

pub untrue : (b : Bool) → not b ≡ true → b ≡ false
untrue true i = absurd (true≢false (sym i))
untrue false i = refl

pub each_classes : (ts : List Text) → Each (λ t. Unit {0}) ts
each_classes [] = tt
each_classes (t ∷ ts) = (tt, each_classes ts)

module _ (p : NamedProgram) (o : Outer) (f : Framework) (floats : Floats) (reg : IsSettled p) (finds : FindsRegularly p f) where
  -- ---- entries

  -- what is under a type is an object
  pub object_under : (w : World) (v : Value) (u : Text) → (face_of p f).under (kind_of w v) u ≡ true → IsObject w v
  object_under w (Object m) u e = by (slice_get w.heap m) e
    where
      by : (y : Option Thing) → is_under p f (elim y as (λ y. Text) [ Some t ↦ kind_of_thing t | None ↦ [] ]) u ≡ true → is_some y ≡ true
      by (Some t) i = refl
      by None i = absurd (true≢false (sym i))
  object_under w (Literal s) u e = tt
  object_under w (Class s) u e = tt
  object_under w (Word m) u e = absurd (true≢false (sym e))
  object_under w (Low m) u e = absurd (true≢false (sym e))
  object_under w (High m) u e = absurd (true≢false (sym e))

  receiver_held : (w : World) (c : NamedClass) (m : NamedMethod) (v : Value) → IsObject w v → (face_of p f).under (kind_of w v) c.name ≡ true → KindHolds p f c.name w (receiver_kind c m) v
  receiver_held w c m v ob u = by (is_constructor m) (is_interface c.flags)
    where
      by : (a b : Bool) → KindHolds p f c.name w (if a then kind.FreshThis else if b then kind.Reference else kind.Class c.name) v
      by true b = (ob, u)
      by false true = inr ob
      by false false = inr (ob, u)

  pub enters_typed : (w : World) (cs : Classes) (u n q : Text) (gs : List Given) (d : Found) → TypedWorld p f w → declared_in p u n q ≡ Some d → may_enter (face_of p f) o w (gets_all w gs).0 d gs (gets_all w gs).1 ≡ true
      → TypedWorld p f (gets_all w gs).0 × Enter p o f floats reg (gets_all w gs).0 cs d.key (spread (gets_all w gs).1) (bodies_of p d.key)
  enters_typed w cs u n q gs d tw e l = by (class_named p u) refl e
    where
      w1 : World
      w1 = (gets_all w gs).0

      in_class : (c : NamedClass) → Contains p.classes c → (y : Option NamedMethod) → find (λ m. text_eq m.name n && text_eq (proto_text m.signature) q) c.methods ≡ y → option_map (found_in c) y ≡ Some d → TypedWorld p f w1 × Enter p o f floats reg w1 cs d.key (spread (gets_all w gs).1) (bodies_of p d.key)
      in_class c ci None i j = none_some d j
      in_class c ci (Some m) i j = (typed.0, bodied m.body refl)
        where
          is : found_in c m ≡ d
          is = some_one (found_in c m) d j

          may : may_enter (face_of p f) o w w1 (found_in c m) gs (gets_all w gs).1 ≡ true
          may = subst (λ d. may_enter (face_of p f) o w w1 d gs (gets_all w gs).1 ≡ true) (sym is) l

          ready : Bool
          ready = is_some m.body && not (is_class_initialiser (found_in c m))

          args_static : is_static m.flags ≡ true → may_enter_found (face_of p f) o w w1 (found_in c m) gs (gets_all w gs).1 ≡ true → TypedWorld p f w1 × AllHold p f c.name w1 (argument_kinds p c m) (spread (gets_all w gs).1)
          args_static st k = let fit = and_right (o.methods (key_in c m)) (all_fit (face_of p f) o w w1 gs (gets_all w gs).1 m.signature.parameters) (subst (λ b. (elim b as (λ b. Bool) [
            | true ↦ o.methods (key_in c m) && all_fit (face_of p f) o w w1 gs (gets_all w gs).1 m.signature.parameters
            | false ↦ all_fit (face_of p f) o w w1 gs (gets_all w gs).1 (c.name ∷ m.signature.parameters) && receiver_ok (face_of p f) o w1 (found_in c m) (gets_all w gs).1
          ]) ≡ true) st k) in
              let all = all_given p o f floats reg gs w w1 m.signature.parameters tw (grows_same w1 w1 refl) fit in
              (all.0, subst (λ b. AllHold p f c.name w1 (elim b as (λ b. List Kind) [ true ↦ parameter_kinds p m.signature.parameters | false ↦ receiver_kind c m ∷ parameter_kinds p m.signature.parameters ]) (spread (gets_all w gs).1)) (sym st) (all.1 c.name))

          args_on : is_static m.flags ≡ false → (gs : List Given) → (all_fit (face_of p f) o w (gets_all w gs).0 gs (gets_all w gs).1 (c.name ∷ m.signature.parameters) && receiver_ok (face_of p f) o (gets_all w gs).0 (found_in c m) (gets_all w gs).1) ≡ true
              → TypedWorld p f (gets_all w gs).0 × AllHold p f c.name (gets_all w gs).0 (argument_kinds p c m) (spread (gets_all w gs).1)
          args_on st [] k = absurd (true≢false (sym k))
          args_on st (g ∷ gs) k = (
            rest.0,
            subst (λ b. AllHold p f c.name w2 (elim b as (λ b. List Kind) [ true ↦ parameter_kinds p m.signature.parameters | false ↦ receiver_kind c m ∷ parameter_kinds p m.signature.parameters ]) (spread (v ∷ vs))) (sym st)
                (subst (AllHold p f c.name w2 (receiver_kind c m ∷ parameter_kinds p m.signature.parameters)) (sym (v_typed.alone (not_wide c.name (class_alone c.name named).0) vs)) (receiver_held w2 c m v ob (and_right (not (is_null v)) ((face_of p f).under (kind_of w2 v) c.name) on), rest.1 c.name, no_low (receiver_kind c m) v (parameter_kinds p m.signature.parameters) (spread vs) (receiver_whole c m))),
          )
            where
              w2 : World
              w2 = (gets_all w (g ∷ gs)).0

              v : Value
              v = (gets w g).1

              vs : List Value
              vs = (gets_all (gets w g).0 gs).1

              named : is_class_type c.name ≡ true
              named = reg.regular.class_types c.name (defined_by p c.name (Some c) (reg.regular.named c ci))

              fit : Bool
              fit = all_fit (face_of p f) o (gets w g).0 w2 gs vs m.signature.parameters

              first : given_fits (face_of p f) o w w2 g v c.name ≡ true
              first = and_left (given_fits (face_of p f) o w w2 g v c.name) fit (and_left (given_fits (face_of p f) o w w2 g v c.name && fit) (receiver_ok (face_of p f) o w2 (found_in c m) (v ∷ vs)) k)

              rest : TypedWorld p f w2 × ((d : Text) → AllHold p f d w2 (parameter_kinds p m.signature.parameters) (spread vs))
              rest = all_given p o f floats reg gs (gets w g).0 w2 m.signature.parameters (gets_typed p o f floats reg w g (gives_first p o f floats reg w w2 g v c.name first) tw) (grows_same w2 w2 refl) (and_right (given_fits (face_of p f) o w w2 g v c.name) fit (and_left (given_fits (face_of p f) o w w2 g v c.name && fit) (receiver_ok (face_of p f) o w2 (found_in c m) (v ∷ vs)) k))

              v_typed : GivenTyped p o f floats reg w2 c.name v
              v_typed = given_typed p o f floats reg w w2 g c.name tw (all_grow gs (gets w g).0) first

              on : is_on (face_of p f) w2 v c.name ≡ true
              on = and_left (is_on (face_of p f) w2 v c.name) (may_reach (face_of p f) o (kind_of w2 v) (found_in c m)) (and_right (given_fits (face_of p f) o w w2 g v c.name && fit) (receiver_ok (face_of p f) o w2 (found_in c m) (v ∷ vs)) k)

              ob : IsObject w2 v
              ob = object_under w2 v c.name (and_right (not (is_null v)) ((face_of p f).under (kind_of w2 v) c.name) on)

          typed : TypedWorld p f w1 × AllHold p f c.name w1 (argument_kinds p c m) (spread (gets_all w gs).1)
          typed = one (is_static m.flags) refl
            where
              one : (b : Bool) → is_static m.flags ≡ b → TypedWorld p f w1 × AllHold p f c.name w1 (argument_kinds p c m) (spread (gets_all w gs).1)
              one true st = args_static st (and_right ready (may_enter_found (face_of p f) o w w1 (found_in c m) gs (gets_all w gs).1) may)
              one false st = args_on st gs (subst (λ b. (elim b as (λ b. Bool) [
                | true ↦ o.methods (key_in c m) && all_fit (face_of p f) o w w1 gs (gets_all w gs).1 m.signature.parameters
                | false ↦ all_fit (face_of p f) o w w1 gs (gets_all w gs).1 (c.name ∷ m.signature.parameters) && receiver_ok (face_of p f) o w1 (found_in c m) (gets_all w gs).1
              ]) ≡ true) st (and_right ready (may_enter_found (face_of p f) o w w1 (found_in c m) gs (gets_all w gs).1) may))

          bodied : (y : Option NamedBody) → m.body ≡ y → Enter p o f floats reg w1 cs d.key (spread (gets_all w gs).1) (bodies_of p d.key)
          bodied None k = absurd (true≢false (sym (and_left (is_some m.body) (not (is_class_initialiser (found_in c m))) (and_left ready (may_enter_found (face_of p f) o w w1 (found_in c m) gs (gets_all w gs).1) may)) ∙ ap (λ y. is_some y) k))
          bodied (Some b) k = entered p o f floats reg w1 cs c m b d.key (spread (gets_all w gs).1) ci (found_in_list (λ m. text_eq m.name n && text_eq (proto_text m.signature) q) c.methods m i) k (ap (λ d. d.key) (sym is)) typed.1

      by : (y : Option NamedClass) → class_named p u ≡ y → (elim y as (λ y. Option Found) [ Some c ↦ option_map (found_in c) (find (λ m. text_eq m.name n && text_eq (proto_text m.signature) q) c.methods) | None ↦ None ]) ≡ Some d → TypedWorld p f w1 × Enter p o f floats reg w1 cs d.key (spread (gets_all w gs).1) (bodies_of p d.key)
      by None i j = none_some d j
      by (Some c) i j = in_class c (class_in p u c i) (find (λ m. text_eq m.name n && text_eq (proto_text m.signature) q) c.methods) refl j

  pub makes_typed : (w : World) (u : Text) → TypedWorld p f w → may_make (face_of p f) o u ≡ true → TypedWorld p f (show (with_thing w (fresh u)) u (next_object w)).0
  makes_typed w u tw e = typed_show p f (with_thing w (fresh u)) u (next_object w) (typed_with p f w (fresh u) tw (fresh_typed p f w u (reg.regular.class_types u (by (class_named p u) (and_right (o.classes u || o.constructed u) (is_concrete (face_of p f) u) e))))) (object_there (with_thing w (fresh u)) (next_object w) (new_object w (fresh u)))
    where
      by : (y : Option NamedClass) → (elim (option_map (λ c. c.flags) y) as (λ y. Bool) [ Some n ↦ not (is_interface n) && not (is_abstract n) | None ↦ false ]) ≡ true → (elim y as (λ y. Bool) [ Some c ↦ true | None ↦ false ]) ≡ true
      by (Some c) i = refl
      by None i = i
