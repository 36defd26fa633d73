-- Values that the framework gives: they are there, they have 32 bits, and no field changes by them.
use Rattle.std.proofs.Common.{◌≡◌, ℕ, Bool, true, false, List, [], ◌∷◌, ◌++◌, Option, Some, None, refl, sym, ap, ◌∙◌, subst, arith}
use Rattle.std.specs.Prelude.{◌&&◌, find, length, slice_get, Contains}
use Rattle.std.specs.Option.{option_map}
use Rattle.dalvik_defs.specs.Names.{Text, text_eq, signature_eq, initialiser_name, void, proto_text}
use Rattle.dalvik_defs.specs.Face.{declared_in, Place, place_of}
use Rattle.dalvik_defs.specs.Find.{Found, defined_field, defined_method, found_in}
use Rattle.dalvik_defs.specs.Flags.{is_static}
use Rattle.dalvik_defs.specs.Gives.{gets, gets_all, exposed_at}
use Rattle.dalvik_defs.specs.Legal.{is_class_initialiser}
use Rattle.dalvik_defs.specs.Moves.{got}
use Rattle.dalvik_defs.specs.Outer.{Outer}
use Rattle.dalvik_defs.specs.Show.{with_given}
use Rattle.dalvik_defs.specs.State.{World, Exposed, Thing, Instance, fresh, kind_of, kind_of_thing, with_thing, thing_at}
use Rattle.dalvik_defs.specs.ActArray.{zeros}
use Rattle.dalvik_defs.specs.Under.{class_named, defines, is_under}
use Rattle.dalvik_defs.specs.declared.names.FieldKey.{FieldKey}
use Rattle.dalvik_defs.specs.declared.state.Value.{Value}
use Rattle.dalvik_defs.specs.declared.state.Value.TheVariants.{Word, Object}
use Rattle.dalvik_defs.specs.declared.script.Given.{Given}
use Rattle.dalvik_defs.specs.declared.script.Given.TheVariants as given
use Rattle.dalvik_defs.specs.declared.program.NamedClass.{NamedClass}
use Rattle.dalvik_defs.specs.declared.program.NamedField.{NamedField}
use Rattle.dalvik_defs.specs.declared.program.NamedMethod.{NamedMethod}
use Rattle.dalvik_defs.specs.declared.program.NamedProgram.{NamedProgram}
use Rattle.dalvik_defs.specs.declared.tables.Floats.{Floats}
use Rattle.dalvik_defs.specs.declared.tables.Framework.{Framework}
use Rattle.pass_defs.specs.Analysis.{IsRanged}
use Rattle.pass_defs.specs.Facts.{IsEnteredStatic}
use Rattle.pass_defs.specs.Live.{IsMade, unconditional}
use Rattle.run_laws.specs.Fine.{IsThere}
use Rattle.run_laws.specs.Holds.{Each}
use Rattle.run_laws.proofs.Fine.{each_append, each_get, each_to, new_there}
use Rattle.run_laws.proofs.Growing.{grows_with, there_later}
use Rattle.run_laws.specs.TypedStates.{IsObject, TypedWorld}
use Rattle.run_laws.proofs.Settled.{IsSettled, FindsRegularly}
use Rattle.run_laws.proofs.Climbs.{none_some, some_one, class_in, defined_below, found_in_list}
use Rattle.run_laws.proofs.Framework.{object_under}
use Rattle.run_laws.proofs.Values.{instance_thing}
use Rattle.run_laws.proofs.Worlds.{at_typed}
use Rattle.cover_law.specs.Known.{KnownWorld, MadeThing, RangedGiven, MaybeGiven, MaybeRanged}
use Rattle.cover_law.proofs.Worlds.{SameFields, same_heap, same_world, same_with, same_then}

-- ---- worlds

given_same : (w : World) (t : Thing) → SameFields w (with_thing w t) → SameFields w (with_given w t)
given_same w t s = let w1 = with_thing w t in same_then w w1 (with_given w t) s (same_heap w1 (with_given w t) refl refl)

pub gets_same : (w : World) (g : Given) → SameFields w (gets w g).0
gets_same w (given.New kind) = given_same w (fresh kind) (same_with w (fresh kind) (λ k. refl))
gets_same w (given.Array item size) = given_same w (zeros item size) (same_with w (zeros item size) tt)
gets_same w given.Null = same_world w
gets_same w (given.Word n) = same_world w
gets_same w (given.Wide n) = same_world w
gets_same w (given.Exposed n) = same_world w
gets_same w (given.Literal s) = same_world w
gets_same w (given.Class s) = same_world w

pub got_same : (w : World) (y : Option Given) → SameFields w (got w y).0
got_same w None = same_world w
got_same w (Some g) = gets_same w g

pub all_same : (gs : List Given) (w : World) → SameFields w (gets_all w gs).0
all_same [] w = same_world w
all_same (g ∷ gs) w = same_then w (gets w g).0 (gets_all (gets w g).0 gs).0 (gets_same w g) (all_same gs (gets w g).0)

-- ---- values

exposed_ranged : (w : World) (n : ℕ) → IsRanged (exposed_at w n)
exposed_ranged w n = by (slice_get w.exposed n)
  where
    by : (e : Option Exposed) → IsRanged (elim e as (λ e. Value) [ Some e ↦ Object e.number | None ↦ Word 0 ])
    by None = omega arith
    by (Some e) = tt

pub gets_ranged : (w : World) (g : Given) → RangedGiven g → IsRanged (gets w g).1
gets_ranged w given.Null h = omega arith
gets_ranged w (given.Word n) h = h
gets_ranged w (given.Wide n) h = tt
gets_ranged w (given.Exposed n) h = exposed_ranged w n
gets_ranged w (given.New kind) h = tt
gets_ranged w (given.Array item size) h = tt
gets_ranged w (given.Literal s) h = tt
gets_ranged w (given.Class s) h = tt

pub got_ranged : (w : World) (y : Option Given) → MaybeGiven y → MaybeRanged (got w y).1
got_ranged w None h = tt
got_ranged w (Some g) h = gets_ranged w g h

-- what was exposed is there
abbrev pub ExposedThere : World → Type 0
ExposedThere w = Each (λ e. IsThere w (Object e.number)) w.exposed

given_exposed : (w : World) (t : Thing) → ExposedThere w → ExposedThere (with_given w t)
given_exposed w t h = let w1 = with_thing w t in each_append (λ e. IsThere w1 (Object e.number)) w.exposed (record { number = length w.heap; printed = false })
    (each_to (λ e. IsThere w (Object e.number)) (λ e. IsThere w1 (Object e.number)) (λ e. there_later w w1 (grows_with w t) (Object e.number)) w.exposed h) (new_there w t)

pub gets_exposed : (w : World) (g : Given) → ExposedThere w → ExposedThere (gets w g).0
gets_exposed w (given.New kind) h = given_exposed w (fresh kind) h
gets_exposed w (given.Array item size) h = given_exposed w (zeros item size) h
gets_exposed w given.Null h = h
gets_exposed w (given.Word n) h = h
gets_exposed w (given.Wide n) h = h
gets_exposed w (given.Exposed n) h = h
gets_exposed w (given.Literal s) h = h
gets_exposed w (given.Class s) h = h

pub got_exposed : (w : World) (y : Option Given) → ExposedThere w → ExposedThere (got w y).0
got_exposed w None h = h
got_exposed w (Some g) h = gets_exposed w g h

exposed_there : (w : World) (n : ℕ) → ExposedThere w → IsThere w (exposed_at w n)
exposed_there w n h = by (slice_get w.exposed n) refl
  where
    by : (e : Option Exposed) → slice_get w.exposed n ≡ e → IsThere w (elim e as (λ e. Value) [ Some e ↦ Object e.number | None ↦ Word 0 ])
    by None i = tt
    by (Some e) i = each_get (λ e. IsThere w (Object e.number)) w.exposed n e h i

pub gets_there : (w : World) (g : Given) → ExposedThere w → IsThere (gets w g).0 (gets w g).1
gets_there w (given.New kind) h = new_there w (fresh kind)
gets_there w (given.Array item size) h = new_there w (zeros item size)
gets_there w (given.Exposed n) h = exposed_there w n h
gets_there w given.Null h = tt
gets_there w (given.Word n) h = tt
gets_there w (given.Wide n) h = tt
gets_there w (given.Literal s) h = tt
gets_there w (given.Class s) h = tt

pub each_behind : (P : Value → Type 0) (xs ys : List Value) → Each P (xs ++ ys) → Each P ys
each_behind P [] ys h = h
each_behind P (x ∷ xs) ys h = each_behind P xs ys h.1

module _ (p : NamedProgram) (o : Outer) (f : Framework) (floats : Floats) (reg : IsSettled p) (finds : FindsRegularly p f) where
  pub typed_exposed : (w : World) → TypedWorld p f w → ExposedThere w
  typed_exposed w tw = each_to (λ e. IsObject w (Object e.number)) (λ e. IsThere w (Object e.number)) (λ e h. h) w.exposed tw.exposed

  -- ---- what is under a class of the program is made

  pub made_under : (w : World) → TypedWorld p f w → KnownWorld p o w → (v : Value) (u : Text) → is_under p f (kind_of w v) u ≡ true → defines p u ≡ true → IsMade p o unconditional (kind_of w v)
  made_under w tw kw v u e d = by v (instance_thing p f reg w tw v u (object_under p o f floats reg finds w v u e) d e) e
    where
      by : (v : Value) → (c : Text) × ((fs : FieldKey → Option Value) × (thing_at w v ≡ Some (Instance c fs))) → is_under p f (kind_of w v) u ≡ true → IsMade p o unconditional (kind_of w v)
      by (Object m) (c, (fs, at)) e = let kind : kind_of w (Object m) ≡ c = ap (λ y. elim y as (λ y. Text) [ Some th ↦ kind_of_thing th | None ↦ [] ]) at in
          subst (IsMade p o unconditional) (sym kind) (each_get (MadeThing p o) w.heap m (Instance c fs) kw.made at
          (defined_below p f reg c u (at_typed p f w (Object m) (Instance c fs) tw at).0 d (subst (λ k. is_under p f k u ≡ true) kind e)))
      by v (c, (fs, at)) e = none_some (Instance c fs) at

  pub defined_under : (w : World) → TypedWorld p f w → (v : Value) (u : Text) → is_under p f (kind_of w v) u ≡ true → defines p u ≡ true → defines p (kind_of w v) ≡ true
  defined_under w tw v u e d = by v (instance_thing p f reg w tw v u (object_under p o f floats reg finds w v u e) d e) e
    where
      by : (v : Value) → (c : Text) × ((fs : FieldKey → Option Value) × (thing_at w v ≡ Some (Instance c fs))) → is_under p f (kind_of w v) u ≡ true → defines p (kind_of w v) ≡ true
      by (Object m) (c, (fs, at)) e = let kind : kind_of w (Object m) ≡ c = ap (λ y. elim y as (λ y. Text) [ Some th ↦ kind_of_thing th | None ↦ [] ]) at in
          subst (λ k. defines p k ≡ true) (sym kind) (defined_below p f reg c u (at_typed p f w (Object m) (Instance c fs) tw at).0 d (subst (λ k. is_under p f k u ≡ true) kind e))
      by v (c, (fs, at)) e = none_some (Instance c fs) at

  -- ---- methods that the framework enters

  pub record IsDeclared (d : Found) : Type 0 where
    pub class : NamedClass
    pub method : NamedMethod
    pub class_in : Contains p.classes class
    pub method_in : Contains class.methods method
    pub is : found_in class method ≡ d

  pub declared : (c n q : Text) (d : Found) → declared_in p c n q ≡ Some d → IsDeclared d
  declared c n q d e = by (class_named p c) refl e
    where
      test : NamedMethod → Bool
      test m = text_eq m.name n && text_eq (proto_text m.signature) q

      in_class : (k : NamedClass) → Contains p.classes k → (y : Option NamedMethod) → find test k.methods ≡ y → option_map (found_in k) y ≡ Some d → IsDeclared d
      in_class k inside None i j = none_some d j
      in_class k inside (Some m) i j = record { class = k; method = m; class_in = inside; method_in = found_in_list test k.methods m i; is = some_one (found_in k m) d j }

      by : (y : Option NamedClass) → class_named p c ≡ y → (elim y as (λ y. Option Found) [ Some k ↦ option_map (found_in k) (find test k.methods) | None ↦ None ]) ≡ Some d → IsDeclared d
      by None i j = none_some d j
      by (Some k) i j = in_class k (class_in p c k i) (find test k.methods) refl j

  pub entered_static : (d : Found) → IsDeclared d → d.coded ≡ true → is_static d.flags ≡ true → is_class_initialiser d ≡ false → o.methods d.key ≡ true → IsEnteredStatic p o d.key
  entered_static d is coded static plain kept = record {
    method = is.method;
    defined = ap (defined_method p) (sym (ap (λ (d : Found). d.key) is.is)) ∙ reg.regular.methods is.class is.method is.class_in is.method_in;
    static = ap (λ (d : Found). is_static d.flags) is.is ∙ static;
    coded = ap (λ (d : Found). d.coded) is.is ∙ coded;
    plain = subst (λ b. (b && text_eq d.key.name initialiser_name && signature_eq d.key.signature void) ≡ false) static plain;
    kept = kept;
  }

  -- ---- fields

  pub own_field : (k : FieldKey) (place : Place) → option_map (place_of k.class) (defined_field p k) ≡ Some place → (d : NamedField) × (defined_field p k ≡ Some d)
  own_field k place e = by (defined_field p k) refl e
    where
      by : (y : Option NamedField) → defined_field p k ≡ y → option_map (place_of k.class) y ≡ Some place → (d : NamedField) × (defined_field p k ≡ Some d)
      by None i j = none_some place j
      by (Some d) i j = (d, i)
