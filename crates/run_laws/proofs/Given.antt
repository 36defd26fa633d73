-- What the framework gives for a type is of it, and keeps all typed.
use Rattle.std.proofs.Common.{◌≡◌, ℕ, zero, suc, Bool, true, false, true≢false, List, [], ◌∷◌, ◌++◌, Option, Some, None, ◌⊎◌, inl, inr, refl, sym, ap, ◌∙◌, subst, arith}
use Rattle.std.specs.Prelude.{◌||◌, not, nat_lt, length, slice_get}
use Rattle.std.proofs.lemmas.Bool.{ltb-true, lt-ltb}
use Rattle.std.specs.Option.{option_map}
use Rattle.dalvik_defs.specs.Names.{Text, is_word, is_wide, is_reference, is_array, is_class_type, throwable_type}
use Rattle.dalvik_defs.specs.Face.{face_of, is_defined, is_plain_class}
use Rattle.dalvik_defs.specs.Under.{class_named}
use Rattle.dalvik_defs.specs.Flags.{is_interface}
use Rattle.dalvik_defs.specs.Outer.{Outer}
use Rattle.dalvik_defs.specs.State.{World, Thing, is_null, kind_of, fresh, with_thing, next_object, Exposed}
use Rattle.dalvik_defs.specs.ActArray.{zeros}
use Rattle.dalvik_defs.specs.Gives.{exposed_at, gets, gets_all, spread, may_give, reference_fits, value_fits, all_fit, is_on, fits as given_fits, may_throw as may_be_thrown}
use Rattle.dalvik_defs.specs.Legal.{may_answer}
use Rattle.dalvik_defs.specs.Moves.{got as given_option}
use Rattle.dalvik_defs.specs.Show.{with_given}
use Rattle.dalvik_defs.specs.declared.program.NamedClass.{NamedClass}
use Rattle.dalvik_defs.specs.declared.state.Value.{Value}
use Rattle.dalvik_defs.specs.declared.state.Value.TheVariants.{Word, Low, High, Object, Literal, Class}
use Rattle.dalvik_defs.specs.declared.tables.Floats.{Floats}
use Rattle.dalvik_defs.specs.declared.tables.Framework.{Framework}
use Rattle.dalvik_defs.specs.declared.program.NamedProgram.{NamedProgram}
use Rattle.dalvik_defs.specs.declared.script.Given.{Given}
use Rattle.dalvik_defs.specs.declared.script.Given.TheVariants as given
use Rattle.pass_defs.specs.Kinds.{Kind, is_plain, kind_eq, is_number, is_initialised, kind_of_reference, fits}
use Rattle.pass_defs.specs.Kinds as kind
use Rattle.pass_defs.specs.Typed.{halves, parameter_kinds}
use Rattle.run_laws.specs.Invariant.{Grows}
use Rattle.run_laws.specs.Holds.{Each}
use Rattle.run_laws.proofs.Growing.{grows_same, grows_then}
use Rattle.run_laws.proofs.Plain.{all_grow}
use Rattle.run_laws.proofs.Fine.{each_append}
use Rattle.run_laws.specs.TypedStates.{AllHold, IsObject, KindHolds, ValueOf, ItemOf, RefFits, MaybeOf, TypedThing, TypedWorld, ArrayFits}
use Rattle.run_laws.proofs.Settled.{IsSettled}
use Rattle.run_laws.proofs.Registers.{no_low, and_left, and_right}
use Rattle.run_laws.proofs.Sorts.{Sorted, OfWord, OfWide, OfReference, OfNone, sorted, class_alone, array_reference, no_half}
use Rattle.run_laws.proofs.Climbs.{plain_defined, or_cases}
use Rattle.run_laws.proofs.Arrays.{true_false, to_cond, under_fits}
use Rattle.run_laws.proofs.Orders.{ref_held, ref_fits}
use Rattle.run_laws.proofs.Worlds.{typed_with, fresh_typed, zeros_typed, new_object, typed_exposed, object_later}
use Rattle.run_laws.proofs.Forms.{wide_kind, or_left, or_right, null_ref}
use Rattle.run_laws.proofs.Calls.{halves_single}

module _ (p : NamedProgram) (o : Outer) (f : Framework) (floats : Floats) (reg : IsSettled p) where
  -- a value that was given for a type
  pub record GivenTyped (w : World) (u : Text) (v : Value) : Type 0 where
    pub value : ValueOf p f w u v
    pub item : ItemOf p f w u v
    pub alone : is_wide u ≡ false → (vs : List Value) → spread (v ∷ vs) ≡ v ∷ spread vs

  given_world : (w : World) (th : Thing) → TypedWorld p f w → TypedThing p f w th → TypedWorld p f (with_given w th)
  given_world w th tw tt1 = let w1 = with_thing w th in let t1 = typed_with p f w th tw tt1 in
      typed_exposed p f w1 (w1.exposed ++ record { number = length w.heap; printed = false } ∷ []) t1 (each_append (λ e. IsObject w1 (Object e.number)) w1.exposed (record { number = length w.heap; printed = false }) t1.exposed (new_object w th))

  pub gets_typed : (w : World) (g : Given) → may_give (face_of p f) o w g ≡ true → TypedWorld p f w → TypedWorld p f (gets w g).0
  gets_typed w (given.New u) e tw = given_world w (fresh u) tw (fresh_typed p f w u (and_left (is_class_type u) (not (is_defined (face_of p f) u)) e))
  gets_typed w (given.Array u m) e tw = given_world w (zeros u m) tw (zeros_typed p f w u m)
  gets_typed w given.Null e tw = tw
  gets_typed w (given.Word m) e tw = tw
  gets_typed w (given.Wide m) e tw = tw
  gets_typed w (given.Exposed m) e tw = tw
  gets_typed w (given.Literal s) e tw = tw
  gets_typed w (given.Class s) e tw = tw

  exposed_object : (w : World) (es : List Exposed) (m : ℕ) → Each (λ e. IsObject w (Object e.number)) es → nat_lt m (length es) ≡ true → (e : Exposed) × ((slice_get es m ≡ Some e) × IsObject w (Object e.number))
  exposed_object w [] m h l = let k = ltb-true m 0 l in absurd (omega (arith, k))
  exposed_object w (x ∷ es) zero h l = (x, (refl, h.0))
  exposed_object w (x ∷ es) (suc m) h l = let k = ltb-true (suc m) (suc (length es)) l in let r = exposed_object w es m h.1 (lt-ltb m (length es) (omega (arith, k))) in (r.0, (r.1.0, r.1.1))

  plain_face : (u : Text) → is_plain_class (face_of p f) u ≡ is_plain p u
  plain_face u = by (class_named p u)
    where
      by : (y : Option NamedClass) → (elim (option_map (λ c. c.flags) y) as (λ y. Bool) [ Some n ↦ not (is_interface n) | None ↦ false ]) ≡ (elim y as (λ y. Bool) [ Some c ↦ not (is_interface c.flags) | None ↦ false ])
      by (Some c) = refl
      by None = refl

  -- an object for a type of references
  object_typed : (w : World) (u : Text) (v : Value) → IsObject w v → reference_fits (face_of p f) w v u ≡ true → (is_reference u ≡ true) × RefFits p f (kind_of w v) u
  object_typed w u v ob e = by (is_plain_class (face_of p f) u || is_array u) refl e
    where
      refs : (is_plain_class (face_of p f) u ≡ true) ⊎ (is_array u ≡ true) → is_reference u ≡ true
      refs (inl i) = (class_alone u (reg.regular.class_types u (plain_defined p u (sym (plain_face u) ∙ i)))).0
      refs (inr i) = array_reference u i

      by : (b : Bool) → (is_plain_class (face_of p f) u || is_array u) ≡ b → (elim b as (λ b. Bool) [ true ↦ (face_of p f).under (kind_of w v) u | false ↦ is_reference u ]) ≡ true → (is_reference u ≡ true) × RefFits p f (kind_of w v) u
      by true i j = (refs (or_cases (is_plain_class (face_of p f) u) (is_array u) i), under_fits p f reg (kind_of w v) u j)
      by false i j = (
        j,
        to_cond p f reg (is_array u) (ArrayFits p f (kind_of w v) u) (is_plain p u ≡ true → (face_of p f).under (kind_of w v) u ≡ true) (λ a. true_false a (or_right (is_plain_class (face_of p f) u) (is_array u) i))
            (λ a b. true_false (plain_face u ∙ b) (or_left (is_plain_class (face_of p f) u) (is_array u) i)),
      )

  object_given : (w : World) (u : Text) (v : Value) → IsObject w v → ((vs : List Value) → spread (v ∷ vs) ≡ v ∷ spread vs) → reference_fits (face_of p f) w v u ≡ true → GivenTyped w u v
  object_given w u v ob al e = by (sorted p u) (object_typed w u v ob e)
    where
      by : Sorted p u → (is_reference u ≡ true) × RefFits p f (kind_of w v) u → GivenTyped w u v
      by (OfReference q b d j m) (r, s) = record { value = λ c. subst (λ k. KindHolds p f c w k v) (sym j) (ref_held p f reg c w u v ob s); item = λ c. subst (λ k. KindHolds p f c w k v) (sym m) (ref_held p f reg c w u v ob s); alone = λ e. al }
      by (OfWord q b d j m) (r, s) = true_false r d
      by (OfWide q b d j m) (r, s) = true_false r d
      by (OfNone q b d j m) (r, s) = true_false r d

  null_given : (w : World) (u : Text) → is_reference u ≡ true → GivenTyped w u (Word 0)
  null_given w u e = by (sorted p u)
    where
      by : Sorted p u → GivenTyped w u (Word 0)
      by (OfReference q b d j m) = record { value = λ c. subst (λ k. KindHolds p f c w k (Word 0)) (sym j) (null_ref p f reg c w u (Word 0) refl); item = λ c. subst (λ k. KindHolds p f c w k (Word 0)) (sym m) (null_ref p f reg c w u (Word 0) refl); alone = λ e vs. refl }
      by (OfWord q b d j m) = true_false e d
      by (OfWide q b d j m) = true_false e d
      by (OfNone q b d j m) = true_false e d

  word_given : (w : World) (u : Text) (x : ℕ) → is_word u ≡ true → GivenTyped w u (Word x)
  word_given w u x e = by (sorted p u)
    where
      by : Sorted p u → GivenTyped w u (Word x)
      by (OfWord q b d j m) = record { value = λ c. subst (λ k. KindHolds p f c w k (Word x)) (sym j) (x, refl); item = λ c. subst (λ k. KindHolds p f c w k (Word x)) (sym m) (x, refl); alone = λ e vs. refl }
      by (OfReference q b d j m) = true_false e q
      by (OfWide q b d j m) = true_false e q
      by (OfNone q b d j m) = true_false e q

  wide_given : (w : World) (u : Text) (x : ℕ) → is_wide u ≡ true → GivenTyped w u (Low x)
  wide_given w u x e = by (sorted p u)
    where
      by : Sorted p u → GivenTyped w u (Low x)
      by (OfWide q b d j m) = record { value = λ c. subst (λ k. KindHolds p f c w k (Low x)) (sym j) (x, refl); item = λ c. subst (λ k. KindHolds p f c w k (Low x)) (sym m) (x, refl); alone = λ i. true_false e i }
      by (OfReference q b d j m) = true_false e b
      by (OfWord q b d j m) = true_false e b
      by (OfNone q b d j m) = true_false e b

  -- a value that is given fits its type in each later world
  pub given_typed : (w w1 : World) (g : Given) (u : Text) → TypedWorld p f w → Grows (gets w g).0 w1 → given_fits (face_of p f) o w w1 g (gets w g).1 u ≡ true → GivenTyped w1 u (gets w g).1
  given_typed w w1 given.Null u tw gr e = null_given w1 u e
  given_typed w w1 (given.Word m) u tw gr e = word_given w1 u m e
  given_typed w w1 (given.Wide m) u tw gr e = wide_given w1 u m e
  given_typed w w1 (given.New k) u tw gr e = object_given w1 u (next_object w) (object_later (with_given w (fresh k)) w1 gr (next_object w) (new_object w (fresh k))) (λ vs. refl) (and_right (may_give (face_of p f) o w (given.New k)) (reference_fits (face_of p f) w1 (next_object w) u) e)
  given_typed w w1 (given.Array k m) u tw gr e = object_given w1 u (next_object w) (object_later (with_given w (zeros k m)) w1 gr (next_object w) (new_object w (zeros k m))) (λ vs. refl) (and_right (may_give (face_of p f) o w (given.Array k m)) (reference_fits (face_of p f) w1 (next_object w) u) e)
  given_typed w w1 (given.Literal s) u tw gr e = object_given w1 u (Literal s) tt (λ vs. refl) e
  given_typed w w1 (given.Class s) u tw gr e = object_given w1 u (Class s) tt (λ vs. refl) e
  given_typed w w1 (given.Exposed m) u tw gr e = let x = exposed_object w w.exposed m tw.exposed (and_left (nat_lt m (length w.exposed)) (reference_fits (face_of p f) w1 (exposed_at w m) u) e) in
      let same : exposed_at w m ≡ Object x.0.number = ap (λ y. elim y as (λ y. Value) [ Some e ↦ Object e.number | None ↦ Word 0 ]) x.1.0 in
      subst (GivenTyped w1 u) (sym same) (object_given w1 u (Object x.0.number) (object_later w w1 gr (Object x.0.number) x.1.1) (λ vs. refl) (subst (λ v. reference_fits (face_of p f) w1 v u ≡ true) same (and_right (nat_lt m (length w.exposed)) (reference_fits (face_of p f) w1 (exposed_at w m) u) e)))

  pub gives_first : (w w1 : World) (g : Given) (v : Value) (u : Text) → given_fits (face_of p f) o w w1 g v u ≡ true → may_give (face_of p f) o w g ≡ true
  gives_first w w1 g v u e = and_left (may_give (face_of p f) o w g) (value_fits (face_of p f) w1 g v u) e

  -- ---- what is passed at an entry

  one_spread : (w : World) (u : Text) (v : Value) (ts : List Text) (vs : List Value) (d : Text) → GivenTyped w u v → AllHold p f d w (parameter_kinds p ts) (spread vs) → AllHold p f d w (halves (kind.kind_of p u) ++ parameter_kinds p ts) (spread (v ∷ vs))
  one_spread w u v ts vs d h more = by (is_wide u) refl
    where
      low : (x : ℕ) × (v ≡ Low x) → AllHold p f d w (kind.Low ∷ kind.High ∷ parameter_kinds p ts) (spread (v ∷ vs))
      low (x, e) = subst (λ v. AllHold p f d w (kind.Low ∷ kind.High ∷ parameter_kinds p ts) (spread (v ∷ vs))) (sym e) ((x, refl), ((x, refl), more, no_low kind.High (High x) (parameter_kinds p ts) (spread vs) refl), λ i. refl)

      by : (b : Bool) → is_wide u ≡ b → AllHold p f d w (halves (kind.kind_of p u) ++ parameter_kinds p ts) (spread (v ∷ vs))
      by true e = subst (λ k. AllHold p f d w (halves k ++ parameter_kinds p ts) (spread (v ∷ vs))) (sym (wide_kind p f reg u e)) (low (subst (λ k. KindHolds p f d w k v) (wide_kind p f reg u e) (h.value d)))
      by false e = subst (λ ks. AllHold p f d w (ks ++ parameter_kinds p ts) (spread (v ∷ vs))) (sym (halves_single p o f floats reg u e)) (subst (AllHold p f d w (kind.kind_of p u ∷ parameter_kinds p ts)) (sym (h.alone e vs)) (h.value d, more, no_low (kind.kind_of p u) v (parameter_kinds p ts) (spread vs) (no_half p u e).0))

  pub all_given : (gs : List Given) (w w1 : World) (ts : List Text) → TypedWorld p f w → Grows (gets_all w gs).0 w1 → all_fit (face_of p f) o w w1 gs (gets_all w gs).1 ts ≡ true → TypedWorld p f (gets_all w gs).0 × ((d : Text) → AllHold p f d w1 (parameter_kinds p ts) (spread (gets_all w gs).1))
  all_given [] w w1 [] tw gr e = (tw, λ d. tt)
  all_given [] w w1 (u ∷ ts) tw gr e = absurd (true≢false (sym e))
  all_given (g ∷ gs) w w1 [] tw gr e = absurd (true≢false (sym e))
  all_given (g ∷ gs) w w1 (u ∷ ts) tw gr e = let now = and_left (given_fits (face_of p f) o w w1 g (gets w g).1 u) (all_fit (face_of p f) o (gets w g).0 w1 gs (gets_all (gets w g).0 gs).1 ts) e in
      let t1 = gets_typed w g (gives_first w w1 g (gets w g).1 u now) tw in
      let rest = all_given gs (gets w g).0 w1 ts t1 gr (and_right (given_fits (face_of p f) o w w1 g (gets w g).1 u) (all_fit (face_of p f) o (gets w g).0 w1 gs (gets_all (gets w g).0 gs).1 ts) e) in
      (rest.0, λ d. one_spread w1 u (gets w g).1 ts (gets_all (gets w g).0 gs).1 d (given_typed w w1 g u tw (grows_then (gets w g).0 (gets_all (gets w g).0 gs).0 w1 (all_grow gs (gets w g).0) gr) now) (rest.1 d))

  -- an object where a class stands
  class_object : (w : World) (u : Text) (v : Value) → is_class_type u ≡ true → ValueOf p f w u v → is_null v ≡ false → IsObject w v
  class_object w u v cl h z = by (sorted p u)
    where
      kept : (v ≡ Word 0) ⊎ (IsObject w v × RefFits p f (kind_of w v) u) → IsObject w v
      kept (inl i) = true_false (ap is_null i) z
      kept (inr i) = i.0

      by : Sorted p u → IsObject w v
      by (OfReference q b d j m) = kept (ref_fits p f reg [] w u v (subst (λ k. KindHolds p f [] w k v) j (h [])))
      by (OfWord q b d j m) = true_false (class_alone u cl).0 d
      by (OfWide q b d j m) = true_false (class_alone u cl).0 d
      by (OfNone q b d j m) = true_false (class_alone u cl).0 d

  pub throws_given : (w : World) (g : Given) → TypedWorld p f w → may_be_thrown (face_of p f) o w (gets w g).0 g (gets w g).1 ≡ true → TypedWorld p f (gets w g).0 × IsObject (gets w g).0 (gets w g).1
  throws_given w g tw e = let w1 = (gets w g).0 in let v = (gets w g).1 in let x = and_left (given_fits (face_of p f) o w w1 g v throwable_type) (is_on (face_of p f) w1 v throwable_type) e in (
    gets_typed w g (gives_first w w1 g v throwable_type x) tw,
    class_object w1 throwable_type v refl (given_typed w w1 g throwable_type tw (grows_same w1 w1 refl) x).value
        (untrue (is_null v) (and_left (not (is_null v)) ((face_of p f).under (kind_of w1 v) throwable_type) (and_right (given_fits (face_of p f) o w w1 g v throwable_type) (is_on (face_of p f) w1 v throwable_type) e))),
  )
    where
      untrue : (b : Bool) → not b ≡ true → b ≡ false
      untrue true i = absurd (true≢false (sym i))
      untrue false i = refl

  pub answers_given : (w : World) (u : Text) (y : Option Given) → TypedWorld p f w → may_answer (face_of p f) o w u y ≡ true → TypedWorld p f (given_option w y).0 × MaybeOf p f (given_option w y).0 u (given_option w y).1
  answers_given w u None tw e = (tw, e)
  answers_given w u (Some g) tw e = let w1 = (gets w g).0 in (gets_typed w g (gives_first w w1 g (gets w g).1 u e) tw, (given_typed w w1 g u tw (grows_same w1 w1 refl) e).value)
