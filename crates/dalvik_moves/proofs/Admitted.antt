-- Which methods may be entered, by numbers and by names.
use Rattle.std.proofs.Common.{◌≡◌, ℕ, ◌<◌, Bool, true, false, true≢false, List, [], ◌∷◌, length, nat_eq, ap, refl, sym, ◌∙◌, eqb-true, eq-eqb}
use Rattle.std.specs.Prelude.{◌&&◌, Option, Some, None, codes, cond, is_some, not, position, slice_get}
use Rattle.std.specs.List.{list_all}
use Rattle.program_model.specs.Distinct.{all_differ, own_method_key}
use Rattle.program_model.specs.Lookups.{method_or}
use Rattle.program_model.specs.MemberRules.{has_flag, class_fits, fields_fit, method_fits, methods_fit, methods_in_order, source_fits, types_of_class_fit}
use Rattle.program_model.specs.Neighbours.{neighbours}
use Rattle.program_model.specs.ValueRules.{marks_fit}
use Rattle.program_model.specs.declared.pools.MethodName.{MethodName}
use Rattle.program_model.specs.declared.program.Class.{Class}
use Rattle.program_model.specs.declared.program.Method.{Method}
use Rattle.program_model.specs.declared.program.MethodAt.{MethodAt}
use Rattle.program_model.specs.declared.program.Program.{Program}
use Rattle.class_defs.specs.Starts.{initialiser_of, initialiser_place, is_initialiser, names_initialiser, running, runs}
use Rattle.class_defs.proofs.Positions.{both, place_entry, place_first, same_test}
use Rattle.class_defs.proofs.WellFormed.{class_parts, MethodFits}
use Rattle.name_bridge.proofs.Candidates.{coded_test, named_test}
use Rattle.name_bridge.proofs.Flags.{static_flag}
use Rattle.name_bridge.proofs.Tables.{Sound, all_at, and_left, and_right, method_is, method_once, same_number, sound}
use Rattle.dalvik_defs.specs.Face.{Face}
use Rattle.dalvik_defs.specs.Find.{Found}
use Rattle.dalvik_defs.specs.Flags.{is_static}
use Rattle.dalvik_defs.specs.Gives.{all_fit}
use Rattle.dalvik_defs.specs.Initialised.{initialiser_key}
use Rattle.dalvik_defs.specs.Legal.{is_class_initialiser, may_enter, may_enter_found, receiver_ok}
use Rattle.dalvik_defs.specs.Names.{Text, initialiser_name, same_name, signature_eq, text_eq, void}
use Rattle.dalvik_defs.specs.Naming.{method_at, named_method, signature_at, text_at, type_at}
use Rattle.dalvik_defs.specs.Outcome.{passed_types}
use Rattle.dalvik_defs.specs.Outer.{Outer}
use Rattle.dalvik_defs.specs.State.{World}
use Rattle.dalvik_defs.specs.declared.names.MethodKey.{MethodKey}
use Rattle.dalvik_defs.specs.declared.script.Given.{Given}
use Rattle.dalvik_defs.specs.declared.state.Value.{Value}
use Rattle.dalvik_lookups.specs.Tables.{search_of, IsRight}
use Rattle.dalvik_lookups.specs.declared.lookups.Lookups.{Lookups}
use Rattle.dalvik_lookups.proofs.Interned.{got_short, text_same}
use Rattle.dalvik_state.specs.Giving.{finds_at}
use Rattle.dalvik_state.specs.States.{class_text}
use Rattle.dalvik_state.proofs.Judging.{found_class, method_there, IsMethod}
use Rattle.dalvik_state.proofs.Marked.{method_sound}
use Rattle.dalvik_moves.specs.Moving.{IsMember}

-- ---- the initialiser of a class

initialiser_test : (p : Program) (m : Method) → same_name (named_method p m).name (named_method p m).signature initialiser_name void ≡ is_initialiser p m
initialiser_test p m = by_entry (slice_get p.methods m.name)
  where
    by_entry : (o : Option MethodName) → same_name (elim o as (λ o. MethodKey) [ Some m ↦ record { class = type_at p m.class; name = text_at p m.name; signature = signature_at p m.proto } | None ↦ record { class = []; name = []; signature = record { parameters = []; result = [] } } ]).name
        (elim o as (λ o. MethodKey) [ Some m ↦ record { class = type_at p m.class; name = text_at p m.name; signature = signature_at p m.proto } | None ↦ record { class = []; name = []; signature = record { parameters = []; result = [] } } ]).signature initialiser_name void
        ≡ names_initialiser p o
    by_entry None = refl
    by_entry (Some q) = named_test p q.name q.proto (codes "<clinit>") [] 86 []

methods_differ : (p : Program) (c : Class) → class_fits p c ≡ true → all_differ own_method_key c.methods ≡ true
unfolding class_fits fields_fit methods_fit
methods_differ p c h =
    let two = and_right (types_of_class_fit p c && (source_fits p c.source && marks_fit p c.marks)) (fields_fit p c.name c.fields && methods_fit p c.name c.methods) h in
    let m = and_right (list_all (method_fits p c.name) c.methods) (list_all (methods_in_order p) (neighbours c.methods) && all_differ own_method_key c.methods) (and_right (fields_fit p c.name c.fields) (methods_fit p c.name c.methods) two) in
    and_right (list_all (methods_in_order p) (neighbours c.methods)) (all_differ own_method_key c.methods) m

module _ (p : Program) (s : Sound p) (place : ℕ) (k : Class) (there : slice_get p.classes place ≡ Some k) where
  fits_at : (i : ℕ) (m : Method) → slice_get k.methods i ≡ Some m → MethodFits p k.name m
  fits_at i m e = (class_parts p s place k there).methods i m e

  -- the name of an initialiser
  initialiser_is : (i : ℕ) (m : Method) → slice_get k.methods i ≡ Some m → is_initialiser p m ≡ true → method_at p m.name ≡ initialiser_key (type_at p k.name)
  initialiser_is i m e t =
      let fits = fits_at i m e in
      let own = method_at p m.name in
      let class : own.class ≡ type_at p k.name = ap (λ (x : MethodKey). x.class) (method_is p s m.name fits.entry fits.is) ∙ ap (type_at p) fits.owner in
      let name = initialiser_test p m ∙ t in
      method_sound own (initialiser_key (type_at p k.name))
      (both (text_eq own.class (type_at p k.name) && text_eq own.name initialiser_name) (signature_eq own.signature void)
      (both (text_eq own.class (type_at p k.name)) (text_eq own.name initialiser_name) (ap (λ (x : Text). text_eq x (type_at p k.name)) class ∙ text_same (type_at p k.name))
      (and_left (text_eq own.name initialiser_name) (signature_eq own.signature void) name))
      (and_right (text_eq own.name initialiser_name) (signature_eq own.signature void) name))

  -- a class has one
  initialiser_once : (i j : ℕ) (a b : Method) → slice_get k.methods i ≡ Some a → slice_get k.methods j ≡ Some b → is_initialiser p a ≡ true → is_initialiser p b ≡ true → i ≡ j
  initialiser_once i j a b e f t u =
      let one = fits_at i a e in
      let two = fits_at j b f in
      let number = method_once p s a.name b.name (got_short p.methods a.name one.entry one.is) (got_short p.methods b.name two.entry two.is) (initialiser_is i a e t ∙ sym (initialiser_is j b f u)) in
      same_number own_method_key k.methods i j a b (methods_differ p k (all_at (class_fits p) p.classes place k s.classes_fit there)) e f (ap (λ (x : ℕ). x ∷ []) number)

-- what is found at a place
module _ (at : MethodAt) (i : ℕ) where
  abbrev found_by : Bool → Bool
  found_by b = finds_at at (search_of (method_or at.class (cond b (Some i) None) None))

  found_runs : (b : Bool) → found_by b ≡ true → b ≡ true
  found_runs true e = refl
  found_runs false e = absurd (true≢false (sym e))

  found_place : (b : Bool) → found_by b ≡ true → i ≡ at.place
  found_place true e = eqb-true i at.place (and_right (nat_eq at.class at.class) (nat_eq i at.place) e)
  found_place false e = absurd (true≢false (sym e))

  found_there : (b : Bool) → b ≡ true → i ≡ at.place → found_by b ≡ true
  found_there b e f = ap found_by e ∙ both (nat_eq at.class at.class) (nat_eq i at.place) (eq-eqb at.class at.class refl) (eq-eqb i at.place f)

module _ (l : Lookups) (r : IsRight l) (at : MethodAt) (m : Method) (f : Found) (h : IsMethod l r at m f) where
  pub member_static : has_flag m.flags 8 ≡ is_static f.flags
  member_static = static_flag m.flags ∙ sym (ap (λ (x : Found). is_static x.flags) h.found)

  pub member_coded : is_some m.body ≡ f.coded
  member_coded = sym (coded_test l.program.now m.body) ∙ sym (ap (λ (x : Found). x.coded) h.found)

  named_initialiser : is_initialiser l.program.now m ≡ (text_eq f.key.name initialiser_name && signature_eq f.key.signature void)
  named_initialiser = sym (initialiser_test l.program.now m) ∙ sym (ap (λ (x : Found). same_name x.key.name x.key.signature initialiser_name void) h.found)

  -- it is an initialiser with code exactly where it is static, with code, and named so
  own_initialiser : (is_initialiser l.program.now m && runs (Some m)) ≡ (f.coded && is_class_initialiser f)
  own_initialiser =
      (λ i. named_initialiser i && (member_static i && member_coded i))
      ∙ turn (text_eq f.key.name initialiser_name) (signature_eq f.key.signature void) (is_static f.flags) f.coded
    where
      turn : (n g s c : Bool) → ((n && g) && (s && c)) ≡ (c && ((s && n) && g))
      turn true true true true = refl
      turn true true true false = refl
      turn true true false true = refl
      turn true true false false = refl
      turn true false true true = refl
      turn true false true false = refl
      turn true false false true = refl
      turn true false false false = refl
      turn false g true true = refl
      turn false g true false = refl
      turn false g false true = refl
      turn false g false false = refl

  pub initialiser_named : finds_at at (search_of (method_or at.class (initialiser_place l.program.now at.class) None)) ≡ (f.coded && is_class_initialiser f)
  initialiser_named =
      ap (λ (o : Option Class). finds_at at (search_of (method_or at.class (initialiser_of l.program.now o) None))) h.is_class
      ∙ by (position (is_initialiser l.program.now) h.class.methods) refl
      ∙ own_initialiser
    where
      s : Sound l.program.now
      s = sound l.program.now r.well

      by : (o : Option ℕ) → position (is_initialiser l.program.now) h.class.methods ≡ o → finds_at at (search_of (method_or at.class (running h.class.methods o) None)) ≡ (is_initialiser l.program.now m && runs (Some m))
      by None e = same_test false (is_initialiser l.program.now m && runs (Some m)) (λ t. absurd (true≢false (sym t)))
          (λ t. let q = place_first (is_initialiser l.program.now) h.class.methods at.place m h.is_method (and_left (is_initialiser l.program.now m) (runs (Some m)) t) in
          let no : None ≡ Some q.place = sym e ∙ q.is in cc)
      by (Some i) e =
          let q = place_entry (is_initialiser l.program.now) h.class.methods i e in
          same_test (found_by at i (runs (slice_get h.class.methods i))) (is_initialiser l.program.now m && runs (Some m))
          (λ t.
          let here : i ≡ at.place = found_place at i (runs (slice_get h.class.methods i)) t in
          let entry : slice_get h.class.methods i ≡ Some m = ap (slice_get h.class.methods) here ∙ h.is_method in
          let same : q.entry ≡ m = (let x : Some q.entry ≡ Some m = sym q.is ∙ entry in cc) in
          both (is_initialiser l.program.now m) (runs (Some m)) (ap (is_initialiser l.program.now) (sym same) ∙ q.passes) (ap runs (sym entry) ∙ found_runs at i (runs (slice_get h.class.methods i)) t))
          (λ t.
          let here : i ≡ at.place = initialiser_once l.program.now s at.class h.class h.is_class i at.place q.entry m q.is h.is_method q.passes (and_left (is_initialiser l.program.now m) (runs (Some m)) t) in
          let entry : slice_get h.class.methods i ≡ Some m = ap (slice_get h.class.methods) here ∙ h.is_method in
          found_there at i (runs (slice_get h.class.methods i)) (ap runs entry ∙ and_right (is_initialiser l.program.now m) (runs (Some m)) t) here)

  -- the class in which it stands
  pub member_class : class_text l.program.now at.class ≡ f.key.class
  member_class = ap (λ (o : Option Class). elim o as (λ o. Text) [ Some d ↦ type_at l.program.now d.name | None ↦ [] ]) h.is_class ∙ found_class l r at m f h

  pub member_low : at.class < length l.program.now.classes
  member_low = got_short l.program.now.classes at.class h.class h.is_class

-- a member of the program
pub member : (l : Lookups) (r : IsRight l) (at : MethodAt) (m : Method) (f : Found) → IsMember l at m f → IsMethod l r at m f
member l r at m f h = method_there l r at f m h.found h.there

-- ---- what may be entered

and_true : (b : Bool) → (b && true) ≡ b
and_true true = refl
and_true false = refl

and_false : (b : Bool) → (b && false) ≡ false
and_false true = refl
and_false false = refl

module _ (face : Face) (outer : Outer) (w v : World) (f : Found) (gs : List Given) (vs : List Value) where
  abbrev fit_by : Bool → Bool
  fit_by b = all_fit face outer w v gs vs (passed_types b f.key)

  abbrev entered_by : Bool → Bool
  entered_by b = elim b as (λ b. Bool) [
    | true ↦ outer.methods f.key && all_fit face outer w v gs vs f.key.signature.parameters
    | false ↦ all_fit face outer w v gs vs (f.key.class ∷ f.key.signature.parameters) && receiver_ok face outer v f vs
  ]

  -- the values don't fit
  pub enters_unfit : false ≡ fit_by (is_static f.flags) → false ≡ may_enter_found face outer w v f gs vs
  enters_unfit e = by (is_static f.flags) e
    where
      by : (b : Bool) → false ≡ fit_by b → false ≡ entered_by b
      by true e = sym (and_false (outer.methods f.key)) ∙ ap (λ (x : Bool). outer.methods f.key && x) e
      by false e = ap (λ (x : Bool). x && receiver_ok face outer v f vs) e

  -- they fit, and the method is static
  pub enters_kept : (kept : Bool) → true ≡ is_static f.flags → true ≡ fit_by (is_static f.flags) → kept ≡ outer.methods f.key → kept ≡ may_enter_found face outer w v f gs vs
  enters_kept kept s e k = k ∙ by (is_static f.flags) e s
    where
      by : (b : Bool) → true ≡ fit_by b → true ≡ b → outer.methods f.key ≡ entered_by b
      by true e t = sym (and_true (outer.methods f.key)) ∙ ap (λ (x : Bool). outer.methods f.key && x) e
      by false e t = absurd (true≢false t)

  -- or it is entered on its receiver
  pub enters_on : (on : Bool) → false ≡ is_static f.flags → true ≡ fit_by (is_static f.flags) → on ≡ receiver_ok face outer v f vs → on ≡ may_enter_found face outer w v f gs vs
  enters_on on s e k = k ∙ by (is_static f.flags) e s
    where
      by : (b : Bool) → true ≡ fit_by b → false ≡ b → receiver_ok face outer v f vs ≡ entered_by b
      by true e t = absurd (true≢false (sym t))
      by false e t = ap (λ (x : Bool). x && receiver_ok face outer v f vs) e

  -- it has no code
  pub enters_uncoded : false ≡ f.coded → false ≡ may_enter face outer w v f gs vs
  enters_uncoded e = ap (λ (x : Bool). (x && not (is_class_initialiser f)) && may_enter_found face outer w v f gs vs) e

  -- it is an initialiser
  pub enters_initialiser : true ≡ f.coded → true ≡ (f.coded && is_class_initialiser f) → false ≡ may_enter face outer w v f gs vs
  enters_initialiser e i =
      let is : is_class_initialiser f ≡ true = and_right f.coded (is_class_initialiser f) (sym i) in
      sym (ap (λ (x : Bool). (f.coded && not x) && may_enter_found face outer w v f gs vs) is ∙ ap (λ (x : Bool). x && may_enter_found face outer w v f gs vs) (and_false f.coded))

  -- it has code and isn't one
  pub enters_found : (b : Bool) → true ≡ f.coded → false ≡ (f.coded && is_class_initialiser f) → b ≡ may_enter_found face outer w v f gs vs → b ≡ may_enter face outer w v f gs vs
  enters_found b e i k =
      let other : false ≡ is_class_initialiser f = i ∙ ap (λ (x : Bool). x && is_class_initialiser f) (sym e) in
      k ∙ (λ j. (e j && not (other j)) && may_enter_found face outer w v f gs vs)
