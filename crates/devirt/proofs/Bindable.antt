-- A call that is bindable by the kind of its receiver is bound to something, in a straight program.
use Rattle.std.proofs.Common.{◌≡◌, ◌⊎◌, inl, inr, ℕ, zero, suc, ◌<◌, Bool, true, false, true≢false, nat_eq, List, [], ◌∷◌, ◌++◌, length, Option, Some, None, refl, sym, ap, ◌∙◌, subst, arith, eqb-true, lt-ltb}
use Rattle.std.specs.Prelude.{◌&&◌, ◌||◌, cond, flat_map, is_some, nat_lt, not, option_and_then, position, slice_get, if◌then◌else◌}
use Rattle.std.specs.List.{range_with_len}
use Rattle.std.specs.Option.{option_or}
use Rattle.lemmas.proofs.Bools.{and_left, and_right, and_both, clash, not_of_false, untrue, or_right}
use Rattle.lemmas.proofs.Lists.{got_short}
use Rattle.lemmas.proofs.Numbers.{same_number}
use Rattle.lemmas.proofs.Options.{before_map, none_some, some_same}
use Rattle.insn_set.specs.declared.form.Insn.{Insn}
use Rattle.program_model.specs.declared.pools.MethodName.{MethodName}
use Rattle.program_model.specs.declared.program.Class.{Class}
use Rattle.program_model.specs.declared.program.Method.{Method}
use Rattle.program_model.specs.declared.program.MethodAt.{MethodAt}
use Rattle.program_model.specs.declared.program.Program.{Program}
use Rattle.program_model.specs.Distinct.{method_key}
use Rattle.program_model.specs.Lookups.{class_place, method_at}
use Rattle.program_model.specs.ProgramRules.{is_well_formed}
use Rattle.class_defs.specs.Finding.{finds_at, finds_virtual, first_among, interfaces_from, resolves_method, by_entry, resolution_of}
use Rattle.class_defs.specs.Members.{has_code, is_method, names_method, method_of_class, own_method, own_virtual}
use Rattle.class_defs.specs.Places.{chain_from, chain_of, interface_places, is_under, super_place}
use Rattle.class_defs.proofs.Positions.{number_test, number_of, place_entry, place_first}
use Rattle.class_defs.specs.ClassGraph.{IsTwice}
use Rattle.class_defs.proofs.WellFormed.{class_parts, sound}
use Rattle.name_bridge.proofs.Tables as tables
use Rattle.hierarchy.specs.Naming.{definers_of}
use Rattle.hierarchy.specs.Ranks.{IsRanked}
use Rattle.hierarchy.specs.Touring.{subclasses_of}
use Rattle.verify.specs.Kinds.{is_initialised}
use Rattle.verify.specs.Typings.{Table, kind_before}
use Rattle.verify.specs.declared.kinds.Kind.TheVariants as kind
use Rattle.receivers.specs.Receiving.{agreed_on, agreed_under, found_by, interface_at, is_at, is_other, is_straight, only, stands_under, under_place}
use Rattle.receivers.proofs.Covered.{Lower, finds_covered, never}
use Rattle.receivers.proofs.Found.{Ways, Virtual, Interface, ways, found_so}
use Rattle.receivers.proofs.Owned.{at_itself, defines, finds_own, found_along, own_class, owns}
use Rattle.receivers.proofs.Ranges.{all_pass, in_filter, in_numbers}
use Rattle.receivers.proofs.Straightly.{in_line_so}
use Rattle.receivers.proofs.Walks.{of_any, place_short, under_self}
use Rattle.devirt.specs.declared.binding.Bound.{Bound}
use Rattle.devirt.specs.declared.binding.Call.{Call}
use Rattle.devirt.specs.Binding.{bound_above, bound_by, bound_to, by_class, default_at, default_of, falls, falls_so, in_line, is_lower, is_same_name, is_under_default, kind_for, may_call, may_rebind, receives}
use Rattle.devirt.specs.Left.{IsBindable}
use Rattle.devirt.specs.Measure.{codes_own, is_coded, is_interface_call, is_interface_place, is_virtual_call, names_code, names_interface}
use Rattle.devirt.specs.Reach.{may_access}
use Rattle.devirt.specs.Rebound.{is_open, is_open_name}
use Rattle.devirt.proofs.Bound.{cond_some, cond_true}

-- ---- names of methods

named_of : (name proto : ℕ) (o : Option MethodName) → names_method name proto o ≡ true → (r : MethodName) × ((o ≡ Some r) × ((r.name ≡ name) × (r.proto ≡ proto)))
named_of name proto None e = absurd (true≢false (sym e))
named_of name proto (Some r) e = (r, (refl, (eqb-true r.name name (and_left (nat_eq r.name name) (nat_eq r.proto proto) e), eqb-true r.proto proto (and_right (nat_eq r.name name) (nat_eq r.proto proto) e))))

module _ (p : Program) (formed : is_well_formed p ≡ true) where
  -- entries of one class, name and proto have one number
  one_number : (m n : ℕ) (q r : MethodName) → slice_get p.methods m ≡ Some q → slice_get p.methods n ≡ Some r → q.class ≡ r.class → q.name ≡ r.name → q.proto ≡ r.proto → m ≡ n
  one_number m n q r e f c a b = tables.same_number method_key p.methods m n q r (sound p formed).methods e f
      (ap (λ x. x ∷ q.name ∷ q.proto ∷ []) c ∙ (ap (λ x. r.class ∷ x ∷ q.proto ∷ []) a ∙ ap (λ x. r.class ∷ r.name ∷ x ∷ []) b))

  -- the method at a place that a class defines, its class and its entry
  record Defined (name proto : ℕ) (at : MethodAt) : Type 0 where
    class : Class
    method : Method
    entry : MethodName
    class_is : slice_get p.classes at.class ≡ Some class
    method_is : method_at p at ≡ Some method
    entry_is : slice_get p.methods method.name ≡ Some entry
    name_is : entry.name ≡ name
    proto_is : entry.proto ≡ proto
    owner : entry.class ≡ class.name

  defined : (name proto c : ℕ) (at : MethodAt) → own_method p name proto c ≡ Some at → at.class ≡ c → Defined name proto at
  defined name proto c at e same = by (slice_get p.classes c) refl e
    where
      by : (o : Option Class) → slice_get p.classes c ≡ o → method_of_class p name proto c o ≡ Some at → Defined name proto at
      by None i f = none_some at f
      by (Some k) i f =
          let place = before_map (λ n. record { class = c; place = n }) (position (is_method p name proto) k.methods) at f in
          let fits = place_entry (is_method p name proto) k.methods place.0 place.1.0 in
          let number : at.place ≡ place.0 = sym (ap (λ (y : MethodAt). y.place) place.1.1) in
          let n = named_of name proto (slice_get p.methods fits.entry.name) fits.passes in
          let own = (class_parts p (sound p formed) c k i).methods place.0 fits.entry fits.is in
          let class_is : slice_get p.classes at.class ≡ Some k = ap (slice_get p.classes) same ∙ i in
          record {
            class = k;
            method = fits.entry;
            entry = n.0;
            class_is = class_is;
            method_is = ap (λ o. option_and_then (λ (c : Class). slice_get c.methods at.place) o) class_is ∙ (ap (slice_get k.methods) number ∙ fits.is);
            entry_is = n.1.0;
            name_is = n.1.1.0;
            proto_is = n.1.1.1;
            owner = ap (λ (y : MethodName). y.class) (some_same n.0 own.entry (sym n.1.0 ∙ own.is)) ∙ own.owner;
          }

  module _ (once : (class : ℕ) → IsTwice p class → ⊥) where
    -- the place of a class's type is its own
    place_of_class : (c : ℕ) (k : Class) → slice_get p.classes c ≡ Some k → class_place p k.name ≡ Some c
    place_of_class c k e =
        let f = place_first (λ (d : Class). nat_eq d.name k.name) p.classes c k e (number_test k.name k.name refl) in
        elim f.first [
          | inr same ↦ f.is ∙ ap Some same
          | inl before ↦ (
              let x = place_entry (λ (d : Class). nat_eq d.name k.name) p.classes f.place f.is in
              absurd (once c (record { earlier = f.place; before = before; one = x.entry; other = k; is_one = x.is; is_other = e; same = number_of x.entry.name k.name x.passes }))
              )
        ]

    module _ (r : IsRanked p) (straight : is_straight p ≡ true) (caller : ℕ) (x : Table) (n : ℕ) (i : Insn) (h : IsBindable p caller x n i) where
      abbrev pub q : MethodName
      q = h.named

      abbrev pub at : MethodAt
      at = h.at

      abbrev pub call : Call
      call = record { caller = caller; kind = h.kind; method = h.method; receiver = kind_before x n h.on }

      -- ---- the receiver's class finds it

      found_top : found_by p q h.receiver ≡ Some at
      found_top = h.finds h.receiver h.short (under_self p r h.receiver)

      top_stands : stands_under p h.receiver q.class ≡ true
      top_stands = cond_true (stands_under p h.receiver q.class) (only (finds_at p h.receiver q.name q.proto)) at found_top

      top_finds : only (finds_at p h.receiver q.name q.proto) ≡ Some at
      top_finds = cond_some (stands_under p h.receiver q.class) (only (finds_at p h.receiver q.name q.proto)) at found_top

      own : own_virtual p q.name q.proto at.class ≡ Some at
      own = (found_so p r q.name q.proto h.receiver at top_finds).own

      under : is_under p h.receiver at.class ≡ true
      under = (found_so p r q.name q.proto h.receiver at top_finds).under

      def : Defined q.name q.proto at
      def = (let o = owns p q.name q.proto at.class at own in defined q.name q.proto at.class at o.method refl)

      same_target : def.method ≡ h.target
      same_target = some_same def.method h.target (sym def.method_is ∙ h.there)

      entry : slice_get p.methods h.target.name ≡ Some def.entry
      entry = ap (λ (m : Method). slice_get p.methods m.name) (sym same_target) ∙ def.entry_is

      class_short : at.class < length p.classes
      class_short = got_short p.classes at.class def.class def.class_is

      entry_place : class_place p def.entry.class ≡ Some at.class
      entry_place = ap (class_place p) def.owner ∙ place_of_class at.class def.class def.class_is

      -- the named class is not the method's
      other_class : class_place p q.class ≡ Some at.class → ⊥
      other_class e =
          let y = place_entry (λ (d : Class). nat_eq d.name q.class) p.classes at.class e in
          let named : y.entry.name ≡ q.class = number_of y.entry.name q.class y.passes in
          let same : y.entry ≡ def.class = some_same y.entry def.class (sym y.is ∙ def.class_is) in
          let owner : def.entry.class ≡ q.class = def.owner ∙ (ap (λ (k : Class). k.name) (sym same) ∙ named) in
          let number : h.target.name ≡ h.method = one_number h.target.name h.method def.entry q entry h.is_named owner def.name_is def.proto_is in
          true≢false (sym (ap (λ a. nat_eq a h.method) number ∙ same_number h.method) ∙ h.other)

      -- ---- what is asked of it

      agreed_top : agreed_under p q h.receiver ≡ Some at
      agreed_top = ap (agreed_on p q (subclasses_of p h.receiver)) found_top ∙ ap (λ b. cond b (Some at) None)
          (all_pass (λ c. is_at at (found_by p q c)) (subclasses_of p h.receiver) (λ c j.
          let f = in_filter (λ d. is_under p d h.receiver && not (nat_eq d h.receiver)) (range_with_len 0 (length p.classes)) c j in
          let m = (in_numbers 0 (length p.classes) c f.0).1 in
          ap (is_at at) (h.finds c (omega (arith, m)) (and_left (is_under p c h.receiver) (not (nat_eq c h.receiver)) f.1)) ∙ at_itself at))

      same_name : is_same_name p q at.class (slice_get p.methods h.target.name) ≡ true
      same_name = ap (is_same_name p q at.class) entry ∙ and_both (nat_eq def.entry.name q.name && nat_eq def.entry.proto q.proto) (placed (class_place p def.entry.class))
          (and_both (nat_eq def.entry.name q.name) (nat_eq def.entry.proto q.proto) (number_test def.entry.name q.name def.name_is) (number_test def.entry.proto q.proto def.proto_is))
          (ap placed entry_place ∙ same_number at.class)
        where
          placed : Option ℕ → Bool
          placed o = elim o [ Some c ↦ nat_eq c at.class | None ↦ false ]

      received : receives p call.receiver at.class ≡ true
      received = ap (λ k. receives p k at.class) h.typed ∙ by (interface_at p at.class) refl
        where
          line : interface_at p at.class ≡ false → in_line p h.receiver at.class ≡ true
          line plain = on (ways p r q.name q.proto h.receiver at top_finds)
            where
              on : Ways p r q.name q.proto h.receiver at → in_line p h.receiver at.class ≡ true
              on (Virtual f) = in_line_so p straight (length p.classes) h.receiver at.class h.short plain (found_along p q.name q.proto (chain_of p (Some h.receiver)) at f).there
              on (Interface f g) = clash (interface_at p at.class) g.interface plain

          by : (b : Bool) → interface_at p at.class ≡ b → (if b then is_initialised (kind.Program h.receiver) else in_line p h.receiver at.class) ≡ true
          by true e = refl
          by false e = line e

      -- ---- the call falls

      lower_named : (upper : ℕ) → class_place p q.class ≡ Some upper → is_under p at.class upper ≡ true → is_lower p at.class (class_place p q.class) ≡ true
      lower_named upper e u = ap (is_lower p at.class) e ∙ and_both (is_under p at.class upper) (not (nat_eq at.class upper)) u
          (not_of_false (nat_eq at.class upper) (untrue (nat_eq at.class upper) (λ s. other_class (e ∙ ap Some (sym (eqb-true at.class upper s))))))

      -- where the named class is plain and has such a method, the method's class is plain and stands under it
      record Plainly (upper : ℕ) : Type 0 where
        plain : interface_at p at.class ≡ false
        lower : is_under p at.class upper ≡ true

      plainly : (upper : ℕ) (own : MethodAt) → class_place p q.class ≡ Some upper → interface_at p upper ≡ false → own_virtual p q.name q.proto upper ≡ Some own → Plainly upper
      plainly upper first e plain there = by (finds_covered p straight r q.name q.proto upper (place_short p q.class upper e) plain h.receiver h.short stands)
        where
          stands : is_under p h.receiver upper ≡ true
          stands = ap (under_place p h.receiver q.class) (sym e) ∙ top_stands

          along : finds_virtual p q.name q.proto upper ≡ Some first
          along = finds_own p q.name q.proto upper first (let l = h.short in omega (arith, l)) there

          on_way : (y : MethodAt) → finds_virtual p q.name q.proto h.receiver ≡ Some y → at ≡ y
          on_way y f = on (ways p r q.name q.proto h.receiver at top_finds)
            where
              on : Ways p r q.name q.proto h.receiver at → at ≡ y
              on (Virtual g) = some_same at y (sym g ∙ f)
              on (Interface g j) = none_some y (sym g ∙ f)

          by : (finds_virtual p q.name q.proto h.receiver ≡ finds_virtual p q.name q.proto upper) ⊎ Lower p straight r q.name q.proto upper (place_short p q.class upper e) plain (finds_virtual p q.name q.proto h.receiver) → Plainly upper
          by (inl f) =
              let same : at ≡ first = on_way first (f ∙ along) in
              absurd (other_class (e ∙ ap Some (sym (ap (λ (y : MethodAt). y.class) same ∙ own_class p q.name q.proto upper first there))))
          by (inr l) =
              let same : at ≡ l.at = on_way l.at l.is in
              let class : at.class ≡ l.class = ap (λ (y : MethodAt). y.class) same ∙ own_class p q.name q.proto l.class l.at l.there in
              record {
                plain = untrue (interface_at p at.class) (λ j. never p straight r q.name q.proto upper (place_short p q.class upper e) plain (length p.classes) l.class l.short (subst (λ c. interface_at p c ≡ true) class j) l.under);
                lower = subst (λ c. is_under p c upper ≡ true) (sym class) l.under;
              }

      -- where it is an interface, the call's rule has another interface under it
      default_under : (upper : ℕ) (own : MethodAt) → class_place p q.class ≡ Some upper → interface_at p upper ≡ true → interface_at p at.class ≡ true → own_virtual p q.name q.proto upper ≡ Some own
          → has_code (method_at p own) ≡ true → is_under p at.class upper ≡ true
      default_under upper first e i j there code =
          let o = owns p q.name q.proto upper first there in
          let resolved : resolves_method p h.method ≡ Some first = ap (by_entry (λ (q : MethodName). first_among (own_method p q.name q.proto) (resolution_of p (class_place p q.class)))) h.is_named
          ∙ (ap (λ c. first_among (own_method p q.name q.proto) (resolution_of p c)) e ∙ first_own (length p.classes) (interfaces_from (length p.classes) p (flat_map (interface_places p) (chain_of p (Some upper)))) (let l = h.short in omega (arith, l)) o.method) in
          let named : default_of p h.method ≡ Some upper = ap (default_at p) resolved ∙ (ap (λ b. cond b (Some first.class) None)
          (and_both (has_code (method_at p first)) (interface_at p first.class) code (ap (interface_at p) o.class ∙ i)) ∙ ap Some o.class) in
          sym (ap (λ b. not b || is_under_default p at.class (default_of p h.method)) j ∙ ap (is_under_default p at.class) named) ∙ h.rebinds
        where
          first_own : (m : ℕ) (rest : List ℕ) → 0 < m → own_method p q.name q.proto upper ≡ Some first → first_among (own_method p q.name q.proto) (chain_from (super_place p) m (Some upper) ++ rest) ≡ Some first
          first_own zero rest l g = absurd (omega (arith, l))
          first_own (suc m) rest l g = ap (λ y. option_or y (first_among (own_method p q.name q.proto) (chain_from (super_place p) m (super_place p upper) ++ rest))) g

      falls_so_named : (upper : ℕ) (own : MethodAt) → class_place p q.class ≡ Some upper → own_virtual p q.name q.proto upper ≡ Some own → has_code (method_at p own) ≡ true
          → falls_so p (names_interface p h.kind q) (interface_at p at.class) q at.class ≡ true
      falls_so_named upper first e there code = by (interface_at p upper) refl
        where
          from_interface : interface_at p upper ≡ true → names_interface p h.kind q ≡ true
          from_interface i = or_right (is_interface_call h.kind) (is_interface_place p (class_place p q.class)) (ap (is_interface_place p) e ∙ i)

          on : (from to : Bool) → (to ≡ true → from ≡ true) → (to ≡ from → is_lower p at.class (class_place p q.class) ≡ true) → falls_so p from to q at.class ≡ true
          on true false k l = refl
          on false true k l = absurd (true≢false (sym (k refl)))
          on true true k l = l refl
          on false false k l = l refl

          by : (b : Bool) → interface_at p upper ≡ b → falls_so p (names_interface p h.kind q) (interface_at p at.class) q at.class ≡ true
          by true i = on (names_interface p h.kind q) (interface_at p at.class) (λ j. from_interface i)
              (λ s. lower_named upper e (default_under upper first e i (s ∙ from_interface i) there code))
          by false i =
              let y = plainly upper first e i there in
              on (names_interface p h.kind q) (interface_at p at.class) (λ j. clash (interface_at p at.class) j y.plain) (λ s. lower_named upper e y.lower)

      call_falls : falls p h.kind q at.class ≡ true
      call_falls = by (names_code p q) refl
        where
          coded : (upper : ℕ) (o : Option MethodAt) → class_place p q.class ≡ Some upper → own_virtual p q.name q.proto upper ≡ o → is_coded p o ≡ true → falls_so p (names_interface p h.kind q) (interface_at p at.class) q at.class ≡ true
          coded upper None e f g = absurd (true≢false (sym g))
          coded upper (Some own) e f g = falls_so_named upper own e f g

          named : (o : Option ℕ) → class_place p q.class ≡ o → codes_own p q o ≡ true → falls_so p (names_interface p h.kind q) (interface_at p at.class) q at.class ≡ true
          named None e f = absurd (true≢false (sym f))
          named (Some upper) e f = coded upper (own_virtual p q.name q.proto upper) e refl f

          by : (b : Bool) → names_code p q ≡ b → (not b || falls_so p (names_interface p h.kind q) (interface_at p at.class) q at.class) ≡ true
          by false e = refl
          by true e = named (class_place p q.class) refl e

      -- ---- so it is bound

      may : may_call p call q at h.target ≡ true
      may = let a = and_both (is_some h.target.body) (is_at at (own_virtual p q.name q.proto at.class)) h.coded (ap (is_at at) own ∙ at_itself at) in
          let b = and_both A C a same_name in
          let c = and_both (A && C) D b received in
          let d = and_both (A && C && D) E c h.rebinds in
          let e = and_both (A && C && D && E) F d h.access in
          and_both (A && C && D && E && F) (falls p h.kind q at.class) e call_falls
        where
          A : Bool
          A = is_some h.target.body && is_at at (own_virtual p q.name q.proto at.class)

          C : Bool
          C = is_same_name p q at.class (slice_get p.methods h.target.name)

          D : Bool
          D = receives p call.receiver at.class

          E : Bool
          E = may_rebind p h.method at.class

          F : Bool
          F = may_access p caller at.class h.target

      abbrev pub made : Bound
      made = record { kind = kind_for (interface_at p at.class); method = h.target.name }

      pub bound_class : by_class p call q h.receiver ≡ Some made
      bound_class =
          ap (λ b. cond b (bound_above p call q (h.receiver ∷ []) (agreed_under p q h.receiver)) None) (and_both (nat_lt h.receiver (length p.classes)) (not (interface_at p h.receiver)) (lt-ltb h.receiver (length p.classes) h.short) (not_of_false (interface_at p h.receiver) h.plain))
          ∙ (ap (bound_above p call q (h.receiver ∷ [])) agreed_top
          ∙ (ap (λ b. cond b (bound_to p call q at) None) (and_both (nat_lt at.class (length p.classes)) (is_under p h.receiver at.class && true) (lt-ltb at.class (length p.classes) class_short) (and_both (is_under p h.receiver at.class) true under refl))
          ∙ (ap (bound_by p call q at) h.there
          ∙ ap (λ b. cond b (Some made) None) (and_both (not (nat_eq h.target.name h.method)) (may_call p call q at h.target) (not_of_false (nat_eq h.target.name h.method) h.other) may))))

      -- and it is open
      pub call_open : is_open p i ≡ true
      call_open = ap (is_open p) h.form ∙ and_both (is_virtual_call h.kind) (is_open_name p (slice_get p.methods h.method)) h.virtual
          (ap (is_open_name p) h.is_named ∙ of_any (is_other (class_place p q.class)) (definers_of p q.name q.proto) at.class (defines p q.name q.proto at.class at class_short own) (other (class_place p q.class) refl))
        where
          other : (o : Option ℕ) → class_place p q.class ≡ o → is_other o at.class ≡ true
          other None e = refl
          other (Some c) e = not_of_false (nat_eq c at.class) (untrue (nat_eq c at.class) (λ s. other_class (e ∙ ap Some (eqb-true c at.class s))))
