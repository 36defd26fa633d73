-- A kept virtual method above a type, by numbers and by names.
use Rattle.std.proofs.Common.{◌≡◌, ℕ, zero, suc, ◌+◌, ◌<◌, ◌≤◌, inl, inr, Bool, true, false, true≢false, List, [], ◌∷◌, length, map, nat_eq, nat_lt, arith, ap, refl, sym, subst, ◌∙◌, lt-ltb, eqb-true, eq-eqb}
use Rattle.std.specs.Prelude.{Option, Some, None, ◌&&◌, ◌||◌, cond, find, is_some, position, slice_get, option_and_then}
use Rattle.std.specs.List.{filter, list_any, range_with_len}
use Rattle.std.specs.Option.{option_map}
use Rattle.std.proofs.lemmas.Bool.{cases_lt}
use Rattle.program_model.specs.declared.pass.Outside.{Outside}
use Rattle.program_model.specs.declared.pools.MethodName.{MethodName}
use Rattle.program_model.specs.declared.program.Class.{Class}
use Rattle.program_model.specs.declared.program.Method.{Method}
use Rattle.program_model.specs.declared.program.MethodAt.{MethodAt}
use Rattle.program_model.specs.declared.program.Program.{Program}
use Rattle.program_model.specs.Lookups as look
use Rattle.class_defs.proofs.Positions.{both, number_of, place_entry, same_test}
use Rattle.class_defs.specs.Members.{is_method, is_virtual, names_method, own_method, own_virtual, virtual_only}
use Rattle.name_bridge.specs.Named.{class_at, found_at}
use Rattle.name_bridge.proofs.Above.{own_place}
use Rattle.name_bridge.proofs.Classes.{class_by_number, class_parts, method_by_number, text_test, MethodFits}
use Rattle.name_bridge.proofs.Found.{found_there_is, in_class, looked_up, virtual_answers}
use Rattle.name_bridge.proofs.Lists.{find_named}
use Rattle.name_bridge.proofs.Tables.{Sound, and_left, and_right, method_is, method_name, method_proto, sound}
use Rattle.dalvik_defs.specs.Face.{declared_in}
use Rattle.dalvik_defs.specs.Find.{Found, found_in, is_virtual_method, method_in, passing}
use Rattle.dalvik_defs.specs.Flags as flag
use Rattle.dalvik_defs.specs.Legal.{is_found_virtual, keeper_above}
use Rattle.dalvik_defs.specs.Names.{Text, method_eq, proto_text, same_name, text_eq}
use Rattle.dalvik_defs.specs.Naming.{method_at, named, named_class, named_method, signature_at, text_at, type_at}
use Rattle.dalvik_defs.specs.Outer.{keepers_in, outer_of}
use Rattle.dalvik_defs.specs.Under.{class_named, is_under}
use Rattle.dalvik_defs.specs.declared.names.MethodKey.{MethodKey}
use Rattle.dalvik_defs.specs.declared.names.Signature.{Signature}
use Rattle.dalvik_defs.specs.declared.program.NamedClass.{NamedClass}
use Rattle.dalvik_defs.specs.declared.program.NamedMethod.{NamedMethod}
use Rattle.dalvik_lookups.specs.Facing.{run_face}
use Rattle.dalvik_lookups.specs.Reached.{has_keeper, is_among, is_kept_at, is_kept_of, keeps_over, keeps_virtual, text_of_class}
use Rattle.dalvik_lookups.specs.Tables.{place_named, IsRight}
use Rattle.dalvik_lookups.specs.declared.lookups.Lookups.{Lookups}
use Rattle.dalvik_lookups.proofs.Facing.{class_of, named_place}
use Rattle.dalvik_lookups.proofs.Interned.{got_short, text_same, text_sound}
use Rattle.dalvik_state.proofs.Marked.{method_number, method_same, signature_same, signature_sound}
use Rattle.dalvik_state.proofs.Protos.{proto_test}

-- ---- some of a list pass

or_left : (a b : Bool) → a ≡ true → (a || b) ≡ true
or_left a b e = ap (λ (x : Bool). x || b) e

or_right : (a b : Bool) → b ≡ true → (a || b) ≡ true
or_right true b e = refl
or_right false b e = e

-- a number among some passes
any_with : (t : ℕ → Bool) (m : ℕ) (ns : List ℕ) → list_any (nat_eq m) ns ≡ true → t m ≡ true → list_any t ns ≡ true
any_with t m [] e h = absurd (true≢false (sym e))
any_with t m (n ∷ ns) e h = by (nat_eq m n) refl e (λ g. any_with t m ns g h)
  where
    by : (b : Bool) → nat_eq m n ≡ b → (b || list_any (nat_eq m) ns) ≡ true → (list_any (nat_eq m) ns ≡ true → list_any t ns ≡ true) → (t n || list_any t ns) ≡ true
    by true f g more = or_left (t n) (list_any t ns) (ap t (sym (eqb-true m n f)) ∙ h)
    by false f g more = or_right (t n) (list_any t ns) (more g)

record Passes (t : ℕ → Bool) (ns : List ℕ) : Type 0 where
  one : ℕ
  among : list_any (nat_eq one) ns ≡ true
  passes : t one ≡ true

any_there : (t : ℕ → Bool) (ns : List ℕ) → list_any t ns ≡ true → Passes t ns
any_there t [] e = absurd (true≢false (sym e))
any_there t (n ∷ ns) e = by (t n) refl e (λ g. any_there t ns g)
  where
    by : (b : Bool) → t n ≡ b → (b || list_any t ns) ≡ true → (list_any t ns ≡ true → Passes t ns) → Passes t (n ∷ ns)
    by true f g more = record { one = n; among = or_left (nat_eq n n) (list_any (nat_eq n) ns) (eq-eqb n n refl); passes = f }
    by false f g more = let r = more g in record { one = r.one; among = or_right (nat_eq r.one n) (list_any (nat_eq r.one) ns) r.among; passes = r.passes }

-- a number of a list that a filter keeps
any_kept : (u : ℕ → Bool) (m : ℕ) (ns : List ℕ) → list_any (nat_eq m) ns ≡ true → u m ≡ true → list_any (nat_eq m) (filter u ns) ≡ true
any_kept u m [] e h = absurd (true≢false (sym e))
any_kept u m (n ∷ ns) e h = by (nat_eq m n) (u n) refl refl e (λ k. any_kept u m ns k h)
  where
    by : (b c : Bool) → nat_eq m n ≡ b → u n ≡ c → (b || list_any (nat_eq m) ns) ≡ true → (list_any (nat_eq m) ns ≡ true → list_any (nat_eq m) (filter u ns) ≡ true) → list_any (nat_eq m) (cond c (n ∷ filter u ns) (filter u ns)) ≡ true
    by true true f g k more = or_left (nat_eq m n) (list_any (nat_eq m) (filter u ns)) f
    by true false f g k more = absurd (true≢false (sym h ∙ ap u (eqb-true m n f) ∙ g))
    by false true f g k more = or_right (nat_eq m n) (list_any (nat_eq m) (filter u ns)) (more k)
    by false false f g k more = more k

further : (a b : ℕ) → b ≤ a → (a ≡ b → ⊥) → b + 1 ≤ a
further a b h f = elim (cases_lt b a) [ inl lt ↦ omega (arith, lt) | inr le ↦ absurd (f (omega (arith, le, h))) ]

in_range : (start count m : ℕ) → start ≤ m → m < start + count → list_any (nat_eq m) (range_with_len start count) ≡ true
in_range start zero m low high = absurd (omega (arith, low, high))
in_range start (suc count) m low high = by (nat_eq m start) refl (λ h. in_range (start + 1) count m h (omega (arith, high)))
  where
    by : (b : Bool) → nat_eq m start ≡ b → (start + 1 ≤ m → list_any (nat_eq m) (range_with_len (start + 1) count) ≡ true) → (nat_eq m start || list_any (nat_eq m) (range_with_len (start + 1) count)) ≡ true
    by true f more = or_left (nat_eq m start) (list_any (nat_eq m) (range_with_len (start + 1) count)) f
    by false f more =
        let apart : m ≡ start → ⊥ = λ e. true≢false (sym (eq-eqb m start e) ∙ f) in
        or_right (nat_eq m start) (list_any (nat_eq m) (range_with_len (start + 1) count)) (more (further m start low apart))

-- ---- the classes of the kept methods of a name and a signature

any_keeper : (p : Program) (u : MethodKey → Bool) (t : Text → Bool) (ns : List ℕ)
    → list_any t (map (λ (k : MethodKey). k.class) (filter u (map (method_at p) ns))) ≡ list_any (λ (n : ℕ). u (method_at p n) && t (method_at p n).class) ns
any_keeper p u t [] = refl
any_keeper p u t (n ∷ ns) = by (u (method_at p n)) (any_keeper p u t ns)
  where
    by : (b : Bool) → list_any t (map (λ (k : MethodKey). k.class) (filter u (map (method_at p) ns))) ≡ list_any (λ (m : ℕ). u (method_at p m) && t (method_at p m).class) ns
        → list_any t (map (λ (k : MethodKey). k.class) (cond b (method_at p n ∷ filter u (map (method_at p) ns)) (filter u (map (method_at p) ns)))) ≡ ((b && t (method_at p n).class) || list_any (λ (m : ℕ). u (method_at p m) && t (method_at p m).class) ns)
    by true more = ap (λ (b : Bool). t (method_at p n).class || b) more
    by false more = more

-- ---- a virtual method of a class

-- the method of a name and a proto that a class itself defines, and calls find by their receiver
record OwnVirtual (p : Program) (name proto c : ℕ) (at : MethodAt) : Type 0 where
  class : Class
  is_class : slice_get p.classes c ≡ Some class
  place : at.class ≡ c
  method : Method
  there : slice_get class.methods at.place ≡ Some method
  named : is_method p name proto method ≡ true

own_there : (p : Program) (name proto c : ℕ) (at : MethodAt) → own_virtual p name proto c ≡ Some at → own_method p name proto c ≡ Some at
own_there p name proto c at e = by (own_method p name proto c) e
  where
    by : (o : Option MethodAt) → virtual_only p o ≡ Some at → o ≡ Some at
    by None f = absurd (cc)
    by (Some one) f = on (is_virtual p (look.method_at p one)) f
      where
        on : (b : Bool) → cond b (Some one) None ≡ Some at → Some one ≡ Some at
        on true g = g
        on false g = absurd (cc)

own_parts : (p : Program) (name proto c : ℕ) (at : MethodAt) → own_method p name proto c ≡ Some at → OwnVirtual p name proto c at
own_parts p name proto c at e = by (slice_get p.classes c) refl e
  where
    on : (k : Class) → slice_get p.classes c ≡ Some k → (o : Option ℕ) → position (is_method p name proto) k.methods ≡ o → option_map (λ (i : ℕ). record { class = c; place = i }) o ≡ Some at → OwnVirtual p name proto c at
    on k f None g h = absurd (cc)
    on k f (Some i) g h =
        let same : record { class = c; place = i } ≡ at = cc in
        let r = place_entry (is_method p name proto) k.methods i g in
        record { class = k; is_class = f; place = ap (λ (a : MethodAt). a.class) (sym same); method = r.entry; there = ap (λ (a : MethodAt). slice_get k.methods a.place) (sym same) ∙ r.is; named = r.passes }

    by : (o : Option Class) → slice_get p.classes c ≡ o → elim o as (λ o. Option MethodAt) [ Some k ↦ option_map (λ (i : ℕ). record { class = c; place = i }) (position (is_method p name proto) k.methods) | None ↦ None ] ≡ Some at → OwnVirtual p name proto c at
    by None f g = absurd (cc)
    by (Some k) f g = on k f (position (is_method p name proto) k.methods) refl g

module _ (l : Lookups) (r : IsRight l) (o : Outside) (name proto : ℕ) (hn : name < length l.program.now.strings) (hq : proto < length l.program.now.protos) where
  abbrev p : Program
  p = l.program.now

  -- the classes that define a method of the name and the proto
  abbrev definers : List ℕ
  definers = filter (λ (d : ℕ). is_some (own_method l.program.now name proto d)) (range_with_len 0 (length l.program.now.classes))

  s : Sound l.program.now
  s = sound l.program.now r.well

  abbrev text : Text
  text = text_at l.program.now name

  abbrev sign : Signature
  sign = signature_at l.program.now proto

  -- its name and its signature
  key_of : (c : ℕ) (at : MethodAt) (h : OwnVirtual l.program.now name proto c at) → method_at l.program.now h.method.name ≡ record { class = type_at l.program.now h.class.name; name = text; signature = sign }
  key_of c at h =
      let fit = (class_parts l.program.now s c h.class h.is_class).methods at.place h.method h.there in
      let numbers : names_method name proto (Some fit.entry) ≡ true = sym (ap (names_method name proto) fit.is) ∙ h.named in
      let first : fit.entry.name ≡ name = number_of fit.entry.name name (and_left (nat_eq fit.entry.name name) (nat_eq fit.entry.proto proto) numbers) in
      let second : fit.entry.proto ≡ proto = number_of fit.entry.proto proto (and_right (nat_eq fit.entry.name name) (nat_eq fit.entry.proto proto) numbers) in
      method_is l.program.now s h.method.name fit.entry fit.is
      ∙ (λ i. record { class = type_at l.program.now (fit.owner i); name = text_at l.program.now (first i); signature = signature_at l.program.now (second i) })

  number_low : (c : ℕ) (at : MethodAt) (h : OwnVirtual l.program.now name proto c at) → h.method.name < length l.program.now.methods
  number_low c at h =
      let fit = (class_parts l.program.now s c h.class h.is_class).methods at.place h.method h.there in
      got_short l.program.now.methods h.method.name fit.entry fit.is

  -- what the framework finds by a name and the text of a proto is the method of that name and proto
  spelled_test : (k : Class) (m : Method) → MethodFits l.program.now k.name m → (text_eq (named_method l.program.now m).name text && text_eq (proto_text (named_method l.program.now m).signature) (proto_text sign)) ≡ is_method l.program.now name proto m
  spelled_test k m fit =
      ap (λ (q : MethodKey). text_eq q.name text && text_eq (proto_text q.signature) (proto_text sign)) (method_is l.program.now s m.name fit.entry fit.is)
      ∙ ap (λ (b : Bool). b && text_eq (proto_text (signature_at l.program.now fit.entry.proto)) (proto_text sign)) (text_test l.program.now s fit.entry.name name (method_name l.program.now s m.name fit.entry fit.is) hn)
      ∙ ap (λ (b : Bool). nat_eq fit.entry.name name && b) (proto_test l.program.now s fit.entry.proto proto (method_proto l.program.now s m.name fit.entry fit.is) hq)
      ∙ sym (ap (names_method name proto) fit.is)

  class_there : (c : ℕ) (k : Class) → slice_get l.program.now.classes c ≡ Some k → class_named (named l.program.now) (type_at l.program.now k.name) ≡ Some (named_class l.program.now k)
  class_there c k e =
      class_by_number l.program.now s k.name (class_parts l.program.now s c k e).name
      ∙ ap (option_and_then (class_at l.program.now)) (own_place l.program.now r.resolved.of.once c k e)
      ∙ ap (option_map (named_class l.program.now)) e

  abbrev declared_by : Option NamedClass → Option Found
  declared_by w = elim w as (λ w. Option Found) [ Some d ↦ option_map (found_in d) (find (λ (m : NamedMethod). text_eq m.name text && text_eq (proto_text m.signature) (proto_text sign)) d.methods) | None ↦ None ]

  declared_is : (c : ℕ) (k : Class) → slice_get l.program.now.classes c ≡ Some k
      → (run_face l).declared (type_at l.program.now k.name) text (proto_text sign) ≡ option_map (found_in (named_class l.program.now k)) (method_in (named_class l.program.now k) text sign)
  declared_is c k e =
      ap declared_by (class_there c k e)
      ∙ ap (option_map (found_in (named_class l.program.now k)))
      (find_named (λ (m : NamedMethod). text_eq m.name text && text_eq (proto_text m.signature) (proto_text sign)) (is_method l.program.now name proto) (named_method l.program.now) k.methods
      (λ j m f. spelled_test k m ((class_parts l.program.now s c k e).methods j m f))
      ∙ sym (method_by_number l.program.now s c k name proto e hn hq))

  passes_virtual : (d : NamedClass) (w : Option NamedMethod) → is_found_virtual (option_map (found_in d) w) ≡ is_some (passing is_virtual_method d w)
  passes_virtual d None = refl
  passes_virtual d (Some m) = by (is_virtual_method m)
    where
      by : (b : Bool) → b ≡ is_some (elim b as (λ b. Option Found) [ true ↦ Some (found_in d m) | false ↦ None ])
      by true = refl
      by false = refl

  some_found : (c : ℕ) (w : Option MethodAt) → own_virtual l.program.now name proto c ≡ w → is_some (option_and_then (found_at l.program.now) w) ≡ is_some w
  some_found c None e = refl
  some_found c (Some at) e = ap is_some (found_there_is l.program.now at ((virtual_answers l.program.now s name proto hn hq).there c at e))

  -- the framework finds a virtual method there exactly where the class defines one
  virtual_there : (c : ℕ) (k : Class) → slice_get l.program.now.classes c ≡ Some k → is_found_virtual ((run_face l).declared (type_at l.program.now k.name) text (proto_text sign)) ≡ is_some (own_virtual l.program.now name proto c)
  virtual_there c k e =
      ap is_found_virtual (declared_is c k e)
      ∙ passes_virtual (named_class l.program.now k) (method_in (named_class l.program.now k) text sign)
      ∙ ap is_some (sym (ap (λ (w : Option Class). in_class is_virtual_method text sign (option_map (named_class l.program.now) w)) e)
      ∙ (virtual_answers l.program.now s name proto hn hq).same c)
      ∙ some_found c (own_virtual l.program.now name proto c) refl

  -- ---- both ways

  abbrev under : Text → Text → Bool
  under t c = (run_face l).under t c

  abbrev keeper : Text → Text → Bool
  keeper t c = under t c && is_found_virtual ((run_face l).declared c text (proto_text sign))

  abbrev same_key : MethodKey → Bool
  same_key k = same_name k.name k.signature text sign

  abbrev kept_over : Text → ℕ → Bool
  kept_over t n = same_key (method_at l.program.now n) && keeper t (method_at l.program.now n).class

  here : (t : Text) (c : ℕ) → keeps_over l.program.now l.framework.now o name proto t c ≡ true → list_any (kept_over t) o.methods ≡ true
  here t c e = by (own_virtual l.program.now name proto c) refl (and_left (keeps_virtual l.program.now o name proto c) (is_under (named l.program.now) l.framework.now t (text_of_class l.program.now (slice_get l.program.now.classes c))) e)
    where
      by : (w : Option MethodAt) → own_virtual l.program.now name proto c ≡ w → is_kept_at l.program.now o w ≡ true → list_any (kept_over t) o.methods ≡ true
      by None f g = absurd (true≢false (sym g))
      by (Some at) f g =
          let h = own_parts l.program.now name proto c at (own_there l.program.now name proto c at f) in
          let there : look.method_at l.program.now at ≡ Some h.method = ap (option_and_then (λ (k : Class). slice_get k.methods at.place)) (ap (slice_get l.program.now.classes) h.place ∙ h.is_class) ∙ h.there in
          let kept : is_among (length l.program.now.methods) o.methods h.method.name ≡ true = sym (ap (is_kept_of l.program.now o) there) ∙ g in
          let key = key_of c at h in
          let over : under t (type_at l.program.now h.class.name) ≡ true =
          ap (λ (w : Option Class). is_under (named l.program.now) l.framework.now t (text_of_class l.program.now w)) (sym h.is_class)
          ∙ and_right (keeps_virtual l.program.now o name proto c) (is_under (named l.program.now) l.framework.now t (text_of_class l.program.now (slice_get l.program.now.classes c))) e in
          let virtual = virtual_there c h.class h.is_class ∙ ap is_some f in
          any_with (kept_over t) h.method.name o.methods (and_right (nat_lt h.method.name (length l.program.now.methods)) (list_any (nat_eq h.method.name) o.methods) kept)
          (ap (λ (k : MethodKey). same_key k && keeper t k.class) key
          ∙ both (same_key (record { class = type_at l.program.now h.class.name; name = text; signature = sign })) (keeper t (type_at l.program.now h.class.name))
          (both (text_eq text text) _ (text_same text) (signature_same sign))
          (both (under t (type_at l.program.now h.class.name)) (is_found_virtual ((run_face l).declared (type_at l.program.now h.class.name) text (proto_text sign))) over virtual))

  there_too : (t : Text) (n : ℕ) → list_any (nat_eq n) o.methods ≡ true → kept_over t n ≡ true → list_any (keeps_over l.program.now l.framework.now o name proto t) definers ≡ true
  there_too t n among e = by (place_named l.program.now (method_at l.program.now n).class) refl
    where
      key : MethodKey
      key = method_at l.program.now n

      same : same_key (method_at l.program.now n) ≡ true
      same = and_left (same_key (method_at l.program.now n)) (keeper t (method_at l.program.now n).class) e

      over : under t (method_at l.program.now n).class ≡ true
      over = and_left (under t (method_at l.program.now n).class) (is_found_virtual ((run_face l).declared (method_at l.program.now n).class text (proto_text sign))) (and_right (same_key (method_at l.program.now n)) (keeper t (method_at l.program.now n).class) e)

      virtual : is_found_virtual ((run_face l).declared (method_at l.program.now n).class text (proto_text sign)) ≡ true
      virtual = and_right (under t (method_at l.program.now n).class) (is_found_virtual ((run_face l).declared (method_at l.program.now n).class text (proto_text sign))) (and_right (same_key (method_at l.program.now n)) (keeper t (method_at l.program.now n).class) e)

      by : (w : Option ℕ) → place_named l.program.now (method_at l.program.now n).class ≡ w → list_any (keeps_over l.program.now l.framework.now o name proto t) definers ≡ true
      by None f =
          let none : class_named (named l.program.now) (method_at l.program.now n).class ≡ None = named_place l.program.now (method_at l.program.now n).class
          ∙ ap (λ (w : Option ℕ). option_map (named_class l.program.now) (option_and_then (slice_get l.program.now.classes) w)) f in
          absurd (true≢false (sym virtual ∙ ap (λ (w : Option NamedClass). is_found_virtual (declared_by w)) none))
      by (Some c) f =
          let k = class_of l.program.now (method_at l.program.now n).class c f in
          let some : is_some (own_virtual l.program.now name proto c) ≡ true = sym (virtual_there c k.class k.is) ∙ ap (λ (w : Text). is_found_virtual ((run_face l).declared w text (proto_text sign))) k.text ∙ virtual in
          on c k.class k.is k.text (own_virtual l.program.now name proto c) refl some
        where
          on : (c : ℕ) (k : Class) → slice_get l.program.now.classes c ≡ Some k → type_at l.program.now k.name ≡ (method_at l.program.now n).class → (w : Option MethodAt) → own_virtual l.program.now name proto c ≡ w → is_some w ≡ true
              → list_any (keeps_over l.program.now l.framework.now o name proto t) definers ≡ true
          on c k i x None g h = absurd (true≢false (sym h))
          on c k i x (Some at) g h =
              let own = own_there l.program.now name proto c at g in
              let v = own_parts l.program.now name proto c at own in
              let class : v.class ≡ k = (let q : Some v.class ≡ Some k = sym v.is_class ∙ i in cc) in
              let first : (method_at l.program.now n).name ≡ text = text_sound (method_at l.program.now n).name text (and_left (text_eq (method_at l.program.now n).name text) _ same) in
              let second : (method_at l.program.now n).signature ≡ sign = signature_sound (method_at l.program.now n).signature sign (and_right (text_eq (method_at l.program.now n).name text) _ same) in
              let keys : method_at l.program.now n ≡ method_at l.program.now v.method.name =
              (λ j. record { class = (sym x ∙ ap (λ (d : Class). type_at l.program.now d.name) (sym class)) j; name = first j; signature = second j }) ∙ sym (key_of c at v) in
              let low = number_low c at v in
              let number : v.method.name ≡ n = method_number l.program.now s v.method.name low n (ap (λ (q : MethodKey). method_eq q (method_at l.program.now v.method.name)) keys ∙ method_same (method_at l.program.now v.method.name)) in
              let kept : is_among (length l.program.now.methods) o.methods v.method.name ≡ true =
              both (nat_lt v.method.name (length l.program.now.methods)) (list_any (nat_eq v.method.name) o.methods) (lt-ltb v.method.name (length l.program.now.methods) low) (ap (λ (q : ℕ). list_any (nat_eq q) o.methods) number ∙ among) in
              let there : look.method_at l.program.now at ≡ Some v.method = ap (option_and_then (λ (d : Class). slice_get d.methods at.place)) (ap (slice_get l.program.now.classes) v.place ∙ v.is_class) ∙ v.there in
              let keeps : keeps_virtual l.program.now o name proto c ≡ true = ap (is_kept_at l.program.now o) g ∙ ap (is_kept_of l.program.now o) there ∙ kept in
              let above : is_under (named l.program.now) l.framework.now t (text_of_class l.program.now (slice_get l.program.now.classes c)) ≡ true =
              ap (λ (w : Option Class). is_under (named l.program.now) l.framework.now t (text_of_class l.program.now w)) i ∙ ap (under t) x ∙ over in
              let inside = in_range 0 (length l.program.now.classes) c (omega arith) (let short = got_short l.program.now.classes c k i in omega (arith, short)) in
              any_with (keeps_over l.program.now l.framework.now o name proto t) c definers
              (any_kept (λ (d : ℕ). is_some (own_method l.program.now name proto d)) c (range_with_len 0 (length l.program.now.classes)) inside (ap is_some own))
              (both (keeps_virtual l.program.now o name proto c) _ keeps above)

  pub keeper_named : (t : Text) → has_keeper l.program.now l.framework.now o name proto t ≡ keeper_above (run_face l) (outer_of l.program.now o) t text sign
  keeper_named t =
      same_test (has_keeper l.program.now l.framework.now o name proto t) (list_any (kept_over t) o.methods)
      (λ e. let c = any_there (keeps_over l.program.now l.framework.now o name proto t) definers e in here t c.one c.passes)
      (λ e. let n = any_there (kept_over t) o.methods e in there_too t n.one n.among n.passes)
      ∙ sym (any_keeper l.program.now same_key (keeper t) o.methods)
