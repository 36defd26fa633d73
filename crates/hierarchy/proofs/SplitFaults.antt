-- A split override by the tables of keys is one by the program's names.
use Rattle.std.proofs.Common.{◌≡◌, ℕ, zero, suc, inl, inr, Bool, true, false, true≢false, nat_eq, List, [], ◌∷◌, map, length, Option, Some, None, refl, sym, ap, subst, ◌∙◌, arith}
use Rattle.std.specs.Prelude.{◌&&◌, ◌||◌, not, slice_get, slice_index_or, option_and_then}
use Rattle.std.specs.List.{list_any}
use Rattle.program_model.specs.declared.pools.MethodName.{MethodName}
use Rattle.program_model.specs.declared.program.Method.{Method}
use Rattle.program_model.specs.declared.program.Class.{Class}
use Rattle.program_model.specs.declared.program.Program.{Program}
use Rattle.program_model.specs.Lookups.{class_place}
use Rattle.program_model.specs.MemberRules.{is_static, is_private, is_direct, has_flag}
use Rattle.program_model.specs.ProgramRules.{is_well_formed}
use Rattle.class_defs.specs.ClassGraph.{IsTwice, IsSuperclass, IsUnder, IsSplit, is_package_private}
use Rattle.class_defs.specs.Places.{super_place}
use Rattle.class_defs.proofs.Positions.{number_test, number_of, place_entry}
use Rattle.class_defs.proofs.WellFormed.{and_left, and_right, sound, class_parts}
use Rattle.hierarchy.specs.Membership.{key_at, method_pair, AreKeys, is_virtual_by}
use Rattle.hierarchy.specs.Naming.{is_special}
use Rattle.hierarchy.specs.Splitting.{package_in, is_hidden_by, hides, methods_in, methods_at, IsNext, OnChainOf, Hiding, TellsAll, HasMaps, is_apart, Map, map_of, splits, FirstSplit, SplitOf, AnswersSplit, SplitsFirst}
use Rattle.hierarchy.specs.Tables.{read_at}
use Rattle.std.specs.FinMap as finite
use Rattle.hierarchy.proofs.Above.{steps_map, super_short}
use Rattle.hierarchy.proofs.Acyclic.{own_place}
use Rattle.hierarchy.proofs.Keyed.{got_short}
use Rattle.hierarchy.proofs.Looked.{virtual_by}
use Rattle.hierarchy.proofs.Splits.{some_apart, none_apart, down_chain, empty_tells}

-- an entry that passes a test
record Passing {X : Type 0} (t : X → Bool) (xs : List X) : Type 0 where
  pub place : ℕ
  pub entry : X
  pub is : slice_get xs place ≡ Some entry
  pub passes : t entry ≡ true

any_found : {X : Type 0} (t : X → Bool) (xs : List X) → list_any t xs ≡ true → Passing t xs
any_found t [] e = absurd (true≢false (sym e))
any_found t (x ∷ xs) e = by_test (t x) refl e (any_found t xs)
  where
    by_test : (b : Bool) → t x ≡ b → (b || list_any t xs) ≡ true → (list_any t xs ≡ true → Passing t xs) → Passing t (x ∷ xs)
    by_test true f g more = record { place = 0; entry = x; is = refl; passes = f }
    by_test false f g more = let r = more g in record { place = suc r.place; entry = r.entry; is = r.is; passes = r.passes }

found_any : {X : Type 0} (t : X → Bool) (xs : List X) (i : ℕ) (x : X) → slice_get xs i ≡ Some x → t x ≡ true → list_any t xs ≡ true
found_any t [] i x e h = cc
found_any t (y ∷ ys) zero x e h = ap (λ b. b || list_any t ys) (ap t (let s : y ≡ x = cc in s) ∙ h)
found_any t (y ∷ ys) (suc i) x e h = or_right (t y) (list_any t ys) (found_any t ys i x e h)
  where
    or_right : (a b : Bool) → b ≡ true → (a || b) ≡ true
    or_right true b f = refl
    or_right false b f = f

-- a method of the class at a place
record OfClass (p : Program) (class place : ℕ) (m : Method) : Type 0 where
  pub class_is : Class
  pub is : slice_get p.classes class ≡ Some class_is
  pub method_is : slice_get class_is.methods place ≡ Some m

of_class : (p : Program) (class place : ℕ) (m : Method) → slice_get (methods_at p class) place ≡ Some m → OfClass p class place m
of_class p class place m e = by_class (slice_get p.classes class) refl e
  where
    by_class : (o : Option Class) → slice_get p.classes class ≡ o → slice_get (methods_in o) place ≡ Some m → OfClass p class place m
    by_class None f g = cc
    by_class (Some k) f g = record { class_is = k; is = f; method_is = g }

private_of : (a b c : Bool) → not (a || (b || c)) ≡ true → (a ≡ false) × (c ≡ false)
private_of false false false e = (refl, refl)
private_of true b c e = absurd (true≢false (sym e))
private_of false true c e = absurd (true≢false (sym e))
private_of false false true e = absurd (true≢false (sym e))

hidden_of : (a b c : Bool) → not a ≡ true → not b ≡ true → not c ≡ true → not (a || (b || c)) ≡ true
hidden_of false false false e f g = refl
hidden_of true b c e f g = absurd (true≢false (sym e))
hidden_of false true c e f g = absurd (true≢false (sym f))
hidden_of false false true e f g = absurd (true≢false (sym g))

both_true : (a b : Bool) → a ≡ true → b ≡ true → (a && b) ≡ true
both_true true b e f = f
both_true false b e f = absurd (true≢false (sym e))

module _ (p : Program) (wf : is_well_formed p ≡ true) (once : (class : ℕ) → IsTwice p class → ⊥) (keys : List ℕ) (count : ℕ) (special : List Bool)
    (keyed : AreKeys method_pair p.methods keys count) (marked : special ≡ map (is_special p) p.methods) where
  -- ---- what stands above

  next_super : (c s : ℕ) → IsNext p c s → IsSuperclass p c s
  next_super c s e = by_class (slice_get p.classes c) refl e
    where
      by_class : (o : Option Class) → slice_get p.classes c ≡ o → option_and_then (λ k. class_place p k.superclass) o ≡ Some s → IsSuperclass p c s
      by_class None f g = cc
      by_class (Some k) f g =
          let x = place_entry (λ d. nat_eq d.name k.superclass) p.classes s g in
          record { c = k; u = x.entry; is_class = f; is_upper = x.is; names = sym (number_of x.entry.name k.superclass x.passes) }

  super_next : (c s : ℕ) → IsSuperclass p c s → IsNext p c s
  super_next c s i = ap (option_and_then (λ k. class_place p k.superclass)) i.is_class ∙ ap (class_place p) i.names ∙ own_place p once s i.u i.is_upper

  under_of : (o : Option ℕ) (class d : ℕ) → super_place p class ≡ o → OnChainOf p o d → IsUnder p class d
  under_of None class d e h = absurd h
  under_of (Some s) class d e (inl t) = record { mids = []; steps = next_super class d (e ∙ ap (λ v. Some v) (sym t)) }
  under_of (Some s) class d e (inr c) = record { mids = s ∷ c.mids; steps = (next_super class s e, steps_map (IsNext p) (IsSuperclass p) s d c.mids next_super c.steps) }

  chain_of_under : (class d : ℕ) → IsUnder p class d → OnChainOf p (super_place p class) d
  chain_of_under class d i = down_chain p keys special (super_place p class) class d refl (record { mids = i.mids; steps = steps_map (IsSuperclass p) (IsNext p) class d i.mids super_next i.steps })

  -- ---- methods

  virtual_is : (m : Method) → is_virtual_by special m ≡ not (is_direct p m)
  virtual_is m = virtual_by p special m marked

  entry_of : (class place : ℕ) (c : Class) (m : Method) → slice_get p.classes class ≡ Some c → slice_get c.methods place ≡ Some m → (q : MethodName) × (slice_get p.methods m.name ≡ Some q)
  entry_of class place c m e f = let r = (class_parts p (sound p wf) class c e).methods place m f in (r.entry, r.is)

  direct_not : (b : Bool) → not b ≡ true → b ≡ not true
  direct_not false e = refl
  direct_not true e = absurd (true≢false (sym e))

  not_direct : (b : Bool) → b ≡ not true → not b ≡ true
  not_direct false e = refl
  not_direct true e = absurd (true≢false e)

  hidden_private : (m : Method) → is_hidden_by special m ≡ true → (is_virtual_by special m ≡ true) × (is_package_private m.flags ≡ true)
  hidden_private m h =
      let front = and_left (is_virtual_by special m && not (has_flag m.flags 1)) (not (has_flag m.flags 4)) h in
      let virtual = and_left (is_virtual_by special m) (not (has_flag m.flags 1)) front in
      let no_private = and_right (not (is_static m.flags)) (not (is_private m.flags)) (and_left (not (is_static m.flags) && not (is_private m.flags)) (not (slice_index_or special m.name false)) virtual) in (
        virtual,
        hidden_of (has_flag m.flags 1) (has_flag m.flags 2) (has_flag m.flags 4) (and_right (is_virtual_by special m) (not (has_flag m.flags 1)) front) no_private
            (and_right (is_virtual_by special m && not (has_flag m.flags 1)) (not (has_flag m.flags 4)) h),
      )

  private_hidden : (m : Method) → is_virtual_by special m ≡ true → is_package_private m.flags ≡ true → is_hidden_by special m ≡ true
  private_hidden m v h =
      let r = private_of (has_flag m.flags 1) (has_flag m.flags 2) (has_flag m.flags 4) h in
      both_true (is_virtual_by special m && not (has_flag m.flags 1)) (not (has_flag m.flags 4)) (both_true (is_virtual_by special m) (not (has_flag m.flags 1)) v (ap not r.0)) (ap not r.1)

  -- ---- both ways

  pub split_is : (class name : ℕ) (above : Map) → TellsAll p keys special (super_place p class) above → FirstSplit p keys special class above name → IsSplit p class name
  split_is class name above t f =
      let own = of_class p class f.place f.method f.is in
      let entry = entry_of class f.place own.class_is f.method own.is own.method_is in
      let virtual = and_left (is_virtual_by special f.method) (is_apart p (finite.get above (key_at keys f.method.name)) class) f.splits in
      let apart = some_apart p (Hiding p keys special (super_place p class) (key_at keys f.method.name)) (finite.get above (key_at keys f.method.name)) class (t.each (key_at keys f.method.name))
      (and_right (is_virtual_by special f.method) (is_apart p (finite.get above (key_at keys f.method.name)) class) f.splits) in
      let up = any_found (λ m. is_hidden_by special m && nat_eq (key_at keys m.name) (key_at keys f.method.name)) (methods_at p apart.upper) apart.is.1 in
      let upper = of_class p apart.upper up.place up.entry up.is in
      let upper_entry = entry_of apart.upper up.place upper.class_is up.entry upper.is upper.method_is in
      let hidden = hidden_private up.entry (and_left (is_hidden_by special up.entry) (nat_eq (key_at keys up.entry.name) (key_at keys f.method.name)) up.passes) in
      let same = keyed.one f.method.name up.entry.name entry.0 upper_entry.0 entry.1 upper_entry.1
      (sym (number_of (key_at keys up.entry.name) (key_at keys f.method.name) (and_right (is_hidden_by special up.entry) (nat_eq (key_at keys up.entry.name) (key_at keys f.method.name)) up.passes))) in
      record {
        c = own.class_is;
        m = f.method;
        name = entry.0;
        has = record { is_class = own.is; place = f.place; is_method = own.method_is; is_virtual = direct_not (is_direct p f.method) (sym (virtual_is f.method) ∙ virtual); named = entry.1 };
        number = f.named;
        upper = apart.upper;
        under = under_of (super_place p class) class apart.upper refl apart.is.0;
        u = upper.class_is;
        above = up.entry;
        above_name = upper_entry.0;
        above_has = record { is_class = upper.is; place = up.place; is_method = upper.method_is; is_virtual = direct_not (is_direct p up.entry) (sym (virtual_is up.entry) ∙ hidden.0); named = upper_entry.1 };
        hidden = hidden.1;
        same_name = ap (λ q. q.0) same;
        same_proto = ap (λ q. q.1) same;
        apart = λ e. apart.apart (ap (package_in p) upper.is ∙ sym e ∙ sym (ap (package_in p) own.is));
      }

  pub split_off : (class name : ℕ) (above : Map) → TellsAll p keys special (super_place p class) above → (i : IsSplit p class name) → splits p keys special class above i.m ≡ false → ⊥
  split_off class name above t i off =
      let virtual : is_virtual_by special i.m ≡ true = virtual_is i.m ∙ not_direct (is_direct p i.m) i.has.is_virtual in
      let apart : is_apart p (finite.get above (key_at keys i.m.name)) class ≡ false = sym (ap (λ b. b && is_apart p (finite.get above (key_at keys i.m.name)) class) virtual) ∙ off in
      let up_virtual : is_virtual_by special i.above ≡ true = virtual_is i.above ∙ not_direct (is_direct p i.above) i.above_has.is_virtual in
      let same_key : key_at keys i.above.name ≡ key_at keys i.m.name = keyed.same i.above.name i.m.name i.above_name i.name i.above_has.named i.has.named (pair_same i.above_name i.name (sym i.same_name) (sym i.same_proto)) in
      let here : hides keys special (methods_at p i.upper) (key_at keys i.m.name) ≡ true = found_any (λ m. is_hidden_by special m && nat_eq (key_at keys m.name) (key_at keys i.m.name)) (methods_at p i.upper) i.above_has.place i.above
      (ap (λ o. slice_get (methods_in o) i.above_has.place) i.above_has.is_class ∙ i.above_has.is_method)
      (both_true (is_hidden_by special i.above) (nat_eq (key_at keys i.above.name) (key_at keys i.m.name)) (private_hidden i.above up_virtual i.hidden) (number_test (key_at keys i.above.name) (key_at keys i.m.name) same_key)) in
      let same = none_apart p (Hiding p keys special (super_place p class) (key_at keys i.m.name)) (finite.get above (key_at keys i.m.name)) class i.upper (t.each (key_at keys i.m.name)) apart (chain_of_under class i.upper i.under, here) in
      i.apart (sym (ap (package_in p) i.has.is_class) ∙ sym same ∙ ap (package_in p) i.above_has.is_class)
    where
      pair_same : (a b : MethodName) → a.name ≡ b.name → a.proto ≡ b.proto → method_pair a ≡ method_pair b
      pair_same a b e f = ap (λ n. (n, a.proto)) e ∙ ap (λ q. (b.name, q)) f

  -- where the method stands among those of the class
  split_at : (class name : ℕ) (i : IsSplit p class name) → slice_get (methods_at p class) i.has.place ≡ Some i.m
  split_at class name i = ap (λ o. slice_get (methods_in o) i.has.place) i.has.is_class ∙ i.has.is_method

  pub split_none : (class name : ℕ) (above : Map) → TellsAll p keys special (super_place p class) above → SplitOf p keys special class above None → IsSplit p class name → ⊥
  split_none class name above t none i = split_off class name above t i (none i.has.place i.m (split_at class name i))

  -- ---- all classes

  module _ (supers : List ℕ) (ups_are : (c : ℕ) → read_at supers c ≡ super_place p c) (long : length supers ≡ length p.classes) where
    tells_above : (maps : List Map) (class : ℕ) → HasMaps p keys special maps → TellsAll p keys special (super_place p class) (map_of maps (read_at supers class))
    tells_above maps class h = subst (λ o. TellsAll p keys special (super_place p class) (map_of maps o)) (sym (ups_are class)) (by_super (super_place p class) refl)
      where
        by_super : (o : Option ℕ) → super_place p class ≡ o → TellsAll p keys special o (map_of maps o)
        by_super None e = empty_tells p keys special
        by_super (Some s) e = h.each s (super_short p class s e)

    pub splits_first : (r : Option (ℕ × ℕ)) → AnswersSplit p keys special supers r → SplitsFirst p r
    unfolding split_is
    splits_first None a = λ class method i. split_none class method (map_of a.maps (read_at supers class)) (tells_above a.maps class a.has) (a.is class (let l = got_short p.classes class i.c i.has.is_class in omega (arith, l, long))) i
    splits_first (Some found) a = record {
      is = split_is found.0 found.1 (map_of a.maps (read_at supers found.0)) (tells_above a.maps found.0 a.has) a.is.is;
      first = λ other number l i. split_none other number (map_of a.maps (read_at supers other)) (tells_above a.maps other a.has) (a.is.first other l) i;
      front = λ number i l. split_off found.0 number (map_of a.maps (read_at supers found.0)) (tells_above a.maps found.0 a.has) i (a.is.is.front i.has.place i.m l (split_at found.0 number i));
    }
