-- What a call is bound to is what IsBound says, and all its receivers find it by both names.
use Rattle.std.proofs.Common.{◌≡◌, ℕ, ◌<◌, Bool, true, false, true≢false, nat_eq, List, [], ◌∷◌, length, Option, Some, None, refl, sym, ap, ap₂, ◌∙◌, subst, arith, eqb-true, ltb-true}
use Rattle.std.specs.Prelude.{◌&&◌, Contains, cond, is_some, nat_lt, not, slice_get}
use Rattle.std.specs.List.{list_all, range_with_len}
use Rattle.std.specs.Option.{option_or}
use Rattle.lemmas.proofs.Bools.{and_left, and_right, and_both, not_of_false, not_true}
use Rattle.lemmas.proofs.Lists.{all_in, contains_here, contains_there}
use Rattle.lemmas.proofs.Numbers.{same_number}
use Rattle.lemmas.proofs.Options.{none_some, some_same}
use Rattle.program_model.specs.declared.pools.MethodName.{MethodName}
use Rattle.program_model.specs.declared.program.Method.{Method}
use Rattle.program_model.specs.declared.program.MethodAt.{MethodAt}
use Rattle.program_model.specs.declared.program.Program.{Program}
use Rattle.program_model.specs.Lookups.{class_place, method_at}
use Rattle.class_defs.specs.Finding.{finds_at}
use Rattle.class_defs.specs.Members.{own_virtual}
use Rattle.class_defs.specs.Places.{is_under}
use Rattle.hierarchy.specs.Ranks.{IsRanked}
use Rattle.hierarchy.specs.Touring.{subclasses_of}
use Rattle.verify.specs.declared.kinds.Kind.{Kind}
use Rattle.verify.specs.declared.kinds.Kind.TheVariants as kind
use Rattle.receivers.specs.Receiving.{agreed, agreed_on, agreed_under, all_find, found_by, interface_at, is_at, only, stands_under, under_place}
use Rattle.receivers.proofs.Ranges.{in_contains, filter_in, numbers_in}
use Rattle.receivers.proofs.Walks.{under_on}
use Rattle.devirt.specs.declared.binding.Bound.{Bound}
use Rattle.devirt.specs.declared.binding.Call.{Call}
use Rattle.devirt.specs.Binding.{are_places, bound_above, bound_by, bound_to, by_class, by_classes, by_kind, by_places, falls, is_same_name, kind_for, may_call, may_rebind, receives}
use Rattle.devirt.specs.Reach.{may_access}
use Rattle.devirt.specs.Rebound.{FindsBoth, IsBound}

-- ---- options

pub cond_true : {A : Type 0} (b : Bool) (o : Option A) (y : A) → cond b o None ≡ Some y → b ≡ true
cond_true true o y e = refl
cond_true false o y e = none_some y e

pub cond_some : {A : Type 0} (b : Bool) (o : Option A) (y : A) → cond b o None ≡ Some y → o ≡ Some y
cond_some true o y e = e
cond_some false o y e = none_some y e

same_at : (at : MethodAt) (o : Option MethodAt) → is_at at o ≡ true → o ≡ Some at
same_at at None e = absurd (true≢false (sym e))
same_at at (Some x) e =
    let c : x.class ≡ at.class = eqb-true x.class at.class (and_left (nat_eq x.class at.class) (nat_eq x.place at.place) e) in
    let n : x.place ≡ at.place = eqb-true x.place at.place (and_right (nat_eq x.class at.class) (nat_eq x.place at.place) e) in
    ap₂ (λ c n. Some (record { class = c; place = n })) c n

module _ (p : Program) (call : Call) (q : MethodName) where
  -- ---- one method

  -- the entry of a method that may be called
  pub record Named (top : ℕ) (o : Option MethodName) : Type 0 where
    pub entry : MethodName
    pub is : o ≡ Some entry
    pub name : entry.name ≡ q.name
    pub proto : entry.proto ≡ q.proto
    pub class : class_place p entry.class ≡ Some top

  named_so : (class : ℕ) (o : Option MethodName) → is_same_name p q class o ≡ true → Named class o
  named_so class None e = absurd (true≢false (sym e))
  named_so class (Some r) e = record {
    entry = r;
    is = refl;
    name = eqb-true r.name q.name (and_left (nat_eq r.name q.name) (nat_eq r.proto q.proto) front);
    proto = eqb-true r.proto q.proto (and_right (nat_eq r.name q.name) (nat_eq r.proto q.proto) front);
    class = placed (class_place p r.class) (and_right (nat_eq r.name q.name && nat_eq r.proto q.proto) (is_placed (class_place p r.class)) e);
  }
    where
      is_placed : Option ℕ → Bool
      is_placed o = elim o [ Some c ↦ nat_eq c class | None ↦ false ]

      placed : (o : Option ℕ) → is_placed o ≡ true → o ≡ Some class
      placed None f = absurd (true≢false (sym f))
      placed (Some c) f = ap Some (eqb-true c class f)

      front : (nat_eq r.name q.name && nat_eq r.proto q.proto) ≡ true
      front = and_left (nat_eq r.name q.name && nat_eq r.proto q.proto) (is_placed (class_place p r.class)) e

  pub record Binds (at : MethodAt) (b : Bound) : Type 0 where
    pub renamed : MethodName
    pub is : IsBound p call q renamed at b

  pub bound_so : (at : MethodAt) (b : Bound) → bound_to p call q at ≡ Some b → Binds at b
  bound_so at b e = by (method_at p at) refl e
    where
      made : Method → Bound
      made t = record { kind = kind_for (interface_at p at.class); method = t.name }

      by : (o : Option Method) → method_at p at ≡ o → bound_by p call q at o ≡ Some b → Binds at b
      by None i f = none_some b f
      by (Some t) i f = record {
        renamed = n.entry;
        is = record {
          target = t;
          there = i;
          coded = and_left A B ab;
          method = ap (λ (x : Bound). x.method) same;
          entry = subst (λ (x : Bound). slice_get p.methods x.method ≡ Some n.entry) (sym same) n.is;
          other = subst (λ (x : Bound). nat_eq x.method call.method ≡ false) (sym same) (not_true (nat_eq t.name call.method) (and_left (not (nat_eq t.name call.method)) (may_call p call q at t) may));
          name = n.name;
          proto = n.proto;
          class = n.class;
          own = own (own_virtual p q.name q.proto at.class) refl (and_right A B ab);
          kind = ap (λ (x : Bound). x.kind) same;
          receives = and_right (A && B && C) D abcd;
          rebinds = and_right (A && B && C && D) E abcde;
          access = and_right (A && B && C && D && E) F abcdef;
          falls = and_right (A && B && C && D && E && F) G all;
        };
      }
        where
          same : b ≡ made t
          same = sym (some_same (made t) b (cond_some (not (nat_eq t.name call.method) && may_call p call q at t) (Some (made t)) b f))

          may : (not (nat_eq t.name call.method) && may_call p call q at t) ≡ true
          may = cond_true (not (nat_eq t.name call.method) && may_call p call q at t) (Some (made t)) b f

          A : Bool
          A = is_some t.body

          B : Bool
          B = is_at at (own_virtual p q.name q.proto at.class)

          C : Bool
          C = is_same_name p q at.class (slice_get p.methods t.name)

          D : Bool
          D = receives p call.receiver at.class

          E : Bool
          E = may_rebind p call.method at.class

          F : Bool
          F = may_access p call.caller at.class t

          G : Bool
          G = falls p call.kind q at.class

          all : (A && B && C && D && E && F && G) ≡ true
          all = and_right (not (nat_eq t.name call.method)) (may_call p call q at t) may

          abcdef : (A && B && C && D && E && F) ≡ true
          abcdef = and_left (A && B && C && D && E && F) G all

          abcde : (A && B && C && D && E) ≡ true
          abcde = and_left (A && B && C && D && E) F abcdef

          abcd : (A && B && C && D) ≡ true
          abcd = and_left (A && B && C && D) E abcde

          abc : (A && B && C) ≡ true
          abc = and_left (A && B && C) D abcd

          ab : (A && B) ≡ true
          ab = and_left (A && B) C abc

          n : Named at.class (slice_get p.methods t.name)
          n = named_so at.class (slice_get p.methods t.name) (and_right (A && B) C abc)

          own : (o : Option MethodAt) → own_virtual p q.name q.proto at.class ≡ o → is_at at o ≡ true → own_virtual p n.entry.name n.entry.proto at.class ≡ Some at
          own o j g = ap₂ (λ a c. own_virtual p a c at.class) n.name n.proto ∙ (j ∙ same_at at o g)

  -- ---- the classes of receivers

  -- all of these find one method, and stand under its class
  pub record Agree (cs : List ℕ) (at : MethodAt) : Type 0 where
    pub each : (c : ℕ) → Contains cs c → found_by p q c ≡ Some at
    pub some : 0 < length cs

  pub agree : (cs : List ℕ) (at : MethodAt) → agreed p q cs ≡ Some at → Agree cs at
  agree [] at e = none_some at e
  agree (c ∷ cs) at e = by (found_by p q c) refl e
    where
      by : (o : Option MethodAt) → found_by p q c ≡ o → agreed_on p q cs o ≡ Some at → Agree (c ∷ cs) at
      by None i f = none_some at f
      by (Some x) i f =
          let same : x ≡ at = some_same x at (cond_some (all_find p q x cs) (Some x) at f) in
          let first : found_by p q c ≡ Some at = i ∙ ap Some same in
          let rest : all_find p q at cs ≡ true = ap (λ y. all_find p q y cs) (sym same) ∙ cond_true (all_find p q x cs) (Some x) at f in
          record { each = all_in_both first rest; some = omega arith }
        where
          first_test : found_by p q c ≡ Some at → is_at at (found_by p q c) ≡ true
          first_test g = ap (is_at at) g ∙ and_both (nat_eq at.class at.class) (nat_eq at.place at.place) (eq_self at.class) (eq_self at.place)
            where
              eq_self : (n : ℕ) → nat_eq n n ≡ true
              eq_self n = same_number n

          all_in_both : found_by p q c ≡ Some at → all_find p q at cs ≡ true → (d : ℕ) → Contains (c ∷ cs) d → found_by p q d ≡ Some at
          all_in_both g h d i = same_at at (found_by p q d) (all_in (λ d. is_at at (found_by p q d)) (c ∷ cs) d i (and_both (is_at at (found_by p q c)) (all_find p q at cs) (first_test g) h))

  -- what is found by the old name is found by the new one, where the class stands under the method's
  pub second_found : (renamed : MethodName) (at : MethodAt) (c : ℕ) → renamed.name ≡ q.name → renamed.proto ≡ q.proto → class_place p renamed.class ≡ Some at.class → is_under p c at.class ≡ true
      → found_by p q c ≡ Some at → found_by p renamed c ≡ Some at
  second_found renamed at c n o k u e =
      let stands : stands_under p c renamed.class ≡ true = ap (under_place p c renamed.class) k ∙ u in
      let found : only (finds_at p c q.name q.proto) ≡ Some at = cond_some (stands_under p c q.class) (only (finds_at p c q.name q.proto)) at e in
      ap (λ b. cond b (only (finds_at p c renamed.name renamed.proto)) None) stands ∙ (ap₂ (λ a b. only (finds_at p c a b)) n o ∙ found)

  -- ---- by places, and by a kind

  pub record ByPlaces (places : List ℕ) (b : Bound) : Type 0 where
    pub renamed : MethodName
    pub at : MethodAt
    pub is : IsBound p call q renamed at b
    pub some : 0 < length places
    pub finds : (c : ℕ) → Contains places c → FindsBoth p q renamed at c

  record Above (cs : List ℕ) (o : Option MethodAt) (b : Bound) : Type 0 where
    at : MethodAt
    there : o ≡ Some at
    binds : Binds at b
    under : list_all (λ c. is_under p c at.class) cs ≡ true

  above : (cs : List ℕ) (o : Option MethodAt) (b : Bound) → bound_above p call q cs o ≡ Some b → Above cs o b
  above cs None b e = none_some b e
  above cs (Some at) b e = record {
    at = at;
    there = refl;
    binds = bound_so at b (cond_some (nat_lt at.class (length p.classes) && list_all (λ c. is_under p c at.class) cs) (bound_to p call q at) b e);
    under = and_right (nat_lt at.class (length p.classes)) (list_all (λ c. is_under p c at.class) cs)
        (cond_true (nat_lt at.class (length p.classes) && list_all (λ c. is_under p c at.class) cs) (bound_to p call q at) b e);
  }

  pub places_so : (places : List ℕ) (b : Bound) → by_places p call q places ≡ Some b → ByPlaces places b
  places_so places b e =
      let a = above places (agreed p q places) b (cond_some (are_places p places) (bound_above p call q places (agreed p q places)) b e) in
      let g = agree places a.at a.there in
      let i = a.binds.is in
      record {
        renamed = a.binds.renamed;
        at = a.at;
        is = i;
        some = g.some;
        finds = λ c h. record {
          short = ltb-true c (length p.classes) (all_in (λ c. nat_lt c (length p.classes)) places c h (cond_true (are_places p places) (bound_above p call q places (agreed p q places)) b e));
          first = g.each c h;
          second = second_found a.binds.renamed a.at c i.name i.proto i.class (all_in (λ c. is_under p c a.at.class) places c h a.under) (g.each c h);
        };
      }

  pub record ByClass (class : ℕ) (b : Bound) : Type 0 where
    pub renamed : MethodName
    pub at : MethodAt
    pub is : IsBound p call q renamed at b
    pub short : class < length p.classes
    pub plain : interface_at p class ≡ false
    pub finds : (c : ℕ) → c < length p.classes → is_under p c class ≡ true → FindsBoth p q renamed at c

  pub class_so : (r : IsRanked p) (class : ℕ) (b : Bound) → by_class p call q class ≡ Some b → ByClass class b
  class_so r class b e =
      let fits = cond_true (nat_lt class (length p.classes) && not (interface_at p class)) (bound_above p call q (class ∷ []) (agreed_under p q class)) b e in
      let a = above (class ∷ []) (agreed_under p q class) b (cond_some (nat_lt class (length p.classes) && not (interface_at p class)) (bound_above p call q (class ∷ []) (agreed_under p q class)) b e) in
      let g = agree (class ∷ subclasses_of p class) a.at a.there in
      let i = a.binds.is in
      let top : is_under p class a.at.class ≡ true = all_in (λ c. is_under p c a.at.class) (class ∷ []) class (contains_here class []) a.under in
      record {
        renamed = a.binds.renamed;
        at = a.at;
        is = i;
        short = ltb-true class (length p.classes) (and_left (nat_lt class (length p.classes)) (not (interface_at p class)) fits);
        plain = not_true (interface_at p class) (and_right (nat_lt class (length p.classes)) (not (interface_at p class)) fits);
        finds = λ c l u. record {
          short = l;
          first = g.each c (among c l u);
          second = second_found a.binds.renamed a.at c i.name i.proto i.class (under_on p r c class a.at.class u top) (g.each c (among c l u));
        };
      }
    where
      among : (c : ℕ) → c < length p.classes → is_under p c class ≡ true → Contains (class ∷ subclasses_of p class) c
      among c l u = by (nat_eq c class) refl
        where
          by : (t : Bool) → nat_eq c class ≡ t → Contains (class ∷ subclasses_of p class) c
          by true f = subst (λ d. Contains (class ∷ subclasses_of p class) d) (sym (eqb-true c class f)) (contains_here class (subclasses_of p class))
          by false f = contains_there class (subclasses_of p class) c (in_contains (subclasses_of p class) c
              (filter_in (λ d. is_under p d class && not (nat_eq d class)) (range_with_len 0 (length p.classes)) c (numbers_in 0 (length p.classes) c (omega arith) (omega (arith, l)))
              (and_both (is_under p c class) (not (nat_eq c class)) u (not_of_false (nat_eq c class) f))))

  -- ---- a call

  pub data Reason (classes : Option (List ℕ)) (b : Bound) : Type 0 where
    Places : (places : List ℕ) → classes ≡ Some places → ByPlaces places b → Reason classes b
    Class : (class : ℕ) → call.receiver ≡ kind.Program class → ByClass class b → Reason classes b

  kind_so : (r : IsRanked p) (classes : Option (List ℕ)) (b : Bound) (k : Kind) → call.receiver ≡ k → by_kind p call q k ≡ Some b → Reason classes b
  kind_so r classes b (kind.Program class) i e = Class class i (class_so r class b e)
  kind_so r classes b k i e = none_some b e

  pub reason : (r : IsRanked p) (classes : Option (List ℕ)) (b : Bound) → option_or (by_classes p call q classes) (by_kind p call q call.receiver) ≡ Some b → Reason classes b
  reason r classes b e = by classes refl e
    where
      on : (o : Option Bound) (places : List ℕ) → classes ≡ Some places → by_places p call q places ≡ o → option_or o (by_kind p call q call.receiver) ≡ Some b → Reason classes b
      on None places i j f = kind_so r classes b call.receiver refl f
      on (Some x) places i j f = Places places i (places_so places b (j ∙ f))

      by : (o : Option (List ℕ)) → classes ≡ o → option_or (by_classes p call q o) (by_kind p call q call.receiver) ≡ Some b → Reason classes b
      by None i f = kind_so r classes b call.receiver refl f
      by (Some places) i f = on (by_places p call q places) places i refl f
