-- What the framework may call on objects of a class is among what its classes above bring along.
use Rattle.std.proofs.Common.{◌≡◌, ℕ, ◌<◌, inl, inr, Bool, true, false, true≢false, List, [], ◌∷◌, ◌+◌, length, take, get_or, refl, sym, ap, subst, ◌∙◌, Some, None, Option}
use Rattle.std.specs.Prelude.{cond, not, ◌&&◌, ◌||◌, Contains, slice_get}
use Rattle.std.specs.List.{list_any}
use Rattle.std.specs.Option.{option_or}
use Rattle.program_model.specs.declared.pools.MethodName.{MethodName}
use Rattle.program_model.specs.declared.program.MethodAt.{MethodAt}
use Rattle.program_model.specs.declared.program.Program.{Program}
use Rattle.program_model.specs.Lookups.{class_place, method_at}
use Rattle.program_model.specs.ProgramRules.{is_well_formed}
use Rattle.class_defs.specs.Members.{is_common, own_virtual, has_code}
use Rattle.class_defs.specs.Finding.{finds_virtual, is_037, found_or, verdict, lowest, is_lowest, finds_at, Nothing, Clash, Finds}
use Rattle.hierarchy.specs.declared.build.Hierarchy.{Hierarchy}
use Rattle.hierarchy.specs.Naming.{IsKey}
use Rattle.hierarchy.specs.Membership.{key_at}
use Rattle.call_graph.specs.declared.facts.Fact.{Fact}
use Rattle.call_graph.specs.Above.{HasAbove, is_outer, has_outer}
use Rattle.call_graph.specs.Objects.{answers_or, answers_by, answers_to, answer_facts, class_candidates, open_facts, inherited, AllIn, Inherits, InheritsOf, FindsOpen, HasCommon, IsOutward, CallsBack}
use Rattle.call_graph.proofs.Contained.{none_in, only_in, first_in, first_or, flat_has, filter_from, each_at, AtPlace}
use Rattle.call_graph.specs.Follows.{found_facts}
use Rattle.call_graph.specs.Stays.{Stays}
use Rattle.std.proofs.lemmas.List.Elements.{Contains-append_cases}
use Rattle.program_model.specs.declared.program.Method.{Method}
use Rattle.call_graph.proofs.Owners.{owned, OwnsAbove, found_above, candidate_above, top_short}

some_inj : {X : Type 0} (x y : X) → Some x ≡ Some y → x ≡ y
some_inj x y e = cc

true_or : (b : Bool) → b ≡ true → (c : Bool) → (b || c) ≡ true
true_or true h c = refl
true_or false h c = absurd (true≢false (sym h))

or_true : (b c : Bool) → c ≡ true → (b || c) ≡ true
or_true true c h = refl
or_true false c h = h

pub any_in : {X : Type 0} (t : X → Bool) (xs : List X) (x : X) → Contains xs x → t x ≡ true → list_any t xs ≡ true
any_in t [] x i h = absurd (none_in x i)
any_in t (y ∷ ys) x i h = elim (first_or y ys x i) [
  | inl e ↦ true_or (t y) (ap t e ∙ h) (list_any t ys)
  | inr e ↦ or_true (t y) (list_any t ys) (any_in t ys x e h)
]

-- ---- one after the other

pub open_stays : (p : Program) (h : Hierarchy) (shut : List Bool) (c key : ℕ) (out out' : List Fact) → Stays out out' → FindsOpen p h shut c key out → FindsOpen p h shut c key out'
open_stays p h shut c key out out' s f name proto k y i = s.has y (f name proto k y i)

pub open_at : (p : Program) (h : Hierarchy) (shut : List Bool) (c : ℕ) (keys : List ℕ) (i d : ℕ) (out out' : List Fact) → ((key : ℕ) → Contains (take i keys) key → FindsOpen p h shut c key out) → Stays out out' → i < length keys
    → FindsOpen p h shut c (get_or keys i d) out' → (key : ℕ) → Contains (take (i + 1) keys) key → FindsOpen p h shut c key out'
open_at p h shut c keys i d out out' so_far s lt one = each_at (λ key. FindsOpen p h shut c key out) (λ key. FindsOpen p h shut c key out') keys i d so_far (λ key f. open_stays p h shut c key out out' s f) lt one

pub of_stays : (p : Program) (shut : List Bool) (c kind : ℕ) (out out' : List Fact) → Stays out out' → InheritsOf p shut c kind out → InheritsOf p shut c kind out'
of_stays p shut c kind out out' s f above k e g m q i j d y z = s.has y (f above k e g m q i j d y z)

pub of_at : (p : Program) (shut : List Bool) (c : ℕ) (kinds : List ℕ) (i d : ℕ) (out out' : List Fact) → ((kind : ℕ) → Contains (take i kinds) kind → InheritsOf p shut c kind out) → Stays out out' → i < length kinds
    → InheritsOf p shut c (get_or kinds i d) out' → (kind : ℕ) → Contains (take (i + 1) kinds) kind → InheritsOf p shut c kind out'
of_at p shut c kinds i d out out' so_far s lt one = each_at (λ kind. InheritsOf p shut c kind out) (λ kind. InheritsOf p shut c kind out') kinds i d so_far (λ kind f. of_stays p shut c kind out out' s f) lt one

pub inherits_at : (p : Program) (shut : List Bool) (c above : ℕ) (ms : List Method) (i : ℕ) (m : Method) (out out' : List Fact) → AtPlace ms i m → Inherits p shut c above (take i ms) out → Stays out out'
    → Inherits p shut c above (m ∷ []) out' → Inherits p shut c above (take (i + 1) ms) out'
inherits_at p shut c above ms i m out out' at so_far s one x q j e d y z = elim (Contains-append_cases (take i ms) (m ∷ []) x (subst (λ l. Contains l x) at.more j)) [
  | inl f ↦ s.has y (so_far x q f e d y z)
  | inr f ↦ one x q f e d y z
]

-- a framework type among the types above a class is found
pub outer_in : (p : Program) (object kind : ℕ) (above : List ℕ) → HasAbove p kind above → IsOutward p object kind → has_outer p object above ≡ true
outer_in p object kind above has o = any_in (is_outer p object) above o.top (has o.top o.climbs o.short) o.outer

module _ (p : Program) (fits : is_well_formed p ≡ true) (shut : List Bool) (class : ℕ) (out : List Fact) where
  -- by the class above that owns a method
  by_owner : (kind : ℕ) (above : List ℕ) (name proto : ℕ) (at : MethodAt) → HasAbove p kind above → ((u : ℕ) → Contains above u → InheritsOf p shut class u out)
      → (w : OwnsAbove p fits name proto kind at) → inherited p class w.place name proto ≡ Some at → AllIn (open_facts p shut (Some at)) out
  by_owner kind above name proto at has inh w e y i =
      let o = owned p name proto w.place at w.own in
      let f : AllIn (open_facts p shut (inherited p class w.place o.entry.name o.entry.proto)) out = inh w.above.top (has w.above.top w.above.climbs (top_short p fits kind w.place w.above)) w.place o.class w.above.at_place o.is_class o.method o.entry o.there o.named o.virtual in
      let same : inherited p class w.place o.entry.name o.entry.proto ≡ Some at = ap (λ n. inherited p class w.place n o.entry.proto) o.name_is ∙ ap (inherited p class w.place name) o.proto_is ∙ e in
      f y (subst (λ r. Contains (open_facts p shut r) y) (sym same) i)

  -- of a class with a framework ancestor
  by_outward : (kind : ℕ) (above : List ℕ) (name proto : ℕ) (at : MethodAt) → class_place p kind ≡ Some class → HasAbove p kind above → ((u : ℕ) → Contains above u → InheritsOf p shut class u out)
      → Contains (answers_to p class name proto) at → AllIn (open_facts p shut (Some at)) out
  by_outward kind above name proto at place has inh i = by (finds_virtual p name proto class) refl i
    where
      by : (o : Option MethodAt) → finds_virtual p name proto class ≡ o → Contains (answers_or o (class_candidates p class name proto)) at → AllIn (open_facts p shut (Some at)) out
      by (Some x) g i = let same : finds_virtual p name proto class ≡ Some at = g ∙ ap (λ z. Some z) (only_in x at i) in
          let w = found_above p fits name proto kind class at place same in
          by_owner kind above name proto at has inh w (ap (λ o. option_or o (cond (is_037 p.version && not (is_common p name proto)) (own_virtual p name proto w.place) None)) same)
      by None g i = let r = candidate_above p fits name proto kind class at place i in
          by_owner kind above name proto at has inh r.0
          (ap (λ o. option_or o (cond (is_037 p.version && not (is_common p name proto)) (own_virtual p name proto r.0.place) None)) g
          ∙ ap (λ b. cond b (own_virtual p name proto r.0.place) None) r.1 ∙ r.0.own)

  -- of a method that each object has
  by_common : (h : Hierarchy) (keys : List ℕ) (number kind : ℕ) (q : MethodName) (at : MethodAt) → slice_get p.methods number ≡ Some q → is_common p q.name q.proto ≡ true → class_place p kind ≡ Some class
      → HasCommon p h keys → ((key : ℕ) → Contains keys key → FindsOpen p h shut class key out)
      → Contains (answers_to p class q.name q.proto) at → AllIn (open_facts p shut (Some at)) out
  by_common h keys number kind q at e c place has common i = by (finds_virtual p q.name q.proto class) refl i
    where
      key : IsKey p h (key_at h.named.method_keys.keys.items number) q.name q.proto
      key = record { number = number; entry = q; is = e; name_is = refl; proto_is = refl; keyed = refl }

      clash : (b c : Bool) → (b && not c) ≡ true → c ≡ true → ⊥
      clash true true h g = true≢false (sym h)
      clash true false h g = true≢false (sym g)
      clash false c h g = true≢false (sym h)

      by : (o : Option MethodAt) → finds_virtual p q.name q.proto class ≡ o → Contains (answers_or o (class_candidates p class q.name q.proto)) at → AllIn (open_facts p shut (Some at)) out
      by (Some x) g i = subst (λ o. AllIn (open_facts p shut o) out) (g ∙ ap (λ z. Some z) (only_in x at i)) (common (key_at h.named.method_keys.keys.items number) (has number q e c) q.name q.proto key)
      by None g i = let r = candidate_above p fits q.name q.proto kind class at place i in absurd (clash (is_037 p.version) (is_common p q.name q.proto) r.1 c)

  pub called_back : (h : Hierarchy) (object kind : ℕ) (keys above : List ℕ) (y : Fact) → class_place p kind ≡ Some class → HasAbove p kind above → HasCommon p h keys
      → ((key : ℕ) → Contains keys key → FindsOpen p h shut class key out)
      → (has_outer p object above ≡ true → (u : ℕ) → Contains above u → InheritsOf p shut class u out) → CallsBack p object shut kind y → Contains out y
  called_back h object kind keys above y place has knows common inh b =
      let same : b.class ≡ class = some_inj b.class class (sym b.is_class ∙ place) in
      let answers : Contains (answers_to p class b.name.name b.name.proto) b.at = subst (λ c. Contains (answers_to p c b.name.name b.name.proto) b.at) same b.answers in
      elim b.may [
        | inl o ↦ by_outward kind above b.name.name b.name.proto b.at place has (inh (outer_in p object kind above has o)) answers y b.fact_is
        | inr c ↦ by_common h keys b.number kind b.name b.at b.is_name c place knows common answers y b.fact_is
      ]

-- ---- what a call finds is among the answers

verdict_in : (fs : List MethodAt) (at : MethodAt) → verdict fs ≡ Finds at → Contains fs at
verdict_in [] at e = absurd (nothing_finds e)
  where
    nothing_finds : Nothing ≡ Finds at → ⊥
    nothing_finds e = cc
verdict_in (f ∷ []) at e = subst (Contains (f ∷ [])) (same e) (first_in f [])
  where
    same : Finds f ≡ Finds at → f ≡ at
    same e = cc
verdict_in (f ∷ g ∷ fs) at e = absurd (clash_finds e)
  where
    clash_finds : Clash ≡ Finds at → ⊥
    clash_finds e = cc

answers_have : (p : Program) (o : Option MethodAt) (cs : List MethodAt) (at : MethodAt) → found_or o (verdict (lowest p cs)) ≡ Finds at → Contains (answers_or o cs) at
answers_have p None cs at e = filter_from (λ f. has_code (method_at p f) && is_lowest p cs f) cs at (verdict_in (lowest p cs) at e)
answers_have p (Some x) cs at e = subst (Contains (x ∷ [])) (same e) (first_in x [])
  where
    same : Finds x ≡ Finds at → x ≡ at
    same e = cc

pub found_answers : (p : Program) (number c : ℕ) (q : MethodName) (at : MethodAt) (y : Fact) → slice_get p.methods number ≡ Some q → finds_at p c q.name q.proto ≡ Finds at
    → Contains (found_facts p (Some at)) y → Contains (answer_facts p number c) y
found_answers p number c q at y e f i = subst (λ o. Contains (answers_by p c o) y) (sym e)
    (flat_has (λ a. found_facts p (Some a)) (answers_to p c q.name q.proto) at y (answers_have p (finds_virtual p q.name q.proto c) (class_candidates p c q.name q.proto) at f) i)
