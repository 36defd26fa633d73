-- What super calls find, case by case.
use Rattle.std.proofs.Common.{◌≡◌, ◌∙◌, ℕ, zero, suc, ◌<◌, ◌⊎◌, inl, inr, Bool, true, false, true≢false, List, [], ◌∷◌, ◌++◌, ◌+◌, length, take, get_or, refl, sym, ap, subst, Some, None, Option, append-nil}
use Rattle.std.specs.Prelude.{cond, nat_eq, ◌||◌, Contains, slice_get, option_and_then, Decides}
use Rattle.std.specs.List.{list_any}
use Rattle.program_model.specs.declared.pools.MethodName.{MethodName}
use Rattle.program_model.specs.declared.program.MethodAt.{MethodAt}
use Rattle.program_model.specs.declared.program.Program.{Program}
use Rattle.program_model.specs.Lookups.{class_place}
use Rattle.class_defs.specs.Members.{is_interface, own_method}
use Rattle.class_defs.specs.Finding.{is_037, one_or_none, finds_from, first_among}
use Rattle.class_defs.specs.Places.{super_place, chain_from}
use Rattle.call_graph.specs.declared.facts.Fact.{Fact}
use Rattle.call_graph.specs.Follows.{found_facts}
use Rattle.call_graph.specs.Above.{HasAbove, AllFrom}
use Rattle.call_graph.specs.Objects.{all_found}
use Rattle.call_graph.specs.Supers.{lists_at, interfaces_in, ListsAbove, above_call, interface_call, super_037, AddsSuper, HasSuper, AddsSupers}
use Rattle.call_graph.specs.Stays.{Stays}
use Rattle.call_graph.specs.declared.named.Named.{Named}
use Rattle.call_graph.specs.declared.named.Named.TheVariants as named
use Rattle.insn_set.specs.declared.ops.InvokeKind.TheVariants as call
use Rattle.std.proofs.lemmas.List.{take_more}
use Rattle.std.proofs.lemmas.List.Elements.{Contains-append_right, Contains-append_cases}
use Rattle.program_model.specs.ProgramRules.{is_well_formed}
use Rattle.call_graph.proofs.Owners.{kind_short}
use Rattle.call_graph.proofs.Contained.{none_in, first_in, later_in, first_or}

pub one_found : (p : Program) (o : Option MethodAt) → all_found p (one_or_none o) ≡ found_facts p o
one_found p None = refl
one_found p (Some at) = append-nil (found_facts p (Some at))

chain_none : (up : ℕ → Option ℕ) (n : ℕ) → chain_from up n None ≡ []
chain_none up zero = refl
chain_none up (suc n) = refl

-- nothing stands above a class without a superclass
pub above_none : (p : Program) (caller : ℕ) (q : MethodName) → super_place p caller ≡ None → all_found p (above_call p caller q) ≡ []
above_none p caller q e = ap (λ o. all_found p (one_or_none (finds_from p q.name q.proto o))) e ∙ ap (λ cs. all_found p (one_or_none (first_among (own_method p q.name q.proto) cs))) (chain_none (super_place p) (length p.classes))

none_some : {X : Type 0} (x : X) → None ≡ Some x → ⊥
none_some x e = cc

-- of version 035
pub adds_old : (p : Program) (kind caller : ℕ) (q : MethodName) (before out : List Fact) → is_037 p.version ≡ false → out ≡ before ++ all_found p (above_call p caller q) → AddsSuper p kind caller q before out
adds_old p kind caller q before out old adds = record {
  facts = all_found p (above_call p caller q);
  finds = record {
    lists = false;
    decided = λ new none. absurd (true≢false (sym new ∙ old));
    is = sym (ap (λ b. all_found p (cond b (super_037 p caller q false (class_place p q.class)) (above_call p caller q))) old);
  };
  adds = adds;
}

-- of version 037, where the named class is one of the program
pub adds_class : (p : Program) (kind caller place : ℕ) (q : MethodName) (before out : List Fact) → is_037 p.version ≡ true → class_place p q.class ≡ Some place
    → out ≡ before ++ all_found p (interface_call p caller q place (is_interface (slice_get p.classes place))) → AddsSuper p kind caller q before out
adds_class p kind caller place q before out new named adds = record {
  facts = all_found p (interface_call p caller q place (is_interface (slice_get p.classes place)));
  finds = record {
    lists = false;
    decided = λ n none. absurd (none_some place (sym none ∙ named));
    is = sym (ap (λ b. all_found p (cond b (super_037 p caller q false (class_place p q.class)) (above_call p caller q))) new ∙ ap (λ o. all_found p (super_037 p caller q false o)) named);
  };
  adds = adds;
}

-- of version 037, where it isn't
pub adds_outside : (p : Program) (kind caller : ℕ) (q : MethodName) (lists : Bool) (before out : List Fact) → is_037 p.version ≡ true → class_place p q.class ≡ None → Decides lists (ListsAbove p kind q.class)
    → out ≡ before ++ all_found p (cond lists [] (above_call p caller q)) → AddsSuper p kind caller q before out
adds_outside p kind caller q lists before out new named decided adds = record {
  facts = all_found p (cond lists [] (above_call p caller q));
  finds = record {
    lists = lists;
    decided = λ n none. decided;
    is = sym (ap (λ b. all_found p (cond b (super_037 p caller q lists (class_place p q.class)) (above_call p caller q))) new ∙ ap (λ o. all_found p (super_037 p caller q lists o)) named);
  };
  adds = adds;
}

-- ---- interface lists above a class

any_where : (t : ℕ → Bool) (xs : List ℕ) → list_any t xs ≡ true → (x : ℕ) × (Contains xs x × (t x ≡ true))
any_where t [] h = absurd (true≢false (sym h))
any_where t (x ∷ xs) h = by (t x) refl (any_where t xs) h
  where
    by : (b : Bool) → t x ≡ b → (list_any t xs ≡ true → (y : ℕ) × (Contains xs y × (t y ≡ true))) → (b || list_any t xs) ≡ true → (y : ℕ) × (Contains (x ∷ xs) y × (t y ≡ true))
    by true e more h = (x, (first_in x xs, e))
    by false e more h = let r = more h in (r.0, (later_in x xs r.0 r.1.0, r.1.1))

any_none : (t : ℕ → Bool) (xs : List ℕ) (x : ℕ) → list_any t xs ≡ false → Contains xs x → t x ≡ true → ⊥
any_none t [] x h i e = none_in x i
any_none t (y ∷ ys) x h i e = by (t y) refl (any_none t ys x) h (first_or y ys x i)
  where
    by : (b : Bool) → t y ≡ b → (list_any t ys ≡ false → Contains ys x → t x ≡ true → ⊥) → (b || list_any t ys) ≡ false → (y ≡ x) ⊎ Contains ys x → ⊥
    by true f more h i = true≢false h
    by false f more h i = elim i [ inl s ↦ true≢false (sym e ∙ ap t (sym s) ∙ f) | inr j ↦ more h j e ]

pub decided : (p : Program) (class kind : ℕ) (out : List ℕ) (b : Bool) → b ≡ list_any (lists_at p kind) out → AllFrom p class class out → HasAbove p class out → ((u : ℕ) → lists_at p kind u ≡ true → u < length p.types) → Decides b (ListsAbove p class kind)
decided p class kind out true e from has short = (λ t. let r = any_where (lists_at p kind) out (sym e) in record { top = r.0; climbs = elim (from r.0 r.1.0).0 [ inl c ↦ c | inr c ↦ c ]; lists = r.1.1 }, λ l. refl)
decided p class kind out false e from has short = (λ t. absurd (true≢false (sym t)), λ l. absurd (any_none (lists_at p kind) out l.top (sym e) (has l.top l.climbs (short l.top l.lists)) l.lists))

-- a type that lists another is one of the table
pub lists_short : (p : Program) → is_well_formed p ≡ true → (kind u : ℕ) → lists_at p kind u ≡ true → u < length p.types
lists_short p fits kind u h = by (class_place p u) refl h
  where
    by : (o : Option ℕ) → class_place p u ≡ o → list_any (nat_eq kind) (interfaces_in (option_and_then (slice_get p.classes) o)) ≡ true → u < length p.types
    by None e h = absurd (true≢false (sym h))
    by (Some c) e h = kind_short p fits u c e

-- ---- super calls among names

pub has_of : (p : Program) (kind caller : ℕ) (q : MethodName) (before out : List Fact) → AddsSuper p kind caller q before out → HasSuper p kind caller q out
has_of p kind caller q before out a = record { facts = a.facts; finds = a.finds; has = λ y c. subst (λ l. Contains l y) (sym a.adds) (Contains-append_right before a.facts y c) }

pub supers_at : (p : Program) (kind caller : ℕ) (names : List Named) (i : ℕ) (d : Named) (old new : List Fact) → AddsSupers p kind caller (take i names) old → i < length names → Stays old new → AddsSupers p kind caller (get_or names i d ∷ []) new
    → AddsSupers p kind caller (take (i + 1) names) new
supers_at p kind caller names i d old new so_far lt s one callee q c e = elim (Contains-append_cases (take i names) (get_or names i d ∷ []) _ (subst (λ l. Contains l (named.Call call.Super callee)) (take_more names i d lt) c)) [
  | inl h ↦ let f = so_far callee q h e in record { facts = f.facts; finds = f.finds; has = λ y k. s.has y (f.has y k) }
  | inr h ↦ one callee q h e
]
