-- Where each kept constructor is found to be that of its class, it is.
use Rattle.std.proofs.Common.{◌≡◌, ℕ, Bool, true, false, true≢false, Option, Some, None, refl, sym, ap, ◌∙◌}
use Rattle.std.specs.Prelude.{◌||◌, not, codes, position, slice_get, option_and_then}
use Rattle.std.specs.List.{list_all}
use Rattle.std.specs.Option.{option_map}
use Rattle.lemmas.proofs.Lists.{all_in}
use Rattle.program_model.specs.declared.pass.Outside.{Outside}
use Rattle.program_model.specs.declared.pools.MethodName.{MethodName}
use Rattle.program_model.specs.declared.program.Class.{Class}
use Rattle.program_model.specs.declared.program.Method.{Method}
use Rattle.program_model.specs.declared.program.Program.{Program}
use Rattle.program_model.specs.Lookups.{class_place, method_at}
use Rattle.class_defs.specs.ClassGraph.{IsTwice}
use Rattle.class_defs.specs.Members.{is_method, method_of_class, string_is}
use Rattle.class_defs.proofs.Positions.{number_of}
use Rattle.name_bridge.proofs.Above.{own_place}
use Rattle.premises.specs.Makers.{MakersAreOwn, can_be_made}
use Rattle.premises.specs.Owning.{defines, has_number, is_own, owns, owns_at, owns_maker}

-- what must hold where its exception does not
otherwise : (a b : Bool) → a ≡ true → (not a || b) ≡ true → b ≡ true
otherwise true b e h = h
otherwise false b e h = absurd (true≢false (sym e))

module _ (p : Program) (n : ℕ) (q : MethodName) (c : ℕ) (k : Class) (is : slice_get p.classes c ≡ Some k) where
  -- the method that is found has the number
  found : (place : Option ℕ) → has_number n (option_and_then (method_at p) (option_map (λ i. record { class = c; place = i }) place)) ≡ true → (j : ℕ) × ((m : Method) × ((slice_get k.methods j ≡ Some m) × (m.name ≡ n)))
  found None h = absurd (true≢false (sym h))
  found (Some i) h = by (slice_get k.methods i) refl (sym (ap (λ (o : Option Class). has_number n (option_and_then (λ c. slice_get c.methods i) o)) is) ∙ h)
    where
      by : (o : Option Method) → slice_get k.methods i ≡ o → has_number n o ≡ true → (j : ℕ) × ((m : Method) × ((slice_get k.methods j ≡ Some m) × (m.name ≡ n)))
      by None e h = absurd (true≢false (sym h))
      by (Some m) e h = (i, (m, (e, number_of m.name n h)))

  pub defined : defines p n q c ≡ true → (j : ℕ) × ((m : Method) × ((slice_get k.methods j ≡ Some m) × (m.name ≡ n)))
  defined h = found (position (is_method p q.name q.proto) k.methods)
      (sym (ap (λ o. has_number n (option_and_then (method_at p) (method_of_class p q.name q.proto c o))) is) ∙ h)

pub own_makers : (p : Program) → ((class : ℕ) → IsTwice p class → ⊥) → (o : Outside) → list_all (is_own p) o.methods ≡ true → MakersAreOwn p o
own_makers p once o h n q c k kept e init is same made =
    let own : is_own p n ≡ true = all_in (is_own p) o.methods n kept h in
    let maker : owns_maker p n (Some q) ≡ true = sym (ap (owns_maker p n) e) ∙ own in
    let at : owns_at p n q (class_place p q.class) ≡ true = otherwise (string_is p q.name (codes "<init>")) (owns_at p n q (class_place p q.class)) init maker in
    let place : class_place p q.class ≡ Some c = sym (ap (class_place p) same) ∙ own_place p once c k is in
    let all : owns p n q c (slice_get p.classes c) ≡ true = sym (ap (owns_at p n q) place) ∙ at in
    let some : owns p n q c (Some k) ≡ true = sym (ap (owns p n q c) is) ∙ all in
    defined p n q c k is (otherwise (can_be_made k) (defines p n q c) made some)
