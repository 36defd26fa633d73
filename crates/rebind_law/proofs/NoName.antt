-- A name that no method of a program has: a call of it resolves to none.
use Rattle.std.proofs.Common.{◌≡◌, ℕ, zero, suc, ◌<◌, ◌≤◌, Bool, true, false, true≢false, length, List, [], ◌∷◌, ◌++◌, Option, Some, None, refl, ap, ◌∙◌, arith}
use Rattle.std.specs.Prelude.{cond, find, flat_map, sum_by, Contains}
use Rattle.std.specs.Option.{option_or}
use Rattle.std.proofs.lemmas.List.{length-replicate}
use Rattle.std.proofs.lemmas.List.Sums.{sum_by-cons}
use Rattle.dalvik_defs.proofs.Calm.{text_sound}
use Rattle.dalvik_defs.specs.Find.{method_in, passing, first_method, chain_from, chain_of, interfaces_from, resolves_method}
use Rattle.dalvik_defs.specs.Names.{Text, text_eq, same_name, signature_eq}
use Rattle.dalvik_defs.specs.Under.{class_named}
use Rattle.dalvik_defs.specs.declared.names.MethodKey.{MethodKey}
use Rattle.dalvik_defs.specs.declared.names.Signature.{Signature}
use Rattle.dalvik_defs.specs.declared.program.NamedClass.{NamedClass}
use Rattle.dalvik_defs.specs.declared.program.NamedMethod.{NamedMethod}
use Rattle.dalvik_defs.specs.declared.program.NamedProgram.{NamedProgram}
use Rattle.pass_defs.specs.Demands.{is_constructor_name}
use Rattle.run_laws.specs.Holds.{Each}
use Rattle.lemmas.proofs.Bools.{and_left}
use Rattle.run_laws.proofs.Climbs.{class_in}
use Rattle.rebind_law.specs.Asking.{class_letters, letters, no_name, asking_key}

-- ---- sums

-- what stands in a list is no more than the sum over it
in_sum : {A : Type 0} (f : A → ℕ) (xs : List A) (x : A) → Contains xs x → f x ≤ sum_by f xs
in_sum f [] x (k, l, e) = absurd (omega (arith, l))
in_sum f (y ∷ ys) x (zero, l, e) = let s = sum_by-cons f y ys in let same : f y ≡ f x = ap f e in omega (arith, s, same)
in_sum f (y ∷ ys) x (suc k, l, e) = let s = sum_by-cons f y ys in let r = in_sum f ys x (k, omega (arith, l), e) in omega (arith, s, r)

-- ---- names

short_name : (p : NamedProgram) (c : NamedClass) (m : NamedMethod) → Contains p.classes c → Contains c.methods m → length m.name ≤ letters p
short_name p c m i j =
    let a : length m.name ≤ class_letters c = in_sum (λ (m : NamedMethod). length m.name) c.methods m j in
    let b : class_letters c ≤ letters p = in_sum class_letters p.classes c i in
    omega (arith, a, b)

other_name : (p : NamedProgram) (c : NamedClass) (m : NamedMethod) → Contains p.classes c → Contains c.methods m → text_eq m.name (no_name p) ≡ true → ⊥
other_name p c m i j e =
    let l = short_name p c m i j in
    let same : length m.name ≡ length (no_name p) = ap length (text_sound m.name (no_name p) e) in
    let long : length (no_name p) ≡ suc (letters p) = length-replicate (suc (letters p)) 120 in
    omega (arith, l, same, long)

pub ordinary_name : (p : NamedProgram) → is_constructor_name (no_name p) ≡ false
ordinary_name p = refl

-- ---- no class has it

found_none : {A : Type 0} (test : A → Bool) (xs : List A) → ((x : A) → Contains xs x → test x ≡ false) → find test xs ≡ None
found_none test [] h = refl
found_none {A} test (x ∷ xs) h = by (test x) (h x (0, omega arith, refl)) (found_none test xs (λ y c. let l : c.0 < length xs = c.1 in h y (suc c.0, omega (arith, l), c.2)))
  where
    by : (b : Bool) → b ≡ false → find test xs ≡ None → cond b (Some x) (find test xs) ≡ None
    by true e r = absurd (true≢false e)
    by false e r = r

module _ (p : NamedProgram) (s : Signature) where
  abbrev Lacks : NamedClass → Type 0
  Lacks c = method_in c (no_name p) s ≡ None

  lacks : (c : NamedClass) → Contains p.classes c → Lacks c
  lacks c i = found_none (λ m. same_name m.name m.signature (no_name p) s) c.methods (λ m j. by m j (same_name m.name m.signature (no_name p) s) refl)
    where
      by : (m : NamedMethod) → Contains c.methods m → (b : Bool) → same_name m.name m.signature (no_name p) s ≡ b → b ≡ false
      by m j true e = absurd (other_name p c m i j (and_left (text_eq m.name (no_name p)) (signature_eq m.signature s) e))
      by m j false e = refl

  chain_lacks : (k : ℕ) (t : Text) → Each Lacks (chain_from k p t)
  chain_lacks zero t = tt
  chain_lacks (suc k) t = by (class_named p t) refl (chain_lacks k)
    where
      by : (o : Option NamedClass) → class_named p t ≡ o → ((u : Text) → Each Lacks (chain_from k p u)) → Each Lacks (elim o as (λ o. List NamedClass) [ Some c ↦ c ∷ chain_from k p c.superclass | None ↦ [] ])
      by None e r = tt
      by (Some c) e r = (lacks c (class_in p t c e), r c.superclass)

  each_append : (cs ds : List NamedClass) → Each Lacks cs → Each Lacks ds → Each Lacks (cs ++ ds)
  each_append [] ds h i = i
  each_append (c ∷ cs) ds h i = (h.0, each_append cs ds h.1 i)

  each_flat : (f : Text → List NamedClass) → ((t : Text) → Each Lacks (f t)) → (ts : List Text) → Each Lacks (flat_map f ts)
  each_flat f h [] = tt
  each_flat f h (t ∷ ts) = each_append (f t) (flat_map f ts) (h t) (each_flat f h ts)

  interfaces_lack : (k : ℕ) (ts : List Text) → Each Lacks (interfaces_from k p ts)
  interfaces_lack zero ts = tt
  interfaces_lack (suc k) ts = each_flat (λ t. elim (class_named p t) as (λ o. List NamedClass) [ Some c ↦ c ∷ interfaces_from k p c.interfaces | None ↦ [] ]) (λ t. by t (class_named p t) refl (interfaces_lack k)) ts
    where
      by : (t : Text) (o : Option NamedClass) → class_named p t ≡ o → ((us : List Text) → Each Lacks (interfaces_from k p us)) → Each Lacks (elim o as (λ o. List NamedClass) [ Some c ↦ c ∷ interfaces_from k p c.interfaces | None ↦ [] ])
      by t None e r = tt
      by t (Some c) e r = (lacks c (class_in p t c e), r c.interfaces)

  none_first : (cs : List NamedClass) → Each Lacks cs → first_method (λ m. true) (no_name p) s cs ≡ None
  none_first [] h = refl
  none_first (c ∷ cs) h = ap (λ o. option_or (passing (λ m. true) c o) (first_method (λ m. true) (no_name p) s cs)) h.0 ∙ none_first cs h.1

pub unresolved : (p : NamedProgram) (t : Text) (k : MethodKey) → resolves_method p (asking_key (no_name p) t k) ≡ None
unresolved p t k = none_first p k.signature (chain_of p t ++ interfaces_from (length p.classes) p (flat_map (λ (c : NamedClass). c.interfaces) (chain_of p t)))
    (each_append p k.signature (chain_of p t) (interfaces_from (length p.classes) p (flat_map (λ (c : NamedClass). c.interfaces) (chain_of p t))) (chain_lacks p k.signature (length p.classes) t)
    (interfaces_lack p k.signature (length p.classes) (flat_map (λ (c : NamedClass). c.interfaces) (chain_of p t))))
