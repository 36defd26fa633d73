-- What holds of each method's old and new code holds of what look-ups find.
use Rattle.std.proofs.Common.{◌≡◌, Bool, true, false, List, [], ◌∷◌, refl, sym, ap, subst}
use Rattle.std.specs.Prelude.{Option, Some, None, find}
use Rattle.std.specs.Option.{option_and_then}
use mathlib.Core.Bool.{cond}
use Rattle.dalvik_defs.specs.Names.{Text, text_eq, same_name}
use Rattle.dalvik_defs.specs.Face.{bodies_of}
use Rattle.dalvik_defs.specs.Find.{method_in}
use Rattle.dalvik_defs.specs.Under.{class_named}
use Rattle.dalvik_defs.specs.declared.names.Signature.{Signature}
use Rattle.dalvik_defs.specs.declared.names.MethodKey.{MethodKey}
use Rattle.dalvik_defs.specs.declared.program.NamedMethod.{NamedMethod}
use Rattle.dalvik_defs.specs.declared.program.NamedClass.{NamedClass}
use Rattle.dalvik_defs.specs.declared.program.NamedProgram.{NamedProgram}
use Rattle.program_laws.proofs.Heads.{class_case}
use Rattle.program_laws.specs.Others.{Pairwise, Codes, OtherMethod, OtherClass, OtherBodies}
use Rattle.program_laws.proofs.Keys.{key_found}

-- the same test finds related items, or none in either list
data Finding {A : Type 0} (R : A → A → Type 0) (test : A → Bool) : Option A → Option A → Type 0 where
  Missing : Finding R test None None
  There : (x y : A) → R x y → test x ≡ true → Finding R test (Some x) (Some y)

finds_both : {A : Type 0} (R : A → A → Type 0) (test : A → Bool) → ((x y : A) → R x y → test y ≡ test x) → (xs ys : List A) → Pairwise R xs ys → Finding R test (find test xs) (find test ys)
finds_both R test h [] [] r = Missing
finds_both R test h [] (y ∷ ys) r = absurd r
finds_both R test h (x ∷ xs) [] r = absurd r
finds_both {A} R test h (x ∷ xs) (y ∷ ys) r = subst (λ b. Finding R test (cond (test x) (Some x) (find test xs)) (cond b (Some y) (find test ys))) (sym (h x y r.0)) (by (test x) refl (finds_both R test h xs ys r.1))
  where
    by : (b : Bool) → test x ≡ b → Finding R test (find test xs) (find test ys) → Finding R test (cond b (Some x) (find test xs)) (cond b (Some y) (find test ys))
    by true e k = There x y r.0 e
    by false e k = k

module _ (R : Codes) (none : (k : MethodKey) → R k None None) where
  same_test : (n : Text) (s : Signature) (c : NamedClass) (m m' : NamedMethod) → OtherMethod R c m m' → same_name m'.name m'.signature n s ≡ same_name m.name m.signature n s
  same_test n s c m m' h = ap (λ x. same_name x.name x.signature n s) h.same

  in_method : (c : NamedClass) (k : MethodKey) → text_eq c.name k.class ≡ true → (o o' : Option NamedMethod) → Finding (OtherMethod R c) (λ m. same_name m.name m.signature k.name k.signature) o o'
      → R k (option_and_then (λ m. m.body) o) (option_and_then (λ m. m.body) o')
  in_method c k d _ _ Missing = none k
  in_method c k d _ _ (There m n h e) = subst (λ k. R k m.body n.body) (key_found c m k d e) h.related

  in_class : (k : MethodKey) (o o' : Option NamedClass) → Finding (OtherClass R) (λ c. text_eq c.name k.class) o o'
      → R k (option_and_then (λ m. m.body) (class_case (λ c. method_in c k.name k.signature) None o)) (option_and_then (λ m. m.body) (class_case (λ c. method_in c k.name k.signature) None o'))
  in_class k _ _ Missing = none k
  in_class k _ _ (There c d h e) = in_method c k e (method_in c k.name k.signature) (method_in d k.name k.signature)
      (finds_both (OtherMethod R c) (λ m. same_name m.name m.signature k.name k.signature) (same_test k.name k.signature c) c.methods d.methods h.methods)

  pub others_found : (p q : NamedProgram) → OtherBodies R p q → (k : MethodKey) → R k (bodies_of p k) (bodies_of q k)
  others_found p q h k = in_class k (class_named p k.class) (class_named q k.class)
      (finds_both (OtherClass R) (λ c. text_eq c.name k.class) (λ c d i. ap (λ x. text_eq x.name k.class) i.same) p.classes q.classes h.classes)
