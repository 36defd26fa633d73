-- Programs that are the same but for bodies and lines by number are so by name, and so is a program with other code.
use Rattle.std.proofs.Common.{◌≡◌, List, [], ◌∷◌, refl, sym, ap, ◌∙◌, subst}
use Rattle.std.specs.Prelude.{Option, Some, None, map, is_some}
use Rattle.std.specs.Option.{option_map}
use Rattle.lemmas.proofs.Options.{mapped_some}
use Rattle.program_model.specs.declared.body.Body.{Body}
use Rattle.program_model.specs.declared.program.Method.{Method}
use Rattle.program_model.specs.declared.program.Class.{Class}
use Rattle.program_model.specs.declared.program.Program.{Program}
use Rattle.dalvik_defs.specs.Naming.{body_of, named_method, named_class, named}
use Rattle.dalvik_defs.specs.Silence.{key_in}
use Rattle.dalvik_defs.specs.declared.names.MethodKey.{MethodKey}
use Rattle.dalvik_defs.specs.declared.program.NamedBody.{NamedBody}
use Rattle.dalvik_defs.specs.declared.program.NamedMethod.{NamedMethod}
use Rattle.dalvik_defs.specs.declared.program.NamedClass.{NamedClass}
use Rattle.dalvik_defs.specs.declared.program.NamedProgram.{NamedProgram}
use Rattle.program_laws.specs.Bodies.{Change, method_changed, class_changed, changed, KeepsCode}
use Rattle.program_laws.specs.Others.{Pairwise, Codes, OtherMethod, OtherClass, OtherBodies}
use Rattle.program_laws.specs.Numbered.{NumberedCodes, OtherNumberedMethod, OtherNumberedClass, OtherNumberedBodies}

pub pairwise_mapped : {A B : Type 0} (R : A → A → Type 0) (S : B → B → Type 0) (f g : A → B) → ((x y : A) → R x y → S (f x) (g y)) → (xs ys : List A) → Pairwise R xs ys → Pairwise S (map f xs) (map g ys)
pairwise_mapped R S f g h [] [] r = tt
pairwise_mapped R S f g h [] (y ∷ ys) r = absurd r
pairwise_mapped R S f g h (x ∷ xs) [] r = absurd r
pairwise_mapped R S f g h (x ∷ xs) (y ∷ ys) r = (h x y r.0, pairwise_mapped R S f g h xs ys r.1)

pub pairwise_self : {A : Type 0} (R : A → A → Type 0) (f : A → A) → ((x : A) → R x (f x)) → (xs : List A) → Pairwise R xs (map f xs)
pairwise_self R f h [] = tt
pairwise_self R f h (x ∷ xs) = (h x, pairwise_self R f h xs)

module _ (N : NumberedCodes) (R : Codes) (p : Program) (names : (k : MethodKey) (a b : Option Body) → N k a b → R k (option_map (body_of p) a) (option_map (body_of p) b)) where
  named_methods : (c : Class) (m n : Method) → OtherNumberedMethod N p c m n → OtherMethod R (named_class p c) (named_method p m) (named_method p n)
  named_methods c m n h = record {
    same = ap (λ x. record (named_method p x) { body = option_map (body_of p) n.body; lines = n.lines }) h.same;
    coded = mapped_some (body_of p) n.body ∙ h.coded ∙ sym (mapped_some (body_of p) m.body);
    related = names (key_in (named_class p c) (named_method p m)) m.body n.body h.related;
  }

  named_classes : (c d : Class) → OtherNumberedClass N p c d → OtherClass R (named_class p c) (named_class p d)
  named_classes c d h = record {
    same = ap (λ x. record (named_class p x) { methods = map (named_method p) d.methods }) h.same;
    methods = pairwise_mapped (OtherNumberedMethod N p c) (OtherMethod R (named_class p c)) (named_method p) (named_method p) (named_methods c) c.methods d.methods h.methods;
  }

  pub others_named : (q : Program) → OtherNumberedBodies N p q → OtherBodies R (named p) (named q)
  others_named q h = subst (λ x. OtherBodies R (named p) (named x)) (sym h.same) (record {
    same = refl;
    classes = pairwise_mapped (OtherNumberedClass N p) (OtherClass R) (named_class p) (named_class p) named_classes p.classes q.classes h.classes;
  })

-- a program with other code
pub others_changed : (R : Codes) (new : Change) (p : NamedProgram) → KeepsCode new → ((c : NamedClass) (m : NamedMethod) → R (key_in c m) m.body (new c m).body) → OtherBodies R p (changed new p)
others_changed R new p keeps each = record { same = refl; classes = pairwise_self (OtherClass R) (class_changed new) class_other p.classes }
  where
    method_other : (c : NamedClass) (m : NamedMethod) → OtherMethod R c m (method_changed new c m)
    method_other c m = record { same = refl; coded = keeps c m; related = each c m }

    class_other : (c : NamedClass) → OtherClass R c (class_changed new c)
    class_other c = record { same = refl; methods = pairwise_self (OtherMethod R c) (method_changed new c) (method_other c) c.methods }

-- what follows from what is said of code
pairwise_weaker : {A : Type 0} (R S : A → A → Type 0) → ((x y : A) → R x y → S x y) → (xs ys : List A) → Pairwise R xs ys → Pairwise S xs ys
pairwise_weaker R S h [] [] r = tt
pairwise_weaker R S h [] (y ∷ ys) r = absurd r
pairwise_weaker R S h (x ∷ xs) [] r = absurd r
pairwise_weaker R S h (x ∷ xs) (y ∷ ys) r = (h x y r.0, pairwise_weaker R S h xs ys r.1)

pub others_weaker : (R S : Codes) → ((k : MethodKey) (a b : Option NamedBody) → R k a b → S k a b) → (p q : NamedProgram) → OtherBodies R p q → OtherBodies S p q
others_weaker R S h p q o = record { same = o.same; classes = pairwise_weaker (OtherClass R) (OtherClass S) in_class p.classes q.classes o.classes }
  where
    in_method : (c : NamedClass) (m n : NamedMethod) → OtherMethod R c m n → OtherMethod S c m n
    in_method c m n i = record { same = i.same; coded = i.coded; related = h (key_in c m) m.body n.body i.related }

    in_class : (c d : NamedClass) → OtherClass R c d → OtherClass S c d
    in_class c d i = record { same = i.same; methods = pairwise_weaker (OtherMethod R c) (OtherMethod S c) (in_method c) c.methods d.methods i.methods }
