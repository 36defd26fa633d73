-- Regular programs: superclasses end, and names and methods are told apart.
use Rattle.std.proofs.Common.{◌≡◌, ℕ, zero, suc, Bool, true, false, List, [], ◌∷◌, length, Some, None, refl, sym, ap, ◌∙◌, subst}
use Rattle.std.specs.Prelude.{not, Option}
use Rattle.lemmas.proofs.Options.{some_same}
use Rattle.dalvik_defs.specs.Find.{defined_method}
use Rattle.dalvik_defs.specs.Names.{Text}
use Rattle.dalvik_defs.specs.Quiet.{EndsWithin}
use Rattle.dalvik_defs.specs.Silence.{key_in}
use Rattle.dalvik_defs.specs.Under.{class_named, own_above}
use Rattle.dalvik_defs.specs.declared.program.NamedClass.{NamedClass}
use Rattle.dalvik_defs.specs.declared.program.NamedMethod.{NamedMethod}
use Rattle.dalvik_defs.specs.declared.program.NamedProgram.{NamedProgram}
use Rattle.removal_law.specs.Left.{In, here}
use Rattle.removal_law.specs.Reach.{ends, IsAcyclic, DefinesOnce, NamesOnce}
use Rattle.removal_law.specs.Reach as reach
use Rattle.removal_law.proofs.Acyclic.{regular as upright}
use Rattle.removal_law.proofs.Lists.{clash, all_in, contained}
use Rattle.removal_law.proofs.Trees.{class_in}
use Rattle.run_laws.specs.Regular.{IsRegular}

-- the superclasses of a class end
pub ends_within : (p : NamedProgram) (n : ℕ) (t : Text) → ends p n t ≡ true → EndsWithin p n t
ends_within p zero t e = by (class_named p t) refl e
  where
    by : (o : Option NamedClass) → class_named p t ≡ o → not (elim o as (λ o. Bool) [ Some c ↦ true | None ↦ false ]) ≡ true → class_named p t ≡ None
    by None i d = i
    by (Some c) i d = clash false d refl
ends_within p (suc n) t e = λ c i. ends_within p n c.superclass (all_in (ends p n) (own_above p t) e c.superclass
    (subst (In c.superclass) (sym (ap (λ o. elim o as (λ o. List Text) [ Some c ↦ c.superclass ∷ c.interfaces | None ↦ [] ]) i)) (here c.interfaces)))

module _ (p : NamedProgram) (regular : IsRegular p) where
  pub names_once : NamesOnce p
  names_once c i = regular.named c (contained c p.classes i)

  pub defines_once : DefinesOnce p
  defines_once t c m x e i j n s =
      some_same m x (sym (at m i) ∙ ap (λ k. defined_method p k) key_same ∙ at x j)
    where
      at : (y : NamedMethod) → In y c.methods → defined_method p (key_in c y) ≡ Some y
      at y k = regular.methods c y (contained c p.classes (class_in p t c e)) (contained y c.methods k)

      key_same : key_in c m ≡ key_in c x
      key_same = ap (λ y. record (key_in c m) { name = y }) n ∙ ap (λ g. record (key_in c x) { signature = g }) s

  module _ (acyclic : IsAcyclic p) where
    pub stands_up : reach.IsRegular p
    stands_up = upright p acyclic regular.class_types
