-- A program with other bodies defines the classes that it defined.
use Rattle.std.proofs.Common.{◌≡◌, ◌∙◌, Bool, true, false, List, [], ◌∷◌, Option, Some, None, map, refl, ap}
use Rattle.std.specs.List.{find}
use mathlib.Core.Bool.{cond}
use Rattle.program_model.specs.declared.program.Class.{Class}
use Rattle.program_model.specs.declared.program.Program.{Program}
use Rattle.dalvik_defs.specs.Names.{Text, text_eq}
use Rattle.dalvik_defs.specs.Naming.{named, named_class, type_at}
use Rattle.dalvik_defs.specs.Under.{defines}
use Rattle.dalvik_defs.specs.declared.program.NamedClass.{NamedClass}
use Rattle.program_laws.specs.Others.{Pairwise}
use Rattle.program_laws.specs.Numbered.{NumberedCodes, OtherNumberedClass, OtherNumberedBodies}

abbrev is_there : Option NamedClass → Bool
is_there o = elim o [ Some c ↦ true | None ↦ false ]

first_same : (a b : Bool) (x y : NamedClass) (l m : Option NamedClass) → a ≡ b → is_there l ≡ is_there m → is_there (cond a (Some x) l) ≡ is_there (cond b (Some y) m)
first_same true true x y l m same e = refl
first_same true false x y l m same e = cc
first_same false true x y l m same e = cc
first_same false false x y l m same e = e

module _ (N : NumberedCodes) (p : Program) (t : Text) where
  abbrev found : List Class → Option NamedClass
  found cs = find (λ (c : NamedClass). text_eq c.name t) (map (named_class p) cs)

  there_same : (cs ds : List Class) → Pairwise (OtherNumberedClass N p) cs ds → is_there (found ds) ≡ is_there (found cs)
  there_same [] [] r = refl
  there_same [] (d ∷ ds) r = absurd r
  there_same (c ∷ cs) [] r = absurd r
  there_same (c ∷ cs) (d ∷ ds) r = first_same (text_eq (type_at p d.name) t) (text_eq (type_at p c.name) t) (named_class p d) (named_class p c) (found ds) (found cs)
      (ap (λ (x : Class). text_eq (type_at p x.name) t) r.0.same) (there_same cs ds r.1)

  pub others_define : (q : Program) → OtherNumberedBodies N p q → defines (named q) t ≡ defines (named p) t
  others_define q h = ap (λ (x : Program). defines (named x) t) h.same ∙ there_same p.classes q.classes h.classes
