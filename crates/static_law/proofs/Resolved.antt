-- What names resolve to where loose methods are static: an old name to what it did, where that isn't loose, and the new name of a
-- loose method to it.
use Rattle.std.proofs.Common.{◌≡◌, ℕ, zero, suc, Bool, true, false, List, [], ◌∷◌, ◌++◌, length, refl, sym, ap, ◌∙◌}
use std.Path.{fun_ext}
use Rattle.std.specs.Prelude.{Option, Some, None, map, flat_map, is_some}
use Rattle.std.specs.Option.{option_map, option_or}
use Rattle.lemmas.proofs.Lists.{map_append}
use Rattle.dalvik_defs.specs.Names.{Text}
use Rattle.dalvik_defs.specs.Under.{class_named}
use Rattle.dalvik_defs.specs.Find.{Found, Nothing, Clash, Finds, method_in, chain_of, passing, first_method, search_of, interfaces_from, resolves_method}
use Rattle.dalvik_defs.specs.declared.names.Signature.{Signature}
use Rattle.dalvik_defs.specs.declared.names.MethodKey.{MethodKey}
use Rattle.dalvik_defs.specs.declared.program.NamedMethod.{NamedMethod}
use Rattle.dalvik_defs.specs.declared.program.NamedClass.{NamedClass}
use Rattle.dalvik_defs.specs.declared.program.NamedProgram.{NamedProgram}
use Rattle.pass_defs.specs.Loose.{new_signature, new_key, static_class, staticised}
use Rattle.removal_law.proofs.Lists.{clash}
use Rattle.program_laws.proofs.Heads.{class_case}
use Rattle.program_laws.proofs.ChangedLists.{flat_same, flat_mapped}
use Rattle.static_law.specs.Static.{IsOld, Fresh, made_static}
use Rattle.program_laws.proofs.Remade.{class_same, count, chain_same}
use Rattle.static_law.proofs.LookUps.{first_left, new_found, statically_moved}

-- what is found in front is found
first_front : (test : NamedMethod → Bool) (n : Text) (g : Signature) (cs ds : List NamedClass) (x : Found) → first_method test n g cs ≡ Some x → first_method test n g (cs ++ ds) ≡ Some x
first_front test n g [] ds x e = clash false (ap is_some e) refl
first_front test n g (c ∷ cs) ds x e = by (passing test c (method_in c n g)) e (first_front test n g cs ds x)
  where
    by : (o : Option Found) → option_or o (first_method test n g cs) ≡ Some x → (first_method test n g cs ≡ Some x → first_method test n g (cs ++ ds) ≡ Some x) → option_or o (first_method test n g (cs ++ ds)) ≡ Some x
    by None i r = r i
    by (Some y) i r = i

search_some : (o : Option Found) (x : Found) → search_of o ≡ Finds x → o ≡ Some x
search_some None x e = clash false (ap (λ s. elim s as (λ s. Bool) [ Nothing ↦ false | Clash ↦ false | Finds g ↦ true ]) e) refl
search_some (Some y) x e = ap Some (ap (λ s. elim s as (λ s. Found) [ Nothing ↦ y | Clash ↦ y | Finds g ↦ g ]) e)

module _ (p : NamedProgram) (loose : MethodKey → Bool) where
  abbrev q : NamedProgram
  q = staticised p loose

  abbrev other : NamedClass → NamedClass
  other = static_class p loose

  abbrev interfaces_case : (List Text → List NamedClass) → NamedClass → List NamedClass
  interfaces_case next c = c ∷ next c.interfaces

  interfaces_same : (n : ℕ) → interfaces_from n q ≡ (λ ts. map other (interfaces_from n p ts))
  interfaces_same zero = refl
  interfaces_same (suc n) = fun_ext (λ ts.
      ap (λ next. flat_map (λ t. class_case (interfaces_case next) [] (class_named q t)) ts) (interfaces_same n)
      ∙ ap (λ f. flat_map f ts) (fun_ext (λ t. ap (class_case (interfaces_case (λ ts. map other (interfaces_from n p ts))) []) (class_same (made_static p loose) p t) ∙ by (class_named p t)))
      ∙ flat_mapped (λ t. class_case (interfaces_case (interfaces_from n p)) [] (class_named p t)) other ts)
    where
      by : (o : Option NamedClass) → class_case (interfaces_case (λ ts. map other (interfaces_from n p ts))) [] (option_map other o) ≡ map other (class_case (interfaces_case (interfaces_from n p)) [] o)
      by None = refl
      by (Some c) = refl

  pub resolves_left : (k : MethodKey) → IsOld loose k.name k.signature → ((g : Found) → resolves_method p k ≡ Some g → loose g.key ≡ false) → resolves_method q k ≡ resolves_method p k
  resolves_left k old h =
      ap (λ cs. first_method (λ m. true) k.name k.signature (cs ++ interfaces_from (length q.classes) q (flat_map (λ c. c.interfaces) cs))) (chain_same (made_static p loose) p k.class)
      ∙ ap (λ ts. first_method (λ m. true) k.name k.signature (map other (chain_of p k.class) ++ interfaces_from (length q.classes) q ts)) (flat_same (λ c. c.interfaces) other (λ c. refl) (chain_of p k.class))
      ∙ ap (λ n. first_method (λ m. true) k.name k.signature (map other (chain_of p k.class) ++ interfaces_from n q (flat_map (λ c. c.interfaces) (chain_of p k.class)))) (count (made_static p loose) p)
      ∙ ap (λ f. first_method (λ m. true) k.name k.signature (map other (chain_of p k.class) ++ f (flat_map (λ c. c.interfaces) (chain_of p k.class)))) (interfaces_same (length p.classes))
      ∙ ap (first_method (λ m. true) k.name k.signature) (sym (map_append other (chain_of p k.class) (interfaces_from (length p.classes) p (flat_map (λ c. c.interfaces) (chain_of p k.class)))))
      ∙ first_left p loose (λ m. true) (λ m. refl) k.name k.signature old (chain_of p k.class ++ interfaces_from (length p.classes) p (flat_map (λ c. c.interfaces) (chain_of p k.class))) h

  pub resolves_moved : (k : MethodKey) (l : loose k ≡ true) (c : NamedClass) (stands : class_named p k.class ≡ Some c) (named : c.name ≡ k.class) (fresh : Fresh k c.methods) (m : NamedMethod) → method_in c k.name k.signature ≡ Some m
      → (n : ℕ) → length p.classes ≡ suc n → resolves_method q (new_key k) ≡ Some (new_found p loose k l c stands named fresh m)
  resolves_moved k l c stands named fresh m e n z =
      first_front (λ m. true) k.name (new_signature k) (chain_of q k.class) (interfaces_from (length q.classes) q (flat_map (λ c. c.interfaces) (chain_of q k.class))) (new_found p loose k l c stands named fresh m)
      (search_some (first_method (λ m. true) k.name (new_signature k) (chain_of q k.class)) (new_found p loose k l c stands named fresh m) (statically_moved p loose k l c stands named fresh m e n z))
