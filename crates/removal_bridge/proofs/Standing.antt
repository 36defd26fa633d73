-- No class that is no interface stands directly above an interface of the named program of a well-formed program.
use Rattle.std.proofs.Common.{◌≡◌, ℕ, zero, suc, ◌<◌, Bool, true, false, true≢false, List, [], ◌∷◌, length, Option, Some, None, refl, sym, ap, ◌∙◌, subst}
use Rattle.std.specs.Prelude.{◌&&◌, ◌||◌, not, nat_eq, map, slice_get, option_and_then, Contains}
use Rattle.std.specs.List.{list_all, list_any}
use Rattle.std.specs.Option.{option_map}
use Rattle.std.proofs.lemmas.Bool.{and_parts}
use Rattle.lemmas.proofs.Bools.{neither_of, not_true}
use Rattle.program_model.specs.InterfaceRules.{is_plain_class, defines_so, defines_plain, stands_free, interfaces_stand_free}
use Rattle.program_model.specs.Lookups.{class_place}
use Rattle.program_model.specs.Texts.{has_type}
use Rattle.program_model.specs.declared.program.Class.{Class}
use Rattle.program_model.specs.declared.program.Program.{Program}
use Rattle.class_defs.proofs.Positions.{place_entry}
use Rattle.class_defs.proofs.WellFormed.{all_at, below, Sound, class_parts}
use Rattle.dalvik_defs.specs.Flags.{is_interface}
use Rattle.dalvik_defs.specs.Names.{Text}
use Rattle.dalvik_defs.specs.Naming.{type_at, named_class, named}
use Rattle.dalvik_defs.specs.Under.{class_named}
use Rattle.dalvik_defs.specs.declared.program.NamedClass.{NamedClass}
use Rattle.pass_defs.specs.Kinds.{is_plain}
use Rattle.run_laws.specs.Holds.{Each}
use Rattle.name_bridge.specs.Named.{class_at}
use Rattle.name_bridge.proofs.Classes.{class_by_number}
use Rattle.name_bridge.proofs.Flags.{interface_flag}
use Rattle.run_laws.specs.Regular.{InterfacesStandFree}
use Rattle.run_laws.proofs.Climbs.{class_in}
use Rattle.removal_bridge.proofs.Listed.{Image, image}

-- ---- tests

otherwise : (a b : Bool) → a ≡ false → (a || b) ≡ true → b ≡ true
otherwise false b e h = h
otherwise true b e h = absurd (true≢false e)

-- what is true of no entry is true of none of them
none_at : {X : Type 0} (t : X → Bool) (xs : List X) (i : ℕ) (x : X) → list_any t xs ≡ false → slice_get xs i ≡ Some x → t x ≡ false
none_at t [] i x h e = cc
none_at t (y ∷ ys) zero x h e = let s : x ≡ y = cc in ap t s ∙ (neither_of (t y) (list_any t ys) h).0
none_at t (y ∷ ys) (suc i) x h e = none_at t ys i x (neither_of (t y) (list_any t ys) h).1 e

module _ (p : Program) (s : Sound p) where
  abbrev plain_in : Option NamedClass → Bool
  plain_in o = elim o as (λ o. Bool) [ Some c ↦ not (is_interface c.flags) | None ↦ false ]

  -- a class that defines a type that none that is no interface defines is an interface
  is_other : (k n : ℕ) (d : Class) → slice_get p.classes n ≡ Some d → nat_eq d.name k ≡ true → not (defines_plain p k) ≡ true → is_plain_class d ≡ false
  is_other k n d e same h = ap (λ b. b && is_plain_class d) (sym same) ∙ none_at (defines_so k) p.classes n d (not_true (defines_plain p k) h) e

  not_plain : (k : ℕ) → k < length p.types → not (defines_plain p k) ≡ true → is_plain (named p) (type_at p k) ≡ false
  not_plain k lt h = ap plain_in (class_by_number p s k lt) ∙ by (class_place p k) refl
    where
      by : (o : Option ℕ) → class_place p k ≡ o → plain_in (option_and_then (class_at p) o) ≡ false
      by None e = refl
      by (Some n) e =
          let o = place_entry (λ d. nat_eq d.name k) p.classes n e in
          ap (λ o. plain_in (option_map (named_class p) o)) o.is ∙ (ap not (sym (interface_flag o.entry.flags)) ∙ is_other k n o.entry o.is o.passes h)

  each_free : (ks : List ℕ) → list_all (has_type p) ks ≡ true → list_all (λ k. not (defines_plain p k)) ks ≡ true → Each (λ u. is_plain (named p) u ≡ false) (map (type_at p) ks)
  each_free [] t h = tt
  each_free (k ∷ ks) t h =
      let types = and_parts (has_type p k) (list_all (has_type p) ks) t in
      let free = and_parts (not (defines_plain p k)) (list_all (λ k. not (defines_plain p k)) ks) h in
      (not_plain k (below k (length p.types) types.0) free.0, each_free ks types.1 free.1)

  module _ (stand : interfaces_stand_free p ≡ true) where
    all_free : list_all (stands_free p) p.classes ≡ true
    unfolding interfaces_stand_free
    all_free = stand

    class_free : (i : ℕ) (d : Class) → slice_get p.classes i ≡ Some d → is_interface d.flags.0 ≡ true → Each (λ u. is_plain (named p) u ≡ false) (type_at p d.superclass ∷ map (type_at p) d.interfaces)
    class_free i d e h =
        let parts = class_parts p s i d e in
        let rule = otherwise (is_plain_class d) (not (defines_plain p d.superclass) && list_all (λ k. not (defines_plain p k)) d.interfaces)
        (ap not (interface_flag d.flags ∙ h)) (all_at (stands_free p) p.classes i d all_free e) in
        let free = and_parts (not (defines_plain p d.superclass)) (list_all (λ k. not (defines_plain p k)) d.interfaces) rule in
        (not_plain d.superclass parts.superclass free.0, each_free d.interfaces parts.interfaces free.1)

    pub interfaces_free : InterfacesStandFree (named p)
    interfaces_free t c e h =
        let at : Image (named_class p) p.classes c = image (named_class p) p.classes c (class_in (named p) t c e) in
        subst (λ (c : NamedClass). Each (λ u. is_plain (named p) u ≡ false) (c.superclass ∷ c.interfaces)) at.is
        (class_free at.place at.entry at.is_entry (ap (λ c. is_interface c.flags) at.is ∙ h))
