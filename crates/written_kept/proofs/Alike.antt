-- Programs that answer look-ups alike, but for what runs ask nothing of: annotations, sources, lines, and the order of classes and members.
use Rattle.std.proofs.Common.{◌≡◌, ℕ, zero, suc, Bool, true, false, true≢false, List, [], ◌∷◌, ◌++◌, length, refl, sym, ap, ◌∙◌, subst}
use Rattle.std.specs.Prelude.{◌&&◌, ◌||◌, Option, Some, None, find, flat_map}
use Rattle.std.specs.List.{list_any, list_all}
use Rattle.std.specs.Option.{option_map}
use Rattle.dalvik_defs.specs.Names.{Text, text_eq, proto_text}
use Rattle.dalvik_defs.specs.Flags.{is_interface}
use Rattle.dalvik_defs.specs.Under.{class_named}
use Rattle.dalvik_defs.specs.Find.{method_in, field_in, chain_from, chain_of, interface_named}
use Rattle.dalvik_defs.specs.Initialised.{has_default}
use Rattle.dalvik_defs.specs.declared.names.Signature.{Signature}
use Rattle.dalvik_defs.specs.declared.program.NamedField.{NamedField}
use Rattle.dalvik_defs.specs.declared.program.NamedMethod.{NamedMethod}
use Rattle.dalvik_defs.specs.declared.program.NamedClass.{NamedClass}
use Rattle.dalvik_defs.specs.declared.program.NamedProgram.{NamedProgram}
use Rattle.program_laws.proofs.Heads.{class_case}

-- members without what no run asks for
abbrev pub bare_method : NamedMethod → NamedMethod
bare_method m = record m { marks = []; parameter_marks = []; lines = [] }

abbrev pub bare_field : NamedField → NamedField
bare_field f = record f { marks = [] }

abbrev pub of_proto : Text → Text → NamedMethod → Bool
of_proto n x m = text_eq m.name n && text_eq (proto_text m.signature) x

pub record AlikeClass (c d : NamedClass) : Type 0 where
  pub name : d.name ≡ c.name
  pub flags : d.flags ≡ c.flags
  pub superclass : d.superclass ≡ c.superclass
  pub interfaces : d.interfaces ≡ c.interfaces
  pub method : (n : Text) (s : Signature) → option_map bare_method (method_in d n s) ≡ option_map bare_method (method_in c n s)
  pub declared : (n x : Text) → option_map bare_method (find (of_proto n x) d.methods) ≡ option_map bare_method (find (of_proto n x) c.methods)
  pub field : (n k : Text) → option_map bare_field (field_in d n k) ≡ option_map bare_field (field_in c n k)
  pub default : has_default d ≡ has_default c

-- both are none, or alike
abbrev pub AlikeOption : Option NamedClass → Option NamedClass → Type 0
AlikeOption None None = Unit {0}
AlikeOption (Some c) (Some d) = AlikeClass c d
AlikeOption None (Some d) = ⊥
AlikeOption (Some c) None = ⊥

abbrev pub AllAlike : List NamedClass → List NamedClass → Type 0
AllAlike [] [] = Unit {0}
AllAlike (c ∷ cs) (d ∷ ds) = AlikeClass c d × AllAlike cs ds
AllAlike [] (d ∷ ds) = ⊥
AllAlike (c ∷ cs) [] = ⊥

pub record LooksAlike (p q : NamedProgram) : Type 0 where
  pub version : q.version ≡ p.version
  pub count : length q.classes ≡ length p.classes
  pub class : (t : Text) → AlikeOption (class_named p t) (class_named q t)
  pub lists : (test : Text → List Text → Bool) → list_any (λ c. test c.name c.interfaces) q.classes ≡ list_any (λ c. test c.name c.interfaces) p.classes

-- ---- what is said of both is the same

pub both : {X : Type 0} (f g : NamedClass → X) (z : X) → ((c d : NamedClass) → AlikeClass c d → f d ≡ g c) → (a b : Option NamedClass) → AlikeOption a b → class_case f z b ≡ class_case g z a
both f g z h None None l = refl
both f g z h (Some c) (Some d) l = h c d l
both f g z h None (Some d) l = absurd l
both f g z h (Some c) None l = absurd l

pub above_alike : (c d : NamedClass) → AlikeClass c d → d.superclass ∷ d.interfaces ≡ c.superclass ∷ c.interfaces
above_alike c d h = ap (λ t. t ∷ d.interfaces) h.superclass ∙ ap (λ ts. c.superclass ∷ ts) h.interfaces

pub flat_alike : {X : Type 0} (f g : NamedClass → List X) → ((c d : NamedClass) → AlikeClass c d → f d ≡ g c) → (cs ds : List NamedClass) → AllAlike cs ds → flat_map f ds ≡ flat_map g cs
flat_alike f g h [] [] l = refl
flat_alike f g h (c ∷ cs) (d ∷ ds) l = ap (λ xs. xs ++ flat_map f ds) (h c d l.0) ∙ ap (λ xs. g c ++ xs) (flat_alike f g h cs ds l.1)
flat_alike f g h [] (d ∷ ds) l = absurd l
flat_alike f g h (c ∷ cs) [] l = absurd l

pub all_alike : (f g : NamedClass → Bool) → ((c d : NamedClass) → AlikeClass c d → f d ≡ g c) → (cs ds : List NamedClass) → AllAlike cs ds → list_all f ds ≡ list_all g cs
all_alike f g h [] [] l = refl
all_alike f g h (c ∷ cs) (d ∷ ds) l = ap (λ b. b && list_all f ds) (h c d l.0) ∙ ap (λ b. g c && b) (all_alike f g h cs ds l.1)
all_alike f g h [] (d ∷ ds) l = absurd l
all_alike f g h (c ∷ cs) [] l = absurd l

module _ (p q : NamedProgram) (a : LooksAlike p q) where
  pub at_class : {X : Type 0} (f g : NamedClass → X) (z : X) → ((c d : NamedClass) → AlikeClass c d → f d ≡ g c) → (t : Text) → class_case f z (class_named q t) ≡ class_case g z (class_named p t)
  at_class f g z h t = both f g z h (class_named p t) (class_named q t) (a.class t)

  chain_from_alike : (n : ℕ) (t : Text) → AllAlike (chain_from n p t) (chain_from n q t)
  chain_from_alike zero t = tt
  chain_from_alike (suc n) t = by (class_named p t) (class_named q t) (a.class t) (chain_from_alike n)
    where
      by : (o o' : Option NamedClass) → AlikeOption o o' → ((u : Text) → AllAlike (chain_from n p u) (chain_from n q u))
          → AllAlike (class_case (λ c. c ∷ chain_from n p c.superclass) [] o) (class_case (λ c. c ∷ chain_from n q c.superclass) [] o')
      by None None l r = tt
      by (Some c) (Some d) l r = (l, subst (λ u. AllAlike (chain_from n p c.superclass) (chain_from n q u)) (sym l.superclass) (r c.superclass))
      by None (Some d) l r = absurd l
      by (Some c) None l r = absurd l

  pub chain_alike : (t : Text) → AllAlike (chain_of p t) (chain_of q t)
  chain_alike t = subst (λ n. AllAlike (chain_of p t) (chain_from n q t)) (sym a.count) (chain_from_alike (length p.classes) t)

  abbrev as_interface : NamedClass → Option NamedClass
  as_interface c = elim (is_interface c.flags) as (λ b. Option NamedClass) [ true ↦ Some c | false ↦ None ]

  pub interface_alike : (t : Text) → AlikeOption (interface_named p t) (interface_named q t)
  interface_alike t = by (class_named p t) (class_named q t) (a.class t)
    where
      pick : (c d : NamedClass) → AlikeClass c d → (b e : Bool) → e ≡ b
          → AlikeOption (elim b as (λ b. Option NamedClass) [ true ↦ Some c | false ↦ None ]) (elim e as (λ b. Option NamedClass) [ true ↦ Some d | false ↦ None ])
      pick c d l true true h = l
      pick c d l false false h = tt
      pick c d l true false h = absurd (true≢false (sym h))
      pick c d l false true h = absurd (true≢false h)

      by : (o o' : Option NamedClass) → AlikeOption o o' → AlikeOption (class_case as_interface None o) (class_case as_interface None o')
      by None None l = tt
      by (Some c) (Some d) l = pick c d l (is_interface c.flags) (is_interface d.flags) (ap is_interface l.flags)
      by None (Some d) l = absurd l
      by (Some c) None l = absurd l
