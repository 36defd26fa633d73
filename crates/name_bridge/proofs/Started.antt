-- Initialisers by number are those by name.
use Rattle.std.proofs.Common.{◌≡◌, ℕ, zero, suc, ◌<◌, Bool, true, false, List, [], ◌∷◌, map, length, Option, Some, None, refl, sym, ap, ◌∙◌}
use Rattle.std.specs.Prelude.{◌&&◌, not, cond, codes, slice_get, position, option_and_then, is_some}
use Rattle.std.specs.List.{list_all}
use Rattle.std.specs.Option.{option_map}
use Rattle.program_model.specs.declared.pools.MethodName.{MethodName}
use Rattle.program_model.specs.declared.program.Method.{Method}
use Rattle.program_model.specs.declared.program.Class.{Class}
use Rattle.program_model.specs.declared.program.Program.{Program}
use Rattle.program_model.specs.Lookups.{class_place}
use Rattle.program_model.specs.Texts.{has_type}
use Rattle.program_model.specs.MemberRules.{is_static}
use Rattle.class_defs.specs.ClassGraph.{IsTwice}
use Rattle.class_defs.specs.Places.{placed, places_of, listed, interface_places, chain_of}
use Rattle.class_defs.specs.Starts.{names_initialiser, is_initialiser, runs, running, initialiser_of, initialiser_place, interfaces_quiet, is_trivial}
use Rattle.dalvik_defs.specs.Names.{Text, same_name, void, initialiser_name}
use Rattle.dalvik_defs.specs.Under.{class_named}
use Rattle.dalvik_defs.specs.Naming.{text_at, type_at, signature_at, named_class, named_method, named}
use Rattle.dalvik_defs.specs.Initialised as name
use Rattle.dalvik_defs.specs.Initialised.{initialiser_key, initialiser_in, has_initialiser}
use Rattle.dalvik_defs.specs.declared.names.MethodKey.{MethodKey}
use Rattle.dalvik_defs.specs.declared.program.NamedClass.{NamedClass}
use Rattle.dalvik_defs.specs.declared.program.NamedMethod.{NamedMethod}
use Rattle.name_bridge.specs.Named.{class_at, with_class, classes_at}
use Rattle.name_bridge.proofs.Tables.{and_left, and_right, below, Sound}
use Rattle.name_bridge.proofs.Lists.{find_place, find_named, place_entry}
use Rattle.name_bridge.proofs.Flags.{static_flag}
use Rattle.name_bridge.proofs.Classes.{class_parts, class_by_number}
use Rattle.name_bridge.proofs.Above.{length_map, own_place, chain_by_number}
use Rattle.name_bridge.proofs.Candidates.{named_test, coded_test}

initialiser_test : (p : Program) (m : Method) → same_name (named_method p m).name (named_method p m).signature initialiser_name void ≡ is_initialiser p m
initialiser_test p m = by_entry (slice_get p.methods m.name)
  where
    by_entry : (o : Option MethodName) → same_name (elim o as (λ o. MethodKey) [ Some m ↦ record { class = type_at p m.class; name = text_at p m.name; signature = signature_at p m.proto } | None ↦ record { class = []; name = []; signature = record { parameters = []; result = [] } } ]).name
        (elim o as (λ o. MethodKey) [ Some m ↦ record { class = type_at p m.class; name = text_at p m.name; signature = signature_at p m.proto } | None ↦ record { class = []; name = []; signature = record { parameters = []; result = [] } } ]).signature initialiser_name void
        ≡ names_initialiser p o
    by_entry None = refl
    by_entry (Some q) = named_test p q.name q.proto (codes "<clinit>") [] 86 []

abbrev from_method : Text → Option NamedMethod → Option MethodKey
from_method t o = elim o [ Some m ↦ elim (name.is_initialiser m) [ true ↦ Some (initialiser_key t) | false ↦ None ] | None ↦ None ]

-- the initialiser of a class
pub initialiser_by_number : (p : Program) (k : Class) → initialiser_in (named_class p k) ≡ option_map (λ i. initialiser_key (type_at p k.name)) (initialiser_of p (Some k))
initialiser_by_number p k =
    ap (from_method (type_at p k.name)) (find_named (λ m. same_name m.name m.signature initialiser_name void) (is_initialiser p) (named_method p) k.methods (λ i m e. initialiser_test p m)
    ∙ ap (option_map (named_method p)) (find_place (is_initialiser p) k.methods))
    ∙ by_place (position (is_initialiser p) k.methods) refl
  where
    by_test : (i : ℕ) (b : Bool) → elim b as (λ b. Option MethodKey) [ true ↦ Some (initialiser_key (type_at p k.name)) | false ↦ None ] ≡ option_map (λ i. initialiser_key (type_at p k.name)) (cond b (Some i) None)
    by_test i true = refl
    by_test i false = refl

    by_place : (o : Option ℕ) → position (is_initialiser p) k.methods ≡ o
        → from_method (type_at p k.name) (option_map (named_method p) (option_and_then (slice_get k.methods) o)) ≡ option_map (λ i. initialiser_key (type_at p k.name)) (running k.methods o)
    by_place None e = refl
    by_place (Some i) e = let r = place_entry (is_initialiser p) k.methods i e in
        ap (λ o. from_method (type_at p k.name) (option_map (named_method p) o)) r.is
        ∙ ap (λ b. elim b as (λ b. Option MethodKey) [ true ↦ Some (initialiser_key (type_at p k.name)) | false ↦ None ])
        (ap (λ b. b && is_some (named_method p r.entry).body) (sym (static_flag r.entry.flags)) ∙ ap (λ b. is_static r.entry.flags && b) (coded_test p r.entry.body))
        ∙ by_test i (runs (Some r.entry))
        ∙ sym (ap (λ o. option_map (λ i. initialiser_key (type_at p k.name)) (cond (runs o) (Some i) None)) r.is)

mapped_some : {A B : Type 0} (f : A → B) (o : Option A) → is_some (option_map f o) ≡ is_some o
mapped_some f None = refl
mapped_some f (Some x) = refl

module _ (p : Program) (s : Sound p) where
  -- whether the class of a type has an initialiser
  abbrev starts : Option ℕ → Bool
  starts None = false
  starts (Some c) = is_some (initialiser_place p c)

  pub has_initialiser_by_number : (t : ℕ) → t < length p.types → has_initialiser (named p) (type_at p t) ≡ starts (class_place p t)
  has_initialiser_by_number t ht = ap (λ o. is_some (elim o as (λ o. Option MethodKey) [ Some c ↦ initialiser_in c | None ↦ None ])) (class_by_number p s t ht) ∙ by_place (class_place p t)
    where
      by_class : (c : ℕ) (o : Option Class) → is_some (elim (option_map (named_class p) o) as (λ o. Option MethodKey) [ Some c ↦ initialiser_in c | None ↦ None ]) ≡ is_some (initialiser_of p o)
      by_class c None = refl
      by_class c (Some k) = ap is_some (initialiser_by_number p k) ∙ mapped_some (λ i. initialiser_key (type_at p k.name)) (initialiser_of p (Some k))

      by_place : (o : Option ℕ) → is_some (elim (option_and_then (class_at p) o) as (λ o. Option MethodKey) [ Some c ↦ initialiser_in c | None ↦ None ]) ≡ starts o
      by_place None = refl
      by_place (Some c) = by_class c (slice_get p.classes c)

  abbrev Quiet : ℕ → Type 0
  Quiet n = (ks : List ℕ) → list_all (has_type p) ks ≡ true → name.interfaces_quiet n (named p) (map (type_at p) ks) ≡ interfaces_quiet n p (places_of p ks)

  abbrev at_place : ℕ → ℕ → Bool
  at_place n c = not (is_some (initialiser_place p c)) && interfaces_quiet n p (interface_places p c)

  abbrev quiet_place : ℕ → Option ℕ → Bool
  quiet_place n None = true
  quiet_place n (Some c) = at_place n c

  abbrev quiet_class : ℕ → Bool → Option NamedClass → Bool
  quiet_class n b None = true
  quiet_class n b (Some c) = not b && name.interfaces_quiet n (named p) c.interfaces

  class_is : (n : ℕ) (b : Bool) (o : Option NamedClass) → elim o as (λ o. Bool) [ Some c ↦ not b && name.interfaces_quiet n (named p) c.interfaces | None ↦ true ] ≡ quiet_class n b o
  class_is n b None = refl
  class_is n b (Some c) = refl

  nothing_quiet : (n : ℕ) → interfaces_quiet n p [] ≡ true
  nothing_quiet zero = refl
  nothing_quiet (suc n) = refl

  by_class : (n : ℕ) → Quiet n → (c : ℕ) (o : Option Class) → slice_get p.classes c ≡ o → quiet_class n (is_some (initialiser_of p o)) (option_map (named_class p) o) ≡ (not (is_some (initialiser_of p o)) && interfaces_quiet n p (listed p o))
  by_class n more c None e = sym (nothing_quiet n)
  by_class n more c (Some k) e = ap (λ b. not (is_some (initialiser_of p (Some k))) && b) (more k.interfaces (class_parts p s c k e).interfaces)

  by_place : (n : ℕ) → Quiet n → (o : Option ℕ) → quiet_class n (starts o) (option_and_then (class_at p) o) ≡ quiet_place n o
  by_place n more None = refl
  by_place n more (Some c) = by_class n more c (slice_get p.classes c) refl

  by_types : (n : ℕ) → Quiet n → (ks : List ℕ) → list_all (has_type p) ks ≡ true
      → list_all (λ t. elim (class_named (named p) t) as (λ o. Bool) [ Some c ↦ not (has_initialiser (named p) t) && name.interfaces_quiet n (named p) c.interfaces | None ↦ true ]) (map (type_at p) ks) ≡ list_all (at_place n) (places_of p ks)
  by_types n more [] h = refl
  by_types n more (k ∷ ks) h =
      let hk = below k (length p.types) (and_left (has_type p k) (list_all (has_type p) ks) h) in
      let rest = list_all (λ t. elim (class_named (named p) t) as (λ o. Bool) [ Some c ↦ not (has_initialiser (named p) t) && name.interfaces_quiet n (named p) c.interfaces | None ↦ true ]) (map (type_at p) ks) in
      ap (λ b. b && rest) (class_is n (has_initialiser (named p) (type_at p k)) (class_named (named p) (type_at p k)) ∙ ap (λ b. quiet_class n b (class_named (named p) (type_at p k))) (has_initialiser_by_number k hk)
      ∙ ap (quiet_class n (starts (class_place p k))) (class_by_number p s k hk) ∙ by_place n more (class_place p k))
      ∙ ap (λ b. quiet_place n (class_place p k) && b) (by_types n more ks (and_right (has_type p k) (list_all (has_type p) ks) h))
      ∙ joined (class_place p k)
    where
      joined : (o : Option ℕ) → (quiet_place n o && list_all (at_place n) (places_of p ks)) ≡ list_all (at_place n) (placed o (places_of p ks))
      joined None = refl
      joined (Some c) = refl

  quiet_steps : (n : ℕ) → Quiet n
  quiet_steps zero ks h = refl
  quiet_steps (suc n) ks h = by_types n (quiet_steps n) ks h

  module _ (once : (class : ℕ) → IsTwice p class → ⊥) where
    abbrev named_quiet : List NamedClass → Bool
    named_quiet cs = list_all (λ c. not (has_initialiser (named p) c.name) && name.interfaces_quiet (length (named p).classes) (named p) c.interfaces) cs

    along : (cs : List ℕ) → list_all (λ c. not (has_initialiser (named p) c.name) && name.interfaces_quiet (length (named p).classes) (named p) c.interfaces) (classes_at p cs)
        ≡ list_all (at_place (length p.classes)) cs
    along [] = refl
    along (c ∷ cs) = step (slice_get p.classes c) refl (along cs)
      where
        step : (o : Option Class) → slice_get p.classes c ≡ o → named_quiet (classes_at p cs) ≡ list_all (at_place (length p.classes)) cs
            → list_all (λ c. not (has_initialiser (named p) c.name) && name.interfaces_quiet (length (named p).classes) (named p) c.interfaces) (with_class p o (classes_at p cs))
            ≡ ((not (is_some (initialiser_of p (slice_get p.classes c))) && interfaces_quiet (length p.classes) p (listed p (slice_get p.classes c))) && list_all (at_place (length p.classes)) cs)
        step None e r = r ∙ sym (ap (λ o. (not (is_some (initialiser_of p o)) && interfaces_quiet (length p.classes) p (listed p o)) && list_all (at_place (length p.classes)) cs) e
            ∙ ap (λ b. b && list_all (at_place (length p.classes)) cs) (nothing_quiet (length p.classes)))
        step (Some k) e r =
            ap (λ b. (not b && name.interfaces_quiet (length (named p).classes) (named p) (map (type_at p) k.interfaces)) && named_quiet (classes_at p cs))
            (has_initialiser_by_number k.name (class_parts p s c k e).name ∙ ap starts (own_place p once c k e))
            ∙ ap (λ n. (not (is_some (initialiser_place p c)) && name.interfaces_quiet n (named p) (map (type_at p) k.interfaces)) && named_quiet (classes_at p cs)) (length_map (named_class p) p.classes)
            ∙ ap (λ b. (not (is_some (initialiser_place p c)) && b) && named_quiet (classes_at p cs)) (quiet_steps (length p.classes) k.interfaces (class_parts p s c k e).interfaces)
            ∙ ap (λ b. (not (is_some (initialiser_place p c)) && interfaces_quiet (length p.classes) p (places_of p k.interfaces)) && b) r
            ∙ sym (ap (λ o. (not (is_some (initialiser_place p c)) && interfaces_quiet (length p.classes) p (listed p o)) && list_all (at_place (length p.classes)) cs) e)

    -- whether initialising the class of a type runs nothing
    pub trivial_by_number : (t c : ℕ) → t < length p.types → class_place p t ≡ Some c → name.is_trivial (named p) (type_at p t) ≡ is_trivial p c
    trivial_by_number t c ht e =
        ap (list_all (λ c. not (has_initialiser (named p) c.name) && name.interfaces_quiet (length (named p).classes) (named p) c.interfaces)) (chain_by_number p s t ht ∙ ap (λ o. classes_at p (chain_of p o)) e)
        ∙ along (chain_of p (Some c))
