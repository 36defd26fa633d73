-- What an object of a class answers to: a virtual method of a class of the program, of the name and signature.
use Rattle.std.proofs.Common.{◌≡◌, ℕ, zero, suc, Bool, true, false, List, [], ◌∷◌, ◌++◌, length, refl, sym, ap, ◌∙◌, subst, inl, inr}
use Rattle.std.specs.Prelude.{◌⊎◌, ◌&&◌, not, Option, Some, None, flat_map}
use Rattle.lemmas.proofs.Options.{none_some}
use Rattle.dalvik_defs.specs.Names.{Text, same_name, is_common}
use Rattle.dalvik_defs.specs.Flags.{is_interface}
use Rattle.dalvik_defs.specs.Under.{class_named}
use Rattle.dalvik_defs.specs.Find.{Found, found_in as found_of, method_in, chain_of, passing, is_virtual_method, own_candidate, interface_named, candidates_from, without_repeats, is_037, candidates}
use Rattle.dalvik_defs.specs.declared.names.Signature.{Signature}
use Rattle.dalvik_defs.specs.declared.program.NamedMethod.{NamedMethod}
use Rattle.dalvik_defs.specs.declared.program.NamedClass.{NamedClass}
use Rattle.dalvik_defs.specs.declared.program.NamedProgram.{NamedProgram}
use Rattle.pass_defs.specs.Live.{Family, KeepsAbove, answers_to}
use Rattle.pass_defs.specs.Calls.{inherits, candidates_of}
use Rattle.removal_law.specs.Reach.{IsRegular}
use Rattle.removal_law.proofs.Lists.{In, here, there, in_either, found_in}
use Rattle.removal_law.proofs.Members.{key}
use Rattle.removal_law.proofs.Trees.{class_name, chain_named}
use Rattle.removal_law.proofs.Finds.{out_of_flat, Where, first_where, where_key, passed, interface_class, repeats_in}

-- a virtual method of a class
pub record IsMethodOf (p : NamedProgram) (n : Text) (g : Signature) (f : Found) : Type 0 where
  pub class : NamedClass
  pub method : NamedMethod
  pub named : class_named p class.name ≡ Some class
  pub stands : In method class.methods
  pub virtual : is_virtual_method method ≡ true
  pub is : found_of class method ≡ f
  pub key_is : f.key ≡ key class.name n g

module _ (p : NamedProgram) (s : Family) (above : KeepsAbove p s) (regular : IsRegular p) (n : Text) (g : Signature) where
  pub where_method : (cs : List NamedClass) (f : Found) (w : Where is_virtual_method n g cs f) → class_named p w.class.name ≡ Some w.class → IsMethodOf p n g f
  where_method cs f w e = record {
    class = w.class;
    method = w.method;
    named = e;
    stands = (found_in (λ m. same_name m.name m.signature n g) w.class.methods w.method w.found).is_in;
    virtual = w.passes;
    is = w.is;
    key_is = where_key s is_virtual_method n g cs f w;
  }

  pub inherited : (t : Text) (f : Found) → inherits p t n g ≡ Some f → IsMethodOf p n g f
  inherited t f e = let w = first_where is_virtual_method n g (chain_of p t) f e in where_method (chain_of p t) f w (chain_named p s above (length p.classes) t w.class w.stands)

  pub same_class : (c d : NamedClass) → In d (c ∷ []) → d ≡ c
  same_class c d (here ys) = refl
  same_class c d (there y ys i) = elim i [ ]

  own : (t : Text) (c : NamedClass) → class_named p t ≡ Some c → (f : Found) → In f (own_candidate n g c) → IsMethodOf p n g f
  own t c e f i = by (passing is_virtual_method c (method_in c n g)) refl i
    where
      named : (d : NamedClass) → d ≡ c → class_named p d.name ≡ Some d
      named d j = ap (λ x. class_named p x.name) j ∙ ap (class_named p) (class_name p t c e) ∙ e ∙ ap Some (sym j)

      at : (x : Found) → passing is_virtual_method c (method_in c n g) ≡ Some x → In f (x ∷ []) → IsMethodOf p n g f
      at x j (here ys) = let w = passed is_virtual_method n g c (method_in c n g) f refl j [] in where_method (c ∷ []) f w (named w.class (same_class c w.class w.stands))
      at x j (there y ys k) = elim k [ ]

      by : (o : Option Found) → passing is_virtual_method c (method_in c n g) ≡ o → In f (elim o as (λ o. List Found) [ Some x ↦ x ∷ [] | None ↦ [] ]) → IsMethodOf p n g f
      by None j k = elim k [ ]
      by (Some x) j k = at x j k

  abbrev step_of : ℕ → Option NamedClass → List Found
  step_of k o = elim o as (λ o. List Found) [ Some c ↦ own_candidate n g c ++ candidates_from k p n g c.interfaces | None ↦ [] ]

  -- what holds of the own candidates of the interfaces holds of all
  module _ (P : Found → Type 0) (each : (t : Text) (c : NamedClass) → interface_named p t ≡ Some c → (f : Found) → In f (own_candidate n g c) → P f) where
    each_from : (i : ℕ) (ts : List Text) (f : Found) → In f (candidates_from i p n g ts) → P f
    each_from zero ts f k = elim k [ ]
    each_from (suc i) ts f k = by (interface_named p w.0) refl w.1.1 (λ us a. each_from i us f a)
      where
        w : (t : Text) × (In t ts × In f (step_of i (interface_named p t)))
        w = out_of_flat (λ t. step_of i (interface_named p t)) f ts k

        by : (o : Option NamedClass) → interface_named p w.0 ≡ o → In f (step_of i o) → ((us : List Text) → In f (candidates_from i p n g us) → P f) → P f
        by None e a ih = elim a [ ]
        by (Some c) e a ih = either (in_either f (own_candidate n g c) (candidates_from i p n g c.interfaces) a)
          where
            either : In f (own_candidate n g c) ⊎ In f (candidates_from i p n g c.interfaces) → P f
            either (inl b) = each w.0 c e f b
            either (inr b) = ih c.interfaces b

    pub each_candidate : (ts : List Text) (f : Found) → In f (candidates p ts n g) → P f
    each_candidate ts f i = by (is_037 p.version && not (is_common n g)) i
      where
        by : (b : Bool) → In f (elim b as (λ b. List Found) [ true ↦ without_repeats (candidates_from (length p.classes) p n g ts) | false ↦ [] ]) → P f
        by true j = each_from (length p.classes) ts f (repeats_in p s above regular n g (candidates_from (length p.classes) p n g ts) f j)
        by false j = elim j [ ]

  pub candidate : (ts : List Text) (f : Found) → In f (candidates p ts n g) → IsMethodOf p n g f
  candidate = each_candidate (IsMethodOf p n g) (λ t c e f i. own t c (interface_class p s above regular t c e) f i)

  abbrev answers_of : Text → Option Found → List Found
  answers_of t o = elim o as (λ o. List Found) [ Some f ↦ f ∷ [] | None ↦ candidates_of p t n g ]

  pub answer : (t : Text) (f : Found) → In f (answers_to p t n g) → IsMethodOf p n g f
  answer t f i = by (inherits p t n g) refl i
    where
      at : (x : Found) → inherits p t n g ≡ Some x → In f (x ∷ []) → IsMethodOf p n g f
      at x e (here ys) = inherited t f e
      at x e (there y ys j) = elim j [ ]

      by : (o : Option Found) → inherits p t n g ≡ o → In f (answers_of t o) → IsMethodOf p n g f
      by (Some x) e j = at x e j
      by None e j = candidate (flat_map (λ c. c.interfaces) (chain_of p t)) f j

  -- a candidate is of an interface, in version 037
  pub record IsInterfaceOf (f : Found) : Type 0 where
    pub class : NamedClass
    pub named : class_named p f.key.class ≡ Some class
    pub is_interface : is_interface class.flags ≡ true

  abbrev only_interface : NamedClass → Bool → Option NamedClass
  only_interface c b = elim b as (λ b. Option NamedClass) [ true ↦ Some c | false ↦ None ]

  interface_flag : (t : Text) (c : NamedClass) → interface_named p t ≡ Some c → is_interface c.flags ≡ true
  interface_flag t c e = by (class_named p t) e
    where
      at : (d : NamedClass) (b : Bool) → is_interface d.flags ≡ b → only_interface d b ≡ Some c → is_interface c.flags ≡ true
      at d true i j = subst (λ x. is_interface x.flags ≡ true) (ap (λ o. elim o as (λ o. NamedClass) [ Some x ↦ x | None ↦ d ]) j) i
      at d false i j = none_some c j

      by : (o : Option NamedClass) → (elim o as (λ o. Option NamedClass) [ Some d ↦ only_interface d (is_interface d.flags) | None ↦ None ]) ≡ Some c → is_interface c.flags ≡ true
      by None i = none_some c i
      by (Some d) i = at d (is_interface d.flags) refl i

  pub candidate_interface : (ts : List Text) (f : Found) → In f (candidates p ts n g) → IsInterfaceOf f
  candidate_interface = each_candidate IsInterfaceOf (λ t c e f i. let m = own t c (interface_class p s above regular t c e) f i in of_own t c e f i)
    where
      of_own : (t : Text) (c : NamedClass) → interface_named p t ≡ Some c → (f : Found) → In f (own_candidate n g c) → IsInterfaceOf f
      of_own t c e f i = by (passing is_virtual_method c (method_in c n g)) refl i
        where
          d : class_named p c.name ≡ Some c
          d = let j = interface_class p s above regular t c e in ap (class_named p) (class_name p t c j) ∙ j

          at : (x : Found) → passing is_virtual_method c (method_in c n g) ≡ Some x → In f (x ∷ []) → IsInterfaceOf f
          at x j (here ys) = let w = passed is_virtual_method n g c (method_in c n g) f refl j [] in record {
            class = c;
            named = ap (class_named p) (ap (λ k. k.class) (where_key s is_virtual_method n g (c ∷ []) f w) ∙ ap (λ y. y.name) (same_class c w.class w.stands)) ∙ d;
            is_interface = interface_flag t c e;
          }
          at x j (there y ys k) = elim k [ ]

          by : (o : Option Found) → passing is_virtual_method c (method_in c n g) ≡ o → In f (elim o as (λ o. List Found) [ Some x ↦ x ∷ [] | None ↦ [] ]) → IsInterfaceOf f
          by None j k = elim k [ ]
          by (Some x) j k = at x j k

  pub candidate_version : (ts : List Text) (f : Found) → In f (candidates p ts n g) → is_037 p.version ≡ true
  candidate_version ts f i = by (is_037 p.version) (not (is_common n g)) refl i
    where
      by : (b d : Bool) → is_037 p.version ≡ b → In f (elim (b && d) as (λ b. List Found) [ true ↦ without_repeats (candidates_from (length p.classes) p n g ts) | false ↦ [] ]) → is_037 p.version ≡ true
      by true d e j = e
      by false d e j = elim j [ ]
