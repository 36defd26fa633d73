-- What is found where the loose methods are static: an old name finds what it found, where that isn't loose, and a static
-- call finds a loose method by its new name.
use Rattle.std.proofs.Common.{◌≡◌, ℕ, zero, suc, Bool, true, false, List, [], ◌∷◌, ◌++◌, length, refl, sym, ap, ◌∙◌}
use std.Path.{fun_ext}
use Rattle.std.specs.Prelude.{◌&&◌, not, Option, Some, None, map, filter, flat_map, is_some}
use Rattle.std.specs.List.{list_any}
use Rattle.std.specs.Option.{option_map, option_or}
use Rattle.dalvik_defs.specs.Names.{Text, text_eq, same_name, is_common}
use Rattle.dalvik_defs.specs.Flags.{is_interface}
use Rattle.dalvik_defs.specs.Under.{class_named, is_own_under}
use Rattle.dalvik_defs.specs.Find.{Found, found_in, Search, Nothing, Clash, Finds, method_in, chain_from, chain_of, passing, first_method, search_of, finds_statically, is_virtual_method, own_candidate, interface_named, candidates_from, without_repeats, is_037, candidates, lowest, verdict, finds_among, finds_at, lists_interface, superclass_of, finds_above, finds_super_037, finds_super}
use Rattle.dalvik_defs.specs.Silence.{key_in}
use Rattle.dalvik_defs.specs.declared.names.Signature.{Signature}
use Rattle.dalvik_defs.specs.declared.names.MethodKey.{MethodKey}
use Rattle.dalvik_defs.specs.declared.program.NamedBody.{NamedBody}
use Rattle.dalvik_defs.specs.declared.program.NamedMethod.{NamedMethod}
use Rattle.dalvik_defs.specs.declared.program.NamedClass.{NamedClass}
use Rattle.dalvik_defs.specs.declared.program.NamedProgram.{NamedProgram}
use Rattle.pass_defs.specs.Loose.{new_signature, new_key, loosened, static_body, static_class, staticised}
use Rattle.removal_law.proofs.Lists.{clash, found_in as found_passes}
use Rattle.removal_law.proofs.Members.{key_sound}
use Rattle.program_laws.proofs.ChangedLists.{any_map, flat_same}
use Rattle.static_law.specs.Static.{IsOld, Fresh, key, made_static}
use Rattle.program_laws.proofs.Heads.{class_case}
use Rattle.program_laws.proofs.Remade.{class_same, at_class, count, chain_same, under_same, interface_same}
use Rattle.static_law.proofs.Methods.{unless, recalled, method_left, method_moved}

is_some_none : {A : Type 0} (x : A) {B : Type 0} → None ≡ Some x → B
is_some_none x e = clash false (ap is_some e) refl

some_is : {A : Type 0} (z x y : A) → Some x ≡ Some y → x ≡ y
some_is z x y e = ap (λ o. elim o [ Some v ↦ v | None ↦ z ]) e

finds_is : (z x y : Found) → Finds x ≡ Finds y → x ≡ y
finds_is z x y e = ap (λ s. elim s as (λ s. Found) [ Nothing ↦ z | Clash ↦ z | Finds f ↦ f ]) e

-- a method that a search finds has the name that was asked for
pub method_key : (c : NamedClass) (n : Text) (g : Signature) (m : NamedMethod) → method_in c n g ≡ Some m → key_in c m ≡ key c.name n g
method_key c n g m e = key_sound c m n g ((found_passes (λ m. same_name m.name m.signature n g) c.methods m e).passes)

pub passed_key : (test : NamedMethod → Bool) (c : NamedClass) (n : Text) (g : Signature) (o : Option NamedMethod) → method_in c n g ≡ o → (f : Found) → passing test c o ≡ Some f → f.key ≡ key c.name n g
passed_key test c n g None e f i = is_some_none f i
passed_key test c n g (Some m) e f i = by (test m) i
  where
    by : (b : Bool) → elim b as (λ b. Option Found) [ true ↦ Some (found_in c m) | false ↦ None ] ≡ Some f → f.key ≡ key c.name n g
    by true i = ap (λ x. x.key) (sym (some_is f (found_in c m) f i)) ∙ method_key c n g m e
    by false i = is_some_none f i

module _ (p : NamedProgram) (loose : MethodKey → Bool) where
  abbrev new : NamedClass → List NamedMethod
  new = made_static p loose

  abbrev other : NamedClass → NamedClass
  other = static_class p loose

  abbrev pub q : NamedProgram
  q = staticised p loose

  -- a test that doesn't look at bodies
  abbrev pub Blind : (NamedMethod → Bool) → Type 0
  Blind test = (m : NamedMethod) → test (recalled p loose m) ≡ test m

  pub some_mapped : (o : Option NamedBody) → is_some (option_map (static_body p loose) o) ≡ is_some o
  some_mapped None = refl
  some_mapped (Some b) = refl

  pub found_same : (c : NamedClass) (m : NamedMethod) → found_in (other c) (recalled p loose m) ≡ found_in c m
  found_same c m = ap (λ b. record (found_in c m) { coded = b }) (some_mapped m.body)

  passing_same : (test : NamedMethod → Bool) → Blind test → (c : NamedClass) (o : Option NamedMethod) → passing test (other c) (option_map (recalled p loose) o) ≡ passing test c o
  passing_same test h c None = refl
  passing_same test h c (Some m) =
      ap (λ b. elim b as (λ b. Option Found) [ true ↦ Some (found_in (other c) (recalled p loose m)) | false ↦ None ]) (h m)
      ∙ ap (λ f. elim (test m) as (λ b. Option Found) [ true ↦ Some f | false ↦ None ]) (found_same c m)

  module _ (test : NamedMethod → Bool) (blind : Blind test) (n : Text) (g : Signature) (old : IsOld loose n g) where
    abbrev is_loose : NamedClass → Bool
    is_loose c = loose (key c.name n g)

    -- in a class whose method isn't loose
    pub passing_left : (c : NamedClass) → is_loose c ≡ false → passing test (other c) (method_in (other c) n g) ≡ passing test c (method_in c n g)
    passing_left c l = ap (passing test (other c)) (method_left p loose c n g (λ k i j. old k j) ∙ ap (λ b. unless b (option_map (recalled p loose) (method_in c n g))) l) ∙ passing_same test blind c (method_in c n g)

    pub passing_gone : (c : NamedClass) → is_loose c ≡ true → passing test (other c) (method_in (other c) n g) ≡ None
    passing_gone c l = ap (passing test (other c)) (method_left p loose c n g (λ k i j. old k j) ∙ ap (λ b. unless b (option_map (recalled p loose) (method_in c n g))) l)

    -- along some classes, where what is found isn't loose
    pub first_left : (cs : List NamedClass) → ((f : Found) → first_method test n g cs ≡ Some f → loose f.key ≡ false) → first_method test n g (map other cs) ≡ first_method test n g cs
    first_left [] h = refl
    first_left (c ∷ cs) h = by (is_loose c) (passing test c (method_in c n g)) refl refl (first_left cs)
      where
        by : (l : Bool) (o : Option Found) → is_loose c ≡ l → passing test c (method_in c n g) ≡ o
            → (((f : Found) → first_method test n g cs ≡ Some f → loose f.key ≡ false) → first_method test n g (map other cs) ≡ first_method test n g cs)
            → option_or (passing test (other c) (method_in (other c) n g)) (first_method test n g (map other cs)) ≡ option_or (passing test c (method_in c n g)) (first_method test n g cs)
        by false (Some f) l e r =
            ap (λ o. option_or o (first_method test n g (map other cs))) (passing_left c l ∙ e) ∙ sym (ap (λ o. option_or o (first_method test n g cs)) e)
        by false None l e r =
            ap (λ o. option_or o (first_method test n g (map other cs))) (passing_left c l ∙ e)
            ∙ r (λ f i. h f (ap (λ o. option_or o (first_method test n g cs)) e ∙ i))
            ∙ sym (ap (λ o. option_or o (first_method test n g cs)) e)
        by true (Some f) l e r = clash (loose f.key) (ap loose (passed_key test c n g (method_in c n g) refl f e) ∙ l) (h f (ap (λ o. option_or o (first_method test n g cs)) e))
        by true None l e r =
            ap (λ o. option_or o (first_method test n g (map other cs))) (passing_gone c l)
            ∙ r (λ f i. h f (ap (λ o. option_or o (first_method test n g cs)) e ∙ i))
            ∙ sym (ap (λ o. option_or o (first_method test n g cs)) e)

    pub chain_left : (t : Text) → ((f : Found) → first_method test n g (chain_of p t) ≡ Some f → loose f.key ≡ false) → first_method test n g (chain_of q t) ≡ first_method test n g (chain_of p t)
    chain_left t h = ap (first_method test n g) (chain_same new p t) ∙ first_left (chain_of p t) h

  pub virtual_blind : Blind is_virtual_method
  virtual_blind m = refl

  any_blind : Blind (λ m. true)
  any_blind m = refl

  -- ---- static and direct calls

  searched_first : (o : Option Found) (h : (f : Found) → search_of o ≡ Finds f → loose f.key ≡ false) → (f : Found) → o ≡ Some f → loose f.key ≡ false
  searched_first o h f e = h f (ap search_of e)

  pub statically_left : (k : MethodKey) → IsOld loose k.name k.signature → ((f : Found) → finds_statically p k ≡ Finds f → loose f.key ≡ false) → finds_statically q k ≡ finds_statically p k
  statically_left k old h = ap search_of (chain_left (λ m. true) any_blind k.name k.signature old k.class (searched_first (first_method (λ m. true) k.name k.signature (chain_of p k.class)) h))

  -- ---- the candidates of interfaces: no method of an interface is loose

  module _ (inner : (t : Text) (c : NamedClass) → interface_named p t ≡ Some c → (n : Text) (g : Signature) → loose (key c.name n g) ≡ false) (n : Text) (g : Signature) (old : IsOld loose n g) where
    candidate_left : (c : NamedClass) → loose (key c.name n g) ≡ false → own_candidate n g (other c) ≡ own_candidate n g c
    candidate_left c l = ap (λ o. elim o as (λ o. List Found) [ Some f ↦ f ∷ [] | None ↦ [] ]) (passing_left is_virtual_method virtual_blind n g old c l)

    abbrev candidate_case : (List Text → List Found) → NamedClass → List Found
    candidate_case next c = own_candidate n g c ++ next c.interfaces

    candidates_from_left : (k : ℕ) → candidates_from k q n g ≡ candidates_from k p n g
    candidates_from_left zero = refl
    candidates_from_left (suc k) = fun_ext (λ ts.
        ap (λ f. flat_map f ts) (fun_ext (λ t. ap (class_case (candidate_case (candidates_from k q n g)) []) (interface_same new p t) ∙ by t (interface_named p t) refl (candidates_from k q n g)))
        ∙ ap (λ next. flat_map (λ t. class_case (candidate_case next) [] (interface_named p t)) ts) (candidates_from_left k))
      where
        by : (t : Text) (o : Option NamedClass) → interface_named p t ≡ o → (next : List Text → List Found) → class_case (candidate_case next) [] (option_map other o) ≡ class_case (candidate_case next) [] o
        by t None e next = refl
        by t (Some c) e next = ap (λ fs. fs ++ next c.interfaces) (candidate_left c (inner t c e n g))

    candidates_left : (ts : List Text) → candidates q ts n g ≡ candidates p ts n g
    candidates_left ts = ap (λ fs. elim (is_037 p.version && not (is_common n g)) as (λ b. List Found) [ true ↦ without_repeats fs | false ↦ [] ])
        (ap (λ k. candidates_from k q n g ts) (count new p) ∙ ap (λ f. f ts) (candidates_from_left (length p.classes)))

    lowest_left : (fs : List Found) → lowest q fs ≡ lowest p fs
    lowest_left fs = ap (λ under. filter (λ f. f.coded && not (list_any (λ g. not (text_eq g.key.class f.key.class) && under g.key.class f.key.class) fs)) fs) (under_same new p)

    pub among_left : (ts : List Text) → finds_among q ts n g ≡ finds_among p ts n g
    among_left ts = ap verdict (ap (lowest q) (candidates_left ts) ∙ lowest_left (candidates p ts n g))

  -- ---- virtual and interface calls

  module _ (inner : (t : Text) (c : NamedClass) → interface_named p t ≡ Some c → (n : Text) (g : Signature) → loose (key c.name n g) ≡ false) where
    abbrev at_case : NamedProgram → Text → MethodKey → Option Found → Search
    at_case r t k o = elim o as (λ o. Search) [ Some f ↦ Finds f | None ↦ finds_among r (flat_map (λ c. c.interfaces) (chain_of r t)) k.name k.signature ]

    pub virtually_left : (t : Text) (k : MethodKey) → IsOld loose k.name k.signature → ((f : Found) → finds_at p t k ≡ Finds f → loose f.key ≡ false) → finds_at q t k ≡ finds_at p t k
    virtually_left t k old h =
        ap (at_case q t k) (chain_left is_virtual_method virtual_blind k.name k.signature old t (λ f e. h f (ap (at_case p t k) e)))
        ∙ ap (λ x. elim (first_method is_virtual_method k.name k.signature (chain_of p t)) as (λ o. Search) [ Some f ↦ Finds f | None ↦ x ])
        (ap (λ cs. finds_among q (flat_map (λ c. c.interfaces) cs) k.name k.signature) (chain_same new p t)
        ∙ ap (λ ts. finds_among q ts k.name k.signature) (flat_same (λ c. c.interfaces) other (λ c. refl) (chain_of p t))
        ∙ among_left inner k.name k.signature old (flat_map (λ c. c.interfaces) (chain_of p t)))

    -- ---- super calls

    lists_same : (class t : Text) → lists_interface q class t ≡ lists_interface p class t
    lists_same class t =
        any_map (λ c. is_own_under q class c.name && list_any (text_eq t) c.interfaces) other p.classes
        ∙ ap (λ under. list_any (λ c. under class c.name && list_any (text_eq t) c.interfaces) p.classes) (under_same new p)

    above_left : (class : Text) (k : MethodKey) → IsOld loose k.name k.signature → ((f : Found) → finds_above p class k ≡ Finds f → loose f.key ≡ false) → finds_above q class k ≡ finds_above p class k
    above_left class k old h = ap search_of
        (ap (λ t. first_method (λ m. true) k.name k.signature (chain_of q t)) (at_class new p (λ c. c.superclass) (λ c. c.superclass) [] (λ c. refl) class)
        ∙ chain_left (λ m. true) any_blind k.name k.signature old (superclass_of p class) (searched_first (first_method (λ m. true) k.name k.signature (chain_of p (superclass_of p class))) h))

    abbrev choice : Bool → Search → Search → Search
    choice b x y = elim b as (λ b. Search) [ true ↦ x | false ↦ y ]

    chosen : (b : Bool) (x y x' y' : Search) → x' ≡ x → (((f : Found) → y ≡ Finds f → loose f.key ≡ false) → y' ≡ y) → ((f : Found) → choice b x y ≡ Finds f → loose f.key ≡ false) → choice b x' y' ≡ choice b x y
    chosen true x y x' y' d e h = d
    chosen false x y x' y' d e h = e h

    super_037 : (class : Text) (k : MethodKey) → IsOld loose k.name k.signature → (o : Option NamedClass) → ((f : Found) → finds_super_037 p class k o ≡ Finds f → loose f.key ≡ false)
        → finds_super_037 q class k (option_map other o) ≡ finds_super_037 p class k o
    super_037 class k old (Some c) h = chosen (is_interface c.flags) _ _ _ _ (among_left inner k.name k.signature old (c.name ∷ [])) (above_left class k old) h
    super_037 class k old None h = ap (λ b. choice b Nothing (finds_above q class k)) (lists_same class k.class) ∙ chosen (lists_interface p class k.class) _ _ _ _ refl (above_left class k old) h

    pub super_left : (class : Text) (k : MethodKey) → IsOld loose k.name k.signature → ((f : Found) → finds_super p class k ≡ Finds f → loose f.key ≡ false) → finds_super q class k ≡ finds_super p class k
    super_left class k old h = by (is_037 p.version) h
      where
        by : (b : Bool) → ((f : Found) → choice b (finds_super_037 p class k (class_named p k.class)) (finds_above p class k) ≡ Finds f → loose f.key ≡ false)
            → choice b (finds_super_037 q class k (class_named q k.class)) (finds_above q class k) ≡ choice b (finds_super_037 p class k (class_named p k.class)) (finds_above p class k)
        by true h = ap (finds_super_037 q class k) (class_same new p k.class) ∙ super_037 class k old (class_named p k.class) h
        by false h = above_left class k old h

  -- ---- a loose method by its new name

  module _ (k : MethodKey) (l : loose k ≡ true) (c : NamedClass) (stands : class_named p k.class ≡ Some c) (named : c.name ≡ k.class) (fresh : Fresh k c.methods) where
    -- the chain of a class that is there begins with it
    chain_begins : (r : NamedProgram) (d : NamedClass) (n : ℕ) → class_named r k.class ≡ Some d → (x : Found) → passing (λ m. true) d (method_in d k.name (new_signature k)) ≡ Some x
        → first_method (λ m. true) k.name (new_signature k) (chain_from (suc n) r k.class) ≡ Some x
    chain_begins r d n e x i =
        ap (λ o. first_method (λ m. true) k.name (new_signature k) (elim o as (λ o. List NamedClass) [ Some c ↦ c ∷ chain_from n r c.superclass | None ↦ [] ])) e
        ∙ ap (λ o. option_or o (first_method (λ m. true) k.name (new_signature k) (chain_from n r d.superclass))) i

    abbrev pub new_found : NamedMethod → Found
    new_found m = found_in (other c) (loosened k (recalled p loose m))

    pub statically_moved : (m : NamedMethod) → method_in c k.name k.signature ≡ Some m → (n : ℕ) → length p.classes ≡ suc n → finds_statically q (new_key k) ≡ Finds (new_found m)
    statically_moved m e n z = ap search_of
        (ap (λ x. first_method (λ m. true) k.name (new_signature k) (chain_from x q k.class)) (count new p ∙ z)
        ∙ chain_begins q (other c) n (class_same new p k.class ∙ ap (option_map other) stands) (new_found m)
        (ap (passing (λ m. true) (other c)) (method_moved p loose c k named l fresh ∙ ap (option_map (λ m. loosened k (recalled p loose m))) e)))
