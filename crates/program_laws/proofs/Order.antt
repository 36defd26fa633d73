-- Programs whose classes have the same methods in another order show the same.
use Rattle.std.proofs.Common.{◌≡◌, ℕ, zero, suc, Bool, true, false, List, [], ◌∷◌, ◌++◌, length, refl, sym, ap, ◌∙◌, subst}
use std.Path.{fun_ext}
use Rattle.std.specs.Prelude.{◌&&◌, not, Option, Some, None, map, filter, find, flat_map, is_some}
use Rattle.std.specs.List.{list_any, list_all}
use Rattle.std.specs.Option.{option_map, option_or, option_and_then}
use Rattle.dalvik_defs.specs.Names.{Text, text_eq, same_name, signature_eq, proto_text, is_common, initialiser_name, void}
use Rattle.dalvik_defs.specs.Flags.{is_interface}
use Rattle.dalvik_defs.specs.Under.{class_named, defines, is_under, is_own_under}
use Rattle.dalvik_defs.specs.Find.{Found, found_in, Search, Nothing, Finds, method_in, chain_of, passing, first_method, search_of, finds_statically, is_virtual_method, own_candidate, interface_named, candidates_from, without_repeats, is_037, candidates, lowest, verdict, finds_among, finds_at, lists_interface, superclass_of, finds_above, finds_super_037, finds_super}
use Rattle.dalvik_defs.specs.Initialised.{is_initialiser, initialiser_key, initialiser_in, initialiser_of, has_default, only_if, interfaces_before, firsts, interfaces_first, first_of_class, initialised_first, has_initialiser, interfaces_quiet, is_trivial}
use Rattle.dalvik_defs.specs.Face.{place_of, declared_in, finds_virtually, face_of, bodies_of}
use Rattle.dalvik_defs.specs.Outer.{Outer}
use Rattle.dalvik_defs.specs.Shown.{SameShown}
use Rattle.dalvik_defs.specs.declared.names.Signature.{Signature}
use Rattle.dalvik_defs.specs.declared.names.MethodKey.{MethodKey}
use Rattle.dalvik_defs.specs.declared.program.NamedMethod.{NamedMethod}
use Rattle.dalvik_defs.specs.declared.program.NamedClass.{NamedClass}
use Rattle.dalvik_defs.specs.declared.program.NamedProgram.{NamedProgram}
use Rattle.dalvik_defs.specs.declared.tables.Framework.{Framework}
use Rattle.dalvik_defs.proofs.LookUps.{same_by_look_ups}
use Rattle.pass_defs.specs.Live.{everything, KeepsAbove}
use Rattle.removal_law.specs.Left.{In, here, there}
use Rattle.removal_law.specs.Reach.{TellsApart}
use Rattle.removal_law.proofs.Lists.{clash, and_left, and_behind, found_in as found_passes}
use Rattle.removal_law.proofs.Members.{signature_sound}
use Rattle.removal_law.proofs.Outward.{any_here, any_where}
use Rattle.dalvik_defs.proofs.Calm.{text_sound}
use Rattle.program_laws.proofs.Founds.{is_found as is_there}
use Rattle.removal_law.proofs.Trees.{chain_named}
use Rattle.program_laws.proofs.ChangedLists.{any_map, all_map, flat_same}
use Rattle.program_laws.specs.Remade.{Remethod, class_remade, remade, AnswersAlike, SameMethods}
use Rattle.program_laws.proofs.Heads.{class_case}
use Rattle.program_laws.proofs.Remade.{class_same, at_class, count, chain_same, under_same, interface_same, some_same, field_same, flags_same, defines_same, framed_same, outward_same, own_field_same}

module _ (new : Remethod) (p : NamedProgram) (alike : AnswersAlike new p) where
  abbrev other : NamedClass → NamedClass
  other = class_remade new

  abbrev q : NamedProgram
  q = remade new p

  pub kept : KeepsAbove p everything
  kept = record { above = λ t c e s u i d. refl; initialisers = λ t k s e. refl; defaults = λ t c m v e s i j k b. refl }

  at_named : {X : Type 0} (f g : NamedClass → X) (z : X) (t : Text) → ((c : NamedClass) → class_named p t ≡ Some c → f (other c) ≡ g c) → class_case f z (class_named q t) ≡ class_case g z (class_named p t)
  at_named {X} f g z t h = ap (class_case f z) (class_same new p t) ∙ by (class_named p t) refl
    where
      by : (o : Option NamedClass) → class_named p t ≡ o → class_case f z (option_map other o) ≡ class_case g z o
      by None e = refl
      by (Some c) e = h c e

  interface_class : (t : Text) (c : NamedClass) → interface_named p t ≡ Some c → class_named p t ≡ Some c
  interface_class t c e = by (class_named p t) e
    where
      on : (d : NamedClass) (b : Bool) → elim b as (λ b. Option NamedClass) [ true ↦ Some d | false ↦ None ] ≡ Some c → Some d ≡ Some c
      on d true i = i
      on d false i = absurd (no i)
        where
          no : None ≡ Some c → ⊥
          no i = subst (λ o. elim o as (λ o. Type 0) [ None ↦ Unit {0} | Some c ↦ ⊥ ]) i tt

      by : (o : Option NamedClass) → elim o as (λ o. Option NamedClass) [ Some d ↦ elim (is_interface d.flags) as (λ b. Option NamedClass) [ true ↦ Some d | false ↦ None ] | None ↦ None ] ≡ Some c → o ≡ Some c
      by None i = i
      by (Some d) i = on d (is_interface d.flags) i

  module _ (test : NamedMethod → Bool) (n : Text) (g : Signature) where
    passing_same : (c : NamedClass) (o : Option NamedMethod) → passing test (other c) o ≡ passing test c o
    passing_same c None = refl
    passing_same c (Some m) = refl

    passing_in : (t : Text) (c : NamedClass) → class_named p t ≡ Some c → passing test (other c) (method_in (other c) n g) ≡ passing test c (method_in c n g)
    passing_in t c e = ap (passing test (other c)) (alike.named t c n g e) ∙ passing_same c (method_in c n g)

    pub first_same : (cs : List NamedClass) → ((c : NamedClass) → In c cs → class_named p c.name ≡ Some c) → first_method test n g (map other cs) ≡ first_method test n g cs
    first_same [] h = refl
    first_same (c ∷ cs) h =
        ap (λ o. option_or o (first_method test n g (map other cs))) (passing_in c.name c (h c (here cs)))
        ∙ ap (λ o. option_or (passing test c (method_in c n g)) o) (first_same cs (λ d i. h d (there c cs i)))

    along : (t : Text) → first_method test n g (chain_of q t) ≡ first_method test n g (chain_of p t)
    along t = ap (first_method test n g) (chain_same new p t) ∙ first_same (chain_of p t) (λ c i. chain_named p everything kept (length p.classes) t c i)

  static_same : finds_statically q ≡ finds_statically p
  static_same = fun_ext (λ k. ap search_of (along (λ m. true) k.name k.signature k.class))

  -- ---- interfaces

  module _ (n : Text) (g : Signature) where
    abbrev candidate_case : (List Text → List Found) → NamedClass → List Found
    candidate_case next c = own_candidate n g c ++ next c.interfaces

    candidates_from_same : (k : ℕ) → candidates_from k q n g ≡ candidates_from k p n g
    candidates_from_same zero = refl
    candidates_from_same (suc k) = fun_ext (λ ts.
        ap (λ f. flat_map f ts) (fun_ext (λ t. ap (class_case (candidate_case (candidates_from k q n g)) []) (interface_same new p t) ∙ by t (interface_named p t) refl (candidates_from k q n g)))
        ∙ ap (λ next. flat_map (λ t. class_case (candidate_case next) [] (interface_named p t)) ts) (candidates_from_same k))
      where
        by : (t : Text) (o : Option NamedClass) → interface_named p t ≡ o → (next : List Text → List Found) → class_case (candidate_case next) [] (option_map other o) ≡ class_case (candidate_case next) [] o
        by t None e next = refl
        by t (Some c) e next = ap (λ o. elim o as (λ o. List Found) [ Some f ↦ f ∷ [] | None ↦ [] ] ++ next c.interfaces) (passing_in is_virtual_method n g t c (interface_class t c e))

    among_same : (ts : List Text) → finds_among q ts n g ≡ finds_among p ts n g
    among_same ts = ap verdict (ap (lowest q) (ap (λ fs. elim (is_037 p.version && not (is_common n g)) as (λ b. List Found) [ true ↦ without_repeats fs | false ↦ [] ])
        (ap (λ k. candidates_from k q n g ts) (count new p) ∙ ap (λ f. f ts) (candidates_from_same (length p.classes))))
        ∙ ap (λ under. filter (λ f. f.coded && not (list_any (λ g. not (text_eq g.key.class f.key.class) && under g.key.class f.key.class) (candidates p ts n g))) (candidates p ts n g)) (under_same new p))

  pub at_same : (t : Text) (k : MethodKey) → finds_at q t k ≡ finds_at p t k
  at_same t k =
      ap (λ o. elim o as (λ o. Search) [ Some f ↦ Finds f | None ↦ finds_among q (flat_map (λ c. c.interfaces) (chain_of q t)) k.name k.signature ]) (along is_virtual_method k.name k.signature t)
      ∙ ap (λ x. elim (first_method is_virtual_method k.name k.signature (chain_of p t)) as (λ o. Search) [ Some f ↦ Finds f | None ↦ x ])
      (ap (λ cs. finds_among q (flat_map (λ c. c.interfaces) cs) k.name k.signature) (chain_same new p t)
      ∙ ap (λ ts. finds_among q ts k.name k.signature) (flat_same (λ c. c.interfaces) other (λ c. refl) (chain_of p t))
      ∙ among_same k.name k.signature (flat_map (λ c. c.interfaces) (chain_of p t)))

  virtually_same : (f : Framework) (t : Text) (k : MethodKey) → finds_virtually q f t k ≡ finds_virtually p f t k
  virtually_same f t k =
      ap (λ b. elim (b && is_under q f t k.class) as (λ b. Search) [ true ↦ finds_at q t k | false ↦ Nothing ]) (some_same new p t)
      ∙ ap (λ u. elim (is_some (class_named p t) && u t k.class) as (λ b. Search) [ true ↦ finds_at q t k | false ↦ Nothing ]) (framed_same new p f)
      ∙ ap (λ x. elim (is_some (class_named p t) && is_under p f t k.class) as (λ b. Search) [ true ↦ x | false ↦ Nothing ]) (at_same t k)

  -- ---- super calls

  abbrev choice : Bool → Search → Search → Search
  choice b x y = elim b as (λ b. Search) [ true ↦ x | false ↦ y ]

  above_same : (class : Text) (k : MethodKey) → finds_above q class k ≡ finds_above p class k
  above_same class k = ap search_of
      (ap (λ t. first_method (λ m. true) k.name k.signature (chain_of q t)) (at_class new p (λ c. c.superclass) (λ c. c.superclass) [] (λ c. refl) class)
      ∙ along (λ m. true) k.name k.signature (superclass_of p class))

  super_037 : (class : Text) (k : MethodKey) (o : Option NamedClass) → finds_super_037 q class k (option_map other o) ≡ finds_super_037 p class k o
  super_037 class k (Some c) =
      ap (λ x. choice (is_interface c.flags) x (finds_above q class k)) (among_same k.name k.signature (c.name ∷ []))
      ∙ ap (choice (is_interface c.flags) (finds_among p (c.name ∷ []) k.name k.signature)) (above_same class k)
  super_037 class k None =
      ap (λ b. choice b Nothing (finds_above q class k)) (any_map (λ c. is_own_under q class c.name && list_any (text_eq k.class) c.interfaces) other p.classes
      ∙ ap (λ under. list_any (λ c. under class c.name && list_any (text_eq k.class) c.interfaces) p.classes) (under_same new p))
      ∙ ap (choice (lists_interface p class k.class) Nothing) (above_same class k)

  pub super_same : finds_super q ≡ finds_super p
  super_same = fun_ext (λ class. fun_ext (λ k.
      ap (λ x. choice (is_037 p.version) x (finds_above q class k)) (ap (finds_super_037 q class k) (class_same new p k.class) ∙ super_037 class k (class_named p k.class))
      ∙ ap (choice (is_037 p.version) (finds_super_037 p class k (class_named p k.class))) (above_same class k)))

  -- ---- initialisers

  initialiser_same : initialiser_of q ≡ initialiser_of p
  initialiser_same = fun_ext (λ t. at_named initialiser_in initialiser_in None t (λ c e.
      ap (λ o. elim o as (λ o. Option MethodKey) [ Some m ↦ elim (is_initialiser m) as (λ b. Option MethodKey) [ true ↦ Some (initialiser_key c.name) | false ↦ None ] | None ↦ None ]) (alike.named t c initialiser_name void e)))

  abbrev before_case : (List Text → List Text) → Text → NamedClass → List Text
  before_case next t c = next c.interfaces ++ only_if (has_default c) t

  before_same : (n : ℕ) → interfaces_before n q ≡ interfaces_before n p
  before_same zero = refl
  before_same (suc n) = fun_ext (λ ts.
      ap (λ f. flat_map f ts) (fun_ext (λ t. ap (class_case (before_case (interfaces_before n q) t) []) (interface_same new p t) ∙ by t (interface_named p t) refl (interfaces_before n q)))
      ∙ ap (λ next. flat_map (λ t. class_case (before_case next t) [] (interface_named p t)) ts) (before_same n))
    where
      by : (t : Text) (o : Option NamedClass) → interface_named p t ≡ o → (next : List Text → List Text) → class_case (before_case next t) [] (option_map other o) ≡ class_case (before_case next t) [] o
      by t None e next = refl
      by t (Some c) e next = ap (λ b. next c.interfaces ++ only_if b t) (alike.defaults t c (interface_class t c e))

  first_of_same : (c : NamedClass) → first_of_class q (other c) ≡ first_of_class p c
  first_of_same c =
      ap {A = Text → Bool} {B = List Text} (λ d. elim (is_interface c.flags) as (λ b. List Text) [ true ↦ [] | false ↦ only_if (d c.superclass) c.superclass ++ interfaces_first q (other c) ]) (defines_same new p)
      ∙ ap (λ ts. elim (is_interface c.flags) as (λ b. List Text) [ true ↦ [] | false ↦ only_if (defines p c.superclass) c.superclass ++ ts ])
      (ap (λ ts. elim (is_037 p.version) as (λ b. List Text) [ true ↦ firsts ts | false ↦ [] ]) (ap (λ n. interfaces_before n q c.interfaces) (count new p) ∙ ap (λ f. f c.interfaces) (before_same (length p.classes))))

  initialised_same : initialised_first q ≡ initialised_first p
  initialised_same = fun_ext (at_class new p (first_of_class q) (first_of_class p) [] first_of_same)

  quiet_same : (n : ℕ) → interfaces_quiet n q ≡ interfaces_quiet n p
  quiet_same zero = refl
  quiet_same (suc n) = fun_ext (λ ts. ap (λ f. list_all f ts) (fun_ext (λ t.
      at_class new p (λ c. not (is_some (initialiser_of q t)) && interfaces_quiet n q c.interfaces) (λ c. not (is_some (initialiser_of q t)) && interfaces_quiet n q c.interfaces) true (λ c. refl) t
      ∙ ap (λ i. class_case (λ c. not (is_some (i t)) && interfaces_quiet n q c.interfaces) true (class_named p t)) initialiser_same
      ∙ ap (λ next. class_case (λ c. not (is_some (initialiser_of p t)) && next c.interfaces) true (class_named p t)) (quiet_same n))))

  trivial_at : (t : Text) → is_trivial q t ≡ is_trivial p t
  trivial_at t =
      ap (list_all (λ c. not (has_initialiser q c.name) && interfaces_quiet (length q.classes) q c.interfaces)) (chain_same new p t)
      ∙ all_map (λ c. not (has_initialiser q c.name) && interfaces_quiet (length q.classes) q c.interfaces) other (chain_of p t)
      ∙ ap (λ i. list_all (λ c. not (is_some (i c.name)) && interfaces_quiet (length q.classes) q c.interfaces) (chain_of p t)) initialiser_same
      ∙ ap (λ n. list_all (λ c. not (has_initialiser p c.name) && interfaces_quiet n q c.interfaces) (chain_of p t)) (count new p)
      ∙ ap (λ f. list_all (λ c. not (has_initialiser p c.name) && f c.interfaces) (chain_of p t)) (quiet_same (length p.classes))

  declared_same : (t n x : Text) → declared_in q t n x ≡ declared_in p t n x
  declared_same t n x = at_named (λ c. option_map (found_in c) (find (λ m. text_eq m.name n && text_eq (proto_text m.signature) x) c.methods)) (λ c. option_map (found_in c) (find (λ m. text_eq m.name n && text_eq (proto_text m.signature) x) c.methods)) None t
      (λ c e. ap (option_map (found_in c)) (alike.declared t c n x e))

  -- ---- the face and the bodies

  pub ordered_face : (f : Framework) → face_of q f ≡ face_of p f
  ordered_face f = λ i. record {
    flags = fun_ext (flags_same new p) i;
    under = framed_same new p f i;
    outward = outward_same new p i;
    statically = static_same i;
    above = super_same i;
    virtually = fun_ext (λ t. fun_ext (virtually_same f t)) i;
    declared = fun_ext (λ t. fun_ext (λ n. fun_ext (declared_same t n))) i;
    field = λ k. option_map (λ c. place_of c.0 c.1) (field_same new p i k);
    own_field = λ k. option_map (place_of k.class) (own_field_same new p i k);
    initialiser = initialiser_same i;
    first = initialised_same i;
    trivial = fun_ext trivial_at i;
  }

  pub ordered_bodies : bodies_of q ≡ bodies_of p
  ordered_bodies = fun_ext (λ k. ap (option_and_then (λ m. m.body)) (at_named (λ c. method_in c k.name k.signature) (λ c. method_in c k.name k.signature) None k.class (λ c e. alike.named k.class c k.name k.signature e)))

  pub ordered_shown : (o : Outer) → SameShown p q o
  ordered_shown o = same_by_look_ups p q o (λ f. sym (ordered_face f)) (sym ordered_bodies)

-- ---- the same methods in another order, where methods are told apart

find_members : {A : Type 0} (f : A → Bool) (xs ys : List A) → ((a : A) → In a xs → In a ys) → ((a : A) → In a ys → In a xs) → ((a b : A) → In a ys → In b ys → f a ≡ true → f b ≡ true → a ≡ b) → find f xs ≡ find f ys
find_members {A} f xs ys to from one = by (find f xs) (find f ys) refl refl
  where
    by : (a b : Option A) → find f xs ≡ a → find f ys ≡ b → a ≡ b
    by None None d e = refl
    by (Some a) None d e = let z = found_passes f xs a d in let r = is_there f a ys (to a z.is_in) z.passes in clash false (ap is_some (sym e ∙ r.1)) refl
    by None (Some b) d e = let z = found_passes f ys b e in let r = is_there f b xs (from b z.is_in) z.passes in clash false (ap is_some (sym d ∙ r.1)) refl
    by (Some a) (Some b) d e = let y = found_passes f xs a d in let z = found_passes f ys b e in ap Some (one a b (to a y.is_in) z.is_in y.passes z.passes)

any_members : {A : Type 0} (f : A → Bool) (xs ys : List A) → ((a : A) → In a xs → In a ys) → ((a : A) → In a ys → In a xs) → list_any f xs ≡ list_any f ys
any_members f xs ys to from = by (list_any f xs) (list_any f ys) refl refl
  where
    by : (a b : Bool) → list_any f xs ≡ a → list_any f ys ≡ b → a ≡ b
    by true true d e = refl
    by false false d e = refl
    by true false d e = let r = any_where f xs d in clash (list_any f ys) (any_here f r.0 ys (to r.0 r.1.0) r.1.1) e
    by false true d e = let r = any_where f ys e in clash (list_any f xs) (any_here f r.0 xs (from r.0 r.1.0) r.1.1) d

pub members_alike : (new : Remethod) (p : NamedProgram) → TellsApart p → SameMethods new p → AnswersAlike new p
members_alike new p tells same = record {
  named = λ t c n g e. find_members (λ m. same_name m.name m.signature n g) (new c) c.methods (same.to t c e) (same.from t c e)
      (λ a b i j d h. tells t c a b e i j
      (text_sound a.name n (and_left (text_eq a.name n) (signature_eq a.signature g) d) ∙ sym (text_sound b.name n (and_left (text_eq b.name n) (signature_eq b.signature g) h)))
      (ap proto_text (signature_sound a.signature g (and_behind (text_eq a.name n) (signature_eq a.signature g) d) ∙ sym (signature_sound b.signature g (and_behind (text_eq b.name n) (signature_eq b.signature g) h)))));
  declared = λ t c n x e. find_members (λ m. text_eq m.name n && text_eq (proto_text m.signature) x) (new c) c.methods (same.to t c e) (same.from t c e)
      (λ a b i j d h. tells t c a b e i j
      (text_sound a.name n (and_left (text_eq a.name n) (text_eq (proto_text a.signature) x) d) ∙ sym (text_sound b.name n (and_left (text_eq b.name n) (text_eq (proto_text b.signature) x) h)))
      (text_sound (proto_text a.signature) x (and_behind (text_eq a.name n) (text_eq (proto_text a.signature) x) d) ∙ sym (text_sound (proto_text b.signature) x (and_behind (text_eq b.name n) (text_eq (proto_text b.signature) x) h))));
  defaults = λ t c e. any_members (λ m. is_virtual_method m && is_some m.body) (new c) c.methods (same.to t c e) (same.from t c e);
}

pub order_shown : (new : Remethod) (p : NamedProgram) (o : Outer) → TellsApart p → SameMethods new p → SameShown p (remade new p) o
order_shown new p o tells same = ordered_shown new p (members_alike new p tells same) o
