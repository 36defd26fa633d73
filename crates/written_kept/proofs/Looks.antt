-- Programs that answer look-ups alike have one face and the same bodies, and so the machine takes the same steps.
use Rattle.std.proofs.Common.{◌≡◌, ℕ, zero, suc, ◌+◌, Bool, true, false, List, [], ◌∷◌, ◌++◌, length, refl, sym, ap, ◌∙◌}
use std.Path.{fun_ext}
use Rattle.std.specs.Prelude.{◌&&◌, ◌||◌, not, Option, Some, None, map, filter, find, flat_map, is_some}
use Rattle.std.specs.List.{list_any, list_all}
use Rattle.std.specs.Option.{option_map, option_or, option_and_then}
use Rattle.dalvik_defs.specs.Names.{Text, text_eq, is_common, object_type, initialiser_name, void}
use Rattle.dalvik_defs.specs.Flags.{is_interface, is_static}
use Rattle.dalvik_defs.specs.Known.{known_rows}
use Rattle.dalvik_defs.specs.Under.{class_named, defines, row_named, outer_type, above_row, above_in, directly_above, walks, walk_bound, under_types, is_under, own_above, is_own_under, reaches_framework, is_outward}
use Rattle.dalvik_defs.specs.Find.{Found, found_in, Search, Nothing, Finds, method_in, chain_of, passing, first_method, search_of, finds_statically, is_virtual_method, own_candidate, interface_named, candidates_from, without_repeats, is_037, candidates, lowest, verdict, finds_among, finds_at, lists_interface, superclass_of, finds_above, finds_super_037, finds_super, field_in, first_field, field_from, finds_field, defined_field, defined_method}
use Rattle.dalvik_defs.specs.Initialised.{is_initialiser, initialiser_key, initialiser_in, initialiser_of, has_default, only_if, interfaces_before, firsts, interfaces_first, first_of_class, initialised_first, has_initialiser, interfaces_quiet, is_trivial}
use Rattle.dalvik_defs.specs.Face.{Place, place_of, declared_in, finds_virtually, face_of, bodies_of}
use Rattle.dalvik_defs.specs.Outer.{Outer}
use Rattle.dalvik_defs.specs.Shown.{SameShown}
use Rattle.dalvik_defs.specs.State.{opening}
use Rattle.dalvik_defs.specs.Step.{setting_of, shows_from, shows}
use Rattle.dalvik_defs.specs.declared.names.Signature.{Signature}
use Rattle.dalvik_defs.specs.declared.names.MethodKey.{MethodKey}
use Rattle.dalvik_defs.specs.declared.names.FieldKey.{FieldKey}
use Rattle.dalvik_defs.specs.declared.program.NamedBody.{NamedBody}
use Rattle.dalvik_defs.specs.declared.program.NamedField.{NamedField}
use Rattle.dalvik_defs.specs.declared.program.NamedMethod.{NamedMethod}
use Rattle.dalvik_defs.specs.declared.program.NamedClass.{NamedClass}
use Rattle.dalvik_defs.specs.declared.program.NamedProgram.{NamedProgram}
use Rattle.dalvik_defs.specs.declared.tables.Framework.{Framework}
use Rattle.dalvik_defs.specs.declared.tables.FrameworkType.{FrameworkType}
use Rattle.dalvik_defs.specs.declared.tables.Floats.{Floats}
use Rattle.dalvik_defs.specs.declared.script.Move.{Move}
use Rattle.program_laws.proofs.Heads.{class_case}
use Rattle.written_kept.proofs.Alike.{bare_method, bare_field, of_proto, AlikeClass, AlikeOption, AllAlike, LooksAlike, both, above_alike, flat_alike, all_alike, at_class, chain_alike, interface_alike}

-- ---- members without what no run asks for

-- a test that asks nothing of it
abbrev pub Blind : (NamedMethod → Bool) → Type 0
Blind test = (m : NamedMethod) → test (bare_method m) ≡ test m

passing_bare : (test : NamedMethod → Bool) → Blind test → (c : NamedClass) (o : Option NamedMethod) → passing test c (option_map bare_method o) ≡ passing test c o
passing_bare test h c None = refl
passing_bare test h c (Some m) = ap (λ b. elim b as (λ b. Option Found) [ true ↦ Some (found_in c m) | false ↦ None ]) (h m)

abbrev found_at : Text → NamedMethod → Found
found_at t m = record { key = record { class = t; name = m.name; signature = m.signature }; flags = m.flags; coded = is_some m.body }

passing_name : (test : NamedMethod → Bool) (c d : NamedClass) → d.name ≡ c.name → (o : Option NamedMethod) → passing test d o ≡ passing test c o
passing_name test c d e None = refl
passing_name test c d e (Some m) = ap (λ t. elim (test m) as (λ b. Option Found) [ true ↦ Some (found_at t m) | false ↦ None ]) e

passing_alike : (test : NamedMethod → Bool) → Blind test → (n : Text) (s : Signature) (c d : NamedClass) → AlikeClass c d → passing test d (method_in d n s) ≡ passing test c (method_in c n s)
passing_alike test b n s c d h =
    passing_name test c d h.name (method_in d n s) ∙ sym (passing_bare test b c (method_in d n s)) ∙ ap (passing test c) (h.method n s) ∙ passing_bare test b c (method_in c n s)

pub first_alike : (test : NamedMethod → Bool) → Blind test → (n : Text) (s : Signature) (cs ds : List NamedClass) → AllAlike cs ds → first_method test n s ds ≡ first_method test n s cs
first_alike test b n s [] [] l = refl
first_alike test b n s (c ∷ cs) (d ∷ ds) l =
    ap (λ o. option_or o (first_method test n s ds)) (passing_alike test b n s c d l.0)
    ∙ ap (λ o. option_or (passing test c (method_in c n s)) o) (first_alike test b n s cs ds l.1)
first_alike test b n s [] (d ∷ ds) l = absurd l
first_alike test b n s (c ∷ cs) [] l = absurd l

found_bare : (t : Text) (o : Option NamedMethod) → option_map (found_at t) (option_map bare_method o) ≡ option_map (found_at t) o
found_bare t None = refl
found_bare t (Some m) = refl

declared_alike : (n x : Text) (c d : NamedClass) → AlikeClass c d → option_map (found_in d) (find (of_proto n x) d.methods) ≡ option_map (found_in c) (find (of_proto n x) c.methods)
declared_alike n x c d h =
    ap (λ t. option_map (found_at t) (find (of_proto n x) d.methods)) h.name
    ∙ sym (found_bare c.name (find (of_proto n x) d.methods)) ∙ ap (option_map (found_at c.name)) (h.declared n x) ∙ found_bare c.name (find (of_proto n x) c.methods)

body_bare : (o : Option NamedMethod) → option_and_then (λ m. m.body) (option_map bare_method o) ≡ option_and_then (λ m. m.body) o
body_bare None = refl
body_bare (Some m) = refl

abbrev initialiser_case : Text → Option NamedMethod → Option MethodKey
initialiser_case t o = elim o as (λ o. Option MethodKey) [ Some m ↦ elim (is_initialiser m) as (λ b. Option MethodKey) [ true ↦ Some (initialiser_key t) | false ↦ None ] | None ↦ None ]

initialiser_bare : (t : Text) (o : Option NamedMethod) → initialiser_case t (option_map bare_method o) ≡ initialiser_case t o
initialiser_bare t None = refl
initialiser_bare t (Some m) = refl

initialiser_alike : (c d : NamedClass) → AlikeClass c d → initialiser_in d ≡ initialiser_in c
initialiser_alike c d h =
    ap (λ t. initialiser_case t (method_in d initialiser_name void)) h.name
    ∙ sym (initialiser_bare c.name (method_in d initialiser_name void)) ∙ ap (initialiser_case c.name) (h.method initialiser_name void) ∙ initialiser_bare c.name (method_in c initialiser_name void)

place_bare : (t : Text) (o : Option NamedField) → option_map (place_of t) (option_map bare_field o) ≡ option_map (place_of t) o
place_bare t None = refl
place_bare t (Some f) = refl

place_alike : (t n k : Text) (c d : NamedClass) → AlikeClass c d → option_map (place_of t) (field_in d n k) ≡ option_map (place_of t) (field_in c n k)
place_alike t n k c d h = sym (place_bare t (field_in d n k)) ∙ ap (option_map (place_of t)) (h.field n k) ∙ place_bare t (field_in c n k)

-- where a field was found
abbrev pub placed : Option (Text × NamedField) → Option Place
placed o = option_map (λ x. place_of x.0 x.1) o

placed_or : (o r : Option (Text × NamedField)) → placed (option_or o r) ≡ option_or (placed o) (placed r)
placed_or None r = refl
placed_or (Some x) r = refl

placed_in : (t : Text) (o : Option NamedField) → placed (option_map (λ f. (t, f)) o) ≡ option_map (place_of t) o
placed_in t None = refl
placed_in t (Some f) = refl

placed_first : (f g : Text → Option (Text × NamedField)) → ((t : Text) → placed (f t) ≡ placed (g t)) → (ts : List Text) → placed (first_field (map f ts)) ≡ placed (first_field (map g ts))
placed_first f g h [] = refl
placed_first f g h (t ∷ ts) =
    placed_or (f t) (first_field (map f ts))
    ∙ ap (λ o. option_or o (placed (first_field (map f ts)))) (h t)
    ∙ ap (option_or (placed (g t))) (placed_first f g h ts)
    ∙ sym (placed_or (g t) (first_field (map g ts)))

module _ (p q : NamedProgram) (a : LooksAlike p q) where
  -- ---- classes

  flags_same : (t : Text) → option_map (λ (c : NamedClass). c.flags) (class_named q t) ≡ option_map (λ c. c.flags) (class_named p t)
  flags_same t = by (class_named p t) (class_named q t) (a.class t)
    where
      by : (o o' : Option NamedClass) → AlikeOption o o' → option_map (λ (c : NamedClass). c.flags) o' ≡ option_map (λ c. c.flags) o
      by None None l = refl
      by (Some c) (Some d) l = ap Some l.flags
      by None (Some d) l = absurd l
      by (Some c) None l = absurd l

  some_same : (t : Text) → is_some (class_named q t) ≡ is_some (class_named p t)
  some_same t = by (class_named p t) (class_named q t) (a.class t)
    where
      by : (o o' : Option NamedClass) → AlikeOption o o' → is_some o' ≡ is_some o
      by None None l = refl
      by (Some c) (Some d) l = refl
      by None (Some d) l = absurd l
      by (Some c) None l = absurd l

  defines_same : defines q ≡ defines p
  defines_same = fun_ext (at_class p q a (λ c. true) (λ c. true) false (λ c d h. refl))

  -- ---- what is above what

  above_same : own_above q ≡ own_above p
  above_same = fun_ext (at_class p q a (λ c. c.superclass ∷ c.interfaces) (λ c. c.superclass ∷ c.interfaces) [] above_alike)

  under_same : is_own_under q ≡ is_own_under p
  under_same = fun_ext (λ s. fun_ext (λ t. ap (λ n. walks (own_above q) n s t) a.count ∙ ap (λ f. walks f (length p.classes) s t) above_same))

  outer_same : outer_type q ≡ outer_type p
  outer_same = fun_ext (λ t. ap (λ b. elim b as (λ b. Text) [ true ↦ object_type | false ↦ t ]) (ap (λ d. d t) defines_same))

  row_same : (t : Text) (o : Option FrameworkType) → above_row q t o ≡ above_row p t o
  row_same t None = refl
  row_same t (Some r) = ap (λ f. f r.superclass ∷ map f r.interfaces) outer_same

  directly_same : (f : Framework) → directly_above q f ≡ directly_above p f
  directly_same f = fun_ext (λ t. by t (class_named p t) (class_named q t) (a.class t))
    where
      by : (t : Text) (o o' : Option NamedClass) → AlikeOption o o' → above_in q f t o' ≡ above_in p f t o
      by t (Some c) (Some d) l = above_alike c d l
      by t None None l = ap (λ ts. elim (text_eq t object_type) as (λ b. List Text) [ true ↦ [] | false ↦ ts ]) (row_same t (row_named f t))
      by t None (Some d) l = absurd l
      by t (Some c) None l = absurd l

  framed_same : (f : Framework) → is_under q f ≡ is_under p f
  framed_same f =
      ap (λ n. under_types (walks (directly_above q f) (n + (length (known_rows ++ f.rows) + 2)))) a.count
      ∙ ap (λ above. under_types (walks above (walk_bound p f))) (directly_same f)

  abbrev touches : (Text → Bool) → List Text → Bool
  touches d ts = list_any (λ t. not (d t) && not (text_eq t object_type)) ts

  reaches_same : (n : ℕ) → reaches_framework n q ≡ reaches_framework n p
  reaches_same zero = refl
  reaches_same (suc n) = fun_ext (λ t.
      at_class p q a (λ c. touches (defines q) (c.superclass ∷ c.interfaces) || list_any (reaches_framework n q) (c.superclass ∷ c.interfaces))
      (λ c. touches (defines q) (c.superclass ∷ c.interfaces) || list_any (reaches_framework n q) (c.superclass ∷ c.interfaces)) false
      (λ c d h. ap (λ ts. touches (defines q) ts || list_any (reaches_framework n q) ts) (above_alike c d h)) t
      ∙ ap (λ d. class_case (λ c. touches d (c.superclass ∷ c.interfaces) || list_any (reaches_framework n q) (c.superclass ∷ c.interfaces)) false (class_named p t)) defines_same
      ∙ ap (λ next. class_case (λ c. touches (defines p) (c.superclass ∷ c.interfaces) || list_any next (c.superclass ∷ c.interfaces)) false (class_named p t)) (reaches_same n))

  outward_same : is_outward q ≡ is_outward p
  outward_same = ap (λ n. reaches_framework n q) a.count ∙ reaches_same (length p.classes)

  -- ---- fields

  own_field_same : (k : FieldKey) → option_map (place_of k.class) (defined_field q k) ≡ option_map (place_of k.class) (defined_field p k)
  own_field_same k = by (class_named p k.class) (class_named q k.class) (a.class k.class)
    where
      by : (o o' : Option NamedClass) → AlikeOption o o'
          → option_map (place_of k.class) (class_case (λ c. field_in c k.name k.kind) None o') ≡ option_map (place_of k.class) (class_case (λ c. field_in c k.name k.kind) None o)
      by None None l = refl
      by (Some c) (Some d) l = place_alike k.class k.name k.kind c d l
      by None (Some d) l = absurd l
      by (Some c) None l = absurd l

  abbrev field_case : (Text → Option (Text × NamedField)) → FieldKey → NamedClass → Option (Text × NamedField)
  field_case next k c = option_or (option_map (λ f. (c.name, f)) (field_in c k.name k.kind)) (first_field (map next (c.interfaces ++ c.superclass ∷ [])))

  field_from_same : (n : ℕ) (k : FieldKey) (t : Text) → placed (field_from n q k t) ≡ placed (field_from n p k t)
  field_from_same zero k t = refl
  field_from_same (suc n) k t = by (class_named p t) (class_named q t) (a.class t) (field_from_same n k)
    where
      by : (o o' : Option NamedClass) → AlikeOption o o' → ((u : Text) → placed (field_from n q k u) ≡ placed (field_from n p k u))
          → placed (class_case (field_case (field_from n q k) k) None o') ≡ placed (class_case (field_case (field_from n p k) k) None o)
      by None None l r = refl
      by (Some c) (Some d) l r =
          placed_or (option_map (λ f. (d.name, f)) (field_in d k.name k.kind)) (first_field (map (field_from n q k) (d.interfaces ++ d.superclass ∷ [])))
          ∙ ap (λ o. option_or o (placed (first_field (map (field_from n q k) (d.interfaces ++ d.superclass ∷ [])))))
          (placed_in d.name (field_in d k.name k.kind) ∙ ap (λ t. option_map (place_of t) (field_in d k.name k.kind)) l.name ∙ place_alike c.name k.name k.kind c d l ∙ sym (placed_in c.name (field_in c k.name k.kind)))
          ∙ ap (option_or (placed (option_map (λ f. (c.name, f)) (field_in c k.name k.kind))))
          (ap (λ ts. placed (first_field (map (field_from n q k) (ts ++ d.superclass ∷ [])))) l.interfaces
          ∙ ap (λ t. placed (first_field (map (field_from n q k) (c.interfaces ++ t ∷ [])))) l.superclass
          ∙ placed_first (field_from n q k) (field_from n p k) r (c.interfaces ++ c.superclass ∷ []))
          ∙ sym (placed_or (option_map (λ f. (c.name, f)) (field_in c k.name k.kind)) (first_field (map (field_from n p k) (c.interfaces ++ c.superclass ∷ []))))
      by None (Some d) l r = absurd l
      by (Some c) None l r = absurd l

  pub field_same : (k : FieldKey) → placed (finds_field q k) ≡ placed (finds_field p k)
  field_same k = ap (λ n. placed (field_from n q k k.class)) a.count ∙ field_from_same (length p.classes) k k.class

  -- ---- methods

  along : (test : NamedMethod → Bool) → Blind test → (n : Text) (s : Signature) (t : Text) → first_method test n s (chain_of q t) ≡ first_method test n s (chain_of p t)
  along test b n s t = first_alike test b n s (chain_of p t) (chain_of q t) (chain_alike p q a t)

  static_same : finds_statically q ≡ finds_statically p
  static_same = fun_ext (λ k. ap search_of (along (λ m. true) (λ m. refl) k.name k.signature k.class))

  module _ (n : Text) (s : Signature) where
    abbrev candidate_case : (List Text → List Found) → NamedClass → List Found
    candidate_case next c = own_candidate n s c ++ next c.interfaces

    candidates_from_same : (k : ℕ) → candidates_from k q n s ≡ candidates_from k p n s
    candidates_from_same zero = refl
    candidates_from_same (suc k) = fun_ext (λ ts. ap (λ f. flat_map f ts) (fun_ext (λ t.
        both (candidate_case (candidates_from k q n s)) (candidate_case (candidates_from k q n s)) []
        (λ c d h. ap (λ o. elim o as (λ o. List Found) [ Some f ↦ f ∷ [] | None ↦ [] ] ++ candidates_from k q n s d.interfaces) (passing_alike is_virtual_method (λ m. refl) n s c d h)
        ∙ ap (λ us. own_candidate n s c ++ candidates_from k q n s us) h.interfaces)
        (interface_named p t) (interface_named q t) (interface_alike p q a t)
        ∙ ap (λ next. class_case (candidate_case next) [] (interface_named p t)) (candidates_from_same k))))

    candidates_same : (ts : List Text) → candidates q ts n s ≡ candidates p ts n s
    candidates_same ts =
        ap (λ v. elim (is_037 v && not (is_common n s)) as (λ b. List Found) [ true ↦ without_repeats (candidates_from (length q.classes) q n s ts) | false ↦ [] ]) a.version
        ∙ ap (λ fs. elim (is_037 p.version && not (is_common n s)) as (λ b. List Found) [ true ↦ without_repeats fs | false ↦ [] ])
        (ap (λ k. candidates_from k q n s ts) a.count ∙ ap (λ f. f ts) (candidates_from_same (length p.classes)))

    among_same : (ts : List Text) → finds_among q ts n s ≡ finds_among p ts n s
    among_same ts = ap verdict (ap (lowest q) (candidates_same ts)
        ∙ ap (λ under. filter (λ f. f.coded && not (list_any (λ g. not (text_eq g.key.class f.key.class) && under g.key.class f.key.class) (candidates p ts n s))) (candidates p ts n s)) under_same)

  at_same : (t : Text) (k : MethodKey) → finds_at q t k ≡ finds_at p t k
  at_same t k =
      ap (λ o. elim o as (λ o. Search) [ Some f ↦ Finds f | None ↦ finds_among q (flat_map (λ c. c.interfaces) (chain_of q t)) k.name k.signature ]) (along is_virtual_method (λ m. refl) k.name k.signature t)
      ∙ ap (λ x. elim (first_method is_virtual_method k.name k.signature (chain_of p t)) as (λ o. Search) [ Some f ↦ Finds f | None ↦ x ])
      (ap (λ ts. finds_among q ts k.name k.signature) (flat_alike (λ c. c.interfaces) (λ c. c.interfaces) (λ c d h. h.interfaces) (chain_of p t) (chain_of q t) (chain_alike p q a t))
      ∙ among_same k.name k.signature (flat_map (λ c. c.interfaces) (chain_of p t)))

  virtually_same : (f : Framework) (t : Text) (k : MethodKey) → finds_virtually q f t k ≡ finds_virtually p f t k
  virtually_same f t k =
      ap (λ b. elim (b && is_under q f t k.class) as (λ b. Search) [ true ↦ finds_at q t k | false ↦ Nothing ]) (some_same t)
      ∙ ap (λ u. elim (is_some (class_named p t) && u t k.class) as (λ b. Search) [ true ↦ finds_at q t k | false ↦ Nothing ]) (framed_same f)
      ∙ ap (λ x. elim (is_some (class_named p t) && is_under p f t k.class) as (λ b. Search) [ true ↦ x | false ↦ Nothing ]) (at_same t k)

  -- ---- super calls

  abbrev choice : Bool → Search → Search → Search
  choice b x y = elim b as (λ b. Search) [ true ↦ x | false ↦ y ]

  finds_above_same : (class : Text) (k : MethodKey) → finds_above q class k ≡ finds_above p class k
  finds_above_same class k = ap search_of
      (ap (λ t. first_method (λ m. true) k.name k.signature (chain_of q t)) (at_class p q a (λ c. c.superclass) (λ c. c.superclass) [] (λ c d h. h.superclass) class)
      ∙ along (λ m. true) (λ m. refl) k.name k.signature (superclass_of p class))

  lists_same : (class t : Text) → lists_interface q class t ≡ lists_interface p class t
  lists_same class t =
      ap (λ under. list_any (λ c. under class c.name && list_any (text_eq t) c.interfaces) q.classes) under_same
      ∙ a.lists (λ u ts. is_own_under p class u && list_any (text_eq t) ts)

  super_037 : (class : Text) (k : MethodKey) (o o' : Option NamedClass) → AlikeOption o o' → finds_super_037 q class k o' ≡ finds_super_037 p class k o
  super_037 class k (Some c) (Some d) l =
      ap (λ n. choice (is_interface n) (finds_among q (d.name ∷ []) k.name k.signature) (finds_above q class k)) l.flags
      ∙ ap (λ t. choice (is_interface c.flags) (finds_among q (t ∷ []) k.name k.signature) (finds_above q class k)) l.name
      ∙ ap (λ x. choice (is_interface c.flags) x (finds_above q class k)) (among_same k.name k.signature (c.name ∷ []))
      ∙ ap (choice (is_interface c.flags) (finds_among p (c.name ∷ []) k.name k.signature)) (finds_above_same class k)
  super_037 class k None None l =
      ap (λ b. choice b Nothing (finds_above q class k)) (lists_same class k.class)
      ∙ ap (choice (lists_interface p class k.class) Nothing) (finds_above_same class k)
  super_037 class k None (Some d) l = absurd l
  super_037 class k (Some c) None l = absurd l

  pub super_same : finds_super q ≡ finds_super p
  super_same = fun_ext (λ class. fun_ext (λ k.
      ap (λ v. choice (is_037 v) (finds_super_037 q class k (class_named q k.class)) (finds_above q class k)) a.version
      ∙ ap (λ x. choice (is_037 p.version) x (finds_above q class k)) (super_037 class k (class_named p k.class) (class_named q k.class) (a.class k.class))
      ∙ ap (choice (is_037 p.version) (finds_super_037 p class k (class_named p k.class))) (finds_above_same class k)))

  -- ---- initialisers

  initialiser_same : initialiser_of q ≡ initialiser_of p
  initialiser_same = fun_ext (at_class p q a initialiser_in initialiser_in None initialiser_alike)

  abbrev before_case : (List Text → List Text) → Text → NamedClass → List Text
  before_case next t c = next c.interfaces ++ only_if (has_default c) t

  before_same : (n : ℕ) → interfaces_before n q ≡ interfaces_before n p
  before_same zero = refl
  before_same (suc n) = fun_ext (λ ts. ap (λ f. flat_map f ts) (fun_ext (λ t.
      both (before_case (interfaces_before n q) t) (before_case (interfaces_before n q) t) []
      (λ c d h. ap (λ us. interfaces_before n q us ++ only_if (has_default d) t) h.interfaces ∙ ap (λ b. interfaces_before n q c.interfaces ++ only_if b t) h.default)
      (interface_named p t) (interface_named q t) (interface_alike p q a t)
      ∙ ap (λ next. class_case (before_case next t) [] (interface_named p t)) (before_same n))))

  firsts_same : (ts : List Text) → elim (is_037 q.version) as (λ b. List Text) [ true ↦ firsts (interfaces_before (length q.classes) q ts) | false ↦ [] ]
      ≡ elim (is_037 p.version) as (λ b. List Text) [ true ↦ firsts (interfaces_before (length p.classes) p ts) | false ↦ [] ]
  firsts_same ts =
      ap (λ v. elim (is_037 v) as (λ b. List Text) [ true ↦ firsts (interfaces_before (length q.classes) q ts) | false ↦ [] ]) a.version
      ∙ ap (λ us. elim (is_037 p.version) as (λ b. List Text) [ true ↦ firsts us | false ↦ [] ]) (ap (λ n. interfaces_before n q ts) a.count ∙ ap (λ f. f ts) (before_same (length p.classes)))

  interfaces_first_same : (c d : NamedClass) → AlikeClass c d → interfaces_first q d ≡ interfaces_first p c
  interfaces_first_same c d h = firsts_same d.interfaces ∙ ap (λ ts. elim (is_037 p.version) as (λ b. List Text) [ true ↦ firsts (interfaces_before (length p.classes) p ts) | false ↦ [] ]) h.interfaces

  abbrev first_case : ℕ → (Text → Bool) → Text → List Text → List Text
  first_case flags d above more = elim (is_interface flags) as (λ b. List Text) [ true ↦ [] | false ↦ only_if (d above) above ++ more ]

  first_of_same : (c d : NamedClass) → AlikeClass c d → first_of_class q d ≡ first_of_class p c
  first_of_same c d h =
      ap (λ n. first_case n (defines q) d.superclass (interfaces_first q d)) h.flags
      ∙ ap (λ t. first_case c.flags (defines q) t (interfaces_first q d)) h.superclass
      ∙ ap (λ e. first_case c.flags e c.superclass (interfaces_first q d)) defines_same
      ∙ ap (first_case c.flags (defines p) c.superclass) (interfaces_first_same c d h)

  initialised_same : initialised_first q ≡ initialised_first p
  initialised_same = fun_ext (at_class p q a (first_of_class q) (first_of_class p) [] first_of_same)

  quiet_same : (n : ℕ) → interfaces_quiet n q ≡ interfaces_quiet n p
  quiet_same zero = refl
  quiet_same (suc n) = fun_ext (λ ts. ap (λ f. list_all f ts) (fun_ext (λ t.
      at_class p q a (λ c. not (is_some (initialiser_of q t)) && interfaces_quiet n q c.interfaces) (λ c. not (is_some (initialiser_of q t)) && interfaces_quiet n q c.interfaces) true
      (λ c d h. ap (λ us. not (is_some (initialiser_of q t)) && interfaces_quiet n q us) h.interfaces) t
      ∙ ap (λ i. class_case (λ c. not (is_some (i t)) && interfaces_quiet n q c.interfaces) true (class_named p t)) initialiser_same
      ∙ ap (λ next. class_case (λ c. not (is_some (initialiser_of p t)) && next c.interfaces) true (class_named p t)) (quiet_same n))))

  abbrev is_calm : (Text → Option MethodKey) → (List Text → Bool) → Text → List Text → Bool
  is_calm i quiet t ts = not (is_some (i t)) && quiet ts

  trivial_at : (t : Text) → is_trivial q t ≡ is_trivial p t
  trivial_at t = all_alike (λ c. is_calm (initialiser_of q) (interfaces_quiet (length q.classes) q) c.name c.interfaces) (λ c. is_calm (initialiser_of p) (interfaces_quiet (length p.classes) p) c.name c.interfaces)
      (λ c d h. ap (λ u. is_calm (initialiser_of q) (interfaces_quiet (length q.classes) q) u d.interfaces) h.name
      ∙ ap (is_calm (initialiser_of q) (interfaces_quiet (length q.classes) q) c.name) h.interfaces
      ∙ ap (λ i. is_calm i (interfaces_quiet (length q.classes) q) c.name c.interfaces) initialiser_same
      ∙ ap (λ n. is_calm (initialiser_of p) (interfaces_quiet n q) c.name c.interfaces) a.count
      ∙ ap (λ f. is_calm (initialiser_of p) f c.name c.interfaces) (quiet_same (length p.classes)))
      (chain_of p t) (chain_of q t) (chain_alike p q a t)

  declared_same : (t n x : Text) → declared_in q t n x ≡ declared_in p t n x
  declared_same t n x = at_class p q a (λ c. option_map (found_in c) (find (of_proto n x) c.methods)) (λ c. option_map (found_in c) (find (of_proto n x) c.methods)) None (declared_alike n x) t

  -- ---- the face and the bodies

  face_same : (f : Framework) → face_of q f ≡ face_of p f
  face_same f = λ i. record {
    flags = fun_ext flags_same i;
    under = framed_same f i;
    outward = outward_same i;
    statically = static_same i;
    above = super_same i;
    virtually = fun_ext (λ t. fun_ext (virtually_same f t)) i;
    declared = fun_ext (λ t. fun_ext (λ n. fun_ext (declared_same t n))) i;
    field = fun_ext field_same i;
    own_field = fun_ext own_field_same i;
    initialiser = initialiser_same i;
    first = initialised_same i;
    trivial = fun_ext trivial_at i;
  }

  abbrev body_case : Option NamedMethod → Option NamedBody
  body_case o = option_and_then (λ m. m.body) o

  bodies_at : (k : MethodKey) → bodies_of q k ≡ bodies_of p k
  bodies_at k = by (class_named p k.class) (class_named q k.class) (a.class k.class)
    where
      by : (o o' : Option NamedClass) → AlikeOption o o'
          → body_case (class_case (λ c. method_in c k.name k.signature) None o') ≡ body_case (class_case (λ c. method_in c k.name k.signature) None o)
      by None None l = refl
      by (Some c) (Some d) l = sym (body_bare (method_in d k.name k.signature)) ∙ ap body_case (l.method k.name k.signature) ∙ body_bare (method_in c k.name k.signature)
      by None (Some d) l = absurd l
      by (Some c) None l = absurd l

  -- the machine takes the same steps
  pub alike_shows : (o : Outer) (f : Framework) (floats : Floats) (script : List Move) (n : ℕ) → shows q o f floats script n ≡ shows p o f floats script n
  alike_shows o f floats script n =
      ap (λ x. shows_from (record { face = x; outer = o; floats = floats }) (bodies_of q) (opening script) n) (face_same f)
      ∙ ap (λ b. shows_from (setting_of p o f floats) b (opening script) n) (fun_ext bodies_at)

-- what shows the same as a program shows the same as one of the same steps
pub shown_on : (x p q : NamedProgram) (o : Outer) → ((f : Framework) (a : Floats) (script : List Move) (n : ℕ) → shows q o f a script n ≡ shows p o f a script n) → SameShown x p o → SameShown x q o
shown_on x p q o same s = record {
  there = λ f a script n fit. let r = s.there f a script n fit in (r.0, (r.1.0, r.1.1 ∙ sym (same f a script r.0)));
  back = λ f a script n fit. let r = s.back f a script n fit in (r.0, (r.1.0, ap (λ l. l ++ r.1.0) (same f a script n) ∙ r.1.1));
}
