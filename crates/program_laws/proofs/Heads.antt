-- Look-ups in a program with other bodies find what they found.
use Rattle.std.proofs.Common.{◌≡◌, ℕ, zero, suc, Bool, true, false, List, [], ◌∷◌, ◌++◌, length, refl, sym, ap, ◌∙◌}
use std.Path.{fun_ext}
use Rattle.std.specs.Prelude.{◌&&◌, not, Option, Some, None, map, filter, find, flat_map, if◌then◌else◌}
use Rattle.std.specs.List.{list_any}
use Rattle.std.specs.Option.{option_map, option_or}
use Rattle.lemmas.proofs.Lists.{map_append, map_long}
use Rattle.dalvik_defs.specs.Names.{Text, text_eq, same_name, is_common}
use Rattle.dalvik_defs.specs.Flags.{is_interface}
use Rattle.dalvik_defs.specs.Under.{class_named, walks, own_above, is_own_under}
use Rattle.dalvik_defs.specs.Find.{Found, found_in, Search, Nothing, Finds, method_in, chain_from, chain_of, passing, first_method, search_of, finds_statically, is_virtual_method, own_candidate, interface_named, candidates_from, without_repeats, is_037, candidates, lowest, verdict, finds_among, finds_at, interfaces_from, resolves_method, lists_interface, superclass_of, finds_above, finds_super_037, finds_super, field_in, first_field, field_from, finds_field}
use Rattle.dalvik_defs.specs.declared.names.Signature.{Signature}
use Rattle.dalvik_defs.specs.declared.names.MethodKey.{MethodKey}
use Rattle.dalvik_defs.specs.declared.names.FieldKey.{FieldKey}
use Rattle.dalvik_defs.specs.declared.program.NamedField.{NamedField}
use Rattle.dalvik_defs.specs.declared.program.NamedMethod.{NamedMethod}
use Rattle.dalvik_defs.specs.declared.program.NamedClass.{NamedClass}
use Rattle.dalvik_defs.specs.declared.program.NamedProgram.{NamedProgram}
use Rattle.pass_defs.specs.Kinds.{is_plain, is_program_interface, line_from, line_of, nearest}
use Rattle.program_laws.specs.Bodies.{Change, method_changed, class_changed, changed, KeepsCode}
use Rattle.program_laws.proofs.ChangedLists.{find_same, any_map, flat_same, flat_mapped}

-- what is said of a class that was looked up
abbrev pub class_case : {X : Type 0} → (NamedClass → X) → X → Option NamedClass → X
class_case {X} f z o = elim o as (λ o. X) [ Some c ↦ f c | None ↦ z ]

module _ (new : Change) (p : NamedProgram) where
  abbrev pub other : NamedClass → NamedClass
  other = class_changed new

  abbrev pub q : NamedProgram
  q = changed new p

  -- ---- classes

  pub class_same : (t : Text) → class_named q t ≡ option_map other (class_named p t)
  class_same t = find_same other (λ c. text_eq c.name t) (λ c. refl) p.classes

  pub case_same : {X : Type 0} (f g : NamedClass → X) (z : X) → ((c : NamedClass) → f (other c) ≡ g c) → (o : Option NamedClass) → class_case f z (option_map other o) ≡ class_case g z o
  case_same f g z h None = refl
  case_same f g z h (Some c) = h c

  pub at_class : {X : Type 0} (f g : NamedClass → X) (z : X) → ((c : NamedClass) → f (other c) ≡ g c) → (t : Text) → class_case f z (class_named q t) ≡ class_case g z (class_named p t)
  at_class f g z h t = ap (class_case f z) (class_same t) ∙ case_same f g z h (class_named p t)

  pub count : length q.classes ≡ length p.classes
  count = map_long other p.classes

  pub plain_same : is_plain q ≡ is_plain p
  plain_same = fun_ext (at_class (λ c. not (is_interface c.flags)) (λ c. not (is_interface c.flags)) false (λ c. refl))

  pub program_interface_same : is_program_interface q ≡ is_program_interface p
  program_interface_same = fun_ext (at_class (λ c. is_interface c.flags) (λ c. is_interface c.flags) false (λ c. refl))

  -- ---- chains and lines

  chain_from_same : (n : ℕ) (t : Text) → chain_from n q t ≡ map other (chain_from n p t)
  chain_from_same zero t = refl
  chain_from_same (suc n) t = ap (class_case (λ c. c ∷ chain_from n q c.superclass) []) (class_same t) ∙ by (class_named p t) (chain_from_same n)
    where
      by : (o : Option NamedClass) → ((u : Text) → chain_from n q u ≡ map other (chain_from n p u))
          → class_case (λ c. c ∷ chain_from n q c.superclass) [] (option_map other o) ≡ map other (class_case (λ c. c ∷ chain_from n p c.superclass) [] o)
      by None r = refl
      by (Some c) r = ap (λ cs. other c ∷ cs) (r c.superclass)

  pub chain_same : (t : Text) → chain_of q t ≡ map other (chain_of p t)
  chain_same t = ap (λ n. chain_from n q t) count ∙ chain_from_same (length p.classes) t

  abbrev line_case : ℕ → NamedProgram → NamedClass → List NamedClass
  line_case n r c = c ∷ (if is_interface c.flags then [] else line_from n r c.superclass)

  line_from_same : (n : ℕ) (t : Text) → line_from n q t ≡ map other (line_from n p t)
  line_from_same zero t = refl
  line_from_same (suc n) t = ap (class_case (line_case n q) []) (class_same t) ∙ by (class_named p t) (line_from_same n)
    where
      ends : (c : NamedClass) (b : Bool) → line_from n q c.superclass ≡ map other (line_from n p c.superclass) → (if b then [] else line_from n q c.superclass) ≡ map other (if b then [] else line_from n p c.superclass)
      ends c true r = refl
      ends c false r = r

      by : (o : Option NamedClass) → ((u : Text) → line_from n q u ≡ map other (line_from n p u)) → class_case (line_case n q) [] (option_map other o) ≡ map other (class_case (line_case n p) [] o)
      by None r = refl
      by (Some c) r = ap (λ cs. other c ∷ cs) (ends c (is_interface c.flags) (r c.superclass))

  line_same : (t : Text) → line_of q t ≡ map other (line_of p t)
  line_same t = ap (λ n. line_from n q t) count ∙ line_from_same (length p.classes) t

  abbrev shared : List NamedClass → NamedClass → Bool
  shared ds c = list_any (λ d. text_eq c.name d.name) ds

  abbrev named_first : (NamedClass → Bool) → List NamedClass → Option Text
  named_first f cs = option_map (λ c. c.name) (find f cs)

  name_kept : (o : Option NamedClass) → option_map (λ (c : NamedClass). c.name) (option_map other o) ≡ option_map (λ c. c.name) o
  name_kept None = refl
  name_kept (Some c) = refl

  nearest_at : (s t : Text) → nearest q s t ≡ nearest p s t
  nearest_at s t =
      ap (λ cs. named_first (shared (line_of q t)) cs) (line_same s)
      ∙ ap (λ ds. named_first (shared ds) (map other (line_of p s))) (line_same t)
      ∙ ap (λ f. named_first f (map other (line_of p s))) (fun_ext (λ c. any_map (λ d. text_eq c.name d.name) other (line_of p t)))
      ∙ ap (option_map (λ (c : NamedClass). c.name)) (find_same other (shared (line_of p t)) (λ c. refl) (line_of p s))
      ∙ name_kept (find (shared (line_of p t)) (line_of p s))

  pub nearest_same : nearest q ≡ nearest p
  nearest_same = fun_ext (λ s. fun_ext (nearest_at s))

  -- ---- what stands above, by the program's own lists

  above_same : own_above q ≡ own_above p
  above_same = fun_ext (at_class (λ c. c.superclass ∷ c.interfaces) (λ c. c.superclass ∷ c.interfaces) [] (λ c. refl))

  under_at : (s t : Text) → is_own_under q s t ≡ is_own_under p s t
  under_at s t = ap (λ n. walks (own_above q) n s t) count ∙ ap (λ f. walks f (length p.classes) s t) above_same

  pub under_same : is_own_under q ≡ is_own_under p
  under_same = fun_ext (λ s. fun_ext (under_at s))

  -- ---- fields

  abbrev field_case : (Text → Option (Text × NamedField)) → FieldKey → NamedClass → Option (Text × NamedField)
  field_case next k c = option_or (option_map (λ f. (c.name, f)) (field_in c k.name k.kind)) (first_field (map next (c.interfaces ++ c.superclass ∷ [])))

  field_from_same : (n : ℕ) (k : FieldKey) → field_from n q k ≡ field_from n p k
  field_from_same zero k = refl
  field_from_same (suc n) k = fun_ext (λ t. at_class (field_case (field_from n q k) k) (field_case (field_from n q k) k) None (λ c. refl) t
      ∙ ap (λ next. class_case (field_case next k) None (class_named p t)) (field_from_same n k))

  pub field_same : finds_field q ≡ finds_field p
  field_same = fun_ext (λ k. ap (λ n. field_from n q k k.class) count ∙ ap (λ f. f k.class) (field_from_same (length p.classes) k))

  -- ---- methods

  pub method_same : (c : NamedClass) (n : Text) (s : Signature) → method_in (other c) n s ≡ option_map (method_changed new c) (method_in c n s)
  method_same c n s = find_same (method_changed new c) (λ m. same_name m.name m.signature n s) (λ m. refl) c.methods

  module _ (keeps : KeepsCode new) where
    pub found_same : (c : NamedClass) (m : NamedMethod) → found_in (other c) (method_changed new c m) ≡ found_in c m
    found_same c m = ap (λ b. record (found_in c m) { coded = b }) (keeps c m)

    -- a test of a method that doesn't look at its body
    abbrev Blind : (NamedMethod → Bool) → Type 0
    Blind test = (c : NamedClass) (m : NamedMethod) → test (method_changed new c m) ≡ test m

    passing_same : (test : NamedMethod → Bool) → Blind test → (c : NamedClass) (o : Option NamedMethod) → passing test (other c) (option_map (method_changed new c) o) ≡ passing test c o
    passing_same test h c None = refl
    passing_same test h c (Some m) =
        ap (λ b. elim b as (λ b. Option Found) [ true ↦ Some (found_in (other c) (method_changed new c m)) | false ↦ None ]) (h c m)
        ∙ ap (λ f. elim (test m) as (λ b. Option Found) [ true ↦ Some f | false ↦ None ]) (found_same c m)

    pub passing_in : (test : NamedMethod → Bool) → Blind test → (c : NamedClass) (n : Text) (s : Signature) → passing test (other c) (method_in (other c) n s) ≡ passing test c (method_in c n s)
    passing_in test h c n s = ap (passing test (other c)) (method_same c n s) ∙ passing_same test h c (method_in c n s)

    first_same : (test : NamedMethod → Bool) → Blind test → (n : Text) (s : Signature) (cs : List NamedClass) → first_method test n s (map other cs) ≡ first_method test n s cs
    first_same test h n s [] = refl
    first_same test h n s (c ∷ cs) =
        ap (λ o. option_or o (first_method test n s (map other cs))) (passing_in test h c n s)
        ∙ ap (λ o. option_or (passing test c (method_in c n s)) o) (first_same test h n s cs)

    along : (test : NamedMethod → Bool) → Blind test → (n : Text) (s : Signature) (t : Text) → first_method test n s (chain_of q t) ≡ first_method test n s (chain_of p t)
    along test h n s t = ap (first_method test n s) (chain_same t) ∙ first_same test h n s (chain_of p t)

    pub static_same : finds_statically q ≡ finds_statically p
    static_same = fun_ext (λ k. ap search_of (along (λ m. true) (λ c m. refl) k.name k.signature k.class))

    -- ---- the candidates of interfaces

    pub interface_same : (t : Text) → interface_named q t ≡ option_map other (interface_named p t)
    interface_same t = ap (class_case one None) (class_same t) ∙ by (class_named p t)
      where
        one : NamedClass → Option NamedClass
        one c = elim (is_interface c.flags) as (λ b. Option NamedClass) [ true ↦ Some c | false ↦ None ]

        pick : (c : NamedClass) (b : Bool) → elim b as (λ b. Option NamedClass) [ true ↦ Some (other c) | false ↦ None ] ≡ option_map other (elim b as (λ b. Option NamedClass) [ true ↦ Some c | false ↦ None ])
        pick c true = refl
        pick c false = refl

        by : (o : Option NamedClass) → class_case one None (option_map other o) ≡ option_map other (class_case one None o)
        by None = refl
        by (Some c) = pick c (is_interface c.flags)

    candidate_same : (n : Text) (s : Signature) (c : NamedClass) → own_candidate n s (other c) ≡ own_candidate n s c
    candidate_same n s c = ap (λ o. elim o as (λ o. List Found) [ Some f ↦ f ∷ [] | None ↦ [] ]) (passing_in is_virtual_method (λ c m. refl) c n s)

    abbrev candidate_case : (List Text → List Found) → Text → Signature → NamedClass → List Found
    candidate_case next n s c = own_candidate n s c ++ next c.interfaces

    candidates_from_same : (k : ℕ) (n : Text) (s : Signature) → candidates_from k q n s ≡ candidates_from k p n s
    candidates_from_same zero n s = refl
    candidates_from_same (suc k) n s = fun_ext (λ ts.
        ap (λ f. flat_map f ts) (fun_ext (λ t. ap (class_case (candidate_case (candidates_from k q n s) n s) []) (interface_same t)
        ∙ case_same (candidate_case (candidates_from k q n s) n s) (candidate_case (candidates_from k q n s) n s) [] (λ c. ap (λ fs. fs ++ candidates_from k q n s c.interfaces) (candidate_same n s c)) (interface_named p t)))
        ∙ ap (λ next. flat_map (λ t. class_case (candidate_case next n s) [] (interface_named p t)) ts) (candidates_from_same k n s))

    candidates_same : (ts : List Text) (n : Text) (s : Signature) → candidates q ts n s ≡ candidates p ts n s
    candidates_same ts n s = ap (λ fs. elim (is_037 p.version && not (is_common n s)) as (λ b. List Found) [ true ↦ without_repeats fs | false ↦ [] ])
        (ap (λ k. candidates_from k q n s ts) count ∙ ap (λ f. f ts) (candidates_from_same (length p.classes) n s))

    lowest_same : (fs : List Found) → lowest q fs ≡ lowest p fs
    lowest_same fs = ap (λ under. filter (λ f. f.coded && not (list_any (λ g. not (text_eq g.key.class f.key.class) && under g.key.class f.key.class) fs)) fs) under_same

    among_same : (ts : List Text) (n : Text) (s : Signature) → finds_among q ts n s ≡ finds_among p ts n s
    among_same ts n s = ap verdict (ap (lowest q) (candidates_same ts n s) ∙ lowest_same (candidates p ts n s))

    pub finds_at_same : (t : Text) (k : MethodKey) → finds_at q t k ≡ finds_at p t k
    finds_at_same t k =
        ap (λ o. elim o as (λ o. Search) [ Some f ↦ Finds f | None ↦ finds_among q (flat_map (λ c. c.interfaces) (chain_of q t)) k.name k.signature ]) (along is_virtual_method (λ c m. refl) k.name k.signature t)
        ∙ ap (λ x. elim (first_method is_virtual_method k.name k.signature (chain_of p t)) as (λ o. Search) [ Some f ↦ Finds f | None ↦ x ])
        (ap (λ cs. finds_among q (flat_map (λ c. c.interfaces) cs) k.name k.signature) (chain_same t)
        ∙ ap (λ ts. finds_among q ts k.name k.signature) (flat_same (λ c. c.interfaces) other (λ c. refl) (chain_of p t))
        ∙ among_same (flat_map (λ c. c.interfaces) (chain_of p t)) k.name k.signature)

    -- ---- resolution

    abbrev interfaces_case : (List Text → List NamedClass) → NamedClass → List NamedClass
    interfaces_case next c = c ∷ next c.interfaces

    interfaces_same : (n : ℕ) → interfaces_from n q ≡ (λ ts. map other (interfaces_from n p ts))
    interfaces_same zero = refl
    interfaces_same (suc n) = fun_ext (λ ts.
        ap (λ next. flat_map (λ t. class_case (interfaces_case next) [] (class_named q t)) ts) (interfaces_same n)
        ∙ ap (λ f. flat_map f ts) (fun_ext (λ t. ap (class_case (interfaces_case (λ ts. map other (interfaces_from n p ts))) []) (class_same t) ∙ by (class_named p t)))
        ∙ flat_mapped (λ t. class_case (interfaces_case (interfaces_from n p)) [] (class_named p t)) other ts)
      where
        by : (o : Option NamedClass) → class_case (interfaces_case (λ ts. map other (interfaces_from n p ts))) [] (option_map other o) ≡ map other (class_case (interfaces_case (interfaces_from n p)) [] o)
        by None = refl
        by (Some c) = refl

    resolves_at : (k : MethodKey) → resolves_method q k ≡ resolves_method p k
    resolves_at k =
        ap (λ cs. first_method (λ m. true) k.name k.signature (cs ++ interfaces_from (length q.classes) q (flat_map (λ c. c.interfaces) cs))) (chain_same k.class)
        ∙ ap (λ ts. first_method (λ m. true) k.name k.signature (map other (chain_of p k.class) ++ interfaces_from (length q.classes) q ts)) (flat_same (λ c. c.interfaces) other (λ c. refl) (chain_of p k.class))
        ∙ ap (λ n. first_method (λ m. true) k.name k.signature (map other (chain_of p k.class) ++ interfaces_from n q (flat_map (λ c. c.interfaces) (chain_of p k.class)))) count
        ∙ ap (λ f. first_method (λ m. true) k.name k.signature (map other (chain_of p k.class) ++ f (flat_map (λ c. c.interfaces) (chain_of p k.class)))) (interfaces_same (length p.classes))
        ∙ ap (first_method (λ m. true) k.name k.signature) (sym (map_append other (chain_of p k.class) (interfaces_from (length p.classes) p (flat_map (λ c. c.interfaces) (chain_of p k.class)))))
        ∙ first_same (λ m. true) (λ c m. refl) k.name k.signature (chain_of p k.class ++ interfaces_from (length p.classes) p (flat_map (λ c. c.interfaces) (chain_of p k.class)))

    pub resolves_same : resolves_method q ≡ resolves_method p
    resolves_same = fun_ext resolves_at

    -- ---- super calls

    lists_same : (class t : Text) → lists_interface q class t ≡ lists_interface p class t
    lists_same class t =
        any_map (λ c. is_own_under q class c.name && list_any (text_eq t) c.interfaces) other p.classes
        ∙ ap (λ under. list_any (λ c. under class c.name && list_any (text_eq t) c.interfaces) p.classes) under_same

    finds_above_same : (class : Text) (k : MethodKey) → finds_above q class k ≡ finds_above p class k
    finds_above_same class k = ap search_of
        (ap (λ t. first_method (λ m. true) k.name k.signature (chain_of q t)) (at_class (λ c. c.superclass) (λ c. c.superclass) [] (λ c. refl) class)
        ∙ along (λ m. true) (λ c m. refl) k.name k.signature (superclass_of p class))

    abbrev choice : Bool → Search → Search → Search
    choice b x y = elim b as (λ b. Search) [ true ↦ x | false ↦ y ]

    super_037 : (class : Text) (k : MethodKey) (o : Option NamedClass) → finds_super_037 q class k (option_map other o) ≡ finds_super_037 p class k o
    super_037 class k (Some c) =
        ap (λ x. choice (is_interface c.flags) x (finds_above q class k)) (among_same (c.name ∷ []) k.name k.signature)
        ∙ ap (choice (is_interface c.flags) (finds_among p (c.name ∷ []) k.name k.signature)) (finds_above_same class k)
    super_037 class k None =
        ap (λ b. choice b Nothing (finds_above q class k)) (lists_same class k.class)
        ∙ ap (choice (lists_interface p class k.class) Nothing) (finds_above_same class k)

    super_at : (class : Text) (k : MethodKey) → finds_super q class k ≡ finds_super p class k
    super_at class k =
        ap (λ x. choice (is_037 p.version) x (finds_above q class k)) (ap (finds_super_037 q class k) (class_same k.class) ∙ super_037 class k (class_named p k.class))
        ∙ ap (choice (is_037 p.version) (finds_super_037 p class k (class_named p k.class))) (finds_above_same class k)

    pub super_same : finds_super q ≡ finds_super p
    super_same = fun_ext (λ class. fun_ext (super_at class))
