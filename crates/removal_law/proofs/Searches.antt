-- What calls find in what is left of a program: where all that they find is live, the same.
use Rattle.std.proofs.Common.{◌≡◌, Bool, true, false, List, [], ◌∷◌, ◌++◌, length, refl, sym, ap, ◌∙◌, subst}
use Rattle.std.specs.Prelude.{◌&&◌, ◌||◌, cond, Option, Some, None, is_some, map, filter, find, flat_map}
use Rattle.std.specs.List.{list_any}
use Rattle.std.specs.Option.{option_map}
use Rattle.dalvik_defs.specs.Names.{Text, text_eq}
use Rattle.dalvik_defs.specs.Flags.{is_interface}
use Rattle.dalvik_defs.specs.Under.{class_named, defines, is_own_under}
use Rattle.dalvik_defs.specs.Find.{Found, first_method, chain_of, Search, Nothing, Clash, Finds, search_of, is_virtual_method, interface_named, is_037, candidates, finds_among, finds_at, finds_statically, lists_interface, superclass_of, finds_above, finds_super_037, finds_super}
use Rattle.dalvik_defs.specs.declared.names.Signature.{Signature}
use Rattle.dalvik_defs.specs.declared.names.MethodKey.{MethodKey}
use Rattle.dalvik_defs.specs.declared.program.NamedMethod.{NamedMethod}
use Rattle.dalvik_defs.specs.declared.program.NamedClass.{NamedClass}
use Rattle.dalvik_defs.specs.declared.program.NamedProgram.{NamedProgram}
use Rattle.pass_defs.specs.Live.{Family, KeepsAbove, answers_to}
use Rattle.pass_defs.specs.Calls.{inherits, candidates_of, super_candidates}
use Rattle.removal_law.specs.Left.{left_in, left_of}
use Rattle.removal_law.specs.Reach.{IsRegular}
use Rattle.removal_law.proofs.Lists.{clash, In, here, there}
use Rattle.removal_law.proofs.Walks.{text_same}
use Rattle.removal_law.proofs.Classes.{Kept, class_left}
use Rattle.removal_law.proofs.Trees.{class_name, defined, up_kept, own_under_left, walk_kept, chain_named, chain_kept}
use Rattle.removal_law.proofs.Finds.{out_of_flat, first_where, where_key, chain_same, chain_first, among_left, among_in}

-- ---- lists

any_left : {A : Type 0} (f h keep : A → Bool) (g : A → A) (xs : List A) → ((x : A) → In x xs → keep x ≡ true → f (g x) ≡ h x) → ((x : A) → In x xs → keep x ≡ false → h x ≡ false)
    → list_any f (map g (filter keep xs)) ≡ list_any h xs
any_left f h keep g [] a b = refl
any_left f h keep g (x ∷ xs) a b = by (keep x) refl (any_left f h keep g xs (λ y i. a y (there x xs i)) (λ y i. b y (there x xs i)))
  where
    by : (d : Bool) → keep x ≡ d → list_any f (map g (filter keep xs)) ≡ list_any h xs → list_any f (map g (filter keep (x ∷ xs))) ≡ list_any h (x ∷ xs)
    by true e ih = ap (λ d. list_any f (map g (cond d (x ∷ filter keep xs) (filter keep xs)))) e ∙ ap (λ d. d || list_any f (map g (filter keep xs))) (a x (here xs) e) ∙ ap (λ d. h x || d) ih
    by false e ih = ap (λ d. list_any f (map g (cond d (x ∷ filter keep xs) (filter keep xs)))) e ∙ ih ∙ ap (λ d. d || list_any h xs) (sym (b x (here xs) e))

flat_mapped : {A B : Type 0} (f : A → List B) (g : A → A) (xs : List A) → ((x : A) → f (g x) ≡ f x) → flat_map f (map g xs) ≡ flat_map f xs
flat_mapped f g [] h = refl
flat_mapped f g (x ∷ xs) h = ap (λ ys. ys ++ flat_map f (map g xs)) (h x) ∙ ap (λ ys. f x ++ ys) (flat_mapped f g xs h)

pub class_defined : (p : NamedProgram) (c : NamedClass) → In c p.classes → defines p c.name ≡ true
class_defined p c i = by p.classes i
  where
    by : (cs : List NamedClass) → In c cs → (elim (find (λ d. text_eq d.name c.name) cs) as (λ o. Bool) [ Some d ↦ true | None ↦ false ]) ≡ true
    by [] i = elim i [ ]
    by (d ∷ cs) (here ds) = ap (λ b. elim (cond b (Some d) (find (λ x. text_eq x.name d.name) cs)) as (λ o. Bool) [ Some d ↦ true | None ↦ false ]) (text_same d.name)
    by (d ∷ cs) (there y ds j) = at (text_eq d.name c.name) (by cs j)
      where
        at : (b : Bool) → (elim (find (λ d. text_eq d.name c.name) cs) as (λ o. Bool) [ Some d ↦ true | None ↦ false ]) ≡ true
            → (elim (cond b (Some d) (find (λ d. text_eq d.name c.name) cs)) as (λ o. Bool) [ Some d ↦ true | None ↦ false ]) ≡ true
        at true h = refl
        at false h = h

pub finds_same : (f g : Found) → Finds f ≡ Finds g → f ≡ g
finds_same f g e = ap (λ x. elim x as (λ x. Found) [ Nothing ↦ f | Clash ↦ f | Finds h ↦ h ]) e

pub nothing_finds : {A : Type 0} (f : Found) → Nothing ≡ Finds f → A
nothing_finds f e = clash true refl (ap (λ x. elim x as (λ x. Bool) [ Nothing ↦ true | Clash ↦ true | Finds h ↦ false ]) e)

module _ (p : NamedProgram) (s : Family) (above : KeepsAbove p s) (regular : IsRegular p) where
  abbrev q : NamedProgram
  q = left_of s p

  pub empty_kept : Kept s p []
  empty_kept = λ e. clash false (regular.names [] e) refl

  -- ---- along the superclasses

  abbrev any_method : NamedMethod → Bool
  any_method m = true

  pub along_left : (k : MethodKey) (t : Text) → Kept s p t → ((g : Found) → search_of (first_method any_method k.name k.signature (chain_of p t)) ≡ Finds g → s.methods g.key ≡ true)
      → search_of (first_method any_method k.name k.signature (chain_of q t)) ≡ search_of (first_method any_method k.name k.signature (chain_of p t))
  along_left k t h l = ap search_of (chain_first p s above regular any_method k.name k.signature t h (λ f e. l f (ap search_of e)))

  search_some : (o : Option Found) (f : Found) → search_of o ≡ Finds f → o ≡ Some f
  search_some None f e = nothing_finds f e
  search_some (Some g) f e = ap Some (finds_same g f e)

  pub chain_defined : (test : NamedMethod → Bool) (n : Text) (g : Signature) (t : Text) (f : Found) → first_method test n g (chain_of p t) ≡ Some f → defines p f.key.class ≡ true
  chain_defined test n g t f e = let w = first_where test n g (chain_of p t) f e in
      ap (defines p) (ap (λ k. k.class) (where_key s test n g (chain_of p t) f w)) ∙ defined p w.class.name w.class (chain_named p s above (length p.classes) t w.class w.stands)

  pub along_defined : (k : MethodKey) (t : Text) (f : Found) → search_of (first_method any_method k.name k.signature (chain_of p t)) ≡ Finds f → defines p f.key.class ≡ true
  along_defined k t f e = chain_defined any_method k.name k.signature t f (search_some (first_method any_method k.name k.signature (chain_of p t)) f e)

  -- a static or direct call
  pub statically_left : (k : MethodKey) → Kept s p k.class → ((g : Found) → finds_statically p k ≡ Finds g → s.methods g.key ≡ true) → finds_statically q k ≡ finds_statically p k
  statically_left k h l = along_left k k.class h l

  -- ---- super calls

  abbrev super_in : Option NamedClass → Text
  super_in o = elim o as (λ o. Text) [ Some c ↦ c.superclass | None ↦ [] ]

  super_same : (t : Text) → Kept s p t → superclass_of q t ≡ superclass_of p t
  super_same t h = ap super_in (class_left s p t h) ∙ by (class_named p t)
    where
      by : (o : Option NamedClass) → super_in (option_map (left_in s) o) ≡ super_in o
      by None = refl
      by (Some c) = refl

  super_kept : (t : Text) → Kept s p t → Kept s p (superclass_of p t)
  super_kept t h = by (class_named p t) refl
    where
      by : (o : Option NamedClass) → class_named p t ≡ o → Kept s p (super_in o)
      by None e = empty_kept
      by (Some c) e = up_kept p s above t c e h c.superclass (here c.interfaces)

  above_left : (class : Text) (k : MethodKey) → Kept s p class → ((g : Found) → finds_above p class k ≡ Finds g → s.methods g.key ≡ true) → finds_above q class k ≡ finds_above p class k
  above_left class k h l = ap (λ t. search_of (first_method any_method k.name k.signature (chain_of q t))) (super_same class h) ∙ along_left k (superclass_of p class) (super_kept class h) l

  lists_left : (class t : Text) → Kept s p class → lists_interface q class t ≡ lists_interface p class t
  lists_left class t h = any_left (λ c. is_own_under q class c.name && list_any (text_eq t) c.interfaces) (λ c. is_own_under p class c.name && list_any (text_eq t) c.interfaces)
      (λ c. s.classes c.name) (left_in s) p.classes
      (λ c i e. ap (λ b. b && list_any (text_eq t) c.interfaces) (own_under_left p s above regular class c.name h))
      (λ c i e. by c i e (is_own_under p class c.name) refl)
    where
      by : (c : NamedClass) → In c p.classes → s.classes c.name ≡ false → (b : Bool) → is_own_under p class c.name ≡ b → (is_own_under p class c.name && list_any (text_eq t) c.interfaces) ≡ false
      by c i e true j = clash (s.classes c.name) (walk_kept p s above (length p.classes) class c.name h j (class_defined p c i)) e
      by c i e false j = ap (λ b. b && list_any (text_eq t) c.interfaces) j

  module _ (live_kept : (f : Found) → s.methods f.key ≡ true → Kept s p f.key.class) (class : Text) (k : MethodKey) (h : Kept s p class) where
    abbrev super_of : NamedProgram → Bool → Option NamedClass → Search
    super_of r b o = elim b as (λ b. Search) [ true ↦ finds_super_037 r class k o | false ↦ finds_above r class k ]

    super_cases : (b : Bool) (o : Option NamedClass) → ((c : NamedClass) → o ≡ Some c → Kept s p c.name)
        → ((g : Found) → super_of p b o ≡ Finds g → s.methods g.key ≡ true)
        → (b ≡ true → (c : NamedClass) → o ≡ Some c → is_interface c.flags ≡ true → (f : Found) → In f (candidates p (c.name ∷ []) k.name k.signature) → s.methods f.key ≡ true)
        → super_of q b (option_map (left_in s) o) ≡ super_of p b o
    super_cases false o n l m = above_left class k h l
    super_cases true None n l m = at (lists_interface p class k.class) l (lists_left class k.class h)
      where
        at : (b : Bool) → ((g : Found) → (elim b as (λ b. Search) [ true ↦ Nothing | false ↦ finds_above p class k ]) ≡ Finds g → s.methods g.key ≡ true) → lists_interface q class k.class ≡ b
            → (elim (lists_interface q class k.class) as (λ b. Search) [ true ↦ Nothing | false ↦ finds_above q class k ]) ≡ (elim b as (λ b. Search) [ true ↦ Nothing | false ↦ finds_above p class k ])
        at true l e = ap (λ b. elim b as (λ b. Search) [ true ↦ Nothing | false ↦ finds_above q class k ]) e
        at false l e = ap (λ b. elim b as (λ b. Search) [ true ↦ Nothing | false ↦ finds_above q class k ]) e ∙ above_left class k h l
    super_cases true (Some c) n l m = at (is_interface c.flags) l (m refl c refl)
      where
        only : (t : Text) → In t (c.name ∷ []) → Kept s p t
        only t (here ts) = n c refl
        only t (there y ts i) = elim i [ ]

        at : (b : Bool) → ((g : Found) → (elim b as (λ b. Search) [ true ↦ finds_among p (c.name ∷ []) k.name k.signature | false ↦ finds_above p class k ]) ≡ Finds g → s.methods g.key ≡ true)
            → (b ≡ true → (f : Found) → In f (candidates p (c.name ∷ []) k.name k.signature) → s.methods f.key ≡ true)
            → (elim b as (λ b. Search) [ true ↦ finds_among q (c.name ∷ []) k.name k.signature | false ↦ finds_above q class k ]) ≡ (elim b as (λ b. Search) [ true ↦ finds_among p (c.name ∷ []) k.name k.signature | false ↦ finds_above p class k ])
        at true l m = among_left p s above regular (c.name ∷ []) k.name k.signature only (m refl) live_kept
        at false l m = above_left class k h l

    pub super_left : Kept s p k.class → ((g : Found) → finds_super p class k ≡ Finds g → s.methods g.key ≡ true) → ((f : Found) → In f (super_candidates p k) → s.methods f.key ≡ true)
        → finds_super q class k ≡ finds_super p class k
    super_left n l m = ap (super_of q (is_037 p.version)) (class_left s p k.class n) ∙ by (is_037 p.version) refl (class_named p k.class) refl l
      where
        abbrev_of : (c : NamedClass) → class_named p k.class ≡ Some c → is_interface c.flags ≡ true → is_some (interface_named p k.class) ≡ true
        abbrev_of c e i = ap (λ o. is_some (elim o as (λ o. Option NamedClass) [ Some c ↦ elim (is_interface c.flags) as (λ b. Option NamedClass) [ true ↦ Some c | false ↦ None ] | None ↦ None ])) e
            ∙ ap (λ b. is_some (elim b as (λ b. Option NamedClass) [ true ↦ Some c | false ↦ None ])) i

        cands : is_037 p.version ≡ true → (c : NamedClass) → class_named p k.class ≡ Some c → is_interface c.flags ≡ true → (f : Found) → In f (candidates p (c.name ∷ []) k.name k.signature) → s.methods f.key ≡ true
        cands v c e i f j = m f (subst (λ b. In f (elim b as (λ b. List Found) [ true ↦ candidates p (k.class ∷ []) k.name k.signature | false ↦ [] ]))
            (sym (ap (λ b. b && is_some (interface_named p k.class)) v ∙ abbrev_of c e i))
            (subst (λ t. In f (candidates p (t ∷ []) k.name k.signature)) (class_name p k.class c e) j))

        by : (b : Bool) → is_037 p.version ≡ b → (o : Option NamedClass) → class_named p k.class ≡ o → ((g : Found) → super_of p b o ≡ Finds g → s.methods g.key ≡ true) → super_of q b (option_map (left_in s) o) ≡ super_of p b o
        by b e o i l = super_cases b o (λ c j. subst (Kept s p) (sym (class_name p k.class c (i ∙ j))) n) l (λ v c j a. cands (e ∙ v) c (i ∙ j) a)

  -- ---- virtual and interface calls

  pub interfaces_kept : (t u : Text) → Kept s p t → In u (flat_map (λ c. c.interfaces) (chain_of p t)) → Kept s p u
  interfaces_kept t u h i = let w = out_of_flat (λ c. c.interfaces) u (chain_of p t) i in
      up_kept p s above w.0.name w.0 (chain_named p s above (length p.classes) t w.0 w.1.0) (chain_kept p s above (length p.classes) t w.0 h w.1.0) u (there w.0.superclass w.0.interfaces w.1.1)

  pub interfaces_same : (t : Text) → Kept s p t → flat_map (λ c. c.interfaces) (chain_of q t) ≡ flat_map (λ c. c.interfaces) (chain_of p t)
  interfaces_same t h = ap (flat_map (λ c. c.interfaces)) (chain_same p s above regular t h) ∙ flat_mapped (λ c. c.interfaces) (left_in s) (chain_of p t) (λ c. refl)

  abbrev at_of : NamedProgram → List Text → MethodKey → Option Found → Search
  at_of r ts k o = elim o as (λ o. Search) [ Some f ↦ Finds f | None ↦ finds_among r ts k.name k.signature ]

  abbrev answers_of : Text → Text → Signature → Option Found → List Found
  answers_of t n g o = elim o as (λ o. List Found) [ Some f ↦ f ∷ [] | None ↦ candidates_of p t n g ]

  pub at_left : ((f : Found) → s.methods f.key ≡ true → Kept s p f.key.class) → (t : Text) (k : MethodKey) → Kept s p t
      → ((f : Found) → In f (answers_to p t k.name k.signature) → s.methods f.key ≡ true) → finds_at q t k ≡ finds_at p t k
  at_left live_kept t k h l =
      ap (at_of q (flat_map (λ c. c.interfaces) (chain_of q t)) k) (chain_first p s above regular is_virtual_method k.name k.signature t h
      (λ f e. l f (subst (λ o. In f (answers_of t k.name k.signature o)) (sym e) (here []))))
      ∙ ap (λ ts. at_of q ts k (inherits p t k.name k.signature)) (interfaces_same t h)
      ∙ by (inherits p t k.name k.signature) l
    where
      by : (o : Option Found) → ((f : Found) → In f (answers_of t k.name k.signature o) → s.methods f.key ≡ true)
          → at_of q (flat_map (λ c. c.interfaces) (chain_of p t)) k o ≡ at_of p (flat_map (λ c. c.interfaces) (chain_of p t)) k o
      by (Some f) l = refl
      by None l = among_left p s above regular (flat_map (λ c. c.interfaces) (chain_of p t)) k.name k.signature (λ u i. interfaces_kept t u h i) l live_kept

  pub at_some : (t : Text) (k : MethodKey) (g : Found) → inherits p t k.name k.signature ≡ Some g → finds_at p t k ≡ Finds g
  at_some t k g e = ap (at_of p (flat_map (λ c. c.interfaces) (chain_of p t)) k) e

  pub at_in : (t : Text) (k : MethodKey) (f : Found) → finds_at p t k ≡ Finds f → In f (answers_to p t k.name k.signature)
  at_in t k f e = by (inherits p t k.name k.signature) e
    where
      by : (o : Option Found) → at_of p (flat_map (λ c. c.interfaces) (chain_of p t)) k o ≡ Finds f → In f (answers_of t k.name k.signature o)
      by (Some g) i = subst (λ x. In x (g ∷ [])) (finds_same g f i) (here [])
      by None i = among_in p s above regular (flat_map (λ c. c.interfaces) (chain_of p t)) k.name k.signature f i
