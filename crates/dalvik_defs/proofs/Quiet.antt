-- Trivially initialised classes are calm.
use Rattle.std.proofs.Common.{◌≡◌, ℕ, zero, suc, Bool, true, false, true≢false, not, ◌&&◌, List, [], ◌∷◌, ◌++◌, Option, Some, None, refl, sym, ap, ◌∙◌, subst}
use Rattle.std.specs.Prelude.{is_some, is_none, find, length, cond}
use Rattle.std.specs.List.{list_all}
use Rattle.dalvik_defs.specs.Names.{Text, text_eq}
use Rattle.dalvik_defs.specs.Flags.{is_interface}
use Rattle.dalvik_defs.specs.Under.{class_named, defines}
use Rattle.dalvik_defs.specs.Find.{is_037, chain_from}
use Rattle.dalvik_defs.specs.Initialised.{initialiser_in, initialiser_of, has_default, only_if, interfaces_before, firsts, interfaces_first, first_of_class, initialised_first, has_initialiser, interfaces_quiet, is_trivial}
use Rattle.dalvik_defs.specs.Face.{Face, face_of}
use Rattle.dalvik_defs.specs.Quiet.{quiet_within, EndsWithin, calm_opening}
use Rattle.dalvik_defs.specs.Outer.{Outer}
use Rattle.dalvik_defs.specs.Happens.{Setting}
use Rattle.dalvik_defs.specs.Step.{shows_from, shows, setting_of}
use Rattle.dalvik_defs.specs.Shown.{IsPrefixOf}
use Rattle.dalvik_defs.specs.Face.{bodies_of}
use Rattle.dalvik_defs.specs.declared.script.Move.{Move}
use Rattle.dalvik_defs.specs.declared.tables.Floats.{Floats}
use Rattle.dalvik_defs.specs.declared.names.MethodKey.{MethodKey}
use Rattle.dalvik_defs.specs.declared.program.NamedClass.{NamedClass}
use Rattle.dalvik_defs.specs.declared.program.NamedProgram.{NamedProgram}
use Rattle.dalvik_defs.specs.declared.tables.Framework.{Framework}
use Rattle.dalvik_defs.proofs.Same.{and_more, all_more}
use Rattle.dalvik_defs.proofs.Simulation.{joined}
use Rattle.dalvik_defs.proofs.Calm.{Each, each_map, text_sound, IsDeep, IsCalm, calm_shows, calm_shown}
use Rattle.dalvik_defs.proofs.Firsts.{each_firsts}

-- ---- tests

and_left : (a b : Bool) → (a && b) ≡ true → a ≡ true
and_left true b e = refl
and_left false b e = e

and_right : (a b : Bool) → (a && b) ≡ true → b ≡ true
and_right true b e = e
and_right false b e = absurd (true≢false (sym e))

and_both : (a b : Bool) → a ≡ true → b ≡ true → (a && b) ≡ true
and_both true b e f = f
and_both false b e f = e

none_of : {A : Type 0} (o : Option A) → is_none o ≡ true → o ≡ None
none_of None e = refl
none_of (Some x) e = absurd (true≢false (sym e))

not_some : {A : Type 0} (o : Option A) → not (is_some o) ≡ true → o ≡ None
not_some None e = refl
not_some (Some x) e = absurd (true≢false (sym e))

all_of : (g : Text → Bool) (l : List Text) → Each (λ u. g u ≡ true) l → list_all g l ≡ true
all_of g [] h = refl
all_of g (u ∷ us) h = and_both (g u) (list_all g us) h.0 (all_of g us h.1)

of_all : (g : Text → Bool) (l : List Text) → list_all g l ≡ true → Each (λ u. g u ≡ true) l
of_all g [] h = tt
of_all g (u ∷ us) h = (and_left (g u) (list_all g us) h, of_all g us (and_right (g u) (list_all g us) h))

each_append : (P : Text → Type 0) (xs ys : List Text) → Each P xs → Each P ys → Each P (xs ++ ys)
each_append P [] ys h k = k
each_append P (x ∷ xs) ys h k = (h.0, each_append P xs ys h.1 k)

-- ---- classes that do nothing within so many levels

within_more : (face : Face) (n : ℕ) (t : Text) → quiet_within face n t ≡ true → quiet_within face (suc n) t ≡ true
within_more face zero t e = absurd (true≢false (sym e))
within_more face (suc n) t e = and_more (is_none (face.initialiser t)) (list_all (quiet_within face n) (face.first t)) (is_none (face.initialiser t)) (list_all (quiet_within face (suc n)) (face.first t))
    (λ x. x) (all_more (quiet_within face n) (quiet_within face (suc n)) (within_more face n) (face.first t)) e

within_joined : (face : Face) (k n : ℕ) (t : Text) → quiet_within face n t ≡ true → quiet_within face (joined k n) t ≡ true
within_joined face zero n t e = e
within_joined face (suc k) n t e = within_more face (joined k n) t (within_joined face k n t e)

joined_suc : (k n : ℕ) → joined (suc k) n ≡ joined k (suc n)
joined_suc zero n = refl
joined_suc (suc k) n = ap (λ x. suc x) (joined_suc k n)

within_deep : (s : Setting) (m n k : ℕ) (t : Text) → joined k n ≡ m → quiet_within s.face n t ≡ true → IsDeep s (quiet_within s.face m) n t
within_deep s m zero k t e h = true≢false (sym h)
within_deep s m (suc n) k t e h = each_map (λ u. quiet_within s.face n u ≡ true) (λ u. (quiet_within s.face m u ≡ true) × IsDeep s (quiet_within s.face m) n u)
    (λ u g. (subst (λ x. quiet_within s.face x u ≡ true) (joined_suc k n ∙ e) (within_joined s.face (suc k) n u g), within_deep s m n (suc k) u (joined_suc k n ∙ e) g))
    (s.face.first t) (of_all (quiet_within s.face n) (s.face.first t) (and_right (is_none (s.face.initialiser t)) (list_all (quiet_within s.face n) (s.face.first t)) h))

within_none : (face : Face) (n : ℕ) (t : Text) → quiet_within face n t ≡ true → face.initialiser t ≡ None
within_none face zero t h = absurd (true≢false (sym h))
within_none face (suc n) t h = none_of (face.initialiser t) (and_left (is_none (face.initialiser t)) (list_all (quiet_within face n) (face.first t)) h)

-- whatever the number of levels, these classes are calm
pub quiet_calm : (s : Setting) (n : ℕ) → IsCalm s (quiet_within s.face n)
quiet_calm s n = record { initialiser = λ t h. within_none s.face n t h; grounded = λ t h. (n, within_deep s n n 0 t refl h) }

-- ---- in a program

found_step : (t : Text) (d : NamedClass) (ds : List NamedClass) (c : NamedClass) → (find (λ x. text_eq x.name t) ds ≡ Some c → text_eq c.name t ≡ true)
    → (b : Bool) → text_eq d.name t ≡ b → cond b (Some d) (find (λ x. text_eq x.name t) ds) ≡ Some c → text_eq c.name t ≡ true
found_step t d ds c below true f e = sym (ap (λ o. elim o as (λ o. Bool) [ Some x ↦ text_eq x.name t | None ↦ true ]) e) ∙ f
found_step t d ds c below false f e = below e

found_at : (t : Text) (cs : List NamedClass) (c : NamedClass) → find (λ d. text_eq d.name t) cs ≡ Some c → text_eq c.name t ≡ true
found_at t [] c e = absurd (true≢false (sym (ap is_some e)))
found_at t (d ∷ ds) c e = found_step t d ds c (found_at t ds c) (text_eq d.name t) refl e

name_of : (p : NamedProgram) (t : Text) (c : NamedClass) → class_named p t ≡ Some c → c.name ≡ t
name_of p t c e = text_sound c.name t (found_at t p.classes c e)

module _ (p : NamedProgram) where
  -- no initialiser, and nothing comes first
  abbrev Fine : Text → Type 0
  Fine u = (initialiser_of p u ≡ None) × (initialised_first p u ≡ [])

  abbrev initialiser_at : Option NamedClass → Option MethodKey
  initialiser_at o = elim o [ Some c ↦ initialiser_in c | None ↦ None ]

  abbrev first_at : Option NamedClass → List Text
  first_at o = elim o [ Some c ↦ first_of_class p c | None ↦ [] ]

  abbrev class_first : Bool → NamedClass → List Text
  class_first b c = elim b [ true ↦ [] | false ↦ only_if (defines p c.superclass) c.superclass ++ interfaces_first p c ]

  fine_none : (u : Text) → class_named p u ≡ None → Fine u
  fine_none u e = (ap initialiser_at e, ap first_at e)

  fine_interface : (u : Text) (c : NamedClass) → class_named p u ≡ Some c → is_interface c.flags ≡ true → not (has_initialiser p u) ≡ true → Fine u
  fine_interface u c e f h = (not_some (initialiser_of p u) h, ap first_at e ∙ ap (λ b. class_first b c) f)

  abbrev interface_at : Option NamedClass → Option NamedClass
  interface_at o = elim o [ Some c ↦ elim (is_interface c.flags) as (λ b. Option NamedClass) [ true ↦ Some c | false ↦ None ] | None ↦ None ]

  abbrev before_at : ℕ → Text → Option NamedClass → List Text
  before_at n t o = elim o [ Some c ↦ interfaces_before n p c.interfaces ++ only_if (has_default c) t | None ↦ [] ]

  abbrev quiet_at : ℕ → Text → Option NamedClass → Bool
  quiet_at n t o = elim o [ Some c ↦ not (has_initialiser p t) && interfaces_quiet n p c.interfaces | None ↦ true ]

  only_fine : (b : Bool) (t : Text) → Fine t → Each Fine (only_if b t)
  only_fine true t h = (h, tt)
  only_fine false t h = tt

  one_before : (n : ℕ) (t : Text) → ((ts : List Text) → interfaces_quiet n p ts ≡ true → Each Fine (interfaces_before n p ts))
      → (o : Option NamedClass) → class_named p t ≡ o → quiet_at n t o ≡ true → Each Fine (before_at n t (interface_at o))
  one_before n t below None e h = tt
  one_before n t below (Some c) e h = at (is_interface c.flags) refl where
    at : (b : Bool) → is_interface c.flags ≡ b → Each Fine (before_at n t (elim b as (λ b. Option NamedClass) [ true ↦ Some c | false ↦ None ]))
    at false f = tt
    at true f = each_append Fine (interfaces_before n p c.interfaces) (only_if (has_default c) t)
        (below c.interfaces (and_right (not (has_initialiser p t)) (interfaces_quiet n p c.interfaces) h))
        (only_fine (has_default c) t (fine_interface t c e f (and_left (not (has_initialiser p t)) (interfaces_quiet n p c.interfaces) h)))

  list_before : (n : ℕ) → ((ts : List Text) → interfaces_quiet n p ts ≡ true → Each Fine (interfaces_before n p ts)) → (ts : List Text) → interfaces_quiet (suc n) p ts ≡ true → Each Fine (interfaces_before (suc n) p ts)
  list_before n below [] h = tt
  list_before n below (t ∷ ts) h = each_append Fine (before_at n t (interface_at (class_named p t))) (interfaces_before (suc n) p ts)
      (one_before n t below (class_named p t) refl (and_left (quiet_at n t (class_named p t)) (interfaces_quiet (suc n) p ts) h))
      (list_before n below ts (and_right (quiet_at n t (class_named p t)) (interfaces_quiet (suc n) p ts) h))

  before_fine : (n : ℕ) (ts : List Text) → interfaces_quiet n p ts ≡ true → Each Fine (interfaces_before n p ts)
  before_fine zero ts h = tt
  before_fine (suc n) ts h = list_before n (before_fine n) ts h

  first_fine : (c : NamedClass) → interfaces_quiet (length p.classes) p c.interfaces ≡ true → Each Fine (interfaces_first p c)
  first_fine c h = at (is_037 p.version) where
    at : (b : Bool) → Each Fine (elim b as (λ b. List Text) [ true ↦ firsts (interfaces_before (length p.classes) p c.interfaces) | false ↦ [] ])
    at true = each_firsts Fine (interfaces_before (length p.classes) p c.interfaces) (before_fine (length p.classes) c.interfaces h)
    at false = tt

  module _ (f : Framework) where
    fine_quiet : (n : ℕ) (u : Text) → Fine u → quiet_within (face_of p f) (suc n) u ≡ true
    fine_quiet n u h = and_both (is_none (initialiser_of p u)) (list_all (quiet_within (face_of p f) n) (initialised_first p u)) (ap is_none h.0) (ap (list_all (quiet_within (face_of p f) n)) h.1)

    abbrev quiet_class : NamedClass → Bool
    quiet_class c = not (has_initialiser p c.name) && interfaces_quiet (length p.classes) p c.interfaces

    abbrev chain_at : ℕ → Option NamedClass → List NamedClass
    chain_at n o = elim o [ Some c ↦ c ∷ chain_from n p c.superclass | None ↦ [] ]

    superclass_quiet : (b : Bool) (n : ℕ) (u : Text) → quiet_within (face_of p f) n u ≡ true → Each (λ u. quiet_within (face_of p f) n u ≡ true) (only_if b u)
    superclass_quiet true n u h = (h, tt)
    superclass_quiet false n u h = tt

    class_quiet : (n : ℕ) (c : NamedClass) → interfaces_quiet (length p.classes) p c.interfaces ≡ true → quiet_within (face_of p f) (suc n) c.superclass ≡ true
        → (b : Bool) → Each (λ u. quiet_within (face_of p f) (suc n) u ≡ true) (class_first b c)
    class_quiet n c h k true = tt
    class_quiet n c h k false = each_append (λ u. quiet_within (face_of p f) (suc n) u ≡ true) (only_if (defines p c.superclass) c.superclass) (interfaces_first p c)
        (superclass_quiet (defines p c.superclass) (suc n) c.superclass k)
        (each_map Fine (λ u. quiet_within (face_of p f) (suc n) u ≡ true) (fine_quiet n) (interfaces_first p c) (first_fine c h))

    quiet_step : (n : ℕ) (t : Text) → EndsWithin p (suc n) t → ((u : Text) → EndsWithin p n u → list_all quiet_class (chain_from n p u) ≡ true → quiet_within (face_of p f) (suc n) u ≡ true)
        → (o : Option NamedClass) → class_named p t ≡ o → list_all quiet_class (chain_at n o) ≡ true → quiet_within (face_of p f) (suc (suc n)) t ≡ true
    quiet_step n t w below None e h = fine_quiet (suc n) t (fine_none t e)
    quiet_step n t w below (Some c) e h =
        let own = and_left (quiet_class c) (list_all quiet_class (chain_from n p c.superclass)) h in
        let rest = and_right (quiet_class c) (list_all quiet_class (chain_from n p c.superclass)) h in
        let none : initialiser_of p t ≡ None = not_some (initialiser_of p t) (subst (λ u. not (has_initialiser p u) ≡ true) (name_of p t c e) (and_left (not (has_initialiser p c.name)) (interfaces_quiet (length p.classes) p c.interfaces) own)) in
        let each = class_quiet n c (and_right (not (has_initialiser p c.name)) (interfaces_quiet (length p.classes) p c.interfaces) own) (below c.superclass (w c e) rest) (is_interface c.flags) in
        and_both (is_none (initialiser_of p t)) (list_all (quiet_within (face_of p f) (suc n)) (initialised_first p t)) (ap is_none none)
        (ap (λ o. list_all (quiet_within (face_of p f) (suc n)) (first_at o)) e ∙ all_of (quiet_within (face_of p f) (suc n)) (class_first (is_interface c.flags) c) each)

    quiet_from : (n : ℕ) (t : Text) → EndsWithin p n t → list_all quiet_class (chain_from n p t) ≡ true → quiet_within (face_of p f) (suc n) t ≡ true
    quiet_from zero t w h = fine_quiet 0 t (fine_none t w)
    quiet_from (suc n) t w h = quiet_step n t w (quiet_from n) (class_named p t) refl h

    -- where no class is its own ancestor, so that all superclasses end, a trivially initialised class is one of these
    pub trivial_quiet : (t : Text) → EndsWithin p (length p.classes) t → is_trivial p t ≡ true → quiet_within (face_of p f) (suc (length p.classes)) t ≡ true
    trivial_quiet t w h = quiet_from (length p.classes) t w h

-- what a program shows, it shows where the quiet classes are done, and conversely
pub quiet_shows : (p : NamedProgram) (o : Outer) (f : Framework) (a : Floats) (script : List Move) (level n : ℕ)
    → (m : ℕ) × IsPrefixOf (shows p o f a script n) (shows_from (setting_of p o f a) (bodies_of p) (calm_opening (quiet_within (face_of p f) level) script) m)
quiet_shows p o f a script level n = (calm_shows (setting_of p o f a) (bodies_of p) (quiet_within (face_of p f) level) (quiet_calm (setting_of p o f a) level) script).within n

pub quiet_shown : (p : NamedProgram) (o : Outer) (f : Framework) (a : Floats) (script : List Move) (level n : ℕ)
    → (m : ℕ) × IsPrefixOf (shows_from (setting_of p o f a) (bodies_of p) (calm_opening (quiet_within (face_of p f) level) script) n) (shows p o f a script m)
quiet_shown p o f a script level n = (calm_shown (setting_of p o f a) (bodies_of p) (quiet_within (face_of p f) level) (quiet_calm (setting_of p o f a) level) script).within n
