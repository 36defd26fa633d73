-- What fits a class fits the plain classes above it: between them stand plain classes alone, so the upper one stands in the line of
-- the lower one, and the order of kinds is transitive.
use Rattle.std.proofs.Common.{◌≡◌, ℕ, zero, suc, ◌≤◌, Bool, true, false, List, [], ◌∷◌, length, refl, sym, ap, ◌∙◌, subst, arith}
use Rattle.std.specs.Prelude.{◌&&◌, ◌||◌, not, cond, Option, Some, None, find, if◌then◌else◌}
use Rattle.std.specs.List.{list_any}
use Rattle.std.specs.Option.{option_map}
use Rattle.lemmas.proofs.Bools.{untrue}
use Rattle.lemmas.proofs.Options.{none_some}
use Rattle.dalvik_defs.specs.Names.{Text, text_eq, is_class_type}
use Rattle.dalvik_defs.specs.Flags.{is_interface}
use Rattle.dalvik_defs.specs.Quiet.{EndsWithin}
use Rattle.dalvik_defs.specs.Under.{class_named}
use Rattle.dalvik_defs.specs.Find.{chain_from}
use Rattle.dalvik_defs.specs.declared.program.NamedClass.{NamedClass}
use Rattle.dalvik_defs.specs.declared.program.NamedProgram.{NamedProgram}
use Rattle.dalvik_defs.proofs.Calm.{text_sound}
use Rattle.pass_defs.specs.Kinds.{Kind, Class, kind_eq, is_initialised, is_plain, line_from, line_of, nearest, class_or_reference, is_below, fits}
use Rattle.program_laws.specs.Rooted.{IsRooted}
use Rattle.program_laws.proofs.Lines.{near_trans}
use Rattle.program_laws.proofs.Transitive.{transitive}
use Rattle.removal_law.proofs.Lists.{clash}
use Rattle.removal_law.proofs.Trees.{class_name}
use Rattle.removal_law.proofs.Walks.{text_same}
use Rattle.static_law.specs.Static.{FitsUpward, FreeInterfaces}

-- ---- class types

pub begins_class : (t : Text) → is_class_type t ≡ true → (us : Text) × (t ≡ 76 ∷ us)
begins_class [] e = clash false e refl
begins_class (u ∷ us) e = (us, ap (λ x. elim x as (λ x. Text) [ [] ↦ u ∷ us | v ∷ vs ↦ v ∷ us ]) (text_sound (u ∷ []) (76 ∷ []) (ap (λ b. b && true) e)))

-- what fits a plain class is below it
class_fits : (p : NamedProgram) (t : Text) (k : Kind) → is_class_type t ≡ true → is_plain p t ≡ true → fits p k t ≡ is_below p k (Class t)
class_fits p t k e h = let r = begins_class t e in
    subst (λ t. is_plain p t ≡ true → fits p k t ≡ is_below p k (Class t)) (sym r.1) (λ i. ap (λ b. if b then is_below p k (Class (76 ∷ r.0)) else is_initialised k) i) h

ends_more : (p : NamedProgram) (n : ℕ) (t : Text) → EndsWithin p n t → EndsWithin p (suc n) t
ends_more p zero t h = λ c e. none_some c (sym h ∙ e)
ends_more p (suc n) t h = λ c e. ends_more p n c.superclass (h c e)

-- ---- lines

module _ (p : NamedProgram) (rooted : IsRooted p) where
  abbrev tail : ℕ → NamedClass → Bool → List NamedClass
  tail n c b = if b then [] else line_from n p c.superclass

  abbrev line_by : ℕ → Option NamedClass → List NamedClass
  line_by n o = elim o as (λ o. List NamedClass) [ Some c ↦ c ∷ tail n c (is_interface c.flags) | None ↦ [] ]

  -- a line is as long as it is, whatever is allowed
  enough : (n m : ℕ) (t : Text) → EndsWithin p n t → EndsWithin p m t → line_from n p t ≡ line_from m p t
  enough zero zero t h k = refl
  enough zero (suc m) t h k = sym (ap (line_by m) h)
  enough (suc n) zero t h k = ap (line_by n) k
  enough (suc n) (suc m) t h k = by (class_named p t) refl (λ u. enough n m u)
    where
      ends : (c : NamedClass) (b : Bool) → line_from n p c.superclass ≡ line_from m p c.superclass → tail n c b ≡ tail m c b
      ends c true e = refl
      ends c false e = e

      by : (o : Option NamedClass) → class_named p t ≡ o → ((u : Text) → EndsWithin p n u → EndsWithin p m u → line_from n p u ≡ line_from m p u) → line_by n o ≡ line_by m o
      by None e again = refl
      by (Some c) e again = ap (λ l. c ∷ l) (ends c (is_interface c.flags) (again c.superclass (h c e) (k c e)))

  line_begins : (t : Text) (c : NamedClass) → class_named p t ≡ Some c → line_of p t ≡ c ∷ tail (length p.classes) c (is_interface c.flags)
  line_begins t c e = enough (length p.classes) (suc (length p.classes)) t (rooted.ends t) (ends_more p (length p.classes) t (rooted.ends t)) ∙ ap (line_by (length p.classes)) e

  -- the line of a class that stands in a line is no longer
  no_longer : (n : ℕ) (s t : Text) → EndsWithin p n t → list_any (λ d. text_eq s d.name) (line_from n p t) ≡ true → length (line_of p s) ≤ length (line_from n p t)
  no_longer zero s t h e = clash false e refl
  no_longer (suc n) s t h e = by (class_named p t) refl e (λ u. no_longer n s u)
    where
      Again : Type 0
      Again = (u : Text) → EndsWithin p n u → list_any (λ d. text_eq s d.name) (line_from n p u) ≡ true → length (line_of p s) ≤ length (line_from n p u)

      further : (c : NamedClass) (b : Bool) → EndsWithin p n c.superclass → list_any (λ d. text_eq s d.name) (tail n c b) ≡ true → Again → length (line_of p s) ≤ length (c ∷ tail n c b)
      further c true h e again = clash false e refl
      further c false h e again = let l = again c.superclass h e in omega (arith, l)

      here : (c : NamedClass) → class_named p t ≡ Some c → text_eq s c.name ≡ true → length (line_of p s) ≤ length (line_by n (Some c))
      here c i e =
          let same : s ≡ t = text_sound s c.name e ∙ class_name p t c i in
          let l : length (line_of p s) ≡ length (line_by n (Some c)) = ap (λ u. length (line_of p u)) same ∙ ap length (enough (length p.classes) (suc n) t (rooted.ends t) h) ∙ ap (λ o. length (line_by n o)) i in
          omega (arith, l)

      at : (c : NamedClass) → class_named p t ≡ Some c → (b : Bool) → text_eq s c.name ≡ b → (b || list_any (λ d. text_eq s d.name) (tail n c (is_interface c.flags))) ≡ true → Again → length (line_of p s) ≤ length (line_by n (Some c))
      at c i true j e again = here c i j
      at c i false j e again = further c (is_interface c.flags) (h c i) e again

      by : (o : Option NamedClass) → class_named p t ≡ o → list_any (λ d. text_eq s d.name) (line_by n o) ≡ true → Again → length (line_of p s) ≤ length (line_by n o)
      by None i e again = clash false e refl
      by (Some c) i e again = at c i (text_eq s c.name) refl e again

  abbrev shares : Text → NamedClass → Bool
  shares t c = list_any (λ d. text_eq c.name d.name) (line_of p t)

  abbrev name_of : Option NamedClass → Option Text
  name_of o = option_map (λ c. c.name) o

  near_itself : (t : Text) (c : NamedClass) → class_named p t ≡ Some c → nearest p t t ≡ Some t
  near_itself t c e =
      let rest = tail (length p.classes) c (is_interface c.flags) in
      let all = c ∷ rest in
      ap (λ l. name_of (find (λ x. list_any (λ d. text_eq x.name d.name) l) l)) (line_begins t c e)
      ∙ ap (λ b. name_of (cond (b || list_any (λ d. text_eq c.name d.name) rest) (Some c) (find (λ x. list_any (λ d. text_eq x.name d.name) all) rest))) (text_same c.name)
      ∙ ap Some (class_name p t c e)

  -- a plain superclass is near
  near_step : (s : Text) (c u : NamedClass) → class_named p s ≡ Some c → is_interface c.flags ≡ false → class_named p c.superclass ≡ Some u → nearest p s c.superclass ≡ Some c.superclass
  near_step s c u e i d =
      ap (λ l. name_of (find (shares c.superclass) l)) line
      ∙ ap (λ b. name_of (cond b (Some c) (find (shares c.superclass) (line_of p c.superclass)))) apart
      ∙ near_itself c.superclass u d
    where
      line : line_of p s ≡ c ∷ line_of p c.superclass
      line = line_begins s c e ∙ ap (λ b. c ∷ tail (length p.classes) c b) i

      apart : shares c.superclass c ≡ false
      apart = untrue (shares c.superclass c) (λ h.
          let a = no_longer (length p.classes) c.name c.superclass (rooted.ends c.superclass) h in
          let b : length (line_of p c.name) ≡ suc (length (line_of p c.superclass)) = ap (λ t. length (line_of p t)) (class_name p s c e) ∙ ap length line in
          absurd (omega (arith, a, b)))

  module _ (free : FreeInterfaces p) where
    upwards : (n : ℕ) (s t : Text) → is_plain p t ≡ true → list_any (λ c. text_eq c.name t) (chain_from n p s) ≡ true → (is_plain p s ≡ true) × (nearest p s t ≡ Some t)
    upwards zero s t h e = clash false e refl
    upwards (suc n) s t h e = by (class_named p s) refl e (λ u. upwards n u t h)
      where
        Again : Type 0
        Again = (u : Text) → list_any (λ c. text_eq c.name t) (chain_from n p u) ≡ true → (is_plain p u ≡ true) × (nearest p u t ≡ Some t)

        there_is : (u : Text) → is_plain p u ≡ true → (c : NamedClass) × (class_named p u ≡ Some c)
        there_is u h = found (class_named p u) refl h
          where
            found : (o : Option NamedClass) → class_named p u ≡ o → elim o as (λ o. Bool) [ Some c ↦ not (is_interface c.flags) | None ↦ false ] ≡ true → (c : NamedClass) × (class_named p u ≡ Some c)
            found None i h = clash false h refl
            found (Some c) i h = (c, i)

        at : (c : NamedClass) → class_named p s ≡ Some c → (b : Bool) → text_eq c.name t ≡ b → (b || list_any (λ c. text_eq c.name t) (chain_from n p c.superclass)) ≡ true → Again → (is_plain p s ≡ true) × (nearest p s t ≡ Some t)
        at c i true j e again =
            let same : s ≡ t = sym (class_name p s c i) ∙ text_sound c.name t j in
            (ap (is_plain p) same ∙ h, subst (λ x. nearest p s x ≡ Some x) same (near_itself s c i))
        at c i false j e again =
            let z = again c.superclass e in
            let u = there_is c.superclass z.0 in
            let plain : is_interface c.flags ≡ false = untrue (is_interface c.flags) (λ k. clash (is_plain p c.superclass) z.0 (free s c i k)) in (
              ap (λ o. elim o as (λ o. Bool) [ Some c ↦ not (is_interface c.flags) | None ↦ false ]) i ∙ ap not plain,
              near_trans p rooted s c.superclass t (near_step s c u.0 i plain u.1) z.1,
            )

        by : (o : Option NamedClass) → class_named p s ≡ o → list_any (λ c. text_eq c.name t) (elim o as (λ o. List NamedClass) [ Some c ↦ c ∷ chain_from n p c.superclass | None ↦ [] ]) ≡ true → Again → (is_plain p s ≡ true) × (nearest p s t ≡ Some t)
        by None i e again = clash false e refl
        by (Some c) i e again = at c i (text_eq c.name t) refl e again

    class_type : (t : Text) → is_plain p t ≡ true → is_class_type t ≡ true
    class_type t h = by (class_named p t) refl h
      where
        by : (o : Option NamedClass) → class_named p t ≡ o → elim o as (λ o. Bool) [ Some c ↦ not (is_interface c.flags) | None ↦ false ] ≡ true → is_class_type t ≡ true
        by None i h = clash false h refl
        by (Some c) i h = rooted.named t c i

    class_below : (s t : Text) → nearest p s t ≡ Some t → is_below p (Class s) (Class t) ≡ true
    class_below s t e = by (text_eq s t) refl
      where
        by : (b : Bool) → text_eq s t ≡ b → kind_eq (if b then Class s else class_or_reference (nearest p s t)) (Class t) ≡ true
        by true i = i
        by false i = ap (λ o. kind_eq (class_or_reference o) (Class t)) e ∙ text_same t

    pub fits_upward : FitsUpward p
    fits_upward s t k below plain e =
        let z = upwards (length p.classes) s t plain below in
        class_fits p t k (class_type t plain) plain
        ∙ transitive p rooted k (Class s) (Class t) (sym (class_fits p s k (class_type s z.0) z.0) ∙ e) (class_below s t z.1)
