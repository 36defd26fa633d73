-- The types that names match, by the descriptors that they spell.
use Rattle.std.proofs.Common.{◌≡◌, ℕ, zero, suc, ◌+◌, ◌<◌, ◌≤◌, Bool, true, false, true≢false, nat_eq, List, [], ◌∷◌, ◌++◌, length, map, drop, get_or, Option, Some, None, Result, Ok, Err, refl, sym, ap, subst, ◌∙◌, arith, inl, inr, eqb-true}
use Rattle.std.specs.Prelude.{◌&&◌, ◌||◌, ◌==◌, not, is_ok, slice_get, if◌then◌else◌, All}
use Rattle.std.specs.Prelude.{Vec, IfSome, IfNone}
use Rattle.std.specs.declared.alloc.Global.{Global}
use Rattle.std.specs.List.{list_any, AllByRecursion, concat, join_with_byte}
use Rattle.std.proofs.lemmas.List.Folds.{list_any-append}
use Rattle.std.specs.HashMap.{HashMap}
use Rattle.std.proofs.Common.{Bor}
use Rattle.std.proofs.lemmas.List.Elements.{All-push}
use Rattle.dex_base.specs.Descriptor.{is_alone, is_high, is_low, is_primitive, descriptor_of}
use Rattle.dex_base.specs.Grammar.{IsCharacter, IsName, IsElement, OfLetter, OfClass, IsDescriptor, OfVoid, OfElement, OfArray}
use Rattle.dex_base.proofs.Names.{descriptor_found}
use Rattle.dex_base.specs.declared.fault.BaseFault.{BaseFault}
use Rattle.dex_base.specs.declared.descriptor.Descriptor.{Descriptor}
use Rattle.program_model.specs.declared.program.Program.{Program}
use Rattle.program_model.specs.Texts.{has_string, string_text}
use Rattle.program_model.specs.TableRules.{type_fits}
use Rattle.dalvik_defs.specs.Names.{Text, is_class_type, item_of}
use Rattle.dalvik_defs.specs.Naming.{text_at, type_at}
use Rattle.class_defs.proofs.Positions.{same_test, number_of, number_test, entry_at}
use Rattle.class_defs.proofs.WellFormed.{Sound, all_at, and_left, and_right, below}
use Rattle.name_bridge.proofs.Tables.{type_once}
use Rattle.rule_text.specs.declared.pattern.Named.TheVariants as kind
use Rattle.rule_text.specs.declared.pattern.NamePattern.{NamePattern}
use Rattle.rule_text.specs.Tokens.{Word}
use Rattle.rule_text.specs.Glob.{behind_of}
use Rattle.rule_text.specs.Related.{IsPatternOf, AreEach}
use Rattle.rule_match.proofs.GlobLemmas.{then_rest, pattern_matches}
use Rattle.rule_defs.specs.Patterns.{inner, is_star, matches, class_name_fits, some_name_fits}
use Rattle.keep_rules.specs.Table.{has}
use Rattle.keep_rules.specs.Tried.{slashed, class_descriptor, HasDescriptor, AreCandidates, FitAmong}
use Rattle.keep_rules.specs.View.{IsTypes, kind_of}
use Rattle.keep_rules.specs.declared.names.Candidates.{Candidates}
use Rattle.keep_rules.specs.declared.names.Candidates.TheVariants as candidates
use Rattle.keep_rules.proofs.EachLemmas.{EachAt, each_at, each_end}
use Rattle.keep_rules.proofs.AnyLemmas.{or_front, or_behind, or_cases, has_front, has_behind, has_self}

-- ---- the name in a descriptor

-- units that end in `;`, none of those before which is a dot
abbrev pub closes : List ℕ → Bool
closes [] = false
closes (u ∷ []) = nat_eq u 59
closes (u ∷ v ∷ us) = not (nat_eq u 46) && closes (v ∷ us)

goes_on : (u : ℕ) (us : List ℕ) → nat_eq u 46 ≡ false → closes us ≡ true → closes (u ∷ us) ≡ true
goes_on u [] e h = absurd (true≢false (sym h))
goes_on u (v ∷ us) e h = ap (λ b. not b && closes (v ∷ us)) e ∙ h

no_dot : (test : ℕ → Bool) (u : ℕ) → test 46 ≡ false → test u ≡ true → nat_eq u 46 ≡ false
no_dot test u e h = same_test (nat_eq u 46) false (λ d. absurd (true≢false (sym h ∙ ap test (number_of u 46 d) ∙ e))) (λ d. absurd (true≢false (sym d)))

alone_dot : is_alone 46 ≡ false
unfolding is_alone
alone_dot = refl

-- whether some unit is a dot
abbrev has_dot : List ℕ → Bool
has_dot us = list_any (λ u. nat_eq u 46) us

no_dot_in : (xs ys : List ℕ) → has_dot xs ≡ false → has_dot ys ≡ false → has_dot (xs ++ ys) ≡ false
no_dot_in xs ys e f = list_any-append (λ u. nat_eq u 46) xs ys ∙ ap (λ b. b || has_dot ys) e ∙ f

one_dot : (u : ℕ) (us : List ℕ) → nat_eq u 46 ≡ false → has_dot us ≡ false → has_dot (u ∷ us) ≡ false
one_dot u us e f = ap (λ b. b || has_dot us) e ∙ f

character_dot : (c : List ℕ) → IsCharacter c → has_dot c ≡ false
character_dot [] i = absurd i
character_dot (u ∷ []) i = one_dot u [] (no_dot is_alone u alone_dot i) refl
character_dot (u ∷ v ∷ []) i = one_dot u (v ∷ []) (no_dot is_high u refl i.0) (one_dot v [] (no_dot is_low v refl i.1) refl)
character_dot (u ∷ v ∷ w ∷ us) i = absurd i

name_dot : (cs : List (List ℕ)) → AllByRecursion IsCharacter cs → has_dot (concat cs) ≡ false
name_dot [] are = refl
name_dot (c ∷ cs) are = no_dot_in c (concat cs) (character_dot c are.0) (name_dot cs are.1)

names_dot : (ns : List (List ℕ)) → AllByRecursion IsName ns → has_dot (join_with_byte 47 ns) ≡ false
names_dot [] are = refl
names_dot (n ∷ []) are = ap has_dot are.0.is ∙ name_dot are.0.characters are.0.are
names_dot (n ∷ m ∷ ns) are = no_dot_in n (47 ∷ join_with_byte 47 (m ∷ ns)) (ap has_dot are.0.is ∙ name_dot are.0.characters are.0.are) (one_dot 47 (join_with_byte 47 (m ∷ ns)) refl (names_dot (m ∷ ns) are.1))

or_first : (a b : Bool) → (a || b) ≡ false → a ≡ false
or_first true b e = e
or_first false b e = refl

or_second : (a b : Bool) → (a || b) ≡ false → b ≡ false
or_second true b e = absurd (true≢false e)
or_second false b e = e

closes_end : (us : List ℕ) → has_dot us ≡ false → closes (us ++ 59 ∷ []) ≡ true
closes_end [] e = refl
closes_end (u ∷ us) e = goes_on u (us ++ 59 ∷ []) (or_first (nat_eq u 46) (has_dot us) e) (closes_end us (or_second (nat_eq u 46) (has_dot us) e))

pub record IsClassText (t : Text) : Type 0 where
  pub is : t ≡ 76 ∷ item_of t
  pub closed : closes (item_of t) ≡ true

class_element : (t : Text) (k : Descriptor) → IsElement t k → is_class_type t ≡ true → IsClassText t
class_element t k (OfLetter u p e at) h =
    let s : u ≡ 76 = number_of u 76 (sym (ap is_class_type e) ∙ h) in absurd (true≢false (sym (subst (λ (x : ℕ). is_primitive x ≡ true) s p)))
class_element t k (OfClass names are e at) h = record {
  is = e ∙ ap (λ l. 76 ∷ l) (sym (ap item_of e));
  closed = ap closes (ap item_of e ∙ are.is) ∙ closes_end (join_with_byte 47 are.names) (names_dot are.names are.are);
}

class_shape : (t : Text) (k : Descriptor) → IsDescriptor t k → is_class_type t ≡ true → IsClassText t
class_shape t k (OfVoid e at) h = absurd (true≢false (sym (sym (ap is_class_type e) ∙ h)))
class_shape t k (OfElement f) h = class_element t k f h
class_shape t k (OfArray zero element of some few is f at) h = absurd (omega (arith, some))
class_shape t k (OfArray (suc depth) element of some few is f at) h = absurd (true≢false (sym (sym (ap is_class_type is) ∙ h)))

pub class_text : (t : Text) → is_ok (descriptor_of t) ≡ true → is_class_type t ≡ true → IsClassText t
class_text t e h = by (descriptor_of t) refl e
  where
    by : (r : Result Descriptor BaseFault) → descriptor_of t ≡ r → is_ok r ≡ true → IsClassText t
    by (Ok k) f g = class_shape t k (descriptor_found t k f) h
    by (Err x) f g = absurd (true≢false (sym g))

-- the type of a program
pub type_descriptor : (p : Program) → Sound p → (n : ℕ) → n < length p.types → is_ok (descriptor_of (type_at p n)) ≡ true
type_descriptor p s n low =
    let i = entry_at p.types n low in
    let has = below i.0 (length p.strings) (and_left (has_string p i.0) (is_ok (descriptor_of (string_text p i.0))) (all_at (type_fits p) p.types n i.0 s.types_fit i.1)) in
    ap (λ (t : Text). is_ok (descriptor_of t)) (ap (λ (o : Option ℕ). elim o as (λ o. Text) [ Some t ↦ text_at p t | None ↦ [] ]) i.1 ∙ same i.0 has)
    ∙ and_right (has_string p i.0) (is_ok (descriptor_of (string_text p i.0))) (all_at (type_fits p) p.types n i.0 s.types_fit i.1)
  where
    read : (xs : List Text) (k : ℕ) → elim (slice_get xs k) as (λ o. Text) [ Some t ↦ t | None ↦ [] ] ≡ get_or xs k []
    read [] k = refl
    read (x ∷ xs) zero = refl
    read (x ∷ xs) (suc k) = read xs k

    same : (k : ℕ) → k < length p.strings → text_at p k ≡ string_text p k
    same k h = read p.strings k

-- ---- the descriptor of a name without wildcards

not_true : (b : Bool) → not b ≡ true → b ≡ false
not_true true h = absurd (true≢false (sym h))
not_true false h = refl

-- one more unit, where the rest is spelled
module _ (w : ℕ) (ws : List ℕ) (u v : ℕ) (us : List ℕ) (more : closes (v ∷ us) ≡ true → then_rest kind.Class [] (behind_of kind.Class (inner (v ∷ us)) ws) ≡ true → (v ∷ us ≡ map slashed ws ++ 59 ∷ []) × (list_any (nat_eq 47) ws ≡ false)) where
  joined : closes (v ∷ us) ≡ true → (a : ℕ) → a ≡ w → slashed w ≡ u → nat_eq 47 w ≡ false → (b : Bool) → (a == w) ≡ b → then_rest kind.Class [] (if b then behind_of kind.Class (inner (v ∷ us)) ws else None) ≡ true
      → (u ∷ v ∷ us ≡ map slashed (w ∷ ws) ++ 59 ∷ []) × (list_any (nat_eq 47) (w ∷ ws) ≡ false)
  joined k a is so other true s g = let rest = more k g in
      (ap (λ x. x ∷ v ∷ us) (sym so) ∙ ap (λ l. slashed w ∷ l) rest.0, ap (λ b. b || list_any (nat_eq 47) ws) other ∙ rest.1)
  joined k a is so other false s g = absurd (true≢false (sym g))

  wanted : (a : ℕ) (b : Bool) → (a == w) ≡ b → then_rest kind.Class [] (if b then behind_of kind.Class (inner (v ∷ us)) ws else None) ≡ true → a ≡ w
  wanted a true s g = eqb-true a w s
  wanted a false s g = absurd (true≢false (sym g))

  slash_or : (b : Bool) → (u == 47) ≡ b → closes (v ∷ us) ≡ true → nat_eq u 46 ≡ false → then_rest kind.Class [] (if (if b then 46 else u) == w then behind_of kind.Class (inner (v ∷ us)) ws else None) ≡ true
      → (u ∷ v ∷ us ≡ map slashed (w ∷ ws) ++ 59 ∷ []) × (list_any (nat_eq 47) (w ∷ ws) ≡ false)
  slash_or true h k plain g =
      let is : 46 ≡ w = wanted 46 (46 == w) refl g in
      joined k 46 is (ap slashed (sym is) ∙ sym (eqb-true u 47 h)) (ap (nat_eq 47) (sym is)) (46 == w) refl g
  slash_or false h k plain g =
      let is : u ≡ w = wanted u (u == w) refl g in
      joined k u is (ap slashed (sym is) ∙ ap (λ b. if b then 47 else u) plain)
      (ap (nat_eq 47) (sym is) ∙ same_test (nat_eq 47 u) false (λ d. absurd (true≢false (sym (number_test u 47 (sym (number_of 47 u d))) ∙ h))) (λ d. absurd (true≢false (sym d))))
      (u == w) refl g

spelled_so : (head s : List ℕ) → closes s ≡ true → then_rest kind.Class [] (behind_of kind.Class (inner s) head) ≡ true → (s ≡ map slashed head ++ 59 ∷ []) × (list_any (nat_eq 47) head ≡ false)
spelled_so [] [] c e = absurd (true≢false (sym c))
spelled_so [] (u ∷ []) c e = (ap (λ x. x ∷ []) (number_of u 59 c), refl)
spelled_so [] (u ∷ v ∷ us) c e = absurd (true≢false (sym e))
spelled_so (w ∷ ws) [] c e = absurd (true≢false (sym c))
spelled_so (w ∷ ws) (u ∷ []) c e = absurd (true≢false (sym e))
spelled_so (w ∷ ws) (u ∷ v ∷ us) c e =
    let plain : nat_eq u 46 ≡ false = not_true (nat_eq u 46) (and_left (not (nat_eq u 46)) (closes (v ∷ us)) c) in
    slash_or w ws u v us (λ k g. spelled_so ws (v ∷ us) k g) (u == 47) refl (and_right (not (nat_eq u 46)) (closes (v ∷ us)) c) plain e

pub record SpellsName (head t : List ℕ) : Type 0 where
  pub is : t ≡ class_descriptor head
  pub plain : list_any (nat_eq 47) head ≡ false

pub name_spells : (p : NamePattern) (w : Word) (t : Text) → IsPatternOf p w → p.rest.items ≡ [] → is_star w ≡ false → is_ok (descriptor_of t) ≡ true → class_name_fits w t ≡ true → SpellsName p.head.items t
name_spells p w t is plain star ok fits =
    let class = and_left (is_class_type t) (is_star w || matches kind.Class w (inner (item_of t))) fits in
    let text = class_text t ok class in
    let fit = ap (λ b. b || matches kind.Class w (inner (item_of t))) (sym star) ∙ and_right (is_class_type t) (is_star w || matches kind.Class w (inner (item_of t))) fits in
    let so = spelled_so p.head.items (item_of t) text.closed
    (ap (λ ps. then_rest kind.Class ps (behind_of kind.Class (inner (item_of t)) p.head.items)) (sym plain) ∙ sym (pattern_matches kind.Class p w (inner (item_of t)) is) ∙ fit) in
    record { is = text.is ∙ ap (λ l. 76 ∷ l) so.0; plain = so.1 }

-- ---- candidates

module _ (p : Program) (s : Sound p) (q : NamePattern) (w : Word) (is : IsPatternOf q w) (plain : q.rest.items ≡ []) (star : is_star w ≡ false) where
  spells : (k : ℕ) → k < length p.types → class_name_fits w (type_at p k) ≡ true → SpellsName q.head.items (type_at p k)
  spells k l fits = name_spells q w (type_at p k) is plain star (type_descriptor p s k l) fits

  pub no_candidates : list_any (nat_eq 47) q.head.items ≡ true → AreCandidates p w candidates.None
  no_candidates e k l fits = true≢false (sym e ∙ (spells k l fits).plain)

  pub named_candidates : (c : Candidates) → HasDescriptor p (class_descriptor q.head.items) c → AreCandidates p w c
  named_candidates candidates.None h = λ k l fits. h k l (spells k l fits).is
  named_candidates (candidates.Type n) h = (h.0, λ k l fits. type_once p s k n l h.0 ((spells k l fits).is ∙ sym h.1))
  named_candidates candidates.All h = absurd h

-- the type of a descriptor by the table
pub type_found : {S : Type 0} (p : Program) (types : HashMap (Bor (List ℕ)) ℕ S) (t : List ℕ) (k : ℕ) → IsTypes p types → kind_of types t ≡ Some k → HasDescriptor p t (candidates.Type k)
type_found p types t k is e = is.sound t k e

pub type_lacks : {S : Type 0} (p : Program) (types : HashMap (Bor (List ℕ)) ℕ S) (t : List ℕ) → IsTypes p types → kind_of types t ≡ None → HasDescriptor p t candidates.None
type_lacks p types t is e k l same = let x : Some k ≡ None = sym (is.whole k l) ∙ ap (kind_of types) same ∙ e in cc

-- what is said of an option's rows, where it is known
pub some_row : (P : List ℕ → Type 0) (o : Option (Vec ℕ Global)) (v : Vec ℕ Global) → o ≡ Some v → IfSome o (λ w. P w.items) → P v.items
some_row P o v e h = subst (λ x. IfSome x (λ w. P w.items)) e h

pub none_row : (Q : Type 0) (o : Option (Vec ℕ Global)) → o ≡ None → IfNone o Q → Q
none_row Q o e h = subst (λ x. IfNone x Q) e h

-- ---- the types that names are tried on

-- those that the names gone through match
pub record TriedSo (p : Program) (ws : List Word) (kinds : List ℕ) (i : ℕ) : Type 0 where
  pub below : All (λ k. k < length p.types) kinds
  pub among : (k : ℕ) → k < length p.types → some_name_fits ws (type_at p k) ≡ true → (has kinds k || some_name_fits (drop i ws) (type_at p k)) ≡ true

pub tried_start : (p : Program) (ws : List Word) (kinds : List ℕ) → kinds ≡ [] → TriedSo p ws kinds 0
tried_start p ws kinds e = record {
  below = subst (All (λ k. k < length p.types)) (sym e) (λ k d h. absurd (omega (arith, h)));
  among = λ k l fits. or_behind (has kinds k) (some_name_fits ws (type_at p k)) fits;
}

module _ (p : Program) (qs : List NamePattern) (ws : List Word) (i : ℕ) (q : NamePattern) (are : AreEach IsPatternOf qs ws) (h : i < length qs) (e : q ≡ get_or qs i q) where
  next_fits : (k : ℕ) → k < length p.types → (at : EachAt IsPatternOf qs ws i) → some_name_fits (drop i ws) (type_at p k) ≡ (class_name_fits at.one (type_at p k) || some_name_fits (drop (i + 1) ws) (type_at p k))
  next_fits k l at = ap (λ l. some_name_fits l (type_at p k)) at.next

  pub tried_none : (kinds : List ℕ) → ((w : Word) → IsPatternOf q w → AreCandidates p w candidates.None) → TriedSo p ws kinds i → TriedSo p ws kinds (i + 1)
  tried_none kinds none so =
      let at = each_at IsPatternOf qs ws i are h in
      record {
        below = so.below;
        among = λ k l fits. elim (or_cases (has kinds k) (class_name_fits at.one (type_at p k) || some_name_fits (drop (i + 1) ws) (type_at p k)) (ap (λ b. has kinds k || b) (sym (next_fits k l at)) ∙ so.among k l fits)) [
          | inl had ↦ or_front (has kinds k) (some_name_fits (drop (i + 1) ws) (type_at p k)) had
          | inr more ↦
              elim (or_cases (class_name_fits at.one (type_at p k)) (some_name_fits (drop (i + 1) ws) (type_at p k)) more) [
                | inl this ↦ absurd (none at.one (at.is q e) k l this)
                | inr rest ↦ or_behind (has kinds k) (some_name_fits (drop (i + 1) ws) (type_at p k)) rest
              ]
        ];
      }

  pub tried_type : (kinds next : List ℕ) (n : ℕ) → next ≡ kinds ++ n ∷ [] → ((w : Word) → IsPatternOf q w → AreCandidates p w (candidates.Type n)) → TriedSo p ws kinds i → TriedSo p ws next (i + 1)
  tried_type kinds next n made one so =
      let at = each_at IsPatternOf qs ws i are h in
      let is = one at.one (at.is q e) in
      record {
        below = subst (All (λ k. k < length p.types)) (sym made) (All-push (λ k. k < length p.types) kinds n so.below is.0);
        among = λ k l fits. ap (λ ks. has ks k || some_name_fits (drop (i + 1) ws) (type_at p k)) made
            ∙ elim (or_cases (has kinds k) (class_name_fits at.one (type_at p k) || some_name_fits (drop (i + 1) ws) (type_at p k)) (ap (λ b. has kinds k || b) (sym (next_fits k l at)) ∙ so.among k l fits)) [
              | inl had ↦ or_front (has (kinds ++ n ∷ []) k) (some_name_fits (drop (i + 1) ws) (type_at p k)) (has_front kinds (n ∷ []) k had)
              | inr more ↦
                  elim (or_cases (class_name_fits at.one (type_at p k)) (some_name_fits (drop (i + 1) ws) (type_at p k)) more) [
                    | inl this ↦ or_front (has (kinds ++ n ∷ []) k) (some_name_fits (drop (i + 1) ws) (type_at p k)) (has_behind kinds (n ∷ []) k (has_self k n (is.1 k l this)))
                    | inr rest ↦ or_behind (has (kinds ++ n ∷ []) k) (some_name_fits (drop (i + 1) ws) (type_at p k)) rest
                  ]
            ];
      }

pub tried_end : (p : Program) (qs : List NamePattern) (ws : List Word) (i : ℕ) (kinds : List ℕ) → AreEach IsPatternOf qs ws → length qs ≤ i → TriedSo p ws kinds i → FitAmong p ws kinds
tried_end p qs ws i kinds are h so = record {
  below = so.below;
  among = λ k l fits. sym (none (has kinds k)) ∙ ap (λ l. has kinds k || some_name_fits l (type_at p k)) (sym (each_end IsPatternOf qs ws i are h)) ∙ so.among k l fits;
}
  where
    none : (b : Bool) → (b || false) ≡ b
    none true = refl
    none false = refl
