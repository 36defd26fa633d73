-- Marks that virtual and interface calls take.
use Rattle.std.proofs.Common.{◌≡◌, inl, inr, ℕ, Bool, true, false, true≢false, nat_eq, List, [], ◌∷◌, ◌++◌, length, Option, Some, None, refl, sym, ap, ◌∙◌, subst}
use Rattle.std.specs.Prelude.{◌&&◌, ◌||◌, flat_map, is_some, not, slice_get}
use Rattle.std.specs.List.{list_any, list_all}
use Rattle.insn_set.specs.declared.ops.InvokeKind.TheVariants as call
use Rattle.std.proofs.lemmas.List.Folds.{list_any-append}
use Rattle.lemmas.proofs.Bools.{and_left, and_right, and_both, and_false, or_left, or_right, or_cases, or_none, clash, untrue, not_true, none_or}
use Rattle.program_model.specs.Lookups.{class_place}
use Rattle.program_model.specs.MemberRules.{is_object}
use Rattle.program_model.specs.ProgramRules.{is_well_formed}
use Rattle.program_model.specs.Texts.{type_text}
use Rattle.program_model.specs.declared.pass.Outside.{Outside}
use Rattle.program_model.specs.declared.pools.MethodName.{MethodName}
use Rattle.program_model.specs.declared.program.Class.{Class}
use Rattle.program_model.specs.declared.program.MethodAt.{MethodAt}
use Rattle.program_model.specs.declared.program.Program.{Program}
use Rattle.class_defs.specs.Finding.{finds_virtual, resolves_method}
use Rattle.class_defs.specs.Members.{own_virtual, is_common}
use Rattle.class_defs.specs.Places.{is_under}
use Rattle.class_defs.proofs.Positions.{number_of, same_test}
use Rattle.hierarchy.specs.Climbing.{In}
use Rattle.hierarchy.specs.Naming.{definers_of}
use Rattle.hierarchy.specs.Shapes.{IsResolved}
use Rattle.hierarchy.specs.declared.build.Hierarchy.{Hierarchy}
use Rattle.receivers.specs.Receiving.{is_at, lists, lists_above}
use Rattle.receivers.proofs.Owned.{owns, at_itself, defines}
use Rattle.receivers.proofs.Ranges.{in_filter, filter_in}
use Rattle.receivers.proofs.Walks.{any_of, of_any}
use Rattle.loose_methods.specs.Loose.{places, classes_under, is_outer, lists_outer, is_outward, has_outward, has_rival, is_in_interface, is_alone, number_at, number_found, is_this, is_it, names_it, named_by, may_find_at, receivers, is_within, is_within_at, concerns, is_plain_call, resolves_to, is_subclass, may_find, may_leave}
use Rattle.loose_methods.specs.Marking.{is_on, IsCandidate, AreUnder}
use Rattle.loose_methods.specs.Sifting.{is_met_by, is_met_at, find_met, is_found, is_own_it, is_clear, HasCandidates, Keeps, KeepsUnfound, KeepsPlain, unfound_in}
use Rattle.loose_methods.proofs.Found.{here, found_at, finds_it, alone, own_short}
use Rattle.loose_methods.proofs.Given.{any_method, all_methods}
use Rattle.loose_methods.proofs.Marks.{same_or, differ_test, and_true}
use Rattle.loose_methods.proofs.Plain.{is_at_some}
use Rattle.loose_methods.proofs.Under.{in_places, place_of, in_under, under_in}

-- ---- tests

-- some item of a list that comes of another one passes
pub any_flat : (t : MethodAt → Bool) (f : ℕ → List MethodAt) (cs : List ℕ) → list_any t (flat_map f cs) ≡ list_any (λ c. list_any t (f c)) cs
any_flat t f [] = refl
any_flat t f (c ∷ cs) = list_any-append t (f c) (flat_map f cs) ∙ ap (λ b. list_any t (f c) || b) (any_flat t f cs)

any_same : (s t : ℕ → Bool) (cs : List ℕ) → ((c : ℕ) → s c ≡ t c) → list_any s cs ≡ list_any t cs
any_same s t [] h = refl
any_same s t (c ∷ cs) h = ap (λ b. b || list_any s cs) (h c) ∙ ap (λ b. t c || b) (any_same s t cs h)

-- ---- marks in a row

pub keeps_all : (marks new : List Bool) (test : ℕ → Bool) → ((n : ℕ) → is_on marks n ≡ true → test n ≡ true) → new ≡ marks → Keeps test marks new
keeps_all marks new test h e = record { long = ap length e; are = λ n. ap (λ l. is_on l n) e ∙ by (is_on marks n) (test n) (h n) }
  where
    by : (a b : Bool) → (a ≡ true → b ≡ true) → a ≡ (a && b)
    by true b f = sym (f refl)
    by false b f = refl

pub keeps_one : (marks new : List Bool) (test : ℕ → Bool) (o : Option ℕ) → ((n : ℕ) → is_on new n ≡ (is_on marks n && not (is_this n o))) → length new ≡ length marks → ((n : ℕ) → is_on marks n ≡ true → test n ≡ not (is_this n o)) → Keeps test marks new
keeps_one marks new test o are long h = record { long = long; are = λ n. are n ∙ by (is_on marks n) (test n) (not (is_this n o)) (h n) }
  where
    by : (a b c : Bool) → (a ≡ true → b ≡ c) → (a && c) ≡ (a && b)
    by true b c f = sym (f refl)
    by false b c f = refl

-- one test after another
pub keeps_both : (first second both : ℕ → Bool) (old mid new : List Bool) → Keeps first old mid → Keeps second mid new → ((n : ℕ) → is_on old n ≡ true → (first n && second n) ≡ both n) → Keeps both old new
keeps_both first second both old mid new a b h = record {
  long = b.long ∙ a.long;
  are = λ n. b.are n ∙ ap (λ x. x && second n) (a.are n) ∙ by (is_on old n) (first n) (second n) (both n) (h n);
}
  where
    by : (x y z w : Bool) → (x ≡ true → (y && z) ≡ w) → ((x && y) && z) ≡ (x && w)
    by true y z w f = f refl
    by false y z w f = refl

pub keeps_same : (s t : ℕ → Bool) (old new : List Bool) → Keeps s old new → ((n : ℕ) → is_on old n ≡ true → s n ≡ t n) → Keeps t old new
keeps_same s t old new a h = record { long = a.long; are = λ n. a.are n ∙ by (is_on old n) (s n) (t n) (h n) }
  where
    by : (x y z : Bool) → (x ≡ true → y ≡ z) → (x && y) ≡ (x && z)
    by true y z f = f refl
    by false y z f = refl

pub kept_on : (test : ℕ → Bool) (old new : List Bool) (n : ℕ) → Keeps test old new → is_on new n ≡ true → (is_on old n ≡ true) × (test n ≡ true)
kept_on test old new n a e = let f : (is_on old n && test n) ≡ true = sym (a.are n) ∙ e in (and_left (is_on old n) (test n) f, and_right (is_on old n) (test n) f)

pub candidates_kept : (p : Program) (o : Outside) (test : ℕ → Bool) (old new : List Bool) → Keeps test old new → HasCandidates p o old → HasCandidates p o new
candidates_kept p o test old new a c = λ n e. c n (kept_on test old new n a e).0

-- ---- what is found

module _ (p : Program) (h : Hierarchy) (wf : is_well_formed p ≡ true) (res : IsResolved p h) (o : Outside) (n : ℕ) (c : IsCandidate p o n) (q : MethodName) where
  abbrev virtually : ℕ → Bool
  virtually d = is_this n (number_found p (finds_virtual p q.name q.proto d))

  pub found_is : is_found p n q ≡ list_any (λ d. is_this n (number_found p (finds_virtual p q.name q.proto d))) (receivers p q.class)
  found_is = any_flat (is_it p n) (may_find_at p q) (receivers p q.class) ∙ any_same (λ d. list_any (is_it p n) (may_find_at p q d)) virtually (receivers p q.class) (λ d. found_at p h wf res o n c q d)

  -- ---- at the place of a method

  module _ (at : MethodAt) (own : own_virtual p q.name q.proto at.class ≡ Some at) (it : is_it p n at ≡ true) where
    apart : is_alone p c.name c.place ≡ true
    apart = alone p h wf res o n c q at own it

    class : at.class ≡ c.place
    class = ap (λ (x : MethodAt). x.class) (here p h wf res o n c at it)

    inside : has_outward p at.class ≡ false
    inside = ap (has_outward p) class ∙ not_true (has_outward p c.place) (and_right (not (has_rival p c.name c.place) && not (is_common p c.name.name c.name.proto) && not (is_in_interface p c.name c.place)) (not (has_outward p c.place)) apart)

    -- no class under its class lists a type of the framework
    no_lister : (d kind : ℕ) → In d (classes_under p at.class) → class_place p kind ≡ None → is_object (type_text p kind) ≡ false → lists_above p d kind ≡ false
    no_lister d kind i e f = untrue (lists_above p d kind) (λ g. clash (has_outward p at.class) (of_any (is_outward p) (classes_under p at.class) d i (out g)) inside)
      where
        outer : is_outer p kind ≡ true
        outer = and_both (not (is_some (class_place p kind))) (not (is_object (type_text p kind))) (ap (λ x. not (is_some x)) e) (ap not f)

        listed : (k : Option Class) → lists k kind ≡ true → lists_outer p k ≡ true
        listed None l = l
        listed (Some k) l = elim (or_cases (nat_eq k.superclass kind) (list_any (λ x. nat_eq x kind) k.interfaces) l) [
          | inl s ↦ or_left (is_outer p k.superclass) (list_any (is_outer p) k.interfaces) (ap (is_outer p) (number_of k.superclass kind s) ∙ outer)
          | inr s ↦ or_right (is_outer p k.superclass) (list_any (is_outer p) k.interfaces) (let a = any_of (λ x. nat_eq x kind) k.interfaces s in of_any (is_outer p) k.interfaces a.at a.there (ap (is_outer p) (number_of a.at kind a.is) ∙ outer))
        ]

        out : lists_above p d kind ≡ true → is_outward p d ≡ true
        out g =
            let a = any_of (λ x. is_under p d x && lists (slice_get p.classes x) kind) (places p) g in
            of_any (λ x. is_under p d x && lists_outer p (slice_get p.classes x)) (places p) a.at a.there
            (and_both (is_under p d a.at) (lists_outer p (slice_get p.classes a.at)) (and_left (is_under p d a.at) (lists (slice_get p.classes a.at) kind) a.is) (listed (slice_get p.classes a.at) (and_right (is_under p d a.at) (lists (slice_get p.classes a.at) kind) a.is)))

    met_within : (d kind : ℕ) → In d (classes_under p at.class) → is_met_by p kind d ≡ is_within p kind d
    met_within d kind i = by (class_place p kind) refl
      where
        by : (x : Option ℕ) → class_place p kind ≡ x → is_met_at p kind d x ≡ is_within_at p d kind x
        by (Some u) e = refl
        by None e = test (is_object (type_text p kind)) refl
          where
            test : (b : Bool) → is_object (type_text p kind) ≡ b → is_object (type_text p kind) ≡ (is_object (type_text p kind) || lists_above p d kind)
            test true f = f ∙ sym (or_left (is_object (type_text p kind)) (lists_above p d kind) f)
            test false f = f ∙ sym (none_or (is_object (type_text p kind)) (lists_above p d kind) f (no_lister d kind i e f))

    pub met_is : (under : List ℕ) → AreUnder p at.class under → list_any (find_met p q at) under ≡ is_found p n q
    met_is under a = a.all (find_met p q at) ∙ same_test (list_any (find_met p q at) (classes_under p at.class)) (list_any virtually (receivers p q.class)) to from ∙ sym found_is
      where
        to : list_any (find_met p q at) (classes_under p at.class) ≡ true → list_any virtually (receivers p q.class) ≡ true
        to e =
            let d = any_of (find_met p q at) (classes_under p at.class) e in
            let u = under_in p at.class d.at d.there in
            let within = sym (met_within d.at q.class d.there) ∙ and_left (is_met_by p q.class d.at) (is_at at (finds_virtual p q.name q.proto d.at)) d.is in
            of_any virtually (receivers p q.class) d.at (filter_in (is_within p q.class) (places p) d.at (in_places p d.at u.0) within)
            (ap (λ x. is_this n (number_found p x)) (is_at_some at (finds_virtual p q.name q.proto d.at) (and_right (is_met_by p q.class d.at) (is_at at (finds_virtual p q.name q.proto d.at)) d.is)) ∙ it)

        from : list_any virtually (receivers p q.class) ≡ true → list_any (find_met p q at) (classes_under p at.class) ≡ true
        from e =
            let d = any_of virtually (receivers p q.class) e in
            let r = in_filter (is_within p q.class) (places p) d.at d.there in
            let f = finds_it p h wf res o n c q d.at d.is in
            let same : f.at ≡ at = here p h wf res o n c f.at f.it ∙ sym (here p h wf res o n c at it) in
            let in_class : In d.at (classes_under p at.class) = in_under p at.class d.at (place_of p d.at r.0) (subst (λ (x : MethodAt). is_under p d.at x.class ≡ true) same f.under) in
            of_any (find_met p q at) (classes_under p at.class) d.at in_class
            (and_both (is_met_by p q.class d.at) (is_at at (finds_virtual p q.name q.proto d.at)) (met_within d.at q.class in_class ∙ r.1) (ap (is_at at) (f.is ∙ ap (λ z. Some z) same) ∙ at_itself at))

  -- it is found as that of a class that defines it
  pub found_among : list_any (λ d. is_own_it p n q d && is_found p n q) (definers_of p q.name q.proto) ≡ is_found p n q
  found_among = same_test (list_any (λ d. is_own_it p n q d && is_found p n q) (definers_of p q.name q.proto)) (is_found p n q)
      (λ e. let a = any_of (λ d. is_own_it p n q d && is_found p n q) (definers_of p q.name q.proto) e in and_right (is_own_it p n q a.at) (is_found p n q) a.is)
      (λ e.
      let d = any_of virtually (receivers p q.class) (sym found_is ∙ e) in
      let f = finds_it p h wf res o n c q d.at d.is in
      of_any (λ x. is_own_it p n q x && is_found p n q) (definers_of p q.name q.proto) f.at.class
      (defines p q.name q.proto f.at.class f.at (own_short p q.name q.proto f.at.class f.at (owns p q.name q.proto f.at.class f.at f.own).method) f.own)
      (and_both (is_own_it p n q f.at.class) (is_found p n q) (ap (λ x. is_this n (number_found p x)) f.own ∙ f.it) e))

-- ---- the method that a class defines

module _ (p : Program) (q : MethodName) (class : ℕ) (old new : List Bool) where
  -- it defines none, or one without a number
  pub none_defined : number_found p (own_virtual p q.name q.proto class) ≡ None → new ≡ old → KeepsUnfound p q class old new
  none_defined e f = keeps_all old new (λ n. not (is_own_it p n q class && is_found p n q)) (λ n m. ap (λ x. not (is_this n x && is_found p n q)) e) f

  -- one that isn't marked, or that no call finds
  pub one_unmet : (x : ℕ) → number_found p (own_virtual p q.name q.proto class) ≡ Some x → (is_on old x ≡ true → is_found p x q ≡ false) → new ≡ old → KeepsUnfound p q class old new
  one_unmet x e f g = keeps_all old new (λ n. not (is_own_it p n q class && is_found p n q)) (λ n m. elim (same_or x n) [
    | inl s ↦ ap not (ap (λ b. is_own_it p n q class && b) (subst (λ y. is_found p y q ≡ false) s (f (subst (λ y. is_on old y ≡ true) (sym s) m))) ∙ and_false (is_own_it p n q class))
    | inr k ↦ ap (λ b. not (b && is_found p n q)) (ap (is_this n) e ∙ differ_test x n k)
  ]) g

  -- one that a call finds
  pub one_met : (x : ℕ) → number_found p (own_virtual p q.name q.proto class) ≡ Some x → is_found p x q ≡ true → ((n : ℕ) → is_on new n ≡ (is_on old n && not (is_this n (Some x)))) → length new ≡ length old → KeepsUnfound p q class old new
  one_met x e f are long = keeps_one old new (λ n. not (is_own_it p n q class && is_found p n q)) (Some x) are long (λ n m. elim (same_or x n) [
    | inl s ↦ ap (λ b. not (is_own_it p n q class && b)) (subst (λ y. is_found p y q ≡ true) s f) ∙ ap not (and_true (is_own_it p n q class)) ∙ ap not (ap (is_this n) e)
    | inr k ↦ ap (λ b. not (b && is_found p n q)) (ap (is_this n) e ∙ differ_test x n k) ∙ sym (ap not (differ_test x n k))
  ])

-- ---- all definers

pub unfound_none : (p : Program) (q : MethodName) (old : List Bool) → Keeps (unfound_in p q []) old old
unfound_none p q old = keeps_all old old (unfound_in p q []) (λ n m. refl) refl

pub unfound_more : (p : Program) (q : MethodName) (cs : List ℕ) (c : ℕ) (old mid new : List Bool) → Keeps (unfound_in p q cs) old mid → KeepsUnfound p q c mid new → Keeps (unfound_in p q (cs ++ c ∷ [])) old new
unfound_more p q cs c old mid new a b = keeps_both (unfound_in p q cs) (λ n. not (is_own_it p n q c && is_found p n q)) (unfound_in p q (cs ++ c ∷ [])) old mid new a b (λ n m.
    sym (ap not (list_any-append (λ x. is_own_it p n q x && is_found p n q) cs (c ∷ [])) ∙ by (list_any (λ x. is_own_it p n q x && is_found p n q) cs) (is_own_it p n q c && is_found p n q)))
  where
    by : (x y : Bool) → not (x || (y || false)) ≡ (not x && not y)
    by true y = refl
    by false true = refl
    by false false = refl

pub unfound_all : (p : Program) (h : Hierarchy) (wf : is_well_formed p ≡ true) (res : IsResolved p h) (o : Outside) (q : MethodName) (old new : List Bool) → HasCandidates p o old
    → Keeps (unfound_in p q (definers_of p q.name q.proto)) old new → Keeps (λ n. not (is_found p n q)) old new
unfound_all p h wf res o q old new cand a = keeps_same (unfound_in p q (definers_of p q.name q.proto)) (λ n. not (is_found p n q)) old new a (λ n m. ap not (found_among p h wf res o n (cand n m) q))

-- ---- all that concern a method

de_morgan : (a b : Bool) → (not a && not b) ≡ not (a || b)
de_morgan true b = refl
de_morgan false b = refl

pub unconcerned : (p : Program) (called : ℕ) (q : MethodName) (old mid new : List Bool) (named : Option ℕ) → named ≡ named_by p called (resolves_method p called)
    → ((n : ℕ) → is_on mid n ≡ (is_on old n && not (is_this n named))) → length mid ≡ length old → Keeps (λ n. not (is_found p n q)) mid new → Keeps (λ n. not (concerns p n 0 call.Interface called q)) old new
unconcerned p called q old mid new named e are long a = keeps_both (λ n. not (names_it p n called)) (λ n. not (is_found p n q)) (λ n. not (concerns p n 0 call.Interface called q)) old mid new
    (keeps_one old mid (λ n. not (names_it p n called)) named are long (λ n m. ap (λ x. not (is_this n x)) (sym e))) a (λ n m. de_morgan (names_it p n called) (is_found p n q))

-- ---- virtual calls

-- where one method is found alone, each other one isn't concerned
pub clear_plain : (p : Program) (called : ℕ) (q : MethodName) (x n : ℕ) → is_plain_call p x 0 call.Virtual called q ≡ true → is_clear p n called q ≡ true
clear_plain p called q x n e = elim (same_or x n) [
  | inl s ↦ or_right (not (concerns p n 0 call.Virtual called q)) (is_plain_call p n 0 call.Virtual called q) (subst (λ y. is_plain_call p y 0 call.Virtual called q ≡ true) s e)
  | inr k ↦ or_left (not (concerns p n 0 call.Virtual called q)) (is_plain_call p n 0 call.Virtual called q) (ap not (untrue (concerns p n 0 call.Virtual called q) (λ f. k (same f))))
]
  where
    resolved : resolves_to p x called ≡ true
    resolved = and_left (resolves_to p x called) (is_subclass p x q) (and_left (resolves_to p x called && is_subclass p x q) (not (may_leave p 0 call.Virtual called q)) (and_left (resolves_to p x called && is_subclass p x q && not (may_leave p 0 call.Virtual called q)) (list_all (is_it p x) (may_find p 0 call.Virtual called q)) e))

    both_are : (z : Option ℕ) → is_this x z ≡ true → is_this n z ≡ true → x ≡ n
    both_are None f g = absurd (true≢false (sym f))
    both_are (Some y) f g = sym (number_of y x f) ∙ number_of y n g

    by_name : (z : Option MethodAt) → is_this x (number_found p z) ≡ true → is_this n (named_by p called z) ≡ true → x ≡ n
    by_name None f g = absurd (true≢false (sym f))
    by_name (Some at) f g = both_are (number_at p at) f g

    same : concerns p n 0 call.Virtual called q ≡ true → x ≡ n
    same f = elim (or_cases (names_it p n called) (list_any (is_it p n) (may_find p 0 call.Virtual called q)) f) [
      | inl g ↦ by_name (resolves_method p called) resolved g
      | inr g ↦ (let a = any_method (is_it p n) (may_find p 0 call.Virtual called q) g in both_are (number_at p a.at)
          (all_methods (is_it p x) (may_find p 0 call.Virtual called q) a.at (and_right (resolves_to p x called && is_subclass p x q && not (may_leave p 0 call.Virtual called q)) (list_all (is_it p x) (may_find p 0 call.Virtual called q)) e) a.there) a.is)
    ]

pub plain_kept : (p : Program) (called : ℕ) (q : MethodName) (old new : List Bool) → KeepsPlain p old called q true → new ≡ old → Keeps (λ n. is_clear p n called q) old new
plain_kept p called q old new k e = keeps_all old new (λ n. is_clear p n called q) (λ n m. clear_plain p called q k.0 n k.1) e

pub others_kept : (p : Program) (called : ℕ) (q : MethodName) (old new : List Bool) → KeepsPlain p old called q false → Keeps (λ n. not (concerns p n 0 call.Interface called q)) old new → Keeps (λ n. is_clear p n called q) old new
others_kept p called q old new k a = keeps_same (λ n. not (concerns p n 0 call.Interface called q)) (λ n. is_clear p n called q) old new a (λ n m.
    sym (ap (λ b. not (concerns p n 0 call.Virtual called q) || b) (k n m) ∙ or_none (not (concerns p n 0 call.Virtual called q))))
