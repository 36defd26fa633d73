-- What names resolve to, along the classes above a class.
use Rattle.std.proofs.Common.{◌≡◌, ℕ, zero, suc, ◌<◌, ◌≤◌, inl, inr, Bool, true, false, List, [], ◌∷◌, ◌++◌, length, Option, Some, None, Result, Ok, Err, refl, sym, ap, subst, ◌∙◌, ltb-true, append-nil}
use Rattle.std.specs.Prelude.{◌&&◌, slice_index_or, nat_lt, option_and_then, flat_map, IfOk}
use Rattle.std.specs.List.{list_all}
use Rattle.std.specs.Option.{option_or}
use Rattle.std.proofs.lemmas.Option.{slice_get_past}
use Rattle.std.proofs.lemmas.Bool.{cases_lt}
use Rattle.program_model.specs.declared.program.MethodAt.{MethodAt}
use Rattle.program_model.specs.declared.program.Program.{Program}
use Rattle.program_model.specs.Lookups.{class_place}
use Rattle.class_defs.specs.Places.{super_place, listed, interface_places, chain_of}
use Rattle.class_defs.specs.Members.{own_field, field_of_class, own_method, method_of_class}
use Rattle.class_defs.specs.Finding.{first_among, finds_from, beside, field_from, interfaces_from, resolution_of}
use Rattle.class_defs.proofs.WellFormed.{and_left, and_right}
use Rattle.hierarchy.specs.declared.build.Hierarchy.{Hierarchy}
use Rattle.hierarchy.specs.Membership.{found_in}
use Rattle.hierarchy.specs.Naming.{IsFieldKey, IsKey}
use Rattle.hierarchy.specs.Ranks.{is_lower, is_lower_all, IsRanked}
use Rattle.hierarchy.specs.Shapes.{IsOf}
use Rattle.hierarchy.specs.Tables.{read_at, row_of}
use Rattle.hierarchy.specs.Walking.{Visits, deep, IsSpent, in_interfaces, in_lists}
use Rattle.hierarchy.proofs.Deep.{Going, begins, ends, hits, skips, opens, all_join, among_same, among_join}
use Rattle.hierarchy.proofs.LookedFields.{field_some, field_none}
use Rattle.hierarchy.proofs.Looked.{found_some, found_none}

module _ (p : Program) (r : IsRanked p) where
  abbrev pub fields_above : ℕ → List ℕ
  fields_above c = interface_places p c ++ beside (super_place p c)

  pub list_lower : (c : ℕ) → list_all (λ u. nat_lt (r.rank u) (r.rank c)) (interface_places p c) ≡ true
  list_lower c = elim (cases_lt c (length p.classes)) [
    | inl lt ↦ and_right (nat_lt (r.rank c) (length p.classes) && is_lower r.rank (r.rank c) (super_place p c)) (is_lower_all r.rank (r.rank c) (interface_places p c)) (r.each c lt)
    | inr le ↦ ap (λ o. list_all (λ u. nat_lt (r.rank u) (r.rank c)) (listed p o)) (slice_get_past p.classes c le)
  ]

  pub super_lower : (c : ℕ) → list_all (λ u. nat_lt (r.rank u) (r.rank c)) (beside (super_place p c)) ≡ true
  super_lower c = elim (cases_lt c (length p.classes)) [
    | inl lt ↦ one (super_place p c) (and_right (nat_lt (r.rank c) (length p.classes)) (is_lower r.rank (r.rank c) (super_place p c))
        (and_left (nat_lt (r.rank c) (length p.classes) && is_lower r.rank (r.rank c) (super_place p c)) (is_lower_all r.rank (r.rank c) (interface_places p c)) (r.each c lt)))
    | inr le ↦ ap (λ o. list_all (λ u. nat_lt (r.rank u) (r.rank c)) (beside (option_and_then (λ k. class_place p k.superclass) o))) (slice_get_past p.classes c le)
  ]
    where
      and_true : (b : Bool) → b ≡ true → (b && true) ≡ true
      and_true true e = refl
      and_true false e = e

      one : (o : Option ℕ) → is_lower r.rank (r.rank c) o ≡ true → list_all (λ u. nat_lt (r.rank u) (r.rank c)) (beside o) ≡ true
      one None e = refl
      one (Some u) e = and_true (nat_lt (r.rank u) (r.rank c)) e

  pub fields_lower : (c : ℕ) → list_all (λ u. nat_lt (r.rank u) (r.rank c)) (fields_above c) ≡ true
  fields_lower c = all_join (λ u. nat_lt (r.rank u) (r.rank c)) (interface_places p c) (beside (super_place p c)) (list_lower c) (super_lower c)

  pub short : (c : ℕ) → c < length p.classes → r.rank c < length p.classes
  short c lt = ltb-true (r.rank c) (length p.classes) (and_left (nat_lt (r.rank c) (length p.classes)) (is_lower r.rank (r.rank c) (super_place p c))
      (and_left (nat_lt (r.rank c) (length p.classes) && is_lower r.rank (r.rank c) (super_place p c)) (is_lower_all r.rank (r.rank c) (interface_places p c)) (r.each c lt)))

  module _ (name kind : ℕ) where
    pub fields_past : (c : ℕ) → length p.classes ≤ c → (own_field p name kind c ≡ None) × (fields_above c ≡ [])
    fields_past c le =
        let none = slice_get_past p.classes c le in
        (ap (field_of_class p name kind c) none, ap (λ o. listed p o ++ beside (option_and_then (λ k. class_place p k.superclass) o)) none)

    abbrev pub FieldGoing : List Bool → List ℕ → Option (ℕ × ℕ) → Type 0
    FieldGoing seen stack whole = Going (own_field p name kind) fields_above r.rank (length p.classes) fields_lower short fields_past seen stack whole

    pub field_deep : (m c : ℕ) → field_from m p name kind c ≡ deep (own_field p name kind) fields_above m c
    field_deep zero c = refl
    field_deep (suc m) c = ap (option_or (own_field p name kind c)) (among_same (field_from m p name kind) (deep (own_field p name kind) fields_above m) (field_deep m) (fields_above c))

  module _ (name proto : ℕ) where
    pub methods_past : (c : ℕ) → length p.classes ≤ c → (own_method p name proto c ≡ None) × (interface_places p c ≡ [])
    methods_past c le =
        let none = slice_get_past p.classes c le in
        (ap (method_of_class p name proto c) none, ap (listed p) none)

    abbrev pub MethodGoing : List Bool → List ℕ → Option MethodAt → Type 0
    MethodGoing seen stack whole = Going (own_method p name proto) (interface_places p) r.rank (length p.classes) list_lower short methods_past seen stack whole

or_none : {X : Type 0} (o : Option X) → option_or o None ≡ o
or_none None = refl
or_none (Some x) = refl

module _ (p : Program) (h : Hierarchy) (is : IsOf p h) (key name kind : ℕ) (k : IsFieldKey p h key name kind) where
  pub field_begins : (seen : List Bool) (stack : List ℕ) (class : ℕ) → ((c : ℕ) → slice_index_or seen c false ≡ true → ⊥) → length seen ≡ length p.classes → stack ≡ class ∷ [] → FieldGoing p is.ranked name kind seen stack (field_from (length p.classes) p name kind class)
  field_begins seen stack class unseen size e =
      let answers = deep (own_field p name kind) (fields_above p is.ranked) (length p.classes) in
      let spent : IsSpent answers (length p.classes) seen = record { none = λ c s. absurd (unseen c s); size = size } in
      let whole : first_among answers stack ≡ field_from (length p.classes) p name kind class = ap (first_among answers) e ∙ or_none (answers class) ∙ sym (field_deep p is.ranked name kind (length p.classes) class) in
      subst (λ w. FieldGoing p is.ranked name kind seen stack w) whole
      (begins (own_field p name kind) (fields_above p is.ranked) is.ranked.rank (length p.classes) (fields_lower p is.ranked) (short p is.ranked) (fields_past p is.ranked name kind) seen stack spent)

  pub field_ends : (seen : List Bool) (stack : List ℕ) (whole : Option (ℕ × ℕ)) → stack ≡ [] → FieldGoing p is.ranked name kind seen stack whole → None ≡ whole
  field_ends seen stack whole e g = (ends (own_field p name kind) (fields_above p is.ranked) is.ranked.rank (length p.classes) (fields_lower p is.ranked) (short p is.ranked) (fields_past p is.ranked name kind) seen stack whole e g).0

  ups_are : (x : ℕ) → row_of h.shape.lists.rows x ++ beside (read_at h.shape.supers.items x) ≡ fields_above p is.ranked x
  ups_are x = ap (λ l. l ++ beside (read_at h.shape.supers.items x)) (is.lists x) ∙ ap (λ o. interface_places p x ++ beside o) (is.supers x)

  pub field_on : (seen seen' : List Bool) (stack rest stack' ups : List ℕ) (x : ℕ) (found r : Option ℕ) (whole : Option (ℕ × ℕ)) → stack ≡ x ∷ rest → found ≡ found_in h.named.fields x key → ups ≡ row_of h.shape.lists.rows x ++ beside (read_at h.shape.supers.items x) → r ≡ None
      → Visits seen rest x found ups seen' stack' r → FieldGoing p is.ranked name kind seen stack whole → FieldGoing p is.ranked name kind seen' stack' whole
  field_on seen seen' stack rest stack' ups x found r whole e f u none (inl s) g = skips (own_field p name kind) (fields_above p is.ranked) is.ranked.rank (length p.classes) (fields_lower p is.ranked) (short p is.ranked) (fields_past p is.ranked name kind) seen seen' stack rest stack' x r whole e s g
  field_on seen seen' stack rest stack' ups x found r whole e f u none (inr (inl s)) g = let z : None ≡ Some s.place = sym none ∙ s.is in cc
  field_on seen seen' stack rest stack' ups x found r whole e f u none (inr (inr s)) g =
      opens (own_field p name kind) (fields_above p is.ranked) is.ranked.rank (length p.classes) (fields_lower p is.ranked) (short p is.ranked) (fields_past p is.ranked name kind) seen seen' stack rest stack' ups x found r whole e
      (sym (field_none p h key name kind x is k (sym f ∙ s.absent))) (u ∙ ups_are x) s g

  pub field_hits : (seen seen' : List Bool) (stack rest stack' ups : List ℕ) (x place : ℕ) (found r : Option ℕ) (whole : Option (ℕ × ℕ)) → stack ≡ x ∷ rest → found ≡ found_in h.named.fields x key → r ≡ Some place
      → Visits seen rest x found ups seen' stack' r → FieldGoing p is.ranked name kind seen stack whole → Some (x, place) ≡ whole
  field_hits seen seen' stack rest stack' ups x place found r whole e f some (inl s) g = let z : None ≡ Some place = sym s.nothing ∙ some in cc
  field_hits seen seen' stack rest stack' ups x place found r whole e f some (inr (inl s)) g =
      let same : found ≡ Some place = s.there ∙ sym s.is ∙ some in
      hits (own_field p name kind) (fields_above p is.ranked) is.ranked.rank (length p.classes) (fields_lower p is.ranked) (short p is.ranked) (fields_past p is.ranked name kind) seen stack rest x (x, place) whole e
      (sym (field_some p h key name kind x place is k (sym f ∙ same))) g
  field_hits seen seen' stack rest stack' ups x place found r whole e f some (inr (inr s)) g = let z : None ≡ Some place = sym s.nothing ∙ some in cc

-- the first of the methods of interfaces and of those above them
pub methods_deep : (p : Program) (name proto m : ℕ) (cs : List ℕ) → first_among (own_method p name proto) (interfaces_from m p cs) ≡ first_among (deep (own_method p name proto) (interface_places p) m) cs
methods_deep p name proto zero [] = refl
methods_deep p name proto zero (c ∷ cs) = methods_deep p name proto zero cs
methods_deep p name proto (suc m) [] = refl
methods_deep p name proto (suc m) (c ∷ cs) =
    among_join (own_method p name proto) (c ∷ interfaces_from m p (interface_places p c)) (interfaces_from (suc m) p cs)
    ∙ ap (λ o. option_or (option_or (own_method p name proto c) o) (first_among (own_method p name proto) (interfaces_from (suc m) p cs))) (methods_deep p name proto m (interface_places p c))
    ∙ ap (option_or (option_or (own_method p name proto c) (first_among (deep (own_method p name proto) (interface_places p) m) (interface_places p c)))) (methods_deep p name proto (suc m) cs)

module _ (p : Program) (h : Hierarchy) (is : IsOf p h) (key name proto : ℕ) (k : IsKey p h key name proto) where
  abbrev pub method_answers : ℕ → Option MethodAt
  method_answers = in_interfaces p name proto

  pub method_begins : (seen : List Bool) (stack : List ℕ) → IsSpent (in_interfaces p name proto) (length p.classes) seen → MethodGoing p is.ranked name proto seen stack (first_among (in_interfaces p name proto) stack)
  method_begins seen stack spent = begins (own_method p name proto) (interface_places p) is.ranked.rank (length p.classes) (list_lower p is.ranked) (short p is.ranked) (methods_past p is.ranked name proto) seen stack spent

  pub method_ends : (seen : List Bool) (stack : List ℕ) (whole : Option MethodAt) → stack ≡ [] → MethodGoing p is.ranked name proto seen stack whole → (None ≡ whole) × IsSpent (in_interfaces p name proto) (length p.classes) seen
  method_ends seen stack whole e g = ends (own_method p name proto) (interface_places p) is.ranked.rank (length p.classes) (list_lower p is.ranked) (short p is.ranked) (methods_past p is.ranked name proto) seen stack whole e g

  pub method_on : (seen seen' : List Bool) (stack rest stack' ups : List ℕ) (x : ℕ) (found r : Option ℕ) (whole : Option MethodAt) → stack ≡ x ∷ rest → found ≡ found_in h.named.methods x key → ups ≡ row_of h.shape.lists.rows x ++ [] → r ≡ None
      → Visits seen rest x found ups seen' stack' r → MethodGoing p is.ranked name proto seen stack whole → MethodGoing p is.ranked name proto seen' stack' whole
  method_on seen seen' stack rest stack' ups x found r whole e f u none (inl s) g = skips (own_method p name proto) (interface_places p) is.ranked.rank (length p.classes) (list_lower p is.ranked) (short p is.ranked) (methods_past p is.ranked name proto) seen seen' stack rest stack' x r whole e s g
  method_on seen seen' stack rest stack' ups x found r whole e f u none (inr (inl s)) g = let z : None ≡ Some s.place = sym none ∙ s.is in cc
  method_on seen seen' stack rest stack' ups x found r whole e f u none (inr (inr s)) g =
      opens (own_method p name proto) (interface_places p) is.ranked.rank (length p.classes) (list_lower p is.ranked) (short p is.ranked) (methods_past p is.ranked name proto) seen seen' stack rest stack' ups x found r whole e
      (sym (found_none p h key name proto x is k (sym f ∙ s.absent))) (u ∙ append-nil (row_of h.shape.lists.rows x) ∙ is.lists x) s g

  pub method_hits : (seen seen' : List Bool) (stack rest stack' ups : List ℕ) (x place : ℕ) (found r : Option ℕ) (whole : Option MethodAt) → stack ≡ x ∷ rest → found ≡ found_in h.named.methods x key → r ≡ Some place
      → Visits seen rest x found ups seen' stack' r → MethodGoing p is.ranked name proto seen stack whole → Some (record { class = x; place = place }) ≡ whole
  method_hits seen seen' stack rest stack' ups x place found r whole e f some (inl s) g = let z : None ≡ Some place = sym s.nothing ∙ some in cc
  method_hits seen seen' stack rest stack' ups x place found r whole e f some (inr (inl s)) g =
      let same : found ≡ Some place = s.there ∙ sym s.is ∙ some in
      hits (own_method p name proto) (interface_places p) is.ranked.rank (length p.classes) (list_lower p is.ranked) (short p is.ranked) (methods_past p is.ranked name proto) seen stack rest x (record { class = x; place = place }) whole e
      (sym (found_some p h key name proto x place is k (sym f ∙ same))) g
  method_hits seen seen' stack rest stack' ups x place found r whole e f some (inr (inr s)) g = let z : None ≡ Some place = sym s.nothing ∙ some in cc

-- ---- a class, its superclasses, and the interfaces of these

flat_among : (f : ℕ → Option MethodAt) (lists : ℕ → List ℕ) (cs : List ℕ) → first_among f (flat_map lists cs) ≡ first_among (λ c. first_among f (lists c)) cs
flat_among f lists [] = refl
flat_among f lists (c ∷ cs) = among_join f (lists c) (flat_map lists cs) ∙ ap (option_or (first_among f (lists c))) (flat_among f lists cs)

resolution : (p : Program) (name proto class : ℕ) → first_among (own_method p name proto) (resolution_of p (Some class)) ≡ option_or (finds_from p name proto (Some class)) (first_among (in_lists p name proto) (chain_of p (Some class)))
resolution p name proto class =
    among_join (own_method p name proto) (chain_of p (Some class)) (interfaces_from (length p.classes) p (flat_map (interface_places p) (chain_of p (Some class))))
    ∙ ap (option_or (finds_from p name proto (Some class))) (methods_deep p name proto (length p.classes) (flat_map (interface_places p) (chain_of p (Some class))) ∙ flat_among (in_interfaces p name proto) (interface_places p) (chain_of p (Some class)))

pub resolves_some : (p : Program) (name proto class : ℕ) (at : MethodAt) → Some at ≡ finds_from p name proto (Some class) → Some at ≡ first_among (own_method p name proto) (resolution_of p (Some class))
resolves_some p name proto class at e = ap (λ o. option_or o (first_among (in_lists p name proto) (chain_of p (Some class)))) e ∙ sym (resolution p name proto class)

pub resolves_other : {E : Type 0} (p : Program) (name proto class : ℕ) (r : Result (Option MethodAt) E) → None ≡ finds_from p name proto (Some class) → IfOk r (λ o. o ≡ first_among (in_lists p name proto) (chain_of p (Some class)))
    → IfOk r (λ o. o ≡ first_among (own_method p name proto) (resolution_of p (Some class)))
resolves_other p name proto class (Err e) none h = h
resolves_other p name proto class (Ok o) none h = h ∙ ap (λ w. option_or w (first_among (in_lists p name proto) (chain_of p (Some class)))) none ∙ sym (resolution p name proto class)

-- what one class on the way answers by the interfaces that it lists
pub lists_answer : (p : Program) (name proto one : ℕ) (pushed row before : List ℕ) (answer : Option MethodAt) → pushed ≡ row ++ before → before ≡ [] → row ≡ interface_places p one → answer ≡ first_among (in_interfaces p name proto) pushed → in_lists p name proto one ≡ answer
lists_answer p name proto one pushed row before answer e none is a = sym (a ∙ ap (first_among (in_interfaces p name proto)) (e ∙ ap (λ l. row ++ l) none ∙ append-nil row ∙ is))
