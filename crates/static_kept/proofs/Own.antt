-- A method of a program by its number: its name resolves to it, and what may be static of it is known in parts.
use Rattle.std.proofs.Common.{◌≡◌, ◌⊎◌, inl, inr, ℕ, zero, suc, ◌+◌, ◌<◌, Bool, true, false, true≢false, nat_eq, List, [], ◌∷◌, ◌++◌, length, Option, Some, None, refl, sym, ap, ◌∙◌, subst, arith}
use Rattle.std.specs.Prelude.{◌&&◌, ◌||◌, not, codes, flat_map, is_some, position, slice_get}
use Rattle.std.specs.Option.{option_and_then, option_map, option_or}
use Rattle.lemmas.proofs.Bools.{and_left, and_right, and_both, not_true}
use Rattle.lemmas.proofs.Options.{none_some, some_same}
use Rattle.program_model.specs.Distinct.{method_key, own_method_key}
use Rattle.program_model.specs.Lookups as look
use Rattle.program_model.specs.MemberRules.{has_flag, is_direct, is_static}
use Rattle.program_model.specs.declared.pass.Outside.{Outside}
use Rattle.program_model.specs.declared.pools.MethodName.{MethodName}
use Rattle.program_model.specs.declared.pools.Proto.{Proto}
use Rattle.program_model.specs.declared.program.Class.{Class}
use Rattle.program_model.specs.declared.program.Method.{Method}
use Rattle.program_model.specs.declared.program.MethodAt.{MethodAt}
use Rattle.program_model.specs.declared.program.Program.{Program}
use Rattle.class_defs.specs.ClassGraph.{IsTwice}
use Rattle.class_defs.specs.Finding.{by_entry, first_among, interfaces_from, resolution_of, resolves_method}
use Rattle.class_defs.specs.Members.{is_method, method_of_class, names_method, own_method, string_is}
use Rattle.class_defs.specs.Places.{chain_from, chain_of, interface_places, super_place}
use Rattle.class_defs.specs.Starts.{is_trivial}
use Rattle.class_defs.proofs.Positions.{FirstPlace, PlaceFits, number_of, number_test, place_entry, place_first}
use Rattle.class_defs.proofs.WellFormed.{MethodFits, Sound, class_parts}
use Rattle.name_bridge.proofs.Above.{own_place}
use Rattle.name_bridge.proofs.Tables.{same_number}
use Rattle.removal_bridge.proofs.Listed.{methods_differ}
use Rattle.facts.specs.declared.facts.Facts.{Facts}
use Rattle.loose_methods.specs.Loose.{calls_allow, is_alone, is_this, named_by, names_it, number_at}
use Rattle.loose_methods.specs.Mentioned.{is_mentioned}
use Rattle.loose_methods.specs.Candidates.{is_candidate, is_kept, is_plain_class, may_be_static, takes_receiver}
use Rattle.static_kept.proofs.MadeStatic.{IsMethod}

-- ---- tests

pub three : (a b c : Bool) → (a && b && c) ≡ true → (a ≡ true) × ((b ≡ true) × (c ≡ true))
three a b c e = let l = and_left (a && b) c e in (and_left a b l, (and_right a b l, and_right (a && b) c e))

pub four : (a b c d : Bool) → (a && b && c && d) ≡ true → (a ≡ true) × ((b ≡ true) × ((c ≡ true) × (d ≡ true)))
four a b c d e = let l = three a b c (and_left (a && b && c) d e) in (l.0, (l.1.0, (l.1.1, and_right (a && b && c) d e)))

-- what a method that may be static is
pub record MayBe (p : Program) (facts : Facts) (o : Outside) (admitted : List Bool) (place : ℕ) (k : Class) (q : MethodName) (m : Method) : Type 0 where
  pub in_class : has_flag k.flags 512 ≡ false
  pub trivial : is_trivial p place ≡ true
  pub coded : is_some m.body ≡ true
  pub receiver : is_static m.flags ≡ false
  pub plain : string_is p q.name (codes "<init>") ≡ false
  pub free : is_kept o m.name ≡ false
  pub alone : (is_direct p m || is_alone p q place) ≡ true
  pub unnamed : is_mentioned p m.name ≡ false
  pub calls : calls_allow p facts admitted m.name ≡ true

pub may_be : (p : Program) (facts : Facts) (o : Outside) (admitted : List Bool) (place : ℕ) (k : Class) (q : MethodName) (m : Method) → may_be_static p facts o admitted place k q m ≡ true → MayBe p facts o admitted place k q m
may_be p facts o admitted place k q m e =
    let a = three (is_candidate p o place k q m) (not (is_mentioned p m.name)) (calls_allow p facts admitted m.name) e in
    let b = four (is_plain_class p place k) (takes_receiver p q m) (not (is_kept o m.name)) (is_direct p m || is_alone p q place) a.0 in
    let c = three (is_some m.body) (not (is_static m.flags)) (not (string_is p q.name (codes "<init>"))) b.1.0 in
    record {
      in_class = not_true (has_flag k.flags 512) (and_left (not (has_flag k.flags 512)) (is_trivial p place) b.0);
      trivial = and_right (not (has_flag k.flags 512)) (is_trivial p place) b.0;
      coded = c.0;
      receiver = not_true (is_static m.flags) c.1.0;
      plain = not_true (string_is p q.name (codes "<init>")) c.1.1;
      free = not_true (is_kept o m.name) b.1.1.0;
      alone = b.1.1.1;
      unnamed = not_true (is_mentioned p m.name) a.1.0;
      calls = a.1.1;
    }

module _ (p : Program) (s : Sound p) (twice : (class : ℕ) → IsTwice p class → ⊥) where
  -- ---- one method for each number

  pub entry_fits : (n : ℕ) (m : IsMethod p n) → m.entry.class ≡ m.class.name
  entry_fits n m =
      let fits : MethodFits p m.class.name m.method = (class_parts p s m.place m.class m.is_class).methods m.at m.method m.is_method in
      ap (λ (q : MethodName). q.class) (some_same m.entry fits.entry (sym m.is_entry ∙ (ap (slice_get p.methods) (sym m.number) ∙ fits.is))) ∙ fits.owner

  pub place_is : (n : ℕ) (m : IsMethod p n) → look.class_place p m.entry.class ≡ Some m.place
  place_is n m = ap (look.class_place p) (entry_fits n m) ∙ own_place p twice m.place m.class m.is_class

  pub same_method : (n : ℕ) (m : IsMethod p n) (i : ℕ) (c : Class) (j : ℕ) (x : Method) → slice_get p.classes i ≡ Some c → slice_get c.methods j ≡ Some x → x.name ≡ n → x ≡ m.method
  same_method n m i c j x e f number =
      let fits : MethodFits p c.name x = (class_parts p s i c e).methods j x f in
      let entry : fits.entry ≡ m.entry = some_same fits.entry m.entry (sym fits.is ∙ (ap (slice_get p.methods) number ∙ m.is_entry)) in
      let place : i ≡ m.place = some_same i m.place (sym (own_place p twice i c e) ∙ (ap (look.class_place p) (sym fits.owner ∙ ap (λ (q : MethodName). q.class) entry) ∙ place_is n m)) in
      let class : c ≡ m.class = some_same c m.class (sym e ∙ (ap (slice_get p.classes) place ∙ m.is_class)) in
      let there : slice_get m.class.methods j ≡ Some x = ap (λ (k : Class). slice_get k.methods j) (sym class) ∙ f in
      let at : j ≡ m.at = same_number own_method_key m.class.methods j m.at x m.method (methods_differ p s m.place m.class m.is_class) there m.is_method (ap (λ n. n ∷ []) (number ∙ sym m.number)) in
      some_same x m.method (sym there ∙ (ap (slice_get m.class.methods) at ∙ m.is_method))

  -- ---- what the number names

  module _ (n : ℕ) (m : IsMethod p n) where
    abbrev q : MethodName
    q = m.entry

    pub itself : is_method p q.name q.proto m.method ≡ true
    itself = ap (names_method q.name q.proto) (ap (slice_get p.methods) m.number ∙ m.is_entry) ∙ and_both (nat_eq q.name q.name) (nat_eq q.proto q.proto) (number_test q.name q.name refl) (number_test q.proto q.proto refl)

    abbrev first : FirstPlace (is_method p q.name q.proto) m.class.methods m.at
    first = place_first (is_method p q.name q.proto) m.class.methods m.at m.method m.is_method itself

    stands : PlaceFits (is_method p q.name q.proto) m.class.methods first.place
    stands = place_entry (is_method p q.name q.proto) m.class.methods first.place first.is

    abbrev pub at : MethodAt
    at = record { class = m.place; place = first.place }

    number : stands.entry.name ≡ n
    number =
        let fits : MethodFits p m.class.name stands.entry = (class_parts p s m.place m.class m.is_class).methods first.place stands.entry stands.is in
        let named : names_method q.name q.proto (Some fits.entry) ≡ true = sym (ap (names_method q.name q.proto) fits.is) ∙ stands.passes in
        let keys : method_key fits.entry ≡ method_key q = ap (λ c. c ∷ fits.entry.name ∷ fits.entry.proto ∷ []) (fits.owner ∙ sym (entry_fits n m))
        ∙ (ap (λ c. q.class ∷ c ∷ fits.entry.proto ∷ []) (number_of fits.entry.name q.name (and_left (nat_eq fits.entry.name q.name) (nat_eq fits.entry.proto q.proto) named))
        ∙ ap (λ c. q.class ∷ q.name ∷ c ∷ []) (number_of fits.entry.proto q.proto (and_right (nat_eq fits.entry.name q.name) (nat_eq fits.entry.proto q.proto) named))) in
        same_number method_key p.methods stands.entry.name n fits.entry q s.methods fits.is m.is_entry keys

    pub own_there : own_method p q.name q.proto m.place ≡ Some at
    own_there = ap (method_of_class p q.name q.proto m.place) m.is_class ∙ ap (option_map (λ i. record { class = m.place; place = i })) first.is

    pub number_there : number_at p at ≡ Some n
    number_there = ap (option_map (λ (x : Method). x.name)) (ap (option_and_then (λ (k : Class). slice_get k.methods first.place)) m.is_class ∙ stands.is) ∙ ap Some number

    pub resolves_there : resolves_method p n ≡ Some at
    resolves_there = ap (by_entry (λ q. first_among (own_method p q.name q.proto) (resolution_of p (look.class_place p q.class)))) m.is_entry
        ∙ (ap (λ o. first_among (own_method p q.name q.proto) (resolution_of p o)) (place_is n m) ∙ first_of (length p.classes) refl)
      where
        none : (cs : List Class) (k : ℕ) (d : Class) → slice_get cs k ≡ Some d → length cs ≡ 0 → ⊥
        none [] k d i j = none_some d i
        none (x ∷ cs) k d i j = omega (arith, j)

        first_of : (i : ℕ) → length p.classes ≡ i → first_among (own_method p q.name q.proto) (resolution_of p (Some m.place)) ≡ Some at
        first_of zero e = absurd (none p.classes m.place m.class m.is_class e)
        first_of (suc i) e = ap (λ z. first_among (own_method p q.name q.proto) (chain_from (super_place p) z (Some m.place) ++ interfaces_from (length p.classes) p (flat_map (interface_places p) (chain_of p (Some m.place))))) e
            ∙ ap (λ o. option_or o (first_among (own_method p q.name q.proto) (chain_from (super_place p) i (super_place p m.place) ++ interfaces_from (length p.classes) p (flat_map (interface_places p) (chain_of p (Some m.place)))))) own_there

    pub names_itself : names_it p n n ≡ true
    names_itself = ap (λ o. is_this n (named_by p n o)) resolves_there ∙ (ap (is_this n) number_there ∙ number_test n n refl)
