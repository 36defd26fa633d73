-- What a library declares of the methods of a program.
use Rattle.std.proofs.Common.{◌≡◌, ℕ, zero, suc, ◌+◌, ◌<◌, ◌≤◌, ◌^◌, inl, inr, Bool, true, false, true≢false, nat_eq, List, [], ◌∷◌, ◌++◌, length, take, Option, Some, None, refl, sym, ap, subst, ◌∙◌, arith}
use Rattle.std.specs.Prelude.{◌⊎◌, ◌&&◌, ◌||◌, not, cond, slice_get, option_and_then}
use Rattle.std.specs.List.{flat_map, list_any, list_all}
use Rattle.std.proofs.lemmas.List.Folds.{list_any-append}
use Rattle.std.proofs.lemmas.Option.{slice_get_within}
use Rattle.program_model.specs.MemberRules.{name_of_method, is_object}
use Rattle.program_model.specs.Texts.{string_text}
use Rattle.program_model.specs.declared.pools.MethodName.{MethodName}
use Rattle.program_model.specs.declared.program.Program.{Program}
use Rattle.class_defs.specs.Members.{names_method}
use Rattle.class_defs.proofs.Positions.{same_test, both, number_of, number_test}
use Rattle.class_defs.proofs.WellFormed.{and_left, and_right}
use Rattle.stub_library.specs.Stubs.{proto_text}
use Rattle.stub_library.specs.Shut.{declares, above_of, has_method, declares_method}
use Rattle.stub_library.specs.Listing.{same_text, all_below, AreListed}
use Rattle.stub_library.specs.Spelling.{proto_of_entry, proto_of_number, name_in, proto_passes, spelled_one, spelled_as, HasNumber, IsSpelled}
use Rattle.stub_library.specs.Lists.{In}
use Rattle.stub_library.specs.Meeting.{Adds, names_any, clear_by, class_text, text_at, declared_by, IsRow, HasRow, AreRows, IsDeclared, DeclaredTo, local_clear, row_or_none, rows_at, class_above, above_by}
use Rattle.stub_library.specs.declared.library.LibraryClass.{LibraryClass}
use Rattle.stub_library.specs.declared.library.LibraryMethod.{LibraryMethod}
use Rattle.stub_library.specs.declared.library.Library.{Library}
use Rattle.stub_library.specs.declared.spelled.Spelled.{Spelled}
use Rattle.stub_library.specs.declared.declared.Declared.{Declared}
use Rattle.stub_library.proofs.Lists.{in_left, in_right, in_either, in_flat, from_flat, got_in, in_got, any_in, any_from}
use Rattle.stub_library.proofs.ByText.{text_is, text_same, got_front, got_last, one_longer, before_or_at}

-- ---- numbers with a text

pub record Below (texts : ℕ → List ℕ) (t : List ℕ) (n j : ℕ) : Type 0 where
  pub short : j < n
  pub same : texts j ≡ t

pub below_from : (texts : ℕ → List ℕ) (t : List ℕ) (n j : ℕ) → In j (all_below texts t n) → Below texts t n j
below_from texts t zero j i = absurd i
below_from texts t (suc n) j i = by (same_text (texts n) t) refl i (below_from texts t n j)
  where
    by : (b : Bool) → same_text (texts n) t ≡ b → In j (cond b (n ∷ all_below texts t n) (all_below texts t n)) → (In j (all_below texts t n) → Below texts t n j) → Below texts t (suc n) j
    by true e (inl s) more = record { short = omega (arith, s); same = ap texts (sym s) ∙ text_is (texts n) t e }
    by true e (inr k) more = let r = more k in record { short = (let l = r.short in omega (arith, l)); same = r.same }
    by false e k more = let r = more k in record { short = (let l = r.short in omega (arith, l)); same = r.same }

pub below_to : (texts : ℕ → List ℕ) (t : List ℕ) (n j : ℕ) → j < n → texts j ≡ t → In j (all_below texts t n)
below_to texts t zero j lt e = absurd (omega (arith, lt))
below_to texts t (suc n) j lt e = elim (before_or_at j n (omega (arith, lt))) [
  | inl l ↦ older (same_text (texts n) t) (below_to texts t n j l e)
  | inr s ↦ subst (λ b. In j (cond b (n ∷ all_below texts t n) (all_below texts t n))) (sym (ap (same_text (texts n)) (sym e ∙ ap texts s) ∙ text_same (texts n))) (inl (sym s))
]
  where
    older : (b : Bool) → In j (all_below texts t n) → In j (cond b (n ∷ all_below texts t n) (all_below texts t n))
    older true i = inr i
    older false i = i

-- ---- tests over what is brought along

pub any_flat : {X Y : Type 0} (test : Y → Bool) (f : X → List Y) (xs : List X) → list_any test (flat_map f xs) ≡ list_any (λ x. list_any test (f x)) xs
any_flat test f [] = refl
any_flat test f (x ∷ xs) = list_any-append test (f x) (flat_map f xs) ∙ ap (λ b. list_any test (f x) || b) (any_flat test f xs)

pub any_same : {X : Type 0} (f g : X → Bool) (xs : List X) → ((x : X) → f x ≡ g x) → list_any f xs ≡ list_any g xs
any_same f g [] h = refl
any_same f g (x ∷ xs) h = ap (λ b. b || list_any f xs) (h x) ∙ ap (λ b. g x || b) (any_same f g xs h)

-- ---- the program's methods with a name and a proto

module _ (p : Program) (s : Spelled) (is : IsSpelled p s) (i : ℕ) (q : MethodName) (e : slice_get p.methods i ≡ Some q) where
  abbrev ns : List ℕ
  ns = s.numbers.items

  named : (n : ℕ) → names_method q.name q.proto (slice_get p.methods n) ≡ true → (name_of_method p (slice_get p.methods n) ≡ string_text p q.name) × (proto_of_number p n ≡ proto_text p q.proto)
  named n t = by (slice_get p.methods n) t
    where
      by : (o : Option MethodName) → names_method q.name q.proto o ≡ true → (name_of_method p o ≡ string_text p q.name) × (proto_of_entry p o ≡ proto_text p q.proto)
      by None t = absurd (true≢false (sym t))
      by (Some r) t = (ap (string_text p) (number_of r.name q.name (and_left (nat_eq r.name q.name) (nat_eq r.proto q.proto) t)), ap (proto_text p) (number_of r.proto q.proto (and_right (nat_eq r.name q.name) (nat_eq r.proto q.proto) t)))

  passes_from : (proto : List ℕ) (j n : ℕ) → In n (spelled_one p ns proto j) → (slice_get ns j ≡ Some n) × (proto_of_number p n ≡ proto)
  passes_from proto j n k = by (slice_get ns j) refl k
    where
      by_test : (x : ℕ) (b : Bool) → same_text (proto_of_number p x) proto ≡ b → slice_get ns j ≡ Some x → In n (cond b (x ∷ []) []) → (slice_get ns j ≡ Some n) × (proto_of_number p n ≡ proto)
      by_test x true t g (inl w) = (g ∙ ap (λ y. Some y) w, ap (proto_of_number p) (sym w) ∙ text_is (proto_of_number p x) proto t)
      by_test x true t g (inr w) = absurd w
      by_test x false t g w = absurd w

      by : (o : Option ℕ) → slice_get ns j ≡ o → In n (proto_passes p proto o) → (slice_get ns j ≡ Some n) × (proto_of_number p n ≡ proto)
      by None g w = absurd w
      by (Some x) g w = by_test x (same_text (proto_of_number p x) proto) refl g w

  spelled_from : (name proto : List ℕ) → names_any p q (spelled_as p ns name proto) ≡ true → (same_text name (string_text p q.name) && same_text proto (proto_text p q.proto)) ≡ true
  spelled_from name proto t =
      let one = any_from (λ n. names_method q.name q.proto (slice_get p.methods n)) (spelled_as p ns name proto) t in
      let at = from_flat (spelled_one p ns proto) (all_below (name_in p ns) name (length ns)) one.one one.is_in in
      let below = below_from (name_in p ns) name (length ns) at.one at.is_in in
      let pass = passes_from proto at.one one.one at.has in
      let texts = named one.one one.passes in
      let name_is : name ≡ string_text p q.name = sym below.same ∙ ap (λ o. name_of_method p (option_and_then (slice_get p.methods) o)) pass.0 ∙ texts.0 in
      let proto_is : proto ≡ proto_text p q.proto = sym pass.1 ∙ texts.1 in
      both (same_text name (string_text p q.name)) (same_text proto (proto_text p q.proto)) (ap (same_text name) (sym name_is) ∙ text_same name) (ap (same_text proto) (sym proto_is) ∙ text_same proto)

  spelled_to : (name proto : List ℕ) → (same_text name (string_text p q.name) && same_text proto (proto_text p q.proto)) ≡ true → names_any p q (spelled_as p ns name proto) ≡ true
  spelled_to name proto t =
      let w = is.all i q e in
      let texts = named w.number w.named in
      let name_is : string_text p q.name ≡ name = sym (text_is name (string_text p q.name) (and_left (same_text name (string_text p q.name)) (same_text proto (proto_text p q.proto)) t)) in
      let proto_is : proto_text p q.proto ≡ proto = sym (text_is proto (proto_text p q.proto) (and_right (same_text name (string_text p q.name)) (same_text proto (proto_text p q.proto)) t)) in
      let here : name_in p ns w.place ≡ name = ap (λ o. name_of_method p (option_and_then (slice_get p.methods) o)) w.is ∙ texts.0 ∙ name_is in
      any_in (λ n. names_method q.name q.proto (slice_get p.methods n)) (spelled_as p ns name proto) w.number
      (in_flat (spelled_one p ns proto) (all_below (name_in p ns) name (length ns)) w.place w.number (below_to (name_in p ns) name (length ns) w.place (slice_get_within ns w.place w.number w.is) here)
      (subst (λ o. In w.number (proto_passes p proto o)) (sym w.is)
      (subst (λ b. In w.number (cond b (w.number ∷ []) [])) (sym (ap (λ u. same_text u proto) (texts.1 ∙ proto_is) ∙ text_same proto)) (inl refl)))) w.named

  pub declared_is : (c : LibraryClass) → names_any p q (declared_by p ns c) ≡ has_method (string_text p q.name) (proto_text p q.proto) c
  declared_is c =
      any_flat (λ n. names_method q.name q.proto (slice_get p.methods n)) (λ m. spelled_as p ns m.name m.proto) c.methods
      ∙ any_same (λ (m : LibraryMethod). names_any p q (spelled_as p ns m.name m.proto)) (λ m. same_text m.name (string_text p q.name) && same_text m.proto (proto_text p q.proto)) c.methods
      (λ m. same_test (names_any p q (spelled_as p ns m.name m.proto)) (same_text m.name (string_text p q.name) && same_text m.proto (proto_text p q.proto)) (spelled_from m.name m.proto) (spelled_to m.name m.proto))

pub row_is : (p : Program) (s : Spelled) (c : LibraryClass) (row : List ℕ) → IsSpelled p s → row ≡ declared_by p s.numbers.items c → IsRow p c row
row_is p s c row is e = record { names = λ i q g. ap (names_any p q) e ∙ declared_is p s is i q g c }

-- ---- the declarations of a type

pub record HasPlace (l : Library) (t : List ℕ) (test : LibraryClass → Bool) : Type 0 where
  pub place : ℕ
  pub class : LibraryClass
  pub is_in : In place (all_below (text_at l) t (length l.classes))
  pub is : slice_get l.classes place ≡ Some class
  pub passes : test class ≡ true

module _ (l : Library) (t : List ℕ) where
  abbrev places : List ℕ
  places = all_below (text_at l) t (length l.classes)

  pub place_from : (test : LibraryClass → Bool) → list_any (λ c. same_text c.name t && test c) l.classes ≡ true → HasPlace l t test
  place_from test e =
      let one = any_from (λ (c : LibraryClass). same_text c.name t && test c) l.classes e in
      let at = in_got l.classes one.one one.is_in in
      record {
        place = at.place;
        class = one.one;
        is_in = below_to (text_at l) t (length l.classes) at.place (slice_get_within l.classes at.place one.one at.is)
            (ap class_text at.is ∙ text_is one.one.name t (and_left (same_text one.one.name t) (test one.one) one.passes));
        is = at.is;
        passes = and_right (same_text one.one.name t) (test one.one) one.passes;
      }

  pub place_to : (test : LibraryClass → Bool) (j : ℕ) (c : LibraryClass) → In j (all_below (text_at l) t (length l.classes)) → slice_get l.classes j ≡ Some c → test c ≡ true → list_any (λ c. same_text c.name t && test c) l.classes ≡ true
  place_to test j c i g e =
      let below = below_from (text_at l) t (length l.classes) j i in
      any_in (λ (c : LibraryClass). same_text c.name t && test c) l.classes c (got_in l.classes j c g)
      (both (same_text c.name t) (test c) (ap (λ u. same_text u t) (sym (ap class_text g) ∙ below.same) ∙ text_same t) e)

  -- what stands directly above by the places is what does by the declarations
  pub above_from : (u : List ℕ) → In u (above_by l places) → In u (above_of l t)
  above_from u i =
      let one = from_flat (λ j. class_above (slice_get l.classes j)) places u i in
      by one.one one.is_in (slice_get l.classes one.one) refl one.has
    where
      by : (j : ℕ) → In j places → (o : Option LibraryClass) → slice_get l.classes j ≡ o → In u (class_above o) → In u (above_of l t)
      by j k None g h = absurd h
      by j k (Some c) g h =
          let below = below_from (text_at l) t (length l.classes) j k in
          in_flat (λ (c : LibraryClass). cond (same_text c.name t) c.above []) l.classes c u (got_in l.classes j c g)
          (subst (λ b. In u (cond b c.above [])) (sym (ap (λ v. same_text v t) (sym (ap class_text g) ∙ below.same) ∙ text_same t)) h)

  pub above_to : (u : List ℕ) → In u (above_of l t) → In u (above_by l places)
  above_to u i =
      let one = from_flat (λ (c : LibraryClass). cond (same_text c.name t) c.above []) l.classes u i in
      let at = in_got l.classes one.one one.is_in in
      by one.one at.place at.is (same_text one.one.name t) refl one.has
    where
      by : (c : LibraryClass) (j : ℕ) → slice_get l.classes j ≡ Some c → (b : Bool) → same_text c.name t ≡ b → In u (cond b c.above []) → In u (above_by l places)
      by c j g true e h =
          in_flat (λ j. class_above (slice_get l.classes j)) places j u (below_to (text_at l) t (length l.classes) j (slice_get_within l.classes j c g) (ap class_text g ∙ text_is c.name t e))
          (subst (λ o. In u (class_above o)) (sym g) h)
      by c j g false e h = absurd h

  -- a type is declared where it has a place
  pub declared_none : places ≡ [] → declares l t ≡ false
  declared_none e = by (declares l t) refl
    where
      true_too : (b : Bool) → b ≡ true → (b && true) ≡ true
      true_too true f = refl
      true_too false f = f

      by : (b : Bool) → declares l t ≡ b → b ≡ false
      by false f = refl
      by true f =
          let one = any_from (λ (c : LibraryClass). same_text c.name t) l.classes f in
          let w = place_from (λ c. true) (any_in (λ (c : LibraryClass). same_text c.name t && true) l.classes one.one one.is_in (true_too (same_text one.one.name t) one.passes)) in
          absurd (subst (λ xs. In w.place xs) e w.is_in)

  pub declared_some : (j : ℕ) (js : List ℕ) → places ≡ j ∷ js → declares l t ≡ true
  declared_some j js e =
      let k : In j places = subst (λ xs. In j xs) (sym e) (inl refl) in
      let below = below_from (text_at l) t (length l.classes) j k in
      by (slice_get l.classes j) refl below.short below.same
    where
      by : (o : Option LibraryClass) → slice_get l.classes j ≡ o → j < length l.classes → text_at l j ≡ t → declares l t ≡ true
      by (Some c) g lt s = any_in (λ (c : LibraryClass). same_text c.name t) l.classes c (got_in l.classes j c g) (ap (λ u. same_text u t) (sym (ap class_text g) ∙ s) ∙ text_same t)
      by None g lt s = absurd (past l.classes j g lt)
        where
          past : (cs : List LibraryClass) (i : ℕ) → slice_get cs i ≡ None → i < length cs → ⊥
          past [] i f lt = omega (arith, lt)
          past (c ∷ cs) zero f lt = absurd (cc)
          past (c ∷ cs) (suc i) f lt = past cs i f (omega (arith, lt))

  -- the rows at its places have what its declarations have
  module _ (p : Program) (rows : List (List ℕ)) (are : AreRows p l.classes rows) (i : ℕ) (q : MethodName) (e : slice_get p.methods i ≡ Some q) where
    abbrev n : List ℕ
    n = string_text p q.name

    abbrev r : List ℕ
    r = proto_text p q.proto

    rows_from : names_any p q (rows_at rows places) ≡ true → declares_method l t n r ≡ true
    rows_from f =
        let one = any_from (λ n. names_method q.name q.proto (slice_get p.methods n)) (rows_at rows places) f in
        let at = from_flat (λ j. row_or_none (slice_get rows j)) places one.one one.is_in in
        by at.one at.is_in (slice_get l.classes at.one) refl one.one at.has one.passes
      where
        by : (j : ℕ) → In j places → (o : Option LibraryClass) → slice_get l.classes j ≡ o → (x : ℕ) → In x (row_or_none (slice_get rows j)) → names_method q.name q.proto (slice_get p.methods x) ≡ true → declares_method l t n r ≡ true
        by j k (Some c) g x h s =
            let w = are.at j c g in
            place_to (has_method n r) j c k g (sym (w.are.names i q e) ∙ any_in (λ n. names_method q.name q.proto (slice_get p.methods n)) w.row x (subst (λ o. In x (row_or_none o)) w.is h) s)
        by j k None g x h s =
            let below = below_from (text_at l) t (length l.classes) j k in
            absurd (past l.classes j g below.short)
          where
            past : (cs : List LibraryClass) (i : ℕ) → slice_get cs i ≡ None → i < length cs → ⊥
            past [] i f lt = omega (arith, lt)
            past (c ∷ cs) zero f lt = absurd (cc)
            past (c ∷ cs) (suc i) f lt = past cs i f (omega (arith, lt))

    rows_to : declares_method l t n r ≡ true → names_any p q (rows_at rows places) ≡ true
    rows_to f =
        let w = place_from (has_method n r) f in
        let row = are.at w.place w.class w.is in
        let one = any_from (λ n. names_method q.name q.proto (slice_get p.methods n)) row.row (row.are.names i q e ∙ w.passes) in
        any_in (λ n. names_method q.name q.proto (slice_get p.methods n)) (rows_at rows places) one.one
        (in_flat (λ j. row_or_none (slice_get rows j)) places w.place one.one w.is_in (subst (λ o. In one.one (row_or_none o)) (sym row.is) one.is_in)) one.passes

    pub rows_are : names_any p q (rows_at rows places) ≡ declares_method l t n r
    rows_are = same_test (names_any p q (rows_at rows places)) (declares_method l t n r) rows_from rows_to
