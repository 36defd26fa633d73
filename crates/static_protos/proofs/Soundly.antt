-- The tables keep the limits of files, have no entry twice, and have the short form of each proto, behind each method too.
use Rattle.std.proofs.Common.{◌≡◌, ◌⊎◌, inl, inr, ℕ, zero, suc, ◌+◌, ◌<◌, ◌≤◌, ◌^◌, Bool, true, false, true≢false, nat_eq, List, [], ◌∷◌, ◌++◌, map, length, Option, Some, None, refl, sym, ap, ◌∙◌, subst, arith}
use Rattle.std.specs.Prelude.{◌&&◌, ◌||◌, ◌==◌, cond, is_some, not, nat_le, nat_lt, position, slice_get, slice_index_or, sum_by, if◌then◌else◌}
use Rattle.std.specs.List.{list_all, list_any, zip}
use Rattle.std.specs.Option.{option_map}
use Rattle.std.specs.Cmp.Lexicographic.{pointwise, bytes_decides, nat_list_eq_equiv}
use Rattle.std.proofs.lemmas.Bool.{leb-true, cases_lt}
use Rattle.std.proofs.lemmas.List.{append_assoc}
use Rattle.lemmas.proofs.Bools.{and_left, and_right, clash}
use Rattle.lemmas.proofs.Lists.{all_at, got_short, get_there}
use Rattle.lemmas.proofs.Options.{none_some, some_same}
use Rattle.program_model.specs.Distinct.{all_differ, differ_from, same_entry, text_key, proto_key}
use Rattle.program_model.specs.ProgramRules.{is_well_formed}
use Rattle.program_model.specs.TableRules.{proto_fits, is_shorty, stands_for, stands_for_parameter}
use Rattle.program_model.specs.Texts.{has_string, has_type, is_reference, is_void, letter_of, string_text}
use Rattle.program_model.specs.declared.pools.Proto.{Proto}
use Rattle.program_model.specs.declared.program.Program.{Program}
use Rattle.class_defs.proofs.Positions.{number_of, number_test}
use Rattle.class_defs.proofs.WellFormed.{below, sound}
use Rattle.static_protos.specs.declared.tables.Wanted.{Wanted}
use Rattle.static_protos.specs.Growing.{AreBehind, AreSound}
use Rattle.static_protos.specs.Tables.{Tables, tables_of, letter_at, shorty, same_text, is_proto, text_place, proto_place, texts_with, protos_with, place_or, proto_of, text_at, proto_at, strings_with, items_with, is_taken, has_room, with_new}
use Rattle.static_protos.proofs.Behind.{behind_new, placed, stays}
use Rattle.static_protos.proofs.Formed.{few_units, few_items, few_strings, few_protos}
use Rattle.static_protos.proofs.Grown.{place_none}

-- ---- no entry twice

module _ {X : Type 0} (key : X → List ℕ) where
  or_assoc : (a b c : Bool) → ((a || b) || c) ≡ (a || (b || c))
  or_assoc true b c = refl
  or_assoc false b c = refl

  any_end : (t : X → Bool) (xs : List X) (x : X) → list_any t (xs ++ x ∷ []) ≡ (list_any t xs || (t x || false))
  any_end t [] x = refl
  any_end t (y ∷ xs) x = ap (λ b. t y || b) (any_end t xs x) ∙ sym (or_assoc (t y) (list_any t xs) (t x || false))

  differ_more : (before xs : List X) (x : X) → differ_from key before xs ≡ true → list_any (λ y. same_entry key y x) (before ++ xs) ≡ false → differ_from key before (xs ++ x ∷ []) ≡ true
  differ_more before [] x h e = ap (λ b. if b then false else true) (ap (list_any (λ y. same_entry key y x)) (nothing before) ∙ e)
    where
      nothing : (l : List X) → l ≡ l ++ []
      nothing [] = refl
      nothing (z ∷ l) = ap (λ m. z ∷ m) (nothing l)
  differ_more before (z ∷ xs) x h e = by (list_any (λ y. same_entry key y z) before) h (λ k. differ_more (before ++ z ∷ []) xs x k (ap (list_any (λ y. same_entry key y x)) (append_assoc before (z ∷ []) xs) ∙ e))
    where
      by : (b : Bool) → (if b then false else differ_from key (before ++ z ∷ []) xs) ≡ true → (differ_from key (before ++ z ∷ []) xs ≡ true → differ_from key (before ++ z ∷ []) (xs ++ x ∷ []) ≡ true) → (if b then false else differ_from key (before ++ z ∷ []) (xs ++ x ∷ [])) ≡ true
      by true k f = absurd (true≢false (sym k))
      by false k f = f k

  turned : (x : X) (k : List ℕ) → k ≡ key x → (xs : List X) → list_any (λ y. same_entry key y x) xs ≡ list_any (λ y. pointwise nat_eq k (key y)) xs
  turned x k e [] = refl
  turned x k e (y ∷ xs) = ap (λ b. b || list_any (λ z. same_entry key z x) xs) (nat_list_eq_equiv.symm (key y) (key x) ∙ ap (λ z. pointwise nat_eq z (key y)) (sym e)) ∙ ap (λ b. pointwise nat_eq k (key y) || b) (turned x k e xs)

  -- an entry that stands nowhere is told apart
  pub differ_end : (xs : List X) (x : X) (k : List ℕ) → k ≡ key x → all_differ key xs ≡ true → position (λ y. pointwise nat_eq k (key y)) xs ≡ None → all_differ key (xs ++ x ∷ []) ≡ true
  differ_end xs x k e h none = differ_more [] xs x h (turned x k e xs ∙ place_none (λ y. pointwise nat_eq k (key y)) xs none)

-- ---- lengths

length_end : {X : Type 0} (xs : List X) (x : X) → length (xs ++ x ∷ []) ≡ length xs + 1
length_end [] x = refl
length_end (y ∷ xs) x = let z = length_end xs x in omega (arith, z)

-- ---- the short form of a proto

module _ (p : Program) where
  letter_by : (unit l : ℕ) (a b : Bool) → nat_eq l 76 ≡ a → nat_eq l 91 ≡ b → (if b then nat_eq unit 76 else nat_eq unit l) ≡ true → unit ≡ (if (a || b) then 76 else l)
  letter_by unit l true true e f g = number_of unit 76 g
  letter_by unit l false true e f g = number_of unit 76 g
  letter_by unit l true false e f g = number_of unit l g ∙ number_of l 76 e
  letter_by unit l false false e f g = number_of unit l g

  letter_is : (unit kind : ℕ) → stands_for unit (letter_of p kind) ≡ true → unit ≡ letter_at p kind
  letter_is unit kind e = letter_by unit (letter_of p kind) (nat_eq (letter_of p kind) 76) (nat_eq (letter_of p kind) 91) refl refl e

  letters_are : (units kinds : List ℕ) → (nat_eq (length units) (length kinds) && list_all (stands_for_parameter p) (zip units kinds)) ≡ true → units ≡ map (letter_at p) kinds
  letters_are [] [] e = refl
  letters_are [] (k ∷ ks) e = absurd (let z : 0 ≡ suc (length ks) = number_of 0 (suc (length ks)) (and_left (nat_eq 0 (suc (length ks))) true e) in cc)
  letters_are (u ∷ us) [] e = absurd (let z : suc (length us) ≡ 0 = number_of (suc (length us)) 0 (and_left (nat_eq (suc (length us)) 0) true e) in cc)
  letters_are (u ∷ us) (k ∷ ks) e =
      let more : suc (length us) ≡ suc (length ks) = number_of (suc (length us)) (suc (length ks)) (and_left (nat_eq (suc (length us)) (suc (length ks))) (stands_for_parameter p (u, k) && list_all (stands_for_parameter p) (zip us ks)) e) in
      let same : length us ≡ length ks = cc in
      let long = number_test (length us) (length ks) same in
      let both = and_right (nat_eq (suc (length us)) (suc (length ks))) (stands_for_parameter p (u, k) && list_all (stands_for_parameter p) (zip us ks)) e in
      let first = letter_is u k (and_left (stands_for u (letter_of p k)) (not (is_void (letter_of p k))) (and_left (stands_for_parameter p (u, k)) (list_all (stands_for_parameter p) (zip us ks)) both)) in
      let rest = letters_are us ks (ap (λ b. b && list_all (stands_for_parameter p) (zip us ks)) long ∙ and_right (stands_for_parameter p (u, k)) (list_all (stands_for_parameter p) (zip us ks)) both) in
      ap (λ x. x ∷ us) first ∙ ap (λ xs. letter_at p k ∷ xs) rest

  shorty_is : (text : List ℕ) (result : ℕ) (parameters : List ℕ) → is_shorty p text result parameters ≡ true → text ≡ shorty p result parameters
  shorty_is [] result parameters e = absurd (true≢false (sym e))
  shorty_is (u ∷ us) result parameters e =
      let first = letter_is u result (and_left (stands_for u (letter_of p result)) (nat_eq (length us) (length parameters) && list_all (stands_for_parameter p) (zip us parameters)) e) in
      let rest = letters_are us parameters (and_right (stands_for u (letter_of p result)) (nat_eq (length us) (length parameters) && list_all (stands_for_parameter p) (zip us parameters)) e) in
      ap (λ x. x ∷ us) first ∙ ap (λ xs. letter_at p result ∷ xs) rest

  text_of : (xs : List (List ℕ)) (n : ℕ) (x : List ℕ) → slice_get xs n ≡ Some x → x ≡ slice_index_or xs n []
  text_of [] n x e = none_some x e
  text_of (y ∷ xs) zero x e = sym (some_same y x e)
  text_of (y ∷ xs) (suc n) x e = text_of xs n x e

  text_there : (n : ℕ) → has_string p n ≡ true → slice_get p.strings n ≡ Some (string_text p n)
  text_there n e = let s = get_there p.strings n (below n (length p.strings) e) in s.1 ∙ ap (λ z. Some z) (text_of p.strings n s.0 s.1)

  old_shorty : is_well_formed p ≡ true → (n : ℕ) (x : Proto) → slice_get p.protos n ≡ Some x → slice_get p.strings x.shorty ≡ Some (shorty p x.result x.parameters)
  old_shorty wf n x e =
      let fits = all_at (proto_fits p) p.protos n x (sound p wf).protos_fit e in
      let first = and_left (has_string p x.shorty && has_type p x.result) (list_all (has_type p) x.parameters && is_shorty p (string_text p x.shorty) x.result x.parameters) fits in
      let second = and_right (has_string p x.shorty && has_type p x.result) (list_all (has_type p) x.parameters && is_shorty p (string_text p x.shorty) x.result x.parameters) fits in
      text_there x.shorty (and_left (has_string p x.shorty) (has_type p x.result) first)
      ∙ ap (λ z. Some z) (shorty_is (string_text p x.shorty) x.result x.parameters (and_right (list_all (has_type p) x.parameters) (is_shorty p (string_text p x.shorty) x.result x.parameters) second))

  pub first_sound : is_well_formed p ≡ true → AreSound p (tables_of p)
  first_sound wf = record {
    units = few_units p wf;
    items = few_items p wf;
    few_strings = few_strings p wf;
    few_protos = few_protos p wf;
    texts = (sound p wf).strings;
    keys = (sound p wf).protos;
    shorties = old_shorty wf;
  }

  -- ---- behind a method

  module _ (t : Tables) (w : Wanted) (s : AreSound p t) (text : w.text ≡ shorty p w.result w.parameters) (room : has_room p t w ≡ true) where
    places : ((is_some (text_at t w) || nat_lt (length t.strings) 65536) ≡ true) × (((is_some (proto_at t w) || nat_lt (length t.protos) 65535) ≡ true) × ((nat_le (sum_by length (strings_with t w)) 16777216 ≡ true) × (nat_le (items_with t w) 16777216 ≡ true)))
    places =
        let a = not (is_taken p w.name (proto_at t w)) in
        let b = is_some (text_at t w) || nat_lt (length t.strings) 65536 in
        let c = is_some (proto_at t w) || nat_lt (length t.protos) 65535 in
        let d = nat_le (sum_by length (strings_with t w)) 16777216 in
        let e = nat_le (items_with t w) 16777216 in
        let four = and_left (a && b && c && d) e room in
        let three = and_left (a && b && c) d four in
        (and_right a b (and_left (a && b) c three), (and_right (a && b) c three, (and_right (a && b && c) d four, and_right (a && b && c && d) e room)))

    strings_few : length (strings_with t w) < 2 ^ 32
    strings_few = by (text_at t w) places.0
      where
        by : (o : Option ℕ) → (is_some o || nat_lt (length t.strings) 65536) ≡ true → length (texts_with t.strings w.text o) < 2 ^ 32
        by None e = let l = below (length t.strings) 65536 e in let z = length_end t.strings w.text in omega (arith, l, z)
        by (Some i) e = s.few_strings

    protos_few : length (with_new t w).protos ≤ 65535
    protos_few = by (proto_at t w) places.1.0
      where
        by : (o : Option ℕ) → (is_some o || nat_lt (length t.protos) 65535) ≡ true → length (protos_with t.protos (proto_of t w) o) ≤ 65535
        by None e = let l = below (length t.protos) 65535 e in let z = length_end t.protos (proto_of t w) in omega (arith, l, z)
        by (Some i) e = s.few_protos

    texts_differ : all_differ text_key (strings_with t w) ≡ true
    texts_differ = by (text_at t w) refl
      where
        by : (o : Option ℕ) → text_at t w ≡ o → all_differ text_key (texts_with t.strings w.text o) ≡ true
        by None e = differ_end text_key t.strings w.text w.text refl s.texts e
        by (Some i) e = s.texts

    keys_differ : all_differ proto_key (with_new t w).protos ≡ true
    keys_differ = by (proto_at t w) refl
      where
        by : (o : Option ℕ) → proto_at t w ≡ o → all_differ proto_key (protos_with t.protos (proto_of t w) o) ≡ true
        by None e = differ_end proto_key t.protos (proto_of t w) (w.result ∷ w.parameters) refl s.keys e
        by (Some i) e = s.keys

    -- the text of the new short form stands at its place
    new_text : slice_get (strings_with t w) (place_or (length t.strings) (text_at t w)) ≡ Some w.text
    new_text = by (text_at t w) refl
      where
        last : (xs : List (List ℕ)) (x : List ℕ) → slice_get (xs ++ x ∷ []) (length xs) ≡ Some x
        last [] x = refl
        last (y ∷ xs) x = last xs x

        by : (o : Option ℕ) → text_at t w ≡ o → slice_get (texts_with t.strings w.text o) (place_or (length t.strings) o) ≡ Some w.text
        by None e = last t.strings w.text
        by (Some i) e = let r = placed (same_text w.text) t.strings i e in r.there ∙ ap (λ z. Some z) (sym ((bytes_decides w.text r.item).0 r.passes))

    kept : (n : ℕ) (x : List ℕ) → slice_get t.strings n ≡ Some x → slice_get (strings_with t w) n ≡ Some x
    kept n x e = let b = behind_new t w in ap (λ xs. slice_get xs n) b.strings ∙ stays t.strings b.texts n x e

    all_shorties : (n : ℕ) (x : Proto) → slice_get (with_new t w).protos n ≡ Some x → slice_get (strings_with t w) x.shorty ≡ Some (shorty p x.result x.parameters)
    all_shorties n x e = by (proto_at t w) e
      where
        at_end : (xs : List Proto) (y : Proto) (n : ℕ) (x : Proto) → slice_get (xs ++ y ∷ []) n ≡ Some x → (slice_get xs n ≡ Some x) ⊎ (y ≡ x)
        at_end [] y zero x f = inr (some_same y x f)
        at_end [] y (suc n) x f = none_some x f
        at_end (z ∷ xs) y zero x f = inl f
        at_end (z ∷ xs) y (suc n) x f = at_end xs y n x f

        by : (o : Option ℕ) → slice_get (protos_with t.protos (proto_of t w) o) n ≡ Some x → slice_get (strings_with t w) x.shorty ≡ Some (shorty p x.result x.parameters)
        by (Some i) f = kept x.shorty (shorty p x.result x.parameters) (s.shorties n x f)
        by None f = elim (at_end t.protos (proto_of t w) n x f) [
          | inl g ↦ kept x.shorty (shorty p x.result x.parameters) (s.shorties n x g)
          | inr g ↦ subst (λ (y : Proto). slice_get (strings_with t w) y.shorty ≡ Some (shorty p y.result y.parameters)) g (new_text ∙ ap (λ z. Some z) text)
        ]

    pub new_sound : AreSound p (with_new t w)
    new_sound = record {
      units = leb-true (sum_by length (strings_with t w)) 16777216 places.1.1.0;
      items = leb-true (items_with t w) 16777216 places.1.1.1;
      few_strings = strings_few;
      few_protos = protos_few;
      texts = texts_differ;
      keys = keys_differ;
      shorties = all_shorties;
    }
