-- The tables with one method more.
use Rattle.std.proofs.Common.{◌≡◌, ◌⊎◌, inl, inr, ℕ, zero, suc, ◌+◌, ◌<◌, ◌≤◌, ◌^◌, Bool, true, false, true≢false, nat_eq, List, [], ◌∷◌, ◌++◌, map, length, get_or, take, Option, Some, None, refl, sym, ap, ◌∙◌, subst, arith}
use Rattle.std.specs.Prelude.{◌&&◌, ◌||◌, not, cond, is_some, nat_le, nat_lt, position, replicate, IfSome, slice_get, slice_set, sum_by, if◌then◌else◌, Vec}
use Rattle.std.specs.List.{list_any}
use Rattle.std.specs.Option.{option_map}
use Rattle.std.specs.declared.alloc.Global.{Global}
use Rattle.std.specs.Cmp.Lexicographic.{pointwise}
use Rattle.std.proofs.lemmas.List.{append_assoc, take_more}
use Rattle.std.proofs.lemmas.List.Sums.{sum_by-cons}
use Rattle.lemmas.proofs.Bools.{and_left, and_right, or_cases}
use Rattle.lemmas.proofs.Lists.{map_append, got_short}
use Rattle.program_model.specs.declared.pools.Proto.{Proto}
use Rattle.program_model.specs.declared.program.Class.{Class}
use Rattle.program_model.specs.declared.program.Method.{Method}
use Rattle.program_model.specs.declared.program.Program.{Program}
use Rattle.program_model.specs.Cells.{capped}
use Rattle.program_model.specs.Distinct.{proto_key}
use Rattle.program_model.specs.Items.{items_of}
use Rattle.program_model.specs.ProgramRules.{is_well_formed}
use Rattle.static_protos.proofs.Behind.{placed}
use Rattle.static_protos.proofs.Formed.{few_units, few_items, few_strings, few_protos}
use Rattle.class_defs.proofs.Positions.{position_step}
use Rattle.class_defs.proofs.WellFormed.{below}
use Rattle.std.proofs.lemmas.Bool.{leb-true}
use Rattle.static_protos.specs.declared.tables.Additions.{Additions}
use Rattle.static_protos.specs.declared.tables.Wanted.{Wanted}
use Rattle.std.specs.HashSet.{contains_by}
use Rattle.static_protos.specs.Growing.{same_pair, is_pair, texts_in, keys_in, units_more, items_more, IsGrown, grown_method, grown_methods, grown_classes}
use Rattle.static_protos.specs.Tables.{Tables, tables_of, same_text, text_place, proto_place, is_proto, texts_with, protos_with, place_or, proto_of, text_at, proto_at, strings_with, items_with, is_taken, has_room, with_new, proto_more}

-- ---- places

one_more : {X : Type 0} (xs : List X) (i : ℕ) (x : X) → i < length xs → x ≡ get_or xs i x → take (i + 1) xs ≡ take i xs ++ x ∷ []
one_more xs i x lt e = take_more xs i x lt ∙ ap (λ y. take i xs ++ y ∷ []) (sym e)

pub position_map : {X Y : Type 0} (f : X → Y) (t : Y → Bool) (xs : List X) → position t (map f xs) ≡ position (λ x. t (f x)) xs
position_map f t [] = refl
position_map f t (x ∷ xs) = position_step t (f x) (map f xs) ∙ (by (t (f x)) (position_map f t xs) ∙ sym (position_step (λ y. t (f y)) x xs))
  where
    by : (b : Bool) → position t (map f xs) ≡ position (λ y. t (f y)) xs → cond b (Some 0) (option_map suc (position t (map f xs))) ≡ cond b (Some 0) (option_map suc (position (λ y. t (f y)) xs))
    by true e = refl
    by false e = ap (option_map suc) e

-- nothing passes a test that has no place
pub place_none : {X : Type 0} (t : X → Bool) (xs : List X) → position t xs ≡ None → list_any t xs ≡ false
place_none t [] e = refl
place_none t (x ∷ xs) e = by (t x) refl e (λ f. place_none t xs f)
  where
    none : (o : Option ℕ) → option_map suc o ≡ None → o ≡ None
    none None f = refl
    none (Some i) f = absurd (cc)

    by : (b : Bool) → t x ≡ b → position t (x ∷ xs) ≡ None → (position t xs ≡ None → list_any t xs ≡ false) → (t x || list_any t xs) ≡ false
    by true f g more = absurd (let z : Some 0 ≡ None = sym (position_step t x xs ∙ ap (λ b. cond b (Some 0) (option_map suc (position t xs))) f) ∙ g in cc)
    by false f g more = ap (λ b. b || list_any t xs) f ∙ more (none (position t xs) (sym (position_step t x xs ∙ ap (λ b. cond b (Some 0) (option_map suc (position t xs))) f) ∙ g))

module _ (p : Program) (t : Tables) (a : Additions) (g : IsGrown p t a) (w : Wanted) where
  pub text_room : position (λ (v : Vec ℕ Global). pointwise nat_eq w.text v.items) a.texts.keys ≡ text_at t w
  text_room = sym (position_map (λ (v : Vec ℕ Global). v.items) (same_text w.text) a.texts.keys) ∙ ap (position (same_text w.text)) g.texts

  pub proto_room : position (λ (v : Vec ℕ Global). pointwise nat_eq (w.result ∷ w.parameters) v.items) a.keys.keys ≡ proto_at t w
  proto_room = sym (position_map (λ (v : Vec ℕ Global). v.items) (pointwise nat_eq (w.result ∷ w.parameters)) a.keys.keys)
      ∙ ap (position (pointwise nat_eq (w.result ∷ w.parameters))) g.keys ∙ position_map proto_key (pointwise nat_eq (w.result ∷ w.parameters)) t.protos

-- a vector that stands nowhere is appended
pub inserted : (old new : List (Vec ℕ Global)) (v : Vec ℕ Global) (text : List ℕ) (place : Option ℕ) → v.items ≡ text → place ≡ None → place ≡ position (pointwise nat_eq text) (map (λ v. v.items) old)
    → new ≡ (if list_any (λ w. pointwise nat_eq v.items w.items) old then old else old ++ v ∷ []) → map (λ v. v.items) new ≡ texts_with (map (λ v. v.items) old) text place
inserted old new v text place same none is e =
    ap (map (λ v. v.items)) (e ∙ ap (λ b. if b then old else old ++ v ∷ []) absent) ∙ (map_append (λ (v : Vec ℕ Global). v.items) old (v ∷ []) ∙ (ap (λ t. map (λ v. v.items) old ++ t ∷ []) same ∙ sym (ap (texts_with (map (λ v. v.items) old) text) none)))
  where
    any_units : (x : List ℕ) (vs : List (Vec ℕ Global)) → list_any (λ v. pointwise nat_eq x v.items) vs ≡ list_any (pointwise nat_eq x) (map (λ v. v.items) vs)
    any_units x [] = refl
    any_units x (w ∷ vs) = ap (λ b. pointwise nat_eq x w.items || b) (any_units x vs)

    absent : list_any (λ w. pointwise nat_eq v.items w.items) old ≡ false
    absent = any_units v.items old ∙ (ap (λ t. list_any (pointwise nat_eq t) (map (λ v. v.items) old)) same ∙ place_none (pointwise nat_eq text) (map (λ v. v.items) old) (sym is ∙ none))

-- ---- nothing is appended yet

length_map : (vs : List (Vec ℕ Global)) → length (map (λ v. v.items) vs) ≡ length vs
length_map [] = refl
length_map (v ∷ vs) = ap suc (length_map vs)

nothing_more : {X : Type 0} (xs : List X) → xs ≡ xs ++ []
nothing_more [] = refl
nothing_more (x ∷ xs) = ap (λ l. x ∷ l) (nothing_more xs)

few_capped : (n : ℕ) → n ≤ 16777216 → capped n ≡ n
few_capped n le = grind arith

pub grown_first : (p : Program) (a : Additions) → is_well_formed p ≡ true → a.new_strings.items ≡ [] → a.new_protos.items ≡ [] → a.given.items ≡ replicate (length p.methods) None → texts_in a ≡ p.strings → keys_in a ≡ map proto_key p.protos
    → ((name proto : ℕ) → contains_by (same_pair (name, proto)) a.names ≡ list_any (is_pair name proto) p.methods) → a.units ≡ capped (sum_by length p.strings) → a.items ≡ capped (items_of p) → IsGrown p (tables_of p) a
grown_first p a wf strings protos given texts keys names units items = record {
  strings = nothing_more p.strings ∙ ap (λ xs. p.strings ++ xs) (sym strings);
  protos = nothing_more p.protos ∙ ap (λ xs. p.protos ++ xs) (sym protos);
  given = sym given;
  texts = texts;
  keys = keys;
  names = names;
  units = units ∙ few_capped (sum_by length p.strings) (few_units p wf);
  items = items ∙ few_capped (items_of p) (few_items p wf);
  few_units = few_units p wf;
  few_items = few_items p wf;
  few_strings = few_strings p wf;
  few_protos = few_protos p wf;
}

-- how long the tables are
pub texts_long : (p : Program) (t : Tables) (a : Additions) → IsGrown p t a → length a.texts.keys ≡ length t.strings
texts_long p t a g = sym (length_map a.texts.keys) ∙ ap length g.texts

pub keys_long : (p : Program) (t : Tables) (a : Additions) → IsGrown p t a → length a.keys.keys ≡ length t.protos
keys_long p t a g = sym (length_map a.keys.keys) ∙ ap length g.keys ∙ protos_long t.protos
  where
    protos_long : (xs : List Proto) → length (map proto_key xs) ≡ length xs
    protos_long [] = refl
    protos_long (x ∷ xs) = ap suc (protos_long xs)

-- the tests of room, as they are made
pub room_is : (a b c d e : Bool) → (a && (b && c) && (d && e)) ≡ (a && b && c && d && e)
room_is true true true d e = refl
room_is true true false d e = refl
room_is true false c d e = refl
room_is false b c d e = refl

-- what has a place stands below 2 ^ 32
pub proto_short : (p : Program) (t : Tables) (a : Additions) (w : Wanted) (o : Option ℕ) → IsGrown p t a → o ≡ proto_at t w → IfSome o (λ i. i < 2 ^ 32)
proto_short p t a w o g e = subst (λ x. IfSome x (λ i. i < 2 ^ 32)) (sym e) (by (proto_at t w) refl)
  where
    few : (i : ℕ) → i < length t.protos → i < 2 ^ 32
    few i lt = let l = g.few_protos in omega (arith, l, lt)

    by : (x : Option ℕ) → proto_at t w ≡ x → IfSome x (λ i. i < 2 ^ 32)
    by None f = tt
    by (Some i) f = let r = placed (is_proto w.result w.parameters) t.protos i f in few i (got_short t.protos i r.item r.there)

pub text_short : (p : Program) (t : Tables) (a : Additions) (w : Wanted) (o : Option ℕ) → IsGrown p t a → o ≡ text_at t w → IfSome o (λ i. i < 2 ^ 32)
text_short p t a w o g e = subst (λ x. IfSome x (λ i. i < 2 ^ 32)) (sym e) (by (text_at t w) refl)
  where
    few : (i : ℕ) → i < length t.strings → i < 2 ^ 32
    few i lt = let l = g.few_strings in omega (arith, l, lt)

    by : (x : Option ℕ) → text_at t w ≡ x → IfSome x (λ i. i < 2 ^ 32)
    by None f = tt
    by (Some i) f = let r = placed (same_text w.text) t.strings i f in few i (got_short t.strings i r.item r.there)

-- ---- what is appended

sum_end : (xs : List (List ℕ)) (x : List ℕ) → sum_by length (xs ++ x ∷ []) ≡ sum_by length xs + length x
sum_end [] x = omega arith
sum_end (y ∷ xs) x = let z = sum_end xs x in let a = sum_by-cons length y (xs ++ x ∷ []) in let b = sum_by-cons length y xs in a ∙ (ap (λ n. length y + n) z ∙ omega (arith, b))

length_end : {X : Type 0} (xs : List X) (x : X) → length (xs ++ x ∷ []) ≡ length xs + 1
length_end [] x = refl
length_end (y ∷ xs) x = let z = length_end xs x in omega (arith, z)

abbrev pub more : List ℕ → Option ℕ → ℕ
more text None = length text
more text (Some i) = 0

pub units_are : (strings : List (List ℕ)) (text : List ℕ) (place : Option ℕ) → sum_by length (texts_with strings text place) ≡ sum_by length strings + more text place
units_are strings text None = sum_end strings text
units_are strings text (Some i) = omega arith

texts_after : (old new : List (List ℕ)) (text : List ℕ) (place : Option ℕ) → texts_with (old ++ new) text place ≡ old ++ texts_with new text place
texts_after old new text None = append_assoc old new (text ∷ [])
texts_after old new text (Some i) = refl

protos_after : (old new : List Proto) (proto : Proto) (place : Option ℕ) → protos_with (old ++ new) proto place ≡ old ++ protos_with new proto place
protos_after old new proto None = append_assoc old new (proto ∷ [])
protos_after old new proto (Some i) = refl

keys_after : (protos : List Proto) (proto : Proto) (place : Option ℕ) → texts_with (map proto_key protos) (proto_key proto) place ≡ map proto_key (protos_with protos proto place)
keys_after protos proto None = sym (map_append proto_key protos (proto ∷ []))
keys_after protos proto (Some i) = refl

texts_few : (strings : List (List ℕ)) (text : List ℕ) (place : Option ℕ) → length strings < 2 ^ 32 → (is_some place || nat_lt (length strings) 65536) ≡ true → length (texts_with strings text place) < 2 ^ 32
texts_few strings text None few e = let l = below (length strings) 65536 e in let z = length_end strings text in omega (arith, l, z)
texts_few strings text (Some i) few e = few

protos_few : (protos : List Proto) (proto : Proto) (place : Option ℕ) → length protos ≤ 65535 → (is_some place || nat_lt (length protos) 65535) ≡ true → length (protos_with protos proto place) ≤ 65535
protos_few protos proto None few e = let l = below (length protos) 65535 e in let z = length_end protos proto in omega (arith, l, z)
protos_few protos proto (Some i) few e = few

more_same : (w : Wanted) (place : Option ℕ) → more w.text place ≡ units_more w place
more_same w None = refl
more_same w (Some i) = refl

-- ---- a method gets its proto

module _ (p : Program) (t : Tables) (w : Wanted) (old new : Additions) (g : IsGrown p t old) (room : has_room p t w ≡ true) where
  tests : ((is_some (text_at t w) || nat_lt (length t.strings) 65536) ≡ true) × (((is_some (proto_at t w) || nat_lt (length t.protos) 65535) ≡ true) × ((nat_le (sum_by length (strings_with t w)) 16777216 ≡ true) × (nat_le (items_with t w) 16777216 ≡ true)))
  tests =
      let four = and_left (not (is_taken p w.name (proto_at t w)) && (is_some (text_at t w) || nat_lt (length t.strings) 65536) && (is_some (proto_at t w) || nat_lt (length t.protos) 65535) && nat_le (sum_by length (strings_with t w)) 16777216) (nat_le (items_with t w) 16777216) room in
      let three = and_left (not (is_taken p w.name (proto_at t w)) && (is_some (text_at t w) || nat_lt (length t.strings) 65536) && (is_some (proto_at t w) || nat_lt (length t.protos) 65535)) (nat_le (sum_by length (strings_with t w)) 16777216) four in
      let two = and_left (not (is_taken p w.name (proto_at t w)) && (is_some (text_at t w) || nat_lt (length t.strings) 65536)) (is_some (proto_at t w) || nat_lt (length t.protos) 65535) three in (
        and_right (not (is_taken p w.name (proto_at t w))) (is_some (text_at t w) || nat_lt (length t.strings) 65536) two,
        (
          and_right (not (is_taken p w.name (proto_at t w)) && (is_some (text_at t w) || nat_lt (length t.strings) 65536)) (is_some (proto_at t w) || nat_lt (length t.protos) 65535) three,
          (
            and_right (not (is_taken p w.name (proto_at t w)) && (is_some (text_at t w) || nat_lt (length t.strings) 65536) && (is_some (proto_at t w) || nat_lt (length t.protos) 65535)) (nat_le (sum_by length (strings_with t w)) 16777216) four,
            and_right (not (is_taken p w.name (proto_at t w)) && (is_some (text_at t w) || nat_lt (length t.strings) 65536) && (is_some (proto_at t w) || nat_lt (length t.protos) 65535) && nat_le (sum_by length (strings_with t w)) 16777216) (nat_le (items_with t w) 16777216) room,
          ),
        ),
      )

  pub units_few : sum_by length (strings_with t w) ≤ 16777216
  units_few = leb-true (sum_by length (strings_with t w)) 16777216 tests.1.1.0

  pub items_few : items_with t w ≤ 16777216
  items_few = leb-true (items_with t w) 16777216 tests.1.1.1

  pub units_fit : old.units + units_more w (text_at t w) ≡ sum_by length (strings_with t w)
  units_fit = ap (λ n. n + units_more w (text_at t w)) g.units ∙ ap (λ n. sum_by length t.strings + n) (sym (more_same w (text_at t w))) ∙ sym (units_are t.strings w.text (text_at t w))

  pub items_fit : old.items + items_more w (proto_at t w) ≡ items_with t w
  items_fit = ap (λ n. n + items_more w (proto_at t w)) g.items

  -- what is kept, appended and given
  pub grown_new : new.new_strings.items ≡ texts_with old.new_strings.items w.text (text_at t w) → texts_in new ≡ texts_with (texts_in old) w.text (text_at t w)
      → new.new_protos.items ≡ protos_with old.new_protos.items (proto_of t w) (proto_at t w) → keys_in new ≡ texts_with (keys_in old) (proto_key (proto_of t w)) (proto_at t w)
      → new.given.items ≡ slice_set old.given.items w.number (Some (place_or (length t.protos) (proto_at t w))) → new.names ≡ old.names → new.units ≡ old.units + units_more w (text_at t w) → new.items ≡ old.items + items_more w (proto_at t w)
      → IsGrown p (with_new t w) new
  grown_new strings texts protos keys given names units items = record {
    strings = ap (λ xs. texts_with xs w.text (text_at t w)) g.strings ∙ texts_after p.strings old.new_strings.items w.text (text_at t w) ∙ ap (λ xs. p.strings ++ xs) (sym strings);
    protos = ap (λ xs. protos_with xs (proto_of t w) (proto_at t w)) g.protos ∙ protos_after p.protos old.new_protos.items (proto_of t w) (proto_at t w) ∙ ap (λ xs. p.protos ++ xs) (sym protos);
    given = ap (λ xs. slice_set xs w.number (Some (place_or (length t.protos) (proto_at t w)))) g.given ∙ sym given;
    texts = texts ∙ ap (λ xs. texts_with xs w.text (text_at t w)) g.texts;
    keys = keys ∙ ap (λ xs. texts_with xs (proto_key (proto_of t w)) (proto_at t w)) g.keys ∙ keys_after t.protos (proto_of t w) (proto_at t w);
    names = λ n q. ap (contains_by (same_pair (n, q))) names ∙ g.names n q;
    units = units ∙ units_fit;
    items = items ∙ items_fit;
    few_units = units_few;
    few_items = items_few;
    few_strings = texts_few t.strings w.text (text_at t w) g.few_strings tests.0;
    few_protos = protos_few t.protos (proto_of t w) (proto_at t w) g.few_protos tests.1.0;
  }

-- the limits, as they are tested
pub limits_are : (p : Program) (t : Tables) (a : Additions) (w : Wanted) → IsGrown p t a → (text proto : Option ℕ) → text ≡ text_at t w → proto ≡ proto_at t w → (units items : Bool) (more_units more_items : ℕ)
    → more_units ≡ units_more w text → more_items ≡ capped (items_more w proto) → units ≡ nat_le (a.units + more_units) 16777216 → items ≡ nat_le (a.items + more_items) 16777216
    → (units && items) ≡ (nat_le (sum_by length (strings_with t w)) 16777216 && nat_le (items_with t w) 16777216)
limits_are p t a w g text proto e f units items more_units more_items x y u v =
    ap (λ b. b && items) (u ∙ ap (λ n. nat_le n 16777216) units_same) ∙ ap (λ b. nat_le (sum_by length (strings_with t w)) 16777216 && b) (v ∙ ap (λ n. nat_le (a.items + n) 16777216) y ∙ cut (items_more w proto) ∙ ap (λ n. nat_le n 16777216) items_same)
  where
    units_same : a.units + more_units ≡ sum_by length (strings_with t w)
    units_same = ap (λ n. a.units + n) (x ∙ ap (units_more w) e) ∙ ap (λ n. n + units_more w (text_at t w)) g.units ∙ ap (λ n. sum_by length t.strings + n) (sym (more_same w (text_at t w))) ∙ sym (units_are t.strings w.text (text_at t w))

    items_same : a.items + items_more w proto ≡ items_with t w
    items_same = ap (λ n. n + items_more w proto) g.items ∙ ap (λ o. t.items + items_more w o) f

    cut : (n : ℕ) → nat_le (a.items + capped n) 16777216 ≡ nat_le (a.items + n) 16777216
    cut n = grind arith

-- ---- one method, step by step

module _ (p : Program) (t : Tables) (w : Wanted) (a0 a1 a2 a3 a4 : Additions) (g : IsGrown p t a0) (room : has_room p t w ≡ true) (text proto : Option ℕ) (is_text : text ≡ text_at t w) (is_proto : proto ≡ proto_at t w) where
  pub appended : (shorty number : ℕ) (units : List ℕ) (new : Proto) → shorty ≡ place_or (length t.strings) text → number ≡ place_or (length t.protos) proto → units ≡ w.text
      → new ≡ record { shorty = shorty; result = w.result; parameters = w.parameters }
      → a1.units ≡ a0.units + units_more w text → a1.items ≡ a0.items + items_more w proto → a1 ≡ record a0 { units = a1.units; items = a1.items }
      → a2.given.items ≡ slice_set a1.given.items w.number (Some number) → a2 ≡ record a1 { given = a2.given }
      → a3.new_strings.items ≡ texts_with a2.new_strings.items units text → texts_in a3 ≡ texts_with (texts_in a2) units text → a3 ≡ record a2 { new_strings = a3.new_strings; texts = a3.texts }
      → a4.new_protos.items ≡ protos_with a3.new_protos.items new proto → keys_in a4 ≡ texts_with (keys_in a3) (proto_key new) proto → a4 ≡ record a3 { new_protos = a4.new_protos; keys = a4.keys }
      → IsGrown p (with_new t w) a4
  appended shorty number units new is_shorty is_number is_units is_new count_units count_items count_rest give_given give_rest strings texts text_rest protos keys proto_rest =
      grown_new p t w a0 a4 g room
      (ap (λ (x : Additions). x.new_strings.items) proto_rest ∙ (strings ∙ (ap (λ xs. texts_with xs units text) (ap (λ (x : Additions). x.new_strings.items) give_rest ∙ ap (λ (x : Additions). x.new_strings.items) count_rest)
      ∙ (ap (λ u. texts_with a0.new_strings.items u text) is_units ∙ ap (texts_with a0.new_strings.items w.text) is_text))))
      (ap (λ (x : Additions). texts_in x) proto_rest ∙ (texts ∙ (ap (λ xs. texts_with xs units text) (ap (λ (x : Additions). texts_in x) give_rest ∙ ap (λ (x : Additions). texts_in x) count_rest)
      ∙ (ap (λ u. texts_with (texts_in a0) u text) is_units ∙ ap (texts_with (texts_in a0) w.text) is_text))))
      (protos ∙ (ap (λ xs. protos_with xs new proto) (ap (λ (x : Additions). x.new_protos.items) text_rest ∙ (ap (λ (x : Additions). x.new_protos.items) give_rest ∙ ap (λ (x : Additions). x.new_protos.items) count_rest))
      ∙ (ap (λ y. protos_with a0.new_protos.items y proto) the_proto ∙ ap (protos_with a0.new_protos.items (proto_of t w)) is_proto)))
      (keys ∙ (ap (λ xs. texts_with xs (proto_key new) proto) (ap (λ (x : Additions). keys_in x) text_rest ∙ (ap (λ (x : Additions). keys_in x) give_rest ∙ ap (λ (x : Additions). keys_in x) count_rest))
      ∙ (ap (λ y. texts_with (keys_in a0) (proto_key y) proto) the_proto ∙ ap (texts_with (keys_in a0) (proto_key (proto_of t w))) is_proto)))
      (ap (λ (x : Additions). x.given.items) proto_rest ∙ (ap (λ (x : Additions). x.given.items) text_rest ∙ (give_given ∙ (ap (λ (x : Additions). slice_set x.given.items w.number (Some number)) count_rest
      ∙ ap (λ n. slice_set a0.given.items w.number (Some n)) (is_number ∙ ap (place_or (length t.protos)) is_proto)))))
      (ap (λ (x : Additions). x.names) proto_rest ∙ (ap (λ (x : Additions). x.names) text_rest ∙ (ap (λ (x : Additions). x.names) give_rest ∙ ap (λ (x : Additions). x.names) count_rest)))
      (ap (λ (x : Additions). x.units) proto_rest ∙ (ap (λ (x : Additions). x.units) text_rest ∙ (ap (λ (x : Additions). x.units) give_rest ∙ (count_units ∙ ap (λ o. a0.units + units_more w o) is_text))))
      (ap (λ (x : Additions). x.items) proto_rest ∙ (ap (λ (x : Additions). x.items) text_rest ∙ (ap (λ (x : Additions). x.items) give_rest ∙ (count_items ∙ ap (λ o. a0.items + items_more w o) is_proto))))
    where
      the_proto : new ≡ proto_of t w
      the_proto = is_new ∙ ap (λ (n : ℕ). record { shorty = n; result = w.result; parameters = w.parameters }) (is_shorty ∙ ap (place_or (length t.strings)) is_text)

  -- where the text and the proto are looked for
  pub place_text : (units : List ℕ) → units ≡ w.text → a1 ≡ record a0 { units = a1.units; items = a1.items } → a2 ≡ record a1 { given = a2.given } → text ≡ text_place (texts_in a2) units
  place_text units is_units count_rest give_rest =
      is_text ∙ (ap (λ xs. text_place xs w.text) (sym g.texts) ∙ (ap (λ (x : Additions). text_place (texts_in x) w.text) (sym count_rest)
      ∙ (ap (λ (x : Additions). text_place (texts_in x) w.text) (sym give_rest) ∙ ap (text_place (texts_in a2)) (sym is_units))))

  pub place_key : (new : Proto) → new.result ≡ w.result → new.parameters ≡ w.parameters → a1 ≡ record a0 { units = a1.units; items = a1.items } → a2 ≡ record a1 { given = a2.given } → a3 ≡ record a2 { new_strings = a3.new_strings; texts = a3.texts }
      → proto ≡ position (pointwise nat_eq (proto_key new)) (keys_in a3)
  place_key new result parameters count_rest give_rest text_rest =
      is_proto ∙ (sym (position_map proto_key (pointwise nat_eq (w.result ∷ w.parameters)) t.protos) ∙ (ap (position (pointwise nat_eq (w.result ∷ w.parameters))) (sym g.keys ∙ (ap keys_in (sym count_rest) ∙ (ap keys_in (sym give_rest) ∙ ap keys_in (sym text_rest))))
      ∙ (ap (λ r. position (pointwise nat_eq (r ∷ w.parameters)) (keys_in a3)) (sym result) ∙ ap (λ ps. position (pointwise nat_eq (new.result ∷ ps)) (keys_in a3)) (sym parameters))))

  -- the counts don't pass 64 bits
  pub counts_fit : (a0.units + units_more w text < 2 ^ 64) × (a0.items + items_more w proto < 2 ^ 64)
  counts_fit =
      let u = ap (λ o. a0.units + units_more w o) is_text ∙ units_fit p t w a0 a4 g room in
      let i = ap (λ o. a0.items + items_more w o) is_proto ∙ items_fit p t w a0 a4 g room in
      let ul = units_few p t w a0 a4 g room in
      let il = items_few p t w a0 a4 g room in
      (omega (arith, u, ul), omega (arith, i, il))

-- ---- methods and classes in turn

module _ (p : Program) (marks : List Bool) where
  methods_end : (t : Tables) (k : Class) (ms : List Method) (m : Method) → grown_methods p marks t k (ms ++ m ∷ []) ≡ grown_method p marks (grown_methods p marks t k ms) k m
  methods_end t k [] m = refl
  methods_end t k (x ∷ ms) m = methods_end (grown_method p marks t k x) k ms m

  pub methods_grown : (t : Tables) (k : Class) (ms : List Method) (i : ℕ) (m : Method) (new : Additions) → i < length ms → m ≡ get_or ms i m → IsGrown p (grown_method p marks (grown_methods p marks t k (take i ms)) k m) new → IsGrown p (grown_methods p marks t k (take (i + 1) ms)) new
  methods_grown t k ms i m new lt e g = subst (λ u. IsGrown p u new) (sym (methods_end t k (take i ms) m) ∙ ap (grown_methods p marks t k) (sym (one_more ms i m lt e))) g

  classes_end : (t : Tables) (ks : List Class) (k : Class) → grown_classes p marks t (ks ++ k ∷ []) ≡ grown_methods p marks (grown_classes p marks t ks) k k.methods
  classes_end t [] k = refl
  classes_end t (x ∷ ks) k = classes_end (grown_methods p marks t x x.methods) ks k

  pub classes_grown : (t : Tables) (ks : List Class) (i : ℕ) (k : Class) (new : Additions) → i < length ks → k ≡ get_or ks i k → IsGrown p (grown_methods p marks (grown_classes p marks t (take i ks)) k k.methods) new → IsGrown p (grown_classes p marks t (take (i + 1) ks)) new
  classes_grown t ks i k new lt e g = subst (λ u. IsGrown p u new) (sym (classes_end t (take i ks) k) ∙ ap (grown_classes p marks t) (sym (one_more ks i k lt e))) g
