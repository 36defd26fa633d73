-- The tables of a program's names as they are made.
use Rattle.std.proofs.Common.{◌≡◌, ℕ, zero, suc, ◌+◌, ◌<◌, ◌≤◌, ◌⊎◌, inl, inr, Bool, true, false, true≢false, nat_eq, List, [], ◌∷◌, ◌++◌, map, length, replicate, get_or, take, Option, Some, None, refl, sym, ap, subst, ◌∙◌, arith, ltb-true, lt-ltb}
use Rattle.std.specs.Prelude.{◌&&◌, cond, nat_lt, position, slice_get, slice_index_or, slice_set}
use Rattle.std.specs.Option.{option_or}
use Rattle.std.proofs.lemmas.List.{length-set, length-map, length-replicate, length_push, take_more}
use Rattle.class_defs.proofs.Positions.{number_of, number_test, position_snoc, place_entry}
use Rattle.program_model.specs.declared.program.Class.{Class}
use Rattle.program_model.specs.declared.program.Program.{Program}
use Rattle.dalvik_defs.specs.Names.{Text, object_type}
use Rattle.dalvik_defs.specs.Naming.{type_at, text_at}
use Rattle.dalvik_lookups.specs.declared.types.Kind.{Kind}
use Rattle.dalvik_lookups.specs.declared.types.Types.{Types}
use Rattle.dalvik_lookups.specs.declared.texts.Texts.{Texts}
use Rattle.dalvik_lookups.specs.declared.lookups.Names.{Names}
use Rattle.dalvik_lookups.specs.declared.lookups.Lookups.{Lookups}
use Rattle.dalvik_lookups.specs.Views.{names_of, texts_of, AreKept, AreTypes, AreTexts, Added, AddedType, AddedText, IsType, IsText, Stays, known_names}
use Rattle.dalvik_lookups.specs.Tables.{AreBelow, kind_in, string_in, KindsMade, StringsMade, is_plain, place_or_none, ArePlaces, HasNames, AreReady, Grows, GrowsTypes, IsOver, IsTabled}
use Rattle.dalvik_lookups.proofs.Interned.{stays_same, stays_on, stays_in, stays_below, entry_is, got_short}
use Rattle.dalvik_lookups.proofs.Descriptors.{type_stays}

-- an entry below the length, by any default
pub got : {X : Type 0} (xs : List X) (i : ℕ) (d : X) → i < length xs → slice_get xs i ≡ Some (get_or xs i d)
got [] i d h = absurd (omega (arith, h))
got (x ∷ xs) zero d h = refl
got (x ∷ xs) (suc i) d h = got xs i d (omega (arith, h))

pub push_get : {X : Type 0} (xs : List X) (x : X) (i : ℕ) (d : X) → i < length xs → slice_index_or (xs ++ x ∷ []) i d ≡ slice_index_or xs i d
push_get [] x i d h = absurd (omega (arith, h))
push_get (y ∷ ys) x zero d h = refl
push_get (y ∷ ys) x (suc i) d h = push_get ys x i d (omega (arith, h))

pub push_here : {X : Type 0} (xs : List X) (x : X) (d : X) → slice_index_or (xs ++ x ∷ []) (length xs) d ≡ x
push_here [] x d = refl
push_here (y ∷ ys) x d = push_here ys x d

pub before_or_here : (i n : ℕ) → i < n + 1 → (i < n) ⊎ (i ≡ n)
before_or_here zero zero lt = inr refl
before_or_here zero (suc n) lt = inl (omega arith)
before_or_here (suc i) zero lt = absurd (omega (arith, lt))
before_or_here (suc i) (suc n) lt = elim (before_or_here i n (omega (arith, lt))) [ inl l ↦ inl (omega (arith, l)) | inr e ↦ inr (ap suc e) ]

-- ---- what stays

pub is_type_stays : (old new : Types) → Stays (names_of old) (names_of new) → (k : Kind) (t : Text) → IsType old k t → IsType new k t
is_type_stays old new s k t h = let r = type_stays old new s k h.kind in record { kind = r.0; text = r.1 ∙ h.text }

pub is_text_stays : (old new : Texts) → Stays (texts_of old) (texts_of new) → (n : ℕ) (t : Text) → IsText old n t → IsText new n t
is_text_stays old new s n t h = record { below = stays_below (texts_of old) (texts_of new) s n h.below; text = stays_in (texts_of old) (texts_of new) s n h.below ∙ h.text }

pub types_stay : (old new : Types) → AreTypes old → AreKept new → Stays (names_of old) (names_of new) → AreTypes new
types_stay old new h k s = record { kept = k; known = stays_on known_names (names_of old) (names_of new) h.known s }

pub is_type_added : (old new : Types) (t : Text) (k : Kind) → AddedType old new t k → IsType new k t
is_type_added old new t k a = record { kind = a.kind; text = a.text }

pub is_text_added : (old new : Texts) (t : Text) (n : ℕ) → AddedText old new t n → IsText new n t
is_text_added old new t n a = record { below = got_short (texts_of new) n t a.there; text = entry_is (texts_of new) n t a.there }

-- ---- kinds and strings

pub kinds_none : (p : Program) (t : Types) → AreKept t → KindsMade p t t [] 0
kinds_none p t k = record { kept = k; stays = stays_same (names_of t); long = refl; at = λ n h. absurd (omega (arith, h)) }

pub kinds_more : (p : Program) (old mid new : Types) (kinds more : List Kind) (done : ℕ) (t : Text) (k : Kind) → KindsMade p old mid kinds done → AddedType mid new t k → t ≡ type_at p done → more ≡ kinds ++ k ∷ [] → KindsMade p old new more (done + 1)
kinds_more p old mid new kinds more done t k m a is pushed = record {
  kept = a.kept;
  stays = stays_on (names_of old) (names_of mid) (names_of new) m.stays a.stays;
  long = omega (arith, ap length pushed, length_push kinds k, m.long);
  at = λ n h. elim (before_or_here n done h) [
    | inl l ↦ subst (λ q. IsType new q (type_at p n)) (sym (ap (λ ks. kind_in ks n) pushed ∙ push_get kinds k n (record { depth = 0; base = 0 }) (omega (arith, l, m.long)))) (is_type_stays mid new a.stays (kind_in kinds n) (type_at p n) (m.at n l))
    | inr e ↦ subst (λ q. IsType new q (type_at p n)) (sym (ap (λ ks. kind_in ks n) pushed ∙ ap (kind_in (kinds ++ k ∷ [])) (e ∙ sym m.long) ∙ push_here kinds k (record { depth = 0; base = 0 }))) (subst (λ u. IsType new k u) (is ∙ ap (type_at p) (sym e)) (is_type_added mid new t k a))
  ];
}

pub strings_none : (p : Program) (t : Texts) → AreTexts t → StringsMade p t [] 0
strings_none p t k = record { are = k; long = refl; at = λ n h. absurd (omega (arith, h)) }

pub strings_more : (p : Program) (mid new : Texts) (strings more : List ℕ) (done : ℕ) (t : Text) (k : ℕ) → StringsMade p mid strings done → AddedText mid new t k → t ≡ text_at p done → more ≡ strings ++ k ∷ [] → StringsMade p new more (done + 1)
strings_more p mid new strings more done t k m a is pushed = record {
  are = a.are;
  long = omega (arith, ap length pushed, length_push strings k, m.long);
  at = λ n h. elim (before_or_here n done h) [
    | inl l ↦ subst (λ q. IsText new q (text_at p n)) (sym (ap (λ ks. string_in ks n) pushed ∙ push_get strings k n 18446744073709551615 (omega (arith, l, m.long)))) (is_text_stays mid new a.stays (string_in strings n) (text_at p n) (m.at n l))
    | inr e ↦ subst (λ q. IsText new q (text_at p n)) (sym (ap (λ ks. string_in ks n) pushed ∙ ap (string_in (strings ++ k ∷ [])) (e ∙ sym m.long) ∙ push_here strings k 18446744073709551615)) (subst (λ u. IsText new k u) (is ∙ ap (text_at p) (sym e)) (is_text_added mid new t k a))
  ];
}

-- the descriptor of the type number whose string number this is
pub type_here : (p : Program) (i n : ℕ) (t : Text) → slice_get p.types i ≡ Some n → t ≡ text_at p n → t ≡ type_at p i
type_here p i n t e f = f ∙ sym (ap (λ o. elim o as (λ o. Text) [ Some s ↦ text_at p s | None ↦ [] ]) e)

pub string_here : (p : Program) (i : ℕ) (t : Text) → slice_get p.strings i ≡ Some t → t ≡ text_at p i
string_here p i t e = sym (ap (λ o. elim o as (λ o. Text) [ Some s ↦ s | None ↦ [] ]) e)

-- ---- the places of classes

-- one class more
pub record PlacedKind (old new : List ℕ) (k : Kind) (place : ℕ) : Type 0 where
  pub at : (base : ℕ) → slice_index_or new base 4294967295 ≡ cond (is_plain base k && nat_eq (slice_index_or old base 4294967295) 4294967295) place (slice_index_or old base 4294967295)

pub record PlacedSoFar (kinds : List Kind) (table : List ℕ) (done : ℕ) : Type 0 where
  pub is : (base : ℕ) → slice_index_or table base 4294967295 ≡ place_or_none (position (is_plain base) (take done kinds))

pub placed_none : (kinds : List Kind) (count : ℕ) → PlacedSoFar kinds (replicate count 4294967295) 0
placed_none kinds count = record { is = λ base. none_at 4294967295 count base }
  where
    none_at : (d n i : ℕ) → slice_index_or (replicate n d) i d ≡ d
    none_at d zero i = refl
    none_at d (suc n) zero = refl
    none_at d (suc n) (suc i) = none_at d n i

pub placed_kind : (old new : List ℕ) (k : Kind) (place : ℕ) → k.base < length old → new ≡ cond (nat_eq k.depth 0 && nat_eq (slice_index_or old k.base 4294967295) 4294967295) (slice_set old k.base place) old → PlacedKind old new k place
placed_kind old new k place h e = record { at = λ base. ap (λ v. slice_index_or v base 4294967295) e ∙ by_depth (nat_eq k.depth 0) base }
  where
    other : (xs : List ℕ) (i j : ℕ) → (i ≡ j → ⊥) → slice_index_or (slice_set xs i place) j 4294967295 ≡ slice_index_or xs j 4294967295
    other [] i j f = refl
    other (x ∷ xs) zero zero f = absurd (f refl)
    other (x ∷ xs) zero (suc j) f = refl
    other (x ∷ xs) (suc i) zero f = refl
    other (x ∷ xs) (suc i) (suc j) f = other xs i j (λ e. f (ap suc e))

    here : (xs : List ℕ) (i : ℕ) → i < length xs → slice_index_or (slice_set xs i place) i 4294967295 ≡ place
    here [] i l = absurd (omega (arith, l))
    here (x ∷ xs) zero l = refl
    here (x ∷ xs) (suc i) l = here xs i (omega (arith, l))

    by_place : (base : ℕ) (q : Bool) → nat_eq k.base base ≡ q → (b : Bool) → nat_eq (slice_index_or old k.base 4294967295) 4294967295 ≡ b
        → slice_index_or (cond b (slice_set old k.base place) old) base 4294967295 ≡ cond (q && nat_eq (slice_index_or old base 4294967295) 4294967295) place (slice_index_or old base 4294967295)
    by_place base true f true g = let same : k.base ≡ base = number_of k.base base f in
        ap (λ n. slice_index_or (slice_set old k.base place) n 4294967295) (sym same) ∙ here old k.base h
        ∙ sym (ap (λ b. cond b place (slice_index_or old base 4294967295)) (ap (λ n. nat_eq (slice_index_or old n 4294967295) 4294967295) (sym same) ∙ g))
    by_place base true f false g = let same : k.base ≡ base = number_of k.base base f in
        sym (ap (λ b. cond b place (slice_index_or old base 4294967295)) (ap (λ n. nat_eq (slice_index_or old n 4294967295) 4294967295) (sym same) ∙ g))
    by_place base false f true g = other old k.base base (λ e. true≢false (sym (number_test k.base base e) ∙ f))
    by_place base false f false g = refl

    by_depth : (d : Bool) (base : ℕ) → slice_index_or (cond (d && nat_eq (slice_index_or old k.base 4294967295) 4294967295) (slice_set old k.base place) old) base 4294967295
        ≡ cond ((d && nat_eq k.base base) && nat_eq (slice_index_or old base 4294967295) 4294967295) place (slice_index_or old base 4294967295)
    by_depth true base = by_place base (nat_eq k.base base) refl (nat_eq (slice_index_or old k.base 4294967295) 4294967295) refl
    by_depth false base = refl

pub placed_more : (kinds : List Kind) (old new : List ℕ) (done : ℕ) (k d : Kind) → done < length kinds → done < 4294967295 → k ≡ get_or kinds done d → PlacedSoFar kinds old done → PlacedKind old new k done → PlacedSoFar kinds new (done + 1)
placed_more kinds old new done k d h few is so more = record {
  is = λ base. more.at base
      ∙ by_old base (slice_index_or old base 4294967295) (position (is_plain base) (take done kinds)) refl (so.is base)
      ∙ sym (ap place_or_none (ap (position (is_plain base)) (take_more kinds done d h ∙ ap (λ q. take done kinds ++ q ∷ []) (sym is)) ∙ position_snoc (is_plain base) (take done kinds) k ∙ ap (λ n. option_or (position (is_plain base) (take done kinds)) (cond (is_plain base k) (Some n) None)) (length_of kinds done h)));
}
  where
    length_of : (xs : List Kind) (n : ℕ) → n < length xs → length (take n xs) ≡ n
    length_of xs zero h = refl
    length_of [] (suc n) h = absurd (omega (arith, h))
    length_of (x ∷ xs) (suc n) h = ap suc (length_of xs n (omega (arith, h)))

    -- a place stands below the end
    short : (base c : ℕ) → position (is_plain base) (take done kinds) ≡ Some c → c < done
    short base c e = let r = place_entry (is_plain base) (take done kinds) c e in let g = got_short (take done kinds) c r.entry r.is in omega (arith, g, length_of kinds done h)

    by_old : (base v : ℕ) (o : Option ℕ) → position (is_plain base) (take done kinds) ≡ o → v ≡ place_or_none o → cond (is_plain base k && nat_eq v 4294967295) done v ≡ place_or_none (option_or o (cond (is_plain base k) (Some done) None))
    by_old base v None e f = subst (λ w. cond (is_plain base k && nat_eq w 4294967295) done w ≡ place_or_none (cond (is_plain base k) (Some done) None)) (sym f) (fresh (is_plain base k))
      where
        fresh : (b : Bool) → cond (b && nat_eq 4294967295 4294967295) done 4294967295 ≡ place_or_none (cond b (Some done) None)
        fresh true = refl
        fresh false = refl
    by_old base v (Some c) e f = subst (λ w. cond (is_plain base k && nat_eq w 4294967295) done w ≡ c) (sym f) (there (is_plain base k) (nat_eq c 4294967295) refl)
      where
        there : (b q : Bool) → nat_eq c 4294967295 ≡ q → cond (b && q) done c ≡ c
        there true true g = let l = short base c e in absurd (omega (arith, l, few, number_of c 4294967295 g))
        there true false g = refl
        there false q g = refl

-- classes keep the size of the table
pub placed_size : (old new : List ℕ) (k : Kind) (place : ℕ) → new ≡ cond (nat_eq k.depth 0 && nat_eq (slice_index_or old k.base 4294967295) 4294967295) (slice_set old k.base place) old → length new ≡ length old
placed_size old new k place e = ap length e ∙ by_test (nat_eq k.depth 0 && nat_eq (slice_index_or old k.base 4294967295) 4294967295)
  where
    by_test : (b : Bool) → length (cond b (slice_set old k.base place) old) ≡ length old
    by_test true = length-set old k.base place
    by_test false = refl

pub placed_step : (kinds : List Kind) (start old new : List ℕ) (i n : ℕ) (d : Kind) (place : ℕ) → i < length kinds → start ≡ replicate n 4294967295 → length old ≡ length start → length kinds < 4294967296 → AreBelow n kinds → place ≡ i → PlacedSoFar kinds old i
    → new ≡ cond (nat_eq (get_or kinds i d).depth 0 && nat_eq (slice_index_or old (get_or kinds i d).base 4294967295) 4294967295) (slice_set old (get_or kinds i d).base place) old → PlacedSoFar kinds new (i + 1)
placed_step kinds start old new i n d place h s size small below e so is =
    let k : Kind = get_or kinds i d in
    let low : k.base < length old = subst (λ m. k.base < m) (sym (size ∙ ap length s ∙ length-replicate n 4294967295)) (below.below i k (got kinds i d h)) in
    placed_more kinds old new i k d h (omega (arith, h, small)) refl so (subst (λ m. PlacedKind old new k m) e (placed_kind old new k place low is))

pub placed_all : (kinds : List Kind) (table : List ℕ) (done : ℕ) → length kinds ≤ done → PlacedSoFar kinds table done → ArePlaces kinds table
placed_all kinds table done h so = record { is = λ base. so.is base ∙ ap (λ ks. place_or_none (position (is_plain base) ks)) (all kinds done h) }
  where
    all : (xs : List Kind) (n : ℕ) → length xs ≤ n → take n xs ≡ xs
    all [] zero h = refl
    all [] (suc n) h = refl
    all (x ∷ xs) zero h = absurd (omega (arith, h))
    all (x ∷ xs) (suc n) h = ap (λ ys. x ∷ ys) (all xs n (omega (arith, h)))

-- ---- names that grow

pub grows_same : (n : Names) → AreReady n → Grows n n
grows_same n r = record { ready = r; types = stays_same (names_of n.types); texts = stays_same (texts_of n.texts); kinds = refl; strings = refl; class_of = refl; class_kinds = refl }

pub grows_on : (a b c : Names) → Grows a b → Grows b c → Grows a c
grows_on a b c g h = record {
  ready = h.ready;
  types = stays_on (names_of a.types) (names_of b.types) (names_of c.types) g.types h.types;
  texts = stays_on (texts_of a.texts) (texts_of b.texts) (texts_of c.texts) g.texts h.texts;
  kinds = h.kinds ∙ g.kinds;
  strings = h.strings ∙ g.strings;
  class_of = h.class_of ∙ g.class_of;
  class_kinds = h.class_kinds ∙ g.class_kinds;
}

pub has_names_stay : (p : Program) (old new : Names) → HasNames p old → Grows old new → HasNames p new
has_names_stay p old new h g = record {
  types = g.ready.types;
  texts = g.ready.texts;
  kinds = λ i l. subst (λ v. IsType new.types (kind_in v i) (type_at p i)) (sym (ap (λ v. v.items) g.kinds)) (is_type_stays old.types new.types g.types (kind_in old.kinds.items i) (type_at p i) (h.kinds i l));
  strings = λ i l. subst (λ v. IsText new.texts (string_in v i) (text_at p i)) (sym (ap (λ v. v.items) g.strings)) (is_text_stays old.texts new.texts g.texts (string_in old.strings.items i) (text_at p i) (h.strings i l));
  own = ap (λ v. v.items) g.class_kinds ∙ h.own ∙ ap (λ v. map (λ c. kind_in v c.name) p.classes) (sym (ap (λ v. v.items) g.kinds));
  places = record { is = λ base. ap (λ v. slice_index_or v base 4294967295) (ap (λ v. v.items) g.class_of) ∙ h.places.is base ∙ ap (λ v. place_or_none (position (is_plain base) v)) (sym (ap (λ v. v.items) g.class_kinds)) };
}

-- the types of the classes stand in the table
pub own_below : (p : Program) (t : Types) (kinds : List Kind) (done : ℕ) (start : Types) → KindsMade p start t kinds done → AreTypes start → (cs : List Class) (count : ℕ) (own : List Kind) → count ≡ length (names_of t) → own ≡ map (λ c. kind_in kinds c.name) cs → AreBelow count own
own_below p t kinds done start m a cs count own n o = subst (λ v. AreBelow v own) (sym n) (subst (AreBelow (length (names_of t))) (sym o) (record { below = λ i k e. each cs i k e }))
  where
    at : (n : ℕ) (b : Bool) → nat_lt n done ≡ b → (kind_in kinds n).base < length (names_of t)
    at n true e = (m.at n (ltb-true n done e)).kind.base
    at n false e = subst (λ k. k.base < length (names_of t)) (sym (past kinds n (λ l. true≢false (sym (lt-ltb n done (omega (arith, l, m.long))) ∙ e))))
        (got_short (names_of t) 0 object_type (m.stays.stays 0 object_type (a.known.stays 0 object_type refl)))
      where
        past : (ks : List Kind) (i : ℕ) → (i < length ks → ⊥) → kind_in ks i ≡ record { depth = 0; base = 0 }
        past [] i h = refl
        past (k ∷ ks) zero h = absurd (h (omega arith))
        past (k ∷ ks) (suc i) h = past ks i (λ l. h (omega (arith, l)))

    each : (cs : List Class) (i : ℕ) (k : Kind) → slice_get (map (λ c. kind_in kinds c.name) cs) i ≡ Some k → k.base < length (names_of t)
    each [] i k e = cc
    each (c ∷ cs) zero k e = let f : kind_in kinds c.name ≡ k = cc in subst (λ q. q.base < length (names_of t)) f (at c.name (nat_lt c.name done) refl)
    each (c ∷ cs) (suc i) k e = each cs i k e

pub names_made : (p : Program) (start t : Types) (x : Texts) (kinds own : List Kind) (strings places : List ℕ) (n : Names) → AreTypes start → KindsMade p start t kinds (length p.types) → StringsMade p x strings (length p.strings)
    → own ≡ map (λ c. kind_in kinds c.name) p.classes → ArePlaces own places → n.types ≡ t → n.texts ≡ x → n.kinds.items ≡ kinds → n.strings.items ≡ strings → n.class_kinds.items ≡ own → n.class_of.items ≡ places → HasNames p n
names_made p start t x kinds own strings places n a m s o q et ex ek es eo ep = record {
  types = subst AreTypes (sym et) (types_stay start t a m.kept m.stays);
  texts = subst AreTexts (sym ex) s.are;
  kinds = λ i l. subst (λ u. IsType u (kind_in n.kinds.items i) (type_at p i)) (sym et) (subst (λ v. IsType t (kind_in v i) (type_at p i)) (sym ek) (m.at i l));
  strings = λ i l. subst (λ u. IsText u (string_in n.strings.items i) (text_at p i)) (sym ex) (subst (λ v. IsText x (string_in v i) (text_at p i)) (sym es) (s.at i l));
  own = eo ∙ o ∙ ap (λ v. map (λ c. kind_in v c.name) p.classes) (sym ek);
  places = subst (λ v. ArePlaces v n.class_of.items) (sym eo) (subst (λ v. ArePlaces own v) (sym ep) q);
}

pub few_own : (cs : List Class) (f : Class → Kind) (own : List Kind) (n : ℕ) → own ≡ map f cs → length cs < n → length own < n
few_own cs f own n o h = subst (λ m. m < n) (sym (ap length o ∙ length-map cs f)) h

-- names with one type more
pub grows_type : (old : Names) (t : Types) (u : Text) (k : Kind) → AreReady old → AddedType old.types t u k → Grows old (record { types = t; texts = old.texts; kinds = old.kinds; strings = old.strings; class_of = old.class_of; class_kinds = old.class_kinds })
grows_type old t u k r a = record {
  ready = record { types = types_stay old.types t r.types a.kept a.stays; texts = r.texts };
  types = a.stays;
  texts = stays_same (texts_of old.texts);
  kinds = refl;
  strings = refl;
  class_of = refl;
  class_kinds = refl;
}

pub grows_types : (old : Names) (t : Types) → AreReady old → GrowsTypes old.types t → Grows old (record { types = t; texts = old.texts; kinds = old.kinds; strings = old.strings; class_of = old.class_of; class_kinds = old.class_kinds })
grows_types old t r g = record {
  ready = record { types = g.are; texts = r.texts };
  types = g.stays;
  texts = stays_same (texts_of old.texts);
  kinds = refl;
  strings = refl;
  class_of = refl;
  class_kinds = refl;
}

pub types_same : (t : Types) → AreTypes t → GrowsTypes t t
types_same t h = record { are = h; stays = stays_same (names_of t) }

pub types_on : (a b c : Types) → GrowsTypes a b → GrowsTypes b c → GrowsTypes a c
types_on a b c g h = record { are = h.are; stays = stays_on (names_of a) (names_of b) (names_of c) g.stays h.stays }

-- one descriptor more
pub types_whole : (a b c : Types) (u : Text) (n : ℕ) → GrowsTypes a b → Added b c u n → GrowsTypes a c
types_whole a b c u n g h = record { are = types_stay b c g.are h.kept h.stays; stays = stays_on (names_of a) (names_of b) (names_of c) g.stays h.stays }

-- the tables over names that grew
pub tabled : (p : Program) (old mid new : Names) (l : Lookups) → HasNames p old → Grows old mid → Grows mid new → IsOver p new l → IsTabled l
tabled p old mid new l h g k o =
    let n : HasNames p new = has_names_stay p old new h (grows_on old mid new g k) in
    let kinds : l.kinds.items ≡ new.kinds.items = ap (λ v. v.items) o.kinds in
    let strings : l.strings.items ≡ new.strings.items = ap (λ v. v.items) o.strings in
    record {
      named = record {
        types = subst AreTypes (sym o.types) n.types;
        texts = subst AreTexts (sym o.texts) n.texts;
        kinds = subst (λ q. (i : ℕ) → i < length q.types → IsType l.types (kind_in l.kinds.items i) (type_at q i)) (sym o.program)
            (subst (λ t. (i : ℕ) → i < length p.types → IsType t (kind_in l.kinds.items i) (type_at p i)) (sym o.types) (subst (λ v. (i : ℕ) → i < length p.types → IsType new.types (kind_in v i) (type_at p i)) (sym kinds) n.kinds));
        strings = subst (λ q. (i : ℕ) → i < length q.strings → IsText l.texts (string_in l.strings.items i) (text_at q i)) (sym o.program)
            (subst (λ t. (i : ℕ) → i < length p.strings → IsText t (string_in l.strings.items i) (text_at p i)) (sym o.texts) (subst (λ v. (i : ℕ) → i < length p.strings → IsText new.texts (string_in v i) (text_at p i)) (sym strings) n.strings));
      };
      own = ap (λ v. v.items) o.class_kinds ∙ n.own ∙ ap (λ v. map (λ c. kind_in v c.name) p.classes) (sym kinds) ∙ ap (λ q. map (λ c. kind_in l.kinds.items c.name) q.classes) (sym o.program);
      places = subst (λ v. ArePlaces v l.class_of.items) (sym (ap (λ v. v.items) o.class_kinds)) (subst (λ v. ArePlaces new.class_kinds.items v) (sym (ap (λ v. v.items) o.class_of)) n.places);
    }
