-- The row of a type by numbers has the types that stand directly above it by names.
use Rattle.std.proofs.Common.{◌≡◌, ℕ, zero, suc, ◌+◌, ◌<◌, ◌≤◌, ◌⊎◌, inl, inr, Bool, true, false, true≢false, nat_eq, List, [], ◌∷◌, ◌++◌, map, length, replicate, take, get_or, Option, Some, None, refl, sym, ap, subst, ◌∙◌, arith}
use Rattle.std.specs.Prelude.{◌&&◌, cond, not, is_none, find, position, slice_get, slice_index_or, slice_set, Vec, option_and_then}
use Rattle.std.specs.List.{list_all}
use Rattle.std.specs.Option.{option_map, option_or}
use Rattle.std.specs.declared.alloc.Global.{Global}
use Rattle.std.proofs.lemmas.List.{map_push, take_more, take_all, length_push}
use Rattle.program_model.specs.declared.program.Class.{Class}
use Rattle.program_model.specs.declared.program.Program.{Program}
use Rattle.program_model.specs.ProgramRules.{is_well_formed}
use Rattle.program_model.specs.Texts.{has_type, is_class, letter_of, type_text as program_type_text, first_unit}
use Rattle.program_model.specs.MemberRules.{class_fits, types_of_class_fit, is_class_type, is_object}
use Rattle.class_defs.proofs.Positions.{number_of, number_test, position_step, position_snoc, place_entry, find_place, same_test}
use Rattle.class_defs.proofs.WellFormed.{and_left, and_right, all_at, below, sound}
use Rattle.dalvik_defs.specs.Names.{Text, text_eq, is_array, object_type}
use Rattle.dalvik_defs.specs.Known.{known_rows}
use Rattle.dalvik_defs.specs.Naming.{type_at, named_class, named}
use Rattle.dalvik_defs.specs.Under.{class_named, row_named, outer_type, directly_above, above_in, above_row as row_above}
use Rattle.dalvik_defs.specs.declared.tables.FrameworkType.{FrameworkType}
use Rattle.dalvik_defs.specs.declared.tables.Framework.{Framework}
use Rattle.dalvik_lookups.specs.declared.types.Kind.{Kind}
use Rattle.dalvik_lookups.specs.declared.types.Types.{Types}
use Rattle.dalvik_lookups.specs.declared.graph.Rows.{Rows}
use Rattle.dalvik_lookups.specs.declared.lookups.Names.{Names}
use Rattle.dalvik_lookups.specs.Views.{names_of, name_at, type_text, known_names, StandOnce, Stays, AreTypes, IsType}
use Rattle.dalvik_lookups.specs.Tables.{kind_in, is_plain, place_of, place_or_none, place_named, row_in, Stand, AreAbove, HasNames}
use Rattle.dalvik_lookups.specs.Rows.{is_empty_at, set_empty, outer_number, above_row, above_outside, numbers_listed, above_class, above_numbers, HaveRows}
use Rattle.dalvik_lookups.proofs.Interned.{text_same, text_sound, got_short, entry_in, entry_is, same_number}
use Rattle.dalvik_lookups.proofs.Placed.{class_bare, types_fit, type_same, letter_is, no_array, position_named, back, few_place, class_type_below}

-- ---- numbers of texts as a table grows

head_of : {X : Type 0} (x y : X) (xs ys : List X) → x ∷ xs ≡ y ∷ ys → x ≡ y
head_of x y xs ys e = cc

tail_of : {X : Type 0} (x y : X) (xs ys : List X) → x ∷ xs ≡ y ∷ ys → xs ≡ ys
tail_of x y xs ys e = cc

one_more : {X : Type 0} (x y : X) (xs ys : List X) → x ≡ y → xs ≡ ys → x ∷ xs ≡ y ∷ ys
one_more x y xs ys e f = ap (λ z. z ∷ xs) e ∙ ap (λ zs. y ∷ zs) f

pub stays_map : {F : Type 0} (g : F → Text) (ts us : List Text) → Stays ts us → (ns : List ℕ) (fs : List F) → map (slice_get ts) ns ≡ map (λ f. Some (g f)) fs → map (slice_get us) ns ≡ map (λ f. Some (g f)) fs
stays_map g ts us s [] [] e = refl
stays_map g ts us s [] (f ∷ fs) e = cc
stays_map g ts us s (n ∷ ns) [] e = cc
stays_map g ts us s (n ∷ ns) (f ∷ fs) e =
    one_more (slice_get us n) (Some (g f)) (map (slice_get us) ns) (map (λ f. Some (g f)) fs)
    (s.stays n (g f) (head_of (slice_get ts n) (Some (g f)) (map (slice_get ts) ns) (map (λ f. Some (g f)) fs) e))
    (stays_map g ts us s ns fs (tail_of (slice_get ts n) (Some (g f)) (map (slice_get ts) ns) (map (λ f. Some (g f)) fs) e))

pub stand_stays : (ts us : List Text) → Stays ts us → (ns : List ℕ) (xs : List Text) → Stand ts ns xs → Stand us ns xs
stand_stays ts us s ns xs h = record { at = stays_map (λ x. x) ts us s ns xs h.at }

pub stand_one : (ts : List Text) (n : ℕ) (x : Text) → slice_get ts n ≡ Some x → Stand ts (n ∷ []) (x ∷ [])
stand_one ts n x e = record { at = ap (λ o. o ∷ []) e }

pub stand_push : (ts us : List Text) (ns more : List ℕ) (xs : List Text) (n : ℕ) (x : Text) → Stays ts us → Stand ts ns xs → slice_get us n ≡ Some x → more ≡ ns ++ n ∷ [] → Stand us more (xs ++ x ∷ [])
stand_push ts us ns more xs n x s h e pushed = record {
  at = ap (map (slice_get us)) pushed ∙ map_push (slice_get us) ns n ∙ ap (λ os. os ++ slice_get us n ∷ []) (stays_map (λ x. x) ts us s ns xs h.at) ∙ ap (λ o. map (λ x. Some x) xs ++ o ∷ []) e ∙ sym (map_push (λ x. Some x) xs x);
}

-- the numbers of the rows that the machine knows, and of what they name above
abbrev pub known_lowers : List ℕ
known_lowers = 3 ∷ 4 ∷ 5 ∷ 6 ∷ 7 ∷ 8 ∷ 9 ∷ 10 ∷ 11 ∷ 12 ∷ 13 ∷ 14 ∷ 15 ∷ 16 ∷ 17 ∷ 18 ∷ 19 ∷ []

abbrev pub known_uppers : List (List ℕ)
known_uppers = (0 ∷ []) ∷ (3 ∷ []) ∷ (3 ∷ []) ∷ (4 ∷ []) ∷ (6 ∷ []) ∷ (6 ∷ []) ∷ (6 ∷ []) ∷ (6 ∷ []) ∷ (6 ∷ []) ∷ (6 ∷ []) ∷ (6 ∷ []) ∷ (12 ∷ []) ∷ (5 ∷ []) ∷ (15 ∷ []) ∷ (15 ∷ []) ∷ (15 ∷ []) ∷ (18 ∷ []) ∷ []

abbrev pub known_pairs : List (ℕ × ℕ)
known_pairs = (3, 0) ∷ (4, 3) ∷ (5, 3) ∷ (6, 4) ∷ (7, 6) ∷ (8, 6) ∷ (9, 6) ∷ (10, 6) ∷ (11, 6) ∷ (12, 6) ∷ (13, 6) ∷ (14, 12) ∷ (15, 5) ∷ (16, 15) ∷ (17, 15) ∷ (18, 15) ∷ (19, 18) ∷ []

pub pairs_step : {Y : Type 0} (g : ℕ × ℕ → Y) (i : ℕ) (ys more : List Y) (y : Y) → ys ≡ map g (take i known_pairs) → i < 17 → more ≡ ys ++ y ∷ [] → y ≡ g (get_or known_pairs i (0, 0)) → more ≡ map g (take (i + 1) known_pairs)
pairs_step g i ys more y e lt pushed is =
    pushed ∙ ap (λ v. v ++ y ∷ []) e ∙ ap (λ z. map g (take i known_pairs) ++ z ∷ []) is ∙ sym (ap (map g) (take_more known_pairs i (0, 0) lt) ∙ map_push g (take i known_pairs) (get_or known_pairs i (0, 0)))

abbrev row_texts : FrameworkType → List (Option Text)
row_texts f = map (λ x. Some x) (f.superclass ∷ f.interfaces)

pub stays_rows : (ts us : List Text) → Stays ts us → (vs : List (List ℕ)) (fs : List FrameworkType) → map (map (slice_get ts)) vs ≡ map (λ f. map (λ x. Some x) (f.superclass ∷ f.interfaces)) fs → map (map (slice_get us)) vs ≡ map (λ f. map (λ x. Some x) (f.superclass ∷ f.interfaces)) fs
stays_rows ts us s [] [] e = refl
stays_rows ts us s [] (f ∷ fs) e = cc
stays_rows ts us s (v ∷ vs) [] e = cc
stays_rows ts us s (v ∷ vs) (f ∷ fs) e =
    one_more (map (slice_get us) v) (row_texts f) (map (map (slice_get us)) vs) (map row_texts fs)
    (stays_map (λ x. x) ts us s v (f.superclass ∷ f.interfaces) (head_of (map (slice_get ts) v) (row_texts f) (map (map (slice_get ts)) vs) (map row_texts fs) e))
    (stays_rows ts us s vs fs (tail_of (map (slice_get ts) v) (row_texts f) (map (map (slice_get ts)) vs) (map row_texts fs) e))

-- one row more
pub rows_push : (ts us : List Text) (rows new : Rows) (fs : List FrameworkType) (f : FrameworkType) (n : ℕ) (v : Vec ℕ Global) → Stays ts us → HaveRows ts rows fs → slice_get us n ≡ Some f.name → Stand us v.items (f.superclass ∷ f.interfaces)
    → new.own.items ≡ rows.own.items ++ n ∷ [] → new.above.items ≡ rows.above.items ++ v ∷ [] → HaveRows us new (fs ++ f ∷ [])
rows_push ts us rows new fs f n v s h e k own above = record {
  own = ap (map (slice_get us)) own ∙ map_push (slice_get us) rows.own.items n ∙ ap (λ os. os ++ slice_get us n ∷ []) (stays_map (λ f. f.name) ts us s rows.own.items fs h.own) ∙ ap (λ o. map (λ f. Some f.name) fs ++ o ∷ []) e ∙ sym (map_push (λ f. Some f.name) fs f);
  above = ap (λ vs. map (map (slice_get us)) (map (λ v. v.items) vs)) above
      ∙ ap (map (map (slice_get us))) (map_push (λ v. v.items) rows.above.items v)
      ∙ map_push (map (slice_get us)) (map (λ v. v.items) rows.above.items) v.items
      ∙ ap (λ os. os ++ map (slice_get us) v.items ∷ []) (stays_rows ts us s (map (λ v. v.items) rows.above.items) fs h.above)
      ∙ ap (λ o. map row_texts fs ++ o ∷ []) k.at ∙ sym (map_push row_texts fs f);
}

-- the rows that the machine knows
pub rows_known : (t : Types) → AreTypes t → (rows : Rows) → rows.own.items ≡ known_lowers → map (λ v. v.items) rows.above.items ≡ known_uppers → HaveRows (names_of t) rows known_rows
rows_known t h rows own above = record {
  own = ap (map (slice_get (names_of t))) own ∙ stays_map (λ f. f.name) known_names (names_of t) h.known known_lowers known_rows refl;
  above = ap (map (map (slice_get (names_of t)))) above ∙ stays_rows known_names (names_of t) h.known known_uppers known_rows refl;
}

-- ---- the item of a loop

pub more_of : {X : Type 0} (xs ys : List X) (i : ℕ) (x : X) → xs ≡ ys → i < length xs → x ≡ get_or xs i x → take (i + 1) ys ≡ take i ys ++ x ∷ []
more_of xs ys i x e lt is = subst (λ l. take (i + 1) l ≡ take i l ++ x ∷ []) e (take_more xs i x lt ∙ ap (λ y. take i xs ++ y ∷ []) (sym is))

pub all_of : {X : Type 0} (xs ys : List X) (i : ℕ) → xs ≡ ys → length xs ≤ i → take i ys ≡ ys
all_of xs ys i e le = subst (λ l. take i l ≡ l) e (take_all i xs le)

-- ---- the class of a number

-- what the first class of a name is by names
pub record IsClassOf (p : Program) (x : Text) (c : ℕ) : Type 0 where
  pub class : Class
  pub is : slice_get p.classes c ≡ Some class
  pub named_so : class_named (named p) x ≡ Some (named_class p class)

find_map : (p : Program) (x : Text) (cs : List Class) → find (λ c. text_eq c.name x) (map (named_class p) cs) ≡ option_map (named_class p) (find (λ c. text_eq (type_at p c.name) x) cs)
find_map p x [] = refl
find_map p x (c ∷ cs) = by (text_eq (type_at p c.name) x) (find_map p x cs)
  where
    by : (b : Bool) → find (λ c. text_eq c.name x) (map (named_class p) cs) ≡ option_map (named_class p) (find (λ c. text_eq (type_at p c.name) x) cs)
        → cond b (Some (named_class p c)) (find (λ c. text_eq c.name x) (map (named_class p) cs)) ≡ option_map (named_class p) (cond b (Some c) (find (λ c. text_eq (type_at p c.name) x) cs))
    by true e = refl
    by false e = e

class_is : (p : Program) (x : Text) → class_named (named p) x ≡ option_map (named_class p) (option_and_then (slice_get p.classes) (place_named p x))
class_is p x = find_map p x p.classes ∙ ap (option_map (named_class p)) (find_place (λ c. text_eq (type_at p c.name) x) p.classes)

pub no_class : (p : Program) (x : Text) → place_named p x ≡ None → class_named (named p) x ≡ None
no_class p x e = class_is p x ∙ ap (λ o. option_map (named_class p) (option_and_then (slice_get p.classes) o)) e

pub some_class : (p : Program) (x : Text) (c : ℕ) → place_named p x ≡ Some c → IsClassOf p x c
some_class p x c e =
    let r = place_entry (λ c. text_eq (type_at p c.name) x) p.classes c e in
    record { class = r.entry; is = r.is; named_so = class_is p x ∙ ap (λ o. option_map (named_class p) (option_and_then (slice_get p.classes) o)) e ∙ ap (option_map (named_class p)) r.is }

-- a type that is no array has no brackets
bare_depth : (t : Types) (k : Kind) (x : Text) → type_text t k ≡ x → is_array x ≡ false → k.depth ≡ 0
bare_depth t k x e bare = by k.depth refl
  where
    by : (d : ℕ) → k.depth ≡ d → k.depth ≡ 0
    by zero f = f
    by (suc d) f = absurd (true≢false (sym (ap (λ n. is_array (replicate n 91 ++ name_at t k.base)) f) ∙ ap is_array e ∙ bare))

bare_text : (t : Types) (k : Kind) (x : Text) → type_text t k ≡ x → is_array x ≡ false → name_at t k.base ≡ x
bare_text t k x e bare = sym (ap (λ n. replicate n 91 ++ name_at t k.base) (bare_depth t k x e bare)) ∙ e

-- the class of the descriptor with a number
pub class_numbered : (p : Program) (names : Names) → is_well_formed p ≡ true → HasNames p names → (n : ℕ) (x : Text) → slice_get (names_of names.types) n ≡ Some x → place_of (slice_index_or names.class_of.items n 4294967295) ≡ place_named p x
class_numbered p names w h n x e =
    ap place_of (h.places.is n ∙ ap (λ ks. place_or_none (position (is_plain n) ks)) h.own ∙ ap place_or_none (position_named (is_plain n) (λ c. text_eq (type_at p c.name) x) (λ c. kind_in names.kinds.items c.name) p.classes tests))
    ∙ back (place_named p x) (few_place p w x)
  where
    tests : (i : ℕ) (c : Class) → slice_get p.classes i ≡ Some c → is_plain n (kind_in names.kinds.items c.name) ≡ text_eq (type_at p c.name) x
    tests i c f =
        let k : Kind = kind_in names.kinds.items c.name in
        let own : IsType names.types k (type_at p c.name) = h.kinds c.name (class_type_below p w i c f) in
        let bare = class_bare p w i c f in
        let text : name_at names.types k.base ≡ type_at p c.name = bare_text names.types k (type_at p c.name) own.text bare in
        same_test (is_plain n k) (text_eq (type_at p c.name) x)
        (λ g. let base : k.base ≡ n = number_of k.base n (and_right (nat_eq k.depth 0) (nat_eq k.base n) g) in
        ap (λ u. text_eq u x) (sym text ∙ ap (name_at names.types) base ∙ entry_is (names_of names.types) n x e) ∙ text_same x)
        (λ g. let same : k.base ≡ n = same_number (names_of names.types) h.types.kept.once k.base n own.kind.base (got_short (names_of names.types) n x e) (text ∙ text_sound (type_at p c.name) x g ∙ sym (entry_is (names_of names.types) n x e)) in
        ap (λ b. b && nat_eq k.base n) (number_test k.depth 0 (bare_depth names.types k (type_at p c.name) own.text bare)) ∙ number_test k.base n same)

-- ---- what a class lists

listed_one : (p : Program) (names : Names) → HasNames p names → (k : ℕ) → is_class_type p k ≡ true → slice_get (names_of names.types) (kind_in names.kinds.items k).base ≡ Some (type_at p k)
listed_one p names h k e =
    let own : IsType names.types (kind_in names.kinds.items k) (type_at p k) = h.kinds k (below k (length p.types) (and_left (has_type p k) (is_class (letter_of p k)) e)) in
    let bare : is_array (type_at p k) ≡ false = no_array (type_at p k) (ap first_unit (type_same p k) ∙ sym (letter_is p k) ∙ number_of (letter_of p k) 76 (and_right (has_type p k) (is_class (letter_of p k)) e)) in
    entry_in (names_of names.types) (kind_in names.kinds.items k).base own.kind.base ∙ ap (λ u. Some u) (bare_text names.types (kind_in names.kinds.items k) (type_at p k) own.text bare)

listed_all : (p : Program) (names : Names) → HasNames p names → (ks : List ℕ) → list_all (is_class_type p) ks ≡ true → map (slice_get (names_of names.types)) (map (λ k. (kind_in names.kinds.items k).base) ks) ≡ map (λ x. Some x) (map (type_at p) ks)
listed_all p names h [] e = refl
listed_all p names h (k ∷ ks) e =
    one_more (slice_get (names_of names.types) (kind_in names.kinds.items k).base) (Some (type_at p k)) (map (slice_get (names_of names.types)) (map (λ k. (kind_in names.kinds.items k).base) ks)) (map (λ x. Some x) (map (type_at p) ks))
    (listed_one p names h k (and_left (is_class_type p k) (list_all (is_class_type p) ks) e)) (listed_all p names h ks (and_right (is_class_type p k) (list_all (is_class_type p) ks) e))

lists_fit : (p : Program) (c : Class) → types_of_class_fit p c ≡ true → list_all (is_class_type p) (c.superclass ∷ c.interfaces) ≡ true
unfolding types_of_class_fit
lists_fit p c e = and_right (is_class_type p c.name && not (is_object (program_type_text p c.name))) (is_class_type p c.superclass && list_all (is_class_type p) c.interfaces) e

-- ---- what a row lists

place_both : (ts : List Text) → StandOnce ts → (n : ℕ) (x : Text) → slice_get ts n ≡ Some x → (own : List ℕ) (fs : List FrameworkType) → map (slice_get ts) own ≡ map (λ f. Some f.name) fs → position (nat_eq n) own ≡ position (λ f. text_eq f.name x) fs
place_both ts once n x e [] [] h = refl
place_both ts once n x e [] (f ∷ fs) h = cc
place_both ts once n x e (m ∷ own) [] h = cc
place_both ts once n x e (m ∷ own) (f ∷ fs) h =
    position_step (nat_eq n) m own
    ∙ ap (λ b. cond b (Some 0) (option_map suc (position (nat_eq n) own))) (same_test (nat_eq n m) (text_eq f.name x)
    (λ g. let same : Some f.name ≡ Some x = sym first ∙ ap (slice_get ts) (sym (number_of n m g)) ∙ e in let text : f.name ≡ x = cc in ap (λ u. text_eq u x) text ∙ text_same x)
    (λ g. number_test n m (once.once n m x e (first ∙ ap (λ u. Some u) (text_sound f.name x g)))))
    ∙ ap (λ o. cond (text_eq f.name x) (Some 0) (option_map suc o)) (place_both ts once n x e own fs (tail_of (slice_get ts m) (Some f.name) (map (slice_get ts) own) (map (λ f. Some f.name) fs) h))
    ∙ sym (position_step (λ f. text_eq f.name x) f fs)
  where
    first : slice_get ts m ≡ Some f.name
    first = head_of (slice_get ts m) (Some f.name) (map (slice_get ts) own) (map (λ f. Some f.name) fs) h

row_there : (ts : List Text) (vs : List (Vec ℕ Global)) (fs : List FrameworkType) (i : ℕ) (f : FrameworkType) → map (map (slice_get ts)) (map (λ v. v.items) vs) ≡ map row_texts fs → slice_get fs i ≡ Some f → map (slice_get ts) (row_in vs i) ≡ row_texts f
row_there ts [] [] i f h e = cc
row_there ts [] (g ∷ gs) i f h e = cc
row_there ts (v ∷ vs) [] i f h e = cc
row_there ts (v ∷ vs) (g ∷ gs) zero f h e =
    let s : g ≡ f = cc in head_of (map (slice_get ts) v.items) (row_texts g) (map (map (slice_get ts)) (map (λ v. v.items) vs)) (map row_texts gs) h ∙ ap row_texts s
row_there ts (v ∷ vs) (g ∷ gs) (suc i) f h e = row_there ts vs gs i f (tail_of (map (slice_get ts) v.items) (row_texts g) (map (map (slice_get ts)) (map (λ v. v.items) vs)) (map row_texts gs) h) e

outer_one : (p : Program) (names : Names) → is_well_formed p ≡ true → HasNames p names → (n : ℕ) (x : Text) → slice_get (names_of names.types) n ≡ Some x → slice_get (names_of names.types) (outer_number names.class_of.items n) ≡ Some (outer_type (named p) x)
outer_one p names w h n x e =
    ap (λ o. slice_get (names_of names.types) (elim o as (λ o. ℕ) [ Some c ↦ 0 | None ↦ n ])) (class_numbered p names w h n x e)
    ∙ by (place_named p x) refl
  where
    by : (o : Option ℕ) → place_named p x ≡ o → slice_get (names_of names.types) (elim o as (λ o. ℕ) [ Some c ↦ 0 | None ↦ n ]) ≡ Some (outer_type (named p) x)
    by None f = e ∙ sym (ap (λ q. Some (elim (elim q as (λ q. Bool) [ Some c ↦ true | None ↦ false ]) as (λ b. Text) [ true ↦ object_type | false ↦ x ])) (no_class p x f))
    by (Some c) f = h.types.known.stays 0 object_type refl ∙ sym (ap (λ q. Some (elim (elim q as (λ q. Bool) [ Some c ↦ true | None ↦ false ]) as (λ b. Text) [ true ↦ object_type | false ↦ x ])) (some_class p x c f).named_so)

outer_all : (p : Program) (names : Names) → is_well_formed p ≡ true → HasNames p names → (ns : List ℕ) (xs : List Text) → map (slice_get (names_of names.types)) ns ≡ map (λ x. Some x) xs
    → map (slice_get (names_of names.types)) (map (outer_number names.class_of.items) ns) ≡ map (λ x. Some x) (map (outer_type (named p)) xs)
outer_all p names w h [] [] e = refl
outer_all p names w h [] (x ∷ xs) e = cc
outer_all p names w h (n ∷ ns) [] e = cc
outer_all p names w h (n ∷ ns) (x ∷ xs) e =
    one_more (slice_get (names_of names.types) (outer_number names.class_of.items n)) (Some (outer_type (named p) x)) (map (slice_get (names_of names.types)) (map (outer_number names.class_of.items) ns)) (map (λ x. Some x) (map (outer_type (named p)) xs))
    (outer_one p names w h n x (head_of (slice_get (names_of names.types) n) (Some x) (map (slice_get (names_of names.types)) ns) (map (λ x. Some x) xs) e))
    (outer_all p names w h ns xs (tail_of (slice_get (names_of names.types) n) (Some x) (map (slice_get (names_of names.types)) ns) (map (λ x. Some x) xs) e))

-- ---- the row of a type

row_stands : (p : Program) (f : Framework) (names : Names) (rows : Rows) → is_well_formed p ≡ true → HasNames p names → HaveRows (names_of names.types) rows (known_rows ++ f.rows) → (x : Text) (o : Option ℕ) → position (λ r. text_eq r.name x) (known_rows ++ f.rows) ≡ o
    → map (slice_get (names_of names.types)) (above_row names.class_of.items rows.above.items o) ≡ map (λ x. Some x) (row_above (named p) x (row_named f x))
row_stands p f names rows w h r x None e =
    ap (λ o. o ∷ []) (h.types.known.stays 0 object_type refl)
    ∙ sym (ap (λ q. map (λ x. Some x) (row_above (named p) x q)) (find_place (λ r. text_eq r.name x) (known_rows ++ f.rows) ∙ ap (option_and_then (slice_get (known_rows ++ f.rows))) e))
row_stands p f names rows w h r x (Some i) e =
    let q = place_entry (λ r. text_eq r.name x) (known_rows ++ f.rows) i e in
    outer_all p names w h (row_in rows.above.items i) (q.entry.superclass ∷ q.entry.interfaces) (row_there (names_of names.types) rows.above.items (known_rows ++ f.rows) i q.entry r.above q.is)
    ∙ sym (ap (λ q. map (λ x. Some x) (row_above (named p) x q)) (find_place (λ r. text_eq r.name x) (known_rows ++ f.rows) ∙ ap (option_and_then (slice_get (known_rows ++ f.rows))) e ∙ q.is))

pub numbers_stand : (p : Program) (f : Framework) (names : Names) (rows : Rows) (placed : List (Option ℕ)) → is_well_formed p ≡ true → HasNames p names → HaveRows (names_of names.types) rows (known_rows ++ f.rows)
    → (n : ℕ) (x : Text) → slice_get (names_of names.types) n ≡ Some x → slice_index_or placed n None ≡ position (nat_eq n) rows.own.items
    → Stand (names_of names.types) (above_numbers p names rows placed n) (directly_above (named p) f x)
numbers_stand p f names rows placed w h r n x e there = record {
  at = ap (λ o. map (slice_get (names_of names.types)) (elim o as (λ o. List ℕ) [ Some c ↦ above_class p names.kinds.items c | None ↦ above_outside names.class_of.items rows.above.items placed n ])) (class_numbered p names w h n x e)
      ∙ by (place_named p x) refl;
}
  where
    object : nat_eq n 0 ≡ text_eq x object_type
    object = same_test (nat_eq n 0) (text_eq x object_type)
        (λ g. let same : Some x ≡ Some object_type = sym e ∙ ap (slice_get (names_of names.types)) (number_of n 0 g) ∙ h.types.known.stays 0 object_type refl in let text : x ≡ object_type = cc in ap (λ u. text_eq u object_type) text ∙ text_same object_type)
        (λ g. number_test n 0 (h.types.kept.once.once n 0 x e (h.types.known.stays 0 object_type refl ∙ ap (λ u. Some u) (sym (text_sound x object_type g)))))

    outside : (b : Bool) → map (slice_get (names_of names.types)) (cond b [] (above_row names.class_of.items rows.above.items (slice_index_or placed n None))) ≡ map (λ x. Some x) (elim b as (λ b. List Text) [ true ↦ [] | false ↦ row_above (named p) x (row_named f x) ])
    outside true = refl
    outside false = row_stands p f names rows w h r x (slice_index_or placed n None) (sym (there ∙ place_both (names_of names.types) h.types.kept.once n x e rows.own.items (known_rows ++ f.rows) r.own))

    by : (o : Option ℕ) → place_named p x ≡ o → map (slice_get (names_of names.types)) (elim o as (λ o. List ℕ) [ Some c ↦ above_class p names.kinds.items c | None ↦ above_outside names.class_of.items rows.above.items placed n ]) ≡ map (λ x. Some x) (directly_above (named p) f x)
    by None g =
        ap (λ b. map (slice_get (names_of names.types)) (cond b [] (above_row names.class_of.items rows.above.items (slice_index_or placed n None)))) object
        ∙ outside (text_eq x object_type)
        ∙ sym (ap (λ q. map (λ x. Some x) (above_in (named p) f x q)) (no_class p x g))
    by (Some c) g =
        let q = some_class p x c g in
        ap (λ o. map (slice_get (names_of names.types)) (elim o as (λ o. List ℕ) [ Some k ↦ numbers_listed names.kinds.items k | None ↦ [] ])) q.is
        ∙ listed_all p names h (q.class.superclass ∷ q.class.interfaces) (lists_fit p q.class (types_fit p q.class (all_at (class_fits p) p.classes c q.class (sound p w).classes_fit q.is)))
        ∙ sym (ap (λ q. map (λ x. Some x) (above_in (named p) f x q)) q.named_so)

-- ---- first places

set_other : {X : Type 0} (xs : List X) (i j : ℕ) (v d : X) → (i ≡ j → ⊥) → slice_index_or (slice_set xs i v) j d ≡ slice_index_or xs j d
set_other [] i j v d f = refl
set_other (x ∷ xs) zero zero v d f = absurd (f refl)
set_other (x ∷ xs) zero (suc j) v d f = refl
set_other (x ∷ xs) (suc i) zero v d f = refl
set_other (x ∷ xs) (suc i) (suc j) v d f = set_other xs i j v d (λ e. f (ap suc e))

set_here : {X : Type 0} (xs : List X) (i : ℕ) (v d : X) → i < length xs → slice_index_or (slice_set xs i v) i d ≡ v
set_here [] i v d l = absurd (omega (arith, l))
set_here (x ∷ xs) zero v d l = refl
set_here (x ∷ xs) (suc i) v d l = set_here xs i v d (omega (arith, l))

or_none : (o : Option ℕ) → o ≡ option_or o None
or_none None = refl
or_none (Some i) = refl

empty_here : (old : List (Option ℕ)) (n : ℕ) → n < length old → is_empty_at old n ≡ is_none (slice_index_or old n None)
empty_here [] n l = absurd (omega (arith, l))
empty_here (o ∷ os) zero l = refl
empty_here (o ∷ os) (suc n) l = empty_here os n (omega (arith, l))

set_at : (old : List (Option ℕ)) (m i n : ℕ) → n < length old → slice_index_or (set_empty old m i) n None ≡ option_or (slice_index_or old n None) (cond (nat_eq n m) (Some i) None)
set_at old m i n l = by (nat_eq n m) refl
  where
    here : (o : Option ℕ) → slice_index_or old n None ≡ o → slice_index_or (cond (is_none o) (slice_set old n (Some i)) old) n None ≡ option_or o (Some i)
    here None e = set_here old n (Some i) None l
    here (Some k) e = e

    other : (b : Bool) → (m ≡ n → ⊥) → slice_index_or (cond b (slice_set old m (Some i)) old) n None ≡ slice_index_or old n None
    other true f = set_other old m n (Some i) None f
    other false f = refl

    by : (b : Bool) → nat_eq n m ≡ b → slice_index_or (set_empty old m i) n None ≡ option_or (slice_index_or old n None) (cond b (Some i) None)
    by true e = ap (λ k. slice_index_or (set_empty old k i) n None) (sym (number_of n m e)) ∙ ap (λ b. slice_index_or (cond b (slice_set old n (Some i)) old) n None) (empty_here old n l) ∙ here (slice_index_or old n None) refl
    by false e = other (is_empty_at old m) (λ s. true≢false (sym (number_test n m (sym s)) ∙ e)) ∙ or_none (slice_index_or old n None)

set_size : (old : List (Option ℕ)) (m i : ℕ) → length (set_empty old m i) ≡ length old
set_size old m i = by (is_empty_at old m)
  where
    size : (xs : List (Option ℕ)) (j : ℕ) → length (slice_set xs j (Some i)) ≡ length xs
    size [] j = refl
    size (x ∷ xs) zero = refl
    size (x ∷ xs) (suc j) = ap suc (size xs j)

    by : (b : Bool) → length (cond b (slice_set old m (Some i)) old) ≡ length old
    by true = size old m
    by false = refl

take_size : {X : Type 0} (xs : List X) (i : ℕ) → i < length xs → length (take i xs) ≡ i
take_size xs zero l = refl
take_size [] (suc i) l = absurd (omega (arith, l))
take_size (x ∷ xs) (suc i) l = ap suc (take_size xs i (omega (arith, l)))

pub set_long : (old new : List (Option ℕ)) (m i n : ℕ) → new ≡ set_empty old m i → length old ≡ n → length new ≡ n
set_long old new m i n e l = ap length e ∙ set_size old m i ∙ l

pub set_step : (numbers : List ℕ) (old new : List (Option ℕ)) (m i n d : ℕ) → new ≡ set_empty old m i → m ≡ get_or numbers i d → i < length numbers → n < length old → slice_index_or old n None ≡ position (nat_eq n) (take i numbers)
    → slice_index_or new n None ≡ position (nat_eq n) (take (i + 1) numbers)
set_step numbers old new m i n d e is lt l h =
    ap (λ v. slice_index_or v n None) e ∙ set_at old m i n l
    ∙ ap (λ o. option_or o (cond (nat_eq n m) (Some i) None)) h
    ∙ sym (ap (position (nat_eq n)) (take_more numbers i d lt ∙ ap (λ y. take i numbers ++ y ∷ []) (sym is)) ∙ position_snoc (nat_eq n) (take i numbers) m ∙ ap (λ k. option_or (position (nat_eq n) (take i numbers)) (cond (nat_eq n m) (Some k) None)) (take_size numbers i lt))

pub none_push : (xs : List (Option ℕ)) (n : ℕ) → slice_index_or xs n None ≡ None → slice_index_or (xs ++ None ∷ []) n None ≡ None
none_push [] zero e = refl
none_push [] (suc n) e = refl
none_push (x ∷ xs) zero e = e
none_push (x ∷ xs) (suc n) e = none_push xs n e

-- ---- all rows

row_left : (xs : List (Vec ℕ Global)) (v : Vec ℕ Global) (k : ℕ) → k < length xs → row_in (xs ++ v ∷ []) k ≡ row_in xs k
row_left [] v k l = absurd (omega (arith, l))
row_left (x ∷ xs) v zero l = refl
row_left (x ∷ xs) v (suc k) l = row_left xs v k (omega (arith, l))

row_last : (xs : List (Vec ℕ Global)) (v : Vec ℕ Global) → row_in (xs ++ v ∷ []) (length xs) ≡ v.items
row_last [] v = refl
row_last (x ∷ xs) v = row_last xs v

below_or : (i n : ℕ) → i < n + 1 → (i < n) ⊎ (i ≡ n)
below_or zero zero lt = inr refl
below_or zero (suc n) lt = inl (omega arith)
below_or (suc i) zero lt = absurd (omega (arith, lt))
below_or (suc i) (suc n) lt = elim (below_or i n (omega (arith, lt))) [ inl l ↦ inl (omega (arith, l)) | inr e ↦ inr (ap suc e) ]

pub rows_long : (xs new : List (Vec ℕ Global)) (v : Vec ℕ Global) (n : ℕ) → length xs ≡ n → new ≡ xs ++ v ∷ [] → length new ≡ n + 1
rows_long xs new v n l e = omega (arith, ap length e, length_push xs v, l)

pub rows_at : (f : ℕ → List ℕ) (xs new : List (Vec ℕ Global)) (v : Vec ℕ Global) (n : ℕ) → length xs ≡ n → ((k : ℕ) → k < n → row_in xs k ≡ f k) → v.items ≡ f n → new ≡ xs ++ v ∷ [] → (k : ℕ) → k < n + 1 → row_in new k ≡ f k
rows_at f xs new v n l h is e k lt = ap (λ r. row_in r k) e ∙ elim (below_or k n lt) [
  | inl b ↦ row_left xs v k (omega (arith, b, l)) ∙ h k b
  | inr s ↦ ap (row_in (xs ++ v ∷ [])) (s ∙ sym l) ∙ row_last xs v ∙ is ∙ ap f (sym s)
]

pub all_above : (p : Program) (f : Framework) (names : Names) (rows : Rows) (placed : List (Option ℕ)) (above : Vec (Vec ℕ Global) Global) (count : ℕ) → is_well_formed p ≡ true → HasNames p names → HaveRows (names_of names.types) rows (known_rows ++ f.rows)
    → count ≡ length (names_of names.types) → ((n : ℕ) → n < count → slice_index_or placed n None ≡ position (nat_eq n) rows.own.items) → ((n : ℕ) → n < count → row_in above.items n ≡ above_numbers p names rows placed n)
    → AreAbove p f names.types (record { rows = above })
all_above p f names rows placed above count w h r long there made = record {
  above = λ n x e.
      let short : n < count = (let g = got_short (names_of names.types) n x e in omega (arith, g, long)) in
      subst (λ row. Stand (names_of names.types) row (directly_above (named p) f x)) (sym (made n short)) (numbers_stand p f names rows placed w h r n x e (there n short));
}
