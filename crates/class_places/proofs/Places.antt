-- The places of the classes that define types.
use Rattle.std.specs.Prelude.{◌≡◌, ℕ, zero, suc, Bool, true, false, cond, nat_eq, nat_lt, nat_le, ◌&&◌, ◌-◌, ◌<◌, ◌≤◌, ◌+◌, ◌^◌, List, [], ◌∷◌, ◌++◌, length, find, position, Option, Some, None, slice_get, option_and_then, refl}
use Rattle.std.proofs.Common.{sym, ◌∙◌, arith, ap, subst, inl, inr, leb-true, length-append}
use Rattle.std.proofs.lemmas.Grind.{common_steps}
use Rattle.std.proofs.lemmas.Bool.{cases_lt}
use Rattle.std.proofs.lemmas.Option.{slice_get_past}
use Rattle.class_defs.proofs.Positions.{position_none}
use Rattle.class_defs.proofs.WellFormed.{sound, class_parts, few_classes, and_left, and_right}
use Rattle.program_model.specs.declared.program.Program.{Program}
use Rattle.program_model.specs.declared.program.Class.{Class}
use Rattle.program_model.specs.Lookups.{class_place}
use Rattle.program_model.specs.ProgramRules.{is_well_formed}
use Rattle.program_model.specs.TableRules.{tables_are_short, texts_are_short, entries_fit, entries_differ, tables_fit}
use Rattle.program_model.proofs.Formed.{formed}
use Rattle.hierarchy.specs.Tables.{read_at}
use Rattle.hierarchy.specs.Shapes.{IsOf, IsResolved}
use Rattle.hierarchy.specs.declared.build.Hierarchy.{Hierarchy}
use Rattle.dom_frame.specs.declared.classes.Classes.{Classes}
use Rattle.dom_frame.specs.Classes.{place_in, AreClasses}
use Rattle.class_places.specs.Words.{word_of}
use Rattle.class_places.specs.Known.{ArePlaces}

find_none : {X : Type 0} (t : X → Bool) (xs : List X) → ((i : ℕ) (x : X) → slice_get xs i ≡ Some x → t x ≡ false) → find t xs ≡ None
find_none t [] h = refl
find_none t (x ∷ xs) h = ap (λ b. cond b (Some x) (find t xs)) (h 0 x refl) ∙ find_none t xs (λ i y e. h (suc i) y e)

-- no class defines a number past the types
pub no_class_past : (p : Program) → is_well_formed p ≡ true → (kind : ℕ) → length p.types ≤ kind → class_place p kind ≡ None
no_class_past p h kind past = position_none (λ c. nat_eq c.name kind) p.classes (find_none (λ c. nat_eq c.name kind) p.classes other)
  where
    other : (i : ℕ) (c : Class) → slice_get p.classes i ≡ Some c → nat_eq c.name kind ≡ false
    other i c e =
        let lt : c.name < length p.types = (class_parts p (sound p h) i c e).name in
        grind (arith, common_steps)

-- how many types there are
short_types : (p : Program) → tables_are_short p ≡ true → length p.types ≤ 65535
unfolding tables_are_short
short_types p h =
    let r = and_right (nat_lt (length p.strings) (2 ^ 32) && nat_lt (length p.classes) (2 ^ 32)) ((nat_le (length p.types) 65535 && nat_le (length p.protos) 65535) && (nat_le (length p.fields) 65536 && nat_le (length p.methods) 65536)) h in
    let q = and_left (nat_le (length p.types) 65535 && nat_le (length p.protos) 65535) (nat_le (length p.fields) 65536 && nat_le (length p.methods) 65536) r in
    leb-true (length p.types) 65535 (and_left (nat_le (length p.types) 65535) (nat_le (length p.protos) 65535) q)

short_of : (p : Program) → is_well_formed p ≡ true → tables_are_short p ≡ true
unfolding tables_fit
short_of p h = and_left (tables_are_short p) (texts_are_short p) (and_left (tables_are_short p && texts_are_short p) (entries_fit p && entries_differ p) (formed p h).tables)

get_left : (xs ys : List (Option ℕ)) (k : ℕ) → k < length xs → slice_get (xs ++ ys) k ≡ slice_get xs k
get_left [] ys k lt = absurd (omega arith)
get_left (x ∷ xs) ys zero lt = refl
get_left (x ∷ xs) ys (suc k) lt = get_left xs ys k (omega arith)

get_seam : (xs : List (Option ℕ)) (y : Option ℕ) → slice_get (xs ++ y ∷ []) (length xs) ≡ Some y
get_seam [] y = refl
get_seam (x ∷ xs) y = get_seam xs y

pub no_places : (h : Hierarchy) → ArePlaces h 0 []
no_places h = record { long = refl; each = λ k lt. absurd (omega arith) }

pub one_place : (h : Hierarchy) (n : ℕ) (places : List (Option ℕ)) (o : Option ℕ) → ArePlaces h n places → o ≡ read_at h.shape.places.items (word_of n) → ArePlaces h (n + 1) (places ++ o ∷ [])
one_place h n places o a e = record {
  long = length-append places (o ∷ []) ∙ ap (λ m. m + 1) a.long;
  each = each;
}
  where
    each : (k : ℕ) → k < n + 1 → slice_get (places ++ o ∷ []) k ≡ Some (read_at h.shape.places.items (word_of k))
    each k lt = elim (cases_lt k n) [
      | inl below ↦ get_left places (o ∷ []) k (subst (λ m. k < m) (sym a.long) below) ∙ a.each k below
      | inr above ↦
          let i : n ≡ k = omega arith in
          let at : slice_get (places ++ o ∷ []) n ≡ Some o = subst (λ m. slice_get (places ++ o ∷ []) m ≡ Some o) a.long (get_seam places o) in
          subst (λ m. slice_get (places ++ o ∷ []) m ≡ Some (read_at h.shape.places.items (word_of m))) i (at ∙ ap Some e)
    ]

-- the table is that of the program's classes
pub known_places : (p : Program) (h : Hierarchy) (places : List (Option ℕ)) → is_well_formed p ≡ true → IsOf p h → ArePlaces h (length p.types) places → (kind : ℕ) → place_in places kind ≡ class_place p kind
known_places p h places well of a kind = elim (cases_lt kind (length p.types)) [
  | inl below ↦
      let small : kind < 2 ^ 32 = (let few = short_types p (short_of p well) in omega arith) in
      let w : word_of kind ≡ kind = (let b : nat_lt kind (2 ^ 32) ≡ true = grind (arith, common_steps) in ap (λ c. cond c kind (2 ^ 32 - 1)) b) in
      ap (option_and_then (λ o. o)) (a.each kind below) ∙ ap (read_at h.shape.places.items) w ∙ of.places kind
  | inr above ↦ ap (option_and_then (λ o. o)) (slice_get_past places kind (subst (λ m. m ≤ kind) (sym a.long) above)) ∙ sym (no_class_past p well kind above)
]

pub known_classes : (p : Program) (h : Hierarchy) (classes : Classes) → is_well_formed p ≡ true → IsResolved p h → ArePlaces h (length p.types) classes.places.now → classes.count ≡ word_of (length p.classes) → classes.hierarchy.now ≡ h → AreClasses p classes
known_classes p h classes well r a c e = record {
  places = known_places p h classes.places.now well r.of a;
  count =
      let few : length p.classes < 2 ^ 32 = few_classes p well in
      let b : nat_lt (length p.classes) (2 ^ 32) ≡ true = grind (arith, common_steps) in
      c ∙ ap (λ t. cond t (length p.classes) (2 ^ 32 - 1)) b;
  hierarchy = subst (IsResolved p) (sym e) r;
}
