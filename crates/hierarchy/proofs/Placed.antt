-- The tables of places are those of the program's classes.
use Rattle.std.proofs.Common.{◌≡◌, ℕ, zero, suc, ◌+◌, ◌-◌, ◌<◌, ◌^◌, ◌⊎◌, inl, inr, Bool, true, false, true≢false, nat_eq, List, [], ◌∷◌, ◌++◌, map, length, Option, Some, None, Result, Ok, Err, refl, sym, ap, subst, ◌∙◌, arith, append_assoc, append-nil, length-append, eqb-true}
use Rattle.std.specs.Prelude.{IfOk, IfErr, cond, slice_get, slice_set, slice_index_or, position, option_and_then, is_some, replicate}
use Rattle.std.specs.Option.{option_map, option_or}
use Rattle.std.proofs.lemmas.Option.{slice_get-map}
use Rattle.program_model.specs.declared.program.Class.{Class}
use Rattle.program_model.specs.declared.program.Program.{Program}
use Rattle.program_model.specs.Lookups.{class_place}
use Rattle.program_model.specs.ProgramRules.{is_well_formed}
use Rattle.class_defs.specs.Places.{super_place, placed, places_of, listed, interface_places}
use Rattle.class_defs.specs.ClassGraph.{IsTwice}
use Rattle.class_defs.proofs.Positions.{number_test, number_of, place_entry, place_first, position_snoc}
use Rattle.class_defs.proofs.WellFormed.{sound, class_parts, few_classes}
use Rattle.hierarchy.specs.Tables.{known, read_at, row_or_empty, row_of}
use Rattle.hierarchy.specs.Naming.{IsNamed}
use Rattle.hierarchy.specs.Ranks.{IsRanked}
use Rattle.hierarchy.proofs.Above.{ranked_by, first_cycle}
use Rattle.hierarchy.proofs.Acyclic.{acyclic}
use Rattle.hierarchy.specs.Placing.{place_from, known_places}
use Rattle.hierarchy.specs.Faults.{IsTwiceOr, IsSplitOr}
use Rattle.hierarchy.specs.Shapes.{placing, supers_by, lists_by, IsMade, StopsAt, IsOf, IsFirstTwice, IsCause}
use Rattle.hierarchy.specs.declared.build.Hierarchy.{Hierarchy}
use Rattle.hierarchy.specs.declared.fault.HierarchyFault.{HierarchyFault}
use Rattle.hierarchy.specs.declared.fault.HierarchyFault.TheVariants.{NoMemory, Cycle, Twice, SplitOverride}
use Rattle.hierarchy.specs.declared.build.Shape.{Shape}

-- ---- a table of places

got_same : (t : List ℕ) (i v : ℕ) → i < length t → slice_get (slice_set t i v) i ≡ Some v
got_same [] i v h = absurd (omega arith)
got_same (x ∷ xs) zero v h = refl
got_same (x ∷ xs) (suc i) v h = got_same xs i v (omega arith)

got_other : (t : List ℕ) (i v k : ℕ) → (i ≡ k → ⊥) → slice_get (slice_set t i v) k ≡ slice_get t k
got_other [] i v k h = refl
got_other (x ∷ xs) zero v zero h = absurd (h refl)
got_other (x ∷ xs) zero v (suc k) h = refl
got_other (x ∷ xs) (suc i) v zero h = refl
got_other (x ∷ xs) (suc i) v (suc k) h = got_other xs i v k (λ e. h (ap suc e))

set_length : (t : List ℕ) (i v : ℕ) → length (slice_set t i v) ≡ length t
set_length [] i v = refl
set_length (x ∷ xs) zero v = refl
set_length (x ∷ xs) (suc i) v = ap suc (set_length xs i v)

pub known_small : (v : ℕ) → v < 2 ^ 32 - 1 → known (Some v) ≡ Some v
known_small v h = by_test (nat_eq v (2 ^ 32 - 1)) refl
  where
    by_test : (b : Bool) → nat_eq v (2 ^ 32 - 1) ≡ b → cond b None (Some v) ≡ Some v
    by_test false e = refl
    by_test true e = absurd (let s = eqb-true v (2 ^ 32 - 1) e in omega arith)

-- the entry of a table that stands for none
known_none : (t : List ℕ) (i : ℕ) → known (Some (slice_index_or t i 4294967295)) ≡ read_at t i
known_none [] i = refl
known_none (x ∷ xs) zero = refl
known_none (x ∷ xs) (suc i) = known_none xs i

none_at : (n k : ℕ) → read_at (replicate n 4294967295) k ≡ None
none_at zero k = refl
none_at (suc n) zero = refl
none_at (suc n) (suc k) = none_at n k

replicate_length : (n : ℕ) → length {A = ℕ} (replicate n 4294967295) ≡ n
replicate_length zero = refl
replicate_length (suc n) = ap suc (replicate_length n)

-- ---- entries of joined lists

pub got_left : {X : Type 0} (xs ys : List X) (i : ℕ) (x : X) → slice_get xs i ≡ Some x → slice_get (xs ++ ys) i ≡ Some x
got_left [] ys i x e = cc
got_left (z ∷ zs) ys zero x e = e
got_left (z ∷ zs) ys (suc i) x e = got_left zs ys i x e

got_left_below : {X : Type 0} (xs ys : List X) (i : ℕ) → i < length xs → slice_get (xs ++ ys) i ≡ slice_get xs i
got_left_below [] ys i h = absurd (omega arith)
got_left_below (z ∷ zs) ys zero h = refl
got_left_below (z ∷ zs) ys (suc i) h = got_left_below zs ys i (omega arith)

pub got_middle : {X : Type 0} (xs : List X) (y : X) (ys : List X) → slice_get (xs ++ y ∷ ys) (length xs) ≡ Some y
got_middle [] y ys = refl
got_middle (z ∷ zs) y ys = got_middle zs y ys

pub got_last : {X : Type 0} (xs : List X) (y x : X) (j : ℕ) → slice_get (xs ++ y ∷ []) j ≡ Some x → (slice_get xs j ≡ Some x) ⊎ ((j ≡ length xs) × (x ≡ y))
got_last [] y x zero e = inr (refl, (let s : y ≡ x = cc in sym s))
got_last [] y x (suc j) e = cc
got_last (z ∷ zs) y x zero e = inl e
got_last (z ∷ zs) y x (suc j) e = elim (got_last zs y x j e) [ inl f ↦ inl f | inr f ↦ inr (ap suc f.0, f.1) ]

pub below_length : {X : Type 0} (xs : List X) (i : ℕ) (x : X) → slice_get xs i ≡ Some x → i < length xs
below_length [] i x e = cc
below_length (z ∷ zs) zero x e = omega arith
below_length (z ∷ zs) (suc i) x e = let h = below_length zs i x e in omega arith

-- ---- the places of the classes

abbrev place_in : List Class → ℕ → Option ℕ
place_in cs k = position (λ c. nat_eq c.name k) cs

-- a table of the places of some classes
pub record IsTable (cs : List Class) (t : List ℕ) : Type 0 where
  pub is : (k : ℕ) → read_at t k ≡ place_in cs k

-- no two of these classes have one type
pub record IsApart (cs : List Class) : Type 0 where
  pub apart : (i j : ℕ) (c d : Class) → i < j → slice_get cs i ≡ Some c → slice_get cs j ≡ Some d → c.name ≡ d.name → ⊥

none_here : (cs : List Class) (i k : ℕ) (c : Class) → place_in cs k ≡ None → slice_get cs i ≡ Some c → c.name ≡ k → ⊥
none_here cs i k c e f n = let r = place_first (λ d. nat_eq d.name k) cs i c f (number_test c.name k n) in let s : None ≡ Some r.place = sym e ∙ r.is in cc

apart_snoc : (cs : List Class) (c : Class) → IsApart cs → place_in cs c.name ≡ None → IsApart (cs ++ c ∷ [])
apart_snoc cs c h e = record { apart = λ i j a b l f g n. by_last i j a b l f n (got_last cs c b j g) }
  where
    by_first : (i : ℕ) (a b : Class) → b ≡ c → a.name ≡ b.name → (slice_get cs i ≡ Some a) ⊎ ((i ≡ length cs) × (a ≡ c)) → i < length cs → ⊥
    by_first i a b s n (inl f) l = none_here cs i c.name a e f (n ∙ ap (λ x. x.name) s)
    by_first i a b s n (inr f) l = let z = f.0 in omega arith

    by_last : (i j : ℕ) (a b : Class) → i < j → slice_get (cs ++ c ∷ []) i ≡ Some a → a.name ≡ b.name → (slice_get cs j ≡ Some b) ⊎ ((j ≡ length cs) × (b ≡ c)) → ⊥
    by_last i j a b l f n (inl g) = elim (got_last cs c a i f) [
      | inl k ↦ h.apart i j a b l k g n
      | inr k ↦ (let z = k.0 in let m = below_length cs j b g in omega arith)
    ]
    by_last i j a b l f n (inr g) = by_first i a b g.1 n (got_last cs c a i f) (let z = g.0 in omega arith)

table_snoc : (cs : List Class) (c : Class) (t : List ℕ) (n : ℕ) → IsTable cs t → n ≡ length cs → c.name < length t → n < 2 ^ 32 - 1 → place_in cs c.name ≡ None → IsTable (cs ++ c ∷ []) (slice_set t c.name n)
table_snoc cs c t n h e within small none = record { is = λ k. by_test k (nat_eq c.name k) refl ∙ sym (position_snoc (λ d. nat_eq d.name k) cs c) }
  where
    by_test : (k : ℕ) (b : Bool) → nat_eq c.name k ≡ b → read_at (slice_set t c.name n) k ≡ option_or (place_in cs k) (cond (nat_eq c.name k) (Some (length cs)) None)
    by_test k true f =
        let s = number_of c.name k f in
        ap (λ i. read_at (slice_set t c.name n) i) (sym s) ∙ ap known (got_same t c.name n within) ∙ known_small n small ∙ ap (λ x. Some x) e
        ∙ sym (ap (λ o. option_or o (cond (nat_eq c.name k) (Some (length cs)) None)) (ap (place_in cs) (sym s) ∙ none) ∙ ap (λ b. cond b (Some (length cs)) None) f)
    by_test k false f =
        ap known (got_other t c.name n k (λ s. true≢false (sym (number_test c.name k s) ∙ f))) ∙ h.is k ∙ or_none (place_in cs k)
        ∙ sym (ap (λ b. option_or (place_in cs k) (cond b (Some (length cs)) None)) f)
      where
        or_none : (o : Option ℕ) → o ≡ option_or o None
        or_none None = refl
        or_none (Some x) = refl

-- ---- the whole table

-- a class that has the type of one in front of it
pub record Repeats (all : List Class) (j : ℕ) : Type 0 where
  pub front : List Class
  pub class : Class
  pub back : List Class
  pub is : all ≡ front ++ class ∷ back
  pub at : length front ≡ j
  pub apart : IsApart front
  pub earlier : ℕ
  pub seen : place_in front class.name ≡ Some earlier

pub record Placed (all : List Class) (t : List ℕ) : Type 0 where
  pub table : IsTable all t
  pub apart : IsApart all

abbrev pub Outcome : List Class → Result (List ℕ) ℕ → Type 0
Outcome all (Ok t) = Placed all t
Outcome all (Err j) = Repeats all j

all_placed : (before cs : List Class) (t : List ℕ) (n : ℕ) → n ≡ length before → IsTable before t → IsApart before → ((i : ℕ) (c : Class) → slice_get cs i ≡ Some c → c.name < length t)
    → n + length cs < 2 ^ 32 → Outcome (before ++ cs) (place_from n cs t)
all_placed before [] t n e h a fit small = subst (λ l. Placed l t) (sym (append-nil before)) (record { table = h; apart = a })
all_placed before (c ∷ cs) t n e h a fit small = by_entry (read_at t c.name) refl (all_placed (before ++ c ∷ []) cs (slice_set t c.name n) (suc n))
  where
    lengths : suc n ≡ length (before ++ c ∷ [])
    lengths = let l = length-append before (c ∷ []) in omega arith

    by_entry : (o : Option ℕ) → read_at t c.name ≡ o
        → (suc n ≡ length (before ++ c ∷ []) → IsTable (before ++ c ∷ []) (slice_set t c.name n) → IsApart (before ++ c ∷ []) → ((i : ℕ) (d : Class) → slice_get cs i ≡ Some d → d.name < length (slice_set t c.name n))
        → suc n + length cs < 2 ^ 32 → Outcome ((before ++ c ∷ []) ++ cs) (place_from (suc n) cs (slice_set t c.name n)))
        → Outcome (before ++ c ∷ cs) (cond (is_some (read_at t c.name)) (Err n) (place_from (suc n) cs (slice_set t c.name n)))
    by_entry (Some j) f more = subst (λ b. Outcome (before ++ c ∷ cs) (cond b (Err n) (place_from (suc n) cs (slice_set t c.name n)))) (sym (ap is_some f))
        (record { front = before; class = c; back = cs; is = refl; at = sym e; apart = a; earlier = j; seen = sym (h.is c.name) ∙ f })
    by_entry None f more = subst (λ b. Outcome (before ++ c ∷ cs) (cond b (Err n) (place_from (suc n) cs (slice_set t c.name n)))) (sym (ap is_some f))
        (subst (λ l. Outcome l (place_from (suc n) cs (slice_set t c.name n))) (append_assoc before (c ∷ []) cs)
        (more lengths (table_snoc before c t n h e (fit 0 c refl) (omega arith) (sym (h.is c.name) ∙ f)) (apart_snoc before c a (sym (h.is c.name) ∙ f))
        (λ i d g. subst (λ m. d.name < m) (sym (set_length t c.name n)) (fit (suc i) d g)) (omega arith)))

pub placing_outcome : (p : Program) → is_well_formed p ≡ true → Outcome p.classes (placing p)
placing_outcome p h = all_placed [] p.classes (replicate (length p.types) 4294967295) 0 refl
    (record { is = λ k. none_at (length p.types) k ∙ refl }) (record { apart = λ i j c d l e f n. cc })
    (λ i c e. subst (λ m. c.name < m) (sym (replicate_length (length p.types))) (class_parts p (sound p h) i c e).name)
    (let few = few_classes p h in omega arith)

-- ---- what is said of a program

pub none_twice : (p : Program) → IsApart p.classes → (class : ℕ) → IsTwice p class → ⊥
none_twice p a class t = a.apart t.earlier class t.one t.other t.before t.is_one t.is_other t.same

pub first_twice : (p : Program) (class : ℕ) → Repeats p.classes class → IsFirstTwice p class
first_twice p class r =
    let f = place_entry (λ c. nat_eq c.name r.class.name) r.front r.earlier r.seen in
    let within = below_length r.front r.earlier f.entry f.is in
    record {
      twice = record {
        earlier = r.earlier;
        before = (let z = r.at in omega arith);
        one = f.entry;
        other = r.class;
        is_one = ap (λ l. slice_get l r.earlier) r.is ∙ got_left r.front (r.class ∷ r.back) r.earlier f.entry f.is;
        is_other = ap (λ l. slice_get l class) r.is ∙ ap (slice_get (r.front ++ r.class ∷ r.back)) (sym r.at) ∙ got_middle r.front r.class r.back;
        same = number_of f.entry.name r.class.name f.passes;
      };
      first = λ other l t. r.apart.apart t.earlier other t.one t.other t.before
          (sym (got_left_below r.front (r.class ∷ r.back) t.earlier (let z = r.at in let b = t.before in omega arith)) ∙ ap (λ l. slice_get l t.earlier) (sym r.is) ∙ t.is_one)
          (sym (got_left_below r.front (r.class ∷ r.back) other (let z = r.at in omega arith)) ∙ ap (λ l. slice_get l other) (sym r.is) ∙ t.is_other) t.same;
    }

-- ---- what stands directly above

module _ (p : Program) (t : List ℕ) (h : (k : ℕ) → read_at t k ≡ class_place p k) where
  pub supers_are : (c : ℕ) → read_at (map (λ d. slice_index_or t d.superclass 4294967295) p.classes) c ≡ super_place p c
  supers_are c = ap known (slice_get-map (λ d. slice_index_or t d.superclass 4294967295) p.classes c) ∙ by_class (slice_get p.classes c)
    where
      by_class : (o : Option Class) → known (option_map (λ d. slice_index_or t d.superclass 4294967295) o) ≡ option_and_then (λ d. class_place p d.superclass) o
      by_class None = refl
      by_class (Some d) = known_none t d.superclass ∙ h d.superclass

  known_are : (ks : List ℕ) → known_places t ks ≡ places_of p ks
  known_are [] = refl
  known_are (k ∷ ks) = ap (λ o. placed o (known_places t ks)) (h k) ∙ ap (placed (class_place p k)) (known_are ks)

  pub lists_are : (c : ℕ) → row_of (map (λ d. known_places t d.interfaces) p.classes) c ≡ interface_places p c
  lists_are c = ap row_or_empty (slice_get-map (λ d. known_places t d.interfaces) p.classes c) ∙ by_class (slice_get p.classes c)
    where
      by_class : (o : Option Class) → row_or_empty (option_map (λ d. known_places t d.interfaces) o) ≡ listed p o
      by_class None = refl
      by_class (Some d) = known_are d.interfaces

pub mapped_length : {A B : Type 0} (f : A → B) (xs : List A) → length (map f xs) ≡ length xs
mapped_length f [] = refl
mapped_length f (x ∷ xs) = ap suc (mapped_length f xs)

-- the tables that are made are those of the program
pub record Fits (p : Program) (s : Shape) : Type 0 where
  pub once : (class : ℕ) → IsTwice p class → ⊥
  pub places : (kind : ℕ) → read_at s.places.items kind ≡ class_place p kind
  pub supers : (class : ℕ) → read_at s.supers.items class ≡ super_place p class
  pub lists : (class : ℕ) → row_of s.lists.rows class ≡ interface_places p class
  pub count : length s.supers.items ≡ length p.classes
  pub ranked : IsRanked p

pub long_by : (p : Program) (table : List ℕ) → length (supers_by table p) ≡ length p.classes
long_by p table = mapped_length (λ c. slice_index_or table c.superclass 4294967295) p.classes

pub made_fits : (p : Program) (s : Shape) → is_well_formed p ≡ true → IsMade p s → Fits p s
made_fits p s h m =
    let r : Placed p.classes s.places.items = subst (Outcome p.classes) (m.places (few_classes p h)) (placing_outcome p h) in
    let long : length s.supers.items ≡ length p.classes = ap length m.supers ∙ long_by p s.places.items in
    let ups_are : (c : ℕ) → read_at s.supers.items c ≡ super_place p c = λ c. ap (λ t. read_at t c) m.supers ∙ supers_are p s.places.items r.table.is c in
    let rows_are : (c : ℕ) → row_of s.lists.rows c ≡ interface_places p c = λ c. ap (λ t. row_of t c) m.lists ∙ lists_are p s.places.items r.table.is c in
    record {
      once = none_twice p r.apart;
      places = r.table.is;
      supers = ups_are;
      lists = rows_are;
      count = long;
      ranked = ranked_by p s.supers.items s.lists.rows ups_are rows_are long s.order.items (m.order (let few = few_classes p h in omega (arith, few, long)));
    }

-- ---- what is made, and what is refused

pub filled : (p : Program) (s : Shape) (r : Result Hierarchy HierarchyFault) → is_well_formed p ≡ true → IsMade p s → IfOk r (λ h. h.shape ≡ s) → IfOk r (λ h. IsNamed p h.named) → IfOk r (λ h. IsOf p h)
filled p s (Err e) h m k n = k
filled p s (Ok x) h m k n = let f = made_fits p x.shape h (subst (IsMade p) (sym k) m) in record { once = f.once; places = f.places; supers = f.supers; lists = f.lists; ranked = f.ranked; count = (let ok = x.shape.supers.ok in let l = f.count in omega arith); named = n }

pub refused : (p : Program) (s : Shape) (r : Result Hierarchy HierarchyFault) → is_well_formed p ≡ true → IsMade p s → IfErr r (λ f. IsSplitOr p f) → IfErr r (λ f. IsCause p f)
refused p s (Ok x) h m k = k
refused p s (Err NoMemory) h m k = tt
refused p s (Err (Cycle class)) h m k = absurd k
refused p s (Err (Twice class)) h m k = absurd k
refused p s (Err (SplitOverride class method)) h m k = let f = made_fits p s h m in record { once = f.once; acyclic = acyclic p f.once f.ranked; is = k }

pub stopped : (p : Program) (f : HierarchyFault) → is_well_formed p ≡ true → StopsAt p f → IsCause p f
stopped p NoMemory h k = tt
stopped p (Cycle class) h k =
    let r : Placed p.classes k.table = subst (Outcome p.classes) (k.is (few_classes p h)) (placing_outcome p h) in
    record {
      once = none_twice p r.apart;
      is = first_cycle p (supers_by k.table p) (lists_by k.table p) (supers_are p k.table r.table.is) (lists_are p k.table r.table.is) (long_by p k.table) (none_twice p r.apart) class (k.first (few_classes p h));
    }
stopped p (Twice class) h k = first_twice p class (let r : Repeats p.classes class = subst (Outcome p.classes) (k (few_classes p h)) (placing_outcome p h) in r)
stopped p (SplitOverride class method) h k = absurd (k (few_classes p h))

pub stopping : (p : Program) (f : HierarchyFault) (types : ℕ) (classes : List Class) → types ≡ length p.types → classes ≡ p.classes
    → (length classes < 2 ^ 32 → IsTwiceOr (place_from 0 classes (replicate types 4294967295)) f) → StopsAt p f
stopping p f types classes e d h = by_fault f (subst (λ n. length p.classes < 2 ^ 32 → IsTwiceOr (place_from 0 p.classes (replicate n 4294967295)) f) e
    (subst (λ cs. length cs < 2 ^ 32 → IsTwiceOr (place_from 0 cs (replicate types 4294967295)) f) d h))
  where
    by_fault : (f : HierarchyFault) → (length p.classes < 2 ^ 32 → IsTwiceOr (placing p) f) → StopsAt p f
    by_fault NoMemory h = tt
    by_fault (Twice class) h = h
    by_fault (Cycle class) h = record { table = []; is = λ l. absurd (h l); first = λ l. absurd (h l) }
    by_fault (SplitOverride class method) h = h
