-- Classes that are left of a program's: none comes to be twice or its own ancestor.
use Rattle.std.proofs.Common.{◌≡◌, ◌∙◌, ℕ, zero, suc, ◌<◌, Bool, true, false, List, [], ◌∷◌, Some, map, refl, sym, ap, arith}
use Rattle.std.specs.Prelude.{◌||◌, nat_eq, slice_get, filter}
use Rattle.std.specs.List.{list_any}
use mathlib.Core.Bool.{cond}
use Rattle.program_model.specs.declared.program.Class.{Class}
use Rattle.program_model.specs.declared.program.Method.{Method}
use Rattle.program_model.specs.declared.program.Program.{Program}
use Rattle.call_graph.specs.declared.live_set.LiveSet.{LiveSet}
use Rattle.reach.specs.Kept.{is_marked, kept_in, live_classes}
use Rattle.class_defs.specs.ClassGraph.{IsTwice, IsAbove, StepsTo, IsAncestor}
use Rattle.program_laws.specs.Others.{Pairwise}
use Rattle.program_laws.specs.Numbered.{NumberedCodes, OtherNumberedMethod, OtherNumberedClass}

-- a method with the number and the flags of one that a class had
pub record HadMethod (c : Class) (m : Method) : Type 0 where
  pub place : ℕ
  pub method : Method
  pub there : slice_get c.methods place ≡ Some method
  pub name : m.name ≡ method.name
  pub flags : m.flags ≡ method.flags

-- a class with the same name, superclass and interfaces, and with methods that the class had
pub record SameHead (c d : Class) : Type 0 where
  pub name : d.name ≡ c.name
  pub superclass : d.superclass ≡ c.superclass
  pub interfaces : d.interfaces ≡ c.interfaces
  pub methods : (k : ℕ) (m : Method) → slice_get d.methods k ≡ Some m → HadMethod c m

-- some of the classes are left, in their order
pub data Part : List Class → List Class → Type 0 where
  Empty : Part [] []
  Stays : (d c : Class) (ds cs : List Class) → SameHead c d → Part ds cs → Part (d ∷ ds) (c ∷ cs)
  Goes : (c : Class) (ds cs : List Class) → Part ds cs → Part ds (c ∷ cs)

-- where one that is left stood
pub place : (ds cs : List Class) → Part ds cs → ℕ → ℕ
place ds cs Empty n = n
place ds cs (Stays d c es bs h r) zero = 0
place ds cs (Stays d c es bs h r) (suc n) = suc (place es bs r n)
place ds cs (Goes c es bs r) n = suc (place es bs r n)

pub rises : (ds cs : List Class) (r : Part ds cs) (i j : ℕ) → i < j → place ds cs r i < place ds cs r j
unfolding place
rises ds cs Empty i j h = h
rises ds cs (Stays d c es bs s r) zero zero h = absurd (omega arith)
rises ds cs (Stays d c es bs s r) zero (suc j) h = omega arith
rises ds cs (Stays d c es bs s r) (suc i) zero h = absurd (omega arith)
rises ds cs (Stays d c es bs s r) (suc i) (suc j) h = let k : place es bs r i < place es bs r j = rises es bs r i j (omega arith) in omega (arith, k)
rises ds cs (Goes c es bs r) i j h = let k : place es bs r i < place es bs r j = rises es bs r i j h in omega (arith, k)

-- the class that stood there
pub record Stood (cs : List Class) (n : ℕ) (d : Class) : Type 0 where
  pub class : Class
  pub there : slice_get cs n ≡ Some class
  pub head : SameHead class d

head_as : (c d e : Class) → d ≡ e → SameHead c d → SameHead c e
head_as c d e same h = record {
  name = ap (λ (x : Class). x.name) (sym same) ∙ h.name;
  superclass = ap (λ (x : Class). x.superclass) (sym same) ∙ h.superclass;
  interfaces = ap (λ (x : Class). x.interfaces) (sym same) ∙ h.interfaces;
  methods = λ k m g. h.methods k m (ap (λ (x : Class). slice_get x.methods k) same ∙ g);
}

pub stood : (ds cs : List Class) (r : Part ds cs) (i : ℕ) (d : Class) → slice_get ds i ≡ Some d → Stood cs (place ds cs r i) d
unfolding place
stood ds cs Empty i d e = cc
stood ds cs (Stays x c es bs h r) zero d e = let same : x ≡ d = cc in record { class = c; there = refl; head = head_as c x d same h }
stood ds cs (Stays x c es bs h r) (suc i) d e = let s : Stood bs (place es bs r i) d = stood es bs r i d e in record { class = s.class; there = s.there; head = s.head }
stood ds cs (Goes c es bs r) i d e = let s : Stood bs (place es bs r i) d = stood ds bs r i d e in record { class = s.class; there = s.there; head = s.head }

-- ---- what stands above

abbrev is_above_by : ℕ → List ℕ → ℕ → Bool
is_above_by superclass interfaces name = nat_eq superclass name || list_any (λ kind. nat_eq kind name) interfaces

module _ (p q : Program) (r : Part q.classes p.classes) where
  was : ℕ → ℕ
  was n = place q.classes p.classes r n

  twice_was : (class : ℕ) → IsTwice q class → IsTwice p (was class)
  unfolding was
  twice_was class t =
      let one : Stood p.classes (was t.earlier) t.one = stood q.classes p.classes r t.earlier t.one t.is_one in
      let other : Stood p.classes (was class) t.other = stood q.classes p.classes r class t.other t.is_other in
      record {
        earlier = was t.earlier;
        before = rises q.classes p.classes r t.earlier class t.before;
        one = one.class;
        other = other.class;
        is_one = one.there;
        is_other = other.there;
        same = sym one.head.name ∙ t.same ∙ other.head.name;
      }

  above_was : (class upper : ℕ) → IsAbove q class upper → IsAbove p (was class) (was upper)
  unfolding was
  above_was class upper a =
      let c : Stood p.classes (was class) a.c = stood q.classes p.classes r class a.c a.is_class in
      let u : Stood p.classes (was upper) a.u = stood q.classes p.classes r upper a.u a.is_upper in
      record {
        c = c.class;
        u = u.class;
        is_class = c.there;
        is_upper = u.there;
        names = sym (ap (λ (n : ℕ). is_above_by a.c.superclass a.c.interfaces n) u.head.name
            ∙ ap (λ (n : ℕ). is_above_by n a.c.interfaces u.class.name) c.head.superclass
            ∙ ap (λ (l : List ℕ). is_above_by c.class.superclass l u.class.name) c.head.interfaces) ∙ a.names;
      }

  steps_were : (class : ℕ) (mids : List ℕ) (upper : ℕ) → StepsTo (IsAbove q) class mids upper → StepsTo (IsAbove p) (was class) (map was mids) (was upper)
  steps_were class [] upper s = above_was class upper s
  steps_were class (m ∷ mids) upper s = (above_was class m s.0, steps_were m mids upper s.1)

  ancestor_was : (class upper : ℕ) → IsAncestor q class upper → IsAncestor p (was class) (was upper)
  ancestor_was class upper a = record { mids = map was a.mids; steps = steps_were class a.mids upper a.steps }

  pub still_once : ((class : ℕ) → IsTwice p class → ⊥) → (class : ℕ) → IsTwice q class → ⊥
  still_once once class t = once (was class) (twice_was class t)

  pub still_grounded : ((class : ℕ) → IsAncestor p class class → ⊥) → (class : ℕ) → IsAncestor q class class → ⊥
  still_grounded grounded class a = grounded (was class) (ancestor_was class class a)

-- ---- what is left

filter_had : (t : Method → Bool) (ms : List Method) (k : ℕ) (m : Method) → slice_get (filter t ms) k ≡ Some m → (j : ℕ) × (slice_get ms j ≡ Some m)
filter_had t [] k m h = cc
filter_had t (x ∷ xs) k m h = by (t x) k (λ (i : ℕ) (g : slice_get (filter t xs) i ≡ Some m). filter_had t xs i m g) h
  where
    by : (b : Bool) (k : ℕ) → ((i : ℕ) → slice_get (filter t xs) i ≡ Some m → (j : ℕ) × (slice_get xs j ≡ Some m)) → slice_get (cond b (x ∷ filter t xs) (filter t xs)) k ≡ Some m
        → (j : ℕ) × (slice_get (x ∷ xs) j ≡ Some m)
    by true zero rest h = (0, h)
    by true (suc k) rest h = let r : (j : ℕ) × (slice_get xs j ≡ Some m) = rest k h in (suc r.0, r.1)
    by false k rest h = let r : (j : ℕ) × (slice_get xs j ≡ Some m) = rest k h in (suc r.0, r.1)

kept_head : (s : LiveSet) (c : Class) → SameHead c (kept_in s c)
kept_head s c = record {
  name = refl;
  superclass = refl;
  interfaces = refl;
  methods = λ k m h. let r : (j : ℕ) × (slice_get c.methods j ≡ Some m) = filter_had (λ (m : Method). is_marked s.methods.items m.name) c.methods k m h in
      record { place = r.0; method = m; there = r.1; name = refl; flags = refl };
}

pub kept_part : (s : LiveSet) (cs : List Class) → Part (map (kept_in s) (live_classes s cs)) cs
kept_part s [] = Empty
kept_part s (c ∷ cs) = by (is_marked s.classes.items c.name) (kept_part s cs)
  where
    by : (b : Bool) → Part (map (kept_in s) (live_classes s cs)) cs → Part (map (kept_in s) (cond b (c ∷ live_classes s cs) (live_classes s cs))) (c ∷ cs)
    by true r = Stays (kept_in s c) c (map (kept_in s) (live_classes s cs)) cs (kept_head s c) r
    by false r = Goes c (map (kept_in s) (live_classes s cs)) cs r

module _ (N : NumberedCodes) (p : Program) where
  others_had : (c : Class) (ms ns : List Method) → Pairwise (OtherNumberedMethod N p c) ms ns → (k : ℕ) (n : Method) → slice_get ns k ≡ Some n
      → (m : Method) × (slice_get ms k ≡ Some m) × (n.name ≡ m.name) × (n.flags ≡ m.flags)
  others_had c [] [] r k n h = cc
  others_had c [] (y ∷ ys) r k n h = absurd r
  others_had c (x ∷ xs) [] r k n h = absurd r
  others_had c (x ∷ xs) (y ∷ ys) r zero n h = let same : y ≡ n = cc in (x, refl, sym (ap (λ (z : Method). z.name) same) ∙ ap (λ (z : Method). z.name) r.0.same, sym (ap (λ (z : Method). z.flags) same) ∙ ap (λ (z : Method). z.flags) r.0.same)
  others_had c (x ∷ xs) (y ∷ ys) r (suc k) n h = others_had c xs ys r.1 k n h

  other_head : (c d : Class) → OtherNumberedClass N p c d → SameHead c d
  other_head c d o = record {
    name = ap (λ (x : Class). x.name) o.same;
    superclass = ap (λ (x : Class). x.superclass) o.same;
    interfaces = ap (λ (x : Class). x.interfaces) o.same;
    methods = λ k n h. let had : (m : Method) × (slice_get c.methods k ≡ Some m) × (n.name ≡ m.name) × (n.flags ≡ m.flags) = others_had c c.methods d.methods o.methods k n h in
        record { place = k; method = had.0; there = had.1; name = had.2; flags = had.3 };
  }

  pub other_part : (cs ds : List Class) → Pairwise (OtherNumberedClass N p) cs ds → Part ds cs
  other_part [] [] r = Empty
  other_part [] (d ∷ ds) r = absurd r
  other_part (c ∷ cs) [] r = absurd r
  other_part (c ∷ cs) (d ∷ ds) r = Stays d c ds cs (other_head c d r.0) (other_part cs ds r.1)

-- with other methods of the same numbers and flags, one by one
module _ (g : Method → Method) (names : (m : Method) → (g m).name ≡ m.name) (flags : (m : Method) → (g m).flags ≡ m.flags) where
  mapped_had : (ms : List Method) (k : ℕ) (n : Method) → slice_get (map g ms) k ≡ Some n → (m : Method) × (slice_get ms k ≡ Some m) × (n.name ≡ m.name) × (n.flags ≡ m.flags)
  mapped_had [] k n h = cc
  mapped_had (x ∷ xs) zero n h = let same : g x ≡ n = cc in (x, refl, sym (ap (λ (z : Method). z.name) same) ∙ names x, sym (ap (λ (z : Method). z.flags) same) ∙ flags x)
  mapped_had (x ∷ xs) (suc k) n h = mapped_had xs k n h

  pub mapped_head : (c : Class) → SameHead c (record c { methods = map g c.methods })
  mapped_head c = record {
    name = refl;
    superclass = refl;
    interfaces = refl;
    methods = λ k n h. let had : (m : Method) × (slice_get c.methods k ≡ Some m) × (n.name ≡ m.name) × (n.flags ≡ m.flags) = mapped_had c.methods k n h in
        record { place = k; method = had.0; there = had.1; name = had.2; flags = had.3 };
  }

pub mapped_part : (f : Class → Class) → ((c : Class) → SameHead c (f c)) → (cs : List Class) → Part (map f cs) cs
mapped_part f same [] = Empty
mapped_part f same (c ∷ cs) = Stays (f c) c (map f cs) cs (same c) (mapped_part f same cs)
