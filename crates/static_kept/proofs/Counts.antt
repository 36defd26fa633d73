-- How many cells and items a program has in which methods are made static.
use Rattle.std.proofs.Common.{◌≡◌, ℕ, zero, suc, ◌+◌, ◌<◌, ◌≤◌, Bool, true, false, List, [], ◌∷◌, length, map, replicate, Option, Some, None, refl, sym, ap, ap₂, ◌∙◌, subst, arith}
use Rattle.std.specs.Prelude.{cond, slice_get, slice_set, sum_by}
use Rattle.std.proofs.lemmas.List.Sorted.{sum_by-IsPermutation}
use Rattle.std.proofs.lemmas.List.Sums.{sum_by-cons}
use Rattle.lemmas.proofs.Lists.{got_short}
use Rattle.lemmas.proofs.Options.{some_same}
use Rattle.program_model.specs.Cells.{body_cells, cells_of, class_cells, method_cells}
use Rattle.program_model.specs.Items.{body_items, class_items, fields_items, items_of, marks_items, method_items, proto_items}
use Rattle.program_model.specs.ProgramRules.{is_well_formed}
use Rattle.program_model.specs.declared.body.Body.{Body}
use Rattle.program_model.specs.declared.pools.Proto.{Proto}
use Rattle.program_model.specs.declared.program.Class.{Class}
use Rattle.program_model.specs.declared.program.Method.{Method}
use Rattle.program_model.specs.declared.program.Program.{Program}
use Rattle.program_model.specs.declared.value.Mark.{Mark}
use Rattle.class_defs.specs.ClassGraph.{IsTwice}
use Rattle.static_protos.specs.Tables.{Tables, is_marked, marks_more, place_or, proto_at, proto_more, proto_of, protos_with, tables_of, with_new}
use Rattle.static_protos.specs.declared.tables.Wanted.{Wanted}
use Rattle.loose_methods.proofs.Once.{Owns, number_once}
use Rattle.staticise.specs.Loosened.{AreEach, IsLoosenedClass, code_loosened, is_given, marks_loosened, method_loosened}
use Rattle.static_kept.proofs.Bodies.{cells_same}
use Rattle.static_kept.proofs.Lists.{sum_both, sum_end, sum_map}
use Rattle.static_kept.proofs.Methods.{method_by}
use Rattle.static_kept.proofs.Plans.{IsPlan}

-- ---- classes one by one

pub each_first : {A : Type 0} (R : A → A → Type 0) (x y : A) (xs ys : List A) → AreEach R (x ∷ xs) (y ∷ ys) → R x y
each_first R x y xs ys a = let r = a.each 0 x refl in subst (λ z. R x z) (sym (some_same y r.0 r.1)) r.2

pub each_rest : {A : Type 0} (R : A → A → Type 0) (x y : A) (xs ys : List A) → AreEach R (x ∷ xs) (y ∷ ys) → AreEach R xs ys
each_rest R x y xs ys a = record { long = (let l = a.long in omega (arith, l)); each = λ k z e. a.each (suc k) z e }

-- what each has by itself and more
pub each_sum : {A : Type 0} (R : A → A → Type 0) (f g : A → ℕ) → ((x y : A) → R x y → f y ≡ g x) → (xs ys : List A) → AreEach R xs ys → sum_by f ys ≡ sum_by g xs
each_sum R f g h [] [] a = refl
each_sum R f g h [] (y ∷ ys) a = let l = a.long in absurd (omega (arith, l))
each_sum R f g h (x ∷ xs) [] a = let l = a.long in absurd (omega (arith, l))
each_sum R f g h (x ∷ xs) (y ∷ ys) a =
    sum_by-cons f y ys ∙ ap₂ (λ m n. m + n) (h x y (each_first R x y xs ys a)) (each_sum R f g h xs ys (each_rest R x y xs ys a)) ∙ sym (sum_by-cons g x xs)

-- ---- cells

module _ (p q : Program) (wf : is_well_formed p ≡ true) (given : List (Option ℕ)) (plan : IsPlan p q given) where
  code_same : (o : Option Body) → (elim (code_loosened p given o) as (λ o. ℕ) [ Some body ↦ body_cells body | None ↦ 0 ]) ≡ (elim o as (λ o. ℕ) [ Some body ↦ body_cells body | None ↦ 0 ])
  code_same None = refl
  code_same (Some b) = cells_same p q wf plan.extends given plan.inside b

  method_same : (m : Method) → method_cells (method_loosened p given m) ≡ method_cells m
  method_same m = by (is_given given m.name)
    where
      by : (b : Bool) → method_cells (method_by p given b m) ≡ method_cells m
      by true = code_same m.body
      by false = code_same m.body

  class_same : (c d : Class) → IsLoosenedClass p given c d → class_cells d ≡ class_cells c
  class_same c d r = sum_by-IsPermutation method_cells (map (method_loosened p given) c.methods) d.methods r.methods ∙ sum_map (method_loosened p given) method_cells method_cells method_same c.methods

  pub cells_now : AreEach (IsLoosenedClass p given) p.classes q.classes → cells_of q ≡ cells_of p
  cells_now a = each_sum (IsLoosenedClass p given) class_cells class_cells class_same p.classes q.classes a

-- ---- items: a method that is made static and has annotations of parameters gets one more list of them

abbrev pub extra : List (Option ℕ) → Method → ℕ
extra given m = cond (is_given given m.name) (marks_more (is_marked m.parameter_marks)) 0

abbrev pub class_extra : List (Option ℕ) → Class → ℕ
class_extra given c = sum_by (extra given) c.methods

abbrev pub all_extra : List (Option ℕ) → List Class → ℕ
all_extra given cs = sum_by (class_extra given) cs

module _ (p : Program) (given : List (Option ℕ)) where
  code_items : (o : Option Body) → body_items (code_loosened p given o) ≡ body_items o
  code_items None = refl
  code_items (Some b) = refl

  lists_items : (mss : List (List Mark)) → length (marks_loosened mss) + sum_by marks_items (marks_loosened mss) ≡ (length mss + sum_by marks_items mss) + marks_more (is_marked mss)
  lists_items [] = refl
  lists_items (ms ∷ mss) =
      let a : sum_by marks_items ([] ∷ ms ∷ mss) ≡ 0 + sum_by marks_items (ms ∷ mss) = sum_by-cons marks_items [] (ms ∷ mss) in
      ap (λ n. suc (suc (length mss)) + n) a ∙ omega arith

  items_by : (b : Bool) (m : Method) → method_items (method_by p given b m) ≡ method_items m + cond b (marks_more (is_marked m.parameter_marks)) 0
  items_by true m =
      ap₂ (λ x y. (marks_items m.marks + x) + y) (lists_items m.parameter_marks) (code_items m.body)
      ∙ moved (marks_items m.marks) (length m.parameter_marks + sum_by marks_items m.parameter_marks) (marks_more (is_marked m.parameter_marks)) (body_items m.body)
    where
      moved : (a b c d : ℕ) → (a + (b + c)) + d ≡ ((a + b) + d) + c
      moved a b c d = omega arith
  items_by false m = ap (λ y. (marks_items m.marks + (length m.parameter_marks + sum_by marks_items m.parameter_marks)) + y) (code_items m.body) ∙ none (method_items m)
    where
      none : (n : ℕ) → n ≡ n + 0
      none n = omega arith

  method_more : (m : Method) → method_items (method_loosened p given m) ≡ method_items m + extra given m
  method_more m = items_by (is_given given m.name) m

  with_methods : (c : Class) (ms : List Method) (n : ℕ) → sum_by method_items ms ≡ sum_by method_items c.methods + n → class_items (record c { methods = ms }) ≡ class_items c + n
  unfolding class_items
  with_methods c ms n e =
      ap (λ k. length c.interfaces + marks_items c.marks + (fields_items c.fields + k)) e ∙ moved (length c.interfaces + marks_items c.marks) (fields_items c.fields) (sum_by method_items c.methods) n
    where
      moved : (a b c d : ℕ) → a + (b + (c + d)) ≡ (a + (b + c)) + d
      moved a b c d = omega arith

  class_more : (c d : Class) → IsLoosenedClass p given c d → class_items d ≡ class_items c + class_extra given c
  class_more c d r = ap class_items r.rest ∙ with_methods c d.methods (class_extra given c)
      (sum_by-IsPermutation method_items (map (method_loosened p given) c.methods) d.methods r.methods ∙ sum_map (method_loosened p given) method_items (λ m. method_items m + extra given m) method_more c.methods ∙ sum_both method_items (extra given) c.methods)

  pub classes_more : (xs ys : List Class) → AreEach (IsLoosenedClass p given) xs ys → sum_by class_items ys ≡ sum_by class_items xs + all_extra given xs
  classes_more xs ys a = each_sum (IsLoosenedClass p given) class_items (λ c. class_items c + class_extra given c) class_more xs ys a ∙ sum_both class_items (class_extra given) xs

-- ---- so many items were counted

pub record AreCounted (p : Program) (t : Tables) : Type 0 where
  pub are : sum_by proto_items t.protos + (sum_by class_items p.classes + all_extra t.given p.classes) ≤ t.items

none_given : (size n : ℕ) → is_given (replicate size None) n ≡ false
none_given zero n = refl
none_given (suc size) zero = refl
none_given (suc size) (suc n) = none_given size n

no_extra : (size : ℕ) (ms : List Method) → sum_by (extra (replicate size None)) ms ≡ 0
no_extra size [] = refl
no_extra size (m ∷ ms) =
    let a : extra (replicate size None) m ≡ 0 = ap (λ b. cond b (marks_more (is_marked m.parameter_marks)) 0) (none_given size m.name) in
    sum_by-cons (extra (replicate size None)) m ms ∙ ap₂ (λ x y. x + y) a (no_extra size ms)

none_extra : (size : ℕ) (cs : List Class) → all_extra (replicate size None) cs ≡ 0
none_extra size [] = refl
none_extra size (c ∷ cs) = sum_by-cons (class_extra (replicate size None)) c cs ∙ ap₂ (λ x y. x + y) (no_extra size c.methods) (none_extra size cs)

pub first_counted : (p : Program) → AreCounted p (tables_of p)
unfolding items_of
first_counted p = record { are = (let z = none_extra (length p.methods) p.classes in by (sum_by proto_items p.protos) (sum_by class_items p.classes) (all_extra (replicate (length p.methods) None) p.classes) z) }
  where
    by : (a b c : ℕ) → c ≡ 0 → a + (b + c) ≤ a + b
    by a b c e = omega (arith, e)

-- ---- a number that is given

set_other : (xs : List (Option ℕ)) (x n : ℕ) (o : Option ℕ) → (x ≡ n → ⊥) → is_given (slice_set xs x o) n ≡ is_given xs n
set_other [] x n o h = refl
set_other (y ∷ xs) zero zero o h = absurd (h refl)
set_other (y ∷ xs) zero (suc n) o h = refl
set_other (y ∷ xs) (suc x) zero o h = refl
set_other (y ∷ xs) (suc x) (suc n) o h = set_other xs x n o (λ e. h (ap suc e))

module _ (p : Program) (wf : is_well_formed p ≡ true) (once : (class : ℕ) → IsTwice p class → ⊥) (given : List (Option ℕ)) (o : Option ℕ) (place i : ℕ) (k : Class) (m : Method) (owns : Owns p place k i m) where
  abbrev new : List (Option ℕ)
  new = slice_set given m.name o

  abbrev one : ℕ
  one = marks_more (is_marked m.parameter_marks)

  extra_other : (x : Method) → (m.name ≡ x.name → ⊥) → extra new x ≡ extra given x
  extra_other x h = ap (λ b. cond b (marks_more (is_marked x.parameter_marks)) 0) (set_other given m.name x.name o h)

  extra_here : extra new m ≤ extra given m + one
  extra_here = by (is_given new m.name) (is_given given m.name)
    where
      by : (a b : Bool) → cond a one 0 ≤ cond b one 0 + one
      by true true = omega arith
      by true false = omega arith
      by false true = omega arith
      by false false = omega arith

  -- methods that stand elsewhere
  others : (c start : ℕ) (u : Class) (ms : List Method) → slice_get p.classes c ≡ Some u → ((j : ℕ) (x : Method) → slice_get ms j ≡ Some x → slice_get u.methods (j + start) ≡ Some x)
      → ((j : ℕ) → j < length ms → (place ≡ c) × (i ≡ j + start) → ⊥) → sum_by (extra new) ms ≡ sum_by (extra given) ms
  others c start u [] is_class there away = refl
  others c start u (x ∷ ms) is_class there away =
      let here : slice_get u.methods start ≡ Some x = ap (slice_get u.methods) (let z : start ≡ 0 + start = omega arith in z) ∙ there 0 x refl in
      let a = extra_other x (λ s. let r = number_once p wf once place c i start k u m x owns (record { is_class = is_class; is_method = here }) s in away 0 (omega arith) (r.class, r.place ∙ (let z : start ≡ 0 + start = omega arith in z))) in
      let b = others c (suc start) u ms is_class (λ j y f. ap (slice_get u.methods) (let z : j + suc start ≡ suc j + start = omega arith in z) ∙ there (suc j) y f)
      (λ j lt s. away (suc j) (omega (arith, lt)) (s.0, s.1 ∙ (let z : j + suc start ≡ suc j + start = omega arith in z))) in
      sum_by-cons (extra new) x ms ∙ ap₂ (λ y z. y + z) a b ∙ sym (sum_by-cons (extra given) x ms)

  -- those of its class, up to which it stands at this place
  own_class : (start at : ℕ) (ms : List Method) → i ≡ at + start → at < length ms → ((j : ℕ) (x : Method) → slice_get ms j ≡ Some x → slice_get k.methods (j + start) ≡ Some x) → sum_by (extra new) ms ≤ sum_by (extra given) ms + one
  own_class start at [] is lt there = absurd (omega (arith, lt))
  own_class start zero (x ∷ ms) is lt there =
      let here : slice_get k.methods start ≡ Some x = ap (slice_get k.methods) (let z : start ≡ 0 + start = omega arith in z) ∙ there 0 x refl in
      let same : m ≡ x = some_same m x (sym owns.is_method ∙ ap (slice_get k.methods) (is ∙ (let z : 0 + start ≡ start = omega arith in z)) ∙ here) in
      let a : extra new x ≤ extra given x + one = subst (λ y. extra new y ≤ extra given y + one) same extra_here in
      let b : sum_by (extra new) ms ≡ sum_by (extra given) ms =
      others place (suc start) k ms owns.is_class (λ j y f. ap (slice_get k.methods) (let z : j + suc start ≡ suc j + start = omega arith in z) ∙ there (suc j) y f) (λ j l s. let z = s.1 in omega (arith, z, is)) in
      let c = sum_by-cons (extra new) x ms in
      let d = sum_by-cons (extra given) x ms in
      omega (arith, a, b, c, d)
  own_class start (suc at) (x ∷ ms) is lt there =
      let here : slice_get k.methods start ≡ Some x = ap (slice_get k.methods) (let z : start ≡ 0 + start = omega arith in z) ∙ there 0 x refl in
      let a = extra_other x (λ s. let r = number_once p wf once place place i start k k m x owns (record { is_class = owns.is_class; is_method = here }) s in let z = r.place in omega (arith, z, is)) in
      let b = own_class (suc start) at ms (is ∙ (let z : suc at + start ≡ at + suc start = omega arith in z)) (omega (arith, lt)) (λ j y f. ap (slice_get k.methods) (let z : j + suc start ≡ suc j + start = omega arith in z) ∙ there (suc j) y f) in
      let c = sum_by-cons (extra new) x ms in
      let d = sum_by-cons (extra given) x ms in
      omega (arith, a, b, c, d)

  class_here : class_extra new k ≤ class_extra given k + one
  class_here = own_class 0 i k.methods (let z : i ≡ i + 0 = omega arith in z) (got_short k.methods i m owns.is_method) (λ j x f. ap (slice_get k.methods) (let z : j + 0 ≡ j = omega arith in z) ∙ f)

  class_other : (c : ℕ) (u : Class) → slice_get p.classes c ≡ Some u → (place ≡ c → ⊥) → class_extra new u ≡ class_extra given u
  class_other c u e h = others c 0 u u.methods e (λ j x f. ap (slice_get u.methods) (let z : j + 0 ≡ j = omega arith in z) ∙ f) (λ j lt s. h s.0)

  away_classes : (start : ℕ) (cs : List Class) → ((c : ℕ) (u : Class) → slice_get cs c ≡ Some u → slice_get p.classes (c + start) ≡ Some u) → ((c : ℕ) → c < length cs → place ≡ c + start → ⊥) → all_extra new cs ≡ all_extra given cs
  away_classes start [] there away = refl
  away_classes start (u ∷ cs) there away =
      let here : slice_get p.classes start ≡ Some u = ap (slice_get p.classes) (let z : start ≡ 0 + start = omega arith in z) ∙ there 0 u refl in
      let a = class_other start u here (λ s. away 0 (omega arith) (s ∙ (let z : start ≡ 0 + start = omega arith in z))) in
      let b = away_classes (suc start) cs (λ c x f. ap (slice_get p.classes) (let z : c + suc start ≡ suc c + start = omega arith in z) ∙ there (suc c) x f) (λ c lt s. away (suc c) (omega (arith, lt)) (s ∙ (let z : c + suc start ≡ suc c + start = omega arith in z))) in
      sum_by-cons (class_extra new) u cs ∙ ap₂ (λ y z. y + z) a b ∙ sym (sum_by-cons (class_extra given) u cs)

  own_classes : (start at : ℕ) (cs : List Class) → place ≡ at + start → at < length cs → ((c : ℕ) (u : Class) → slice_get cs c ≡ Some u → slice_get p.classes (c + start) ≡ Some u) → all_extra new cs ≤ all_extra given cs + one
  own_classes start at [] is lt there = absurd (omega (arith, lt))
  own_classes start zero (u ∷ cs) is lt there =
      let here : slice_get p.classes start ≡ Some u = ap (slice_get p.classes) (let z : start ≡ 0 + start = omega arith in z) ∙ there 0 u refl in
      let same : k ≡ u = some_same k u (sym owns.is_class ∙ ap (slice_get p.classes) (is ∙ (let z : 0 + start ≡ start = omega arith in z)) ∙ here) in
      let a : class_extra new u ≤ class_extra given u + one = subst (λ y. class_extra new y ≤ class_extra given y + one) same class_here in
      let b = away_classes (suc start) cs (λ c x f. ap (slice_get p.classes) (let z : c + suc start ≡ suc c + start = omega arith in z) ∙ there (suc c) x f) (λ c l s. omega (arith, s, is)) in
      let c = sum_by-cons (class_extra new) u cs in
      let d = sum_by-cons (class_extra given) u cs in
      omega (arith, a, b, c, d)
  own_classes start (suc at) (u ∷ cs) is lt there =
      let here : slice_get p.classes start ≡ Some u = ap (slice_get p.classes) (let z : start ≡ 0 + start = omega arith in z) ∙ there 0 u refl in
      let a = class_other start u here (λ s. omega (arith, s, is)) in
      let b = own_classes (suc start) at cs (is ∙ (let z : suc at + start ≡ at + suc start = omega arith in z)) (omega (arith, lt)) (λ c x f. ap (slice_get p.classes) (let z : c + suc start ≡ suc c + start = omega arith in z) ∙ there (suc c) x f) in
      let c = sum_by-cons (class_extra new) u cs in
      let d = sum_by-cons (class_extra given) u cs in
      omega (arith, a, b, c, d)

  pub given_more : all_extra new p.classes ≤ all_extra given p.classes + one
  given_more = own_classes 0 place p.classes (let z : place ≡ place + 0 = omega arith in z) (got_short p.classes place k owns.is_class) (λ c u f. ap (slice_get p.classes) (let z : c + 0 ≡ c = omega arith in z) ∙ f)

-- ---- one method more

proto_sum : (protos : List Proto) (x : Proto) (o : Option ℕ) → sum_by proto_items (protos_with protos x o) ≡ sum_by proto_items protos + proto_more x.parameters o
proto_sum protos x None = sum_end proto_items protos x
proto_sum protos x (Some i) = omega arith

pub more_counted : (p : Program) → is_well_formed p ≡ true → ((class : ℕ) → IsTwice p class → ⊥) → (t : Tables) (w : Wanted) (place i : ℕ) (k : Class) (m : Method) → Owns p place k i m → w.number ≡ m.name → w.marked ≡ is_marked m.parameter_marks
    → AreCounted p t → AreCounted p (with_new t w)
more_counted p wf once t w place i k m owns number marked a = record { are = all }
  where
    o : Option ℕ
    o = Some (place_or (length t.protos) (proto_at t w))

    extras : all_extra (slice_set t.given w.number o) p.classes ≤ all_extra t.given p.classes + marks_more w.marked
    extras =
        let z = given_more p wf once t.given o place i k m owns in
        let n : all_extra (slice_set t.given w.number o) p.classes ≡ all_extra (slice_set t.given m.name o) p.classes = ap (λ x. all_extra (slice_set t.given x o) p.classes) number in
        let g : marks_more w.marked ≡ marks_more (is_marked m.parameter_marks) = ap marks_more marked in
        omega (arith, z, n, g)

    all : sum_by proto_items (with_new t w).protos + (sum_by class_items p.classes + all_extra (with_new t w).given p.classes) ≤ (with_new t w).items
    all =
        let protos = proto_sum t.protos (proto_of t w) (proto_at t w) in
        added (sum_by proto_items (with_new t w).protos) (sum_by proto_items t.protos) (proto_more w.parameters (proto_at t w)) (sum_by class_items p.classes) (all_extra (with_new t w).given p.classes) (all_extra t.given p.classes) (marks_more w.marked) t.items protos extras a.are
      where
        added : (x x0 d c g g0 f n : ℕ) → x ≡ x0 + d → g ≤ g0 + f → x0 + (c + g0) ≤ n → x + (c + g) ≤ n + (d + f)
        added x x0 d c g g0 f n e l h = omega (arith, e, l, h)
