-- The entries of lists in values and annotations that are read are counted.
use Rattle.std.proofs.Common.{◌≡◌, ℕ, zero, suc, ◌+◌, ◌-◌, ◌*◌, ◌/◌, ◌%◌, ◌≤◌, Bool, true, false, cond, ltb, leb, List, [], ◌∷◌, length, Result, Ok, Err, refl, sym, ap, subst, arith}
use Rattle.std.specs.Prelude.{◌==◌, sum_by}
use Rattle.std.specs.Int.{w32}
use Rattle.std.proofs.lemmas.Bool.{leb-true}
use Rattle.std.proofs.lemmas.List.Sums.{sum_by-cons}
use Rattle.dex_base.specs.Reading.{raise}
use Rattle.dex_base.proofs.Decides.{not_both}
use Rattle.program_model.specs.Items.{element_items, note_items, layer_items, value_items, mark_items, marks_items}
use Rattle.program_model.specs.declared.limits.Counted.TheVariants.{Items}
use Rattle.program_model.specs.declared.program.Program.{Program}
use Rattle.program_model.specs.declared.value.EncValue.{EncValue, EncValue-F, out-EncValue, roll-EncValue, out-roll-EncValue}
use Rattle.program_model.specs.declared.value.EncValue.TheOpen as layer
use Rattle.program_model.specs.declared.value.EncValue.TheVariants as value
use Rattle.program_model.specs.declared.value.Element.{Element}
use Rattle.program_model.specs.declared.value.Note.{Note, Note-F, roll-Note, out-roll-Note}
use Rattle.dex_pools.specs.Items.{spend, count_at, listed_at, type_list_at}
use Rattle.dex_pools.specs.Marks.{mark_below, mark_at, marked_at, marks_at, parameter_at, parameters_marks_at}
use Rattle.dex_pools.specs.Order.{ascends_in}
use Rattle.dex_pools.specs.Run.{run}
use Rattle.dex_pools.specs.Value.{byte_at, few_at, number_index_at, numeric, naming, size_for, scalar_at, zero_extended, counted, array_in, element_below, element_in, note_in, of_kind, value_in, value_at, whole_note_at}
use Rattle.dex_pools.specs.Word.{word_at, half_index_at, number_at}
use Rattle.dex_pools.specs.declared.fault.PoolFault.{PoolFault}
use Rattle.dex_pools.specs.declared.fault.Table.TheVariants.{Members}
use Rattle.dex_pools.specs.declared.scalar.TableSizes.{TableSizes}
use Rattle.dex_read.specs.Directory.{set_at, sets_at}
use Rattle.dex_read.specs.Faults.{of_pool}
use Rattle.dex_read.specs.Tables.{sizes_in}
use Rattle.read_laws.proofs.Yielding as yields
use Rattle.read_laws.proofs.Yielding.{Yields, made, after, either}

-- ---- readings

pub more : {Y F : Type 0} {Is Is' : Y → Type 0} {read : Result Y F} → Yields Is read → ((y : Y) → Is y → Is' y) → Yields Is' read
more d to = record { found = λ y h. to y (d.found y h) }

pub none : {Y F : Type 0} {Is : Y → Type 0} (e : F) → Yields Is (Err e)
none e = record { found = λ y h. absurd (not_both e y h) }

pub tested : {Y F : Type 0} {Is : Y → Type 0} {read : Result Y F} (b : Bool) (e : F) → (b ≡ true → Yields Is read) → Yields Is (cond b read (Err e))
tested true e d = d refl
tested false e d = none e

pub lifted : {Y F G : Type 0} {Is : Y → Type 0} {read : Result Y F} (up : F → G) → Yields Is read → Yields Is (raise up read)
lifted {Is = Is} {read = Ok x} up d = made x (d.found x refl)
lifted {read = Err e} up d = none (up e)

pub spend_leaves : (count left : ℕ) → Yields (λ n. count + n ≤ left) (spend Items count left)
unfolding spend
spend_leaves count left = tested (leb count left) _ (λ h. let le : count ≤ left = leb-true count left h in made (left - count) (omega (arith, le)))

-- entries one behind another, each of which leaves so much less
pub run_spends : {X S F : Type 0} (weight : X → ℕ) (left : S → ℕ) (f : ℕ → S → Result (X × S) F) → ((i : ℕ) (s : S) → Yields (λ r. weight r.0 + left r.1 ≤ left s) (f i s)) → (from n : ℕ) (s : S)
    → Yields (λ r. sum_by weight r.0 + left r.1 ≤ left s) (run f from n s)
run_spends weight left f h from zero s = made ([], s) (omega arith)
run_spends weight left f h from (suc n) s = after (h from s) (λ x one. after (run_spends weight left f h (suc from) n x.1) (λ xs rest.
    made (x.0 ∷ xs.0, xs.1) (omega (arith, one, rest, sum_by-cons weight x.0 xs.0))))

-- entries that count themselves
pub each_counted : {X : Type 0} (items : X → ℕ) (xs : List X) → length xs + sum_by items xs ≡ sum_by (λ x. suc (items x)) xs
each_counted items [] = omega arith
each_counted items (x ∷ xs) = omega (arith, each_counted items xs, sum_by-cons items x xs, sum_by-cons (λ y. suc (items y)) x xs)

pub ones : {X : Type 0} (xs : List X) → sum_by (λ x. 1) xs ≡ length xs
ones [] = omega arith
ones (x ∷ xs) = omega (arith, ones xs, sum_by-cons (λ y. 1) x xs)

-- ---- lists of types

type_spends : (bytes : List ℕ) (at size i left : ℕ) → Yields (λ r. 1 + r.1 ≤ left) (listed_at bytes at size i left)
unfolding listed_at
type_spends bytes at size i left = after (spend_leaves 1 left) (λ behind one. yields.past (half_index_at bytes (at + 4 + 2 * i) size) (λ kind. made (kind, behind) one))

pub types_spend : (bytes : List ℕ) (at size left : ℕ) → Yields (λ r. length r.0 + r.1 ≤ left) (type_list_at bytes at size left)
unfolding type_list_at
types_spend bytes at size left = yields.past (count_at bytes at 2) (λ count.
    more (run_spends (λ x. 1) (λ s. s) (listed_at bytes at size) (type_spends bytes at size) 0 count left) (λ r h. omega (arith, h, ones r.0)))

-- ---- values without values in them

weighed : (items : EncValue → ℕ) (x : EncValue-F EncValue Element Note) (v : EncValue) → roll-EncValue x ≡ v → layer_items items (out-EncValue v) ≡ layer_items items x
weighed items x v e = subst (λ w. layer_items items (out-EncValue w) ≡ layer_items items x) e (ap (layer_items items) (out-roll-EncValue x))

abbrev Light : (EncValue → ℕ) → EncValue → Type 0
Light items v = layer_items items (out-EncValue v) ≡ 0

pick : (T : EncValue → Type 0) (b : Bool) (x y : EncValue) → T x → T y → T (cond b x y)
pick T true x y h g = h
pick T false x y h g = g

numbers : (items : EncValue → ℕ) (kind : ℕ) (few : List ℕ) → Light items (numeric kind few)
numbers items kind few = pick (Light items) _ _ _ (weighed items _ _ (value.rolls-Byte _))
    (pick (Light items) _ _ _ (weighed items _ _ (value.rolls-Short _))
    (pick (Light items) _ _ _ (weighed items _ _ (value.rolls-Char _))
    (pick (Light items) _ _ _ (weighed items _ _ (value.rolls-Int _))
    (pick (Light items) _ _ _ (weighed items _ _ (value.rolls-Long _))
    (pick (Light items) _ _ _ (weighed items _ _ (value.rolls-Float _)) (weighed items _ _ (value.rolls-Double _)))))))

names : (items : EncValue → ℕ) (kind n : ℕ) → Light items (naming kind n)
names items kind n = pick (Light items) _ _ _ (weighed items _ _ (value.rolls-Str n))
    (pick (Light items) _ _ _ (weighed items _ _ (value.rolls-Class n))
    (pick (Light items) _ _ _ (weighed items _ _ (value.rolls-Field n))
    (pick (Light items) _ _ _ (weighed items _ _ (value.rolls-Method n)) (weighed items _ _ (value.rolls-Enum n)))))

scalar_light : (items : EncValue → ℕ) (bytes : List ℕ) (sizes : TableSizes) (at kind count : ℕ) → Yields (Light items) (scalar_at bytes sizes at kind count)
unfolding scalar_at
scalar_light items bytes sizes at kind count = yields.past (few_at bytes at count) (λ few. either (ltb kind 23)
    (made (numeric kind few) (numbers items kind few))
    (tested (ltb (zero_extended w32 few) (size_for sizes kind)) _ (λ h. made (naming kind (zero_extended w32 few)) (names items kind (zero_extended w32 few)))))

-- ---- values in values

abbrev Inner : Type 0
Inner = ℕ × ℕ → Result (EncValue × (ℕ × ℕ)) PoolFault

abbrev AllSpend : (EncValue → ℕ) → Inner → Type 0
AllSpend items inner = (s : ℕ × ℕ) → Yields (λ r. items r.0 + r.1.1 ≤ s.1) (inner s)

abbrev left_of : ℕ × ℕ → ℕ
left_of s = s.1

module _ (items : EncValue → ℕ) (inner : Inner) (all : AllSpend items inner) (bytes : List ℕ) (sizes : TableSizes) where
  counted_spends : (i : ℕ) (s : ℕ × ℕ) → Yields (λ r. suc (items r.0) + r.1.1 ≤ s.1) (counted inner i s)
  counted_spends i s = after (spend_leaves 1 s.1) (λ behind one. more (all (s.0, behind)) (λ r h. omega (arith, one, h)))

  array_spends : (s : ℕ × ℕ) → Yields (λ r. length r.0 + sum_by items r.0 + r.1.1 ≤ s.1) (array_in inner bytes s)
  unfolding array_in
  array_spends s = yields.past (number_at bytes s.0) (λ count.
      more (run_spends (λ v. suc (items v)) left_of (counted inner) counted_spends 0 count.0 (count.1, s.1)) (λ r h. omega (arith, h, each_counted items r.0)))

  element_spends : (i : ℕ) (s : ℕ × ℕ) → Yields (λ r. suc (element_items items r.0) + r.1.1 ≤ s.1) (element_in inner bytes sizes i s)
  unfolding element_in
  element_spends i s = after (spend_leaves 1 s.1) (λ behind one. yields.past (number_index_at bytes s.0 sizes.strings) (λ name. after (all (name.1, behind)) (λ v h.
      made (record { name = name.0; value = v.0 }, v.1) (omega (arith, one, h)))))

  note_spends : (s : ℕ × ℕ) → Yields (λ r. note_items items r.0 + r.1.1 ≤ s.1) (note_in inner bytes sizes s)
  unfolding note_in
  note_spends s = yields.past (number_index_at bytes s.0 sizes.types) (λ class. yields.past (number_at bytes class.1) (λ count.
      after (run_spends (λ e. suc (element_items items e)) left_of (element_in inner bytes sizes) element_spends 0 count.0 (count.1, s.1)) (λ elements h.
      yields.past (ascends_in element_below Members elements.0) (λ order.
      made (roll-Note (record { class = class.0; elements = elements.0 }), elements.1)
      (subst (λ (n : Note-F EncValue Element Note). length n.elements + sum_by (element_items items) n.elements + elements.1.1 ≤ s.1) (sym (out-roll-Note (record { class = class.0; elements = elements.0 })))
      (omega (arith, h, each_counted (element_items items) elements.0)))))))

  kind_spends : (s : ℕ × ℕ) (kind argument : ℕ) → Yields (λ r. layer_items items (out-EncValue r.0) + r.1.1 ≤ s.1) (of_kind inner bytes sizes s kind argument)
  kind_spends s kind argument = either (kind == 28)
      (after (array_spends (s.0 + 1, s.1)) (λ r h.
      let w : layer_items items (out-EncValue (value.Array r.0)) ≡ length r.0 + sum_by items r.0 = weighed items (layer.Array r.0) _ (value.rolls-Array r.0) in
      made (value.Array r.0, r.1) (omega (arith, h, w))))
      (either (kind == 29)
      (after (note_spends (s.0 + 1, s.1)) (λ r h.
      let w : layer_items items (out-EncValue (value.Annotation r.0)) ≡ note_items items r.0 = weighed items (layer.Annotation r.0) _ (value.rolls-Annotation r.0) in
      made (value.Annotation r.0, r.1) (subst (λ (n : ℕ). n + r.1.1 ≤ s.1) (sym w) h)))
      (either (kind == 30)
      (let w : layer_items items (out-EncValue value.Null) ≡ 0 = weighed items layer.Null _ value.rolls-Null in
      made (value.Null, (s.0 + 1, s.1)) (omega (arith, w)))
      (either (kind == 31)
      (let w : layer_items items (out-EncValue (value.Bool (argument == 1))) ≡ 0 = weighed items (layer.Bool (argument == 1)) _ (value.rolls-Bool (argument == 1)) in
      made (value.Bool (argument == 1), (s.0 + 1, s.1)) (omega (arith, w)))
      (after (scalar_light items bytes sizes s.0 kind (argument + 1)) (λ v w. made (v, (s.0 + 1 + (argument + 1), s.1)) (omega (arith, w)))))))

  layer_spends : (s : ℕ × ℕ) → Yields (λ r. layer_items items (out-EncValue r.0) + r.1.1 ≤ s.1) (value_in inner bytes sizes s)
  unfolding value_in
  layer_spends s = yields.past (byte_at bytes s.0) (λ tag. tested _ _ (λ h. kind_spends s (tag % 32) (tag / 32)))

pub value_spends : (depth : ℕ) (bytes : List ℕ) (sizes : TableSizes) → AllSpend (value_items depth) (value_at depth bytes sizes)
value_spends zero bytes sizes s = none _
value_spends (suc depth) bytes sizes s = layer_spends (value_items depth) (value_at depth bytes sizes) (value_spends depth bytes sizes) bytes sizes s

-- ---- annotations

module _ (bytes : List ℕ) (sizes : TableSizes) where
  mark_spends : (at left : ℕ) → Yields (λ r. mark_items r.0 + r.1 ≤ left) (mark_at bytes sizes at left)
  unfolding mark_at whole_note_at mark_items
  mark_spends at left = yields.past (byte_at bytes at) (λ visibility. after (note_spends (value_items 64) (value_at 64 bytes sizes) (value_spends 64 bytes sizes) bytes sizes (at + 1, left)) (λ note h.
      made (record { visibility = visibility; note = note.0 }, note.1.1) h))

  marked_spends : (at i left : ℕ) → Yields (λ r. suc (mark_items r.0) + r.1 ≤ left) (marked_at bytes sizes at i left)
  unfolding marked_at
  marked_spends at i left = after (spend_leaves 1 left) (λ behind one. yields.past (word_at bytes (at + 4 + 4 * i)) (λ offset. more (mark_spends offset behind) (λ r h. omega (arith, one, h))))

  marks_spend : (at left : ℕ) → Yields (λ r. marks_items r.0 + r.1 ≤ left) (marks_at bytes sizes at left)
  unfolding marks_at
  marks_spend at left = yields.past (count_at bytes at 4) (λ count.
      after (run_spends (λ m. suc (mark_items m)) (λ s. s) (marked_at bytes sizes at) (marked_spends at) 0 count left) (λ marks h.
      yields.past (ascends_in mark_below Members marks.0) (λ order. made marks (omega (arith, h, each_counted mark_items marks.0)))))

  parameter_spends : (at i left : ℕ) → Yields (λ r. suc (marks_items r.0) + r.1 ≤ left) (parameter_at bytes sizes at i left)
  unfolding parameter_at
  parameter_spends at i left = after (spend_leaves 1 left) (λ behind one. yields.past (word_at bytes (at + 4 + 4 * i)) (λ offset. either (offset == 0)
      (made ([], behind) (omega (arith, one)))
      (more (marks_spend offset behind) (λ r h. omega (arith, one, h)))))

  parameters_spend : (at left : ℕ) → Yields (λ r. length r.0 + sum_by marks_items r.0 + r.1 ≤ left) (parameters_marks_at bytes sizes at left)
  unfolding parameters_marks_at
  parameters_spend at left = yields.past (count_at bytes at 4) (λ count.
      more (run_spends (λ ms. suc (marks_items ms)) (λ s. s) (parameter_at bytes sizes at) (parameter_spends at) 0 count left) (λ r h. omega (arith, h, each_counted marks_items r.0)))

pub set_spends : (bytes : List ℕ) (p : Program) (offset left : ℕ) → Yields (λ r. marks_items r.0 + r.1 ≤ left) (set_at bytes p offset left)
unfolding set_at
set_spends bytes p offset left = either (offset == 0) (made ([], left) (omega arith)) (lifted of_pool (marks_spend bytes (sizes_in p) offset left))

pub sets_spend : (bytes : List ℕ) (p : Program) (offset left : ℕ) → Yields (λ r. length r.0 + sum_by marks_items r.0 + r.1 ≤ left) (sets_at bytes p offset left)
unfolding sets_at
sets_spend bytes p offset left = either (offset == 0) (made ([], left) (omega arith)) (lifted of_pool (parameters_spend bytes (sizes_in p) offset left))
