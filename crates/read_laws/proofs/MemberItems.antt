-- The items of the members of a class that is read are counted.
use Rattle.std.proofs.Common.{◌≡◌, ℕ, zero, suc, ◌+◌, ◌-◌, ◌*◌, ◌≤◌, ◌<◌, Bool, true, false, cond, ltb, leb, List, [], ◌∷◌, ◌++◌, map, drop, length, Option, Some, None, Result, Ok, Err, refl, ap, ◌∙◌, arith}
use Rattle.std.specs.Prelude.{◌==◌, sum_by, is_some}
use Rattle.std.proofs.lemmas.Bool.{leb-true}
use Rattle.std.proofs.lemmas.List.Sums.{sum_by-cons}
use Rattle.std.specs.Result.{result_ok}
use Rattle.dex_base.specs.Word.{u16_at, u32_at}
use Rattle.insn_set.specs.declared.form.Insn.{Insn}
use Rattle.program_model.specs.Items.{marks_items, first_items_from, field_items, fields_items, region_items, rest_items, body_items, method_items}
use Rattle.program_model.specs.declared.body.Region.{Region}
use Rattle.program_model.specs.declared.body.Handler.{Handler}
use Rattle.program_model.specs.declared.program.Field.{Field}
use Rattle.program_model.specs.declared.program.Method.{Method}
use Rattle.program_model.specs.declared.program.Program.{Program}
use Rattle.program_model.specs.declared.value.EncValue.{EncValue}
use Rattle.code_read.specs.declared.fault.CodeFault.{CodeFault}
use Rattle.code_read.specs.declared.fault.CodeFault.TheVariants as fault
use Rattle.code_read.specs.declared.sizes.Sizes.{Sizes}
use Rattle.code_read.specs.Code.{check_targets, check_flow, check_places, placed, body, code_of}
use Rattle.code_read.specs.Code as code
use Rattle.code_read.specs.Decoded.{check_payloads, insns_of}
use Rattle.code_read.specs.Handlers.{◌>?=◌, has_list, rest_count, caught_count, caught_at}
use Rattle.code_read.specs.Positions.{count_below}
use Rattle.code_read.specs.Regions.{try_item, try_at, region, lies_right, with_handlers, region_of, region_at, keep, regions_from, regions_of}
use Rattle.code_read.specs.Sweep.{Places, sweep_of}
use Rattle.dex_pools.specs.Value.{whole_value_at}
use Rattle.dex_read.specs.Classes.{field_with, methods_of, marked_at, begun_at}
use Rattle.dex_read.specs.Code.{item_at, frame_at, units_at, body_at, sizes_for, of_code, kept_lines, lined_at, cells_with, method_with, coded_at, method_at}
use Rattle.dex_read.specs.Directory.{Marked, marked, named_at, with_marks, with_own_marks, with_parameter_marks, mark_field, mark_method, mark_parameters, directory_at}
use Rattle.dex_read.specs.Faults.{of_pool}
use Rattle.dex_read.specs.FirstValues.{first_of as first_value, with_first, give_first, firsts_at}
use Rattle.dex_read.specs.Header.{need_at}
use Rattle.dex_read.specs.Steps.{steps, for_each, change_at}
use Rattle.dex_read.specs.Tables.{sizes_in}
use Rattle.dex_read.specs.Word.{number_at, word_at}
use Rattle.dex_read.specs.declared.class_data.Listed.{Listed}
use Rattle.dex_read.specs.declared.class_data.Members.{Members}
use Rattle.dex_read.specs.declared.code.CodeItem.{CodeItem}
use Rattle.dex_read.specs.declared.members.Budget.{Budget}
use Rattle.line_tables.specs.Item.{lines_at}
use Rattle.read_laws.proofs.Spending.{none, tested, lifted, spend_leaves, value_spends, set_spends, sets_spend}
use Rattle.read_laws.proofs.Yielding as yields
use Rattle.read_laws.proofs.Yielding.{Yields, made, after, either}

-- ---- handlers

abbrev kept_items : Option Region → ℕ
kept_items None = 0
kept_items (Some r) = caught_count r.handlers r.rest

with_spends : (place first end left : ℕ) (o : Option (List Handler × Option ℕ)) → Yields (λ k. kept_items k ≤ left) (with_handlers place first end left o)
with_spends place first end left None = none _
with_spends place first end left (Some c) = tested (leb (caught_count c.0 c.1) left) _ (λ h. made (Some (region first end c.0 c.1)) (leb-true (caught_count c.0 c.1) left h))

item_spends : (lists : List ℕ) (types : ℕ) (places : Places) (place from left start count offset : ℕ) → Yields (λ k. kept_items k ≤ left) (region_of lists types places place from left (Some (try_item start count offset)))
item_spends lists types places place from left start count offset = either (ltb (count_below start places.starts) (count_below (start + count) places.starts))
    (tested (lies_right places (try_item start count offset) from) (fault.Region place) (λ _. tested (has_list lists offset) (fault.Handler place) (λ _.
    with_spends place (count_below start places.starts) (count_below (start + count) places.starts) left (caught_at lists places.starts types offset))))
    (made None (omega arith))

parts_spend : (lists : List ℕ) (types : ℕ) (places : Places) (place from left : ℕ) (a b c : Option ℕ) → Yields (λ k. kept_items k ≤ left) (region_of lists types places place from left (a >?= λ start. b >?= λ count. c >?= λ offset. Some (try_item start count offset)))
parts_spend lists types places place from left None b c = none _
parts_spend lists types places place from left (Some s) None c = none _
parts_spend lists types places place from left (Some s) (Some k) None = none _
parts_spend lists types places place from left (Some s) (Some k) (Some o) = item_spends lists types places place from left s k o

region_spends : (tries lists : List ℕ) (types : ℕ) (places : Places) (place from left : ℕ) → Yields (λ k. kept_items k ≤ left) (region_at tries lists types places place from left)
unfolding region_at try_at
region_spends tries lists types places place from left = parts_spend lists types places place from left (result_ok (u32_at tries (8 * place))) (result_ok (u16_at tries (8 * place + 4))) (result_ok (u16_at tries (8 * place + 6)))

same_rest : (o : Option ℕ) → rest_items o ≡ rest_count o
same_rest None = refl
same_rest (Some k) = refl

keep_spends : (o : Option Region) (later : ℕ → ℕ → Result (List Region) CodeFault) (from left : ℕ) → kept_items o ≤ left → ((f l : ℕ) → Yields (λ rs. sum_by region_items rs ≤ l) (later f l))
    → Yields (λ rs. sum_by region_items rs ≤ left) (keep o later from left)
keep_spends None later from left le h = h from left
keep_spends (Some r) later from left le h = after (h r.end (left - caught_count r.handlers r.rest)) (λ rs few. made (r ∷ rs) (omega (arith, few, le, same_rest r.rest, sum_by-cons region_items r rs)))

regions_spend : (tries lists : List ℕ) (types : ℕ) (places : Places) (n place from left : ℕ) → Yields (λ rs. sum_by region_items rs ≤ left) (regions_from tries lists types places n place from left)
regions_spend tries lists types places zero place from left = made [] (omega arith)
regions_spend tries lists types places (suc n) place from left = after (region_spends tries lists types places place from left) (λ kept le.
    keep_spends kept (λ f l. regions_from tries lists types places n (suc place) f l) from left le (λ f l. regions_spend tries lists types places n (suc place) f l))

all_spend : (tries : List ℕ) (sizes : Sizes) (places : Places) → Yields (λ rs. sum_by region_items rs ≤ sizes.items) (regions_of tries sizes places)
unfolding regions_of
all_spend tries sizes places = regions_spend tries (drop (8 * sizes.tries) tries) sizes.types places sizes.tries 0 0 sizes.items

placed_as : {Is : List Region → Type 0} (starts : List ℕ) (insns : List Insn) (read : Result (List Region) CodeFault) → Yields Is read → Yields Is (placed starts insns read)
placed_as starts insns (Ok rs) d = yields.past (check_places starts insns rs true) (λ _. made rs (d.found rs refl))
placed_as starts insns (Err e) d = yields.past (check_places starts insns [] false) (λ _. none e)

inside_spends : (tries : List ℕ) (sizes : Sizes) (places : Places) → Yields (λ b. body_items (Some b) ≤ sizes.items) (code.body_at tries sizes places)
unfolding code.body_at
inside_spends tries sizes places = yields.past (check_payloads places 67108864 places.starts) (λ checked.
    yields.past (insns_of places sizes) (λ insns.
    yields.past (check_targets places.starts insns) (λ inside.
    yields.past (check_flow places.units places.starts insns) (λ flows.
    after (placed_as places.starts insns (regions_of tries sizes places) (all_spend tries sizes places)) (λ regions few. made (body sizes insns regions) few)))))

code_spends : (units tries : List ℕ) (sizes : Sizes) → Yields (λ r. body_items (Some r.0) ≤ sizes.items) (code_of units tries sizes)
unfolding code_of
code_spends units tries sizes = yields.past (sweep_of units) (λ places. after (inside_spends tries sizes places) (λ b few. made (b, places.starts) few))

body_spends : (bytes : List ℕ) (p : Program) (method : ℕ) (item : CodeItem) (left : ℕ) → Yields (λ r. body_items (Some r.0) ≤ left) (body_at bytes p method item left)
unfolding body_at
body_spends bytes p method item left = yields.past (units_at bytes item.units_at item.size) (λ units. lifted (of_code method) (code_spends units (drop item.tries_at bytes) (sizes_for p item left)))

-- ---- methods

lines_spend : (bytes : List ℕ) (debug : ℕ) (starts : List ℕ) (left : ℕ) → Yields (λ r. r.1 ≤ left) (lined_at bytes debug starts left)
unfolding lined_at
lines_spend bytes debug starts left = either (debug == 0) (made ([], left) (omega arith))
    (tested (leb (lines_at bytes debug starts left).1 left) _ (λ _. made (kept_lines (lines_at bytes debug starts left).0, left - (lines_at bytes debug starts left).1) (omega arith)))

coded_spends : (bytes : List ℕ) (p : Program) (e : Listed) (left : Budget) → Yields (λ r. method_items r.0 + r.1.items ≤ left.items) (coded_at bytes p e left)
unfolding coded_at
coded_spends bytes p e left =
    yields.past (item_at bytes e.code) (λ item.
    yields.past (frame_at p e item) (λ frame.
    after (body_spends bytes p e.number item left.items) (λ b few.
    after (lines_spend bytes item.debug b.1 (left.items - body_items (Some b.0))) (λ lines less.
    yields.past (cells_with b.0 left.cells) (λ cells.
    made (method_with e (Some b.0) lines.0, record { items = lines.1; cells = cells }) (omega (arith, few, less)))))))

method_spends : (bytes : List ℕ) (p : Program) (e : Listed) (left : Budget) → Yields (λ r. method_items r.0 + r.1.items ≤ left.items) (method_at bytes p e left)
method_spends bytes p e left = either (e.code == 0) (made (method_with e None [], left) (omega arith)) (coded_spends bytes p e left)

entries_spend : (bytes : List ℕ) (p : Program) (es : List Listed) (left : Budget) → Yields (λ r. sum_by method_items r.0 + r.1.items ≤ left.items) (for_each (method_at bytes p) es left)
entries_spend bytes p [] left = made ([], left) (omega arith)
entries_spend bytes p (e ∷ es) left =
    after (method_spends bytes p e left) (λ m one.
    after (entries_spend bytes p es m.1) (λ ms rest.
    made (m.0 ∷ ms.0, ms.1) (omega (arith, one, rest, sum_by-cons method_items m.0 ms.0))))

pub methods_spend : (bytes : List ℕ) (p : Program) (listed : Members) (left : Budget) → Yields (λ r. sum_by method_items r.0 + r.1.items ≤ left.items) (methods_of bytes p listed left)
unfolding methods_of
methods_spend bytes p listed left = entries_spend bytes p (listed.directs ++ listed.virtuals) left

-- ---- steps

-- what each step keeps, all of them do
steps_hold : {S F : Type 0} (Is : S → Type 0) (f : ℕ → S → Result S F) (most : ℕ) → ((i : ℕ) (s : S) → i < most → Is s → Yields Is (f i s)) → (from n : ℕ) (s : S) → from + n ≤ most → Is s → Yields Is (steps f from n s)
steps_hold Is f most keeps from zero s le h = made s h
steps_hold Is f most keeps from (suc n) s le h = after (keeps from s (omega (arith, le)) h) (λ t ht. steps_hold Is f most keeps (suc from) n t (omega (arith, le)) ht)

-- one entry changed, which grows by so much at most
change_grows : {X : Type 0} (weight : X → ℕ) (change : X → X) (extra : ℕ) → ((x : X) → weight (change x) ≤ weight x + extra) → (place : ℕ) (xs : List X) → sum_by weight (change_at change place xs) ≤ sum_by weight xs + extra
change_grows weight change extra h place [] = omega arith
change_grows weight change extra h zero (x ∷ xs) = omega (arith, h x, sum_by-cons weight x xs, sum_by-cons weight (change x) xs)
change_grows weight change extra h (suc place) (x ∷ xs) = omega (arith, change_grows weight change extra h place xs, sum_by-cons weight x xs, sum_by-cons weight x (change_at change place xs))

-- ---- annotations of members

abbrev Fields : Type 0
Fields = List Field × (ℕ × ℕ)

abbrev Methods : Type 0
Methods = List Method × (ℕ × ℕ)

-- the count of first values that a list of fields would have, if they had been none before
abbrev FieldsWithin : ℕ → List Field → ℕ → Type 0
FieldsWithin most fields left = (sum_by field_items fields + left ≤ most) × (first_items_from 0 0 fields ≡ 0)

firsts_stay : (change : Field → Field) → ((f : Field) → (change f).first ≡ f.first) → (place count at : ℕ) (fields : List Field) → first_items_from count at (change_at change place fields) ≡ first_items_from count at fields
firsts_stay change h place count at [] = refl
firsts_stay change h zero count at (f ∷ fs) = ap (λ (o : Option EncValue). first_items_from (cond (is_some o) (at + 1) count) (at + 1) fs) (h f)
firsts_stay change h (suc place) count at (f ∷ fs) = firsts_stay change h place (cond (is_some f.first) (at + 1) count) (at + 1) fs

field_spends : (bytes : List ℕ) (p : Program) (class : ℕ) (listed : List Listed) (at most i : ℕ) (s : Fields) → FieldsWithin most s.0 s.1.1 → Yields (λ t. FieldsWithin most t.0 t.1.1) (mark_field bytes p class listed at i s)
unfolding mark_field
field_spends bytes p class listed at most i s h =
    yields.past (named_at bytes class (sizes_in p).fields listed at i s.1.0) (λ named.
    after (set_spends bytes p named.1.1 s.1.1) (λ marks spent.
    let grows : sum_by field_items (change_at (with_marks marks.0) named.0 s.0) ≤ sum_by field_items s.0 + marks_items marks.0
    = change_grows field_items (with_marks marks.0) (marks_items marks.0) (λ f. omega arith) named.0 s.0 in
    made (change_at (with_marks marks.0) named.0 s.0, (named.1.0, marks.1))
    (omega (arith, h.0, spent, grows), firsts_stay (with_marks marks.0) (λ f. refl) named.0 0 0 s.0 ∙ h.1)))

abbrev MethodsWithin : ℕ → List Method → ℕ → Type 0
MethodsWithin most methods left = sum_by method_items methods + left ≤ most

own_spends : (bytes : List ℕ) (p : Program) (class : ℕ) (listed : List Listed) (at most i : ℕ) (s : Methods) → MethodsWithin most s.0 s.1.1 → Yields (λ t. MethodsWithin most t.0 t.1.1) (mark_method bytes p class listed at i s)
unfolding mark_method
own_spends bytes p class listed at most i s h =
    yields.past (named_at bytes class (sizes_in p).methods listed at i s.1.0) (λ named.
    after (set_spends bytes p named.1.1 s.1.1) (λ marks spent.
    let grows : sum_by method_items (change_at (with_own_marks marks.0) named.0 s.0) ≤ sum_by method_items s.0 + marks_items marks.0
    = change_grows method_items (with_own_marks marks.0) (marks_items marks.0) (λ m. omega arith) named.0 s.0 in
    made (change_at (with_own_marks marks.0) named.0 s.0, (named.1.0, marks.1)) (omega (arith, h, spent, grows))))

parameters_spend : (bytes : List ℕ) (p : Program) (class : ℕ) (listed : List Listed) (at most i : ℕ) (s : Methods) → MethodsWithin most s.0 s.1.1 → Yields (λ t. MethodsWithin most t.0 t.1.1) (mark_parameters bytes p class listed at i s)
unfolding mark_parameters
parameters_spend bytes p class listed at most i s h =
    yields.past (named_at bytes class (sizes_in p).methods listed at i s.1.0) (λ named.
    after (sets_spend bytes p named.1.1 s.1.1) (λ marks spent.
    let grows : sum_by method_items (change_at (with_parameter_marks marks.0) named.0 s.0) ≤ sum_by method_items s.0 + (length marks.0 + sum_by marks_items marks.0)
    = change_grows method_items (with_parameter_marks marks.0) (length marks.0 + sum_by marks_items marks.0) (λ m. omega arith) named.0 s.0 in
    made (change_at (with_parameter_marks marks.0) named.0 s.0, (named.1.0, marks.1)) (omega (arith, h, spent, grows))))

-- the annotations of a class and its members, and what is left, behind fields without any and methods
pub record IsSpent (methods : List Method) (left : ℕ) (m : Marked) : Type 0 where
  pub sum : marks_items m.marks + sum_by field_items m.fields + sum_by method_items m.methods + m.left ≤ sum_by method_items methods + left
  pub firsts : first_items_from 0 0 m.fields ≡ 0

directory_spends : (bytes : List ℕ) (p : Program) (class : ℕ) (listed : Members) (at : ℕ) (fields : List Field) (methods : List Method) (left : ℕ) → sum_by field_items fields ≡ 0 → first_items_from 0 0 fields ≡ 0
    → Yields (IsSpent methods left) (directory_at bytes p class listed at fields methods left)
unfolding directory_at
directory_spends bytes p class listed at fields methods left bare firsts =
    let fs : List Listed = listed.statics ++ listed.instances in
    let ms : List Listed = listed.directs ++ listed.virtuals in
    yields.past (need_at bytes at 16) (λ begins.
    yields.past (word_at bytes at) (λ set.
    yields.past (word_at bytes (at + 4)) (λ field_count.
    yields.past (word_at bytes (at + 8)) (λ method_count.
    yields.past (word_at bytes (at + 12)) (λ parameter_count.
    yields.past (need_at bytes at (16 + 8 * field_count + 8 * method_count + 8 * parameter_count)) (λ whole.
    after (set_spends bytes p set left) (λ marks spent.
    after (steps_hold (λ (s : Fields). FieldsWithin marks.1 s.0 s.1.1) (mark_field bytes p class fs (at + 16)) field_count (λ i s _ h. field_spends bytes p class fs (at + 16) marks.1 i s h) 0 field_count (fields, (0, marks.1))
    (omega arith) (omega (arith, bare), firsts)) (λ own_fields h1.
    after (steps_hold (λ (s : Methods). MethodsWithin (sum_by method_items methods + own_fields.1.1) s.0 s.1.1) (mark_method bytes p class ms (at + 16 + 8 * field_count)) method_count
    (λ i s _ h. own_spends bytes p class ms (at + 16 + 8 * field_count) (sum_by method_items methods + own_fields.1.1) i s h) 0 method_count (methods, (0, own_fields.1.1)) (omega arith) (omega arith)) (λ own h2.
    after (steps_hold (λ (s : Methods). MethodsWithin (sum_by method_items own.0 + own.1.1) s.0 s.1.1) (mark_parameters bytes p class ms (at + 16 + 8 * field_count + 8 * method_count)) parameter_count
    (λ i s _ h. parameters_spend bytes p class ms (at + 16 + 8 * field_count + 8 * method_count) (sum_by method_items own.0 + own.1.1) i s h) 0 parameter_count (own.0, (0, own.1.1)) (omega arith) (omega arith)) (λ all h3.
    made (marked marks.0 own_fields.0 all.0 all.1.1) (record { sum = omega (arith, spent, h1.0, h2, h3); firsts = h1.1 })))))))))))

pub marked_spends : (bytes : List ℕ) (p : Program) (class : ℕ) (listed : Members) (offset : ℕ) (fields : List Field) (methods : List Method) (left : ℕ) → sum_by field_items fields ≡ 0 → first_items_from 0 0 fields ≡ 0
    → Yields (IsSpent methods left) (marked_at bytes p class listed offset fields methods left)
unfolding marked_at
marked_spends bytes p class listed offset fields methods left bare firsts =
    either (offset == 0) (made (marked [] fields methods left) (record { sum = omega (arith, bare); firsts = firsts })) (directory_spends bytes p class listed offset fields methods left bare firsts)

-- ---- first values

-- with a lower count to begin with, or a value given to a field that lies before a bound, the count stays within the bound
lower : (m c d at : ℕ) (fields : List Field) → d ≤ m → first_items_from c at fields ≤ m → first_items_from d at fields ≤ m
lower m c d at [] le h = le
lower m c d at (f ∷ fs) le h = by (is_some f.first) (lower m c d (at + 1) fs le) h
  where
    by : (b : Bool) → (first_items_from c (at + 1) fs ≤ m → first_items_from d (at + 1) fs ≤ m) → first_items_from (cond b (at + 1) c) (at + 1) fs ≤ m → first_items_from (cond b (at + 1) d) (at + 1) fs ≤ m
    by true rest h = h
    by false rest h = rest h

two_counts : (b : Bool) (m c at : ℕ) → c ≤ m → at + 1 ≤ m → cond b (at + 1) c ≤ m
two_counts true m c at le lt = lt
two_counts false m c at le lt = le

given : (m : ℕ) (v : EncValue) (i c at : ℕ) (fields : List Field) → c ≤ m → at + i + 1 ≤ m → first_items_from c at fields ≤ m → first_items_from c at (change_at (with_first v) i fields) ≤ m
given m v i c at [] le lt h = h
given m v zero c at (f ∷ fs) le lt h = lower m (cond (is_some f.first) (at + 1) c) (cond (is_some (first_value v)) (at + 1) c) (at + 1) fs (two_counts (is_some (first_value v)) m c at le (omega (arith, lt))) h
given m v (suc i) c at (f ∷ fs) le lt h = given m v i (cond (is_some f.first) (at + 1) c) (at + 1) fs (two_counts (is_some f.first) m c at le (omega (arith, lt))) (omega (arith, lt)) h

abbrev GivenWithin : ℕ → ℕ → Fields → Type 0
GivenWithin m most s = (sum_by field_items s.0 + s.1.1 ≤ most) × (first_items_from 0 0 s.0 ≤ m)

give_spends : (bytes : List ℕ) (p : Program) (statics m most i : ℕ) (s : Fields) → i < m → GivenWithin m most s → Yields (GivenWithin m most) (give_first bytes p statics i s)
unfolding give_first whole_value_at
give_spends bytes p statics m most i s lt h =
    after (lifted of_pool (value_spends 64 bytes (sizes_in p) s.1)) (λ v spent. tested _ _ (λ _.
    let grows : sum_by field_items (change_at (with_first v.0) i s.0) ≤ sum_by field_items s.0 + 0 = change_grows field_items (with_first v.0) 0 (λ f. omega arith) i s.0 in
    made (change_at (with_first v.0) i s.0, v.1) (omega (arith, h.0, spent, grows), given m v.0 i 0 0 s.0 (omega arith) (omega (arith, lt)) h.1)))

firsts_spend : (bytes : List ℕ) (p : Program) (at statics : ℕ) (fields : List Field) (left : ℕ) → first_items_from 0 0 fields ≡ 0
    → Yields (λ r. fields_items r.0 + r.1 ≤ sum_by field_items fields + left) (firsts_at bytes p at statics fields left)
unfolding firsts_at
firsts_spend bytes p at statics fields left none_yet =
    yields.past (number_at bytes at) (λ count.
    after (lifted of_pool (spend_leaves count.0 left)) (λ behind less.
    after (steps_hold (GivenWithin count.0 (sum_by field_items fields + behind)) (give_first bytes p statics) count.0 (λ i s lt h. give_spends bytes p statics count.0 (sum_by field_items fields + behind) i s lt h)
    0 count.0 (fields, (count.1, behind)) (omega arith) (omega arith, omega (arith, none_yet))) (λ given h.
    made (given.0, given.1.1) (omega (arith, h.0, h.1, less)))))

pub begun_spends : (bytes : List ℕ) (p : Program) (offset statics : ℕ) (fields : List Field) (left : ℕ) → first_items_from 0 0 fields ≡ 0
    → Yields (λ r. fields_items r.0 + r.1 ≤ sum_by field_items fields + left) (begun_at bytes p offset statics fields left)
unfolding begun_at
begun_spends bytes p offset statics fields left none_yet = either (offset == 0) (made (fields, left) (omega (arith, none_yet))) (firsts_spend bytes p offset statics fields left none_yet)

-- ---- fields as they are listed

pub bare_fields : (es : List Listed) → sum_by field_items (map field_with es) ≡ 0
bare_fields [] = omega arith
bare_fields (e ∷ es) = omega (arith, bare_fields es, sum_by-cons field_items (field_with e) (map field_with es))

pub no_firsts : (count at : ℕ) (es : List Listed) → first_items_from count at (map field_with es) ≡ count
no_firsts count at [] = refl
no_firsts count at (e ∷ es) = no_firsts count (at + 1) es
