-- Values and_both annotations that are read fit.
use Rattle.std.proofs.Common.{◌≡◌, ℕ, zero, suc, ◌+◌, ◌*◌, ◌/◌, ◌%◌, Bool, true, false, cond, ltb, List, [], ◌∷◌, length, Result, Ok, Err, refl, sym, ap, subst}
use Rattle.std.specs.Prelude.{◌&&◌, ◌==◌, Some}
use Rattle.std.specs.Int.{w32}
use Rattle.std.specs.List.{list_all}
use Rattle.std.proofs.lemmas.Bool.{eqb-true}
use Rattle.lemmas.proofs.Bools.{and_both}
use Rattle.dex_base.specs.Reading.{◌>>=◌}
use Rattle.program_model.specs.Neighbours.{neighbours}
use Rattle.program_model.specs.ValueRules.{element_fits, named_in_order, note_fits, names_fit, value_fits, mark_fits, typed_in_order, marks_fit}
use Rattle.program_model.specs.declared.limits.Counted.TheVariants.{Items}
use Rattle.program_model.specs.declared.program.Program.{Program}
use Rattle.program_model.specs.declared.value.EncValue.{EncValue, EncValue-F, out-EncValue, roll-EncValue, out-roll-EncValue}
use Rattle.program_model.specs.declared.value.EncValue.TheOpen as layer
use Rattle.program_model.specs.declared.value.EncValue.TheVariants as value
use Rattle.program_model.specs.declared.value.Element.{Element}
use Rattle.program_model.specs.declared.value.Note.{Note, Note-F, roll-Note, out-roll-Note}
use Rattle.program_model.specs.declared.value.Mark.{Mark}
use Rattle.dex_pools.specs.Items.{spend, count_at}
use Rattle.dex_pools.specs.Marks.{mark_below, mark_at, marked_at, marks_at, parameter_at, parameters_marks_at}
use Rattle.dex_pools.specs.Order.{ascends_from, ascends_in}
use Rattle.dex_pools.specs.Value.{byte_at, few_at, number_index_at, numeric, naming, size_for, named_at, scalar_at, zero_extended, counted, array_in, element_below, element_in, note_in, of_kind, value_in, value_at, whole_note_at}
use Rattle.dex_pools.specs.Word.{word_at, number_at}
use Rattle.dex_pools.specs.declared.fault.PoolFault.{PoolFault}
use Rattle.dex_pools.specs.declared.fault.Table.{Table}
use Rattle.dex_pools.specs.declared.fault.Table.TheVariants.{Members}
use Rattle.dex_read.specs.Directory.{set_at, sets_at}
use Rattle.dex_read.specs.Faults.{of_pool}
use Rattle.dex_read.specs.Tables.{sizes_in}
use Rattle.read_laws.proofs.ClassReading.{in_table, all_of}
use Rattle.read_laws.proofs.Readings.{Reads, anything, itself, weaker, done, failed, when, either, next, lifted, reads_run}

-- ---- lists that ascend

tested : {Y F : Type 0} (b : Bool) (read : Result Y F) (e : F) (y : Y) → cond b read (Err e) ≡ Ok y → (b ≡ true) × (read ≡ Ok y)
tested true read e y h = (refl, h)
tested false read e y h = absurd cc

abbrev in_order : {X : Type 0} → (X → X → Bool) → X × X → Bool
in_order below pair = below pair.0 pair.1

orders : {X : Type 0} (below : X → X → Bool) (table : Table) (x : X) (place : ℕ) (xs : List X) (u : Unit {0}) → ascends_from below table (Some x) place xs ≡ Ok u
    → list_all (in_order below) (neighbours (x ∷ xs)) ≡ true
orders below table x place [] u h = refl
orders below table x place (y ∷ ys) u h = let a = tested (below x y) (ascends_from below table (Some y) (suc place) ys) _ u h in
    and_both (below x y) (list_all (in_order below) (neighbours (y ∷ ys))) a.0 (orders below table y (suc place) ys u a.1)

pub ordered : {X : Type 0} (below : X → X → Bool) (table : Table) (xs : List X) (u : Unit {0}) → ascends_in below table xs ≡ Ok u → list_all (in_order below) (neighbours xs) ≡ true
ordered below table [] u h = refl
ordered below table (x ∷ xs) u h = orders below table x 1 xs u h

-- ---- values by their layers

abbrev Fits : (EncValue → Bool) → Program → EncValue → Type 0
Fits fits p v = names_fit fits p (out-EncValue v) ≡ true

pub layered : (fits : EncValue → Bool) (p : Program) (x : EncValue-F EncValue Element Note) (v : EncValue) → roll-EncValue x ≡ v → names_fit fits p x ≡ true → Fits fits p v
layered fits p x v e h = subst (Fits fits p) e (subst (λ y. names_fit fits p y ≡ true) (sym (out-roll-EncValue x)) h)

pick : (T : EncValue → Type 0) (b : Bool) (x y : EncValue) → T x → T y → T (cond b x y)
pick T true x y h g = h
pick T false x y h g = g

numbers : (fits : EncValue → Bool) (p : Program) (kind : ℕ) (few : List ℕ) → Fits fits p (numeric kind few)
numbers fits p kind few = pick (Fits fits p) _ _ _ (layered fits p _ _ (value.rolls-Byte _) refl)
    (pick (Fits fits p) _ _ _ (layered fits p _ _ (value.rolls-Short _) refl)
    (pick (Fits fits p) _ _ _ (layered fits p _ _ (value.rolls-Char _) refl)
    (pick (Fits fits p) _ _ _ (layered fits p _ _ (value.rolls-Int _) refl)
    (pick (Fits fits p) _ _ _ (layered fits p _ _ (value.rolls-Long _) refl)
    (pick (Fits fits p) _ _ _ (layered fits p _ _ (value.rolls-Float _) refl) (layered fits p _ _ (value.rolls-Double _) refl))))))

by_name : (fits : EncValue → Bool) (p : Program) (n : ℕ) (a b c d : Bool) → (c ≡ true → d ≡ false)
    → ltb n (cond a (sizes_in p).strings (cond b (sizes_in p).types (cond d (sizes_in p).methods (sizes_in p).fields))) ≡ true
    → Fits fits p (cond a (value.Str n) (cond b (value.Class n) (cond c (value.Field n) (cond d (value.Method n) (value.Enum n)))))
by_name fits p n true b c d apart h = layered fits p (layer.Str n) _ (value.rolls-Str n) (in_table n (length p.strings) h)
by_name fits p n false true c d apart h = layered fits p (layer.Class n) _ (value.rolls-Class n) (in_table n (length p.types) h)
by_name fits p n false false true true apart h = absurd (unlike (apart refl))
  where
    unlike : true ≡ false → ⊥
    unlike e = cc
by_name fits p n false false true false apart h = layered fits p (layer.Field n) _ (value.rolls-Field n) (in_table n (length p.fields) h)
by_name fits p n false false false true apart h = layered fits p (layer.Method n) _ (value.rolls-Method n) (in_table n (length p.methods) h)
by_name fits p n false false false false apart h = layered fits p (layer.Enum n) _ (value.rolls-Enum n) (in_table n (length p.fields) h)

named : (fits : EncValue → Bool) (p : Program) (kind n : ℕ) → ltb n (size_for (sizes_in p) kind) ≡ true → Fits fits p (naming kind n)
named fits p kind n h = by_name fits p n (kind == 23) (kind == 24) (kind == 25) (kind == 26) (λ e. ap (λ k. k == 26) (eqb-true kind 25 e)) h

reads_named : (fits : EncValue → Bool) (p : Program) (at kind n : ℕ) → Reads (Fits fits p) (named_at (sizes_in p) at kind n)
reads_named fits p at kind n = weaker (named_at (sizes_in p) at kind n) (when _ (done (naming kind n))) (λ y q. subst (Fits fits p) (sym q.1) (named fits p kind n q.0))

reads_scalar : (fits : EncValue → Bool) (bytes : List ℕ) (p : Program) (at kind count : ℕ) → Reads (Fits fits p) (scalar_at bytes (sizes_in p) at kind count)
unfolding scalar_at
reads_scalar fits bytes p at kind count = weaker (scalar_at bytes (sizes_in p) at kind count)
    (next (anything (few_at bytes at count)) (λ few _. either
    (λ _. weaker (Ok (numeric kind few)) (done (numeric kind few)) (λ y e. subst (Fits fits p) (sym e) (numbers fits p kind few)))
    (λ _. reads_named fits p at kind (zero_extended w32 few))))
    (λ y q. q.2)

-- ---- values in values

abbrev Inner : Type 0
Inner = ℕ × ℕ → Result (EncValue × (ℕ × ℕ)) PoolFault

abbrev AllRead : (EncValue → Bool) → Inner → Type 0
AllRead fits inner = (s : ℕ × ℕ) → Reads (λ r. fits r.0 ≡ true) (inner s)

reads_counted : (fits : EncValue → Bool) (inner : Inner) → AllRead fits inner → (i : ℕ) (s : ℕ × ℕ) → Reads (λ r. fits r.0 ≡ true) (counted inner i s)
reads_counted fits inner all i s = weaker (counted inner i s) (next (anything (spend Items 1 s.1)) (λ behind _. all (s.0, behind))) (λ y q. q.2)

reads_array : (fits : EncValue → Bool) (inner : Inner) → AllRead fits inner → (bytes : List ℕ) (s : ℕ × ℕ) → Reads (λ r. list_all fits r.0 ≡ true) (array_in inner bytes s)
unfolding array_in
reads_array fits inner all bytes s = weaker (array_in inner bytes s)
    (next (anything (number_at bytes s.0)) (λ count _. reads_run (λ i s r. fits r.0 ≡ true) (counted inner) (reads_counted fits inner all) 0 count.0 (count.1, s.1)))
    (λ y q. all_of fits (λ i s r. fits r.0 ≡ true) (λ i s r h. h) 0 (q.0.1, s.1) y.0 y.1 q.2)

reads_index : (bytes : List ℕ) (at size : ℕ) → Reads (λ r. ltb r.0 size ≡ true) (number_index_at bytes at size)
unfolding number_index_at
reads_index bytes at size = weaker (number_index_at bytes at size) (next (anything (number_at bytes at)) (λ n _. when _ (done n)))
    (λ y q. subst (λ (r : ℕ × ℕ). ltb r.0 size ≡ true) (sym q.2.1) q.2.0)

reads_element : (fits : EncValue → Bool) (inner : Inner) → AllRead fits inner → (bytes : List ℕ) (p : Program) (i : ℕ) (s : ℕ × ℕ)
    → Reads (λ r. element_fits fits p r.0 ≡ true) (element_in inner bytes (sizes_in p) i s)
unfolding element_in
reads_element fits inner all bytes p i s = weaker (element_in inner bytes (sizes_in p) i s)
    (next (anything (spend Items 1 s.1)) (λ behind _. next (reads_index bytes s.0 (sizes_in p).strings) (λ name _. next (all (name.1, behind)) (λ v _.
    done (record { name = name.0; value = v.0 }, v.1)))))
    (λ y q. let n = q.2 in let v = n.2 in
    subst (λ (r : Element × (ℕ × ℕ)). element_fits fits p r.0 ≡ true) (sym v.2) (and_both _ _ (in_table n.0.0 (length p.strings) n.1) v.1))

pub reads_note : (fits : EncValue → Bool) (inner : Inner) → AllRead fits inner → (bytes : List ℕ) (p : Program) (s : ℕ × ℕ)
    → Reads (λ r. note_fits fits p r.0 ≡ true) (note_in inner bytes (sizes_in p) s)
unfolding note_in
reads_note fits inner all bytes p s = weaker (note_in inner bytes (sizes_in p) s)
    (next (reads_index bytes s.0 (sizes_in p).types) (λ class _. next (anything (number_at bytes class.1)) (λ count _.
    next (reads_run (λ i s r. element_fits fits p r.0 ≡ true) (element_in inner bytes (sizes_in p)) (reads_element fits inner all bytes p) 0 count.0 (count.1, s.1)) (λ elements _.
    next (itself (ascends_in element_below Members elements.0)) (λ order _. done (roll-Note (record { class = class.0; elements = elements.0 }), elements.1))))))
    (λ y q. let count = q.2 in let elements = count.2 in let order = elements.2 in
    let note : Note-F EncValue Element Note = record { class = q.0.0; elements = elements.0.0 } in
    let fit : ((ltb q.0.0 (length p.types)) && (list_all (element_fits fits p) elements.0.0 && list_all named_in_order (neighbours elements.0.0))) ≡ true
    = and_both _ _ (in_table q.0.0 (length p.types) q.1) (and_both _ _
    (all_of (element_fits fits p) (λ i s r. element_fits fits p r.0 ≡ true) (λ i s r h. h) 0 (count.0.1, s.1) elements.0.0 elements.0.1 elements.1)
    (ordered element_below Members elements.0.0 order.0 order.1)) in
    subst (λ (r : Note × (ℕ × ℕ)). note_fits fits p r.0 ≡ true) (sym order.2)
    (subst (λ (n : Note-F EncValue Element Note). (ltb n.class (length p.types) && (list_all (element_fits fits p) n.elements && list_all named_in_order (neighbours n.elements))) ≡ true) (sym (out-roll-Note note)) fit))

abbrev Whole : (EncValue → Bool) → Program → EncValue × (ℕ × ℕ) → Type 0
Whole fits p r = Fits fits p r.0

exactly : {F : Type 0} (fits : EncValue → Bool) (p : Program) (v : EncValue) (s : ℕ × ℕ) → Fits fits p v → Reads {F = F} (Whole fits p) (Ok (v, s))
exactly fits p v s h = weaker (Ok (v, s)) (done (v, s)) (λ y e. subst (Whole fits p) (sym e) h)

one_of : {Y F : Type 0} {Is : Y → Type 0} {one two three four five : Result Y F} (a b c d : Bool) → Reads Is one → Reads Is two → Reads Is three → Reads Is four → Reads Is five
    → Reads Is (cond a one (cond b two (cond c three (cond d four five))))
one_of true b c d h1 h2 h3 h4 h5 = h1
one_of false true c d h1 h2 h3 h4 h5 = h2
one_of false false true d h1 h2 h3 h4 h5 = h3
one_of false false false true h1 h2 h3 h4 h5 = h4
one_of false false false false h1 h2 h3 h4 h5 = h5

reads_kind : (fits : EncValue → Bool) (inner : Inner) → AllRead fits inner → (bytes : List ℕ) (p : Program) (s : ℕ × ℕ) (kind argument : ℕ)
    → Reads (Whole fits p) (of_kind inner bytes (sizes_in p) s kind argument)
reads_kind fits inner all bytes p s kind argument = one_of (kind == 28) (kind == 29) (kind == 30) (kind == 31)
    (weaker (array_in inner bytes (s.0 + 1, s.1) >>= λ r. Ok (value.Array r.0, r.1))
    (next (reads_array fits inner all bytes (s.0 + 1, s.1)) (λ r _. done (value.Array r.0, r.1)))
    (λ y q. subst (Whole fits p) (sym q.2) (layered fits p (layer.Array q.0.0) _ (value.rolls-Array q.0.0) q.1)))
    (weaker (note_in inner bytes (sizes_in p) (s.0 + 1, s.1) >>= λ r. Ok (value.Annotation r.0, r.1))
    (next (reads_note fits inner all bytes p (s.0 + 1, s.1)) (λ r _. done (value.Annotation r.0, r.1)))
    (λ y q. subst (Whole fits p) (sym q.2) (layered fits p (layer.Annotation q.0.0) _ (value.rolls-Annotation q.0.0) q.1)))
    (exactly fits p value.Null (s.0 + 1, s.1) (layered fits p layer.Null _ value.rolls-Null refl))
    (exactly fits p (value.Bool (argument == 1)) (s.0 + 1, s.1) (layered fits p (layer.Bool (argument == 1)) _ (value.rolls-Bool (argument == 1)) refl))
    (weaker (scalar_at bytes (sizes_in p) s.0 kind (argument + 1) >>= λ v. Ok (v, (s.0 + 1 + (argument + 1), s.1)))
    (next (reads_scalar fits bytes p s.0 kind (argument + 1)) (λ v _. done (v, (s.0 + 1 + (argument + 1), s.1))))
    (λ y q. subst (Whole fits p) (sym q.2) q.1))

reads_layer : (fits : EncValue → Bool) (inner : Inner) → AllRead fits inner → (bytes : List ℕ) (p : Program) (s : ℕ × ℕ) → Reads (Whole fits p) (value_in inner bytes (sizes_in p) s)
unfolding value_in
reads_layer fits inner all bytes p s = weaker (value_in inner bytes (sizes_in p) s)
    (next (anything (byte_at bytes s.0)) (λ tag _. when _ (reads_kind fits inner all bytes p s (tag % 32) (tag / 32))))
    (λ y q. q.2.1)

pub reads_value : (depth : ℕ) (bytes : List ℕ) (p : Program) → AllRead (value_fits depth p) (value_at depth bytes (sizes_in p))
reads_value zero bytes p s = failed _
reads_value (suc depth) bytes p s = reads_layer (value_fits depth p) (value_at depth bytes (sizes_in p)) (reads_value depth bytes p) bytes p s

-- ---- annotations

reads_mark : (bytes : List ℕ) (p : Program) (at left : ℕ) → Reads (λ r. mark_fits p r.0 ≡ true) (mark_at bytes (sizes_in p) at left)
unfolding mark_at whole_note_at mark_fits
reads_mark bytes p at left = weaker (mark_at bytes (sizes_in p) at left)
    (next (anything (byte_at bytes at)) (λ visibility _. next (reads_note (value_fits 64 p) (value_at 64 bytes (sizes_in p)) (reads_value 64 bytes p) bytes p (at + 1, left)) (λ note _.
    done (record { visibility = visibility; note = note.0 }, note.1.1))))
    (λ y q. subst (λ (r : Mark × ℕ). note_fits (value_fits 64 p) p r.0.note ≡ true) (sym q.2.2) q.2.1)

reads_marked : (bytes : List ℕ) (p : Program) (at i left : ℕ) → Reads (λ r. mark_fits p r.0 ≡ true) (marked_at bytes (sizes_in p) at i left)
unfolding marked_at
reads_marked bytes p at i left = weaker (marked_at bytes (sizes_in p) at i left)
    (next (anything (spend Items 1 left)) (λ behind _. next (anything (word_at bytes (at + 4 + 4 * i))) (λ offset _. reads_mark bytes p offset behind)))
    (λ y q. q.2.2)

pub reads_marks : (bytes : List ℕ) (p : Program) (at left : ℕ) → Reads (λ r. marks_fit p r.0 ≡ true) (marks_at bytes (sizes_in p) at left)
unfolding marks_at marks_fit
reads_marks bytes p at left = weaker (marks_at bytes (sizes_in p) at left)
    (next (anything (count_at bytes at 4)) (λ count _.
    next (reads_run (λ i s r. mark_fits p r.0 ≡ true) (marked_at bytes (sizes_in p) at) (reads_marked bytes p at) 0 count left) (λ marks _.
    next (itself (ascends_in mark_below Members marks.0)) (λ order _. done marks))))
    (λ y q. let marks = q.2 in let order = marks.2 in
    subst (λ (r : List Mark × ℕ). (list_all (mark_fits p) r.0 && list_all typed_in_order (neighbours r.0)) ≡ true) (sym order.2)
    (and_both _ _ (all_of (mark_fits p) (λ i s r. mark_fits p r.0 ≡ true) (λ i s r h. h) 0 left marks.0.0 marks.0.1 marks.1)
    (ordered mark_below Members marks.0.0 order.0 order.1)))

no_marks : (p : Program) → marks_fit p [] ≡ true
unfolding marks_fit
no_marks p = refl

pub reads_set : (bytes : List ℕ) (p : Program) (offset left : ℕ) → Reads (λ r. marks_fit p r.0 ≡ true) (set_at bytes p offset left)
unfolding set_at
reads_set bytes p offset left = either
    (λ _. weaker (Ok ([], left)) (done ([], left)) (λ y e. subst (λ (r : List Mark × ℕ). marks_fit p r.0 ≡ true) (sym e) (no_marks p)))
    (λ _. lifted of_pool (reads_marks bytes p offset left))

reads_parameter : (bytes : List ℕ) (p : Program) (at i left : ℕ) → Reads (λ r. marks_fit p r.0 ≡ true) (parameter_at bytes (sizes_in p) at i left)
unfolding parameter_at
reads_parameter bytes p at i left = weaker (parameter_at bytes (sizes_in p) at i left)
    (next (anything (spend Items 1 left)) (λ behind _. next (anything (word_at bytes (at + 4 + 4 * i))) (λ offset _. either
    (λ _. weaker (Ok ([], behind)) (done ([], behind)) (λ y e. subst (λ (r : List Mark × ℕ). marks_fit p r.0 ≡ true) (sym e) (no_marks p)))
    (λ _. reads_marks bytes p offset behind))))
    (λ y q. q.2.2)

reads_parameters : (bytes : List ℕ) (p : Program) (at left : ℕ) → Reads (λ r. list_all (marks_fit p) r.0 ≡ true) (parameters_marks_at bytes (sizes_in p) at left)
unfolding parameters_marks_at
reads_parameters bytes p at left = weaker (parameters_marks_at bytes (sizes_in p) at left)
    (next (anything (count_at bytes at 4)) (λ count _. reads_run (λ i s r. marks_fit p r.0 ≡ true) (parameter_at bytes (sizes_in p) at) (reads_parameter bytes p at) 0 count left))
    (λ y q. all_of (marks_fit p) (λ i s r. marks_fit p r.0 ≡ true) (λ i s r h. h) 0 left y.0 y.1 q.2)

pub reads_sets : (bytes : List ℕ) (p : Program) (offset left : ℕ) → Reads (λ r. list_all (marks_fit p) r.0 ≡ true) (sets_at bytes p offset left)
unfolding sets_at
reads_sets bytes p offset left = either
    (λ _. weaker (Ok ([], left)) (done ([], left)) (λ y e. subst (λ (r : List (List Mark) × ℕ). list_all (marks_fit p) r.0 ≡ true) (sym e) refl))
    (λ _. lifted of_pool (reads_parameters bytes p offset left))
