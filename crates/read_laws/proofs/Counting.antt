-- The cells that are counted are those of what is read.
use Rattle.std.proofs.Common.{◌≡◌, zero, suc, ◌+◌, ◌-◌, ◌*◌, ◌≤◌, ℕ, List, [], ◌∷◌, ◌++◌, length, map, leb, eqb, Some, None, Ok, refl, sym, ap, subst, ◌∙◌, arith}
use Rattle.std.specs.Prelude.{sum_by}
use Rattle.std.proofs.lemmas.Bool.{leb-true}
use Rattle.std.proofs.lemmas.List.Sums.{sum_by-cons}
use Rattle.program_model.specs.Cells.{body_cells, method_cells, class_cells, cells_of}
use Rattle.program_model.specs.Limits.{limit_of}
use Rattle.program_model.specs.declared.limits.Counted.TheVariants.{Cells}
use Rattle.program_model.specs.Items.{body_items}
use Rattle.program_model.specs.declared.body.Body.{Body}
use Rattle.program_model.specs.declared.program.Field.{Field}
use Rattle.program_model.specs.declared.program.Method.{Method}
use Rattle.program_model.specs.declared.program.Program.{Program}
use Rattle.dex_pools.specs.Run.{run}
use Rattle.dex_pools.proofs.Finding.{guard}
use Rattle.dex_read.specs.declared.class_data.Listed.{Listed}
use Rattle.dex_read.specs.declared.class_data.Members.{Members}
use Rattle.dex_read.specs.declared.members.Budget.{Budget}
use Rattle.dex_read.specs.Classes.{def_at, interfaces_at, root_at, listed_at, methods_of, marked_at, begun_at, field_with, class_with, class_at}
use Rattle.dex_read.specs.Code.{item_at, frame_at, body_at, lined_at, cells_with, method_with, coded_at, method_at}
use Rattle.dex_read.specs.Directory.{marked, set_at, sets_at, named_at, mark_field, mark_method, mark_parameters, with_own_marks, with_parameter_marks, directory_at}
use Rattle.dex_read.specs.File.{class_in, table_at, classes_at, program_at}
use Rattle.dex_read.specs.Header.{need_at, past}
use Rattle.dex_read.specs.Steps.{steps, for_each, change_at}
use Rattle.dex_read.specs.Tables.{sizes_in}
use Rattle.dex_read.specs.Word.{word_at}
use Rattle.read_laws.proofs.Told.{is_read}
use Rattle.read_laws.proofs.Yielding as yields
use Rattle.read_laws.proofs.Yielding.{Yields, made, after, either, steps_keep}

-- so many cells are counted behind those before, within the limit
record Counts (before weight behind : ℕ) : Type 0 where
  sum : behind ≡ before + weight
  within : before ≤ 67108864 → behind ≤ 67108864

-- ---- methods

cells_count : (body : Body) (cells : ℕ) → Yields (λ n. Counts cells (body_cells body) n) (cells_with body cells)
unfolding cells_with
cells_count body cells = record {
  found = λ n h.
      let p = (guard (leb (cells + body_cells body) (limit_of Cells)) (cells + body_cells body) (past Cells)).found n h in
      record { sum = p.1; within = λ le. subst (λ k. k ≤ 67108864) (sym p.1) (leb-true (cells + body_cells body) 67108864 p.0) };
}

coded_counts : (bytes : List ℕ) (p : Program) (e : Listed) (left : Budget) → Yields (λ r. Counts left.cells (method_cells r.0) r.1.cells) (coded_at bytes p e left)
unfolding coded_at
coded_counts bytes p e left =
    yields.past (item_at bytes e.code) (λ item.
    yields.past (frame_at p e item) (λ frame.
    yields.past (body_at bytes p e.number item left.items) (λ body.
    yields.past (lined_at bytes item.debug body.1 (left.items - body_items (Some body.0))) (λ lines.
    after (cells_count body.0 left.cells) (λ cells counted.
    made (method_with e (Some body.0) lines.0, record { items = lines.1; cells = cells }) counted)))))

method_counts : (bytes : List ℕ) (p : Program) (e : Listed) (left : Budget) → Yields (λ r. Counts left.cells (method_cells r.0) r.1.cells) (method_at bytes p e left)
method_counts bytes p e left =
    either (eqb e.code 0) (made (method_with e None [], left) (record { sum = omega arith; within = λ le. le })) (coded_counts bytes p e left)

entries_count : (bytes : List ℕ) (p : Program) (es : List Listed) (left : Budget) → Yields (λ r. Counts left.cells (sum_by method_cells r.0) r.1.cells) (for_each (method_at bytes p) es left)
entries_count bytes p [] left = made ([], left) (record { sum = omega arith; within = λ le. le })
entries_count bytes p (e ∷ es) left =
    after (method_counts bytes p e left) (λ m one.
    after (entries_count bytes p es m.1) (λ ms more.
    made (m.0 ∷ ms.0, ms.1) (record { sum = omega (arith, one.sum, more.sum, sum_by-cons method_cells m.0 ms.0); within = λ le. more.within (one.within le) })))

methods_count : (bytes : List ℕ) (p : Program) (listed : Members) (left : Budget) → Yields (λ r. Counts left.cells (sum_by method_cells r.0) r.1.cells) (methods_of bytes p listed left)
unfolding methods_of
methods_count bytes p listed left = entries_count bytes p (listed.directs ++ listed.virtuals) left

-- ---- annotations

change_keeps : (change : Method → Method) → ((m : Method) → method_cells (change m) ≡ method_cells m) → (place : ℕ) (ms : List Method) → sum_by method_cells (change_at change place ms) ≡ sum_by method_cells ms
change_keeps change h place [] = refl
change_keeps change h zero (m ∷ ms) = sum_by-cons method_cells (change m) ms ∙ ap (λ n. n + sum_by method_cells ms) (h m) ∙ sym (sum_by-cons method_cells m ms)
change_keeps change h (suc place) (m ∷ ms) =
    sum_by-cons method_cells m (change_at change place ms) ∙ ap (λ n. method_cells m + n) (change_keeps change h place ms) ∙ sym (sum_by-cons method_cells m ms)

abbrev State : Type 0
State = List Method × (ℕ × ℕ)

abbrev weight : State → ℕ
weight s = sum_by method_cells s.0

own_keep : (bytes : List ℕ) (p : Program) (class : ℕ) (listed : List Listed) (at i : ℕ) (s : State) → Yields (λ t. weight t ≡ weight s) (mark_method bytes p class listed at i s)
unfolding mark_method
own_keep bytes p class listed at i s =
    yields.past (named_at bytes class (sizes_in p).methods listed at i s.1.0) (λ named.
    yields.past (set_at bytes p named.1.1 s.1.1) (λ marks.
    made (change_at (with_own_marks marks.0) named.0 s.0, (named.1.0, marks.1)) (change_keeps (with_own_marks marks.0) (λ m. refl) named.0 s.0)))

all_keep : (bytes : List ℕ) (p : Program) (class : ℕ) (listed : List Listed) (at i : ℕ) (s : State) → Yields (λ t. weight t ≡ weight s) (mark_parameters bytes p class listed at i s)
unfolding mark_parameters
all_keep bytes p class listed at i s =
    yields.past (named_at bytes class (sizes_in p).methods listed at i s.1.0) (λ named.
    yields.past (sets_at bytes p named.1.1 s.1.1) (λ marks.
    made (change_at (with_parameter_marks marks.0) named.0 s.0, (named.1.0, marks.1)) (change_keeps (with_parameter_marks marks.0) (λ m. refl) named.0 s.0)))

directory_keeps : (bytes : List ℕ) (p : Program) (class : ℕ) (listed : Members) (at : ℕ) (fields : List Field) (methods : List Method) (left : ℕ)
    → Yields (λ m. sum_by method_cells m.methods ≡ sum_by method_cells methods) (directory_at bytes p class listed at fields methods left)
unfolding directory_at
directory_keeps bytes p class listed at fields methods left =
    let ms = listed.directs ++ listed.virtuals in
    yields.past (need_at bytes at 16) (λ begins.
    yields.past (word_at bytes at) (λ set.
    yields.past (word_at bytes (at + 4)) (λ field_count.
    yields.past (word_at bytes (at + 8)) (λ method_count.
    yields.past (word_at bytes (at + 12)) (λ parameter_count.
    yields.past (need_at bytes at (16 + 8 * field_count + 8 * method_count + 8 * parameter_count)) (λ whole.
    yields.past (set_at bytes p set left) (λ marks.
    yields.past (steps (mark_field bytes p class (listed.statics ++ listed.instances) (at + 16)) 0 field_count (fields, (0, marks.1))) (λ own_fields.
    after (steps_keep (mark_method bytes p class ms (at + 16 + 8 * field_count)) weight (own_keep bytes p class ms (at + 16 + 8 * field_count)) 0 method_count (methods, (0, own_fields.1.1))) (λ own kept.
    after (steps_keep (mark_parameters bytes p class ms (at + 16 + 8 * field_count + 8 * method_count)) weight (all_keep bytes p class ms (at + 16 + 8 * field_count + 8 * method_count)) 0 parameter_count (own.0, (0, own.1.1))) (λ all same.
    made (marked marks.0 own_fields.0 all.0 all.1.1) (same ∙ kept)))))))))))

marked_keep : (bytes : List ℕ) (p : Program) (class : ℕ) (listed : Members) (offset : ℕ) (fields : List Field) (methods : List Method) (left : ℕ)
    → Yields (λ m. sum_by method_cells m.methods ≡ sum_by method_cells methods) (marked_at bytes p class listed offset fields methods left)
unfolding marked_at
marked_keep bytes p class listed offset fields methods left =
    either (eqb offset 0) (made (marked [] fields methods left) refl) (directory_keeps bytes p class listed offset fields methods left)

-- ---- classes

class_counts : (bytes : List ℕ) (p : Program) (at place : ℕ) (left : Budget) → Yields (λ r. Counts left.cells (class_cells r.0) r.1.cells) (class_at bytes p at place left)
unfolding class_at
class_counts bytes p at place left =
    yields.past (def_at bytes p at) (λ def.
    yields.past (interfaces_at bytes p def.interfaces left.items) (λ interfaces.
    yields.past (root_at p def interfaces.0 place) (λ root.
    yields.past (listed_at bytes p (record { place = place; kind = def.class }) def.data_at) (λ listed.
    after (methods_count bytes p listed (record { items = interfaces.1; cells = left.cells })) (λ methods counted.
    after (marked_keep bytes p place listed def.annotations (map field_with (listed.statics ++ listed.instances)) methods.0 methods.1.items) (λ marks kept.
    yields.past (begun_at bytes p def.static_values (length listed.statics) marks.fields marks.left) (λ fields.
    made (class_with def interfaces.0 marks fields.0, record { items = fields.1; cells = methods.1.cells })
    (record { sum = counted.sum ∙ ap (λ n. left.cells + n) (sym kept); within = counted.within }))))))))

classes_count : (bytes : List ℕ) (p : Program) (offset from count : ℕ) (left : Budget) → Yields (λ r. Counts left.cells (sum_by class_cells r.0) r.1.cells) (run (class_in bytes p offset) from count left)
classes_count bytes p offset from zero left = made ([], left) (record { sum = omega arith; within = λ le. le })
classes_count bytes p offset from (suc count) left =
    after (class_counts bytes p (offset + 32 * from) from left) (λ c one.
    after (classes_count bytes p offset (suc from) count c.1) (λ cs more.
    made (c.0 ∷ cs.0, cs.1) (record { sum = omega (arith, one.sum, more.sum, sum_by-cons class_cells c.0 cs.0); within = λ le. more.within (one.within le) })))

table_counts : (bytes : List ℕ) (p : Program) (count offset : ℕ) (left : Budget) → Yields (λ r. Counts left.cells (sum_by class_cells r.0) r.1.cells) (table_at bytes p count offset left)
unfolding table_at
table_counts bytes p count offset left =
    either (eqb count 0) (made ([], left) (record { sum = omega arith; within = λ le. le }))
    (yields.past (need_at bytes offset (32 * count)) (λ whole. classes_count bytes p offset 0 count left))

all_count : (bytes : List ℕ) (p : Program) (left : Budget) → left.cells ≡ 0 → Yields (λ classes. sum_by class_cells classes ≤ 67108864) (classes_at bytes p left)
unfolding classes_at
all_count bytes p left none =
    yields.past (word_at bytes 96) (λ count.
    yields.past (word_at bytes 100) (λ offset.
    after (table_counts bytes p count offset left) (λ cs counted.
    made cs.0 (omega (arith, counted.sum, counted.within (omega (arith, none)))))))

pub few_cells : (bytes : List ℕ) (p : Program) → program_at bytes ≡ Ok p → cells_of p ≤ 67108864
few_cells bytes p h =
    let r = is_read bytes p h in
    subst (λ (q : Program). cells_of q ≤ 67108864) (sym r.is) ((all_count bytes r.tables (record { items = r.left; cells = 0 }) refl).found r.classes r.filled)
