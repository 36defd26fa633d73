-- A file whose kinds of items are those of the written program is valid for it.
use Rattle.std.proofs.Common.{◌≡◌, ◌<◌, ◌+◌, ◌/◌, ℕ, zero, suc, false, List, [], ◌∷◌, ◌++◌, length, refl, sym, ap, subst, ◌∙◌, append_assoc, append-nil, arith, map}
use Rattle.std.specs.List.{flat_map}
use Rattle.dex_pools.specs.declared.interner.Interner.{Interner}
use Rattle.program_model.specs.declared.value.Mark.{Mark}
use Rattle.program_model.specs.declared.program.Program.{Program}
use Rattle.std.proofs.Common.{eqb}
use Rattle.std.proofs.lemmas.Bool.{ne_eqb}
use Rattle.dex_write.specs.declared.file.Counts.{Counts}
use Rattle.dex_write.specs.File.{table_rows}
use Rattle.dex_write.specs.File as writer
use Rattle.dex_defs.specs.Valid.{table_entry, table_entries, Stops, Parts, data_rows, map_rows, map_words, ref_offsets, set_offsets, entries_of, codes_of}
use Rattle.dex_defs.specs.Valid as valid
use Rattle.dex_write.specs.Runs.{map_row, run_rows}
use Rattle.dex_write.specs.Plans.{Plan}
use Rattle.dex_write.specs.Sets.{set_counts, ref_counts, directory_texts, marks_of, mark_starts}
use Rattle.dex_write.specs.Lists.{list_starts, type_lists, lists_at}
use Rattle.dex_write.specs.Codes.{parts_of}
use Rattle.dex_write.specs.Data.{data_texts, array_text, string_texts}
use Rattle.dex_write.specs.File.{data_at}
use Rattle.dex_write.specs.Places.{front_of, back_of, counts_of, runs_in, refs_run, words_run, words_behind, codes_run, places_behind, directories_behind, data_behind, strings_behind, lines_run, marks_behind, firsts_behind}
use Rattle.write_laws.specs.Placing.{AllLie, stops_of, code_offsets, line_offsets}
use Rattle.write_laws.proofs.Lying.{lie_grows}
use Rattle.write_laws.proofs.Coding.{starts_move, starts_count}
use Rattle.write_laws.proofs.Placing.{FitsPlans, last_end}
use Rattle.write_laws.proofs.Mapping.{Begins, begins_row, texts_begin, entries_begin, lists_begin, codes_begin, lines_begin, marks_begin, thirds_are}
use Rattle.dex_write.specs.Numbers.{up}
use Rattle.dex_defs.specs.Arranged.{Lie, row_of}
use Rattle.write_laws.specs.Kinds.{Same, SameCounts, Kinds}

-- what lies by the writer's words lies by those of the definition
pub lie_same : (bytes : List ℕ) (align from : ℕ) (offsets others : List ℕ) (texts other_texts : List (List ℕ)) (to : ℕ) → Same offsets others texts other_texts → Lie bytes align from others other_texts to → Lie bytes align from offsets texts to
lie_same bytes align from offsets others texts other_texts to s h = rw (s.offsets_are, s.texts_are) h

-- ---- every kind stands behind the header

pub record Positive (s : Stops) : Type 0 where
  pub lists : 0 < s.lists
  pub refs : 0 < s.refs
  pub sets : 0 < s.sets
  pub codes : 0 < s.codes
  pub directories : 0 < s.directories
  pub members : 0 < s.members
  pub strings : 0 < s.strings
  pub lines : 0 < s.lines
  pub marks : 0 < s.marks

pub stops_positive : (bytes : List ℕ) (p : Program) (i : Interner) (plans : List Plan) → AllLie bytes p i plans → Positive (stops_of p i plans)
stops_positive bytes p i plans x =
    let g0 : 0 < (data_at (counts_of i plans)) = omega arith in
    let g1 : 0 < (stops_of p i plans).lists = omega (arith, g0, lie_grows bytes 4 _ _ _ _ x.lists) in
    let g2 : 0 < (stops_of p i plans).refs = omega (arith, g1, lie_grows bytes 4 _ _ _ _ x.refs) in
    let g3 : 0 < (stops_of p i plans).sets = omega (arith, g2, lie_grows bytes 4 _ _ _ _ x.sets) in
    let g4 : 0 < (stops_of p i plans).codes = omega (arith, g3, lie_grows bytes 4 _ _ _ _ x.codes) in
    let g5 : 0 < (stops_of p i plans).directories = omega (arith, g4, lie_grows bytes 4 _ _ _ _ x.directories) in
    let g6 : 0 < (stops_of p i plans).members = omega (arith, g5, lie_grows bytes 1 _ _ _ _ x.members) in
    let g7 : 0 < (stops_of p i plans).strings = omega (arith, g6, lie_grows bytes 1 _ _ _ _ x.strings) in
    let g8 : 0 < (stops_of p i plans).lines = omega (arith, g7, lie_grows bytes 1 _ _ _ _ x.lines) in
    let g9 : 0 < (stops_of p i plans).marks = omega (arith, g8, lie_grows bytes 1 _ _ _ _ x.marks) in
    record { lists = g1; refs = g2; sets = g3; codes = g4; directories = g5; members = g6; strings = g7; lines = g8; marks = g9 }

-- ---- the map

lists_row : (p : Program) (i : Interner) (plans : List Plan) → Positive (stops_of p i plans) → map_row 0x1001 (front_of p i plans (data_at (counts_of i plans))).lists.run.count (front_of p i plans (data_at (counts_of i plans))).lists.run.at ≡ row_of 0x1001 (list_starts (data_at (counts_of i plans)) (type_lists p i plans))
unfolding stops_of front_of back_of lists_at refs_run words_run words_behind codes_run places_behind directories_behind data_behind strings_behind lines_run marks_behind firsts_behind
lists_row p i plans g = begins_row 0x1001 (front_of p i plans (data_at (counts_of i plans))).lists.run.at (front_of p i plans (data_at (counts_of i plans))).lists.run.count (list_starts (data_at (counts_of i plans)) (type_lists p i plans)) (lists_begin (data_at (counts_of i plans)) (type_lists p i plans) (omega arith) (omega arith))

refs_row : (p : Program) (i : Interner) (plans : List Plan) → Positive (stops_of p i plans) → map_row 0x1002 (back_of p i.numbers plans (front_of p i plans (data_at (counts_of i plans)))).refs.count (back_of p i.numbers plans (front_of p i plans (data_at (counts_of i plans)))).refs.at ≡ row_of 0x1002 (front_of p i plans (data_at (counts_of i plans))).refs.offsets
unfolding stops_of front_of back_of lists_at refs_run words_run words_behind codes_run places_behind directories_behind data_behind strings_behind lines_run marks_behind firsts_behind
refs_row p i plans g = begins_row 0x1002 (back_of p i.numbers plans (front_of p i plans (data_at (counts_of i plans)))).refs.at (back_of p i.numbers plans (front_of p i plans (data_at (counts_of i plans)))).refs.count (front_of p i plans (data_at (counts_of i plans))).refs.offsets (entries_begin (up (stops_of p i plans).lists) (flat_map ref_counts plans) (omega (arith, g.lists)))

sets_row : (p : Program) (i : Interner) (plans : List Plan) → Positive (stops_of p i plans) → map_row 0x1003 (back_of p i.numbers plans (front_of p i plans (data_at (counts_of i plans)))).sets.count (back_of p i.numbers plans (front_of p i plans (data_at (counts_of i plans)))).sets.at ≡ row_of 0x1003 (front_of p i plans (data_at (counts_of i plans))).sets.offsets
unfolding stops_of front_of back_of lists_at refs_run words_run words_behind codes_run places_behind directories_behind data_behind strings_behind lines_run marks_behind firsts_behind
sets_row p i plans g = begins_row 0x1003 (back_of p i.numbers plans (front_of p i plans (data_at (counts_of i plans)))).sets.at (back_of p i.numbers plans (front_of p i plans (data_at (counts_of i plans)))).sets.count (front_of p i plans (data_at (counts_of i plans))).sets.offsets (entries_begin (up (stops_of p i plans).refs) (flat_map set_counts plans) (omega (arith, g.refs)))

codes_row : (p : Program) (i : Interner) (plans : List Plan) → Positive (stops_of p i plans) → map_row 0x2001 (back_of p i.numbers plans (front_of p i plans (data_at (counts_of i plans)))).codes.count (back_of p i.numbers plans (front_of p i plans (data_at (counts_of i plans)))).codes.at ≡ row_of 0x2001 (code_offsets (front_of p i plans (data_at (counts_of i plans))).code.at (parts_of plans))
unfolding stops_of front_of back_of lists_at refs_run words_run words_behind codes_run places_behind directories_behind data_behind strings_behind lines_run marks_behind firsts_behind
codes_row p i plans g = begins_row 0x2001 (back_of p i.numbers plans (front_of p i plans (data_at (counts_of i plans)))).codes.at (back_of p i.numbers plans (front_of p i plans (data_at (counts_of i plans)))).codes.count (code_offsets (front_of p i plans (data_at (counts_of i plans))).code.at (parts_of plans)) (codes_begin (up (stops_of p i plans).sets) (parts_of plans) (omega (arith, g.sets)) (omega arith))

directories_row : (p : Program) (i : Interner) (plans : List Plan) → Positive (stops_of p i plans) → map_row 0x2006 (front_of p i plans (data_at (counts_of i plans))).directories.run.count (front_of p i plans (data_at (counts_of i plans))).directories.run.at ≡ row_of 0x2006 (front_of p i plans (data_at (counts_of i plans))).directories.offsets
unfolding stops_of front_of back_of lists_at refs_run words_run words_behind codes_run places_behind directories_behind data_behind strings_behind lines_run marks_behind firsts_behind
directories_row p i plans g = begins_row 0x2006 (front_of p i plans (data_at (counts_of i plans))).directories.run.at (front_of p i plans (data_at (counts_of i plans))).directories.run.count (front_of p i plans (data_at (counts_of i plans))).directories.offsets (texts_begin (up (stops_of p i plans).codes) (directory_texts plans (front_of p i plans (data_at (counts_of i plans))).sets.offsets (front_of p i plans (data_at (counts_of i plans))).refs.offsets) (omega (arith, g.codes)))

members_row : (p : Program) (i : Interner) (plans : List Plan) → Positive (stops_of p i plans) → map_row 0x2000 (front_of p i plans (data_at (counts_of i plans))).data.run.count (front_of p i plans (data_at (counts_of i plans))).data.run.at ≡ row_of 0x2000 (front_of p i plans (data_at (counts_of i plans))).data.offsets
unfolding stops_of front_of back_of lists_at refs_run words_run words_behind codes_run places_behind directories_behind data_behind strings_behind lines_run marks_behind firsts_behind
members_row p i plans g = begins_row 0x2000 (front_of p i plans (data_at (counts_of i plans))).data.run.at (front_of p i plans (data_at (counts_of i plans))).data.run.count (front_of p i plans (data_at (counts_of i plans))).data.offsets (texts_begin (stops_of p i plans).directories (data_texts (front_of p i plans (data_at (counts_of i plans))).code.at plans) g.directories)

strings_row : (p : Program) (i : Interner) (plans : List Plan) → Positive (stops_of p i plans) → map_row 0x2002 (front_of p i plans (data_at (counts_of i plans))).strings.run.count (front_of p i plans (data_at (counts_of i plans))).strings.run.at ≡ row_of 0x2002 (front_of p i plans (data_at (counts_of i plans))).strings.offsets
unfolding stops_of front_of back_of lists_at refs_run words_run words_behind codes_run places_behind directories_behind data_behind strings_behind lines_run marks_behind firsts_behind
strings_row p i plans g = begins_row 0x2002 (front_of p i plans (data_at (counts_of i plans))).strings.run.at (front_of p i plans (data_at (counts_of i plans))).strings.run.count (front_of p i plans (data_at (counts_of i plans))).strings.offsets (texts_begin (stops_of p i plans).members (string_texts p.strings i.order.strings.items) g.members)

lines_row : (p : Program) (i : Interner) (plans : List Plan) → Positive (stops_of p i plans) → map_row 0x2003 (back_of p i.numbers plans (front_of p i plans (data_at (counts_of i plans)))).lines.count (back_of p i.numbers plans (front_of p i plans (data_at (counts_of i plans)))).lines.at ≡ row_of 0x2003 (line_offsets (stops_of p i plans).strings (parts_of plans))
unfolding stops_of front_of back_of lists_at refs_run words_run words_behind codes_run places_behind directories_behind data_behind strings_behind lines_run marks_behind firsts_behind
lines_row p i plans g = begins_row 0x2003 (back_of p i.numbers plans (front_of p i plans (data_at (counts_of i plans)))).lines.at (back_of p i.numbers plans (front_of p i plans (data_at (counts_of i plans)))).lines.count (line_offsets (stops_of p i plans).strings (parts_of plans)) (lines_begin (stops_of p i plans).strings (parts_of plans) g.strings)

marks_row : (p : Program) (i : Interner) (plans : List Plan) → Positive (stops_of p i plans) → map_row 0x2004 (back_of p i.numbers plans (front_of p i plans (data_at (counts_of i plans)))).marks.count (back_of p i.numbers plans (front_of p i plans (data_at (counts_of i plans)))).marks.at ≡ row_of 0x2004 (map (λ start. (stops_of p i plans).lines + start) (mark_starts i.numbers 0 (flat_map (marks_of i.numbers) plans)))
unfolding stops_of front_of back_of lists_at refs_run words_run words_behind codes_run places_behind directories_behind data_behind strings_behind lines_run marks_behind firsts_behind
marks_row p i plans g =
    let ms : List Mark = flat_map (marks_of i.numbers) plans in
    let at : ℕ = (stops_of p i plans).lines in
    let none : at + 0 ≡ at = omega arith in
    let e : map (λ start. at + start) (mark_starts i.numbers 0 ms) ≡ mark_starts i.numbers at ms = starts_move i.numbers at 0 ms ∙ ap (λ n. mark_starts i.numbers n ms) none in
    let same : length (mark_starts i.numbers at ms) ≡ length (mark_starts i.numbers 0 ms) = starts_count i.numbers at ms ∙ sym (starts_count i.numbers 0 ms) in
    rw e (begins_row 0x2004 at (length (mark_starts i.numbers 0 ms)) (mark_starts i.numbers at ms) (subst (λ n. Begins at n (mark_starts i.numbers at ms)) same (marks_begin i.numbers at ms g.lines)))

values_row : (p : Program) (i : Interner) (plans : List Plan) → Positive (stops_of p i plans) → map_row 0x2005 (back_of p i.numbers plans (front_of p i plans (data_at (counts_of i plans)))).firsts.run.count (back_of p i.numbers plans (front_of p i plans (data_at (counts_of i plans)))).firsts.run.at ≡ row_of 0x2005 (back_of p i.numbers plans (front_of p i plans (data_at (counts_of i plans)))).firsts.offsets
unfolding stops_of front_of back_of lists_at refs_run words_run words_behind codes_run places_behind directories_behind data_behind strings_behind lines_run marks_behind firsts_behind
values_row p i plans g = begins_row 0x2005 (back_of p i.numbers plans (front_of p i plans (data_at (counts_of i plans)))).firsts.run.at (back_of p i.numbers plans (front_of p i plans (data_at (counts_of i plans)))).firsts.run.count (back_of p i.numbers plans (front_of p i plans (data_at (counts_of i plans)))).firsts.offsets (texts_begin (stops_of p i plans).marks (map (array_text p i.numbers) plans) g.marks)

ten_rows : (a b c d e f g h k l a2 b2 c2 d2 e2 f2 g2 h2 k2 l2 : List ℕ) → a ≡ a2 → b ≡ b2 → c ≡ c2 → d ≡ d2 → e ≡ e2 → f ≡ f2 → g ≡ g2 → h ≡ h2 → k ≡ k2 → l ≡ l2 → a ++ (b ++ (c ++ (d ++ (e ++ (f ++ (g ++ (h ++ (k ++ (l ++ []))))))))) ≡ a2 ++ (b2 ++ (c2 ++ (d2 ++ (e2 ++ (f2 ++ (g2 ++ (h2 ++ (k2 ++ (l2)))))))))
ten_rows a b c d e f g h k l a2 b2 c2 d2 e2 f2 g2 h2 k2 l2 p0 p1 p2 p3 p4 p5 p6 p7 p8 p9 = cc (append-nil l)

run_rows_are : (p : Program) (i : Interner) (plans : List Plan) → run_rows (runs_in (front_of p i plans (data_at (counts_of i plans))) (back_of p i.numbers plans (front_of p i plans (data_at (counts_of i plans))))) ≡ map_row 0x1001 (front_of p i plans (data_at (counts_of i plans))).lists.run.count (front_of p i plans (data_at (counts_of i plans))).lists.run.at ++ (map_row 0x1002 (back_of p i.numbers plans (front_of p i plans (data_at (counts_of i plans)))).refs.count (back_of p i.numbers plans (front_of p i plans (data_at (counts_of i plans)))).refs.at ++ (map_row 0x1003 (back_of p i.numbers plans (front_of p i plans (data_at (counts_of i plans)))).sets.count (back_of p i.numbers plans (front_of p i plans (data_at (counts_of i plans)))).sets.at ++ (map_row 0x2001 (back_of p i.numbers plans (front_of p i plans (data_at (counts_of i plans)))).codes.count (back_of p i.numbers plans (front_of p i plans (data_at (counts_of i plans)))).codes.at ++ (map_row 0x2006 (front_of p i plans (data_at (counts_of i plans))).directories.run.count (front_of p i plans (data_at (counts_of i plans))).directories.run.at ++ (map_row 0x2000 (front_of p i plans (data_at (counts_of i plans))).data.run.count (front_of p i plans (data_at (counts_of i plans))).data.run.at ++ (map_row 0x2002 (front_of p i plans (data_at (counts_of i plans))).strings.run.count (front_of p i plans (data_at (counts_of i plans))).strings.run.at ++ (map_row 0x2003 (back_of p i.numbers plans (front_of p i plans (data_at (counts_of i plans)))).lines.count (back_of p i.numbers plans (front_of p i plans (data_at (counts_of i plans)))).lines.at ++ (map_row 0x2004 (back_of p i.numbers plans (front_of p i plans (data_at (counts_of i plans)))).marks.count (back_of p i.numbers plans (front_of p i plans (data_at (counts_of i plans)))).marks.at ++ (map_row 0x2005 (back_of p i.numbers plans (front_of p i plans (data_at (counts_of i plans)))).firsts.run.count (back_of p i.numbers plans (front_of p i plans (data_at (counts_of i plans)))).firsts.run.at ++ [])))))))))
unfolding stops_of front_of back_of lists_at refs_run words_run words_behind codes_run places_behind directories_behind data_behind strings_behind lines_run marks_behind firsts_behind
run_rows_are p i plans = refl

pub rows_are : (bytes : List ℕ) (p : Program) (i : Interner) (plans : List Plan) (q : Program) (x : Parts) → Kinds bytes p i plans q x → Positive (stops_of p i plans) → run_rows (runs_in (front_of p i plans (data_at (counts_of i plans))) (back_of p i.numbers plans (front_of p i plans (data_at (counts_of i plans))))) ≡ data_rows x
rows_are bytes p i plans q x k g =
    run_rows_are p i plans ∙ ten_rows (map_row 0x1001 (front_of p i plans (data_at (counts_of i plans))).lists.run.count (front_of p i plans (data_at (counts_of i plans))).lists.run.at) (map_row 0x1002 (back_of p i.numbers plans (front_of p i plans (data_at (counts_of i plans)))).refs.count (back_of p i.numbers plans (front_of p i plans (data_at (counts_of i plans)))).refs.at) (map_row 0x1003 (back_of p i.numbers plans (front_of p i plans (data_at (counts_of i plans)))).sets.count (back_of p i.numbers plans (front_of p i plans (data_at (counts_of i plans)))).sets.at) (map_row 0x2001 (back_of p i.numbers plans (front_of p i plans (data_at (counts_of i plans)))).codes.count (back_of p i.numbers plans (front_of p i plans (data_at (counts_of i plans)))).codes.at) (map_row 0x2006 (front_of p i plans (data_at (counts_of i plans))).directories.run.count (front_of p i plans (data_at (counts_of i plans))).directories.run.at) (map_row 0x2000 (front_of p i plans (data_at (counts_of i plans))).data.run.count (front_of p i plans (data_at (counts_of i plans))).data.run.at) (map_row 0x2002 (front_of p i plans (data_at (counts_of i plans))).strings.run.count (front_of p i plans (data_at (counts_of i plans))).strings.run.at) (map_row 0x2003 (back_of p i.numbers plans (front_of p i plans (data_at (counts_of i plans)))).lines.count (back_of p i.numbers plans (front_of p i plans (data_at (counts_of i plans)))).lines.at) (map_row 0x2004 (back_of p i.numbers plans (front_of p i plans (data_at (counts_of i plans)))).marks.count (back_of p i.numbers plans (front_of p i plans (data_at (counts_of i plans)))).marks.at) (map_row 0x2005 (back_of p i.numbers plans (front_of p i plans (data_at (counts_of i plans)))).firsts.run.count (back_of p i.numbers plans (front_of p i plans (data_at (counts_of i plans)))).firsts.run.at) (row_of 0x1001 x.starts) (row_of 0x1002 (flat_map ref_offsets x.classes)) (row_of 0x1003 (flat_map set_offsets x.classes)) (row_of 0x2001 (map (λ e. e.code) (entries_of x.classes))) (row_of 0x2006 (map (λ c. c.def.annotations) x.classes)) (row_of 0x2000 (map (λ c. c.def.data_at) x.classes)) (row_of 0x2002 x.strings) (row_of 0x2003 (map (λ c. c.debug) (codes_of x.classes))) (row_of 0x2004 (flat_map (λ s. s.offsets) x.sets)) (row_of 0x2005 (map (λ c. c.def.values) x.classes))
    (lists_row p i plans g ∙ ap (λ (os : List ℕ). row_of 0x1001 os) (sym k.lists.offsets_are))
    (refs_row p i plans g ∙ ap (λ (os : List ℕ). row_of 0x1002 os) (sym k.refs.offsets_are))
    (sets_row p i plans g ∙ ap (λ (os : List ℕ). row_of 0x1003 os) (sym k.sets.offsets_are))
    (codes_row p i plans g ∙ ap (λ (os : List ℕ). row_of 0x2001 os) (sym k.codes.offsets_are))
    (directories_row p i plans g ∙ ap (λ (os : List ℕ). row_of 0x2006 os) (sym k.directories.offsets_are))
    (members_row p i plans g ∙ ap (λ (os : List ℕ). row_of 0x2000 os) (sym k.members.offsets_are))
    (strings_row p i plans g ∙ ap (λ (os : List ℕ). row_of 0x2002 os) (sym k.strings.offsets_are))
    (lines_row p i plans g ∙ ap (λ (os : List ℕ). row_of 0x2003 os) (sym k.lines.offsets_are))
    (marks_row p i plans g ∙ ap (λ (os : List ℕ). row_of 0x2004 os) (sym k.marks.offsets_are))
    (values_row p i plans g ∙ ap (λ (os : List ℕ). row_of 0x2005 os) (sym k.values.offsets_are))

-- ---- the tables' entries, and the header

table_row : (code n at : ℕ) → map_row code n at ≡ table_entry code n at
table_row code zero at = refl
table_row code (suc n) at = let e : eqb (suc n) 0 ≡ false = ne_eqb (suc n) 0 (λ z. absurd (omega (arith, z))) in rw e refl

table_place : (n at : ℕ) → writer.table_offset n at ≡ valid.table_offset n at
table_place zero at = refl
table_place (suc n) at = let e : eqb (suc n) 0 ≡ false = ne_eqb (suc n) 0 (λ z. absurd (omega (arith, z))) in rw e refl

abbrev pub counts_are : (i : Interner) (plans : List Plan) (q : Program) → SameCounts i plans q → Counts
counts_are i plans q s = record { strings = length q.strings; types = length q.types; protos = length q.protos; fields = length q.fields; methods = length q.methods; classes = length q.classes }

pub same_counts : (i : Interner) (plans : List Plan) (q : Program) (s : SameCounts i plans q) → counts_of i plans ≡ counts_are i plans q s
same_counts i plans q s = rw (s.strings, s.types, s.protos, s.fields, s.methods, s.classes) refl

tables_rows_are : (i : Interner) (plans : List Plan) (q : Program) (s : SameCounts i plans q) → (0 ∷ 1 ∷ 0 ∷ []) ++ table_rows (counts_are i plans q s) ≡ table_entries q
tables_rows_are i plans q s =
    rw (table_row 1 (length q.strings) 112, table_row 2 (length q.types) (valid.types_at q), table_row 3 (length q.protos) (valid.protos_at q), table_row 4 (length q.fields) (valid.fields_at q), table_row 5 (length q.methods) (valid.methods_at q), table_row 6 (length q.classes) (valid.classes_at q)) refl

pub header_tail : (i : Interner) (plans : List Plan) (q : Program) (s : SameCounts i plans q) (size at : ℕ) → writer.header_words (counts_are i plans q s) size at ≡ size ∷ 112 ∷ 0x12345678 ∷ valid.header_words q at size
unfolding writer.header_words
header_tail i plans q s size at =
    rw (table_place (length q.strings) 112, table_place (length q.types) (valid.types_at q), table_place (length q.protos) (valid.protos_at q), table_place (length q.fields) (valid.fields_at q), table_place (length q.methods) (valid.methods_at q), table_place (length q.classes) (valid.classes_at q)) refl

-- ---- the map and the header as the definition has them

-- where the map begins, behind the last kind
pub map_at : Program → Interner → List Plan → ℕ
map_at p i plans = writer.map_place (counts_of i plans) (runs_in (front_of p i plans (data_at (counts_of i plans))) (back_of p i.numbers plans (front_of p i plans (data_at (counts_of i plans)))))

pub ends_are_last : (p : Program) (i : Interner) (plans : List Plan) → FitsPlans p i plans → writer.ends_behind (data_at (counts_of i plans)) (runs_in (front_of p i plans (data_at (counts_of i plans))) (back_of p i.numbers plans (front_of p i plans (data_at (counts_of i plans))))) ≡ (stops_of p i plans).values
unfolding stops_of front_of back_of lists_at refs_run words_run words_behind codes_run places_behind directories_behind data_behind strings_behind lines_run marks_behind firsts_behind
ends_are_last p i plans fits = last_end p i plans fits

pub map_words_are : (p : Program) (i : Interner) (plans : List Plan) (q : Program) (x : Parts) (at : ℕ) → SameCounts i plans q → run_rows (runs_in (front_of p i plans (data_at (counts_of i plans))) (back_of p i.numbers plans (front_of p i plans (data_at (counts_of i plans))))) ≡ data_rows x → writer.map_words (counts_of i plans) (runs_in (front_of p i plans (data_at (counts_of i plans))) (back_of p i.numbers plans (front_of p i plans (data_at (counts_of i plans))))) at ≡ map_words q x at
unfolding writer.map_words
map_words_are p i plans q x at s e =
    let tail : List ℕ = 0x1000 ∷ 1 ∷ at ∷ [] in
    let tables : (0 ∷ 1 ∷ 0 ∷ []) ++ table_rows (counts_of i plans) ≡ table_entries q = ap (λ c. (0 ∷ 1 ∷ 0 ∷ []) ++ table_rows c) (same_counts i plans q s) ∙ tables_rows_are i plans q s in
    let rows : writer.map_rows (counts_of i plans) (runs_in (front_of p i plans (data_at (counts_of i plans))) (back_of p i.numbers plans (front_of p i plans (data_at (counts_of i plans))))) at ≡ map_rows q x at = sym (append_assoc (0 ∷ 1 ∷ 0 ∷ []) (table_rows (counts_of i plans)) (run_rows (runs_in (front_of p i plans (data_at (counts_of i plans))) (back_of p i.numbers plans (front_of p i plans (data_at (counts_of i plans))))) ++ tail)) ∙ ap (λ (l : List ℕ). l ++ (run_rows (runs_in (front_of p i plans (data_at (counts_of i plans))) (back_of p i.numbers plans (front_of p i plans (data_at (counts_of i plans))))) ++ tail)) tables ∙ ap (λ (l : List ℕ). table_entries q ++ (l ++ tail)) e in
    ap (λ (l : List ℕ). length l / 3 ∷ l) rows ∙ ap (λ (n : ℕ). n ∷ map_rows q x at) (sym (thirds_are (map_rows q x at)))
