-- Where the writer's items lie: each kind behind the one before it.
use Rattle.std.proofs.Common.{◌≡◌, ◌≤◌, ◌<◌, ◌+◌, ℕ, Bool, true, false, List, [], ◌∷◌, length, refl, sym, ap, subst, ◌∙◌, arith, nat_eq, map}
use Rattle.std.proofs.lemmas.Bool.{eqb-true, eqb-false}
use Rattle.std.specs.Prelude.{if◌then◌else◌}
use Rattle.std.specs.List.{flat_map, concat}
use Rattle.dex_pools.specs.declared.interner.Interner.{Interner}
use Rattle.dex_pools.specs.Written.{mark_text}
use Rattle.program_model.specs.declared.pass.Renumber.{Renumber}
use Rattle.program_model.specs.declared.value.Mark.{Mark}
use Rattle.program_model.specs.declared.program.Program.{Program}
use Rattle.dex_write.specs.declared.run.Kind.{Kind}
use Rattle.dex_write.specs.declared.run.Kind.TheVariants.{AnnotationSetRefList, AnnotationSet, AnnotationsDirectory, ClassData, StringData, EncodedArray}
use Rattle.dex_write.specs.declared.run.Run.{Run}
use Rattle.dex_write.specs.Numbers.{up, count_some, text_offsets}
use Rattle.dex_write.specs.Runs.{end_behind}
use Rattle.dex_write.specs.Plans.{Plan}
use Rattle.dex_write.specs.Sets.{offsets_at, ends_at, set_counts, ref_counts, parameter_offsets, directory_texts, marks_of, mark_starts}
use Rattle.dex_write.specs.Lists.{list_starts, list_text, type_lists, lists_at, list_run}
use Rattle.dex_write.specs.Codes.{parts_of, count_codes, count_lines, codes_behind}
use Rattle.dex_write.specs.Data.{data_texts, array_text, string_texts}
use Rattle.dex_write.specs.File.{data_at, ends_behind}
use Rattle.dex_write.specs.Places.{items_of, items_run, words_end, words_behind, words_run, codes_end, places_behind, directories_behind, data_behind, strings_behind, front_of, codes_run, lines_run, refs_run, marks_run, marks_behind, firsts_behind, back_of, counts_of, runs_in}
use Rattle.dex_defs.specs.Arranged.{Lie}
use Rattle.write_laws.specs.Placing.{entry_texts, item_texts, code_offsets, line_offsets, stops_of, AllLie}
use Rattle.write_laws.proofs.Runs.{RunStands, RunsStand, RunsAscend}
use Rattle.write_laws.proofs.Lying.{Fours, total, texts_lie, fours_lie, lie_behind, entries_lie, lists_lie, none_texts, none_entries, none_lists, some_named, up_next, ends_are, lie_grows}
use Rattle.write_laws.proofs.Coding.{AreWhole, codes_lie, lines_lie, marks_lie, none_coded, none_lined, none_marked, some_coded, starts_count, codes_length, lines_length, marks_length, starts_move}

-- ---- where a run with items, or none, ends

by_none : {X : Type 0} (b : Bool) (x y : X) → b ≡ true → (if b then x else y) ≡ x
by_none b x y e = rw e refl

by_some : {X : Type 0} (b : Bool) (x y : X) → b ≡ false → (if b then x else y) ≡ y
by_some b x y e = rw e refl

-- ---- items whose places are known when they are written

placed_anywhere : (bytes : List ℕ) (kind : Kind) (at : ℕ) (texts : List (List ℕ)) (none : Bool) → 0 < at → nat_eq (count_some (text_offsets at texts)) 0 ≡ none → RunStands bytes at (items_run kind at (items_of at texts))
    → Lie bytes 1 at (text_offsets at texts) texts (end_behind at (items_run kind at (items_of at texts)))
placed_anywhere bytes kind at texts true lt e run = rw e (none_texts bytes 1 at at texts lt (eqb-true _ 0 e))
placed_anywhere bytes kind at texts false lt e run = rw e (texts_lie bytes at texts lt (run.here e))

placed_fours : (bytes : List ℕ) (kind : Kind) (before : ℕ) (texts : List (List ℕ)) (none : Bool) → 0 < before → Fours texts → nat_eq (count_some (text_offsets (up before) texts)) 0 ≡ none → RunStands bytes before (items_run kind (up before) (items_of (up before) texts))
    → Lie bytes 4 before (text_offsets (up before) texts) texts (end_behind before (items_run kind (up before) (items_of (up before) texts)))
placed_fours bytes kind before texts true lt f e run = rw e (none_texts bytes 4 (up before) before texts (omega (arith, lt)) (eqb-true _ 0 e))
placed_fours bytes kind before texts false lt f e run =
    rw e (lie_behind bytes before (up before) (text_offsets (up before) texts) texts (up before + length (concat texts)) (up_next before) (run.zeros e) (eqb-false (count_some (text_offsets (up before) texts)) 0 e) (fours_lie bytes (up before) texts (omega (arith, lt)) (up_next before).aligned f (run.here e)))

-- ---- lists of offsets

words_ends : (kind : Kind) (before base : ℕ) (counts entries : List ℕ) (none : Bool) → nat_eq (count_some counts) 0 ≡ none → total counts ≤ length entries → end_behind before (words_run kind (words_behind before counts) entries base) ≡ words_end before counts
unfolding words_run words_behind
words_ends kind before base counts entries true e le = rw e refl
words_ends kind before base counts entries false e le = rw e (sym (ends_are (up before) base counts entries le))

words_placed : (bytes : List ℕ) (kind : Kind) (before base : ℕ) (counts entries : List ℕ) (none : Bool) → nat_eq (count_some counts) 0 ≡ none → 0 < before → total counts ≤ length entries → RunStands bytes before (words_run kind (words_behind before counts) entries base)
    → Lie bytes 4 before (offsets_at (up before) counts) (entry_texts base counts entries) (words_end before counts)
unfolding words_run words_behind
words_placed bytes kind before base counts entries true e lt le run = rw e (none_entries bytes base (up before) before counts entries (eqb-true _ 0 e))
words_placed bytes kind before base counts entries false e lt le run =
    rw e (lie_behind bytes before (up before) (offsets_at (up before) counts) (entry_texts base counts entries) (ends_at (up before) counts) (up_next before) (run.zeros e) (λ z. eqb-false (count_some counts) 0 e (some_named (up before) counts (omega (arith, lt)) z)) (entries_lie bytes base (up before) counts entries (omega (arith, lt)) (up_next before).aligned le (run.here e)))

-- ---- type lists

lists_placed : (bytes : List ℕ) (at : ℕ) (lists : List (List ℕ)) (none : Bool) → 0 < at → nat_eq (length (list_starts at lists)) 0 ≡ none → RunStands bytes at (list_run at lists) → Lie bytes 4 at (list_starts at lists) (map list_text lists) (end_behind at (list_run at lists))
lists_placed bytes at lists true lt e run = rw e (none_lists bytes at at lists (eqb-true _ 0 e))
lists_placed bytes at lists false lt e run = rw e (lists_lie bytes at lists lt (run.here e))

-- ---- code, debug items and annotations

codes_ends : (before lines_at : ℕ) (plans : List Plan) (none : Bool) → nat_eq (count_codes (parts_of plans)) 0 ≡ none → AreWhole (parts_of plans) → end_behind before (codes_run plans (places_behind before plans) lines_at) ≡ codes_end before (count_codes (parts_of plans)) plans
unfolding codes_run places_behind
codes_ends before lines_at plans true e w = rw e refl
codes_ends before lines_at plans false e w = rw e (codes_length (up before) lines_at (parts_of plans) w)

codes_placed : (bytes : List ℕ) (before lines_at : ℕ) (plans : List Plan) (none : Bool) → nat_eq (count_codes (parts_of plans)) 0 ≡ none → 0 < before → AreWhole (parts_of plans) → RunStands bytes before (codes_run plans (places_behind before plans) lines_at)
    → Lie bytes 4 before (code_offsets (up before) (parts_of plans)) (item_texts lines_at (parts_of plans)) (codes_end before (count_codes (parts_of plans)) plans)
unfolding codes_run places_behind
codes_placed bytes before lines_at plans true e lt w run = rw e (none_coded bytes (up before) lines_at before (parts_of plans) (eqb-true _ 0 e))
codes_placed bytes before lines_at plans false e lt w run =
    rw e (lie_behind bytes before (up before) (code_offsets (up before) (parts_of plans)) (item_texts lines_at (parts_of plans)) (codes_behind (up before) (parts_of plans)) (up_next before) (run.zeros e) (λ z. eqb-false (count_codes (parts_of plans)) 0 e (some_coded (up before) (parts_of plans) (omega (arith, lt)) w z)) (codes_lie bytes (up before) lines_at (parts_of plans) (omega (arith, lt)) w (run.here e)))

lines_placed : (bytes : List ℕ) (at : ℕ) (plans : List Plan) (none : Bool) → nat_eq (count_lines (parts_of plans)) 0 ≡ none → 0 < at → RunStands bytes at (lines_run plans (count_lines (parts_of plans)) at)
    → Lie bytes 1 at (line_offsets at (parts_of plans)) (map (λ m. m.lines) (parts_of plans)) (end_behind at (lines_run plans (count_lines (parts_of plans)) at))
unfolding lines_run
lines_placed bytes at plans true e lt run = rw e (none_lined bytes at at (parts_of plans) (eqb-true _ 0 e))
lines_placed bytes at plans false e lt run = rw (e, lines_length at (parts_of plans)) (lines_lie bytes at (parts_of plans) lt (run.here e))

marks_here : (bytes : List ℕ) (r : Renumber) (at : ℕ) (plans : List Plan) (none : Bool) → nat_eq (length (mark_starts r 0 (flat_map (marks_of r) plans))) 0 ≡ none → 0 < at → RunStands bytes at (marks_run r plans at)
    → Lie bytes 1 at (mark_starts r at (flat_map (marks_of r) plans)) (map (mark_text r) (flat_map (marks_of r) plans)) (end_behind at (marks_run r plans at))
marks_here bytes r at plans true e lt run =
    let ms : List Mark = flat_map (marks_of r) plans in
    let n : length (mark_starts r at ms) ≡ 0 = starts_count r at ms ∙ sym (starts_count r 0 ms) ∙ eqb-true _ 0 e in
    rw e (none_marked bytes r at at ms n)
marks_here bytes r at plans false e lt run = rw (e, marks_length r at (flat_map (marks_of r) plans)) (marks_lie bytes r at (flat_map (marks_of r) plans) lt (run.here e))

marks_placed : (bytes : List ℕ) (r : Renumber) (at : ℕ) (plans : List Plan) → 0 < at → RunStands bytes at (marks_run r plans at)
    → Lie bytes 1 at (map (λ start. at + start) (mark_starts r 0 (flat_map (marks_of r) plans))) (map (mark_text r) (flat_map (marks_of r) plans)) (end_behind at (marks_run r plans at))
marks_placed bytes r at plans lt run =
    let ms : List Mark = flat_map (marks_of r) plans in
    let none : at + 0 ≡ at = omega arith in
    let e : map (λ start. at + start) (mark_starts r 0 ms) ≡ mark_starts r at ms = starts_move r at 0 ms ∙ ap (λ n. mark_starts r n ms) none in
    rw e (marks_here bytes r at plans (nat_eq (length (mark_starts r 0 ms)) 0) refl lt run)

-- ---- the whole: the runs of a file begin behind one another, and each kind lies

-- what is left to show of the numbers of what a plan has: as many offsets as are counted, whole code items and directories
pub record FitsPlans (p : Program) (i : Interner) (plans : List Plan) : Type 0 where
  pub refs : total (flat_map ref_counts plans) ≤ length (parameter_offsets plans (front_of p i plans (data_at (counts_of i plans))).sets.offsets)
  pub sets : total (flat_map set_counts plans) ≤ length (mark_starts i.numbers 0 (flat_map (marks_of i.numbers) plans))
  pub codes : AreWhole (parts_of plans)
  pub directories : Fours (directory_texts plans (front_of p i plans (data_at (counts_of i plans))).sets.offsets (front_of p i plans (data_at (counts_of i plans))).refs.offsets)

ascend : (at next : ℕ) (run : Run) (runs : List Run) → (nat_eq run.count 0 ≡ false → at ≤ run.at) → end_behind at run ≡ next → RunsAscend next runs → RunsAscend at (run ∷ runs)
ascend at next run runs le e h = (le, subst (λ n. RunsAscend n runs) (sym e) h)

part : (bytes : List ℕ) (at next : ℕ) (run : Run) (runs : List Run) → end_behind at run ≡ next → RunsStand bytes at (run ∷ runs) → RunsStand bytes next runs
part bytes at next run runs e h = subst (λ n. RunsStand bytes n runs) e h.1

-- where the code ends
refs_end : (p : Program) (i : Interner) (plans : List Plan) → FitsPlans p i plans → end_behind (stops_of p i plans).lists (back_of p i.numbers plans (front_of p i plans (data_at (counts_of i plans)))).refs ≡ (stops_of p i plans).refs
unfolding stops_of front_of back_of refs_run words_behind
refs_end p i plans fits = words_ends AnnotationSetRefList (stops_of p i plans).lists 0 (flat_map ref_counts plans) (parameter_offsets plans (front_of p i plans (data_at (counts_of i plans))).sets.offsets) (nat_eq (count_some (flat_map ref_counts plans)) 0) refl fits.refs

sets_end : (p : Program) (i : Interner) (plans : List Plan) → FitsPlans p i plans → end_behind (stops_of p i plans).refs (back_of p i.numbers plans (front_of p i plans (data_at (counts_of i plans)))).sets ≡ (stops_of p i plans).sets
unfolding stops_of front_of back_of marks_behind words_behind
sets_end p i plans fits = words_ends AnnotationSet (stops_of p i plans).refs (stops_of p i plans).lines (flat_map set_counts plans) (mark_starts i.numbers 0 (flat_map (marks_of i.numbers) plans)) (nat_eq (count_some (flat_map set_counts plans)) 0) refl fits.sets

codes_end_is : (p : Program) (i : Interner) (plans : List Plan) → FitsPlans p i plans → end_behind (stops_of p i plans).sets (back_of p i.numbers plans (front_of p i plans (data_at (counts_of i plans)))).codes ≡ (stops_of p i plans).codes
unfolding stops_of front_of back_of places_behind
codes_end_is p i plans fits = codes_ends (stops_of p i plans).sets (stops_of p i plans).strings plans (nat_eq (count_codes (parts_of plans)) 0) refl fits.codes

-- ten runs, each of which begins behind the one before it
record Ends (e0 s1 s2 s3 s4 s5 s6 s7 s8 s9 : ℕ) (a b c d e f g h k l : Run) : Type 0 where
  end_a : end_behind e0 a ≡ s1
  end_b : end_behind s1 b ≡ s2
  end_c : end_behind s2 c ≡ s3
  end_d : end_behind s3 d ≡ s4
  end_e : end_behind s4 e ≡ s5
  end_f : end_behind s5 f ≡ s6
  end_g : end_behind s6 g ≡ s7
  end_h : end_behind s7 h ≡ s8
  end_k : end_behind s8 k ≡ s9
  low_a : e0 ≤ a.at
  low_b : s1 ≤ b.at
  low_c : s2 ≤ c.at
  low_d : s3 ≤ d.at
  low_e : s4 ≤ e.at
  low_f : s5 ≤ f.at
  low_g : s6 ≤ g.at
  low_h : s7 ≤ h.at
  low_k : s8 ≤ k.at
  low_l : s9 ≤ l.at

ten_ascend : (e0 s1 s2 s3 s4 s5 s6 s7 s8 s9 : ℕ) (a b c d e f g h k l : Run) → Ends e0 s1 s2 s3 s4 s5 s6 s7 s8 s9 a b c d e f g h k l → RunsAscend e0 (a ∷ b ∷ c ∷ d ∷ e ∷ f ∷ g ∷ h ∷ k ∷ l ∷ [])
ten_ascend e0 s1 s2 s3 s4 s5 s6 s7 s8 s9 a b c d e f g h k l x =
    ascend e0 s1 a (b ∷ c ∷ d ∷ e ∷ f ∷ g ∷ h ∷ k ∷ l ∷ []) (λ z. x.low_a) x.end_a (ascend s1 s2 b (c ∷ d ∷ e ∷ f ∷ g ∷ h ∷ k ∷ l ∷ []) (λ z. x.low_b) x.end_b (ascend s2 s3 c (d ∷ e ∷ f ∷ g ∷ h ∷ k ∷ l ∷ []) (λ z. x.low_c) x.end_c (ascend s3 s4 d (e ∷ f ∷ g ∷ h ∷ k ∷ l ∷ []) (λ z. x.low_d) x.end_d (ascend s4 s5 e (f ∷ g ∷ h ∷ k ∷ l ∷ []) (λ z. x.low_e) x.end_e (ascend s5 s6 f (g ∷ h ∷ k ∷ l ∷ []) (λ z. x.low_f) x.end_f (ascend s6 s7 g (h ∷ k ∷ l ∷ []) (λ z. x.low_g) x.end_g (ascend s7 s8 h (k ∷ l ∷ []) (λ z. x.low_h) x.end_h (ascend s8 s9 k (l ∷ []) (λ z. x.low_k) x.end_k ((λ z. x.low_l, tt))))))))))

pub record Ten (bytes : List ℕ) (e0 s1 s2 s3 s4 s5 s6 s7 s8 s9 : ℕ) (a b c d e f g h k l : Run) : Type 0 where
  pub stands_a : RunStands bytes e0 a
  pub stands_b : RunStands bytes s1 b
  pub stands_c : RunStands bytes s2 c
  pub stands_d : RunStands bytes s3 d
  pub stands_e : RunStands bytes s4 e
  pub stands_f : RunStands bytes s5 f
  pub stands_g : RunStands bytes s6 g
  pub stands_h : RunStands bytes s7 h
  pub stands_k : RunStands bytes s8 k
  pub stands_l : RunStands bytes s9 l

ten_stand : (bytes : List ℕ) (e0 s1 s2 s3 s4 s5 s6 s7 s8 s9 : ℕ) (a b c d e f g h k l : Run) → Ends e0 s1 s2 s3 s4 s5 s6 s7 s8 s9 a b c d e f g h k l → RunsStand bytes e0 (a ∷ b ∷ c ∷ d ∷ e ∷ f ∷ g ∷ h ∷ k ∷ l ∷ []) → Ten bytes e0 s1 s2 s3 s4 s5 s6 s7 s8 s9 a b c d e f g h k l
ten_stand bytes e0 s1 s2 s3 s4 s5 s6 s7 s8 s9 a b c d e f g h k l x r0 =
    let r1 : RunsStand bytes s1 (b ∷ c ∷ d ∷ e ∷ f ∷ g ∷ h ∷ k ∷ l ∷ []) = part bytes e0 s1 a (b ∷ c ∷ d ∷ e ∷ f ∷ g ∷ h ∷ k ∷ l ∷ []) x.end_a r0 in
    let r2 : RunsStand bytes s2 (c ∷ d ∷ e ∷ f ∷ g ∷ h ∷ k ∷ l ∷ []) = part bytes s1 s2 b (c ∷ d ∷ e ∷ f ∷ g ∷ h ∷ k ∷ l ∷ []) x.end_b r1 in
    let r3 : RunsStand bytes s3 (d ∷ e ∷ f ∷ g ∷ h ∷ k ∷ l ∷ []) = part bytes s2 s3 c (d ∷ e ∷ f ∷ g ∷ h ∷ k ∷ l ∷ []) x.end_c r2 in
    let r4 : RunsStand bytes s4 (e ∷ f ∷ g ∷ h ∷ k ∷ l ∷ []) = part bytes s3 s4 d (e ∷ f ∷ g ∷ h ∷ k ∷ l ∷ []) x.end_d r3 in
    let r5 : RunsStand bytes s5 (f ∷ g ∷ h ∷ k ∷ l ∷ []) = part bytes s4 s5 e (f ∷ g ∷ h ∷ k ∷ l ∷ []) x.end_e r4 in
    let r6 : RunsStand bytes s6 (g ∷ h ∷ k ∷ l ∷ []) = part bytes s5 s6 f (g ∷ h ∷ k ∷ l ∷ []) x.end_f r5 in
    let r7 : RunsStand bytes s7 (h ∷ k ∷ l ∷ []) = part bytes s6 s7 g (h ∷ k ∷ l ∷ []) x.end_g r6 in
    let r8 : RunsStand bytes s8 (k ∷ l ∷ []) = part bytes s7 s8 h (k ∷ l ∷ []) x.end_h r7 in
    let r9 : RunsStand bytes s9 (l ∷ []) = part bytes s8 s9 k (l ∷ []) x.end_k r8 in
    record { stands_a = r0.0; stands_b = r1.0; stands_c = r2.0; stands_d = r3.0; stands_e = r4.0; stands_f = r5.0; stands_g = r6.0; stands_h = r7.0; stands_k = r8.0; stands_l = r9.0 }

file_ends : (p : Program) (i : Interner) (plans : List Plan) → FitsPlans p i plans → Ends (data_at (counts_of i plans)) (stops_of p i plans).lists (stops_of p i plans).refs (stops_of p i plans).sets (stops_of p i plans).codes (stops_of p i plans).directories (stops_of p i plans).members (stops_of p i plans).strings (stops_of p i plans).lines (stops_of p i plans).marks (front_of p i plans (data_at (counts_of i plans))).lists.run (back_of p i.numbers plans (front_of p i plans (data_at (counts_of i plans)))).refs (back_of p i.numbers plans (front_of p i plans (data_at (counts_of i plans)))).sets (back_of p i.numbers plans (front_of p i plans (data_at (counts_of i plans)))).codes (front_of p i plans (data_at (counts_of i plans))).directories.run (front_of p i plans (data_at (counts_of i plans))).data.run (front_of p i plans (data_at (counts_of i plans))).strings.run (back_of p i.numbers plans (front_of p i plans (data_at (counts_of i plans)))).lines (back_of p i.numbers plans (front_of p i plans (data_at (counts_of i plans)))).marks (back_of p i.numbers plans (front_of p i plans (data_at (counts_of i plans)))).firsts.run
unfolding stops_of front_of back_of lists_at refs_run words_run words_behind codes_run places_behind directories_behind data_behind strings_behind lines_run marks_behind firsts_behind
file_ends p i plans fits = record {
  end_a = refl;
  end_b = refs_end p i plans fits;
  end_c = sets_end p i plans fits;
  end_d = codes_end_is p i plans fits;
  end_e = refl;
  end_f = refl;
  end_g = refl;
  end_h = refl;
  end_k = refl;
  low_a = omega arith;
  low_b = omega arith;
  low_c = omega arith;
  low_d = omega arith;
  low_e = omega arith;
  low_f = omega arith;
  low_g = omega arith;
  low_h = omega arith;
  low_k = omega arith;
  low_l = omega arith;
}

pub runs_ascend : (p : Program) (i : Interner) (plans : List Plan) → FitsPlans p i plans → RunsAscend (data_at (counts_of i plans)) (runs_in (front_of p i plans (data_at (counts_of i plans))) (back_of p i.numbers plans (front_of p i plans (data_at (counts_of i plans)))))
runs_ascend p i plans fits = ten_ascend (data_at (counts_of i plans)) (stops_of p i plans).lists (stops_of p i plans).refs (stops_of p i plans).sets (stops_of p i plans).codes (stops_of p i plans).directories (stops_of p i plans).members (stops_of p i plans).strings (stops_of p i plans).lines (stops_of p i plans).marks (front_of p i plans (data_at (counts_of i plans))).lists.run (back_of p i.numbers plans (front_of p i plans (data_at (counts_of i plans)))).refs (back_of p i.numbers plans (front_of p i plans (data_at (counts_of i plans)))).sets (back_of p i.numbers plans (front_of p i plans (data_at (counts_of i plans)))).codes (front_of p i plans (data_at (counts_of i plans))).directories.run (front_of p i plans (data_at (counts_of i plans))).data.run (front_of p i plans (data_at (counts_of i plans))).strings.run (back_of p i.numbers plans (front_of p i plans (data_at (counts_of i plans)))).lines (back_of p i.numbers plans (front_of p i plans (data_at (counts_of i plans)))).marks (back_of p i.numbers plans (front_of p i plans (data_at (counts_of i plans)))).firsts.run (file_ends p i plans fits)

pub runs_placed : (bytes : List ℕ) (p : Program) (i : Interner) (plans : List Plan) → FitsPlans p i plans → RunsStand bytes (data_at (counts_of i plans)) (runs_in (front_of p i plans (data_at (counts_of i plans))) (back_of p i.numbers plans (front_of p i plans (data_at (counts_of i plans))))) → Ten bytes (data_at (counts_of i plans)) (stops_of p i plans).lists (stops_of p i plans).refs (stops_of p i plans).sets (stops_of p i plans).codes (stops_of p i plans).directories (stops_of p i plans).members (stops_of p i plans).strings (stops_of p i plans).lines (stops_of p i plans).marks (front_of p i plans (data_at (counts_of i plans))).lists.run (back_of p i.numbers plans (front_of p i plans (data_at (counts_of i plans)))).refs (back_of p i.numbers plans (front_of p i plans (data_at (counts_of i plans)))).sets (back_of p i.numbers plans (front_of p i plans (data_at (counts_of i plans)))).codes (front_of p i plans (data_at (counts_of i plans))).directories.run (front_of p i plans (data_at (counts_of i plans))).data.run (front_of p i plans (data_at (counts_of i plans))).strings.run (back_of p i.numbers plans (front_of p i plans (data_at (counts_of i plans)))).lines (back_of p i.numbers plans (front_of p i plans (data_at (counts_of i plans)))).marks (back_of p i.numbers plans (front_of p i plans (data_at (counts_of i plans)))).firsts.run
runs_placed bytes p i plans fits r = ten_stand bytes (data_at (counts_of i plans)) (stops_of p i plans).lists (stops_of p i plans).refs (stops_of p i plans).sets (stops_of p i plans).codes (stops_of p i plans).directories (stops_of p i plans).members (stops_of p i plans).strings (stops_of p i plans).lines (stops_of p i plans).marks (front_of p i plans (data_at (counts_of i plans))).lists.run (back_of p i.numbers plans (front_of p i plans (data_at (counts_of i plans)))).refs (back_of p i.numbers plans (front_of p i plans (data_at (counts_of i plans)))).sets (back_of p i.numbers plans (front_of p i plans (data_at (counts_of i plans)))).codes (front_of p i plans (data_at (counts_of i plans))).directories.run (front_of p i plans (data_at (counts_of i plans))).data.run (front_of p i plans (data_at (counts_of i plans))).strings.run (back_of p i.numbers plans (front_of p i plans (data_at (counts_of i plans)))).lines (back_of p i.numbers plans (front_of p i plans (data_at (counts_of i plans)))).marks (back_of p i.numbers plans (front_of p i plans (data_at (counts_of i plans)))).firsts.run (file_ends p i plans fits) r

-- where the last of the ten ends
ten_end : (e0 s1 s2 s3 s4 s5 s6 s7 s8 s9 : ℕ) (a b c d e f g h k l : Run) → Ends e0 s1 s2 s3 s4 s5 s6 s7 s8 s9 a b c d e f g h k l → ends_behind e0 (a ∷ b ∷ c ∷ d ∷ e ∷ f ∷ g ∷ h ∷ k ∷ l ∷ []) ≡ end_behind s9 l
ten_end e0 s1 s2 s3 s4 s5 s6 s7 s8 s9 a b c d e f g h k l x = rw (x.end_a, x.end_b, x.end_c, x.end_d, x.end_e, x.end_f, x.end_g, x.end_h, x.end_k) refl

pub last_end : (p : Program) (i : Interner) (plans : List Plan) → FitsPlans p i plans → ends_behind (data_at (counts_of i plans)) (runs_in (front_of p i plans (data_at (counts_of i plans))) (back_of p i.numbers plans (front_of p i plans (data_at (counts_of i plans))))) ≡ end_behind (stops_of p i plans).marks (back_of p i.numbers plans (front_of p i plans (data_at (counts_of i plans)))).firsts.run
last_end p i plans fits = ten_end (data_at (counts_of i plans)) (stops_of p i plans).lists (stops_of p i plans).refs (stops_of p i plans).sets (stops_of p i plans).codes (stops_of p i plans).directories (stops_of p i plans).members (stops_of p i plans).strings (stops_of p i plans).lines (stops_of p i plans).marks (front_of p i plans (data_at (counts_of i plans))).lists.run (back_of p i.numbers plans (front_of p i plans (data_at (counts_of i plans)))).refs (back_of p i.numbers plans (front_of p i plans (data_at (counts_of i plans)))).sets (back_of p i.numbers plans (front_of p i plans (data_at (counts_of i plans)))).codes (front_of p i plans (data_at (counts_of i plans))).directories.run (front_of p i plans (data_at (counts_of i plans))).data.run (front_of p i plans (data_at (counts_of i plans))).strings.run (back_of p i.numbers plans (front_of p i plans (data_at (counts_of i plans)))).lines (back_of p i.numbers plans (front_of p i plans (data_at (counts_of i plans)))).marks (back_of p i.numbers plans (front_of p i plans (data_at (counts_of i plans)))).firsts.run (file_ends p i plans fits)

-- ---- each kind lies

lists_lie_here : (bytes : List ℕ) (p : Program) (i : Interner) (plans : List Plan) → FitsPlans p i plans → 0 < (data_at (counts_of i plans)) → RunStands bytes (data_at (counts_of i plans)) (front_of p i plans (data_at (counts_of i plans))).lists.run
    → Lie bytes 4 (data_at (counts_of i plans)) (list_starts (data_at (counts_of i plans)) (type_lists p i plans)) (map list_text (type_lists p i plans)) (stops_of p i plans).lists
unfolding stops_of front_of back_of lists_at refs_run words_run words_behind codes_run places_behind directories_behind data_behind strings_behind lines_run marks_behind firsts_behind
lists_lie_here bytes p i plans fits lt run = lists_placed bytes _ (type_lists p i plans) _ lt refl run

refs_lie_here : (bytes : List ℕ) (p : Program) (i : Interner) (plans : List Plan) → FitsPlans p i plans → 0 < (stops_of p i plans).lists → RunStands bytes (stops_of p i plans).lists (back_of p i.numbers plans (front_of p i plans (data_at (counts_of i plans)))).refs
    → Lie bytes 4 (stops_of p i plans).lists (front_of p i plans (data_at (counts_of i plans))).refs.offsets (entry_texts 0 (flat_map ref_counts plans) (parameter_offsets plans (front_of p i plans (data_at (counts_of i plans))).sets.offsets)) (stops_of p i plans).refs
unfolding stops_of front_of back_of lists_at refs_run words_run words_behind codes_run places_behind directories_behind data_behind strings_behind lines_run marks_behind firsts_behind
refs_lie_here bytes p i plans fits lt run = words_placed bytes AnnotationSetRefList _ 0 (flat_map ref_counts plans) (parameter_offsets plans (front_of p i plans (data_at (counts_of i plans))).sets.offsets) _ refl lt fits.refs run

sets_lie_here : (bytes : List ℕ) (p : Program) (i : Interner) (plans : List Plan) → FitsPlans p i plans → 0 < (stops_of p i plans).refs → RunStands bytes (stops_of p i plans).refs (back_of p i.numbers plans (front_of p i plans (data_at (counts_of i plans)))).sets
    → Lie bytes 4 (stops_of p i plans).refs (front_of p i plans (data_at (counts_of i plans))).sets.offsets (entry_texts (stops_of p i plans).lines (flat_map set_counts plans) (mark_starts i.numbers 0 (flat_map (marks_of i.numbers) plans))) (stops_of p i plans).sets
unfolding stops_of front_of back_of lists_at refs_run words_run words_behind codes_run places_behind directories_behind data_behind strings_behind lines_run marks_behind firsts_behind
sets_lie_here bytes p i plans fits lt run = words_placed bytes AnnotationSet _ (stops_of p i plans).lines (flat_map set_counts plans) (mark_starts i.numbers 0 (flat_map (marks_of i.numbers) plans)) _ refl lt fits.sets run

codes_lie_here : (bytes : List ℕ) (p : Program) (i : Interner) (plans : List Plan) → FitsPlans p i plans → 0 < (stops_of p i plans).sets → RunStands bytes (stops_of p i plans).sets (back_of p i.numbers plans (front_of p i plans (data_at (counts_of i plans)))).codes
    → Lie bytes 4 (stops_of p i plans).sets (code_offsets (front_of p i plans (data_at (counts_of i plans))).code.at (parts_of plans)) (item_texts (stops_of p i plans).strings (parts_of plans)) (stops_of p i plans).codes
unfolding stops_of front_of back_of lists_at refs_run words_run words_behind codes_run places_behind directories_behind data_behind strings_behind lines_run marks_behind firsts_behind
codes_lie_here bytes p i plans fits lt run = codes_placed bytes _ (stops_of p i plans).strings plans _ refl lt fits.codes run

directories_lie_here : (bytes : List ℕ) (p : Program) (i : Interner) (plans : List Plan) → FitsPlans p i plans → 0 < (stops_of p i plans).codes → RunStands bytes (stops_of p i plans).codes (front_of p i plans (data_at (counts_of i plans))).directories.run
    → Lie bytes 4 (stops_of p i plans).codes (front_of p i plans (data_at (counts_of i plans))).directories.offsets (directory_texts plans (front_of p i plans (data_at (counts_of i plans))).sets.offsets (front_of p i plans (data_at (counts_of i plans))).refs.offsets) (stops_of p i plans).directories
unfolding stops_of front_of back_of lists_at refs_run words_run words_behind codes_run places_behind directories_behind data_behind strings_behind lines_run marks_behind firsts_behind
directories_lie_here bytes p i plans fits lt run = placed_fours bytes AnnotationsDirectory _ (directory_texts plans (front_of p i plans (data_at (counts_of i plans))).sets.offsets (front_of p i plans (data_at (counts_of i plans))).refs.offsets) _ lt fits.directories refl run

members_lie_here : (bytes : List ℕ) (p : Program) (i : Interner) (plans : List Plan) → FitsPlans p i plans → 0 < (stops_of p i plans).directories → RunStands bytes (stops_of p i plans).directories (front_of p i plans (data_at (counts_of i plans))).data.run
    → Lie bytes 1 (stops_of p i plans).directories (front_of p i plans (data_at (counts_of i plans))).data.offsets (data_texts (front_of p i plans (data_at (counts_of i plans))).code.at plans) (stops_of p i plans).members
unfolding stops_of front_of back_of lists_at refs_run words_run words_behind codes_run places_behind directories_behind data_behind strings_behind lines_run marks_behind firsts_behind
members_lie_here bytes p i plans fits lt run = placed_anywhere bytes ClassData _ (data_texts (front_of p i plans (data_at (counts_of i plans))).code.at plans) _ lt refl run

strings_lie_here : (bytes : List ℕ) (p : Program) (i : Interner) (plans : List Plan) → FitsPlans p i plans → 0 < (stops_of p i plans).members → RunStands bytes (stops_of p i plans).members (front_of p i plans (data_at (counts_of i plans))).strings.run
    → Lie bytes 1 (stops_of p i plans).members (front_of p i plans (data_at (counts_of i plans))).strings.offsets (string_texts p.strings i.order.strings.items) (stops_of p i plans).strings
unfolding stops_of front_of back_of lists_at refs_run words_run words_behind codes_run places_behind directories_behind data_behind strings_behind lines_run marks_behind firsts_behind
strings_lie_here bytes p i plans fits lt run = placed_anywhere bytes StringData _ (string_texts p.strings i.order.strings.items) _ lt refl run

lines_lie_here : (bytes : List ℕ) (p : Program) (i : Interner) (plans : List Plan) → FitsPlans p i plans → 0 < (stops_of p i plans).strings → RunStands bytes (stops_of p i plans).strings (back_of p i.numbers plans (front_of p i plans (data_at (counts_of i plans)))).lines
    → Lie bytes 1 (stops_of p i plans).strings (line_offsets (stops_of p i plans).strings (parts_of plans)) (map (λ m. m.lines) (parts_of plans)) (stops_of p i plans).lines
unfolding stops_of front_of back_of lists_at refs_run words_run words_behind codes_run places_behind directories_behind data_behind strings_behind lines_run marks_behind firsts_behind
lines_lie_here bytes p i plans fits lt run = lines_placed bytes _ plans _ refl lt run

marks_lie_here : (bytes : List ℕ) (p : Program) (i : Interner) (plans : List Plan) → FitsPlans p i plans → 0 < (stops_of p i plans).lines → RunStands bytes (stops_of p i plans).lines (back_of p i.numbers plans (front_of p i plans (data_at (counts_of i plans)))).marks
    → Lie bytes 1 (stops_of p i plans).lines (map (λ start. (stops_of p i plans).lines + start) (mark_starts i.numbers 0 (flat_map (marks_of i.numbers) plans))) (map (mark_text i.numbers) (flat_map (marks_of i.numbers) plans)) (stops_of p i plans).marks
unfolding stops_of front_of back_of lists_at refs_run words_run words_behind codes_run places_behind directories_behind data_behind strings_behind lines_run marks_behind firsts_behind
marks_lie_here bytes p i plans fits lt run = marks_placed bytes i.numbers _ plans lt run

values_lie_here : (bytes : List ℕ) (p : Program) (i : Interner) (plans : List Plan) → FitsPlans p i plans → 0 < (stops_of p i plans).marks → RunStands bytes (stops_of p i plans).marks (back_of p i.numbers plans (front_of p i plans (data_at (counts_of i plans)))).firsts.run
    → Lie bytes 1 (stops_of p i plans).marks (back_of p i.numbers plans (front_of p i plans (data_at (counts_of i plans)))).firsts.offsets (map (array_text p i.numbers) plans) (stops_of p i plans).values
unfolding stops_of front_of back_of lists_at refs_run words_run words_behind codes_run places_behind directories_behind data_behind strings_behind lines_run marks_behind firsts_behind
values_lie_here bytes p i plans fits lt run = placed_anywhere bytes EncodedArray _ (map (array_text p i.numbers) plans) _ lt refl run

pub all_lie : (bytes : List ℕ) (p : Program) (i : Interner) (plans : List Plan) → FitsPlans p i plans → RunsStand bytes (data_at (counts_of i plans)) (runs_in (front_of p i plans (data_at (counts_of i plans))) (back_of p i.numbers plans (front_of p i plans (data_at (counts_of i plans))))) → AllLie bytes p i plans
all_lie bytes p i plans fits r =
    let t : Ten bytes (data_at (counts_of i plans)) (stops_of p i plans).lists (stops_of p i plans).refs (stops_of p i plans).sets (stops_of p i plans).codes (stops_of p i plans).directories (stops_of p i plans).members (stops_of p i plans).strings (stops_of p i plans).lines (stops_of p i plans).marks (front_of p i plans (data_at (counts_of i plans))).lists.run (back_of p i.numbers plans (front_of p i plans (data_at (counts_of i plans)))).refs (back_of p i.numbers plans (front_of p i plans (data_at (counts_of i plans)))).sets (back_of p i.numbers plans (front_of p i plans (data_at (counts_of i plans)))).codes (front_of p i plans (data_at (counts_of i plans))).directories.run (front_of p i plans (data_at (counts_of i plans))).data.run (front_of p i plans (data_at (counts_of i plans))).strings.run (back_of p i.numbers plans (front_of p i plans (data_at (counts_of i plans)))).lines (back_of p i.numbers plans (front_of p i plans (data_at (counts_of i plans)))).marks (back_of p i.numbers plans (front_of p i plans (data_at (counts_of i plans)))).firsts.run = runs_placed bytes p i plans fits r in
    let g0 : 0 < (data_at (counts_of i plans)) = omega arith in
    let x0 : Lie bytes 4 (data_at (counts_of i plans)) (list_starts (data_at (counts_of i plans)) (type_lists p i plans)) (map list_text (type_lists p i plans)) (stops_of p i plans).lists = lists_lie_here bytes p i plans fits g0 t.stands_a in
    let g1 : 0 < (stops_of p i plans).lists = omega (arith, g0, lie_grows bytes 4 _ _ _ _ x0) in
    let x1 : Lie bytes 4 (stops_of p i plans).lists (front_of p i plans (data_at (counts_of i plans))).refs.offsets (entry_texts 0 (flat_map ref_counts plans) (parameter_offsets plans (front_of p i plans (data_at (counts_of i plans))).sets.offsets)) (stops_of p i plans).refs = refs_lie_here bytes p i plans fits g1 t.stands_b in
    let g2 : 0 < (stops_of p i plans).refs = omega (arith, g1, lie_grows bytes 4 _ _ _ _ x1) in
    let x2 : Lie bytes 4 (stops_of p i plans).refs (front_of p i plans (data_at (counts_of i plans))).sets.offsets (entry_texts (stops_of p i plans).lines (flat_map set_counts plans) (mark_starts i.numbers 0 (flat_map (marks_of i.numbers) plans))) (stops_of p i plans).sets = sets_lie_here bytes p i plans fits g2 t.stands_c in
    let g3 : 0 < (stops_of p i plans).sets = omega (arith, g2, lie_grows bytes 4 _ _ _ _ x2) in
    let x3 : Lie bytes 4 (stops_of p i plans).sets (code_offsets (front_of p i plans (data_at (counts_of i plans))).code.at (parts_of plans)) (item_texts (stops_of p i plans).strings (parts_of plans)) (stops_of p i plans).codes = codes_lie_here bytes p i plans fits g3 t.stands_d in
    let g4 : 0 < (stops_of p i plans).codes = omega (arith, g3, lie_grows bytes 4 _ _ _ _ x3) in
    let x4 : Lie bytes 4 (stops_of p i plans).codes (front_of p i plans (data_at (counts_of i plans))).directories.offsets (directory_texts plans (front_of p i plans (data_at (counts_of i plans))).sets.offsets (front_of p i plans (data_at (counts_of i plans))).refs.offsets) (stops_of p i plans).directories = directories_lie_here bytes p i plans fits g4 t.stands_e in
    let g5 : 0 < (stops_of p i plans).directories = omega (arith, g4, lie_grows bytes 4 _ _ _ _ x4) in
    let x5 : Lie bytes 1 (stops_of p i plans).directories (front_of p i plans (data_at (counts_of i plans))).data.offsets (data_texts (front_of p i plans (data_at (counts_of i plans))).code.at plans) (stops_of p i plans).members = members_lie_here bytes p i plans fits g5 t.stands_f in
    let g6 : 0 < (stops_of p i plans).members = omega (arith, g5, lie_grows bytes 1 _ _ _ _ x5) in
    let x6 : Lie bytes 1 (stops_of p i plans).members (front_of p i plans (data_at (counts_of i plans))).strings.offsets (string_texts p.strings i.order.strings.items) (stops_of p i plans).strings = strings_lie_here bytes p i plans fits g6 t.stands_g in
    let g7 : 0 < (stops_of p i plans).strings = omega (arith, g6, lie_grows bytes 1 _ _ _ _ x6) in
    let x7 : Lie bytes 1 (stops_of p i plans).strings (line_offsets (stops_of p i plans).strings (parts_of plans)) (map (λ m. m.lines) (parts_of plans)) (stops_of p i plans).lines = lines_lie_here bytes p i plans fits g7 t.stands_h in
    let g8 : 0 < (stops_of p i plans).lines = omega (arith, g7, lie_grows bytes 1 _ _ _ _ x7) in
    let x8 : Lie bytes 1 (stops_of p i plans).lines (map (λ start. (stops_of p i plans).lines + start) (mark_starts i.numbers 0 (flat_map (marks_of i.numbers) plans))) (map (mark_text i.numbers) (flat_map (marks_of i.numbers) plans)) (stops_of p i plans).marks = marks_lie_here bytes p i plans fits g8 t.stands_k in
    let g9 : 0 < (stops_of p i plans).marks = omega (arith, g8, lie_grows bytes 1 _ _ _ _ x8) in
    let x9 : Lie bytes 1 (stops_of p i plans).marks (back_of p i.numbers plans (front_of p i plans (data_at (counts_of i plans)))).firsts.offsets (map (array_text p i.numbers) plans) (stops_of p i plans).values = values_lie_here bytes p i plans fits g9 t.stands_l in
    record { lists = x0; refs = x1; sets = x2; codes = x3; directories = x4; members = x5; strings = x6; lines = x7; marks = x8; values = x9 }
