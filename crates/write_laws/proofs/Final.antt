-- The whole: a file is valid for the written program where each kind of item is that of the program.
use Rattle.std.proofs.Common.{◌≡◌, ◌≤◌, ◌<◌, ◌+◌, ◌*◌, ◌^◌, ℕ, zero, suc, List, [], ◌∷◌, length, refl, sym, ap, subst, ◌∙◌, arith, map}
use Rattle.dex_base.specs.Word.{Is32}
use Rattle.dex_base.specs.Decides.{Each}
use Rattle.dex_pools.specs.declared.header.Extent.{Extent}
use Rattle.dex_pools.specs.declared.header.Extents.{Extents}
use Rattle.dex_pools.specs.declared.interner.Interner.{Interner}
use Rattle.dex_pools.specs.Spelled.{IsExtent, AreExtents}
use Rattle.program_model.specs.declared.program.Class.{Class}
use Rattle.program_model.specs.declared.program.Program.{Program}
use Rattle.program_model.specs.declared.program.Version.{Version}
use Rattle.program_model.specs.declared.program.Version.TheVariants.{V035, V037}
use Rattle.dex_write.specs.Numbers.{words}
use Rattle.dex_write.specs.Plans.{Plan}
use Rattle.dex_write.specs.File.{data_at, IsSealed}
use Rattle.dex_write.specs.File as writer
use Rattle.dex_write.specs.Places.{counts_of, runs_in, file_for, front_of, back_of}
use Rattle.dex_defs.specs.Header.{IsHeader, magic_of}
use Rattle.dex_defs.specs.ClassDefs.{IsClass}
use Rattle.dex_defs.specs.Spells.{sizes_in}
use Rattle.dex_defs.specs.Here.{Here, AreZeros}
use Rattle.dex_defs.specs.Valid as valid
use Rattle.dex_defs.specs.Arranged.{IsNext, Lie}
use Rattle.dex_defs.specs.Texts.{type_lists, type_list_text}
use Rattle.write_laws.specs.Kinds.{SameCounts, Kinds}
use Rattle.write_laws.specs.Placing.{AllLie, stops_of}
use Rattle.dex_defs.specs.Valid.{Parts, IsValidFor, map_words}
use Rattle.write_laws.proofs.Numbers.{Few, same_words, here_words, first_word, other_words}
use Rattle.write_laws.proofs.Lying.{up_next}
use Rattle.write_laws.proofs.Placing.{FitsPlans}
use Rattle.write_laws.proofs.Whole.{file_placed, file_lies, tables_long}
use Rattle.write_laws.proofs.Closing.{lie_same, stops_positive, rows_are, same_counts, header_tail, map_words_are, ends_are_last}

-- ---- what the header says

place_fits : (n at : ℕ) → valid.table_offset n at ≤ at
place_fits zero at = omega arith
place_fits (suc n) at = omega arith

pub place_is : (n at : ℕ) → 0 < n → valid.table_offset n at ≡ at
place_is zero at lt = absurd (omega (arith, lt))
place_is (suc n) at lt = refl

-- the tables of a program, one behind another
abbrev pub extent_of : ℕ → ℕ → Extent
extent_of n at = record { size = n; offset = valid.table_offset n at }

abbrev pub extents_of : Program → Extents
extents_of q = record {
  strings = extent_of (length q.strings) 112;
  types = extent_of (length q.types) (valid.types_at q);
  protos = extent_of (length q.protos) (valid.protos_at q);
  fields = extent_of (length q.fields) (valid.fields_at q);
  methods = extent_of (length q.methods) (valid.methods_at q);
}

extent_stands : (bytes : List ℕ) (at width n place : ℕ) → Is32 bytes at n → Is32 bytes (at + 4) (valid.table_offset n place) → place + width * n ≤ length bytes → IsExtent bytes at width (extent_of n place)
extent_stands bytes at width n place h k le = record { size = h; offset = k; inside = λ lt. rw (place_is n place lt) le }

-- the header's words, and the tables inside the file
pub record HeaderStands (bytes : List ℕ) (q : Program) : Type 0 where
  pub extents : AreExtents bytes (extents_of q)
  pub classes : IsExtent bytes 96 32 (extent_of (length q.classes) (valid.classes_at q))
  pub link_size : Is32 bytes 44 0

header_stands : (bytes : List ℕ) (q : Program) (at : ℕ) → at ≤ length bytes → valid.data_at q ≤ length bytes → length bytes < 2 ^ 32 → Here bytes 44 (words (valid.header_words q at (length bytes))) → HeaderStands bytes q
header_stands bytes q at le inside few h =
    let s = place_fits (length q.strings) 112 in
    let t = place_fits (length q.types) (valid.types_at q) in
    let o = place_fits (length q.protos) (valid.protos_at q) in
    let f = place_fits (length q.fields) (valid.fields_at q) in
    let m = place_fits (length q.methods) (valid.methods_at q) in
    let c = place_fits (length q.classes) (valid.classes_at q) in
    let all : Few (valid.header_words q at (length bytes)) = (omega arith, (omega arith, (omega (arith, le, few), (omega (arith, inside, few), (omega (arith, inside, few, s), (omega (arith, inside, few), (omega (arith, inside, few, t), (omega (arith, inside, few), (omega (arith, inside, few, o), (omega (arith, inside, few), (omega (arith, inside, few, f), (omega (arith, inside, few), (omega (arith, inside, few, m), (omega (arith, inside, few), (omega (arith, inside, few, c), (omega (arith, few), (omega (arith, inside, few), tt))))))))))))))))) in
    let e = (here_words bytes 44 (valid.header_words q at (length bytes)) all h).1 in
    record {
      extents = record {
        strings = extent_stands bytes 56 4 (length q.strings) 112 e.1.1.1.0 e.1.1.1.1.0 (omega (arith, inside));
        types = extent_stands bytes 64 4 (length q.types) (valid.types_at q) e.1.1.1.1.1.0 e.1.1.1.1.1.1.0 (omega (arith, inside));
        protos = extent_stands bytes 72 12 (length q.protos) (valid.protos_at q) e.1.1.1.1.1.1.1.0 e.1.1.1.1.1.1.1.1.0 (omega (arith, inside));
        fields = extent_stands bytes 80 8 (length q.fields) (valid.fields_at q) e.1.1.1.1.1.1.1.1.1.0 e.1.1.1.1.1.1.1.1.1.1.0 (omega (arith, inside));
        methods = extent_stands bytes 88 8 (length q.methods) (valid.methods_at q) e.1.1.1.1.1.1.1.1.1.1.1.0 e.1.1.1.1.1.1.1.1.1.1.1.1.0 (omega (arith, inside));
      };
      classes = extent_stands bytes 96 32 (length q.classes) (valid.classes_at q) e.1.1.1.1.1.1.1.1.1.1.1.1.1.0 e.1.1.1.1.1.1.1.1.1.1.1.1.1.1.0 (omega (arith, inside));
      link_size = e.0;
    }

same_magic : (v : Version) → writer.magic_of v ≡ magic_of v
same_magic V035 = refl
same_magic V037 = refl

header_spelled : (bytes : List ℕ) (v : Version) (rest : List ℕ) → IsSealed v bytes → 112 ≤ length bytes → length bytes < 2 ^ 32 → Here bytes 32 (words (length bytes ∷ 112 ∷ 0x12345678 ∷ rest)) → Is32 bytes 44 0 → IsHeader bytes v
header_spelled bytes v rest s whole few h link = record {
  whole = whole;
  magic = s.magic ∙ same_magic v;
  checksum = s.checksum;
  file_size = first_word bytes 32 (length bytes) _ few h;
  header_size = first_word bytes 36 112 _ (omega arith) (other_words bytes 32 (length bytes) _ h);
  endian_tag = first_word bytes 40 0x12345678 _ (omega arith) (other_words bytes 36 112 _ (other_words bytes 32 (length bytes) _ h));
  link_size = link;
}

-- ---- classes by the header's offset

classes_stand : (bytes : List ℕ) (q : Program) (place : ℕ) (cs : List Class) → Each (λ k. IsClass bytes q (sizes_in q) (place + 32 * k)) 0 cs → Each (λ k. IsClass bytes q (sizes_in q) (valid.table_offset (length cs) place + 32 * k)) 0 cs
classes_stand bytes q place [] h = tt
classes_stand bytes q place (c ∷ cs) h = h

-- ---- the header of the file

pub record FileHead (i : Interner) (plans : List Plan) (bytes : List ℕ) (q : Program) (at : ℕ) : Type 0 where
  pub head : Here bytes 32 (words (length bytes ∷ 112 ∷ 0x12345678 ∷ valid.header_words q at (length bytes)))
  pub tail : Here bytes 44 (words (valid.header_words q at (length bytes)))
  pub header : HeaderStands bytes q
  pub begin : valid.data_at q ≡ data_at (counts_of i plans)
  pub inside : data_at (counts_of i plans) ≤ length bytes

pub file_head : (p : Program) (i : Interner) (plans : List Plan) (q : Program) → FitsPlans p i plans → length (file_for p i plans) < 2 ^ 32 → SameCounts i plans q → FileHead i plans (file_for p i plans) q (writer.map_place (counts_of i plans) (runs_in (front_of p i plans (data_at (counts_of i plans))) (back_of p i.numbers plans (front_of p i plans (data_at (counts_of i plans))))))
file_head p i plans q fits few counts =
    let bytes : List ℕ = file_for p i plans in
    let stands = file_placed p i plans fits in
    let runs = runs_in (front_of p i plans (data_at (counts_of i plans))) (back_of p i.numbers plans (front_of p i plans (data_at (counts_of i plans)))) in
    let at : ℕ = writer.map_place (counts_of i plans) runs in
    let begin : valid.data_at q ≡ data_at (counts_of i plans) = sym (ap (λ c. data_at c) (same_counts i plans q counts)) in
    let inside : data_at (counts_of i plans) ≤ length bytes = tables_long p i plans fits in
    let low : at ≤ length bytes = omega (arith, stands.map.inside) in
    let head : Here bytes 32 (words (length bytes ∷ 112 ∷ 0x12345678 ∷ valid.header_words q at (length bytes))) = subst (λ l. Here bytes 32 l) (ap words (ap (λ c. writer.header_words c (at + length (writer.map_text (counts_of i plans) runs)) at) (same_counts i plans q counts) ∙ header_tail i plans q counts (at + length (writer.map_text (counts_of i plans) runs)) at ∙ ap (λ (n : ℕ). n ∷ 112 ∷ 0x12345678 ∷ valid.header_words q at n) (sym stands.size))) stands.header in
    let tail : Here bytes 44 (words (valid.header_words q at (length bytes))) = other_words bytes 40 0x12345678 _ (other_words bytes 36 112 _ (other_words bytes 32 (length bytes) _ head)) in
    record { head = head; tail = tail; header = header_stands bytes q at low (omega (arith, begin, inside)) few tail; begin = begin; inside = inside }

-- ---- the whole

pub file_is_valid : (p : Program) (i : Interner) (plans : List Plan) (q : Program) (x : Parts) → FitsPlans p i plans → IsSealed p.version (file_for p i plans) → length (file_for p i plans) < 2 ^ 32 → q.version ≡ p.version
    → Kinds (file_for p i plans) p i plans q x → IsValidFor (file_for p i plans) q
file_is_valid p i plans q x fits sealed few version k =
    let bytes : List ℕ = file_for p i plans in
    let stands = file_placed p i plans fits in
    let lies : AllLie bytes p i plans = file_lies p i plans fits in
    let runs = runs_in (front_of p i plans (data_at (counts_of i plans))) (back_of p i.numbers plans (front_of p i plans (data_at (counts_of i plans)))) in
    let at : ℕ = writer.map_place (counts_of i plans) runs in
    let last : writer.ends_behind (data_at (counts_of i plans)) runs ≡ (stops_of p i plans).values = ends_are_last p i plans fits in
    let h : FileHead i plans bytes q at = file_head p i plans q fits few k.counts in
    let rows : writer.map_words (counts_of i plans) runs at ≡ map_words q x at = map_words_are p i plans q x at k.counts (rows_are bytes p i plans q x k (stops_positive bytes p i plans lies)) in
    record {
      spelled = record {
        header = subst (λ v. IsHeader bytes v) (sym version) (header_spelled bytes p.version _ sealed (omega (arith, h.inside)) few h.head h.header.link_size);
        pools = k.pools;
        table = extent_of (length q.classes) (valid.classes_at q);
        stands = h.header.classes;
        classes = (refl, classes_stand bytes q (valid.classes_at q) q.classes k.classes.1);
      };
      used = k.used;
      parts = x;
      are = k.parts;
      stops = (stops_of p i plans);
      lie = record {
        lists = subst (λ n. Lie bytes 4 n x.starts (map type_list_text (type_lists q)) (stops_of p i plans).lists) (sym h.begin) (lie_same bytes 4 _ _ _ _ _ _ k.lists lies.lists);
        refs = lie_same bytes 4 _ _ _ _ _ _ k.refs lies.refs;
        sets = lie_same bytes 4 _ _ _ _ _ _ k.sets lies.sets;
        codes = lie_same bytes 4 _ _ _ _ _ _ k.codes lies.codes;
        directories = lie_same bytes 4 _ _ _ _ _ _ k.directories lies.directories;
        members = lie_same bytes 1 _ _ _ _ _ _ k.members lies.members;
        strings = lie_same bytes 1 _ _ _ _ _ _ k.strings lies.strings;
        lines = lie_same bytes 1 _ _ _ _ _ _ k.lines lies.lines;
        marks = lie_same bytes 1 _ _ _ _ _ _ k.marks lies.marks;
        values = lie_same bytes 1 _ _ _ _ _ _ k.values lies.values;
      };
      map = record {
        at = at;
        next = subst (λ n. IsNext 4 n at) last (up_next _);
        zeros = subst (λ n. AreZeros bytes n at) last stands.zeros;
        is = subst (λ l. Here bytes at l) (ap words rows ∙ same_words (map_words q x at)) stands.map;
        last = stands.size ∙ ap (λ (l : List ℕ). at + length l) (ap words rows ∙ same_words (map_words q x at));
        header = subst (λ l. Here bytes 44 l) (same_words (valid.header_words q at (length bytes))) h.tail;
      };
      above_first = k.above_first;
    }
