-- The parts of the classes that are written, and that they name what is written where it stands.
use Rattle.std.proofs.Common.{◌≡◌, ◌≤◌, ◌<◌, ◌+◌, ℕ, zero, suc, Bool, true, false, List, [], ◌∷◌, ◌++◌, length, map, take, drop, refl, sym, ap, subst, ◌∙◌, arith, append_assoc, get_or}
use Rattle.std.specs.Prelude.{nat_eq, ◌&&◌, if◌then◌else◌}
use Rattle.std.specs.List.{flat_map}
use Rattle.std.proofs.Math.Seq.{drop-cons}
use Rattle.std.proofs.lemmas.Bool.{eqb-true, eqb-false, ne_eqb}
use Rattle.std.proofs.lemmas.List.{length-map, length-drop}
use Rattle.dex_pools.specs.declared.interner.Interner.{Interner}
use Rattle.program_model.specs.declared.pass.Renumber.{Renumber}
use Rattle.program_model.specs.declared.value.EncValue.{EncValue}
use Rattle.program_model.specs.declared.program.Class.{Class}
use Rattle.program_model.specs.declared.program.Program.{Program}
use Rattle.dex_write.specs.declared.ordered.MethodPart.{MethodPart}
use Rattle.dex_write.specs.declared.tables.ClassOffsets.{ClassOffsets}
use Rattle.dex_write.specs.Numbers.{words, at_place, text_offsets}
use Rattle.dex_write.specs.Plans.{Plan, Numbered, in_order}
use Rattle.dex_write.specs.Codes.{code_offset, code_behind, codes_behind, debug_offset, lines_behind, parts_of}
use Rattle.dex_write.specs.Sets.{ref_counts, own_offsets, behind_class, field_pairs, method_pairs, pair_words, filled_words, is_bare, directory_words, directory_texts}
use Rattle.dex_write.specs.Sets as writer
use Rattle.dex_defs.specs.ClassData.{Entry}
use Rattle.dex_defs.specs.ClassDefs.{Def}
use Rattle.dex_defs.specs.Annotations.{Directory}
use Rattle.dex_defs.specs.Texts as kept
use Rattle.dex_defs.specs.Valid.{CodePart, ClassPart, methods_of, codes_of, entries_of}
use Rattle.dex_defs.specs.Arranged.{Both}
use Rattle.write_laws.specs.Placing.{item_text, item_texts, code_offsets, line_offsets}
use Rattle.write_laws.specs.Listing.{method_entry, method_entries, lists_in, all_lists_in}
use Rattle.write_laws.specs.Listing.{def_of}
use Rattle.written_file.specs.Parts.{split_by, directory_of, code_parts, class_part, class_parts}
use Rattle.write_laws.proofs.Numbers.{same_words}

-- ---- offsets that are those of a list, one by one

-- so many of the entries from a place on
abbrev pub each_from : List ℕ → ℕ → ℕ → List ℕ
each_from xs at zero = []
each_from xs at (suc n) = at_place xs at ∷ each_from xs (suc at) n

pub each_is : (xs : List ℕ) (at n : ℕ) → at + n ≤ length xs → each_from xs at n ≡ take n (drop at xs)
each_is xs at zero le = refl
each_is xs at (suc n) le =
    let cons : drop at xs ≡ get_or xs at 0 ∷ drop (suc at) xs = drop-cons xs at 0 (omega (arith, le)) in
    rw cons (ap (λ (l : List ℕ). get_or xs at 0 ∷ l) (each_is xs (suc at) n (omega (arith, le))))

take_whole : (xs : List ℕ) (n : ℕ) → n ≡ length xs → take n xs ≡ xs
take_whole [] zero e = refl
take_whole [] (suc n) e = refl
take_whole (x ∷ xs) zero e = absurd (omega (arith, e))
take_whole (x ∷ xs) (suc n) e = ap (λ (l : List ℕ). x ∷ l) (take_whole xs n (omega (arith, e)))

pub all_are : (xs : List ℕ) (n : ℕ) → n ≡ length xs → each_from xs 0 n ≡ xs
all_are xs n e = each_is xs 0 n (omega (arith, e)) ∙ take_whole xs n e

module _ (r : Renumber) (offsets : ClassOffsets) (values : Plan → List EncValue) where
  pub parts_many : (place code_at lines_at : ℕ) (sets refs : List ℕ) (ps : List Plan) → length (class_parts r offsets values place code_at lines_at sets refs ps) ≡ length ps
  parts_many place code_at lines_at sets refs [] = refl
  parts_many place code_at lines_at sets refs (p ∷ ps) = ap suc (parts_many (suc place) (codes_behind code_at p.methods) (lines_behind lines_at p.methods) (behind_class p sets) (drop (length p.methods) refs) ps)

  -- a number of each class_def
  pub def_numbers : (f : Def → ℕ) (xs : List ℕ) → ((c : Class) (place : ℕ) → f (def_of r c offsets place) ≡ at_place xs place) → (place code_at lines_at : ℕ) (sets refs : List ℕ) (ps : List Plan)
      → map (λ c. f c.def) (class_parts r offsets values place code_at lines_at sets refs ps) ≡ each_from xs place (length ps)
  def_numbers f xs same place code_at lines_at sets refs [] = refl
  def_numbers f xs same place code_at lines_at sets refs (p ∷ ps) =
      ap (λ (n : ℕ). n ∷ map (λ c. f c.def) (class_parts r offsets values (suc place) (codes_behind code_at p.methods) (lines_behind lines_at p.methods) (behind_class p sets) (drop (length p.methods) refs) ps)) (same p.class place)
      ∙ ap (λ (l : List ℕ). at_place xs place ∷ l) (def_numbers f xs same (suc place) (codes_behind code_at p.methods) (lines_behind lines_at p.methods) (behind_class p sets) (drop (length p.methods) refs) ps)

  pub part_lists : (place code_at lines_at : ℕ) (sets refs : List ℕ) (ps : List Plan) → map (λ c. kept.data_text c.lists) (class_parts r offsets values place code_at lines_at sets refs ps) ≡ map kept.data_text (all_lists_in code_at ps)
  part_lists place code_at lines_at sets refs [] = refl
  part_lists place code_at lines_at sets refs (p ∷ ps) = ap (λ (l : List (List ℕ)). kept.data_text (lists_in p code_at) ∷ l) (part_lists (suc place) (codes_behind code_at p.methods) (lines_behind lines_at p.methods) (behind_class p sets) (drop (length p.methods) refs) ps)

  -- ---- directories

  both_zero : (a b : ℕ) → (nat_eq a 0 && nat_eq b 0) ≡ nat_eq (a + b) 0
  both_zero a b = by_test (nat_eq a 0) refl
    where
      by_test : (t : Bool) → nat_eq a 0 ≡ t → (nat_eq a 0 && nat_eq b 0) ≡ nat_eq (a + b) 0
      by_test true t =
          let none : a ≡ 0 = eqb-true a 0 t in
          let same : b ≡ a + b = omega (arith, none) in
          rw t (ap (λ (n : ℕ). nat_eq n 0) same)
      by_test false t =
          let some : nat_eq (a + b) 0 ≡ false = ne_eqb (a + b) 0 (λ e. absurd (eqb-false a 0 t (omega (arith, e)))) in
          rw t (sym some)

  bare_nothing : (a b c d : ℕ) → (nat_eq a 0 && (nat_eq b 0 && (nat_eq c 0 && nat_eq d 0))) ≡ nat_eq (a + (b + (c + d))) 0
  bare_nothing a b c d = ap (λ (t : Bool). nat_eq a 0 && (nat_eq b 0 && t)) (both_zero c d) ∙ (ap (λ (t : Bool). nat_eq a 0 && t) (both_zero b (c + d)) ∙ both_zero a (b + (c + d)))

  directory_same : (p : Plan) (sets refs : List ℕ) → kept.directory_text (directory_of p sets refs) ≡ writer.directory_text p sets refs
  unfolding writer.directory_text words
  directory_same p sets refs =
      let d : Directory = directory_of p sets refs in
      let all : List ℕ = kept.directory_words d in
      pushed (is_bare d.class d.fields d.methods d.parameters) (kept.is_nothing d) all (bare_nothing d.class (length d.fields) (length d.methods) (length d.parameters))
    where
      pushed : (a b : Bool) (all : List ℕ) → a ≡ b → (if b then [] else kept.words all) ≡ words (if a then [] else all)
      pushed true b all e = ap (λ (t : Bool). if t then [] else kept.words all) (sym e)
      pushed false b all e = ap (λ (t : Bool). if t then [] else kept.words all) (sym e)

  pub directories_same : (place code_at lines_at : ℕ) (sets refs : List ℕ) (ps : List Plan) → map (λ c. kept.directory_text c.directory) (class_parts r offsets values place code_at lines_at sets refs ps) ≡ directory_texts ps sets refs
  directories_same place code_at lines_at sets refs [] = refl
  directories_same place code_at lines_at sets refs (p ∷ ps) =
      ap (λ (t : List ℕ). t ∷ map (λ c. kept.directory_text c.directory) (class_parts r offsets values (suc place) (codes_behind code_at p.methods) (lines_behind lines_at p.methods) (behind_class p sets) (drop (length p.methods) refs) ps)) (directory_same p sets refs)
      ∙ ap (λ (l : List (List ℕ)). writer.directory_text p sets refs ∷ l) (directories_same (suc place) (codes_behind code_at p.methods) (lines_behind lines_at p.methods) (behind_class p sets) (drop (length p.methods) refs) ps)

  -- ---- code items and debug items

  entries_split : (c : Class) (at n : ℕ) (ms : List MethodPart) → method_entries c at (take n ms) ++ method_entries c (codes_behind at (take n ms)) (drop n ms) ≡ method_entries c at ms
  entries_split c at zero ms = refl
  entries_split c at (suc n) [] = refl
  entries_split c at (suc n) (m ∷ ms) = ap (λ (l : List Entry). method_entry c at m ∷ l) (entries_split c (code_behind at m) n ms)

  pub methods_are : (p : Plan) (at : ℕ) → methods_of (lists_in p at) ≡ method_entries p.class at p.methods
  methods_are p at = entries_split p.class at p.directs p.methods

  entry_codes : (c : Class) (at : ℕ) (ms : List MethodPart) → map (λ e. e.code) (method_entries c at ms) ≡ code_offsets at ms
  entry_codes c at [] = refl
  entry_codes c at (m ∷ ms) = ap (λ (l : List ℕ). code_offset at m ∷ l) (entry_codes c (code_behind at m) ms)

  offsets_both : (at : ℕ) (ms ns : List MethodPart) → code_offsets at (ms ++ ns) ≡ code_offsets at ms ++ code_offsets (codes_behind at ms) ns
  offsets_both at [] ns = refl
  offsets_both at (m ∷ ms) ns = ap (λ (l : List ℕ). code_offset at m ∷ l) (offsets_both (code_behind at m) ms ns)

  map_both : {X Y : Type 0} (f : X → Y) (xs ys : List X) → map f (xs ++ ys) ≡ map f xs ++ map f ys
  map_both f [] ys = refl
  map_both f (x ∷ xs) ys = ap (λ l. f x ∷ l) (map_both f xs ys)

  pub codes_named : (place code_at lines_at : ℕ) (sets refs : List ℕ) (ps : List Plan) → map (λ e. e.code) (entries_of (class_parts r offsets values place code_at lines_at sets refs ps)) ≡ code_offsets code_at (parts_of ps)
  codes_named place code_at lines_at sets refs [] = refl
  codes_named place code_at lines_at sets refs (p ∷ ps) =
      let rest : List ClassPart = class_parts r offsets values (suc place) (codes_behind code_at p.methods) (lines_behind lines_at p.methods) (behind_class p sets) (drop (length p.methods) refs) ps in
      map_both (λ (e : Entry). e.code) (methods_of (lists_in p code_at)) (entries_of rest)
      ∙ ap (λ (l : List ℕ). l ++ map (λ e. e.code) (entries_of rest)) (ap (λ (l : List Entry). map (λ e. e.code) l) (methods_are p code_at) ∙ entry_codes p.class code_at p.methods)
      ∙ ap (λ (l : List ℕ). code_offsets code_at p.methods ++ l) (codes_named (suc place) (codes_behind code_at p.methods) (lines_behind lines_at p.methods) (behind_class p sets) (drop (length p.methods) refs) ps)
      ∙ sym (offsets_both code_at p.methods (parts_of ps))

  -- what is made of the code parts of methods, one behind another
  pub codes_made : {Y : Type 0} (f : CodePart → Y) (g : ℕ → List MethodPart → List Y) → ((at : ℕ) → g at [] ≡ [])
      → ((at : ℕ) (m : MethodPart) (ms : List MethodPart) → g at (m ∷ ms) ≡ f (record { debug = debug_offset at m; text = item_text (debug_offset at m) m; lines = m.lines }) ∷ g (at + length m.lines) ms)
      → (place code_at lines_at : ℕ) (sets refs : List ℕ) (ps : List Plan) → map f (codes_of (class_parts r offsets values place code_at lines_at sets refs ps)) ≡ g lines_at (parts_of ps)
  codes_made f g none more place code_at lines_at sets refs [] = sym (none lines_at)
  codes_made {Y = Y} f g none more place code_at lines_at sets refs (p ∷ ps) =
      let rest : List ClassPart = class_parts r offsets values (suc place) (codes_behind code_at p.methods) (lines_behind lines_at p.methods) (behind_class p sets) (drop (length p.methods) refs) ps in
      map_both f (code_parts lines_at p.methods) (codes_of rest)
      ∙ ap (λ (l : List Y). map f (code_parts lines_at p.methods) ++ l) (codes_made f g none more (suc place) (codes_behind code_at p.methods) (lines_behind lines_at p.methods) (behind_class p sets) (drop (length p.methods) refs) ps)
      ∙ joined lines_at p.methods (parts_of ps)
    where
      joined : (at : ℕ) (ms ns : List MethodPart) → map f (code_parts at ms) ++ g (lines_behind at ms) ns ≡ g at (ms ++ ns)
      joined at [] ns = refl
      joined at (m ∷ ms) ns = ap (λ (l : List Y). f (record { debug = debug_offset at m; text = item_text (debug_offset at m) m; lines = m.lines }) ∷ l) (joined (at + length m.lines) ms ns) ∙ sym (more at m (ms ++ ns))

-- ---- type lists of classes

pub led_classes : {X : Type 0} (P : List ℕ → ℕ → Type 0) (f : X → List ℕ) (r : Renumber) (offsets : ClassOffsets) (values : Plan → List EncValue) (cs : List X) (place code_at lines_at : ℕ) (sets refs : List ℕ) (ps : List Plan)
    → Both P (map f cs) (each_from offsets.interfaces place (length ps)) → Both (λ c part. P (f c) part.def.interfaces) cs (class_parts r offsets values place code_at lines_at sets refs ps)
led_classes P f r offsets values [] place code_at lines_at sets refs [] h = tt
led_classes P f r offsets values [] place code_at lines_at sets refs (p ∷ ps) h = absurd h
led_classes P f r offsets values (c ∷ cs) place code_at lines_at sets refs [] h = absurd h
led_classes P f r offsets values (c ∷ cs) place code_at lines_at sets refs (p ∷ ps) h = (h.0, led_classes P f r offsets values cs (suc place) (codes_behind code_at p.methods) (lines_behind lines_at p.methods) (behind_class p sets) (drop (length p.methods) refs) ps h.1)
