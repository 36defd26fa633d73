-- What a class takes from a budget.
use Rattle.std.proofs.Common.{◌≡◌, ◌≤◌, ◌<◌, inl, inr, ℕ, zero, suc, ◌+◌, ◌*◌, Bool, true, false, cond, ltb, eqb, List, [], ◌∷◌, ◌++◌, map, length, Result, Ok, refl, sym, ap, ◌∙◌, arith}
use Rattle.std.specs.Prelude.{slice_index}
use Rattle.std.proofs.lemmas.Bool.{ltb-true}
use Rattle.lemmas.proofs.Bools.{untrue}
use Rattle.dex_base.specs.Word.{Is32, u32_at}
use Rattle.program_model.specs.declared.limits.Counted.TheVariants.{Items}
use Rattle.program_model.specs.declared.limits.LimitFault.{LimitFault}
use Rattle.program_model.specs.declared.program.Class.{Class}
use Rattle.program_model.specs.declared.program.Method.{Method}
use Rattle.program_model.specs.declared.program.Program.{Program}
use Rattle.dex_pools.specs.declared.header.Extent.{Extent}
use Rattle.dex_pools.specs.Spelled.{IsExtent}
use Rattle.dex_defs.specs.ClassDefs.{Def}
use Rattle.dex_defs.specs.Limits.{IsItem}
use Rattle.dex_defs.specs.Limits as limits
use Rattle.dex_defs.specs.Places.{HasDef}
use Rattle.dex_read.specs.declared.class_data.Members.{Members}
use Rattle.dex_read.specs.declared.class_defs.ClassDef.{ClassDef}
use Rattle.dex_read.specs.declared.fault.DexFault.{DexFault}
use Rattle.dex_read.specs.declared.members.Budget.{Budget}
use Rattle.dex_read.specs.Classes.{def_at, field_with, interfaces_at, methods_of, class_with, class_at}
use Rattle.dex_read.specs.Classes as classes
use Rattle.dex_read.specs.File.{head_at, class_in, table_at, classes_at}
use Rattle.dex_read.specs.Tables.{sizes_in}
use Rattle.file_laws.specs.Class.{def_of}
use Rattle.file_laws.proofs.Classes.{founds_def}
use Rattle.file_laws.proofs.Words.{finds_word, finds_need}
use Rattle.read_laws.proofs.Bounds.{AreBytes}
use Rattle.refused_law.proofs.Defs.{has_def}
use Rattle.refused_law.proofs.Failing.{Fails, sound, fails_next, fails_more}
use Rattle.refused_law.proofs.Read.{has_tables, class_there}
use Rattle.past_law.specs.Code.{OfCode, CellsOf, PassesBudget}
use Rattle.past_law.proofs.Budgets.{On, on_of, on_none, on_more, Spends, spends_none, plain_spends, AreBoth, spends_next, spends_after, spends_either, spends_run}
use Rattle.past_law.proofs.CodeClasses.{founds_code, fails_code}
use Rattle.past_law.proofs.Directories.{InDirectory, takes_marked}
use Rattle.past_law.proofs.Firsts.{InFirsts, takes_begun}
use Rattle.past_law.proofs.Members.{plain_def, plain_root, plain_listed}
use Rattle.past_law.proofs.Names.{sort_of, owner_of, class_in as class_of_owner}
use Rattle.past_law.proofs.Plain.{plain_dex_base, plain_need}
use Rattle.past_law.proofs.Tables.{takes_list}
use Rattle.past_law.proofs.Taking.{limit_of_dex, Plain, Takes, takes_none, takes_either, takes_raised, OneOf}

-- ---- names of the items of a class, by its parts

-- of these sorts
abbrev Within : ℕ → ℕ → ℕ → List ℕ → Type 0
Within class low high w = (low ≤ sort_of w) × (sort_of w ≤ high) × (class_of_owner (owner_of w) ≡ class)

-- of this sort or a later one
abbrev From : ℕ → ℕ → List ℕ → Type 0
From class low w = (low ≤ sort_of w) × (class_of_owner (owner_of w) ≡ class)

abbrev pub InClass : ℕ → List ℕ → Type 0
InClass class w = From class 1 w

not_below : (k n : ℕ) → n ≤ k → ltb k n ≡ false
not_below k n low = untrue (ltb k n) (λ e. let less = ltb-true k n e in omega (arith, low, less))

third : {X : Type 0} (a b : Bool) (x y z : X) → a ≡ false → b ≡ false → cond a x (cond b y z) ≡ z
third true b x y z e g = absurd cc
third false true x y z e g = absurd cc
third false false x y z e g = refl

fourth : {X : Type 0} (a b c : Bool) (x y z w : X) → a ≡ false → b ≡ false → c ≡ false → cond a x (cond b y (cond c z w)) ≡ w
fourth true b c x y z w e g h = absurd cc
fourth false b c x y z w e g h = third b c y z w g h

code_sort : (class : ℕ) (w : List ℕ) → OfCode class w → From class 6 w
code_sort class w h = let k = slice_index w 0 in let six = h.0 in
    let four : ltb k 4 ≡ false = not_below k 4 (omega (arith, six)) in
    let two : ltb k 2 ≡ false = not_below k 2 (omega (arith, six)) in
    let none : ltb k 6 ≡ false = not_below k 6 six in
    let is : sort_of w ≡ k = third (ltb k 4) (ltb k 6) k _ k four none in
    let owner : owner_of w ≡ slice_index w 1 ∷ [] = fourth (ltb k 2) (ltb k 4) (ltb k 6) _ _ _ (slice_index w 1 ∷ []) two four none in
    (omega (arith, six, is), ap class_of_owner owner ∙ h.1)

-- ---- its interfaces

positive_of : (n : ℕ) → eqb n 0 ≡ false → 0 < n
positive_of zero e = absurd cc
positive_of (suc n) e = omega arith

takes_interfaces : (bytes : List ℕ) (p : Program) (class : ℕ) (def : Def) → HasDef bytes class def → (left : ℕ)
    → Takes limit_of_dex Items (IsItem bytes) (Within class 1 1) left (λ (r : List ℕ × ℕ). r.1) (interfaces_at bytes p def.interfaces left)
unfolding interfaces_at
takes_interfaces bytes p class def has left = takes_either (λ e. takes_none left _ ([], left) (omega arith)) (λ e. takes_raised
    (takes_list bytes (λ j. 1 ∷ class ∷ j ∷ []) def.interfaces (sizes_in p).types (λ j k e. ap (λ (w : List ℕ). slice_index w 2) e) (Within class 1 1)
    (λ j w e. let is : sort_of w ≡ 1 = ap sort_of e in (omega (arith, is), omega (arith, is), ap (λ (w : List ℕ). class_of_owner (owner_of w)) e))
    (λ count j is_count low. limits.OfInterfaces class def.interfaces count j def has (positive_of def.interfaces e, refl) is_count low) left))

-- ---- the parts behind one another

directory_sort : (class : ℕ) (w : List ℕ) → InDirectory class w → Within class 2 3 w
directory_sort class w (inl e, c) = (omega (arith, e), omega (arith, e), c)
directory_sort class w (inr e, c) = (omega (arith, e), omega (arith, e), c)

firsts_sort : (class : ℕ) (w : List ℕ) → InFirsts class w → Within class 4 4 w
firsts_sort class w h = let is = h.0 in (omega (arith, is), omega (arith, is), ap class_of_owner h.1)

interfaces_both : (class : ℕ) → AreBoth (Within class 1 1) (From class 2) (InClass class)
interfaces_both class = record {
  apart = λ w a b. let high = a.1 in let low = b.0 in omega (arith, high, low);
  first = λ w a. (a.0, a.2);
  later = λ w b. (let low = b.0 in omega (arith, low), b.1);
}

code_both : (class : ℕ) → AreBoth (OfCode class) (Within class 2 4) (From class 2)
code_both class = record {
  apart = λ w a b. let low = (code_sort class w a).0 in let high = b.1 in omega (arith, low, high);
  first = λ w a. let c = code_sort class w a in let low = c.0 in (omega (arith, low), c.1);
  later = λ w b. (b.0, b.2);
}

cells_both : (class : ℕ) → AreBoth (CellsOf class) (λ w. ⊥) (CellsOf class)
cells_both class = record { apart = λ w a b. b; first = λ w a. a; later = λ w b. absurd b }

directory_both : (class : ℕ) → AreBoth (InDirectory class) (Within class 4 4) (Within class 2 4)
directory_both class = record {
  apart = λ w a b. let high = (directory_sort class w a).1 in let low = b.0 in omega (arith, high, low);
  first = λ w a. let d = directory_sort class w a in let high = d.1 in (d.0, omega (arith, high), d.2);
  later = λ w b. (let low = b.0 in omega (arith, low), b.1, b.2);
}

firsts_both : (class : ℕ) → AreBoth (InFirsts class) (λ w. ⊥) (Within class 4 4)
firsts_both class = record { apart = λ w a b. b; first = firsts_sort class; later = λ w b. absurd b }

module _ (bytes : List ℕ) (are : AreBytes bytes) (p : Program) (left : ℕ) (head : head_at bytes ≡ Ok (p, left)) (table : Extent) (stands : IsExtent bytes 96 32 table) (place : ℕ) (less : place < table.size) where
  abbrev at : ℕ
  at = table.offset + 32 * place

  has : (d : ClassDef) → def_at bytes p at ≡ Ok d → HasDef bytes place (def_of d)
  has d h = has_def bytes are p (has_tables bytes are p left head) place at (class_there bytes are p left head table stands place less) d ((founds_def bytes p at).found d h)

  spends_methods : (d : ClassDef) (h : def_at bytes p at ≡ Ok d) (m : Members) → classes.listed_at bytes p (record { place = place; kind = d.class }) d.data_at ≡ Ok m → (b : Budget)
      → Spends bytes (OfCode place) (CellsOf place) b (λ (r : List Method × Budget). r.1) (methods_of bytes p m b)
  spends_methods d h m g b = record {
    took = λ y e. (founds_code bytes are p left head table stands place less d h m g b).found y e;
    passed = λ e k. on_of (PassesBudget bytes (OfCode place) (CellsOf place) b) e ((fails_code bytes are p left head table stands place less d h m g b).fault e k);
  }

  pub spends_class : (b : Budget) → Spends bytes (InClass place) (CellsOf place) b (λ (r : Class × Budget). r.1) (class_at bytes p at place b)
  unfolding class_at
  spends_class b =
      plain_spends (plain_def bytes p at) (λ d h.
      spends_after b (λ (r : List ℕ × ℕ). r.1) (interfaces_both place) (takes_interfaces bytes p place (def_of d) (has d h) b.items) (λ interfaces _.
      plain_spends (plain_root p d interfaces.0 place) (λ root _.
      plain_spends (plain_listed bytes p (record { place = place; kind = d.class }) d.data_at) (λ m g.
      spends_next (code_both place) (cells_both place) (spends_methods d h m g (record { items = interfaces.1; cells = b.cells })) (λ methods _.
      spends_after methods.1 (λ r. r.left) (directory_both place) (takes_marked bytes p place (def_of d) (has d h) m (map field_with (m.statics ++ m.instances)) methods.0 methods.1.items) (λ marked _.
      spends_after (record { items = marked.left; cells = methods.1.cells }) (λ r. r.1) (firsts_both place)
      (takes_begun bytes p place d.static_values (length m.statics) marked.fields marked.left (λ some. record { def = def_of d; has = has d h; leads = (some, refl) })) (λ fields _.
      spends_none (record { items = fields.1; cells = methods.1.cells }) _ (class_with d interfaces.0 marked fields.0, record { items = fields.1; cells = methods.1.cells }) (omega arith) (omega arith))))))))

module _ (bytes : List ℕ) (are : AreBytes bytes) (p : Program) (left : ℕ) (head : head_at bytes ≡ Ok (p, left)) where
  -- a limit that the classes pass
  abbrev pub ClassesPass : Budget → LimitFault → Type 0
  ClassesPass b fault = (count : ℕ) × PassesBudget bytes (OneOf InClass 0 count) (OneOf CellsOf 0 count) b fault

  classes_apart : (i j : ℕ) (w : List ℕ) → InClass i w → InClass j w → i ≡ j
  classes_apart i j w a b = sym a.1 ∙ b.1

  cells_apart : (i j : ℕ) (w : List ℕ) → CellsOf i w → CellsOf j w → i ≡ j
  cells_apart i j w a b = sym a ∙ b

  spends_table : (count offset : ℕ) → Is32 bytes 96 count → Is32 bytes 100 offset → (b : Budget) → Spends bytes (OneOf InClass 0 count) (OneOf CellsOf 0 count) b (λ (r : List Class × Budget). r.1) (table_at bytes p count offset b)
  unfolding table_at
  spends_table count offset size begins b = spends_either (λ e. spends_none b _ ([], b) (omega arith) (omega arith)) (λ e.
      plain_spends (plain_need bytes offset (32 * count)) (λ u h.
      let inside : offset + 32 * count ≤ length bytes = (finds_need bytes offset (32 * count)).found u h in
      let table : Extent = record { size = count; offset = offset } in
      spends_run InClass CellsOf classes_apart cells_apart (class_in bytes p offset) count
      (λ i s less. spends_class bytes are p left head table (record { size = size; offset = begins; inside = λ _. inside }) i less s) 0 count b (omega arith)))

  plain_on : {Y : Type 0} (b : Budget) {read : Result Y DexFault} → Plain limit_of_dex read → Fails (λ e. On (ClassesPass b) (limit_of_dex e)) read
  plain_on b d = fails_more (λ e h. on_none (ClassesPass b) (limit_of_dex e) h) d

  fails_table : (count offset : ℕ) → Is32 bytes 96 count → Is32 bytes 100 offset → (b : Budget) → Fails (λ e. On (ClassesPass b) (limit_of_dex e)) (table_at bytes p count offset b)
  fails_table count offset size begins b = record {
    fault = λ e h. on_more (PassesBudget bytes (OneOf InClass 0 count) (OneOf CellsOf 0 count) b) (ClassesPass b) (limit_of_dex e) (λ fault more. (count, more)) ((spends_table count offset size begins b).passed e h);
  }

  pub fails_classes : (b : Budget) → Fails (λ e. On (ClassesPass b) (limit_of_dex e)) (classes_at bytes p b)
  unfolding classes_at
  fails_classes b =
      fails_next (plain_on b (plain_dex_base (u32_at bytes 96))) (λ count h0.
      fails_next (plain_on b (plain_dex_base (u32_at bytes 100))) (λ offset h1.
      fails_next (fails_table count offset ((finds_word bytes 96).found count h0) ((finds_word bytes 100).found offset h1) b) (λ classes _. sound classes.0)))
